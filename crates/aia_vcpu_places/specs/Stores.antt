-- What a store makes of the places of a virtual hart, by where it goes.
use Rattle.std.specs.Prelude.{◌≡◌, ℕ, false, if◌then◌else◌, Option, Some, None}
use Rattle.aia_file.specs.InterruptFile.{landed}
use Rattle.aia_file.specs.Mrif.{after_store}
use Rattle.aia_vcpu.specs.declared.place.GuestPlace.{GuestPlace}
use Rattle.aia_vcpu.specs.Home.{Way, Home, is_place}
use Rattle.aia_vcpu.specs.Home.Home.{OnWay}
use Rattle.aia_vcpu.specs.Home.Way.{Across}
use Rattle.aia_vcpu_places.specs.Places.{Places}

-- A 32-bit store of a value at an offset lands in one of its guest files, or in its slot of memory.
abbrev pub places_landed : Option GuestPlace → Home → ℕ → ℕ → Places → Places
places_landed None there offset value v = record v { slot = after_store offset value v.slot }
places_landed (Some p) (OnWay (Across from to) at) offset value v =
    if is_place p to then record v { next = landed offset value v.next }
    else record v { own = landed offset value v.own }
places_landed (Some p) there offset value v = record v { own = landed offset value v.own }

-- The files of a shift are two.
abbrev pub HasApart : Way → Type 0
HasApart (Across from to) = is_place from to ≡ false
HasApart way = Unit {0}

abbrev pub AreApart : Home → Type 0
AreApart (OnWay way at) = HasApart way
AreApart there = Unit {0}
