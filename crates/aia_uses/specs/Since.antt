-- What happened in a history since the newest event of a kind: the words of `aia_laws` of what the
-- host was told since, told anew without them.
use Rattle.std.specs.Prelude.{◌≡◌, ◌⊎◌, ℕ, true, [], ◌∷◌}
use Rattle.aia_regs.specs.BitUpdate.BitUpdate.{Ask}
use Rattle.aia_vcpu.specs.Vms.{Vcpu}
use Rattle.aia_vcpu.specs.Home.{is_resident}
use Rattle.aia_model.specs.Move.WantedMove.{Leaves}
use Rattle.aia_model.specs.Event.{Event, History}
use Rattle.aia_model.specs.Event.Event.{Began}
use Rattle.aia_model.specs.HomeOf.{home}
use Rattle.aia_model.specs.FileAfter.{pending_said}
use Rattle.aia_model.specs.GuestFile.{guest_deed, guest_select, guest_file}

-- Something happened no earlier than the newest event that makes it count anew.
abbrev pub HappenedSince : (History → Event → Type 0) → (History → Event → Type 0) → History
    → Type 0
HappenedSince Happens IsAnew [] = ⊥
HappenedSince Happens IsAnew (event ∷ past) =
    Happens past event ⊎ ((¬ IsAnew past event) × HappenedSince Happens IsAnew past)

-- Something happened later than it.
abbrev pub HappenedAfter : (History → Event → Type 0) → (History → Event → Type 0) → History
    → Type 0
HappenedAfter Happens IsAnew [] = ⊥
HappenedAfter Happens IsAnew (event ∷ past) =
    (¬ IsAnew past event) × (Happens past event ⊎ HappenedAfter Happens IsAnew past)

-- The host is to be told anew of an identity of a virtual hart: its leave begins, or it is asked
-- for the identity.
abbrev pub IsToBeTold : Vcpu → ℕ → History → Event → Type 0
IsToBeTold g i past event =
    ((event ≡ Began (Leaves g)) × (is_resident (home past g) ≡ true))
    ⊎ (pending_said (guest_select past g) (guest_file past g) (guest_deed g past event) i ≡ Ask)
