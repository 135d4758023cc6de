-- A step that aims a passed source makes no access: the places hold the same file.
use Rattle.std.proofs.Common.{ℕ, Bool, Option}
use Rattle.aia_file.specs.InterruptFile.{InterruptFile}
use Rattle.aia_vcpu.specs.declared.place.GuestPlace.{GuestPlace}
use Rattle.aia_vcpu.specs.Home.{Home}
use Rattle.aia_vcpu.specs.Home.Home.{OnWay}
use Rattle.aia_vcpu.specs.Aims.{aimed}
use Rattle.aia_vcpu_places.specs.Places.{Places}
use Rattle.aia_vcpu_places.specs.Holds.{Hand, HoldsSets, HoldsNumbers, HoldsRoutes, Holds}

sets_aimed : (words : ℕ) (v : Places) (there : Home) (word : ℕ) (file : InterruptFile) → HoldsSets words v there word file
    → HoldsSets words v (aimed there) word file
sets_aimed words v (OnWay way at) word file s =
    record {
      union = s.union;
      drained = s.drained;
      fresh = s.fresh;
      old_enables = s.old_enables;
      carried_enables = s.carried_enables;
      new_enables = s.new_enables;
      spare = s.spare;
      past = s.past;
    }
sets_aimed words v there word file s = s

numbers_aimed : (words : ℕ) (v : Places) (there : Home) (hand : Hand) (file : InterruptFile) → HoldsNumbers words v there hand file
    → HoldsNumbers words v (aimed there) hand file
numbers_aimed words v (OnWay way at) hand file s =
    record {
      own_delivery = s.own_delivery;
      next_delivery = s.next_delivery;
      kept_delivery = s.kept_delivery;
      own_threshold = s.own_threshold;
      next_threshold = s.next_threshold;
      kept_threshold = s.kept_threshold;
    }
numbers_aimed words v there hand file s = s

routes_aimed : (q hart : ℕ) (reach : Option GuestPlace) (v : Places) (there : Home) → HoldsRoutes q hart reach v there
    → HoldsRoutes q hart reach v (aimed there)
routes_aimed q hart reach v (OnWay way at) s =
    record { word0 = s.word0; word1 = s.word1; in_force = s.in_force; may = s.may; stage = s.stage; stage_in_force = s.stage_in_force }
routes_aimed q hart reach v there s = s

pub aimed_kept : (words q hart : ℕ) (reach : Option GuestPlace) (v : Places) (there : Home) (hand : Hand) (file : InterruptFile) (saw : Bool)
    → Holds words q hart reach v there hand file saw → Holds words q hart reach v (aimed there) hand file saw
aimed_kept words q hart reach v (OnWay way at) hand file saw h =
    record {
      sets = sets_aimed words v (OnWay way at) hand.word file h.sets;
      numbers = numbers_aimed words v (OnWay way at) hand file h.numbers;
      routes = routes_aimed q hart reach v (OnWay way at) h.routes;
      looks = h.looks;
    }
aimed_kept words q hart reach v there hand file saw h = h
