-- Places of a virtual hart whose interrupts rest in memory: they hold a file however it rests, and
-- its slot may be changed as its file is.
use Rattle.std.proofs.Common.{◌≡◌, ℕ, Bool, true, Option, refl, sym, ◌∙◌}
use Rattle.aia_file.specs.InterruptFile.{InterruptFile}
use Rattle.aia_file.specs.Mrif.{Mrif}
use Rattle.aia_vcpu.specs.declared.place.GuestPlace.{GuestPlace}
use Rattle.aia_vcpu.specs.declared.rest.Rest.{Rest}
use Rattle.aia_vcpu.specs.Home.{Home, rests_in_memory}
use Rattle.aia_vcpu.specs.Home.Home.{InMemory}
use Rattle.aia_vcpu_places.specs.Places.{Places}
use Rattle.aia_vcpu_places.specs.Holds.{IsWithin, Hand, Holds, HasSets}
use Rattle.aia_vcpu_places.proofs.FileLemmas.{memory-pending, memory-enabled}
use Rattle.aia_vcpu_places.proofs.StayLemmas.{or_false}

-- however it rests
pub rest-holds : (words q hart : ℕ) (reach : Option GuestPlace) (v : Places) (hand : Hand) (file : InterruptFile) (saw : Bool) (rest other : Rest)
    → Holds words q hart reach v (InMemory rest) hand file saw → Holds words q hart reach v (InMemory other) hand file saw
rest-holds words q hart reach v hand file saw rest other h = record {
  sets = record {
    union = h.sets.union;
    drained = h.sets.drained;
    fresh = h.sets.fresh;
    old_enables = h.sets.old_enables;
    carried_enables =
        h.sets.carried_enables;
    new_enables = h.sets.new_enables;
    spare = h.sets.spare;
    past = h.sets.past;
  };
  numbers = record {
    own_delivery = h.numbers.own_delivery;
    next_delivery = h.numbers.next_delivery;
    kept_delivery = h.numbers.kept_delivery;
    own_threshold = h.numbers.own_threshold;
    next_threshold = h.numbers.next_threshold;
    kept_threshold = h.numbers.kept_threshold;
  };
  routes = record {
    word0 = h.routes.word0;
    word1 = h.routes.word1;
    in_force = h.routes.in_force;
    may = h.routes.may;
    stage = h.routes.stage;
    stage_in_force = h.routes.stage_in_force;
  };
  looks = h.looks;
}

pub memory_replaced : (words q hart : ℕ) (reach : Option GuestPlace) (v : Places) (hand : Hand) (file : InterruptFile) (saw : Bool) (there : Home)
    → rests_in_memory there ≡ true
    → (slot : Mrif) (now : Hand) (after : InterruptFile) → HasSets words slot after → now.delivery ≡ after.delivery → now.threshold ≡ after.threshold
    → Holds words q hart reach v there hand file saw → Holds words q hart reach (record v { slot = slot }) there now after saw
memory_replaced words q hart reach v hand file saw (InMemory rest) rests slot now after has delivery threshold h = record {
  sets = record {
    union = λ i l. sym (or_false (slot.pending i) ∙ (has.inside i l).0);
    drained = λ i l. refl;
    fresh = λ z i l. refl;
    old_enables = λ i l. (has.inside i l).1;
    carried_enables = λ i l. refl;
    new_enables = λ i l. refl;
    spare = h.sets.spare;
    past = λ i g. ((h.sets.past i g).0, (h.sets.past i g).1, (h.sets.past i g).2, (h.sets.past i g).3, has.above i g);
  };
  numbers = record {
    own_delivery = h.numbers.own_delivery;
    next_delivery = h.numbers.next_delivery;
    kept_delivery = λ z. delivery;
    own_threshold = h.numbers.own_threshold;
    next_threshold = h.numbers.next_threshold;
    kept_threshold = λ z. threshold;
  };
  routes = record {
    word0 = h.routes.word0;
    word1 = h.routes.word1;
    in_force = h.routes.in_force;
    may = h.routes.may;
    stage = h.routes.stage;
    stage_in_force = h.routes.stage_in_force;
  };
  looks = refl;
}
memory_replaced words q hart reach v hand file saw there rests slot now after has delivery threshold h = absurd (cc)

-- ---- what its slot and what is kept beside it show

pub memory_has : (n words q hart : ℕ) (reach : Option GuestPlace) (v : Places) (hand : Hand) (file : InterruptFile) (saw : Bool) (there : Home)
    → rests_in_memory there ≡ true
    → IsWithin n words file → Holds words q hart reach v there hand file saw → HasSets words v.slot file
memory_has n words q hart reach v hand file saw there rests within h = record {
  inside = λ i l. (
    memory-pending n words q hart reach v hand file saw there rests h i l,
    memory-enabled n words q hart reach v hand file saw there rests h within i,
  );
  above = λ i g. (h.sets.past i g).4;
}

pub memory_kept : (words q hart : ℕ) (reach : Option GuestPlace) (v : Places) (hand : Hand) (file : InterruptFile) (saw : Bool) (there : Home)
    → rests_in_memory there ≡ true
    → Holds words q hart reach v there hand file saw → (hand.delivery ≡ file.delivery) × (hand.threshold ≡ file.threshold)
memory_kept words q hart reach v hand file saw (InMemory rest) rests h = (h.numbers.kept_delivery refl, h.numbers.kept_threshold refl)
memory_kept words q hart reach v hand file saw there rests h = absurd (cc)
