-- What a step of a plan makes of the fabric as it is rehearsed, and what is carried then: one
-- access, and all else stays. And which access of a move it is.
use Rattle.std.specs.Prelude.{◌≡◌, ℕ, ◌+◌, ◌<◌, ◌||◌, nat_eq, bit_and, bit_or, if◌then◌else◌, Option, Some, None}
use Rattle.std.specs.Int.{bit_not, w64}
use Rattle.aia_plan.specs.declared.step.Step.{Step}
use Rattle.aia_plan.specs.declared.step.Step.TheVariants.{Quiet, Word1, Word0, Fence, Map, Unmap, Remap, GFence, TakeP, PutP, TakeE, PutE, Look, TakeT, PutT, Post, Wake}
use Rattle.aia_plan.specs.Transit.TransitSide.{Old, New}
use Rattle.aia_regs.specs.declared.file_registers.FileReg.{FileReg}
use Rattle.aia_regs.specs.declared.file_registers.FileReg.TheVariants.{Delivery, Threshold}
use Rattle.aia_file.specs.Imsic.{file_at}
use Rattle.aia_vcpu.specs.declared.access.Access.{Access}
use Rattle.aia_vcpu.specs.declared.access.Access.TheVariants as accesses
use Rattle.aia_vcpu_places.specs.Places.{entry_word, second_word}
use Rattle.aia_vcpu_places.specs.Holds.{Hand, meets}
use Rattle.aia_fabric_values.specs.declared.at.At.TheVariants as ats
use Rattle.aia_fabric_values.specs.World.{World}
use Rattle.aia_fabric_values.specs.Flights.{Fences}
use Rattle.aia_fabric_values.specs.Changes.{PutsRegister, spot_of, pending_words, enable_words, pending_at, with_pending, enable_at, with_enable, with_entry_word, with_map, with_gfence}
use Rattle.aia_move_values.specs.Move.{PostsIf}
use Rattle.aia_rehearsal.specs.declared.place.Place as ends
use Rattle.aia_rehearsal.specs.declared.place.Place.TheVariants.{File, Slot}
use Rattle.aia_rehearsal.specs.Rehearsed.{Passage, Carried, Rehearsed, mover_of, at, names_on}

-- The bits of a word that belong to identities: bit 0 of the first word belongs to none.
abbrev pub identities_in : ℕ → ℕ → ℕ
identities_in k bits = if nat_eq k 0 then bit_and bits (bit_not w64 1) else bits

-- A value is written to a register of a place that is a file; a slot has none.
abbrev pub Puts : World → World → ends.Place → FileReg → ℕ → Type 0
Puts w u (File p) reg v = PutsRegister w u (spot_of p) reg v
Puts w u Slot reg v = u ≡ w

-- The access of a step. A step that writes the record does so whatever its name: it names the new
-- place. A look reads the slot, and a post sends the notice where a look saw reason to.
abbrev pub Makes : Step → Rehearsed → World → World → Type 0
Makes Quiet r w u = Puts w u r.passage.old Delivery 0
Makes Word1 r w u = u ≡ with_entry_word w r.passage.who.found.vm r.passage.who.found.vcpu 1
    (second_word r.passage.who.found.slot r.passage.who.found.notice)
Makes Word0 r w u = u ≡ with_entry_word w r.passage.who.found.vm r.passage.who.found.vcpu 0
    (entry_word r.passage.who.found.slot (names_on New r.passage))
Makes Fence r w u = Fences w u r.passage.who.found.vm r.passage.who.found.vcpu
Makes Map r w u = u ≡ with_map w (mover_of r.passage) (names_on New r.passage)
Makes Unmap r w u = u ≡ with_map w (mover_of r.passage) (names_on New r.passage)
Makes Remap r w u = u ≡ with_map w (mover_of r.passage) (names_on New r.passage)
Makes GFence r w u = u ≡ with_gfence w (mover_of r.passage)
Makes (TakeP k) r w u =
    (k < pending_words w (at Old r.passage)) × (u ≡ with_pending w (at Old r.passage) k 0)
Makes (PutP k) r w u = (k < pending_words w (at New r.passage))
    × (u ≡ with_pending w (at New r.passage) k
    (bit_or (pending_at w (at New r.passage) k) (identities_in k r.hand.pending)))
Makes (TakeE k) r w u =
    (k < enable_words w (at Old r.passage)) × (u ≡ with_enable w (at Old r.passage) k 0)
Makes (PutE k) r w u = (k < enable_words w (at New r.passage))
    × (u ≡ with_enable w (at New r.passage) k (identities_in k r.hand.enables))
Makes (Look k) r w u = u ≡ w
Makes TakeT r w u = Puts w u r.passage.old Threshold 0
Makes PutT r w u = Puts w u r.passage.new Threshold r.hand.threshold
Makes Post r w u = PostsIf r.hand.seen w u r.passage.who.found.notice (r.passage.who.found.slot + 1)
Makes Wake r w u = Puts w u r.passage.new Delivery r.hand.delivery

-- What a register of a place that is a file reads; of a slot what is carried stays.
abbrev pub delivery_taken : World → ends.Place → ℕ → ℕ
delivery_taken w (File p) was = (file_at w.imsic (spot_of p)).delivery
delivery_taken w Slot was = was

abbrev pub threshold_taken : World → ends.Place → ℕ → ℕ
threshold_taken w (File p) was = (file_at w.imsic (spot_of p)).threshold
threshold_taken w Slot was = was

-- What is carried after it.
abbrev pub hand_after : Step → Rehearsed → World → Carried
hand_after Quiet r w =
    record r.hand { delivery = delivery_taken w r.passage.old r.hand.delivery }
hand_after (TakeP k) r w = record r.hand { pending = pending_at w (at Old r.passage) k }
hand_after (PutP k) r w = record r.hand { pending = 0 }
hand_after (TakeE k) r w = record r.hand { enables = enable_at w (at Old r.passage) k }
hand_after (PutE k) r w = record r.hand { enables = 0 }
hand_after (Look k) r w = record r.hand {
  seen = r.hand.seen
      || meets (pending_at w (ats.Slot r.passage.who.found.slot) k)
      (enable_at w (ats.Slot r.passage.who.found.slot) k);
}
hand_after TakeT r w =
    record r.hand { threshold = threshold_taken w r.passage.old r.hand.threshold }
hand_after step r w = r.hand

abbrev pub after : Step → Rehearsed → World → Rehearsed
after step r w = record r { hand = hand_after step r w }

-- ---- a step as an access of a move

-- An access of a number of a place; a slot has no numbers, and none is made there.
abbrev pub number_at : ends.Place → Access → Option Access
number_at (File p) access = Some access
number_at Slot access = None

-- The access that a step makes, if it makes one. A step that writes the record does so whatever its
-- name.
abbrev pub access_made : Step → Passage → Option Access
access_made Quiet p = number_at p.old accesses.TakeDelivery
access_made Word1 p = Some accesses.WriteNotice
access_made Word0 p = Some accesses.WriteEntry
access_made Fence p = Some accesses.Fence
access_made Map p = Some accesses.Map
access_made Unmap p = Some accesses.Map
access_made Remap p = Some accesses.Map
access_made GFence p = Some accesses.GFence
access_made (TakeP k) p = Some (accesses.TakePending k)
access_made (PutP k) p = Some (accesses.PutPending k)
access_made (TakeE k) p = Some (accesses.TakeEnables k)
access_made (PutE k) p = Some (accesses.PutEnables k)
access_made (Look k) p = Some (accesses.Look k)
access_made TakeT p = number_at p.old accesses.TakeThreshold
access_made PutT p = number_at p.new accesses.PutThreshold
access_made Post p = Some accesses.Post
access_made Wake p = number_at p.new accesses.PutDelivery

-- The word that an access puts: the one of its set that is carried, with only its identities.
abbrev pub word_put : Access → Carried → ℕ
word_put (accesses.PutPending k) carried = identities_in k carried.pending
word_put (accesses.PutEnables k) carried = identities_in k carried.enables
word_put access carried = 0

-- What an access has in the hand, of what is carried.
abbrev pub hand_for : Access → Carried → Hand
hand_for access carried = record {
  word = word_put access carried;
  delivery = carried.delivery;
  threshold = carried.threshold;
  seen = carried.seen;
}

-- The word of each set that is carried after an access, by the word in the hand: the one that was
-- taken, and nothing of a set once it was put.
abbrev pub pending_after : Access → ℕ → ℕ → ℕ
pending_after (accesses.TakePending k) word was = word
pending_after (accesses.PutPending k) word was = 0
pending_after access word was = was

abbrev pub enables_after : Access → ℕ → ℕ → ℕ
enables_after (accesses.TakeEnables k) word was = word
enables_after (accesses.PutEnables k) word was = 0
enables_after access word was = was

-- What is carried after an access, by what is in the hand then.
abbrev pub carried_after : Access → Hand → Carried → Carried
carried_after access hand was = record {
  pending = pending_after access hand.word was.pending;
  enables = enables_after access hand.word was.enables;
  delivery = hand.delivery;
  threshold = hand.threshold;
  seen = hand.seen;
}
