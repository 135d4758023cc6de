-- What one access of a move's plan makes of the places of the virtual hart that is moved, and of
-- what the move carries. Vocabulary.
use Rattle.std.specs.Prelude.{◌≡◌, ℕ, ◌/◌, ◌%◌, Bool, not, ◌&&◌, ◌||◌, nat_eq, if◌then◌else◌}
use Rattle.aia_word.specs.Sets.{has_bit}
use Rattle.aia_regs.specs.declared.access.Op.TheVariants as ops
use Rattle.aia_regs.specs.declared.file_registers.FileReg.TheVariants.{Delivery, Threshold}
use Rattle.aia_file.specs.InterruptFile.{InterruptFile, accessed, empty_file}
use Rattle.aia_entry.specs.Format.{decoded}
use Rattle.aia_vcpu.specs.declared.end.End.{End}
use Rattle.aia_vcpu.specs.Home.{Home, old_end, new_end}
use Rattle.aia_vcpu.specs.Home.Home.{OnWay}
use Rattle.aia_vcpu.specs.declared.end.End.TheVariants.{File, Memory}
use Rattle.aia_vcpu.specs.BySteps.{new_file}
use Rattle.aia_vcpu.specs.declared.access.Access.{Access}
use Rattle.aia_vcpu.specs.declared.access.Access.TheVariants.{TakeDelivery, PutDelivery, WriteNotice, WriteEntry, Fence, Map, GFence, TakePending, PutPending, TakeEnables, PutEnables, Look, TakeThreshold, PutThreshold, Post}
use Rattle.aia_vcpu_places.specs.Places.{Places, TwoSets, old_place, new_place, entry_word, second_word}
use Rattle.aia_vcpu_places.specs.Holds.{Hand, meets}

-- ---- a place with other sets

-- A file with other sets.
abbrev pub with_file_sets : InterruptFile → TwoSets → InterruptFile
with_file_sets file sets = record file { pending = sets.pending; enabled = sets.enabled }

-- The places with other sets in the slot.
abbrev pub with_slot_sets : Places → TwoSets → Places
with_slot_sets v sets =
    record v { slot = record { pending = sets.pending; enabled = sets.enabled } }

-- The old end of a move with other sets, and the new end.
abbrev pub with_old_sets : End → Places → TwoSets → Places
with_old_sets File v sets = record v { own = with_file_sets v.own sets }
with_old_sets Memory v sets = with_slot_sets v sets

abbrev pub with_new_sets : End → End → Places → TwoSets → Places
with_new_sets from Memory v sets = with_slot_sets v sets
with_new_sets Memory File v sets = record v { own = with_file_sets v.own sets }
with_new_sets File File v sets = record v { next = with_file_sets v.next sets }

-- The old place, and the new place, of a move with other sets.
abbrev pub with_old : Home → Places → TwoSets → Places
with_old (OnWay way at) v sets = with_old_sets (old_end way) v sets
with_old there v sets = record v { own = with_file_sets v.own sets }

abbrev pub with_new : Home → Places → TwoSets → Places
with_new (OnWay way at) v sets = with_new_sets (old_end way) (new_end way) v sets
with_new there v sets = v

-- The new file of a move as an access leaves it, where there is one.
abbrev pub with_end_file : End → End → Places → (InterruptFile → InterruptFile) → Places
with_end_file File File v after = record v { next = after v.next }
with_end_file from to v after = record v { own = after v.own }

abbrev pub with_new_file : Home → Places → (InterruptFile → InterruptFile) → Places
with_new_file (OnWay way at) v after = with_end_file (old_end way) (new_end way) v after
with_new_file there v after = record v { own = after v.own }

-- ---- the access

-- A set without its word w; one in which the identities that a word shows are joined to its word w;
-- one whose word w is that word.
abbrev pub without_word : ℕ → (ℕ → Bool) → ℕ → Bool
without_word w set i = not (nat_eq (i / 64) w) && set i

abbrev pub joined_by : ℕ → ℕ → (ℕ → Bool) → ℕ → Bool
joined_by w word set i = if nat_eq (i / 64) w then (set i || has_bit word (i % 64)) else set i

abbrev pub replaced_by : ℕ → ℕ → (ℕ → Bool) → ℕ → Bool
replaced_by w word set i = if nat_eq (i / 64) w then has_bit word (i % 64) else set i

-- What an access makes of the places, of the virtual hart of slot q, whose notices go to a hart. A
-- fence puts in force what the words say.
abbrev pub places_after : ℕ → ℕ → Access → Home → Places → Hand → Places
places_after q hart TakeDelivery there v hand =
    record v { own = accessed Delivery (ops.Write 0) v.own }
places_after q hart PutDelivery there v hand =
    with_new_file there v (accessed Delivery (ops.Write hand.delivery))
places_after q hart WriteNotice there v hand = record v { word1 = second_word q hart }
places_after q hart WriteEntry there v hand = record v { word0 = entry_word q (new_file there) }
places_after q hart Fence there v hand = record v { in_force = decoded v.word0 v.word1 }
places_after q hart Map there v hand = record v { stage = new_file there }
places_after q hart GFence there v hand = record v { stage_in_force = v.stage }
places_after q hart (TakePending w) there v hand = with_old there v
    (record (old_place v there) { pending = without_word w (old_place v there).pending })
places_after q hart (PutPending w) there v hand = with_new there v
    (record (new_place v there) { pending = joined_by w hand.word (new_place v there).pending })
places_after q hart (TakeEnables w) there v hand = with_old there v
    (record (old_place v there) { enabled = without_word w (old_place v there).enabled })
places_after q hart (PutEnables w) there v hand = with_new there v
    (record (new_place v there) { enabled = replaced_by w hand.word (new_place v there).enabled })
places_after q hart (Look w) there v hand = v
places_after q hart TakeThreshold there v hand =
    record v { own = accessed Threshold (ops.Write 0) v.own }
places_after q hart PutThreshold there v hand =
    with_new_file there v (accessed Threshold (ops.Write hand.threshold))
places_after q hart Post there v hand = v

-- A word shows word w of a set.
abbrev pub Shows : ℕ → ℕ → (ℕ → Bool) → Type 0
Shows word w set = (i : ℕ) → i / 64 ≡ w → has_bit word (i % 64) ≡ set i

-- What an access makes of what is carried. A look sees words p and e that show word w of the slot's
-- sets.
abbrev pub CarriedAfter : Access → Home → Places → Hand → Hand → Type 0
CarriedAfter TakeDelivery there v hand now = now ≡ record hand { delivery = v.own.delivery }
CarriedAfter (TakePending w) there v hand now =
    Shows now.word w (old_place v there).pending × (now ≡ record hand { word = now.word })
CarriedAfter (TakeEnables w) there v hand now =
    Shows now.word w (old_place v there).enabled × (now ≡ record hand { word = now.word })
CarriedAfter (Look w) there v hand now = (p : ℕ) × (e : ℕ)
    × Shows p w v.slot.pending × Shows e w v.slot.enabled
    × (now ≡ record hand { seen = hand.seen || meets p e })
CarriedAfter TakeThreshold there v hand now = now ≡ record hand { threshold = v.own.threshold }
CarriedAfter access there v hand now = now ≡ hand

-- A step of the move makes an access, of the places and of what is carried.
pub record StepMade (q hart : ℕ) (access : Access) (there : Home) (v : Places) (hand : Hand)
    (u : Places) (now : Hand) : Type 0 where
  pub places : u ≡ places_after q hart access there v hand
  pub carried : CarriedAfter access there v hand now

-- ---- a move ends

-- The places of a virtual hart whose move has ended: the file that it left is its own no more.
abbrev pub given_back : ℕ → End → End → Places → Places
given_back n Memory to v = v
given_back n File Memory v = record v { own = empty_file n }
given_back n File File v = record v { own = v.next; next = empty_file n }

abbrev pub places_ended : ℕ → Home → Places → Places
places_ended n (OnWay way at) v = given_back n (old_end way) (new_end way) v
places_ended n there v = v
