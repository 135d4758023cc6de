-- What a table of flags, kept from step to step, says of the steps that are done: of each the same
-- as the rules do. Profile.
use Rattle.std.specs.Prelude.{◌≡◌, ℕ, ◌<◌, length, Bool, true, false, not, ◌&&◌, ◌||◌, List, ◌∷◌, Option, Some, None, slice_get, option_map}
use Rattle.std.specs.List.{list_any}
use Rattle.plans_rules.specs.declared.step.WhichSet.{WhichSet}
use Rattle.plans_rules.specs.declared.step.WhichSet.TheVariants.{Pending, Enabled}
use Rattle.plans_rules.specs.declared.step.Number.{Number}
use Rattle.plans_rules.specs.declared.step.Number.TheVariants.{Threshold, Delivery}
use Rattle.plans_rules.specs.declared.step.AnyPlace.TheVariants.{Old, New}
use Rattle.plans_rules.specs.declared.step.AnyStep.{AnyStep}
use Rattle.plans_rules.specs.declared.step.AnyStep.TheVariants.{ZeroNumber, TakeNumber, CopyNumber, PutNumber}
use Rattle.plans_rules.specs.declared.setting.RouteKind.{RouteKind}
use Rattle.plans_rules.specs.declared.setting.RouteKind.TheVariants.{Routed, Switched}
use Rattle.plans_rules.specs.declared.setting.NumberSpot.{NumberSpot}
use Rattle.plans_rules.specs.declared.setting.NumberSpot.TheVariants.{InOld, InHand, InNew}
use Rattle.plans_rules.specs.Setting.{Setting, setting_of, same_number, same_spot}
use Rattle.plans_rules.specs.Rules.{turns, fences, switches, pauses, resumes, empties, lifts, fills, blanks, frees, looks, posts, tells, untells, Done, is_turned, is_fenced, is_paused, is_drained, is_still, is_reached, any_of_two, brought, alone_by, may_stand, is_blank, was_shut, has_number, are_heeded, is_noticed, is_seen, is_looked, is_reported}
use Rattle.plans_judge.specs.declared.lead.Lead.{Lead}
use Rattle.plans_judge.specs.declared.standing.Standing.{Standing}
use Rattle.plans_judge.specs.declared.table.Table.{Table}
use Rattle.plans_judge.specs.declared.spots.Spots.{Spots}
use Rattle.plans_judge.specs.declared.word.Flags.{Flags}
use Rattle.plans_judge.specs.declared.word.Word.{Word}
use Rattle.plans_judge.specs.declared.word.World.{World}

-- Each element of a list is made of the one in its place, by its place.
abbrev pub AllAfter : {A : Type 0} → (ℕ → A → A) → List A → List A → Type 0
AllAfter after old new =
    (length new ≡ length old)
    × ((k : ℕ) → slice_get new k ≡ option_map (after k) (slice_get old k))

-- ---- a producer

-- Whether producer p is paused after a step, by what is kept of it.
abbrev pub paused_after : AnyStep → ℕ → Lead → Bool
paused_after x p lead = pauses p x || (not (resumes p x) && lead.paused)

-- Whether its route is in force after a step, with none of its stores in flight to the old place.
abbrev pub drained_after : AnyStep → ℕ → Lead → Bool
drained_after x p lead =
    (fences p x && lead.turned)
    || ((pauses p x && (lead.fenced || lead.switched))
    || ((switches p x && lead.paused) || lead.drained))

-- What a step makes of what is kept of producer p.
abbrev pub lead_after : AnyStep → ℕ → Lead → Lead
lead_after x p lead = record {
  kind = lead.kind;
  turned = turns p x || lead.turned;
  fenced = elim (fences p x) [ true ↦ lead.turned || lead.fenced | false ↦ lead.fenced ];
  switched = switches p x || lead.switched;
  paused = paused_after x p lead;
  drained = drained_after x p lead;
}

-- What is kept of a producer of a kind before the first step.
abbrev pub lead_first : RouteKind → Lead
lead_first kind = record {
  kind = kind;
  turned = false;
  fenced = false;
  switched = false;
  paused = false;
  drained = false;
}

-- Whether all that the producer stores from now on goes to the new place, by what is kept of it.
abbrev pub led_by : Lead → Bool
led_by lead = elim lead.kind [
  | Routed ↦ lead.drained
  | Switched ↦ lead.fenced || lead.switched
]

-- Whether it stores nothing into the old place; whether it may store into the new one.
abbrev pub calm_by : Lead → Bool
calm_by lead = led_by lead || lead.paused

abbrev pub reaching_by : Lead → Bool
reaching_by lead = lead.turned && not lead.paused

-- Whether all that the producer in a place of the list stores from now on goes to the new place.
abbrev pub is_led_at : List Lead → ℕ → Bool
is_led_at leads p = elim (slice_get leads p) [ None ↦ false | Some lead ↦ led_by lead ]

-- Whether the producer in a place of the list stores nothing into the old place; whether it may
-- store into the new one.
abbrev pub is_calm_at : List Lead → ℕ → Bool
is_calm_at leads p = elim (slice_get leads p) [ None ↦ false | Some lead ↦ calm_by lead ]

abbrev pub is_reaching_at : List Lead → ℕ → Bool
is_reaching_at leads p = elim (slice_get leads p) [ None ↦ false | Some lead ↦ reaching_by lead ]

-- Whether it is led, if the list has such a producer.
abbrev pub led_if_any : Option Lead → Bool
led_if_any o = elim o [ None ↦ true | Some lead ↦ led_by lead ]

-- What the rules say of producer p after the steps that are done.
abbrev pub lead_at : Done → ℕ → RouteKind → Lead
lead_at done p kind = record {
  kind = kind;
  turned = is_turned p done;
  fenced = is_fenced p done;
  switched = list_any (switches p) done;
  paused = is_paused p done;
  drained = is_drained p done;
}

-- ---- a word

-- Whether an identity that is due may stand in just these places: the old one, the hand, the new
-- one; by what is kept of it.
abbrev pub may_by : Spots → Bool → Bool → Bool → Bool
may_by spots true true true = spots.old_hand_new
may_by spots true true false = spots.old_hand
may_by spots true false true = spots.old_new
may_by spots true false false = spots.old
may_by spots false true true = spots.hand_new
may_by spots false true false = spots.hand
may_by spots false false true = spots.new
may_by spots false false false = spots.nowhere

-- What is kept of where one may stand.
abbrev pub spots_of : (Bool → Bool → Bool → Bool) → Spots
spots_of stands = record {
  nowhere = stands false false false;
  new = stands false false true;
  hand = stands false true false;
  hand_new = stands false true true;
  old = stands true false false;
  old_new = stands true false true;
  old_hand = stands true true false;
  old_hand_new = stands true true true;
}

-- Whether one may stand in the old place, wherever else.
abbrev pub spots_any_old : Spots → Bool
spots_any_old spots = any_of_two (λ h n. may_by spots true h n)

-- Whether all of a word of a set that is due stands in the new place.
abbrev pub flags_there : Flags → Bool
flags_there flags = not (flags.spots.old || (flags.spots.hand || flags.spots.old_hand))

-- Where one may stand, once a step empties, lifts, fills or blanks the word, and once nobody stores
-- into the old place (still), or somebody may into the new one (reached).
abbrev pub spots_after : Bool → Bool → Bool → Bool → Bool → Bool → Spots → Spots
spots_after e l f z still reached spots =
    spots_of (λ o h n. brought e l f z (may_by spots) o h n || alone_by still reached o h n)

-- What a step makes of the flags of word w of set s, given who stores into that set of the two
-- places after it.
abbrev pub flags_after : WhichSet → Bool → Bool → AnyStep → ℕ → Flags → Flags
flags_after s still reached x w flags = record {
  spots = spots_after (empties s w x) (lifts s w x) (fills s w x) (blanks s w x) still reached
      flags.spots;
  blank = blanks s w x || flags.blank;
}

-- The flags of a word of a set before the first step, given whether the new place is fresh.
abbrev pub flags_first : Bool → Flags
flags_first is_fresh = record {
  spots = spots_of (λ o h n. o && (not h && not n));
  blank = is_fresh;
}

-- What is kept of a word before the first step.
abbrev pub word_first : Bool → Word
word_first is_fresh = record {
  pending = flags_first is_fresh;
  enabled = flags_first is_fresh;
  seen = false;
  looked = false;
  reported = false;
}

-- Whether all of a word of both sets stands in the new place, and the move is ready for notices.
abbrev pub word_settled : Bool → Flags → Flags → Bool
word_settled ready pending enabled = flags_there pending && (flags_there enabled && ready)

-- Whether a word was looked at, is settled since, and nobody may have stored into it since, with
-- one step more.
abbrev pub seen_after : Bool → Bool → AnyStep → ℕ → Word → Bool
seen_after settled reached x w word = (looks w x || word.seen) && (settled && not reached)

-- Whether it was looked at before a step that may take back what was told.
abbrev pub looked_by : AnyStep → Word → Bool
looked_by x word = elim (untells x) [ true ↦ word.seen | false ↦ word.looked ]

-- Whether it was looked at, and is settled since, with one step more.
abbrev pub looked_after : Bool → AnyStep → ℕ → Word → Bool
looked_after settled x w word = (looks w x || looked_by x word) && settled

-- Whether it was told of by a step, or before it and that is not taken back.
abbrev pub told_by : AnyStep → Word → Bool
told_by x word = elim (untells x) [
  | true ↦ word.reported && word.seen
  | false ↦ (posts x && word.looked) || (tells x || word.reported)
]

-- Whether it was told of, or posted after such a look, and is settled since, with one step more.
abbrev pub reported_after : Bool → AnyStep → Word → Bool
reported_after settled x word = told_by x word && settled

-- The flags of the pending word after a step, and those of the enables.
abbrev pub pending_after : World → AnyStep → ℕ → Word → Flags
pending_after world x w word = flags_after Pending world.still world.reached x w word.pending

abbrev pub enabled_after : AnyStep → ℕ → Word → Flags
enabled_after x w word = flags_after Enabled true false x w word.enabled

-- Whether the word is settled after a step.
abbrev pub settled_after : World → AnyStep → ℕ → Word → Bool
settled_after world x w word =
    word_settled world.ready (pending_after world x w word) (enabled_after x w word)

-- What a step makes of all that is kept of word w.
abbrev pub word_after : World → AnyStep → ℕ → Word → Word
word_after world x w word = record {
  pending = pending_after world x w word;
  enabled = enabled_after x w word;
  seen = seen_after (settled_after world x w word) world.reached x w word;
  looked = looked_after (settled_after world x w word) x w word;
  reported = reported_after (settled_after world x w word) x word;
}

-- Whether the word in a place of the list passes what an end asks of it: nothing due of its pending
-- bits may stand in the old place.
abbrev pub is_taken_at : List Word → ℕ → Bool
is_taken_at words w = elim (slice_get words w) [
  | None ↦ false
  | Some word ↦ not (spots_any_old word.pending.spots)
]

-- Whether the word in a place of the list passes what an end asks of what was lifted: nothing due
-- may stand only in the hand, and none of its enables in the old place.
abbrev pub is_kept_at : List Word → ℕ → Bool
is_kept_at words w = elim (slice_get words w) [
  | None ↦ false
  | Some word ↦ not word.pending.spots.hand
      && (not (spots_any_old word.enabled.spots) && not word.enabled.spots.hand)
]

-- Whether the word in a place of the list is blank in the new place.
abbrev pub is_blank_at : List Word → ℕ → Bool
is_blank_at words w = elim (slice_get words w) [
  | None ↦ false
  | Some word ↦ word.pending.blank && word.enabled.blank
]

-- Whether the word in a place of the list was reported.
abbrev pub is_reported_at : List Word → ℕ → Bool
is_reported_at words w = elim (slice_get words w) [
  | None ↦ false
  | Some word ↦ word.reported
]

-- What the rules say of word w of set s after the steps that are done.
abbrev pub flags_at : Setting → Done → WhichSet → ℕ → Flags
flags_at d done s w = record {
  spots = spots_of (may_stand d s w done);
  blank = is_blank d s w done;
}

-- What they say of word w of both sets.
abbrev pub word_at : Setting → Done → ℕ → Word
word_at d done w = record {
  pending = flags_at d done Pending w;
  enabled = flags_at d done Enabled w;
  seen = is_seen d w done;
  looked = is_looked d w done;
  reported = is_reported d w done;
}

-- ---- a number

-- In which spots a number stands as it was at the start; before the first step only in `from`.
abbrev pub standing_first : NumberSpot → Standing
standing_first from = record {
  old = same_spot from InOld;
  hand = same_spot from InHand;
  new = same_spot from InNew;
}

-- Whether it stands so in a spot.
abbrev pub standing_in : NumberSpot → Standing → Bool
standing_in spot s = elim spot [ InOld ↦ s.old | InHand ↦ s.hand | InNew ↦ s.new ]

-- What a step makes of that, for number n.
abbrev pub standing_after : AnyStep → Number → Standing → Standing
standing_after (TakeNumber m) n s = elim (same_number m n) [
  | true ↦ record { old = false; hand = s.old; new = s.new }
  | false ↦ s
]
standing_after (CopyNumber m) n s = elim (same_number m n) [
  | true ↦ record { old = s.old; hand = s.old; new = s.new }
  | false ↦ s
]
standing_after (PutNumber m) n s = elim (same_number m n) [
  | true ↦ record { old = s.old; hand = s.hand; new = s.hand }
  | false ↦ s
]
standing_after (ZeroNumber Old m) n s = elim (same_number m n) [
  | true ↦ record { old = false; hand = s.hand; new = s.new }
  | false ↦ s
]
standing_after (ZeroNumber New m) n s = elim (same_number m n) [
  | true ↦ record { old = s.old; hand = s.hand; new = false }
  | false ↦ s
]
standing_after x n s = s

-- What the rules say of that after the steps that are done.
abbrev pub standing_at : Setting → Number → Done → Standing
standing_at d n done = record {
  old = has_number d n InOld done;
  hand = has_number d n InHand done;
  new = has_number d n InNew done;
}

-- ---- the whole move

-- What the words turn on after a step: whether nobody stores into the old place, and whether
-- somebody may into the new one; and whether the move is ready for notices: what is heeded is in
-- the new place, and they go to the host.
abbrev pub world_at : Setting → AnyStep → Done → World
world_at d x done = record {
  still = is_still d Pending (x ∷ done);
  reached = is_reached d Pending (x ∷ done);
  ready = are_heeded d (x ∷ done) && is_noticed d (x ∷ done);
}

-- Whether the move is ready for notices, by whether they heed the numbers, where these stand, and
-- whether they go to the host.
abbrev pub ready_by : Bool → Standing → Standing → Bool → Bool
ready_by heeds threshold delivery noticed = elim heeds [
  | true ↦ threshold.new && delivery.new
  | false ↦ true
] && noticed

-- Whether nothing is left to the next owner of the old place, where that takes it over, by whether
-- threshold and delivery were left 0.
abbrev pub shut_by : Bool → Bool → Bool → Bool
shut_by is_inherited threshold_shut delivery_shut = elim is_inherited [
  | true ↦ threshold_shut && delivery_shut
  | false ↦ true
]

-- ---- the table

-- A table stands for the steps that are done, with these producers.
pub record Stands (t : Table) (producers : List RouteKind) (done : Done) : Type 0 where
  pub count : length t.leads.items ≡ length producers
  pub leads : (p : ℕ) → slice_get t.leads.items p
      ≡ option_map (lead_at done p) (slice_get producers p)
  pub width : length t.words.items ≡ t.terms.words
  pub words : (w : ℕ) → w < t.terms.words
      → slice_get t.words.items w ≡ Some (word_at (setting_of producers t.terms) done w)
  pub threshold : t.threshold ≡ standing_at (setting_of producers t.terms) Threshold done
  pub delivery : t.delivery ≡ standing_at (setting_of producers t.terms) Delivery done
  pub freed : t.freed ≡ list_any frees done
  pub threshold_shut : t.threshold_shut ≡ was_shut Threshold done
  pub delivery_shut : t.delivery_shut ≡ was_shut Delivery done
  pub noticed : t.noticed ≡ is_noticed (setting_of producers t.terms) done
