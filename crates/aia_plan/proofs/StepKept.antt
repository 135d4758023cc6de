-- A step that stands where the rule wants it keeps what holds between steps.
use Rattle.std.proofs.Common.{◌≡◌, ℕ, ◌+◌, ◌*◌, ◌/◌, ◌%◌, Bool, true, false, ◌||◌, nat_eq, List, ◌∷◌, Option, Some, None, inl, inr, sym, ap, subst, ◌∙◌, arith}
use Rattle.std.specs.Prelude.{⊤}
use Rattle.std.specs.List.{list_any}
use Rattle.std.proofs.lemmas.Bool.{false≢true, eqb-true, or_left}
use Rattle.aia_plan.specs.declared.step.Step.{Step}
use Rattle.aia_plan.specs.declared.step.Step.TheVariants.{Word0, Fence, Map, Unmap, Remap, GFence, TakeP, PutP, TakeE, PutE}
use Rattle.aia_plan.specs.Plan.{WrittenPlan}
use Rattle.aia_plan.specs.Rule.{stands, takes_pending, puts_pending, takes_enables, puts_enables, is_record}
use Rattle.aia_plan.specs.Transit.{TransitSide, Flight, Transit, is_identity, all_landed, stepped, word_bits, without_word, of_word, no_bits}
use Rattle.aia_plan.specs.Transit.TransitSide.{New}
use Rattle.aia_plan.proofs.BoolLaws.{take_law, put_law, replace_law, drain_law, fresh_law}
use Rattle.aia_plan.proofs.Invariant.{side_if, MayLead, Routed, Pended, Enabled, Between, all_changed, all_land, flights_may_land}

-- What the rule says of the steps behind a step.
abbrev pub Guard : Step → WrittenPlan → Type 0
Guard Word0 rest = stands Word0 rest ≡ false
Guard Fence rest = (stands Word0 rest ≡ false) × (stands Fence rest ≡ false)
Guard Map rest = list_any is_record rest ≡ false
Guard Unmap rest = list_any is_record rest ≡ false
Guard Remap rest = list_any is_record rest ≡ false
Guard GFence rest = (list_any is_record rest ≡ false) × (stands GFence rest ≡ false)
Guard (TakeP w) rest = (stands Fence rest ≡ false) × (stands GFence rest ≡ false)
Guard (TakeE w) rest = stands (TakeE w) rest ≡ false
Guard step rest = ⊤

-- ---- the routes

word0_leads : (fence word0 : Bool) (s : TransitSide) → MayLead fence true s → MayLead fence word0 s
word0_leads true word0 s (inl e) = inl e
word0_leads true word0 s (inr e) = inl e
word0_leads false word0 s e = e

word0_written : (word0 fence record_step gfence : Bool) (entry_as_written entry record_as_written stage : TransitSide) (flying : List Flight)
    → word0 ≡ false → Routed true fence record_step gfence entry_as_written entry record_as_written stage flying
    → Routed word0 fence record_step gfence New entry record_as_written stage flying
word0_written word0 fence record_step gfence entry_as_written entry record_as_written stage flying none r = record {
  entry_written = sym (ap side_if none);
  entry_in_force = word0_leads fence word0 entry r.entry_in_force;
  record_written = r.record_written;
  record_in_force = r.record_in_force;
  flights = all_changed (MayLead fence true) (MayLead fence word0) (word0_leads fence word0) flying r.flights;
  order = λ e. none;
}

record_written : (word0 fence record_step gfence : Bool) (entry_as_written entry record_as_written stage : TransitSide) (flying : List Flight)
    → record_step ≡ false → Routed word0 fence true gfence entry_as_written entry record_as_written stage flying
    → Routed word0 fence record_step gfence entry_as_written entry New stage flying
record_written word0 fence record_step gfence entry_as_written entry record_as_written stage flying none r = record {
  entry_written = r.entry_written;
  entry_in_force = r.entry_in_force;
  record_written = sym (ap side_if none);
  record_in_force = r.record_in_force;
  flights = r.flights;
  order = r.order;
}

fence_leads : (fence word0 : Bool) (s : TransitSide) → fence ≡ false → word0 ≡ false → s ≡ side_if word0 → MayLead fence word0 s
fence_leads true word0 s f w e = absurd (false≢true (sym f))
fence_leads false word0 s f w e = e ∙ ap side_if w

-- ---- the step

word_bit : (w i : ℕ) → w ≡ i / 64 → 64 * w + i % 64 ≡ i
word_bit w i e = omega arith

take_pending : (words w : ℕ) (later : ℕ → Bool) (fence gfence : Bool) (due old new hand : ℕ → Bool) → fence ≡ false → gfence ≡ false
    → Pended words None (λ u. nat_eq w u || later u) fence gfence due old new hand
    → Pended words (Some w) later fence gfence due (without_word w old) new (word_bits w old)
take_pending words w later fence gfence due old new hand f g p = record {
  union = λ i inside. p.union i inside ∙ take_law (is_identity i) (old i) (new i) (nat_eq w (i / 64)) (old (64 * w + i % 64))
      (λ here. ap old (word_bit w i (eqb-true w (i / 64) here)));
  drained = λ i inside taken. drain_law (nat_eq w (i / 64)) (old i) (later (i / 64)) taken (λ both. p.drained i inside both);
  late = λ u inside taken. (f, g);
}

put_pending : (words w : ℕ) (later : ℕ → Bool) (fence gfence : Bool) (due old new hand : ℕ → Bool)
    → Pended words (Some w) later fence gfence due old new hand
    → Pended words None later fence gfence due old (λ i. new i || of_word w hand i) no_bits
put_pending words w later fence gfence due old new hand p = record {
  union = λ i inside. p.union i inside ∙ put_law (is_identity i) (old i) (new i) (nat_eq w (i / 64)) (hand (i % 64));
  drained = p.drained;
  late = p.late;
}

take_enables : (words w : ℕ) (later : ℕ → Bool) (first old new hand : ℕ → Bool) → later w ≡ false
    → Enabled words None (λ u. nat_eq w u || later u) first old new hand
    → Enabled words (Some w) later first (without_word w old) new (word_bits w old)
take_enables words w later first old new hand guard n = record {
  union = λ i inside. n.union i inside ∙ take_law (is_identity i) (old i) (new i) (nat_eq w (i / 64)) (old (64 * w + i % 64))
      (λ here. ap old (word_bit w i (eqb-true w (i / 64) here)));
  fresh = n.fresh;
  gone = λ u here. subst (λ k. later k ≡ false) (eqb-true w u here) guard;
  drained = λ i inside taken. drain_law (nat_eq w (i / 64)) (old i) (later (i / 64)) taken (λ both. n.drained i inside both);
}

put_enables : (words w : ℕ) (later : ℕ → Bool) (first old new hand : ℕ → Bool)
    → Enabled words (Some w) later first old new hand
    → Enabled words None later first old (λ i. without_word w new i || of_word w hand i) no_bits
put_enables words w later first old new hand n = record {
  union = λ i inside. n.union i inside ∙ replace_law (is_identity i) (old i) (new i) (nat_eq w (i / 64)) (hand (i % 64))
      (λ here. n.fresh i inside (or_left (nat_eq w (i / 64)) (later (i / 64)) here));
  fresh = λ i inside e. fresh_law (is_identity i) (nat_eq w (i / 64)) (new i) (later (i / 64)) (hand (i % 64)) (n.gone (i / 64)) (n.fresh i inside) e;
  gone = λ u here. absurd (false≢true here);
  drained = n.drained;
}

-- after a fence no word was taken before it: none could be
fenced : (words : ℕ) (c : Option ℕ) (later : ℕ → Bool) (fence gfence : Bool) (due old new hand : ℕ → Bool)
    → Pended words c later true gfence due old new hand → Pended words c later fence gfence due old new hand
fenced words c later fence gfence due old new hand p = record {
  union = p.union;
  drained = p.drained;
  late = λ w inside taken. absurd (false≢true (sym (p.late w inside taken).0));
}

gfenced : (words : ℕ) (c : Option ℕ) (later : ℕ → Bool) (fence gfence : Bool) (due old new hand : ℕ → Bool)
    → Pended words c later fence true due old new hand → Pended words c later fence gfence due old new hand
gfenced words c later fence gfence due old new hand p = record {
  union = p.union;
  drained = p.drained;
  late = λ w inside taken. absurd (false≢true (sym (p.late w inside taken).1));
}

step_fence : (words : ℕ) (first : ℕ → Bool) (rest : WrittenPlan) (z : Transit) → Guard Fence rest → Between words first None None (Fence ∷ rest) z
    → Between words first None None rest (stepped Fence z)
step_fence words first rest z guard v =
    let u : Between words first None None (Fence ∷ rest) (all_landed z.flights z) =
    all_land words first None None (Fence ∷ rest) z.flights z (flights_may_land words first None None (Fence ∷ rest) z v) v in
    record {
      routed = record {
        entry_written = u.routed.entry_written;
        entry_in_force = fence_leads (stands Fence rest) (stands Word0 rest) z.entry_written guard.1 guard.0 v.routed.entry_written;
        record_written = u.routed.record_written;
        record_in_force = u.routed.record_in_force;
        flights = tt;
        order = λ e. guard.0;
      };
      pended = fenced words None (λ w. stands (TakeP w) rest) (stands Fence rest) (stands GFence rest) _ _ _ _ u.pended;
      enabled = u.enabled;
    }

pub step_kept : (words : ℕ) (first : ℕ → Bool) (x : Step) (rest : WrittenPlan) (z : Transit) → Guard x rest
    → Between words first (puts_pending x) (puts_enables x) (x ∷ rest) z → Between words first (takes_pending x) (takes_enables x) rest (stepped x z)
step_kept words first Fence rest z guard v = step_fence words first rest z guard v
step_kept words first Word0 rest z guard v = record
    { routed = word0_written _ _ _ _ _ _ _ _ z.flights guard v.routed; pended = v.pended; enabled = v.enabled }
step_kept words first Map rest z guard v = record
    { routed = record_written _ _ _ _ _ _ _ _ z.flights guard v.routed; pended = v.pended; enabled = v.enabled }
step_kept words first Unmap rest z guard v = record
    { routed = record_written _ _ _ _ _ _ _ _ z.flights guard v.routed; pended = v.pended; enabled = v.enabled }
step_kept words first Remap rest z guard v = record
    { routed = record_written _ _ _ _ _ _ _ _ z.flights guard v.routed; pended = v.pended; enabled = v.enabled }
step_kept words first GFence rest z guard v = record {
  routed = record {
    entry_written = v.routed.entry_written;
    entry_in_force = v.routed.entry_in_force;
    record_written = v.routed.record_written;
    record_in_force = v.routed.record_written ∙ ap side_if guard.0 ∙ sym (ap side_if guard.1);
    flights = v.routed.flights;
    order = v.routed.order;
  };
  pended = gfenced words None (λ w. stands (TakeP w) rest) (stands Fence rest) (stands GFence rest) z.due z.old_pending z.new_pending
      z.carried_pending v.pended;
  enabled = v.enabled;
}
step_kept words first (TakeP w) rest z guard v =
    record {
      routed = v.routed;
      pended = take_pending words w (λ u. stands (TakeP u) rest) (stands Fence rest) (stands GFence rest) z.due
          z.old_pending z.new_pending z.carried_pending guard.0 guard.1 v.pended;
      enabled = v.enabled;
    }
step_kept words first (PutP w) rest z guard v =
    record {
      routed = v.routed;
      pended = put_pending words w (λ u. stands (TakeP u) rest) (stands Fence rest) (stands GFence rest) z.due
          z.old_pending z.new_pending z.carried_pending v.pended;
      enabled = v.enabled;
    }
step_kept words first (TakeE w) rest z guard v =
    record {
      routed = v.routed;
      pended = v.pended;
      enabled =
          take_enables words w (λ u. stands (TakeE u) rest) first z.old_enabled z.new_enabled z.carried_enables guard v.enabled;
    }
step_kept words first (PutE w) rest z guard v =
    record {
      routed = v.routed;
      pended = v.pended;
      enabled =
          put_enables words w (λ u. stands (TakeE u) rest) first z.old_enabled z.new_enabled z.carried_enables v.enabled;
    }
step_kept words first x rest z guard v = record { routed = v.routed; pended = v.pended; enabled = v.enabled }
