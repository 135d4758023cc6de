-- The two sets of an interrupt file, in the old place, the new place and the carried word, over
-- plain numbers: how each kind of step keeps them.
use Rattle.std.proofs.Common.{◌≡◌, ℕ, ◌+◌, ◌*◌, ◌/◌, ◌%◌, ◌<◌, ◌≤◌, Bool, true, false, not, ◌&&◌, ◌||◌, nat_eq, nat_lt, refl, sym, ap, ◌∙◌, inl, inr, arith}
use Rattle.std.proofs.lemmas.Bool.{cases_Bool, eqb-true, and_right}
use Rattle.std.proofs.lemmas.Bool.Decides.{nat_tests}
use Rattle.aia_word.specs.Sets.{has_bit}
use Rattle.aia_file.specs.InterruptFile.{InterruptFile}
use Rattle.aia_vcpu_places.specs.Places.{TwoSets, no_sets}
use Rattle.aia_vcpu_places.specs.Steps.{without_word, joined_by, replaced_by, Shows}

-- Whether the step of a number is done; whether it is the last one done
abbrev pub is_done : ℕ → ℕ → Bool
is_done step done = nat_lt step done

abbrev pub is_last_done : ℕ → ℕ → Bool
is_last_done step done = nat_eq done (step + 1)

-- HoldsSets of a move with so many steps done: its first take is the step `first`, that of the
-- enabled set the step `enables`
pub record HoldsAt (words first enables done word : ℕ) (old new : TwoSets) (file : InterruptFile) : Type 0 where
  pub union : (i : ℕ) → i / 64 < words → file.pending
      i ≡ (old.pending i || (new.pending i || (is_last_done (first + 2 * (i / 64)) done && has_bit word (i % 64))))
  pub drained : (i : ℕ) → i / 64 < words → (is_done (first + 2 * (i / 64)) done && old.pending i) ≡ false
  pub old_enables : (i : ℕ) → i / 64 < words → old.enabled i ≡ (not (is_done (enables + 2 * (i / 64)) done) && file.enabled i)
  pub carried_enables : (i : ℕ) → i / 64 < words
      → (is_last_done (enables + 2 * (i / 64)) done && has_bit word (i % 64)) ≡ (is_last_done (enables + 2 * (i / 64)) done && file.enabled i)
  pub new_enables : (i : ℕ) → i / 64 < words → new.enabled i ≡ (is_done (enables + 2 * (i / 64) + 1) done && file.enabled i)

moves : (a b : Bool) → (a || (b || false)) ≡ (b || a)
moves true true = refl
moves true false = refl
moves false true = refl
moves false false = refl

joins : (a b c : Bool) → (a || (b || c)) ≡ (a || ((b || c) || false))
joins true b c = refl
joins false true c = refl
joins false false true = refl
joins false false false = refl

module _ (words first enables done word next : ℕ) (old new : TwoSets) (file : InterruptFile) (order : first + 2 * words ≤ enables)
    (p : HoldsAt words first enables done word old new file) where
  -- no word of a set is taken or put
  pub before-holds : done < first → HoldsAt words first enables (done + 1) next old new file
  before-holds low = record {
    union = λ i l. rw (none_then (i / 64)) (rw (none (i / 64)) at (p.union i l));
    drained = λ i l. rw (drained (i / 64)) refl;
    old_enables = λ i l. rw (in_old (i / 64)) (rw (in_old_before (i / 64)) at (p.old_enables i l));
    carried_enables = λ i l. rw (in_hand (i / 64)) refl;
    new_enables = λ i l. rw (in_new (i / 64)) (rw (in_new_before (i / 64)) at (p.new_enables i l));
  }
    where
      none : (j : ℕ) → nat_eq done (first + 2 * j + 1) ≡ false
      none j = grind (arith, nat_tests)

      none_then : (j : ℕ) → nat_eq (done + 1) (first + 2 * j + 1) ≡ false
      none_then j = grind (arith, nat_tests)

      drained : (j : ℕ) → nat_lt (first + 2 * j) (done + 1) ≡ false
      drained j = grind (arith, nat_tests)

      in_old : (j : ℕ) → nat_lt (enables + 2 * j) (done + 1) ≡ false
      in_old j = grind (arith, nat_tests)

      in_old_before : (j : ℕ) → nat_lt (enables + 2 * j) done ≡ false
      in_old_before j = grind (arith, nat_tests)

      in_hand : (j : ℕ) → nat_eq (done + 1) (enables + 2 * j + 1) ≡ false
      in_hand j = grind (arith, nat_tests)

      in_new : (j : ℕ) → nat_lt (enables + 2 * j + 1) (done + 1) ≡ false
      in_new j = grind (arith, nat_tests)

      in_new_before : (j : ℕ) → nat_lt (enables + 2 * j + 1) done ≡ false
      in_new_before j = grind (arith, nat_tests)

  pub after-holds : enables + 2 * words ≤ done → HoldsAt words first enables (done + 1) next old new file
  after-holds high = record {
    union = λ i l. rw (none_then (i / 64) l) (rw (none (i / 64) l) at (p.union i l));
    drained = λ i l. rw (drained (i / 64) l) (p.drained i l);
    old_enables = λ i l. rw (in_old (i / 64) l) (p.old_enables i l);
    carried_enables = λ i l. rw (in_hand (i / 64) l) refl;
    new_enables = λ i l. rw (in_new (i / 64) l) (p.new_enables i l);
  }
    where
      none : (j : ℕ) → j < words → nat_eq done (first + 2 * j + 1) ≡ false
      none j l = grind (arith, nat_tests)

      none_then : (j : ℕ) → j < words → nat_eq (done + 1) (first + 2 * j + 1) ≡ false
      none_then j l = grind (arith, nat_tests)

      drained : (j : ℕ) → j < words → nat_lt (first + 2 * j) (done + 1) ≡ nat_lt (first + 2 * j) done
      drained j l = grind (arith, nat_tests)

      in_old : (j : ℕ) → j < words → nat_lt (enables + 2 * j) (done + 1) ≡ nat_lt (enables + 2 * j) done
      in_old j l = grind (arith, nat_tests)

      in_hand : (j : ℕ) → j < words → nat_eq (done + 1) (enables + 2 * j + 1) ≡ false
      in_hand j l = grind (arith, nat_tests)

      in_new : (j : ℕ) → j < words → nat_lt (enables + 2 * j + 1) (done + 1) ≡ nat_lt (enables + 2 * j + 1) done
      in_new j l = grind (arith, nat_tests)

  module _ (w : ℕ) (few : w < words) where
    pub take_pending-holds : done ≡ first + 2 * w → Shows next w old.pending
        → HoldsAt words first enables (done + 1) next (record old { pending = without_word w old.pending }) new file
    take_pending-holds at shows = record {
      union = λ i l. elim (cases_Bool (nat_eq (i / 64) w)) [
        | inl e ↦ rw (e, taken (i / 64) e, shows i (eqb-true (i / 64) w e))
            (rw (none (i / 64)) at (p.union i l) ∙ moves (old.pending i) (new.pending i))
        | inr e ↦ rw (e, not_taken (i / 64) e) (rw (none (i / 64)) at (p.union i l))
      ];
      drained = λ i l. elim (cases_Bool (nat_eq (i / 64) w)) [
        | inl e ↦ rw e (and_right _ false refl)
        | inr e ↦ rw (e, drained (i / 64) e) (p.drained i l)
      ];
      old_enables = λ i l. rw (in_old (i / 64)) (p.old_enables i l);
      carried_enables = λ i l. rw (in_hand (i / 64)) refl;
      new_enables = λ i l. rw (in_new (i / 64)) (p.new_enables i l);
    }
      where
        none : (j : ℕ) → nat_eq done (first + 2 * j + 1) ≡ false
        none j = grind (arith, nat_tests)

        taken : (j : ℕ) → nat_eq j w ≡ true → nat_eq (done + 1) (first + 2 * j + 1) ≡ true
        taken j e = grind (arith, nat_tests)

        not_taken : (j : ℕ) → nat_eq j w ≡ false → nat_eq (done + 1) (first + 2 * j + 1) ≡ false
        not_taken j e = grind (arith, nat_tests)

        drained : (j : ℕ) → nat_eq j w ≡ false → nat_lt (first + 2 * j) (done + 1) ≡ nat_lt (first + 2 * j) done
        drained j e = grind (arith, nat_tests)

        in_old : (j : ℕ) → nat_lt (enables + 2 * j) (done + 1) ≡ nat_lt (enables + 2 * j) done
        in_old j = grind (arith, nat_tests)

        in_hand : (j : ℕ) → nat_eq (done + 1) (enables + 2 * j + 1) ≡ false
        in_hand j = grind (arith, nat_tests)

        in_new : (j : ℕ) → nat_lt (enables + 2 * j + 1) (done + 1) ≡ nat_lt (enables + 2 * j + 1) done
        in_new j = grind (arith, nat_tests)

    pub put_pending-holds : done ≡ first + 1 + 2 * w
        → HoldsAt words first enables (done + 1) next old (record new { pending = joined_by w word new.pending }) file
    put_pending-holds at = record {
      union = λ i l. elim (cases_Bool (nat_eq (i / 64) w)) [
        | inl e ↦ rw (e, none (i / 64)) (rw (here (i / 64) e) at (p.union i l) ∙ joins (old.pending i) (new.pending i) (has_bit word (i % 64)))
        | inr e ↦ rw (e, none (i / 64)) (rw (elsewhere (i / 64) e) at (p.union i l))
      ];
      drained = λ i l. rw (drained (i / 64)) (p.drained i l);
      old_enables = λ i l. rw (in_old (i / 64)) (p.old_enables i l);
      carried_enables = λ i l. rw (in_hand (i / 64)) refl;
      new_enables = λ i l. rw (in_new (i / 64)) (p.new_enables i l);
    }
      where
        none : (j : ℕ) → nat_eq (done + 1) (first + 2 * j + 1) ≡ false
        none j = grind (arith, nat_tests)

        here : (j : ℕ) → nat_eq j w ≡ true → nat_eq done (first + 2 * j + 1) ≡ true
        here j e = grind (arith, nat_tests)

        elsewhere : (j : ℕ) → nat_eq j w ≡ false → nat_eq done (first + 2 * j + 1) ≡ false
        elsewhere j e = grind (arith, nat_tests)

        drained : (j : ℕ) → nat_lt (first + 2 * j) (done + 1) ≡ nat_lt (first + 2 * j) done
        drained j = grind (arith, nat_tests)

        in_old : (j : ℕ) → nat_lt (enables + 2 * j) (done + 1) ≡ nat_lt (enables + 2 * j) done
        in_old j = grind (arith, nat_tests)

        in_hand : (j : ℕ) → nat_eq (done + 1) (enables + 2 * j + 1) ≡ false
        in_hand j = grind (arith, nat_tests)

        in_new : (j : ℕ) → nat_lt (enables + 2 * j + 1) (done + 1) ≡ nat_lt (enables + 2 * j + 1) done
        in_new j = grind (arith, nat_tests)

    pub take_enables-holds : done ≡ enables + 2 * w → Shows next w old.enabled
        → HoldsAt words first enables (done + 1) next (record old { enabled = without_word w old.enabled }) new file
    take_enables-holds at shows = record {
      union = λ i l. rw (none_then (i / 64) l) (rw (none (i / 64) l) at (p.union i l));
      drained = λ i l. rw (drained (i / 64) l) (p.drained i l);
      old_enables = λ i l. elim (cases_Bool (nat_eq (i / 64) w)) [
        | inl e ↦ rw (e, out (i / 64) e) refl
        | inr e ↦ rw (e, in_old (i / 64) e) (p.old_enables i l)
      ];
      carried_enables = λ i l. elim (cases_Bool (nat_eq (i / 64) w)) [
        | inl e ↦ rw (taken (i / 64) e, shows i (eqb-true (i / 64) w e)) (rw (there (i / 64) e) at (p.old_enables i l))
        | inr e ↦ rw (not_taken (i / 64) e) refl
      ];
      new_enables = λ i l. rw (in_new (i / 64)) (p.new_enables i l);
    }
      where
        none : (j : ℕ) → j < words → nat_eq done (first + 2 * j + 1) ≡ false
        none j l = grind (arith, nat_tests)

        none_then : (j : ℕ) → j < words → nat_eq (done + 1) (first + 2 * j + 1) ≡ false
        none_then j l = grind (arith, nat_tests)

        drained : (j : ℕ) → j < words → nat_lt (first + 2 * j) (done + 1) ≡ nat_lt (first + 2 * j) done
        drained j l = grind (arith, nat_tests)

        out : (j : ℕ) → nat_eq j w ≡ true → nat_lt (enables + 2 * j) (done + 1) ≡ true
        out j e = grind (arith, nat_tests)

        there : (j : ℕ) → nat_eq j w ≡ true → nat_lt (enables + 2 * j) done ≡ false
        there j e = grind (arith, nat_tests)

        in_old : (j : ℕ) → nat_eq j w ≡ false → nat_lt (enables + 2 * j) (done + 1) ≡ nat_lt (enables + 2 * j) done
        in_old j e = grind (arith, nat_tests)

        taken : (j : ℕ) → nat_eq j w ≡ true → nat_eq (done + 1) (enables + 2 * j + 1) ≡ true
        taken j e = grind (arith, nat_tests)

        not_taken : (j : ℕ) → nat_eq j w ≡ false → nat_eq (done + 1) (enables + 2 * j + 1) ≡ false
        not_taken j e = grind (arith, nat_tests)

        in_new : (j : ℕ) → nat_lt (enables + 2 * j + 1) (done + 1) ≡ nat_lt (enables + 2 * j + 1) done
        in_new j = grind (arith, nat_tests)

    pub put_enables-holds : done ≡ enables + 1 + 2 * w
        → HoldsAt words first enables (done + 1) next old (record new { enabled = replaced_by w word new.enabled }) file
    put_enables-holds at = record {
      union = λ i l. rw (none_then (i / 64) l) (rw (none (i / 64) l) at (p.union i l));
      drained = λ i l. rw (drained (i / 64) l) (p.drained i l);
      old_enables = λ i l. rw (in_old (i / 64)) (p.old_enables i l);
      carried_enables = λ i l. rw (in_hand (i / 64)) refl;
      new_enables = λ i l. elim (cases_Bool (nat_eq (i / 64) w)) [
        | inl e ↦ rw (e, put (i / 64) e) (rw (carried (i / 64) e) at (p.carried_enables i l))
        | inr e ↦ rw (e, in_new (i / 64) e) (p.new_enables i l)
      ];
    }
      where
        none : (j : ℕ) → j < words → nat_eq done (first + 2 * j + 1) ≡ false
        none j l = grind (arith, nat_tests)

        none_then : (j : ℕ) → j < words → nat_eq (done + 1) (first + 2 * j + 1) ≡ false
        none_then j l = grind (arith, nat_tests)

        drained : (j : ℕ) → j < words → nat_lt (first + 2 * j) (done + 1) ≡ nat_lt (first + 2 * j) done
        drained j l = grind (arith, nat_tests)

        in_old : (j : ℕ) → nat_lt (enables + 2 * j) (done + 1) ≡ nat_lt (enables + 2 * j) done
        in_old j = grind (arith, nat_tests)

        in_hand : (j : ℕ) → nat_eq (done + 1) (enables + 2 * j + 1) ≡ false
        in_hand j = grind (arith, nat_tests)

        put : (j : ℕ) → nat_eq j w ≡ true → nat_lt (enables + 2 * j + 1) (done + 1) ≡ true
        put j e = grind (arith, nat_tests)

        carried : (j : ℕ) → nat_eq j w ≡ true → nat_eq done (enables + 2 * j + 1) ≡ true
        carried j e = grind (arith, nat_tests)

        in_new : (j : ℕ) → nat_eq j w ≡ false → nat_lt (enables + 2 * j + 1) (done + 1) ≡ nat_lt (enables + 2 * j + 1) done
        in_new j e = grind (arith, nat_tests)

-- ---- a move begins, and ends

alone : (a b c d : Bool) → a ≡ false → c ≡ false → (a || (b || (c && d))) ≡ (b || false)
alone false true false d x y = refl
alone false false false d x y = refl
alone true b c d x y = absurd (cc)
alone false b true d x y = absurd (cc)

module _ (words first enables : ℕ) (old new : TwoSets) (file : InterruptFile) where
  pub begin-holds : (word next : ℕ) → ((i : ℕ) → i / 64 < words → (new.pending i ≡ false) × (new.enabled i ≡ false))
      → HoldsAt words 0 0 0 word old no_sets file → HoldsAt words first enables 0 next old new file
  begin-holds word next none p = record {
    union = λ i l. rw ((none i l).0, uncarried (i / 64)) (rw (uncarried_before (i / 64)) at (p.union i l));
    drained = λ i l. rw (undone (i / 64)) refl;
    old_enables = λ i l. rw (untaken (i / 64)) (rw (untaken_before (i / 64)) at (p.old_enables i l));
    carried_enables = λ i l. rw (unheld (i / 64)) refl;
    new_enables = λ i l. rw ((none i l).1, unput (i / 64)) refl;
  }
    where
      uncarried : (j : ℕ) → nat_eq 0 (first + 2 * j + 1) ≡ false
      uncarried j = grind (arith, nat_tests)

      uncarried_before : (j : ℕ) → nat_eq 0 (0 + 2 * j + 1) ≡ false
      uncarried_before j = grind (arith, nat_tests)

      undone : (j : ℕ) → nat_lt (first + 2 * j) 0 ≡ false
      undone j = grind (arith, nat_tests)

      untaken : (j : ℕ) → nat_lt (enables + 2 * j) 0 ≡ false
      untaken j = grind (arith, nat_tests)

      untaken_before : (j : ℕ) → nat_lt (0 + 2 * j) 0 ≡ false
      untaken_before j = grind (arith, nat_tests)

      unheld : (j : ℕ) → nat_eq 0 (enables + 2 * j + 1) ≡ false
      unheld j = grind (arith, nat_tests)

      unput : (j : ℕ) → nat_lt (enables + 2 * j + 1) 0 ≡ false
      unput j = grind (arith, nat_tests)

  module _ (done word : ℕ) (order : first + 2 * words ≤ enables) (p : HoldsAt words first enables done word old new file)
      (high : enables + 2 * words ≤ done) where
    pub old_is_empty : (i : ℕ) → i / 64 < words → (old.pending i ≡ false) × (old.enabled i ≡ false)
    old_is_empty i l = (rw (drained (i / 64) l) at (p.drained i l), rw (out (i / 64) l) at (p.old_enables i l))
      where
        drained : (j : ℕ) → j < words → nat_lt (first + 2 * j) done ≡ true
        drained j l = grind (arith, nat_tests)

        out : (j : ℕ) → j < words → nat_lt (enables + 2 * j) done ≡ true
        out j l = grind (arith, nat_tests)

    pub new_has_all : (i : ℕ) → i / 64 < words → (file.pending i ≡ new.pending i) × (new.enabled i ≡ file.enabled i)
    new_has_all i l = (
      p.union i l ∙ alone (old.pending i) (new.pending i) _ (has_bit word (i % 64)) (old_is_empty i l).0 (none (i / 64) l)
          ∙ or_false (new.pending i),
      rw (put (i / 64) l) at (p.new_enables i l),
    )
      where
        none : (j : ℕ) → j < words → nat_eq done (first + 2 * j + 1) ≡ false
        none j l = grind (arith, nat_tests)

        put : (j : ℕ) → j < words → nat_lt (enables + 2 * j + 1) done ≡ true
        put j l = grind (arith, nat_tests)

        or_false : (b : Bool) → (b || false) ≡ b
        or_false true = refl
        or_false false = refl

-- a place that has both sets holds them, while nothing moves
pub stand-holds : (words word : ℕ) (old : TwoSets) (file : InterruptFile)
    → ((i : ℕ) → i / 64 < words → (file.pending i ≡ old.pending i) × (old.enabled i ≡ file.enabled i))
    → HoldsAt words 0 0 0 word old no_sets file
stand-holds words word old file same = record {
  union = λ i l. (same i l).0 ∙ rw (uncarried (i / 64)) (sym (or_false (old.pending i)));
  drained = λ i l. rw (undone (i / 64)) refl;
  old_enables = λ i l. rw (undone (i / 64)) ((same i l).1);
  carried_enables = λ i l. rw (uncarried (i / 64)) refl;
  new_enables = λ i l. rw (unput (i / 64)) refl;
}
  where
    or_false : (b : Bool) → (b || false) ≡ b
    or_false true = refl
    or_false false = refl

    uncarried : (j : ℕ) → nat_eq 0 (0 + 2 * j + 1) ≡ false
    uncarried j = grind (arith, nat_tests)

    undone : (j : ℕ) → nat_lt (0 + 2 * j) 0 ≡ false
    undone j = grind (arith, nat_tests)

    unput : (j : ℕ) → nat_lt (0 + 2 * j + 1) 0 ≡ false
    unput j = grind (arith, nat_tests)

-- the other way round
pub old_has_all : (words word : ℕ) (old : TwoSets) (file : InterruptFile) → HoldsAt words 0 0 0 word old no_sets file
    → (i : ℕ) → i / 64 < words → (file.pending i ≡ old.pending i) × (old.enabled i ≡ file.enabled i)
old_has_all words word old file p i l = (
  rw (uncarried (i / 64)) at (p.union i l)
      ∙ or_false (old.pending i),
  rw (untaken (i / 64)) at (p.old_enables i l),
)
  where
    or_false : (b : Bool) → (b || false) ≡ b
    or_false true = refl
    or_false false = refl

    uncarried : (j : ℕ) → nat_eq 0 (0 + 2 * j + 1) ≡ false
    uncarried j = grind (arith, nat_tests)

    untaken : (j : ℕ) → nat_lt (0 + 2 * j) 0 ≡ false
    untaken j = grind (arith, nat_tests)

-- ---- a store lands

in_old : (b p q r : Bool) → (b || (p || (q || r))) ≡ ((b || p) || (q || r))
in_old true p q r = refl
in_old false p q r = refl

in_new : (b p q r : Bool) → (b || (p || (q || r))) ≡ (p || ((b || q) || r))
in_new true true q r = refl
in_new true false q r = refl
in_new false p q r = refl

module _ (words first enables done word : ℕ) (old new : TwoSets) (file : InterruptFile) (p : HoldsAt words first enables done word old new file)
    (asked after pending : ℕ → Bool) (file_after : (i : ℕ) → i / 64 < words → pending i ≡ (asked i || file.pending i)) where
  -- in the old place, of which nothing was taken
  pub lands_in_old-holds : done ≤ first → ((i : ℕ) → i / 64 < words → after i ≡ (asked i || old.pending i))
      → HoldsAt words first enables done word (record old { pending = after }) new (record file { pending = pending })
  lands_in_old-holds low place_after = record {
    union = λ i l. file_after i l ∙ ap (λ x. asked i || x) (p.union i l) ∙ in_old (asked i) (old.pending i) (new.pending i) _
        ∙ rw (place_after i l) refl;
    drained = λ i l. rw (undone (i / 64)) refl;
    old_enables = p.old_enables;
    carried_enables = p.carried_enables;
    new_enables = p.new_enables;
  }
    where
      undone : (j : ℕ) → nat_lt (first + 2 * j) done ≡ false
      undone j = grind (arith, nat_tests)

  -- in the new place
  pub lands_in_new-holds : ((i : ℕ) → i / 64 < words → after i ≡ (asked i || new.pending i))
      → HoldsAt words first enables done word old (record new { pending = after }) (record file { pending = pending })
  lands_in_new-holds place_after = record {
    union = λ i l. file_after i l ∙ ap (λ x. asked i || x) (p.union i l) ∙ in_new (asked i) (old.pending i) (new.pending i) _
        ∙ rw (place_after i l) refl;
    drained = p.drained;
    old_enables = p.old_enables;
    carried_enables = p.carried_enables;
    new_enables = p.new_enables;
  }
