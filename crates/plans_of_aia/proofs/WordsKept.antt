-- A plan of our shape that keeps its rule keeps the rule on words.
use Rattle.std.proofs.Common.{◌≡◌, ℕ, ◌<◌, Bool, true, false, not, ◌&&◌, if◌then◌else◌, nat_eq, [], ◌∷◌, Option, Some, None, inl, inr, refl, sym, ap, ◌∙◌, subst}
use Rattle.std.specs.Prelude.{◌⊎◌}
use Rattle.std.specs.List.{AllByRecursion}
use Rattle.std.proofs.lemmas.Bool.{false≢true}
use Rattle.aia_plan.specs.Plan.{WrittenPlan, IsInside}
use Rattle.aia_plan.specs.Rule.{stands, is_never, is_once, is_same, are_paired, takes_pending, puts_pending, takes_enables, puts_enables}
use Rattle.aia_plan.specs.declared.step.Step.{Step as OurStep}
use Rattle.aia_plan.specs.declared.step.Step.TheVariants.{TakeP, PutP, TakeE, PutE}
use Rattle.plans_rules.specs.declared.step.WhichSet.TheVariants.{Pending, Enabled}
use Rattle.plans_rules.specs.declared.rule.Rule.TheVariants.{Words}
use Rattle.plans_rules.specs.declared.step.AnyStep.TheVariants as steps
use Rattle.plans_rules.specs.Rules.{Done, any_old, only_hand, lets_rest}
use Rattle.plans_of_aia.proofs.Flags.{AllUnpaused, old_holds, hand_holds, is_filled, none_old, none_hand, none_new}
use Rattle.plans_rules.proofs.BoolLaws.{by_case, all_of, false_of, and_left, and_right, and_of, not_true, or_false_left, or_false_right, clash}
use Rattle.plans_of_aia.specs.Translated.{access_of, onto, translated, shape_setting}
use Rattle.plans_of_aia.proofs.Onward.{same_number, numbers_are_one, no_number, unpaused_on, emptied_on, emptied_now, hand_beside, hand_joined, hand_put, filled_beside}

-- What is in the hand is the word that was taken just now. A word of the enables that has come to the
-- new place is taken no more; each is taken once, or was taken and is empty.
pub record Held (words : ℕ) (pending enables : Option ℕ) (rest : WrittenPlan) (done : Done) : Type 0 where
  pub pending_held : (w : ℕ) → hand_holds (shape_setting words) Pending w done ≡ true → pending ≡ Some w
  pub enables_held : (w : ℕ) → hand_holds (shape_setting words) Enabled w done ≡ true → enables ≡ Some w
  pub filled : (w : ℕ) → is_filled (shape_setting words) Enabled w done ≡ true → (is_never (TakeE w) rest ≡ true) × (enables ≡ Some w → ⊥)
  pub taken : (w : ℕ) → enables ≡ Some w → is_never (TakeE w) rest ≡ true
  pub once : (w : ℕ) → w < words → (is_once (TakeE w) rest ≡ true)
      ⊎ ((is_never (TakeE w) rest ≡ true) × (old_holds (shape_setting words) Enabled w done ≡ false))
  pub unpaused : AllUnpaused done

none_same : (t : Option ℕ) → is_same t None ≡ true → t ≡ None
none_same None e = refl
none_same (Some w) e = absurd (false≢true e)

some_same : (t : Option ℕ) (w : ℕ) → is_same t (Some w) ≡ true → t ≡ Some w
some_same None w e = absurd (false≢true e)
some_same (Some v) w e = ap Some (numbers_are_one v w e)

some_is : (w v : ℕ) → ◌≡◌ {A = Option ℕ} (Some w) (Some v) → w ≡ v
some_is w v e = cc

-- no word is the one in the hand where none is, and one only is
empty_hand : {A : Type 0} (t : Option ℕ) (w : ℕ) → t ≡ None → t ≡ Some w → A
empty_hand t w none some = no_number (sym none ∙ some)

other_word : {A : Type 0} (t : Option ℕ) (w v : ℕ) → t ≡ Some w → t ≡ Some v → nat_eq w v ≡ false → A
other_word t w v e f other = absurd (false≢true (sym other ∙ subst (λ n. nat_eq w n ≡ true) (some_is w v (sym e ∙ f)) (same_number w)))

-- once, and then never
once_here : (here : Bool) (never once : Bool) → here ≡ true → (if here then never else once) ≡ true → never ≡ true
once_here true never once e f = f
once_here false never once e f = absurd (false≢true e)

once_later : (here : Bool) (never once : Bool) → here ≡ false → (if here then never else once) ≡ true → once ≡ true
once_later true never once e f = absurd (false≢true (sym e))
once_later false never once e f = f

never_here : (w : ℕ) (x : OurStep) (later : WrittenPlan) → is_never (TakeE w) (x ∷ later) ≡ true → is_never (TakeE w) later ≡ true
never_here w x later e = ap not (or_false_right _ (stands (TakeE w) later) (not_true _ e))

not_here : (v w : ℕ) (later : WrittenPlan) → is_never (TakeE w) (TakeE v ∷ later) ≡ true → nat_eq v w ≡ false
not_here v w later e = or_false_left (nat_eq v w) (stands (TakeE w) later) (not_true _ e)

-- the end
words_end : (words : ℕ) (pending enables : Option ℕ) (done : Done) → pending ≡ None → enables ≡ None → Held words pending enables [] done
    → lets_rest Words (shape_setting words) done [] ≡ true
words_end words pending enables done p e held =
    let d = shape_setting words in
    all_of (λ w. not (only_hand d Pending w done) && (not (any_old d Enabled w done) && not (only_hand d Enabled w done))) words (λ w low.
    let no_pending = false_of (hand_holds d Pending w done) (λ h. empty_hand pending w p (held.pending_held w h)) in
    let no_enables = false_of (hand_holds d Enabled w done) (λ h. empty_hand enables w e (held.enables_held w h)) in
    let emptied : old_holds d Enabled w done ≡ false = elim (held.once w low) [ inl once ↦ absurd (false≢true once) | inr gone ↦ gone.1 ] in
    and_of _ _ (ap not (none_hand d Pending w done held.unpaused no_pending))
    (and_of _ _ (ap not (none_old d Enabled w done held.unpaused emptied)) (ap not (none_hand d Enabled w done held.unpaused no_enables))))

-- a pending word is taken
pending_taken : (words v : ℕ) (pending enables : Option ℕ) (later : WrittenPlan) (done : Done) → pending ≡ None → enables ≡ None
    → Held words pending enables (TakeP v ∷ later) done → Held words (Some v) None later (steps.Take Pending v ∷ done)
pending_taken words v pending enables later done p e held = record {
  pending_held = λ w h. by_case (nat_eq v w) (λ same. ap Some (numbers_are_one v w same))
      (λ other. empty_hand pending w p (held.pending_held w (sym (hand_beside (shape_setting words) Pending v w done other) ∙ h)));
  enables_held = λ w h. empty_hand enables w e (held.enables_held w h);
  filled = λ w h. ((held.filled w h).0, λ f. no_number f);
  taken = λ w f. no_number f;
  once = held.once;
  unpaused = (tt, held.unpaused);
}

pending_joined : (words v : ℕ) (pending enables : Option ℕ) (later : WrittenPlan) (done : Done) → pending ≡ Some v → enables ≡ None
    → Held words pending enables (PutP v ∷ later) done → Held words None None later (steps.Join Pending v ∷ done)
pending_joined words v pending enables later done p e held = record {
  pending_held = λ w h.
      let was = hand_joined (shape_setting words) Pending v w done h in
      other_word pending v w p (held.pending_held w was.1) was.0;
  enables_held = λ w h. empty_hand enables w e (held.enables_held w h);
  filled = λ w h. ((held.filled w h).0, λ f. no_number f);
  taken = λ w f. no_number f;
  once = held.once;
  unpaused = (tt, held.unpaused);
}

enables_taken : (words v : ℕ) (pending enables : Option ℕ) (later : WrittenPlan) (done : Done) → v < words → pending ≡ None → enables ≡ None
    → Held words pending enables (TakeE v ∷ later) done
    → Held words None (Some v) later (steps.Take Enabled v ∷ done)
enables_taken words v pending enables later done inside p e held =
    let d = shape_setting words in
    let here = same_number v in
    let never : is_never (TakeE v) later ≡ true = elim (held.once v inside) [
      | inl once ↦ once_here (nat_eq v v) (is_never (TakeE v) later) (is_once (TakeE v) later) here once
      | inr gone ↦ clash (nat_eq v v) here (not_here v v later gone.0)
    ] in
    record {
      pending_held = λ w h. empty_hand pending w p (held.pending_held w h);
      enables_held = λ w h. by_case (nat_eq v w) (λ same. ap Some (numbers_are_one v w same))
          (λ other. empty_hand enables w e (held.enables_held w (sym (hand_beside d Enabled v w done other) ∙ h)));
      filled = λ w h.
          let was = (held.filled w h).0 in
          (never_here w (TakeE v) later was, λ f. other_word (Some v) v w refl f (not_here v w later was));
      taken = λ w f. subst (λ n. is_never (TakeE n) later ≡ true) (some_is v w f) never;
      once = λ w low. by_case (nat_eq v w)
          (λ same. inr (subst (λ n. is_never (TakeE n) later ≡ true) (numbers_are_one v w same) never, emptied_now d Enabled v w done same refl))
          (λ other. elim (held.once w low) [
            | inl once ↦ inl (once_later (nat_eq v w) (is_never (TakeE w) later) (is_once (TakeE w) later) other once)
            | inr gone ↦ inr (never_here w (TakeE v) later gone.0, emptied_on d Enabled w (Some (steps.Take Enabled v)) done gone.1)
          ]);
      unpaused = (tt, held.unpaused);
    }

enables_put : (words v : ℕ) (pending enables : Option ℕ) (later : WrittenPlan) (done : Done) → pending ≡ None → enables ≡ Some v
    → Held words pending enables (PutE v ∷ later) done → Held words None None later (steps.Put Enabled v ∷ done)
enables_put words v pending enables later done p e held =
    let d = shape_setting words in
    record {
      pending_held = λ w h. empty_hand pending w p (held.pending_held w h);
      enables_held = λ w h.
          let was = hand_put d Enabled v w done h in
          other_word enables v w e (held.enables_held w was.1) was.0;
      filled = λ w h. (
        by_case (nat_eq v w)
            (λ same. subst (λ n. is_never (TakeE n) later ≡ true) (numbers_are_one v w same) (held.taken v e))
            (λ other. (held.filled w (sym (filled_beside d Enabled v w done other) ∙ h)).0),
        λ f. no_number f,
      );
      taken = λ w f. no_number f;
      once = held.once;
      unpaused = (tt, held.unpaused);
    }

not_filled : (words v : ℕ) (pending enables : Option ℕ) (rest : WrittenPlan) (done : Done) → enables ≡ Some v → Held words pending enables rest done
    → is_filled (shape_setting words) Enabled v done ≡ false
not_filled words v pending enables rest done e held = false_of (is_filled (shape_setting words) Enabled v done) (λ h. (held.filled v h).1 e)

pub words_kept : (words : ℕ) (rest : WrittenPlan) (pending enables : Option ℕ) (done : Done) → AllByRecursion (IsInside words) rest
    → are_paired takes_pending puts_pending pending rest ≡ true
    → are_paired takes_enables puts_enables enables rest ≡ true → Held words pending enables rest done
    → lets_rest Words (shape_setting words) done (translated rest) ≡ true
words_kept words [] pending enables done inside p e held = words_end words pending enables done (none_same pending p) (none_same enables e) held
words_kept words (TakeP v ∷ later) pending enables done inside p e held =
    let no_pending = none_same pending (and_left _ _ p) in
    let no_enables = none_same enables (and_left _ _ e) in
    let free = false_of (hand_holds (shape_setting words) Pending v done) (λ h. empty_hand pending v no_pending (held.pending_held v h)) in
    and_of _ _ (ap not (none_hand (shape_setting words) Pending v done held.unpaused free))
    (words_kept words later (Some v) None (steps.Take Pending v ∷ done) inside.1 (and_right _ _ p) (and_right _ _ e)
    (pending_taken words v pending enables later done no_pending no_enables held))
words_kept words (PutP v ∷ later) pending enables done inside p e held =
    words_kept words later None None (steps.Join Pending v ∷ done) inside.1 (and_right _ _ p) (and_right _ _ e)
    (pending_joined words v pending enables later done (some_same pending v (and_left _ _ p)) (none_same enables (and_left _ _ e)) held)
words_kept words (TakeE v ∷ later) pending enables done inside p e held =
    let no_pending = none_same pending (and_left _ _ p) in
    let no_enables = none_same enables (and_left _ _ e) in
    let free = false_of (hand_holds (shape_setting words) Enabled v done) (λ h. empty_hand enables v no_enables (held.enables_held v h)) in
    and_of _ _ (ap not (none_hand (shape_setting words) Enabled v done held.unpaused free))
    (words_kept words later None (Some v) (steps.Take Enabled v ∷ done) inside.1 (and_right _ _ p) (and_right _ _ e)
    (enables_taken words v pending enables later done inside.0 no_pending no_enables held))
words_kept words (PutE v ∷ later) pending enables done inside p e held =
    let in_hand = some_same enables v (and_left _ _ e) in
    let no_pending = none_same pending (and_left _ _ p) in
    and_of _ _ (ap not (none_new (shape_setting words) Enabled v done held.unpaused
    (not_filled words v pending enables (PutE v ∷ later) done in_hand held)))
    (words_kept words later None None (steps.Put Enabled v ∷ done) inside.1 (and_right _ _ p) (and_right _ _ e)
    (enables_put words v pending enables later done no_pending in_hand held))
words_kept words (x ∷ later) pending enables done inside p e held =
    let no_pending = none_same pending (and_left _ _ p) in
    let no_enables = none_same enables (and_left _ _ e) in
    words_kept words later None None (onto (access_of x) done) inside.1 (and_right _ _ p) (and_right _ _ e) (record {
      pending_held = λ w h. empty_hand pending w no_pending (held.pending_held w h);
      enables_held = λ w h. empty_hand enables w no_enables (held.enables_held w h);
      filled = λ w h. ((held.filled w h).0, λ f. no_number f);
      taken = λ w f. no_number f;
      once = held.once;
      unpaused = unpaused_on x done held.unpaused;
    })
