-- Where an identity may stand that is due, told by three flags of a word: enough for plans of our shape, which take each word once.
use Rattle.std.proofs.Common.{◌≡◌, ℕ, Bool, true, false, not, ◌&&◌, ◌||◌, [], ◌∷◌, inl, inr, refl, ◌∙◌}
use Rattle.std.specs.List.{AllByRecursion}
use Rattle.std.proofs.lemmas.Bool.{false≢true}
use Rattle.plans_rules.specs.declared.step.WhichSet.{WhichSet}
use Rattle.plans_rules.specs.declared.step.AnyStep.{AnyStep}
use Rattle.plans_rules.specs.declared.step.AnyStep.TheVariants.{Pause, Resume}
use Rattle.plans_rules.specs.Setting.{Setting}
use Rattle.plans_rules.specs.Rules.{Done, pauses, resumes, empties, lifts, fills, blanks, is_reached, is_still, brought, may_stand, only_hand, only_new, any_old}
use Rattle.plans_rules.proofs.BoolLaws.{false_of, clash, and_of, or_left, or_right, or_cases}
use Rattle.plans_rules.proofs.Reached.{still_more, reached_more}
use Rattle.plans_rules.proofs.Brought.{two_find, old_after, hand_after, new_after, came, stored_cases, not_left}

-- A step pauses nobody, and resumes nobody.
abbrev pub IsNoPause : AnyStep → Type 0
IsNoPause (Pause p) = ⊥
IsNoPause (Resume p) = ⊥
IsNoPause x = Unit {0}

abbrev pub AllUnpaused : Done → Type 0
AllUnpaused done = AllByRecursion IsNoPause done

pauses_none : (x : AnyStep) (p : ℕ) → IsNoPause x → pauses p x ≡ false
pauses_none (Pause q) p none = absurd none
pauses_none x p none = refl

resumes_none : (x : AnyStep) (p : ℕ) → IsNoPause x → resumes p x ≡ false
resumes_none (Resume q) p none = absurd none
resumes_none x p none = refl

-- A word may hold something in the old place.
abbrev pub old_holds : Setting → WhichSet → ℕ → Done → Bool
old_holds d s w [] = true
old_holds d s w (x ∷ done) = elim (empties s w x) [
  | true ↦ old_holds d s w done && not (is_still d s done)
  | false ↦ old_holds d s w done
]

-- A word may hold something in the hand.
abbrev pub hand_holds : Setting → WhichSet → ℕ → Done → Bool
hand_holds d s w [] = false
hand_holds d s w (x ∷ done) = elim (lifts s w x) [
  | true ↦ old_holds d s w done
  | false ↦ elim (fills s w x) [ true ↦ false | false ↦ hand_holds d s w done ]
]

-- A word that might hold something was joined or put.
abbrev pub is_filled : Setting → WhichSet → ℕ → Done → Bool
is_filled d s w [] = false
is_filled d s w (x ∷ done) = elim (fills s w x) [
  | true ↦ hand_holds d s w done || is_filled d s w done
  | false ↦ is_filled d s w done
]

-- they say no less than where one may stand
pub record Flagged (d : Setting) (s : WhichSet) (w : ℕ) (done : Done) (o h n : Bool) : Type 0 where
  pub old : o ≡ true → old_holds d s w done ≡ true
  pub hand : h ≡ true → hand_holds d s w done ≡ true
  pub new : n ≡ true → (is_reached d s done || is_filled d s w done) ≡ true

busy_law : (e still now old : Bool) → (still ≡ true → now ≡ true) → now ≡ false → (still ≡ false → old ≡ true)
    → (elim e [ true ↦ old && not still | false ↦ old ]) ≡ true
busy_law true true now old more busy held = clash now (more refl) busy
busy_law true false now old more busy held = and_of old true (held refl) refl
busy_law false true now old more busy held = clash now (more refl) busy
busy_law false false now old more busy held = held refl

-- whoever stores there leaves it so that it may hold something
busy_holds : (d : Setting) (s : WhichSet) (w : ℕ) (done : Done) → AllUnpaused done → is_still d s done ≡ false → old_holds d s w done ≡ true
busy_holds d s w [] on busy = refl
busy_holds d s w (x ∷ done) on busy = busy_law (empties s w x) (is_still d s done) (is_still d s (x ∷ done)) (old_holds d s w done)
    (still_more d s x done (λ p. resumes_none x p on.0)) busy (busy_holds d s w done on.1)

old_law : (e a old still : Bool) → (a ≡ true → old ≡ true) → old_after e a ≡ true → (elim e [ true ↦ old && not still | false ↦ old ]) ≡ true
old_law true a old still held is = absurd (false≢true is)
old_law false a old still held is = held is

hand_law : (l f a k old hand : Bool) → (a ≡ true → old ≡ true) → (k ≡ true → hand ≡ true) → hand_after l f a k ≡ true
    → (elim l [ true ↦ old | false ↦ elim f [ true ↦ false | false ↦ hand ] ]) ≡ true
hand_law true f a k old hand lifted held is = lifted (elim (or_cases a false is) [ inl here ↦ here | inr none ↦ absurd (false≢true none) ])
hand_law false true a k old hand lifted held is = absurd (false≢true is)
hand_law false false a k old hand lifted held is = held is

more_new : (r now filled more : Bool) → (r ≡ true → now ≡ true) → (filled ≡ true → more ≡ true) → (r || filled) ≡ true → (now || more) ≡ true
more_new true now filled more reached fill e = or_left now more (reached refl)
more_new false now filled more reached fill e = or_right now more (fill e)

new_law : (f z k b r now hand filled : Bool) → (r ≡ true → now ≡ true) → (k ≡ true → hand ≡ true) → (b ≡ true → (r || filled) ≡ true)
    → new_after f z k b ≡ true → (now || (elim f [ true ↦ hand || filled | false ↦ filled ])) ≡ true
new_law true z k b r now hand filled reached held there is = elim (or_cases k _ is) [
  | inl here ↦ or_right now _ (or_left hand filled (held here))
  | inr left ↦ more_new r now filled (hand || filled) reached (λ e. or_right hand filled e) (there (not_left z b left).1)
]
new_law false z k b r now hand filled reached held there is = more_new r now filled filled reached (λ e. e) (there (not_left z b is).1)

pub flagged : (d : Setting) (s : WhichSet) (w : ℕ) (done : Done) (o h n : Bool) → AllUnpaused done → may_stand d s w done o h n ≡ true → Flagged d s w done o h n
flagged d s w [] true true n on may = absurd (false≢true may)
flagged d s w [] true false true on may = absurd (false≢true may)
flagged d s w [] true false false on may = record { old = λ e. refl; hand = λ e. absurd (false≢true e); new = λ e. absurd (false≢true e) }
flagged d s w [] false h n on may = absurd (false≢true may)
flagged d s w (x ∷ done) o h n on may =
    elim (or_cases (brought (empties s w x) (lifts s w x) (fills s w x) (blanks s w x) (may_stand d s w done) o h n) _ may) [
      | inl there ↦ (let from = came (empties s w x) (lifts s w x) (fills s w x) (blanks s w x) (may_stand d s w done) o h n there in
          let was = flagged d s w done from.a from.k from.b on.1 from.stood in record {
            old = λ e. old_law (empties s w x) from.a _ (is_still d s done) was.old (from.old ∙ e);
            hand = λ e. hand_law (lifts s w x) (fills s w x) from.a from.k _ _ was.old was.hand (from.hand ∙ e);
            new = λ e. new_law (fills s w x) (blanks s w x) from.k from.b (is_reached d s done) _ _ _ (reached_more d s x done (λ p. pauses_none x p on.0)) was.hand was.new
                (from.new ∙ e);
          })
      | inr alone ↦ elim (stored_cases d s (x ∷ done) o h n alone) [
        | inl old ↦ record {
          old = λ e. busy_holds d s w (x ∷ done) on old.3;
          hand = λ e. clash h e old.1;
          new = λ e. clash n e old.2;
        }
        | inr new ↦ record {
          old = λ e. clash o e new.0;
          hand = λ e. clash h e new.1;
          new = λ e. or_left _ _ new.3;
        }
      ]
    ]

-- so where they do not, none may
pub none_old : (d : Setting) (s : WhichSet) (w : ℕ) (done : Done) → AllUnpaused done → old_holds d s w done ≡ false → any_old d s w done ≡ false
none_old d s w done on none = false_of _ (λ some. let found = two_find (λ h n. may_stand d s w done true h n) some in
    clash _ ((flagged d s w done true found.0 found.1 on found.2).old refl) none)

pub none_hand : (d : Setting) (s : WhichSet) (w : ℕ) (done : Done) → AllUnpaused done → hand_holds d s w done ≡ false → only_hand d s w done ≡ false
none_hand d s w done on none = false_of _ (λ some. clash _ ((flagged d s w done false true false on some).hand refl) none)

pub none_new : (d : Setting) (s : WhichSet) (w : ℕ) (done : Done) → AllUnpaused done → (is_reached d s done || is_filled d s w done) ≡ false
    → only_new d s w done ≡ false
none_new d s w done on none = false_of _ (λ some. clash _ ((flagged d s w done false false true on some).new refl) none)
