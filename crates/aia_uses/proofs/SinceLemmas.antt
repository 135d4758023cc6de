-- The words on what the host was told since say what happened since.
use Rattle.std.proofs.Common.{◌≡◌, ℕ, true, false, not, [], ◌∷◌, Option, Some, None, inl, inr, refl, sym, ap, ◌∙◌}
use Rattle.std.proofs.lemmas.Bool.{and_parts, and_from, or_cases, or_left, or_right, not-true, false≢true, false_from_ne_true}
use Rattle.aia_regs.specs.BitUpdate.{BitUpdate}
use Rattle.aia_regs.specs.BitUpdate.BitUpdate.{Ask, Clear, Nothing}
use Rattle.aia_vcpu.specs.Vms.{Vcpu}
use Rattle.aia_vcpu.proofs.VmLemmas.{same_vcpu}
use Rattle.aia_model.specs.Event.{Event, History}
use Rattle.aia_model.specs.Notice.{noticed}
use Rattle.aia_model.specs.FileAfter.{pending_said}
use Rattle.aia_model.specs.FileOf.{FileName, select_of, file_of, deed_at}
use Rattle.aia_model.proofs.MoveLemmas.{is_itself}
use Rattle.aia_laws.specs.Told.{is_ask, is_clear, begins_leave, is_to_be_told, names_vcpu, host_pending_said, noticed_since, told_since, cleared_since, cleared_since_notice}
use Rattle.aia_uses.specs.Since.{HappenedSince, HappenedAfter, IsToBeTold}

ask_of : (word : BitUpdate) → is_ask word ≡ true → word ≡ Ask
ask_of Ask e = refl
ask_of Clear e = absurd (cc)
ask_of Nothing e = absurd (cc)

clear_of : (word : BitUpdate) → is_clear word ≡ true → word ≡ Clear
clear_of Clear e = refl
clear_of Ask e = absurd (cc)
clear_of Nothing e = absurd (cc)

notice_of : (o : Option Vcpu) (g : Vcpu) → names_vcpu o g ≡ true → o ≡ Some g
notice_of None g e = absurd (cc)
notice_of (Some x) g e = ap Some (sym (same_vcpu g x e))

told_of : (past : History) (event : Event) (g : Vcpu) (i : ℕ) → not (is_to_be_told past event g i) ≡ true → ¬ IsToBeTold g i past event
told_of past event g i e is = absurd (false≢true (sym (not-true _ e) ∙ anew is))
  where
    anew : IsToBeTold g i past event → is_to_be_told past event g i ≡ true
    anew (inl begun) = or_left _ _ (ap (λ x. begins_leave past x g) begun.0 ∙ and_from _ _ (is_itself g) begun.1)
    anew (inr asks) = or_right _ _ (ap is_ask asks)

pub noticed_shown : (h : History) (g : Vcpu) (i : ℕ) → noticed_since h g i ≡ true
    → HappenedSince (λ past event. noticed past event ≡ Some g) (IsToBeTold g i) h
unfolding noticed_since
noticed_shown [] g i e = false≢true e
noticed_shown (event ∷ past) g i e = elim (or_cases (names_vcpu (noticed past event) g) _ e) [
  | inl now ↦ inl (notice_of (noticed past event) g now)
  | inr before ↦ let parts = and_parts _ (noticed_since past g i) before in inr (told_of past event g i parts.0, noticed_shown past g i parts.1)
]

pub told_shown : (h : History) (f : FileName) (n : ℕ) (g : Vcpu) (i : ℕ) → told_since h f n g i ≡ true
    → HappenedSince (λ past event. pending_said (select_of past f) (file_of past f) (deed_at f past event) n ≡ Ask) (IsToBeTold g i) h
unfolding told_since
told_shown [] f n g i e = false≢true e
told_shown (event ∷ past) f n g i e = elim (or_cases (is_ask (host_pending_said past event f n)) _ e) [
  | inl now ↦ inl (ask_of _ now)
  | inr before ↦ let parts = and_parts _ (told_since past f n g i) before in inr (told_of past event g i parts.0, told_shown past f n g i parts.1)
]

cleared_shown : (h : History) (f : FileName) (n : ℕ) (g : Vcpu) (i : ℕ) → cleared_since h f n g i ≡ true
    → HappenedSince (λ past event. pending_said (select_of past f) (file_of past f) (deed_at f past event) n ≡ Clear) (IsToBeTold g i) h
unfolding cleared_since
cleared_shown [] f n g i e = false≢true e
cleared_shown (event ∷ past) f n g i e = elim (or_cases (is_clear (host_pending_said past event f n)) _ e) [
  | inl now ↦ inl (clear_of _ now)
  | inr before ↦ let parts = and_parts _ (cleared_since past f n g i) before in
      inr (told_of past event g i parts.0, cleared_shown past f n g i parts.1)
]

pub none_cleared : (h : History) (f : FileName) (n : ℕ) (g : Vcpu) (i : ℕ)
    → ¬ HappenedSince (λ past event. pending_said (select_of past f) (file_of past f) (deed_at f past event) n ≡ Clear) (IsToBeTold g i) h
    → cleared_since h f n g i ≡ false
none_cleared h f n g i none = false_from_ne_true (cleared_since h f n g i) (λ e. none (cleared_shown h f n g i e))

not_noticed : (past : History) (event : Event) (g : Vcpu) → not (names_vcpu (noticed past event) g) ≡ true → ¬ (noticed past event ≡ Some g)
not_noticed past event g e is = false≢true (sym (not-true _ e) ∙ ap (λ o. names_vcpu o g) is ∙ is_itself g)

after_notice_shown : (h : History) (f : FileName) (n : ℕ) (g : Vcpu) → cleared_since_notice h f n g ≡ true
    → HappenedAfter (λ past event. pending_said (select_of past f) (file_of past f) (deed_at f past event) n ≡ Clear)
    (λ past event. noticed past event ≡ Some g) h
unfolding cleared_since_notice
after_notice_shown [] f n g e = false≢true e
after_notice_shown (event ∷ past) f n g e =
    let parts = and_parts (not (names_vcpu (noticed past event) g)) _ e in (
      not_noticed past event g parts.0,
      elim (or_cases (is_clear (host_pending_said past event f n)) _ parts.1) [
        | inl now ↦ inl (clear_of _ now)
        | inr before ↦ inr (after_notice_shown past f n g before)
      ],
    )

pub none_after_notice : (h : History) (f : FileName) (n : ℕ) (g : Vcpu)
    → ¬ HappenedAfter (λ past event. pending_said (select_of past f) (file_of past f) (deed_at f past event) n ≡ Clear)
    (λ past event. noticed past event ≡ Some g) h → cleared_since_notice h f n g ≡ false
none_after_notice h f n g none = false_from_ne_true (cleared_since_notice h f n g) (λ e. none (after_notice_shown h f n g e))
