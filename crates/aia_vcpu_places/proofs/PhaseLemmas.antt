-- What a phase knows of the places of the virtual hart that is moved.
use Rattle.std.proofs.Common.{◌≡◌, ◌≢◌, ℕ, ◌/◌, ◌%◌, ◌<◌, ◌≤◌, Bool, true, false, not, ◌&&◌, ◌||◌, if◌then◌else◌, Option, Some, refl, sym, ap, ◌∙◌, subst, inl, inr, arith}
use Rattle.std.proofs.lemmas.Bool.{cases_lt}
use Rattle.std.proofs.lemmas.Bool.Decides.{nat_tests}
use Rattle.aia_file.specs.InterruptFile.{InterruptFile}
use Rattle.aia_vcpu.specs.declared.place.GuestPlace.{GuestPlace}
use Rattle.aia_vcpu.proofs.HomeLemmas.{is_itself_place}
use Rattle.aia_vcpu.specs.Home.{is_file, end_at, old_end, Home, is_moving, is_place}
use Rattle.aia_vcpu.specs.Home.Home.{OnWay}
use Rattle.aia_vcpu.specs.Home.Way.{Across}
use Rattle.aia_vcpu.specs.Plans.{is_made, is_last_made}
use Rattle.aia_vcpu.specs.declared.access.Access.TheVariants.{TakePending, TakeThreshold, PutThreshold}
use Rattle.aia_vcpu.specs.Phases.{has_come}
use Rattle.aia_vcpu.specs.Phases.Phase.{ClosingPhase, DrainPhase, EnablePhase, LookPhase, LastPhase}
use Rattle.aia_vcpu.specs.BySteps.{old_file, new_file, is_drained, delivery_in_own}
use Rattle.aia_vcpu.specs.Routes.{origin}
use Rattle.aia_vcpu.proofs.PhaseLemmas.{closed_reach, closing_closed, drain_closed, enable_drained, looks_moved, after_enable, after_looks}
use Rattle.aia_word.specs.Sets.{has_bit}
use Rattle.aia_vcpu_places.specs.Places.{Places, TwoSets, old_place, new_place, leads_to}
use Rattle.aia_vcpu_places.specs.Holds.{Hand, Holds, IsEmpty}
use Rattle.aia_vcpu_places.specs.Stores.{AreApart}
use Rattle.aia_vcpu_places.proofs.StayLemmas.{own_sets}

-- the two ends of a move are two
pub two_ends : (there : Home) → is_moving there ≡ true → AreApart there → new_file there ≢ origin there
two_ends (OnWay (Across from to) at) moves apart = λ e. let same : to ≡ from = cc in let itself : is_place from to ≡ true =
    rw same (is_itself_place from) in let no : true ≡ false = sym itself ∙ apart in absurd (cc)
two_ends there moves apart = λ e. absurd (cc)

module _ (words q hart : ℕ) (reach : Option GuestPlace) (v : Places) (there : Home) (hand : Hand) (file : InterruptFile) (saw : Bool)
    (moves : is_moving there ≡ true) (h : Holds words q hart reach v there hand file saw) where
  pub closing_knows : has_come words there ClosingPhase ≡ true → v.in_force ≡ leads_to q hart (new_file there)
  closing_knows come = h.routes.in_force ∙ ap (leads_to q hart) (closed_reach there reach (closing_closed words there moves come) h.routes.may)

  pub drain_knows : has_come words there DrainPhase ≡ true → (v.in_force ≡ leads_to q hart (new_file there)) × (v.stage_in_force ≡ new_file there)
  drain_knows come =
      let both = drain_closed words there moves come in (
        h.routes.in_force ∙ ap (leads_to q hart) (closed_reach there reach both.0 h.routes.may),
        h.routes.stage_in_force ∙ ap (λ b. if b then new_file there else origin there) both.1,
      )

  pub drained_knows : (i : ℕ) → i / 64 < words → is_drained words there (i / 64) ≡ true → (old_place v there).pending i ≡ false
  drained_knows i low drained = sym (ap (λ b. b && (old_place v there).pending i) drained) ∙ h.sets.drained i low

  pub enable_knows : has_come words there EnablePhase ≡ true → (i : ℕ) → i / 64 < words
      → ((old_place v there).pending i ≡ false) × ((new_place v there).pending i ≡ file.pending i)
  enable_knows come i low =
      let both = enable_drained words (i / 64) there moves low come in
      let empty = drained_knows i low both.0 in (
        empty,
        sym (h.sets.union i low ∙ ap (λ b. b || ((new_place v there).pending
            i || (is_last_made words there (TakePending (i / 64)) && has_bit hand.word (i % 64)))) empty
            ∙ ap (λ b. (new_place v there).pending i || (b && has_bit hand.word (i % 64))) both.1 ∙ or_false ((new_place v there).pending i)),
      )
    where
      or_false : (b : Bool) → (b || false) ≡ b
      or_false true = refl
      or_false false = refl

  pub looks_knows : has_come words there LookPhase ≡ true → (i : ℕ) → i / 64 < words
      → ((old_place v there).enabled i ≡ false) × ((new_place v there).enabled i ≡ file.enabled i)
  looks_knows come i low =
      let both = looks_moved words (i / 64) there moves low come in
      (h.sets.old_enables i low ∙ ap (λ b. not b && file.enabled i) both.0, h.sets.new_enables i low ∙ ap (λ b. b && file.enabled i) both.1)

-- the file that is left, once only its threshold may be there
pub last_knows : (words q hart : ℕ) (reach : Option GuestPlace) (v : Places) (there : Home) (hand : Hand) (file : InterruptFile) (saw : Bool)
    (p : GuestPlace) → old_file there ≡ Some p
    → has_come words there LastPhase ≡ true → Holds words q hart reach v there hand file saw
    → IsEmpty (record v.own { threshold = 0 }) × (v.own.threshold ≡ (if is_made words there TakeThreshold then 0 else file.threshold))
last_knows words q hart reach v (OnWay way at) hand file saw p old come h =
    let there = OnWay way at in
    let leaves : is_file (old_end way) ≡ true = ap (λ o. is_file (end_at o)) old in
    let looks = after_looks words there refl come in
    let quiet : delivery_in_own there ≡ false = grind (arith, nat_tests) in
    let empty : (i : ℕ) → i / 64 < words → ((old_place v there).pending i ≡ false)
    × ((old_place v there).enabled i ≡ false) = λ i
    low. (
      (enable_knows words q hart reach v there hand file saw refl h (after_enable words there refl looks) i low).0,
      (looks_knows words q hart reach v there hand file saw refl h looks i low).0,
    ) in
    let all = in_file (subst (λ (sets : TwoSets). (i : ℕ) → i / 64 < words → (sets.pending i ≡ false) × (sets.enabled i ≡ false))
    (own_sets v (old_end way) leaves) empty) (λ i g. ((h.sets.past i g).0, (h.sets.past i g).1)) in (
      record {
        pending = λ i. (all i).0;
        enabled = λ i. (all i).1;
        delivery = h.numbers.own_delivery
            ∙ ap (λ b. if b then file.delivery else 0) quiet;
        threshold = refl;
      },
      h.numbers.own_threshold ∙ ap (λ b. if (if b then not (is_made words there TakeThreshold) else is_made words there PutThreshold) then
          file.threshold else 0) leaves ∙ turned (is_made words there TakeThreshold),
    )
  where
    turned : (b : Bool) → (if not b then file.threshold else 0) ≡ (if b then 0 else file.threshold)
    turned true = refl
    turned false = refl

    in_file : ((i : ℕ) → i / 64 < words → (v.own.pending i ≡ false) × (v.own.enabled i ≡ false))
        → ((i : ℕ) → words ≤ i / 64 → (v.own.pending i ≡ false) × (v.own.enabled i ≡ false))
        → (i : ℕ) → (v.own.pending i ≡ false) × (v.own.enabled i ≡ false)
    in_file within past i = elim (cases_lt (i / 64) words) [
      | inl low ↦ within i low
      | inr far ↦ past i far
    ]
last_knows words q hart reach v there hand file saw p old come h = absurd (cc)
