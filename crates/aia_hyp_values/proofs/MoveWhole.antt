-- A whole move: it begins, and all its steps are done.
use Rattle.std.proofs.Common.{◌≡◌, ℕ, zero, suc, ◌+◌, ◌≤◌, Bool, true, false, ◌&&◌, not, cond, nat_lt, List, is_none, ◌∷◌, Option, Some, None, unwrap_or, refl, sym, ap, subst, ◌∙◌, arith}
use Rattle.std.proofs.lemmas.Bool.{cond-false, and_parts, lt-ltb, ltb-true, eqb-true}
use Rattle.std.proofs.lemmas.Bool.Decides.{nat_tests}
use Rattle.std.proofs.lemmas.Option.{none-some}
use Rattle.aia_vcpu.specs.declared.vm.Vm.{Vm}
use Rattle.aia_vcpu.specs.Vms.{Vcpu, vcpu_of, is_vcpu_in}
use Rattle.aia_vcpu.specs.Home.{Home, old_end, new_end, rests_in_memory, is_moving, one_more}
use Rattle.aia_vcpu.specs.Plans.{is_at_last}
use Rattle.aia_vcpu.specs.declared.rest.Rest.TheVariants.{Parked}
use Rattle.aia_vcpu.specs.Home.Home.{InMemory, OnWay}
use Rattle.aia_fabric_values.specs.declared.found.Found.{Found}
use Rattle.aia_model.specs.declared.line.Line.TheVariants as lines
use Rattle.aia_model.specs.declared.answer.Answer.{Answer}
use Rattle.aia_model.specs.declared.answer.Answer.TheVariants.{Okay, Refused}
use Rattle.aia_model.specs.declared.refusal.Refusal.{Refusal}
use Rattle.aia_model.specs.declared.refusal.Refusal.TheVariants as words
use Rattle.aia_model.specs.Event.{History, has_machine, has_hart, file_words}
use Rattle.aia_model.specs.Event.Event.{Began}
use Rattle.aia_model.specs.Move.{WantedMove, wanted_move}
use Rattle.aia_model.specs.Move.WantedMove.{Arrives, Leaves, Shifts}
use Rattle.aia_model.specs.Vms.{has_vcpu}
use Rattle.aia_model.specs.Passes.{passes_of, passes_for}
use Rattle.aia_model.specs.Event.Event.{Stepped}
use Rattle.aia_model.specs.Aim.{aimed_by}
use Rattle.aia_vcpu.specs.Aims.{aims_done, aims_step, is_aiming, aimed, further, AreAimed}
use Rattle.aia_vcpu.specs.Plans.{steps_done, plan_steps}
use Rattle.aia_vcpu.proofs.HomeLemmas.{not_the_last}
use Rattle.aia_hyp_values.specs.Passes.{AimsBy, StepsAim}
use Rattle.aia_model.specs.HomeOf.{home, free_file}
use Rattle.aia_model.specs.Refusal.{refusal}
use Rattle.aia_model.proofs.FlightLemmas.{words_first, home_stepped, passes_stepped}
use Rattle.aia_model.specs.Answer.{answer, steps_taken, steps_of, line_taken, step_taken}
use Rattle.aia_model.proofs.RefusalLemmas.{unless_parked}
use Rattle.aia_model.proofs.AnswerLemmas.{answered, arrive_refusal, leave_refusal, shift_refusal}
use Rattle.aia_model.proofs.BeginLemmas.{begun}
use Rattle.aia_model.specs.declared.want.Want.{Want}
use Rattle.aia_model.specs.declared.want.Want.TheVariants as wants
use Rattle.aia_hyp_values.specs.Core.{CoreState, record_of, home_in}
use Rattle.aia_fabric_values.specs.Found.{IsFound}
use Rattle.aia_hyp_values.specs.Moves.{UnlessRefused, WholeAims, move_begun, MoveBegins, MoveGoes}
use Rattle.aia_hyp_values.specs.Stands.{CoreStands, CoreTakes, StandsForSome, line_served}

-- ---- histories

-- one step more is the newest event
pub one_step_more : (i : ℕ) (g : Vcpu) (h : History) → steps_taken (suc i) g h ≡ step_taken g (steps_taken i g h)
one_step_more zero g h = refl
one_step_more (suc i) g h = one_step_more i g (step_taken g h)

-- steps leave the machine, and pass nothing
pub same_width : (i : ℕ) (g : Vcpu) (h : History) → file_words (steps_taken i g h) ≡ file_words h
same_width zero g h = refl
same_width (suc i) g h = same_width i g (step_taken g h) ∙ words_first g h

same_passes : (i : ℕ) (g : Vcpu) (h : History) → passes_for (steps_taken i g h) g ≡ passes_for h g
same_passes zero g h = refl
same_passes (suc i) g h = same_passes i g (step_taken g h) ∙ passes_stepped g g h

-- ---- how far a move has come

-- a home is on a way of the move, whose steps are those between its ends
abbrev IsOn : WantedMove → Home → Type 0
IsOn move (OnWay way at) = (words : ℕ) → steps_of words move ≡ plan_steps (old_end way) (new_end way) words
IsOn move there = ⊥

-- with so many of its steps done, those that aim among them
pub record IsAt (move : WantedMove) (passes i : ℕ) (there : Home) : Type 0 where
  pub on : IsOn move there
  pub count : steps_done there + aims_done there ≡ i
  pub few : aims_done there ≤ passes

last_at : (move : WantedMove) (passes i : ℕ) (there : Home) (words : ℕ) → AreAimed passes there → IsAt move passes i there
    → is_at_last words there ≡ true → i + 1 ≡ steps_of words move + passes
last_at move passes i (OnWay way at) words aimed is last =
    let end : at.steps + 1 ≡ plan_steps (old_end way) (new_end way) words = eqb-true _ _ last in
    let far = not_the_last way words in
    let all = aimed.all (lt-ltb (aims_step (OnWay way at)) at.steps (omega (arith, end, far))) in
    let most : passes ≤ at.aims = grind (arith, nat_tests) in
    let few = is.few in let count = is.count in let same = is.on words in
    omega (arith, end, most, few, count, same)
last_at move passes i there words aimed is last = absurd is.on

on_aimed : (move : WantedMove) (there : Home) → IsOn move there → IsOn move (aimed there) × (steps_done (aimed there) ≡ steps_done there)
    × (aims_done (aimed there) ≡ suc (aims_done there))
on_aimed move (OnWay way at) on = (on, refl, omega arith)
on_aimed move there on = absurd on

on_more : (move : WantedMove) (there : Home) → IsOn move there → IsOn move (one_more there)
    × (steps_done (one_more there) ≡ suc (steps_done there)) × (aims_done (one_more there) ≡ aims_done there)
on_more move (OnWay way at) on = (on, omega arith, refl)
on_more move there on = absurd on

next_at : (move : WantedMove) (passes i words : ℕ) (there : Home) → IsAt move passes i there → is_at_last words there ≡ false
    → IsAt move passes (suc i) (further passes words there)
next_at move passes i words there is more = by_aim (is_aiming passes there) refl
  where
    by_aim : (b : Bool) → is_aiming passes there ≡ b → IsAt move passes (suc i) (further passes words there)
    by_aim true e =
        let then = on_aimed move there is.on in
        let low = ltb-true (aims_done there) passes (and_parts _ (nat_lt (aims_done there) passes) e).1 in
        let count = is.count in let steps = then.1 in let aims = then.2 in
        rw e (record { on = then.0; count = omega (arith, count, steps, aims); few = omega (arith, low, aims) })
    by_aim false e =
        let then = on_more move there is.on in
        let count = is.count in let few = is.few in let steps = then.1 in let aims = then.2 in
        rw e (rw more (record { on = then.0; count = omega (arith, count, steps, aims); few = omega (arith, few, aims) }))

moving_at : (move : WantedMove) (there : Home) → IsOn move there → is_moving there ≡ true
moving_at move (OnWay way at) e = refl
moving_at move there e = absurd e

-- ---- it begins where its line is not refused

-- a word that comes first is not the answer
passed : (b : Bool) (word : Refusal) (later : Option Answer) → Okay ≡ unwrap_or (cond b (Some (Refused word)) later) Okay → (b ≡ false)
    × (Okay ≡ unwrap_or later Okay)
passed true word later e = absurd (cc)
passed false word later e = (refl, e)

passed_parked : (there : Home) (later : Option Answer) → Okay ≡ unwrap_or (unless_parked there later) Okay → (there ≡ InMemory Parked)
    × (Okay ≡ unwrap_or later Okay)
passed_parked (InMemory Parked) later e = (refl, e)
passed_parked there later e = absurd (cc)

of_not : (b : Bool) → not b ≡ false → b ≡ true
of_not true e = refl
of_not false e = absurd (cc)

-- what an accepted line tells
pub record Accepts (h : History) (line_refusal : Option Answer) (move : WantedMove) (g : Vcpu) : Type 0 where
  pub accepted : line_refusal ≡ None
  pub begun : IsAt move (passes_for h g) 0 (home (Began move ∷ h) g)

module _ (h : History) (vm vcpu : ℕ) (machine : has_machine h ≡ true) where
  abbrev its : Home
  its = home h (vcpu_of vm vcpu)

  accepts : (want : Want) → refusal h (lines.Move vm vcpu want) ≡ None
      → Accepts h (refusal h (lines.Move vm vcpu want)) (wanted_move (vcpu_of vm vcpu) want) (vcpu_of vm vcpu)
  accepts want e =
      let move = wanted_move (vcpu_of vm vcpu) want in
      let first = begun h vm vcpu want e in
      record {
        accepted = e;
        begun = subst (IsAt move (passes_for h (vcpu_of vm vcpu)) 0) (sym first.at_home)
            (record { on = first.steps; count = refl; few = omega arith });
      }

  leave_accepts : Okay ≡ unwrap_or (refusal h (lines.Move vm vcpu wants.Leave)) Okay
      → Accepts h (refusal h (lines.Move vm vcpu wants.Leave)) (Leaves (vcpu_of vm vcpu)) (vcpu_of vm vcpu)
  leave_accepts e =
      let is = leave_refusal h vm vcpu machine in
      let range = passed (not (has_vcpu h (vcpu_of vm vcpu))) words.Range _ (e ∙ ap (λ o. unwrap_or o Okay) is) in
      let busy = passed (is_moving its) words.Busy _ range.1 in
      let parked = passed (rests_in_memory its) words.Parked None busy.1 in
      accepts wants.Leave (is ∙ cond-false _ _ _ range.0 ∙ cond-false _ _ _ busy.0 ∙ cond-false _ _ _ parked.0)

  arrive_accepts : (hart : ℕ) → Okay ≡ unwrap_or (refusal h (lines.Move vm vcpu (wants.Arrive hart))) Okay
      → Accepts h (refusal h (lines.Move vm vcpu (wants.Arrive hart))) (Arrives (vcpu_of vm vcpu) hart) (vcpu_of vm vcpu)
  arrive_accepts hart e =
      let is = arrive_refusal h vm vcpu hart machine in
      let range = passed (not (has_vcpu h (vcpu_of vm vcpu) && has_hart h hart)) words.Range _ (e ∙ ap (λ o. unwrap_or o Okay) is) in
      let parked = passed_parked its _ range.1 in
      let full = passed (is_none (free_file h (home h) hart)) words.NoFile None parked.1 in
      accepts (wants.Arrive hart) (is ∙ cond-false _ _ _ range.0
      ∙ ap (λ t. unless_parked t (cond (is_none (free_file h (home h) hart)) (Some (Refused words.NoFile)) None)) parked.0
      ∙ cond-false _ _ _ full.0)

  shift_accepts : (hart : ℕ) → Okay ≡ unwrap_or (refusal h (lines.Move vm vcpu (wants.Shift hart))) Okay
      → Accepts h (refusal h (lines.Move vm vcpu (wants.Shift hart))) (Shifts (vcpu_of vm vcpu) hart) (vcpu_of vm vcpu)
  shift_accepts hart e =
      let is = shift_refusal h vm vcpu hart machine in
      let range = passed (not (has_vcpu h (vcpu_of vm vcpu) && has_hart h hart)) words.Range _ (e ∙ ap (λ o. unwrap_or o Okay) is) in
      let busy = passed (is_moving its) words.Busy _ range.1 in
      let parked = passed (rests_in_memory its) words.Parked _ busy.1 in
      let full = passed (is_none (free_file h (home h) hart)) words.NoFile None parked.1 in
      accepts (wants.Shift hart) (is ∙ cond-false _ _ _ range.0 ∙ cond-false _ _ _ busy.0 ∙ cond-false _ _ _ parked.0 ∙ cond-false _ _ _ full.0)

  answer_is : (want : Want) → answer h (lines.Move vm vcpu want) ≡ unwrap_or (refusal h (lines.Move vm vcpu want)) Okay
  answer_is want = answered h (lines.Move vm vcpu want) _ refl

  pub okay_accepts : (want : Want) → Okay ≡ answer h (lines.Move vm vcpu want)
      → Accepts h (refusal h (lines.Move vm vcpu want)) (wanted_move (vcpu_of vm vcpu) want) (vcpu_of vm vcpu)
  okay_accepts wants.Leave e = leave_accepts (e ∙ answer_is wants.Leave)
  okay_accepts (wants.Arrive hart) e = arrive_accepts hart (e ∙ answer_is (wants.Arrive hart))
  okay_accepts (wants.Shift hart) e = shift_accepts hart (e ∙ answer_is (wants.Shift hart))

-- ---- the loop

-- Some steps of the move are done, and it is not at its end; and each has aimed what it aims.
pub record UnderWay {T : Type 0} (aim : T → ℕ → ℕ → T → Type 0) (now : CoreState) (told told_now : T) (h : History) (vm vcpu : ℕ)
    (want : Want) : Type 0 where
  pub accepted : refusal h (lines.Move vm vcpu want) ≡ None
  pub steps : ℕ
  pub stands : CoreStands now (steps_taken steps (vcpu_of vm vcpu) (Began (wanted_move (vcpu_of vm vcpu) want) ∷ h))
  pub is_at : IsAt (wanted_move (vcpu_of vm vcpu) want) (passes_for h (vcpu_of vm vcpu)) steps
      (home (steps_taken steps (vcpu_of vm vcpu) (Began (wanted_move (vcpu_of vm vcpu) want) ∷ h)) (vcpu_of vm vcpu))
  pub aims : StepsAim aim steps (vcpu_of vm vcpu) (Began (wanted_move (vcpu_of vm vcpu) want) ∷ h) told told_now

pub record SoFar {T : Type 0} (aim : T → ℕ → ℕ → T → Type 0) (old now : CoreState) (told told_now : T) (who : Found) (want : Want) : Type 0 where
  pub is_who : IsFound now.world who
  pub moving : is_moving (home_in (record_of now (vcpu_of who.vm who.vcpu)).stay) ≡ true
  pub under : (h : History) → CoreStands old h → UnderWay aim now told told_now h who.vm who.vcpu want

none_by_begin : (h : History) (move : WantedMove) (g : Vcpu) → passes_for (Began move ∷ h) g ≡ passes_for h g
unfolding passes_of
none_by_begin h move g = refl

pub first_step : {T : Type 0} (aim : T → ℕ → ℕ → T → Type 0) (told : T) (old now : CoreState) (who : Found) (want : Want)
    → MoveBegins old now who.vm who.vcpu want Okay → StandsForSome old → IsFound now.world who → SoFar aim old now told told who want
first_step {T} aim told old now who want begins some is =
    let g = vcpu_of who.vm who.vcpu in
    let way = λ (h : History) (stands : CoreStands old h). (
    let tells = okay_accepts h who.vm who.vcpu stands.there want (begins.answers h stands) in
    let u : UnderWay aim now told told h who.vm who.vcpu want = record {
      accepted = tells.accepted;
      steps = 0;
      stands = subst (λ (o : Option Answer). CoreStands now (move_begun o h (wanted_move g want))) tells.accepted (begins.begins h stands);
      is_at = tells.begun;
      aims = refl;
    } in u) in
    record {
      is_who = is;
      moving = let u = way some.past some.stands in ap is_moving
          (u.stands.vcpus g (subst (λ (vs : List Vm). is_vcpu_in vs g ≡ true) u.stands.vms is.there)).same_home
          ∙ moving_at (wanted_move g want) _ u.is_at.on;
      under = way;
    }

pub next_step : {T : Type 0} (aim : T → ℕ → ℕ → T → Type 0) (told told_now told_later : T) (old now later : CoreState) (who : Found) (want : Want)
    → SoFar aim old now told told_now who want → MoveGoes now later (vcpu_of who.vm who.vcpu) false
    → ((h : History) → CoreStands now h → AimsBy aim (aimed_by h (Stepped (vcpu_of who.vm who.vcpu))) told_now told_later)
    → IsFound later.world who → SoFar aim old later told told_later who want
next_step {T} aim told told_now told_later old now later who want so_far goes aims is =
    let g = vcpu_of who.vm who.vcpu in
    record {
      is_who = is;
      moving = goes.moving refl;
      under = λ h stands.
          let u = so_far.under h stands in
          let begun = Began (wanted_move g want) ∷ h in
          let past = steps_taken u.steps g begun in
          let same : passes_for past g ≡ passes_for h g = same_passes u.steps g begun ∙ none_by_begin h (wanted_move g want) g in
          record {
            accepted = u.accepted;
            steps = suc u.steps;
            stands = subst (CoreStands later) (sym (one_step_more u.steps g begun)) (goes.stands past u.stands);
            is_at = subst (λ (x : History). IsAt (wanted_move g want) (passes_for h g) (suc u.steps) (home x g)) (sym (one_step_more u.steps g begun))
                (subst (IsAt (wanted_move g want) (passes_for h g) (suc u.steps))
                (sym (home_stepped g past ∙ ap (λ n. further n (file_words past) (home past g)) same))
                (next_at (wanted_move g want) (passes_for h g) u.steps (file_words past) (home past g) u.is_at (sym (goes.at_last past u.stands))));
            aims = (told_now, u.aims, aims past u.stands);
          };
    }

-- ---- the end

pub whole_line : (h : History) (vm vcpu : ℕ) (want : Want)
    → line_taken h (lines.Move vm vcpu want) ≡ steps_taken
    (steps_of (file_words h) (wanted_move (vcpu_of vm vcpu) want) + passes_for h (vcpu_of vm vcpu)) (vcpu_of vm vcpu)
    (Began (wanted_move (vcpu_of vm vcpu) want) ∷ h)
whole_line h vm vcpu wants.Leave = refl
whole_line h vm vcpu (wants.Arrive hart) = refl
whole_line h vm vcpu (wants.Shift hart) = refl

-- all its steps are then done
full_count : {T : Type 0} (aim : T → ℕ → ℕ → T → Type 0) (told told_now : T) (now later : CoreState) (h : History) (who : Found) (want : Want)
    → MoveGoes now later (vcpu_of who.vm who.vcpu) true → (u : UnderWay aim now told told_now h who.vm who.vcpu want)
    → suc u.steps ≡ steps_of (file_words h) (wanted_move (vcpu_of who.vm who.vcpu) want) + passes_for h (vcpu_of who.vm who.vcpu)
full_count {T} aim told told_now now later h who want goes u =
    let g = vcpu_of who.vm who.vcpu in
    let move = wanted_move g want in
    let begun = Began move ∷ h in
    let past = steps_taken u.steps g begun in
    let same : passes_for past g ≡ passes_for h g = same_passes u.steps g begun ∙ none_by_begin h move g in
    let aimed = subst (λ n. AreAimed n (home past g)) same (u.stands.passes.aimed g) in
    let full = last_at move (passes_for h g) u.steps (home past g) (file_words past) aimed u.is_at (sym (goes.at_last past u.stands)) in
    let words = ap (λ w. steps_of w move) (same_width u.steps g begun) in
    omega (arith, full, words)

pub all_steps : {T : Type 0} (aim : T → ℕ → ℕ → T → Type 0) (told told_now : T) (old now later : CoreState) (who : Found) (want : Want)
    → SoFar aim old now told told_now who want → MoveGoes now later (vcpu_of who.vm who.vcpu) true
    → CoreTakes old later (lines.Move who.vm who.vcpu want) Okay
all_steps {T} aim told told_now old now later who want so_far goes =
    let g = vcpu_of who.vm who.vcpu in
    let line = lines.Move who.vm who.vcpu want in
    let move = wanted_move g want in
    record {
      answers = λ h stands. let u = so_far.under h stands in ap (λ o. unwrap_or o Okay) (sym u.accepted)
          ∙ sym (answer_is h who.vm who.vcpu stands.there want);
      stands = λ h stands.
          let u = so_far.under h stands in
          let past = steps_taken u.steps g (Began move ∷ h) in
          let count = full_count aim told told_now now later h who want goes u in
          let whole : step_taken g past ≡ line_taken h line = sym (one_step_more u.steps g (Began move ∷ h))
          ∙ ap (λ n. steps_taken n g (Began move ∷ h)) count ∙ sym (whole_line h who.vm who.vcpu want) in
          subst (λ (o : Option Answer). CoreStands later (line_served o h line)) (sym u.accepted)
          (subst (CoreStands later) whole (goes.stands past u.stands));
      unchanged = λ h word stands is. let u = so_far.under h stands in absurd (none-some word (sym u.accepted ∙ is));
    }

-- and all is aimed that they aim
pub all_aims : {T : Type 0} (aim : T → ℕ → ℕ → T → Type 0) (told told_now told_later : T) (old now later : CoreState) (who : Found) (want : Want)
    → SoFar aim old now told told_now who want → MoveGoes now later (vcpu_of who.vm who.vcpu) true
    → ((h : History) → CoreStands now h → AimsBy aim (aimed_by h (Stepped (vcpu_of who.vm who.vcpu))) told_now told_later) → (h : History)
    → CoreStands old h
    → UnlessRefused (refusal h (lines.Move who.vm who.vcpu want)) (WholeAims aim h who.vm who.vcpu want told told_later) (told_later ≡ told)
all_aims {T} aim told told_now told_later old now later who want so_far goes aims h stands =
    let g = vcpu_of who.vm who.vcpu in
    let u = so_far.under h stands in
    let begun = Began (wanted_move g want) ∷ h in
    let more : StepsAim aim (suc u.steps) g begun told told_later = (told_now, u.aims, aims (steps_taken u.steps g begun) u.stands) in
    subst (λ (o : Option Answer). UnlessRefused o (WholeAims aim h who.vm who.vcpu want told told_later) (told_later ≡ told)) (sym u.accepted)
    (subst (λ n. StepsAim aim n g begun told told_later) (full_count aim told told_now now later h who want goes u) more)

-- ---- it is refused

pub refused_whole : (x y : CoreState) (vm vcpu : ℕ) (want : Want) (word : Refusal) → MoveBegins x y vm vcpu want (Refused word)
    → CoreTakes x y (lines.Move vm vcpu want) (Refused word)
refused_whole x y vm vcpu want word begins = record {
  answers = begins.answers;
  stands = λ h stands. by_refusal h stands (refusal h (lines.Move vm vcpu want)) refl;
  unchanged = begins.unchanged;
}
  where
    by_refusal : (h : History) → CoreStands x h → (r : Option Answer) → refusal h (lines.Move vm vcpu want) ≡ r
        → CoreStands y (line_served (refusal h (lines.Move vm vcpu want)) h (lines.Move vm vcpu want))
    by_refusal h stands None e =
        let bad : Refused word ≡ Okay = begins.answers h stands ∙ answer_is h vm vcpu stands.there want
        ∙ ap (λ o. unwrap_or o Okay) e in absurd (cc)
    by_refusal h stands (Some w) e =
        subst (λ (o : Option Answer). CoreStands y (line_served o h (lines.Move vm vcpu want))) (sym e)
        (subst (λ (o : Option Answer). CoreStands y (move_begun o h (wanted_move (vcpu_of vm vcpu) want))) e (begins.begins h stands))

-- and nothing is aimed
pub none_aims : {T : Type 0} (aim : T → ℕ → ℕ → T → Type 0) (told : T) (x y : CoreState) (vm vcpu : ℕ) (want : Want) (word : Refusal)
    → MoveBegins x y vm vcpu want (Refused word) → (h : History) → CoreStands x h
    → UnlessRefused (refusal h (lines.Move vm vcpu want)) (WholeAims aim h vm vcpu want told told) (told ≡ told)
none_aims {T} aim told x y vm vcpu want word begins h stands = by_refusal (refusal h (lines.Move vm vcpu want)) refl
  where
    by_refusal : (r : Option Answer) → refusal h (lines.Move vm vcpu want) ≡ r
        → UnlessRefused (refusal h (lines.Move vm vcpu want)) (WholeAims aim h vm vcpu want told told) (told ≡ told)
    by_refusal None e =
        let bad : Refused word ≡ Okay = begins.answers h stands ∙ answer_is h vm vcpu stands.there want
        ∙ ap (λ o. unwrap_or o Okay) e in absurd (cc)
    by_refusal (Some w) e = subst (λ (o : Option Answer). UnlessRefused o (WholeAims aim h vm vcpu want told told) (told ≡ told)) (sym e) refl
