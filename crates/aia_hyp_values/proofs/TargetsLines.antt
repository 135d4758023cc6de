-- The targets of sources stand for the history with a line: one that passes a source, a step of a
-- move, a whole move, and any that aims nothing.
use Rattle.std.proofs.Common.{◌≡◌, ℕ, zero, suc, ◌+◌, ◌<◌, Bool, true, false, not, if◌then◌else◌, List, [], ◌∷◌, length, Option, Some, None, refl, sym, ap, subst, ◌∙◌, arith}
use Rattle.std.proofs.lemmas.Bool.{cond-true, false≢true}
use Rattle.aia_vcpu.specs.Vms.{Vcpu, vcpu_of}
use Rattle.aia_vcpu.specs.Routes.{is_at_fence}
use Rattle.aia_vcpu.specs.Aims.{is_aiming, aims_done}
use Rattle.aia_vcpu.proofs.PassLemmas.{aim_is_no_fence}
use Rattle.aia_move_values.specs.Targets.{TargetMap, AimsOne}
use Rattle.aia_model.specs.declared.answer.Answer.{Answer}
use Rattle.aia_model.specs.declared.answer.Answer.TheVariants.{Refused}
use Rattle.aia_model.specs.declared.refusal.Refusal.TheVariants.{Idle}
use Rattle.aia_fabric_values.specs.declared.found.Found.{Found}
use Rattle.aia_fabric_values.specs.Found.{IsFound}
use Rattle.aia_model.specs.declared.line.Line.TheVariants.{Machine, Step}
use Rattle.aia_model.specs.declared.line.Line.TheVariants as lines
use Rattle.aia_model.specs.declared.want.Want.{Want}
use Rattle.std.specs.Int.{is_in_range}
use Rattle.aia_model.specs.Event.{Event, History, file_words, sources_of}
use Rattle.aia_model.specs.Event.Event.{Accepted, Began, Stepped, Landed}
use Rattle.aia_model.specs.Act.{Act, newest}
use Rattle.aia_model.specs.Act.Act.{Made}
use Rattle.aia_model.specs.AddressOf.{addresses_of}
use Rattle.aia_model.specs.Sent.{senders, acts_of}
use Rattle.aia_model.specs.Passable.{is_passable}
use Rattle.aia_model.specs.Flight.{flight}
use Rattle.aia_model.specs.Move.{wanted_move}
use Rattle.aia_model.specs.Passes.{PassedSource, passes_of, passes_for, own_pass}
use Rattle.aia_model.specs.HomeOf.{home}
use Rattle.aia_model.specs.Aim.{aim_of, aimed_by}
use Rattle.aia_model.specs.Answer.{oldest_landed, landed_first, step_taken, steps_taken, steps_of}
use Rattle.aia_model.specs.Histories.{MayHappen, IsHistory}
use Rattle.aia_model.specs.Refusal.{refusal}
use Rattle.aia_model.proofs.HistoryLemmas.{line_happens}
use Rattle.aia_model.proofs.FlightLemmas.{home_landed_first}
use Rattle.aia_model.proofs.RefusalLemmas.{pass_allowed}
use Rattle.aia_hyp_values.specs.Moves.{UnlessRefused, WholeAims}
use Rattle.aia_hyp_values.specs.Passes.{AimsBy, StepsAim, TellsOf}
use Rattle.aia_hyp_values.specs.Core.{CoreState, record_of, has_plan}
use Rattle.aia_hyp_values.specs.Stands.{CoreStands, MayPass, line_served}
use Rattle.aia_hyp_values.proofs.MoveLines.{by_home}
use Rattle.aia_hyp_values.specs.Targets.{TargetsStand, StandsWith, LeavesTheAplic}
use Rattle.aia_hyp_values.proofs.MoveWhole.{one_step_more, whole_line}
use Rattle.aia_hyp_values.proofs.TargetsLemmas.{TellsReady, passable_sent, event_targets}

-- ---- landings

-- what lands is nothing to targets
landed_targets : (map : TargetMap) (h : History) (vm k : ℕ) → TargetsStand map h → TargetsStand map (Landed vm k ∷ h)
unfolding passes_of home
landed_targets map h vm k s = record { harts = s.harts; tells = s.tells; ready = s.ready; aimed = s.aimed }

oldest_targets : (map : TargetMap) (count vm : ℕ) (h : History) → TargetsStand map h → TargetsStand map (oldest_landed count vm h)
oldest_targets map zero vm h s = s
oldest_targets map (suc count) vm h s = oldest_targets map count vm (Landed vm 0 ∷ h) (landed_targets map h vm 0 s)

first_targets : (map : TargetMap) (g : Vcpu) (h : History) → TargetsStand map h → TargetsStand map (landed_first g h)
first_targets map g h s = by_fence (is_at_fence (home h g))
  where
    by_fence : (b : Bool) → TargetsStand map (if b then oldest_landed (length (flight h g.vm)) g.vm h else h)
    by_fence true = oldest_targets map (length (flight h g.vm)) g.vm h s
    by_fence false = s

-- before them there was a history whose events may happen
pub oldest_was : (count vm : ℕ) (h : History) → IsHistory (oldest_landed count vm h) → IsHistory h
oldest_was zero vm h good = good
oldest_was (suc count) vm h good = (oldest_was count vm (Landed vm 0 ∷ h) good).1

first_was : (g : Vcpu) (h : History) → IsHistory (landed_first g h) → IsHistory h
first_was g h = by_fence (is_at_fence (home h g))
  where
    by_fence : (b : Bool) → IsHistory (if b then oldest_landed (length (flight h g.vm)) g.vm h else h) → IsHistory h
    by_fence true good = oldest_was (length (flight h g.vm)) g.vm h good
    by_fence false good = good

steps_begin : (count : ℕ) (g : Vcpu) (h : History) → IsHistory (steps_taken count g h) → IsHistory h
steps_begin zero g h good = good
steps_begin (suc count) g h good = first_was g h (steps_begin count g (step_taken g h) good).1

-- ---- steps

module _ {T : Type 0} (view : T → TargetMap) (aim : T → ℕ → ℕ → T → Type 0)
    (aims_one : (old new : T) (s v : ℕ) → aim old s v new → AimsOne (view old) s v (view new)) where
  -- the step aims the same, once what lands before it has landed
  aims_landed : (g : Vcpu) (h : History) (old new : T) → AimsBy aim (aimed_by h (Stepped g)) old new
      → AimsBy aim (aimed_by (landed_first g h) (Stepped g)) old new
  aims_landed g h old new made = by_fence (is_at_fence (home h g)) refl
    where
      none_by : (k : History) → is_at_fence (home k g) ≡ true → aimed_by k (Stepped g) ≡ None
      none_by k at = by_aim (is_aiming (passes_for k g) (home k g)) refl
        where
          by_aim : (b : Bool) → is_aiming (passes_for k g) (home k g) ≡ b
              → (if is_aiming (passes_for k g) (home k g) then Some (aim_of k g (own_pass k g (aims_done (home k g)))) else None) ≡ None
          by_aim true aiming = absurd (false≢true (sym (aim_is_no_fence (passes_for k g) (home k g) aiming) ∙ at))
          by_aim false none = rw none refl

      by_fence : (b : Bool) → is_at_fence (home h g) ≡ b
          → AimsBy aim (aimed_by (landed_first g h) (Stepped g)) old new
      by_fence true at =
          let still : is_at_fence (home (landed_first g h) g) ≡ true = ap is_at_fence (home_landed_first g g h) ∙ at in
          let same : new ≡ old = subst (λ (o : Option Act). AimsBy aim o old new) (none_by h at) made in
          subst (λ (o : Option Act). AimsBy aim o old new) (sym (none_by (landed_first g h) still)) same
      by_fence false none =
          let same : landed_first g h ≡ h = rw none refl in
          subst (λ (k : History). AimsBy aim (aimed_by k (Stepped g)) old new) (sym same) made

  step_targets : (g : Vcpu) (h : History) (old new : T) → IsHistory (step_taken g h) → AimsBy aim (aimed_by h (Stepped g)) old new
      → TargetsStand (view old) h → TargetsStand (view new) (step_taken g h)
  step_targets g h old new good made stands =
      event_targets view aim aims_one (Stepped g) (landed_first g h) old new good.0 good.1 tt tt (aims_landed g h old new made)
      (first_targets (view old) g h stands)

  steps_targets : (count : ℕ) (g : Vcpu) (h : History) (old new : T) → IsHistory (steps_taken count g h) → StepsAim aim count g h old new
      → TargetsStand (view old) h → TargetsStand (view new) (steps_taken count g h)
  steps_targets zero g h old new good same stands = subst (λ (t : T). TargetsStand (view t) h) (sym same) stands
  steps_targets (suc count) g h old new good (between, before, last) stands =
      let more = one_step_more count g h in
      let good_step : IsHistory (step_taken g (steps_taken count g h)) = subst IsHistory more good in
      let was = first_was g (steps_taken count g h) good_step.1 in
      subst (TargetsStand (view new)) (sym more)
      (step_targets g (steps_taken count g h) between new good_step last (steps_targets count g h old between was before stands))

  -- ---- lines

  pub pass_targets : (h : History) (source vm vcpu identity : ℕ) (old new : T) → IsHistory h → TellsOf (view old) h source
      → UnlessRefused (refusal h (lines.Pass source vm vcpu identity))
      (AimsBy aim (aimed_by h (Accepted (lines.Pass source vm vcpu identity))) old new) (new ≡ old) → TargetsStand (view old) h
      → TargetsStand (view new) (line_served (refusal h (lines.Pass source vm vcpu identity)) h (lines.Pass source vm vcpu identity))
  pass_targets h source vm vcpu identity old new good tells made stands = by_refusal (refusal h (lines.Pass source vm vcpu identity)) refl made
    where
      by_refusal : (o : Option Answer) → refusal h (lines.Pass source vm vcpu identity) ≡ o
          → UnlessRefused o (AimsBy aim (aimed_by h (Accepted (lines.Pass source vm vcpu identity))) old new) (new ≡ old)
          → TargetsStand (view new) (line_served o h (lines.Pass source vm vcpu identity))
      by_refusal None may aims = event_targets view aim aims_one (Accepted (lines.Pass source vm vcpu identity)) h old new may good refl
          (tells.ready ∙ (pass_allowed h source vm vcpu identity may).ready) aims stands
      by_refusal (Some word) is same = subst (λ (t : T). TargetsStand (view t) h) (sym same) stands

  pub move_step_targets : (h : History) (vm vcpu : ℕ) (old new : T) → IsHistory h
      → UnlessRefused (refusal h (Step vm vcpu)) (AimsBy aim (aimed_by h (Stepped (vcpu_of vm vcpu))) old new) (new ≡ old)
      → TargetsStand (view old) h → TargetsStand (view new) (line_served (refusal h (Step vm vcpu)) h (Step vm vcpu))
  move_step_targets h vm vcpu old new good made stands = by_refusal (refusal h (Step vm vcpu)) refl made
    where
      by_refusal : (o : Option Answer) → refusal h (Step vm vcpu) ≡ o
          → UnlessRefused o (AimsBy aim (aimed_by h (Stepped (vcpu_of vm vcpu))) old new) (new ≡ old)
          → TargetsStand (view new) (line_served o h (Step vm vcpu))
      by_refusal None may aims = step_targets (vcpu_of vm vcpu) h old new (line_happens h (Step vm vcpu) may good) aims stands
      by_refusal (Some word) is same = subst (λ (t : T). TargetsStand (view t) h) (sym same) stands

  pub whole_targets : (h : History) (vm vcpu : ℕ) (want : Want) (old new : T) → IsHistory h
      → UnlessRefused (refusal h (lines.Move vm vcpu want)) (WholeAims aim h vm vcpu want old new) (new ≡ old) → TargetsStand (view old) h
      → TargetsStand (view new) (line_served (refusal h (lines.Move vm vcpu want)) h (lines.Move vm vcpu want))
  whole_targets h vm vcpu want old new good made stands = by_refusal (refusal h (lines.Move vm vcpu want)) refl made
    where
      by_refusal : (o : Option Answer) → refusal h (lines.Move vm vcpu want) ≡ o
          → UnlessRefused o (WholeAims aim h vm vcpu want old new) (new ≡ old)
          → TargetsStand (view new) (line_served o h (lines.Move vm vcpu want))
      by_refusal None may aims =
          let line = whole_line h vm vcpu want in
          let happens = subst IsHistory line (line_happens h (lines.Move vm vcpu want) may good) in
          let first = steps_begin (steps_of (file_words h) (wanted_move (vcpu_of vm vcpu) want) + passes_for h (vcpu_of vm vcpu)) (vcpu_of vm vcpu)
          (Began (wanted_move (vcpu_of vm vcpu) want) ∷ h) happens in
          subst (TargetsStand (view new)) (sym line)
          (steps_targets (steps_of (file_words h) (wanted_move (vcpu_of vm vcpu) want) + passes_for h (vcpu_of vm vcpu)) (vcpu_of vm vcpu)
          (Began (wanted_move (vcpu_of vm vcpu) want) ∷ h) old new happens aims
          (event_targets view aim aims_one (Began (wanted_move (vcpu_of vm vcpu) want)) h old old first.0 good tt tt refl stands))
      by_refusal (Some word) is same = subst (λ (t : T). TargetsStand (view t) h) (sym same) stands

-- any event that aims nothing
pub still_targets : (map : TargetMap) (h : History) (event : Event) → MayHappen h event → IsHistory h → LeavesTheAplic event
    → aimed_by h event ≡ None → TargetsStand map h → TargetsStand map (event ∷ h)
still_targets map h event may good leaves none stands =
    event_targets (λ (m : TargetMap). m) AimsOne (λ old new s v one. one) event h map map may good leaves (not_passing event none)
    (subst (λ (o : Option Act). AimsBy AimsOne o map map) (sym none) refl) stands
  where
    not_passing : (event : Event) → aimed_by h event ≡ None → TellsReady map event
    not_passing (Accepted (lines.Pass source vm vcpu identity)) none = absurd (cc)
    not_passing (Accepted line) none = tt
    not_passing event none = tt

-- and a step of one that is not moved
pub idle_targets : (x : CoreState) (map : TargetMap) (h : History) (who : Found) → CoreStands x h → IsFound x.world who
    → has_plan (record_of x (vcpu_of who.vm who.vcpu)).stay ≡ false → TargetsStand map h
    → TargetsStand map (line_served (refusal h (Step who.vm who.vcpu)) h (Step who.vm who.vcpu))
idle_targets x map h who stands is idle told =
    let refused : refusal h (Step who.vm who.vcpu) ≡ Some (Refused Idle) = by_home x h who stands is ∙ cond-true _ _ _ (ap not idle) in
    subst (λ (o : Option Answer). TargetsStand map (line_served o h (Step who.vm who.vcpu))) (sym refused) told

-- a source that is there may be passed
pub may_pass_there : (x : CoreState) (map : TargetMap) (h : History) (source : ℕ) → IsHistory h → StandsWith x map h
    → is_in_range 1 (sources_of h) source ≡ true → MayPass x map source
may_pass_there x map h source good stands inside = record {
  past = h;
  happens = good;
  stands = stands.core;
  tells = record { there = inside; ready = stands.targets.tells source inside };
}

-- the machine is made: no source is ready, and nothing is passed
none_made : (harts sources s : ℕ) → is_passable (Made harts sources ∷ []) s ≡ false
unfolding newest addresses_of
none_made harts sources s = refl

none_ready : (harts guests n sources s : ℕ) → is_passable (acts_of (Accepted (Machine harts guests n sources) ∷ [])) s ≡ false
none_ready harts guests n sources s = passable_sent (senders (Made harts sources ∷ [])) (Made harts sources ∷ []) s ∙ none_made harts sources s

no_pass_yet : (harts guests n sources : ℕ) → passes_of (Accepted (Machine harts guests n sources) ∷ []) ≡ []
unfolding passes_of
no_pass_yet harts guests n sources = refl

pub targets_begin : (map : TargetMap) (harts guests n sources : ℕ) → map.harts ≡ harts → ((s : ℕ) → map.ready s ≡ false)
    → TargetsStand map (Accepted (Machine harts guests n sources) ∷ [])
targets_begin map harts guests n sources same none = record {
  harts = same;
  tells = λ s inside. none s ∙ sym (none_ready harts guests n sources s);
  ready = λ p low. absurd (nothing p low);
  aimed = λ p low. absurd (nothing p low);
}
  where
    nothing : (p : ℕ) → p < length (passes_of (Accepted (Machine harts guests n sources) ∷ [])) → ⊥
    nothing p low = omega (arith, low, ap (λ (xs : List PassedSource). length xs) (no_pass_yet harts guests n sources))
