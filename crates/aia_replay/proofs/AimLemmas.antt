-- What a line aims, in a machine that stands: the APLIC then has it.
use Rattle.std.proofs.Common.{◌≡◌, ℕ, zero, suc, ◌<◌, Bool, true, false, cond, [], ◌∷◌, length, Option, Some, None, inl, inr, refl, sym, ap, subst, ◌∙◌, ◌&&◌}
use Rattle.std.specs.List.{AllByRecursion}
use Rattle.std.specs.Int.{is_in_range}
use Rattle.std.proofs.lemmas.Bool.{cases_Bool, and_parts, and_from, ltb-true, true≢false}
use Rattle.aia_vcpu.specs.Vms.{Vcpu, vcpu_of}
use Rattle.aia_vcpu.specs.Home.{Home}
use Rattle.aia_vcpu.specs.Routes.{is_at_fence}
use Rattle.aia_vcpu.specs.Aims.{is_aiming, aims_done}
use Rattle.aia_vcpu.proofs.PassLemmas.{aim_is_no_fence}
use Rattle.aia_model.specs.declared.answer.Answer.{Answer}
use Rattle.aia_model.specs.declared.line.Line.{Line}
use Rattle.aia_model.specs.declared.line.Line.TheVariants as lines
use Rattle.aia_model.specs.Event.{History, sources_of}
use Rattle.aia_model.specs.Event.Event.{Accepted, Began, Stepped, Delivered, Landed, Relayed}
use Rattle.aia_model.specs.Act.{Act, Past}
use Rattle.aia_model.specs.Act.Act.{Aimed}
use Rattle.aia_model.specs.SourceOf.{is_source, is_active_in, delivers_by_msis, keeps_delivery}
use Rattle.aia_model.specs.Passes.{PassedSource, no_pass, passes_of, nth_pass, passes_for, own_pass, has_passes}
use Rattle.aia_model.specs.Aim.{aimed_by, aim_of}
use Rattle.aia_model.specs.HomeOf.{home}
use Rattle.aia_model.specs.Flight.{flight}
use Rattle.aia_model.specs.Histories.{IsHistory}
use Rattle.aia_model.specs.Refusal.{refusal}
use Rattle.aia_model.specs.Sent.{with_act, acts_of}
use Rattle.aia_model.specs.Answer.{oldest_landed, landed_first, step_taken, steps_taken, line_taken}
use Rattle.aia_model.proofs.FlightLemmas.{all_append, home_landed_first}
use Rattle.aia_model.proofs.RefusalLemmas.{machine_allowed, pass_allowed}
use Rattle.aia_model.proofs.PlaceLemmas.{machine_first}
use Rattle.aia_model.proofs.PassesStandLemmas.{passes_stand}
use Rattle.aia_model.proofs.OwnPassLemmas.{own_is}
use Rattle.aia_model.proofs.HistoryLemmas.{line_happens}
use Rattle.aia_aplic_values.specs.Aplic.{AplicStands}
use Rattle.aia_aplic_values.specs.Passing.{is_passable_source}
use Rattle.aia_aplic_values.proofs.PassingLemmas.{harts-stand, target_in-stands}
use Rattle.aia_aplic_values.proofs.AimSteps.{passable-stands}
use Rattle.aia_model.specs.declared.want.Want.{Want}
use Rattle.aia_model.specs.declared.want.Want.TheVariants as wants
use Rattle.aia_model.specs.Move.{wanted_move}
use Rattle.aia_hyp_values.specs.Moves.{UnlessRefused, WholeAims}
use Rattle.aia_hyp_values.specs.Passes.{AimsBy, StepsAim, TellsOf}
use Rattle.aia_hyp_values.specs.Stands.{CoreStands, CoreTakes, CorePasses, MayPass}
use Rattle.aia_hyp_values.specs.Targets.{StandsWith}
use Rattle.aia_hyp_values.proofs.ForwardLemmas.{each_at}
use Rattle.aia_hyp_values.proofs.MoveWhole.{one_step_more}
use Rattle.aia_replay.specs.declared.machine.Machine.{Machine}
use Rattle.aia_replay.specs.declared.wires.Wires.{Wires}
use Rattle.aia_replay.specs.Wires.{WiresAim, targets_of}
use Rattle.aia_replay.specs.Stands.{MachineStands, MachineTakes, act_taken, EngineStandsForSome}
use Rattle.aia_aplic_values.proofs.SizeLemmas.{same_sources, same_harts}
use Rattle.aia_model.specs.Passable.{is_passable}
use Rattle.aia_source.specs.Registers.{is_by_msi, domaincfg_kept, same_bool}
use Rattle.aia_model.specs.declared.domain_name.DomainName.TheVariants.{Child}
use Rattle.aia_hyp_values.proofs.TargetsLines.{oldest_was}

-- ---- passed sources are there

abbrev IsThere : History → PassedSource → Type 0
IsThere h pass = is_in_range 1 (sources_of h) pass.source ≡ true

sources_there : (h : History) → IsHistory h → AllByRecursion (IsThere h) (passes_of h)
unfolding passes_of
sources_there [] good = tt
sources_there (Accepted (lines.Pass source vm vcpu identity) ∷ h) good =
    all_append (IsThere h) (passes_of h) (record { source = source; to = vcpu_of vm vcpu; identity = identity }) (sources_there h good.1)
    (pass_allowed h source vm vcpu identity good.0).source_there
sources_there (Accepted (lines.Machine harts guests n sources) ∷ h) good =
    subst (λ (x : History). AllByRecursion (IsThere (Accepted (lines.Machine harts guests n sources) ∷ h)) (passes_of x))
    (sym (machine_first h good.1 (machine_allowed h harts guests n sources good.0).0)) tt
sources_there (Accepted line ∷ h) good = sources_there h good.1
sources_there (Began move ∷ h) good = sources_there h good.1
sources_there (Stepped x ∷ h) good = sources_there h good.1
sources_there (Delivered msi ∷ h) good = sources_there h good.1
sources_there (Landed vm k ∷ h) good = sources_there h good.1
sources_there (Relayed p ∷ h) good = sources_there h good.1

-- a source that is there, by the APLIC
source_in : (h : History) (source : ℕ) → is_in_range 1 (sources_of h) source ≡ true → is_source (acts_of h) source ≡ true
source_in h source there = ap (λ k. is_in_range 1 k source) (same_sources h) ∙ there

passed_ready : (h : History) (p : ℕ) → IsHistory h → p < length (passes_of h) → is_passable_source (acts_of h) (nth_pass h p).source ≡ true
passed_ready h p good low =
    and_from _ _ (source_in h (nth_pass h p).source (each_at (IsThere h) (passes_of h) p no_pass low (sources_there h good)))
    ((passes_stand h good).pass p low).passable

-- ---- one aim

-- what an aim makes of the APLIC
abbrev pub wires_aim : Wires → ℕ → ℕ → Wires → Type 0
wires_aim old source target new = WiresAim old.aplic source target new.aplic

one_aim : (old new : Wires) (past : Past) (source target : ℕ) → is_passable_source past source ≡ true → AplicStands old.aplic past
    → wires_aim old source target new → AplicStands new.aplic (Aimed source target ∷ past)
one_aim old new past source target ready stands aims =
    subst (λ b. AplicStands new.aplic (cond b (Aimed source target ∷ past) past)) ready (aims.stands past stands)

aim_stands : (old new : Wires) (h : History) (g : Vcpu) → IsHistory h → AplicStands old.aplic (acts_of h)
    → AimsBy wires_aim (aimed_by h (Stepped g)) old new → AplicStands new.aplic (with_act (aimed_by h (Stepped g)) (acts_of h))
aim_stands old new h g good stands aims = by_aim (is_aiming (passes_for h g) (home h g)) refl aims
  where
    by_aim : (b : Bool) → is_aiming (passes_for h g) (home h g) ≡ b
        → AimsBy wires_aim (cond b (Some (aim_of h g (own_pass h g (aims_done (home h g))))) None) old new
        → AplicStands new.aplic (with_act (aimed_by h (Stepped g)) (acts_of h))
    by_aim true e aims =
        let low = ltb-true _ _ (and_parts _ _ e).1 in
        let own = own_is h g (aims_done (home h g)) low in
        rw e (one_aim old new (acts_of h) _ _ (passed_ready h (own_pass h g (aims_done (home h g))) good own.low) stands aims)
    by_aim false e same = rw e (subst (λ (w : Wires). AplicStands w.aplic (acts_of h)) (sym same) stands)

-- ---- the steps of a move

acts_landed : (count vm : ℕ) (h : History) → acts_of (oldest_landed count vm h) ≡ acts_of h
acts_landed zero vm h = refl
acts_landed (suc count) vm h = acts_landed count vm (Landed vm 0 ∷ h)

-- the fence aims none
fence_aims_none : (passes : ℕ) (there : Home) → is_at_fence there ≡ true → is_aiming passes there ≡ false
fence_aims_none passes there fence = elim (cases_Bool (is_aiming passes there)) [
  | inl aims ↦ absurd (true≢false (sym fence ∙ aim_is_no_fence passes there aims))
  | inr none ↦ none
]

no_aim : (h : History) (g : Vcpu) → is_at_fence (home h g) ≡ true → ◌≡◌ {A = Option Act} (aimed_by h (Stepped g)) None
no_aim h g fence = ap (λ b. cond b (Some (aim_of h g (own_pass h g (aims_done (home h g))))) None) (fence_aims_none (passes_for h g) (home h g) fence)

acts_step : (g : Vcpu) (h : History) → acts_of (step_taken g h) ≡ with_act (aimed_by h (Stepped g)) (acts_of h)
acts_step g h = by_fence (is_at_fence (home h g)) refl
  where
    by_fence : (b : Bool) → is_at_fence (home h g) ≡ b → acts_of (step_taken g h) ≡ with_act (aimed_by h (Stepped g)) (acts_of h)
    by_fence true e =
        ap (λ o. with_act o (acts_of (landed_first g h))) (no_aim (landed_first g h) g (ap is_at_fence (home_landed_first g g h) ∙ e))
        ∙ ap (λ b. acts_of (cond b (oldest_landed (length (flight h g.vm)) g.vm h) h)) e ∙ acts_landed (length (flight h g.vm)) g.vm h
        ∙ sym (ap (λ o. with_act o (acts_of h)) (no_aim h g e))
    by_fence false e = ap (λ b. acts_of (Stepped g ∷ cond b (oldest_landed (length (flight h g.vm)) g.vm h) h)) e

before_step : (g : Vcpu) (h : History) → IsHistory (step_taken g h) → IsHistory h
before_step g h good = by_fence (is_at_fence (home h g)) good.1
  where
    by_fence : (b : Bool) → IsHistory (cond b (oldest_landed (length (flight h g.vm)) g.vm h) h) → IsHistory h
    by_fence true good = oldest_was (length (flight h g.vm)) g.vm h good
    by_fence false good = good

steps_aim : (count : ℕ) (g : Vcpu) (h : History) (old new : Wires) → IsHistory (steps_taken count g h) → AplicStands old.aplic (acts_of h)
    → StepsAim wires_aim count g h old new → AplicStands new.aplic (acts_of (steps_taken count g h))
steps_aim zero g h old new good stands same = subst (λ (w : Wires). AplicStands w.aplic (acts_of h)) (sym same) stands
steps_aim (suc count) g h old new good stands (between, before, last) =
    let past = steps_taken count g h in
    let more = one_step_more count g h in
    let earlier = before_step g past (subst IsHistory more good) in
    let then = aim_stands between new past g earlier (steps_aim count g h old between earlier stands before) last in
    subst (λ (x : History). AplicStands new.aplic (acts_of x)) (sym more) (subst (AplicStands new.aplic) (sym (acts_step g past)) then)

-- ---- lines

-- by the refusal
taken_by : (m n : Machine) (line : Line) (given : Answer) → CoreTakes m.core n.core line given
    → ((h : History) → MachineStands m h → refusal h line ≡ None → AplicStands n.wires.aplic (act_taken None h line))
    → ((h : History) (word : Answer) → MachineStands m h → refusal h line ≡ Some word → n.wires ≡ m.wires) → MachineTakes m n line given
taken_by m n line given takes accepted refused = record {
  answers = λ h stands. takes.answers h stands.holds.core;
  takes = λ h stands. record { core = takes.stands h stands.holds.core; aplic = by_refusal h stands (refusal h line) refl };
}
  where
    by_refusal : (h : History) → MachineStands m h → (r : Option Answer) → refusal h line ≡ r → AplicStands n.wires.aplic (act_taken r h line)
    by_refusal h stands None e = accepted h stands e
    by_refusal h stands (Some word) e = subst (λ (w : Wires). AplicStands w.aplic (acts_of h)) (sym (refused h word stands e)) stands.holds.aplic

unless_accepted : (r : Option Answer) (taken refused : Type 0) → r ≡ None → UnlessRefused r taken refused → taken
unless_accepted r taken refused e so = subst (λ (o : Option Answer). UnlessRefused o taken refused) e so

unless_refused : (r : Option Answer) (word : Answer) (taken refused : Type 0) → r ≡ Some word → UnlessRefused r taken refused → refused
unless_refused r word taken refused e so = subst (λ (o : Option Answer). UnlessRefused o taken refused) e so

pub step_taken_by : (m n : Machine) (vm vcpu : ℕ) (given : Answer) → CoreTakes m.core n.core (lines.Step vm vcpu) given
    → ((h : History) → CoreStands m.core h → UnlessRefused (refusal h (lines.Step vm vcpu))
    (AimsBy wires_aim (aimed_by h (Stepped (vcpu_of vm vcpu))) m.wires n.wires) (n.wires ≡ m.wires))
    → MachineTakes m n (lines.Step vm vcpu) given
step_taken_by m n vm vcpu given takes aims = taken_by m n (lines.Step vm vcpu) given takes
    (λ h stands e. subst (AplicStands n.wires.aplic) (sym (acts_step (vcpu_of vm vcpu) h))
    (aim_stands m.wires n.wires h (vcpu_of vm vcpu) stands.happens stands.holds.aplic (unless_accepted _ _ _ e (aims h stands.holds.core))))
    (λ h word stands e. unless_refused _ word _ _ e (aims h stands.holds.core))

-- the steps of a whole move
whole_acts : (new : Wires) (h : History) (vm vcpu : ℕ) (want : Want)
    → AplicStands new.aplic (acts_of (line_taken h (lines.Move vm vcpu want)))
    → AplicStands new.aplic (act_taken None h (lines.Move vm vcpu want))
whole_acts new h vm vcpu wants.Leave s = s
whole_acts new h vm vcpu (wants.Arrive hart) s = s
whole_acts new h vm vcpu (wants.Shift hart) s = s

whole_aims : (old new : Wires) (h : History) (vm vcpu : ℕ) (want : Want) → IsHistory (line_taken h (lines.Move vm vcpu want))
    → AplicStands old.aplic (acts_of h) → WholeAims wires_aim h vm vcpu want old new
    → AplicStands new.aplic (acts_of (line_taken h (lines.Move vm vcpu want)))
whole_aims old new h vm vcpu wants.Leave good stands aims =
    steps_aim _ (vcpu_of vm vcpu) (Began (wanted_move (vcpu_of vm vcpu) wants.Leave) ∷ h) old new good stands aims
whole_aims old new h vm vcpu (wants.Arrive hart) good stands aims =
    steps_aim _ (vcpu_of vm vcpu) (Began (wanted_move (vcpu_of vm vcpu) (wants.Arrive hart)) ∷ h) old new good stands aims
whole_aims old new h vm vcpu (wants.Shift hart) good stands aims =
    steps_aim _ (vcpu_of vm vcpu) (Began (wanted_move (vcpu_of vm vcpu) (wants.Shift hart)) ∷ h) old new good stands aims

pub whole_taken_by : (m n : Machine) (vm vcpu : ℕ) (want : Want) (given : Answer) → CoreTakes m.core n.core (lines.Move vm vcpu want) given
    → ((h : History) → CoreStands m.core h → UnlessRefused (refusal h (lines.Move vm vcpu want))
    (WholeAims wires_aim h vm vcpu want m.wires n.wires) (n.wires ≡ m.wires)) → MachineTakes m n (lines.Move vm vcpu want) given
whole_taken_by m n vm vcpu want given takes aims = taken_by m n (lines.Move vm vcpu want) given takes
    (λ h stands e. whole_acts n.wires h vm vcpu want
    (whole_aims m.wires n.wires h vm vcpu want (line_happens h (lines.Move vm vcpu want) e stands.happens) stands.holds.aplic
    (unless_accepted _ _ _ e (aims h stands.holds.core))))
    (λ h word stands e. unless_refused _ word _ _ e (aims h stands.holds.core))

-- a source that is there is passed, or refused
pub pass_taken_by : (m n : Machine) (source vm vcpu identity : ℕ) (given : Answer)
    → ((h : History) → MachineStands m h → TellsOf (targets_of m.wires.aplic) h source)
    → CorePasses m.core n.core (targets_of m.wires.aplic) source (lines.Pass source vm vcpu identity) given
    → ((h : History) → CoreStands m.core h → TellsOf (targets_of m.wires.aplic) h source
    → UnlessRefused (refusal h (lines.Pass source vm vcpu identity))
    (AimsBy wires_aim (aimed_by h (Accepted (lines.Pass source vm vcpu identity))) m.wires n.wires) (n.wires ≡ m.wires))
    → MachineTakes m n (lines.Pass source vm vcpu identity) given
pass_taken_by m n source vm vcpu identity given tells passes aims = record {
  answers = λ h stands. passes.answers h stands.holds.core (tells h stands);
  takes = λ h stands. record {
    core = passes.stands h stands.holds.core (tells h stands);
    aplic =
        by_refusal h stands (refusal h (lines.Pass source vm vcpu identity)) refl;
  };
}
  where
    by_refusal : (h : History) → MachineStands m h → (r : Option Answer) → refusal h (lines.Pass source vm vcpu identity) ≡ r
        → AplicStands n.wires.aplic (act_taken r h (lines.Pass source vm vcpu identity))
    by_refusal h stands None e =
        let may = pass_allowed h source vm vcpu identity e in
        let ready = and_from _ _ (source_in h source may.source_there) may.ready in
        one_aim m.wires n.wires (acts_of h) source _ ready stands.holds.aplic (unless_accepted _ _ _ e (aims h stands.holds.core (tells h stands)))
    by_refusal h stands (Some word) e = subst (λ (w : Wires). AplicStands w.aplic (acts_of h))
        (sym (unless_refused _ word _ _ e (aims h stands.holds.core (tells h stands)))) stands.holds.aplic

-- ---- what the core asks of the sources of a machine that stands

pub same_harts_there : (m : Machine) → EngineStandsForSome m → m.core.world.imsic.harts ≡ (targets_of m.wires.aplic).harts
same_harts_there m some =
    some.stands.holds.core.harts ∙ sym (same_harts some.past) ∙ sym (harts-stand m.wires.aplic (acts_of some.past) some.stands.holds.aplic)

pub tells_of : (m : Machine) (h : History) (source : ℕ) → ((past : Past) → AplicStands m.wires.aplic past → is_source past source ≡ true)
    → MachineStands m h → TellsOf (targets_of m.wires.aplic) h source
tells_of m h source there stands =
    let is : is_source (acts_of h) source ≡ true = there (acts_of h) stands.holds.aplic in
    record {
      there = ap (λ k. is_in_range 1 k source) (sym (same_sources h)) ∙ is;
      ready = passable-stands m.wires.aplic (acts_of h) source stands.holds.aplic ∙ ap (λ b. b && is_passable (acts_of h) source) is;
    }

pub may_pass : (m : Machine) (source : ℕ) → ((past : Past) → AplicStands m.wires.aplic past → is_source past source ≡ true)
    → EngineStandsForSome m → MayPass m.core (targets_of m.wires.aplic) source
may_pass m source there some = record {
  past = some.past;
  happens = some.stands.happens;
  stands = some.stands.holds.core;
  tells = tells_of m some.past source there some.stands;
}

-- the targets of a machine that stands do so too
pub stands_with : (m : Machine) (h : History) → MachineStands m h → StandsWith m.core (targets_of m.wires.aplic) h
stands_with m h some = record {
  core = some.holds.core;
  targets = record {
    harts = harts-stand m.wires.aplic (acts_of h) some.holds.aplic ∙ same_harts h;
    tells = λ s there. passable-stands m.wires.aplic (acts_of h) s some.holds.aplic
        ∙ ap (λ b. b && is_passable (acts_of h) s) (source_in h s there);
    ready = λ p low. passable-stands m.wires.aplic (acts_of h) (nth_pass h p).source some.holds.aplic ∙ passed_ready h p some.happens low;
    aimed = λ p low. target_in-stands m.wires.aplic (acts_of h) (nth_pass h p).source some.holds.aplic
        (and_parts _ _ (passed_ready h p some.happens low)).0
        ∙ ((passes_stand h some.happens).pass p low).target;
  };
}

-- while some source is passed the child domain delivers by MSIs, so a write of its domaincfg keeps
-- that exactly where it asks for it
pub keeps_msis : (m : Machine) (h : History) (value : ℕ) → MachineStands m h → has_passes h ≡ true
    → keeps_delivery (acts_of h) Child value ≡ is_by_msi (domaincfg_kept value)
keeps_msis m h value stands some =
    let first = (passes_stand h stands.happens).pass 0 (ltb-true 0 (length (passes_of h)) some) in
    let delivers = (and_parts (is_active_in (acts_of h) Child (nth_pass h 0).source) (delivers_by_msis (acts_of h) Child)
    (and_parts (is_active_in (acts_of h) Child (nth_pass h 0).source && delivers_by_msis (acts_of h) Child) _ first.passable).0).1 in
    ap (λ b. same_bool b (is_by_msi (domaincfg_kept value))) delivers ∙ same (is_by_msi (domaincfg_kept value))
  where
    same : (b : Bool) → same_bool true b ≡ b
    same true = refl
    same false = refl
