-- The lines that begin moves and do steps of them.
use Rattle.std.proofs.Common.{◌≡◌, ℕ, ◌+◌, ◌/◌, Bool, true, false, not, cond, List, Option, Some, None, unwrap_or, refl, sym, ap, subst, ◌∙◌}
use Rattle.std.proofs.lemmas.Bool.{cond-true, cond-false}
use Rattle.std.proofs.lemmas.Option.{none-some}
use Rattle.aia_vcpu.specs.declared.vm.Vm.{Vm}
use Rattle.aia_vcpu.specs.Vms.{Vcpu, vcpu_of, is_vcpu_in, slot_of, notice_hart}
use Rattle.aia_vcpu.specs.Routes.{peers_reach}
use Rattle.aia_vcpu_places.specs.Places.{leads_to}
use Rattle.aia_entry.specs.Tables.{table_of, entry_in_force}
use Rattle.aia_fabric_values.specs.World.{stage_of}
use Rattle.aia_move_values.specs.Views.{places_of}
use Rattle.aia_model.specs.declared.line.Line.TheVariants as lines
use Rattle.aia_model.specs.declared.line.Line.{Line}
use Rattle.aia_model.specs.GuestFile.{guest_file}
use Rattle.aia_model.specs.Notice.{a_look_saw}
use Rattle.aia_vcpu.specs.Home.{is_moving}
use Rattle.aia_model.specs.Histories.{MayHappen}
use Rattle.aia_model.specs.Event.Event.{Delivered}
use Rattle.aia_fabric_values.specs.declared.found.Found.{Found}
use Rattle.aia_move_values.specs.Move.{mover, width}
use Rattle.aia_move_values.specs.PlanState.{PlanState, moving_of}
use Rattle.aia_model.specs.declared.answer.Answer.{Answer}
use Rattle.aia_model.specs.declared.msi.Msi.{Msi}
use Rattle.aia_model.specs.declared.answer.Answer.TheVariants.{Refused}
use Rattle.aia_model.specs.declared.refusal.Refusal.TheVariants.{Range, Idle}
use Rattle.aia_model.specs.declared.line.Line.TheVariants.{Step}
use Rattle.aia_model.specs.Event.{History, file_words}
use Rattle.aia_model.specs.Vms.{vms_of, has_vcpu}
use Rattle.aia_model.specs.ReachOf.{in_force_of}
use Rattle.aia_model.specs.HomeOf.{home}
use Rattle.aia_model.specs.Refusal.{refusal}
use Rattle.aia_model.specs.Answer.{accepted_answer, msi_taken}
use Rattle.aia_model.proofs.AnswerLemmas.{answered, step_refusal, begin_refusal}
use Rattle.aia_model.specs.declared.want.Want.{Want}
use Rattle.aia_hyp_values.specs.Core.{Stay}
use Rattle.aia_hyp_values.specs.declared.vcpu.Stay.TheVariants as stays
use Rattle.aia_hyp_values.specs.Core.{CoreState, record_of, home_in, hand_in, has_plan}
use Rattle.aia_hyp_values.specs.Stands.{PlanStands, StandsForSome, CoreStands, CoreTakes, CoreHears, line_served}
use Rattle.aia_model.specs.Move.{wanted_move}
use Rattle.aia_fabric_values.specs.Found.{IsFound}
use Rattle.aia_hyp_values.specs.Moves.{UnlessRefused, move_begun, MoveBegins, MoveGoes, step_answer, KnowsIts}
use Rattle.aia_hyp_values.proofs.VcpuLemmas.{IsHeld}
use Rattle.aia_hyp_values.proofs.EventLemmas.{by_refusal, refused}

-- ---- a beginning

okay : (h : History) (vm vcpu : ℕ) (want : Want) → accepted_answer h (lines.Begin vm vcpu want) ≡ accepted_answer h (lines.Move vm vcpu want)
okay h vm vcpu want = refl

served : (r : Option Answer) (h : History) (vm vcpu : ℕ) (want : Want)
    → line_served r h (lines.Begin vm vcpu want) ≡ move_begun r h (wanted_move (vcpu_of vm vcpu) want)
served (Some word) h vm vcpu want = refl
served None h vm vcpu want = refl

pub begin_taken : (x y : CoreState) (vm vcpu : ℕ) (want : Want) (given : Answer) → MoveBegins x y vm vcpu want given
    → CoreTakes x y (lines.Begin vm vcpu want) given
begin_taken x y vm vcpu want given begins = record {
  answers = λ h stands. begins.answers h stands ∙ answered h (lines.Move vm vcpu want) (refusal h (lines.Move vm vcpu want)) refl
      ∙ (λ k. unwrap_or (sym (begin_refusal h vm vcpu want) k) (sym (okay h vm vcpu want) k))
      ∙ sym (answered h (lines.Begin vm vcpu want) (refusal h (lines.Begin vm vcpu want)) refl);
  stands = λ h stands. subst (CoreStands y) (sym
      (ap (λ r. line_served r h (lines.Begin vm vcpu want)) (begin_refusal h vm vcpu want)
      ∙ served (refusal h (lines.Move vm vcpu want)) h vm vcpu want)) (begins.begins h stands);
  unchanged = λ h word stands is. begins.unchanged h word stands (sym (begin_refusal h vm vcpu want) ∙ is);
}

-- ---- a step

-- whether it is being moved is kept as the history has it
moved_as : (x : CoreState) (g : Vcpu) (stay : Stay) → PlanStands x.world g stay → is_moving (home_in stay) ≡ has_plan stay
moved_as x g (stays.InMemory rest kept) p = refl
moved_as x g (stays.Resident place) p = refl
moved_as x g (stays.Moving plan) p = p.3

is_there : (x : CoreState) (h : History) (who : Found) → CoreStands x h → IsFound x.world who → has_vcpu h (vcpu_of who.vm who.vcpu) ≡ true
is_there x h who stands is = subst (λ (vs : List Vm). is_vcpu_in vs (vcpu_of who.vm who.vcpu) ≡ true) stands.vms is.there

moving_is : (x : CoreState) (h : History) (who : Found) → CoreStands x h → IsFound x.world who
    → is_moving (home h (vcpu_of who.vm who.vcpu)) ≡ has_plan (record_of x (vcpu_of who.vm who.vcpu)).stay
moving_is x h who stands is =
    let g = vcpu_of who.vm who.vcpu in
    let stood = stands.vcpus g (is_there x h who stands is) in
    ap is_moving (sym stood.same_home) ∙ moved_as x g (record_of x g).stay stood.plan

pub by_home : (x : CoreState) (h : History) (who : Found) → CoreStands x h → IsFound x.world who
    → refusal h (Step who.vm who.vcpu) ≡ cond (not (has_plan (record_of x (vcpu_of who.vm who.vcpu)).stay)) (Some (Refused Idle)) None
by_home x h who stands is =
    step_refusal h who.vm who.vcpu stands.there ∙ cond-false _ _ _ (ap not (is_there x h who stands is))
    ∙ ap (λ b. cond (not b) (Some (Refused Idle)) None) (moving_is x h who stands is)

pub moved_now : (x : CoreState) (who : Found) → StandsForSome x → IsFound x.world who
    → has_plan (record_of x (vcpu_of who.vm who.vcpu)).stay ≡ true → is_moving (home_in (record_of x (vcpu_of who.vm who.vcpu)).stay) ≡ true
moved_now x who some is planned =
    let g = vcpu_of who.vm who.vcpu in
    let stood = some.stands.vcpus g (is_there x some.past who some.stands is) in
    moved_as x g (record_of x g).stay stood.plan ∙ planned

pub step_taken : (x y : CoreState) (who : Found) (last : Bool) → IsFound x.world who → has_plan (record_of x (vcpu_of who.vm who.vcpu)).stay ≡ true
    → MoveGoes x y (vcpu_of who.vm who.vcpu) last → CoreTakes x y (Step who.vm who.vcpu) (step_answer last)
step_taken x y who last is planned goes = by_refusal x y (Step who.vm who.vcpu) (step_answer last) (λ h stands. (
  None,
  by_home x h who stands is ∙ cond-false _ _ _ (ap not planned),
  ap step_answer (goes.at_last h stands),
  goes.stands h stands,
  λ word e. absurd (none-some word e),
))

pub step_idle : (x : CoreState) (who : Found) → IsFound x.world who → has_plan (record_of x (vcpu_of who.vm who.vcpu)).stay ≡ false
    → CoreTakes x x (Step who.vm who.vcpu) (Refused Idle)
step_idle x who is idle = refused x (Step who.vm who.vcpu) (Refused Idle) (λ h stands. by_home x h who stands is ∙ cond-true _ _ _ (ap not idle))

pub no_step : (x : CoreState) (vm vcpu : ℕ) → is_vcpu_in x.world.vms (vcpu_of vm vcpu) ≡ false → CoreTakes x x (Step vm vcpu) (Refused Range)
no_step x vm vcpu outside = refused x (Step vm vcpu) (Refused Range) (λ h stands.
    step_refusal h vm vcpu stands.there ∙ cond-true _ _ _
    (ap not (subst (λ (vs : List Vm). is_vcpu_in vs (vcpu_of vm vcpu) ≡ false) stands.vms outside)))

-- ---- what a plan knows

pub knows : (x : CoreState) (h : History) (g : Vcpu) (plan : PlanState) → CoreStands x h → has_vcpu h g ≡ true
    → (record_of x g).stay ≡ stays.Moving plan → KnowsIts x h g plan
knows x h g plan stands there is =
    let stood = stands.vcpus g there in
    let planned : PlanStands x.world g (stays.Moving plan) = subst (PlanStands x.world g) is stood.plan in
    let own : mover (moving_of plan) ≡ g = planned.2 in
    let same : (moving_of plan).home ≡ home h g = ap home_in (sym is) ∙ stood.same_home in
    let words : width x.world ≡ file_words h = ap (λ n. (n + 1) / 64) stands.greatest in
    let slot : (moving_of plan).who.found.slot ≡ slot_of (vms_of h) g = planned.0.slot ∙ (λ k. slot_of (stands.vms k) (own k)) in
    let notice : (moving_of plan).who.found.notice ≡ notice_hart (vms_of h) g = planned.0.notice ∙ (λ k. notice_hart (stands.vms k) (own k)) in
    record {
      own = own;
      same_home = same;
      knows = record {
        fits = planned.0;
        phase = planned.1;
        holds = subst IsHeld (λ k. record {
          words = sym words k;
          slot = sym slot k;
          hart = sym notice k;
          reach = in_force_of h g;
          shows = places_of x.world (sym own k) (sym same k);
          there = sym same k;
          hand = hand_in (is k);
          file = guest_file h g;
          saw = a_look_saw h g;
        }) stood.holds;
      };
    }

pub knows_after : (x y : CoreState) (line : Line) (given : Answer) (h : History) (g : Vcpu) (plan : PlanState) → CoreTakes x y line given
    → CoreStands x h → has_vcpu (line_served (refusal h line) h line) g ≡ true → (record_of y g).stay ≡ stays.Moving plan
    → KnowsIts y (line_served (refusal h line) h line) g plan
knows_after x y line given h g plan takes stands there is = knows y (line_served (refusal h line) h line) g plan (takes.stands h stands) there is

pub knows_heard : (x y : CoreState) (msi : Msi) (h : History) (g : Vcpu) (plan : PlanState) → CoreHears x y msi → CoreStands x h
    → MayHappen h (Delivered msi) → has_vcpu (msi_taken msi h) g ≡ true → (record_of y g).stay ≡ stays.Moving plan
    → KnowsIts y (msi_taken msi h) g plan
knows_heard x y msi h g plan hears stands may there is = knows y (msi_taken msi h) g plan (hears h stands may) there is

pub in_force : (x : CoreState) (h : History) (g : Vcpu) → CoreStands x h → has_vcpu h g ≡ true
    → (entry_in_force (table_of x.world.tables g.vm) g.vcpu ≡ leads_to (slot_of (vms_of h) g) (notice_hart (vms_of h) g) (in_force_of h g))
    × ((stage_of x.world g).in_force ≡ peers_reach (home h g))
in_force x h g stands there = let routes = (stands.vcpus g there).holds.routes in (routes.in_force, routes.stage_in_force)

-- ---- what is so of a step that is not refused

pub step_unrefused : (x : CoreState) (h : History) (who : Found) (taken refused : Type 0) → CoreStands x h → IsFound x.world who
    → has_plan (record_of x (vcpu_of who.vm who.vcpu)).stay ≡ true → taken → UnlessRefused (refusal h (Step who.vm who.vcpu)) taken refused
step_unrefused x h who taken refused stands is planned so =
    subst (λ (o : Option Answer). UnlessRefused o taken refused) (sym (by_home x h who stands is ∙ cond-false _ _ _ (ap not planned))) so

pub step_refused : (x : CoreState) (h : History) (who : Found) (taken refused : Type 0) → CoreStands x h → IsFound x.world who
    → has_plan (record_of x (vcpu_of who.vm who.vcpu)).stay ≡ false → refused → UnlessRefused (refusal h (Step who.vm who.vcpu)) taken refused
step_refused x h who taken refused stands is idle so =
    subst (λ (o : Option Answer). UnlessRefused o taken refused) (sym (by_home x h who stands is ∙ cond-true _ _ _ (ap not idle))) so

pub step_of_none : (x : CoreState) (h : History) (vm vcpu : ℕ) (taken refused : Type 0) → CoreStands x h
    → is_vcpu_in x.world.vms (vcpu_of vm vcpu) ≡ false → refused → UnlessRefused (refusal h (Step vm vcpu)) taken refused
step_of_none x h vm vcpu taken refused stands outside so =
    subst (λ (o : Option Answer). UnlessRefused o taken refused)
    (sym (step_refusal h vm vcpu stands.there ∙ cond-true _ _ _
    (ap not (subst (λ (vs : List Vm). is_vcpu_in vs (vcpu_of vm vcpu) ≡ false) stands.vms outside)))) so
