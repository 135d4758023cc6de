-- What the calls of a move say, of the fields that they change.
use Rattle.aia_model.specs.ReachOf.{NoneAtFence}
use Rattle.std.proofs.Common.{suc, ◌-◌, cond, nat_lt, ◌≤◌, ◌≡◌, ℕ, ◌+◌, ◌/◌, ◌<◌, Bool, true, false, get_or, List, length, ◌∷◌, Option, Some, None, refl, sym, ap, subst, ◌∙◌, arith}
use Rattle.std.proofs.Math.ListN.{set}
use Rattle.std.proofs.lemmas.Bool.{true≢false, and_parts, ltb-true}
use Rattle.std.proofs.lemmas.List.{get_or-set_same, set-set}
use Rattle.std.proofs.lemmas.Option.{slice_get_within}
use Rattle.aia_vcpu.specs.declared.place.GuestPlace.{GuestPlace}
use Rattle.aia_vcpu.specs.declared.vm.Vm.{Vm}
use Rattle.aia_vcpu.specs.Vms.{Vcpu, vcpu_of, is_vcpu_in, slot_of, notice_hart}
use Rattle.aia_vcpu.specs.Home.{Home, holds, is_moving, one_more, old_end, new_end}
use Rattle.aia_vcpu.specs.Plans.{is_at_last, IsNext, plan}
use Rattle.aia_vcpu.specs.declared.access.Access.{Access}
use Rattle.aia_vcpu.specs.Home.Home.{OnWay}
use Rattle.aia_vcpu.proofs.PlanLemmas.{plan-length, next_in_plan}
use Rattle.aia_vcpu.proofs.VmLemmas.{slot_below}
use Rattle.aia_vcpu.proofs.AllLemmas.{any_vcpu}
use Rattle.aia_vcpu_places.specs.Holds.{Hand}
use Rattle.aia_fabric_values.specs.World.{World}
use Rattle.aia_fabric_values.specs.Whole.{IsWhole}
use Rattle.aia_fabric_values.proofs.WholeLemmas.{vcpu_entry}
use Rattle.aia_fabric_values.specs.declared.found.Found.{Found}
use Rattle.aia_move_values.specs.declared.who.Who.{Who}
use Rattle.aia_hyp_values.specs.Passes.{own_passes}
use Rattle.aia_move_values.specs.declared.turn.Next.{Next}
use Rattle.aia_move_values.specs.declared.turn.Next.TheVariants.{Again, Finished}
use Rattle.aia_move_values.specs.declared.turn.Outcome.{Outcome}
use Rattle.aia_move_values.specs.Move.{Moving, mover, width, MoveFits, MakesNext, Goes}
use Rattle.aia_move_values.specs.PlanState.{PlanState, moving_of}
use Rattle.aia_move_values.specs.Plan.{IsInPhase, MatchNext, GoesAiming, StepsTo}
use Rattle.aia_move_values.specs.Turns.{EndsAs, GivesBack}
use Rattle.aia_move_values.proofs.LandingLemmas.{landed_whole}
use Rattle.aia_model.specs.declared.answer.Answer.{Answer}
use Rattle.aia_model.specs.Event.{History, MachineSize, file_words}
use Rattle.std.specs.Option.{option_map_or}
use Rattle.aia_model.specs.Event.Event.{Stepped}
use Rattle.aia_model.specs.Vms.{vms_of, has_vcpu}
use Rattle.aia_model.specs.HomeOf.{home}
use Rattle.aia_model.specs.declared.want.Want.{Want}
use Rattle.aia_hyp_values.specs.Core.{Stay}
use Rattle.aia_hyp_values.specs.declared.vcpu.Stay.TheVariants as stays
use Rattle.aia_hyp_values.specs.Core.{VcpuRecord}
use Rattle.aia_hyp_values.specs.Core.{CoreState, no_record, record_of, home_in}
use Rattle.aia_model.specs.Answer.{landed_first, step_taken, oldest_landed}
use Rattle.aia_model.specs.Flight.{flight}
use Rattle.aia_vcpu.specs.Routes.{is_at_fence}
use Rattle.aia_hyp_values.proofs.MoveBegins.{own_record}
use Rattle.aia_model.proofs.HistoryLemmas.{first_happens, step_happens}
use Rattle.aia_model.proofs.FlightLemmas.{lands_first, words_first, same_first, home_landed_first}
use Rattle.aia_move_values.specs.Landings.{OnceLanded}
use Rattle.aia_move_values.specs.Landings as moves
use Rattle.aia_hyp_values.proofs.LandingLemmas.{once_landed, first_stands}
use Rattle.aia_fabric_values.specs.Found.{IsFound}
use Rattle.aia_hyp_values.specs.Moves.{WantBegins, MoveBegins, stay_after, back_of, with_back, IsOutThere, stay_then, back_then, is_finished, steps_left, left_in, MakesOneBy, MoveGoes}
use Rattle.aia_hyp_values.specs.Stands.{PlanStands, CoreStands, StandsForSome}
use Rattle.aia_hyp_values.proofs.LeaseLemmas.{in_pool}
use Rattle.aia_vcpu.specs.Aims.{is_aiming, aims_done, aimed}
use Rattle.aia_vcpu.proofs.PassLemmas.{aim_is_no_fence}
use Rattle.aia_model.specs.Passes.{passes_to, passes_for}
use Rattle.aia_move_values.specs.Targets.{TargetMap, AimsOne, PassAim, AimsAs, aims, aim_if, next_aim}
use Rattle.aia_hyp_values.proofs.OwnPasses.{aims_alike}
use Rattle.aia_hyp_values.proofs.AimLines.{AimOf, aim_stands, later_moves, aim_is_not_last}
use Rattle.aia_hyp_values.proofs.MoveSteps as steps
use Rattle.aia_hyp_values.proofs.MoveSteps.{StepOf}
use Rattle.aia_hyp_values.proofs.GoesLines.{GoesOf, goes_stands, later_moving}
use Rattle.aia_hyp_values.proofs.EndLines.{EndsOf, ends_stands, ended_back, ended_held}
use Rattle.aia_hyp_values.proofs.BeginCore.{at_stay, want_begins}

-- ---- the records

-- the record of a virtual hart that is there
pub who_low : (x : CoreState) (who : Found) → StandsForSome x → IsFound x.world who → who.slot < length x.vcpus
who_low x who some is =
    let stands = some.stands in
    let g = vcpu_of who.vm who.vcpu in
    let below = slot_below (vms_of some.past) g (subst (λ (vs : List Vm). is_vcpu_in vs g ≡ true) stands.vms is.there) in
    let mine : slot_of x.world.vms g ≡ slot_of (vms_of some.past) g = ap (λ vms. slot_of vms g) stands.vms in
    omega (arith, below, mine, is.slot, stands.records)

-- one that is put elsewhere twice
pub put_twice : (xs ys zs : List VcpuRecord) (slot : ℕ) (a b : Stay) → slot < length xs → ys ≡ set xs slot (at_stay (get_or xs slot no_record) a)
    → zs ≡ set ys slot (at_stay (get_or ys slot no_record) b)
    → zs ≡ set xs slot (at_stay (get_or xs slot no_record) b)
put_twice xs ys zs slot a b low first second =
    second ∙ (λ k. set (first k) slot (at_stay (get_or (first k) slot no_record) b))
    ∙ ap (λ r. set (set xs slot (at_stay (get_or xs slot no_record) a)) slot (at_stay r b))
    (get_or-set_same xs slot (at_stay (get_or xs slot no_record) a) no_record low)
    ∙ set-set xs slot (at_stay (get_or xs slot no_record) a) (at_stay (get_or xs slot no_record) b)

-- What a call did with the record of a virtual hart: it took it out, for another, and put it
-- elsewhere.
pub record Swapped (x y : CoreState) (who : Found) (old new : Stay) : Type 0 where
  pub is_who : IsFound x.world who
  pub some : StandsForSome x
  pub between : List VcpuRecord
  pub other : Stay
  pub before : old ≡ (get_or x.vcpus who.slot no_record).stay
  pub out : between ≡ set x.vcpus who.slot (at_stay (get_or x.vcpus who.slot no_record) other)
  pub back : y.vcpus ≡ set between who.slot (at_stay (get_or between who.slot no_record) new)
  pub selects : y.selects ≡ x.selects
  pub passes : y.passes ≡ x.passes

module _ (x y : CoreState) (who : Found) (old new : Stay) (s : Swapped x y who old new) where
  abbrev g : Vcpu
  g = vcpu_of who.vm who.vcpu

  pub was_at : old ≡ (record_of x (vcpu_of who.vm who.vcpu)).stay
  was_at = s.before ∙ ap (λ q. (get_or x.vcpus q no_record).stay) s.is_who.slot

  pub put_at : y.vcpus ≡ set x.vcpus (slot_of x.world.vms (vcpu_of who.vm who.vcpu)) (at_stay (record_of x (vcpu_of who.vm who.vcpu)) new)
  put_at =
      put_twice x.vcpus s.between y.vcpus who.slot s.other new (who_low x who s.some s.is_who) s.out s.back
      ∙ ap (λ q. set x.vcpus q (at_stay (get_or x.vcpus q no_record) new)) s.is_who.slot

-- ---- a move begins

-- who is moved, with its passes
abbrev whole_who : Found → Who → Who
whole_who found who = record { found = found; passes = who.passes }

pub begin_call : (x y : CoreState) (want : Want) (found : Found) (who : Who) (old new : Stay) (given : Answer) → who ≡ whole_who found who
    → who.passes.items ≡ own_passes 0 (vcpu_of found.vm found.vcpu) x.passes → y.world ≡ x.world → Swapped x y found old new
    → WantBegins want who old new x.leases y.leases given → MoveBegins x y found.vm found.vcpu want given
begin_call x y want found who old new given named its world s b =
    want_begins x y want (whole_who found who) new given
    (record {
      is_who = record { there = s.is_who.there; slot = s.is_who.slot; notice = s.is_who.notice };
      its = its;
      world = world;
      selects =
          s.selects;
      passes = s.passes;
      vcpus = put_at x y found old new s;
    })
    (subst (λ (w : Who). WantBegins want w (record_of x (vcpu_of found.vm found.vcpu)).stay new x.leases y.leases given) named
    (subst (λ (o : Stay). WantBegins want who o new x.leases y.leases given) (was_at x y found old new s) b))

-- ---- a step

-- how many steps are left
pub left_fewer : (words : ℕ) (there : Home) (access : Access) → IsNext words there access → steps_left words (one_more there) < steps_left words there
left_fewer words (OnWay way at) access next =
    let low : at.steps < length (plan (old_end way) (new_end way) words) =
    slice_get_within (plan (old_end way) (new_end way) words) at.steps access (next_in_plan words (OnWay way at) access next) in
    let long = plan-length (old_end way) (new_end way) words in
    omega (arith, low, long)
left_fewer words there access next = let no : false ≡ true = next.has in absurd (cc)

aims_stay : (there : Home) → aims_done (one_more there) ≡ aims_done there
aims_stay (OnWay way at) = refl
aims_stay there = refl

-- the plan that is kept can make its next step
pub plan_known : (x : CoreState) (who : Found) (plan : PlanState) → StandsForSome x → IsFound x.world who
    → stays.Moving plan ≡ (get_or x.vcpus who.slot no_record).stay → MoveFits x.world (moving_of plan) × IsInPhase (width x.world) plan
plan_known x who plan some is was =
    let g = vcpu_of who.vm who.vcpu in
    let inside : has_vcpu some.past g ≡ true = subst (λ (vs : List Vm). is_vcpu_in vs g ≡ true) some.stands.vms is.there in
    let at : stays.Moving plan ≡ (record_of x g).stay = was ∙ ap (λ q. (get_or x.vcpus q no_record).stay) is.slot in
    let planned : PlanStands x.world g (stays.Moving plan) = subst (PlanStands x.world g) (sym at) (some.stands.vcpus g inside).plan in
    (planned.0, planned.1)

-- One access of a move is made, whatever the move then carries.
abbrev pub OneMade : World → Moving → World → Type 0
OneMade w m u = (hand : Hand) × MakesNext w m u hand

-- A step of the move of a virtual hart is done, once what lands before it has landed; whether it was
-- the last one.
pub record AccessGoes (old new : CoreState) (g : Vcpu) (last : Bool) : Type 0 where
  pub stands : (h : History) → NoneAtFence h (Stepped g) → CoreStands old h → CoreStands new (Stepped g ∷ h)
  pub at_last : (h : History) → NoneAtFence h (Stepped g) → CoreStands old h → last ≡ is_at_last (file_words h) (home h g)
  pub moving : last ≡ false → is_moving (home_in (record_of new g).stay) ≡ true
  pub fewer : last ≡ false → left_in new g < left_in old g
  pub makes : (plan : PlanState) → (record_of old g).stay ≡ stays.Moving plan → OneMade old.world (moving_of plan) new.world

-- What a step's calls say, once what lands before it has landed.
pub record Made (x y : CoreState) (who : Found) (plan : PlanState) (next : Next PlanState) : Type 0 where
  pub swapped : Swapped x y who (stays.Moving plan) (stay_then next)
  pub first : NoneAtFence swapped.some.past (Stepped (vcpu_of who.vm who.vcpu))
  pub unaimed : aims (moving_of plan) ≡ false
  pub whole : IsWhole x.world
  pub whole_then : IsWhole y.world
  pub leases : y.leases ≡ with_back (back_then next) x.leases
  pub goes : MatchNext next (λ p. Goes x.world (moving_of plan) y.world (moving_of p)) (λ o. EndsAs x.world (moving_of plan) y.world o)
  pub fits : MatchNext next (λ p. MoveFits y.world (moving_of p)) (λ o. Unit {0})
  pub phase : MatchNext next (λ p. IsInPhase (width y.world) p) (λ o. Unit {0})

module _ (x y : CoreState) (who : Found) (plan : PlanState) where
  abbrev its : Vcpu
  its = vcpu_of who.vm who.vcpu

  abbrev its_record : Stay → VcpuRecord
  its_record stay = at_stay (record_of x (vcpu_of who.vm who.vcpu)) stay

  its_there : (h : History) → CoreStands x h → IsFound x.world who → has_vcpu h (vcpu_of who.vm who.vcpu) ≡ true
  its_there h stands is = subst (λ (vs : List Vm). is_vcpu_in vs its ≡ true) stands.vms is.there

  none_aimed : (next : Next PlanState) (h : History) → CoreStands x h → Made x y who plan next
      → is_aiming (passes_for h (vcpu_of who.vm who.vcpu)) (home h (vcpu_of who.vm who.vcpu)) ≡ false
  none_aimed next h stands c = sym (aims_alike x h its plan stands (its_there h stands c.swapped.is_who)
      (sym (was_at x y who (stays.Moving plan) (stay_then next) c.swapped))) ∙ c.unaimed

  goes_on : (later : PlanState) (h : History) → NoneAtFence h (Stepped (vcpu_of who.vm who.vcpu)) → CoreStands x h
      → Made x y who plan (Again later) → GoesOf x y h (vcpu_of who.vm who.vcpu) plan later (its_record (stays.Moving later))
  goes_on later h first stands c = record {
    step_of = record {
      first = first;
      unaimed = none_aimed (Again later) h stands c;
      stands = stands;
      whole = c.whole;
      there = its_there h stands c.swapped.is_who;
      was = sym (was_at x y who (stays.Moving plan) (stays.Moving later) c.swapped);
      step = c.goes.step;
      selects = c.swapped.selects;
      passes = c.swapped.passes;
      vcpus = put_at x y who (stays.Moving plan) (stays.Moving later) c.swapped;
      select = refl;
      majors = refl;
    };
    leases = c.leases;
    stay = refl;
    goes = c.goes;
    fits = c.fits;
    phase = c.phase;
  }

  ends_it : (o : Outcome) (h : History) → NoneAtFence h (Stepped (vcpu_of who.vm who.vcpu)) → CoreStands x h → Made x y who plan (Finished o)
      → EndsOf x y h (vcpu_of who.vm who.vcpu) plan o (its_record (stay_after o))
  ends_it o h first stands c = record {
    step_of = record {
      first = first;
      unaimed = none_aimed (Finished o) h stands c;
      stands = stands;
      whole = c.whole;
      there = its_there h stands c.swapped.is_who;
      was = sym (was_at x y who (stays.Moving plan) (stay_after o) c.swapped);
      step = c.goes.ends.step;
      selects = c.swapped.selects;
      passes = c.swapped.passes;
      vcpus = put_at x y who (stays.Moving plan) (stay_after o) c.swapped;
      select = refl;
      majors = refl;
    };
    whole_then = c.whole_then;
    leases = c.leases;
    stay = refl;
    ends = c.goes;
  }

  at_last_by : (h : History) (r : VcpuRecord) (hand : Hand) (b : Bool) → StepOf x y h (vcpu_of who.vm who.vcpu) plan r hand
      → is_at_last (width x.world) (moving_of plan).home ≡ b → b ≡ is_at_last (file_words h) (home h (vcpu_of who.vm who.vcpu))
  at_last_by h r hand b s e = sym e ∙ (λ k. is_at_last (steps.same_words x y h its plan r hand s k) (steps.same_home x y h its plan r hand s k))

  -- the plan of its record is the one that was taken out of it
  same_plan : (other : PlanState) → stays.Moving plan ≡ stays.Moving other → OneMade x.world (moving_of plan) y.world
      → OneMade x.world (moving_of other) y.world
  same_plan other e one = let same : plan ≡ other = cc in subst (λ (p : PlanState). OneMade x.world (moving_of p) y.world) same one

  pub step_goes : (next : Next PlanState) → Made x y who plan next → AccessGoes x y (vcpu_of who.vm who.vcpu) (is_finished next)
  step_goes (Again later) c =
      let some = c.swapped.some in
      let now = goes_on later some.past c.first some.stands c in
      let kept : record_of y its ≡ its_record (stays.Moving later) =
      steps.step_record x y some.past its plan (its_record (stays.Moving later)) (moving_of later).hand now.step_of in
      let was : (record_of x its).stay ≡ stays.Moving plan = now.step_of.was in
      let machine = steps.machine x y some.past its plan (its_record (stays.Moving later)) (moving_of later).hand now.step_of in
      let aimed : aims_done (one_more (moving_of plan).home) ≡ aims_done (moving_of plan).home = aims_stay (moving_of plan).home in
      let same : left_in y its ≡ steps_left (width x.world)
      (one_more (moving_of plan).home) + (passes_to its x.passes - aims_done (moving_of plan).home) =
      (λ k. steps_left ((machine.n k + 1) / 64) (home_in (kept k).stay) + (passes_to its (c.swapped.passes k) - aims_done
      (home_in (kept k).stay))) ∙ ap (λ t. steps_left (width x.world) t + (passes_to its x.passes - aims_done t)) c.goes.home
      ∙ ap (λ a. steps_left (width x.world) (one_more (moving_of plan).home) + (passes_to its x.passes - a)) aimed in
      let less = left_fewer (width x.world) (moving_of plan).home c.goes.step.access c.goes.step.is_next in
      record {
        stands = λ h first stands. goes_stands x y h its plan later (its_record (stays.Moving later)) (goes_on later h first stands c);
        at_last = λ h first stands. at_last_by h (its_record (stays.Moving later)) (moving_of later).hand false
            (goes_on later h first stands c).step_of c.goes.more;
        moving = λ e. ap (λ (r : VcpuRecord). is_moving (home_in r.stay)) kept
            ∙ later_moving x y some.past its plan later (its_record (stays.Moving later)) now;
        makes = λ other e. same_plan other (sym was ∙ e) ((moving_of later).hand, c.goes.step);
        fewer = λ e. subst (λ n. n < left_in x its) (sym same)
            (subst (λ s. steps_left (width x.world) (one_more (moving_of plan).home) + (passes_to its x.passes - aims_done
            (moving_of plan).home) < steps_left (width x.world) (home_in s) + (passes_to its x.passes - aims_done (home_in s))) (sym was)
            (omega (arith, less)));
      }
  step_goes (Finished o) c = record {
    stands = λ h first stands. ends_stands x y h its plan o (its_record (stay_after o)) (ends_it o h first stands c);
    at_last = λ h first stands. at_last_by h (its_record (stay_after o)) (moving_of plan).hand true (ends_it o h first stands c).step_of
        c.goes.ends.last;
    moving = λ e. absurd (true≢false e);
    fewer = λ e. absurd (true≢false e);
    makes = λ other e. same_plan other (sym (ends_it o c.swapped.some.past c.first c.swapped.some.stands c).step_of.was ∙ e)
        ((moving_of plan).hand, c.goes.ends.step);
  }

-- ---- before that, what lands first

-- the plan of a virtual hart that is there is its own, and is where the history has it
its_own : (x : CoreState) (h : History) (g : Vcpu) (plan : PlanState) → CoreStands x h → has_vcpu h g ≡ true
    → (record_of x g).stay ≡ stays.Moving plan → (mover (moving_of plan) ≡ g) × ((moving_of plan).home ≡ home h g)
its_own x h g plan stands there was =
    let stood = stands.vcpus g there in
    let planned : PlanStands x.world g (stays.Moving plan) = subst (PlanStands x.world g) was stood.plan in
    (planned.2, sym (ap home_in was) ∙ stood.same_home)

-- What stands before the calls of a step: whose plan it is, and what lands first.
pub record IsFirst (x : CoreState) (landed : World) (who : Found) (plan : PlanState) : Type 0 where
  pub is_who : IsFound x.world who
  pub was : (record_of x (vcpu_of who.vm who.vcpu)).stay ≡ stays.Moving plan
  pub low : who.vm < length x.world.vms
  pub first : moves.LandsFirst x.world (moving_of plan) landed

pub vm_low : (x : CoreState) (who : Found) → IsWhole x.world → IsFound x.world who → who.vm < length x.world.vms
vm_low x who whole is = (vcpu_entry x.world who.vm who.vcpu whole is.there).0

pub landed_stands : (x : CoreState) (landed : World) (who : Found) (plan : PlanState) → IsFirst x landed who plan → (h : History) → CoreStands x h
    → CoreStands (once_landed x landed) (landed_first (vcpu_of who.vm who.vcpu) h)
landed_stands x landed who plan c h stands =
    let g = vcpu_of who.vm who.vcpu in
    let there : has_vcpu h g ≡ true = subst (λ (vs : List Vm). is_vcpu_in vs g ≡ true) stands.vms c.is_who.there in
    let own = its_own x h g plan stands there c.was in
    let low : (moving_of plan).who.found.vm < length x.world.vms = subst (λ (z : Vcpu). z.vm < length x.world.vms) (sym own.0) c.low in
    subst (λ (z : Vcpu). CoreStands (once_landed x landed) (landed_first z h)) own.0
    (first_stands x landed (moving_of plan) h low (own.1 ∙ ap (home h) (sym own.0)) c.first stands)

abbrev pub landed_some : (x : CoreState) (landed : World) (who : Found) (plan : PlanState) → IsFirst x landed who plan → StandsForSome x
    → StandsForSome (once_landed x landed)
landed_some x landed who plan c some = record {
  past = landed_first (vcpu_of who.vm who.vcpu) some.past;
  happens = first_happens (vcpu_of who.vm who.vcpu) some.past some.happens;
  stands = landed_stands x landed who plan c some.past some.stands;
}

pub landed_who : (x : CoreState) (landed : World) (who : Found) (plan : PlanState) → IsFirst x landed who plan → IsFound landed who
landed_who x landed who plan c =
    let vms = c.first.same.vms in
    record {
      there = subst (λ (vs : List Vm). is_vcpu_in vs (vcpu_of who.vm who.vcpu) ≡ true) (sym vms) c.is_who.there;
      slot = c.is_who.slot ∙ ap (λ vs. slot_of vs (vcpu_of who.vm who.vcpu)) (sym vms);
      notice = c.is_who.notice ∙ ap (λ vs. notice_hart vs (vcpu_of who.vm who.vcpu)) (sym vms);
    }

pub landed_goes : (x : CoreState) (landed : World) (y : CoreState) (who : Found) (plan : PlanState) (last : Bool) → aims (moving_of plan) ≡ false
    → IsFirst x landed who plan → AccessGoes (once_landed x landed) y (vcpu_of who.vm who.vcpu) last → MoveGoes x y (vcpu_of who.vm who.vcpu) last
landed_goes x landed y who plan last unaimed c a =
    let g = vcpu_of who.vm who.vcpu in
    let same : record_of (once_landed x landed) g ≡ record_of x g = ap (λ vs. get_or x.vcpus (slot_of vs g) no_record) c.first.same.vms in
    let left : left_in (once_landed x landed) g ≡ left_in x g =
    (λ k. steps_left ((c.first.same.n k + 1) / 64) (home_in (same k).stay) + (passes_to g x.passes - aims_done (home_in (same k).stay))) in
    record {
      stands = λ h stands. a.stands (landed_first g h) (lands_first g h) (landed_stands x landed who plan c h stands);
      at_last = λ h stands.
          a.at_last (landed_first g h) (lands_first g h) (landed_stands x landed who plan c h stands)
          ∙ ap (λ w. is_at_last w (home (landed_first g h) g)) (words_first g h) ∙ ap (is_at_last (file_words h)) (home_landed_first g g h);
      moving = a.moving;
      makes = λ other e.
          let is : plan ≡ other = let both : stays.Moving plan ≡ stays.Moving other = sym c.was ∙ e in cc in
          subst (λ b. MakesOneBy (aim_if b (moving_of other)) x.world (moving_of other) y.world)
          (sym unaimed ∙ ap (λ (p : PlanState). aims (moving_of p)) is) (record {
            landed = landed;
            first = subst (λ (p : PlanState). moves.LandsFirst x.world (moving_of p) landed) is c.first;
            then = a.makes other (ap (λ (r : VcpuRecord). r.stay) same ∙ e);
          });
      fewer = λ e. subst (λ n. left_in y g < n) left (a.fewer e);
    }

-- ---- a step that aims

aims_once : (there : Home) → is_moving there ≡ true → aims_done (aimed there) ≡ suc (aims_done there)
aims_once (OnWay way at) moves = omega arith
aims_once there moves = absurd (true≢false (sym moves))

left_aimed : (words : ℕ) (there : Home) → steps_left words (aimed there) ≡ steps_left words there
left_aimed words (OnWay way at) = refl
left_aimed words there = refl

-- What a step's calls say that aims a passed source.
pub record Aims (x y : CoreState) (who : Found) (plan later : PlanState) : Type 0 where
  pub swapped : Swapped x y who (stays.Moving plan) (stays.Moving later)
  pub some : 1 ≤ width x.world
  pub aiming : aims (moving_of plan) ≡ true
  pub leases : y.leases ≡ x.leases
  pub goes : GoesAiming x.world (moving_of plan) y.world (moving_of later)
  pub fits : MoveFits y.world (moving_of later)
  pub phase : IsInPhase (width y.world) later

module _ (x y : CoreState) (who : Found) (plan later : PlanState) (c : Aims x y who plan later) where
  abbrev mine : Vcpu
  mine = vcpu_of who.vm who.vcpu

  abbrev then_kept : VcpuRecord
  then_kept = at_stay (record_of x (vcpu_of who.vm who.vcpu)) (stays.Moving later)

  inside : (h : History) → CoreStands x h → has_vcpu h (vcpu_of who.vm who.vcpu) ≡ true
  inside h stands = subst (λ (vs : List Vm). is_vcpu_in vs mine ≡ true) stands.vms c.swapped.is_who.there

  was_moving : (record_of x (vcpu_of who.vm who.vcpu)).stay ≡ stays.Moving plan
  was_moving = sym (was_at x y who (stays.Moving plan) (stays.Moving later) c.swapped)

  aiming_then : (h : History) → CoreStands x h → is_aiming (passes_for h (vcpu_of who.vm who.vcpu)) (home h (vcpu_of who.vm who.vcpu)) ≡ true
  aiming_then h stands = sym (aims_alike x h mine plan stands (inside h stands) was_moving) ∙ c.aiming

  no_fence : (h : History) → CoreStands x h → is_at_fence (home h (vcpu_of who.vm who.vcpu)) ≡ false
  no_fence h stands = aim_is_no_fence (passes_for h mine) (home h mine) (aiming_then h stands)

  aim_of_it : (h : History) → CoreStands x h → AimOf x y h (vcpu_of who.vm who.vcpu) plan later then_kept
  aim_of_it h stands = record {
    first = λ fence. absurd (true≢false (sym fence ∙ no_fence h stands));
    stands = stands;
    some = let words : width x.world ≡ file_words h = ap (λ n. (n + 1) / 64) stands.greatest in let one = c.some in omega (arith, words, one);
    there = inside h stands;
    was = was_moving;
    aiming = aiming_then h stands;
    goes = c.goes;
    fits = c.fits;
    phase = c.phase;
    leases = c.leases;
    selects = c.swapped.selects;
    passes = c.swapped.passes;
    vcpus = put_at x y who (stays.Moving plan) (stays.Moving later) c.swapped;
    stay = refl;
    select = refl;
    majors = refl;
  }

  pub aim_goes : MoveGoes x y (vcpu_of who.vm who.vcpu) false
  aim_goes =
      let some = c.swapped.some in
      let past = some.past in
      let kept : record_of y mine ≡ then_kept = own_record x y past mine then_kept some.stands (inside past some.stands)
      (ap (λ (w : World). w.vms) c.goes.world) (put_at x y who (stays.Moving plan) (stays.Moving later) c.swapped) in
      let moves : is_moving (moving_of plan).home ≡ true = let planned : PlanStands x.world mine (stays.Moving plan) =
      subst (PlanStands x.world mine) was_moving (some.stands.vcpus mine (inside past some.stands)).plan in planned.3 in
      let same_home : (moving_of plan).home ≡ home past mine = ap home_in (sym was_moving)
      ∙ (some.stands.vcpus mine (inside past some.stands)).same_home in
      let count : passes_to mine x.passes ≡ passes_for past mine = ap (passes_to mine) some.stands.passes.same in
      let low : aims_done (home past mine) < passes_for past mine =
      ltb-true _ _ (and_parts _ (nat_lt (aims_done (home past mine)) (passes_for past mine)) (aiming_then past some.stands)).1 in
      let below : aims_done (moving_of plan).home < passes_to mine x.passes = omega (arith, low, count, ap aims_done same_home) in
      let later_home : (moving_of later).home ≡ aimed (moving_of plan).home = ap (λ (m : Moving). m.home) c.goes.moved in
      let then_left : left_in y mine ≡ steps_left (width x.world)
      (moving_of plan).home + (passes_to mine x.passes - suc (aims_done (moving_of plan).home)) =
      (λ k. steps_left (width (c.goes.world k)) (home_in (kept k).stay) + (passes_to mine (c.swapped.passes k) - aims_done (home_in (kept k).stay)))
      ∙ (λ k. steps_left (width x.world) (later_home k) + (passes_to mine x.passes - aims_done (later_home k)))
      ∙ (λ k. left_aimed (width x.world) (moving_of plan).home k + (passes_to mine x.passes - aims_once (moving_of plan).home moves k)) in
      record {
        stands = λ h stands. subst (λ b. CoreStands y (Stepped mine ∷ cond b (oldest_landed (length (flight h who.vm)) who.vm h) h))
            (sym (no_fence h stands)) (aim_stands x y h mine plan later then_kept (aim_of_it h stands));
        at_last = λ h stands. sym (aim_is_not_last (passes_for h mine) (file_words h) (home h mine) (aiming_then h stands));
        moving = λ e. ap (λ (r : VcpuRecord). is_moving (home_in r.stay)) kept
            ∙ later_moves x y past mine plan later then_kept (aim_of_it past some.stands);
        fewer = λ e. subst (λ n. n < left_in x mine) (sym then_left)
            (subst (λ s. steps_left (width x.world) (moving_of plan).home + (passes_to mine x.passes - suc
            (aims_done (moving_of plan).home)) < steps_left (width x.world) (home_in s) + (passes_to mine x.passes - aims_done (home_in s)))
            (sym was_moving) (omega (arith, below)));
        makes = λ other e.
            let is : plan ≡ other = let both : stays.Moving plan ≡ stays.Moving other = sym was_moving ∙ e in cc in
            subst (λ b. MakesOneBy (aim_if b (moving_of other)) x.world (moving_of other) y.world)
            (sym c.aiming ∙ ap (λ (p : PlanState). aims (moving_of p)) is) c.goes.world;
      }

-- ---- a step, of either kind

-- What a step's calls say.
pub record StepCalls (x y : CoreState) (who : Found) (plan : PlanState) (next : Next PlanState) : Type 0 where
  pub is_who : IsFound x.world who
  pub some : StandsForSome x
  pub was : stays.Moving plan ≡ (get_or x.vcpus who.slot no_record).stay
  pub between : List VcpuRecord
  pub other : Stay
  pub out : between ≡ set x.vcpus who.slot (at_stay (get_or x.vcpus who.slot no_record) other)
  pub back : y.vcpus ≡ set between who.slot (at_stay (get_or between who.slot no_record) (stay_then next))
  pub selects : y.selects ≡ x.selects
  pub passes : y.passes ≡ x.passes
  pub whole : IsWhole x.world
  pub whole_then : IsWhole y.world
  pub one : 1 ≤ width x.world
  pub leases : y.leases ≡ with_back (back_then next) x.leases
  pub goes : StepsTo (next_aim (moving_of plan)) x.world (moving_of plan) y.world next
  pub fits : MatchNext next (λ p. MoveFits y.world (moving_of p)) (λ o. Unit {0})
  pub phase : MatchNext next (λ p. IsInPhase (width y.world) p) (λ o. Unit {0})

module _ (x y : CoreState) (who : Found) (plan : PlanState) where
  -- it aims
  by_aim : (next : Next PlanState) → StepCalls x y who plan next → aims (moving_of plan) ≡ true
      → MatchNext next (λ p. GoesAiming x.world (moving_of plan) y.world (moving_of p)) (λ o. ⊥)
      → MoveGoes x y (vcpu_of who.vm who.vcpu) (is_finished next)
  by_aim (Again later) c aiming goes = aim_goes x y who plan later (record {
    swapped = record {
      is_who = c.is_who;
      some = c.some;
      between = c.between;
      other = c.other;
      before = c.was;
      out = c.out;
      back = c.back;
      selects = c.selects;
      passes = c.passes;
    };
    some = c.one;
    aiming = aiming;
    leases = c.leases;
    goes = goes;
    fits = c.fits;
    phase = c.phase;
  })
  by_aim (Finished o) c aiming goes = absurd goes

  -- it makes an access
  by_access : (next : Next PlanState) → StepCalls x y who plan next → aims (moving_of plan) ≡ false
      → OnceLanded x.world (moving_of plan) (λ landed. MatchNext next (λ p. Goes landed (moving_of plan) y.world (moving_of p))
      (λ o. EndsAs landed (moving_of plan) y.world o)) → MoveGoes x y (vcpu_of who.vm who.vcpu) (is_finished next)
  by_access next c unaimed once =
      let landed = once.landed in
      let first : IsFirst x landed who plan = record {
        is_who = c.is_who;
        was = sym (c.was ∙ ap (λ q. (get_or x.vcpus q no_record).stay) c.is_who.slot);
        low = vm_low x who c.whole c.is_who;
        first = once.first;
      } in
      landed_goes x landed y who plan (is_finished next) unaimed first
      (step_goes (once_landed x landed) y who plan next (record {
        swapped = record {
          is_who = landed_who x landed who plan first;
          some = landed_some x landed who plan first c.some;
          between = c.between;
          other = c.other;
          before = c.was;
          out = c.out;
          back = c.back;
          selects = c.selects;
          passes = c.passes;
        };
        first = lands_first (vcpu_of who.vm who.vcpu) c.some.past;
        unaimed = unaimed;
        whole = landed_whole x.world (moving_of plan) landed c.whole once.first;
        whole_then = c.whole_then;
        leases = c.leases;
        goes = once.then;
        fits = c.fits;
        phase = c.phase;
      }))

  pub step_called : (next : Next PlanState) → StepCalls x y who plan next → MoveGoes x y (vcpu_of who.vm who.vcpu) (is_finished next)
  step_called next c = by_kind (aims (moving_of plan)) refl
    where
      by_kind : (b : Bool) → aims (moving_of plan) ≡ b → MoveGoes x y (vcpu_of who.vm who.vcpu) (is_finished next)
      by_kind true e = by_aim next c e (subst (λ b. StepsTo (aim_if b (moving_of plan)) x.world (moving_of plan) y.world next) e c.goes)
      by_kind false e = by_access next c e (subst (λ b. StepsTo (aim_if b (moving_of plan)) x.world (moving_of plan) y.world next) e c.goes)

-- it stands for some history still
pub goes_still : (x y : CoreState) (who : Found) (last : Bool) → MoveGoes x y (vcpu_of who.vm who.vcpu) last → StandsForSome x → IsFound x.world who
    → is_moving (home_in (record_of x (vcpu_of who.vm who.vcpu)).stay) ≡ true → StandsForSome y
goes_still x y who last goes some is moving =
    let g = vcpu_of who.vm who.vcpu in
    let there : has_vcpu some.past g ≡ true = subst (λ (vs : List Vm). is_vcpu_in vs g ≡ true) some.stands.vms is.there in
    record {
      past = step_taken g some.past;
      happens = step_happens g some.past there (ap is_moving (sym (some.stands.vcpus g there).same_home) ∙ moving) some.happens;
      stands = goes.stands some.past some.stands;
    }

-- ---- the file that comes back

-- it is one that is there, and out
pub back_known : (x : CoreState) (u : World) (who : Found) (plan : PlanState) (next : Next PlanState) → StandsForSome x → IsFound x.world who
    → stays.Moving plan ≡ (get_or x.vcpus who.slot no_record).stay
    → StepsTo (next_aim (moving_of plan)) x.world (moving_of plan) u next → IsOutThere x.leases (back_then next)
back_known x u who plan (Again later) some is was c = tt
back_known x u who plan (Finished o) some is was c =
    by_kind (aims (moving_of plan)) (subst (λ b. StepsTo (aim_if b (moving_of plan)) x.world (moving_of plan) u (Finished o)) refl c)
  where
    inside : has_vcpu some.past (vcpu_of who.vm who.vcpu) ≡ true
    inside = subst (λ (vs : List Vm). is_vcpu_in vs (vcpu_of who.vm who.vcpu) ≡ true) some.stands.vms is.there

    same : (moving_of plan).home ≡ home some.past (vcpu_of who.vm who.vcpu)
    same = ap home_in (was ∙ ap (λ q. (get_or x.vcpus q no_record).stay) is.slot) ∙ (some.stands.vcpus (vcpu_of who.vm who.vcpu) inside).same_home

    by_file : (back : Option GuestPlace) → GivesBack o (moving_of plan).home (moving_of plan).hand → back_of o ≡ back → IsOutThere x.leases back
    by_file None gives e = tt
    by_file (Some p) gives e =
        let mine : holds p (home some.past (vcpu_of who.vm who.vcpu)) ≡ true = ap (holds p) (sym same)
        ∙ ended_held p (moving_of plan).home (sym (ended_back o (moving_of plan).home (moving_of plan).hand gives) ∙ e) in
        let there = some.stands.held (vcpu_of who.vm who.vcpu) p inside mine in (
          in_pool x some.past p some.stands there,
          some.stands.leases p there
              ∙ any_vcpu (vms_of some.past) (λ z. holds p (home some.past z)) (vcpu_of who.vm who.vcpu) inside mine,
        )

    by_kind : (b : Bool) → StepsTo (aim_if b (moving_of plan)) x.world (moving_of plan) u (Finished o) → IsOutThere x.leases (back_of o)
    by_kind true goes = absurd goes
    by_kind false once = by_file (back_of o) once.then.gives refl

-- ---- who is moved

pub who_still : (x y : CoreState) (who : Found) (last : Bool) → MoveGoes x y (vcpu_of who.vm who.vcpu) last → StandsForSome x → IsFound x.world who
    → IsFound y.world who
who_still x y who last goes some is =
    let vms : x.world.vms ≡ y.world.vms = some.stands.vms
    ∙ sym ((goes.stands some.past some.stands).vms ∙ (same_first (vcpu_of who.vm who.vcpu) some.past).0) in
    record {
      there = subst (λ (vs : List Vm). is_vcpu_in vs (vcpu_of who.vm who.vcpu) ≡ true) vms is.there;
      slot = is.slot ∙ ap (λ vs. slot_of vs (vcpu_of who.vm who.vcpu)) vms;
      notice = is.notice ∙ ap (λ vs. notice_hart vs (vcpu_of who.vm who.vcpu)) vms;
    }

-- ---- the machine

pub harts_still : (x y : CoreState) (g : Vcpu) (last : Bool) → MoveGoes x y g last → StandsForSome x → y.world.imsic.harts ≡ x.world.imsic.harts
harts_still x y g last goes some =
    (goes.stands some.past some.stands).harts ∙ ap (λ (o : Option MachineSize). option_map_or (λ (m : MachineSize). m.harts) o 0)
    (same_first g some.past).1 ∙ sym some.stands.harts

-- an aim leaves how many harts the targets have
pub told_harts : {T : Type 0} (aim : T → ℕ → ℕ → T → Type 0) (map : T → TargetMap)
    (one : (old new : T) (source target : ℕ) → aim old source target new → AimsOne (map old) source target (map new)) (o : Option PassAim)
    (old new : T) → AimsAs aim o old new → (map new).harts ≡ (map old).harts
told_harts {T} aim map one None old new same = ap (λ t. (map t).harts) same
told_harts {T} aim map one (Some a) old new done = (one old new a.source a.target done).harts
