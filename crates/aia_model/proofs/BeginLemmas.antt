-- A move whose line is not refused may begin; then it is on its way, with no step done.
use Rattle.std.proofs.Common.{◌≡◌, ℕ, false, is_none, ◌∷◌, Option, Some, None, refl, sym, subst, ◌∙◌}
use Rattle.std.specs.Option.{option_map_or}
use Rattle.std.proofs.lemmas.Bool.{cond-true}
use Rattle.aia_vcpu.specs.Vms.{Vcpu, vcpu_of}
use Rattle.aia_vcpu.specs.Home.{Way, old_end, new_end, Home, is_moving, rests_in_memory, at_first, leaving, arriving, shifting}
use Rattle.aia_vcpu.specs.declared.rest.Rest.TheVariants.{Parked}
use Rattle.aia_vcpu.specs.Home.Home.{InMemory, Resident, OnWay}
use Rattle.aia_vcpu.specs.Home.Way.{Outward, Inward, Across}
use Rattle.aia_vcpu.specs.Plans.{plan_steps}
use Rattle.aia_model.specs.declared.line.Line.TheVariants as lines
use Rattle.aia_model.specs.declared.want.Want.{Want}
use Rattle.aia_model.specs.declared.want.Want.TheVariants as wants
use Rattle.aia_model.specs.Move.{WantedMove, mover, wanted_move}
use Rattle.aia_model.specs.Move.WantedMove.{Arrives, Leaves, Shifts}
use Rattle.aia_model.specs.Event.{History}
use Rattle.aia_model.specs.Event.Event.{Began}
use Rattle.aia_model.specs.HomeOf.{home, free_file, guest_place}
use Rattle.aia_model.specs.Refusal.{refusal}
use Rattle.aia_model.specs.Answer.{steps_of}
use Rattle.aia_model.specs.Histories.{MayHappen}
use Rattle.aia_model.proofs.MoveLemmas.{is_itself, home_step}
use Rattle.aia_model.proofs.RefusalLemmas.{arrive_allowed, leave_allowed, shift_allowed}

pub may_begin : (h : History) (vm vcpu : ℕ) (want : Want) → refusal h (lines.Move vm vcpu want) ≡ None
    → MayHappen h (Began (wanted_move (vcpu_of vm vcpu) want))
may_begin h vm vcpu wants.Leave e = let may = leave_allowed h vm vcpu e in (may.0, may.1, refl)
may_begin h vm vcpu (wants.Arrive hart) e = let may = arrive_allowed h vm vcpu hart e in (may.0, may.1, may.4)
may_begin h vm vcpu (wants.Shift hart) e = let may = shift_allowed h vm vcpu hart e in (may.0, may.1, may.4)

-- a home is at the beginning of a way of the move, whose steps are those between its ends
pub record IsBegun (move : WantedMove) (there : Home) : Type 0 where
  pub way : Way
  pub at_home : there ≡ OnWay way at_first
  pub steps : (words : ℕ) → steps_of words move ≡ plan_steps (old_end way) (new_end way) words

leave_begun : (g : Vcpu) (there : Home) → is_moving there ≡ false → rests_in_memory there ≡ false → IsBegun (Leaves g) (leaving there)
leave_begun g (Resident p) idle kept = record { way = Outward p; at_home = refl; steps = λ words. refl }
leave_begun g there idle kept = absurd (cc)

arrive_begun : (g : Vcpu) (hart : ℕ) (file : Option ℕ) (there : Home) → there ≡ InMemory Parked → is_none file ≡ false
    → IsBegun (Arrives g hart) (option_map_or (λ f. arriving (guest_place hart f) there) file there)
arrive_begun g hart None there parked free = absurd (cc)
arrive_begun g hart (Some f) there parked free = record { way = Inward (guest_place hart f); at_home = rw parked refl; steps = λ words. refl }

shift_begun : (g : Vcpu) (hart : ℕ) (file : Option ℕ) (there : Home) → is_moving there ≡ false → rests_in_memory there ≡ false
    → is_none file ≡ false → IsBegun (Shifts g hart) (option_map_or (λ f. shifting (guest_place hart f) there) file there)
shift_begun g hart None there idle kept free = absurd (cc)
shift_begun g hart (Some f) (Resident p) idle kept free = record { way = Across p (guest_place hart f); at_home = refl; steps = λ words. refl }
shift_begun g hart (Some f) there idle kept free = absurd (cc)

pub begun : (h : History) (vm vcpu : ℕ) (want : Want) → refusal h (lines.Move vm vcpu want) ≡ None
    → IsBegun (wanted_move (vcpu_of vm vcpu) want) (home (Began (wanted_move (vcpu_of vm vcpu) want) ∷ h) (vcpu_of vm vcpu))
begun h vm vcpu wants.Leave e =
    let g = vcpu_of vm vcpu in
    let may = leave_allowed h vm vcpu e in
    subst (IsBegun (Leaves g)) (sym (home_step (Began (Leaves g)) h g ∙ cond-true _ _ _ (is_itself g))) (leave_begun g (home h g) may.1 may.2)
begun h vm vcpu (wants.Arrive hart) e =
    let g = vcpu_of vm vcpu in
    let may = arrive_allowed h vm vcpu hart e in
    subst (IsBegun (Arrives g hart)) (sym (home_step (Began (Arrives g hart)) h g ∙ cond-true _ _ _ (is_itself g)))
    (arrive_begun g hart (free_file h (home h) hart) (home h g) may.2 may.3)
begun h vm vcpu (wants.Shift hart) e =
    let g = vcpu_of vm vcpu in
    let may = shift_allowed h vm vcpu hart e in
    subst (IsBegun (Shifts g hart)) (sym (home_step (Began (Shifts g hart)) h g ∙ cond-true _ _ _ (is_itself g)))
    (shift_begun g hart (free_file h (home h) hart) (home h g) may.1 may.2 may.3)

pub moves_its_own : (g : Vcpu) (want : Want) → mover (wanted_move g want) ≡ g
moves_its_own g wants.Leave = refl
moves_its_own g (wants.Arrive hart) = refl
moves_its_own g (wants.Shift hart) = refl
