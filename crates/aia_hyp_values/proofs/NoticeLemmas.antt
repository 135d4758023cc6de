-- The notice of a move's step.
use Rattle.std.proofs.Common.{◌≡◌, ◌≢◌, ℕ, ◌+◌, Bool, true, false, ◌&&◌, cond, nat_eq, get_or, Some, None, inl, inr, refl, sym, ap, subst, ◌∙◌, arith}
use Rattle.std.proofs.lemmas.Bool.{cases_eq, cond-true, cond-false, eq-eqb, ne_eqb}
use Rattle.aia_file.specs.InterruptFile.{SameFile, landed}
use Rattle.aia_file.specs.FileState.{FileState, shown}
use Rattle.aia_file.specs.declared.spot.Spot.{Spot}
use Rattle.aia_file.specs.declared.spot.Spot.TheVariants as spots
use Rattle.aia_file.specs.Imsic.{IsThere, file_at}
use Rattle.aia_vcpu.specs.declared.place.GuestPlace.{GuestPlace}
use Rattle.aia_vcpu.specs.Vms.{Vcpu, slot_of, notice_hart}
use Rattle.aia_vcpu.specs.Home.{Home, Progress}
use Rattle.aia_vcpu.specs.Home.Home.{OnWay}
use Rattle.aia_vcpu.specs.Home.Way.{Outward}
use Rattle.aia_vcpu.specs.BySteps.{is_leaving}
use Rattle.aia_vcpu.specs.declared.end.End.TheVariants.{File, Memory}
use Rattle.aia_vcpu.specs.Plans.{IsNext, plan_step, plan_steps}
use Rattle.aia_vcpu.specs.declared.access.Access.{Access}
use Rattle.aia_vcpu.specs.declared.access.Access.TheVariants.{Post}
use Rattle.aia_vcpu.proofs.PlanLemmas.{one_a_step}
use Rattle.aia_vcpu_places.specs.Holds.{Hand}
use Rattle.aia_fabric_values.specs.World.{World}
use Rattle.aia_move_values.specs.Move.{Moving}
use Rattle.aia_move_values.specs.Touches.{Touches, sends}
use Rattle.aia_model.specs.Event.{History}
use Rattle.aia_model.specs.Vms.{vms_of}
use Rattle.aia_model.specs.FileAfter.FileDeed.{Rests}
use Rattle.aia_model.specs.Notice.{ends_leave}
use Rattle.aia_model.specs.FileOf.{FileName, MachineFile, SupervisorFile, notice_deed}
use Rattle.aia_model.proofs.FileLemmas.{same_or_other, is_file-itself, is_file-other}
use Rattle.aia_hyp_values.specs.Core.{CoreState}
use Rattle.aia_hyp_values.specs.HostFiles.{FileDone, host_spot, select_place}
use Rattle.aia_hyp_values.proofs.StandsLemmas.{count_after}
use Rattle.aia_hyp_values.proofs.EventLemmas.{as_it_was}

-- ---- when it is sent

not_last : (steps words : ℕ) (saw : Bool) → steps ≢ plan_step File Memory words Post
    → false ≡ (nat_eq (steps + 1) (plan_steps File Memory words) && saw)
not_last steps words saw ne = sym (ap (λ b. b && saw) (ne_eqb (steps + 1) (plan_steps File Memory words) (λ e. ne (omega (arith, e)))))

leave_sent : (words : ℕ) (access : Access) (from : GuestPlace) (at : Progress) (hand : Hand) (saw : Bool)
    → IsNext words (OnWay (Outward from) at) access → hand.seen ≡ saw
    → sends access hand ≡ (nat_eq (at.steps + 1) (plan_steps File Memory words) && saw)
leave_sent words access from at hand saw next seen = elim (cases_eq at.steps (plan_step File Memory words Post)) [
  | inl last ↦
      let post : access ≡ Post = one_a_step words (OnWay (Outward from) at) access Post next.has refl (sym next.step ∙ last) in
      ap (λ (a : Access). sends a hand) post ∙ seen ∙ sym
      (ap (λ b. b && saw) (eq-eqb (at.steps + 1) (plan_steps File Memory words) (omega (arith, last))))
  | inr more ↦ silent access next more ∙ not_last at.steps words saw more
]
  where
    silent : (access : Access) → IsNext words (OnWay (Outward from) at) access → at.steps ≢ plan_step File Memory words Post
        → sends access hand ≡ false
    silent Post next more = absurd (more next.step)
    silent access next more = refl

-- at the end of a leave whose looks saw something
pub sent_where : (words : ℕ) (access : Access) (there : Home) (hand : Hand) (saw : Bool) → IsNext words there access
    → (is_leaving there && hand.seen) ≡ (is_leaving there && saw) → sends access hand ≡ (ends_leave words there && saw)
sent_where words access (OnWay (Outward from) at) hand saw next looks = leave_sent words access from at hand saw next looks
sent_where words Post there hand saw next looks = let no : false ≡ true = next.has in absurd (cc)
sent_where words access there hand saw next looks = refl

-- ---- what it is to the host

pub count_sent : (sent : Bool) (w u : World) (m : Moving) (g : Vcpu) → Touches sent w u m
    → u.notices ≡ count_after (cond sent (Some g) None) w.notices
count_sent true w u m g t = (t.noticed refl).count
count_sent false w u m g t = t.count refl

module _ (x y : CoreState) (h : History) (m : Moving) (g : Vcpu) (notice : m.who.found.notice ≡ notice_hart (vms_of h) g)
    (slot : m.who.found.slot ≡ slot_of (vms_of h) g) (selects : y.selects ≡ x.selects) where
  rests : (f : FileName) → file_at y.world.imsic (host_spot f) ≡ file_at x.world.imsic (host_spot f) → FileDone x y f Rests
  rests f same = record {
    file = subst (λ (file : FileState). SameFile (shown file) (shown (file_at x.world.imsic (host_spot f)))) (sym same)
        (as_it_was (shown (file_at x.world.imsic (host_spot f))));
    select = ap (λ xs. get_or xs (select_place f) 0) selects;
  }

  unsent : (f : FileName) → Touches false x.world y.world m → IsThere x.world.imsic (host_spot f)
      → file_at y.world.imsic (host_spot f) ≡ file_at x.world.imsic (host_spot f)
  unsent (MachineFile hart) t inside = t.machine_files hart inside
  unsent (SupervisorFile hart) t inside = t.host_files hart inside (inl refl)

  elsewhere : (f : FileName) → Touches true x.world y.world m → IsThere x.world.imsic (host_spot f)
      → f ≢ SupervisorFile (notice_hart (vms_of h) g) → file_at y.world.imsic (host_spot f) ≡ file_at x.world.imsic (host_spot f)
  elsewhere (MachineFile hart) t inside ne = t.machine_files hart inside
  elsewhere (SupervisorFile hart) t inside ne = t.host_files hart inside (inr (λ e. ne (ap SupervisorFile (e ∙ notice))))

  pub host_sent : (sent : Bool) (f : FileName) → Touches sent x.world y.world m → IsThere x.world.imsic (host_spot f)
      → FileDone x y f (notice_deed h f (cond sent (Some g) None))
  host_sent false f t inside = rests f (unsent f t inside)
  host_sent true f t inside = elim (same_or_other f (SupervisorFile (notice_hart (vms_of h) g))) [
    | inl e ↦ subst (FileDone x y f) (sym (cond-true _ _ _ (is_file-itself f (SupervisorFile (notice_hart (vms_of h) g)) e))) (record {
      file = subst (λ (i : ℕ). SameFile (shown (file_at y.world.imsic (host_spot f))) (landed 0 i (shown (file_at x.world.imsic (host_spot f)))))
          (ap (λ q. q + 1) slot)
          (subst (λ (s : Spot). SameFile (shown (file_at y.world.imsic s)) (landed 0 (m.who.found.slot + 1) (shown (file_at x.world.imsic s))))
          (ap spots.SupervisorFile notice ∙ sym (ap host_spot e)) (t.noticed refl).lands.lands);
      select = ap (λ xs. get_or xs (select_place f) 0) selects;
    })
    | inr ne ↦ subst (FileDone x y f) (sym (cond-false _ _ _ (is_file-other f (SupervisorFile (notice_hart (vms_of h) g)) ne)))
        (rests f (elsewhere f t inside ne))
  ]
