-- What a store of a virtual hart for another one of its VM leaves, and what it is answered.
use Rattle.aia_model.proofs.ReachLemmas.{stage_in_force_by}
use Rattle.aia_model.specs.ReachOf.{stage_in_force_of}
use Rattle.aia_vcpu.proofs.RouteLemmas.{peers_may}
use Rattle.std.proofs.Common.{◌≡◌, ℕ, true, false, not, cond, Option, Some, None, refl, sym, ap, subst, ◌∙◌}
use Rattle.std.proofs.lemmas.Bool.{cond-true, cond-false}
use Rattle.aia_file.specs.declared.spot.Spot.{Spot}
use Rattle.aia_file.specs.Imsic.{IsThere}
use Rattle.aia_vcpu.specs.declared.place.GuestPlace.{GuestPlace}
use Rattle.aia_vcpu.specs.Vms.{Vcpu, vcpu_of, is_vcpu_in}
use Rattle.aia_vcpu.specs.Home.{runs}
use Rattle.aia_vcpu.specs.Routes.{peers_reach, MayLand}
use Rattle.aia_fabric_values.specs.World.{World, stage_of}
use Rattle.aia_fabric_values.specs.Stores.{StoresInGuestFile, ReachesByRecord}
use Rattle.aia_fabric_values.specs.Whole.{IsWhole}
use Rattle.aia_fabric_values.specs.Changes.{spot_of}
use Rattle.aia_model.specs.declared.answer.Answer.TheVariants.{Okay, Refused}
use Rattle.aia_model.specs.declared.refusal.Refusal.TheVariants.{Range, Away, GFault}
use Rattle.aia_model.specs.declared.line.Line.TheVariants.{Ipi}
use Rattle.aia_model.specs.Event.{History, has_machine, file_words}
use Rattle.aia_model.specs.Event.Event.{Accepted}
use Rattle.aia_model.specs.Vms.{has_vcpu}
use Rattle.aia_model.specs.HomeOf.{home}
use Rattle.aia_model.specs.Refusal.{refusal}
use Rattle.aia_fabric_values.proofs.PlaceLemmas.{named_guest}
use Rattle.aia_model.proofs.AnswerLemmas.{ipi_refusal}
use Rattle.aia_hyp_values.specs.Core.{CoreState, record_of, runs_in}
use Rattle.aia_hyp_values.specs.Stands.{CoreStands, CoreTakes}
use Rattle.aia_hyp_values.proofs.VcpuLemmas.{quiet_line}
use Rattle.aia_hyp_values.proofs.EventLemmas.{accepted, refused}
use Rattle.aia_hyp_values.proofs.RestLemmas.{runs_as_kept}
use Rattle.aia_hyp_values.proofs.GuestAccesses.{there_in, missing_in}
use Rattle.aia_hyp_values.proofs.GuestStores.{GuestStored, IsStoredFor, peers_held, stored_for_guest}

-- ---- who runs

home_away : (x : CoreState) (h : History) (g : Vcpu) → CoreStands x h → has_vcpu h g ≡ true → runs (home h g) ≡ runs_in (record_of x g).stay
home_away x h g stands there =
    let p = stands.vcpus g there in
    ap runs (sym p.same_home) ∙ runs_as_kept x.world g (record_of x g).stay p.plan

-- ---- where the store goes

relayed : (w u : World) (g : Vcpu) (value : ℕ) (reach : Option GuestPlace) → ((p : GuestPlace) → reach ≡ Some p → IsThere w.imsic (spot_of p))
    → ReachesByRecord reach w u g value → GuestStored w u g reach 0 value
relayed w u g value (Some p) inside relays = subst (λ (s : Spot). StoresInGuestFile w u s 0 value) (named_guest w.imsic p (inside p refl)) relays
relayed w u g value None inside relays = relays

-- ---- what is left, and the answer

-- the words that are left where the sender is there
sender_there : (h : History) (vm vcpu to value : ℕ) → has_machine h ≡ true → has_vcpu h (vcpu_of vm vcpu) ≡ true
    → refusal h (Ipi vm vcpu to value) ≡ cond (not (runs (home h (vcpu_of vm vcpu)))) (Some (Refused Away))
    (cond (not (has_vcpu h (vcpu_of vm to))) (Some (Refused GFault)) None)
sender_there h vm vcpu to value machine sends =
    ipi_refusal h vm vcpu to value machine
    ∙ ap (λ b. cond (not b) (Some (Refused Range))
    (cond (not (runs (home h (vcpu_of vm vcpu)))) (Some (Refused Away)) (cond (not (has_vcpu h (vcpu_of vm to))) (Some (Refused GFault)) None))) sends

-- and by whether it is away
by_stay : (x : CoreState) (h : History) (vm vcpu to value : ℕ) → CoreStands x h → is_vcpu_in x.world.vms (vcpu_of vm vcpu) ≡ true
    → refusal h (Ipi vm vcpu to value) ≡ cond (not (runs_in (record_of x (vcpu_of vm vcpu)).stay)) (Some (Refused Away))
    (cond (not (has_vcpu h (vcpu_of vm to))) (Some (Refused GFault)) None)
by_stay x h vm vcpu to value stands sender =
    let sends = there_in x h (vcpu_of vm vcpu) stands sender in
    sender_there h vm vcpu to value stands.there sends
    ∙ ap (λ b. cond (not b) (Some (Refused Away)) (cond (not (has_vcpu h (vcpu_of vm to))) (Some (Refused GFault)) None))
    (home_away x h (vcpu_of vm vcpu) stands sends)

pub no_sender : (x : CoreState) (vm vcpu to value : ℕ) → is_vcpu_in x.world.vms (vcpu_of vm vcpu) ≡ false
    → CoreTakes x x (Ipi vm vcpu to value) (Refused Range)
no_sender x vm vcpu to value lacks = refused x (Ipi vm vcpu to value) (Refused Range) (λ h stands.
    ipi_refusal h vm vcpu to value stands.there ∙ cond-true _ _ _ (ap not (missing_in x h (vcpu_of vm vcpu) stands lacks)))

pub sender_away : (x : CoreState) (vm vcpu to value : ℕ) → is_vcpu_in x.world.vms (vcpu_of vm vcpu) ≡ true
    → runs_in (record_of x (vcpu_of vm vcpu)).stay ≡ false → CoreTakes x x (Ipi vm vcpu to value) (Refused Away)
sender_away x vm vcpu to value sender away =
    refused x (Ipi vm vcpu to value) (Refused Away) (λ h stands. by_stay x h vm vcpu to value stands sender ∙ cond-true _ _ _ (ap not away))

pub no_peer : (x : CoreState) (vm vcpu to value : ℕ) → is_vcpu_in x.world.vms (vcpu_of vm vcpu) ≡ true
    → runs_in (record_of x (vcpu_of vm vcpu)).stay ≡ true → is_vcpu_in x.world.vms (vcpu_of vm to) ≡ false
    → CoreTakes x x (Ipi vm vcpu to value) (Refused GFault)
no_peer x vm vcpu to value sender resident lacks = refused x (Ipi vm vcpu to value) (Refused GFault) (λ h stands.
    by_stay x h vm vcpu to value stands sender ∙ cond-false _ _ _ (ap not resident)
    ∙ cond-true _ _ _ (ap not (missing_in x h (vcpu_of vm to) stands lacks)))

pub ipi_taken : (x y : CoreState) (vm vcpu to value : ℕ) → IsWhole x.world → is_vcpu_in x.world.vms (vcpu_of vm vcpu) ≡ true
    → runs_in (record_of x (vcpu_of vm vcpu)).stay ≡ true → is_vcpu_in x.world.vms (vcpu_of vm to) ≡ true
    → ReachesByRecord (stage_of x.world (vcpu_of vm to)).in_force x.world y.world (vcpu_of vm to) value → y.leases ≡ x.leases → y.vcpus ≡ x.vcpus
    → y.selects ≡ x.selects → y.passes ≡ x.passes → CoreTakes x y (Ipi vm vcpu to value) Okay
ipi_taken x y vm vcpu to value whole sender resident there relays leases vcpus selects passes =
    accepted x y (Ipi vm vcpu to value) Okay refl refl (λ h stands.
    let g = vcpu_of vm to in
    let event = Accepted (Ipi vm vcpu to value) in
    let reach = stage_in_force_of h g in
    let by_home : peers_reach (home h g) ≡ stage_in_force_of h g = sym (stage_in_force_by h g) in
    let inside = there_in x h g stands there in
    let in_force : (stage_of x.world g).in_force ≡ reach = (stands.vcpus g inside).holds.routes.stage_in_force ∙ by_home in
    let stored : IsStoredFor x y h event g reach 0 value = record {
      meant = record {
        stands = stands;
        whole = whole;
        quiet = quiet_line h (Ipi vm vcpu to value) refl;
        there = inside;
        leads = subst (MayLand (file_words h) (home h g)) by_home (peers_may (file_words h) (home h g));
        majors = λ other m. refl;
        deeds = λ other. refl;
        leases = leases;
        vcpus = vcpus;
        selects = selects;
        passes = passes;
      };
      notices = refl;
      host = λ f. refl;
      stores = relayed x.world y.world g value reach (λ p e. stands.held g p inside (peers_held h g p (by_home ∙ e)))
          (subst (λ (o : Option GuestPlace). ReachesByRecord o x.world y.world g value) in_force relays);
    } in (
      by_stay x h vm vcpu to value stands sender ∙ cond-false _ _ _ (ap not resident) ∙ ap (λ b. cond (not b) (Some (Refused GFault)) None) inside,
      refl,
      stored_for_guest x y h event g reach 0 value stored,
    ))
