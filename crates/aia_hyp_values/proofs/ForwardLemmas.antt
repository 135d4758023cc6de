-- The MSIs of passed sources: where they go, and that one is a store at the file to which its pass
-- leads.
use Rattle.std.proofs.Common.{◌≡◌, ℕ, zero, suc, ◌%◌, ◌<◌, ◌≤◌, true, false, cond, List, [], ◌∷◌, length, slice_index_or, Option, Some, None, refl, sym, ap, subst, ◌∙◌, arith}
use Rattle.std.specs.List.{AllByRecursion}
use Rattle.std.specs.Prelude.{is_none}
use Rattle.std.proofs.lemmas.Bool.{cond-true, cond-false, lt-ltb}
use Rattle.aia_regs.specs.declared.limits.TheConstants.{HARTS, GUEST_FILES}
use Rattle.aia_regs.specs.declared.address_map.TheConstants.{PAGE}
use Rattle.aia_regs.specs.AddressMap.{supervisor_page, guest_page}
use Rattle.aia_file.specs.declared.spot.Spot.{Spot}
use Rattle.aia_file.specs.declared.spot.Spot.TheVariants as spots
use Rattle.aia_file.specs.Imsic.{ImsicState, IsThere}
use Rattle.aia_file.specs.Map.{spot_at, is_guest_page}
use Rattle.aia_file.proofs.MapLemmas.{in_page, spot_of_host, spot_of_guest}
use Rattle.aia_vcpu.specs.declared.place.GuestPlace.{GuestPlace}
use Rattle.aia_vcpu.specs.declared.vm.Vm.{Vm}
use Rattle.aia_vcpu.specs.Vms.{Vcpu, is_vcpu_in, notice_hart}
use Rattle.aia_vcpu.specs.Routes.{MayLand}
use Rattle.aia_vcpu.proofs.HomeLemmas.{landing_is_held}
use Rattle.aia_fabric_values.specs.Whole.{IsWhole}
use Rattle.aia_fabric_values.specs.Changes.{spot_of}
use Rattle.aia_fabric_values.specs.Stores.{StoresIn}
use Rattle.aia_fabric_values.proofs.WholeLemmas.{notice_hart_there}
use Rattle.aia_model.specs.declared.msi.Msi.{Msi}
use Rattle.aia_model.specs.Event.{Event, History, file_words}
use Rattle.aia_model.specs.Event.Event.{Delivered, Relayed}
use Rattle.aia_model.specs.Passes.{PassedSource, no_pass, passes_of, nth_pass, passed_by}
use Rattle.aia_model.specs.Aim.{pass_reach, pass_notice_hart, page_to, value_to, IsForward, IsForwardIf}
use Rattle.aia_model.specs.HomeOf.{home}
use Rattle.aia_model.specs.FileAfter.FileDeed.{Rests}
use Rattle.aia_model.specs.GuestFile.{goes_to_guest, passed_deed}
use Rattle.aia_model.proofs.PassLemmas.{pass_may_land}
use Rattle.aia_model.proofs.SentLemmas.{number_found}
use Rattle.aia_hyp_values.specs.Core.{CoreState}
use Rattle.aia_hyp_values.specs.HostFiles.{host_spot, is_host_spot}
use Rattle.aia_hyp_values.specs.Passes.{number_of_pass, IsToOne}
use Rattle.aia_hyp_values.specs.Stands.{CoreStands, StandsForSome, CoreGoes, CoreHears, MayGo}
use Rattle.aia_model.specs.Histories.{IsHistory}
use Rattle.aia_model.specs.Answer.{msi_taken, given_on}
use Rattle.aia_hyp_values.proofs.NameLemmas.{no_guest, is_hosts}
use Rattle.aia_hyp_values.proofs.PageLemmas.{elsewhere}
use Rattle.aia_hyp_values.proofs.VcpuLemmas.{quiet_msi, still_msi}
use Rattle.aia_hyp_values.proofs.EventLemmas.{Changes, one_more}
use Rattle.aia_hyp_values.proofs.StoreLemmas.{pass_is, stored_changes, page_stands}
use Rattle.aia_hyp_values.proofs.GuestStores.{file_changes}

-- ---- the pass of an MSI

pub each_at : {A : Type 0} (P : A → Type 0) (xs : List A) (k : ℕ) (none : A) → k < length xs → AllByRecursion P xs → P (slice_index_or xs k none)
each_at P [] k none low all = absurd (omega (arith, low))
each_at P (x ∷ xs) zero none low all = all.0
each_at P (x ∷ xs) (suc k) none low all = each_at P xs k none (omega (arith, low)) all.1

-- it is to a virtual hart that is there, as an identity of its file
pub pass_to_one : (x : CoreState) (h : History) (p : ℕ) → CoreStands x h → p < length (passes_of h) → IsToOne h (nth_pass h p)
pass_to_one x h p stands low = each_at (IsToOne h) (passes_of h) p no_pass low stands.passes.to_one

pub pass_may : (x : CoreState) (h : History) (p : ℕ) → CoreStands x h → p < length (passes_of h)
    → MayLand (file_words h) (home h (nth_pass h p).to) (pass_reach h p)
pass_may x h p stands low = pass_may_land h p stands.passes.aimed (lt-ltb p (length (passes_of h)) low)

pub pass_hart_there : (x : CoreState) (h : History) (p : ℕ) → CoreStands x h → IsWhole x.world → p < length (passes_of h)
    → pass_notice_hart h p < x.world.imsic.harts
pass_hart_there x h p stands whole low =
    let g = (nth_pass h p).to in
    subst (λ hart. hart < x.world.imsic.harts) (ap (λ vms. notice_hart vms g) stands.vms)
    (notice_hart_there x.world g whole (subst (λ (vs : List Vm). is_vcpu_in vs g ≡ true) (sym stands.vms) (pass_to_one x h p stands low).0))

-- ---- the file to which it leads

abbrev pub spot_to : ℕ → Option GuestPlace → Spot
spot_to hart None = spots.SupervisorFile hart
spot_to hart (Some q) = spot_of q

at_page : (i : ImsicState) (hart : ℕ) (reach : Option GuestPlace) (addr : ℕ) → i.harts ≤ HARTS → i.guests ≤ GUEST_FILES
    → addr ≡ page_to hart reach → IsThere i (spot_to hart reach) → spot_at i.harts i.guests addr ≡ spot_to hart reach
at_page i hart None addr few fewer is there = spot_of_host i.harts i.guests addr hart few there
    (in_page (supervisor_page hart) addr (omega (arith, is)) (omega (arith, is)))
at_page i hart (Some q) addr few fewer is there =
    spot_of_guest i.harts i.guests addr q.hart q.file few fewer there.0 there.1 there.2
    (in_page (guest_page q.hart q.file) addr (omega (arith, is)) (omega (arith, is)))

at_start : (hart : ℕ) (reach : Option GuestPlace) (addr : ℕ) → addr ≡ page_to hart reach → addr % PAGE ≡ 0
at_start hart None addr is = omega (arith, is)
at_start hart (Some q) addr is = omega (arith, is)

spot_there : (x : CoreState) (h : History) (p : ℕ) → CoreStands x h → IsWhole x.world → p < length (passes_of h) → (reach : Option GuestPlace)
    → pass_reach h p ≡ reach → IsThere x.world.imsic (spot_to (pass_notice_hart h p) reach)
spot_there x h p stands whole low None is = pass_hart_there x h p stands whole low
spot_there x h p stands whole low (Some q) is =
    let g = (nth_pass h p).to in
    stands.held g q (pass_to_one x h p stands low).0 (landing_is_held (file_words h) (home h g) (pass_reach h p) q (pass_may x h p stands low) is)

-- an MSI of a pass, as a history has it that the core stands for
pub record IsOfPass (x : CoreState) (h : History) (p : ℕ) (msi : Msi) (spot : Spot) : Type 0 where
  pub stands : CoreStands x h
  pub whole : IsWhole x.world
  pub is : passed_by h msi.source ≡ Some p
  pub leads : IsForward h p msi
  pub at : spot ≡ spot_at x.world.imsic.harts x.world.imsic.guests msi.address

pub of_pass : (x : CoreState) (h : History) (p : ℕ) (msi : Msi) (spot : Spot) → CoreStands x h → IsWhole x.world
    → spot ≡ spot_at x.world.imsic.harts x.world.imsic.guests msi.address → number_of_pass x.passes msi.source ≡ Some p
    → IsForwardIf h msi (passed_by h msi.source) → IsOfPass x h p msi spot
of_pass x h p msi spot stands whole at pass may =
    let is : passed_by h msi.source ≡ Some p = sym (pass_is x h msi.source stands) ∙ pass in
    record { stands = stands; whole = whole; is = is; leads = subst (IsForwardIf h msi) is may; at = at }

module _ (x : CoreState) (h : History) (p : ℕ) (msi : Msi) (spot : Spot) (c : IsOfPass x h p msi spot) where
  low : p < length (passes_of h)
  low = number_found h msi.source p c.is

  there_to : (reach : Option GuestPlace) → pass_reach h p ≡ reach → IsThere x.world.imsic (spot_to (pass_notice_hart h p) reach)
  there_to reach is = spot_there x h p c.stands c.whole low reach is

  pub forward_spot : (reach : Option GuestPlace) → pass_reach h p ≡ reach → spot ≡ spot_to (pass_notice_hart h p) reach
  forward_spot reach is =
      c.at ∙ at_page x.world.imsic (pass_notice_hart h p) reach msi.address c.whole.harts c.whole.guests
      (c.leads.page ∙ ap (page_to (pass_notice_hart h p)) is) (there_to reach is)

  pub forward_there : IsThere x.world.imsic spot
  forward_there = subst (IsThere x.world.imsic) (sym (forward_spot (pass_reach h p) refl)) (there_to (pass_reach h p) refl)

  -- it goes to a guest's page exactly where the pass leads to a guest file
  pub forward_page : (reach : Option GuestPlace) → pass_reach h p ≡ reach → goes_to_guest h msi ≡ is_guest_page (spot_to (pass_notice_hart h p) reach)
  forward_page reach is = ap is_guest_page (sym (page_stands x h msi.address c.stands) ∙ sym c.at ∙ forward_spot reach is)

-- ---- one lands

-- what the call of the files says of it
pub record IsForwarded (x y : CoreState) (msi : Msi) (spot : Spot) : Type 0 where
  pub stores : StoresIn x.world y.world spot (msi.address % PAGE) msi.value
  pub leases : y.leases ≡ x.leases
  pub vcpus : y.vcpus ≡ x.vcpus
  pub selects : y.selects ≡ x.selects
  pub passes : y.passes ≡ x.passes

module _ (x y : CoreState) (h : History) (p : ℕ) (msi : Msi) (spot : Spot) (c : IsOfPass x h p msi spot) (d : IsForwarded x y msi spot) where
  abbrev to : Vcpu
  to = (nth_pass h p).to

  -- in a guest file it is a store for the virtual hart of the pass
  in_guest_file : (q : GuestPlace) → pass_reach h p ≡ Some q → Changes x y h (Delivered msi)
  in_guest_file q is =
      let low = number_found h msi.source p c.is in
      let named : spot ≡ spot_of q = forward_spot x h p msi spot c (Some q) is in
      let page : goes_to_guest h msi ≡ true = forward_page x h p msi spot c (Some q) is in
      let start : msi.address % PAGE ≡ 0 = at_start (pass_notice_hart h p) (pass_reach h p) msi.address c.leads.page in
      let value : msi.value ≡ (nth_pass h p).identity = c.leads.value ∙ ap (value_to p (nth_pass h p).identity) is in
      file_changes x y h (Delivered msi) to q 0 (nth_pass h p).identity (record {
        stands = c.stands;
        whole = c.whole;
        quiet = quiet_msi h msi;
        there = (pass_to_one x h p c.stands low).0;
        leads = subst (MayLand (file_words h) (home h to)) is (pass_may x h p c.stands low);
        majors = λ other m. refl;
        deeds = λ other. ap (λ b. cond b (passed_deed other h (passed_by h msi.source)) Rests) page ∙ ap (passed_deed other h) c.is;
        leases = d.leases;
        vcpus = d.vcpus;
        selects = d.selects;
        passes = d.passes;
      }) refl
      (λ f inside. cond-false _ _ _ (elsewhere x.world.imsic msi.address spot f c.whole.harts c.at inside
      (λ e. no_guest (host_spot f) (is_hosts f) q.hart q.file (sym (e ∙ named)))))
      (subst (λ (s : Spot). StoresIn x.world y.world s 0 (nth_pass h p).identity) named
      (subst (λ offset. StoresIn x.world y.world spot offset (nth_pass h p).identity) start
      (subst (λ v. StoresIn x.world y.world spot (msi.address % PAGE) v) value d.stores)))

  -- at the notice hart it is a store at a file of the host
  at_notice_hart : pass_reach h p ≡ None → Changes x y h (Delivered msi)
  at_notice_hart is =
      let named : spot ≡ spots.SupervisorFile (pass_notice_hart h p) = forward_spot x h p msi spot c None is in
      let page : goes_to_guest h msi ≡ false = forward_page x h p msi spot c None is in
      stored_changes x y msi.address msi.value spot h (Delivered msi) (λ f. refl)
      (record { quiet = quiet_msi h msi; none = refl; guests = λ g. cond-false _ _ _ page; majors = λ g m. refl })
      c.stands (record {
        few = c.whole.harts;
        at = c.at;
        host = ap is_host_spot named;
        there = forward_there x h p msi spot c;
        lands = d.stores.lands.lands;
        others = d.stores.rest ∙ ap (λ (i : ImsicState). record x.world { imsic = i }) d.stores.lands.others;
        leases = d.leases;
        vcpus = d.vcpus;
        selects = d.selects;
        passes = d.passes;
      })

  by_reach : (reach : Option GuestPlace) → pass_reach h p ≡ reach → Changes x y h (Delivered msi)
  by_reach None is = at_notice_hart is
  by_reach (Some q) is = in_guest_file q is

  pub forward_stands : CoreStands y (Delivered msi ∷ h)
  forward_stands = one_more x y h (Delivered msi) (by_reach (pass_reach h p) refl) (still_msi h msi) c.stands

-- ---- what calls say of it

pub record IsForwarding (x : CoreState) (number : ℕ) (msi : Msi) (spot : Spot) : Type 0 where
  pub whole : IsWhole x.world
  pub at : spot ≡ spot_at x.world.imsic.harts x.world.imsic.guests msi.address
  pub pass : number_of_pass x.passes msi.source ≡ Some number

pub forwarding : (x z : CoreState) (number : ℕ) (msi : Msi) (spot : Spot) → x ≡ z → IsWhole x.world
    → spot ≡ spot_at z.world.imsic.harts z.world.imsic.guests msi.address → number_of_pass z.passes msi.source ≡ Some number
    → IsForwarding x number msi spot
forwarding x z number msi spot same whole at pass = record {
  whole = whole;
  at = at ∙ ap (λ (z : CoreState). spot_at z.world.imsic.harts z.world.imsic.guests msi.address) (sym same);
  pass = ap (λ (z : CoreState). number_of_pass z.passes msi.source) same ∙ pass;
}

pub goes_there : (x : CoreState) (number : ℕ) (msi : Msi) (spot : Spot) → IsForwarding x number msi spot → MayGo x (Delivered msi)
    → IsThere x.world.imsic spot
goes_there x number msi spot c m = forward_there x m.past number msi spot (of_pass x m.past number msi spot m.stands c.whole c.at c.pass m.may.1)

pub forward_goes : (x y : CoreState) (number : ℕ) (msi : Msi) (spot : Spot) → IsForwarding x number msi spot → IsForwarded x y msi spot
    → CoreGoes x y (Delivered msi)
forward_goes x y number msi spot c d = λ h stands may. forward_stands x y h number msi spot
    (of_pass x h number msi spot stands c.whole c.at c.pass may.1) d

-- ---- so it stands for some history still

pub goes_on : (x y : CoreState) (event : Event) → MayGo x event → CoreGoes x y event → StandsForSome y
goes_on x y event m goes = record { past = event ∷ m.past; happens = (m.may, m.happens); stands = goes m.past m.stands m.may }

-- of no passed source
pub hears_on : (x y : CoreState) (msi : Msi) → number_of_pass x.passes msi.source ≡ None → MayGo x (Delivered msi) → CoreHears x y msi
    → StandsForSome y
hears_on x y msi none m hears =
    let unpassed : passed_by m.past msi.source ≡ None = sym (pass_is x m.past msi.source m.stands) ∙ none in
    record {
      past = msi_taken msi m.past;
      happens = subst (λ (o : Option ℕ). IsHistory (given_on o (Delivered msi ∷ m.past))) (sym unpassed) (m.may, m.happens);
      stands = hears m.past m.stands m.may;
    }

-- ---- and is given on where the pass leads to its notice hart

reach_heard : (h : History) (msi : Msi) (p : ℕ) → pass_reach (Delivered msi ∷ h) p ≡ pass_reach h p
unfolding home passes_of
reach_heard h msi p = refl

none_heard : (h : History) (msi : Msi) → passes_of (Delivered msi ∷ h) ≡ passes_of h
unfolding passes_of
none_heard h msi = refl

at_host_or_guest : (hart : ℕ) (reach : Option GuestPlace) → is_host_spot (spot_to hart reach) ≡ is_none reach
at_host_or_guest hart None = refl
at_host_or_guest hart (Some q) = refl

is_none_then : {A : Type 0} (o : Option A) → is_none o ≡ true → o ≡ None
is_none_then None e = refl
is_none_then (Some x) e = absurd (cc)

reach_told : (x : CoreState) (h : History) (p : ℕ) (msi : Msi) (spot : Spot) → IsOfPass x h p msi spot
    → is_none (pass_reach (Delivered msi ∷ h) p) ≡ is_host_spot spot
reach_told x h p msi spot c =
    ap (λ (o : Option GuestPlace). is_none o) (reach_heard h msi p)
    ∙ sym (ap is_host_spot (forward_spot x h p msi spot c (pass_reach h p) refl) ∙ at_host_or_guest (pass_notice_hart h p) (pass_reach h p))

pub then_relays : (x y : CoreState) (number : ℕ) (msi : Msi) (spot : Spot) → IsForwarding x number msi spot → is_host_spot spot ≡ true
    → MayGo x (Delivered msi) → CoreGoes x y (Delivered msi) → MayGo y (Relayed number)
then_relays x y number msi spot c host m goes =
    let h = m.past in
    let of = of_pass x h number msi spot m.stands c.whole c.at c.pass m.may.1 in
    record {
      past = Delivered msi ∷ h;
      happens = (m.may, m.happens);
      stands = goes h m.stands m.may;
      may = (
        subst (λ (ps : List PassedSource). number < length ps) (sym (none_heard h msi)) (number_found h msi.source number of.is),
        is_none_then (pass_reach (Delivered msi ∷ h) number) (reach_told x h number msi spot of ∙ host),
      );
    }

pub relayed_too : (x y z : CoreState) (number : ℕ) (msi : Msi) (spot : Spot) → IsForwarding x number msi spot → is_host_spot spot ≡ true
    → CoreGoes x y (Delivered msi) → CoreGoes y z (Relayed number) → CoreHears x z msi
relayed_too x y z number msi spot c host lands relays = λ h stands may.
    let of = of_pass x h number msi spot stands c.whole c.at c.pass may.1 in
    let memory = reach_told x h number msi spot of ∙ host in
    let low = subst (λ (ps : List PassedSource). number < length ps) (sym (none_heard h msi)) (number_found h msi.source number of.is) in
    subst (λ (o : Option ℕ). CoreStands z (given_on o (Delivered msi ∷ h))) (sym of.is)
    (subst (CoreStands z) (sym (cond-true _ _ _ memory))
    (relays (Delivered msi ∷ h) (lands h stands may) (low, is_none_then (pass_reach (Delivered msi ∷ h) number) memory)))

pub landed_alone : (x y : CoreState) (number : ℕ) (msi : Msi) (spot : Spot) → IsForwarding x number msi spot → is_host_spot spot ≡ false
    → CoreGoes x y (Delivered msi) → CoreHears x y msi
landed_alone x y number msi spot c guest lands = λ h stands may.
    let of = of_pass x h number msi spot stands c.whole c.at c.pass may.1 in
    subst (λ (o : Option ℕ). CoreStands y (given_on o (Delivered msi ∷ h))) (sym of.is)
    (subst (CoreStands y) (sym (cond-false _ _ _ (reach_told x h number msi spot of ∙ guest))) (lands h stands may))
