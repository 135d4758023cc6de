-- What makes a core stand for a history: the line that makes its machine, and one event more.
use Rattle.std.proofs.Common.{subst, ◌≡◌, ℕ, zero, suc, ◌+◌, ◌-◌, ◌*◌, ◌/◌, ◌%◌, ◌^◌, ◌<◌, ◌≤◌, Bool, true, false, ◌&&◌, nat_eq, nat_lt, nat_le, get_or, List, length, map, replicate, is_some, [], ◌∷◌, Option, Some, None, refl, sym, ap, ◌∙◌, arith}
use Rattle.std.specs.Prelude.{min}
use Rattle.std.specs.Option.{option_map_or}
use Rattle.std.proofs.lemmas.Bool.{ltb-true}
use Rattle.std.proofs.lemmas.Nat.Bits.{bit_at-zero}
use Rattle.std.proofs.lemmas.List.{length-replicate}
use Rattle.aia_word.specs.Sets.{has_bit}
use Rattle.aia_vcpu.proofs.VmLemmas.{numbered}
use Rattle.aia_regs.specs.declared.limits.TheConstants.{HARTS, IDENTITIES, VCPUS, MEMORY_WORDS}
use Rattle.aia_file.specs.InterruptFile.{empty_file}
use Rattle.aia_file.specs.FileState.{FileState, shown}
use Rattle.aia_file.proofs.FileLemmas.{same_file}
use Rattle.aia_file.specs.Imsic.{ImsicState, IsThere, file_at}
use Rattle.aia_file.specs.Mrif.{Mrif, mrif_in, pending_place, enable_place}
use Rattle.aia_entry.specs.declared.entry.Entry.TheVariants.{NotValid}
use Rattle.aia_entry.specs.Tables.{TableState, table_of, entry_in_force}
use Rattle.aia_major.specs.VsMajor.{new_majors}
use Rattle.aia_vcpu.specs.declared.vm.Vm.{Vm}
use Rattle.aia_vcpu.specs.declared.place.GuestPlace.{GuestPlace}
use Rattle.aia_vcpu.specs.Vms.{Vcpu, vcpus_in, is_vcpu_in}
use Rattle.aia_vcpu.specs.Home.{holds}
use Rattle.aia_vcpu.specs.declared.rest.Rest.TheVariants.{Parked}
use Rattle.aia_vcpu.specs.Home.Home.{InMemory}
use Rattle.aia_pool.specs.Leases.{Leases, is_out}
use Rattle.aia_fabric_values.specs.declared.stage.Stage.{Stage}
use Rattle.aia_fabric_values.specs.World.{World, no_stage}
use Rattle.aia_fabric_values.specs.Changes.{spot_of}
use Rattle.aia_fabric_values.specs.declared.flying.Flying.{Flying}
use Rattle.aia_fabric_values.specs.World.{World, flight_of}
use Rattle.aia_fabric_values.specs.Stores.{counted}
use Rattle.aia_fabric_values.specs.Making.{IsNew}
use Rattle.aia_model.specs.declared.line.Line.TheVariants.{Machine}
use Rattle.aia_model.specs.Event.{Event, History, MachineSize, machine_of, harts_of, guests_of, greatest_identity_of}
use Rattle.aia_model.specs.Event.Event.{Accepted}
use Rattle.aia_model.specs.Vms.{vms_of, has_vm, has_vcpu}
use Rattle.aia_model.specs.FileAfter.{select_after, file_after}
use Rattle.aia_model.specs.FileAfter.FileDeed.{Rests}
use Rattle.aia_model.specs.MajorOf.{majors_of}
use Rattle.aia_model.specs.Flight.{flight}
use Rattle.aia_model.specs.ReachOf.{NoneAtFence}
use Rattle.aia_model.proofs.FlightLemmas.{SendsToOne, all_on, stays_there, flights_on, sent_on, none_flies, none_for_one}
use Rattle.aia_model.specs.HomeOf.{home, moved}
use Rattle.aia_model.specs.GuestFile.{guest_deed, guest_select, guest_file}
use Rattle.aia_model.specs.Notice.{noticed, with_notice, notices_sent}
use Rattle.aia_model.specs.FileOf.{FileName, deed_at, select_of}
use Rattle.aia_model.proofs.FileLemmas.{file_step, select_step, file_by_step}
use Rattle.aia_model.proofs.MoveLemmas.{home_step}
use Rattle.aia_hyp_values.specs.Core.{VcpuRecord}
use Rattle.aia_hyp_values.specs.Core.{Stay}
use Rattle.aia_hyp_values.specs.declared.vcpu.Stay.TheVariants as stays
use Rattle.aia_move_values.specs.PlanState.{moving_of}
use Rattle.aia_move_values.proofs.StepLemmas.{fits_still}
use Rattle.aia_hyp_values.specs.Core.{CoreState, record_of}
use Rattle.aia_hyp_values.specs.HostFiles.{FileDone, host_spot, select_place, select_in}
use Rattle.aia_hyp_values.specs.Stands.{HostStands, PlanStands, VcpuStands, HoldApart, is_held, flying_of, CoreStands}
use Rattle.aia_hyp_values.proofs.VcpuLemmas.{IsStill, same_n, select_is, MajorsRest, majors_is, majors_rest, is_plain, machine_kept}
use Rattle.aia_hyp_values.proofs.NameLemmas.{there_too}
use Rattle.std.specs.List.{AllByRecursion}
use Rattle.std.specs.Int.{is_in_range}
use Rattle.aia_model.specs.Passes.{PassedSource, passes_of}
use Rattle.aia_model.specs.Aim.{PassAtRest}
use Rattle.aia_model.proofs.PassLemmas.{aimed_on, none_passed}
use Rattle.aia_hyp_values.specs.Passes.{IsToOne, PassesKept}

-- ---- what an event makes of numbers, files of the host and notices

-- the count of notices, by whom an event notices
abbrev pub count_after : Option Vcpu → ℕ → ℕ
count_after None count = count
count_after (Some g) count = counted count

pub host_more : (x y : CoreState) (h : History) (event : Event) (f : FileName) → FileDone x y f (deed_at f h event) → HostStands x h f
    → HostStands y (event ∷ h) f
host_more x y h event f done stands = record {
  file = same_file _ _ done.file ∙ ap (λ s. file_after s (deed_at f h event) (shown (file_at x.world.imsic (host_spot f)))) stands.select
      ∙ ap (file_after (select_of h f) (deed_at f h event)) stands.file ∙ sym (file_step event h f);
  select = done.select ∙ ap (select_after (deed_at f h event)) stands.select ∙ sym (select_step event h f);
}

pub guest_too : (a b : ImsicState) (p : GuestPlace) → a.harts ≡ b.harts → a.guests ≡ b.guests → IsThere a (spot_of p) → IsThere b (spot_of p)
guest_too a b p harts guests inside = (omega (arith, inside.0, harts), inside.1, omega (arith, inside.2, guests))

pub counted_more : (who : Option Vcpu) (count : ℕ) → count_after who (min count (2 ^ 64 - 1)) ≡ min (with_notice who count) (2 ^ 64 - 1)
counted_more None count = refl
counted_more (Some g) count = omega arith

pub notices_step : (event : Event) (h : History) → notices_sent (event ∷ h) ≡ with_notice (noticed h event) (notices_sent h)
unfolding notices_sent
notices_step event h = refl

-- ---- one event more

-- Nothing changes of a world but what is not made with the machine: what the files hold, memory, the
-- VMs with their tables, stores in flight and records, and the count of notices.
abbrev pub IsBuiltAs : World → World → Type 0
IsBuiltAs w u = u ≡ record w {
  imsic = record w.imsic { files = u.imsic.files };
  memory = u.memory;
  vms = u.vms;
  tables = u.tables;
  flights =
      u.flights;
  stages = u.stages;
  notices = u.notices;
}

pub built_as : (w u : World) (files : List FileState) (memory : List ℕ) (vms : List Vm) (tables : List TableState) (flights : List (List Flying))
    (stages : List Stage) (notices : ℕ)
    → u ≡ record w {
      imsic = record w.imsic { files = files };
      memory = memory;
      vms = vms;
      tables = tables;
      flights = flights;
      stages = stages;
      notices = notices;
    } → IsBuiltAs w u
built_as w u files memory vms tables flights stages notices e = e
    ∙ ap (λ (x : World). record w {
      imsic = record w.imsic { files = x.imsic.files };
      memory = x.memory;
      vms = x.vms;
      tables = x.tables;
      flights =
          x.flights;
      stages = x.stages;
      notices = x.notices;
    }) (sym e)

-- What is made with the machine stays, in the history and in the core.
pub record Keeps (x y : CoreState) (h : History) (event : Event) : Type 0 where
  pub machine : machine_of (event ∷ h) ≡ machine_of h
  pub n : y.world.n ≡ x.world.n
  pub harts : y.world.imsic.harts ≡ x.world.imsic.harts
  pub guests : y.world.imsic.guests ≡ x.world.imsic.guests

pub keeps_by : (x y : CoreState) (h : History) (event : Event) → is_plain event ≡ true → IsBuiltAs x.world y.world → Keeps x y h event
keeps_by x y h event plain rest = record {
  machine = machine_kept event h plain;
  n = ap (λ (w : World). w.n) rest;
  harts = ap (λ (w : World). w.imsic.harts) rest;
  guests = ap (λ (w : World). w.imsic.guests) rest;
}

-- What an event makes of a core, other than the line that makes the machine: the one way by which a
-- core stands for one event more. Who isn't there then was not there before, and the event is
-- nothing to it; what is past the last slot then was so before, and stays.
pub record Becomes (x y : CoreState) (h : History) (event : Event) : Type 0 where
  pub keeps : Keeps x y h event
  pub vms : y.world.vms ≡ vms_of (event ∷ h)
  pub count : y.world.notices ≡ count_after (noticed h event) x.world.notices
  pub host : (f : FileName) → IsThere x.world.imsic (host_spot f) → FileDone x y f (deed_at f h event)
  pub records : length y.vcpus ≡ vcpus_in (vms_of (event ∷ h))
  pub vcpus : (g : Vcpu) → has_vcpu (event ∷ h) g ≡ true → VcpuStands y (event ∷ h) g
  pub lease_harts : y.leases.harts ≡ x.leases.harts
  pub lease_guests : y.leases.guests ≡ x.leases.guests
  pub lease_count : length y.leases.out ≡ length x.leases.out
  pub leases : (p : GuestPlace) → IsThere x.world.imsic (spot_of p) → is_out y.leases p ≡ is_held (event ∷ h) p
  pub held : (g : Vcpu) (p : GuestPlace) → has_vcpu (event ∷ h) g ≡ true → holds p (home (event ∷ h) g) ≡ true → IsThere x.world.imsic (spot_of p)
  pub apart : HoldApart (event ∷ h)
  pub free : (p : GuestPlace) → IsThere x.world.imsic (spot_of p) → is_held (event ∷ h) p ≡ false
      → shown (file_at y.world.imsic (spot_of p)) ≡ empty_file (greatest_identity_of h)
  pub no_vcpu : (g : Vcpu) → has_vcpu (event ∷ h) g ≡ false → (has_vcpu h g ≡ false) × (guest_deed g h event ≡ Rests)
      × (home (event ∷ h) g ≡ home h g) × MajorsRest g event
  pub no_entry : (g : Vcpu) → has_vm (event ∷ h) g.vm ≡ true → has_vcpu (event ∷ h) g ≡ false
      → entry_in_force (table_of y.world.tables g.vm) g.vcpu ≡ NotValid
  pub no_slot : (q : ℕ) → vcpus_in (vms_of (event ∷ h)) ≤ q → q < VCPUS → (vcpus_in (vms_of h) ≤ q)
      × (mrif_in y.world.memory q ≡ mrif_in x.world.memory q) × (get_or y.world.stages q no_stage ≡ get_or x.world.stages q no_stage)

-- Other stores in flight are nothing to all that.
pub with_flights : (x y : CoreState) (h : History) (event : Event) (flights : List (List Flying)) → Becomes x y h event
    → Becomes x (record y { world = record y.world { flights = flights } }) h event
with_flights x y h event flights b = record {
  keeps = record { machine = b.keeps.machine; n = b.keeps.n; harts = b.keeps.harts; guests = b.keeps.guests };
  vms = b.vms;
  count = b.count;
  host = λ f inside. let d = b.host f inside in record { file = d.file; select = d.select };
  records = b.records;
  vcpus = λ g inside. let v = b.vcpus g inside in
      record {
        same_home = v.same_home;
        select = v.select;
        majors = v.majors;
        two_files = v.two_files;
        plan =
            plan_with y.world flights g (record_of y g).stay v.plan;
        passes = v.passes;
        holds = v.holds;
      };
  lease_harts = b.lease_harts;
  lease_guests = b.lease_guests;
  lease_count = b.lease_count;
  leases = b.leases;
  held = b.held;
  apart = b.apart;
  free = b.free;
  no_vcpu = b.no_vcpu;
  no_entry = b.no_entry;
  no_slot = b.no_slot;
}
  where
    plan_with : (w : World) (flights : List (List Flying)) (g : Vcpu) (stay : Stay) → PlanStands w g stay
        → PlanStands (record w { flights = flights }) g stay
    plan_with w flights g (stays.InMemory rest kept) p = tt
    plan_with w flights g (stays.Resident lease) p = tt
    plan_with w flights g (stays.Moving plan) p = (
      fits_still w (record w { flights = flights }) (moving_of plan)
          (record { n = refl; vms = refl; harts = refl; guests = refl }) p.0,
      p.1,
      p.2,
      p.3,
    )

-- What it makes of the stores in flight.
pub record FlightsBecome (y : CoreState) (h : History) (event : Event) : Type 0 where
  pub first : NoneAtFence h event
  pub one : SendsToOne h event
  pub flights : (v : ℕ) → flight_of y.world v ≡ map (flying_of v) (flight (event ∷ h) v)

pub flights_stay : (x y : CoreState) (h : History) (event : Event) → IsStill h event → y.world.flights ≡ x.world.flights → CoreStands x h
    → FlightsBecome y h event
flights_stay x y h event still same stands = record {
  first = still.first;
  one = still.one;
  flights = λ v. ap (λ flights. get_or flights v []) same ∙ stands.flights v ∙ ap (map (flying_of v)) (sym (still.flights v));
}

-- What it makes of the passes.
pub record PassesBecome (y : CoreState) (h : History) (event : Event) : Type 0 where
  pub same : y.passes ≡ passes_of (event ∷ h)
  pub to_one : AllByRecursion (IsToOne h) (passes_of (event ∷ h))
  pub rest : PassAtRest h event

pub none_passes : (x y : CoreState) (h : History) (event : Event) → passes_of (event ∷ h) ≡ passes_of h → PassAtRest h event → y.passes ≡ x.passes
    → CoreStands x h → PassesBecome y h event
none_passes x y h event none rest same stands = record {
  same = same ∙ stands.passes.same ∙ sym none;
  to_one = subst (AllByRecursion (IsToOne h)) (sym none) stands.passes.to_one;
  rest = rest;
}

to_one_still : (h : History) (event : Event) → greatest_identity_of h ≡ greatest_identity_of (event ∷ h) → (pass : PassedSource) → IsToOne h pass
    → IsToOne (event ∷ h) pass
to_one_still h event n pass one = ((stays_there event h pass.to one.0).0, subst (λ most. is_in_range 1 most pass.identity ≡ true) n one.1)

pub stands_after : (x y : CoreState) (h : History) (event : Event) → Becomes x y h event → FlightsBecome y h event → PassesBecome y h event
    → CoreStands x h → CoreStands y (event ∷ h)
stands_after x y h event b flights passes stands =
    let n : greatest_identity_of h ≡ greatest_identity_of (event ∷ h) = sym (same_n _ _ b.keeps.machine) in
    let harts : harts_of h ≡ harts_of (event ∷ h) =
    sym (ap (λ (o : Option MachineSize). option_map_or (λ (m : MachineSize). m.harts) o 0) b.keeps.machine) in
    let guests : guests_of h ≡ guests_of (event ∷ h) =
    sym (ap (λ (o : Option MachineSize). option_map_or (λ (m : MachineSize). m.guests) o 0) b.keeps.machine) in
    let same_harts = b.keeps.harts in
    let same_guests = b.keeps.guests in
    let before : (p : GuestPlace) → IsThere y.world.imsic (spot_of p)
    → IsThere x.world.imsic (spot_of p) = λ p inside. guest_too y.world.imsic x.world.imsic p same_harts same_guests inside in
    record {
      there = ap (λ (o : Option MachineSize). is_some o) b.keeps.machine ∙ stands.there;
      harts = same_harts ∙ stands.harts ∙ harts;
      guests = same_guests ∙ stands.guests ∙ guests;
      greatest = b.keeps.n ∙ stands.greatest ∙ n;
      vms = b.vms;
      notices = b.count ∙ ap (count_after (noticed h event)) stands.notices ∙ counted_more (noticed h event) (notices_sent h)
          ∙ ap (λ count. min count (2 ^ 64 - 1)) (sym (notices_step event h));
      host = λ f inside. let was = there_too y.world.imsic x.world.imsic f same_harts inside in
          host_more x y h event f (b.host f was) (stands.host f was);
      flights = flights.flights;
      may_fly = flights_on h event flights.first stands.may_fly;
      for_one = sent_on h event flights.one stands.for_one;
      passes = record {
        same = passes.same;
        to_one = all_on (IsToOne h) (IsToOne (event ∷ h)) (to_one_still h event n) (passes_of (event ∷ h)) passes.to_one;
        aimed = aimed_on h event passes.rest stands.passes.aimed;
      };
      records = b.records;
      vcpus = b.vcpus;
      lease_harts = b.lease_harts ∙ stands.lease_harts ∙ harts;
      lease_guests = b.lease_guests ∙ stands.lease_guests ∙ guests;
      lease_count = b.lease_count ∙ stands.lease_count ∙ (λ k. harts k * guests k);
      leases = λ p inside. b.leases p (before p inside);
      held = λ g p inside holding. guest_too x.world.imsic y.world.imsic p (sym same_harts) (sym same_guests) (b.held g p inside holding);
      apart = b.apart;
      free = λ p inside none. b.free p (before p inside) none ∙ ap empty_file n;
      no_vcpu = λ g outside.
          let rests = b.no_vcpu g outside in
          let was = stands.no_vcpu g rests.0 in (
            file_by_step (guest_deed g) event h ∙ ap (λ deed. file_after (guest_select h g) deed (guest_file h g)) rests.1 ∙ was.0 ∙ ap empty_file n,
            select_is event h g ∙ ap (λ deed. select_after deed (guest_select h g)) rests.1 ∙ was.1,
            rests.2 ∙ was.2,
            majors_rest h event g rests.3 ∙ was.3,
          );
      no_entry = b.no_entry;
      no_slot = λ q past few.
          let same = b.no_slot q past few in
          let empty = stands.no_slot q same.0 few in
          (λ i. ap (λ (m : Mrif). m.pending i) same.1 ∙ empty.0 i, λ i. ap (λ (m : Mrif). m.enabled i) same.1 ∙ empty.1 i, same.2 ∙ empty.2);
    }

-- ---- where it begins

zero_at : (n p : ℕ) → get_or (replicate n zero) p zero ≡ zero
zero_at zero p = refl
zero_at (suc n) zero = refl
zero_at (suc n) (suc p) = zero_at n p

no_selects : (x : CoreState) (f : FileName) → x.selects ≡ replicate (2 * HARTS) 0 → select_in x f ≡ 0
no_selects x f zeros = ap (λ xs. get_or xs (select_place f) 0) zeros ∙ zero_at (2 * HARTS) (select_place f)

no_bit : (b : Bool) (n p k : ℕ) → (b && has_bit (get_or (replicate n 0) p 0) k) ≡ false
no_bit false n p k = refl
no_bit true n p k = ap (λ word. has_bit word k) (zero_at n p) ∙ ap (λ bit. nat_eq bit 1) (bit_at-zero k)

none_sent : notices_sent [] ≡ 0
unfolding notices_sent
none_sent = refl

nobody : (g : Vcpu) → is_vcpu_in [] g ≡ true → ⊥
nobody g there = let low = numbered [] g.vm g.vcpu there in omega (arith, low)

none_below_0 : (n : ℕ) → nat_lt n 0 ≡ true → ⊥
none_below_0 n low = let bad = ltb-true n 0 low in omega (arith, bad)

no_held : (p : GuestPlace) → is_held [] p ≡ false
no_held p = refl

no_out : (n p : ℕ) → get_or (replicate n false) p false ≡ false
no_out zero p = refl
no_out (suc n) zero = refl
no_out (suc n) (suc p) = no_out n p

no_stage_at : (n p : ℕ) → get_or (replicate n no_stage) p no_stage ≡ no_stage
no_stage_at zero p = refl
no_stage_at (suc n) zero = refl
no_stage_at (suc n) (suc p) = no_stage_at n p

parked_at_first : (event : Event) (g : Vcpu) → moved [] (home []) event g ≡ InMemory Parked → home (event ∷ []) g ≡ InMemory Parked
parked_at_first event g e = home_step event [] g ∙ e

none_flying : (harts guests n sources v : ℕ) → flight (Accepted (Machine harts guests n sources) ∷ []) v ≡ []
unfolding flight
none_flying harts guests n sources v = refl

home_nowhere : (g : Vcpu) → home [] g ≡ InMemory Parked
unfolding home
home_nowhere g = refl

no_majors_yet : (g : Vcpu) → majors_of [] g ≡ new_majors
unfolding majors_of
no_majors_yet g = refl

none_kept : (x : CoreState) (harts guests n sources : ℕ) → x.passes ≡ [] → PassesKept x (Accepted (Machine harts guests n sources) ∷ [])
unfolding passes_of
none_kept x harts guests n sources e = record {
  same = e;
  to_one = tt;
  aimed =
      aimed_on [] (Accepted (Machine harts guests n sources)) tt none_passed;
}

pub begun : (x : CoreState) (harts guests n sources : ℕ) → IsNew x.world harts guests n
    → x.leases ≡ record { harts = harts; guests = guests; out = replicate (harts * guests) false } → x.vcpus ≡ []
    → x.selects ≡ replicate (2 * HARTS) 0 → x.passes ≡ [] → CoreStands x (Accepted (Machine harts guests n sources) ∷ [])
begun x harts guests n sources new leases vcpus selects passes =
    let event = Accepted (Machine harts guests n sources) in
    let memory : x.world.memory ≡ replicate MEMORY_WORDS 0 = ap (λ (w : World). w.memory) new.world in
    record {
      there = refl;
      harts = new.hart_count;
      guests = new.guest_count;
      greatest = ap (λ (w : World). w.n) new.world;
      vms = ap (λ (w : World). w.vms) new.world;
      notices = ap (λ (w : World). w.notices) new.world ∙ sym (ap (λ count. min count (2 ^ 64 - 1)) (notices_step event [] ∙ none_sent));
      host = λ f inside. record {
        file = same_file _ _ (new.files.each (host_spot f) inside)
            ∙ sym (file_step event [] f);
        select = no_selects x f selects ∙ sym (select_step event [] f);
      };
      flights = λ v. ap (λ (w : World). flight_of w v) new.world ∙ ap (map (flying_of v)) (sym (none_flying harts guests n sources v));
      may_fly = flights_on [] event tt none_flies;
      for_one = sent_on [] event tt none_for_one;
      passes = none_kept x harts guests n sources passes;
      records = ap (λ (rs : List VcpuRecord). length rs) vcpus;
      vcpus = λ g inside. absurd (nobody g inside);
      lease_harts = ap (λ (l : Leases). l.harts) leases;
      lease_guests = ap (λ (l : Leases). l.guests) leases;
      lease_count = ap (λ (l : Leases). length l.out) leases ∙ length-replicate (harts * guests) false;
      leases = λ p inside. ap (λ l. is_out l p) leases ∙ no_out (harts * guests) (p.hart * guests + p.file - 1);
      held = λ g p inside holding. absurd (nobody g inside);
      apart = λ a b p ia ib ha hb. absurd (nobody a ia);
      free = λ p inside none. same_file _ _ (new.files.each (spot_of p) inside);
      no_vcpu = λ g outside. (
        file_by_step (guest_deed g) event [],
        select_is event [] g,
        home_step event [] g
            ∙ home_nowhere g,
        majors_is event [] g ∙ no_majors_yet g,
      );
      no_entry = λ g inside outside. absurd (none_below_0 g.vm inside);
      no_slot = λ q past few. (
        λ i. rw (memory) (no_bit (nat_le i IDENTITIES) MEMORY_WORDS (pending_place q (i / 64)) (i % 64)),
        λ i. rw (memory) (no_bit (nat_le i IDENTITIES) MEMORY_WORDS (enable_place q (i / 64)) (i % 64)),
        ap (λ (w : World). get_or w.stages q no_stage) new.world ∙ no_stage_at VCPUS q,
      );
    }
