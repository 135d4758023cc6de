-- What a store of a device of a VM leaves, and what it is answered.
use Rattle.std.proofs.Common.{◌≡◌, ◌≢◌, ℕ, ◌+◌, ◌/◌, ◌%◌, ◌<◌, ◌≤◌, true, false, not, cond, nat_eq, List, length, Option, Some, None, inl, inr, unwrap_or, refl, sym, ap, subst, ◌∙◌}
use Rattle.std.proofs.lemmas.Bool.{cases_Bool, cond-true, cond-false, eq-eqb, ne_eqb, lt-ltb, le-ltb}
use Rattle.std.proofs.lemmas.Option.{none-some}
use Rattle.aia_regs.specs.AddressMap.{supervisor_page, slot_address}
use Rattle.aia_file.specs.declared.spot.Spot.{Spot}
use Rattle.aia_file.specs.Imsic.{IsThere}
use Rattle.aia_entry.specs.declared.entry.Entry.TheVariants as entries
use Rattle.aia_entry.specs.declared.table.Route.{Route}
use Rattle.aia_entry.specs.declared.table.Route.TheVariants.{Other, Fault}
use Rattle.aia_entry.specs.Translation.{is_msi_address, file_number}
use Rattle.aia_entry.specs.Tables.{table_of, entry_in_force, leads_by, route_of}
use Rattle.aia_vcpu.specs.declared.place.GuestPlace.{GuestPlace}
use Rattle.aia_vcpu.specs.declared.vm.Vm.{Vm}
use Rattle.aia_vcpu.specs.Vms.{Vcpu, vm_in, is_vcpu_in, slot_of, notice_hart}
use Rattle.aia_model.specs.ReachOf.{in_force_of}
use Rattle.aia_vcpu.proofs.RouteLemmas.{reach_lands}
use Rattle.aia_model.proofs.ReachLemmas.{in_force_may}
use Rattle.aia_vcpu_places.specs.Places.{leads_to}
use Rattle.aia_fabric_values.specs.Stores.{StoresInGuestFile, StoresInSlot, Reaches, slot_at, page_spot}
use Rattle.aia_fabric_values.specs.Whole.{IsWhole}
use Rattle.aia_fabric_values.specs.Changes.{spot_of}
use Rattle.aia_move_values.specs.Own.{LeadsToOwn}
use Rattle.aia_move_values.proofs.OwnLemmas.{guest_spot}
use Rattle.aia_fabric_values.proofs.PlaceLemmas.{slot_found, host_page}
use Rattle.aia_fabric_values.proofs.WholeLemmas.{notice_hart_there}
use Rattle.aia_model.specs.declared.answer.Answer.{Answer}
use Rattle.aia_model.specs.declared.answer.Answer.TheVariants.{Okay, Refused}
use Rattle.aia_model.specs.declared.refusal.Refusal.TheVariants as words
use Rattle.aia_model.specs.declared.line.Line.TheVariants as lines
use Rattle.aia_model.specs.Event.{History, file_words}
use Rattle.aia_model.specs.Event.Event.{Accepted}
use Rattle.aia_model.specs.Vms.{vms_of, has_vm, has_vcpu, mask_of}
use Rattle.aia_model.specs.GuestFile.{named_by}
use Rattle.aia_model.specs.HomeOf.{home}
use Rattle.aia_model.specs.Refusal.{refusal}
use Rattle.aia_model.proofs.AnswerLemmas.{msi_refusal}
use Rattle.aia_hyp_values.specs.Core.{CoreState}
use Rattle.aia_hyp_values.specs.Stands.{CoreStands, CoreTakes, line_served, route_answer}
use Rattle.aia_hyp_values.proofs.VcpuLemmas.{quiet_line, still_line}
use Rattle.aia_hyp_values.proofs.EventLemmas.{one_more, by_refusal, refused}
use Rattle.aia_hyp_values.proofs.GuestStores.{GuestStored, IsStoredFor, devices_held, slot_few, stored_for_guest}
use Rattle.aia_regs.specs.declared.address_map.TheConstants.{PAGE}

-- ---- the route that the address takes, and what the store is answered

pub same_core : (x y : CoreState) → y.world ≡ x.world → y.leases ≡ x.leases → y.vcpus ≡ x.vcpus → y.selects ≡ x.selects → y.passes ≡ x.passes → y ≡ x
same_core x y world leases vcpus selects passes =
    λ k. record { world = world k; leases = leases k; vcpus = vcpus k; selects = selects k; passes = passes k }

-- what stands, of one history, where a device of a VM that stands names an address
pub record Addressed (x : CoreState) (h : History) (vm : ℕ) : Type 0 where
  pub stands : CoreStands x h
  pub whole : IsWhole x.world
  pub low : vm < length x.world.vms

-- and what the call says
pub record Reached (x y : CoreState) (h : History) (vm addr value : ℕ) : Type 0 where
  pub at : Addressed x h vm
  pub aligned : addr % 4 ≡ 0
  pub reaches : Reaches (route_of (table_of x.world.tables vm) addr) x.world y.world (addr % PAGE) value
  pub leases : y.leases ≡ x.leases
  pub vcpus : y.vcpus ≡ x.vcpus
  pub selects : y.selects ≡ x.selects
  pub passes : y.passes ≡ x.passes

-- what is to be shown of it
abbrev Answered : CoreState → CoreState → History → ℕ → ℕ → ℕ → Type 0
Answered x y h vm addr value =
    (r : Option Answer) × (refusal h (lines.Msi vm addr value) ≡ r) × (route_answer (route_of (table_of x.world.tables vm) addr) ≡ unwrap_or r Okay)
    × CoreStands y (line_served r h (lines.Msi vm addr value)) × ((word : Answer) → r ≡ Some word → y ≡ x)

pub vm_there : (x : CoreState) (h : History) (vm : ℕ) → Addressed x h vm → has_vm h vm ≡ true
vm_there x h vm c = lt-ltb vm (length (vms_of h)) (subst (λ (vs : List Vm). vm < length vs) c.stands.vms c.low)

-- the words that are left when the VM is there and the address is aligned
left : (x y : CoreState) (h : History) (vm addr value : ℕ) → Reached x y h vm addr value
    → refusal h (lines.Msi vm addr value) ≡ cond (not (is_msi_address (mask_of h vm) addr)) (Some (Refused words.Other))
    (cond (not (has_vcpu h (named_by h vm addr))) (Some (Refused words.NotValid)) None)
left x y h vm addr value c =
    let rest = cond (not (is_msi_address (mask_of h vm) addr)) (Some (Refused words.Other))
    (cond (not (has_vcpu h (named_by h vm addr))) (Some (Refused words.NotValid)) None) in
    msi_refusal h vm addr value c.at.stands.there
    ∙ ap (λ b. cond (not b) (Some (Refused words.Range)) (cond (not (nat_eq (addr % 4) 0)) (Some (Refused words.Fault)) rest)) (vm_there x h vm c.at)
    ∙ ap (λ b. cond (not b) (Some (Refused words.Fault)) rest) (eq-eqb (addr % 4) 0 c.aligned)

pub mask_is : (x : CoreState) (h : History) (vm : ℕ) → Addressed x h vm → (table_of x.world.tables vm).mask ≡ mask_of h vm
mask_is x h vm c = (c.whole.vms vm c.low).same_mask ∙ ap (λ (vs : List Vm). (vm_in vs vm).mask) c.stands.vms

-- an address that is no MSI address of the VM
pub no_route : (x : CoreState) (h : History) (vm addr : ℕ) → Addressed x h vm → is_msi_address (mask_of h vm) addr ≡ false
    → route_of (table_of x.world.tables vm) addr ≡ Other
no_route x h vm addr c none = cond-false _ _ _ (ap (λ mask. is_msi_address mask addr) (mask_is x h vm c) ∙ none)

outside : (x y : CoreState) (h : History) (vm addr value : ℕ) → Reached x y h vm addr value → is_msi_address (mask_of h vm) addr ≡ false
    → Answered x y h vm addr value
outside x y h vm addr value c none =
    let route = no_route x h vm addr c.at none in
    let same : y.world ≡ x.world = subst (λ (r : Route). Reaches r x.world y.world (addr % PAGE) value) route c.reaches in
    let core = same_core x y same c.leases c.vcpus c.selects c.passes in (
      Some (Refused words.Other),
      left x y h vm addr value c ∙ ap (λ b. cond (not b) (Some (Refused words.Other))
          (cond (not (has_vcpu h (named_by h vm addr))) (Some (Refused words.NotValid)) None)) none,
      ap route_answer route,
      subst (λ z. CoreStands z h) (sym core) c.at.stands,
      λ word e. core,
    )

-- the route of an MSI address
pub route_is : (x : CoreState) (h : History) (vm addr : ℕ) → Addressed x h vm → is_msi_address (mask_of h vm) addr ≡ true
    → route_of (table_of x.world.tables vm) addr ≡ leads_by (entry_in_force (table_of x.world.tables vm) (named_by h vm addr).vcpu)
route_is x h vm addr c is =
    let mask = mask_is x h vm c in
    cond-true _ _ _ (ap (λ mask. is_msi_address mask addr) mask ∙ is)
    ∙ ap (λ mask. leads_by (entry_in_force (table_of x.world.tables vm) (file_number mask addr))) mask

inside : (x y : CoreState) (h : History) (vm addr value : ℕ) → Reached x y h vm addr value → is_msi_address (mask_of h vm) addr ≡ true
    → refusal h (lines.Msi vm addr value) ≡ cond (not (has_vcpu h (named_by h vm addr))) (Some (Refused words.NotValid)) None
inside x y h vm addr value c is = left x y h vm addr value c
    ∙ ap (λ b. cond (not b) (Some (Refused words.Other)) (cond (not (has_vcpu h (named_by h vm addr))) (Some (Refused words.NotValid)) None)) is

-- one that names no virtual hart
pub lost_route : (x : CoreState) (h : History) (vm addr : ℕ) → Addressed x h vm → is_msi_address (mask_of h vm) addr ≡ true
    → has_vcpu h (named_by h vm addr) ≡ false → route_of (table_of x.world.tables vm) addr ≡ Fault entries.NotValid
lost_route x h vm addr c is none = route_is x h vm addr c is ∙ ap leads_by (c.stands.no_entry (named_by h vm addr) (vm_there x h vm c) none)

names_none : (x y : CoreState) (h : History) (vm addr value : ℕ) → Reached x y h vm addr value → is_msi_address (mask_of h vm) addr ≡ true
    → has_vcpu h (named_by h vm addr) ≡ false → Answered x y h vm addr value
names_none x y h vm addr value c is none =
    let route = lost_route x h vm addr c.at is none in
    let same : y.world ≡ x.world = subst (λ (r : Route). Reaches r x.world y.world (addr % PAGE) value) route c.reaches in
    let core = same_core x y same c.leases c.vcpus c.selects c.passes in (
      Some (Refused words.NotValid),
      inside x y h vm addr value c is ∙ ap (λ b. cond (not b) (Some (Refused words.NotValid)) None) none,
      ap route_answer route,
      subst (λ z. CoreStands z h) (sym core) c.at.stands,
      λ word e. core,
    )

-- where its stores go: the entry in force leads where stores of devices are to reach
pub entry_is : (x : CoreState) (h : History) (g : Vcpu) → CoreStands x h → has_vcpu h g ≡ true
    → entry_in_force (table_of x.world.tables g.vm) g.vcpu ≡ leads_to (slot_of (vms_of h) g) (notice_hart (vms_of h) g) (in_force_of h g)
entry_is x h g stands there = (stands.vcpus g there).holds.routes.in_force

-- so all entries of a VM lead to its own
pub leads_to_own : (x : CoreState) (h : History) (v : ℕ) → CoreStands x h → has_vm h v ≡ true → LeadsToOwn x.world v (λ g. in_force_of h g)
leads_to_own x h v stands standing = record {
  own = λ g its there. subst (λ (vs : List Vm). entry_in_force (table_of x.world.tables g.vm) g.vcpu ≡ leads_to (slot_of vs g)
      (notice_hart vs g) (in_force_of h g)) (sym stands.vms)
      (entry_is x h g stands (subst (λ (vs : List Vm). is_vcpu_in vs g ≡ true) stands.vms there));
  there = λ g p its there e. stands.held g p (subst (λ (vs : List Vm). is_vcpu_in vs g ≡ true) stands.vms there) (devices_held h g p e);
  no_other = λ g its none. stands.no_entry g (subst (λ v. has_vm h v ≡ true) (sym its) standing)
      (subst (λ (vs : List Vm). is_vcpu_in vs g ≡ false) stands.vms none);
}

-- so the store lands where they reach
pub reached : (x y : CoreState) (h : History) (g : Vcpu) (offset value : ℕ) (reach : Option GuestPlace) → CoreStands x h → IsWhole x.world
    → has_vcpu h g ≡ true → ((p : GuestPlace) → reach ≡ Some p → IsThere x.world.imsic (spot_of p))
    → Reaches (leads_by (leads_to (slot_of (vms_of h) g) (notice_hart (vms_of h) g) reach)) x.world y.world offset value
    → GuestStored x.world y.world g reach offset value
reached x y h g offset value (Some p) stands whole there inside reaches =
    subst (λ (s : Spot). StoresInGuestFile x.world y.world s offset value)
    (guest_spot x.world.imsic p whole.harts whole.guests (inside p refl)) reaches
reached x y h g offset value None stands whole there inside reaches =
    let vms : vms_of h ≡ x.world.vms = sym stands.vms in
    let hart : notice_hart x.world.vms g < x.world.imsic.harts =
    notice_hart_there x.world g whole (subst (λ (vs : List Vm). is_vcpu_in vs g ≡ true) vms there) in
    let at : StoresInSlot x.world y.world (slot_at (slot_address (slot_of x.world.vms g)))
    (page_spot x.world.imsic (supervisor_page (notice_hart x.world.vms g) / PAGE)) (slot_of x.world.vms g + 1) offset value =
    subst (λ (vs : List Vm). StoresInSlot x.world y.world (slot_at (slot_address (slot_of vs g)))
    (page_spot x.world.imsic (supervisor_page (notice_hart vs g) / PAGE)) (slot_of vs g + 1) offset value) vms reaches in
    subst (λ (s : Spot). StoresInSlot x.world y.world (Some (slot_of x.world.vms g)) s (slot_of x.world.vms g + 1) offset value)
    (host_page x.world.imsic (notice_hart x.world.vms g) hart whole.harts)
    (subst (λ (o : Option ℕ). StoresInSlot x.world y.world o (page_spot x.world.imsic (supervisor_page (notice_hart x.world.vms g) / PAGE))
    (slot_of x.world.vms g + 1) offset value) (slot_found (slot_of x.world.vms g) (slot_few x h g stands whole there)) at)

pub own_route : (x : CoreState) (h : History) (vm addr : ℕ) → Addressed x h vm → is_msi_address (mask_of h vm) addr ≡ true
    → has_vcpu h (named_by h vm addr) ≡ true
    → route_of (table_of x.world.tables vm) addr ≡ leads_by
    (leads_to (slot_of (vms_of h) (named_by h vm addr)) (notice_hart (vms_of h) (named_by h vm addr)) (in_force_of h (named_by h vm addr)))
own_route x h vm addr c is there = route_is x h vm addr c is ∙ ap leads_by (entry_is x h (named_by h vm addr) c.stands there)

pub goes_to : (o : Option GuestPlace) (q hart : ℕ) → route_answer (leads_by (leads_to q hart o)) ≡ Okay
goes_to None q hart = refl
goes_to (Some p) q hart = refl

names_one : (x y : CoreState) (h : History) (vm addr value : ℕ) → Reached x y h vm addr value → is_msi_address (mask_of h vm) addr ≡ true
    → has_vcpu h (named_by h vm addr) ≡ true → Answered x y h vm addr value
names_one x y h vm addr value c is there =
    let g = named_by h vm addr in
    let event = Accepted (lines.Msi vm addr value) in
    let reach = in_force_of h g in
    let route = own_route x h vm addr c.at is there in
    let reaches = subst (λ (r : Route). Reaches r x.world y.world (addr % PAGE) value) route c.reaches in
    let stored : IsStoredFor x y h event g reach (addr % PAGE) value = record {
      meant = record {
        stands = c.at.stands;
        whole = c.at.whole;
        quiet = quiet_line h (lines.Msi vm addr value) refl;
        there = there;
        leads = reach_lands (file_words h) (home h g) reach (in_force_may h g);
        majors = λ other m. refl;
        deeds = λ other. refl;
        leases = c.leases;
        vcpus = c.vcpus;
        selects = c.selects;
        passes = c.passes;
      };
      notices = refl;
      host = λ f. refl;
      stores = reached x y h g (addr % PAGE) value reach c.at.stands c.at.whole there
          (λ p e. c.at.stands.held g p there (devices_held h g p e)) reaches;
    } in (
      None,
      inside x y h vm addr value c is ∙ ap (λ b. cond (not b) (Some (Refused words.NotValid)) None) there,
      ap route_answer route ∙ goes_to reach (slot_of (vms_of h) g) (notice_hart (vms_of h) g),
      one_more x y h event (stored_for_guest x y h event g reach (addr % PAGE) value stored) (still_line h (lines.Msi vm addr value) refl)
          c.at.stands,
      λ word e. absurd (none-some word e),
    )

pub store_answered : (x y : CoreState) (h : History) (vm addr value : ℕ) → Reached x y h vm addr value → Answered x y h vm addr value
store_answered x y h vm addr value c = elim (cases_Bool (is_msi_address (mask_of h vm) addr)) [
  | inl is ↦ elim (cases_Bool (has_vcpu h (named_by h vm addr)))
      [ inl there ↦ names_one x y h vm addr value c is there | inr lacks ↦ names_none x y h vm addr value c is lacks ]
  | inr none ↦ outside x y h vm addr value c none
]

pub store_taken : (x y : CoreState) (vm addr value : ℕ) (route : Route) → IsWhole x.world → vm < length x.world.vms → addr % 4 ≡ 0
    → route ≡ route_of (table_of x.world.tables vm) addr
    → Reaches route x.world y.world (addr % PAGE) value → y.leases ≡ x.leases → y.vcpus ≡ x.vcpus → y.selects ≡ x.selects → y.passes ≡ x.passes
    → CoreTakes x y (lines.Msi vm addr value) (route_answer route)
store_taken x y vm addr value route whole low aligned is reaches leases vcpus selects passes =
    rw (is) (by_refusal x y (lines.Msi vm addr value) (route_answer (route_of (table_of x.world.tables vm) addr))
    (λ h stands. store_answered x y h vm addr value (record {
      at = record { stands = stands; whole = whole; low = low };
      aligned = aligned;
      reaches = subst (λ (r : Route). Reaches r x.world y.world (addr % PAGE) value) is reaches;
      leases = leases;
      vcpus = vcpus;
      selects = selects;
      passes = passes;
    })))

-- ---- what is refused before

pub no_vm_for_it : (x : CoreState) (vm addr value : ℕ) → length x.world.vms ≤ vm → CoreTakes x x (lines.Msi vm addr value) (Refused words.Range)
no_vm_for_it x vm addr value past = refused x (lines.Msi vm addr value) (Refused words.Range) (λ h stands.
    msi_refusal h vm addr value stands.there ∙ cond-true _ _ _
    (ap not (le-ltb vm (length (vms_of h)) (subst (λ (vs : List Vm). length vs ≤ vm) stands.vms past))))

pub misaligned_store : (x : CoreState) (vm addr value : ℕ) → vm < length x.world.vms → addr % 4 ≢ 0
    → CoreTakes x x (lines.Msi vm addr value) (Refused words.Fault)
misaligned_store x vm addr value low off = refused x (lines.Msi vm addr value) (Refused words.Fault) (λ h stands.
    msi_refusal h vm addr value stands.there ∙ cond-false _ _ _
    (ap not (lt-ltb vm (length (vms_of h)) (subst (λ (vs : List Vm). vm < length vs) stands.vms low)))
    ∙ cond-true _ _ _ (ap not (ne_eqb (addr % 4) 0 off)))
