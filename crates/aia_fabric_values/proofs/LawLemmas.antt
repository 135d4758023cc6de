-- Where the stores of devices of a new VM go.
use Rattle.std.proofs.Common.{◌≡◌, ℕ, ◌+◌, ◌%◌, ◌<◌, true, cond, [], ◌∷◌, length, Option, Some, sym, ap, ◌∙◌, subst, arith}
use Rattle.std.proofs.lemmas.Bool.{cond-true, lt-ltb}
use Rattle.std.proofs.lemmas.List.{length-append}
use Rattle.aia_regs.specs.declared.address_map.TheConstants.{PAGE}
use Rattle.aia_regs.specs.AddressMap.{slot_address}
use Rattle.aia_file.specs.declared.spot.Spot.{Spot}
use Rattle.aia_file.specs.declared.spot.Spot.TheVariants.{SupervisorFile}
use Rattle.aia_entry.specs.declared.entry.Entry.TheVariants.{Mrif}
use Rattle.aia_entry.specs.declared.table.Route.{Route}
use Rattle.aia_entry.specs.declared.table.Route.TheVariants.{Other, To}
use Rattle.aia_entry.specs.Tables.{TableState, table_of, entry_in_force, leads_by, route_of}
use Rattle.aia_entry.specs.Translation.{is_msi_address, file_number}
use Rattle.aia_vcpu.specs.declared.vm.Vm.{Vm}
use Rattle.aia_vcpu.specs.Vms.{vcpu_of, vcpus_in, slot_of, notice_identity, notice_hart}
use Rattle.aia_vcpu.proofs.VmLemmas.{vm_new, slot_new, vcpus_more}
use Rattle.aia_fabric_values.specs.World.{World}
use Rattle.aia_fabric_values.specs.Whole.{IsWhole}
use Rattle.aia_fabric_values.specs.Making.{MakesVm, notice_page}
use Rattle.aia_fabric_values.specs.Stores.{Reaches, StoresInSlot, page_spot}
use Rattle.aia_fabric_values.proofs.PlaceLemmas.{slot_found, host_page}
use Rattle.aia_regs.specs.declared.limits.TheConstants.{SLOTS}

-- a table's route for an MSI address
routed : (t : TableState) (mask addr : ℕ) → t.mask ≡ mask → is_msi_address mask addr ≡ true
    → route_of t addr ≡ leads_by (entry_in_force t (file_number mask addr))
routed t mask addr same is =
    ap (λ m. cond (is_msi_address m addr) (leads_by (entry_in_force t (file_number m addr))) Other) same ∙ cond-true _ _ _ is

-- the entry of a virtual hart of the new VM
pub made_route : (w u : World) (vm : Vm) (addr : ℕ) → length w.tables ≡ length w.vms → MakesVm w u vm → is_msi_address vm.mask addr ≡ true
    → file_number vm.mask addr < vm.vcpus
    → route_of (table_of u.tables (length w.vms)) addr ≡ To
    (Mrif (slot_address (vcpus_in w.vms + file_number vm.mask addr)) (notice_page vm) (vcpus_in w.vms + file_number vm.mask addr + 1))
made_route w u vm addr same made is low =
    ap (λ n. route_of (table_of u.tables n) addr) (sym same)
    ∙ routed (table_of u.tables (length w.tables)) vm.mask addr made.mask is
    ∙ ap leads_by (made.in_force (file_number vm.mask addr) ∙ cond-true _ _ _ (lt-ltb (file_number vm.mask addr) vm.vcpus low))

pub made_reaches : (w u x : World) (vm : Vm) (addr value : ℕ) → IsWhole w → IsWhole u → MakesVm w u vm → is_msi_address vm.mask addr ≡ true
    → file_number vm.mask addr < vm.vcpus
    → Reaches (route_of (table_of u.tables (length w.vms)) addr) u x (addr % PAGE) value
    → StoresInSlot u x (Some (slot_of u.vms (vcpu_of (length w.vms) (file_number vm.mask addr))))
    (SupervisorFile (notice_hart u.vms (vcpu_of (length w.vms) (file_number vm.mask addr))))
    (notice_identity u.vms (vcpu_of (length w.vms) (file_number vm.mask addr))) (addr % PAGE) value
made_reaches w u x vm addr value before after made is low stored =
    let vcpu = file_number vm.mask addr in
    let q = vcpus_in w.vms + vcpu in
    let route = made_route w u vm addr before.tables made is low in
    let led = subst (λ (r : Route). Reaches r u x (addr % PAGE) value) route stored in
    let vcpus : vcpus_in u.vms ≡ vcpus_in w.vms + vm.vcpus = ap vcpus_in made.vms ∙ vcpus_more w.vms vm in
    let all = after.vcpus in
    let few : q < SLOTS = omega arith in
    let hart : notice_hart u.vms (vcpu_of (length w.vms) vcpu) ≡ vm.notice_hart = ap (λ vs. notice_hart vs (vcpu_of (length w.vms) vcpu)) made.vms
    ∙ ap (λ (v : Vm). v.notice_hart) (vm_new w.vms vm) in
    let slot : slot_of u.vms (vcpu_of (length w.vms) vcpu) ≡ q = ap (λ vs. slot_of vs (vcpu_of (length w.vms) vcpu)) made.vms
    ∙ slot_new w.vms vm vcpu in
    let count : length u.vms ≡ length w.vms + 1 = ap length made.vms ∙ length-append w.vms (vm ∷ []) in
    let stands = (after.vms (length w.vms) (omega (arith, count))).notice_hart in
    let there : vm.notice_hart < u.imsic.harts = subst (λ n. n < u.imsic.harts) hart stands in
    let in_slot = subst (λ (o : Option ℕ). StoresInSlot u x o (page_spot u.imsic (notice_page vm)) (q + 1) (addr % PAGE) value)
    (slot_found q few) led in
    let noticed = subst (λ (p : Spot). StoresInSlot u x (Some q) p (q + 1) (addr % PAGE) value)
    (host_page u.imsic vm.notice_hart there after.harts) in_slot in
    let by_slot = subst (λ (n : ℕ). StoresInSlot u x (Some n) (SupervisorFile vm.notice_hart) (n + 1) (addr % PAGE) value) (sym slot) noticed in
    subst (λ (n : ℕ). StoresInSlot u x (Some (slot_of u.vms (vcpu_of (length w.vms) vcpu))) (SupervisorFile n)
    (notice_identity u.vms (vcpu_of (length w.vms) vcpu)) (addr % PAGE) value) (sym hart) by_slot
