use Rattle.std.proofs.Common.{◌≡◌, ◌*◌, ◌+◌, get_or, set, true, cond, refl, sym, ap, subst, ◌∙◌, arith}
use Rattle.aia_word.specs.Top.{top_value}
use Rattle.aia_regs.specs.declared.access.Csr.TheVariants as csrs
use Rattle.aia_regs.specs.declared.file_registers.FileReg.{FileReg}
use Rattle.aia_regs.specs.FileRegisters.{select_written}
use Rattle.aia_regs.specs.Operations.{is_writing}
use Rattle.aia_csr.specs.declared.csr_access.CsrAccess.TheVariants as reaches
use Rattle.aia_file.specs.InterruptFile.{SameFile, register_value, top_of, accessed, claimed}
use Rattle.aia_vcpu.specs.Vms.{Vcpu, vcpu_of, is_vcpu_in, slot_of}
use Rattle.aia_fabric_values.specs.SlotAccess.{file_of_slot, DoneInSlot}
use Rattle.aia_fabric_values.specs.Whole.{IsWhole}
use Rattle.aia_move_values.specs.declared.who.KeptNumbers.{KeptNumbers}
use Rattle.aia_model.specs.declared.answer.Answer.TheVariants.{Wide}
use Rattle.aia_model.specs.declared.line.Line.TheVariants.{GuestCsr}
use Rattle.aia_model.specs.FileAfter.FileDeed.{Accesses}
use Rattle.aia_vcpu.specs.declared.rest.Rest.TheVariants.{Entered}
use Rattle.aia_hyp_values.specs.declared.vcpu.Stay.TheVariants as stays
use Rattle.aia_hyp_values.specs.Core.{CoreState, no_record, record_of}
use Rattle.aia_hyp_values.specs.Memory.{file_in_memory, kept_after}
use Rattle.aia_hyp_values.specs.Stands.{CoreTakes}
use Rattle.aia_hyp_values.proofs.EventLemmas.{as_it_was, still}
use Rattle.aia_hyp_values.proofs.GuestLookups.{reached, names, slot_is, slot_low}
use Rattle.aia_hyp_values.proofs.MemoryAccesses.{memory_record_done, memory_slot_done, sets_accessed, sets_value, number_accessed, number_value, top_accessed, memory_accessed, memory_virtual}
use Rattle.aia_hyp.proofs.hypervisor_core.Core.memory_access.Goals.{After-access_select_in, After-access_kept_in, After-slot_reg, After-top_in}
use Rattle.aia_hyp.proofs.hypervisor_core.Core.memory_access.Goals as goal

-- what the call was asked, of the core before it
record IsAsked (x : CoreState) (g : Vcpu) (kept : KeptNumbers) : Type 0 where
  there : is_vcpu_in x.world.vms g ≡ true
  whole : IsWhole x.world
  at : (record_of x g).stay ≡ stays.InMemory Entered kept

asked : (x y : CoreState) (g : Vcpu) (kept : KeptNumbers) → x ≡ y → IsAsked y g kept → IsAsked x g kept
asked x y g kept e a = subst (λ (z : CoreState). IsAsked z g kept) (sym e) a

select_taken : (c : After-access_select_in) → CoreTakes
    (record {
      world = c.self.inside.fabric;
      leases = c.self.inside.pool;
      vcpus = c.self.inside.vcpus.items;
      selects = c.self.inside.selects;
      passes = c.self.inside.passes;
    }) (record {
      world = c.self.inside.fabric;
      leases = c.self.inside.pool;
      vcpus =
          c.access_select_in.new.vcpus.items;
      selects = c.self.inside.selects;
      passes = c.self.inside.passes;
    })
    (GuestCsr c.args.found.vm c.args.found.vcpu c.args.csr c.args.op) (Wide c.access_select_in.result)
select_taken c =
    let x : CoreState = record {
      world = c.self.inside.fabric;
      leases = c.self.inside.pool;
      vcpus = c.self.inside.vcpus.items;
      selects =
          c.self.inside.selects;
      passes = c.self.inside.passes;
    } in
    let y : CoreState = record {
      world = c.self.inside.fabric;
      leases = c.self.inside.pool;
      vcpus = c.access_select_in.new.vcpus.items;
      selects =
          c.self.inside.selects;
      passes = c.self.inside.passes;
    } in
    let g = vcpu_of c.args.found.vm c.args.found.vcpu in
    let a = asked x c.args.self.now g c.args.kept c.self.view_is
    (record { there = c.requires.found.there; whole = c.requires.whole; at = c.requires.entered }) in
    let table = reached x c.args.self.now g reaches.Select c.guest_reached.result c.args.csr c.args.op c.self.view_is c.in-Select.is
    c.guest_reached.ensures.table in
    let named = names x g reaches.Select c.args.csr c.args.op table in
    let slot = slot_is x c.args.self.now c.args.found c.self.view_is c.requires.found in
    let low = slot_low x c.args.self.now c.args.found c.self.view_is c.self.invariant c.requires.found in
    let after = record (record_of x g) { select = select_written c.args.op (record_of x g).select } in
    memory_accessed x y c.args.found.vm c.args.found.vcpu c.args.csr csrs.Select c.args.op c.args.kept c.args.kept reaches.Select
    c.access_select_in.result a.whole a.there a.at table refl refl named
    (c.access_select_in.ensures.value ∙ ap (λ q. (get_or x.vcpus q no_record).select) slot)
    (memory_record_done x y g c.args.kept c.args.kept (Accesses csrs.Select c.args.op) refl refl refl refl low after
    (subst (λ q. y.vcpus ≡ set x.vcpus q (record (get_or x.vcpus q no_record)
    { select = select_written c.args.op (get_or x.vcpus q no_record).select })) slot c.access_select_in.ensures.after)
    a.at refl refl (as_it_was (file_in_memory x.world (slot_of x.world.vms g) c.args.kept))) tt

number_taken : (c : After-access_kept_in) → CoreTakes
    (record {
      world = c.self.inside.fabric;
      leases = c.self.inside.pool;
      vcpus = c.self.inside.vcpus.items;
      selects = c.self.inside.selects;
      passes = c.self.inside.passes;
    }) (record {
      world = c.self.inside.fabric;
      leases = c.self.inside.pool;
      vcpus =
          c.access_kept_in.new.vcpus.items;
      selects = c.self.inside.selects;
      passes = c.self.inside.passes;
    })
    (GuestCsr c.args.found.vm c.args.found.vcpu c.args.csr c.args.op) (Wide c.access_kept_in.result)
number_taken c =
    let x : CoreState = record {
      world = c.self.inside.fabric;
      leases = c.self.inside.pool;
      vcpus = c.self.inside.vcpus.items;
      selects =
          c.self.inside.selects;
      passes = c.self.inside.passes;
    } in
    let y : CoreState = record {
      world = c.self.inside.fabric;
      leases = c.self.inside.pool;
      vcpus = c.access_kept_in.new.vcpus.items;
      selects =
          c.self.inside.selects;
      passes = c.self.inside.passes;
    } in
    let g = vcpu_of c.args.found.vm c.args.found.vcpu in
    let reg = c.in-File.reg in
    let op = c.args.op in
    let kept = c.args.kept in
    let modulus = 64 * c.from-modulus.result in
    let now = kept_after modulus reg op kept in
    let a = asked x c.args.self.now g kept c.self.view_is
    (record { there = c.requires.found.there; whole = c.requires.whole; at = c.requires.entered }) in
    let table = reached x c.args.self.now g (reaches.File reg) c.guest_reached.result c.args.csr op c.self.view_is c.in-File.is
    c.guest_reached.ensures.table in
    let named = names x g (reaches.File reg) c.args.csr op table in
    let slot = slot_is x c.args.self.now c.args.found c.self.view_is c.requires.found in
    let low = slot_low x c.args.self.now c.args.found c.self.view_is c.self.invariant c.requires.found in
    let all : modulus ≡ x.world.n + 1 = ap (λ m. 64 * m) c.from-modulus.ensures ∙ c.words.ensures.all in
    let number = sym c.is_outside_sets.ensures ∙ c.if-is_outside_sets.true in
    let after = record (record_of x g) { stay = stays.InMemory Entered now } in
    memory_accessed x y c.args.found.vm c.args.found.vcpu c.args.csr csrs.Reg op kept now (reaches.File reg) c.access_kept_in.result a.whole
    a.there a.at table refl refl named.0
    (c.access_kept_in.ensures.value ∙ number_value x.world (slot_of x.world.vms g) kept reg number
    ∙ ap (register_value (file_in_memory x.world (slot_of x.world.vms g) kept)) (sym named.1))
    (memory_record_done x y g kept now (Accesses csrs.Reg op) refl refl refl refl low after
    (subst (λ q. y.vcpus ≡ set x.vcpus q (record (get_or x.vcpus q no_record) { stay = stays.InMemory Entered now })) slot
    c.access_kept_in.ensures.after)
    refl refl refl (subst (λ (r : FileReg). SameFile (file_in_memory x.world (slot_of x.world.vms g) now)
    (accessed r op (file_in_memory x.world (slot_of x.world.vms g) kept))) (sym named.1)
    (number_accessed x.world (slot_of x.world.vms g) modulus kept reg op number all))) tt

sets_taken : (c : After-slot_reg) → CoreTakes (record {
  world = c.self.inside.fabric;
  leases = c.self.inside.pool;
  vcpus = c.self.inside.vcpus.items;
  selects = c.self.inside.selects;
  passes =
      c.self.inside.passes;
}) (record {
  world = c.slot_reg.new.self;
  leases = c.self.inside.pool;
  vcpus = c.self.inside.vcpus.items;
  selects =
      c.self.inside.selects;
  passes = c.self.inside.passes;
}) (GuestCsr c.args.found.vm c.args.found.vcpu c.args.csr c.args.op)
    (Wide c.slot_reg.result)
sets_taken c =
    let x : CoreState = record {
      world = c.self.inside.fabric;
      leases = c.self.inside.pool;
      vcpus = c.self.inside.vcpus.items;
      selects =
          c.self.inside.selects;
      passes = c.self.inside.passes;
    } in
    let y : CoreState = record {
      world = c.slot_reg.new.self;
      leases = c.self.inside.pool;
      vcpus = c.self.inside.vcpus.items;
      selects =
          c.self.inside.selects;
      passes = c.self.inside.passes;
    } in
    let g = vcpu_of c.args.found.vm c.args.found.vcpu in
    let reg = c.in-File.reg in
    let op = c.args.op in
    let kept = c.args.kept in
    let q = slot_of x.world.vms g in
    let a = asked x c.args.self.now g kept c.self.view_is
    (record { there = c.requires.found.there; whole = c.requires.whole; at = c.requires.entered }) in
    let table = reached x c.args.self.now g (reaches.File reg) c.guest_reached.result c.args.csr op c.self.view_is c.in-File.is
    c.guest_reached.ensures.table in
    let named = names x g (reaches.File reg) c.args.csr op table in
    let sets = sym c.is_outside_sets.ensures ∙ c.if-is_outside_sets.false in
    let done : DoneInSlot x.world y.world q 0 (accessed reg op) =
    subst (λ q. DoneInSlot x.world y.world q 0 (accessed reg op)) (slot_is x c.args.self.now c.args.found c.self.view_is c.requires.found)
    c.slot_reg.ensures.done in
    memory_accessed x y c.args.found.vm c.args.found.vcpu c.args.csr csrs.Reg op kept kept (reaches.File reg) c.slot_reg.result a.whole a.there
    a.at table refl refl named.0
    (c.slot_reg.ensures.value ∙ ap (λ q. register_value (file_of_slot x.world q 0) reg)
    (slot_is x c.args.self.now c.args.found c.self.view_is c.requires.found) ∙ sets_value x.world q kept reg sets
    ∙ ap (register_value (file_in_memory x.world q kept)) (sym named.1))
    (memory_slot_done x y g kept (Accesses csrs.Reg op) 0 (accessed reg op) done refl refl refl refl a.at refl
    (subst (λ (r : FileReg). SameFile (file_in_memory y.world q kept) (accessed r op (file_in_memory x.world q kept))) (sym named.1)
    (sets_accessed x.world y.world q kept reg op sets done))) tt

top_taken : (c : After-top_in) → CoreTakes (record {
  world = c.self.inside.fabric;
  leases = c.self.inside.pool;
  vcpus = c.self.inside.vcpus.items;
  selects = c.self.inside.selects;
  passes =
      c.self.inside.passes;
}) (record {
  world = c.top_in.new.fabric;
  leases = c.self.inside.pool;
  vcpus = c.self.inside.vcpus.items;
  selects =
      c.self.inside.selects;
  passes = c.self.inside.passes;
}) (GuestCsr c.args.found.vm c.args.found.vcpu c.args.csr c.args.op) (Wide c.top_in.result)
top_taken c =
    let x : CoreState = record {
      world = c.self.inside.fabric;
      leases = c.self.inside.pool;
      vcpus = c.self.inside.vcpus.items;
      selects =
          c.self.inside.selects;
      passes = c.self.inside.passes;
    } in
    let y : CoreState = record {
      world = c.top_in.new.fabric;
      leases = c.self.inside.pool;
      vcpus = c.self.inside.vcpus.items;
      selects =
          c.self.inside.selects;
      passes = c.self.inside.passes;
    } in
    let g = vcpu_of c.args.found.vm c.args.found.vcpu in
    let op = c.args.op in
    let kept = c.args.kept in
    let q = slot_of x.world.vms g in
    let a = asked x c.args.self.now g kept c.self.view_is
    (record { there = c.requires.found.there; whole = c.requires.whole; at = c.requires.entered }) in
    let table = reached x c.args.self.now g reaches.Top c.guest_reached.result c.args.csr op c.self.view_is c.in-Top.is
    c.guest_reached.ensures.table in
    let named = names x g reaches.Top c.args.csr op table in
    let done : DoneInSlot x.world y.world q kept.threshold (λ file. cond (is_writing op) (claimed file) file) =
    subst (λ q. DoneInSlot x.world y.world q kept.threshold (λ file. cond (is_writing op) (claimed file) file))
    (slot_is x c.args.self.now c.args.found c.self.view_is c.requires.found) c.top_in.ensures.done in
    memory_accessed x y c.args.found.vm c.args.found.vcpu c.args.csr csrs.Topei op kept kept reaches.Top c.top_in.result a.whole a.there a.at
    table refl refl named
    (c.top_in.ensures.value ∙ ap (λ q. top_value (top_of (file_of_slot x.world q kept.threshold)))
    (slot_is x c.args.self.now c.args.found c.self.view_is c.requires.found))
    (memory_slot_done x y g kept (Accesses csrs.Topei op) kept.threshold (λ file. cond (is_writing op) (claimed file) file) done refl refl refl
    refl a.at refl
    (top_accessed x.world y.world q kept (is_writing op) done.done)) tt

pub invariant_of-self : goal.invariant_of-self
invariant_of-self c = still _ _ _ _ (select_taken c) c.self.invariant

pub returns-in-Select : goal.returns-in-Select
returns-in-Select c = rw (← c.self.view_is) (select_taken c)

pub invariant_of-self-then-is_outside_sets : goal.invariant_of-self-then-is_outside_sets
invariant_of-self-then-is_outside_sets c = still _ _ _ _ (number_taken c) c.self.invariant

pub returns-in-File : goal.returns-in-File
returns-in-File c = rw (← c.self.view_is) (number_taken c)

pub invariant_of-self-in-File-2 : goal.invariant_of-self-in-File-2
invariant_of-self-in-File-2 c = still _ _ _ _ (sets_taken c) c.self.invariant

pub returns-in-File-2 : goal.returns-in-File-2
returns-in-File-2 c = rw (← c.self.view_is) (sets_taken c)

pub invariant_of-self-in-Top : goal.invariant_of-self-in-Top
invariant_of-self-in-Top c = still _ _ _ _ (top_taken c) c.self.invariant

pub returns-in-Top : goal.returns-in-Top
returns-in-Top c = rw (← c.self.view_is) (top_taken c)

pub returns-in-Virtual : goal.returns-in-Virtual
returns-in-Virtual c = memory_virtual c.args.self.now c.args.found.vm c.args.found.vcpu c.args.csr c.args.op c.args.kept c.requires.found.there
    c.requires.entered c.requires.listed (sym c.in-Virtual.is ∙ c.guest_reached.ensures.table)
