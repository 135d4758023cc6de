use Rattle.std.proofs.Common.{◌≡◌, ◌<◌, false, refl, sym, ap, subst, ◌∙◌}
use Rattle.aia_regs.specs.declared.access.Csr.TheVariants as csrs
use Rattle.aia_csr.specs.declared.csr_access.CsrAccess.{CsrAccess}
use Rattle.aia_csr.specs.declared.csr_access.CsrAccess.TheVariants.{Select, File, Top}
use Rattle.aia_csr.specs.CsrAccess.{csr_access}
use Rattle.aia_regs.specs.declared.file_registers.FileReg.{FileReg}
use Rattle.aia_regs.specs.FileRegisters.{register_of}
use Rattle.aia_file.specs.InterruptFile.{SameFile, register_value, accessed}
use Rattle.aia_file.specs.FileState.{shown}
use Rattle.aia_file.specs.Imsic.{file_at}
use Rattle.aia_model.specs.FileAfter.FileDeed.{Accesses}
use Rattle.aia_hyp_values.specs.Core.{CoreState}
use Rattle.aia_hyp_values.specs.HostFiles.{name_of, csr_line, select_in}
use Rattle.aia_hyp_values.specs.Stands.{CoreTakes}
use Rattle.aia_model.specs.declared.answer.Answer.TheVariants.{Wide}
use Rattle.aia_hyp_values.proofs.NameLemmas.{named_there}
use Rattle.aia_hyp_values.proofs.EventLemmas.{file_done, still}
use Rattle.aia_hyp_values.proofs.AccessLemmas.{of_file, file_reached, select_reached, top_reached, illegal, select_done}
use Rattle.aia_hyp_values.proofs.AccessLemmas as lemmas
use Rattle.aia_hyp.proofs.hypervisor_core.Core.access.Goals.{After-access_select, After-reg, After-claim_or_read}
use Rattle.aia_hyp.proofs.hypervisor_core.Core.access.Goals as goal

select_taken : (c : After-access_select) → CoreTakes
    (record {
      world = c.self.inside.fabric;
      leases = c.self.inside.pool;
      vcpus = c.self.inside.vcpus.items;
      selects = c.self.inside.selects;
      passes = c.self.inside.passes;
    }) (record {
      world = c.self.inside.fabric;
      leases = c.self.inside.pool;
      vcpus = c.self.inside.vcpus.items;
      selects = c.access_select.new.selects;
      passes = c.self.inside.passes;
    }) (csr_line c.args.level c.args.hart c.args.csr c.args.op)
    (Wide c.access_select.result)
select_taken c =
    let x : CoreState = record {
      world = c.self.inside.fabric;
      leases = c.self.inside.pool;
      vcpus = c.self.inside.vcpus.items;
      selects =
          c.self.inside.selects;
      passes = c.self.inside.passes;
    } in
    let y : CoreState = record {
      world = c.self.inside.fabric;
      leases = c.self.inside.pool;
      vcpus = c.self.inside.vcpus.items;
      selects =
          c.access_select.new.selects;
      passes = c.self.inside.passes;
    } in
    let f = name_of c.args.level c.args.hart in
    let there : c.args.hart < x.world.imsic.harts =
    subst (λ (z : CoreState). c.args.hart < z.world.imsic.harts) (sym c.self.view_is) c.requires.there in
    let table = subst (λ (z : CoreState). ◌≡◌ {A = CsrAccess} (Select) (csr_access c.args.level c.args.csr c.args.op (select_in z f) false))
    (sym c.self.view_is) c.in-Select.ensures.table in
    let reached = select_reached c.args.level c.args.csr c.args.op _ (of_file c.args.level c.args.csr c.requires.host c.requires.listed) table in
    lemmas.accessed x y c.args.level c.requires.host c.args.hart c.args.csr csrs.Select c.args.op (Select) c.access_select.result there table refl
    reached c.access_select.ensures.value
    (select_done x y f c.args.op refl refl refl refl c.access_select.ensures.own c.access_select.ensures.others)

file_taken : (c : After-reg) → CoreTakes (record {
  world = c.self.inside.fabric;
  leases = c.self.inside.pool;
  vcpus = c.self.inside.vcpus.items;
  selects = c.self.inside.selects;
  passes =
      c.self.inside.passes;
}) (record {
  world = c.reg.new.self;
  leases = c.self.inside.pool;
  vcpus = c.self.inside.vcpus.items;
  selects =
      c.self.inside.selects;
  passes = c.self.inside.passes;
}) (csr_line c.args.level c.args.hart c.args.csr c.args.op) (Wide c.reg.result)
file_taken c =
    let x : CoreState = record {
      world = c.self.inside.fabric;
      leases = c.self.inside.pool;
      vcpus = c.self.inside.vcpus.items;
      selects =
          c.self.inside.selects;
      passes = c.self.inside.passes;
    } in
    let y : CoreState = record {
      world = c.reg.new.self;
      leases = c.self.inside.pool;
      vcpus = c.self.inside.vcpus.items;
      selects =
          c.self.inside.selects;
      passes = c.self.inside.passes;
    } in
    let f = name_of c.args.level c.args.hart in
    let there : c.args.hart < x.world.imsic.harts =
    subst (λ (z : CoreState). c.args.hart < z.world.imsic.harts) (sym c.self.view_is) c.requires.there in
    let table = subst (λ (z : CoreState). ◌≡◌ {A = CsrAccess} (File c.in-File.reg)
    (csr_access c.args.level c.args.csr c.args.op (select_in z f) false)) (sym c.self.view_is) c.in-File.ensures.table in
    let reached = file_reached c.args.level c.args.csr c.args.op _ c.in-File.reg
    (of_file c.args.level c.args.csr c.requires.host c.requires.listed) table in
    let read = c.reg.ensures.value ∙ ap (register_value (shown (file_at x.world.imsic c.spot.result))) (sym reached.1) in
    lemmas.accessed x y c.args.level c.requires.host c.args.hart c.args.csr csrs.Reg c.args.op (File c.in-File.reg) c.reg.result there table refl
    reached.0 (subst (λ s. ◌≡◌ c.reg.result (register_value (shown (file_at x.world.imsic s)) (register_of (select_in x f)))) c.spot.ensures read)
    (file_done x y f (Accesses csrs.Reg c.args.op) c.spot.result c.spot.ensures
    (rw (c.spot.ensures) (named_there c.args.level c.requires.host x.world.imsic c.args.hart there)) c.reg.ensures.others refl refl refl refl
    (subst (λ (r : FileReg). SameFile (shown (file_at y.world.imsic c.spot.result))
    (accessed r c.args.op (shown (file_at x.world.imsic c.spot.result)))) (sym reached.1) c.reg.ensures.lands) refl)

top_taken : (c : After-claim_or_read) → CoreTakes
    (record {
      world = c.self.inside.fabric;
      leases = c.self.inside.pool;
      vcpus = c.self.inside.vcpus.items;
      selects = c.self.inside.selects;
      passes = c.self.inside.passes;
    }) (record {
      world = c.claim_or_read.new.fabric;
      leases = c.self.inside.pool;
      vcpus = c.self.inside.vcpus.items;
      selects = c.self.inside.selects;
      passes = c.self.inside.passes;
    }) (csr_line c.args.level c.args.hart c.args.csr c.args.op)
    (Wide c.claim_or_read.result)
top_taken c =
    let x : CoreState = record {
      world = c.self.inside.fabric;
      leases = c.self.inside.pool;
      vcpus = c.self.inside.vcpus.items;
      selects =
          c.self.inside.selects;
      passes = c.self.inside.passes;
    } in
    let y : CoreState = record {
      world = c.claim_or_read.new.fabric;
      leases = c.self.inside.pool;
      vcpus = c.self.inside.vcpus.items;
      selects =
          c.self.inside.selects;
      passes = c.self.inside.passes;
    } in
    let f = name_of c.args.level c.args.hart in
    let there : c.args.hart < x.world.imsic.harts =
    subst (λ (z : CoreState). c.args.hart < z.world.imsic.harts) (sym c.self.view_is) c.requires.there in
    let table = subst (λ (z : CoreState). ◌≡◌ {A = CsrAccess} (Top) (csr_access c.args.level c.args.csr c.args.op (select_in z f) false))
    (sym c.self.view_is) c.in-Top.ensures.table in
    let reached = top_reached c.args.level c.args.csr c.args.op _ (of_file c.args.level c.args.csr c.requires.host c.requires.listed) table in
    lemmas.accessed x y c.args.level c.requires.host c.args.hart c.args.csr csrs.Topei c.args.op (Top) c.claim_or_read.result there table refl
    reached (rw (← c.spot-in-Top.ensures) c.claim_or_read.ensures.value)
    (file_done x y f (Accesses csrs.Topei c.args.op) c.spot-in-Top.result c.spot-in-Top.ensures
    (rw (c.spot-in-Top.ensures) (named_there c.args.level c.requires.host x.world.imsic c.args.hart there)) c.claim_or_read.ensures.others
    refl refl refl refl c.claim_or_read.ensures.done refl)

pub invariant_of-self : goal.invariant_of-self
invariant_of-self c = still _ _ _ _ (select_taken c) c.self.invariant

pub invariant_of-self-in-File : goal.invariant_of-self-in-File
invariant_of-self-in-File c = still _ _ _ _ (file_taken c) c.self.invariant

pub invariant_of-self-in-Top : goal.invariant_of-self-in-Top
invariant_of-self-in-Top c = still _ _ _ _ (top_taken c) c.self.invariant

pub returns-in-Select : goal.returns-in-Select
returns-in-Select c = rw (← c.self.view_is) (select_taken c)

pub returns-in-File : goal.returns-in-File
returns-in-File c = rw (← c.self.view_is) (file_taken c)

pub returns-in-Top : goal.returns-in-Top
returns-in-Top c = rw (← c.self.view_is) (top_taken c)

pub returns-in-Illegal : goal.returns-in-Illegal
returns-in-Illegal c = illegal c.args.self.now c.args.level c.requires.host c.args.hart c.args.csr c.args.op c.requires.there
    c.in-Illegal.ensures.table
