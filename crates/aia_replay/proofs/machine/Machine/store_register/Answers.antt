use Rattle.std.proofs.Common.{◌≡◌, true, false, Some, refl, sym, ap, ◌∙◌}
use Rattle.aia_regs.specs.declared.domain_registers.DomainReg.{DomainReg}
use Rattle.aia_model.specs.Event.{History}
use Rattle.aia_model.specs.Passable.{redirects, redirects_by}
use Rattle.aia_replay.specs.Stands.{MachineStands}
use Rattle.aia_replay.proofs.MachineLemmas.{store_misaligned, register_guarded, register_stored, redirected, none_redirected, some_passed}
use Rattle.aia_replay.proofs.machine.Machine.store_register.Goals.{else-passes-gt0-via-then-passes-gt0+else-redirects, else-passes-gt0-via-else-passes-gt0}
use Rattle.aia_replay.proofs.machine.Machine.store_register.Goals as goal

pub returns-then-addr-ne0 : goal.returns-then-addr-ne0
returns-then-addr-ne0 c = store_misaligned c.args.self.now c.args.addr c.args.value c.if-addr-ne0.true

pub returns-then-redirects : goal.returns-then-redirects
returns-then-redirects c = register_guarded c.args.self.now c.args.addr c.args.value c.args.name c.if-addr-ne0.false c.requires.named (λ h stands.
    let all = c.passes.ensures.value h stands.holds.core in
    redirected h c.args.addr c.args.value c.passes.result (Some c.args.name) true c.requires.named all c.if-passes-gt0.true
    (sym c.if-redirects.true ∙ c.redirects.ensures h stands (some_passed h c.passes.result all c.if-passes-gt0.true)
    ∙ ap (λ (r : DomainReg). redirects_by h (Some c.args.name) r c.args.value) c.domain_reg.ensures))

pub returns : goal.returns
returns c = register_stored c.args.self.now _ c.args.addr c.args.value c.args.name c.if-addr-ne0.false c.requires.named refl free c.store.ensures
  where
    free : (h : History) → MachineStands c.args.self.now h → redirects h c.args.addr c.args.value ≡ false
    free h stands = elim c.else-passes-gt0.branch [
      | else-passes-gt0-via-then-passes-gt0+else-redirects w ↦
          let all = c.passes.ensures.value h stands.holds.core in
          redirected h c.args.addr c.args.value c.passes.result (Some c.args.name) false c.requires.named all w.if-passes-gt0.true
          (sym w.if-redirects.false ∙ w.redirects.ensures h stands (some_passed h c.passes.result all w.if-passes-gt0.true)
          ∙ ap (λ (r : DomainReg). redirects_by h (Some c.args.name) r c.args.value) w.domain_reg.ensures)
      | else-passes-gt0-via-else-passes-gt0 w ↦ none_redirected h c.args.addr c.args.value c.passes.result
          (c.passes.ensures.value h stands.holds.core) w.if-passes-gt0.false
    ]
