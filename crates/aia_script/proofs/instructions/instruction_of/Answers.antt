use Rattle.std.proofs.Common.{◌≡◌, None, sym, ◌∙◌, rules}
use Rattle.aia_regs.specs.declared.access.Csr.{Csr}
use Rattle.aia_regs.specs.declared.access.Op.{Op}
use Rattle.aia_model.specs.Text.{◌>>=◌}
use Rattle.aia_model.specs.Reading.{csr_at, whole}
use Rattle.aia_script.specs.Cursor.{first_word, after_first}
use Rattle.aia_script.specs.Mnemonics.{operation_at}
use Rattle.aia_script.proofs.FormLemmas.{by_mnemonic, no_instruction}
use Rattle.aia_script.proofs.instructions.instruction_of.Goals as goal

pub returns-in_err-mnemonic : goal.returns-in_err-mnemonic
returns-in_err-mnemonic c =
    let nothing : c.from_residual.result ≡ None = search rules in
    nothing ∙ sym (no_instruction c.args.level (first_word c.args.text.now) (after_first c.args.text.now) c.in_err-mnemonic.ensures.none)

pub returns-in_err-op : goal.returns-in_err-op
returns-in_err-op c =
    let after = after_first c.args.text.now in
    let m = c.in_ok-mnemonic.mnemonic in
    let step : c.from_residual-in_err-op.result ≡ (csr_at c.args.level after >>= λ a. operation_at m a.1 >>= λ d. whole {A = Csr × Op} d.1
    (a.0, d.0)) = search rules in
    step ∙ sym (by_mnemonic c.args.level m (first_word c.args.text.now) after c.in_ok-mnemonic.ensures.name)

pub returns : goal.returns
returns c =
    let after = after_first c.args.text.now in
    let m = c.in_ok-mnemonic.mnemonic in
    let step : c.at_end.result ≡ (csr_at c.args.level after >>= λ a. operation_at m a.1 >>= λ d. whole {A = Csr × Op} d.1 (a.0, d.0)) =
    search rules in
    step ∙ sym (by_mnemonic c.args.level m (first_word c.args.text.now) after c.in_ok-mnemonic.ensures.name)
