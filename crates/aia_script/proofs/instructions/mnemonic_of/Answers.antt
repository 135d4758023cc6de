use Rattle.std.proofs.Common.{sym, ◌∙◌}
use Rattle.aia_script.proofs.FormLemmas.{other_mnemonics}
use Rattle.aia_script.proofs.instructions.mnemonic_of.Goals as goal

pub returns-then-not-starts_with-clause-none : goal.returns-then-not-starts_with-clause-none
returns-then-not-starts_with-clause-none c = other_mnemonics c.args.text.now (sym c.starts_with.ensures.value ∙ c.if-not-starts_with.true)
