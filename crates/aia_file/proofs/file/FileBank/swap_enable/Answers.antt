use Rattle.aia_file.proofs.KeptLemmas.{enabled_elsewhere}
use Rattle.aia_file.proofs.BankLemmas.{elsewhere_stays}
use Rattle.std.proofs.Common.{◌<◌, length, ap, ◌∙◌, arith}
use Rattle.aia_word.specs.Sets.{is_in}
use Rattle.aia_file.specs.FileState.{FileState}
use Rattle.aia_file.proofs.file.FileBank.swap_enable.Goals as goal

pub refreshed-self-inside-requires-clause-others : goal.refreshed-self-inside-requires-clause-others
refreshed-self-inside-requires-clause-others c =
    let inside : c.args.k < length c.deref_mut.result.now =
    omega (
      arith,
      c.requires.word,
      ap (λ (s : FileState). s.n) c.self.view_is,
      ap length c.deref_mut.ensures.value,
      c.self.invariant.enabled_words,
    ) in
    enabled_elsewhere c.self.inside c.args.k c.deref_mut.result.now c.swap_word-stood.new.words c.deref.result.now c.deref-2.result.now
    c.self.invariant c.deref_mut.ensures.value c.deref_mut.ensures.len c.swap_word-stood.auto.words c.deref-2.ensures.value c.deref.ensures.value
    (λ i ne. ap (λ w. is_in w i) c.swap_word-stood.ensures.after ∙ elsewhere_stays c.deref_mut.result.now c.args.k _ i inside ne)
