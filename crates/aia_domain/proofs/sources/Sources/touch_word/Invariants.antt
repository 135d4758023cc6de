use Rattle.std.proofs.Common.{◌≡◌}
use Rattle.aia_domain.specs.InterruptSource.{EachSource, touched}
use Rattle.aia_source.specs.Registers.{touch_where}
use Rattle.aia_domain.proofs.Loops.{in_word_below}
use Rattle.aia_domain.proofs.sources.Sources.touch_word.Given as goal

abbrev pub invariant-loop-place : goal.invariant-loop-place
invariant-loop-place l = record {
  sources : EachSource l.fn.self.sources l.self.sources (λ s. touched l.fn.self.msi (touch_where (in_word_below l.place l.k l.value) l.touch s));
  others : l.self ≡ record l.fn.self { sources = l.self.sources };
}
