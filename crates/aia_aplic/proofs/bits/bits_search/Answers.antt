use Rattle.std.proofs.Common.{◌*◌, ap, subst, ◌∙◌, arith}
use Rattle.aia_word.specs.Sets.{word_of}
use Rattle.aia_model.specs.declared.domain_name.DomainName.TheVariants.{Root, Child}
use Rattle.aia_aplic_values.specs.Bits.{AreSources}
use Rattle.aia_aplic_values.proofs.BitsLemmas.{one_word_more, word_found}
use Rattle.aia_aplic.proofs.bits.bits_search.Goals as goal

pub returns-in-Some-clause-first : goal.returns-in-Some-clause-first
returns-in-Some-clause-first g c =
    let look = c.both_words-first.ensures in
    let members = c.loop-k.invariant.2 in
    let k = c.loop-k.k in
    word_found _ _ k _ _ c.in-Some.name c.in-Some.bit c.loop-k.invariant.0
    (look.first ∙ ap (λ m. word_of (m Root) (64 * k) 64) members) (look.second ∙ ap (λ m. word_of (m Child) (64 * k) 64) members)
    c.in-Some.ensures.small c.in-Some.ensures.first

pub loop-k-preserved : goal.loop-k-preserved
loop-k-preserved g c =
    let look = c.both_words-first.ensures in
    let members = c.loop-k.invariant.2 in
    let k = c.loop-k.k in (
      one_word_more (g.T.Bits.members c.args.bits.now Root) (g.T.Bits.members c.args.bits.now Child) k _ _ c.loop-k.invariant.0
          (subst (λ m. AreSources (m Root)) members look.first_range) (subst (λ m. AreSources (m Child)) members look.second_range)
          (look.first ∙ ap (λ m. word_of (m Root) (64 * k) 64) members) (look.second ∙ ap (λ m. word_of (m Child) (64 * k) 64) members)
          c.in_default.ensures.first,
      g.met.T.Bits.same_place_follows _ _ _ c.loop-k.invariant.1 look.same_place,
      look.members ∙ members,
      omega (arith, look.count, c.loop-k.invariant.3),
    )
