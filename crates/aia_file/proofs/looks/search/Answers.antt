use Rattle.std.proofs.Common.{◌*◌, ◌-◌, sym, ap, ◌∙◌, arith}
use Rattle.aia_word.specs.Top.{top_value}
use Rattle.aia_file.proofs.SummaryLemmas.{shared_below, no_members, told}
use Rattle.aia_file.proofs.LookLemmas.{first_is_top, none_below}
use Rattle.aia_file.proofs.TopLemmas.{top_none}
use Rattle.aia_file.proofs.looks.search.Goals as goal

pub pair-pending-requires : goal.pair-pending-requires
pair-pending-requires g c =
    let look = c.summary.ensures in
    let bit = c.in-Some.ensures in
    let shared = sym (told c.summary.result (g.T.Looks.pending c.args.looks.now) (g.T.Looks.enabled c.args.looks.now) look.summary c.in-Some.k
    bit.0) ∙ bit.1 in
    rw look.width (shared_below (g.T.Looks.pending c.args.looks.now) (g.T.Looks.enabled c.args.looks.now) (g.T.Looks.width c.args.looks.now)
    c.in-Some.k look.pending_range shared)

pub first_in_word-requires : goal.first_in_word-requires
first_in_word-requires g c =
    let look = c.summary.ensures in
    let bit = c.in-Some.ensures in
    let shared = sym (told c.summary.result (g.T.Looks.pending c.args.looks.now) (g.T.Looks.enabled c.args.looks.now) look.summary c.in-Some.k
    bit.0) ∙ bit.1 in
    let below = shared_below (g.T.Looks.pending c.args.looks.now) (g.T.Looks.enabled c.args.looks.now) (g.T.Looks.width c.args.looks.now)
    c.in-Some.k look.pending_range shared in
    omega (arith, below, look.few)

pub returns-in-Some-clause-top : goal.returns-in-Some-clause-top
returns-in-Some-clause-top g c =
    let look = c.summary.ensures in
    let bit = c.in-Some.ensures in
    let p = g.T.Looks.pending c.args.looks.now in
    let e = g.T.Looks.enabled c.args.looks.now in
    let shared = sym (told c.summary.result p e look.summary c.in-Some.k bit.0) ∙ bit.1 in
    let words = rw (c.pair-pending.ensures.pending_word, c.pair-pending.ensures.enable_word, look.pending, look.enabled) at
    c.first_in_word.ensures.first in
    c.topei.ensures ∙ ap top_value (words ∙ first_is_top p e (g.T.Looks.width c.args.looks.now) c.in-Some.k c.args.threshold look.pending_range
    shared (none_below c.summary.result p e c.in-Some.k bit.0 look.summary bit.2))

pub returns-in-None-clause-top : goal.returns-in-None-clause-top
returns-in-None-clause-top g c =
    let look = c.summary.ensures in
    let p = g.T.Looks.pending c.args.looks.now in
    let e = g.T.Looks.enabled c.args.looks.now in
    ap top_value (top_none (64 * g.T.Looks.width c.args.looks.now - 1) p e c.args.threshold
    (no_members c.summary.result p e (g.T.Looks.width c.args.looks.now) look.summary c.in-None.ensures look.few look.pending_range))
