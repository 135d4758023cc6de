use Rattle.std.proofs.Common.{arith, refl, sym, ap, ◌∙◌, ◌+◌, length, length-drop}
use Rattle.aia_io.proofs.CutLemmas.{end_within}
use Rattle.aia_io.proofs.PieceLemmas.{all_of_rest}
use Rattle.plans_text.proofs.StreamLemmas.{fed_nothing, fed_line, fed_last, kept_on}
use Rattle.plans_text.proofs.plan_reader.PlanFileReader.feed.Goals as goal

pub loop-end-init : goal.loop-end-init
loop-end-init c = record { fed = fed_nothing _ _; inside = c.requires.ready; few = omega arith }

pub loop-end-preserved : goal.loop-end-preserved
loop-end-preserved c =
    let within = end_within c.loop-end.left.now c.in-Some.end (sym c.in-Some.ensures) in
    let left = ap length (all_of_rest c.loop-end.left.now (c.in-Some.end + 1)) ∙ length-drop (c.in-Some.end + 1) c.loop-end.left.now in
    record {
      fed = fed_line _ _ _ _ c.loop-end.left.now _ c.in-Some.end c.loop-end.invariant.fed c.in-Some.ensures
          (all_of_rest c.loop-end.left.now (c.in-Some.end + 1)) c.in_ok-read_line.ensures.read;
      inside = c.in_ok-read_line.ensures.inside;
      few = omega (arith, within, left, c.in_ok-read_line.ensures.lines, c.loop-end.invariant.few);
    }

pub returns : goal.returns
returns c = kept_on _ c.extend_from_slice.result c.loop-end.self.rest.items c.extend_from_slice.new.self.items c.loop-end.left.now
    c.extend_from_slice.ensures.items (λ rest. fed_last _ _ _ _ c.loop-end.left.now c.loop-end.invariant.fed c.in_default.ensures refl rest)
