use Rattle.std.proofs.Common.{◌≡◌, ◌+◌, ◌∷◌, ◌++◌, take, Some, refl, sym, ap, ◌∙◌}
use Rattle.std.specs.Prelude.{position}
use Rattle.aia_io.proofs.CutLemmas.{is_end, cut_at_end, no_end_before, no_end_at_all}
use Rattle.aia_io.proofs.PieceLemmas.{all_of_rest}
use Rattle.aia_replay.proofs.PlanLemmas.{plan_fed_nothing, plan_fed_line, plan_fed_rest}
use Rattle.aia_replay.proofs.plan_reader.PlanReader.feed.Goals as goal

pub loop-end-init : goal.loop-end-init
loop-end-init c = record { fed = plan_fed_nothing c.args.self.now c.args.piece.now; inside = c.requires }

pub loop-end-preserved : goal.loop-end-preserved
loop-end-preserved c =
    let rest = c.loop-end.rest.now in
    let end = c.in-Some.end in
    let at : position is_end rest ≡ Some end = sym c.in-Some.ensures in
    record {
      fed = plan_fed_line c.args.self.now c.loop-end.self c.read_line.new.self c.args.piece.now rest (take end rest) _ c.loop-end.invariant.fed
          (cut_at_end rest end at ∙ ap (λ xs. take end rest ++ (10 ∷ xs)) (sym (all_of_rest rest (end + 1)))) (no_end_before rest end at)
          (record { read = c.read_line.ensures.read; empty = c.read_line.ensures.empty; words = c.read_line.ensures.words });
      inside = c.read_line.ensures.inside;
    }

pub returns-clause-feeds : goal.returns-clause-feeds
returns-clause-feeds c =
    plan_fed_rest c.args.self.now c.loop-end.self _ c.args.piece.now c.loop-end.rest.now c.loop-end.invariant.fed
    (no_end_at_all c.loop-end.rest.now (sym c.in_default.ensures)) c.keep.ensures refl
