use Rattle.std.proofs.Common.{◌≡◌, ◌+◌, ◌<◌, ◌≤◌, length, ap, ◌∙◌, arith, rules}
use Rattle.aia_generate.specs.declared.lines.GeneratedLines.{GeneratedLines}
use Rattle.aia_generate.specs.Lines.{lines_left}
use Rattle.aia_generate.proofs.LineLemmas.{lines_left-none, lines_left-head, lines_left-body}
use Rattle.aia_generate.proofs.lines.GeneratedLinesIterator.next.Goals as goal
use Rattle.aia_generate.proofs.lines.GeneratedLinesIterator.next.Goals.{then-self-ge-HEAD_LINES+in_ok-self, else-self-ge-HEAD_LINES}

pub returns-in_err-self-clause-steps : goal.returns-in_err-self-clause-steps
returns-in_err-self-clause-steps c =
    let past : 31 ≤ c.args.self.now.given = omega arith in
    let none : c.args.self.now.left < 1 = omega (arith, c.in_err-self.ensures) in
    search (rules, lines_left-none c.args.self.now past none)

pub returns-clause-steps : goal.returns-clause-steps
returns-clause-steps c =
    elim c.if-self-ge-HEAD_LINES.branch [
      | then-self-ge-HEAD_LINES+in_ok-self w ↦
          let given : c.if-self-ge-HEAD_LINES.self.given ≡ c.args.self.now.given = ap (λ (s : GeneratedLines). s.given) w.self-is in
          let left : c.if-self-ge-HEAD_LINES.self.left ≡ w.in_ok-self.field-0 = ap (λ (s : GeneratedLines). s.left) w.self-is in
          lines_left-body c.args.self.now c.generate.result _ (omega arith) (omega arith) (omega (arith, w.in_ok-self.ensures))
          (ap (λ (s : GeneratedLines). s.number) w.self-is ∙ w.lcg-self.ensures) c.generate.ensures.line
      | else-self-ge-HEAD_LINES w ↦
          let given : c.if-self-ge-HEAD_LINES.self.given ≡ c.args.self.now.given = ap (λ (s : GeneratedLines). s.given) w.self-is in
          lines_left-head c.args.self.now c.generate.result _ (omega arith) (omega arith) (ap (λ (s : GeneratedLines). s.left) w.self-is)
          (ap (λ (s : GeneratedLines). s.number) w.self-is) c.generate.ensures.line
    ]

pub returns-clause-goes : goal.returns-clause-goes
returns-clause-goes c =
    let fewer : length (lines_left c.args.self.now) ≡ length
    (lines_left (record {
      given = c.saturating_add-self.result;
      left = c.if-self-ge-HEAD_LINES.self.left;
      number =
          c.if-self-ge-HEAD_LINES.self.number;
    })) + 1 = omega (arith, ap length (returns-clause-steps c)) in
    search rules
