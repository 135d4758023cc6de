use Rattle.std.proofs.Common.{◌≡◌, sym, ap, subst, ◌∙◌, Option, unwrap_or}
use Rattle.aia_model.specs.declared.line.Line.{Line}
use Rattle.aia_model.specs.Forms.{IsListed}
use Rattle.aia_generate.specs.Generated.{line_at, line_drawn}
use Rattle.aia_generate.proofs.LineLemmas.{line_at-place, line_at-listed}
use Rattle.aia_generate.proofs.lines.generate.Goals as goal

pub returns-in-Some-clause-line : goal.returns-in-Some-clause-line
returns-in-Some-clause-line c =
    ap (λ (o : Option Line). unwrap_or o (line_drawn c.args.x)) c.in-Some.ensures
    ∙ sym (line_at-place c.args.x c.args.k c.requires)

pub returns-in-Some-clause-listed : goal.returns-in-Some-clause-listed
returns-in-Some-clause-listed c =
    let at : line_at c.args.x c.args.k ≡ c.in-Some.line = line_at-place c.args.x c.args.k c.requires
    ∙ ap (λ (o : Option Line). unwrap_or o (line_drawn c.args.x)) (sym c.in-Some.ensures) in
    subst IsListed at (line_at-listed c.args.x c.args.k)

pub returns-in-None-clause-line : goal.returns-in-None-clause-line
returns-in-None-clause-line c =
    c.line_drawn.ensures
    ∙ ap (λ (o : Option Line). unwrap_or o (line_drawn c.args.x)) c.in-None.ensures
    ∙ sym (line_at-place c.args.x c.args.k c.requires)
