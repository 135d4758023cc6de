use Rattle.std.proofs.Common.{sym, ap, ◌∙◌, subst}
use Rattle.aia_vcpu.specs.Home.{Progress, end_at}
use Rattle.aia_move_values.specs.Move.{Moving, width}
use Rattle.aia_move_values.specs.Accesses.{WordFits, Executes}
use Rattle.aia_move.proofs.AccessLemmas.{word_fits, at_is_next}
use Rattle.aia_move.proofs.moves.Move.access.Goals as goal

pub make-requires-clause-word : goal.make-requires-clause-word
make-requires-clause-word g c =
    let l = c.self.inside in
    let w = c.args.fabric.now in
    let s = c.args.self.now in
    let way = g.D.Direction.way l.direction in
    let access = c.access_at-access.result in
    let at : Progress = record { steps = l.done; aims = l.aims } in
    let here = ap (λ (x : Moving). x.home) c.self.view_is in
    let next = at_is_next way at s.home c.end_of.result c.end_of-2.result c.words-words.result (width w) here
    (c.end_of.ensures ∙ ap end_at c.old_file-old.ensures) (c.end_of-2.ensures ∙ ap end_at c.new_file-new.ensures) c.words-words.ensures.value
    access c.access_at-access.ensures in
    subst (λ (x : Moving). WordFits access (width w) x.hand.word) (sym c.self.view_is) (word_fits w s access c.requires.fits next)

pub returns : goal.returns
returns g c =
    let l = c.self.inside in
    let w = c.args.fabric.now in
    let s = c.args.self.now in
    let way = g.D.Direction.way l.direction in
    let access = c.access_at-access.result in
    let at : Progress = record { steps = l.done; aims = l.aims } in
    let here = ap (λ (x : Moving). x.home) c.self.view_is in
    record {
      access = access;
      is_next = at_is_next way at s.home c.end_of.result c.end_of-2.result c.words-words.result (width w) here
          (c.end_of.ensures ∙ ap end_at c.old_file-old.ensures) (c.end_of-2.ensures ∙ ap end_at c.new_file-new.ensures)
          c.words-words.ensures.value access c.access_at-access.ensures;
      executes = subst (λ (x : Moving). Executes access x w c.make.new.fabric c.make.new.self) c.self.view_is
          (c.make.ensures way at (sym c.old_file-old.ensures) (sym c.new_file-new.ensures));
      same_home = here;
      same_who = ap (λ (x : Moving). x.who) c.self.view_is;
    }
