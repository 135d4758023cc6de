use Rattle.std.proofs.Common.{Bool, cond, nat_eq, is_some, sym, ap, subst, ◌∙◌, arith}
use Rattle.aia_word.specs.Sets.{is_in}
use Rattle.aia_domain.specs.InterruptSource.{changed_by, EachAt}
use Rattle.aia_domain.specs.Waiting.{IsWhatWaits, HasRoom, aim_at, renewed}
use Rattle.aia_domain.proofs.EachLemmas.{each-length}
use Rattle.aia_domain.proofs.WaitingLemmas.{keeps_same, keeps_told, keeps_renewed, renewed_room, keeps_no_source}
use Rattle.aia_domain.proofs.sources.change_with_waiting.Goals as goal

pub returns-then-is_same-clause-keeps : goal.returns-then-is_same-clause-keeps
returns-then-is_same-clause-keeps c =
    keeps_same c.args.msi c.args.sources.now c.change_one.new.sources c.args.waiting.now c.args.s
    (changed_by c.args.change c.args.leaf c.args.harts c.args.msi) c.change_one.ensures
    (sym c.aim_at-stood.ensures ∙ c.is_same.ensures c.if-is_same.true ∙ c.aim_at-stands.ensures) c.requires.keeps

pub renew-requires : goal.renew-requires
renew-requires c = record {
  room = subst (λ o. HasRoom c.args.s o c.aim_at-stands.result c.args.waiting.now.fronts) (sym c.aim_at-stood.ensures)
      (subst (λ o. HasRoom c.args.s (aim_at c.args.sources.now c.args.s) o c.args.waiting.now.fronts) (sym c.aim_at-stands.ensures)
      (renewed_room c.args.sources.now c.change_one.new.sources c.args.waiting.now c.args.s
      (changed_by c.args.change c.args.leaf c.args.harts c.args.msi) c.if-s-gt0.true (omega (arith, c.if-s-sources.false))
      c.change_one.ensures (subst (λ (m : Bool). IsWhatWaits m c.args.sources.now c.args.waiting.now) c.if-msi.false c.requires.keeps)));
}

pub returns-then-msi-clause-keeps : goal.returns-then-msi-clause-keeps
returns-then-msi-clause-keeps c =
    subst (λ (m : Bool). IsWhatWaits m c.change_one.new.sources c.tell.new.self) (sym c.if-msi.true)
    (keeps_told c.args.sources.now c.change_one.new.sources c.args.waiting.now c.tell.new.self c.args.s
    (changed_by c.args.change c.args.leaf c.args.harts c.args.msi) c.change_one.ensures c.tell.ensures.fronts
    (λ t. c.tell.ensures.ready t ∙ ap (λ w. cond (nat_eq c.args.s t) w (is_in c.args.waiting.now.ready t))
    (c.is_some.ensures ∙ ap is_some c.aim_at-stands.ensures))
    (subst (λ (m : Bool). IsWhatWaits m c.args.sources.now c.args.waiting.now) c.if-msi.true c.requires.keeps))

pub returns-then-s-gt0-clause-keeps : goal.returns-then-s-gt0-clause-keeps
returns-then-s-gt0-clause-keeps c =
    subst (λ (m : Bool). IsWhatWaits m c.change_one.new.sources c.renew.new.self) (sym c.if-msi.false)
    (keeps_renewed c.args.sources.now c.change_one.new.sources c.args.waiting.now c.renew.new.self c.args.s
    (changed_by c.args.change c.args.leaf c.args.harts c.args.msi) c.if-s-gt0.true (omega (arith, c.if-s-sources.false)) c.change_one.ensures
    (subst (λ o. EachAt c.args.waiting.now.fronts c.renew.new.self.fronts (renewed c.args.s o (aim_at c.change_one.new.sources c.args.s)))
    c.aim_at-stood.ensures (subst (λ o. EachAt c.args.waiting.now.fronts c.renew.new.self.fronts (renewed c.args.s c.aim_at-stood.result o))
    c.aim_at-stands.ensures c.renew.ensures.fronts))
    c.renew.ensures.ready (subst (λ (m : Bool). IsWhatWaits m c.args.sources.now c.args.waiting.now) c.if-msi.false c.requires.keeps))

pub returns-then-s-gt0-clause-lists : goal.returns-then-s-gt0-clause-lists
returns-then-s-gt0-clause-lists c = each-length c.args.waiting.now.fronts c.renew.new.self.fronts
    (renewed c.args.s c.aim_at-stood.result c.aim_at-stands.result) c.renew.ensures.fronts

pub returns-else-s-gt0-clause-keeps : goal.returns-else-s-gt0-clause-keeps
returns-else-s-gt0-clause-keeps c =
    subst (λ (m : Bool). IsWhatWaits m c.change_one.new.sources c.args.waiting.now) (sym c.if-msi.false)
    (keeps_no_source c.args.sources.now c.change_one.new.sources c.args.waiting.now c.args.s
    (changed_by c.args.change c.args.leaf c.args.harts c.args.msi) (omega (arith, c.if-s-gt0.false)) c.change_one.ensures
    (subst (λ (m : Bool). IsWhatWaits m c.args.sources.now c.args.waiting.now) c.if-msi.false c.requires.keeps))
