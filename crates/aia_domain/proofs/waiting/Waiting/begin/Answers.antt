use Rattle.std.proofs.Common.{◌≡◌, ◌-◌, length, sym, ap, subst, ◌∙◌}
use Rattle.aia_domain.specs.Waiting.{WaitingState, HaveRoom}
use Rattle.aia_domain.proofs.waiting.Waiting.begin.Goals as goal

pub begin_all-requires-clause-room : goal.begin_all-requires-clause-room
begin_all-requires-clause-room c =
    let same : c.deref_mut.result.now ≡ c.args.self.now.fronts = c.deref_mut.ensures.value ∙ ap (λ (k : WaitingState). k.fronts) c.self.view_is in
    subst (HaveRoom (length c.args.sources.now - 1)) (sym same) c.requires.room
