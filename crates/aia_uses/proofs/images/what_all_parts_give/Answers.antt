use Rattle.std.proofs.Common.{[], ◌∷◌}
use Rattle.aia_uses.proofs.ImageFacts.{has_four}
use Rattle.aia_uses.proofs.images.what_all_parts_give.Goals as goal

pub returns : goal.returns
returns c = λ x greatest select pending enabled threshold delivery injected major hviprio hvictl is.
    c.all_parts_give_the_state.ensures x (3 ∷ 2 ∷ 1 ∷ 0 ∷ [])
    (record {
      greatest = greatest;
      select = select;
      pending = pending;
      enabled = enabled;
      threshold = threshold;
      delivery = delivery;
      injected_majors = injected;
      enabled_majors = major;
      hviprio1 = hviprio;
      hvictl = hvictl;
    }) (has_four x is)
