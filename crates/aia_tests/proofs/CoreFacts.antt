-- What may be asked of a core that stands for some history.
use Rattle.std.proofs.Common.{◌≡◌, ℕ, Bool, true, false, cond, nat_lt, None, refl, sym, ap, ◌∙◌}
use Rattle.std.specs.Prelude.{Result, Ok, Err, is_ok}
use Rattle.aia_model.specs.Event.{History, harts_of}
use Rattle.aia_model.specs.Event.Event.{Delivered}
use Rattle.aia_model.specs.declared.refusal.Refusal.{Refusal}
use Rattle.aia_model.specs.declared.refusal.Refusal.TheVariants.{Range}
use Rattle.aia_hyp_values.specs.Core.{CoreState}
use Rattle.aia_hyp_values.specs.Stands.{CoreStands, StandsForSome, MayGo, signals_of}

-- an MSI that is of no source may be delivered
pub may_hear : (x : CoreState) (address value : ℕ) → StandsForSome x
    → MayGo x (Delivered (record { address = address; value = value; source = None }))
may_hear x address value some = record { past = some.past; happens = some.happens; stands = some.stands; may = (some.stands.there, tt) }

-- a hart is there where it has signals
pub hart_there : (x : CoreState) (hart : ℕ) (r : Result (Bool × Bool) Refusal) → StandsForSome x
    → ((h : History) → CoreStands x h → r ≡ signals_of h hart) → is_ok r ≡ nat_lt hart x.world.imsic.harts
hart_there x hart r some is = ap is_ok (is some.past some.stands) ∙ by (nat_lt hart (harts_of some.past)) _ ∙ ap (nat_lt hart) (sym some.stands.harts)
  where
    by : (b : Bool) (s : Bool × Bool) → is_ok (cond b (Ok s) (Err Range)) ≡ b
    by true s = refl
    by false s = refl
