-- The phases that all plans share: where they begin and end.
use Rattle.std.proofs.Common.{◌≡◌, ℕ, ◌+◌, ◌*◌, ◌≤◌, true, false, refl, arith}
use Rattle.std.proofs.lemmas.Bool.{ne_eqb}
use Rattle.aia_vcpu.specs.Home.{Home, old_end, new_end, is_moving, one_more}
use Rattle.aia_vcpu.specs.Home.Home.{OnWay}
use Rattle.aia_vcpu.specs.Plans.{step_of, steps_done, first_take}
use Rattle.aia_vcpu.specs.declared.access.Access.TheVariants.{TakeEnables}
use Rattle.aia_vcpu.specs.Phases.{Phase, following, begins}
use Rattle.aia_vcpu.specs.Phases.Phase.{FirstPhase, ClosingPhase, DrainPhase, EnablePhase}
use Rattle.aia_vcpu.specs.Routes.{is_at_fence}
use Rattle.aia_vcpu.proofs.PhaseLemmas.{looks_begin}

-- ---- where they begin and end

-- how far from its beginning each of them ends, and that the next begins no earlier; two begin with the first
-- take of a set
pub record Middle (words : ℕ) (there : Home) : Type 0 where
  pub closes : begins words there (following ClosingPhase) ≡ begins words there ClosingPhase + 2
  pub drain : begins words there (following ClosingPhase) ≤ begins words there DrainPhase
  pub drains : begins words there (following DrainPhase) ≡ begins words there DrainPhase + 2 * words
  pub enable : begins words there (following DrainPhase) ≤ begins words there EnablePhase
  pub ends : begins words there (following EnablePhase) ≡ begins words there EnablePhase + 2 * words
  pub take : first_take there ≡ begins words there DrainPhase
  pub take_enables : step_of words there (TakeEnables 0) ≡ begins words there EnablePhase

pub middle : (words : ℕ) (there : Home) → is_moving there ≡ true → Middle words there
middle words (OnWay way at) moves =
    let looks = looks_begin (old_end way) (new_end way) words in
    record {
      closes = omega arith;
      drain = omega arith;
      drains = omega arith;
      enable = omega arith;
      ends = omega (arith, looks);
      take = refl;
      take_enables = refl;
    }
middle words there moves = absurd (cc)

-- a step changes no beginning
pub begins_on : (words : ℕ) (there : Home) (phase : Phase) → begins words (one_more there) phase ≡ begins words there phase
begins_on words (OnWay way at) phase = refl
begins_on words there phase = refl

-- past the first phase a move is past its fence
pub past_fence : (words : ℕ) (there : Home) → begins words there (following FirstPhase) ≤ steps_done there → is_at_fence there ≡ false
past_fence words (OnWay way at) past = ne_eqb _ _ (λ e. omega (arith, e, past))
past_fence words there past = refl
