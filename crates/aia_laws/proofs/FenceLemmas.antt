-- A whole move comes to its fence within its steps.
use Rattle.std.proofs.Common.{◌≡◌, ℕ, suc, ◌+◌, true, false, nat_lt, arith}
use Rattle.std.proofs.lemmas.Bool.{eq-eqb, ne_eqb, and_left}
use Rattle.aia_vcpu.specs.Home.{Home, old_end, new_end}
use Rattle.aia_vcpu.specs.Home.Home.{OnWay}
use Rattle.aia_vcpu.specs.Plans.{plan_step, plan_steps}
use Rattle.aia_vcpu.specs.declared.access.Access.TheVariants.{Fence}
use Rattle.aia_vcpu.specs.Aims.{aims_step, is_aiming, further}
use Rattle.aia_vcpu.specs.Routes.{is_at_fence}

-- The fence comes after so many steps more.
abbrev pub FenceIn : ℕ → Home → Type 0
FenceIn count (OnWay way at) = at.steps + count ≡ plan_step (old_end way) (new_end way) 0 Fence
FenceIn count there = ⊥

pub fence_here : (there : Home) → FenceIn 0 there → is_at_fence there ≡ true
fence_here (OnWay way at) e = eq-eqb at.steps (plan_step (old_end way) (new_end way) 0 Fence) (omega (arith, e))
fence_here there e = absurd e

pub fence_later : (count : ℕ) (there : Home) → FenceIn (suc count) there → is_at_fence there ≡ false
fence_later count (OnWay way at) e = ne_eqb at.steps (plan_step (old_end way) (new_end way) 0 Fence) (λ same. absurd (omega (arith, e, same)))
fence_later count there e = absurd e

-- no step before it aims a passed source
aims_later : (passes count : ℕ) (there : Home) → FenceIn (suc count) there → is_aiming passes there ≡ false
aims_later passes count (OnWay way at) e = and_left _ (nat_lt at.aims passes)
    (ne_eqb at.steps (aims_step (OnWay way at)) (λ same. absurd (omega (arith, e, same))))
aims_later passes count there e = absurd e

pub fence_nearer : (passes words count : ℕ) (there : Home) → FenceIn (suc count) there → FenceIn count (further passes words there)
fence_nearer passes words count (OnWay way at) e =
    rw (aims_later passes count (OnWay way at) e) (rw
    (ne_eqb (at.steps + 1) (plan_steps (old_end way) (new_end way) words) (λ last. absurd (omega (arith, e, last)))) (omega (arith, e)))
fence_nearer passes words count there e = absurd e
