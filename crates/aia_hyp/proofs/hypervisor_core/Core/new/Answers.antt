use Rattle.std.proofs.Common.{◌≡◌, ℕ, ◌≤◌, true, not, ◌&&◌, [], ◌∷◌, None, refl, ap, arith}
use Rattle.std.specs.Bool.{IsTrue}
use Rattle.std.specs.Int.{is_in_range}
use Rattle.std.proofs.lemmas.Bool.{and_from, cond-false}
use Rattle.std.proofs.lemmas.Bool.Decides.{nat_tests}
use Rattle.aia_regs.specs.declared.limits.TheConstants.{HARTS, GUEST_FILES}
use Rattle.aia_file.specs.InterruptFile.{is_greatest_identity}
use Rattle.aia_model.specs.declared.line.Line.TheVariants.{Machine}
use Rattle.aia_model.specs.Event.Event.{Accepted}
use Rattle.aia_model.specs.Refusal.{refusal}
use Rattle.aia_hyp_values.proofs.StandsLemmas.{begun}
use Rattle.aia_hyp.proofs.hypervisor_core.Core.new.Goals as goal

-- a machine of the sizes that `new` takes may be made
made_happens : (harts guests n : ℕ) → 1 ≤ harts → harts ≤ HARTS → guests ≤ GUEST_FILES → IsTrue (is_greatest_identity n)
    → refusal [] (Machine harts guests n 1) ≡ None
made_happens harts guests n some few low width =
    cond-false _ _ _ (ap not (and_from (is_in_range 1 HARTS harts && is_in_range 0 GUEST_FILES guests && is_greatest_identity n) true
    (and_from (is_in_range 1 HARTS harts && is_in_range 0 GUEST_FILES guests) (is_greatest_identity n) (grind (arith, nat_tests)) width) refl))

pub invariant_of-result : goal.invariant_of-result
invariant_of-result c = rw c.new-4.ensures (record {
  past = Accepted (Machine c.args.harts c.args.guests c.args.n 1) ∷ [];
  happens =
      (made_happens c.args.harts c.args.guests c.args.n c.requires.some c.requires.few c.requires.guests c.requires.width, tt);
  stands =
      begun _ c.args.harts c.args.guests c.args.n 1 c.in_ok-fabric.ensures c.in_ok-pool.ensures c.new-3.ensures refl refl;
})

pub returns : goal.returns
returns c = λ sources. rw c.new-4.ensures (begun _ c.args.harts c.args.guests c.args.n sources c.in_ok-fabric.ensures c.in_ok-pool.ensures
    c.new-3.ensures refl refl)
