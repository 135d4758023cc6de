use Rattle.std.proofs.Common.{◌≡◌, ◌+◌, ◌-◌, ◌*◌, [], ◌∷◌, ◌++◌}
use Rattle.arrayvec.specs.ArrayVec.{array_vec_len}
use Rattle.aia_plan.specs.Plan.{each_word}
use Rattle.aia_plan.specs.declared.step.Step.TheVariants.{TakeP, PutP}
use Rattle.aia_audit.proofs.plans.push_pending.Given as goal

abbrev pub invariant-loop-word : goal.invariant-loop-word
invariant-loop-word l = record {
  plan : l.out.items ++ each_word (λ w. TakeP w ∷ PutP w ∷ []) l.word (l.words - l.word) ≡ l.fn.out.items ++ each_word
      (λ w. TakeP w ∷ PutP w ∷ []) 0 l.words;
  room : array_vec_len l.out ≡ array_vec_len l.fn.out + 2 * l.word;
}
