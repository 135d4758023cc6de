use Rattle.std.proofs.Common.{◌≡◌, ℕ, false, rules, arith}
use Rattle.std.proofs.lemmas.Grind.{common_steps}
use Rattle.aia_word.specs.Sets.{is_in}
use Rattle.aia_file.proofs.SummaryLemmas.{empty_summary}
use Rattle.aia_file.proofs.file.File.new.Goals as goal

pub invariant_of-result : goal.invariant_of-result
invariant_of-result c =
    let none : (i : ℕ) → is_in c.in_ok-pending.pending.items i ≡ false = grind (arith, common_steps) in
    record {
      pending_words = search rules;
      enabled_words = search rules;
      no_pending_zero = none 0;
      no_enabled_zero = grind (arith, common_steps);
      few = search rules;
      summary = empty_summary (is_in c.in_ok-pending.pending.items) (is_in c.in_ok-enabled.enabled.items) none;
    }
