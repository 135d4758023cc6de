-- What the number of an ending says.
use Rattle.std.proofs.Common.{◌≡◌, ◌⊎◌, ℕ, nat_eq, if◌then◌else◌, List, Option, Some, None, inl, inr, refl, sym, ap, ◌∙◌}
use Rattle.aia_io.specs.Ends.{Supply}
use Rattle.plans_text.specs.declared.outcome.FileOutcome.{FileOutcome}
use Rattle.plans_text.specs.declared.outcome.FileOutcome.TheVariants.{Accepted, BadLine, NoPlan, Refused}
use Rattle.plans_text.specs.declared.command_line.PlansSubcommand.{PlansSubcommand}
use Rattle.plans_text.specs.declared.command_line.PlansSubcommand.TheVariants.{Judge}
use Rattle.plans_text.specs.declared.program.PlansStatus.{PlansStatus}
use Rattle.plans_text.specs.declared.program.PlansStatus.TheVariants.{Done, Usage, ReadFault, WriteFault, Memory, TooLong}
use Rattle.plans_text.specs.Command.{exit_number, outcome_number}
use Rattle.plans_text.specs.Runs.{EndsAsAsked, JudgesAll}

-- the outcome that a number is of, and that an ending has
abbrev of_number : ℕ → Option FileOutcome
of_number number =
    if nat_eq number 0 then Some Accepted else if nat_eq number 1 then Some Refused else if nat_eq number 7 then Some BadLine else if nat_eq
    number 8 then Some NoPlan else None

abbrev of_status : PlansStatus → Option FileOutcome
of_status (Done outcome) = Some outcome
of_status status = None

outcome_numbered : (outcome : FileOutcome) → of_number (outcome_number outcome) ≡ Some outcome
outcome_numbered Accepted = refl
outcome_numbered Refused = refl
outcome_numbered BadLine = refl
outcome_numbered NoPlan = refl

status_numbered : (status : PlansStatus) → of_number (exit_number status) ≡ of_status status
status_numbered (Done outcome) = outcome_numbered outcome
status_numbered Usage = refl
status_numbered ReadFault = refl
status_numbered WriteFault = refl
status_numbered Memory = refl
status_numbered TooLong = refl

-- no other ending has the number of an outcome
numbered : (status : PlansStatus) (outcome : FileOutcome) → exit_number status ≡ outcome_number outcome → of_status status ≡ Some outcome
numbered status outcome is = sym (status_numbered status) ∙ ap of_number is ∙ outcome_numbered outcome

done : (status : PlansStatus) (outcome : FileOutcome) → of_status status ≡ Some outcome → status ≡ Done outcome
done (Done came) outcome is = cc
done Usage outcome is = absurd (cc)
done ReadFault outcome is = absurd (cc)
done WriteFault outcome is = absurd (cc)
done Memory outcome is = absurd (cc)
done TooLong outcome is = absurd (cc)

unasked : (status : PlansStatus) (outcome : FileOutcome) → (status ≡ Usage) ⊎ (status ≡ Memory) → status ≡ Done outcome → ⊥
unasked status outcome (inl usage) is = cc
unasked status outcome (inr memory) is = cc

-- where a run of `judge` is done, it judged the whole file
pub judged_by_number : (asked : Option PlansSubcommand) (status : PlansStatus) (outcome : FileOutcome) (left rest : Supply)
    (before now : Option (List ℕ)) (a b c d : ℕ) → EndsAsAsked asked status left rest before now a b c d
    → exit_number status ≡ outcome_number outcome → JudgesAll outcome left rest before now
judged_by_number None status outcome left rest before now a b c d ends is =
    absurd (unasked status outcome ends.ends (done status outcome (numbered status outcome is)))
judged_by_number (Some Judge) status outcome left rest before now a b c d (inl judged) is =
    judged.done outcome (done status outcome (numbered status outcome is))
judged_by_number (Some Judge) status outcome left rest before now a b c d (inr ends) is =
    absurd (unasked status outcome ends.ends (done status outcome (numbered status outcome is)))
