-- Parts of images, and what entries say, as a kind and numbers. Profile.
use Rattle.std.specs.Prelude.{ℕ, ◌^◌, nat_eq, nat_lt, ◌&&◌, if◌then◌else◌, List, [], ◌∷◌, Option, Some, None}
use Rattle.aia_model.specs.declared.answer.Answer.{Answer}
use Rattle.aia_model.specs.declared.answer.Answer.TheVariants as answers
use Rattle.aia_model.specs.declared.part.Part.{Part}
use Rattle.aia_model.specs.declared.part.Part.TheVariants as parts
use Rattle.aia_entry.specs.declared.entry.Entry.{Entry}
use Rattle.aia_entry.specs.declared.entry.Entry.TheVariants as entries
use Rattle.aia_model.specs.declared.line.Line.{Line}
use Rattle.aia_model.specs.declared.line.Line.TheVariants.{LoadPart}
use Rattle.aia_c.specs.Codes.{bit_at}

-- A part of an image as numbers: its kind, and what its line has after that word, filled with 0 to
-- five.
abbrev pub part_numbers : Part → List ℕ
part_numbers (parts.Image version n delivery threshold select) =
    1 ∷ version ∷ n ∷ bit_at 1 delivery ∷ threshold ∷ select ∷ []
part_numbers (parts.Majors injected enabled) = 2 ∷ injected ∷ enabled ∷ 0 ∷ 0 ∷ 0 ∷ []
part_numbers (parts.Prio hviprio hvictl) = 3 ∷ hviprio ∷ hvictl ∷ 0 ∷ 0 ∷ 0 ∷ []
part_numbers (parts.Word w pending enable) = 4 ∷ w ∷ pending ∷ enable ∷ 0 ∷ 0 ∷ []

-- What an entry says as numbers: its kind, and what is printed after that word, filled with 0 to
-- three.
abbrev pub entry_numbers : Entry → List ℕ
entry_numbers (entries.Basic page) = 1 ∷ page ∷ 0 ∷ 0 ∷ []
entry_numbers (entries.Mrif addr page identity) = 2 ∷ addr ∷ page ∷ identity ∷ []
entry_numbers entries.NotValid = 3 ∷ 0 ∷ 0 ∷ 0 ∷ []
entry_numbers entries.Custom = 4 ∷ 0 ∷ 0 ∷ 0 ∷ []
entry_numbers entries.Misconfigured = 5 ∷ 0 ∷ 0 ∷ 0 ∷ []

-- What an answer says as such numbers; all are 0 where there is no part, or no entry.
abbrev pub part_of : Answer → List ℕ
part_of (answers.Part part) = part_numbers part
part_of answer = 0 ∷ 0 ∷ 0 ∷ 0 ∷ 0 ∷ 0 ∷ []

abbrev pub entry_of : Answer → List ℕ
entry_of (answers.Entry entry) = entry_numbers entry
entry_of answer = 0 ∷ 0 ∷ 0 ∷ 0 ∷ []

-- The part of a kind and five numbers, None where there is no such kind, or where a number does not
-- fit: version, N and T of `image` are of 32 bits, and D is 0 or 1. A kind looks only at its own
-- numbers.
abbrev pub image_at : ℕ → ℕ → ℕ → ℕ → ℕ → Option Part
image_at version n delivery threshold select =
    if nat_lt version (2 ^ 32) && nat_lt n (2 ^ 32) && nat_lt delivery 2
    && nat_lt threshold (2 ^ 32)
    then Some (parts.Image version n (nat_eq delivery 1) threshold select)
    else None

abbrev pub part_at : ℕ → ℕ → ℕ → ℕ → ℕ → ℕ → Option Part
part_at kind first second third fourth fifth =
    if nat_eq kind 1 then image_at first second third fourth fifth
    else (if nat_eq kind 2 then Some (parts.Majors first second)
    else (if nat_eq kind 3 then Some (parts.Prio first second)
    else (if nat_eq kind 4 then Some (parts.Word first second third) else None)))

-- The line that loads a part into a virtual hart, where it is one.
abbrev pub loading : ℕ → ℕ → Option Part → Option Line
loading vm vcpu None = None
loading vm vcpu (Some part) = Some (LoadPart vm vcpu part)
