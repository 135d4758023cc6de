-- The summary of a script's run: how many lines it has, how many of them claimed an identity, how
-- many notices were sent, and the sum of the identities claimed. Profile.
use Rattle.std.specs.Prelude.{ℕ, ◌+◌, ◌%◌, ◌^◌, nat_eq, if◌then◌else◌, List, [], ◌∷◌, ◌++◌, length, Option, Some, None, codes}
use Rattle.aia_regs.specs.declared.access.Csr.TheVariants.{Topei}
use Rattle.aia_regs.specs.declared.access.Op.TheVariants.{Write}
use Rattle.aia_model.specs.declared.line.Line.{Line}
use Rattle.aia_model.specs.declared.line.Line.TheVariants.{GuestCsr, HostCsr}
use Rattle.aia_model.specs.declared.answer.Answer.{Answer}
use Rattle.aia_model.specs.declared.answer.Answer.TheVariants.{Wide}
use Rattle.aia_model.specs.Event.{History}
use Rattle.aia_model.specs.Notice.{notices_sent}
use Rattle.aia_model.specs.Answer.{answer, after, after_lines}
use Rattle.aia_model.specs.AnswerText.{decimal_text}
use Rattle.aia_generate.specs.Generated.{generated}

-- The identity that the answer to a claim shows: none where nothing was on top, or it was refused.
-- AIA 1.0, IMSIC, "Top external interrupt CSRs".
abbrev pub identity_shown : Answer → Option ℕ
identity_shown (Wide v) = if nat_eq v 0 then None else Some (v % 65536)
identity_shown answer = None

-- The identity that a line claimed, given its answer. Counted are the claims by `csrrw stopei`, of
-- a virtual hart and of a hart at supervisor level: a generated script has no others.
abbrev pub claim_of : Line → Answer → Option ℕ
claim_of (GuestCsr vm vcpu Topei (Write v)) given = identity_shown given
claim_of (HostCsr hart Topei (Write v)) given = identity_shown given
claim_of line given = None

-- An identity, where there is one, before others.
abbrev pub with_claim : Option ℕ → List ℕ → List ℕ
with_claim None later = later
with_claim (Some i) later = i ∷ later

-- The identities that lines claim after a history.
unfoldable pub claims_from : History → List Line → List ℕ
claims_from h [] = []
claims_from h (line ∷ lines) =
    with_claim (claim_of line (answer h line)) (claims_from (after h line) lines)

-- The sum of identities.
abbrev pub total : List ℕ → ℕ
total [] = 0
total (x ∷ xs) = x + total xs

-- A line of the summary: a word, a space, a number in decimal, and LF.
abbrev pub summary_line : List ℕ → ℕ → List ℕ
summary_line word n = word ++ 32 ∷ decimal_text n ++ 10 ∷ []

-- The four lines, given the four numbers.
abbrev pub summary_text : ℕ → ℕ → ℕ → ℕ → List ℕ
summary_text lines claims notices sum =
    summary_line (codes "lines") lines ++ summary_line (codes "claims") claims
    ++ summary_line (codes "notices") notices ++ summary_line (codes "sum") sum

-- The summary of a script's lines; the sum is taken modulo 2^64.
abbrev pub summary_of : List Line → List ℕ
summary_of lines =
    summary_text (length lines) (length (claims_from [] lines))
    (notices_sent (after_lines [] lines)) (total (claims_from [] lines) % 2 ^ 64)

-- The summary of a generated script.
unfoldable pub summary : ℕ → ℕ → List ℕ
summary count seed = summary_of (generated count seed)
