-- How the majors of a virtual hart are kept, and the candidates for the one on top. Vocabulary.
use Rattle.std.specs.Prelude.{ℕ, Bool, false, nat_eq, if◌then◌else◌, List, [], ◌∷◌, Option, Some, None}
use Rattle.aia_word.specs.Sets.{has_bit}
use Rattle.aia_major.specs.declared.majors.Majors.{Majors}
use Rattle.aia_major.specs.declared.vs_major.VsMajor.{VsMajor}
use Rattle.aia_major.specs.declared.candidate.Candidate as kept
use Rattle.aia_major.specs.VsMajor.{VsMajorState, Candidate, is_major, is_guests_own}

-- The members of a set of the four majors.
abbrev pub members : Majors → ℕ → Bool
members s j =
    if nat_eq j 1 then s.software
    else (if nat_eq j 5 then s.timer
    else (if nat_eq j 9 then s.external
    else (if nat_eq j 13 then s.overflow
    else false)))

-- The majors that are kept.
unfoldable pub majors_shown : VsMajor → VsMajorState
majors_shown m = record {
  injected = members m.injected;
  enabled = members m.enabled;
  hviprio1 = m.hviprio1;
  hvictl = m.hvictl;
}

-- What is kept as a virtual hart begins.
abbrev pub no_members : Majors
no_members = record { software = false; timer = false; external = false; overflow = false }

abbrev pub kept_at_first : VsMajor
kept_at_first =
    record { injected = no_members; enabled = no_members; hviprio1 = 0; hvictl = 0 }

-- What the number that a guest's instruction writes to sip, or to sie, makes of them: it is heard
-- at the guest's own majors, or at each of the four. That it is what the access says is a law.
-- The hypervisor extension 1.0: vsip and vsie.
abbrev pub sip_written : ℕ → VsMajorState → VsMajorState
sip_written v m = record m { injected = λ j. if is_guests_own j then has_bit v j else m.injected j }

abbrev pub sie_written : ℕ → VsMajorState → VsMajorState
sie_written v m = record m { enabled = λ j. if is_major j then has_bit v j else m.enabled j }

-- A candidate that is kept, and one that may be missing as a list.
abbrev pub seen : kept.Candidate → Candidate
seen c = record { major = c.major; number = c.number; rank = c.rank }

abbrev pub listed : Option kept.Candidate → List Candidate
listed None = []
listed (Some c) = seen c ∷ []
