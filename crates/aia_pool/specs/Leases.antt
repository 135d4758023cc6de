-- Which guest files of the harts are handed out. Vocabulary.
use Rattle.std.specs.Prelude.{ℕ, ◌+◌, ◌-◌, ◌*◌, ◌<◌, ◌≤◌, Bool, false, not, List, slice_index_or, slice_set, Option}
use Rattle.aia_word.specs.Sets.{least_of}
use Rattle.aia_vcpu.specs.declared.place.GuestPlace.{GuestPlace}

-- How many harts there are, how many guest files each has, and of each file, hart by hart, whether
-- it is out.
pub record Leases : Type 0 where
  pub harts : ℕ
  pub guests : ℕ
  pub out : List Bool

-- Whether a guest file of a hart is there: they are numbered from 1.
abbrev pub IsFileThere : Leases → GuestPlace → Type 0
IsFileThere l p = (p.hart < l.harts) × (1 ≤ p.file) × (p.file ≤ l.guests)

-- Where one that is there stands among all.
abbrev pub lease_place : Leases → GuestPlace → ℕ
lease_place l p = p.hart * l.guests + p.file - 1

-- Whether a guest file is out.
abbrev pub is_out : Leases → GuestPlace → Bool
is_out l p = slice_index_or l.out (lease_place l p) false

-- The least guest file of a hart that is not out; None where all are. Profile.
abbrev pub least_free : Leases → ℕ → Option ℕ
least_free l hart =
    least_of (λ file. not (is_out l (record { hart = hart; file = file }))) 1 l.guests

-- A guest file is handed out, or comes back.
abbrev pub with_out : Leases → GuestPlace → Bool → Leases
with_out l p out = record l { out = slice_set l.out (lease_place l p) out }
