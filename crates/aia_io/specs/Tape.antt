-- What a source in memory still has, and what it gives. Vocabulary.
use Rattle.std.specs.Prelude.{ℕ, ◌+◌, nat_eq, if◌then◌else◌, List, drop, Some}
use Rattle.aia_io.specs.Calls.{one_more}
use Rattle.aia_io.specs.Ends.{Supply}

-- the bytes left, how many were given, and how often none was left to give
pub record TapeState : Type 0 where
  pub left : List ℕ
  pub given : ℕ
  pub ends : ℕ

-- the tape after it gave its first n bytes
abbrev pub after_giving : TapeState → ℕ → TapeState
after_giving t n = record {
  left = drop n t.left;
  given = t.given + n;
  ends = if nat_eq n 0 then one_more t.ends else t.ends;
}

-- the tape with such bytes, of which none was given yet
abbrev pub new_tape : List ℕ → TapeState
new_tape bytes = record { left = bytes; given = 0; ends = 0 }

-- what a source that tells its bytes tells of the tape that it reads
abbrev pub told : TapeState → Supply
told t = record { to_come = Some t.left; given = t.given; ends = t.ends }
