-- The wired sources that are passed to a virtual hart: where each leads, and the steps of its moves
-- that aim them anew, each in its turn, directly after the fence of the G-stage record.
-- Profile: passes.
use Rattle.std.specs.Prelude.{◌≡◌, ℕ, ◌+◌, ◌*◌, ◌^◌, Bool, true, false, ◌&&◌, nat_eq, nat_lt, nat_le, if◌then◌else◌, Option, Some, None}
use Rattle.aia_regs.specs.declared.limits.TheConstants.{FIRST_PASS_IDENTITY}
use Rattle.aia_vcpu.specs.declared.place.GuestPlace.{GuestPlace}
use Rattle.aia_vcpu.specs.Home.{Home, Progress, is_moving}
use Rattle.aia_vcpu.specs.Home.Home.{OnWay}
use Rattle.aia_vcpu.specs.Plans.{step_of, steps_done, stepped}
use Rattle.aia_vcpu.specs.declared.access.Access.TheVariants.{GFence}
use Rattle.aia_vcpu.specs.BySteps.{new_file}
use Rattle.aia_vcpu.specs.Routes.{origin}

-- ---- the steps that aim

-- How many of the steps of its move that aim are done.
abbrev pub aims_done : Home → ℕ
aims_done (OnWay way at) = at.aims
aims_done there = 0

-- How many of its steps are done where it aims: the fence of the G-stage record is the last one
-- made.
abbrev pub aims_step : Home → ℕ
aims_step there = step_of 0 there GFence + 1

-- Whether its next step aims a passed source, where so many are passed to it: its move has come
-- there, and one is still to be aimed.
abbrev pub is_aiming : ℕ → Home → Bool
is_aiming passes there =
    is_moving there && nat_eq (steps_done there) (aims_step there)
    && nat_lt (aims_done there) passes

-- One more is aimed.
abbrev pub aimed_further : Progress → Progress
aimed_further at = record at { aims = at.aims + 1 }

abbrev pub aimed : Home → Home
aimed (OnWay way at) = OnWay way (aimed_further at)
aimed there = there

-- The next step of its move is done, where so many sources are passed to it.
abbrev pub further : ℕ → ℕ → Home → Home
further passes words there = if is_aiming passes there then aimed there else stepped words there

-- ---- where passed sources lead

-- The guest file that the r-th of the sources passed to it reaches, counted from 0; None: its slot
-- of memory. It is where it was until the move aims that source.
abbrev pub pass_reaches : ℕ → Home → Option GuestPlace
pass_reaches r there = if nat_lt r (aims_done there) then new_file there else origin there

-- What the two counts keep to, where so many sources are passed to it: one is aimed only once the
-- G-stage record is fenced, and all are before the next access is made.
pub record AreAimed (passes : ℕ) (there : Home) : Type 0 where
  pub late : nat_lt 0 (aims_done there) ≡ true
      → nat_le (aims_step there) (steps_done there) ≡ true
  pub all : nat_lt (aims_step there) (steps_done there) ≡ true
      → nat_lt (aims_done there) passes ≡ false

-- ---- targets

-- The identity at its notice hart by which a pass is known, by the number of the pass: those of
-- notices are below it. Profile.
abbrev pub host_identity : ℕ → ℕ
host_identity p = FIRST_PASS_IDENTITY + p

-- The target of a hart index, a guest index and an identity.
-- AIA 1.0, APLIC, "Interrupt forwarding by MSIs".
abbrev pub target_of : ℕ → ℕ → ℕ → ℕ
target_of hart guest identity = hart * 2 ^ 18 + guest * 2 ^ 12 + identity

-- The target of a pass of a number, an identity and a notice hart: the guest file, with that
-- identity; or the notice hart's own file, with the identity by which the pass is known there.
abbrev pub target_to : ℕ → ℕ → ℕ → Option GuestPlace → ℕ
target_to notice_hart p identity None = target_of notice_hart 0 (host_identity p)
target_to notice_hart p identity (Some q) = target_of q.hart q.file identity
