-- The targets of wired sources, and what the steps of moves that aim make of them. Profile: passes.
use Rattle.std.specs.Prelude.{◌≡◌, ◌≢◌, ℕ, ◌<◌, ◌≤◌, Bool, true, false, nat_lt, All, length, slice_index_or, if◌then◌else◌, Option, Some, None}
use Rattle.aia_regs.specs.declared.limits.TheConstants.{IDENTITIES, PASSES}
use Rattle.aia_vcpu.specs.BySteps.{new_file}
use Rattle.aia_vcpu.specs.Aims.{aims_done, is_aiming, aimed, target_to}
use Rattle.aia_move_values.specs.declared.who.Pass.{Pass}
use Rattle.aia_move_values.specs.declared.who.Who.{Who}
use Rattle.aia_move_values.specs.Move.{Moving}

-- ---- targets

-- How many harts there are; the target of each source; and whether a source is ready: MSIs to
-- guests may be made of it.
pub record TargetMap : Type 0 where
  pub harts : ℕ
  pub target : ℕ → ℕ
  pub ready : ℕ → Bool

-- A source is aimed: where it is ready its target becomes the one given, and else stays, as those
-- of all other sources do.
pub record AimsOne (old : TargetMap) (source target : ℕ) (new : TargetMap) : Type 0 where
  pub harts : new.harts ≡ old.harts
  pub ready : (s : ℕ) → new.ready s ≡ old.ready s
  pub aimed : old.ready source ≡ true → new.target source ≡ target
  pub unready : old.ready source ≡ false → new.target source ≡ old.target source
  pub others : (s : ℕ) → s ≢ source → new.target s ≡ old.target s

-- ---- passes

-- Each has an identity up to the greatest that a file may have, and a number below `PASSES`.
abbrev pub ArePasses : Who → Type 0
ArePasses who =
    All (λ (p : Pass). (p.identity ≤ IDENTITIES) × (p.number < PASSES)) who.passes.items

-- How many sources are passed to one who is moved; the r-th of them, counted from 0.
abbrev pub pass_count : Who → ℕ
pass_count who = length who.passes.items

abbrev pub no_pass : Pass
no_pass = record { source = 0; identity = 0; number = 0 }

abbrev pub pass_in : Who → ℕ → Pass
pass_in who r = slice_index_or who.passes.items r no_pass

-- ---- the aims of a move

-- Which source is aimed, and at which target.
pub record PassAim : Type 0 where
  pub source : ℕ
  pub target : ℕ

-- Whether the next step of a move aims a passed source; whether one is still to be aimed.
abbrev pub aims : Moving → Bool
aims m = is_aiming (pass_count m.who) m.home

abbrev pub has_unaimed : Moving → Bool
has_unaimed m = nat_lt (aims_done m.home) (pass_count m.who)

-- The aim of the next step, where it makes one: of the first pass that is not aimed yet, at the new
-- place.
abbrev pub next_pass : Moving → Pass
next_pass m = pass_in m.who (aims_done m.home)

abbrev pub aim_of : Moving → PassAim
aim_of m = record {
  source = (next_pass m).source;
  target = target_to m.who.found.notice (next_pass m).number (next_pass m).identity
      (new_file m.home);
}

abbrev pub aim_if : Bool → Moving → Option PassAim
aim_if aims m = if aims then Some (aim_of m) else None

abbrev pub next_aim : Moving → Option PassAim
next_aim m = aim_if (aims m) m

-- One passed source more is aimed.
abbrev pub one_aimed : Moving → Moving
one_aimed m = record m { home = aimed m.home }

-- What is made of targets by an aim, or by none.
abbrev pub AimsAs : {T : Type 0} → (T → ℕ → ℕ → T → Type 0) → Option PassAim → T → T → Type 0
AimsAs aimed None old new = new ≡ old
AimsAs aimed (Some aim) old new = aimed old aim.source aim.target new
