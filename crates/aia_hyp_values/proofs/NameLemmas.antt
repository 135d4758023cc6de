-- Names of the host's files, and where they and their select numbers are kept.
use Rattle.std.proofs.Common.{◌≡◌, ◌≢◌, ℕ, ◌+◌, ◌*◌, ◌/◌, ◌%◌, ◌<◌, true, false, cond, nat_eq, refl, sym, ap, ◌∙◌, arith}
use Rattle.std.proofs.lemmas.Bool.{cond-true, cond-false}
use Rattle.std.proofs.lemmas.Bool.Decides.{nat_tests}
use Rattle.aia_regs.specs.declared.access.Level.{Level}
use Rattle.aia_regs.specs.declared.access.Level.TheVariants as levels
use Rattle.aia_file.specs.declared.spot.Spot.{Spot}
use Rattle.aia_file.specs.declared.spot.Spot.TheVariants as spots
use Rattle.aia_file.specs.Imsic.{ImsicState, IsThere}
use Rattle.aia_model.specs.FileOf.{FileName, MachineFile, SupervisorFile}
use Rattle.aia_hyp_values.specs.HostFiles.{IsHost, name_of, host_spot, is_host_spot, select_place}

-- ---- the way back

abbrev pub name_at : Spot → FileName
name_at (spots.MachineFile hart) = MachineFile hart
name_at (spots.SupervisorFile hart) = SupervisorFile hart
name_at spot = MachineFile 0

pub named_back : (f : FileName) → name_at (host_spot f) ≡ f
named_back (MachineFile hart) = refl
named_back (SupervisorFile hart) = refl

pub at_name : (spot : Spot) → is_host_spot spot ≡ true → spot ≡ host_spot (name_at spot)
at_name (spots.MachineFile hart) host = refl
at_name (spots.SupervisorFile hart) host = refl
at_name spot host = absurd (cc)

pub no_guest : (spot : Spot) → is_host_spot spot ≡ true → (hart g : ℕ) → spots.GuestFile hart g ≢ spot
no_guest spot host hart g e = let bad : false ≡ true = ap is_host_spot e ∙ host in absurd (cc)

pub not_nowhere : (spot : Spot) → is_host_spot spot ≡ true → spot ≢ spots.Nowhere
not_nowhere spot host e = let bad : true ≡ false = sym host ∙ ap is_host_spot e in absurd (cc)

pub is_hosts : (f : FileName) → is_host_spot (host_spot f) ≡ true
is_hosts (MachineFile hart) = refl
is_hosts (SupervisorFile hart) = refl

pub other_spot : (f g : FileName) → g ≢ f → host_spot g ≢ host_spot f
other_spot f g ne e = ne (sym (named_back g) ∙ ap name_at e ∙ named_back f)

-- ---- the same of select numbers

abbrev name_by_place : ℕ → FileName
name_by_place k = cond (nat_eq (k % 2) 0) (MachineFile (k / 2)) (SupervisorFile (k / 2))

named_by_place : (f : FileName) → name_by_place (select_place f) ≡ f
named_by_place (MachineFile hart) =
    let even : nat_eq (2 * hart % 2) 0 ≡ true = grind (arith, nat_tests) in
    let half : 2 * hart / 2 ≡ hart = omega arith in cond-true _ _ _ even ∙ ap MachineFile half
named_by_place (SupervisorFile hart) =
    let odd : nat_eq ((2 * hart + 1) % 2) 0 ≡ false = grind (arith, nat_tests) in
    let half : (2 * hart + 1) / 2 ≡ hart = omega arith in cond-false _ _ _ odd ∙ ap SupervisorFile half

pub other_place : (f g : FileName) → g ≢ f → select_place g ≢ select_place f
other_place f g ne e = ne (sym (named_by_place g) ∙ ap name_by_place e ∙ named_by_place f)

-- ---- which are there

pub there_too : (a b : ImsicState) (f : FileName) → a.harts ≡ b.harts → IsThere a (host_spot f) → IsThere b (host_spot f)
there_too a b (MachineFile hart) e inside = omega arith
there_too a b (SupervisorFile hart) e inside = omega arith

pub named_there : (level : Level) → IsHost level → (i : ImsicState) (hart : ℕ) → hart < i.harts → IsThere i (host_spot (name_of level hart))
named_there levels.Machine host i hart inside = inside
named_there levels.Host host i hart inside = inside
named_there levels.Guest host i hart inside = absurd host
