-- What lies at an address: pages of files, control regions, memory.
use Rattle.std.proofs.Common.{◌≡◌, ◌≢◌, ℕ, ◌+◌, ◌%◌, ◌<◌, ◌≤◌, Bool, true, false, ◌&&◌, ◌||◌, not, cond, nat_eq, is_some, Option, Some, None, inl, inr, refl, sym, ap, ◌∙◌, arith}
use Rattle.std.proofs.lemmas.Bool.{cases_Bool, cases_lt, eq-eqb}
use Rattle.std.proofs.lemmas.Bool.Decides.{nat_tests}
use Rattle.aia_regs.specs.AddressMap.{machine_page, supervisor_page, is_in_memory, is_in_region, root_region, child_region}
use Rattle.aia_file.specs.declared.spot.Spot.{Spot}
use Rattle.aia_file.specs.declared.spot.Spot.TheVariants as spots
use Rattle.aia_file.specs.Imsic.{ImsicState, IsThere}
use Rattle.aia_file.specs.Map.{spot_at, is_page}
use Rattle.aia_file.proofs.MapLemmas.{spot_of_machine, spot_of_host, machine_of_spot, host_of_spot, from_page, to_page, below_all}
use Rattle.aia_model.specs.declared.domain_name.DomainName.{DomainName}
use Rattle.aia_model.specs.declared.domain_name.DomainName.TheVariants.{Root, Child}
use Rattle.aia_model.specs.declared.refusal.Refusal.{Refusal}
use Rattle.aia_model.specs.declared.refusal.Refusal.TheVariants.{Fault, Guarded}
use Rattle.aia_model.specs.Act.{domain_at}
use Rattle.aia_model.specs.FileOf.{FileName, MachineFile, SupervisorFile, is_at}
use Rattle.aia_model.specs.Refusal.{guards}
use Rattle.aia_model.proofs.AnswerLemmas.{place_refusal}
use Rattle.aia_hyp_values.specs.HostFiles.{host_spot, is_host_spot}
use Rattle.aia_hyp_values.specs.Stands.{core_refusal}
use Rattle.aia_regs.specs.declared.limits.TheConstants.{HARTS}
use Rattle.aia_regs.specs.declared.address_map.TheConstants.{REGION, MACHINE_FILES, MEMORY}

-- ---- pages of the host's files

pub page_of_name : (i : ImsicState) (addr : ℕ) (f : FileName) → i.harts ≤ HARTS → IsThere i (host_spot f) → is_at f addr ≡ true
    → spot_at i.harts i.guests addr ≡ host_spot f
page_of_name i addr (MachineFile hart) few inside here = spot_of_machine i.harts i.guests addr hart inside here
page_of_name i addr (SupervisorFile hart) few inside here = spot_of_host i.harts i.guests addr hart few inside here

pub name_at_page : (i : ImsicState) (addr : ℕ) (f : FileName) → spot_at i.harts i.guests addr ≡ host_spot f → is_at f addr ≡ true
name_at_page i addr (MachineFile hart) e = (machine_of_spot i.harts i.guests addr hart e).1
name_at_page i addr (SupervisorFile hart) e = (host_of_spot i.harts i.guests addr hart e).1

-- the address is in no page of another file that is there
pub elsewhere : (i : ImsicState) (addr : ℕ) (spot : Spot) (g : FileName) → i.harts ≤ HARTS → spot ≡ spot_at i.harts i.guests addr
    → IsThere i (host_spot g) → host_spot g ≢ spot → is_at g addr ≡ false
elsewhere i addr spot g few at inside other = elim (cases_Bool (is_at g addr)) [
  | inl here ↦ absurd (other (sym (at ∙ page_of_name i addr g few inside here)))
  | inr e ↦ e
]

-- ---- control regions, which lie before all pages

past_region : (base addr : ℕ) → base + REGION ≤ addr → is_in_region base addr ≡ false
past_region base addr past = grind (arith, nat_tests)

past_regions : (addr : ℕ) → 0x0c010000 ≤ addr → domain_at addr ≡ None
past_regions addr past =
    ap (λ c. cond c (Some Root) (cond (is_in_region child_region addr) (Some Child) None)) (past_region root_region addr (omega arith))
    ∙ ap (λ c. cond c (Some Child) None) (past_region child_region addr (omega arith))

region_below : (addr : ℕ) → domain_at addr ≢ None → addr < 0x0c010000
region_below addr there = elim (cases_lt addr 0x0c010000) [ inl low ↦ low | inr past ↦ absurd (there (past_regions addr past)) ]

page_past : (f : FileName) (addr : ℕ) → is_at f addr ≡ true → MACHINE_FILES ≤ addr
page_past (MachineFile hart) addr here = let from = from_page (machine_page hart) addr here in omega arith
page_past (SupervisorFile hart) addr here = let from = from_page (supervisor_page hart) addr here in omega arith

pub no_file_there : (addr : ℕ) (f : FileName) → domain_at addr ≢ None → is_at f addr ≡ false
no_file_there addr f there = elim (cases_Bool (is_at f addr)) [
  | inl here ↦ let low = region_below addr there in let high = page_past f addr here in absurd (omega arith)
  | inr e ↦ e
]

-- ---- memory, which lies past all pages

not_in_memory : (addr : ℕ) → addr < MEMORY → is_in_memory addr ≡ false
not_in_memory addr low = grind (arith, nat_tests)

page_below : (i : ImsicState) (addr : ℕ) (spot : Spot) → i.harts ≤ HARTS → spot ≡ spot_at i.harts i.guests addr → is_host_spot spot ≡ true
    → addr < MEMORY
page_below i addr (spots.MachineFile hart) few at host =
    let there = machine_of_spot i.harts i.guests addr hart (sym at) in let below = to_page (machine_page hart) addr there.1 in omega (arith, there.0)
page_below i addr (spots.SupervisorFile hart) few at host =
    let there = host_of_spot i.harts i.guests addr hart (sym at) in let below = to_page (supervisor_page hart) addr there.1 in omega (arith, there.0)
page_below i addr spot few at host = absurd (cc)

-- ---- the words of a place

-- the core's, where the address is no domain's, are the model's
pub outside_regions : (spot : Spot) (addr : ℕ) → domain_at addr ≡ None → place_refusal spot addr ≡ core_refusal spot addr
outside_regions spot addr none = ap (λ (o : Option DomainName). cond
    (not (nat_eq (addr % 4) 0 && (is_some o || is_page spot || is_in_memory addr))) (Some Fault) (cond (guards spot addr) (Some Guarded) None)) none

-- an address of a domain is in no place of the core's
pub in_a_region : (i : ImsicState) (addr : ℕ) → domain_at addr ≢ None → core_refusal (spot_at i.harts i.guests addr) addr ≡ Some Fault
in_a_region i addr there =
    let low = region_below addr there in
    ap (λ s. core_refusal s addr) (below_all i.harts i.guests addr (omega (arith, low)))
    ∙ ap (λ b. cond (not (nat_eq (addr % 4) 0 && b)) (Some Fault) (cond b (Some Guarded) None)) (not_in_memory addr (omega (arith, low)))
    ∙ nothing (nat_eq (addr % 4) 0)
  where
    nothing : (aligned : Bool) → cond (not (aligned && false)) (Some Fault) None ≡ Some Fault
    nothing true = refl
    nothing false = refl

-- so a place of the core's lies in no domain
pub is_outside : (i : ImsicState) (addr : ℕ) → ◌≡◌ {A = Option Refusal} None (core_refusal (spot_at i.harts i.guests addr) addr)
    → domain_at addr ≡ None
is_outside i addr free = by_domain (domain_at addr) refl
  where
    by_domain : (o : Option DomainName) → domain_at addr ≡ o → domain_at addr ≡ None
    by_domain None e = e
    by_domain (Some d) e =
        let bad : ◌≡◌ {A = Option Refusal} None (Some Fault) = free
        ∙ in_a_region i addr (λ n. let no : ◌≡◌ {A = Option DomainName} (Some d) None = sym e ∙ n in absurd (cc)) in absurd (cc)

-- a file of the host may be loaded from and stored to at every aligned address of its page
pub host_is_free : (i : ImsicState) (addr : ℕ) (spot : Spot) → i.harts ≤ HARTS → spot ≡ spot_at i.harts i.guests addr → is_host_spot spot ≡ true
    → addr % 4 ≡ 0 → ◌≡◌ {A = Option Refusal} None (core_refusal (spot_at i.harts i.guests addr) addr)
host_is_free i addr spot few at host aligned =
    sym (ap (λ s. core_refusal s addr) (sym at) ∙ free spot host)
  where
    outside : is_in_memory addr ≡ false
    outside = not_in_memory addr (page_below i addr spot few at host)

    free : (s : Spot) → is_host_spot s ≡ true → core_refusal s addr ≡ None
    free (spots.MachineFile hart) h = ap (λ b. cond (not (b && true)) (Some Fault) (cond (is_in_memory addr) (Some Guarded) None))
        (eq-eqb (addr % 4) 0 aligned) ∙ ap (λ b. cond b (Some Guarded) None) outside
    free (spots.SupervisorFile hart) h = ap (λ b. cond (not (b && true)) (Some Fault) (cond (is_in_memory addr) (Some Guarded) None))
        (eq-eqb (addr % 4) 0 aligned) ∙ ap (λ b. cond b (Some Guarded) None) outside
    free s h = absurd (cc)

-- ---- what the model says of them

pub misaligned : (spot : Spot) (addr : ℕ) → nat_eq (addr % 4) 0 ≡ false → place_refusal spot addr ≡ Some Fault
misaligned spot addr off = ap (λ b. cond (not (b && (is_some (domain_at addr) || is_page spot || is_in_memory addr))) (Some Fault)
    (cond (guards spot addr) (Some Guarded) None)) off

-- every aligned address of a control region may be loaded from and stored to
pub region_is_free : (harts guests addr : ℕ) → addr % 4 ≡ 0 → domain_at addr ≢ None → place_refusal (spot_at harts guests addr) addr ≡ None
region_is_free harts guests addr aligned there =
    let low = region_below addr there in
    ap (λ s. place_refusal s addr) (below_all harts guests addr (omega (arith, low)))
    ∙ ap (λ b. cond (not (nat_eq (addr % 4) 0 && (is_some (domain_at addr) || false || b))) (Some Fault) (cond (false || b) (Some Guarded) None))
    (not_in_memory addr (omega (arith, low)))
    ∙ free (domain_at addr) (nat_eq (addr % 4) 0) there (eq-eqb (addr % 4) 0 aligned)
  where
    free : (o : Option DomainName) (b : Bool) → o ≢ None → b ≡ true → cond (not (b && (is_some o || false || false))) (Some Fault) None ≡ None
    free (Some d) true some is = refl
    free (Some d) false some is = absurd (cc)
    free None b some is = absurd (some refl)
