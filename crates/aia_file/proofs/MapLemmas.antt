-- Which file an address names, by the page that it lies in.
use Rattle.std.proofs.Common.{◌≡◌, ◌≢◌, ℕ, ◌+◌, ◌-◌, ◌*◌, ◌/◌, ◌%◌, ◌<◌, ◌≤◌, true, false, is_some, Option, Some, None, inl, inr, refl, sym, ap, ◌∙◌, arith}
use Rattle.std.proofs.lemmas.Bool.{cases_lt}
use Rattle.std.proofs.lemmas.Bool.Decides.{nat_tests}
use Rattle.std.specs.Option.{option_map_or}
use Rattle.aia_word.proofs.LeastLemmas.{least_of-found, least_of-none, least_of_is}
use Rattle.aia_regs.specs.AddressMap.{machine_page, supervisor_page, guest_page, is_in_page}
use Rattle.aia_file.specs.declared.spot.Spot.{Spot}
use Rattle.aia_file.specs.declared.spot.Spot.TheVariants.{MachineFile, SupervisorFile, GuestFile, Nowhere}
use Rattle.aia_file.specs.Map.{machine_file_at, supervisor_file_at, guest_file_at, guest_hart_at, guest_spot_of, spot_at}
use Rattle.aia_regs.specs.declared.limits.TheConstants.{HARTS, GUEST_FILES}
use Rattle.aia_regs.specs.declared.address_map.TheConstants.{MACHINE_FILES, SUPERVISOR_FILES, HART_STRIDE, PAGE}

-- ---- pages

pub in_page : (page addr : ℕ) → page ≤ addr → addr < page + PAGE → is_in_page page addr ≡ true
in_page page addr low high = grind (arith, nat_tests)

pub before_page : (page addr : ℕ) → addr < page → is_in_page page addr ≡ false
before_page page addr low = grind (arith, nat_tests)

pub after_page : (page addr : ℕ) → page + PAGE ≤ addr → is_in_page page addr ≡ false
after_page page addr high = grind (arith, nat_tests)

pub from_page : (page addr : ℕ) → is_in_page page addr ≡ true → page ≤ addr
from_page page addr here = grind (arith, nat_tests)

pub to_page : (page addr : ℕ) → is_in_page page addr ≡ true → addr < page + PAGE
to_page page addr here = grind (arith, nat_tests)

-- ---- which harts and guest files

no_machine : (harts addr : ℕ) → harts ≤ HARTS → MACHINE_FILES + harts * PAGE ≤ addr → machine_file_at harts addr ≡ None
no_machine harts addr few high = least_of-none (λ hart. is_in_page (machine_page hart) addr) 0 harts
    (λ j a b. after_page (machine_page j) addr (omega arith))

no_machine_below : (harts addr : ℕ) → addr < MACHINE_FILES → machine_file_at harts addr ≡ None
no_machine_below harts addr low = least_of-none (λ hart. is_in_page (machine_page hart) addr) 0 harts
    (λ j a b. before_page (machine_page j) addr (omega arith))

the_machine : (harts addr hart : ℕ) → hart < harts → is_in_page (machine_page hart) addr ≡ true → machine_file_at harts addr ≡ Some hart
the_machine harts addr hart there here =
    let low = from_page (machine_page hart) addr here in
    least_of-found (λ x. is_in_page (machine_page x) addr) 0 harts hart (omega arith) (omega arith) here
    (λ j a b. after_page (machine_page j) addr (omega arith))

no_supervisor : (harts addr : ℕ) → ((hart : ℕ) → hart < harts → is_in_page (supervisor_page hart) addr ≡ false) → supervisor_file_at harts addr ≡ None
no_supervisor harts addr none = least_of-none (λ hart. is_in_page (supervisor_page hart) addr) 0 harts (λ j a b. none j (omega arith))

the_supervisor : (harts addr hart : ℕ) → hart < harts → is_in_page (supervisor_page hart) addr ≡ true → supervisor_file_at harts addr ≡ Some hart
the_supervisor harts addr hart there here =
    let low = from_page (supervisor_page hart) addr here in
    least_of-found (λ x. is_in_page (supervisor_page x) addr) 0 harts hart (omega arith) (omega arith) here
    (λ j a b. after_page (supervisor_page j) addr (omega arith))

no_guest_file : (guests hart addr : ℕ) → ((file : ℕ) → 1 ≤ file → file ≤ guests → is_in_page (guest_page hart file) addr ≡ false)
    → guest_file_at guests hart addr ≡ None
no_guest_file guests hart addr none = least_of-none (λ file. is_in_page (guest_page hart file) addr) 1 guests (λ j a b. none j a (omega arith))

the_guest_file : (guests hart addr file : ℕ) → 1 ≤ file → file ≤ guests → is_in_page (guest_page hart file) addr ≡ true
    → guest_file_at guests hart addr ≡ Some file
the_guest_file guests hart addr file some few here =
    let low = from_page (guest_page hart file) addr here in
    least_of-found (λ x. is_in_page (guest_page hart x) addr) 1 guests file some (omega arith) here
    (λ j a b. after_page (guest_page hart j) addr (omega arith))

no_guest_hart : (harts guests addr : ℕ) → ((hart file : ℕ) → hart < harts → 1 ≤ file → file ≤ guests
    → is_in_page (guest_page hart file) addr ≡ false) → guest_hart_at harts guests addr ≡ None
no_guest_hart harts guests addr none = least_of-none (λ hart. is_some (guest_file_at guests hart addr)) 0 harts
    (λ j a b. ap is_some (no_guest_file guests j addr (λ file c d. none j file (omega arith) c d)))

the_guest_hart : (harts guests addr hart file : ℕ) → guests ≤ GUEST_FILES → hart < harts → 1 ≤ file → file ≤ guests
    → is_in_page (guest_page hart file) addr ≡ true → guest_hart_at harts guests addr ≡ Some hart
the_guest_hart harts guests addr hart file fewer there some few here =
    let low = from_page (guest_page hart file) addr here in
    least_of-found (λ x. is_some (guest_file_at guests x addr)) 0 harts hart (omega arith) (omega arith)
    (ap is_some (the_guest_file guests hart addr file some few here))
    (λ j a b. ap is_some (no_guest_file guests j addr (λ x c d. after_page (guest_page j x) addr (omega arith))))

-- ---- which file

guest_is_not_host : (hart file x addr : ℕ) → 1 ≤ file → file ≤ GUEST_FILES → is_in_page (guest_page hart file) addr ≡ true
    → is_in_page (supervisor_page x) addr ≡ false
guest_is_not_host hart file x addr some few here =
    let low = from_page (guest_page hart file) addr here in
    let high = to_page (guest_page hart file) addr here in
    elim (cases_lt hart x) [
      | inl less ↦ before_page (supervisor_page x) addr (omega arith)
      | inr more ↦ after_page (supervisor_page x) addr (omega arith)
    ]

-- where an address lies, by what was found of each kind
abbrev chosen : ℕ → ℕ → Option ℕ → Option ℕ → Option ℕ → Spot
chosen guests addr machine host guest_hart =
    option_map_or MachineFile machine (option_map_or SupervisorFile host (option_map_or (guest_spot_of guests addr) guest_hart Nowhere))

by_parts : (harts guests addr : ℕ) (machine host guest_hart : Option ℕ) → machine_file_at harts addr ≡ machine
    → supervisor_file_at harts addr ≡ host → guest_hart_at harts guests addr ≡ guest_hart
    → spot_at harts guests addr ≡ chosen guests addr machine host guest_hart
by_parts harts guests addr machine host guest_hart m s g = rw (m, s, g)

pub spot_of_machine : (harts guests addr hart : ℕ) → hart < harts → is_in_page (machine_page hart) addr ≡ true
    → spot_at harts guests addr ≡ MachineFile hart
spot_of_machine harts guests addr hart there here = by_parts harts guests addr (Some hart) _ _ (the_machine harts addr hart there here) refl refl

pub spot_of_host : (harts guests addr hart : ℕ) → harts ≤ HARTS → hart < harts → is_in_page (supervisor_page hart) addr ≡ true
    → spot_at harts guests addr ≡ SupervisorFile hart
spot_of_host harts guests addr hart few there here =
    let low = from_page (supervisor_page hart) addr here in
    by_parts harts guests addr None (Some hart) _ (no_machine harts addr few (omega arith)) (the_supervisor harts addr hart there here) refl

pub spot_of_guest : (harts guests addr hart file : ℕ) → harts ≤ HARTS → guests ≤ GUEST_FILES → hart < harts → 1 ≤ file → file ≤ guests
    → is_in_page (guest_page hart file) addr ≡ true → spot_at harts guests addr ≡ GuestFile hart file
spot_of_guest harts guests addr hart file few fewer there some below here =
    let low = from_page (guest_page hart file) addr here in
    by_parts harts guests addr None None (Some hart) (no_machine harts addr few (omega arith))
    (no_supervisor harts addr (λ x c. guest_is_not_host hart file x addr some (omega arith) here))
    (the_guest_hart harts guests addr hart file fewer there some below here)
    ∙ ap (λ file. option_map_or (GuestFile hart) file Nowhere) (the_guest_file guests hart addr file some below here)

pub spot_of_none : (harts guests addr : ℕ) → machine_file_at harts addr ≡ None
    → ((hart : ℕ) → hart < harts → is_in_page (supervisor_page hart) addr ≡ false)
    → ((hart file : ℕ) → hart < harts → 1 ≤ file → file ≤ guests → is_in_page (guest_page hart file) addr ≡ false)
    → spot_at harts guests addr ≡ Nowhere
spot_of_none harts guests addr machine host guest =
    by_parts harts guests addr None None None machine (no_supervisor harts addr host) (no_guest_hart harts guests addr guest)

-- ---- the other way round: the page of the file that an address names

guest_is_no_machine : (x hart : ℕ) (file : Option ℕ) → option_map_or (GuestFile x) file Nowhere ≢ MachineFile hart
guest_is_no_machine x hart None e = cc
guest_is_no_machine x hart (Some y) e = cc

guest_is_no_host : (x hart : ℕ) (file : Option ℕ) → option_map_or (GuestFile x) file Nowhere ≢ SupervisorFile hart
guest_is_no_host x hart None e = cc
guest_is_no_host x hart (Some y) e = cc

guest_parts : (x hart file : ℕ) (found : Option ℕ) → option_map_or (GuestFile x) found Nowhere ≡ GuestFile hart file → (x ≡ hart)
    × (found ≡ Some file)
guest_parts x hart file None e = absurd (cc)
guest_parts x hart file (Some y) e = (cc, cc)

is_machine : (guests addr hart : ℕ) (machine host guest_hart : Option ℕ) → chosen guests addr machine host guest_hart ≡ MachineFile hart
    → machine ≡ Some hart
is_machine guests addr hart (Some x) host guest_hart e = cc
is_machine guests addr hart None (Some y) guest_hart e = absurd (cc)
is_machine guests addr hart None None (Some x) e = absurd (guest_is_no_machine x hart (guest_file_at guests x addr) e)
is_machine guests addr hart None None None e = absurd (cc)

is_host : (guests addr hart : ℕ) (machine host guest_hart : Option ℕ) → chosen guests addr machine host guest_hart ≡ SupervisorFile hart
    → host ≡ Some hart
is_host guests addr hart (Some x) host guest_hart e = absurd (cc)
is_host guests addr hart None (Some y) guest_hart e = cc
is_host guests addr hart None None (Some x) e = absurd (guest_is_no_host x hart (guest_file_at guests x addr) e)
is_host guests addr hart None None None e = absurd (cc)

is_guest : (guests addr hart file : ℕ) (machine host guest_hart : Option ℕ) → chosen guests addr machine host guest_hart ≡ GuestFile hart file
    → (guest_hart ≡ Some hart) × (guest_file_at guests hart addr ≡ Some file)
is_guest guests addr hart file (Some x) host guest_hart e = absurd (cc)
is_guest guests addr hart file None (Some y) guest_hart e = absurd (cc)
is_guest guests addr hart file None None None e = absurd (cc)
is_guest guests addr hart file None None (Some x) e =
    let parts = guest_parts x hart file (guest_file_at guests x addr) e in
    (ap Some parts.0, ap (λ y. guest_file_at guests y addr) (sym parts.0) ∙ parts.1)

pub machine_of_spot : (harts guests addr hart : ℕ) → spot_at harts guests addr ≡ MachineFile hart → (hart < harts)
    × (is_in_page (machine_page hart) addr ≡ true)
machine_of_spot harts guests addr hart e =
    let least = least_of_is (λ x. is_in_page (machine_page x) addr) 0 harts hart
    (is_machine guests addr hart (machine_file_at harts addr) (supervisor_file_at harts addr) (guest_hart_at harts guests addr) e) in
    (omega (arith, least.1), least.2)

pub host_of_spot : (harts guests addr hart : ℕ) → spot_at harts guests addr ≡ SupervisorFile hart → (hart < harts)
    × (is_in_page (supervisor_page hart) addr ≡ true)
host_of_spot harts guests addr hart e =
    let least = least_of_is (λ x. is_in_page (supervisor_page x) addr) 0 harts hart
    (is_host guests addr hart (machine_file_at harts addr) (supervisor_file_at harts addr) (guest_hart_at harts guests addr) e) in
    (omega (arith, least.1), least.2)

pub guest_of_spot : (harts guests addr hart file : ℕ) → spot_at harts guests addr ≡ GuestFile hart file → (hart < harts) × (1 ≤ file)
    × (file ≤ guests) × (is_in_page (guest_page hart file) addr ≡ true)
guest_of_spot harts guests addr hart file e =
    let found = is_guest guests addr hart file (machine_file_at harts addr) (supervisor_file_at harts addr) (guest_hart_at harts guests addr) e in
    let least_hart = least_of_is (λ x. is_some (guest_file_at guests x addr)) 0 harts hart found.0 in
    let least_file = least_of_is (λ x. is_in_page (guest_page hart x) addr) 1 guests file found.1 in
    (omega (arith, least_hart.1), least_file.0, omega (arith, least_file.1), least_file.2)

-- ---- by arithmetic, as `locate` has it

pub below_all : (harts guests addr : ℕ) → addr < MACHINE_FILES → spot_at harts guests addr ≡ Nowhere
below_all harts guests addr low = spot_of_none harts guests addr (no_machine_below harts addr low)
    (λ hart a. before_page (supervisor_page hart) addr (omega arith)) (λ hart file a b c. before_page (guest_page hart file) addr (omega arith))

pub past_machines : (harts guests addr hart : ℕ) → hart ≡ (addr - MACHINE_FILES) / PAGE → MACHINE_FILES ≤ addr → addr < SUPERVISOR_FILES
    → harts ≤ hart → spot_at harts guests addr ≡ Nowhere
past_machines harts guests addr hart e low high past = spot_of_none harts guests addr
    (least_of-none (λ x. is_in_page (machine_page x) addr) 0 harts (λ j a b. after_page (machine_page j) addr (omega arith)))
    (λ x a. before_page (supervisor_page x) addr (omega arith)) (λ x file a b c. before_page (guest_page x file) addr (omega arith))

pub at_machine : (harts guests addr hart : ℕ) → hart ≡ (addr - MACHINE_FILES) / PAGE → MACHINE_FILES ≤ addr → hart < harts
    → spot_at harts guests addr ≡ MachineFile hart
at_machine harts guests addr hart e low there =
    spot_of_machine harts guests addr hart there (in_page (machine_page hart) addr (omega arith) (omega arith))

pub past_hosts : (harts guests addr hart : ℕ) → harts ≤ HARTS → guests ≤ GUEST_FILES → hart ≡ (addr - SUPERVISOR_FILES) / HART_STRIDE
    → SUPERVISOR_FILES ≤ addr → harts ≤ hart → spot_at harts guests addr ≡ Nowhere
past_hosts harts guests addr hart few fewer e low past = spot_of_none harts guests addr (no_machine harts addr few (omega arith))
    (λ x a. after_page (supervisor_page x) addr (omega arith)) (λ x file a b c. after_page (guest_page x file) addr (omega arith))

pub at_host : (harts guests addr hart file : ℕ) → harts ≤ HARTS → hart ≡ (addr - SUPERVISOR_FILES) / HART_STRIDE
    → file ≡ (addr - SUPERVISOR_FILES) % HART_STRIDE / PAGE → SUPERVISOR_FILES ≤ addr → hart < harts → file ≡ 0
    → spot_at harts guests addr ≡ SupervisorFile hart
at_host harts guests addr hart file few e f low there none =
    spot_of_host harts guests addr hart few there (in_page (supervisor_page hart) addr (omega arith) (omega arith))

pub at_guest : (harts guests addr hart file : ℕ) → harts ≤ HARTS → guests ≤ GUEST_FILES → hart ≡ (addr - SUPERVISOR_FILES) / HART_STRIDE
    → file ≡ (addr - SUPERVISOR_FILES) % HART_STRIDE / PAGE → SUPERVISOR_FILES ≤ addr → hart < harts → file ≢ 0 → file ≤ guests
    → spot_at harts guests addr ≡ GuestFile hart file
at_guest harts guests addr hart file few fewer e f low there some below =
    spot_of_guest harts guests addr hart file few fewer there (omega arith) below (in_page (guest_page hart file) addr (omega arith) (omega arith))

pub past_guests : (harts guests addr hart file : ℕ) → harts ≤ HARTS → guests ≤ GUEST_FILES → hart ≡ (addr - SUPERVISOR_FILES) / HART_STRIDE
    → file ≡ (addr - SUPERVISOR_FILES) % HART_STRIDE / PAGE → SUPERVISOR_FILES ≤ addr → file ≢ 0 → guests < file → spot_at harts guests addr ≡ Nowhere
past_guests harts guests addr hart file few fewer e f low some past = spot_of_none harts guests addr (no_machine harts addr few (omega arith))
    (λ x a. other_host x)
    (λ x y a b c. other_guest x y c)
  where
    lower : hart * HART_STRIDE + file * PAGE + SUPERVISOR_FILES ≤ addr
    lower = omega arith

    upper : addr < hart * HART_STRIDE + file * PAGE + SUPERVISOR_FILES + PAGE
    upper = omega arith

    numbered : file ≤ GUEST_FILES
    numbered = omega arith

    other_host : (x : ℕ) → is_in_page (supervisor_page x) addr ≡ false
    other_host x = guest_is_not_host hart file x addr (omega arith) numbered
        (in_page (guest_page hart file) addr (omega (arith, lower)) (omega (arith, upper)))

    other_guest : (x y : ℕ) → y ≤ guests → is_in_page (guest_page x y) addr ≡ false
    other_guest x y c = elim (cases_lt hart x) [
      | inl less ↦ before_page (guest_page x y) addr (omega (arith, upper, numbered))
      | inr more ↦ after_page (guest_page x y) addr (omega (arith, lower, past))
    ]
