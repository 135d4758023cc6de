-- The major interrupts of a virtual hart: what is kept of them, what each write makes of it, and
-- what stopi, sip and sie read.
-- AIA 1.0, Interrupts for Virtual Machines (VS Level), where no comment names another source.
use Rattle.std.specs.Prelude.{ℕ, ◌+◌, ◌*◌, ◌^◌, min, Bool, false, not, ◌&&◌, ◌||◌, nat_eq, nat_lt, nat_le, if◌then◌else◌, List, [], ◌∷◌, ◌++◌, Option, Some, None}
use Rattle.std.specs.Option.{option_map_or}
use Rattle.std.specs.Int.{is_in_range}
use Rattle.aia_regs.specs.declared.access.Op.{Op}
use Rattle.aia_regs.specs.BitUpdate.{BitUpdate, set_after}
use Rattle.aia_regs.specs.BitUpdate.BitUpdate.{Ask, Clear, Nothing}
use Rattle.aia_word.specs.Sets.{has_bit}
use Rattle.aia_regs.specs.Operations.{bit_said}
use Rattle.aia_regs.specs.Fields.{field, with_field, bit_number}

-- ---- what is kept

-- The majors that are injected, those that are enabled, and the registers hviprio1 and hvictl.
-- The hypervisor extension 1.0: hvip, for the first.
pub record VsMajorState : Type 0 where
  pub injected : ℕ → Bool
  pub enabled : ℕ → Bool
  pub hviprio1 : ℕ
  pub hvictl : ℕ

-- As a virtual hart begins. Profile: no major is injected or enabled, and both registers are 0.
abbrev pub new_majors : VsMajorState
new_majors = record { injected = λ j. false; enabled = λ j. false; hviprio1 = 0; hvictl = 0 }

-- The majors of this model: the software interrupt, the timer's, the external one, and that of an
-- overflowing counter. Profile: these four.
abbrev pub is_major : ℕ → Bool
is_major j = nat_eq j 1 || nat_eq j 5 || nat_eq j 9 || nat_eq j 13

-- The majors of which a guest's write to sip is heard. Profile: an injected overflow of a counter
-- is the guest's to clear, as its software interrupt is.
abbrev pub is_guests_own : ℕ → Bool
is_guests_own j = nat_eq j 1 || nat_eq j 13

-- ---- the fields of hvictl

-- VTI, bit 30: whether hvictl says which interrupt there is, in place of the majors but the
-- external one.
abbrev pub vti_of : ℕ → Bool
vti_of hvictl = has_bit hvictl 30

-- IID, bits 27:16: the interrupt that it says is there.
abbrev pub iid_of : ℕ → ℕ
iid_of hvictl = field hvictl 27 16

-- DPR, bit 9: whether that interrupt ranks after the external one.
abbrev pub dpr_of : ℕ → Bool
dpr_of hvictl = has_bit hvictl 9

-- IPRIOM, bit 8: whether stopi shows priorities as they are.
abbrev pub ipriom_of : ℕ → Bool
ipriom_of hvictl = has_bit hvictl 8

-- IPRIO, bits 7:0: the priority number of that interrupt.
abbrev pub iprio_of : ℕ → ℕ
iprio_of hvictl = field hvictl 7 0

-- ---- what becomes of it

-- What a write of hvictl keeps: VTI, IID, and DPR, IPRIOM and IPRIO.
abbrev pub hvictl_kept : ℕ → ℕ
hvictl_kept v =
    with_field (with_field (with_field 0 30 30 (field v 30 30)) 27 16 (field v 27 16)) 9 0
    (field v 9 0)

-- What a write of hviprio1 keeps: the priority numbers of the majors 1, 5 and 13. Profile: no
-- other.
abbrev pub hviprio1_kept : ℕ → ℕ
hviprio1_kept v =
    with_field (with_field (with_field 0 15 8 (field v 15 8)) 31 24 (field v 31 24)) 47 40
    (field v 47 40)

-- Whether a number may be written to hvictl. Profile: where VTI is 1, IID is 1 to 63.
abbrev pub is_hvictl : ℕ → Bool
is_hvictl v = not (vti_of v) || is_in_range 1 63 (iid_of v)

-- Whether hviprio1 may hold a number, and whether hvictl may: one that a write keeps whole, and of
-- hvictl one that may be written.
abbrev pub fits_hviprio1 : ℕ → Bool
fits_hviprio1 v = nat_eq (hviprio1_kept v) v

abbrev pub fits_hvictl : ℕ → Bool
fits_hvictl v = nat_eq (hvictl_kept v) v && is_hvictl v

-- What an injection of a level at a major says of major j's being injected.
-- The hypervisor extension 1.0: hvip.
abbrev pub injection_said : ℕ → Bool → ℕ → BitUpdate
injection_said major level j =
    if nat_eq major j then (if level then Ask else Clear) else Nothing

-- What an access of a guest to sip says of major j's being injected, and one to sie of its being
-- enabled.
-- The hypervisor extension 1.0: vsip and vsie.
abbrev pub sip_said : Op → ℕ → BitUpdate
sip_said op j = if is_guests_own j then bit_said op j else Nothing

abbrev pub sie_said : Op → ℕ → BitUpdate
sie_said op j = if is_major j then bit_said op j else Nothing

-- A level is injected at a major; a guest accesses sip, or sie; hviprio1 is written, or hvictl.
abbrev pub with_injection : ℕ → Bool → VsMajorState → VsMajorState
with_injection major level m =
    record m { injected = set_after (injection_said major level) m.injected }

abbrev pub with_sip : Op → VsMajorState → VsMajorState
with_sip op m = record m { injected = set_after (sip_said op) m.injected }

abbrev pub with_sie : Op → VsMajorState → VsMajorState
with_sie op m = record m { enabled = set_after (sie_said op) m.enabled }

abbrev pub with_hviprio1 : ℕ → VsMajorState → VsMajorState
with_hviprio1 v m = record m { hviprio1 = hviprio1_kept v }

abbrev pub with_hvictl : ℕ → VsMajorState → VsMajorState
with_hvictl v m = record m { hvictl = hvictl_kept v }

-- hvip is written whole: the majors are injected whose bits of the value, as sip has them, are
-- ones. The standard's hvip has the majors 1, 5 and 9 a place further up.
-- The hypervisor extension 1.0: hvip.
abbrev pub with_hvip : ℕ → VsMajorState → VsMajorState
with_hvip v m = record m { injected = λ j. if is_major j then has_bit v j else m.injected j }

-- ---- what sip and sie read

-- Whether a major is pending, given whether the virtual hart's interrupt file signals: the external
-- one is so then too.
-- The hypervisor extension 1.0: hvip, hgeip and VGEIN.
abbrev pub is_pending : VsMajorState → Bool → ℕ → Bool
is_pending m signal j = m.injected j || nat_eq j 9 && signal

-- The register whose ones are the majors of a set.
abbrev pub majors_word : (ℕ → Bool) → ℕ
majors_word members =
    bit_number (members 1) * 2 ^ 1 + bit_number (members 5) * 2 ^ 5
    + bit_number (members 9) * 2 ^ 9 + bit_number (members 13) * 2 ^ 13

-- Whether a number may say which majors are injected or enabled: its ones are only at majors.
abbrev pub fits_hvip : ℕ → Bool
fits_hvip v = nat_eq (majors_word (has_bit v)) v

-- What sip reads, given whether the interrupt file signals.
abbrev pub sip_value : VsMajorState → Bool → ℕ
sip_value m signal = majors_word (is_pending m signal)

-- What sie reads.
abbrev pub sie_value : VsMajorState → ℕ
sie_value m = majors_word m.enabled

-- ---- the major on top

-- A major that may be on top: the lower its priority number, the higher its priority; of two with
-- the same priority number, the one with the lower rank comes first.
pub record Candidate : Type 0 where
  pub major : ℕ
  pub number : ℕ
  pub rank : ℕ

-- Whether a candidate comes before another, or is it: by priority number, then by rank.
abbrev pub comes_first : Candidate → Candidate → Bool
comes_first a b = nat_lt a.number b.number || nat_eq a.number b.number && nat_le a.rank b.rank

-- A list of this one candidate, if it is one; else the empty list.
abbrev pub one_if : Bool → Candidate → List Candidate
one_if is c = if is then c ∷ [] else []

-- Whether a major is pending and enabled.
abbrev pub is_live : VsMajorState → Bool → ℕ → Bool
is_live m signal j = is_pending m signal j && m.enabled j

-- A priority number, 0 counting as 256. Profile.
abbrev pub or_256 : ℕ → ℕ
or_256 number = if nat_eq number 0 then 256 else number

-- The external interrupt: its number is the one that stopei shows in bits 10:0.
-- Profile: 256 where stopei is 0.
abbrev pub external : VsMajorState → ℕ → Bool → List Candidate
external m stopei signal =
    one_if (is_live m signal 9)
    (record { major = 9; number = if nat_eq stopei 0 then 256 else field stopei 10 0; rank = 1 })

-- Another of the four, with its byte of hviprio1, which begins at bit `lo`; not where hvictl says
-- by VTI which interrupt there is.
abbrev pub by_hviprio1 : VsMajorState → Bool → ℕ → ℕ → ℕ → List Candidate
by_hviprio1 m signal major lo rank =
    one_if (not (vti_of m.hvictl) && is_live m signal major)
    (record { major = major; number = or_256 (field m.hviprio1 (lo + 7) lo); rank = rank })

-- The one that hvictl says is there, where it is not the external one; DPR ranks it before or after
-- that. Profile: an IPRIO of 0 counts as 256 where DPR is 1.
abbrev pub by_hvictl : ℕ → List Candidate
by_hvictl hvictl =
    one_if (vti_of hvictl && not (nat_eq (iid_of hvictl) 9))
    (if dpr_of hvictl
    then record { major = iid_of hvictl; number = or_256 (iprio_of hvictl); rank = 2 }
    else record { major = iid_of hvictl; number = iprio_of hvictl; rank = 0 })

-- All of them. Profile: the external one ranks before 1, 5 and 13, in this order.
abbrev pub candidates : VsMajorState → ℕ → Bool → List Candidate
candidates m stopei signal =
    external m stopei signal ++ by_hviprio1 m signal 1 8 2 ++ by_hviprio1 m signal 5 24 3
    ++ by_hviprio1 m signal 13 40 4 ++ by_hvictl m.hvictl

-- The first of some, None of none; that it comes before each of them is a law.
abbrev pub first_of : List Candidate → Option Candidate
first_of [] = None
first_of (a ∷ others) =
    Some (option_map_or (λ b. if comes_first a b then a else b) (first_of others) a)

-- The priority that stopi shows of a number: 1, or, where IPRIOM is 1, the number itself, 255
-- standing for one above it.
abbrev pub priority_shown : ℕ → ℕ → ℕ
priority_shown hvictl number = if ipriom_of hvictl then min number 255 else 1

-- What stopi shows: the major in bits 27:16, its priority in bits 7:0; 0 where there is none.
abbrev pub candidate_value : ℕ → Option Candidate → ℕ
candidate_value hvictl None = 0
candidate_value hvictl (Some c) =
    with_field (with_field 0 27 16 c.major) 7 0 (priority_shown hvictl c.number)

-- What stopi reads, given what stopei reads and whether the interrupt file signals.
abbrev pub stopi_value : VsMajorState → ℕ → Bool → ℕ
stopi_value m stopei signal = candidate_value m.hvictl (first_of (candidates m stopei signal))
