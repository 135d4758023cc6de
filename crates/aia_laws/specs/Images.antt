-- What the interrupts of a virtual hart may be, what all parts of an image make of them, and how a
-- line loads what was printed. Vocabulary.
use Rattle.std.specs.Prelude.{◌≡◌, ℕ, ◌+◌, ◌/◌, ◌<◌, ◌≤◌, true, List, [], ◌∷◌, codes}
use Rattle.std.specs.Int.{is_in_range}
use Rattle.std.specs.List.{Contains, join_with_byte}
use Rattle.aia_regs.specs.declared.limits.TheConstants.{SELECT_NUMBERS}
use Rattle.aia_file.specs.InterruptFile.{is_greatest_identity, empty_file}
use Rattle.aia_major.specs.VsMajor.{is_major, fits_hviprio1, fits_hvictl, new_majors}
use Rattle.aia_vcpu.specs.Vms.{Vcpu}
use Rattle.aia_model.specs.AnswerText.{decimal_text}
use Rattle.aia_model.specs.Image.{GuestState, part_of, parts_in, part_loaded}

-- What the interrupts of a virtual hart always are: the pending and the enabled identities are ones
-- of its file, the injected and the enabled majors are majors, and each number is one that its
-- register may hold.
-- AIA 1.0, IMSIC, and Interrupts for Virtual Machines (VS Level).
pub record IsState (x : GuestState) : Type 0 where
  pub greatest : is_greatest_identity x.file.n ≡ true
  pub select : x.select < SELECT_NUMBERS
  pub pending : (i : ℕ) → x.file.pending i ≡ true → is_in_range 1 x.file.n i ≡ true
  pub enabled : (i : ℕ) → x.file.enabled i ≡ true → is_in_range 1 x.file.n i ≡ true
  pub threshold : x.file.threshold ≤ x.file.n
  pub delivery : x.file.delivery < 2
  pub injected_majors : (j : ℕ) → x.majors.injected j ≡ true → is_major j ≡ true
  pub enabled_majors : (j : ℕ) → x.majors.enabled j ≡ true → is_major j ≡ true
  pub hviprio1 : fits_hviprio1 x.majors.hviprio1 ≡ true
  pub hvictl : fits_hvictl x.majors.hvictl ≡ true

-- As a virtual hart is before anything was said to it, where files have the identities 1 to n.
abbrev pub fresh_state : ℕ → GuestState
fresh_state n = record { select = 0; file = empty_file n; majors = new_majors }

-- ---- all parts of an image

-- How many parts the image of a state has.
abbrev pub part_count : GuestState → ℕ
part_count x = parts_in ((x.file.n + 1) / 64)

-- Two states have equal images.
abbrev pub SameImage : GuestState → GuestState → Type 0
SameImage x y = (k : ℕ) → k < part_count x → part_of x k ≡ part_of y k

-- A list has the number of each part of the image of a state, in whatever order, and however often.
abbrev pub HasAllParts : GuestState → List ℕ → Type 0
HasAllParts x order = (k : ℕ) → k < part_count x → Contains order k

-- What a state becomes where those parts of the image of x are loaded, the last of the list first.
abbrev pub loaded_all : GuestState → List ℕ → GuestState → GuestState
loaded_all x [] was = was
loaded_all x (k ∷ earlier) was = part_loaded (part_of x k) (loaded_all x earlier was)

-- ---- as text

-- The text of a line that loads into a virtual hart what was printed of a part, with one space
-- between two words.
abbrev pub load_text : Vcpu → List ℕ → List ℕ
load_text x printed =
    join_with_byte 32
    (codes "load" ∷ decimal_text x.vm ∷ decimal_text x.vcpu ∷ printed ∷ [])
