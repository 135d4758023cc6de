-- What the slot notices: it has the enables of the words that are watched, whatever the home; so a
-- store to it is due a notice just where the definitions say that the host is to be told.
use Rattle.std.proofs.Common.{◌≡◌, ◌↔◌, ℕ, ◌/◌, ◌<◌, ◌≤◌, Bool, true, false, not, ◌&&◌, cond, nat_lt, Option, Some, None, refl, sym, ap, ◌∙◌, inl, inr, arith}
use Rattle.std.specs.Int.{is_in_range}
use Rattle.std.proofs.lemmas.Bool.{cases_Bool}
use Rattle.std.proofs.lemmas.Bool.Decides.{nat_tests}
use Rattle.aia_regs.specs.Request.{number_written, implemented, requested}
use Rattle.aia_file.specs.InterruptFile.{InterruptFile}
use Rattle.aia_file.specs.Mrif.{stored}
use Rattle.aia_file.specs.declared.stored.Stored.{Stored}
use Rattle.aia_file.specs.declared.stored.Stored.TheVariants.{Discarded, Quiet, Notice}
use Rattle.aia_vcpu.specs.declared.place.GuestPlace.{GuestPlace}
use Rattle.aia_vcpu.specs.declared.end.End.{End}
use Rattle.aia_vcpu.specs.Home.{Home, old_end, new_end}
use Rattle.aia_vcpu.specs.Home.Home.{InMemory, Resident, OnWay}
use Rattle.aia_vcpu.specs.declared.end.End.TheVariants.{File, Memory}
use Rattle.aia_vcpu.specs.Plans.{is_made}
use Rattle.aia_vcpu.specs.declared.access.Access.TheVariants.{TakeEnables, PutEnables}
use Rattle.aia_vcpu.specs.Routes.{is_watched, watches, sends_notice}
use Rattle.aia_vcpu_places.specs.Places.{Places, old_sets, new_sets, spare_sets}
use Rattle.aia_vcpu_places.specs.Holds.{IsWithin, Hand, Holds}
use Rattle.aia_regs.specs.declared.limits.TheConstants.{IDENTITIES, FILE_WORDS}

pub slot_watches : (words q hart : ℕ) (reach : Option GuestPlace) (v : Places) (there : Home) (hand : Hand) (file : InterruptFile) (saw : Bool)
    → Holds words q hart reach v there hand file saw
    → (i : ℕ) → i / 64 < words → v.slot.enabled i ≡ (is_watched words there (i / 64) && file.enabled i)
slot_watches words q hart reach v (InMemory rest) hand file saw h i l = h.sets.old_enables i l ∙ ap (λ b. b && file.enabled i) (has (i / 64) l)
  where
    has : (j : ℕ) → j < words → true ≡ nat_lt j words
    has j l = grind (arith, nat_tests)
slot_watches words q hart reach v (Resident p) hand file saw h i l = (h.sets.spare i l).1
slot_watches words q hart reach v (OnWay way at) hand file saw h i l =
    by_ends (old_end way) (new_end way) (is_made words (OnWay way at) (TakeEnables (i / 64))) (is_made words (OnWay way at) (PutEnables (i / 64)))
    (h.sets.old_enables i l) (h.sets.new_enables i l) (h.sets.spare i l).1
  where
    by_ends : (from to : End) (taken put : Bool) → (old_sets v from).enabled i ≡ (not taken && file.enabled i)
        → (new_sets v from to).enabled i ≡ (put && file.enabled i) → (spare_sets v from to).enabled i ≡ false
        → v.slot.enabled i ≡ (watches from to taken put && file.enabled i)
    by_ends Memory Memory taken put old new spare = new
    by_ends File Memory taken put old new spare = new
    by_ends Memory File taken put old new spare = old
    by_ends File File taken put old new spare = spare

-- ---- a notice

abbrev pub is_notice : Stored → Bool
is_notice Notice = true
is_notice stored = false

is_notice-true : (s : Stored) → is_notice s ≡ true → s ≡ Notice
is_notice-true Notice e = refl
is_notice-true Quiet e = absurd (cc)
is_notice-true Discarded e = absurd (cc)

wide : (x n : ℕ) → n ≤ IDENTITIES → is_in_range 1 n x ≡ true → is_in_range 1 IDENTITIES x ≡ true
wide x n few e = grind (arith, nat_tests)

within_range : (x n : ℕ) → is_in_range 1 n x ≡ true → x ≤ n
within_range x n e = grind (arith, nat_tests)

past_range : (x n m : ℕ) → is_in_range 1 n x ≡ false → is_in_range 1 m x ≡ true → n < x
past_range x n m out in_more = grind (arith, nat_tests)

notice_if : (b : Bool) → is_notice (cond b Notice Quiet) ≡ b
notice_if true = refl
notice_if false = refl

swapped : (a b : Bool) → (a && b) ≡ (b && a)
swapped true true = refl
swapped true false = refl
swapped false true = refl
swapped false false = refl

module _ (n words q hart : ℕ) (reach : Option GuestPlace) (v : Places) (there : Home) (hand : Hand) (file : InterruptFile) (saw : Bool)
    (within : IsWithin n words file) (few : words ≤ FILE_WORDS) (h : Holds words q hart reach v there hand file saw) where
  told_by : (o : Option ℕ) → is_notice (stored v.slot (implemented IDENTITIES o)) ≡ sends_notice words there file.enabled (implemented n o)
  told_by None = refl
  told_by (Some x) = elim (cases_Bool (is_in_range 1 n x)) [
    | inl e ↦
        let all : is_in_range 1 IDENTITIES x ≡ true = wide x n (omega (arith, within.all_words)) e in
        let low : x / 64 < words = omega (arith, within.all_words, within_range x n e) in
        ap (λ b. is_notice (stored v.slot (cond b (Some x) None))) all ∙ notice_if (v.slot.enabled x)
        ∙ slot_watches words q hart reach v there hand file saw h x low ∙ swapped (is_watched words there (x / 64)) (file.enabled x)
        ∙ sym (ap (λ b. sends_notice words there file.enabled (cond b (Some x) None)) e)
    | inr out ↦ quiet (is_in_range 1 IDENTITIES x) refl out ∙ sym (ap (λ b. sends_notice words there file.enabled (cond b (Some x) None)) out)
  ]
    where
      quiet : (b : Bool) → is_in_range 1 IDENTITIES x ≡ b → is_in_range 1 n x ≡ false → is_notice (stored v.slot (cond b (Some x) None)) ≡ false
      quiet false e out = refl
      quiet true e out =
          let high : words ≤ x / 64 = omega (arith, within.all_words, past_range x n IDENTITIES out e) in
          notice_if (v.slot.enabled x) ∙ (h.sets.past x high).4

  pub notices_alike : (offset value : ℕ) → is_notice (stored v.slot (requested IDENTITIES offset value)) ≡ sends_notice words there file.enabled
      (requested n offset value)
  notices_alike offset value = told_by (number_written offset value)

  pub told_alike : (offset value : ℕ) → (stored v.slot (requested IDENTITIES offset value) ≡ Notice) ↔
      (sends_notice words there file.enabled (requested n offset value) ≡ true)
  told_alike offset value = (λ e. sym (notices_alike offset value) ∙ ap is_notice e, λ e. is_notice-true _ (notices_alike offset value ∙ e))

pub slot_past : (words q hart : ℕ) (reach : Option GuestPlace) (v : Places) (there : Home) (hand : Hand) (file : InterruptFile) (saw : Bool)
    → Holds words q hart reach v there hand file saw → (i : ℕ) → words ≤ i / 64 → v.slot.enabled i ≡ false
slot_past words q hart reach v there hand file saw h i past = (h.sets.past i past).4
