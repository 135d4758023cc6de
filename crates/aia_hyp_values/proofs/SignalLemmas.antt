-- Which guest files of a hart signal: each that is there signals where a virtual hart is heard there
-- whose interrupt file does.
use Rattle.aia_model.specs.ReachOf.{in_force_of}
use Rattle.std.proofs.Common.{◌≡◌, ℕ, zero, suc, ◌+◌, ◌*◌, ◌/◌, ◌<◌, ◌≤◌, Bool, true, false, ◌&&◌, ◌||◌, not, cond, nat_eq, nat_le, Option, Some, None, ◌⊎◌, inl, inr, refl, sym, ap, subst, ◌∙◌, arith}
use Rattle.std.specs.Int.{bit_at, is_in_range}
use Rattle.std.specs.List.{list_any}
use Rattle.std.proofs.lemmas.Bool.{cases_Bool, cases_lt, cond-false, cond-true, and_parts, lt-ltb, le-ltb, false≢true}
use Rattle.std.proofs.lemmas.Bool.Decides.{nat_tests}
use Rattle.std.proofs.lemmas.Nat.Bits.{bit_at-suc, bit_at-lt, same_from_bits}
use Rattle.aia_word.specs.Sets.{has_bit, word_of}
use Rattle.aia_word.proofs.BitLemmas.{has_bit-zero}
use Rattle.aia_word.proofs.SetLemmas.{has_bit-word_of, same_bit}
use Rattle.aia_file.specs.InterruptFile.{is_greatest_identity, signals}
use Rattle.aia_file.specs.FileState.{shown}
use Rattle.aia_file.specs.Imsic.{IsThere, file_at}
use Rattle.aia_vcpu.specs.declared.place.GuestPlace.{GuestPlace}
use Rattle.aia_vcpu.specs.Vms.{Vcpu, slot_of, notice_hart, all_vcpus}
use Rattle.aia_vcpu.specs.Home.{Home, is_place, holds}
use Rattle.aia_vcpu.specs.Home.Home.{Resident, OnWay}
use Rattle.aia_vcpu.specs.Home.Way.{Outward, Across}
use Rattle.aia_vcpu.specs.BySteps.{own_file, next_file, delivery_in_own}
use Rattle.aia_vcpu.proofs.AllLemmas.{any_vcpu, some_vcpu, no_vcpu, of_none}
use Rattle.aia_vcpu_places.specs.Holds.{IsWithin}
use Rattle.aia_vcpu_places.specs.Stores.{AreApart}
use Rattle.aia_vcpu_places.proofs.FileLemmas.{own_signals, next_signals}
use Rattle.aia_fabric_values.specs.Whole.{IsWhole}
use Rattle.aia_fabric_values.specs.Changes.{spot_of, file_in}
use Rattle.aia_move_values.specs.Views.{places_of}
use Rattle.aia_fabric_values.proofs.WholeLemmas.{width_at}
use Rattle.aia_model.specs.declared.answer.Answer.TheVariants.{Wide, Refused}
use Rattle.aia_model.specs.declared.refusal.Refusal.TheVariants.{Range}
use Rattle.aia_model.specs.declared.line.Line.TheVariants.{Hgeip}
use Rattle.aia_model.specs.Event.{History, harts_of, guests_of, greatest_identity_of, file_words}
use Rattle.aia_model.specs.Event.Event.{Accepted}
use Rattle.aia_model.specs.Vms.{vms_of, has_vcpu}
use Rattle.aia_model.specs.GuestFile.{guest_file}
use Rattle.aia_model.specs.HomeOf.{guest_place, home}
use Rattle.aia_model.specs.Notice.{a_look_saw}
use Rattle.aia_model.specs.Gate.{is_heard, is_signalled_at, hgeip_value}
use Rattle.aia_model.proofs.AnswerLemmas.{hgeip_refusal}
use Rattle.aia_hyp_values.specs.Core.{CoreState, record_of, hand_in}
use Rattle.aia_hyp_values.specs.Stands.{CoreStands, CoreTakes, VcpuStands, is_held}
use Rattle.aia_vcpu.proofs.HomeLemmas.{same_place, some_same, either_file}
use Rattle.aia_hyp_values.proofs.EventLemmas.{hosts_line, nothing_done, accepted, refused}
use Rattle.aia_hyp_values.proofs.WithinLemmas.{guest_within}

and_first : (a b : Bool) → a ≡ false → (a && b) ≡ false
and_first true b e = absurd (false≢true (sym e))
and_first false b e = refl

-- ---- where a virtual hart is heard

-- it holds the file
heard_holds : (p : GuestPlace) (there : Home) → is_heard p there ≡ true → holds p there ≡ true
heard_holds p (Resident q) e = e
heard_holds p (OnWay (Outward from) at) e = (and_parts (is_place p from) (delivery_in_own (OnWay (Outward from) at)) e).0
heard_holds p (OnWay (Across from to) at) e = ap (λ b. b || is_place p to)
    (and_parts (is_place p from) (delivery_in_own (OnWay (Across from to) at)) e).0
heard_holds p there e = absurd (false≢true e)

unheld_unheard : (p : GuestPlace) (there : Home) → holds p there ≡ false → is_heard p there ≡ false
unheld_unheard p there none = elim (cases_Bool (is_heard p there)) [
  | inl t ↦ absurd (false≢true (sym none ∙ heard_holds p there t))
  | inr f ↦ f
]

-- in its own file it is heard while eidelivery stands there
own_heard : (p : GuestPlace) (there : Home) → own_file there ≡ Some p → is_heard p there ≡ delivery_in_own there
own_heard p (Resident q) e = some_same q p e
own_heard p (OnWay (Outward from) at) e = ap (λ b. b && delivery_in_own (OnWay (Outward from) at)) (some_same from p e)
own_heard p (OnWay (Across from to) at) e = ap (λ b. b && delivery_in_own (OnWay (Across from to) at)) (some_same from p e)
own_heard p there e = refl

-- in the other one it is not
next_unheard : (p : GuestPlace) (there : Home) → AreApart there → next_file there ≡ Some p → is_heard p there ≡ false
next_unheard p (Resident q) apart e = let bad : ◌≡◌ {A = Option GuestPlace} None (Some p) = e in absurd (cc)
next_unheard p (OnWay (Outward from) at) apart e = let bad : ◌≡◌ {A = Option GuestPlace} None (Some p) = e in absurd (cc)
next_unheard p (OnWay (Across from to) at) apart e =
    and_first (is_place p from) (delivery_in_own (OnWay (Across from to) at)) (elsewhere (cases_Bool (is_place p from)))
  where
    elsewhere : (is_place p from ≡ true) ⊎ (is_place p from ≡ false) → is_place p from ≡ false
    elsewhere (inl t) = absurd (false≢true (sym apart ∙ ap (λ (q : GuestPlace). is_place q to) (sym (same_place p from t)) ∙ some_same to p e))
    elsewhere (inr f) = f
next_unheard p there apart e = refl

-- ---- the file of one that holds it

file_signals : (x : CoreState) (h : History) (g : Vcpu) (p : GuestPlace) → CoreStands x h → IsWhole x.world → has_vcpu h g ≡ true
    → holds p (home h g) ≡ true → IsThere x.world.imsic (spot_of p)
    → signals (shown (file_at x.world.imsic (spot_of p))) ≡ (is_heard p (home h g) && signals (guest_file h g))
file_signals x h g p stands whole there holding inside = elim (either_file p (home h g) holding) [
  | inl own ↦
      ap signals (sym (ap (file_in x.world) own))
      ∙ own_signals (greatest_identity_of h) (file_words h) (slot_of (vms_of h) g) (notice_hart (vms_of h) g) (in_force_of h g)
      (places_of x.world g (home h g)) (hand_in (record_of x g).stay) (guest_file h g) (a_look_saw h g) within (size own) (home h g) stood.holds
      ∙ ap (λ b. b && signals (guest_file h g)) (sym (own_heard p (home h g) own))
  | inr next ↦
      ap signals (sym (ap (file_in x.world) next))
      ∙ next_signals (file_words h) (slot_of (vms_of h) g) (notice_hart (vms_of h) g) (in_force_of h g) (places_of x.world g (home h g))
      (home h g) (hand_in (record_of x g).stay) (guest_file h g) (a_look_saw h g) stood.holds
      ∙ ap (λ b. b && signals (guest_file h g)) (sym (next_unheard p (home h g) stood.two_files next))
]
  where
    stood : VcpuStands x h g
    stood = stands.vcpus g there

    greatest : is_greatest_identity (greatest_identity_of h) ≡ true
    greatest = subst (λ n. is_greatest_identity n ≡ true) stands.greatest whole.greatest

    within : IsWithin (greatest_identity_of h) (file_words h) (guest_file h g)
    within = guest_within h g greatest

    size : own_file (home h g) ≡ Some p → (file_in x.world (own_file (home h g))).n ≡ greatest_identity_of h
    size own = ap (λ o. (file_in x.world o).n) own ∙ width_at x.world (spot_of p) whole inside ∙ stands.greatest

-- ---- each guest file that is there

-- whom it signals for
abbrev speaks : History → GuestPlace → Vcpu → Bool
speaks h p g = is_heard p (home h g) && signals (guest_file h g)

-- where one holds it, no other one is heard there
one_speaks : (x : CoreState) (h : History) (g : Vcpu) (p : GuestPlace) (b : Bool) → CoreStands x h → has_vcpu h g ≡ true
    → holds p (home h g) ≡ true → speaks h p g ≡ b → list_any (speaks h p) (all_vcpus (vms_of h)) ≡ b
one_speaks x h g p true stands there holding e = any_vcpu (vms_of h) (speaks h p) g there e
one_speaks x h g p false stands there holding e = no_vcpu (vms_of h) (speaks h p) (λ other inside. elim (cases_Bool (holds p (home h other))) [
  | inl t ↦ ap (speaks h p) (stands.apart other g p inside there t holding) ∙ e
  | inr f ↦ and_first (is_heard p (home h other)) (signals (guest_file h other)) (unheld_unheard p (home h other) f)
])

pub signalled : (x : CoreState) (h : History) (p : GuestPlace) → CoreStands x h → IsWhole x.world → IsThere x.world.imsic (spot_of p)
    → signals (shown (file_at x.world.imsic (spot_of p))) ≡ is_signalled_at h p
signalled x h p stands whole inside = elim (cases_Bool (is_held h p)) [
  | inl held ↦
      let who = some_vcpu (vms_of h) (λ g. holds p (home h g)) held in
      file_signals x h who.0 p stands whole who.1 who.2 inside ∙ sym (one_speaks x h who.0 p (speaks h p who.0) stands who.1 who.2 refl)
  | inr none ↦
      ap signals (stands.free p inside none)
      ∙ sym (no_vcpu (vms_of h) (speaks h p) (λ g there. and_first (is_heard p (home h g)) (signals (guest_file h g))
      (unheld_unheard p (home h g) (of_none (vms_of h) (λ g. holds p (home h g)) g none there))))
]

-- ---- the word

half : (b : Bool) (y : ℕ) → (cond b 1 0 + 2 * y) / 2 ≡ y
half true y = omega arith
half false y = omega arith

-- a word that shows so many candidates has no other bit
past_word : (members : ℕ → Bool) (from count i : ℕ) → count ≤ i → has_bit (word_of members from count) i ≡ false
unfolding word_of
past_word members from zero i past = has_bit-zero i
past_word members from (suc count) zero past = absurd (omega (arith, past))
past_word members from (suc count) (suc i) past =
    ap (λ x. nat_eq x 1) (bit_at-suc _ i ∙ ap (λ x. bit_at x i) (half (members from) (word_of members (suc from) count)))
    ∙ past_word members (suc from) count i (omega (arith, past))

in_range : (guests j : ℕ) → j < guests + 1 → is_in_range 1 guests j ≡ nat_le 1 j
in_range guests j low = grind (arith, nat_tests)

out_of_range : (guests j : ℕ) → guests + 1 ≤ j → is_in_range 1 guests j ≡ false
out_of_range guests j past = grind (arith, nat_tests)

pub hgeip_is : (x : CoreState) (h : History) (hart word : ℕ) → CoreStands x h → IsWhole x.world → hart < x.world.imsic.harts
    → ((j : ℕ) → has_bit word j ≡ (is_in_range 1 x.world.imsic.guests j && signals
    (shown (file_at x.world.imsic (spot_of (guest_place hart j)))))) → word ≡ hgeip_value h hart
hgeip_is x h hart word stands whole there bits =
    same_from_bits word (hgeip_value h hart) (λ i. same_bit _ _ (bit_at-lt word i) (bit_at-lt (hgeip_value h hart) i) (bits i ∙ each i))
  where
    members : ℕ → Bool
    members file = nat_le 1 file && is_signalled_at h (guest_place hart file)

    below : (i : ℕ) → i < guests_of h + 1 → (is_in_range 1 x.world.imsic.guests i && signals
        (shown (file_at x.world.imsic (spot_of (guest_place hart i))))) ≡ members i
    below i low = ap (λ b. b && signals (shown (file_at x.world.imsic (spot_of (guest_place hart i)))))
        (in_range x.world.imsic.guests i (omega (arith, low, stands.guests))) ∙ elim (cases_lt 0 i) [
          | inl some ↦ ap (λ b. nat_le 1 i && b) (signalled x h (guest_place hart i) stands whole
              (there, omega (arith, some), omega (arith, low, stands.guests)))
          | inr none ↦ and_first (nat_le 1 i) _ (not_first i none) ∙ sym (and_first (nat_le 1 i) _ (not_first i none))
        ]
      where
        not_first : (i : ℕ) → i ≤ 0 → nat_le 1 i ≡ false
        not_first i none = grind (arith, nat_tests)

    each : (i : ℕ) → (is_in_range 1 x.world.imsic.guests i && signals (shown (file_at x.world.imsic (spot_of (guest_place hart i))))) ≡ has_bit
        (word_of members 0 (guests_of h + 1)) i
    each i = elim (cases_lt i (guests_of h + 1)) [
      | inl low ↦ below i low ∙ sym (has_bit-word_of members 0 (guests_of h + 1) i low ∙ ap members (omega arith))
      | inr past ↦ and_first _ (signals (shown (file_at x.world.imsic (spot_of (guest_place hart i)))))
          (out_of_range x.world.imsic.guests i (omega (arith, past, stands.guests))) ∙ sym (past_word members 0 (guests_of h + 1) i past)
    ]

-- ---- the answer

pub hgeip_taken : (x : CoreState) (hart word : ℕ) → IsWhole x.world → hart < x.world.imsic.harts
    → ((j : ℕ) → has_bit word j ≡ (is_in_range 1 x.world.imsic.guests j && signals
    (shown (file_at x.world.imsic (spot_of (guest_place hart j)))))) → CoreTakes x x (Hgeip hart) (Wide word)
hgeip_taken x hart word whole there bits = accepted x x (Hgeip hart) (Wide word) refl refl (λ h stands. (
  hgeip_refusal h hart stands.there ∙ cond-false _ _ _ (ap not (lt-ltb hart (harts_of h) (omega (arith, there, stands.harts)))),
  ap Wide (hgeip_is x h hart word stands whole there bits),
  nothing_done x h (Accepted (Hgeip hart)) stands (hosts_line h (Hgeip hart) refl refl (λ g. refl) (λ g m. refl)) (λ f inside. refl),
))

pub no_hart_for_it : (x : CoreState) (hart : ℕ) → x.world.imsic.harts ≤ hart → CoreTakes x x (Hgeip hart) (Refused Range)
no_hart_for_it x hart past = refused x (Hgeip hart) (Refused Range) (λ h stands.
    hgeip_refusal h hart stands.there ∙ cond-true _ _ _ (ap not (le-ltb hart (harts_of h) (omega (arith, past, stands.harts)))))
