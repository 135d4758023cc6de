-- What a step of a move that carries a number, or writes a route, makes of the numbers and the
-- routes.
use Rattle.std.proofs.Common.{◌≡◌, ℕ, ◌+◌, ◌%◌, ◌<◌, true, false, ◌||◌, if◌then◌else◌, Option, Some, refl, sym, ap, ◌∙◌, arith}
use Rattle.std.proofs.Math.Nat.{mod-eq_of_lt}
use Rattle.aia_regs.specs.declared.access.Op.TheVariants as ops
use Rattle.aia_regs.specs.declared.file_registers.FileReg.TheVariants.{Delivery, Threshold}
use Rattle.aia_file.specs.InterruptFile.{InterruptFile, accessed}
use Rattle.aia_entry.specs.Format.{decoded}
use Rattle.aia_vcpu.specs.declared.place.GuestPlace.{GuestPlace}
use Rattle.aia_vcpu.specs.Home.{Home}
use Rattle.aia_vcpu.specs.Routes.{entry_names, stage_names, peers_reach, MayReach}
use Rattle.aia_vcpu.specs.BySteps.{delivery_in_own, threshold_in_own, threshold_in_next}
use Rattle.aia_vcpu_places.specs.Places.{Places, leads_to, entry_word, IsInMap}
use Rattle.aia_vcpu_places.specs.Holds.{IsWithin, Hand, HoldsNumbers, HoldsRoutes}
use Rattle.aia_vcpu_places.proofs.EntryLemmas.{entry_back}
use Rattle.aia_regs.specs.declared.limits.TheConstants.{HARTS, SLOTS}

-- ---- the numbers

module _ (words : ℕ) (v : Places) (there later : Home) (hand now : Hand) (file : InterruptFile) (p : HoldsNumbers words v there hand file) where
  pub take_delivery-numbers : delivery_in_own there ≡ true → delivery_in_own later ≡ false → threshold_in_own words there ≡ true
      → threshold_in_own words later ≡ true
      → threshold_in_next words there ≡ false → threshold_in_next words later ≡ false → now ≡ record hand { delivery = v.own.delivery }
      → HoldsNumbers words (record v { own = accessed Delivery (ops.Write 0) v.own }) later now file
  take_delivery-numbers here gone in_own in_own_later none none_later carried = record {
    own_delivery = rw gone refl;
    next_delivery = p.next_delivery;
    kept_delivery = λ e. ap (λ (h : Hand). h.delivery) carried ∙ p.own_delivery ∙ ap (λ b. if b then file.delivery else 0) here;
    own_threshold = p.own_threshold ∙ ap (λ b. if b then file.threshold else 0) (in_own ∙ sym in_own_later);
    next_threshold = p.next_threshold ∙ ap (λ b. if b then file.threshold else 0) (none ∙ sym none_later);
    kept_threshold = λ e. let no : true ≡ false = ap (λ b. b || threshold_in_next words later) (sym in_own_later) ∙ e in absurd (cc);
  }

  pub take_threshold-numbers : delivery_in_own there ≡ false → delivery_in_own later ≡ false → threshold_in_own words there ≡ true
      → threshold_in_own words later ≡ false
      → threshold_in_next words there ≡ false → threshold_in_next words later ≡ false → now ≡ record hand { threshold = v.own.threshold }
      → HoldsNumbers words (record v { own = accessed Threshold (ops.Write 0) v.own }) later now file
  take_threshold-numbers off off_later in_own gone none none_later carried = record {
    own_delivery = p.own_delivery ∙ ap (λ b. if b then file.delivery else 0) (off ∙ sym off_later);
    next_delivery = p.next_delivery;
    kept_delivery = λ e. ap (λ (h : Hand). h.delivery) carried ∙ p.kept_delivery off;
    own_threshold = (let low : 0 < v.own.n + 1 = omega arith in mod-eq_of_lt low) ∙ sym (ap (λ b. if b then file.threshold else 0) gone);
    next_threshold = p.next_threshold ∙ ap (λ b. if b then file.threshold else 0) (none ∙ sym none_later);
    kept_threshold = λ e. ap (λ (h : Hand). h.threshold) carried ∙ p.own_threshold ∙ ap (λ b. if b then file.threshold else 0) in_own;
  }

  module _ (n : ℕ) (within : IsWithin n words file) where
    whole : hand.threshold ≡ file.threshold → hand.threshold % (n + 1) ≡ file.threshold
    whole e = let low : file.threshold < n + 1 = omega (arith, within.threshold) in ap (λ x. x % (n + 1)) e ∙ mod-eq_of_lt low

    unplaced : threshold_in_own words there ≡ false → threshold_in_next words there ≡ false → hand.threshold ≡ file.threshold
    unplaced own next = p.kept_threshold (ap (λ b. b || threshold_in_next words there) own ∙ next)

    pub put_own_threshold-numbers : v.own.n ≡ n → delivery_in_own there ≡ false → delivery_in_own later ≡ false
        → threshold_in_own words there ≡ false → threshold_in_own words later ≡ true
        → threshold_in_next words there ≡ false → threshold_in_next words later ≡ false → now.delivery ≡ hand.delivery
        → HoldsNumbers words (record v { own = accessed Threshold (ops.Write hand.threshold) v.own }) later now file
    put_own_threshold-numbers size off off_later out here none none_later same = record {
      own_delivery = p.own_delivery ∙ ap (λ b. if b then file.delivery else 0) (off ∙ sym off_later);
      next_delivery = p.next_delivery;
      kept_delivery = λ e. same ∙ p.kept_delivery off;
      own_threshold = ap (λ m. hand.threshold % (m + 1)) size ∙ whole (unplaced out none) ∙ sym (ap (λ b. if b then file.threshold else 0) here);
      next_threshold = p.next_threshold ∙ ap (λ b. if b then file.threshold else 0) (none ∙ sym none_later);
      kept_threshold = λ e. let no : true ≡ false = ap (λ b. b || threshold_in_next words later) (sym here) ∙ e in absurd (cc);
    }

    pub put_next_threshold-numbers : v.next.n ≡ n → delivery_in_own there ≡ false → delivery_in_own later ≡ false
        → threshold_in_own words there ≡ false → threshold_in_own words later ≡ false
        → threshold_in_next words there ≡ false → threshold_in_next words later ≡ true → now.delivery ≡ hand.delivery
        → HoldsNumbers words (record v { next = accessed Threshold (ops.Write hand.threshold) v.next }) later now file
    put_next_threshold-numbers size off off_later out out_later none here same = record {
      own_delivery = p.own_delivery ∙ ap (λ b. if b then file.delivery else 0) (off ∙ sym off_later);
      next_delivery = p.next_delivery;
      kept_delivery = λ e. same ∙ p.kept_delivery off;
      own_threshold = p.own_threshold ∙ ap (λ b. if b then file.threshold else 0) (out ∙ sym out_later);
      next_threshold = ap (λ m. hand.threshold % (m + 1)) size ∙ whole (unplaced out none) ∙ sym (ap (λ b. if b then file.threshold else 0) here);
      kept_threshold = λ e. let no : true ≡ false = ap (λ b. b || true) (sym out_later) ∙ ap (λ b. threshold_in_own words later || b) (sym here)
          ∙ e in absurd (cc);
    }

-- ---- the routes

module _ (q hart : ℕ) (reach : Option GuestPlace) (v : Places) (there later : Home) (to : Option GuestPlace)
    (p : HoldsRoutes q hart reach v there) where
  pub write_entry-routes : entry_names later ≡ to → ((place : Option GuestPlace) → MayReach there place → MayReach later place)
      → stage_names later ≡ stage_names there → peers_reach later ≡ peers_reach there
      → HoldsRoutes q hart reach (record v { word0 = entry_word q to }) later
  write_entry-routes entry devices stage peers = record {
    word0 = ap (entry_word q) (sym entry);
    word1 = p.word1;
    in_force = p.in_force;
    may = devices reach p.may;
    stage = p.stage ∙ sym stage;
    stage_in_force = p.stage_in_force ∙ sym peers;
  }

  pub map-routes : entry_names later ≡ entry_names there → ((place : Option GuestPlace) → MayReach there place → MayReach later place)
      → stage_names later ≡ to → peers_reach later ≡ peers_reach there
      → HoldsRoutes q hart reach (record v { stage = to }) later
  map-routes entry devices stage peers = record {
    word0 = p.word0 ∙ ap (entry_word q) (sym entry);
    word1 = p.word1;
    in_force = p.in_force;
    may = devices reach p.may;
    stage = sym stage;
    stage_in_force = p.stage_in_force ∙ sym peers;
  }

  pub fence-routes : entry_names there ≡ to → entry_names later ≡ to → MayReach later (entry_names there) → stage_names later ≡ stage_names there
      → peers_reach later ≡ peers_reach there
      → q < SLOTS → hart < HARTS → ((f : GuestPlace) → to ≡ Some f → IsInMap f)
      → HoldsRoutes q hart (entry_names there) (record v { in_force = decoded v.word0 v.word1 }) later
  fence-routes entry entry_later devices stage peers low few fits = record {
    word0 = p.word0 ∙ ap (entry_word q) (entry ∙ sym entry_later);
    word1 = p.word1;
    in_force = ap (λ w. decoded w v.word1) (p.word0 ∙ ap (entry_word q) entry) ∙ ap (λ w. decoded (entry_word q to) w) p.word1
        ∙ entry_back q hart to low few fits ∙ ap (leads_to q hart) (sym entry);
    may = devices;
    stage = p.stage ∙ sym stage;
    stage_in_force = p.stage_in_force ∙ sym peers;
  }

  pub gfence-routes : entry_names later ≡ entry_names there → ((place : Option GuestPlace) → MayReach there place → MayReach later place)
      → stage_names there ≡ to → stage_names later ≡ to → peers_reach later ≡ to
      → HoldsRoutes q hart reach (record v { stage_in_force = v.stage }) later
  gfence-routes entry devices stage stage_later peers = record {
    word0 = p.word0 ∙ ap (entry_word q) (sym entry);
    word1 = p.word1;
    in_force = p.in_force;
    may = devices reach p.may;
    stage = p.stage ∙ stage ∙ sym stage_later;
    stage_in_force = p.stage ∙ stage ∙ sym peers;
  }
