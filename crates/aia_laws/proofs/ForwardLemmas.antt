-- The forward of a passed source: one store for its guest, and nothing else.
use Rattle.std.proofs.Common.{◌≡◌, ℕ, ◌%◌, ◌<◌, ◌≤◌, ◌&&◌, Bool, true, false, cond, nat_eq, is_some, is_none, List, [], ◌∷◌, length, Option, Some, None, inl, inr, refl, sym, ap, subst, ◌∙◌, arith}
use Rattle.std.specs.Option.{option_map}
use Rattle.std.specs.Int.{is_in_range}
use Rattle.std.specs.List.{Contains}
use Rattle.std.proofs.lemmas.Bool.{cases_Bool, cases_lt, cond-true, cond-false, eq-eqb, eqb-true, eqb-false, ltb-true}
use Rattle.aia_regs.specs.AddressMap.{machine_page, supervisor_page, guest_page, is_in_page}
use Rattle.aia_regs.specs.declared.limits.TheConstants.{HARTS, GUEST_FILES}
use Rattle.aia_regs.specs.declared.address_map.TheConstants.{SUPERVISOR_FILES, PAGE}
use Rattle.aia_regs.specs.BitUpdate.{settle, names}
use Rattle.aia_regs.specs.BitUpdate.BitUpdate.{Ask, Nothing}
use Rattle.aia_regs.specs.Request.{requested}
use Rattle.aia_file.specs.InterruptFile.{InterruptFile}
use Rattle.aia_file.specs.Map.{is_guest_page}
use Rattle.aia_file.proofs.MapLemmas.{in_page, before_page, after_page, spot_of_host, spot_of_guest}
use Rattle.aia_regs.proofs.ListLemmas.{here_or_later, nowhere}
use Rattle.aia_vcpu.specs.declared.place.GuestPlace.{GuestPlace}
use Rattle.aia_vcpu.specs.Vms.{Vcpu, notice_identity}
use Rattle.aia_vcpu.specs.Aims.{host_identity}
use Rattle.aia_model.specs.declared.line.Line.{Line}
use Rattle.aia_model.specs.declared.msi.Msi.{Msi}
use Rattle.aia_model.specs.Event.{History, has_machine, harts_of, guests_of}
use Rattle.aia_model.specs.Event.Event.{Delivered, Relayed}
use Rattle.aia_model.specs.Vms.{vms_of}
use Rattle.aia_model.specs.Passes.{passes_of, nth_pass, passed_by}
use Rattle.aia_model.specs.Aim.{pass_reach, pass_notice_hart, page_to, value_to, IsForward, IsForwardIf}
use Rattle.aia_model.specs.HomeOf.{home}
use Rattle.aia_model.specs.GuestFile.{goes_to_guest, guest_deed, passed_deed, guest_file, guest_select}
use Rattle.aia_model.specs.Notice.{noticed}
use Rattle.aia_model.specs.FileAfter.{select_by, file_by, file_after, relay_said, notice_asked}
use Rattle.aia_model.specs.FileAfter.FileDeed.{Stores, Rests}
use Rattle.aia_model.specs.FileOf.{FileName, MachineFile, SupervisorFile, is_file, store_deed, file_of}
use Rattle.aia_model.specs.Sent.{msis_sent_by}
use Rattle.aia_model.specs.Refusal.{refusal}
use Rattle.aia_model.specs.Answer.{after, line_taken, msi_taken, given_on, delivered}
use Rattle.aia_model.specs.Histories.{IsHistory}
use Rattle.aia_model.specs.PassesStand.{AreForwards}
use Rattle.aia_model.proofs.AnswerLemmas.{after_by}
use Rattle.aia_model.proofs.MoveLemmas.{is_itself}
use Rattle.aia_model.proofs.PlaceLemmas.{IsPlaceOf, IsSized, sized, notice_fits, all_held}
use Rattle.aia_model.proofs.PassReachLemmas.{reach_is_held}
use Rattle.aia_model.proofs.PassesStandLemmas.{passes_stand}
use Rattle.aia_model.proofs.SentLemmas.{number_found, forwards_then, forwards_given, line_forwards}
use Rattle.aia_model.proofs.HistoryLemmas.{msi_by_pass, given_happens, line_happens, stands_then}
use Rattle.aia_laws.specs.Forwards.{pass_file, has_file, forward_deed, forward_said}
use Rattle.aia_model.proofs.GreatestLemmas.{guest_greatest}
use Rattle.aia_laws.proofs.AfterLemmas.{msis_keep}

-- ---- where it goes

own_page : (page : ℕ) → is_in_page page page ≡ true
own_page page = in_page page page (omega arith) (omega arith)

-- its notice hart is there, and so is the guest file where it leads
notice_there : (h : History) (p : ℕ) → IsHistory h → p < length (passes_of h) → pass_notice_hart h p < harts_of h
notice_there h p good low = notice_fits h (nth_pass h p).to good ((passes_stand h good).pass p low).there

place_there : (h : History) (p : ℕ) (q : GuestPlace) → IsHistory h → pass_reach h p ≡ Some q → IsPlaceOf h q
place_there h p q good r = all_held h (nth_pass h p).to good q (reach_is_held _ (home h (nth_pass h p).to) q r)

pub memory_page : (h : History) (p : ℕ) (msi : Msi) → IsHistory h → p < length (passes_of h) → IsForward h p msi → pass_reach h p ≡ None
    → goes_to_guest h msi ≡ false
memory_page h p msi good low forward r =
    let addr : msi.address ≡ supervisor_page (pass_notice_hart h p) = forward.page ∙ ap (λ o. page_to (pass_notice_hart h p) o) r in
    ap is_guest_page (spot_of_host (harts_of h) (guests_of h) msi.address (pass_notice_hart h p) (sized h good).harts (notice_there h p good low)
    (ap (is_in_page (supervisor_page (pass_notice_hart h p))) addr ∙ own_page (supervisor_page (pass_notice_hart h p))))

file_page : (h : History) (p : ℕ) (msi : Msi) (q : GuestPlace) → IsHistory h → IsForward h p msi → pass_reach h p ≡ Some q
    → goes_to_guest h msi ≡ true
file_page h p msi q good forward r =
    let addr : msi.address ≡ guest_page q.hart q.file = forward.page ∙ ap (λ o. page_to (pass_notice_hart h p) o) r in
    let one = place_there h p q good r in
    ap is_guest_page (spot_of_guest (harts_of h) (guests_of h) msi.address q.hart q.file (sized h good).harts (sized h good).guests one.hart
    one.some one.file (ap (is_in_page (guest_page q.hart q.file)) addr ∙ own_page (guest_page q.hart q.file)))

-- the page of a supervisor file is in no other file's
other_page : (x y : ℕ) → nat_eq x y ≡ false → is_in_page (supervisor_page x) (supervisor_page y) ≡ false
other_page x y other =
    let ne = eqb-false x y other in
    elim (cases_lt x y) [
      | inl less ↦ after_page (supervisor_page x) (supervisor_page y) (omega (arith, less))
      | inr more ↦ by_eq x y more ne
    ]
  where
    by_eq : (x y : ℕ) → y ≤ x → (x ≡ y → ⊥) → is_in_page (supervisor_page x) (supervisor_page y) ≡ false
    by_eq x y more ne = before_page (supervisor_page x) (supervisor_page y) (omega (arith, more, ne))

guest_no_host : (hart file x : ℕ) → 1 ≤ file → file ≤ GUEST_FILES → is_in_page (supervisor_page x) (guest_page hart file) ≡ false
guest_no_host hart file x some few = elim (cases_lt hart x) [
  | inl less ↦ before_page (supervisor_page x) (guest_page hart file) (omega (arith, less, few))
  | inr more ↦ after_page (supervisor_page x) (guest_page hart file) (omega (arith, more, some))
]

no_machine_page : (x addr : ℕ) → x < HARTS → SUPERVISOR_FILES ≤ addr → is_in_page (machine_page x) addr ≡ false
no_machine_page x addr low high = after_page (machine_page x) addr (omega (arith, low, high))

-- at the file where it is known it is a store of the identity of the pass there; at no other file
-- of the host is it a store
stored_host : (f : FileName) (h : History) (notice p address value : ℕ) → IsSized h → has_file h f ≡ true → address ≡ supervisor_page notice
    → value ≡ host_identity p → store_deed f address value ≡ cond (is_file f (SupervisorFile notice)) (Stores 0 (host_identity p)) Rests
stored_host (MachineFile x) h notice p address value size there at is =
    let low = ltb-true x (harts_of h) there in let few = size.harts in
    cond-false _ _ _ (no_machine_page x address (omega (arith, low, few)) (omega (arith, at)))
stored_host (SupervisorFile x) h notice p address value size there at is = elim (cases_Bool (nat_eq x notice)) [
  | inl own ↦
      let same = eqb-true x notice own in
      let offset : address % PAGE ≡ 0 = omega (arith, at) in
      cond-true _ _ _ (ap (λ y. is_in_page (supervisor_page y) address) same ∙ ap (is_in_page (supervisor_page notice)) at
      ∙ own_page (supervisor_page notice))
      ∙ ap (λ o. Stores o value) offset ∙ ap (Stores 0) is ∙ sym (cond-true _ _ _ own)
  | inr other ↦ cond-false _ _ _ (ap (is_in_page (supervisor_page x)) at ∙ other_page x notice other) ∙ sym (cond-false _ _ _ other)
]

guest_unstored : (f : FileName) (h : History) (q : GuestPlace) (address value : ℕ) → IsSized h → IsPlaceOf h q → has_file h f ≡ true
    → address ≡ guest_page q.hart q.file → store_deed f address value ≡ Rests
guest_unstored (MachineFile x) h q address value size one there at =
    let low = ltb-true x (harts_of h) there in let few = size.harts in
    cond-false _ _ _ (no_machine_page x address (omega (arith, low, few)) (omega (arith, at)))
guest_unstored (SupervisorFile x) h q address value size one there at =
    let some = one.some in let file = one.file in let few = size.guests in
    cond-false _ _ _ (ap (is_in_page (supervisor_page x)) at ∙ guest_no_host q.hart q.file x some (omega (arith, file, few)))

-- An MSI is that of a pass, and goes where the pass leads: to the page of a guest file, and of no
-- file of the host; or to the host, with the identity of the pass there.
record GoesAsAimed (h : History) (p : ℕ) (msi : Msi) : Type 0 where
  passed : passed_by h msi.source ≡ Some p
  page : goes_to_guest h msi ≡ is_some (pass_reach h p)
  host : (f : FileName) → has_file h f ≡ true → store_deed f msi.address msi.value ≡ cond (is_none (pass_reach h p) && is_file f (pass_file h p))
      (Stores 0 (host_identity p)) Rests

goes_as_aimed : (h : History) (p : ℕ) (msi : Msi) → IsHistory h → passed_by h msi.source ≡ Some p → IsForward h p msi → GoesAsAimed h p msi
goes_as_aimed h p msi good passed forward = by_reach (pass_reach h p) refl
  where
    low : p < length (passes_of h)
    low = number_found h msi.source p passed

    by_reach : (o : Option GuestPlace) → pass_reach h p ≡ o → GoesAsAimed h p msi
    by_reach None r = record {
      passed = passed;
      page = memory_page h p msi good low forward r ∙ sym (ap is_some r);
      host = λ f there. stored_host f h (pass_notice_hart h p) p msi.address msi.value (sized h good) there
          (forward.page ∙ ap (λ o. page_to (pass_notice_hart h p) o) r)
          (forward.value ∙ ap (λ o. value_to p (nth_pass h p).identity o) r)
          ∙ sym (ap (λ (o : Option GuestPlace). cond (is_none o && is_file f (pass_file h p)) (Stores 0 (host_identity p)) Rests) r);
    }
    by_reach (Some q) r = record {
      passed = passed;
      page = file_page h p msi q good forward r ∙ sym (ap is_some r);
      host = λ f there. guest_unstored f h q msi.address msi.value (sized h good) (place_there h p q good r) there
          (forward.page ∙ ap (λ o. page_to (pass_notice_hart h p) o) r)
          ∙ sym (ap (λ (o : Option GuestPlace). cond (is_none o && is_file f (pass_file h p)) (Stores 0 (host_identity p)) Rests) r);
    }

-- ---- what it does

-- an MSI of a pass that leads to a guest file is delivered; one that leads to memory is given on
-- too
taken_at_file : (h : History) (p : ℕ) (msi : Msi) (q : GuestPlace) → passed_by h msi.source ≡ Some p → pass_reach h p ≡ Some q
    → msi_taken msi h ≡ Delivered msi ∷ h
unfolding passes_of home
taken_at_file h p msi q e r = ap (λ o. given_on o (Delivered msi ∷ h)) e
    ∙ ap (λ (o : Option GuestPlace). cond (is_none o) (Relayed p ∷ Delivered msi ∷ h) (Delivered msi ∷ h)) r

taken_in_memory : (h : History) (p : ℕ) (msi : Msi) → passed_by h msi.source ≡ Some p → pass_reach h p ≡ None
    → msi_taken msi h ≡ Relayed p ∷ Delivered msi ∷ h
unfolding passes_of home
taken_in_memory h p msi e r = ap (λ o. given_on o (Delivered msi ∷ h)) e
    ∙ ap (λ (o : Option GuestPlace). cond (is_none o) (Relayed p ∷ Delivered msi ∷ h) (Delivered msi ∷ h)) r

forwarded_file : (h : History) (p : ℕ) (msi : Msi) (g : Vcpu) → GoesAsAimed h p msi
    → guest_file (msi_taken msi h) g ≡ file_after (guest_select h g) (forward_deed h p g) (guest_file h g)
unfolding select_by file_by passes_of
forwarded_file h p msi g goes = by_reach (pass_reach h p) refl
  where
    by_reach : (o : Option GuestPlace) → pass_reach h p ≡ o
        → guest_file (msi_taken msi h) g ≡ file_after (guest_select h g) (forward_deed h p g) (guest_file h g)
    by_reach (Some q) r =
        let there : goes_to_guest h msi ≡ true = goes.page ∙ ap is_some r in
        ap (λ x. guest_file x g) (taken_at_file h p msi q goes.passed r)
        ∙ ap (λ deed. file_after (guest_select h g) deed (guest_file h g))
        (ap (λ b. cond b (passed_deed g h (passed_by h msi.source)) Rests) there ∙ ap (passed_deed g h) goes.passed)
    by_reach None r =
        let away : goes_to_guest h msi ≡ false = goes.page ∙ ap is_some r in
        let rests : guest_deed g h (Delivered msi) ≡ Rests = ap (λ b. cond b (passed_deed g h (passed_by h msi.source)) Rests) away in
        ap (λ x. guest_file x g) (taken_in_memory h p msi goes.passed r)
        ∙ ap (λ deed. file_after (guest_select (Delivered msi ∷ h) g) (forward_deed h p g)
        (file_after (guest_select h g) deed (guest_file h g))) rests
        ∙ ap (λ n. file_after n (forward_deed h p g) (guest_file h g)) (still rests)
      where
        still : guest_deed g h (Delivered msi) ≡ Rests → guest_select (Delivered msi ∷ h) g ≡ guest_select h g
        still e = rw e refl

-- so its identity is pending at its guest then
forwarded_asks : (h : History) (p : ℕ) (msi : Msi) → GoesAsAimed h p msi
    → is_in_range 1 (guest_file h (nth_pass h p).to).n (nth_pass h p).identity ≡ true
    → (guest_file (msi_taken msi h) (nth_pass h p).to).pending (nth_pass h p).identity ≡ true
forwarded_asks h p msi goes range =
    ap (λ (file : InterruptFile). file.pending (nth_pass h p).identity)
    (forwarded_file h p msi (nth_pass h p).to goes
    ∙ ap (λ b. file_after (guest_select h (nth_pass h p).to) (cond b (Stores 0 (nth_pass h p).identity) Rests)
    (guest_file h (nth_pass h p).to)) (is_itself (nth_pass h p).to))
    ∙ stored (guest_select h (nth_pass h p).to) (guest_file h (nth_pass h p).to) (nth_pass h p).identity range
  where
    stored : (select : ℕ) (file : InterruptFile) (i : ℕ) → is_in_range 1 file.n i ≡ true → (file_after select (Stores 0 i) file).pending i ≡ true
    stored select file i r = rw (r, eq-eqb i i refl) refl

-- in the host's files it clears the pass's own identity and asks for the notice, and says nothing
-- else
own_first : (x n : ℕ) (notice : Option ℕ) (i : ℕ) (was : Bool)
    → settle (relay_said n x notice i) (settle (cond (names (requested n 0 x) i) Ask Nothing) was) ≡ settle (relay_said n x notice i) was
own_first x n notice i was = elim (cases_Bool (names (notice_asked n notice) i)) [
  | inl told ↦ rw told refl
  | inr untold ↦ elim (cases_Bool (nat_eq x i)) [
    | inl own ↦ rw (untold, own) refl
    | inr other ↦ rw (untold, other) (by_range (is_in_range 1 n x) refl other)
  ]
]
  where
    by_range : (b : Bool) → is_in_range 1 n x ≡ b → nat_eq x i ≡ false → settle (cond (names (requested n 0 x) i) Ask Nothing) was ≡ was
    by_range true r other = rw (r, other) refl
    by_range false r other = rw r refl

forwarded_hosts : (h : History) (p : ℕ) (msi : Msi) (f : FileName) (i : ℕ) → GoesAsAimed h p msi → has_file h f ≡ true
    → (file_of (msi_taken msi h) f).pending i ≡ settle (forward_said h p msi f i) ((file_of h f).pending i)
unfolding select_by file_by passes_of
forwarded_hosts h p msi f i goes there = by_reach (pass_reach h p) refl
  where
    told : Option ℕ
    told = option_map (notice_identity (vms_of h)) (noticed (Delivered msi ∷ h) (Relayed p))

    by_reach : (o : Option GuestPlace) → pass_reach h p ≡ o
        → (file_of (msi_taken msi h) f).pending i ≡ settle (forward_said h p msi f i) ((file_of h f).pending i)
    by_reach (Some q) r =
        let rests : store_deed f msi.address msi.value ≡ Rests = goes.host f there
        ∙ ap (λ (o : Option GuestPlace). cond (is_none o && is_file f (pass_file h p)) (Stores 0 (host_identity p)) Rests) r in
        rw r (ap (λ x. (file_of x f).pending i) (taken_at_file h p msi q goes.passed r) ∙ (rw rests refl))
    by_reach None r = by_file (is_file f (pass_file h p)) refl
      where
        by_file : (b : Bool) → is_file f (pass_file h p) ≡ b
            → (file_of (msi_taken msi h) f).pending i ≡ settle (forward_said h p msi f i) ((file_of h f).pending i)
        by_file true own =
            let stores : store_deed f msi.address msi.value ≡ Stores 0 (host_identity p) = goes.host f there
            ∙ ap (λ (o : Option GuestPlace). cond (is_none o && is_file f (pass_file h p)) (Stores 0 (host_identity p)) Rests) r
            ∙ cond-true _ _ _ own in
            rw (r, own) (ap (λ x. (file_of x f).pending i) (taken_in_memory h p msi goes.passed r)
            ∙ rw (stores, own) (own_first (host_identity p) (file_of h f).n told i ((file_of h f).pending i)))
        by_file false other =
            let rests : store_deed f msi.address msi.value ≡ Rests = goes.host f there
            ∙ ap (λ (o : Option GuestPlace). cond (is_none o && is_file f (pass_file h p)) (Stores 0 (host_identity p)) Rests) r
            ∙ cond-false _ _ _ other in
            rw (r, other) (ap (λ x. (file_of x f).pending i) (taken_in_memory h p msi goes.passed r) ∙ rw (rests, other) refl)

-- ---- in every history whose events may happen

pub forward_file : (h : History) (p : ℕ) (msi : Msi) (g : Vcpu) → IsHistory h → passed_by h msi.source ≡ Some p → IsForward h p msi
    → guest_file (msi_taken msi h) g ≡ file_after (guest_select h g) (forward_deed h p g) (guest_file h g)
forward_file h p msi g good passed forward = forwarded_file h p msi g (goes_as_aimed h p msi good passed forward)

pub forward_asks : (h : History) (p : ℕ) (msi : Msi) → IsHistory h → passed_by h msi.source ≡ Some p → IsForward h p msi
    → (guest_file (msi_taken msi h) (nth_pass h p).to).pending (nth_pass h p).identity ≡ true
forward_asks h p msi good passed forward =
    let range = ((passes_stand h good).pass p (number_found h msi.source p passed)).identity in
    forwarded_asks h p msi (goes_as_aimed h p msi good passed forward)
    (ap (λ n. is_in_range 1 n (nth_pass h p).identity) (guest_greatest h (nth_pass h p).to) ∙ range)

pub forward_hosts : (h : History) (p : ℕ) (msi : Msi) (f : FileName) (i : ℕ) → IsHistory h → passed_by h msi.source ≡ Some p → IsForward h p msi
    → has_file h f ≡ true
    → (file_of (msi_taken msi h) f).pending i ≡ settle (forward_said h p msi f i) ((file_of h f).pending i)
forward_hosts h p msi f i good passed forward there = forwarded_hosts h p msi f i (goes_as_aimed h p msi good passed forward) there

-- ---- all that a line sends

-- over the MSIs that are left: a pass is the same one while they are delivered
abbrev IsPassOf : History → Msi → ℕ → Vcpu → ℕ → Type 0
IsPassOf h msi p g i = (passed_by h msi.source ≡ Some p) × ((nth_pass h p).to ≡ g) × ((nth_pass h p).identity ≡ i)

pass_then : (m msi : Msi) (q : ℕ) (h : History) (p : ℕ) (g : Vcpu) (i : ℕ) (o : Option ℕ) → msi.source ≡ o → IsPassOf h msi p g i
    → IsPassOf (Delivered m ∷ h) msi p g i × IsPassOf (Relayed q ∷ Delivered m ∷ h) msi p g i
unfolding passes_of
pass_then m msi q h p g i None e is = let none : ◌≡◌ {A = Option ℕ} None (Some p) = sym (ap (passed_by h) e) ∙ is.0 in absurd (cc)
pass_then m msi q h p g i (Some s) e is =
    let known = sym (ap (passed_by h) e) ∙ is.0 in
    ((ap (passed_by (Delivered m ∷ h)) e ∙ known, is.1, is.2), (ap (passed_by (Relayed q ∷ Delivered m ∷ h)) e ∙ known, is.1, is.2))

delivered_asks : (sent : List Msi) (h : History) (msi : Msi) (p : ℕ) (g : Vcpu) (i : ℕ) → has_machine h ≡ true → IsHistory h → AreForwards h sent
    → Contains sent msi → IsPassOf h msi p g i → (guest_file (delivered sent h) g).pending i ≡ true
delivered_asks [] h msi p g i stands good all m is = nowhere msi m
delivered_asks (x ∷ later) h msi p g i stands good all m is = elim (here_or_later x msi later m) [
  | inl same ↦ msis_keep later (msi_taken x h) g i (first same)
  | inr in_later ↦ msi_by_pass (λ k. (guest_file (delivered later k) g).pending i ≡ true) x h
      (delivered_asks later (Delivered x ∷ h) msi p g i stands ((stands, all.0), good) (forwards_then x h later all.1) in_later
      (pass_then x msi 0 h p g i msi.source refl is).0)
      (λ q e r. delivered_asks later (Relayed q ∷ Delivered x ∷ h) msi p g i stands (given_happens q x h e r ((stands, all.0), good))
      (forwards_given q (Delivered x ∷ h) later (forwards_then x h later all.1)) in_later (pass_then x msi q h p g i msi.source refl is).1)
]
  where
    first : x ≡ msi → (guest_file (msi_taken x h) g).pending i ≡ true
    first same =
        let passed : passed_by h x.source ≡ Some p = ap (λ (y : Msi). passed_by h y.source) same ∙ is.0 in
        let forward : IsForward h p x = subst (IsForwardIf h x) passed all.0 in
        subst (λ j. (guest_file (msi_taken x h) g).pending j ≡ true) is.2
        (subst (λ y. (guest_file (msi_taken x h) y).pending (nth_pass h p).identity ≡ true) is.1 (forward_asks h p x good passed forward))

pub line_asks : (h : History) (line : Line) (msi : Msi) (p : ℕ) → IsHistory h → refusal h line ≡ None → Contains (msis_sent_by h line) msi
    → passed_by (line_taken h line) msi.source ≡ Some p
    → (guest_file (after h line) (nth_pass (line_taken h line) p).to).pending (nth_pass (line_taken h line) p).identity ≡ true
line_asks h line msi p good e m passed =
    ap (λ x. (guest_file x (nth_pass (line_taken h line) p).to).pending (nth_pass (line_taken h line) p).identity) (after_by h line None e)
    ∙ delivered_asks (msis_sent_by h line) (line_taken h line) msi p (nth_pass (line_taken h line) p).to (nth_pass (line_taken h line) p).identity
    (stands_then h line e) (line_happens h line e good) (line_forwards h line e good) m (passed, refl, refl)
