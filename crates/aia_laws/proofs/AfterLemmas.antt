-- What a line makes of a virtual hart: a move changes nothing there, nor does an MSI that is
-- delivered, and any other accepted line does what its one event does.
use Rattle.aia_vcpu.specs.Routes.{is_at_fence}
use Rattle.aia_regs.specs.BitUpdate.BitUpdate.{Ask, Nothing}
use Rattle.aia_regs.specs.Request.{requested}
use Rattle.aia_model.specs.Passes.{passes_of, nth_pass, passed_by, passes_for}
use Rattle.aia_model.specs.Aim.{pass_reach}
use Rattle.aia_model.specs.HomeOf.{home}
use Rattle.aia_model.proofs.FlightLemmas.{all_at, all_remove}
use Rattle.aia_model.specs.Flight.{Sending, flight, flying}
use Rattle.std.specs.Option.{option_map_or}
use Rattle.std.specs.List.{AllByRecursion, list_any}
use Rattle.std.proofs.Common.{◌≡◌, ◌≢◌, ℕ, zero, suc, true, false, not, ◌⊎◌, nat_eq, List, [], ◌∷◌, Option, Some, None, inl, inr, refl, sym, ap, subst, ◌∙◌, Bool, ◌&&◌, ◌||◌, ◌+◌, length, cond, is_none}
use Rattle.std.proofs.lemmas.Bool.{cond-false, not-true, eqb-false, ne_eqb, and_left, and_right, false≢true, eq-eqb, cases_Bool, or_parts}
use Rattle.aia_regs.specs.BitUpdate.{settle, names}
use Rattle.aia_file.specs.InterruptFile.{InterruptFile}
use Rattle.aia_vcpu.specs.Vms.{Vcpu, vcpu_of, is_vcpu}
use Rattle.aia_model.specs.declared.line.Line.{Line}
use Rattle.aia_model.specs.declared.line.Line.TheVariants.{Machine, Wire, Load, Store, GuestCsr, Ipi, Step, Land, LoadPart}
use Rattle.aia_model.specs.declared.line.Line.TheVariants as lines
use Rattle.aia_model.specs.declared.want.Want.TheVariants as wants
use Rattle.aia_model.specs.declared.answer.Answer.{Answer}
use Rattle.aia_model.specs.declared.msi.Msi.{Msi}
use Rattle.aia_model.specs.Move.{WantedMove, mover, wanted_move, LineDeed, line_deed}
use Rattle.aia_model.proofs.BeginLemmas.{moves_its_own}
use Rattle.aia_model.specs.Move.LineDeed.{NoMove, Whole, Begins, Steps, Lands}
use Rattle.aia_model.specs.Event.{Event, History, has_machine, file_words}
use Rattle.aia_model.specs.Event.Event.{Accepted, Began, Stepped, Delivered, Landed, Relayed}
use Rattle.aia_model.specs.FileAfter.{select_by, select_after, file_by, file_after}
use Rattle.aia_model.specs.FileAfter.FileDeed.{Rests}
use Rattle.aia_model.specs.GuestFile.{named_by, guest_deed, guest_file, guest_select, sent_to, goes_to_guest}
use Rattle.aia_model.specs.MajorOf.{majors_of}
use Rattle.aia_model.specs.Refusal.{refusal}
use Rattle.aia_model.specs.Sent.{msis_sent_by}
use Rattle.aia_model.specs.Answer.{after, line_taken, deed_taken, steps_of, steps_taken, delivered, step_taken, oldest_landed, landed_first, given_on, msi_taken}
use Rattle.aia_model.proofs.AnswerLemmas.{after_by}
use Rattle.aia_model.proofs.FileLemmas.{file_by_step, newest_word}
use Rattle.aia_laws.specs.Requests.{speaks_to, names_other_vm, flies_to, event_of, does_steps, is_passed_to, forwards_to}
use Rattle.aia_laws.specs.Told.{guest_pending_said}
use Rattle.aia_model.proofs.GreatestLemmas.{machine_with, guest_made, not_making}
use Rattle.aia_model.proofs.RefusalLemmas.{machine_allowed}
use Rattle.aia_model.proofs.SentLemmas.{may_send, none_sent_by}

-- A virtual hart has the same file, select number and majors after one history as after another.
abbrev pub IsSameGuest : History → History → Vcpu → Type 0
IsSameGuest new old g = (guest_file new g ≡ guest_file old g) × (guest_select new g ≡ guest_select old g) × (majors_of new g ≡ majors_of old g)

pub and_same : (new mid old : History) (g : Vcpu) → IsSameGuest new mid g → IsSameGuest mid old g → IsSameGuest new old g
and_same new mid old g late early = (late.0 ∙ early.0, late.1 ∙ early.1, late.2 ∙ early.2)

-- ---- moves and MSIs

pub begun_same : (move : WantedMove) (h : History) (g : Vcpu) → IsSameGuest (Began move ∷ h) h g
unfolding select_by file_by majors_of
begun_same move h g = (refl, refl, refl)

pub stepped_same : (x : Vcpu) (h : History) (g : Vcpu) → IsSameGuest (Stepped x ∷ h) h g
unfolding select_by file_by majors_of
stepped_same x h g = (refl, refl, refl)

-- an MSI that is for no source passed to it, and one that is given on
msi_same : (msi : Msi) (h : History) (g : Vcpu) → is_passed_to h g msi.source ≡ false → IsSameGuest (Delivered msi ∷ h) h g
unfolding select_by file_by majors_of
msi_same msi h g other = by_page (goes_to_guest h msi) refl
  where
    by_pass : (o : Option ℕ) → passed_by h msi.source ≡ o → option_map_or (λ p. is_vcpu g (nth_pass h p).to) o false ≡ false
        → goes_to_guest h msi ≡ true → IsSameGuest (Delivered msi ∷ h) h g
    by_pass None e none there = rw (there, e) (refl, refl, refl)
    by_pass (Some p) e none there = rw (there, e, none) (refl, refl, refl)

    by_page : (b : Bool) → goes_to_guest h msi ≡ b → IsSameGuest (Delivered msi ∷ h) h g
    by_page true there = by_pass (passed_by h msi.source) refl other there
    by_page false there = rw there (refl, refl, refl)

relay_same : (p : ℕ) (h : History) (g : Vcpu) → is_vcpu g (nth_pass h p).to ≡ false → IsSameGuest (Relayed p ∷ h) h g
unfolding select_by file_by majors_of
relay_same p h g other = rw other (refl, refl, refl)

-- no store in flight of a VM is for it
abbrev Still : History → ℕ → Vcpu → Type 0
Still h vm g = AllByRecursion (λ s. is_vcpu g (sent_to vm s) ≡ false) (flight h vm)

still : (h : History) (vm : ℕ) (g : Vcpu) → flies_to h vm g ≡ false → Still h vm g
still h vm g e = none_of (flight h vm) e
  where
    none_of : (xs : List Sending) → list_any (λ s. is_vcpu g (sent_to vm s)) xs ≡ false → AllByRecursion (λ s. is_vcpu g (sent_to vm s) ≡ false) xs
    none_of [] e = tt
    none_of (x ∷ xs) e = let parts = or_parts (is_vcpu g (sent_to vm x)) (list_any (λ s. is_vcpu g (sent_to vm s)) xs) e in
        (parts.0, none_of xs parts.1)

landing_same : (vm k : ℕ) (h : History) (g : Vcpu) → Still h vm g → IsSameGuest (Landed vm k ∷ h) h g
unfolding select_by file_by majors_of
landing_same vm k h g all = by_store (flying h vm k) refl
  where
    by_store : (o : Option Sending) → flying h vm k ≡ o → IsSameGuest (Landed vm k ∷ h) h g
    by_store None e = rw e (refl, refl, refl)
    by_store (Some s) e = rw (e, all_at (λ s. is_vcpu g (sent_to vm s) ≡ false) k (flight h vm) s e all) (refl, refl, refl)

still_landed : (vm k : ℕ) (h : History) (g : Vcpu) → Still h vm g → Still (Landed vm k ∷ h) vm g
unfolding flight
still_landed vm k h g all = rw (eq-eqb vm vm refl) (all_remove (λ s. is_vcpu g (sent_to vm s) ≡ false) k (flight h vm) all)

still_stepped : (vm : ℕ) (x : Vcpu) (h : History) (g : Vcpu) → Still h vm g → Still (Stepped x ∷ h) vm g
unfolding flight
still_stepped vm x h g all = all

still_begun : (vm : ℕ) (move : WantedMove) (h : History) (g : Vcpu) → Still h vm g → Still (Began move ∷ h) vm g
unfolding flight
still_begun vm move h g all = all

landed_same : (count vm : ℕ) (h : History) (g : Vcpu) → Still h vm g → IsSameGuest (oldest_landed count vm h) h g
    × Still (oldest_landed count vm h) vm g
landed_same zero vm h g all = ((refl, refl, refl), all)
landed_same (suc count) vm h g all =
    let rest = landed_same count vm (Landed vm 0 ∷ h) g (still_landed vm 0 h g all) in
    (and_same _ (Landed vm 0 ∷ h) h g rest.0 (landing_same vm 0 h g all), rest.1)

first_same : (x : Vcpu) (h : History) (g : Vcpu) → Still h x.vm g → IsSameGuest (landed_first x h) h g × Still (landed_first x h) x.vm g
first_same x h g all = by_fence (is_at_fence (home h x)) refl
  where
    by_fence : (b : Bool) → is_at_fence (home h x) ≡ b → IsSameGuest (landed_first x h) h g × Still (landed_first x h) x.vm g
    by_fence true e = rw e (landed_same (length (flight h x.vm)) x.vm h g all)
    by_fence false e = rw e ((refl, refl, refl), all)

step_same : (x : Vcpu) (h : History) (g : Vcpu) → Still h x.vm g → IsSameGuest (step_taken x h) h g × Still (step_taken x h) x.vm g
step_same x h g all =
    let first = first_same x h g all in
    (and_same _ (landed_first x h) h g (stepped_same x (landed_first x h) g) first.0, still_stepped x.vm x (landed_first x h) g first.1)

steps_same : (count : ℕ) (x : Vcpu) (h : History) (g : Vcpu) → Still h x.vm g → IsSameGuest (steps_taken count x h) h g
steps_same zero x h g all = (refl, refl, refl)
steps_same (suc count) x h g all = let one = step_same x h g all in
    and_same _ (step_taken x h) h g (steps_same count x (step_taken x h) g one.1) one.0

abbrev NonePassed : History → Vcpu → List Msi → Type 0
NonePassed h g sent = AllByRecursion (λ (msi : Msi). is_passed_to h g msi.source ≡ false) sent

passed_given : (msi : Msi) (h : History) (g : Vcpu) (o : Option ℕ) → (is_passed_to (Delivered msi ∷ h) g o ≡ is_passed_to h g o)
    × ((p : ℕ) → is_passed_to (Relayed p ∷ Delivered msi ∷ h) g o ≡ is_passed_to h g o)
unfolding passes_of
passed_given msi h g None = (refl, λ p. refl)
passed_given msi h g (Some s) = (refl, λ p. refl)

none_delivered : (msi : Msi) (h : History) (g : Vcpu) (sent : List Msi) → NonePassed h g sent → NonePassed (Delivered msi ∷ h) g sent
    × ((p : ℕ) → NonePassed (Relayed p ∷ Delivered msi ∷ h) g sent)
none_delivered msi h g [] all = (tt, λ p. tt)
none_delivered msi h g (x ∷ xs) all = let rest = none_delivered msi h g xs all.1 in let one = passed_given msi h g x.source in
    ((one.0 ∙ all.0, rest.0), λ p. (one.1 p ∙ all.0, rest.1 p))

same_to : (msi : Msi) (h : History) (g : Vcpu) (p : ℕ) → is_vcpu g (nth_pass h p).to ≡ false → is_vcpu g (nth_pass (Delivered msi ∷ h) p).to ≡ false
unfolding passes_of
same_to msi h g p e = e

msis_same : (sent : List Msi) (h : History) (g : Vcpu) → NonePassed h g sent → IsSameGuest (delivered sent h) h g
msis_same [] h g all = (refl, refl, refl)
msis_same (msi ∷ later) h g all =
    let first = msi_same msi h g all.0 in
    let rest = none_delivered msi h g later all.1 in
    by_pass (passed_by h msi.source) refl all.0
    (and_same _ (Delivered msi ∷ h) h g (msis_same later (Delivered msi ∷ h) g rest.0) first)
    (λ p to. and_same _ (Relayed p ∷ Delivered msi ∷ h) h g (msis_same later (Relayed p ∷ Delivered msi ∷ h) g (rest.1 p))
    (and_same _ (Delivered msi ∷ h) h g (relay_same p (Delivered msi ∷ h) g (same_to msi h g p to)) first))
  where
    either : (b : Bool) (P : History → Type 0) (x y : History) → P x → P y → P (cond b x y)
    either true P x y px py = px
    either false P x y px py = py

    by_pass : (o : Option ℕ) → passed_by h msi.source ≡ o → option_map_or (λ p. is_vcpu g (nth_pass h p).to) o false ≡ false
        → IsSameGuest (delivered later (Delivered msi ∷ h)) h g
        → ((p : ℕ) → is_vcpu g (nth_pass h p).to ≡ false → IsSameGuest (delivered later (Relayed p ∷ Delivered msi ∷ h)) h g)
        → IsSameGuest (delivered later (given_on o (Delivered msi ∷ h))) h g
    by_pass None e none file memory = file
    by_pass (Some p) e none file memory = either (is_none (pass_reach (Delivered msi ∷ h) p)) (λ x. IsSameGuest (delivered later x) h g)
        (Relayed p ∷ Delivered msi ∷ h) (Delivered msi ∷ h) (memory p none) file

none_of_any : (f : Msi → Bool) (xs : List Msi) → list_any f xs ≡ false → AllByRecursion (λ x. f x ≡ false) xs
none_of_any f [] e = tt
none_of_any f (x ∷ xs) e = let parts = or_parts (f x) (list_any f xs) e in (parts.0, none_of_any f xs parts.1)

-- what is pending stays so while MSIs are delivered
ask_stays : (b was : Bool) → was ≡ true → settle (cond b Ask Nothing) was ≡ true
ask_stays true was e = refl
ask_stays false was e = e

msi_keeps : (msi : Msi) (h : History) (g : Vcpu) (i : ℕ) → (guest_file h g).pending i ≡ true → (guest_file (Delivered msi ∷ h) g).pending i ≡ true
unfolding file_by
msi_keeps msi h g i was = by_page (goes_to_guest h msi) refl
  where
    by_pass : (o : Option ℕ) → passed_by h msi.source ≡ o → goes_to_guest h msi ≡ true → (guest_file (Delivered msi ∷ h) g).pending i ≡ true
    by_pass None e there = rw (there, e) was
    by_pass (Some p) e there = elim (cases_Bool (is_vcpu g (nth_pass h p).to)) [
      | inl own ↦ rw (there, e, own) (ask_stays (names (requested (guest_file h g).n 0 (nth_pass h p).identity) i) ((guest_file h g).pending i) was)
      | inr other ↦ rw (there, e, other) was
    ]

    by_page : (b : Bool) → goes_to_guest h msi ≡ b → (guest_file (Delivered msi ∷ h) g).pending i ≡ true
    by_page true there = by_pass (passed_by h msi.source) refl there
    by_page false there = rw there was

relay_keeps : (p : ℕ) (h : History) (g : Vcpu) (i : ℕ) → (guest_file h g).pending i ≡ true → (guest_file (Relayed p ∷ h) g).pending i ≡ true
unfolding file_by
relay_keeps p h g i was = elim (cases_Bool (is_vcpu g (nth_pass h p).to)) [
  | inl own ↦ rw own (ask_stays (names (requested (guest_file h g).n 0 (nth_pass h p).identity) i) ((guest_file h g).pending i) was)
  | inr other ↦ rw other was
]

given_keeps : (o : Option ℕ) (h : History) (g : Vcpu) (i : ℕ) → (guest_file h g).pending i ≡ true → (guest_file (given_on o h) g).pending i ≡ true
given_keeps None h g i was = was
given_keeps (Some p) h g i was = either (is_none (pass_reach h p)) (relay_keeps p h g i was) was
  where
    either : (b : Bool) → (guest_file (Relayed p ∷ h) g).pending i ≡ true → (guest_file h g).pending i ≡ true
        → (guest_file (cond b (Relayed p ∷ h) h) g).pending i ≡ true
    either true x y = x
    either false x y = y

pub msis_keep : (sent : List Msi) (h : History) (g : Vcpu) (i : ℕ) → (guest_file h g).pending i ≡ true
    → (guest_file (delivered sent h) g).pending i ≡ true
msis_keep [] h g i was = was
msis_keep (msi ∷ later) h g i was = msis_keep later (msi_taken msi h) g i
    (given_keeps (passed_by h msi.source) (Delivered msi ∷ h) g i (msi_keeps msi h g i was))

pub taken_keeps : (h : History) (line : Line) (g : Vcpu) (i : ℕ) → refusal h line ≡ None → (guest_file (line_taken h line) g).pending i ≡ true
    → (guest_file (after h line) g).pending i ≡ true
taken_keeps h line g i e was = subst (λ x. (guest_file x g).pending i ≡ true) (sym (after_by h line None e))
    (msis_keep (msis_sent_by h line) (line_taken h line) g i was)

-- the VM of a move of which a line does steps, or of the store that lands
abbrev still_deed : History → LineDeed → Vcpu → Type 0
still_deed h (Whole move) g = Still h (mover move).vm g
still_deed h (Steps x) g = is_at_fence (home h x) ≡ true → Still h x.vm g
still_deed h (Lands vm k) g = option_map_or (λ s. is_vcpu g (sent_to vm s)) (flying h vm k) false ≡ false
still_deed h deed g = Unit {0}

one_same : (vm k : ℕ) (h : History) (g : Vcpu) → option_map_or (λ s. is_vcpu g (sent_to vm s)) (flying h vm k) false ≡ false
    → IsSameGuest (Landed vm k ∷ h) h g
unfolding select_by file_by majors_of
one_same vm k h g quiet = by_store (flying h vm k) refl quiet
  where
    by_store : (o : Option Sending) → flying h vm k ≡ o → option_map_or (λ s. is_vcpu g (sent_to vm s)) o false ≡ false
        → IsSameGuest (Landed vm k ∷ h) h g
    by_store None e none = rw e (refl, refl, refl)
    by_store (Some s) e none = rw (e, none) (refl, refl, refl)

-- one step, which lands stores where it is the fence
one_step_same : (x : Vcpu) (h : History) (g : Vcpu) → (is_at_fence (home h x) ≡ true → Still h x.vm g) → IsSameGuest (step_taken x h) h g
one_step_same x h g quiet = and_same _ (landed_first x h) h g (stepped_same x (landed_first x h) g) (by_fence (is_at_fence (home h x)) refl)
  where
    by_fence : (b : Bool) → is_at_fence (home h x) ≡ b → IsSameGuest (landed_first x h) h g
    by_fence true e = (first_same x h g (quiet e)).0
    by_fence false e = rw e (refl, refl, refl)

pub move_same : (h : History) (line : Line) (deed : LineDeed) (g : Vcpu) → deed ≢ NoMove → still_deed h deed g
    → IsSameGuest (deed_taken h line deed) h g
move_same h line NoMove g moves all = absurd (moves refl)
move_same h line (Whole move) g moves all = and_same _ (Began move ∷ h) h g
    (steps_same (steps_of (file_words h) move + passes_for h (mover move)) (mover move) (Began move ∷ h) g
    (still_begun (mover move).vm move h g all)) (begun_same move h g)
move_same h line (Begins move) g moves all = begun_same move h g
move_same h line (Steps x) g moves all = one_step_same x h g all
move_same h line (Lands vm k) g moves all = one_same vm k h g all

silent_deed : (h : History) (line : Line) (g : Vcpu) → speaks_to h line g ≡ false → still_deed h (line_deed line) g
silent_deed h (lines.Move vm vcpu want) g e = subst (λ (x : Vcpu). Still h x.vm g) (sym (moves_its_own (vcpu_of vm vcpu) want)) (still h vm g e)
silent_deed h (Step vm vcpu) g e = λ fence. still h vm g (sym (ap (λ b. b && flies_to h vm g) fence) ∙ e)
silent_deed h (Land vm k) g e = e
silent_deed h line g e = tt

-- ---- a line

refused_after : (h : History) (line : Line) (word : Answer) → refusal h line ≡ Some word → after h line ≡ h
refused_after h line word e = after_by h line (Some word) e

-- an accepted line's MSIs change nothing there
pub taken_same : (h : History) (line : Line) (g : Vcpu) → forwards_to h line g ≡ false → refusal h line ≡ None
    → IsSameGuest (after h line) (line_taken h line) g
taken_same h line g still e = subst (λ x. IsSameGuest x (line_taken h line) g) (sym (after_by h line None e))
    (msis_same (msis_sent_by h line) (line_taken h line) g
    (none_of_any (λ (msi : Msi). is_passed_to (line_taken h line) g msi.source) (msis_sent_by h line) still))

-- a refused line changes nothing, so that it is enough to look at an accepted one
pub by_refusal : (P : History → Type 0) (h : History) (line : Line) → P h → (refusal h line ≡ None → P (after h line)) → P (after h line)
by_refusal P h line refused accepted = by_word (refusal h line) refl
  where
    by_word : (word : Option Answer) → refusal h line ≡ word → P (after h line)
    by_word None e = accepted e
    by_word (Some word) e = subst P (sym (refused_after h line word e)) refused

-- a line that sends no MSI forwards none; no line about moves sends any, nor one that names a VM
pub none_forwarded : (h : History) (line : Line) (g : Vcpu) → may_send line ≡ false → forwards_to h line g ≡ false
none_forwarded h line g silent = ap (list_any (λ (msi : Msi). is_passed_to (line_taken h line) g msi.source)) (none_sent_by h line silent)

pub moves_send_none : (line : Line) → line_deed line ≢ NoMove → may_send line ≡ false
moves_send_none (Machine harts guests n sources) moves = absurd (moves refl)
moves_send_none (Wire source level) moves = absurd (moves refl)
moves_send_none (Load addr) moves = absurd (moves refl)
moves_send_none (Store addr value) moves = absurd (moves refl)
moves_send_none line moves = refl

pub steps_send_none : (line : Line) → does_steps (line_deed line) ≡ true → may_send line ≡ false
steps_send_none (Machine harts guests n sources) does = absurd (false≢true does)
steps_send_none (Wire source level) does = absurd (false≢true does)
steps_send_none (Load addr) does = absurd (false≢true does)
steps_send_none (Store addr value) does = absurd (false≢true does)
steps_send_none line does = refl

pub others_send_none : (line : Line) (g : Vcpu) → names_other_vm line g ≡ true → may_send line ≡ false
others_send_none (Machine harts guests n sources) g other = absurd (false≢true other)
others_send_none (Wire source level) g other = absurd (false≢true other)
others_send_none (Load addr) g other = absurd (false≢true other)
others_send_none (Store addr value) g other = absurd (false≢true other)
others_send_none line g other = refl

pub moved_same : (h : History) (line : Line) (g : Vcpu) → line_deed line ≢ NoMove → speaks_to h line g ≡ false → IsSameGuest (after h line) h g
moved_same h line g moves quiet = let still = none_forwarded h line g (moves_send_none line moves) in
    by_refusal (λ x. IsSameGuest x h g) h line (refl, refl, refl)
    (λ e. and_same (after h line) (line_taken h line) h g (taken_same h line g still e)
    (move_same h line (line_deed line) g moves (silent_deed h line g quiet)))

-- ---- its file, by what the line is to it

-- an accepted line that does no steps of a move is one event
one_event : (h : History) (line : Line) → does_steps (line_deed line) ≡ false → (line_taken h line ≡ event_of line ∷ h)
    ⊎ ((move : WantedMove) × (line_taken h line ≡ Began move ∷ h) × ((g : Vcpu) → guest_deed g h (event_of line) ≡ Rests))
one_event h (lines.Move vm vcpu want) e = absurd (cc)
one_event h (Step vm vcpu) e = absurd (cc)
one_event h (lines.Begin vm vcpu want) e = inr (wanted_move (vcpu_of vm vcpu) want, refl, λ g. refl)
one_event h line e = inl refl

select_by_step : (g : Vcpu) (event : Event) (h : History) → guest_select (event ∷ h) g ≡ select_after (guest_deed g h event) (guest_select h g)
unfolding select_by
select_by_step g event h = refl

-- such a line is one deed to it, before its MSIs are delivered
pub file_taken : (h : History) (line : Line) (g : Vcpu) → does_steps (line_deed line) ≡ false
    → guest_file (line_taken h line) g ≡ file_after (guest_select h g) (guest_deed g h (event_of line)) (guest_file h g)
file_taken h line g one = elim (one_event h line one) [
  | inl is ↦ ap (λ x. guest_file x g) is ∙ file_by_step (guest_deed g) (event_of line) h
  | inr begins ↦ ap (λ x. guest_file x g) begins.1 ∙ (begun_same begins.0 h g).0
      ∙ sym (ap (λ deed. file_after (guest_select h g) deed (guest_file h g)) (begins.2 g))
]

pub file_after_line : (h : History) (line : Line) (g : Vcpu) → forwards_to h line g ≡ false → does_steps (line_deed line) ≡ false
    → refusal h line ≡ None → guest_file (after h line) g ≡ file_after (guest_select h g) (guest_deed g h (event_of line)) (guest_file h g)
file_after_line h line g still one e = (taken_same h line g still e).0 ∙ file_taken h line g one

pub select_after_line : (h : History) (line : Line) (g : Vcpu) → forwards_to h line g ≡ false → line_deed line ≡ NoMove → refusal h line ≡ None
    → guest_select (after h line) g ≡ select_after (guest_deed g h (Accepted line)) (guest_select h g)
select_after_line h line g still none e = (taken_same h line g still e).1 ∙ ap (λ deed. guest_select (deed_taken h line deed) g) none
    ∙ select_by_step g (Accepted line) h

-- ---- lines that do not speak to it

-- a line that is one event and does not speak to it
quiet_rests : (line : Line) (h : History) (g : Vcpu) → has_machine h ≡ true → refusal h line ≡ None → line_deed line ≡ NoMove
    → speaks_to h line g ≡ false → guest_deed g h (Accepted line) ≡ Rests
quiet_rests (Machine harts guests n sources) h g stands e none quiet =
    absurd (false≢true (sym (machine_allowed h harts guests n sources e).0 ∙ stands))
quiet_rests (lines.Msi vm addr value) h g stands e none quiet = cond-false _ _ _ quiet
quiet_rests (Ipi vm vcpu to value) h g stands e none quiet = cond-false _ _ _ quiet
quiet_rests (GuestCsr vm vcpu csr op) h g stands e none quiet = cond-false _ _ _ quiet
quiet_rests (LoadPart vm vcpu part) h g stands e none quiet = cond-false _ _ _ quiet
quiet_rests line h g stands e none quiet = refl

moved_or_not : (deed : LineDeed) → (deed ≡ NoMove) ⊎ (deed ≢ NoMove)
moved_or_not NoMove = inl refl
moved_or_not (Whole move) = inr (λ e. absurd (cc))
moved_or_not (Begins move) = inr (λ e. absurd (cc))
moved_or_not (Steps x) = inr (λ e. absurd (cc))
moved_or_not (Lands vm k) = inr (λ e. absurd (cc))

pub quiet_same : (h : History) (line : Line) (g : Vcpu) → forwards_to h line g ≡ false → has_machine h ≡ true → speaks_to h line g ≡ false
    → (guest_file (after h line) g ≡ guest_file h g) × (guest_select (after h line) g ≡ guest_select h g)
quiet_same h line g still stands quiet = elim (moved_or_not (line_deed line)) [
  | inl none ↦ by_refusal (λ x. (guest_file x g ≡ guest_file h g) × (guest_select x g ≡ guest_select h g)) h line (refl, refl) (λ e.
      let rests = quiet_rests line h g stands e none quiet in
      let same = taken_same h line g still e in (
        same.0 ∙ ap (λ deed. guest_file (deed_taken h line deed) g) none ∙ file_by_step (guest_deed g) (Accepted line) h
            ∙ ap (λ deed. file_after (guest_select h g) deed (guest_file h g)) rests,
        same.1 ∙ ap (λ deed. guest_select (deed_taken h line deed) g) none ∙ select_by_step g (Accepted line) h
            ∙ ap (λ deed. select_after deed (guest_select h g)) rests,
      ))
  | inr moves ↦ let same = moved_same h line g moves quiet in (same.0, same.1)
]

other_vm : (vm vcpu : ℕ) (g : Vcpu) → not (nat_eq vm g.vm) ≡ true → is_vcpu g (vcpu_of vm vcpu) ≡ false
other_vm vm vcpu g e = and_left (nat_eq g.vm vm) (nat_eq g.vcpu vcpu) (ne_eqb g.vm vm (λ same. eqb-false vm g.vm (not-true _ e) (sym same)))

none_flies_to : (h : History) (vm : ℕ) (g : Vcpu) → not (nat_eq vm g.vm) ≡ true → flies_to h vm g ≡ false
none_flies_to h vm g e = none_of (flight h vm)
  where
    none_of : (xs : List Sending) → list_any (λ s. is_vcpu g (sent_to vm s)) xs ≡ false
    none_of [] = refl
    none_of (x ∷ xs) = ap (λ b. b || list_any (λ s. is_vcpu g (sent_to vm s)) xs) (other_vm vm (sent_to vm x).vcpu g e) ∙ none_of xs

pub other_is_quiet : (h : History) (line : Line) (g : Vcpu) → names_other_vm line g ≡ true → speaks_to h line g ≡ false
other_is_quiet h (lines.Msi vm addr value) g e = other_vm vm (named_by h vm addr).vcpu g e
other_is_quiet h (Ipi vm vcpu to value) g e = other_vm vm to g e
other_is_quiet h (GuestCsr vm vcpu csr op) g e = other_vm vm vcpu g e
other_is_quiet h (Land vm k) g e = by_store (flying h vm k)
  where
    by_store : (o : Option Sending) → option_map_or (λ s. is_vcpu g (sent_to vm s)) o false ≡ false
    by_store None = refl
    by_store (Some s) = other_vm vm (sent_to vm s).vcpu g e
other_is_quiet h (lines.Move vm vcpu (wants.Arrive hart)) g e = none_flies_to h vm g e
other_is_quiet h (lines.Move vm vcpu wants.Leave) g e = none_flies_to h vm g e
other_is_quiet h (lines.Move vm vcpu (wants.Shift hart)) g e = none_flies_to h vm g e
other_is_quiet h (Step vm vcpu) g e = and_right (is_at_fence (home h (vcpu_of vm vcpu))) (flies_to h vm g) (none_flies_to h vm g e)
other_is_quiet h (LoadPart vm vcpu part) g e = other_vm vm vcpu g e
other_is_quiet h line g e = refl

-- ---- the word of a line on an identity decides

none_made : (h : History) (line : Line) → has_machine h ≡ true → refusal h line ≡ None → machine_with (event_of line) ≡ None
none_made h (Machine harts guests n sources) stands e = absurd (false≢true (sym (machine_allowed h harts guests n sources e).0 ∙ stands))
none_made h line stands e = refl

pub pending_taken : (h : History) (line : Line) (g : Vcpu) (i : ℕ) → has_machine h ≡ true → does_steps (line_deed line) ≡ false
    → refusal h line ≡ None
    → (guest_file (line_taken h line) g).pending i ≡ settle (guest_pending_said h (event_of line) g i) ((guest_file h g).pending i)
pending_taken h line g i stands one e =
    ap (λ (file : InterruptFile). file.pending i) (file_taken h line g one)
    ∙ (newest_word (guest_select h g) (guest_deed g h (event_of line)) (guest_file h g) i
    (not_making (guest_deed g h (event_of line)) (guest_made g h (event_of line) ∙ none_made h line stands e))).0

pub pending_after_line : (h : History) (line : Line) (g : Vcpu) (i : ℕ) → forwards_to h line g ≡ false → has_machine h ≡ true
    → does_steps (line_deed line) ≡ false → refusal h line ≡ None
    → (guest_file (after h line) g).pending i ≡ settle (guest_pending_said h (event_of line) g i) ((guest_file h g).pending i)
pending_after_line h line g i still stands one e = ap (λ (file : InterruptFile). file.pending i) (taken_same h line g still e).0
    ∙ pending_taken h line g i stands one e
