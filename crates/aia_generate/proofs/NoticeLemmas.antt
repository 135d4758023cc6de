-- How many notices lines send at most.
use Rattle.std.proofs.Common.{◌≡◌, ℕ, zero, suc, ◌+◌, ◌*◌, ◌<◌, ◌≤◌, Bool, true, false, not, ◌||◌, cond, if◌then◌else◌, nat_eq, nat_le, List, [], ◌∷◌, ◌++◌, length, map, slice_index_or, Option, Some, None, inl, inr, refl, sym, subst, ap, ◌∙◌, arith}
use Rattle.std.proofs.lemmas.Bool.{eqb-true, eq-eqb, ne_eqb, cases_eq, or_right, false≢true}
use Rattle.std.proofs.lemmas.Bool.Decides.{nat_tests}
use Rattle.std.proofs.lemmas.List.{length-append}
use Rattle.std.specs.Prelude.{slice_get}
use Rattle.std.specs.List.{remove, filter, list_any, range_with_len}
use Rattle.std.specs.Prelude.{flat_map}
use Rattle.aia_word.proofs.LeastLemmas.{least_of_is}
use Rattle.aia_vcpu.specs.Vms.{Vcpu, vcpu_of, is_vcpu}
use Rattle.aia_vcpu.specs.declared.end.End.TheVariants.{File, Memory}
use Rattle.aia_vcpu.specs.Plans.{plan_steps}
use Rattle.std.specs.Option.{option_map_or}
use Rattle.aia_model.specs.declared.line.Line.{Line}
use Rattle.aia_model.specs.declared.line.Line.TheVariants.{Machine, Wire, Load, Store, Send, Step}
use Rattle.aia_model.specs.declared.line.Line.TheVariants as lines
use Rattle.aia_model.specs.declared.msi.Msi.{Msi}
use Rattle.aia_model.specs.declared.answer.Answer.{Answer}
use Rattle.aia_model.specs.declared.answer.Answer.TheVariants.{NoMachine, Again, Refused}
use Rattle.aia_model.specs.declared.refusal.Refusal.TheVariants.{Range, Full}
use Rattle.aia_model.specs.Move.{WantedMove, mover, wanted_move, LineDeed, line_deed}
use Rattle.aia_model.specs.Move.WantedMove.{Arrives, Leaves, Shifts}
use Rattle.aia_model.specs.Move.LineDeed.{NoMove, Whole, Begins, Steps, Lands}
use Rattle.aia_model.specs.Event.{Event, History, machine_of, has_machine, greatest_identity_of, file_words, MachineSize}
use Rattle.aia_model.specs.Event.Event.{Accepted, Began, Stepped, Delivered, Landed, Relayed}
use Rattle.aia_model.specs.Notice.{noticed, noticed_by_landing, with_notice, notices_sent}
use Rattle.aia_model.specs.Refusal.{refusal, is_machine_size}
use Rattle.aia_model.specs.declared.domain_name.DomainName.TheVariants.{Root, Child}
use Rattle.aia_model.specs.declared.sender.Sender.{Sender}
use Rattle.aia_model.specs.declared.sender.Sender.TheVariants.{ByGenMsi, BySource}
use Rattle.aia_model.specs.Act.{Past}
use Rattle.aia_model.specs.SourceOf.{sources_in}
use Rattle.aia_model.specs.Passes.{PassedSource, no_pass, passes_of, nth_pass, passed_by, passes_to, passes_for}
use Rattle.aia_model.specs.Histories.{IsHistory}
use Rattle.aia_model.specs.Sent.{all_senders, has_msi, msi_of, msis_sent_by}
use Rattle.aia_model.proofs.PassesStandLemmas.{acts_by, passes_stand}
use Rattle.aia_model.proofs.SentLemmas.{may_send, none_sent_by}
use Rattle.aia_model.proofs.HistoryLemmas.{msi_by_pass, line_happens, after_happens}
use Rattle.aia_model.specs.Answer.{delivered, given_on, msi_taken, oldest_landed, landed_first, step_taken, steps_taken, steps_of, deed_taken, line_taken, history_after, after, after_lines}
use Rattle.aia_model.specs.Flight.{Sending, flight}
use Rattle.aia_model.specs.HomeOf.{home}
use Rattle.aia_vcpu.specs.Routes.{is_at_fence}
use Rattle.aia_regs.specs.declared.limits.TheConstants.{IDENTITIES, STORES_IN_FLIGHT, FILE_WORDS, PASSES}
use Rattle.aia_model.proofs.AnswerLemmas.{machine_refusal}
use Rattle.aia_model.proofs.FlightLemmas.{same_first}

-- ---- the greatest identity of a machine

-- it is at most IDENTITIES
abbrev IsSmall : History → Type 0
IsSmall h = greatest_identity_of h ≤ IDENTITIES

size_accepted : (stands size : Bool) → ◌≡◌ {A = Option Answer} (cond stands (Some Again) (cond (not size) (Some (Refused Range)) None)) None
    → size ≡ true
size_accepted true size e = absurd (cc)
size_accepted false true e = refl
size_accepted false false e = absurd (cc)

size-small : (harts guests n sources : ℕ) → is_machine_size harts guests n sources ≡ true → n ≤ IDENTITIES
size-small harts guests n sources is = grind (arith, nat_tests)

machine_delivered : (msis : List Msi) (h : History) → machine_of (delivered msis h) ≡ machine_of h
machine_delivered [] h = refl
machine_delivered (msi ∷ later) h = machine_delivered later (msi_taken msi h)
    ∙ msi_by_pass (λ k. machine_of k ≡ machine_of h) msi h refl (λ p e r. refl)

machine_stepped : (count : ℕ) (g : Vcpu) (h : History) → machine_of (steps_taken count g h) ≡ machine_of h
machine_stepped zero g h = refl
machine_stepped (suc count) g h = machine_stepped count g (step_taken g h) ∙ (same_first g h).1

same_small : (h k : History) → machine_of h ≡ machine_of k → IsSmall k → IsSmall h
same_small h k same small = subst (λ (m : Option MachineSize). option_map_or (λ (s : MachineSize). s.n) m 0 ≤ IDENTITIES) (sym same) small

moved-small : (count : ℕ) (g : Vcpu) (move : WantedMove) (h : History) → IsSmall h → IsSmall (steps_taken count g (Began move ∷ h))
moved-small count g move h small = same_small (steps_taken count g (Began move ∷ h)) h (machine_stepped count g (Began move ∷ h)) small

line-small : (h : History) (line : Line) → refusal h line ≡ None → IsSmall h → IsSmall (line_taken h line)
line-small h (Machine harts guests n sources) good small =
    size-small harts guests n sources (size_accepted (has_machine h) (is_machine_size harts guests n sources)
    (sym (machine_refusal h harts guests n sources) ∙ good))
line-small h (lines.Move vm vcpu want) good small = let move = wanted_move (vcpu_of vm vcpu) want in
    moved-small (steps_of (file_words h) move + passes_for h (mover move)) (mover move) move h small
line-small h (Step vm vcpu) good small = same_small (step_taken (vcpu_of vm vcpu) h) h (same_first (vcpu_of vm vcpu) h).1 small
line-small h line good small = small

answer-small : (h : History) (line : Line) (o : Option Answer) → refusal h line ≡ o → IsSmall h → IsSmall (history_after o h line)
answer-small h line None good small = same_small (delivered (msis_sent_by h line) (line_taken h line)) (line_taken h line)
    (machine_delivered (msis_sent_by h line) (line_taken h line)) (line-small h line good small)
answer-small h line (Some word) bad small = small

after-small : (h : History) (line : Line) → IsSmall h → IsSmall (after h line)
unfolding after
after-small h line small = answer-small h line (refusal h line) refl small

-- ---- how many stores of a VM are in flight

-- as many as may be, at most
abbrev FewFly : History → Type 0
FewFly h = (vm : ℕ) → length (flight h vm) ≤ STORES_IN_FLIGHT

room_accepted : (lacks out full : Bool) (later : Option Answer)
    → cond lacks (Some NoMachine) (cond out (Some (Refused Range)) (cond full (Some (Refused Full)) later)) ≡ None → full ≡ false
room_accepted true out full later e = absurd (cc)
room_accepted false true full later e = absurd (cc)
room_accepted false false true later e = absurd (cc)
room_accepted false false false later e = refl

one_more_flies : (xs : List Sending) (s : Sending) → nat_le STORES_IN_FLIGHT (length xs) ≡ false → length (xs ++ s ∷ []) ≤ STORES_IN_FLIGHT
one_more_flies xs s room = let sum : length (xs ++ s ∷ []) ≡ length xs + 1 = length-append xs (s ∷ []) in grind (arith, nat_tests)

fewer_left : (xs : List Sending) (k : ℕ) → length (remove xs k) ≤ length xs
fewer_left [] zero = omega arith
fewer_left [] (suc k) = omega arith
fewer_left (x ∷ xs) zero = omega arith
fewer_left (x ∷ xs) (suc k) = let rest : length (remove xs k) ≤ length xs = fewer_left xs k in omega arith

landing-few : (vm k : ℕ) (h : History) → FewFly h → FewFly (Landed vm k ∷ h)
unfolding flight
landing-few v k h few vm = by_vm (nat_eq v vm)
  where
    by_vm : (own : Bool) → length (cond own (remove (flight h vm) k) (flight h vm)) ≤ STORES_IN_FLIGHT
    by_vm true = let fewer : length (remove (flight h vm) k) ≤ length (flight h vm) = fewer_left (flight h vm) k in
        let most : length (flight h vm) ≤ STORES_IN_FLIGHT = few vm in omega arith
    by_vm false = few vm

landings-few : (count vm : ℕ) (h : History) → FewFly h → FewFly (oldest_landed count vm h)
landings-few zero vm h few = few
landings-few (suc count) vm h few = landings-few count vm (Landed vm 0 ∷ h) (landing-few vm 0 h few)

step-few : (g : Vcpu) (h : History) → FewFly h → FewFly (step_taken g h)
unfolding flight
step-few g h few = by_fence (is_at_fence (home h g))
  where
    by_fence : (b : Bool) → FewFly (cond b (oldest_landed (length (flight h g.vm)) g.vm h) h)
    by_fence true = landings-few (length (flight h g.vm)) g.vm h few
    by_fence false = few

steps-few : (count : ℕ) (g : Vcpu) (h : History) → FewFly h → FewFly (steps_taken count g h)
steps-few zero g h few = few
steps-few (suc count) g h few = steps-few count g (step_taken g h) (step-few g h few)

began-few : (move : WantedMove) (h : History) → FewFly h → FewFly (Began move ∷ h)
unfolding flight
began-few move h few = few

deed-few : (h : History) (line : Line) → refusal h line ≡ None → FewFly h → (deed : LineDeed) → FewFly (deed_taken h line deed)
unfolding flight
deed-few h (Send v addr value) good few NoMove vm = by_vm (nat_eq v vm) refl
  where
    by_vm : (own : Bool) → nat_eq v vm ≡ own → length
        (cond own (flight h vm ++ record { before = h; addr = addr; value = value } ∷ []) (flight h vm)) ≤ STORES_IN_FLIGHT
    by_vm true own = one_more_flies (flight h vm) (record { before = h; addr = addr; value = value })
        (subst (λ m. nat_le STORES_IN_FLIGHT (length (flight h m)) ≡ false) (eqb-true v vm own) (room_accepted _ _ _ _ good))
    by_vm false other = few vm
deed-few h line good few NoMove vm = few vm
deed-few h line good few (Whole move) vm = steps-few (steps_of (file_words h) move + passes_for h (mover move)) (mover move) (Began move ∷ h)
    (began-few move h few) vm
deed-few h line good few (Begins move) vm = began-few move h few vm
deed-few h line good few (Steps g) vm = step-few g h few vm
deed-few h line good few (Lands v k) vm = landing-few v k h few vm

delivered-few : (msis : List Msi) (h : History) → FewFly h → FewFly (delivered msis h)
unfolding flight
delivered-few [] h few = few
delivered-few (msi ∷ later) h few = delivered-few later (msi_taken msi h) (msi_by_pass FewFly msi h few (λ p e r. few))

answer-few : (h : History) (line : Line) (o : Option Answer) → refusal h line ≡ o → FewFly h → FewFly (history_after o h line)
answer-few h line None good few = delivered-few (msis_sent_by h line) (line_taken h line) (deed-few h line good few (line_deed line))
answer-few h line (Some word) bad few = few

after-few : (h : History) (line : Line) → FewFly h → FewFly (after h line)
unfolding after
after-few h line few = answer-few h line (refusal h line) refl few

-- ---- notices

one_at_most : (g : Option Vcpu) (count : ℕ) → with_notice g count ≤ count + 1
one_at_most None count = omega arith
one_at_most (Some g) count = omega arith

event-sends : (event : Event) (h : History) → notices_sent (event ∷ h) ≤ notices_sent h + 1
unfolding notices_sent
event-sends event h = one_at_most (noticed h event) (notices_sent h)

-- ---- what is given on within a line: each source once at most in each domain

-- how many numbers of a list have a property
abbrev count : (ℕ → Bool) → List ℕ → ℕ
count P [] = 0
count P (x ∷ xs) = if P x then suc (count P xs) else count P xs

-- whether a source is one of some passes
abbrev is_source_of : List PassedSource → ℕ → Bool
is_source_of xs s = list_any (λ (x : PassedSource). nat_eq x.source s) xs

count_either : (P Q : ℕ → Bool) (xs : List ℕ) → count (λ s. P s || Q s) xs ≤ count P xs + count Q xs
count_either P Q [] = omega arith
count_either P Q (x ∷ xs) = by_tests (P x) (Q x) (count_either P Q xs)
  where
    by_tests : (p q : Bool) → count (λ s. P s || Q s) xs ≤ count P xs + count Q xs
        → cond (p || q) (suc (count (λ s. P s || Q s) xs)) (count (λ s. P s || Q s) xs) ≤ cond p (suc (count P xs)) (count P xs) + cond q
        (suc (count Q xs)) (count Q xs)
    by_tests true true rest = omega (arith, rest)
    by_tests true false rest = omega (arith, rest)
    by_tests false true rest = omega (arith, rest)
    by_tests false false rest = omega (arith, rest)

-- a number is in a range once at most
none_below : (k a n : ℕ) → k < a → count (nat_eq k) (range_with_len a n) ≤ 0
none_below k a zero low = omega arith
none_below k a (suc n) low = rw (ne_eqb k a (λ same. absurd (omega (arith, low, same)))) (none_below k (a + 1) n (omega (arith, low)))

once_at_most : (k a n : ℕ) → count (nat_eq k) (range_with_len a n) ≤ 1
once_at_most k a zero = omega arith
once_at_most k a (suc n) = elim (cases_eq k a) [
  | inl same ↦ rw (eq-eqb k a same) (let none = none_below k (a + 1) n (omega (arith, same)) in omega (arith, none))
  | inr other ↦ rw (ne_eqb k a other) (once_at_most k (a + 1) n)
]

few_sources : (xs : List PassedSource) (a n : ℕ) → count (is_source_of xs) (range_with_len a n) ≤ length xs
few_sources [] a n = none_at_all (range_with_len a n)
  where
    none_at_all : (ys : List ℕ) → count (λ s. false) ys ≤ 0
    none_at_all [] = omega arith
    none_at_all (y ∷ ys) = none_at_all ys
few_sources (x ∷ xs) a n =
    let both = count_either (nat_eq x.source) (is_source_of xs) (range_with_len a n) in
    let one = once_at_most x.source a n in
    let rest = few_sources xs a n in omega (arith, both, one, rest)

-- one that is passed is a source of a pass
source_at : (xs : List PassedSource) (p s : ℕ) → p < length xs → nat_eq (slice_index_or xs p no_pass).source s ≡ true → is_source_of xs s ≡ true
source_at [] p s low e = absurd (omega (arith, low))
source_at (x ∷ xs) zero s low e = ap (λ b. b || is_source_of xs s) e
source_at (x ∷ xs) (suc p) s low e = or_right (nat_eq x.source s) (is_source_of xs s) (source_at xs p s (omega (arith, low)) e)

is_source : (h : History) (s p : ℕ) → passed_by h (Some s) ≡ Some p → is_source_of (passes_of h) s ≡ true
is_source h s p e = let least = least_of_is (λ q. nat_eq (nth_pass h q).source s) 0 (length (passes_of h)) p e in
    source_at (passes_of h) p s (let high = least.1 in omega (arith, high)) least.2

-- how many of some senders forward a source of a pass
abbrev given : List PassedSource → List Sender → ℕ
given xs [] = 0
given xs (ByGenMsi d ∷ senders) = given xs senders
given xs (BySource d s ∷ senders) = if is_source_of xs s then suc (given xs senders) else given xs senders

given_sources : (xs : List PassedSource) (numbers : List ℕ)
    → given xs (flat_map (λ s. BySource Root s ∷ BySource Child s ∷ []) numbers) ≡ count (is_source_of xs) numbers + count (is_source_of xs) numbers
given_sources xs [] = refl
given_sources xs (s ∷ later) = by_test (is_source_of xs s) (given_sources xs later)
  where
    by_test : (b : Bool) → given xs (flat_map (λ s. BySource Root s ∷ BySource Child s ∷ []) later) ≡ count (is_source_of xs) later + count
        (is_source_of xs) later
        → cond b (suc (cond b (suc (given xs (flat_map (λ s. BySource Root s ∷ BySource Child s ∷ []) later)))
        (given xs (flat_map (λ s. BySource Root s ∷ BySource Child s ∷ []) later))))
        (cond b (suc (given xs (flat_map (λ s. BySource Root s ∷ BySource Child s ∷ []) later)))
        (given xs (flat_map (λ s. BySource Root s ∷ BySource Child s ∷ []) later)))
        ≡ cond b (suc (count (is_source_of xs) later)) (count (is_source_of xs) later) + cond b (suc (count (is_source_of xs) later))
        (count (is_source_of xs) later)
    by_test true e = omega (arith, e)
    by_test false e = e

few_given : (xs : List PassedSource) (n : ℕ) → given xs (all_senders n) ≤ 2 * length xs
unfolding all_senders
few_given xs n = let sum = given_sources xs (range_with_len 1 n) in let few = few_sources xs 1 n in omega (arith, sum, few)

same_passes : (msi : Msi) (p : ℕ) (h : History) → (passes_of (Delivered msi ∷ h) ≡ passes_of h)
    × (passes_of (Relayed p ∷ Delivered msi ∷ h) ≡ passes_of h)
unfolding passes_of
same_passes msi p h = (refl, refl)

taken_passes : (msi : Msi) (h : History) → passes_of (msi_taken msi h) ≡ passes_of h
taken_passes msi h = msi_by_pass (λ k. passes_of k ≡ passes_of h) msi h (same_passes msi 0 h).0 (λ p e r. (same_passes msi p h).1)

-- an MSI sends a notice where it is given on, and so is one of a passed source
delivered_sends : (msi : Msi) (h : History) → notices_sent (Delivered msi ∷ h) ≡ notices_sent h
unfolding notices_sent
delivered_sends msi h = refl

silent_taken : (msi : Msi) (h : History) → passed_by h msi.source ≡ None → notices_sent (msi_taken msi h) ≡ notices_sent h
silent_taken msi h none = ap (λ o. notices_sent (given_on o (Delivered msi ∷ h))) none ∙ delivered_sends msi h

taken-sends : (msi : Msi) (h : History) → notices_sent (msi_taken msi h) ≤ notices_sent h + 1
taken-sends msi h = msi_by_pass (λ k. notices_sent k ≤ notices_sent h + 1) msi h (let same = delivered_sends msi h in omega (arith, same))
    (λ p e r. let one = event-sends (Relayed p) (Delivered msi ∷ h) in let same = delivered_sends msi h in omega (arith, one, same))

-- of all that wait
waiting-sends : (past : Past) (xs : List Sender) (h : History) (passes : List PassedSource) → passes_of h ≡ passes
    → notices_sent (delivered (map (msi_of past) (filter (has_msi past) xs)) h) ≤ notices_sent h + given passes xs
waiting-sends past [] h passes same = omega arith
waiting-sends past (x ∷ xs) h passes same = by_test (has_msi past x) (λ k e. waiting-sends past xs k passes e)
  where
    by_test : (b : Bool) → ((k : History) → passes_of k ≡ passes
        → notices_sent (delivered (map (msi_of past) (filter (has_msi past) xs)) k) ≤ notices_sent k + given passes xs)
        → notices_sent (delivered (map (msi_of past) (cond b (x ∷ filter (has_msi past) xs) (filter (has_msi past) xs))) h) ≤ notices_sent
        h + given passes (x ∷ xs)
    by_test true rest =
        let later = rest (msi_taken (msi_of past x) h) (taken_passes (msi_of past x) h ∙ same) in
        let one = by_sender x in omega (arith, later, one)
      where
        by_sender : (x : Sender) → notices_sent (msi_taken (msi_of past x) h) + given passes xs ≤ notices_sent h + given passes (x ∷ xs)
        by_sender (ByGenMsi d) = let same = silent_taken (msi_of past (ByGenMsi d)) h refl in omega (arith, same)
        by_sender (BySource d s) = by_source (is_source_of passes s) refl
          where
            by_pass : (o : Option ℕ) → passed_by h (Some s) ≡ o → is_source_of passes s ≡ false
                → notices_sent (msi_taken (msi_of past (BySource d s)) h) ≡ notices_sent h
            by_pass None e other = silent_taken (msi_of past (BySource d s)) h e
            by_pass (Some p) e other = absurd (false≢true (sym other ∙ ap (λ ys. is_source_of ys s) (sym same) ∙ is_source h s p e))

            by_source : (b : Bool) → is_source_of passes s ≡ b
                → notices_sent (msi_taken (msi_of past (BySource d s)) h) + given passes xs ≤ notices_sent h + cond b (suc (given passes xs))
                (given passes xs)
            by_source true e = let one = taken-sends (msi_of past (BySource d s)) h in omega (arith, one)
            by_source false e = let none = by_pass (passed_by h (Some s)) refl e in omega (arith, none)
    by_test false rest =
        let later = rest h same in let more = given_more x in omega (arith, later, more)
      where
        given_more : (x : Sender) → given passes xs ≤ given passes (x ∷ xs)
        given_more (ByGenMsi d) = omega arith
        given_more (BySource d s) = by_source (is_source_of passes s)
          where
            by_source : (b : Bool) → given passes xs ≤ cond b (suc (given passes xs)) (given passes xs)
            by_source true = omega arith
            by_source false = omega arith

line-delivers : (h k : History) (line : Line) → length (passes_of k) ≤ PASSES
    → notices_sent (delivered (msis_sent_by h line) k) ≤ notices_sent k + 2 * PASSES
line-delivers h k line few =
    let past = acts_by h line in
    let sends = waiting-sends past (all_senders (sources_in past)) k (passes_of k) refl in
    let most = few_given (passes_of k) (sources_in past) in omega (arith, sends, most, few)

-- how many notices were sent, and stores of a VM are in flight
abbrev sent_or_flying : History → ℕ → ℕ
sent_or_flying h vm = notices_sent h + length (flight h vm)

-- a landing may send a notice, and takes a store out
landing_gives : (h : History) (vm n : ℕ) (xs : List Sending) (k : ℕ)
    → with_notice (noticed_by_landing h vm (slice_get xs k)) n + length (remove xs k) ≤ n + length xs
landing_gives h vm n [] zero = omega arith
landing_gives h vm n [] (suc k) = omega arith
landing_gives h vm n (x ∷ xs) zero = let one : with_notice (noticed_by_landing h vm (Some x)) n ≤ n + 1 =
    one_at_most (noticed_by_landing h vm (Some x)) n in omega arith
landing_gives h vm n (x ∷ xs) (suc k) = let rest : with_notice (noticed_by_landing h vm (slice_get xs k)) n + length (remove xs k) ≤ n + length
    xs = landing_gives h vm n xs k in omega arith

landing-sends : (vm k : ℕ) (h : History) → sent_or_flying (Landed vm k ∷ h) vm ≤ sent_or_flying h vm
unfolding notices_sent flight
landing-sends vm k h = rw (eq-eqb vm vm refl) (landing_gives h vm (notices_sent h) (flight h vm) k)

landings-send : (count vm : ℕ) (h : History) → sent_or_flying (oldest_landed count vm h) vm ≤ sent_or_flying h vm
landings-send zero vm h = omega arith
landings-send (suc count) vm h =
    let first : sent_or_flying (Landed vm 0 ∷ h) vm ≤ sent_or_flying h vm = landing-sends vm 0 h in
    let later : sent_or_flying (oldest_landed count vm (Landed vm 0 ∷ h)) vm ≤ sent_or_flying (Landed vm 0 ∷ h) vm =
    landings-send count vm (Landed vm 0 ∷ h) in
    omega arith

first-sends : (g : Vcpu) (h : History) → sent_or_flying (landed_first g h) g.vm ≤ sent_or_flying h g.vm
first-sends g h = by_fence (is_at_fence (home h g))
  where
    by_fence : (b : Bool) → sent_or_flying (cond b (oldest_landed (length (flight h g.vm)) g.vm h) h) g.vm ≤ sent_or_flying h g.vm
    by_fence true = landings-send (length (flight h g.vm)) g.vm h
    by_fence false = omega arith

stepped_flight : (g : Vcpu) (vm : ℕ) (h : History) → flight (Stepped g ∷ h) vm ≡ flight h vm
unfolding flight
stepped_flight g vm h = refl

step-sends : (g : Vcpu) (h : History) → sent_or_flying (step_taken g h) g.vm ≤ sent_or_flying h g.vm + 1
step-sends g h =
    let landed : sent_or_flying (landed_first g h) g.vm ≤ sent_or_flying h g.vm = first-sends g h in
    let one : notices_sent (step_taken g h) ≤ notices_sent (landed_first g h) + 1 = event-sends (Stepped g) (landed_first g h) in
    let same : length (flight (step_taken g h) g.vm) ≡ length (flight (landed_first g h) g.vm) =
    ap length (stepped_flight g g.vm (landed_first g h)) in
    omega arith

steps-send : (count : ℕ) (g : Vcpu) (h : History) → sent_or_flying (steps_taken count g h) g.vm ≤ sent_or_flying h g.vm + count
steps-send zero g h = omega arith
steps-send (suc count) g h =
    let first : sent_or_flying (step_taken g h) g.vm ≤ sent_or_flying h g.vm + 1 = step-sends g h in
    let later : sent_or_flying (steps_taken count g (step_taken g h)) g.vm ≤ sent_or_flying (step_taken g h) g.vm + count =
    steps-send count g (step_taken g h) in
    omega arith

-- no move has more than a leave of the greatest files
abbrev most_steps : ℕ
most_steps = plan_steps File Memory FILE_WORDS

few_steps : (words : ℕ) (move : WantedMove) → words ≤ FILE_WORDS → steps_of words move ≤ most_steps
few_steps words (Arrives g hart) small = omega arith
few_steps words (Leaves g) small = omega arith
few_steps words (Shifts g hart) small = omega arith

-- how many passes a virtual hart has
own_passes : (g : Vcpu) (xs : List PassedSource) → passes_to g xs ≤ length xs
own_passes g [] = omega arith
own_passes g (x ∷ xs) = by_test (is_vcpu x.to g) (own_passes g xs)
  where
    by_test : (b : Bool) → passes_to g xs ≤ length xs → cond b (suc (passes_to g xs)) (passes_to g xs) ≤ suc (length xs)
    by_test true rest = omega (arith, rest)
    by_test false rest = omega (arith, rest)

deed-sends : (h : History) (line : Line) (deed : LineDeed) → IsSmall h → FewFly h → length (passes_of h) ≤ PASSES
    → notices_sent (deed_taken h line deed) ≤ notices_sent h + (most_steps + PASSES + 1 + STORES_IN_FLIGHT)
deed-sends h line NoMove small few passes = let one : notices_sent (Accepted line ∷ h) ≤ notices_sent h + 1 =
    event-sends (Accepted line) h in omega arith
deed-sends h line (Whole move) small few passes =
    let count = steps_of (file_words h) move + passes_for h (mover move) in
    let steps : steps_of (file_words h) move ≤ most_steps = few_steps (file_words h) move (omega arith) in
    let own : passes_for h (mover move) ≤ length (passes_of h) = own_passes (mover move) (passes_of h) in
    let first : notices_sent (Began move ∷ h) ≤ notices_sent h + 1 = event-sends (Began move) h in
    let flying : length (flight (Began move ∷ h) (mover move).vm) ≤ STORES_IN_FLIGHT = began-few move h few (mover move).vm in
    let later : sent_or_flying (steps_taken count (mover move) (Began move ∷ h)) (mover move).vm ≤ sent_or_flying (Began move ∷ h)
    (mover move).vm + count = steps-send count (mover move) (Began move ∷ h) in
    omega arith
deed-sends h line (Begins move) small few passes = let one : notices_sent (Began move ∷ h) ≤ notices_sent h + 1 =
    event-sends (Began move) h in omega arith
deed-sends h line (Steps g) small few passes =
    let flying : length (flight h g.vm) ≤ STORES_IN_FLIGHT = few g.vm in
    let one : sent_or_flying (step_taken g h) g.vm ≤ sent_or_flying h g.vm + 1 = step-sends g h in
    omega arith
deed-sends h line (Lands vm k) small few passes = let one : notices_sent (Landed vm k ∷ h) ≤ notices_sent h + 1 =
    event-sends (Landed vm k) h in omega arith

-- a line that may send MSIs is one event, which sends one notice at most, and the others send no
-- MSI
sending_line : (line : Line) → may_send line ≡ true → line_deed line ≡ NoMove
sending_line (Machine harts guests n sources) e = refl
sending_line (Wire source level) e = refl
sending_line (Load addr) e = refl
sending_line (Store addr value) e = refl
sending_line line e = absurd (cc)

taken-notices : (h : History) (line : Line) → refusal h line ≡ None → IsHistory h → IsSmall h → FewFly h → (b : Bool) → may_send line ≡ b
    → notices_sent (delivered (msis_sent_by h line) (line_taken h line)) ≤ notices_sent h + 200
taken-notices h line e good small few true sends =
    let is : line_taken h line ≡ Accepted line ∷ h = ap (deed_taken h line) (sending_line line sends) in
    let one : notices_sent (line_taken h line) ≤ notices_sent h + 1 =
    subst (λ k. notices_sent k ≤ notices_sent h + 1) (sym is) (event-sends (Accepted line) h) in
    let passes = (passes_stand (line_taken h line) (line_happens h line e good)).few in
    let msis = line-delivers h (line_taken h line) line passes in
    omega (arith, one, msis)
taken-notices h line e good small few false silent =
    let one = deed-sends h line (line_deed line) small few (passes_stand h good).few in
    subst (λ sent. notices_sent (delivered sent (line_taken h line)) ≤ notices_sent h + 200) (sym (none_sent_by h line silent)) (omega (arith, one))

answer-sends : (h : History) (line : Line) (o : Option Answer) → refusal h line ≡ o → IsHistory h → IsSmall h → FewFly h
    → notices_sent (history_after o h line) ≤ notices_sent h + 200
answer-sends h line None e good small few = taken-notices h line e good small few (may_send line) refl
answer-sends h line (Some word) e good small few = omega arith

after-sends : (h : History) (line : Line) → IsHistory h → IsSmall h → FewFly h → notices_sent (after h line) ≤ notices_sent h + 200
unfolding after
after-sends h line good small few = answer-sends h line (refusal h line) refl good small few

lines-send : (h : History) (lines : List Line) → IsHistory h → IsSmall h → FewFly h
    → notices_sent (after_lines h lines) ≤ notices_sent h + 200 * length lines
lines-send h [] good small few = omega arith
lines-send h (line ∷ lines) good small few =
    let first : notices_sent (after h line) ≤ notices_sent h + 200 = after-sends h line good small few in
    let later : notices_sent (after_lines (after h line) lines) ≤ notices_sent (after h line) + 200 * length lines =
    lines-send (after h line) lines (after_happens h line good) (after-small h line small) (after-few h line few) in
    omega arith

none_fly : FewFly []
unfolding flight
none_fly vm = omega arith

pub few_notices : (lines : List Line) → notices_sent (after_lines [] lines) ≤ 200 * length lines
unfolding notices_sent
few_notices lines =
    let most : notices_sent (after_lines [] lines) ≤ 0 + 200 * length lines = lines-send [] lines tt (omega arith) none_fly in
    omega arith
