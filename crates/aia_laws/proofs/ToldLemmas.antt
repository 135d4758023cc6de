-- What the host is told by a notice: the notice identity is asked for in its file, and stays
-- pending there until it is cleared.
use Rattle.std.proofs.Common.{◌≡◌, ℕ, ◌+◌, ◌≤◌, Bool, true, false, not, ◌&&◌, ◌||◌, if◌then◌else◌, [], ◌∷◌, Option, Some, None, inl, inr, refl, sym, ap, ◌∙◌, arith}
use Rattle.std.specs.Int.{is_in_range}
use Rattle.std.proofs.lemmas.Bool.{cases_Bool, and_parts, and_from, or_cases, or_left, or_right, eq-eqb, cond-true, false≢true}
use Rattle.std.proofs.lemmas.Bool.Decides.{nat_tests}
use Rattle.aia_regs.specs.BitUpdate.{BitUpdate, settle}
use Rattle.aia_regs.specs.BitUpdate.BitUpdate.{Ask, Clear, Nothing}
use Rattle.aia_file.specs.InterruptFile.{InterruptFile}
use Rattle.aia_vcpu.specs.Vms.{Vcpu, vcpu_of}
use Rattle.aia_vcpu.specs.declared.rest.Rest.TheVariants.{Parked}
use Rattle.aia_vcpu.specs.Home.Home.{InMemory}
use Rattle.aia_vcpu.proofs.VmLemmas.{slot_below, same_vcpu}
use Rattle.aia_model.specs.declared.line.Line.TheVariants.{Machine, Ipi, Exit, LoadPart}
use Rattle.aia_model.specs.declared.part.Part.TheVariants as parts
use Rattle.aia_model.specs.declared.line.Line.TheVariants as lines
use Rattle.aia_model.specs.Event.{Event, History}
use Rattle.aia_model.specs.Event.Event.{Accepted, Began, Stepped, Delivered, Landed, Relayed}
use Rattle.aia_model.specs.Vms.{vms_of, has_vcpu}
use Rattle.aia_model.specs.FileAfter.{IsMaking, pending_said, relay_said}
use Rattle.aia_model.specs.FileAfter.FileDeed.{Stores, Relays, Rests}
use Rattle.aia_model.specs.FileOf.{FileName, SupervisorFile, notice_deed, deed_at, select_of, file_of, is_file}
use Rattle.aia_model.specs.GuestFile.{guest_file, named_by, sent_to}
use Rattle.aia_model.specs.Flight.{Sending, flying}
use Rattle.aia_model.proofs.FlightLemmas.{stays_there}
use Rattle.aia_model.proofs.HistoryLemmas.{flying_there}
use Rattle.aia_model.specs.HomeOf.{home}
use Rattle.aia_model.specs.Notice.{noticed, noticed_by_landing}
use Rattle.aia_model.proofs.FileLemmas.{file_step, newest_word, is_file-itself}
use Rattle.aia_laws.specs.Told.{is_deliverable, notice_file, notice_number, is_ask, is_clear, guest_pending_said, host_pending_said, begins_leave, names_vcpu, noticed_since, told_since, cleared_since, cleared_since_notice}
use Rattle.aia_model.proofs.GreatestLemmas.{made_with, not_making, host_made, host_greatest}
use Rattle.aia_model.proofs.RefusalLemmas.{machine_allowed, device_allowed, peer_allowed, exit_allowed, load_allowed}
use Rattle.aia_model.specs.Histories.{MayHappen, IsHistory}
use Rattle.aia_laws.proofs.MachineLemmas.{identities_for_all, enabled_in_words}
use Rattle.aia_model.proofs.PlaceLemmas.{machine_first}
use Rattle.aia_model.proofs.PassesStandLemmas.{passes_stand}
use Rattle.std.specs.Option.{option_map}
use Rattle.aia_vcpu.specs.Vms.{notice_hart, notice_identity}
use Rattle.aia_vcpu.specs.Aims.{host_identity}
use Rattle.aia_model.specs.Passes.{nth_pass}
use Rattle.aia_laws.proofs.NoticeLemmas.{noticed_while_parked}

-- ---- a virtual hart keeps its file of the host and its identity

-- Whether after an event a virtual hart is there still, with its file of the host and its identity.
abbrev KeepsNotices : Event → History → Vcpu → Type 0
KeepsNotices event past g = (has_vcpu (event ∷ past) g ≡ true) × (notice_file (event ∷ past) g ≡ notice_file past g)
    × (notice_number (event ∷ past) g ≡ notice_number past g)

keeps_notices : (event : Event) (past : History) (g : Vcpu) → has_vcpu past g ≡ true → KeepsNotices event past g
keeps_notices event past g there =
    let stays = stays_there event past g there in
    (stays.0, ap SupervisorFile stays.2, ap (λ q. q + 1) stays.1)

-- ---- a notice asks for it

chosen_is : (b : Bool) (x g : Vcpu) → names_vcpu (if b then Some x else None) g ≡ true → g ≡ x
chosen_is true x g e = same_vcpu g x e
chosen_is false x g e = absurd (cc)

noticed_is_there : (event : Event) (past : History) (g : Vcpu) → MayHappen past event → IsHistory past → names_vcpu (noticed past event) g ≡ true
    → has_vcpu past g ≡ true
noticed_is_there (Accepted (lines.Msi vm addr value)) past g may good e = ap (has_vcpu past) (chosen_is _ (named_by past vm addr) g e)
    ∙ device_allowed past vm addr value may
noticed_is_there (Accepted (Ipi vm vcpu to value)) past g may good e = ap (has_vcpu past) (chosen_is _ (vcpu_of vm to) g e)
    ∙ peer_allowed past vm vcpu to value may
noticed_is_there (Accepted (Exit vm vcpu)) past g may good e = ap (has_vcpu past) (chosen_is _ (vcpu_of vm vcpu) g e)
    ∙ (exit_allowed past vm vcpu may).0
noticed_is_there (Accepted (LoadPart vm vcpu (parts.Word w pending enable))) past g may good e =
    ap (has_vcpu past) (chosen_is _ (vcpu_of vm vcpu) g e) ∙ (load_allowed past vm vcpu (parts.Word w pending enable) may).there
noticed_is_there (Stepped x) past g may good e = ap (has_vcpu past) (chosen_is _ x g e) ∙ may.0
noticed_is_there (Accepted line) past g may good e = absurd (false≢true e)
noticed_is_there (Began move) past g may good e = absurd (false≢true e)
noticed_is_there (Delivered msi) past g may good e = absurd (false≢true e)
noticed_is_there (Relayed p) past g may good e = ap (has_vcpu past) (chosen_is _ (nth_pass past p).to g e)
    ∙ ((passes_stand past good).pass p may.0).there
noticed_is_there (Landed vm k) past g may good e = by_store (flying past vm k) refl e
  where
    by_store : (o : Option Sending) → flying past vm k ≡ o → names_vcpu (noticed_by_landing past vm o) g ≡ true → has_vcpu past g ≡ true
    by_store None is e = absurd (false≢true e)
    by_store (Some s) is e = ap (has_vcpu past) (chosen_is _ (sent_to vm s) g e) ∙ flying_there past vm k s good is

noticed_one : (told : Option Vcpu) (g : Vcpu) → names_vcpu told g ≡ true → told ≡ Some g
noticed_one None g e = absurd (false≢true e)
noticed_one (Some x) g e = ap Some (sym (same_vcpu g x e))

-- an event that notices is to the host's files what its notice is
abbrev IsNoRelay : Event → Type 0
IsNoRelay (Relayed p) = ⊥
IsNoRelay event = Unit {0}

notice_is_deed : (event : Event) (past : History) (f : FileName) (g : Vcpu) → IsNoRelay event → names_vcpu (noticed past event) g ≡ true
    → deed_at f past event ≡ notice_deed past f (Some g)
notice_is_deed (Accepted (lines.Msi vm addr value)) past f g other e = ap (notice_deed past f) (noticed_one _ g e)
notice_is_deed (Accepted (Ipi vm vcpu to value)) past f g other e = ap (notice_deed past f) (noticed_one _ g e)
notice_is_deed (Accepted (Exit vm vcpu)) past f g other e = ap (notice_deed past f) (noticed_one _ g e)
notice_is_deed (Accepted (LoadPart vm vcpu part)) past f g other e = ap (notice_deed past f) (noticed_one _ g e)
notice_is_deed (Stepped x) past f g other e = ap (notice_deed past f) (noticed_one _ g e)
notice_is_deed (Accepted line) past f g other e = absurd (false≢true e)
notice_is_deed (Began move) past f g other e = absurd (false≢true e)
notice_is_deed (Landed vm k) past f g other e = ap (notice_deed past f) (noticed_one _ g e)
notice_is_deed (Delivered msi) past f g other e = absurd (false≢true e)
notice_is_deed (Relayed p) past f g other e = absurd other

store_asks : (select : ℕ) (file : InterruptFile) (i : ℕ) → 1 ≤ i → i ≤ file.n → pending_said select file (Stores 0 i) i ≡ Ask
store_asks select file i low high = let r : is_in_range 1 file.n i ≡ true = grind (arith, nat_tests) in rw (r, eq-eqb i i refl) refl

number_fits : (h : History) (g : Vcpu) → IsHistory h → has_vcpu h g ≡ true → notice_number h g ≤ (file_of h (notice_file h g)).n
number_fits h g good there =
    let slot = slot_below (vms_of h) g there in
    let enough = identities_for_all h g good there in
    rw (host_greatest h (notice_file h g)) (omega (arith, slot, enough))

abbrev NoticeAsks : Event → Type 0
NoticeAsks event = (past : History) (g : Vcpu) → MayHappen past event → IsHistory past → names_vcpu (noticed past event) g ≡ true
    → host_pending_said past event (notice_file past g) (notice_number past g) ≡ Ask

relay_told : (n x i : ℕ) → 1 ≤ i → i ≤ n → relay_said n x (Some i) i ≡ Ask
relay_told n x i low high = let r : is_in_range 1 n i ≡ true = grind (arith, nat_tests) in rw (r, eq-eqb i i refl) refl

-- a relay's notice is part of its own deed
relay_asks : (p : ℕ) → NoticeAsks (Relayed p)
relay_asks p past g may good e =
    let f : FileName = notice_file past g in
    let told : noticed past (Relayed p) ≡ Some g = noticed_one _ g e in
    let own : g ≡ (nth_pass past p).to = chosen_is _ (nth_pass past p).to g e in
    let deed : deed_at f past (Relayed p) ≡ Relays (host_identity p) (Some (notice_number past g)) =
    ap (λ o. if is_file f (SupervisorFile (notice_hart (vms_of past) (nth_pass past p).to)) then Relays (host_identity p)
    (option_map (notice_identity (vms_of past)) o) else Rests) told
    ∙ cond-true _ _ _ (is_file-itself f (SupervisorFile (notice_hart (vms_of past) (nth_pass past p).to)) (ap (notice_file past) own)) in
    ap (λ d. pending_said (select_of past f) (file_of past f) d (notice_number past g)) deed
    ∙ relay_told (file_of past f).n (host_identity p) (notice_number past g) (omega arith)
    (number_fits past g good (noticed_is_there (Relayed p) past g may good e))

store_asks_too : (event : Event) → ((past : History) (f : FileName) (g : Vcpu) → names_vcpu (noticed past event) g ≡ true
    → deed_at f past event ≡ notice_deed past f (Some g)) → NoticeAsks event
store_asks_too event is past g may good e =
    let f : FileName = notice_file past g in
    let deed : deed_at f past event ≡ Stores 0 (notice_number past g) = is past f g e ∙ cond-true _ _ _ (is_file-itself f f refl) in
    ap (λ d. pending_said (select_of past f) (file_of past f) d (notice_number past g)) deed
    ∙ store_asks (select_of past f) (file_of past f) (notice_number past g) (omega arith)
    (number_fits past g good (noticed_is_there event past g may good e))

notice_asks : (event : Event) → NoticeAsks event
notice_asks (Relayed p) = relay_asks p
notice_asks (Accepted line) = store_asks_too (Accepted line) (λ past f g e. notice_is_deed (Accepted line) past f g tt e)
notice_asks (Began move) = store_asks_too (Began move) (λ past f g e. notice_is_deed (Began move) past f g tt e)
notice_asks (Stepped x) = store_asks_too (Stepped x) (λ past f g e. notice_is_deed (Stepped x) past f g tt e)
notice_asks (Landed vm k) = store_asks_too (Landed vm k) (λ past f g e. notice_is_deed (Landed vm k) past f g tt e)
notice_asks (Delivered msi) = store_asks_too (Delivered msi) (λ past f g e. notice_is_deed (Delivered msi) past f g tt e)

-- a notice since the newest request is an ask in the host's file since then: at the file and for
-- the identity that the virtual hart has at the end, which it had from its making on
asked_since : (h : History) (f : FileName) (n : ℕ) (g : Vcpu) (i : ℕ) → IsHistory h
    → (has_vcpu h g ≡ true → (f ≡ notice_file h g) × (n ≡ notice_number h g)) → noticed_since h g i ≡ true → told_since h f n g i ≡ true
unfolding noticed_since told_since
asked_since [] f n g i good its e = absurd (false≢true e)
asked_since (event ∷ past) f n g i good its e =
    elim (or_cases (names_vcpu (noticed past event) g)
    (not (begins_leave past event g || is_ask (guest_pending_said past event g i)) && noticed_since past g i) e) [
      | inl now ↦
          let same = stays (noticed_is_there event past g good.0 good.1 now) in
          or_left _ _ (ap is_ask (ap (λ x. host_pending_said past event x n) same.0 ∙ ap (host_pending_said past event (notice_file past g)) same.1
          ∙ notice_asks event past g good.0 good.1 now))
      | inr before ↦
          let parts = and_parts (not (begins_leave past event g || is_ask (guest_pending_said past event g i))) (noticed_since past g i) before in
          or_right _ _ (and_from _ _ parts.0 (asked_since past f n g i good.1 stays parts.1))
    ]
  where
    stays : has_vcpu past g ≡ true → (f ≡ notice_file past g) × (n ≡ notice_number past g)
    stays there = let kept = keeps_notices event past g there in let same = its kept.0 in (same.0 ∙ kept.1, same.1 ∙ kept.2)

pub sent_while_parked : (h : History) (g : Vcpu) (i : ℕ) → IsHistory h → home h g ≡ InMemory Parked → is_deliverable h g i ≡ true
    → noticed_since h g i ≡ true
sent_while_parked h g i good parked live =
    let enabled = (and_parts ((guest_file h g).pending i) ((guest_file h g).enabled i) live).1 in
    noticed_while_parked h g i good (enabled_in_words h g i good enabled) parked live

pub told_while_parked : (h : History) (g : Vcpu) (i : ℕ) → IsHistory h → home h g ≡ InMemory Parked → is_deliverable h g i ≡ true
    → told_since h (notice_file h g) (notice_number h g) g i ≡ true
told_while_parked h g i good parked live =
    let enabled = (and_parts ((guest_file h g).pending i) ((guest_file h g).enabled i) live).1 in
    asked_since h (notice_file h g) (notice_number h g) g i good (λ there. (refl, refl))
    (noticed_while_parked h g i good (enabled_in_words h g i good enabled) parked live)

-- ---- what was asked for and not cleared is pending

settled : (word : BitUpdate) (again told cleared was : Bool) → (is_ask word || (not again && told)) ≡ true
    → (is_clear word || (not again && cleared)) ≡ false → (told ≡ true → cleared ≡ false → was ≡ true) → settle word was ≡ true
settled Ask again told cleared was asked kept before = refl
settled Clear again told cleared was asked kept before = absurd (cc)
settled Nothing false told cleared was asked kept before = before asked kept
settled Nothing true told cleared was asked kept before = absurd (cc)

pending_after : (event : Event) (past : History) (f : FileName) (n : ℕ) → (¬ IsMaking (deed_at f past event))
    → (file_of (event ∷ past) f).pending n ≡ settle (host_pending_said past event f n) ((file_of past f).pending n)
pending_after event past f n other = ap (λ (file : InterruptFile). file.pending n) (file_step event past f)
    ∙ (newest_word (select_of past f) (deed_at f past event) (file_of past f) n other).0

abbrev KeepsTold : History → FileName → ℕ → Vcpu → ℕ → Type 0
KeepsTold h f n g i = told_since h f n g i ≡ true → cleared_since h f n g i ≡ false → (file_of h f).pending n ≡ true

kept_by : (event : Event) (past : History) (f : FileName) (n : ℕ) (g : Vcpu) (i : ℕ) → made_with (deed_at f past event) ≡ None
    → KeepsTold past f n g i → KeepsTold (event ∷ past) f n g i
unfolding told_since cleared_since
kept_by event past f n g i made before told cleared =
    pending_after event past f n (not_making (deed_at f past event) made)
    ∙ settled (host_pending_said past event f n) (begins_leave past event g || is_ask (guest_pending_said past event g i))
    (told_since past f n g i) (cleared_since past f n g i) ((file_of past f).pending n) told cleared before

none_told : (f : FileName) (n : ℕ) (g : Vcpu) (i : ℕ) → told_since [] f n g i ≡ false
unfolding told_since
none_told f n g i = refl

none_sent : (g : Vcpu) (i : ℕ) → noticed_since [] g i ≡ false
unfolding noticed_since
none_sent g i = refl

made_sent : (harts guests m sources : ℕ) (past : History) (g : Vcpu) (i : ℕ) → past ≡ []
    → noticed_since (Accepted (Machine harts guests m sources) ∷ past) g i ≡ false
unfolding noticed_since
made_sent harts guests m sources past g i first = ap (λ x. noticed_since x g i) first ∙ none_sent g i

-- the machine comes first, and before it nothing is told
made_told : (harts guests m sources : ℕ) (past : History) (f : FileName) (n : ℕ) (g : Vcpu) (i : ℕ) → past ≡ []
    → told_since (Accepted (Machine harts guests m sources) ∷ past) f n g i ≡ false
unfolding told_since
made_told harts guests m sources past f n g i first = ap (λ x. told_since x f n g i) first ∙ none_told f n g i

pub pending_until_cleared : (h : History) (f : FileName) (n : ℕ) (g : Vcpu) (i : ℕ) → IsHistory h → KeepsTold h f n g i
pending_until_cleared [] f n g i good told cleared = absurd (false≢true (sym (none_told f n g i) ∙ told))
pending_until_cleared (Accepted (Machine harts guests m sources) ∷ past) f n g i good told cleared =
    absurd (false≢true (sym (made_told harts guests m sources past f n g i
    (machine_first past good.1 (machine_allowed past harts guests m sources good.0).0)) ∙ told))
pending_until_cleared (Accepted line ∷ past) f n g i good told cleared =
    kept_by (Accepted line) past f n g i (host_made f past (Accepted line)) (pending_until_cleared past f n g i good.1) told cleared
pending_until_cleared (Began move ∷ past) f n g i good told cleared =
    kept_by (Began move) past f n g i (host_made f past (Began move)) (pending_until_cleared past f n g i good.1) told cleared
pending_until_cleared (Stepped x ∷ past) f n g i good told cleared =
    kept_by (Stepped x) past f n g i (host_made f past (Stepped x)) (pending_until_cleared past f n g i good.1) told cleared
pending_until_cleared (Landed vm k ∷ past) f n g i good told cleared =
    kept_by (Landed vm k) past f n g i (host_made f past (Landed vm k)) (pending_until_cleared past f n g i good.1) told cleared
pending_until_cleared (Relayed p ∷ past) f n g i good told cleared =
    kept_by (Relayed p) past f n g i (host_made f past (Relayed p)) (pending_until_cleared past f n g i good.1) told cleared
pending_until_cleared (Delivered msi ∷ past) f n g i good told cleared =
    kept_by (Delivered msi) past f n g i (host_made f past (Delivered msi)) (pending_until_cleared past f n g i good.1) told cleared

-- ---- what the newest notice asked for and was not cleared since is pending

abbrev KeepsSent : History → FileName → ℕ → Vcpu → ℕ → Type 0
KeepsSent h f n g i = noticed_since h g i ≡ true → cleared_since_notice h f n g ≡ false → (file_of h f).pending n ≡ true

kept_settled : (word : BitUpdate) (cleared was : Bool) → (is_clear word || cleared) ≡ false → (cleared ≡ false → was ≡ true) → settle word was ≡ true
kept_settled Ask cleared was kept before = refl
kept_settled Clear cleared was kept before = absurd (cc)
kept_settled Nothing cleared was kept before = before kept

-- an event that sends no notice for it
sent_before : (event : Event) (past : History) (f : FileName) (n : ℕ) (g : Vcpu) (i : ℕ) → made_with (deed_at f past event) ≡ None
    → names_vcpu (noticed past event) g ≡ false → KeepsSent past f n g i → KeepsSent (event ∷ past) f n g i
unfolding noticed_since cleared_since_notice
sent_before event past f n g i made none before sent kept =
    let again = begins_leave past event g || is_ask (guest_pending_said past event g i) in
    let earlier : (not again && noticed_since past g i) ≡ true = ap (λ (b : Bool). b || (not again && noticed_since past g i)) (sym none) ∙ sent in
    let uncleared : (is_clear (host_pending_said past event f n) || cleared_since_notice past f n g) ≡ false =
    ap (λ (b : Bool). not b && (is_clear (host_pending_said past event f n) || cleared_since_notice past f n g)) (sym none) ∙ kept in
    pending_after event past f n (not_making (deed_at f past event) made)
    ∙ kept_settled (host_pending_said past event f n) (cleared_since_notice past f n g) ((file_of past f).pending n) uncleared
    (λ e. before (and_parts (not again) (noticed_since past g i) earlier).1 e)

-- an event, whether it sends one or not
sent_by : (event : Event) (past : History) (g : Vcpu) (i : ℕ) (f : FileName) (n : ℕ) → MayHappen past event → IsHistory past
    → (has_vcpu past g ≡ true → (f ≡ notice_file past g) × (n ≡ notice_number past g)) → made_with (deed_at f past event) ≡ None
    → KeepsSent past f n g i → KeepsSent (event ∷ past) f n g i
sent_by event past g i f n may good its made before = elim (cases_Bool (names_vcpu (noticed past event) g)) [
  | inl now ↦
      let same = its (noticed_is_there event past g may good now) in
      let asks : host_pending_said past event f n ≡ Ask = ap (λ x. host_pending_said past event x n) same.0
      ∙ ap (host_pending_said past event (notice_file past g)) same.1 ∙ notice_asks event past g may good now in
      λ sent kept. pending_after event past f n (not_making (deed_at f past event) made) ∙ ap (λ word. settle word ((file_of past f).pending n)) asks
  | inr none ↦ sent_before event past f n g i made none before
]

-- the file and the identity were its own before the event, too
its_before : (event : Event) (past : History) (f : FileName) (n : ℕ) (g : Vcpu)
    → (has_vcpu (event ∷ past) g ≡ true → (f ≡ notice_file (event ∷ past) g) × (n ≡ notice_number (event ∷ past) g)) → has_vcpu past g ≡ true
    → (f ≡ notice_file past g) × (n ≡ notice_number past g)
its_before event past f n g its there = let kept = keeps_notices event past g there in let same = its kept.0 in (same.0 ∙ kept.1, same.1 ∙ kept.2)

pub pending_since_notice : (h : History) (f : FileName) (n : ℕ) (g : Vcpu) (i : ℕ) → IsHistory h
    → (has_vcpu h g ≡ true → (f ≡ notice_file h g) × (n ≡ notice_number h g)) → KeepsSent h f n g i
pending_since_notice [] f n g i good its = λ sent kept. absurd (false≢true (sym (none_sent g i) ∙ sent))
pending_since_notice (Accepted (Machine harts guests m sources) ∷ past) f n g i good its = λ sent kept.
    absurd (false≢true (sym (made_sent harts guests m sources past g i
    (machine_first past good.1 (machine_allowed past harts guests m sources good.0).0)) ∙ sent))
pending_since_notice (Accepted line ∷ past) f n g i good its =
    let earlier = its_before (Accepted line) past f n g its in
    sent_by (Accepted line) past g i f n good.0 good.1 earlier (host_made f past (Accepted line)) (pending_since_notice past f n g i good.1 earlier)
pending_since_notice (Began move ∷ past) f n g i good its =
    let earlier = its_before (Began move) past f n g its in
    sent_by (Began move) past g i f n good.0 good.1 earlier (host_made f past (Began move)) (pending_since_notice past f n g i good.1 earlier)
pending_since_notice (Stepped x ∷ past) f n g i good its =
    let earlier = its_before (Stepped x) past f n g its in
    sent_by (Stepped x) past g i f n good.0 good.1 earlier (host_made f past (Stepped x)) (pending_since_notice past f n g i good.1 earlier)
pending_since_notice (Landed vm k ∷ past) f n g i good its =
    let earlier = its_before (Landed vm k) past f n g its in
    sent_by (Landed vm k) past g i f n good.0 good.1 earlier (host_made f past (Landed vm k)) (pending_since_notice past f n g i good.1 earlier)
pending_since_notice (Delivered msi ∷ past) f n g i good its =
    let earlier = its_before (Delivered msi) past f n g its in
    sent_by (Delivered msi) past g i f n good.0 good.1 earlier (host_made f past (Delivered msi)) (pending_since_notice past f n g i good.1 earlier)
pending_since_notice (Relayed p ∷ past) f n g i good its =
    let earlier = its_before (Relayed p) past f n g its in
    sent_by (Relayed p) past g i f n good.0 good.1 earlier (host_made f past (Relayed p)) (pending_since_notice past f n g i good.1 earlier)
