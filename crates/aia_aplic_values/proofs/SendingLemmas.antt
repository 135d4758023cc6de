-- The first of all that waits to be sent, and what waits when its MSI is sent.
use Rattle.std.proofs.Common.{◌≡◌, ℕ, Bool, true, false, not, cond, ◌&&◌, nat_eq, List, [], ◌∷◌, map, refl, sym, ap, ◌∙◌, arith, Option, Some, None, if◌then◌else◌, filter}
use Rattle.std.specs.List.{filter}
use Rattle.std.proofs.lemmas.Bool.{eq-eqb, ne_eqb, and_left, and_right}
use Rattle.aia_source.specs.Wired.{rectified}
use Rattle.aia_source.specs.Wired.SourceDeed.{Forwarded}
use Rattle.aia_domain.specs.InterruptSource.{InterruptSourceState, with_deed}
use Rattle.aia_model.specs.declared.msi.Msi.{Msi}
use Rattle.aia_model.specs.declared.domain_name.DomainName.{DomainName}
use Rattle.aia_model.specs.declared.sender.Sender.{Sender}
use Rattle.aia_model.specs.Act.{Past, is_domain, newest}
use Rattle.aia_model.specs.declared.domain_name.DomainName.TheVariants.{Root, Child}
use Rattle.aia_model.specs.declared.sender.Sender.TheVariants.{ByGenMsi, BySource}
use Rattle.aia_model.specs.Act.Act.{Made, Sent, Aimed}
use Rattle.aia_model.specs.SourceOf.{harts_in, sources_in, mode, input, is_on, delivers_by_msis, is_active_in, target, pending, genmsi_of, genmsi_waits, wire_of, enabled}
use Rattle.aia_model.specs.Sent.{forwards, all_senders, has_msi, senders, msi_by, msi_of, waiting_msis, sent_by, with_all_sent}
use Rattle.aia_model.specs.AddressOf.{addresses_of}
use Rattle.aia_model.proofs.WaitingLemmas.{is_forwarded, aimed_sources}
use Rattle.aia_aplic_values.specs.Side.{source_of}
use Rattle.aia_aplic_values.proofs.Steps.{source-idle, same_target, same_mode_says, same_enable}
use Rattle.aia_aplic_values.proofs.SentSteps.{forwarded, sent_elsewhere}
use Rattle.aia_aplic_values.proofs.AddressSteps.{addresses_sent}
use Rattle.aia_regs.proofs.ListLemmas.{filter_none, filter_rest}
use Rattle.aia_aplic_values.specs.Senders.{SendsBefore}
use Rattle.aia_aplic_values.proofs.OrderLaw.{all_in_order}

-- ---- one sender, and the others

abbrev same_sender : Sender → Sender → Bool
same_sender (ByGenMsi e) (ByGenMsi d) = is_domain e d
same_sender (BySource e t) (BySource d s) = is_domain e d && nat_eq t s
same_sender x y = false

same_itself : (x : Sender) → same_sender x x ≡ true
same_itself (ByGenMsi Root) = refl
same_itself (ByGenMsi Child) = refl
same_itself (BySource Root s) = eq-eqb s s refl
same_itself (BySource Child s) = eq-eqb s s refl

-- one that sends before another is another
other_sender : (x y : Sender) → SendsBefore x y → same_sender x y ≡ false
other_sender (ByGenMsi Root) (ByGenMsi Root) r = absurd r
other_sender (ByGenMsi Root) (ByGenMsi Child) r = refl
other_sender (ByGenMsi Child) (ByGenMsi d) r = absurd r
other_sender (ByGenMsi d) (BySource e t) r = refl
other_sender (BySource d s) (ByGenMsi e) r = refl
other_sender (BySource Root s) (BySource Root t) r = ne_eqb s t (λ e. absurd (omega (arith, r, e)))
other_sender (BySource Root s) (BySource Child t) r = refl
other_sender (BySource Child s) (BySource Root t) r = refl
other_sender (BySource Child s) (BySource Child t) r = ne_eqb s t (λ e. absurd (omega (arith, r, e)))

-- ---- after an MSI is sent

sizes : (sender : Sender) (past : Past) → sources_in (Sent sender ∷ past) ≡ sources_in past
unfolding newest
sizes sender past = refl

modes : (sender : Sender) (past : Past) (d : DomainName) → (delivers_by_msis (Sent sender ∷ past) d ≡ delivers_by_msis past d)
    × (is_on (Sent sender ∷ past) d ≡ is_on past d)
unfolding newest
modes sender past d = (refl, refl)

-- whether a source is to be forwarded, by what source_of says of it
abbrev ready_with : Bool → Bool → InterruptSourceState → Bool
ready_with msi on x = msi && on && x.source.pending && x.enabled

ready_held : (sender : Sender) (past : Past) (d : DomainName) (s : ℕ) (y : InterruptSourceState) → source_of (Sent sender ∷ past) d s ≡ y
    → forwards (Sent sender ∷ past) d s ≡ ready_with (delivers_by_msis past d) (is_on past d) y
ready_held sender past d s y e =
    ap (λ m. ready_with m (is_on (Sent sender ∷ past) d) (source_of (Sent sender ∷ past) d s)) (modes sender past d).0
    ∙ ap (λ o. ready_with (delivers_by_msis past d) o (source_of (Sent sender ∷ past) d s)) (modes sender past d).1
    ∙ ap (ready_with (delivers_by_msis past d) (is_on past d)) e

-- a source that is forwarded
ready_one : (b msi on : Bool) (x : InterruptSourceState)
    → ready_with msi on (cond (b && msi) (with_deed msi Forwarded x) x) ≡ (not (true && b) && ready_with msi on x)
ready_one true true on x = ap (λ (p : Bool). on && p && x.enabled)
    (is_forwarded x.source.mode true (rectified x.source.mode x.source.wire) x.source.pending)
    ∙ and_left (on && false) x.enabled (and_right on false refl)
ready_one true false on x = refl
ready_one false msi on x = refl

ready_sent : (sender : Sender) (past : Past) (d : DomainName) (s : ℕ)
    → forwards (Sent sender ∷ past) d s ≡ (not (same_sender sender (BySource d s)) && forwards past d s)
ready_sent (ByGenMsi e) past d s = ready_held (ByGenMsi e) past d s (source_of past d s) (sent_elsewhere (ByGenMsi e) past d s refl)
ready_sent (BySource Root t) past Root s = ready_held (BySource Root t) past Root s _ (forwarded t past Root s)
    ∙ ready_one (nat_eq t s) (delivers_by_msis past Root) (is_on past Root) (source_of past Root s)
ready_sent (BySource Child t) past Child s = ready_held (BySource Child t) past Child s _ (forwarded t past Child s)
    ∙ ready_one (nat_eq t s) (delivers_by_msis past Child) (is_on past Child) (source_of past Child s)
ready_sent (BySource Root t) past Child s = ready_held (BySource Root t) past Child s (source_of past Child s)
    (sent_elsewhere (BySource Root t) past Child s refl)
ready_sent (BySource Child t) past Root s = ready_held (BySource Child t) past Root s (source_of past Root s)
    (sent_elsewhere (BySource Child t) past Root s refl)

-- who has an MSI to send after one was sent: all that had, but for its sender
does_send_sent : (sender : Sender) (past : Past) (x : Sender) → has_msi (Sent sender ∷ past) x ≡ (not (same_sender sender x) && has_msi past x)
unfolding genmsi_waits
does_send_sent (BySource e t) past (ByGenMsi d) = refl
does_send_sent (ByGenMsi Root) past (ByGenMsi Root) = refl
does_send_sent (ByGenMsi Root) past (ByGenMsi Child) = refl
does_send_sent (ByGenMsi Child) past (ByGenMsi Root) = refl
does_send_sent (ByGenMsi Child) past (ByGenMsi Child) = refl
does_send_sent (ByGenMsi e) past (BySource d s) = ready_sent (ByGenMsi e) past d s
does_send_sent (BySource e t) past (BySource d s) = ready_sent (BySource e t) past d s

-- when the first MSI is sent, the others wait
pub senders_left : (past : Past) (sender : Sender) (later : List Sender) → senders past ≡ sender ∷ later → senders (Sent sender ∷ past) ≡ later
senders_left past sender later list =
    ap (λ n. filter (has_msi (Sent sender ∷ past)) (all_senders n)) (sizes sender past)
    ∙ filter_rest SendsBefore (has_msi past) (has_msi (Sent sender ∷ past)) (all_senders (sources_in past)) later sender
    (all_in_order (sources_in past)) list
    (does_send_sent sender past sender ∙ ap (λ (b : Bool). not b && has_msi past sender) (same_itself sender))
    (λ x none. does_send_sent sender past x ∙ and_right (not (same_sender sender x)) (has_msi past x) none)
    (λ x before. does_send_sent sender past x ∙ ap (λ (b : Bool). not b && has_msi past x) (other_sender sender x before))

another : (t : ℕ) (past : Past) (d : DomainName) (s : ℕ) → (t ≡ s → ⊥) → pending (Sent (BySource d t) ∷ past) d s ≡ pending past d s
another t past d s other =
    ap (λ (x : InterruptSourceState). x.source.pending) (forwarded t past d s)
    ∙ ap (λ b. (cond (b && delivers_by_msis past d) (with_deed (delivers_by_msis past d) Forwarded (source_of past d s))
    (source_of past d s)).source.pending) (ne_eqb t s other)

-- a source that is sent is no longer pending, and nothing else of any source is changed
pub sent_falls : (past : Past) (d : DomainName) (s : ℕ) → delivers_by_msis past d ≡ true → pending (Sent (BySource d s) ∷ past) d s ≡ false
sent_falls past d s by_msi =
    ap (λ (x : InterruptSourceState). x.source.pending) (forwarded s past d s)
    ∙ ap (λ b. (cond (b && delivers_by_msis past d) (with_deed (delivers_by_msis past d) Forwarded (source_of past d s))
    (source_of past d s)).source.pending) (eq-eqb s s refl)
    ∙ ap (λ b. (cond b (with_deed (delivers_by_msis past d) Forwarded (source_of past d s)) (source_of past d s)).source.pending) by_msi
    ∙ is_forwarded (mode past d s) (delivers_by_msis past d) (input past d s) (pending past d s)

pub sent_stays : (sender : Sender) (past : Past) (d : DomainName) (s : ℕ) → (sender ≡ BySource d s → ⊥)
    → pending (Sent sender ∷ past) d s ≡ pending past d s
sent_stays (ByGenMsi e) past d s other = ap (λ (x : InterruptSourceState). x.source.pending) (sent_elsewhere (ByGenMsi e) past d s refl)
sent_stays (BySource Root t) past Child s other =
    ap (λ (x : InterruptSourceState). x.source.pending) (sent_elsewhere (BySource Root t) past Child s refl)
sent_stays (BySource Child t) past Root s other =
    ap (λ (x : InterruptSourceState). x.source.pending) (sent_elsewhere (BySource Child t) past Root s refl)
sent_stays (BySource Root t) past Root s other = another t past Root s (λ e. other (ap (BySource Root) e))
sent_stays (BySource Child t) past Child s other = another t past Child s (λ e. other (ap (BySource Child) e))

-- ---- their MSIs stay as they are

target_sent : (sender : Sender) (past : Past) (d : DomainName) (s : ℕ) → target (Sent sender ∷ past) d s ≡ target past d s
unfolding target newest
target_sent sender past Root s = same_target (is_active_in past Root s) (delivers_by_msis past Root) (target past Root s)
    ((source-idle past Root s).target)
target_sent sender past Child s = same_target (is_active_in past Child s) (delivers_by_msis past Child) (target past Child s)
    ((source-idle past Child s).target)

genmsi_sent : (sender : Sender) (past : Past) (d : DomainName) → genmsi_of (Sent sender ∷ past) d ≡ genmsi_of past d
unfolding newest
genmsi_sent sender past d = refl

by_sent : (sender : Sender) (past : Past) (d : DomainName) (register : ℕ) (source : Option ℕ)
    → msi_by (addresses_of (Sent sender ∷ past)) d register source ≡ msi_by (addresses_of past) d register source
by_sent sender past d register source = ap (λ a. msi_by a d register source) (addresses_sent sender past)

pub msi_sent : (sender other : Sender) (past : Past) → msi_of (Sent sender ∷ past) other ≡ msi_of past other
msi_sent sender (ByGenMsi d) past = by_sent sender past d (genmsi_of (Sent sender ∷ past) d) None
    ∙ ap (λ register. msi_by (addresses_of past) d register None) (genmsi_sent sender past d)
msi_sent sender (BySource d s) past = by_sent sender past d (target (Sent sender ∷ past) d s) (Some s)
    ∙ ap (λ register. msi_by (addresses_of past) d register (Some s)) (target_sent sender past d s)

same_map : (f g : Sender → Msi) (xs : List Sender) → ((x : Sender) → f x ≡ g x) → map f xs ≡ map g xs
same_map f g [] same = refl
same_map f g (x ∷ xs) same = ap (λ y. y ∷ map f xs) (same x) ∙ ap (λ ys. g x ∷ ys) (same_map f g xs same)

-- ---- one MSI after the other

pub msis_next : (past : Past) (sender : Sender) (later : List Sender) → senders past ≡ sender ∷ later
    → waiting_msis past ≡ msi_of past sender ∷ waiting_msis (Sent sender ∷ past)
msis_next past sender later list =
    ap (map (msi_of past)) list
    ∙ ap (λ ms. msi_of past sender ∷ ms) (same_map (msi_of past) (msi_of (Sent sender ∷ past)) later (λ x. sym (msi_sent sender x past))
    ∙ ap (map (msi_of (Sent sender ∷ past))) (sym (senders_left past sender later list)))

pub settled_next : (past : Past) (sender : Sender) (later : List Sender) → senders past ≡ sender ∷ later
    → with_all_sent past ≡ with_all_sent (Sent sender ∷ past)
settled_next past sender later list = ap (λ os. sent_by os past) list
    ∙ ap (λ os. sent_by os (Sent sender ∷ past)) (sym (senders_left past sender later list))

none_begun_by : (h n : ℕ) (x : Sender) → has_msi (Made h n ∷ []) x ≡ false
unfolding newest genmsi_waits
none_begun_by h n (ByGenMsi d) = refl
none_begun_by h n (BySource d s) = refl

pub none_begun : (h n : ℕ) → senders (Made h n ∷ []) ≡ []
none_begun h n = filter_none (has_msi (Made h n ∷ [])) (all_senders (sources_in (Made h n ∷ []))) (λ x m. none_begun_by h n x)

-- an aim makes nothing ready
aim_ready : (t v : ℕ) (past : Past) (d : DomainName) (s : ℕ) → forwards (Aimed t v ∷ past) d s ≡ forwards past d s
unfolding newest wire_of enabled pending
aim_ready t v past Root s =
    ap (λ p. delivers_by_msis past Root && is_on past Root && p && enabled (Aimed t v ∷ past) Root s)
    (same_mode_says (mode past Root s) (delivers_by_msis past Root) (input past Root s) (pending past Root s) (source-idle past Root s).pending)
    ∙ ap (λ e. delivers_by_msis past Root && is_on past Root && pending past Root s && e)
    (same_enable (is_active_in past Root s) (enabled past Root s) (source-idle past Root s).enabled)
aim_ready t v past Child s =
    ap (λ p. delivers_by_msis past Child && is_on past Child && p && enabled (Aimed t v ∷ past) Child s)
    (same_mode_says (mode past Child s) (delivers_by_msis past Child) (input past Child s) (pending past Child s)
    (source-idle past Child s).pending)
    ∙ ap (λ e. delivers_by_msis past Child && is_on past Child && pending past Child s && e)
    (same_enable (is_active_in past Child s) (enabled past Child s) (source-idle past Child s).enabled)

aim_has : (t v : ℕ) (past : Past) (x : Sender) → has_msi (Aimed t v ∷ past) x ≡ has_msi past x
unfolding genmsi_waits
aim_has t v past (ByGenMsi d) = refl
aim_has t v past (BySource d s) = aim_ready t v past d s

same_filter : (f g : Sender → Bool) (xs : List Sender) → ((x : Sender) → f x ≡ g x) → filter f xs ≡ filter g xs
same_filter f g [] same = refl
same_filter f g (x ∷ xs) same = ap (λ b. cond b (x ∷ filter f xs) (filter f xs)) (same x)
    ∙ ap (λ ys. cond (g x) (x ∷ ys) ys) (same_filter f g xs same)

pub aim_waits : (t v : ℕ) (past : Past) → senders (Aimed t v ∷ past) ≡ senders past
aim_waits t v past = same_filter (has_msi (Aimed t v ∷ past)) (has_msi past) (all_senders (sources_in (Aimed t v ∷ past))) (aim_has t v past)
    ∙ ap (λ n. filter (has_msi past) (all_senders n)) (aimed_sources t v past)

-- the harts and the sources stay
sizes_sent : (sender : Sender) (past : Past) → ◌≡◌ {A = ℕ × ℕ} (harts_in (Sent sender ∷ past), sources_in (Sent sender ∷ past))
    (harts_in past, sources_in past)
unfolding newest
sizes_sent sender past = refl

sizes_by : (xs : List Sender) (past : Past) → ◌≡◌ {A = ℕ × ℕ} (harts_in (sent_by xs past), sources_in (sent_by xs past))
    (harts_in past, sources_in past)
sizes_by [] past = refl
sizes_by (x ∷ xs) past = sizes_by xs (Sent x ∷ past) ∙ sizes_sent x past

pub sizes_settled : (past : Past) → ◌≡◌ {A = ℕ × ℕ} (harts_in (with_all_sent past), sources_in (with_all_sent past)) (harts_in past, sources_in past)
sizes_settled past = sizes_by (senders past) past
