-- An image carries a virtual hart: what was said after its load is heard as if it came after all
-- that was said to the virtual hart that was saved.
use Rattle.std.proofs.Common.{◌≡◌, ℕ, zero, suc, ◌<◌, true, is_none, List, [], ◌∷◌, ◌++◌, reverse, Option, Some, None, refl, sym, ap, ◌∙◌, arith}
use Rattle.std.specs.List.{Contains}
use Rattle.std.proofs.lemmas.List.{reverse-append}
use Rattle.aia_regs.specs.declared.access.Csr.{Csr}
use Rattle.aia_regs.specs.declared.access.Op.{Op}
use Rattle.aia_vcpu.specs.Vms.{Vcpu, vcpu_of}
use Rattle.aia_model.specs.declared.line.Line.TheVariants.{Machine, GuestCsr, Save}
use Rattle.aia_model.specs.declared.answer.Answer.TheVariants as answers
use Rattle.aia_model.specs.Event.{Event, History, has_machine, greatest_identity_of}
use Rattle.aia_model.specs.Event.Event.{Accepted, Began, Stepped, Delivered, Landed, Relayed}
use Rattle.aia_model.proofs.PlaceLemmas.{machine_first}
use Rattle.aia_model.proofs.RefusalLemmas.{machine_allowed}
use Rattle.std.proofs.lemmas.Bool.{false≢true}
use Rattle.aia_model.specs.Histories.{IsHistory}
use Rattle.aia_model.specs.Image.{GuestState, part_of, part_loaded}
use Rattle.aia_model.specs.StateOf.{state_of}
use Rattle.aia_model.specs.Refusal.{refusal}
use Rattle.aia_model.specs.Answer.{answer}
use Rattle.aia_model.specs.Script.{history_of}
use Rattle.aia_model.proofs.HistoryLemmas.{script_happens}
use Rattle.aia_laws.specs.Claims.{HasCsr}
use Rattle.aia_laws.specs.Images.{IsState, fresh_state, loaded_all}
use Rattle.aia_laws.proofs.ImageLemmas.{parts_give}
use Rattle.aia_laws.proofs.PartLemmas.{saved_answer}
use Rattle.aia_laws.proofs.ReachedLemmas.{is_state}
use Rattle.aia_isolation.specs.Said.{Said, said_by, with_any, said}
use Rattle.aia_isolation.specs.Said.Said.{Made}
use Rattle.aia_isolation.specs.Guest.{hears, guest_by}
use Rattle.aia_isolation.specs.Replies.{replies, reply, replies_by, script_replies}
use Rattle.aia_isolation.specs.Images.{said_after, HeardNothing, loads_of, IsWholeImage}
use Rattle.aia_isolation.proofs.GuestLemmas.{said_step, is_by_said}
use Rattle.aia_isolation.proofs.ReplyLemmas.{are_by_said, answers_next, next_by}
use Rattle.aia_isolation.proofs.ScriptLemmas.{script_answered}

-- ---- what is said later

with_one-append : {A : Type 0} (o : Option A) (later earlier : List A) → with_any o later ++ earlier ≡ with_any o (later ++ earlier)
with_one-append None later earlier = refl
with_one-append (Some x) later earlier = refl

pub said_later : (h : History) (later : List Event) (g : Vcpu) → said (later ++ h) g ≡ said_after h later g ++ said h g
unfolding said_after
said_later h [] g = refl
said_later h (event ∷ earlier) g =
    said_step event (earlier ++ h) g ∙ ap (with_any (said_by g (earlier ++ h) event)) (said_later h earlier g)
    ∙ sym (with_one-append (said_by g (earlier ++ h) event) (said_after h earlier g) (said h g))

-- ---- what was loaded

pub fresh : (n : ℕ) (h : History) (g : Vcpu) → said h g ≡ Made n ∷ [] → state_of h g ≡ fresh_state n
unfolding guest_by
fresh n h g e = is_by_said h g ∙ ap guest_by e

-- where no event but the machine's making says anything
unheard : (event : Event) (past : History) (g : Vcpu) → is_none (said_by g past event) ≡ true → said (event ∷ past) g ≡ said past g
unheard event past g e = said_step event past g ∙ by_word (said_by g past event) e
  where
    by_word : (word : Option Said) → is_none word ≡ true → with_any word (said past g) ≡ said past g
    by_word None e = refl
    by_word (Some word) e = absurd (false≢true e)

pub made_alone : (h : History) (g : Vcpu) → IsHistory h → has_machine h ≡ true → HeardNothing h g → said h g ≡ Made (greatest_identity_of h) ∷ []
unfolding said
made_alone [] g good stands none = absurd (false≢true stands)
made_alone (Accepted (Machine harts guests n sources) ∷ past) g good stands none =
    ap (λ (h : History). Made n ∷ said h g) (machine_first past good.1 (machine_allowed past harts guests n sources good.0).0)
made_alone (Accepted line ∷ past) g good stands none = unheard (Accepted line) past g none.0 ∙ made_alone past g good.1 stands none.1
made_alone (Began move ∷ past) g good stands none = unheard (Began move) past g none.0 ∙ made_alone past g good.1 stands none.1
made_alone (Stepped x ∷ past) g good stands none = unheard (Stepped x) past g none.0 ∙ made_alone past g good.1 stands none.1
made_alone (Delivered msi ∷ past) g good stands none = unheard (Delivered msi) past g none.0 ∙ made_alone past g good.1 stands none.1
made_alone (Relayed p ∷ past) g good stands none = unheard (Relayed p) past g none.0 ∙ made_alone past g good.1 stands none.1
made_alone (Landed vm k ∷ past) g good stands none = unheard (Landed vm k) past g none.0 ∙ made_alone past g good.1 stands none.1

by_loads : (image : GuestState) (n : ℕ) (order : List ℕ) → guest_by (loads_of image order ++ Made n ∷ []) ≡ loaded_all image order (fresh_state n)
unfolding guest_by
by_loads image n [] = refl
by_loads image n (k ∷ earlier) = ap (part_loaded (part_of image k)) (by_loads image n earlier)

whole_gives : (image : GuestState) (words : List Said) → IsState image → IsWholeImage image words → guest_by words ≡ image
whole_gives image words is whole = ap guest_by whole.are ∙ by_loads image image.file.n whole.order ∙ parts_give image whole.order is whole.all

pub loaded_is : (image : GuestState) (h : History) (g : Vcpu) → IsState image → IsWholeImage image (said h g) → state_of h g ≡ image
loaded_is image h g is whole = is_by_said h g ∙ whole_gives image (said h g) is whole

-- ---- what comes after it

by_later : (later words others : List Said) → guest_by words ≡ guest_by others → guest_by (later ++ words) ≡ guest_by (later ++ others)
unfolding guest_by
by_later [] words others e = e
by_later (word ∷ earlier) words others e = ap (hears word) (by_later earlier words others e)

no_replies : (image : GuestState) (n : ℕ) (order : List ℕ) → replies_by (loads_of image order ++ Made n ∷ []) ≡ []
unfolding replies_by
no_replies image n [] = refl
no_replies image n (k ∷ earlier) = no_replies image n earlier

replies_later : (later words others : List Said) → guest_by words ≡ guest_by others → replies_by words ≡ []
    → replies_by (later ++ words) ++ replies_by others ≡ replies_by (later ++ others)
unfolding replies_by
replies_later [] words others e none = ap (λ xs. xs ++ replies_by others) none
replies_later (word ∷ earlier) words others e none =
    with_one-append (reply (guest_by (earlier ++ words)) word) (replies_by (earlier ++ words)) (replies_by others)
    ∙ ap (λ s. with_any (reply s word) (replies_by (earlier ++ words) ++ replies_by others)) (by_later earlier words others e)
    ∙ ap (with_any (reply (guest_by (earlier ++ others)) word)) (replies_later earlier words others e none)

-- the saved one's words, and those by which its image was loaded
same_by : (first : History) (g : Vcpu) (loaded : List Said) → IsHistory first → has_machine first ≡ true → IsWholeImage (state_of first g) loaded
    → guest_by loaded ≡ guest_by (said first g)
same_by first g loaded good stands whole = whole_gives (state_of first g) loaded (is_state first g good stands) whole ∙ is_by_said first g

pub goes_on : (first second : History) (g x : Vcpu) (loaded later : List Said) → IsHistory first → has_machine first ≡ true
    → IsWholeImage (state_of first g) loaded → said second x ≡ later ++ loaded
    → state_of second x ≡ guest_by (later ++ said first g)
goes_on first second g x loaded later good stands whole e =
    is_by_said second x ∙ ap guest_by e ∙ by_later later loaded (said first g) (same_by first g loaded good stands whole)

pub answers_on : (first second : History) (g x : Vcpu) (loaded later : List Said) → IsHistory first → has_machine first ≡ true
    → IsWholeImage (state_of first g) loaded → said second x ≡ later ++ loaded
    → replies second x ++ replies first g ≡ replies_by (later ++ said first g)
answers_on first second g x loaded later good stands whole e =
    ap (λ xs. xs ++ replies first g) (are_by_said second x ∙ ap replies_by e) ∙ ap (λ xs. replies_by (later ++ loaded) ++ xs) (are_by_said first g)
    ∙ replies_later later loaded (said first g) (same_by first g loaded good stands whole)
    (ap replies_by whole.are ∙ no_replies (state_of first g) (state_of first g).file.n whole.order)

pub stays_on : (first second third : History) (g x y : Vcpu) (loaded later : List Said) → IsHistory first → has_machine first ≡ true
    → IsWholeImage (state_of first g) loaded → said second x ≡ later ++ loaded
    → said third y ≡ later ++ said first g → (csr : Csr) (op : Op) → HasCsr second x csr → HasCsr third y csr
    → answer second (GuestCsr x.vm x.vcpu csr op) ≡ answer third (GuestCsr y.vm y.vcpu csr op)
stays_on first second third g x y loaded later good stands whole e stayed csr op runs too =
    next_by second x csr op runs
    ∙ ap (λ s. answers_next s csr op) (goes_on first second g x loaded later good stands whole e ∙ sym (is_by_said third y ∙ ap guest_by stayed))
    ∙ sym (next_by third y csr op too)

pub scripts_go_on : (script other : List ℕ) (g x : Vcpu) (loaded later : List Said) → has_machine (history_of script) ≡ true
    → IsWholeImage (state_of (history_of script) g) loaded
    → said (history_of other) x ≡ later ++ loaded → script_replies script g ++ script_replies other x ≡ reverse
    (replies_by (later ++ said (history_of script) g))
scripts_go_on script other g x loaded later stands whole e =
    ap (λ xs. xs ++ script_replies other x) (script_answered script g)
    ∙ ap (λ xs. reverse (replies (history_of script) g) ++ xs) (script_answered other x)
    ∙ sym (reverse-append (replies (history_of other) x) (replies (history_of script) g))
    ∙ ap reverse (answers_on (history_of script) (history_of other) g x loaded later (script_happens script) stands whole e)

-- ---- the parts of one save

pub one_save : (h : History) (later : List Event) (vm vcpu k : ℕ) → said_after h later (vcpu_of vm vcpu) ≡ []
    → refusal (later ++ h) (Save vm vcpu k) ≡ None
    → answer (later ++ h) (Save vm vcpu k) ≡ answers.Part (part_of (state_of h (vcpu_of vm vcpu)) k)
one_save h later vm vcpu k silent e =
    saved_answer (later ++ h) vm vcpu k e
    ∙ ap (λ s. answers.Part (part_of s k)) (is_by_said (later ++ h) (vcpu_of vm vcpu)
    ∙ ap guest_by (said_later h later (vcpu_of vm vcpu) ∙ ap (λ words. words ++ said h (vcpu_of vm vcpu)) silent)
    ∙ sym (is_by_said h (vcpu_of vm vcpu)))

-- ---- a worked one

five : (k : ℕ) → k < 4 → Contains (2 ∷ 3 ∷ 0 ∷ 1 ∷ 3 ∷ []) k
five zero low = (2, omega arith, refl)
five (suc zero) low = (3, omega arith, refl)
five (suc (suc zero)) low = (0, omega arith, refl)
five (suc (suc (suc zero))) low = (1, omega arith, refl)
five (suc (suc (suc (suc k)))) low = absurd (omega (arith, low))

pub whole_five : (image : GuestState) → image.file.n ≡ 63 → IsWholeImage image (loads_of image (2 ∷ 3 ∷ 0 ∷ 1 ∷ 3 ∷ []) ++ Made 63 ∷ [])
whole_five image n = record {
  order = 2 ∷ 3 ∷ 0 ∷ 1 ∷ 3 ∷ [];
  all = λ k low. five k (omega (arith, n, low));
  are = ap (λ m. loads_of image (2 ∷ 3 ∷ 0 ∷ 1 ∷ 3 ∷ []) ++ Made m ∷ []) (sym n);
}
