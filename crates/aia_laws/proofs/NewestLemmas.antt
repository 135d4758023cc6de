-- An identity is what the newest word on it says.
use Rattle.std.proofs.Common.{◌≡◌, ℕ, Bool, false, [], ◌∷◌, None, refl, sym, ap, ◌∙◌}
use Rattle.aia_regs.specs.BitUpdate.{BitUpdate, settle}
use Rattle.aia_regs.specs.BitUpdate.BitUpdate.{Ask, Clear, Nothing}
use Rattle.aia_file.specs.InterruptFile.{InterruptFile}
use Rattle.aia_vcpu.specs.Vms.{Vcpu}
use Rattle.aia_model.specs.declared.line.Line.TheVariants.{Machine}
use Rattle.aia_model.specs.Event.{Event, History}
use Rattle.aia_model.specs.Event.Event.{Accepted, Began, Stepped, Delivered, Landed, Relayed}
use Rattle.aia_model.specs.FileAfter.{FileDeed, select_by, file_by, file_after, pending_said, enabled_said}
use Rattle.aia_model.specs.FileAfter.FileDeed.{Makes}
use Rattle.aia_model.specs.FileOf.{FileName, deed_at, file_of}
use Rattle.aia_model.specs.GuestFile.{guest_deed, guest_file}
use Rattle.aia_model.proofs.FileLemmas.{file_by_step, newest_word}
use Rattle.aia_model.specs.Histories.{IsHistory}
use Rattle.aia_laws.specs.Told.{is_ask, guest_pending_said, host_pending_said}
use Rattle.aia_laws.specs.Newest.{or_before, newest, guest_enable_said, host_enable_said}
use Rattle.aia_model.proofs.GreatestLemmas.{made_with, machine_with, not_making, guest_made, host_made}
use Rattle.aia_model.proofs.RefusalLemmas.{machine_allowed}
use Rattle.aia_model.proofs.PlaceLemmas.{machine_first}

-- What each event says of an identity's being pending, and enabled, at a file by its deeds.
abbrev pending_by : (History → Event → FileDeed) → ℕ → History → Event → BitUpdate
pending_by deed i past event = pending_said (select_by deed past) (file_by deed past) (deed past event) i

abbrev enabled_by : (History → Event → FileDeed) → ℕ → History → Event → BitUpdate
enabled_by deed i past event = enabled_said (select_by deed past) (file_by deed past) (deed past event) i

-- Whether an identity is what the newest words on it say.
abbrev IsByNewest : (History → Event → FileDeed) → History → ℕ → Type 0
IsByNewest deed h i =
    ((file_by deed h).pending i ≡ is_ask (newest (pending_by deed i) h)) × ((file_by deed h).enabled i ≡ is_ask (newest (enabled_by deed i) h))

settled : (word before : BitUpdate) (was : Bool) → was ≡ is_ask before → settle word was ≡ is_ask (or_before word before)
settled Ask before was e = refl
settled Clear before was e = refl
settled Nothing before was e = e

newest_step : (says : History → Event → BitUpdate) (event : Event) (past : History)
    → newest says (event ∷ past) ≡ or_before (says past event) (newest says past)
unfolding newest
newest_step says event past = refl

newest_none : (says : History → Event → BitUpdate) → newest says [] ≡ Nothing
unfolding newest
newest_none says = refl

by_word : (deed : History → Event → FileDeed) (event : Event) (past : History) (i : ℕ) → made_with (deed past event) ≡ None
    → IsByNewest deed past i → IsByNewest deed (event ∷ past) i
by_word deed event past i none before =
    let words = newest_word (select_by deed past) (deed past event) (file_by deed past) i (not_making (deed past event) none) in (
      ap (λ (file : InterruptFile). file.pending i) (file_by_step deed event past) ∙ words.0
          ∙ settled (pending_by deed i past event) (newest (pending_by deed i) past) ((file_by deed past).pending i) before.0
          ∙ sym (ap is_ask (newest_step (pending_by deed i) event past)),
      ap (λ (file : InterruptFile). file.enabled i) (file_by_step deed event past) ∙ words.1
          ∙ settled (enabled_by deed i past event) (newest (enabled_by deed i) past) ((file_by deed past).enabled i) before.1
          ∙ sym (ap is_ask (newest_step (enabled_by deed i) event past)),
    )

-- the machine is made first: nothing was said before
nothing_first : (says : History → Event → BitUpdate) (event : Event) (past : History) → past ≡ [] → says past event ≡ Nothing
    → is_ask (newest says (event ∷ past)) ≡ false
nothing_first says event past first none =
    ap is_ask (newest_step says event past ∙ ap (λ word. or_before word (newest says past)) none ∙ ap (newest says) first ∙ newest_none says)

by_making : (deed : History → Event → FileDeed) (event : Event) (past : History) (n i : ℕ) → deed past event ≡ Makes n → past ≡ []
    → IsByNewest deed (event ∷ past) i
by_making deed event past n i makes first =
    let file = file_by_step deed event past ∙ ap (λ d. file_after (select_by deed past) d (file_by deed past)) makes in (
      ap (λ (file : InterruptFile). file.pending i) file
          ∙ sym (nothing_first (pending_by deed i) event past first (ap (λ d. pending_said (select_by deed past) (file_by deed past) d i) makes)),
      ap (λ (file : InterruptFile). file.enabled i) file
          ∙ sym (nothing_first (enabled_by deed i) event past first (ap (λ d. enabled_said (select_by deed past) (file_by deed past) d i) makes)),
    )

-- of a file whose deeds make it with the machine alone
is_by_newest : (deed : History → Event → FileDeed)
    → ((past : History) (event : Event) → made_with (deed past event) ≡ machine_with event)
    → ((past : History) (harts guests n sources : ℕ) → deed past (Accepted (Machine harts guests n sources)) ≡ Makes n)
    → (h : History) (i : ℕ) → IsHistory h → IsByNewest deed h i
unfolding file_by newest
is_by_newest deed made makes [] i good = (refl, refl)
is_by_newest deed made makes (Accepted (Machine harts guests n sources) ∷ past) i good =
    by_making deed (Accepted (Machine harts guests n sources)) past n i (makes past harts guests n sources)
    (machine_first past good.1 (machine_allowed past harts guests n sources good.0).0)
is_by_newest deed made makes (Accepted line ∷ past) i good =
    by_word deed (Accepted line) past i (made past (Accepted line)) (is_by_newest deed made makes past i good.1)
is_by_newest deed made makes (Began move ∷ past) i good =
    by_word deed (Began move) past i (made past (Began move)) (is_by_newest deed made makes past i good.1)
is_by_newest deed made makes (Stepped x ∷ past) i good =
    by_word deed (Stepped x) past i (made past (Stepped x)) (is_by_newest deed made makes past i good.1)
is_by_newest deed made makes (Relayed p ∷ past) i good =
    by_word deed (Relayed p) past i (made past (Relayed p)) (is_by_newest deed made makes past i good.1)
is_by_newest deed made makes (Landed vm k ∷ past) i good =
    by_word deed (Landed vm k) past i (made past (Landed vm k)) (is_by_newest deed made makes past i good.1)
is_by_newest deed made makes (Delivered msi ∷ past) i good =
    by_word deed (Delivered msi) past i (made past (Delivered msi)) (is_by_newest deed made makes past i good.1)

pub guest_newest : (h : History) (g : Vcpu) (i : ℕ) → IsHistory h
    → ((guest_file h g).pending i ≡ is_ask (newest (λ past event. guest_pending_said past event g i) h))
    × ((guest_file h g).enabled i ≡ is_ask (newest (λ past event. guest_enable_said past event g i) h))
guest_newest h g i good = is_by_newest (guest_deed g) (guest_made g) (λ past harts guests n sources. refl) h i good

pub host_newest : (h : History) (f : FileName) (i : ℕ) → IsHistory h
    → ((file_of h f).pending i ≡ is_ask (newest (λ past event. host_pending_said past event f i) h))
    × ((file_of h f).enabled i ≡ is_ask (newest (λ past event. host_enable_said past event f i) h))
host_newest h f i good = is_by_newest (deed_at f) (host_made f) (λ past harts guests n sources. refl) h i good
