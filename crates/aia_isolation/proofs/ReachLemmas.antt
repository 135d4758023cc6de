-- A VM reaches the host's files by its notices alone.
use Rattle.std.proofs.Common.{◌≡◌, List, [], ◌∷◌, ℕ, Bool, true, false, if◌then◌else◌, Option, Some, None, inl, inr, ◌⊎◌, refl, arith, sym, ap, ◌∙◌}
use Rattle.std.proofs.lemmas.Bool.{cases_Bool, cond-true, cond-false, eqb-true, false≢true}
use Rattle.aia_vcpu.specs.Vms.{Vcpu, vcpu_of}
use Rattle.aia_vcpu.proofs.VmLemmas.{same_slot}
use Rattle.aia_model.specs.declared.line.Line.{Line}
use Rattle.aia_model.specs.declared.line.Line.TheVariants.{Send, Land, GuestCsr, Ipi}
use Rattle.aia_model.specs.declared.line.Line.TheVariants as lines
use Rattle.aia_model.specs.declared.part.Part.{Part}
use Rattle.aia_model.specs.declared.part.Part.TheVariants as parts
use Rattle.aia_model.specs.Sent.{acts_of, sent_by, with_all_sent}
use Rattle.aia_model.specs.Event.{History}
use Rattle.aia_model.specs.Event.Event.{Accepted, Stepped, Landed}
use Rattle.aia_model.specs.Vms.{vms_of, has_vcpu}
use Rattle.aia_model.specs.FileAfter.{FileDeed, select_after, file_after, select_by, file_by}
use Rattle.aia_model.specs.FileAfter.FileDeed.{Makes, Accesses, Stores, Relays, Loads, Rests}
use Rattle.aia_model.specs.FileOf.{FileName, is_file, notice_deed, deed_at}
use Rattle.aia_model.specs.Flight.{Sending, flying}
use Rattle.aia_model.specs.GuestFile.{named_by, sent_to}
use Rattle.aia_model.specs.Notice.{noticed_by_landing}
use Rattle.aia_model.specs.Histories.{IsHistory}
use Rattle.aia_model.proofs.HistoryLemmas.{flying_there}
use Rattle.aia_model.specs.Refusal.{refusal}
use Rattle.aia_model.proofs.FileLemmas.{is_file-same}
use Rattle.aia_model.proofs.WaitingLemmas.{none_waits}
use Rattle.aia_laws.specs.Told.{notice_file, notice_number}
use Rattle.aia_model.proofs.RefusalLemmas.{device_allowed, peer_allowed}
use Rattle.aia_isolation.specs.Reach.{is_doing_of, IsNoticeOf, with_deed, deeds_of, HostFile, host_of, host_by}

abbrev RestsOrNotices : History → ℕ → FileName → FileDeed → Type 0
RestsOrNotices past v f deed = ◌⊎◌ (deed ≡ Rests) (IsNoticeOf past v f deed)

-- the deed of a notice for a virtual hart
notice_is : (past : History) (v : ℕ) (f : FileName) (g : Vcpu) → g.vm ≡ v → has_vcpu past g ≡ true
    → RestsOrNotices past v f (notice_deed past f (Some g))
notice_is past v f g its there = elim (cases_Bool (is_file f (notice_file past g))) [
  | inl at ↦ inr (record { g = g; its = its; there = there; at = is_file-same f (notice_file past g) at; asks = cond-true _ _ _ at })
  | inr other ↦ inl (cond-false _ _ _ other)
]

-- whether or not one is sent
either_notice : (b : Bool) (past : History) (v : ℕ) (f : FileName) (g : Vcpu) → g.vm ≡ v → has_vcpu past g ≡ true
    → RestsOrNotices past v f (notice_deed past f (if b then Some g else None))
either_notice true past v f g its there = notice_is past v f g its there
either_notice false past v f g its there = inl refl

pub by_notices : (past : History) (line : Line) (v : ℕ) (f : FileName) → refusal past line ≡ None → is_doing_of v line ≡ true
    → (deed_at f past (Accepted line) ≡ Rests) ⊎ IsNoticeOf past v f (deed_at f past (Accepted line))
by_notices past (lines.Msi vm addr value) v f e its =
    either_notice _ past v f (named_by past vm addr) (eqb-true vm v its) (device_allowed past vm addr value e)
by_notices past (Ipi vm vcpu to value) v f e its =
    either_notice _ past v f (vcpu_of vm to) (eqb-true vm v its) (peer_allowed past vm vcpu to value e)
by_notices past (Send vm addr value) v f e its = inl refl
by_notices past (Land vm k) v f e its = inl refl
by_notices past (GuestCsr vm vcpu csr op) v f e its = inl refl
by_notices past line v f e its = absurd (false≢true its)

pub steps_by_notices : (past : History) (g : Vcpu) (f : FileName) → has_vcpu past g ≡ true → (deed_at f past (Stepped g) ≡ Rests)
    ⊎ IsNoticeOf past g.vm f (deed_at f past (Stepped g))
steps_by_notices past g f there = either_notice _ past g.vm f g refl there

pub exits_by_notices : (past : History) (g : Vcpu) (f : FileName) → has_vcpu past g ≡ true
    → (deed_at f past (Accepted (lines.Exit g.vm g.vcpu)) ≡ Rests) ⊎ IsNoticeOf past g.vm f (deed_at f past (Accepted (lines.Exit g.vm g.vcpu)))
exits_by_notices past g f there = either_notice _ past g.vm f g refl there

pub loads_by_notices : (past : History) (g : Vcpu) (part : Part) (f : FileName) → has_vcpu past g ≡ true
    → (deed_at f past (Accepted (lines.LoadPart g.vm g.vcpu part)) ≡ Rests)
    ⊎ IsNoticeOf past g.vm f (deed_at f past (Accepted (lines.LoadPart g.vm g.vcpu part)))
loads_by_notices past g (parts.Word w pending enable) f there = either_notice _ past g.vm f g refl there
loads_by_notices past g (parts.Image version n delivery threshold select) f there = inl refl
loads_by_notices past g (parts.Majors injected enabled) f there = inl refl
loads_by_notices past g (parts.Prio hviprio hvictl) f there = inl refl

pub landings_by_notices : (past : History) (v k : ℕ) (f : FileName) → IsHistory past → (deed_at f past (Landed v k) ≡ Rests)
    ⊎ IsNoticeOf past v f (deed_at f past (Landed v k))
landings_by_notices past v k f good = by_store (flying past v k) refl
  where
    by_store : (o : Option Sending) → flying past v k ≡ o → RestsOrNotices past v f (notice_deed past f (noticed_by_landing past v (flying past v k)))
    by_store None e = rw e (inl refl)
    by_store (Some s) e = rw e (either_notice _ past v f (sent_to v s) refl (flying_there past v k s good e))

-- nothing waits between lines, so what does nothing to the APLIC sends nothing
pub all_sent : (past : History) → with_all_sent (acts_of past) ≡ acts_of past
all_sent past = ap (λ waiting. sent_by waiting (acts_of past)) (none_waits past)

pub doing_keeps_acts : (past : History) (line : Line) (v : ℕ) → is_doing_of v line ≡ true → acts_of (Accepted line ∷ past) ≡ acts_of past
doing_keeps_acts past (lines.Msi vm addr value) v its = all_sent past
doing_keeps_acts past (Ipi vm vcpu to value) v its = all_sent past
doing_keeps_acts past (Send vm addr value) v its = all_sent past
doing_keeps_acts past (Land vm k) v its = all_sent past
doing_keeps_acts past (GuestCsr vm vcpu csr op) v its = all_sent past
doing_keeps_acts past line v its = absurd (false≢true its)

pub own_number : (h : History) (g x : Vcpu) → has_vcpu h g ≡ true → has_vcpu h x ≡ true → notice_number h g ≡ notice_number h x → g ≡ x
own_number h g x here there e = same_slot (vms_of h) g x here there (omega (arith, e))

-- ---- a file of the host is what was done at it

-- What a deed makes of a file with its select number.
abbrev done_to : FileDeed → HostFile → HostFile
done_to deed s = record { select = select_after deed s.select; file = file_after s.select deed s.file }

by_one : (deed : FileDeed) (earlier : List FileDeed) → host_by (with_deed deed earlier) ≡ done_to deed (host_by earlier)
unfolding host_by
by_one (Makes n) earlier = refl
by_one (Accesses csr op) earlier = refl
by_one (Stores offset value) earlier = refl
by_one (Relays x notice) earlier = refl
by_one (Loads part) earlier = refl
by_one Rests earlier = refl

pub is_by_deeds : (h : History) (f : FileName) → host_of h f ≡ host_by (deeds_of h f)
unfolding select_by file_by deeds_of host_by
is_by_deeds [] f = refl
is_by_deeds (event ∷ past) f = ap (done_to (deed_at f past event)) (is_by_deeds past f) ∙ sym (by_one (deed_at f past event) (deeds_of past f))

pub same_host : (h k : History) (f x : FileName) → deeds_of h f ≡ deeds_of k x → host_of h f ≡ host_of k x
same_host h k f x e = is_by_deeds h f ∙ ap host_by e ∙ sym (is_by_deeds k x)
