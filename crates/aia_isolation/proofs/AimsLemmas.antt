-- Two histories that set up the same, with all virtual harts in the same places, after which the
-- same happened to the APLIC: the APLIC sends the same after both, and they stay so.
use Rattle.std.proofs.Common.{◌≡◌, ℕ, zero, suc, ◌+◌, Bool, true, false, not, ◌&&◌, ◌||◌, cond, nat_eq, nat_lt, nat_le, is_some, is_none, if◌then◌else◌, List, [], ◌∷◌, length, take, slice_index_or, Option, Some, None, refl, sym, ap, subst, ◌∙◌}
use Rattle.std.specs.Int.{is_in_range}
use Rattle.std.specs.Option.{option_map_or}
use Rattle.aia_word.specs.Sets.{least_of}
use Rattle.aia_regs.specs.declared.limits.TheConstants.{PASSES}
use Rattle.aia_regs.specs.declared.domain_registers.DomainReg.{DomainReg}
use Rattle.aia_regs.specs.declared.domain_registers.DomainReg.TheVariants.{DomainCfg, SourceCfg, Target}
use Rattle.aia_file.specs.Map.{spot_at}
use Rattle.aia_vcpu.specs.declared.place.GuestPlace.{GuestPlace}
use Rattle.aia_vcpu.specs.Vms.{Vcpu, vcpu_of, notice_hart, is_vcpu_in}
use Rattle.aia_vcpu.specs.Home.{is_moving}
use Rattle.aia_vcpu.specs.Aims.{is_aiming, aims_done, aimed, pass_reaches, target_to}
use Rattle.aia_vcpu.specs.Routes.{is_at_fence}
use Rattle.aia_model.specs.declared.line.Line.{Line}
use Rattle.aia_model.specs.declared.line.Line.TheVariants.{Wire, Load, Store}
use Rattle.aia_model.specs.declared.line.Line.TheVariants as lines
use Rattle.aia_model.specs.declared.answer.Answer.{Answer}
use Rattle.aia_model.specs.declared.answer.Answer.TheVariants.{NoMachine, Refused, Narrow}
use Rattle.aia_model.specs.declared.refusal.Refusal.TheVariants.{Range, Full, Busy, Passed, Unready, Fault, Guarded}
use Rattle.aia_model.specs.declared.msi.Msi.{Msi}
use Rattle.aia_model.specs.declared.domain_name.DomainName.{DomainName}
use Rattle.aia_model.specs.declared.domain_name.DomainName.TheVariants.{Root, Child}
use Rattle.aia_model.specs.Move.{WantedMove, mover, LineDeed}
use Rattle.aia_model.specs.Move.LineDeed.{NoMove, Whole, Begins, Steps, Lands}
use Rattle.aia_model.specs.Event.{Event, History, MachineSize, machine_of, file_words}
use Rattle.aia_model.specs.Event.Event.{Accepted, Began, Stepped, Delivered, Landed, Relayed}
use Rattle.aia_model.specs.Flight.{flight}
use Rattle.aia_model.specs.HomeOf.{home}
use Rattle.aia_model.specs.Passes.{no_pass, passes_of, passed_by, passes_to, numbers_to, passes_for}
use Rattle.aia_model.specs.Act.{Act, Past, act_of, domain_at, register_at}
use Rattle.aia_model.specs.Act.Act.{Aimed}
use Rattle.aia_model.specs.Aim.{pass_reach, aimed_by}
use Rattle.aia_model.specs.SourceOf.{register_read, keeps_delivery}
use Rattle.aia_model.specs.Passable.{is_passable, redirects, redirects_by}
use Rattle.aia_model.specs.Sent.{acts_of, msis_sent_by, with_act, with_all_sent, waiting_msis}
use Rattle.aia_model.specs.Refusal.{refusal, faults, guards}
use Rattle.aia_model.specs.Answer.{accepted_answer, deed_taken, steps_of, step_taken, steps_taken, oldest_landed, landed_first, given_on, msi_taken, delivered}
use Rattle.aia_model.proofs.MoveLemmas.{home_step}
use Rattle.aia_model.proofs.SentLemmas.{none_waiting}
use Rattle.aia_isolation.specs.Beside.{is_about_sources}
use Rattle.aia_isolation.proofs.SetupLemmas.{both_setup}
use Rattle.aia_isolation.proofs.UnpassedLemmas.{passes_source}
use Rattle.aia_isolation.proofs.UnaskedLemmas.{same_number}
use Rattle.aia_isolation.proofs.AlikeLemmas.{Setting, setting_of, same_moved, words_in}
use Rattle.aia_isolation.proofs.BelowLemmas.{place_word, no_aim}

pub record SameAims (h k : History) : Type 0 where
  pub setting : setting_of h ≡ setting_of k
  pub acts : acts_of h ≡ acts_of k

pub aims_then : (h k l : History) → SameAims h k → SameAims k l → SameAims h l
aims_then h k l a b = record { setting = a.setting ∙ b.setting; acts = a.acts ∙ b.acts }

pub aims_back : (h k : History) → SameAims h k → SameAims k h
aims_back h k a = record { setting = sym a.setting; acts = sym a.acts }

-- ---- the same event in both

setting_both : (event : Event) (h k : History) → setting_of h ≡ setting_of k → setting_of (event ∷ h) ≡ setting_of (event ∷ k)
setting_both event h k e =
    let setup = both_setup event h k (ap (λ (s : Setting). s.machine) e, ap (λ (s : Setting). s.vms) e, ap (λ (s : Setting). s.passes) e) in
    let homes = λ (x : Vcpu). home_step event h x ∙ same_moved event h k x e ∙ sym (home_step event k x) in
    λ i. record { machine = setup.0 i; vms = setup.1 i; passes = setup.2 i; homes = λ x. homes x i }

-- What a step of a virtual hart's move aims, if it aims.
abbrev target_in : Setting → ℕ → Vcpu → ℕ → Option GuestPlace → ℕ
target_in s p g identity place = target_to (notice_hart s.vms g) p identity place

abbrev aim_in : Setting → Vcpu → ℕ → Act
aim_in s g p =
    Aimed (slice_index_or s.passes p no_pass).source (target_in s p g (slice_index_or s.passes p no_pass).identity
    (pass_reaches (aims_done (s.homes g)) (aimed (s.homes g))))

same_aim : (event : Event) (h k : History) → setting_of h ≡ setting_of k → ◌≡◌ {A = Option Act} (aimed_by h event) (aimed_by k event)
same_aim (Accepted (lines.Pass source vm vcpu identity)) h k e =
    ap (λ (s : Setting). Some (Aimed source (target_in s (length s.passes) (vcpu_of vm vcpu) identity
    (pass_reaches (passes_to (vcpu_of vm vcpu) s.passes) (s.homes (vcpu_of vm vcpu)))))) e
same_aim (Stepped g) h k e =
    ap (λ (s : Setting). if is_aiming (passes_to g s.passes) (s.homes g)
    then Some (aim_in s g (slice_index_or (numbers_to g 0 s.passes) (aims_done (s.homes g)) 0)) else None) e
same_aim (Accepted line) h k e = refl
same_aim (Began move) h k e = refl
same_aim (Delivered msi) h k e = refl
same_aim (Landed vm n) h k e = refl
same_aim (Relayed p) h k e = refl

-- what waits before all of it is sent
waits_both : {A : Type 0} (f : Past → A) (line : Line) (h k : History) → SameAims h k
    → f (with_act (act_of line) (with_act (aimed_by h (Accepted line)) (acts_of h)))
    ≡ f (with_act (act_of line) (with_act (aimed_by k (Accepted line)) (acts_of k)))
waits_both f line h k a =
    ap (λ aim. f (with_act (act_of line) (with_act aim (acts_of h)))) (same_aim (Accepted line) h k a.setting)
    ∙ ap (λ (acts : Past). f (with_act (act_of line) (with_act (aimed_by k (Accepted line)) acts))) a.acts

acts_both : (event : Event) (h k : History) → SameAims h k → acts_of (event ∷ h) ≡ acts_of (event ∷ k)
acts_both (Accepted line) h k a = waits_both with_all_sent line h k a
acts_both (Stepped g) h k a =
    ap (λ aim. with_act aim (acts_of h)) (same_aim (Stepped g) h k a.setting) ∙ ap (with_act (aimed_by k (Stepped g))) a.acts
acts_both (Began move) h k a = a.acts
acts_both (Delivered msi) h k a = a.acts
acts_both (Landed vm n) h k a = a.acts
acts_both (Relayed p) h k a = a.acts

pub aims_event : (event : Event) (h k : History) → SameAims h k → SameAims (event ∷ h) (event ∷ k)
aims_event event h k a = record { setting = setting_both event h k a.setting; acts = acts_both event h k a }

pub same_sent : (line : Line) (h k : History) → SameAims h k → msis_sent_by h line ≡ msis_sent_by k line
same_sent line h k a = waits_both waiting_msis line h k a

-- ---- a line in both, where landings are nothing

-- What keeps two histories alike that give the same aims, event by event.
pub record KeptByEvents (IsAlike : History → History → Type 0) : Type 0 where
  pub aims : (h k : History) → IsAlike h k → SameAims h k
  pub event : (event : Event) (h k : History) → IsAlike h k → IsAlike (event ∷ h) (event ∷ k)

-- The same where a store that lands in one of them is nothing to it.
pub record IsUnlanded (IsAlike : History → History → Type 0) : Type 0 where
  pub kept : KeptByEvents IsAlike
  pub itself : (h : History) → IsAlike h h
  pub joined : (h k l : History) → IsAlike h k → IsAlike k l → IsAlike h l
  pub back : (h k : History) → IsAlike h k → IsAlike k h
  pub landing : (vm n : ℕ) (h : History) → IsAlike (Landed vm n ∷ h) h

landed_alike : (IsAlike : History → History → Type 0) → IsUnlanded IsAlike → (count vm : ℕ) (h : History) → IsAlike (oldest_landed count vm h) h
landed_alike IsAlike keeps zero vm h = keeps.itself h
landed_alike IsAlike keeps (suc count) vm h =
    keeps.joined _ (Landed vm 0 ∷ h) h (landed_alike IsAlike keeps count vm (Landed vm 0 ∷ h)) (keeps.landing vm 0 h)

first_alike : (IsAlike : History → History → Type 0) → IsUnlanded IsAlike → (x : Vcpu) (h : History) → IsAlike (landed_first x h) h
first_alike IsAlike keeps x h = by_fence (is_at_fence (home h x))
  where
    by_fence : (b : Bool) → IsAlike (cond b (oldest_landed (length (flight h x.vm)) x.vm h) h) h
    by_fence true = landed_alike IsAlike keeps (length (flight h x.vm)) x.vm h
    by_fence false = keeps.itself h

step_both : (IsAlike : History → History → Type 0) → IsUnlanded IsAlike → (x : Vcpu) (h k : History) → IsAlike h k
    → IsAlike (step_taken x h) (step_taken x k)
step_both IsAlike keeps x h k a =
    keeps.kept.event (Stepped x) (landed_first x h) (landed_first x k)
    (keeps.joined _ h _ (first_alike IsAlike keeps x h) (keeps.joined h k _ a (keeps.back _ k (first_alike IsAlike keeps x k))))

steps_both : (IsAlike : History → History → Type 0) → IsUnlanded IsAlike → (count : ℕ) (x : Vcpu) (h k : History) → IsAlike h k
    → IsAlike (steps_taken count x h) (steps_taken count x k)
steps_both IsAlike keeps zero x h k a = a
steps_both IsAlike keeps (suc count) x h k a = steps_both IsAlike keeps count x (step_taken x h) (step_taken x k) (step_both IsAlike keeps x h k a)

same_count : (move : WantedMove) (h k : History) → SameAims h k
    → steps_of (file_words h) move + passes_for h (mover move) ≡ steps_of (file_words k) move + passes_for k (mover move)
same_count move h k a = ap (λ (s : Setting). steps_of (words_in s) move + passes_to (mover move) s.passes) a.setting

pub taken_both : (IsAlike : History → History → Type 0) → IsUnlanded IsAlike → (line : Line) (deed : LineDeed) (h k : History) → IsAlike h k
    → IsAlike (deed_taken h line deed) (deed_taken k line deed)
taken_both IsAlike keeps line NoMove h k a = keeps.kept.event (Accepted line) h k a
taken_both IsAlike keeps line (Whole move) h k a =
    subst (λ count. IsAlike (deed_taken h line (Whole move)) (steps_taken count (mover move) (Began move ∷ k)))
    (same_count move h k (keeps.kept.aims h k a))
    (steps_both IsAlike keeps (steps_of (file_words h) move + passes_for h (mover move)) (mover move) (Began move ∷ h) (Began move ∷ k)
    (keeps.kept.event (Began move) h k a))
taken_both IsAlike keeps line (Begins move) h k a = keeps.kept.event (Began move) h k a
taken_both IsAlike keeps line (Steps x) h k a = step_both IsAlike keeps x h k a
taken_both IsAlike keeps line (Lands vm n) h k a = keeps.kept.event (Landed vm n) h k a

-- so the same aims stay the same
pub aims_landing : (vm n : ℕ) (h : History) → SameAims (Landed vm n ∷ h) h
unfolding passes_of home
aims_landing vm n h = record { setting = refl; acts = refl }

aims_unlanded : IsUnlanded SameAims
aims_unlanded = record {
  kept = record { aims = λ h k a. a; event = aims_event };
  itself = λ h. record { setting = refl; acts = refl };
  joined = aims_then;
  back = aims_back;
  landing = aims_landing;
}

pub aims_taken : (line : Line) (deed : LineDeed) (h k : History) → SameAims h k → SameAims (deed_taken h line deed) (deed_taken k line deed)
aims_taken line deed h k a = taken_both SameAims aims_unlanded line deed h k a

-- ---- the MSIs that it sends

same_pass : (h k : History) (o : Option ℕ) → SameAims h k → passed_by h o ≡ passed_by k o
same_pass h k o a = same_number h k o (ap (λ (s : Setting). s.passes) a.setting)

same_reach : (h k : History) (p : ℕ) → SameAims h k → pass_reach h p ≡ pass_reach k p
same_reach h k p a = ap (λ (s : Setting). pass_reaches (passes_to (slice_index_or s.passes p no_pass).to (take p s.passes))
    (s.homes (slice_index_or s.passes p no_pass).to)) a.setting

given_both : (IsAlike : History → History → Type 0) → KeptByEvents IsAlike → (o : Option ℕ) (h k : History) → IsAlike h k
    → IsAlike (given_on o h) (given_on o k)
given_both IsAlike kept None h k a = a
given_both IsAlike kept (Some p) h k a = by_reach (is_none (pass_reach h p)) (is_none (pass_reach k p))
    (ap is_none (same_reach h k p (kept.aims h k a)))
  where
    by_reach : (b c : Bool) → b ≡ c → IsAlike (cond b (Relayed p ∷ h) h) (cond c (Relayed p ∷ k) k)
    by_reach true true e = kept.event (Relayed p) h k a
    by_reach false false e = a
    by_reach true false e = absurd (cc)
    by_reach false true e = absurd (cc)

msi_both : (IsAlike : History → History → Type 0) → KeptByEvents IsAlike → (msi : Msi) (h k : History) → IsAlike h k
    → IsAlike (msi_taken msi h) (msi_taken msi k)
msi_both IsAlike kept msi h k a = by_number (passed_by h msi.source) (passed_by k msi.source) (same_pass h k msi.source (kept.aims h k a))
  where
    by_number : (o q : Option ℕ) → o ≡ q → IsAlike (given_on o (Delivered msi ∷ h)) (given_on q (Delivered msi ∷ k))
    by_number o q e = subst (λ z. IsAlike (given_on o (Delivered msi ∷ h)) (given_on z (Delivered msi ∷ k))) e
        (given_both IsAlike kept o (Delivered msi ∷ h) (Delivered msi ∷ k) (kept.event (Delivered msi) h k a))

pub msis_both : (IsAlike : History → History → Type 0) → KeptByEvents IsAlike → (sent : List Msi) (h k : History) → IsAlike h k
    → IsAlike (delivered sent h) (delivered sent k)
msis_both IsAlike kept [] h k a = a
msis_both IsAlike kept (msi ∷ later) h k a = msis_both IsAlike kept later (msi_taken msi h) (msi_taken msi k) (msi_both IsAlike kept msi h k a)

-- ---- a line that does nothing to the APLIC

pub quiet_sends : (line : Line) (h : History) → ◌≡◌ {A = Option Act} (act_of line) None → passes_source line ≡ false → msis_sent_by h line ≡ []
quiet_sends line h quiet other =
    ap (λ act. waiting_msis (with_act act (with_act (aimed_by h (Accepted line)) (acts_of h)))) quiet
    ∙ ap (λ aim. waiting_msis (with_act aim (acts_of h))) (no_aim line h other) ∙ none_waiting h

-- ---- what is answered to a line that decides what the APLIC sends

same_redirects : (domain : Option DomainName) (reg : DomainReg) (value : ℕ) (h k : History) → SameAims h k
    → redirects_by h domain reg value ≡ redirects_by k domain reg value
same_redirects (Some Root) (SourceCfg s) value h k a = ap is_some (same_pass h k (Some s) a)
same_redirects (Some Child) DomainCfg value h k a = ap (λ (acts : Past). not (keeps_delivery acts Child value)) a.acts
same_redirects (Some Child) (SourceCfg s) value h k a = ap is_some (same_pass h k (Some s) a)
same_redirects (Some Child) (Target s) value h k a = ap is_some (same_pass h k (Some s) a)
same_redirects domain reg value h k a = refl

abbrev store_word : ℕ → Option MachineSize → Bool → Option Answer
store_word addr machine redirecting =
    cond (not (is_some machine)) (Some NoMachine)
    (cond (faults (spot_at (option_map_or (λ (m : MachineSize). m.harts) machine 0) (option_map_or (λ (m : MachineSize). m.guests) machine 0) addr)
    addr) (Some (Refused Fault))
    (cond (guards (spot_at (option_map_or (λ (m : MachineSize). m.harts) machine 0) (option_map_or (λ (m : MachineSize). m.guests) machine 0) addr)
    addr || redirecting) (Some (Refused Guarded)) None))

same_store : (addr value : ℕ) (h k : History) → SameAims h k → redirects h addr value ≡ redirects k addr value
same_store addr value h k a =
    ap (λ (s : Setting). nat_lt 0 (length s.passes) && redirects_by h (domain_at addr) (register_at addr) value) a.setting
    ∙ ap (λ b. nat_lt 0 (length (passes_of k)) && b) (same_redirects (domain_at addr) (register_at addr) value h k a)

abbrev pass_word : ℕ → ℕ → ℕ → ℕ → Setting → Past → Option Answer
pass_word source vm vcpu identity s acts =
    cond (not (is_some s.machine)) (Some NoMachine)
    (cond (not (is_in_range 1 (option_map_or (λ (m : MachineSize). m.sources) s.machine 0) source && is_vcpu_in s.vms (vcpu_of vm vcpu)
    && is_in_range 1 (option_map_or (λ (m : MachineSize). m.n) s.machine 0) identity)) (Some (Refused Range))
    (cond (nat_le PASSES (length s.passes)) (Some (Refused Full))
    (cond (is_moving (s.homes (vcpu_of vm vcpu))) (Some (Refused Busy))
    (cond (is_some (least_of (λ p. nat_eq (slice_index_or s.passes p no_pass).source source) 0 (length s.passes))) (Some (Refused Passed))
    (cond (not (is_passable acts source)) (Some (Refused Unready)) None)))))

-- Whether a line drives a wire, loads or stores, wherever that leads, or passes a source.
abbrev pub is_of_sources : Line → Bool
is_of_sources (Wire source level) = true
is_of_sources (Load addr) = true
is_of_sources (Store addr value) = true
is_of_sources (lines.Pass source vm vcpu identity) = true
is_of_sources line = false

pub of_sources : (line : Line) → is_about_sources line ≡ true → is_of_sources line ≡ true
of_sources (Wire source level) its = refl
of_sources (Load addr) its = refl
of_sources (Store addr value) its = refl
of_sources (lines.Pass source vm vcpu identity) its = refl
of_sources line its = absurd (cc)

pub source_refusal : (line : Line) (h k : History) → is_of_sources line ≡ true → SameAims h k → refusal h line ≡ refusal k line
source_refusal (Wire source level) h k its a =
    ap (λ (s : Setting). cond (not (is_some s.machine)) (Some NoMachine)
    (cond (not (is_in_range 1 (option_map_or (λ (m : MachineSize). m.sources) s.machine 0) source)) (Some (Refused Range)) None)) a.setting
source_refusal (Load addr) h k its a = ap (λ (s : Setting). place_word addr s.machine) a.setting
source_refusal (Store addr value) h k its a =
    ap (store_word addr (machine_of h)) (same_store addr value h k a)
    ∙ ap (λ (s : Setting). store_word addr s.machine (redirects k addr value)) a.setting
source_refusal (lines.Pass source vm vcpu identity) h k its a =
    ap (λ s. pass_word source vm vcpu identity s (acts_of h)) a.setting ∙ ap (pass_word source vm vcpu identity (setting_of k)) a.acts
source_refusal line h k its a = absurd (cc)

pub source_accepted : (line : Line) (h k : History) → is_of_sources line ≡ true → SameAims h k → accepted_answer h line ≡ accepted_answer k line
source_accepted (Load addr) h k its a = ap (λ (acts : Past). Narrow
    (option_map_or (λ d. register_read acts d (register_at addr)) (domain_at addr) 0)) a.acts
source_accepted (Wire source level) h k its a = refl
source_accepted (Store addr value) h k its a = refl
source_accepted (lines.Pass source vm vcpu identity) h k its a = refl
source_accepted line h k its a = absurd (cc)
