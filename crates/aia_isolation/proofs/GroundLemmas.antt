-- What a script answers to the texts that concern the machine level, make VMs, are about where
-- virtual harts are, or pass sources, is what it answers where all others are left out.
use Rattle.std.proofs.Common.{◌≡◌, ℕ, true, false, not, ◌||◌, cond, is_some, List, [], ◌∷◌, Some, None, unwrap_or, if◌then◌else◌, refl, sym, ap, subst, ◌∙◌}
use Rattle.std.proofs.lemmas.Bool.{or_parts, false≢true}
use Rattle.aia_vcpu.specs.Vms.{Vcpu, vcpu_of}
use Rattle.aia_vcpu.specs.Plans.{is_at_last}
use Rattle.aia_model.specs.declared.line.Line.{Line}
use Rattle.aia_model.specs.declared.line.Line.TheVariants.{Machine, Wire, Load, Store, MachineCsr, Step, Land, Enter, Exit}
use Rattle.aia_model.specs.declared.line.Line.TheVariants as lines
use Rattle.aia_model.specs.declared.answer.Answer.TheVariants.{Again, Refused, Moving, Done}
use Rattle.aia_model.specs.declared.refusal.Refusal.TheVariants.{Range}
use Rattle.aia_model.specs.Move.{line_deed}
use Rattle.aia_model.specs.Event.{Event, History}
use Rattle.aia_model.specs.Event.Event.{Accepted}
use Rattle.aia_model.specs.FileOf.{MachineFile, select_of}
use Rattle.aia_model.specs.HomeOf.{home, moved, rest_after}
use Rattle.aia_model.specs.Sent.{msis_sent_by}
use Rattle.aia_model.specs.Refusal.{refusal, is_machine_size}
use Rattle.aia_model.specs.Answer.{answer, accepted_answer, line_taken, after_accepted, delivered}
use Rattle.aia_model.specs.Text.{texts_of}
use Rattle.aia_model.specs.Script.{answers_from, answers}
use Rattle.aia_model.proofs.AnswerLemmas.{answered}
use Rattle.aia_model.proofs.MoveLemmas.{home_step}
use Rattle.aia_model.proofs.ReachLemmas.{none_rests}
use Rattle.aia_isolation.specs.Replies.{sets_up}
use Rattle.aia_isolation.specs.Concerns.{is_about_homes, is_of_machine_level}
use Rattle.aia_isolation.specs.Beside.{is_of_machine_level_by_sources}
use Rattle.aia_isolation.specs.Parts.{texts_that_pass, answers_to}
use Rattle.aia_isolation.proofs.UnpassedLemmas.{passes_source}
use Rattle.aia_isolation.proofs.SetupLemmas.{left_setup}
use Rattle.aia_isolation.proofs.AlikeLemmas.{Setting, setting_of, words_in}
use Rattle.aia_isolation.proofs.RefusalLemmas.{unpassing, home_refusal, vm_refusal}
use Rattle.aia_isolation.proofs.PartLemmas.{KeepsAlike, both_by, one_by, answers_alike}
use Rattle.aia_isolation.proofs.BelowLemmas.{SameFiles, files_then, files_both, files_less, files_landing, no_act, line_rests, csr_word, files_shown, quiet_acts}
use Rattle.aia_isolation.proofs.AimsLemmas.{SameAims, aims_then, aims_back, aims_event, aims_landing, same_sent, KeptByEvents, IsUnlanded, taken_both, msis_both, quiet_sends, source_refusal, source_accepted}
use Rattle.aia_isolation.proofs.BesideLemmas.{Anything}

-- Two histories give the same aims, and the same machine-level files.
record Ground (h k : History) : Type 0 where
  aims : SameAims h k
  hosts : SameFiles h k

itself : (h : History) → Ground h h
itself h = record { aims = record { setting = refl; acts = refl }; hosts = record { files = λ hart. refl; selects = λ hart. refl } }

ground_then : (h k l : History) → Ground h k → Ground k l → Ground h l
ground_then h k l a b = record { aims = aims_then h k l a.aims b.aims; hosts = files_then h k l a.hosts b.hosts }

kept : KeptByEvents Ground
kept = record {
  aims = λ h k a. a.aims;
  event = λ event h k a. record { aims = aims_event event h k a.aims; hosts = files_both event h k a.hosts };
}

unlanded : IsUnlanded Ground
unlanded = record {
  kept = kept;
  itself = itself;
  joined = ground_then;
  back = λ h k a. record {
    aims = aims_back h k a.aims;
    hosts = record { files = λ hart. sym (a.hosts.files hart); selects = λ hart. sym (a.hosts.selects hart) };
  };
  landing = λ vm n h. record { aims = aims_landing vm n h; hosts = files_landing vm n h };
}

both_accepted : (line : Line) (h k : History) → Ground h k → Ground (after_accepted h line) (after_accepted k line)
both_accepted line h k a =
    subst (λ sent. Ground (after_accepted h line) (delivered sent (line_taken k line))) (same_sent line h k a.aims)
    (msis_both Ground kept (msis_sent_by h line) (line_taken h line) (line_taken k line) (taken_both Ground unlanded line (line_deed line) h k a))

-- ---- what is answered

settings : (h k : History) → Ground h k → unpassing h ≡ unpassing k
settings h k a = ap (λ (s : Setting). record { machine = s.machine; vms = s.vms; passes = []; homes = s.homes }) a.aims.setting

by_home : (line : Line) → (is_of_machine_level line || is_about_homes line) ≡ true → is_of_machine_level line ≡ false → is_about_homes line ≡ true
by_home line its other = sym (ap (λ b. b || is_about_homes line) other) ∙ its

same_refusal : (line : Line) (h k : History) → is_of_machine_level_by_sources line ≡ true → Ground h k → refusal h line ≡ refusal k line
same_refusal (Machine harts guests n sources) h k its a =
    ap (λ (s : Setting). cond (is_some s.machine) (Some Again) (cond (not (is_machine_size harts guests n sources)) (Some (Refused Range)) None))
    a.aims.setting
same_refusal (lines.Vm vcpus mask hart) h k its a = vm_refusal vcpus mask hart h k (settings h k a)
same_refusal (Wire source level) h k its a = source_refusal (Wire source level) h k refl a.aims
same_refusal (Load addr) h k its a = source_refusal (Load addr) h k refl a.aims
same_refusal (Store addr value) h k its a = source_refusal (Store addr value) h k refl a.aims
same_refusal (lines.Pass source vm vcpu identity) h k its a = source_refusal (lines.Pass source vm vcpu identity) h k refl a.aims
same_refusal (MachineCsr hart csr op) h k its a =
    ap (λ (s : Setting). csr_word hart csr op s.machine (select_of h (MachineFile hart))) a.aims.setting
    ∙ ap (λ select. csr_word hart csr op (setting_of k).machine select) (a.hosts.selects hart)
same_refusal line h k its a = home_refusal line h k its (settings h k a)

same_accepted : (line : Line) (h k : History) → is_of_machine_level_by_sources line ≡ true → Ground h k
    → accepted_answer h line ≡ accepted_answer k line
same_accepted (Load addr) h k its a = source_accepted (Load addr) h k refl a.aims
same_accepted (MachineCsr hart csr op) h k its a = files_shown hart csr h k a.hosts
same_accepted (Step vm vcpu) h k its a =
    ap (λ (s : Setting). if is_at_last (words_in s) (s.homes (vcpu_of vm vcpu)) then Done else Moving) a.aims.setting
same_accepted (Machine harts guests n sources) h k its a = refl
same_accepted (lines.Vm vcpus mask hart) h k its a = refl
same_accepted (Wire source level) h k its a = refl
same_accepted (Store addr value) h k its a = refl
same_accepted (lines.Pass source vm vcpu identity) h k its a = refl
same_accepted (lines.Move vm vcpu want) h k its a = refl
same_accepted (lines.Begin vm vcpu want) h k its a = refl
same_accepted (Enter vm vcpu) h k its a = refl
same_accepted (Exit vm vcpu) h k its a = refl
same_accepted line h k its a = absurd (false≢true its)

same_answer : (line : Line) (h k : History) → is_of_machine_level_by_sources line ≡ true → Ground h k → answer h line ≡ answer k line
same_answer line h k its a =
    answered h line (refusal k line) (same_refusal line h k its a) ∙ ap (unwrap_or (refusal k line)) (same_accepted line h k its a)
    ∙ sym (answered k line (refusal k line) refl)

-- ---- a line in one of them

no_level : (line : Line) → is_of_machine_level_by_sources line ≡ false → is_of_machine_level line ≡ false
no_level (lines.Vm vcpus mask hart) e = refl
no_level (lines.Pass source vm vcpu identity) e = refl
no_level line e = (or_parts (is_of_machine_level line) (is_about_homes line) e).0

no_home : (line : Line) → is_of_machine_level_by_sources line ≡ false → is_about_homes line ≡ false
no_home (lines.Vm vcpus mask hart) e = refl
no_home (lines.Pass source vm vcpu identity) e = refl
no_home line e = (or_parts (is_of_machine_level line) (is_about_homes line) e).1

passes_none : (line : Line) → is_of_machine_level_by_sources line ≡ false → passes_source line ≡ false
passes_none (lines.Pass source vm vcpu identity) e = absurd (cc)
passes_none line e = refl

no_setup : (line : Line) → is_of_machine_level_by_sources line ≡ false → sets_up (Accepted line) ≡ false
no_setup (Machine harts guests n sources) e = absurd (cc)
no_setup (lines.Vm vcpus mask hart) e = absurd (cc)
no_setup (lines.Pass source vm vcpu identity) e = absurd (cc)
no_setup line e = refl

setting_less : (event : Event) (h : History) → sets_up event ≡ false → ((x : Vcpu) → moved h (home h) event x ≡ home h x)
    → setting_of (event ∷ h) ≡ setting_of h
setting_less event h quiet stays =
    let setup = left_setup event h quiet in
    let homes = λ (x : Vcpu). home_step event h x ∙ stays x in
    λ i. record { machine = (sym setup.0) i; vms = (sym setup.1) i; passes = (sym setup.2) i; homes = λ x. homes x i }

line_less : (line : Line) (h : History) → is_of_machine_level_by_sources line ≡ false → Ground (Accepted line ∷ h) h
line_less line h e = record {
  aims = record {
    setting = setting_less (Accepted line) h (no_setup line e)
        (λ x. none_rests (rest_after line) x (home h x) (or_parts (is_some (rest_after line)) _ (no_home line e)).0);
    acts = quiet_acts line h (no_act line (no_level line e)) (passes_none line e);
  };
  hosts = files_less (Accepted line) h (λ hart. line_rests line h hart (no_level line e));
}

one_taken : (line : Line) (h : History) → is_of_machine_level_by_sources line ≡ false → Ground (line_taken h line) h
one_taken (lines.Move vm vcpu want) h e = absurd (false≢true (sym e))
one_taken (lines.Begin vm vcpu want) h e = absurd (false≢true (sym e))
one_taken (Step vm vcpu) h e = absurd (false≢true (sym e))
one_taken (Land vm n) h e = record { aims = aims_landing vm n h; hosts = files_landing vm n h }
one_taken line h e = line_less line h e

one_accepted : (line : Line) (h : History) → is_of_machine_level_by_sources line ≡ false → Ground (after_accepted h line) h
one_accepted line h e =
    subst (λ sent. Ground (delivered sent (line_taken h line)) h) (sym (quiet_sends line h (no_act line (no_level line e)) (passes_none line e)))
    (one_taken line h e)

-- ---- a script

keeps : KeepsAlike is_of_machine_level_by_sources Anything Ground
keeps = record {
  answered = same_answer;
  both = λ line h k its any a. both_by Anything Ground line h k (same_refusal line h k its a) any a (λ any. both_accepted line h k a);
  one = λ line h k other any a. one_by Anything Ground line h k any a (λ any. ground_then _ h k (one_accepted line h other) a);
  earlier = λ h texts any. tt;
}

pub left_out : (script : List ℕ)
    → answers_to is_of_machine_level_by_sources script ≡ answers_from [] (texts_that_pass is_of_machine_level_by_sources script)
left_out script = answers_alike is_of_machine_level_by_sources Anything Ground keeps (texts_of script) [] [] tt (itself [])

pub alone : (script part : List ℕ) → texts_of part ≡ texts_that_pass is_of_machine_level_by_sources script
    → answers_to is_of_machine_level_by_sources script ≡ answers part
alone script part e = left_out script ∙ sym (ap (answers_from []) e)

pub same_for : (script other : List ℕ) → texts_that_pass is_of_machine_level_by_sources script ≡ texts_that_pass is_of_machine_level_by_sources other
    → answers_to is_of_machine_level_by_sources script ≡ answers_to is_of_machine_level_by_sources other
same_for script other e = left_out script ∙ ap (answers_from []) e ∙ sym (left_out other)
