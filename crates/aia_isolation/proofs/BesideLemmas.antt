-- What a script answers to the texts that concern a VM, or decide what the APLIC sends, is what it
-- answers where all others are left out, whatever sources are passed.
use Rattle.std.proofs.Common.{◌≡◌, ℕ, true, false, ◌||◌, is_some, List, [], Option, Some, None, inl, inr, unwrap_or, refl, sym, ap, subst, ◌∙◌}
use Rattle.std.specs.Option.{option_map}
use Rattle.std.proofs.lemmas.Bool.{cases_Bool, or_parts, false≢true}
use Rattle.aia_model.specs.declared.line.Line.{Line}
use Rattle.aia_model.specs.declared.line.Line.TheVariants.{Machine, Wire, Load, Store, Step, Land}
use Rattle.aia_model.specs.declared.line.Line.TheVariants as lines
use Rattle.aia_model.specs.declared.want.Want.TheVariants as wants
use Rattle.aia_model.specs.declared.domain_name.DomainName.{DomainName}
use Rattle.aia_model.specs.Move.{line_deed}
use Rattle.aia_model.specs.Event.{History}
use Rattle.aia_model.specs.Act.{Act, act_of, domain_at, register_at}
use Rattle.aia_model.specs.Act.Act.{Loaded, Written}
use Rattle.aia_model.specs.Sent.{acts_of, msis_sent_by}
use Rattle.aia_model.specs.Refusal.{refusal}
use Rattle.aia_model.specs.Answer.{answer, accepted_answer, line_taken, after_accepted, delivered}
use Rattle.aia_model.specs.Text.{texts_of}
use Rattle.aia_model.specs.Script.{answers_from, answers}
use Rattle.aia_model.proofs.AnswerLemmas.{answered}
use Rattle.aia_isolation.specs.Concerns.{concerns}
use Rattle.aia_isolation.specs.Beside.{is_about_sources, concerns_by_sources}
use Rattle.aia_isolation.specs.Parts.{texts_that_pass, answers_to}
use Rattle.aia_isolation.proofs.UnpassedLemmas.{passes_source}
use Rattle.aia_isolation.proofs.AlikeLemmas.{Alike, itself, alike_then, alike_back, alike_event, alike_taken, same_setting}
use Rattle.aia_isolation.proofs.RefusalLemmas.{looks, same_refusal, same_accepted}
use Rattle.aia_isolation.proofs.ConcernLemmas.{one_taken}
use Rattle.aia_isolation.proofs.PartLemmas.{KeepsAlike, both_by, one_by, answers_alike}
use Rattle.aia_isolation.proofs.BelowLemmas.{quiet_acts}
use Rattle.aia_isolation.proofs.AimsLemmas.{SameAims, aims_event, aims_taken, same_sent, KeptByEvents, msis_both, quiet_sends, of_sources, source_refusal, source_accepted}

-- Two histories are alike to a VM, and the same happened to the APLIC.
record Beside (v : ℕ) (h k : History) : Type 0 where
  alike : Alike v h k
  acts : acts_of h ≡ acts_of k

aims : (v : ℕ) (h k : History) → Beside v h k → SameAims h k
aims v h k a = record { setting = same_setting v h k a.alike; acts = a.acts }

beside_then : (v : ℕ) (h k l : History) → Beside v h k → Beside v k l → Beside v h l
beside_then v h k l a b = record { alike = alike_then v h k l a.alike b.alike; acts = a.acts ∙ b.acts }

beside_back : (v : ℕ) (h k : History) → Beside v h k → Beside v k h
beside_back v h k a = record { alike = alike_back v h k a.alike; acts = sym a.acts }

kept : (v : ℕ) → KeptByEvents (Beside v)
kept v = record {
  aims = aims v;
  event = λ event h k a. record { alike = alike_event v event h k a.alike; acts = (aims_event event h k (aims v h k a)).acts };
}

-- ---- what is answered

by_either : {A : Type 0} (v : ℕ) (line : Line) → concerns_by_sources v line ≡ true → (concerns v line ≡ true → A) → (is_about_sources line ≡ true → A)
    → A
by_either v line its of_vm of_sources = elim (cases_Bool (concerns v line)) [
  | inl own ↦ of_vm own
  | inr other ↦ of_sources (sym (ap (λ b. b || is_about_sources line) other) ∙ its)
]

same_refused : (line : Line) (v : ℕ) (h k : History) → concerns_by_sources v line ≡ true → Beside v h k → refusal h line ≡ refusal k line
same_refused line v h k its a = by_either v line its (λ own. same_refusal line v h k own (looks v h k a.alike))
    (λ own. source_refusal line h k (of_sources line own) (aims v h k a))

same_told : (line : Line) (v : ℕ) (h k : History) → concerns_by_sources v line ≡ true → Beside v h k → accepted_answer h line ≡ accepted_answer k line
same_told line v h k its a = by_either v line its (λ own. same_accepted line v h k own (looks v h k a.alike))
    (λ own. source_accepted line h k (of_sources line own) (aims v h k a))

same_answer : (line : Line) (v : ℕ) (h k : History) → concerns_by_sources v line ≡ true → Beside v h k → answer h line ≡ answer k line
same_answer line v h k its a =
    answered h line (refusal k line) (same_refused line v h k its a) ∙ ap (unwrap_or (refusal k line)) (same_told line v h k its a)
    ∙ sym (answered k line (refusal k line) refl)

-- ---- a line in both, and in one of them

both_accepted : (line : Line) (v : ℕ) (h k : History) → Beside v h k → Beside v (after_accepted h line) (after_accepted k line)
both_accepted line v h k a =
    subst (λ sent. Beside v (after_accepted h line) (delivered sent (line_taken k line))) (same_sent line h k (aims v h k a))
    (msis_both (Beside v) (kept v) (msis_sent_by h line) (line_taken h line) (line_taken k line) (record {
      alike = alike_taken v line (line_deed line) h k a.alike;
      acts = (aims_taken line (line_deed line) h k (aims v h k a)).acts;
    }))

-- a load or a store elsewhere does nothing to the APLIC
nothing_there : (f : DomainName → Act) (o : Option DomainName) → is_some o ≡ false → option_map f o ≡ None
nothing_there f None e = refl
nothing_there f (Some d) e = absurd (false≢true (sym e))

no_act : (line : Line) (v : ℕ) → concerns_by_sources v line ≡ false → ◌≡◌ {A = Option Act} (act_of line) None
no_act (Machine harts guests n sources) v e = absurd (cc)
no_act (Wire source level) v e = absurd (cc)
no_act (Load addr) v e = nothing_there (λ d. Loaded d (register_at addr)) (domain_at addr) e
no_act (Store addr value) v e = nothing_there (λ d. Written d (register_at addr) value) (domain_at addr) e
no_act line v e = refl

passes_none : (line : Line) (v : ℕ) → concerns_by_sources v line ≡ false → passes_source line ≡ false
passes_none (lines.Pass source vm vcpu identity) v e = absurd (cc)
passes_none line v e = refl

one_acts : (line : Line) (v : ℕ) (h : History) → concerns_by_sources v line ≡ false → acts_of (line_taken h line) ≡ acts_of h
one_acts (lines.Move vm vcpu (wants.Arrive hart)) v h e = absurd (cc)
one_acts (lines.Move vm vcpu wants.Leave) v h e = absurd (cc)
one_acts (lines.Move vm vcpu (wants.Shift hart)) v h e = absurd (cc)
one_acts (lines.Begin vm vcpu (wants.Arrive hart)) v h e = absurd (cc)
one_acts (lines.Begin vm vcpu wants.Leave) v h e = absurd (cc)
one_acts (lines.Begin vm vcpu (wants.Shift hart)) v h e = absurd (cc)
one_acts (Step vm vcpu) v h e = absurd (cc)
one_acts (Land vm n) v h e = refl
one_acts line v h e = quiet_acts line h (no_act line v e) (passes_none line v e)

one_accepted : (line : Line) (v : ℕ) (h : History) → concerns_by_sources v line ≡ false → Beside v h (after_accepted h line)
one_accepted line v h e =
    subst (λ sent. Beside v h (delivered sent (line_taken h line))) (sym (quiet_sends line h (no_act line v e) (passes_none line v e)))
    (record {
      alike = one_taken line v h (or_parts (concerns v line) (is_about_sources line) e).0 (passes_none line v e);
      acts = sym (one_acts line v h e);
    })

-- ---- a script

abbrev pub Anything : History → Type 0
Anything h = Unit {0}

keeps : (v : ℕ) → KeepsAlike (concerns_by_sources v) Anything (Beside v)
keeps v = record {
  answered = λ line h k its a. same_answer line v h k its a;
  both = λ line h k its any a. both_by Anything (Beside v) line h k (same_refused line v h k its a) any a (λ any. both_accepted line v h k a);
  one = λ line h k other any a. one_by Anything (Beside v) line h k any a
      (λ any. beside_then v _ h k (beside_back v h _ (one_accepted line v h other)) a);
  earlier = λ h texts any. tt;
}

pub left_out : (v : ℕ) (script : List ℕ)
    → answers_to (concerns_by_sources v) script ≡ answers_from [] (texts_that_pass (concerns_by_sources v) script)
left_out v script = answers_alike (concerns_by_sources v) Anything (Beside v) (keeps v) (texts_of script) [] [] tt
    (record { alike = itself v []; acts = refl })

pub alone : (v : ℕ) (script part : List ℕ) → texts_of part ≡ texts_that_pass (concerns_by_sources v) script
    → answers_to (concerns_by_sources v) script ≡ answers part
alone v script part e = left_out v script ∙ sym (ap (answers_from []) e)

pub same_for : (v : ℕ) (script other : List ℕ) → texts_that_pass (concerns_by_sources v) script ≡ texts_that_pass (concerns_by_sources v) other
    → answers_to (concerns_by_sources v) script ≡ answers_to (concerns_by_sources v) other
same_for v script other e = left_out v script ∙ ap (answers_from []) e ∙ sym (left_out v other)
