-- What may be asked of a core of which sources are passed, and of the sources that stand in for an
-- APLIC's.
use Rattle.std.proofs.Common.{◌≡◌, ℕ, [], ◌∷◌, inl, inr, zero, suc, true, false, cond, nat_eq, Option, Some, None, refl, sym, ap, subst, ◌∙◌, arith}
use Rattle.std.proofs.lemmas.Bool.Decides.{nat_tests}
use Rattle.std.proofs.lemmas.Bool.{cond-false, false≢true, cases_Bool, ne_eqb, eqb-true}
use Rattle.std.specs.Int.{is_in_range}
use Rattle.aia_word.specs.Sets.{least_of}
use Rattle.aia_word.specs.Packed.{ones}
use Rattle.aia_regs.specs.DomainRegisters.{domain_register_of}
use Rattle.aia_model.specs.declared.answer.Answer.{Answer}
use Rattle.aia_model.specs.declared.domain_name.DomainName.{DomainName}
use Rattle.aia_model.specs.declared.domain_name.DomainName.TheVariants.{Root, Child}
use Rattle.aia_model.specs.declared.line.Line.TheVariants as lines
use Rattle.aia_model.specs.Act.{domain_at, newest}
use Rattle.aia_model.specs.AddressOf.{addresses_of}
use Rattle.aia_model.specs.SourceOf.{genmsi_waits, wire_of, enabled, target, pending}
use Rattle.aia_model.specs.Sent.{all_senders}
use Rattle.aia_model.specs.Event.{History}
use Rattle.aia_model.specs.Event.Event.{Accepted}
use Rattle.aia_model.specs.Histories.{IsHistory}
use Rattle.aia_model.specs.Passes.{passes_of}
use Rattle.aia_model.specs.HomeOf.{home}
use Rattle.aia_model.specs.Refusal.{refusal}
use Rattle.aia_model.specs.Flight.{flight}
use Rattle.aia_model.specs.ReachOf.{in_force_of}
use Rattle.aia_model.specs.Notice.{look_saw}
use Rattle.aia_model.specs.FileAfter.{file_by, select_by}
use Rattle.aia_move_values.specs.Targets.{AimsOne}
use Rattle.aia_hyp_values.specs.Core.{CoreState}
use Rattle.aia_hyp_values.specs.Passes.{TellsOf}
use Rattle.aia_hyp_values.specs.Stands.{CoreStands, CoreBegins, CoreTakes, MayPass, line_served}
use Rattle.aia_hyp_values.proofs.EventLemmas.{hosts_line}
use Rattle.aia_hyp_values.proofs.StoreLemmas.{line_rests}
use Rattle.aia_hyp_values.proofs.PageLemmas.{no_file_there}
use Rattle.aia_tests.specs.PassHistories.{stored, made, one_ready}

-- ---- a core with such a source

-- a store to a register of the APLIC is nothing to the core
store_rests : (x : CoreState) (h : History) (addr value : ℕ) (d : DomainName) → domain_at addr ≡ Some d → CoreStands x h
    → CoreStands x (Accepted (lines.Store addr value) ∷ h)
store_rests x h addr value d there = line_rests x h (lines.Store addr value) refl
    (hosts_line h (lines.Store addr value) refl refl (λ g. refl) (λ g m. refl))
    (λ f. cond-false _ _ _ (no_file_there addr f (λ none. let bad : ◌≡◌ {A = Option DomainName} None (Some d) = sym none ∙ there in absurd (cc))))

stores_rest : (x : CoreState) → CoreStands x (Accepted (lines.Machine 1 1 63 2) ∷ []) → CoreStands x stored
stores_rest x stands =
    store_rests x _ 0x0c001bcc 0x500000 Root refl (store_rests x _ 0x0c001bc8 0x28000 Root refl (store_rests x _ 0x0c001bc4 0x2000 Root refl
    (store_rests x _ 0x0c008000 0x104 Child refl (store_rests x _ 0x0c008004 4 Child refl (store_rests x _ 0x0c000004 0x400 Root refl stands)))))

vm_free : refusal stored (lines.Vm 1 8 0) ≡ None
unfolding ones passes_of home
vm_free = refl

pub made_stands : (x y : CoreState) (given : Answer) → CoreBegins x 1 1 63 → CoreTakes x y (lines.Vm 1 8 0) given → CoreStands y made
made_stands x y given begins takes = subst (λ (r : Option Answer). CoreStands y (line_served r stored (lines.Vm 1 8 0))) vm_free
    (takes.stands stored (stores_rest x (begins 2)))

pub made_happens : IsHistory made
unfolding passes_of addresses_of domain_register_of wire_of enabled target pending home flight in_force_of least_of look_saw file_by select_by
    ones all_senders genmsi_waits newest
made_happens = (refl, (refl, (refl, (refl, (refl, (refl, (refl, (refl, tt))))))))

-- ---- what is told of its sources

told : (t source : ℕ) → is_in_range 1 2 source ≡ true → TellsOf (one_ready t) made source
unfolding passes_of addresses_of domain_register_of wire_of enabled target pending home flight in_force_of least_of look_saw file_by select_by
    ones all_senders genmsi_waits newest
told t zero low = absurd (false≢true low)
told t (suc zero) low = record { there = refl; ready = refl }
told t (suc (suc zero)) low = record { there = refl; ready = refl }
told t (suc (suc (suc source))) low = let none : is_in_range 1 2 (suc (suc (suc source))) ≡ false = grind (arith, nat_tests) in
    absurd (false≢true (sym none ∙ low))

pub may_pass : (x : CoreState) (t source : ℕ) → CoreStands x made → is_in_range 1 2 source ≡ true → MayPass x (one_ready t) source
may_pass x t source stands low = record { past = made; happens = made_happens; stands = stands; tells = told t source low }

pub one_hart : (x : CoreState) → CoreStands x made → x.world.imsic.harts ≡ 1
one_hart x stands = stands.harts

-- an aim of the first source gives it its target, and one of another gives nothing
pub aims_first : (t u source target : ℕ) → u ≡ cond (nat_eq source 1) target t → AimsOne (one_ready t) source target (one_ready u)
aims_first t u source target e = record {
  harts = refl;
  ready = λ s. refl;
  aimed = λ is. ap (λ b. cond b u 0) is ∙ e ∙ ap (λ b. cond b target t) is;
  unready = λ is. ap (λ b. cond b u 0) is ∙ sym (ap (λ b. cond b t 0) is);
  others = λ s other. elim (cases_Bool (nat_eq s 1)) [
    | inl is ↦ ap (λ b. cond b u 0) is ∙ e ∙ ap (λ b. cond b target t) (ne_eqb source 1 (λ same. other (eqb-true s 1 is ∙ sym same)))
        ∙ sym (ap (λ b. cond b t 0) is)
    | inr is ↦ ap (λ b. cond b u 0) is ∙ sym (ap (λ b. cond b t 0) is)
  ];
}

pub aims_it : (t u source target : ℕ) → source ≡ 1 → u ≡ target → AimsOne (one_ready t) source target (one_ready u)
aims_it t u source target first e = aims_first t u source target (e ∙ sym (ap (λ s. cond (nat_eq s 1) target t) first))

pub aims_none : (t source target : ℕ) → (source ≡ 1 → ⊥) → AimsOne (one_ready t) source target (one_ready t)
aims_none t source target other = aims_first t t source target (sym (ap (λ b. cond b target t) (ne_eqb source 1 other)))
