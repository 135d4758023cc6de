-- What the word on a `pass` line turns on.
use Rattle.std.proofs.Common.{◌≡◌, ◌⊎◌, ℕ, Bool, true, false, not, ◌&&◌, cond, nat_le, is_some, length, Option, Some, None, inl, inr, refl, sym, ap, subst, ◌∙◌}
use Rattle.std.specs.Int.{is_in_range}
use Rattle.std.specs.Option.{option_map_or}
use Rattle.aia_regs.specs.declared.limits.TheConstants.{PASSES}
use Rattle.aia_vcpu.specs.Vms.{vcpu_of, is_vcpu_in}
use Rattle.aia_vcpu.specs.Home.{is_moving}
use Rattle.aia_model.specs.declared.answer.Answer.{Answer}
use Rattle.aia_model.specs.declared.answer.Answer.TheVariants.{NoMachine, Refused}
use Rattle.aia_model.specs.declared.refusal.Refusal.TheVariants.{Range, Full, Busy, Passed, Unready}
use Rattle.aia_model.specs.declared.line.Line.TheVariants.{Pass}
use Rattle.aia_model.specs.Event.{History, MachineSize, has_machine, sources_of, greatest_identity_of}
use Rattle.aia_model.specs.Vms.{has_vcpu}
use Rattle.aia_model.specs.HomeOf.{home}
use Rattle.aia_model.specs.Passes.{passes_of, is_passed}
use Rattle.aia_model.specs.Passable.{is_passable}
use Rattle.aia_model.specs.Sent.{acts_of}
use Rattle.aia_model.specs.Refusal.{refusal}
use Rattle.aia_isolation.specs.Beside.{LooksAlike, tells_of_passes}

-- The word by what it turns on, in the order of the words.
abbrev chosen : Bool → Bool → Bool → Bool → Bool → Bool → Option Answer
chosen lacks out full busy passed unready =
    cond lacks (Some NoMachine) (cond out (Some (Refused Range)) (cond full (Some (Refused Full)) (cond busy (Some (Refused Busy))
    (cond passed (Some (Refused Passed)) (cond unready (Some (Refused Unready)) None)))))

told : (lacks out full busy passed unready more again : Bool)
    → (chosen lacks out full busy passed unready ≡ chosen lacks out more busy again unready)
    ⊎ ((tells_of_passes (chosen lacks out full busy passed unready) ≡ true) ⊎ (tells_of_passes (chosen lacks out more busy again unready) ≡ true))
told true out full busy passed unready more again = inl refl
told false true full busy passed unready more again = inl refl
told false false true busy passed unready more again = inr (inl refl)
told false false false busy passed unready true again = inr (inr refl)
told false false false true passed unready false again = inl refl
told false false false false true unready false again = inr (inl refl)
told false false false false false unready false true = inr (inr refl)
told false false false false false unready false false = inl refl

abbrev range_of : History → ℕ → ℕ → ℕ → ℕ → Bool
range_of h source vm vcpu identity =
    is_in_range 1 (sources_of h) source && has_vcpu h (vcpu_of vm vcpu) && is_in_range 1 (greatest_identity_of h) identity

same_range : (v : ℕ) (h k : History) (source vm vcpu identity : ℕ) → LooksAlike v h k
    → range_of h source vm vcpu identity ≡ range_of k source vm vcpu identity
same_range v h k source vm vcpu identity a =
    ap (λ machine. is_in_range 1 (option_map_or (λ (m : MachineSize). m.sources) machine 0) source && has_vcpu h (vcpu_of vm vcpu)
    && is_in_range 1 (option_map_or (λ (m : MachineSize). m.n) machine 0) identity) a.machine
    ∙ ap (λ vms. is_in_range 1 (sources_of k) source && is_vcpu_in vms (vcpu_of vm vcpu) && is_in_range 1 (greatest_identity_of k) identity) a.vms

-- after the second history, by what the first one has where both look alike
word_then : (v : ℕ) (h k : History) (source vm vcpu identity : ℕ) → LooksAlike v h k
    → is_passable (acts_of h) source ≡ is_passable (acts_of k) source
    → refusal k (Pass source vm vcpu identity)
    ≡ chosen (not (has_machine h)) (not (range_of h source vm vcpu identity)) (nat_le PASSES (length (passes_of k)))
    (is_moving (home h (vcpu_of vm vcpu))) (is_passed k source) (not (is_passable (acts_of h) source))
word_then v h k source vm vcpu identity a ready =
    let full = nat_le PASSES (length (passes_of k)) in
    sym (ap (λ (machine : Option MachineSize). chosen (not (is_some machine)) (not (range_of h source vm vcpu identity)) full
    (is_moving (home h (vcpu_of vm vcpu))) (is_passed k source) (not (is_passable (acts_of h) source))) a.machine
    ∙ ap (λ range. chosen (not (has_machine k)) (not range) full (is_moving (home h (vcpu_of vm vcpu))) (is_passed k source)
    (not (is_passable (acts_of h) source))) (same_range v h k source vm vcpu identity a)
    ∙ ap (λ there. chosen (not (has_machine k)) (not (range_of k source vm vcpu identity)) full (is_moving there) (is_passed k source)
    (not (is_passable (acts_of h) source))) (a.homes (vcpu_of vm vcpu))
    ∙ ap (λ passable. chosen (not (has_machine k)) (not (range_of k source vm vcpu identity)) full (is_moving (home k (vcpu_of vm vcpu)))
    (is_passed k source) (not passable)) ready)

pub pass_told : (v : ℕ) (h k : History) (source vm vcpu identity : ℕ) → LooksAlike v h k
    → is_passable (acts_of h) source ≡ is_passable (acts_of k) source
    → (refusal h (Pass source vm vcpu identity) ≡ refusal k (Pass source vm vcpu identity))
    ⊎ ((tells_of_passes (refusal h (Pass source vm vcpu identity)) ≡ true)
    ⊎ (tells_of_passes (refusal k (Pass source vm vcpu identity)) ≡ true))
pass_told v h k source vm vcpu identity a ready =
    subst (λ word. (refusal h (Pass source vm vcpu identity) ≡ word)
    ⊎ ((tells_of_passes (refusal h (Pass source vm vcpu identity)) ≡ true) ⊎ (tells_of_passes word ≡ true)))
    (sym (word_then v h k source vm vcpu identity a ready))
    (told (not (has_machine h)) (not (range_of h source vm vcpu identity)) (nat_le PASSES (length (passes_of h)))
    (is_moving (home h (vcpu_of vm vcpu))) (is_passed h source) (not (is_passable (acts_of h) source))
    (nat_le PASSES (length (passes_of k))) (is_passed k source))

pub pass_counted : (v : ℕ) (h k : History) (source vm vcpu identity : ℕ) → LooksAlike v h k
    → is_passable (acts_of h) source ≡ is_passable (acts_of k) source → length (passes_of h) ≡ length (passes_of k)
    → is_passed h source ≡ is_passed k source
    → refusal h (Pass source vm vcpu identity) ≡ refusal k (Pass source vm vcpu identity)
pass_counted v h k source vm vcpu identity a ready count passed =
    ap (λ n. chosen (not (has_machine h)) (not (range_of h source vm vcpu identity)) (nat_le PASSES n)
    (is_moving (home h (vcpu_of vm vcpu))) (is_passed h source) (not (is_passable (acts_of h) source))) count
    ∙ ap (λ b. chosen (not (has_machine h)) (not (range_of h source vm vcpu identity)) (nat_le PASSES (length (passes_of k)))
    (is_moving (home h (vcpu_of vm vcpu))) b (not (is_passable (acts_of h) source))) passed
    ∙ sym (word_then v h k source vm vcpu identity a ready)
