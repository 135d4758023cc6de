-- What does not concern a VM adds nothing to what does.
use Rattle.std.proofs.Common.{◌≡◌, ℕ, Bool, false, ◌∷◌, nat_eq, cond, Some, None, refl, ap}
use Rattle.aia_vcpu.specs.Vms.{Vcpu}
use Rattle.aia_model.specs.declared.line.Line.TheVariants as lines
use Rattle.aia_model.specs.Event.{History}
use Rattle.aia_model.specs.Event.Event.{Accepted, Began, Stepped, Landed}
use Rattle.aia_model.specs.Move.{WantedMove}
use Rattle.aia_isolation.specs.Said.{with_any}
use Rattle.aia_isolation.specs.Concerns.{events_for}

pub began_unseen : (v : ℕ) (h : History) (move : WantedMove) → events_for v (Began move ∷ h) ≡ events_for v h
unfolding events_for
began_unseen v h move = refl

pub step_unseen : (v : ℕ) (h : History) (x : Vcpu) → events_for v (Stepped x ∷ h) ≡ events_for v h
unfolding events_for
step_unseen v h x = refl

pub enter_unseen : (v : ℕ) (h : History) (vm vcpu : ℕ) → events_for v (Accepted (lines.Enter vm vcpu) ∷ h) ≡ events_for v h
unfolding events_for
enter_unseen v h vm vcpu = refl

pub save_unseen : (v : ℕ) (h : History) (vm vcpu k : ℕ) → events_for v (Accepted (lines.Save vm vcpu k) ∷ h) ≡ events_for v h
unfolding events_for
save_unseen v h vm vcpu k = refl

pub wire_unseen : (v : ℕ) (h : History) (source : ℕ) (level : Bool) → events_for v (Accepted (lines.Wire source level) ∷ h) ≡ events_for v h
unfolding events_for
wire_unseen v h source level = refl

pub other_unseen : (v : ℕ) (h : History) (vm addr value : ℕ) → nat_eq vm v ≡ false
    → events_for v (Accepted (lines.Msi vm addr value) ∷ h) ≡ events_for v h
unfolding events_for
other_unseen v h vm addr value e = ap (λ is. with_any (cond is (Some (Accepted (lines.Msi vm addr value))) None) (events_for v h)) e

pub landing_unseen : (v : ℕ) (h : History) (vm k : ℕ) → nat_eq vm v ≡ false → events_for v (Landed vm k ∷ h) ≡ events_for v h
unfolding events_for
landing_unseen v h vm k e = ap (λ is. with_any (cond is (Some (Landed vm k)) None) (events_for v h)) e
