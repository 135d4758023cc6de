-- What the automaton of one virtual hart makes of a word more, and what is left out.
use Rattle.std.proofs.Common.{◌≡◌, ℕ, Bool, false, ◌||◌, is_some, nat_eq, cond, ◌∷◌, List, Option, Some, None, refl, ap, ◌∙◌}
use Rattle.aia_regs.specs.declared.access.Csr.{Csr}
use Rattle.aia_regs.specs.declared.access.Op.TheVariants.{Read}
use Rattle.aia_vcpu.specs.Vms.{Vcpu}
use Rattle.aia_model.specs.declared.answer.Answer.TheVariants.{Wide}
use Rattle.aia_model.specs.declared.line.Line.TheVariants as lines
use Rattle.aia_model.specs.Event.{History}
use Rattle.aia_model.specs.Event.Event.{Accepted, Began, Landed}
use Rattle.aia_model.specs.Move.{WantedMove}
use Rattle.aia_model.specs.Passes.{nth_pass}
use Rattle.aia_isolation.specs.Said.{Said, said_by}
use Rattle.aia_isolation.specs.Said.Said.{Asked, Did}
use Rattle.aia_isolation.specs.Guest.{guest_by, with_pending, shown}
use Rattle.aia_isolation.specs.Replies.{replies_by, purged, IsPassTo}

pub of_pass : (past : History) (source : Option ℕ) (g : Vcpu) → IsPassTo past source g → (p : ℕ) × (source ≡ Some p) × ((nth_pass past p).to ≡ g)
of_pass past None g void = absurd void
of_pass past (Some p) g is = (p, refl, is)

pub by_asked : (i : ℕ) (words : List Said) → (guest_by (Asked i ∷ words)).file ≡ with_pending i (guest_by words).file
unfolding guest_by
by_asked i words = refl

pub one_more : (csr : Csr) (words : List Said) → replies_by (Did csr Read ∷ words) ≡ Wide (shown (guest_by words) csr) ∷ replies_by words
unfolding replies_by
one_more csr words = refl

pub move_left_out : (h : History) (move : WantedMove) (g : Vcpu) → purged (Began move ∷ h) g ≡ purged h g
unfolding purged
move_left_out h move g = refl

pub wire_left_out : (h : History) (source : ℕ) (level : Bool) (g : Vcpu) → purged (Accepted (lines.Wire source level) ∷ h) g ≡ purged h g
unfolding purged
wire_left_out h source level g = refl

pub send_left_out : (h : History) (vm addr value : ℕ) (g : Vcpu) → nat_eq vm g.vm ≡ false
    → purged (Accepted (lines.Send vm addr value) ∷ h) g ≡ purged h g
unfolding purged
send_left_out h vm addr value g other = ap (λ is. cond is (Accepted (lines.Send vm addr value) ∷ purged h g) (purged h g)) other

pub landing_left_out : (h : History) (vm k : ℕ) (g : Vcpu) → nat_eq vm g.vm ≡ false → said_by g h (Landed vm k) ≡ None
    → purged (Landed vm k ∷ h) g ≡ purged h g
unfolding purged
landing_left_out h vm k g other silent =
    ap (λ word. cond (is_some word || nat_eq vm g.vm) (Landed vm k ∷ purged h g) (purged h g)) silent
    ∙ ap (λ is. cond is (Landed vm k ∷ purged h g) (purged h g)) other
