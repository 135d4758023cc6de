-- What is kept as a virtual hart begins.
use Rattle.std.proofs.Common.{◌≡◌, Bool, true, false, cond, nat_eq, refl}
use Rattle.aia_major.specs.VsMajor.{new_majors}
use Rattle.aia_major.specs.Kept.{members, no_members, kept_at_first, majors_shown}

none_of : (a b c d : Bool) → cond a false (cond b false (cond c false (cond d false false))) ≡ false
none_of true b c d = refl
none_of false true c d = refl
none_of false false true d = refl
none_of false false false true = refl
none_of false false false false = refl

none : members no_members ≡ (λ j. false)
none = λ k j. none_of (nat_eq j 1) (nat_eq j 5) (nat_eq j 9) (nat_eq j 13) k

pub shown_at_first : majors_shown kept_at_first ≡ new_majors
unfolding majors_shown
shown_at_first = λ k. record { injected = none k; enabled = none k; hviprio1 = 0; hvictl = 0 }
