-- Notices of a VM, spelled out; and what rests at a file of the host.
use Rattle.std.proofs.Common.{◌≡◌, ◌⊎◌, ℕ, ◌∷◌, true, nat_eq, refl, ap, inl, inr}
use Rattle.std.proofs.lemmas.Bool.{eq-eqb}
use Rattle.aia_model.specs.Event.{Event, History}
use Rattle.aia_model.specs.FileAfter.{FileDeed}
use Rattle.aia_model.specs.FileAfter.FileDeed.{Rests}
use Rattle.aia_model.specs.FileOf.{FileName, deed_at}
use Rattle.aia_isolation.specs.Reach.{IsNoticeOf, deeds_of, with_deed}
use Rattle.aia_uses.specs.Reached.{RestsOrTells}

pub spelled : (past : History) (v : ℕ) (f : FileName) (deed : FileDeed) → (deed ≡ Rests) ⊎ IsNoticeOf past v f deed → RestsOrTells past v f deed
spelled past v f deed (inl rests) = inl rests
spelled past v f deed (inr is) = inr (is.g, is.its, is.there, is.at, is.asks)

pub itself : (v : ℕ) → nat_eq v v ≡ true
itself v = eq-eqb v v refl

pub rests : (h : History) (event : Event) (f : FileName) → deed_at f h event ≡ Rests → deeds_of (event ∷ h) f ≡ deeds_of h f
unfolding deeds_of
rests h event f e = ap (λ deed. with_deed deed (deeds_of h f)) e
