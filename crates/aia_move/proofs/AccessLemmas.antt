-- What the next access of a move needs: a file, a word, who is there.
use Rattle.std.proofs.Common.{◌≡◌, ℕ, true, false, Option, Some, None, refl, sym, ap, ◌∙◌, subst, arith}
use Rattle.std.specs.Prelude.{IsSome, option_map, not, nat_lt}
use Rattle.std.proofs.lemmas.Bool.{ltb-true, eq-eqb, false≢true, and_parts}
use Rattle.aia_word.specs.Sets.{has_bit}
use Rattle.aia_vcpu.specs.declared.place.GuestPlace.{GuestPlace}
use Rattle.aia_vcpu.specs.declared.access.Access.{Access}
use Rattle.aia_vcpu.specs.declared.access.Access.TheVariants.{TakeDelivery, PutDelivery, TakePending, PutPending, TakeEnables, PutEnables, Look, TakeThreshold, PutThreshold}
use Rattle.aia_vcpu.specs.declared.end.End.{End}
use Rattle.aia_vcpu.specs.Home.{Way, Progress, Home, is_file, left, led_to, end_at, old_end, new_end}
use Rattle.aia_vcpu.specs.Home.Home.{OnWay}
use Rattle.aia_vcpu.specs.Plans.{IsAt, IsNext, plan_has, plan_step, is_last_made}
use Rattle.aia_vcpu.specs.Phases.{Phase, phase_begins, begins}
use Rattle.aia_vcpu.specs.BySteps.{old_file, new_file}
use Rattle.aia_fabric_values.specs.World.{World}
use Rattle.aia_move_values.specs.Move.{Moving, width, MoveFits}
use Rattle.aia_move_values.specs.Accesses.{HasFile, WordFits}

-- the word that it names, and what is put
pub word_fits : (w : World) (s : Moving) (access : Access) → MoveFits w s → IsNext (width w) s.home access → WordFits access (width w) s.hand.word
word_fits w s access fits next = by_home s.home fits.no_pending_zero fits.no_enabled_zero access next
  where
    by_home : (there : Home) → (is_last_made (width w) there (TakePending 0) ≡ true → has_bit s.hand.word 0 ≡ false)
        → (is_last_made (width w) there (TakeEnables 0) ≡ true → has_bit s.hand.word 0 ≡ false)
        → (access : Access) → IsNext (width w) there access → WordFits access (width w) s.hand.word
    by_home (OnWay way at) pending enabled (TakePending k) next = ltb-true _ _ next.has
    by_home (OnWay way at) pending enabled (PutPending k) next = (ltb-true _ _ next.has, λ z. pending (eq-eqb _ _ (omega (arith, z, next.step))))
    by_home (OnWay way at) pending enabled (TakeEnables k) next = ltb-true _ _ next.has
    by_home (OnWay way at) pending enabled (PutEnables k) next = (ltb-true _ _ next.has, λ z. enabled (eq-eqb _ _ (omega (arith, z, next.step))))
    by_home (OnWay way at) pending enabled (Look k) next = ltb-true _ _ (and_parts (not (is_file (new_end way))) (nat_lt k (width w)) next.has).1
    by_home (OnWay way at) pending enabled access next = tt
    by_home there pending enabled access next = let no : false ≡ true = next.has in absurd (cc)

-- the file that a number is taken of, or put in
has_file : (words : ℕ) (there : Home) (access : Access) → IsNext words there access → HasFile access (old_file there) (new_file there)
has_file words (OnWay way at) access next = at_ends (left way) (led_to way) access next.has
  where
    at_ends : (old new : Option GuestPlace) (access : Access) → plan_has (end_at old) (end_at new) words access ≡ true → HasFile access old new
    at_ends (Some p) new TakeDelivery has = refl
    at_ends (Some p) new TakeThreshold has = refl
    at_ends old (Some p) PutDelivery has = refl
    at_ends old (Some p) PutThreshold has = refl
    at_ends None new TakeDelivery has = absurd (false≢true has)
    at_ends None new TakeThreshold has = absurd (false≢true has)
    at_ends old None PutDelivery has = absurd (false≢true has)
    at_ends old None PutThreshold has = absurd (false≢true has)
    at_ends old new access has = tt
has_file words there access next = absurd (false≢true next.has)

-- of the leases that have them
pub leases_have : {A : Type 0} (place : A → GuestPlace) (words : ℕ) (there : Home) (access : Access) (old new : Option A)
    → IsNext words there access → option_map place old ≡ old_file there → option_map place new ≡ new_file there → HasFile access old new
leases_have place words there access old new next is_old is_new = by_access access (has_file words there access next)
  where
    some : {B : Type 0} (x : Option B) (z : Option GuestPlace) (f : B → GuestPlace) → option_map f x ≡ z → IsSome z → IsSome x
    some (Some b) z f e is = refl
    some None z f e is = let no : IsSome (option_map f None) = subst IsSome (sym e) is in absurd (false≢true no)

    by_access : (access : Access) → HasFile access (old_file there) (new_file there) → HasFile access old new
    by_access TakeDelivery is = some old (old_file there) place is_old is
    by_access TakeThreshold is = some old (old_file there) place is_old is
    by_access PutDelivery is = some new (new_file there) place is_new is
    by_access PutThreshold is = some new (new_file there) place is_new is
    by_access access is = tt

-- the access that the walk gives is the next one; a phase begins where it counts to
module _ (way : Way) (at : Progress) (there : Home) (from to : End) (words wide : ℕ) (here : OnWay way at ≡ there) (leaves : from ≡ old_end way)
    (leads : to ≡ new_end way) (value : words ≡ wide) where
  pub at_is_next : (access : Access) → IsAt from to words at.steps access → IsNext wide there access
  at_is_next access is = subst (λ h. IsNext wide h access) here (record {
    has = same ∙ is.has;
    step = is.step ∙ (λ k. plan_step (leaves k) (leads k) (value k) access);
  })
    where
      same : plan_has (old_end way) (new_end way) wide access ≡ plan_has from to words access
      same = sym (λ k. plan_has (leaves k) (leads k) (value k) access)

  pub begins_at : (phase : Phase) (end : ℕ) → end ≡ phase_begins from to words phase → end ≡ begins wide there phase
  begins_at phase end is = is ∙ (λ k. phase_begins (leaves k) (leads k) (value k) phase) ∙ ap (λ h. begins wide h phase) here
