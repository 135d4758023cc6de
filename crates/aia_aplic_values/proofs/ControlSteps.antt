-- What each act makes of a hart's delivery control in a domain.
use Rattle.std.proofs.Common.{◌≡◌, ℕ, ◌<◌, Bool, true, false, not, cond, ◌&&◌, nat_eq, nat_lt, is_none, List, [], ◌∷◌, length, All, slice_get, unwrap_or, refl, sym, ap, subst, ◌∙◌}
use Rattle.std.proofs.lemmas.Bool.{lt-ltb}
use Rattle.std.proofs.lemmas.Option.{slice_get_within, get_or_from_slice_get}
use Rattle.std.proofs.lemmas.List.Elements.{All-get_or}
use Rattle.aia_regs.specs.declared.domain_registers.DomainReg.{DomainReg}
use Rattle.aia_regs.specs.declared.domain_registers.DomainReg.TheVariants.{IDelivery, IForce, IThreshold, ClaimI}
use Rattle.aia_regs.specs.Fields.{field}
use Rattle.aia_direct.specs.Idc.{IdcState, new_idc, control_claimed}
use Rattle.aia_model.specs.declared.domain_name.DomainName.{DomainName}
use Rattle.aia_model.specs.Act.{Act, Past, newest, when}
use Rattle.aia_model.specs.declared.domain_name.DomainName.TheVariants.{Root, Child}
use Rattle.aia_model.specs.Act.Act.{Made, Driven, Written, Loaded}
use Rattle.aia_model.specs.SourceOf.{harts_in, idelivery_of, iforce_of, ithreshold_of, delivers_by_msis, top}
use Rattle.aia_aplic_values.specs.Side.{control, ControlsStand}
use Rattle.aia_aplic_values.specs.Controls.{EachControl, control_after}
use Rattle.std.proofs.lemmas.Iterator.Adapters.{option_map_id}
use Rattle.aia_domain.proofs.EachLemmas.{each-length, each-member}
use Rattle.aia_aplic_values.proofs.LoadedSteps.{is_claim}

-- ---- acts that say nothing of it

pub driven_control : (t : ℕ) (level : Bool) (past : Past) (d : DomainName) (h : ℕ) → control (Driven t level ∷ past) d h ≡ control past d h
unfolding newest
driven_control t level past d h = refl

pub root_at_child_write : (reg : DomainReg) (v : ℕ) (past : Past) (h : ℕ) → control (Written Child reg v ∷ past) Root h ≡ control past Root h
unfolding newest
root_at_child_write (IDelivery x) v past h = refl
root_at_child_write (IForce x) v past h = refl
root_at_child_write (IThreshold x) v past h = refl
root_at_child_write reg v past h = refl

pub child_at_root_write : (reg : DomainReg) (v : ℕ) (past : Past) (h : ℕ) → control (Written Root reg v ∷ past) Child h ≡ control past Child h
unfolding newest
child_at_root_write (IDelivery x) v past h = refl
child_at_root_write (IForce x) v past h = refl
child_at_root_write (IThreshold x) v past h = refl
child_at_root_write reg v past h = refl

pub root_at_child_load : (reg : DomainReg) (past : Past) (h : ℕ) → control (Loaded Child reg ∷ past) Root h ≡ control past Root h
unfolding newest
root_at_child_load (ClaimI x) past h = refl
root_at_child_load reg past h = refl

pub child_at_root_load : (reg : DomainReg) (past : Past) (h : ℕ) → control (Loaded Root reg ∷ past) Child h ≡ control past Child h
unfolding newest
child_at_root_load (ClaimI x) past h = refl
child_at_root_load reg past h = refl

pub loaded_control : (reg : DomainReg) (past : Past) (d : DomainName) (h : ℕ) → is_claim reg ≡ false
    → control (Loaded d reg ∷ past) d h ≡ control past d h
unfolding newest
loaded_control (ClaimI x) past d h plain = cc
loaded_control reg past d h plain = refl

-- ---- a write of one of its registers

-- a register is written where two conditions hold, of which one does
kept_if : (b there : Bool) (new old : ℕ) → there ≡ true → unwrap_or (when (true && b && there) new) old ≡ cond b new old
kept_if true true new old e = refl
kept_if false true new old e = refl
kept_if b false new old e = cc

delivers : (b : Bool) (new old : ℕ) (c : IdcState) → c.idelivery ≡ nat_eq old 1
    → record c { idelivery = nat_eq (cond b new old) 1 } ≡ cond b (record c { idelivery = nat_eq new 1 }) c
delivers true new old c e = refl
delivers false new old c e = ap (λ x. record c { idelivery = x }) (sym e)

forces : (b : Bool) (new old : ℕ) (c : IdcState) → c.iforce ≡ nat_eq old 1
    → record c { iforce = nat_eq (cond b new old) 1 } ≡ cond b (record c { iforce = nat_eq new 1 }) c
forces true new old c e = refl
forces false new old c e = ap (λ x. record c { iforce = x }) (sym e)

limits : (b : Bool) (new old : ℕ) (c : IdcState) → c.ithreshold ≡ old
    → record c { ithreshold = cond b new old } ≡ cond b (record c { ithreshold = new }) c
limits true new old c e = refl
limits false new old c e = ap (λ x. record c { ithreshold = x }) (sym e)

pub written_control : (reg : DomainReg) (v : ℕ) (past : Past) (d : DomainName) (h : ℕ) → h < harts_in past
    → control (Written d reg v ∷ past) d h ≡ control_after reg v h (control past d h)
unfolding newest
written_control (IDelivery x) v past Root h low =
    ap (λ n. record (control past Root h) { idelivery = nat_eq n 1 })
    (kept_if (nat_eq x h) (nat_lt h (harts_in past)) (field v 0 0) (idelivery_of past Root h) (lt-ltb h (harts_in past) low))
    ∙ delivers (nat_eq x h) (field v 0 0) (idelivery_of past Root h) (control past Root h) refl
written_control (IDelivery x) v past Child h low =
    ap (λ n. record (control past Child h) { idelivery = nat_eq n 1 })
    (kept_if (nat_eq x h) (nat_lt h (harts_in past)) (field v 0 0) (idelivery_of past Child h) (lt-ltb h (harts_in past) low))
    ∙ delivers (nat_eq x h) (field v 0 0) (idelivery_of past Child h) (control past Child h) refl
written_control (IForce x) v past Root h low =
    ap (λ n. record (control past Root h) { iforce = nat_eq n 1 })
    (kept_if (nat_eq x h) (nat_lt h (harts_in past)) (field v 0 0) (iforce_of past Root h) (lt-ltb h (harts_in past) low))
    ∙ forces (nat_eq x h) (field v 0 0) (iforce_of past Root h) (control past Root h) refl
written_control (IForce x) v past Child h low =
    ap (λ n. record (control past Child h) { iforce = nat_eq n 1 })
    (kept_if (nat_eq x h) (nat_lt h (harts_in past)) (field v 0 0) (iforce_of past Child h) (lt-ltb h (harts_in past) low))
    ∙ forces (nat_eq x h) (field v 0 0) (iforce_of past Child h) (control past Child h) refl
written_control (IThreshold x) v past Root h low =
    ap (λ n. record (control past Root h) { ithreshold = n })
    (kept_if (nat_eq x h) (nat_lt h (harts_in past)) (field v 7 0) (ithreshold_of past Root h) (lt-ltb h (harts_in past) low))
    ∙ limits (nat_eq x h) (field v 7 0) (ithreshold_of past Root h) (control past Root h) refl
written_control (IThreshold x) v past Child h low =
    ap (λ n. record (control past Child h) { ithreshold = n })
    (kept_if (nat_eq x h) (nat_lt h (harts_in past)) (field v 7 0) (ithreshold_of past Child h) (lt-ltb h (harts_in past) low))
    ∙ limits (nat_eq x h) (field v 7 0) (ithreshold_of past Child h) (control past Child h) refl
written_control reg v past d h low = refl

-- ---- a claim

-- of so many harts, one claims, and shows something or not
claims : (b there msi none : Bool) (old : ℕ) (c : IdcState) → there ≡ true → c.iforce ≡ nat_eq old 1
    → record c { iforce = nat_eq (unwrap_or (when ((true && b && there) && not msi && none) 0) old) 1 } ≡ cond b
    (cond (not msi && none) (record c { iforce = false }) c) c
claims true true true none old c e f = ap (λ x. record c { iforce = x }) (sym f)
claims true true false true old c e f = refl
claims true true false false old c e f = ap (λ x. record c { iforce = x }) (sym f)
claims false true msi none old c e f = ap (λ x. record c { iforce = x }) (sym f)
claims b false msi none old c e f = cc

pub claimed_control : (x : ℕ) (past : Past) (d : DomainName) (h : ℕ) → h < harts_in past
    → control (Loaded d (ClaimI x) ∷ past) d h ≡ cond (nat_eq x h) (control_claimed (delivers_by_msis past d) (top past d h) (control past d h))
    (control past d h)
unfolding newest
claimed_control x past Root h low = claims (nat_eq x h) (nat_lt h (harts_in past)) (delivers_by_msis past Root) (is_none (top past Root h))
    (iforce_of past Root h) (control past Root h) (lt-ltb h (harts_in past) low) refl
claimed_control x past Child h low = claims (nat_eq x h) (nat_lt h (harts_in past)) (delivers_by_msis past Child) (is_none (top past Child h))
    (iforce_of past Child h) (control past Child h) (lt-ltb h (harts_in past) low) refl

-- ---- all controls

pub controls-after : (a : Act) (old new : List IdcState) (past : Past) (name : DomainName) (change : ℕ → IdcState → IdcState)
    → harts_in (a ∷ past) ≡ harts_in past → EachControl old new change
    → ((h : ℕ) → h < harts_in past → change h (control past name h) ≡ control (a ∷ past) name h) → ControlsStand old past name
    → ControlsStand new (a ∷ past) name
controls-after a old new past name change harts each goes stands = record {
  count = each-length old new change each ∙ stands.count ∙ sym harts;
  each = each-member old new change (control past name) (control (a ∷ past) name) each stands.each
      (λ h low. goes h (subst (λ n. h < n) stands.count low));
}

pub controls-still : (a : Act) (old : List IdcState) (past : Past) (name : DomainName) → harts_in (a ∷ past) ≡ harts_in past
    → ((h : ℕ) → h < harts_in past → control (a ∷ past) name h ≡ control past name h) → ControlsStand old past name
    → ControlsStand old (a ∷ past) name
controls-still a old past name harts same stands =
    controls-after a old old past name (λ h c. c) harts (λ h. sym (option_map_id (slice_get old h))) (λ h low. sym (same h low)) stands

new_control_is : (h n : ℕ) (name : DomainName) (x : ℕ) → new_idc ≡ control (Made h n ∷ []) name x
unfolding newest
new_control_is h n name x = refl

new_harts : (h n : ℕ) → harts_in (Made h n ∷ []) ≡ h
unfolding newest
new_harts h n = refl

pub new_controls-stand : (n h : ℕ) (controls : List IdcState) (name : DomainName) → length controls ≡ h → All (λ c. c ≡ new_idc) controls
    → ControlsStand controls (Made h n ∷ []) name
new_controls-stand n h controls name count all = record {
  count = count ∙ sym (new_harts h n);
  each = λ x c found. sym (get_or_from_slice_get controls x c c found)
      ∙ All-get_or (λ y. y ≡ new_idc) controls x c (slice_get_within controls x c found) all ∙ new_control_is h n name x;
}
