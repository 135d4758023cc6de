-- A domain with its delivery controls, which stood for the past, stands for the longer one.
use Rattle.std.proofs.Common.{◌≡◌, ℕ, zero, suc, ◌<◌, ◌≤◌, Bool, true, false, not, cond, ◌&&◌, ◌||◌, nat_eq, nat_lt, is_some, unwrap_or, List, [], ◌∷◌, length, Option, Some, None, ◌≢◌, ◌⊎◌, inl, inr, refl, sym, ap, subst, ◌∙◌, arith}
use Rattle.std.proofs.lemmas.Bool.{lt-ltb, le-ltb, cond-true, cond-false, ne_eqb, cases_eq, and_parts}
use Rattle.std.proofs.lemmas.Option.{slice_get-get_or}
use Rattle.aia_regs.specs.declared.domain_registers.DomainReg.{DomainReg}
use Rattle.aia_regs.specs.declared.domain_registers.DomainReg.TheVariants.{SourceCfg, IDelivery, IForce, IThreshold, TopI, ClaimI}
use Rattle.aia_regs.specs.Fields.{field}
use Rattle.aia_source.specs.Registers.{delegates, root_sourcecfg}
use Rattle.aia_regs.specs.Top.{Pair, topi_value}
use Rattle.aia_source.specs.Wired.SourceDeed.{Forwarded}
use Rattle.aia_domain.specs.InterruptSource.{EachSource, changed_if_named, granted, changed_at, wired, with_deed}
use Rattle.aia_domain.specs.Domain.{DomainState, with_sources, source_after, domain_after, is_ready}
use Rattle.aia_regs.specs.Fields.{bit_number}
use Rattle.aia_direct.specs.Idc.{IdcState, new_idc, control_read, control_claimed, claimed_top, top_shown, signals_hart}
use Rattle.aia_model.specs.declared.domain_name.DomainName.{DomainName}
use Rattle.aia_model.specs.Act.{Act, Past, is_domain, newest, when}
use Rattle.aia_model.specs.declared.domain_name.DomainName.TheVariants.{Root, Child}
use Rattle.aia_model.specs.declared.sender.Sender.{Sender}
use Rattle.aia_model.specs.declared.sender.Sender.TheVariants.{ByGenMsi, BySource}
use Rattle.aia_model.specs.Act.Act.{Made, Driven, Written, Loaded, Sent}
use Rattle.aia_model.specs.Sent.{domain_of_sender}
use Rattle.aia_model.specs.SourceOf.{harts_in, own_read, top, delivers_by_msis, is_on, is_signalled, idelivery_told, idelivery_of, iforce_told, iforce_of, ithreshold_of, only}
use Rattle.aia_aplic_values.specs.Side.{control, SideState, SideStands, IsNewSide}
use Rattle.aia_aplic_values.specs.Aplic.{AplicState, AplicStands, IsNewAplic}
use Rattle.aia_aplic_values.specs.Controls.{EachControl, is_control, hart_of_register, control_after, control_at, claimed_at}
use Rattle.aia_aplic_values.proofs.LoadedSteps.{is_claim}
use Rattle.aia_aplic_values.proofs.Standing.{driven-stands, own-stands, root-stands_other, child-stands_other, child-stands_written, read-stands_same, root-stands_loaded, child-stands_loaded, unclaimed-stands, claimed-stands, new_domain-stands}
use Rattle.aia_aplic_values.proofs.SentStanding.{sent-stands_other, forwarded-stands, genmsi_sent-stands}
use Rattle.aia_aplic_values.proofs.SentSteps.{harts_sent, is_source_in, is_genmsi_of, sent_control}
use Rattle.aia_aplic_values.proofs.AddressSteps.{addresses_made, addresses_sent}
use Rattle.aia_aplic_values.proofs.TopStands.{top-stands}
use Rattle.aia_aplic_values.proofs.ControlSteps.{driven_control, root_at_child_write, child_at_root_write, root_at_child_load, child_at_root_load, loaded_control, written_control, claimed_control, controls-after, controls-still, new_controls-stand}

-- ---- no act but a machine's making changes the harts

harts_driven : (t : ℕ) (level : Bool) (past : Past) → harts_in (Driven t level ∷ past) ≡ harts_in past
unfolding newest
harts_driven t level past = refl

harts_written : (d : DomainName) (reg : DomainReg) (v : ℕ) (past : Past) → harts_in (Written d reg v ∷ past) ≡ harts_in past
unfolding newest
harts_written d reg v past = refl

harts_loaded : (d : DomainName) (reg : DomainReg) (past : Past) → harts_in (Loaded d reg ∷ past) ≡ harts_in past
unfolding newest
harts_loaded d reg past = refl

-- ---- wires and writes

pub side-driven : (t : ℕ) (level : Bool) (a : SideState) (e : DomainState) (past : Past) (name : DomainName)
    → EachSource a.domain.sources e.sources (changed_at t (wired a.domain.msi level)) → e ≡ with_sources a.domain e.sources
    → SideStands a past name → SideStands (record { domain = e; controls = a.controls }) (Driven t level ∷ past) name
side-driven t level a e past name each rest stands = record {
  domain = driven-stands t level a.domain e past name each rest stands.domain;
  controls = controls-still (Driven t level) a.controls past name (harts_driven t level past) (λ h low. driven_control t level past name h)
      stands.controls;
}

pub side-written : (reg : DomainReg) (v : ℕ) (a : SideState) (e : DomainState) (controls : List IdcState) (past : Past) (name : DomainName)
    → EachSource a.domain.sources e.sources (source_after a.domain reg v) → e ≡ with_sources (domain_after reg v a.domain) e.sources
    → EachControl a.controls controls (control_after reg v) → SideStands a past name
    → SideStands (record { domain = e; controls = controls }) (Written name reg v ∷ past) name
side-written reg v a e controls past name each rest writes stands = record {
  domain = own-stands reg v a.domain e past name each rest stands.domain;
  controls = controls-after (Written name reg v) a.controls controls past name (control_after reg v) (harts_written name reg v past) writes
      (λ h low. sym (written_control reg v past name h low)) stands.controls;
}

pub root-side_other : (reg : DomainReg) (v : ℕ) (a : SideState) (past : Past) → SideStands a past Root
    → SideStands a (Written Child reg v ∷ past) Root
root-side_other reg v a past stands = record {
  domain = root-stands_other reg v a.domain past stands.domain;
  controls = controls-still (Written Child reg v) a.controls past Root (harts_written Child reg v past)
      (λ h low. root_at_child_write reg v past h) stands.controls;
}

pub child-side_other : (reg : DomainReg) (v : ℕ) (a : SideState) (past : Past) → ((i : ℕ) → reg ≡ SourceCfg i → ⊥) → SideStands a past Child
    → SideStands a (Written Root reg v ∷ past) Child
child-side_other reg v a past other stands = record {
  domain = child-stands_other reg v a.domain past other stands.domain;
  controls = controls-still (Written Root reg v) a.controls past Child (harts_written Root reg v past) (λ h low. child_at_root_write reg v past h)
      stands.controls;
}

pub child-side_written : (reg : DomainReg) (i v : ℕ) (given : Bool) (a : SideState) (e : DomainState) (past : Past) → reg ≡ SourceCfg i
    → given ≡ delegates (root_sourcecfg v) → EachSource a.domain.sources e.sources (changed_if_named i (granted given a.domain.msi))
    → e ≡ with_sources a.domain e.sources → SideStands a past Child
    → SideStands (record { domain = e; controls = a.controls }) (Written Root reg v ∷ past) Child
child-side_written reg i v given a e past is gives each rest stands = record {
  domain = child-stands_written reg i v given a.domain e past is gives each rest stands.domain;
  controls = controls-still (Written Root reg v) a.controls past Child (harts_written Root reg v past) (λ h low. child_at_root_write reg v past h)
      stands.controls;
}

-- ---- loads

pub side-loaded : (reg : DomainReg) (a : SideState) (past : Past) (name : DomainName) → is_claim reg ≡ false → SideStands a past name
    → SideStands a (Loaded name reg ∷ past) name
side-loaded reg a past name plain stands = record {
  domain = read-stands_same reg a.domain past name plain stands.domain;
  controls = controls-still (Loaded name reg) a.controls past name (harts_loaded name reg past) (λ h low. loaded_control reg past name h plain)
      stands.controls;
}

pub root-side_loaded : (reg : DomainReg) (a : SideState) (past : Past) → SideStands a past Root → SideStands a (Loaded Child reg ∷ past) Root
root-side_loaded reg a past stands = record {
  domain = root-stands_loaded reg a.domain past stands.domain;
  controls = controls-still (Loaded Child reg) a.controls past Root (harts_loaded Child reg past) (λ h low. root_at_child_load reg past h)
      stands.controls;
}

pub child-side_loaded : (reg : DomainReg) (a : SideState) (past : Past) → SideStands a past Child → SideStands a (Loaded Root reg ∷ past) Child
child-side_loaded reg a past stands = record {
  domain = child-stands_loaded reg a.domain past stands.domain;
  controls = controls-still (Loaded Root reg) a.controls past Child (harts_loaded Root reg past) (λ h low. child_at_root_load reg past h)
      stands.controls;
}

-- ---- the sending of an MSI

pub side-sent_other : (sender : Sender) (a : SideState) (past : Past) (name : DomainName) → is_genmsi_of sender name ≡ false
    → is_source_in sender name ≡ false → SideStands a past name → SideStands a (Sent sender ∷ past) name
side-sent_other sender a past name genmsi source stands = record {
  domain = sent-stands_other sender a.domain past name genmsi source stands.domain;
  controls = controls-still (Sent sender) a.controls past name (harts_sent sender past) (λ h low. sent_control sender past name h) stands.controls;
}

pub side-forwarded : (t : ℕ) (a : SideState) (e : DomainState) (past : Past) (name : DomainName) → is_ready a.domain t ≡ true
    → EachSource a.domain.sources e.sources (changed_at t (with_deed true Forwarded)) → e ≡ with_sources a.domain e.sources
    → SideStands a past name → SideStands (record { domain = e; controls = a.controls }) (Sent (BySource name t) ∷ past) name
side-forwarded t a e past name ready each rest stands = record {
  domain = forwarded-stands t a.domain e past name
      (sym stands.domain.msi ∙ (and_parts a.domain.msi a.domain.on (and_parts (a.domain.msi && a.domain.on) _ ready).0).0) each rest stands.domain;
  controls = controls-still (Sent (BySource name t)) a.controls past name (harts_sent (BySource name t) past)
      (λ h low. sent_control (BySource name t) past name h) stands.controls;
}

pub side-genmsi_sent : (a : SideState) (e : DomainState) (past : Past) (name : DomainName) → e ≡ record a.domain { genmsi_waits = false }
    → SideStands a past name → SideStands (record { domain = e; controls = a.controls }) (Sent (ByGenMsi name) ∷ past) name
side-genmsi_sent a e past name is stands = record {
  domain = genmsi_sent-stands a.domain e past name is stands.domain;
  controls = controls-still (Sent (ByGenMsi name)) a.controls past name (harts_sent (ByGenMsi name) past)
      (λ h low. sent_control (ByGenMsi name) past name h) stands.controls;
}

-- a domain sends, and the other one stays
pub root_sends : (sender : Sender) (a : AplicState) (new : SideState) (past : Past) → domain_of_sender sender ≡ Root
    → (SideStands a.root past (domain_of_sender sender) → SideStands new (Sent sender ∷ past) (domain_of_sender sender)) → AplicStands a past
    → AplicStands (record { root = new; child = a.child; addresses = a.addresses }) (Sent sender ∷ past)
root_sends (ByGenMsi Root) a new past e sends stands =
    record {
      root = sends stands.root;
      child = side-sent_other (ByGenMsi Root) a.child past Child refl refl stands.child;
      addresses =
          stands.addresses ∙ sym (addresses_sent (ByGenMsi Root) past);
    }
root_sends (BySource Root s) a new past e sends stands =
    record {
      root = sends stands.root;
      child = side-sent_other (BySource Root s) a.child past Child refl refl stands.child;
      addresses =
          stands.addresses ∙ sym (addresses_sent (BySource Root s) past);
    }
root_sends (ByGenMsi Child) a new past e sends stands = cc
root_sends (BySource Child s) a new past e sends stands = cc

pub child_sends : (sender : Sender) (a : AplicState) (new : SideState) (past : Past) → domain_of_sender sender ≡ Child
    → (SideStands a.child past (domain_of_sender sender) → SideStands new (Sent sender ∷ past) (domain_of_sender sender)) → AplicStands a past
    → AplicStands (record { root = a.root; child = new; addresses = a.addresses }) (Sent sender ∷ past)
child_sends (ByGenMsi Child) a new past e sends stands =
    record {
      root = side-sent_other (ByGenMsi Child) a.root past Root refl refl stands.root;
      child = sends stands.child;
      addresses =
          stands.addresses ∙ sym (addresses_sent (ByGenMsi Child) past);
    }
child_sends (BySource Child s) a new past e sends stands =
    record {
      root = side-sent_other (BySource Child s) a.root past Root refl refl stands.root;
      child = sends stands.child;
      addresses =
          stands.addresses ∙ sym (addresses_sent (BySource Child s) past);
    }
child_sends (ByGenMsi Root) a new past e sends stands = cc
child_sends (BySource Root s) a new past e sends stands = cc

-- the control of a hart that is there
pub control_is : (a : SideState) (past : Past) (name : DomainName) (hart : ℕ) → hart < length a.controls → SideStands a past name
    → control_at a.controls hart ≡ control past name hart
control_is a past name hart low stands = stands.controls.each hart (control_at a.controls hart) (slice_get-get_or a.controls hart new_idc low)

pub hart_there : (a : SideState) (past : Past) (name : DomainName) (hart : ℕ) → hart < length a.controls → SideStands a past name
    → nat_lt hart (harts_in past) ≡ true
hart_there a past name hart low stands = lt-ltb hart (harts_in past) (subst (λ n. hart < n) stands.controls.count low)

pub hart_away : (a : SideState) (past : Past) (name : DomainName) (hart : ℕ) → length a.controls ≤ hart → SideStands a past name
    → nat_lt hart (harts_in past) ≡ false
hart_away a past name hart past_all stands = le-ltb hart (harts_in past) (subst (λ n. n ≤ hart) stands.controls.count past_all)

pub top_is : (a : SideState) (past : Past) (name : DomainName) (hart : ℕ) → hart < length a.controls → SideStands a past name
    → top_shown (control_at a.controls hart) a.domain hart ≡ top past name hart
top_is a past name hart low stands = top-stands (control_at a.controls hart) a.domain past name hart
    (subst (λ n. hart < n) stands.controls.count low) stands.domain (ap (λ (c : IdcState). c.ithreshold) (control_is a past name hart low stands))

pub side-claimed : (hart : ℕ) (a : SideState) (e : DomainState) (controls : List IdcState) (past : Past) (name : DomainName)
    → hart < length a.controls
    → EachControl a.controls controls (claimed_at a.domain hart)
    → EachSource a.domain.sources e.sources (claimed_top (top_shown (control_at a.controls hart) a.domain hart))
    → e ≡ with_sources a.domain e.sources
    → SideStands a past name → SideStands (record { domain = e; controls = controls }) (Loaded name (ClaimI hart) ∷ past) name
side-claimed hart a e controls past name low claims each rest stands = record {
  domain = claimed-stands hart (top_shown (control_at a.controls hart) a.domain hart) a.domain e past name
      (hart_there a past name hart low stands) (top_is a past name hart low stands) each rest stands.domain;
  controls = controls-after (Loaded name (ClaimI hart)) a.controls controls past name (claimed_at a.domain hart)
      (harts_loaded name (ClaimI hart) past) claims (λ h small. goes h (cases_eq hart h) ∙ sym (claimed_control hart past name h small))
      stands.controls;
}
  where
    own : claimed_at a.domain hart hart (control past name hart) ≡ cond (nat_eq hart hart)
        (control_claimed (delivers_by_msis past name) (top past name hart) (control past name hart)) (control past name hart)
    own =
        ap (λ (c : IdcState). cond (nat_eq hart hart) (control_claimed a.domain.msi (top_shown c a.domain hart) (control past name hart))
        (control past name hart)) (sym (control_is a past name hart low stands))
        ∙ ap (λ (o : Option Pair). cond (nat_eq hart hart) (control_claimed a.domain.msi o (control past name hart)) (control past name hart))
        (top_is a past name hart low stands)
        ∙ ap (λ m. cond (nat_eq hart hart) (control_claimed m (top past name hart) (control past name hart)) (control past name hart))
        stands.domain.msi

    goes : (h : ℕ) → (hart ≡ h) ⊎ (hart ≢ h) → claimed_at a.domain hart h (control past name h) ≡ cond (nat_eq hart h)
        (control_claimed (delivers_by_msis past name) (top past name h) (control past name h)) (control past name h)
    goes h (inl e) = subst (λ k. claimed_at a.domain hart k (control past name k) ≡ cond (nat_eq hart k)
        (control_claimed (delivers_by_msis past name) (top past name k) (control past name k)) (control past name k)) e own
    goes h (inr ne) = cond-false _ _ _ (ne_eqb hart h ne) ∙ sym (cond-false _ _ _ (ne_eqb hart h ne))

pub side-unclaimed : (hart : ℕ) (a : SideState) (past : Past) (name : DomainName) → length a.controls ≤ hart → SideStands a past name
    → SideStands a (Loaded name (ClaimI hart) ∷ past) name
side-unclaimed hart a past name past_all stands = record {
  domain = unclaimed-stands hart a.domain past name (hart_away a past name hart past_all stands) stands.domain;
  controls = controls-still (Loaded name (ClaimI hart)) a.controls past name (harts_loaded name (ClaimI hart) past)
      (λ h low. claimed_control hart past name h low ∙ cond-false _ _ _ (ne_eqb hart h (λ e. absurd (away h low e)))) stands.controls;
}
  where
    away : (h : ℕ) → h < harts_in past → hart ≡ h → ⊥
    away h low e = let all = subst (λ n. n ≤ hart) stands.controls.count past_all in absurd (omega arith)

-- ---- what registers of a control read

-- a number that is told is below a bound
newest_below : (told : Past → Act → Option ℕ) (bound : ℕ) → 0 < bound → ((past : Past) (a : Act) (x : ℕ) → told past a ≡ Some x → x < bound)
    → (past : Past) → newest told past < bound
unfolding newest
newest_below told bound some each [] = some
newest_below told bound some each (a ∷ past) = at (told past a) refl (newest_below told bound some each past)
  where
    at : (o : Option ℕ) → told past a ≡ o → newest told past < bound → unwrap_or o (newest told past) < bound
    at None e before = before
    at (Some x) e before = each past a x e

one_bit : (b : Bool) (v x : ℕ) → when b (field v 0 0) ≡ Some x → x < 2
one_bit true v x e = let f : field v 0 0 ≡ x = cc in subst (λ n. n < 2) f (omega arith)
one_bit false v x e = absurd (cc)

zero_bit : (b : Bool) (x : ℕ) → when b 0 ≡ Some x → x < 2
zero_bit true x e = let f : 0 ≡ x = cc in subst (λ n. n < 2) f (omega arith)
zero_bit false x e = absurd (cc)

none_told : (x : ℕ) → ◌≡◌ {A = Option ℕ} None (Some x) → x < 2
none_told x e = absurd (cc)

delivery_bit : (d : DomainName) (hart : ℕ) (past : Past) (a : Act) (x : ℕ) → idelivery_told d hart past a ≡ Some x → x < 2
delivery_bit d hart past (Written e (IDelivery y) v) x told = one_bit _ v x told
delivery_bit d hart past (Written e reg v) x told = none_told x told
delivery_bit d hart past a x told = none_told x told

force_bit : (d : DomainName) (hart : ℕ) (past : Past) (a : Act) (x : ℕ) → iforce_told d hart past a ≡ Some x → x < 2
force_bit d hart past (Written e (IForce y) v) x told = one_bit _ v x told
force_bit d hart past (Written e reg v) x told = none_told x told
force_bit d hart past (Loaded e (ClaimI y)) x told = zero_bit _ x told
force_bit d hart past (Loaded e reg) x told = none_told x told
force_bit d hart past a x told = none_told x told

-- a bit that is kept of a number of one bit
shown_bit : (n : ℕ) → n < 2 → bit_number (nat_eq n 1) ≡ n
shown_bit zero small = refl
shown_bit (suc zero) small = refl
shown_bit (suc (suc m)) small = absurd (omega arith)

-- the register of a hart that is there, and of one that isn't
pub control_there : (reg : DomainReg) (hart : ℕ) (a : SideState) (past : Past) (name : DomainName) → hart_of_register reg ≡ Some hart
    → hart < length a.controls → SideStands a past name → control_read (control_at a.controls hart) reg ≡ own_read past name reg
control_there (IDelivery x) hart a past name is low stands =
    let same : x ≡ hart = cc in
    ap (λ (c : IdcState). bit_number c.idelivery) (control_is a past name hart low stands)
    ∙ shown_bit (idelivery_of past name hart) (newest_below (idelivery_told name hart) 2 (omega arith) (delivery_bit name hart) past)
    ∙ sym (cond-true _ _ _ (hart_there a past name hart low stands)) ∙ ap (λ h. only (nat_lt h (harts_in past)) (idelivery_of past name h)) (sym same)
control_there (IForce x) hart a past name is low stands =
    let same : x ≡ hart = cc in
    ap (λ (c : IdcState). bit_number c.iforce) (control_is a past name hart low stands)
    ∙ shown_bit (iforce_of past name hart) (newest_below (iforce_told name hart) 2 (omega arith) (force_bit name hart) past)
    ∙ sym (cond-true _ _ _ (hart_there a past name hart low stands)) ∙ ap (λ h. only (nat_lt h (harts_in past)) (iforce_of past name h)) (sym same)
control_there (IThreshold x) hart a past name is low stands =
    let same : x ≡ hart = cc in
    ap (λ (c : IdcState). c.ithreshold) (control_is a past name hart low stands) ∙ sym (cond-true _ _ _ (hart_there a past name hart low stands))
    ∙ ap (λ h. only (nat_lt h (harts_in past)) (ithreshold_of past name h)) (sym same)
control_there reg hart a past name is low stands = absurd (cc)

pub control_away : (reg : DomainReg) (hart : ℕ) (a : SideState) (past : Past) (name : DomainName) → hart_of_register reg ≡ Some hart
    → length a.controls ≤ hart → SideStands a past name → 0 ≡ own_read past name reg
control_away (IDelivery x) hart a past name is beyond stands =
    let same : x ≡ hart = cc in sym (ap (λ h. only (nat_lt h (harts_in past)) (idelivery_of past name h)) same
    ∙ cond-false _ _ _ (hart_away a past name hart beyond stands))
control_away (IForce x) hart a past name is beyond stands =
    let same : x ≡ hart = cc in sym (ap (λ h. only (nat_lt h (harts_in past)) (iforce_of past name h)) same
    ∙ cond-false _ _ _ (hart_away a past name hart beyond stands))
control_away (IThreshold x) hart a past name is beyond stands =
    let same : x ≡ hart = cc in sym (ap (λ h. only (nat_lt h (harts_in past)) (ithreshold_of past name h)) same
    ∙ cond-false _ _ _ (hart_away a past name hart beyond stands))
control_away reg hart a past name is beyond stands = absurd (cc)

-- topi of a hart, and its signal
pub topi_there : (hart : ℕ) (a : SideState) (past : Past) (name : DomainName) → hart < length a.controls → SideStands a past name
    → topi_value (top_shown (control_at a.controls hart) a.domain hart) ≡ only (nat_lt hart (harts_in past)) (topi_value (top past name hart))
topi_there hart a past name low stands = ap topi_value (top_is a past name hart low stands)
    ∙ sym (cond-true _ _ _ (hart_there a past name hart low stands))

pub topi_away : (hart : ℕ) (a : SideState) (past : Past) (name : DomainName) → length a.controls ≤ hart → SideStands a past name
    → 0 ≡ only (nat_lt hart (harts_in past)) (topi_value (top past name hart))
topi_away hart a past name beyond stands = sym (cond-false _ _ _ (hart_away a past name hart beyond stands))

pub signals_is : (hart : ℕ) (a : SideState) (past : Past) (name : DomainName) → hart < length a.controls → SideStands a past name
    → signals_hart (control_at a.controls hart) a.domain hart ≡ is_signalled past name hart
signals_is hart a past name low stands =
    ap (λ m. not m && a.domain.on && (control_at a.controls hart).idelivery
    && ((control_at a.controls hart).iforce || is_some (top_shown (control_at a.controls hart) a.domain hart))) stands.domain.msi
    ∙ ap (λ o. not (delivers_by_msis past name) && o && (control_at a.controls hart).idelivery
    && ((control_at a.controls hart).iforce || is_some (top_shown (control_at a.controls hart) a.domain hart))) stands.domain.on
    ∙ ap (λ (t : Option Pair). not (delivers_by_msis past name) && is_on past
    name && (control_at a.controls hart).idelivery && ((control_at a.controls hart).iforce || is_some t)) (top_is a past name hart low stands)
    ∙ ap (λ (c : IdcState). not (delivers_by_msis past name) && is_on past name && c.idelivery && (c.iforce || is_some (top past name hart)))
    (control_is a past name hart low stands)

-- ---- the beginning

pub new_side-stands : (n h : ℕ) (leaf : Bool) (a : SideState) (name : DomainName) → leaf ≡ is_domain name Child → IsNewSide n h leaf a
    → SideStands a (Made h n ∷ []) name
new_side-stands n h leaf a name is new = record
    { domain = new_domain-stands n h leaf a.domain name is new.domain; controls = new_controls-stand n h a.controls name new.count new.each }

-- an APLIC as a machine begins
pub new-stands : (n h : ℕ) (a : AplicState) → IsNewAplic n h a → AplicStands a (Made h n ∷ [])
new-stands n h a new = record {
  root = new_side-stands n h false a.root Root refl new.root;
  child =
      new_side-stands n h true a.child Child refl new.child;
  addresses = new.addresses ∙ addresses_made h n;
}

-- ---- registers that are no control's

pub not_control : (reg : DomainReg) → ((h : ℕ) → reg ≡ IDelivery h → ⊥) → ((h : ℕ) → reg ≡ IForce h → ⊥) → ((h : ℕ) → reg ≡ IThreshold h → ⊥)
    → ((h : ℕ) → reg ≡ TopI h → ⊥) → ((h : ℕ) → reg ≡ ClaimI h → ⊥) → is_control reg ≡ false
not_control (IDelivery h) a b c d e = absurd (a h refl)
not_control (IForce h) a b c d e = absurd (b h refl)
not_control (IThreshold h) a b c d e = absurd (c h refl)
not_control (TopI h) a b c d e = absurd (d h refl)
not_control (ClaimI h) a b c d e = absurd (e h refl)
not_control reg a b c d e = refl

pub not_claim : (reg : DomainReg) → is_control reg ≡ false → is_claim reg ≡ false
not_claim (ClaimI h) plain = cc
not_claim reg plain = refl
