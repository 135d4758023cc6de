-- A domain that stood for the past stands for the longer one.
use Rattle.std.proofs.Common.{◌≡◌, ℕ, suc, ◌<◌, Bool, true, false, not, cond, ◌&&◌, nat_lt, [], ◌∷◌, slice_get, Option, None, unwrap_or, refl, sym, ap, subst, ◌∙◌}
use Rattle.std.proofs.lemmas.Bool.{cond-true, cond-false}
use Rattle.std.proofs.lemmas.Option.{slice_get_within, get_or_from_slice_get}
use Rattle.std.proofs.lemmas.List.Elements.{All-get_or}
use Rattle.aia_regs.specs.declared.domain_registers.DomainReg.{DomainReg}
use Rattle.aia_regs.specs.declared.domain_registers.DomainReg.TheVariants.{DomainCfg, SourceCfg, GenMsi, ClaimI}
use Rattle.aia_regs.specs.BitUpdate.{settle}
use Rattle.aia_regs.specs.BitUpdate.BitUpdate.{Ask, Clear, Nothing}
use Rattle.aia_source.specs.Registers.{domaincfg_kept, enables, is_by_msi, root_sourcecfg, delegates, genmsi_kept, same_bool}
use Rattle.aia_domain.specs.InterruptSource.{InterruptSourceState, new_source, with_deed, wired, changed_at, changed_if_named, granted, EachSource}
use Rattle.aia_domain.specs.Domain.{DomainState, IsNewDomain, with_sources, source_changed, source_after, domaincfg_written, domain_after}
use Rattle.aia_model.specs.declared.domain_name.DomainName.{DomainName}
use Rattle.aia_model.specs.Act.{Act, Past, is_domain, newest, when}
use Rattle.aia_model.specs.declared.domain_name.DomainName.TheVariants.{Root, Child}
use Rattle.aia_model.specs.Act.Act.{Made, Driven, Written, Loaded}
use Rattle.aia_model.specs.SourceOf.{harts_in, sources_in, wire_of, enabled, target, pending, domaincfg_of, is_on, delivers_by_msis, genmsi_of, genmsi_waits, top}
use Rattle.aia_direct.specs.Idc.{claimed_top}
use Rattle.aia_aplic_values.specs.Side.{source_of, DomainStands}
use Rattle.std.proofs.lemmas.Iterator.Adapters.{option_map_id}
use Rattle.aia_domain.proofs.EachLemmas.{each-length, each-member}
use Rattle.aia_aplic_values.proofs.WriteSteps.{same_bools, root_written, child_written, root_at_child_written, child_at_root_config, child_at_root_written, is_config}
use Rattle.aia_aplic_values.proofs.DrivenSteps.{driven}
use Rattle.aia_aplic_values.proofs.LoadedSteps.{is_claim, claimed, loaded, root_at_child_loaded, child_at_root_loaded}
use Rattle.aia_source.specs.Wired.SourceDeed.{Claimed}
use Rattle.aia_regs.specs.Top.{Pair, is_top}

-- what a domain keeps beside its sources, and its harts, is as the longer past has it
pub record Keeps (d e : DomainState) (a : Act) (past : Past) (name : DomainName) : Type 0 where
  pub leaf : e.leaf ≡ d.leaf
  pub harts : e.harts ≡ d.harts
  pub harts_in : harts_in (a ∷ past) ≡ harts_in past
  pub sources_in : sources_in (a ∷ past) ≡ sources_in past
  pub on : e.on ≡ is_on (a ∷ past) name
  pub msi : e.msi ≡ delivers_by_msis (a ∷ past) name
  pub genmsi : e.genmsi ≡ genmsi_of (a ∷ past) name
  pub genmsi_waits : e.genmsi_waits ≡ genmsi_waits (a ∷ past) name

pub stands-after : (a : Act) (d e : DomainState) (past : Past) (name : DomainName) (change : ℕ → InterruptSourceState → InterruptSourceState)
    → Keeps d e a past name → EachSource d.sources e.sources change
    → ((s : ℕ) → s < suc (sources_in past) → change s (source_of past name s) ≡ source_of (a ∷ past) name s) → DomainStands d past name
    → DomainStands e (a ∷ past) name
stands-after a d e past name change keeps each goes stands = record {
  leaf = keeps.leaf ∙ stands.leaf;
  harts = keeps.harts ∙ stands.harts ∙ sym keeps.harts_in;
  on = keeps.on;
  msi = keeps.msi;
  genmsi = keeps.genmsi;
  genmsi_waits = keeps.genmsi_waits;
  count = each-length d.sources e.sources change each ∙ stands.count ∙ sym (ap suc keeps.sources_in);
  each = each-member d.sources e.sources change (source_of past name) (source_of (a ∷ past) name) each stands.each
      (λ s low. goes s (subst (λ n. s < n) stands.count low));
}

-- an act that a domain has no part in
pub still-stands : (a : Act) (d : DomainState) (past : Past) (name : DomainName) → Keeps d d a past name
    → ((s : ℕ) → s < suc (sources_in past) → source_of (a ∷ past) name s ≡ source_of past name s) → DomainStands d past name
    → DomainStands d (a ∷ past) name
still-stands a d past name keeps same stands =
    stands-after a d d past name (λ s x. x) keeps (λ s. sym (option_map_id (slice_get d.sources s))) (λ s low. sym (same s low)) stands

-- a register that is no domaincfg and no genmsi
abbrev is_plain : DomainReg → Bool
is_plain DomainCfg = false
is_plain GenMsi = false
is_plain reg = true

-- ---- what acts keep

-- the same domain but for its sources, where the act says nothing of it
abbrev pub IsQuiet : Act → Past → DomainName → Type 0
IsQuiet a past name = (harts_in (a ∷ past) ≡ harts_in past) × (sources_in (a ∷ past) ≡ sources_in past)
    × (is_on (a ∷ past) name ≡ is_on past name) × (delivers_by_msis (a ∷ past) name ≡ delivers_by_msis past name)
    × (genmsi_of (a ∷ past) name ≡ genmsi_of past name) × (genmsi_waits (a ∷ past) name ≡ genmsi_waits past name)

pub keeps_quiet : (a : Act) (d e : DomainState) (past : Past) (name : DomainName) → IsQuiet a past name → e ≡ with_sources d e.sources
    → DomainStands d past name → Keeps d e a past name
keeps_quiet a d e past name quiet rest stands = record {
  leaf = ap (λ (x : DomainState). x.leaf) rest;
  harts = ap (λ (x : DomainState). x.harts) rest;
  harts_in = quiet.0;
  sources_in = quiet.1;
  on = ap (λ (x : DomainState). x.on) rest ∙ stands.on ∙ sym quiet.2;
  msi = ap (λ (x : DomainState). x.msi) rest ∙ stands.msi ∙ sym quiet.3;
  genmsi = ap (λ (x : DomainState). x.genmsi) rest ∙ stands.genmsi ∙ sym quiet.4;
  genmsi_waits = ap (λ (x : DomainState). x.genmsi_waits) rest ∙ stands.genmsi_waits ∙ sym quiet.5;
}

quiet_driven : (t : ℕ) (level : Bool) (past : Past) (name : DomainName) → IsQuiet (Driven t level) past name
unfolding newest genmsi_waits
quiet_driven t level past name = (refl, refl, refl, refl, refl, refl)

quiet_root : (reg : DomainReg) (v : ℕ) (past : Past) → IsQuiet (Written Child reg v) past Root
unfolding newest genmsi_waits
quiet_root DomainCfg v past = (refl, refl, refl, refl, refl, refl)
quiet_root GenMsi v past = (refl, refl, refl, refl, refl, refl)
quiet_root reg v past = (refl, refl, refl, refl, refl, refl)

quiet_child : (reg : DomainReg) (v : ℕ) (past : Past) → IsQuiet (Written Root reg v) past Child
unfolding newest genmsi_waits
quiet_child DomainCfg v past = (refl, refl, refl, refl, refl, refl)
quiet_child GenMsi v past = (refl, refl, refl, refl, refl, refl)
quiet_child reg v past = (refl, refl, refl, refl, refl, refl)

-- ---- a wire

pub driven-stands : (t : ℕ) (level : Bool) (d e : DomainState) (past : Past) (name : DomainName)
    → EachSource d.sources e.sources (changed_at t (wired d.msi level)) → e ≡ with_sources d e.sources → DomainStands d past name
    → DomainStands e (Driven t level ∷ past) name
driven-stands t level d e past name each rest stands =
    stands-after (Driven t level) d e past name (changed_at t (wired d.msi level))
    (keeps_quiet (Driven t level) d e past name (quiet_driven t level past name) rest stands) each
    (λ s low. ap (λ m. changed_at t (wired m level) s (source_of past name s)) stands.msi ∙ sym (driven t level past name s)) stands

-- ---- a write in the other domain

pub root-stands_other : (reg : DomainReg) (v : ℕ) (d : DomainState) (past : Past) → DomainStands d past Root
    → DomainStands d (Written Child reg v ∷ past) Root
root-stands_other reg v d past stands = still-stands (Written Child reg v) d past Root
    (keeps_quiet (Written Child reg v) d d past Root (quiet_root reg v past) refl stands) (λ s low. root_at_child_written reg v past s) stands

no_config : (reg : DomainReg) → ((i : ℕ) → reg ≡ SourceCfg i → ⊥) → is_config reg ≡ false
no_config (SourceCfg i) other = absurd (other i refl)
no_config reg other = refl

pub child-stands_other : (reg : DomainReg) (v : ℕ) (d : DomainState) (past : Past) → ((i : ℕ) → reg ≡ SourceCfg i → ⊥) → DomainStands d past Child
    → DomainStands d (Written Root reg v ∷ past) Child
child-stands_other reg v d past other stands =
    still-stands (Written Root reg v) d past Child (keeps_quiet (Written Root reg v) d d past Child (quiet_child reg v past) refl stands)
    (λ s low. child_at_root_written reg v past s (no_config reg other)) stands

granted-stands : (i v : ℕ) (d e : DomainState) (past : Past)
    → EachSource d.sources e.sources (changed_if_named i (granted (delegates (root_sourcecfg v)) d.msi)) → e ≡ with_sources d e.sources
    → DomainStands d past Child → DomainStands e (Written Root (SourceCfg i) v ∷ past) Child
granted-stands i v d e past each rest stands =
    stands-after (Written Root (SourceCfg i) v) d e past Child (changed_if_named i (granted (delegates (root_sourcecfg v)) d.msi))
    (keeps_quiet (Written Root (SourceCfg i) v) d e past Child (quiet_child (SourceCfg i) v past) rest stands) each
    (λ s low. ap (λ m. changed_if_named i (granted (delegates (root_sourcecfg v)) m) s (source_of past Child s)) stands.msi
    ∙ sym (child_at_root_config i v past s low)) stands

-- a sourcecfg of the root domain is written, and the child domain gets the source or loses it
pub child-stands_written : (reg : DomainReg) (i v : ℕ) (given : Bool) (d e : DomainState) (past : Past) → reg ≡ SourceCfg i
    → given ≡ delegates (root_sourcecfg v) → EachSource d.sources e.sources (changed_if_named i (granted given d.msi)) → e ≡ with_sources d e.sources
    → DomainStands d past Child → DomainStands e (Written Root reg v ∷ past) Child
child-stands_written reg i v given d e past is gives each rest stands =
    subst (λ (r : DomainReg). DomainStands e (Written Root r v ∷ past) Child) (sym is)
    (granted-stands i v d e past (subst (λ g. EachSource d.sources e.sources (changed_if_named i (granted g d.msi))) gives each) rest stands)

-- ---- a write in its own domain

cfg_written : (v : ℕ) (past : Past) (name : DomainName) → domaincfg_of (Written name DomainCfg v ∷ past) name ≡ domaincfg_kept v
unfolding newest
cfg_written v past Root = refl
cfg_written v past Child = refl

genmsi_at_cfg : (v : ℕ) (past : Past) (name : DomainName)
    → genmsi_of (Written name DomainCfg v ∷ past) name ≡ unwrap_or
    (when (not (same_bool (delivers_by_msis past name) (is_by_msi (domaincfg_kept v)))) 0) (genmsi_of past name)
unfolding newest
genmsi_at_cfg v past Root = refl
genmsi_at_cfg v past Child = refl

genmsi_written : (v : ℕ) (past : Past) (name : DomainName)
    → genmsi_of (Written name GenMsi v ∷ past) name ≡ unwrap_or (when (delivers_by_msis past name) (genmsi_kept (harts_in past) v))
    (genmsi_of past name)
unfolding newest
genmsi_written v past Root = refl
genmsi_written v past Child = refl

-- whether what genmsi asked for waits, by its newest word
waits_no_more : (same waits : Bool) → cond same waits false ≡ settle (cond (not same) Clear Nothing) waits
waits_no_more true waits = refl
waits_no_more false waits = refl

waits_now : (msi waits : Bool) → cond msi true waits ≡ settle (cond msi Ask Nothing) waits
waits_now true waits = refl
waits_now false waits = refl

waits_at_cfg : (v : ℕ) (past : Past) (name : DomainName)
    → cond (same_bool (delivers_by_msis past name) (is_by_msi (domaincfg_kept v))) (genmsi_waits past name) false ≡ genmsi_waits
    (Written name DomainCfg v ∷ past) name
unfolding genmsi_waits
waits_at_cfg v past Root = waits_no_more (same_bool (delivers_by_msis past Root) (is_by_msi (domaincfg_kept v))) (genmsi_waits past Root)
waits_at_cfg v past Child = waits_no_more (same_bool (delivers_by_msis past Child) (is_by_msi (domaincfg_kept v))) (genmsi_waits past Child)

waits_written : (v : ℕ) (past : Past) (name : DomainName)
    → cond (delivers_by_msis past name) true (genmsi_waits past name) ≡ genmsi_waits (Written name GenMsi v ∷ past) name
unfolding genmsi_waits
waits_written v past Root = waits_now (delivers_by_msis past Root) (genmsi_waits past Root)
waits_written v past Child = waits_now (delivers_by_msis past Child) (genmsi_waits past Child)

same_size : (reg : DomainReg) (v : ℕ) (past : Past) (name : DomainName) → (harts_in (Written name reg v ∷ past) ≡ harts_in past)
    × (sources_in (Written name reg v ∷ past) ≡ sources_in past)
unfolding newest
same_size reg v past name = (refl, refl)

-- the delivery mode after a write of domaincfg, and what stays
msi_after : (same on msi : Bool) (d : DomainState) → same ≡ same_bool d.msi msi → (domaincfg_written same on msi d).msi ≡ msi
msi_after true on msi d e = same_bools d.msi msi (sym e)
msi_after false on msi d e = refl

after_cfg : (same on msi : Bool) (d : DomainState) → let e = domaincfg_written same on msi d in (e.leaf ≡ d.leaf) × (e.harts ≡ d.harts)
    × (e.on ≡ on) × (e.genmsi ≡ unwrap_or (when (not same) 0) d.genmsi) × (e.genmsi_waits ≡ cond same d.genmsi_waits false)
after_cfg true on msi d = (refl, refl, refl, refl, refl)
after_cfg false on msi d = (refl, refl, refl, refl, refl)

after_genmsi : (b : Bool) (v : ℕ) (d : DomainState) → let e = cond b (record d { genmsi = v; genmsi_waits = true }) d in (e.leaf ≡ d.leaf)
    × (e.harts ≡ d.harts) × (e.on ≡ d.on) × (e.msi ≡ d.msi) × (e.genmsi ≡ unwrap_or (when b v) d.genmsi)
    × (e.genmsi_waits ≡ cond b true d.genmsi_waits)
after_genmsi true v d = (refl, refl, refl, refl, refl, refl)
after_genmsi false v d = (refl, refl, refl, refl, refl, refl)

cfg_stays : (v : ℕ) (past : Past) (name : DomainName) → is_on (Written name GenMsi v ∷ past) name ≡ is_on past name
unfolding newest
cfg_stays v past name = refl

msi_stays : (v : ℕ) (past : Past) (name : DomainName) → delivers_by_msis (Written name GenMsi v ∷ past) name ≡ delivers_by_msis past name
unfolding newest
msi_stays v past name = refl

quiet_own : (reg : DomainReg) (v : ℕ) (past : Past) (name : DomainName) → is_plain reg ≡ true → IsQuiet (Written name reg v) past name
unfolding newest genmsi_waits
quiet_own DomainCfg v past name plain = cc
quiet_own GenMsi v past name plain = cc
quiet_own reg v past name plain = (refl, refl, refl, refl, refl, refl)

keeps_own : (reg : DomainReg) (v : ℕ) (d e : DomainState) (past : Past) (name : DomainName) → e ≡ with_sources (domain_after reg v d) e.sources
    → DomainStands d past name → Keeps d e (Written name reg v) past name
keeps_own DomainCfg v d e past name rest stands =
    let cfg = domaincfg_kept v in
    let after = after_cfg (same_bool d.msi (is_by_msi cfg)) (enables cfg) (is_by_msi cfg) d in
    let size = same_size DomainCfg v past name in
    record {
      leaf = ap (λ (x : DomainState). x.leaf) rest ∙ after.0;
      harts = ap (λ (x : DomainState). x.harts) rest ∙ after.1;
      harts_in = size.0;
      sources_in = size.1;
      on = ap (λ (x : DomainState). x.on) rest ∙ after.2 ∙ ap enables (sym (cfg_written v past name));
      msi = ap (λ (x : DomainState). x.msi) rest ∙ msi_after (same_bool d.msi (is_by_msi cfg)) (enables cfg) (is_by_msi cfg) d refl
          ∙ ap is_by_msi (sym (cfg_written v past name));
      genmsi = ap (λ (x : DomainState). x.genmsi) rest ∙ after.3
          ∙ ap (λ m. unwrap_or (when (not (same_bool m (is_by_msi cfg))) 0) d.genmsi) stands.msi
          ∙ ap (λ g. unwrap_or (when (not (same_bool (delivers_by_msis past name) (is_by_msi cfg))) 0) g) stands.genmsi
          ∙ sym (genmsi_at_cfg v past name);
      genmsi_waits = ap (λ (x : DomainState). x.genmsi_waits) rest ∙ after.4
          ∙ ap (λ m. cond (same_bool m (is_by_msi cfg)) d.genmsi_waits false) stands.msi
          ∙ ap (λ b. cond (same_bool (delivers_by_msis past name) (is_by_msi cfg)) b false) stands.genmsi_waits ∙ waits_at_cfg v past name;
    }
keeps_own GenMsi v d e past name rest stands =
    let after = after_genmsi d.msi (genmsi_kept d.harts v) d in
    let size = same_size GenMsi v past name in
    record {
      leaf = ap (λ (x : DomainState). x.leaf) rest ∙ after.0;
      harts = ap (λ (x : DomainState). x.harts) rest ∙ after.1;
      harts_in = size.0;
      sources_in = size.1;
      on = ap (λ (x : DomainState). x.on) rest ∙ after.2 ∙ stands.on ∙ sym (cfg_stays v past name);
      msi = ap (λ (x : DomainState). x.msi) rest ∙ after.3 ∙ stands.msi ∙ sym (msi_stays v past name);
      genmsi = ap (λ (x : DomainState). x.genmsi) rest ∙ after.4 ∙ ap (λ m. unwrap_or (when m (genmsi_kept d.harts v)) d.genmsi) stands.msi
          ∙ ap (λ n. unwrap_or (when (delivers_by_msis past name) (genmsi_kept n v)) d.genmsi) stands.harts
          ∙ ap (λ g. unwrap_or (when (delivers_by_msis past name) (genmsi_kept (harts_in past) v)) g) stands.genmsi
          ∙ sym (genmsi_written v past name);
      genmsi_waits = ap (λ (x : DomainState). x.genmsi_waits) rest ∙ after.5 ∙ ap (λ m. cond m true d.genmsi_waits) stands.msi
          ∙ ap (λ b. cond (delivers_by_msis past name) true b) stands.genmsi_waits ∙ waits_written v past name;
    }
keeps_own reg v d e past name rest stands = keeps_quiet (Written name reg v) d e past name (quiet_own reg v past name refl) rest stands

-- what the write makes of a source
written : (reg : DomainReg) (v : ℕ) (past : Past) (name : DomainName) (s : ℕ) → s < suc (sources_in past)
    → source_of (Written name reg v ∷ past) name s ≡ source_changed (is_domain name Child) (harts_in past) (delivers_by_msis past name) reg v s
    (source_of past name s)
written reg v past Root s low = root_written reg v past s low
written reg v past Child s low = child_written reg v past s low

pub own-stands : (reg : DomainReg) (v : ℕ) (d e : DomainState) (past : Past) (name : DomainName)
    → EachSource d.sources e.sources (source_after d reg v) → e ≡ with_sources (domain_after reg v d) e.sources
    → DomainStands d past name → DomainStands e (Written name reg v ∷ past) name
own-stands reg v d e past name each rest stands =
    stands-after (Written name reg v) d e past name (source_after d reg v) (keeps_own reg v d e past name rest stands) each
    (λ s low. ap (λ l. source_changed l d.harts d.msi reg v s (source_of past name s)) stands.leaf
    ∙ ap (λ n. source_changed (is_domain name Child) n d.msi reg v s (source_of past name s)) stands.harts
    ∙ ap (λ m. source_changed (is_domain name Child) (harts_in past) m reg v s (source_of past name s)) stands.msi
    ∙ sym (written reg v past name s low)) stands

-- ---- loads

quiet_loaded : (e : DomainName) (reg : DomainReg) (past : Past) (name : DomainName) → IsQuiet (Loaded e reg) past name
unfolding newest genmsi_waits
quiet_loaded e reg past name = (refl, refl, refl, refl, refl, refl)

loaded-stands : (e : DomainName) (reg : DomainReg) (d : DomainState) (past : Past) (name : DomainName)
    → ((s : ℕ) → source_of (Loaded e reg ∷ past) name s ≡ source_of past name s) → DomainStands d past name
    → DomainStands d (Loaded e reg ∷ past) name
loaded-stands e reg d past name same stands = still-stands (Loaded e reg) d past name
    (keeps_quiet (Loaded e reg) d d past name (quiet_loaded e reg past name) refl stands) (λ s low. same s) stands

-- a load that claims nothing
pub read-stands_same : (reg : DomainReg) (d : DomainState) (past : Past) (name : DomainName) → is_claim reg ≡ false → DomainStands d past name
    → DomainStands d (Loaded name reg ∷ past) name
read-stands_same reg d past name other stands = loaded-stands name reg d past name (λ s. loaded reg past name s other) stands

pub root-stands_loaded : (reg : DomainReg) (d : DomainState) (past : Past) → DomainStands d past Root → DomainStands d (Loaded Child reg ∷ past) Root
root-stands_loaded reg d past stands = loaded-stands Child reg d past Root (root_at_child_loaded reg past) stands

pub child-stands_loaded : (reg : DomainReg) (d : DomainState) (past : Past) → DomainStands d past Child
    → DomainStands d (Loaded Root reg ∷ past) Child
child-stands_loaded reg d past stands = loaded-stands Root reg d past Child (child_at_root_loaded reg past) stands

-- a claim by a hart that isn't there
pub unclaimed-stands : (hart : ℕ) (d : DomainState) (past : Past) (name : DomainName) → nat_lt hart (harts_in past) ≡ false
    → DomainStands d past name → DomainStands d (Loaded name (ClaimI hart) ∷ past) name
unclaimed-stands hart d past name away stands =
    loaded-stands name (ClaimI hart) d past name (λ s. claimed hart past name s
    ∙ cond-false _ _ _ (ap (λ (b : Bool). b && is_top (top past name hart) s) away)) stands

-- by whether the domain delivers by MSIs, where nothing is on top
top_claimed : (msi : Bool) (o : Option Pair) (s : ℕ) (x : InterruptSourceState) → (msi ≡ true → o ≡ None)
    → claimed_top o s x ≡ cond (is_top o s) (with_deed msi Claimed x) x
top_claimed false o s x none = refl
top_claimed true o s x none = ap (λ (p : Option Pair). claimed_top p s x) (none refl)
    ∙ sym (ap (λ (p : Option Pair). cond (is_top p s) (with_deed true Claimed x) x) (none refl))

msi_shows_none : (past : Past) (name : DomainName) (hart : ℕ) → delivers_by_msis past name ≡ true → top past name hart ≡ None
msi_shows_none past name hart e = cond-true _ _ _ e

-- a claim by a hart that is there
pub claimed-stands : (hart : ℕ) (o : Option Pair) (d e : DomainState) (past : Past) (name : DomainName) → nat_lt hart (harts_in past) ≡ true
    → o ≡ top past name hart
    → EachSource d.sources e.sources (claimed_top o) → e ≡ with_sources d e.sources → DomainStands d past name
    → DomainStands e (Loaded name (ClaimI hart) ∷ past) name
claimed-stands hart o d e past name there shown each rest stands =
    stands-after (Loaded name (ClaimI hart)) d e past name (claimed_top o)
    (keeps_quiet (Loaded name (ClaimI hart)) d e past name (quiet_loaded name (ClaimI hart) past name) rest stands) each
    (λ s low. top_claimed (delivers_by_msis past name) o s (source_of past name s) (λ m. shown ∙ msi_shows_none past name hart m)
    ∙ ap (λ (p : Option Pair). cond (is_top p s) (with_deed (delivers_by_msis past name) Claimed (source_of past name s))
    (source_of past name s)) shown
    ∙ sym (claimed hart past name s ∙ ap (λ (b : Bool). cond (b && is_top (top past name hart) s)
    (with_deed (delivers_by_msis past name) Claimed (source_of past name s)) (source_of past name s)) there)) stands

-- ---- the beginning

begun : (h n : ℕ) (name : DomainName) (s : ℕ) → new_source ≡ source_of (Made h n ∷ []) name s
unfolding newest wire_of pending enabled target
begun h n Root s = refl
begun h n Child s = refl

new_size : (h n : ℕ) → (harts_in (Made h n ∷ []) ≡ h) × (sources_in (Made h n ∷ []) ≡ n)
unfolding newest
new_size h n = (refl, refl)

new_domaincfg : (h n : ℕ) (name : DomainName) → (is_on (Made h n ∷ []) name ≡ false) × (delivers_by_msis (Made h n ∷ []) name ≡ false)
    × (genmsi_of (Made h n ∷ []) name ≡ 0) × (genmsi_waits (Made h n ∷ []) name ≡ false)
unfolding newest genmsi_waits
new_domaincfg h n name = (refl, refl, refl, refl)

pub new_domain-stands : (n h : ℕ) (leaf : Bool) (d : DomainState) (name : DomainName) → leaf ≡ is_domain name Child → IsNewDomain n h leaf d
    → DomainStands d (Made h n ∷ []) name
new_domain-stands n h leaf d name is new =
    let cfg = new_domaincfg h n name in
    record {
      leaf = new.leaf ∙ is;
      harts = new.harts ∙ sym (new_size h n).0;
      on = new.on ∙ sym cfg.0;
      msi = new.msi ∙ sym cfg.1;
      genmsi = new.genmsi ∙ sym cfg.2;
      genmsi_waits = new.genmsi_waits ∙ sym cfg.3;
      count = new.count ∙ sym (ap suc (new_size h n).1);
      each = λ s x found. sym (get_or_from_slice_get d.sources s x x found)
          ∙ All-get_or (λ y. y ≡ new_source) d.sources s x (slice_get_within d.sources s x found) new.each ∙ begun h n name s;
    }
