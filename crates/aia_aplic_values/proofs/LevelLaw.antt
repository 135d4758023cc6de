-- A source at a level mode, in a domain that delivers directly, is pending exactly while its rectified input is high, whatever has happened.
use Rattle.std.proofs.Common.{◌≡◌, ℕ, Bool, true, false, not, cond, ◌&&◌, nat_eq, nat_lt, [], ◌∷◌, None, unwrap_or, refl, ap, ◌∙◌}
use Rattle.aia_regs.specs.declared.domain_registers.DomainReg.{DomainReg}
use Rattle.aia_regs.specs.declared.domain_registers.DomainReg.TheVariants.{DomainCfg, SourceCfg, ClaimI}
use Rattle.aia_regs.specs.BitUpdate.{settle}
use Rattle.aia_source.specs.declared.mode.Mode.{Mode}
use Rattle.aia_source.specs.Wired.{is_level, rectified, says}
use Rattle.aia_source.specs.Wired.SourceDeed.{LevelGiven, Forwarded, Configured, Switched, Untouched}
use Rattle.aia_source.specs.Registers.{domaincfg_kept, is_by_msi, root_sourcecfg, child_sourcecfg, delegates, mode_of, touch, same_bool}
use Rattle.aia_regs.specs.Top.{is_top}
use Rattle.aia_model.specs.declared.domain_name.DomainName.{DomainName}
use Rattle.aia_model.specs.declared.sender.Sender.{Sender}
use Rattle.aia_model.specs.Act.{Past, newest, when}
use Rattle.aia_model.specs.declared.sender.Sender.TheVariants.{ByGenMsi, BySource}
use Rattle.aia_model.specs.declared.domain_name.DomainName.TheVariants.{Root, Child}
use Rattle.aia_model.specs.Act.Act.{Made, Driven, Written, Loaded, Sent, Aimed}
use Rattle.aia_model.specs.SourceOf.{harts_in, is_register_of, wire_of, root_sourcecfg_of, is_delegated, child_told, mode, input, delivers_by_msis, pending, top}
use Rattle.aia_source.proofs.SourceLemmas.{unheard, followed, begun, changed, claimed}
use Rattle.aia_aplic_values.proofs.WriteSteps.{same_bools}

-- ---- what each act leaves of the law

abbrev pub IsLawful : Past → DomainName → ℕ → Type 0
IsLawful past d s = is_level (mode past d s) ≡ true → delivers_by_msis past d ≡ false → pending past d s ≡ input past d s

-- an act in which a source has no part
made : (harts sources : ℕ) (past : Past) (d : DomainName) (s : ℕ) → IsLawful past d s → IsLawful (Made harts sources ∷ past) d s
unfolding newest wire_of pending
made harts sources past Root s law = λ l e. unheard (mode past Root s) (delivers_by_msis past Root) (input past Root s) (pending past Root s) None
    l e (law l e)
made harts sources past Child s law = λ l e. unheard (mode past Child s) (delivers_by_msis past Child) (input past Child s) (pending past Child s)
    None l e (law l e)

aimed : (t v : ℕ) (past : Past) (d : DomainName) (s : ℕ) → IsLawful past d s → IsLawful (Aimed t v ∷ past) d s
unfolding newest wire_of pending
aimed t v past Root s law = λ l e. unheard (mode past Root s) (delivers_by_msis past Root) (input past Root s) (pending past Root s) None
    l e (law l e)
aimed t v past Child s law = λ l e. unheard (mode past Child s) (delivers_by_msis past Child) (input past Child s) (pending past Child s) None
    l e (law l e)

loaded : (e : DomainName) (reg : DomainReg) (past : Past) (d : DomainName) (s : ℕ) → IsLawful past d s → IsLawful (Loaded e reg ∷ past) d s
unfolding newest wire_of pending
loaded Root (ClaimI hart) past Root s law = λ l e. claimed (mode past Root s) (delivers_by_msis past Root) (input past Root s)
    (pending past Root s) (nat_lt hart (harts_in past) && is_top (top past Root hart) s) l e (law l e)
loaded Child (ClaimI hart) past Child s law = λ l e. claimed (mode past Child s) (delivers_by_msis past Child) (input past Child s)
    (pending past Child s) (nat_lt hart (harts_in past) && is_top (top past Child hart) s) l e (law l e)
loaded Root (ClaimI hart) past Child s law = λ l e. claimed (mode past Child s) (delivers_by_msis past Child) (input past Child s)
    (pending past Child s) false l e (law l e)
loaded Child (ClaimI hart) past Root s law = λ l e. claimed (mode past Root s) (delivers_by_msis past Root) (input past Root s)
    (pending past Root s) false l e (law l e)
loaded Root reg past Root s law = λ l e. claimed (mode past Root s) (delivers_by_msis past Root) (input past Root s) (pending past Root s) false
    l e (law l e)
loaded Child reg past Root s law = λ l e. claimed (mode past Root s) (delivers_by_msis past Root) (input past Root s) (pending past Root s) false
    l e (law l e)
loaded Root reg past Child s law = λ l e. claimed (mode past Child s) (delivers_by_msis past Child) (input past Child s) (pending past Child s)
    false l e (law l e)
loaded Child reg past Child s law = λ l e. claimed (mode past Child s) (delivers_by_msis past Child) (input past Child s) (pending past Child s)
    false l e (law l e)

-- only a domain that delivers by MSIs forwards
forwards : (m : Mode) (msi r was b : Bool) → is_level m ≡ true → msi ≡ false → was ≡ r
    → settle (says m msi r r (cond (b && msi) Forwarded Untouched)) was ≡ r
forwards m true r was b l e same = cc
forwards m false r was true l e same = unheard m false r was None l e same
forwards m false r was false l e same = unheard m false r was None l e same

sent : (sender : Sender) (past : Past) (d : DomainName) (s : ℕ) → IsLawful past d s → IsLawful (Sent sender ∷ past) d s
unfolding newest wire_of pending
sent (ByGenMsi e) past Root s law = λ l e. unheard (mode past Root s) (delivers_by_msis past Root) (input past Root s) (pending past Root s) None
    l e (law l e)
sent (ByGenMsi e) past Child s law = λ l e. unheard (mode past Child s) (delivers_by_msis past Child) (input past Child s) (pending past Child s)
    None l e (law l e)
sent (BySource Root t) past Root s law = λ l e. forwards (mode past Root s) (delivers_by_msis past Root) (input past Root s) (pending past Root s)
    (nat_eq t s) l e (law l e)
sent (BySource Child t) past Child s law = λ l e. forwards (mode past Child s) (delivers_by_msis past Child) (input past Child s)
    (pending past Child s) (nat_eq t s) l e (law l e)
sent (BySource Child t) past Root s law = λ l e. unheard (mode past Root s) (delivers_by_msis past Root) (input past Root s) (pending past Root s)
    None l e (law l e)
sent (BySource Root t) past Child s law = λ l e. unheard (mode past Child s) (delivers_by_msis past Child) (input past Child s)
    (pending past Child s) None l e (law l e)

driven : (t : ℕ) (level : Bool) (past : Past) (d : DomainName) (s : ℕ) → IsLawful past d s → IsLawful (Driven t level ∷ past) d s
unfolding newest wire_of pending
driven t level past Root s law = at (nat_eq t s)
  where
    at : (b : Bool) → (l : is_level (mode past Root s) ≡ true) → (e : delivers_by_msis past Root ≡ false)
        → settle (says (mode past Root s) (delivers_by_msis past Root) (input past Root s)
        (rectified (mode past Root s) (cond b level (wire_of past s))) (cond b LevelGiven Untouched)) (pending past Root s) ≡ rectified
        (mode past Root s) (cond b level (wire_of past s))
    at true l e = followed (mode past Root s) (delivers_by_msis past Root) (input past Root s) (rectified (mode past Root s) level)
        (pending past Root s) l (law l e)
    at false l e = unheard (mode past Root s) (delivers_by_msis past Root) (input past Root s) (pending past Root s) None l e (law l e)
driven t level past Child s law = at (nat_eq t s)
  where
    at : (b : Bool) → (l : is_level (mode past Child s) ≡ true) → (e : delivers_by_msis past Child ≡ false)
        → settle (says (mode past Child s) (delivers_by_msis past Child) (input past Child s)
        (rectified (mode past Child s) (cond b level (wire_of past s))) (cond b LevelGiven Untouched)) (pending past Child s) ≡ rectified
        (mode past Child s) (cond b level (wire_of past s))
    at true l e = followed (mode past Child s) (delivers_by_msis past Child) (input past Child s) (rectified (mode past Child s) level)
        (pending past Child s) l (law l e)
    at false l e = unheard (mode past Child s) (delivers_by_msis past Child) (input past Child s) (pending past Child s) None l e (law l e)

-- the mode of a source is written where `b`, and stays where not; a source whose mode is not written has the register c
configured : (b written msi wire was : Bool) (new c : ℕ) → (b ≡ false → written ≡ false)
    → (is_level (mode_of c) ≡ true → msi ≡ false → was ≡ rectified (mode_of c) wire)
    → let m = mode_of (unwrap_or (when written new) c) in is_level m ≡ true → msi ≡ false
    → settle (says m msi (rectified (mode_of c) wire) (rectified m wire) (cond b Configured Untouched)) was ≡ rectified m wire
configured true written msi wire was new c only law =
    λ l e. begun (mode_of (unwrap_or (when written new) c)) msi (rectified (mode_of c) wire)
    (rectified (mode_of (unwrap_or (when written new) c)) wire) was l
configured false true msi wire was new c only law = let bad : true ≡ false = only refl in cc
configured false false msi wire was new c only law = λ l e. unheard (mode_of c) msi (rectified (mode_of c) wire) was None l e (law l e)

switched : (m : Mode) (msi msi' r was : Bool) → (is_level m ≡ true → msi ≡ false → was ≡ r) → is_level m ≡ true → msi' ≡ false
    → settle (says m msi r r (cond (same_bool msi msi') Untouched Switched)) was ≡ r
switched m msi msi' r was law l e = at (same_bool msi msi') refl
  where
    at : (b : Bool) → same_bool msi msi' ≡ b → settle (says m msi r r (cond b Untouched Switched)) was ≡ r
    at true same = let direct : msi ≡ false = same_bools msi msi' same ∙ e in unheard m msi r was None l direct (law l direct)
    at false same = changed m msi r r was l

-- a write of a register of the domain
written_root : (reg : DomainReg) (v : ℕ) (past : Past) (s : ℕ) → IsLawful past Root s → IsLawful (Written Root reg v ∷ past) Root s
unfolding newest wire_of pending
written_root DomainCfg v past s law = switched (mode past Root s) (delivers_by_msis past Root) (is_by_msi (domaincfg_kept v)) (input past Root s)
    (pending past Root s) law
written_root (SourceCfg i) v past s law = configured (is_register_of past i s) (is_register_of past i s) (delivers_by_msis past Root)
    (wire_of past s) (pending past Root s) (root_sourcecfg v) (root_sourcecfg_of past s) (λ e. e) law
written_root reg v past s law = λ l e. unheard (mode past Root s) (delivers_by_msis past Root) (input past Root s) (pending past Root s)
    (touch reg v s) l e (law l e)

written_child : (reg : DomainReg) (v : ℕ) (past : Past) (s : ℕ) → IsLawful past Child s → IsLawful (Written Child reg v ∷ past) Child s
unfolding newest wire_of pending
written_child DomainCfg v past s law = switched (mode past Child s) (delivers_by_msis past Child) (is_by_msi (domaincfg_kept v))
    (input past Child s) (pending past Child s) law
written_child (SourceCfg i) v past s law = configured (is_register_of past i s) (is_register_of past i s && is_delegated past s)
    (delivers_by_msis past Child) (wire_of past s) (pending past Child s) (child_sourcecfg v) (newest (child_told s) past)
    (λ e. ap (λ (b : Bool). b && is_delegated past s) e) law
written_child reg v past s law = λ l e. unheard (mode past Child s) (delivers_by_msis past Child) (input past Child s) (pending past Child s)
    (touch reg v s) l e (law l e)

-- a write of a register of the other domain
root_at_child : (reg : DomainReg) (v : ℕ) (past : Past) (s : ℕ) → IsLawful past Root s → IsLawful (Written Child reg v ∷ past) Root s
unfolding newest wire_of pending
root_at_child DomainCfg v past s law = λ l e. unheard (mode past Root s) (delivers_by_msis past Root) (input past Root s) (pending past Root s)
    None l e (law l e)
root_at_child reg v past s law = λ l e. unheard (mode past Root s) (delivers_by_msis past Root) (input past Root s) (pending past Root s) None
    l e (law l e)

-- the root domain takes a source back, or gives it, or neither
taken : (b msi wire was : Bool) (c : ℕ) → (is_level (mode_of c) ≡ true → msi ≡ false → was ≡ rectified (mode_of c) wire)
    → let m = mode_of (unwrap_or (when b 0) c) in is_level m ≡ true → msi ≡ false
    → settle (says m msi (rectified (mode_of c) wire) (rectified m wire) Untouched) was ≡ rectified m wire
taken true msi wire was c law = λ l e. let bad : false ≡ true = l in cc
taken false msi wire was c law = λ l e. unheard (mode_of c) msi (rectified (mode_of c) wire) was None l e (law l e)

child_at_root : (reg : DomainReg) (v : ℕ) (past : Past) (s : ℕ) → IsLawful past Child s → IsLawful (Written Root reg v ∷ past) Child s
unfolding newest wire_of pending
child_at_root (SourceCfg i) v past s law = taken (is_register_of past i s && not (is_delegated past s && delegates (root_sourcecfg v)))
    (delivers_by_msis past Child) (wire_of past s) (pending past Child s) (newest (child_told s) past) law
child_at_root DomainCfg v past s law = λ l e. unheard (mode past Child s) (delivers_by_msis past Child) (input past Child s)
    (pending past Child s) None l e (law l e)
child_at_root reg v past s law = λ l e. unheard (mode past Child s) (delivers_by_msis past Child) (input past Child s) (pending past Child s) None
    l e (law l e)

begins : (d : DomainName) (s : ℕ) → IsLawful [] d s
unfolding newest
begins Root s = λ l e. let bad : false ≡ true = l in cc
begins Child s = λ l e. let bad : false ≡ true = l in cc

-- ---- the law

pub level_follows : (past : Past) (d : DomainName) (s : ℕ) → IsLawful past d s
level_follows [] d s = begins d s
level_follows (Made harts sources ∷ past) d s = made harts sources past d s (level_follows past d s)
level_follows (Driven t level ∷ past) d s = driven t level past d s (level_follows past d s)
level_follows (Loaded e reg ∷ past) d s = loaded e reg past d s (level_follows past d s)
level_follows (Aimed t v ∷ past) d s = aimed t v past d s (level_follows past d s)
level_follows (Sent sender ∷ past) d s = sent sender past d s (level_follows past d s)
level_follows (Written Root reg v ∷ past) Root s = written_root reg v past s (level_follows past Root s)
level_follows (Written Child reg v ∷ past) Root s = root_at_child reg v past s (level_follows past Root s)
level_follows (Written Root reg v ∷ past) Child s = child_at_root reg v past s (level_follows past Child s)
level_follows (Written Child reg v ∷ past) Child s = written_child reg v past s (level_follows past Child s)
