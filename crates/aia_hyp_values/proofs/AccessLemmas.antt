-- What an access to a CSR of the host reaches, what it answers, and what it leaves.
use Rattle.std.proofs.Common.{◌≡◌, ◌≢◌, ℕ, ◌<◌, ◌≤◌, Bool, true, false, not, cond, Some, None, refl, sym, ap, subst, ◌∙◌, arith}
use Rattle.std.proofs.lemmas.Bool.{cond-true, cond-false, lt-ltb, le-ltb}
use Rattle.aia_regs.specs.declared.access.Csr.{Csr}
use Rattle.aia_regs.specs.declared.access.Csr.TheVariants as csrs
use Rattle.aia_regs.specs.declared.access.Op.{Op}
use Rattle.aia_regs.specs.declared.access.Level.{Level}
use Rattle.aia_regs.specs.declared.access.Level.TheVariants as levels
use Rattle.aia_regs.specs.declared.file_registers.FileReg.{FileReg}
use Rattle.aia_regs.specs.declared.file_registers.FileReg.TheVariants.{Odd, Outside}
use Rattle.aia_regs.specs.FileRegisters.{register_of, select_written}
use Rattle.aia_regs.specs.Operations.{is_writing}
use Rattle.aia_csr.specs.declared.csr_access.CsrAccess.{CsrAccess}
use Rattle.aia_csr.specs.declared.csr_access.CsrAccess.TheVariants as reaches
use Rattle.aia_csr.specs.CsrAccess.{csr_access, register_access, IsFileCsr, IsInTable}
use Rattle.aia_file.specs.InterruptFile.{InterruptFile, SameFile}
use Rattle.aia_file.specs.FileState.{shown}
use Rattle.aia_file.specs.Imsic.{ImsicState, file_at}
use Rattle.aia_fabric_values.specs.World.{World}
use Rattle.aia_model.specs.declared.answer.Answer.TheVariants.{Wide, Refused}
use Rattle.aia_model.specs.declared.refusal.Refusal.TheVariants.{Range, Illegal}
use Rattle.aia_model.specs.Event.{History, has_machine, harts_of}
use Rattle.aia_model.specs.Event.Event.{Accepted}
use Rattle.aia_model.specs.FileAfter.FileDeed.{Accesses, Rests}
use Rattle.aia_model.specs.FileOf.{FileName, MachineFile, SupervisorFile, deed_at, select_of}
use Rattle.aia_model.specs.Refusal.{refusal, raises_illegal}
use Rattle.aia_model.specs.Answer.{accepted_answer, csr_shown, csr_value}
use Rattle.aia_model.proofs.AnswerLemmas.{access_refusal, machine_csr_refusal, host_csr_refusal}
use Rattle.aia_model.proofs.FileLemmas.{is_file-itself, is_file-other}
use Rattle.aia_model.specs.declared.line.Line.TheVariants.{MachineCsr, HostCsr}
use Rattle.aia_model.specs.Move.{line_deed}
use Rattle.aia_model.specs.Move.LineDeed.{NoMove}
use Rattle.aia_hyp_values.proofs.VcpuLemmas.{is_quiet_line}
use Rattle.aia_hyp_values.specs.Core.{CoreState}
use Rattle.aia_hyp_values.specs.HostFiles.{IsHost, HasDone, name_of, csr_line, host_spot, select_in}
use Rattle.aia_hyp_values.specs.Stands.{CoreStands, CoreTakes}
use Rattle.aia_hyp_values.proofs.NameLemmas.{named_there}
use Rattle.aia_hyp_values.proofs.EventLemmas.{as_it_was, hosts_line, IsHosts, one_done, accepted, refused}

-- ---- what is reached

-- what the reg CSR reaches is a register of the file, by its number, or a fault
abbrev IsFileOrFault : FileReg → CsrAccess → Type 0
IsFileOrFault r (reaches.File reg) = r ≡ reg
IsFileOrFault r reaches.Illegal = Unit {0}
IsFileOrFault r reaches.Virtual = Unit {0}
IsFileOrFault r access = ⊥

register_kind : (level : Level) (r : FileReg) → IsFileOrFault r (register_access level r)
register_kind levels.Guest Odd = tt
register_kind levels.Guest Outside = tt
register_kind level Odd = tt
register_kind level Outside = tt
register_kind level r = refl

-- a CSR that the table has at a level of the host is a file's
pub of_file : (level : Level) (csr : Csr) → IsHost level → IsInTable level csr → IsFileCsr csr
of_file levels.Guest csr host listed = absurd host
of_file levels.Host csr host listed = listed
of_file levels.Machine csr host listed = listed

-- the register of the file is reached by the reg CSR alone, and is the one that the select number
-- names
pub file_reached : (level : Level) (csr : Csr) (op : Op) (select : ℕ) (reg : FileReg) → IsFileCsr csr
    → reaches.File reg ≡ csr_access level csr op select false → (csr ≡ csrs.Reg) × (register_of select ≡ reg)
file_reached level csrs.Select op select reg listed e = absurd (cc)
file_reached level csrs.Topei op select reg listed e = absurd (cc)
file_reached level csrs.Reg op select reg listed e =
    (refl, subst (IsFileOrFault (register_of select)) (sym e) (register_kind level (register_of select)))
file_reached level csr op select reg listed e = absurd listed

-- the select number by the select CSR alone, the identity on top by the topei CSR alone
pub select_reached : (level : Level) (csr : Csr) (op : Op) (select : ℕ) → IsFileCsr csr → reaches.Select ≡ csr_access level csr op select false
    → csr ≡ csrs.Select
select_reached level csrs.Select op select listed e = refl
select_reached level csrs.Topei op select listed e = absurd (cc)
select_reached level csrs.Reg op select listed e =
    absurd (subst (IsFileOrFault (register_of select)) (sym e) (register_kind level (register_of select)))
select_reached level csr op select listed e = absurd listed

pub top_reached : (level : Level) (csr : Csr) (op : Op) (select : ℕ) → IsFileCsr csr → reaches.Top ≡ csr_access level csr op select false
    → csr ≡ csrs.Topei
top_reached level csrs.Select op select listed e = absurd (cc)
top_reached level csrs.Topei op select listed e = refl
top_reached level csrs.Reg op select listed e = absurd (subst (IsFileOrFault (register_of select)) (sym e) (register_kind level (register_of select)))
top_reached level csr op select listed e = absurd listed

-- a guest's access by the CSR that reaches it, whatever VTI is
abbrev pub IsReachedBy : Csr → Op → ℕ → CsrAccess → Type 0
IsReachedBy csr op select reaches.Select = csr ≡ csrs.Select
IsReachedBy csr op select (reaches.File reg) = (csr ≡ csrs.Reg) × (register_of select ≡ reg)
IsReachedBy csr op select reaches.Top = csr ≡ csrs.Topei
IsReachedBy csr op select reaches.Topi = (csr ≡ csrs.Topi) × (is_writing op ≡ false)
IsReachedBy csr op select reaches.Sip = csr ≡ csrs.Sip
IsReachedBy csr op select reaches.Sie = csr ≡ csrs.Sie
IsReachedBy csr op select access = Unit {0}

pub guest_reached_by : (csr : Csr) (op : Op) (select : ℕ) (vti : Bool) → IsReachedBy csr op select (csr_access levels.Guest csr op select vti)
guest_reached_by csrs.Select op select vti = refl
guest_reached_by csrs.Topei op select vti = refl
guest_reached_by csrs.Reg op select vti = by_register (register_of select) refl
  where
    by_register : (r : FileReg) → register_of select ≡ r → IsReachedBy csrs.Reg op select (register_access levels.Guest r)
    by_register Odd e = tt
    by_register Outside e = tt
    by_register r e = (refl, e)
guest_reached_by csrs.Topi op select vti = by_op (is_writing op) refl
  where
    by_op : (b : Bool) → is_writing op ≡ b → IsReachedBy csrs.Topi op select (cond b reaches.Illegal reaches.Topi)
    by_op true e = tt
    by_op false e = (refl, e)
guest_reached_by csrs.Sip op select true = tt
guest_reached_by csrs.Sip op select false = refl
guest_reached_by csrs.Sie op select true = tt
guest_reached_by csrs.Sie op select false = refl

pub reached_by : (csr : Csr) (op : Op) (select : ℕ) (vti : Bool) (access : CsrAccess) → access ≡ csr_access levels.Guest csr op select vti
    → IsReachedBy csr op select access
reached_by csr op select vti access e = subst (IsReachedBy csr op select) (sym e) (guest_reached_by csr op select vti)

-- ---- the line of an access

csr_refusal : (level : Level) → IsHost level → (h : History) (hart : ℕ) (csr : Csr) (op : Op) → has_machine h ≡ true
    → refusal h (csr_line level hart csr op) ≡ access_refusal h hart
    (raises_illegal (csr_access level csr op (select_of h (name_of level hart)) false))
csr_refusal levels.Machine host h hart csr op there = machine_csr_refusal h hart csr op there
csr_refusal levels.Host host h hart csr op there = host_csr_refusal h hart csr op there
csr_refusal levels.Guest host h hart csr op there = absurd host

csr_accepted : (level : Level) → IsHost level → (h : History) (hart : ℕ) (csr : Csr) (op : Op)
    → accepted_answer h (csr_line level hart csr op) ≡ Wide (csr_value h (name_of level hart) csr)
csr_accepted levels.Machine host h hart csr op = refl
csr_accepted levels.Host host h hart csr op = refl
csr_accepted levels.Guest host h hart csr op = absurd host

-- it is a deed at its own hart's file
own_access : (level : Level) → IsHost level → (h : History) (hart : ℕ) (csr : Csr) (op : Op)
    → deed_at (name_of level hart) h (Accepted (csr_line level hart csr op)) ≡ Accesses csr op
own_access levels.Machine host h hart csr op = cond-true _ _ _ (is_file-itself (MachineFile hart) (MachineFile hart) refl)
own_access levels.Host host h hart csr op = cond-true _ _ _ (is_file-itself (SupervisorFile hart) (SupervisorFile hart) refl)
own_access levels.Guest host h hart csr op = absurd host

other_access : (level : Level) → IsHost level → (h : History) (hart : ℕ) (g : FileName) (csr : Csr) (op : Op) → g ≢ name_of level hart
    → deed_at g h (Accepted (csr_line level hart csr op)) ≡ Rests
other_access levels.Machine host h hart g csr op ne = cond-false _ _ _ (is_file-other g (MachineFile hart) ne)
other_access levels.Host host h hart g csr op ne = cond-false _ _ _ (is_file-other g (SupervisorFile hart) ne)
other_access levels.Guest host h hart g csr op ne = absurd host

is_hosts_line : (level : Level) → IsHost level → (h : History) (hart : ℕ) (csr : Csr) (op : Op) → IsHosts h (Accepted (csr_line level hart csr op))
is_hosts_line levels.Machine host h hart csr op = hosts_line h (MachineCsr hart csr op) refl refl (λ g. refl) (λ g m. refl)
is_hosts_line levels.Host host h hart csr op = hosts_line h (HostCsr hart csr op) refl refl (λ g. refl) (λ g m. refl)
is_hosts_line levels.Guest host h hart csr op = absurd host

no_move : (level : Level) → IsHost level → (hart : ℕ) (csr : Csr) (op : Op) → line_deed (csr_line level hart csr op) ≡ NoMove
no_move levels.Machine host hart csr op = refl
no_move levels.Host host hart csr op = refl
no_move levels.Guest host hart csr op = absurd host

plain_access : (level : Level) → IsHost level → (hart : ℕ) (csr : Csr) (op : Op) → is_quiet_line (csr_line level hart csr op) ≡ true
plain_access levels.Machine host hart csr op = refl
plain_access levels.Host host hart csr op = refl
plain_access levels.Guest host hart csr op = absurd host

-- ---- what the core promises of it

pub no_hart : (x : CoreState) (level : Level) → IsHost level → (hart : ℕ) (csr : Csr) (op : Op) → x.world.imsic.harts ≤ hart
    → CoreTakes x x (csr_line level hart csr op) (Refused Range)
no_hart x level host hart csr op past = refused x (csr_line level hart csr op) (Refused Range) (λ h stands.
    csr_refusal level host h hart csr op stands.there ∙ cond-true _ _ _ (ap not (le-ltb hart (harts_of h) (omega (arith, stands.harts)))))

-- the refusal of an access of a hart that is there, by the select number that the core keeps
refusal_there : (x : CoreState) (level : Level) (host : IsHost level) (hart : ℕ) (csr : Csr) (op : Op) (access : CsrAccess) (h : History)
    → hart < x.world.imsic.harts → access ≡ csr_access level csr op (select_in x (name_of level hart)) false → CoreStands x h
    → refusal h (csr_line level hart csr op) ≡ cond (raises_illegal access) (Some (Refused Illegal)) None
refusal_there x level host hart csr op access h inside table stands =
    csr_refusal level host h hart csr op stands.there ∙ cond-false _ _ _ (ap not (lt-ltb hart (harts_of h) (omega (arith, stands.harts))))
    ∙ ap (λ s. cond (raises_illegal (csr_access level csr op s false)) (Some (Refused Illegal)) None)
    (sym (stands.host (name_of level hart) (named_there level host x.world.imsic hart inside)).select)
    ∙ ap (λ (a : CsrAccess). cond (raises_illegal a) (Some (Refused Illegal)) None) (sym table)

pub illegal : (x : CoreState) (level : Level) → IsHost level → (hart : ℕ) (csr : Csr) (op : Op) → hart < x.world.imsic.harts
    → reaches.Illegal ≡ csr_access level csr op (select_in x (name_of level hart)) false
    → CoreTakes x x (csr_line level hart csr op) (Refused Illegal)
illegal x level host hart csr op inside table =
    refused x (csr_line level hart csr op) (Refused Illegal)
    (λ h stands. refusal_there x level host hart csr op reaches.Illegal h inside table stands)

-- an access that was done, and answered by what its CSR, of this kind, read
pub accessed : (x y : CoreState) (level : Level) → IsHost level → (hart : ℕ) (csr kind : Csr) (op : Op) (access : CsrAccess) (value : ℕ)
    → hart < x.world.imsic.harts → access ≡ csr_access level csr op (select_in x (name_of level hart)) false → raises_illegal access ≡ false
    → csr ≡ kind → value ≡ csr_shown (select_in x (name_of level hart)) (shown (file_at x.world.imsic (host_spot (name_of level hart)))) kind
    → HasDone x y (name_of level hart) (Accesses kind op) → CoreTakes x y (csr_line level hart csr op) (Wide value)
accessed x y level host hart csr kind op access value inside table legal named read done =
    let f = name_of level hart in
    let there = named_there level host x.world.imsic hart inside in
    let line = csr_line level hart csr op in
    accepted x y line (Wide value) (plain_access level host hart csr op) (no_move level host hart csr op)
    (λ h stands. let file = stands.host f there in let deed : deed_at f h (Accepted line) ≡ Accesses kind op =
    own_access level host h hart csr op ∙ ap (λ (k : Csr). Accesses k op) named in (
      refusal_there x level host hart csr op access h inside table stands ∙ cond-false _ _ _ legal,
      ap Wide (read ∙ ap (λ (k : Csr). csr_shown (select_in x f) (shown (file_at x.world.imsic (host_spot f))) k) (sym named)
          ∙ ap (λ s. csr_shown s (shown (file_at x.world.imsic (host_spot f))) csr) file.select
          ∙ ap (λ (i : InterruptFile). csr_shown (select_of h f) i csr) file.file) ∙ sym (csr_accepted level host h hart csr op),
      one_done x y h (Accepted line) f stands (subst (HasDone x y f) (sym deed) done) (is_hosts_line level host h hart csr op)
          (λ g inside ne. other_access level host h hart g csr op ne),
    ))

-- ---- what each access does

-- the select number alone is written
pub select_done : (x y : CoreState) (f : FileName) (op : Op) → y.world ≡ x.world → y.leases ≡ x.leases → y.passes ≡ x.passes → y.vcpus ≡ x.vcpus
    → select_in y f ≡ select_written op (select_in x f) → ((g : FileName) → g ≢ f → select_in y g ≡ select_in x g)
    → HasDone x y f (Accesses csrs.Select op)
select_done x y f op world leases passes vcpus own others = record {
  harts = ap (λ (w : World). w.imsic.harts) world;
  guests = ap (λ (w : World). w.imsic.guests) world;
  rest = world ∙ ap (λ (i : ImsicState). record x.world { imsic = i }) (sym (ap (λ (w : World). w.imsic) world));
  leases = leases;
  passes = passes;
  vcpus = vcpus;
  done = record {
    file = subst (λ (w : World). SameFile (shown (file_at w.imsic (host_spot f))) (shown (file_at x.world.imsic (host_spot f))))
        (sym world) (as_it_was (shown (file_at x.world.imsic (host_spot f))));
    select = own;
  };
  files = λ spot inside ne. ap (λ (w : World). file_at w.imsic spot) world;
  selects = others;
}
