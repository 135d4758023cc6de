-- What an access of a virtual hart that runs from memory to a CSR of its interrupt file answers, and
-- what it leaves: its slot and the numbers beside it are changed as its file is.
use Rattle.std.proofs.Common.{◌≡◌, ◌≢◌, ℕ, ◌+◌, ◌%◌, ◌<◌, Bool, true, false, cond, get_or, List, length, set, ◌∷◌, refl, sym, ap, subst, ◌∙◌}
use Rattle.std.proofs.lemmas.Bool.{cond-true, cond-false}
use Rattle.std.proofs.lemmas.List.{get_or-set_same, get_or-set_other, length-set}
use Rattle.aia_regs.specs.declared.access.Csr.{Csr}
use Rattle.aia_regs.specs.declared.access.Csr.TheVariants as csrs
use Rattle.aia_regs.specs.declared.access.Op.{Op}
use Rattle.aia_regs.specs.declared.file_registers.FileReg.{FileReg}
use Rattle.aia_regs.specs.declared.file_registers.FileReg.TheVariants.{Delivery, Threshold, Pending, Enable, Reserved, Odd, Outside}
use Rattle.aia_regs.specs.FileRegisters.{number_after, IsUsable}
use Rattle.aia_csr.specs.declared.csr_access.CsrAccess.{CsrAccess}
use Rattle.aia_csr.specs.declared.csr_access.CsrAccess.TheVariants as reaches
use Rattle.aia_csr.specs.CsrAccess.{is_file_csr, IsFileCsr}
use Rattle.aia_file.specs.InterruptFile.{InterruptFile, SameFile, register_value, accessed, claimed}
use Rattle.aia_file.specs.SlotFile.{IsOfSets}
use Rattle.aia_major.specs.Kept.{majors_shown}
use Rattle.aia_vcpu.specs.Vms.{Vcpu, vcpu_of, is_vcpu_in, slot_of}
use Rattle.aia_vcpu.specs.Home.{rests_in_memory}
use Rattle.aia_vcpu.specs.declared.rest.Rest.TheVariants.{Entered}
use Rattle.aia_vcpu.specs.Home.Home.{InMemory}
use Rattle.aia_fabric_values.specs.World.{World}
use Rattle.aia_fabric_values.specs.Whole.{IsWhole}
use Rattle.aia_fabric_values.specs.SlotAccess.{file_of_slot, DoneInSlot}
use Rattle.aia_move_values.specs.declared.who.KeptNumbers.{KeptNumbers}
use Rattle.aia_model.specs.declared.answer.Answer.TheVariants.{Wide, Refused}
use Rattle.aia_model.specs.declared.refusal.Refusal.TheVariants.{Virtual}
use Rattle.aia_model.specs.declared.line.Line.TheVariants.{GuestCsr}
use Rattle.aia_model.specs.Event.{History}
use Rattle.aia_model.specs.Event.Event.{Accepted}
use Rattle.aia_model.specs.Vms.{has_vcpu}
use Rattle.aia_model.specs.FileAfter.{FileDeed, select_after, file_after}
use Rattle.aia_model.specs.FileAfter.FileDeed.{Accesses}
use Rattle.aia_model.specs.HomeOf.{home}
use Rattle.aia_model.specs.Passes.{passes_of}
use Rattle.aia_model.specs.Refusal.{serves, raises_illegal, raises_virtual}
use Rattle.aia_model.specs.Answer.{csr_shown}
use Rattle.aia_model.proofs.MoveLemmas.{is_itself}
use Rattle.aia_hyp_values.specs.declared.vcpu.Stay.TheVariants as stays
use Rattle.aia_hyp_values.specs.Core.{VcpuRecord}
use Rattle.aia_hyp_values.specs.Core.{CoreState, no_record, record_of, home_in, hand_in}
use Rattle.aia_hyp_values.specs.Memory.{file_in_memory, is_outside_sets, kept_value, kept_after}
use Rattle.aia_hyp_values.specs.Passes.{HasItsPasses}
use Rattle.aia_hyp_values.specs.Stands.{PlanStands, CoreStands, CoreTakes}
use Rattle.aia_hyp_values.proofs.VcpuLemmas.{MajorsRest, quiet_line}
use Rattle.aia_hyp_values.proofs.EventLemmas.{Changes, as_it_was, accepted, refused}
use Rattle.aia_hyp_values.proofs.FilesInMemory.{file_is}
use Rattle.aia_hyp_values.proofs.MemoryDeeds.{with_memory, but_memory, memory_deed}
use Rattle.aia_hyp_values.proofs.RunLines.{nothing_told}
use Rattle.aia_hyp_values.proofs.GuestAccesses.{access_by, there_in, other_rests, file_access, file_read, refusal_served}

-- ---- a deed at the file of a virtual hart that runs from memory

-- it was done at its slot, the numbers beside it and its select number, and nothing else changed
pub record MemoryHasDone (x y : CoreState) (g : Vcpu) (kept now : KeptNumbers) (deed : FileDeed) : Type 0 where
  pub threshold : ℕ
  pub slot_deed : InterruptFile → InterruptFile
  pub slot : DoneInSlot x.world y.world (slot_of x.world.vms g) threshold slot_deed
  pub leases : y.leases ≡ x.leases
  pub selects : y.selects ≡ x.selects
  pub passes : y.passes ≡ x.passes
  pub records : length y.vcpus ≡ length x.vcpus
  pub stay : (record_of y g).stay ≡ stays.InMemory Entered now
  pub select : (record_of y g).select ≡ select_after deed (record_of x g).select
  pub majors : (record_of y g).majors ≡ (record_of x g).majors
  pub others : (other : Vcpu) → slot_of x.world.vms other ≢ slot_of x.world.vms g → record_of y other ≡ record_of x other
  pub file : SameFile (file_in_memory y.world (slot_of x.world.vms g) now)
      (file_after (record_of x g).select deed (file_in_memory x.world (slot_of x.world.vms g) kept))

-- what is known of an access
pub record IsMemoryAccess (x y : CoreState) (h : History) (vm vcpu : ℕ) (csr : Csr) (op : Op) (kept now : KeptNumbers) : Type 0 where
  pub stands : CoreStands x h
  pub whole : IsWhole x.world
  pub there : has_vcpu h (vcpu_of vm vcpu) ≡ true
  pub at : (record_of x (vcpu_of vm vcpu)).stay ≡ stays.InMemory Entered kept
  pub done : MemoryHasDone x y (vcpu_of vm vcpu) kept now (Accesses csr op)
  pub majors : (other : Vcpu) → MajorsRest other (Accepted (GuestCsr vm vcpu csr op))

pub memory_changes : (x y : CoreState) (h : History) (vm vcpu : ℕ) (csr : Csr) (op : Op) (kept now : KeptNumbers)
    → IsMemoryAccess x y h vm vcpu csr op kept now → Changes x y h (Accepted (GuestCsr vm vcpu csr op))
memory_changes x y h vm vcpu csr op kept now c =
    let g = vcpu_of vm vcpu in
    let event = Accepted (GuestCsr vm vcpu csr op) in
    let rest = c.done.slot.rest in
    memory_deed x y h event g (InMemory Entered) kept now (Accesses csr op) (record {
      stands = c.stands;
      whole = c.whole;
      inside = c.there;
      quiet = quiet_line h (GuestCsr vm vcpu csr op) refl;
      rests = refl;
      home_was = ap home_in c.at;
      hand_was = ap hand_in c.at;
      home_is = ap home_in c.done.stay;
      hand_is = ap hand_in c.done.stay;
      plan = subst (PlanStands y.world g) (sym c.done.stay) tt;
      its_passes = subst (HasItsPasses (passes_of (event ∷ h)) g) (sym c.done.stay) tt;
      its_deed = cond-true _ _ _ (is_itself g);
      other_deeds = λ other ne. other_rests h vm vcpu csr op other ne;
      other_majors = λ other ne. c.majors other;
      threshold = c.done.threshold;
      slot_deed = c.done.slot_deed;
      slot = subst (λ (w : World). DoneInSlot x.world w (slot_of x.world.vms g) c.done.threshold c.done.slot_deed) rest c.done.slot;
      notifies = nothing_told x (but_memory x y) h event (ap (λ (w : World). with_memory w x.world) rest) c.done.selects refl (λ f. refl);
      leases = c.done.leases;
      passes = c.done.passes;
      records = c.done.records;
      select = c.done.select;
      majors = ap majors_shown c.done.majors ∙ sym (c.majors g (majors_shown (record_of x g).majors));
      others = c.done.others;
      file = c.done.file;
    })

-- ---- what each access does

-- its record alone is changed
pub memory_record_done : (x y : CoreState) (g : Vcpu) (kept now : KeptNumbers) (deed : FileDeed) → y.world ≡ x.world → y.leases ≡ x.leases
    → y.selects ≡ x.selects → y.passes ≡ x.passes → slot_of x.world.vms g < length x.vcpus
    → (after : VcpuRecord) → y.vcpus ≡ set x.vcpus (slot_of x.world.vms g) after → after.stay ≡ stays.InMemory Entered now
    → after.select ≡ select_after deed (record_of x g).select → after.majors ≡ (record_of x g).majors
    → SameFile (file_in_memory x.world (slot_of x.world.vms g) now)
    (file_after (record_of x g).select deed (file_in_memory x.world (slot_of x.world.vms g) kept)) → MemoryHasDone x y g kept now deed
memory_record_done x y g kept now deed world leases selects passes low after vcpus stay select majors file =
    let slot : (other : Vcpu) → slot_of y.world.vms other ≡ slot_of x.world.vms other = λ other. ap (λ (w : World). slot_of w.vms other) world in
    let own : record_of y g ≡ after = (λ k. get_or (vcpus k) (slot g k) no_record)
    ∙ get_or-set_same x.vcpus (slot_of x.world.vms g) _ no_record low in
    record {
      threshold = 0;
      slot_deed = λ file. file;
      slot = subst (λ (w : World). DoneInSlot x.world w (slot_of x.world.vms g) 0 (λ file. file)) (sym world)
          (record {
            done = as_it_was (file_of_slot x.world (slot_of x.world.vms g) 0);
            kept = λ i outside. (refl, refl);
            elsewhere =
                λ place apart. refl;
            rest = refl;
          });
      leases = leases;
      selects = selects;
      passes = passes;
      records = ap (λ (rs : List VcpuRecord). length rs) vcpus ∙ length-set x.vcpus (slot_of x.world.vms g) _;
      stay = ap (λ (r : VcpuRecord). r.stay) own ∙ stay;
      select = ap (λ (r : VcpuRecord). r.select) own ∙ select;
      majors = ap (λ (r : VcpuRecord). r.majors) own ∙ majors;
      others = λ other ne. (λ k. get_or (vcpus k) (slot other k) no_record)
          ∙ get_or-set_other x.vcpus (slot_of x.world.vms g) (slot_of x.world.vms other) _ no_record ne;
      file = subst (λ (w : World). SameFile (file_in_memory w (slot_of x.world.vms g) now)
          (file_after (record_of x g).select deed (file_in_memory x.world (slot_of x.world.vms g) kept))) (sym world) file;
    }

-- its slot alone is changed
pub memory_slot_done : (x y : CoreState) (g : Vcpu) (kept : KeptNumbers) (deed : FileDeed) (threshold : ℕ)
    (slot_deed : InterruptFile → InterruptFile) → DoneInSlot x.world y.world (slot_of x.world.vms g) threshold slot_deed → y.leases ≡ x.leases
    → y.vcpus ≡ x.vcpus → y.selects ≡ x.selects → y.passes ≡ x.passes
    → (record_of x g).stay ≡ stays.InMemory Entered kept → select_after deed (record_of x g).select ≡ (record_of x g).select
    → SameFile (file_in_memory y.world (slot_of x.world.vms g) kept)
    (file_after (record_of x g).select deed (file_in_memory x.world (slot_of x.world.vms g) kept)) → MemoryHasDone x y g kept kept deed
memory_slot_done x y g kept deed threshold slot_deed slot leases vcpus selects passes at select file =
    let same : (other : Vcpu) → record_of y other ≡ record_of x other = λ other k. get_or (vcpus k) (slot_of ((slot.rest k).vms) other) no_record in
    record {
      threshold = threshold;
      slot_deed = slot_deed;
      slot = slot;
      leases = leases;
      selects = selects;
      passes = passes;
      records = ap (λ (rs : List VcpuRecord). length rs) vcpus;
      stay = ap (λ (r : VcpuRecord). r.stay) (same g) ∙ at;
      select = ap (λ (r : VcpuRecord). r.select) (same g) ∙ sym select;
      majors = ap (λ (r : VcpuRecord). r.majors) (same g);
      others = λ other ne. same other;
      file = file;
    }

-- a register of the sets
pub sets_accessed : (w u : World) (q : ℕ) (kept : KeptNumbers) (reg : FileReg) (op : Op) → is_outside_sets reg ≡ false
    → DoneInSlot w u q 0 (accessed reg op) → SameFile (file_in_memory u q kept) (accessed reg op (file_in_memory w q kept))
sets_accessed w u q kept (Pending k) op sets d =
    record { n = d.done.n; pending = d.done.pending; enabled = d.done.enabled; threshold = refl; delivery = refl }
sets_accessed w u q kept (Enable k) op sets d =
    record { n = d.done.n; pending = d.done.pending; enabled = d.done.enabled; threshold = refl; delivery = refl }
sets_accessed w u q kept Delivery op sets d = absurd (cc)
sets_accessed w u q kept Threshold op sets d = absurd (cc)
sets_accessed w u q kept Reserved op sets d = absurd (cc)
sets_accessed w u q kept Odd op sets d = absurd (cc)
sets_accessed w u q kept Outside op sets d = absurd (cc)

pub sets_value : (w : World) (q : ℕ) (kept : KeptNumbers) (reg : FileReg) → is_outside_sets reg ≡ false
    → register_value (file_of_slot w q 0) reg ≡ register_value (file_in_memory w q kept) reg
sets_value w q kept (Pending k) sets = refl
sets_value w q kept (Enable k) sets = refl
sets_value w q kept Delivery sets = absurd (cc)
sets_value w q kept Threshold sets = absurd (cc)
sets_value w q kept Reserved sets = absurd (cc)
sets_value w q kept Odd sets = absurd (cc)
sets_value w q kept Outside sets = absurd (cc)

pub of_sets : (reg : FileReg) → IsUsable reg → is_outside_sets reg ≡ false → IsOfSets reg
of_sets (Pending k) usable sets = usable
of_sets (Enable k) usable sets = usable
of_sets Delivery usable sets = absurd (cc)
of_sets Threshold usable sets = absurd (cc)
of_sets Reserved usable sets = absurd (cc)
of_sets Odd usable sets = absurd (cc)
of_sets Outside usable sets = absurd (cc)

-- a register of the numbers
pub number_accessed : (w : World) (q modulus : ℕ) (kept : KeptNumbers) (reg : FileReg) (op : Op) → is_outside_sets reg ≡ true → modulus ≡ w.n + 1
    → SameFile (file_in_memory w q (kept_after modulus reg op kept)) (accessed reg op (file_in_memory w q kept))
number_accessed w q modulus kept Delivery op number all =
    record { n = refl; pending = λ i. refl; enabled = λ i. refl; threshold = refl; delivery = refl }
number_accessed w q modulus kept Threshold op number all =
    record {
      n = refl;
      pending = λ i. refl;
      enabled = λ i. refl;
      threshold = ap (λ m. number_after (λ v. v % m) op kept.threshold) all;
      delivery = refl;
    }
number_accessed w q modulus kept Reserved op number all =
    record { n = refl; pending = λ i. refl; enabled = λ i. refl; threshold = refl; delivery = refl }
number_accessed w q modulus kept Odd op number all = record { n = refl; pending = λ i. refl; enabled = λ i. refl; threshold = refl; delivery = refl }
number_accessed w q modulus kept Outside op number all =
    record { n = refl; pending = λ i. refl; enabled = λ i. refl; threshold = refl; delivery = refl }
number_accessed w q modulus kept (Pending k) op number all = absurd (cc)
number_accessed w q modulus kept (Enable k) op number all = absurd (cc)

pub number_value : (w : World) (q : ℕ) (kept : KeptNumbers) (reg : FileReg) → is_outside_sets reg ≡ true
    → kept_value kept reg ≡ register_value (file_in_memory w q kept) reg
number_value w q kept Delivery number = refl
number_value w q kept Threshold number = refl
number_value w q kept Reserved number = refl
number_value w q kept Odd number = refl
number_value w q kept Outside number = refl
number_value w q kept (Pending k) number = absurd (cc)
number_value w q kept (Enable k) number = absurd (cc)

-- the identity on top
pub top_accessed : (w u : World) (q : ℕ) (kept : KeptNumbers) (writes : Bool)
    → SameFile (file_of_slot u q kept.threshold) (cond writes (claimed (file_of_slot w q kept.threshold)) (file_of_slot w q kept.threshold))
    → SameFile (file_in_memory u q kept) (cond writes (claimed (file_in_memory w q kept)) (file_in_memory w q kept))
top_accessed w u q kept true d = record { n = d.n; pending = d.pending; enabled = d.enabled; threshold = d.threshold; delivery = refl }
top_accessed w u q kept false d = record { n = d.n; pending = d.pending; enabled = d.enabled; threshold = d.threshold; delivery = refl }

-- ---- what the core promises of it

file_csr : (csr : Csr) → IsFileCsr csr → is_file_csr csr ≡ true
file_csr csrs.Select of_file = refl
file_csr csrs.Reg of_file = refl
file_csr csrs.Topei of_file = refl
file_csr csr of_file = absurd of_file

served_there : (x : CoreState) (h : History) (g : Vcpu) (kept : KeptNumbers) (csr : Csr) → CoreStands x h → has_vcpu h g ≡ true
    → (record_of x g).stay ≡ stays.InMemory Entered kept → IsFileCsr csr → serves (home h g) csr ≡ true
served_there x h g kept csr stands there at of_file = ap (λ t. serves t csr) (sym (stands.vcpus g there).same_home ∙ ap home_in at)
    ∙ file_csr csr of_file

pub memory_accessed : (x y : CoreState) (vm vcpu : ℕ) (csr kind : Csr) (op : Op) (kept now : KeptNumbers) (access : CsrAccess) (value : ℕ)
    → IsWhole x.world → is_vcpu_in x.world.vms (vcpu_of vm vcpu) ≡ true → (record_of x (vcpu_of vm vcpu)).stay ≡ stays.InMemory Entered kept
    → access ≡ access_by (record_of x (vcpu_of vm vcpu)) csr op → raises_illegal access ≡ false → raises_virtual access ≡ false → csr ≡ kind
    → value ≡ csr_shown (record_of x (vcpu_of vm vcpu)).select (file_in_memory x.world (slot_of x.world.vms (vcpu_of vm vcpu)) kept) kind
    → MemoryHasDone x y (vcpu_of vm vcpu) kept now (Accesses kind op) → IsFileCsr kind → CoreTakes x y (GuestCsr vm vcpu csr op) (Wide value)
memory_accessed x y vm vcpu csr kind op kept now access value whole inside at table legal allowed named read done of_file =
    let g = vcpu_of vm vcpu in
    let listed = subst (λ (k : Csr). IsFileCsr k) (sym named) of_file in
    accepted x y (GuestCsr vm vcpu csr op) (Wide value) refl refl (λ h stands.
    let there = there_in x h g stands inside in
    let at_home : home h g ≡ InMemory Entered = sym (stands.vcpus g there).same_home ∙ ap home_in at in (
      refusal_served x h vm vcpu csr op access stands there (served_there x h g kept csr stands there at listed) table ∙ cond-false _ _ _ legal
          ∙ cond-false _ _ _ allowed,
      ap Wide (read ∙ ap (λ (k : Csr). csr_shown (record_of x g).select (file_in_memory x.world (slot_of x.world.vms g) kept) k) (sym named)
          ∙ (λ k. csr_shown ((stands.vcpus g there).select k)
          (sym (file_is x h g kept stands whole there (ap rests_in_memory at_home) (ap hand_in at)) k) csr)
          ∙ file_read h g csr listed),
      memory_changes x y h vm vcpu csr op kept now
          (record {
            stands = stands;
            whole = whole;
            there = there;
            at = at;
            done =
                subst (λ (k : Csr). MemoryHasDone x y g kept now (Accesses k op)) (sym named) done;
            majors =
                λ other. file_access vm vcpu csr op other listed;
          }),
    ))

pub memory_virtual : (x : CoreState) (vm vcpu : ℕ) (csr : Csr) (op : Op) (kept : KeptNumbers) → is_vcpu_in x.world.vms (vcpu_of vm vcpu) ≡ true
    → (record_of x (vcpu_of vm vcpu)).stay ≡ stays.InMemory Entered kept → IsFileCsr csr
    → reaches.Virtual ≡ access_by (record_of x (vcpu_of vm vcpu)) csr op → CoreTakes x x (GuestCsr vm vcpu csr op) (Refused Virtual)
memory_virtual x vm vcpu csr op kept inside at listed table = refused x (GuestCsr vm vcpu csr op) (Refused Virtual) (λ h stands.
    let there = there_in x h (vcpu_of vm vcpu) stands inside in
    refusal_served x h vm vcpu csr op reaches.Virtual stands there (served_there x h (vcpu_of vm vcpu) kept csr stands there at listed) table)
