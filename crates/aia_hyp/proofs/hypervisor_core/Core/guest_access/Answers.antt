use Rattle.std.proofs.Common.{◌≡◌, get_or, set, true, false, refl, sym, ap, subst, ◌∙◌, Some, arith}
use Rattle.aia_regs.specs.declared.access.Csr.TheVariants as csrs
use Rattle.aia_regs.specs.declared.access.Csr.{Csr}
use Rattle.aia_regs.specs.declared.file_registers.FileReg.{FileReg}
use Rattle.aia_regs.specs.FileRegisters.{select_written}
use Rattle.aia_csr.specs.declared.csr_access.CsrAccess.TheVariants as reaches
use Rattle.aia_file.specs.InterruptFile.{SameFile, register_value, top_of, accessed, signals}
use Rattle.aia_file.specs.FileState.{FileState, shown}
use Rattle.aia_file.specs.declared.spot.Spot.{Spot}
use Rattle.aia_file.specs.Imsic.{IsThere, file_at, with_file}
use Rattle.aia_vcpu.specs.declared.place.GuestPlace.{GuestPlace}
use Rattle.aia_vcpu.specs.Vms.{Vcpu, vcpu_of, is_vcpu_in}
use Rattle.aia_fabric_values.specs.Whole.{IsWhole}
use Rattle.aia_fabric_values.specs.Changes.{spot_of}
use Rattle.aia_model.specs.declared.answer.Answer.TheVariants.{Wide}
use Rattle.aia_model.specs.declared.line.Line.TheVariants.{GuestCsr}
use Rattle.aia_word.specs.Top.{top_value}
use Rattle.aia_regs.specs.Operations.{is_writing}
use Rattle.aia_major.specs.VsMajor.{with_sip, with_sie, stopi_value, sip_value, sie_value}
use Rattle.aia_major.specs.Kept.{majors_shown}
use Rattle.aia_model.specs.Event.Event.{Accepted}
use Rattle.aia_model.specs.Answer.{guest_csr_value}
use Rattle.aia_model.specs.FileAfter.{file_after}
use Rattle.aia_model.specs.FileAfter.FileDeed.{Accesses}
use Rattle.aia_hyp_values.specs.Core.{CoreState, no_record, record_of, resident_at, MajorsDone}
use Rattle.aia_hyp_values.specs.Stands.{StandsForSome, CoreTakes}
use Rattle.aia_hyp_values.proofs.EventLemmas.{still}
use Rattle.aia_hyp_values.proofs.GuestLookups.{reached, names, slot_is, slot_low}
use Rattle.aia_hyp_values.proofs.GuestAccesses.{file_there, guest_select_done, guest_file_done, guest_accessed, guest_virtual, guest_illegal}
use Rattle.aia_hyp_values.proofs.MajorLemmas.{IsOfMajors, accesses_sip, accesses_sie, accesses_topi, majors_accessed, majors_stay, stopi_read, sip_read, sie_read}
use Rattle.aia_hyp.proofs.hypervisor_core.Core.guest_access.Goals.{After-access_select_in, After-reg, After-claim_or_read, After-stopi_in, After-access_sip_in, After-access_sie_in}
use Rattle.aia_hyp.proofs.hypervisor_core.Core.guest_access.Goals as goal

-- what the call was asked, of the core before it
record IsAsked (x : CoreState) (g : Vcpu) (p : GuestPlace) : Type 0 where
  there : is_vcpu_in x.world.vms g ≡ true
  whole : IsWhole x.world
  at : resident_at (record_of x g).stay ≡ Some p

asked : (x y : CoreState) (g : Vcpu) (p : GuestPlace) → x ≡ y → IsAsked y g p → IsAsked x g p
asked x y g p e a = subst (λ (z : CoreState). IsAsked z g p) (sym e) a

select_taken : (c : After-access_select_in) → CoreTakes
    (record {
      world = c.self.inside.fabric;
      leases = c.self.inside.pool;
      vcpus = c.self.inside.vcpus.items;
      selects = c.self.inside.selects;
      passes = c.self.inside.passes;
    }) (record {
      world = c.self.inside.fabric;
      leases = c.self.inside.pool;
      vcpus =
          c.access_select_in.new.vcpus.items;
      selects = c.self.inside.selects;
      passes = c.self.inside.passes;
    })
    (GuestCsr c.args.found.vm c.args.found.vcpu c.args.csr c.args.op) (Wide c.access_select_in.result)
select_taken c =
    let x : CoreState = record {
      world = c.self.inside.fabric;
      leases = c.self.inside.pool;
      vcpus = c.self.inside.vcpus.items;
      selects =
          c.self.inside.selects;
      passes = c.self.inside.passes;
    } in
    let y : CoreState = record {
      world = c.self.inside.fabric;
      leases = c.self.inside.pool;
      vcpus = c.access_select_in.new.vcpus.items;
      selects =
          c.self.inside.selects;
      passes = c.self.inside.passes;
    } in
    let g = vcpu_of c.args.found.vm c.args.found.vcpu in
    let a = asked x c.args.self.now g c.args.place c.self.view_is
    (record { there = c.requires.found.there; whole = c.requires.whole; at = c.requires.resident }) in
    let table = reached x c.args.self.now g reaches.Select c.guest_reached.result c.args.csr c.args.op c.self.view_is c.in-Select.is
    c.guest_reached.ensures.table in
    let slot = slot_is x c.args.self.now c.args.found c.self.view_is c.requires.found in
    let low = slot_low x c.args.self.now c.args.found c.self.view_is c.self.invariant c.requires.found in
    let named = names x g reaches.Select c.args.csr c.args.op table in
    guest_accessed x y c.args.found.vm c.args.found.vcpu c.args.csr csrs.Select c.args.op c.args.place reaches.Select c.access_select_in.result
    a.whole a.there a.at table refl refl named
    (c.access_select_in.ensures.value ∙ ap (λ q. (get_or x.vcpus q no_record).select) slot)
    (guest_select_done x y g c.args.place c.args.op refl refl refl refl low
    (subst (λ q. y.vcpus ≡ set x.vcpus q (record (get_or x.vcpus q no_record)
    { select = select_written c.args.op (get_or x.vcpus q no_record).select })) slot c.access_select_in.ensures.after)) tt

file_taken : (c : After-reg) → CoreTakes (record {
  world = c.self.inside.fabric;
  leases = c.self.inside.pool;
  vcpus = c.self.inside.vcpus.items;
  selects = c.self.inside.selects;
  passes =
      c.self.inside.passes;
}) (record {
  world = c.reg.new.self;
  leases = c.self.inside.pool;
  vcpus = c.self.inside.vcpus.items;
  selects =
      c.self.inside.selects;
  passes = c.self.inside.passes;
}) (GuestCsr c.args.found.vm c.args.found.vcpu c.args.csr c.args.op) (Wide c.reg.result)
file_taken c =
    let spot = c.file_spot-spot.ensures in
    let x : CoreState = record {
      world = c.self.inside.fabric;
      leases = c.self.inside.pool;
      vcpus = c.self.inside.vcpus.items;
      selects =
          c.self.inside.selects;
      passes = c.self.inside.passes;
    } in
    let y : CoreState = record {
      world = c.reg.new.self;
      leases = c.self.inside.pool;
      vcpus = c.self.inside.vcpus.items;
      selects =
          c.self.inside.selects;
      passes = c.self.inside.passes;
    } in
    let g = vcpu_of c.args.found.vm c.args.found.vcpu in
    let a = asked x c.args.self.now g c.args.place c.self.view_is
    (record { there = c.requires.found.there; whole = c.requires.whole; at = c.requires.resident }) in
    let table = reached x c.args.self.now g (reaches.File c.in-File.reg) c.guest_reached.result c.args.csr c.args.op c.self.view_is c.in-File.is
    c.guest_reached.ensures.table in
    let named = names x g (reaches.File c.in-File.reg) c.args.csr c.args.op table in
    let there = file_there x g c.args.place c.self.invariant a.there a.at in
    guest_accessed x y c.args.found.vm c.args.found.vcpu c.args.csr csrs.Reg c.args.op c.args.place (reaches.File c.in-File.reg) c.reg.result
    a.whole a.there a.at table refl refl named.0
    (subst (λ (s : Spot). c.reg.result ≡ register_value (shown (file_at x.world.imsic s)) c.in-File.reg) spot c.reg.ensures.value
    ∙ ap (register_value (shown (file_at x.world.imsic (spot_of c.args.place)))) (sym named.1))
    (guest_file_done x y g c.args.place (Accesses csrs.Reg c.args.op) there
    (subst (λ (s : Spot). y.world ≡ record x.world { imsic = with_file x.world.imsic s (file_at y.world.imsic s) }) spot c.reg.ensures.others)
    refl refl refl refl
    (subst (λ (r : FileReg). SameFile (shown (file_at y.world.imsic (spot_of c.args.place)))
    (accessed r c.args.op (shown (file_at x.world.imsic (spot_of c.args.place))))) (sym named.1)
    (subst (λ (s : Spot). SameFile (shown (file_at y.world.imsic s)) (accessed c.in-File.reg c.args.op (shown (file_at x.world.imsic s)))) spot
    c.reg.ensures.lands)) refl) tt

top_taken : (c : After-claim_or_read) → CoreTakes
    (record {
      world = c.self.inside.fabric;
      leases = c.self.inside.pool;
      vcpus = c.self.inside.vcpus.items;
      selects = c.self.inside.selects;
      passes = c.self.inside.passes;
    }) (record {
      world = c.claim_or_read.new.fabric;
      leases = c.self.inside.pool;
      vcpus = c.self.inside.vcpus.items;
      selects = c.self.inside.selects;
      passes = c.self.inside.passes;
    }) (GuestCsr c.args.found.vm c.args.found.vcpu c.args.csr c.args.op)
    (Wide c.claim_or_read.result)
top_taken c =
    let spot = c.file_spot-spot.ensures in
    let x : CoreState = record {
      world = c.self.inside.fabric;
      leases = c.self.inside.pool;
      vcpus = c.self.inside.vcpus.items;
      selects =
          c.self.inside.selects;
      passes = c.self.inside.passes;
    } in
    let y : CoreState = record {
      world = c.claim_or_read.new.fabric;
      leases = c.self.inside.pool;
      vcpus = c.self.inside.vcpus.items;
      selects =
          c.self.inside.selects;
      passes = c.self.inside.passes;
    } in
    let g = vcpu_of c.args.found.vm c.args.found.vcpu in
    let a = asked x c.args.self.now g c.args.place c.self.view_is
    (record { there = c.requires.found.there; whole = c.requires.whole; at = c.requires.resident }) in
    let table = reached x c.args.self.now g reaches.Top c.guest_reached.result c.args.csr c.args.op c.self.view_is c.in-Top.is
    c.guest_reached.ensures.table in
    let named = names x g reaches.Top c.args.csr c.args.op table in
    let there = file_there x g c.args.place c.self.invariant a.there a.at in
    guest_accessed x y c.args.found.vm c.args.found.vcpu c.args.csr csrs.Topei c.args.op c.args.place reaches.Top c.claim_or_read.result a.whole
    a.there a.at table refl refl named
    (subst (λ (s : Spot). c.claim_or_read.result ≡ top_value (top_of (shown (file_at x.world.imsic s)))) spot c.claim_or_read.ensures.value)
    (guest_file_done x y g c.args.place (Accesses csrs.Topei c.args.op) there
    (subst (λ (s : Spot). y.world ≡ record x.world { imsic = with_file x.world.imsic s (file_at y.world.imsic s) }) spot
    c.claim_or_read.ensures.others) refl refl refl refl
    (subst (λ (s : Spot). SameFile (shown (file_at y.world.imsic s))
    (file_after 0 (Accesses csrs.Topei c.args.op) (shown (file_at x.world.imsic s)))) spot c.claim_or_read.ensures.done) refl) tt

sip_taken : (c : After-access_sip_in) → CoreTakes
    (record {
      world = c.self.inside.fabric;
      leases = c.self.inside.pool;
      vcpus = c.self.inside.vcpus.items;
      selects = c.self.inside.selects;
      passes = c.self.inside.passes;
    }) (record {
      world = c.self.inside.fabric;
      leases = c.self.inside.pool;
      vcpus = c.access_sip_in.new.vcpus.items;
      selects = c.self.inside.selects;
      passes = c.self.inside.passes;
    }) (GuestCsr c.args.found.vm c.args.found.vcpu c.args.csr c.args.op)
    (Wide c.access_sip_in.result)
sip_taken c =
    let x : CoreState = record {
      world = c.self.inside.fabric;
      leases = c.self.inside.pool;
      vcpus = c.self.inside.vcpus.items;
      selects =
          c.self.inside.selects;
      passes = c.self.inside.passes;
    } in
    let y : CoreState = record {
      world = c.self.inside.fabric;
      leases = c.self.inside.pool;
      vcpus = c.access_sip_in.new.vcpus.items;
      selects =
          c.self.inside.selects;
      passes = c.self.inside.passes;
    } in
    let g = vcpu_of c.args.found.vm c.args.found.vcpu in
    let a = asked x c.args.self.now g c.args.place c.self.view_is
    (record { there = c.requires.found.there; whole = c.requires.whole; at = c.requires.resident }) in
    let table = reached x c.args.self.now g reaches.Sip c.guest_reached.result c.args.csr c.args.op c.self.view_is c.in-Sip.is
    c.guest_reached.ensures.table in
    let named : c.args.csr ≡ csrs.Sip = names x g reaches.Sip c.args.csr c.args.op table in
    let slot = slot_is x c.args.self.now c.args.found c.self.view_is c.requires.found in
    let low = slot_low x c.args.self.now c.args.found c.self.view_is c.self.invariant c.requires.found in
    let signal : c.signal-signal.result ≡ signals (shown (file_at x.world.imsic (spot_of c.args.place))) =
    c.signal-signal.ensures ∙ ap (λ (f : FileState). signals (shown f)) c.file-in-Sip.ensures
    ∙ ap (λ (s : Spot). signals (shown (file_at x.world.imsic s))) c.file_spot-spot.ensures in
    majors_accessed x y c.args.found.vm c.args.found.vcpu c.args.csr c.args.op c.args.place reaches.Sip c.access_sip_in.result
    (with_sip c.args.op) a.there a.at table refl refl
    (λ h. subst (λ (k : Csr). IsOfMajors h (Accepted (GuestCsr c.args.found.vm c.args.found.vcpu k c.args.op)) g (with_sip c.args.op))
    (sym named) (accesses_sip h c.args.found.vm c.args.found.vcpu c.args.op))
    (λ h stands there. c.access_sip_in.ensures.value ∙ (λ k. sip_value (majors_shown (get_or x.vcpus (slot k) no_record).majors) (signal k))
    ∙ sip_read x g c.args.place a.whole a.at h stands there ∙ ap (guest_csr_value h g) (sym named))
    (record {
      world = refl;
      leases = refl;
      selects = refl;
      passes = refl;
      low = low;
      is_done =
          subst (λ q. MajorsDone x.vcpus y.vcpus q (with_sip c.args.op)) slot c.access_sip_in.ensures.done;
    })

sie_taken : (c : After-access_sie_in) → CoreTakes
    (record {
      world = c.self.inside.fabric;
      leases = c.self.inside.pool;
      vcpus = c.self.inside.vcpus.items;
      selects = c.self.inside.selects;
      passes = c.self.inside.passes;
    }) (record {
      world = c.self.inside.fabric;
      leases = c.self.inside.pool;
      vcpus = c.access_sie_in.new.vcpus.items;
      selects = c.self.inside.selects;
      passes = c.self.inside.passes;
    }) (GuestCsr c.args.found.vm c.args.found.vcpu c.args.csr c.args.op)
    (Wide c.access_sie_in.result)
sie_taken c =
    let x : CoreState = record {
      world = c.self.inside.fabric;
      leases = c.self.inside.pool;
      vcpus = c.self.inside.vcpus.items;
      selects =
          c.self.inside.selects;
      passes = c.self.inside.passes;
    } in
    let y : CoreState = record {
      world = c.self.inside.fabric;
      leases = c.self.inside.pool;
      vcpus = c.access_sie_in.new.vcpus.items;
      selects =
          c.self.inside.selects;
      passes = c.self.inside.passes;
    } in
    let g = vcpu_of c.args.found.vm c.args.found.vcpu in
    let a = asked x c.args.self.now g c.args.place c.self.view_is
    (record { there = c.requires.found.there; whole = c.requires.whole; at = c.requires.resident }) in
    let table = reached x c.args.self.now g reaches.Sie c.guest_reached.result c.args.csr c.args.op c.self.view_is c.in-Sie.is
    c.guest_reached.ensures.table in
    let named : c.args.csr ≡ csrs.Sie = names x g reaches.Sie c.args.csr c.args.op table in
    let slot = slot_is x c.args.self.now c.args.found c.self.view_is c.requires.found in
    let low = slot_low x c.args.self.now c.args.found c.self.view_is c.self.invariant c.requires.found in
    majors_accessed x y c.args.found.vm c.args.found.vcpu c.args.csr c.args.op c.args.place reaches.Sie c.access_sie_in.result
    (with_sie c.args.op) a.there a.at table refl refl
    (λ h. subst (λ (k : Csr). IsOfMajors h (Accepted (GuestCsr c.args.found.vm c.args.found.vcpu k c.args.op)) g (with_sie c.args.op))
    (sym named) (accesses_sie h c.args.found.vm c.args.found.vcpu c.args.op))
    (λ h stands there. c.access_sie_in.ensures.value ∙ (λ k. sie_value (majors_shown (get_or x.vcpus (slot k) no_record).majors))
    ∙ sie_read x g c.args.place a.whole a.at h stands there ∙ ap (guest_csr_value h g) (sym named))
    (record {
      world = refl;
      leases = refl;
      selects = refl;
      passes = refl;
      low = low;
      is_done =
          subst (λ q. MajorsDone x.vcpus y.vcpus q (with_sie c.args.op)) slot c.access_sie_in.ensures.done;
    })

topi_taken : (c : After-stopi_in) → CoreTakes (record {
  world = c.self.inside.fabric;
  leases = c.self.inside.pool;
  vcpus = c.self.inside.vcpus.items;
  selects = c.self.inside.selects;
  passes =
      c.self.inside.passes;
}) (record {
  world = c.self.inside.fabric;
  leases = c.self.inside.pool;
  vcpus = c.self.inside.vcpus.items;
  selects =
      c.self.inside.selects;
  passes = c.self.inside.passes;
}) (GuestCsr c.args.found.vm c.args.found.vcpu c.args.csr c.args.op)
    (Wide c.stopi_in.result)
topi_taken c =
    let x : CoreState = record {
      world = c.self.inside.fabric;
      leases = c.self.inside.pool;
      vcpus = c.self.inside.vcpus.items;
      selects =
          c.self.inside.selects;
      passes = c.self.inside.passes;
    } in
    let g = vcpu_of c.args.found.vm c.args.found.vcpu in
    let a = asked x c.args.self.now g c.args.place c.self.view_is
    (record { there = c.requires.found.there; whole = c.requires.whole; at = c.requires.resident }) in
    let table = reached x c.args.self.now g reaches.Topi c.guest_reached.result c.args.csr c.args.op c.self.view_is c.in-Topi.is
    c.guest_reached.ensures.table in
    let named : (c.args.csr ≡ csrs.Topi) × (is_writing c.args.op ≡ false) = names x g reaches.Topi c.args.csr c.args.op table in
    let slot = slot_is x c.args.self.now c.args.found c.self.view_is c.requires.found in
    let low = slot_low x c.args.self.now c.args.found c.self.view_is c.self.invariant c.requires.found in
    let file : shown c.file.result.now ≡ shown (file_at x.world.imsic (spot_of c.args.place)) = ap shown c.file.ensures
    ∙ ap (λ (s : Spot). shown (file_at x.world.imsic s)) c.file_spot-spot.ensures in
    majors_accessed x x c.args.found.vm c.args.found.vcpu c.args.csr c.args.op c.args.place reaches.Topi c.stopi_in.result (λ m. m) a.there a.at
    table refl refl
    (λ h. subst (λ (k : Csr). IsOfMajors h (Accepted (GuestCsr c.args.found.vm c.args.found.vcpu k c.args.op)) g (λ m. m)) (sym named.0)
    (accesses_topi h c.args.found.vm c.args.found.vcpu c.args.op))
    (λ h stands there. c.stopi_in.ensures ∙ (λ k. stopi_value (majors_shown (get_or (c.deref.ensures.0 k) (slot k) no_record).majors)
    (top_value (top_of (file k))) (signals (file k))) ∙ stopi_read x g c.args.place a.whole a.at h stands there
    ∙ ap (guest_csr_value h g) (sym named.0))
    (majors_stay x g low)

file_is_there : (x y : CoreState) (g : Vcpu) (p : GuestPlace) (spot : Spot) → x ≡ y → StandsForSome x → IsAsked y g p → spot ≡ spot_of p
    → IsThere x.world.imsic spot
file_is_there x y g p spot e some a at = let b = asked x y g p e a in
    subst (λ (s : Spot). IsThere x.world.imsic s) (sym at) (file_there x g p some b.there b.at)

pub file-requires : goal.file-requires
file-requires c = file_is_there _ c.args.self.now (vcpu_of c.args.found.vm c.args.found.vcpu) c.args.place _ c.self.view_is c.self.invariant
    (record { there = c.requires.found.there; whole = c.requires.whole; at = c.requires.resident }) c.file_spot-spot.ensures

pub file-requires-in-Sip : goal.file-requires-in-Sip
file-requires-in-Sip c = file_is_there _ c.args.self.now (vcpu_of c.args.found.vm c.args.found.vcpu) c.args.place _ c.self.view_is
    c.self.invariant (record { there = c.requires.found.there; whole = c.requires.whole; at = c.requires.resident }) c.file_spot-spot.ensures

pub invariant_of-self-in-Sip : goal.invariant_of-self-in-Sip
invariant_of-self-in-Sip c = still _ _ _ _ (sip_taken c) c.self.invariant

pub invariant_of-self-in-Sie : goal.invariant_of-self-in-Sie
invariant_of-self-in-Sie c = still _ _ _ _ (sie_taken c) c.self.invariant

pub returns-in-Topi : goal.returns-in-Topi
returns-in-Topi c = rw (← c.self.view_is) (topi_taken c)

pub returns-in-Sip : goal.returns-in-Sip
returns-in-Sip c = rw (← c.self.view_is) (sip_taken c)

pub returns-in-Sie : goal.returns-in-Sie
returns-in-Sie c = rw (← c.self.view_is) (sie_taken c)

pub returns-in-Illegal : goal.returns-in-Illegal
returns-in-Illegal c = guest_illegal c.args.self.now c.args.found.vm c.args.found.vcpu c.args.csr c.args.op c.args.place c.requires.found.there
    c.requires.resident (sym c.in-Illegal.is ∙ c.guest_reached.ensures.table)

pub invariant_of-self : goal.invariant_of-self
invariant_of-self c = still _ _ _ _ (select_taken c) c.self.invariant

pub reg-requires-clause-there : goal.reg-requires-clause-there
reg-requires-clause-there c =
    let x : CoreState = record {
      world = c.self.inside.fabric;
      leases = c.self.inside.pool;
      vcpus = c.self.inside.vcpus.items;
      selects =
          c.self.inside.selects;
      passes = c.self.inside.passes;
    } in
    let a = asked x c.args.self.now (vcpu_of c.args.found.vm c.args.found.vcpu) c.args.place c.self.view_is
    (record { there = c.requires.found.there; whole = c.requires.whole; at = c.requires.resident }) in
    subst (λ (s : Spot). IsThere x.world.imsic s) (sym c.file_spot-spot.ensures)
    (file_there x (vcpu_of c.args.found.vm c.args.found.vcpu) c.args.place c.self.invariant a.there a.at)

pub invariant_of-self-in-File : goal.invariant_of-self-in-File
invariant_of-self-in-File c = still _ _ _ _ (file_taken c) c.self.invariant

pub claim_or_read-requires : goal.claim_or_read-requires
claim_or_read-requires c =
    let x : CoreState = record {
      world = c.self.inside.fabric;
      leases = c.self.inside.pool;
      vcpus = c.self.inside.vcpus.items;
      selects =
          c.self.inside.selects;
      passes = c.self.inside.passes;
    } in
    let a = asked x c.args.self.now (vcpu_of c.args.found.vm c.args.found.vcpu) c.args.place c.self.view_is
    (record { there = c.requires.found.there; whole = c.requires.whole; at = c.requires.resident }) in
    subst (λ (s : Spot). IsThere x.world.imsic s) (sym c.file_spot-spot.ensures)
    (file_there x (vcpu_of c.args.found.vm c.args.found.vcpu) c.args.place c.self.invariant a.there a.at)

pub invariant_of-self-in-Top : goal.invariant_of-self-in-Top
invariant_of-self-in-Top c = still _ _ _ _ (top_taken c) c.self.invariant

pub returns-in-Select : goal.returns-in-Select
returns-in-Select c = rw (← c.self.view_is) (select_taken c)

pub returns-in-File : goal.returns-in-File
returns-in-File c = rw (← c.self.view_is) (file_taken c)

pub returns-in-Top : goal.returns-in-Top
returns-in-Top c = rw (← c.self.view_is) (top_taken c)

pub returns-in-Virtual : goal.returns-in-Virtual
returns-in-Virtual c = guest_virtual c.args.self.now c.args.found.vm c.args.found.vcpu c.args.csr c.args.op c.args.place c.requires.found.there
    c.requires.resident (sym c.in-Virtual.is ∙ c.guest_reached.ensures.table)
