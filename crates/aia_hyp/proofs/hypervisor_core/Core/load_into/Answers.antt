use Rattle.std.proofs.Common.{◌≡◌, ◌+◌, ◌<◌, Bool, true, false, length, refl, sym, ap, subst, ◌∙◌, arith}
use Rattle.aia_regs.specs.Fields.{bit_number}
use Rattle.aia_regs.specs.FileRegisters.{select_written}
use Rattle.aia_regs.specs.declared.access.Op.TheVariants as ops
use Rattle.aia_file.specs.declared.spot.Spot.TheVariants as spots
use Rattle.aia_vcpu.specs.Vms.{vcpu_of, is_vcpu_in, vcpus_in, slot_of, notice_hart}
use Rattle.aia_fabric_values.specs.World.{World}
use Rattle.aia_fabric_values.specs.Stores.{Posts}
use Rattle.aia_fabric_values.specs.SlotAccess.{DoneInSlot}
use Rattle.aia_fabric_values.specs.Whole.{IsWhole}
use Rattle.aia_file.specs.InterruptFile.{is_live}
use Rattle.aia_fabric_values.specs.SlotAccess.{file_of_slot}
use Rattle.aia_model.specs.declared.answer.Answer.TheVariants.{Okay}
use Rattle.aia_model.specs.declared.line.Line.TheVariants.{LoadPart}
use Rattle.aia_model.specs.declared.part.Part.{Part}
use Rattle.aia_model.specs.declared.part.Part.TheVariants as parts
use Rattle.aia_model.specs.Image.{is_loadable, majors_loaded}
use Rattle.aia_move_values.specs.declared.who.KeptNumbers.{KeptNumbers}
use Rattle.aia_fabric_values.specs.declared.found.Found.{Found}
use Rattle.aia_vcpu.specs.declared.rest.Rest.TheVariants.{Parked}
use Rattle.aia_hyp_values.specs.declared.vcpu.Stay.TheVariants as stays
use Rattle.std.specs.Prelude.{slice_index_or, slice_set}
use Rattle.aia_hyp_values.specs.Core.{CoreState, no_record, record_of, MajorsDone}
use Rattle.aia_hyp_values.specs.Loads.{sets_loaded}
use Rattle.aia_fabric_values.specs.Found.{IsFound}
use Rattle.aia_hyp_values.specs.Stands.{CoreTakes}
use Rattle.aia_hyp_values.proofs.EventLemmas.{still}
use Rattle.aia_hyp_values.proofs.MoveCalls.{who_low}
use Rattle.aia_hyp_values.proofs.ImageLines.{IsLoad, found_below, found_few, majors_are_loaded, registers_are_loaded, numbers_are_loaded, word_told, word_untold}
use Rattle.aia_hyp.proofs.hypervisor_core.Core.load_into.Goals.{After-load_numbers_in, After-load_majors_in, After-load_registers_in, After-notice, Else-is_live}
use Rattle.aia_hyp.proofs.hypervisor_core.Core.load_into.Goals as goal

-- what is known before the load
module _ (x z : CoreState) (found : Found) (kept : KeptNumbers) (part : Part) (view : x ≡ z) (is_found : IsFound z.world found)
    (is_whole : IsWhole z.world) (parked : (record_of z (vcpu_of found.vm found.vcpu)).stay ≡ stays.InMemory Parked kept)
    (loadable : is_loadable z.world.n part ≡ true) where
  is_of : IsFound x.world found
  is_of = subst (λ (s : CoreState). IsFound s.world found) (sym view) is_found

  load_of : (y : CoreState) (made : Part) → part ≡ made → y.leases ≡ x.leases → y.selects ≡ x.selects → y.passes ≡ x.passes
      → IsLoad x y found.vm found.vcpu kept made
  load_of y made is leases selects passes = record {
    inside = is_of.there;
    whole = subst (λ (s : CoreState). IsWhole s.world) (sym view) is_whole;
    at = subst (λ (s : CoreState). (record_of s (vcpu_of found.vm found.vcpu)).stay ≡ stays.InMemory Parked kept) (sym view) parked;
    good = subst (λ (p : Part). is_loadable x.world.n p ≡ true) is (subst (λ (s : CoreState). is_loadable s.world.n part ≡ true) (sym view) loadable);
    leases = leases;
    selects = selects;
    passes = passes;
  }

numbers : (c : After-load_numbers_in) → CoreTakes
    (record {
      world = c.self.inside.fabric;
      leases = c.self.inside.pool;
      vcpus = c.self.inside.vcpus.items;
      selects = c.self.inside.selects;
      passes = c.self.inside.passes;
    }) (record {
      world = c.self.inside.fabric;
      leases = c.self.inside.pool;
      vcpus =
          c.load_numbers_in.new.vcpus.items;
      selects = c.self.inside.selects;
      passes = c.self.inside.passes;
    })
    (LoadPart c.args.found.vm c.args.found.vcpu c.args.part) Okay
numbers c =
    let x : CoreState = record {
      world = c.self.inside.fabric;
      leases = c.self.inside.pool;
      vcpus = c.self.inside.vcpus.items;
      selects =
          c.self.inside.selects;
      passes = c.self.inside.passes;
    } in
    let y : CoreState = record {
      world = c.self.inside.fabric;
      leases = c.self.inside.pool;
      vcpus = c.load_numbers_in.new.vcpus.items;
      selects =
          c.self.inside.selects;
      passes = c.self.inside.passes;
    } in
    let found = c.args.found in
    let i = c.in-Image in
    let r = c.requires in
    let now : KeptNumbers = record { delivery = c.from.result; threshold = c.from-in-Image.result } in
    let is = is_of x c.args.self.now found c.args.kept c.args.part c.self.view_is r.found r.whole r.parked r.loadable in
    let low = who_low x found c.self.invariant is in
    subst (λ (p : Part). CoreTakes x y (LoadPart found.vm found.vcpu p) Okay) (sym i.is)
    (numbers_are_loaded x y found.vm found.vcpu c.args.kept now i.version i.n i.threshold i.select i.delivery (record {
      load = load_of x c.args.self.now found c.args.kept c.args.part c.self.view_is r.found r.whole r.parked r.loadable y _ i.is refl refl refl;
      world = refl;
      low = subst (λ q. q < length x.vcpus) is.slot low;
      vcpus = subst (λ q. y.vcpus ≡ slice_set x.vcpus q
          (record (slice_index_or x.vcpus q no_record) {
            stay = stays.InMemory Parked now;
            select =
                select_written (ops.Write i.select) (slice_index_or x.vcpus q no_record).select;
          })) is.slot c.load_numbers_in.ensures.after;
      is_delivery = c.from.ensures ∙ a_bit i.delivery;
      is_threshold = c.from-in-Image.ensures;
    }))
  where
    a_bit : (b : Bool) → mir.Val.bool_byte b ≡ bit_number b
    a_bit true = refl
    a_bit false = refl

majors : (c : After-load_majors_in) → CoreTakes
    (record {
      world = c.self.inside.fabric;
      leases = c.self.inside.pool;
      vcpus = c.self.inside.vcpus.items;
      selects = c.self.inside.selects;
      passes = c.self.inside.passes;
    }) (record {
      world = c.self.inside.fabric;
      leases = c.self.inside.pool;
      vcpus =
          c.load_majors_in.new.vcpus.items;
      selects = c.self.inside.selects;
      passes = c.self.inside.passes;
    })
    (LoadPart c.args.found.vm c.args.found.vcpu c.args.part) Okay
majors c =
    let x : CoreState = record {
      world = c.self.inside.fabric;
      leases = c.self.inside.pool;
      vcpus = c.self.inside.vcpus.items;
      selects =
          c.self.inside.selects;
      passes = c.self.inside.passes;
    } in
    let y : CoreState = record {
      world = c.self.inside.fabric;
      leases = c.self.inside.pool;
      vcpus = c.load_majors_in.new.vcpus.items;
      selects =
          c.self.inside.selects;
      passes = c.self.inside.passes;
    } in
    let found = c.args.found in
    let i = c.in-Majors in
    let r = c.requires in
    let is = is_of x c.args.self.now found c.args.kept c.args.part c.self.view_is r.found r.whole r.parked r.loadable in
    let low = who_low x found c.self.invariant is in
    subst (λ (p : Part). CoreTakes x y (LoadPart found.vm found.vcpu p) Okay) (sym i.is)
    (majors_are_loaded x y found.vm found.vcpu i.injected i.enabled c.args.kept
    (load_of x c.args.self.now found c.args.kept c.args.part c.self.view_is r.found r.whole r.parked r.loadable y _ i.is refl refl refl) (record {
      world = refl;
      leases = refl;
      selects = refl;
      passes = refl;
      low = subst (λ q. q < length x.vcpus) is.slot low;
      is_done = subst (λ q. MajorsDone x.vcpus y.vcpus q (majors_loaded (parts.Majors i.injected i.enabled))) is.slot c.load_majors_in.ensures.done;
    }))

registers : (c : After-load_registers_in) → CoreTakes
    (record {
      world = c.self.inside.fabric;
      leases = c.self.inside.pool;
      vcpus = c.self.inside.vcpus.items;
      selects = c.self.inside.selects;
      passes = c.self.inside.passes;
    }) (record {
      world = c.self.inside.fabric;
      leases = c.self.inside.pool;
      vcpus =
          c.load_registers_in.new.vcpus.items;
      selects = c.self.inside.selects;
      passes = c.self.inside.passes;
    })
    (LoadPart c.args.found.vm c.args.found.vcpu c.args.part) Okay
registers c =
    let x : CoreState = record {
      world = c.self.inside.fabric;
      leases = c.self.inside.pool;
      vcpus = c.self.inside.vcpus.items;
      selects =
          c.self.inside.selects;
      passes = c.self.inside.passes;
    } in
    let y : CoreState = record {
      world = c.self.inside.fabric;
      leases = c.self.inside.pool;
      vcpus = c.load_registers_in.new.vcpus.items;
      selects =
          c.self.inside.selects;
      passes = c.self.inside.passes;
    } in
    let found = c.args.found in
    let i = c.in-Prio in
    let r = c.requires in
    let is = is_of x c.args.self.now found c.args.kept c.args.part c.self.view_is r.found r.whole r.parked r.loadable in
    let low = who_low x found c.self.invariant is in
    subst (λ (p : Part). CoreTakes x y (LoadPart found.vm found.vcpu p) Okay) (sym i.is)
    (registers_are_loaded x y found.vm found.vcpu i.hviprio i.hvictl c.args.kept
    (load_of x c.args.self.now found c.args.kept c.args.part c.self.view_is r.found r.whole r.parked r.loadable y _ i.is refl refl refl) (record {
      world = refl;
      leases = refl;
      selects = refl;
      passes = refl;
      low = subst (λ q. q < length x.vcpus) is.slot low;
      is_done = subst (λ q. MajorsDone x.vcpus y.vcpus q (majors_loaded (parts.Prio i.hviprio i.hvictl))) is.slot c.load_registers_in.ensures.done;
    }))

told : (c : After-notice) → CoreTakes (record {
  world = c.self.inside.fabric;
  leases = c.self.inside.pool;
  vcpus = c.self.inside.vcpus.items;
  selects = c.self.inside.selects;
  passes = c.self.inside.passes;
})
    (record {
      world = c.notice.new.self;
      leases = c.self.inside.pool;
      vcpus = c.self.inside.vcpus.items;
      selects = c.self.inside.selects;
      passes =
          c.self.inside.passes;
    }) (LoadPart c.args.found.vm c.args.found.vcpu c.args.part) Okay
told c =
    let x : CoreState = record {
      world = c.self.inside.fabric;
      leases = c.self.inside.pool;
      vcpus = c.self.inside.vcpus.items;
      selects =
          c.self.inside.selects;
      passes = c.self.inside.passes;
    } in
    let y : CoreState = record {
      world = c.notice.new.self;
      leases = c.self.inside.pool;
      vcpus = c.self.inside.vcpus.items;
      selects =
          c.self.inside.selects;
      passes = c.self.inside.passes;
    } in
    let m : World = c.load_word.new.fabric in
    let found = c.args.found in
    let g = vcpu_of found.vm found.vcpu in
    let i = c.in-Word in
    let r = c.requires in
    let is = is_of x c.args.self.now found c.args.kept c.args.part c.self.view_is r.found r.whole r.parked r.loadable in
    let done : DoneInSlot x.world m (slot_of x.world.vms g) 0 (sets_loaded i.w i.pending i.enable) =
    subst (λ q. DoneInSlot x.world m q 0 (sets_loaded i.w i.pending i.enable)) is.slot c.load_word.ensures in
    let same : m.vms ≡ x.world.vms = ap (λ (w : World). w.vms) done.rest in
    let there : is_vcpu_in m.vms g ≡ true = ap (λ vms. is_vcpu_in vms g) same ∙ is.there in
    let slot : slot_of m.vms g ≡ found.slot = ap (λ vms. slot_of vms g) same ∙ sym is.slot in
    let posts = c.notice.ensures.posts g there slot in
    subst (λ (p : Part). CoreTakes x y (LoadPart found.vm found.vcpu p) Okay) (sym i.is)
    (word_told x y m found.vm found.vcpu c.args.kept i.w i.pending i.enable (record {
      load = load_of x c.args.self.now found c.args.kept c.args.part c.self.view_is r.found r.whole r.parked r.loadable y _ i.is refl refl refl;
      vcpus = refl;
      done = done;
      memory = ap (λ (w : World). w.memory) c.notice.ensures.rest;
    })
    (subst (λ q. Posts m y.world (spots.SupervisorFile (notice_hart x.world.vms g)) (q + 1)) is.slot
    (subst (λ vms. Posts m y.world (spots.SupervisorFile (notice_hart vms g)) (found.slot + 1)) same posts))
    (subst (λ q. is_live (file_of_slot m q 0) i.w ≡ true) is.slot (sym c.is_live.ensures ∙ c.if-is_live.true)))

untold : (c : Else-is_live) → CoreTakes (record {
  world = c.self.inside.fabric;
  leases = c.self.inside.pool;
  vcpus = c.self.inside.vcpus.items;
  selects = c.self.inside.selects;
  passes =
      c.self.inside.passes;
}) (record {
  world = c.load_word.new.fabric;
  leases = c.self.inside.pool;
  vcpus = c.self.inside.vcpus.items;
  selects =
      c.self.inside.selects;
  passes = c.self.inside.passes;
}) (LoadPart c.args.found.vm c.args.found.vcpu c.args.part) Okay
untold c =
    let x : CoreState = record {
      world = c.self.inside.fabric;
      leases = c.self.inside.pool;
      vcpus = c.self.inside.vcpus.items;
      selects =
          c.self.inside.selects;
      passes = c.self.inside.passes;
    } in
    let y : CoreState = record {
      world = c.load_word.new.fabric;
      leases = c.self.inside.pool;
      vcpus = c.self.inside.vcpus.items;
      selects =
          c.self.inside.selects;
      passes = c.self.inside.passes;
    } in
    let m : World = c.load_word.new.fabric in
    let found = c.args.found in
    let i = c.in-Word in
    let r = c.requires in
    let is = is_of x c.args.self.now found c.args.kept c.args.part c.self.view_is r.found r.whole r.parked r.loadable in
    subst (λ (p : Part). CoreTakes x y (LoadPart found.vm found.vcpu p) Okay) (sym i.is)
    (word_untold x y m found.vm found.vcpu c.args.kept i.w i.pending i.enable (record {
      load = load_of x c.args.self.now found c.args.kept c.args.part c.self.view_is r.found r.whole r.parked r.loadable y _ i.is refl refl refl;
      vcpus = refl;
      done = subst (λ q. DoneInSlot x.world m q 0 (sets_loaded i.w i.pending i.enable)) is.slot c.load_word.ensures;
      memory = refl;
    }) refl
    (subst (λ q. is_live (file_of_slot m q 0) i.w ≡ false) is.slot (sym c.is_live.ensures ∙ c.if-is_live.false)))

-- ---- what the calls within require

pub load_numbers_in-requires : goal.load_numbers_in-requires
load_numbers_in-requires c =
    let r = c.requires in
    who_low (record {
      world = c.self.inside.fabric;
      leases = c.self.inside.pool;
      vcpus = c.self.inside.vcpus.items;
      selects =
          c.self.inside.selects;
      passes = c.self.inside.passes;
    }) c.args.found c.self.invariant
    (subst (λ (s : CoreState). IsFound s.world c.args.found) (sym c.self.view_is) r.found)

pub load_majors_in-requires : goal.load_majors_in-requires
load_majors_in-requires c =
    let r = c.requires in
    who_low (record {
      world = c.self.inside.fabric;
      leases = c.self.inside.pool;
      vcpus = c.self.inside.vcpus.items;
      selects =
          c.self.inside.selects;
      passes = c.self.inside.passes;
    }) c.args.found c.self.invariant
    (subst (λ (s : CoreState). IsFound s.world c.args.found) (sym c.self.view_is) r.found)

pub load_registers_in-requires-clause-slot : goal.load_registers_in-requires-clause-slot
load_registers_in-requires-clause-slot c =
    let r = c.requires in
    who_low (record {
      world = c.self.inside.fabric;
      leases = c.self.inside.pool;
      vcpus = c.self.inside.vcpus.items;
      selects =
          c.self.inside.selects;
      passes = c.self.inside.passes;
    }) c.args.found c.self.invariant
    (subst (λ (s : CoreState). IsFound s.world c.args.found) (sym c.self.view_is) r.found)

pub load_word-requires-clause-slot : goal.load_word-requires-clause-slot
load_word-requires-clause-slot c = let r = c.requires in found_few c.args.self.now.world c.args.found r.whole r.found

pub is_live-requires-clause-slot : goal.is_live-requires-clause-slot
is_live-requires-clause-slot c = let r = c.requires in found_few c.args.self.now.world c.args.found r.whole r.found

pub notice-requires : goal.notice-requires
notice-requires c =
    let r = c.requires in
    let below = found_below c.self.inside.fabric c.args.found
    (subst (λ (s : CoreState). IsFound s.world c.args.found) (sym c.self.view_is) r.found) in
    let same = ap (λ (w : World). vcpus_in w.vms) c.load_word.ensures.rest in
    omega (arith, below, same)

-- ---- the core stands, and promises

pub invariant_of-self : goal.invariant_of-self
invariant_of-self c = still _ _ _ _ (numbers c) c.self.invariant

pub invariant_of-self-in-Majors : goal.invariant_of-self-in-Majors
invariant_of-self-in-Majors c = still _ _ _ _ (majors c) c.self.invariant

pub invariant_of-self-in-Prio : goal.invariant_of-self-in-Prio
invariant_of-self-in-Prio c = still _ _ _ _ (registers c) c.self.invariant

pub invariant_of-self-then-is_live : goal.invariant_of-self-then-is_live
invariant_of-self-then-is_live c = still _ _ _ _ (told c) c.self.invariant

pub invariant_of-self-else-is_live : goal.invariant_of-self-else-is_live
invariant_of-self-else-is_live c = still _ _ _ _ (untold c) c.self.invariant

pub returns-in-Image : goal.returns-in-Image
returns-in-Image c = rw (← c.self.view_is) (numbers c)

pub returns-in-Majors : goal.returns-in-Majors
returns-in-Majors c = rw (← c.self.view_is) (majors c)

pub returns-in-Prio : goal.returns-in-Prio
returns-in-Prio c = rw (← c.self.view_is) (registers c)

pub returns-then-is_live : goal.returns-then-is_live
returns-then-is_live c = rw (← c.self.view_is) (told c)

pub returns-else-is_live : goal.returns-else-is_live
returns-else-is_live c = rw (← c.self.view_is) (untold c)
