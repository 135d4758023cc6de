-- The core of the example stands for its history.
use Rattle.aia_vcpu.specs.declared.access.Access.TheVariants.{TakePending, TakeEnables}
use Rattle.std.proofs.Common.{◌≡◌, ℕ, zero, suc, ◌+◌, ◌-◌, ◌/◌, ◌%◌, ◌^◌, ◌<◌, ◌≤◌, Bool, true, false, cond, not, ◌&&◌, ◌||◌, nat_eq, nat_lt, nat_le, get_or, length, replicate, ◌∷◌, [], ◌++◌, Option, Some, None, ◌⊎◌, inl, inr, refl, sym, ap, subst, ◌∙◌, arith}
use Rattle.std.specs.Prelude.{min}
use Rattle.std.proofs.Math.ListN.{get_or-append}
use Rattle.std.proofs.Math.Bool.{and-false, or-false}
use Rattle.std.proofs.lemmas.Bool.{cases_Bool, cases_eq, cond-false, ne_eqb, ltb-true, false≢true}
use Rattle.std.proofs.lemmas.Bool.Decides.{nat_tests}
use Rattle.aia_word.specs.Sets.{has_bit, is_in, least_of}
use Rattle.aia_word.proofs.BitLemmas.{has_bit-zero, has_bit-set}
use Rattle.aia_word.proofs.SetLemmas.{is_in-put}
use Rattle.aia_regs.specs.declared.access.Op.TheVariants.{Write}
use Rattle.aia_regs.specs.declared.file_registers.FileReg.TheVariants.{Enable}
use Rattle.aia_regs.specs.BitUpdate.{set_after, settle}
use Rattle.aia_regs.specs.BitUpdate.BitUpdate.{Ask, Clear, Nothing}
use Rattle.aia_regs.specs.Request.{request_said}
use Rattle.aia_regs.specs.FileRegisters.{eie_said, shows}
use Rattle.aia_file.specs.InterruptFile.{InterruptFile, empty_file}
use Rattle.aia_file.specs.FileState.{FileState, shown}
use Rattle.aia_file.proofs.FileLemmas.{same_file}
use Rattle.aia_file.specs.Imsic.{IsThere, file_at}
use Rattle.aia_file.specs.Mrif.{Mrif, mrif_in, pending_place, enable_place}
use Rattle.aia_entry.specs.declared.entry.Entry.TheVariants.{NotValid}
use Rattle.aia_entry.specs.Tables.{table_of, entry_in_force}
use Rattle.aia_vcpu.specs.declared.place.GuestPlace.{GuestPlace}
use Rattle.aia_vcpu.specs.Vms.{Vcpu, vcpu_of, is_vcpu, is_vcpu_in, vm_in}
use Rattle.aia_vcpu.specs.Home.{Home, is_place, holds}
use Rattle.aia_vcpu.specs.declared.rest.Rest.TheVariants.{Parked}
use Rattle.aia_vcpu.specs.Home.Home.{InMemory, Resident, OnWay}
use Rattle.aia_vcpu.specs.Home.Way.{Outward}
use Rattle.aia_vcpu.specs.BySteps.{is_enable_taken, is_enable_put}
use Rattle.aia_vcpu.specs.Plans.{is_last_made}
use Rattle.aia_vcpu.proofs.VmLemmas.{numbered, vm_past}
use Rattle.aia_vcpu_places.specs.Places.{Places, leads_to, entry_word, second_word}
use Rattle.aia_vcpu_places.specs.Holds.{Holds, HoldsSets, HoldsNumbers, HoldsRoutes}
use Rattle.aia_vcpu_places.specs.Stores.{AreApart}
use Rattle.aia_pool.specs.Leases.{is_out}
use Rattle.aia_fabric_values.specs.World.{no_stage}
use Rattle.aia_fabric_values.specs.Changes.{spot_of}
use Rattle.aia_move_values.specs.Views.{places_of}
use Rattle.aia_fabric_values.specs.Whole.{IsWhole, IsVm}
use Rattle.aia_move_values.specs.Move.{MoveFits}
use Rattle.aia_move_values.specs.Plan.{empty_hand}
use Rattle.aia_move_values.proofs.PhaseLemmas.{drains}
use Rattle.aia_entry.specs.Translation.{is_mask}
use Rattle.aia_model.specs.Act.{newest}
use Rattle.aia_regs.specs.DomainRegisters.{domain_register_of}
use Rattle.aia_model.specs.AddressOf.{addresses_of}
use Rattle.aia_model.specs.SourceOf.{genmsi_waits, wire_of, enabled, target, pending}
use Rattle.aia_model.specs.Sent.{all_senders}
use Rattle.aia_word.specs.Packed.{ones}
use Rattle.aia_model.specs.Move.WantedMove.{Arrives, Leaves}
use Rattle.aia_model.specs.Event.{History, file_words}
use Rattle.aia_model.specs.Event.Event.{Began, Stepped}
use Rattle.aia_model.specs.Vms.{vms_of, has_vcpu}
use Rattle.aia_major.specs.VsMajor.{new_majors}
use Rattle.aia_major.proofs.KeptLemmas.{shown_at_first}
use Rattle.aia_model.specs.MajorOf.{majors_of}
use Rattle.aia_model.specs.ReachOf.{in_force_of, IsForOne, stage_in_force_of, MayFly}
use Rattle.std.specs.List.{AllByRecursion}
use Rattle.std.specs.Prelude.{List, map}
use Rattle.aia_fabric_values.specs.declared.flying.Flying.{Flying}
use Rattle.aia_vcpu.specs.Aims.{AreAimed}
use Rattle.aia_model.specs.Aim.{AllAreAimed}
use Rattle.aia_model.specs.Passes.{passes_of, passes_to, passes_for}
use Rattle.aia_hyp_values.specs.Passes.{IsToOne, PassesKept, own_passes}
use Rattle.aia_model.specs.HomeOf.{home, guest_place}
use Rattle.aia_model.specs.Notice.{a_look_saw, notices_sent, look_saw}
use Rattle.aia_model.specs.FileAfter.{file_by, select_by}
use Rattle.aia_model.specs.FileOf.{FileName, MachineFile, SupervisorFile, file_of, select_of}
use Rattle.aia_model.specs.GuestFile.{guest_file, guest_select}
use Rattle.aia_model.specs.Answer.{after, after_lines, steps_of}
use Rattle.aia_hyp_values.specs.Example.{stepped_on, moved_whole}
use Rattle.aia_model.specs.Flight.{flight}
use Rattle.aia_model.proofs.MoveLemmas.{home_step, is_another}
use Rattle.aia_hyp_values.specs.HostFiles.{host_spot}
use Rattle.aia_hyp_values.specs.Stands.{flying_of, HostStands, VcpuStands, HoldApart, is_held, CoreStands}
use Rattle.aia_hyp_values.specs.Example.{stayer, leaver, stayer_file, leaver_file, made_history, stayer_arrived, both_arrived, before_leaving, earlier_lines, leave_lines, empty_state, drained_state, example_files, entry_words, example_memory, example_world, leave_under_way, leaving_core, leaving_history, the_pass, so_far, steps_so_far}
use Rattle.aia_vcpu.proofs.HomeLemmas.{same_place}
use Rattle.aia_hyp_values.proofs.VcpuLemmas.{IsHeld}
use Rattle.aia_regs.specs.declared.limits.TheConstants.{IDENTITIES, VCPUS, SLOTS, WORDS_OF_SLOTS, MEMORY_WORDS}

-- ---- the history

pub passed_one : passes_of leaving_history ≡ the_pass ∷ []
unfolding passes_of
passed_one = refl

pub stayer_home : home leaving_history stayer ≡ Resident stayer_file
unfolding passes_of home least_of
stayer_home = refl

pub leaver_home : home leaving_history leaver ≡ OnWay (Outward leaver_file) so_far
unfolding passes_of home least_of
leaver_home = refl

stayer_reach : in_force_of leaving_history stayer ≡ Some stayer_file
unfolding passes_of in_force_of home least_of
stayer_reach = refl

pub leaver_reach : in_force_of leaving_history leaver ≡ None
unfolding passes_of in_force_of home least_of
leaver_reach = refl

no_notices : notices_sent leaving_history ≡ 0
unfolding passes_of notices_sent home in_force_of stage_in_force_of least_of look_saw
no_notices = refl

stayer_saw : a_look_saw leaving_history stayer ≡ false
unfolding passes_of home least_of look_saw
stayer_saw = refl

pub leaver_saw : a_look_saw leaving_history leaver ≡ false
unfolding passes_of home least_of look_saw
leaver_saw = refl

-- the files of the host are as they were made
machine_file : file_of leaving_history (MachineFile 0) ≡ empty_file 63
unfolding passes_of file_by select_by home stage_in_force_of least_of look_saw
machine_file = refl

machine_select : select_of leaving_history (MachineFile 0) ≡ 0
unfolding passes_of select_by home stage_in_force_of least_of look_saw
machine_select = refl

supervisor_file : file_of leaving_history (SupervisorFile 0) ≡ empty_file 63
unfolding passes_of file_by select_by home stage_in_force_of least_of look_saw
supervisor_file = refl

supervisor_select : select_of leaving_history (SupervisorFile 0) ≡ 0
unfolding passes_of select_by home stage_in_force_of least_of look_saw
supervisor_select = refl

-- a file with identity 1 alone
abbrev lone_file : InterruptFile
lone_file = record { n = 63; pending = λ i. nat_eq 1 i; enabled = λ i. nat_eq 1 i; threshold = 0; delivery = 1 }

asked : (i : ℕ) → set_after (request_said 63 0 1) (λ i. false) i ≡ nat_eq 1 i
asked i = elim (cases_Bool (nat_eq 1 i)) [ inl e ↦ rw e refl | inr e ↦ rw e refl ]

bit_1 : (i : ℕ) → has_bit 2 i ≡ nat_eq i 1
bit_1 i = has_bit-set 0 1 i (omega arith) ∙ ap (λ b. nat_eq i 1 || b) (has_bit-zero i) ∙ or-false (nat_eq i 1)

enables : (i : ℕ) → set_after (eie_said 63 (Enable 0) (Write 2)) (λ i. false) i ≡ nat_eq 1 i
enables i = elim (cases_eq 1 i) [
  | inl e ↦ subst (λ i. set_after (eie_said 63 (Enable 0) (Write 2)) (λ i. false) i ≡ nat_eq 1 i) e refl
  | inr ne ↦
      let same : i - 0 ≡ i = omega arith in
      none (shows 63 0 i) (has_bit 2 (i - 0)) (ap (has_bit 2) same ∙ bit_1 i ∙ ne_eqb i 1 (λ e. ne (sym e))) ∙ sym (ne_eqb 1 i ne)
]
  where
    none : (a b : Bool) → b ≡ false → settle (cond a (cond b Ask Clear) Nothing) false ≡ false
    none true b e = rw e refl
    none false b e = refl

stayer_has : guest_file leaving_history stayer ≡ empty_file 63
unfolding file_by select_by
stayer_has = refl

pub leaver_has : guest_file leaving_history leaver ≡ lone_file
unfolding file_by select_by
leaver_has = same_file _ _ (record { n = refl; pending = asked; enabled = enables; threshold = refl; delivery = refl })

stayer_select : guest_select leaving_history stayer ≡ 0
unfolding select_by
stayer_select = refl

leaver_select : guest_select leaving_history leaver ≡ 0xc0
unfolding select_by
leaver_select = refl

-- one that is not that one
rests_file : (g : Vcpu) → is_vcpu g leaver ≡ false → guest_file leaving_history g ≡ empty_file 63
unfolding file_by select_by
rests_file g e = rw e refl

no_majors_written : (g : Vcpu) → majors_of leaving_history g ≡ new_majors
unfolding passes_of majors_of home least_of look_saw
no_majors_written g = refl

rests_select : (g : Vcpu) → is_vcpu g leaver ≡ false → guest_select leaving_history g ≡ 0
unfolding select_by
rests_select g e = rw e refl

-- ---- the virtual harts

-- there are two
two_by : (vm vcpu : ℕ) → vcpu < (vm_in (vms_of leaving_history) vm).vcpus → (vcpu_of vm vcpu ≡ stayer) ⊎ (vcpu_of vm vcpu ≡ leaver)
two_by zero zero low = inl refl
two_by zero (suc zero) low = inr refl
two_by zero (suc (suc vcpu)) low = absurd (omega (arith, low))
two_by (suc vm) vcpu low = let none = vm_past (vms_of leaving_history) (suc vm) (omega arith) in absurd (omega (arith, low, none))

two : (g : Vcpu) → has_vcpu leaving_history g ≡ true → (g ≡ stayer) ⊎ (g ≡ leaver)
two g there = two_by g.vm g.vcpu (numbered (vms_of leaving_history) g.vm g.vcpu there)

-- what is so of both is so of each that is there
of_both : (P : Vcpu → Type 0) → P stayer → P leaver → (g : Vcpu) → has_vcpu leaving_history g ≡ true → P g
of_both P a b g there = elim (two g there) [ inl e ↦ subst P (sym e) a | inr e ↦ subst P (sym e) b ]

-- no other one is either of them
no_stayer : (g : Vcpu) → has_vcpu leaving_history g ≡ false → is_vcpu g stayer ≡ false
no_stayer g outside = is_another g stayer (λ e. false≢true (sym outside ∙ ap (has_vcpu leaving_history) e))

no_leaver : (g : Vcpu) → has_vcpu leaving_history g ≡ false → is_vcpu g leaver ≡ false
no_leaver g outside = is_another g leaver (λ e. false≢true (sym outside ∙ ap (has_vcpu leaving_history) e))

-- a move of one leaves the others at home
steps_of_another : (count : ℕ) (x g : Vcpu) (h : History) → is_vcpu g x ≡ false → home (stepped_on count x h) g ≡ home h g
steps_of_another zero x g h e = refl
steps_of_another (suc count) x g h e = steps_of_another count x g (Stepped x ∷ h) e ∙ home_step (Stepped x) h g ∙ cond-false _ _ _ e

arrival_of_another : (aims : ℕ) (x g : Vcpu) (hart : ℕ) (h : History) → is_vcpu g x ≡ false → home (moved_whole aims h (Arrives x hart)) g ≡ home h g
arrival_of_another aims x g hart h e = steps_of_another (steps_of (file_words h) (Arrives x hart) + aims) x g (Began (Arrives x hart) ∷ h) e
    ∙ home_step (Began (Arrives x hart)) h g ∙ cond-false _ _ _ e

parked_as_made : (g : Vcpu) → home made_history g ≡ InMemory Parked
unfolding passes_of home
parked_as_made g = refl

none_moved : (g : Vcpu) → home before_leaving g ≡ home both_arrived g
unfolding passes_of home
none_moved g = refl

other_home : (g : Vcpu) → has_vcpu leaving_history g ≡ false → home leaving_history g ≡ InMemory Parked
other_home g outside =
    let a = no_stayer g outside in
    let b = no_leaver g outside in
    steps_of_another steps_so_far leaver g (Began (Leaves leaver) ∷ before_leaving) b
    ∙ home_step (Began (Leaves leaver)) before_leaving g ∙ cond-false _ _ _ b
    ∙ none_moved g ∙ arrival_of_another 1 leaver g 0 stayer_arrived b ∙ arrival_of_another 0 stayer g 0 made_history a ∙ parked_as_made g

-- ---- the files

-- all numbers of a list are the same
each_same : {A : Type 0} → (a : A) (n i : ℕ) → get_or (replicate n a) i a ≡ a
each_same a zero i = refl
each_same a (suc n) zero = refl
each_same a (suc n) (suc i) = each_same a n i

nothing_in : (i : ℕ) → is_in (0 ∷ []) i ≡ false
nothing_in i = ap (λ word. has_bit word (i % 64)) (each_same 0 1 (i / 64)) ∙ has_bit-zero (i % 64)

lone_in : (i : ℕ) → is_in (2 ∷ []) i ≡ nat_eq 1 i
lone_in i = is_in-put (0 ∷ []) 1 i (omega arith) ∙ ap (λ b. nat_eq 1 i || b) (nothing_in i) ∙ or-false (nat_eq 1 i)

empty_shown : shown empty_state ≡ empty_file 63
empty_shown = same_file _ _ (record { n = refl; pending = nothing_in; enabled = nothing_in; threshold = refl; delivery = refl })

-- the file of the one that leaves, as it is then
abbrev drained_file : InterruptFile
drained_file = record { n = 63; pending = λ i. false; enabled = λ i. nat_eq 1 i; threshold = 0; delivery = 0 }

drained_shown : shown drained_state ≡ drained_file
drained_shown = same_file _ _ (record { n = refl; pending = nothing_in; enabled = lone_in; threshold = refl; delivery = refl })

-- ---- the slots

low_word : (k : ℕ) → k < WORDS_OF_SLOTS → get_or example_memory k 0 ≡ 0
low_word k low = get_or-append (replicate WORDS_OF_SLOTS 0) (entry_words ++ replicate (MEMORY_WORDS - WORDS_OF_SLOTS - length entry_words) 0) 0 k
    low ∙ each_same 0 WORDS_OF_SLOTS k

no_low_bit : (b : Bool) (k n : ℕ) → (b ≡ true → k < WORDS_OF_SLOTS) → (b && has_bit (get_or example_memory k 0) n) ≡ false
no_low_bit false k n low = refl
no_low_bit true k n low = ap (λ word. has_bit word n) (low_word k (low refl)) ∙ has_bit-zero n

no_pending : (q i : ℕ) → q < SLOTS → (mrif_in example_memory q).pending i ≡ false
no_pending q i few = no_low_bit (nat_le i IDENTITIES) (pending_place q (i / 64)) (i % 64) (λ e. grind (arith, nat_tests))

no_enabled : (q i : ℕ) → q < SLOTS → (mrif_in example_memory q).enabled i ≡ false
no_enabled q i few = no_low_bit (nat_le i IDENTITIES) (enable_place q (i / 64)) (i % 64) (λ e. grind (arith, nat_tests))

-- ---- who holds what

held_is : (p : GuestPlace) → is_held leaving_history p ≡ (is_place p stayer_file || (is_place p leaver_file || false))
unfolding passes_of home least_of
held_is p = refl

out_by : (hart file : ℕ) → hart < 1 → 1 ≤ file → file ≤ 3
    → is_out leaving_core.leases (guest_place hart file)
    ≡ (is_place (guest_place hart file) stayer_file || (is_place (guest_place hart file) leaver_file || false))
out_by zero zero low first last = absurd (omega (arith, first))
out_by zero (suc zero) low first last = refl
out_by zero (suc (suc zero)) low first last = refl
out_by zero (suc (suc (suc zero))) low first last = refl
out_by zero (suc (suc (suc (suc file)))) low first last = absurd (omega (arith, last))
out_by (suc hart) file low first last = absurd (omega (arith, low))

free_by : (hart file : ℕ) → hart < 1 → 1 ≤ file → file ≤ 3
    → (is_place (guest_place hart file) stayer_file || (is_place (guest_place hart file) leaver_file || false)) ≡ false
    → shown (file_at example_files (spot_of (guest_place hart file))) ≡ empty_file 63
free_by zero zero low first last none = absurd (omega (arith, first))
free_by zero (suc zero) low first last none = absurd (false≢true (sym none))
free_by zero (suc (suc zero)) low first last none = absurd (false≢true (sym none))
free_by zero (suc (suc (suc zero))) low first last none = empty_shown
free_by zero (suc (suc (suc (suc file)))) low first last none = absurd (omega (arith, last))
free_by (suc hart) file low first last none = absurd (omega (arith, low))

stayer_holds : (p : GuestPlace) → holds p (home leaving_history stayer) ≡ true → p ≡ stayer_file
stayer_holds p e = same_place p stayer_file (ap (holds p) (sym stayer_home) ∙ e)

leaver_holds : (p : GuestPlace) → holds p (home leaving_history leaver) ≡ true → p ≡ leaver_file
leaver_holds p e = same_place p leaver_file (ap (holds p) (sym leaver_home) ∙ e)

held_there : (g : Vcpu) → has_vcpu leaving_history g ≡ true → (p : GuestPlace) → holds p (home leaving_history g) ≡ true
    → IsThere example_files (spot_of p)
held_there = of_both (λ g. (p : GuestPlace) → holds p (home leaving_history g) ≡ true → IsThere example_files (spot_of p))
    (λ p e. subst (λ (p : GuestPlace). IsThere example_files (spot_of p)) (sym (stayer_holds p e)) (omega arith, omega arith, omega arith))
    (λ p e. subst (λ (p : GuestPlace). IsThere example_files (spot_of p)) (sym (leaver_holds p e)) (omega arith, omega arith, omega arith))

two_files : stayer_file ≡ leaver_file → ⊥
two_files e = let same : 1 ≡ 2 = ap (λ (p : GuestPlace). p.file) e in omega (arith, same)

hold_apart : HoldApart leaving_history
hold_apart a b p ia ib ha hb = elim (two a ia) [
  | inl ea ↦ elim (two b ib) [
    | inl eb ↦ ea ∙ sym eb
    | inr eb ↦ absurd (two_files (sym (stayer_holds p (at a ea ha)) ∙ leaver_holds p (at b eb hb)))
  ]
  | inr ea ↦ elim (two b ib) [
    | inl eb ↦ absurd (two_files (sym (stayer_holds p (at b eb hb)) ∙ leaver_holds p (at a ea ha)))
    | inr eb ↦ ea ∙ sym eb
  ]
]
  where
    at : (x : Vcpu) {y : Vcpu} → x ≡ y → holds p (home leaving_history x) ≡ true → holds p (home leaving_history y) ≡ true
    at x e h = ap (λ g. holds p (home leaving_history g)) (sym e) ∙ h

-- ---- the host

host_stands : (f : FileName) → IsThere example_files (host_spot f) → HostStands leaving_core leaving_history f
host_stands (MachineFile zero) inside = record { file = empty_shown ∙ sym machine_file; select = sym machine_select }
host_stands (SupervisorFile zero) inside = record { file = empty_shown ∙ sym supervisor_file; select = sym supervisor_select }
host_stands (MachineFile (suc hart)) inside = absurd (omega (arith, inside))
host_stands (SupervisorFile (suc hart)) inside = absurd (omega (arith, inside))

-- ---- what nobody has

no_entry_by : (vm vcpu : ℕ) → nat_lt vm 1 ≡ true → is_vcpu_in (vms_of leaving_history) (vcpu_of vm vcpu) ≡ false
    → entry_in_force (table_of example_world.tables vm) vcpu ≡ NotValid
no_entry_by zero zero inside outside = absurd (false≢true (sym outside))
no_entry_by zero (suc zero) inside outside = absurd (false≢true (sym outside))
no_entry_by zero (suc (suc vcpu)) inside outside = each_same NotValid 14 vcpu
no_entry_by (suc vm) vcpu inside outside = let low = ltb-true (suc vm) 1 inside in absurd (omega (arith, low))

no_stage_by : (q : ℕ) → 2 ≤ q → get_or example_world.stages q no_stage ≡ no_stage
no_stage_by zero past = absurd (omega (arith, past))
no_stage_by (suc q) past = each_same no_stage (VCPUS - 1) q

-- ---- the one that is resident

abbrev no_slot : Mrif
no_slot = record { pending = λ i. false; enabled = λ i. false }

abbrev stayer_view : Places
stayer_view = record {
  own = empty_file 63;
  next = empty_file 63;
  slot = no_slot;
  word0 = entry_word 0 (Some stayer_file);
  word1 = second_word 0 0;
  in_force = leads_to 0 0 (Some stayer_file);
  stage = Some stayer_file;
  stage_in_force = Some stayer_file;
}

slot_is : (q : ℕ) → q < SLOTS → mrif_in example_memory q ≡ no_slot
slot_is q few = λ k. record { pending = λ i. no_pending q i few k; enabled = λ i. no_enabled q i few k }

stayer_shows : places_of example_world stayer (Resident stayer_file) ≡ stayer_view
stayer_shows = λ k. record stayer_view { own = empty_shown k; slot = slot_is 0 (omega arith) k }

no_and : (a b : Bool) → b ≡ false → (a && b) ≡ false
no_and a b e = ap (λ b. a && b) e ∙ and-false a

stayer_sets : HoldsSets 1 stayer_view (Resident stayer_file) 0 (empty_file 63)
stayer_sets = record {
  union = λ i low. refl;
  drained = λ i low. refl;
  fresh = λ first i low. refl;
  old_enables = λ i low. refl;
  carried_enables = λ i low. refl;
  new_enables = λ i low. refl;
  spare = λ i low. (refl, refl);
  past = λ i high. (refl, refl, refl, refl, refl);
}

stayer_numbers : HoldsNumbers 1 stayer_view (Resident stayer_file) empty_hand (empty_file 63)
stayer_numbers = record {
  own_delivery = refl;
  next_delivery = refl;
  kept_delivery = λ e. refl;
  own_threshold = refl;
  next_threshold = refl;
  kept_threshold = λ e. refl;
}

stayer_routes : HoldsRoutes 0 0 (Some stayer_file) stayer_view (Resident stayer_file)
stayer_routes = record { word0 = refl; word1 = refl; in_force = refl; may = inl (refl, refl); stage = refl; stage_in_force = refl }

stayer_held : Holds 1 0 0 (Some stayer_file) stayer_view (Resident stayer_file) empty_hand (empty_file 63) false
stayer_held = record { sets = stayer_sets; numbers = stayer_numbers; routes = stayer_routes; looks = refl }

stayer_stands : VcpuStands leaving_core leaving_history stayer
stayer_stands = record {
  same_home = sym stayer_home;
  select = sym stayer_select;
  majors = shown_at_first ∙ sym (no_majors_written stayer);
  two_files = subst AreApart (sym stayer_home) tt;
  plan = tt;
  passes = tt;
  holds = subst IsHeld (λ k. record {
    words = 1;
    slot = 0;
    hart = 0;
    reach = sym stayer_reach k;
    shows = places_of example_world stayer (sym stayer_home k);
    there = sym stayer_home k;
    hand = empty_hand;
    file = sym stayer_has k;
    saw = sym stayer_saw k;
  }) (subst (λ v. Holds 1 0 0 (Some stayer_file) v (Resident stayer_file) empty_hand (empty_file 63) false) (sym stayer_shows) stayer_held);
}

-- ---- the one that leaves

abbrev on_the_way : Home
on_the_way = OnWay (Outward leaver_file) so_far

abbrev leaver_view : Places
leaver_view = record {
  own = drained_file;
  next = empty_file 63;
  slot = no_slot;
  word0 = entry_word 1 None;
  word1 = second_word 1 0;
  in_force = leads_to 1 0 None;
  stage = None;
  stage_in_force = None;
}

leaver_shows : places_of example_world leaver on_the_way ≡ leaver_view
leaver_shows = λ k. record leaver_view { own = drained_shown k; slot = slot_is 1 (omega arith) k }

-- the word is carried
word_carried : (i : ℕ) → i / 64 < 1 → nat_eq 1 i ≡ (is_last_made 1 on_the_way (TakePending (i / 64)) && has_bit 2 (i % 64))
word_carried i low =
    let here : is_last_made 1 on_the_way (TakePending (i / 64)) ≡ true = grind (arith, nat_tests) in
    let same : nat_eq (i % 64) 1 ≡ nat_eq 1 i = grind (arith, nat_tests) in
    sym (ap (λ b. b && has_bit 2 (i % 64)) here ∙ bit_1 (i % 64) ∙ same)

-- no enables were taken yet
no_enables_step : (i : ℕ) → is_enable_taken 1 on_the_way (i / 64) ≡ false
no_enables_step i = grind (arith, nat_tests)

none_carried : (i : ℕ) → is_last_made 1 on_the_way (TakeEnables (i / 64)) ≡ false
none_carried i = grind (arith, nat_tests)

none_put : (i : ℕ) → is_enable_put 1 on_the_way (i / 64) ≡ false
none_put i = grind (arith, nat_tests)

leaver_sets : HoldsSets 1 leaver_view on_the_way 2 lone_file
leaver_sets = record {
  union = word_carried;
  drained = λ i low. and-false _;
  fresh = λ first. absurd (cc);
  old_enables = λ i low. sym (ap (λ b. not b && nat_eq 1 i) (no_enables_step i));
  carried_enables = λ i low. ap (λ b. b && has_bit 2 (i % 64)) (none_carried i) ∙ sym (ap (λ b. b && nat_eq 1 i) (none_carried i));
  new_enables = λ i low. sym (ap (λ b. b && nat_eq 1 i) (none_put i));
  spare = λ i low. (refl, refl);
  past = λ i high. let past : nat_eq 1 i ≡ false = grind (arith, nat_tests) in (refl, past, refl, refl, refl);
}

leaver_numbers : HoldsNumbers 1 leaver_view on_the_way leave_under_way.hand lone_file
leaver_numbers = record {
  own_delivery = refl;
  next_delivery = refl;
  kept_delivery = λ e. refl;
  own_threshold = refl;
  next_threshold = refl;
  kept_threshold = λ e. refl;
}

leaver_routes : HoldsRoutes 1 0 None leaver_view on_the_way
leaver_routes = record { word0 = refl; word1 = refl; in_force = refl; may = inr (refl, refl); stage = refl; stage_in_force = refl }

leaver_held : Holds 1 1 0 None leaver_view on_the_way leave_under_way.hand lone_file false
leaver_held = record { sets = leaver_sets; numbers = leaver_numbers; routes = leaver_routes; looks = refl }

leave_fits : MoveFits example_world leave_under_way
leave_fits = record {
  there = refl;
  slot = refl;
  notice = refl;
  own = λ p e. let same : leaver_file ≡ p = cc in
      subst (λ (p : GuestPlace). IsThere example_files (spot_of p)) same (omega arith, omega arith, omega arith);
  next = λ p e. let bad : ◌≡◌ {A = Option GuestPlace} None (Some p) = e in absurd (cc);
  no_pending_zero = λ e. refl;
  no_enabled_zero = λ e. refl;
}

leaver_stands : VcpuStands leaving_core leaving_history leaver
leaver_stands = record {
  same_home = sym leaver_home;
  select = sym leaver_select;
  majors = shown_at_first ∙ sym (no_majors_written leaver);
  two_files = subst AreApart (sym leaver_home) tt;
  plan = (leave_fits, drains 1 leave_under_way (omega arith, omega arith) refl, refl, refl);
  passes = ap (own_passes 0 leaver) (sym passed_one);
  holds = subst IsHeld (λ k. record {
    words = 1;
    slot = 1;
    hart = 0;
    reach = sym leaver_reach k;
    shows = places_of example_world leaver (sym leaver_home k);
    there = sym leaver_home k;
    hand = leave_under_way.hand;
    file = sym leaver_has k;
    saw = sym leaver_saw k;
  }) (subst (λ v. Holds 1 1 0 None v (on_the_way) leave_under_way.hand lone_file false) (sym leaver_shows) leaver_held);
}

-- ---- the passes

aimed_all : AllAreAimed leaving_history
aimed_all g = elim (cases_Bool (has_vcpu leaving_history g)) [
  | inl there ↦ of_both (λ g. AreAimed (passes_for leaving_history g) (home leaving_history g)) aimed_stayer aimed_leaver g there
  | inr outside ↦ subst (AreAimed (passes_for leaving_history g)) (sym (other_home g outside))
      (record { late = λ e. absurd (false≢true e); all = λ e. absurd (false≢true e) })
]
  where
    aimed_stayer : AreAimed (passes_for leaving_history stayer) (home leaving_history stayer)
    aimed_stayer = subst (AreAimed (passes_for leaving_history stayer)) (sym stayer_home)
        (record { late = λ e. absurd (false≢true e); all = λ e. absurd (false≢true e) })

    aimed_leaver : AreAimed (passes_for leaving_history leaver) (home leaving_history leaver)
    aimed_leaver = subst (AreAimed (passes_for leaving_history leaver)) (sym leaver_home)
        (record { late = λ e. refl; all = λ e. ap (λ passes. nat_lt 1 (passes_to leaver passes)) passed_one })

passes_stand : PassesKept leaving_core leaving_history
passes_stand = record {
  same = sym passed_one;
  to_one = subst (AllByRecursion (IsToOne leaving_history)) (sym passed_one) ((refl, refl), tt);
  aimed = aimed_all;
}

-- ---- all of it

no_list : (v : ℕ) → get_or {A = List Flying} ([] ∷ []) v [] ≡ []
no_list zero = refl
no_list (suc v) = refl

none_in_flight : (vm : ℕ) → flight leaving_history vm ≡ []
unfolding flight
none_in_flight vm = refl

pub leaving_stands : CoreStands leaving_core leaving_history
leaving_stands = record {
  there = refl;
  harts = refl;
  guests = refl;
  greatest = refl;
  vms = refl;
  notices = ap (λ count. min count (2 ^ 64 - 1)) (sym no_notices);
  host = host_stands;
  records = refl;
  vcpus = of_both (VcpuStands leaving_core leaving_history) stayer_stands leaver_stands;
  lease_harts = refl;
  lease_guests = refl;
  lease_count = refl;
  leases = λ p inside. out_by p.hart p.file inside.0 inside.1 inside.2 ∙ sym (held_is p);
  held = λ g p there holding. held_there g there p holding;
  apart = hold_apart;
  free = λ p inside none. free_by p.hart p.file inside.0 inside.1 inside.2 (sym (held_is p) ∙ none);
  no_vcpu = λ g outside. (rests_file g (no_leaver g outside), rests_select g (no_leaver g outside), other_home g outside, no_majors_written g);
  no_entry = λ g inside outside. no_entry_by g.vm g.vcpu inside outside;
  flights = λ v. no_list v ∙ ap (map (flying_of v)) (sym (none_in_flight v));
  may_fly = λ vm. subst (AllByRecursion (MayFly leaving_history vm)) (sym (none_in_flight vm)) tt;
  passes = passes_stand;
  for_one = λ vm. subst (AllByRecursion (IsForOne leaving_history vm)) (sym (none_in_flight vm)) tt;
  no_slot = λ q past few. (λ i. no_pending q i few, λ i. no_enabled q i few, no_stage_by q past);
}

-- ---- the fabric's own invariant

memory_whole : length example_memory ≡ MEMORY_WORDS
memory_whole = refl

one_mask : is_mask 8 ≡ true
unfolding ones
one_mask = refl

few_numbers : 2 ≤ 2 ^ ones 64 8
unfolding ones
few_numbers = omega arith

widths : (k : ℕ) (d : FileState) → k < 5 → (get_or example_files.files k d).n ≡ 63
widths zero d low = refl
widths (suc zero) d low = refl
widths (suc (suc zero)) d low = refl
widths (suc (suc (suc zero))) d low = refl
widths (suc (suc (suc (suc zero)))) d low = refl
widths (suc (suc (suc (suc (suc k))))) d low = absurd (omega (arith, low))

vm_whole : (v : ℕ) → v < 1 → IsVm example_world v
vm_whole zero low = record {
  mask = one_mask;
  numbers = few_numbers;
  notice_hart = omega arith;
  same_mask = refl;
  start = refl;
  entries = refl;
}
vm_whole (suc v) low = absurd (omega (arith, low))

pub leaving_whole : IsWhole leaving_core.world
leaving_whole = record {
  harts = omega arith;
  guests = omega arith;
  files = refl;
  greatest = refl;
  width = widths;
  memory = memory_whole;
  no_pending_zero = λ q few. ap (λ word. has_bit word 0) (low_word (pending_place q 0) (omega (arith, few)));
  no_enabled_zero = λ q few. ap (λ word. has_bit word 0) (low_word (enable_place q 0) (omega (arith, few)));
  few = omega arith;
  tables = refl;
  flights = refl;
  vcpus = omega arith;
  vms = λ v low. vm_whole v low;
  stages = refl;
}

-- ---- the lines that lead there

pub leaving_lines : after_lines [] (earlier_lines ++ leave_lines) ≡ leaving_history
unfolding passes_of addresses_of domain_register_of wire_of enabled target pending after home flight in_force_of least_of look_saw file_by
    select_by ones all_senders genmsi_waits newest
leaving_lines = refl
