-- What the places of a virtual hart show where nothing of them changed, and what of a core that
-- stands for a history an event leaves which is nothing to any home.
use Rattle.aia_model.specs.declared.line.Line.TheVariants.{Refetch}
use Rattle.std.proofs.Common.{◌≡◌, ℕ, ◌+◌, ◌/◌, Bool, true, false, ◌∷◌, Option, Some, None, refl, sym, ap, subst, ◌∙◌, not, is_some}
use Rattle.std.proofs.lemmas.Bool.{not-true}
use Rattle.std.specs.Prelude.{slice_index}
use Rattle.std.specs.List.{list_any}
use Rattle.std.specs.Option.{option_map_or}
use Rattle.aia_file.specs.InterruptFile.{InterruptFile, empty_file}
use Rattle.aia_file.specs.FileState.{shown}
use Rattle.aia_file.specs.Imsic.{file_at}
use Rattle.aia_file.specs.Mrif.{mrif_in}
use Rattle.aia_major.specs.VsMajor.{VsMajorState}
use Rattle.aia_major.specs.Kept.{majors_shown}
use Rattle.aia_entry.specs.Tables.{table_of, entry_in_force}
use Rattle.aia_vcpu.specs.declared.place.GuestPlace.{GuestPlace}
use Rattle.aia_vcpu.specs.Vms.{Vcpu, slot_of, notice_hart, all_vcpus}
use Rattle.aia_vcpu.specs.Home.{Home, holds}
use Rattle.aia_vcpu.specs.BySteps.{own_file, next_file}
use Rattle.aia_vcpu.proofs.HomeLemmas.{own_is_held, next_is_held}
use Rattle.aia_vcpu_places.specs.Places.{Places}
use Rattle.aia_vcpu_places.specs.Holds.{Hand, Holds}
use Rattle.aia_move_values.specs.PlanState.{moving_of}
use Rattle.aia_move_values.specs.Touches.{SameMachine}
use Rattle.aia_move_values.proofs.StepLemmas.{fits_still}
use Rattle.aia_move_values.proofs.MachineLemmas.{phase_still}
use Rattle.aia_hyp_values.specs.Core.{Stay}
use Rattle.aia_hyp_values.specs.declared.vcpu.Stay.TheVariants as stays
use Rattle.aia_vcpu_places.specs.Stores.{AreApart}
use Rattle.aia_fabric_values.specs.World.{World, stage_of}
use Rattle.aia_fabric_values.specs.Making.{entry_word_place}
use Rattle.aia_fabric_values.specs.Changes.{spot_of, file_in}
use Rattle.aia_move_values.specs.Views.{places_of}
use Rattle.aia_model.specs.declared.line.Line.{Line}
use Rattle.aia_model.specs.declared.line.Line.TheVariants as lines
use Rattle.aia_model.specs.declared.msi.Msi.{Msi}
use Rattle.aia_model.specs.Event.{Event, History, MachineSize, machine_of, file_words}
use Rattle.aia_model.specs.Event.Event.{Accepted, Began, Stepped, Delivered, Landed, Relayed}
use Rattle.aia_model.specs.Passes.{passes_of}
use Rattle.aia_model.specs.Aim.{PassAtRest}
use Rattle.aia_vcpu.specs.Home.{is_moving}
use Rattle.aia_hyp_values.specs.Passes.{own_passes, HasItsPasses}
use Rattle.aia_model.specs.Vms.{vms_of}
use Rattle.aia_model.specs.FileAfter.{select_after, file_after, select_by}
use Rattle.aia_model.specs.FileAfter.FileDeed.{Rests}
use Rattle.aia_model.specs.GuestFile.{guest_deed, guest_select, guest_file}
use Rattle.aia_model.specs.MajorOf.{majors_of, majors_after}
use Rattle.aia_model.specs.ReachOf.{in_force_of, in_force_after, NoneAtFence}
use Rattle.aia_model.proofs.FlightLemmas.{SendsToOne}
use Rattle.aia_model.specs.Flight.{flight}
use Rattle.aia_model.specs.Move.{WantedMove}
use Rattle.aia_model.specs.HomeOf.{home, moved, rest_after}
use Rattle.aia_model.specs.Notice.{a_look_saw}
use Rattle.aia_model.proofs.FileLemmas.{file_by_step}
use Rattle.aia_model.proofs.ReachLemmas.{reach_step, none_rests}
use Rattle.aia_model.proofs.MoveLemmas.{home_step, seen_stays}
use Rattle.aia_hyp_values.specs.Core.{VcpuRecord}
use Rattle.aia_hyp_values.specs.Core.{CoreState, record_of, home_in, hand_in}
use Rattle.aia_hyp_values.specs.Stands.{PlanStands, VcpuStands, is_held}

-- ---- what places of a home show

file_same : (w u : World) (o : Option GuestPlace) → u.n ≡ w.n
    → ((p : GuestPlace) → o ≡ Some p → file_at u.imsic (spot_of p) ≡ file_at w.imsic (spot_of p)) → file_in u o ≡ file_in w o
file_same w u None n same = ap empty_file n
file_same w u (Some p) n same = ap shown (same p refl)

-- what of the world a virtual hart with a home has, in another world
pub record SameFor (w u : World) (g : Vcpu) (there : Home) : Type 0 where
  pub n : u.n ≡ w.n
  pub files : (p : GuestPlace) → holds p there ≡ true → file_at u.imsic (spot_of p) ≡ file_at w.imsic (spot_of p)
  pub slot : mrif_in u.memory (slot_of u.vms g) ≡ mrif_in w.memory (slot_of w.vms g)
  pub word0 : slice_index u.memory (entry_word_place g.vm g.vcpu) ≡ slice_index w.memory (entry_word_place g.vm g.vcpu)
  pub word1 : slice_index u.memory (entry_word_place g.vm g.vcpu + 1) ≡ slice_index w.memory (entry_word_place g.vm g.vcpu + 1)
  pub in_force : entry_in_force (table_of u.tables g.vm) g.vcpu ≡ entry_in_force (table_of w.tables g.vm) g.vcpu
  pub stage : stage_of u g ≡ stage_of w g

pub same_view : (w u : World) (g : Vcpu) (there : Home) → SameFor w u g there → places_of u g there ≡ places_of w g there
same_view w u g there same =
    let own : file_in u (own_file there) ≡ file_in w (own_file there) =
    file_same w u (own_file there) same.n (λ p e. same.files p (own_is_held there p e)) in
    let next : file_in u (next_file there) ≡ file_in w (next_file there) =
    file_same w u (next_file there) same.n (λ p e. same.files p (next_is_held there p e)) in
    λ k. record {
      own = own k;
      next = next k;
      slot = same.slot k;
      word0 = same.word0 k;
      word1 = same.word1 k;
      in_force = same.in_force k;
      stage = (same.stage k).written;
      stage_in_force = (same.stage k).in_force;
    }

-- a world in which files alone changed, none of them this home's
pub files_alone : (w u : World) (g : Vcpu) (there : Home) → u ≡ record w { imsic = u.imsic }
    → ((p : GuestPlace) → holds p there ≡ true → file_at u.imsic (spot_of p) ≡ file_at w.imsic (spot_of p)) → SameFor w u g there
files_alone w u g there rest files = record {
  n = ap (λ (w : World). w.n) rest;
  files = files;
  slot = ap (λ (w : World). mrif_in w.memory (slot_of w.vms g)) rest;
  word0 = ap (λ (w : World). slice_index w.memory (entry_word_place g.vm g.vcpu)) rest;
  word1 = ap (λ (w : World). slice_index w.memory (entry_word_place g.vm g.vcpu + 1)) rest;
  in_force = ap (λ (w : World). entry_in_force (table_of w.tables g.vm) g.vcpu) rest;
  stage = ap (λ (w : World). stage_of w g) rest;
}

-- ---- what is held of them

-- all that a virtual hart's places are to hold
pub record Wanted : Type 0 where
  pub words : ℕ
  pub slot : ℕ
  pub hart : ℕ
  pub reach : Option GuestPlace
  pub shows : Places
  pub there : Home
  pub hand : Hand
  pub file : InterruptFile
  pub saw : Bool

abbrev pub IsHeld : Wanted → Type 0
IsHeld a = Holds a.words a.slot a.hart a.reach a.shows a.there a.hand a.file a.saw

abbrev pub wanted : World → History → Vcpu → Hand → Wanted
wanted w h g hand = record {
  words = file_words h;
  slot = slot_of (vms_of h) g;
  hart = notice_hart (vms_of h) g;
  reach = in_force_of h g;
  shows = places_of w g (home h g);
  there = home h g;
  hand = hand;
  file = guest_file h g;
  saw = a_look_saw h g;
}

-- ---- events that are nothing to any home

-- The machine and its VMs stay, where each virtual hart is, where its stores are led, and what its
-- looks saw; and the passes to those that are moved.
pub record StaysPut (h : History) (event : Event) : Type 0 where
  pub machine : machine_of (event ∷ h) ≡ machine_of h
  pub vms : vms_of (event ∷ h) ≡ vms_of h
  pub homes : (g : Vcpu) → home (event ∷ h) g ≡ home h g
  pub reach : (g : Vcpu) → in_force_of (event ∷ h) g ≡ in_force_of h g
  pub seen : (g : Vcpu) → a_look_saw (event ∷ h) g ≡ a_look_saw h g
  pub passes : (g : Vcpu) → is_moving (home h g) ≡ true → own_passes 0 g (passes_of (event ∷ h)) ≡ own_passes 0 g (passes_of h)

-- whether an event is another one than the line that makes the machine
abbrev pub is_plain : Event → Bool
is_plain (Accepted (lines.Machine harts guests n sources)) = false
is_plain event = true

pub machine_kept : (event : Event) (h : History) → is_plain event ≡ true → machine_of (event ∷ h) ≡ machine_of h
machine_kept (Accepted (lines.Machine harts guests n sources)) h e = absurd (cc)
machine_kept (Accepted line) h e = refl
machine_kept (Began move) h e = refl
machine_kept (Stepped g) h e = refl
machine_kept (Landed vm k) h e = refl
machine_kept (Delivered msi) h e = refl
machine_kept (Relayed p) h e = refl

-- An event that is nothing to any home, and is another one than that line.
pub record IsQuiet (h : History) (event : Event) : Type 0 where
  pub stays : StaysPut h event
  pub plain : is_plain event ≡ true

pub same_n : (a b : Option MachineSize) → a ≡ b → option_map_or (λ (m : MachineSize). m.n) a 0 ≡ option_map_or (λ (m : MachineSize). m.n) b 0
same_n a b e = ap (λ (o : Option MachineSize). option_map_or (λ (m : MachineSize). m.n) o 0) e

pub same_words : (event : Event) (h : History) → machine_of (event ∷ h) ≡ machine_of h → file_words (event ∷ h) ≡ file_words h
same_words event h machine = ap (λ n. (n + 1) / 64) (same_n _ _ machine)

-- an event that passes nothing
pub none_passed : (h : History) (event : Event) → passes_of (event ∷ h) ≡ passes_of h → (g : Vcpu) → is_moving (home h g) ≡ true
    → own_passes 0 g (passes_of (event ∷ h)) ≡ own_passes 0 g (passes_of h)
none_passed h event same g moves = ap (own_passes 0 g) same

pub stays_line : (h : History) (line : Line) → machine_of (Accepted line ∷ h) ≡ machine_of h → vms_of (Accepted line ∷ h) ≡ vms_of h
    → ((g : Vcpu) → moved h (home h) (Accepted line) g ≡ home h g)
    → ((g : Vcpu) → in_force_after h g (Accepted line) (in_force_of h g) ≡ in_force_of h g)
    → ((g : Vcpu) → is_moving (home h g) ≡ true → own_passes 0 g (passes_of (Accepted line ∷ h)) ≡ own_passes 0 g (passes_of h))
    → StaysPut h (Accepted line)
stays_line h line machine vms homes reach passes = record {
  machine = machine;
  vms = vms;
  homes = λ g. home_step (Accepted line) h g ∙ homes g;
  reach = λ g. reach_step (Accepted line) h g ∙ reach g;
  seen = λ g. seen_stays (Accepted line) h g (same_words (Accepted line) h machine) (λ w was. refl);
  passes = passes;
}

-- whether a line makes neither the machine nor a VM, sends no store, reads no entry again, passes no
-- source and is not one by which a virtual hart runs from memory or ceases to
abbrev pub is_quiet_line : Line → Bool
is_quiet_line (lines.Machine harts guests n sources) = false
is_quiet_line (lines.Vm vcpus mask hart) = false
is_quiet_line (lines.Send vm addr value) = false
is_quiet_line (lines.Refetch vm vcpu) = false
is_quiet_line (lines.Pass source vm vcpu identity) = false
is_quiet_line line = not (is_some (rest_after line))

pub quiet_line : (h : History) (line : Line) → is_quiet_line line ≡ true → IsQuiet h (Accepted line)
unfolding passes_of
quiet_line h (lines.Machine harts guests n sources) e = absurd (cc)
quiet_line h (lines.Vm vcpus mask hart) e = absurd (cc)
quiet_line h (lines.Send vm addr value) e = absurd (cc)
quiet_line h (lines.Refetch vm vcpu) e = absurd (cc)
quiet_line h (lines.Pass source vm vcpu identity) e = absurd (cc)
quiet_line h line e = record {
  stays = stays_line h line refl refl (λ g. none_rests (rest_after line) g (home h g) (not-true _ e)) (λ g. refl)
      (λ g moves. refl);
  plain = refl;
}

pub quiet_send : (h : History) (vm addr value : ℕ) → IsQuiet h (Accepted (lines.Send vm addr value))
unfolding passes_of
quiet_send h vm addr value = record {
  stays = stays_line h (lines.Send vm addr value) refl refl (λ g. refl) (λ g. refl) (λ g moves. refl);
  plain = refl;
}

-- an event that is neither a line, nor of a move, nor a landing

pub quiet_msi : (h : History) (msi : Msi) → IsQuiet h (Delivered msi)
unfolding passes_of
quiet_msi h msi = record {
  stays = record {
    machine = refl;
    vms = refl;
    homes = λ g. home_step (Delivered msi) h g;
    reach = λ g. reach_step (Delivered msi) h g;
    seen = λ g. seen_stays (Delivered msi) h g refl (λ w was. refl);
    passes = λ g moves. refl;
  };
  plain = refl;
}

pub quiet_relay : (h : History) (p : ℕ) → IsQuiet h (Relayed p)
unfolding passes_of
quiet_relay h p = record {
  stays = record {
    machine = refl;
    vms = refl;
    homes = λ g. home_step (Relayed p) h g;
    reach = λ g. reach_step (Relayed p) h g;
    seen = λ g. seen_stays (Relayed p) h g refl (λ w was. refl);
    passes = λ g moves. refl;
  };
  plain = refl;
}

pub quiet_landing : (h : History) (vm k : ℕ) → IsQuiet h (Landed vm k)
unfolding passes_of
quiet_landing h vm k = record {
  stays = record {
    machine = refl;
    vms = refl;
    homes = λ g. home_step (Landed vm k) h g;
    reach = λ g. reach_step (Landed vm k) h g;
    seen = λ g. seen_stays (Landed vm k) h g refl (λ w was. refl);
    passes = λ g moves. refl;
  };
  plain = refl;
}

-- ---- events that are nothing to stores in flight, nor to passes

pub record IsStill (h : History) (event : Event) : Type 0 where
  pub first : NoneAtFence h event
  pub one : SendsToOne h event
  pub flights : (v : ℕ) → flight (event ∷ h) v ≡ flight h v
  pub passes : passes_of (event ∷ h) ≡ passes_of h
  pub rest : PassAtRest h event

pub still_line : (h : History) (line : Line) → is_quiet_line line ≡ true → IsStill h (Accepted line)
unfolding flight passes_of
still_line h (lines.Send vm addr value) plain = absurd (cc)
still_line h (lines.Pass source vm vcpu identity) plain = absurd (cc)
still_line h line plain = record { first = tt; one = tt; flights = λ v. refl; passes = refl; rest = tt }

pub still_msi : (h : History) (msi : Msi) → IsStill h (Delivered msi)
unfolding flight passes_of
still_msi h msi = record { first = tt; one = tt; flights = λ v. refl; passes = refl; rest = tt }

pub still_relay : (h : History) (p : ℕ) → IsStill h (Relayed p)
unfolding flight passes_of
still_relay h p = record { first = tt; one = tt; flights = λ v. refl; passes = refl; rest = tt }

pub still_move : (h : History) (move : WantedMove) → IsStill h (Began move)
unfolding flight passes_of
still_move h move = record { first = tt; one = tt; flights = λ v. refl; passes = refl; rest = tt }

pub still_step : (h : History) (g : Vcpu) → NoneAtFence h (Stepped g) → IsStill h (Stepped g)
unfolding flight passes_of
still_step h g first = record { first = first; one = tt; flights = λ v. refl; passes = refl; rest = tt }

pub select_is : (event : Event) (h : History) (g : Vcpu) → guest_select (event ∷ h) g ≡ select_after (guest_deed g h event) (guest_select h g)
unfolding select_by
select_is event h g = refl

pub majors_is : (event : Event) (h : History) (g : Vcpu) → majors_of (event ∷ h) g ≡ majors_after g event (majors_of h g)
unfolding majors_of
majors_is event h g = refl

-- an event is nothing to the majors of a virtual hart
abbrev pub MajorsRest : Vcpu → Event → Type 0
MajorsRest g event = (m : VsMajorState) → majors_after g event m ≡ m

pub majors_rest : (h : History) (event : Event) (g : Vcpu) → MajorsRest g event → majors_of (event ∷ h) g ≡ majors_of h g
majors_rest h event g rest = majors_is event h g ∙ rest (majors_of h g)

-- the plan of a move can go on where the machine's numbers and its VMs are the same
pub plan_stays : (w u : World) (g : Vcpu) (stay : Stay) → SameMachine w u → PlanStands w g stay → PlanStands u g stay
plan_stays w u g (stays.InMemory rest kept) same p = tt
plan_stays w u g (stays.Resident lease) same p = tt
plan_stays w u g (stays.Moving plan) same p = (fits_still w u (moving_of plan) same p.0, phase_still w u plan same p.1, p.2, p.3)

-- and has its passes still
pub passes_stay : (w : World) (h : History) (event : Event) (g : Vcpu) (stay : Stay) → home_in stay ≡ home h g → PlanStands w g stay
    → (is_moving (home h g) ≡ true → own_passes 0 g (passes_of (event ∷ h)) ≡ own_passes 0 g (passes_of h))
    → HasItsPasses (passes_of h) g stay → HasItsPasses (passes_of (event ∷ h)) g stay
passes_stay w h event g (stays.InMemory rest kept) at p same has = tt
passes_stay w h event g (stays.Resident lease) at p same has = tt
passes_stay w h event g (stays.Moving plan) at p same has = has ∙ sym (same (ap is_moving (sym at) ∙ p.3))

-- a deed was done at the file of a virtual hart, which its places hold then
pub guest_done : (x y : CoreState) (h : History) (event : Event) (g : Vcpu) → StaysPut h event → SameMachine x.world y.world
    → (record_of y g).stay ≡ (record_of x g).stay → (record_of y g).select ≡ select_after (guest_deed g h event) (record_of x g).select
    → majors_shown (record_of y g).majors ≡ majors_after g event (majors_shown (record_of x g).majors)
    → (Holds (file_words h) (slot_of (vms_of h) g) (notice_hart (vms_of h) g) (in_force_of h g) (places_of x.world g (home h g)) (home h g)
    (hand_in (record_of x g).stay) (guest_file h g) (a_look_saw h g)
    → Holds (file_words h) (slot_of (vms_of h) g) (notice_hart (vms_of h) g) (in_force_of h g) (places_of y.world g (home h g)) (home h g)
    (hand_in (record_of x g).stay) (file_after (guest_select h g) (guest_deed g h event) (guest_file h g)) (a_look_saw h g))
    → VcpuStands x h g → VcpuStands y (event ∷ h) g
guest_done x y h event g quiet same stay select majors keeps p =
    let words = same_words event h quiet.machine in
    let file = file_by_step (guest_deed g) event h in
    record {
      same_home = ap home_in stay ∙ p.same_home ∙ sym (quiet.homes g);
      select = select ∙ ap (select_after (guest_deed g h event)) p.select ∙ sym (select_is event h g);
      majors = majors ∙ ap (majors_after g event) p.majors ∙ sym (majors_is event h g);
      two_files = subst AreApart (sym (quiet.homes g)) p.two_files;
      plan = subst (PlanStands y.world g) (sym stay) (plan_stays x.world y.world g (record_of x g).stay same p.plan);
      passes = subst (HasItsPasses (passes_of (event ∷ h)) g) (sym stay)
          (passes_stay x.world h event g (record_of x g).stay p.same_home p.plan (quiet.passes g) p.passes);
      holds = subst IsHeld (λ k. record {
        words = sym words k;
        slot = slot_of (sym quiet.vms k) g;
        hart = notice_hart (sym quiet.vms k) g;
        reach = sym (quiet.reach g) k;
        shows = places_of y.world g (sym (quiet.homes g) k);
        there = sym (quiet.homes g) k;
        hand = hand_in (sym stay k);
        file = sym file k;
        saw = sym (quiet.seen g) k;
      }) (keeps p.holds);
    }

-- nothing was done at it, and its places show what they showed
pub guest_rests : (x y : CoreState) (h : History) (event : Event) (g : Vcpu) → StaysPut h event → SameMachine x.world y.world
    → guest_deed g h event ≡ Rests → MajorsRest g event → record_of y g ≡ record_of x g → SameFor x.world y.world g (home h g) → VcpuStands x h g
    → VcpuStands y (event ∷ h) g
guest_rests x y h event g quiet machine rests nothing same shows p =
    guest_done x y h event g quiet machine (ap (λ (r : VcpuRecord). r.stay) same)
    (ap (λ (r : VcpuRecord). r.select) same ∙ ap (λ deed. select_after deed (record_of x g).select) (sym rests))
    (ap (λ (r : VcpuRecord). majors_shown r.majors) same ∙ sym (nothing (majors_shown (record_of x g).majors)))
    (λ held. subst IsHeld (λ k. record {
      words = file_words h;
      slot = slot_of (vms_of h) g;
      hart = notice_hart (vms_of h) g;
      reach = in_force_of h g;
      shows = sym (same_view x.world y.world g (home h g) shows) k;
      there = home h g;
      hand = hand_in (record_of x g).stay;
      file = file_after (guest_select h g) (sym rests k) (guest_file h g);
      saw = a_look_saw h g;
    }) held) p

-- who holds a file holds it still
pub held_stays : (h : History) (event : Event) → StaysPut h event → (p : GuestPlace) → is_held (event ∷ h) p ≡ is_held h p
held_stays h event quiet p = λ k. list_any (λ g. holds p (quiet.homes g k)) (all_vcpus (quiet.vms k))
