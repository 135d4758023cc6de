-- A history in which one virtual hart is resident in a guest file and another one, to which a wired
-- source is passed, is leaving its own; and the core that stands for it.
use Rattle.std.specs.Prelude.{ℕ, nat_eq, ◌+◌, ◌-◌, ◌*◌, length, true, false, List, [], ◌∷◌, ◌++◌, replicate, Some, None, zero, suc}
use Rattle.aia_vcpu.specs.declared.access.Access.TheVariants.{PutPending}
use Rattle.aia_vcpu.specs.declared.end.End.TheVariants.{File, Memory}
use Rattle.aia_vcpu.specs.Plans.{plan_step}
use Rattle.aia_regs.specs.declared.limits.TheConstants.{HARTS, VCPUS, ENTRIES, WORDS_OF_SLOTS, MEMORY_WORDS}
use Rattle.aia_regs.specs.declared.access.Csr.{Csr}
use Rattle.aia_regs.specs.declared.access.Csr.TheVariants.{Select, Reg}
use Rattle.aia_regs.specs.declared.access.Op.TheVariants.{Write}
use Rattle.aia_file.specs.FileState.{FileState}
use Rattle.aia_file.specs.Imsic.{ImsicState}
use Rattle.aia_entry.specs.declared.entry.Entry.TheVariants.{NotValid}
use Rattle.aia_entry.specs.Tables.{TableState}
use Rattle.aia_vcpu.specs.declared.place.GuestPlace.{GuestPlace}
use Rattle.aia_vcpu.specs.Vms.{Vcpu, vcpu_of}
use Rattle.aia_vcpu.specs.Home.{Progress}
use Rattle.aia_vcpu.specs.Home.Home.{Resident, OnWay}
use Rattle.aia_vcpu.specs.Home.Way.{Outward}
use Rattle.aia_vcpu.specs.Phases.Phase.{DrainPhase}
use Rattle.aia_major.specs.Kept.{kept_at_first}
use Rattle.aia_vcpu_places.specs.Places.{leads_to, entry_word, second_word}
use Rattle.aia_fabric_values.specs.declared.stage.Stage.{Stage}
use Rattle.aia_fabric_values.specs.World.{World, no_stage}
use Rattle.aia_fabric_values.specs.Making.{new_world, table_byte}
use Rattle.aia_file.specs.InterruptFile.{InterruptFile}
use Rattle.aia_vcpu.specs.Aims.{target_to}
use Rattle.aia_fabric_values.specs.declared.flying.Flying.{Flying}
use Rattle.aia_move_values.specs.Move.{Moving}
use Rattle.aia_move_values.specs.PlanState.{PlanState}
use Rattle.aia_move_values.specs.Targets.{TargetMap}
use Rattle.aia_model.specs.declared.line.Line.{Line}
use Rattle.aia_model.specs.declared.line.Line.TheVariants as lines
use Rattle.aia_model.specs.declared.want.Want.TheVariants as wants
use Rattle.aia_model.specs.Move.WantedMove.{Arrives, Leaves}
use Rattle.aia_model.specs.Move.{WantedMove, mover}
use Rattle.aia_model.specs.Event.{History, file_words}
use Rattle.aia_model.specs.Event.Event.{Accepted, Began, Stepped}
use Rattle.aia_model.specs.Passes.{PassedSource}
use Rattle.aia_model.specs.HomeOf.{guest_place}
use Rattle.aia_model.specs.Answer.{steps_of}
use Rattle.aia_hyp_values.specs.declared.vcpu.Stay.TheVariants as stays
use Rattle.aia_hyp_values.specs.Core.{CoreState}

-- Lines are accepted, the first of a list first, that are no moves and send nothing.
abbrev pub accepted : List Line → History → History
accepted [] h = h
accepted (line ∷ later) h = accepted later (Accepted line ∷ h)

-- So many steps of a virtual hart's move, and a whole move of which so many steps aim, with nothing
-- in flight.
abbrev pub stepped_on : ℕ → Vcpu → History → History
stepped_on zero g h = h
stepped_on (suc count) g h = stepped_on count g (Stepped g ∷ h)

abbrev pub moved_whole : ℕ → History → WantedMove → History
moved_whole aims h move =
    stepped_on (steps_of (file_words h) move + aims) (mover move) (Began move ∷ h)

-- ---- what has happened

-- The virtual hart that is resident, and the one that leaves.
abbrev pub stayer : Vcpu
stayer = vcpu_of 0 0

abbrev pub leaver : Vcpu
leaver = vcpu_of 0 1

-- Stores that make a source passable: the child domain has it, as an edge, and delivers by MSIs;
-- and the registers of MSI addresses make these reach the files of the map.
abbrev pub passable_lines : List Line
passable_lines = lines.Store 0x0c000004 0x400 ∷ lines.Store 0x0c008004 4
    ∷ lines.Store 0x0c008000 0x104 ∷ lines.Store 0x0c001bc4 0x2000
    ∷ lines.Store 0x0c001bc8 0x28000 ∷ lines.Store 0x0c001bcc 0x500000 ∷ []

-- A machine of one hart with three guest files and one source is made, which is made passable; then
-- a VM of two virtual harts, and the source is passed to the one that leaves, as identity 5.
abbrev pub made_lines : List Line
made_lines = lines.Machine 1 3 63 1 ∷ passable_lines
    ++ lines.Vm 2 8 0 ∷ lines.Pass 1 0 1 5 ∷ []

abbrev pub made_history : History
made_history = accepted made_lines []

abbrev pub the_pass : PassedSource
the_pass = record { source = 1; to = leaver; identity = 5 }

-- Both virtual harts arrive.
abbrev pub stayer_arrived : History
stayer_arrived = moved_whole 0 made_history (Arrives stayer 0)

abbrev pub both_arrived : History
both_arrived = moved_whole 1 stayer_arrived (Arrives leaver 0)

-- A write of the one that leaves to a CSR of its file.
abbrev pub guest_write : Csr → ℕ → Line
guest_write csr value = lines.GuestCsr 0 1 csr (Write value)

-- The one that leaves writes 1 to eidelivery and enables identity 1, which the other one then
-- stores to its file.
abbrev pub before_leaving : History
before_leaving = Accepted (lines.Ipi 0 0 1 1)
    ∷ Accepted (guest_write Reg 2) ∷ Accepted (guest_write Select 0xc0)
    ∷ Accepted (guest_write Reg 1) ∷ Accepted (guest_write Select 0x70) ∷ both_arrived

-- It begins to leave, and is to put the one word of the pending set into its slot next: eidelivery
-- is taken, all routes lead to the slot, the source is aimed at its notice hart, and that word is
-- taken.
abbrev pub so_far : Progress
so_far = record { steps = plan_step File Memory 1 (PutPending 0); aims = 1 }

abbrev pub steps_so_far : ℕ
steps_so_far = so_far.steps + so_far.aims

abbrev pub leaving_history : History
leaving_history = stepped_on steps_so_far leaver (Began (Leaves leaver) ∷ before_leaving)

-- The lines that lead to it: up to the move that is under way, and those of that move.
abbrev pub earlier_lines : List Line
earlier_lines = made_lines ++ lines.Move 0 0 (wants.Arrive 0) ∷ lines.Move 0 1 (wants.Arrive 0)
    ∷ guest_write Select 0x70 ∷ guest_write Reg 1
    ∷ guest_write Select 0xc0 ∷ guest_write Reg 2 ∷ lines.Ipi 0 0 1 1 ∷ []

abbrev pub leave_lines : List Line
leave_lines = lines.Begin 0 1 wants.Leave ∷ replicate steps_so_far (lines.Step 0 1)

-- ---- the core then

-- The guest files of both.
abbrev pub stayer_file : GuestPlace
stayer_file = guest_place 0 1

abbrev pub leaver_file : GuestPlace
leaver_file = guest_place 0 2

-- A file of which nothing is pending or enabled.
abbrev pub empty_state : FileState
empty_state = record { n = 63; pending = 0 ∷ []; enabled = 0 ∷ []; threshold = 0; delivery = 0 }

-- A file of which identity 1 is enabled, and nothing is pending any more.
abbrev pub drained_state : FileState
drained_state =
    record { n = 63; pending = 0 ∷ []; enabled = 2 ∷ []; threshold = 0; delivery = 0 }

-- The files of the hart: at machine level, of the host, and the guest files 1 to 3.
abbrev pub example_files : ImsicState
example_files = record {
  harts = 1;
  guests = 3;
  files = empty_state ∷ empty_state ∷ empty_state ∷ drained_state ∷ empty_state ∷ [];
}

-- Both words of both entries: one leads to a guest file, the other one to a slot.
abbrev pub entry_words : List ℕ
entry_words = entry_word 0 (Some stayer_file) ∷ second_word 0 0
    ∷ entry_word 1 None ∷ second_word 1 0 ∷ []

-- Memory: the slots, which are empty, the two entries, and 0 after them.
abbrev pub example_memory : List ℕ
example_memory =
    replicate WORDS_OF_SLOTS 0 ++ entry_words
    ++ replicate (MEMORY_WORDS - WORDS_OF_SLOTS - length entry_words) 0

-- The VM's table, with both entries in force as they are written.
abbrev pub example_table : TableState
example_table = record {
  mask = 8;
  start = table_byte 0;
  in_force = leads_to 0 0 (Some stayer_file) ∷ leads_to 1 0 None
      ∷ replicate (ENTRIES - 2) NotValid;
}

-- A G-stage record that names a file, and has it in force.
abbrev pub stage_to : GuestPlace → Stage
stage_to p = record { written = Some p; in_force = Some p }

abbrev pub example_world : World
example_world = record (new_world example_files 63) {
  memory = example_memory;
  vms = record { vcpus = 2; mask = 8; notice_hart = 0 } ∷ [];
  tables = example_table ∷ [];
  flights = [] ∷ [];
  stages = stage_to stayer_file ∷ replicate (VCPUS - 1) no_stage;
}

-- The leave so far: it carries eidelivery and the word with identity 1.
abbrev pub leave_under_way : Moving
leave_under_way = record {
  who = record {
    found = record { vm = 0; vcpu = 1; slot = 1; notice = 0 };
    passes = record { items = record { source = 1; identity = 5; number = 0 } ∷ [] };
  };
  home = OnWay (Outward leaver_file) so_far;
  hand = record { word = 2; delivery = 1; threshold = 0; seen = false };
}

-- Of the guest files two are out; one virtual hart is resident, the other one is moved.
abbrev pub leaving_core : CoreState
leaving_core = record {
  world = example_world;
  leases = record { harts = 1; guests = 3; out = true ∷ true ∷ false ∷ [] };
  vcpus = record { stay = stays.Resident stayer_file; select = 0; majors = kept_at_first }
      ∷ record {
        stay = stays.Moving (record { moving = leave_under_way; phase = Some DrainPhase });
        select = 0xc0;
        majors = kept_at_first;
      } ∷ [];
  selects = replicate (2 * HARTS) 0;
  passes = the_pass ∷ [];
}

-- ---- the ways and the targets then

-- The plan of the leave, which puts its word next.
abbrev pub leave_plan : PlanState
leave_plan = record { moving = leave_under_way; phase = Some DrainPhase }

-- Two stores in flight: one of the VM's devices for the one that leaves, which its entry led to the
-- slot, and one for the other one, led to that one's file.
abbrev pub sent_to_leaver : Flying
sent_to_leaver = record { entry = leads_to 1 0 None; offset = 0; value = 3 }

abbrev pub sent_to_stayer : Flying
sent_to_stayer = record { entry = leads_to 0 0 (Some stayer_file); offset = 0; value = 5 }

abbrev pub flying_world : World
flying_world =
    record example_world { flights = (sent_to_leaver ∷ sent_to_stayer ∷ []) ∷ [] }

-- The targets: the one source is ready, and aimed at the notice hart, with the identity of its
-- pass.
abbrev pub example_targets : TargetMap
example_targets = record {
  harts = 1;
  target = λ s. target_to 0 0 5 None;
  ready = λ s. nat_eq s 1;
}

-- The interrupt file of the one that leaves: identity 1 is pending and enabled.
abbrev pub leaver_interrupts : InterruptFile
leaver_interrupts = record {
  n = 63;
  pending = λ i. nat_eq 1 i;
  enabled = λ i. nat_eq 1 i;
  threshold = 0;
  delivery = 1;
}

-- The other one, at rest in its guest file; no source is passed to it.
abbrev pub stayer_at_rest : Moving
stayer_at_rest = record {
  who = record {
    found = record { vm = 0; vcpu = 0; slot = 0; notice = 0 };
    passes = record { items = [] };
  };
  home = Resident stayer_file;
  hand = record { word = 0; delivery = 0; threshold = 0; seen = false };
}
