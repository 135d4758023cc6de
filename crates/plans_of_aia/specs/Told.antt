-- The plan of a move of this project's core, told as anybody's plan, and as one of our shape.
-- Profile.
use Rattle.std.specs.Prelude.{ℕ, true, false, not, List, [], ◌∷◌, ◌++◌, map}
use Rattle.aia_vcpu.specs.declared.end.End.{End}
use Rattle.aia_vcpu.specs.Home.{is_file}
use Rattle.aia_vcpu.specs.declared.end.End.TheVariants.{File, Memory}
use Rattle.aia_vcpu.specs.Plans.{plan}
use Rattle.aia_vcpu.specs.declared.access.Access.{Access}
use Rattle.aia_vcpu.specs.declared.access.Access.TheVariants as accesses
use Rattle.aia_plan.specs.declared.step.Kind.{Kind}
use Rattle.aia_plan.specs.declared.step.Kind.TheVariants as kinds
use Rattle.aia_plan.specs.declared.step.Step.{Step as OurStep}
use Rattle.aia_plan.specs.declared.step.Step.TheVariants as ours
use Rattle.aia_plan.specs.Plan.{WrittenPlan}
use Rattle.aia_plan.specs.Rule.{own_record}
use Rattle.plans_rules.specs.declared.step.WhichSet.TheVariants.{Pending, Enabled}
use Rattle.plans_rules.specs.declared.step.Number.TheVariants.{Threshold, Delivery}
use Rattle.plans_rules.specs.declared.setting.NumberSpot.{NumberSpot}
use Rattle.plans_rules.specs.declared.setting.NumberSpot.TheVariants.{InOld, InHand, InNew}
use Rattle.plans_rules.specs.declared.step.AnyStep.{AnyStep}
use Rattle.plans_rules.specs.declared.step.AnyStep.TheVariants.{Route, Fence, Take, Join, Put, TakeNumber, PutNumber, Look, Post, WriteNotice, Free}
use Rattle.plans_rules.specs.Setting.{Setting}
use Rattle.plans_of_aia.specs.Translated.{our_producers}

-- The step that an access is, of the producers of ours.
abbrev pub told : Access → AnyStep
told accesses.TakeDelivery = TakeNumber Delivery
told accesses.PutDelivery = PutNumber Delivery
told accesses.WriteNotice = WriteNotice
told accesses.WriteEntry = Route 0
told accesses.Fence = Fence 0
told accesses.Map = Route 1
told accesses.GFence = Fence 1
told (accesses.TakePending w) = Take Pending w
told (accesses.PutPending w) = Join Pending w
told (accesses.TakeEnables w) = Take Enabled w
told (accesses.PutEnables w) = Put Enabled w
told (accesses.Look w) = Look w
told accesses.TakeThreshold = TakeNumber Threshold
told accesses.PutThreshold = PutNumber Threshold
told accesses.Post = Post

-- At its end a move gives back the guest file that it left, which is no access.
abbrev pub given_back : End → List AnyStep
given_back File = Free ∷ []
given_back Memory = []

-- The plan of a move from one end to another, of files of so many words: its accesses, each as a
-- step of such a plan, in their order.
abbrev pub told_plan : End → End → ℕ → List AnyStep
told_plan from to words = map told (plan from to words) ++ given_back from

-- The same plan, where enables are joined to those of the new place and not put over them.
abbrev pub joined : AnyStep → AnyStep
joined (Put s w) = Join s w
joined step = step

abbrev pub joined_plan : End → End → ℕ → List AnyStep
joined_plan from to words = map joined (told_plan from to words)

-- Where the numbers are at an end: in the file there, or kept by the hypervisor.
abbrev pub number_at : NumberSpot → End → NumberSpot
number_at in_file File = in_file
number_at in_file Memory = InHand

-- What is declared for such a move: where memory is the new place, its notices go nowhere until it
-- is written where they go.
abbrev pub told_setting : End → End → ℕ → Setting
told_setting from to words = record {
  producers = our_producers;
  words = words;
  is_fresh = true;
  in_memory = not (is_file to);
  heeds = false;
  notices_go = is_file to;
  is_inherited = false;
  number_from = number_at InOld from;
  number_to = number_at InNew to;
}

-- ---- as a plan of our shape

-- The end that a move of each kind leaves, and the one to which it leads.
abbrev pub old_end_of : Kind → End
old_end_of kinds.Leave = File
old_end_of kinds.Arrive = Memory
old_end_of kinds.Shift = File

abbrev pub new_end_of : Kind → End
new_end_of kinds.Leave = Memory
new_end_of kinds.Arrive = File
new_end_of kinds.Shift = File

-- The step that an access is, in a move of a kind.
abbrev pub shaped : Kind → Access → OurStep
shaped kind accesses.TakeDelivery = ours.Quiet
shaped kind accesses.PutDelivery = ours.Wake
shaped kind accesses.WriteNotice = ours.Word1
shaped kind accesses.WriteEntry = ours.Word0
shaped kind accesses.Fence = ours.Fence
shaped kind accesses.Map = own_record kind
shaped kind accesses.GFence = ours.GFence
shaped kind (accesses.TakePending w) = ours.TakeP w
shaped kind (accesses.PutPending w) = ours.PutP w
shaped kind (accesses.TakeEnables w) = ours.TakeE w
shaped kind (accesses.PutEnables w) = ours.PutE w
shaped kind (accesses.Look w) = ours.Look w
shaped kind accesses.TakeThreshold = ours.TakeT
shaped kind accesses.PutThreshold = ours.PutT
shaped kind accesses.Post = ours.Post

-- The plan of a move of a kind, of files of so many words.
abbrev pub shaped_plan : Kind → ℕ → WrittenPlan
shaped_plan kind words = map (shaped kind) (plan (old_end_of kind) (new_end_of kind) words)
