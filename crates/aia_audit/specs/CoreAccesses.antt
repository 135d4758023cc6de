-- The steps of plans as the accesses of the hypervisor's core. Vocabulary.
use Rattle.std.specs.Prelude.{ℕ, List}
use Rattle.aia_plan.specs.declared.step.Kind.{Kind}
use Rattle.aia_plan.specs.declared.step.Kind.TheVariants as kinds
use Rattle.aia_plan.specs.declared.step.Step.{Step}
use Rattle.aia_plan.specs.declared.step.Step.TheVariants as steps
use Rattle.aia_vcpu.specs.declared.end.End.TheVariants.{File, Memory}
use Rattle.aia_vcpu.specs.Plans.{plan}
use Rattle.aia_vcpu.specs.declared.access.Access.{Access}
use Rattle.aia_vcpu.specs.declared.access.Access.TheVariants.{TakeDelivery, PutDelivery, WriteNotice, WriteEntry, Fence, Map, GFence, TakePending, PutPending, TakeEnables, PutEnables, Look, TakeThreshold, PutThreshold, Post}

-- The access that a step is.
abbrev pub access_of : Step → Access
access_of steps.Quiet = TakeDelivery
access_of steps.Word1 = WriteNotice
access_of steps.Word0 = WriteEntry
access_of steps.Fence = Fence
access_of steps.Map = Map
access_of steps.Unmap = Map
access_of steps.Remap = Map
access_of steps.GFence = GFence
access_of (steps.TakeP w) = TakePending w
access_of (steps.PutP w) = PutPending w
access_of (steps.TakeE w) = TakeEnables w
access_of (steps.PutE w) = PutEnables w
access_of (steps.Look w) = Look w
access_of steps.TakeT = TakeThreshold
access_of steps.PutT = PutThreshold
access_of steps.Post = Post
access_of steps.Wake = PutDelivery

-- The accesses that the core makes for a move of each kind, of files of so many words, in order.
abbrev pub core_accesses : Kind → ℕ → List Access
core_accesses kinds.Leave words = plan File Memory words
core_accesses kinds.Arrive words = plan Memory File words
core_accesses kinds.Shift words = plan File File words
