-- The passes of wired sources as the core keeps them and its plans have them, and what calls make
-- of the targets of sources. Profile: passes.
use Rattle.std.specs.Prelude.{◌≡◌, ℕ, zero, suc, true, nat_eq, length, slice_index_or, if◌then◌else◌, List, [], ◌∷◌, Option, Some, None}
use Rattle.std.specs.Int.{is_in_range}
use Rattle.aia_word.specs.Sets.{least_of}
use Rattle.std.specs.List.{AllByRecursion}
use Rattle.aia_vcpu.specs.Vms.{Vcpu, vcpu_of, is_vcpu}
use Rattle.aia_move_values.specs.declared.who.Pass as plans
use Rattle.aia_move_values.specs.Targets.{TargetMap}
use Rattle.aia_move_values.specs.PlanState.{moving_of}
use Rattle.aia_model.specs.Event.{History, sources_of, greatest_identity_of}
use Rattle.aia_model.specs.Event.Event.{Stepped}
use Rattle.aia_model.specs.Vms.{has_vcpu}
use Rattle.aia_model.specs.Act.{Act}
use Rattle.aia_model.specs.Act.Act.{Aimed}
use Rattle.aia_model.specs.Sent.{acts_of}
use Rattle.aia_model.specs.Passes.{PassedSource, no_pass, passes_of}
use Rattle.aia_model.specs.Passable.{is_passable}
use Rattle.aia_model.specs.Aim.{aimed_by, AllAreAimed}
use Rattle.aia_model.specs.Answer.{steps_taken}
use Rattle.aia_hyp_values.specs.Core.{Stay}
use Rattle.aia_hyp_values.specs.declared.vcpu.Stay.TheVariants as stays
use Rattle.aia_hyp_values.specs.declared.passed.Passed.{Passed}
use Rattle.aia_hyp_values.specs.Core.{CoreState}

-- ---- what is kept

-- A pass as the core keeps it.
abbrev pub pass_shown : Passed → PassedSource
pass_shown p = record { source = p.source; to = vcpu_of p.vm p.vcpu; identity = p.identity }

-- The number that the pass of a source has among some passes; None where it has none, or no source
-- is given.
abbrev pub number_of_pass : List PassedSource → Option ℕ → Option ℕ
number_of_pass passes None = None
number_of_pass passes (Some s) =
    least_of (λ p. nat_eq (slice_index_or passes p no_pass).source s) 0 (length passes)

-- Those of some passes that are to a virtual hart, as its plan has them, if the first of all has
-- this number.
abbrev pub own_passes : ℕ → Vcpu → List PassedSource → List plans.Pass
own_passes number g [] = []
own_passes number g (x ∷ later) =
    if is_vcpu x.to g
    then record { source = x.source; identity = x.identity; number = number }
    ∷ own_passes (suc number) g later
    else own_passes (suc number) g later

-- The plan of a move has the passes to its virtual hart, in order.
abbrev pub HasItsPasses : List PassedSource → Vcpu → Stay → Type 0
HasItsPasses passes g (stays.Moving plan) =
    (moving_of plan).who.passes.items ≡ own_passes 0 g passes
HasItsPasses passes g stay = Unit {0}

-- A pass is to a virtual hart that is there, as an identity of its file.
abbrev pub IsToOne : History → PassedSource → Type 0
IsToOne h pass =
    (has_vcpu h pass.to ≡ true) × (is_in_range 1 (greatest_identity_of h) pass.identity ≡ true)

-- The passes of the core are those of the history, each to a virtual hart that is there; and those
-- of each virtual hart are aimed as its move has come.
pub record PassesKept (x : CoreState) (h : History) : Type 0 where
  pub same : x.passes ≡ passes_of h
  pub to_one : AllByRecursion (IsToOne h) (passes_of h)
  pub aimed : AllAreAimed h

-- ---- the targets of sources

-- A source is there after a history, and the targets tell whether MSIs to guests may be made of it.
pub record TellsOf (targets : TargetMap) (h : History) (source : ℕ) : Type 0 where
  pub there : is_in_range 1 (sources_of h) source ≡ true
  pub ready : targets.ready source ≡ is_passable (acts_of h) source

-- What is made of targets where an act aims a source, or none does. `aim`: what an aim of a source
-- at a target makes of them.
abbrev pub AimsBy : {T : Type 0} → (T → ℕ → ℕ → T → Type 0) → Option Act → T → T → Type 0
AimsBy aim (Some (Aimed source target)) old new = aim old source target new
AimsBy aim act old new = new ≡ old

-- What so many steps of a virtual hart's move make of them, one after the other.
abbrev pub StepsAim : {T : Type 0} → (T → ℕ → ℕ → T → Type 0) → ℕ → Vcpu → History → T → T → Type 0
StepsAim aim zero g h old new = new ≡ old
StepsAim {T} aim (suc count) g h old new =
    (between : T) × StepsAim aim count g h old between
    × AimsBy aim (aimed_by (steps_taken count g h) (Stepped g)) between new
