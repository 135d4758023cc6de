-- What images say to a virtual hart, and what events say that come later. Vocabulary.
use Rattle.std.specs.Prelude.{◌≡◌, ℕ, Bool, true, is_none, List, [], ◌∷◌, ◌++◌, map}
use Rattle.aia_vcpu.specs.Vms.{Vcpu}
use Rattle.aia_model.specs.declared.line.Line.TheVariants.{Machine}
use Rattle.aia_model.specs.Event.{Event, History}
use Rattle.aia_model.specs.Event.Event.{Accepted}
use Rattle.aia_model.specs.Image.{GuestState, part_of}
use Rattle.aia_laws.specs.Images.{HasAllParts}
use Rattle.aia_isolation.specs.Said.{Said, said_by, with_any}
use Rattle.aia_isolation.specs.Said.Said.{Made, Loaded}

-- All that events say to a virtual hart which happen after a history, the newest first.
unfoldable pub said_after : History → List Event → Vcpu → List Said
said_after h [] g = []
said_after h (event ∷ earlier) g =
    with_any (said_by g (earlier ++ h) event) (said_after h earlier g)

-- Whether an event says nothing to a virtual hart, or makes the machine, which is said to all.
abbrev pub is_unheard : History → Event → Vcpu → Bool
is_unheard past (Accepted (Machine harts guests n sources)) g = true
is_unheard past event g = is_none (said_by g past event)

-- Whether nothing was said to a virtual hart but that the machine was made.
abbrev pub HeardNothing : History → Vcpu → Type 0
HeardNothing [] g = Unit {0}
HeardNothing (event ∷ past) g = (is_unheard past event g ≡ true) × HeardNothing past g

-- What is said by the loads of those parts of the image of a state, the newest first.
abbrev pub loads_of : GuestState → List ℕ → List Said
loads_of image order = map (λ k. Loaded (part_of image k)) order

-- All that was said is that the machine was made, and then that each part of the image of a state
-- was loaded, in whatever order, and however often.
pub record IsWholeImage (image : GuestState) (words : List Said) : Type 0 where
  pub order : List ℕ
  pub all : HasAllParts image order
  pub are : words ≡ loads_of image order ++ Made image.file.n ∷ []
