-- The step of a plan that a text spells. Profile.
use Rattle.std.specs.Prelude.{ℕ, nat_le, if◌then◌else◌, List, [], ◌∷◌, length, Option, None, codes}
use Rattle.aia_model.specs.declared.limits.TheConstants.{LINE_BYTES}
use Rattle.aia_model.specs.Text.{words_of, below, ◌>>=◌}
use Rattle.aia_model.specs.Grammar.{row_of}
use Rattle.aia_model.specs.Reading.{WordsLeft, word_at, number_at, whole}
use Rattle.aia_plan.specs.declared.step.Step.{Step}
use Rattle.aia_plan.specs.declared.step.Step.TheVariants.{Quiet, Word1, Word0, Fence, Map, Unmap, Remap, GFence, TakeP, PutP, TakeE, PutE, Look, TakeT, PutT, Post, Wake}

-- What follows the name of a step: nothing, or the number of a word.
pub data StepForm : Type 0 where
  Alone : (step : Step) → StepForm
  OfWord : (step : ℕ → Step) → StepForm

-- The names of steps, each with its form.
abbrev pub step_forms : List (List ℕ × StepForm)
step_forms =
    (codes "quiet", Alone Quiet)
    ∷ (codes "word1", Alone Word1)
    ∷ (codes "word0", Alone Word0)
    ∷ (codes "fence", Alone Fence)
    ∷ (codes "map", Alone Map)
    ∷ (codes "unmap", Alone Unmap)
    ∷ (codes "remap", Alone Remap)
    ∷ (codes "gfence", Alone GFence)
    ∷ (codes "takep", OfWord TakeP)
    ∷ (codes "putp", OfWord PutP)
    ∷ (codes "takee", OfWord TakeE)
    ∷ (codes "pute", OfWord PutE)
    ∷ (codes "look", OfWord Look)
    ∷ (codes "taket", Alone TakeT)
    ∷ (codes "putt", Alone PutT)
    ∷ (codes "post", Alone Post)
    ∷ (codes "wake", Alone Wake)
    ∷ []

-- The step that the words which are left spell, where they are one number: that of a word of a set,
-- below `count`.
unfoldable pub word_step : ℕ → (ℕ → Step) → WordsLeft → Option Step
word_step count step words = do
  number ← number_at words
  w ← below count number.0
  whole number.1 (step w)

-- The step that a form and the words after the name spell, of files of so many words of 64
-- identities.
abbrev pub step_after : ℕ → StepForm → WordsLeft → Option Step
step_after count (Alone step) words = whole words step
step_after count (OfWord step) words = word_step count step words

-- The step that words spell.
unfoldable pub step_at : ℕ → WordsLeft → Option Step
step_at count words = do
  name ← word_at words
  form ← row_of step_forms name.0
  step_after count form name.1

-- The step that a text spells, of files of so many words; None where it spells none, as each text
-- of more than LINE_BYTES bytes, each empty one and each comment.
unfoldable pub step_of : ℕ → List ℕ → Option Step
step_of count text =
    if nat_le (length text) LINE_BYTES then step_at count (words_of text) else None
