-- Plans of moves as lists of steps, and those that the hypervisor's core makes. Profile.
use Rattle.std.specs.Prelude.{◌≡◌, ℕ, zero, suc, ◌<◌, ◌⊎◌, ⊤, Bool, true, false, nat_eq, List, [], ◌∷◌, ◌++◌}
use Rattle.aia_regs.specs.declared.limits.TheConstants.{FILE_WORDS}
use Rattle.aia_plan.specs.declared.step.Kind.{Kind}
use Rattle.aia_plan.specs.declared.step.Kind.TheVariants as kinds
use Rattle.aia_plan.specs.declared.step.Step.{Step}
use Rattle.aia_plan.specs.declared.step.Step.TheVariants.{Quiet, Word1, Word0, Fence, Map, Unmap, Remap, GFence, TakeP, PutP, TakeE, PutE, Look, TakeT, PutT, Post, Wake}

-- The steps in their order.
abbrev pub WrittenPlan : Type 0
WrittenPlan = List Step

-- Whether a step is the other.
abbrev pub is_step : Step → Step → Bool
is_step Quiet Quiet = true
is_step Word1 Word1 = true
is_step Word0 Word0 = true
is_step Fence Fence = true
is_step Map Map = true
is_step Unmap Unmap = true
is_step Remap Remap = true
is_step GFence GFence = true
is_step (TakeP w) (TakeP v) = nat_eq v w
is_step (PutP w) (PutP v) = nat_eq v w
is_step (TakeE w) (TakeE v) = nat_eq v w
is_step (PutE w) (PutE v) = nat_eq v w
is_step (Look w) (Look v) = nat_eq v w
is_step TakeT TakeT = true
is_step PutT PutT = true
is_step Post Post = true
is_step Wake Wake = true
is_step step other = false

-- How many words of 64 identities the sets of a file have, where it has 63, 127, 255, 511, 1023 or
-- 2047 identities.
-- AIA 1.0, IMSIC, "Interrupt files and interrupt identities": one less than a multiple of 64.
-- Profile: the powers of two.
abbrev pub IsWidth : ℕ → Type 0
IsWidth words =
    (words ≡ 1)
    ⊎ ((words ≡ 2) ⊎ ((words ≡ 4) ⊎ ((words ≡ 8) ⊎ ((words ≡ 16) ⊎ (words ≡ FILE_WORDS)))))

-- A step names no word, or one below so many.
abbrev pub IsInside : ℕ → Step → Type 0
IsInside words (TakeP w) = w < words
IsInside words (PutP w) = w < words
IsInside words (TakeE w) = w < words
IsInside words (PutE w) = w < words
IsInside words (Look w) = w < words
IsInside words step = ⊤

-- ---- the plans of the core

-- The steps of so many words from a given word on, each word's in order.
abbrev pub each_word : (ℕ → WrittenPlan) → ℕ → ℕ → WrittenPlan
each_word of_word from zero = []
each_word of_word from (suc count) = of_word from ++ each_word of_word (suc from) count

-- Both sets, word by word: each is taken from the old place and put in the new one.
abbrev pub all_words : ℕ → WrittenPlan
all_words words =
    each_word (λ w. TakeP w ∷ PutP w ∷ []) 0 words
    ++ each_word (λ w. TakeE w ∷ PutE w ∷ []) 0 words

-- What the core does before it carries the sets, in a move of each kind; and what in the end.
abbrev pub first_steps : Kind → WrittenPlan
first_steps kinds.Leave = Quiet ∷ Word1 ∷ Word0 ∷ Fence ∷ Unmap ∷ GFence ∷ []
first_steps kinds.Arrive = Word0 ∷ Fence ∷ Map ∷ GFence ∷ []
first_steps kinds.Shift = Quiet ∷ Word0 ∷ Fence ∷ Remap ∷ GFence ∷ []

abbrev pub last_steps : Kind → WrittenPlan
last_steps kinds.Leave = TakeT ∷ Post ∷ []
last_steps kinds.Arrive = PutT ∷ Wake ∷ []
last_steps kinds.Shift = TakeT ∷ PutT ∷ Wake ∷ []

-- The plan that the core makes for a move of each kind, of files of so many words. One to memory
-- looks there at all words.
abbrev pub core_plan : Kind → ℕ → WrittenPlan
core_plan kinds.Leave words =
    first_steps kinds.Leave ++ all_words words ++ each_word (λ w. Look w ∷ []) 0 words
    ++ last_steps kinds.Leave
core_plan kind words = first_steps kind ++ all_words words ++ last_steps kind
