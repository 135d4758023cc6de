-- The plans of moves: which accesses each makes, in order; and what a move has made so far, by how
-- many of its steps are done. The numbers of steps stand in no other definition. Profile: all
-- plans.
use Rattle.std.specs.Prelude.{◌≡◌, ℕ, zero, suc, ◌+◌, ◌*◌, Bool, true, false, not, ◌&&◌, nat_eq, nat_lt, if◌then◌else◌, List, [], ◌∷◌, ◌++◌, slice_get, Option}
use Rattle.aia_vcpu.specs.declared.end.End.{End}
use Rattle.aia_vcpu.specs.Home.{is_file, Home, old_end, new_end, ended, one_more}
use Rattle.aia_vcpu.specs.declared.end.End.TheVariants.{File, Memory}
use Rattle.aia_vcpu.specs.Home.Home.{OnWay}
use Rattle.aia_vcpu.specs.declared.access.Access.{Access}
use Rattle.aia_vcpu.specs.declared.access.Access.TheVariants.{TakeDelivery, PutDelivery, WriteNotice, WriteEntry, Fence, Map, GFence, TakePending, PutPending, TakeEnables, PutEnables, Look, TakeThreshold, PutThreshold, Post}

-- The accesses of so many words from a given word on, each word's in order.
abbrev pub each_word : (ℕ → List Access) → ℕ → ℕ → List Access
each_word of_word from zero = []
each_word of_word from (suc count) = of_word from ++ each_word of_word (suc from) count

-- Both sets, word by word: each is taken from the old place and put in the new one.
abbrev pub all_words : ℕ → List Access
all_words words =
    each_word (λ w. TakePending w ∷ PutPending w ∷ []) 0 words
    ++ each_word (λ w. TakeEnables w ∷ PutEnables w ∷ []) 0 words

-- ---- the plan of a move, from its two ends

-- Accesses that a plan has only where an end is a file; only where it is memory.
abbrev pub at_file : End → List Access → List Access
at_file File accesses = accesses
at_file Memory accesses = []

abbrev pub at_memory : End → List Access → List Access
at_memory File accesses = []
at_memory Memory accesses = accesses

-- What comes before the entry is written: an old file is made silent, and for memory as the new
-- place the entry says where notices go. What comes after the words: both sets are looked at in
-- memory, the numbers of an old file are taken and put in a new one, and the notice is sent.
abbrev pub first_part : End → End → List Access
first_part from to = at_file from (TakeDelivery ∷ []) ++ at_memory to (WriteNotice ∷ [])

abbrev pub last_part : End → End → ℕ → List Access
last_part from to words =
    at_memory to (each_word (λ w. Look w ∷ []) 0 words) ++ (at_file from (TakeThreshold ∷ [])
    ++ (at_file to (PutThreshold ∷ PutDelivery ∷ []) ++ at_memory to (Post ∷ [])))

-- The plan of a move from one end to another, of files of so many words. No move leads from memory
-- to memory.
abbrev pub plan : End → End → ℕ → List Access
plan from to words =
    first_part from to
    ++ ((WriteEntry ∷ Fence ∷ Map ∷ GFence ∷ []) ++ (all_words words ++ last_part from to words))

-- ---- the number of each step, counted from 0: a law says that the access stands there

-- How many steps an access adds that a plan has only where an end is a file; only where it is
-- memory.
abbrev pub one_at_file : End → ℕ
one_at_file File = 1
one_at_file Memory = 0

abbrev pub one_at_memory : End → ℕ
one_at_memory File = 0
one_at_memory Memory = 1

-- How many steps come before the entry is written; how many take, put or look at a word; how many
-- the plan has in all, those that aim passed sources aside.
abbrev pub before_entry : End → End → ℕ
before_entry from to = one_at_file from + one_at_memory to

abbrev pub word_steps : End → ℕ → ℕ
word_steps File words = 4 * words
word_steps Memory words = 5 * words

abbrev pub plan_steps : End → End → ℕ → ℕ
plan_steps from to words =
    before_entry from to + 4 + one_at_file from + 2 * one_at_file to + one_at_memory to
    + word_steps to words

-- The step that makes an access: GFence's is the next after Map's. It says nothing of an access
-- that the plan does not have.
abbrev pub plan_step : End → End → ℕ → Access → ℕ
plan_step from to words TakeDelivery = 0
plan_step from to words WriteNotice = one_at_file from
plan_step from to words WriteEntry = before_entry from to
plan_step from to words Fence = before_entry from to + 1
plan_step from to words Map = before_entry from to + 2
plan_step from to words GFence = before_entry from to + 2 + 1
plan_step from to words (TakePending w) = before_entry from to + 4 + 2 * w
plan_step from to words (PutPending w) = before_entry from to + 5 + 2 * w
plan_step from to words (TakeEnables w) = before_entry from to + 4 + 2 * words + 2 * w
plan_step from to words (PutEnables w) = before_entry from to + 5 + 2 * words + 2 * w
plan_step from to words (Look w) = before_entry from to + 4 + 4 * words + w
plan_step from to words TakeThreshold = before_entry from to + 4 + word_steps to words
plan_step from to words PutThreshold =
    before_entry from to + 4 + one_at_file from + word_steps to words
plan_step from to words PutDelivery =
    before_entry from to + 5 + one_at_file from + word_steps to words
plan_step from to words Post = before_entry from to + 4 + one_at_file from + word_steps to words

-- Whether the plan has an access.
abbrev pub plan_has : End → End → ℕ → Access → Bool
plan_has from to words TakeDelivery = is_file from
plan_has from to words WriteNotice = not (is_file to)
plan_has from to words (TakePending w) = nat_lt w words
plan_has from to words (PutPending w) = nat_lt w words
plan_has from to words (TakeEnables w) = nat_lt w words
plan_has from to words (PutEnables w) = nat_lt w words
plan_has from to words (Look w) = not (is_file to) && nat_lt w words
plan_has from to words TakeThreshold = is_file from
plan_has from to words PutThreshold = is_file to
plan_has from to words PutDelivery = is_file to
plan_has from to words Post = not (is_file to)
plan_has from to words access = true

-- An access is that of a step of a plan.
pub record IsAt (from to : End) (words done : ℕ) (access : Access) : Type 0 where
  pub has : plan_has from to words access ≡ true
  pub step : done ≡ plan_step from to words access

-- ---- of a home

-- The plan of its move.
abbrev pub plan_of : ℕ → Home → List Access
plan_of words (OnWay way at) = plan (old_end way) (new_end way) words
plan_of words there = []

-- How many of them are done.
abbrev pub steps_done : Home → ℕ
steps_done (OnWay way at) = at.steps
steps_done there = 0

-- The access that its next step makes.
abbrev pub next_access : ℕ → Home → Option Access
next_access words there = slice_get (plan_of words there) (steps_done there)

-- Whether its plan has an access; the step that makes it.
abbrev pub has_access : ℕ → Home → Access → Bool
has_access words (OnWay way at) access = plan_has (old_end way) (new_end way) words access
has_access words there access = false

abbrev pub step_of : ℕ → Home → Access → ℕ
step_of words (OnWay way at) access = plan_step (old_end way) (new_end way) words access
step_of words there access = 0

-- ---- what a move has made so far

-- Whether a step of it is done.
abbrev pub is_begun : Home → Bool
is_begun there = nat_lt 0 (steps_done there)

-- Whether an access of its plan is made already. Of an access that the plan does not have, or of a
-- word that a file does not have, it says nothing.
abbrev pub is_made : ℕ → Home → Access → Bool
is_made words there access = nat_lt (step_of words there access) (steps_done there)

-- Whether it is the last one made: what it took, if it took something, is carried still.
abbrev pub is_last_made : ℕ → Home → Access → Bool
is_last_made words there access = nat_eq (steps_done there) (step_of words there access + 1)

-- Whether it is the one that the next step makes; the same as a fact.
abbrev pub is_next : ℕ → Home → Access → Bool
is_next words there access =
    has_access words there access && nat_eq (steps_done there) (step_of words there access)

pub record IsNext (words : ℕ) (there : Home) (access : Access) : Type 0 where
  pub has : has_access words there access ≡ true
  pub step : steps_done there ≡ step_of words there access

-- The same of an access before the first that carries a word: whether it is made already, is the
-- next one. How many words a file has does not matter to it.
abbrev pub is_early_made : Home → Access → Bool
is_early_made there access = is_made 0 there access

abbrev pub is_early_next : Home → Access → Bool
is_early_next there access = is_next 0 there access

-- Whether the next step of its move is the last one.
abbrev pub is_at_last : ℕ → Home → Bool
is_at_last words (OnWay way at) =
    nat_eq (at.steps + 1) (plan_steps (old_end way) (new_end way) words)
is_at_last words there = false

-- A step is done.
abbrev pub stepped : ℕ → Home → Home
stepped words there = if is_at_last words there then ended there else one_more there

-- ---- the steps that take words, at any home

-- How many steps come before the first take of a word; the step that takes word w of the pending
-- set, of the enabled set; the next step puts it.
abbrev pub first_take : Home → ℕ
first_take there = step_of 0 there (TakePending 0)

abbrev pub pending_step : Home → ℕ → ℕ
pending_step there w = first_take there + 2 * w

abbrev pub enables_step : ℕ → Home → ℕ → ℕ
enables_step words there w = step_of words there (TakeEnables 0) + 2 * w
