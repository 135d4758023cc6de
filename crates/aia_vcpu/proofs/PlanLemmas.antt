-- The plans as lists: how long they are, and what stands at each place.
use Rattle.std.proofs.Common.{◌≡◌, ℕ, zero, suc, ◌+◌, ◌-◌, ◌*◌, ◌/◌, ◌%◌, ◌<◌, ◌≤◌, true, List, [], ◌∷◌, ◌++◌, length, Some, refl, sym, ap, ◌∙◌, inl, inr, arith, length-append}
use Rattle.std.specs.Prelude.{slice_get}
use Rattle.std.proofs.lemmas.Bool.{ltb-true, eqb-true, cases_eq, cases_lt, lt-ltb}
use Rattle.aia_vcpu.specs.declared.end.End.{End}
use Rattle.aia_vcpu.specs.Home.{Way, Progress, Home, old_end, new_end}
use Rattle.aia_vcpu.specs.declared.end.End.TheVariants.{File, Memory}
use Rattle.aia_vcpu.specs.Home.Home.{OnWay}
use Rattle.aia_vcpu.specs.Plans.{each_word, all_words, at_file, at_memory, first_part, last_part, plan, one_at_file, one_at_memory, before_entry, word_steps, plan_steps, plan_step, plan_has, plan_of, has_access, step_of, next_access, IsNext, is_at_last}
use Rattle.aia_vcpu.specs.declared.access.Access.{Access}
use Rattle.aia_vcpu.specs.declared.access.Access.TheVariants.{TakeDelivery, PutDelivery, WriteNotice, WriteEntry, Fence, Map, GFence, TakePending, PutPending, TakeEnables, PutEnables, Look, TakeThreshold, PutThreshold, Post}

-- ---- what stands at a place of a list

at_front : (xs ys : List Access) (k : ℕ) (a : Access) → slice_get xs k ≡ Some a → slice_get (xs ++ ys) k ≡ Some a
at_front [] ys k a e = absurd (cc)
at_front (x ∷ xs) ys zero a e = e
at_front (x ∷ xs) ys (suc k) a e = at_front xs ys k a e

at_back : (xs ys : List Access) (k : ℕ) (a : Access) → slice_get ys k ≡ Some a → slice_get (xs ++ ys) (length xs + k) ≡ Some a
at_back [] ys k a e = let same : 0 + k ≡ k = omega arith in rw same e
at_back (x ∷ xs) ys k a e = let same : suc (length xs) + k ≡ suc (length xs + k) = omega arith in rw same (at_back xs ys k a e)

behind : (xs ys : List Access) (long k at : ℕ) (a : Access) → length xs ≡ long → at ≡ long + k → slice_get ys k ≡ Some a
    → slice_get (xs ++ ys) at ≡ Some a
behind xs ys long k at a l same e = let there : at ≡ length xs + k = omega arith in rw there (at_back xs ys k a e)

-- ---- two accesses a word, and one

module _ (one two : ℕ → Access) where
  pairs-length : (from count : ℕ) → length (each_word (λ w. one w ∷ two w ∷ []) from count) ≡ 2 * count
  pairs-length from zero = refl
  pairs-length from (suc count) = let rest = pairs-length (suc from) count in omega arith

  pairs-first : (from count w : ℕ) → w < count → slice_get (each_word (λ w. one w ∷ two w ∷ []) from count) (2 * w) ≡ Some (one (from + w))
  pairs-first from zero w low = absurd (omega arith)
  pairs-first from (suc count) zero low = let same : from + 0 ≡ from = omega arith in ap (λ w. Some (one w)) (sym same)
  pairs-first from (suc count) (suc w) low =
      let at : 2 * suc w ≡ suc (suc (2 * w)) = omega arith in
      let same : suc from + w ≡ from + suc w = omega arith in
      rw at (pairs-first (suc from) count w (omega arith) ∙ ap (λ w. Some (one w)) same)

  pairs-second : (from count w : ℕ) → w < count → slice_get (each_word (λ w. one w ∷ two w ∷ []) from count) (2 * w + 1) ≡ Some (two (from + w))
  pairs-second from zero w low = absurd (omega arith)
  pairs-second from (suc count) zero low = let same : from + 0 ≡ from = omega arith in ap (λ w. Some (two w)) (sym same)
  pairs-second from (suc count) (suc w) low =
      let at : 2 * suc w + 1 ≡ suc (suc (2 * w + 1)) = omega arith in
      let same : suc from + w ≡ from + suc w = omega arith in
      rw at (pairs-second (suc from) count w (omega arith) ∙ ap (λ w. Some (two w)) same)

module _ (one : ℕ → Access) where
  ones-length : (from count : ℕ) → length (each_word (λ w. one w ∷ []) from count) ≡ count
  ones-length from zero = refl
  ones-length from (suc count) = ap suc (ones-length (suc from) count)

  ones-at : (from count w : ℕ) → w < count → slice_get (each_word (λ w. one w ∷ []) from count) w ≡ Some (one (from + w))
  ones-at from zero w low = absurd (omega arith)
  ones-at from (suc count) zero low = let same : from + 0 ≡ from = omega arith in ap (λ w. Some (one w)) (sym same)
  ones-at from (suc count) (suc w) low = let same : suc from + w ≡ from + suc w = omega arith in ones-at (suc from) count w (omega arith)
      ∙ ap (λ w. Some (one w)) same

-- ---- both sets

all_words-length : (words : ℕ) → length (all_words words) ≡ 4 * words
all_words-length words =
    let one = pairs-length TakePending PutPending 0 words in
    let two = pairs-length TakeEnables PutEnables 0 words in
    let both = length-append (each_word (λ w. TakePending w ∷ PutPending w ∷ []) 0 words)
    (each_word (λ w. TakeEnables w ∷ PutEnables w ∷ []) 0 words) in
    omega arith

module _ (words w : ℕ) (low : w < words) where
  take_pending-at : slice_get (all_words words) (2 * w) ≡ Some (TakePending w)
  take_pending-at = at_front _ _ (2 * w) (TakePending w)
      (pairs-first TakePending PutPending 0 words w low ∙ ap (λ w. Some (TakePending w)) (omega arith))

  put_pending-at : slice_get (all_words words) (2 * w + 1) ≡ Some (PutPending w)
  put_pending-at = at_front _ _ (2 * w + 1) (PutPending w)
      (pairs-second TakePending PutPending 0 words w low ∙ ap (λ w. Some (PutPending w)) (omega arith))

  take_enables-at : slice_get (all_words words) (2 * words + 2 * w) ≡ Some (TakeEnables w)
  take_enables-at = behind (each_word (λ w. TakePending w ∷ PutPending w ∷ []) 0 words) _ (2 * words) (2 * w) _ (TakeEnables w)
      (pairs-length TakePending PutPending 0 words) refl
      (pairs-first TakeEnables PutEnables 0 words w low ∙ ap (λ w. Some (TakeEnables w)) (omega arith))

  put_enables-at : slice_get (all_words words) (2 * words + (2 * w + 1)) ≡ Some (PutEnables w)
  put_enables-at = behind (each_word (λ w. TakePending w ∷ PutPending w ∷ []) 0 words) _ (2 * words) (2 * w + 1) _ (PutEnables w)
      (pairs-length TakePending PutPending 0 words) refl
      (pairs-second TakeEnables PutEnables 0 words w low ∙ ap (λ w. Some (PutEnables w)) (omega arith))

-- ---- the plan between two ends

abbrev routes : List Access
routes = WriteEntry ∷ Fence ∷ Map ∷ GFence ∷ []

abbrev looks : End → ℕ → List Access
looks to words = at_memory to (each_word (λ w. Look w ∷ []) 0 words)

abbrev numbers : End → End → List Access
numbers from to = at_file from (TakeThreshold ∷ []) ++ (at_file to (PutThreshold ∷ PutDelivery ∷ []) ++ at_memory to (Post ∷ []))

first_part-length : (from to : End) → length (first_part from to) ≡ before_entry from to
first_part-length File File = refl
first_part-length File Memory = refl
first_part-length Memory File = refl
first_part-length Memory Memory = refl

looked-length : (to : End) (words : ℕ) → length (all_words words ++ looks to words) ≡ word_steps to words
looked-length to words =
    let some = all_words-length words in
    let all = length-append (all_words words) (looks to words) in
    omega (arith, all, some, looks-length to words)
  where
    looks-length : (to : End) (words : ℕ) → length (looks to words) + 4 * words ≡ word_steps to words
    looks-length File words = omega arith
    looks-length Memory words = let all = ones-length Look 0 words in omega (arith, all)

numbers-length : (from to : End) → length (numbers from to) ≡ one_at_file from + 2 * one_at_file to + one_at_memory to
numbers-length File File = refl
numbers-length File Memory = refl
numbers-length Memory File = refl
numbers-length Memory Memory = refl

module _ (from to : End) (words : ℕ) where
  pub plan-length : length (plan from to words) ≡ plan_steps from to words
  plan-length =
      let first = first_part-length from to in
      let last = numbers-length from to in
      let looked = looked-length to words in
      let a = length-append (first_part from to) (routes ++ (all_words words ++ last_part from to words)) in
      let b = length-append (all_words words) (last_part from to words) in
      let c = length-append (looks to words) (numbers from to) in
      let d = length-append (all_words words) (looks to words) in
      omega (arith, a, b, c, d, first, last, looked)

  at_route : (k at : ℕ) (a : Access) → at ≡ before_entry from to + k → slice_get routes k ≡ Some a → slice_get (plan from to words) at ≡ Some a
  at_route k at a same e = behind (first_part from to) _ (before_entry from to) k at a (first_part-length from to) same (at_front routes _ k a e)

  at_rest : (k at : ℕ) (a : Access) → at ≡ before_entry from to + 4 + k → slice_get (all_words words ++ last_part from to words) k ≡ Some a
      → slice_get (plan from to words) at ≡ Some a
  at_rest k at a same e = behind (first_part from to) _ (before_entry from to) (4 + k) at a (first_part-length from to) (omega (arith, same))
      (behind routes _ 4 k (4 + k) a refl refl e)

  at_word : (k at : ℕ) (a : Access) → at ≡ before_entry from to + 4 + k → slice_get (all_words words) k ≡ Some a
      → slice_get (plan from to words) at ≡ Some a
  at_word k at a same e = at_rest k at a same (at_front (all_words words) _ k a e)

  at_look : (k at : ℕ) (a : Access) → at ≡ before_entry from to + 4 + 4 * words + k → slice_get (looks to words) k ≡ Some a
      → slice_get (plan from to words) at ≡ Some a
  at_look k at a same e = at_rest (4 * words + k) at a (omega (arith, same))
      (behind (all_words words) _ (4 * words) k _ a (all_words-length words) refl (at_front (looks to words) _ k a e))

  at_number : (k at : ℕ) (a : Access) → at ≡ before_entry from to + 4 + word_steps to words + k → slice_get (numbers from to) k ≡ Some a
      → slice_get (plan from to words) at ≡ Some a
  at_number k at a same e =
      let all = length-append (all_words words) (looks to words) in
      let some = all_words-length words in
      let looked = looked-length to words in
      at_rest (word_steps to words + k) at a (omega (arith, same))
      (behind (all_words words) _ (4 * words) (length (looks to words) + k) _ a some (omega (arith, all, some, looked))
      (at_back (looks to words) (numbers from to) k a e))

pub stands : (from to : End) (words : ℕ) (access : Access) → plan_has from to words access ≡ true
    → slice_get (plan from to words) (plan_step from to words access) ≡ Some access
stands File to words TakeDelivery has = refl
stands File Memory words WriteNotice has = refl
stands Memory Memory words WriteNotice has = refl
stands from to words WriteEntry has = at_route from to words 0 (before_entry from to) WriteEntry (omega arith) refl
stands from to words Fence has = at_route from to words 1 _ Fence refl refl
stands from to words Map has = at_route from to words 2 _ Map refl refl
stands from to words GFence has = at_route from to words 3 (plan_step from to words GFence) GFence (omega arith) refl
stands from to words (TakePending w) has = at_word from to words (2 * w) _ (TakePending w) refl (take_pending-at words w (ltb-true _ _ has))
stands from to words (PutPending w) has = at_word from to words (2 * w + 1) (plan_step from to words (PutPending w)) (PutPending w) (omega arith)
    (put_pending-at words w (ltb-true _ _ has))
stands from to words (TakeEnables w) has = at_word from to words (2 * words + 2 * w) (plan_step from to words (TakeEnables w)) (TakeEnables w)
    (omega arith) (take_enables-at words w (ltb-true _ _ has))
stands from to words (PutEnables w) has = at_word from to words (2 * words + (2 * w + 1)) (plan_step from to words (PutEnables w)) (PutEnables w)
    (omega arith) (put_enables-at words w (ltb-true _ _ has))
stands from Memory words (Look w) has = at_look from Memory words w _ (Look w) refl
    (ones-at Look 0 words w (ltb-true _ _ has) ∙ ap (λ w. Some (Look w)) (omega arith))
stands File to words TakeThreshold has = at_number File to words 0 (plan_step File to words TakeThreshold) TakeThreshold (omega arith) refl
stands from File words PutThreshold has = at_number from File words (one_at_file from) (plan_step from File words PutThreshold) PutThreshold
    (omega arith) (either from)
  where
    either : (from : End) → slice_get (numbers from File) (one_at_file from) ≡ Some PutThreshold
    either File = refl
    either Memory = refl
stands from File words PutDelivery has = at_number from File words (one_at_file from + 1) (plan_step from File words PutDelivery) PutDelivery
    (omega arith) (either from)
  where
    either : (from : End) → slice_get (numbers from File) (one_at_file from + 1) ≡ Some PutDelivery
    either File = refl
    either Memory = refl
stands from Memory words Post has = at_number from Memory words (one_at_file from) (plan_step from Memory words Post) Post (omega arith) (either from)
  where
    either : (from : End) → slice_get (numbers from Memory) (one_at_file from) ≡ Some Post
    either File = refl
    either Memory = refl
stands Memory to words TakeDelivery has = absurd (cc)
stands from File words WriteNotice has = absurd (cc)
stands from File words (Look w) has = absurd (cc)
stands Memory to words TakeThreshold has = absurd (cc)
stands from Memory words PutThreshold has = absurd (cc)
stands from Memory words PutDelivery has = absurd (cc)
stands from File words Post has = absurd (cc)

pub plan_agrees : (words : ℕ) (there : Home) (access : Access) → has_access words there access ≡ true
    → slice_get (plan_of words there) (step_of words there access) ≡ Some access
plan_agrees words (OnWay way at) access has = stands (old_end way) (new_end way) words access has
plan_agrees words there access has = absurd (cc)

pub next_in_plan : (words : ℕ) (there : Home) (access : Access) → IsNext words there access → next_access words there ≡ Some access
next_in_plan words there access next = ap (λ k. slice_get (plan_of words there) k) next.step ∙ plan_agrees words there access next.has

pub one_a_step : (words : ℕ) (there : Home) (a b : Access) → has_access words there a ≡ true → has_access words there b ≡ true
    → step_of words there a ≡ step_of words there b → a ≡ b
one_a_step words there a b has too same =
    let first = plan_agrees words there a has in
    let second = plan_agrees words there b too in
    let one : Some a ≡ Some b = sym first ∙ ap (λ k. slice_get (plan_of words there) k) same ∙ second in
    cc

-- ---- the last access

abbrev pub last_access : End → Access
last_access File = PutDelivery
last_access Memory = Post

last_stands : (from to : End) (words : ℕ) → (plan_has from to words (last_access to) ≡ true)
    × (plan_step from to words (last_access to) + 1 ≡ plan_steps from to words)
last_stands from File words = (refl, omega arith)
last_stands from Memory words = (refl, omega arith)

pub last_is : (words : ℕ) (way : Way) (at : Progress) (access : Access) → IsNext words (OnWay way at) access
    → is_at_last words (OnWay way at) ≡ true → access ≡ last_access (new_end way)
last_is words way at access next last =
    let stands = last_stands (old_end way) (new_end way) words in
    one_a_step words (OnWay way at) access (last_access (new_end way)) next.has stands.0 (omega (arith, next.step, stands.1, eqb-true _ _ last))

-- ---- which access stands at each place: the table says it of every one

-- an access of a plan, with its step
abbrev pub Found : End → End → ℕ → ℕ → Type 0
Found from to words k = (a : Access) × (plan_has from to words a ≡ true) × (k ≡ plan_step from to words a)

early : (from to : End) (words k : ℕ) → k < before_entry from to → Found from to words k
early File File words k low = (TakeDelivery, refl, omega (arith, low))
early File Memory words k low = elim (cases_eq k 0) [
  | inl e ↦ (TakeDelivery, refl, e)
  | inr ne ↦ (WriteNotice, refl, omega (arith, low, ne))
]
early Memory File words k low = absurd (omega (arith, low))
early Memory Memory words k low = (WriteNotice, refl, omega (arith, low))

route : (from to : End) (words k : ℕ) → before_entry from to ≤ k → k < before_entry from to + 4 → Found from to words k
route from to words k past low = elim (cases_eq k (before_entry from to)) [
  | inl e ↦ (WriteEntry, refl, e)
  | inr n0 ↦ elim (cases_eq k (before_entry from to + 1)) [
    | inl e ↦ (Fence, refl, e)
    | inr n1 ↦ elim (cases_eq k (before_entry from to + 2)) [
      | inl e ↦ (Map, refl, e)
      | inr n2 ↦ (GFence, refl, omega (arith, past, low, n0, n1, n2))
    ]
  ]
]

-- the j-th step of those that carry the sets
carried : (from to : End) (words k j : ℕ) → k ≡ before_entry from to + 4 + j → j < 4 * words → Found from to words k
carried from to words k j e low = elim (cases_lt j (2 * words)) [
  | inl less ↦ elim (cases_eq (j % 2) 0) [
    | inl even ↦ (TakePending (j / 2), lt-ltb (j / 2) words (omega (arith, less)), omega (arith, e, even))
    | inr odd ↦ (PutPending (j / 2), lt-ltb (j / 2) words (omega (arith, less)), omega (arith, e, odd))
  ]
  | inr more ↦
      let i = j - 2 * words in
      elim (cases_eq (i % 2) 0) [
        | inl even ↦ (TakeEnables (i / 2), lt-ltb (i / 2) words (omega (arith, more, low)), omega (arith, e, even, more))
        | inr odd ↦ (PutEnables (i / 2), lt-ltb (i / 2) words (omega (arith, more, low)), omega (arith, e, odd, more))
      ]
]

-- the j-th step after them
late : (from to : End) (words k j : ℕ) → k ≡ before_entry from to + 4 + 4 * words + j → k < plan_steps from to words → Found from to words k
late File File words k j e low = elim (cases_eq j 0) [
  | inl z ↦ (TakeThreshold, refl, omega (arith, e, z))
  | inr n0 ↦ elim (cases_eq j 1) [
    | inl o ↦ (PutThreshold, refl, omega (arith, e, o))
    | inr n1 ↦ (PutDelivery, refl, omega (arith, e, low, n0, n1))
  ]
]
late Memory File words k j e low = elim (cases_eq j 0) [
  | inl z ↦ (PutThreshold, refl, omega (arith, e, z))
  | inr n0 ↦ (PutDelivery, refl, omega (arith, e, low, n0))
]
late File Memory words k j e low = elim (cases_lt j words) [
  | inl less ↦ (Look j, lt-ltb j words less, e)
  | inr more ↦ elim (cases_eq j words) [
    | inl z ↦ (TakeThreshold, refl, omega (arith, e, z))
    | inr n ↦ (Post, refl, omega (arith, e, low, more, n))
  ]
]
late Memory Memory words k j e low = elim (cases_lt j words) [
  | inl less ↦ (Look j, lt-ltb j words less, e)
  | inr more ↦ (Post, refl, omega (arith, e, low, more))
]

pub found : (from to : End) (words k : ℕ) → k < plan_steps from to words → Found from to words k
found from to words k low = elim (cases_lt k (before_entry from to)) [
  | inl first ↦ early from to words k first
  | inr past ↦ elim (cases_lt k (before_entry from to + 4)) [
    | inl first ↦ route from to words k past first
    | inr later ↦ elim (cases_lt (k - (before_entry from to + 4)) (4 * words)) [
      | inl inside ↦ carried from to words k (k - (before_entry from to + 4)) (omega (arith, later)) inside
      | inr after ↦ late from to words k (k - (before_entry from to + 4 + 4 * words)) (omega (arith, later, after)) low
    ]
  ]
]

get_low : (xs : List Access) (k : ℕ) (a : Access) → slice_get xs k ≡ Some a → k < length xs
get_low [] k a e = absurd (cc)
get_low (x ∷ xs) zero a e = omega arith
get_low (x ∷ xs) (suc k) a e = let rest = get_low xs k a e in omega (arith, rest)

-- what stands at a place of the list is what the table has there
pub listed : (from to : End) (words k : ℕ) (access : Access) → slice_get (plan from to words) k ≡ Some access
    → (plan_has from to words access ≡ true) × (plan_step from to words access ≡ k)
listed from to words k access e =
    let f = found from to words k (omega (arith, get_low (plan from to words) k access e, plan-length from to words)) in
    let same : Some f.0 ≡ Some access = sym (ap (λ n. slice_get (plan from to words) n) f.2 ∙ stands from to words f.0 f.1) ∙ e in
    let is : f.0 ≡ access = cc in
    (ap (λ a. plan_has from to words a) (sym is) ∙ f.1, ap (λ a. plan_step from to words a) (sym is) ∙ sym f.2)
