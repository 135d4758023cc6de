-- Members of lists, their order, and what a filter leaves.
use Rattle.std.proofs.Common.{◌≡◌, ℕ, zero, suc, ◌+◌, ◌-◌, ◌<◌, ◌≤◌, Bool, true, false, cond, List, [], ◌∷◌, ◌⊎◌, inl, inr, refl, sym, ap, subst, ◌∙◌, arith}
use Rattle.std.specs.List.{Contains, AllPairs, filter, range_with_len}
use Rattle.std.proofs.lemmas.List.Kept.{AllPairs-filter}
use Rattle.std.proofs.lemmas.List.FromFn.{length-range_with_len, get_or-range_with_len}

-- ---- members

pub here : {X : Type 0} (x : X) (xs : List X) → Contains (x ∷ xs) x
here x xs = (0, omega arith, refl)

pub later : {X : Type 0} (x y : X) (xs : List X) → Contains xs y → Contains (x ∷ xs) y
later x y xs m = (suc m.0, omega (arith, m.1), m.2)

pub here_or_later : {X : Type 0} (x y : X) (xs : List X) → Contains (x ∷ xs) y → (x ≡ y) ⊎ Contains xs y
here_or_later x y xs (zero, low, e) = inl e
here_or_later x y xs (suc k, low, e) = inr (k, omega (arith, low), e)

pub nowhere : {X A : Type 0} (y : X) → Contains [] y → A
nowhere y m = absurd (omega (arith, m.1))

-- ---- order

pub pairs_head : {X : Type 0} (R : X → X → Type 0) (x y : X) (xs : List X) → AllPairs R (x ∷ xs) → Contains xs y → R x y
pairs_head R x y xs pairs m = subst (R x) m.2 (pairs 0 (suc m.0) y (omega arith) (omega (arith, m.1)))

pub pairs_tail : {X : Type 0} (R : X → X → Type 0) (x : X) (xs : List X) → AllPairs R (x ∷ xs) → AllPairs R xs
pairs_tail R x xs pairs i j d low within = pairs (suc i) (suc j) d (omega (arith, low)) (omega (arith, within))

-- ---- a filter

pub in_filter : {X : Type 0} (p : X → Bool) (xs : List X) (y : X) → Contains (filter p xs) y → Contains xs y × (p y ≡ true)
in_filter p [] y m = nowhere y m
in_filter {X} p (x ∷ xs) y m = at (p x) refl m (in_filter p xs y)
  where
    rest : Contains xs y × (p y ≡ true) → Contains (x ∷ xs) y × (p y ≡ true)
    rest r = (later x y xs r.0, r.1)

    first : p x ≡ true → (x ≡ y) ⊎ Contains (filter p xs) y → (Contains (filter p xs) y → Contains xs y × (p y ≡ true)) → Contains (x ∷ xs) y
        × (p y ≡ true)
    first is (inl e) next = (subst (Contains (x ∷ xs)) e (here x xs), sym (ap p e) ∙ is)
    first is (inr n) next = rest (next n)

    at : (b : Bool) → p x ≡ b → Contains (cond b (x ∷ filter p xs) (filter p xs)) y → (Contains (filter p xs) y → Contains xs y × (p y ≡ true))
        → Contains (x ∷ xs) y × (p y ≡ true)
    at true is n next = first is (here_or_later x y (filter p xs) n) next
    at false is n next = rest (next n)

pub filter_has : {X : Type 0} (p : X → Bool) (xs : List X) (y : X) → Contains xs y → p y ≡ true → Contains (filter p xs) y
filter_has p [] y m is = nowhere y m
filter_has {X} p (x ∷ xs) y m is = at (here_or_later x y xs m) (λ n. filter_has p xs y n is)
  where
    put : (b : Bool) → Contains (filter p xs) y → Contains (cond b (x ∷ filter p xs) (filter p xs)) y
    put true n = later x y (filter p xs) n
    put false n = n

    at : (x ≡ y) ⊎ Contains xs y → (Contains xs y → Contains (filter p xs) y) → Contains (filter p (x ∷ xs)) y
    at (inl e) next = subst (λ (b : Bool). Contains (cond b (x ∷ filter p xs) (filter p xs)) y) (sym (ap p e ∙ is))
        (subst (Contains (x ∷ filter p xs)) e (here x (filter p xs)))
    at (inr n) next = put (p x) (next n)

pub filter_same : {X : Type 0} (p q : X → Bool) (xs : List X) → ((y : X) → Contains xs y → p y ≡ q y) → filter p xs ≡ filter q xs
filter_same p q [] same = refl
filter_same p q (x ∷ xs) same =
    ap (λ (b : Bool). cond b (x ∷ filter p xs) (filter p xs)) (same x (here x xs))
    ∙ ap (λ ys. cond (q x) (x ∷ ys) ys) (filter_same p q xs (λ y m. same y (later x y xs m)))

pub filter_none : {X : Type 0} (p : X → Bool) (xs : List X) → ((y : X) → Contains xs y → p y ≡ false) → filter p xs ≡ []
filter_none p [] none = refl
filter_none p (x ∷ xs) none = ap (λ (b : Bool). cond b (x ∷ filter p xs) (filter p xs)) (none x (here x xs))
    ∙ filter_none p xs (λ y m. none y (later x y xs m))

-- it begins with a member that passes, before which none does
pub filter_first : {X : Type 0} (R : X → X → Type 0) (p : X → Bool) (xs : List X) (y : X) → AllPairs R xs → Contains xs y → p y ≡ true
    → ((x : X) → Contains xs x → R x y → p x ≡ false) → (rest : List X) × (filter p xs ≡ y ∷ rest)
filter_first R p [] y pairs m is none = nowhere y m
filter_first {X} R p (x ∷ xs) y pairs m is none =
    at (here_or_later x y xs m) (λ n. filter_first R p xs y (pairs_tail R x xs pairs) n is (λ z o. none z (later x z xs o)))
  where
    at : (x ≡ y) ⊎ Contains xs y → (Contains xs y → (rest : List X) × (filter p xs ≡ y ∷ rest)) → (rest : List X) × (filter p (x ∷ xs) ≡ y ∷ rest)
    at (inl e) next = (filter p xs, ap (λ (b : Bool). cond b (x ∷ filter p xs) (filter p xs)) (ap p e ∙ is) ∙ ap (λ z. z ∷ filter p xs) e)
    at (inr n) next = let found = next n in (
      found.0,
      ap (λ (b : Bool). cond b (x ∷ filter p xs) (filter p xs)) (none x (here x xs) (pairs_head R x y xs pairs n)) ∙ found.1,
    )

same_head : {X : Type 0} (x y : X) (xs ys : List X) → (x ∷ xs) ≡ (y ∷ ys) → (x ≡ y) × (xs ≡ ys)
same_head x y xs ys e = (cc, cc)

-- what it begins with passes, and comes before each member that does
pub filter_begins : {X : Type 0} (R : X → X → Type 0) (p : X → Bool) (xs rest : List X) (y : X) → AllPairs R xs → filter p xs ≡ y ∷ rest
    → (p y ≡ true) × ((z : X) → Contains xs z → p z ≡ true → (y ≡ z) ⊎ R y z)
filter_begins {X} R p xs rest y pairs is = (
  (in_filter p xs y (subst (λ zs. Contains zs y) (sym is) (here y rest))).1,
  λ z m passes. at z (here_or_later y z rest (subst (λ zs. Contains zs z) is (filter_has p xs z m passes))),
)
  where
    at : (z : X) → (y ≡ z) ⊎ Contains rest z → (y ≡ z) ⊎ R y z
    at z (inl e) = inl e
    at z (inr n) = inr (pairs_head R y z rest (subst (AllPairs R) is (AllPairs-filter R p xs pairs)) n)

-- by a test that the first fails, and that is else the same, it is the rest
pub filter_rest : {X : Type 0} (R : X → X → Type 0) (p q : X → Bool) (xs rest : List X) (y : X) → AllPairs R xs → filter p xs ≡ y ∷ rest
    → q y ≡ false → ((x : X) → p x ≡ false → q x ≡ false) → ((x : X) → R y x → q x ≡ p x) → filter q xs ≡ rest
filter_rest {X} R p q [] rest y pairs is falls none same = let bad : ◌≡◌ {A = List X} [] (y ∷ rest) = is in absurd (cc)
filter_rest {X} R p q (x ∷ xs) rest y pairs is falls none same =
    at (p x) refl is (λ e. filter_rest R p q xs rest y (pairs_tail R x xs pairs) e falls none same)
  where
    at : (b : Bool) → p x ≡ b → cond b (x ∷ filter p xs) (filter p xs) ≡ y ∷ rest → (filter p xs ≡ y ∷ rest → filter q xs ≡ rest)
        → filter q (x ∷ xs) ≡ rest
    at true passes e next =
        let same_x = same_head x y (filter p xs) rest e in
        ap (λ (b : Bool). cond b (x ∷ filter q xs) (filter q xs)) (ap q same_x.0 ∙ falls)
        ∙ filter_same q p xs (λ z m. same z (subst (λ w. R w z) same_x.0 (pairs_head R x z xs pairs m))) ∙ same_x.1
    at false fails e next = ap (λ (b : Bool). cond b (x ∷ filter q xs) (filter q xs)) (none x fails) ∙ next e

-- ---- numbers from one on

pub in_range : (a n s : ℕ) → Contains (range_with_len a n) s → (a ≤ s) × (s < a + n)
in_range a n s m =
    let low : m.0 < n = subst (λ l. m.0 < l) (length-range_with_len a n) m.1 in
    let e : s ≡ a + m.0 = sym m.2 ∙ get_or-range_with_len a n m.0 s low in
    (omega (arith, e), omega (arith, e, low))

pub range_has : (a n s : ℕ) → a ≤ s → s < a + n → Contains (range_with_len a n) s
range_has a n s low high =
    let within : s - a < n = omega (arith, low, high) in
    (s - a, subst (λ l. s - a < l) (sym (length-range_with_len a n)) within, get_or-range_with_len a n (s - a) s within ∙ omega (arith, low))

pub range_rises : (a n : ℕ) → AllPairs (λ x y. x < y) (range_with_len a n)
range_rises a n i j d low within =
    let high : j < n = subst (λ l. j < l) (length-range_with_len a n) within in
    let e = get_or-range_with_len a n i d (omega (arith, low, high)) in
    let f = get_or-range_with_len a n j d high in
    omega (arith, e, f, low)
