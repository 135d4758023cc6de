-- What is kept beside the sources, where one source changes.
use Rattle.std.proofs.Common.{◌≡◌, ℕ, zero, suc, ◌+◌, ◌-◌, ◌<◌, ◌≤◌, Bool, true, false, cond, ◌&&◌, nat_eq, nat_lt, nat_le, List, [], All, length, slice_get, get_or, Option, Some, None, is_some, unwrap_or, option_map, inl, inr, refl, sym, ap, subst, ◌∙◌, arith}
use Rattle.std.specs.Option.{option_map_or}
use Rattle.std.proofs.lemmas.Bool.{cond-true, cond-false, cases_eq, cases_lt, eq-eqb, ne_eqb, lt-ltb, le-ltb, and_right, false≢true}
use Rattle.std.proofs.lemmas.Option.{unwrap_or-slice_get, slice_get_past, none-some, same_Some}
use Rattle.aia_word.specs.Sets.{is_in}
use Rattle.aia_regs.specs.Top.{Pair, hart_of, priority_of, pair_if}
use Rattle.aia_regs.specs.declared.limits.TheConstants.{SOURCES}
use Rattle.aia_domain.specs.Order.{CandidatesState, IsRising, ordered, put_if, out_if}
use Rattle.aia_domain.proofs.OrderedLemmas.{ordered-none, ordered-suc, ordered_same, ordered_changed, ordered_length, ordered_room, ordered_rising, ordered_all}
use Rattle.aia_domain.specs.declared.interrupt_source.DirectAim.{DirectAim}
use Rattle.aia_domain.specs.InterruptSource.{InterruptSourceState, new_source, EachAt, EachSource, changed_at, wired, source_at, waits, waits_at, waiting_pair, waiting_pair_at, candidates_of}
use Rattle.aia_domain.specs.Waiting.{SourcesState, WaitingState, IsWhatWaits, HasRoom, aim_of, aim_at, pair_of_aim, renewed, with_pair, AllHave, HaveRoom}
use Rattle.aia_domain.specs.Domain.{IsPairOfSource}
use Rattle.aia_domain.proofs.EachLemmas.{each-length}

-- ---- one source

-- what an aim tells of a source
aim_pair : (hart s : ℕ) (x : InterruptSourceState) → waiting_pair hart s x ≡ pair_of_aim hart s (aim_of x)
aim_pair hart s x = at (waits x)
  where
    at : (w : Bool) → pair_if (w && nat_eq (hart_of x.target) hart) x.target s ≡ pair_of_aim hart s
        (cond w (Some (record { hart = hart_of x.target; priority = priority_of x.target })) None)
    at true = refl
    at false = refl

aim_waits : (x : InterruptSourceState) → waits x ≡ is_some (aim_of x)
aim_waits x = at (waits x)
  where
    at : (w : Bool) → w ≡ is_some {T = DirectAim} (cond w (Some (record { hart = hart_of x.target; priority = priority_of x.target })) None)
    at true = refl
    at false = refl

pub pair_by_aim : (sources : List InterruptSourceState) (hart s : ℕ) → waiting_pair_at sources hart s ≡ pair_of_aim hart s (aim_at sources s)
pair_by_aim sources hart s = ap (waiting_pair hart s) (sym (unwrap_or-slice_get sources s new_source)) ∙ at (slice_get sources s)
  where
    at : (o : Option InterruptSourceState) → waiting_pair hart s (unwrap_or o new_source) ≡ pair_of_aim hart s (option_map_or aim_of o None)
    at None = refl
    at (Some x) = aim_pair hart s x

pub waits_by_aim : (sources : List InterruptSourceState) (s : ℕ) → waits_at sources s ≡ is_some (aim_at sources s)
waits_by_aim sources s = at (slice_get sources s)
  where
    at : (o : Option InterruptSourceState) → option_map_or waits o false ≡ is_some (option_map_or aim_of o None)
    at None = refl
    at (Some x) = aim_waits x

-- ---- one source is changed

-- a member that was changed by its place
pub each_at : {A : Type 0} (old new : List A) (change : ℕ → A → A) → EachAt old new change → (i : ℕ) (y : A) → slice_get new i ≡ Some y → (x : A)
    × (slice_get old i ≡ Some x) × (y ≡ change i x)
each_at {A} old new change each i y found = at (slice_get old i) refl
  where
    at : (o : Option A) → slice_get old i ≡ o → (x : A) × (slice_get old i ≡ Some x) × (y ≡ change i x)
    at None e = absurd (none-some y (sym (ap (option_map (change i)) e) ∙ sym (each i) ∙ found))
    at (Some x) e = (x, e, same_Some y (change i x) (sym found ∙ each i ∙ ap (option_map (change i)) e))

-- the others stay
elsewhere : (old new : List InterruptSourceState) (s : ℕ) (change : InterruptSourceState → InterruptSourceState)
    → EachSource old new (changed_at s change) → (i : ℕ) → (s ≡ i → ⊥) → slice_get old i ≡ slice_get new i
elsewhere old new s change each i ne = sym (each i ∙ at (slice_get old i))
  where
    at : (o : Option InterruptSourceState) → option_map (changed_at s change i) o ≡ o
    at None = refl
    at (Some x) = ap Some (cond-false _ _ _ (ne_eqb s i ne))

aim_elsewhere : (old new : List InterruptSourceState) (s : ℕ) (change : InterruptSourceState → InterruptSourceState)
    → EachSource old new (changed_at s change) → (i : ℕ) → (s ≡ i → ⊥) → aim_at old i ≡ aim_at new i
aim_elsewhere old new s change each i ne = ap (λ o. option_map_or aim_of o None) (elsewhere old new s change each i ne)

pair_elsewhere : (old new : List InterruptSourceState) (s : ℕ) (change : InterruptSourceState → InterruptSourceState)
    → EachSource old new (changed_at s change) → (hart i : ℕ) → (s ≡ i → ⊥) → waiting_pair_at old hart i ≡ waiting_pair_at new hart i
pair_elsewhere old new s change each hart i ne = pair_by_aim old hart i ∙ ap (pair_of_aim hart i) (aim_elsewhere old new s change each i ne)
    ∙ sym (pair_by_aim new hart i)

waits_elsewhere : (old new : List InterruptSourceState) (s : ℕ) (change : InterruptSourceState → InterruptSourceState)
    → EachSource old new (changed_at s change) → (i : ℕ) → (s ≡ i → ⊥) → waits_at old i ≡ waits_at new i
waits_elsewhere old new s change each i ne = ap (λ o. option_map_or waits o false) (elsewhere old new s change each i ne)

-- one more than the greatest number stays
same_count : (old new : List InterruptSourceState) (s : ℕ) (change : InterruptSourceState → InterruptSourceState)
    → EachSource old new (changed_at s change) → length new ≡ length old
same_count old new s change each = each-length old new (changed_at s change) each

-- nothing that waits is changed
pub keeps_same : (msi : Bool) (old new : List InterruptSourceState) (waiting : WaitingState) (s : ℕ)
    (change : InterruptSourceState → InterruptSourceState) → EachSource old new (changed_at s change) → aim_at old s ≡ aim_at new s
    → IsWhatWaits msi old waiting → IsWhatWaits msi new waiting
keeps_same msi old new waiting s change each same keeps = record {
  lists = λ hart x found. (
    (keeps.lists hart x found).0 ∙ ap (λ ps. cond msi [] ps)
        (ordered_same _ _ 1 (length old - 1) (λ i a b. pair hart i)
        ∙ ap (λ n. ordered (waiting_pair_at new hart) 1 (n - 1)) (sym (same_count old new s change each))),
    (keeps.lists hart x found).1 ∙ ap (λ n. n - 1) (sym (same_count old new s change each)),
  );
  bits = λ t. keeps.bits t ∙ ap (λ w. msi && w) (bit t);
}
  where
    pair : (hart i : ℕ) → waiting_pair_at old hart i ≡ waiting_pair_at new hart i
    pair hart i = elim (cases_eq s i) [
      | inl e ↦ pair_by_aim old hart i ∙ ap (pair_of_aim hart i) (subst (λ i. aim_at old i ≡ aim_at new i) e same) ∙ sym (pair_by_aim new hart i)
      | inr ne ↦ pair_elsewhere old new s change each hart i ne
    ]

    bit : (t : ℕ) → waits_at old t ≡ waits_at new t
    bit t = elim (cases_eq s t) [
      | inl e ↦ waits_by_aim old t ∙ ap is_some (subst (λ i. aim_at old i ≡ aim_at new i) e same) ∙ sym (waits_by_aim new t)
      | inr ne ↦ waits_elsewhere old new s change each t ne
    ]

disabled_aim : (x : InterruptSourceState) → x.enabled ≡ false → aim_of x ≡ None
disabled_aim x off = cond-false _ _ _ (and_right _ _ off)

-- a source that isn't enabled waits at no level of its wire
pub wire_same : (msi level : Bool) (old new : List InterruptSourceState) (s : ℕ) → EachSource old new (changed_at s (wired msi level))
    → (source_at old s).enabled ≡ false → aim_at old s ≡ aim_at new s
wire_same msi level old new s each off = at (slice_get old s) (ap (λ x. x.enabled) (unwrap_or-slice_get old s new_source) ∙ off)
    ∙ ap (λ o. option_map_or aim_of o None) (sym (each s))
  where
    enabled : (b : Bool) (x : InterruptSourceState) → (cond b (wired msi level x) x).enabled ≡ x.enabled
    enabled true x = refl
    enabled false x = refl

    at : (o : Option InterruptSourceState) → (unwrap_or o new_source).enabled ≡ false
        → option_map_or aim_of o None ≡ option_map_or aim_of (option_map (changed_at s (wired msi level) s) o) None
    at None e = refl
    at (Some x) e = disabled_aim x e ∙ sym (disabled_aim (changed_at s (wired msi level) s x) (enabled (nat_eq s s) x ∙ e))

-- by MSIs its bit tells of it
pub keeps_told : (old new : List InterruptSourceState) (waiting after : WaitingState) (s : ℕ)
    (change : InterruptSourceState → InterruptSourceState) → EachSource old new (changed_at s change) → after.fronts ≡ waiting.fronts
    → ((t : ℕ) → is_in after.ready t ≡ cond (nat_eq s t) (is_some (aim_at new s)) (is_in waiting.ready t)) → IsWhatWaits true old waiting
    → IsWhatWaits true new after
keeps_told old new waiting after s change each lists told keeps = record {
  lists = λ hart x found.
      let was = keeps.lists hart x (sym (ap (λ l. slice_get l hart) lists) ∙ found) in
      (was.0, was.1 ∙ ap (λ n. n - 1) (sym (same_count old new s change each)));
  bits = λ t. told t ∙ elim (cases_eq s t) [
    | inl e ↦ cond-true _ _ _ (eq-eqb s t e) ∙ ap (λ i. is_some (aim_at new i)) e ∙ sym (waits_by_aim new t)
    | inr ne ↦ cond-false _ _ _ (ne_eqb s t ne) ∙ keeps.bits t ∙ waits_elsewhere old new s change each t ne
  ];
}

-- directly its pair is taken out and put in
pub keeps_renewed : (old new : List InterruptSourceState) (waiting after : WaitingState) (s : ℕ)
    (change : InterruptSourceState → InterruptSourceState) → 0 < s → s < length old → EachSource old new (changed_at s change)
    → EachAt waiting.fronts after.fronts (renewed s (aim_at old s) (aim_at new s)) → after.ready ≡ waiting.ready → IsWhatWaits false old waiting
    → IsWhatWaits false new after
keeps_renewed old new waiting after s change some within each lists bits keeps = record {
  lists = λ hart y found.
      let was = each_at waiting.fronts after.fronts (renewed s (aim_at old s) (aim_at new s)) lists hart y found in (
        ap (λ z. z.pairs) was.2 ∙ ap (λ ps. put_if (pair_of_aim hart s (aim_at new s)) (out_if (pair_of_aim hart s (aim_at old s)) ps))
            (keeps.lists hart was.0 was.1).0
            ∙ ap (λ o. put_if o (out_if (pair_of_aim hart s (aim_at old s)) (ordered (waiting_pair_at old hart) 1 (length old - 1))))
            (sym (pair_by_aim new hart s))
            ∙ ap (λ o. put_if (waiting_pair_at new hart s) (out_if o (ordered (waiting_pair_at old hart) 1 (length old - 1))))
            (sym (pair_by_aim old hart s))
            ∙ ordered_changed (waiting_pair_at old hart) (waiting_pair_at new hart) s 1 (length old - 1) (omega arith) (omega arith)
            (pair_elsewhere old new s change each hart)
            ∙ ap (λ n. ordered (waiting_pair_at new hart) 1 (n - 1)) (sym (same_count old new s change each)),
        ap (λ z. z.room) was.2 ∙ (keeps.lists hart was.0 was.1).1 ∙ ap (λ n. n - 1) (sym (same_count old new s change each)),
      );
  bits = λ t. ap (λ b. is_in b t) bits ∙ keeps.bits t;
}

pub renewed_room : (old new : List InterruptSourceState) (waiting : WaitingState) (s : ℕ) (change : InterruptSourceState → InterruptSourceState)
    → 0 < s → s < length old → EachSource old new (changed_at s change) → IsWhatWaits false old waiting
    → HasRoom s (aim_at old s) (aim_at new s) waiting.fronts
renewed_room old new waiting s change some within each keeps hart x found comes =
    let own = has_some (pair_of_aim hart s (aim_at new s)) comes in
    let room = ordered_room (waiting_pair_at old hart) (waiting_pair_at new hart) own.0 s 1 (length old - 1) (omega arith) (omega arith)
    (pair_elsewhere old new s change each hart) (pair_by_aim new hart s ∙ own.1) in
    let same : length (out_if (pair_of_aim hart s (aim_at old s)) x.pairs) ≡ length
    (out_if (waiting_pair_at old hart s) (ordered (waiting_pair_at old hart) 1 (length old - 1))) =
    ap (λ ps. length (out_if (pair_of_aim hart s (aim_at old s)) ps)) (keeps.lists hart x found).0
    ∙ ap (λ o. length (out_if o (ordered (waiting_pair_at old hart) 1 (length old - 1)))) (sym (pair_by_aim old hart s)) in
    omega (arith, room, same, (keeps.lists hart x found).1)
  where
    has_some : (o : Option Pair) → is_some o ≡ true → (p : Pair) × (o ≡ Some p)
    has_some None e = absurd (let bad : ◌≡◌ {A = Bool} false true = e in cc)
    has_some (Some p) e = (p, refl)

-- number 0 is in no list
pub keeps_no_source : (old new : List InterruptSourceState) (waiting : WaitingState) (s : ℕ)
    (change : InterruptSourceState → InterruptSourceState) → s ≡ 0 → EachSource old new (changed_at s change) → IsWhatWaits false old waiting
    → IsWhatWaits false new waiting
keeps_no_source old new waiting s change zeroth each keeps = record {
  lists = λ hart x found. (
    (keeps.lists hart x found).0
        ∙ ordered_same _ _ 1 (length old - 1) (λ i a b. pair_elsewhere old new s change each hart i (λ e. omega (arith, e, zeroth, a)))
        ∙ ap (λ n. ordered (waiting_pair_at new hart) 1 (n - 1)) (sym (same_count old new s change each)),
    (keeps.lists hart x found).1
        ∙ ap (λ n. n - 1) (sym (same_count old new s change each)),
  );
  bits = keeps.bits;
}

-- ---- all lists and bits anew

-- one source more, from the greatest number on
pub put_first : (sources : List InterruptSourceState) (s : ℕ) (room : ℕ) (before after : List CandidatesState) → 0 < s → s ≤ length sources
    → EachAt before after (λ hart. with_pair (pair_of_aim hart (s - 1) (aim_at sources (s - 1))))
    → AllHave (λ hart. ordered (waiting_pair_at sources hart) s (length sources - s)) room before
    → AllHave (λ hart. ordered (waiting_pair_at sources hart) (s - 1) (length sources - (s - 1))) room after
put_first sources s room before after some within each have hart y found =
    let was = each_at before after (λ hart. with_pair (pair_of_aim hart (s - 1) (aim_at sources (s - 1)))) each hart y found in
    let n : length sources - (s - 1) ≡ suc (length sources - s) = omega arith in
    let f : suc (s - 1) ≡ s = omega arith in (
      ap (λ z. z.pairs) was.2 ∙ ap (put_if (pair_of_aim hart (s - 1) (aim_at sources (s - 1)))) (have hart was.0 was.1).0
          ∙ ap (λ o. put_if o (ordered (waiting_pair_at sources hart) s (length sources - s))) (sym (pair_by_aim sources hart (s - 1)))
          ∙ ap (λ k. put_if (waiting_pair_at sources hart (s - 1)) (ordered (waiting_pair_at sources hart) k (length sources - s))) (sym f)
          ∙ sym (ordered-suc (waiting_pair_at sources hart) (s - 1) (length sources - s))
          ∙ ap (ordered (waiting_pair_at sources hart) (s - 1)) (sym n),
      ap (λ z. z.room) was.2 ∙ (have hart was.0 was.1).1,
    )

pub none_put : (sources : List InterruptSourceState) (room : ℕ) (fronts : List CandidatesState) → AllHave (λ hart. []) room fronts
    → AllHave (λ hart. ordered (waiting_pair_at sources hart) (length sources) (length sources - length sources)) room fronts
none_put sources room fronts have hart x found =
    let e : length sources - length sources ≡ 0 = omega arith in (
      (have hart x found).0 ∙ sym (ap (ordered (waiting_pair_at sources hart) (length sources)) e
          ∙ ordered-none (waiting_pair_at sources hart) (length sources)),
      (have hart x found).1,
    )

-- each list has room for one more, as long as a source is left
pub room_left : (sources : List InterruptSourceState) (s room : ℕ) (o : ℕ → Option Pair) (fronts : List CandidatesState) → 1 < s
    → s ≤ length sources → room ≡ length sources - 1 → AllHave (λ hart. ordered (waiting_pair_at sources hart) s (length sources - s)) room fronts
    → (hart : ℕ) (x : CandidatesState) → slice_get fronts hart ≡ Some x → is_some (o hart) ≡ true → length x.pairs < x.room
room_left sources s room o fronts some within size have hart x found comes =
    let few = ordered_length (waiting_pair_at sources hart) s (length sources - s) in
    omega (arith, few, ap length (have hart x found).0, (have hart x found).1, size)

pub cleared_have : (room : ℕ) (before after : List CandidatesState) → HaveRoom room before
    → EachAt before after (λ hart x. record x { pairs = [] }) → AllHave (λ hart. []) room after
cleared_have room before after have each hart y found =
    let was = each_at before after (λ hart x. record x { pairs = [] }) each hart y found in
    (ap (λ z. z.pairs) was.2, ap (λ z. z.room) was.2 ∙ have hart was.0 was.1)

pub none_waits : (sources : List InterruptSourceState) (s : ℕ) → length sources ≤ s → waits_at sources s ≡ false
none_waits sources s past = ap (λ o. option_map_or waits o false) (slice_get_past sources s past)

pub waits_below : (sources : List InterruptSourceState) (b : Bool) (n t : ℕ) → n ≡ length sources → b ≡ (nat_lt t n && waits_at sources t)
    → b ≡ waits_at sources t
waits_below sources b n t all is = is ∙ elim (cases_lt t n) [
  | inl low ↦ ap (λ x. x && waits_at sources t) (lt-ltb t n low)
  | inr past ↦ and_right (nat_lt t n) (waits_at sources t) (none_waits sources t (omega (arith, all, past)))
      ∙ sym (none_waits sources t (omega (arith, all, past)))
]

pub told_more : (sources : List InterruptSourceState) (s t : ℕ) (b is : Bool) → b ≡ waits_at sources s → is ≡ (nat_lt t s && waits_at sources t)
    → cond (nat_eq s t) b is ≡ (nat_lt t (s + 1) && waits_at sources t)
told_more sources s t b is told before = elim (cases_eq s t) [
  | inl e ↦ cond-true _ _ _ (eq-eqb s t e) ∙ told ∙ ap (waits_at sources) e
      ∙ sym (ap (λ x. x && waits_at sources t) (lt-ltb t (s + 1) (omega (arith, e))))
  | inr ne ↦ cond-false _ _ _ (ne_eqb s t ne) ∙ before ∙ ap (λ x. x && waits_at sources t) (below ne)
]
  where
    below : (s ≡ t → ⊥) → nat_lt t s ≡ nat_lt t (s + 1)
    below ne = elim (cases_lt t s) [
      | inl low ↦ lt-ltb t s low ∙ sym (lt-ltb t (s + 1) (omega arith))
      | inr past ↦ le-ltb t s past ∙ sym (le-ltb t (s + 1) (omega (arith, ne, past)))
    ]

-- no source waits where a domain begins
ordered_nothing : (c : ℕ → Option Pair) (from count : ℕ) → ((i : ℕ) → c i ≡ None) → ordered c from count ≡ []
ordered_nothing c from zero none = ordered-none c from
ordered_nothing c from (suc count) none = ordered-suc c from count ∙ ap (λ o. put_if o (ordered c (suc from) count)) (none from)
    ∙ ordered_nothing c (suc from) count none

pub new_keeps : (sources : List InterruptSourceState) (waiting : WaitingState) (room : ℕ) → All (λ x. x ≡ new_source) sources
    → room ≡ length sources - 1 → AllHave (λ hart. []) room waiting.fronts → ((s : ℕ) → is_in waiting.ready s ≡ false)
    → IsWhatWaits false sources waiting
new_keeps sources waiting room each size have none = record {
  lists = λ hart x found. (
    (have hart x found).0
        ∙ sym (ordered_nothing (waiting_pair_at sources hart) 1 (length sources - 1) (λ i. ap (waiting_pair hart i) (inactive i))),
    (have hart x found).1 ∙ size,
  );
  bits = none;
}
  where
    inactive : (i : ℕ) → get_or sources i new_source ≡ new_source
    inactive i = elim (cases_lt i (length sources)) [
      | inl low ↦ each i new_source low
      | inr past ↦ sym (unwrap_or-slice_get sources i new_source) ∙ ap (λ o. unwrap_or o new_source) (slice_get_past sources i past)
    ]

-- ---- the list of a hart

small_pair : (sources : List InterruptSourceState) (hart s : ℕ) (p : Pair) → s ≤ SOURCES → waiting_pair_at sources hart s ≡ Some p → IsPairOfSource p
small_pair sources hart s p low is = at _ is
  where
    at : (b : Bool) → pair_if b (source_at sources s).target s ≡ Some p → IsPairOfSource p
    at false e = absurd (none-some p e)
    at true e = let same = same_Some _ _ e in subst IsPairOfSource same (omega arith, low)

pub list_rising : (x : SourcesState) (hart : ℕ) → IsRising (candidates_of x.harts x.msi x.sources hart)
list_rising x hart = at (nat_le x.harts hart) x.msi
  where
    at : (b m : Bool) → IsRising (cond b [] (cond m [] (ordered (waiting_pair_at x.sources hart) 1 (length x.sources - 1))))
    at true m = λ i j d low within. absurd (omega arith)
    at false true = λ i j d low within. absurd (omega arith)
    at false false = ordered_rising (waiting_pair_at x.sources hart) 1 (length x.sources - 1)

pub list_small : (x : SourcesState) (hart : ℕ) → length x.sources ≤ suc SOURCES → All IsPairOfSource (candidates_of x.harts x.msi x.sources hart)
list_small x hart few = at (nat_le x.harts hart) x.msi
  where
    at : (b m : Bool) → All IsPairOfSource (cond b [] (cond m [] (ordered (waiting_pair_at x.sources hart) 1 (length x.sources - 1))))
    at true m = λ k d low. absurd (omega arith)
    at false true = λ k d low. absurd (omega arith)
    at false false = ordered_all IsPairOfSource (waiting_pair_at x.sources hart) 1 (length x.sources - 1)
        (λ s p a b is. small_pair x.sources hart s p (omega (arith, few)) is)

-- ---- by MSIs

-- a domain whose interrupts are enabled, or not, has what waits, or nothing, to be forwarded
pub when_on : (msi on w : Bool) → on ≡ true → (msi && on && w) ≡ (msi && w)
when_on true true w e = refl
when_on false true w e = refl
when_on msi false w e = absurd (false≢true e)

pub when_off : (msi on w : Bool) → on ≡ false → (msi && on && w) ≡ false
when_off msi true w e = absurd (false≢true (sym e))
when_off true false w e = refl
when_off false false w e = refl
