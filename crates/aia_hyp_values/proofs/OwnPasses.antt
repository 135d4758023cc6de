-- The passes to one virtual hart, as its plan has them; and what its plan aims.
use Rattle.std.proofs.Common.{inl, inr, ◌≡◌, ℕ, zero, suc, ◌+◌, ◌<◌, ◌≤◌, Bool, true, false, cond, nat_lt, slice_index_or, List, [], ◌∷◌, length, Some, None, refl, sym, ap, subst, ◌∙◌, arith}
use Rattle.std.specs.Prelude.{All}
use Rattle.std.specs.List.{AllByRecursion}
use Rattle.std.specs.Int.{is_in_range}
use Rattle.std.proofs.lemmas.Bool.{cases_Bool, and_parts, ltb-true}
use Rattle.std.proofs.lemmas.Bool.Decides.{nat_tests}
use Rattle.aia_regs.specs.declared.limits.TheConstants.{IDENTITIES, PASSES}
use Rattle.aia_vcpu.specs.Vms.{Vcpu, is_vcpu, notice_hart}
use Rattle.aia_vcpu.specs.BySteps.{new_file}
use Rattle.aia_vcpu.specs.Aims.{aims_done, is_aiming, target_to}
use Rattle.aia_move_values.specs.declared.who.Pass as plans
use Rattle.aia_move_values.specs.PlanState.{PlanState, moving_of}
use Rattle.aia_move_values.specs.Targets as targets
use Rattle.aia_move_values.specs.Targets.{ArePasses, AimsAs, aims, aim_if, next_aim}
use Rattle.aia_model.specs.Event.{History, greatest_identity_of}
use Rattle.aia_model.specs.Event.Event.{Stepped}
use Rattle.aia_model.specs.Vms.{vms_of, has_vcpu}
use Rattle.aia_model.specs.HomeOf.{home}
use Rattle.aia_model.specs.Passes.{PassedSource, no_pass, passes_of, nth_pass, passes_to, numbers_to, passes_for, own_pass}
use Rattle.aia_model.specs.Act.{Act}
use Rattle.aia_model.specs.Act.Act.{Aimed}
use Rattle.aia_model.specs.Aim.{aimed_by, aim_of}
use Rattle.aia_hyp_values.specs.declared.vcpu.Stay.TheVariants as stays
use Rattle.aia_hyp_values.specs.Core.{CoreState, record_of, home_in}
use Rattle.aia_hyp_values.specs.Passes.{own_passes, HasItsPasses, IsToOne, AimsBy}
use Rattle.aia_hyp_values.specs.Stands.{PlanStands, CoreStands}
use Rattle.aia_move_values.proofs.WayTargets.{next_reach}

-- ---- among all passes

pub own_length : (n : ℕ) (g : Vcpu) (xs : List PassedSource) → length (own_passes n g xs) ≡ passes_to g xs
own_length n g [] = refl
own_length n g (x ∷ xs) = elim (cases_Bool (is_vcpu x.to g)) [
  | inl mine ↦ rw mine (ap suc (own_length (suc n) g xs))
  | inr other ↦ rw other (own_length (suc n) g xs)
]

-- the r-th of them is the pass of the r-th of their numbers
abbrev IsNth : ℕ → Vcpu → List PassedSource → ℕ → ℕ → Type 0
IsNth n g xs r k = (slice_index_or (numbers_to g n xs) r 0 ≡ n + k)
    × (slice_index_or (own_passes n g xs) r targets.no_pass ≡ record
    { source = (slice_index_or xs k no_pass).source; identity = (slice_index_or xs k no_pass).identity; number = n + k })

pub own_nth : (n : ℕ) (g : Vcpu) (xs : List PassedSource) (r : ℕ) → r < passes_to g xs → (k : ℕ) × IsNth n g xs r k
own_nth n g [] r low = absurd (omega (arith, low))
own_nth n g (x ∷ xs) r low = by_own (is_vcpu x.to g) refl r low (own_nth (suc n) g xs)
  where
    moved : (k : ℕ) → suc n + k ≡ n + suc k
    moved k = omega arith

    by_own : (b : Bool) → is_vcpu x.to g ≡ b → (r : ℕ) → r < cond b (suc (passes_to g xs)) (passes_to g xs)
        → ((r : ℕ) → r < passes_to g xs → (k : ℕ) × IsNth (suc n) g xs r k) → (k : ℕ) × IsNth n g (x ∷ xs) r k
    by_own true e zero low later = rw e (0, (omega arith, ap (λ m. record { source = x.source; identity = x.identity; number = m }) (omega arith)))
    by_own true e (suc r) low later =
        let found = later r (omega (arith, low)) in
        rw e (
          suc found.0,
          (
            found.1.0 ∙ moved found.0,
            found.1.1
                ∙ ap (λ m. record {
                  source = (slice_index_or xs found.0 no_pass).source;
                  identity = (slice_index_or xs found.0 no_pass).identity;
                  number = m;
                }) (moved found.0),
          ),
        )
    by_own false e r low later =
        let found = later r low in
        rw e (
          suc found.0,
          (
            found.1.0 ∙ moved found.0,
            found.1.1
                ∙ ap (λ m. record {
                  source = (slice_index_or xs found.0 no_pass).source;
                  identity = (slice_index_or xs found.0 no_pass).identity;
                  number = m;
                }) (moved found.0),
          ),
        )

-- each has an identity that a file may have, and a number below that of all
pub own_all : (h : History) (n : ℕ) (g : Vcpu) (xs : List PassedSource) → greatest_identity_of h ≤ IDENTITIES → n + length xs ≤ PASSES
    → AllByRecursion (IsToOne h) xs → All (λ (p : plans.Pass). (p.identity ≤ IDENTITIES) × (p.number < PASSES)) (own_passes n g xs)
own_all h n g [] most few to = λ k d low. absurd (omega (arith, low))
own_all h n g (x ∷ xs) most few to = by_own (is_vcpu x.to g) refl (own_all h (suc n) g xs most (omega (arith, few)) to.1)
  where
    by_own : (b : Bool) → is_vcpu x.to g ≡ b → All (λ (p : plans.Pass). (p.identity ≤ IDENTITIES) × (p.number < PASSES)) (own_passes (suc n) g xs)
        → All (λ (p : plans.Pass). (p.identity ≤ IDENTITIES) × (p.number < PASSES)) (own_passes n g (x ∷ xs))
    by_own true e later = rw e (λ k d low. at_place k d low later)
      where
        at_place : (k : ℕ) (d : plans.Pass) → k < suc (length (own_passes (suc n) g xs))
            → All (λ (p : plans.Pass). (p.identity ≤ IDENTITIES) × (p.number < PASSES)) (own_passes (suc n) g xs)
            → ((slice_index_or (record { source = x.source; identity = x.identity; number = n } ∷ own_passes (suc n) g xs) k
            d).identity ≤ IDENTITIES) × ((slice_index_or (record { source = x.source; identity = x.identity; number = n } ∷ own_passes (suc n)
            g xs) k d).number < PASSES)
        at_place zero d low later = let in_range : is_in_range 1 (greatest_identity_of h) x.identity ≡ true = to.0.1 in
            let high : x.identity ≤ greatest_identity_of h = grind (arith, nat_tests) in (omega (arith, high, most), omega (arith, few))
        at_place (suc k) d low later = later k d (omega (arith, low))
    by_own false e later = rw e later

-- ---- of the plan of one that is moved

module _ (x : CoreState) (h : History) (g : Vcpu) (plan : PlanState) (stands : CoreStands x h) (there : has_vcpu h g ≡ true)
    (was : (record_of x g).stay ≡ stays.Moving plan) where
  has : (moving_of plan).who.passes.items ≡ own_passes 0 g (passes_of h)
  has = subst (HasItsPasses (passes_of h) g) was (stands.vcpus g there).passes

  planned : PlanStands x.world g (stays.Moving plan)
  planned = subst (PlanStands x.world g) was (stands.vcpus g there).plan

  same_home : (moving_of plan).home ≡ home h g
  same_home = ap home_in (sym was) ∙ (stands.vcpus g there).same_home

  same_count : length (moving_of plan).who.passes.items ≡ passes_for h g
  same_count = ap (λ xs. length xs) has ∙ own_length 0 g (passes_of h)

  pub aims_alike : aims (moving_of plan) ≡ is_aiming (passes_for h g) (home h g)
  aims_alike = λ k. is_aiming (same_count k) (same_home k)

  pub are_passes : greatest_identity_of h ≤ IDENTITIES → length x.passes ≤ PASSES → ArePasses (moving_of plan).who
  are_passes most few = subst (All (λ (p : plans.Pass). (p.identity ≤ IDENTITIES) × (p.number < PASSES))) (sym has)
      (own_all h 0 g (passes_of h) most (omega (arith, few, ap (λ (xs : List PassedSource). length xs) stands.passes.same)) stands.passes.to_one)

  -- what its step aims is what the history says
  same_notice : (moving_of plan).who.found.notice ≡ notice_hart (vms_of h) g
  same_notice = planned.0.notice ∙ (λ k. notice_hart (stands.vms k) (planned.2 k))

  abbrev its : ℕ
  its = own_pass h g (aims_done (home h g))

  next_is : is_aiming (passes_for h g) (home h g) ≡ true
      → targets.next_pass (moving_of plan) ≡ record { source = (nth_pass h its).source; identity = (nth_pass h its).identity; number = its }
  next_is aiming =
      let low : aims_done (home h g) < passes_for h g = ltb-true _ _ (and_parts _ (nat_lt (aims_done (home h g)) (passes_for h g)) aiming).1 in
      let found = own_nth 0 g (passes_of h) (aims_done (home h g)) low in
      let zero : 0 + found.0 ≡ its = sym found.1.0 in
      let number : found.0 ≡ its = omega (arith, zero) in
      (λ k. slice_index_or (has k) (aims_done (same_home k)) targets.no_pass) ∙ found.1.1
      ∙ (λ k. record {
        source = (slice_index_or (passes_of h) (number k) no_pass).source;
        identity =
            (slice_index_or (passes_of h) (number k) no_pass).identity;
        number = zero k;
      })

  aim_is : is_aiming (passes_for h g) (home h g) ≡ true
      → Aimed (targets.aim_of (moving_of plan)).source (targets.aim_of (moving_of plan)).target ≡ aim_of h g its
  aim_is aiming = λ k. Aimed (next_is aiming k).source
      (target_to (same_notice k) (next_is aiming k).number (next_is aiming k).identity
      ((ap new_file same_home ∙ sym (next_reach (passes_for h g) (home h g) aiming)) k))

  pub aims_so : {T : Type 0} (aim : T → ℕ → ℕ → T → Type 0) (old new : T) → AimsAs aim (next_aim (moving_of plan)) old new
      → AimsBy aim (aimed_by h (Stepped g)) old new
  aims_so {T} aim old new done = by_aim (is_aiming (passes_for h g) (home h g)) refl
    where
      by_aim : (b : Bool) → is_aiming (passes_for h g) (home h g) ≡ b → AimsBy aim (aimed_by h (Stepped g)) old new
      by_aim true e =
          let made : AimsAs aim (Some (targets.aim_of (moving_of plan))) old new =
          subst (λ b. AimsAs aim (aim_if b (moving_of plan)) old new) (aims_alike ∙ e) done in
          rw e (subst (λ (a : Act). AimsBy aim (Some a) old new) (aim_is e) made)
      by_aim false e =
          let made : AimsAs aim None old new = subst (λ b. AimsAs aim (aim_if b (moving_of plan)) old new) (aims_alike ∙ e) done in
          rw e made

  -- where it aims none, the history says so
  pub none_aimed : aims (moving_of plan) ≡ false → aimed_by h (Stepped g) ≡ None
  none_aimed none =
      let still : is_aiming (passes_for h g) (home h g) ≡ false = sym aims_alike ∙ none in
      rw still refl
