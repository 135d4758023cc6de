-- A table that stands for the steps that are done.
use Rattle.std.proofs.Common.{◌≡◌, ℕ, zero, suc, ◌<◌, Bool, true, false, not, ◌&&◌, ◌||◌, length, List, [], ◌∷◌, Option, Some, None, get_or, map, refl, sym, ap, subst, ◌∙◌, arith}
use Rattle.std.specs.Prelude.{slice_get, option_map, replicate}
use Rattle.std.proofs.lemmas.List.{length-replicate, get_or-replicate, length-map}
use Rattle.std.proofs.lemmas.Option.{slice_get-get_or, slice_get-map}
use Rattle.plans_rules.specs.declared.step.AnyStep.{AnyStep}
use Rattle.plans_rules.specs.declared.setting.RouteKind.{RouteKind}
use Rattle.plans_rules.specs.declared.setting.RouteKind.TheVariants.{Routed, Switched}
use Rattle.plans_rules.specs.declared.step.WhichSet.TheVariants.{Pending, Enabled}
use Rattle.plans_rules.specs.Setting.{Setting, setting_of, all_below, any_below}
use Rattle.plans_rules.specs.Rules.{Done, shuts, frees, writes_notice, is_noticed, are_heeded, is_paused, is_led_as, is_led_if_any, is_calm, reaches, is_reached, is_still, was_shut, is_shut, lets, any_old, only_hand, is_blank, is_reported}
use Rattle.plans_judge.specs.declared.table.Table.{Table}
use Rattle.plans_judge.specs.declared.lead.Lead.{Lead}
use Rattle.plans_judge.specs.declared.word.Word.{Word}
use Rattle.plans_rules.specs.declared.step.Number.{Number}
use Rattle.plans_rules.specs.declared.step.Number.TheVariants.{Threshold, Delivery}
use Rattle.plans_rules.specs.declared.step.AnyPlace.TheVariants.{Old, New}
use Rattle.plans_rules.specs.declared.step.AnyStep.TheVariants.{Zero, ZeroNumber, TakeNumber, CopyNumber, PutNumber, Free}
use Rattle.plans_rules.specs.declared.rule.Rule.TheVariants.{Freeing}
use Rattle.std.specs.List.{list_any}
use Rattle.plans_rules.specs.declared.setting.Terms.{Terms}
use Rattle.plans_judge.specs.declared.word.World.{World}
use Rattle.plans_judge.specs.Table.{AllAfter, Stands, lead_first, lead_after, lead_at, led_by, calm_by, reaching_by, is_calm_at, is_reaching_at, led_if_any, ready_by, shut_by, spots_any_old, is_taken_at, is_kept_at, is_blank_at, is_reported_at, word_first, word_after, word_at, standing_first, standing_after, standing_at, world_at}

pub all_below_same : (f g : ℕ → Bool) (n : ℕ) → ((k : ℕ) → k < n → f k ≡ g k) → all_below f n ≡ all_below g n
all_below_same f g zero same = refl
all_below_same f g (suc n) same = ap (λ b. b && all_below f n) (same n (omega arith))
    ∙ ap (λ b. g n && b) (all_below_same f g n (λ k low. same k (omega (arith, low))))

pub any_below_same : (f g : ℕ → Bool) (n : ℕ) → ((k : ℕ) → k < n → f k ≡ g k) → any_below f n ≡ any_below g n
any_below_same f g zero same = refl
any_below_same f g (suc n) same =
    ap (λ b. either_of b (any_below f n)) (same n (omega arith))
    ∙ ap (λ b. either_of (g n) b) (any_below_same f g n (λ k low. same k (omega (arith, low))))
  where
    either_of : Bool → Bool → Bool
    either_of a b = elim a [ true ↦ true | false ↦ b ]

-- the elements that stand for what is done
led_next : (old : Table) (leads : List Lead) (x : AnyStep) (producers : List RouteKind) (done : Done) (p : ℕ) → Stands old producers done
    → AllAfter (lead_after x) old.leads.items leads → p < length producers
    → slice_get leads p ≡ Some (lead_at (x ∷ done) p (get_or producers p Routed))
led_next old leads x producers done p v made low =
    made.1 p ∙ ap (option_map (lead_after x p)) (v.leads p)
    ∙ ap (λ (o : Option RouteKind). option_map (lead_after x p) (option_map (lead_at done p) o)) (slice_get-get_or producers p Routed low)

led_same : (kind : RouteKind) (p : ℕ) (done : Done) → led_by (lead_at done p kind) ≡ is_led_as (Some kind) p done
led_same Routed p done = refl
led_same Switched p done = refl

led_as : (kind : RouteKind) (p : ℕ) (done : Done) (o : Option RouteKind) → o ≡ Some kind → led_by (lead_at done p kind) ≡ is_led_as o p done
led_as kind p done o e = led_same kind p done ∙ sym (ap (λ (k : Option RouteKind). is_led_as k p done) e)

reaching_next : (old : Table) (leads : List Lead) (x : AnyStep) (producers : List RouteKind) (done : Done) → Stands old producers done
    → AllAfter (lead_after x) old.leads.items leads
    → any_below (is_reaching_at leads) (length leads) ≡ is_reached (setting_of producers old.terms) Pending (x ∷ done)
reaching_next old leads x producers done v made =
    ap (any_below (is_reaching_at leads)) (made.0 ∙ v.count)
    ∙ any_below_same (is_reaching_at leads) (λ p. reaches p (x ∷ done)) (length producers)
    (λ p low. ap (λ (o : Option Lead). elim o [ None ↦ false | Some lead ↦ reaching_by lead ]) (led_next old leads x producers done p v made low))

calm_next : (old : Table) (leads : List Lead) (x : AnyStep) (producers : List RouteKind) (done : Done) → Stands old producers done
    → AllAfter (lead_after x) old.leads.items leads
    → all_below (is_calm_at leads) (length leads) ≡ is_still (setting_of producers old.terms) Pending (x ∷ done)
calm_next old leads x producers done v made =
    ap (all_below (is_calm_at leads)) (made.0 ∙ v.count)
    ∙ all_below_same (is_calm_at leads) (λ p. is_calm (setting_of producers old.terms) p (x ∷ done)) (length producers)
    (λ p low. ap (λ (o : Option Lead). elim o [ None ↦ false | Some lead ↦ calm_by lead ]) (led_next old leads x producers done p v made low)
    ∙ ap (λ b. b || is_paused p (x ∷ done)) (led_as (get_or producers p Routed) p (x ∷ done) (slice_get producers p)
    (slice_get-get_or producers p Routed low)))

pub calm_is : (t : Table) (producers : List RouteKind) (done : Done) → Stands t producers done
    → all_below (is_calm_at t.leads.items) (length t.leads.items) ≡ is_still (setting_of producers t.terms) Pending done
calm_is t producers done v =
    ap (all_below (is_calm_at t.leads.items)) v.count
    ∙ all_below_same (is_calm_at t.leads.items) (λ p. is_calm (setting_of producers t.terms) p done) (length producers)
    (λ p low. ap (λ (o : Option Lead). elim o [ None ↦ false | Some lead ↦ calm_by lead ]) (v.leads p ∙ ap (option_map (lead_at done p))
    (slice_get-get_or producers p Routed low))
    ∙ ap (λ b. b || is_paused p done) (led_as (get_or producers p Routed) p done (slice_get producers p) (slice_get-get_or producers p Routed low)))

pub resumed_is : (t : Table) (producers : List RouteKind) (done : Done) (p : ℕ) → Stands t producers done
    → led_if_any (slice_get t.leads.items p) ≡ is_led_if_any (setting_of producers t.terms) p done
resumed_is t producers done p v = ap led_if_any (v.leads p) ∙ at_kind (slice_get producers p)
  where
    at_kind : (o : Option RouteKind) → led_if_any (option_map (lead_at done p) o) ≡ elim o [ None ↦ true | Some kind ↦ is_led_as (Some kind) p done ]
    at_kind None = refl
    at_kind (Some kind) = led_same kind p done

pub taken_is : (t : Table) (producers : List RouteKind) (done : Done) → Stands t producers done
    → all_below (is_taken_at t.words.items) (length t.words.items) ≡ all_below
    (λ w. not (any_old (setting_of producers t.terms) Pending w done)) t.terms.words
taken_is t producers done v =
    ap (all_below (is_taken_at t.words.items)) v.width
    ∙ all_below_same _ _ t.terms.words (λ w low. ap
    (λ (o : Option Word). elim o [ None ↦ false | Some word ↦ not (spots_any_old word.pending.spots) ])
    (v.words w low))

pub kept_is : (t : Table) (producers : List RouteKind) (done : Done) → Stands t producers done
    → all_below (is_kept_at t.words.items) (length t.words.items)
    ≡ all_below (λ w. not (only_hand (setting_of producers t.terms) Pending w done) && (not (any_old (setting_of producers t.terms) Enabled w done)
    && not (only_hand (setting_of producers t.terms) Enabled w done)))
    t.terms.words
kept_is t producers done v =
    ap (all_below (is_kept_at t.words.items)) v.width
    ∙ all_below_same _ _ t.terms.words (λ w low. ap
    (λ (o : Option Word). elim o [
      | None ↦ false
      | Some word ↦
          not word.pending.spots.hand && (not (spots_any_old word.enabled.spots) && not word.enabled.spots.hand)
    ]) (v.words w low))

pub blank_is : (t : Table) (producers : List RouteKind) (done : Done) → Stands t producers done
    → all_below (is_blank_at t.words.items) (length t.words.items)
    ≡ all_below (λ w. is_blank (setting_of producers t.terms) Pending w done && is_blank (setting_of producers t.terms) Enabled w done) t.terms.words
blank_is t producers done v =
    ap (all_below (is_blank_at t.words.items)) v.width
    ∙ all_below_same _ _ t.terms.words (λ w low. ap
    (λ (o : Option Word). elim o [ None ↦ false | Some word ↦ word.pending.blank && word.enabled.blank ])
    (v.words w low))

pub shut_is : (t : Table) (producers : List RouteKind) (done : Done) → Stands t producers done
    → shut_by t.terms.is_inherited t.threshold_shut t.delivery_shut ≡ is_shut (setting_of producers t.terms) done
shut_is t producers done v = ap (λ b. shut_by t.terms.is_inherited b t.delivery_shut) v.threshold_shut
    ∙ ap (shut_by t.terms.is_inherited (was_shut Threshold done)) v.delivery_shut

pub free_is : (t : Table) (producers : List RouteKind) (done : Done) (led shut : Bool) → Stands t producers done
    → led ≡ is_still (setting_of producers t.terms) Pending done → shut ≡ is_shut (setting_of producers t.terms) done
    → (led && (not t.freed && shut)) ≡ lets Freeing (setting_of producers t.terms) Free done
free_is t producers done led shut v e f = ap (λ b. b && (not t.freed && shut)) e
    ∙ ap (λ b. is_still (setting_of producers t.terms) Pending done && (not b && shut)) v.freed
    ∙ ap (λ b. is_still (setting_of producers t.terms) Pending done && (not (list_any frees done) && b)) f

pub reported_is : (t : Table) (producers : List RouteKind) (done : Done) → Stands t producers done
    → all_below (is_reported_at t.words.items) (length t.words.items) ≡ all_below (λ w. is_reported (setting_of producers t.terms) w done)
    t.terms.words
reported_is t producers done v =
    ap (all_below (is_reported_at t.words.items)) v.width
    ∙ all_below_same _ _ t.terms.words (λ w low. ap (λ (o : Option Word). elim o [ None ↦ false | Some word ↦ word.reported ]) (v.words w low))

pub all_of_two : (b x y : Bool) → true ≡ x → b ≡ y → b ≡ (x && y)
all_of_two b true y e f = f
all_of_two b false y e f = absurd (cc)

pub where_asked : (m b x : Bool) → m ≡ true → b ≡ x → b ≡ elim m [ true ↦ x | false ↦ true ]
where_asked true b x e f = f
where_asked false b x e f = absurd (cc)

-- ---- a step

lead_step : (done : Done) (x : AnyStep) (p : ℕ) (o : Option RouteKind)
    → option_map (lead_after x p) (option_map (lead_at done p) o) ≡ option_map (lead_at (x ∷ done) p) o
lead_step done x p None = refl
lead_step done x p (Some kind) = refl

word_step : (d : Setting) (done : Done) (x : AnyStep) (w : ℕ) → word_after (world_at d x done) x w (word_at d done w) ≡ word_at d (x ∷ done) w
word_step d done x w = refl

pub standing_step : (d : Setting) (x : AnyStep) (n : Number) (done : Done) → standing_after x n (standing_at d n done) ≡ standing_at d n (x ∷ done)
standing_step d (TakeNumber Threshold) Threshold done = refl
standing_step d (TakeNumber Threshold) Delivery done = refl
standing_step d (TakeNumber Delivery) Threshold done = refl
standing_step d (TakeNumber Delivery) Delivery done = refl
standing_step d (CopyNumber Threshold) Threshold done = refl
standing_step d (CopyNumber Threshold) Delivery done = refl
standing_step d (CopyNumber Delivery) Threshold done = refl
standing_step d (CopyNumber Delivery) Delivery done = refl
standing_step d (PutNumber Threshold) Threshold done = refl
standing_step d (PutNumber Threshold) Delivery done = refl
standing_step d (PutNumber Delivery) Threshold done = refl
standing_step d (PutNumber Delivery) Delivery done = refl
standing_step d (ZeroNumber Old Threshold) Threshold done = refl
standing_step d (ZeroNumber Old Threshold) Delivery done = refl
standing_step d (ZeroNumber Old Delivery) Threshold done = refl
standing_step d (ZeroNumber Old Delivery) Delivery done = refl
standing_step d (ZeroNumber New Threshold) Threshold done = refl
standing_step d (ZeroNumber New Threshold) Delivery done = refl
standing_step d (ZeroNumber New Delivery) Threshold done = refl
standing_step d (ZeroNumber New Delivery) Delivery done = refl
standing_step d (Zero Old s w) n done = refl
standing_step d (Zero New s w) n done = refl
standing_step d x n done = refl

-- the table is that of one step more
pub stands_more : (old new : Table) (x : AnyStep) (world : World) (producers : List RouteKind) (done : Done)
    → world ≡ record {
      still = all_below (is_calm_at new.leads.items) (length new.leads.items);
      reached = any_below (is_reaching_at new.leads.items) (length new.leads.items);
      ready = ready_by old.terms.heeds new.threshold new.delivery new.noticed;
    }
    → new.terms ≡ old.terms → AllAfter (lead_after x) old.leads.items new.leads.items → AllAfter (word_after world x) old.words.items new.words.items
    → new.threshold ≡ standing_after x Threshold old.threshold → new.delivery ≡ standing_after x Delivery old.delivery
    → new.freed ≡ (frees x || old.freed) → new.threshold_shut ≡ (shuts Threshold x || old.threshold_shut)
    → new.delivery_shut ≡ (shuts Delivery x || old.delivery_shut) → new.noticed ≡ (writes_notice x || old.noticed)
    → Stands old producers done → Stands new producers (x ∷ done)
stands_more old new x world producers done knows_world terms leads words threshold delivery freed threshold_shut delivery_shut noticed v =
    let d : Setting = setting_of producers old.terms in
    let low : new.threshold ≡ standing_at d Threshold (x ∷ done) =
    threshold ∙ ap (standing_after x Threshold) v.threshold ∙ standing_step d x Threshold done in
    let goes : new.delivery ≡ standing_at d Delivery (x ∷ done) =
    delivery ∙ ap (standing_after x Delivery) v.delivery ∙ standing_step d x Delivery done in
    let notes : new.noticed ≡ is_noticed d (x ∷ done) = noticed ∙ ap (λ b. writes_notice x || b) v.noticed in
    let knows : ready_by d.heeds new.threshold new.delivery new.noticed ≡ (are_heeded d (x ∷ done) && is_noticed d (x ∷ done)) =
    ap (λ s. ready_by d.heeds s new.delivery new.noticed) low ∙ ap (λ s. ready_by d.heeds (standing_at d Threshold (x ∷ done)) s new.noticed) goes
    ∙ ap (ready_by d.heeds (standing_at d Threshold (x ∷ done)) (standing_at d Delivery (x ∷ done))) notes in
    let is : world ≡ world_at d x done = knows_world
    ∙ ap (λ b. record {
      still = b;
      reached = any_below (is_reaching_at new.leads.items) (length new.leads.items);
      ready = ready_by d.heeds new.threshold new.delivery new.noticed;
    }) (calm_next old new.leads.items x producers done v leads)
    ∙ ap (λ b. record {
      still = is_still d Pending (x ∷ done);
      reached = b;
      ready = ready_by d.heeds new.threshold new.delivery new.noticed;
    }) (reaching_next old new.leads.items x producers done v leads)
    ∙ ap (λ b. record { still = is_still d Pending (x ∷ done); reached = is_reached d Pending (x ∷ done); ready = b }) knows in
    let inside : (w : ℕ) → w < old.terms.words → slice_get new.words.items w ≡ Some (word_at d (x ∷ done) w) =
    λ w low. words.1 w ∙ ap (option_map (word_after world x w)) (v.words w low) ∙ ap (λ k. Some (word_after k x w (word_at d done w))) is
    ∙ ap Some (word_step d done x w) in
    record {
      count = leads.0 ∙ v.count;
      leads = λ p. leads.1 p ∙ ap (option_map (lead_after x p)) (v.leads p) ∙ lead_step done x p (slice_get producers p);
      width = words.0 ∙ v.width ∙ ap (λ (t : Terms). t.words) (sym terms);
      words = λ w low. subst (λ (t : Terms). slice_get new.words.items w ≡ Some (word_at (setting_of producers t) (x ∷ done) w)) (sym terms)
          (inside w (subst (λ (t : Terms). w < t.words) terms low));
      threshold = subst (λ (t : Terms). new.threshold ≡ standing_at (setting_of producers t) Threshold (x ∷ done)) (sym terms)
          low;
      delivery = subst (λ (t : Terms). new.delivery ≡ standing_at (setting_of producers t) Delivery (x ∷ done)) (sym terms)
          goes;
      freed = freed ∙ ap (λ b. frees x || b) v.freed;
      threshold_shut = threshold_shut ∙ ap (λ b. shuts Threshold x || b) v.threshold_shut;
      delivery_shut = delivery_shut ∙ ap (λ b. shuts Delivery x || b) v.delivery_shut;
      noticed = subst (λ (t : Terms). new.noticed ≡ is_noticed (setting_of producers t) (x ∷ done)) (sym terms)
          notes;
    }

-- ---- no step

replicated : {A : Type 0} (n w : ℕ) (y : A) → w < n → slice_get (replicate n y) w ≡ Some y
replicated n w y low = slice_get-get_or (replicate n y) w y (let e = length-replicate n y in omega (arith, low, e))
    ∙ ap Some (get_or-replicate n w y y low)

pub begins : (t : Table) (producers : List RouteKind) → t.leads.items ≡ map lead_first producers
    → t.words.items ≡ replicate t.terms.words (word_first t.terms.is_fresh)
    → t.threshold ≡ standing_first t.terms.number_from → t.delivery ≡ standing_first t.terms.number_from → t.freed ≡ false
    → t.threshold_shut ≡ false → t.delivery_shut ≡ false
    → t.noticed ≡ t.terms.notices_go → Stands t producers []
begins t producers leads words threshold delivery freed threshold_shut delivery_shut noticed = record {
  count = ap (λ (l : List Lead). length l) leads ∙ length-map producers lead_first;
  leads = λ p. ap (λ l. slice_get l p) leads ∙ slice_get-map lead_first producers p;
  width = ap (λ (l : List Word). length l) words ∙ length-replicate t.terms.words (word_first t.terms.is_fresh);
  words = λ w low. ap (λ l. slice_get l w) words ∙ replicated t.terms.words w (word_first t.terms.is_fresh) low;
  threshold = threshold;
  delivery = delivery;
  freed = freed;
  threshold_shut = threshold_shut;
  delivery_shut = delivery_shut;
  noticed = noticed;
}
