-- A trace follows the machine, happening by happening.
use Rattle.std.proofs.Common.{◌≡◌, ℕ, Bool, true, false, not, ◌&&◌, ◌||◌, nat_eq, if◌then◌else◌, List, [], Option, Some, None, refl, sym, ap, ap₂, subst, ◌∙◌}
use Rattle.std.proofs.lemmas.Bool.{eq-eqb, eqb-true}
use Rattle.plans_rules.specs.declared.step.Number.{Number}
use Rattle.plans_rules.specs.declared.step.Number.TheVariants.{Threshold, Delivery}
use Rattle.plans_rules.specs.declared.step.AnyPlace.{AnyPlace}
use Rattle.plans_rules.specs.declared.step.AnyPlace.TheVariants.{Old, New}
use Rattle.plans_rules.specs.declared.step.AnyStep.{AnyStep}
use Rattle.plans_rules.specs.declared.step.AnyStep.TheVariants.{Route, Fence, Switch, Pause, Resume, Zero, Take, Copy, Join, Put, ZeroNumber, TakeNumber, CopyNumber, PutNumber, Free}
use Rattle.plans_rules.specs.Setting.{Setting, is_old, is_pending, same_number}
use Rattle.plans_rules.specs.Machine.{AnyFlight, AnyMachine, landed, all_landed, flights_of, flights_beside, led_to, with_paused, with_number, stepped}
use Rattle.plans_counterexamples.specs.declared.trace.Case.{Case}
use Rattle.plans_counterexamples.specs.declared.trace.Trace.{Trace}
use Rattle.plans_counterexamples.specs.Trace.{Follows, names_bit, flights_by, trace_landed, trace_fenced, trace_paused, trace_resumed, trace_after, worth}

-- ---- a store lands

itself : (b : Bool) (x : ℕ) → (b && nat_eq x x) ≡ b
itself b x = ap (λ e. b && e) (eq-eqb x x refl) ∙ and_true b
  where
    and_true : (b : Bool) → (b && true) ≡ b
    and_true true = refl
    and_true false = refl

pub follows_landed : (d : Setting) (c : Case) (place : AnyPlace) (t : Trace) (z : AnyMachine) → Follows c t z
    → Follows c (trace_landed c place t) (landed d place c.identity z)
follows_landed d c place t z v = record {
  old = ap₂ (λ b a. (b && is_old place) || a) (itself (is_pending c.bank) c.identity) v.old;
  new = ap₂ (λ b a. (b && not (is_old place)) || a) (itself (is_pending c.bank) c.identity) v.new;
  hand = v.hand;
  due = ap₂ (λ b a. (b && true) || a) (itself (is_pending c.bank) c.identity) v.due ∙ ap (λ b. b || t.due) (and_true (is_pending c.bank));
  old_number = v.old_number;
  new_number = v.new_number;
  hand_number = v.hand_number;
  written = v.written;
  in_force = v.in_force;
  paused = v.paused;
  flights = v.flights;
  freed = v.freed;
  strayed = ap₂ (λ a b. a || (is_old place && b)) v.strayed v.freed;
}
  where
    and_true : (b : Bool) → (b && true) ≡ b
    and_true true = refl
    and_true false = refl

-- ---- a fence

-- other flights and another route in force
with_others : (c : Case) (t : Trace) (z : AnyMachine) (fs : List AnyFlight) (f : Option AnyPlace) (F : ℕ → AnyPlace) (place : AnyPlace)
    → fs ≡ flights_by c f → F c.producer ≡ place → Follows c t z
    → Follows c (record t { flight = f; in_force = place }) (record z { flights = fs; in_force = F })
with_others c t z fs f F place e g v = record {
  old = v.old;
  new = v.new;
  hand = v.hand;
  due = v.due;
  old_number = v.old_number;
  new_number = v.new_number;
  hand_number = v.hand_number;
  written = v.written;
  in_force = g;
  paused = v.paused;
  flights = e;
  freed = v.freed;
  strayed = v.strayed;
}

fenced : (d : Setting) (c : Case) (t : Trace) (z : AnyMachine) (f : Option AnyPlace) (b : Bool) (F : ℕ → AnyPlace)
    → F c.producer ≡ (if b then t.written else t.in_force) → Follows c (record t { flight = f }) (record z { flights = flights_by c f })
    → Follows c (trace_fenced c b (record t { flight = f }))
    (record (all_landed d (if b then flights_by c f else []) z) { flights = if b then [] else flights_by c f; in_force = F })
fenced d c t z f false F g v = with_others c (record t { flight = f }) (record z { flights = flights_by c f }) (flights_by c f) f F
    t.in_force refl g v
fenced d c t z None true F g v = with_others c (record t { flight = None }) (record z { flights = [] }) [] None F t.written refl g v
fenced d c t z (Some place) true F g v =
    with_others c _ _ [] None F t.written refl g (follows_landed d c place (record t { flight = Some place })
    (record z { flights = flights_by c (Some place) }) v)

those_of : (c : Case) (p : ℕ) (f : Option AnyPlace) → flights_of p (flights_by c f) ≡ (if nat_eq p c.producer then flights_by c f else [])
those_of c p None = same (nat_eq p c.producer)
  where
    same : (b : Bool) → ◌≡◌ {A = List AnyFlight} [] (if b then [] else [])
    same true = refl
    same false = refl
those_of c p (Some place) = refl

those_beside : (c : Case) (p : ℕ) (f : Option AnyPlace) → flights_beside p (flights_by c f) ≡ (if nat_eq p c.producer then [] else flights_by c f)
those_beside c p None = same (nat_eq p c.producer)
  where
    same : (b : Bool) → ◌≡◌ {A = List AnyFlight} [] (if b then [] else [])
    same true = refl
    same false = refl
those_beside c p (Some place) = refl

led_here : (c : Case) (t : Trace) (z : AnyMachine) (p : ℕ) → Follows c t z
    → led_to p (z.written p) z.in_force c.producer ≡ (if nat_eq p c.producer then t.written else t.in_force)
led_here c t z p v = by_case (nat_eq p c.producer) refl
  where
    by_case : (b : Bool) → nat_eq p c.producer ≡ b → (if b then z.written p else z.in_force c.producer) ≡ (if b then t.written else t.in_force)
    by_case true e = ap z.written (eqb-true p c.producer e) ∙ v.written
    by_case false e = v.in_force

-- the same flights, as they are followed
with_flights : (c : Case) (t : Trace) (z : AnyMachine) → Follows c t z → Follows c t (record z { flights = flights_by c t.flight })
with_flights c t z v = record {
  old = v.old;
  new = v.new;
  hand = v.hand;
  due = v.due;
  old_number = v.old_number;
  new_number = v.new_number;
  hand_number = v.hand_number;
  written = v.written;
  in_force = v.in_force;
  paused = v.paused;
  flights = refl;
  freed = v.freed;
  strayed = v.strayed;
}

follows_fence : (d : Setting) (c : Case) (t : Trace) (z : AnyMachine) (p : ℕ) → Follows c t z
    → Follows c (trace_fenced c (nat_eq p c.producer) t) (stepped d (Fence p) z)
follows_fence d c t z p v =
    subst (λ fs. Follows c (trace_fenced c (nat_eq p c.producer) t)
    (record (all_landed d (flights_of p fs) z) { flights = flights_beside p fs; in_force = led_to p (z.written p) z.in_force })) (sym v.flights)
    (subst (λ fs. Follows c (trace_fenced c (nat_eq p c.producer) t)
    (record (all_landed d fs z) { flights = flights_beside p (flights_by c t.flight); in_force = led_to p (z.written p) z.in_force }))
    (sym (those_of c p t.flight))
    (subst (λ fs. Follows c (trace_fenced c (nat_eq p c.producer) t)
    (record (all_landed d (if nat_eq p c.producer then flights_by c t.flight else []) z)
    { flights = fs; in_force = led_to p (z.written p) z.in_force })) (sym (those_beside c p t.flight))
    (fenced d c t z t.flight (nat_eq p c.producer) (led_to p (z.written p) z.in_force) (led_here c t z p v) (with_flights c t z v))))

-- ---- a pause

-- no flight, and other producers that are paused
with_pause : (c : Case) (t : Trace) (z : AnyMachine) (Q : ℕ → Bool) (b : Bool) → Q c.producer ≡ b → Follows c t z
    → Follows c (record t { flight = None; paused = b }) (record z { flights = []; paused = Q })
with_pause c t z Q b g v = record {
  old = v.old;
  new = v.new;
  hand = v.hand;
  due = v.due;
  old_number = v.old_number;
  new_number = v.new_number;
  hand_number = v.hand_number;
  written = v.written;
  in_force = v.in_force;
  paused = g;
  flights = refl;
  freed = v.freed;
  strayed = v.strayed;
}

-- the same flights, and other producers that are paused
paused_by : (c : Case) (t : Trace) (z : AnyMachine) (fs : List AnyFlight) (Q : ℕ → Bool) (b : Bool) → fs ≡ flights_by c t.flight
    → Q c.producer ≡ b → Follows c t z → Follows c (record t { paused = b }) (record z { flights = fs; paused = Q })
paused_by c t z fs Q b e g v = record {
  old = v.old;
  new = v.new;
  hand = v.hand;
  due = v.due;
  old_number = v.old_number;
  new_number = v.new_number;
  hand_number = v.hand_number;
  written = v.written;
  in_force = v.in_force;
  paused = g;
  flights = e;
  freed = v.freed;
  strayed = v.strayed;
}

paused : (d : Setting) (c : Case) (t : Trace) (z : AnyMachine) (f : Option AnyPlace) (b : Bool) (Q : ℕ → Bool)
    → Q c.producer ≡ (if b then true else t.paused) → Follows c (record t { flight = f }) (record z { flights = flights_by c f })
    → Follows c (trace_paused c b (record t { flight = f }))
    (record (all_landed d (if b then flights_by c f else []) z) { flights = if b then [] else flights_by c f; paused = Q })
paused d c t z f false Q g v =
    paused_by c (record t { flight = f }) (record z { flights = flights_by c f }) (flights_by c f) Q t.paused refl g v
paused d c t z None true Q g v = with_pause c (record t { flight = None }) (record z { flights = [] }) Q true g v
paused d c t z (Some place) true Q g v =
    with_pause c _ _ Q true g (follows_landed d c place (record t { flight = Some place })
    (record z { flights = flights_by c (Some place) }) v)

paused_here : (c : Case) (t : Trace) (z : AnyMachine) (p : ℕ) (is : Bool) → Follows c t z
    → with_paused p is z.paused c.producer ≡ (if nat_eq p c.producer then is else t.paused)
paused_here c t z p is v = ap (λ b. if nat_eq p c.producer then is else b) v.paused

follows_pause : (d : Setting) (c : Case) (t : Trace) (z : AnyMachine) (p : ℕ) → Follows c t z
    → Follows c (trace_paused c (nat_eq p c.producer) t) (stepped d (Pause p) z)
follows_pause d c t z p v =
    subst (λ fs. Follows c (trace_paused c (nat_eq p c.producer) t)
    (record (all_landed d (flights_of p fs) z) { flights = flights_beside p fs; paused = with_paused p true z.paused })) (sym v.flights)
    (subst (λ fs. Follows c (trace_paused c (nat_eq p c.producer) t)
    (record (all_landed d fs z) { flights = flights_beside p (flights_by c t.flight); paused = with_paused p true z.paused }))
    (sym (those_of c p t.flight))
    (subst (λ fs. Follows c (trace_paused c (nat_eq p c.producer) t)
    (record (all_landed d (if nat_eq p c.producer then flights_by c t.flight else []) z)
    { flights = fs; paused = with_paused p true z.paused })) (sym (those_beside c p t.flight))
    (paused d c t z t.flight (nat_eq p c.producer) (with_paused p true z.paused) (paused_here c t z p true v) (with_flights c t z v))))

resume_case : (c : Case) (t : Trace) (z : AnyMachine) (b : Bool) (Q : ℕ → Bool) → Q c.producer ≡ (if b then false else t.paused)
    → Follows c t z → Follows c (trace_resumed b t) (record z { paused = Q })
resume_case c t z true Q e v = paused_by c t z z.flights Q false v.flights e v
resume_case c t z false Q e v = paused_by c t z z.flights Q t.paused v.flights e v

-- ---- the numbers

numbered : (n m : Number) (numbers : Number → ℕ) (old value : Bool) → numbers m ≡ worth value
    → with_number n 0 numbers m ≡ worth (not (same_number n m) && value)
numbered Threshold Threshold numbers old value e = refl
numbered Threshold Delivery numbers old value e = e
numbered Delivery Threshold numbers old value e = e
numbered Delivery Delivery numbers old value e = refl

carried : (n m : Number) (from to : Number → ℕ) (a b : Bool) → from m ≡ worth a → to m ≡ worth b
    → with_number n (from n) to m ≡ worth ((same_number n m && a) || (not (same_number n m) && b))
carried Threshold Threshold from to a b e f = e ∙ ap worth (sym (or_false a))
  where
    or_false : (a : Bool) → (a || false) ≡ a
    or_false true = refl
    or_false false = refl
carried Delivery Delivery from to a b e f = e ∙ ap worth (sym (or_false a))
  where
    or_false : (a : Bool) → (a || false) ≡ a
    or_false true = refl
    or_false false = refl
carried Threshold Delivery from to a b e f = f
carried Delivery Threshold from to a b e f = f

-- ---- a step

route_case : (c : Case) (t : Trace) (z : AnyMachine) (b : Bool) (W : ℕ → AnyPlace) → W c.producer ≡ (if b then New else z.written c.producer)
    → Follows c t z → Follows c (elim b [ true ↦ record t { written = New } | false ↦ t ]) (record z { written = W })
route_case c t z true W e v = record {
  old = v.old;
  new = v.new;
  hand = v.hand;
  due = v.due;
  old_number = v.old_number;
  new_number = v.new_number;
  hand_number = v.hand_number;
  written = e;
  in_force = v.in_force;
  paused = v.paused;
  flights = v.flights;
  freed = v.freed;
  strayed = v.strayed;
}
route_case c t z false W e v = record {
  old = v.old;
  new = v.new;
  hand = v.hand;
  due = v.due;
  old_number = v.old_number;
  new_number =
      v.new_number;
  hand_number = v.hand_number;
  written = e
      ∙ v.written;
  in_force = v.in_force;
  paused = v.paused;
  flights = v.flights;
  freed = v.freed;
  strayed = v.strayed;
}

switch_case : (c : Case) (t : Trace) (z : AnyMachine) (b : Bool) (W F : ℕ → AnyPlace) → W c.producer ≡ (if b then New else z.written c.producer)
    → F c.producer ≡ (if b then New else z.in_force c.producer) → Follows c t z
    → Follows c (elim b [ true ↦ record t { written = New; in_force = New } | false ↦ t ]) (record z { written = W; in_force = F })
switch_case c t z true W F e f v = record {
  old = v.old;
  new = v.new;
  hand = v.hand;
  due = v.due;
  old_number = v.old_number;
  new_number =
      v.new_number;
  hand_number = v.hand_number;
  written = e;
  in_force = f;
  paused = v.paused;
  flights = v.flights;
  freed = v.freed;
  strayed = v.strayed;
}
switch_case c t z false W F e f v = record {
  old = v.old;
  new = v.new;
  hand = v.hand;
  due = v.due;
  old_number = v.old_number;
  new_number =
      v.new_number;
  hand_number = v.hand_number;
  written = e ∙ v.written;
  in_force = f
      ∙ v.in_force;
  paused = v.paused;
  flights = v.flights;
  freed = v.freed;
  strayed = v.strayed;
}

pub follows_step : (d : Setting) (c : Case) (x : AnyStep) (t : Trace) (z : AnyMachine) → Follows c t z → Follows c (trace_after c x t) (stepped d x z)
follows_step d c (Route q) t z v = route_case c t z (nat_eq q c.producer) _ refl v
follows_step d c (Switch q) t z v = switch_case c t z (nat_eq q c.producer) _ _ refl refl v
follows_step d c (Fence q) t z v = follows_fence d c t z q v
follows_step d c (Pause q) t z v = follows_pause d c t z q v
follows_step d c (Resume q) t z v = resume_case c t z (nat_eq q c.producer) _ (paused_here c t z q false v) v
follows_step d c (Zero Old s w) t z v = record {
  old = ap (λ b. not (names_bit c s w) && b) v.old;
  new = v.new;
  hand = v.hand;
  due = v.due;
  old_number = v.old_number;
  new_number =
      v.new_number;
  hand_number = v.hand_number;
  written = v.written;
  in_force = v.in_force;
  paused = v.paused;
  flights = v.flights;
  freed = v.freed;
  strayed =
      ap₂ (λ a b. a || b) v.strayed v.freed;
}
follows_step d c (Zero New s w) t z v = record {
  old = v.old;
  new = ap (λ b. not (names_bit c s w) && b) v.new;
  hand = v.hand;
  due = v.due;
  old_number = v.old_number;
  new_number =
      v.new_number;
  hand_number = v.hand_number;
  written = v.written;
  in_force = v.in_force;
  paused = v.paused;
  flights = v.flights;
  freed = v.freed;
  strayed = v.strayed;
}
follows_step d c (Take s w) t z v = record {
  old = ap (λ b. not (names_bit c s w) && b) v.old;
  new = v.new;
  hand =
      ap₂ (λ a b. (names_bit c s w && a) || (not (names_bit c s w) && b)) v.old v.hand;
  due = v.due;
  old_number = v.old_number;
  new_number =
      v.new_number;
  hand_number = v.hand_number;
  written = v.written;
  in_force = v.in_force;
  paused = v.paused;
  flights = v.flights;
  freed = v.freed;
  strayed =
      ap₂ (λ a b. a || b) v.strayed v.freed;
}
follows_step d c (Copy s w) t z v = record {
  old = v.old;
  new = v.new;
  hand =
      ap₂ (λ a b. (names_bit c s w && a) || (not (names_bit c s w) && b)) v.old v.hand;
  due = v.due;
  old_number = v.old_number;
  new_number =
      v.new_number;
  hand_number = v.hand_number;
  written = v.written;
  in_force = v.in_force;
  paused = v.paused;
  flights = v.flights;
  freed = v.freed;
  strayed =
      ap₂ (λ a b. a || b) v.strayed v.freed;
}
follows_step d c (Join s w) t z v = record {
  old = v.old;
  new = ap₂ (λ a b. (names_bit c s w && a) || b) v.hand v.new;
  hand =
      ap (λ b. not (names_bit c s w) && b) v.hand;
  due = v.due;
  old_number = v.old_number;
  new_number = v.new_number;
  hand_number = v.hand_number;
  written = v.written;
  in_force = v.in_force;
  paused = v.paused;
  flights = v.flights;
  freed = v.freed;
  strayed = v.strayed;
}
follows_step d c (Put s w) t z v = record {
  old = v.old;
  new = ap₂ (λ a b. (names_bit c s w && a) || (not (names_bit c s w) && b)) v.hand v.new;
  hand = ap (λ b. not (names_bit c s w) && b) v.hand;
  due = v.due;
  old_number = v.old_number;
  new_number = v.new_number;
  hand_number =
      v.hand_number;
  written = v.written;
  in_force = v.in_force;
  paused = v.paused;
  flights = v.flights;
  freed = v.freed;
  strayed = v.strayed;
}
follows_step d c (ZeroNumber Old n) t z v = record {
  old = v.old;
  new = v.new;
  hand = v.hand;
  due = v.due;
  old_number = numbered n c.number z.old_number false t.old_number v.old_number;
  new_number = v.new_number;
  hand_number = v.hand_number;
  written = v.written;
  in_force = v.in_force;
  paused = v.paused;
  flights = v.flights;
  freed = v.freed;
  strayed = ap₂ (λ a b. a || b) v.strayed v.freed;
}
follows_step d c (ZeroNumber New n) t z v = record {
  old = v.old;
  new = v.new;
  hand = v.hand;
  due = v.due;
  old_number = v.old_number;
  new_number =
      numbered n c.number z.new_number false t.new_number v.new_number;
  hand_number = v.hand_number;
  written = v.written;
  in_force = v.in_force;
  paused = v.paused;
  flights = v.flights;
  freed = v.freed;
  strayed = v.strayed;
}
follows_step d c (TakeNumber n) t z v = record {
  old = v.old;
  new = v.new;
  hand = v.hand;
  due = v.due;
  old_number = numbered n c.number z.old_number false t.old_number v.old_number;
  new_number = v.new_number;
  hand_number = carried n c.number z.old_number z.hand_number t.old_number t.hand_number v.old_number v.hand_number;
  written = v.written;
  in_force = v.in_force;
  paused = v.paused;
  flights = v.flights;
  freed = v.freed;
  strayed = ap₂ (λ a b. a || b) v.strayed v.freed;
}
follows_step d c (CopyNumber n) t z v = record {
  old = v.old;
  new = v.new;
  hand = v.hand;
  due = v.due;
  old_number = v.old_number;
  new_number = v.new_number;
  hand_number = carried n c.number z.old_number z.hand_number t.old_number t.hand_number v.old_number v.hand_number;
  written = v.written;
  in_force = v.in_force;
  paused = v.paused;
  flights = v.flights;
  freed = v.freed;
  strayed = ap₂ (λ a b. a || b) v.strayed v.freed;
}
follows_step d c (PutNumber n) t z v = record {
  old = v.old;
  new = v.new;
  hand = v.hand;
  due = v.due;
  old_number = v.old_number;
  new_number =
      carried n c.number z.hand_number z.new_number t.hand_number t.new_number v.hand_number v.new_number;
  hand_number = v.hand_number;
  written =
      v.written;
  in_force = v.in_force;
  paused = v.paused;
  flights = v.flights;
  freed = v.freed;
  strayed = v.strayed;
}
follows_step d c Free t z v = record {
  old = v.old;
  new = v.new;
  hand = v.hand;
  due = v.due;
  old_number = v.old_number;
  new_number = v.new_number;
  hand_number = v.hand_number;
  written = v.written;
  in_force = v.in_force;
  paused = v.paused;
  flights = v.flights;
  freed = refl;
  strayed = ap₂ (λ a b. a || b) v.strayed v.freed;
}
follows_step d c x t z v = record {
  old = v.old;
  new = v.new;
  hand = v.hand;
  due = v.due;
  old_number = v.old_number;
  new_number = v.new_number;
  hand_number = v.hand_number;
  written = v.written;
  in_force = v.in_force;
  paused = v.paused;
  flights = v.flights;
  freed = v.freed;
  strayed = v.strayed;
}
