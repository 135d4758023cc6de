-- The passes stand after every history: act by act what a pass is known by, and where it is aimed.
use Rattle.std.proofs.Common.{◌≡◌, ◌≢◌, ℕ, ◌+◌, ◌<◌, ◌≤◌, Bool, true, false, nat_eq, nat_lt, is_some, if◌then◌else◌, List, [], ◌∷◌, ◌++◌, length, take, slice_index_or, Option, Some, None, inl, inr, refl, sym, ap, subst, ◌∙◌, arith}
use Rattle.std.specs.Int.{is_in_range}
use Rattle.std.specs.Option.{option_map, option_map_or}
use Rattle.std.proofs.lemmas.Bool.{cases_Bool, cases_lt, cond-true, cond-false, eq-eqb, eqb-true, lt-ltb, ltb-true, false≢true, and_parts}
use Rattle.std.proofs.lemmas.Bool.Decides.{nat_tests}
use Rattle.std.proofs.lemmas.List.{get_or_append_left}
use Rattle.std.proofs.Math.Seq.{get_or-append_seam, take-append_seam}
use Rattle.std.proofs.lemmas.List.{take-append-le}
use Rattle.aia_regs.specs.declared.limits.TheConstants.{PASSES}
use Rattle.aia_word.specs.Sets.{least_of}
use Rattle.aia_word.proofs.LeastLemmas.{least_of-found, least_of_is, least_of_is_none}
use Rattle.aia_vcpu.specs.Vms.{Vcpu, vcpu_of, is_vcpu, notice_hart}
use Rattle.aia_vcpu.specs.Home.{Home, is_moving}
use Rattle.aia_vcpu.specs.Home.Home.{OnWay}
use Rattle.aia_vcpu.specs.BySteps.{new_file, is_drained}
use Rattle.aia_vcpu.proofs.PassLemmas.{pass_drained}
use Rattle.aia_vcpu.specs.Aims.{is_aiming, aims_done, aimed, further, pass_reaches, target_to}
use Rattle.aia_model.specs.declared.line.Line.{Line}
use Rattle.aia_model.specs.declared.line.Line.TheVariants.{Machine, Wire, Load, Store}
use Rattle.aia_model.specs.declared.line.Line.TheVariants as lines
use Rattle.aia_model.specs.declared.domain_name.DomainName.{DomainName}
use Rattle.aia_model.specs.declared.domain_name.DomainName.TheVariants.{Child}
use Rattle.aia_model.specs.Move.WantedMove.{Arrives, Leaves, Shifts}
use Rattle.aia_model.specs.Event.{Event, History, MachineSize, has_machine, machine_of, greatest_identity_of, file_words}
use Rattle.aia_model.specs.Event.Event.{Accepted, Began, Stepped, Delivered, Landed, Relayed}
use Rattle.aia_model.specs.Vms.{vms_of, has_vcpu}
use Rattle.aia_model.specs.Act.{Act, Past, act_of, domain_at, register_at}
use Rattle.aia_model.specs.Act.Act.{Driven, Written, Loaded, Aimed}
use Rattle.aia_model.specs.SourceOf.{target}
use Rattle.aia_model.specs.Sent.{with_act, with_all_sent, senders, acts_of}
use Rattle.aia_model.specs.Passes.{PassedSource, no_pass, passes_of, nth_pass, pass_of, is_passed, passes_to, passes_for, own_pass, rank_of}
use Rattle.aia_model.specs.Passable.{is_passable, redirects, KeepsItsWay}
use Rattle.aia_model.specs.HomeOf.{home, rest_after, rested, free_file}
use Rattle.aia_model.specs.Aim.{pass_reach, target_for, aim_of, aimed_by, PassAtRest, AllAreAimed}
use Rattle.aia_model.specs.Refusal.{refusal}
use Rattle.aia_model.specs.Histories.{MayHappen, IsHistory}
use Rattle.aia_model.specs.PassesStand.{PassStands, AllPassesStand}
use Rattle.aia_model.proofs.RefusalLemmas.{machine_allowed, pass_allowed, store_allowed, PassAllowed}
use Rattle.aia_vcpu.proofs.VmLemmas.{same_vcpu}
use Rattle.aia_model.proofs.MoveLemmas.{is_itself}
use Rattle.aia_model.proofs.FlightLemmas.{stays_there}
use Rattle.aia_model.proofs.PassLemmas.{none_passed, aimed_on, rank_below}
use Rattle.aia_model.proofs.ReachLemmas.{rest_keeps}
use Rattle.aia_model.proofs.PassReachLemmas.{leaving_passes, arrives_passes, shifts_passes, further_passes, aimed_other}
use Rattle.aia_model.proofs.OwnPassLemmas.{own_is, rank_is}
use Rattle.aia_model.proofs.TargetLemmas.{passed_stays, aim_gives, sent_stays, store_leaves, another}

-- ---- nothing is passed to a virtual hart that is moved, so all are aimed in their turn

passes_rest : (past : History) (event : Event) → MayHappen past event → PassAtRest past event
passes_rest past (Accepted (lines.Pass source vm vcpu identity)) may = (pass_allowed past source vm vcpu identity may).rests
passes_rest past (Accepted line) may = tt
passes_rest past (Began move) may = tt
passes_rest past (Stepped x) may = tt
passes_rest past (Delivered msi) may = tt
passes_rest past (Landed vm k) may = tt
passes_rest past (Relayed p) may = tt

pub all_aimed_in : (h : History) → IsHistory h → AllAreAimed h
all_aimed_in [] good = none_passed
all_aimed_in (event ∷ past) good = aimed_on past event (passes_rest past event good.0) (all_aimed_in past good.1)

-- ---- a pass stands: what it is known by, and where it is aimed

record IsKnown (h : History) (p : ℕ) : Type 0 where
  there : has_vcpu h (nth_pass h p).to ≡ true
  identity : is_in_range 1 (greatest_identity_of h) (nth_pass h p).identity ≡ true
  known : pass_of h (nth_pass h p).source ≡ Some p

-- its source is aimed, after some acts, as it leads
pub record IsAimedIn (h : History) (p : ℕ) (past : Past) : Type 0 where
  pub passable : is_passable past (nth_pass h p).source ≡ true
  pub target : target past Child (nth_pass h p).source ≡ target_for h p (nth_pass h p).to (nth_pass h p).identity (pass_reach h p)

known_of : (h : History) (p : ℕ) → PassStands h p → IsKnown h p
known_of h p s = record { there = s.there; identity = s.identity; known = s.known }

aimed_of : (h : History) (p : ℕ) → PassStands h p → IsAimedIn h p (acts_of h)
aimed_of h p s = record { passable = s.passable; target = s.target }

stands_by : (h : History) (p : ℕ) → IsKnown h p → IsAimedIn h p (acts_of h) → PassStands h p
stands_by h p k a = record { there = k.there; identity = k.identity; known = k.known; passable = a.passable; target = a.target }

-- what is sent leaves it
aimed_sent : (h : History) (p : ℕ) (past : Past) → IsAimedIn h p past → IsAimedIn h p (with_all_sent past)
aimed_sent h p past a = let stays = sent_stays (senders past) past (nth_pass h p).source a.passable in
    record { passable = stays.0; target = stays.1 ∙ a.target }

-- an act that leaves its source leaves it
aimed_left : (h : History) (p : ℕ) (past : Past) (a : Act) → KeepsItsWay (nth_pass h p).source past a → IsAimedIn h p past → IsAimedIn h p (a ∷ past)
aimed_left h p past a leaves aim = let stays = passed_stays past a (nth_pass h p).source aim.passable leaves in
    record { passable = stays.0; target = stays.1 ∙ aim.target }

-- ---- one pass more

one_longer : (xs : List PassedSource) (x : PassedSource) → length (xs ++ x ∷ []) ≡ length xs + 1
one_longer [] x = omega arith
one_longer (y ∷ ys) x = let rest = one_longer ys x in omega (arith, rest)

old_pass : (xs : List PassedSource) (x : PassedSource) (p : ℕ) → p < length xs → slice_index_or (xs ++ x ∷ []) p no_pass ≡ slice_index_or xs p no_pass
old_pass xs x p low = get_or_append_left xs (x ∷ []) no_pass p low

new_pass : (xs : List PassedSource) (x : PassedSource) → slice_index_or (xs ++ x ∷ []) (length xs) no_pass ≡ x
new_pass xs x = get_or-append_seam xs x [] no_pass

-- the number of the pass of a source, in a list
abbrev number_in : List PassedSource → ℕ → Option ℕ
number_in xs s = least_of (λ q. nat_eq (slice_index_or xs q no_pass).source s) 0 (length xs)

number_stays : (xs : List PassedSource) (x : PassedSource) (p : ℕ) → p < length xs → number_in xs (slice_index_or xs p no_pass).source ≡ Some p
    → number_in (xs ++ x ∷ []) (slice_index_or xs p no_pass).source ≡ Some p
number_stays xs x p low is =
    let least = least_of_is _ 0 (length xs) p is in
    let longer = one_longer xs x in
    least_of-found _ 0 (length (xs ++ x ∷ [])) p (omega arith) (omega (arith, low, longer))
    (ap (λ (y : PassedSource). nat_eq y.source (slice_index_or xs p no_pass).source) (old_pass xs x p low) ∙ eq-eqb _ _ refl)
    (λ j a b. ap (λ (y : PassedSource). nat_eq y.source (slice_index_or xs p no_pass).source) (old_pass xs x j (omega (arith, low, b)))
    ∙ least.3 j a b)

number_new : (xs : List PassedSource) (x : PassedSource) → number_in xs x.source ≡ None → number_in (xs ++ x ∷ []) x.source ≡ Some (length xs)
number_new xs x none =
    let longer = one_longer xs x in
    least_of-found _ 0 (length (xs ++ x ∷ [])) (length xs) (omega arith) (omega (arith, longer))
    (ap (λ (y : PassedSource). nat_eq y.source x.source) (new_pass xs x) ∙ eq-eqb _ _ refl)
    (λ j a b. ap (λ (y : PassedSource). nat_eq y.source x.source) (old_pass xs x j b) ∙ least_of_is_none _ 0 (length xs) none j a (omega (arith, b)))

fresh_number : (h : History) (s : ℕ) → is_passed h s ≡ false → pass_of h s ≡ None
fresh_number h s fresh = by_pass (pass_of h s) fresh
  where
    by_pass : (o : Option ℕ) → is_some o ≡ false → o ≡ None
    by_pass None e = refl
    by_pass (Some p) e = absurd (cc)

passed_already : (h : History) (p : ℕ) → pass_of h (nth_pass h p).source ≡ Some p → is_passed h (nth_pass h p).source ≡ true
passed_already h p known = ap (λ (o : Option ℕ). is_some o) known

-- ---- what it is known by

none_without : (h : History) (p : ℕ) → has_machine h ≡ false → PassStands h p → ⊥
none_without h p none s = by_machine (machine_of h) none (nth_pass h p).identity s.identity
  where
    none_there : (i : ℕ) → is_in_range 1 0 i ≡ true → ⊥
    none_there i e = let no : true ≡ false = grind (arith, nat_tests) in false≢true (sym no)

    by_machine : (o : Option MachineSize) → is_some o ≡ false → (i : ℕ) → is_in_range 1 (option_map_or (λ (m : MachineSize). m.n) o 0) i ≡ true → ⊥
    by_machine None e i there = none_there i there
    by_machine (Some m) e i there = absurd (cc)

more_known : (h : History) (source vm vcpu identity p : ℕ) → PassAllowed h source vm vcpu identity → AllPassesStand h
    → p < length (passes_of h ++ record { source = source; to = vcpu_of vm vcpu; identity = identity } ∷ [])
    → IsKnown (Accepted (lines.Pass source vm vcpu identity) ∷ h) p
unfolding passes_of
more_known h source vm vcpu identity p may all low = elim (cases_lt p (length (passes_of h))) [
  | inl old ↦
      let s = all.pass p old in
      let e = old_pass (passes_of h) x p old in
      record {
        there = subst (λ (y : PassedSource). has_vcpu h y.to ≡ true) (sym e) s.there;
        identity = subst (λ (y : PassedSource). is_in_range 1 (greatest_identity_of h) y.identity ≡ true) (sym e) s.identity;
        known = subst (λ (y : PassedSource). number_in (passes_of h ++ x ∷ []) y.source ≡ Some p) (sym e)
            (number_stays (passes_of h) x p old s.known);
      }
  | inr new ↦
      let last : length (passes_of h) ≡ p = let longer = one_longer (passes_of h) x in omega (arith, low, new, longer) in
      subst (IsKnown (Accepted (lines.Pass source vm vcpu identity) ∷ h)) last (record {
        there = subst (λ (y : PassedSource). has_vcpu h y.to ≡ true) (sym (new_pass (passes_of h) x)) may.there;
        identity = subst (λ (y : PassedSource). is_in_range 1 (greatest_identity_of h) y.identity ≡ true) (sym (new_pass (passes_of h) x))
            may.identity_there;
        known = subst (λ (y : PassedSource). number_in (passes_of h ++ x ∷ []) y.source ≡ Some (length (passes_of h)))
            (sym (new_pass (passes_of h) x)) (number_new (passes_of h) x (fresh_number h source may.fresh));
      })
]
  where
    x : PassedSource
    x = record { source = source; to = vcpu_of vm vcpu; identity = identity }

known_on : (event : Event) (h : History) (p : ℕ) → MayHappen h event → AllPassesStand h → p < length (passes_of (event ∷ h)) → IsKnown (event ∷ h) p
unfolding passes_of
known_on (Accepted (lines.Pass source vm vcpu identity)) h p may all low =
    more_known h source vm vcpu identity p (pass_allowed h source vm vcpu identity may) all low
known_on (Accepted (Machine harts guests n sources)) h p may all low =
    absurd (none_without h p (machine_allowed h harts guests n sources may).0 (all.pass p low))
known_on (Accepted (lines.Vm vcpus mask hart)) h p may all low = let s = all.pass p low in
    record { there = (stays_there (Accepted (lines.Vm vcpus mask hart)) h (nth_pass h p).to s.there).0; identity = s.identity; known = s.known }
known_on (Accepted line) h p may all low = let s = all.pass p low in record { there = s.there; identity = s.identity; known = s.known }
known_on (Began move) h p may all low = let s = all.pass p low in record { there = s.there; identity = s.identity; known = s.known }
known_on (Stepped x) h p may all low = let s = all.pass p low in record { there = s.there; identity = s.identity; known = s.known }
known_on (Delivered msi) h p may all low = let s = all.pass p low in record { there = s.there; identity = s.identity; known = s.known }
known_on (Landed vm k) h p may all low = let s = all.pass p low in record { there = s.there; identity = s.identity; known = s.known }
known_on (Relayed q) h p may all low = let s = all.pass p low in record { there = s.there; identity = s.identity; known = s.known }

-- ---- where it is aimed: by lines

-- what has happened to the APLIC when a line sends
abbrev pub acts_by : History → Line → Past
acts_by h line = with_act (act_of line) (with_act (aimed_by h (Accepted line)) (acts_of h))

-- a pass aims its own source, and leaves the others
more_aimed : (h : History) (source vm vcpu identity p : ℕ) → PassAllowed h source vm vcpu identity → AllPassesStand h
    → p < length (passes_of h ++ record { source = source; to = vcpu_of vm vcpu; identity = identity } ∷ [])
    → IsAimedIn (Accepted (lines.Pass source vm vcpu identity) ∷ h) p (acts_by h (lines.Pass source vm vcpu identity))
unfolding passes_of home
more_aimed h source vm vcpu identity p may all low = elim (cases_lt p (length (passes_of h))) [
  | inl old ↦
      let s = all.pass p old in
      let e = old_pass (passes_of h) x p old in
      let t : take p (passes_of h ++ x ∷ []) ≡ take p (passes_of h) = take-append-le p (passes_of h) (x ∷ []) (omega (arith, old)) in
      let stays = passed_stays (acts_of h) (Aimed source aim) (nth_pass h p).source s.passable
      (another h source (nth_pass h p).source (passed_already h p s.known) may.fresh) in
      record {
        passable = subst (λ (y : PassedSource). is_passable (Aimed source aim ∷ acts_of h) y.source ≡ true) (sym e) stays.0;
        target = subst (λ (y : PassedSource). IsTarget p y (take p (passes_of h ++ x ∷ []))) (sym e)
            (subst (IsTarget p (nth_pass h p)) (sym t) (stays.1 ∙ s.target));
      }
  | inr new ↦
      let last : length (passes_of h) ≡ p = let longer = one_longer (passes_of h) x in omega (arith, low, new, longer) in
      let e = new_pass (passes_of h) x in
      let t : take (length (passes_of h)) (passes_of h ++ x ∷ []) ≡ passes_of h = take-append_seam (passes_of h) (x ∷ []) in
      let own = aim_gives (acts_of h) source aim may.ready in
      subst (λ p. IsAimedIn (Accepted (lines.Pass source vm vcpu identity) ∷ h) p (acts_by h (lines.Pass source vm vcpu identity))) last (record {
        passable = subst (λ (y : PassedSource). is_passable (Aimed source aim ∷ acts_of h) y.source ≡ true) (sym e) own.0;
        target = subst (λ (y : PassedSource). IsTarget (length (passes_of h)) y (take (length (passes_of h)) (passes_of h ++ x ∷ []))) (sym e)
            (subst (IsTarget (length (passes_of h)) x) (sym t) own.1);
      })
]
  where
    x : PassedSource
    x = record { source = source; to = vcpu_of vm vcpu; identity = identity }

    aim : ℕ
    aim = target_for h (length (passes_of h)) (vcpu_of vm vcpu) identity (pass_reaches (passes_for h (vcpu_of vm vcpu)) (home h (vcpu_of vm vcpu)))

    IsTarget : ℕ → PassedSource → List PassedSource → Type 0
    IsTarget p y xs = target (Aimed source aim ∷ acts_of h) Child y.source ≡ target_to (notice_hart (vms_of h) y.to) p y.identity
        (pass_reaches (passes_to y.to xs) (home h y.to))

loaded_aimed : (h : History) (p : ℕ) (d : Option DomainName) (addr : ℕ) → IsAimedIn h p (acts_of h)
    → IsAimedIn h p (with_act (option_map (λ d. Loaded d (register_at addr)) d) (acts_of h))
loaded_aimed h p None addr a = a
loaded_aimed h p (Some d) addr a = aimed_left h p (acts_of h) (Loaded d (register_at addr)) tt a

stored_aimed : (h : History) (p addr value : ℕ) (d : Option DomainName) → domain_at addr ≡ d → redirects h addr value ≡ false
    → is_passed h (nth_pass h p).source ≡ true → IsAimedIn h p (acts_of h)
    → IsAimedIn h p (with_act (option_map (λ d. Written d (register_at addr) value) d) (acts_of h))
stored_aimed h p addr value None at free passed a = a
stored_aimed h p addr value (Some d) at free passed a =
    aimed_left h p (acts_of h) (Written d (register_at addr) value) (store_leaves h addr value (nth_pass h p).source d passed free at) a

-- the history of an accepted line has the same passes, at the same places
same_aimed : (h : History) (line : Line) (p : ℕ) (past : Past) → passes_of (Accepted line ∷ h) ≡ passes_of h
    → notice_hart (vms_of (Accepted line ∷ h)) (nth_pass h p).to ≡ notice_hart (vms_of h) (nth_pass h p).to
    → ((g : Vcpu) → home (Accepted line ∷ h) g ≡ home h g) → IsAimedIn h p past → IsAimedIn (Accepted line ∷ h) p past
same_aimed h line p past same notice homes a = record {
  passable = subst (λ xs. is_passable past (slice_index_or xs p no_pass).source ≡ true) (sym same) a.passable;
  target = subst (λ xs. IsTarget xs (notice_hart (vms_of (Accepted line ∷ h)) (slice_index_or xs p no_pass).to)) (sym same)
      (subst (IsTarget (passes_of h)) (sym notice) at);
}
  where
    at : target past Child (nth_pass h p).source ≡ target_for h p (nth_pass h p).to (nth_pass h p).identity
        (pass_reaches (rank_of h p) (home (Accepted line ∷ h) (nth_pass h p).to))
    at = a.target ∙ ap (λ there. target_for h p (nth_pass h p).to (nth_pass h p).identity (pass_reaches (rank_of h p) there))
        (sym (homes (nth_pass h p).to))

    IsTarget : List PassedSource → ℕ → Type 0
    IsTarget xs hart = target past Child (slice_index_or xs p no_pass).source ≡ target_to hart p (slice_index_or xs p no_pass).identity
        (pass_reaches (passes_to (slice_index_or xs p no_pass).to (take p xs)) (home (Accepted line ∷ h) (slice_index_or xs p no_pass).to))

-- however one rests in memory, its passes lead there
rested_passes : (h : History) (line : Line) (p : ℕ)
    → pass_reaches (rank_of h p) (rested (rest_after line) (nth_pass h p).to (home h (nth_pass h p).to)) ≡ pass_reach h p
rested_passes h line p = rest_keeps (λ there. pass_reaches (rank_of h p) there ≡ pass_reach h p) (λ from to e. e) (rest_after line)
    (nth_pass h p).to (home h (nth_pass h p).to) refl

pub line_aimed : (h : History) (line : Line) (p : ℕ) → refusal h line ≡ None → AllPassesStand h → p < length (passes_of (Accepted line ∷ h))
    → IsAimedIn (Accepted line ∷ h) p (acts_by h line)
unfolding passes_of home
line_aimed h (lines.Pass source vm vcpu identity) p may all low =
    more_aimed h source vm vcpu identity p (pass_allowed h source vm vcpu identity may) all low
line_aimed h (Machine harts guests n sources) p may all low =
    absurd (none_without h p (machine_allowed h harts guests n sources may).0 (all.pass p low))
line_aimed h (lines.Vm vcpus mask hart) p may all low = let s = all.pass p low in
    same_aimed h (lines.Vm vcpus mask hart) p (acts_of h) refl (stays_there (Accepted (lines.Vm vcpus mask hart)) h (nth_pass h p).to s.there).2
    (λ g. refl) (aimed_of h p s)
line_aimed h (Wire source level) p may all low =
    same_aimed h (Wire source level) p _ refl refl (λ g. refl) (aimed_left h p (acts_of h) (Driven source level) tt (aimed_of h p (all.pass p low)))
line_aimed h (Load addr) p may all low = same_aimed h (Load addr) p _ refl refl (λ g. refl)
    (loaded_aimed h p (domain_at addr) addr (aimed_of h p (all.pass p low)))
line_aimed h (Store addr value) p may all low = let s = all.pass p low in
    same_aimed h (Store addr value) p _ refl refl (λ g. refl)
    (stored_aimed h p addr value (domain_at addr) refl (store_allowed h addr value may) (passed_already h p s.known) (aimed_of h p s))
line_aimed h line p may all low = let a = aimed_of h p (all.pass p low) in
    record { passable = a.passable; target = a.target ∙ ap (target_for h p (nth_pass h p).to (nth_pass h p).identity) (sym (rested_passes h line p)) }

-- ---- where it is aimed: by moves

began_reach : (h : History) (x : Vcpu) (hart p : ℕ) → (pass_reach (Began (Leaves x) ∷ h) p ≡ pass_reach h p)
    × (pass_reach (Began (Arrives x hart) ∷ h) p ≡ pass_reach h p) × (pass_reach (Began (Shifts x hart) ∷ h) p ≡ pass_reach h p)
unfolding passes_of home
began_reach h x hart p = elim (cases_Bool (is_vcpu (nth_pass h p).to x)) [
  | inl own ↦ (
    ap (pass_reaches (rank_of h p)) (cond-true _ _ _ own) ∙ leaving_passes (rank_of h p) (home h (nth_pass h p).to),
    ap (pass_reaches (rank_of h p)) (cond-true _ _ _ own) ∙ arrives_passes (rank_of h p) hart (free_file h (home h) hart) (home h (nth_pass h p).to),
    ap (pass_reaches (rank_of h p)) (cond-true _ _ _ own) ∙ shifts_passes (rank_of h p) hart (free_file h (home h) hart) (home h (nth_pass h p).to),
  )
  | inr other ↦ (
    ap (pass_reaches (rank_of h p)) (cond-false _ _ _ other),
    ap (pass_reaches (rank_of h p)) (cond-false _ _ _ other),
    ap (pass_reaches (rank_of h p)) (cond-false _ _ _ other),
  )
]

-- where a pass leads after a step: what the step makes of the home of its virtual hart
own_reach : (h : History) (p : ℕ) → pass_reach (Stepped (nth_pass h p).to ∷ h) p ≡ pass_reaches (rank_of h p)
    (further (passes_for h (nth_pass h p).to) (file_words h) (home h (nth_pass h p).to))
unfolding passes_of home
own_reach h p = ap (pass_reaches (rank_of h p)) (cond-true _ _ _ (is_itself (nth_pass h p).to))

other_reach : (h : History) (x : Vcpu) (p : ℕ) → is_vcpu (nth_pass h p).to x ≡ false → pass_reach (Stepped x ∷ h) p ≡ pass_reach h p
unfolding passes_of home
other_reach h x p other = ap (pass_reaches (rank_of h p)) (cond-false _ _ _ other)

-- two passes are of two sources
apart : (h : History) (p q : ℕ) → pass_of h (nth_pass h p).source ≡ Some p → pass_of h (nth_pass h q).source ≡ Some q → p ≢ q
    → nat_eq (nth_pass h q).source (nth_pass h p).source ≡ false
apart h p q known_p known_q differ = elim (cases_Bool (nat_eq (nth_pass h q).source (nth_pass h p).source)) [
  | inl same ↦ let both : ◌≡◌ {A = Option ℕ} (Some p) (Some q) = sym known_p ∙ ap (pass_of h) (sym (eqb-true _ _ same))
      ∙ known_q in absurd (differ (some_number p q both))
  | inr other ↦ other
]
  where
    some_number : (p q : ℕ) → ◌≡◌ {A = Option ℕ} (Some p) (Some q) → p ≡ q
    some_number p q e = cc

-- an aim of another pass, or none, leaves a pass that leads where it led
same_after_step : (h : History) (x : Vcpu) (p : ℕ) (past : Past) → pass_reach (Stepped x ∷ h) p ≡ pass_reach h p → IsAimedIn h p past
    → IsAimedIn (Stepped x ∷ h) p past
unfolding passes_of
same_after_step h x p past same a = record {
  passable = a.passable;
  target = a.target
      ∙ ap (target_for h p (nth_pass h p).to (nth_pass h p).identity) (sym same);
}

-- its own aim
given_aim : (h : History) (p : ℕ) → pass_reaches (aims_done (home h (nth_pass h p).to)) (aimed (home h (nth_pass h p).to)) ≡ pass_reach
    (Stepped (nth_pass h p).to ∷ h) p → is_passable (acts_of h) (nth_pass h p).source ≡ true
    → IsAimedIn (Stepped (nth_pass h p).to ∷ h) p (aim_of h (nth_pass h p).to p ∷ acts_of h)
unfolding passes_of
given_aim h p there ready =
    let given = aim_gives (acts_of h) (nth_pass h p).source
    (target_for h p (nth_pass h p).to (nth_pass h p).identity
    (pass_reaches (aims_done (home h (nth_pass h p).to)) (aimed (home h (nth_pass h p).to)))) ready in
    record { passable = given.0; target = given.1 ∙ ap (target_for h p (nth_pass h p).to (nth_pass h p).identity) there }

own_aimed : (h : History) (p : ℕ) → is_aiming (passes_for h (nth_pass h p).to) (home h (nth_pass h p).to) ≡ true
    → nat_eq (rank_of h p) (aims_done (home h (nth_pass h p).to)) ≡ true → p < length (passes_of h) → PassStands h p
    → IsAimedIn (Stepped (nth_pass h p).to ∷ h) p (aim_of h (nth_pass h p).to
    (own_pass h (nth_pass h p).to (aims_done (home h (nth_pass h p).to))) ∷ acts_of h)
own_aimed h p aims turn low s =
    let g = (nth_pass h p).to in
    let rank = eqb-true (rank_of h p) (aims_done (home h g)) turn in
    let mine : own_pass h g (aims_done (home h g)) ≡ p = ap (own_pass h g) (sym rank) ∙ rank_is h p low in
    let there : pass_reaches (aims_done (home h g)) (aimed (home h g)) ≡ pass_reach (Stepped g ∷ h) p =
    ap (λ r. pass_reaches r (aimed (home h g))) (sym rank) ∙ sym (own_reach h p ∙ ap (pass_reaches (rank_of h p)) (cond-true _ _ _ aims)) in
    subst (λ q. IsAimedIn (Stepped g ∷ h) p (aim_of h g q ∷ acts_of h)) (sym mine) (given_aim h p there s.passable)

-- the aim of another one leaves it, where it leads as before
others_aim : (h : History) (x : Vcpu) (p : ℕ) → is_aiming (passes_for h x) (home h x) ≡ true → AllPassesStand h → p < length (passes_of h)
    → (p ≢ own_pass h x (aims_done (home h x))) → pass_reach (Stepped x ∷ h) p ≡ pass_reach h p
    → IsAimedIn (Stepped x ∷ h) p (aim_of h x (own_pass h x (aims_done (home h x))) ∷ acts_of h)
others_aim h x p aims all low differ same =
    let few = ltb-true _ _ (and_parts _ (nat_lt (aims_done (home h x)) (passes_for h x)) aims).1 in
    let q = own_is h x (aims_done (home h x)) few in
    let s = all.pass p low in
    let leaves = apart h p (own_pass h x (aims_done (home h x))) s.known (all.pass (own_pass h x (aims_done (home h x))) q.low).known differ in
    same_after_step h x p _ same (aimed_left h p (acts_of h) (aim_of h x (own_pass h x (aims_done (home h x)))) leaves (aimed_of h p s))

-- a step of the pass's own virtual hart, of another one
own_step : (h : History) (p : ℕ) → AllPassesStand h → p < length (passes_of h)
    → IsAimedIn (Stepped (nth_pass h p).to ∷ h) p (acts_of (Stepped (nth_pass h p).to ∷ h))
own_step h p all low = by_aim (is_aiming (passes_for h g) (home h g)) refl
  where
    g : Vcpu
    g = (nth_pass h p).to

    below : nat_lt (rank_of h p) (passes_for h g) ≡ true
    below = rank_below h p (lt-ltb p (length (passes_of h)) low)

    by_turn : (b : Bool) → nat_eq (rank_of h p) (aims_done (home h g)) ≡ b → is_aiming (passes_for h g) (home h g) ≡ true
        → IsAimedIn (Stepped g ∷ h) p (aim_of h g (own_pass h g (aims_done (home h g))) ∷ acts_of h)
    by_turn true turn aims = own_aimed h p aims turn low (all.pass p low)
    by_turn false turn aims =
        let few = ltb-true _ _ (and_parts _ (nat_lt (aims_done (home h g)) (passes_for h g)) aims).1 in
        let q = own_is h g (aims_done (home h g)) few in
        others_aim h g p aims all low (λ e. false≢true (sym turn ∙ eq-eqb _ _ (ap (λ k. passes_to g (take k (passes_of h))) e ∙ q.rank)))
        (own_reach h p ∙ ap (pass_reaches (rank_of h p)) (cond-true _ _ _ aims) ∙ aimed_other (rank_of h p) (home h g) turn)

    by_aim : (b : Bool) → is_aiming (passes_for h g) (home h g) ≡ b
        → IsAimedIn (Stepped g ∷ h) p (with_act (if b then Some (aim_of h g (own_pass h g (aims_done (home h g)))) else None) (acts_of h))
    by_aim true aims = by_turn (nat_eq (rank_of h p) (aims_done (home h g))) refl aims
    by_aim false on = same_after_step h g p (acts_of h)
        (own_reach h p ∙ further_passes (passes_for h g) (file_words h) (rank_of h p) (home h g) below (all.aimed g) on)
        (aimed_of h p (all.pass p low))

other_step : (h : History) (x : Vcpu) (p : ℕ) → is_vcpu (nth_pass h p).to x ≡ false → AllPassesStand h → p < length (passes_of h)
    → IsAimedIn (Stepped x ∷ h) p (acts_of (Stepped x ∷ h))
other_step h x p other all low = by_aim (is_aiming (passes_for h x) (home h x)) refl
  where
    by_aim : (b : Bool) → is_aiming (passes_for h x) (home h x) ≡ b
        → IsAimedIn (Stepped x ∷ h) p (with_act (if b then Some (aim_of h x (own_pass h x (aims_done (home h x)))) else None) (acts_of h))
    by_aim true aims =
        let few = ltb-true _ _ (and_parts _ (nat_lt (aims_done (home h x)) (passes_for h x)) aims).1 in
        let q = own_is h x (aims_done (home h x)) few in
        others_aim h x p aims all low (λ e. false≢true (sym other ∙ ap (λ k. is_vcpu (nth_pass h k).to x) e ∙ q.own)) (other_reach h x p other)
    by_aim false on = same_after_step h x p (acts_of h) (other_reach h x p other) (aimed_of h p (all.pass p low))

step_aimed : (h : History) (x : Vcpu) (p : ℕ) → AllPassesStand h → p < length (passes_of h) → IsAimedIn (Stepped x ∷ h) p (acts_of (Stepped x ∷ h))
step_aimed h x p all low = elim (cases_Bool (is_vcpu (nth_pass h p).to x)) [
  | inl own ↦ subst (λ y. IsAimedIn (Stepped y ∷ h) p (acts_of (Stepped y ∷ h))) (same_vcpu (nth_pass h p).to x own) (own_step h p all low)
  | inr other ↦ other_step h x p other all low
]

-- ---- every event leaves it aimed as it leads

event_aimed : (event : Event) (h : History) (p : ℕ) → MayHappen h event → AllPassesStand h → p < length (passes_of (event ∷ h))
    → IsAimedIn (event ∷ h) p (acts_of (event ∷ h))
unfolding passes_of home
event_aimed (Accepted line) h p may all low = aimed_sent (Accepted line ∷ h) p (acts_by h line) (line_aimed h line p may all low)
event_aimed (Stepped x) h p may all low = step_aimed h x p all low
event_aimed (Began (Leaves x)) h p may all low = let a = aimed_of h p (all.pass p low) in
    record { passable = a.passable; target = a.target ∙ ap (target_for h p (nth_pass h p).to (nth_pass h p).identity) (sym (began_reach h x 0 p).0) }
event_aimed (Began (Arrives x hart)) h p may all low = let a = aimed_of h p (all.pass p low) in
    record {
      passable = a.passable;
      target = a.target
          ∙ ap (target_for h p (nth_pass h p).to (nth_pass h p).identity) (sym (began_reach h x hart p).1);
    }
event_aimed (Began (Shifts x hart)) h p may all low = let a = aimed_of h p (all.pass p low) in
    record {
      passable = a.passable;
      target = a.target
          ∙ ap (target_for h p (nth_pass h p).to (nth_pass h p).identity) (sym (began_reach h x hart p).2);
    }
event_aimed (Delivered msi) h p may all low = let a = aimed_of h p (all.pass p low) in record { passable = a.passable; target = a.target }
event_aimed (Landed vm k) h p may all low = let a = aimed_of h p (all.pass p low) in record { passable = a.passable; target = a.target }
event_aimed (Relayed q) h p may all low = let a = aimed_of h p (all.pass p low) in record { passable = a.passable; target = a.target }

few_on : (event : Event) (h : History) → MayHappen h event → length (passes_of h) ≤ PASSES → length (passes_of (event ∷ h)) ≤ PASSES
unfolding passes_of
few_on (Accepted (lines.Pass source vm vcpu identity)) h may few =
    let longer = one_longer (passes_of h) (record { source = source; to = vcpu_of vm vcpu; identity = identity }) in
    let room = (pass_allowed h source vm vcpu identity may).few in omega (arith, longer, room)
few_on (Accepted line) h may few = few
few_on (Began move) h may few = few
few_on (Stepped x) h may few = few
few_on (Delivered msi) h may few = few
few_on (Landed vm k) h may few = few
few_on (Relayed p) h may few = few

none_stands : AllPassesStand []
unfolding passes_of
none_stands = record { pass = λ p low. absurd (omega (arith, low)); aimed = none_passed; few = omega arith }

pub passes_stand : (h : History) → IsHistory h → AllPassesStand h
passes_stand [] good = none_stands
passes_stand (event ∷ h) good = let all = passes_stand h good.1 in record {
  pass = λ p low. stands_by (event ∷ h) p (known_on event h p good.0 all low) (event_aimed event h p good.0 all low);
  aimed = aimed_on h event (passes_rest h event good.0) all.aimed;
  few = few_on event h good.0 all.few;
}

-- once a word is taken each leads to the new place
drained_moves : (words w : ℕ) (there : Home) → is_drained words there w ≡ true → is_moving there ≡ true
drained_moves words w (OnWay way at) e = refl
drained_moves words w there e = let no : false ≡ true = grind (arith, nat_tests) in absurd (false≢true no)

pub pass_after_take : (h : History) (p w : ℕ) → IsHistory h → p < length (passes_of h)
    → is_drained (file_words h) (home h (nth_pass h p).to) w ≡ true → pass_reach h p ≡ new_file (home h (nth_pass h p).to)
pass_after_take h p w good low drained =
    let g = (nth_pass h p).to in
    pass_drained (passes_for h g) (file_words h) w (rank_of h p) (home h g) (rank_below h p (lt-ltb p (length (passes_of h)) low))
    (all_aimed_in h good g) (drained_moves (file_words h) w (home h g) drained) drained
