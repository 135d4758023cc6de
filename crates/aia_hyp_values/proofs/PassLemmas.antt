-- The passes of wired sources as the core keeps them, and what the line that passes one leaves.
use Rattle.std.proofs.Common.{◌≡◌, ℕ, suc, ◌+◌, ◌<◌, ◌≤◌, Bool, true, false, not, ◌&&◌, cond, nat_eq, List, [], ◌∷◌, ◌++◌, length, map, drop, slice_index_or, Option, Some, None, inl, inr, refl, sym, ap, subst, ◌∙◌, arith, add-one, drop-cons}
use Rattle.std.specs.Prelude.{nat_le, is_some}
use Rattle.std.specs.Int.{is_in_range}
use Rattle.std.specs.List.{AllByRecursion}
use Rattle.std.proofs.lemmas.Bool.{cases_Bool, cond-true, cond-false, eq-eqb, le-ltb, le-leb, lt-leb, leb-false, false≢true}
use Rattle.std.proofs.lemmas.Bool.Decides.{nat_tests}
use Rattle.std.proofs.lemmas.List.{append_assoc, length-append, get_or_default}
use Rattle.std.proofs.lemmas.Option.{none-some}
use Rattle.aia_regs.specs.declared.limits.TheConstants.{IDENTITIES, GUEST_FILES, PASSES}
use Rattle.aia_word.proofs.LeastLemmas.{least_of-found, least_of-none}
use Rattle.aia_vcpu.specs.Vms.{Vcpu, vcpu_of, is_vcpu, is_vcpu_in, vcpus_in, slot_of, notice_hart}
use Rattle.aia_file.specs.InterruptFile.{is_greatest_identity}
use Rattle.aia_vcpu.specs.declared.place.GuestPlace.{GuestPlace}
use Rattle.aia_vcpu.specs.Home.{holds, is_moving}
use Rattle.aia_vcpu.proofs.HomeLemmas.{some_same}
use Rattle.aia_vcpu.proofs.VmLemmas.{slot_below}
use Rattle.aia_vcpu.specs.Aims.{pass_reaches, target_to}
use Rattle.aia_fabric_values.specs.World.{World}
use Rattle.aia_fabric_values.specs.Whole.{IsWhole}
use Rattle.aia_move_values.specs.declared.who.Pass as plans
use Rattle.aia_move_values.specs.Targets.{TargetMap}
use Rattle.aia_model.specs.declared.answer.Answer.{Answer}
use Rattle.aia_model.specs.declared.answer.Answer.TheVariants.{Okay, Refused}
use Rattle.aia_model.specs.declared.refusal.Refusal.{Refusal}
use Rattle.aia_model.specs.declared.refusal.Refusal.TheVariants as words
use Rattle.aia_model.specs.declared.line.Line.TheVariants as lines
use Rattle.aia_model.specs.Event.{Event, History}
use Rattle.aia_model.specs.Event.Event.{Accepted}
use Rattle.aia_model.specs.Vms.{has_vcpu}
use Rattle.aia_model.specs.HomeOf.{home}
use Rattle.aia_model.specs.Flight.{flight}
use Rattle.aia_model.specs.Passes.{PassedSource, no_pass, passes_of, passes_for}
use Rattle.aia_model.specs.Aim.{aimed_by}
use Rattle.aia_model.specs.Refusal.{refusal}
use Rattle.aia_model.proofs.AnswerLemmas.{answered, pass_refusal}
use Rattle.aia_model.proofs.FlightLemmas.{all_append}
use Rattle.aia_model.proofs.MoveLemmas.{is_another}
use Rattle.aia_hyp_values.specs.declared.passed.Passed.{Passed}
use Rattle.aia_hyp_values.specs.Core.{VcpuRecord}
use Rattle.aia_hyp_values.specs.Core.{Stay}
use Rattle.aia_hyp_values.specs.declared.vcpu.Stay.TheVariants as stays
use Rattle.aia_hyp_values.specs.Core.{CoreState, no_record, record_of, home_in, resident_at, has_plan}
use Rattle.aia_hyp_values.specs.Moves.{UnlessRefused}
use Rattle.aia_hyp_values.specs.Passes.{pass_shown, number_of_pass, own_passes, IsToOne, TellsOf, AimsBy}
use Rattle.aia_hyp_values.specs.Stands.{PlanStands, flying_of, CoreStands, StandsForSome, CorePasses, MayPass, RefusesPass, line_served}
use Rattle.aia_hyp_values.proofs.VcpuLemmas.{IsQuiet, stays_line}
use Rattle.aia_hyp_values.proofs.StandsLemmas.{Becomes, stands_after}
use Rattle.aia_hyp_values.proofs.EventLemmas.{IsHosts, changed, nothing_done}

-- ---- the passes to one virtual hart

-- the first one, and those after it
one_own : (number : ℕ) (g : Vcpu) (x : PassedSource) (later : List PassedSource)
    → own_passes number g (x ∷ later) ≡ own_passes number g (x ∷ []) ++ own_passes (suc number) g later
one_own number g x later = elim (cases_Bool (is_vcpu x.to g)) [
  | inl own ↦ rw own refl
  | inr other ↦ rw other refl
]

at_most_one : (number : ℕ) (g : Vcpu) (x : PassedSource) → length (own_passes number g (x ∷ [])) ≤ 1
at_most_one number g x = elim (cases_Bool (is_vcpu x.to g)) [
  | inl own ↦ rw own (omega arith)
  | inr other ↦ rw other (omega arith)
]

-- what is gathered of them once so many of all have been seen
pub record HasGathered (kept : List Passed) (k : ℕ) (g : Vcpu) (own : List plans.Pass) : Type 0 where
  pub all : own ++ own_passes k g (map pass_shown (drop k kept)) ≡ own_passes 0 g (map pass_shown kept)
  pub few : length own ≤ k

pub none_gathered : (kept : List Passed) (g : Vcpu) (own : List plans.Pass) → own ≡ [] → HasGathered kept 0 g own
none_gathered kept g own none = record {
  all = ap (λ (xs : List plans.Pass). xs ++ own_passes 0 g (map pass_shown kept)) none;
  few = let size = ap (λ (xs : List plans.Pass). length xs) none in omega (arith, size);
}

pub one_gathered : (kept : List Passed) (k : ℕ) (g : Vcpu) (old new : List plans.Pass) (none : Passed) → k < length kept
    → new ≡ old ++ own_passes k g (pass_shown (slice_index_or kept k none) ∷ []) → HasGathered kept k g old → HasGathered kept (k + 1) g new
one_gathered kept k g old new none low is has =
    let x = pass_shown (slice_index_or kept k none) in
    let later = map pass_shown (drop (suc k) kept) in
    let more : drop k kept ≡ slice_index_or kept k none ∷ drop (suc k) kept = drop-cons kept k none low in
    record {
      all = ap (λ n. new ++ own_passes n g (map pass_shown (drop n kept))) (add-one k)
          ∙ ap (λ (xs : List plans.Pass). xs ++ own_passes (suc k) g later) is
          ∙ append_assoc old (own_passes k g (x ∷ [])) (own_passes (suc k) g later)
          ∙ ap (λ (xs : List plans.Pass). old ++ xs) (sym (one_own k g x later))
          ∙ ap (λ (xs : List Passed). old ++ own_passes k g (map pass_shown xs)) (sym more)
          ∙ has.all;
      few =
          let size : length new ≡ length old + length (own_passes k g (x ∷ [])) = ap (λ (xs : List plans.Pass). length xs) is
          ∙ length-append old (own_passes k g (x ∷ [])) in
          let one = at_most_one k g x in
          let few = has.few in
          omega (arith, size, one, few);
    }

pub all_gathered : (kept : List Passed) (k : ℕ) (g : Vcpu) (own : List plans.Pass) → drop k kept ≡ [] → HasGathered kept k g own
    → own ≡ own_passes 0 g (map pass_shown kept)
all_gathered kept k g own end has = nothing_after own ∙ ap (λ (xs : List Passed). own ++ own_passes k g (map pass_shown xs)) (sym end) ∙ has.all
  where
    nothing_after : (xs : List plans.Pass) → xs ≡ xs ++ []
    nothing_after [] = refl
    nothing_after (x ∷ xs) = ap (λ (ys : List plans.Pass). x ∷ ys) (nothing_after xs)

-- ---- the pass of a source

pub first_of_source : (passes : List PassedSource) (source number : ℕ) → number < length passes
    → (slice_index_or passes number no_pass).source ≡ source
    → ((j : ℕ) → j < number → nat_eq (slice_index_or passes j no_pass).source source ≡ false) → Some number ≡ number_of_pass passes (Some source)
first_of_source passes source number low is none =
    sym (least_of-found (λ p. nat_eq (slice_index_or passes p no_pass).source source) 0 (length passes) number (omega arith) (omega arith)
    (eq-eqb _ source is) (λ j a b. none j b))

pub none_of_source : (passes : List PassedSource) (source count : ℕ) → length passes ≤ count
    → ((j : ℕ) → j < count → nat_eq (slice_index_or passes j no_pass).source source ≡ false) → None ≡ number_of_pass passes (Some source)
none_of_source passes source count all none = sym
    (least_of-none (λ p. nat_eq (slice_index_or passes p no_pass).source source) 0 (length passes) (λ j a b. none j (omega arith)))

-- ---- one more pass

other_own : (number : ℕ) (g : Vcpu) (x : PassedSource) (xs : List PassedSource) → is_vcpu x.to g ≡ false
    → own_passes number g (xs ++ x ∷ []) ≡ own_passes number g xs
other_own number g x [] other = cond-false _ _ _ other
other_own number g x (y ∷ ys) other = ap (λ (own : List plans.Pass). cond (is_vcpu y.to g)
    (record { source = y.source; identity = y.identity; number = number } ∷ own) own) (other_own (suc number) g x ys other)

-- a plan of a move is of one that is being moved
pub plan_moves : (w : World) (g : Vcpu) (stay : Stay) → PlanStands w g stay → is_moving (home_in stay) ≡ has_plan stay
plan_moves w g (stays.InMemory rest kept) p = refl
plan_moves w g (stays.Resident lease) p = refl
plan_moves w g (stays.Moving plan) p = p.3

pub moves_as_kept : (x : CoreState) (h : History) (g : Vcpu) → CoreStands x h → has_vcpu h g ≡ true
    → is_moving (home h g) ≡ has_plan (record_of x g).stay
moves_as_kept x h g stands there = let v = stands.vcpus g there in ap is_moving (sym v.same_home) ∙ plan_moves x.world g (record_of x g).stay v.plan

-- at rest a pass leads to the guest file where its virtual hart is resident
rest_reaches : (r : ℕ) (stay : Stay) → has_plan stay ≡ false → resident_at stay ≡ pass_reaches r (home_in stay)
rest_reaches r (stays.InMemory rest kept) e = sym (cond-false _ _ _ (le-ltb r 0 (omega arith)))
rest_reaches r (stays.Resident lease) e = sym (cond-false _ _ _ (le-ltb r 0 (omega arith)))
rest_reaches r (stays.Moving plan) e = absurd (cc)

-- ---- the words that refuse it

-- what is so where nothing does
pub record IsFree (x : CoreState) (vm vcpu identity : ℕ) : Type 0 where
  pub there : is_vcpu_in x.world.vms (vcpu_of vm vcpu) ≡ true
  pub implemented : is_in_range 1 x.world.n identity ≡ true
  pub room : length x.passes < PASSES
  pub rests : has_plan (record_of x (vcpu_of vm vcpu)).stay ≡ false

by_cascade : (a b c d e : Bool) → cond (not a) (Some (Refused words.Range))
    (cond b (Some (Refused words.Full)) (cond c (Some (Refused words.Busy))
    (cond d (Some (Refused words.Passed)) (cond e (Some (Refused words.Unready)) None)))) ≡ None → (a ≡ true) × (b ≡ false) × (c ≡ false)
by_cascade true false false d e is = (refl, refl, refl)
by_cascade true false true d e is = absurd (cc)
by_cascade true true c d e is = absurd (cc)
by_cascade false b c d e is = absurd (cc)

both_true : (a b : Bool) → (a && b) ≡ true → (a ≡ true) × (b ≡ true)
both_true true true is = (refl, refl)
both_true true false is = absurd (cc)
both_true false b is = absurd (cc)

module _ (x : CoreState) (targets : TargetMap) (source vm vcpu identity : ℕ) where
  abbrev to : Vcpu
  to = vcpu_of vm vcpu

  abbrev there : Bool
  there = is_vcpu_in x.world.vms to

  abbrev implemented : Bool
  implemented = is_in_range 1 x.world.n identity

  told : (h : History) → CoreStands x h → TellsOf targets h source → refusal h (lines.Pass source vm vcpu identity)
      ≡ cond (not (there && implemented)) (Some (Refused words.Range))
      (cond (nat_le PASSES (length x.passes)) (Some (Refused words.Full)) (cond (is_moving (home h to)) (Some (Refused words.Busy))
      (cond (is_some (number_of_pass x.passes (Some source))) (Some (Refused words.Passed))
      (cond (not (targets.ready source)) (Some (Refused words.Unready)) None))))
  told h stands tells =
      pass_refusal h source vm vcpu identity stands.there
      ∙ (λ k. cond (not (tells.there k && is_vcpu_in (sym stands.vms k) to && is_in_range 1 (sym stands.greatest k) identity))
      (Some (Refused words.Range))
      (cond (nat_le PASSES (length (sym stands.passes.same k))) (Some (Refused words.Full)) (cond (is_moving (home h to)) (Some (Refused words.Busy))
      (cond (is_some (number_of_pass (sym stands.passes.same k) (Some source))) (Some (Refused words.Passed))
      (cond (not (sym tells.ready k)) (Some (Refused words.Unready)) None)))))

  moves : (h : History) → CoreStands x h → there ≡ true → is_moving (home h to) ≡ has_plan (record_of x to).stay
  moves h stands is = moves_as_kept x h to stands (ap (λ vms. is_vcpu_in vms to) (sym stands.vms) ∙ is)

  pub no_virtual_hart : there ≡ false → RefusesPass x targets source vm vcpu identity (Some (Refused words.Range))
  no_virtual_hart none = λ h stands tells. told h stands tells ∙ cond-true _ _ _ (ap (λ b. not (b && implemented)) none)

  pub no_identity : there ≡ true → implemented ≡ false → RefusesPass x targets source vm vcpu identity (Some (Refused words.Range))
  no_identity is none = λ h stands tells. told h stands tells ∙ cond-true _ _ _ (λ k. not (is k && none k))

  pub no_room : there ≡ true → implemented ≡ true → PASSES ≤ length x.passes
      → RefusesPass x targets source vm vcpu identity (Some (Refused words.Full))
  no_room is has full = λ h stands tells. told h stands tells ∙ cond-false _ _ _ (λ k. not (is k && has k))
      ∙ cond-true _ _ _ (le-leb PASSES (length x.passes) full)

  -- with room
  abbrev HasRoom : Type 0
  HasRoom = (there ≡ true) × (implemented ≡ true) × (length x.passes < PASSES)

  past_room : HasRoom → (h : History) → CoreStands x h → TellsOf targets h source → refusal h (lines.Pass source vm vcpu identity)
      ≡ cond (has_plan (record_of x to).stay) (Some (Refused words.Busy))
      (cond (is_some (number_of_pass x.passes (Some source))) (Some (Refused words.Passed))
      (cond (not (targets.ready source)) (Some (Refused words.Unready)) None))
  past_room r h stands tells =
      told h stands tells ∙ cond-false _ _ _ (λ k. not (r.0 k && r.1 k)) ∙ cond-false _ _ _ (lt-leb PASSES (length x.passes) r.2)
      ∙ ap (λ b. cond b (Some (Refused words.Busy)) (cond (is_some (number_of_pass x.passes (Some source))) (Some (Refused words.Passed))
      (cond (not (targets.ready source)) (Some (Refused words.Unready)) None))) (moves h stands r.0)

  pub is_moved : HasRoom → has_plan (record_of x to).stay ≡ true → RefusesPass x targets source vm vcpu identity (Some (Refused words.Busy))
  is_moved r moved = λ h stands tells. past_room r h stands tells ∙ cond-true _ _ _ moved

  pub is_passed : HasRoom → has_plan (record_of x to).stay ≡ false → is_some (number_of_pass x.passes (Some source)) ≡ true
      → RefusesPass x targets source vm vcpu identity (Some (Refused words.Passed))
  is_passed r rests passed = λ h stands tells. past_room r h stands tells ∙ cond-false _ _ _ rests ∙ cond-true _ _ _ passed

  pub is_unready : HasRoom → has_plan (record_of x to).stay ≡ false → is_some (number_of_pass x.passes (Some source)) ≡ false
      → targets.ready source ≡ false → RefusesPass x targets source vm vcpu identity (Some (Refused words.Unready))
  is_unready r rests unpassed unready = λ h stands tells. past_room r h stands tells ∙ cond-false _ _ _ rests ∙ cond-false _ _ _ unpassed
      ∙ cond-true _ _ _ (ap not unready)

  pub is_free : HasRoom → has_plan (record_of x to).stay ≡ false → is_some (number_of_pass x.passes (Some source)) ≡ false
      → targets.ready source ≡ true → RefusesPass x targets source vm vcpu identity None
  is_free r rests unpassed ready = λ h stands tells. past_room r h stands tells ∙ cond-false _ _ _ rests ∙ cond-false _ _ _ unpassed
      ∙ cond-false _ _ _ (ap not ready)

  pub free_so : (h : History) → CoreStands x h → TellsOf targets h source → refusal h (lines.Pass source vm vcpu identity) ≡ None
      → IsFree x vm vcpu identity
  free_so h stands tells free =
      let so = by_cascade (there && implemented) (nat_le PASSES (length x.passes)) (is_moving (home h to))
      (is_some (number_of_pass x.passes (Some source))) (not (targets.ready source)) (sym (told h stands tells) ∙ free) in
      let both = both_true there implemented so.0 in record {
        there = both.0;
        implemented = both.1;
        room = leb-false PASSES (length x.passes) so.1;
        rests = sym (moves h stands both.0) ∙ so.2;
      }

-- ---- what it makes of the core

pub pass_is_quiet : (h : History) (source vm vcpu identity : ℕ) → is_moving (home h (vcpu_of vm vcpu)) ≡ false
    → IsQuiet h (Accepted (lines.Pass source vm vcpu identity))
unfolding passes_of
pass_is_quiet h source vm vcpu identity rests = record {
  stays = stays_line h (lines.Pass source vm vcpu identity) refl refl (λ g. refl) (λ g. refl)
      (λ g moves. other_own 0 g (record { source = source; to = vcpu_of vm vcpu; identity = identity }) (passes_of h)
      (is_another (vcpu_of vm vcpu) g (λ e. false≢true (sym rests ∙ ap (λ z. is_moving (home h z)) e ∙ moves))));
  plain = refl;
}

one_passed : (h : History) (source vm vcpu identity : ℕ)
    → passes_of (Accepted (lines.Pass source vm vcpu identity) ∷ h) ≡ passes_of h ++ record
    { source = source; to = vcpu_of vm vcpu; identity = identity } ∷ []
unfolding passes_of
one_passed h source vm vcpu identity = refl

none_flies_off : (h : History) (source vm vcpu identity v : ℕ) → flight (Accepted (lines.Pass source vm vcpu identity) ∷ h) v ≡ flight h v
unfolding flight
none_flies_off h source vm vcpu identity v = refl

-- other passes are nothing to all but the passes
with_passes : (x y : CoreState) (h : History) (event : Event) (passes : List PassedSource) → Becomes x y h event
    → Becomes x (record y { passes = passes }) h event
with_passes x y h event passes b = record {
  keeps = record { machine = b.keeps.machine; n = b.keeps.n; harts = b.keeps.harts; guests = b.keeps.guests };
  vms = b.vms;
  count = b.count;
  host = λ f inside. let d = b.host f inside in record { file = d.file; select = d.select };
  records = b.records;
  vcpus = λ g inside. let v = b.vcpus g inside in
      record {
        same_home = v.same_home;
        select = v.select;
        majors = v.majors;
        two_files = v.two_files;
        plan = v.plan;
        passes = v.passes;
        holds = v.holds;
      };
  lease_harts = b.lease_harts;
  lease_guests = b.lease_guests;
  lease_count = b.lease_count;
  leases = b.leases;
  held = b.held;
  apart = b.apart;
  free = b.free;
  no_vcpu = b.no_vcpu;
  no_entry = b.no_entry;
  no_slot = b.no_slot;
}

module _ (x : CoreState) (h : History) (source vm vcpu identity : ℕ) (stands : CoreStands x h) (free : IsFree x vm vcpu identity) where
  abbrev g : Vcpu
  g = vcpu_of vm vcpu

  abbrev event : Event
  event = Accepted (lines.Pass source vm vcpu identity)

  abbrev pass : PassedSource
  pass = record { source = source; to = g; identity = identity }

  abbrev new : CoreState
  new = record x { passes = x.passes ++ pass ∷ [] }

  inside : has_vcpu h g ≡ true
  inside = ap (λ vms. is_vcpu_in vms g) (sym stands.vms) ∙ free.there

  at_rest : is_moving (home h g) ≡ false
  at_rest = moves_as_kept x h g stands inside ∙ free.rests

  hosts : IsHosts h event
  hosts = record { quiet = pass_is_quiet h source vm vcpu identity at_rest; none = refl; guests = λ z. refl; majors = λ z m. refl }

  to_one : IsToOne h pass
  to_one = (inside, subst (λ n. is_in_range 1 n identity ≡ true) stands.greatest free.implemented)

  pub pass_stands : CoreStands new (event ∷ h)
  pass_stands =
      stands_after x new h event (with_passes x x h event (x.passes ++ pass ∷ [])
      (changed x x h event (nothing_done x h event stands hosts (λ f there. refl)) stands))
      (record { first = tt; one = tt; flights = λ v. stands.flights v ∙ ap (map (flying_of v)) (sym (none_flies_off h source vm vcpu identity v)) })
      (record {
        same = ap (λ (ps : List PassedSource). ps ++ pass ∷ []) stands.passes.same ∙ sym (one_passed h source vm vcpu identity);
        to_one = subst (AllByRecursion (IsToOne h)) (sym (one_passed h source vm vcpu identity))
            (all_append (IsToOne h) (passes_of h) pass stands.passes.to_one to_one);
        rest = at_rest;
      }) stands

  -- and of the targets
  pub pass_aims : {T : Type 0} (aim : T → ℕ → ℕ → T → Type 0) (before after : T) (notice count : ℕ) → notice ≡ notice_hart x.world.vms g
      → count ≡ length x.passes → aim before source (target_to notice count identity (resident_at (record_of x g).stay)) after
      → AimsBy aim (aimed_by h event) before after
  pass_aims aim before after notice count hart size aimed =
      let reach : resident_at (record_of x g).stay ≡ pass_reaches (passes_for h g) (home h g) =
      rest_reaches (passes_for h g) (record_of x g).stay free.rests ∙ ap (pass_reaches (passes_for h g)) (stands.vcpus g inside).same_home in
      subst (λ target. aim before source target after)
      ((λ k. target_to (hart k) (size k) identity (reach k))
      ∙ (λ k. target_to (notice_hart (stands.vms k) g) (length (stands.passes.same k)) identity (pass_reaches (passes_for h g) (home h g)))) aimed

-- ---- the line

pub pass_refused : (x : CoreState) (targets : TargetMap) (source vm vcpu identity : ℕ) (word : Refusal)
    → RefusesPass x targets source vm vcpu identity (Some (Refused word))
    → CorePasses x x targets source (lines.Pass source vm vcpu identity) (Refused word)
pass_refused x targets source vm vcpu identity word is = record {
  answers = λ h stands tells. sym (answered h (lines.Pass source vm vcpu identity) (Some (Refused word)) (is h stands tells));
  stands = λ h stands tells. subst (λ (o : Option Answer). CoreStands x (line_served o h (lines.Pass source vm vcpu identity)))
      (sym (is h stands tells)) stands;
  unchanged = λ h other stands tells e. refl;
}

pub pass_taken : (x y : CoreState) (targets : TargetMap) (source vm vcpu identity : ℕ) → RefusesPass x targets source vm vcpu identity None
    → ((h : History) → CoreStands x h → TellsOf targets h source → CoreStands y (Accepted (lines.Pass source vm vcpu identity) ∷ h))
    → CorePasses x y targets source (lines.Pass source vm vcpu identity) Okay
pass_taken x y targets source vm vcpu identity free stands_then = record {
  answers = λ h stands tells. sym (answered h (lines.Pass source vm vcpu identity) None (free h stands tells));
  stands = λ h stands tells. subst (λ (o : Option Answer). CoreStands y (line_served o h (lines.Pass source vm vcpu identity)))
      (sym (free h stands tells)) (stands_then h stands tells);
  unchanged = λ h word stands tells e. absurd (none-some word (sym (free h stands tells) ∙ e));
}

pub unless_taken : (r : Option Answer) (A B : Type 0) → r ≡ None → A → UnlessRefused r A B
unless_taken r A B is a = subst (λ (o : Option Answer). UnlessRefused o A B) (sym is) a

-- ---- what its call needs

-- the record of the virtual hart is there, at its slot
pub record_low : (x : CoreState) (h : History) (g : Vcpu) (q : ℕ) → CoreStands x h → is_vcpu_in x.world.vms g ≡ true → q ≡ slot_of x.world.vms g
    → q < length x.vcpus
record_low x h g q stands there is =
    let below = slot_below x.world.vms g there in
    let all : length x.vcpus ≡ vcpus_in x.world.vms = stands.records ∙ ap vcpus_in (sym stands.vms) in
    omega (arith, below, all, is)

pub record_read : (x : CoreState) (h : History) (g : Vcpu) (q : ℕ) (r : VcpuRecord) → CoreStands x h → is_vcpu_in x.world.vms g ≡ true
    → q ≡ slot_of x.world.vms g → r ≡ slice_index_or x.vcpus q r → r ≡ record_of x g
record_read x h g q r stands there is read = read ∙ get_or_default x.vcpus q r no_record (record_low x h g q stands there is)
    ∙ ap (λ slot. slice_index_or x.vcpus slot no_record) is

pub few_identities : (n identity : ℕ) → is_greatest_identity n ≡ true → is_in_range 1 n identity ≡ true → identity ≤ IDENTITIES
few_identities n identity greatest inside = grind (arith, nat_tests)

resident_holds : (stay : Stay) (p : GuestPlace) → resident_at stay ≡ Some p → holds p (home_in stay) ≡ true
resident_holds (stays.Resident lease) p e = some_same lease p e
resident_holds (stays.InMemory rest kept) p e = absurd (cc)
resident_holds (stays.Moving plan) p e = absurd (cc)

-- where it is resident is a guest file that is there
pub resident_there : (x : CoreState) (h : History) (g : Vcpu) (p : GuestPlace) → CoreStands x h → IsWhole x.world
    → is_vcpu_in x.world.vms g ≡ true → resident_at (record_of x g).stay ≡ Some p → (p.hart < x.world.imsic.harts) × (p.file ≤ GUEST_FILES)
resident_there x h g p stands whole there e =
    let inside : has_vcpu h g ≡ true = ap (λ vms. is_vcpu_in vms g) (sym stands.vms) ∙ there in
    let holding : holds p (home h g) ≡ true = ap (holds p) (sym (stands.vcpus g inside).same_home) ∙ resident_holds (record_of x g).stay p e in
    let file = stands.held g p inside holding in
    (file.0, omega (arith, file.2, whole.guests))

pub pass_stands_for_some : (x : CoreState) (targets : TargetMap) (source vm vcpu identity : ℕ) (m : MayPass x targets source)
    → RefusesPass x targets source vm vcpu identity None → IsFree x vm vcpu identity
    → StandsForSome (record x { passes = x.passes ++ record { source = source; to = vcpu_of vm vcpu; identity = identity } ∷ [] })
pass_stands_for_some x targets source vm vcpu identity m refuses free = record {
  past = Accepted (lines.Pass source vm vcpu identity) ∷ m.past;
  happens = (refuses m.past m.stands m.tells, m.happens);
  stands = pass_stands x m.past source vm vcpu identity m.stands free;
}
