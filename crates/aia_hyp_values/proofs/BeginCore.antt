-- A call begins a move that is wanted, or refuses it, as its line is.
use Rattle.std.proofs.Common.{◌≡◌, ℕ, ◌<◌, ◌≤◌, Bool, true, false, ◌&&◌, not, cond, List, ◌∷◌, is_none, Option, Some, None, unwrap_or, inl, inr, refl, sym, ap, subst, ◌∙◌, arith}
use Rattle.std.proofs.Math.ListN.{set}
use Rattle.std.proofs.lemmas.Bool.{cases_lt, cond-true, lt-ltb, le-ltb}
use Rattle.std.proofs.lemmas.List.{set-get_or}
use Rattle.std.proofs.lemmas.Option.{none-some}
use Rattle.aia_vcpu.specs.declared.place.GuestPlace.{GuestPlace}
use Rattle.aia_vcpu.specs.declared.vm.Vm.{Vm}
use Rattle.aia_vcpu.specs.Vms.{Vcpu, vcpu_of, is_vcpu_in, slot_of}
use Rattle.aia_vcpu.specs.Home.{at_first, rests_in_memory, is_moving}
use Rattle.aia_vcpu.specs.Home.Home.{OnWay}
use Rattle.aia_vcpu.specs.Home.Way.{Inward, Across}
use Rattle.aia_pool.specs.Leases.{least_free, with_out}
use Rattle.aia_move_values.specs.declared.who.Who.{Who}
use Rattle.aia_move_values.specs.declared.who.KeptNumbers.{KeptNumbers}
use Rattle.aia_move_values.specs.Move.{Moving, IsWho}
use Rattle.aia_move_values.specs.PlanState.{PlanState, moving_of}
use Rattle.aia_move_values.specs.Plan.{IsInPhase, empty_hand}
use Rattle.aia_model.specs.declared.answer.Answer.{Answer}
use Rattle.aia_model.specs.declared.answer.Answer.TheVariants.{Okay, Refused}
use Rattle.aia_model.specs.declared.refusal.Refusal.{Refusal}
use Rattle.aia_model.specs.declared.refusal.Refusal.TheVariants as words
use Rattle.aia_model.specs.declared.line.Line.TheVariants as lines
use Rattle.aia_model.specs.Event.{History, has_machine, has_hart, harts_of}
use Rattle.aia_model.specs.Event.Event.{Began}
use Rattle.aia_model.specs.Histories.{IsHistory}
use Rattle.aia_model.specs.Vms.{has_vcpu}
use Rattle.aia_model.specs.HomeOf.{home, guest_place, free_file}
use Rattle.aia_model.specs.Refusal.{refusal}
use Rattle.aia_model.specs.Answer.{accepted_answer}
use Rattle.aia_model.proofs.AnswerLemmas.{answered, arrive_refusal, leave_refusal, shift_refusal}
use Rattle.aia_model.proofs.RefusalLemmas.{unless_parked}
use Rattle.aia_model.proofs.BeginLemmas.{may_begin}
use Rattle.aia_hyp_values.specs.Passes.{own_passes}
use Rattle.aia_model.specs.declared.want.Want.{Want}
use Rattle.aia_model.specs.declared.want.Want.TheVariants as wants
use Rattle.aia_hyp_values.specs.Core.{Stay}
use Rattle.aia_hyp_values.specs.declared.vcpu.Stay.TheVariants as stays
use Rattle.aia_hyp_values.specs.Core.{VcpuRecord}
use Rattle.aia_hyp_values.specs.Core.{CoreState, no_record, record_of, home_in, parked_at}
use Rattle.aia_model.specs.Move.{wanted_move}
use Rattle.aia_hyp_values.specs.Moves.{Refuses, BeginsIn, LeaveBegins, ArriveFrom, ArriveBegins, ShiftBegins, WantBegins, move_begun, MoveBegins}
use Rattle.aia_hyp_values.specs.Stands.{PlanStands, CoreStands, StandsForSome}
use Rattle.std.specs.Prelude.{Result, Ok, Err}
use Rattle.aia_vcpu.specs.declared.rest.Rest.TheVariants.{Parked}
use Rattle.aia_hyp_values.proofs.RestLemmas.{parked_is, word_is}
use Rattle.aia_hyp_values.proofs.DeviceLemmas.{same_core}
use Rattle.aia_hyp_values.proofs.LeaseLemmas.{IsFreeAt, same_free, free_there}
use Rattle.aia_hyp_values.proofs.BeginLines.{Given, home_at, leave_begun, arrive_begun, shift_begun}

-- ---- by the refusal

-- what is to be shown of a core that stands for a history
abbrev pub Answered : CoreState → CoreState → History → ℕ → ℕ → Want → Answer → Type 0
Answered x y h vm vcpu want given =
    (r : Option Answer) × (refusal h (lines.Move vm vcpu want) ≡ r) × (given ≡ unwrap_or r Okay)
    × CoreStands y (move_begun r h (wanted_move (vcpu_of vm vcpu) want)) × ((word : Answer) → r ≡ Some word → y ≡ x)

okay : (h : History) (vm vcpu : ℕ) (want : Want) → accepted_answer h (lines.Move vm vcpu want) ≡ Okay
okay h vm vcpu want = refl

pub move_answered : (x y : CoreState) (vm vcpu : ℕ) (want : Want) (given : Answer)
    → ((h : History) → CoreStands x h → Answered x y h vm vcpu want given) → MoveBegins x y vm vcpu want given
move_answered x y vm vcpu want given by = record {
  answers = λ h stands. let r = by h stands in r.2 ∙ ap (unwrap_or r.0) (sym (okay h vm vcpu want))
      ∙ sym (answered h (lines.Move vm vcpu want) r.0 r.1);
  begins = λ h stands. let r = by h stands in subst (λ (o : Option Answer). CoreStands y (move_begun o h (wanted_move (vcpu_of vm vcpu) want)))
      (sym r.1) r.3;
  unchanged = λ h word stands is. let r = by h stands in r.4 word (sym r.1 ∙ is);
}

-- ---- a virtual hart that is there

-- a record with another stay
abbrev pub at_stay : VcpuRecord → Stay → VcpuRecord
at_stay r stay = record r { stay = stay }

-- The call has put it elsewhere in its record, and may have taken a file; all else is as it was.
pub record Put (x y : CoreState) (who : Who) (new : Stay) : Type 0 where
  pub is_who : IsWho x.world who
  pub its : who.passes.items ≡ own_passes 0 (vcpu_of who.found.vm who.found.vcpu) x.passes
  pub world : y.world ≡ x.world
  pub selects : y.selects ≡ x.selects
  pub passes : y.passes ≡ x.passes
  pub vcpus : y.vcpus ≡ set x.vcpus (slot_of x.world.vms (vcpu_of who.found.vm who.found.vcpu))
      (at_stay (record_of x (vcpu_of who.found.vm who.found.vcpu)) new)

module _ (x y : CoreState) (who : Who) (given : Answer) (h : History) (stands : CoreStands x h) where
  abbrev g : Vcpu
  g = vcpu_of who.found.vm who.found.vcpu

  is_there : (new : Stay) → Put x y who new → has_vcpu h (vcpu_of who.found.vm who.found.vcpu) ≡ true
  is_there new p = subst (λ (vs : List Vm). is_vcpu_in vs g ≡ true) stands.vms p.is_who.there

  -- it is put where it was
  put_back : (new : Stay) → Put x y who new → new ≡ (record_of x (vcpu_of who.found.vm who.found.vcpu)).stay → y.leases ≡ x.leases → y ≡ x
  put_back new p same leases = same_core x y p.world leases
      (p.vcpus ∙ ap (λ s. set x.vcpus (slot_of x.world.vms g) (at_stay (record_of x g) s)) same
      ∙ set-get_or x.vcpus (slot_of x.world.vms g) no_record) p.selects p.passes

  refused : (want : Want) (word : Refusal) (new old : Stay) → Put x y who new → (record_of x (vcpu_of who.found.vm who.found.vcpu)).stay ≡ old
      → Refuses word old new x.leases y.leases given → refusal h (lines.Move who.found.vm who.found.vcpu want) ≡ Some (Refused word)
      → Answered x y h who.found.vm who.found.vcpu want given
  refused want word new old p was r is =
      let same = put_back new p (r.1 ∙ sym was) r.2 in
      (Some (Refused word), is, r.0, subst (λ (z : CoreState). CoreStands z h) (sym same) stands, λ w e. same)

  -- its plan is kept
  planned : (plan : PlanState) → Put x y who (stays.Moving plan) → ((words : ℕ) → IsInPhase words plan)
      → Given x y h (vcpu_of who.found.vm who.found.vcpu) who plan (at_stay (record_of x (vcpu_of who.found.vm who.found.vcpu)) (stays.Moving plan))
  planned plan p phase = record {
    planned = record {
      stands = stands;
      there = is_there (stays.Moving plan) p;
      world = p.world;
      selects = p.selects;
      passes = p.passes;
      vcpus = p.vcpus;
      stay = refl;
      select = refl;
      majors = refl;
    };
    is_who = p.is_who;
    its_passes = p.its;
    same = refl;
    phase = phase;
  }

  -- ---- a leave

  leave_refused : (new old : Stay) → Put x y who new → (record_of x (vcpu_of who.found.vm who.found.vcpu)).stay ≡ old
      → refusal h (lines.Move who.found.vm who.found.vcpu wants.Leave) ≡ cond (is_moving (home_in old)) (Some (Refused words.Busy))
      (cond (rests_in_memory (home_in old)) (Some (Refused words.Parked)) None)
  leave_refused new old p was =
      let inside = is_there new p in
      let there = home_at x h g old stands inside was in
      leave_refusal h who.found.vm who.found.vcpu stands.there
      ∙ (λ k. cond (not (inside k)) (Some (Refused words.Range))
      (cond (is_moving (there k)) (Some (Refused words.Busy)) (cond (rests_in_memory (there k)) (Some (Refused words.Parked)) None)))

  -- what is being moved has its home on the move
  on_the_move : (new : Stay) (plan : PlanState) → Put x y who new → (record_of x (vcpu_of who.found.vm who.found.vcpu)).stay ≡ stays.Moving plan
      → is_moving (moving_of plan).home ≡ true
  on_the_move new plan p was = let planned : PlanStands x.world g (stays.Moving plan) =
      subst (PlanStands x.world g) was (stands.vcpus g (is_there new p)).plan in planned.3

  leave_answered : (new old : Stay) → Put x y who new → (record_of x (vcpu_of who.found.vm who.found.vcpu)).stay ≡ old
      → LeaveBegins who old new x.leases y.leases given → Answered x y h who.found.vm who.found.vcpu wants.Leave given
  leave_answered (stays.Moving plan) (stays.Resident from) p was b = (
    None,
    leave_refused (stays.Moving plan) (stays.Resident from) p was,
    b.0,
    leave_begun x y h g who plan (at_stay (record_of x g) (stays.Moving plan)) from (planned plan p b.1.1) b.2 was b.1.0,
    λ word e. absurd (none-some word e),
  )
  leave_answered new (stays.InMemory rest kept) p was b =
      refused wants.Leave words.Parked new (stays.InMemory rest kept) p was b (leave_refused new (stays.InMemory rest kept) p was)
  leave_answered new (stays.Moving plan) p was b = refused wants.Leave words.Busy new (stays.Moving plan) p was b
      (leave_refused new (stays.Moving plan) p was ∙ ap
      (λ m. cond m (Some (Refused words.Busy)) (cond (rests_in_memory (moving_of plan).home) (Some (Refused words.Parked)) None))
      (on_the_move new plan p was))
  leave_answered new (stays.Resident from) p was b = absurd b.1

  -- ---- an arrival

  arrive_refused : (new old : Stay) (hart : ℕ) (b : Bool) (o : Option ℕ) → Put x y who new
      → (record_of x (vcpu_of who.found.vm who.found.vcpu)).stay ≡ old → has_hart h hart ≡ b → free_file h (home h) hart ≡ o
      → refusal h (lines.Move who.found.vm who.found.vcpu (wants.Arrive hart)) ≡ cond (not b) (Some (Refused words.Range))
      (unless_parked (home_in old) (cond (is_none o) (Some (Refused words.NoFile)) None))
  arrive_refused new old hart b o p was on free =
      let inside = is_there new p in
      let there = home_at x h g old stands inside was in
      arrive_refusal h who.found.vm who.found.vcpu hart stands.there
      ∙ (λ k. cond (not (inside k && on k)) (Some (Refused words.Range))
      (unless_parked (there k) (cond (is_none (free k)) (Some (Refused words.NoFile)) None)))

  hart_low : (hart : ℕ) → hart < x.leases.harts → has_hart h hart ≡ true
  hart_low hart low = lt-ltb hart (harts_of h) (omega (arith, low, stands.lease_harts))

  hart_past : (hart : ℕ) → x.leases.harts ≤ hart → has_hart h hart ≡ false
  hart_past hart past = le-ltb hart (harts_of h) (omega (arith, past, stands.lease_harts))

  in_world : (hart : ℕ) → hart < x.leases.harts → hart < x.world.imsic.harts
  in_world hart low = omega (arith, low, stands.lease_harts, stands.harts)

  same_least : (hart : ℕ) → hart < x.leases.harts → free_file h (home h) hart ≡ least_free x.leases hart
  same_least hart low = sym (same_free x h hart stands (in_world hart low))

  -- it takes a guest file of a hart, where one is free, and is refused where none is
  taken_in : (want : Want) (new old : Stay) (hart : ℕ) (moving : GuestPlace → Moving) (o : Option ℕ) → Put x y who new
      → (record_of x (vcpu_of who.found.vm who.found.vcpu)).stay ≡ old → hart < x.leases.harts → least_free x.leases hart ≡ o
      → refusal h (lines.Move who.found.vm who.found.vcpu want) ≡ cond (is_none o) (Some (Refused words.NoFile)) None
      → ((plan : PlanState) (to : GuestPlace) → Given x y h (vcpu_of who.found.vm who.found.vcpu) who plan
      (at_stay (record_of x (vcpu_of who.found.vm who.found.vcpu)) (stays.Moving plan)) → IsFreeAt x h hart to
      → y.leases ≡ with_out x.leases to true → moving_of plan ≡ moving to
      → CoreStands y (Began (wanted_move (vcpu_of who.found.vm who.found.vcpu) want) ∷ h))
      → BeginsIn o hart moving old new x.leases y.leases given → Answered x y h who.found.vm who.found.vcpu want given
  taken_in want new old hart moving None p was low found is begun b = refused want words.NoFile new old p was b is
  taken_in want (stays.Moving plan) old hart moving (Some file) p was low found is begun b = (
    None,
    is,
    b.0,
    begun plan (guest_place hart file) (planned plan p b.1.1)
        (free_there x h hart (guest_place hart file) stands (in_world hart low) found refl) b.2 b.1.0,
    λ word e. absurd (none-some word e),
  )
  taken_in want new old hart moving (Some file) p was low found is begun b = absurd b.1

  arrive_in : (new : Stay) (hart : ℕ) (kept : KeptNumbers) → Put x y who new
      → (record_of x (vcpu_of who.found.vm who.found.vcpu)).stay ≡ stays.InMemory Parked kept → hart < x.leases.harts
      → ArriveFrom (Ok kept) who hart (stays.InMemory Parked kept) new x.leases y.leases given
      → Answered x y h who.found.vm who.found.vcpu (wants.Arrive hart) given
  arrive_in new hart kept p was low b = taken_in (wants.Arrive hart) new (stays.InMemory Parked kept) hart
      (λ to. record {
        who = who;
        home = OnWay (Inward to) at_first;
        hand =
            record empty_hand { delivery = kept.delivery; threshold = kept.threshold };
      }) (least_free x.leases hart) p was low refl
      (arrive_refused new (stays.InMemory Parked kept) hart true (least_free x.leases hart) p was (hart_low hart low) (same_least hart low))
      (λ plan to put free leases begins. arrive_begun x y h g hart who plan (at_stay (record_of x g) (stays.Moving plan)) to kept put free leases
      was begins) b

  arrive_answered : (new old : Stay) (hart : ℕ) → Put x y who new → (record_of x (vcpu_of who.found.vm who.found.vcpu)).stay ≡ old
      → hart < x.leases.harts → ArriveBegins who hart old new x.leases y.leases given
      → Answered x y h who.found.vm who.found.vcpu (wants.Arrive hart) given
  arrive_answered new old hart p was low b = by (parked_at old) refl b
    where
      by : (r : Result KeptNumbers Refusal) → parked_at old ≡ r → ArriveFrom r who hart old new x.leases y.leases given
          → Answered x y h who.found.vm who.found.vcpu (wants.Arrive hart) given
      by (Ok kept) is b = let same = parked_is old kept is in
          arrive_in new hart kept p (was ∙ same) low (subst (λ s. ArriveFrom (Ok kept) who hart s new x.leases y.leases given) same b)
      by (Err word) is b = refused (wants.Arrive hart) word new old p was b
          (arrive_refused new old hart true (free_file h (home h) hart) p was (hart_low hart low) refl
          ∙ word_is x.world g old word (cond (is_none (free_file h (home h) hart)) (Some (Refused words.NoFile)) None)
          (subst (PlanStands x.world g) was (stands.vcpus g (is_there new p)).plan) is)

  -- ---- a shift

  shift_refused : (new old : Stay) (hart : ℕ) (b : Bool) (o : Option ℕ) → Put x y who new
      → (record_of x (vcpu_of who.found.vm who.found.vcpu)).stay ≡ old → has_hart h hart ≡ b → free_file h (home h) hart ≡ o
      → refusal h (lines.Move who.found.vm who.found.vcpu (wants.Shift hart)) ≡ cond (not b) (Some (Refused words.Range))
      (cond (is_moving (home_in old)) (Some (Refused words.Busy))
      (cond (rests_in_memory (home_in old)) (Some (Refused words.Parked)) (cond (is_none o) (Some (Refused words.NoFile)) None)))
  shift_refused new old hart b o p was on free =
      let inside = is_there new p in
      let there = home_at x h g old stands inside was in
      shift_refusal h who.found.vm who.found.vcpu hart stands.there
      ∙ (λ k. cond (not (inside k && on k)) (Some (Refused words.Range))
      (cond (is_moving (there k)) (Some (Refused words.Busy))
      (cond (rests_in_memory (there k)) (Some (Refused words.Parked)) (cond (is_none (free k)) (Some (Refused words.NoFile)) None))))

  shift_answered : (new old : Stay) (hart : ℕ) → Put x y who new → (record_of x (vcpu_of who.found.vm who.found.vcpu)).stay ≡ old
      → hart < x.leases.harts → ShiftBegins who hart old new x.leases y.leases given
      → Answered x y h who.found.vm who.found.vcpu (wants.Shift hart) given
  shift_answered new (stays.Resident from) hart p was low b =
      taken_in (wants.Shift hart) new (stays.Resident from) hart
      (λ to. record { who = who; home = OnWay (Across from to) at_first; hand = empty_hand }) (least_free x.leases hart) p was low refl
      (shift_refused new (stays.Resident from) hart true (least_free x.leases hart) p was (hart_low hart low) (same_least hart low))
      (λ plan to put free leases begins. shift_begun x y h g hart who plan (at_stay (record_of x g) (stays.Moving plan)) from to put free leases
      was begins) b
  shift_answered new (stays.InMemory rest kept) hart p was low b = refused (wants.Shift hart) words.Parked new (stays.InMemory rest kept) p was b
      (shift_refused new (stays.InMemory rest kept) hart true (free_file h (home h) hart) p was (hart_low hart low) refl)
  shift_answered new (stays.Moving plan) hart p was low b = refused (wants.Shift hart) words.Busy new (stays.Moving plan) p was b
      (shift_refused new (stays.Moving plan) hart true (free_file h (home h) hart) p was (hart_low hart low) refl
      ∙ ap (λ m. cond m (Some (Refused words.Busy)) (cond (rests_in_memory (moving_of plan).home) (Some (Refused words.Parked))
      (cond (is_none (free_file h (home h) hart)) (Some (Refused words.NoFile)) None))) (on_the_move new plan p was))

  -- ---- any of the three

  pub want_answered : (want : Want) (new : Stay) → Put x y who new
      → WantBegins want who (record_of x (vcpu_of who.found.vm who.found.vcpu)).stay new x.leases y.leases given
      → Answered x y h who.found.vm who.found.vcpu want given
  want_answered wants.Leave new p b = leave_answered new (record_of x g).stay p refl b
  want_answered (wants.Arrive hart) new p b = elim (cases_lt hart x.leases.harts) [
    | inl low ↦ arrive_answered new (record_of x g).stay hart p refl low (b.0 low)
    | inr past ↦ refused (wants.Arrive hart) words.Range new (record_of x g).stay p refl (b.1 past)
        (arrive_refused new (record_of x g).stay hart false (free_file h (home h) hart) p refl (hart_past hart past) refl)
  ]
  want_answered (wants.Shift hart) new p b = elim (cases_lt hart x.leases.harts) [
    | inl low ↦ shift_answered new (record_of x g).stay hart p refl low (b.0 low)
    | inr past ↦ refused (wants.Shift hart) words.Range new (record_of x g).stay p refl (b.1 past)
        (shift_refused new (record_of x g).stay hart false (free_file h (home h) hart) p refl (hart_past hart past) refl)
  ]

-- so the call that has put it elsewhere begins the move, or refuses it
pub want_begins : (x y : CoreState) (want : Want) (who : Who) (new : Stay) (given : Answer) → Put x y who new
    → WantBegins want who (record_of x (vcpu_of who.found.vm who.found.vcpu)).stay new x.leases y.leases given
    → MoveBegins x y who.found.vm who.found.vcpu want given
want_begins x y want who new given p b = move_answered x y who.found.vm who.found.vcpu want given
    (λ h stands. want_answered x y who given h stands want new p b)

-- ---- a virtual hart that isn't there

no_one : (h : History) (vm vcpu : ℕ) (want : Want) → has_machine h ≡ true → has_vcpu h (vcpu_of vm vcpu) ≡ false
    → refusal h (lines.Move vm vcpu want) ≡ Some (Refused words.Range)
no_one h vm vcpu wants.Leave there none = leave_refusal h vm vcpu there ∙ cond-true _ _ _ (ap not none)
no_one h vm vcpu (wants.Arrive hart) there none = arrive_refusal h vm vcpu hart there
    ∙ cond-true _ _ _ (ap (λ b. not (b && has_hart h hart)) none)
no_one h vm vcpu (wants.Shift hart) there none = shift_refusal h vm vcpu hart there ∙ cond-true _ _ _ (ap (λ b. not (b && has_hart h hart)) none)

pub no_move : (x : CoreState) (vm vcpu : ℕ) (want : Want) → is_vcpu_in x.world.vms (vcpu_of vm vcpu) ≡ false
    → MoveBegins x x vm vcpu want (Refused words.Range)
no_move x vm vcpu want none = move_answered x x vm vcpu want (Refused words.Range) (λ h stands. (
  Some (Refused words.Range),
  no_one h vm vcpu want stands.there (subst (λ (vs : List Vm). is_vcpu_in vs (vcpu_of vm vcpu) ≡ false) stands.vms none),
  refl,
  stands,
  λ word e. refl,
))

-- it stands for some history still
begun_happens : (word : Option Answer) (h : History) (vm vcpu : ℕ) (want : Want) → refusal h (lines.Move vm vcpu want) ≡ word → IsHistory h
    → IsHistory (move_begun word h (wanted_move (vcpu_of vm vcpu) want))
begun_happens None h vm vcpu want e good = (may_begin h vm vcpu want e, good)
begun_happens (Some word) h vm vcpu want e good = good

pub begins_still : (x y : CoreState) (vm vcpu : ℕ) (want : Want) (given : Answer) → MoveBegins x y vm vcpu want given → StandsForSome x
    → StandsForSome y
begins_still x y vm vcpu want given begins some = record {
  past = move_begun (refusal some.past (lines.Move vm vcpu want)) some.past (wanted_move (vcpu_of vm vcpu) want);
  happens = begun_happens (refusal some.past (lines.Move vm vcpu want)) some.past vm vcpu want refl some.happens;
  stands = begins.begins some.past some.stands;
}
