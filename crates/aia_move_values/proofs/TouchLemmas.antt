-- A step of a move touches only its own.
use Rattle.std.proofs.Common.{◌≡◌, ◌≢◌, ℕ, ◌+◌, ◌*◌, ◌<◌, ◌≤◌, Bool, true, false, nat_lt, length, get_or, Option, Some, None, inl, inr, ◌⊎◌, refl, sym, ap, ◌∙◌, subst, arith}
use Rattle.std.proofs.Math.ListN.{set}
use Rattle.std.proofs.lemmas.Bool.{cases_eq, cases_lt, ltb-true}
use Rattle.std.proofs.lemmas.List.{get_or-set_other}
use Rattle.std.specs.Prelude.{bit_or}
use Rattle.aia_file.specs.InterruptFile.{empty_file}
use Rattle.aia_file.specs.FileState.{FileState, shown}
use Rattle.aia_file.specs.declared.spot.Spot.TheVariants.{MachineFile, SupervisorFile}
use Rattle.aia_file.specs.Imsic.{ImsicState, IsThere, file_at}
use Rattle.aia_file.proofs.PlaceLemmas.{kept_elsewhere}
use Rattle.aia_file.specs.Mrif.{mrif_in, pending_place, enable_place}
use Rattle.aia_file.proofs.SlotLemmas.{other_words}
use Rattle.aia_entry.specs.Tables.{table_of, entry_in_force}
use Rattle.aia_entry.proofs.TableLemmas.{fenced_elsewhere, fenced_mask, fenced_start, fenced_count}
use Rattle.aia_vcpu.specs.declared.place.GuestPlace.{GuestPlace}
use Rattle.aia_vcpu.specs.Vms.{Vcpu, vcpu_of, is_vcpu_in, slot_of}
use Rattle.aia_vcpu.specs.Home.{Way, Home, Progress, left, led_to, is_file, end_at, holds}
use Rattle.aia_vcpu.specs.Home.Home.{OnWay}
use Rattle.aia_vcpu.specs.BySteps.{own_file, next_file}
use Rattle.aia_vcpu.specs.Plans.{IsNext}
use Rattle.aia_vcpu.specs.declared.access.Access.{Access}
use Rattle.aia_vcpu.specs.declared.access.Access.TheVariants.{TakeDelivery, PutDelivery, WriteNotice, WriteEntry, Fence, TakePending, PutPending, TakeEnables, PutEnables, Look, TakeThreshold, PutThreshold, Post}
use Rattle.aia_vcpu.proofs.HomeLemmas.{left_is_own, led_to_is_held, own_is_held, next_is_held, origin_is_held, new_is_held}
use Rattle.aia_vcpu.proofs.VmLemmas.{same_slot}
use Rattle.aia_vcpu_places.specs.Places.{entry_word, second_word}
use Rattle.aia_vcpu_places.specs.Holds.{Hand}
use Rattle.aia_fabric_values.specs.declared.stage.Stage.{Stage}
use Rattle.aia_fabric_values.specs.World.{World, stage_of, no_stage}
use Rattle.aia_fabric_values.specs.Whole.{IsWhole}
use Rattle.aia_fabric_values.specs.Making.{entry_word_place}
use Rattle.aia_fabric_values.specs.Stores.{Posts}
use Rattle.aia_fabric_values.specs.Changes.{spot_of, file_in, pending_at, with_pending, with_enable, with_word, with_state, with_entry_word, with_fence, with_stage}
use Rattle.aia_move_values.specs.Views.{places_of}
use Rattle.aia_fabric_values.proofs.FrameLemmas.{posts_rest}
use Rattle.aia_fabric_values.proofs.WholeLemmas.{vcpu_entry, notice_hart_there}
use Rattle.aia_move_values.specs.declared.who.Who.{Who}
use Rattle.aia_move_values.specs.Move.{Moving, mover, width, spot_in, place_at, PostsIf, Makes, MoveFits, MakesNext}
use Rattle.aia_move_values.specs.Touches.{Touches, sends}
use Rattle.aia_move_values.proofs.ViewLemmas.{same_place, slot_low}
use Rattle.aia_move_values.proofs.MadeView.{few_words}
use Rattle.aia_regs.specs.declared.limits.TheConstants.{SLOTS, ENTRIES, FILE_WORDS}

-- a word of the entries is of one entry
pub one_entry : (a b c d x y : ℕ) → b < ENTRIES → d < ENTRIES → x ≤ 1 → y ≤ 1 → entry_word_place a b + x ≡ entry_word_place c d + y
    → (a ≡ c) × (b ≡ d)
one_entry a b c d x y low small one two e = (omega arith, omega arith)

-- ---- what the changes leave

module _ (w u : World) (m : Moving) where
  abbrev TouchesOwn : World → Type 0
  TouchesOwn x = Touches false w x m

  pub touches_nothing : u ≡ w → Touches false w u m
  touches_nothing e = subst TouchesOwn (sym e) (record {
    rest = refl;
    tables = refl;
    masks = λ v. refl;
    starts = λ v. refl;
    guest_files = λ p there none. refl;
    machine_files = λ hart low. refl;
    host_files = λ hart low other. refl;
    noticed = λ no. absurd (cc);
    count = λ no. refl;
    slots = λ r low other. refl;
    entry_words = λ g there other. (refl, refl);
    in_force = λ g other. refl;
    stages = λ q other. refl;
  })

  held_apart : (there : Home) (r p : GuestPlace) → holds r there ≡ false → holds p there ≡ true → spot_of r ≢ spot_of p
  held_apart there r p none some e = let no : false ≡ true = sym none ∙ ap (λ (x : GuestPlace). holds x there) (same_place r p e)
      ∙ some in absurd (cc)

  pub touches_file : (p : GuestPlace) (f : FileState) → IsThere w.imsic (spot_of p) → holds p m.home ≡ true → u ≡ with_state w (spot_of p) f
      → Touches false w u m
  touches_file p f stands held e = subst TouchesOwn (sym e) (record {
    rest = refl;
    tables = refl;
    masks = λ v. refl;
    starts = λ v. refl;
    guest_files = λ r there none. kept_elsewhere w.imsic (spot_of p) (spot_of r) f stands there (held_apart m.home r p none held);
    machine_files = λ hart low. kept_elsewhere w.imsic (spot_of p) (MachineFile hart) f stands low (λ e. absurd (cc));
    host_files = λ hart low other. kept_elsewhere w.imsic (spot_of p) (SupervisorFile hart) f stands low (λ e. absurd (cc));
    noticed = λ no. absurd (cc);
    count = λ no. refl;
    slots = λ r low other. refl;
    entry_words = λ g there other. (refl, refl);
    in_force = λ g other. refl;
    stages = λ q other. refl;
  })

  -- a word of memory: one of the slot, or one of the entry
  touches_word : (place v : ℕ) → ((r : ℕ) → r < SLOTS → r ≢ m.who.found.slot → (place < 64 * r) ⊎ (64 * (r + 1) ≤ place))
      → ((g : Vcpu) → is_vcpu_in w.vms g ≡ true → g ≢ mover m → (entry_word_place g.vm g.vcpu ≢ place)
      × (entry_word_place g.vm g.vcpu + 1 ≢ place))
      → u ≡ with_word w place v → Touches false w u m
  touches_word place v apart past e = subst TouchesOwn (sym e) (record {
    rest = refl;
    tables = refl;
    masks = λ x. refl;
    starts = λ x. refl;
    guest_files = λ r there none. refl;
    machine_files = λ hart low. refl;
    host_files = λ hart low other. refl;
    noticed = λ no. absurd (cc);
    count = λ no. refl;
    slots = λ r low other. other_words w.memory r place v (apart r low other);
    entry_words = λ g there other. (
      get_or-set_other w.memory place (entry_word_place g.vm g.vcpu) v 0 (past g there other).0,
      get_or-set_other w.memory place (entry_word_place g.vm g.vcpu + 1) v 0 (past g there other).1,
    );
    in_force = λ g other. refl;
    stages = λ q other. refl;
  })

  module _ (whole : IsWhole w) (stands : is_vcpu_in w.vms (mover m) ≡ true) where
    pub touches_slot : (place j v : ℕ) → place ≡ 64 * m.who.found.slot + j → m.who.found.slot < SLOTS → j < 64 → u ≡ with_word w place v
        → Touches false w u m
    touches_slot place j v at low few e = touches_word place v
        (λ r small other. elim (cases_lt r m.who.found.slot) [
          | inl less ↦ inr (omega arith)
          | inr more ↦ inl (omega (arith, other))
        ])
        (λ g there other. (λ same. omega arith, λ same. omega arith)) e

    pub touches_entry : (which v : ℕ) → which ≤ 1 → u ≡ with_entry_word w m.who.found.vm m.who.found.vcpu which v → Touches false w u m
    touches_entry which v one e = touches_word (entry_word_place m.who.found.vm m.who.found.vcpu + which) v
        (λ r small other. inr (omega arith)) apart e
      where
        apart : (g : Vcpu) → is_vcpu_in w.vms g ≡ true → g ≢ mover m
            → (entry_word_place g.vm g.vcpu ≢ entry_word_place m.who.found.vm m.who.found.vcpu + which)
            × (entry_word_place g.vm g.vcpu + 1 ≢ entry_word_place m.who.found.vm m.who.found.vcpu + which)
        apart g there other =
            let mine = vcpu_entry w m.who.found.vm m.who.found.vcpu whole stands in
            let its = vcpu_entry w g.vm g.vcpu whole there in (
              λ same. let zero : entry_word_place g.vm g.vcpu + 0 ≡ entry_word_place m.who.found.vm m.who.found.vcpu + which =
                  omega (arith, same) in
                  let both = one_entry g.vm g.vcpu m.who.found.vm m.who.found.vcpu 0 which its.2 mine.2 (omega arith) one zero in
                  other (λ k. vcpu_of (both.0 k) (both.1 k)),
              λ same. let both = one_entry g.vm g.vcpu m.who.found.vm m.who.found.vcpu 1 which its.2 mine.2 (omega arith) one same in
                  other (λ k. vcpu_of (both.0 k) (both.1 k)),
            )

    pub touches_fence : u ≡ with_fence w m.who.found.vm m.who.found.vcpu → Touches false w u m
    touches_fence e = subst TouchesOwn (sym e) (record {
      rest = refl;
      tables = fenced_count w.tables m.who.found.vm m.who.found.vcpu w.memory;
      masks = λ v. fenced_mask w.tables m.who.found.vm m.who.found.vcpu w.memory v;
      starts = λ v. fenced_start w.tables m.who.found.vm m.who.found.vcpu w.memory v;
      guest_files = λ r there none. refl;
      machine_files = λ hart low. refl;
      host_files = λ hart low other. refl;
      noticed = λ no. absurd (cc);
      count = λ no. refl;
      slots = λ r low other. refl;
      entry_words = λ g there other. (refl, refl);
      in_force = λ g other. fenced_elsewhere w.tables m.who.found.vm m.who.found.vcpu w.memory g.vm g.vcpu (elsewhere g other);
      stages = λ q other. refl;
    })
      where
        elsewhere : (g : Vcpu) → g ≢ mover m → (g.vm ≢ m.who.found.vm) ⊎ (g.vcpu ≢ m.who.found.vcpu)
        elsewhere g other = elim (cases_eq g.vm m.who.found.vm) [
          | inl same ↦ inr (λ too. other (λ k. vcpu_of (same k) (too k)))
          | inr ne ↦ inl ne
        ]

    pub touches_stage : (s : Stage) → u ≡ with_stage w (mover m) s → Touches false w u m
    touches_stage s e = subst TouchesOwn (sym e) (record {
      rest = refl;
      tables = refl;
      masks = λ v. refl;
      starts = λ v. refl;
      guest_files = λ r there none. refl;
      machine_files = λ hart low. refl;
      host_files = λ hart low other. refl;
      noticed = λ no. absurd (cc);
      count = λ no. refl;
      slots = λ r low other. refl;
      entry_words = λ g there other. (refl, refl);
      in_force = λ g other. refl;
      stages = λ q other. get_or-set_other w.stages (slot_of w.vms (mover m)) q s no_stage other;
    })

  pub touches_notice : m.who.found.notice < w.imsic.harts → Posts w u (SupervisorFile m.who.found.notice) (m.who.found.slot + 1) → Touches true w u m
  touches_notice low p = record {
    rest = (posts_rest w u (SupervisorFile m.who.found.notice) (m.who.found.slot + 1) p)
        ∙ (λ k. record w {
          imsic = record w.imsic { files = u.imsic.files };
          memory = u.memory;
          tables =
              sym (ap (λ (x : World). x.tables) p.rest) k;
          stages = sym (ap (λ (x : World). x.stages) p.rest) k;
          notices = u.notices;
        });
    tables = ap (λ (x : World). length x.tables) p.rest;
    masks = λ v. ap (λ (x : World). (table_of x.tables v).mask) p.rest;
    starts = λ v. ap (λ (x : World). (table_of x.tables v).start) p.rest;
    guest_files = λ r there none. ap (λ (j : ImsicState). file_at j (spot_of r)) p.lands.others
        ∙ kept_elsewhere w.imsic (SupervisorFile m.who.found.notice) (spot_of r) (file_at u.imsic (SupervisorFile m.who.found.notice)) low there
        (λ e. absurd (cc));
    machine_files = λ hart small. ap (λ (j : ImsicState). file_at j (MachineFile hart)) p.lands.others
        ∙ kept_elsewhere w.imsic (SupervisorFile m.who.found.notice) (MachineFile hart) (file_at u.imsic (SupervisorFile m.who.found.notice)) low
        small (λ e. absurd (cc));
    host_files = λ hart small which. elim which [
      | inl never ↦ absurd (cc)
      | inr other ↦ ap (λ (j : ImsicState). file_at j (SupervisorFile hart)) p.lands.others
          ∙ kept_elsewhere w.imsic (SupervisorFile m.who.found.notice) (SupervisorFile hart)
          (file_at u.imsic (SupervisorFile m.who.found.notice)) low small (λ e. let same : hart ≡ m.who.found.notice = cc in other same)
    ];
    noticed = λ yes. p;
    count = λ no. absurd (cc);
    slots = λ r small other. ap (λ (x : World). mrif_in x.memory r) p.rest;
    entry_words = λ g there other. (
      ap (λ (x : World). get_or x.memory (entry_word_place g.vm g.vcpu) 0) p.rest,
      ap (λ (x : World). get_or x.memory (entry_word_place g.vm g.vcpu + 1) 0) p.rest,
    );
    in_force = λ g other. ap (λ (x : World). entry_in_force (table_of x.tables g.vm) g.vcpu) p.rest;
    stages = λ q other. ap (λ (x : World). get_or x.stages q no_stage) p.rest;
  }

  pub touches_notice_if : (seen : Bool) → m.who.found.notice < w.imsic.harts → PostsIf seen w u m.who.found.notice (m.who.found.slot + 1)
      → Touches seen w u m
  touches_notice_if true low p = touches_notice low p
  touches_notice_if false low e = touches_nothing e

-- ---- each move

of_width : (w : World) (k : ℕ) → IsWhole w → nat_lt k (width w) ≡ true → k < FILE_WORDS
of_width w k whole e = let low : k < width w = ltb-true _ _ e in let few = few_words w.n whole.greatest in omega (arith, low, few)

module _ (w u : World) (who : Who) (way : Way) (at : Progress) (hand : Hand) (whole : IsWhole w)
    (fits : MoveFits w (record { who = who; home = OnWay way at; hand = hand })) where
  abbrev it : Moving
  it = record { who = who; home = OnWay way at; hand = hand }

  slot_few : who.found.slot < SLOTS
  slot_few = let small = slot_low w (vcpu_of who.found.vm who.found.vcpu) whole fits.there in omega (arith, small, fits.slot)

  -- an end of the move, if it is a guest file, is there, and the move holds it
  abbrev IsEnd : Option GuestPlace → Type 0
  IsEnd end = (p : GuestPlace) → end ≡ Some p → IsThere w.imsic (spot_of p) × (holds p (OnWay way at) ≡ true)

  old_is : IsEnd (left way)
  old_is p e = (fits.own p (left_is_own way p e), origin_is_held (OnWay way at) p e)

  new_is : IsEnd (led_to way)
  new_is p e = (elim (led_to_is_held way p e) [ inl own ↦ fits.own p own | inr next ↦ fits.next p next ], new_is_held (OnWay way at) p e)

  -- a register of an end, a word of its pending set, of its enabled set
  touches_register : (end : Option GuestPlace) → IsEnd end → is_file (end_at end) ≡ true
      → u ≡ with_state w (spot_in end) (file_at u.imsic (spot_in end)) → Touches false w u it
  touches_register None is has e = absurd (cc)
  touches_register (Some p) is has e = let there = is p refl in touches_file w u it p (file_at u.imsic (spot_of p)) there.0 there.1 e

  touches_pending : (end : Option GuestPlace) (k v : ℕ) → IsEnd end → nat_lt k (width w) ≡ true
      → u ≡ with_pending w (place_at end who.found.slot) k v → Touches false w u it
  touches_pending None k v is has e = let few = of_width w k whole has in
      touches_slot w u it whole fits.there (pending_place who.found.slot k) (2 * k) v (omega arith) slot_few (omega arith) e
  touches_pending (Some p) k v is has e = let there = is p refl in
      touches_file w u it p (record (file_at w.imsic (spot_of p)) { pending = set (file_at w.imsic (spot_of p)).pending k v }) there.0 there.1 e

  touches_enables : (end : Option GuestPlace) (k v : ℕ) → IsEnd end → nat_lt k (width w) ≡ true
      → u ≡ with_enable w (place_at end who.found.slot) k v → Touches false w u it
  touches_enables None k v is has e = let few = of_width w k whole has in
      touches_slot w u it whole fits.there (enable_place who.found.slot k) (2 * k + 1) v (omega arith) slot_few (omega arith) e
  touches_enables (Some p) k v is has e = let there = is p refl in
      touches_file w u it p (record (file_at w.imsic (spot_of p)) { enabled = set (file_at w.imsic (spot_of p)).enabled k v }) there.0 there.1 e

  touches_by : (access : Access) → IsNext (width w) (OnWay way at) access → Makes access it w u → Touches (sends access hand) w u it
  touches_by WriteNotice next makes = touches_entry w u it whole fits.there 1 (second_word who.found.slot who.found.notice) (omega arith) makes
  touches_by WriteEntry next makes = touches_entry w u it whole fits.there 0 (entry_word who.found.slot (led_to way)) (omega arith) makes
  touches_by Fence next makes = touches_fence w u it whole fits.there makes
  touches_by TakeDelivery next makes = touches_register (left way) old_is next.has makes.others
  touches_by TakeThreshold next makes = touches_register (left way) old_is next.has makes.others
  touches_by PutDelivery next makes = touches_register (led_to way) new_is next.has makes.others
  touches_by PutThreshold next makes = touches_register (led_to way) new_is next.has makes.others
  touches_by (TakePending k) next makes = touches_pending (left way) k 0 old_is next.has makes
  touches_by (PutPending k) next makes = touches_pending (led_to way) k (bit_or (pending_at w (place_at (led_to way) who.found.slot) k) hand.word)
      new_is next.has makes.1
  touches_by (TakeEnables k) next makes = touches_enables (left way) k 0 old_is next.has makes
  touches_by (PutEnables k) next makes = touches_enables (led_to way) k hand.word new_is next.has makes.1
  touches_by (Look k) next makes = touches_nothing w u it makes
  touches_by Post next makes =
      let low : who.found.notice < w.imsic.harts = let small = notice_hart_there w (vcpu_of who.found.vm who.found.vcpu) whole fits.there in
      omega (arith, small, fits.notice) in
      touches_notice_if w u it hand.seen low makes
  touches_by access next makes = touches_stage w u it whole fits.there _ makes

touches_at : (access : Access) (w u : World) (who : Who) (there : Home) (hand : Hand) → IsWhole w
    → MoveFits w (record { who = who; home = there; hand = hand }) → IsNext (width w) there access
    → Makes access (record { who = who; home = there; hand = hand }) w u
    → Touches (sends access hand) w u (record { who = who; home = there; hand = hand })
touches_at access w u who (OnWay way at) hand whole fits next makes = touches_by w u who way at hand whole fits access next makes
touches_at access w u who there hand whole fits next makes = let no : false ≡ true = next.has in absurd (cc)

-- a step touches only its own
pub step_touches : (w u : World) (m : Moving) (hand : Hand) → IsWhole w → MoveFits w m → (step : MakesNext w m u hand)
    → Touches (sends step.access m.hand) w u m
step_touches w u m hand whole fits step = touches_at step.access w u m.who m.home m.hand whole fits step.is_next step.makes

-- ---- so the places of others stay

file_stays : (sent : Bool) (w u : World) (m : Moving) (o : Option GuestPlace) → Touches sent w u m
    → ((p : GuestPlace) → o ≡ Some p → IsThere w.imsic (spot_of p) × (holds p m.home ≡ false)) → file_in u o ≡ file_in w o
file_stays sent w u m None t others = ap (λ n. empty_file n) (ap (λ (x : World). x.n) t.rest)
file_stays sent w u m (Some p) t others = let other = others p refl in ap shown (t.guest_files p other.0 other.1)

pub view_stays : (sent : Bool) (w u : World) (m : Moving) (g : Vcpu) (there : Home) → IsWhole w → MoveFits w m → Touches sent w u m
    → is_vcpu_in w.vms g ≡ true → g ≢ mover m
    → ((p : GuestPlace) → holds p there ≡ true → IsThere w.imsic (spot_of p) × (holds p m.home ≡ false)) → places_of u g there ≡ places_of w g there
view_stays sent w u m g there whole fits t stands other theirs =
    let own = file_stays sent w u m (own_file there) t (λ p e. theirs p (own_is_held there p e)) in
    let next = file_stays sent w u m (next_file there) t (λ p e. theirs p (next_is_held there p e)) in
    let apart : slot_of w.vms g ≢ slot_of w.vms (mover m) = λ e. other (same_slot w.vms g (mover m) stands fits.there e) in
    let slot = ap (λ (x : World). mrif_in u.memory (slot_of x.vms g)) t.rest
    ∙ t.slots (slot_of w.vms g) (slot_low w g whole stands) (λ e. apart (e ∙ fits.slot)) in
    let words = t.entry_words g stands other in
    let entry = t.in_force g other in
    let stage : stage_of u g ≡ stage_of w g = ap (λ (x : World). get_or u.stages (slot_of x.vms g) no_stage) t.rest
    ∙ t.stages (slot_of w.vms g) apart in
    λ k. record {
      own = own k;
      next = next k;
      slot = slot k;
      word0 = words.0 k;
      word1 = words.1 k;
      in_force = entry k;
      stage = (stage k).written;
      stage_in_force = (stage k).in_force;
    }

-- the virtual hart that is moved has its slot and notice hart still, and its files are there
pub there_still : (sent : Bool) (w u : World) (m : Moving) (p : GuestPlace) → Touches sent w u m → IsThere w.imsic (spot_of p)
    → IsThere u.imsic (spot_of p)
there_still sent w u m p t stands = (
  omega (arith, stands.0, ap (λ (x : World). x.imsic.harts) t.rest),
  stands.1,
  omega (arith, stands.2, ap (λ (x : World). x.imsic.guests) t.rest),
)
