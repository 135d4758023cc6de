-- A step of a move: what its access leaves, and that the next step can be made.
use Rattle.std.proofs.Common.{◌≡◌, ℕ, ◌+◌, ◌*◌, ◌/◌, ◌<◌, ◌≤◌, Bool, true, false, List, refl, sym, ap, ◌∙◌, subst, arith}
use Rattle.std.proofs.lemmas.Bool.{lt-ltb, ne_eqb}
use Rattle.aia_word.specs.Sets.{has_bit}
use Rattle.aia_regs.specs.declared.file_registers.FileReg.{FileReg}
use Rattle.aia_file.specs.declared.spot.Spot.{Spot}
use Rattle.aia_file.specs.Imsic.{ImsicState, IsThere}
use Rattle.aia_vcpu.specs.declared.place.GuestPlace.{GuestPlace}
use Rattle.aia_vcpu.specs.declared.vm.Vm.{Vm}
use Rattle.aia_vcpu.specs.Vms.{is_vcpu_in, slot_of, notice_hart}
use Rattle.aia_vcpu.specs.declared.end.End.{End}
use Rattle.aia_vcpu.specs.declared.end.End.TheVariants as ends
use Rattle.aia_vcpu.specs.Home.{Home, new_end, one_more}
use Rattle.aia_vcpu.specs.Plans.{is_at_last, is_last_made, steps_done, has_access, step_of, IsNext, first_take, pending_step, enables_step}
use Rattle.aia_vcpu.specs.declared.access.Access.{Access}
use Rattle.aia_vcpu.specs.Home.Home.{OnWay}
use Rattle.aia_vcpu.specs.declared.access.Access.TheVariants.{TakeDelivery, PutDelivery, Fence, TakePending, PutPending, TakeEnables, PutEnables, TakeThreshold, PutThreshold, Post}
use Rattle.aia_vcpu.specs.Phases.{begins}
use Rattle.aia_vcpu.specs.Phases.Phase.{AllDone}
use Rattle.aia_vcpu.specs.BySteps.{own_file, next_file}
use Rattle.aia_vcpu.proofs.PlanLemmas.{next_in_plan, one_a_step, last_access, last_is}
use Rattle.aia_vcpu.proofs.PhaseLemmas.{carried_pending, carried_enables}
use Rattle.aia_vcpu.proofs.RouteLemmas.{is_fence, fence_is_next}
use Rattle.aia_vcpu_places.specs.Holds.{Hand}
use Rattle.aia_fabric_values.specs.declared.at.At.{At}
use Rattle.aia_fabric_values.specs.declared.at.At.TheVariants.{File, Slot}
use Rattle.aia_fabric_values.specs.World.{World}
use Rattle.aia_fabric_values.specs.Changes.{PutsRegister, spot_of, with_pending, with_enable}
use Rattle.aia_move_values.specs.Move.{Moving, mover, width, old_at, new_at, PostsIf, Makes, hand_after, MoveFits, Ends}
use Rattle.aia_move_values.specs.Accesses.{TakesNoZero, Executes, ExecutesNext}
use Rattle.aia_move_values.specs.Turns.{GoesOn}
use Rattle.aia_move_values.specs.Touches.{SameMachine}
use Rattle.aia_move_values.specs.Landings.{OnceLanded}
use Rattle.aia_move_values.proofs.LandingLemmas.{all_first, none_lands}

-- ---- what an access leaves

by_equation : (w u x : World) → SameMachine w x → u ≡ x → SameMachine w u
by_equation w u x kept e = subst (λ y. SameMachine w y) (sym e) kept

register_kept : (w u : World) (spot : Spot) (reg : FileReg) (v : ℕ) → PutsRegister w u spot reg v → SameMachine w u
register_kept w u spot reg v puts = by_equation w u _ (record { n = refl; vms = refl; harts = refl; guests = refl }) puts.others

pending_kept : (w : World) (at : At) (k v : ℕ) → SameMachine w (with_pending w at k v)
pending_kept w (File spot) k v = record { n = refl; vms = refl; harts = refl; guests = refl }
pending_kept w (Slot q) k v = record { n = refl; vms = refl; harts = refl; guests = refl }

enable_kept : (w : World) (at : At) (k v : ℕ) → SameMachine w (with_enable w at k v)
enable_kept w (File spot) k v = record { n = refl; vms = refl; harts = refl; guests = refl }
enable_kept w (Slot q) k v = record { n = refl; vms = refl; harts = refl; guests = refl }

pub post_kept : (w u : World) (seen : Bool) (hart identity : ℕ) → PostsIf seen w u hart identity → SameMachine w u
post_kept w u true hart identity p = record {
  n = ap (λ (x : World). x.n) p.rest;
  vms = ap (λ (x : World). x.vms) p.rest;
  harts = ap (λ (i : ImsicState). i.harts) p.lands.others;
  guests = ap (λ (i : ImsicState). i.guests) p.lands.others;
}
post_kept w u false hart identity e = by_equation w u w (record { n = refl; vms = refl; harts = refl; guests = refl }) e

access_keeps : (access : Access) (m : Moving) (w u : World) → Makes access m w u → SameMachine w u
access_keeps TakeDelivery m w u made = register_kept w u _ _ _ made
access_keeps PutDelivery m w u made = register_kept w u _ _ _ made
access_keeps (TakePending k) m w u made = by_equation w u _ (pending_kept w (old_at m) k _) made
access_keeps (PutPending k) m w u made = by_equation w u _ (pending_kept w (new_at m) k _) made.1
access_keeps (TakeEnables k) m w u made = by_equation w u _ (enable_kept w (old_at m) k _) made
access_keeps (PutEnables k) m w u made = by_equation w u _ (enable_kept w (new_at m) k _) made.1
access_keeps TakeThreshold m w u made = register_kept w u _ _ _ made
access_keeps PutThreshold m w u made = register_kept w u _ _ _ made
access_keeps Post m w u made = post_kept w u m.hand.seen m.who.found.notice (m.who.found.slot + 1) made
access_keeps access m w u made = by_equation w u _ (record { n = refl; vms = refl; harts = refl; guests = refl }) made

-- ---- one step more

-- it is the same move, and takes the enabled set after the pending set
record IsSame (words : ℕ) (there : Home) : Type 0 where
  pub steps : steps_done (one_more there) ≡ steps_done there + 1
  pub own : own_file (one_more there) ≡ own_file there
  pub next : next_file (one_more there) ≡ next_file there
  pub first : first_take (one_more there) ≡ first_take there
  pub second : step_of words (one_more there) (TakeEnables 0) ≡ step_of words there (TakeEnables 0)
  pub order : first_take there + 2 * words ≤ step_of words there (TakeEnables 0)

same_move : (words : ℕ) (there : Home) (access : Access) → has_access words there access ≡ true → IsSame words there
same_move words (OnWay way at) access has = record { steps = refl; own = refl; next = refl; first = refl; second = refl; order = omega arith }
same_move words there access has = absurd (cc)

-- a word 0 that is carried then has no identity 0
record HaveNoZero (w : World) (m t : Moving) : Type 0 where
  pub pending : steps_done m.home ≡ pending_step m.home 0 → has_bit t.hand.word 0 ≡ false
  pub enabled : steps_done m.home ≡ enables_step (width w) m.home 0 → has_bit t.hand.word 0 ≡ false

pub file_stays : (w u : World) (p : GuestPlace) → SameMachine w u → IsThere w.imsic (spot_of p) → IsThere u.imsic (spot_of p)
file_stays w u p kept is = (omega (arith, is.0, kept.harts), is.1, omega (arith, is.2, kept.guests))

one_step : (w u : World) (m t : Moving) (access : Access) → MoveFits w m → IsNext (width w) m.home access → Makes access m w u
    → t ≡ record m { home = one_more m.home; hand = hand_after access m w } → is_at_last (width w) m.home ≡ false → HaveNoZero w m t → GoesOn w m u t
one_step w u m t access fits next made is more zero = record {
  goes = record {
    step = record {
      access = access;
      is_next = next;
      in_table = next_in_plan (width w) m.home access next;
      makes = made;
      carries =
          ap (λ (x : Moving). x.hand) is;
    };
    more = more;
    home = home;
    same_who = who;
  };
  fits = record {
    there = rw (who, kept.vms) fits.there;
    slot = rw (who, kept.vms) fits.slot;
    notice = rw (who, kept.vms) fits.notice;
    own = λ p e. file_stays w u p kept (fits.own p (sym (ap own_file home ∙ same.own) ∙ e));
    next = λ p e. file_stays w u p kept (fits.next p (sym (ap next_file home ∙ same.next) ∙ e));
    no_pending_zero = λ e. zero.pending (omega (arith, steps, first, carried_pending (width u) 0 t.home e));
    no_enabled_zero = λ e. zero.enabled (omega (arith, steps, second, carried_enables (width u) 0 t.home e));
  };
  width = wide;
  steps = steps;
}
  where
    kept : SameMachine w u
    kept = access_keeps access m w u made

    same : IsSame (width w) m.home
    same = same_move (width w) m.home access next.has

    home : t.home ≡ one_more m.home
    home = ap (λ (x : Moving). x.home) is

    who : t.who ≡ m.who
    who = ap (λ (x : Moving). x.who) is

    wide : width u ≡ width w
    wide = ap (λ n. (n + 1) / 64) kept.n

    steps : steps_done t.home ≡ steps_done m.home + 1
    steps = ap steps_done home ∙ same.steps

    first : first_take t.home ≡ first_take m.home
    first = ap first_take home ∙ same.first

    second : step_of (width u) t.home (TakeEnables 0) ≡ step_of (width w) m.home (TakeEnables 0)
    second = ap (λ n. step_of n t.home (TakeEnables 0)) wide ∙ ap (λ h. step_of (width w) h (TakeEnables 0)) home ∙ same.second

-- ---- what a move needs, in another world of the same machine

pub fits_still : (w u : World) (m : Moving) → SameMachine w u → MoveFits w m → MoveFits u m
fits_still w u m same fits = record {
  there = subst (λ (vs : List Vm). is_vcpu_in vs (mover m) ≡ true) (sym same.vms) fits.there;
  slot = fits.slot ∙ ap (λ vs. slot_of vs (mover m)) (sym same.vms);
  notice = fits.notice ∙ ap (λ vs. notice_hart vs (mover m)) (sym same.vms);
  own = λ p e. file_stays w u p same (fits.own p e);
  next = λ p e. file_stays w u p same (fits.next p e);
  no_pending_zero = λ e. fits.no_pending_zero (sym (ap (λ n. is_last_made ((n + 1) / 64) m.home (TakePending 0)) same.n) ∙ e);
  no_enabled_zero = λ e. fits.no_enabled_zero (sym (ap (λ n. is_last_made ((n + 1) / 64) m.home (TakeEnables 0)) same.n) ∙ e);
}

-- ---- the next access is made

-- a word 0 that it takes has no identity 0
takes_pending : (words : ℕ) (there : Home) (access : Access) (word : ℕ) → 1 ≤ words → IsNext words there access → TakesNoZero access word
    → steps_done there ≡ pending_step there 0 → has_bit word 0 ≡ false
takes_pending words (OnWay way at) access word some next none e =
    let is : access ≡ TakePending 0 = one_a_step words (OnWay way at) access (TakePending 0) next.has (lt-ltb 0 words some)
    (sym next.step ∙ e ∙ omega arith) in
    subst (λ a. TakesNoZero a word) is none refl
takes_pending words there access word some next none e = let no : false ≡ true = next.has in absurd (cc)

takes_enables : (words : ℕ) (there : Home) (access : Access) (word : ℕ) → 1 ≤ words → IsNext words there access → TakesNoZero access word
    → steps_done there ≡ enables_step words there 0 → has_bit word 0 ≡ false
takes_enables words (OnWay way at) access word some next none e =
    let is : access ≡ TakeEnables 0 = one_a_step words (OnWay way at) access (TakeEnables 0) next.has (lt-ltb 0 words some)
    (sym next.step ∙ e ∙ omega arith) in
    subst (λ a. TakesNoZero a word) is none refl
takes_enables words there access word some next none e = let no : false ≡ true = next.has in absurd (cc)

unfinished : (words : ℕ) (there : Home) → steps_done there + 1 < begins words there AllDone → is_at_last words there ≡ false
unfinished words (OnWay way at) more = ne_eqb _ _ (λ e. omega (arith, e, more))
unfinished words there more = refl

module _ (w u : World) (m x t : Moving) (fits : MoveFits w m) (some : 1 ≤ width w) (next : ExecutesNext w m u x)
    (more : steps_done m.home + 1 < begins (width w) m.home AllDone) (one : t ≡ record x { home = one_more x.home }) where
  carries_on : (hand : Hand) → x.hand ≡ hand → t ≡ record m { home = one_more m.home; hand = hand }
  carries_on hand e = one ∙ (λ k. record { who = next.same_who k; home = one_more (next.same_home k); hand = e k })

  hand_is : t.hand ≡ x.hand
  hand_is = ap (λ (y : Moving). y.hand) one

  none_zero : (landed : World) → width landed ≡ width w → (access : Access) → IsNext (width w) m.home access → TakesNoZero access x.hand.word
      → HaveNoZero landed m t
  none_zero landed wide access is none = record {
    pending = λ e. subst (λ (h : Hand). has_bit h.word 0 ≡ false) (sym hand_is) (takes_pending (width w) m.home access x.hand.word some is none e);
    enabled = λ e. subst (λ (h : Hand). has_bit h.word 0 ≡ false) (sym hand_is)
        (takes_enables (width w) m.home access x.hand.word some is none (e ∙ ap (λ n. enables_step n m.home 0) wide));
  }

  at_the_fence : IsNext (width w) m.home Fence → Executes Fence m w u x.hand → OnceLanded w m (λ landed. GoesOn landed m u t)
  at_the_fence is made =
      let fences = made.makes in
      let first = all_first w u m fences (sym (fence_is_next (width w) m.home Fence is)) in
      let wide : width fences.landed ≡ width w = ap (λ n. (n + 1) / 64) first.same.n in
      record {
        landed = fences.landed;
        first = first;
        then = one_step fences.landed u m t Fence (fits_still w fences.landed m first.same fits)
            (subst (λ n. IsNext n m.home Fence) (sym wide) is) fences.fenced (carries_on m.hand made.carries)
            (subst (λ n. is_at_last n m.home ≡ false) (sym wide) (unfinished (width w) m.home more))
            (none_zero fences.landed wide Fence is made.no_zero);
      }

  elsewhere : (access : Access) → IsNext (width w) m.home access → is_fence access ≡ false → Makes access m w u → x.hand ≡ hand_after access m w
      → TakesNoZero access x.hand.word → OnceLanded w m (λ landed. GoesOn landed m u t)
  elsewhere access is other makes carries none =
      none_lands w m (λ landed. GoesOn landed m u t) (sym (fence_is_next (width w) m.home access is) ∙ other)
      (one_step w u m t access fits is makes (carries_on (hand_after access m w) carries) (unfinished (width w) m.home more)
      (none_zero w refl access is none))

  by_access : (access : Access) → IsNext (width w) m.home access → Executes access m w u x.hand → OnceLanded w m (λ landed. GoesOn landed m u t)
  by_access Fence is made = at_the_fence is made
  by_access access is made = elsewhere access is refl made.makes made.carries made.no_zero

  -- and it is not the last one
  pub executed_on : OnceLanded w m (λ landed. GoesOn landed m u t)
  executed_on = by_access next.access next.is_next next.executes

-- it is the last one, with which nothing more is taken
module _ (w u : World) (m x : Moving) (next : ExecutesNext w m u x) (last : is_at_last (width w) m.home ≡ true) where
  ends_by : (to : End) (access : Access) → IsNext (width w) m.home access → Executes access m w u x.hand → access ≡ last_access to
      → Ends w m u m.hand × (x.hand ≡ m.hand)
  ends_by to access is made e = by_end to (subst (λ a. IsNext (width w) m.home a) e is) (subst (λ a. Executes a m w u x.hand) e made)
    where
      by_end : (to : End) → IsNext (width w) m.home (last_access to) → Executes (last_access to) m w u x.hand → Ends w m u m.hand × (x.hand ≡ m.hand)
      by_end ends.File is made = (
        record {
          step = record
              { access = PutDelivery; is_next = is; in_table = next_in_plan (width w) m.home PutDelivery is; makes = made.makes; carries = refl };
          last = last;
        },
        made.carries,
      )
      by_end ends.Memory is made = (
        record {
          step = record
              { access = Post; is_next = is; in_table = next_in_plan (width w) m.home Post is; makes = made.makes; carries = refl };
          last = last;
        },
        made.carries,
      )

  by_home : (there : Home) → m.home ≡ there → Ends w m u m.hand × (x.hand ≡ m.hand)
  by_home (OnWay way at) e =
      ends_by (new_end way) next.access next.is_next next.executes
      (last_is (width w) way at next.access (subst (λ h. IsNext (width w) h next.access) e next.is_next)
      (subst (λ h. is_at_last (width w) h ≡ true) e last))
  by_home there e = let no : is_at_last (width w) there ≡ true = subst (λ h. is_at_last (width w) h ≡ true) e last in absurd (cc)

  pub executed_last : Ends w m u m.hand × (x.hand ≡ m.hand)
  executed_last = by_home m.home refl
