-- The interrupt of a pass, given on from its notice hart to the slot of its virtual hart.
use Rattle.std.proofs.Common.{◌≡◌, ◌≢◌, ℕ, ◌-◌, ◌*◌, ◌%◌, ◌^◌, ◌<◌, ◌≤◌, Bool, true, false, cond, get_or, nat_eq, ◌∷◌, length, slice_index_or, Option, Some, None, inl, inr, refl, sym, ap, subst, ◌∙◌, arith}
use Rattle.std.specs.Option.{option_map}
use Rattle.std.specs.Int.{bit_at}
use Rattle.std.proofs.lemmas.Bool.{cases_eq, cond-true, cond-false, eq-eqb, ne_eqb}
use Rattle.std.proofs.lemmas.Bool.Decides.{nat_tests}
use Rattle.std.proofs.lemmas.Nat.{shl_whole}
use Rattle.std.proofs.lemmas.Nat.Bits.{bit_at-pow_same, bit_at-pow_other}
use Rattle.aia_regs.specs.declared.limits.TheConstants.{IDENTITIES, PASSES}
use Rattle.aia_regs.specs.declared.access.Op.{Op}
use Rattle.aia_regs.specs.declared.access.Op.TheVariants as ops
use Rattle.aia_regs.specs.declared.file_registers.FileReg.TheVariants.{Pending}
use Rattle.aia_regs.specs.FileRegisters.{shows, eip_said}
use Rattle.aia_regs.specs.Operations.{bit_said}
use Rattle.aia_regs.specs.Request.{requested}
use Rattle.aia_regs.specs.BitUpdate.{BitUpdate, settle, names}
use Rattle.aia_regs.specs.BitUpdate.BitUpdate.{Ask, Nothing}
use Rattle.aia_file.specs.InterruptFile.{InterruptFile, SameFile, accessed, landed}
use Rattle.aia_file.specs.FileState.{FileState, shown}
use Rattle.aia_file.proofs.FileLemmas.{same_file}
use Rattle.aia_file.proofs.SizeLemmas.{enough_identities}
use Rattle.aia_file.specs.declared.spot.Spot.{Spot}
use Rattle.aia_file.specs.declared.spot.Spot.TheVariants as spots
use Rattle.aia_file.specs.Imsic.{ImsicState, IsThere, file_at, with_file}
use Rattle.aia_file.proofs.PlaceLemmas.{kept_elsewhere}
use Rattle.aia_file.specs.declared.stored.Stored.{Stored}
use Rattle.aia_file.specs.declared.stored.Stored.TheVariants.{Discarded, Quiet, Notice}
use Rattle.aia_file.specs.Mrif.{mrif_in, stored}
use Rattle.aia_vcpu.specs.Aims.{host_identity}
use Rattle.aia_vcpu.specs.Routes.{MayLand}
use Rattle.aia_vcpu.specs.Vms.{Vcpu, is_vcpu_in, slot_of, notice_hart, notice_identity}
use Rattle.aia_fabric_values.specs.World.{World}
use Rattle.aia_fabric_values.specs.Whole.{IsWhole}
use Rattle.aia_fabric_values.specs.Changes.{spot_of}
use Rattle.aia_fabric_values.specs.Stores.{Posts, NoticedBy, with_store}
use Rattle.aia_fabric_values.specs.Stores as stores
use Rattle.aia_fabric_values.proofs.FrameLemmas.{by_parts, posts_rest}
use Rattle.aia_fabric_values.proofs.WholeLemmas.{width_at}
use Rattle.aia_model.specs.Event.{History, file_words}
use Rattle.aia_model.specs.Event.Event.{Relayed}
use Rattle.aia_model.specs.Vms.{vms_of}
use Rattle.aia_model.specs.HomeOf.{home}
use Rattle.aia_model.specs.Passes.{PassedSource, no_pass, passes_of, nth_pass}
use Rattle.aia_model.specs.Aim.{pass_reach}
use Rattle.aia_model.specs.Notice.{noticed}
use Rattle.aia_model.specs.FileAfter.{relay_said, file_after}
use Rattle.aia_model.specs.FileAfter.FileDeed.{Relays}
use Rattle.aia_model.specs.FileOf.{FileName, SupervisorFile, deed_at}
use Rattle.aia_model.proofs.FileLemmas.{same_or_other, is_file-itself, is_file-other}
use Rattle.aia_hyp_values.specs.Core.{CoreState}
use Rattle.aia_hyp_values.specs.HostFiles.{FileDone, host_spot, select_place}
use Rattle.aia_hyp_values.specs.Stands.{CoreStands, CoreGoes, MayGo}
use Rattle.aia_hyp_values.proofs.NameLemmas.{no_guest, other_spot}
use Rattle.aia_hyp_values.proofs.VcpuLemmas.{quiet_relay, still_relay}
use Rattle.aia_hyp_values.proofs.StandsLemmas.{count_after}
use Rattle.aia_hyp_values.proofs.EventLemmas.{as_it_was, one_more}
use Rattle.aia_hyp_values.proofs.GuestStores.{IsMeantFor, HasLanded, slot_words, who_by_store, landed_changes}
use Rattle.aia_hyp_values.proofs.ForwardLemmas.{pass_to_one, pass_may, pass_hart_there}

-- ---- the host takes the identity of a pass at its file

abbrev pub taking : ℕ → Op
taking p = ops.Clear (1 * 2 ^ host_identity p % 2 ^ 64)

shown_there : (n x : ℕ) → 1 ≤ x → x < 64 → 63 ≤ n → shows n 0 x ≡ true
shown_there n x some few wide = grind (arith, nat_tests)

nothing_else : (b : Bool) → ◌≡◌ {A = BitUpdate} (cond b Nothing Nothing) Nothing
nothing_else true = refl
nothing_else false = refl

taking_says : (n p i : ℕ) → p < PASSES → 63 ≤ n → eip_said n (Pending 0) (taking p) i ≡ relay_said n (host_identity p) None i
taking_says n p i few wide =
    let x = host_identity p in
    let whole : 1 * 2 ^ x % 2 ^ 64 ≡ 1 * 2 ^ x = shl_whole 1 1 x 64 (omega arith) (omega (arith, few)) in
    let power : 1 * 2 ^ x ≡ 2 ^ x = omega arith in
    let bit : (b : ℕ) → bit_at (1 * 2 ^ x % 2 ^ 64) b ≡ bit_at (2 ^ x) b = λ b. ap (λ v. bit_at v b) (whole ∙ power) in
    let first : i - 32 * 0 ≡ i = omega arith in
    ap (λ j. cond (shows n 0 i) (bit_said (taking p) j) Nothing) first ∙ elim (cases_eq x i) [
      | inl e ↦
          cond-true _ _ _ (subst (λ j. shows n 0 j ≡ true) e (shown_there n x (omega arith) (omega (arith, few)) wide))
          ∙ cond-true _ _ _ (eq-eqb _ 1 (bit i ∙ subst (λ j. bit_at (2 ^ x) j ≡ 1) e (bit_at-pow_same x)))
          ∙ sym (cond-true _ _ _ (eq-eqb x i e))
      | inr ne ↦
          let none : bit_at (2 ^ x) i ≡ 0 = bit_at-pow_other x i (λ e. ne (sym e)) in
          let clear : nat_eq (bit_at (1 * 2 ^ x % 2 ^ 64) i) 1 ≡ false = ap (λ b. nat_eq b 1) (bit i ∙ none) in
          ap (λ w. cond (shows n 0 i) w Nothing) (cond-false _ _ _ clear) ∙ nothing_else (shows n 0 i) ∙ sym (cond-false _ _ _ (ne_eqb x i ne))
    ]

taken : (p : ℕ) (file : InterruptFile) → p < PASSES → 63 ≤ file.n
    → SameFile (accessed (Pending 0) (taking p) file) (file_after 0 (Relays (host_identity p) None) file)
taken p file few wide = record {
  n = refl;
  pending = λ i. ap (λ w. settle w (file.pending i)) (taking_says file.n p i few wide);
  enabled = λ i. refl;
  threshold = refl;
  delivery = refl;
}

-- a notice that lands then says more than that
asks_last : (b : Bool) (w : BitUpdate) (was : Bool) → settle (cond b Ask Nothing) (settle w was) ≡ settle (cond b Ask w) was
asks_last true w was = refl
asks_last false w was = refl

then_noticed : (p v : ℕ) (file : InterruptFile)
    → SameFile (landed 0 v (file_after 0 (Relays (host_identity p) None) file)) (file_after 0 (Relays (host_identity p) (Some v)) file)
then_noticed p v file = record {
  n = refl;
  pending = λ i. asks_last (names (requested file.n 0 v) i) (relay_said file.n (host_identity p) None i) (file.pending i);
  enabled = λ i. refl;
  threshold = refl;
  delivery = refl;
}

-- ---- what the calls say of it

-- the file where it is taken, and the world between
abbrev pub spot_at_notice : CoreState → PassedSource → Spot
spot_at_notice x pass = spots.SupervisorFile (notice_hart x.world.vms pass.to)

abbrev pub once_taken : CoreState → PassedSource → FileState → World
once_taken x pass file = record x.world { imsic = with_file x.world.imsic (spot_at_notice x pass) file }

pub record IsRelayed (x y : CoreState) (p : ℕ) (pass : PassedSource) (file : FileState) : Type 0 where
  pub whole : IsWhole x.world
  pub few : p < PASSES
  pub kept : file_at (with_file x.world.imsic (spot_at_notice x pass) file) (spot_at_notice x pass) ≡ file
  pub takes : SameFile (shown file) (accessed (Pending 0) (taking p) (shown (file_at x.world.imsic (spot_at_notice x pass))))
  pub stores : stores.ReachesByRecord None (once_taken x pass file) y.world pass.to pass.identity
  pub leases : y.leases ≡ x.leases
  pub vcpus : y.vcpus ≡ x.vcpus
  pub selects : y.selects ≡ x.selects
  pub passes : y.passes ≡ x.passes

module _ (x y : CoreState) (h : History) (p : ℕ) (file : FileState) (c : IsRelayed x y p (nth_pass h p) file) (stands : CoreStands x h)
    (low : p < length (passes_of h)) (reach : pass_reach h p ≡ None) where
  abbrev g : Vcpu
  g = (nth_pass h p).to

  abbrev value : ℕ
  value = (nth_pass h p).identity

  abbrev spot : Spot
  spot = spot_at_notice x (nth_pass h p)

  abbrev between : World
  between = once_taken x (nth_pass h p) file

  abbrev slot : ℕ
  slot = slot_of x.world.vms g

  abbrev own_notice : ℕ
  own_notice = notice_identity x.world.vms g

  hart : notice_hart x.world.vms g ≡ notice_hart (vms_of h) g
  hart = ap (λ vms. notice_hart vms g) stands.vms

  here : IsThere x.world.imsic spot
  here = subst (λ n. n < x.world.imsic.harts) (sym hart) (pass_hart_there x h p stands c.whole low)

  meant : IsMeantFor x y h (Relayed p) g None 0 value
  meant = record {
    stands = stands;
    whole = c.whole;
    quiet = quiet_relay h p;
    there = (pass_to_one x h p stands low).0;
    leads = subst (MayLand (file_words h) (home h g)) reach (pass_may x h p stands low);
    majors = λ other m. refl;
    deeds = λ other. refl;
    leases = c.leases;
    vcpus = c.vcpus;
    selects = c.selects;
    passes = c.passes;
  }

  -- the file at its notice hart once the identity is taken
  between_is : shown file ≡ file_after 0 (Relays (host_identity p) None) (shown (file_at x.world.imsic spot))
  between_is =
      let wide : 63 ≤ (shown (file_at x.world.imsic spot)).n =
      subst (λ n. 63 ≤ n) (sym (width_at x.world spot c.whole here)) (enough_identities x.world.n c.whole.greatest) in
      same_file _ _ c.takes ∙ same_file _ _ (taken p (shown (file_at x.world.imsic spot)) c.few wide)

  -- the files of the host, by the one at its notice hart
  host_done : SameFile (shown (file_at y.world.imsic spot))
      (file_after 0 (Relays (host_identity p) (option_map (notice_identity (vms_of h)) (noticed h (Relayed p)))) (shown (file_at x.world.imsic spot)))
      → ((other : Spot) → IsThere x.world.imsic other → other ≢ spot → file_at y.world.imsic other ≡ file_at x.world.imsic other)
      → (f : FileName) → IsThere x.world.imsic (host_spot f) → FileDone x y f (deed_at f h (Relayed p))
  host_done done others f inside = elim (same_or_other f (SupervisorFile (notice_hart (vms_of h) g))) [
    | inl e ↦ subst (FileDone x y f) (sym (cond-true _ _ _ (is_file-itself f (SupervisorFile (notice_hart (vms_of h) g)) e))) (record {
      file = subst (λ (s : Spot). SameFile (shown (file_at y.world.imsic s))
          (file_after 0 (Relays (host_identity p) (option_map (notice_identity (vms_of h)) (noticed h (Relayed p))))
          (shown (file_at x.world.imsic s)))) (ap spots.SupervisorFile hart ∙ sym (ap host_spot e)) done;
      select = ap (λ xs. get_or xs (select_place f) 0) c.selects;
    })
    | inr ne ↦ subst (FileDone x y f) (sym (cond-false _ _ _ (is_file-other f (SupervisorFile (notice_hart (vms_of h) g)) ne))) (record {
      file = subst (λ (z : FileState). SameFile (shown z) (shown (file_at x.world.imsic (host_spot f))))
          (sym (others (host_spot f) inside (λ e. other_spot (SupervisorFile (notice_hart (vms_of h) g)) f ne
          (e ∙ ap spots.SupervisorFile hart)))) (as_it_was (shown (file_at x.world.imsic (host_spot f))));
      select = ap (λ xs. get_or xs (select_place f) 0) c.selects;
    })
  ]

  taken_elsewhere : (other : Spot) → IsThere x.world.imsic other → other ≢ spot → file_at between.imsic other ≡ file_at x.world.imsic other
  taken_elsewhere other inside ne = kept_elsewhere x.world.imsic spot other file here inside ne

  quietly : noticed h (Relayed p) ≡ None → y.world ≡ with_store between slot 0 value → HasLanded x y h (Relayed p) g 0 value
  quietly quiet world = record {
    slot = record {
      rest = by_parts x.world y.world (with_file x.world.imsic spot file).files (slot_words x.world g 0 value) x.world.notices world;
      memory = ap (λ (w : World). w.memory) world;
      files = λ q inside. ap (λ (w : World). file_at w.imsic (spot_of q)) world
          ∙ taken_elsewhere (spot_of q) inside (no_guest spot refl q.hart q.file);
    };
    count = ap (λ (w : World). w.notices) world ∙ ap (λ who. count_after who x.world.notices) (sym quiet);
    host = host_done
        (subst (λ (o : Option Vcpu). SameFile (shown (file_at y.world.imsic spot))
        (file_after 0 (Relays (host_identity p) (option_map (notice_identity (vms_of h)) o)) (shown (file_at x.world.imsic spot)))) (sym quiet)
        (subst (SameFile (shown (file_at y.world.imsic spot)))
        (ap (λ (w : World). shown (file_at w.imsic spot)) world ∙ ap shown c.kept ∙ between_is) (as_it_was (shown (file_at y.world.imsic spot)))))
        (λ other inside ne. ap (λ (w : World). file_at w.imsic other) world ∙ taken_elsewhere other inside ne);
  }

  loudly : noticed h (Relayed p) ≡ Some g → Posts (with_store between slot 0 value) y.world spot own_notice → HasLanded x y h (Relayed p) g 0 value
  loudly loud posts =
      let imsic = posts.lands.others in
      let elsewhere : (other : Spot) → IsThere x.world.imsic other → other ≢ spot → file_at y.world.imsic other ≡ file_at x.world.imsic other =
      λ other inside ne. ap (λ (i : ImsicState). file_at i other) imsic
      ∙ kept_elsewhere between.imsic spot other (file_at y.world.imsic spot) here inside ne ∙ taken_elsewhere other inside ne in
      let identity : own_notice ≡ notice_identity (vms_of h) g = ap (λ vms. notice_identity vms g) stands.vms in
      let done : shown (file_at y.world.imsic spot) ≡ file_after 0 (Relays (host_identity p) (Some (notice_identity (vms_of h) g)))
      (shown (file_at x.world.imsic spot)) =
      same_file _ _ posts.lands.lands ∙ ap (λ (z : FileState). landed 0 own_notice (shown z)) c.kept ∙ ap (landed 0 own_notice) between_is
      ∙ same_file _ _ (then_noticed p own_notice (shown (file_at x.world.imsic spot)))
      ∙ ap (λ n. file_after 0 (Relays (host_identity p) (Some n)) (shown (file_at x.world.imsic spot))) identity in
      record {
        slot = record {
          rest = posts_rest (with_store between slot 0 value) y.world spot own_notice posts;
          memory = ap (λ (w : World). w.memory) posts.rest;
          files = λ q inside. elsewhere (spot_of q) inside (no_guest spot refl q.hart q.file);
        };
        count = posts.count ∙ ap (λ who. count_after who x.world.notices) (sym loud);
        host = host_done
            (subst (λ (o : Option Vcpu). SameFile (shown (file_at y.world.imsic spot))
            (file_after 0 (Relays (host_identity p) (option_map (notice_identity (vms_of h)) o)) (shown (file_at x.world.imsic spot)))) (sym loud)
            (subst (SameFile (shown (file_at y.world.imsic spot))) done (as_it_was (shown (file_at y.world.imsic spot)))))
            elsewhere;
      }

  by_notice : (s : Stored) → s ≡ stored (mrif_in x.world.memory slot) (requested IDENTITIES 0 value)
      → NoticedBy s (with_store between slot 0 value) y.world spot own_notice → HasLanded x y h (Relayed p) g 0 value
  by_notice Notice e by = loudly (who_by_store x y h (Relayed p) g 0 value meant refl Notice e) by
  by_notice Quiet e by = quietly (who_by_store x y h (Relayed p) g 0 value meant refl Quiet e) by
  by_notice Discarded e by = quietly (who_by_store x y h (Relayed p) g 0 value meant refl Discarded e) by

  pub relay_stands : CoreStands y (Relayed p ∷ h)
  relay_stands =
      one_more x y h (Relayed p) (landed_changes x y h (Relayed p) g 0 value meant
      (by_notice (stored (mrif_in x.world.memory slot) (requested IDENTITIES 0 value)) refl c.stores)) (still_relay h p) stands

pub relay_goes : (x y : CoreState) (p : ℕ) (file : FileState) → IsRelayed x y p (slice_index_or x.passes p no_pass) file → CoreGoes x y (Relayed p)
relay_goes x y p file c = λ h stands may.
    relay_stands x y h p file (subst (λ ps. IsRelayed x y p (slice_index_or ps p no_pass) file) stands.passes.same c) stands may.0 may.1

-- the two calls, one after the other
pub record RelayCalls (x y : CoreState) (p : ℕ) (pass : PassedSource) (between : World) (at q : ℕ) : Type 0 where
  pub whole : IsWhole x.world
  pub few : p < PASSES
  pub is : pass ≡ slice_index_or x.passes p no_pass
  pub hart : at ≡ notice_hart x.world.vms pass.to
  pub slot : q ≡ slot_of x.world.vms pass.to
  pub there : is_vcpu_in x.world.vms pass.to ≡ true
  pub takes : SameFile (shown (file_at between.imsic (spots.SupervisorFile at)))
      (accessed (Pending 0) (taking p) (shown (file_at x.world.imsic (spots.SupervisorFile at))))
  pub others : between ≡ record x.world {
    imsic =
        with_file x.world.imsic (spots.SupervisorFile at) (file_at between.imsic (spots.SupervisorFile at));
  }
  pub stores : (g : Vcpu) → is_vcpu_in between.vms g ≡ true → slot_of between.vms g ≡ q → stores.ReachesByRecord None between y.world g pass.identity
  pub leases : y.leases ≡ x.leases
  pub vcpus : y.vcpus ≡ x.vcpus
  pub selects : y.selects ≡ x.selects
  pub passes : y.passes ≡ x.passes

relayed : (x y : CoreState) (p : ℕ) (pass : PassedSource) (between : World) (at q : ℕ) → RelayCalls x y p pass between at q
    → IsRelayed x y p pass (file_at between.imsic (spots.SupervisorFile at))
relayed x y p pass between at q c =
    let file = file_at between.imsic (spots.SupervisorFile at) in
    let spot : spots.SupervisorFile at ≡ spot_at_notice x pass = ap spots.SupervisorFile c.hart in
    let vms : between.vms ≡ x.world.vms = ap (λ (w : World). w.vms) c.others in
    let same : between ≡ once_taken x pass file = c.others ∙ ap (λ (s : Spot). record x.world { imsic = with_file x.world.imsic s file }) spot in
    record {
      whole = c.whole;
      few = c.few;
      kept = subst (λ (s : Spot). file_at (with_file x.world.imsic s file) s ≡ file) spot
          (ap (λ (w : World). file_at w.imsic (spots.SupervisorFile at)) (sym c.others));
      takes = subst (λ (s : Spot). SameFile (shown file) (accessed (Pending 0) (taking p) (shown (file_at x.world.imsic s)))) spot c.takes;
      stores = subst (λ (w : World). stores.ReachesByRecord None w y.world pass.to pass.identity) same
          (c.stores pass.to (ap (λ vs. is_vcpu_in vs pass.to) vms ∙ c.there) (ap (λ vs. slot_of vs pass.to) vms ∙ sym c.slot));
      leases = c.leases;
      vcpus = c.vcpus;
      selects = c.selects;
      passes = c.passes;
    }

pub calls_go : (x y : CoreState) (p : ℕ) (pass : PassedSource) (between : World) (at q : ℕ) → RelayCalls x y p pass between at q
    → CoreGoes x y (Relayed p)
calls_go x y p pass between at q c =
    let file = file_at between.imsic (spots.SupervisorFile at) in
    relay_goes x y p file (subst (λ (z : PassedSource). IsRelayed x y p z file) c.is (relayed x y p pass between at q c))

-- what is so of the pass of a number where it may be given on
pub may_relay : (x : CoreState) (p : ℕ) → MayGo x (Relayed p) → length x.passes ≤ PASSES → (p < PASSES)
    × (is_vcpu_in x.world.vms (slice_index_or x.passes p no_pass).to ≡ true)
may_relay x p m few =
    let size = ap (λ ps. length ps) m.stands.passes.same in
    let there = (pass_to_one x m.past p m.stands m.may.0).0 in (
      omega (arith, m.may.0, size, few),
      ap (λ ps. is_vcpu_in x.world.vms (slice_index_or ps p no_pass).to) m.stands.passes.same
          ∙ ap (λ vms. is_vcpu_in vms (nth_pass m.past p).to) m.stands.vms ∙ there,
    )
