-- The targets of sources stand for the longer history, whatever event that has: a pass, a step of a
-- move, or one that aims nothing.
use Rattle.std.proofs.Common.{◌≡◌, ℕ, ◌<◌, Bool, true, false, nat_eq, nat_lt, if◌then◌else◌, List, [], ◌∷◌, ◌++◌, length, slice_index_or, Option, Some, None, ◌⊎◌, inl, inr, refl, sym, ap, subst, ◌∙◌, arith}
use Rattle.std.proofs.lemmas.Bool.{cases_Bool, cases_lt, eq-eqb, eqb-true, ltb-true, and_parts, false≢true}
use Rattle.std.proofs.lemmas.List.{get_or_append_left, length-append}
use Rattle.std.proofs.Math.Seq.{get_or-append_seam}
use Rattle.aia_vcpu.specs.Vms.{Vcpu, vcpu_of}
use Rattle.aia_vcpu.specs.Aims.{is_aiming, aims_done, pass_reaches}
use Rattle.aia_move_values.specs.Targets.{TargetMap, AimsOne}
use Rattle.aia_model.specs.declared.line.Line.TheVariants.{Machine}
use Rattle.aia_model.specs.declared.line.Line.TheVariants as lines
use Rattle.aia_model.specs.declared.domain_name.DomainName.TheVariants.{Child}
use Rattle.std.specs.Int.{is_in_range}
use Rattle.aia_model.specs.Event.{Event, History, harts_of, sources_of}
use Rattle.aia_model.specs.Event.Event.{Accepted, Began, Stepped, Delivered, Landed, Relayed}
use Rattle.aia_model.specs.Act.{Act, Past, act_of, newest}
use Rattle.aia_model.specs.Act.Act.{Aimed, Sent}
use Rattle.aia_model.specs.AddressOf.{addresses_of}
use Rattle.aia_model.specs.declared.sender.Sender.{Sender}
use Rattle.aia_model.specs.SourceOf.{target}
use Rattle.aia_model.specs.Sent.{with_act, senders, sent_by, acts_of}
use Rattle.aia_model.specs.Passes.{PassedSource, no_pass, passes_of, nth_pass, passes_for, own_pass}
use Rattle.aia_model.specs.Passable.{is_passable}
use Rattle.aia_model.specs.HomeOf.{home}
use Rattle.aia_model.specs.Aim.{target_for, aim_of, aimed_by}
use Rattle.aia_model.specs.Histories.{MayHappen, IsHistory}
use Rattle.aia_model.proofs.OwnPassLemmas.{own_is}
use Rattle.aia_model.proofs.PassesStandLemmas.{IsAimedIn, line_aimed, passes_stand}
use Rattle.aia_model.proofs.RefusalLemmas.{pass_allowed}
use Rattle.aia_model.proofs.TargetLemmas.{passed_stays, aim_gives}
use Rattle.aia_hyp_values.specs.Passes.{AimsBy}
use Rattle.aia_hyp_values.specs.Targets.{TargetsStand, LeavesTheAplic}

-- ---- what an event is to the sources

-- the targets tell that a source is ready which it passes
abbrev pub TellsReady : TargetMap → Event → Type 0
TellsReady map (Accepted (lines.Pass source vm vcpu identity)) = map.ready source ≡ true
TellsReady map event = Unit {0}

harts_kept : (event : Event) (h : History) → LeavesTheAplic event → harts_of (event ∷ h) ≡ harts_of h
harts_kept (Accepted (Machine harts guests n sources)) h quiet = absurd (cc)
harts_kept (Accepted line) h quiet = refl
harts_kept (Began move) h quiet = refl
harts_kept (Stepped g) h quiet = refl
harts_kept (Delivered msi) h quiet = refl
harts_kept (Landed vm k) h quiet = refl
harts_kept (Relayed p) h quiet = refl

sources_kept : (event : Event) (h : History) → LeavesTheAplic event → sources_of (event ∷ h) ≡ sources_of h
sources_kept (Accepted (Machine harts guests n sources)) h quiet = absurd (cc)
sources_kept (Accepted line) h quiet = refl
sources_kept (Began move) h quiet = refl
sources_kept (Stepped g) h quiet = refl
sources_kept (Delivered msi) h quiet = refl
sources_kept (Landed vm k) h quiet = refl
sources_kept (Relayed p) h quiet = refl

-- each pass was one before, or is the one that it makes, whose source it aims
abbrev Was : History → Event → ℕ → Type 0
Was h event p = (p < length (passes_of h)) × ((nth_pass (event ∷ h) p).source ≡ (nth_pass h p).source)

abbrev Made : History → Event → ℕ → Type 0
Made h event p = (v : ℕ) × (aimed_by h event ≡ Some (Aimed (nth_pass (event ∷ h) p).source v))

each_source : (event : Event) (h : History) (p : ℕ) → p < length (passes_of (event ∷ h)) → Was h event p ⊎ Made h event p
unfolding passes_of
each_source (Accepted (lines.Pass source vm vcpu identity)) h p low = elim (cases_lt p (length (passes_of h))) [
  | inl old ↦ inl (old, ap (λ (y : PassedSource). y.source) (get_or_append_left (passes_of h) (new ∷ []) no_pass p old))
  | inr past ↦
      let last : length (passes_of h) ≡ p = omega (arith, low, past, length-append (passes_of h) (new ∷ [])) in
      let is : (slice_index_or (passes_of h ++ new ∷ []) p no_pass).source ≡ source =
      ap (λ (y : PassedSource). y.source) (ap (λ k. slice_index_or (passes_of h ++ new ∷ []) k no_pass) (sym last)
      ∙ get_or-append_seam (passes_of h) new [] no_pass) in
      inr (aim, ap (λ s. Some (Aimed s aim)) (sym is))
]
  where
    aim : ℕ
    aim = target_for h (length (passes_of h)) (vcpu_of vm vcpu) identity (pass_reaches (passes_for h (vcpu_of vm vcpu)) (home h (vcpu_of vm vcpu)))

    new : PassedSource
    new = record { source = source; to = vcpu_of vm vcpu; identity = identity }
each_source (Accepted line) h p low = inl (low, refl)
each_source (Began move) h p low = inl (low, refl)
each_source (Stepped g) h p low = inl (low, refl)
each_source (Delivered msi) h p low = inl (low, refl)
each_source (Landed vm k) h p low = inl (low, refl)
each_source (Relayed q) h p low = inl (low, refl)

-- where each is aimed after what the event aims
stood : (event : Event) (h : History) (p : ℕ) → MayHappen h event → IsHistory h → p < length (passes_of (event ∷ h))
    → IsAimedIn (event ∷ h) p (acts_of (event ∷ h))
stood event h p may good low = let s = (passes_stand (event ∷ h) (may, good)).pass p low in record { passable = s.passable; target = s.target }

aimed_then : (event : Event) (h : History) (p : ℕ) → MayHappen h event → IsHistory h → LeavesTheAplic event → p < length (passes_of (event ∷ h))
    → IsAimedIn (event ∷ h) p (with_act (aimed_by h event) (acts_of h))
aimed_then (Accepted line) h p may good quiet low =
    subst (λ (o : Option Act). IsAimedIn (Accepted line ∷ h) p (with_act o (with_act (aimed_by h (Accepted line)) (acts_of h)))) quiet
    (line_aimed h line p may (passes_stand h good) low)
aimed_then (Began move) h p may good quiet low = stood (Began move) h p may good low
aimed_then (Stepped g) h p may good quiet low = stood (Stepped g) h p may good low
aimed_then (Delivered msi) h p may good quiet low = stood (Delivered msi) h p may good low
aimed_then (Landed vm k) h p may good quiet low = stood (Landed vm k) h p may good low
aimed_then (Relayed q) h p may good quiet low = stood (Relayed q) h p may good low

-- a step aims the source of a pass
aims_own : (h : History) (g : Vcpu) (s v : ℕ) → aimed_by h (Stepped g) ≡ Some (Aimed s v)
    → (p : ℕ) × (p < length (passes_of h)) × ((nth_pass h p).source ≡ s)
aims_own h g s v = by_aim (is_aiming (passes_for h g) (home h g)) refl
  where
    by_aim : (b : Bool) → is_aiming (passes_for h g) (home h g) ≡ b
        → (if b then Some (aim_of h g (own_pass h g (aims_done (home h g)))) else None) ≡ Some (Aimed s v)
        → (p : ℕ) × (p < length (passes_of h)) × ((nth_pass h p).source ≡ s)
    by_aim true aiming e =
        let few = ltb-true _ _ (and_parts _ (nat_lt (aims_done (home h g)) (passes_for h g)) aiming).1 in
        let same : (nth_pass h (own_pass h g (aims_done (home h g)))).source ≡ s = cc in
        (own_pass h g (aims_done (home h g)), (own_is h g (aims_done (home h g)) few).low, same)
    by_aim false other e = absurd (cc)

-- MSIs to guests may be made of a source that is aimed
aimed_passable : (event : Event) (h : History) (s v : ℕ) → MayHappen h event → IsHistory h → aimed_by h event ≡ Some (Aimed s v)
    → is_passable (acts_of h) s ≡ true
aimed_passable (Accepted (lines.Pass source vm vcpu identity)) h s v may good aims =
    let same : source ≡ s = cc in ap (is_passable (acts_of h)) (sym same) ∙ (pass_allowed h source vm vcpu identity may).ready
aimed_passable (Stepped g) h s v may good aims =
    let own = aims_own h g s v aims in ap (is_passable (acts_of h)) (sym own.2) ∙ ((passes_stand h good).pass own.0 own.1).passable
aimed_passable (Accepted line) h s v may good aims = absurd (cc)
aimed_passable (Began move) h s v may good aims = absurd (cc)
aimed_passable (Delivered msi) h s v may good aims = absurd (cc)
aimed_passable (Landed vm k) h s v may good aims = absurd (cc)
aimed_passable (Relayed q) h s v may good aims = absurd (cc)

-- and it is ready
aim_ready : (event : Event) (h : History) (map : TargetMap) (s v : ℕ) → MayHappen h event → IsHistory h → TellsReady map event → TargetsStand map h
    → aimed_by h event ≡ Some (Aimed s v) → (is_passable (acts_of h) s ≡ true) × (map.ready s ≡ true)
aim_ready event h map s v may good tells stands aims = (aimed_passable event h s v may good aims, is_ready event tells aims)
  where
    is_ready : (event : Event) → TellsReady map event → aimed_by h event ≡ Some (Aimed s v) → map.ready s ≡ true
    is_ready (Accepted (lines.Pass source vm vcpu identity)) tells aims = let same : source ≡ s = cc in ap map.ready (sym same) ∙ tells
    is_ready (Stepped g) tells aims = let own = aims_own h g s v aims in ap map.ready (sym own.2) ∙ stands.ready own.0 own.1
    is_ready (Accepted line) tells aims = absurd (cc)
    is_ready (Began move) tells aims = absurd (cc)
    is_ready (Delivered msi) tells aims = absurd (cc)
    is_ready (Landed vm k) tells aims = absurd (cc)
    is_ready (Relayed q) tells aims = absurd (cc)

-- nothing but aims is an event's own act
abbrev is_aim : Act → Bool
is_aim (Aimed s v) = true
is_aim a = false

only_aims : (event : Event) (h : History) (a : Act) → aimed_by h event ≡ Some a → is_aim a ≡ false → ⊥
only_aims (Accepted (lines.Pass source vm vcpu identity)) h a is other =
    let same : Aimed source (target_for h (length (passes_of h)) (vcpu_of vm vcpu) identity
    (pass_reaches (passes_for h (vcpu_of vm vcpu)) (home h (vcpu_of vm vcpu)))) ≡ a = cc in false≢true (sym other ∙ ap is_aim (sym same))
only_aims (Stepped g) h a is other = by_aim (is_aiming (passes_for h g) (home h g)) is
  where
    by_aim : (b : Bool) → (if b then Some (aim_of h g (own_pass h g (aims_done (home h g)))) else None) ≡ Some a → ⊥
    by_aim true e = let same : aim_of h g (own_pass h g (aims_done (home h g))) ≡ a = cc in false≢true (sym other ∙ ap is_aim (sym same))
    by_aim false e = absurd (cc)
only_aims (Accepted line) h a is other = absurd (cc)
only_aims (Began move) h a is other = absurd (cc)
only_aims (Delivered msi) h a is other = absurd (cc)
only_aims (Landed vm k) h a is other = absurd (cc)
only_aims (Relayed q) h a is other = absurd (cc)

-- after it each is one of which MSIs to guests may be made before it
leads_before : (event : Event) (h : History) (p : ℕ) → MayHappen h event → IsHistory h → (s v : ℕ) → aimed_by h event ≡ Some (Aimed s v)
    → p < length (passes_of (event ∷ h)) → is_passable (acts_of h) (nth_pass (event ∷ h) p).source ≡ true
leads_before event h p may good s v is low = elim (each_source event h p low) [
  | inl was ↦ ap (is_passable (acts_of h)) was.1 ∙ ((passes_stand h good).pass p was.0).passable
  | inr own ↦ aimed_passable event h (nth_pass (event ∷ h) p).source own.0 may good own.1
]

-- of which sources MSIs to guests may be made
passable_aimed : (past : Past) (t v s : ℕ) → is_passable (Aimed t v ∷ past) s ≡ is_passable past s
unfolding newest addresses_of
passable_aimed past t v s = refl

passable_once : (past : Past) (x : Sender) (s : ℕ) → is_passable (Sent x ∷ past) s ≡ is_passable past s
unfolding newest addresses_of
passable_once past x s = refl

pub passable_sent : (xs : List Sender) (past : Past) (s : ℕ) → is_passable (sent_by xs past) s ≡ is_passable past s
passable_sent [] past s = refl
passable_sent (x ∷ xs) past s = passable_sent xs (Sent x ∷ past) s ∙ passable_once past x s

passable_with : (event : Event) (h : History) (s : ℕ) (o : Option Act) → aimed_by h event ≡ o
    → is_passable (with_act o (acts_of h)) s ≡ is_passable (acts_of h) s
passable_with event h s None is = refl
passable_with event h s (Some (Aimed t v)) is = passable_aimed (acts_of h) t v s
passable_with event h s (Some a) is = absurd (only_aims event h a is refl)

passable_kept : (event : Event) (h : History) (s : ℕ) → LeavesTheAplic event
    → is_passable (acts_of (event ∷ h)) s ≡ is_passable (acts_of h) s
passable_kept (Accepted line) h s quiet =
    let past = with_act (aimed_by h (Accepted line)) (acts_of h) in
    passable_sent (senders (with_act (act_of line) past)) (with_act (act_of line) past) s
    ∙ ap (λ (o : Option Act). is_passable (with_act o past) s) quiet ∙ passable_with (Accepted line) h s (aimed_by h (Accepted line)) refl
passable_kept (Began move) h s quiet = passable_with (Began move) h s (aimed_by h (Began move)) refl
passable_kept (Stepped g) h s quiet = passable_with (Stepped g) h s (aimed_by h (Stepped g)) refl
passable_kept (Delivered msi) h s quiet = passable_with (Delivered msi) h s (aimed_by h (Delivered msi)) refl
passable_kept (Landed vm k) h s quiet = passable_with (Landed vm k) h s (aimed_by h (Landed vm k)) refl
passable_kept (Relayed q) h s quiet = passable_with (Relayed q) h s (aimed_by h (Relayed q)) refl

-- ---- the targets after an event

-- of one source: it is ready, and its target is that of some acts
record Follows (map : TargetMap) (past : Past) (s : ℕ) : Type 0 where
  ready : map.ready s ≡ true
  target : map.target s ≡ target past Child s

follows_before : (map : TargetMap) (h : History) (p : ℕ) → IsHistory h → TargetsStand map h → p < length (passes_of h)
    → Follows map (acts_of h) (nth_pass h p).source
follows_before map h p good stands low = record {
  ready = stands.ready p low;
  target = stands.aimed p low ∙ sym ((passes_stand h good).pass p low).target;
}

-- an aim of another source leaves it; its own gives it the target
aim_follows : (old new : TargetMap) (past : Past) (s v t : ℕ) → AimsOne old s v new → old.ready s ≡ true → is_passable past s ≡ true
    → is_passable past t ≡ true → (nat_eq s t ≡ false → Follows old past t) → Follows new (Aimed s v ∷ past) t
aim_follows old new past s v t one ready may_aim may_lead before = elim (cases_Bool (nat_eq s t)) [
  | inl is ↦ subst (Follows new (Aimed s v ∷ past)) (eqb-true s t is) (record {
    ready = one.ready s ∙ ready;
    target = one.aimed ready ∙ sym (aim_gives past s v may_aim).1;
  })
  | inr ne ↦ let was = before ne in record {
    ready = one.ready t ∙ was.ready;
    target = one.others t (λ e. false≢true (sym ne ∙ eq-eqb s t (sym e))) ∙ was.target ∙ sym (passed_stays past (Aimed s v) t may_lead ne).1;
  }
]

module _ {T : Type 0} (view : T → TargetMap) (aim : T → ℕ → ℕ → T → Type 0)
    (aims_one : (old new : T) (s v : ℕ) → aim old s v new → AimsOne (view old) s v (view new)) where
  follows_then : (event : Event) (h : History) (old new : T) (p : ℕ) → MayHappen h event → IsHistory h → TellsReady (view old) event
      → TargetsStand (view old) h → (o : Option Act) → aimed_by h event ≡ o → AimsBy aim o old new → p < length (passes_of (event ∷ h))
      → Follows (view new) (with_act o (acts_of h)) (nth_pass (event ∷ h) p).source
  follows_then event h old new p may good tells stands None is made low = elim (each_source event h p low) [
    | inl was ↦ subst (λ (t : T). Follows (view t) (acts_of h) (nth_pass (event ∷ h) p).source) (sym made)
        (subst (Follows (view old) (acts_of h)) (sym was.1) (follows_before (view old) h p good stands was.0))
    | inr new ↦ let no : None ≡ Some (Aimed (nth_pass (event ∷ h) p).source new.0) = sym is ∙ new.1 in absurd (cc)
  ]
  follows_then event h old new p may good tells stands (Some (Aimed s v)) is made low =
      let both = aim_ready event h (view old) s v may good tells stands is in
      aim_follows (view old) (view new) (acts_of h) s v (nth_pass (event ∷ h) p).source (aims_one old new s v made) both.1 both.0
      (leads_before event h p may good s v is low)
      (λ ne. elim (each_source event h p low) [
        | inl was ↦ subst (Follows (view old) (acts_of h)) (sym was.1) (follows_before (view old) h p good stands was.0)
        | inr own ↦ let same : Some (Aimed s v) ≡ Some (Aimed (nth_pass (event ∷ h) p).source own.0) = sym is ∙ own.1 in
            let one : s ≡ (nth_pass (event ∷ h) p).source = cc in absurd (false≢true (sym ne ∙ eq-eqb s (nth_pass (event ∷ h) p).source one))
      ])
  follows_then event h old new p may good tells stands (Some a) is made low = absurd (only_aims event h a is refl)

  -- the targets stand after the event
  pub event_targets : (event : Event) (h : History) (old new : T) → MayHappen h event → IsHistory h
      → LeavesTheAplic event → TellsReady (view old) event
      → AimsBy aim (aimed_by h event) old new → TargetsStand (view old) h → TargetsStand (view new) (event ∷ h)
  event_targets event h old new may good quiet tells made stands = record {
    harts = kept_harts (aimed_by h event) made ∙ stands.harts ∙ sym (harts_kept event h quiet);
    tells = λ s inside. kept_ready (aimed_by h event) made s
        ∙ stands.tells s (ap (λ n. is_in_range 1 n s) (sym (sources_kept event h quiet)) ∙ inside) ∙ sym (passable_kept event h s quiet);
    ready = λ p low. (follows_then event h old new p may good tells stands (aimed_by h event) refl made low).ready;
    aimed = λ p low. (follows_then event h old new p may good tells stands (aimed_by h event) refl made low).target
        ∙ (aimed_then event h p may good quiet low).target;
  }
    where
      kept_harts : (o : Option Act) → AimsBy aim o old new → (view new).harts ≡ (view old).harts
      kept_harts None made = ap (λ (t : T). (view t).harts) made
      kept_harts (Some (Aimed s v)) made = (aims_one old new s v made).harts
      kept_harts (Some a) made = ap (λ (t : T). (view t).harts) made

      kept_ready : (o : Option Act) → AimsBy aim o old new → (s : ℕ) → (view new).ready s ≡ (view old).ready s
      kept_ready None made s = ap (λ (t : T). (view t).ready s) made
      kept_ready (Some (Aimed t v)) made s = (aims_one old new t v made).ready s
      kept_ready (Some a) made s = ap (λ (t : T). (view t).ready s) made
