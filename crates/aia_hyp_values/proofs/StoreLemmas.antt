-- What loads, stores and MSIs leave of a core that stands for a history.
use Rattle.std.proofs.Common.{◌≡◌, ◌≢◌, ℕ, ◌%◌, ◌≤◌, true, false, ◌∷◌, Option, Some, None, refl, sym, ap, subst, ◌∙◌}
use Rattle.std.specs.Option.{option_map_or}
use Rattle.std.proofs.lemmas.Bool.{cond-true, cond-false}
use Rattle.aia_file.specs.InterruptFile.{SameFile, landed}
use Rattle.aia_file.specs.FileState.{shown}
use Rattle.aia_file.specs.declared.spot.Spot.{Spot}
use Rattle.aia_file.specs.Imsic.{IsThere, file_at, with_file}
use Rattle.aia_file.specs.Map.{spot_at}
use Rattle.aia_model.specs.declared.answer.Answer.TheVariants.{Okay, Narrow, Refused}
use Rattle.aia_model.specs.declared.refusal.Refusal.{Refusal}
use Rattle.aia_model.specs.declared.line.Line.{Line}
use Rattle.aia_model.specs.declared.line.Line.TheVariants.{Load, Store}
use Rattle.aia_model.specs.declared.msi.Msi.{Msi}
use Rattle.aia_model.specs.Event.{Event, History, harts_of}
use Rattle.aia_model.specs.Event.Event.{Accepted, Delivered}
use Rattle.aia_model.specs.declared.domain_name.DomainName.{DomainName}
use Rattle.aia_model.specs.Act.{domain_at, register_at}
use Rattle.aia_model.specs.FileAfter.FileDeed.{Stores, Rests}
use Rattle.aia_model.specs.FileOf.{FileName, is_at, page_at, deed_at, store_deed}
use Rattle.aia_model.specs.SourceOf.{register_read}
use Rattle.aia_model.specs.Sent.{acts_of}
use Rattle.aia_model.proofs.AnswerLemmas.{refused_by, place_refusal, load_refusal, store_refusal, outside_is_free}
use Rattle.aia_hyp_values.proofs.VcpuLemmas.{is_quiet_line, still_line, still_msi}
use Rattle.aia_hyp_values.specs.Core.{CoreState}
use Rattle.aia_hyp_values.specs.HostFiles.{HasDone, host_spot, is_host_spot}
use Rattle.aia_hyp_values.specs.Stands.{CoreStands, CoreTakes, CoreHears, core_refusal}
use Rattle.aia_hyp_values.proofs.NameLemmas.{name_at, at_name, other_spot, is_hosts}
use Rattle.aia_model.specs.Passes.{passed_by}
use Rattle.aia_hyp_values.specs.Passes.{number_of_pass}
use Rattle.aia_model.specs.Answer.{msi_taken, given_on}
use Rattle.aia_hyp_values.proofs.EventLemmas.{hosts_line, hosts_msi, IsHosts, Changes, one_more, nothing_done, one_done, file_done, accepted, refused}
use Rattle.aia_hyp_values.proofs.PageLemmas.{name_at_page, elsewhere, outside_regions}
use Rattle.aia_regs.specs.declared.limits.TheConstants.{HARTS}
use Rattle.aia_regs.specs.declared.address_map.TheConstants.{PAGE}

-- ---- a store at the file in whose page an address lies

-- what the call of the files says of it
pub record IsStored (x y : CoreState) (addr value : ℕ) (spot : Spot) : Type 0 where
  pub few : x.world.imsic.harts ≤ HARTS
  pub at : spot ≡ spot_at x.world.imsic.harts x.world.imsic.guests addr
  pub host : is_host_spot spot ≡ true
  pub there : IsThere x.world.imsic spot
  pub lands : SameFile (shown (file_at y.world.imsic spot)) (landed (addr % PAGE) value (shown (file_at x.world.imsic spot)))
  pub others : y.world ≡ record x.world { imsic = with_file x.world.imsic spot (file_at y.world.imsic spot) }
  pub leases : y.leases ≡ x.leases
  pub vcpus : y.vcpus ≡ x.vcpus
  pub selects : y.selects ≡ x.selects
  pub passes : y.passes ≡ x.passes

-- an event that is such a store changes just that file
pub stored_changes : (x y : CoreState) (addr value : ℕ) (spot : Spot) (h : History) (event : Event)
    → ((f : FileName) → deed_at f h event ≡ store_deed f addr value) → IsHosts h event → CoreStands x h → IsStored x y addr value spot
    → Changes x y h event
stored_changes x y addr value spot h event is hosts stands stored =
    let f = name_at spot in
    let named : spot ≡ host_spot f = at_name spot stored.host in
    let here : is_at f addr ≡ true = name_at_page x.world.imsic addr f (sym stored.at ∙ named) in
    let done : HasDone x y f (Stores (addr % PAGE) value) =
    file_done x y f (Stores (addr % PAGE) value) spot named stored.there stored.others stored.leases stored.vcpus stored.selects stored.passes
    stored.lands refl in
    one_done x y h event f stands (subst (HasDone x y f) (sym (is f ∙ cond-true _ _ _ here)) done) hosts
    (λ g inside ne. is g ∙ cond-false _ _ _ (elsewhere x.world.imsic addr spot g stored.few stored.at inside (λ e. other_spot f g ne (e ∙ named))))

-- ---- lines

pub page_stands : (x : CoreState) (h : History) (addr : ℕ) → CoreStands x h → spot_at x.world.imsic.harts x.world.imsic.guests addr ≡ page_at h addr
page_stands x h addr stands = ap (λ k. spot_at k x.world.imsic.guests addr) stands.harts ∙ ap (λ k. spot_at (harts_of h) k addr) stands.guests

-- the word by which the core refuses a place is the model's
word_stands : (x : CoreState) (h : History) (addr : ℕ) (word : Option Refusal) → domain_at addr ≡ None
    → word ≡ core_refusal (spot_at x.world.imsic.harts x.world.imsic.guests addr) addr → CoreStands x h
    → refused_by (place_refusal (page_at h addr) addr) ≡ refused_by word
word_stands x h addr word outside is stands =
    ap refused_by (ap (λ s. place_refusal s addr) (sym (page_stands x h addr stands))
    ∙ outside_regions (spot_at x.world.imsic.harts x.world.imsic.guests addr) addr outside ∙ sym is)

pub load_refused : (x : CoreState) (addr : ℕ) (word : Refusal) → domain_at addr ≡ None
    → Some word ≡ core_refusal (spot_at x.world.imsic.harts x.world.imsic.guests addr) addr → CoreTakes x x (Load addr) (Refused word)
load_refused x addr word outside is = refused x (Load addr) (Refused word)
    (λ h stands. load_refusal h addr stands.there ∙ word_stands x h addr (Some word) outside is stands)

pub store_refused : (x : CoreState) (addr value : ℕ) (word : Refusal) → domain_at addr ≡ None
    → Some word ≡ core_refusal (spot_at x.world.imsic.harts x.world.imsic.guests addr) addr → CoreTakes x x (Store addr value) (Refused word)
store_refused x addr value word outside is = refused x (Store addr value) (Refused word)
    (λ h stands. store_refusal h addr value stands.there (outside_is_free h addr value outside) ∙ word_stands x h addr (Some word) outside is stands)

pub loaded : (x : CoreState) (addr : ℕ) → domain_at addr ≡ None → None ≡ core_refusal (spot_at x.world.imsic.harts x.world.imsic.guests addr) addr
    → CoreTakes x x (Load addr) (Narrow 0)
loaded x addr outside is = accepted x x (Load addr) (Narrow 0) refl refl (λ h stands. (
  load_refusal h addr stands.there ∙ word_stands x h addr None outside is stands,
  sym (ap (λ (o : Option DomainName). Narrow (option_map_or (λ d. register_read (acts_of h) d (register_at addr)) o 0)) outside),
  nothing_done x h (Accepted (Load addr)) stands (hosts_line h (Load addr) refl refl (λ g. refl) (λ g m. refl)) (λ f inside. refl),
))

pub stored : (x y : CoreState) (addr value : ℕ) (spot : Spot) → domain_at addr ≡ None
    → None ≡ core_refusal (spot_at x.world.imsic.harts x.world.imsic.guests addr) addr → IsStored x y addr value spot
    → CoreTakes x y (Store addr value) Okay
stored x y addr value spot outside is done = accepted x y (Store addr value) Okay refl refl (λ h stands. (
  store_refusal h addr value stands.there (outside_is_free h addr value outside) ∙ word_stands x h addr None outside is stands,
  refl,
  stored_changes x y addr value spot h (Accepted (Store addr value)) (λ f. refl)
      (hosts_line h (Store addr value) refl refl (λ g. refl) (λ g m. refl)) stands done,
))

-- ---- MSIs

-- of no passed source
heard_by : (y : CoreState) (h : History) (msi : Msi) → passed_by h msi.source ≡ None → CoreStands y (Delivered msi ∷ h)
    → CoreStands y (msi_taken msi h)
heard_by y h msi unpassed stands = subst (λ (o : Option ℕ). CoreStands y (given_on o (Delivered msi ∷ h))) (sym unpassed) stands

-- the core's passes tell which pass it is of
pub pass_is : (x : CoreState) (h : History) (source : Option ℕ) → CoreStands x h → number_of_pass x.passes source ≡ passed_by h source
pass_is x h None stands = refl
pass_is x h (Some s) stands = ap (λ passes. number_of_pass passes (Some s)) stands.passes.same

pub msi_landed : (x y : CoreState) (msi : Msi) (spot : Spot) → IsStored x y msi.address msi.value spot → number_of_pass x.passes msi.source ≡ None
    → CoreHears x y msi
msi_landed x y msi spot done none = λ h stands may.
    let unpassed = sym (pass_is x h msi.source stands) ∙ none in
    heard_by y h msi unpassed (one_more x y h (Delivered msi)
    (stored_changes x y msi.address msi.value spot h (Delivered msi) (λ f. refl) (hosts_msi h msi unpassed) stands done) (still_msi h msi) stands)

pub msi_dropped : (x : CoreState) (msi : Msi) (spot : Spot) → x.world.imsic.harts ≤ HARTS
    → spot ≡ spot_at x.world.imsic.harts x.world.imsic.guests msi.address → is_host_spot spot ≡ false → number_of_pass x.passes msi.source ≡ None
    → CoreHears x x msi
msi_dropped x msi spot few at away none = λ h stands may.
    let unpassed = sym (pass_is x h msi.source stands) ∙ none in
    heard_by x h msi unpassed (one_more x x h (Delivered msi)
    (nothing_done x h (Delivered msi) stands (hosts_msi h msi unpassed)
    (λ f inside. cond-false _ _ _ (elsewhere x.world.imsic msi.address spot f few at inside (other f)))) (still_msi h msi) stands)
  where
    other : (f : FileName) → host_spot f ≢ spot
    other f e = let bad : true ≡ false = sym (is_hosts f) ∙ ap is_host_spot e ∙ away in absurd (cc)

-- ---- lines of the APLIC, which are nothing to the core

-- a line that reaches no file of the host and makes no machine
pub line_rests : (x : CoreState) (h : History) (line : Line) → is_quiet_line line ≡ true → IsHosts h (Accepted line)
    → ((f : FileName) → deed_at f h (Accepted line) ≡ Rests) → CoreStands x h → CoreStands x (Accepted line ∷ h)
line_rests x h line plain hosts rests stands =
    one_more x x h (Accepted line) (nothing_done x h (Accepted line) stands hosts (λ f inside. rests f)) (still_line h line plain) stands
