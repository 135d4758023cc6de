-- What one event more makes of a core that stands for a history, and what a line answers by its
-- refusal.
use Rattle.std.proofs.Common.{◌≡◌, ◌≢◌, ℕ, ◌<◌, ◌≤◌, Bool, true, false, nat_lt, get_or, List, length, ◌∷◌, Option, Some, None, unwrap_or, inl, inr, refl, sym, ap, subst, ◌∙◌, arith, cond}
use Rattle.std.specs.Prelude.{Result, Ok}
use Rattle.std.proofs.lemmas.Bool.{cond-true, lt-ltb}
use Rattle.std.proofs.lemmas.List.{set-get_or}
use Rattle.std.proofs.lemmas.Option.{none-some}
use Rattle.aia_regs.specs.declared.limits.TheConstants.{VCPUS}
use Rattle.aia_file.specs.InterruptFile.{InterruptFile, SameFile, signals}
use Rattle.aia_file.specs.FileState.{FileState, shown}
use Rattle.aia_file.specs.declared.spot.Spot.{Spot}
use Rattle.aia_file.specs.declared.spot.Spot.TheVariants as spots
use Rattle.aia_file.specs.Imsic.{ImsicState, IsThere, file_at, with_file, place_of, no_file}
use Rattle.aia_file.proofs.PlaceLemmas.{kept_elsewhere}
use Rattle.aia_file.specs.Mrif.{mrif_in}
use Rattle.aia_entry.specs.Tables.{table_of, entry_in_force}
use Rattle.aia_vcpu.specs.declared.vm.Vm.{Vm}
use Rattle.aia_vcpu.specs.declared.place.GuestPlace.{GuestPlace}
use Rattle.aia_vcpu.specs.Vms.{Vcpu, vcpus_in, is_vcpu_in, slot_of}
use Rattle.aia_vcpu.specs.Home.{holds}
use Rattle.aia_pool.specs.Leases.{Leases, is_out}
use Rattle.aia_fabric_values.specs.World.{no_stage}
use Rattle.aia_fabric_values.specs.Changes.{spot_of}
use Rattle.aia_fabric_values.specs.World.{World}
use Rattle.aia_model.specs.declared.answer.Answer.{Answer}
use Rattle.aia_model.specs.declared.refusal.Refusal.{Refusal}
use Rattle.aia_model.specs.declared.line.Line.{Line}
use Rattle.aia_model.specs.Event.{Event, History, harts_of}
use Rattle.aia_model.specs.declared.msi.Msi.{Msi}
use Rattle.aia_model.specs.Event.Event.{Accepted, Delivered}
use Rattle.aia_model.specs.Histories.{IsHistory}
use Rattle.aia_model.specs.Vms.{vms_of, has_vm, has_vcpu}
use Rattle.aia_model.specs.FileAfter.{FileDeed, select_after, file_after}
use Rattle.aia_model.specs.FileAfter.FileDeed.{Rests}
use Rattle.aia_model.specs.Move.{line_deed}
use Rattle.aia_model.specs.Move.LineDeed.{NoMove}
use Rattle.aia_model.specs.HomeOf.{home}
use Rattle.aia_model.specs.Passes.{passed_by}
use Rattle.aia_model.specs.GuestFile.{guest_deed, goes_to_guest, passed_deed}
use Rattle.aia_model.specs.Notice.{noticed}
use Rattle.aia_model.specs.FileOf.{FileName, MachineFile, SupervisorFile, deed_at, file_of}
use Rattle.aia_model.specs.Refusal.{refusal}
use Rattle.aia_model.specs.Answer.{accepted_answer, deed_taken}
use Rattle.aia_model.proofs.AnswerLemmas.{answered}
use Rattle.aia_model.proofs.FileLemmas.{same_or_other}
use Rattle.aia_model.proofs.HistoryLemmas.{line_happens}
use Rattle.aia_hyp_values.specs.Core.{VcpuRecord}
use Rattle.aia_hyp_values.specs.Core.{CoreState, no_record}
use Rattle.aia_hyp_values.specs.HostFiles.{FileDone, HasDone, host_spot, select_place, select_in}
use Rattle.aia_hyp_values.specs.Stands.{StandsForSome, VcpuStands, is_held, CoreStands, CoreTakes, line_served, signals_of}
use Rattle.aia_hyp_values.proofs.VcpuLemmas.{IsQuiet, quiet_line, quiet_msi, MajorsRest, guest_rests, files_alone, held_stays, is_quiet_line, IsStill, still_line, is_quiet_line}
use Rattle.aia_hyp_values.proofs.NameLemmas.{no_guest, is_hosts, other_spot}
use Rattle.aia_hyp_values.proofs.StandsLemmas.{count_after, Becomes, stands_after, built_as, flights_stay, none_passes, keeps_by}
use Rattle.aia_fabric_values.proofs.FrameLemmas.{files_rest}
use Rattle.aia_fabric_values.specs.World.{OnlyStores}

-- ---- one event more

-- What an event changes that is nothing to any home: it leaves the machine, the VMs with their
-- tables and records, the leases and what nobody has, and is to each file that is there the deed
-- that was done at it.
pub record Changes (x y : CoreState) (h : History) (event : Event) : Type 0 where
  pub quiet : IsQuiet h event
  pub rest : OnlyStores x.world y.world
  pub leases : y.leases ≡ x.leases
  pub passes : y.passes ≡ x.passes
  pub records : length y.vcpus ≡ length x.vcpus
  pub count : y.world.notices ≡ count_after (noticed h event) x.world.notices
  pub host : (f : FileName) → IsThere x.world.imsic (host_spot f) → FileDone x y f (deed_at f h event)
  pub vcpus : (g : Vcpu) → has_vcpu h g ≡ true → VcpuStands x h g → VcpuStands y (event ∷ h) g
  pub free_files : (p : GuestPlace) → IsThere x.world.imsic (spot_of p) → is_held h p ≡ false
      → file_at y.world.imsic (spot_of p) ≡ file_at x.world.imsic (spot_of p)
  pub no_vcpu : (g : Vcpu) → has_vcpu h g ≡ false → guest_deed g h event ≡ Rests
  pub no_majors : (g : Vcpu) → has_vcpu h g ≡ false → MajorsRest g event
  pub no_slot : (q : ℕ) → vcpus_in (vms_of h) ≤ q → q < VCPUS → mrif_in y.world.memory q ≡ mrif_in x.world.memory q

pub changed : (x y : CoreState) (h : History) (event : Event) → Changes x y h event → CoreStands x h → Becomes x y h event
changed x y h event c stands = record {
  keeps = keeps_by x y h event c.quiet.plain (built_as x.world y.world y.world.imsic.files y.world.memory x.world.vms x.world.tables
      x.world.flights x.world.stages y.world.notices c.rest);
  vms = ap (λ (w : World). w.vms) c.rest ∙ stands.vms ∙ sym c.quiet.stays.vms;
  count = c.count;
  host = c.host;
  records = c.records ∙ stands.records ∙ ap vcpus_in (sym c.quiet.stays.vms);
  vcpus = λ g inside. let before = was_there g inside in c.vcpus g before (stands.vcpus g before);
  lease_harts = ap (λ (l : Leases). l.harts) c.leases;
  lease_guests = ap (λ (l : Leases). l.guests) c.leases;
  lease_count = ap (λ (l : Leases). length l.out) c.leases;
  leases = λ p inside. ap (λ l. is_out l p) c.leases ∙ stands.leases p inside ∙ sym (held_stays h event c.quiet.stays p);
  held = λ g p inside holding. stands.held g p (was_there g inside) (still_held g p holding);
  apart = λ a b p ia ib ha hb. stands.apart a b p (was_there a ia) (was_there b ib) (still_held a p ha) (still_held b p hb);
  free = λ p inside none.
      let was : is_held h p ≡ false = sym (held_stays h event c.quiet.stays p) ∙ none in
      ap shown (c.free_files p inside was) ∙ stands.free p inside was;
  no_vcpu = λ g outside. let before = was_missing g outside in (before, c.no_vcpu g before, c.quiet.stays.homes g, c.no_majors g before);
  no_entry = λ g inside outside.
      let there : has_vm h g.vm ≡ true = ap (λ (vms : List Vm). nat_lt g.vm (length vms)) (sym c.quiet.stays.vms) ∙ inside in
      ap (λ (w : World). entry_in_force (table_of w.tables g.vm) g.vcpu) c.rest ∙ stands.no_entry g there (was_missing g outside);
  no_slot = λ q past few.
      let before : vcpus_in (vms_of h) ≤ q = subst (λ (vms : List Vm). vcpus_in vms ≤ q) c.quiet.stays.vms past in
      (before, c.no_slot q before few, ap (λ (w : World). get_or w.stages q no_stage) c.rest);
}
  where
    was_there : (g : Vcpu) → has_vcpu (event ∷ h) g ≡ true → has_vcpu h g ≡ true
    was_there g inside = ap (λ vms. is_vcpu_in vms g) (sym c.quiet.stays.vms) ∙ inside

    was_missing : (g : Vcpu) → has_vcpu (event ∷ h) g ≡ false → has_vcpu h g ≡ false
    was_missing g outside = ap (λ vms. is_vcpu_in vms g) (sym c.quiet.stays.vms) ∙ outside

    still_held : (g : Vcpu) (p : GuestPlace) → holds p (home (event ∷ h) g) ≡ true → holds p (home h g) ≡ true
    still_held g p holding = ap (holds p) (sym (c.quiet.stays.homes g)) ∙ holding

pub one_more : (x y : CoreState) (h : History) (event : Event) → Changes x y h event → IsStill h event → CoreStands x h → CoreStands y (event ∷ h)
one_more x y h event changes still stands = stands_after x y h event (changed x y h event changes stands)
    (flights_stay x y h event still (ap (λ (w : World). w.flights) changes.rest) stands)
    (none_passes x y h event still.passes still.rest changes.passes stands) stands

-- ---- events of the host, which are nothing to guests

pub record IsHosts (h : History) (event : Event) : Type 0 where
  pub quiet : IsQuiet h event
  pub none : noticed h event ≡ None
  pub guests : (g : Vcpu) → guest_deed g h event ≡ Rests
  pub majors : (g : Vcpu) → MajorsRest g event

pub hosts_line : (h : History) (line : Line) → is_quiet_line line ≡ true → noticed h (Accepted line) ≡ None
    → ((g : Vcpu) → guest_deed g h (Accepted line) ≡ Rests) → ((g : Vcpu) → MajorsRest g (Accepted line)) → IsHosts h (Accepted line)
hosts_line h line plain none guests majors = record { quiet = quiet_line h line plain; none = none; guests = guests; majors = majors }

-- an MSI that is of no passed source
pub hosts_msi : (h : History) (msi : Msi) → passed_by h msi.source ≡ None → IsHosts h (Delivered msi)
hosts_msi h msi unpassed = record {
  quiet = quiet_msi h msi;
  none = refl;
  guests =
      λ g. ap (λ o. cond (goes_to_guest h msi) (passed_deed g h o) Rests) unpassed ∙ either (goes_to_guest h msi);
  majors = λ g m. refl;
}
  where
    either : (b : Bool) → ◌≡◌ {A = FileDeed} (cond b Rests Rests) Rests
    either true = refl
    either false = refl

-- nothing was done at a file
pub as_it_was : (file : InterruptFile) → SameFile file file
as_it_was file = record { n = refl; pending = λ i. refl; enabled = λ i. refl; threshold = refl; delivery = refl }

-- an event of the host, where its files alone may have changed
host_alone : (x y : CoreState) (h : History) (event : Event) → IsHosts h event → y.world ≡ record x.world { imsic = y.world.imsic }
    → y.leases ≡ x.leases → y.passes ≡ x.passes → y.vcpus ≡ x.vcpus → y.world.imsic.harts ≡ x.world.imsic.harts
    → y.world.imsic.guests ≡ x.world.imsic.guests
    → ((f : FileName) → IsThere x.world.imsic (host_spot f) → FileDone x y f (deed_at f h event))
    → ((p : GuestPlace) → IsThere x.world.imsic (spot_of p) → file_at y.world.imsic (spot_of p) ≡ file_at x.world.imsic (spot_of p))
    → ((g : Vcpu) (p : GuestPlace) → has_vcpu h g ≡ true → holds p (home h g) ≡ true → IsThere x.world.imsic (spot_of p))
    → Changes x y h event
host_alone x y h event hosts rest leases passes vcpus harts guests files guest_files held =
    let vms = ap (λ (w : World). w.vms) rest in
    record {
      quiet = hosts.quiet;
      rest = files_rest x.world y.world rest harts guests;
      leases = leases;
      passes = passes;
      records = ap (λ (rs : List VcpuRecord). length rs) vcpus;
      count = ap (λ (w : World). w.notices) rest ∙ ap (λ who. count_after who x.world.notices) (sym hosts.none);
      host = files;
      vcpus = λ g inside p. guest_rests x y h event g hosts.quiet.stays
          (record { n = ap (λ (w : World). w.n) rest; vms = vms; harts = harts; guests = guests }) (hosts.guests g) (hosts.majors g)
          (λ k. get_or (vcpus k) (slot_of (vms k) g) no_record)
          (files_alone x.world y.world g (home h g) rest (λ q holding. guest_files q (held g q inside holding))) p;
      free_files = λ p inside none. guest_files p inside;
      no_vcpu = λ g outside. hosts.guests g;
      no_majors = λ g outside. hosts.majors g;
      no_slot = λ q past few. ap (λ (w : World). mrif_in w.memory q) rest;
    }

-- an event that is nothing to any file that is there
pub nothing_done : (x : CoreState) (h : History) (event : Event) → CoreStands x h → IsHosts h event
    → ((f : FileName) → IsThere x.world.imsic (host_spot f) → deed_at f h event ≡ Rests) → Changes x x h event
nothing_done x h event stands hosts rests =
    host_alone x x h event hosts refl refl refl refl refl refl
    (λ f inside. subst (FileDone x x f) (sym (rests f inside))
    (record { file = as_it_was (shown (file_at x.world.imsic (host_spot f))); select = refl })) (λ p inside. refl) stands.held

-- nothing was done at one file where something was done at another
pub nothing_elsewhere : (x y : CoreState) (f g : FileName) (deed : FileDeed) → HasDone x y f deed → IsThere x.world.imsic (host_spot g) → g ≢ f
    → FileDone x y g Rests
nothing_elsewhere x y f g deed done inside ne = record {
  file = subst (λ (file : FileState). SameFile (shown file) (shown (file_at x.world.imsic (host_spot g))))
      (sym (done.files (host_spot g) inside (other_spot f g ne))) (as_it_was (shown (file_at x.world.imsic (host_spot g))));
  select = done.selects g ne;
}

-- an event that is a deed at one file, where it was done, and nothing to the others
pub one_done : (x y : CoreState) (h : History) (event : Event) (f : FileName) → CoreStands x h → HasDone x y f (deed_at f h event) → IsHosts h event
    → ((g : FileName) → IsThere x.world.imsic (host_spot g) → g ≢ f → deed_at g h event ≡ Rests) → Changes x y h event
one_done x y h event f stands done hosts rests =
    host_alone x y h event hosts done.rest done.leases done.passes done.vcpus done.harts done.guests
    (λ g inside. elim (same_or_other g f) [
      | inl e ↦ subst (λ (n : FileName). FileDone x y n (deed_at n h event)) (sym e) done.done
      | inr ne ↦ subst (FileDone x y g) (sym (rests g inside ne)) (nothing_elsewhere x y f g (deed_at f h event) done inside ne)
    ])
    (λ p inside. done.files (spot_of p) inside (no_guest (host_spot f) (is_hosts f) p.hart p.file))
    stands.held

-- a deed was done at one file, which stands now in the place of the old one
pub file_done : (x y : CoreState) (f : FileName) (deed : FileDeed) (spot : Spot) → spot ≡ host_spot f → IsThere x.world.imsic spot
    → y.world ≡ record x.world { imsic = with_file x.world.imsic spot (file_at y.world.imsic spot) } → y.leases ≡ x.leases → y.vcpus ≡ x.vcpus
    → y.selects ≡ x.selects → y.passes ≡ x.passes
    → SameFile (shown (file_at y.world.imsic spot)) (file_after (select_in x f) deed (shown (file_at x.world.imsic spot)))
    → select_after deed (select_in x f) ≡ select_in x f → HasDone x y f deed
file_done x y f deed spot named there world leases vcpus selects passes done select =
    let imsic : y.world.imsic ≡ with_file x.world.imsic spot (file_at y.world.imsic spot) = ap (λ (w : World). w.imsic) world in
    record {
      harts = ap (λ (i : ImsicState). i.harts) imsic;
      guests = ap (λ (i : ImsicState). i.guests) imsic;
      rest = world ∙ ap (λ (i : ImsicState). record x.world { imsic = i }) (sym imsic);
      leases = leases;
      passes = passes;
      vcpus = vcpus;
      done = record {
        file = subst (λ (s : Spot). SameFile (shown (file_at y.world.imsic s))
            (file_after (select_in x f) deed (shown (file_at x.world.imsic s)))) named done;
        select = ap (λ xs. get_or xs (select_place f) 0) selects ∙ sym select;
      };
      files = λ other inside ne. ap (λ (i : ImsicState). file_at i other) imsic
          ∙ kept_elsewhere x.world.imsic spot other (file_at y.world.imsic spot) there inside (λ e. ne (e ∙ named));
      selects = λ g ne. ap (λ xs. get_or xs (select_place g) 0) selects;
    }

-- a file in its own place changes nothing
pub kept_file : (w : World) (spot : Spot) → w ≡ record w { imsic = with_file w.imsic spot (file_at w.imsic spot) }
kept_file w spot = ap (λ (files : List FileState). record w { imsic = record w.imsic { files = files } })
    (sym (set-get_or w.imsic.files (place_of w.imsic spot) no_file))

-- a deed that leaves its file and select number
pub none_done : (x : CoreState) (f : FileName) (deed : FileDeed)
    → file_after (select_in x f) deed (shown (file_at x.world.imsic (host_spot f))) ≡ shown (file_at x.world.imsic (host_spot f))
    → select_after deed (select_in x f) ≡ select_in x f → HasDone x x f deed
none_done x f deed file select = record {
  harts = refl;
  guests = refl;
  rest = refl;
  leases = refl;
  passes = refl;
  vcpus = refl;
  done = record {
    file = subst (SameFile (shown (file_at x.world.imsic (host_spot f)))) (sym file)
        (as_it_was (shown (file_at x.world.imsic (host_spot f))));
    select = sym select;
  };
  files = λ spot inside ne. refl;
  selects = λ g ne. refl;
}

-- ---- what a line answers and leaves, by its refusal

-- for each history its refusal, the answer and what is left
pub by_refusal : (x y : CoreState) (line : Line) (given : Answer)
    → ((h : History) → CoreStands x h → (r : Option Answer) × (refusal h line ≡ r) × (given ≡ unwrap_or r (accepted_answer h line))
    × CoreStands y (line_served r h line) × ((word : Answer) → r ≡ Some word → y ≡ x)) → CoreTakes x y line given
by_refusal x y line given by = record {
  answers = λ h stands. let r = by h stands in r.2 ∙ sym (answered h line r.0 r.1);
  stands = λ h stands. let r = by h stands in subst (λ (o : Option Answer). CoreStands y (line_served o h line)) (sym r.1) r.3;
  unchanged = λ h word stands is. let r = by h stands in r.4 word (sym r.1 ∙ is);
}

-- an accepted line that makes no move, whatever it makes of the core
pub taken : (x y : CoreState) (line : Line) (given : Answer) → line_deed line ≡ NoMove
    → ((h : History) → CoreStands x h → (refusal h line ≡ None) × (given ≡ accepted_answer h line) × CoreStands y (Accepted line ∷ h))
    → CoreTakes x y line given
taken x y line given still by = by_refusal x y line given
    (λ h stands. let r = by h stands in (
      None,
      r.0,
      r.1,
      subst (λ d. CoreStands y (deed_taken h line d)) (sym still) r.2,
      λ word e. absurd (none-some word e),
    ))

pub accepted : (x y : CoreState) (line : Line) (given : Answer) → is_quiet_line line ≡ true → line_deed line ≡ NoMove
    → ((h : History) → CoreStands x h → (refusal h line ≡ None) × (given ≡ accepted_answer h line) × Changes x y h (Accepted line))
    → CoreTakes x y line given
accepted x y line given plain still by = taken x y line given still
    (λ h stands. let r = by h stands in (r.0, r.1, one_more x y h (Accepted line) r.2 (still_line h line plain) stands))

pub refused : (x : CoreState) (line : Line) (word : Answer) → ((h : History) → CoreStands x h → refusal h line ≡ Some word) → CoreTakes x x line word
refused x line word is = by_refusal x x line word (λ h stands. (Some word, is h stands, refl, stands, λ w e. refl))

-- ---- signals

pub signals_there : (x : CoreState) (h : History) (hart : ℕ) (machine supervisor : Bool) → hart < x.world.imsic.harts
    → machine ≡ signals (shown (file_at x.world.imsic (spots.MachineFile hart)))
    → supervisor ≡ signals (shown (file_at x.world.imsic (spots.SupervisorFile hart)))
    → CoreStands x h → ◌≡◌ {A = Result (Bool × Bool) Refusal} (Ok (machine, supervisor)) (signals_of h hart)
signals_there x h hart machine supervisor inside by_machine by_supervisor stands =
    ap (λ b. Ok (b, supervisor)) (by_machine ∙ ap signals (stands.host (MachineFile hart) inside).file)
    ∙ ap (λ b. Ok (signals (file_of h (MachineFile hart)), b)) (by_supervisor ∙ ap signals (stands.host (SupervisorFile hart) inside).file)
    ∙ sym (cond-true _ _ _ (lt-ltb hart (harts_of h) (omega (arith, stands.harts))))

-- ---- so it stands for some history still

served_happens : (word : Option Answer) (h : History) (line : Line) → refusal h line ≡ word → IsHistory h → IsHistory (line_served word h line)
served_happens None h line e good = line_happens h line e good
served_happens (Some word) h line e good = good

pub still : (x y : CoreState) (line : Line) (given : Answer) → CoreTakes x y line given → StandsForSome x → StandsForSome y
still x y line given takes some = record {
  past = line_served (refusal some.past line) some.past line;
  happens = served_happens (refusal some.past line) some.past line refl some.happens;
  stands = takes.stands some.past some.stands;
}
