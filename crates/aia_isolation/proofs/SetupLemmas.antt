-- What an event says turns on the machine, the VMs and the stores of the VM in flight alone.
use Rattle.std.proofs.Common.{◌≡◌, ℕ, zero, suc, ◌%◌, false, nat_eq, if◌then◌else◌, List, [], ◌∷◌, ◌++◌, map, length, slice_get, slice_index_or, Option, Some, None, inl, inr, refl, sym, ap, subst, ◌∙◌}
use Rattle.std.specs.List.{remove}
use Rattle.std.specs.Option.{option_map, option_map_or}
use Rattle.std.proofs.lemmas.Bool.{cases_Bool, and_left, eqb-true, eqb-false, ne_eqb, cond-false}
use Rattle.std.proofs.lemmas.List.{length-map, map-append}
use Rattle.std.proofs.lemmas.Option.{slice_get-map}
use Rattle.aia_regs.specs.Request.{requested}
use Rattle.aia_entry.specs.Translation.{file_number}
use Rattle.aia_vcpu.specs.declared.vm.Vm.{Vm}
use Rattle.aia_vcpu.specs.Vms.{Vcpu, vcpu_of, is_vcpu, vm_in}
use Rattle.aia_model.specs.declared.line.Line.TheVariants.{Machine, Send, Ipi}
use Rattle.aia_model.specs.declared.line.Line.TheVariants as lines
use Rattle.aia_model.specs.Event.{Event, History, MachineSize, machine_of}
use Rattle.aia_model.specs.Event.Event.{Accepted, Began, Stepped, Delivered, Landed, Relayed}
use Rattle.aia_model.specs.Vms.{vms_of}
use Rattle.aia_model.specs.Flight.{Sending, flight, flying}
use Rattle.aia_word.specs.Sets.{least_of}
use Rattle.aia_file.specs.Map.{spot_at, is_guest_page}
use Rattle.aia_model.specs.declared.msi.Msi.{Msi}
use Rattle.aia_model.specs.Passes.{PassedSource, no_pass, passes_of, passed_by}
use Rattle.aia_model.specs.GuestFile.{sent_to, goes_to_guest}
use Rattle.aia_isolation.specs.Said.{Said, said_by, landing_said, passed_said}
use Rattle.aia_isolation.specs.Said.Said.{Asked}
use Rattle.aia_isolation.specs.Replies.{sets_up, is_of_flight}
use Rattle.aia_regs.specs.declared.address_map.TheConstants.{PAGE}

-- ---- the machine and the VMs

-- Two histories set up the same, and pass the same sources.
abbrev pub SameSetup : History → History → Type 0
SameSetup h k = (machine_of h ≡ machine_of k) × (vms_of h ≡ vms_of k) × (passes_of h ≡ passes_of k)

pub both_setup : (event : Event) (h k : History) → SameSetup h k → SameSetup (event ∷ h) (event ∷ k)
unfolding passes_of
both_setup (Accepted (Machine harts guests n sources)) h k same = (refl, same.1, same.2)
both_setup (Accepted (lines.Vm vcpus mask hart)) h k same =
    (same.0, ap (λ vms. vms ++ record { vcpus = vcpus; mask = mask; notice_hart = hart } ∷ []) same.1, same.2)
both_setup (Accepted (lines.Pass source vm vcpu identity)) h k same =
    (same.0, same.1, ap (λ xs. xs ++ record { source = source; to = vcpu_of vm vcpu; identity = identity } ∷ []) same.2)
both_setup (Accepted line) h k same = same
both_setup (Began move) h k same = same
both_setup (Stepped g) h k same = same
both_setup (Delivered msi) h k same = same
both_setup (Relayed p) h k same = same
both_setup (Landed vm n) h k same = same

pub left_setup : (event : Event) (h : History) → sets_up event ≡ false → SameSetup h (event ∷ h)
unfolding passes_of
left_setup (Accepted (Machine harts guests n sources)) h e = absurd (cc)
left_setup (Accepted (lines.Vm vcpus mask hart)) h e = absurd (cc)
left_setup (Accepted (lines.Pass source vm vcpu identity)) h e = absurd (cc)
left_setup (Accepted line) h e = (refl, refl, refl)
left_setup (Began move) h e = (refl, refl, refl)
left_setup (Stepped g) h e = (refl, refl, refl)
left_setup (Delivered msi) h e = (refl, refl, refl)
left_setup (Relayed p) h e = (refl, refl, refl)
left_setup (Landed vm n) h e = (refl, refl, refl)

-- ---- the stores of a VM in flight

-- What is seen of one: the virtual hart that it is for, and the store.
pub record Seen : Type 0 where
  pub to : Vcpu
  pub addr : ℕ
  pub value : ℕ

abbrev pub seen_of : ℕ → Sending → Seen
seen_of v s = record { to = sent_to v s; addr = s.addr; value = s.value }

-- Two histories after which the same stores of a VM are in flight.
abbrev pub SameFlight : ℕ → History → History → Type 0
SameFlight v h k = map (seen_of v) (flight h v) ≡ map (seen_of v) (flight k v)

pub same_length : (v : ℕ) (h k : History) → SameFlight v h k → length (flight h v) ≡ length (flight k v)
same_length v h k same = sym (length-map (flight h v) (seen_of v)) ∙ ap length same ∙ length-map (flight k v) (seen_of v)

map_remove : {A B : Type 0} (f : A → B) (xs : List A) (n : ℕ) → map f (remove xs n) ≡ remove (map f xs) n
map_remove f [] zero = refl
map_remove f [] (suc n) = refl
map_remove f (x ∷ xs) zero = refl
map_remove f (x ∷ xs) (suc n) = ap (λ ys. f x ∷ ys) (map_remove f xs n)

-- one more that is sent after both
sent_both : (v addr value : ℕ) (h k : History) → SameSetup h k → SameFlight v h k
    → map (seen_of v) (flight h v ++ record { before = h; addr = addr; value = value } ∷ []) ≡ map (seen_of v)
    (flight k v ++ record { before = k; addr = addr; value = value } ∷ [])
sent_both v addr value h k setup same =
    map-append (seen_of v) (flight h v) (record { before = h; addr = addr; value = value } ∷ [])
    ∙ ap (λ xs. xs ++ seen_of v (record { before = h; addr = addr; value = value }) ∷ []) same
    ∙ ap (λ vms. map (seen_of v) (flight k v) ++ record
    { to = vcpu_of v (file_number (vm_in vms v).mask addr); addr = addr; value = value } ∷ []) setup.1
    ∙ sym (map-append (seen_of v) (flight k v) (record { before = k; addr = addr; value = value } ∷ []))

both_flight : (v : ℕ) (event : Event) (h k : History) → SameSetup h k → SameFlight v h k → SameFlight v (event ∷ h) (event ∷ k)
unfolding flight
both_flight v (Accepted (Send vm addr value)) h k setup same = elim (cases_Bool (nat_eq vm v)) [
  | inl own ↦ rw own (sent_both v addr value h k setup same)
  | inr other ↦ rw other same
]
both_flight v (Landed vm n) h k setup same = elim (cases_Bool (nat_eq vm v)) [
  | inl own ↦ rw own (map_remove (seen_of v) (flight h v) n ∙ ap (λ xs. remove xs n) same ∙ sym (map_remove (seen_of v) (flight k v) n))
  | inr other ↦ rw other same
]
both_flight v (Accepted line) h k setup same = same
both_flight v (Began move) h k setup same = same
both_flight v (Stepped x) h k setup same = same
both_flight v (Delivered msi) h k setup same = same
both_flight v (Relayed p) h k setup same = same

left_flight : (v : ℕ) (event : Event) (h : History) → is_of_flight v event ≡ false → SameFlight v h (event ∷ h)
unfolding flight
left_flight v (Accepted (Send vm addr value)) h e = ap (map (seen_of v)) (sym (cond-false (nat_eq vm v) _ _ e))
left_flight v (Landed vm n) h e = ap (map (seen_of v)) (sym (cond-false (nat_eq vm v) _ _ e))
left_flight v (Accepted line) h e = refl
left_flight v (Began move) h e = refl
left_flight v (Stepped x) h e = refl
left_flight v (Delivered msi) h e = refl
left_flight v (Relayed p) h e = refl

-- ---- both

abbrev pub SameFor : ℕ → History → History → Type 0
SameFor v h k = SameSetup h k × SameFlight v h k

pub itself_for : (v : ℕ) (h : History) → SameFor v h h
itself_for v h = ((refl, refl, refl), refl)

pub for_then : (v : ℕ) (h k l : History) → SameFor v h k → SameFor v k l → SameFor v h l
for_then v h k l a b = ((a.0.0 ∙ b.0.0, a.0.1 ∙ b.0.1, a.0.2 ∙ b.0.2), a.1 ∙ b.1)

pub for_back : (v : ℕ) (h k : History) → SameFor v h k → SameFor v k h
for_back v h k a = ((sym a.0.0, sym a.0.1, sym a.0.2), sym a.1)

pub both_for : (v : ℕ) (event : Event) (h k : History) → SameFor v h k → SameFor v (event ∷ h) (event ∷ k)
both_for v event h k same = (both_setup event h k same.0, both_flight v event h k same.0 same.1)

pub left_for : (v : ℕ) (event : Event) (h : History) → sets_up event ≡ false → is_of_flight v event ≡ false → SameFor v h (event ∷ h)
left_for v event h quiet still = (left_setup event h quiet, left_flight v event h still)

-- ---- what is said is by both

abbrev said_of_msi : Vcpu → ℕ → ℕ → ℕ → Option MachineSize → List Vm → Option Said
said_of_msi g vm addr value machine vms =
    if is_vcpu g (vcpu_of vm (file_number (vm_in vms vm).mask addr)) then option_map Asked
    (requested (option_map_or (λ (m : MachineSize). m.n) machine 0) (addr % PAGE) value) else None

abbrev said_of_peer : Vcpu → ℕ → ℕ → ℕ → Option MachineSize → Option Said
said_of_peer g vm to value machine =
    if is_vcpu g (vcpu_of vm to) then option_map Asked (requested (option_map_or (λ (m : MachineSize). m.n) machine 0) 0 value) else None

abbrev said_of_landing : Vcpu → Option MachineSize → Option Seen → Option Said
said_of_landing g machine None = None
said_of_landing g machine (Some s) =
    if is_vcpu g s.to then option_map Asked (requested (option_map_or (λ (m : MachineSize). m.n) machine 0) (s.addr % PAGE) s.value) else None

abbrev said_of_pass : Vcpu → Option MachineSize → List PassedSource → Option ℕ → Option Said
said_of_pass g machine xs None = None
said_of_pass g machine xs (Some p) =
    if is_vcpu g (slice_index_or xs p no_pass).to then option_map Asked
    (requested (option_map_or (λ (m : MachineSize). m.n) machine 0) 0 (slice_index_or xs p no_pass).identity) else None

abbrev number_in : List PassedSource → Option ℕ → Option ℕ
number_in xs None = None
number_in xs (Some s) = least_of (λ p. nat_eq (slice_index_or xs p no_pass).source s) 0 (length xs)

abbrev said_of_forward : Vcpu → Msi → Option MachineSize → List PassedSource → Option Said
said_of_forward g msi machine xs =
    if is_guest_page (spot_at (option_map_or (λ (m : MachineSize). m.harts) machine 0) (option_map_or (λ (m : MachineSize). m.guests) machine 0)
    msi.address) then said_of_pass g machine xs (number_in xs msi.source) else None

forward_by : (h : History) (g : Vcpu) (msi : Msi) → said_by g h (Delivered msi) ≡ said_of_forward g msi (machine_of h) (passes_of h)
forward_by h g msi = ap (λ o. if goes_to_guest h msi then o else None)
    (by_number (passed_by h msi.source) (number_in (passes_of h) msi.source) (by_source msi.source))
  where
    by_source : (o : Option ℕ) → passed_by h o ≡ number_in (passes_of h) o
    by_source None = refl
    by_source (Some s) = refl

    by_pass : (o : Option ℕ) → passed_said g h o ≡ said_of_pass g (machine_of h) (passes_of h) o
    by_pass None = refl
    by_pass (Some p) = refl

    by_number : (o p : Option ℕ) → o ≡ p → passed_said g h o ≡ said_of_pass g (machine_of h) (passes_of h) p
    by_number o p e = by_pass o ∙ ap (said_of_pass g (machine_of h) (passes_of h)) e

landing_by : (h : History) (g : Vcpu) (vm : ℕ) (o : Option Sending)
    → landing_said g h vm o ≡ said_of_landing g (machine_of h) (option_map (seen_of vm) o)
landing_by h g vm None = refl
landing_by h g vm (Some s) = refl

seen_at : (v n : ℕ) (h k : History) → SameFlight v h k → option_map (seen_of v) (flying h v n) ≡ option_map (seen_of v) (flying k v n)
seen_at v n h k same = sym (slice_get-map (seen_of v) (flight h v) n) ∙ ap (λ xs. slice_get xs n) same ∙ slice_get-map (seen_of v) (flight k v) n

own_landing : (n : ℕ) (h k : History) (g : Vcpu) → SameFor g.vm h k
    → landing_said g h g.vm (flying h g.vm n) ≡ landing_said g k g.vm (flying k g.vm n)
own_landing n h k g same =
    landing_by h g g.vm (flying h g.vm n) ∙ ap (λ machine. said_of_landing g machine (option_map (seen_of g.vm) (flying h g.vm n))) same.0.0
    ∙ ap (said_of_landing g (machine_of k)) (seen_at g.vm n h k same.1) ∙ sym (landing_by k g g.vm (flying k g.vm n))

pub other_vm : (v vm vcpu : ℕ) (x : Vcpu) → nat_eq vm v ≡ false → x.vm ≡ v → is_vcpu x (vcpu_of vm vcpu) ≡ false
other_vm v vm vcpu x other its = and_left (nat_eq x.vm vm) (nat_eq x.vcpu vcpu) (ne_eqb x.vm vm (λ same. eqb-false vm v other (sym same ∙ its)))

-- a store of another VM says nothing
pub other_landing : (v vm : ℕ) (h : History) (x : Vcpu) (o : Option Sending) → nat_eq vm v ≡ false → x.vm ≡ v
    → ◌≡◌ {A = Option Said} (landing_said x h vm o) None
other_landing v vm h x None other its = refl
other_landing v vm h x (Some s) other its = cond-false _ _ _ (other_vm v vm (sent_to vm s).vcpu x other its)

pub same_said : (event : Event) (h k : History) (g : Vcpu) → SameFor g.vm h k → said_by g h event ≡ said_by g k event
same_said (Accepted (lines.Msi vm addr value)) h k g same =
    ap (λ machine. said_of_msi g vm addr value machine (vms_of h)) same.0.0 ∙ ap (said_of_msi g vm addr value (machine_of k)) same.0.1
same_said (Accepted (Ipi vm vcpu to value)) h k g same = ap (said_of_peer g vm to value) same.0.0
same_said (Accepted line) h k g same = refl
same_said (Began move) h k g same = refl
same_said (Stepped x) h k g same = refl
same_said (Delivered msi) h k g same =
    forward_by h g msi ∙ ap (λ machine. said_of_forward g msi machine (passes_of h)) same.0.0 ∙ ap (said_of_forward g msi (machine_of k)) same.0.2
    ∙ sym (forward_by k g msi)
same_said (Relayed p) h k g same = ap (λ machine. said_of_pass g machine (passes_of h) (Some p)) same.0.0
    ∙ ap (λ xs. said_of_pass g (machine_of k) xs (Some p)) same.0.2
same_said (Landed vm n) h k g same = elim (cases_Bool (nat_eq vm g.vm)) [
  | inl own ↦ subst (λ v. landing_said g h v (flying h v n) ≡ landing_said g k v (flying k v n)) (sym (eqb-true vm g.vm own))
      (own_landing n h k g same)
  | inr other ↦ other_landing g.vm vm h g (flying h vm n) other refl ∙ sym (other_landing g.vm vm k g (flying k vm n) other refl)
]
