-- What the host was told of a virtual hart's interrupts, and since when. Vocabulary.
use Rattle.std.specs.Prelude.{◌≡◌, ℕ, Bool, true, false, not, ◌&&◌, ◌||◌, [], ◌∷◌, Option, Some, None, ◌%◌}
use Rattle.aia_regs.specs.BitUpdate.{BitUpdate}
use Rattle.aia_regs.specs.BitUpdate.BitUpdate.{Ask, Clear}
use Rattle.aia_vcpu.specs.Vms.{Vcpu, vcpu_of, is_vcpu, notice_hart, notice_identity}
use Rattle.aia_vcpu.specs.Home.{is_resident}
use Rattle.aia_model.specs.Move.WantedMove.{Leaves}
use Rattle.aia_model.specs.declared.line.Line.{Line}
use Rattle.aia_model.specs.declared.line.Line.TheVariants.{Exit, LoadPart}
use Rattle.aia_model.specs.declared.part.Part.{Part}
use Rattle.aia_model.specs.Event.{Event, History, greatest_identity_of, file_words}
use Rattle.aia_model.specs.Event.Event.{Accepted, Began, Stepped, Landed, Relayed}
use Rattle.aia_regs.specs.declared.address_map.TheConstants.{PAGE}
use Rattle.aia_regs.specs.Request.{requested}
use Rattle.aia_model.specs.Flight.{Sending, flying}
use Rattle.aia_model.specs.Passes.{nth_pass}
use Rattle.aia_model.specs.HomeOf.{home}
use Rattle.aia_model.specs.Image.{file_loaded}
use Rattle.aia_model.specs.Notice.{noticed, ends_leave, a_look_saw}
use Rattle.aia_model.specs.Vms.{vms_of}
use Rattle.aia_model.specs.FileAfter.{pending_said}
use Rattle.aia_model.specs.FileOf.{FileName, SupervisorFile, deed_at, select_of, file_of}
use Rattle.aia_model.specs.GuestFile.{sent_to, guest_deed, guest_select, guest_file}
use Rattle.aia_laws.specs.Requests.{Asks}

-- Whether an identity is deliverable at a virtual hart: it is pending and enabled.
abbrev pub is_deliverable : History → Vcpu → ℕ → Bool
is_deliverable h g i = (guest_file h g).pending i && (guest_file h g).enabled i

-- The file of the host to which notices of a virtual hart go, and the identity that they ask for.
abbrev pub notice_file : History → Vcpu → FileName
notice_file h g = SupervisorFile (notice_hart (vms_of h) g)

abbrev pub notice_number : History → Vcpu → ℕ
notice_number h g = notice_identity (vms_of h) g

-- ---- what events say

-- Whether a word asks.
abbrev pub is_ask : BitUpdate → Bool
is_ask Ask = true
is_ask word = false

-- Whether a word clears.
abbrev pub is_clear : BitUpdate → Bool
is_clear Clear = true
is_clear word = false

-- What an event says, after what was before, of identity i's being pending at a virtual hart; of
-- identity n's in a file of the host.
abbrev pub guest_pending_said : History → Event → Vcpu → ℕ → BitUpdate
guest_pending_said past event g i =
    pending_said (guest_select past g) (guest_file past g) (guest_deed g past event) i

abbrev pub host_pending_said : History → Event → FileName → ℕ → BitUpdate
host_pending_said past event f n =
    pending_said (select_of past f) (file_of past f) (deed_at f past event) n

-- ---- since the newest request, and since the newest leave

-- Whether an event begins a leave of a virtual hart, which is resident.
abbrev pub begins_leave : History → Event → Vcpu → Bool
begins_leave past (Began (Leaves x)) g = is_vcpu g x && is_resident (home past g)
begins_leave past event g = false

-- Whether the host is to be told anew, after an event, of identity i at a virtual hart: the event
-- asks for it there, or begins a leave of the virtual hart.
abbrev pub is_to_be_told : History → Event → Vcpu → ℕ → Bool
is_to_be_told past event g i =
    begins_leave past event g || is_ask (guest_pending_said past event g i)

-- Whether a virtual hart, where there is one, is g.
abbrev pub names_vcpu : Option Vcpu → Vcpu → Bool
names_vcpu None g = false
names_vcpu (Some x) g = is_vcpu g x

-- Whether a notice for a virtual hart was sent since the host was last to be told anew of identity
-- i there: by that event, or by a later one.
unfoldable pub noticed_since : History → Vcpu → ℕ → Bool
noticed_since [] g i = false
noticed_since (event ∷ past) g i = names_vcpu (noticed past event) g
    || (not (is_to_be_told past event g i) && noticed_since past g i)

-- Whether identity n was asked for in a file of the host since then: by that event, or by a later
-- one.
unfoldable pub told_since : History → FileName → ℕ → Vcpu → ℕ → Bool
told_since [] f n g i = false
told_since (event ∷ past) f n g i = is_ask (host_pending_said past event f n)
    || (not (is_to_be_told past event g i) && told_since past f n g i)

-- Whether identity n was cleared in a file of the host since then.
unfoldable pub cleared_since : History → FileName → ℕ → Vcpu → ℕ → Bool
cleared_since [] f n g i = false
cleared_since (event ∷ past) f n g i = is_clear (host_pending_said past event f n)
    || (not (is_to_be_told past event g i) && cleared_since past f n g i)

-- Whether identity n was cleared in a file of the host after the newest notice for a virtual hart.
unfoldable pub cleared_since_notice : History → FileName → ℕ → Vcpu → Bool
cleared_since_notice [] f n g = false
cleared_since_notice (event ∷ past) f n g = not (names_vcpu (noticed past event) g)
    && (is_clear (host_pending_said past event f n) || cleared_since_notice past f n g)

-- ---- the cause of a notice

-- A line asks at a virtual hart for an identity that is enabled there.
pub record AsksForEnabled (past : History) (line : Line) (g : Vcpu) : Type 0 where
  pub identity : ℕ
  pub asks : Asks past line g identity
  pub enabled : (guest_file past g).enabled identity ≡ true

-- The step of a virtual hart is the last one of its own leave, one of whose looks saw an identity
-- both pending and enabled.
pub record EndsLeave (past : History) (x g : Vcpu) : Type 0 where
  pub same : x ≡ g
  pub last : ends_leave (file_words past) (home past g) ≡ true
  pub saw : a_look_saw past g ≡ true

-- A store that lands asks at a virtual hart for an identity that is enabled there.
pub record LandsForEnabled (past : History) (vm k : ℕ) (g : Vcpu) : Type 0 where
  pub store : Sending
  pub is : flying past vm k ≡ Some store
  pub same : sent_to vm store ≡ g
  pub identity : ℕ
  pub asks : requested (greatest_identity_of past) (store.addr % PAGE) store.value ≡ Some identity
  pub enabled : (guest_file past g).enabled identity ≡ true

-- The MSI of a pass that is given on asks at a virtual hart for an identity that is enabled there.
pub record RelaysForEnabled (past : History) (p : ℕ) (g : Vcpu) : Type 0 where
  pub same : (nth_pass past p).to ≡ g
  pub identity : ℕ
  pub asks : requested (greatest_identity_of past) 0 (nth_pass past p).identity ≡ Some identity
  pub enabled : (guest_file past g).enabled identity ≡ true

-- A virtual hart that ran from memory ceases to, while an identity is deliverable at it.
pub record ExitsDeliverable (past : History) (x g : Vcpu) : Type 0 where
  pub same : x ≡ g
  pub identity : ℕ
  pub deliverable : is_deliverable past g identity ≡ true

-- A part of an image is loaded into a virtual hart, and leaves an identity deliverable at it.
pub record LoadsDeliverable (past : History) (part : Part) (x g : Vcpu) : Type 0 where
  pub same : x ≡ g
  pub identity : ℕ
  pub pending : (file_loaded part (guest_file past g)).pending identity ≡ true
  pub enabled : (file_loaded part (guest_file past g)).enabled identity ≡ true

-- An event is the cause of a notice for a virtual hart.
abbrev pub IsCause : History → Event → Vcpu → Type 0
IsCause past (Accepted (Exit vm vcpu)) g = ExitsDeliverable past (vcpu_of vm vcpu) g
IsCause past (Accepted (LoadPart vm vcpu part)) g =
    LoadsDeliverable past part (vcpu_of vm vcpu) g
IsCause past (Accepted line) g = AsksForEnabled past line g
IsCause past (Stepped x) g = EndsLeave past x g
IsCause past (Landed vm k) g = LandsForEnabled past vm k g
IsCause past (Relayed p) g = RelaysForEnabled past p g
IsCause past event g = ⊥
