-- Stores change files, memory and the count of notices, and nothing else.
use Rattle.std.proofs.Common.{◌≡◌, ℕ, List, Option, Some, None, sym, ap, ◌∙◌}
use Rattle.aia_regs.specs.declared.limits.TheConstants.{IDENTITIES}
use Rattle.aia_regs.specs.Request.{requested}
use Rattle.aia_file.specs.FileState.{FileState}
use Rattle.aia_file.specs.declared.spot.Spot.{Spot}
use Rattle.aia_file.specs.declared.spot.Spot.TheVariants.{MachineFile, SupervisorFile, GuestFile, Nowhere}
use Rattle.aia_file.specs.Imsic.{file_at, with_file}
use Rattle.aia_file.specs.declared.stored.Stored.{Stored}
use Rattle.aia_file.specs.declared.stored.Stored.TheVariants.{Discarded, Quiet, Notice}
use Rattle.aia_file.specs.Mrif.{mrif_in, stored}
use Rattle.aia_entry.specs.declared.entry.Entry.{Entry}
use Rattle.aia_entry.specs.declared.entry.Entry.TheVariants.{Basic, Mrif, NotValid, Custom, Misconfigured}
use Rattle.aia_entry.specs.declared.table.Route.{Route}
use Rattle.aia_entry.specs.declared.table.Route.TheVariants.{Other, Fault, To}
use Rattle.aia_vcpu.specs.declared.place.GuestPlace.{GuestPlace}
use Rattle.aia_vcpu.specs.Vms.{Vcpu, slot_of, notice_identity, notice_hart}
use Rattle.aia_fabric_values.specs.World.{World, OnlyStores}
use Rattle.aia_fabric_values.specs.Stores.{StoresIn, StoresInGuestFile, Posts, NoticedAt, NoticedBy, StoresInSlot, ReachesBy, Reaches, ReachesByRecord, with_store, slot_at, page_spot, named_spot}

-- the world with other files, another memory and another count of notices
abbrev with_stored : World → List FileState → List ℕ → ℕ → World
with_stored w files memory notices = record w { imsic = record w.imsic { files = files }; memory = memory; notices = notices }

pub by_parts : (w u : World) (files : List FileState) (memory : List ℕ) (notices : ℕ) → u ≡ with_stored w files memory notices → OnlyStores w u
by_parts w u files memory notices e = e ∙ ap (λ (x : World). with_stored w x.imsic.files x.memory x.notices) (sym e)

pub none_rest : (w u : World) → u ≡ w → OnlyStores w u
none_rest w u e = by_parts w u w.imsic.files w.memory w.notices e

-- so it is where files alone changed, and none came or went
pub files_rest : (w u : World) → u ≡ record w { imsic = u.imsic } → u.imsic.harts ≡ w.imsic.harts → u.imsic.guests ≡ w.imsic.guests → OnlyStores w u
files_rest w u rest harts guests = by_parts w u u.imsic.files w.memory w.notices
    (rest ∙ (λ k. record w { imsic = record { harts = harts k; guests = guests k; files = u.imsic.files } }))

pub stores_rest : (w u : World) (spot : Spot) (offset value : ℕ) → StoresIn w u spot offset value → OnlyStores w u
stores_rest w u spot offset value s =
    by_parts w u (with_file w.imsic spot (file_at u.imsic spot)).files w.memory w.notices (s.rest ∙ ap (λ j. record w { imsic = j }) s.lands.others)

pub posts_rest : (w u : World) (spot : Spot) (identity : ℕ) → Posts w u spot identity → OnlyStores w u
posts_rest w u spot identity p =
    by_parts w u (with_file w.imsic spot (file_at u.imsic spot)).files w.memory u.notices
    (p.rest ∙ ap (λ j. record w { imsic = j; notices = u.notices }) p.lands.others)

at_rest : (w u : World) (spot : Spot) (offset value : ℕ) → StoresInGuestFile w u spot offset value → OnlyStores w u
at_rest w u (GuestFile hart file) offset value s = stores_rest w u (GuestFile hart file) offset value s
at_rest w u (MachineFile hart) offset value s = none_rest w u s
at_rest w u (SupervisorFile hart) offset value s = none_rest w u s
at_rest w u Nowhere offset value s = none_rest w u s

noticed_rest : (w u : World) (spot : Spot) (identity : ℕ) → NoticedAt w u spot identity → OnlyStores w u
noticed_rest w u (MachineFile hart) identity p = posts_rest w u (MachineFile hart) identity p
noticed_rest w u (SupervisorFile hart) identity p = posts_rest w u (SupervisorFile hart) identity p
noticed_rest w u (GuestFile hart file) identity p = none_rest w u p
noticed_rest w u Nowhere identity p = none_rest w u p

by_rest : (became : Stored) (w u : World) (spot : Spot) (identity : ℕ) → NoticedBy became w u spot identity → OnlyStores w u
by_rest Notice w u spot identity p = noticed_rest w u spot identity p
by_rest Quiet w u spot identity p = none_rest w u p
by_rest Discarded w u spot identity p = none_rest w u p

pub slot_rest : (w u : World) (slot : Option ℕ) (spot : Spot) (identity offset value : ℕ) → StoresInSlot w u slot spot identity offset value
    → OnlyStores w u
slot_rest w u None spot identity offset value s = none_rest w u s
slot_rest w u (Some q) spot identity offset value s =
    by_rest (stored (mrif_in w.memory q) (requested IDENTITIES offset value)) (with_store w q offset value) u spot identity s

pub entry_rest : (entry : Entry) (w u : World) (offset value : ℕ) → ReachesBy entry w u offset value → OnlyStores w u
entry_rest (Basic page) w u offset value s = at_rest w u (page_spot w.imsic page) offset value s
entry_rest (Mrif addr page identity) w u offset value s = slot_rest w u (slot_at addr) (page_spot w.imsic page) identity offset value s
entry_rest NotValid w u offset value s = none_rest w u s
entry_rest Custom w u offset value s = none_rest w u s
entry_rest Misconfigured w u offset value s = none_rest w u s

pub reaches_rest : (route : Route) (w u : World) (offset value : ℕ) → Reaches route w u offset value → OnlyStores w u
reaches_rest (To entry) w u offset value s = entry_rest entry w u offset value s
reaches_rest Other w u offset value s = none_rest w u s
reaches_rest (Fault entry) w u offset value s = none_rest w u s

pub record_rest : (named : Option GuestPlace) (w u : World) (g : Vcpu) (value : ℕ) → ReachesByRecord named w u g value → OnlyStores w u
record_rest (Some p) w u g value s = at_rest w u (named_spot w.imsic p) 0 value s
record_rest None w u g value s = slot_rest w u (Some (slot_of w.vms g)) (SupervisorFile (notice_hart w.vms g)) (notice_identity w.vms g) 0 value s
