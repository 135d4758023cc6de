-- An MSI of a source that is passed to a virtual hart lands where its pass leads, and keeps what is
-- known of that one.
use Rattle.std.proofs.Common.{◌≡◌, ℕ, ◌<◌, Bool, Option, Some, None, ap, subst}
use Rattle.std.proofs.lemmas.Bool.{lt-ltb}
use Rattle.aia_file.specs.InterruptFile.{InterruptFile, landed}
use Rattle.aia_vcpu.specs.declared.place.GuestPlace.{GuestPlace}
use Rattle.aia_vcpu.specs.Aims.{pass_reaches}
use Rattle.aia_vcpu.specs.Routes.{MayLand}
use Rattle.aia_vcpu.proofs.PassLemmas.{pass_lands}
use Rattle.aia_vcpu_places.specs.Holds.{IsWithin}
use Rattle.aia_vcpu_places.specs.Stores.{AreApart}
use Rattle.aia_fabric_values.specs.World.{World}
use Rattle.aia_fabric_values.specs.Whole.{IsWhole}
use Rattle.aia_fabric_values.specs.Changes.{spot_of}
use Rattle.aia_fabric_values.specs.Stores.{StoresIn, ReachesByRecord}
use Rattle.aia_fabric_values.proofs.FrameLemmas.{stores_rest, record_rest}
use Rattle.aia_move_values.specs.Move.{Moving, mover, width}
use Rattle.aia_move_values.specs.Targets.{TargetMap, pass_count}
use Rattle.aia_move_values.proofs.KnowsLemmas.{lands_knows}
use Rattle.aia_move_values.proofs.WayFrames.{KnowsSo, words_same, record_words, stored_ways}

module _ (w u : World) (map : TargetMap) (Q : ℕ → Type 0) (m : Moving) (reach : Option GuestPlace) (file : InterruptFile) (saw : Bool) (whole :
    IsWhole w)
    (apart : AreApart m.home) (within : IsWithin w.n (width w) file) (all : KnowsSo Q w map m reach file saw) (r : ℕ)
    (low : r < pass_count m.who) where
  may : MayLand (width w) m.home (pass_reaches r m.home)
  may = pass_lands (pass_count m.who) (width w) r m.home (lt-ltb r (pass_count m.who) low)
      all.targets.come

  -- in the guest file
  pub forward_all : (p : GuestPlace) (offset value : ℕ) → pass_reaches r m.home ≡ Some p → StoresIn w u (spot_of p) offset value
      → KnowsSo Q u map m reach (landed offset value file) saw
  forward_all p offset value leads stores =
      let rest = stores_rest w u (spot_of p) offset value stores in
      record {
        places = lands_knows w u Q m reach file saw offset value whole apart within all.places (Some p)
            (subst (MayLand (width w) m.home) leads may) stores;
        ways = stored_ways w u m rest (words_same w u (ap (λ (x : World). x.memory) stores.rest)) all.ways;
        targets = all.targets;
      }

  -- in the slot, to which the hypervisor gives it on
  pub relay_all : (value : ℕ) → pass_reaches r m.home ≡ None → ReachesByRecord None w u (mover m) value
      → KnowsSo Q u map m reach (landed 0 value file) saw
  relay_all value leads stores =
      let rest = record_rest None w u (mover m) value stores in
      record {
        places = lands_knows w u Q m reach file saw 0 value whole apart within all.places None
            (subst (MayLand (width w) m.home) leads may) stores;
        ways = stored_ways w u m rest (record_words w u
            (mover m) None value whole all.places.fits.there stores) all.ways;
        targets = all.targets;
      }
