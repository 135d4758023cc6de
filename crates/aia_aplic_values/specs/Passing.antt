-- Which sources may be passed to guests, and what an aim of one does. Vocabulary.
use Rattle.std.specs.Prelude.{◌≡◌, ◌≢◌, ℕ, Bool, true, false, ◌&&◌, ◌∷◌, if◌then◌else◌}
use Rattle.aia_domain.specs.InterruptSource.{is_active_at, target_at}
use Rattle.aia_model.specs.Act.{Past}
use Rattle.aia_model.specs.Act.Act.{Aimed}
use Rattle.aia_model.specs.AddressOf.{are_for_guests}
use Rattle.aia_model.specs.SourceOf.{is_source}
use Rattle.aia_model.specs.Passable.{is_passable}
use Rattle.aia_aplic_values.specs.Aplic.{AplicState}

-- ---- by the past

-- Whether a source is there, and MSIs to guests may be made of it.
abbrev pub is_passable_source : Past → ℕ → Bool
is_passable_source past s = is_source past s && is_passable past s

-- A source is aimed, where MSIs to guests may be made of it; else nothing happens.
abbrev pub with_aim : Past → ℕ → ℕ → Past
with_aim past s target = if is_passable_source past s then Aimed s target ∷ past else past

-- ---- by what an APLIC keeps

-- How many harts there are.
abbrev pub hart_count : AplicState → ℕ
hart_count a = a.child.domain.harts

-- The target that the child domain keeps of a source; 0 of one that is not there.
abbrev pub target_in : AplicState → ℕ → ℕ
target_in a s = target_at a.child.domain.sources s

-- Whether a source is there, and MSIs to guests may be made of it.
abbrev pub is_passable_in : AplicState → ℕ → Bool
is_passable_in a s =
    is_active_at a.child.domain.sources s && a.child.domain.msi && are_for_guests a.addresses

-- A source is aimed: where MSIs to guests may be made of it its target becomes the one given, and
-- else it stays, as those of all other sources do.
pub record AimsIn (old : AplicState) (source target : ℕ) (new : AplicState) : Type 0 where
  pub harts : hart_count new ≡ hart_count old
  pub passable : (s : ℕ) → is_passable_in new s ≡ is_passable_in old s
  pub aimed : is_passable_in old source ≡ true → target_in new source ≡ target
  pub stays : is_passable_in old source ≡ false → target_in new source ≡ target_in old source
  pub others : (s : ℕ) → s ≢ source → target_in new s ≡ target_in old s
