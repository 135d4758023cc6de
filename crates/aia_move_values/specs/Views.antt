-- What the places of a virtual hart show of the world.
use Rattle.std.specs.Prelude.{◌+◌, slice_index}
use Rattle.aia_file.specs.Mrif.{mrif_in}
use Rattle.aia_entry.specs.Tables.{table_of, entry_in_force}
use Rattle.aia_vcpu.specs.Vms.{Vcpu, slot_of}
use Rattle.aia_vcpu.specs.Home.{Home}
use Rattle.aia_vcpu.specs.BySteps.{own_file, next_file}
use Rattle.aia_vcpu_places.specs.Places.{Places}
use Rattle.aia_fabric_values.specs.World.{World, stage_of}
use Rattle.aia_fabric_values.specs.Making.{entry_word_place}
use Rattle.aia_fabric_values.specs.Changes.{file_in}

-- The places of a virtual hart that has this home.
abbrev pub places_of : World → Vcpu → Home → Places
places_of w g there = record {
  own = file_in w (own_file there);
  next = file_in w (next_file there);
  slot = mrif_in w.memory (slot_of w.vms g);
  word0 = slice_index w.memory (entry_word_place g.vm g.vcpu);
  word1 = slice_index w.memory (entry_word_place g.vm g.vcpu + 1);
  in_force = entry_in_force (table_of w.tables g.vm) g.vcpu;
  stage = (stage_of w g).written;
  stage_in_force = (stage_of w g).in_force;
}
