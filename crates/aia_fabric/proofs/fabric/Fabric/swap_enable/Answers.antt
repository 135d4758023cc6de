use Rattle.std.proofs.Common.{ap, ◌∙◌}
use Rattle.std.specs.Prelude.{slice_index}
use Rattle.aia_word.specs.Sets.{has_bit}
use Rattle.aia_file.specs.FileState.{FileState}
use Rattle.aia_file.specs.Mrif.{enable_place}
use Rattle.aia_fabric_values.proofs.WrittenWhole.{file_whole, enables_whole}
use Rattle.aia_fabric.proofs.fabric.Fabric.swap_enable.Goals as goal

pub invariant_of-self : goal.invariant_of-self
invariant_of-self c =
    file_whole _ c.in-File.spot c.swap_enable.new.self c.self.invariant c.file_mut.ensures.within
    (ap (λ (f : FileState). f.n) c.swap_enable.ensures.state ∙ ap (λ (f : FileState). f.n) c.file_mut.ensures.value)

pub invariant_of-self-in-Slot : goal.invariant_of-self-in-Slot
invariant_of-self-in-Slot c =
    rw (c.swap_enable-in-Slot.ensures.words) (enables_whole _ c.in-Slot.q c.args.k c.args.v c.self.invariant (rw c.in-Slot.is at c.requires.place)
    (rw c.in-Slot.is at c.requires.word) c.requires.no_zero)

pub returns-in-Slot-clause-no_zero_stood : goal.returns-in-Slot-clause-no_zero_stood
returns-in-Slot-clause-no_zero_stood c =
    λ e. ap (λ x. has_bit x 0) c.swap_enable-in-Slot.ensures.word_stood
    ∙ ap (λ k. has_bit (slice_index c.self.inside.ram (enable_place c.in-Slot.q k)) 0) e
    ∙ c.self.invariant.no_enabled_zero c.in-Slot.q (rw c.in-Slot.is at c.requires.place)
