use Rattle.std.proofs.Common.{sym, ap, arith, ◌∙◌}
use Rattle.aia_vcpu.specs.Vms.{vcpu_of}
use Rattle.aia_model.specs.declared.part.Part.TheVariants as parts
use Rattle.aia_model.specs.Image.{part_of}
use Rattle.aia_model.specs.StateOf.{state_of}
use Rattle.aia_model.specs.Reading.{reading}
use Rattle.aia_model.specs.Script.{history_of}
use Rattle.aia_model.proofs.HistoryLemmas.{script_happens}
use Rattle.aia_uses.specs.declared.told.TheConstants.{TOLD}
use Rattle.aia_uses.proofs.ImageFacts.{save_allowed, word_fits}
use Rattle.aia_uses.proofs.images.what_is_printed_is_a_line.Goals as goal

pub returns-clause-text : goal.returns-clause-text
returns-clause-text c = λ x part. c.what_is_printed_loads_it.ensures.text x part

pub returns-clause-reading : goal.returns-clause-reading
returns-clause-reading c = λ x part low small fit. c.what_is_printed_loads_it.ensures.reading x part low small fit

pub returns-clause-saved : goal.returns-clause-saved
returns-clause-saved c = λ h vm vcpu k x good ok low small. c.what_is_printed_loads_it.ensures.saved h vm vcpu k x good ok low small

pub returns-clause-one_read : goal.returns-clause-one_read
returns-clause-one_read c =
    let part = parts.Word 0 2 2 in
    sym (ap reading (c.what_is_printed_loads_it.ensures.text (vcpu_of 0 1) part))
    ∙ c.what_is_printed_loads_it.ensures.reading (vcpu_of 0 1) part (omega arith) (omega arith) word_fits

pub returns-clause-one_saved : goal.returns-clause-one_saved
returns-clause-one_saved c =
    let part = part_of (state_of (history_of TOLD.now) (vcpu_of 0 0)) 3 in
    sym (ap reading (c.what_is_printed_loads_it.ensures.text (vcpu_of 0 1) part))
    ∙ c.what_is_printed_loads_it.ensures.saved (history_of TOLD.now) 0 0 3 (vcpu_of 0 1) (script_happens TOLD.now) save_allowed (omega arith)
    (omega arith)
