use Rattle.std.proofs.Common.{refl}
use Rattle.aia_model.specs.Reading.{number_at, n32_at, flag_at, csr_at, line_at, reading}
use Rattle.aia_isolation.specs.declared.instances.TheConstants.{BESIDE, BESIDE_VM, BESIDE_MACHINE}
use Rattle.aia_uses.specs.declared.beside.TheConstants.{HOST_AT_ITS_FILE, INJECTED}
use Rattle.aia_uses.proofs.beside.one_script_beside_its_parts.Goals as goal

pub returns-clause-vm : goal.returns-clause-vm
unfolding number_at n32_at flag_at csr_at line_at reading
returns-clause-vm c = c.a_vm_is_answered_by_its_lines_and_by_what_is_sent.ensures.alone 0 BESIDE.now BESIDE_VM.now refl

pub returns-clause-vm_in_two : goal.returns-clause-vm_in_two
unfolding number_at n32_at flag_at csr_at line_at reading
returns-clause-vm_in_two c = c.a_vm_is_answered_by_its_lines_and_by_what_is_sent.ensures.two_scripts 0 BESIDE.now BESIDE_VM.now refl

pub returns-clause-host : goal.returns-clause-host
unfolding number_at n32_at flag_at csr_at line_at reading
returns-clause-host c =
    c.a_vm_is_answered_by_its_lines_and_by_what_is_sent.ensures.alone 0 HOST_AT_ITS_FILE.now INJECTED.now refl

pub returns-clause-machine : goal.returns-clause-machine
unfolding number_at n32_at flag_at csr_at line_at reading
returns-clause-machine c = c.the_machine_level_is_answered_by_its_lines_and_by_passes.ensures.alone BESIDE.now BESIDE_MACHINE.now refl

pub returns-clause-machine_in_two : goal.returns-clause-machine_in_two
unfolding number_at n32_at flag_at csr_at line_at reading
returns-clause-machine_in_two c = c.the_machine_level_is_answered_by_its_lines_and_by_passes.ensures.two_scripts BESIDE.now BESIDE_MACHINE.now refl
