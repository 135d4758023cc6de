use Rattle.std.proofs.Common.{◌≡◌, length, arith}
use Rattle.aia_vcpu.specs.declared.vm.Vm.{Vm}
use Rattle.aia_entry.proofs.TableLemmas.{mask_parts, has_entry}
use Rattle.aia_fabric_values.proofs.MakingLemmas.{one_more_made}
use Rattle.aia_fabric.proofs.fabric.Fabric.vm.Goals as goal

pub loop-file-preserved : goal.loop-file-preserved
loop-file-preserved c =
    let w = c.args.self.now in
    let vm : Vm = record { vcpus = c.args.vcpus; mask = c.args.mask; notice_hart = c.args.hart } in
    let number : c.vms-vm.result ≡ length w.tables = omega (arith, c.vms-vm.ensures.whole.tables) in
    let few = has_entry c.args.mask c.loop-file.file (mask_parts c.args.mask c.requires.mask).1 (omega arith) in
    rw (c.make_entry.ensures, number, c.vcpus-first.ensures.value)
    (one_more_made w c.loop-file.self vm c.loop-file.file c.notice_page-page.result c.loop-file.invariant (omega (arith, number)) few
    (omega arith) c.notice_page-page.ensures.value c.notice_page-page.ensures.fits)
