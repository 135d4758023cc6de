use Rattle.std.proofs.Common.{◌≡◌, ◌<◌, true, List, [], ◌∷◌, ◌++◌, slice_index_or, length, sym, ap, subst, ◌∙◌, arith}
use Rattle.aia_vcpu.specs.Vms.{vcpu_of}
use Rattle.aia_file.specs.InterruptFile.{is_greatest_identity}
use Rattle.aia_fabric_values.specs.Whole.{IsWhole}
use Rattle.aia_fabric_values.proofs.WholeLemmas.{notice_hart_there}
use Rattle.aia_vcpu.specs.Aims.{target_to}
use Rattle.aia_model.specs.declared.line.Line.TheVariants as lines
use Rattle.aia_model.specs.Event.Event.{Accepted}
use Rattle.aia_model.specs.Passes.{PassedSource}
use Rattle.aia_hyp_values.specs.Core.{CoreState, resident_at}
use Rattle.aia_hyp_values.specs.Core.{VcpuRecord}
use Rattle.aia_hyp_values.specs.Stands.{CoreStands, StandsForSome}
use Rattle.aia_hyp_values.proofs.PassLemmas.{free_so, record_low, record_read, few_identities, resident_there, pass_stands, pass_aims, pass_stands_for_some}
use Rattle.aia_hyp.proofs.hypervisor_core.Core.pass_to.Goals as goal

pub bounds-deref-found : goal.bounds-deref-found
bounds-deref-found g c =
    let low = record_low c.args.self.now c.requires.may.past (vcpu_of c.args.found.vm c.args.found.vcpu) c.args.found.slot c.requires.may.stands
    c.requires.found.there c.requires.found.slot in
    let kept : c.args.found.slot < length c.self.inside.vcpus.items =
    subst (λ (z : CoreState). c.args.found.slot < length z.vcpus) (sym c.self.view_is) low in
    let same : length c.deref.result.now ≡ length c.self.inside.vcpus.items = ap (λ (xs : List VcpuRecord). length xs) c.deref.ensures.0 in
    omega (arith, kept, same)

pub aim_first-requires-clause-harts : goal.aim_first-requires-clause-harts
aim_first-requires-clause-harts g c =
    let hart = notice_hart_there c.args.self.now.world (vcpu_of c.args.found.vm c.args.found.vcpu)
    (subst (λ (z : CoreState). IsWhole z.world) c.self.view_is c.recall.ensures.whole) c.requires.found.there in
    omega (arith, hart, c.requires.found.notice, c.requires.harts)

pub aim_first-requires-clause-identity : goal.aim_first-requires-clause-identity
aim_first-requires-clause-identity g c =
    let m = c.requires.may in
    let free = free_so c.args.self.now (g.T.Targets.map c.args.targets.now) c.args.source c.args.found.vm c.args.found.vcpu c.args.identity
    m.past m.stands m.tells (c.requires.free m.past m.stands m.tells) in
    few_identities c.args.self.now.world.n c.args.identity
    (subst (λ (z : CoreState). is_greatest_identity z.world.n ≡ true) c.self.view_is c.recall.ensures.whole.greatest) free.implemented

pub aim_first-requires-clause-place : goal.aim_first-requires-clause-place
aim_first-requires-clause-place g c = λ p e.
    let x = c.args.self.now in
    let to = vcpu_of c.args.found.vm c.args.found.vcpu in
    let read = record_read x c.requires.may.past to c.args.found.slot c.index-deref-found.result c.requires.may.stands c.requires.found.there
    c.requires.found.slot (c.index-deref-found.is
    ∙ ap (λ (xs : List VcpuRecord). slice_index_or xs c.args.found.slot c.index-deref-found.result) c.deref.ensures.0
    ∙ ap (λ (z : CoreState). slice_index_or z.vcpus c.args.found.slot c.index-deref-found.result)
    c.self.view_is) in
    let there = resident_there x c.requires.may.past to p c.requires.may.stands
    (subst (λ (z : CoreState). IsWhole z.world) c.self.view_is c.recall.ensures.whole) c.requires.found.there
    (ap (λ (r : VcpuRecord). resident_at r.stay) (sym read ∙ c.index-deref-found.is) ∙ e) in
    (omega (arith, there.0, c.requires.harts), there.1)

pub invariant_of-self : goal.invariant_of-self
invariant_of-self g c =
    let m = c.requires.may in
    let free = free_so c.args.self.now (g.T.Targets.map c.args.targets.now) c.args.source c.args.found.vm c.args.found.vcpu c.args.identity
    m.past m.stands m.tells (c.requires.free m.past m.stands m.tells) in
    let some = pass_stands_for_some c.args.self.now (g.T.Targets.map c.args.targets.now) c.args.source c.args.found.vm c.args.found.vcpu
    c.args.identity m c.requires.free free in
    let pass : PassedSource = record { source = c.args.source; to = vcpu_of c.args.found.vm c.args.found.vcpu; identity = c.args.identity } in
    subst StandsForSome (ap (λ (z : CoreState). record z { passes = z.passes ++ pass ∷ [] }) (sym c.self.view_is)
    ∙ ap (λ (ps : List PassedSource). record {
      world = c.self.inside.fabric;
      leases = c.self.inside.pool;
      vcpus = c.self.inside.vcpus.items;
      selects = c.self.inside.selects;
      passes = ps;
    }) (sym c.push.ensures)) some

pub returns-clause-passes : goal.returns-clause-passes
returns-clause-passes g c = λ h stands tells.
    let free = free_so c.args.self.now (g.T.Targets.map c.args.targets.now) c.args.source c.args.found.vm c.args.found.vcpu c.args.identity h
    stands tells (c.requires.free h stands tells) in
    let pass : PassedSource = record { source = c.args.source; to = vcpu_of c.args.found.vm c.args.found.vcpu; identity = c.args.identity } in
    subst (λ (z : CoreState). CoreStands z (Accepted (lines.Pass c.args.source c.args.found.vm c.args.found.vcpu c.args.identity) ∷ h))
    (ap (λ (z : CoreState). record z { passes = z.passes ++ pass ∷ [] }) (sym c.self.view_is)
    ∙ ap (λ (ps : List PassedSource). record {
      world = c.self.inside.fabric;
      leases = c.self.inside.pool;
      vcpus = c.self.inside.vcpus.items;
      selects = c.self.inside.selects;
      passes = ps;
    }) (sym c.push.ensures))
    (pass_stands c.args.self.now h c.args.source c.args.found.vm c.args.found.vcpu c.args.identity stands free)

pub returns-clause-aims : goal.returns-clause-aims
returns-clause-aims g c = λ h stands.
    let m = c.requires.may in
    let x = c.args.self.now in
    let to = vcpu_of c.args.found.vm c.args.found.vcpu in
    let free = free_so x (g.T.Targets.map c.args.targets.now) c.args.source c.args.found.vm c.args.found.vcpu c.args.identity m.past m.stands
    m.tells (c.requires.free m.past m.stands m.tells) in
    let read = record_read x m.past to c.args.found.slot c.index-deref-found.result m.stands c.requires.found.there c.requires.found.slot
    (c.index-deref-found.is
    ∙ ap (λ (xs : List VcpuRecord). slice_index_or xs c.args.found.slot c.index-deref-found.result) c.deref.ensures.0
    ∙ ap (λ (z : CoreState). slice_index_or z.vcpus c.args.found.slot c.index-deref-found.result) c.self.view_is) in
    pass_aims x h c.args.source c.args.found.vm c.args.found.vcpu c.args.identity stands free g.T.Targets.aimed c.args.targets.now
    c.aim_first.new.targets c.args.found.notice c.count-number.result c.requires.found.notice
    (c.count-number.ensures.value ∙ ap (λ (z : CoreState). length z.passes) c.self.view_is)
    (subst (λ (r : VcpuRecord). g.T.Targets.aimed c.args.targets.now c.args.source
    (target_to c.args.found.notice c.count-number.result c.args.identity (resident_at r.stay)) c.aim_first.new.targets)
    (sym c.index-deref-found.is ∙ read)
    c.aim_first.ensures)
