use Rattle.std.proofs.Common.{◌≡◌, true, false, refl, sym, ap, subst, ◌∙◌}
use Rattle.aia_vcpu.specs.Vms.{Vcpu, vcpu_of, is_vcpu_in}
use Rattle.aia_fabric_values.specs.World.{stage_of}
use Rattle.aia_fabric_values.specs.Stores.{ReachesByRecord}
use Rattle.aia_model.specs.declared.answer.Answer.TheVariants.{Okay}
use Rattle.aia_model.specs.declared.line.Line.TheVariants.{Ipi}
use Rattle.aia_hyp_values.specs.Core.{VcpuRecord}
use Rattle.aia_hyp_values.specs.Core.{CoreState, record_of, runs_in}
use Rattle.aia_hyp_values.specs.Stands.{CoreTakes}
use Rattle.aia_hyp_values.proofs.EventLemmas.{still}
use Rattle.aia_hyp_values.proofs.PeerLemmas.{no_sender, sender_away, no_peer, ipi_taken}
use Rattle.aia_hyp.proofs.hypervisor_core.Core.ipi.Goals.{After-guest_store}
use Rattle.aia_hyp.proofs.hypervisor_core.Core.ipi.Goals as goal

pub returns-in_default : goal.returns-in_default
returns-in_default c = rw (← c.self.view_is) (no_sender _ c.args.vm c.args.vcpu c.args.to c.args.value c.in_default.ensures.none)

pub returns-then-not-runs : goal.returns-then-not-runs
returns-then-not-runs c =
    let named = c.in-Some.ensures.named in
    let same : vcpu_of c.in-Some.from.vm c.in-Some.from.vcpu ≡ vcpu_of c.args.vm c.args.vcpu = λ k. vcpu_of (named.0 k) (named.1 k) in
    let there = subst (λ (g : Vcpu). is_vcpu_in c.args.self.now.world.vms g ≡ true) same
    (subst (λ (x : CoreState). is_vcpu_in x.world.vms (vcpu_of c.in-Some.from.vm c.in-Some.from.vcpu) ≡ true) c.self.view_is
    c.in-Some.ensures.there.there) in
    let kept = sym (c.runs.ensures ∙ ap (λ (r : VcpuRecord). runs_in r.stay) c.record_of.ensures) ∙ c.if-not-runs.true in
    sender_away c.args.self.now c.args.vm c.args.vcpu c.args.to c.args.value there
    (subst (λ (g : Vcpu). runs_in (record_of c.args.self.now g).stay ≡ false) same kept)

pub returns-in_default-find : goal.returns-in_default-find
returns-in_default-find c =
    let named = c.in-Some.ensures.named in
    let same : vcpu_of c.in-Some.from.vm c.in-Some.from.vcpu ≡ vcpu_of c.args.vm c.args.vcpu = λ k. vcpu_of (named.0 k) (named.1 k) in
    let there = subst (λ (g : Vcpu). is_vcpu_in c.args.self.now.world.vms g ≡ true) same
    (subst (λ (x : CoreState). is_vcpu_in x.world.vms (vcpu_of c.in-Some.from.vm c.in-Some.from.vcpu) ≡ true) c.self.view_is
    c.in-Some.ensures.there.there) in
    let kept = sym (c.runs.ensures ∙ ap (λ (r : VcpuRecord). runs_in r.stay) c.record_of.ensures) ∙ c.if-not-runs.false in
    let lacks = subst (λ (x : CoreState). is_vcpu_in x.world.vms
    (vcpu_of c.args.vm c.args.to) ≡ false) c.self.view_is c.in_default-find.ensures.none in
    no_peer c.args.self.now c.args.vm c.args.vcpu c.args.to c.args.value there
    (subst (λ (g : Vcpu). runs_in (record_of c.args.self.now g).stay ≡ true) same kept) lacks

taken : (c : After-guest_store) → CoreTakes (record {
  world = c.self.inside.fabric;
  leases = c.self.inside.pool;
  vcpus = c.self.inside.vcpus.items;
  selects = c.self.inside.selects;
  passes =
      c.self.inside.passes;
}) (record {
  world = c.guest_store.new.self;
  leases = c.self.inside.pool;
  vcpus = c.self.inside.vcpus.items;
  selects =
      c.self.inside.selects;
  passes = c.self.inside.passes;
}) (Ipi c.args.vm c.args.vcpu c.args.to c.args.value) Okay
taken c =
    let x : CoreState = record {
      world = c.self.inside.fabric;
      leases = c.self.inside.pool;
      vcpus = c.self.inside.vcpus.items;
      selects =
          c.self.inside.selects;
      passes = c.self.inside.passes;
    } in
    let named = c.in-Some.ensures.named in
    let same : vcpu_of c.in-Some.from.vm c.in-Some.from.vcpu ≡ vcpu_of c.args.vm c.args.vcpu = λ k. vcpu_of (named.0 k) (named.1 k) in
    let peers = c.in-Some-find.ensures.named in
    let peer : vcpu_of c.in-Some-find.peer.vm c.in-Some-find.peer.vcpu ≡ vcpu_of c.args.vm c.args.to = λ k. vcpu_of (peers.0 k) (peers.1 k) in
    let sender = subst (λ (g : Vcpu). is_vcpu_in x.world.vms g ≡ true) same c.in-Some.ensures.there.there in
    let there = subst (λ (g : Vcpu). is_vcpu_in x.world.vms g ≡ true) peer c.in-Some-find.ensures.there.there in
    let now = sym (c.runs.ensures ∙ ap (λ (r : VcpuRecord). runs_in r.stay) c.record_of.ensures) ∙ c.if-not-runs.false in
    let kept = subst (λ (g : Vcpu). runs_in (record_of x g).stay ≡ true) same
    (subst (λ (z : CoreState). runs_in (record_of z (vcpu_of c.in-Some.from.vm c.in-Some.from.vcpu)).stay ≡ true) (sym c.self.view_is) now) in
    let relays = subst (λ (g : Vcpu). ReachesByRecord (stage_of x.world g).in_force x.world c.guest_store.new.self g c.args.value) peer
    c.guest_store.ensures.reaches in
    ipi_taken _ _ c.args.vm c.args.vcpu c.args.to c.args.value c.find.ensures.whole sender kept there relays refl refl refl refl

pub invariant_of-self : goal.invariant_of-self
invariant_of-self c = still _ _ _ _ (taken c) c.self.invariant

pub returns : goal.returns
returns c = rw (← c.self.view_is) (taken c)
