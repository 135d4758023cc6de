use Rattle.std.proofs.Common.{◌/◌, ◌%◌, ◌&&◌, not, nat_eq, length, refl, sym, ap, ◌∙◌, arith}
use Rattle.std.proofs.lemmas.Bool.{ne_eqb, and_right}
use Rattle.aia_word.specs.Sets.{is_in}
use Rattle.aia_file.proofs.TopLemmas.{pending_claimed}
use Rattle.aia_file.proofs.KeptLemmas.{pending_written, pending_elsewhere, items_written, top_named}
use Rattle.aia_file.proofs.file.File.remove_top.Goals as goal

pub remove-requires : goal.remove-requires
remove-requires c =
    let named = top_named c.self.inside c.args.self.now c.args.top c.self.invariant c.self.view_is c.requires c.if-top-ne0.true in
    omega (arith, named.1, ap length c.deref_mut.ensures.value, c.self.invariant.pending_words)

pub refreshed-self-inside-requires-clause-word : goal.refreshed-self-inside-requires-clause-word
refreshed-self-inside-requires-clause-word c =
    let named = top_named c.self.inside c.args.self.now c.args.top c.self.invariant c.self.view_is c.requires c.if-top-ne0.true in
    omega (arith, named.1, c.self.invariant.few)

pub refreshed-self-inside-requires-clause-pending : goal.refreshed-self-inside-requires-clause-pending
refreshed-self-inside-requires-clause-pending c =
    let named = top_named c.self.inside c.args.self.now c.args.top c.self.invariant c.self.view_is c.requires c.if-top-ne0.true in
    let back = items_written c.self.inside.pending c.remove.new.words (c.remove.auto.words ∙ c.deref_mut.ensures.len) in
    omega (
      arith,
      named.1,
      ap length c.deref.ensures.value,
      ap length back,
      c.remove.auto.words,
      ap length c.deref_mut.ensures.value,
      c.self.invariant.pending_words,
    )

pub refreshed-self-inside-requires-clause-enabled : goal.refreshed-self-inside-requires-clause-enabled
refreshed-self-inside-requires-clause-enabled c =
    let named = top_named c.self.inside c.args.self.now c.args.top c.self.invariant c.self.view_is c.requires c.if-top-ne0.true in
    omega (arith, named.1, ap length c.deref-then-top-ne0.ensures.value, c.self.invariant.enabled_words)

pub refreshed-self-inside-requires-clause-others : goal.refreshed-self-inside-requires-clause-others
refreshed-self-inside-requires-clause-others c =
    let identity = c.args.top % 65536 in
    pending_elsewhere c.self.inside (identity / 64) c.deref_mut.result.now c.remove.new.words c.deref.result.now c.deref-then-top-ne0.result.now
    c.self.invariant c.deref_mut.ensures.value c.deref_mut.ensures.len c.remove.auto.words c.deref.ensures.value
    c.deref-then-top-ne0.ensures.value
    (λ i ne. c.remove.ensures i ∙ ap (λ b. not b && is_in c.deref_mut.result.now i) (ne_eqb identity i (λ at. ne (ap (λ x. x / 64) (sym at)))))

pub invariant_of-self : goal.invariant_of-self
invariant_of-self c =
    pending_written c.self.inside c.deref_mut.result.now c.remove.new.words c.refreshed-self-inside.result c.self.invariant
    c.deref_mut.ensures.value c.deref_mut.ensures.len c.remove.auto.words
    (c.remove.ensures 0 ∙ and_right _ _ (ap (λ w. is_in w 0) c.deref_mut.ensures.value ∙ c.self.invariant.no_pending_zero))
    (rw (c.deref.ensures.value, c.deref-then-top-ne0.ensures.value) at c.refreshed-self-inside.ensures)

pub returns-then-top-ne0 : goal.returns-then-top-ne0
returns-then-top-ne0 c =
    let f = c.self.inside in
    let named = top_named f c.args.self.now c.args.top c.self.invariant c.self.view_is c.requires c.if-top-ne0.true in
    let back = items_written f.pending c.remove.new.words (c.remove.auto.words ∙ c.deref_mut.ensures.len) in
    rw (← c.self.view_is) (record {
      n = refl;
      pending = λ i. ap (λ w. is_in w i) back ∙ c.remove.ensures i
          ∙ ap (λ w. not (nat_eq (c.args.top % 65536) i) && is_in w i) c.deref_mut.ensures.value
          ∙ sym (pending_claimed _ (c.args.top % 65536) i (is_in f.pending.items i) named.0);
      enabled = λ i. refl;
      threshold = refl;
      delivery = refl;
    })
