-- A box is taken apart by `into_raw_with_allocator`, whose two results are the fields of the block.
use Rattle.std.proofs.Common.{◌≡◌, List, [], ◌∷◌, ◌++◌, refl, sym, ap, ◌∙◌, subst}
use mir.Syntax.{a_type, dcons, dnil}
use mir.Raw.{raw as bare}
use mir.Val.{Val, vstruct, of_list}
use mir.MapTy.{inst_fn}
use base.Logic.{SProp, ent, emp, never, id⊢, fst∗}
use base.Fml.{ftrue, fsep, flft}
use prog.Wp.{WpFn}
use types.Logic.{sem}
use types.Kit.{‵, raw, ◌⊛◌, some, later, ◌$◌, ◌∵◌, !, qed, by, move, keep, drop, split, split3, join, fsplit, fjoin, fpick, pick, suffices, use0, use1, await, rewrite, feq_l}
use types.Run.{stop, fld, of_opd, no_more, and_then, returns, enter}
use types.ByLocal.{alloc_all, pass_all, free_all, look_at, get, get_in, sets, lands_as}
use types.Part.{agg, sub, whole}
use contract.Monad.{fact, fact_i}
use contract.Running.{tables}
use denote.Exit.{no}
use denote.RattleType.{RattleType, owns}
use denote.Signature.{types_at, plain}
use denote.Builtin.{RawPtr}
use denote.RawPtr.{Ptr, block_ptr, null_ptr, ptr_val, in_a_block}
use denote.Steps.{nothing, only, heard}
use denote.Param.{param, layout, bounded}
use denote.Param.Laws.{param_laws}
use denote.Struct.Tuple.{Tuple}
use denote.Triple.Spec.{triple_of}
use denote.Triple.Call.{calls_at}
use denote.Triple.Walked.{Stays, stay_dropped, walk_of}
use denote.Triple.Table.{framed}
use Rattle.std.proofs.alloc.Calls.{Goes-blank, handle_tells}
use Rattle.std.specs.Box.Ownership.{box_owns}
use Rattle.std.proofs.BoxSteps.Form as box
use Rattle.std.proofs.BoxSteps.Steps.{box_out, box_in}
use Rattle.std.proofs.raw_atomic.Walks.{proved_at, leaves}
use Rattle.std.specs.contracts.boxed.Box.into_raw_with_allocator as apart
use Rattle.std.proofs.boxed.Box.into_raw_with_allocator.Met.{met}
use Rattle.aia_c.proofs.BlockValues.{words, typed, block_in}
use Rattle.aia_c.specs.contracts.block.Block.of as of
use Rattle.aia_c.proofs.block.Block.of.Statement.{statement}
use Rattle.aia_c.proofs.block.Block.of.Code as code

pub of_spec : {M : Type 1} → statement M
of_spec 𝓤 𝓛 𝓜 𝓡 wired T A T-laws A-laws g dict T-drop A-drop allocator T-glue A-glue =
    let H = 𝓛.H in
    let 𝓣 = tables 𝓤 H 𝓜 𝓡 𝓡.env in
    let ending = of.ended T A g dict T-drop A-drop in
    let clauses = of.clauses T A g dict T-drop A-drop 𝓛 𝓜.mem 𝓡.returns in
    -- the value's type and the allocator's, as the function's parameters, and the box of both
    let R : RattleType = param 0 T in
    let Z : RattleType = param 1 A in
    let Z-laws = param_laws 1 A A-laws in
    let boxed : box.Bx = record {
      row = T;
      laws = T-laws;
      al = record { row = A; laws = A-laws; g = g; d = dict; drops = A-drop };
    } in
    let B : RattleType = box.B boxed in
    let args = bounded (a_type ∷ a_type ∷ []) (T, (A, tt)) (dcons dict (dcons T-drop (dcons A-drop dnil))) in
    let fn = inst_fn args code.function in
    let stays : Stays ending.signature.params ending.kept = (stay_dropped (plain (λ _. B)) no, tt) in
    proved_at 𝓛 ending stays clauses 𝓜 𝓡
    (Goes-blank 𝓛 2 (plain (λ _. B)) no (λ κs x f. tt), tt)
    (of.Key.name args) fn (code.unfolded 𝓤 H 𝓜 𝓡 wired (T, (A, tt)) dict T-drop A-drop) (λ z are.
    let lives = z.0.0 in
    let shares = z.0.1 in
    let b = z.0.3.0 in
    let Goal : Val → SProp 𝓤 = (walk_of 𝓛 ending stays clauses).post z in
    let Runs : List Val → SProp 𝓤 = λ ws. WpFn 𝓤 H 𝓣.C 𝓣.Λ fn ws Goal in
    let tokens = ‵ (flft lives.0 shares.0) ⊛ ‵ (flft lives.1.0 shares.1.0) ⊛ ‵ ftrue in
    let needs = raw ((clauses lives z.0.3).requires z.1) in
    qed 𝓛 ((tokens ⊛ ‵ (owns (types_at ending.signature.params lives) z.0.3 z.0.4)) ∷ needs ∷ []) ∵
    split ! $ move ! (1 ∷ []) $ fsplit ! $
    -- the box is looked into for its machine value, and closed again
    box_out boxed ! b z.0.4.0 (λ at off handle here is fits. box_in boxed ! b at off b.value here refl $
    let word : Val = box.word boxed handle at off in
    let callee = triple_of 𝓛 (apart.signature T A g dict A-drop T-drop) (apart.spec T A g dict A-drop T-drop 𝓛 𝓜.mem 𝓡.returns) in
    let call : callee.Ghost = ((lives, shares, tt, (b, tt), (word ∷ [], tt)), tt) in
    let Pair = Tuple (RawPtr ∷ Z ∷ []) in
    fjoin ! $ move ! (1 ∷ 0 ∷ []) $ join ! $ join ! $
    use1 𝓛 (raw (callee.pre call)) (id⊢ 𝓤 _) $
    suffices ! (Runs (word ∷ []))
    (subst (λ (us : List Val). ent 𝓤 (Runs (word ∷ [])) (Runs us)) (sym (λ i. is i ++ [])) (id⊢ 𝓤 (Runs (word ∷ [])))) $
    enter ! 𝓣.C 𝓣.Λ fn (word ∷ []) Goal $ alloc_all ! (λ l.
    let word-typed = typed R Z Z-laws g at off handle fits in
    pass_all ! refl (word-typed, tt) $
    sets ! (of_opd ! (get ! refl)) refl word-typed $
    calls_at ! (framed 𝓤 𝓛.H 𝓜 (tables 𝓤 𝓛.H 𝓜 𝓡 𝓡.env)) callee
    (met 𝓤 𝓛 𝓜 𝓡 (code.calls-std_alloc::boxed::Box::into_raw_with_allocator 𝓡.env wired) T A T-laws A-laws g dict A-drop T-drop allocator
    A-glue T-glue)
    call (and_then ! (get ! refl) (no_more !)) (λ out.
    use1 𝓛
    (later (some (λ (r : Ptr × A.Denot). (tokens ⊛ ‵ (Pair.own_val r (out ∷ [])))
    ⊛ some (λ (_ : (Unit {0} × (Unit {0} × Unit {0})) × Unit {0}). ‵ (fsep (fsep ftrue (fsep ftrue ftrue)) ftrue)
    ⊛ (raw (fact 𝓤 (r.1 ≡ b.alloc)) ⊛ ‵ (box_owns (g.dealloc_token b.alloc) R r.0 b.value))))))
    (id⊢ 𝓤 _) $
    await ! tt $ pick ! (λ r. split ! $ move ! (1 ∷ []) $ pick ! (λ _. split3 ! $ drop ! $
    heard ! (r.1 ≡ b.alloc) (λ same-heap.
    -- what came out is an address in a block, and the handle
    in_a_block ! r.0 (λ p. box_owns (g.dealloc_token b.alloc) R p b.value)
    (fst∗ 𝓤 (never 𝓤) (sem 𝓛 (g.dealloc_token b.alloc (bare (layout T)) null_ptr))) (λ at' off' here'.
    move ! (1 ∷ []) $ split ! $ move ! (1 ∷ []) $
    fpick ! (λ parts. fsplit ! $ feq_l ! (λ pair. fsplit ! $ feq_l ! (λ first. fsplit ! $
    rewrite ! 0 (λ (a : A.Denot). ‵ (A.own_val a parts.1.0)) same-heap refl $
    handle_tells boxed.al ! b.alloc parts.1.0 (λ handle' second fits'.
    let made = typed R Z Z-laws g at' off' handle' fits' in
    let address = first ∙ ap (λ (p : Ptr). ptr_val p ∷ []) here' in
    lands_as ! (ap only (pair ∙ (λ i. vstruct (of_list (address i ++ (second i ++ []))) ∷ []))) refl made $
    sets ! (of_opd ! (get_in ! (fld ! refl (stop !)) (sub ! 0 refl (whole !)))) refl (tt, tt) $
    sets ! (of_opd ! (get_in ! (fld ! refl (stop !)) (sub ! 1 refl (whole !)))) refl fits' $
    sets ! (of_opd ! (get ! refl)) refl fits' $
    sets ! (agg ! (and_then ! (get ! refl) (and_then ! (get ! refl) (no_more !)))) refl made $
    move ! (3 ∷ 0 ∷ []) $ block_in R Z Z-laws g ! at' off' handle' b.alloc b.value $
    use0 𝓛 (raw (fact 𝓤 (b.value ≡ b.value))) (fact_i 𝓤 (b.value ≡ b.value) (emp 𝓤) refl) $
    nothing ! $ nothing ! $ fjoin ! $
    returns ! (look_at ! 0 refl) $ free_all ! refl $ keep ! (4 ∷ 0 ∷ 2 ∷ 1 ∷ []) $
    by ! (leaves 𝓛 ending stays clauses z (words at' off' handle')
    (record { at = block_ptr at' off'; alloc = b.alloc; value = b.value })
    ((tt, (tt, tt)), tt) (tt, tt))))))))))))))
