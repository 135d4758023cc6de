-- The pointer is null exactly where the handle is closed. An open one's block comes back with the
-- caller's handle of C's heap, of which there is one.
use Rattle.std.proofs.Common.{◌≡◌, List, [], ◌∷◌, ◌++◌, refl, sym, ap, ◌∙◌, subst, lit<}
use Rattle.std.specs.Prelude.{Option, None, Some}
use mir.Raw.{raw as bare}
use mir.Val.{Val, vptr, vcons, vnil}
use base.Fraction.{full_share}
use base.Logic.{SProp, ent, emp, never, id⊢, fst∗, snd∗, via, guard_i}
use base.Fml.{ftrue}
use prog.Wp.{WpFn}
use types.Logic.{sem}
use types.Kit.{‵, raw, ◌⊛◌, given, at_ret, ◌$◌, ◌∵◌, !, qed, by, move, keep, drop, split, fsplit, fjoin, fpick, suffices, use0, use1, learn, rewrite}
use types.Run.{stop, fld, lit, of_opd, bin, no_more, and_then, first, branches, exec, returns, enter}
use types.ByLocal.{alloc_all, pass_all, free_all, look_at, get, get_in, sets, sets_last, env}
use types.Part.{agg, sub, whole}
use types.Match.{live}
use contract.Monad.{fact, fact_i, fact_use}
use contract.Running.{tables}
use denote.RattleType.{RattleType, owns}
use denote.Signature.{types_at, type_at, plain}
use denote.Memory.{lone}
use denote.Param.{layout}
use denote.RawPtr.{Ptr, block_ptr, null_ptr, ptr_val, in_a_block, Testable, tests_null, lies_at}
use denote.Steps.{nothing}
use denote.Triple.Walked.{Stays, stay_dropped, walk_of}
use Rattle.std.proofs.ResultValues.{and_tt}
use Rattle.std.proofs.alloc.Calls.{Goes-blank, handle_tells}
use Rattle.std.proofs.alloc.Shapes.{after}
use Rattle.std.proofs.cell.Inside.{Good}
use Rattle.std.proofs.option.Made.{Some-of, none_of}
use Rattle.std.proofs.GlobalToken.{dealloc_token-Testable}
use Rattle.std.proofs.alloc.Global.TheLaws.{the_row_laws}
use Rattle.std.specs.contracts.alloc.Global as heap
use Rattle.std.specs.contracts.impls.GlobalAllocator.TheImpl.{ghosts}
use Rattle.std.specs.Box.Ownership.{box_owns}
use Rattle.std.proofs.raw_atomic.Walks.{proved_at, leaves}
use Rattle.aia_c.proofs.BlockValues.{words, heap as heap_of, Block, typed, block_in}
use Rattle.aia_replay.specs.Stands.{EngineState}
use Rattle.aia_replay.specs.contracts.engine.Engine as engine
use Rattle.aia_c.specs.Ownership.{handle_owns}
use Rattle.aia_c.proofs.HandleValues.{word, Handle, handle_out, by_option}
use Rattle.aia_c.specs.contracts.handle.Handle.into_block as into_block
use Rattle.aia_c.proofs.handle.Handle.into_block.Statement.{statement}
use Rattle.aia_c.proofs.handle.Handle.into_block.Code as code

pub into_block_spec : {M : Type 1} → statement M
into_block_spec 𝓤 𝓛 𝓜 𝓡 wired =
    let H = 𝓛.H in
    let 𝓣 = tables 𝓤 H 𝓜 𝓡 𝓡.env in
    let ending = into_block.ended in
    let clauses = into_block.clauses 𝓛 𝓜.mem 𝓡.returns in
    let fn = code.function in
    let R : RattleType = engine.the_row in
    let Z : RattleType = heap.the_row in
    let Whole : RattleType = Block R Z the_row_laws ghosts in
    let stays : Stays ending.signature.params ending.kept =
    (stay_dropped (plain (λ _. Handle)) ending.kept.0, (stay_dropped (plain (λ _. Z)) ending.kept.1.0, tt)) in
    proved_at 𝓛 ending stays clauses 𝓜 𝓡
    (Goes-blank 𝓛 0 (plain (λ _. Handle)) ending.kept.0 (λ κs x f. tt), (Goes-blank 𝓛 0 (plain (λ _. Z)) ending.kept.1.0 (λ κs x f. tt), tt))
    into_block.Key.name fn (code.unfolded 𝓤 H 𝓜 𝓡 wired) (λ z are.
    let Goal : Val → SProp 𝓤 = (walk_of 𝓛 ending stays clauses).post z in
    let Runs : List Val → SProp 𝓤 = λ ws. WpFn 𝓤 H 𝓣.C 𝓣.Λ fn ws Goal in
    let Out : RattleType = type_at ending.signature.result z.0.0 in
    let d = z.0.3.0 in
    let a = z.0.3.1.0 in
    qed 𝓛 ((‵ ftrue ⊛ ‵ (owns (types_at ending.signature.params z.0.0) z.0.3 z.0.4)) ∷ ‵ ftrue ∷ []) ∵
    split ! $ drop ! $ fsplit ! $
    handle_out ! d z.0.4.0 (λ is. move ! (1 ∷ []) $ fsplit ! $
    handle_tells (heap_of R Z the_row_laws ghosts) ! a z.0.4.1.0 (λ hv has fits. move ! (2 ∷ []) $
    by_option d.engine
    -- closed
    (λ none.
    rewrite ! 0 (λ (k : Option EngineState). ‵ (handle_owns d.at k)) none refl $ fpick ! (λ null. drop ! $
    let stored : Val = word (ptr_val null_ptr) in
    let args = stored ∷ hv ∷ [] in
    let same : z.0.4.0 ≡ stored ∷ [] = is ∙ ap (λ (p : Ptr). word (ptr_val p) ∷ []) null in
    suffices ! (Runs args) (subst (λ (us : List Val). ent 𝓤 (Runs args) (Runs us)) (sym (λ i. same i ++ (has i ++ []))) (id⊢ 𝓤 (Runs args))) $
    enter ! 𝓣.C 𝓣.Λ fn args Goal $ alloc_all ! (λ l.
    let locals = env fn.locals l in
    pass_all ! refl ((tt, (record { fits = lit< tt }, tt)), (fits, tt)) $
    sets ! (of_opd ! (get_in ! (fld ! refl (stop !)) (sub ! 0 refl (whole !)))) refl (tt, record { fits = lit< tt }) $
    sets ! (bin ! (get ! refl) (lit ! tt) tt) refl (tt, tt) $ first ! $
    branches ! (get ! refl)
    (λ _.
    sets_last ! (agg ! (and_then ! (lit ! tt) (no_more !))) refl (tt, (record { fits = lit< tt }, tt)) $
    exec ! 𝓣.C 𝓣.Λ locals (after 3 fn.body) (at_ret locals Goal) $
    sets ! (of_opd ! (get ! refl)) refl (tt, (record { fits = lit< tt }, tt)) $
    use0 𝓛 (‵ (Out.own_val None (live 0 vnil ∷ []))) (none_of 𝓛 Whole) $
    use0 𝓛 (raw (fact 𝓤 (d.engine ≡ None))) (fact_i 𝓤 (d.engine ≡ None) (emp 𝓤) none) $
    nothing ! $ nothing ! $ fjoin ! $ nothing ! $ fjoin ! $ nothing ! $
    returns ! (look_at ! 0 refl) $ free_all ! refl $ keep ! (0 ∷ 1 ∷ 3 ∷ 2 ∷ []) $
    by ! (leaves 𝓛 ending stays clauses z (live 0 vnil) None (tt, (tt, tt)) (tt, (tt, tt))))
    (λ wrong. absurd wrong))))
    -- open
    (λ x some.
    rewrite ! 0 (λ (k : Option EngineState). ‵ (handle_owns d.at k)) some refl $ fpick ! (λ heap.
    let free = λ (p : Ptr). ghosts.dealloc_token heap (bare (lone R.mir)) p in
    let owned = λ (p : Ptr). box_owns (ghosts.dealloc_token heap) R p x in
    in_a_block ! d.at owned (fst∗ 𝓤 (never 𝓤) (sem 𝓛 (free null_ptr))) (λ at off here.
    let p : Ptr = block_ptr at off in
    -- a block that may be freed is one that can be told from null
    use1 𝓛 (given (Testable p) (‵ (owned p)))
    (fact_use 𝓤 (Testable p)
    (via 𝓤 _ (snd∗ 𝓤 (sem 𝓛 (lies_at R full_share p x)) (sem 𝓛 (free p))) (dealloc_token-Testable 𝓛 heap (bare (lone R.mir)) p))
    (guard_i 𝓤 (Testable p) (sem 𝓛 (owned p)))) $
    learn ! (λ testable.
    let stored : Val = word (vptr at off) in
    let args = stored ∷ hv ∷ [] in
    let same : z.0.4.0 ≡ stored ∷ [] = is ∙ ap (λ (q : Ptr). word (ptr_val q) ∷ []) here in
    let made : Val = words at off hv in
    let made-typed = typed R Z the_row_laws ghosts at off hv fits in
    let kept : Whole.Denot = record { at = p; alloc = a; value = x } in
    let out : Val = live 1 (vcons made vnil) in
    let good : Good (layout Out) out = (and_tt _ made-typed.0, (record { fits = lit< tt }, (made-typed.1, tt))) in
    suffices ! (Runs args) (subst (λ (us : List Val). ent 𝓤 (Runs args) (Runs us)) (sym (λ i. same i ++ (has i ++ []))) (id⊢ 𝓤 (Runs args))) $
    enter ! 𝓣.C 𝓣.Λ fn args Goal $ alloc_all ! (λ l.
    let locals = env fn.locals l in
    pass_all ! refl ((tt, (tt, tt)), (fits, tt)) $
    sets ! (of_opd ! (get_in ! (fld ! refl (stop !)) (sub ! 0 refl (whole !)))) refl (tt, tt) $
    sets ! (bin ! (get ! refl) (lit ! tt) (tests_null p testable)) refl (tt, tt) $ first ! $
    branches ! (get ! refl)
    (λ wrong. absurd wrong)
    (λ _.
    sets ! (of_opd ! (get ! refl)) refl (tt, tt) $
    sets ! (agg ! (and_then ! (get ! refl) (and_then ! (get ! refl) (no_more !)))) refl made-typed $
    sets_last ! (agg ! (and_then ! (lit ! tt) (and_then ! (get ! refl) (no_more !)))) refl good $
    exec ! 𝓣.C 𝓣.Λ locals (after 3 fn.body) (at_ret locals Goal) $
    sets ! (of_opd ! (get ! refl)) refl good $
    move ! (0 ∷ 1 ∷ []) $ block_in R Z the_row_laws ghosts ! at off hv a x $
    use1 𝓛 (‵ (Out.own_val (Some kept) (out ∷ []))) (Some-of 𝓛 Whole kept made) $
    use0 𝓛 (raw (fact 𝓤 (d.engine ≡ Some x))) (fact_i 𝓤 (d.engine ≡ Some x) (emp 𝓤) some) $
    nothing ! $ nothing ! $ fjoin ! $ nothing ! $ fjoin ! $ nothing ! $
    returns ! (look_at ! 0 refl) $ free_all ! refl $ keep ! (0 ∷ 1 ∷ 3 ∷ 2 ∷ []) $
    by ! (leaves 𝓛 ending stays clauses z out (Some kept) (tt, (tt, tt)) (tt, (tt, tt))))))))))))
