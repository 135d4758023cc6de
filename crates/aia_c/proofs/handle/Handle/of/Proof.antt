-- A handle keeps the address of a block; C's heap has one handle, which holds nothing.
use Rattle.std.proofs.Common.{◌≡◌, List, [], ◌∷◌, ◌++◌, refl, sym, subst}
use Rattle.std.specs.Prelude.{Some}
use mir.Val.{Val, vptr}
use base.Logic.{SProp, ent, emp, id⊢}
use base.Fml.{ftrue}
use prog.Wp.{WpFn}
use types.Kit.{‵, raw, ◌⊛◌, ◌$◌, ◌∵◌, !, qed, by, keep, drop, split, fsplit, fjoin, fpack, suffices, use0}
use types.Run.{stop, fld, of_opd, no_more, and_then, returns, enter}
use types.ByLocal.{alloc_all, pass_all, free_all, look_at, get, get_in, sets}
use types.Part.{agg, sub, whole}
use contract.Monad.{fact, fact_i}
use contract.Running.{tables}
use denote.RattleType.{RattleType, owns}
use denote.Signature.{types_at, plain}
use denote.RawPtr.{block_ptr}
use denote.Steps.{nothing}
use denote.Triple.Walked.{Stays, stay_dropped, walk_of}
use Rattle.std.proofs.alloc.Calls.{Goes-blank}
use Rattle.std.proofs.alloc.Global.TheLaws.{the_row_laws}
use Rattle.std.specs.declared.alloc.Global.{Global}
use Rattle.std.specs.contracts.alloc.Global as heap
use Rattle.std.specs.contracts.impls.GlobalAllocator.TheImpl.{ghosts}
use Rattle.std.specs.Box.Ownership.{box_owns}
use Rattle.std.proofs.raw_atomic.Walks.{proved_at, leaves}
use Rattle.aia_c.proofs.BlockValues.{words, Block, typed, block_out}
use Rattle.aia_replay.specs.contracts.engine.Engine as engine
use Rattle.aia_c.proofs.HandleValues.{word, handle_in}
use Rattle.aia_c.specs.contracts.handle.Handle.of as of
use Rattle.aia_c.proofs.handle.Handle.of.Statement.{statement}
use Rattle.aia_c.proofs.handle.Handle.of.Code as code

pub of_spec : {M : Type 1} → statement M
of_spec 𝓤 𝓛 𝓜 𝓡 wired =
    let H = 𝓛.H in
    let 𝓣 = tables 𝓤 H 𝓜 𝓡 𝓡.env in
    let ending = of.ended in
    let clauses = of.clauses 𝓛 𝓜.mem 𝓡.returns in
    let R : RattleType = engine.the_row in
    let Z : RattleType = heap.the_row in
    let Whole : RattleType = Block R Z the_row_laws ghosts in
    let stays : Stays ending.signature.params ending.kept = (stay_dropped (plain (λ _. Whole)) ending.kept.0, tt) in
    proved_at 𝓛 ending stays clauses 𝓜 𝓡
    (Goes-blank 𝓛 0 (plain (λ _. Whole)) ending.kept.0 (λ κs x f. tt), tt)
    of.Key.name code.function (code.unfolded 𝓤 H 𝓜 𝓡 wired) (λ z are.
    let Goal : Val → SProp 𝓤 = (walk_of 𝓛 ending stays clauses).post z in
    let Runs : List Val → SProp 𝓤 = λ ws. WpFn 𝓤 H 𝓣.C 𝓣.Λ code.function ws Goal in
    let d = z.0.3.0 in
    qed 𝓛 ((‵ ftrue ⊛ ‵ (owns (types_at ending.signature.params z.0.0) z.0.3 z.0.4)) ∷ ‵ ftrue ∷ []) ∵
    split ! $ drop ! $ fsplit ! $
    block_out R Z the_row_laws ghosts ! d z.0.4.0 (λ at off handle here is fits.
    let stored : Val = words at off handle in
    suffices ! (Runs (stored ∷ []))
    (subst (λ (us : List Val). ent 𝓤 (Runs (stored ∷ [])) (Runs us)) (sym (λ i. is i ++ [])) (id⊢ 𝓤 (Runs (stored ∷ [])))) $
    enter ! 𝓣.C 𝓣.Λ code.function (stored ∷ []) Goal $ alloc_all ! (λ l.
    pass_all ! refl (typed R Z the_row_laws ghosts at off handle fits, tt) $
    sets ! (of_opd ! (get_in ! (fld ! refl (stop !)) (sub ! 0 refl (whole !)))) refl (tt, tt) $
    sets ! (of_opd ! (get ! refl)) refl (tt, tt) $
    sets ! (agg ! (and_then ! (get ! refl) (no_more !))) refl (tt, (tt, tt)) $
    -- what the block owned is now the handle's
    fpack ! Global (λ heap. box_owns (ghosts.dealloc_token heap) R (block_ptr at off) d.value) d.alloc $
    handle_in ! (block_ptr at off) (Some d.value) $
    use0 𝓛 (raw (fact 𝓤 (Some d.value ≡ Some d.value))) (fact_i 𝓤 (Some d.value ≡ Some d.value) (emp 𝓤) refl) $
    nothing ! $ nothing ! $ fjoin ! $ nothing ! $
    returns ! (look_at ! 0 refl) $ free_all ! refl $ keep ! (0 ∷ 1 ∷ 3 ∷ 2 ∷ []) $
    by ! (leaves 𝓛 ending stays clauses z (word (vptr at off)) (record { at = block_ptr at off; engine = Some d.value }) (tt, tt) (tt, tt)))))
