-- The fields of a block are what `from_raw` makes a box of.
use Rattle.std.proofs.Common.{◌≡◌, List, [], ◌∷◌, ◌++◌, refl, sym, ap, subst}
use mir.Syntax.{a_type, dcons, dnil}
use mir.Val.{Val, vptr}
use mir.MapTy.{inst_fn}
use base.Logic.{SProp, ent, id⊢}
use base.Fml.{ftrue, flft}
use prog.Wp.{WpFn}
use types.Kit.{‵, raw, ◌⊛◌, some, later, at_ret, ◌$◌, ◌∵◌, !, qed, by, move, keep, drop, split, split3, join, fsplit, fjoin, pick, suffices, use1, await, rewrite, feq_i}
use types.Run.{stop, fld, of_opd, no_more, and_then, first, blocks, exec, returns, enter}
use types.ByLocal.{alloc_all, pass_all, free_all, look_at, get, get_in, sets, lands_last, env}
use types.Part.{sub, whole}
use contract.Monad.{fact}
use contract.BorrowLft.{◌⊑◌}
use contract.Running.{tables}
use denote.Exit.{no}
use denote.RattleType.{RattleType, owns}
use denote.Signature.{types_at, plain}
use denote.RawPtr.{block_ptr}
use denote.Steps.{nothing, only}
use denote.Param.{param, layout, bounded}
use denote.Param.Laws.{param_laws}
use denote.Triple.Clauses.{Lasts, lasts}
use denote.Triple.Spec.{triple_of}
use denote.Triple.Call.{calls_at_last}
use denote.Triple.Walked.{Stays, stay_dropped, walk_of}
use denote.Triple.Table.{framed}
use Rattle.std.proofs.alloc.Calls.{Goes-blank}
use Rattle.std.proofs.alloc.Shapes.{after}
use Rattle.std.proofs.cell.Inside.{Good}
use Rattle.std.proofs.BoxSteps.Form as box
use Rattle.std.proofs.BoxSteps.Steps.{box_out, box_in}
use Rattle.std.proofs.raw_atomic.Walks.{proved_at, leaves}
use Rattle.std.specs.contracts.boxed.Box.from_raw as remade
use Rattle.std.proofs.boxed.Box.from_raw.Met.{met}
use Rattle.aia_c.proofs.BlockValues.{words, Block, typed, block_out}
use Rattle.aia_c.specs.contracts.block.Block.into_box as into_box
use Rattle.aia_c.proofs.block.Block.into_box.Statement.{statement}
use Rattle.aia_c.proofs.block.Block.into_box.Code as code

pub into_box_spec : {M : Type 1} → statement M
into_box_spec 𝓤 𝓛 𝓜 𝓡 wired T A T-laws A-laws g dict T-drop A-drop allocator T-glue A-glue =
    let H = 𝓛.H in
    let 𝓣 = tables 𝓤 H 𝓜 𝓡 𝓡.env in
    let ending = into_box.ended T A g dict T-drop A-drop in
    let clauses = into_box.clauses T A g dict T-drop A-drop 𝓛 𝓜.mem 𝓡.returns in
    let R : RattleType = param 0 T in
    let Z : RattleType = param 1 A in
    let Z-laws = param_laws 1 A A-laws in
    let Whole : RattleType = Block R Z Z-laws g in
    let boxed : box.Bx = record {
      row = T;
      laws = T-laws;
      al = record { row = A; laws = A-laws; g = g; d = dict; drops = A-drop };
    } in
    let B : RattleType = box.B boxed in
    let args = bounded (a_type ∷ a_type ∷ []) (T, (A, tt)) (dcons dict (dcons T-drop (dcons A-drop dnil))) in
    let fn = inst_fn args code.function in
    let stays : Stays ending.signature.params ending.kept = (stay_dropped (plain (λ _. Whole)) no, tt) in
    proved_at 𝓛 ending stays clauses 𝓜 𝓡
    (Goes-blank 𝓛 2 (plain (λ _. Whole)) no (λ κs x f. tt), tt)
    (into_box.Key.name args) fn (code.unfolded 𝓤 H 𝓜 𝓡 wired (T, (A, tt)) dict T-drop A-drop) (λ z are.
    let lives = z.0.0 in
    let shares = z.0.1 in
    let d = z.0.3.0 in
    let Goal : Val → SProp 𝓤 = (walk_of 𝓛 ending stays clauses).post z in
    let Runs : List Val → SProp 𝓤 = λ ws. WpFn 𝓤 H 𝓣.C 𝓣.Λ fn ws Goal in
    let tokens = ‵ (flft lives.0 shares.0) ⊛ ‵ (flft lives.1.0 shares.1.0) ⊛ ‵ ftrue in
    let needs = raw ((clauses lives z.0.3).requires z.1) in
    qed 𝓛 ((tokens ⊛ ‵ (owns (types_at ending.signature.params lives) z.0.3 z.0.4)) ∷ needs ∷ []) ∵
    split ! $ move ! (1 ∷ []) $ fsplit ! $
    block_out R Z Z-laws g ! d z.0.4.0 (λ at off handle here is fits.
    let word : Val = words at off handle in
    let callee = triple_of 𝓛 (remade.signature T A g dict A-drop) (remade.spec T A g dict A-drop 𝓛 𝓜.mem 𝓡.returns) in
    let call : callee.Ghost = ((lives, shares, tt, (d.alloc, (block_ptr at off, tt)), (handle ∷ [], (vptr at off ∷ [], tt))), d.value) in
    -- the callee gets the handle and the memory, and keeps the tokens for its time
    move ! (4 ∷ []) $
    use1 𝓛 (raw (fact 𝓤 (lives.0 ⊑ T.lives)) ⊛ raw (fact 𝓤 (lives.1.0 ⊑ A.lives)) ⊛ ‵ ftrue) (id⊢ 𝓤 _) $
    split3 ! $ move ! (2 ∷ []) $ drop ! $ move ! (1 ∷ 2 ∷ []) $ join ! $ move ! (1 ∷ 0 ∷ []) $ join ! $
    move ! (2 ∷ []) $ feq_i ! (List Val) (vptr at off ∷ []) (vptr at off ∷ []) refl $ fjoin ! $
    move ! (2 ∷ 0 ∷ []) $ fjoin ! $ move ! (2 ∷ 0 ∷ []) $ join ! $ join ! $
    use1 𝓛 (raw (callee.pre call)) (id⊢ 𝓤 _) $
    suffices ! (Runs (word ∷ []))
    (subst (λ (us : List Val). ent 𝓤 (Runs (word ∷ [])) (Runs us)) (sym (λ i. is i ++ [])) (id⊢ 𝓤 (Runs (word ∷ [])))) $
    enter ! 𝓣.C 𝓣.Λ fn (word ∷ []) Goal $ alloc_all ! (λ l.
    let locals = env fn.locals l in
    pass_all ! refl (typed R Z Z-laws g at off handle fits, tt) $
    sets ! (of_opd ! (get_in ! (fld ! refl (stop !)) (sub ! 0 refl (whole !)))) refl (tt, tt) $
    sets ! (of_opd ! (get_in ! (fld ! refl (stop !)) (sub ! 1 refl (whole !)))) refl fits $
    first ! $ blocks ! $ sets ! (of_opd ! (get ! refl)) refl fits $
    calls_at_last ! (framed 𝓤 𝓛.H 𝓜 (tables 𝓤 𝓛.H 𝓜 𝓡 𝓡.env)) callee
    (met 𝓤 𝓛 𝓜 𝓡 (code.calls-std_alloc::boxed::Box::from_raw 𝓡.env wired) T A T-laws A-laws g dict A-drop allocator A-glue)
    call (and_then ! (get ! refl) (and_then ! (get ! refl) (no_more !))) (λ out.
    use1 𝓛
    (later (some (λ (r : B.Denot). (tokens ⊛ ‵ (B.own_val r (out ∷ [])))
    ⊛ some (λ (ls : Lasts (remade.ended T A g dict A-drop) lives call.0.3). ‵ (lasts (remade.ended T A g dict A-drop) lives call.0.3 ls)
    ⊛ (raw (fact 𝓤 (r.value ≡ d.value)) ⊛ raw (fact 𝓤 (r.alloc ≡ d.alloc)))))))
    (id⊢ 𝓤 _) $
    await ! tt $ pick ! (λ r. split ! $ move ! (1 ∷ []) $ pick ! (λ _. split3 ! $ drop ! $
    move ! (2 ∷ []) $ split ! $ move ! (1 ∷ []) $
    -- the box is looked into once more, since what is stored has to be of its type
    box_out boxed ! r (out ∷ []) (λ at' off' handle' here' is' fits'. box_in boxed ! r at' off' r.value here' refl $
    rewrite ! 0 (λ (vs : List Val). ‵ (B.own_val r vs)) (sym is') refl $
    let good : Good (layout B) out = subst (Good (layout B)) (sym (ap only is')) (typed R Z Z-laws g at' off' handle' fits') in
    lands_last ! refl good $ exec ! 𝓣.C 𝓣.Λ locals (after 3 fn.body) (at_ret locals Goal) $
    sets ! (of_opd ! (get ! refl)) refl good $ nothing ! $ nothing ! $ fjoin ! $
    returns ! (look_at ! 0 refl) $ free_all ! refl $ keep ! (2 ∷ 0 ∷ 1 ∷ 3 ∷ []) $
    by ! (leaves 𝓛 ending stays clauses z out r ((tt, (tt, tt)), tt) (tt, tt)))))))))
