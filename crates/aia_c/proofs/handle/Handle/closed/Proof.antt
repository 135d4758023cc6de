-- A closed handle has the null pointer, and owns nothing.
use Rattle.std.proofs.Common.{◌≡◌, [], ◌∷◌, refl, lit<}
use Rattle.std.specs.Prelude.{Option, None}
use mir.Val.{Val}
use base.Logic.{SProp, emp}
use base.Fml.{ftrue}
use types.Kit.{‵, raw, ◌⊛◌, ◌$◌, ◌∵◌, !, qed, by, keep, drop, fpack, use0}
use types.Run.{lit, no_more, and_then, returns, enter}
use types.ByLocal.{alloc_all, pass_all, free_all, look_at, sets}
use types.Part.{agg}
use contract.Monad.{fact, fact_i}
use contract.Running.{tables}
use denote.RawPtr.{null_ptr, ptr_val}
use denote.Steps.{nothing}
use denote.Triple.Walked.{Stays, walk_of}
use Rattle.std.proofs.raw_atomic.Walks.{proved_at, leaves}
use Rattle.aia_replay.specs.Stands.{EngineState}
use Rattle.aia_c.proofs.HandleValues.{word, handle_in}
use Rattle.aia_c.specs.contracts.handle.Handle.closed as closed
use Rattle.aia_c.proofs.handle.Handle.closed.Statement.{statement}
use Rattle.aia_c.proofs.handle.Handle.closed.Code as code

pub closed_spec : {M : Type 1} → statement M
closed_spec 𝓤 𝓛 𝓜 𝓡 wired =
    let H = 𝓛.H in
    let 𝓣 = tables 𝓤 H 𝓜 𝓡 𝓡.env in
    let ending = closed.ended in
    let clauses = closed.clauses 𝓛 𝓜.mem 𝓡.returns in
    let stays : Stays ending.signature.params ending.kept = tt in
    let none : Option EngineState = None in
    proved_at 𝓛 ending stays clauses 𝓜 𝓡 tt closed.Key.name code.function (code.unfolded 𝓤 H 𝓜 𝓡 wired) (λ z are.
    let Goal : Val → SProp 𝓤 = (walk_of 𝓛 ending stays clauses).post z in
    qed 𝓛 ((‵ ftrue ⊛ ‵ ftrue) ∷ ‵ ftrue ∷ []) ∵
    drop ! $ drop ! $
    enter ! 𝓣.C 𝓣.Λ code.function [] Goal $ alloc_all ! (λ l. pass_all ! refl tt $
    sets ! (agg ! (and_then ! (lit ! tt) (no_more !))) refl (tt, (record { fits = lit< tt }, tt)) $
    nothing ! $ fpack ! (null_ptr ≡ null_ptr) (λ _. ftrue) refl $ handle_in ! null_ptr None $
    use0 𝓛 (raw (fact 𝓤 (none ≡ none))) (fact_i 𝓤 (none ≡ none) (emp 𝓤) refl) $
    nothing ! $ nothing ! $
    returns ! (look_at ! 0 refl) $ free_all ! refl $ keep ! (0 ∷ 1 ∷ 3 ∷ 2 ∷ []) $
    by ! (leaves 𝓛 ending stays clauses z (word (ptr_val null_ptr)) (record { at = null_ptr; engine = None }) tt tt)))
