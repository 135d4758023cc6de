-- How the machine stores a block, and what is owned of one: its memory, and the allocator's handle.
use Rattle.std.proofs.Common.{◌≡◌, ℕ, List, [], ◌∷◌, ◌++◌, refl, subst}
use mathlib.Core.Bool.{true, ◌&&◌}
use lib.Dec.{T}
use seplogic.Ra.Ura.{Ura}
use mir.Syntax.{impl, tnil, dnil}
use mir.Raw.{raw as bare}
use mir.Val.{Val, vptr, vstruct, vcons, vnil, of_list, has_ty, WT}
use base.Logic.{never, fst∗}
use types.Logic.{Logic, sem}
use types.Kit.{Item, Goal, Seq, Step, step, ‵, ◌$◌, move, drop, fsplit, fjoin, fpick, fpack, feq_i, feq_l}
use denote.RattleType.{RattleType, Valss}
use denote.Builtin.{RawPtr}
use denote.Memory.{lone}
use denote.RawPtr.{Ptr, block_ptr, null_ptr, ptr_val, in_a_block}
use denote.Steps.{nothing}
use denote.Param.{layout}
use denote.Param.Laws.{Laws}
use denote.Struct.Struct.{within}
use denote.Struct.Owning.{shape}
use Rattle.std.specs.declared.alloc.Allocator.{Ghosts}
use Rattle.std.proofs.alloc.Calls.{Al, handle_tells}
use Rattle.std.proofs.cell.Inside.{Good}
use Rattle.std.specs.Box.Ownership.{box_owns}
use Rattle.std.proofs.ResultValues.{and_tt}
use Rattle.aia_c.specs.contracts.block.Block as block

-- the two words of a block: its address, and the handle
abbrev pub words : ℕ → ℕ → Val → Val
words b o h = vstruct (vcons (vptr b o) (vcons h vnil))

-- R is the value's type, and Z the allocator's
module _ (R Z : RattleType) (laws : Laws Z) (g : Ghosts Z.Denot) where
  abbrev pub Block : RattleType
  Block = block.the_row R Z g

  abbrev pub heap : Al
  heap = record { row = Z; laws = laws; g = g; d = impl [] tnil dnil; drops = impl [] tnil dnil }

  pub typed : (b o : ℕ) (h : Val) → Good (layout Z) h → T (has_ty (layout Z) h && true) × WT (words b o h)
  typed b o h fits = (and_tt (has_ty (layout Z) h) fits.0, (tt, (fits.1, tt)))

  module _ {M : Type 1} {𝓤 : Ura M} {𝓛 : Logic 𝓤} {K : Type 0} {Γ : List (Item 𝓤)} {G : Goal 𝓤 𝓛.H} where
    -- a block is not null: it has an address, and its machine value is that with the handle's
    pub block_out : K → (d : Block.Denot) (vs : List Val)
        → ((b o : ℕ) (h : Val) → d.at ≡ block_ptr b o → vs ≡ words b o h ∷ [] → Good (layout Z) h
        → Seq K 𝓛 (‵ (box_owns (g.dealloc_token d.alloc) R (block_ptr b o) d.value) ∷ ‵ (Z.own_val d.alloc (h ∷ [])) ∷ Γ) G)
        → Seq K 𝓛 (‵ (Block.own_val d vs) ∷ Γ) G
    block_out t d vs rest =
        let free = λ (p : Ptr). g.dealloc_token d.alloc (bare (lone R.mir)) p in
        let owned = λ (p : Ptr). box_owns (g.dealloc_token d.alloc) R p d.value in
        let stored = λ (ps : List Val). vs ≡ vstruct (of_list ps) ∷ [] in
        fsplit t $ fpick t (λ parts. fsplit t $ feq_l t (λ whole. fsplit t $ feq_l t (λ first. fsplit t $
        handle_tells heap t d.alloc parts.1.0 (λ h second fits. move t (1 ∷ []) $ drop t $ move t (1 ∷ []) $
        in_a_block t d.at owned (fst∗ 𝓤 (never 𝓤) (sem 𝓛 (free null_ptr))) (λ b o e. rest b o h e
        (subst (λ (p : Ptr). stored (ptr_val p ∷ h ∷ [])) e
        (subst (λ (ws : List Val). stored (ptr_val d.at ∷ (ws ++ []))) second
        (subst (λ (ps : List Val). stored (ps ++ (parts.1.0 ++ []))) first whole)))
        fits)))))

    pub block_in : K → (b o : ℕ) (h : Val) (a : Z.Denot) (x : R.Denot)
        → Step K 𝓛 (‵ (Block.own_val (record { at = block_ptr b o; alloc = a; value = x }) (words b o h ∷ [])) ∷ Γ) G
        (‵ (box_owns (g.dealloc_token a) R (block_ptr b o) x) ∷ ‵ (Z.own_val a (h ∷ [])) ∷ Γ) G
    block_in t b o h a x = step (λ rest.
        let inside = within (shape (block.the_type R Z g)) (block_ptr b o, (a, tt)) (words b o h ∷ []) in
        nothing t $ move t (2 ∷ 0 ∷ []) $ fjoin t $
        feq_i t (List Val) (vptr b o ∷ []) (vptr b o ∷ []) refl $ fjoin t $
        feq_i t (List Val) (words b o h ∷ []) (words b o h ∷ []) refl $ fjoin t $
        fpack t (Valss (RawPtr ∷ Z ∷ [])) inside (vptr b o ∷ [], (h ∷ [], tt)) $ fjoin t $ rest)
