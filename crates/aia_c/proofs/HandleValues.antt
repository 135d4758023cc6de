-- How the machine stores a handle: one word, which is its pointer.
use Rattle.std.proofs.Common.{◌≡◌, List, [], ◌∷◌, ◌++◌, refl, subst}
use Rattle.std.specs.Prelude.{Option, Some, None}
use seplogic.Ra.Ura.{Ura}
use mir.Val.{Val, vstruct, vcons, vnil, of_list}
use types.Logic.{Logic}
use types.Kit.{Item, Goal, Seq, Step, step, ‵, ◌$◌, drop, fsplit, fjoin, fpick, fpack, feq_i, feq_l}
use denote.RattleType.{RattleType, Valss}
use denote.Builtin.{RawPtr}
use denote.RawPtr.{Ptr, ptr_val}
use denote.Steps.{nothing}
use denote.Struct.Struct.{within}
use denote.Struct.Owning.{shape}
use Rattle.aia_replay.specs.Stands.{EngineState}
use Rattle.aia_c.specs.Ownership.{handle_owns}
use Rattle.aia_c.specs.contracts.handle.Handle as handle

pub by_option : {X : Type 0} {Y : Type 1} (k : Option X) → (k ≡ None → Y) → ((x : X) → k ≡ Some x → Y) → Y
by_option None none some = none refl
by_option (Some x) none some = some x refl

abbrev pub word : Val → Val
word v = vstruct (vcons v vnil)

abbrev pub Handle : RattleType
Handle = handle.the_row

module _ {M : Type 1} {𝓤 : Ura M} {𝓛 : Logic 𝓤} {K : Type 0} {Γ : List (Item 𝓤)} {G : Goal 𝓤 𝓛.H} where
  pub handle_out : K → (d : Handle.Denot) (vs : List Val)
      → (vs ≡ word (ptr_val d.at) ∷ [] → Seq K 𝓛 (‵ (handle_owns d.at d.engine) ∷ Γ) G)
      → Seq K 𝓛 (‵ (Handle.own_val d vs) ∷ Γ) G
  handle_out t d vs k =
      fsplit t $ fpick t (λ vss. fsplit t $ feq_l t (λ ev. fsplit t $ feq_l t (λ ep. drop t $
      k (subst (λ (ps : List Val). vs ≡ vstruct (of_list (ps ++ [])) ∷ []) ep ev))))

  pub handle_in : K → (p : Ptr) (c : Option EngineState)
      → Step K 𝓛 (‵ (Handle.own_val (record { at = p; engine = c }) (word (ptr_val p) ∷ [])) ∷ Γ) G (‵ (handle_owns p c) ∷ Γ) G
  handle_in t p c = step (λ s. let v : Val = word (ptr_val p) in
      nothing t $ feq_i t (List Val) (ptr_val p ∷ []) (ptr_val p ∷ []) refl $ fjoin t $ feq_i t (List Val) (v ∷ []) (v ∷ []) refl $ fjoin t $
      fpack t (Valss (RawPtr ∷ [])) (within (shape handle.the_type) (p, tt) (v ∷ [])) (ptr_val p ∷ [], tt) $ fjoin t $ s)
