-- The machine value of a handle, and what it owns. Assumes `Logic`.
use Rattle.std.proofs.Common.{◌≡◌, List, [], ◌∷◌, ◌++◌, refl, sym, subst, true≢false}
use seplogic.Ra.Ura.{Ura}
use mir.Val.{Val, vstruct, vcons, vnil, of_list}
use types.Logic.{Logic}
use types.Kit.{Item, Goal, Seq, Step, step, ‵, ◌$◌, drop, fsplit, fjoin, fpick, fpack, feq_i, feq_l}
use denote.RattleType.{Valss}
use denote.Builtin.{RawPtr}
use denote.RawPtr.{Ptr, ptr_val}
use denote.Steps.{nothing}
use denote.Struct.Struct.{within}
use denote.Struct.Owning.{shape}
use Rattle.std.specs.Prelude.{Option, Some, None, IsSome}
use Rattle.raft_c.specs.Handle.{handle_owns}
use Rattle.raft_c.specs.declared.log.Log.{Log}
use Rattle.raft_c.specs.contracts.handle.Handle as handle

abbrev pub one : Val → Val
one v = vstruct (vcons v vnil)

-- the value that is there
pub of_some : (x : Option Log) → IsSome x → (c : Log) × (Some c ≡ x)
of_some (Some c) s = (c, refl)
of_some None s = absurd (true≢false (sym s))

module _ {M : Type 1} {𝓤 : Ura M} {𝓛 : Logic 𝓤} {K : Type 0} {Γ : List (Item 𝓤)} {G : Goal 𝓤 𝓛.H} where
  pub handle_out : K → (p : Ptr) (x : Option Log) (vs : List Val)
      → (vs ≡ one (ptr_val p) ∷ [] → Seq K 𝓛 (‵ (handle_owns p x) ∷ Γ) G)
      → Seq K 𝓛 (‵ (handle.the_row.own_val (record { at = p; value = x }) vs) ∷ Γ) G
  handle_out t p x vs k =
      fsplit t $ fpick t (λ vss. fsplit t $ feq_l t (λ ev. fsplit t $ feq_l t (λ ep. drop t $
      k (subst (λ (ps : List Val). vs ≡ vstruct (of_list (ps ++ [])) ∷ []) ep ev))))

  pub handle_in : K → (p : Ptr) (x : Option Log)
      → Step K 𝓛 (‵ (handle.the_row.own_val (record { at = p; value = x }) (one (ptr_val p) ∷ [])) ∷ Γ) G (‵ (handle_owns p x) ∷ Γ) G
  handle_in t p x = step (λ s. let v : Val = one (ptr_val p) in
      nothing t $ feq_i t (List Val) (ptr_val p ∷ []) (ptr_val p ∷ []) refl $ fjoin t $ feq_i t (List Val) (v ∷ []) (v ∷ []) refl $ fjoin t $
      fpack t (Valss (RawPtr ∷ [])) (within (shape handle.the_type) (p, tt) (v ∷ [])) (ptr_val p ∷ [], tt) $ fjoin t $ s)
