-- How the machine stores a box that was taken apart, and what it owns then. Assumes `Logic`.
use Rattle.std.proofs.Common.{◌≡◌, ◌∙◌, ℕ, List, [], ◌∷◌, ◌++◌, refl, ap}
use mathlib.Core.Bool.{true, ◌&&◌}
use lib.Dec.{T}
use seplogic.Ra.Ura.{Ura}
use mir.Syntax.{impl, tnil, dnil}
use mir.Raw.{raw as bare}
use mir.Val.{Val, vptr, vstruct, of_list, has_ty, WT}
use base.Fml.{Fml}
use base.Logic.{ent, never, fst∗}
use types.Logic.{Logic, sem}
use types.Kit.{Item, Goal, Seq, Step, step, ‵, ◌$◌, move, drop, fsplit, fjoin, fpick, fpack, feq_i, feq_l}
use denote.RattleType.{RattleType, Valss}
use denote.Builtin.{RawPtr}
use denote.Memory.{lone}
use denote.RawPtr.{Ptr, block_ptr, null_ptr, ptr_val, in_a_block}
use denote.Steps.{nothing}
use denote.Param.{layout}
use denote.Param.Laws.{Laws}
use denote.Struct.Struct.{within}
use denote.Struct.Owning.{shape}
use Rattle.core.specs.declared.alloc.Allocator.{Ghosts}
use Rattle.core.proofs.alloc.Calls.{Al, handle_tells}
use Rattle.core.proofs.cell.Inside.{Good}
use Rattle.std_alloc.specs.Box.Ownership.{box_owns}
use Rattle.std_alloc.proofs.ResultValues.{and_tt}
use Rattle.raft_c.specs.contracts.raw_box.RawBox as raw_box

-- a struct of two parts
abbrev pub two : Val → Val → Val
two v w = vstruct (of_list (v ∷ w ∷ []))

module _ (R Z : RattleType) (laws : Laws Z) (g : Ghosts Z.Denot) where
  abbrev pub Raw : RattleType
  Raw = raw_box.the_row R Z g

  -- the allocator, as calls know it
  abbrev heap : Al
  heap = record { row = Z; laws = laws; g = g; d = impl [] tnil dnil; drops = impl [] tnil dnil }

  -- what a box at an address owns
  abbrev pub holds : Z.Denot → Ptr → R.Denot → Fml
  holds a p x = box_owns (g.dealloc_token a) R p x

  -- an address beside a stored allocator is of the type
  pub two_fit : (b o : ℕ) (h : Val) → Good (layout Z) h
      → T (has_ty (layout Z) h && true) × WT (two (vptr b o) h)
  two_fit b o h (typed, fits) = (and_tt (has_ty (layout Z) h) typed, (tt, (fits, tt)))

  -- no box is at null
  pub none_at_null : {M : Type 1} {𝓤 : Ura M} (𝓛 : Logic 𝓤) (a : Z.Denot) (x : R.Denot)
      → ent 𝓤 (sem 𝓛 (holds a null_ptr x)) (never 𝓤)
  none_at_null {𝓤} 𝓛 a x = fst∗ 𝓤 (never 𝓤) (sem 𝓛 (g.dealloc_token a (bare (lone R.mir)) null_ptr))

  module _ {M : Type 1} {𝓤 : Ura M} {𝓛 : Logic 𝓤} {K : Type 0} {Γ : List (Item 𝓤)} {G : Goal 𝓤 𝓛.H} where
    -- its parts: an address in a block, with what a box there owns, and the allocator
    pub take_apart : K → (d : Raw.Denot) (vs : List Val)
        → ((b o : ℕ) (h : Val) → d.at ≡ block_ptr b o → vs ≡ two (vptr b o) h ∷ [] → Good (layout Z) h
        → Seq K 𝓛 (‵ (holds d.alloc (block_ptr b o) d.value) ∷ ‵ (Z.own_val d.alloc (h ∷ [])) ∷ Γ) G)
        → Seq K 𝓛 (‵ (Raw.own_val d vs) ∷ Γ) G
    take_apart t d vs then =
        fsplit t $ fpick t (λ parts. let hs : List Val = parts.1.0 in
        fsplit t $ feq_l t (λ whole.
        fsplit t $ feq_l t (λ address.
        fsplit t $ handle_tells heap t d.alloc hs (λ h stored fits.
        move t (1 ∷ []) $ drop t $ move t (1 ∷ []) $
        in_a_block t d.at (λ p. holds d.alloc p d.value) (none_at_null 𝓛 d.alloc d.value) (λ b o place.
        then b o h place
        (whole ∙ (λ i. vstruct (of_list (address i ++ (stored i ++ []))) ∷ [])
        ∙ ap (λ p. two (ptr_val p) h ∷ []) place)
        fits)))))

    -- .. and back
    pub put_together : K → (b o : ℕ) (h : Val) (a : Z.Denot) (x : R.Denot)
        → Step K 𝓛 (‵ (Raw.own_val (record { at = block_ptr b o; alloc = a; value = x }) (two (vptr b o) h ∷ [])) ∷ Γ) G
        (‵ (holds a (block_ptr b o) x) ∷ ‵ (Z.own_val a (h ∷ [])) ∷ Γ) G
    put_together t b o h a x = step (λ rest.
        let whole : Val = two (vptr b o) h in let address : Val = vptr b o in
        nothing t $ move t (2 ∷ 0 ∷ []) $ fjoin t $
        feq_i t (List Val) (address ∷ []) (address ∷ []) refl $ fjoin t $
        feq_i t (List Val) (whole ∷ []) (whole ∷ []) refl $ fjoin t $
        fpack t (Valss (RawPtr ∷ Z ∷ []))
        (within (shape (raw_box.the_type R Z g)) (block_ptr b o, (a, tt)) (whole ∷ []))
        (address ∷ [], (h ∷ [], tt)) $
        fjoin t $ rest)
