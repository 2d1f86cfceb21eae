-- What a handle of something owns goes with its address.
use Rattle.std.proofs.Common.{◌≡◌, [], ◌∷◌, ◌++◌, List, refl, sym, subst, ap, ◌∙◌}
use mir.Val.{Val, vptr}
use mir.Raw.{raw as bare}
use mir.Syntax.{impl, tnil, dnil}
use base.Logic.{SProp, ent, id⊢, never, fst∗}
use base.Fml.{ftrue}
use prog.Wp.{WpFn}
use types.Logic.{sem}
use types.Kit.{‵, raw, ◌⊛◌, ◌$◌, ◌∵◌, !, qed, done, move, drop, split, join, fsplit, fjoin, suffices, rewrite}
use types.Run.{stop, fld, enter, of_opd, no_more, and_then, returns}
use types.Part.{agg, sub, whole}
use types.ByLocal.{alloc_all, pass_all, free_all, look_at, get, get_in, sets}
use contract.Monad.{fact}
use contract.Running.{tables}
use denote.Exit.{yes}
use denote.Memory.{lone}
use denote.RattleType.{owns}
use denote.RawPtr.{block_ptr, null_ptr, ptr_val, in_a_block}
use denote.Signature.{plain}
use denote.Steps.{nothing, heard}
use denote.Triple.Walked.{says, Stays, stay_dropped, Goes-dropped, walk_of, ends_at}
use Rattle.core.proofs.alloc.Calls.{Al, handle_tells}
use Rattle.std.proofs.raw_atomic.Walks.{proved_at}
use Rattle.std.specs.Prelude.{IsSome}
use Rattle.std_alloc.specs.Box.Ownership.{box_owns}
use Rattle.std_heap.specs.contracts.Global as heap
use Rattle.std_heap.specs.contracts.GlobalAllocator.TheImpl.{ghosts}
use Rattle.std_heap.proofs.Global.TheLaws.{the_row_laws}
use Rattle.raft_c.specs.Handle.{frees, handle_owns}
use Rattle.raft_c.specs.contracts.log.Log as log
use Rattle.raft_c.specs.contracts.handle.Handle as handle
use Rattle.raft_c.proofs.Handles.{one, of_some, handle_out}
use Rattle.raft_c.proofs.RawBoxes.{two, put_together, two_fit}
use Rattle.raft_c.specs.contracts.handle.Handle.into_raw as f
use Rattle.raft_c.specs.contracts.handle.Handle.into_raw.Key.{name as #self}
use Rattle.raft_c.proofs.handle.Handle.into_raw.Statement.{statement}
use Rattle.raft_c.proofs.handle.Handle.into_raw.Code as code

abbrev stayed : Stays (f.ended).signature.params (f.ended).kept
stayed = (stay_dropped (plain (λ _. handle.the_row)) yes, (stay_dropped (plain (λ _. heap.the_row)) yes, tt))

abbrev al : Al
al = record { row = heap.the_row; laws = the_row_laws; g = ghosts; d = impl [] tnil dnil; drops = impl [] tnil dnil }

pub into_raw_spec : {M : Type 1} → statement M
into_raw_spec 𝓤 𝓛 𝓜 𝓡 wired =
    let c = f.clauses 𝓛 𝓜.mem 𝓡.returns in let 𝓣 = tables 𝓤 𝓛.H 𝓜 𝓡 𝓡.env in
    proved_at 𝓛 f.ended stayed c 𝓜 𝓡 (Goes-dropped 𝓛 0 (plain (λ _. handle.the_row)) yes (λ κs x w. refl), (Goes-dropped 𝓛 0 (plain (λ _. heap.the_row)) yes (λ κs x w. refl), tt)) #self code.function (code.unfolded 𝓤 𝓛.H 𝓜 𝓡 wired) (λ z are.
    let p = z.0.3.0.at in let x = z.0.3.0.value in let a = z.0.3.1.0 in
    let Post : Val → SProp 𝓤 = (walk_of 𝓛 f.ended stayed c).post z in let Run : List Val → SProp 𝓤 = λ ws. WpFn 𝓤 𝓛.H 𝓣.C 𝓣.Λ code.function ws Post in
    qed 𝓛 ((‵ ftrue ⊛ ‵ (owns (handle.the_row ∷ heap.the_row ∷ []) z.0.3 z.0.4)) ∷ raw (fact 𝓤 (IsSome x)) ∷ []) ∵ split ! $ drop ! $ move ! (1 ∷ []) $
    heard ! (IsSome x) (λ some. let s = of_some x some in
    fsplit ! $ handle_out ! p x z.0.4.0 (λ us.
    rewrite ! 0 (λ y. ‵ (handle_owns p y)) (sym s.1) refl $
    in_a_block ! p (λ q. box_owns frees log.the_row q s.0) (fst∗ 𝓤 (never 𝓤) (sem 𝓛 (frees (bare (lone (log.the_row).mir)) null_ptr))) (λ b o e.
    move ! (1 ∷ []) $ fsplit ! $ handle_tells al ! a z.0.4.1.0 (λ h eh fits.
    move ! (1 ∷ []) $ drop ! $ move ! (1 ∷ 0 ∷ []) $
    let w : Val = one (vptr b o) in let typed = two_fit log.the_row heap.the_row the_row_laws ghosts b o h fits in
    let ws : z.0.4.0 ≡ w ∷ [] = us ∙ ap (λ q. one (ptr_val q) ∷ []) e in
    suffices ! (Run (w ∷ h ∷ [])) (subst (λ (vs : List Val). ent 𝓤 (Run (w ∷ h ∷ [])) (Run vs)) (sym (λ i. ws i ++ (eh i ++ []))) (id⊢ 𝓤 (Run (w ∷ h ∷ [])))) $
    enter ! 𝓣.C 𝓣.Λ code.function (w ∷ h ∷ []) Post $ alloc_all ! (λ l. pass_all ! refl ((tt, (tt, tt)), (fits, tt)) $
    sets ! (of_opd ! (get_in ! (fld ! refl (stop !)) (sub ! 0 refl (whole !)))) refl (tt, tt) $
    sets ! (of_opd ! (get ! refl)) refl (tt, tt) $
    sets ! (agg ! (and_then ! (get ! refl) (and_then ! (get ! refl) (no_more !)))) refl typed $
    returns ! (look_at ! 0 refl) $ free_all ! refl $
    put_together log.the_row heap.the_row the_row_laws ghosts ! b o h a s.0 $
    suffices ! _ (ends_at 𝓛 f.ended stayed c z (two (vptr b o) h) (record { at = block_ptr b o; alloc = a; value = s.0 }) (tt, (tt, tt)) (tt, (tt, tt))) $ says ! s.1 $
    nothing ! $ nothing ! $ fjoin ! $ nothing ! $ fjoin ! $ join ! $ nothing ! $ join ! $ done !))))))
