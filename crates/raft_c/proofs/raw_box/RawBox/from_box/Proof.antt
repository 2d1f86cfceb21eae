-- `from_box`: what the box owned goes with its address.
use Rattle.std.proofs.Common.{◌≡◌, ◌∙◌, List, [], ◌∷◌, ◌++◌, refl, sym, ap, subst}
use mir.Syntax.{a_type, dcons, dnil}
use mir.Val.{Val, vptr, vstruct, of_list}
use mir.MapTy.{inst_fn}
use base.Logic.{SProp, ent, emp, id⊢}
use base.Fml.{Fml, ftrue, fsep, flft}
use prog.Wp.{WpFn}
use types.Kit.{‵, raw, ◌⊛◌, some, later, ◌$◌, ◌∵◌, !, qed, by, move, keep, drop, split, split3, join, fsplit, fjoin, fpick, pick, suffices, use0, use1, await, rewrite, feq_l}
use types.Run.{stop, fld, of_opd, no_more, and_then, returns, enter}
use types.ByLocal.{alloc_all, pass_all, free_all, look_at, get, get_in, sets, lands_as}
use types.Part.{agg, sub, whole}
use contract.Monad.{fact, fact_i}
use contract.Running.{tables}
use denote.Exit.{no}
use denote.RattleType.{RattleType, owns}
use denote.Signature.{types_at, plain}
use denote.Builtin.{RawPtr}
use denote.RawPtr.{Ptr, block_ptr, ptr_val, in_a_block}
use denote.Steps.{nothing, only, heard}
use denote.Param.{param, bounded}
use denote.Param.Laws.{param_laws}
use denote.Struct.Tuple.{Tuple}
use denote.Triple.Spec.{triple_of}
use denote.Triple.Call.{calls_at}
use denote.Triple.Walked.{Stays, stay_dropped, walk_of}
use Rattle.core.proofs.alloc.Calls.{Goes-blank, handle_tells}
use Rattle.core.proofs.atomic.Steps.{fm}
use Rattle.std_alloc.proofs.BoxSteps.Form as box
use Rattle.std_alloc.proofs.BoxSteps.Steps.{box_out, box_in}
use Rattle.std.proofs.raw_atomic.Walks.{proved_at, leaves}
use Rattle.std_alloc.specs.contracts.boxed.Box.into_raw_with_allocator as into_raw
use Rattle.std_alloc.proofs.boxed.Box.into_raw_with_allocator.Met.{met}
use Rattle.raft_c.proofs.RawBoxes.{two, two_fit, holds, none_at_null, put_together}
use Rattle.raft_c.specs.contracts.raw_box.RawBox.from_box.{ended, clauses}
use Rattle.raft_c.specs.contracts.raw_box.RawBox.from_box.Key.{name as #self}
use Rattle.raft_c.proofs.raw_box.RawBox.from_box.Statement.{statement}
use Rattle.raft_c.proofs.raw_box.RawBox.from_box.Code as code

pub from_box_spec : {M : Type 1} → statement M
from_box_spec 𝓤 𝓛 𝓜 𝓡 wired T A T_laws A_laws g d dx dd allocator glue glued =
    let R : RattleType = param 0 T in let Z : RattleType = param 1 A in let Z_laws = param_laws 1 A A_laws in
    let here = ended T A g d dx dd in let c = clauses T A g d dx dd 𝓛 𝓜.mem 𝓡.returns in
    let boxes : box.Bx = record { row = T; laws = T_laws; al = record { row = A; laws = A_laws; g = g; d = d; drops = dd } } in
    let args = bounded (a_type ∷ a_type ∷ []) (T, (A, tt)) (dcons d (dcons dx (dcons dd dnil))) in
    let fn = inst_fn args code.function in let 𝓣 = tables 𝓤 𝓛.H 𝓜 𝓡 𝓡.env in
    let stays : Stays here.signature.params here.kept = (stay_dropped (plain (λ _. box.B boxes)) no, tt) in
    let goes = Goes-blank 𝓛 2 (plain (λ _. box.B boxes)) no (λ κs x f. tt) in
    proved_at 𝓛 here stays c 𝓜 𝓡 (goes, tt) (#self args) fn (code.unfolded 𝓤 𝓛.H 𝓜 𝓡 wired (T, (A, tt)) d dx dd) (λ z are.
    let κs = z.0.0 in let qs = z.0.1 in let given = z.0.3.0 in let a = given.alloc in let x = given.value in
    let after : Val → SProp 𝓤 = (walk_of 𝓛 here stays c).post z in
    let runs : List Val → SProp 𝓤 = λ ws. WpFn 𝓤 𝓛.H 𝓣.C 𝓣.Λ fn ws after in
    let lives = ‵ (flft κs.0 qs.0) ⊛ ‵ (flft κs.1.0 qs.1.0) ⊛ ‵ ftrue in
    let call = triple_of 𝓛 (into_raw.signature T A g d dd dx) (into_raw.spec T A g d dd dx 𝓛 𝓜.mem 𝓡.returns) in
    let Pair = Tuple (RawPtr ∷ Z ∷ []) in let kept : Fml = fsep (fsep ftrue (fsep ftrue ftrue)) ftrue in
    qed 𝓛 ((lives ⊛ ‵ (owns (types_at here.signature.params κs) z.0.3 z.0.4)) ∷ raw ((c κs z.0.3).requires z.1) ∷ []) ∵
    split ! $ move ! (1 ∷ []) $ fsplit ! $
    box_out boxes ! given z.0.4.0 (λ b o h place stored fits.
    box_in boxes ! given b o x place refl $
    let whole_box : Val = box.word boxes h b o in let typed = two_fit R Z Z_laws g b o h fits in
    let y : call.Ghost = ((κs, qs, tt, (given, tt), (whole_box ∷ [], tt)), tt) in
    fjoin ! $ move ! (1 ∷ 0 ∷ []) $ join ! $ join ! $ use1 𝓛 (raw (call.pre y)) (id⊢ 𝓤 _) $
    suffices ! (runs (whole_box ∷ [])) (subst (λ (us : List Val). ent 𝓤 (runs (whole_box ∷ [])) (runs us)) (sym (λ i. stored i ++ [])) (id⊢ 𝓤 (runs (whole_box ∷ [])))) $
    enter ! 𝓣.C 𝓣.Λ fn (whole_box ∷ []) after $ alloc_all ! (λ l. pass_all ! refl (typed, tt) $
    sets ! (of_opd ! (get ! refl)) refl typed $
    calls_at ! (fm 𝓛 𝓜 𝓡) call (met 𝓤 𝓛 𝓜 𝓡 (code.calls-std_alloc::boxed::Box::into_raw_with_allocator 𝓡.env wired) T A T_laws A_laws g d dd dx allocator glued glue) y (and_then ! (get ! refl) (no_more !)) (λ u.
    use1 𝓛 (later (some (λ (r : Ptr × A.Denot). (lives ⊛ ‵ (Pair.own_val r (u ∷ []))) ⊛ some (λ (_ : (Unit {0} × (Unit {0} × Unit {0})) × Unit {0}). ‵ kept ⊛ (raw (fact 𝓤 (r.1 ≡ a)) ⊛ ‵ (holds R Z Z_laws g a r.0 x)))))) (id⊢ 𝓤 _) $
    await ! tt $ pick ! (λ r. split ! $ move ! (1 ∷ []) $ pick ! (λ _. split3 ! $ drop ! $
    heard ! (r.1 ≡ a) (λ same.
    in_a_block ! r.0 (λ p. holds R Z Z_laws g a p x) (none_at_null R Z Z_laws g 𝓛 a x) (λ b' o' place'.
    move ! (1 ∷ []) $ split ! $ move ! (1 ∷ []) $
    fpick ! (λ parts. let hs : List Val = parts.1.0 in
    fsplit ! $ feq_l ! (λ answered. fsplit ! $ feq_l ! (λ address. fsplit ! $
    rewrite ! 0 (λ (s : A.Denot). ‵ (A.own_val s hs)) same refl $
    handle_tells boxes.al ! a hs (λ h' stored' fits'.
    let made = two_fit R Z Z_laws g b' o' h' fits' in
    let is_two = answered ∙ (λ i. vstruct (of_list ((address ∙ ap (λ (p : Ptr). ptr_val p ∷ []) place') i ++ (stored' i ++ []))) ∷ []) in
    lands_as ! (ap only is_two) refl made $
    sets ! (of_opd ! (get_in ! (fld ! refl (stop !)) (sub ! 0 refl (whole !)))) refl (tt, tt) $
    sets ! (of_opd ! (get_in ! (fld ! refl (stop !)) (sub ! 1 refl (whole !)))) refl fits' $
    sets ! (of_opd ! (get ! refl)) refl fits' $
    sets ! (agg ! (and_then ! (get ! refl) (and_then ! (get ! refl) (no_more !)))) refl made $
    move ! (3 ∷ 0 ∷ []) $ put_together R Z Z_laws g ! b' o' h' a x $
    use0 𝓛 (raw (fact 𝓤 (x ≡ x))) (fact_i 𝓤 (x ≡ x) (emp 𝓤) refl) $ nothing ! $ nothing ! $ fjoin ! $
    returns ! (look_at ! 0 refl) $ free_all ! refl $ keep ! (4 ∷ 0 ∷ 2 ∷ 1 ∷ []) $
    by ! (leaves 𝓛 here stays c z (two (vptr b' o') h') (record { at = block_ptr b' o'; alloc = a; value = x }) ((tt, (tt, tt)), tt) (tt, tt))))))))))))))
