use Rattle.std.proofs.Common.{◌≡◌, [], ◌∷◌, Ok, Err, OnOk, subst}
use Rattle.std.specs.Prelude.{Result}
use Rattle.std.proofs.lemmas.Result.{err_from_is_err_and}
use Rattle.raft_base.specs.declared.pipe_log.LogQueue.TheVariants.{Rewrite}
use Rattle.raft_env.proofs.MomentsLemmas.{moves_then_reads}
use Rattle.raft_pipes.specs.Numbered.{kept_files}
use Rattle.raft_fork.proofs.RefusedLemmas.{is_free, marked_target}
use Rattle.raft_fork.proofs.forking.make_target.Goals as goal

on_ok : {T E : Type 0} (P Q : Type 0) (r : Result T E) → (P → Q) → OnOk r P → OnOk r Q
on_ok P Q (Ok x) weaker holds = weaker holds
on_ok P Q (Err e) weaker holds = tt

pub returns-clause-ok : goal.returns-clause-ok
returns-clause-ok g c =
    let target = c.args.target.now in
    let n = g.F.FileSystem.directory c.args.file_system.now in
    let mid = g.F.FileSystem.directory c.make_folder.new.file_system in
    on_ok _ _ c.refuse_logs-2.result
    (λ none. is_free target n mid c.make_folder.ensures.others c.in_ok-make_folder.ensures.ok c.in_ok-refuse_mark.ensures.ok c.in_ok-refuse_logs.ensures.ok (subst (λ m. kept_files (target ∷ []) Rewrite m ≡ []) c.in_ok-refuse_logs.ensures.unchanged.same_files none))
    c.refuse_logs-2.ensures.ok

pub returns-in_err-refuse_mark-clause-cause : goal.returns-in_err-refuse_mark-clause-cause
returns-in_err-refuse_mark-clause-cause g c =
    let f = g.F.FileSystem in
    let p = err_from_is_err_and c.from_residual-in_err-refuse_mark.result c.from_residual-in_err-refuse_mark.ensures.1 in
    rw (p.1, p.2)
    (marked_target c.args.target.now (f.directory c.args.file_system.now) (f.directory c.make_folder.new.file_system) (f.refusals_of c.args.file_system.now) (f.refusals_of c.make_folder.new.file_system) c.in_err-refuse_mark.field-0.0 c.make_folder.ensures.others c.in_err-refuse_mark.ensures.cause)

pub returns-in_err-refuse_logs-clause-any_moment : goal.returns-in_err-refuse_logs-clause-any_moment
returns-in_err-refuse_logs-clause-any_moment g c = moves_then_reads c.make_folder.ensures.any_moment c.refuse_logs.ensures.unchanged

pub returns-clause-any_moment : goal.returns-clause-any_moment
returns-clause-any_moment g c = moves_then_reads (moves_then_reads c.make_folder.ensures.any_moment c.refuse_logs.ensures.unchanged) c.refuse_logs-2.ensures.unchanged
