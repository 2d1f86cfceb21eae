use Rattle.std.proofs.Common.{◌∙◌, ℕ, Some, ap, inl, sym}
use Rattle.std.proofs.lemmas.Bool.{false≢true}
use Rattle.std.proofs.lemmas.Result.{err_from_is_err_and, on_ok_weaker}
use Rattle.raft_queues.specs.Dual.{DualState}
use Rattle.raft_tables.specs.Tables.{tables_of}
use Rattle.raft_crash_laws.specs.Index.{index_of}
use Rattle.raft_crash_laws.specs.Log.{known_groups}
use Rattle.raft_env.proofs.MomentsLemmas.{moves_weaker}
use Rattle.raft_purge_steps.specs.Steps.{log_by}
use Rattle.raft_purge_steps.proofs.DropLemmas.{synced_log}
use Rattle.raft_purge_steps.proofs.FaultLemmas.{if_ok, sync_refused}
use Rattle.raft_purge_steps.proofs.RenewalLemmas.{ends_synced}
use Rattle.raft_purge_steps.proofs.RewriterMomentLemmas.{both_ok}
use Rattle.raft_stale.proofs.DoubtLemmas.{fails_by}
use Rattle.raft_purge.proofs.RenewalPartLemmas.{kept_of}
use Rattle.raft_purge.proofs.renewal_part.leave.Goals as goal

pub returns-then-is_last-clause-still : goal.returns-then-is_last-clause-still
returns-then-is_last-clause-still g c = if_ok c.end_renewal.result _ (λ not. absurd (false≢true (sym not ∙ c.if-is_last.true)))

pub returns-then-is_last-clause-goes : goal.returns-then-is_last-clause-goes
returns-then-is_last-clause-goes g c = if_ok c.end_renewal.result _ (λ not. absurd (false≢true (sym not ∙ c.if-is_last.true)))

pub returns-then-is_last-clause-dropped : goal.returns-then-is_last-clause-dropped
returns-then-is_last-clause-dropped g c =
    both_ok c.end_renewal.result _ _ _ (λ span kept last low. kept_of c.args.first c.args.groups.now.together c.args.tables.now c.args.store.now.pipes.rewrite c.end_renewal.new.store.pipes.rewrite span (λ not. ap (λ (d : DualState). d.rewrite.first) (kept not)) low) c.end_renewal.ensures.span c.end_renewal.ensures.kept

pub returns-then-is_last-clause-span : goal.returns-then-is_last-clause-span
returns-then-is_last-clause-span g c = on_ok_weaker c.end_renewal.result (λ span last. span) c.end_renewal.ensures.span

-- The sync is refused.

pub returns-in_err-sync_rewrite-clause-any_moment : goal.returns-in_err-sync_rewrite-clause-any_moment
returns-in_err-sync_rewrite-clause-any_moment g c = moves_weaker (λ n at owed r v is same held. at (index_of (tables_of c.args.tables.now) owed (known_groups c.args.groups.now) (Some r)) v held) c.sync_rewrite.ensures.any_moment

pub returns-in_err-sync_rewrite-clause-cause : goal.returns-in_err-sync_rewrite-clause-cause
returns-in_err-sync_rewrite-clause-cause g c =
    let p = err_from_is_err_and c.from_residual.result c.from_residual.ensures.1 in
    rw (p.1, p.2) (sync_refused c.args.store.now.pipes c.sync_rewrite.new.store.pipes (g.F.FileSystem.directory c.sync_rewrite.new.store.file_system) (g.F.FileSystem.refusals_of c.args.store.now.file_system) (g.F.FileSystem.refusals_of c.sync_rewrite.new.store.file_system) (λ _. ⊥) c.in_err-sync_rewrite.field-0.0 c.in_err-sync_rewrite.ensures.cause)

pub returns-in_err-sync_rewrite-clause-front : goal.returns-in_err-sync_rewrite-clause-front
returns-in_err-sync_rewrite-clause-front g c =
    let p = err_from_is_err_and c.from_residual.result c.from_residual.ensures.1 in
    rw (p.1, p.2) (fails_by ℕ c.in_err-sync_rewrite.field-0.0 _ c.sync_rewrite.ensures.unchanged)

pub returns-in_err-sync_rewrite-clause-first : goal.returns-in_err-sync_rewrite-clause-first
returns-in_err-sync_rewrite-clause-first g c =
    inl (ap (λ (d : DualState). d.rewrite.first) c.sync_rewrite.ensures.unchanged)

-- It goes on.

pub returns-clause-now : goal.returns-clause-now
returns-clause-now g c = λ owed r v is same held. ends_synced c.args.store.now.pipes c.sync_rewrite.new.store.pipes (g.F.FileSystem.directory c.args.store.now.file_system) (g.F.FileSystem.directory c.sync_rewrite.new.store.file_system) (tables_of c.args.tables.now) (known_groups c.args.groups.now) c.args.first c.in_ok-sync_rewrite.ensures.now r owed v held

pub returns-clause-goes : goal.returns-clause-goes
returns-clause-goes g c = λ not i v held. synced_log (log_by c.sync_rewrite.new.store.pipes i (g.F.FileSystem.directory c.sync_rewrite.new.store.file_system)) v (c.in_ok-sync_rewrite.ensures.now i v held)

pub returns-clause-any_moment : goal.returns-clause-any_moment
returns-clause-any_moment g c = moves_weaker (λ n at owed r v is same held. at (index_of (tables_of c.args.tables.now) owed (known_groups c.args.groups.now) (Some r)) v held) c.sync_rewrite.ensures.any_moment

pub returns-clause-dropped : goal.returns-clause-dropped
returns-clause-dropped g c = λ last. absurd (false≢true (sym c.if-is_last.false ∙ last))

pub returns-clause-span : goal.returns-clause-span
returns-clause-span g c = λ last. absurd (false≢true (sym c.if-is_last.false ∙ last))

pub returns-clause-first : goal.returns-clause-first
returns-clause-first g c =
    inl (ap (λ (d : DualState). d.rewrite.first) c.sync_rewrite.ensures.unchanged)
