use Rattle.std.proofs.Common.{◌∙◌, ◌⊎◌, ℕ, [], None, Option, arith, inl, inr, refl, subst, sym}
use Rattle.raft_pipes.specs.PipeState.{last_seq}
use Rattle.raft_base.specs.declared.errors.Fault.{Fault}
use Rattle.raft_base.specs.declared.errors.Fault.TheVariants as fault
use Rattle.raft_purge.proofs.RenewalPartLemmas.{each_none_before, still_none_before}
use Rattle.std.proofs.Math.Logic.{∥∥₁_map}
use Rattle.std.specs.Prelude.{Err}
use Rattle.std.proofs.lemmas.Result.{err_from_is_err_and, on_err_weaker, on_ok_weaker}
use Rattle.raft_entry_blocks.specs.Cache.{HoldsBlockIn, HoldsRestIn}
use Rattle.raft_entry_blocks.specs.Recent.{KeptBlocks}
use Rattle.raft_entry_blocks.proofs.RestLemmas.{held_rest, rest_held}
use Rattle.raft_tables.specs.Tables.{tables_of}
use Rattle.raft_crash_laws.specs.Log.{known_groups}
use Rattle.raft_rewrite.specs.Gathering.{gather_of}
use Rattle.raft_rewrite.specs.RenewGathering.{IsEnded, IsRenewed, RenewsBy}
use Rattle.raft_purge_steps.specs.Renewing.{GoesOnRenewal, LeavesRenewal, MayRenewLog, renewed_log}
use Rattle.raft_purge_steps.proofs.KeepingLemmas.{keeps_read, keeps_then}
use Rattle.raft_purge.proofs.AnewLemmas.{all_begin}
use Rattle.raft_purge_steps.proofs.AnewLemmas.{err_of}
use Rattle.raft_rewrite.proofs.AnewLemmas.{moments_by}
use Rattle.raft_rewrite.specs.OpenGroup.{HasNoId}
use Rattle.raft_rewrite.proofs.AtomicFaultLemmas.{atomic_since, each_atomic_since, each_plain_refusal}
use Rattle.raft_rewrite.proofs.AtomicStepLemmas.{some_by, some_known}
use Rattle.raft_tables.specs.Owed.{Owed}
use Rattle.raft_crash_laws.specs.Renewal.{Renewal}
use Rattle.raft_purge_steps.specs.Steps.{IfStands, IsLog, LogValue}
use Rattle.raft_purge_steps.specs.Unfit.{IsUnfitAnew, IsUnfitBy, IsUnfitWhere}
use Rattle.raft_purge.proofs.ReadLemmas.{rest_ended, rest_none}
use Rattle.raft_stale.proofs.ReadLemmas.{stands_any}
use Rattle.raft_purge_steps.proofs.RewriterMomentLemmas.{both_ok}
use Rattle.raft_stale.proofs.RewriterMomentLemmas.{by_answer}
use Rattle.raft_rewrite.specs.Emptied.{MovesOnly}
use Rattle.raft_rewrite.proofs.MovesOnlyLemmas.{only_then}
use Rattle.raft_purge_steps.proofs.FaultLemmas.{if_stands_map, memory_in}
use Rattle.raft_purge_steps.proofs.RenewalLemmas.{renewal_ends}
use Rattle.raft_purge_steps.proofs.StepLemmas.{here_kept, side_queue}
use Rattle.raft_listeners.specs.Telling.{written_in}
use Rattle.raft_purge.proofs.CutLemmas.{adds_last}
use Rattle.raft_purge_steps.proofs.CutLemmas.{cut_small}
use Rattle.raft_rewrite.proofs.CutLemmas.{few_held}
use Rattle.raft_records.specs.Item.{Batch}
use Rattle.raft_purge_steps.specs.Cut.{AreCut, bytes_held}
use Rattle.raft_env.proofs.MomentsLemmas.{moves_none, moves_weaker}
use Rattle.raft_purge.proofs.renewal_part.rewrite_some.Goals as goal

-- There is none for the blocks that are kept.

pub returns-in_err-blocks-clause-err : goal.returns-in_err-blocks-clause-err
returns-in_err-blocks-clause-err g c =
    let d = c.args.log.now.store.pipes in
    let t = tables_of c.args.log.now.tables in
    let n = g.F.FileSystem.directory c.args.log.now.store.file_system in
    let met = known_groups c.args.log.now.groups in
    let p = err_from_is_err_and c.from_residual.result c.from_residual.ensures.1 in
    rw (p.1, p.2) (λ owed r v goes held. renewal_ends d t owed met r n v held)

pub returns-in_err-blocks-clause-any_moment : goal.returns-in_err-blocks-clause-any_moment
returns-in_err-blocks-clause-any_moment g c =
    let d = c.args.log.now.store.pipes in
    let t = tables_of c.args.log.now.tables in
    let n = g.F.FileSystem.directory c.args.log.now.store.file_system in
    let met = known_groups c.args.log.now.groups in
    moves_none (λ owed r v goes held. here_kept (renewed_log d t owed met r n) v held)

pub returns-in_err-blocks-clause-cause : goal.returns-in_err-blocks-clause-cause
returns-in_err-blocks-clause-cause g c =
    let r = g.F.FileSystem.refusals_of c.args.log.now.store.file_system in
    let p = err_from_is_err_and c.from_residual.result c.from_residual.ensures.1 in
    rw (p.1, p.2) (inl (memory_in c.args.log.now.store.pipes r r fault.Memory refl))

-- The groups.

pub rewrite_each_anew-requires-clause-holds : goal.rewrite_each_anew-requires-clause-holds
rewrite_each_anew-requires-clause-holds g c =
    let d = c.args.log.now.store.pipes in
    let n = g.F.FileSystem.directory c.args.log.now.store.file_system in
    λ κs within. subst (HoldsBlockIn d n) (sym (c.of_rewrite-rewriter.ensures.cache ∙ c.in_ok-blocks.ensures.value)) (held_rest d n c.args.log.now.cache (side_queue d n c.requires.side) c.requires.holds)

pub rewrite_each_anew-requires-clause-some : goal.rewrite_each_anew-requires-clause-some
rewrite_each_anew-requires-clause-some g c =
    let met = known_groups c.args.log.now.groups in
    let list = c.args.list.now in
    let s = gather_of c.of_rewrite-rewriter.result.rewriting.watermark c.args.log.now.store.pipes (tables_of c.args.log.now.tables) (g.F.FileSystem.directory c.args.log.now.store.file_system) c.of_rewrite-rewriter.result.rewriting.batch.items in
    λ κs within. ∥∥₁_map c.requires.some (λ x. let owed = x.0 in let r = x.1 in let v = x.2 in let goes = x.3 in let held = x.4 in (owed, r, v, (all_begin list s c.of_rewrite-rewriter.ensures.watermark c.of_rewrite-rewriter.ensures.batch owed met r v goes held)))

pub returns-in_err-rewrite_each_anew-clause-err : goal.returns-in_err-rewrite_each_anew-clause-err
returns-in_err-rewrite_each_anew-clause-err g c =
    let d = c.args.log.now.store.pipes in
    let t = tables_of c.args.log.now.tables in
    let n = g.F.FileSystem.directory c.args.log.now.store.file_system in
    let met = known_groups c.args.log.now.groups in
    let met' = known_groups c.rewrite_each_anew.new.log.groups in
    let list = c.args.list.now in
    let s = gather_of c.of_rewrite-rewriter.result.rewriting.watermark c.args.log.now.store.pipes (tables_of c.args.log.now.tables) (g.F.FileSystem.directory c.args.log.now.store.file_system) c.of_rewrite-rewriter.result.rewriting.batch.items in
    let s1 = gather_of c.rewrite_each_anew.new.self.rewriting.watermark c.rewrite_each_anew.new.log.store.pipes (tables_of c.rewrite_each_anew.new.log.tables) (g.F.FileSystem.directory c.rewrite_each_anew.new.log.store.file_system) c.rewrite_each_anew.new.self.rewriting.batch.items in
    let p = err_from_is_err_and c.from_residual-in_err-rewrite_each_anew.result c.from_residual-in_err-rewrite_each_anew.ensures.1 in
    rw (p.1, p.2) (err_of (Unit {0}) (Unit {0}) c.in_err-rewrite_each_anew.field-0.0 (RenewsBy met met' (IsRenewed list s) (IsEnded s1)) (LeavesRenewal d s1.pipes t s1.tables met met' n s1.files) (λ ends owed r v goes held. ends owed r v (all_begin list s c.of_rewrite-rewriter.ensures.watermark c.of_rewrite-rewriter.ensures.batch owed met r v goes held)) c.in_err-rewrite_each_anew.ensures.err)

pub returns-in_err-rewrite_each_anew-clause-any_moment : goal.returns-in_err-rewrite_each_anew-clause-any_moment
returns-in_err-rewrite_each_anew-clause-any_moment g c =
    let met = known_groups c.args.log.now.groups in
    let list = c.args.list.now in
    let s = gather_of c.of_rewrite-rewriter.result.rewriting.watermark c.args.log.now.store.pipes (tables_of c.args.log.now.tables) (g.F.FileSystem.directory c.args.log.now.store.file_system) c.of_rewrite-rewriter.result.rewriting.batch.items in
    moves_weaker (λ k at owed r v goes held. at owed r v (all_begin list s c.of_rewrite-rewriter.ensures.watermark c.of_rewrite-rewriter.ensures.batch owed met r v goes held)) c.rewrite_each_anew.ensures.any_moment

-- What is gathered still.

pub write_anew-written-requires-clause-some : goal.write_anew-written-requires-clause-some
write_anew-written-requires-clause-some g c =
    let met = known_groups c.args.log.now.groups in
    let met' = known_groups c.rewrite_each_anew.new.log.groups in
    let list = c.args.list.now in
    let s = gather_of c.of_rewrite-rewriter.result.rewriting.watermark c.args.log.now.store.pipes (tables_of c.args.log.now.tables) (g.F.FileSystem.directory c.args.log.now.store.file_system) c.of_rewrite-rewriter.result.rewriting.batch.items in
    let s1 = gather_of c.rewrite_each_anew.new.self.rewriting.watermark c.rewrite_each_anew.new.log.store.pipes (tables_of c.rewrite_each_anew.new.log.tables) (g.F.FileSystem.directory c.rewrite_each_anew.new.log.store.file_system) c.rewrite_each_anew.new.self.rewriting.batch.items in
    λ κs within. some_known met' (IsRenewed [] s1) (some_by met met' (IsRenewed list s) (IsRenewed [] s1) c.in_ok-rewrite_each_anew.ensures.ok (∥∥₁_map c.requires.some (λ x. let owed = x.0 in let r = x.1 in let v = x.2 in let goes = x.3 in let held = x.4 in (owed, r, v, (all_begin list s c.of_rewrite-rewriter.ensures.watermark c.of_rewrite-rewriter.ensures.batch owed met r v goes held)))))

pub returns-clause-ok : goal.returns-clause-ok
returns-clause-ok g c =
    let met = known_groups c.args.log.now.groups in
    let met' = known_groups c.rewrite_each_anew.new.log.groups in
    let list = c.args.list.now in
    let s = gather_of c.of_rewrite-rewriter.result.rewriting.watermark c.args.log.now.store.pipes (tables_of c.args.log.now.tables) (g.F.FileSystem.directory c.args.log.now.store.file_system) c.of_rewrite-rewriter.result.rewriting.batch.items in
    rw c.write_anew-written.ensures.aside.groups (on_ok_weaker c.write_anew-written.result (λ on owed r v goes held. (on [] owed met' r v (c.in_ok-rewrite_each_anew.ensures.ok owed r v (all_begin list s c.of_rewrite-rewriter.ensures.watermark c.of_rewrite-rewriter.ensures.batch owed met r v goes held))).log) c.write_anew-written.ensures.ok)

pub returns-clause-err : goal.returns-clause-err
returns-clause-err g c =
    let met = known_groups c.args.log.now.groups in
    let met' = known_groups c.rewrite_each_anew.new.log.groups in
    let list = c.args.list.now in
    let s = gather_of c.of_rewrite-rewriter.result.rewriting.watermark c.args.log.now.store.pipes (tables_of c.args.log.now.tables) (g.F.FileSystem.directory c.args.log.now.store.file_system) c.of_rewrite-rewriter.result.rewriting.batch.items in
    rw c.write_anew-written.ensures.aside.groups (on_err_weaker c.write_anew-written.result (if_stands_map c.write_anew-written.result _ _ (λ ends owed r v goes held. ends owed met' r v (c.in_ok-rewrite_each_anew.ensures.ok owed r v (all_begin list s c.of_rewrite-rewriter.ensures.watermark c.of_rewrite-rewriter.ensures.batch owed met r v goes held)))) c.write_anew-written.ensures.err)

pub returns-clause-any_moment : goal.returns-clause-any_moment
returns-clause-any_moment g c =
    let met = known_groups c.args.log.now.groups in
    let met' = known_groups c.rewrite_each_anew.new.log.groups in
    let list = c.args.list.now in
    let s = gather_of c.of_rewrite-rewriter.result.rewriting.watermark c.args.log.now.store.pipes (tables_of c.args.log.now.tables) (g.F.FileSystem.directory c.args.log.now.store.file_system) c.of_rewrite-rewriter.result.rewriting.batch.items in
    let s1 = gather_of c.rewrite_each_anew.new.self.rewriting.watermark c.rewrite_each_anew.new.log.store.pipes (tables_of c.rewrite_each_anew.new.log.tables) (g.F.FileSystem.directory c.rewrite_each_anew.new.log.store.file_system) c.rewrite_each_anew.new.self.rewriting.batch.items in
    moves_weaker (λ k at owed r v goes held. at owed r v (all_begin list s c.of_rewrite-rewriter.ensures.watermark c.of_rewrite-rewriter.ensures.batch owed met r v goes held))
    (moments_by met met' (IsRenewed list s) (IsRenewed [] s1) c.in_ok-rewrite_each_anew.ensures.ok c.rewrite_each_anew.ensures.any_moment (moves_weaker (λ k at owed r v held. at owed met' r v held) c.write_anew-written.ensures.any_moment))

-- Causes.

pub returns-clause-cause : goal.returns-clause-cause
returns-clause-cause g c =
    let d = c.args.log.now.store.pipes in
    let t = tables_of c.args.log.now.tables in
    let n = g.F.FileSystem.directory c.args.log.now.store.file_system in
    let met = known_groups c.args.log.now.groups in
    let met' = known_groups c.rewrite_each_anew.new.log.groups in
    let list = c.args.list.now in
    let s = gather_of c.of_rewrite-rewriter.result.rewriting.watermark c.args.log.now.store.pipes (tables_of c.args.log.now.tables) (g.F.FileSystem.directory c.args.log.now.store.file_system) c.of_rewrite-rewriter.result.rewriting.batch.items in
    let s1 = gather_of c.rewrite_each_anew.new.self.rewriting.watermark c.rewrite_each_anew.new.log.store.pipes (tables_of c.rewrite_each_anew.new.log.tables) (g.F.FileSystem.directory c.rewrite_each_anew.new.log.store.file_system) c.rewrite_each_anew.new.self.rewriting.batch.items in
    let P = MayRenewLog d t met n in
    let r0 = g.F.FileSystem.refusals_of c.args.log.now.store.file_system in
    let r1 = g.F.FileSystem.refusals_of c.rewrite_each_anew.new.log.store.file_system in
    let begin : (owed : Owed) (r : Renewal) (v : LogValue) → GoesOnRenewal met r → IsLog (renewed_log d t owed met r n) v → IsRenewed list s owed met r v = λ owed r v goes held. all_begin list s c.of_rewrite-rewriter.ensures.watermark c.of_rewrite-rewriter.ensures.batch owed met r v goes held in
    let U' : Fault → Type 0 = λ f. HasNoId c.rewrite_each_anew.new.log.groups f ⊎ IsUnfitWhere P f in
    let r2 = g.F.FileSystem.refusals_of c.write_anew-written.new.log.store.file_system in
    let n2 = g.F.FileSystem.directory c.write_anew-written.new.log.store.file_system in
    let weaker : (f : Fault) → IsUnfitAnew (IsRenewed [] s1) f → U' f = λ f unfit. inr (λ v (owed, r, goes, held). unfit owed met' r v (c.in_ok-rewrite_each_anew.ensures.ok owed r v (begin owed r v goes held))) in
    rw c.write_anew-written.ensures.aside.groups (each_atomic_since c.write_anew-written.result d c.rewrite_each_anew.new.log.store.pipes c.write_anew-written.new.log.store.pipes n2 r0 r1 r2 U' U' c.in_ok-rewrite_each_anew.ensures.rewrites.keeps.folders c.rewrite_each_anew.ensures.any_moment.no_fewer (λ f h. h)
    (each_plain_refusal c.write_anew-written.result c.rewrite_each_anew.new.log.store.pipes c.write_anew-written.new.log.store.pipes n2 r1 r2 (IsUnfitAnew (IsRenewed [] s1)) U' weaker c.write_anew-written.ensures.cause))

pub returns-in_err-rewrite_each_anew-clause-cause : goal.returns-in_err-rewrite_each_anew-clause-cause
returns-in_err-rewrite_each_anew-clause-cause g c =
    let d = c.args.log.now.store.pipes in
    let t = tables_of c.args.log.now.tables in
    let n = g.F.FileSystem.directory c.args.log.now.store.file_system in
    let met = known_groups c.args.log.now.groups in
    let list = c.args.list.now in
    let s = gather_of c.of_rewrite-rewriter.result.rewriting.watermark c.args.log.now.store.pipes (tables_of c.args.log.now.tables) (g.F.FileSystem.directory c.args.log.now.store.file_system) c.of_rewrite-rewriter.result.rewriting.batch.items in
    let P = MayRenewLog d t met n in
    let r0 = g.F.FileSystem.refusals_of c.args.log.now.store.file_system in
    let r1 = g.F.FileSystem.refusals_of c.rewrite_each_anew.new.log.store.file_system in
    let begin : (owed : Owed) (r : Renewal) (v : LogValue) → GoesOnRenewal met r → IsLog (renewed_log d t owed met r n) v → IsRenewed list s owed met r v = λ owed r v goes held. all_begin list s c.of_rewrite-rewriter.ensures.watermark c.of_rewrite-rewriter.ensures.batch owed met r v goes held in
    let U : Fault → Type 0 = λ f. HasNoId c.rewrite_each_anew.new.log.groups f ⊎ IsUnfitBy met (IsRenewed list s) f in
    let U' : Fault → Type 0 = λ f. HasNoId c.rewrite_each_anew.new.log.groups f ⊎ IsUnfitWhere P f in
    let weaker : (f : Fault) → U f → U' f = λ f h. elim h [ inl none ↦ inl none | inr unfit ↦ inr (λ v (owed, r, goes, held). unfit owed r v (begin owed r v goes held)) ] in
    let p = err_from_is_err_and c.from_residual-in_err-rewrite_each_anew.result c.from_residual-in_err-rewrite_each_anew.ensures.1 in
    rw (p.1, p.2) (atomic_since d d c.rewrite_each_anew.new.log.store.pipes (g.F.FileSystem.directory c.rewrite_each_anew.new.log.store.file_system) r0 r0 r1 U U' c.in_err-rewrite_each_anew.field-0.0 (λ queue. refl) (omega arith, omega arith) weaker c.in_err-rewrite_each_anew.ensures.cause)

pub returns-clause-emptied : goal.returns-clause-emptied
returns-clause-emptied g c =
    let s = gather_of c.of_rewrite-rewriter.result.rewriting.watermark c.args.log.now.store.pipes (tables_of c.args.log.now.tables) (g.F.FileSystem.directory c.args.log.now.store.file_system) c.of_rewrite-rewriter.result.rewriting.batch.items in
    let s1 = gather_of c.rewrite_each_anew.new.self.rewriting.watermark c.rewrite_each_anew.new.log.store.pipes (tables_of c.rewrite_each_anew.new.log.tables) (g.F.FileSystem.directory c.rewrite_each_anew.new.log.store.file_system) c.rewrite_each_anew.new.self.rewriting.batch.items in
    let s2 = gather_of c.write_anew-written.new.self.rewriting.watermark c.write_anew-written.new.log.store.pipes (tables_of c.write_anew-written.new.log.tables) (g.F.FileSystem.directory c.write_anew-written.new.log.store.file_system) c.write_anew-written.new.self.rewriting.batch.items in
    let each = c.in_ok-rewrite_each_anew.ensures in
    both_ok c.write_anew-written.result _ _ _ (λ moved none first low. let later = each.rewrites.keeps.later in each_none_before first s s1 s2 c.args.list.now c.of_rewrite-rewriter.ensures.watermark
    (each.moved first low) (each.groups first low) (moved first (omega (arith, low, later))) (none (λ never. absurd cc))) c.write_anew-written.ensures.moved c.write_anew-written.ensures.emptied

pub returns-clause-still : goal.returns-clause-still
returns-clause-still g c =
    let s = gather_of c.of_rewrite-rewriter.result.rewriting.watermark c.args.log.now.store.pipes (tables_of c.args.log.now.tables) (g.F.FileSystem.directory c.args.log.now.store.file_system) c.of_rewrite-rewriter.result.rewriting.batch.items in
    let s1 = gather_of c.rewrite_each_anew.new.self.rewriting.watermark c.rewrite_each_anew.new.log.store.pipes (tables_of c.rewrite_each_anew.new.log.tables) (g.F.FileSystem.directory c.rewrite_each_anew.new.log.store.file_system) c.rewrite_each_anew.new.self.rewriting.batch.items in
    let s2 = gather_of c.write_anew-written.new.self.rewriting.watermark c.write_anew-written.new.log.store.pipes (tables_of c.write_anew-written.new.log.tables) (g.F.FileSystem.directory c.write_anew-written.new.log.store.file_system) c.write_anew-written.new.self.rewriting.batch.items in
    let each = c.in_ok-rewrite_each_anew.ensures in
    both_ok c.write_anew-written.result _ _ _ (λ moved none first group low. let later = each.rewrites.keeps.later in still_none_before first s s1 s2 group c.of_rewrite-rewriter.ensures.watermark c.of_rewrite-rewriter.ensures.batch
    (each.moved first low) (moved first (omega (arith, low, later))) (none (λ never. absurd cc))) c.write_anew-written.ensures.moved c.write_anew-written.ensures.emptied

pub returns-clause-only : goal.returns-clause-only
returns-clause-only g c =
    let t = tables_of c.args.log.now.tables in
    let t1 = tables_of c.rewrite_each_anew.new.log.tables in
    let t2 = tables_of c.write_anew-written.new.log.tables in
    let first = last_seq c.args.log.now.store.pipes.rewrite in
    let each = c.in_ok-rewrite_each_anew.ensures in
    let unmarked = c.of_rewrite-rewriter.ensures.watermark in
    let one = subst (λ (w : Option ℕ). MovesOnly w t t1) unmarked (each.moved first (omega arith)).2 in
    on_ok_weaker c.write_anew-written.result (λ moved. only_then None t t1 t2 one (subst (λ (w : Option ℕ). MovesOnly w t1 t2) ((each.moved first (omega arith)).0 ∙ unmarked) (moved first each.rewrites.keeps.later).2)) c.write_anew-written.ensures.moved

-- What it leaves, and the cache.

pub returns-in_err-blocks-clause-rewrites : goal.returns-in_err-blocks-clause-rewrites
returns-in_err-blocks-clause-rewrites g c =
    let d = c.args.log.now.store.pipes in
    let n = g.F.FileSystem.directory c.args.log.now.store.file_system in
    let p = err_from_is_err_and c.from_residual.result c.from_residual.ensures.1 in
    rw (p.1, p.2) (record {
      keeps = keeps_read _ _ _;
      cut = tt;
      holds = subst (HoldsRestIn d n) (sym c.in_err-blocks.ensures.err) c.requires.holds;
    })

pub returns-in_err-rewrite_each_anew-clause-rewrites : goal.returns-in_err-rewrite_each_anew-clause-rewrites
returns-in_err-rewrite_each_anew-clause-rewrites g c =
    let kept = c.in_err-rewrite_each_anew.ensures.rewrites.keeps in
    let p = err_from_is_err_and c.from_residual-in_err-rewrite_each_anew.result c.from_residual-in_err-rewrite_each_anew.ensures.1 in
    rw (p.1, p.2) (record {
      keeps = record { others = kept.others; first = kept.first; later = tt; folders = tt; found = kept.found };
      cut = tt;
      holds = stands_any {T = Unit {0}} (Err c.in_err-rewrite_each_anew.field-0.0) _ (rest_none c.rewrite_each_anew.new.log.store.pipes (g.F.FileSystem.directory c.rewrite_each_anew.new.log.store.file_system) _ (c.rewrite_each_anew.ensures.aside.cache ∙ c.in_ok-blocks.ensures.emptied));
    })

pub returns-clause-rewrites : goal.returns-clause-rewrites
returns-clause-rewrites g c = record {
  keeps = keeps_then c.in_ok-rewrite_each_anew.ensures.rewrites.keeps c.write_anew-written.ensures.keeps;
  cut =
      let self = c.rewrite_each_anew.new.self in
      let batch = self.rewriting.batch.items in
      let before = written_in c.args.events.now in
      let begins : (rests : ℕ) → AreCut rests 0 before → AreCut rests (bytes_held c.of_rewrite-rewriter.result.rewriting.batch.items) before = λ rests are. subst (λ (b : Batch). AreCut rests (bytes_held b) before) (sym c.of_rewrite-rewriter.ensures.batch) are in
      on_ok_weaker c.write_anew-written.result (λ written rests are. adds_last batch (written_in c.rewrite_each_anew.new.events) (written_in c.write_anew-written.new.events) written
      (cut_small batch (few_held self.held (bytes_held batch) self.counted c.in_ok-rewrite_each_anew.ensures.within)) rests (c.in_ok-rewrite_each_anew.ensures.rewrites.cut rests (begins rests are))) c.write_anew-written.ensures.written;
  holds =
      let met = known_groups c.args.log.now.groups in
      let met' = known_groups c.rewrite_each_anew.new.log.groups in
      let list = c.args.list.now in
      let s = gather_of c.of_rewrite-rewriter.result.rewriting.watermark c.args.log.now.store.pipes (tables_of c.args.log.now.tables) (g.F.FileSystem.directory c.args.log.now.store.file_system) c.of_rewrite-rewriter.result.rewriting.batch.items in
      let s1 = gather_of c.rewrite_each_anew.new.self.rewriting.watermark c.rewrite_each_anew.new.log.store.pipes (tables_of c.rewrite_each_anew.new.log.tables) (g.F.FileSystem.directory c.rewrite_each_anew.new.log.store.file_system) c.rewrite_each_anew.new.self.rewriting.batch.items in
      let r = c.write_anew-written.result in
      let d = c.write_anew-written.new.log.store.pipes in
      let n = g.F.FileSystem.directory c.write_anew-written.new.log.store.file_system in
      let s2 = gather_of c.write_anew-written.new.self.rewriting.watermark d (tables_of c.write_anew-written.new.log.tables) n c.write_anew-written.new.self.rewriting.batch.items in
      let kept = c.rewrite_each_anew.new.self.cache in
      let some = some_known met' (IsRenewed [] s1) (some_by met met' (IsRenewed list s) (IsRenewed [] s1) c.in_ok-rewrite_each_anew.ensures.ok (∥∥₁_map c.requires.some (λ x. let owed = x.0 in let r = x.1 in let v = x.2 in let goes = x.3 in let held = x.4 in (owed, r, v, (all_begin list s c.of_rewrite-rewriter.ensures.watermark c.of_rewrite-rewriter.ensures.batch owed met r v goes held))))) in
      let rest = rest_held s1.pipes s1.files kept c.in_ok-rewrite_each_anew.ensures.rewrites.holds in
      let same = c.write_anew-written.ensures.cache in
      subst (λ (k : KeptBlocks). IfStands r (HoldsRestIn d n k)) (sym (c.into_cache.ensures.value ∙ same))
      (by_answer r _ (on_ok_weaker r (λ holds. subst (HoldsRestIn d n) same (rest_held d n c.write_anew-written.new.self.cache holds)) c.write_anew-written.ensures.holds)
      (on_err_weaker r (if_stands_map r _ _ (rest_ended [] s1 s2 kept some rest)) c.write_anew-written.ensures.err));
}

-- How it is cut.

pub rewrite_each_anew-requires-clause-within : goal.rewrite_each_anew-requires-clause-within
rewrite_each_anew-requires-clause-within g c = λ κs within. let none = c.of_rewrite-rewriter.ensures.held in omega (arith, none)

pub write_anew-written-requires-clause-cut : goal.write_anew-written-requires-clause-cut
write_anew-written-requires-clause-cut g c = λ κs within due.
    let self = c.rewrite_each_anew.new.self in
    let batch = self.rewriting.batch.items in
    cut_small batch (few_held self.held (bytes_held batch) self.counted c.in_ok-rewrite_each_anew.ensures.within)
