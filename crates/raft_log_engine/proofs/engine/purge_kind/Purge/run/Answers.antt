use Rattle.std.proofs.Common.{◌≡◌, refl, subst, sym, List, None, Option, Some, ℕ}
use Rattle.std.specs.List.Sorted.{IsStrictlySortedBy}
use Rattle.std.specs.Ordering.{nat_cmp}
use Rattle.raft_rewrite.specs.Apart.{KeepsOthers}
use Rattle.raft_log_engine.proofs.AppendGroupsLemmas.{groups_left}
use Rattle.raft_purge.proofs.DoubtLemmas.{on_err_of}
use Rattle.raft_purge_steps.proofs.FaultLemmas.{if_ok, if_stands_map}
use Rattle.raft_purge.proofs.ReadLemmas.{rest_log}
use Rattle.raft_stale.proofs.StillLemmas.{still_at}
use Rattle.std.proofs.Math.Logic.{∥∥₁_elim, ∥∥₁_map}
use Rattle.std.proofs.Props.{props}
use Rattle.std.proofs.lemmas.Result.{IfErr-weaker, on_ok_weaker}
use Rattle.raft_purge.proofs.CutLemmas.{none_cut}
use Rattle.raft_base.specs.declared.pipe_log.LogQueue.TheVariants.{Append, Rewrite}
use Rattle.raft_crash_laws.specs.Log.{known_groups}
use Rattle.raft_crash_laws.proofs.LogLemmas.{append_differs}
use Rattle.raft_purge_steps.specs.Steps.{KeepsLog, log_of}
use Rattle.raft_tables.specs.Tables.{tables_of}
use Rattle.raft_tables.specs.OwedMarks.{owed_of}
use Rattle.raft_log_engine.proofs.PurgeFaultLemmas.{both_ok, stale_files}
use Rattle.raft_log_engine.proofs.PurgeRunLemmas.{append_cause, renew_cause, stale_cause}
use Rattle.raft_purge.specs.declared.renewal_groups.NewFiles.{NewFiles}
use Rattle.raft_log_engine.specs.Purge.{GoesOnIf}
use Rattle.raft_log_engine.specs.declared.engine.purge_kind.Purge.{Purge}
use Rattle.raft_log_engine.proofs.RewriteGroupsLemmas.{going_on, renewed_groups}
use Rattle.raft_log_engine.proofs.engine.purge_kind.Purge.run.Goals as goal

-- A rewriting of the Append queue, whose log is kept whatever is known of atomic groups.

pub rewrite_append_queue-requires-clause-some : goal.rewrite_append_queue-requires-clause-some
rewrite_append_queue-requires-clause-some g c = λ κs within. ∥∥₁_map c.requires.some (λ x. (known_groups c.args.log.now.groups, x.0, x.1))

pub returns-in-RewriteAppend-clause-purges : goal.returns-in-RewriteAppend-clause-purges
returns-in-RewriteAppend-clause-purges g c =
    let p = c.rewrite_append_queue.ensures.purges in
    rw (c.in-RewriteAppend.is, c.rewrite_append_queue.ensures.known) (record {
      log = still_at (λ _. known_groups c.args.log.now.groups) p.log;
      value = p.value;
      front = p.front;
      cut = on_ok_weaker c.rewrite_append_queue.result (λ cut none. cut 0 (none_cut none)) p.cut;
      holds = p.holds;
      cause = IfErr-weaker c.rewrite_append_queue.result _ _ (append_cause c.args.log.now.store.pipes c.rewrite_append_queue.new.log.store.pipes (tables_of c.args.log.now.tables) (tables_of c.rewrite_append_queue.new.log.tables) (owed_of c.args.log.now.owed) (known_groups c.args.log.now.groups) (g.F.FileSystem.directory c.args.log.now.store.file_system) (g.F.FileSystem.directory c.rewrite_append_queue.new.log.store.file_system) (g.F.FileSystem.refusals_of c.args.log.now.store.file_system) (g.F.FileSystem.refusals_of c.rewrite_append_queue.new.log.store.file_system)) p.cause;
    })

pub returns-in-RewriteAppend-clause-frees : goal.returns-in-RewriteAppend-clause-frees
returns-in-RewriteAppend-clause-frees g c =
    let done = c.rewrite_append_queue.ensures in
    rw c.in-RewriteAppend.is (record {
      files = both_ok c.rewrite_append_queue.result _ _ _ (λ files left. (files, left)) done.files done.emptied;
      first = on_err_of c.rewrite_append_queue.result _ done.first;
      append = λ is. absurd (let clash : Append ≡ Rewrite = is in cc);
      tables = done.only;
      apart = if_ok c.rewrite_append_queue.result _ tt;
      idle = if_ok c.rewrite_append_queue.result _ (λ never. absurd never);
      counted = λ never. absurd never;
      stale = λ is. absurd (let clash = is in cc);
      ids = λ none. done.known;
    })

-- .. of some groups.

pub rewrite_append_groups-requires-clause-some : goal.rewrite_append_groups-requires-clause-some
rewrite_append_groups-requires-clause-some g c = λ κs within. ∥∥₁_map c.requires.some (λ x. (known_groups c.args.log.now.groups, x.0, x.1))

pub rewrite_append_groups-requires-clause-ascending : goal.rewrite_append_groups-requires-clause-ascending
rewrite_append_groups-requires-clause-ascending g c = λ κs within.
    subst (λ (gs : List ℕ). IsStrictlySortedBy nat_cmp gs) (sym c.deref.ensures.value) c.in-RewriteGroups.some.ascending

pub returns-in-RewriteGroups-clause-purges : goal.returns-in-RewriteGroups-clause-purges
returns-in-RewriteGroups-clause-purges g c =
    let p = c.rewrite_append_groups.ensures.purges in
    rw (c.in-RewriteGroups.is, c.rewrite_append_groups.ensures.known) (record {
      log = still_at (λ _. known_groups c.args.log.now.groups) p.log;
      value = p.value;
      front = p.front;
      cut = on_ok_weaker c.rewrite_append_groups.result (λ cut none. cut 0 (none_cut none)) p.cut;
      holds = p.holds;
      cause = IfErr-weaker c.rewrite_append_groups.result _ _ (append_cause c.args.log.now.store.pipes c.rewrite_append_groups.new.log.store.pipes (tables_of c.args.log.now.tables) (tables_of c.rewrite_append_groups.new.log.tables) (owed_of c.args.log.now.owed) (known_groups c.args.log.now.groups) (g.F.FileSystem.directory c.args.log.now.store.file_system) (g.F.FileSystem.directory c.rewrite_append_groups.new.log.store.file_system) (g.F.FileSystem.refusals_of c.args.log.now.store.file_system) (g.F.FileSystem.refusals_of c.rewrite_append_groups.new.log.store.file_system)) p.cause;
    })

pub returns-in-RewriteGroups-clause-frees : goal.returns-in-RewriteGroups-clause-frees
returns-in-RewriteGroups-clause-frees g c =
    let done = c.rewrite_append_groups.ensures in
    let d = c.args.log.now.store.pipes in
    let d' = c.rewrite_append_groups.new.log.store.pipes in
    let t = tables_of c.args.log.now.tables in
    let t' = tables_of c.rewrite_append_groups.new.log.tables in
    rw c.in-RewriteGroups.is (record {
      files = groups_left c.rewrite_append_groups.result c.in-RewriteGroups.some c.deref.result.now t t' d.append d.rewrite d'.append d'.rewrite c.deref.ensures.value done.emptied done.rotated done.early done.rewrite;
      first = on_err_of c.rewrite_append_groups.result _ done.first;
      append = λ is. absurd (let clash : Append ≡ Rewrite = is in cc);
      tables = done.only;
      apart = on_ok_weaker c.rewrite_append_groups.result (subst (λ (gs : List ℕ). KeepsOthers gs t t') c.deref.ensures.value) done.apart;
      idle = if_ok c.rewrite_append_groups.result _ (λ never. absurd never);
      counted = λ never. absurd never;
      stale = λ is. absurd (let clash = is in cc);
      ids = λ none. done.known;
    })

-- A rewriting of the Rewrite queue, whose log is kept whichever marks are owed.

pub rewrite_rewrite_queue-requires-clause-some : goal.rewrite_rewrite_queue-requires-clause-some
rewrite_rewrite_queue-requires-clause-some g c = λ κs within. ∥∥₁_map c.requires.some (λ x. (owed_of c.args.log.now.owed, x.0, x.1))

pub returns-in-RewriteRewrite-clause-purges : goal.returns-in-RewriteRewrite-clause-purges
returns-in-RewriteRewrite-clause-purges g c =
    let p = c.rewrite_rewrite_queue.ensures.renews.purges in
    rw (c.in-RewriteRewrite.is, c.rewrite_rewrite_queue.ensures.owed) (record {
      log = still_at (λ _. owed_of c.args.log.now.owed) p.log;
      value = p.value;
      front = p.front;
      cut = on_ok_weaker c.rewrite_rewrite_queue.result (λ cut none. cut 0 (none_cut none)) p.cut;
      holds = p.holds;
      cause = IfErr-weaker c.rewrite_rewrite_queue.result _ _ (renew_cause c.args.log.now.store.pipes c.rewrite_rewrite_queue.new.log.store.pipes (tables_of c.args.log.now.tables) (tables_of c.rewrite_rewrite_queue.new.log.tables) (owed_of c.args.log.now.owed) (known_groups c.args.log.now.groups) (g.F.FileSystem.directory c.args.log.now.store.file_system) (g.F.FileSystem.directory c.rewrite_rewrite_queue.new.log.store.file_system) (g.F.FileSystem.refusals_of c.args.log.now.store.file_system) (g.F.FileSystem.refusals_of c.rewrite_rewrite_queue.new.log.store.file_system) c.rewrite_rewrite_queue.new.log.groups) p.cause;
    })

pub returns-in-RewriteRewrite-clause-frees : goal.returns-in-RewriteRewrite-clause-frees
returns-in-RewriteRewrite-clause-frees g c =
    let done = c.rewrite_rewrite_queue.ensures in
    let same = done.renews.others Append append_differs in
    rw c.in-RewriteRewrite.is (record {
      files = both_ok c.rewrite_rewrite_queue.result _ _ _ (λ gone kept. (record { gone = gone; kept = kept }, same)) done.span done.kept;
      first = done.first;
      append = λ is. same;
      tables = done.only;
      apart = if_ok c.rewrite_rewrite_queue.result _ tt;
      idle = if_ok c.rewrite_rewrite_queue.result _ (λ never. absurd never);
      counted = λ only. done.stats;
      stale = λ is. absurd (let clash = is in cc);
      ids = λ never. absurd never;
    })

pub returns-in-RewriteRewrite-clause-together : goal.returns-in-RewriteRewrite-clause-together
returns-in-RewriteRewrite-clause-together g c = c.rewrite_rewrite_queue.ensures.renews.together

-- .. of some groups.

pub rewrite_rewrite_groups-requires-clause-some : goal.rewrite_rewrite_groups-requires-clause-some
rewrite_rewrite_groups-requires-clause-some g c = λ κs within. ∥∥₁_map c.requires.some (λ x. (owed_of c.args.log.now.owed, x.0, x.1))

pub rewrite_rewrite_groups-requires-clause-goes : goal.rewrite_rewrite_groups-requires-clause-goes
rewrite_rewrite_groups-requires-clause-goes g c = λ κs within.
    subst (λ (p : Purge). GoesOnIf p c.args.log.now.store.pipes (tables_of c.args.log.now.tables) (known_groups c.args.log.now.groups) (g.F.FileSystem.directory c.args.log.now.store.file_system)) c.in-RenewGroups.is c.requires.goes

pub returns-in-RenewGroups-clause-purges : goal.returns-in-RenewGroups-clause-purges
returns-in-RenewGroups-clause-purges g c =
    let p = c.rewrite_rewrite_groups.ensures.purges in
    rw (c.in-RenewGroups.is, c.rewrite_rewrite_groups.ensures.owed) (record {
      log = still_at (λ _. owed_of c.args.log.now.owed) p.log;
      value = p.value;
      front = p.front;
      cut = on_ok_weaker c.rewrite_rewrite_groups.result (λ cut none. cut 0 (none_cut none)) p.cut;
      holds = p.holds;
      cause = IfErr-weaker c.rewrite_rewrite_groups.result _ _ (renew_cause c.args.log.now.store.pipes c.rewrite_rewrite_groups.new.log.store.pipes (tables_of c.args.log.now.tables) (tables_of c.rewrite_rewrite_groups.new.log.tables) (owed_of c.args.log.now.owed) (known_groups c.args.log.now.groups) (g.F.FileSystem.directory c.args.log.now.store.file_system) (g.F.FileSystem.directory c.rewrite_rewrite_groups.new.log.store.file_system) (g.F.FileSystem.refusals_of c.args.log.now.store.file_system) (g.F.FileSystem.refusals_of c.rewrite_rewrite_groups.new.log.store.file_system) c.rewrite_rewrite_groups.new.log.groups) p.cause;
    })

pub returns-in-RenewGroups-clause-frees : goal.returns-in-RenewGroups-clause-frees
returns-in-RenewGroups-clause-frees g c =
    let done = c.rewrite_rewrite_groups.ensures in
    let d = c.args.log.now.store.pipes in
    let d' = c.rewrite_rewrite_groups.new.log.store.pipes in
    let same = done.others Append append_differs in
    rw c.in-RenewGroups.is (record {
      files = renewed_groups c.rewrite_rewrite_groups.result c.in-RenewGroups.part c.args.log.now.groups.together c.args.log.now.tables c.rewrite_rewrite_groups.new.log.tables d.append d.rewrite d'.append d'.rewrite same done.emptied done.kept done.dropped done.span;
      first = done.first;
      append = λ is. same;
      tables = done.only;
      apart = if_ok c.rewrite_rewrite_groups.result _ tt;
      idle = if_ok c.rewrite_rewrite_groups.result _ (λ never. absurd never);
      counted = λ last. on_ok_weaker c.rewrite_rewrite_groups.result (λ stats. stats last) done.stats;
      stale = λ is. absurd (let clash = is in cc);
      ids = λ never. absurd never;
    })

pub returns-in-RenewGroups-clause-together : goal.returns-in-RenewGroups-clause-together
returns-in-RenewGroups-clause-together g c = c.rewrite_rewrite_groups.ensures.together

-- A drop of what is stale, to which the cache isn't lent.

pub returns-in-DropStale-clause-purges : goal.returns-in-DropStale-clause-purges
returns-in-DropStale-clause-purges g c =
    let p = c.purge_all_stale.ensures.purges.drops in
    let t = tables_of c.args.log.now.tables in
    let met = known_groups c.args.log.now.groups in
    let a = log_of c.args.log.now.store.pipes t (owed_of c.args.log.now.owed) met (g.F.FileSystem.directory c.args.log.now.store.file_system) in
    let b = log_of c.purge_all_stale.new.store.pipes t (owed_of c.purge_all_stale.new.owed) met (g.F.FileSystem.directory c.purge_all_stale.new.store.file_system) in
    rw c.in-DropStale.is (record {
      log = p.log;
      value = p.value;
      front = p.front;
      cut = on_ok_weaker c.purge_all_stale.result (λ cut none. cut 0 (none_cut none)) p.cut;
      holds = if_stands_map c.purge_all_stale.result (Unit {0} → KeepsLog a b) _ (λ keeps. ∥∥₁_elim c.requires.some (hlevel props) (λ x. rest_log a b c.args.log.now.cache (keeps tt) x.0 x.1 c.requires.holds)) p.log.now;
      cause = IfErr-weaker c.purge_all_stale.result _ _ (stale_cause c.args.log.now.store.pipes c.purge_all_stale.new.store.pipes (tables_of c.args.log.now.tables) (tables_of c.args.log.now.tables) (owed_of c.args.log.now.owed) (known_groups c.args.log.now.groups) (g.F.FileSystem.directory c.args.log.now.store.file_system) (g.F.FileSystem.directory c.purge_all_stale.new.store.file_system) (g.F.FileSystem.refusals_of c.args.log.now.store.file_system) (g.F.FileSystem.refusals_of c.purge_all_stale.new.store.file_system)) p.cause;
    })

pub returns-in-DropStale-clause-frees : goal.returns-in-DropStale-clause-frees
returns-in-DropStale-clause-frees g c =
    let done = c.purge_all_stale.ensures in
    let d = c.args.log.now.store.pipes in
    let d' = c.purge_all_stale.new.store.pipes in
    rw c.in-DropStale.is (record {
      files = stale_files c.purge_all_stale.result c.args.log.now.groups.together c.args.log.now.tables d.append d.rewrite d'.append d'.rewrite (on_ok_weaker c.purge_all_stale.result (λ left. left.rotated) done.purges.files) (on_ok_weaker c.purge_all_stale.result (λ left. left.span) done.purges.files) done.old;
      first = on_err_of c.purge_all_stale.result _ done.purges.first;
      append = λ is. absurd (let clash : Append ≡ Rewrite = is in cc);
      tables = if_ok c.purge_all_stale.result _ tt;
      apart = if_ok c.purge_all_stale.result _ tt;
      idle = if_ok c.purge_all_stale.result _ (λ never. absurd never);
      counted = λ never. absurd never;
      stale = λ is. (refl, refl, refl);
      ids = λ none. refl;
    })

-- A purge by watermarks.

pub returns-in-DropExpired-clause-purges : goal.returns-in-DropExpired-clause-purges
returns-in-DropExpired-clause-purges g c =
    let p = c.purge.ensures.purges in
    rw c.in-DropExpired.is (record {
      log = p.log;
      value = p.value;
      front = p.front;
      cut = on_ok_weaker c.purge.result (λ cut none. cut 0 (none_cut none)) p.cut;
      holds = p.holds;
      cause = IfErr-weaker c.purge.result _ _ (λ f why. why) p.cause;
    })

pub returns-in-DropExpired-clause-frees : goal.returns-in-DropExpired-clause-frees
returns-in-DropExpired-clause-frees g c =
    let done = c.purge.ensures in
    rw c.in-DropExpired.is (record {
      files = done.files;
      first = on_err_of c.purge.result _ done.first;
      append = λ is. absurd (let clash : Append ≡ Rewrite = is in cc);
      tables = done.only;
      apart = done.apart;
      idle = done.idle;
      counted = λ only. on_ok_weaker c.purge.result (λ stats. stats only.0 only.1) done.stats;
      stale = λ is. absurd (let clash = is in cc);
      ids = λ never. absurd never;
    })

-- Which new files of the Rewrite queue stand behind it.

pub returns-in-RenewGroups-clause-goes : goal.returns-in-RenewGroups-clause-goes
returns-in-RenewGroups-clause-goes g c =
    let d' = c.rewrite_rewrite_groups.new.log.store.pipes in
    let t' = tables_of c.rewrite_rewrite_groups.new.log.tables in
    let met' = known_groups c.rewrite_rewrite_groups.new.log.groups in
    let n' = g.F.FileSystem.directory c.rewrite_rewrite_groups.new.log.store.file_system in
    rw c.in-RenewGroups.is (on_ok_weaker c.rewrite_rewrite_groups.result (λ goes. going_on c.in-RenewGroups.part c.args.log.now.store.pipes.rewrite c.args.log.now.groups d' t' met' n' goes) c.rewrite_rewrite_groups.ensures.goes)

pub returns-in-RewriteAppend-clause-goes : goal.returns-in-RewriteAppend-clause-goes
returns-in-RewriteAppend-clause-goes g c = rw c.in-RewriteAppend.is (if_ok c.rewrite_append_queue.result _ (λ files is. absurd (let clash : ◌≡◌ {A = Option NewFiles} None (Some files) = is in cc)))

pub returns-in-RewriteGroups-clause-goes : goal.returns-in-RewriteGroups-clause-goes
returns-in-RewriteGroups-clause-goes g c = rw c.in-RewriteGroups.is (if_ok c.rewrite_append_groups.result _ (λ files is. absurd (let clash : ◌≡◌ {A = Option NewFiles} None (Some files) = is in cc)))

pub returns-in-RewriteRewrite-clause-goes : goal.returns-in-RewriteRewrite-clause-goes
returns-in-RewriteRewrite-clause-goes g c = rw c.in-RewriteRewrite.is (if_ok c.rewrite_rewrite_queue.result _ (λ files is. absurd (let clash : ◌≡◌ {A = Option NewFiles} None (Some files) = is in cc)))

pub returns-in-DropStale-clause-goes : goal.returns-in-DropStale-clause-goes
returns-in-DropStale-clause-goes g c = rw c.in-DropStale.is (if_ok c.purge_all_stale.result _ (λ files is. absurd (let clash : ◌≡◌ {A = Option NewFiles} None (Some files) = is in cc)))

pub returns-in-DropExpired-clause-goes : goal.returns-in-DropExpired-clause-goes
returns-in-DropExpired-clause-goes g c = rw c.in-DropExpired.is (if_ok c.purge.result _ (λ files is. absurd (let clash : ◌≡◌ {A = Option NewFiles} None (Some files) = is in cc)))
