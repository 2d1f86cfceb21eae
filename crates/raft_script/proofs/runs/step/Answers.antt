use Rattle.std.proofs.Common.{◌≡◌, ◌⊎◌, ◌∙◌, ◌∷◌, [], true, ℕ, List, Option, Some, ap, map, refl, rules, subst, sym}
use Rattle.std.specs.Prelude.{unwrap_or}
use Rattle.raft_records.specs.Contents.{Contents, first_index_of, last_index_of}
use Rattle.raft_records.specs.Item.{Batch}
use Rattle.raft_log_engine.specs.Durability.{Durability, durability_of}
use Rattle.raft_log_engine.specs.Engine.{contents_of, directory_of, folders_of, has_failed, is_known_in, moments_of, queue_of, refusals_of, rewrite_queue_of}
use Rattle.raft_script.proofs.CalledLemmas.{called_once, called_write, unbuilt_group, unbuilt_once, unbuilt_write}
use Rattle.raft_script.specs.Batches.{Part, batch_of_acts, batches_of_parts, items_of_acts}
use Rattle.raft_script.specs.Durability.{Does}
use Rattle.raft_script.specs.ReadCalls.{IsGet}
use Rattle.raft_script.specs.Run.{IsUnbuilt, IsUnbuiltGroup}
use Rattle.raft_crash_laws.specs.Crash.{pending_of}
use Rattle.raft_log_engine.specs.Cause.{plain_part}
use Rattle.raft_log_engine.specs.Group.{chosen_of, items_of}
use Rattle.raft_log_engine.specs.Once.{IsWriteOnce}
use Rattle.raft_log_engine.specs.Reads.{compact_batch}
use Rattle.raft_once.specs.History.{are_numbers}
use Rattle.raft_once.specs.Numbers.{Pair}
use Rattle.raft_script.specs.declared.operation.Op.TheVariants.{CompactTo, Purge, PurgeStale, RewriteAppend, RewriteRewrite, Sync, Write, WriteGroup, WriteOnce}
use Rattle.raft_script.specs.declared.operation.Act.{Act}
use Rattle.raft_script.specs.declared.operation.Outcome.TheVariants.{Dropped, Size, Sizes, ToCompact}
use Rattle.raft_script.proofs.DurabilityLemmas.{alone, compaction_progress}
use Rattle.raft_script.proofs.OnceLemmas.{covered_write, does_contents, does_write, once_answered, once_does, once_fails, once_rose, write_fails}
use Rattle.raft_script.proofs.StepsLemmas.{does_purge, does_read, in_flight, read_same}
use Rattle.raft_script.proofs.PassedLemmas.{passes_none, passes_read}
use Rattle.raft_script.proofs.ProgressLemmas.{purge_stands}
use Rattle.raft_script.proofs.RunLemmas.{compaction_answered, compaction_fails, entry_answered, entry_rose, groups_answered, purge_answered, purge_fails, purge_rose, renewal_fails, steady_by, sync_fails, write_answered}
use Rattle.raft_script.proofs.RefusalLemmas.{compaction_rose, sync_rose, write_rose}
use Rattle.raft_log_engine.specs.Purge.{HasLastId, HasOpenGroup, OwesTooMuch}
use Rattle.raft_records.specs.Batch.{BatchView}
use Rattle.raft_script.proofs.GroupLemmas.{called_group, does_group, group_answered, group_fails, group_refuses, unbuilt_answered, unbuilt_fails}
use Rattle.raft_script.proofs.runs.step.Given.{Over}
use Rattle.raft_script.proofs.runs.step.Goals.{After-write_group, After-write_once}
use Rattle.raft_script.proofs.runs.step.Goals as goal

pub returns-in-Ok-clause-value : goal.returns-in-Ok-clause-value
returns-in-Ok-clause-value g c =
    let write = c.write.ensures in
    let acts = c.in-Write.acts in
    let built : batch_of_acts acts.items ≡ Some c.in-Ok.batch.items = ap batch_of_acts (sym c.deref.ensures.value) ∙ c.in-Ok.ensures.value in
    rw c.in-Write.is (λ m known is same_known. write_answered acts.items c.in-Ok.batch.items c.write.new.batch.items (folders_of c.args.engine.now) m c.args.engine.now c.write.new.self built is c.write.result write.call.ok write.taken write.call.failed write.call.cause)

pub returns-in-Ok-clause-progress : goal.returns-in-Ok-clause-progress
returns-in-Ok-clause-progress g c =
    let write = c.write.ensures in
    let acts = c.in-Write.acts in
    let items = c.in-Ok.batch.items in
    let e = c.args.engine.now in
    let n = c.write.new.self in
    let built : batch_of_acts acts.items ≡ Some items = ap batch_of_acts (sym c.deref.ensures.value) ∙ c.in-Ok.ensures.value in
    let is : plain_part (items_of_acts acts.items) ∷ [] ≡ plain_part items ∷ [] = ap (λ (o : Option Batch). plain_part (unwrap_or o []) ∷ []) built in
    rw c.in-Write.is (does_write e n (Write acts c.in-Write.sync) (plain_part items) c.in-Write.sync c.write.result is (covered_write acts c.in-Write.sync c.write.result) write.plain (λ failed. (write.call.unchanged failed).0.moments))

pub returns-in-Err-clause-progress : goal.returns-in-Err-clause-progress
returns-in-Err-clause-progress g c = let e = c.args.engine.now in rw c.in-Write.is (does_read e e _ _ (read_same e) refl refl)

pub returns-in-Get-clause-progress : goal.returns-in-Get-clause-progress
returns-in-Get-clause-progress g c = let e = c.args.engine.now in rw c.in-Get.is (does_read e e _ _ (read_same e) refl refl)

pub returns-in-Sync-clause-progress : goal.returns-in-Sync-clause-progress
returns-in-Sync-clause-progress g c =
    let e = c.args.engine.now in
    let n = c.sync.new.self in
    rw c.in-Sync.is (record {
      flight = [];
      may_be = ∣ ([], refl) ∣₁;
      progress = c.sync.ensures.advance.progress;
      moments = λ alive. in_flight e Sync [] [] (moments_of n) (directory_of n) ∣ ([], refl) ∣₁ refl c.sync.ensures.advance.any_moment.throughout;
      rests = search rules;
    })

pub returns-in-Sync-clause-failed : goal.returns-in-Sync-clause-failed
returns-in-Sync-clause-failed g c =
    let e = c.args.engine.now in
    let n = c.sync.new.self in
    let sync = c.sync.ensures in
    rw c.in-Sync.is (sync_fails (has_failed e) (has_failed n) (folders_of e) (refusals_of e) (refusals_of n) c.sync.result sync.stands sync.err sync.failed (λ gone. (sync.unchanged gone).failed) sync.cause)

pub returns-in-Ok-clause-cause : goal.returns-in-Ok-clause-cause
returns-in-Ok-clause-cause g c =
    let write = c.write.ensures in
    let e = c.args.engine.now in
    let n = c.write.new.self in
    (write.call.advance.any_moment.no_fewer, write_rose (folders_of e) (queue_of n) (contents_of e) c.in-Ok.batch.items (has_failed e) (has_failed n) (refusals_of e) (refusals_of n) c.write.result write.call.failed write.call.cause)

pub returns-in-Sync-clause-cause : goal.returns-in-Sync-clause-cause
returns-in-Sync-clause-cause g c =
    let sync = c.sync.ensures in
    let e = c.args.engine.now in
    let n = c.sync.new.self in
    (sync.advance.any_moment.no_fewer, sync_rose (folders_of e) (has_failed e) (refusals_of e) (refusals_of n) c.sync.result sync.failed sync.cause)

pub returns-in-CompactTo-clause-cause : goal.returns-in-CompactTo-clause-cause
returns-in-CompactTo-clause-cause g c =
    let compaction = c.compact_to.ensures in
    let e = c.args.engine.now in
    let n = c.compact_to.new.self in
    (compaction.advance.any_moment.no_fewer, compaction_rose (folders_of e) (queue_of n) (has_failed e) (has_failed n) (refusals_of e) (refusals_of n) c.compact_to.result compaction.failed compaction.cause)

pub returns-in-Ok-clause-failed : goal.returns-in-Ok-clause-failed
returns-in-Ok-clause-failed g c =
    rw c.in-Write.is (write_fails c.args.engine.now c.write.new.self c.in-Ok.batch.items c.write.new.batch.items c.in-Write.sync c.write.result (IsUnbuilt c.in-Write.acts.items) c.write.ensures.call)

pub returns-in-CompactTo-clause-value : goal.returns-in-CompactTo-clause-value
returns-in-CompactTo-clause-value g c =
    let compaction = c.compact_to.ensures in
    let e = c.args.engine.now in
    rw c.in-CompactTo.is (λ m known same same_known. compaction_answered m (contents_of e) c.in-CompactTo.group c.in-CompactTo.index (has_failed e) (folders_of e) (refusals_of e) (refusals_of c.compact_to.new.self) same (queue_of c.compact_to.new.self) (has_failed c.compact_to.new.self) c.compact_to.result compaction.value compaction.failed compaction.cause)

pub returns-in-CompactTo-clause-failed : goal.returns-in-CompactTo-clause-failed
returns-in-CompactTo-clause-failed g c =
    let compaction = c.compact_to.ensures in
    let e = c.args.engine.now in
    let n = c.compact_to.new.self in
    rw c.in-CompactTo.is (compaction_fails _ _ _ _ (has_failed e) (has_failed n) (folders_of e) (queue_of n) (refusals_of e) (refusals_of n) c.compact_to.result compaction.contents compaction.failed (λ gone. (compaction.unchanged gone).failed) compaction.cause)

pub returns-in-CompactTo-clause-progress : goal.returns-in-CompactTo-clause-progress
returns-in-CompactTo-clause-progress g c =
    let e = c.args.engine.now in
    let n = c.compact_to.new.self in
    let result = c.compact_to.result in
    let m = contents_of e in
    let batch = compact_batch c.in-CompactTo.group c.in-CompactTo.index (m.entries c.in-CompactTo.group) in
    let flight = chosen_of m (true ∷ []) (batch ∷ []) in
    rw c.in-CompactTo.is (record {
      flight = flight;
      may_be = ∣ (true ∷ [], refl) ∣₁;
      progress = compaction_progress m c.in-CompactTo.group c.in-CompactTo.index batch result (durability_of e) (durability_of n) c.compact_to.ensures.advance.progress;
      moments = λ alive. in_flight e (CompactTo c.in-CompactTo.group c.in-CompactTo.index) flight (pending_of m batch) (moments_of n) (directory_of n) ∣ (true ∷ [], refl) ∣₁ (alone m batch batch refl) c.compact_to.ensures.advance.any_moment.throughout;
      rests = λ failed. (c.compact_to.ensures.unchanged failed).moments;
    })

pub returns-in-Entry-clause-value : goal.returns-in-Entry-clause-value
returns-in-Entry-clause-value g c =
    let e = c.args.engine.now in
    let read = c.get_entry.ensures in
    rw c.in-Entry.is (λ m known same same_known. entry_answered m (contents_of e) c.in-Entry.group c.in-Entry.index (has_failed e) (folders_of e) (refusals_of e) (refusals_of c.get_entry.new.self) same c.get_entry.result read.value read.failed read.cause)

pub returns-in-Entry-clause-failed : goal.returns-in-Entry-clause-failed
returns-in-Entry-clause-failed g c =
    let e = c.args.engine.now in
    let n = c.get_entry.new.self in
    rw c.in-Entry.is (steady_by (has_failed e) (has_failed n) c.get_entry.result c.get_entry.ensures.failed (ap (λ (d : Durability). d.failed) c.get_entry.ensures.unchanged.state))

pub returns-in-Entry-clause-cause : goal.returns-in-Entry-clause-cause
returns-in-Entry-clause-cause g c =
    let e = c.args.engine.now in
    let n = c.get_entry.new.self in
    let read = c.get_entry.ensures in (
      read.unchanged.refusals,
      entry_rose (contents_of e) (contents_of e) c.in-Entry.group c.in-Entry.index (has_failed e) (folders_of e) (refusals_of e) (refusals_of n) (λ _. refl) c.get_entry.result read.failed read.cause,
    )

pub returns-in-Entry-clause-progress : goal.returns-in-Entry-clause-progress
returns-in-Entry-clause-progress g c = rw c.in-Entry.is (does_read c.args.engine.now c.get_entry.new.self _ _ c.get_entry.ensures.unchanged refl refl)

pub returns-in-First-clause-value : goal.returns-in-First-clause-value
returns-in-First-clause-value g c = rw c.in-First.is (λ m known same same_known stands. c.first_index.ensures.value stands ∙ ap (λ (x : Contents). first_index_of (x.entries c.in-First.group)) (sym (same stands)))

pub returns-in-First-clause-progress : goal.returns-in-First-clause-progress
returns-in-First-clause-progress g c = let e = c.args.engine.now in rw c.in-First.is (does_read e e _ _ (read_same e) refl refl)

pub returns-in-Last-clause-value : goal.returns-in-Last-clause-value
returns-in-Last-clause-value g c = rw c.in-Last.is (λ m known same same_known stands. c.last_index.ensures.value stands ∙ ap (λ (x : Contents). last_index_of (x.entries c.in-Last.group)) (sym (same stands)))

pub returns-in-Last-clause-progress : goal.returns-in-Last-clause-progress
returns-in-Last-clause-progress g c = let e = c.args.engine.now in rw c.in-Last.is (does_read e e _ _ (read_same e) refl refl)

pub returns-in-Groups-clause-value : goal.returns-in-Groups-clause-value
returns-in-Groups-clause-value g c =
    let e = c.args.engine.now in
    let told = c.raft_groups.ensures in
    rw c.in-Groups.is (λ m known same same_known. groups_answered m (contents_of e) known (is_known_in e) (has_failed e) same same_known c.raft_groups.result told.value told.failed told.cause)

pub returns-in-Groups-clause-failed : goal.returns-in-Groups-clause-failed
returns-in-Groups-clause-failed g c =
    let e = c.args.engine.now in
    rw c.in-Groups.is (steady_by (has_failed e) (has_failed e) c.raft_groups.result c.raft_groups.ensures.failed refl)

pub returns-in-Groups-clause-progress : goal.returns-in-Groups-clause-progress
returns-in-Groups-clause-progress g c = let e = c.args.engine.now in rw c.in-Groups.is (does_read e e _ _ (read_same e) refl refl)

-- Purges.

pub returns-in-RewriteAppend-clause-value : goal.returns-in-RewriteAppend-clause-value
returns-in-RewriteAppend-clause-value g c =
    let e = c.args.engine.now in
    let n = c.must_rewrite_append_queue.new.self in
    let purged = c.must_rewrite_append_queue.ensures in
    rw c.in-RewriteAppend.is (λ m known same same_known. purge_answered (contents_of e) (queue_of n) (rewrite_queue_of n) ⊥ (⊥ ⊎ OwesTooMuch e n) (has_failed e) (has_failed n) (folders_of e) (refusals_of e) (refusals_of n) c.must_rewrite_append_queue.result purged.failed purged.log.cause m same)

pub returns-in-RewriteAppend-clause-failed : goal.returns-in-RewriteAppend-clause-failed
returns-in-RewriteAppend-clause-failed g c =
    let e = c.args.engine.now in
    let n = c.must_rewrite_append_queue.new.self in
    let purged = c.must_rewrite_append_queue.ensures in
    rw c.in-RewriteAppend.is (purge_fails (contents_of e) (queue_of n) (rewrite_queue_of n) ⊥ (⊥ ⊎ OwesTooMuch e n) (has_failed e) (has_failed n) (folders_of e) (refusals_of e) (refusals_of n) c.must_rewrite_append_queue.result purged.failed purged.log.cause (λ there. there) (purge_stands c.must_rewrite_append_queue.result (durability_of e) (durability_of n) purged.log.progress) (λ gone. (purged.unchanged gone).failed))

pub returns-in-RewriteAppend-clause-cause : goal.returns-in-RewriteAppend-clause-cause
returns-in-RewriteAppend-clause-cause g c =
    let e = c.args.engine.now in
    let n = c.must_rewrite_append_queue.new.self in
    let purged = c.must_rewrite_append_queue.ensures in
    (purged.log.any_moment.no_fewer, purge_rose (contents_of e) (queue_of n) (rewrite_queue_of n) ⊥ (⊥ ⊎ OwesTooMuch e n) (has_failed e) (has_failed n) (folders_of e) (refusals_of e) (refusals_of n) c.must_rewrite_append_queue.result purged.failed purged.log.cause)

pub returns-in-RewriteAppend-clause-progress : goal.returns-in-RewriteAppend-clause-progress
returns-in-RewriteAppend-clause-progress g c =
    let e = c.args.engine.now in
    let n = c.must_rewrite_append_queue.new.self in
    let purged = c.must_rewrite_append_queue.ensures in
    rw c.in-RewriteAppend.is (does_purge e n (RewriteAppend c.in-RewriteAppend.watermark c.in-RewriteAppend.step) (Dropped c.must_rewrite_append_queue.result) purged.log.progress purged.log.any_moment.throughout purged.unchanged)

pub returns-in-RewriteRewrite-clause-value : goal.returns-in-RewriteRewrite-clause-value
returns-in-RewriteRewrite-clause-value g c =
    let e = c.args.engine.now in
    let n = c.must_rewrite_rewrite_queue.new.self in
    let purged = c.must_rewrite_rewrite_queue.ensures in
    rw c.in-RewriteRewrite.is (λ m known same same_known. purge_answered (contents_of e) (queue_of n) (rewrite_queue_of n) (HasOpenGroup n) (HasLastId n ⊎ OwesTooMuch e n) (has_failed e) (has_failed n) (folders_of e) (refusals_of e) (refusals_of n) c.must_rewrite_rewrite_queue.result purged.failed purged.log.cause m same)

pub returns-in-RewriteRewrite-clause-failed : goal.returns-in-RewriteRewrite-clause-failed
returns-in-RewriteRewrite-clause-failed g c =
    let e = c.args.engine.now in
    let n = c.must_rewrite_rewrite_queue.new.self in
    let purged = c.must_rewrite_rewrite_queue.ensures in
    rw c.in-RewriteRewrite.is (renewal_fails (contents_of e) (queue_of n) (rewrite_queue_of n) (HasOpenGroup n) (HasLastId n ⊎ OwesTooMuch e n) (has_failed e) (has_failed n) (folders_of e) (refusals_of e) (refusals_of n) c.must_rewrite_rewrite_queue.result purged.failed purged.log.cause (purge_stands c.must_rewrite_rewrite_queue.result (durability_of e) (durability_of n) purged.log.progress) (λ gone. (purged.unchanged gone).failed))

pub returns-in-RewriteRewrite-clause-cause : goal.returns-in-RewriteRewrite-clause-cause
returns-in-RewriteRewrite-clause-cause g c =
    let e = c.args.engine.now in
    let n = c.must_rewrite_rewrite_queue.new.self in
    let purged = c.must_rewrite_rewrite_queue.ensures in
    (purged.log.any_moment.no_fewer, purge_rose (contents_of e) (queue_of n) (rewrite_queue_of n) (HasOpenGroup n) (HasLastId n ⊎ OwesTooMuch e n) (has_failed e) (has_failed n) (folders_of e) (refusals_of e) (refusals_of n) c.must_rewrite_rewrite_queue.result purged.failed purged.log.cause)

pub returns-in-RewriteRewrite-clause-progress : goal.returns-in-RewriteRewrite-clause-progress
returns-in-RewriteRewrite-clause-progress g c =
    let e = c.args.engine.now in
    let n = c.must_rewrite_rewrite_queue.new.self in
    let purged = c.must_rewrite_rewrite_queue.ensures in
    rw c.in-RewriteRewrite.is (does_purge e n (RewriteRewrite) (Dropped c.must_rewrite_rewrite_queue.result) purged.log.progress purged.log.any_moment.throughout purged.unchanged)

pub returns-in-PurgeStale-clause-value : goal.returns-in-PurgeStale-clause-value
returns-in-PurgeStale-clause-value g c =
    let e = c.args.engine.now in
    let n = c.must_purge_all_stale.new.self in
    let purged = c.must_purge_all_stale.ensures in
    rw c.in-PurgeStale.is (λ m known same same_known. purge_answered (contents_of e) (queue_of n) (rewrite_queue_of n) ⊥ (⊥ ⊎ OwesTooMuch e n) (has_failed e) (has_failed n) (folders_of e) (refusals_of e) (refusals_of n) c.must_purge_all_stale.result purged.failed purged.log.cause m same)

pub returns-in-PurgeStale-clause-failed : goal.returns-in-PurgeStale-clause-failed
returns-in-PurgeStale-clause-failed g c =
    let e = c.args.engine.now in
    let n = c.must_purge_all_stale.new.self in
    let purged = c.must_purge_all_stale.ensures in
    rw c.in-PurgeStale.is (purge_fails (contents_of e) (queue_of n) (rewrite_queue_of n) ⊥ (⊥ ⊎ OwesTooMuch e n) (has_failed e) (has_failed n) (folders_of e) (refusals_of e) (refusals_of n) c.must_purge_all_stale.result purged.failed purged.log.cause (λ there. there) (purge_stands c.must_purge_all_stale.result (durability_of e) (durability_of n) purged.log.progress) (λ gone. (purged.unchanged gone).failed))

pub returns-in-PurgeStale-clause-cause : goal.returns-in-PurgeStale-clause-cause
returns-in-PurgeStale-clause-cause g c =
    let e = c.args.engine.now in
    let n = c.must_purge_all_stale.new.self in
    let purged = c.must_purge_all_stale.ensures in
    (purged.log.any_moment.no_fewer, purge_rose (contents_of e) (queue_of n) (rewrite_queue_of n) ⊥ (⊥ ⊎ OwesTooMuch e n) (has_failed e) (has_failed n) (folders_of e) (refusals_of e) (refusals_of n) c.must_purge_all_stale.result purged.failed purged.log.cause)

pub returns-in-PurgeStale-clause-progress : goal.returns-in-PurgeStale-clause-progress
returns-in-PurgeStale-clause-progress g c =
    let e = c.args.engine.now in
    let n = c.must_purge_all_stale.new.self in
    let purged = c.must_purge_all_stale.ensures in
    rw c.in-PurgeStale.is (does_purge e n (PurgeStale) (Dropped c.must_purge_all_stale.result) purged.log.progress purged.log.any_moment.throughout purged.unchanged)

pub returns-in-Purge-clause-value : goal.returns-in-Purge-clause-value
returns-in-Purge-clause-value g c =
    let e = c.args.engine.now in
    let n = c.purge_expired_files.new.self in
    let purged = c.purge_expired_files.ensures in
    rw c.in-Purge.is (λ m known same same_known. purge_answered (contents_of e) (queue_of n) (rewrite_queue_of n) (HasOpenGroup n) (HasLastId n ⊎ OwesTooMuch e n) (has_failed e) (has_failed n) (folders_of e) (refusals_of e) (refusals_of n) c.purge_expired_files.result purged.failed purged.log.cause m same)

pub returns-in-Purge-clause-failed : goal.returns-in-Purge-clause-failed
returns-in-Purge-clause-failed g c =
    let e = c.args.engine.now in
    let n = c.purge_expired_files.new.self in
    let purged = c.purge_expired_files.ensures in
    rw c.in-Purge.is (renewal_fails (contents_of e) (queue_of n) (rewrite_queue_of n) (HasOpenGroup n) (HasLastId n ⊎ OwesTooMuch e n) (has_failed e) (has_failed n) (folders_of e) (refusals_of e) (refusals_of n) c.purge_expired_files.result purged.failed purged.log.cause (purge_stands c.purge_expired_files.result (durability_of e) (durability_of n) purged.log.progress) (λ gone. (purged.unchanged gone).failed))

pub returns-in-Purge-clause-cause : goal.returns-in-Purge-clause-cause
returns-in-Purge-clause-cause g c =
    let e = c.args.engine.now in
    let n = c.purge_expired_files.new.self in
    let purged = c.purge_expired_files.ensures in
    (purged.log.any_moment.no_fewer, purge_rose (contents_of e) (queue_of n) (rewrite_queue_of n) (HasOpenGroup n) (HasLastId n ⊎ OwesTooMuch e n) (has_failed e) (has_failed n) (folders_of e) (refusals_of e) (refusals_of n) c.purge_expired_files.result purged.failed purged.log.cause)

pub returns-in-Purge-clause-progress : goal.returns-in-Purge-clause-progress
returns-in-Purge-clause-progress g c =
    let e = c.args.engine.now in
    let n = c.purge_expired_files.new.self in
    let purged = c.purge_expired_files.ensures in
    rw c.in-Purge.is (does_purge e n Purge (ToCompact c.purge_expired_files.result) purged.log.progress purged.log.any_moment.throughout purged.unchanged)

-- A write with numbers.

-- its acts make the batch
once_built : (g : Over) (c : After-write_once g) → batch_of_acts c.in-WriteOnce.acts.items ≡ Some c.in-Ok-build.batch.items
once_built g c = ap batch_of_acts (sym c.deref-in-WriteOnce.ensures.value) ∙ c.in-Ok-build.ensures.value

-- what the engine says of it
once_write : (g : Over) (c : After-write_once g) → IsWriteOnce c.in-Ok-build.batch.items c.write_once.new.batch.items c.in-WriteOnce.pairs.items c.in-WriteOnce.sync c.args.engine.now c.write_once.new.self c.write_once.result
once_write g c =
    subst (λ (l : List Pair). IsWriteOnce c.in-Ok-build.batch.items c.write_once.new.batch.items l c.in-WriteOnce.sync c.args.engine.now c.write_once.new.self c.write_once.result) c.deref-in-Ok-build-2.ensures.value c.write_once.ensures

pub returns-in-Ok-build-clause-value : goal.returns-in-Ok-build-clause-value
returns-in-Ok-build-clause-value g c =
    let at = (goal.at.returns-in-Ok-build-clause-value g c).After-write_once in
    rw c.in-WriteOnce.is (λ m known same same_known. once_answered c.args.engine.now c.write_once.new.self c.in-WriteOnce.acts c.in-WriteOnce.pairs c.in-WriteOnce.sync c.in-Ok-build.batch.items c.write_once.new.batch.items (once_built g at) c.write_once.result (once_write g at) m same)

pub returns-in-Ok-build-clause-failed : goal.returns-in-Ok-build-clause-failed
returns-in-Ok-build-clause-failed g c =
    let at = (goal.at.returns-in-Ok-build-clause-failed g c).After-write_once in
    rw c.in-WriteOnce.is (once_fails c.args.engine.now c.write_once.new.self c.in-WriteOnce.acts c.in-WriteOnce.pairs c.in-WriteOnce.sync c.in-Ok-build.batch.items c.write_once.new.batch.items (once_built g at) c.write_once.result (once_write g at))

pub returns-in-Ok-build-clause-cause : goal.returns-in-Ok-build-clause-cause
returns-in-Ok-build-clause-cause g c =
    let at = (goal.at.returns-in-Ok-build-clause-cause g c).After-write_once in
    (c.write_once.ensures.advance.any_moment.no_fewer, once_rose c.args.engine.now c.write_once.new.self c.in-WriteOnce.acts c.in-WriteOnce.pairs c.in-WriteOnce.sync c.in-Ok-build.batch.items c.write_once.new.batch.items (once_built g at) c.write_once.result (once_write g at))

-- what it has done
once_done : (g : Over) (c : After-write_once g) → Does (WriteOnce c.in-WriteOnce.acts c.in-WriteOnce.pairs c.in-WriteOnce.sync) (Size c.write_once.result) c.args.engine.now c.write_once.new.self
once_done g c =
    let numbers : are_numbers c.in-WriteOnce.pairs.items ≡ true = ap are_numbers (sym c.deref-in-Ok-build.ensures.value) ∙ c.numbers_fit.ensures in
    once_does c.args.engine.now c.write_once.new.self c.in-WriteOnce.acts c.in-WriteOnce.pairs c.in-WriteOnce.sync c.in-Ok-build.batch.items c.write_once.new.batch.items (once_built g c) c.write_once.result (once_write g c) numbers

pub returns-in-Ok-build-clause-progress : goal.returns-in-Ok-build-clause-progress
returns-in-Ok-build-clause-progress g c =
    let at = (goal.at.returns-in-Ok-build-clause-progress g c).After-write_once in
    rw c.in-WriteOnce.is (once_done g at)

pub returns-in-Ok-build-clause-contents : goal.returns-in-Ok-build-clause-contents
returns-in-Ok-build-clause-contents g c =
    let at = (goal.at.returns-in-Ok-build-clause-contents g c).After-write_once in
    rw c.in-WriteOnce.is (does_contents c.args.engine.now c.write_once.new.self (WriteOnce c.in-WriteOnce.acts c.in-WriteOnce.pairs c.in-WriteOnce.sync) (Size c.write_once.result) (once_done g at) c.write_once.ensures.advance.only.log.folders c.write_once.ensures.advance.only.log.begun)

pub returns-in-Ok-build-clause-passed : goal.returns-in-Ok-build-clause-passed
returns-in-Ok-build-clause-passed g c = record { files = c.write_once.ensures.advance.only.log.passed; still = c.write_once.ensures.advance.only.log.still }

pub returns-in-Err-build-clause-progress : goal.returns-in-Err-build-clause-progress
returns-in-Err-build-clause-progress g c = let e = c.args.engine.now in rw c.in-WriteOnce.is (does_read e e _ _ (read_same e) refl refl)

pub returns-in-Err-build-clause-passed : goal.returns-in-Err-build-clause-passed
returns-in-Err-build-clause-passed g c = passes_none c.args.engine.now

-- The batches of a group.

-- they are those of its parts
group_built : (g : Over) (c : After-write_group g) → batches_of_parts c.in-WriteGroup.parts.items ≡ Some (items_of c.deref_mut.result.now)
group_built g c =
    ap batches_of_parts (sym c.deref-in-WriteGroup.ensures.value) ∙ c.in-Ok-build_group.ensures.value ∙ ap (λ (l : List BatchView). Some (items_of l)) (sym c.deref_mut.ensures.value)

-- .. and so are the flags
group_flags : (g : Over) (c : After-write_group g) → c.deref-in-Ok-build_group.result.now ≡ map (λ (part : Part). part.1) c.in-WriteGroup.parts.items
group_flags g c =
    c.deref-in-Ok-build_group.ensures.value ∙ c.in-Ok-build_group.ensures.ok ∙ ap (map (λ (part : Part). part.1)) c.deref-in-WriteGroup.ensures.value

pub returns-in-Ok-build_group-clause-value : goal.returns-in-Ok-build_group-clause-value
returns-in-Ok-build_group-clause-value g c =
    let at = (goal.at.returns-in-Ok-build_group-clause-value g c).After-write_group in
    let write = c.write_group.ensures in
    rw c.in-WriteGroup.is (λ m known same same_known. group_answered c.in-WriteGroup.parts c.deref_mut.result.now c.write_group.new.batches c.deref-in-Ok-build_group.result.now c.args.engine.now c.write_group.new.self (group_built g at) (group_flags g at) m same c.write_group.result write.ok write.failed write.cause)

pub returns-in-Ok-build_group-clause-failed : goal.returns-in-Ok-build_group-clause-failed
returns-in-Ok-build_group-clause-failed g c =
    let at = (goal.at.returns-in-Ok-build_group-clause-failed g c).After-write_group in
    let write = c.write_group.ensures in
    rw c.in-WriteGroup.is (group_fails c.in-WriteGroup.parts c.deref_mut.result.now c.write_group.new.batches c.deref-in-Ok-build_group.result.now c.args.engine.now c.write_group.new.self (group_built g at) (group_flags g at) c.write_group.result write.ok write.failed (λ failed. (write.unchanged failed).0.failed) write.cause)

pub returns-in-Ok-build_group-clause-cause : goal.returns-in-Ok-build_group-clause-cause
returns-in-Ok-build_group-clause-cause g c =
    let at = (goal.at.returns-in-Ok-build_group-clause-cause g c).After-write_group in
    let write = c.write_group.ensures in
    group_refuses c.in-WriteGroup.parts c.deref_mut.result.now c.write_group.new.batches c.deref-in-Ok-build_group.result.now c.args.engine.now c.write_group.new.self (group_built g at) (group_flags g at) c.write_group.result write.ok write.cause write.any_moment.no_fewer

-- what it has done
group_done : (g : Over) (c : After-write_group g) → Does (WriteGroup c.in-WriteGroup.parts) (Sizes c.write_group.result) c.args.engine.now c.write_group.new.self
group_done g c =
    let write = c.write_group.ensures in
    does_group c.in-WriteGroup.parts c.deref_mut.result.now c.write_group.new.batches c.deref-in-Ok-build_group.result.now c.args.engine.now c.write_group.new.self (group_built g c) (group_flags g c) c.write_group.result write.ok write.progress write.any_moment.throughout (λ failed. (write.unchanged failed).0.moments)

pub returns-in-Ok-build_group-clause-progress : goal.returns-in-Ok-build_group-clause-progress
returns-in-Ok-build_group-clause-progress g c =
    let at = (goal.at.returns-in-Ok-build_group-clause-progress g c).After-write_group in
    rw c.in-WriteGroup.is (group_done g at)

pub returns-in-Ok-build_group-clause-contents : goal.returns-in-Ok-build_group-clause-contents
returns-in-Ok-build_group-clause-contents g c =
    let at = (goal.at.returns-in-Ok-build_group-clause-contents g c).After-write_group in
    let write = c.write_group.ensures in
    rw c.in-WriteGroup.is (does_contents c.args.engine.now c.write_group.new.self (WriteGroup c.in-WriteGroup.parts) (Sizes c.write_group.result) (group_done g at) write.only.log.folders write.only.log.begun)

pub returns-in-Err-build_group-clause-value : goal.returns-in-Err-build_group-clause-value
returns-in-Err-build_group-clause-value g c =
    let unbuilt = subst (λ (l : List Part). IsUnbuiltGroup l c.in-Err-build_group.fault) c.deref-in-WriteGroup.ensures.value c.in-Err-build_group.ensures.cause in
    rw c.in-WriteGroup.is (λ m known same same_known. unbuilt_answered c.in-WriteGroup.parts.items c.in-Err-build_group.fault unbuilt)

pub returns-in-Err-build_group-clause-failed : goal.returns-in-Err-build_group-clause-failed
returns-in-Err-build_group-clause-failed g c =
    let unbuilt = subst (λ (l : List Part). IsUnbuiltGroup l c.in-Err-build_group.fault) c.deref-in-WriteGroup.ensures.value c.in-Err-build_group.ensures.cause in
    rw c.in-WriteGroup.is (unbuilt_fails c.in-WriteGroup.parts.items (has_failed c.args.engine.now) c.in-Err-build_group.fault unbuilt)

pub returns-in-Err-build_group-clause-progress : goal.returns-in-Err-build_group-clause-progress
returns-in-Err-build_group-clause-progress g c = let e = c.args.engine.now in rw c.in-WriteGroup.is (does_read e e _ _ (read_same e) refl refl)

-- Log files that an opening passed over.

pub returns-in-Ok-clause-passed : goal.returns-in-Ok-clause-passed
returns-in-Ok-clause-passed g c = record { files = c.write.ensures.call.advance.only.log.passed; still = c.write.ensures.call.advance.only.log.still }

pub returns-in-Ok-build_group-clause-passed : goal.returns-in-Ok-build_group-clause-passed
returns-in-Ok-build_group-clause-passed g c = record { files = c.write_group.ensures.only.log.passed; still = c.write_group.ensures.only.log.still }

pub returns-in-Sync-clause-passed : goal.returns-in-Sync-clause-passed
returns-in-Sync-clause-passed g c = record { files = c.sync.ensures.advance.only.log.passed; still = c.sync.ensures.advance.only.log.still }

pub returns-in-CompactTo-clause-passed : goal.returns-in-CompactTo-clause-passed
returns-in-CompactTo-clause-passed g c = record { files = c.compact_to.ensures.advance.only.log.passed; still = c.compact_to.ensures.advance.only.log.still }

pub returns-in-RewriteAppend-clause-passed : goal.returns-in-RewriteAppend-clause-passed
returns-in-RewriteAppend-clause-passed g c =
    let log = c.must_rewrite_append_queue.ensures.log.others in
    record { files = log.passed; still = log.still }

pub returns-in-RewriteRewrite-clause-passed : goal.returns-in-RewriteRewrite-clause-passed
returns-in-RewriteRewrite-clause-passed g c =
    let log = c.must_rewrite_rewrite_queue.ensures.log.others in
    record { files = log.passed; still = log.still }

pub returns-in-PurgeStale-clause-passed : goal.returns-in-PurgeStale-clause-passed
returns-in-PurgeStale-clause-passed g c =
    let log = c.must_purge_all_stale.ensures.log.others in
    record { files = log.passed; still = log.still }

pub returns-in-Purge-clause-passed : goal.returns-in-Purge-clause-passed
returns-in-Purge-clause-passed g c =
    let log = c.purge_expired_files.ensures.log.others in
    record { files = log.passed; still = log.still }

pub returns-in-Entry-clause-passed : goal.returns-in-Entry-clause-passed
returns-in-Entry-clause-passed g c =
    let read = c.get_entry.ensures.unchanged in
    passes_read c.args.engine.now c.get_entry.new.self read.files read.pipes

pub returns-in-Err-clause-passed : goal.returns-in-Err-clause-passed
returns-in-Err-clause-passed g c = passes_none c.args.engine.now

pub returns-in-Err-build_group-clause-passed : goal.returns-in-Err-build_group-clause-passed
returns-in-Err-build_group-clause-passed g c = passes_none c.args.engine.now

pub returns-in-Get-clause-passed : goal.returns-in-Get-clause-passed
returns-in-Get-clause-passed g c = passes_none c.args.engine.now

pub returns-in-First-clause-passed : goal.returns-in-First-clause-passed
returns-in-First-clause-passed g c = passes_none c.args.engine.now

pub returns-in-Last-clause-passed : goal.returns-in-Last-clause-passed
returns-in-Last-clause-passed g c = passes_none c.args.engine.now

pub returns-in-Groups-clause-passed : goal.returns-in-Groups-clause-passed
returns-in-Groups-clause-passed g c = passes_none c.args.engine.now

-- The calls' own clauses.

pub returns-in-Ok-clause-called : goal.returns-in-Ok-clause-called
returns-in-Ok-clause-called g c =
    let write = c.write.ensures in
    let items = c.in-Ok.batch.items in
    let acts = c.in-Write.acts in
    let built : batch_of_acts acts.items ≡ Some items = ap batch_of_acts (sym c.deref.ensures.value) ∙ c.in-Ok.ensures.value in
    rw c.in-Write.is (called_write acts c.in-Write.sync items c.write.new.batch.items c.args.engine.now c.write.new.self c.write.result built
    (record { call = write.call; taken = write.taken; reserved = write.reserved; plain = write.plain }))

pub returns-in-Err-clause-called : goal.returns-in-Err-clause-called
returns-in-Err-clause-called g c =
    let unbuilt = subst (λ (l : List Act). IsUnbuilt l c.in-Err.fault) c.deref.ensures.value c.in-Err.ensures.cause in
    rw c.in-Write.is (unbuilt_write c.in-Write.acts c.in-Write.sync c.in-Err.fault c.args.engine.now unbuilt)

pub returns-in-Ok-build-clause-called : goal.returns-in-Ok-build-clause-called
returns-in-Ok-build-clause-called g c =
    let at = (goal.at.returns-in-Ok-build-clause-called g c).After-write_once in
    rw c.in-WriteOnce.is (called_once c.in-WriteOnce.acts c.in-WriteOnce.pairs c.in-WriteOnce.sync c.in-Ok-build.batch.items c.write_once.new.batch.items c.args.engine.now c.write_once.new.self c.write_once.result (once_built g at) (once_write g at))

pub returns-in-Err-build-clause-called : goal.returns-in-Err-build-clause-called
returns-in-Err-build-clause-called g c =
    let unbuilt = subst (λ (l : List Act). IsUnbuilt l c.in-Err-build.fault) c.deref-in-WriteOnce.ensures.value c.in-Err-build.ensures.cause in
    rw c.in-WriteOnce.is (unbuilt_once c.in-WriteOnce.acts c.in-WriteOnce.pairs c.in-WriteOnce.sync c.in-Err-build.fault c.args.engine.now unbuilt)

pub returns-in-Ok-build_group-clause-called : goal.returns-in-Ok-build_group-clause-called
returns-in-Ok-build_group-clause-called g c =
    let at = (goal.at.returns-in-Ok-build_group-clause-called g c).After-write_group in
    rw c.in-WriteGroup.is (called_group c.in-WriteGroup.parts c.deref_mut.result.now c.write_group.new.batches c.deref-in-Ok-build_group.result.now c.args.engine.now c.write_group.new.self (group_built g at) (group_flags g at) c.write_group.result c.write_group.ensures)

pub returns-in-Err-build_group-clause-called : goal.returns-in-Err-build_group-clause-called
returns-in-Err-build_group-clause-called g c =
    let unbuilt = subst (λ (l : List Part). IsUnbuiltGroup l c.in-Err-build_group.fault) c.deref-in-WriteGroup.ensures.value c.in-Err-build_group.ensures.cause in
    rw c.in-WriteGroup.is (unbuilt_group c.in-WriteGroup.parts c.in-Err-build_group.fault c.args.engine.now unbuilt)

pub returns-in-Sync-clause-called : goal.returns-in-Sync-clause-called
returns-in-Sync-clause-called g c = rw c.in-Sync.is c.sync.ensures

pub returns-in-Get-clause-called : goal.returns-in-Get-clause-called
returns-in-Get-clause-called g c =
    let read = c.get.ensures in
    let key = c.deref-in-Get.ensures.value in
    let bytes : c.deref-in-Get.result.now ≡ c.in-Get.key.items = key in
    rw c.in-Get.is (subst (λ (k : List ℕ). IsGet c.in-Get.group k c.args.engine.now c.args.engine.now c.get.result) bytes
    (record { same = refl; value = read.value; failed = read.failed; cause = read.cause; memory = read.memory }))

pub returns-in-CompactTo-clause-called : goal.returns-in-CompactTo-clause-called
returns-in-CompactTo-clause-called g c = rw c.in-CompactTo.is c.compact_to.ensures

pub returns-in-Entry-clause-called : goal.returns-in-Entry-clause-called
returns-in-Entry-clause-called g c =
    let read = c.get_entry.ensures in
    rw c.in-Entry.is (record { unchanged = read.unchanged; value = read.value; failed = read.failed; cause = read.cause; memory = read.memory })

pub returns-in-First-clause-called : goal.returns-in-First-clause-called
returns-in-First-clause-called g c = rw c.in-First.is (record { same = refl; value = c.first_index.ensures.value })

pub returns-in-Last-clause-called : goal.returns-in-Last-clause-called
returns-in-Last-clause-called g c = rw c.in-Last.is (record { same = refl; value = c.last_index.ensures.value })

pub returns-in-Groups-clause-called : goal.returns-in-Groups-clause-called
returns-in-Groups-clause-called g c =
    let read = c.raft_groups.ensures in
    rw c.in-Groups.is (record { same = refl; value = read.value; failed = read.failed; cause = read.cause })

pub returns-in-RewriteAppend-clause-called : goal.returns-in-RewriteAppend-clause-called
returns-in-RewriteAppend-clause-called g c =
    let purged = c.must_rewrite_append_queue.ensures in
    rw c.in-RewriteAppend.is (record { log = purged.log; files = purged.files; failed = purged.failed; unchanged = purged.unchanged })

pub returns-in-RewriteRewrite-clause-called : goal.returns-in-RewriteRewrite-clause-called
returns-in-RewriteRewrite-clause-called g c =
    let purged = c.must_rewrite_rewrite_queue.ensures in
    rw c.in-RewriteRewrite.is (record { log = purged.log; files = purged.files; failed = purged.failed; unchanged = purged.unchanged })

pub returns-in-PurgeStale-clause-called : goal.returns-in-PurgeStale-clause-called
returns-in-PurgeStale-clause-called g c =
    let purged = c.must_purge_all_stale.ensures in
    rw c.in-PurgeStale.is (record { log = purged.log; files = purged.files; failed = purged.failed; unchanged = purged.unchanged })

pub returns-in-Purge-clause-called : goal.returns-in-Purge-clause-called
returns-in-Purge-clause-called g c =
    let purged = c.purge_expired_files.ensures in
    rw c.in-Purge.is (record { log = purged.log; expired = purged.expired; failed = purged.failed; unchanged = purged.unchanged })
