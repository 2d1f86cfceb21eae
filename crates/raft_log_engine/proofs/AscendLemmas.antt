-- Ids of atomic groups that ascend, after a crash.
use Rattle.std.proofs.Common.{◌≡◌, ◌∙◌, ℕ, false, true, List, ap, drop, refl, subst, sym, take}
use Rattle.std.proofs.Math.Bool.{Bool-set}
use Rattle.std.proofs.Math.Logic.{∥∥₁_elim}
use Rattle.std.proofs.lemmas.List.{take-append-drop}
use Rattle.raft_base.specs.declared.pipe_log.LogQueue.TheVariants.{Rewrite}
use Rattle.raft_env.specs.Directory.{CrashImage, Leaves}
use Rattle.raft_env.specs.declared.env.FileSystem.{Ghosts}
use Rattle.raft_pipes.specs.Counts.{IsLeftOf, QueueCounts}
use Rattle.raft_pipes.proofs.QueueFilesLemmas.{crash_leaves_synced}
use Rattle.raft_queue_laws.proofs.QueueSoundLemmas.{recovered_first}
use Rattle.raft_records.specs.Item.{Batch}
use Rattle.raft_tables.proofs.AscendingLemmas.{ascend_fewer, ascend_first}
use Rattle.raft_crash_laws.specs.Crash.{left_of_queue}
use Rattle.raft_crash_laws.specs.Held.{batches_in, counts_in}
use Rattle.raft_crash_laws.specs.Log.{do_groups_ascend}
use Rattle.raft_crash_laws.specs.Queues.{AreDetectableIn}
use Rattle.raft_crash_laws.proofs.StepsLemmas.{queues_recover}
use Rattle.raft_log_engine.specs.Engine.{directory_of, folders_of, has_failed}
use Rattle.raft_log_engine.specs.declared.engine.Engine.{Engine}

-- what is left of batches that ascend does
pub part_ascends : (batches : List Batch) (counts : QueueCounts) (found : List Batch) → IsLeftOf batches counts found → do_groups_ascend batches ≡ true → do_groups_ascend found ≡ true
part_ascends batches counts found left all =
    let first = take left.count batches in
    let whole = subst (λ (bs : List Batch). do_groups_ascend bs ≡ true) (sym (take-append-drop left.count batches)) all in
    let begins = ascend_first first (drop left.count batches) whole in
    let parts = subst (λ (bs : List Batch). do_groups_ascend bs ≡ true) (sym (take-append-drop left.from first)) begins in
    ap do_groups_ascend left.is ∙ ascend_fewer (take left.from first) (drop left.from first) parts

pub left_ascends : {F H R W : Type 0} {g : Ghosts F H R W} (e : Engine F H R W g) → has_failed e ≡ false → e.log.groups.together ≡ true → (d : CrashImage) → Leaves (directory_of e) d → AreDetectableIn (folders_of e) (directory_of e) d
    → do_groups_ascend (left_of_queue Rewrite (folders_of e) (directory_of e) d) ≡ true
left_ascends e alive together d leaves detectable =
    let n = directory_of e in
    ∥∥₁_elim (e.queues alive) (Bool-set _ _) (λ x.
    let h = x.2 in
    let batches = batches_in h.queues Rewrite in
    let counts = counts_in h.queues Rewrite in
    ∥∥₁_elim (recovered_first (folders_of e) batches counts n (queues_recover e.log.store.pipes (folders_of e) h.queues n h.has Rewrite) d (crash_leaves_synced n d leaves) (detectable Rewrite)) (Bool-set _ _) (λ left.
    part_ascends batches counts (left_of_queue Rewrite (folders_of e) n d) left ((h.more.indexed.groups refl).groups.together together)))
