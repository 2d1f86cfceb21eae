-- Queues of which the damage of a crash can be told.
use Rattle.std.proofs.Common.{◌≡◌, ℕ, List, Some, sym, subst, ◌∙◌}
use Rattle.std.proofs.Math.Logic.{∥∥₁_elim, ∥∥₁_map, ∥∥₁_prop}
use Rattle.raft_records.specs.Item.{Batch}
use Rattle.raft_base.specs.declared.pipe_log.LogQueue.{LogQueue}
use Rattle.raft_env.specs.Consistent.{AreConsistent}
use Rattle.raft_env.specs.Directory.{CrashImage, Directory, Leaves, Path, file_at}
use Rattle.raft_env.specs.Outcomes.{File}
use Rattle.raft_memory.specs.Choice.{AreWhole, left_by}
use Rattle.raft_memory.specs.declared.crash.Choice.{Choice}
use Rattle.raft_files.specs.Detectable.{IsDetectable}
use Rattle.raft_files.proofs.ScanExtentLemmas.{same_some}
use Rattle.raft_pipes.specs.Completed.{CompletedLog, HasSimplePastOf, PipeHasCompletedLogIfSimple}
use Rattle.raft_pipes.specs.Counts.{QueueCounts}
use Rattle.raft_config.specs.Folders.{Folders, all_of}
use Rattle.raft_pipes.specs.Counts.{QueueCounts}
use Rattle.raft_pipes.specs.Numbered.{in_queue}
use Rattle.raft_pipes.specs.Pipe.{HasQueueOf}
use Rattle.raft_pipes.specs.PipeState.{PipeState, WritesFiles, last_file, last_seq}
use Rattle.raft_pipes.specs.QueueFiles.{IsDetectableQueue, last_kept}
use Rattle.raft_pipes.proofs.QueueLemmas.{last_kept-written}
use Rattle.raft_queue_laws.specs.DetectableDamage.{HasNoStaleRecord, HasNoStaleRecordOf, IsTornAsRead, IsTornAsReadOf}
use Rattle.raft_queue_laws.proofs.PremiseLemmas.{log_torn, log_whole}

module _ (which : LogQueue) (p : PipeState) (folders : Folders) (batches : List Batch) (counts : QueueCounts) (n : Directory) (queue : HasQueueOf which p folders batches counts n) where
  -- the pipe's last file is the folders' last one
  last_kept-queue : WritesFiles p batches counts n → last_kept (all_of folders) which n ≡ Some (last_seq p, p.writer.path)
  last_kept-queue writes =
      subst (λ f. last_kept (all_of f) which n ≡ Some (last_seq p, p.writer.path)) queue.folders_are
      (subst (λ k. last_kept (all_of p.folders) k n ≡ Some (last_seq p, p.writer.path)) queue.queue_is (last_kept-written p batches counts n writes))

  module _ (none : HasNoStaleRecordOf which folders n) where
    no_stale : last_kept (all_of folders) which n ≡ Some (last_seq p, p.writer.path) → (file : File) → file_at n p.writer.path ≡ Some file → HasNoStaleRecord (last_file p) file
    no_stale last file stands = subst (λ k. HasNoStaleRecord (in_queue k (last_seq p)) file) (sym queue.queue_is) (none (last_seq p, p.writer.path) file last stands)

    module _ (completed : PipeHasCompletedLogIfSimple p n) (past : HasSimplePastOf which folders n) (consistent : AreConsistent n) where
      -- the damage of the last file can be told, so that of the queue
      by_log : (left : CrashImage) → (last_kept (all_of folders) which n ≡ Some (last_seq p, p.writer.path) → CompletedLog (last_file p) p.writer p.version n → IsDetectable p.writer.path (last_file p) n left) → ∥ IsDetectableQueue (all_of folders) which n left ∥₁
      by_log left told = ∥∥₁_elim queue.files ∥∥₁_prop (λ writes.
          let last = last_kept-queue writes in
          ∥∥₁_map (completed (past (last_seq p, p.writer.path) last)) (λ d f is.
          subst (λ (g : ℕ × Path). IsDetectable g.1 (in_queue which g.0) n left) (same_some (sym last ∙ is))
          (subst (λ k. IsDetectable p.writer.path (in_queue k (last_seq p)) n left) queue.queue_is (told last d))))

      pub queue_whole : (choices : List Choice) → AreWhole choices → ∥ IsDetectableQueue (all_of folders) which n (left_by choices n) ∥₁
      queue_whole choices whole = by_log (left_by choices n) (λ last d. log_whole p.writer.path (last_file p) d.format d.batches d.synced p.writer.written n d.log (no_stale last d.log.held.file d.log.held.stands) consistent choices whole)

      pub queue_torn : (d : CrashImage) → Leaves n d → IsTornAsReadOf which folders n d → ∥ IsDetectableQueue (all_of folders) which n d ∥₁
      queue_torn left leaves torn = by_log left (λ last d.
          let file = d.log.held.file in
          let here : IsTornAsRead (last_file p) file (left p.writer.path) = subst (λ k. IsTornAsRead (in_queue k (last_seq p)) file (left p.writer.path)) (sym queue.queue_is) (torn (last_seq p, p.writer.path) file last d.log.held.stands) in
          log_torn p.writer.path (last_file p) d.format d.batches d.synced p.writer.written n d.log (no_stale last file d.log.held.stands) consistent left leaves here)
