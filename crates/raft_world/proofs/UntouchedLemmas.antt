-- Files of which only reserved ones differ hold the same log.
use Rattle.std.proofs.Common.{◌≡◌, ◌∙◌, ◌++◌, ◌<◌, ℕ, List, [], ◌∷◌, refl, sym, ap, subst}
use Rattle.std.specs.List.{AllByRecursion}
use Rattle.std.proofs.Math.Logic.{∥∥₁_map}
use Rattle.raft_base.specs.declared.pipe_log.LogQueue.{LogQueue}
use Rattle.raft_base.specs.declared.pipe_log.LogQueue.TheVariants.{Append, Rewrite}
use Rattle.raft_records.specs.Contents.{Contents}
use Rattle.raft_records.specs.Item.{Batch}
use Rattle.raft_env.specs.Directory.{Directory, Path, file_at}
use Rattle.raft_config.specs.Folders.{Folders, all_of}
use Rattle.raft_config.specs.Recovery.{tolerates_corruption}
use Rattle.raft_config.specs.declared.config.RecoveryMode.{RecoveryMode}
use Rattle.raft_files.specs.Scan.{readable_batches}
use Rattle.raft_files.specs.Writer.{bytes_at, bytes_of}
use Rattle.raft_pipes.specs.Counts.{QueueCounts}
use Rattle.raft_pipes.specs.Files.{EachFile, IsOpenableFile, is_last}
use Rattle.raft_pipes.specs.Folder.{LeavesOtherQueue, log_files_of, readable_of, readable_queue}
use Rattle.raft_pipes.specs.LogFile.{IsOpenableLog}
use Rattle.raft_pipes.specs.Numbered.{IsPathOf, end_of_numbers, in_queue, path_of}
use Rattle.raft_pipes.specs.Queue.{RecoversPrefixOf}
use Rattle.raft_pipes.proofs.FolderLemmas.{named_log}
use Rattle.raft_pipes.proofs.PlacesLemmas.{paths_of-beside}
use Rattle.raft_opening.proofs.KeptLemmas.{IsKept, kept_all, kept_files-beside}
use Rattle.raft_recovery_laws.specs.Recovered.{recovered}
use Rattle.raft_crash_laws.specs.Contents.{contents_at}
use Rattle.raft_crash_laws.specs.Crash.{RecoversContents}
use Rattle.raft_crash_laws.specs.Queues.{AreOpenableIn}
use Rattle.raft_world.specs.Happens.{LeavesLog}
use Rattle.raft_world.proofs.Below.{BesideLaw}

module _ (folders : Folders) (old n : Directory) (same : LeavesLog folders old n) where
  file_stays : (queue : LogQueue) (seq : ℕ) (path : Path) → seq < end_of_numbers → IsPathOf (all_of folders) queue seq path → file_at n path ≡ file_at old path
  file_stays queue seq path fits is_path = same.logs path (named_log folders queue seq path fits is_path)

  -- What is read.

  kept_stay : (queue : LogQueue) → log_files_of queue folders n ≡ log_files_of queue folders old
  kept_stay queue = kept_files-beside (all_of folders) queue old n (λ seq fits. paths_of-beside (all_of folders) queue old n seq (λ path is_path. file_stays queue seq path fits is_path))

  bytes_stay : (queue : LogQueue) (f : ℕ × Path) → IsKept queue old (all_of folders) f → bytes_at f.1 n ≡ bytes_at f.1 old
  bytes_stay queue f kept = ap bytes_of (file_stays queue f.0 f.1 kept.0 kept.1.0)

  batches_stay : (queue : LogQueue) (files : List (ℕ × Path)) → AllByRecursion (IsKept queue old (all_of folders)) files → readable_of queue n files ≡ readable_of queue old files
  batches_stay queue [] kept = refl
  batches_stay queue (f ∷ files) kept =
      ap (λ bytes. readable_batches (in_queue queue f.0) bytes ++ readable_of queue n files) (bytes_stay queue f kept.0)
      ∙ ap (λ rest. readable_batches (in_queue queue f.0) (bytes_at f.1 old) ++ rest) (batches_stay queue files kept.1)

  pub readable_stays : (queue : LogQueue) → readable_queue queue folders n ≡ readable_queue queue folders old
  readable_stays queue = ap (readable_of queue n) (kept_stay queue) ∙ batches_stay queue (log_files_of queue folders old) (kept_all queue old (all_of folders))

  pub contents_stay : contents_at folders n ≡ contents_at folders old
  contents_stay =
      ap (λ rewritten. recovered rewritten (readable_queue Append folders n)) (readable_stays Rewrite)
      ∙ ap (recovered (readable_queue Rewrite folders old)) (readable_stays Append)

  -- How it is opened.

  files_open : (queue : LogQueue) (mode : RecoveryMode) (files : List (ℕ × Path)) → AllByRecursion (IsKept queue old (all_of folders)) files → EachFile (IsOpenableFile mode queue (λ path. bytes_at path old)) files → EachFile (IsOpenableFile mode queue (λ path. bytes_at path n)) files
  files_open queue mode [] kept each = tt
  files_open queue mode (f ∷ files) kept each = (
    subst (IsOpenableLog (in_queue queue f.0) (tolerates_corruption mode (is_last files))) (sym (bytes_stay queue f kept.0)) each.0,
    files_open queue mode files kept.1 each.1,
  )

  pub still_openable : (mode : RecoveryMode) → AreOpenableIn mode folders old → AreOpenableIn mode folders n
  still_openable mode openable queue =
      subst (EachFile (IsOpenableFile mode queue (λ path. bytes_at path n))) (sym (kept_stay queue))
      (files_open queue mode (log_files_of queue folders old) (kept_all queue old (all_of folders)) (openable queue))

  -- What a crash leaves.

  queue_stays : (changed : LogQueue) → LeavesOtherQueue changed folders old n
  queue_stays changed folder among id fits other = same.logs (path_of folder id) (folder, among, (id, fits, refl))

  one_recovers : BesideLaw → (queue : LogQueue) (batches : List Batch) (counts : QueueCounts) → RecoversPrefixOf queue folders batches counts old → RecoversPrefixOf queue folders batches counts n
  one_recovers beside Append = beside Rewrite Append (λ e. absurd (let clash : Append ≡ Rewrite = e in cc)) folders old n same.others (queue_stays Rewrite)
  one_recovers beside Rewrite = beside Append Rewrite (λ e. absurd (let clash : Rewrite ≡ Append = e in cc)) folders old n same.others (queue_stays Append)

  pub still_recovers : BesideLaw → (m : Contents) (batches : List Batch) → RecoversContents folders m batches old → RecoversContents folders m batches n
  still_recovers beside m batches recovers = ∥∥₁_map recovers (λ (count, few, keeps). (
    count,
    few,
    record {
      queues = keeps.queues;
      stands = keeps.stands;
      since_are = keeps.since_are;
      recovers = λ queue. one_recovers beside queue _ _ (keeps.recovers queue);
    },
  ))
