-- What the calls of an opening keep of a log file.
use Rattle.std.proofs.Common.{◌≡◌, ℕ, [], cond, is_some, ap, ◌∙◌, inl, inr}
use Rattle.raft_base.specs.declared.pipe_log.FileId.{FileId}
use Rattle.raft_env.specs.Directory.{Directory, HasFile, IsOneOf, IsTruncating, Path, after_create, file_at, with_file}
use Rattle.raft_env.specs.Outcomes.{cut_to, synced_file}
use Rattle.raft_env.proofs.DirectoryLemmas.{file_at-placed_same}
use Rattle.raft_files.specs.Scan.{end_of_scan}
use Rattle.raft_files.specs.Writer.{HasChanged, IsOpening, IsSyncing, bytes_at}
use Rattle.raft_files.specs.declared.format.LogFileFormat.{LogFileFormat}
use Rattle.raft_files.proofs.RecordsCrashLemmas.{kept_beside, kept_created, kept_opening, kept_syncing, kept_truncating}
use Rattle.raft_files.proofs.SealedLemmas.{sealed_beside}
use Rattle.raft_files.proofs.CompletedOpeningLemmas.{keeps_completed_created, keeps_completed_opening, keeps_completed_same, keeps_completed_syncing, keeps_completed_truncating}
use Rattle.raft_pipes.specs.Numbered.{has_file}
use Rattle.raft_opening.specs.Open.{KeepsLogFile}
use Rattle.raft_pipes.proofs.PlacesLemmas.{changed_stands, stands_opening}
use Rattle.raft_opening.proofs.ReadableLemmas.{readable_unchanged, readable_created, readable_opening, readable_syncing, readable_then, readable_truncating}
use Rattle.raft_opening.proofs.SealedFileLemmas.{sealed_created, sealed_opening, sealed_syncing, sealed_truncating}

-- A file that stood still stands.

stands_created : (path : Path) (old n : Directory) → IsOneOf old (after_create path old) n → HasFile old path → HasFile n path
stands_created path old n (inl same) stood = ap (λ m. has_file m path) same ∙ stood
stands_created path old n (inr is) stood = ap (λ m. has_file m path) (is ∙ ap (λ b. cond b old (with_file path (synced_file []) old)) stood) ∙ stood

stands_truncating : (path : Path) (size : ℕ) (old n : Directory) → IsTruncating path size old n → HasFile old path → HasFile n path
stands_truncating path size old n (inl same) stood = ap (λ m. has_file m path) same ∙ stood
stands_truncating path size old n (inr (file, after, is_done, stands, outcome, is)) stood = ap (λ m. has_file m path) is ∙ ap is_some (file_at-placed_same path (cut_to size is_done after file) old)

module _ (path : Path) (id : FileId) where
  pub keeps_then : (a b n : Directory) → KeepsLogFile path id a b → KeepsLogFile path id b n → KeepsLogFile path id a n
  keeps_then a b n first second = record {
    stands = λ stood. second.stands (first.stands stood);
    recovers = λ batches synced kept. second.recovers batches synced (first.recovers batches synced kept);
    readable = readable_then path id a b n first.readable second.readable;
    sealed = λ batches kept. second.sealed batches (first.sealed batches kept);
    completed = λ past. let later = second.completed past in let earlier = first.completed later.0 in (earlier.0, λ completed. later.1 (earlier.1 completed));
  }

  pub keeps_beside : (a n : Directory) → file_at n path ≡ file_at a path → KeepsLogFile path id a n
  keeps_beside a n same = record {
    stands = λ stood. ap is_some same ∙ stood;
    recovers = λ batches synced. kept_beside path id batches synced a n same;
    readable = readable_unchanged path id a n same;
    sealed = λ batches kept. sealed_beside path id batches a kept n same;
    completed = keeps_completed_same path id a n same;
  }

  pub keeps_created : (a n : Directory) → IsOneOf a (after_create path a) n → KeepsLogFile path id a n
  keeps_created a n made = record {
    stands = stands_created path a n made;
    recovers = λ batches synced. kept_created path id batches synced a n made;
    readable = readable_created path id a n made;
    sealed = λ batches kept. sealed_created path id batches a n kept made;
    completed = keeps_completed_created path id a n made;
  }

  pub keeps_syncing : (a n : Directory) → HasChanged path IsSyncing a n → KeepsLogFile path id a n
  keeps_syncing a n change = record {
    stands = λ stood. changed_stands path IsSyncing a n change ∙ stood;
    recovers = λ batches synced. kept_syncing path id batches synced a n change;
    readable = readable_syncing path id a n change;
    sealed = λ batches kept. sealed_syncing path id batches a n kept change;
    completed = keeps_completed_syncing path id a n change;
  }

  pub keeps_truncating : (a n : Directory) (size : ℕ) → size ≡ end_of_scan id (bytes_at path a) → IsTruncating path size a n → KeepsLogFile path id a n
  keeps_truncating a n size end change = record {
    stands = stands_truncating path size a n change;
    recovers = λ batches synced. kept_truncating path id batches synced a n size end change;
    readable = readable_truncating path id a n size end change;
    sealed = λ batches kept. sealed_truncating path id batches a n kept size end change;
    completed = keeps_completed_truncating path id a n size end change;
  }

  pub keeps_opening : (a n : Directory) (format : LogFileFormat) → bytes_at path a ≡ [] → IsOpening path format a n → KeepsLogFile path id a n
  keeps_opening a n format empty change = record {
    stands = stands_opening path format a n change;
    recovers = λ batches synced. kept_opening path id batches synced a n format empty change;
    readable = readable_opening path id a n empty;
    sealed = λ batches kept. sealed_opening path id batches a n kept format empty change;
    completed = keeps_completed_opening path id format a n empty change;
  }
