-- Files as they are: what is read of them, and what a restart or a kill leaves of them.
use Rattle.std.proofs.Common.{◌≡◌, ◌∙◌, Bool, ℕ, true, List, [], ◌∷◌, Some, None, refl, sym, ap, subst}
use Rattle.std.specs.List.{AllByRecursion}
use Rattle.std.proofs.Math.Path.{fun_ext}
use Rattle.std.proofs.lemmas.Option.{same_Some}
use Rattle.raft_base.specs.declared.pipe_log.LogQueue.{LogQueue}
use Rattle.raft_base.specs.declared.pipe_log.LogQueue.TheVariants.{Append, Rewrite}
use Rattle.raft_env.specs.Consistent.{AreConsistent}
use Rattle.raft_env.specs.Directory.{Directory, Leaves, Path}
use Rattle.raft_env.specs.Outcomes.{MayLeave}
use Rattle.raft_env.proofs.ConsistentLemmas.{now_may_be_left}
use Rattle.raft_config.specs.Folders.{Folders, all_of}
use Rattle.raft_config.specs.declared.config.RecoveryMode.{RecoveryMode}
use Rattle.raft_config.specs.declared.config.RecoveryMode.TheVariants.{AbsoluteConsistency, TolerateTailCorruption}
use Rattle.raft_files.specs.Detectable.{EndsWithoutCompressed}
use Rattle.raft_files.specs.Records.{as_it_is, bytes_after_crash}
use Rattle.raft_files.specs.Scan.{is_read_to_end}
use Rattle.raft_files.specs.Writer.{bytes_at, bytes_of}
use Rattle.raft_pipes.specs.Files.{EachFile, IsOpenableFile}
use Rattle.raft_pipes.specs.Folder.{AreClear, log_files_of, readable_queue}
use Rattle.raft_pipes.specs.LogFile.{have_places}
use Rattle.raft_pipes.specs.Numbered.{in_queue}
use Rattle.raft_pipes.specs.QueueFiles.{but_last, last_of}
use Rattle.raft_pipes.proofs.FolderQueueLemmas.{left_as_it_is, queue_as_it_is}
use Rattle.raft_opening.proofs.OpenedQueueLemmas.{openable_places}
use Rattle.raft_recovery_laws.specs.Recovered.{recovered}
use Rattle.raft_crash_laws.specs.Contents.{contents_at}
use Rattle.raft_crash_laws.specs.Crash.{contents_after_crash, left_of_queue}
use Rattle.raft_crash_laws.specs.Queues.{AreOpenableIn, AreSingleIn, AreSoundIn}

-- a kill leaves of consistent files what a crash may leave
pub kill_leaves : (n : Directory) → AreConsistent n → Leaves n (as_it_is n)
kill_leaves n consistent = record {
  each = λ path file there. subst (MayLeave file) (sym (ap bytes_of there)) (now_may_be_left file (consistent path file there));
}

-- what can be read of files as they are
pub read_as_it_is : (folders : Folders) (n : Directory) → contents_after_crash folders n (as_it_is n) ≡ contents_at folders n
read_as_it_is folders n =
    ap (λ rewritten. recovered rewritten (left_of_queue Append folders n (as_it_is n))) (queue_as_it_is (all_of folders) Rewrite n)
    ∙ ap (recovered (readable_queue Rewrite folders n)) (queue_as_it_is (all_of folders) Append n)

-- files that can be opened in the mode that tolerates least, but for the absolute one

module _ (queue : LogQueue) (bytes : Path → List ℕ) where
  abbrev Opens : Bool → ℕ × Path → Type 0
  Opens = IsOpenableFile TolerateTailCorruption queue bytes

  read_to_end : (files : List (ℕ × Path)) → EachFile Opens files → AllByRecursion (λ f. is_read_to_end (in_queue queue f.0) (bytes f.1) ≡ true) (but_last files)
  read_to_end [] each = tt
  read_to_end (f ∷ []) each = tt
  read_to_end (f ∷ h ∷ files) each = (each.0.whole refl, read_to_end (h ∷ files) each.1)

  unmarked_end : (files : List (ℕ × Path)) → EachFile Opens files → (f : ℕ × Path) → last_of files ≡ Some f → EndsWithoutCompressed (in_queue queue f.0) (bytes f.1)
  unmarked_end [] each f last = let clash : None ≡ Some f = last in absurd cc
  unmarked_end (h ∷ []) each f last = subst (λ (x : ℕ × Path). EndsWithoutCompressed (in_queue queue x.0) (bytes x.1)) (same_Some h f last) each.0.unmarked
  unmarked_end (h ∷ k ∷ files) each f last = unmarked_end (k ∷ files) each.1 f last

-- are such that a crash which leaves all bytes leaves them so
pub openable_is_sound : (folders : Folders) (n : Directory) → AreClear folders n → AreSingleIn folders n → ((mode : RecoveryMode) → (mode ≡ AbsoluteConsistency → ⊥) → AreOpenableIn mode folders n) → AreSoundIn folders n (as_it_is n)
openable_is_sound folders n clear single openable queue = record {
  clear = clear;
  single = single queue;
  places = ap have_places (queue_as_it_is (all_of folders) queue n) ∙ openable_places queue TolerateTailCorruption folders n (opens queue);
  read = read_to_end queue left (log_files_of queue folders n) each;
  unmarked = unmarked_end queue left (log_files_of queue folders n) each;
}
  where
    left : Path → List ℕ
    left path = bytes_after_crash path n (as_it_is n)

    opens : (queue : LogQueue) → EachFile (IsOpenableFile TolerateTailCorruption queue (λ path. bytes_at path n)) (log_files_of queue folders n)
    opens = openable TolerateTailCorruption (λ clash. absurd (let no : TolerateTailCorruption ≡ AbsoluteConsistency = clash in cc))

    same : (λ (path : Path). bytes_at path n) ≡ left
    same = fun_ext (λ path. sym (left_as_it_is n path))

    each : EachFile (IsOpenableFile TolerateTailCorruption queue left) (log_files_of queue folders n)
    each = subst (λ bytes. EachFile (IsOpenableFile TolerateTailCorruption queue bytes) (log_files_of queue folders n)) same (opens queue)
