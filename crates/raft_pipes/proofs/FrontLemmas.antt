-- What a pipe's queue keeps where a step keeps its files.
use Rattle.std.proofs.Common.{◌≡◌, ℕ, suc, ◌+◌, ◌≤◌, List, [], ◌∷◌, ◌++◌, length, refl, ap, ◌∙◌, arith, length-append}
use Rattle.raft_records.specs.Item.{Batch}
use Rattle.raft_base.specs.declared.pipe_log.LogQueue.{LogQueue}
use Rattle.raft_env.specs.Directory.{Directory, Path}
use Rattle.raft_pipes.specs.Counts.{QueueCounts}
use Rattle.raft_pipes.specs.PipeState.{PipeState, WritesFiles, files_from, last_seq, sealed_paths}
use Rattle.raft_pipes.specs.QueueFiles.{HasFilesAfter, HasFilesBefore, IsKeptQueue, QueueFile, batches_in, batches_with}
use Rattle.raft_files.proofs.RecordsLogLemmas.{count_of}
use Rattle.raft_pipes.proofs.PipeNamesLemmas.{length-sealed_paths}
use Rattle.raft_pipes.proofs.StepsLemmas.{length-places_of}

pub length-files_from : (seq : ℕ) (paths : List Path) → length (files_from seq paths) ≡ length paths
length-files_from seq [] = refl
length-files_from seq (path ∷ paths) = ap suc (length-files_from (suc seq) paths)

pub files_from-append : (seq last : ℕ) (paths : List Path) (path : Path) → last ≡ seq + length paths → files_from seq (paths ++ path ∷ []) ≡ files_from seq paths ++ (last, path) ∷ []
files_from-append seq last [] path is = ap (λ k. (k, path) ∷ []) (let e : seq ≡ last = omega arith in e)
files_from-append seq last (p ∷ paths) path is = ap (λ fs. (seq, p) ∷ fs) (files_from-append (suc seq) last paths path (omega arith))

-- what keeps files before the last one keeps them behind dropped ones
pub after_steps : (folders : List Path) (queue : LogQueue) (own : ℕ) (dropped : List Batch) (before : List QueueFile) (seq : ℕ) (path : Path) (old new : Directory)
    → ((first : ℕ) (files : List QueueFile) → HasFilesBefore folders queue first files seq path old → HasFilesBefore folders queue first files seq path new)
    → HasFilesAfter folders queue own dropped before seq path old → HasFilesAfter folders queue own dropped before seq path new
after_steps folders queue own dropped before seq path old new step a =
    record { first = a.first; front = a.front; gone = a.gone; files = step a.first (a.front ++ before) a.files; own_is = a.own_is; dropped_is = a.dropped_is }

-- the same of fewer that are known to be synced
pub kept_as : (folders : List Path) (queue : LogQueue) (batches : List Batch) (counts : QueueCounts) (n : Directory) → IsKeptQueue folders queue batches counts n
    → (all : List Batch) (after : QueueCounts) → all ≡ batches → after.dropped ≡ counts.dropped → after.synced ≤ counts.synced → IsKeptQueue folders queue all after n
kept_as folders queue batches counts n k all after are dropped synced = record {
  first = k.first;
  before = k.before;
  last = k.last;
  more = k.more;
  keeps = k.keeps;
  gone = k.gone;
  are = are ∙ k.are;
  few = omega (arith, k.few, dropped);
  dropped = omega (arith, k.dropped, dropped);
  synced = omega (arith, k.synced, synced);
}

-- the number of the last file
pub last_is : (p : PipeState) (batches : List Batch) (counts : QueueCounts) (n : Directory) (w : WritesFiles p batches counts n) → w.last.seq ≡ last_seq p
last_is p batches counts n w =
    omega (arith, w.files.files.next, w.files.own_is, length-append w.files.front w.before, length-places_of w.before, ap length w.sealed_are, length-files_from p.first (sealed_paths p), length-sealed_paths p)

pub written_fewer : (p : PipeState) (batches : List Batch) (counts : QueueCounts) (n : Directory) → WritesFiles p batches counts n → (fewer : ℕ) → fewer ≤ counts.synced → WritesFiles p batches (record counts { synced = fewer }) n
written_fewer p batches counts n w fewer less = record {
  dropped = w.dropped;
  before = w.before;
  last = w.last;
  format = w.format;
  more = w.more;
  files = w.files;
  log = w.log;
  sealed_are = w.sealed_are;
  path_is = w.path_is;
  version_is = w.version_is;
  batches_are = w.batches_are;
  dropped_are = w.dropped_are;
  few = omega (arith, w.few, less);
  alone = w.alone;
}

-- no more are synced than were written
pub written_few : (p : PipeState) (batches : List Batch) (counts : QueueCounts) (n : Directory) → WritesFiles p batches counts n → counts.synced ≤ length batches
written_few p batches counts n w =
    omega (arith, w.few, ap length w.batches_are, length-append w.dropped (batches_with w.before w.last), length-append (batches_in w.before) w.last.batches, w.log.written.keeps.few, count_of w.log.records w.last.batches w.log.holds)
