-- What a crash leaves of the files that a recovery keeps stays.
use Rattle.std.proofs.Common.{◌≡◌, ℕ, suc, ◌+◌, ◌<◌, ◌≤◌, true, false, List, [], ◌∷◌, ◌++◌, length, map, Option, Some, None, refl, ap, sym, subst, ◌∙◌, inl, inr, arith, is_some, length-append}
use Rattle.std.specs.Prelude.{◌⊎◌, option_map}
use Rattle.std.specs.List.{AllByRecursion}
use Rattle.std.proofs.lemmas.List.{append-nil, length-map}
use Rattle.std.proofs.lemmas.Grind.{flat_map-append}
use Rattle.std.proofs.lemmas.Bool.Decides.{leb_tells}
use Rattle.raft_records.specs.Item.{Batch}
use Rattle.raft_base.specs.declared.pipe_log.FileId.{FileId}
use Rattle.raft_base.specs.declared.pipe_log.LogQueue.{LogQueue}
use Rattle.raft_env.specs.Outcomes.{File, synced_file}
use Rattle.raft_env.specs.Directory.{CrashImage, Directory, IsRestarted, Path, file_at}
use Rattle.raft_files.specs.Scan.{is_read_to_end, readable_batches}
use Rattle.raft_files.specs.Records.{image_of_file, bytes_after_crash, batches_after_crash}
use Rattle.raft_files.proofs.RecordsCrashLemmas.{kept_none, kept_restarted}
use Rattle.raft_files.specs.Sealed.{IsSealed}
use Rattle.raft_pipes.specs.Counts.{synced_to}
use Rattle.raft_pipes.specs.Numbered.{AreApart, AreNumbered, AreSingle, IsPathOf, IsRun, end_of_numbers, has_file, in_queue, kept_files, path_of, paths_of}
use Rattle.raft_pipes.specs.QueueFiles.{AreReadToEnd, IsKeptQueue, KeepsFiles, QueueFile, batches_in, but_last, if_standing, places_of, queue_after_crash}
use Rattle.raft_pipes.proofs.FolderQueueLemmas.{restarted_stands}
use Rattle.raft_pipes.proofs.NumberedLemmas.{numbered_same, run_at, run_back, run_front}
use Rattle.raft_pipes.proofs.PlacesLemmas.{found_is_path, found_stands, here_first, none_stands, paths_of-same}
use Rattle.raft_opening.proofs.SingleLemmas.{single_numbered}
use Rattle.raft_pipes.proofs.QueueAppendLemmas.{files_kept}
use Rattle.raft_pipes.proofs.QueueFilesLemmas.{left_in, no_file}

-- a list is empty or has a last element
data Ends {A : Type 0} : List A → Type 0 where
  nothing : Ends []
  behind : (front : List A) (last : A) → Ends (front ++ last ∷ [])

ends : {A : Type 0} (xs : List A) → Ends xs
ends [] = nothing
ends (x ∷ xs) = elim (ends xs) as (λ xs e. Ends (x ∷ xs)) [ nothing ↦ behind [] x | behind front last ↦ behind (x ∷ front) last ]

but_last-behind : {A : Type 0} (front : List A) (last : A) → but_last (front ++ last ∷ []) ≡ front
but_last-behind [] last = refl
but_last-behind (x ∷ []) last = refl
but_last-behind (x ∷ y ∷ front) last = ap (λ xs. x ∷ xs) (but_last-behind (y ∷ front) last)

module _ (queue : LogQueue) (n : Directory) (d : CrashImage) where
  files_of : List (ℕ × Path) → List QueueFile
  files_of files = map (λ f. record { seq = f.0; path = f.1; batches = batches_after_crash f.1 (in_queue queue f.0) n d }) files

  places_of-files_of : (files : List (ℕ × Path)) → places_of (files_of files) ≡ files
  unfolding files_of
  places_of-files_of [] = refl
  places_of-files_of (f ∷ files) = ap (λ fs. f ∷ fs) (places_of-files_of files)

  batches_in-files_of : (files : List (ℕ × Path)) → batches_in (files_of files) ≡ left_in queue n d files
  unfolding files_of
  batches_in-files_of [] = refl
  batches_in-files_of (f ∷ files) = ap (λ bs. batches_after_crash f.1 (in_queue queue f.0) n d ++ bs) (batches_in-files_of files)

module _ (folders : List Path) (queue : LogQueue) (n m : Directory) (d : CrashImage) (restarted : IsRestarted n d m) where
  -- a file that is left and read to its end is sealed
  sealed_left : (path : Path) (id : FileId) → has_file n path ≡ true → is_read_to_end id (bytes_after_crash path n d) ≡ true → IsSealed path id (batches_after_crash path id n d) m
  sealed_left path id stands read = by_file (file_at n path) refl stands read
    where
      by_file : (found : Option File) → file_at n path ≡ found → is_some found ≡ true → is_read_to_end id (image_of_file found (d path)) ≡ true → IsSealed path id (batches_after_crash path id n d) m
      by_file None e stands read = let no : false ≡ true = stands in absurd cc
      by_file (Some file) e stands read = record {
        file = synced_file (d path);
        stands = restarted.each path ∙ ap (λ found. option_map (λ _. synced_file (d path)) found) e;
        latest = refl;
        still = tt;
        read = read;
        holds = sym (ap (λ found. read_of found) e);
      }
        where
          read_of : Option File → List Batch
          read_of found = readable_batches id (image_of_file found (d path))

  all_sealed : (seq : ℕ) (files : List (ℕ × Path)) → IsRun (paths_of folders queue n) seq files → AllByRecursion (λ (f : ℕ × Path). is_read_to_end (in_queue queue f.0) (bytes_after_crash f.1 n d) ≡ true) files
      → AllByRecursion (λ v. IsSealed v.path (in_queue queue v.seq) v.batches m) (files_of queue n d files)
  unfolding files_of
  all_sealed seq [] run read = tt
  all_sealed seq (f ∷ files) run read =
      (sealed_left f.1 (in_queue queue f.0) (found_stands folders queue n seq f.1 [] run.1) read.0, all_sealed (suc seq) files run.2 read.1)

  -- with a last file
  with_last : AreApart folders → (first : ℕ) (front : List (ℕ × Path)) (last : ℕ × Path) → AreNumbered (paths_of folders queue n) first (front ++ last ∷ [])
      → AllByRecursion (λ (f : ℕ × Path). is_read_to_end (in_queue queue f.0) (bytes_after_crash f.1 n d) ≡ true) front
      → let found = left_in queue n d (front ++ last ∷ []) in IsKeptQueue folders queue found (synced_to (length found)) m
  with_last are first front last numbered read = record {
    first = first;
    before = files_of queue n d front;
    last = file;
    more = length file.batches;
    keeps = record {
      files = record {
        apart = are;
        numbered = subst (λ b. AreNumbered (paths_of folders queue m) first (places_of (files_of queue n d front) ++ if_standing b last.0 last.1)) (sym (restarted_stands n m d restarted last.1 ∙ stands))
            (subst (λ fs. AreNumbered (paths_of folders queue m) first (fs ++ last ∷ [])) (sym (places_of-files_of queue n d front)) (numbered_same (paths_of folders queue n) (paths_of folders queue m) first (front ++ last ∷ []) (λ k within. paths_of-same folders queue n m (restarted_stands n m d restarted) k) numbered));
        next = at ∙ ap (λ k. first + k) (sym long);
        fits = omega (arith, at, numbered.fits, length-append front (last ∷ []));
        path_is = found_is_path folders queue n last.0 last.1 [] here;
        sealed = all_sealed first front (run_front (paths_of folders queue n) first front (last ∷ []) numbered.run) read;
      };
      end = kept_restarted last.1 (in_queue queue last.0) n m d restarted;
    };
    gone = [];
    are = all;
    few = omega arith;
    dropped = omega arith;
    synced = omega (arith, ap length all, length-append (batches_in (files_of queue n d front)) file.batches);
  }
    where
      file : QueueFile
      file = record { seq = last.0; path = last.1; batches = batches_after_crash last.1 (in_queue queue last.0) n d }

      at : last.0 ≡ first + length front
      at = run_at (paths_of folders queue n) first front last [] numbered.run

      long : length (files_of queue n d front) ≡ length front
      long = sym (length-map (files_of queue n d front) (λ (v : QueueFile). (v.seq, v.path))) ∙ ap length (places_of-files_of queue n d front)

      here : paths_of folders queue n last.0 ≡ last.1 ∷ []
      here = ap (paths_of folders queue n) at ∙ (run_back (paths_of folders queue n) first front (last ∷ []) numbered.run).1

      stands : has_file n last.1 ≡ true
      stands = found_stands folders queue n last.0 last.1 [] here

      all : left_in queue n d (front ++ last ∷ []) ≡ batches_in (files_of queue n d front) ++ file.batches
      all = flat_map-append (λ (f : ℕ × Path). batches_after_crash f.1 (in_queue queue f.0) n d) front (last ∷ []) ∙ ap (λ bs. bs ++ left_in queue n d (last ∷ [])) (sym (batches_in-files_of queue n d front)) ∙ ap (λ bs. batches_in (files_of queue n d front) ++ bs) (append-nil file.batches)

-- where no file of a queue stands its first file is kept with nothing
pub keeps_none : (folders : List Path) (queue : LogQueue) → AreApart folders → (first : ℕ) (path : Path) (n : Directory) → first < end_of_numbers → IsPathOf folders queue first path → ((k : ℕ) → k < end_of_numbers → paths_of folders queue n k ≡ [])
    → KeepsFiles folders queue first [] (record { seq = first; path = path; batches = [] }) 0 n
keeps_none folders queue are first path n fits is_path none =
    let gone : has_file n path ≡ false = none_stands folders queue n first path (none first fits) is_path in
    record {
      files = record {
        apart = are;
        numbered = subst (λ b. AreNumbered (paths_of folders queue n) first (if_standing b first path)) (sym gone) (record { run = tt; hole = λ k e. none k (omega arith); above = λ k low high. none k high; none = λ e k low. none k (omega arith); fits = omega arith });
        next = omega arith;
        fits = fits;
        path_is = is_path;
        sealed = tt;
      };
      end = kept_none path (in_queue queue first) [] n (no_file n path gone);
    }

pub one_fits : 1 < end_of_numbers
unfolding end_of_numbers
one_fits = omega arith

nat_le_or : (a b : ℕ) → (a ≤ b) ⊎ (b < a)
nat_le_or a b = elim (leb_tells a b) [ inl low ↦ inl low.1 | inr high ↦ inr (omega (arith, high.1)) ]

-- after a crash all that is found stays, where each kept file but the last is read to its end
pub queue_restarted : (folder : Path) (folders : List Path) (queue : LogQueue) → AreApart (folder ∷ folders) → (n m : Directory) (d : CrashImage) → AreSingle (folder ∷ folders) queue n → IsRestarted n d m
    → AreReadToEnd (folder ∷ folders) queue n d → let found = queue_after_crash (folder ∷ folders) queue n d in IsKeptQueue (folder ∷ folders) queue found (synced_to (length found)) m
queue_restarted folder folders queue are n m d single restarted read = by_end (kept_files all queue n) (ends (kept_files all queue n)) numbered.1 read
  where
    all : List Path
    all = folder ∷ folders

    IsRead : ℕ × Path → Type 0
    IsRead f = is_read_to_end (in_queue queue f.0) (bytes_after_crash f.1 n d) ≡ true

    numbered : (first : ℕ) × AreNumbered (paths_of all queue n) first (kept_files all queue n)
    numbered = single_numbered all queue n single

    by_end : (files : List (ℕ × Path)) → Ends files → AreNumbered (paths_of all queue n) numbered.0 files → AllByRecursion IsRead (but_last files) → let found = left_in queue n d files in IsKeptQueue all queue found (synced_to (length found)) m
    by_end files end = elim end as (λ files end. AreNumbered (paths_of all queue n) numbered.0 files → AllByRecursion IsRead (but_last files) → let found = left_in queue n d files in IsKeptQueue all queue found (synced_to (length found)) m) [
      | nothing ↦ λ are_numbered read.
          let none_stand : (k : ℕ) → k < end_of_numbers → paths_of all queue n k ≡ [] = λ k within. elim (nat_le_or numbered.0 k) [
            | inl low ↦ are_numbered.above k (omega (arith, low)) within
            | inr high ↦ are_numbered.none refl k high
          ] in
          files_kept all queue 1 [] (record { seq = 1; path = path_of folder (in_queue queue 1); batches = [] }) 0 m
          (keeps_none all queue are 1 (path_of folder (in_queue queue 1)) m one_fits (folder, here_first folder folders, refl) (λ k within. paths_of-same all queue n m (restarted_stands n m d restarted) k ∙ none_stand k within))
      | behind front last ↦ λ are_numbered read.
          with_last all queue n m d restarted are numbered.0 front last are_numbered (subst (AllByRecursion IsRead) (but_last-behind front last) read)
    ]
