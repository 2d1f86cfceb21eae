-- The numbers of the files of a queue whose last one stands.
use Rattle.std.proofs.Common.{◌≡◌, ℕ, ◌+◌, true, List, [], ◌∷◌, ◌++◌, length, map, Some, ap, ◌∙◌, arith, length-append}
use Rattle.std.specs.Prelude.{slice_get}
use Rattle.std.proofs.lemmas.List.{map-append}
use Rattle.raft_base.specs.declared.pipe_log.LogQueue.{LogQueue}
use Rattle.raft_env.specs.Directory.{Directory, Path}
use Rattle.raft_pipes.specs.Numbered.{IsRun, has_file, kept_files, paths_of}
use Rattle.raft_pipes.specs.QueueFiles.{HasFilesBefore, QueueFile, if_standing, last_of, places_of}
use Rattle.raft_pipes.proofs.NumberedLemmas.{kept-numbered}
use Rattle.raft_pipes.proofs.QueueFilesLemmas.{last_behind}
use Rattle.raft_pipes.proofs.StepsLemmas.{length-places_of, run_before}

module _ (folders : List Path) (queue : LogQueue) (first : ℕ) (before : List QueueFile) (seq : ℕ) (path : Path) (n : Directory) (files : HasFilesBefore folders queue first before seq path n) (stands : has_file n path ≡ true) where
  -- the files that a recovery keeps
  files_kept : kept_files folders queue n ≡ places_of before ++ (seq, path) ∷ []
  files_kept =
      kept-numbered (paths_of folders queue n) first (places_of before ++ if_standing (has_file n path) seq path) files.numbered
      ∙ ap (λ b. places_of before ++ if_standing b seq path) stands

  first_kept : slice_get (map (λ (f : ℕ × Path). f.0) (places_of before ++ (seq, path) ∷ [])) 0 ≡ Some first
  first_kept = by_files before files.next (run_before folders queue first before seq path n files)
    where
      by_files : (before : List QueueFile) → seq ≡ first + length before → IsRun (paths_of folders queue n) first (places_of before) → slice_get (map (λ (f : ℕ × Path). f.0) (places_of before ++ (seq, path) ∷ [])) 0 ≡ Some first
      by_files [] next run = let at : seq ≡ first = omega (arith, next) in ap (λ k. Some k) at
      by_files (f ∷ before) next run = ap (λ k. Some k) run.0

  last_kept : last_of (map (λ (f : ℕ × Path). f.0) (places_of before ++ (seq, path) ∷ [])) ≡ Some seq
  last_kept = ap last_of (map-append (λ (f : ℕ × Path). f.0) (places_of before) ((seq, path) ∷ [])) ∙ last_behind (map (λ (f : ℕ × Path). f.0) (places_of before)) seq

  pub span_kept : (slice_get (map (λ (f : ℕ × Path). f.0) (kept_files folders queue n)) 0 ≡ Some first) × (last_of (map (λ (f : ℕ × Path). f.0) (kept_files folders queue n)) ≡ Some seq)
  span_kept = (ap (λ (fs : List (ℕ × Path)). slice_get (map (λ f. f.0) fs) 0) files_kept ∙ first_kept, ap (λ (fs : List (ℕ × Path)). last_of (map (λ f. f.0) fs)) files_kept ∙ last_kept)

  pub count_kept : length (kept_files folders queue n) ≡ length before + 1
  count_kept = ap length files_kept ∙ length-append (places_of before) ((seq, path) ∷ []) ∙ ap (λ k. k + 1) (length-places_of before)
