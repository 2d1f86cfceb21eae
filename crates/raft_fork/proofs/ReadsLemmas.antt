-- What can be read of a fork.
use Rattle.std.proofs.Common.{◌≡◌, ◌⊎◌, ◌∙◌, ℕ, zero, suc, ◌+◌, ◌<◌, ◌≤◌, List, [], ◌∷◌, ◌++◌, length, map, None, is_some, IsSome, refl, ap, sym, subst, inl, inr, arith, Bool, true, false, cond}
use Rattle.std.specs.Prelude.{Contains}
use Rattle.std.specs.List.{filter}
use Rattle.std.proofs.lemmas.List.{map-append, length-map}
use Rattle.std.proofs.lemmas.List.Elements.{Contains-append_cases}
use Rattle.raft_base.specs.declared.pipe_log.LogQueue.{LogQueue}
use Rattle.raft_base.specs.declared.pipe_log.LogQueue.TheVariants.{Append, Rewrite}
use Rattle.raft_env.specs.Directory.{Directory, Path, file_at}
use Rattle.raft_files.specs.Scan.{readable_batches}
use Rattle.raft_files.specs.Writer.{bytes_at, bytes_of}
use Rattle.raft_config.specs.Folders.{Folders, all_of}
use Rattle.raft_recovery_laws.specs.Recovered.{recovered}
use Rattle.raft_crash_laws.specs.Contents.{contents_at, known_at, recovered_groups}
use Rattle.raft_pipes.specs.Files.{IsDurable}
use Rattle.raft_pipes.specs.Folder.{AreClear, readable_of, readable_queue}
use Rattle.raft_pipes.specs.Numbered.{AreNumbered, AreSingle, IsRun, StandAlone, end_of_numbers, found_or, has_file, in_queue, joined, kept_files, last_run, path_of, paths_of, run_below}
use Rattle.raft_pipes.proofs.FolderLemmas.{folder_apart}
use Rattle.raft_pipes.proofs.NamesInLemmas.{has_cases, has_later}
use Rattle.raft_pipes.proofs.NumberedLemmas.{kept-numbered, last_run-suc, last_run-zero, run_below-suc, run_below-zero}
use Rattle.raft_pipes.proofs.PlacesLemmas.{here_first}
use Rattle.raft_pipes.proofs.QueueFilesLemmas.{all_back, all_front}
use Rattle.raft_opening.proofs.SingleLemmas.{run_alone, single_numbered}
use Rattle.raft_pipes.proofs.TakenLemmas.{one_free}
use Rattle.raft_fork.specs.Fork.{AreCopied, AreThereOrEmpty, IsForkOf, IsThereOrEmpty, Source, copies_in, copy_in, sources_in, sources_of, standing}
use Rattle.raft_fork.proofs.PlacesLemmas.{IsBeside, append_not_rewrite, none_beside, numbered, rewrite_not_append}

-- a copy has the path of a log file
copy_named : (target : Path) (files : List Source) (q : Path) → Contains (copies_in target files) q → (f : Source) × (q ≡ copy_in target f)
copy_named target [] q among = absurd (omega (arith, among.1))
copy_named target (f ∷ files) q among = elim (has_cases (copy_in target f) q (copies_in target files) among) [
  | inl is ↦ (f, sym is)
  | inr more ↦ copy_named target files q more
]

pub fork_clear : (source : Folders) (target : Path) (n m : Directory) → IsForkOf source target n m → AreClear (record { main = target; spill = None }) m
fork_clear source target n m fork =
    let same : file_at m target ≡ file_at n target = fork.others target (λ among. (let at = copy_named target (sources_of source n) target among in folder_apart target at.0.0 at.1)) in
    one_free (record { main = target; spill = None }) m refl (λ stands. fork.free.folder (subst (λ o. IsSome o) same stands))

-- Folders that aren't there.

-- where the same numbers have files, the same files are kept
module _ (here there : ℕ → List Path) where
  run_alike : (top : ℕ) → ((k : ℕ) → k < top → there k ≡ here k) → run_below there top ≡ run_below here top
  run_alike zero same = run_below-zero there ∙ sym (run_below-zero here)
  run_alike (suc top) same =
      run_below-suc there top ∙ ap (λ found. joined top found (run_below there top)) (same top (omega arith))
      ∙ ap (joined top (here top)) (run_alike top (λ k low. same k (omega arith))) ∙ sym (run_below-suc here top)

  last_alike : (top : ℕ) → ((k : ℕ) → k < top → there k ≡ here k) → last_run there top ≡ last_run here top
  last_alike zero same = last_run-zero there ∙ sym (last_run-zero here)
  last_alike (suc top) same =
      last_run-suc there top ∙ ap (λ files. found_or files (last_run there top)) (run_alike (suc top) same)
      ∙ ap (found_or (run_below here (suc top))) (last_alike top (λ k low. same k (omega arith))) ∙ sym (last_run-suc here top)

-- no path is lost with the folders that aren't there
module _ (queue : LogQueue) (n : Directory) (k : ℕ) (short : k < end_of_numbers) where
  none_away : (f : Path) → n.is_folder f ≡ false → IsThereOrEmpty f n → has_file n (path_of f (in_queue queue k)) ≡ false
  none_away f away (inl there) = absurd (let clash : true ≡ false = sym there ∙ away in cc)
  none_away f away (inr none) = ap is_some (none (path_of f (in_queue queue k)) (in_queue queue k, short, refl))

  paths_there : (folders : List Path) → ((folder : Path) → Contains folders folder → IsThereOrEmpty folder n) → paths_of (filter n.is_folder folders) queue n k ≡ paths_of folders queue n k
  paths_there [] stand = refl
  paths_there (f ∷ folders) stand = by_test (n.is_folder f) refl (paths_there folders (λ g among. stand g (has_later f g folders among)))
    where
      by_test : (b : Bool) → n.is_folder f ≡ b → paths_of (filter n.is_folder folders) queue n k ≡ paths_of folders queue n k
          → paths_of (cond b (f ∷ filter n.is_folder folders) (filter n.is_folder folders)) queue n k ≡ paths_of (f ∷ folders) queue n k
      by_test true there rest = ap (λ (r : List Path). cond (has_file n (path_of f (in_queue queue k))) (path_of f (in_queue queue k) ∷ r) r) rest
      by_test false away rest = rest ∙ sym (ap (λ (h : Bool). cond h (path_of f (in_queue queue k) ∷ paths_of folders queue n k) (paths_of folders queue n k)) (none_away f away (stand f (here_first f folders))))

-- Copies.

abbrev to_copy : Path → LogQueue → ℕ × Path → ℕ × Path
to_copy target queue f = (f.0, path_of target (in_queue queue f.0))

module _ (target : Path) (queue : LogQueue) (n m : Directory) where
  one_there : (k : ℕ) → has_file m (path_of target (in_queue queue k)) ≡ true → paths_of (target ∷ []) queue m k ≡ path_of target (in_queue queue k) ∷ []
  one_there k is = rw is refl

  none_there : (k : ℕ) → has_file m (path_of target (in_queue queue k)) ≡ false → paths_of (target ∷ []) queue m k ≡ []
  none_there k is = rw is refl

  run_copied : (here : ℕ → List Path) (next : ℕ) (files : List (ℕ × Path)) → IsRun here next files → AreCopied target (map (numbered queue) files) n m → IsRun (paths_of (target ∷ []) queue m) next (map (to_copy target queue) files)
  run_copied here next [] run copied = tt
  run_copied here next (f ∷ files) run copied = (
    run.0,
    subst (λ k. paths_of (target ∷ []) queue m k ≡ path_of target (in_queue queue f.0) ∷ []) run.0 (one_there f.0 (ap is_some copied.0.stands)),
    run_copied here (suc next) files run.2 copied.1,
  )

  reads_copied : (files : List (ℕ × Path)) → AreCopied target (map (numbered queue) files) n m → readable_of queue m (map (to_copy target queue) files) ≡ readable_of queue n files
  reads_copied [] copied = refl
  reads_copied (f ∷ files) copied =
      let bytes : bytes_at (path_of target (in_queue queue f.0)) m ≡ bytes_at f.1 n = ap bytes_of copied.0.stands ∙ copied.0.now in
      ap (λ b. readable_batches (in_queue queue f.0) b ++ readable_of queue m (map (to_copy target queue) files)) bytes
      ∙ ap (λ rest. readable_batches (in_queue queue f.0) (bytes_at f.1 n) ++ rest) (reads_copied files copied.1)

module _ (source : Folders) (target : Path) (n m : Directory) (fork : IsForkOf source target n m) where
  copied_of : (queue : LogQueue) → AreCopied target (sources_in queue (standing source n) n) n m
  copied_of Append = all_front (λ f. IsDurable (copy_in target f) (bytes_at f.1 n) m) (sources_in Append (standing source n) n) (sources_in Rewrite (standing source n) n) fork.copied
  copied_of Rewrite = all_back (λ f. IsDurable (copy_in target f) (bytes_at f.1 n) m) (sources_in Append (standing source n) n) (sources_in Rewrite (standing source n) n) fork.copied

  numbers : (queue : LogQueue) → (first : ℕ) × AreNumbered (paths_of (standing source n) queue n) first (kept_files (standing source n) queue n)
  numbers queue = single_numbered (standing source n) queue n (fork.single queue)

  beside_of : (queue other : LogQueue) (k : ℕ) → k < end_of_numbers → IsBeside other (numbers other).0 (length (kept_files (standing source n) other n)) (in_queue queue k) → Contains (copies_in target (sources_in other (standing source n) n)) (path_of target (in_queue queue k)) → ⊥
  beside_of queue other k short beside among =
      none_beside target other (paths_of (standing source n) other n) (in_queue queue k) (numbers other).0 (kept_files (standing source n) other n) (numbers other).1.run (numbers other).1.fits short beside among

  apart_of : (queue : LogQueue) (k : ℕ) → k < end_of_numbers → ((k < (numbers queue).0) ⊎ ((numbers queue).0 + length (kept_files (standing source n) queue n) ≤ k))
      → Contains (copies_in target (sources_of source n)) (path_of target (in_queue queue k)) → ⊥
  apart_of queue k short outside among = elim (Contains-append_cases (copies_in target (sources_in Append (standing source n) n)) (copies_in target (sources_in Rewrite (standing source n) n)) (path_of target (in_queue queue k))
      (subst (λ paths. Contains paths (path_of target (in_queue queue k))) (map-append (copy_in target) (sources_in Append (standing source n) n) (sources_in Rewrite (standing source n) n)) among)) [
        | inl here ↦ beside_of queue Append k short (append_beside queue outside) here
        | inr here ↦ beside_of queue Rewrite k short (rewrite_beside queue outside) here
      ]
    where
      append_beside : (q : LogQueue) → ((k < (numbers q).0) ⊎ ((numbers q).0 + length (kept_files (standing source n) q n) ≤ k)) → IsBeside Append (numbers Append).0 (length (kept_files (standing source n) Append n)) (in_queue q k)
      append_beside Append out = inr out
      append_beside Rewrite out = inl rewrite_not_append

      rewrite_beside : (q : LogQueue) → ((k < (numbers q).0) ⊎ ((numbers q).0 + length (kept_files (standing source n) q n) ≤ k)) → IsBeside Rewrite (numbers Rewrite).0 (length (kept_files (standing source n) Rewrite n)) (in_queue q k)
      rewrite_beside Append out = inl append_not_rewrite
      rewrite_beside Rewrite out = inr out

  none_at : (queue : LogQueue) (k : ℕ) → k < end_of_numbers → ((k < (numbers queue).0) ⊎ ((numbers queue).0 + length (kept_files (standing source n) queue n) ≤ k)) → paths_of (target ∷ []) queue m k ≡ []
  none_at queue k short outside =
      let path = path_of target (in_queue queue k) in
      let none : file_at m path ≡ None = fork.others path (apart_of queue k short outside) ∙ fork.free.logs path (in_queue queue k, short, refl) in
      none_there target queue n m k (ap is_some none)

  fork_numbered : (queue : LogQueue) → AreNumbered (paths_of (target ∷ []) queue m) (numbers queue).0 (map (to_copy target queue) (kept_files (standing source n) queue n))
  fork_numbered queue =
      let kept = kept_files (standing source n) queue n in
      let first = (numbers queue).0 in
      let are = (numbers queue).1 in
      let same : length (map (to_copy target queue) kept) ≡ length kept = length-map kept (to_copy target queue) in
      let fits : first + length kept ≤ end_of_numbers = are.fits in
      record {
        run = run_copied target queue n m (paths_of (standing source n) queue n) first kept are.run (copied_of queue);
        hole = λ k is. none_at queue k (omega arith) (inl (omega arith));
        above = λ k low high. none_at queue k high (inr (omega (arith, same)));
        none = λ is k low. none_at queue k (omega arith) (inl low);
        fits = omega (arith, same);
      }

  kept_of_fork : (queue : LogQueue) → kept_files (target ∷ []) queue m ≡ map (to_copy target queue) (kept_files (standing source n) queue n)
  kept_of_fork queue = kept-numbered (paths_of (target ∷ []) queue m) (numbers queue).0 (map (to_copy target queue) (kept_files (standing source n) queue n)) (fork_numbered queue)

  pub fork_single : (queue : LogQueue) → AreSingle (target ∷ []) queue m
  fork_single queue = subst (StandAlone (paths_of (target ∷ []) queue m)) (sym (kept_of_fork queue)) (run_alone (paths_of (target ∷ []) queue m) (numbers queue).0 (map (to_copy target queue) (kept_files (standing source n) queue n)) (fork_numbered queue).run)

  kept_there : AreThereOrEmpty source n → (queue : LogQueue) → kept_files (standing source n) queue n ≡ kept_files (all_of source) queue n
  kept_there stand queue = last_alike (paths_of (all_of source) queue n) (paths_of (standing source n) queue n) end_of_numbers (λ k short. paths_there queue n k short (all_of source) stand)

  pub fork_reads : AreThereOrEmpty source n → (queue : LogQueue) → readable_queue queue (record { main = target; spill = None }) m ≡ readable_queue queue source n
  fork_reads stand queue =
      ap (readable_of queue m) (kept_of_fork queue) ∙ reads_copied target queue n m (kept_files (standing source n) queue n) (copied_of queue)
      ∙ ap (readable_of queue n) (kept_there stand queue)

  module _ (stand : AreThereOrEmpty source n) where
    pub fork_contents : contents_at (record { main = target; spill = None }) m ≡ contents_at source n
    fork_contents =
        ap (λ rewrite. recovered rewrite (readable_queue Append (record { main = target; spill = None }) m)) (fork_reads stand Rewrite)
        ∙ ap (recovered (readable_queue Rewrite source n)) (fork_reads stand Append)

    pub fork_known : (group : ℕ) → known_at (record { main = target; spill = None }) m group ≡ known_at source n group
    fork_known group =
        ap (λ rewrite. recovered_groups rewrite (readable_queue Append (record { main = target; spill = None }) m) group) (fork_reads stand Rewrite)
        ∙ ap (λ append. recovered_groups (readable_queue Rewrite source n) append group) (fork_reads stand Append)
