-- Each file that a recovery keeps stands at a path of its number.
use Rattle.std.proofs.Common.{◌≡◌, ℕ, zero, suc, ◌<◌, ◌≤◌, Bool, true, false, cond, List, [], ◌∷◌, ◌∙◌, map, refl, ap, sym, subst, arith, inl, inr}
use Rattle.std.specs.Prelude.{Contains}
use Rattle.std.specs.List.{AllByRecursion}
use Rattle.std.proofs.lemmas.List.Elements.{Contains-append_cases}
use Rattle.raft_base.specs.declared.pipe_log.LogQueue.{LogQueue}
use Rattle.raft_env.specs.Directory.{Directory, Path}
use Rattle.raft_pipes.specs.Numbered.{IsPathOf, end_of_numbers, found_or, has_file, in_queue, joined, kept_files, last_run, path_of, paths_of, run_below}
use Rattle.raft_pipes.proofs.NumberedLemmas.{last_run-suc, last_run-zero, run_below-suc, run_below-zero}
use Rattle.raft_pipes.proofs.PlacesLemmas.{here_first, later, one_of}
use Rattle.raft_pipes.proofs.QueueFilesLemmas.{all_push}

-- a file of this number stands there
abbrev pub StandsAt : List Path → LogQueue → Directory → ℕ → Path → Type 0
StandsAt folders queue n seq path = IsPathOf folders queue seq path × (has_file n path ≡ true)

module _ (queue : LogQueue) (n : Directory) where
  found_stand : (seq : ℕ) (all folders : List Path) → ((f : Path) → Contains folders f → Contains all f) → AllByRecursion (StandsAt all queue n seq) (paths_of folders queue n seq)
  found_stand seq all [] among = tt
  found_stand seq all (f ∷ folders) among = by_test (has_file n path) refl (found_stand seq all folders (λ g in_rest. among g (later f folders g in_rest)))
    where
      path : Path
      path = path_of f (in_queue queue seq)

      by_test : (stands : Bool) → has_file n path ≡ stands → AllByRecursion (StandsAt all queue n seq) (paths_of folders queue n seq) → AllByRecursion (StandsAt all queue n seq) (cond stands (path ∷ paths_of folders queue n seq) (paths_of folders queue n seq))
      by_test true is rest = (((f, among f (here_first f folders), refl), is), rest)
      by_test false is rest = rest

  module _ (folders : List Path) where
    abbrev pub IsKept : ℕ × Path → Type 0
    IsKept f = (f.0 < end_of_numbers) × StandsAt folders queue n f.0 f.1

    joined_stand : (seq : ℕ) → seq < end_of_numbers → (found : List Path) (before : List (ℕ × Path)) → AllByRecursion (StandsAt folders queue n seq) found → AllByRecursion IsKept before → AllByRecursion IsKept (joined seq found before)
    joined_stand seq fits [] before found kept = tt
    joined_stand seq fits (path ∷ []) before found kept = all_push IsKept before (seq, path) kept (fits, found.0)
    joined_stand seq fits (path ∷ other ∷ more) before found kept = joined_stand seq fits (other ∷ more) [] found.1 tt

    run_stands : (top : ℕ) → top ≤ end_of_numbers → AllByRecursion IsKept (run_below (paths_of folders queue n) top)
    run_stands zero fits = subst (AllByRecursion IsKept) (sym (run_below-zero (paths_of folders queue n))) tt
    run_stands (suc top) fits =
        subst (AllByRecursion IsKept) (sym (run_below-suc (paths_of folders queue n) top))
        (joined_stand top (omega arith) (paths_of folders queue n top) (run_below (paths_of folders queue n) top) (found_stand top folders folders (λ f among. among)) (run_stands top (omega arith)))

    last_stands : (top : ℕ) → top ≤ end_of_numbers → AllByRecursion IsKept (last_run (paths_of folders queue n) top)
    last_stands zero fits = subst (AllByRecursion IsKept) (sym (last_run-zero (paths_of folders queue n))) tt
    last_stands (suc top) fits =
        subst (AllByRecursion IsKept) (sym (last_run-suc (paths_of folders queue n) top))
        (either (run_below (paths_of folders queue n) (suc top)) (last_run (paths_of folders queue n) top) (run_stands (suc top) fits) (last_stands top (omega arith)))
      where
        either : (files other : List (ℕ × Path)) → AllByRecursion IsKept files → AllByRecursion IsKept other → AllByRecursion IsKept (found_or files other)
        either [] other first second = second
        either (f ∷ files) other first second = first

    among_kept : (files : List (ℕ × Path)) → AllByRecursion IsKept files → (q : Path) → Contains (map (λ f. f.1) files) q → (seq : ℕ) × (seq < end_of_numbers) × StandsAt folders queue n seq q
    among_kept [] kept q among = absurd (omega (arith, among.1))
    among_kept (f ∷ files) kept q among = elim (Contains-append_cases (f.1 ∷ []) (map (λ g. g.1) files) q among) [
      | inl head ↦ (f.0, kept.0.0, subst (StandsAt folders queue n f.0) (one_of f.1 q head) kept.0.1)
      | inr rest ↦ among_kept files kept.1 q rest
    ]

    pub kept_all : AllByRecursion IsKept (kept_files folders queue n)
    kept_all = last_stands end_of_numbers (omega arith)

    pub kept_stands : (q : Path) → Contains (map (λ f. f.1) (kept_files folders queue n)) q → (seq : ℕ) × (seq < end_of_numbers) × StandsAt folders queue n seq q
    kept_stands q among = among_kept (kept_files folders queue n) kept_all q among

-- Where the same files stand the same are kept.

module _ (here there : ℕ → List Path) where
  run_alike : (top : ℕ) → ((k : ℕ) → k < top → there k ≡ here k) → run_below there top ≡ run_below here top
  run_alike zero same = run_below-zero there ∙ sym (run_below-zero here)
  run_alike (suc top) same =
      run_below-suc there top ∙ ap (λ found. joined top found (run_below there top)) (same top (omega arith))
      ∙ ap (joined top (here top)) (run_alike top (λ k low. same k (omega arith))) ∙ sym (run_below-suc here top)

  last_alike : (top : ℕ) → ((k : ℕ) → k < top → there k ≡ here k) → last_run there top ≡ last_run here top
  last_alike zero same = last_run-zero there ∙ sym (last_run-zero here)
  last_alike (suc top) same =
      last_run-suc there top ∙ ap (λ files. found_or files (last_run there top)) (run_alike (suc top) same)
      ∙ ap (found_or (run_below here (suc top))) (last_alike top (λ k low. same k (omega arith))) ∙ sym (last_run-suc here top)

pub kept_files-beside : (folders : List Path) (queue : LogQueue) (old new : Directory) → ((k : ℕ) → k < end_of_numbers → paths_of folders queue new k ≡ paths_of folders queue old k) → kept_files folders queue new ≡ kept_files folders queue old
kept_files-beside folders queue old new same = last_alike (paths_of folders queue old) (paths_of folders queue new) end_of_numbers same
