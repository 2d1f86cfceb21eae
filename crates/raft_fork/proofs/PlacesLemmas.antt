-- Where the source's files stand, and that their copies have places of their own.
use Rattle.std.proofs.Common.{◌≡◌, ◌⊎◌, ◌∙◌, ℕ, suc, ◌+◌, ◌<◌, ◌≤◌, List, [], ◌∷◌, ◌++◌, length, map, None, is_some, refl, ap, sym, subst, inl, inr, arith}
use Rattle.std.specs.Prelude.{Contains}
use Rattle.std.specs.List.{AllByRecursion}
use Rattle.std.proofs.lemmas.List.{map-append}
use Rattle.std.proofs.lemmas.List.Elements.{Contains-append_cases}
use Rattle.raft_base.specs.declared.pipe_log.FileId.{FileId}
use Rattle.raft_base.specs.declared.pipe_log.LogQueue.{LogQueue}
use Rattle.raft_base.specs.declared.pipe_log.LogQueue.TheVariants.{Append, Rewrite}
use Rattle.raft_env.specs.Directory.{Directory, HasFile, Path, file_at}
use Rattle.raft_pipes.specs.Queue.{LeavesAll}
use Rattle.raft_pipes.specs.Numbered.{AreDistinct, AreSingle, IsRun, end_of_numbers, in_queue, kept_files, path_of, paths_of}
use Rattle.raft_pipes.proofs.ApartLemmas.{one_apart}
use Rattle.raft_opening.proofs.KeptLemmas.{IsKept, kept_all, kept_files-beside}
use Rattle.raft_pipes.proofs.NamesInLemmas.{has_cases}
use Rattle.raft_pipes.proofs.PlacesLemmas.{here_first, paths_of-same}
use Rattle.raft_opening.proofs.SingleLemmas.{single_numbered}
use Rattle.raft_fork.specs.Fork.{CanBeCopied, HasNoLogIn, Source, all_sources_in, copies_in, copy_in, sources_in}

-- the path in a folder tells a file
same_id : (target : Path) (a b : FileId) → a.seq < end_of_numbers → b.seq < end_of_numbers → path_of target a ≡ path_of target b → a ≡ b
same_id target a b a_fits b_fits is = ((one_apart target).apart target target a b (here_first target []) (here_first target []) a_fits b_fits is).1

abbrev pub numbered : LogQueue → ℕ × Path → Source
numbered queue f = (in_queue queue f.0, f.1)

abbrev pub copies_of : Path → LogQueue → List (ℕ × Path) → List Path
copies_of target queue files = copies_in target (map (numbered queue) files)

-- a file of another queue, or of a number that none of these has
abbrev pub IsBeside : LogQueue → ℕ → ℕ → FileId → Type 0
IsBeside queue next count id = (id.queue ≡ queue → ⊥) ⊎ (id.seq < next) ⊎ (next + count ≤ id.seq)

-- .. its copy isn't among theirs
pub none_beside : (target : Path) (queue : LogQueue) (here : ℕ → List Path) (id : FileId) (next : ℕ) (files : List (ℕ × Path)) → IsRun here next files → next + length files ≤ end_of_numbers → id.seq < end_of_numbers
    → IsBeside queue next (length files) id → Contains (copies_of target queue files) (path_of target id) → ⊥
none_beside target queue here id next [] run fits short beside among = omega (arith, among.1)
none_beside target queue here id next (f ∷ files) run fits short beside among = elim (has_cases (path_of target (in_queue queue f.0)) (path_of target id) (copies_of target queue files) among) [
  | inl is ↦ differ beside (same_id target (in_queue queue f.0) id (omega (arith, run.0)) short is)
  | inr more ↦ none_beside target queue here id (suc next) files run.2 (omega arith) short (still beside) more
]
  where
    differ : IsBeside queue next (suc (length files)) id → in_queue queue f.0 ≡ id → ⊥
    differ (inl other) same = other (sym (ap (λ (i : FileId). i.queue) same))
    differ (inr (inl low)) same = omega (arith, run.0, ap (λ (i : FileId). i.seq) same)
    differ (inr (inr high)) same = omega (arith, run.0, ap (λ (i : FileId). i.seq) same)

    still : IsBeside queue next (suc (length files)) id → IsBeside queue (suc next) (length files) id
    still (inl other) = inl other
    still (inr (inl low)) = inr (inl (omega arith))
    still (inr (inr high)) = inr (inr (omega arith))

run_distinct : (target : Path) (queue : LogQueue) (here : ℕ → List Path) (next : ℕ) (files : List (ℕ × Path)) → IsRun here next files → next + length files ≤ end_of_numbers → AreDistinct (copies_of target queue files)
run_distinct target queue here next [] run fits = tt
run_distinct target queue here next (f ∷ files) run fits = (
  none_beside target queue here (in_queue queue f.0) (suc next) files run.2 (omega arith) (omega (arith, run.0)) (inr (inl (omega (arith, run.0)))),
  run_distinct target queue here (suc next) files run.2 (omega arith),
)

distinct_both : (xs ys : List Path) → AreDistinct xs → AreDistinct ys → ((p : Path) → Contains xs p → Contains ys p → ⊥) → AreDistinct (xs ++ ys)
distinct_both [] ys first second apart = second
distinct_both (x ∷ xs) ys first second apart = (
  (λ among. elim (Contains-append_cases xs ys x among) [
    | inl here ↦ first.0 here
    | inr there ↦ apart x (here_first x xs) there
  ]),
  distinct_both xs ys first.1 second (λ p here there. apart p (later_of x p xs here) there),
)
  where
    later_of : (y p : Path) (zs : List Path) → Contains zs p → Contains (y ∷ zs) p
    later_of y p zs has = (suc has.0, omega (arith, has.1), has.2)

-- each copy of a queue is one of a number
among_copies : (target : Path) (queue : LogQueue) (here : ℕ → List Path) (next : ℕ) (files : List (ℕ × Path)) → IsRun here next files → next + length files ≤ end_of_numbers → (p : Path) → Contains (copies_of target queue files) p
    → (seq : ℕ) × (seq < end_of_numbers) × (p ≡ path_of target (in_queue queue seq))
among_copies target queue here next [] run fits p among = absurd (omega (arith, among.1))
among_copies target queue here next (f ∷ files) run fits p among = elim (has_cases (path_of target (in_queue queue f.0)) p (copies_of target queue files) among) [
  | inl is ↦ (f.0, omega (arith, run.0), sym is)
  | inr more ↦ among_copies target queue here (suc next) files run.2 (omega arith) p more
]

pub rewrite_not_append : Rewrite ≡ Append → ⊥
rewrite_not_append same = absurd cc

pub append_not_rewrite : Append ≡ Rewrite → ⊥
append_not_rewrite same = absurd cc

module _ (target : Path) (there : List Path) (n : Directory) where
  stand_in : (queue : LogQueue) (files : List (ℕ × Path)) → AllByRecursion (IsKept queue n there) files → AllByRecursion (λ f. HasFile n f.1) (map (numbered queue) files)
  stand_in queue [] kept = tt
  stand_in queue (f ∷ files) kept = (kept.0.1.1, stand_in queue files kept.1)

  free_in : (queue : LogQueue) (files : List (ℕ × Path)) → HasNoLogIn target n → AllByRecursion (IsKept queue n there) files → AllByRecursion (λ f. file_at n (copy_in target f) ≡ None) (map (numbered queue) files)
  free_in queue [] none kept = tt
  free_in queue (f ∷ files) none kept = (none (path_of target (in_queue queue f.0)) (in_queue queue f.0, kept.0.0, refl), free_in queue files none kept.1)

  both : {A : Type 0} (P : A → Type 0) (xs ys : List A) → AllByRecursion P xs → AllByRecursion P ys → AllByRecursion P (xs ++ ys)
  both P [] ys first second = second
  both P (x ∷ xs) ys first second = (first.0, both P xs ys first.1 second)

  pub can_be_copied : HasNoLogIn target n → ((queue : LogQueue) → AreSingle there queue n) → CanBeCopied target (all_sources_in there n) n
  can_be_copied none single =
      let append = single_numbered there Append n (single Append) in
      let rewrite = single_numbered there Rewrite n (single Rewrite) in
      let kept = λ (queue : LogQueue). kept_all queue n there in
      record {
        stand = both (λ f. HasFile n f.1) (sources_in Append there n) (sources_in Rewrite there n) (stand_in Append (kept_files there Append n) (kept Append)) (stand_in Rewrite (kept_files there Rewrite n) (kept Rewrite));
        free = both (λ f. file_at n (copy_in target f) ≡ None) (sources_in Append there n) (sources_in Rewrite there n) (free_in Append (kept_files there Append n) none (kept Append)) (free_in Rewrite (kept_files there Rewrite n) none (kept Rewrite));
        apart = subst AreDistinct (sym (map-append (copy_in target) (sources_in Append there n) (sources_in Rewrite there n)))
            (distinct_both (copies_in target (sources_in Append there n)) (copies_in target (sources_in Rewrite there n))
            (run_distinct target Append (paths_of there Append n) append.0 (kept_files there Append n) append.1.run append.1.fits)
            (run_distinct target Rewrite (paths_of there Rewrite n) rewrite.0 (kept_files there Rewrite n) rewrite.1.run rewrite.1.fits)
            (λ p here there_too. (let at = among_copies target Append (paths_of there Append n) append.0 (kept_files there Append n) append.1.run append.1.fits p here in
            none_beside target Rewrite (paths_of there Rewrite n) (in_queue Append at.0) rewrite.0 (kept_files there Rewrite n) rewrite.1.run rewrite.1.fits at.1 (inl append_not_rewrite)
            (subst (Contains (copies_in target (sources_in Rewrite there n))) at.2 there_too))));
      }

-- where all files are as before, the same are sources
kept_same : (there : List Path) (queue : LogQueue) (n m : Directory) → LeavesAll n m → kept_files there queue m ≡ kept_files there queue n
kept_same there queue n m same = kept_files-beside there queue n m (λ k low. paths_of-same there queue n m (λ q. ap is_some (same q)) k)

pub sources_same : (there : List Path) (n m : Directory) → LeavesAll n m → all_sources_in there m ≡ all_sources_in there n
sources_same there n m same =
    ap (λ files. map (numbered Append) files ++ sources_in Rewrite there m) (kept_same there Append n m same)
    ∙ ap (λ files. sources_in Append there n ++ map (numbered Rewrite) files) (kept_same there Rewrite n m same)

single_at : (here there : ℕ → List Path) (files : List (ℕ × Path)) → ((k : ℕ) → there k ≡ here k) → AllByRecursion (λ f. here f.0 ≡ f.1 ∷ []) files → AllByRecursion (λ f. there f.0 ≡ f.1 ∷ []) files
single_at here there [] same alone = tt
single_at here there (f ∷ files) same alone = (same f.0 ∙ alone.0, single_at here there files same alone.1)

pub single_same : (there : List Path) (queue : LogQueue) (n m : Directory) → LeavesAll n m → AreSingle there queue m → AreSingle there queue n
single_same there queue n m same single =
    single_at (paths_of there queue m) (paths_of there queue n) (kept_files there queue n) (λ k. sym (paths_of-same there queue n m (λ q. ap is_some (same q)) k))
    (subst (λ files. AllByRecursion (λ f. paths_of there queue m f.0 ≡ f.1 ∷ []) files) (kept_same there queue n m same) single)
