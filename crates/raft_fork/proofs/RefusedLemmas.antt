-- Refusals of the parts of a fork are refusals of the fork.
use Rattle.std.proofs.Common.{◌≡◌, ◌⊎◌, ◌∙◌, ℕ, zero, suc, ◌<◌, ◌≤◌, IsSome, length, map, List, [], ◌∷◌, None, refl, ap, sym, subst, inl, inr, arith}
use Rattle.std.specs.Prelude.{Contains}
use Rattle.std.specs.List.{AllByRecursion}
use Rattle.std.proofs.lemmas.List.{map-append}
use Rattle.std.proofs.lemmas.List.Elements.{Contains-append_cases}
use Rattle.raft_base.specs.declared.errors.Fault.{Fault}
use Rattle.raft_base.specs.declared.errors.Fault.TheVariants as fault
use Rattle.raft_base.specs.declared.pipe_log.LogQueue.{LogQueue}
use Rattle.raft_base.specs.declared.pipe_log.LogQueue.TheVariants.{Append, Rewrite}
use Rattle.raft_env.specs.Directory.{Directory, HasFile, Path, file_at}
use Rattle.raft_env.specs.Refusal.{FailsAt, NamesFile, NoFewer, Refusals}
use Rattle.raft_config.specs.Folders.{folders_in}
use Rattle.raft_config.specs.declared.config.Config.{Config}
use Rattle.raft_pipes.specs.FileList.{IsListRefusal}
use Rattle.raft_pipes.specs.Numbered.{AreSingle, end_of_numbers, in_queue, kept_files, path_of, paths_of, AreNumbered, StandAlone}
use Rattle.raft_pipes.specs.Queue.{LeavesAll}
use Rattle.raft_opening.proofs.KeptLemmas.{IsKept, kept_all}
use Rattle.raft_pipes.proofs.NamesInLemmas.{has_cases, has_later}
use Rattle.raft_pipes.proofs.PlacesLemmas.{here_first, none_stands, one_of}
use Rattle.raft_pipes.proofs.QueueFilesLemmas.{no_file}
use Rattle.raft_opening.proofs.SingleLemmas.{single_numbered}
use Rattle.raft_fork.specs.Fork.{IsFree, Source, all_sources_in, copies_in, copy_in, mark_in, sources_in, standing}
use Rattle.raft_fork.specs.Refused.{HasLogIn, IsCopyRefusal, IsForkRefusal, IsInFolder, IsInOneOf, IsInvalid, IsMarkRefusal, IsMarkedRefusal, IsSourceRefusal, IsTargetRefusal, fork_contradiction}
use Rattle.raft_fork.proofs.PlacesLemmas.{numbered, single_same}

-- no log file stands where none is kept
none_kept : (folder : Path) (queue : LogQueue) (n : Directory) → kept_files (folder ∷ []) queue n ≡ [] → (seq : ℕ) → seq < end_of_numbers → file_at n (path_of folder (in_queue queue seq)) ≡ None
none_kept folder queue n empty seq short =
    let alone = subst (StandAlone (paths_of (folder ∷ []) queue n)) (sym empty) tt in
    let found = single_numbered (folder ∷ []) queue n alone in
    let are = subst (AreNumbered (paths_of (folder ∷ []) queue n) found.0) empty found.1 in
    no_file n (path_of folder (in_queue queue seq)) (none_stands (folder ∷ []) queue n seq (path_of folder (in_queue queue seq)) (by_place found.0 are (cases_le found.0 seq)) (folder, here_first folder [], refl))
  where
    cases_le : (a b : ℕ) → (a ≤ b) ⊎ (b < a)
    cases_le zero b = inl (omega arith)
    cases_le (suc a) zero = inr (omega arith)
    cases_le (suc a) (suc b) = elim (cases_le a b) [ inl low ↦ inl (omega (arith, low)) | inr high ↦ inr (omega (arith, high)) ]

    by_place : (first : ℕ) → AreNumbered (paths_of (folder ∷ []) queue n) first [] → (first ≤ seq) ⊎ (seq < first) → paths_of (folder ∷ []) queue n seq ≡ []
    by_place first are (inl low) = are.above seq (omega (arith, low)) short
    by_place first are (inr high) = are.none refl seq high

pub single_both : (there : List Path) (n : Directory) → AreSingle there Append n → AreSingle there Rewrite n → (queue : LogQueue) → AreSingle there queue n
single_both there n append rewrite Append = append
single_both there n append rewrite Rewrite = rewrite

pub is_free : (target : Path) (n m : Directory) → LeavesAll n m → (HasFile n target → ⊥) → file_at m (mark_in target) ≡ None → kept_files (target ∷ []) Append m ≡ [] → kept_files (target ∷ []) Rewrite m ≡ [] → IsFree target n
is_free target n m same folder unmarked append rewrite = record { folder = folder; unmarked = sym (same (mark_in target)) ∙ unmarked; logs = λ path log. sym (same path) ∙ ap (file_at m) log.2 ∙ by_queue log.0.queue log.0.seq log.1 }
  where
    by_queue : (queue : LogQueue) (seq : ℕ) → seq < end_of_numbers → file_at m (path_of target (in_queue queue seq)) ≡ None
    by_queue Append seq short = none_kept target Append m append seq short
    by_queue Rewrite seq short = none_kept target Rewrite m rewrite seq short

-- one stands where one is kept
has_log_at : (folder : Path) (queue : LogQueue) (n : Directory) (files : List (ℕ × Path)) → AllByRecursion (IsKept queue n (folder ∷ [])) files → 0 < length files → HasLogIn folder n
has_log_at folder queue n [] kept some = absurd (omega (arith, some))
has_log_at folder queue n (f ∷ files) kept some =
    let at = kept.0.1.0 in
    (f.1, (in_queue queue f.0, kept.0.0, at.2 ∙ ap (λ g. path_of g (in_queue queue f.0)) (sym (one_of folder at.0 at.1))), kept.0.1.1)

pub has_log : (folder : Path) (queue : LogQueue) (n : Directory) (files : List (ℕ × Path)) → files ≡ kept_files (folder ∷ []) queue n → 0 < length files → HasLogIn folder n
has_log folder queue n files are some = has_log_at folder queue n files (subst (AllByRecursion (IsKept queue n (folder ∷ []))) (sym are) (kept_all queue n (folder ∷ []))) some

-- refusals of the target for a mark
pub marked_target : (target : Path) (n m : Directory) (old new : Refusals) (e : Fault) → LeavesAll n m → IsMarkRefusal target m e → IsTargetRefusal target n old new e
marked_target target n m old new (fault.InvalidArgument text) same mark = inr (inr (subst (λ o. IsSome o) (same (mark_in target)) mark))
marked_target target n m old new fault.Memory same mark = tt
marked_target target n m old new _ same mark = absurd mark

-- refusals of the source
pub listed_source : (there : List Path) (n : Directory) (old new : Refusals) (e : Fault) → IsListRefusal there old new e → IsSourceRefusal there n old new e
listed_source there n old new e (inl is) = subst (IsSourceRefusal there n old new) (sym is) tt
listed_source there n old new e (inr (folder, among, refused)) = by_fault e refused
  where
    by_fault : (e : Fault) → FailsAt (NamesFile folder) old new e → IsSourceRefusal there n old new e
    by_fault (fault.InvalidArgument text) refused = absurd refused
    by_fault (fault.Io kind text) refused = (refused.0, (folder, (folder, among, inl refl), refused.1))
    by_fault _ refused = refused

pub later_source : (there : List Path) (n : Directory) (old mid new : Refusals) (e : Fault) → NoFewer old mid → IsSourceRefusal there n mid new e → IsSourceRefusal there n old new e
later_source there n old mid new (fault.InvalidArgument text) fewer refused = refused
later_source there n old mid new (fault.Io kind text) fewer refused = (omega (arith, fewer.0, refused.0), refused.1)
later_source there n old mid new _ fewer refused = refused

-- a source file is in one of the folders, and its copy in the target
module _ (target : Path) (there : List Path) (n : Directory) (path : Path) where
  source_place : (queue : LogQueue) (files : List (ℕ × Path)) → AllByRecursion (IsKept queue n there) files → Contains (map (λ (f : Source). f.1) (map (numbered queue) files)) path → IsInOneOf there path
  source_place queue [] kept among = absurd (omega (arith, among.1))
  source_place queue (f ∷ files) kept among = elim (has_cases f.1 path (map (λ (f : Source). f.1) (map (numbered queue) files)) among) [
    | inl is ↦ (let at = kept.0.1.0 in (at.0, at.1, inr (in_queue queue f.0, kept.0.0, sym is ∙ at.2)))
    | inr more ↦ source_place queue files kept.1 more
  ]

  target_place : (queue : LogQueue) (files : List (ℕ × Path)) → AllByRecursion (IsKept queue n there) files → Contains (copies_in target (map (numbered queue) files)) path → IsInFolder target path
  target_place queue [] kept among = absurd (omega (arith, among.1))
  target_place queue (f ∷ files) kept among = elim (has_cases (path_of target (in_queue queue f.0)) path (copies_in target (map (numbered queue) files)) among) [
    | inl is ↦ inr (in_queue queue f.0, kept.0.0, sym is)
    | inr more ↦ target_place queue files kept.1 more
  ]

  among_both : (name : Source → Path) → Contains (map name (all_sources_in there n)) path → Contains (map name (sources_in Append there n)) path ⊎ Contains (map name (sources_in Rewrite there n)) path
  among_both name among = Contains-append_cases (map name (sources_in Append there n)) (map name (sources_in Rewrite there n)) path
      (subst (λ paths. Contains paths path) (map-append name (sources_in Append there n) (sources_in Rewrite there n)) among)

  in_target : IsInFolder target path → IsInOneOf (target ∷ there) path
  in_target place = (target, here_first target there, place)

  in_source : IsInOneOf there path → IsInOneOf (target ∷ there) path
  in_source place = (place.0, has_later target place.0 there place.1, place.2)

  pub place_of_copy : (Contains (copies_in target (all_sources_in there n)) path ⊎ Contains (map (λ (f : Source). f.1) (all_sources_in there n)) path) → IsInOneOf (target ∷ there) path
  place_of_copy (inl copy) = elim (among_both (copy_in target) copy) [
    | inl append ↦ in_target (target_place Append (kept_files there Append n) (kept_all Append n there) append)
    | inr rewrite ↦ in_target (target_place Rewrite (kept_files there Rewrite n) (kept_all Rewrite n there) rewrite)
  ]
  place_of_copy (inr source) = elim (among_both (λ (f : Source). f.1) source) [
    | inl append ↦ in_source (source_place Append (kept_files there Append n) (kept_all Append n there) append)
    | inr rewrite ↦ in_source (source_place Rewrite (kept_files there Rewrite n) (kept_all Rewrite n there) rewrite)
  ]

-- refusals of a fork
module _ (c : Config) (target : Path) (n : Directory) (old new : Refusals) where
  -- settings without fault leave the target and the source to be refused
  as_valid : fork_contradiction c ≡ None → (text : List ℕ) → IsInvalid None (standing (folders_in c) n) target n text → IsInvalid (fork_contradiction c) (standing (folders_in c) n) target n text
  as_valid none text invalid = subst (λ o. IsInvalid o (standing (folders_in c) n) target n text) (sym none) invalid

  pub fork_memory : (e : Fault) → e ≡ fault.Memory → IsForkRefusal c target n old new e
  fork_memory e is = subst (IsForkRefusal c target n old new) (sym is) tt

  pub fork_target : (e : Fault) → fork_contradiction c ≡ None → IsTargetRefusal target n old new e → IsForkRefusal c target n old new e
  fork_target (fault.InvalidArgument text) none (inl file) = as_valid none text.now (inl file)
  fork_target (fault.InvalidArgument text) none (inr fork) = as_valid none text.now (inr (inl fork))
  fork_target (fault.Io kind text) none refused = (refused.0, inl (target, (target, here_first target (standing (folders_in c) n), inl refl), refused.1))
  fork_target fault.Memory none refused = tt
  fork_target _ none refused = absurd refused

  pub fork_source : (m : Directory) (mid : Refusals) (e : Fault) → fork_contradiction c ≡ None → IsFree target n → LeavesAll n m → NoFewer old mid → IsSourceRefusal (standing (folders_in c) n) m mid new e → IsForkRefusal c target n old new e
  fork_source m mid (fault.InvalidArgument text) none free same fewer refused =
      as_valid none text.now (inr (inr (free, (refused.0, (λ single. refused.1 (single_same (standing (folders_in c) n) refused.0 m n (λ path. sym (same path)) single))))))
  fork_source m mid (fault.Io kind text) none free same fewer refused =
      (omega (arith, fewer.0, refused.0), inl (refused.1.0, (refused.1.1.0, has_later target refused.1.1.0 (standing (folders_in c) n) refused.1.1.1, refused.1.1.2), refused.1.2))
  fork_source m mid fault.Memory none free same fewer refused = tt
  fork_source m mid _ none free same fewer refused = absurd refused

  -- a refused copy, of a file in one of the source's folders
  pub fork_copy : (m : Directory) (mid : Refusals) (e : Fault) → LeavesAll n m → NoFewer old mid → IsCopyRefusal target (all_sources_in (standing (folders_in c) n) m) mid new e → IsForkRefusal c target n old new e
  fork_copy m mid e same fewer (inl wanting) = fork_memory e wanting
  fork_copy m mid e same fewer (inr refused) = by_fault e (place_of_copy target (standing (folders_in c) n) m refused.0 refused.1) refused.2
    where
      by_fault : (e : Fault) → IsInOneOf (target ∷ standing (folders_in c) n) refused.0 → FailsAt (NamesFile refused.0) mid new e → IsForkRefusal c target n old new e
      by_fault (fault.Io kind text) place at = (omega (arith, fewer.0, at.0), inl (refused.0, place, at.1))
      by_fault fault.Memory place at = tt
      by_fault _ place at = absurd at

  -- .. or a refused call on the mark
  pub fork_marked : (m : Directory) (mid : Refusals) (e : Fault) → LeavesAll n m → NoFewer old mid → IsMarkedRefusal target (all_sources_in (standing (folders_in c) n) m) mid new e → IsForkRefusal c target n old new e
  fork_marked m mid e same fewer (inl mark) = by_mark e mark
    where
      by_mark : (e : Fault) → FailsAt (NamesFile (mark_in target)) mid new e → IsForkRefusal c target n old new e
      by_mark (fault.InvalidArgument text) at = absurd at
      by_mark (fault.Io kind text) at = (omega (arith, fewer.0, at.0), inr at.1)
      by_mark fault.Memory at = tt
      by_mark _ at = absurd at
  fork_marked m mid e same fewer (inr copy) = fork_copy m mid e same fewer copy
