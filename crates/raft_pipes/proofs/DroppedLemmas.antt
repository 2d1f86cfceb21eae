-- Files that a purge drops, and those of them that it deletes.
use Rattle.std.proofs.Common.{◌≡◌, ℕ, zero, suc, ◌+◌, ◌-◌, ◌<◌, ◌≤◌, ◌^◌, Bool, true, false, List, [], ◌∷◌, ◌++◌, length, map, take, drop, get_or, inl, inr, refl, ap, sym, subst, ◌∙◌, arith, if◌then◌else◌}
use Rattle.std.specs.Prelude.{Contains}
use Rattle.std.specs.List.{AllByRecursion}
use Rattle.std.proofs.lemmas.List.Elements.{Contains-append_cases}
use Rattle.std.proofs.Math.Seq.{take-suc}
use Rattle.raft_base.specs.declared.errors.Fault.{Fault}
use Rattle.raft_base.specs.declared.errors.Fault.TheVariants as fault
use Rattle.raft_base.specs.declared.pipe_log.LogQueue.{LogQueue}
use Rattle.raft_env.specs.Directory.{Directory, IsOneOf, Path, file_at, without_file}
use Rattle.raft_env.specs.Moments.{HoldsThroughout}
use Rattle.raft_env.specs.Refusal.{FailsCountedAt, NamesFile, Refusals}
use Rattle.raft_env.proofs.DirectoryLemmas.{file_at-removed_other}
use Rattle.raft_env.proofs.MomentsLemmas.{passes_then, passes_weaker}
use Rattle.raft_config.specs.Folders.{Folders, all_of}
use Rattle.raft_pipes.specs.Folder.{IsLogPath}
use Rattle.raft_pipes.specs.Numbered.{IsPathOf}
use Rattle.raft_pipes.specs.PipeState.{AreNamedFrom, files_from}
use Rattle.raft_pipes.specs.Purge.{DeletesSome, IsDeleteRefusal, deleted_of, is_spared, without_files}
use Rattle.raft_pipes.specs.QueueFiles.{QueueFile, places_of}
use Rattle.raft_pipes.specs.Spare.{SealedFile}
use Rattle.raft_pipes.proofs.PipeNamesLemmas.{is_log_path}
use Rattle.raft_pipes.proofs.PlacesLemmas.{one_of}

-- Files one after the other.

without_files-append : (xs ys : List Path) (n : Directory) → without_files (xs ++ ys) n ≡ without_files ys (without_files xs n)
without_files-append [] ys n = refl
without_files-append (x ∷ xs) ys n = without_files-append xs ys (without_file x n)

-- the room that is left after these
abbrev pub room_left : ℕ → List SealedFile → ℕ
room_left room [] = room
room_left room (f ∷ files) = if is_spared room f.version then room_left (room - 1) files else room_left room files

deleted_of-append : (room : ℕ) (xs ys : List SealedFile) → deleted_of room (xs ++ ys) ≡ deleted_of room xs ++ deleted_of (room_left room xs) ys
deleted_of-append room [] ys = refl
deleted_of-append room (f ∷ xs) ys = by_test (is_spared room f.version) (deleted_of-append (room - 1) xs ys) (deleted_of-append room xs ys)
  where
    by_test : (b : Bool) → deleted_of (room - 1) (xs ++ ys) ≡ deleted_of (room - 1) xs ++ deleted_of (room_left (room - 1) xs) ys → deleted_of room (xs ++ ys) ≡ deleted_of room xs ++ deleted_of (room_left room xs) ys
        → (if b then deleted_of (room - 1) (xs ++ ys) else f.path ∷ deleted_of room (xs ++ ys)) ≡ (if b then deleted_of (room - 1) xs else f.path ∷ deleted_of room xs) ++ deleted_of (if b then room_left (room - 1) xs else room_left room xs) ys
    by_test true spared deleted = spared
    by_test false spared deleted = ap (λ ps. f.path ∷ ps) deleted

room_left-append : (room : ℕ) (xs ys : List SealedFile) → room_left room (xs ++ ys) ≡ room_left (room_left room xs) ys
room_left-append room [] ys = refl
room_left-append room (f ∷ xs) ys = by_test (is_spared room f.version) (room_left-append (room - 1) xs ys) (room_left-append room xs ys)
  where
    by_test : (b : Bool) → room_left (room - 1) (xs ++ ys) ≡ room_left (room_left (room - 1) xs) ys → room_left room (xs ++ ys) ≡ room_left (room_left room xs) ys
        → (if b then room_left (room - 1) (xs ++ ys) else room_left room (xs ++ ys)) ≡ room_left (if b then room_left (room - 1) xs else room_left room xs) ys
    by_test true spared deleted = spared
    by_test false spared deleted = deleted

-- without room all are deleted
pub deleted_of-no_room : (files : List SealedFile) → deleted_of 0 files ≡ map (λ f. f.path) files
deleted_of-no_room [] = refl
deleted_of-no_room (f ∷ files) = ap (λ ps. f.path ∷ ps) (deleted_of-no_room files)

module _ (room : ℕ) (files : List SealedFile) (at : ℕ) (f : SealedFile) (old mid : Directory) (within : at < length files) (is : f ≡ get_or files at f) (left : ℕ) (left_is : left ≡ room_left room (take at files)) (before : mid ≡ without_files (deleted_of room (take at files)) old) where
  one_more : take (at + 1) files ≡ take at files ++ f ∷ []
  one_more = ap (λ k. take k files) (let one : at + 1 ≡ suc at = omega arith in one) ∙ take-suc files at f within ∙ ap (λ g. take at files ++ g ∷ []) (sym is)

  deleted_then : (b : Bool) → is_spared left f.version ≡ b → deleted_of room (take (at + 1) files) ≡ deleted_of room (take at files) ++ (if b then [] else f.path ∷ [])
  deleted_then b test =
      ap (deleted_of room) one_more ∙ deleted_of-append room (take at files) (f ∷ []) ∙ ap (λ r. deleted_of room (take at files) ++ deleted_of r (f ∷ [])) (sym left_is)
      ∙ ap (λ t. deleted_of room (take at files) ++ (if t then [] else f.path ∷ [])) test

  pub left_then : (b : Bool) → is_spared left f.version ≡ b → room_left room (take (at + 1) files) ≡ (if b then left - 1 else left)
  left_then b test =
      ap (room_left room) one_more ∙ room_left-append room (take at files) (f ∷ []) ∙ ap (λ r. room_left r (f ∷ [])) (sym left_is)
      ∙ ap (λ t. if t then left - 1 else left) test

  -- one more is kept
  pub spared_next : is_spared left f.version ≡ true → mid ≡ without_files (deleted_of room (take (at + 1) files)) old
  spared_next test = before ∙ sym (ap (λ ps. without_files ps old) (deleted_then true test) ∙ without_files-append (deleted_of room (take at files)) [] old)

  -- .. or deleted
  pub deleted_next : is_spared left f.version ≡ false → (new : Directory) → new ≡ without_file f.path mid → new ≡ without_files (deleted_of room (take (at + 1) files)) old
  deleted_next test new deleted =
      deleted ∙ ap (without_file f.path) before
      ∙ sym (ap (λ ps. without_files ps old) (deleted_then false test) ∙ without_files-append (deleted_of room (take at files)) (f.path ∷ []) old)

  pub dropping_next : is_spared left f.version ≡ false → (n : Directory) → IsOneOf mid (without_file f.path mid) n → DeletesSome room files old n
  dropping_next test n (inl same) = (at, omega arith, same ∙ before)
  dropping_next test n (inr deleted) = (at + 1, omega arith, deleted_next test n deleted)

  pub dropping_moments : is_spared left f.version ≡ false → (m0 m1 m2 : List Directory) (new : Directory) → HoldsThroughout m0 m1 mid (DeletesSome room files old) → HoldsThroughout m1 m2 new (IsOneOf mid (without_file f.path mid)) → HoldsThroughout m0 m2 new (DeletesSome room files old)
  dropping_moments test m0 m1 m2 new earlier moments = passes_then _ m0 m1 m2 mid new earlier (passes_weaker _ _ m1 m2 new (dropping_next test) moments)

-- Refusals.

-- the first of those that stay of some front stays of all
pub front_refused : (count asked : ℕ) (paths : List Path) (first after : Refusals) (e : Fault) → IsDeleteRefusal (drop count (take asked paths)) first after e → IsDeleteRefusal (drop count paths) first after e
front_refused zero zero paths first after e refused = absurd refused
front_refused zero (suc asked) [] first after e refused = absurd refused
front_refused zero (suc asked) (path ∷ paths) first after e refused = refused
front_refused (suc count) zero paths first after e refused = absurd refused
front_refused (suc count) (suc asked) [] first after e refused = absurd refused
front_refused (suc count) (suc asked) (path ∷ paths) first after e refused = front_refused count asked paths first after e refused

-- it is one of them
pub refused_among : (count : ℕ) (paths : List Path) (first after : Refusals) (e : Fault) → IsDeleteRefusal (drop count paths) first after e → (path : Path) × Contains paths path × FailsCountedAt (NamesFile path) first after e
refused_among zero [] first after e refused = absurd refused
refused_among zero (path ∷ paths) first after e refused = (path, (0, omega arith, refl), refused)
refused_among (suc count) [] first after e refused = absurd refused
refused_among (suc count) (path ∷ paths) first after e refused =
    let found = refused_among count paths first after e refused in
    (found.0, (suc found.1.0, omega (arith, found.1.1), found.1.2), found.2)

-- Names.

module _ (folders : Folders) (queue : LogQueue) where
  pub named_front : (seq : ℕ) (paths more : List Path) → AreNamedFrom folders queue seq (paths ++ more) → AreNamedFrom folders queue seq paths
  named_front seq [] more named = tt
  named_front seq (path ∷ paths) more named = (named.0, named_front (suc seq) paths more named.1)

  pub named_take : (count seq : ℕ) (paths : List Path) → AreNamedFrom folders queue seq paths → AreNamedFrom folders queue seq (take count paths)
  named_take zero seq paths named = tt
  named_take (suc count) seq [] named = tt
  named_take (suc count) seq (path ∷ paths) named = (named.0, named_take count (suc seq) paths named.1)

  -- the paths that are left begin with the number after the others
  pub named_drop : (count seq start : ℕ) (paths more : List Path) → start ≡ seq + count → count ≤ length paths → AreNamedFrom folders queue seq (paths ++ more) → AreNamedFrom folders queue start (drop count paths ++ more)
  named_drop zero seq start paths more is few named = subst (λ k. AreNamedFrom folders queue k (paths ++ more)) (let e : seq ≡ start = omega arith in e) named
  named_drop (suc count) seq start [] more is few named = absurd (omega arith)
  named_drop (suc count) seq start (path ∷ paths) more is few named = named_drop count (suc seq) start paths more (omega arith) (omega arith) named.1

  -- each of them is the path of a log file
  pub named_IsLogPath : (seq : ℕ) (paths : List Path) (path : Path) → seq + length paths ≤ 10 ^ 16 → AreNamedFrom folders queue seq paths → Contains paths path → IsLogPath folders path
  named_IsLogPath seq [] path fits named (k, within, is) = absurd (omega arith)
  named_IsLogPath seq (p ∷ paths) path fits named among = elim (Contains-append_cases (p ∷ []) paths path among) [
    | inl head ↦ is_log_path folders queue seq path (omega arith) (subst (IsPathOf (all_of folders) queue seq) (one_of p path head) named.0)
    | inr rest ↦ named_IsLogPath (suc seq) paths path (omega arith) named.1 rest
  ]

-- each of these paths is that of a file with a number from this one on and below the other
abbrev pub AreOwn : Folders → LogQueue → ℕ → ℕ → List Path → Type 0
AreOwn folders queue from to paths = AllByRecursion (λ q. (k : ℕ) × (from ≤ k) × (k < to) × IsPathOf (all_of folders) queue k q) paths

module _ (folders : Folders) (queue : LogQueue) where
  own_from : (from later to : ℕ) → from ≤ later → (paths : List Path) → AreOwn folders queue later to paths → AreOwn folders queue from to paths
  own_from from later to less [] own = tt
  own_from from later to less (q ∷ paths) own = ((own.0.0, omega (arith, less, own.0.1), own.0.2, own.0.3), own_from from later to less paths own.1)

  pub own_to : (from to later : ℕ) → to ≤ later → (paths : List Path) → AreOwn folders queue from to paths → AreOwn folders queue from later paths
  own_to from to later less [] own = tt
  own_to from to later less (q ∷ paths) own = ((own.0.0, own.0.1, omega (arith, less, own.0.2), own.0.3), own_to from to later less paths own.1)

  -- what is deleted of files with these names
  pub deleted_own : (room seq to : ℕ) (files : List SealedFile) → seq + length files ≤ to → AreNamedFrom folders queue seq (map (λ f. f.path) files) → AreOwn folders queue seq to (deleted_of room files)
  deleted_own room seq to [] fits named = tt
  deleted_own room seq to (f ∷ files) fits named =
      by_test (is_spared room f.version) (own_from seq (suc seq) to (omega arith) (deleted_of (room - 1) files) (deleted_own (room - 1) (suc seq) to files (omega arith) named.1))
      (own_from seq (suc seq) to (omega arith) (deleted_of room files) (deleted_own room (suc seq) to files (omega arith) named.1))
    where
      by_test : (b : Bool) → AreOwn folders queue seq to (deleted_of (room - 1) files) → AreOwn folders queue seq to (deleted_of room files) → AreOwn folders queue seq to (if b then deleted_of (room - 1) files else f.path ∷ deleted_of room files)
      by_test true spared deleted = spared
      by_test false spared deleted = ((seq, omega arith, omega arith, named.0), deleted)

  -- a file of none of their numbers stays
  pub stays_without : (q : Path) (from to : ℕ) (paths : List Path) (n : Directory) → AreOwn folders queue from to paths → ((k : ℕ) → from ≤ k → k < to → IsPathOf (all_of folders) queue k q → ⊥) → file_at (without_files paths n) q ≡ file_at n q
  stays_without q from to [] n own apart = refl
  stays_without q from to (path ∷ paths) n own apart =
      stays_without q from to paths (without_file path n) own.1 apart
      ∙ file_at-removed_other path q n (λ e. apart own.0.0 own.0.1 own.0.2 (subst (IsPathOf (all_of folders) queue own.0.0) (sym e) own.0.3))

-- Lists.

pub take-files_from : (count seq : ℕ) (paths : List Path) → take count (files_from seq paths) ≡ files_from seq (take count paths)
take-files_from zero seq paths = refl
take-files_from (suc count) seq [] = refl
take-files_from (suc count) seq (path ∷ paths) = ap (λ fs. (seq, path) ∷ fs) (take-files_from count (suc seq) paths)

pub drop-files_from : (count seq start : ℕ) (paths : List Path) → start ≡ seq + count → count ≤ length paths → drop count (files_from seq paths) ≡ files_from start (drop count paths)
drop-files_from zero seq start paths is few = ap (λ k. files_from k paths) (let e : seq ≡ start = omega arith in e)
drop-files_from (suc count) seq start [] is few = absurd (omega arith)
drop-files_from (suc count) seq start (path ∷ paths) is few = drop-files_from count (suc seq) start paths (omega arith) (omega arith)

pub take-places_of : (count : ℕ) (files : List QueueFile) → take count (places_of files) ≡ places_of (take count files)
take-places_of zero files = refl
take-places_of (suc count) [] = refl
take-places_of (suc count) (f ∷ files) = ap (λ fs. (f.seq, f.path) ∷ fs) (take-places_of count files)

pub drop-places_of : (count : ℕ) (files : List QueueFile) → drop count (places_of files) ≡ places_of (drop count files)
drop-places_of zero files = refl
drop-places_of (suc count) [] = refl
drop-places_of (suc count) (f ∷ files) = drop-places_of count files

pub paths_of_places : (files : List QueueFile) → map (λ (g : ℕ × Path). g.1) (places_of files) ≡ map (λ (f : QueueFile). f.path) files
paths_of_places [] = refl
paths_of_places (f ∷ files) = ap (λ ps. f.path ∷ ps) (paths_of_places files)

pub paths_of_files_from : (seq : ℕ) (paths : List Path) → map (λ (g : ℕ × Path). g.1) (files_from seq paths) ≡ paths
paths_of_files_from seq [] = refl
paths_of_files_from seq (path ∷ paths) = ap (λ ps. path ∷ ps) (paths_of_files_from (suc seq) paths)
