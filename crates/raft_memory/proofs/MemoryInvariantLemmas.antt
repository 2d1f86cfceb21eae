-- What is true of files in memory, whatever calls were made.
use Rattle.std.proofs.Common.{◌≡◌, ℕ, ◌≤◌, true, false, Bool, cond, List, [], ◌++◌, length, take, Option, Some, None, is_some, refl, sym, subst, ap, inl, inr, arith}
use Rattle.std.specs.FinMap as finite
use Rattle.std.specs.Prelude.{nat_le}
use Rattle.std.proofs.lemmas.Bool.{leb-true}
use Rattle.std.proofs.lemmas.List.{length-take, take_all}
use Rattle.std.proofs.lemmas.List.Elements.{All-cons, All-nil}
use Rattle.raft_env.specs.Outcomes.{File, Outcome, IsPartOf, IsWriteIfFailed, OnlyWritesFailed, file_after_write, file_after_resize, synced_of, synced_file, renamed_of, overlay, pad_to}
use Rattle.raft_env.specs.Directory.{Directory, Path, file_at, with_file, update_file, update_at, after_create, after_rename, without_file, folder_made}
use Rattle.raft_env.specs.Consistent.{IsConsistent, AreConsistent, OnlyWritesFailedIn}
use Rattle.raft_memory.specs.Memory.{memory_directory, no_files, after_first}
use Rattle.raft_memory.specs.declared.memory.MemoryFileSystem.{MemoryFileSystem}
use Rattle.raft_env.proofs.DirectoryLemmas.{writing_part}
use Rattle.raft_env.proofs.ConsistentLemmas.{placed_cases, settled_consistent, synced_consistent, renamed_consistent, renamed_each, without_each, written_consistent, allocated_consistent, cut_consistent}

-- the ghost fields of a file system in memory
abbrev pub Invariant : Directory → Type 0
Invariant n = record { consistent : AreConsistent n; only_writes : OnlyWritesFailedIn n }

-- Files.

-- what they say of one file
pub record Holds (file : File) : Type 0 where
  pub consistent : IsConsistent file
  pub only_writes : OnlyWritesFailed (file.changes ++ file.older)

pub settled_holds : (bytes : List ℕ) → Holds (synced_file bytes)
settled_holds bytes = record { consistent = settled_consistent bytes; only_writes = All-nil IsWriteIfFailed }

synced_holds : (file : File) → Holds file → Holds (synced_of file)
synced_holds file old = record { consistent = synced_consistent file old.consistent; only_writes = old.only_writes }

renamed_holds : (file : File) → Holds file → Holds (renamed_of file)
renamed_holds file old = record { consistent = renamed_consistent file old.consistent; only_writes = old.only_writes }

written_holds : (at : ℕ) (given after : List ℕ) (is_done : Bool) (file : File) → Holds file → IsConsistent (file_after_write at given is_done after file) → Holds (file_after_write at given is_done after file)
written_holds at given after is_done file old consistent = record {
  consistent = consistent;
  only_writes = All-cons IsWriteIfFailed _ (file.changes ++ file.older) (λ refused. refl) old.only_writes;
}

resized_holds : (after : List ℕ) (file : File) → Holds file → IsConsistent (file_after_resize after file) → Holds (file_after_resize after file)
resized_holds after file old consistent = record {
  consistent = consistent;
  only_writes = All-cons IsWriteIfFailed _ (file.changes ++ file.older) (λ refused. absurd cc) old.only_writes;
}

-- what a write of the first bytes leaves: all of them, or others in its range alone
pub first_outcome : (at : ℕ) (given : List ℕ) (count : ℕ) (now : List ℕ) → Outcome (nat_le (length given) count) (overlay now at given) (IsPartOf at (length given) now) (overlay now at (take count given))
first_outcome at given count now = by_test (nat_le (length given) count) refl
  where
    by_test : (all : Bool) → nat_le (length given) count ≡ all → Outcome all (overlay now at given) (IsPartOf at (length given) now) (overlay now at (take count given))
    by_test true is = ap (overlay now at) (take_all count given (leb-true (length given) count is))
    by_test false is = writing_part at given (take count given) (omega (arith, length-take count given)) now

-- Directories.

abbrev pub Each : Directory → Type 0
Each n = (path : Path) (file : File) → file_at n path ≡ Some file → Holds file

pub of_each : (n : Directory) → Each n → Invariant n
of_each n each = record {
  consistent = λ path file stands. (each path file stands).consistent;
  only_writes = λ path file stands. (each path file stands).only_writes;
}

pub placed_each : (path : Path) (file : File) (n : Directory) → Each n → Holds file → Each (with_file path file n)
placed_each path file n each holds q found stands = elim (placed_cases path q file found n stands) [
  | inl same ↦ subst Holds same holds
  | inr stood ↦ each q found stood
]

module _ (m : MemoryFileSystem) (new : Directory) where
  each_now : Each (memory_directory m)
  each_now path file stands = record { consistent = m.consistent path file stands; only_writes = m.only_writes path file stands }

  pub invariant-same : new ≡ memory_directory m → Invariant new
  invariant-same same = subst Invariant (sym same) (of_each (memory_directory m) each_now)

  invariant-changed : (path : Path) (step : File → File) → ((file : File) → Holds file → Holds (step file)) → new ≡ update_file path step (memory_directory m) → Invariant new
  invariant-changed path step holds is = subst Invariant (sym is) (of_each (update_file path step (memory_directory m)) (by_file (file_at (memory_directory m) path) refl))
    where
      by_file : (found : Option File) → file_at (memory_directory m) path ≡ found → Each (update_at path step found (memory_directory m))
      by_file None none = each_now
      by_file (Some file) stands = placed_each path (step file) (memory_directory m) each_now (holds file (each_now path file stands))

  pub invariant-written : (path : Path) (at : ℕ) (given : List ℕ) → new ≡ update_file path (λ f. file_after_write at given true (overlay f.now at given) f) (memory_directory m) → Invariant new
  invariant-written path at given = invariant-changed path _ (λ file holds. written_holds at given _ true file holds (written_consistent at given _ true file holds.consistent refl))

  -- a failed write
  pub invariant-written_part : (path : Path) (at : ℕ) (given kept : List ℕ) → length kept ≤ length given → new ≡ update_file path (λ f. file_after_write at given false (overlay f.now at kept) f) (memory_directory m) → Invariant new
  invariant-written_part path at given kept part = invariant-changed path _ (λ file holds. written_holds at given _ false file holds (written_consistent at given _ false file holds.consistent (writing_part at given kept part file.now)))

  -- a write of so many of its bytes
  pub invariant-written_first : (path : Path) (at : ℕ) (given : List ℕ) (count : ℕ) → new ≡ update_file path (after_first at given count) (memory_directory m) → Invariant new
  invariant-written_first path at given count = invariant-changed path _ (λ file holds. written_holds at given _ _ file holds (written_consistent at given _ _ file holds.consistent (first_outcome at given count file.now)))

  pub invariant-cut : (path : Path) (size : ℕ) → new ≡ update_file path (λ f. file_after_resize (take size f.now) f) (memory_directory m) → Invariant new
  invariant-cut path size = invariant-changed path _ (λ file holds. resized_holds _ file holds (cut_consistent size _ true file holds.consistent refl))

  pub invariant-lengthened : (path : Path) (size : ℕ) → new ≡ update_file path (λ f. file_after_resize (pad_to f.now size) f) (memory_directory m) → Invariant new
  invariant-lengthened path size = invariant-changed path _ (λ file holds. resized_holds _ file holds (allocated_consistent size _ true file holds.consistent refl))

  pub invariant-synced : (path : Path) → new ≡ update_file path synced_of (memory_directory m) → Invariant new
  invariant-synced path = invariant-changed path synced_of synced_holds

  pub invariant-created : (path : Path) → new ≡ after_create path (memory_directory m) → Invariant new
  invariant-created path is = subst Invariant (sym is) (of_each (after_create path (memory_directory m)) (by_test (is_some (file_at (memory_directory m) path))))
    where
      by_test : (stands : Bool) → Each (cond stands (memory_directory m) (with_file path (synced_file []) (memory_directory m)))
      by_test true = each_now
      by_test false = placed_each path (synced_file []) (memory_directory m) each_now (settled_holds [])

  pub invariant-deleted : (path : Path) → new ≡ without_file path (memory_directory m) → Invariant new
  invariant-deleted path is = subst Invariant (sym is) (of_each (without_file path (memory_directory m)) (without_each Holds path (memory_directory m) each_now))

  pub invariant-renamed : (from to : Path) → new ≡ after_rename from to (memory_directory m) → Invariant new
  invariant-renamed from to is = subst Invariant (sym is) (of_each (after_rename from to (memory_directory m)) (renamed_each Holds from to (memory_directory m) renamed_holds each_now))

  pub invariant-folder_made : (path : Path) → new ≡ folder_made path (memory_directory m) → Invariant new
  invariant-folder_made path is = subst Invariant (sym is) (of_each (folder_made path (memory_directory m)) each_now)

-- no file stands, whatever folders do
pub no_files_each : (is_folder : Path → Bool) → Each (record { files = finite.empty; is_folder = is_folder })
no_files_each is_folder path file stands =
    let none : file_at (record { files = finite.empty; is_folder = is_folder }) path ≡ None = finite.get-empty _ path in
    absurd (cc (none, stands))

pub invariant-no_files : (n : Directory) → n ≡ no_files → Invariant n
invariant-no_files n is = subst Invariant (sym is) (of_each no_files (no_files_each no_files.is_folder))
