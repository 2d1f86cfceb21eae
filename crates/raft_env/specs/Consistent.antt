-- What every call keeps of a file: outside the ranges of its changes it holds the bytes of the last
-- sync, and each change began with what the one before it left. Files in memory keep more: of their
-- changes only writes failed.
use Rattle.std.specs.Prelude.{◌≡◌, ℕ, ◌<◌, ◌≤◌, ◌++◌, false, List, [], ◌∷◌, length, Some, slice_index}
use Rattle.std.proofs.Props.{props}
use Rattle.raft_env.specs.Outcomes.{File, Change, OnlyWritesFailed, bytes_after, is_touched}
use Rattle.raft_env.specs.Directory.{Directory, Path, file_at}

-- the range of a change holds the bytes that it gave
abbrev pub HasItsRange : Change → Type 0
HasItsRange c = length c.given ≤ c.size

-- the length that it left is one that the file may have had
abbrev pub HasItsLength : Change → Type 0
HasItsLength c = (c.shortest ≤ length c.after) × (length c.after ≤ c.longest)

-- the newest of these changes left these bytes, and each began with what the one before it left
abbrev pub IsPastOf : List ℕ → List Change → Type 0
IsPastOf bytes [] = Unit {0}
IsPastOf bytes (c ∷ changes) = (c.after ≡ bytes) × HasItsRange c × HasItsLength c
    × IsPastOf c.before changes

-- which is a proposition, so that a file system can keep it
pub past_prop : (bytes : List ℕ) (changes : List Change) → IsProp (IsPastOf bytes changes)
past_prop bytes [] = Prim.hlevel props
past_prop bytes (c ∷ changes) = Prim.hlevel (props, past_prop c.before changes)

-- a file is what its changes made of it
pub record IsConsistent (file : File) : Type 0 where
  pub latest : file.now ≡ bytes_after file.synced file.changes
  pub untouched : (i : ℕ) → i < length file.synced → is_touched file.changes i ≡ false
      → (i < length file.now) × (slice_index file.now i ≡ slice_index file.synced i)
  -- its changes, and those before its last sync
  pub past : IsPastOf file.now (file.changes ++ file.older)
  pub earlier : IsPastOf file.synced file.older

-- IsConsistent, of each file
abbrev pub AreConsistent : Directory → Type 0
AreConsistent n = (path : Path) (file : File) → file_at n path ≡ Some file → IsConsistent file

-- only writes failed among all changes of the file at a path
abbrev pub OnlyWritesFailedAt : Path → Directory → Type 0
OnlyWritesFailedAt path n = (file : File) → file_at n path ≡ Some file
    → OnlyWritesFailed (file.changes ++ file.older)

-- OnlyWritesFailedAt each path
abbrev pub OnlyWritesFailedIn : Directory → Type 0
OnlyWritesFailedIn n = (path : Path) → OnlyWritesFailedAt path n
