-- In which of the folders a new file is made.
use Rattle.std.specs.Prelude.{◌≡◌, ℕ, List, ◌++◌, Some, length, slice_get}
use Rattle.raft_env.specs.Directory.{Directory, Path}
use Rattle.raft_pipes.specs.FileList.{place_with_room}

-- of storage, by what it shows of its moments and of free space
module _ {FileSystem : Type 0} (moments : FileSystem → List Directory)
    (free : FileSystem → Path → ℕ) where
  -- a state of storage in a call
  pub record IsWithin (old new n : FileSystem) : Type 0 where
    pub before : List Directory
    pub after : List Directory
    pub begins : moments n ≡ before ++ moments old
    pub ends : moments new ≡ after ++ moments n

  -- by what the folders told in a call, the place is that of the first one with room for so many
  -- bytes, else 0
  abbrev pub HasRoomAt : ℕ → List Path → FileSystem → FileSystem → ℕ → Type 0
  HasRoomAt size folders old new place = (asked : FileSystem) × IsWithin old new asked
      × (place ≡ place_with_room size (free asked) folders)

  -- the path is that of such a place among these, one for each folder
  abbrev pub IsMadeAmong : List Path → ℕ → List Path → FileSystem → FileSystem → Path → Type 0
  IsMadeAmong paths size folders old new path = (place : ℕ) × HasRoomAt size folders old new place
      × (length paths ≡ length folders → slice_get paths place ≡ Some path)
