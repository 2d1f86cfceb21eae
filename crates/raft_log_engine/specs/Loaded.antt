-- Entries whose bytes are lent.
use Rattle.std.specs.Prelude.{◌≡◌, ℕ, false, List, Option, Some, None}
use Rattle.raft_env.specs.declared.env.FileSystem.{Ghosts}
use Rattle.raft_records.specs.Places.{bytes_in}
use Rattle.raft_records.specs.declared.entry_index.EntryPlace.{EntryPlace}
use Rattle.raft_queues.specs.Dual.{both_blocks_now}
use Rattle.raft_entry_blocks.specs.Recent.{IsFirst}
use Rattle.raft_log_engine.specs.Engine.{directory_of, has_failed}
use Rattle.raft_log_engine.specs.declared.engine.Engine.{Engine}

module _ {F H R W : Type 0} {g : Ghosts F H R W} where
  -- these bytes are at a place of the block that was used last
  pub record IsLoaded (e : Engine F H R W g) (bytes : List ℕ) (place : EntryPlace) : Type 0 where
    pub stands : has_failed e ≡ false
    pub first : IsFirst place.block e.log.cache
    pub bytes_are : bytes_in (both_blocks_now e.log.store.pipes (directory_of e)) place ≡ bytes

  -- the place of the bytes of a requested entry, or none if there is no such entry
  abbrev pub IsLoadAnswer : Engine F H R W g → Option (List ℕ) → Option EntryPlace → Type 0
  IsLoadAnswer e None answer = answer ≡ None
  IsLoadAnswer e (Some bytes) None = ⊥
  IsLoadAnswer e (Some bytes) (Some place) = IsLoaded e bytes place
