-- A log in a renewal, and one with an open atomic group in its Rewrite queue.
use Rattle.std.specs.Prelude.{ℕ, List, map}
use Rattle.raft_env.specs.declared.env.FileSystem.{Ghosts}
use Rattle.raft_records.specs.LogItem.{placed_item_of}
use Rattle.raft_records.specs.Places.{placed_entry}
use Rattle.raft_records.specs.declared.entry_index.EntryIndex.{EntryIndex}
use Rattle.raft_records.specs.declared.log_item.LogItem.{LogItem}
use Rattle.raft_tables.specs.Owed.{Owed}
use Rattle.raft_tables.specs.Tables.{Tables}
use Rattle.raft_crash_laws.specs.Log.{KnownGroups}
use Rattle.raft_crash_laws.specs.Renewal.{Renewal}
use Rattle.raft_purge_steps.specs.Steps.{LogValue}
use Rattle.raft_purge_steps.specs.declared.log.Log.{Log}
use Rattle.raft_purge_steps.specs.declared.log_store.LogStore.{LogStore}
use Rattle.raft_rewrite.specs.OpenGroup.{IsOpen, MayBegin}
use Rattle.raft_rewrite.specs.RenewGathering.{IsEnded, IsRenewed}
use Rattle.raft_rewrite.specs.Rewriter.{gathered, gathered_of}
use Rattle.raft_rewrite.specs.declared.group_rewriter.GroupRewriter.{GroupRewriter}
use Rattle.raft_rewrite.specs.declared.group_rewriter.open_group.OpenGroup.{OpenGroup}

module _ {F H R W : Type 0} (fs : Ghosts F H R W) where
  -- a log in a renewal, of which all groups before these are written or gathered
  abbrev pub Renewed : List ℕ → GroupRewriter → Log F H R W → Owed → KnownGroups → Renewal
      → LogValue → Type 0
  Renewed later r l = IsRenewed later (gathered fs r l)

  -- a log that is in no renewal any more
  abbrev pub Ended : GroupRewriter → Log F H R W → Owed → KnownGroups → Renewal → LogValue → Type 0
  Ended r l = IsEnded (gathered fs r l)

  -- an atomic group is open; these entries are to be written, and these items are placed
  abbrev pub OpenIn : OpenGroup → List EntryIndex → List LogItem → GroupRewriter
      → LogStore F H R W → Tables → Owed → KnownGroups → Renewal → LogValue → Type 0
  OpenIn atomic entries placed r s t = IsOpen atomic.mark.id atomic.group (map placed_entry entries)
      (map placed_item_of placed) (gathered_of fs r s t)

  -- a group with these entries may be written as this atomic group
  abbrev pub MayBeginIn : OpenGroup → List EntryIndex → GroupRewriter → LogStore F H R W → Tables
      → Owed → KnownGroups → Renewal → LogValue → Type 0
  MayBeginIn atomic entries r s t =
      MayBegin atomic.mark.id atomic.group (map placed_entry entries) (gathered_of fs r s t)
