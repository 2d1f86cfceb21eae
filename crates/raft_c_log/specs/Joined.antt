-- Calls on an open log, one after the other.
use mathlib.Core.Logic.{inl, inr}
use Rattle.std.specs.Prelude.{◌≡◌, ◌⊎◌, Bool, true, false, List, [], ◌∷◌, ◌++◌, Option, None, Some, option_map, zip, ℤ}
use Rattle.raft_records.specs.Contents.{Contents}
use Rattle.raft_records.specs.Item.{Batch}
use Rattle.raft_env.specs.declared.env.FileSystem.{Ghosts}
use Rattle.raft_crash_laws.specs.Crash.{LeavesAllowed, pending_of}
use Rattle.raft_log_engine.specs.Advance.{ChangesOnlyItsLog, LogState, StaysWithin, state_of}
use Rattle.raft_log_engine.specs.Engine.{contents_of, durable_of, folders_of, unsynced_of}
use Rattle.raft_log_engine.specs.Once.{acting_batch}
use Rattle.raft_log_engine.specs.Reads.{compact_batch}
use Rattle.raft_log_engine.specs.declared.engine.Engine.{Engine}
use Rattle.raft_c_batch.specs.Batch.{read_batch}
use Rattle.raft_c_log.specs.Outcomes.{HasEnded, IsReply}
use Rattle.raft_c_log.specs.declared.answer.Answer.{Answer}
use Rattle.raft_c_log.specs.declared.calls.Change.{Change}
use Rattle.raft_c_log.specs.declared.calls.Change.TheVariants.{Write, WriteOnce, Sync, CompactTo, RewriteAppendQueue, RewriteAppendGroups, RewriteRewriteQueue, RewriteRewriteGroups, PurgeAllStale, PurgeExpired}
use Rattle.raft_c_log.specs.declared.calls.Query.{Query}

-- a change that makes everything durable if it succeeds
abbrev pub is_covering : Change → Bool
is_covering (Write bytes sync) = sync
is_covering (WriteOnce bytes groups numbers sync) = sync
is_covering Sync = true
is_covering (CompactTo group index) = false
is_covering RewriteAppendQueue = true
is_covering (RewriteAppendGroups watermark from budget) = true
is_covering RewriteRewriteQueue = true
is_covering (RewriteRewriteGroups from budget) = true
is_covering PurgeAllStale = true
is_covering (PurgeExpired barrier) = true

-- what a crash may find written of a batch that was read of bytes, if one was
abbrev pub pending_in : Contents → Option Batch → List Batch
pending_in m None = []
pending_in m (Some items) = pending_of m items

-- what a crash may find written of a change at these contents: nothing of a purge or a sync
abbrev pub flight_of : Change → Contents → List Batch
flight_of (Write bytes sync) m = pending_in m (read_batch bytes.now)
flight_of (WriteOnce bytes groups numbers sync) m = pending_in m
    (option_map (λ items. acting_batch m items (zip groups.now numbers.now)) (read_batch bytes.now))
flight_of (CompactTo group index) m = pending_of m (compact_batch group index (m.entries group))
flight_of _ m = []

-- a call on a log
abbrev pub Asked : Type 0
Asked = Change ⊎ Query

-- what a call may write: a query writes nothing
abbrev pub may_write : Asked → Contents → List Batch
may_write (inl change) m = flight_of change m
may_write (inr q) m = []

module _ {F H R W : Type 0} {g : Ghosts F H R W} where
  -- a call returned, with some code and result
  abbrev pub IsAnswered : Asked → Engine F H R W g → Engine F H R W g → Type 0
  IsAnswered (inl change) old new = (code : ℤ) × (answer : Answer)
      × HasEnded change code old new answer
  IsAnswered (inr q) old new = (code : ℤ) × (answer : Answer) × IsReply q code old new answer

  -- calls returned, each at what the one before it left
  abbrev pub AreAnswered : List Asked → Engine F H R W g → Engine F H R W g → Type 0
  AreAnswered [] old new = new ≡ old
  AreAnswered (asked ∷ more) old new =
      (mid : Engine F H R W g) × IsAnswered asked old mid × AreAnswered more mid new

-- the batches of a log since its opening: those that syncs confirmed, and those after them
abbrev pub all_in : LogState → List Batch
all_in s = s.durability.base ++ s.durability.unsynced

-- a log got these batches: what is durable stays so, and a failed log changes no file
pub record GoesOn (written : List Batch) (old new : LogState) : Type 0 where
  pub only : ChangesOnlyItsLog old new
  pub written_are : all_in new ≡ all_in old ++ written
  pub more : List Batch
  pub durable : new.durability.base ≡ old.durability.base ++ more
  pub rests :
      old.durability.failed ≡ true → (new.durability.failed ≡ true) × (new.files ≡ old.files)

module _ {F H R W : Type 0} {g : Ghosts F H R W} where
  -- one engine became another; a crash inside a next call leaves what was durable in the first
  -- one, a prefix of the rest and of what was written since, and what that call may write
  abbrev pub LeadsOn : Engine F H R W g → Engine F H R W g → Type 0
  LeadsOn old mid = (written : List Batch) × GoesOn written (state_of old) (state_of mid)
      × ((next : Asked) (new : Engine F H R W g) → IsAnswered next mid new
      → StaysWithin (LeavesAllowed (folders_of old) (durable_of old)
      ((unsynced_of old ++ written) ++ may_write next (contents_of mid))) (state_of mid)
      (state_of new))
