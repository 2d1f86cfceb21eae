-- What the end of an atomic group makes of the log, and of the tables.
use Rattle.std.specs.Prelude.{◌≡◌, ◌≤◌, ◌++◌, ℕ, IfErr, List, [], None, OnOk, Result}
use Rattle.std.specs.List.{AllByRecursion as Each}
use Rattle.raft_env.specs.declared.env.FileSystem.{Ghosts as FsGhosts}
use Rattle.raft_listeners.specs.declared.event_sink.EventSink.{Ghosts}
use Rattle.raft_listeners.specs.declared.purge_events.PurgeEvents.{PurgeEvents}
use Rattle.raft_pipes.specs.PipeState.{last_seq}
use Rattle.raft_records.specs.PlacedItem.{PlacedItem}
use Rattle.raft_records.specs.declared.entry_index.EntryPlace.{EntryPlace}
use Rattle.raft_tables.specs.Tables.{or_empty, tables_of}
use Rattle.raft_purge_steps.specs.Cut.{KeepsCut}
use Rattle.raft_purge_steps.specs.Faults.{IsPurgeRefusal}
use Rattle.raft_purge_steps.specs.Store.{Moves, RefusedBy}
use Rattle.raft_purge_steps.specs.Unfit.{IsUnfitAnew}
use Rattle.raft_purge_steps.specs.declared.fault.StepFault.{StepFault}
use Rattle.raft_purge_steps.specs.declared.log.Log.{Log}
use Rattle.raft_rewrite.specs.Emptied.{MovesOnly}
use Rattle.raft_rewrite.specs.EmptiedAnew.{AreSetFrom, IsAllFrom, StandsFrom}
use Rattle.raft_rewrite.specs.OpenGroup.{EndsGroup, IsOpen}
use Rattle.raft_rewrite.specs.RenewGathering.{IsRenewed, RecoversRenewal, entries_to_move}
use Rattle.raft_rewrite.specs.Rewriter.{gathered as gathered_in}
use Rattle.raft_rewrite.specs.Rewrites.{RewritesIn}
use Rattle.raft_rewrite.specs.declared.group_rewriter.GroupRewriter.{GroupRewriter}

module _ {F H R W : Type 0} (fs : FsGhosts F H R W) where
  -- a call writes the last entries of a group and its values, and so ends its atomic group
  pub record EndsAtomic {T L : Type 0} {g : Ghosts L} (result : Result T StepFault) (id group : ℕ)
      (entries : List (ℕ × EntryPlace)) (placed : List PlacedItem) (r r' : GroupRewriter)
      (l l' : Log F H R W) (events events' : PurgeEvents L g) : Type 0 where
    -- no atomic group is open afterwards, and nothing is gathered
    pub ok : OnOk result ((later : List ℕ) → EndsGroup id
        (IsOpen id group entries placed (gathered_in fs r l))
        (IsRenewed later (gathered_in fs r' l')))
    pub gathered : OnOk result (r'.rewriting.batch.items ≡ [])
    pub any_moment : Moves fs (RecoversRenewal (IsOpen id group entries placed (gathered_in fs r l)))
        l.store l'.store
    pub rewrites : RewritesIn fs result KeepsCut r r' l.store l'.store events events'
    -- nothing of the group is left in old files, if these and earlier batches were all of it
    pub emptied : OnOk result ((first : ℕ) (done : List (ℕ × EntryPlace))
        → first ≤ last_seq l.store.pipes.rewrite → r.rewriting.watermark ≡ None
        → AreSetFrom first group done placed
        → done ++ entries ≡ entries_to_move (gathered_in fs r l) group
        → IsAllFrom first (or_empty (tables_of l'.tables group)))
    -- a group that had nothing in the old files still has nothing there
    pub moved : OnOk result ((first : ℕ) → first ≤ last_seq l.store.pipes.rewrite
        → r.rewriting.watermark ≡ None → Each (λ item. StandsFrom first item.content) placed
        → (other : ℕ) → IsAllFrom first (or_empty (tables_of l.tables other))
        → IsAllFrom first (or_empty (tables_of l'.tables other)))
    pub only : OnOk result (MovesOnly r.rewriting.watermark (tables_of l.tables) (tables_of l'.tables))
    pub cause : IfErr result (RefusedBy fs IsPurgeRefusal l.store l'.store
        (IsUnfitAnew (IsOpen id group entries placed (gathered_in fs r l))))
