-- What the purges of an engine do to it, with listeners and without.
use Rattle.std.specs.Prelude.{◌≡◌, ◌↔◌, ◌⊎◌, ℕ, true, false, [], Err, IfErr, IfOk, None, OnErr, OnOk, Option, Result, Some, Vec, is_ok}
use Rattle.std.specs.List.Sorted.{IsStrictlySortedBy}
use Rattle.std.specs.Ordering.{nat_cmp}
use Rattle.std.specs.declared.alloc.Global.{Global}
use Rattle.raft_base.specs.declared.errors.Fault.{Fault}
use Rattle.raft_base.specs.declared.errors.Fault.TheVariants as fault
use Rattle.raft_base.specs.declared.pipe_log.LogQueue.TheVariants.{Append}
use Rattle.raft_base.specs.declared.pipe_log.LogQueue.{LogQueue}
use Rattle.raft_env.specs.declared.env.FileSystem.{Ghosts}
use Rattle.raft_listeners.specs.Heard.{HasHeard, Heard}
use Rattle.raft_purge.specs.Expired.{MovesDue}
use Rattle.raft_tables.specs.Counters.{deleted_count}
use Rattle.raft_tables.specs.Tables.{tables_of}
use Rattle.raft_crash_laws.specs.Crash.{LeavesAllowed}
use Rattle.raft_stale.specs.Dropping.{KeepsFront}
use Rattle.raft_stale.specs.Scope.{HasLostFront}
use Rattle.raft_log_engine.specs.Advance.{ChangesOnlyItsLog, StaysWithin, state_of}
use Rattle.raft_log_engine.specs.Durability.{Progresses, StaysFailed, durability_of}
use Rattle.raft_log_engine.specs.Engine.{contents_of, directory_of, durable_of, folders_of, has_failed, queue_of, refusals_of, rewrite_queue_of, spans_of, unsynced_of}
use Rattle.raft_log_engine.specs.Events.{AreRecordsCut, HearsPurge}
use Rattle.raft_log_engine.specs.Expired.{AsksBarrier, HasPurgedExpired}
use Rattle.raft_log_engine.specs.Need.{append_rewrite_watermark, needs_of}
use Rattle.raft_log_engine.specs.Purge.{Frees, HasFreed, HasLastId, HasOpenGroup, IsFailureCause, IsPurgeFault, LacksId, LeavesNewFiles, LeavesOpen, OwesTooMuch, files_behind, next_files, queue_freed}
use Rattle.raft_log_engine.specs.declared.engine.Engine.{Engine}
use Rattle.raft_log_engine.specs.declared.engine.purge_kind.Purge.{Purge}
use Rattle.raft_log_engine.specs.declared.engine.purge_kind.Purge.TheVariants.{DropStale, RewriteAppend, RewriteRewrite}

module _ {F H R W : Type 0} {g : Ghosts F H R W} where
  -- each purge keeps all contents; a crash at any moment leaves what it could leave before
  pub record PurgesLog {T : Type 0} (queue : LogQueue) (ends_open no_id : Type 0)
      (result : Result T Fault) (old new : Engine F H R W g) : Type 0 where
    pub contents : contents_of new ≡ contents_of old
    pub progress : Progresses [] (is_ok result) [] (durability_of old) (durability_of new)
    pub any_moment : StaysWithin (LeavesAllowed (folders_of old) (durable_of old) (unsynced_of old))
        (state_of old) (state_of new)
    pub others : ChangesOnlyItsLog (state_of old) (state_of new)
    -- if the engine fails in it, the queue has dropped no file
    pub front :
        has_failed old ≡ false → has_failed new ≡ true → KeepsFront queue old.log.store.pipes new.log.store.pipes
    pub path :
        has_failed old ≡ false → has_failed new ≡ true → IfErr result (IsFailureCause ends_open new.log.store.pipes
        (directory_of new) (refusals_of old) (refusals_of new))
    pub cause :
        has_failed old ≡ false → IfErr result (IsPurgeFault (contents_of old) (queue_of new)
        (rewrite_queue_of new) ends_open (no_id ⊎ OwesTooMuch old new) (folders_of old)
        (has_failed new) (refusals_of old) (refusals_of new))

  -- the files that a purge leaves, the number that it returns, what it moves; the rounds stay
  pub record FreesFiles (purge : Purge) (result : Result ℕ Fault) (old new : Engine F H R W g)
      : Type 0 where
    pub value : IfOk result (HasFreed purge old.log.store.pipes new.log.store.pipes)
    pub freed : Frees purge result old.log.tables new.log.tables old.log.stats new.log.stats old.log.groups new.log.groups
        old.log.store.pipes new.log.store.pipes
    pub rounds : new.rounds ≡ old.rounds
    -- short calls that were under way end, unless it is the next one of them, or refused
    pub renewal :
        LeavesNewFiles result (files_behind purge (next_files old)) old.renewal new.renewal

  -- one of the `must_` purges
  pub record IsPurge (purge : Purge) (old new : Engine F H R W g) (result : Result ℕ Fault)
      : Type 0 where
    pub log : PurgesLog (queue_freed purge) (LeavesOpen purge new) (LacksId purge new) result old new
    pub files : FreesFiles purge result old new
    pub failed : (result ≡ Err fault.Failed) ↔ (has_failed old ≡ true)
    pub unchanged : has_failed old ≡ true → StaysFailed old new

  -- IsPurge, of a rewriting of the Append queue, for callers that can't name a kind of purge
  abbrev pub IsAppendRewrite : Option ℕ → Option ℕ → Engine F H R W g → Engine F H R W g
      → Result ℕ Fault → Type 0
  IsAppendRewrite watermark step old new result =
      IsPurge (RewriteAppend (record { watermark = watermark; step = step })) old new result

  -- IsPurge, of a rewriting of the Rewrite queue
  abbrev pub IsRewriteRewrite : Engine F H R W g → Engine F H R W g → Result ℕ Fault → Type 0
  IsRewriteRewrite old new result = IsPurge RewriteRewrite old new result

  -- IsPurge, of a drop of the files in which nothing is left
  abbrev pub IsStalePurge : Engine F H R W g → Engine F H R W g → Result ℕ Fault → Type 0
  IsStalePurge old new result = IsPurge DropStale old new result

  -- what a purge by watermarks with this barrier returns and moves; after `Ok` it counts rounds
  pub record FreesExpired (barrier : ℕ) (result : Result (Vec ℕ Global) Fault)
      (old new : Engine F H R W g) : Type 0 where
    pub value : IfOk result (λ asked. HasPurgedExpired barrier old new asked.items)
    pub ascending : IfOk result (λ asked. IsStrictlySortedBy nat_cmp asked.items)
    pub rounds : OnErr result (new.rounds ≡ old.rounds)
    -- short calls that were under way end with it
    pub renewal : LeavesNewFiles result None old.renewal new.renewal
    pub first : OnErr result (HasLostFront (Some barrier) new.log.tables (queue_of old) (queue_of new))
    -- places change by a renewal if that is due, then up to the watermark if that is due
    pub moved : OnOk result (MovesDue (needs_of old).rewrite (append_rewrite_watermark old)
        (tables_of old.log.tables) (tables_of new.log.tables))
    -- a renewal without a rewriting of the Append queue starts its counters again at 0
    pub counted : OnOk result ((needs_of old).rewrite ≡ true → (needs_of old).append ≡ None
        → deleted_count new.log.stats ≡ 0)

  -- a purge by watermarks
  pub record IsExpiry (barrier : ℕ) (old new : Engine F H R W g)
      (result : Result (Vec ℕ Global) Fault) : Type 0 where
    pub log : PurgesLog Append (HasOpenGroup new) (HasLastId new) result old new
    pub expired : FreesExpired barrier result old new
    pub failed : (result ≡ Err fault.Failed) ↔ (has_failed old ≡ true)
    pub unchanged : has_failed old ≡ true → StaysFailed old new

  -- what listeners hear of a purge, unless the engine fails in it; nothing if it had failed
  pub record HearsOfPurge {T : Type 0} (rests : ℕ) (result : Result T Fault)
      (old new : Engine F H R W g) (heard heard' : Heard) : Type 0 where
    pub told : has_failed new ≡ false → HearsPurge (λ records. OnOk result (AreRecordsCut rests records))
        (spans_of old) (spans_of new) heard heard'
    pub silent : has_failed old ≡ true → HasHeard [] heard heard'

  -- listeners are asked for the barrier, and hear of the purge with it
  pub record HearsExpired (result : Result (Vec ℕ Global) Fault) (old new : Engine F H R W g)
      (heard heard' : Heard) : Type 0 where
    pub barrier : ℕ
    pub after : Heard
    pub asks : AsksBarrier old barrier heard after
    pub frees : FreesExpired barrier result old new
    pub hears : HearsOfPurge 2 result old new after heard'
