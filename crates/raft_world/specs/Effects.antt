-- The effect of each call, and that it follows from the call's own contract.
use Rattle.std.specs.Prelude.{◌≡◌, ◌↔◌, ℕ, Bool, true, false, List, [], ◌∷◌, ◌⊎◌, Result, Ok, Err, IfErr, IfOk, IsErrAnd, Vec, is_ok}
use Rattle.std.specs.declared.alloc.Global.{Global}
use Rattle.raft_base.specs.declared.errors.Fault.{Fault}
use Rattle.raft_base.specs.declared.errors.Fault.TheVariants as fault
use Rattle.raft_base.specs.declared.pipe_log.LogQueue.{LogQueue}
use Rattle.raft_config.specs.Folders.{folders_in}
use Rattle.raft_config.specs.declared.config.Config.{Config}
use Rattle.raft_env.specs.declared.env.FileSystem.{Ghosts}
use Rattle.raft_once.specs.History.{are_numbers}
use Rattle.raft_once.specs.Numbers.{Pair}
use Rattle.raft_records.specs.Item.{Batch}
use Rattle.raft_crash_laws.specs.Crash.{RecoversContents, pending_of, written_batch}
use Rattle.raft_log_engine.specs.Advance.{Advances, state_of}
use Rattle.raft_log_engine.specs.Calls.{IsCompaction, IsGroupWrite, IsSync, IsWrite}
use Rattle.raft_log_engine.specs.Cause.{plain_part, plain_parts}
use Rattle.raft_log_engine.specs.Durability.{HasOnlyRead, SameButArmed, StaysFailed, accepted_by, covered_by}
use Rattle.raft_log_engine.specs.Engine.{IsAllSynced, contents_of, directory_of, durable_of, folders_of, has_failed, is_known_in, unsynced_of}
use Rattle.raft_log_engine.specs.Group.{accepted_in}
use Rattle.raft_log_engine.specs.Once.{IsWriteOnce, acting_batch}
use Rattle.raft_log_engine.specs.Opening.{IsClosedIn, IsNewIn, Opens, opened_files}
use Rattle.raft_log_engine.specs.PurgeCalls.{PurgesLog}
use Rattle.raft_log_engine.specs.Reads.{compact_batch}
use Rattle.raft_log_engine.specs.declared.engine.Engine.{Engine}
use Rattle.raft_log_engine.specs.declared.engine.Refused.{Refused}
use Rattle.raft_world.specs.Call.{Closes, GivesUp, HasEffect, Reopens}
use Rattle.raft_world.specs.Ledger.{Effect}

-- a write of one batch: accepted if the call returns `Ok`, and then synced if requested
abbrev pub write_effect : {T : Type 0} → Batch → Bool → Result T Fault → Effect
write_effect batch sync result = record {
  writes = batch ∷ [];
  accepts = accepted_by result (written_batch batch);
  syncs = covered_by result sync;
}

-- a write of several batches, each accepted if its own result is `Ok`
abbrev pub group_effect : List Batch → Bool → Result (Vec (Result ℕ Fault) Global) Fault → Effect
group_effect batches sync (Ok answers) = record {
  writes = plain_parts batches;
  accepts = accepted_in answers.items batches;
  syncs = sync;
}
group_effect batches sync (Err e) =
    record { writes = plain_parts batches; accepts = []; syncs = false }

-- a sync, or a purge of any kind: it writes no batch, and syncs if it returns `Ok`
abbrev pub sync_effect : {T : Type 0} → Result T Fault → Effect
sync_effect result = record { writes = []; accepts = []; syncs = is_ok result }

-- a read
abbrev pub no_effect : Effect
no_effect = record { writes = []; accepts = []; syncs = false }

module _ {F H R W : Type 0} (g : Ghosts F H R W) where
  -- `write`, by its clauses `call` and `plain`
  abbrev pub WriteHasEffect : Type 0
  WriteHasEffect = (batch rest : Batch) (sync : Bool) (old new : Engine F H R W g)
      (result : Result ℕ Fault) → IsWrite batch rest sync old new result
      → (let part = plain_part batch in
      Advances (accepted_by result (written_batch part)) (covered_by result sync)
      (pending_of (contents_of old) part) (state_of old) (state_of new))
      → HasEffect (write_effect (plain_part batch) sync result) old new

  -- `write_once`, with numbers of eight bytes
  abbrev pub WriteOnceHasEffect : Type 0
  WriteOnceHasEffect = (batch rest : Batch) (pairs : List Pair) (sync : Bool)
      (old new : Engine F H R W g) (result : Result ℕ Fault) → are_numbers pairs ≡ true
      → IsWriteOnce batch rest pairs sync old new result
      → HasEffect (write_effect (acting_batch (contents_of old) batch pairs) sync result) old new

  -- `write_group`
  abbrev pub WriteGroupHasEffect : Type 0
  WriteGroupHasEffect = (batches rest : List Batch) (count flags : ℕ) (sync : Bool)
      (old new : Engine F H R W g) (result : Result (Vec (Result ℕ Fault) Global) Fault)
      → IsGroupWrite batches rest count flags sync old new result
      → HasEffect (group_effect batches sync result) old new

  -- `compact_to`
  abbrev pub CompactionHasEffect : Type 0
  CompactionHasEffect = (group index : ℕ) (old new : Engine F H R W g) (result : Result ℕ Fault)
      → IsCompaction group index old new result
      → let batch = compact_batch group index ((contents_of old).entries group) in
      HasEffect (write_effect batch false result) old new

  -- `sync`
  abbrev pub SyncHasEffect : Type 0
  SyncHasEffect = (old new : Engine F H R W g) (result : Result (Unit {0}) Fault)
      → IsSync old new result → HasEffect (sync_effect result) old new

  -- each purge, also in short calls, by its clauses `log` and `unchanged`; these two words are those of
  -- its `log`
  abbrev pub PurgeHasEffect : Type 0 → (Engine F H R W g → Type 0) → (Engine F H R W g → Type 0)
      → Type 0
  PurgeHasEffect T EndsOpen LacksId = (queue : LogQueue) (result : Result T Fault)
      (old new : Engine F H R W g) → PurgesLog queue (EndsOpen new) (LacksId new) result old new
      → (has_failed old ≡ true → StaysFailed old new) → HasEffect (sync_effect result) old new

  -- each read that takes `&mut self`, by its clause `unchanged`
  abbrev pub ReadHasNoEffect : Type 0
  ReadHasNoEffect = (old new : Engine F H R W g) → HasOnlyRead old new → HasEffect no_effect old new

  -- a refusal that a test arms, by its clause `unchanged`
  abbrev pub ArmingHasNoEffect : Type 0
  ArmingHasNoEffect = (old new : Engine F H R W g) → SameButArmed old new
      → HasEffect no_effect old new

  -- `close`, by its clauses `ok`, `err` and `failed`
  abbrev pub CloseEnds : Type 0
  CloseEnds = (old : Engine F H R W g) (result : Result F (Refused F))
      → IfOk result (λ files. IsClosedIn (folders_of old) (contents_of old) (is_known_in old)
      (g.directory files))
      → IfErr result (λ r. RecoversContents (folders_of old) (durable_of old) (unsynced_of old)
      (g.directory r.file_system))
      → (IsErrAnd result (λ r. r.fault ≡ fault.Failed) ↔ (has_failed old ≡ true))
      → IfOk result (Closes old) × IfErr result (λ r. GivesUp old r.file_system)

  -- `reopen`, by its clauses `contents`, `ok`, `crash`, `failed` and `unchanged`
  abbrev pub ReopenEnds : Type 0
  ReopenEnds = (old : Engine F H R W g) (result : Result (Engine F H R W g) (Refused F))
      → IfOk result (λ e. contents_of e ≡ contents_of old)
      → IfOk result (IsNewIn (folders_of old))
      → (let n = g.directory (opened_files result) in
      RecoversContents (folders_of old) (durable_of old) (unsynced_of old) n
      ⊎ RecoversContents (folders_of old) (contents_of old) [] n)
      → (IsErrAnd result (λ r. r.fault ≡ fault.Failed) ↔ (has_failed old ≡ true))
      → (has_failed old ≡ true → g.directory (opened_files result) ≡ directory_of old)
      → IfOk result (Reopens old) × IfErr result (λ r. GivesUp old r.file_system)

  -- `give_up`, by its clause `crash`
  abbrev pub GiveUpEnds : Type 0
  GiveUpEnds = (old : Engine F H R W g) (files : F)
      → RecoversContents (folders_of old) (durable_of old) (unsynced_of old) (g.directory files)
      → GivesUp old files

  -- a kill between two calls, which leaves the files as they are
  abbrev pub KillEnds : Type 0
  KillEnds = (old : Engine F H R W g) (files : F) → g.directory files ≡ directory_of old
      → GivesUp old files

  -- a function that makes no call of the engine
  abbrev pub NothingHasNoEffect : Type 0
  NothingHasNoEffect = (e : Engine F H R W g) → HasEffect no_effect e e

  -- an opening that returns an engine, by the clause of each opening
  abbrev pub OpeningMakesAnew : Type 0
  OpeningMakesAnew = (config : Config) (files : F) (e : Engine F H R W g) → Opens config files (Ok e)
      → (folders_of e ≡ folders_in config) × IsAllSynced e × (has_failed e ≡ false)

  -- after an effect that syncs all is synced, and the engine hasn't failed
  abbrev pub EffectSyncsAll : Type 0
  EffectSyncsAll = (effect : Effect) (old new : Engine F H R W g) → HasEffect effect old new
      → effect.syncs ≡ true → IsAllSynced new × (has_failed new ≡ false)

  -- an engine that hasn't failed after a call hadn't failed before it
  abbrev pub EffectStoodBefore : Type 0
  EffectStoodBefore = (effect : Effect) (old new : Engine F H R W g) → HasEffect effect old new
      → has_failed new ≡ false → has_failed old ≡ false
