-- What each call keeps, each opening finds. A caller who promises something of a log knows it of each
-- call, and cites the law here for everything that may happen.
use Rattle.std.specs.Prelude.{◌≡◌, ℕ, Bool, true, false, List, take, Result, IfOk}
use Rattle.std.specs.List.{AllByRecursion}
use Rattle.raft_base.specs.declared.errors.Fault.{Fault}
use Rattle.raft_records.specs.Contents.{Contents, after_batch, after_batches}
use Rattle.raft_records.specs.Item.{Batch}
use Rattle.raft_env.specs.declared.env.FileSystem.{Ghosts}
use Rattle.raft_config.specs.Folders.{Folders}
use Rattle.raft_config.specs.declared.config.Config.{Config}
use Rattle.raft_log_engine.specs.Engine.{IsAllSynced, contents_of, has_failed}
use Rattle.raft_log_engine.specs.Group.{chosen_of}
use Rattle.raft_log_engine.specs.declared.engine.Engine.{Engine}
use Rattle.raft_log_engine.specs.declared.engine.Refused.{Refused}
use Rattle.raft_world.specs.Effects.{write_effect}
use Rattle.raft_world.specs.Happens.{Begins, BeginsWith, Called, Closed, Crashed, Down, Failed, GivenUp, Happens, HasOpened, Inside, InsideCall, InsideClose, InsideOpening, Node, Opened, OpeningFailed, Reopened, Rested, Restarted, Running, Untouched, ledger_of}
use Rattle.raft_world.specs.Ledger.{Effect, Ledger, MayFind}

module _ {F H R W : Type 0} (g : Ghosts F H R W) (folders : Folders) (first : Ledger)
    (P : Engine F H R W g → Effect → Type 0) where
  -- each call of an engine that hadn't failed has P, by the engine before it and its effect
  abbrev pub EachCall : (node : Node g) (l : Ledger) → Happens g folders first node l → Type 0
  EachCall _ _ (Begins n none clear starts) = Unit {0}
  EachCall _ _ (BeginsWith e same alive starts) = Unit {0}
  EachCall _ _ (Opened config files l later e before opens found) = EachCall _ _ before
  EachCall _ _ (OpeningFailed config files l r before opens clean) = EachCall _ _ before
  EachCall _ _ (Called e later l effect before call stands) = EachCall _ _ before × P e effect
  EachCall _ _ (Failed e later l effect before call alive fails) = EachCall _ _ before × P e effect
  EachCall _ _ (Rested e later l effect before call gone) = EachCall _ _ before
  EachCall _ _ (Closed e l files before closes) = EachCall _ _ before
  EachCall _ _ (Reopened e later l before reopens) = EachCall _ _ before
  EachCall _ _ (GivenUp e l files before gives clean) = EachCall _ _ before
  EachCall _ _ (Restarted n later l before anew) = EachCall _ _ before
  EachCall _ _ (Untouched n later l before same) = EachCall _ _ before
  EachCall _ _ (InsideCall e later l effect n before call alive moment) =
      EachCall _ _ before × P e effect
  EachCall _ _ (InsideClose e l after n before ends moment) = EachCall _ _ before
  EachCall _ _ (InsideOpening config files l answer n before opens moment) = EachCall _ _ before
  EachCall _ _ (Crashed node l after before crash) = EachCall _ _ before

module _ {F H R W : Type 0} {g : Ghosts F H R W} where
  -- a call keeps a property of the contents: if they have it before the call, they have it after each
  -- first part of what it accepts, and of what it may leave in flight
  pub record Keeps (holds : Contents → Bool) (e : Engine F H R W g) (effect : Effect) : Type 0 where
    pub accepted : holds (contents_of e) ≡ true → (count : ℕ)
        → holds (after_batches (contents_of e) (take count effect.accepts)) ≡ true
    pub in_flight : holds (contents_of e) ≡ true → (written : List Bool) (count : ℕ)
        → let flight = chosen_of (contents_of e) written effect.writes in
        holds (after_batches (contents_of e) (take count flight)) ≡ true

module _ {F H R W : Type 0} (g : Ghosts F H R W) where
  -- a node whose contents have a property: an engine that hasn't failed has it, and so has each that
  -- an opening of the files returns
  abbrev pub NodeHas : Folders → (Contents → Bool) → Node g → Type 0
  NodeHas folders holds (Running e) = has_failed e ≡ false → holds (contents_of e) ≡ true
  NodeHas folders holds (Inside n) = Unit {0}
  NodeHas folders holds (Down n) =
      (config : Config) (files : F) (answer : Result (Engine F H R W g) (Refused F))
      → g.directory files ≡ n → HasOpened g folders config files answer
      → IfOk answer (λ e. holds (contents_of e) ≡ true)

-- whatever may be found of a log has a property
abbrev pub EachFoundHas : (Contents → Bool) → Ledger → Type 0
EachFoundHas holds l = (found : Contents) → MayFind l found → holds found ≡ true

-- the law, of ledgers: what may be found of the first one has a property, and each call keeps it.
-- Then what may be found of a later one has it
abbrev pub WhatCallsKeepIsFound : {F H R W : Type 0} → Ghosts F H R W → Type 0
WhatCallsKeepIsFound g = (folders : Folders) (first : Ledger) (holds : Contents → Bool)
    → EachFoundHas holds first → (node : Node g) (l : Ledger)
    (happened : Happens g folders first node l)
    → EachCall g folders first (Keeps holds) node l happened → EachFoundHas holds l

-- the law, of nodes
abbrev pub WhatCallsKeepHolds : {F H R W : Type 0} → Ghosts F H R W → Type 0
WhatCallsKeepHolds g = (folders : Folders) (first : Ledger) (holds : Contents → Bool)
    → EachFoundHas holds first → (node : Node g) (l : Ledger)
    (happened : Happens g folders first node l)
    → EachCall g folders first (Keeps holds) node l happened → NodeHas g folders holds node

-- events may begin at an engine that is all synced, if its contents have the property
abbrev pub SyncedMayBegin : {F H R W : Type 0} → Ghosts F H R W → Type 0
SyncedMayBegin {F} {H} {R} {W} g = (holds : Contents → Bool) (e : Engine F H R W g) → IsAllSynced e
    → holds (contents_of e) ≡ true → EachFoundHas holds (ledger_of e)

-- a batch keeps a property, whatever the contents
abbrev pub IsKeptBy : (Contents → Bool) → Batch → Type 0
IsKeptBy holds batch = (m : Contents) → holds m ≡ true → holds (after_batch m batch) ≡ true

-- a call keeps what each of its batches keeps. So a call without batches keeps everything
abbrev pub CallsKeep : {F H R W : Type 0} → Ghosts F H R W → Type 0
CallsKeep {F} {H} {R} {W} g = (holds : Contents → Bool) (e : Engine F H R W g) (effect : Effect)
    → AllByRecursion (IsKeptBy holds) effect.writes
    → AllByRecursion (IsKeptBy holds) effect.accepts → Keeps holds e effect

-- a call that writes one batch keeps what this batch keeps at the contents before it
abbrev pub WritesKeep : {F H R W : Type 0} → Ghosts F H R W → Type 0
WritesKeep {F} {H} {R} {W} g = (holds : Contents → Bool) (e : Engine F H R W g) (batch : Batch)
    (sync : Bool) (result : Result ℕ Fault)
    → (holds (contents_of e) ≡ true → holds (after_batch (contents_of e) batch) ≡ true)
    → Keeps holds e (write_effect batch sync result)
