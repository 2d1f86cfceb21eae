-- What workers make of parts of a queue's files, and what is gathered of that.
use Rattle.std.specs.Prelude.{◌≡◌, ◌⊎◌, List, [], ◌∷◌, map, Result, Ok, Err, IfErr, IfOk, Vec}
use Rattle.std.specs.List.{flat_map}
use Rattle.std.specs.declared.alloc.Global.{Global}
use Rattle.raft_base.specs.declared.errors.Fault.{Fault}
use Rattle.raft_base.specs.declared.errors.Fault.TheVariants.{Memory}
use Rattle.raft_base.specs.declared.pipe_log.LogQueue.{LogQueue}
use Rattle.raft_env.specs.Directory.{Directory}
use Rattle.raft_opening.specs.OpenedLogs.{AreReplayed, IsLogsRefusal, OpenedLogState}
use Rattle.raft_opening.specs.declared.replay.ReplayedLog.{ReplayedLog}
use Rattle.raft_records.specs.FileBatches.{FileBatch}
use Rattle.raft_records.specs.Places.{Blocks}

-- a machine and what is decided of the files that it was given, or a refusal
abbrev pub Answer : Type 0 → Type 0
Answer M = Result (M × Vec ReplayedLog Global) Fault

-- a machine was given these files, or one of them was refused, as its reader tells that is left
pub record IsPartRead {M : Type 0}
    (stands_for : LogQueue → Blocks → List FileBatch → M → List FileBatch → Type 0)
    (n : Directory) (logs : List OpenedLogState) (machine : M) (left : List OpenedLogState)
    (read : Answer M) : Type 0 where
  pub ok : IfOk read (λ done. AreReplayed stands_for n logs machine done.0 done.1.items)
  pub refused : IfErr read (IsLogsRefusal n logs left)

-- the first of these answers that is a refusal is refused so
abbrev pub IsFirstRefusal : {A : Type 0} → List (Result A Fault) → Fault → Type 0
IsFirstRefusal [] e = ⊥
IsFirstRefusal (Ok a ∷ answers) e = IsFirstRefusal answers e
IsFirstRefusal (Err f ∷ answers) e = f ≡ e

-- none of these answers is a refusal, and they have these machines and decisions
pub record AreAnswered {M : Type 0} (answers : List (Answer M)) (machines : List M)
    (replayed : List ReplayedLog) : Type 0 where
  pub done : List (M × Vec ReplayedLog Global)
  pub are : map Ok done ≡ answers
  pub machines_are : map (λ one. one.0) done ≡ machines
  pub replayed_are : flat_map (λ one. one.1.items) done ≡ replayed

-- all of these answers, or the first refusal, or memory was wanting
pub record AreGathered {M : Type 0} (answers : List (Answer M))
    (gathered : Result (Vec M Global × Vec ReplayedLog Global) Fault) : Type 0 where
  pub ok : IfOk gathered (λ all. AreAnswered answers all.0.items all.1.items)
  pub refused : IfErr gathered (λ e. (e ≡ Memory) ⊎ IsFirstRefusal answers e)
