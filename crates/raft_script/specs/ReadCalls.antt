-- The results of reads in a run: what the engine's own calls promise.
use Rattle.std.specs.Prelude.{◌≡◌, ◌⊎◌, ◌↔◌, ℕ, true, false, List, None, Option, Result, Ok, Err, IfErr, IfOk, Vec}
use Rattle.std.specs.Option.{option_map}
use Rattle.std.specs.declared.alloc.Global.{Global}
use Rattle.raft_base.specs.declared.errors.Fault.{Fault}
use Rattle.raft_base.specs.declared.errors.Fault.TheVariants as fault
use Rattle.raft_env.specs.Refusal.{FailsAt}
use Rattle.raft_env.specs.declared.env.FileSystem.{Ghosts}
use Rattle.raft_pipes.specs.Queue.{NamesLog}
use Rattle.raft_records.specs.Contents.{first_index_of, last_index_of}
use Rattle.raft_once.specs.Numbers.{shown}
use Rattle.raft_log_engine.specs.Durability.{HasOnlyRead}
use Rattle.raft_log_engine.specs.Engine.{contents_of, folders_of, has_failed, is_known_in, refusals_of}
use Rattle.raft_log_engine.specs.Reads.{IsEntryAnswer, IsEntryRefusalAt, IsGroupList, entry_of}
use Rattle.raft_log_engine.specs.declared.engine.Engine.{Engine}
use Rattle.raft_script.specs.Entry.{IsTextOf, index_of}
use Rattle.raft_script.specs.declared.text_entry.TextEntry.{TextEntry}

module _ {F H R W : Type 0} {g : Ghosts F H R W} where
  -- a get, which needs memory only for a value
  pub record IsGet (group : ℕ) (key : List ℕ) (old new : Engine F H R W g)
      (result : Result (Option (Vec ℕ Global)) Fault) : Type 0 where
    pub same : new ≡ old
    pub value : IfOk result (λ value. option_map (λ v. v.items) value
        ≡ (shown (contents_of old)).value group key)
    pub failed : (result ≡ Err fault.Failed) ↔ (has_failed old ≡ true)
    pub cause : IfErr result (λ e. (e ≡ fault.Failed) ⊎ (e ≡ fault.Memory))
    pub memory : has_failed old ≡ false
        → (shown (contents_of old)).value group key ≡ None → result ≡ Ok None

  -- a read of an entry, which needs memory only for one that exists
  pub record IsEntryGet (group index : ℕ) (old new : Engine F H R W g)
      (result : Result (Option TextEntry) Fault) : Type 0 where
    pub unchanged : HasOnlyRead old new
    pub value : IfOk result (IsEntryAnswer IsTextOf index_of index
        (entry_of (contents_of old) group index))
    pub failed : (result ≡ Err fault.Failed) ↔ (has_failed old ≡ true)
    pub cause : IfErr result (λ e. has_failed old ≡ false
        → IsEntryRefusalAt IsTextOf index_of index (entry_of (contents_of old) group index) e
        ⊎ FailsAt (NamesLog (folders_of old)) (refusals_of old) (refusals_of new) e)
    pub memory : has_failed old ≡ false
        → entry_of (contents_of old) group index ≡ None → result ≡ Ok None

  -- the first index of a group's entries
  pub record IsFirstIndex (group : ℕ) (old new : Engine F H R W g) (result : Option ℕ)
      : Type 0 where
    pub same : new ≡ old
    pub value : has_failed old ≡ false
        → result ≡ first_index_of ((contents_of old).entries group)

  -- the last index of a group's entries
  pub record IsLastIndex (group : ℕ) (old new : Engine F H R W g) (result : Option ℕ)
      : Type 0 where
    pub same : new ≡ old
    pub value : has_failed old ≡ false
        → result ≡ last_index_of ((contents_of old).entries group)

  -- the known groups
  pub record IsListOfGroups (old new : Engine F H R W g) (result : Result (Vec ℕ Global) Fault)
      : Type 0 where
    pub same : new ≡ old
    pub value :
        IfOk result (λ groups. IsGroupList (contents_of old) (is_known_in old) groups.items)
    pub failed : (result ≡ Err fault.Failed) ↔ (has_failed old ≡ true)
    pub cause : IfErr result (λ e. (e ≡ fault.Failed) ⊎ (e ≡ fault.Memory))
