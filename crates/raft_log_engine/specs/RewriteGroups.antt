-- What a rewriting of the next groups of the Rewrite queue returns, and what it leaves.
use Rattle.std.specs.Prelude.{◌≡◌, ◌<◌, ◌⊎◌, ◌&&◌, ℕ, Bool, true, nat_le, is_some, IfOk, OnErr, Option, None, Some, Result, MatchResult, if◌then◌else◌}
use Rattle.std.specs.List.Sorted.{IsStrictlySortedBy}
use Rattle.std.specs.Option.{IfSome}
use Rattle.std.specs.Ordering.{nat_cmp}
use Rattle.raft_base.specs.declared.errors.Fault.{Fault}
use Rattle.raft_env.specs.declared.env.FileSystem.{Ghosts}
use Rattle.raft_pipes.specs.PipeState.{PipeState}
use Rattle.raft_purge.specs.RenewalPart.{files_new as files_new_of, first_kept, first_new as first_new_of}
use Rattle.raft_purge.specs.declared.renewal_groups.NewFiles.{NewFiles}
use Rattle.raft_purge_rules.specs.NextGroups.{AreNextGroups, FitBudget}
use Rattle.raft_purge_rules.specs.declared.within_budget.NextGroups.{NextGroups}
use Rattle.raft_rewrite.specs.Emptied.{MovesOnly}
use Rattle.raft_rewrite.specs.EmptiedAnew.{IsAllFrom}
use Rattle.raft_stale.specs.Dropping.{HasDroppedSome}
use Rattle.raft_tables.specs.GroupsFrom.{comes_before}
use Rattle.raft_tables.specs.Counters.{deleted_count}
use Rattle.raft_tables.specs.Tables.{Tables, or_empty, tables_of}
use Rattle.raft_tables.specs.declared.memtables.MemTables.{MemTables}
use Rattle.raft_log_engine.specs.Engine.{has_groups_together, queue_of, rewrite_queue_of}
use Rattle.raft_log_engine.specs.declared.engine.Engine.{Engine}

-- groups from this one up to the next have nothing in old files, nor do groups that had nothing there
pub record HasRenewedFrom (first from : ℕ) (next : Option ℕ) (t t' : Tables) : Type 0 where
  pub emptied : (group : ℕ)
      → ((nat_le from group && comes_before next group) ≡ true) ⊎ IsAllFrom first (or_empty (t group))
      → IsAllFrom first (or_empty (t' group))
  pub only : MovesOnly None t t'
  pub known : IfSome next (λ group. (from < group) × (is_some (t group) ≡ true))

-- the Rewrite queue's first file: as before while groups follow, and then first_kept
abbrev pub first_left : ℕ → Bool → Option ℕ → MemTables → PipeState → ℕ
first_left first together (Some next) m p = p.first
first_left first together None m p = first_kept first together m p

module _ {F H R W : Type 0} {g : Ghosts F H R W} where
  -- the first new file of a renewal in short calls, which is under way or begins now
  abbrev pub first_new : Engine F H R W g → ℕ
  first_new e = first_new_of e.renewal (rewrite_queue_of e)

  -- the new files of that renewal, with what was known of atomic groups before
  abbrev pub files_new : Engine F H R W g → NewFiles
  files_new e = files_new_of e.renewal (rewrite_queue_of e) e.log.groups

  -- short calls of a renewal continue while groups follow, and end after the last ones
  pub record RenewsGroups (from budget : ℕ) (result : Result (Option ℕ) Fault)
      (old new : Engine F H R W g) : Type 0 where
    pub renewed : IfOk result (λ next. HasRenewedFrom (first_new old) from next
        (tables_of old.log.tables) (tables_of new.log.tables))
    -- the groups, in ascending order, are as many as fit the budget
    pub fits : IfOk result (λ next. (x : NextGroups) × (x.next ≡ next)
        × IsStrictlySortedBy nat_cmp x.groups.items
        × AreNextGroups from (tables_of old.log.tables) x × FitBudget budget None old.log.tables x)
    pub renewal : MatchResult result
        (λ next. new.renewal ≡ (if is_some next then Some (files_new old) else None))
        (λ e. (new.renewal ≡ None) ⊎ (new.renewal ≡ old.renewal))
    pub rewrite : IfOk result (λ next. (rewrite_queue_of new).first
        ≡ first_left (first_new old) (has_groups_together old) next new.log.tables (rewrite_queue_of old))
    -- if the calls of a series left nothing in the old files, these are gone
    pub gone : IfOk result (λ next. next ≡ None → has_groups_together old ≡ true
        → ((group : ℕ) → IsAllFrom (first_new old) (or_empty (tables_of new.log.tables group)))
        → (rewrite_queue_of new).first ≡ first_new old)
    pub append : queue_of new ≡ queue_of old
    pub lost : OnErr result (HasDroppedSome (first_new old) new.log.tables
        (rewrite_queue_of old) (rewrite_queue_of new))
    -- after the last groups the counters of rewritten entries start again at 0
    pub counted : IfOk result (λ next. next ≡ None → deleted_count new.log.stats ≡ 0)
    pub rounds : new.rounds ≡ old.rounds
