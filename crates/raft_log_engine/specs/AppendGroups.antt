-- What a rewriting of the next groups of the Append queue returns, and what it leaves.
use Rattle.std.specs.Prelude.{◌≡◌, ◌<◌, ◌&&◌, ℕ, min, true, false, nat_le, is_some, IfOk, OnErr, OnOk, Option, None, Some, Result}
use Rattle.std.specs.List.Sorted.{IsStrictlySortedBy}
use Rattle.std.specs.Option.{IfSome}
use Rattle.std.specs.Ordering.{nat_cmp}
use Rattle.raft_base.specs.declared.errors.Fault.{Fault}
use Rattle.raft_env.specs.declared.env.FileSystem.{Ghosts}
use Rattle.raft_pipes.specs.PipeState.{last_seq}
use Rattle.raft_purge.specs.Scope.{HasRotatedAt}
use Rattle.raft_purge_rules.specs.NextGroups.{AreNextGroups, FitBudget}
use Rattle.raft_purge_rules.specs.declared.within_budget.NextGroups.{NextGroups}
use Rattle.raft_purge_steps.specs.Emptied.{HasNoneToMove}
use Rattle.raft_rewrite.specs.Emptied.{MovesOnly}
use Rattle.raft_stale.specs.Scope.{HasLostFront}
use Rattle.raft_tables.specs.GroupsFrom.{comes_before}
use Rattle.raft_tables.specs.Tables.{Tables, or_empty, tables_of}
use Rattle.raft_log_engine.specs.Engine.{queue_of, rewrite_queue_of}
use Rattle.raft_log_engine.specs.Purge.{LeavesNewFiles}
use Rattle.raft_log_engine.specs.declared.engine.Engine.{Engine}

-- groups from this one to the next have nothing left up to the watermark; others keep their places
pub record HasRewrittenFrom (watermark from : ℕ) (next : Option ℕ) (t t' : Tables) : Type 0 where
  pub emptied : (group : ℕ) → (nat_le from group && comes_before next group) ≡ true
      → HasNoneToMove (Some watermark) (or_empty (t' group))
  pub others :
      (group : ℕ) → (nat_le from group && comes_before next group) ≡ false → t' group ≡ t group
  pub only : MovesOnly (Some watermark) t t'
  pub known : IfSome next (λ group. (from < group) × (is_some (t group) ≡ true))

module _ {F H R W : Type 0} {g : Ghosts F H R W} where
  -- a rewriting of the next groups up to the watermark; both queues begin as before
  pub record RewritesGroups (watermark from budget : ℕ) (result : Result (Option ℕ) Fault)
      (old new : Engine F H R W g) : Type 0 where
    pub rewritten : IfOk result (λ next. HasRewrittenFrom (min watermark (last_seq (queue_of old))) from
        next (tables_of old.log.tables) (tables_of new.log.tables))
    -- the groups, in ascending order, are as many as fit the budget
    pub fits : IfOk result (λ next. (x : NextGroups) × (x.next ≡ next)
        × IsStrictlySortedBy nat_cmp x.groups.items
        × AreNextGroups from (tables_of old.log.tables) x
        × FitBudget budget (Some (min watermark (last_seq (queue_of old)))) old.log.tables x)
    pub rotated : OnOk result (HasRotatedAt (min watermark (last_seq (queue_of old)))
        (queue_of old) (queue_of new))
    pub append : OnOk result ((queue_of new).first ≡ (queue_of old).first)
    pub rewrite : OnOk result ((rewrite_queue_of new).first ≡ (rewrite_queue_of old).first)
    -- a refused call has dropped only files that the tables don't refer to
    pub lost : OnErr result (HasLostFront None new.log.tables (queue_of old) (queue_of new))
    pub rounds : new.rounds ≡ old.rounds
    -- what is known of atomic groups stays, with the next id
    pub known_groups : new.log.groups ≡ old.log.groups
    -- short calls of the Rewrite queue that were under way end with it
    pub renewal : LeavesNewFiles result None old.renewal new.renewal
