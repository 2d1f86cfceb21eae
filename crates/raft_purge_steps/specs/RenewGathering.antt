-- What a renewal gathers of the Rewrite queue, group by group.
use Rattle.raft_tables.specs.Owed.{Owed}
use Rattle.raft_crash_laws.specs.Log.{KnownGroups}
use Rattle.raft_crash_laws.specs.Renewal.{Renewal}
use Rattle.raft_purge_steps.specs.Steps.{LogValue}

-- Q holds of all marks, groups, renewals and log values of which P holds
abbrev pub RenewsOn : (Owed → KnownGroups → Renewal → LogValue → Type 0)
    → (Owed → KnownGroups → Renewal → LogValue → Type 0) → Type 0
RenewsOn P Q =
    (owed : Owed) (met : KnownGroups) (r : Renewal) (v : LogValue) → P owed met r v → Q owed met r v
