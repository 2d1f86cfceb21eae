-- What a purge by watermarks is to do.
use Rattle.std.specs.Prelude.{◌≡◌, ◌==◌, ℕ, Bool, List, Option, Some, None, unwrap_or}
use Rattle.std.specs.List.{list_any}
use Rattle.raft_tables.specs.Tables.{Tables}
use Rattle.raft_purge_rules.specs.Choosing.{AreDecisions, groups_by}
use Rattle.raft_purge_rules.specs.Rounds.{next_round, rounds_of}
use Rattle.raft_purge_rules.specs.declared.choosing.Chosen.TheVariants.{Asked, Heavy, Rewritten}
use Rattle.raft_purge_rules.specs.declared.choosing.Decision.{Decision}
use Rattle.raft_purge_rules.specs.declared.choosing.Needs.{Needs}
use Rattle.raft_purge_rules.specs.declared.choosing.Watermarks.{Watermarks}
use Rattle.raft_purge_rules.specs.declared.plan.PurgePlan.{PurgePlan}
use Rattle.raft_purge_rules.specs.declared.rounds.Rounds.{Rounds}

-- in how many purges in a row a group was asked for after this one: where the Append queue isn't
-- rewritten in as many as before
abbrev pub rounds_after : Option Watermarks → Bool → ℕ → ℕ
rounds_after None is_asked rounds = rounds
rounds_after (Some w) is_asked rounds = next_round is_asked rounds

-- rounds_after, of each group, by these decisions; `None` are the counts before
abbrev pub AreNextRounds : Option Watermarks → List Decision → Rounds → Option Rounds → Type 0
AreNextRounds append ds rounds next = (group : ℕ) → rounds_of (unwrap_or next rounds) group
    ≡ rounds_after append (list_any (λ one. one == group) (groups_by Heavy ds)) (rounds_of rounds group)

-- it does what is decided by the rules
pub record IsPlan (needs : Needs) (rounds : Rounds) (t : Tables) (plan : PurgePlan) : Type 0 where
  pub decisions : List Decision
  pub decided : AreDecisions needs rounds t decisions
  pub asked : plan.asked.items ≡ groups_by Asked decisions
  pub rewritten : plan.rewritten.items ≡ groups_by Rewritten decisions
  pub rounds_next : AreNextRounds needs.append decisions rounds plan.rounds
