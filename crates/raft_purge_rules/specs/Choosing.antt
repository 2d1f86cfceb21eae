-- What a purge decides about each group.
use Rattle.std.specs.Prelude.{◌≡◌, ◌^◌, ◌-◌, ◌+◌, ℕ, min, nat_le, nat_lt, nat_eq, ◌&&◌, ◌||◌, Bool, false, List, map, Option, Some, None, is_some, if◌then◌else◌}
use Rattle.std.specs.List.{AllByRecursion as Each, filter, list_any}
use Rattle.raft_base.specs.declared.pipe_log.FileId.{FileId}
use Rattle.raft_base.specs.declared.pipe_log.LogQueue.TheVariants.{Append}
use Rattle.raft_tables.specs.Counters.{rewrite_count}
use Rattle.raft_tables.specs.FirstFile.{has_some_up_to}
use Rattle.raft_tables.specs.FirstFiles.{first_of_table}
use Rattle.raft_tables.specs.Table.{TableView, table_of}
use Rattle.raft_tables.specs.Tables.{Tables}
use Rattle.raft_tables.specs.declared.memtable.MemTable.{MemTable}
use Rattle.raft_purge_rules.specs.Choice.{choice}
use Rattle.raft_purge_rules.specs.Rounds.{rounds_of}
use Rattle.raft_purge_rules.specs.declared.choosing.Chosen.{Chosen}
use Rattle.raft_purge_rules.specs.declared.choosing.Chosen.TheVariants.{Asked, Heavy, Rewritten}
use Rattle.raft_purge_rules.specs.declared.choosing.Decision.{Decision}
use Rattle.raft_purge_rules.specs.declared.choosing.Needs.{Needs}
use Rattle.raft_purge_rules.specs.declared.choosing.Watermarks.{Watermarks}
use Rattle.raft_purge_rules.specs.declared.group_choice.Choice.{Choice}
use Rattle.raft_purge_rules.specs.declared.group_choice.GroupUse.{GroupUse}
use Rattle.raft_purge_rules.specs.declared.rounds.Rounds.{Rounds}

-- a number of a file, and none for the greatest one
abbrev pub below_end : ℕ → Option ℕ
below_end first = if nat_lt first (2 ^ 64 - 1) then Some first else None

-- the last file that is rewritten
abbrev pub last_rewritten : ℕ → FileId
last_rewritten watermark = record { queue = Append; seq = watermark }

-- what a group takes of the log: the first file that it refers to, its entries in the Rewrite queue, and
-- how much of it stands at or before a watermark
abbrev pub use_of : ℕ → MemTable → GroupUse
use_of watermark t =
    let first = first_of_table Append (2 ^ 64 - 1) t in
    let entries = (table_of t).entries in
    let rewritten = rewrite_count entries in
    record {
      first_file = below_end first;
      rewritten = rewritten;
      has_some_before = nat_le first watermark;
      has_many_before = has_some_up_to (last_rewritten watermark) 32 entries;
      has_many_appended_before =
          has_some_up_to (last_rewritten watermark) (min (32 + rewritten) (2 ^ 64 - 1)) entries;
    }

-- nothing is done about it
abbrev pub no_choice : Choice
no_choice = record { is_asked = false; is_rewritten = false }

-- what is done about a group where the Append queue needs a rewriting
abbrev pub choice_in : Option Watermarks → Bool → MemTable → Choice
choice_in None is_due t = no_choice
choice_in (Some w) is_due t = choice (use_of w.rewrite t) w.compact is_due

-- what is decided about a group
abbrev pub decision : ℕ → Needs → Bool → MemTable → Decision
decision group needs is_due t = record {
  group = group;
  is_often_rewritten = needs.rewrite && nat_lt 32 (rewrite_count (table_of t).entries);
  choice = choice_in needs.append is_due t;
}

-- this is decided about a group with this table; of one that isn't known nothing is
abbrev pub IsDecided : Needs → Bool → Option TableView → Decision → Type 0
IsDecided needs is_due None d =
    d ≡ record { group = d.group; is_often_rewritten = false; choice = no_choice }
IsDecided needs is_due (Some view) d =
    (t : MemTable) × (table_of t ≡ view) × (d ≡ decision d.group needs is_due t)

-- about each known group this is decided, where groups were asked for so often before
pub record AreDecisions (needs : Needs) (rounds : Rounds) (t : Tables) (ds : List Decision)
    : Type 0 where
  pub each : Each (λ d. IsDecided needs (nat_le 9 (rounds_of rounds d.group)) (t d.group) d) ds
  pub all : (g : ℕ) → list_any (nat_eq g) (map (λ d. d.group) ds) ≡ is_some (t g)

-- a group is asked for, as old and heavy, or it is rewritten
abbrev pub chosen_by : Chosen → Decision → Bool
chosen_by Asked d = d.is_often_rewritten || d.choice.is_asked
chosen_by Heavy d = d.choice.is_asked
chosen_by Rewritten d = d.choice.is_rewritten

-- the groups of which this is so
abbrev pub groups_by : Chosen → List Decision → List ℕ
groups_by chosen ds = map (λ d. d.group) (filter (chosen_by chosen) ds)
