-- What a purge of the Append queue does about a group.
use Rattle.std.specs.Prelude.{ℕ, nat_lt, ◌&&◌, ◌||◌, not, Bool, true, false, if◌then◌else◌}
use Rattle.std.specs.Option.{option_map_or}
use Rattle.raft_purge_rules.specs.declared.group_choice.Choice.{Choice}
use Rattle.raft_purge_rules.specs.declared.group_choice.GroupUse.{GroupUse}

-- it was rewritten, or refers to a file before the compact watermark
abbrev pub is_old : GroupUse → ℕ → Bool
is_old group compact_watermark = nat_lt 0 group.rewritten
    || option_map_or (λ first. nat_lt first compact_watermark) group.first_file false

-- the group is old and has many entries before
abbrev pub is_old_and_heavy : GroupUse → ℕ → Bool
is_old_and_heavy group compact_watermark = is_old group compact_watermark && group.has_many_before

-- an old and heavy group is asked for, and rewritten once it is due; any other one is rewritten
-- where few of its entries are
abbrev pub choice : GroupUse → ℕ → Bool → Choice
choice group compact_watermark is_due =
    if is_old_and_heavy group compact_watermark
    then record { is_asked = true; is_rewritten = is_due && group.has_some_before }
    else record {
      is_asked = false;
      is_rewritten = group.has_some_before && not group.has_many_appended_before;
    }
