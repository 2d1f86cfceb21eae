-- What is written to the Rewrite queue again gets its new place: entries.
use Rattle.std.specs.Prelude.{ℕ, ◌+◌, ◌==◌, ◌&&◌, not, nat_eq, nat_le, Bool, false, List, [], ◌∷◌, map, fold, Option, Some, None, option_map, unwrap_or, if◌then◌else◌}
use Rattle.std.specs.Map.{lookup}
use Rattle.raft_base.specs.declared.pipe_log.FileId.{FileId}
use Rattle.raft_records.specs.declared.entry_index.EntryPlace.{EntryPlace}
use Rattle.raft_tables.specs.Counters.{is_rewrite, is_rewritten}

-- what stands in this file may get a new place: it is one of the Append queue up to the watermark,
-- or without one any of the Rewrite queue
abbrev pub may_move : Option ℕ → FileId → Bool
may_move None id = is_rewrite id.queue
may_move (Some watermark) id = not (is_rewrite id.queue) && nat_le id.seq watermark

-- so may an entry at this place
abbrev pub may_move_from : Option ℕ → EntryPlace → Bool
may_move_from watermark place =
    unwrap_or (option_map (λ block. may_move watermark block.id) place.block) false

-- the entry with the place of a new one, where it has its index and may get it
abbrev pub entry_moved : Option ℕ → ℕ × EntryPlace → ℕ × EntryPlace → ℕ × EntryPlace
entry_moved watermark new e =
    if e.0 == new.0 && may_move_from watermark e.1 then (e.0, new.1) else e

-- entries with the places of new ones, one after the other
abbrev pub entries_moved : Option ℕ → List (ℕ × EntryPlace) → List (ℕ × EntryPlace)
    → List (ℕ × EntryPlace)
entries_moved watermark new es = fold (λ old n. map (entry_moved watermark n) old) es new

-- whether one of the entries gets the place of a new one: that with its index, where it may
abbrev pub takes_place : Option ℕ → List (ℕ × EntryPlace) → ℕ × EntryPlace → Bool
takes_place watermark es new =
    unwrap_or (option_map (may_move_from watermark) (lookup (nat_eq new.0) es)) false

-- how many entries get places of new ones that stand in the Rewrite queue, one after the other
abbrev pub places_taken : Option ℕ → List (ℕ × EntryPlace) → List (ℕ × EntryPlace) → ℕ
places_taken watermark [] es = 0
places_taken watermark (n ∷ new) es =
    (if takes_place watermark es n && is_rewritten n.1 then 1 else 0)
    + places_taken watermark new (map (entry_moved watermark n) es)
