-- What holds of the tables, the marks that are owed and both queues between any two steps.
use Rattle.std.specs.Prelude.{◌≡◌, ℕ, ◌+◌, ◌<◌, ◌≤◌, Bool, true, false, List, [], ◌∷◌, length, Option, Some, None, option_map, unwrap_or, Contains}
use Rattle.raft_base.specs.declared.pipe_log.LogQueue.{LogQueue}
use Rattle.raft_base.specs.declared.pipe_log.LogQueue.TheVariants.{Append, Rewrite}
use Rattle.std.specs.List.{list_all, AllByRecursion as Each}
use Rattle.raft_base.specs.declared.pipe_log.FileBlockHandle.{FileBlockHandle}
use Rattle.raft_records.specs.Contents.{Contents}
use Rattle.raft_records.specs.declared.entry_index.EntryPlace.{EntryPlace}
use Rattle.raft_records.specs.FileBatches.{FileBatch, batches_of, from_file}
use Rattle.raft_records.specs.Item.{Entry}
use Rattle.raft_records.specs.Places.{Blocks, entry_in}
use Rattle.raft_recovery_laws.specs.Recovered.{leaves, leaves_key, replay}
use Rattle.raft_tables.specs.Counters.{is_rewritten}
use Rattle.raft_tables.specs.Table.{StoredValue}
use Rattle.raft_tables.specs.Tables.{Tables, contents_in, or_empty}
use Rattle.raft_tables.specs.Owed.{Marks, Owed}

-- what is true of a key whose value stands in a file of a queue. `left` says which ends of the Append
-- queue, by their first file, leave the key alone, and `held` what the Rewrite queue has there
abbrev pub PlacedKeyStands : (ℕ → Bool) → Marks → Option (List ℕ) → List ℕ → ℕ → LogQueue → Type 0
PlacedKeyStands left marks held value seq Append = left seq ≡ false
PlacedKeyStands left marks held value seq Rewrite =
    (held ≡ Some value) × (marks.cleaned ≡ false)

-- what is true of a key. A value in the Append queue is set in its file or behind it, one in the
-- Rewrite queue is there; and without a value none is there, unless a mark of that is owed
abbrev pub KeyStands : (ℕ → Bool) → Marks → Option (List ℕ) → List ℕ → Option StoredValue → Type 0
KeyStands left marks held key None =
    marks.cleaned ≡ false → marks.deleted key ≡ false → held ≡ None
KeyStands left marks held key (Some stored) =
    PlacedKeyStands left marks held stored.0 stored.1.seq stored.1.queue

-- which ends of the Append queue, by their first file, leave a key alone
abbrev pub ends_leave_key : List FileBatch → ℕ → List ℕ → ℕ → Bool
ends_leave_key appended group key seq = leaves_key (batches_of (from_file seq appended)) group key

-- what is true of the keys of the tables, where the Rewrite queue has these contents
abbrev pub KeysStand : Contents → List FileBatch → Owed → Tables → Type 0
KeysStand x appended owed t =
    (group : ℕ) (key : List ℕ) → KeyStands (ends_leave_key appended group key) (owed group)
    (x.value group key) key ((or_empty (t group)).keys key)

-- the value isn't placed in a file of the Append queue before this one
abbrev pub IsPlacedFrom : ℕ → Option StoredValue → Type 0
IsPlacedFrom seq None = Unit {0}
IsPlacedFrom seq (Some stored) = stored.1.queue ≡ Append → seq ≤ stored.1.seq

-- none is
abbrev pub AreKeysPlacedFrom : ℕ → Tables → Type 0
AreKeysPlacedFrom seq t =
    (group : ℕ) (key : List ℕ) → IsPlacedFrom seq ((or_empty (t group)).keys key)

-- where entries stand, in the order of files: the Rewrite queue before each file of Append
abbrev pub rank_in : ℕ → LogQueue → ℕ
rank_in seq Append = seq + 1
rank_in seq Rewrite = 0

-- the rank of the file of a place
abbrev pub rank_of : EntryPlace → ℕ
rank_of place = unwrap_or (option_map (λ block. rank_in block.id.seq block.id.queue) place.block) 0

-- no entry stands before a file, nor before that of the entry before it
abbrev pub AreInFileOrder : ℕ → List (ℕ × EntryPlace) → Type 0
AreInFileOrder least [] = Unit {0}
AreInFileOrder least (e ∷ es) = (least ≤ rank_of e.1) × AreInFileOrder (rank_of e.1) es

-- what is true of an entry in a file of a queue. One in the Append queue is set, with all behind it,
-- in its file or in later ones; one in the Rewrite queue is there
abbrev pub PlacedEntryStands : (ℕ → ℕ → Bool) → Marks → List Entry → Entry → ℕ → LogQueue → Type 0
PlacedEntryStands left marks held e seq Append =
    (index : ℕ) → e.0 ≤ index → left seq index ≡ false
PlacedEntryStands left marks held e seq Rewrite = Contains held e × (marks.cleaned ≡ false)

-- PlacedEntryStands, in the file of the entry's block
abbrev pub StandsInBlock : (ℕ → ℕ → Bool) → Marks → List Entry → Entry → Option FileBlockHandle
    → Type 0
StandsInBlock left marks held e None = ⊥
StandsInBlock left marks held e (Some block) =
    PlacedEntryStands left marks held e block.id.seq block.id.queue

-- what is true of an entry
abbrev pub EntryStands : Blocks → (ℕ → ℕ → Bool) → Marks → List Entry → ℕ × EntryPlace → Type 0
EntryStands blocks left marks held e =
    StandsInBlock left marks held (entry_in blocks e) e.1.block

-- each of the entries stands in the Rewrite queue
abbrev pub are_rewritten : List (ℕ × EntryPlace) → Bool
are_rewritten es = list_all (λ e. is_rewritten e.1) es

-- where all entries stand in the Rewrite queue, it has none behind them
abbrev pub HasNoneBehind : List (ℕ × EntryPlace) → List Entry → Type 0
HasNoneBehind [] held = Unit {0}
HasNoneBehind (e ∷ es) held = are_rewritten (e ∷ es) ≡ true
    → Each (λ o. o.0 < e.0 + length (e ∷ es)) held

-- the Rewrite queue has no entry right before these, and none at all where there are none
abbrev pub HasNoneBefore : List (ℕ × EntryPlace) → List Entry → Type 0
HasNoneBefore [] held = held ≡ []
HasNoneBefore (e ∷ es) held = Each (λ o. o.0 + 1 ≡ e.0 → ⊥) held

-- what is true of a group's entries. `left` says which ends of the Append queue, by their first
-- file, leave an index alone, and `held` which entries the Rewrite queue has
pub record GroupStands (blocks : Blocks) (left : ℕ → ℕ → Bool) (marks : Marks) (held : List Entry)
    (es : List (ℕ × EntryPlace)) : Type 0 where
  pub ordered : AreInFileOrder 0 es
  pub each : Each (EntryStands blocks left marks held) es
  pub behind : HasNoneBehind es held
  pub before : marks.cleaned ≡ false → marks.compacted ≡ false → HasNoneBefore es held

-- which ends of the Append queue, by their first file, leave an entry alone
abbrev pub ends_leave : List FileBatch → ℕ → ℕ → ℕ → Bool
ends_leave appended group seq index = leaves (batches_of (from_file seq appended)) group index

-- what is true of the entries of the tables
abbrev pub EntriesStand : Blocks → Contents → List FileBatch → Owed → Tables → Type 0
EntriesStand blocks x appended owed t =
    (group : ℕ) → GroupStands blocks (ends_leave appended group) (owed group) (x.entries group)
    (or_empty (t group)).entries

-- what holds of the tables, the marks that are owed and both queues between any two steps, where
-- the Rewrite queue has the contents x
pub record TablesStandFor (blocks : Blocks) (x : Contents) (appended : List FileBatch)
    (owed : Owed) (t : Tables) : Type 0 where
  pub contents : contents_in blocks t ≡ replay x (batches_of appended)
  pub entries : EntriesStand blocks x appended owed t
  pub keys : KeysStand x appended owed t

-- the entry isn't placed in a file of the Append queue before this one
abbrev pub IsEntryPlacedFrom : ℕ → Option FileBlockHandle → Type 0
IsEntryPlacedFrom seq None = Unit {0}
IsEntryPlacedFrom seq (Some block) = block.id.queue ≡ Append → seq ≤ block.id.seq

-- none is
abbrev pub AreEntriesPlacedFrom : ℕ → Tables → Type 0
AreEntriesPlacedFrom seq t =
    (group : ℕ) → Each (λ e. IsEntryPlacedFrom seq e.1.block) (or_empty (t group)).entries

-- no mark is owed
abbrev pub OwesNothing : Owed → Type 0
OwesNothing owed =
    (group : ℕ) → ((owed group).cleaned ≡ false) × ((owed group).compacted ≡ false)
    × ((key : List ℕ) → (owed group).deleted key ≡ false)
