-- A node's hard state, and where a log has it.
use Rattle.std.specs.Prelude.{ℕ, ◌==◌, ◌&&◌, ◌||◌, nat_lt, Bool, false, List, [], ◌∷◌, ◌++◌, Option, Some, None, is_none, unwrap_or}
use Rattle.raft_codec.specs.Number.{take_u64, u64_bytes}
use Rattle.raft_records.specs.Contents.{Contents}
use Rattle.raft_vote.specs.declared.hard_state.HardState.{HardState}

-- the state of a node that has saved none
abbrev pub none_saved : HardState
none_saved = record { term = 0; vote = 0 }

-- a node in this state may come to the later one: in a later term, or in the same term with the
-- same vote or its first one
abbrev pub may_follow : HardState → HardState → Bool
may_follow old new = nat_lt old.term new.term
    || (old.term == new.term && (old.vote == 0 || old.vote == new.vote))

-- the bytes of a state
abbrev pub state_bytes : HardState → List ℕ
state_bytes state = u64_bytes state.term ++ u64_bytes state.vote

-- the state with this term and the vote in these bytes, after which none follow
abbrev pub with_vote : ℕ → Option (ℕ × List ℕ) → Option HardState
with_vote term (Some (vote, [])) = Some (record { term = term; vote = vote })
with_vote term _ = None

-- the state with the term and the vote in these bytes
abbrev pub with_term : Option (ℕ × List ℕ) → Option HardState
with_term (Some (term, rest)) = with_vote term (take_u64 rest)
with_term None = None

-- the state with these bytes
abbrev pub read_state : List ℕ → Option HardState
read_state bytes = with_term (take_u64 bytes)

-- the key at which a group has its state: `state`
abbrev pub state_key : List ℕ
state_key = 115 ∷ 116 ∷ 97 ∷ 116 ∷ 101 ∷ []

-- the state with a value; none_saved if there is no value, or one that is no state (`is_broken`)
abbrev pub state_of_value : Option (List ℕ) → HardState
state_of_value None = none_saved
state_of_value (Some bytes) = unwrap_or (read_state bytes) none_saved

-- a value that is no state
abbrev pub is_no_state : Option (List ℕ) → Bool
is_no_state None = false
is_no_state (Some bytes) = is_none (read_state bytes)

-- the state of a group in a log with these contents
abbrev pub state_in : ℕ → Contents → HardState
state_in group m = state_of_value (m.value group state_key)

-- a group has this state, or one that may follow it
abbrev pub has_reached : ℕ → HardState → Contents → Bool
has_reached group state m = may_follow state (state_in group m)

-- a group has a value at the key that is no state
abbrev pub is_broken : ℕ → Contents → Bool
is_broken group m = is_no_state (m.value group state_key)
