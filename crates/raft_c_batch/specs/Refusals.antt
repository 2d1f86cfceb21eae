-- Why bytes aren't added to a batch.
use Rattle.std.specs.Prelude.{◌≡◌, ◌≤◌, ◌^◌, ◌⊎◌, ℕ, true, List, [], ◌∷◌, ◌++◌, length, Option, Some, None, option_map, IsSomeAnd}
use Rattle.raft_base.specs.Fault.{fault_code}
use Rattle.raft_base.specs.declared.errors.Fault.{Fault}
use Rattle.raft_base.specs.declared.errors.Fault.TheVariants as fault
use Rattle.raft_codec.specs.Number.{take_u64}
use Rattle.raft_records.specs.Batch.{is_internal_key}
use Rattle.raft_records.specs.Item.{Content, Put, Item, Batch}
use Rattle.raft_records.specs.Layout.{entry_bytes}
use Rattle.raft_c_batch.specs.Batch.{read_batch, take_items}
use Rattle.raft_c_batch.specs.declared.batch.BatchFault.{BatchFault}
use Rattle.raft_c_batch.specs.declared.batch.BatchFault.TheVariants as batch_fault

-- the content puts a value at one of the engine's own keys
abbrev pub IsInternalPut : Content → Type 0
IsInternalPut (Put key value) = is_internal_key key ≡ true
IsInternalPut _ = ⊥

-- an item isn't added after others: for its key, or entries would have 2^32 bytes or more
abbrev pub IsItemRefusal : Batch → Item → Fault → Type 0
IsItemRefusal before item e = ((fault_code e ≡ 1) × IsInternalPut item.content)
    ⊎ ((e ≡ fault.Range) × (2 ^ 32 ≤ length (entry_bytes (before ++ item ∷ []))))

-- after their number of items, the bytes have these first ones
abbrev pub BeginsWith : List ℕ → Batch → Type 0
BeginsWith bytes items = (counted : ℕ × List ℕ) × (count : ℕ) × (rest : List ℕ)
    × (take_u64 bytes ≡ Some counted) × (count ≤ counted.0)
    × (take_items count counted.1 ≡ Some (items, rest))

-- bytes aren't added to a batch: malformed, for memory, or one of their items is refused
abbrev pub IsBatchRefusal : Batch → List ℕ → BatchFault → Type 0
IsBatchRefusal before bytes batch_fault.Malformed = read_batch bytes ≡ None
IsBatchRefusal before bytes (batch_fault.Refused e) = (e ≡ fault.Memory)
    ⊎ ((items : Batch) × (item : Item) × BeginsWith bytes (items ++ item ∷ [])
    × IsItemRefusal (before ++ items) item e)

-- Of parts of a batch.

-- a part isn't read: the bytes are malformed, or memory ran out
abbrev pub IsPartRefusal : {A : Type 0} → Option A → BatchFault → Type 0
IsPartRefusal taken batch_fault.Malformed = taken ≡ None
IsPartRefusal taken (batch_fault.Refused e) = e ≡ fault.Memory

-- an item isn't added: the bytes are malformed, memory ran out, or it is refused
abbrev pub IsAddRefusal : Batch → Option (Item × List ℕ) → BatchFault → Type 0
IsAddRefusal before taken batch_fault.Malformed = taken ≡ None
IsAddRefusal before taken (batch_fault.Refused e) =
    (e ≡ fault.Memory) ⊎ IsSomeAnd taken (λ i. IsItemRefusal before i.0 e)

-- IsAddRefusal, for a content that is an item of this group
abbrev pub IsContentRefusal : Batch → ℕ → Option (Content × List ℕ) → BatchFault → Type 0
IsContentRefusal before group taken batch_fault.Malformed = taken ≡ None
IsContentRefusal before group taken (batch_fault.Refused e) = (e ≡ fault.Memory)
    ⊎ IsSomeAnd taken (λ c. IsItemRefusal before (record { group = group; content = c.0 }) e)
