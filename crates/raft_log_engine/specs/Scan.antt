-- The keys and values that a scan passes to its callback.
use Rattle.std.specs.Prelude.{◌≡◌, ◌⊎◌, ℕ, Bool, true, false, List, [], ◌∷◌, reverse, Option}
use Rattle.std.specs.Borrow.{Bor}
use Rattle.std.specs.Fn.{Called}
use denote.Param.Members.{Mut}
use Rattle.raft_records.specs.Contents.{Contents}
use Rattle.raft_tables.specs.Listing.{IsListing, value_between}
use Rattle.raft_log_engine.specs.Reads.{IsNoMessage}

-- the pairs of a group between two bounds, in the order of the keys' bytes or the other way round
abbrev pub IsScan : Contents → ℕ → Option (List ℕ) → Option (List ℕ) → Bool
    → List (List ℕ × List ℕ) → Type 0
IsScan m group start end false pairs = IsListing (value_between start end (m.value group)) pairs
IsScan m group start end true pairs =
    IsListing (value_between start end (m.value group)) (reverse pairs)

-- How a callback is called: `called f key value answer next` says that a call of f with these
-- returns this answer and leaves it as `next`.

-- the pairs are passed one after the other, until the callback returns false
abbrev pub AreHandedOver : {F V : Type 0} → (F → List ℕ → V → Bool → F → Type 0) → F
    → List (List ℕ × V) → F → Type 0
AreHandedOver called f [] last = last ≡ f
AreHandedOver {F} called f (p ∷ ps) last = called f p.0 p.1 false last
    ⊎ ((next : F) × called f p.0 p.1 true next × AreHandedOver called next ps last)

-- some first ones of the pairs are passed, and the callback returns true each time
abbrev pub AreBegun : {F V : Type 0} → (F → List ℕ → V → Bool → F → Type 0) → F
    → List (List ℕ × V) → F → Type 0
AreBegun called f [] last = last ≡ f
AreBegun {F} called f (p ∷ ps) last = (last ≡ f)
    ⊎ ((next : F) × called f p.0 p.1 true next × AreBegun called next ps last)

-- a group's pairs between two bounds are passed to the callback
pub record IsScanned {F : Type 0} (called : F → List ℕ → List ℕ → Bool → F → Type 0) (m : Contents)
    (group : ℕ) (start end : Option (List ℕ)) (reversed : Bool) (f last : F) : Type 0 where
  pub pairs : List (List ℕ × List ℕ)
  pub scan : IsScan m group start end reversed pairs
  pub handed : AreHandedOver called f pairs last

-- some first ones of a group's pairs between two bounds are passed to the callback
pub record IsScanBegun {F : Type 0} (called : F → List ℕ → List ℕ → Bool → F → Type 0)
    (m : Contents) (group : ℕ) (start end : Option (List ℕ)) (reversed : Bool) (f last : F)
    : Type 0 where
  pub pairs : List (List ℕ × List ℕ)
  pub scan : IsScan m group start end reversed pairs
  pub handed : AreBegun called f pairs last

-- a call with a `&` to a key, and with a message
pub record CalledAtKey {F M : Type 0} (g : Mut F (Bor (List ℕ) × (M × Unit {0})) Bool) (f : F)
    (key : List ℕ) (message : M) (answer : Bool) (next : F) : Type 0 where
  pub shown : Bor (List ℕ)
  pub shows : shown.now ≡ key
  pub called : Called g f (shown, (message, tt)) answer next

-- the value at a key is parsed and passed; a value that is no message is skipped
abbrev pub HandsMessage : {F M : Type 0} → (List ℕ → M → Type 0)
    → (F → List ℕ → M → Bool → F → Type 0) → F → List ℕ → List ℕ → Bool → F → Type 0
HandsMessage {F} {M} is_parsed called f key value answer next =
    (IsNoMessage is_parsed value × (answer ≡ true) × (next ≡ f))
    ⊎ ((message : M) × is_parsed value message × called f key message answer next)
