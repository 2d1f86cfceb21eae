-- A call of a shared engine beside its front.
use Rattle.std.specs.Prelude.{◌≡◌, ◌⊎◌, ◌↔◌, ℕ, Err, IfErr, IfOk, IfSome, OnErr, Result, Some, length, slice_get}
use Rattle.raft_base.specs.declared.errors.Fault.{Fault}
use Rattle.raft_base.specs.declared.errors.Fault.TheVariants as fault
use Rattle.raft_env.specs.declared.env.FileSystem.{Ghosts}
use Rattle.raft_shared.specs.Shared.{history_of, limit_of}
use Rattle.raft_shared.specs.declared.call.Receipt.{Receipt}
use Rattle.raft_shared.specs.declared.shared.Shared.{Shared}
use Rattle.raft_shared.specs.TicketCalls.{event_by}
use Rattle.raft_shared.specs.declared.desk.Noted.{Noted}

module _ {F H R W J : Type 0} {g : Ghosts F H R W} where
  -- a seat's call is recorded so; or the history is full or memory ran out, and nothing changes
  pub record NotesCall (IsRecorded : Receipt → Type 0) (IsUnchanged : Type 0) (seat : ℕ)
      (result : Result (Noted J) Fault) (old new : Shared F H R W g) : Type 0 where
    pub ok : IfOk result (λ noted. IsRecorded noted.receipt)
    -- a front that ends with the call is the history
    pub front : IfOk result (λ noted. IfSome noted.front (λ front. (front ≡ history_of new)
        × (slice_get front noted.receipt.number ≡ Some (event_by seat noted.receipt))))
    pub err : OnErr result IsUnchanged
    pub full : (result ≡ Err fault.TrailFull) ↔ (length (history_of old) ≡ limit_of old)
    pub cause : IfErr result (λ e. (e ≡ fault.TrailFull) ⊎ (e ≡ fault.Memory))
