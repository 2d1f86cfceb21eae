-- An order that was written and noted.
use Rattle.std.proofs.Common.{◌≡◌, ◌∙◌, ℕ, List, ◌∷◌, map, sym, ap}
use Rattle.std.proofs.Math.Logic.{∥∥₁_map}
use Rattle.raft_disk.specs.declared.told.Call.{Call}
use Rattle.raft_orders.specs.Order.{order_bytes}

pub written_with : {w w' : List (List ℕ)} {t t' : List Call} {b : List ℕ} {o : Call}
    → ∥ w ≡ map order_bytes t ∥₁ → w' ≡ b ∷ w → t' ≡ o ∷ t → b ≡ order_bytes o
    → ∥ w' ≡ map order_bytes t' ∥₁
written_with {w} {o = o} holds written noted bytes =
    ∥∥₁_map holds (λ h. written ∙ (ap (λ x. x ∷ w) bytes ∙ ap (λ ws. order_bytes o ∷ ws) h) ∙ sym (ap (map order_bytes) noted))
