use Rattle.std.proofs.Common.{◌∙◌, ap, refl, ℕ}
use Rattle.std.specs.Prelude.{Err, Result}
use Rattle.raft_base.specs.declared.errors.Fault.{Fault}
use Rattle.raft_shared.specs.History.{Reason, Size}
use Rattle.raft_shared.specs.Words.{reply_by}
use Rattle.raft_shared.proofs.call.Reply.of_size.Goals.{in-Ok, in-Err}
use Rattle.raft_shared.proofs.call.Reply.of_size.Goals as goal

pub returns : goal.returns
returns c = elim c.match-size.branch [
  | in-Ok w ↦ record { value = ap (λ (r : Result ℕ Fault). Size (reply_by (λ n. n) r)) w.result-is ∙ rw w.in-Ok.is refl }
  | in-Err w ↦ record { value = ap (λ (r : Result ℕ Fault). Size (reply_by (λ n. n) r)) w.result-is ∙ (ap (λ (e : Reason). Size (Err e)) w.without_path.ensures.value ∙ rw w.in-Err.is refl) }
]
