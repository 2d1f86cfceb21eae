use Rattle.std.proofs.Common.{◌∙◌, ℕ, ap}
use Rattle.std.proofs.lemmas.Result.{err_from_is_err_and}
use Rattle.raft_purge.proofs.RotatesLemmas.{rotates_err, rotates_ok}
use Rattle.raft_purge.proofs.renewal_part.begin_files.Goals as goal

pub returns-in_err-begin_renewal-clause-rotates : goal.returns-in_err-begin_renewal-clause-rotates
returns-in_err-begin_renewal-clause-rotates g c =
    let p = err_from_is_err_and c.from_residual.result c.from_residual.ensures.1 in
    rw (p.1, p.2) (rotates_err c.in_err-begin_renewal.field-0.0 c.in_err-begin_renewal.ensures.rotates)

pub returns-clause-rotates : goal.returns-clause-rotates
returns-clause-rotates g c = rotates_ok c.in_ok-begin_renewal.ensures.rotates

pub returns-clause-value : goal.returns-clause-value
returns-clause-value g c = ap (λ (x : ℕ × ℕ). x.1) c.file_span-last.ensures.value ∙ c.in_ok-begin_renewal.ensures.last
