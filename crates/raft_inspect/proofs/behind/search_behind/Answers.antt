use Rattle.std.proofs.Common.{◌≡◌, ◌∙◌, ◌+◌, ◌<◌, List, ℕ, ◌≤◌, ap, inl, inr, length, sym, subst, arith}
use Rattle.std.proofs.Math.Nat.{eq-or-lt_of_le}
use Rattle.std.proofs.lemmas.List.{take_rest}
use Rattle.std.specs.Prelude.{drop}
use Rattle.raft_dump.specs.Stale.{headed_len, headed_lens}
use Rattle.raft_dump.proofs.StaleLemmas.{headed_step}
use Rattle.raft_inspect.specs.Behind.{IsLongSearch, IsNoRecord, IsNoneIn}
use Rattle.raft_inspect.proofs.behind.search_behind.Goals as goal

pub loop-at-preserved : goal.loop-at-preserved
loop-at-preserved c =
    let bytes = c.args.bytes.now in
    let at = c.loop-at.at in
    let here : IsNoRecord c.args.id.seq c.args.version (drop at bytes) =
    subst (λ (rest : List ℕ). IsNoRecord c.args.id.seq c.args.version rest) (take_rest bytes at) (c.in_ok-is_written.ensures.no c.if-branch.false) in
    let none : IsNoneIn c.args.id.seq c.args.version bytes (at + 1) = λ k before. (
    let within : k ≤ at = omega (arith, before) in
    elim (eq-or-lt_of_le within) [
      | inl same ↦ subst (λ (k : ℕ). IsNoRecord c.args.id.seq c.args.version (drop k bytes)) (sym same) here
      | inr less ↦ c.loop-at.invariant.0 k less
    ]) in
    let len : c.candidate_len-len.result ≡ headed_len (drop at bytes) = c.candidate_len-len.ensures.value ∙ ap headed_len (take_rest bytes at) in
    let step = headed_step bytes at (omega (arith, c.loop-at-test.true)) in
    (none, omega (arith, c.if-left-len.false), omega (arith, len, step, c.if-left-len.false, c.loop-at.invariant.2))

pub returns-then-left-len-clause-full : goal.returns-then-left-len-clause-full
returns-then-left-len-clause-full c = λ is.
    let bytes = c.args.bytes.now in
    let at = c.loop-at.at in
    let len : c.candidate_len-len.result ≡ headed_len (drop at bytes) = c.candidate_len-len.ensures.value ∙ ap headed_len (take_rest bytes at) in
    let step = headed_step bytes at (omega (arith, c.loop-at-test.true)) in
    omega (arith, len, step, c.if-left-len.true, c.loop-at.invariant.2)
