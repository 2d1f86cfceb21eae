use Rattle.std.proofs.Common.{◌≡◌, ◌==◌, ◌∙◌, ◌+◌, ap, sym, cond, drop, true, List, ℕ, slice_index_or}
use Rattle.std.proofs.lemmas.List.{at_drop_more}
use Rattle.std.specs.List.{list_any}
use Rattle.raft_purge_rules.specs.Rounds.{next_round, rounds_of}
use Rattle.raft_purge_rules.proofs.RoundsLemmas.{cond-or, same_at}
use Rattle.raft_purge_rules.proofs.rounds.Rounds.after.Goals as goal

pub loop-group-preserved : goal.loop-group-preserved
loop-group-preserved c one =
    let xs : List ℕ = c.args.asked.now in
    let i : ℕ = c.loop-group.group-index in
    let group : ℕ = slice_index_or xs i 0 in
    let before : ℕ = rounds_of c.loop-group.rounds one in
    let next = λ (x : ℕ). next_round true (rounds_of c.args.self.now x) in
    let set : rounds_of c.set.new.self one ≡ cond (group == one) (next group) before = c.in_ok-set.ensures.ok one ∙ ap (λ (n : ℕ). cond (group == one) n before) c.next.ensures.value in
    let first = sym (at_drop_more (λ (ys : List ℕ). cond (list_any (λ (asked : ℕ). asked == one) ys) (next one) before) xs i 0 c.loop-group-test.true) ∙ c.loop-group.invariant one in
    ap (λ (n : ℕ). cond (list_any (λ (asked : ℕ). asked == one) (drop (i + 1) xs)) (next one) n) (set ∙ same_at next group one before)
    ∙ cond-or (group == one) (list_any (λ (asked : ℕ). asked == one) (drop (i + 1) xs)) (next one) before _ first
