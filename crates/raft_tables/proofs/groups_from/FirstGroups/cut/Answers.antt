use Rattle.std.proofs.Common.{◌≡◌, ◌<◌, List, ap, inr, refl, subst, sym, take, arith, length, ℕ}
use Rattle.std.proofs.lemmas.Grind.{common_steps}
use Rattle.std.proofs.lemmas.List.{length-take-le}
use Rattle.raft_tables.specs.GroupsFrom.{IsFront}
use Rattle.raft_tables.proofs.GroupsFromLemmas.{front_of_sorted}
use Rattle.raft_tables.proofs.groups_from.FirstGroups.cut.Goals as goal

pub returns : goal.returns
returns c =
    let found = c.args.self.now.groups.items in
    let all = c.sort_unstable.new.self.items in
    let limit = c.args.limit in
    let next = c.index.result.now in
    let less : limit < length all = grind (arith, common_steps, c.len.ensures, c.saturating_mul.ensures, c.if-len-saturating_mul.false, c.sort_unstable.ensures.len, c.ranges.limit.fits) in
    let long : length (take limit all) ≡ limit = length-take-le limit all (omega (arith, less)) in
    let taken = c.truncate.ensures.items in
    let split = front_of_sorted found all limit c.sort_unstable.ensures.permutation c.requires c.sort_unstable.ensures.sorted less next c.index.ensures in
    record { full = inr (next, refl, omega (arith, long, ap length taken), subst (λ (xs : List ℕ). IsFront found xs next) (sym taken) split) }
