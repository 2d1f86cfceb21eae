use Rattle.std.proofs.Common.{◌≡◌, ◌≤◌, List, Option, true, arith, length, subst, suc, sym}
use Rattle.std.specs.Prelude.{◌↔◌, IsSomeAnd, ℕ}
use mathlib.Core.List.{IsPrefix}
use Rattle.raft_shared.specs.History.{Event}
use Rattle.raft_shared.specs.Shared.{history_of}
use Rattle.raft_shared.proofs.desk.Desk.finds.Goals as goal

pub returns-then-sync-last : goal.returns-then-sync-last
returns-then-sync-last g c =
    let mine = c.args.self.now.front in
    let bound : (c.has.result ≡ true) ↔ (length c.args.durable.now.front ≤ length mine) = subst (λ (l : List Event). (c.has.result ≡ true) ↔ (length l ≤ length mine)) c.front.ensures.value c.has.ensures.settled in
    let last : IsSomeAnd c.args.self.now.synced (λ last. c.args.durable.now.sync ≤ last) = subst (λ (o : Option ℕ). IsSomeAnd o (λ last. c.args.durable.now.sync ≤ last)) (sym c.in-Some.is) (omega (arith, c.if-sync-last.true, c.sync.ensures.value)) in
    record {
      value = λ found. record {
        begins = subst (λ (l : List Event). IsPrefix l (history_of c.args.self.now.shared)) c.front.ensures.value (c.has.ensures.value found);
        count = suc c.in-Some.last;
        among = omega (arith, c.if-sync-last.true, c.sync.ensures.value, c.sync.ensures.before);
        durable = c.args.self.now.durable c.in-Some.last c.in-Some.is;
      };
      settled = ((λ is. (last, bound.0 is)), (λ both. bound.1 both.1));
    }
