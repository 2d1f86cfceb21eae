use Rattle.std.proofs.Common.{arith, refl}
use Rattle.raft_shared.proofs.Fronts.{begins_prefix, prefix_shorter, prefix_trans}
use Rattle.raft_shared.proofs.desk.Desk.has.Goals as goal

pub returns : goal.returns
returns g c = record {
  value = λ _.
      let mine = c.args.self.now.front in
      let theirs = c.args.front.now in
      prefix_trans theirs mine _ (prefix_shorter theirs mine _ c.longer-both.ensures.that c.longer-both.ensures.this (omega (arith, c.if-len.false, c.len.ensures.value, c.len-2.ensures.value))) (begins_prefix mine _ c.args.self.now.begins);
  settled = ((λ _. omega (arith, c.if-len.false, c.len.ensures.value, c.len-2.ensures.value)), λ _. refl);
}
