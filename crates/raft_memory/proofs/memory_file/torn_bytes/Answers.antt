use Rattle.std.proofs.Common.{◌≡◌, ◌++◌, [], ◌∷◌, ◌+◌, ◌≤◌, length, get_or, cond, ◌&&◌, ◌∙◌, arith, rules}
use Rattle.std.specs.Prelude.{◌==◌}
use Rattle.raft_memory.specs.MemoryFile.{is_covered}
use Rattle.raft_memory.proofs.ChoiceLemmas.{torn_more, left_more}
use Rattle.raft_memory.proofs.memory_file.torn_bytes.Goals as goal

pub loop-i-preserved : goal.loop-i-preserved
loop-i-preserved c =
    let covered = c.covers-is_covered.ensures in
    let pushed : c.push.new.self.items ≡ c.loop-i.bytes.items ++ c.byte_of.result ∷ [] = search rules in
    let byte : c.byte_of.result ≡ cond (c.covers-is_covered.result && (c.loop-i.left == 0)) c.args.fill (get_or c.args.now.now c.loop-i.i 0) = search rules in
    let inside : c.loop-i.i + 1 ≤ length c.args.now.now = omega arith in
    record {
      in_range = inside;
      bytes = pushed ∙ torn_more (is_covered c.args.ranges.now) c.args.kept c.args.fill c.args.now.now c.loop-i.i c.loop-i.left c.covers-is_covered.result c.loop-i.bytes.items c.byte_of.result c.loop-i.invariant.left covered c.loop-i.invariant.bytes byte;
      left = left_more (is_covered c.args.ranges.now) c.args.kept c.loop-i.i c.loop-i.left _ c.covers-is_covered.result c.loop-i.invariant.left covered c.left_after-left.ensures;
    }
