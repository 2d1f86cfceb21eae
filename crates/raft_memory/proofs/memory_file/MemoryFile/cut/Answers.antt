use Rattle.std.proofs.Common.{◌≡◌, ◌≤◌, length, take, min, max, rules}
use Rattle.raft_env.specs.Outcomes.{file_after_resize}
use Rattle.raft_memory.proofs.MemoryFileLemmas.{file_cut}
use Rattle.raft_memory.proofs.MemoryFileBeforeImagesLemmas.{saved_cut}
use Rattle.raft_memory.proofs.memory_file.MemoryFile.cut.Goals as goal

pub invariant_of-self-2 : goal.invariant_of-self-2
invariant_of-self-2 c =
    let s = c.self.inside in
    let from = c.min-from.result in
    let fits : from ≤ length s.bytes = search rules in
    let reserved : c.reserve.new.self.items ≡ s.ranges.items = search rules in
    let after : c.truncate.new.self ≡ take from s.bytes = search rules in
    let size : c.len-2.result ≡ length s.bytes = search rules in
    let kept = file_cut _ _ _ c.add_range.new.ranges.items _ _ _ c.self.invariant.0 from fits (rw (reserved, size) at c.add_range.ensures) in
    let saved = saved_cut _ _ _ _ _ c.self.invariant.1 c.save.new.self from (λ i. rw (c.stored.ensures.each i) at (c.in_ok-save.ensures.ok i)) in
    let low : c.min-self-inside.result ≡ min s.least from = search rules in
    let high : c.max-self-inside.result ≡ max s.greatest from = search rules in
    let file : c.after-self-inside.result.file ≡ file_after_resize c.truncate.new.self s.ghost_file.file = search rules in
    rw (low, high, file, after) (kept, saved)
