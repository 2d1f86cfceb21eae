use Rattle.std.proofs.Common.{◌≡◌, length, ◌∙◌, ap, min, max, rules}
use Rattle.raft_env.specs.Outcomes.{file_after_resize, pad_to}
use Rattle.raft_memory.proofs.MemoryFileLemmas.{file_lengthened}
use Rattle.raft_memory.proofs.FileBytesLemmas.{padded_to}
use Rattle.raft_memory.proofs.MemoryFileBeforeImagesLemmas.{saved_lengthened}
use Rattle.raft_memory.proofs.memory_file.MemoryFile.lengthen.Goals as goal

pub invariant_of-self-2 : goal.invariant_of-self-2
invariant_of-self-2 c =
    let bytes = c.self.inside.bytes in
    let end : c.max-len.result ≡ max c.args.size (length bytes) = search rules in
    let reserved : c.reserve.new.self.items ≡ c.self.inside.ranges.items = search rules in
    let after : c.lengthen.new.self ≡ pad_to bytes c.args.size = c.lengthen.ensures ∙ ap (pad_to bytes) end ∙ padded_to bytes c.args.size in
    let from : c.len-from.result ≡ length bytes = search rules in
    let kept = file_lengthened _ _ _ c.add_range.new.ranges.items _ _ _ c.self.invariant.0 c.args.size (rw (reserved, end, from) at c.add_range.ensures) in
    let low : c.min-self-inside.result ≡ min c.self.inside.least (max c.args.size (length bytes)) = c.min-self-inside.ensures ∙ ap (min c.self.inside.least) end in
    let high : c.max-self-inside.result ≡ max c.self.inside.greatest (max c.args.size (length bytes)) = c.max-self-inside.ensures ∙ ap (max c.self.inside.greatest) end in
    let file : c.after-self-inside.result.file ≡ file_after_resize c.lengthen.new.self c.self.inside.ghost_file.file = search rules in
    rw (low, high, file, after) (kept, saved_lengthened _ _ _ _ _ c.self.invariant.1 c.args.size)
