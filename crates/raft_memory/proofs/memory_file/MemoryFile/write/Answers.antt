use Rattle.std.proofs.Common.{◌≡◌, List, ℕ, ◌+◌, length, ◌∙◌, ap, min, max, get_or, rules}
use Rattle.raft_env.specs.Outcomes.{file_after_write, longest_of}
use Rattle.raft_memory.specs.MemoryFile.{IsSaved}
use Rattle.raft_memory.proofs.MemoryFileLemmas.{file_written}
use Rattle.raft_env.proofs.OutcomesOverlayLemmas.{overlaid_outside_part}
use Rattle.raft_memory.proofs.MemoryFileBeforeImagesLemmas.{saved_written}
use Rattle.raft_memory.proofs.memory_file.MemoryFile.write.Goals as goal

pub invariant_of-self-2 : goal.invariant_of-self-2
invariant_of-self-2 c =
    let after_is = c.in_ok-overlay.ensures.ok in
    let reserved : c.reserve.new.self.items ≡ c.self.inside.ranges.items = search rules in
    let kept = file_written _ _ _ c.add_range.new.ranges.items _ _ _ c.self.invariant.0 c.args.at c.args.given.now c.overlay.new.self c.args.is_done
    (rw reserved at c.add_range.ensures) (λ i out. ap (λ (l : List ℕ). get_or l i 0) after_is ∙ overlaid_outside_part _ _ _ _ c.requires.part i out) in
    let low : c.min-self-inside.result ≡ min c.self.inside.least (length c.overlay.new.self) = search rules in
    let high : c.max-self-inside.result ≡ max c.self.inside.greatest (longest_of c.args.is_done c.args.at (length c.args.given.now) (length c.overlay.new.self)) = search rules in
    let file : c.after-self-inside.result.file ≡ file_after_write c.args.at c.args.given.now c.args.is_done c.overlay.new.self c.self.inside.ghost_file.file = search rules in
    let end : c.min-end.result ≡ min c.self.inside.synced_stored (c.args.at + length c.args.given.now) = search rules in
    let saved : IsSaved c.overlay.new.self c.save.new.self c.self.inside.synced_stored c.self.inside.synced_len c.self.inside.ghost_file.file.synced = rw after_is (saved_written _ _ _ _ _ c.self.invariant.1 c.save.new.self c.args.at c.args.given.now c.args.kept.now c.requires.part (λ i. rw (end, c.stored.ensures.each i) at (c.in_ok-save.ensures.ok i))) in
    rw (low, high, file) (kept, saved)
