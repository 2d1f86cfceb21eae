use Rattle.std.proofs.Common.{◌≡◌, refl, ◌≤◌, ◌∷◌, ◌/◌, false, List, ℕ, length, take, map, ap, arith, rules}
use Rattle.std.proofs.lemmas.Grind.{common_steps}
use Rattle.raft_env.specs.Outcomes.{file_after_write, overlay}
use Rattle.raft_env.specs.Directory.{update_file}
use Rattle.raft_memory.specs.Files.{namespace_directory}
use Rattle.raft_env.proofs.MomentsLemmas.{moves_one}
use Rattle.raft_memory.proofs.MemoryLemmas.{changing}
use Rattle.raft_env.proofs.DirectoryLemmas.{writing_part}
use Rattle.raft_memory.proofs.MemoryInvariantLemmas.{invariant-written_part, invariant-same}
use Rattle.raft_memory.proofs.memory.MemoryFileSystem.write_half.Goals as goal

pub returns-in-Ok-clause-any_moment : goal.returns-in-Ok-clause-any_moment
returns-in-Ok-clause-any_moment c =
    let half : List ℕ = take (length c.args.bytes.now / 2) c.args.bytes.now in
    let part : length half ≤ length c.args.bytes.now = grind (arith, common_steps) in
    let is : namespace_directory c.write.new.self ≡ update_file c.args.path.now (λ f. file_after_write c.args.at c.args.bytes.now false (overlay f.now c.args.at half) f) (namespace_directory c.args.self.now.namespace) = search rules in
    moves_one (ap (λ l. namespace_directory c.write.new.self ∷ map namespace_directory l) c.with-past.ensures) refl
    (changing c.args.path.now _ _ _ _ _ false (λ now. overlay now c.args.at half) (writing_part c.args.at c.args.bytes.now half part) is)

pub invariant_of-self-in-Err-1 : goal.invariant_of-self-in-Err-1
invariant_of-self-in-Err-1 c =
    let same : namespace_directory c.write.new.self ≡ namespace_directory c.args.self.now.namespace = search rules in
    invariant-same c.args.self.now _ same

pub invariant_of-self : goal.invariant_of-self
invariant_of-self c =
    let half : List ℕ = take (length c.args.bytes.now / 2) c.args.bytes.now in
    let part : length half ≤ length c.args.bytes.now = grind (arith, common_steps) in
    let is : namespace_directory c.write.new.self ≡ update_file c.args.path.now (λ f. file_after_write c.args.at c.args.bytes.now false (overlay f.now c.args.at half) f) (namespace_directory c.args.self.now.namespace) = search rules in
    invariant-written_part c.args.self.now _ c.args.path.now c.args.at c.args.bytes.now half part is
