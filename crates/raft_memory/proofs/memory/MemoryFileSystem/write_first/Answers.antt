use Rattle.std.proofs.Common.{◌≡◌, refl, ◌∷◌, map, ap, rules}
use Rattle.std.specs.String.{string_bytes}
use Rattle.raft_env.specs.Directory.{update_file}
use Rattle.raft_memory.specs.Files.{namespace_directory}
use Rattle.raft_memory.specs.Memory.{after_first}
use Rattle.raft_env.proofs.MomentsLemmas.{moves_one}
use Rattle.raft_memory.proofs.MemoryLemmas.{changing}
use Rattle.raft_memory.proofs.MemoryInvariantLemmas.{first_outcome, invariant-written_first, invariant-same}
use Rattle.raft_memory.proofs.memory.MemoryFileSystem.write_first.Goals as goal

pub returns-clause-any_moment : goal.returns-clause-any_moment
returns-clause-any_moment c =
    let is : namespace_directory c.write.new.self ≡ update_file (string_bytes c.args.writer.now.path) (after_first c.args.at c.args.bytes.now c.args.count) (namespace_directory c.args.self.now.namespace) = search rules in
    moves_one (ap (λ l. namespace_directory c.write.new.self ∷ map namespace_directory l) c.with-past.ensures) refl
    (changing (string_bytes c.args.writer.now.path) _ _ _ _ _ _ _ (first_outcome c.args.at c.args.bytes.now c.args.count) is)

pub invariant_of-self-in-Err : goal.invariant_of-self-in-Err
invariant_of-self-in-Err c = invariant-same c.args.self.now _ c.in-Err.ensures.err

pub invariant_of-self-2 : goal.invariant_of-self-2
invariant_of-self-2 c =
    let is : namespace_directory c.write.new.self ≡ update_file (string_bytes c.args.writer.now.path) (after_first c.args.at c.args.bytes.now c.args.count) (namespace_directory c.args.self.now.namespace) = search rules in
    invariant-written_first c.args.self.now _ (string_bytes c.args.writer.now.path) c.args.at c.args.bytes.now c.args.count is
