use Rattle.std.proofs.Common.{◌≡◌, true, refl, ◌∷◌, map, ap, rules}
use Rattle.std.specs.String.{string_bytes}
use Rattle.raft_env.specs.Outcomes.{file_after_write, overlay}
use Rattle.raft_env.specs.Directory.{update_file}
use Rattle.raft_memory.specs.Files.{namespace_directory}
use Rattle.raft_env.proofs.MomentsLemmas.{moves_one}
use Rattle.raft_memory.proofs.MemoryLemmas.{changing}
use Rattle.raft_memory.proofs.MemoryInvariantLemmas.{invariant-written, invariant-same}
use Rattle.raft_memory.proofs.calls.MemoryFileSystemFileSystem.write.Goals as goal

pub returns-clause-any_moment : goal.returns-clause-any_moment
returns-clause-any_moment c =
    let is : namespace_directory c.write.new.self ≡ update_file (string_bytes c.args.writer.now.path) (λ f. file_after_write c.args.at c.args.bytes.now true (overlay f.now c.args.at c.args.bytes.now) f) (namespace_directory c.args.self.now.namespace) = search rules in
    moves_one (ap (λ l. namespace_directory c.write.new.self ∷ map namespace_directory l) c.with-past.ensures) refl (changing (string_bytes c.args.writer.now.path) _ _ _ _ _ true _ (λ now. refl) is)

pub invariant_of-self-in-Err-write : goal.invariant_of-self-in-Err-write
invariant_of-self-in-Err-write c = invariant-same c.args.self.now _ c.in-Err-write.ensures.err

pub invariant_of-self-2 : goal.invariant_of-self-2
invariant_of-self-2 c =
    let is : namespace_directory c.write.new.self ≡ update_file (string_bytes c.args.writer.now.path) (λ f. file_after_write c.args.at c.args.bytes.now true (overlay f.now c.args.at c.args.bytes.now) f) (namespace_directory c.args.self.now.namespace) = search rules in
    invariant-written c.args.self.now _ (string_bytes c.args.writer.now.path) c.args.at c.args.bytes.now is
