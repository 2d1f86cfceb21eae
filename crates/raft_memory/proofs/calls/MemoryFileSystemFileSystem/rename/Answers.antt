use Rattle.std.proofs.Common.{◌≡◌, refl, inr, ◌∷◌, map, ap, rules}
use Rattle.raft_env.specs.Directory.{after_rename}
use Rattle.raft_memory.specs.Files.{namespace_directory}
use Rattle.raft_env.proofs.MomentsLemmas.{moves_one}
use Rattle.raft_memory.proofs.MemoryInvariantLemmas.{invariant-renamed, invariant-same}
use Rattle.raft_memory.proofs.calls.MemoryFileSystemFileSystem.rename.Goals as goal

pub returns-clause-any_moment : goal.returns-clause-any_moment
returns-clause-any_moment c =
    let is : namespace_directory c.rename.new.self ≡ after_rename c.args.from.now c.args.to.now (namespace_directory c.args.self.now.namespace) = search rules in
    moves_one (ap (λ l. namespace_directory c.rename.new.self ∷ map namespace_directory l) c.with-past.ensures) refl (inr is)

pub invariant_of-self-in-Err : goal.invariant_of-self-in-Err
invariant_of-self-in-Err c = invariant-same c.args.self.now _ c.in-Err.ensures.err

pub invariant_of-self-2 : goal.invariant_of-self-2
invariant_of-self-2 c =
    let is : namespace_directory c.rename.new.self ≡ after_rename c.args.from.now c.args.to.now (namespace_directory c.args.self.now.namespace) = search rules in
    invariant-renamed c.args.self.now _ c.args.from.now c.args.to.now is
