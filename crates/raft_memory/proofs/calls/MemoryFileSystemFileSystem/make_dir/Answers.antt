use Rattle.std.proofs.Common.{◌≡◌, refl, ◌∷◌, map, ap, rules}
use Rattle.raft_env.specs.Directory.{folder_made}
use Rattle.raft_memory.specs.Files.{namespace_directory}
use Rattle.raft_memory.proofs.FilesFolderLemmas.{making_done, making_none}
use Rattle.raft_env.proofs.MomentsLemmas.{counted_no_fewer, moves_one, passes_none}
use Rattle.raft_memory.proofs.MemoryInvariantLemmas.{invariant-folder_made, invariant-same}
use Rattle.raft_memory.proofs.calls.MemoryFileSystemFileSystem.make_dir.Goals as goal

pub returns-clause-any_moment : goal.returns-clause-any_moment
returns-clause-any_moment c =
    let is : namespace_directory c.make_folder.new.self ≡ folder_made c.args.path.now (namespace_directory c.args.self.now.namespace) = search rules in
    moves_one (ap (λ l. namespace_directory c.make_folder.new.self ∷ map namespace_directory l) c.with-past.ensures) refl (making_done c.args.path.now (namespace_directory c.args.self.now.namespace) (namespace_directory c.make_folder.new.self) is)

pub invariant_of-self-in-Err : goal.invariant_of-self-in-Err
invariant_of-self-in-Err c = invariant-same c.args.self.now _ c.in-Err.ensures.err

pub invariant_of-self-2 : goal.invariant_of-self-2
invariant_of-self-2 c =
    let is : namespace_directory c.make_folder.new.self ≡ folder_made c.args.path.now (namespace_directory c.args.self.now.namespace) = search rules in
    invariant-folder_made c.args.self.now _ c.args.path.now is

pub returns-in-Err-clause-any_moment : goal.returns-in-Err-clause-any_moment
returns-in-Err-clause-any_moment c =
    let same : namespace_directory c.make_folder.new.self ≡ namespace_directory c.args.self.now.namespace = c.in-Err.ensures.err in
    record {
      throughout = passes_none _ _ _ _ (ap (λ n. n ∷ map namespace_directory c.args.self.now.past.items) same) (making_none c.args.path.now _ _ same);
      no_fewer = counted_no_fewer _ _ _ c.count-in-Err.ensures.counts;
    }
