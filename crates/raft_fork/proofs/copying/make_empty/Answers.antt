use Rattle.std.proofs.Common.{◌∙◌, ap}
use Rattle.raft_env.specs.Directory.{Directory}
use Rattle.raft_env.proofs.MomentsLemmas.{moves_then_reads, moves_weaker}
use Rattle.raft_pipes.proofs.FolderLemmas.{others_created}
use Rattle.raft_opening.proofs.FileCallsLemmas.{created_empty}
use Rattle.raft_fork.proofs.FoldersLemmas.{created_folders}
use Rattle.raft_fork.proofs.copying.make_empty.Goals as goal

pub returns-in-Err-clause-writes : goal.returns-in-Err-clause-writes
returns-in-Err-clause-writes g c = record {
  ok = tt;
  folders = tt;
  any_moment = moves_weaker (λ n one. others_created c.args.path.now (g.F.FileSystem.directory c.args.file_system.now) n one) c.create.ensures.any_moment;
}

pub returns-in-Ok-new_writer-clause-writes : goal.returns-in-Ok-new_writer-clause-writes
returns-in-Ok-new_writer-clause-writes g c =
    let n = g.F.FileSystem.directory c.args.file_system.now in
    let made = g.F.FileSystem.directory c.create.new.self in
    record {
      ok = rw c.new_writer.ensures.unchanged.same_files (created_empty c.args.path.now n made c.requires c.in-Ok.ensures.ok);
      folders = ap (λ (m : Directory). m.is_folder) c.new_writer.ensures.unchanged.same_files ∙ created_folders c.args.path.now n made c.in-Ok.ensures.ok;
      any_moment = moves_then_reads (moves_weaker (λ m one. others_created c.args.path.now n m one) c.create.ensures.any_moment) c.new_writer.ensures.unchanged;
    }

pub returns-clause-writes : goal.returns-clause-writes
returns-clause-writes g c = record {
  ok = tt;
  folders = tt;
  any_moment = moves_then_reads (moves_weaker (λ n one. others_created c.args.path.now (g.F.FileSystem.directory c.args.file_system.now) n one) c.create.ensures.any_moment) c.new_writer.ensures.unchanged;
}
