use Rattle.std.proofs.Common.{Global, Vec, subst, sym}
use Rattle.raft_dump.specs.declared.files.LogFile.{LogFile}
use Rattle.raft_inspect.specs.Listed.{AreAllThere}
use Rattle.raft_inspect.proofs.queue_files.inspect.Goals as goal

pub returns-clause-files : goal.returns-clause-files
returns-clause-files g c =
    subst (λ (fs : Vec LogFile Global). AreAllThere c.args.queue (g.F.FileSystem.directory c.args.file_system.now) c.args.folders.now fs.items) (sym c.new.ensures.found.1) (record {
      listed = c.in_ok-files.files.items;
      are = c.in_ok-files.ensures.value;
      same = c.sort.ensures.unchanged;
      by_number = c.in_ok-sort.ensures.sorted;
    })
