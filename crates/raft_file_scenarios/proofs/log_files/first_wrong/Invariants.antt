use Rattle.raft_files.specs.Writer.{IsWriterOf}
use Rattle.raft_file_scenarios.proofs.log_files.first_wrong.Given as goal

abbrev pub invariant-loop-place : goal.invariant-loop-place
invariant-loop-place g l = IsWriterOf l.writer (g.F.FileSystem.directory l.fs)
