use Rattle.raft_files.specs.FileRecords.{ReadsIn}
use Rattle.raft_file_scenarios.proofs.reading.all_hold.Given as goal

abbrev pub invariant-loop-step : goal.invariant-loop-step
invariant-loop-step g l = ReadsIn (g.F.FileSystem.directory l.fs) l.reader
