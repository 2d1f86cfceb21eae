use Rattle.std.proofs.Common.{◌≡◌, ◌++◌}
use Rattle.raft_records.specs.Places.{entries_in}
use Rattle.raft_tables.specs.Table.{table_of}
use Rattle.raft_log_engine.specs.Image.{entries_of}
use Rattle.raft_entry_blocks.specs.Reader.{HasReadOn, blocks_of}
use Rattle.raft_log_engine.specs.Reads.{entries_between}
use Rattle.raft_log_engine.proofs.engine.image.group_entries.Given as goal

abbrev pub invariant-loop-index : goal.invariant-loop-index
invariant-loop-index g l = record {
  reads : HasReadOn l.fn.reader l.reader;
  listed :
      let all = entries_in (blocks_of l.fn.reader) (table_of l.table).entries in
      entries_of l.entries.items ++ entries_between l.index l.index-end all ≡ all;
}
