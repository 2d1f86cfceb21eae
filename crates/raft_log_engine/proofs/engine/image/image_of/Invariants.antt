use Rattle.std.proofs.Common.{drop}
use Rattle.raft_once.specs.Numbers.{shown}
use Rattle.raft_tables.specs.Tables.{contents_in, tables_of}
use Rattle.raft_entry_blocks.specs.Reader.{HasReadOn, blocks_of}
use Rattle.raft_log_engine.proofs.ImageLemmas.{IsBuilding}
use Rattle.raft_log_engine.proofs.engine.image.image_of.Given as goal

abbrev pub invariant-loop-group : goal.invariant-loop-group
invariant-loop-group g l = record {
  reads : HasReadOn l.fn.reader l.reader;
  building : IsBuilding (shown (contents_in (blocks_of l.fn.reader) (tables_of l.tables))) l.groups.items (drop l.group-index l.group-items);
}
