use Rattle.raft_recovery_laws.specs.Recovered.{effect}
use Rattle.raft_index_laws.proofs.DropLemmas.{front_gone, front_may_go}
use Rattle.raft_index_laws.proofs.rewriting_laws.a_dropped_front_keeps_tables_standing.Goals as goal

pub returns : goal.returns
returns c = record {
  same = front_may_go;
  gone = λ blocks rewritten appended front owed t first run_x run parts nothing entries keys stands.
      front_gone blocks (effect rewritten) appended owed t first (front_may_go blocks rewritten appended front owed t first run_x run parts nothing entries keys stands) entries keys stands;
}
