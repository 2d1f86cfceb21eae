use Rattle.raft_c_log.proofs.CodeLemmas.{kept_code}
use Rattle.raft_c_log.proofs.RefusalLemmas.{close_refused}
use Rattle.raft_c_log.proofs.open_log.OpenLog.close.Goals as goal

pub returns : goal.returns
returns g c = record {
  closed = close_refused c.args.self.engine c.in-Err.refused (kept_code c.in-Err.refused.fault c.keep.ensures.value) c.in-Err.ensures.err c.in-Err.ensures.any_moment c.in-Err.ensures.failed c.in-Err.ensures.cause c.in-Err.ensures.unchanged c.in-Err.ensures.others c.in-Err.ensures.passed;
}
