use Rattle.std.proofs.Common.{Ok, Err, refl}
use Rattle.raft_c_log.proofs.CallLemmas.{refused_any}
use Rattle.raft_c_log.proofs.CodeLemmas.{kept_code}
use Rattle.raft_c_log.proofs.open_log.OpenLog.change.Goals as goal

pub returns-in-Ok : goal.returns-in-Ok
returns-in-Ok g c = record { ended = record { outcome = Ok tt; code_is = refl; called = c.in-Ok.ensures.called } }

pub returns-in-Err : goal.returns-in-Err
returns-in-Err g c = record {
  ended = record {
    outcome = Err c.in-Err.fault;
    code_is = kept_code c.in-Err.fault c.keep.ensures.value;
    called = refused_any _ _ c.args.change c.in-Err.fault _ _ c.in-Err.ensures.called;
  };
}
