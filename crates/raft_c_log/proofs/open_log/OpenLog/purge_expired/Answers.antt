use Rattle.std.proofs.Common.{inr, refl}
use Rattle.raft_c_log.proofs.open_log.OpenLog.purge_expired.Goals as goal

pub returns-in-Ok : goal.returns-in-Ok
returns-in-Ok g c = record {
  called = inr (refl, (c.in-Ok.asked, record { log = c.in-Ok.ensures.log; expired = c.in-Ok.ensures.expired; failed = c.in-Ok.ensures.failed; unchanged = c.in-Ok.ensures.unchanged }));
}
