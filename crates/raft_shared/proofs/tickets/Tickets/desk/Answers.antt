use Rattle.std.specs.Sync.Mutex.{mutex_guard_value}
use Rattle.raft_shared.proofs.tickets.Tickets.desk.Goals as goal

pub returns : goal.returns
returns g c = record { origin = (mutex_guard_value c.lock.result).origin }
