use Rattle.std.proofs.Common.{IfSome, rules}
use Rattle.raft_memory.specs.declared.armed.FsCall.TheVariants.{Read}
use Rattle.raft_memory.proofs.ArmedLemmas.{IsAmong, due_is_armed}
use Rattle.raft_memory.proofs.armed.Armed.fault_for_read.Goals as goal

pub returns : goal.returns
returns c =
    let among : IfSome c.loop-armed.due (λ kind. IsAmong c.args.self.now.refusals.items Read kind) = search rules in
    due_is_armed c.args.self.now.refusals.items Read c.loop-armed.due among
