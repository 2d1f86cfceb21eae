use Rattle.std.proofs.Common.{◌∙◌, ap}
use Rattle.raft_shared.specs.Words.{answer_of}
use Rattle.raft_shared.specs.declared.call.Reply.TheVariants as reply
use Rattle.raft_shared.proofs.ticket.Ticket.of.Goals as goal

pub invariant_of-result : goal.invariant_of-result
invariant_of-result g c = record {
  written = c.requires c.in-Size-Ok.size (ap answer_of (c.in-Size-Ok.is ∙ ap reply.Size c.in-Size-Ok.field-0-is));
}
