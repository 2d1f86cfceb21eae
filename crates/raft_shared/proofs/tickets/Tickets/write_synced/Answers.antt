use Rattle.raft_shared.proofs.Turns.{fails_in_turn, kept_in_turn, told_in_turn, unheard_in_turn}
use Rattle.raft_shared.proofs.tickets.Tickets.write_synced.Goals as goal

pub returns-clause-told : goal.returns-clause-told
returns-clause-told g c =
    told_in_turn c.args.batch.now.items c.write.new.batch.items c.args.seat.now c.write.new.seat c.wait.new.seat c.in_ok-ticket.ticket c.in_ok-ticket.ensures.told c.wait.result c.wait.ensures.ok c.wait.ensures.told

pub returns-clause-err : goal.returns-clause-err
returns-clause-err g c =
    fails_in_turn c.args.batch.now.items c.write.new.batch.items c.args.seat.now c.write.new.seat c.wait.new.seat c.in_ok-ticket.ticket c.in_ok-ticket.ensures.told c.wait.result c.in_ok-ticket.ensures.rest c.wait.ensures.err

pub returns-clause-unchanged : goal.returns-clause-unchanged
returns-clause-unchanged g c =
    unheard_in_turn c.args.batch.now.items c.write.new.batch.items c.args.seat.now c.write.new.seat c.wait.new.seat c.in_ok-ticket.ticket c.in_ok-ticket.ensures.told _ _ c.wait.result c.wait.ensures.err

pub returns-clause-refused : goal.returns-clause-refused
returns-clause-refused g c =
    kept_in_turn c.args.batch.now.items c.write.new.batch.items c.args.seat.now c.write.new.seat c.wait.new.seat c.in_ok-ticket.ticket c.in_ok-ticket.ensures.told c.wait.result c.wait.ensures.err
