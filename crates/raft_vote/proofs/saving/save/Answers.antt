use Rattle.std.proofs.Common.{◌≡◌, true, arith, rules}
use Rattle.std.proofs.lemmas.Grind.{common_steps}
use Rattle.std.specs.Prelude.{Ok}
use Rattle.raft_log_engine.specs.Engine.{contents_of}
use Rattle.raft_vote.specs.HardState.{may_follow, state_in}
use Rattle.raft_vote.proofs.SaveLemmas.{no_call, save_batch, write_contents, write_moves_on, write_saves, write_stays, written_items}
use Rattle.raft_vote.proofs.saving.save.Goals as goal

pub returns-in_err-load-clause-moves : goal.returns-in_err-load-clause-moves
returns-in_err-load-clause-moves g c = no_call g.F.FileSystem c.calls_have_effects.ensures.nothing c.calls_keep.ensures.batches c.args.engine.now

pub returns-then-not-may_come_to-clause-moves : goal.returns-then-not-may_come_to-clause-moves
returns-then-not-may_come_to-clause-moves g c = no_call g.F.FileSystem c.calls_have_effects.ensures.nothing c.calls_keep.ensures.batches c.args.engine.now

pub returns-in_err-to_vec-clause-moves : goal.returns-in_err-to_vec-clause-moves
returns-in_err-to_vec-clause-moves g c = no_call g.F.FileSystem c.calls_have_effects.ensures.nothing c.calls_keep.ensures.batches c.args.engine.now

pub returns-in_err-put_message-clause-moves : goal.returns-in_err-put_message-clause-moves
returns-in_err-put_message-clause-moves g c = no_call g.F.FileSystem c.calls_have_effects.ensures.nothing c.calls_keep.ensures.batches c.args.engine.now

pub returns-in_err-write-clause-moves : goal.returns-in_err-write-clause-moves
returns-in_err-write-clause-moves g c =
    let items : c.put_message.new.self.items ≡ save_batch c.args.group c.args.state =
    written_items c.new-batch.result c.put_message.new.self c.args.group c.args.state c.in_ok-to_vec.field-0.items
    c.new-batch.ensures.value (c.in_ok-to_vec.ensures.items_if_clones_equal (λ x y e. e)) c.in_ok-put_message.ensures.ok in
    let may : may_follow (state_in c.args.group (contents_of c.args.engine.now)) c.args.state ≡ true = first_of (search rules, grind (arith, common_steps)) in
    write_moves_on g.F.FileSystem c.calls_keep.ensures.write c.args.group c.put_message.new.self.items c.args.engine.now c.write.new.self c.args.state c.write.result items c.is_read_back.ensures may
    (c.calls_have_effects.ensures.write c.put_message.new.self.items c.write.new.batch.items true c.args.engine.now c.write.new.self c.write.result c.write.ensures.call c.write.ensures.plain)

pub returns-clause-moves : goal.returns-clause-moves
returns-clause-moves g c =
    let items : c.put_message.new.self.items ≡ save_batch c.args.group c.args.state =
    written_items c.new-batch.result c.put_message.new.self c.args.group c.args.state c.in_ok-to_vec.field-0.items
    c.new-batch.ensures.value (c.in_ok-to_vec.ensures.items_if_clones_equal (λ x y e. e)) c.in_ok-put_message.ensures.ok in
    let may : may_follow (state_in c.args.group (contents_of c.args.engine.now)) c.args.state ≡ true = first_of (search rules, grind (arith, common_steps)) in
    write_moves_on g.F.FileSystem c.calls_keep.ensures.write c.args.group c.put_message.new.self.items c.args.engine.now c.write.new.self c.args.state c.write.result items c.is_read_back.ensures may
    (c.calls_have_effects.ensures.write c.put_message.new.self.items c.write.new.batch.items true c.args.engine.now c.write.new.self c.write.result c.write.ensures.call c.write.ensures.plain)

pub returns-clause-stays : goal.returns-clause-stays
returns-clause-stays g c =
    let items : c.put_message.new.self.items ≡ save_batch c.args.group c.args.state =
    written_items c.new-batch.result c.put_message.new.self c.args.group c.args.state c.in_ok-to_vec.field-0.items
    c.new-batch.ensures.value (c.in_ok-to_vec.ensures.items_if_clones_equal (λ x y e. e)) c.in_ok-put_message.ensures.ok in
    write_stays g.F.FileSystem c.a_saved_state_stays.ensures c.calls_have_effects.ensures.syncs c.args.group c.put_message.new.self.items c.args.engine.now c.write.new.self c.args.state c.in_ok-write.field-0
    (write_saves g.F.FileSystem c.args.group c.put_message.new.self.items c.write.new.batch.items c.args.engine.now c.write.new.self c.args.state c.in_ok-write.field-0 items c.is_read_back.ensures c.in_ok-write.ensures.call)
    (c.calls_have_effects.ensures.write c.put_message.new.self.items c.write.new.batch.items true c.args.engine.now c.write.new.self (Ok c.in_ok-write.field-0) c.in_ok-write.ensures.call c.in_ok-write.ensures.plain)

pub returns-clause-ok : goal.returns-clause-ok
returns-clause-ok g c =
    let items : c.put_message.new.self.items ≡ save_batch c.args.group c.args.state =
    written_items c.new-batch.result c.put_message.new.self c.args.group c.args.state c.in_ok-to_vec.field-0.items
    c.new-batch.ensures.value (c.in_ok-to_vec.ensures.items_if_clones_equal (λ x y e. e)) c.in_ok-put_message.ensures.ok in
    write_saves g.F.FileSystem c.args.group c.put_message.new.self.items c.write.new.batch.items c.args.engine.now c.write.new.self c.args.state c.in_ok-write.field-0 items c.is_read_back.ensures c.in_ok-write.ensures.call

pub returns-clause-contents : goal.returns-clause-contents
returns-clause-contents g c =
    let items : c.put_message.new.self.items ≡ save_batch c.args.group c.args.state =
    written_items c.new-batch.result c.put_message.new.self c.args.group c.args.state c.in_ok-to_vec.field-0.items
    c.new-batch.ensures.value (c.in_ok-to_vec.ensures.items_if_clones_equal (λ x y e. e)) c.in_ok-put_message.ensures.ok in
    write_contents g.F.FileSystem c.args.group c.put_message.new.self.items c.write.new.batch.items c.args.engine.now c.write.new.self c.args.state c.in_ok-write.field-0 items c.in_ok-write.ensures.call
