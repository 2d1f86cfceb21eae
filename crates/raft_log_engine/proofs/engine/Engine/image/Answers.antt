use Rattle.std.proofs.Common.{◌∙◌, ap, subst}
use Rattle.raft_once.specs.Numbers.{shown}
use Rattle.raft_records.specs.Contents.{Contents}
use Rattle.raft_records.specs.Places.{Blocks}
use Rattle.raft_tables.specs.Tables.{contents_in, tables_of}
use Rattle.raft_log_engine.specs.Engine.{has_failed, refusals_of}
use Rattle.raft_log_engine.specs.Image.{IsImageOf}
use Rattle.raft_log_engine.proofs.FaultLemmas.{dual_refusal_not_failed, failed_iff}
use Rattle.raft_log_engine.proofs.HeldLemmas.{blocks_over, cached_over, completed_still, goes_still, dual_over, files_over, has_over, holds_still, left_still, pipe_refusal, queues_still, stands_for}
use Rattle.raft_log_engine.proofs.engine.Engine.image.Goals as goal

pub new-reader-requires-clause-holds : goal.new-reader-requires-clause-holds
new-reader-requires-clause-holds g c = λ lifetimes order. c.args.self.now.cached c.if-self.false

pub image_of-requires-clause-readable : goal.image_of-requires-clause-readable
image_of-requires-clause-readable g c = λ lifetimes order blocks has.
    (c.args.self.now.holds c.if-self.false blocks (has_over c.args.self.now c.new-reader.result c.new-reader.ensures.pipes (ap (λ r. r.now) c.new-reader.ensures.file_system) blocks has)).readable

pub invariant_of-self : goal.invariant_of-self
invariant_of-self g c =
    let old = c.args.self.now in
    let pipes = c.new-reader.ensures.pipes in
    let files = ap (λ r. r.now) c.new-reader.ensures.file_system in
    let left = c.image_of.new.reader in
    let reads = c.image_of.ensures.unchanged in
    let n = g.F.FileSystem.directory left.file_system.now in
    let same = files_over old c.new-reader.result pipes files left reads in
    record {
      emptied = old.emptied;
      holds = holds_still old n same;
      cached = λ alive. cached_over old c.new-reader.result pipes files left reads;
      queues = queues_still old n same;
      completed = completed_still old n same;
      goes = goes_still old n same;
      form = old.form;
      left = left_still old n same;
    }

pub returns-in-Ok-clause-value : goal.returns-in-Ok-clause-value
returns-in-Ok-clause-value g c =
    let old = c.args.self.now in
    let same = ap (λ (b : Blocks). contents_in b (tables_of old.log.tables)) (blocks_over old c.new-reader.result c.new-reader.ensures.pipes (ap (λ r. r.now) c.new-reader.ensures.file_system)) in
    subst (λ (m : Contents). IsImageOf c.in-Ok.image.groups.items (shown m)) (same ∙ (stands_for old c.if-self.false).contents) c.in-Ok.ensures.value

pub returns-in-Err-clause-failed : goal.returns-in-Err-clause-failed
returns-in-Err-clause-failed g c =
    let old = c.args.self.now in
    let left = c.image_of.new.reader in
    let dual = dual_over old c.new-reader.result c.new-reader.ensures.pipes (ap (λ r. r.now) c.new-reader.ensures.file_system) left c.in-Err.fault c.in-Err.ensures.cause in
    failed_iff c.in-Err.fault (has_failed old) c.if-self.false (dual_refusal_not_failed old.log.store.pipes (refusals_of old) (g.F.FileSystem.refusals_of left.file_system.now) c.in-Err.fault dual)

pub returns-in-Err-clause-cause : goal.returns-in-Err-clause-cause
returns-in-Err-clause-cause g c = λ alive.
    let old = c.args.self.now in
    let left = c.image_of.new.reader in
    pipe_refusal old alive (refusals_of old) (g.F.FileSystem.refusals_of left.file_system.now) c.in-Err.fault
    (dual_over old c.new-reader.result c.new-reader.ensures.pipes (ap (λ r. r.now) c.new-reader.ensures.file_system) left c.in-Err.fault c.in-Err.ensures.cause)
