use Rattle.std.proofs.Common.{◌∙◌, inl, inr, refl, sym}
use Rattle.std.proofs.lemmas.Bool.{false≢true}
use Rattle.std.proofs.lemmas.Result.{err_from_is_err_and}
use Rattle.raft_base.specs.declared.errors.Fault.TheVariants as fault
use Rattle.raft_listeners.proofs.HeardLemmas.{heard_none}
use Rattle.raft_tables.specs.Tables.{tables_of}
use Rattle.raft_log_engine.specs.Engine.{has_groups_together, rewrite_queue_of}
use Rattle.raft_log_engine.specs.RewriteGroups.{files_new, first_new}
use Rattle.raft_log_engine.proofs.PurgeCallLemmas.{hears_none, hears_refused, purges_err, purges_none, purges_want}
use Rattle.raft_log_engine.proofs.RewriteGroupsLemmas.{begins_with, behind_is, last_of, renewed_from}
use Rattle.raft_log_engine.proofs.engine.Engine.must_rewrite_rewrite_groups_with_listeners.Goals as goal

pub returns-then-self-clause-log : goal.returns-then-self-clause-log
returns-then-self-clause-log g c = purges_none _ _ _ fault.Failed c.args.self.now (λ stands. absurd (false≢true (sym stands ∙ c.if-self.true)))

pub returns-then-self-clause-groups : goal.returns-then-self-clause-groups
returns-then-self-clause-groups g c = record { renewed = tt; fits = tt; renewal = inr refl; rewrite = tt; gone = tt; append = refl; lost = inl refl; counted = tt; rounds = refl }

pub returns-then-self-clause-told : goal.returns-then-self-clause-told
returns-then-self-clause-told g c = let h = g.L.EventSink.heard c.args.listeners.now in hears_none _ fault.Failed c.args.self.now h h (heard_none h)

-- Memory is wanting.

pub returns-in_default-clause-log : goal.returns-in_default-clause-log
returns-in_default-clause-log g c = purges_want _ _ _ fault.Memory c.args.self.now refl

pub returns-in_default-clause-groups : goal.returns-in_default-clause-groups
returns-in_default-clause-groups g c = record { renewed = tt; fits = tt; renewal = inr refl; rewrite = tt; gone = tt; append = refl; lost = inl refl; counted = tt; rounds = refl }

pub returns-in_default-clause-told : goal.returns-in_default-clause-told
returns-in_default-clause-told g c = let h = g.L.EventSink.heard c.args.listeners.now in hears_none _ fault.Memory c.args.self.now h h (heard_none h)

-- The purge is refused.

pub returns-in_err-answer_purge-clause-log : goal.returns-in_err-answer_purge-clause-log
returns-in_err-answer_purge-clause-log g c =
    let p = err_from_is_err_and c.from_residual.result c.from_residual.ensures.1 in
    rw (p.1, p.2) (purges_err c.in_err-answer_purge.ensures.log)

pub returns-in_err-answer_purge-clause-groups : goal.returns-in_err-answer_purge-clause-groups
returns-in_err-answer_purge-clause-groups g c =
    let p = err_from_is_err_and c.from_residual.result c.from_residual.ensures.1 in
    let files = c.in_err-answer_purge.ensures.files in
    rw (p.1, p.2) (record { renewed = tt; fits = tt; renewal = files.renewal; rewrite = tt; gone = tt; append = files.freed.append refl; lost = files.freed.first; counted = tt; rounds = files.rounds })

pub returns-in_err-answer_purge-clause-told : goal.returns-in_err-answer_purge-clause-told
returns-in_err-answer_purge-clause-told g c =
    let p = err_from_is_err_and c.from_residual.result c.from_residual.ensures.1 in
    rw (p.1, p.2) (hears_refused c.in_err-answer_purge.ensures.told)

-- It is answered.

pub returns-clause-log : goal.returns-clause-log
returns-clause-log g c =
    let l = c.in_ok-answer_purge.ensures.log in
    record { contents = l.contents; progress = l.progress; any_moment = l.any_moment; others = l.others; front = l.front; path = λ stands fails. tt; cause = λ stands. tt }

pub returns-clause-told : goal.returns-clause-told
returns-clause-told g c =
    let h = c.in_ok-answer_purge.ensures.told in record { told = h.told; silent = h.silent }

pub returns-clause-groups : goal.returns-clause-groups
returns-clause-groups g c =
    let old = c.args.self.now in
    let new = c.answer_purge.new.self in
    let found = c.in-Ok.found in
    let done = c.in_ok-answer_purge.ensures.files in
    let freed = done.freed in
    let left = freed.files.0 in
    let is = c.is_none.ensures in
    let last = c.is_none.result in
    record {
      renewed = renewed_from (first_new old) c.args.from found (tables_of old.log.tables) (tables_of new.log.tables) c.in-Ok.ensures.value left.emptied freed.tables;
      fits = (found, refl, c.in-Ok.ensures.ascending, c.in-Ok.ensures.value, c.in-Ok.ensures.budget);
      renewal = done.renewal ∙ behind_is last found.next (files_new old) is;
      rewrite = begins_with last found.next (first_new old) (has_groups_together old) new.log.tables (rewrite_queue_of old) (rewrite_queue_of new) is left.kept left.dropped;
      gone = λ none together each. left.gone (last_of last found.next is none) together (record { entries = λ group. (each group).entries; keys = λ group key. (each group).keys key });
      append = freed.append refl;
      lost = tt;
      counted = λ none. freed.counted (last_of last found.next is none);
      rounds = done.rounds;
    }
