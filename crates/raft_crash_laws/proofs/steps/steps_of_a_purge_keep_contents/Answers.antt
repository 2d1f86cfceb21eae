use Rattle.std.proofs.Common.{[], refl}
use Rattle.std.specs.Prelude.{⊤}
use Rattle.raft_base.specs.declared.pipe_log.LogQueue.TheVariants.{Rewrite}
use Rattle.raft_pipes.specs.Purge.{dropped_batches}
use Rattle.raft_crash_laws.specs.Held.{IsSyncedIn}
use Rattle.raft_recovery_laws.specs.Takes.{CanDropFront, RewriteTakes}
use Rattle.raft_crash_laws.proofs.PurgeStepsLemmas.{held_dropped, held_dropping, held_rewrite_synced, held_rewriting, held_rewritten}
use Rattle.raft_crash_laws.proofs.steps.steps_of_a_purge_keep_contents.Goals as goal

pub returns-clause-rewritten : goal.returns-clause-rewritten
returns-clause-rewritten c = λ d d' folders m since old new given b held done is. held_rewritten d d' folders m since (RewriteTakes b) (λ q. ⊤) old new held given b done is (λ q h. h) (λ q h. tt)

pub returns-clause-rewriting : goal.returns-clause-rewriting
returns-clause-rewriting c = λ d folders m since old n given b held keeps is. held_rewriting d folders m since (RewriteTakes b) old n given b held keeps is (λ q h. h)

pub returns-clause-synced : goal.returns-clause-synced
returns-clause-synced c = λ d d' folders m since old new held done. held_rewrite_synced d d' folders m since (λ q. ⊤) (IsSyncedIn Rewrite) old new held done (λ q h. refl)

pub returns-clause-dropped : goal.returns-clause-dropped
returns-clause-dropped c = λ d d' folders m old new seq most held done. held_dropped d folders m [] (CanDropFront (dropped_batches most d.append old)) old held most (λ q h. h) d' (λ q. ⊤) new seq done (λ q stay h is. tt)

pub returns-clause-dropping : goal.returns-clause-dropping
returns-clause-dropping c = λ d folders m old n most held keeps. held_dropping d folders m [] (CanDropFront (dropped_batches most d.append old)) old held most (λ q h. h) n keeps
