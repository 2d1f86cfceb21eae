use Rattle.std.proofs.Common.{◌≡◌, ◌∙◌, List, [], length, subst}
use Rattle.raft_base.specs.declared.pipe_log.LogQueue.{LogQueue}
use Rattle.raft_base.specs.declared.pipe_log.LogQueue.TheVariants.{Append, Rewrite}
use Rattle.raft_records.specs.Contents.{Contents}
use Rattle.raft_records.specs.Item.{Batch}
use Rattle.raft_files.specs.Records.{as_it_is}
use Rattle.raft_pipes.specs.Counts.{synced_to}
use Rattle.raft_pipes.specs.Folder.{readable_queue}
use Rattle.raft_pipes.specs.Queue.{RecoversPrefixOf}
use Rattle.raft_pipes.proofs.QueueFilesLemmas.{now_leaves_synced}
use Rattle.raft_recovery_laws.specs.Recovered.{recovered}
use Rattle.raft_recovery_laws.proofs.ContentsLemmas.{recovered-nothing_rewritten}
use Rattle.raft_crash_laws.specs.Crash.{IsAllowedFrom, RecoversContents, left_of_queue}
use Rattle.raft_log_engine.proofs.CrashLemmas.{contents_clear, contents_found, contents_left, contents_single, keeps_found, same_groups, same_queues}
use Rattle.raft_log_engine.proofs.laws.crash_leaves_contents.Goals as goal

pub returns-clause-left : goal.returns-clause-left
returns-clause-left c = contents_left

pub returns-clause-found : goal.returns-clause-found
returns-clause-found c = λ folders n m d restarted.
    let left : (queue : LogQueue) → readable_queue queue folders m ≡ left_of_queue queue folders n d = λ queue. c.crash_leaves_a_prefix.ensures.contents queue folders n m d restarted in
    same_queues folders m (left_of_queue Rewrite folders n d) (left_of_queue Append folders n d) (left Rewrite) (left Append)

pub returns-clause-known : goal.returns-clause-known
returns-clause-known c = λ folders n m d restarted.
    let left : (queue : LogQueue) → readable_queue queue folders m ≡ left_of_queue queue folders n d = λ queue. c.crash_leaves_a_prefix.ensures.contents queue folders n m d restarted in
    same_groups folders m (left_of_queue Rewrite folders n d) (left_of_queue Append folders n d) (left Rewrite) (left Append)

-- what is left stays
pub returns-clause-restarted : goal.returns-clause-restarted
returns-clause-restarted c = λ folders n m d restarted sound.
    let left : (queue : LogQueue) → readable_queue queue folders m ≡ left_of_queue queue folders n d = λ queue. c.crash_leaves_a_prefix.ensures.contents queue folders n m d restarted in
    let kept : (queue : LogQueue) → RecoversPrefixOf queue folders (left_of_queue queue folders n d) (synced_to (length (left_of_queue queue folders n d))) m = λ queue. c.crash_leaves_a_prefix.ensures.restarted queue folders n m d restarted (sound queue) in
    keeps_found folders m (left_of_queue Rewrite folders n d) (left_of_queue Append folders n d) (left Rewrite) (left Append) (kept Rewrite) (kept Append)

pub returns-clause-opens : goal.returns-clause-opens
returns-clause-opens c = λ folders n m d restarted sound mode tolerant queue. c.crash_leaves_a_prefix.ensures.opens queue folders n m d restarted (sound queue) mode tolerant

pub returns-clause-stays_clear : goal.returns-clause-stays_clear
returns-clause-stays_clear c = λ folders n m d restarted sound. c.crash_leaves_a_prefix.ensures.clear Append folders n m d restarted (sound Append)

pub returns-clause-clear : goal.returns-clause-clear
returns-clause-clear c = contents_clear

pub returns-clause-single : goal.returns-clause-single
returns-clause-single c = contents_single

-- the files as they are, without a crash, stand for what a crash could leave
pub returns-clause-as_they_are : goal.returns-clause-as_they_are
returns-clause-as_they_are c = λ folders m batches n keeps detectable.
    let found = contents_found folders m batches n keeps (as_it_is n) (now_leaves_synced n) detectable in (
      subst (λ (bs : List Batch). IsAllowedFrom 0 m batches (recovered bs (readable_queue Append folders n))) (c.crash_leaves_a_prefix.ensures.now Rewrite folders n)
          (subst (λ (bs : List Batch). IsAllowedFrom 0 m batches (recovered (left_of_queue Rewrite folders n (as_it_is n)) bs)) (c.crash_leaves_a_prefix.ensures.now Append folders n) found.0),
      λ mode tolerant queue. c.crash_leaves_a_prefix.ensures.opens_now queue folders n (found.1 queue) mode tolerant,
    )

-- folders without a log keep nothing
pub returns-clause-none : goal.returns-clause-none
returns-clause-none c = λ folders n none clear.
    let found : (queue : LogQueue) → (readable_queue queue folders n ≡ []) × RecoversPrefixOf queue folders [] (synced_to 0) n = λ queue. c.crash_leaves_a_prefix.ensures.none queue folders n none clear in
    let is = recovered-nothing_rewritten [] in (
      same_queues folders n [] [] (found Rewrite).0 (found Append).0 ∙ is,
      subst (λ (m : Contents). RecoversContents folders m [] n) is (keeps_found folders n [] [] (found Rewrite).0 (found Append).0 (found Rewrite).1 (found Append).1),
    )
