-- A rewriting of the Rewrite queue goes on in later calls.
use Rattle.std.proofs.Common.{◌≡◌, ◌≤◌, ◌∙◌, ◌++◌, ℕ, Bool, true, false, List, [], Some, refl, subst, sym}
use Rattle.std.proofs.Math.Logic.{∥∥₁_elim, ∥∥₁_map, ∥∥₁_prop}
use Rattle.std.proofs.Props.{props}
use Rattle.std.proofs.lemmas.Bool.{false≢true}
use Rattle.raft_base.specs.declared.pipe_log.LogQueue.TheVariants.{Rewrite}
use Rattle.raft_env.specs.Directory.{Directory}
use Rattle.raft_pipes.specs.PipeState.{PipeState, last_seq}
use Rattle.raft_pipes.proofs.ByFileCallsLemmas.{queue_batches}
use Rattle.raft_queues.specs.Dual.{DualState, both_blocks_now}
use Rattle.raft_queues.specs.DualByFile.{batches_by_file}
use Rattle.raft_queues.proofs.DualLemmas.{both_have_blocks}
use Rattle.raft_records.specs.FileBatches.{FileBatch, batches_of}
use Rattle.raft_records.specs.Contents.{Contents}
use Rattle.raft_records.specs.Places.{Blocks}
use Rattle.raft_recovery_laws.specs.Stands.{Queues}
use Rattle.raft_index_laws.specs.DroppingOld.{HoldsFrom}
use Rattle.raft_tables.specs.Owed.{Owed}
use Rattle.raft_tables.specs.Tables.{Tables}
use Rattle.raft_crash_laws.specs.Held.{HasQueues, HoldsContents, batches_in, counts_in}
use Rattle.raft_crash_laws.specs.Index.{AreIndexedBy, index_of}
use Rattle.raft_crash_laws.specs.Log.{KnownGroups}
use Rattle.raft_crash_laws.specs.Queues.{HasBothBlocks}
use Rattle.raft_crash_laws.specs.Renewal.{IsRenewing, Renewal, new_batches, old_batches}
use Rattle.raft_purge_steps.specs.Renewing.{GoesOnRenewal, renewed_log}
use Rattle.raft_purge_steps.specs.Steps.{IsLog, LogValue, log_of}
use Rattle.raft_purge.specs.UnderWay.{HaveNewFiles, IsUnderWay, renewal_at}

pub under_way_goes : (first bound : ℕ) (d : DualState) (t : Tables) (met : KnownGroups) (n : Directory) → IsUnderWay first bound d t met n → GoesOnRenewal met (renewal_at first bound met)
under_way_goes first bound d t met n u = record { none_begun = refl; together = refl; above = u.above }

-- The plain log is one that is being written anew.

module _ (first bound : ℕ) (d : DualState) (t : Tables) (owed : Owed) (met : KnownGroups) (n : Directory) (v : LogValue) (u : IsUnderWay first bound d t met n) where
  abbrev numbered : List FileBatch
  numbered = batches_by_file Rewrite d n

  abbrev r : Renewal
  r = renewal_at first bound met

  renewing : (q : Queues) → HasQueues d v.folders q n → (blocks : Blocks) → (met.are_together ≡ true → HaveNewFiles blocks numbered first bound t) → IsRenewing blocks numbered (last_seq d.rewrite) t r q
  renewing q has blocks new =
      let is : batches_of numbered ≡ batches_in q Rewrite = queue_batches d.rewrite v.folders (batches_in q Rewrite) (counts_in q Rewrite) n (has Rewrite) in
      record {
        within = u.within;
        parts = sym is ∙ u.parts;
        files = λ together. let f = new together in record { batches = sym is ∙ u.parts; together = f.together; old_ids = f.old_ids; new_ids = f.new_ids; holds = f.holds };
        begun = tt;
      }

  abbrev Renewed : Type 0
  Renewed = HoldsContents d v.folders v.contents [] (λ q. AreIndexedBy (Some r) d (index_of t owed met (Some r)) v.known n q) n

  with_files : IsLog (log_of d t owed met n) v → ((blocks : Blocks) → HasBothBlocks d n blocks → met.are_together ≡ true → HaveNewFiles blocks numbered first bound t) → Renewed
  with_files held new = ∥∥₁_map held.log (λ x. let h = x.2 in (
    x.0,
    x.1,
    record {
      queues = h.queues;
      stands = h.stands;
      since_are = h.since_are;
      has = h.has;
      more = (h.more, λ blocks has. renewing h.queues h.has blocks (new blocks has));
    },
  ))

  pub under_way_renewed : IsLog (log_of d t owed met n) v → IsLog (renewed_log d t owed met r n) v
  under_way_renewed held = record { log = at met.are_together refl; pipes = held.pipes }
    where
      at : (b : Bool) → met.are_together ≡ b → Renewed
      at true is = ∥∥₁_elim (u.files is) ∥∥₁_prop (λ new. with_files held (λ blocks has together. new blocks has))
      at false is = with_files held (λ blocks has together. absurd (false≢true (sym is ∙ together)))

-- Such a log leaves it under way.

module _ (d : DualState) (t : Tables) (owed : Owed) (met : KnownGroups) (r : Renewal) (n : Directory) (v : LogValue) (goes : GoesOnRenewal met r) (behind : d.rewrite.first ≤ r.first) (held : IsLog (renewed_log d t owed met r n) v) where
  abbrev Renewing : Queues → Type 0
  Renewing q = (blocks : Blocks) → HasBothBlocks d n blocks → IsRenewing blocks (batches_by_file Rewrite d n) (last_seq d.rewrite) t r q

  now : (q : Queues) → HasQueues d v.folders q n → Renewing q → IsRenewing (both_blocks_now d n) (batches_by_file Rewrite d n) (last_seq d.rewrite) t r q
  now q has renewing = renewing (both_blocks_now d n) (λ queue. both_have_blocks d queue ((has queue).queue_is) n)

  is : (q : Queues) → HasQueues d v.folders q n → batches_of (batches_by_file Rewrite d n) ≡ batches_in q Rewrite
  is q has = queue_batches d.rewrite v.folders (batches_in q Rewrite) (counts_in q Rewrite) n (has Rewrite)

  pub still_under_way : IsUnderWay r.first r.bound d t met n
  still_under_way = record {
    behind = behind;
    within = ∥∥₁_elim held.log (hlevel props) (λ x. (now x.2.queues x.2.has (x.2.more.1)).within);
    above = goes.above;
    parts = ∥∥₁_elim held.log (hlevel props) (λ x. is x.2.queues x.2.has ∙ (now x.2.queues x.2.has (x.2.more.1)).parts);
    files = λ together. ∥∥₁_map held.log (λ x blocks has.
        let f = (x.2.more.1 blocks has).files (goes.together ∙ together) in
        record { together = f.together; old_ids = f.old_ids; new_ids = f.new_ids; holds = f.holds });
  }

-- A call that leaves the Rewrite queue as it was, and of the tables' places there no others.

pub beside_under_way : (first bound : ℕ) (d d' : DualState) (t t' : Tables) (met : KnownGroups) (old new : Directory) → d'.rewrite ≡ d.rewrite → batches_by_file Rewrite d' new ≡ batches_by_file Rewrite d old → ((blocks : Blocks) → HasBothBlocks d' new blocks → HasBothBlocks d old blocks)
    → ((blocks : Blocks) (x : Contents) → HoldsFrom blocks first x t → HoldsFrom blocks first x t') → IsUnderWay first bound d t met old → IsUnderWay first bound d' t' met new
beside_under_way first bound d d' t t' met old new rewrite numbers before keeps u = record {
  behind = subst (λ (p : PipeState). p.first ≤ first) (sym rewrite) u.behind;
  within = subst (λ (p : PipeState). first ≤ last_seq p) (sym rewrite) u.within;
  above = u.above;
  parts = subst (λ (ns : List FileBatch). batches_of ns ≡ old_batches first ns ++ new_batches first ns) (sym numbers) u.parts;
  files = λ together. ∥∥₁_map (u.files together) (λ was blocks has. subst (λ (ns : List FileBatch). HaveNewFiles blocks ns first bound t') (sym numbers) (next blocks (was blocks (before blocks has))));
}
  where
    next : (blocks : Blocks) → HaveNewFiles blocks (batches_by_file Rewrite d old) first bound t → HaveNewFiles blocks (batches_by_file Rewrite d old) first bound t'
    next blocks f = record { together = f.together; old_ids = f.old_ids; new_ids = f.new_ids; holds = keeps blocks _ f.holds }

pub under_way_of : {A : Type 0} (first bound : ℕ) (d : DualState) (t : Tables) (met : KnownGroups) (n : Directory) → ∥ A ∥₁ → (A → IsUnderWay first bound d t met n) → IsUnderWay first bound d t met n
under_way_of first bound d t met n some each = record {
  behind = ∥∥₁_elim some (hlevel props) (λ x. (each x).behind);
  within = ∥∥₁_elim some (hlevel props) (λ x. (each x).within);
  above = ∥∥₁_elim some (hlevel props) (λ x. (each x).above);
  parts = ∥∥₁_elim some (hlevel props) (λ x. (each x).parts);
  files = λ together. ∥∥₁_elim some ∥∥₁_prop (λ x. (each x).files together);
}
