use Rattle.std.proofs.Common.{ℕ, Option, arith, refl, subst}
use Rattle.std.proofs.lemmas.Result.{on_ok_weaker}
use Rattle.raft_env.proofs.MomentsLemmas.{moves_none}
use Rattle.raft_tables.specs.GroupIds.{ids_bound}
use Rattle.raft_tables.specs.Tables.{tables_of}
use Rattle.raft_crash_laws.specs.Log.{known_groups}
use Rattle.raft_purge_steps.specs.Renewing.{renewed_log}
use Rattle.raft_purge_steps.specs.Steps.{IsLog, log_by}
use Rattle.raft_purge_steps.proofs.RewriterMomentLemmas.{both_ok}
use Rattle.raft_purge_steps.proofs.StepLemmas.{here_kept}
use Rattle.raft_purge.specs.RenewalPart.{MayGoOnWith}
use Rattle.raft_purge.specs.UnderWay.{renewal_at}
use Rattle.raft_purge.specs.declared.renewal_groups.NewFiles.{NewFiles}
use Rattle.raft_purge.proofs.UnderWayLemmas.{under_way_renewed}
use Rattle.raft_purge.proofs.renewal_part.go_on.Goals as goal

-- It goes on.

pub returns-in-Some-clause-value : goal.returns-in-Some-clause-value
returns-in-Some-clause-value g c = rw c.in-Some.is refl

pub returns-in-Some-clause-within : goal.returns-in-Some-clause-within
returns-in-Some-clause-within g c =
    let u = subst (λ (f : Option NewFiles). MayGoOnWith f c.args.store.now.pipes (tables_of c.args.tables.now) (known_groups c.args.groups.now) (g.F.FileSystem.directory c.args.store.now.file_system)) c.in-Some.is c.requires.goes in
    rw c.in-Some.is u.within

pub returns-in-Some-clause-behind : goal.returns-in-Some-clause-behind
returns-in-Some-clause-behind g c =
    let u = subst (λ (f : Option NewFiles). MayGoOnWith f c.args.store.now.pipes (tables_of c.args.tables.now) (known_groups c.args.groups.now) (g.F.FileSystem.directory c.args.store.now.file_system)) c.in-Some.is c.requires.goes in
    rw c.in-Some.is u.behind

pub returns-in-Some-clause-above : goal.returns-in-Some-clause-above
returns-in-Some-clause-above g c =
    let u = subst (λ (f : Option NewFiles). MayGoOnWith f c.args.store.now.pipes (tables_of c.args.tables.now) (known_groups c.args.groups.now) (g.F.FileSystem.directory c.args.store.now.file_system)) c.in-Some.is c.requires.goes in
    rw c.in-Some.is u.above

pub returns-in-Some-clause-now : goal.returns-in-Some-clause-now
returns-in-Some-clause-now g c =
    let d = c.args.store.now.pipes in
    let t = tables_of c.args.tables.now in
    let met = known_groups c.args.groups.now in
    let n = g.F.FileSystem.directory c.args.store.now.file_system in
    let u = subst (λ (f : Option NewFiles). MayGoOnWith f d t met n) c.in-Some.is c.requires.goes in
    rw c.in-Some.is (λ owed v held. under_way_renewed c.in-Some.files.first (ids_bound c.in-Some.files.groups.ids) d t owed met n v u held)

pub returns-in-Some-clause-rotates : goal.returns-in-Some-clause-rotates
returns-in-Some-clause-rotates g c = record {
  others = λ other differs. refl;
  first = refl;
  folders = λ queue. refl;
  now = λ i v held. held;
  side = c.requires.side;
  any_moment = moves_none (λ i v held. here_kept (log_by c.args.store.now.pipes i (g.F.FileSystem.directory c.args.store.now.file_system)) v held);
  cause = tt;
}

-- It begins.

pub returns-in-None-clause-rotates : goal.returns-in-None-clause-rotates
returns-in-None-clause-rotates g c = c.begin_files.ensures.rotates

pub returns-in-None-clause-value : goal.returns-in-None-clause-value
returns-in-None-clause-value g c = rw c.in-None.is c.begin_files.ensures.value

pub returns-in-None-clause-within : goal.returns-in-None-clause-within
returns-in-None-clause-within g c = rw c.in-None.is (on_ok_weaker c.begin_files.result (λ last. omega (arith, last)) c.begin_files.ensures.last)

pub returns-in-None-clause-behind : goal.returns-in-None-clause-behind
returns-in-None-clause-behind g c = rw c.in-None.is (omega arith)

pub returns-in-None-clause-above : goal.returns-in-None-clause-above
returns-in-None-clause-above g c = rw c.in-None.is (omega arith)

pub returns-in-None-clause-now : goal.returns-in-None-clause-now
returns-in-None-clause-now g c =
    let d' = c.begin_files.new.store.pipes in
    let t = tables_of c.args.tables.now in
    let met = known_groups c.args.groups.now in
    let n' = g.F.FileSystem.directory c.begin_files.new.store.file_system in
    rw c.in-None.is (both_ok c.begin_files.result _ _ _ (λ begins last owed v held. subst (λ (k : ℕ). IsLog (renewed_log d' t owed met (renewal_at k met.bound met) n') v) last (begins t owed met v refl held)) c.begin_files.ensures.now c.begin_files.ensures.last)
