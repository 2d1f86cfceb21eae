use Rattle.std.proofs.Common.{◌≡◌, ◌∷◌, false, List, ◌++◌, map, ap, append_assoc, arith, ◌∙◌, Bool, [], inl, inr, refl, sym, subst}
use Rattle.std.proofs.lemmas.Result.{err_from_is_err_and}
use Rattle.raft_records.specs.Contents.{Contents}
use Rattle.raft_records.specs.Item.{Batch}
use Rattle.raft_env.specs.Directory.{Directory}
use Rattle.raft_env.specs.Refusal.{Refusals}
use Rattle.raft_config.specs.Folders.{Folders, folders_in}
use Rattle.raft_log_engine.specs.Engine.{begun_of, contents_of, directory_of, durable_of, folders_of, found_groups_of, has_failed, moments_of, unsynced_of}
use Rattle.raft_crash_laws.specs.Contents.{contents_at, found_groups, known_at, known_from}
use Rattle.std.specs.List.{AllByRecursion}
use Rattle.raft_base.specs.declared.pipe_log.LogQueue.{LogQueue}
use Rattle.raft_pipes.specs.Completed.{ReadsCompletedRecordsIfSimpleOf}
use Rattle.raft_pipes.specs.Folder.{AreClear}
use Rattle.raft_crash_laws.specs.Queues.{AreSingleIn}
use Rattle.raft_script.specs.Trial.{LeavesDetectable, LeavesSound}
use Rattle.raft_script.specs.Durability.{durable_groups_of}
use Rattle.raft_script.specs.Numbers.{HaveActed}
use Rattle.raft_script.specs.Headline.{progress_from}
use Rattle.raft_script.proofs.StepsLemmas.{failure_place, leads_moments, never_failed}
use Rattle.raft_script.proofs.trials.run_over.Goals as goal

pub returns-in_ok-ran-in-Ok-clause-ok : goal.returns-in_ok-ran-in-Ok-clause-ok
returns-in_ok-ran-in-Ok-clause-ok g c =
    let dir = folders_in c.args.config in
    let files = g.F.FileSystem.directory c.args.files in
    let m = contents_at dir files in
    let e = c.in-Ok.engine in
    let opened = c.in-Ok.ensures.opened in
    let after = c.run_watched.new.engine in
    let groups : found_groups_of e ≡ known_at dir files = ap (λ (f : Folders). found_groups f (begun_of e)) opened.ok.folders_are ∙ ap (found_groups dir) opened.value in
    let ops = c.args.ops.now in
    let outcomes = c.in_ok-ran-in-Ok.ran.outcomes.items in
    let run = c.in_ok-ran-in-Ok.ensures in
    let durable : durable_of e ≡ m = opened.ok.synced.0 ∙ opened.contents in
    λ _. record {
      answered = inl (record {
        opened = refl;
        begun = e;
        opens = c.in-Ok.ensures;
        holds = opened.contents;
        knows = ap (λ (l : List Batch). known_from (found_groups_of e) l) opened.ok.none ∙ groups;
        ended = after;
        runs = run.ok;
        once = run.once;
        numbers = subst (λ (x : Contents). HaveActed x m [] ops outcomes) opened.contents
            (subst (λ (x : Contents). HaveActed (contents_of e) x [] ops outcomes) durable (subst (λ (l : List Batch). HaveActed (contents_of e) (durable_of e) l ops outcomes) opened.ok.synced.1 run.numbers));
        files = c.give_up.ensures.unchanged.0;
        moments = c.give_up.ensures.unchanged.1;
        counted = (let rose = run.ok.counted in let same = c.give_up.ensures.unchanged.2 in omega (arith, rose, ap (λ (r : Refusals). r.storage) same));
      });
      clear = subst (λ (p : Folders). AreClear p (g.F.FileSystem.directory c.give_up.result)) (run.folder ∙ opened.ok.folders_are)
          (c.crash_leaves_contents.ensures.clear (folders_of after) (durable_of after) (unsynced_of after) (g.F.FileSystem.directory c.give_up.result) c.give_up.ensures.crash);
      single = subst (λ (p : Folders). AreSingleIn p (g.F.FileSystem.directory c.give_up.result)) (run.folder ∙ opened.ok.folders_are)
          (c.crash_leaves_contents.ensures.single (folders_of after) (durable_of after) (unsynced_of after) (g.F.FileSystem.directory c.give_up.result) c.give_up.ensures.crash);
    }

pub returns-in_ok-ran-in-Ok-clause-clear : goal.returns-in_ok-ran-in-Ok-clause-clear
returns-in_ok-ran-in-Ok-clause-clear g c = λ none. c.in-Ok.ensures.refused.1.clear

pub returns-in-Err-clause-ok : goal.returns-in-Err-clause-ok
returns-in-Err-clause-ok g c =
    let config = c.args.config in
    let dir = folders_in config in
    let before = g.F.FileSystem.directory c.args.files in
    let m = contents_at dir before in
    let files = g.F.FileSystem.directory c.in-Err.refused.file_system in
    let e = c.in-Err.refused.fault in
    λ keeps.
    let kept = c.in-Err.ensures.opened.any_moment.throughout.here m [] keeps in
    record {
      answered = inr (record {
        fault = e;
        refused = refl;
        cause = c.in-Err.ensures.refused;
        none = c.new.ensures.items;
        stands = refl;
        files_keep = kept;
        back = c.crashes_come_back.ensures 0 dir m [] files (c.crash_leaves_contents.ensures.left dir m [] files kept);
      });
      clear = c.crash_leaves_contents.ensures.clear dir m [] files kept;
      single = c.crash_leaves_contents.ensures.single dir m [] files kept;
    }

pub returns-in_ok-ran-in-Ok-clause-crash : goal.returns-in_ok-ran-in-Ok-clause-crash
returns-in_ok-ran-in-Ok-clause-crash g c = λ done opened none.
    let e = c.in-Ok.engine in
    let dir = folders_in c.args.config in
    let ran = c.run_watched.new.engine in
    let folders : folders_of ran ≡ dir = c.in_ok-ran-in-Ok.ensures.folder ∙ c.in-Ok.ensures.opened.ok.folders_are in
    let steps = c.in_ok-ran-in-Ok.ensures.ok.steps in
    let stood = c.in-Ok.ensures.opened.ok.stands in
    let stands : has_failed ran ≡ false = sym (ap has_failed steps.ends) ∙ never_failed has_failed e steps.states stood (sym none ∙ steps.place ∙ ap (λ (b : Bool). failure_place b (map has_failed steps.states)) stood) in
    let begun : begun_of ran ≡ g.F.FileSystem.directory c.args.files ∷ [] = c.in_ok-ran-in-Ok.ensures.others ∙ c.in-Ok.ensures.opened.value in
    let all : (queue : LogQueue) → AllByRecursion (ReadsCompletedRecordsIfSimpleOf queue dir) (begun_of ran) = λ queue. subst (λ (l : List Directory). AllByRecursion (ReadsCompletedRecordsIfSimpleOf queue dir) l) (sym begun) ((λ past. done queue), tt) in
    let told : LeavesDetectable dir (directory_of ran) = subst (λ (p : Folders). ((queue : LogQueue) → AllByRecursion (ReadsCompletedRecordsIfSimpleOf queue p) (begun_of ran)) → LeavesDetectable p (directory_of ran)) folders (c.the_damage_of_an_engine_is_detectable.ensures.crash stands) all in
    subst (λ (n : Directory). LeavesDetectable dir n) (sym c.give_up.ensures.unchanged.0) told

pub returns-in-Err-clause-crash : goal.returns-in-Err-clause-crash
returns-in-Err-clause-crash g c = λ done opened. absurd cc

pub returns-in-Err-clause-clear : goal.returns-in-Err-clause-clear
returns-in-Err-clause-clear g c = λ opened. absurd cc

pub returns-in_ok-ran-in-Ok-clause-any_moment : goal.returns-in_ok-ran-in-Ok-clause-any_moment
returns-in_ok-ran-in-Ok-clause-any_moment g c =
    let e = c.in-Ok.engine in
    let before = g.F.FileSystem.moments c.args.files in
    let opened = c.in-Ok.ensures.opened.any_moment.throughout in
    let steps = c.in_ok-ran-in-Ok.ensures.ok.steps in
    let run = leads_moments (folders_of e) (durable_of e) (durable_groups_of e) (progress_from (unsynced_of e)) e c.args.ops.now c.in_ok-ran-in-Ok.ran.outcomes.items steps.states steps.each in (
      run.0 ++ opened.added,
      c.give_up.ensures.unchanged.1 ∙ sym (ap moments_of steps.ends) ∙ run.1 ∙ ap (λ (l : List Directory). run.0 ++ l) opened.is ∙ sym (append_assoc run.0 opened.added before),
    )

pub returns-in-Err-clause-any_moment : goal.returns-in-Err-clause-any_moment
returns-in-Err-clause-any_moment g c = (c.in-Err.ensures.opened.any_moment.throughout.added, c.in-Err.ensures.opened.any_moment.throughout.is)

pub returns-in_err-ran-in-Ok-clause-cause : goal.returns-in_err-ran-in-Ok-clause-cause
returns-in_err-ran-in-Ok-clause-cause g c =
    let p = err_from_is_err_and c.from_residual.result c.from_residual.ensures.1 in
    rw (p.1, p.2) c.in_err-ran-in-Ok.ensures.cause

pub returns-in_ok-ran-in-Ok-clause-sound : goal.returns-in_ok-ran-in-Ok-clause-sound
returns-in_ok-ran-in-Ok-clause-sound g c =
    let after = c.run_watched.new.engine in
    let folders : folders_of after ≡ folders_in c.args.config = c.in_ok-ran-in-Ok.ensures.folder ∙ c.in-Ok.ensures.opened.ok.folders_are in
    let left = c.crash_leaves_contents.ensures.left (folders_of after) (durable_of after) (unsynced_of after) (g.F.FileSystem.directory c.give_up.result) c.give_up.ensures.crash in
    λ keeps. subst (λ (p : Folders). LeavesSound p (g.F.FileSystem.directory c.give_up.result)) folders (λ d leaves. (left d leaves).sound)

pub returns-in-Err-clause-sound : goal.returns-in-Err-clause-sound
returns-in-Err-clause-sound g c =
    let dir = folders_in c.args.config in
    let m = contents_at dir (g.F.FileSystem.directory c.args.files) in
    let files = g.F.FileSystem.directory c.in-Err.refused.file_system in
    λ keeps d leaves. (c.crash_leaves_contents.ensures.left dir m [] files (c.in-Err.ensures.opened.any_moment.throughout.here m [] keeps) d leaves).sound
