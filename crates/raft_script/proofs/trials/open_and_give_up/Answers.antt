use Rattle.std.proofs.Common.{ap, arith, inl, inr, refl, subst, sym}
use Rattle.std.specs.Prelude.{Ok, Err}
use Rattle.std.proofs.lemmas.Result.{IfErr-weaker, IfOk-weaker}
use Rattle.raft_env.proofs.MomentsLemmas.{moves_then_reads}
use Rattle.raft_env.specs.Refusal.{Refusals, RoseBy}
use Rattle.raft_log_engine.specs.Engine.{folders_of, refusals_of}
use Rattle.raft_log_engine.specs.Image.{IsImageOf}
use Rattle.raft_once.specs.Numbers.{shown}
use Rattle.raft_records.specs.Contents.{Contents}
use Rattle.raft_config.proofs.ConfigLemmas.{no_contradiction}
use Rattle.raft_config.specs.Folders.{folders_in}
use Rattle.raft_script.proofs.CrashLemmas.{refused_outside}
use Rattle.raft_script.proofs.TrialLemmas.{opening_rose, read_fails, read_rose, refused_inside}
use Rattle.raft_script.proofs.trials.open_and_give_up.Goals as goal

pub returns-in-Ok-clause-value : goal.returns-in-Ok-clause-value
returns-in-Ok-clause-value g c = IfOk-weaker c.image-found.result _ _ (λ image is. subst (λ (x : Contents). IsImageOf image.groups.items (shown x)) c.in-Ok.ensures.opened.contents is) c.image-found.ensures.value

pub returns-in-Ok-clause-refused : goal.returns-in-Ok-clause-refused
returns-in-Ok-clause-refused g c = λ fine. IfErr-weaker c.image-found.result _ _
    (λ e fails openable clear single. read_fails (folders_of c.in-Ok.engine) (refusals_of c.in-Ok.engine) (refusals_of c.image-found.new.self) e (fails c.in-Ok.ensures.opened.ok.stands)) c.image-found.ensures.cause

pub returns-in-Ok-clause-cause : goal.returns-in-Ok-clause-cause
returns-in-Ok-clause-cause g c = IfErr-weaker c.image-found.result _ _
    (λ e fails clear single. inr (inl (read_fails (folders_of c.in-Ok.engine) (refusals_of c.in-Ok.engine) (refusals_of c.image-found.new.self) e (fails c.in-Ok.ensures.opened.ok.stands)))) c.image-found.ensures.cause

pub returns-in-Err-clause-refused : goal.returns-in-Err-clause-refused
returns-in-Err-clause-refused g c =
    let files = g.F.FileSystem.directory c.args.files in
    λ fine. elim c.in-Err.ensures.refused [
      | inl found ↦ absurd (no_contradiction c.args.config c.in-Err.refused.fault fine found)
      | inr refused ↦ refused_outside c.args.config.recovery_mode (folders_in c.args.config) files (g.F.FileSystem.refusals_of c.args.files) (g.F.FileSystem.refusals_of c.in-Err.refused.file_system) c.in-Err.refused.fault refused
    ]

pub returns-in-Err-clause-cause : goal.returns-in-Err-clause-cause
returns-in-Err-clause-cause g c =
    let files = g.F.FileSystem.directory c.args.files in
    λ clear single. elim c.in-Err.ensures.refused [
      | inl found ↦ inl found
      | inr refused ↦ inr (refused_inside c.args.config.recovery_mode (folders_in c.args.config) files (g.F.FileSystem.refusals_of c.args.files) (g.F.FileSystem.refusals_of c.in-Err.refused.file_system) c.in-Err.refused.fault refused clear single)
    ]

pub returns-in-Ok-clause-any_moment : goal.returns-in-Ok-clause-any_moment
returns-in-Ok-clause-any_moment g c =
    let opened = c.in-Ok.ensures.opened in
    let e = c.in-Ok.engine in
    let read = c.image-found.ensures.unchanged in
    let back = c.give_up.ensures.unchanged in
    let read_on = moves_then_reads {new = c.image-found.new.self.log.store.file_system} opened.any_moment (record { same_files = read.files; same_moments = read.moments; no_fewer = read.refusals }) in
    record {
      any_moment = moves_then_reads read_on (record { same_files = back.0; same_moments = back.1; no_fewer = (let same = ap (λ (r : Refusals). r.storage) back.2 in omega (arith, same), let same = ap (λ (r : Refusals). r.memory) back.2 in omega (arith, same)) });
      counted = λ io.
          let rose = read_rose (folders_of e) (g.F.FileSystem.refusals_of c.args.files) (refusals_of e) (refusals_of c.image-found.new.self) c.image-found.result opened.any_moment.no_fewer
          (IfErr-weaker c.image-found.result _ _ (λ e fails. fails opened.ok.stands) c.image-found.ensures.cause) io in
          subst (λ (r : Refusals). RoseBy 1 (g.F.FileSystem.refusals_of c.args.files) r) (sym back.2) rose;
    }

pub returns-in-Err-clause-any_moment : goal.returns-in-Err-clause-any_moment
returns-in-Err-clause-any_moment g c = record {
  any_moment = c.in-Err.ensures.opened.any_moment;
  counted = opening_rose c.args.config (g.F.FileSystem.directory c.args.files) (g.F.FileSystem.refusals_of c.args.files) (g.F.FileSystem.refusals_of c.in-Err.refused.file_system) c.in-Err.refused.fault c.in-Err.ensures.refused;
}

pub returns-in-Ok-clause-opens : goal.returns-in-Ok-clause-opens
returns-in-Ok-clause-opens g c = record { answer = Ok c.in-Ok.engine; opens = c.in-Ok.ensures; shows = tt }

pub returns-in-Err-clause-opens : goal.returns-in-Err-clause-opens
returns-in-Err-clause-opens g c = record { answer = Err c.in-Err.refused; opens = c.in-Err.ensures; shows = refl }
