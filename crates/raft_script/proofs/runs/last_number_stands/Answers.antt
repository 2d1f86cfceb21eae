use Rattle.std.proofs.Common.{◌≡◌, ℕ, ◌-◌, ◌^◌, arith, ap, subst, ◌∙◌}
use Rattle.std.proofs.Math.Logic.{∥∥₁_map}
use Rattle.raft_base.specs.declared.pipe_log.LogQueue.TheVariants.{Append}
use Rattle.raft_log_engine.specs.Engine.{directory_of, folders_of}
use Rattle.raft_pipes.specs.Folder.{IsQueueSpan}
use Rattle.raft_script.proofs.runs.last_number_stands.Goals as goal

pub returns : goal.returns
returns g c = λ alive last.
    let e = c.args.engine.now in
    let told = c.file_span.ensures.value in
    let number : c.file_span.result.1 ≡ 10 ^ 16 - 1 = ap (λ (span : ℕ × ℕ). span.1) told.own ∙ omega (arith, last) in
    ∥∥₁_map (told.files alive) (λ span. (span.0, subst (λ (k : ℕ). IsQueueSpan Append (folders_of e) (directory_of e) (span.0, k)) number span.2))
