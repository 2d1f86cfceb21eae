use Rattle.std.proofs.Common.{◌≡◌, ◌⊎◌, ◌∙◌, ◌++◌, Bool, true, map, subst, sym}
use Rattle.std.specs.Prelude.{◌↔◌}
use Rattle.std.specs.String.{string_bytes}
use Rattle.raft_base.specs.declared.pipe_log.LogQueue.TheVariants.{Append, Rewrite}
use Rattle.raft_env.specs.Directory.{Directory}
use Rattle.raft_env.proofs.MomentsLemmas.{reads_then}
use Rattle.raft_inspect.specs.Kept.{AreKeptOf}
use Rattle.raft_inspect.specs.Losses.{IsToFail}
use Rattle.raft_inspect.proofs.LossesLemmas.{all_cuts, either_fails, passed_now, to_fail}
use Rattle.raft_inspect.proofs.losses.Losses.find_in.Goals as goal

pub returns : goal.returns
returns g c =
    let n = g.F.FileSystem.directory c.args.file_system.now in
    let there = map string_bytes c.args.folders.now in
    let second = c.in_ok-rewrite.ensures.unchanged.same_files in
    let third = c.in_ok-append.ensures.unchanged.same_files ∙ second in
    let fourth = c.in_ok-rewrite_passed.ensures.unchanged.same_files ∙ third in
    let rewrite = c.in_ok-rewrite.ensures.value in
    let append = subst (λ (m : Directory). AreKeptOf there Append m c.in_ok-append.append) second c.in_ok-append.ensures.value in
    record {
      value = record {
        rewrite = c.in_ok-rewrite.rewrite;
        append = c.in_ok-append.append;
        are_rewrite = rewrite;
        are_append = append;
        fails = subst (λ (fails : Bool). fails ≡ true ↔ (IsToFail c.args.mode there Rewrite n c.in_ok-rewrite.rewrite ⊎ IsToFail c.args.mode there Append n c.in_ok-append.append)) (sym c.either-fails.ensures.value)
            (either_fails (to_fail c.args.mode rewrite c.in_ok-rewrite_fails.ensures.value) (to_fail c.args.mode append c.in_ok-append_fails.ensures.value));
        none = c.in_ok-cuts.ensures.fails;
        cuts = λ goes. c.in_ok-cuts.ensures.cuts goes ∙ (λ i. all_cuts c.args.mode rewrite i ++ all_cuts c.args.mode append i);
        rewrite_passed = c.in_ok-rewrite_passed.rewrite_passed;
        append_passed = c.in_ok-append_passed.append_passed;
        passed = c.in_ok-those_told.ensures.value;
        of_rewrite = passed_now rewrite third c.in_ok-rewrite_passed.ensures.value;
        of_append = passed_now append fourth c.in_ok-append_passed.ensures.value;
      };
      unchanged = reads_then c.in_ok-rewrite.ensures.unchanged (reads_then c.in_ok-append.ensures.unchanged (reads_then c.in_ok-rewrite_passed.ensures.unchanged c.in_ok-append_passed.ensures.unchanged));
      cause = tt;
    }
