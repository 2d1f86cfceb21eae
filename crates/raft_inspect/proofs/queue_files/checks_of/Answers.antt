use Rattle.std.proofs.Common.{◌≡◌, List, [], length, sym, subst}
use Rattle.std.proofs.lemmas.List.{append-nil, nil_from_length}
use Rattle.raft_dump.specs.declared.check.FileCheck.{FileCheck}
use Rattle.raft_dump.specs.declared.files.LogFile.{LogFile}
use Rattle.raft_inspect.specs.Checks.{AreChecksOf}
use Rattle.raft_inspect.proofs.queue_files.checks_of.Goals as goal

pub returns : goal.returns
returns g c =
    let n = g.F.FileSystem.directory c.args.file_system.now in
    let none : length c.files.left.now ≡ 0 = c.in_default.ensures.cases in
    let empty : c.files.left.now ≡ [] = nil_from_length c.files.left.now none in
    let start : AreChecksOf n c.files.left.now [] = subst (λ (left : List LogFile). AreChecksOf n left []) (sym empty) tt in
    record {
      value = subst (λ (checks : List FileCheck). AreChecksOf n c.args.files.now checks) (append-nil c.files.checks.items) (c.files.invariant.1 [] start);
      unchanged = c.files.invariant.0;
      cause = tt;
    }
