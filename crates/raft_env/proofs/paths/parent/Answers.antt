use Rattle.raft_env.proofs.PathPartsLemmas.{parent_before, parent_root}
use Rattle.raft_env.proofs.paths.parent.Goals as goal

pub returns-in-Some : goal.returns-in-Some
returns-in-Some c =
    let cases = c.in-Some.ensures.cases in
    record { value = parent_before c.args.path.now c.in-Some.folder.now cases.0 cases.1 cases.2.0 cases.2.1 cases.3 }

pub returns-in-None : goal.returns-in-None
returns-in-None c = record { value = parent_root c.args.path.now c.in-None.ensures.cases }
