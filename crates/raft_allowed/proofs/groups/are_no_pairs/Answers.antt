use Rattle.std.proofs.Common.{◌∙◌, ℕ}
use Rattle.std.specs.Prelude.{Vec}
use Rattle.std.specs.declared.alloc.Global.{Global}
use Rattle.raft_allowed.proofs.GroupLemmas.{nil_by_length}
use Rattle.raft_allowed.proofs.groups.are_no_pairs.Goals as goal

pub returns : goal.returns
returns c = c.is_empty.ensures ∙ nil_by_length (λ (p : Vec ℕ Global × Vec ℕ Global). (p.0.items, p.1.items)) c.args.pairs.now
