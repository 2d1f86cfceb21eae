use Rattle.std.proofs.Common.{◌∙◌, ℕ}
use Rattle.std.specs.Prelude.{Vec}
use Rattle.std.specs.declared.alloc.Global.{Global}
use Rattle.raft_allowed.proofs.GroupLemmas.{nil_by_length}
use Rattle.raft_allowed.proofs.parts.are_no_entries.Goals as goal

pub returns : goal.returns
returns c = c.is_empty.ensures ∙ nil_by_length (λ (e : ℕ × Vec ℕ Global). (e.0, e.1.items)) c.args.entries.now
