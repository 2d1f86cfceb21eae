use Rattle.std.proofs.Common.{◌∙◌, ap}
use Rattle.raft_env.specs.Outcomes.{pad_to}
use Rattle.raft_memory.proofs.FileBytesLemmas.{padded_again}
use Rattle.raft_memory.proofs.file_bytes.FileBytes.lengthen.Goals as goal

pub returns : goal.returns
returns c =
    let stored = c.self.inside.stored.items in
    ap (pad_to stored) c.max-self-inside.ensures ∙ padded_again stored c.self.inside.len c.args.size c.self.invariant.0
    ∙ ap (λ l. pad_to l c.args.size) c.self.view_is
