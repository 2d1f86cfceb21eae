use Rattle.std.proofs.Common.{◌≡◌, ◌+◌, ◌<◌, List, ℕ, length, max, ◌∙◌, ap, rules}
use Rattle.raft_env.specs.Outcomes.{overlay, pad_to}
use Rattle.raft_memory.proofs.FileBytesLemmas.{overlaid_padded}
use Rattle.raft_memory.proofs.file_bytes.FileBytes.overlay.Goals as goal

pub returns-clause-ok : goal.returns-clause-ok
returns-clause-ok c =
    let stored = c.self.inside.stored.items in
    let len = c.self.inside.len in
    let at = c.args.at in
    let given = c.args.given.now in
    let some : 0 < length given = search rules in
    let written : c.write_over.new.stored.items ≡ overlay stored at given = search rules in
    let longest : c.max-self-inside.result ≡ max len (at + length given) = search rules in
    ap (pad_to c.write_over.new.stored.items) longest ∙ ap (λ (l : List ℕ). pad_to l (max len (at + length given))) written
    ∙ overlaid_padded stored at len given some c.self.invariant.0 ∙ ap (λ (l : List ℕ). overlay l at given) c.self.view_is
