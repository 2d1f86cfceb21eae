use Rattle.std.proofs.Common.{◌≡◌, ◌+◌, ◌-◌, ◌≤◌, ◌++◌, List, ℕ, length, take, drop, min, ◌∙◌, ap, sym, arith, rules}
use Rattle.std.specs.Prelude.{replicate}
use Rattle.std.proofs.lemmas.List.{length-drop, length-take}
use Rattle.raft_env.specs.Outcomes.{pad_to}
use Rattle.raft_memory.proofs.FileBytesLemmas.{copied_part, put_in_two}
use Rattle.raft_memory.proofs.file_bytes.FileBytes.copy_to.Goals as goal

pub returns : goal.returns
returns c =
    let stored = c.self.inside.stored.items in
    let bytes = c.args.bytes.now in
    let at = c.args.at in
    let n = c.min-count.result in
    let first = c.copy_from_slice.new.self in
    let behind : c.bytes_from-stored.result.now ≡ drop at stored = search rules in
    let count : n ≡ min (length bytes) (length stored - at) = search (rules, length-drop) in
    let copied : first ≡ take n (drop at stored) = search rules in
    let zeros : c.fill.new.self ≡ replicate (length bytes - n) 0 = search rules in
    let len : length first ≡ n = omega (arith, ap length copied, count, length-take n (drop at stored), length-drop at stored) in
    let within : at + length bytes ≤ length (pad_to stored c.self.inside.len) = rw (sym c.self.view_is) at c.requires in
    put_in_two first bytes c.fill.new.self n len (omega (arith, count)) ∙ copied_part stored first _ at c.self.inside.len (length bytes) n within count copied (ap (λ (l : List ℕ). first ++ l) zeros)
    ∙ ap (λ (l : List ℕ). take (length bytes) (drop at l)) c.self.view_is
