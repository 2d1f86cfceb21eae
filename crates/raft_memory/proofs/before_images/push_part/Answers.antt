use Rattle.std.proofs.Common.{◌≡◌, ◌+◌, ◌++◌, ℕ, List, take, drop, length, get_or, ◌∙◌, ap, rules}
use Rattle.std.proofs.lemmas.List.{get_or-append-add, get_or-drop, get_or-take}
use Rattle.std.proofs.Math.ListN.{get_or-append}
use Rattle.raft_memory.proofs.before_images.push_part.Goals as goal

pub returns-clause-unchanged : goal.returns-clause-unchanged
returns-clause-unchanged c =
    let saved = c.args.saved.now.items in
    let part = take c.args.size (drop c.args.from c.args.bytes.now) in
    let pushed : c.extend_from_slice.new.self.items ≡ saved ++ part = search rules in
    λ i h. ap (λ (l : List ℕ). get_or l i 0) pushed ∙ get_or-append saved part 0 i h

pub returns-clause-contents : goal.returns-clause-contents
returns-clause-contents c =
    let saved = c.args.saved.now.items in
    let part = take c.args.size (drop c.args.from c.args.bytes.now) in
    let pushed : c.extend_from_slice.new.self.items ≡ saved ++ part = search rules in
    λ i h. ap (λ (l : List ℕ). get_or l (length saved + i) 0) pushed ∙ get_or-append-add saved part i 0
    ∙ get_or-take c.args.size (drop c.args.from c.args.bytes.now) i 0 h ∙ get_or-drop c.args.from c.args.bytes.now i 0
