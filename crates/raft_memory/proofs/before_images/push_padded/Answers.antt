use Rattle.std.proofs.Common.{◌≡◌, ◌+◌, ◌-◌, ℕ, List, drop, length, get_or, ◌∙◌, refl, sym, ap, arith}
use Rattle.std.proofs.lemmas.List.{length-drop, get_or_past, take_all, with_items_is}
use Rattle.std.specs.Vec.{with_items}
use Rattle.raft_memory.proofs.MemoryFileBeforeImagesLemmas.{part_keeps, part_put}
use Rattle.raft_memory.proofs.before_images.push_padded.Goals as goal

put_back : (c : goal.After-saved-1) → (with_items c.resize.new.self c.put_part.new.bytes).items ≡ c.put_part.new.bytes
put_back c = with_items_is c.resize.new.self c.put_part.new.bytes (omega arith)

pub returns-then-from-bytes-clause-unchanged : goal.returns-then-from-bytes-clause-unchanged
returns-then-from-bytes-clause-unchanged c =
    let start : c.len-start.result ≡ length c.args.saved.now.items = omega arith in
    λ i h. ap (λ (l : List ℕ). get_or l i 0) (put_back c)
    ∙ part_keeps _ c.deref_mut.result.now _ c.len-start.result i (omega arith) (c.put_part.ensures.ok i (omega (arith, c.in_ok-resize.ensures.len, c.deref_mut.ensures.len)))
    ∙ ap (λ (l : List ℕ). get_or l i 0) c.deref_mut.ensures.value
    ∙ c.in_ok-resize.ensures.by_index.0 i 0 (omega arith) (omega arith)

pub returns-then-from-bytes-clause-contents : goal.returns-then-from-bytes-clause-contents
returns-then-from-bytes-clause-contents c =
    let start : c.len-start.result ≡ length c.args.saved.now.items = omega arith in
    let given = take_all (length c.args.bytes.now - c.args.from) (drop c.args.from c.args.bytes.now) (omega (arith, length-drop c.args.from c.args.bytes.now)) in
    λ i h. let n = length c.args.saved.now.items + i in
    let zero = ap (λ (l : List ℕ). get_or l n 0) c.deref_mut.ensures.value ∙ c.in_ok-resize.ensures.by_index.1 n 0 refl (omega arith) (omega arith) in
    ap (λ (l : List ℕ). get_or l n 0) (put_back c)
    ∙ part_put _ c.deref_mut.result.now _ c.args.bytes.now c.len-start.result c.args.from i n (omega arith) given zero (c.put_part.ensures.ok n (omega (arith, c.in_ok-resize.ensures.len, c.deref_mut.ensures.len)))

pub returns-else-from-bytes-clause-unchanged : goal.returns-else-from-bytes-clause-unchanged
returns-else-from-bytes-clause-unchanged c = λ i h. c.in_ok-resize.ensures.by_index.0 i 0 (omega arith) (omega arith)

pub returns-else-from-bytes-clause-contents : goal.returns-else-from-bytes-clause-contents
returns-else-from-bytes-clause-contents c =
    λ i h. c.in_ok-resize.ensures.by_index.1 (length c.args.saved.now.items + i) 0 refl (omega arith) (omega arith)
    ∙ sym (get_or_past c.args.bytes.now (c.args.from + i) 0 (omega arith))
