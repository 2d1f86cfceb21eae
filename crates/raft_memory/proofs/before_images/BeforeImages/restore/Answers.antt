use Rattle.std.proofs.Common.{◌≡◌, ℕ, ◌+◌, ◌-◌, ◌<◌, length, take, drop, get_or, unwrap_or, List, ◌∙◌, ap, rules, arith}
use Rattle.raft_memory.specs.MemoryFile.{places_len, before_image_in}
use Rattle.raft_memory.proofs.MemoryFileBeforeImagesLemmas.{end_before, restored_from}
use Rattle.raft_memory.proofs.before_images.BeforeImages.restore.Goals as goal

pub overflow_sub-end : goal.overflow_sub-end
overflow_sub-end c =
    let places = c.self.inside.places.items in
    let inside : c.loop-left.left - 1 < length places = omega (arith, c.loop-left.invariant.within) in
    let is : get_or places (c.loop-left.left - 1) c.index.result.now ≡ c.index.result.now = search rules in
    let left : c.loop-left.left ≡ c.loop-left.left - 1 + 1 = omega arith in
    let before = end_before places c.self.inside.bytes.items (c.loop-left.left - 1) c.loop-left.end c.index.result.now inside is (c.loop-left.invariant.end_is ∙ ap (λ (n : ℕ). places_len (take n places)) left) in
    omega (arith, before)

pub overflow_sub-end-in-loop-left : goal.overflow_sub-end-in-loop-left
overflow_sub-end-in-loop-left c =
    let places = c.self.inside.places.items in
    let inside : c.loop-left.left - 1 < length places = omega (arith, c.loop-left.invariant.within) in
    let is : get_or places (c.loop-left.left - 1) c.index.result.now ≡ c.index.result.now = search rules in
    let left : c.loop-left.left ≡ c.loop-left.left - 1 + 1 = omega arith in
    let before = end_before places c.self.inside.bytes.items (c.loop-left.left - 1) c.loop-left.end c.index.result.now inside is (c.loop-left.invariant.end_is ∙ ap (λ (n : ℕ). places_len (take n places)) left) in
    omega (arith, before)

pub loop-left-preserved : goal.loop-left-preserved
loop-left-preserved c =
    let places = c.self.inside.places.items in
    let saved = c.self.inside.bytes.items in
    let k = c.loop-left.left - 1 in
    let p = c.index.result.now in
    let end = c.loop-left.end in
    let inside : k < length places = omega (arith, c.loop-left.invariant.within) in
    let is : get_or places k p ≡ p = search rules in
    let left : c.loop-left.left ≡ k + 1 = omega arith in
    let end_is = c.loop-left.invariant.end_is ∙ ap (λ (n : ℕ). places_len (take n places)) left in
    let before = end_before places saved k end p inside is end_is in
    let size : end - (end - p.1) ≡ p.1 = omega (arith, before) in
    let given_is : take (end - (end - p.1)) (drop (end - p.1) saved) ≡ take p.1 (drop (end - p.1) saved) = ap (λ (n : ℕ). take n (drop (end - p.1) saved)) size in
    record {
      within = omega (arith, c.loop-left.invariant.within);
      end_is = omega (arith, before);
      last = omega (arith, c.loop-left.invariant.last);
      len = c.put_part.ensures.unchanged ∙ c.loop-left.invariant.len;
      each = λ i h. restored_from places saved k end p inside is end_is _ c.args.bytes.now c.loop-left.bytes _ i c.loop-left.invariant.last (ap (λ (l : List ℕ). take (end - (end - p.1)) (drop (end - p.1) l)) c.deref.ensures.value ∙ given_is) (c.loop-left.invariant.each i h ∙ ap (λ (n : ℕ). unwrap_or (before_image_in (drop n places) (drop end saved) i) (get_or c.args.bytes.now i 0)) left) (c.put_part.ensures.ok i (omega (arith, h, c.loop-left.invariant.len)));
    }
