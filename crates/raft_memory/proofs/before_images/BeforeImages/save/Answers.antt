use Rattle.std.proofs.Common.{◌≡◌, ℕ, ◌+◌, ◌-◌, List, ◌++◌, [], ◌∷◌, length, get_or, cond, Some, None, sym, ◌∙◌, ap, rules}
use Rattle.raft_memory.specs.MemoryFile.{BeforeImages, places_len, before_image_at, before_image_in}
use Rattle.raft_env.specs.Outcomes.{is_within}
use Rattle.std.specs.Option.{option_or}
use Rattle.raft_memory.proofs.MemoryFileBeforeImagesLemmas.{places_len-more, before_image_in-more}
use Rattle.raft_memory.proofs.before_images.BeforeImages.save.Goals as goal

pub invariant_of-self-2 : goal.invariant_of-self-2
invariant_of-self-2 c =
    let size = c.args.end - c.args.from in
    let pushed : c.push.new.self.items ≡ c.self.inside.places.items ++ (c.args.from, size) ∷ [] = search rules in
    let more = places_len-more c.self.inside.places.items c.args.from size in
    let taken : c.take_room.new.bytes.items ≡ c.self.inside.bytes.items = c.take_room.ensures in
    let len : length c.push_part.new.saved.items ≡ length c.self.inside.bytes.items + size = c.in_ok-push_part.ensures.ok ∙ ap (λ (l : List ℕ). length l + size) taken in
    ap places_len pushed ∙ more ∙ ap (λ (n : ℕ). n + size) c.self.invariant ∙ sym len

pub returns-clause-ok : goal.returns-clause-ok
returns-clause-ok c = λ i.
    let size = c.args.end - c.args.from in
    let pushed : c.push.new.self.items ≡ c.self.inside.places.items ++ (c.args.from, size) ∷ [] = search rules in
    let taken : c.take_room.new.bytes.items ≡ c.self.inside.bytes.items = c.take_room.ensures in
    ap (λ places. before_image_in places c.push_part.new.saved.items i) pushed
    ∙ before_image_in-more c.self.inside.places.items c.self.inside.bytes.items c.push_part.new.saved.items c.args.bytes.now c.args.from size i c.self.invariant (rw taken at c.in_ok-push_part.ensures.unchanged) (rw taken at c.in_ok-push_part.ensures.contents)
    ∙ ap (λ (saved : BeforeImages). option_or (before_image_at saved i) (cond (is_within c.args.from size i) (Some (get_or c.args.bytes.now i 0)) None)) c.self.view_is
