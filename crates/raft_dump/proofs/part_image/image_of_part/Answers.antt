use Rattle.std.proofs.Common.{◌≡◌, ◌∙◌, ◌++◌, ℕ, List, ap}
use Rattle.raft_memory.specs.Settled.{settled_files}
use Rattle.raft_dump.proofs.ImageLemmas.{image_at}
use Rattle.raft_dump.proofs.part_image.image_of_part.Goals as goal

pub returns-clause-value : goal.returns-clause-value
returns-clause-value c =
    let files = c.in_ok-files.ensures.items in
    image_at c.args.path.now c.in_ok-name.name c.extend_from_slice-2.new.self c.new.result.items _ (c.in_ok-settled.ensures.value ∙ ap (λ fs. settled_files fs c.new.result.items) files) c.in_ok-name.ensures.ok
    ∙ c.in_ok-extend_from_slice-2.ensures.items
    ∙ ap (λ (l : List ℕ). l ++ c.args.part.now) (c.in_ok-extend_from_slice.ensures.items ∙ ap (λ (l : List ℕ). l ++ c.args.header.now) c.in_ok-bytes.ensures.items)
