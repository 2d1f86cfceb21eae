use Rattle.std.proofs.Common.{◌≡◌, ◌∙◌, ◌++◌, ℕ, List, take, ap, subst, sym, arith}
use Rattle.raft_files.specs.Header.{header_of}
use Rattle.raft_dump.specs.Parts.{AreOf}
use Rattle.raft_dump.proofs.HeaderLemmas.{begun_behind, begun_front, begun_whole}
use Rattle.raft_dump.proofs.PartLemmas.{bytes_of_part}
use Rattle.raft_dump.proofs.parts.LogFileParts.open.Goals as goal

pub returns-in_default-clause-value : goal.returns-in_default-clause-value
returns-in_default-clause-value g c = λ bytes size_is are.
    let e = c.in_ok-front.ensures in
    let split = subst (AreOf bytes) e.ok are in
    let front = bytes_of_part bytes c.in_ok-front.front 0 69 e.value.0 (e.value.1 ∙ c.max_encoded_len-longest.ensures.value) split.0 in
    c.whole.ensures.value ∙ begun_front bytes c.in_ok-front.front.bytes.items front _ (ap header_of (sym c.as_slice.ensures.value) ∙ c.in_default.ensures.value) (omega (arith, size_is, c.max_encoded_len-longest.ensures.value))

pub returns-then-format-ne0-clause-value : goal.returns-then-format-ne0-clause-value
returns-then-format-ne0-clause-value g c = λ bytes size_is are.
    let e = c.in_ok-front.ensures in
    let split = subst (AreOf bytes) e.ok are in
    let front = bytes_of_part bytes c.in_ok-front.front 0 69 e.value.0 (e.value.1 ∙ c.max_encoded_len-longest.ensures.value) split.0 in
    c.whole-then-format-ne0.ensures.value ∙ begun_whole bytes c.in_ok-front.front.bytes.items front c.in-Ok.format _ (ap header_of (sym c.as_slice.ensures.value) ∙ c.in-Ok.ensures.value) c.args.size size_is c.if-format-ne0.true

pub returns-clause-value : goal.returns-clause-value
returns-clause-value g c = λ bytes size_is are.
    let e = c.in_ok-front.ensures in
    let split = subst (AreOf bytes) e.ok are in
    let front = bytes_of_part bytes c.in_ok-front.front 0 69 e.value.0 (e.value.1 ∙ c.max_encoded_len-longest.ensures.value) split.0 in
    let items = c.in_ok-extend_from_slice.ensures.items ∙ ap (λ (l : List ℕ). l ++ take c.encoded_len-end.result c.deref.result.now) c.new-header.ensures.items ∙ ap (take c.encoded_len-end.result) c.deref.ensures.value in
    begun_behind bytes c.in_ok-front.front.bytes.items front c.in-Ok.format _ (ap header_of (sym c.as_slice.ensures.value) ∙ c.in-Ok.ensures.value) _ c.args.size c.encoded_len-end.result c.min-2.result c.new.result.items size_is c.encoded_len-end.ensures.value items c.if-format-ne0.false (omega arith) c.new.ensures.items
