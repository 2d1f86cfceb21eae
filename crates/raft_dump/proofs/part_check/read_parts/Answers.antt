use Rattle.std.proofs.Common.{◌≡◌, ◌∙◌, ◌<◌, ℕ, List, length, take, drop, None, Some, ap, subst, sym, arith}
use Rattle.raft_files.specs.Header.{header_of}
use Rattle.raft_dump.specs.Parts.{AreOf}
use Rattle.raft_dump.proofs.HeaderLemmas.{header_begins, header_fits, header_none, if_both_ok}
use Rattle.raft_dump.proofs.PartLemmas.{bytes_of_part}
use Rattle.raft_dump.proofs.part_check.read_parts.Goals as goal

pub returns-in_default-clause-value : goal.returns-in_default-clause-value
returns-in_default-clause-value g c = λ bytes size_is are.
    let e = c.in_ok-front.ensures in
    let split = subst (AreOf bytes) e.ok are in
    let front = bytes_of_part bytes c.in_ok-front.front 0 69 e.value.0 (e.value.1 ∙ c.max_encoded_len.ensures.value) split.0 in
    c.without_header.ensures.value bytes (sym size_is) (header_none bytes c.in_ok-front.front.bytes.items front (ap header_of (sym c.as_slice.ensures.value) ∙ c.in_default.ensures.value))

pub returns-then-size-len-clause-value : goal.returns-then-size-len-clause-value
returns-then-size-len-clause-value g c = λ bytes size_is are.
    let e = c.in_ok-front.ensures in
    let split = subst (AreOf bytes) e.ok are in
    let front = bytes_of_part bytes c.in_ok-front.front 0 69 e.value.0 (e.value.1 ∙ c.max_encoded_len.ensures.value) split.0 in
    let long = header_fits bytes c.in_ok-front.front.bytes.items front c.in-Ok.format _ (ap header_of (sym c.as_slice.ensures.value) ∙ c.in-Ok.ensures.value) in
    absurd (omega (arith, long, size_is, c.encoded_len-len.ensures.value, c.if-size-len.true))

pub returns-clause-value : goal.returns-clause-value
returns-clause-value g c = if_both_ok c.read_records.result c.read_records.ensures.value c.read_records.ensures.given (λ check reads older bytes size_is are.
    let e = c.in_ok-front.ensures in
    let split = subst (AreOf bytes) e.ok (older bytes are) in
    let front = bytes_of_part bytes c.in_ok-front.front 0 69 e.value.0 (e.value.1 ∙ c.max_encoded_len.ensures.value) split.0 in
    reads bytes size_is are (header_begins bytes c.in_ok-front.front.bytes.items front c.in-Ok.format _ (ap header_of (sym c.as_slice.ensures.value) ∙ c.in-Ok.ensures.value) _ c.encoded_len-len.result c.encoded_len-len.ensures.value (ap (take c.encoded_len-len.result) c.deref.ensures.value) c.if-format-ne0.false))
