-- First bytes that tell a record.
use Rattle.std.proofs.Common.{◌≡◌, ℕ, ◌+◌, ◌-◌, ◌<◌, ◌≤◌, min, List, length, take, drop, Option, Some, None, sym, ap, subst, ◌∙◌, length-drop}
use Rattle.std.specs.Option.{IfSome}
use Rattle.raft_records.specs.Front.{HasRecordOf}
use Rattle.raft_records.specs.Record.{Header, record_header}
use Rattle.raft_records.proofs.FrontLemmas.{header_in_front}

module _ (bytes front : List ℕ) (is : front ≡ take (length front) bytes) where
  -- the header stands in both
  held : min 16 (length bytes) ≤ length front → record_header front ≡ record_header bytes
  held enough = ap record_header is ∙ header_in_front bytes (length front) enough

  has_by : (o : Option Header) → record_header bytes ≡ o → min 16 (length bytes) ≤ length front → IfSome o (λ h. h.len ≤ length bytes → h.len ≤ length front) → HasRecordOf bytes front
  has_by o read enough whole = record {
    len = length front;
    front_is = is;
    header = enough;
    whole = subst (λ (x : Option Header). IfSome x (λ h. h.len ≤ length bytes → h.len ≤ length front)) (sym read) whole;
  }

  -- no record begins there
  pub tells_none : min 16 (length bytes) ≤ length front → record_header front ≡ None → HasRecordOf bytes front
  tells_none enough none = has_by None (sym (held enough) ∙ none) enough tt

  -- .. one that is longer than all bytes, or that is there
  pub tells_one : (h : Header) → min 16 (length bytes) ≤ length front → record_header front ≡ Some h → (h.len ≤ length bytes → h.len ≤ length front) → HasRecordOf bytes front
  tells_one h enough read whole = has_by (Some h) (sym (held enough) ∙ read) enough whole
