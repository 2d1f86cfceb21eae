use Rattle.std.proofs.Common.{arith}
use Rattle.raft_script.proofs.EntryLemmas.{cut_bytes, no_colon, no_index}
use Rattle.raft_script.proofs.text_entry.parse_text.Goals as goal

pub returns-in_default : goal.returns-in_default
returns-in_default c = record {
  value = no_colon c.args.bytes.now c.split_at.result.0.now c.split_at.result.1.now c.index_len.result c.index_len.ensures.value c.split_at.ensures.front c.split_at.ensures.back (omega (arith, c.in_default.len_below));
}

pub returns-in_err-parse_index : goal.returns-in_err-parse_index
returns-in_err-parse_index c = record {
  value = rw c.from_residual.ensures (no_index c.args.bytes.now c.split_at.result.0.now c.split_at.result.1.now c.index_len.result c.index_len.ensures.value c.split_at.ensures.front c.split_at.ensures.back c.in_err-parse_index.ensures.value);
}

pub returns : goal.returns
returns c = record {
  value = cut_bytes c.args.bytes.now c.split_at.result.0.now c.split_at.result.1.now c.index_len.result c.index_len.ensures.value c.split_at.ensures.front c.split_at.ensures.back c.in_ok-parse_index.field-0 (omega (arith, c.in-len1-up.len_at_least)) c.in_ok-parse_index.ensures.value;
}
