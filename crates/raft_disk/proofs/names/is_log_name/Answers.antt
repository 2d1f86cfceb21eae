use Rattle.std.proofs.Common.{◌∙◌, sym}
use Rattle.raft_disk.proofs.NamesLemmas.{named}
use Rattle.raft_disk.proofs.names.is_log_name.Goals as goal

pub returns-then-are_digits : goal.returns-then-are_digits
returns-then-are_digits c = record {
  value = named c.args.name.now c.as_bytes.result.now c.in-Some.number.now c.in-Some.end.now c.is_log_end.result c.as_bytes.ensures.value c.in-Some.ensures.cases (sym c.are_digits.ensures.value ∙ c.if-are_digits.true) c.is_log_end.ensures.value;
}
