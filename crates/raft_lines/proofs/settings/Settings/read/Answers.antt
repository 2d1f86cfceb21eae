use Rattle.std.proofs.Common.{rules}
use Rattle.raft_lines.proofs.settings.Settings.read.Goals.{then-is_none+in_ok-read_lines+in-Some-1, then-is_none+in_ok-read_lines+in-None-1, else-is_none}
use Rattle.raft_lines.proofs.settings.Settings.read.Goals as goal

pub returns-clause-value : goal.returns-clause-value
returns-clause-value c = λ none. elim c.if-is_none.branch [
  | then-is_none+in_ok-read_lines+in-Some-1 w ↦ rw w.self-is (rw w.deref.ensures.value at w.in_ok-read_lines.ensures.value)
  | then-is_none+in_ok-read_lines+in-None-1 w ↦ rw w.self-is (rw w.deref.ensures.value at w.in_ok-read_lines.ensures.value)
  | else-is_none w ↦ search rules
]
