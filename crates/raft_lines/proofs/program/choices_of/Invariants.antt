use Rattle.raft_memory.specs.Choice.{NameNoBytes}
use Rattle.raft_lines.proofs.program.choices_of.Given as goal

abbrev pub invariant-loop : goal.invariant-loop
invariant-loop l = NameNoBytes l.choices.items
