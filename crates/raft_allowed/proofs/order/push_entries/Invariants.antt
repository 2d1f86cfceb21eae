use Rattle.std.proofs.Common.{ℕ, ◌++◌, drop}
use Rattle.std.specs.Prelude.{Vec, filter}
use Rattle.std.specs.declared.alloc.Global.{Global}
use Rattle.raft_log_engine.specs.Image.{entries_of}
use Rattle.raft_allowed.specs.Held.{is_within}
use Rattle.raft_allowed.proofs.LoopLemmas.{IsPushing}
use Rattle.raft_allowed.proofs.order.push_entries.Given as goal

abbrev pub invariant-loop-entry : goal.invariant-loop-entry
invariant-loop-entry l =
    IsPushing (λ (e : ℕ × Vec ℕ Global). (e.0, e.1.items)) (λ e. is_within l.from l.to e.0) (entries_of l.into.items) (drop l.entry-index l.entries)
    (entries_of l.initial.into.items ++ filter (λ e. is_within l.from l.to e.0) (entries_of l.entries))
