use Rattle.std.proofs.Common.{ℕ, ◌++◌, drop}
use Rattle.std.specs.Prelude.{Vec}
use Rattle.std.specs.declared.alloc.Global.{Global}
use Rattle.std.specs.Cmp.Lexicographic.{slice_cmp}
use Rattle.std.specs.Option.{option_copied}
use Rattle.std.specs.Ordering.{nat_cmp}
use Rattle.raft_tables.specs.Listing.{listed}
use Rattle.raft_allowed.specs.Held.{between, is_between}
use Rattle.raft_allowed.proofs.LoopLemmas.{IsPushing}
use Rattle.raft_allowed.proofs.order.push_pairs.Given as goal

abbrev pub invariant-loop-pair : goal.invariant-loop-pair
invariant-loop-pair l =
    IsPushing (λ (p : Vec ℕ Global × Vec ℕ Global). (p.0.items, p.1.items)) (λ p. is_between (slice_cmp nat_cmp) (option_copied l.after) (option_copied l.before) p.0) (listed l.into.items) (drop l.pair-index l.pairs)
    (listed l.initial.into.items ++ between (slice_cmp nat_cmp) (option_copied l.after) (option_copied l.before) (listed l.pairs))
