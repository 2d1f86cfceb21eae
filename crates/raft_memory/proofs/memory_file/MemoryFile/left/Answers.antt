use Rattle.std.proofs.Common.{◌≡◌, ◌∙◌, ap, subst}
use Rattle.raft_env.specs.Outcomes.{File, MayLeave, is_touched}
use Rattle.raft_memory.specs.MemoryFile.{is_covered}
use Rattle.raft_memory.specs.Choice.{torn_bytes}
use Rattle.raft_memory.proofs.ChoiceLemmas.{synced_may_be_left, torn-covered, torn_may_be_left}
use Rattle.raft_memory.proofs.memory_file.MemoryFile.left.Goals as goal

pub returns-in_ok-synced-in-Synced-clause-crash : goal.returns-in_ok-synced-in-Synced-clause-crash
returns-in_ok-synced-in-Synced-clause-crash c = rw c.in-Synced.is (synced_may_be_left c.args.self.now)

pub returns-in_ok-torn_bytes-in-Torn-clause-ok : goal.returns-in_ok-torn_bytes-in-Torn-clause-ok
returns-in_ok-torn_bytes-in-Torn-clause-ok c =
    let s = c.self.inside in
    let made : c.in_ok-torn_bytes-in-Torn.field-0.items ≡ torn_bytes (is_covered s.ranges.items) c.in-Torn.kept c.in-Torn.fill s.bytes = rw (c.deref.ensures.value, c.deref-in-Torn.ensures.value, c.in_ok-now-in-Torn.ensures.ok) at c.in_ok-torn_bytes-in-Torn.ensures in
    let kept = torn-covered s.bytes s.ghost_file.file.synced s.ranges.items s.least s.greatest s.ghost_file.file c.self.invariant.0 c.in-Torn.kept c.in-Torn.fill in
    rw c.in-Torn.is (made ∙ kept ∙ ap (λ (f : File). torn_bytes (is_touched f.changes) c.in-Torn.kept c.in-Torn.fill f.now) c.self.view_is)

pub returns-in_ok-torn_bytes-in-Torn-clause-crash : goal.returns-in_ok-torn_bytes-in-Torn-clause-crash
returns-in_ok-torn_bytes-in-Torn-clause-crash c =
    let s = c.self.inside in
    let kept = torn-covered s.bytes s.ghost_file.file.synced s.ranges.items s.least s.greatest s.ghost_file.file c.self.invariant.0 c.in-Torn.kept c.in-Torn.fill in
    let may = torn_may_be_left s.bytes s.ghost_file.file.synced s.ranges.items s.least s.greatest s.ghost_file.file c.self.invariant.0 c.in-Torn.kept c.in-Torn.fill in
    rw c.in-Torn.is (subst (λ (f : File). MayLeave f (torn_bytes (is_touched f.changes) c.in-Torn.kept c.in-Torn.fill f.now)) c.self.view_is (subst (MayLeave s.ghost_file.file) kept may))
