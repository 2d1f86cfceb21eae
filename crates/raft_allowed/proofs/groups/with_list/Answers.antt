use Rattle.std.proofs.Common.{◌≡◌, ◌∙◌, refl}
use Rattle.std.specs.Cmp.Lexicographic.{slice_cmp}
use Rattle.std.specs.Ordering.{nat_cmp}
use Rattle.raft_tables.specs.Listing.{listed}
use Rattle.raft_log_engine.specs.Image.{entries_of}
use Rattle.raft_allowed.proofs.GroupLemmas.{same_held}
use Rattle.raft_allowed.proofs.TakenLemmas.{between_all}
use Rattle.raft_allowed.proofs.groups.with_list.Goals as goal

pub returns : goal.returns
returns c =
    let pairs : listed c.push_pairs.new.into.items ≡ listed c.args.old.now.pairs.items = c.in_ok-push_pairs.ensures ∙ rw (c.new-pairs.ensures.items, c.deref.ensures.value) (between_all (slice_cmp nat_cmp) (listed c.args.old.now.pairs.items)) in
    same_held c.args.old.now.group (entries_of c.args.entries.items) _ _ _ refl pairs
