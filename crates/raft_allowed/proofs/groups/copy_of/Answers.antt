use Rattle.std.proofs.Common.{◌≡◌, ◌∙◌}
use Rattle.std.specs.Cmp.Lexicographic.{slice_cmp}
use Rattle.std.specs.Ordering.{nat_cmp}
use Rattle.raft_tables.specs.Listing.{listed}
use Rattle.raft_log_engine.specs.Image.{entries_of}
use Rattle.raft_allowed.proofs.EntriesLemmas.{within_all}
use Rattle.raft_allowed.proofs.GroupLemmas.{same_held}
use Rattle.raft_allowed.proofs.TakenLemmas.{between_all}
use Rattle.raft_allowed.proofs.groups.copy_of.Goals as goal

pub returns : goal.returns
returns c =
    let entries : entries_of c.push_entries.new.into.items ≡ entries_of c.args.image.now.entries.items = c.in_ok-push_entries.ensures ∙ rw (c.new-entries.ensures.items, c.deref.ensures.value) (within_all (entries_of c.args.image.now.entries.items)) in
    let pairs : listed c.push_pairs.new.into.items ≡ listed c.args.image.now.pairs.items = c.in_ok-push_pairs.ensures ∙ rw (c.new-pairs.ensures.items, c.deref-2.ensures.value) (between_all (slice_cmp nat_cmp) (listed c.args.image.now.pairs.items)) in
    same_held c.args.image.now.group _ _ _ _ entries pairs
