use Rattle.std.proofs.Common.{◌≡◌, ◌∙◌, refl}
use Rattle.raft_tables.specs.Listing.{listed}
use Rattle.raft_log_engine.specs.Image.{entries_of}
use Rattle.raft_allowed.proofs.EntriesLemmas.{within_all}
use Rattle.raft_allowed.proofs.GroupLemmas.{same_held}
use Rattle.raft_allowed.proofs.groups.with_pairs.Goals as goal

pub returns : goal.returns
returns c =
    let entries : entries_of c.push_entries.new.into.items ≡ entries_of c.args.old.now.entries.items = c.in_ok-push_entries.ensures ∙ rw (c.new-entries.ensures.items, c.deref.ensures.value) (within_all (entries_of c.args.old.now.entries.items)) in
    same_held c.args.old.now.group _ _ (listed c.args.pairs.items) _ entries refl
