use Rattle.std.proofs.Common.{sym}
use Rattle.raft_log_engine.specs.Image.{entries_of}
use Rattle.raft_allowed.proofs.EntriesLemmas.{within_all}
use Rattle.raft_allowed.proofs.parts.with_entries.Goals as goal

pub returns : goal.returns
returns c = rw (c.in_ok-push_entries-2.ensures, c.in_ok-push_entries.ensures, c.new-entries.ensures.items, within_all (entries_of c.args.new.now)) (sym c.end_of_kept.ensures)
