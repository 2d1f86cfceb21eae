use Rattle.raft_c_log.proofs.FetchLemmas.{fetch_answer}
use Rattle.raft_c_log.proofs.open_log.OpenLog.fetch.Goals as goal

pub returns-clause-value : goal.returns-clause-value
returns-clause-value g c =
    fetch_answer c.args.fetch _ _ c.size_bound.ensures.value _ _ c.new-entries.ensures.items _ c.in_ok-fetch_entries_to.ensures.value _ _ c.clear.ensures.items _ c.deref.ensures.value c.in_ok-push_entries.ensures.ok
