use Rattle.std.proofs.Common.{rules}
use Rattle.raft_builder.proofs.JobLemmas.{if_ok_both, zip_from_jobs}
use Rattle.raft_builder.proofs.side_by_side.read_side_by_side.Goals as goal

pub returns : goal.returns
returns g c = if_ok_both c.map_vec.result _ _ _ (λ v len each. zip_from_jobs _ _ _ (λ job x post. search rules) c.args.jobs.items v.items (search rules) each) c.map_vec.ensures.len c.map_vec.ensures.each
