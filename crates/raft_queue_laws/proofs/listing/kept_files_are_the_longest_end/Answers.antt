use Rattle.raft_pipes.specs.Numbered.{end_of_numbers, paths_of}
use Rattle.raft_queue_laws.proofs.ListingLemmas.{last_run_is_longest}
use Rattle.raft_queue_laws.proofs.listing.kept_files_are_the_longest_end.Goals as goal

pub returns : goal.returns
returns c = record { files = λ folders queue n. last_run_is_longest (paths_of folders queue n) end_of_numbers }
