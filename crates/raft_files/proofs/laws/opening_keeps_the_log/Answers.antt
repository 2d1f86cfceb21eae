use Rattle.std.proofs.Common.{refl}
use Rattle.raft_files.proofs.RecordsCrashLemmas.{kept_created, kept_truncating, kept_opening, log_found_cut}
use Rattle.raft_files.proofs.RecordsReusedLemmas.{kept_renamed, kept_reusing, log_reused}
use Rattle.raft_files.proofs.laws.opening_keeps_the_log.Goals as goal

pub returns-clause-created : goal.returns-clause-created
returns-clause-created c = λ path id batches synced old n kept is. kept_created path id batches synced old n is kept

pub returns-clause-truncating : goal.returns-clause-truncating
returns-clause-truncating c = λ path id batches synced old n kept how. kept_truncating path id batches synced old n _ refl how kept

pub returns-clause-header : goal.returns-clause-header
returns-clause-header c = λ path id format batches synced old n kept empty how. kept_opening path id batches synced old n format empty how kept

pub returns-clause-found : goal.returns-clause-found
returns-clause-found c = log_found_cut

pub returns-clause-renamed : goal.returns-clause-renamed
returns-clause-renamed c = λ src path id old has. kept_renamed src path old has id

pub returns-clause-reusing : goal.returns-clause-reusing
returns-clause-reusing c = λ src path id format old n room new_room has header_fits fits change.
    kept_reusing src path old has id format room new_room header_fits fits n change

pub returns-clause-reused : goal.returns-clause-reused
returns-clause-reused c = λ src path id format old mid new room new_room has header_fits fits first change.
    log_reused src path old has id format room new_room header_fits fits mid new first change
