use Rattle.raft_memory.proofs.ChoiceTornLemmas.{choices_may_leave}
use Rattle.raft_queue_laws.proofs.PremiseLemmas.{log_whole, records_detectable, records_torn}
use Rattle.raft_queue_laws.proofs.PastLemmas.{own_detectable, now_is_read, synced_is_read, untouched_by_choices}
use Rattle.raft_queue_laws.proofs.DetectableDamageLemmas.{broken_zeros, never_stale_record}
use Rattle.raft_queue_laws.proofs.damage.premise_can_be_met.Goals as goal

pub returns-clause-allowed : goal.returns-clause-allowed
returns-clause-allowed c = choices_may_leave

pub returns-clause-untouched : goal.returns-clause-untouched
returns-clause-untouched c = λ choices n none consistent. untouched_by_choices n consistent choices none

pub returns-clause-first_records : goal.returns-clause-first_records
returns-clause-first_records c = records_detectable

pub returns-clause-torn : goal.returns-clause-torn
returns-clause-torn c = records_torn

pub returns-clause-zeros : goal.returns-clause-zeros
returns-clause-zeros c = broken_zeros

pub returns-clause-detectable : goal.returns-clause-detectable
returns-clause-detectable c = log_whole

pub returns-clause-never_renamed : goal.returns-clause-never_renamed
returns-clause-never_renamed c = never_stale_record

pub returns-clause-own : goal.returns-clause-own
returns-clause-own c = own_detectable

pub returns-clause-read_now : goal.returns-clause-read_now
returns-clause-read_now c = now_is_read

pub returns-clause-read_synced : goal.returns-clause-read_synced
returns-clause-read_synced c = synced_is_read
