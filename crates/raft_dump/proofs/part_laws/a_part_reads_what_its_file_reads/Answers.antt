use Rattle.raft_dump.proofs.JoinLemmas.{refusal_told}
use Rattle.raft_dump.proofs.ReadLemmas.{part_reads}
use Rattle.raft_dump.proofs.part_laws.a_part_reads_what_its_file_reads.Goals as goal

pub returns-clause-items : goal.returns-clause-items
returns-clause-items c = λ id format header bytes part at len unaligned is. part_reads id format header bytes part at len unaligned is

pub returns-clause-stop : goal.returns-clause-stop
returns-clause-stop c = λ id format header bytes part at len unaligned is has. refusal_told id format unaligned bytes _ _ _ has
