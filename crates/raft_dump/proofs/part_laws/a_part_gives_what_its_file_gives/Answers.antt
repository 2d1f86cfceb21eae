use Rattle.raft_dump.proofs.GivenLemmas.{part_gives, replay_refusal_told}
use Rattle.raft_dump.proofs.part_laws.a_part_gives_what_its_file_gives.Goals as goal

pub returns-clause-items : goal.returns-clause-items
returns-clause-items c = λ id format header bytes part at len unaligned is. part_gives id format header bytes part at len unaligned is

pub returns-clause-stop : goal.returns-clause-stop
returns-clause-stop c = λ id format header bytes part at len unaligned is has. replay_refusal_told id format unaligned bytes _ _ _ has
