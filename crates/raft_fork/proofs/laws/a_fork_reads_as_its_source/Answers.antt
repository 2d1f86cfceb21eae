use Rattle.raft_fork.proofs.ReadsLemmas.{fork_clear, fork_contents, fork_known, fork_reads, fork_single}
use Rattle.raft_fork.proofs.laws.a_fork_reads_as_its_source.Goals as goal

pub returns-clause-clear : goal.returns-clause-clear
returns-clause-clear c = fork_clear

pub returns-clause-single : goal.returns-clause-single
returns-clause-single c = fork_single

pub returns-clause-reads : goal.returns-clause-reads
returns-clause-reads c = fork_reads

pub returns-clause-contents : goal.returns-clause-contents
returns-clause-contents c = fork_contents

pub returns-clause-known : goal.returns-clause-known
returns-clause-known c = fork_known
