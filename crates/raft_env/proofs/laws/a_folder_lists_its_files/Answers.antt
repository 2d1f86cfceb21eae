use Rattle.raft_env.proofs.DirectoryNamesLemmas.{names_in-tells, names_in-lists}
use Rattle.raft_env.proofs.laws.a_folder_lists_its_files.Goals as goal

pub returns : goal.returns
returns c = λ folder name n. (names_in-tells folder name n, names_in-lists folder name n)
