-- What a sync makes of a pipe's last file.
use Rattle.raft_env.specs.Directory.{Directory}
use Rattle.raft_files.specs.Writer.{bytes_at}
use Rattle.raft_pipes.specs.Files.{IsDurable}
use Rattle.raft_pipes.specs.PipeState.{PipeState}

-- a crash leaves it as it is
abbrev pub HasDurableEnd : PipeState → Directory → Type 0
HasDurableEnd p n = IsDurable p.writer.path (bytes_at p.writer.path n) n
