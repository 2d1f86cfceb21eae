-- The entries blocks of a file that is opened.
use Rattle.std.proofs.Common.{◌≡◌, ℕ, List, [], take, Option, Some, None, arith, sym, ◌∙◌, ap}
use Rattle.std.proofs.lemmas.List.{take_all}
use Rattle.raft_base.specs.declared.pipe_log.FileId.{FileId}
use Rattle.raft_base.specs.declared.pipe_log.Version.TheVariants.{V1}
use Rattle.raft_env.specs.Directory.{Directory, Path}
use Rattle.raft_env.specs.Outcomes.{File}
use Rattle.raft_files.specs.Blocks.{AreBlocksOf}
use Rattle.raft_files.specs.Header as file_header
use Rattle.raft_files.specs.Scan.{ScanResult, end_of, end_of_scan, scan_file}
use Rattle.raft_files.specs.Writer.{WriterState, IsSynced, bytes_at, bytes_of}
use Rattle.raft_files.proofs.BlocksLemmas.{blocks_before}
use Rattle.raft_files.proofs.WriterChangeLemmas.{stands_after}
use Rattle.raft_records.specs.Places.{Blocks}
use Rattle.raft_records.specs.Record.{header_bytes}
use Rattle.raft_opening.specs.LogFile.{bytes_kept, format_in}
use Rattle.raft_opening.specs.Open.{IsOpenedTo}

-- Openings.

-- what an opening keeps has all blocks of what it read
pub kept_blocks : (id : FileId) (bytes : List ℕ) (blocks : Blocks) → AreBlocksOf id (bytes_kept bytes (scan_file id bytes)) blocks → AreBlocksOf id (take (end_of_scan id bytes) bytes) blocks
kept_blocks id bytes blocks are = by_scan (scan_file id bytes) are
  where
    by_scan : (o : Option ScanResult) → AreBlocksOf id (bytes_kept bytes o) blocks → AreBlocksOf id (take (end_of o) bytes) blocks
    by_scan None are = blocks_before id [] (file_header.header_bytes (format_in V1)) blocks are
    by_scan (Some r) are = are

-- what was written of a file that was opened is all of it
pub opened_written : (path : Path) (kept : List ℕ) (n : Directory) (w : WriterState) → IsOpenedTo path kept n w → take w.written (bytes_at path n) ≡ kept
opened_written path kept n w opened =
    ap (λ o. take w.written (bytes_of o)) (stands_after path opened.before n IsSynced opened.synced) ∙ ap (λ (f : File). take w.written f.now) opened.synced.how
    ∙ ap (take w.written) (sym (ap bytes_of opened.synced.was) ∙ opened.holds) ∙ take_all w.written kept (omega (arith, opened.written))
