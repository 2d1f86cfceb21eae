-- Blocks of the log files' own bytes.
use Rattle.std.proofs.Common.{◌≡◌, ◌∙◌, ℕ, List, [], ◌∷◌, take, drop, Some, None, ap}
use Rattle.raft_base.specs.declared.pipe_log.FileBlockHandle.{FileBlockHandle}
use Rattle.raft_base.specs.declared.pipe_log.LogQueue.{LogQueue}
use Rattle.raft_config.specs.Folders.{Folders, all_of}
use Rattle.raft_env.specs.Directory.{Directory, Path}
use Rattle.raft_files.specs.Scan.{end_of_scan}
use Rattle.raft_files.specs.Writer.{bytes_at}
use Rattle.raft_opening.specs.Files.{HaveBlocks}
use Rattle.raft_pipes.specs.Folder.{log_files_of}
use Rattle.raft_pipes.specs.Numbered.{AreSingle, StandAlone, in_queue, paths_of}
use Rattle.raft_crash_laws.specs.Queues.{HaveFoundBlocks}
use Rattle.raft_records.specs.Places.{Blocks}

module _ (folders : Folders) (n : Directory) where
  -- what stands at a block's handle in the first of these files of a number
  bytes_of_block : LogQueue → ℕ → List Path → FileBlockHandle → List ℕ
  bytes_of_block queue seq [] block = []
  bytes_of_block queue seq (path ∷ more) block =
      take block.len (drop block.offset (take (end_of_scan (in_queue queue seq) (bytes_at path n)) (bytes_at path n)))

  pub found_blocks : Blocks
  found_blocks None = []
  found_blocks (Some block) = bytes_of_block block.id.queue block.id.seq (paths_of (all_of folders) block.id.queue n block.id.seq) block

  have_found : (queue : LogQueue) (files : List (ℕ × Path)) → StandAlone (paths_of (all_of folders) queue n) files → HaveBlocks queue n files found_blocks
  unfolding found_blocks bytes_of_block
  have_found queue [] alone = tt
  have_found queue (f ∷ files) alone = (
    λ block own within.
        ap (λ id. bytes_of_block id.queue id.seq (paths_of (all_of folders) id.queue n id.seq) block) own
        ∙ ap (λ paths. bytes_of_block queue f.0 paths block) alone.0,
    have_found queue files alone.1,
  )

  pub have_found_blocks : ((queue : LogQueue) → AreSingle (all_of folders) queue n) → HaveFoundBlocks folders n found_blocks
  have_found_blocks single queue = have_found queue (log_files_of queue folders n) (single queue)
