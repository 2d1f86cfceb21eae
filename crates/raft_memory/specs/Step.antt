-- What a step makes of a file.
use Rattle.raft_env.specs.Outcomes.{File, synced_file, file_after_write, file_after_resize, synced_of, renamed_of}
use Rattle.raft_memory.specs.declared.ghost_file.Step.{Step}
use Rattle.raft_memory.specs.declared.ghost_file.Step.TheVariants as step

-- the file after the step
abbrev pub file_after_step : Step → File
file_after_step (step.Write known at given is_done after) =
    file_after_write at given.now is_done after.now known.now.file
file_after_step (step.Resize known after) = file_after_resize after.now known.now.file
file_after_step (step.Sync known) = synced_of known.now.file
file_after_step (step.Rename known) = renamed_of known.now.file
file_after_step (step.Start bytes) = synced_file bytes.now
