-- An engine may go to another thread.
use denote.RattleType.{RattleType}
use denote.Struct.Declared.{shape}
use denote.Param.Send.{IsSend, IsSync, AllSend, AllSync, sendable, owning_send, recorded_send, recorded_sync, struct_send, struct_sync, view_send, view_sync}
use Rattle.std.proofs.Crossing as items
use Rattle.std.proofs.MapsCrossing as maps
use Rattle.raft_env.specs.declared.env.FileSystem.{Ghosts}
use Rattle.raft_entry_blocks.specs.contracts.block_cache.BlockCache as cache
use Rattle.raft_entry_blocks.proofs.Crossing.{recent_send}
use Rattle.raft_base.specs.contracts.history.History as history
use Rattle.raft_config.specs.contracts.config.Config as config
use Rattle.raft_files.specs.contracts.log_file.LogFileWriter as writer
use Rattle.raft_pipes.specs.contracts.log_folders.LogFolders as folders
use Rattle.raft_pipes.specs.contracts.pipe.SinglePipe as pipe
use Rattle.raft_queues.specs.contracts.dual_pipes.DualPipes as pipes
use Rattle.raft_records.specs.contracts.log_item.LogItem as item
use Rattle.raft_records.specs.contracts.log_item.LogItemContent as content
use Rattle.raft_records.specs.contracts.log_item.KeyValue as key_value
use Rattle.raft_records.specs.contracts.entry_index.EntryIndex as index
use Rattle.raft_tables.specs.contracts.entries.EntryTable as entries
use Rattle.raft_records.specs.contracts.log_batch.LogBatch as batch
use Rattle.raft_tables.specs.contracts.memtables.MemTables as tables
use Rattle.raft_tables.specs.contracts.memtable.MemTable as table
use Rattle.raft_tables.specs.contracts.owed.OwedMarks as owed
use Rattle.raft_tables.specs.contracts.rewritten.GroupsMet as groups
use Rattle.raft_tables.specs.contracts.stats.GlobalStats as stats
use Rattle.raft_purge_steps.specs.contracts.log.Log as log
use Rattle.raft_purge_steps.specs.contracts.log_store.LogStore as store
use Rattle.raft_purge.specs.contracts.renewal_groups.NewFiles as new_files
use Rattle.raft_purge_rules.specs.contracts.rounds.Rounds as rounds
use Rattle.raft_log_engine.specs.contracts.engine.Engine as engine

pub history_send : (A : RattleType) → IsSend A → IsSend (history.the_row A)
history_send A a = owning_send (history.the_type A) (search sendable, tt) (λ d. tt) (λ k x w. tt)

config_parts : AllSend (shape config.the_type).fields
config_parts = (search (sendable, items.crosses, maps.crosses) depth 20, (search (sendable, items.crosses, maps.crosses) depth 20, (search (sendable, items.crosses, maps.crosses) depth 20, (search (sendable, items.crosses, maps.crosses) depth 20, (search (sendable, items.crosses, maps.crosses) depth 20, (search (sendable, items.crosses, maps.crosses) depth 20, (search (sendable, items.crosses, maps.crosses) depth 20, (search (sendable, items.crosses, maps.crosses) depth 20, (search (sendable, items.crosses, maps.crosses) depth 20, (search (sendable, items.crosses, maps.crosses) depth 20, (search (sendable, items.crosses, maps.crosses) depth 20, (search (sendable, items.crosses, maps.crosses) depth 20, (search (sendable, items.crosses, maps.crosses) depth 20, (search (sendable, items.crosses, maps.crosses) depth 20, (search (sendable, items.crosses, maps.crosses) depth 20, tt)))))))))))))))

config_send : IsSend config.the_row
config_send = recorded_send _ _ _ (config.the_type).to_one (struct_send (shape config.the_type) config_parts)

config_field_send : IsSend (config.the_field).row
config_field_send = struct_send (shape config.the_type) config_parts

index_send : IsSend (index.the_field).row
index_send = search sendable depth 20

key_value_send : IsSend (key_value.the_field).row
key_value_send = search (sendable, items.crosses) depth 20

content_send : IsSend (content.the_field).row
content_send = search (sendable, items.crosses, index_send, key_value_send) depth 20

item_parts : AllSend (shape item.the_type).fields
item_parts = (search sendable, (content_send, tt))

item_send : IsSend item.the_row
item_send = recorded_send _ _ _ (item.the_type).to_one (struct_send (shape item.the_type) item_parts)

item_field_send : IsSend (item.the_field).row
item_field_send = struct_send (shape item.the_type) item_parts

pub batch_send : IsSend batch.the_row
batch_send = view_send batch.TheInside.the_row _ _ _ _ (search (sendable, items.crosses, item_send) depth 20)

index_sync : IsSync (index.the_field).row
index_sync = search sendable depth 20

key_value_sync : IsSync (key_value.the_field).row
key_value_sync = search (sendable, items.crosses) depth 20

content_sync : IsSync (content.the_field).row
content_sync = search (sendable, items.crosses, index_sync, key_value_sync) depth 20

item_shared : AllSync (shape item.the_type).fields
item_shared = (search sendable, (content_sync, tt))

item_sync : IsSync item.the_row
item_sync = recorded_sync _ _ _ (item.the_type).to_one (struct_sync (shape item.the_type) item_shared)

pub batch_sync : IsSync batch.the_row
batch_sync = view_sync batch.TheInside.the_row _ _ _ _ (search (sendable, items.crosses, item_sync) depth 20)

cache_send : IsSend cache.the_row
cache_send = view_send cache.TheInside.the_row _ _ _ _ (search (sendable, items.crosses, recent_send) depth 20)

cache_field_send : IsSend (cache.the_field).row
cache_field_send = cache_send

folders_send : IsSend folders.the_row
folders_send = view_send folders.TheInside.the_row _ _ _ _ (search (sendable, items.crosses, maps.crosses) depth 20)

folders_field_send : IsSend (folders.the_field).row
folders_field_send = folders_send

entries_send : IsSend (entries.the_field).row
entries_send = search (sendable, items.crosses) depth 20

table_parts : AllSend (shape table.the_type).fields
table_parts = (entries_send, (search (sendable, items.crosses, maps.crosses) depth 20, (search (sendable, items.crosses) depth 20, (search sendable, (search sendable, tt)))))

table_send : IsSend table.the_row
table_send = recorded_send _ _ _ (table.the_type).to_one (struct_send (shape table.the_type) table_parts)

table_field_send : IsSend (table.the_field).row
table_field_send = struct_send (shape table.the_type) table_parts

tables_parts : AllSend (shape tables.the_type).fields
tables_parts = (search (sendable, items.crosses) depth 20, (search (sendable, items.crosses, maps.crosses, table_send) depth 20, (search (sendable, items.crosses, maps.crosses, table_send) depth 20, (search sendable, tt))))

tables_field_send : IsSend (tables.the_field).row
tables_field_send = struct_send (shape tables.the_type) tables_parts

owed_parts : AllSend (shape owed.the_type).fields
owed_parts = (search (sendable, items.crosses) depth 20, (search (sendable, items.crosses, maps.crosses) depth 20, (search (sendable, items.crosses, maps.crosses) depth 20, (search (sendable, items.crosses, maps.crosses) depth 20, tt))))

owed_send : IsSend (owed.the_field).row
owed_send = struct_send (shape owed.the_type) owed_parts

stats_send : IsSend (stats.the_field).row
stats_send = search (sendable, items.crosses) depth 20

groups_send : IsSend (groups.the_field).row
groups_send = search (sendable, items.crosses) depth 20

new_files_send : IsSend (new_files.the_field).row
new_files_send = search (sendable, items.crosses, groups_send) depth 20

rounds_parts : AllSend (shape rounds.the_type).fields
rounds_parts = (search (sendable, items.crosses) depth 20, (search (sendable, items.crosses, maps.crosses) depth 20, tt))

rounds_send : IsSend (rounds.the_field).row
rounds_send = struct_send (shape rounds.the_type) rounds_parts

module _ (F H R W : RattleType) (g : Ghosts F.Denot H.Denot R.Denot W.Denot) where
  writer_send : IsSend W → IsSend (writer.the_row F H R W g)
  writer_send w = view_send (writer.TheInside.the_row F H R W g) _ _ _ _ (search (sendable, items.crosses) depth 20)

  pipe_parts : IsSend W → AllSend (shape (pipe.TheInside.the_type F H R W g)).fields
  pipe_parts w = (search (sendable, items.crosses, maps.crosses) depth 20, (folders_field_send, (search (sendable, items.crosses, maps.crosses) depth 20, (search (sendable, items.crosses, maps.crosses) depth 20, (search (sendable, items.crosses, maps.crosses) depth 20, (search (sendable, items.crosses, maps.crosses) depth 20, (search (sendable, items.crosses, maps.crosses) depth 20, (search (sendable, items.crosses, maps.crosses) depth 20, (writer_send w, (search (sendable, items.crosses, maps.crosses) depth 20, (search sendable, (search sendable, tt))))))))))))

  pipe_send : IsSend W → IsSend (pipe.the_row F H R W g)
  pipe_send w = view_send (pipe.TheInside.the_row F H R W g) _ _ _ _ (recorded_send _ _ _ (pipe.TheInside.the_type F H R W g).to_one (struct_send (shape (pipe.TheInside.the_type F H R W g)) (pipe_parts w)))

  pipe_field_send : IsSend W → IsSend (pipe.the_field F H R W g).row
  pipe_field_send w = pipe_send w

  pipes_parts : IsSend W → AllSend (shape (pipes.TheInside.the_type F H R W g)).fields
  pipes_parts w = (pipe_field_send w, (pipe_field_send w, tt))

  pipes_send : IsSend W → IsSend (pipes.the_row F H R W g)
  pipes_send w = view_send (pipes.TheInside.the_row F H R W g) _ _ _ _ (recorded_send _ _ _ (pipes.TheInside.the_type F H R W g).to_one (struct_send (shape (pipes.TheInside.the_type F H R W g)) (pipes_parts w)))

  store_parts : IsSend F → IsSend W → AllSend (shape (store.the_type F H R W g)).fields
  store_parts f w = (pipes_send w, (f, tt))

  store_send : IsSend F → IsSend W → IsSend (store.the_field F H R W g).row
  store_send f w = struct_send (shape (store.the_type F H R W g)) (store_parts f w)

  log_parts : IsSend F → IsSend W → AllSend (shape (log.the_type F H R W g)).fields
  log_parts f w = (store_send f w, (cache_field_send, (tables_field_send, (owed_send, (stats_send, (groups_send, tt))))))

  log_send : IsSend F → IsSend W → IsSend (log.the_field F H R W g).row
  log_send f w = struct_send (shape (log.the_type F H R W g)) (log_parts f w)

  pub engine_parts : IsSend F → IsSend W → AllSend (shape (engine.the_type F H R W g)).fields
  engine_parts f w = (search (sendable, items.crosses) depth 20, (config_field_send, (log_send f w, (rounds_send, (search (sendable, items.crosses, new_files_send) depth 20, (search sendable, (search (sendable, items.crosses, item_send) depth 20, (search sendable, (search (sendable, history_send, batch_send) depth 20, (search (sendable, history_send, batch_send) depth 20, (search (sendable, history_send) depth 20, tt)))))))))))

  pub engine_send : IsSend F → IsSend W → IsSend (engine.the_row F H R W g)
  engine_send f w = recorded_send _ _ _ (engine.the_type F H R W g).to_one (struct_send (shape (engine.the_type F H R W g)) (engine_parts f w))
