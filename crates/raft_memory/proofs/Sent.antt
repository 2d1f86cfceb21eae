-- A file system in memory may go to another thread and be shared.
use denote.RattleType.{RattleType}
use denote.Struct.Declared.{shape}
use Rattle.std.proofs.Crossing as items
use Rattle.std.proofs.MapsCrossing as maps
use denote.Param.Send.{IsSend, IsSync, AllSend, AllSync, sendable, recorded_send, recorded_sync, struct_send, struct_sync, owning_send, part_keyless, view_send, view_sync}
use Rattle.raft_memory.specs.contracts.memory.MemoryFileSystem as fs
use Rattle.std.specs.contracts.sync.atomic.AtomicU64 as atomic
use Rattle.raft_memory.specs.contracts.armed.ArmedRefusal as refusal
use Rattle.raft_memory.specs.contracts.armed.Armed as armed
use Rattle.raft_memory.specs.contracts.namespace.Namespace as tree
use Rattle.raft_memory.specs.contracts.memory_file.MemoryFile as file
use Rattle.raft_memory.specs.contracts.ghost_file.GhostFile as known
use Rattle.raft_memory.specs.contracts.noted.NotedBytes as noted
use Rattle.raft_base.specs.contracts.history.History as history

known_send : IsSend known.the_row
known_send = search sendable depth 20

known_sync : IsSync known.the_row
known_sync = record { shared = λ d b o κ q. part_keyless known.the_row known_send q d b o }

history_send : (A : RattleType) → IsSend A → IsSend (history.the_row A)
history_send A a = owning_send (history.the_type A) (search sendable, tt) (λ d. tt) (λ k x w. tt)

history_sync : (A : RattleType) → IsSend A → IsSync (history.the_row A)
history_sync A a = record { shared = λ d b o κ q. part_keyless (history.the_row A) (history_send A a) q d b o }

-- each type again as the type of a field
known_field_send : IsSend (known.the_field).row
known_field_send = known_send

known_field_sync : IsSync (known.the_field).row
known_field_sync = known_sync

noted_inside_send : IsSend noted.TheInside.the_row
noted_inside_send = search (sendable, items.crosses, known_field_send) depth 20

noted_inside_sync : IsSync noted.TheInside.the_row
noted_inside_sync = search (sendable, items.crosses, known_field_sync) depth 20

pub noted_send : IsSend noted.the_row
noted_send = view_send noted.TheInside.the_row _ _ _ _ noted_inside_send

pub noted_sync : IsSync noted.the_row
noted_sync = view_sync noted.TheInside.the_row _ _ _ _ noted_inside_sync

pub noted_field_send : IsSend (noted.the_field).row
noted_field_send = noted_send

inside_send : IsSend file.TheInside.the_row
inside_send = search (sendable, items.crosses, known_field_send) depth 20

inside_sync : IsSync file.TheInside.the_row
inside_sync = search (sendable, items.crosses, known_field_sync) depth 20

file_send : IsSend file.the_row
file_send = view_send file.TheInside.the_row _ _ _ _ inside_send

file_sync : IsSync file.the_row
file_sync = view_sync file.TheInside.the_row _ _ _ _ inside_sync

file_field_send : IsSend (file.the_field).row
file_field_send = file_send

file_field_sync : IsSync (file.the_field).row
file_field_sync = file_sync

tree_send : IsSend tree.the_row
tree_send = search (sendable, items.crosses, maps.crosses, file_field_send) depth 20

tree_sync : IsSync tree.the_row
tree_sync = search (sendable, items.crosses, maps.crosses, file_field_send, file_field_sync) depth 20

tree_field_send : IsSend (tree.the_field).row
tree_field_send = search (sendable, items.crosses, maps.crosses, file_field_send) depth 20

tree_field_sync : IsSync (tree.the_field).row
tree_field_sync = search (sendable, items.crosses, maps.crosses, file_field_send, file_field_sync) depth 20

atomic_send : IsSend atomic.the_row
atomic_send = search (sendable, items.crosses) depth 20

atomic_sync : IsSync atomic.the_row
atomic_sync = search (sendable, items.crosses) depth 20

atomic_field_send : IsSend (atomic.the_field).row
atomic_field_send = atomic_send

atomic_field_sync : IsSync (atomic.the_field).row
atomic_field_sync = atomic_sync

-- an armed refusal, field by field
refusal_parts_send : AllSend (shape refusal.the_type).fields
refusal_parts_send = (search sendable depth 20, (search sendable, (search sendable depth 20, (atomic_field_send, tt))))

refusal_parts_sync : AllSync (shape refusal.the_type).fields
refusal_parts_sync = (search sendable depth 20, (search sendable, (search sendable depth 20, (atomic_field_sync, tt))))

refusal_send : IsSend refusal.the_row
refusal_send = recorded_send _ _ _ (refusal.the_type).to_one (struct_send (shape refusal.the_type) refusal_parts_send)

refusal_sync : IsSync refusal.the_row
refusal_sync = recorded_sync _ _ _ (refusal.the_type).to_one (struct_sync (shape refusal.the_type) refusal_parts_sync)

armed_field_send : IsSend (armed.the_field).row
armed_field_send = search (sendable, items.crosses, refusal_send) depth 20

armed_field_sync : IsSync (armed.the_field).row
armed_field_sync = search (sendable, items.crosses, refusal_send, refusal_sync) depth 20

pub memory_send : IsSend fs.the_row
memory_send = search (sendable, items.crosses, maps.crosses, tree_send, tree_field_send, armed_field_send, history_send) depth 20

pub memory_sync : IsSync fs.the_row
memory_sync = search (sendable, items.crosses, maps.crosses, tree_send, tree_field_send, tree_sync, tree_field_sync, armed_field_send, armed_field_sync, history_send, history_sync) depth 20
