-- Kept blocks may go to another thread.
use denote.RattleType.{RattleType}
use denote.Struct.Declared.{shape}
use denote.Param.Send.{IsSend, IsSync, AllSend, AllSync, sendable, view_send, struct_send, struct_sync, recorded_send, recorded_sync}
use Rattle.std.proofs.Crossing as items
use Rattle.std.proofs.MapsCrossing as maps
use Rattle.std.specs.declared.alloc.Allocator as allocator
use Rattle.std.specs.declared.cmp.Eq as eq
use Rattle.std.specs.declared.cmp.PartialEq as partial_eq
use Rattle.std.specs.declared.hash.BuildHasher as build_hasher
use Rattle.std.specs.declared.hash.Hash as hash
use Rattle.std.specs.declared.hash.Hasher as hasher
use Rattle.lru.proofs.Crosses.{KeyRef-send, List-send, Deed-send}
use Rattle.lru.specs.contracts.cache.LruCache as lru_cache
use Rattle.lru.specs.contracts.nodes.Nodes as nodes
use Rattle.lru.specs.contracts.entry.Slot as slot
use Rattle.raft_base.specs.contracts.pipe_log.FileBlockHandle as handle
use Rattle.raft_entry_blocks.specs.contracts.recent_blocks.RecentBlocks as recent

handle_parts : AllSend (shape handle.the_type).fields
handle_parts = (search sendable depth 20, (search sendable, (search sendable, tt)))

handle_shared : AllSync (shape handle.the_type).fields
handle_shared = (search sendable depth 20, (search sendable, (search sendable, tt)))

handle_send : IsSend handle.the_row
handle_send = recorded_send _ _ _ (handle.the_type).to_one (struct_send (shape handle.the_type) handle_parts)

handle_sync : IsSync handle.the_row
handle_sync = recorded_sync _ _ _ (handle.the_type).to_one (struct_sync (shape handle.the_type) handle_shared)

module _ (K V A : RattleType) (g : allocator.Ghosts A.Denot) where
  slot_send : AllSend (shape (slot.the_type K V A g)).fields → IsSend (slot.the_field K V A g).row
  slot_send parts = struct_send (shape (slot.the_type K V A g)) parts

  slot_row_send : AllSend (shape (slot.the_type K V A g)).fields → IsSend (slot.the_row K V A g)
  slot_row_send parts = recorded_send _ _ _ (slot.the_type K V A g).to_one (slot_send parts)

module _ (K V S A T : RattleType) (q : eq.Ghosts K.Denot) (e : partial_eq.Ghosts K.Denot) (h : hash.Ghosts K.Denot) (b : build_hasher.Ghosts S.Denot T.Denot) (w : hasher.Ghosts T.Denot) (g : allocator.Ghosts A.Denot) where
  lru_send : AllSend (shape (nodes.the_type K V S A T q e h b w g)).fields → IsSend (lru_cache.the_row K V S A T q e h b w g)
  lru_send parts = view_send (lru_cache.TheInside.the_row K V S A T q e h b w g) _ _ _ _
      (recorded_send _ _ _ (lru_cache.TheInside.the_type K V S A T q e h b w g).to_one
      (struct_send (shape (lru_cache.TheInside.the_type K V S A T q e h b w g))
      (struct_send (shape (nodes.the_type K V S A T q e h b w g)) parts, (search sendable depth 20, tt))))

pub recent_send : IsSend recent.the_row
recent_send = view_send recent.TheInside.the_row _ _ _ _
    (recorded_send _ _ _ (recent.TheInside.the_type).to_one (struct_send (shape recent.TheInside.the_type)
    (search (sendable, items.crosses, maps.crosses, lru_send, slot_send, slot_row_send, KeyRef-send, Deed-send, List-send, handle_send, handle_sync, items.frees, items.send) depth 20, tt)))
