-- What a handle owns: nothing, or a box of a log.
use Rattle.std.specs.Prelude.{Option, Some, None}
use Rattle.std.specs.Coded.{coded_option}
use base.Fml.{Fml, ftrue}
use base.Stored.{Coded}
use denote.RawPtr.{Ptr}
use Rattle.std_alloc.specs.Box.Ownership.{box_owns}
use Rattle.std_heap.specs.contracts.GlobalAllocator.TheImpl.{ghosts}
use mir.Syntax.{Ty}
use Rattle.raft_c.specs.declared.log.Log.{Log}
use Rattle.raft_c.specs.contracts.log.Log as log

-- the right to free a block of the heap
abbrev pub frees : Ty → Ptr → Fml
frees = ghosts.dealloc_token (record { memory = record { seal = tt } })

-- the handle at this address owns nothing, or the box of this log
abbrev pub handle_owns : Ptr → Option Log → Fml
handle_owns p None = ftrue
handle_owns p (Some c) = box_owns frees log.the_row p c

-- an optional log as a ghost value
abbrev pub log_coded : Coded (Option Log)
log_coded = coded_option (log.the_row).coded
