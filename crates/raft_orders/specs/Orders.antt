-- What was ordered.
use Rattle.std.specs.Prelude.{ℤ, Option}
use Rattle.raft_env.specs.Directory.{Directory}
use Rattle.raft_disk.specs.Calls.{after_calls}
use Rattle.raft_disk.specs.Folder.{found_files}
use Rattle.raft_orders.specs.declared.orders.Orders.{Orders}

-- the files that were found, after the orders since then
abbrev pub ordered_of : Orders → Directory
ordered_of orders = after_calls orders.told.items (found_files orders.found.items)

-- the descriptor that orders go to; without one nobody carries them out
abbrev pub goes_to : Orders → Option ℤ
goes_to orders = orders.out
