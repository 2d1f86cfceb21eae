use Rattle.std.proofs.Common.{◌≡◌, ◌++◌, ◌-◌, length, take, ◌∙◌, ap, rules}
use Rattle.std.specs.Prelude.{replicate}
use Rattle.std.specs.Vec.{with_items}
use Rattle.std.proofs.lemmas.List.{with_items_is}
use Rattle.raft_env.specs.Outcomes.{File}
use Rattle.raft_memory.proofs.MemoryFileBeforeImagesLemmas.{restored, saved_same}
use Rattle.raft_memory.proofs.memory_file.MemoryFile.synced.Goals as goal

pub returns : goal.returns
returns c =
    let s = c.self.inside in
    let stored = c.stored.result.now in
    let saved = saved_same s.bytes s.saved s.synced_stored s.synced_len s.ghost_file.file.synced c.self.invariant.1 stored c.stored.ensures.each in
    let len : length c.deref_mut.result.now ≡ s.synced_stored = search rules in
    let is : c.deref_mut.result.now ≡ take s.synced_stored stored ++ replicate (s.synced_stored - length stored) 0 = search rules in
    let put = c.restore.new.bytes in
    let long : length put ≡ c.resize.new.self.len = search rules in
    let put_is : (with_items c.resize.new.self put).items ≡ put = with_items_is c.resize.new.self put long in
    let last : c.resize-2.new.self.items ≡ take s.synced_len put ++ replicate (s.synced_len - length put) 0 = search (rules, put_is) in
    let last_len : length c.resize-2.new.self.items ≡ s.synced_len = search rules in
    record { ok = restored stored s.saved s.synced_stored s.synced_len s.ghost_file.file.synced c.deref_mut.result.now put c.resize-2.new.self.items saved is len c.restore.ensures.unchanged c.restore.ensures.ok last last_len ∙ ap (λ (f : File). f.synced) c.self.view_is }
