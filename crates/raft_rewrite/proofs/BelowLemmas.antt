-- The indexes of what was read of a log's files, and of what the log holds.
use Rattle.std.proofs.Common.{◌≡◌, ◌<◌, ◌≤◌, ◌+◌, ◌-◌, ◌^◌, ◌∙◌, ◌++◌, ◌∷◌, ◌&&◌, ℕ, suc, Bool, true, false, cond, List, [], Option, Some, None, Contains, ap, arith, drop, filter, length, map, nat_lt, option_and_then, option_map, refl, subst, sym}
use Rattle.std.specs.Prelude.{not}
use Rattle.std.specs.List.{AllByRecursion as Each}
use Rattle.std.proofs.Math.Logic.{∥∥₁_elim, ∥∥₁_map}
use Rattle.std.proofs.Props.{props}
use Rattle.std.proofs.lemmas.Bool.{and_parts, false≢true}
use Rattle.std.proofs.lemmas.Bool.Decides.{nat_tests}
use Rattle.std.proofs.lemmas.Option.{same_Some}
use Rattle.raft_base.specs.declared.pipe_log.FileBlockHandle.{FileBlockHandle}
use Rattle.raft_base.specs.declared.pipe_log.FileId.{FileId}
use Rattle.raft_base.specs.declared.pipe_log.LogQueue.{LogQueue}
use Rattle.raft_base.specs.declared.pipe_log.LogQueue.TheVariants.{Append}
use Rattle.raft_env.specs.Directory.{Directory, Path}
use Rattle.raft_files.specs.Scan.{PlacedRecord, readable_batches, readable_records}
use Rattle.raft_files.specs.Writer.{bytes_at}
use Rattle.raft_files.proofs.ScanLemmas.{found_record, read_in}
use Rattle.raft_pipes.specs.ByFile.{numbered_of}
use Rattle.raft_pipes.specs.Numbered.{in_queue}
use Rattle.raft_pipes.specs.PipeState.{files_from, last_file, last_seq, sealed_paths}
use Rattle.raft_pipes.specs.Written.{written_bytes}
use Rattle.raft_queues.specs.Dual.{both_blocks_now}
use Rattle.raft_queues.specs.DualByFile.{batches_by_file}
use Rattle.raft_queues.proofs.DualLemmas.{both_have_blocks}
use Rattle.raft_records.specs.Contents.{Contents, after_batches, entries_below, is_next_to, no_contents, with_entries}
use Rattle.raft_records.specs.FileBatches.{FileBatch, batches_of, in_file}
use Rattle.raft_records.specs.Item.{Batch, Clean, Compact, Delete, Entries, Entry, Item, Put}
use Rattle.raft_records.specs.ItemBatch.{block_of_record, locate_content, locate_items, locate_parts}
use Rattle.raft_records.specs.PlacedItem.{is_placed_in_order}
use Rattle.raft_records.specs.Places.{number_from, places_from}
use Rattle.raft_records.specs.Record.{Parts, Indexes, Other, Stored, batch_by, content_from, entries_from, is_block, is_lz4_block, items_from, record_of, record_parts, stored_len}
use Rattle.raft_records.specs.Validity.{are_consecutive_from, are_in_order}
use Rattle.raft_records.proofs.OrderLemmas.{are_ordered, placed_record-ordered}
use Rattle.raft_recovery_laws.specs.Bounds.{AreItemsBelow, HasIndexesBelow, IsContentBelow}
use Rattle.raft_recovery_laws.specs.Recovered.{effect, items_of, leaves, replay}
use Rattle.raft_recovery_laws.proofs.BoundLemmas.{batches_below}
use Rattle.raft_recovery_laws.proofs.EachLemmas.{each_append, each_contained, each_filter, each_of}
use Rattle.raft_index_laws.proofs.StepLemmas.{held_below, rewrites}
use Rattle.raft_crash_laws.specs.Index.{AreIndexedBy}
use Rattle.raft_crash_laws.specs.Queues.{AreByQueue, HasBothBlocks}
use Rattle.raft_crash_laws.proofs.RenewalLemmas.{indexed_by}
use Rattle.raft_crash_laws.proofs.StepsLemmas.{held_named}
use Rattle.raft_crash_laws.proofs.WriteLemmas.{log_stands}
use Rattle.raft_tables.specs.Tables.{contents_in}
use Rattle.raft_purge_steps.specs.Steps.{IsLog, LogValue, PurgedLog, log_of}

-- A record that was read.

length-number_from : {X : Type 0} (index : ℕ) (xs : List X) → length (number_from index xs) ≡ length xs
length-number_from index [] = refl
length-number_from index (x ∷ xs) = ap suc (length-number_from (index + 1) xs)

length-places_from : (block : Option FileBlockHandle) (lz4 : Bool) (offset : ℕ) (lengths : List ℕ) → length (places_from block lz4 offset lengths) ≡ length lengths
length-places_from block lz4 offset [] = refl
length-places_from block lz4 offset (len ∷ lengths) = ap suc (length-places_from block lz4 (offset + len) lengths)

less_of_test : (a b : ℕ) → nat_lt a b ≡ true → a < b
less_of_test a b is = grind (arith, nat_tests)

entries_under : (bound index : ℕ) (lengths bytes : List ℕ) → index + length lengths ≤ bound → Each (λ (e : Entry). e.0 < bound) (entries_from index lengths bytes)
entries_under bound index [] bytes few = tt
entries_under bound index (n ∷ lengths) bytes few =
    let more : length (n ∷ lengths) ≡ suc (length lengths) = refl in
    (omega (arith, few, more), entries_under bound (index + 1) lengths (drop n bytes) (omega (arith, few, more)))

-- places in order end below 2^64
end_of_order : (block : FileBlockHandle) (lz4 : Bool) (offset first n : ℕ) (lengths : List ℕ) → are_in_order (number_from first (places_from (Some block) lz4 offset (n ∷ lengths))) ≡ true → first + length (n ∷ lengths) ≤ 2 ^ 64 - 1
end_of_order block lz4 offset first n lengths is =
    let placed = number_from first (places_from (Some block) lz4 offset (n ∷ lengths)) in
    let long : length placed ≡ length (n ∷ lengths) = length-number_from first (places_from (Some block) lz4 offset (n ∷ lengths)) ∙ length-places_from (Some block) lz4 offset (n ∷ lengths) in
    let less = less_of_test (first + length placed) (2 ^ 64) (and_parts (are_consecutive_from first placed) (nat_lt (first + length placed) (2 ^ 64)) is).1 in
    omega (arith, less, long)

content_under : (block : FileBlockHandle) (lz4 : Bool) (offset : ℕ) (stored : Stored) (bytes : List ℕ) → is_placed_in_order (locate_content block lz4 offset stored) ≡ true → IsContentBelow (2 ^ 64 - 1) (content_from stored bytes)
content_under block lz4 offset (Indexes first []) bytes is = tt
content_under block lz4 offset (Indexes first (n ∷ lengths)) bytes is = entries_under (2 ^ 64 - 1) first (n ∷ lengths) bytes (end_of_order block lz4 offset first n lengths is)
content_under block lz4 offset (Other (Entries es)) bytes is = absurd (false≢true is)
content_under block lz4 offset (Other Clean) bytes is = tt
content_under block lz4 offset (Other (Compact index)) bytes is = tt
content_under block lz4 offset (Other (Put key value)) bytes is = tt
content_under block lz4 offset (Other (Delete key)) bytes is = tt

items_under : (block : FileBlockHandle) (lz4 : Bool) (offset : ℕ) (items : List (ℕ × Stored)) (bytes : List ℕ) → are_ordered (locate_items block lz4 offset items) ≡ true → AreItemsBelow (2 ^ 64 - 1) (items_from items bytes)
items_under block lz4 offset [] bytes all = tt
items_under block lz4 offset (i ∷ items) bytes all =
    let both = and_parts (is_placed_in_order (locate_content block lz4 offset i.1)) (are_ordered (locate_items block lz4 (offset + stored_len i.1) items)) all in
    (content_under block lz4 offset i.1 bytes both.0, items_under block lz4 (offset + stored_len i.1) items (drop (stored_len i.1) bytes) both.1)

record_under : (signature : Option ℕ) (bytes : List ℕ) (batch : Batch) (len : ℕ) → record_of signature bytes ≡ Some (batch, len) → AreItemsBelow (2 ^ 64 - 1) batch
record_under signature bytes batch len = by_parts (record_parts signature bytes) refl
  where
    file : FileId
    file = record { queue = Append; seq = 0 }

    by_test : (sound : Bool) (p : Parts) → AreItemsBelow (2 ^ 64 - 1) (items_from p.items p.block) → cond {A = Option (Batch × ℕ)} sound (Some (items_from p.items p.block, p.header.len)) None ≡ Some (batch, len) → AreItemsBelow (2 ^ 64 - 1) batch
    by_test true p under is = subst (AreItemsBelow (2 ^ 64 - 1)) (ap (λ (x : Batch × ℕ). x.0) (same_Some (items_from p.items p.block, p.header.len) (batch, len) is)) under
    by_test false p under is = absurd cc

    by_parts : (o : Option Parts) → record_parts signature bytes ≡ o → option_and_then batch_by o ≡ Some (batch, len) → AreItemsBelow (2 ^ 64 - 1) batch
    by_parts None e is = absurd cc
    by_parts (Some p) e is =
        let block = block_of_record file 0 p.header in
        let ordered = placed_record-ordered signature file 0 bytes (locate_items block p.header.is_lz4 0 p.items) p.header.len (ap (option_map (locate_parts file 0)) e) in
        by_test (not (is_lz4_block p.header.is_lz4 (length p.block)) && is_block p.block) p (items_under block p.header.is_lz4 0 p.items p.block ordered) is

-- Files.

file_under : (id : FileId) (bytes : List ℕ) → Each (λ (r : PlacedRecord). AreItemsBelow (2 ^ 64 - 1) r.batch) (readable_records id bytes)
file_under id bytes = each_of (λ (r : PlacedRecord). AreItemsBelow (2 ^ 64 - 1) r.batch) (readable_records id bytes) (λ r is.
    let read = read_in id bytes r is in
    record_under read.signature (drop r.at bytes) r.batch r.len (found_record read.signature bytes r.at r read.is).is)

abbrev AreUnder : List FileBatch → Type 0
AreUnder numbered = Each (λ (b : FileBatch). AreItemsBelow (2 ^ 64 - 1) b.1) numbered

numbered_under : (seq : ℕ) (rs : List PlacedRecord) → Each (λ (r : PlacedRecord). AreItemsBelow (2 ^ 64 - 1) r.batch) rs → AreUnder (in_file seq (map (λ (r : PlacedRecord). r.batch) rs))
numbered_under seq [] each = tt
numbered_under seq (r ∷ rs) each = (each.0, numbered_under seq rs each.1)

files_under : (queue : LogQueue) (n : Directory) (files : List (ℕ × Path)) → AreUnder (numbered_of queue n files)
files_under queue n [] = tt
files_under queue n (f ∷ files) =
    let id = in_queue queue f.0 in
    let bytes = bytes_at f.1 n in
    each_append (λ (b : FileBatch). AreItemsBelow (2 ^ 64 - 1) b.1) (in_file f.0 (readable_batches id bytes)) (numbered_of queue n files) (numbered_under f.0 (readable_records id bytes) (file_under id bytes)) (files_under queue n files)

batches_under : (numbered : List FileBatch) → AreUnder numbered → AreItemsBelow (2 ^ 64 - 1) (items_of (batches_of numbered))
batches_under [] each = tt
batches_under (b ∷ numbered) each = each_append (λ (i : Item). IsContentBelow (2 ^ 64 - 1) i.content) b.1 (items_of (batches_of numbered)) each.0 (batches_under numbered each.1)

appended_under : (s : PurgedLog) → AreItemsBelow (2 ^ 64 - 1) (items_of (batches_of (batches_by_file Append s.pipes s.files)))
appended_under s =
    let p = s.pipes.append in
    let sealed = files_from p.first (sealed_paths p) in
    let bytes = written_bytes p.writer s.files in
    batches_under (batches_by_file Append s.pipes s.files) (each_append (λ (b : FileBatch). AreItemsBelow (2 ^ 64 - 1) b.1) (numbered_of p.queue s.files sealed) (in_file (last_seq p) (readable_batches (last_file p) bytes))
    (files_under p.queue s.files sealed) (numbered_under (last_seq p) (readable_records (last_file p) bytes) (file_under (last_file p) bytes)))

-- Contents.

with_under : (bound : ℕ) (old new : List Entry) → Each (λ (e : Entry). e.0 < bound) old → Each (λ (e : Entry). e.0 < bound) new → Each (λ (e : Entry). e.0 < bound) (with_entries old new)
with_under bound old [] is_old is_new = is_old
with_under bound old (e ∷ es) is_old is_new = at (is_next_to old e.0)
  where
    at : (b : Bool) → Each (λ (x : Entry). x.0 < bound) (cond b (entries_below e.0 old ++ e ∷ es) (e ∷ es))
    at true = each_append (λ (x : Entry). x.0 < bound) (entries_below e.0 old) (e ∷ es) (each_filter (λ (x : Entry). x.0 < bound) (λ x. nat_lt x.0 e.0) old is_old) is_new
    at false = is_new

replay_under : (bound : ℕ) (x : Contents) (appended : List Batch) → HasIndexesBelow bound x → AreItemsBelow bound (items_of appended) → HasIndexesBelow bound (replay x appended)
replay_under bound x appended under more group =
    with_under bound (filter (λ e. leaves appended group e.0) (x.entries group)) ((after_batches no_contents appended).entries group)
    (each_filter (λ (e : Entry). e.0 < bound) (λ e. leaves appended group e.0) (x.entries group) (under group)) (batches_below bound appended more group)

-- A log.

pub log_named : (s : PurgedLog) (v : LogValue) → IsLog s v → AreByQueue s.pipes
log_named s v held = held_named s.pipes v.folders v.contents [] (λ q. AreIndexedBy s.index.renewal s.pipes s.index v.known s.files q) s.files held.log

pub log_has : (s : PurgedLog) (v : LogValue) → IsLog s v → HasBothBlocks s.pipes s.files (both_blocks_now s.pipes s.files)
log_has s v held queue = both_have_blocks s.pipes queue (log_named s v held queue) s.files

-- without what a renewal says
pub plain_log : (s : PurgedLog) (v : LogValue) → IsLog s v → IsLog (log_of s.pipes s.index.tables s.index.owed s.index.groups s.files) v
plain_log s v held = record {
  log = ∥∥₁_map held.log (λ x. let h = x.2 in (x.0, x.1, record { queues = h.queues; stands = h.stands; since_are = h.since_are; has = h.has; more = indexed_by s.pipes s.index v.known s.files h.queues s.index.renewal h.more }));
  pipes = held.pipes;
}

-- the tables hold its contents
pub log_contents : (s : PurgedLog) (v : LogValue) → IsLog s v → contents_in (both_blocks_now s.pipes s.files) s.index.tables ≡ v.contents
log_contents s v held =
    (log_stands s.pipes s.index.tables s.index.owed s.index.groups v.folders v.known s.files (both_blocks_now s.pipes s.files) (log_has s v held) v.contents [] (plain_log s v held).log).contents

-- no entry has the greatest index
pub log_below : (s : PurgedLog) (v : LogValue) → IsLog s v → (group : ℕ) (e : Entry) → Contains (v.contents.entries group) e → e.0 < 2 ^ 64 - 1
log_below s v held group e is = ∥∥₁_elim (plain_log s v held).log (hlevel props) (λ x.
    let now = both_blocks_now s.pipes s.files in
    let numbered = batches_by_file Append s.pipes s.files in
    let standing = (x.2.more.indexed now (log_has s v held)).standing in
    let under = replay_under (2 ^ 64 - 1) (effect (rewrites x.2.queues)) (batches_of numbered) (held_below now numbered s.index.owed s.index.tables x.2.queues standing) (appended_under s) group in
    each_contained (λ (y : Entry). y.0 < 2 ^ 64 - 1) (v.contents.entries group) e
    (subst (λ (m : Contents). Each (λ (y : Entry). y.0 < 2 ^ 64 - 1) (m.entries group)) (sym standing.stand.contents ∙ log_contents s v held) under) is)
