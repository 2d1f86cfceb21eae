use Rattle.std.proofs.Common.{◌≡◌, ◌∙◌, ◌+◌, ◌++◌, ◌∷◌, [], List, ℕ, Vec, Global, ap, arith, sym, append_assoc, append-nil}
use Rattle.std.proofs.lemmas.List.{length-map, map-append}
use Rattle.std.proofs.lemmas.Result.{err_from_is_err_and}
use Rattle.raft_base.specs.declared.pipe_log.LogQueue.TheVariants.{Append}
use Rattle.raft_records.specs.Item.{Entry}
use Rattle.raft_records.specs.Places.{Blocks, bytes_in, entries_in}
use Rattle.raft_tables.specs.EntryTable.{places_of}
use Rattle.raft_tables.specs.PackedPlace.{unpacked}
use Rattle.raft_tables.specs.Table.{table_of}
use Rattle.raft_log_engine.specs.Image.{entries_of}
use Rattle.raft_entry_blocks.specs.Reader.{blocks_of}
use Rattle.raft_log_engine.specs.Reads.{entries_between}
use Rattle.raft_records.specs.ItemBatch.{is_readable_at}
use Rattle.raft_entry_blocks.proofs.ReaderLemmas.{blocks_still, has_still, reads_more, reads_nothing, refusal_then}
use Rattle.raft_log_engine.proofs.NumberedLemmas.{between_none, ends_of, no_last, placed_all, placed_skip, placed_step}
use Rattle.raft_log_engine.proofs.PlacedLemmas.{found_holds}
use Rattle.raft_log_engine.proofs.engine.image.group_entries.Goals as goal
use Rattle.raft_log_engine.proofs.engine.image.group_entries.Goals.{in-Some-entry+in_ok-bytes+in_ok-push, in_default-entry}

listed_more : (items : List (ℕ × Vec ℕ Global)) (i : ℕ) (v : Vec ℕ Global) (bytes : List ℕ) (rest now all : List Entry) → v.items ≡ bytes → now ≡ (i, bytes) ∷ rest → entries_of items ++ now ≡ all → entries_of (items ++ (i, v) ∷ []) ++ rest ≡ all
listed_more items i v bytes rest now all is step listed =
    ap (λ es. es ++ rest) (map-append (λ (e : ℕ × Vec ℕ Global). (e.0, e.1.items)) items ((i, v) ∷ []))
    ∙ append_assoc (entries_of items) ((i, v.items) ∷ []) rest
    ∙ ap (λ bs. entries_of items ++ ((i, bs) ∷ rest)) is
    ∙ ap (λ es. entries_of items ++ es) (sym step)
    ∙ listed

pub returns-in_default-last_index-clause-ok : goal.returns-in_default-last_index-clause-ok
returns-in_default-last_index-clause-ok g c =
    let t = c.args.table.now in
    let none = no_last t.entries.first (places_of t.entries) (sym c.in_default-last_index.ensures.value) in
    ap entries_of c.new-entries.ensures.items ∙ ap (entries_in (blocks_of c.args.reader.now)) (sym none)

pub overflow_add-index-end : goal.overflow_add-index-end
overflow_add-index-end g c =
    let t = c.args.table.now in
    let ends = ends_of t.entries.first c.in-Some.first c.in-Some-last_index.last (places_of t.entries) (sym c.in-Some.ensures.value) (sym c.in-Some-last_index.ensures.value) in
    omega (arith, ends.1, t.entries.bounded, length-map t.entries.places.items unpacked)

pub loop-index-init : goal.loop-index-init
loop-index-init g c =
    let t = c.args.table.now in
    let ends = ends_of t.entries.first c.in-Some.first c.in-Some-last_index.last (places_of t.entries) (sym c.in-Some.ensures.value) (sym c.in-Some-last_index.ensures.value) in
    record {
      reads = reads_nothing c.args.reader.now;
      listed = rw c.new-entries.ensures.items (placed_all (blocks_of c.args.reader.now) c.in-Some.first (c.in-Some-last_index.last + 1) t.entries.first (places_of t.entries) (omega (arith, ends.0)) (omega (arith, ends.1)));
    }

pub read-requires-clause-readable : goal.read-requires-clause-readable
read-requires-clause-readable g c = λ lifetimes order blocks has.
    found_holds (is_readable_at blocks) _ (table_of c.args.table.now).entries c.in-Some-entry.place (c.requires.readable blocks (has_still c.args.reader.now c.loop-index.reader c.loop-index.invariant.reads blocks has)) (sym c.in-Some-entry.ensures.value)

pub returns-in_err-bytes-clause-cause : goal.returns-in_err-bytes-clause-cause
returns-in_err-bytes-clause-cause g c =
    let p = err_from_is_err_and c.from_residual.result c.from_residual.ensures.1 in
    rw (p.1, p.2) (refusal_then c.args.reader.now c.loop-index.reader c.loop-index.invariant.reads c.read.new.self c.in_err-bytes.field-0.0 c.in_err-bytes.ensures.cause)

pub loop-index-preserved : goal.loop-index-preserved
loop-index-preserved g c =
    let blocks = blocks_of c.args.reader.now in
    let t = c.args.table.now in
    let end = c.in-Some-last_index.last + 1 in
    let inv = c.loop-index.invariant in
    let all = entries_in blocks (table_of t).entries in
    elim c.match-entry.branch [
      | in-Some-entry+in_ok-bytes+in_ok-push w ↦
          let place = w.in-Some-entry.place in
          let step = placed_step blocks c.loop-index.index end t.entries.first (places_of t.entries) place (sym w.in-Some-entry.ensures.value) c.loop-index-test.true in
          let read = w.in_ok-bytes.ensures.ok ∙ ap (λ (b : Blocks). bytes_in b place) (blocks_still c.args.reader.now c.loop-index.reader inv.reads) in
          record {
            reads = rw w.reader-is (reads_more c.args.reader.now c.loop-index.reader inv.reads w.read.new.self w.in_ok-bytes.ensures.unchanged);
            listed = rw (ap (λ v. v.items) w.entries-is, w.in_ok-push.ensures.items) (listed_more c.loop-index.entries.items c.loop-index.index w.in_ok-bytes.bytes (bytes_in blocks place) (entries_between (c.loop-index.index + 1) end all) (entries_between c.loop-index.index end all) all read step inv.listed);
          }
      | in_default-entry w ↦
          let skip = placed_skip blocks c.loop-index.index end (table_of t).entries (sym w.in_default-entry.ensures.value) in
          record {
            reads = rw w.reader-is inv.reads;
            listed = rw (ap (λ v. v.items) w.entries-is) (ap (λ es. entries_of c.loop-index.entries.items ++ es) (sym skip) ∙ inv.listed);
          }
    ]

pub returns-clause-ok : goal.returns-clause-ok
returns-clause-ok g c =
    let all = entries_in (blocks_of c.args.reader.now) (table_of c.args.table.now).entries in
    let none = between_none c.loop-index.index (c.in-Some-last_index.last + 1) all c.loop-index-test.false in
    sym (append-nil (entries_of c.loop-index.entries.items)) ∙ ap (λ es. entries_of c.loop-index.entries.items ++ es) (sym none) ∙ c.loop-index.invariant.listed

-- there was no memory
pub returns-in_err-push-clause-cause : goal.returns-in_err-push-clause-cause
returns-in_err-push-clause-cause g c =
    let p = err_from_is_err_and c.from_residual-in_err-push.result c.from_residual-in_err-push.ensures.1 in
    rw (p.1, p.2) (Append, tt)
