use Rattle.std.proofs.Common.{◌≡◌, ◌∙◌, [], List, ℕ, true, false, Option, ap, arith, eqb-true, length, refl, sym, subst}
use Rattle.std.proofs.lemmas.Bool.{eqb-false}
use Rattle.std.proofs.lemmas.List.{nil_from_length}
use Rattle.std.specs.Map.{lookup}
use Rattle.std.specs.Str.{bytes_eq}
use Rattle.raft_once.specs.Numbers.{shown}
use Rattle.raft_records.specs.Places.{entries_in}
use Rattle.raft_tables.specs.Listing.{IsListing, listed}
use Rattle.raft_tables.specs.Table.{TableView, value_at}
use Rattle.raft_tables.specs.Tables.{contents_in, or_empty, tables_of}
use Rattle.raft_log_engine.specs.Image.{entries_of}
use Rattle.raft_log_engine.specs.Reads.{are_readable_at}
use Rattle.raft_entry_blocks.specs.Reader.{blocks_of}
use Rattle.raft_log_engine.proofs.HiddenLemmas.{shown_listing, shown_without}
use Rattle.raft_log_engine.proofs.engine.image.group_image.Goals as goal
use Rattle.raft_log_engine.proofs.engine.image.group_image.Goals.{else-is_empty-via-then-is_empty+else-is_empty-2, else-is_empty-via-else-is_empty}

pub returns-in_default-clause-value : goal.returns-in_default-clause-value
returns-in_default-clause-value g c =
    let blocks = blocks_of c.args.reader.now in
    shown_without (contents_in blocks (tables_of c.args.tables.now)) c.args.group (c.in_default.ensures.none blocks)

pub group_entries-requires-clause-readable : goal.group_entries-requires-clause-readable
group_entries-requires-clause-readable g c = λ lifetimes order blocks has.
    subst (λ (o : Option TableView). are_readable_at blocks (or_empty o).entries ≡ true) c.in-Some.ensures.value (c.requires.readable blocks has c.args.group)

pub returns-then-is_empty-2-clause-value : goal.returns-then-is_empty-2-clause-value
returns-then-is_empty-2-clause-value g c =
    let blocks = blocks_of c.args.reader.now in
    let m = contents_in blocks (tables_of c.args.tables.now) in
    let is = c.in-Some.ensures.value in
    let entries = c.in_ok-entries.ensures.ok ∙ ap (λ (o : Option TableView). entries_in blocks (or_empty o).entries) (sym is) in
    let keys = subst (λ (o : Option TableView). IsListing (value_at (or_empty o)) (listed c.in_ok-pairs.pairs.items)) (sym is) c.in_ok-pairs.ensures.value in
    let left = subst (IsListing ((shown m).value c.args.group)) (sym c.hide_copied_number.ensures.value) (shown_listing m c.args.group (listed c.in_ok-pairs.pairs.items) keys) in
    let no_entries : c.in_ok-entries.entries.items ≡ [] = nil_from_length c.in_ok-entries.entries.items (omega (arith, c.in_ok-entries.entries.ok, eqb-true c.in_ok-entries.entries.len 0 (sym c.is_empty.ensures ∙ c.if-is_empty.true))) in
    let pairs = c.hide_copied_number.new.pairs in
    let no_pairs : c.hide_copied_number.new.pairs.items ≡ [] = nil_from_length pairs.items (omega (arith, pairs.ok, eqb-true pairs.len 0 (sym c.is_empty-then-is_empty.ensures ∙ c.if-is_empty-2.true))) in
    (sym entries ∙ ap entries_of no_entries, λ key. sym (left.value key) ∙ ap (λ ps. lookup (bytes_eq key) (listed ps)) no_pairs)

pub returns-clause-value : goal.returns-clause-value
returns-clause-value g c =
    let blocks = blocks_of c.args.reader.now in
    let m = contents_in blocks (tables_of c.args.tables.now) in
    let is = c.in-Some.ensures.value in
    let entries = c.in_ok-entries.ensures.ok ∙ ap (λ (o : Option TableView). entries_in blocks (or_empty o).entries) (sym is) in
    let keys = subst (λ (o : Option TableView). IsListing (value_at (or_empty o)) (listed c.in_ok-pairs.pairs.items)) (sym is) c.in_ok-pairs.ensures.value in
    let left = subst (IsListing ((shown m).value c.args.group)) (sym c.hide_copied_number.ensures.value) (shown_listing m c.args.group (listed c.in_ok-pairs.pairs.items) keys) in (
      refl,
      record {
        entries = entries;
        keys = left;
        some = λ no_entries no_pairs. elim c.else-is_empty.branch [
          | else-is_empty-via-then-is_empty+else-is_empty-2 w ↦
              let pairs = c.hide_copied_number.new.pairs in
              absurd (eqb-false pairs.len 0 (sym w.is_empty-then-is_empty.ensures ∙ w.if-is_empty-2.false) (omega (arith, pairs.ok, ap length no_pairs)))
          | else-is_empty-via-else-is_empty w ↦
              let all = c.in_ok-entries.entries in
              absurd (eqb-false all.len 0 (sym c.is_empty.ensures ∙ w.if-is_empty.false) (omega (arith, all.ok, ap length no_entries)))
        ];
      },
    )
