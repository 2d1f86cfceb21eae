use Rattle.std.proofs.Common.{◌≡◌, ◌∙◌, ap, get_or, sym, subst}
use Rattle.std.specs.Prelude.{MatchOption}
use Rattle.std.proofs.lemmas.Result.{err_from_is_err_and}
use Rattle.raft_base.specs.declared.pipe_log.LogQueue.TheVariants.{Append}
use Rattle.raft_once.specs.Numbers.{shown}
use Rattle.raft_records.specs.Places.{Blocks}
use Rattle.raft_tables.specs.Tables.{contents_in, tables_of}
use Rattle.raft_log_engine.specs.Image.{IsGroupImageOf, IsWithout}
use Rattle.raft_entry_blocks.specs.Reader.{blocks_of}
use Rattle.raft_entry_blocks.proofs.ReaderLemmas.{blocks_still, has_still, reads_more, reads_nothing, refusal_then}
use Rattle.raft_log_engine.proofs.HiddenLemmas.{shown_without}
use Rattle.raft_log_engine.proofs.ImageLemmas.{building_begun, building_ended, building_with, building_without, holds_nothing}
use Rattle.raft_log_engine.proofs.engine.image.image_of.Goals as goal
use Rattle.raft_log_engine.proofs.engine.image.image_of.Goals.{in-Some+in_ok-push, in_default}

pub loop-group-init : goal.loop-group-init
loop-group-init g c =
    let named = c.in_ok-named.ensures in
    let blocks = blocks_of c.args.reader.now in
    let tables = c.args.tables.now in
    let m = contents_in blocks (tables_of tables) in
    record {
      reads = reads_nothing c.args.reader.now;
      building = rw (c.new-groups.ensures.items, c.deref-group-items.ensures.value) (building_begun (shown m) c.in_ok-named.named.items named.sorted (λ group none. shown_without m group (holds_nothing blocks tables group (sym (named.value group) ∙ none))));
    }

pub group_image-requires-clause-readable : goal.group_image-requires-clause-readable
group_image-requires-clause-readable g c = λ lifetimes order blocks has.
    c.requires.readable blocks (has_still c.args.reader.now c.loop-group.reader c.loop-group.invariant.reads blocks has)

pub returns-in_err-image-clause-cause : goal.returns-in_err-image-clause-cause
returns-in_err-image-clause-cause g c =
    let p = err_from_is_err_and c.from_residual-in_err-image.result c.from_residual-in_err-image.ensures.1 in
    rw (p.1, p.2) (refusal_then c.args.reader.now c.loop-group.reader c.loop-group.invariant.reads c.group_image.new.reader c.in_err-image.field-0.0 c.in_err-image.ensures.cause)

pub loop-group-preserved : goal.loop-group-preserved
loop-group-preserved g c =
    let tables = c.args.tables.now in
    let inv = c.loop-group.invariant in
    let items = c.deref-group-items.result.now in
    let i = c.loop-group.group-index in
    let m = shown (contents_in (blocks_of c.args.reader.now) (tables_of tables)) in
    let value = subst (λ (b : Blocks). MatchOption c.in_ok-image.field-0 (IsWithout (shown (contents_in b (tables_of tables))) (get_or items i 0))
    (λ image. (image.group ≡ get_or items i 0) × IsGroupImageOf (shown (contents_in b (tables_of tables))) image)) (blocks_still c.args.reader.now c.loop-group.reader inv.reads) c.in_ok-image.ensures.value in
    record {
      reads = reads_more c.args.reader.now c.loop-group.reader inv.reads c.group_image.new.reader c.in_ok-image.ensures.unchanged;
      building = elim c.match-branch-3.branch [
        | in-Some+in_ok-push w ↦
            let one = rw w.in-Some.is at value in
            rw (ap (λ v. v.items) w.groups-is, w.in_ok-push.ensures.items) (building_with m c.loop-group.groups.items w.in-Some.image items i c.loop-group-test.true inv.building one.0 one.1)
        | in_default w ↦
            let none = rw w.in_default.is at value in
            rw (ap (λ v. v.items) w.groups-is) (building_without m c.loop-group.groups.items items i c.loop-group-test.true inv.building none)
      ];
    }

pub returns-clause-value : goal.returns-clause-value
returns-clause-value g c =
    building_ended (shown (contents_in (blocks_of c.args.reader.now) (tables_of c.args.tables.now))) c.loop-group.groups.items c.deref-group-items.result.now c.loop-group.group-index c.loop-group-test.false c.loop-group.invariant.building

-- there was no memory
pub returns-in_err-push-clause-cause : goal.returns-in_err-push-clause-cause
returns-in_err-push-clause-cause g c =
    let p = err_from_is_err_and c.from_residual-in_err-push.result c.from_residual-in_err-push.ensures.1 in
    rw (p.1, p.2) (Append, tt)
