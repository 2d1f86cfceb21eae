use Rattle.std.proofs.Common.{◌≡◌, ◌∙◌, true, false, refl, sym}
use Rattle.std.specs.Str.{bytes_eq}
use Rattle.raft_records.specs.Item.{group_mark_key}
use Rattle.raft_allowed.proofs.groups.with_put.Goals as goal

pub returns-then-is_mark : goal.returns-then-is_mark
returns-then-is_mark c =
    let mark : bytes_eq c.args.key.now group_mark_key ≡ true = sym c.is_mark.ensures ∙ c.if-is_mark.true in
    rw (mark, c.in_ok-image.ensures) refl

pub returns : goal.returns
returns c =
    let plain : bytes_eq c.args.key.now group_mark_key ≡ false = sym c.is_mark.ensures ∙ c.if-is_mark.false in
    rw (plain, c.in_ok-image-2.ensures, c.in_ok-pairs.ensures, c.deref.ensures.value) refl
