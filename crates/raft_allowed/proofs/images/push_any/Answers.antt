use Rattle.std.proofs.Common.{◌≡◌, ◌∙◌, true, false, refl, sym}
use Rattle.std.proofs.lemmas.List.{append-nil, map-append}
use Rattle.raft_allowed.specs.Held.{group_with_held, held_in, held_of, is_nothing}
use Rattle.raft_allowed.proofs.images.push_any.Goals as goal

pub returns-then-has_nothing : goal.returns-then-has_nothing
returns-then-has_nothing c =
    let none : is_nothing (held_in c.args.image) ≡ true = sym c.has_nothing.ensures ∙ c.if-has_nothing.true in
    rw none (sym (append-nil (held_of c.args.groups.now.items)))

pub returns : goal.returns
returns c =
    let some : is_nothing (held_in c.args.image) ≡ false = sym c.has_nothing.ensures ∙ c.if-has_nothing.false in
    rw (some, c.in_ok-push.ensures.items, map-append group_with_held c.args.groups.now.items _) refl
