use Rattle.std.proofs.Common.{◌∙◌, ℕ, true, false, refl, sym}
use Rattle.std.specs.Ordering.{nat_cmp}
use Rattle.std.proofs.lemmas.List.{map-append}
use Rattle.raft_allowed.specs.Held.{Held, group_with_held, held_of, is_between}
use Rattle.raft_allowed.proofs.LoopLemmas.{push_none, push_one}
use Rattle.raft_allowed.proofs.groups.push_group.Goals as goal

pub returns-then-not-is_group_between : goal.returns-then-not-is_group_between
returns-then-not-is_group_between c =
    push_none (λ (g : ℕ × Held). is_between nat_cmp c.args.after c.args.before g.0) (group_with_held c.args.image.now) (held_of c.args.into.now.items) (sym c.is_group_between.ensures ∙ c.if-not-is_group_between.true)

pub returns : goal.returns
returns c =
    push_one (λ (g : ℕ × Held). is_between nat_cmp c.args.after c.args.before g.0) (group_with_held c.args.image.now) (held_of c.args.into.now.items) (held_of c.push.new.self.items) (sym c.is_group_between.ensures ∙ c.if-not-is_group_between.false)
    (rw (c.in_ok-push.ensures.items, map-append group_with_held c.args.into.now.items _, c.in_ok-copy.ensures) refl)
