use Rattle.std.proofs.Common.{◌≡◌, ◌∙◌, ℕ, true, false, ap, refl, rules, sym, List}
use Rattle.std.specs.Prelude.{Vec}
use Rattle.std.specs.Cmp.Lexicographic.{slice_cmp}
use Rattle.std.specs.Option.{option_copied}
use Rattle.std.specs.Ordering.{nat_cmp}
use Rattle.std.specs.declared.alloc.Global.{Global}
use Rattle.std.proofs.lemmas.List.{map-append}
use Rattle.raft_tables.specs.Listing.{listed}
use Rattle.raft_allowed.specs.Held.{is_between}
use Rattle.raft_allowed.proofs.LoopLemmas.{push_none, push_one}
use Rattle.raft_allowed.proofs.order.push_pair.Goals as goal

pub returns-then-not-is_key_between : goal.returns-then-not-is_key_between
returns-then-not-is_key_between c =
    push_none (λ (p : List ℕ × List ℕ). is_between (slice_cmp nat_cmp) (option_copied c.args.after) (option_copied c.args.before) p.0) (c.args.pair.now.0.items, c.args.pair.now.1.items) (listed c.args.into.now.items)
    (ap (is_between (slice_cmp nat_cmp) (option_copied c.args.after) (option_copied c.args.before)) (sym c.deref.ensures.value) ∙ sym c.is_key_between.ensures ∙ c.if-not-is_key_between.true)

pub returns : goal.returns
returns c =
    let key : c.in_ok-key.key.items ≡ c.args.pair.now.0.items = search rules in
    let value : c.in_ok-value.value.items ≡ c.args.pair.now.1.items = search rules in
    push_one (λ (p : List ℕ × List ℕ). is_between (slice_cmp nat_cmp) (option_copied c.args.after) (option_copied c.args.before) p.0) (c.args.pair.now.0.items, c.args.pair.now.1.items) (listed c.args.into.now.items) (listed c.push.new.self.items)
    (ap (is_between (slice_cmp nat_cmp) (option_copied c.args.after) (option_copied c.args.before)) (sym c.deref.ensures.value) ∙ sym c.is_key_between.ensures ∙ c.if-not-is_key_between.false)
    (rw (c.in_ok-push.ensures.items, map-append {B = List ℕ × List ℕ} (λ (p : Vec ℕ Global × Vec ℕ Global). (p.0.items, p.1.items)) c.args.into.now.items _, key, value) refl)
