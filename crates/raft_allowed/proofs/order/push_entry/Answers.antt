use Rattle.std.proofs.Common.{◌≡◌, ◌∙◌, ℕ, true, false, refl, rules, sym}
use Rattle.std.specs.Prelude.{Vec}
use Rattle.std.specs.declared.alloc.Global.{Global}
use Rattle.std.proofs.lemmas.List.{map-append}
use Rattle.raft_records.specs.Item.{Entry}
use Rattle.raft_log_engine.specs.Image.{entries_of}
use Rattle.raft_allowed.specs.Held.{is_within}
use Rattle.raft_allowed.proofs.LoopLemmas.{push_none, push_one}
use Rattle.raft_allowed.proofs.order.push_entry.Goals as goal

pub returns-then-not-is_within : goal.returns-then-not-is_within
returns-then-not-is_within c =
    push_none (λ (e : Entry). is_within c.args.from c.args.to e.0) (c.args.entry.now.0, c.args.entry.now.1.items) (entries_of c.args.into.now.items) (sym c.is_within.ensures ∙ c.if-not-is_within.true)

pub returns : goal.returns
returns c =
    let copied : c.in_ok-bytes.bytes.items ≡ c.args.entry.now.1.items = search rules in
    push_one (λ (e : Entry). is_within c.args.from c.args.to e.0) (c.args.entry.now.0, c.args.entry.now.1.items) (entries_of c.args.into.now.items) (entries_of c.push.new.self.items) (sym c.is_within.ensures ∙ c.if-not-is_within.false)
    (rw (c.in_ok-push.ensures.items, map-append {B = Entry} (λ (e : ℕ × Vec ℕ Global). (e.0, e.1.items)) c.args.into.now.items _, copied) refl)
