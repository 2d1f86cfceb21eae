use Rattle.std.proofs.Common.{◌≡◌, ◌∙◌, ◌∷◌, ap, false, rules, subst, sym, take}
use Rattle.std.specs.Prelude.{is_some, OnOk}
use Rattle.std.specs.Map.{lookup}
use Rattle.raft_entry_blocks.specs.Recent.{KeptBlocks, is_handle}
use Rattle.raft_entry_blocks.proofs.LruLemmas.{put_first}
use Rattle.raft_entry_blocks.proofs.recent_blocks.RecentBlocks.put.Goals.{in-Some, in-None}
use Rattle.raft_entry_blocks.proofs.recent_blocks.RecentBlocks.put.Goals as goal

pub returns-clause-ok : goal.returns-clause-ok
returns-clause-ok c =
    let handle = c.args.handle in
    let none : is_some (lookup (is_handle handle) c.self.inside.blocks.entries) ≡ false = ap (λ (k : KeptBlocks). is_some (lookup (is_handle handle) k)) c.self.view_is ∙ c.requires.missing in
    let is : c.push.new.self.entries ≡ (handle, c.args.bytes) ∷ take 15 c.args.self.now =
    ap (λ x. x.entries) c.in_ok-bytes.ensures.entries ∙ put_first handle c.args.bytes c.self.inside.blocks c.self.invariant none
    ∙ ap (λ (old : KeptBlocks). (handle, c.args.bytes) ∷ take 15 old) c.self.view_is in
    elim c.match-branch-2.branch [ in-Some w ↦ rw w.result-is is | in-None w ↦ rw w.result-is is ]
