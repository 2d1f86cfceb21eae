-- The records that a search may sum.
use Rattle.std.proofs.Common.{◌≡◌, ◌∙◌, ℕ, ◌+◌, ◌<◌, List, length, drop, ap, sym}
use Rattle.std.proofs.lemmas.List.{drop_more}
use Rattle.raft_dump.specs.Stale.{headed_len, headed_lens}

-- from a place on they are the one there and those behind it
pub headed_step : (bytes : List ℕ) (at : ℕ) → at < length bytes → headed_lens (drop at bytes) ≡ headed_len (drop at bytes) + headed_lens (drop (at + 1) bytes)
headed_step bytes at within =
    let first = drop_more bytes at 0 within in
    ap headed_lens first ∙ ap (λ (b : List ℕ). headed_len b + headed_lens (drop (at + 1) bytes)) (sym first)
