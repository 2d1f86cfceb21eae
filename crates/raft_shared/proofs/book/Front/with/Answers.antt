use Rattle.std.proofs.Common.{◌≡◌, ◌∙◌, ap, length, sym}
use Rattle.std.proofs.lemmas.List.{length-map}
use Rattle.raft_shared.specs.Words.{event_of}
use Rattle.raft_shared.proofs.Adding.{adds_moves}
use Rattle.raft_shared.proofs.book.Front.with.Goals as goal

pub compare_exchange-found-requires : goal.compare_exchange-found-requires
compare_exchange-found-requires g c =
    let h = c.args.book.now.head_is in
    let again = c.again-seen.ensures in
    let offer = c.plain-offer.ensures in
    let pen = c.no_pen-pen.ensures in
    let book = ap (λ s. s.book) again ∙ (c.self.invariant.1 ∙ sym (ap (λ w. w.book) h)) in
    let calls : length c.again-seen.result.log ≡ c.self.inside.calls = ap (λ s. length s.log) again ∙ (sym (length-map c.self.inside.seen.log event_of) ∙ sym c.self.invariant.0) in (
      ap (λ w. w.tracked) h,
      book,
      pen.0 ∙ book,
      offer.0,
      rw (ap (λ w. w.key) h, pen.1, offer.1, offer.3) (adds_moves c.again-seen.result.log c.args.call.now c.self.inside.calls calls),
    )
