use Rattle.std.proofs.Common.{◌≡◌, ◌∙◌, ◌<◌, ap, arith, get_or, length, map, refl, sym}
use Rattle.std.proofs.Math.ListN.{get_or-map}
use Rattle.std.proofs.lemmas.Bool.{false≢true}
use Rattle.std.proofs.lemmas.List.{length-map}
use Rattle.std.proofs.lemmas.List.Elements.{All-map}
use Rattle.raft_shared.specs.History.{Event}
use Rattle.raft_shared.specs.Settled.{seats_with}
use Rattle.raft_shared.specs.Words.{event_of}
use Rattle.raft_shared.proofs.settled.are_settled.Goals as goal

pub returns-then-count_with-ne1 : goal.returns-then-count_with-ne1
returns-then-count_with-ne1 c =
    let trail = c.args.trail.now in
    let k = c.loop-recorded.recorded-index in
    let one = c.recorded-item.result in
    record {
      value = (
        (λ t. absurd (false≢true t)),
        (λ a.
            let within : k < length (map event_of trail) = omega (arith, length-map trail event_of, c.loop-recorded-test.true, c.loop-recorded.auto.recorded-index-end) in
            let at : get_or (map event_of trail) k (event_of one) ≡ event_of one = get_or-map event_of trail k one ∙ ap event_of (sym c.recorded-item.is) in
            let owned : seats_with one.seat c.args.seats.now ≡ 1 = ap (λ (e : Event). seats_with e.seat c.args.seats.now) (sym at) ∙ a.owned k (event_of one) within in
            absurd (c.if-count_with-ne1.true (c.count_with.ensures.value ∙ owned))),
      );
    }

pub returns : goal.returns
returns c =
    let trail = c.args.trail.now in
    let seats = c.loop-recorded.invariant.0 in
    let owned = c.loop-recorded.invariant.1 in
    record {
      value = (
        (λ t. record {
          receipts = seats;
          owned = All-map (λ (e : Event). seats_with e.seat c.args.seats.now ≡ 1) event_of trail (λ k d within. owned k d (omega arith) (omega (arith, within, c.loop-recorded-test.false, c.loop-recorded.auto.recorded-index-end)));
        }),
        (λ a. refl),
      );
    }
