use Rattle.std.proofs.Common.{rules, ◌≡◌, ◌∙◌, ◌++◌, ◌∷◌, [], ℕ, List, Option, Bool, true, false, refl, ap, subst, sym, ⊎_elim}
use Rattle.raft_tables.specs.Listing.{IsListing, listed}
use Rattle.raft_log_engine.specs.Engine.{has_failed}
use Rattle.raft_log_engine.proofs.ScanLemmas.{scanned_by}
use Rattle.raft_lines.proofs.scan.pairs_of.Goals as goal

listing_as : (value_of : List ℕ → Option (List ℕ)) (pairs copies : List (List ℕ × List ℕ)) → copies ≡ pairs → IsListing value_of pairs → IsListing value_of copies
listing_as value_of pairs copies same = subst (IsListing value_of) (sym same)

by_not : (b : Bool) → (b ≡ true → ⊥) → b ≡ false
by_not true never = absurd (never refl)
by_not false never = refl

pub returns-then-copies : goal.returns-then-copies
returns-then-copies g c =
    let ran = c.in_default.ensures.value in
    let met = scanned_by ran (λ from xs f. (f.0.ghost_name ≡ from.0.ghost_name) × (listed f.0.now.pairs.items ≡ xs))
    (λ from f. (f.0.ghost_name ≡ from.0.ghost_name) × (f.0.now.is_whole ≡ false)) (refl, ap listed c.new.ensures.items)
    (λ from xs f key value next j k.
    let added : listed next.0.now.pairs.items ≡ listed f.0.now.pairs.items ++ (k.first.now, k.second.now) ∷ [] = search rules in
    (search rules, added ∙ (λ i. j.1 i ++ (k.shows.0 i, k.shows.1 i) ∷ [])))
    (λ from xs f key value next j k. search rules) in
    let stands : has_failed c.args.engine.now ≡ false = by_not (has_failed c.args.engine.now) (λ yes. let clash = c.in_default.ensures.failed.1 yes in absurd cc) in
    ⊎_elim (λ good. record { value = (stands, listing_as _ ran.pairs _ (let kept = good.0 in let all = good.1 in search rules) ran.scan) })
    (λ bad. let kept = bad.0 in let whole = bad.1 in let clash : true ≡ false = search rules in absurd cc) met
