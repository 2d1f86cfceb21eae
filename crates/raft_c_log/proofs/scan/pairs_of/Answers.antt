use Rattle.std.proofs.Common.{rules, ◌≡◌, ◌∙◌, ◌++◌, ◌⊎◌, ℕ, List, Option, Some, true, false, refl, ap, subst, sym, ⊎_elim, inl, inr, length}
use Rattle.raft_c_batch.specs.Batch.{part_bytes}
use Rattle.raft_c_batch.specs.Parts.{pairs_bytes}
use Rattle.raft_c_log.specs.Limit.{IsLeft, IsOneLess, limited, max_of}
use Rattle.raft_c_log.specs.declared.scan.Pairs.{Pairs}
use Rattle.raft_log_engine.specs.Engine.{contents_of}
use Rattle.raft_log_engine.specs.Image.{IsWithout}
use Rattle.raft_log_engine.proofs.HiddenLemmas.{shown_without}
use Rattle.raft_c_log.proofs.RefusalLemmas.{stands}
use Rattle.raft_c_log.proofs.ScanLemmas.{Pair, kept_by, left_all, left_more, limited_all, limited_first, none_handed, pairs_more}
use Rattle.raft_c_log.proofs.scan.pairs_of.Goals as goal

kept_as : (limit : Option ℕ) (kept pairs : List Pair) (bytes : List ℕ) → bytes ≡ pairs_bytes kept → limited limit pairs ≡ kept → bytes ≡ pairs_bytes (limited limit pairs)
kept_as limit kept pairs bytes is first = is ∙ ap pairs_bytes (sym first)

pub returns-then-pairs-clause-value : goal.returns-then-pairs-clause-value
returns-then-pairs-clause-value g c =
    let ran = c.in_default.ensures.value in
    let limit = max_of c.args.scan.limit in
    let met = kept_by ran
    (λ from xs f. (f.0.ghost_name ≡ from.0.ghost_name) × (f.0.now.bytes.items ≡ pairs_bytes xs) × IsLeft limit (length xs) f.0.now.left)
    (λ from xs f. (f.0.ghost_name ≡ from.0.ghost_name)
    × ((f.0.now.is_whole ≡ false) ⊎ ((f.0.now.bytes.items ≡ pairs_bytes xs) × IsLeft limit (length xs) (Some 0))))
    (refl, c.new-pairs.ensures.value.0, left_all limit _ c.new-pairs.ensures.value.2)
    (λ from xs f key value next j k.
    let added : next.0.now.bytes.items ≡ f.0.now.bytes.items ++ (part_bytes k.first.now ++ part_bytes k.second.now) = search rules in
    let less : IsOneLess f.0.now.left next.0.now.left = search rules in (
      search rules,
      added ∙ (λ i. j.1 i ++ (part_bytes (k.shows.0 i) ++ part_bytes (k.shows.1 i))) ∙ sym (pairs_more xs key value),
      left_more limit _ _ xs (key, value) j.2 less,
    ))
    (λ from xs f key value next j k.
    let full : (next.0.now.is_whole ≡ false) ⊎ ((f.0.now.left ≡ Some 0) × (next.0.now ≡ f.0.now)) = search rules in (
      search rules,
      ⊎_elim (λ broken. inl broken)
          (λ stops. inr (ap (λ (p : Pairs). p.bytes.items) stops.1 ∙ j.1, subst (λ (left : Option ℕ). IsLeft limit (length xs) left) stops.0 j.2)) full,
    )) in
    ⊎_elim
    (λ good. record {
      pairs = ran.pairs;
      scanned = ran.scan;
      bytes = kept_as limit ran.pairs ran.pairs _ (let kept = good.0 in let all = good.1 in search rules) (limited_all limit _ ran.pairs good.2);
    })
    (λ bad. ⊎_elim
    (λ broken. let kept = bad.3.0 in let clash : true ≡ false = search rules in absurd cc)
    (λ stops. record {
      pairs = ran.pairs;
      scanned = ran.scan;
      bytes = kept_as limit bad.0 ran.pairs _ (let kept = bad.3.0 in let all = stops.0 in search rules) (ap (limited limit) bad.2 ∙ limited_first limit bad.0 bad.1 stops.1);
    })
    bad.3.1) met

pub returns-else-pairs-clause-cause : goal.returns-else-pairs-clause-cause
returns-else-pairs-clause-cause g c =
    let ran = c.in_default.ensures.value in
    let some : IsWithout (contents_of c.args.engine.now) c.args.scan.group → ⊥ = λ without.
    let handed = none_handed (λ from f. (f.0.ghost_name ≡ from.0.ghost_name) × (f.0.now.is_whole ≡ true)) ran (shown_without (contents_of c.args.engine.now) c.args.scan.group without).1 (refl, c.new-pairs.ensures.value.1) in
    let kept = handed.0 in let whole = handed.1 in let clash : true ≡ false = search rules in absurd cc in
    inr (stands c.in_default.ensures.failed, (some, refl))
