use Rattle.std.proofs.Common.{◌≡◌, length, get_or, arith}
use Rattle.std.proofs.lemmas.Grind.{common_steps}
use Rattle.raft_script.proofs.EntryLemmas.{empty_decimal, number_found, zero_decimal}
use Rattle.raft_script.proofs.text_entry.parse_index.Goals as goal
use Rattle.raft_script.proofs.text_entry.parse_index.Goals.{else-digits-gt1-via-then-digits-gt1+else-digits-eq48, else-digits-gt1-via-else-digits-gt1}

pub returns-then-is_empty : goal.returns-then-is_empty
returns-then-is_empty c = record { value = empty_decimal c.args.digits.now (let none : length c.args.digits.now ≡ 0 = grind (arith, common_steps) in none) }

pub returns-then-digits-eq48 : goal.returns-then-digits-eq48
returns-then-digits-eq48 c = record { value = zero_decimal c.args.digits.now (omega arith) (let first : get_or c.args.digits.now 0 0 ≡ 48 = grind (arith, common_steps) in first) }

pub returns : goal.returns
returns c = record {
  value =
      let digits = c.args.digits.now in
      let lead : get_or digits 0 0 ≡ 48 → length digits ≡ 1 = λ first. elim c.else-digits-gt1.branch [
        | else-digits-gt1-via-then-digits-gt1+else-digits-eq48 w ↦ grind (arith, common_steps)
        | else-digits-gt1-via-else-digits-gt1 w ↦ grind (arith, common_steps)
      ] in
      number_found digits c.number_of.result c.number_of.ensures.value (grind (arith, common_steps)) lead;
}
