use Rattle.std.proofs.Common.{◌≡◌, ◌<◌, ◌≤◌, ◌∙◌, ◌*◌, ◌+◌, ◌-◌, ◌^◌, None, arith, get_or, length, rules, sym, true}
use Rattle.std.specs.Char.{is_ascii_digit}
use Rattle.raft_script.proofs.NumberLemmas.{number_ends, number_over}
use Rattle.raft_script.proofs.number.number_of.Goals as goal

pub returns-in_err-checked_mul : goal.returns-in_err-checked_mul
returns-in_err-checked_mul c = record {
  value =
      let word = c.args.word.now in
      let i = c.loop-byte.byte-index in
      let within : i < length word = search rules in
      let digit : is_ascii_digit (get_or word i 0) ≡ true = cc in
      let low : 48 ≤ get_or word i 0 = search rules in
      let high : get_or word i 0 ≤ 57 = search rules in
      let over : 2 ^ 64 ≤ c.loop-byte.number * 10 = search rules in
      let none : c.from_residual.result ≡ None = search rules in
      none ∙ sym (number_over word i c.loop-byte.number within digit low high (omega (arith, over))) ∙ c.loop-byte.invariant.1;
}

pub returns-in_err-number : goal.returns-in_err-number
returns-in_err-number c = record {
  value =
      let word = c.args.word.now in
      let i = c.loop-byte.byte-index in
      let within : i < length word = search rules in
      let digit : is_ascii_digit (get_or word i 0) ≡ true = cc in
      let low : 48 ≤ get_or word i 0 = search rules in
      let high : get_or word i 0 ≤ 57 = search rules in
      let over : 2 ^ 64 ≤ c.loop-byte.number * 10 + (get_or word i 0 - 48) = search rules in
      let none : c.from_residual-in_err-number.result ≡ None = search rules in
      none ∙ sym (number_over word i c.loop-byte.number within digit low high over) ∙ c.loop-byte.invariant.1;
}

pub returns : goal.returns
returns c = record {
  value =
      let word = c.args.word.now in
      let i = c.loop-byte.byte-index in
      let past : length word ≤ i = search rules in
      sym (number_ends word i c.loop-byte.number past c.loop-byte.invariant.0) ∙ c.loop-byte.invariant.1;
}
