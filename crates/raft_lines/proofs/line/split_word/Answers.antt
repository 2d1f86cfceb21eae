use Rattle.std.proofs.Common.{◌≡◌, arith, false, true}
use Rattle.raft_lines.specs.Line.{is_word}
use Rattle.raft_lines.proofs.LineLemmas.{last_word, next_word, no_first_word, space_at_end}
use Rattle.raft_lines.proofs.line.split_word.Goals as goal

pub returns-then-not-is_word : goal.returns-then-not-is_word
returns-then-not-is_word c = record {
  value = no_first_word c.args.text.now c.split_at.result.0.now c.split_at.result.1.now c.word_len.result c.word_len.ensures.value c.split_at.ensures.front c.split_at.ensures.back
      (let no : is_word c.split_at.result.0.now ≡ false = cc in no);
}

pub returns-in-empty : goal.returns-in-empty
returns-in-empty c = record {
  value = last_word c.args.text.now c.split_at.result.0.now c.split_at.result.1.now c.word_len.result c.word_len.ensures.value c.split_at.ensures.front c.split_at.ensures.back
      (let yes : is_word c.split_at.result.0.now ≡ true = cc in yes) (omega (arith, c.in-empty.len_below));
}

pub returns-in-len1 : goal.returns-in-len1
returns-in-len1 c = record {
  value = space_at_end c.args.text.now c.split_at.result.0.now c.split_at.result.1.now c.word_len.result c.word_len.ensures.value c.split_at.ensures.front c.split_at.ensures.back
      (let yes : is_word c.split_at.result.0.now ≡ true = cc in yes) (omega (arith, c.in-len1.len_at_least, c.in-len1.len_below));
}

pub returns-in-len1-up : goal.returns-in-len1-up
returns-in-len1-up c = record {
  value = next_word c.args.text.now c.split_at.result.0.now c.split_at.result.1.now c.word_len.result c.word_len.ensures.value c.split_at.ensures.front c.split_at.ensures.back
      (let yes : is_word c.split_at.result.0.now ≡ true = cc in yes) (let more = c.in-len1-up.len_at_least in grind (arith, more));
}
