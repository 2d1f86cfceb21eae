use Rattle.std.proofs.Common.{◌≡◌, ◌≢◌, ◌-◌, ◌<◌, [], length, rules, slice_index, take}
use Rattle.raft_lines.proofs.LineReadingLemmas.{line_with_end, line_without_end}
use Rattle.raft_lines.proofs.program.read_line.Goals as goal

pub returns-then-eq : goal.returns-then-eq
returns-then-eq g c = record {
  line =
      let old = c.clear.new.self.items in
      let read = c.read_until.new.buf.items in
      let some : 0 < length read = search rules in
      let empty : old ≡ [] = search rules in
      let newline : slice_index read (length read - 1) ≡ 10 = search rules in
      let line : c.pop.new.self.items ≡ take (length read - 1) read = search rules in
      line_with_end _ _ old read empty c.in_ok-read_until.ensures.bytes c.in_ok-read_until.ensures.rest some newline _ line;
}

pub returns-else-eq : goal.returns-else-eq
returns-else-eq g c = record {
  line =
      let old = c.clear.new.self.items in
      let read = c.read_until.new.buf.items in
      let some : 0 < length read = search rules in
      let empty : old ≡ [] = search rules in
      let other : slice_index read (length read - 1) ≢ 10 = λ newline. search rules in
      line_without_end _ _ old read empty c.in_ok-read_until.ensures.bytes c.in_ok-read_until.ensures.rest some other;
}
