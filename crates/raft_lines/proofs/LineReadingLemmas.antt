-- The lines of a text, read one by one.
use Rattle.std.proofs.Common.{◌≡◌, ◌≢◌, ℕ, suc, ◌+◌, ◌-◌, ◌<◌, ◌==◌, ◌++◌, Bool, true, false, cond, List, [], ◌∷◌, length, take, slice_index, Option, Some, None, refl, sym, ◌∙◌, ap, subst, arith}
use Rattle.std.specs.Prelude.{IfSome, ◌||◌, is_none, is_some}
use Rattle.std.specs.Io.BufRead.{DropsThrough, drop_through, take_through}
use Rattle.std.specs.List.{onto_first}
use Rattle.std.proofs.lemmas.Bool.{eqb-false, eqb-true}
use Rattle.raft_lines.specs.Line.{EndsAt, EndsOn, GoesOnOrEnds, IsNextLine, IsReading, IsServed, asked_in, asks, first_bad, first_bad_line, is_asked, is_bad, lines_in}
use Rattle.raft_lines.specs.Settings.{text_set}
use Rattle.raft_lines.specs.declared.program.Ended.{Ended}
use Rattle.raft_lines.specs.declared.program.Ended.TheVariants as ended

last-cons : (c : ℕ) (r : List ℕ) → 0 < length r → slice_index (c ∷ r) (length (c ∷ r) - 1) ≡ slice_index r (length r - 1)
last-cons c r some = let e : length (c ∷ r) - 1 ≡ suc (length r - 1) = omega arith in ap (slice_index (c ∷ r)) e

but_last-cons : (c : ℕ) (r : List ℕ) → 0 < length r → take (length (c ∷ r) - 1) (c ∷ r) ≡ c ∷ take (length r - 1) r
but_last-cons c r some = let e : length (c ∷ r) - 1 ≡ suc (length r - 1) = omega arith in ap (λ n. take n (c ∷ r)) e

-- what is read up to a newline is the next line, with the newline or without one
record IsLineRead (text : List ℕ) (read : List ℕ) : Type 0 where
  pub some : 0 < length read
  pub ended : slice_index read (length read - 1) ≡ 10 → lines_in text ≡ take (length read - 1) read ∷ lines_in (drop_through 10 text)
  pub unended : slice_index read (length read - 1) ≢ 10 → lines_in text ≡ read ∷ lines_in (drop_through 10 text)

line_read : (c : ℕ) (cs : List ℕ) → IsLineRead (c ∷ cs) (take_through 10 (c ∷ cs))
line_read c [] = by_test (c == 10) refl
  where
    by_test : (b : Bool) → (c == 10) ≡ b → IsLineRead (c ∷ []) (cond b (c ∷ []) (c ∷ []))
    by_test true e = record {
      some = omega arith;
      ended = λ _. ap (λ b. cond b ([] ∷ []) ((c ∷ []) ∷ [])) e ∙ sym (ap (λ b. [] ∷ lines_in (cond b [] [])) e);
      unended = λ other. absurd (other (eqb-true c 10 e));
    }
    by_test false e = record {
      some = omega arith;
      ended = λ newline. absurd (eqb-false c 10 e newline);
      unended = λ _. ap (λ b. cond b ([] ∷ []) ((c ∷ []) ∷ [])) e ∙ sym (ap (λ b. (c ∷ []) ∷ lines_in (cond b [] [])) e);
    }
line_read c (d ∷ ds) = by_test (c == 10) refl (line_read d ds)
  where
    by_test : (b : Bool) → (c == 10) ≡ b → IsLineRead (d ∷ ds) (take_through 10 (d ∷ ds)) → IsLineRead (c ∷ d ∷ ds) (cond b (c ∷ []) (c ∷ take_through 10 (d ∷ ds)))
    by_test true e rest = record {
      some = omega arith;
      ended = λ _. ap (λ b. cond b ([] ∷ lines_in (d ∷ ds)) (onto_first c (lines_in (d ∷ ds)))) e ∙ sym (ap (λ b. [] ∷ lines_in (cond b (d ∷ ds) (drop_through 10 (d ∷ ds)))) e);
      unended = λ other. absurd (other (eqb-true c 10 e));
    }
    by_test false e rest =
        let read = take_through 10 (d ∷ ds) in
        let lines = λ (b : Bool). cond b ([] ∷ lines_in (d ∷ ds)) (onto_first c (lines_in (d ∷ ds))) in
        let left = λ (line : List ℕ). sym (ap (λ b. line ∷ lines_in (cond b (d ∷ ds) (drop_through 10 (d ∷ ds)))) e) in
        record {
          some = omega arith;
          ended = λ newline. ap lines e ∙ ap (onto_first c) (rest.ended (sym (last-cons c read rest.some) ∙ newline)) ∙ ap (λ l. l ∷ lines_in (drop_through 10 (d ∷ ds))) (sym (but_last-cons c read rest.some)) ∙ left (take (length (c ∷ read) - 1) (c ∷ read));
          unended = λ other. ap lines e ∙ ap (onto_first c) (rest.unended (λ newline. other (last-cons c read rest.some ∙ newline))) ∙ left (c ∷ read);
        }

module _ (known left : Option (List ℕ)) (old read : List ℕ) (empty : old ≡ []) (bytes : IfSome known (λ text. read ≡ old ++ take_through 10 text)) (rest : DropsThrough known left 10) (some : 0 < length read) where
  found : (line : List ℕ) → ((text : List ℕ) → IsLineRead text read → lines_in text ≡ line ∷ lines_in (drop_through 10 text)) → IfSome known (λ text. IsNextLine true text line left)
  found line next = by_known known bytes rest
    where
      by_text : (text : List ℕ) → read ≡ old ++ take_through 10 text → left ≡ Some (drop_through 10 text) → IsNextLine true text line left
      by_text [] e is = absurd (omega (arith, some, ap length (e ∙ ap (λ o. o ++ []) empty)))
      by_text (c ∷ cs) e is = (drop_through 10 (c ∷ cs), is, next (c ∷ cs) (subst (IsLineRead (c ∷ cs)) (sym (e ∙ ap (λ o. o ++ take_through 10 (c ∷ cs)) empty)) (line_read c cs)))

      by_known : (k : Option (List ℕ)) → IfSome k (λ text. read ≡ old ++ take_through 10 text) → DropsThrough k left 10 → IfSome k (λ text. IsNextLine true text line left)
      by_known None e is = tt
      by_known (Some text) e is = by_text text e is

  pub line_with_end : slice_index read (length read - 1) ≡ 10 → (line : List ℕ) → line ≡ take (length read - 1) read → IfSome known (λ text. IsNextLine true text line left)
  line_with_end newline line is = found line (λ text next. next.ended newline ∙ ap (λ l. l ∷ lines_in (drop_through 10 text)) (sym is))

  pub line_without_end : slice_index read (length read - 1) ≢ 10 → IfSome known (λ text. IsNextLine true text read left)
  line_without_end other = found read (λ text next. next.unended other)

-- The program at a line.

-- at the first one
pub reading_begun : (known : Option (List ℕ)) (asked : Bool) → asked ≡ false → IsReading known known 1 asked
reading_begun None asked none = tt
reading_begun (Some text) asked none = (text, refl, ap (λ (b : Bool). first_bad b 1 (lines_in text)) (sym none))

module _ (known left after : Option (List ℕ)) (line : List ℕ) (number : ℕ) (asked : Bool) (reading : IsReading known left number asked) where
  -- there is none left
  ends_done : IfSome left (λ text. IsNextLine false text line after) → IfSome known (λ text. EndsOn text ended.Done)
  ends_done none = by_known known reading
    where
      by_known : (k : Option (List ℕ)) → IsReading k left number asked → IfSome k (λ text. EndsOn text ended.Done)
      by_known None reading = tt
      by_known (Some text) (rest, left_is, same) =
          let empty : rest ≡ [] = subst (λ (o : Option (List ℕ)). IfSome o (λ text. IsNextLine false text line after)) left_is none in
          same ∙ ap (λ r. first_bad asked number (lines_in r)) empty

  module _ (next : IfSome left (λ text. IsNextLine true text line after)) where
    found_next : (rest : List ℕ) → left ≡ Some rest → IsNextLine true rest line after
    found_next rest left_is = subst (λ (o : Option (List ℕ)). IfSome o (λ text. IsNextLine true text line after)) left_is next

    -- it goes on after the line
    reads_on : (then_asked : Bool) → is_bad asked line ≡ false → then_asked ≡ (asked || asks line) → IsReading known after (number + 1) then_asked
    reads_on then_asked good then_is = by_known known reading
      where
        by_known : (k : Option (List ℕ)) → IsReading k left number asked → IsReading k after (number + 1) then_asked
        by_known None reading = tt
        by_known (Some text) (rest, left_is, same) =
            let found = found_next rest left_is in
            let others = lines_in found.0 in (
              found.0,
              found.1,
              same ∙ ap (first_bad asked number) found.2
                  ∙ ap (λ (b : Bool). cond b (Some number) (first_bad (asked || asks line) (number + 1) others)) good
                  ∙ ap (λ (a : Bool). first_bad a (number + 1) others) (sym then_is),
            )

    -- it ends there
    ends_at : (how : Ended) → EndsAt (is_bad asked line) number how → IfSome known (λ text. EndsOn text how)
    ends_at how ends = by_known known reading
      where
        by_how : (text rest : List ℕ) (how : Ended) → EndsAt (is_bad asked line) number how → first_bad_line text ≡ first_bad asked number (line ∷ lines_in rest) → EndsOn text how
        by_how text rest ended.Done ends same = absurd ends
        by_how text rest (ended.BadLine told) (told_is, bad) same =
            same ∙ ap (λ (b : Bool). cond b (Some number) (first_bad (asked || asks line) (number + 1) (lines_in rest))) bad ∙ ap Some (sym told_is)
        by_how text rest _ ends same = tt

        by_known : (k : Option (List ℕ)) → IsReading k left number asked → IfSome k (λ text. EndsOn text how)
        by_known None reading = tt
        by_known (Some text) (rest, left_is, same) =
            let found = found_next rest left_is in
            by_how text found.0 how ends (same ∙ ap (first_bad asked number) found.2)

    -- one of both
    served : (then_asked : Bool) (r : Option Ended) → IsServed (is_bad asked line) (asked || asks line) number then_asked r → GoesOnOrEnds known after number then_asked r
    served then_asked None on = reads_on then_asked on.0 on.1
    served then_asked (Some how) ends = ends_at how ends

-- .. where a line was found, or none
module _ (known left after : Option (List ℕ)) (line : List ℕ) (number : ℕ) (asked : Bool) (reading : IsReading known left number asked) (found : Bool) (next : IfSome left (λ text. IsNextLine found text line after)) where
  next_is : (is : Bool) → found ≡ is → IfSome left (λ text. IsNextLine is text line after)
  next_is is same = subst (λ (b : Bool). IfSome left (λ text. IsNextLine b text line after)) same next

  pub found_served : found ≡ true → (text : List ℕ) → text ≡ line → (then_asked : Bool) (r : Option Ended) → IsServed (is_bad asked text) (asked || asks text) number then_asked r → GoesOnOrEnds known after number then_asked r
  found_served is text same then_asked r so = served known left after line number asked reading (next_is true is) then_asked r (subst (λ (l : List ℕ). IsServed (is_bad asked l) (asked || asks l) number then_asked r) same so)

  pub none_found : found ≡ false → IfSome known (λ text. EndsOn text ended.Done)
  none_found is = ends_done known left after line number asked reading (next_is false is)

-- nothing is said of a text whose lines weren't read to their end
pub ends_early : (known : Option (List ℕ)) → IfSome known (λ text. EndsOn text ended.Input)
ends_early None = tt
ends_early (Some text) = tt

or_false : (b : Bool) → (b || false) ≡ b
or_false true = refl
or_false false = refl

-- a line that sets something, and another one
module _ (line : List ℕ) (asked : Bool) (number : ℕ) (then_asked : Bool) (r : Option Ended) where
  pub set_served : (set : List ℕ) → text_set line ≡ Some set → IsServed asked asked number then_asked r → IsServed (is_bad asked line) (asked || asks line) number then_asked r
  set_served set is so =
      let bad : is_bad asked line ≡ asked = ap (λ (o : Option (List ℕ)). cond (is_some o) asked (is_none (asked_in line))) is in
      let none : asks line ≡ false = ap (λ (o : Option (List ℕ)). cond (is_some o) false (is_asked (asked_in line))) is in
      let same : (asked || asks line) ≡ asked = ap (λ (b : Bool). asked || b) none ∙ or_false asked in
      subst (λ (b : Bool). IsServed b (asked || asks line) number then_asked r) (sym bad) (subst (λ (b : Bool). IsServed asked b number then_asked r) (sym same) so)

  pub other_served : text_set line ≡ None → IsServed (is_none (asked_in line)) (asked || is_asked (asked_in line)) number then_asked r → IsServed (is_bad asked line) (asked || asks line) number then_asked r
  other_served is so =
      let bad : is_bad asked line ≡ is_none (asked_in line) = ap (λ (o : Option (List ℕ)). cond (is_some o) asked (is_none (asked_in line))) is in
      let same : asks line ≡ is_asked (asked_in line) = ap (λ (o : Option (List ℕ)). cond (is_some o) false (is_asked (asked_in line))) is in
      subst (λ (b : Bool). IsServed b (asked || asks line) number then_asked r) (sym bad) (subst (λ (b : Bool). IsServed (is_none (asked_in line)) (asked || b) number then_asked r) (sym same) so)
