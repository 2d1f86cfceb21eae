-- What the words of a line are, one by one.
use Rattle.std.proofs.Common.{◌≡◌, ℕ, ◌+◌, ◌-◌, ◌<◌, ◌≤◌, ◌==◌, ◌&&◌, not, nat_lt, Bool, true, false, cond, List, [], ◌∷◌, length, take, drop, Option, Some, None, refl, sym, ◌∙◌, ap, arith}
use Rattle.std.specs.Prelude.{codes, option_and_then, option_map}
use Rattle.std.specs.List.{list_all, onto_first, position_or_len, slice_split}
use Rattle.std.proofs.lemmas.Bool.Decides.{nat_tests}
use Rattle.std.proofs.lemmas.List.{drop-drop, drop_all, length-drop, take_all}
use Rattle.std.proofs.lemmas.List.Splits.{slice_split_first}
use Rattle.raft_lines.specs.Line.{BeginsWith, Delete, Get, Groups, HasNoWord, Put, asked_of_group, if_last, delete_by, get_by, is_word, put_by, sync_by, torn_by, with_number, words_in}
use Rattle.raft_script.specs.Number.{number_in}
use Rattle.raft_lines.specs.declared.line.CrashChoice.{CrashChoice}
use Rattle.raft_lines.specs.declared.line.CrashChoice.TheVariants.{Torn}

-- Words.

abbrev pub is_space : ℕ → Bool
is_space b = b == 32

-- a text without a space is one part
split_alone : (text : List ℕ) → length text ≤ position_or_len is_space text → slice_split is_space text ≡ text ∷ []
split_alone [] past = refl
split_alone (c ∷ cs) past = by_test (is_space c) refl (split_alone cs)
  where
    by_test : (b : Bool) → is_space c ≡ b → (length cs ≤ position_or_len is_space cs → slice_split is_space cs ≡ cs ∷ []) → slice_split is_space (c ∷ cs) ≡ (c ∷ cs) ∷ []
    by_test true e rest = let none : position_or_len is_space (c ∷ cs) ≡ 0 = ap (λ b. cond (not b) (1 + position_or_len is_space cs) 0) e in absurd (omega (arith, past, none))
    by_test false e rest =
        let more : position_or_len is_space (c ∷ cs) ≡ 1 + position_or_len is_space cs = ap (λ b. cond (not b) (1 + position_or_len is_space cs) 0) e in
        ap (λ b. cond b ([] ∷ slice_split is_space cs) (onto_first c (slice_split is_space cs))) e ∙ ap (onto_first c) (rest (omega (arith, past, more)))

-- the parts of a text that isn't empty
abbrev checked : List (List ℕ) → Option (List (List ℕ))
checked parts = cond (list_all is_word parts) (Some parts) None

words_of_parts : (text : List ℕ) (parts : List (List ℕ)) → 0 < length text → slice_split is_space text ≡ parts → words_in text ≡ checked parts
words_of_parts [] parts some e = absurd (omega (arith, some))
words_of_parts (c ∷ cs) parts some e = ap checked e

checked-cons : (word : List ℕ) (parts : List (List ℕ)) → is_word word ≡ true → checked (word ∷ parts) ≡ option_map (λ words. word ∷ words) (checked parts)
checked-cons word parts e = ap (λ b. cond (b && list_all is_word parts) (Some (word ∷ parts)) None) e ∙ by_test (list_all is_word parts)
  where
    by_test : (b : Bool) → cond b (Some (word ∷ parts)) None ≡ option_map (λ words. word ∷ words) (cond b (Some parts) None)
    by_test true = refl
    by_test false = refl

-- what is cut off at the first space, if there is one
module _ (text word rest : List ℕ) (len : ℕ) (len_is : len ≡ position_or_len is_space text) (word_is : word ≡ take len text) (rest_is : rest ≡ drop len text) where
  parts_to_end : length text ≤ len → slice_split is_space text ≡ word ∷ []
  parts_to_end past = split_alone text (omega (arith, past, len_is)) ∙ ap (λ w. w ∷ []) (sym (word_is ∙ take_all len text past))

  parts_after : len < length text → slice_split is_space text ≡ word ∷ slice_split is_space (drop (len + 1) text)
  parts_after within =
      slice_split_first is_space text 0 (omega (arith, within, len_is))
      ∙ ap (λ n. take n text ∷ slice_split is_space (drop (n + 1) text)) (sym len_is)
      ∙ ap (λ w. w ∷ slice_split is_space (drop (len + 1) text)) (sym word_is)

  some_text : is_word word ≡ true → 0 < length text
  some_text e = by_text text word_is
    where
      by_text : (t : List ℕ) → word ≡ take len t → 0 < length t
      by_text [] w = let empty : is_word word ≡ false = ap is_word (w ∙ take_all len [] (omega arith)) in let both : true ≡ false = sym e ∙ empty in cc
      by_text (c ∷ cs) w = omega arith

  pub no_first_word : is_word word ≡ false → HasNoWord text
  no_first_word bad = λ first words found. by_length (nat_lt len (length text)) refl first words found
    where
      none_of : (parts : List (List ℕ)) → slice_split is_space text ≡ word ∷ parts → (first : List ℕ) (words : List (List ℕ)) → words_in text ≡ Some (first ∷ words) → ⊥
      none_of parts e first words found = by_text text e found
        where
          by_text : (t : List ℕ) → slice_split is_space t ≡ word ∷ parts → words_in t ≡ Some (first ∷ words) → ⊥
          by_text [] e found = cc
          by_text (c ∷ cs) e found =
              let none : words_in (c ∷ cs) ≡ None = ap checked e ∙ ap (λ b. cond (b && list_all is_word parts) (Some (word ∷ parts)) None) bad in
              let both : None ≡ Some (first ∷ words) = sym none ∙ found in cc

      by_length : (b : Bool) → nat_lt len (length text) ≡ b → (first : List ℕ) (words : List (List ℕ)) → words_in text ≡ Some (first ∷ words) → ⊥
      by_length true e = none_of _ (parts_after (grind (arith, nat_tests)))
      by_length false e = none_of [] (parts_to_end (grind (arith, nat_tests)))

  pub last_word : is_word word ≡ true → length rest ≡ 0 → BeginsWith text word rest
  last_word e none =
      let past : length text ≤ len = omega (arith, none, ap length rest_is, length-drop len text) in
      let empty : rest ≡ [] = rest_is ∙ drop_all len text past in
      words_of_parts text (word ∷ []) (some_text e) (parts_to_end past) ∙ checked-cons word [] e ∙ ap (λ r. option_map (λ words. word ∷ words) (words_in r)) (sym empty)

  pub space_at_end : is_word word ≡ true → length rest ≡ 1 → HasNoWord text
  space_at_end e one = λ first words found.
      let within : len < length text = omega (arith, one, ap length rest_is, length-drop len text) in
      let empty : drop (len + 1) text ≡ [] = drop_all (len + 1) text (omega (arith, one, ap length rest_is, length-drop len text)) in
      let none : words_in text ≡ None = words_of_parts text (word ∷ [] ∷ []) (some_text e) (parts_after within ∙ ap (λ r. word ∷ slice_split is_space r) empty) ∙ checked-cons word ([] ∷ []) e in
      let both : None ≡ Some (first ∷ words) = sym none ∙ found in cc

  pub next_word : is_word word ≡ true → 2 ≤ length rest → BeginsWith text word (take (length rest - 1) (drop 1 rest))
  next_word e more =
      let within : len < length text = omega (arith, more, ap length rest_is, length-drop len text) in
      let behind : take (length rest - 1) (drop 1 rest) ≡ drop (len + 1) text = take_all (length rest - 1) (drop 1 rest) (omega (arith, length-drop 1 rest)) ∙ ap (drop 1) rest_is ∙ drop-drop 1 len text in
      let some : 0 < length (drop (len + 1) text) = omega (arith, more, ap length rest_is, length-drop len text, length-drop (len + 1) text) in
      words_of_parts text (word ∷ slice_split is_space (drop (len + 1) text)) (some_text e) (parts_after within)
      ∙ checked-cons word (slice_split is_space (drop (len + 1) text)) e
      ∙ ap (option_map (λ words. word ∷ words)) (sym (words_of_parts (drop (len + 1) text) (slice_split is_space (drop (len + 1) text)) some refl))
      ∙ ap (λ r. option_map (λ words. word ∷ words) (words_in r)) (sym behind)

-- Words after a number.

module _ {T : Type 0} (text : List ℕ) (asked : ℕ → List (List ℕ) → Option T) where
  pub without_number : ((word : List ℕ) (words : List (List ℕ)) → words_in text ≡ Some (word ∷ words) → number_in word ≡ None) → option_and_then (with_number asked) (words_in text) ≡ None
  without_number none = by_words (words_in text) refl
    where
      by_words : (found : Option (List (List ℕ))) → words_in text ≡ found → option_and_then (with_number asked) found ≡ None
      by_words None e = refl
      by_words (Some []) e = refl
      by_words (Some (word ∷ words)) e = ap (option_and_then (λ n. asked n words)) (none word words e)

  pub after_number : (word rest : List ℕ) (n : ℕ) → number_in word ≡ Some n → BeginsWith text word rest → option_and_then (with_number asked) (words_in text) ≡ option_and_then (asked n) (words_in rest)
  after_number word rest n is begins = ap (option_and_then (with_number asked)) begins ∙ by_words (words_in rest)
    where
      by_words : (found : Option (List (List ℕ))) → option_and_then (with_number asked) (option_map (λ words. word ∷ words) found) ≡ option_and_then (asked n) found
      by_words None = refl
      by_words (Some words) = ap (option_and_then (λ k. asked k words)) is

-- what is asked of the words that follow
pub map-and_then : {T U : Type 0} (f : T → U) (by : List (List ℕ) → Option T) (found : Option (List (List ℕ))) → option_and_then (λ words. option_map f (by words)) found ≡ option_map f (option_and_then by found)
map-and_then f by None = refl
map-and_then f by (Some words) = refl

-- Lines whose group is no number.

module _ (text : List ℕ) (none : (word : List ℕ) (words : List (List ℕ)) → words_in text ≡ Some (word ∷ words) → number_in word ≡ None) where
  pub put_without_group : option_and_then put_by (words_in text) ≡ None
  put_without_group = by_words (words_in text) refl
    where
      by_words : (found : Option (List (List ℕ))) → words_in text ≡ found → option_and_then put_by found ≡ None
      by_words None e = refl
      by_words (Some []) e = refl
      by_words (Some (group ∷ [])) e = refl
      by_words (Some (group ∷ key ∷ [])) e = refl
      by_words (Some (group ∷ key ∷ value ∷ words)) e = ap (option_and_then (λ g. option_map (λ sync. Put g key value sync) (sync_by words))) (none group (key ∷ value ∷ words) e)

  pub delete_without_group : option_and_then delete_by (words_in text) ≡ None
  delete_without_group = by_words (words_in text) refl
    where
      by_words : (found : Option (List (List ℕ))) → words_in text ≡ found → option_and_then delete_by found ≡ None
      by_words None e = refl
      by_words (Some []) e = refl
      by_words (Some (group ∷ [])) e = refl
      by_words (Some (group ∷ key ∷ words)) e = ap (option_and_then (λ g. option_map (λ sync. Delete g key sync) (sync_by words))) (none group (key ∷ words) e)

  pub get_without_group : option_and_then get_by (words_in text) ≡ None
  get_without_group = by_words (words_in text) refl
    where
      by_words : (found : Option (List (List ℕ))) → words_in text ≡ found → option_and_then get_by found ≡ None
      by_words None e = refl
      by_words (Some []) e = refl
      by_words (Some (group ∷ [])) e = refl
      by_words (Some (group ∷ key ∷ words)) e = ap (option_and_then (λ g. if_last (Get g key) words)) (none group (key ∷ words) e)

  pub torn_without_kept : option_and_then torn_by (words_in text) ≡ None
  torn_without_kept = by_words (words_in text) refl
    where
      by_words : (found : Option (List (List ℕ))) → words_in text ≡ found → option_and_then torn_by found ≡ None
      by_words None e = refl
      by_words (Some []) e = refl
      by_words (Some (kept ∷ [])) e = refl
      by_words (Some (kept ∷ fill ∷ words)) e = ap (option_and_then (λ k. option_and_then (λ f. cond (nat_lt f 256) (if_last (Torn k f) words) None) (number_in fill))) (none kept (fill ∷ words) e)

  -- .. where this text stands after a word
  pub torn_without_fill : (whole kept : List ℕ) → BeginsWith whole kept text → option_and_then torn_by (words_in whole) ≡ None
  torn_without_fill whole kept begins = ap (option_and_then torn_by) begins ∙ by_words (words_in text) refl
    where
      by_kept : (o : Option ℕ) → option_and_then {T = ℕ} {U = CrashChoice} (λ k. None) o ≡ None
      by_kept None = refl
      by_kept (Some k) = refl

      by_words : (found : Option (List (List ℕ))) → words_in text ≡ found → option_and_then torn_by (option_map (λ words. kept ∷ words) found) ≡ None
      by_words None e = refl
      by_words (Some []) e = refl
      by_words (Some (fill ∷ words)) e = ap (λ n. option_and_then (λ k. option_and_then (λ f. cond (nat_lt f 256) (if_last (Torn k f) words) None) n) (number_in kept)) (none fill words e) ∙ by_kept (number_in kept)

-- What stands alone.

pub something_follows : {T : Type 0} (x : T) (found : Option (List (List ℕ))) → option_and_then (if_last {T = Unit {0}} tt) found ≡ None → option_and_then (if_last x) found ≡ None
something_follows x None e = refl
something_follows x (Some []) e = cc
something_follows x (Some (word ∷ words)) e = refl

pub nothing_follows : {T : Type 0} (x : T) (found : Option (List (List ℕ))) → option_and_then (if_last {T = Unit {0}} tt) found ≡ Some tt → option_and_then (if_last x) found ≡ Some x
nothing_follows x None e = cc
nothing_follows x (Some []) e = refl
nothing_follows x (Some (word ∷ words)) e = cc

-- where a text begins with this word, that asks for one thing where nothing follows
pub begins_to : {T : Type 0} (asked : List (List ℕ) → Option T) (x : T) (text word rest code : List ℕ) → BeginsWith text word rest → word ≡ code → ((words : List (List ℕ)) → asked (code ∷ words) ≡ if_last x words) → option_and_then asked (words_in text) ≡ option_and_then (if_last x) (words_in rest)
begins_to asked x text word rest code begins is same = ap (option_and_then asked) begins ∙ ap (λ w. option_and_then asked (option_map (λ words. w ∷ words) (words_in rest))) is ∙ by_words (words_in rest)
  where
    by_words : (found : Option (List (List ℕ))) → option_and_then asked (option_map (λ words. code ∷ words) found) ≡ option_and_then (if_last x) found
    by_words None = refl
    by_words (Some words) = same words

pub asked_groups : (verb : List ℕ) (found : Option (List (List ℕ))) → verb ≡ codes "groups" → option_and_then (λ words. asked_of_group verb words) found ≡ option_and_then (if_last Groups) found
asked_groups verb found e = ap (λ v. option_and_then (λ words. asked_of_group v words) found) e
