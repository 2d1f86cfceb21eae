-- Entries of text.
use Rattle.std.specs.Prelude.{◌≡◌, ◌<◌, ◌^◌, ◌+◌, ◌-◌, ℕ, List, ◌∷◌, ◌++◌, map, Option, option_and_then, option_map}
use Rattle.std.specs.List.{range_with_len}
use Rattle.std.specs.Fmt.{decimal}
use Rattle.raft_records.specs.Contents.{first_index_of, last_index_of}
use Rattle.raft_records.specs.Item.{Entry}
use Rattle.raft_script.specs.declared.text_entry.TextEntry.{TextEntry}

-- an index in decimal, a colon and a word
abbrev pub text_bytes : ℕ → List ℕ → List ℕ
text_bytes index word = decimal index ++ 58 ∷ word

-- the bytes of an entry
abbrev pub bytes_of_entry : TextEntry → List ℕ
bytes_of_entry e = text_bytes e.index e.word.items

-- the bytes are those of the entry, whose index is a u64
abbrev pub IsTextOf : List ℕ → TextEntry → Type 0
IsTextOf bytes e = (e.index < 2 ^ 64) × (bytes ≡ bytes_of_entry e)

-- the index of an entry of text
abbrev pub index_of : TextEntry → ℕ
index_of e = e.index

-- the indexes of the first and the last entry, if there are entries
abbrev pub range_of : {X : Type 0} → List (ℕ × X) → Option (ℕ × ℕ)
range_of entries = option_and_then (λ first. option_map (λ last. (first, last))
    (last_index_of entries)) (first_index_of entries)

-- the entry of text with an index
abbrev pub text_entry : List ℕ → ℕ → Entry
text_entry word index = (index, text_bytes index word)

-- entries of text with each index from `first` to `last`
abbrev pub text_entries : ℕ → ℕ → List ℕ → List Entry
text_entries first last word = map (text_entry word) (range_with_len first (last + 1 - first))
