-- The lines that the program reads, and what each requests.
use Rattle.std.specs.Prelude.{◌≡◌, ℕ, ◌+◌, ◌==◌, ◌&&◌, ◌||◌, not, map, nat_le, nat_lt, Bool, true, false, List, [], ◌∷◌, length, codes, Option, Some, None, is_none, is_some, IfSome, option_and_then, option_map, if◌then◌else◌}
use Rattle.std.specs.List.{list_all, onto_first, slice_split}
use Rattle.std.specs.Char.{is_ascii_graphic}
use Rattle.std.specs.Str.{bytes_eq}
use Rattle.raft_base.specs.declared.pipe_log.LogQueue.{LogQueue}
use Rattle.raft_base.specs.declared.pipe_log.LogQueue.TheVariants.{Append, Rewrite}
use Rattle.raft_script.specs.Batches.{indexed_bytes}
use Rattle.raft_script.specs.Entry.{text_entries}
use Rattle.raft_script.specs.Number.{number_in}
use Rattle.raft_lines.specs.Settings.{text_set}
use Rattle.raft_lines.specs.declared.program.Ended.{Ended}
use Rattle.raft_lines.specs.declared.program.Ended.TheVariants as ended
use Rattle.raft_lines.specs.declared.line.CrashChoice.{CrashChoice}
use Rattle.raft_lines.specs.declared.line.CrashChoice.TheVariants as left
use Rattle.raft_lines.specs.declared.line.Call.{Call}
use Rattle.raft_lines.specs.declared.line.Call.TheVariants as call
use Rattle.raft_lines.specs.declared.line.Look.{Look}
use Rattle.raft_lines.specs.declared.line.Look.TheVariants as look
use Rattle.raft_lines.specs.declared.line.Line.{Line}
use Rattle.raft_lines.specs.declared.line.Line.TheVariants as line
use Rattle.raft_script.specs.declared.operation.Act.{Act}
use Rattle.raft_script.specs.declared.operation.Act.TheVariants as act
use Rattle.raft_script.specs.declared.operation.Op.{Op}
use Rattle.raft_script.specs.declared.operation.Op.TheVariants as op

-- what a line requests
pub data Asked : Type 0 where
  Nothing : Asked
  Put : (group : ℕ) (key : List ℕ) (value : List ℕ) (sync : Bool) → Asked
  Delete : (group : ℕ) (key : List ℕ) (sync : Bool) → Asked
  Once : (pair : ℕ × ℕ) (group : ℕ) (key : List ℕ) (value : List ℕ) (sync : Bool) → Asked
  Get : (group : ℕ) (key : List ℕ) → Asked
  Entries : (group : ℕ) (entries : List (ℕ × List ℕ)) (sync : Bool) → Asked
  Clean : (group : ℕ) (sync : Bool) → Asked
  Compact : (group : ℕ) (index : ℕ) → Asked
  Entry : (group : ℕ) (index : ℕ) → Asked
  Groups : Asked
  Range : (group : ℕ) → Asked
  Scan : (group : ℕ) → Asked
  Span : (queue : LogQueue) → Asked
  Sync : Asked
  RewriteAppend : Asked
  RewriteRewrite : Asked
  PurgeStale : Asked
  Purge : Asked
  Reopen : Asked
  Crash : (left : CrashChoice) → Asked

-- a word is of printable characters
abbrev pub is_word : List ℕ → Bool
is_word word = not (length word == 0) && list_all is_ascii_graphic word

-- the words of a text, with one space between two
abbrev pub words_in : List ℕ → Option (List (List ℕ))
words_in [] = Some []
words_in (c ∷ cs) =
    let parts = slice_split (λ b. b == 32) (c ∷ cs) in
    if list_all is_word parts then Some parts else None

-- this, if no word follows
abbrev pub if_last : {T : Type 0} → T → List (List ℕ) → Option T
if_last x [] = Some x
if_last x (word ∷ words) = None

-- what the words after a number request
abbrev pub with_number : {T : Type 0} → (ℕ → List (List ℕ) → Option T) → List (List ℕ) → Option T
with_number asked [] = None
with_number asked (word ∷ words) = option_and_then (λ n. asked n words) (number_in word)

-- a number, with no word after it
abbrev pub number_by : List (List ℕ) → Option ℕ
number_by words = with_number if_last words

-- two numbers
abbrev pub numbers_by : List (List ℕ) → Option (ℕ × ℕ)
numbers_by words =
    with_number (λ first rest. option_map (λ second. (first, second)) (number_by rest)) words

-- [sync]
abbrev pub sync_by : List (List ℕ) → Option Bool
sync_by [] = Some false
sync_by (word ∷ words) = if bytes_eq word (codes "sync") then if_last true words else None

-- put G K V [sync]
abbrev pub put_by : List (List ℕ) → Option Asked
put_by (group ∷ key ∷ value ∷ words) = option_and_then (λ g. option_map
    (λ sync. Put g key value sync) (sync_by words)) (number_in group)
put_by _ = None

-- del G K [sync]
abbrev pub delete_by : List (List ℕ) → Option Asked
delete_by (group ∷ key ∷ words) =
    option_and_then (λ g. option_map (λ sync. Delete g key sync) (sync_by words)) (number_in group)
delete_by _ = None

-- put K V [sync]
abbrev pub numbered_by : ℕ → ℕ → List (List ℕ) → Option Asked
numbered_by group number (verb ∷ key ∷ value ∷ words) = if bytes_eq verb (codes "put")
    then option_map (λ sync. Once (group, number) group key value sync) (sync_by words) else None
numbered_by group number _ = None

-- once G N put K V [sync]
abbrev pub once_by : List (List ℕ) → Option Asked
once_by words = with_number (λ group. with_number (numbered_by group)) words

-- W [sync], if the first index isn't after the last
abbrev pub words_by : ℕ → ℕ → ℕ → List (List ℕ) → Option Asked
words_by group first last [] = None
words_by group first last (word ∷ words) = if nat_le first last then option_map
    (λ sync. Entries group (text_entries first last word) sync) (sync_by words) else None

-- ent G A B W [sync]
abbrev pub entries_by : List (List ℕ) → Option Asked
entries_by words =
    with_number (λ group. with_number (λ first. with_number (words_by group first))) words

-- clean G [sync]
abbrev pub clean_by : List (List ℕ) → Option Asked
clean_by words = with_number (λ group rest. option_map (Clean group) (sync_by rest)) words

-- compact G I
abbrev pub compact_by : List (List ℕ) → Option Asked
compact_by words = option_map (λ n. Compact n.0 n.1) (numbers_by words)

-- entry G I
abbrev pub entry_by : List (List ℕ) → Option Asked
entry_by words = option_map (λ n. Entry n.0 n.1) (numbers_by words)

-- get G K
abbrev pub get_by : List (List ℕ) → Option Asked
get_by (group ∷ key ∷ words) = option_and_then (λ g. if_last (Get g key) words) (number_in group)
get_by _ = None

-- append, rewrite
abbrev pub queue_by : List (List ℕ) → Option LogQueue
queue_by [] = None
queue_by (word ∷ words) =
    if bytes_eq word (codes "append") then if_last Append words
    else if bytes_eq word (codes "rewrite") then if_last Rewrite words
    else None

-- append, rewrite, stale
abbrev pub rewrite_by : List (List ℕ) → Option Call
rewrite_by [] = None
rewrite_by (word ∷ words) =
    if bytes_eq word (codes "append") then if_last call.RewriteAppend words
    else if bytes_eq word (codes "rewrite") then if_last call.RewriteRewrite words
    else if bytes_eq word (codes "stale") then if_last call.PurgeStale words
    else None

-- torn KEPT FILL; FILL is a byte
abbrev pub torn_by : List (List ℕ) → Option CrashChoice
torn_by (kept ∷ fill ∷ words) =
    option_and_then (λ k. option_and_then (λ f. if nat_lt f 256 then if_last
    (left.Torn k f) words else None) (number_in fill)) (number_in kept)
torn_by _ = None

-- all, synced, torn KEPT FILL
abbrev pub left_by : List (List ℕ) → Option CrashChoice
left_by [] = None
left_by (word ∷ words) =
    if bytes_eq word (codes "all") then if_last left.All words
    else if bytes_eq word (codes "synced") then if_last left.Synced words
    else if bytes_eq word (codes "torn") then torn_by words
    else None

-- what a call requests
abbrev pub asked_of_call : Call → Asked
asked_of_call (call.Put group key value sync) = Put group key.now value.now sync
asked_of_call (call.Delete group key sync) = Delete group key.now sync
asked_of_call (call.Once group number key value sync) =
    Once (group, number) group key.now value.now sync
asked_of_call (call.Get group key) = Get group key.now
asked_of_call (call.Entries group first last word sync) =
    Entries group (text_entries first last word.now) sync
asked_of_call (call.Clean group sync) = Clean group sync
asked_of_call (call.Compact group index) = Compact group index
asked_of_call (call.Entry group index) = Entry group index
asked_of_call call.Groups = Groups
asked_of_call call.Sync = Sync
asked_of_call call.RewriteAppend = RewriteAppend
asked_of_call call.RewriteRewrite = RewriteRewrite
asked_of_call call.PurgeStale = PurgeStale
asked_of_call call.Purge = Purge

-- what this word and those after it request of the whole log
abbrev pub asked_of_log : List ℕ → List (List ℕ) → Option Asked
asked_of_log verb words =
    if bytes_eq verb (codes "rewrite") then option_map asked_of_call (rewrite_by words)
    else if bytes_eq verb (codes "purge") then if_last Purge words
    else if bytes_eq verb (codes "reopen") then if_last Reopen words
    else if bytes_eq verb (codes "crash") then option_map Crash (left_by words)
    else None

-- what they request to look at, or of the whole log
abbrev pub asked_to_look : List ℕ → List (List ℕ) → Option Asked
asked_to_look verb words =
    if bytes_eq verb (codes "range") then option_map Range (number_by words)
    else if bytes_eq verb (codes "scan") then option_map Scan (number_by words)
    else if bytes_eq verb (codes "span") then option_map Span (queue_by words)
    else asked_of_log verb words

-- what they request of a group's entries or of all groups, or else asked_to_look
abbrev pub asked_of_group : List ℕ → List (List ℕ) → Option Asked
asked_of_group verb words =
    if bytes_eq verb (codes "ent") then entries_by words
    else if bytes_eq verb (codes "clean") then clean_by words
    else if bytes_eq verb (codes "compact") then compact_by words
    else if bytes_eq verb (codes "entry") then entry_by words
    else if bytes_eq verb (codes "groups") then if_last Groups words
    else asked_to_look verb words

-- what words request, by the first of them
abbrev pub parsed_words : List (List ℕ) → Option Asked
parsed_words [] = None
parsed_words (verb ∷ words) =
    if bytes_eq verb (codes "put") then put_by words
    else if bytes_eq verb (codes "del") then delete_by words
    else if bytes_eq verb (codes "once") then once_by words
    else if bytes_eq verb (codes "get") then get_by words
    else if bytes_eq verb (codes "sync") then if_last Sync words
    else asked_of_group verb words

-- what a line requests: nothing if it is empty or begins with #
abbrev pub asked_in : List ℕ → Option Asked
asked_in [] = Some Nothing
asked_in (c ∷ cs) = if c == 35 then Some Nothing else option_and_then parsed_words (words_in
    (c ∷ cs))

-- what a look requests
abbrev pub asked_of_look : Look → Asked
asked_of_look (look.Range group) = Range group
asked_of_look (look.Scan group) = Scan group
asked_of_look (look.Span queue) = Span queue

-- what a line requests, as it was read
abbrev pub asked_of : Line → Asked
asked_of line.Nothing = Nothing
asked_of (line.Call call) = asked_of_call call
asked_of (line.Look look) = asked_of_look look
asked_of line.Reopen = Reopen
asked_of (line.Crash left) = Crash left

-- the line that a write of these acts does: one of a single act
abbrev pub asked_by_acts : List Act → Bool → Option Asked
asked_by_acts (act.Put group key value ∷ []) sync = Some (Put group key.items value.items sync)
asked_by_acts (act.Delete group key ∷ []) sync = Some (Delete group key.items sync)
asked_by_acts (act.Entries group entries ∷ []) sync =
    Some (Entries group (map indexed_bytes entries.items) sync)
asked_by_acts (act.Clean group ∷ []) sync = Some (Clean group sync)
asked_by_acts _ sync = None

-- the line that a write with numbers does: one of a single put and a single pair
abbrev pub asked_by_numbered : List Act → List (ℕ × ℕ) → Bool → Option Asked
asked_by_numbered (act.Put group key value ∷ []) (pair ∷ []) sync =
    Some (Once pair group key.items value.items sync)
asked_by_numbered _ _ sync = None

-- the line that an operation does, if there is one
abbrev pub asked_by_op : Op → Option Asked
asked_by_op (op.Write acts sync) = asked_by_acts acts.items sync
asked_by_op (op.WriteOnce acts pairs sync) = asked_by_numbered acts.items pairs.items sync
asked_by_op (op.WriteGroup parts) = None
asked_by_op op.Sync = Some Sync
asked_by_op (op.Get group key) = Some (Get group key.items)
asked_by_op (op.CompactTo group index) = Some (Compact group index)
asked_by_op (op.Entry group index) = Some (Entry group index)
asked_by_op op.Groups = Some Groups
asked_by_op (op.RewriteAppend None None) = Some RewriteAppend
asked_by_op op.RewriteRewrite = Some RewriteRewrite
asked_by_op op.PurgeStale = Some PurgeStale
asked_by_op op.Purge = Some Purge
asked_by_op _ = None

-- the text begins with no word
abbrev pub HasNoWord : List ℕ → Type 0
HasNoWord text = (word : List ℕ) (words : List (List ℕ)) → words_in text ≡ Some (word ∷ words) → ⊥

-- the text begins with this word, and has the other's words after it
abbrev pub BeginsWith : List ℕ → List ℕ → List ℕ → Type 0
BeginsWith text word rest = words_in text ≡ option_map (λ words. word ∷ words) (words_in rest)

-- the lines of a text, each without its newline
abbrev pub lines_in : List ℕ → List (List ℕ)
lines_in [] = []
lines_in (c ∷ cs) = if c == 10 then [] ∷ lines_in cs else onto_first c (lines_in cs)

-- the line can be read, and requests something
abbrev pub is_asked : Option Asked → Bool
is_asked None = false
is_asked (Some Nothing) = false
is_asked (Some asked) = true

-- the line sets nothing, and requests something
abbrev pub asks : List ℕ → Bool
asks line = if is_some (text_set line) then false else is_asked (asked_in line)

-- the line sets something after another one requested something, or it can't be read
abbrev pub is_bad : Bool → List ℕ → Bool
is_bad asked line = if is_some (text_set line) then asked else is_none (asked_in line)

-- the number of the first bad line among these, of which the first has this number
abbrev pub first_bad : Bool → ℕ → List (List ℕ) → Option ℕ
first_bad asked number [] = None
first_bad asked number (line ∷ lines) = if is_bad asked line then Some number
    else first_bad (asked || asks line) (number + 1) lines

-- the number of the first bad line of a text, counted from 1
abbrev pub first_bad_line : List ℕ → Option ℕ
first_bad_line text = first_bad false 1 (lines_in text)

-- what the end of the program says of a text
abbrev pub EndsOn : List ℕ → Ended → Type 0
EndsOn text ended.Done = first_bad_line text ≡ None
EndsOn text (ended.BadLine number) = first_bad_line text ≡ Some number
EndsOn text _ = Unit {0}

-- a line was found, and these bytes are left after it; or there was none
abbrev pub IsNextLine : Bool → List ℕ → List ℕ → Option (List ℕ) → Type 0
IsNextLine true text line left =
    (rest : List ℕ) × (left ≡ Some rest) × (lines_in text ≡ line ∷ lines_in rest)
IsNextLine false text line left = text ≡ []

-- the lines before this number are good, and these bytes are left; asked: one requests something
abbrev pub IsReading : Option (List ℕ) → Option (List ℕ) → ℕ → Bool → Type 0
IsReading None left number asked = Unit {0}
IsReading (Some text) left number asked = (rest : List ℕ) × (left ≡ Some rest)
    × (first_bad_line text ≡ first_bad asked number (lines_in rest))

-- the program may end so at the line of this number, which is bad or not
abbrev pub EndsAt : Bool → ℕ → Ended → Type 0
EndsAt bad number ended.Done = ⊥
EndsAt bad number (ended.BadLine told) = (told ≡ number) × (bad ≡ true)
EndsAt bad number _ = Unit {0}

-- the program continues after the line, which isn't bad, or ends at it
abbrev pub IsServed : Bool → Bool → ℕ → Bool → Option Ended → Type 0
IsServed bad asked number then_asked None = (bad ≡ false) × (then_asked ≡ asked)
IsServed bad asked number then_asked (Some ended) = EndsAt bad number ended

-- the program continues after the line of this number, or ends there
abbrev pub GoesOnOrEnds : Option (List ℕ) → Option (List ℕ) → ℕ → Bool → Option Ended → Type 0
GoesOnOrEnds known left number asked None = IsReading known left (number + 1) asked
GoesOnOrEnds known left number asked (Some ended) = IfSome known (λ text. EndsOn text ended)
