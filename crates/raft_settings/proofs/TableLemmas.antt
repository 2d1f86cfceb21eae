-- What a table holds at its keys, when settings are put into it one by one.
use Rattle.std.proofs.Common.{◌≡◌, ℕ, Bool, true, false, List, [], ◌∷◌, Option, Some, None, String, Global, Ordering, Less, Equal, Greater, string_bytes, nat_cmp, is_eq, refl, sym, ap, ◌∙◌, ◌&&◌}
use Rattle.std.proofs.lemmas.Bool.{and_parts}
use Rattle.std.specs.Cmp.Lexicographic.{slice_cmp}
use Rattle.std.specs.String.{string_cmp}
use Rattle.std.specs.Ordering.{match_ordering, ordering_reverse}
use Rattle.std.specs.BTreeMap.{insert_entry}
use Rattle.std.specs.Cmp.{tied_itself}
use Rattle.std.proofs.lemmas.Cmp.{nat_list_cmp_total}
use Rattle.toml.specs.Data.{Data, Members, no_members, member, get_member, members_depth, members_have_valid_dates, same_key, string, integer, boolean, float, datetime, array, table}
use Rattle.toml.specs.View.{view, members_view}
use Rattle.toml.specs.declared.value.Value.{Value}
use Rattle.raft_settings.specs.Writing.{with_member, with_setting}

match_entries : (o : Ordering) (a b c : List (String Global × Value)) → members_view (match_ordering o a b c) ≡ match_ordering o (members_view a) (members_view b) (members_view c)
match_entries Less a b c = refl
match_entries Equal a b c = refl
match_entries Greater a b c = refl

-- what an insert into the map of a table makes of its members
pub members_view-insert_entry : (es : List (String Global × Value)) (k : String Global) (v : Value) → members_view (insert_entry string_cmp es k v) ≡ with_member (string_bytes k) (view v) (members_view es)
members_view-insert_entry [] k v = refl
members_view-insert_entry (e ∷ es) k v = match_entries (string_cmp k e.0) _ _ _ ∙ rw (members_view-insert_entry es k v) refl

-- the key itself
put_at : (o : Ordering) (key : List ℕ) (value : Data) (other : List ℕ) (held : Data) (rest : Members) → o ≡ slice_cmp nat_cmp key other → get_member key (with_member key value rest) ≡ Some value
    → get_member key (match_ordering o (member key value (member other held rest)) (member other value rest) (member other held (with_member key value rest))) ≡ Some value
put_at Less key value other held rest is more = rw (tied_itself nat_list_cmp_total key) refl
put_at Equal key value other held rest is more = rw (← is) refl
put_at Greater key value other held rest is more = rw (← is) more

get_put : (key : List ℕ) (value : Data) (ms : Members) → get_member key (with_member key value ms) ≡ Some value
get_put key value no_members = rw (tied_itself nat_list_cmp_total key) refl
get_put key value (member other held rest) = put_at (slice_cmp nat_cmp key other) key value other held rest refl (get_put key value rest)

-- another key
tied_through : (key name other : List ℕ) → slice_cmp nat_cmp name other ≡ Equal → slice_cmp nat_cmp key name ≡ slice_cmp nat_cmp key other
tied_through key name other same =
    nat_list_cmp_total.antisymm key name ∙ ap ordering_reverse (nat_list_cmp_total.congr name other key same) ∙ sym (nat_list_cmp_total.antisymm key other)

passed : (o : Ordering) (more : Option Data) (value : Data) → is_eq o ≡ false → match_ordering o more (Some value) more ≡ more
passed Less more value other = refl
passed Equal more value other = cc
passed Greater more value other = refl

put_beside : (o : Ordering) (key name : List ℕ) (value : Data) (other : List ℕ) (held : Data) (rest : Members) → o ≡ slice_cmp nat_cmp name other → same_key key name ≡ false → get_member key (with_member name value rest) ≡ get_member key rest
    → get_member key (match_ordering o (member name value (member other held rest)) (member other value rest) (member other held (with_member name value rest))) ≡ get_member key (member other held rest)
put_beside Less key name value other held rest is apart more = passed (slice_cmp nat_cmp key name) _ value apart
put_beside Equal key name value other held rest is apart more =
    let same = tied_through key name other (sym is) in
    let away : is_eq (slice_cmp nat_cmp key other) ≡ false = ap is_eq (sym same) ∙ apart in
    passed (slice_cmp nat_cmp key other) _ value away ∙ sym (passed (slice_cmp nat_cmp key other) _ held away)
put_beside Greater key name value other held rest is apart more =
    ap (λ m. match_ordering (slice_cmp nat_cmp key other) m (Some held) m) more

get_beside : (key name : List ℕ) (value : Data) (ms : Members) → same_key key name ≡ false → get_member key (with_member name value ms) ≡ get_member key ms
get_beside key name value no_members apart = passed (slice_cmp nat_cmp key name) None value apart
get_beside key name value (member other held rest) apart = put_beside (slice_cmp nat_cmp name other) key name value other held rest refl apart (get_beside key name value rest apart)

-- a setting that was put, or what stood at its key before
abbrev pub put_or : Option Data → Option Data → Option Data
put_or None before = before
put_or (Some value) before = Some value

pub put_or-none : (o : Option Data) → put_or o None ≡ o
put_or-none None = refl
put_or-none (Some value) = refl

pub get_with : (key : List ℕ) (o : Option Data) (ms : Members) → get_member key (with_setting key o ms) ≡ put_or o (get_member key ms)
get_with key None ms = refl
get_with key (Some value) ms = get_put key value ms

pub get_past : (key name : List ℕ) (o : Option Data) (ms : Members) → same_key key name ≡ false → get_member key (with_setting name o ms) ≡ get_member key ms
get_past key name None ms apart = refl
get_past key name (Some value) ms apart = get_beside key name value ms apart

-- Tables without tables and dates in them.
pub record IsFlat (ms : Members) : Type 0 where
  pub depth : members_depth ms ≡ 0
  pub dates : members_have_valid_dates ms ≡ true

abbrev pub is_plain : Data → Bool
is_plain (string s) = true
is_plain (integer z) = true
is_plain (boolean b) = true
is_plain _ = false

abbrev pub is_flat : Members → Bool
is_flat no_members = true
is_flat (member key value rest) = is_plain value && is_flat rest

flat_at : (o : Ordering) (name : List ℕ) (value : Data) (other : List ℕ) (held : Data) (rest more : Members) → is_plain value ≡ true → is_plain held ≡ true → is_flat rest ≡ true → is_flat more ≡ true
    → is_flat (match_ordering o (member name value (member other held rest)) (member other value rest) (member other held more)) ≡ true
flat_at Less name value other held rest more here there flat next = rw (here, there) flat
flat_at Equal name value other held rest more here there flat next = rw here flat
flat_at Greater name value other held rest more here there flat next = rw there next

flat_put : (name : List ℕ) (value : Data) (ms : Members) → is_plain value ≡ true → is_flat ms ≡ true → is_flat (with_member name value ms) ≡ true
flat_put name value no_members here flat = rw here refl
flat_put name value (member other held rest) here flat =
    let (there, more) = and_parts (is_plain held) (is_flat rest) flat in
    flat_at (slice_cmp nat_cmp name other) name value other held rest (with_member name value rest) here there more (flat_put name value rest here more)

abbrev pub is_plain_setting : Option Data → Bool
is_plain_setting None = true
is_plain_setting (Some value) = is_plain value

pub flat_with : (name : List ℕ) (o : Option Data) (ms : Members) → is_plain_setting o ≡ true → is_flat ms ≡ true → is_flat (with_setting name o ms) ≡ true
flat_with name None ms plain flat = flat
flat_with name (Some value) ms plain flat = flat_put name value ms plain flat

plain_depth : (value : Data) (rest : Members) → is_plain value ≡ true → members_depth rest ≡ 0 → members_have_valid_dates rest ≡ true → IsFlat (member [] value rest)
plain_depth (string s) rest plain shallow dates = record { depth = rw shallow refl; dates = dates }
plain_depth (integer z) rest plain shallow dates = record { depth = rw shallow refl; dates = dates }
plain_depth (boolean b) rest plain shallow dates = record { depth = rw shallow refl; dates = dates }
plain_depth (float x) rest plain shallow dates = cc
plain_depth (datetime d) rest plain shallow dates = cc
plain_depth (array ds) rest plain shallow dates = cc
plain_depth (table ms) rest plain shallow dates = cc

pub flat_is : (ms : Members) → is_flat ms ≡ true → IsFlat ms
flat_is no_members flat = record { depth = refl; dates = refl }
flat_is (member key value rest) flat =
    let (here, more) = and_parts (is_plain value) (is_flat rest) flat in
    let below = flat_is rest more in
    let at = plain_depth value rest here below.depth below.dates in
    record { depth = at.depth; dates = at.dates }
