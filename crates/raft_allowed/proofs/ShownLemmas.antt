-- Contents without the numbers that groups keep.
use Rattle.std.proofs.Common.{◌≡◌, ℕ, suc, ◌+◌, ◌<◌, ◌≤◌, Bool, true, false, cond, List, [], ◌∷◌, ◌++◌, length, map, take, get_or, Option, None, refl, sym, ◌∙◌, ap, subst, arith, nat_eq}
use Rattle.std.specs.Prelude.{◌||◌, ◌&&◌, unwrap_or}
use Rattle.std.specs.List.{list_any}
use Rattle.std.proofs.lemmas.List.{map-append, take_all}
use Rattle.raft_once.specs.Numbers.{is_number_key, number_key, shown}
use Rattle.raft_records.specs.Contents.{Contents, after_batch, with_value}
use Rattle.raft_records.specs.Item.{Batch, Delete, Item}
use Rattle.raft_log_engine.specs.Image.{groups_of}
use Rattle.raft_log_engine.specs.declared.engine.image.GroupImage.{GroupImage}
use Rattle.raft_log_engine.specs.declared.engine.image.Image.{Image}
use Rattle.raft_allowed.specs.Held.{AreGroupsOf, Groups, IsHeldAt, IsHeldBy, held_of, nothing}
use Rattle.raft_allowed.specs.Walk.{AreHeldBy}
use Rattle.raft_allowed.proofs.ChoiceLemmas.{zip_append}
use Rattle.raft_allowed.proofs.ImageLemmas.{none_found}
use Rattle.raft_allowed.proofs.TakenLemmas.{zip_at, zip_len}

-- groups that stand for contents stand for those that have the same
same_groups : (m n : Contents) (groups : Groups) → ((g : ℕ) → m.entries g ≡ n.entries g) → ((g : ℕ) (k : List ℕ) → m.value g k ≡ n.value g k) → AreGroupsOf m groups → AreGroupsOf n groups
same_groups m n groups entries values are = record {
  ascending = are.ascending;
  each = λ g. record {
    entries = (are.each g).entries ∙ entries g;
    keys = record { ascending = (are.each g).keys.ascending; value = λ k. (are.each g).keys.value k ∙ values g k };
  };
  some = are.some;
}

-- the group's number goes
abbrev pub forget_item : GroupImage → Item
forget_item image = record { group = image.group; content = Delete number_key }

abbrev pub forget_items : List GroupImage → Batch
forget_items images = map forget_item images

-- entries stay
entries_stay : (images : List GroupImage) (m : Contents) (g : ℕ) → (after_batch m (forget_items images)).entries g ≡ m.entries g
entries_stay [] m g = refl
entries_stay (image ∷ images) m g = entries_stay images (with_value image.group number_key None m) g

-- of the groups nothing is left at the key
values_go : (images : List GroupImage) (m : Contents) (g : ℕ) (k : List ℕ) → (after_batch m (forget_items images)).value g k ≡ cond (list_any (nat_eq g) (groups_of images) && is_number_key k) None (m.value g k)
values_go [] m g k = refl
values_go (image ∷ images) m g k =
    values_go images (with_value image.group number_key None m) g k
    ∙ either_way (nat_eq g image.group) (list_any (nat_eq g) (groups_of images)) (is_number_key k) (m.value g k)
  where
    either_way : (a b c : Bool) (v : Option (List ℕ)) → cond (b && c) None (cond (a && c) None v) ≡ cond ((a || b) && c) None v
    either_way true true true v = refl
    either_way true true false v = refl
    either_way true false true v = refl
    either_way true false false v = refl
    either_way false true true v = refl
    either_way false true false v = refl
    either_way false false c v = refl

-- .. and another group has nothing there
none_elsewhere : (m : Contents) (images : List GroupImage) → IsHeldBy m images → (g : ℕ) (k : List ℕ) → list_any (nat_eq g) (groups_of images) ≡ false → m.value g k ≡ None
none_elsewhere m images held g k none =
    let is = subst (IsHeldAt m g) (ap (λ o. unwrap_or o nothing) (none_found g images none)) (held.each g) in
    sym (is.keys.value k)

values_shown : (m : Contents) (images : List GroupImage) → IsHeldBy m images → (g : ℕ) (k : List ℕ) → (after_batch m (forget_items images)).value g k ≡ (shown m).value g k
values_shown m images held g k = values_go images m g k ∙ at (list_any (nat_eq g) (groups_of images)) (is_number_key k) (none_elsewhere m images held g k)
  where
    at : (a c : Bool) → (a ≡ false → m.value g k ≡ None) → cond (a && c) None (m.value g k) ≡ cond c None (m.value g k)
    at true c none = refl
    at false true none = none refl
    at false false none = refl

-- what stands for the contents behind these deletes stands for what is shown
pub shown_is : (m : Contents) (images new : List GroupImage) → IsHeldBy m images → IsHeldBy (after_batch m (forget_items images)) new → IsHeldBy (shown m) new
shown_is m images new held are = same_groups (after_batch m (forget_items images)) (shown m) (held_of new) (entries_stay images m) (values_shown m images held) are

-- an image more, as it is shown
pub shown_more : (images new next : List Image) (ms : List Contents) (place : ℕ) (image one : Image) → AreHeldBy images ms → place < length images → image ≡ get_or images place image → AreHeldBy new (map shown (take place ms))
    → ((m : Contents) → IsHeldBy m image.groups.items → IsHeldBy (shown m) one.groups.items) → next ≡ new ++ one ∷ [] → AreHeldBy next (map shown (take (place + 1) ms))
shown_more images new next ms place image one are within is so_far step pushed =
    let R : Image → Contents → Type 0 = λ i m. IsHeldBy m i.groups.items in
    let at = zip_at R images ms place image are within is in
    let count : place + 1 ≡ suc place = omega arith in
    let whole : map shown (take (place + 1) ms) ≡ map shown (take place ms) ++ shown at.other ∷ [] =
    ap (λ (n : ℕ). map shown (take n ms)) count ∙ ap (map shown) at.taken ∙ map-append shown (take place ms) (at.other ∷ []) in
    subst (λ (l : List Image). AreHeldBy l (map shown (take (place + 1) ms))) (sym pushed)
    (subst (AreHeldBy (new ++ one ∷ [])) (sym whole)
    (zip_append R new (one ∷ []) (map shown (take place ms)) (shown at.other ∷ []) so_far (step at.other at.are, tt)))

pub shown_all : (images new : List Image) (ms : List Contents) (place : ℕ) → length images ≤ place → AreHeldBy images ms → AreHeldBy new (map shown (take place ms)) → AreHeldBy new (map shown ms)
shown_all images new ms place past are so =
    let same : length images ≡ length ms = zip_len (λ (i : Image) (m : Contents). IsHeldBy m i.groups.items) images ms are in
    let all : length ms ≤ place = omega arith in
    subst (λ (l : List Contents). AreHeldBy new (map shown l)) (take_all place ms all) so
