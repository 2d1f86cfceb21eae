-- An image under way: the groups that are listed, and those that are still to come.
use Rattle.std.proofs.Common.{◌≡◌, ℕ, suc, ◌+◌, ◌<◌, ◌≤◌, length, length-drop, drop, get_or, drop-cons, Bool, true, false, eqb, ◌||◌, List, [], ◌∷◌, ◌++◌, refl, sym, ◌∙◌, ap, subst, append_assoc, arith}
use Rattle.std.specs.List.{AllByRecursion, list_any}
use Rattle.std.specs.List.Sorted.{IsStrictlySortedBy}
use Rattle.std.specs.Ordering.{nat_cmp}
use Rattle.std.specs.declared.cmp.Ordering.{Ordering}
use Rattle.std.specs.declared.cmp.Ordering.TheVariants.{Less}
use Rattle.std.proofs.lemmas.Grind.{common_steps}
use Rattle.std.proofs.lemmas.List.{append-nil, map-append, nil_from_length}
use Rattle.raft_records.specs.Contents.{Contents}
use Rattle.raft_log_engine.specs.Image.{IsGroupImageOf, IsImageOf, IsWithout, groups_of}
use Rattle.std.specs.Prelude.{is_some}
use Rattle.raft_records.specs.Places.{Blocks}
use Rattle.raft_tables.specs.Tables.{contents_in, tables_of}
use Rattle.raft_log_engine.proofs.PlacedLemmas.{without_table}
use Rattle.raft_tables.specs.declared.memtables.MemTables.{MemTables}
use Rattle.raft_log_engine.specs.declared.engine.image.GroupImage.{GroupImage}

pub record IsBuilding (m : Contents) (images : List GroupImage) (rest : List ℕ) : Type 0 where
  pub ascending : IsStrictlySortedBy nat_cmp (groups_of images ++ rest)
  pub each : AllByRecursion (IsGroupImageOf m) images
  pub others : (group : ℕ) → list_any (eqb group) (groups_of images ++ rest) ≡ false → IsWithout m group

all_without : {X : Type 0} (P : X → Type 0) (xs : List X) (y : X) (ys : List X) → AllByRecursion P (xs ++ y ∷ ys) → AllByRecursion P (xs ++ ys)
all_without P [] y ys all = all.1
all_without P (x ∷ xs) y ys all = (all.0, all_without P xs y ys all.1)

sorted_without : {X : Type 0} (c : X → X → Ordering) (xs : List X) (y : X) (ys : List X) → IsStrictlySortedBy c (xs ++ y ∷ ys) → IsStrictlySortedBy c (xs ++ ys)
unfolding IsStrictlySortedBy
sorted_without c [] y ys sorted = sorted.1
sorted_without c (x ∷ xs) y ys sorted = (all_without (λ z. c x z ≡ Less) xs y ys sorted.0, sorted_without c xs y ys sorted.1)

any_without : {X : Type 0} (p : X → Bool) (xs : List X) (y : X) (ys : List X) → p y ≡ false → list_any p (xs ++ y ∷ ys) ≡ list_any p (xs ++ ys)
any_without p [] y ys none = ap (λ b. b || list_any p ys) none
any_without p (x ∷ xs) y ys none = ap (λ b. p x || b) (any_without p xs y ys none)

all_push : {X : Type 0} (P : X → Type 0) (xs : List X) (y : X) → AllByRecursion P xs → P y → AllByRecursion P (xs ++ y ∷ [])
all_push P [] y all one = (one, tt)
all_push P (x ∷ xs) y all one = (all.0, all_push P xs y all.1 one)

same_from_test : (a b : ℕ) → eqb a b ≡ true → a ≡ b
same_from_test a b same = grind (arith, common_steps)

pub building_begun : (m : Contents) (groups : List ℕ) → IsStrictlySortedBy nat_cmp groups → ((group : ℕ) → list_any (eqb group) groups ≡ false → IsWithout m group)
    → IsBuilding m [] groups
building_begun m groups ascending others = record { ascending = ascending; each = tt; others = others }

-- a group without a table
pub holds_nothing : (blocks : Blocks) (tables : MemTables) (group : ℕ) → is_some (tables_of tables group) ≡ false → IsWithout (contents_in blocks (tables_of tables)) group
holds_nothing blocks tables group unknown = without_table blocks (tables_of tables group) unknown

-- a group without entries and keys is passed over
pub building_passed : (m : Contents) (images : List GroupImage) (group : ℕ) (rest : List ℕ) → IsBuilding m images (group ∷ rest) → IsWithout m group → IsBuilding m images rest
building_passed m images group rest building without = record {
  ascending = sorted_without nat_cmp (groups_of images) group rest building.ascending;
  each = building.each;
  others = λ g none. at g none (eqb g group) refl;
}
  where
    at : (g : ℕ) → list_any (eqb g) (groups_of images ++ rest) ≡ false → (b : Bool) → eqb g group ≡ b → IsWithout m g
    at g none true is = subst (IsWithout m) (sym (same_from_test g group is)) without
    at g none false is = building.others g (any_without (eqb g) (groups_of images) group rest is ∙ none)

pub building_more : (m : Contents) (images : List GroupImage) (image : GroupImage) (rest : List ℕ) → IsBuilding m images (image.group ∷ rest) → IsGroupImageOf m image → IsBuilding m (images ++ image ∷ []) rest
building_more m images image rest building one =
    let same : groups_of (images ++ image ∷ []) ++ rest ≡ groups_of images ++ image.group ∷ rest =
    ap (λ (gs : List ℕ). gs ++ rest) (map-append (λ (x : GroupImage). x.group) images (image ∷ [])) ∙ append_assoc (groups_of images) (image.group ∷ []) rest in
    record {
      ascending = subst (IsStrictlySortedBy nat_cmp) (sym same) building.ascending;
      each = all_push (IsGroupImageOf m) images image building.each one;
      others = λ g none. building.others g (sym (ap (list_any (eqb g)) same) ∙ none);
    }

pub image_built : (m : Contents) (images : List GroupImage) → IsBuilding m images [] → IsImageOf images m
image_built m images building = record {
  ascending = subst (IsStrictlySortedBy nat_cmp) (append-nil (groups_of images)) building.ascending;
  each = building.each;
  others = λ g none. building.others g (ap (list_any (eqb g)) (append-nil (groups_of images)) ∙ none);
}

-- the groups from one place on
ahead : (items : List ℕ) (i : ℕ) → i < length items → drop i items ≡ get_or items i 0 ∷ drop (i + 1) items
ahead items i within =
    let next : suc i ≡ i + 1 = omega arith in
    drop-cons items i 0 within ∙ ap (λ (n : ℕ). get_or items i 0 ∷ drop n items) next

-- after the last group nothing is to come
pub building_ended : (m : Contents) (images : List GroupImage) (items : List ℕ) (i : ℕ) → length items ≤ i → IsBuilding m images (drop i items) → IsImageOf images m
building_ended m images items i past building =
    let none : length (drop i items) ≡ 0 = length-drop i items ∙ (omega (arith, past)) in
    image_built m images (subst (IsBuilding m images) (nil_from_length (drop i items) none) building)

-- a group's turn, where it has nothing
pub building_without : (m : Contents) (images : List GroupImage) (items : List ℕ) (i : ℕ) → i < length items → IsBuilding m images (drop i items) → IsWithout m (get_or items i 0) → IsBuilding m images (drop (i + 1) items)
building_without m images items i within building without =
    building_passed m images (get_or items i 0) (drop (i + 1) items) (subst (IsBuilding m images) (ahead items i within) building) without

-- a group's turn, where it has something
pub building_with : (m : Contents) (images : List GroupImage) (image : GroupImage) (items : List ℕ) (i : ℕ) → i < length items → IsBuilding m images (drop i items) → image.group ≡ get_or items i 0 → IsGroupImageOf m image → IsBuilding m (images ++ image ∷ []) (drop (i + 1) items)
building_with m images image items i within building is one =
    building_more m images image (drop (i + 1) items)
    (subst (λ (n : ℕ). IsBuilding m images (n ∷ drop (i + 1) items)) (sym is) (subst (IsBuilding m images) (ahead items i within) building))
    one
