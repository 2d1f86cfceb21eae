-- Images of contents, and batches of items.
use Rattle.std.proofs.Common.{◌≡◌, ℕ, ◌+◌, ◌<◌, Bool, true, false, cond, List, [], ◌∷◌, ◌++◌, length, map, take, get_or, Option, Some, None, refl, sym, ◌∙◌, ap, subst, nat_eq}
use Rattle.std.specs.Prelude.{◌||◌, ◌&&◌, Vec, is_none, unwrap_or}
use Rattle.std.specs.declared.alloc.Global.{Global}
use Rattle.std.specs.List.{AllByRecursion, list_any}
use Rattle.std.specs.List.Sorted.{IsStrictlySortedBy}
use Rattle.std.specs.Map.{keys_of, lookup}
use Rattle.std.specs.Ordering.{nat_cmp}
use Rattle.std.proofs.lemmas.List.{map-append}
use Rattle.std.proofs.lemmas.List.Sums.{fold-append}
use Rattle.raft_base.specs.declared.errors.Fault.{Fault}
use Rattle.raft_records.specs.Contents.{Contents, after_batch, after_item}
use Rattle.raft_records.specs.Item.{Batch, Item}
use Rattle.raft_records.specs.Validity.{batch_refusal, content_refusal}
use Rattle.raft_tables.specs.Listing.{listed}
use Rattle.raft_log_engine.specs.Image.{IsGroupImageOf, IsImageOf, entries_of, groups_of}
use Rattle.raft_log_engine.specs.declared.engine.image.GroupImage.{GroupImage}
use Rattle.raft_allowed.specs.Held.{AreGroupsOf, Groups, Held, IsHeldAt, IsHeldBy, group_with_held, groups_after, held_after, held_at, held_in, held_of, is_nil, is_nothing, nothing, refusal_of, with_held}
use Rattle.raft_allowed.proofs.HeldLemmas.{groups_changed, refusal_same}
use Rattle.raft_allowed.proofs.KeyedLemmas.{lookup-own, number_order}
use Rattle.raft_allowed.proofs.LoopLemmas.{taken_more}

keys-held : (images : List GroupImage) → keys_of (held_of images) ≡ groups_of images
keys-held [] = refl
keys-held (image ∷ images) = ap (λ ks. image.group ∷ ks) (keys-held images)

-- a group that isn't listed isn't found
pub none_found : (group : ℕ) (images : List GroupImage) → list_any (nat_eq group) (groups_of images) ≡ false → lookup (nat_eq group) (held_of images) ≡ None
none_found group [] none = refl
none_found group (image ∷ images) none = at (nat_eq group image.group) none (λ is. none_found group images is)
  where
    at : (b : Bool) → (b || list_any (nat_eq group) (groups_of images)) ≡ false → (list_any (nat_eq group) (groups_of images) ≡ false → lookup (nat_eq group) (held_of images) ≡ None) → cond b (Some (held_in image)) (lookup (nat_eq group) (held_of images)) ≡ None
    at true is rest = cc
    at false is rest = rest is

no_lists : (image : GroupImage) → is_nothing (held_in image) ≡ false → image.entries.items ≡ [] → image.pairs.items ≡ [] → ⊥
no_lists image some entries pairs =
    let clash : is_nothing (held_in image) ≡ true =
    ap (λ (es : List (ℕ × Vec ℕ Global)). is_nil (entries_of es) && is_nil (listed image.pairs.items)) entries
    ∙ ap (λ (ps : List (Vec ℕ Global × Vec ℕ Global)). is_nil (listed ps)) pairs in cc

one_image : (m : Contents) (image : GroupImage) (groups : Groups) → IsHeldAt m image.group (held_at image.group groups) → lookup (nat_eq image.group) groups ≡ Some (held_in image) → is_nothing (held_in image) ≡ false → IsGroupImageOf m image
one_image m image groups is found some =
    let same : held_at image.group groups ≡ held_in image = ap (λ o. unwrap_or o nothing) found in
    let here = subst (IsHeldAt m image.group) same is in
    record { entries = here.entries; keys = here.keys; some = no_lists image some }

each_image : (m : Contents) (all : Groups) (images : List GroupImage) → ((group : ℕ) → IsHeldAt m group (held_at group all)) → AllByRecursion (λ g. lookup (nat_eq g.0) all ≡ Some g.1) (held_of images) → AllByRecursion (λ g. is_nothing g.1 ≡ false) (held_of images)
    → AllByRecursion (IsGroupImageOf m) images
each_image m all [] each own some = tt
each_image m all (image ∷ images) each own some = (one_image m image all (each image.group) own.0 some.0, each_image m all images each own.1 some.1)

-- images of groups that stand for contents are images of these
pub image_of_held : (m : Contents) (images : List GroupImage) → IsHeldBy m images → IsImageOf images m
image_of_held m images held = record {
  ascending = subst (IsStrictlySortedBy nat_cmp) (keys-held images) held.ascending;
  each = each_image m (held_of images) images held.each (lookup-own nat_cmp nat_eq number_order (held_of images) held.ascending) held.some;
  others = λ group none.
      let is = subst (IsHeldAt m group) (ap (λ o. unwrap_or o nothing) (none_found group images none)) (held.each group) in
      (sym is.entries, λ key. sym (is.keys.value key));
}

-- Batches.

refusal_one : (m : Contents) (y : Item) (o : Option Fault) → content_refusal m y.group y.content ≡ o → is_none (batch_refusal m (y ∷ [])) ≡ is_none (content_refusal m y.group y.content)
refusal_one m y None is = rw is refl
refusal_one m y (Some f) is = rw is refl

-- the refusal of a batch with one item more
refusal-push : (m : Contents) (xs : Batch) (y : Item) → is_none (batch_refusal m (xs ++ y ∷ [])) ≡ (is_none (batch_refusal m xs) && is_none (content_refusal (after_batch m xs) y.group y.content))
refusal-push m [] y = refusal_one m y (content_refusal m y.group y.content) refl
refusal-push m (x ∷ xs) y = at (content_refusal m x.group x.content) refl (refusal-push (after_item m x) xs y)
  where
    at : (o : Option Fault) → content_refusal m x.group x.content ≡ o → is_none (batch_refusal (after_item m x) (xs ++ y ∷ [])) ≡ (is_none (batch_refusal (after_item m x) xs) && is_none (content_refusal (after_batch (after_item m x) xs) y.group y.content)) → is_none (batch_refusal m ((x ∷ xs) ++ y ∷ [])) ≡ (is_none (batch_refusal m (x ∷ xs)) && is_none (content_refusal (after_batch (after_item m x) xs) y.group y.content))
    at None is rest = rw is rest
    at (Some f) is rest = rw is refl

-- the groups and the test that items lead to
pub record AreAppliedTo (m : Contents) (items : Batch) (groups : Groups) (fits : Bool) : Type 0 where
  pub groups_are : AreGroupsOf (after_batch m items) groups
  pub fits_is : fits ≡ is_none (batch_refusal m items)

pub applied_more : (m : Contents) (items : Batch) (item : Item) (old new : Groups) (fits more : Bool) → AreAppliedTo m items old fits → new ≡ groups_after old item → more ≡ is_none (refusal_of (held_at item.group old) item.content)
    → AreAppliedTo m (items ++ item ∷ []) new (fits && more)
applied_more m items item old new fits more applied is more_is = record {
  groups_are = subst (AreGroupsOf (after_batch m (items ++ item ∷ []))) (sym is) (subst (λ (n : Contents). AreGroupsOf n (groups_after old item)) (sym (fold-append after_item m items (item ∷ []))) (groups_changed (after_batch m items) old item applied.groups_are));
  fits_is = ap (λ b. b && more) applied.fits_is ∙ ap (λ b. is_none (batch_refusal m items) && b) (more_is ∙ ap is_none (refusal_same (after_batch m items) old item applied.groups_are)) ∙ sym (refusal-push m items item);
}

-- .. at a place of a list
pub applied_on : {X : Type 0} (f : X → Item) (m : Contents) (xs : List X) (i : ℕ) (x : X) (old new : Groups) (fits more both : Bool) → i < length xs → x ≡ get_or xs i x → AreAppliedTo m (map f (take i xs)) old fits → new ≡ groups_after old (f x) → more ≡ is_none (refusal_of (held_at (f x).group old) (f x).content)
    → both ≡ (fits && more) → AreAppliedTo m (map f (take (i + 1) xs)) new both
applied_on f m xs i x old new fits more both within at applied is more_is both_is =
    let items : map f (take i xs) ++ f x ∷ [] ≡ map f (take (i + 1) xs) = sym (map-append f (take i xs) (x ∷ [])) ∙ sym (ap (map f) (taken_more xs i x within at)) in
    subst (λ (b : Bool). AreAppliedTo m (map f (take (i + 1) xs)) new b) (sym both_is)
    (subst (λ (l : Batch). AreAppliedTo m l new (fits && more)) items (applied_more m (map f (take i xs)) (f x) old new fits more applied is more_is))

-- the groups after a change of one of them
pub changed_is : (groups : Groups) (old new : GroupImage) (item : Item) (result : Groups) → group_with_held old ≡ (item.group, held_at item.group groups) → group_with_held new ≡ (old.group, held_after item.content (held_in old)) → result ≡ with_held new.group (held_in new) groups → result ≡ groups_after groups item
changed_is groups old new item result first second is =
    is ∙ ap (λ (p : ℕ × Held). with_held p.0 p.1 groups) (second ∙ ap (λ (p : ℕ × Held). let q : ℕ × Held = (p.0, held_after item.content p.1) in q) first)

pub fits_at : (groups : Groups) (old : GroupImage) (item : Item) → group_with_held old ≡ (item.group, held_at item.group groups) → is_none (refusal_of (held_in old) item.content) ≡ is_none (refusal_of (held_at item.group groups) item.content)
fits_at groups old item first = ap (λ (p : ℕ × Held). is_none (refusal_of p.1 item.content)) first
