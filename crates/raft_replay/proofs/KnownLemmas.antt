-- Groups that are known after two chunks.
use Rattle.std.proofs.Common.{◌≡◌, ℕ, Bool, true, false, cond, not, eqb, ◌&&◌, ◌||◌, List, [], ◌∷◌, ◌++◌, fold, refl, sym, ◌∙◌, ap}
use Rattle.std.specs.Str.{bytes_eq}
use Rattle.std.proofs.lemmas.List.Sums.{fold-append}
use Rattle.raft_records.specs.Item.{Content, Entries, Clean, Compact, Put, Delete, Item, Batch, group_mark_key}
use Rattle.raft_replay.specs.Chunks.{Reach, no_reach, reach_then, reach_by, reach_after, reach_in}
use Rattle.raft_tables.specs.Known.{known_after_content, known_after_item, known_after, known_in}
use Rattle.raft_recovery_laws.specs.Recovered.{items_of}

marked : (mark f c b : Bool) → cond mark (f || (not c && b)) true ≡ (cond mark f true || (not c && b))
marked true f c b = refl
marked false f c b = refl

known_content : (content : Content) (r : Reach) (f b : Bool) → known_after_content (f || (not r.cleaned && b)) content ≡ (known_after_content f content || (not (reach_then r (reach_by content)).cleaned && b))
known_content (Entries []) r f b = refl
known_content (Entries (e ∷ es)) r f b = refl
known_content Clean r f b = refl
known_content (Compact index) r f b = refl
known_content (Put key value) r f b = marked (bytes_eq key group_mark_key) f r.cleaned b
known_content (Delete key) r f b = refl

known_item : (same : Bool) (content : Content) (r : Reach) (f b : Bool) → cond same (known_after_content (f || (not r.cleaned && b)) content) (f || (not r.cleaned && b))
    ≡ (cond same (known_after_content f content) f || (not (cond same (reach_then r (reach_by content)) r).cleaned && b))
known_item true content r f b = known_content content r f b
known_item false content r f b = refl

known_items : (g : ℕ) (items : List Item) (r : Reach) (f b : Bool) → fold (known_after_item g) (f || (not r.cleaned && b)) items
    ≡ (fold (known_after_item g) f items || (not (fold (reach_after g) r items).cleaned && b))
known_items g [] r f b = refl
known_items g (item ∷ items) r f b =
    ap (λ k. fold (known_after_item g) k items) (known_item (eqb g item.group) item.content r f b) ∙ known_items g items (reach_after g r item) (known_after_item g f item) b

known_flat : (g : ℕ) (batches : List Batch) (b : Bool) → fold (known_after g) b batches ≡ fold (known_after_item g) b (items_of batches)
known_flat g [] b = refl
known_flat g (batch ∷ batches) b = known_flat g batches (known_after g b batch) ∙ sym (fold-append (known_after_item g) b batch (items_of batches))

pub known_in_both : (older newer : List Batch) (g : ℕ) → known_in (older ++ newer) g ≡ (known_in newer g || (not (reach_in g newer).cleaned && known_in older g))
known_in_both older newer g =
    fold-append (known_after g) false older newer ∙ known_flat g newer (known_in older g)
    ∙ known_items g (items_of newer) no_reach false (known_in older g)
    ∙ ap (λ k. k || (not (reach_in g newer).cleaned && known_in older g)) (sym (known_flat g newer false))
