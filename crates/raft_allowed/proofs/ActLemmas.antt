-- The changes of acts, and the batches of parts.
use Rattle.std.proofs.Common.{◌≡◌, ◌+◌, List, [], ◌∷◌, ◌++◌, Option, Some, None, refl, sym, ◌∙◌, ap, append_assoc}
use Rattle.std.specs.Prelude.{option_map, unwrap_or}
use Rattle.std.proofs.lemmas.List.{append-nil, map-append}
use Rattle.raft_records.specs.Item.{Batch}
use Rattle.raft_log_engine.specs.Cause.{plain_part, plain_parts}
use Rattle.raft_script.specs.Batches.{Part, batch_of_acts, batches_of_parts, items_of_act, of_both}
use Rattle.raft_script.specs.declared.operation.Act.{Act}

-- some, followed by what is there of others
abbrev pub followed_by : {X : Type 0} → List X → Option (List X) → Option (List X)
followed_by first rest = option_map (λ more. first ++ more) rest

abbrev join : Option Batch → Option Batch → Option Batch
join = of_both (λ items others. items ++ others)

abbrev put_before : Option Batch → Option (List Batch) → Option (List Batch)
put_before = of_both (λ batch others. batch ∷ others)

followed_join : {X : Type 0} (first more : List X) (rest : Option (List X)) → followed_by (first ++ more) rest ≡ followed_by first (followed_by more rest)
followed_join first more None = refl
followed_join first more (Some others) = ap Some (append_assoc first more others)

-- the items so far are those of the first acts
abbrev pub AreOfActs : Batch → List Act → Option Batch → Type 0
AreOfActs items rest whole = followed_by items (batch_of_acts rest) ≡ whole

pub acts_begun : (acts : List Act) → AreOfActs [] acts (batch_of_acts acts)
acts_begun acts = at (batch_of_acts acts)
  where
    at : (o : Option Batch) → followed_by [] o ≡ o
    at None = refl
    at (Some items) = refl

pub acts_more : (items more new : Batch) (act : Act) (rest : List Act) (whole : Option Batch) → items_of_act act ≡ Some more → new ≡ items ++ more → AreOfActs items (act ∷ rest) whole → AreOfActs new rest whole
acts_more items more new act rest whole is pushed so =
    ap (λ (l : Batch). followed_by l (batch_of_acts rest)) pushed
    ∙ followed_join items more (batch_of_acts rest)
    ∙ ap (λ o. followed_by items (join o (batch_of_acts rest))) (sym is)
    ∙ so

pub acts_refused : (items : Batch) (act : Act) (rest : List Act) (whole : Option Batch) → items_of_act act ≡ None → AreOfActs items (act ∷ rest) whole → None ≡ whole
acts_refused items act rest whole is so = ap (λ o. followed_by items (join o (batch_of_acts rest))) (sym is) ∙ so

pub acts_ended : (items : Batch) (rest : List Act) (whole : Option Batch) → rest ≡ [] → AreOfActs items rest whole → Some items ≡ whole
acts_ended items rest whole none so = ap Some (sym (append-nil items)) ∙ ap (λ (l : List Act). followed_by items (batch_of_acts l)) (sym none) ∙ so

-- the batches so far are those of the first parts
abbrev pub AreOfParts : List Batch → List Part → Option (List Batch) → Type 0
AreOfParts batches rest whole = followed_by batches (batches_of_parts rest) ≡ whole

pub parts_begun : (parts : List Part) → AreOfParts [] parts (batches_of_parts parts)
parts_begun parts = at (batches_of_parts parts)
  where
    at : (o : Option (List Batch)) → followed_by [] o ≡ o
    at None = refl
    at (Some batches) = refl

pub parts_more : (batches new : List Batch) (batch : Batch) (part : Part) (rest : List Part) (whole : Option (List Batch)) → batch_of_acts part.0.items ≡ Some batch → new ≡ batches ++ batch ∷ [] → AreOfParts batches (part ∷ rest) whole → AreOfParts new rest whole
parts_more batches new batch part rest whole is pushed so =
    ap (λ (l : List Batch). followed_by l (batches_of_parts rest)) pushed
    ∙ followed_join batches (batch ∷ []) (batches_of_parts rest)
    ∙ ap (λ o. followed_by batches (put_before o (batches_of_parts rest))) (sym is)
    ∙ so

pub parts_refused : (batches : List Batch) (part : Part) (rest : List Part) (whole : Option (List Batch)) → batch_of_acts part.0.items ≡ None → AreOfParts batches (part ∷ rest) whole → None ≡ whole
parts_refused batches part rest whole is so = ap (λ o. followed_by batches (put_before o (batches_of_parts rest))) (sym is) ∙ so

pub parts_ended : (batches : List Batch) (rest : List Part) (whole : Option (List Batch)) → rest ≡ [] → AreOfParts batches rest whole → Some batches ≡ whole
parts_ended batches rest whole none so = ap Some (sym (append-nil batches)) ∙ ap (λ (l : List Part). followed_by batches (batches_of_parts l)) (sym none) ∙ so

-- .. of each what a caller may change
pub record ArePlainOf (batches : List Batch) (rest : List Part) (whole : Option (List Batch)) : Type 0 where
  pub raw : List Batch
  pub is : AreOfParts raw rest whole
  pub plain : batches ≡ plain_parts raw

pub plain_begun : (parts : List Part) → ArePlainOf [] parts (batches_of_parts parts)
plain_begun parts = record { raw = []; is = parts_begun parts; plain = refl }

pub plain_more : (batches new : List Batch) (batch : Batch) (part : Part) (rest : List Part) (whole : Option (List Batch)) → batch_of_acts part.0.items ≡ Some batch → new ≡ batches ++ plain_part batch ∷ [] → ArePlainOf batches (part ∷ rest) whole → ArePlainOf new rest whole
plain_more batches new batch part rest whole is pushed so = record {
  raw = so.raw ++ batch ∷ [];
  is = parts_more so.raw (so.raw ++ batch ∷ []) batch part rest whole is refl so.is;
  plain = pushed ∙ ap (λ (l : List Batch). l ++ plain_part batch ∷ []) so.plain ∙ sym (map-append plain_part so.raw (batch ∷ []));
}

pub plain_refused : (batches : List Batch) (part : Part) (rest : List Part) (whole : Option (List Batch)) → batch_of_acts part.0.items ≡ None → ArePlainOf batches (part ∷ rest) whole → [] ≡ plain_parts (unwrap_or whole [])
plain_refused batches part rest whole is so = ap (λ (o : Option (List Batch)). plain_parts (unwrap_or o [])) (parts_refused so.raw part rest whole is so.is)

pub plain_ended : (batches : List Batch) (rest : List Part) (whole : Option (List Batch)) → rest ≡ [] → ArePlainOf batches rest whole → batches ≡ plain_parts (unwrap_or whole [])
plain_ended batches rest whole none so = so.plain ∙ ap (λ (o : Option (List Batch)). plain_parts (unwrap_or o [])) (parts_ended so.raw rest whole none so.is)
