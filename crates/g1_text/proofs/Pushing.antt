-- Lists that get the words and the names of one slot or root after the other.
use Rattle.std.proofs.Common.{◌≡◌, ◌<◌, ℕ, zero, suc, ◌+◌, List, [], ◌∷◌, ◌++◌, length, get_or, slice_index, map, flat_map, take, append_assoc, append-nil, sym, ◌∙◌, ap, arith}
use Rattle.std.specs.Prelude.{Option, None}
use Rattle.std.specs.Borrow.{Bor}
use Rattle.std.specs.List.{AllZip}
use Rattle.std.proofs.lemmas.List.{take_more, map_more, get_or-map, length-map, length-take-le}
use Rattle.std.proofs.lemmas.List.Concat.{flat_map-append}
use Rattle.g1_text.specs.Graphs.{NamedObject, NamedRoot, NamedGraph, target_word}
use Rattle.g1_text.specs.ByName.{read_root, root_word}
use Rattle.g1_text.specs.Carried.{stale_at, stale_from}
use Rattle.g1_text.specs.Filled.{located, object_of}
use Rattle.g1_text.proofs.NamedWords.{stale_push}

-- one element more
module _ {A B : Type 0} (f : A → B) (xs : List A) (d : A) (i : ℕ) (lt : i < length xs) (first old new : List B) where
  pub push_mapped : old ≡ first ++ map f (take i xs) → new ≡ old ++ f (get_or xs i d) ∷ [] → new ≡ first ++ map f (take (i + 1) xs)
  push_mapped so_far push =
      push ∙ ap (λ l. l ++ f (get_or xs i d) ∷ []) so_far ∙ append_assoc first (map f (take i xs)) (f (get_or xs i d) ∷ []) ∙ ap (λ l. first ++ l) (sym (map_more f xs i d lt))

module _ {A B : Type 0} (f : A → List B) (xs : List A) (d : A) (i : ℕ) (lt : i < length xs) (first old new : List B) where
  pub push_joined : old ≡ first ++ flat_map f (take i xs) → new ≡ old ++ f (get_or xs i d) → new ≡ first ++ flat_map f (take (i + 1) xs)
  push_joined so_far push =
      let more = ap (flat_map f) (take_more xs i d lt) ∙ flat_map-append f (take i xs) (get_or xs i d ∷ []) ∙ ap (λ l. flat_map f (take i xs) ++ l) (append-nil (f (get_or xs i d))) in
      push ∙ ap (λ l. l ++ f (get_or xs i d)) so_far ∙ append_assoc first (flat_map f (take i xs)) (f (get_or xs i d)) ∙ ap (λ l. first ++ l) (sym more)

-- the objects at the places of an order, and one more
pub located_more : (g : NamedGraph) (ats order : List ℕ) (i : ℕ) → i < length order
    → located g ats (take (i + 1) order) ≡ located g ats (take i order) ++ (object_of g (get_or order i 0), slice_index ats (get_or order i 0)) ∷ []
located_more g ats order i lt = map_more (λ k. (object_of g k, slice_index ats k)) order i 0 lt

-- one stale name more, or none
pub push_stale : (g : NamedGraph) (n k i : ℕ) (ts : List (Option (List ℕ))) (first old new : List (ℕ × List ℕ)) → i < length ts → k ≡ n + i → old ≡ first ++ stale_from g n (take i ts)
    → new ≡ old ++ stale_at g k (get_or ts i None) → new ≡ first ++ stale_from g n (take (i + 1) ts)
push_stale g n k i ts first old new lt e so_far push =
    let count : length (take i ts) ≡ i = length-take-le i ts (omega (arith, lt)) in
    let more = ap (stale_from g n) (take_more ts i None lt) ∙ stale_push g n k (take i ts) (get_or ts i None) (omega (arith, e, count)) in
    push ∙ ap (λ l. l ++ stale_at g k (get_or ts i None)) so_far ∙ append_assoc first (stale_from g n (take i ts)) (stale_at g k (get_or ts i None)) ∙ ap (λ l. first ++ l) (sym more)

-- the word of a root's line
pub root_read : (rs : List (ℕ × Bor (List ℕ))) (roots : List NamedRoot) (i : ℕ) (x : ℕ × Bor (List ℕ)) (d : NamedRoot) → map read_root rs ≡ map root_word roots → i < length rs
    → (get_or rs i x).1.now ≡ target_word (get_or roots i d).target
root_read rs roots i x d e lt =
    let count : length rs ≡ length roots = sym (length-map rs read_root) ∙ ap length e ∙ length-map roots root_word in
    sym (get_or-map read_root rs i x [] lt) ∙ ap (λ l. get_or l i []) e ∙ get_or-map root_word roots i d [] (omega (arith, lt, count))

-- the word of a slot
pub slot_read : (names : List (Bor (List ℕ))) (ts : List (Option (List ℕ))) (i : ℕ) (x : Bor (List ℕ)) → map (λ (t : Bor (List ℕ)). t.now) names ≡ map target_word ts → i < length names
    → (get_or names i x).now ≡ target_word (get_or ts i None)
slot_read names ts i x e lt =
    let count : length names ≡ length ts = sym (length-map names (λ (t : Bor (List ℕ)). t.now)) ∙ ap length e ∙ length-map ts target_word in
    sym (get_or-map (λ (t : Bor (List ℕ)). t.now) names i x [] lt) ∙ ap (λ l. get_or l i []) e ∙ get_or-map target_word ts i None [] (omega (arith, lt, count))

pub slot_count : (names : List (Bor (List ℕ))) (ts : List (Option (List ℕ))) → map (λ (t : Bor (List ℕ)). t.now) names ≡ map target_word ts → length names ≡ length ts
slot_count names ts e = sym (length-map names (λ (t : Bor (List ℕ)). t.now)) ∙ ap length e ∙ length-map ts target_word

-- the name of an object
pub name_read : (names : List (Bor (List ℕ))) (objects : List NamedObject) (k : ℕ) (x : Bor (List ℕ)) (d : NamedObject) → map (λ (t : Bor (List ℕ)). t.now) names ≡ map (λ (o : NamedObject). o.name) objects
    → k < length objects → (get_or names k x).now ≡ (get_or objects k d).name
name_read names objects k x d e lt =
    let count : length names ≡ length objects = sym (length-map names (λ (t : Bor (List ℕ)). t.now)) ∙ ap length e ∙ length-map objects (λ (o : NamedObject). o.name) in
    sym (get_or-map (λ (t : Bor (List ℕ)). t.now) names k x [] (omega (arith, lt, count))) ∙ ap (λ l. get_or l k []) e ∙ get_or-map (λ (o : NamedObject). o.name) objects k d [] lt

-- what holds at a place of two lists
pub zip_at : {A B : Type 0} (R : A → B → Type 0) (xs : List A) (ys : List B) (i : ℕ) (d : A) (e : B) → AllZip R xs ys → i < length xs → R (get_or xs i d) (get_or ys i e)
zip_at R [] ys i d e all lt = absurd (omega (arith, lt))
zip_at R (x ∷ xs) [] i d e all lt = elim all [ ]
zip_at R (x ∷ xs) (y ∷ ys) zero d e all lt = all.0
zip_at R (x ∷ xs) (y ∷ ys) (suc i) d e all lt = zip_at R xs ys i d e all.1 (omega (arith, lt))
