-- What a name in a line leads to.
use Rattle.std.proofs.Common.{◌≡◌, ◌≢◌, ◌<◌, ℕ, ◌+◌, Bool, true, false, cond, List, [], ◌∷◌, length, slice_index, refl, sym, ◌∙◌, ap, arith}
use Rattle.std.specs.Prelude.{Option, Some, None, codes}
use Rattle.std.specs.List.{position_from}
use Rattle.std.specs.Option.{option_map}
use Rattle.std.specs.Str.{bytes_eq}
use Rattle.g1_text.specs.Graphs.{NamedObject, NamedGraph, target_word}
use Rattle.g1_text.specs.ByName.{place_of}
use Rattle.g1_text.specs.Carried.{reference_for, stale_if, stale_at}

pub some_some : {A : Type 0} {x y : A} → ◌≡◌ {A = Option A} (Some x) (Some y) → x ≡ y
some_some e = cc

pub none_some : {A : Type 0} {x : A} → ◌≡◌ {A = Option A} None (Some x) → ⊥
none_some e = cc

-- a place is that of an object
found_below : (name : List ℕ) (n k : ℕ) (objects : List NamedObject) → position_from (λ o. bytes_eq name o.name) n objects ≡ Some k → k < n + length objects
found_below name n k [] e = absurd (none_some e)
found_below name n k (x ∷ objects) e = at (bytes_eq name x.name) refl (λ rest. found_below name (n + 1) k objects rest)
  where
    at : (b : Bool) → bytes_eq name x.name ≡ b → (position_from (λ o. bytes_eq name o.name) (n + 1) objects ≡ Some k → k < n + 1 + length objects) → k < n + length (x ∷ objects)
    at true t more = let here : n ≡ k = some_some (sym (ap (λ b. cond b (Some n) (position_from (λ o. bytes_eq name o.name) (n + 1) objects)) t) ∙ e) in omega (arith, here)
    at false f more = let lt = more (sym (ap (λ b. cond b (Some n) (position_from (λ o. bytes_eq name o.name) (n + 1) objects)) f) ∙ e) in omega (arith, lt)

pub place_below : (g : NamedGraph) (name : List ℕ) (k : ℕ) → place_of name g.objects ≡ Some k → k < length g.objects
place_below g name k e = let lt = found_below name 0 k g.objects e in omega (arith, lt)

-- the word of an object that was found
pub found_reference : (g : NamedGraph) (ats : List ℕ) (name : List ℕ) (target : Option (List ℕ)) (k : ℕ) → name ≢ codes "-" → name ≡ target_word target → place_of name g.objects ≡ Some k
    → reference_for g ats target ≡ Some (slice_index ats k + 1)
found_reference g ats name None k other e p = absurd (other e)
found_reference g ats name (Some n) k other e p = ap (option_map (λ place. slice_index ats place + 1)) (ap (λ m. place_of m g.objects) (sym e) ∙ p)

-- a name that no object has stands for no word
pub no_reference : (g : NamedGraph) (ats : List ℕ) (name : List ℕ) (target : Option (List ℕ)) → name ≢ codes "-" → name ≡ target_word target → place_of name g.objects ≡ None → reference_for g ats target ≡ None
no_reference g ats name None other e p = absurd (other e)
no_reference g ats name (Some n) other e p = ap (option_map (λ place. slice_index ats place + 1)) (ap (λ m. place_of m g.objects) (sym e) ∙ p)

-- names that have a word are not stale, and the others are
module _ (g : NamedGraph) (ats : List ℕ) (n : ℕ) where
  some_if : (name : List ℕ) (place : Option ℕ) (x : ℕ) → option_map (λ p. slice_index ats p + 1) place ≡ Some x → stale_if place n name ≡ []
  some_if name None x e = absurd (none_some e)
  some_if name (Some k) x e = refl

  pub not_stale : (target : Option (List ℕ)) (x : ℕ) → reference_for g ats target ≡ Some x → stale_at g n target ≡ []
  not_stale None x e = refl
  not_stale (Some name) x e = some_if name (place_of name g.objects) x e

  none_if : (name : List ℕ) (place : Option ℕ) → option_map (λ p. slice_index ats p + 1) place ≡ None → stale_if place n name ≡ (n, name) ∷ []
  none_if name None e = refl
  none_if name (Some k) e = absurd (none_some (sym e))

  pub is_stale : (target : Option (List ℕ)) (word : List ℕ) → reference_for g ats target ≡ None → word ≡ target_word target → stale_at g n target ≡ (n, word) ∷ []
  is_stale None word e w = absurd (none_some (sym e))
  is_stale (Some name) word e w = none_if name (place_of name g.objects) e ∙ ap (λ m. (n, m) ∷ []) (sym w)
