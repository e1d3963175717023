-- The line of a region's remembered set, as lines are gone through.
use Rattle.std.proofs.Common.{◌≡◌, ◌≢◌, ◌<◌, inl, inr, ℕ, ◌+◌, List, [], ◌∷◌, ◌++◌, length, take, get_or, map, append_assoc, sym, ◌∙◌, ap, subst, arith, Vec, Global}
use Rattle.std.proofs.lemmas.List.{take_more, take_all, get_or_default, length-map}
use Rattle.std.proofs.lemmas.List.Elements.{All-nil, All-cons, All-append}
use Rattle.g1_text.specs.FaultLines.{LineNumbers, IsSetLine}
use Rattle.g1_text.proofs.Gathering.{map_at}

-- a line is of another region
abbrev IsOther : ℕ → ℕ × ℕ → Type 0
IsOther region told = told.0 ≢ region

module _ (l : LineNumbers) (region : ℕ) where
  -- the line of the set, if these lines tell remembered cards
  abbrev pub IsSetLineOf : List (ℕ × ℕ) → ℕ → Type 0
  IsSetLineOf told number = IsSetLine (record l { remembered = told }) region number

  pub set_start : (number : ℕ) → l.headings ≡ number ∷ [] → IsSetLineOf [] number
  set_start number e = inr (All-nil (IsOther region), e)

  -- a line of the region
  this_line : (told : List (ℕ × ℕ)) (line : ℕ × ℕ) → line.0 ≡ region → IsSetLineOf (told ++ line ∷ []) line.1
  this_line told line e = inl (told, [], ap (λ r. told ++ (r, line.1) ∷ []) e, All-nil (IsOther region))

  -- a line of another one
  other_line : (told : List (ℕ × ℕ)) (line : ℕ × ℕ) (number : ℕ) → line.0 ≢ region → IsSetLineOf told number → IsSetLineOf (told ++ line ∷ []) number
  other_line told line number other (inl (front, back, e, behind)) =
      inl (
        front,
        back ++ line ∷ [],
        ap (λ ls. ls ++ line ∷ []) e ∙ append_assoc front ((region, number) ∷ back) (line ∷ []),
        All-append (IsOther region) back (line ∷ []) behind (All-cons (IsOther region) line [] other (All-nil (IsOther region))),
      )
  other_line told line number other (inr (none, heading)) =
      inr (All-append (IsOther region) told (line ∷ []) none (All-cons (IsOther region) line [] other (All-nil (IsOther region))), heading)

  module _ (all : List (ℕ × ℕ)) (i : ℕ) (d : ℕ × ℕ) (lt : i < length all) where
    one_more : take (i + 1) all ≡ take i all ++ get_or all i d ∷ []
    one_more = take_more all i d lt

    pub set_this : (get_or all i d).0 ≡ region → IsSetLineOf (take (i + 1) all) (get_or all i d).1
    set_this e = subst (λ ls. IsSetLineOf ls (get_or all i d).1) (sym one_more) (this_line (take i all) (get_or all i d) e)

    pub set_other : (number : ℕ) → (get_or all i d).0 ≢ region → IsSetLineOf (take i all) number → IsSetLineOf (take (i + 1) all) number
    set_other number other so_far = subst (λ ls. IsSetLineOf ls number) (sym one_more) (other_line (take i all) (get_or all i d) number other so_far)

  pub set_end : (all : List (ℕ × ℕ)) (i number : ℕ) → length all < i + 1 → all ≡ l.remembered → IsSetLineOf (take i all) number → IsSetLine l region number
  set_end all i number past e so_far = subst (λ ls. IsSetLineOf ls number) (take_all i all (omega (arith, past)) ∙ e) so_far

-- the cards of a region, among those of all regions
pub set_at : (sets : List (Vec ℕ Global)) (k : ℕ) (v : Vec ℕ Global) → k < length sets → get_or (map (λ (s : Vec ℕ Global). s.items) sets) k [] ≡ (get_or sets k v).items
set_at sets k v lt =
    let count = length-map sets (λ (s : Vec ℕ Global). s.items) in
    get_or_default (map (λ (s : Vec ℕ Global). s.items) sets) k [] v.items (omega (arith, count, lt)) ∙ map_at (λ (s : Vec ℕ Global). s.items) sets k v
