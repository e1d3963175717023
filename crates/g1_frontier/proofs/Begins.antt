-- Where the objects of a window begin among its words, and the marks of these words.
use Rattle.std.proofs.Common.{◌≡◌, ◌<◌, ◌≤◌, ℕ, zero, suc, ◌+◌, ◌-◌, ◌*◌, ◌/◌, inl, inr, ◌⊎◌, Bool, true, false, List, [], ◌∷◌, ◌++◌, map, take, drop, length, get_or, set, Contains}
use Rattle.std.proofs.Common.{refl, sym, ap, ◌∙◌, subst, arith, div-add-mod', get_or-set_same, get_or-set_other, length-set}
use Rattle.std.proofs.Math.Nat.{mod-lt}
use Rattle.std.proofs.lemmas.Bool.{cases_eq}
use Rattle.std.proofs.lemmas.List.{map-append}
use Rattle.g1_words.specs.declared.object.Object.{Object}
use Rattle.g1_words.specs.Heap.{Heap, objects_in, object_at, start, region_of}
use Rattle.g1_words.specs.Valid.{Tiles, IsValid}
use Rattle.g1_words.proofs.Sound.{sound}
use Rattle.g1_words.proofs.Members.{Contains-later}
use Rattle.g1_rem.proofs.Next.{NextOf}
use Rattle.g1_rem.proofs.Filled.{Tiles-none, row_front, row_rest, row_step}
use Rattle.g1_frontier.specs.Numbers.{and_marked, places_from}
use Rattle.g1_frontier.proofs.Scopes.{Contains-drop}

-- ---- marks

pub marked_more : (xs : List Bool) (ps : List ℕ) (p : ℕ) → and_marked xs (ps ++ p ∷ []) ≡ set (and_marked xs ps) p true
marked_more xs [] p = refl
marked_more xs (q ∷ ps) p = marked_more (set xs q true) ps p

pub marked_append : (xs : List Bool) (ps qs : List ℕ) → and_marked xs (ps ++ qs) ≡ and_marked (and_marked xs ps) qs
marked_append xs [] qs = refl
marked_append xs (p ∷ ps) qs = marked_append (set xs p true) ps qs

pub length-marked : (xs : List Bool) (ps : List ℕ) → length (and_marked xs ps) ≡ length xs
length-marked xs [] = refl
length-marked xs (p ∷ ps) = length-marked (set xs p true) ps ∙ simp length-set

-- a mark stays
kept_mark : (xs : List Bool) (ps : List ℕ) (q : ℕ) → q < length xs → get_or xs q false ≡ true → get_or (and_marked xs ps) q false ≡ true
kept_mark xs [] q lt e = e
kept_mark xs (p ∷ ps) q lt e =
    let same : length (set xs p true) ≡ length xs = simp length-set in
    kept_mark (set xs p true) ps q (omega (arith, lt, same)) (elim (cases_eq q p) [
      | inl is ↦ subst (λ j. get_or (set xs p true) j false ≡ true) (sym is) (get_or-set_same xs p true false (omega (arith, lt, is)))
      | inr other ↦ get_or-set_other xs p q true false other ∙ e
    ])

-- what is in the list is marked
pub listed_mark : (xs : List Bool) (ps : List ℕ) (q : ℕ) → q < length xs → Contains ps q → get_or (and_marked xs ps) q false ≡ true
listed_mark xs [] q lt i = absurd (omega (arith, i.1))
listed_mark xs (p ∷ ps) q lt (zero, b, e) =
    let same : length (set xs p true) ≡ length xs = simp length-set in
    subst (λ j. get_or (and_marked (set xs p true) ps) j false ≡ true) e
    (kept_mark (set xs p true) ps p (omega (arith, lt, e, same)) (get_or-set_same xs p true false (omega (arith, lt, e))))
listed_mark xs (p ∷ ps) q lt (suc k, b, e) =
    let same : length (set xs p true) ≡ length xs = simp length-set in listed_mark (set xs p true) ps q (omega (arith, lt, same)) (k, omega (arith, b), e)

-- what is marked was so or is in the list
pub mark_listed : (xs : List Bool) (ps : List ℕ) (q : ℕ) → get_or (and_marked xs ps) q false ≡ true → (get_or xs q false ≡ true) ⊎ Contains ps q
mark_listed xs [] q e = inl e
mark_listed xs (p ∷ ps) q e = elim (mark_listed (set xs p true) ps q e) [
  | inl there ↦ elim (cases_eq q p) [
    | inl is ↦ inr (zero, omega arith, sym is)
    | inr other ↦ inl (sym (get_or-set_other xs p q true false other) ∙ there)
  ]
  | inr i ↦ inr (Contains-later p ps q i)
]

-- ---- the walk over a region's objects

take_next : (xs : List Object) (j : ℕ) (y : Object) (ys : List Object) → drop j xs ≡ y ∷ ys → take (suc j) xs ≡ take j xs ++ y ∷ []
take_next xs zero y ys e = ap (take 1) e
take_next [] (suc j) y ys e = let z : ◌≡◌ {A = ℕ} 0 (suc (length ys)) = ap length e in absurd (omega (arith, z))
take_next (x ∷ xs) (suc j) y ys e = ap (λ l. x ∷ l) (take_next xs j y ys e)

take_whole : (xs : List Object) (j : ℕ) → drop j xs ≡ [] → take j xs ≡ xs
take_whole xs zero e = sym e
take_whole [] (suc j) e = refl
take_whole (x ∷ xs) (suc j) e = ap (λ l. x ∷ l) (take_whole xs j e)

-- the objects of a region are marked up to an address
pub record MarkedTo (h : Heap) (r first at to : ℕ) (old new : List Bool) : Type 0 where
  pub place : ℕ
  pub row : Tiles h.words at (drop place (objects_in h r)) to
  pub marked : new ≡ and_marked old (map (λ o. first + (o.at - start h r)) (take place (objects_in h r)))

pub marking_start : (h : Heap) (r first at to : ℕ) (old : List Bool) → at ≡ start h r → Tiles h.words (start h r) (objects_in h r) to → MarkedTo h r first at to old old
marking_start h r first at to old e t = record { place = 0; row = subst (λ x. Tiles h.words x (objects_in h r) to) (sym e) t; marked = refl }

pub marking_end : (h : Heap) (r first at to : ℕ) (old new : List Bool) → MarkedTo h r first at to old new → to ≤ at → new ≡ and_marked old (places_from h first r)
marking_end h r first at to old new m le =
    m.marked ∙ ap (λ l. and_marked old (map (λ o. first + (o.at - start h r)) l)) (take_whole (objects_in h r) m.place (Tiles-none h.words at (drop m.place (objects_in h r)) to m.row le))

module _ (h : Heap) (r first at to : ℕ) (old new : List Bool) (valid : IsValid h) (lt : r < h.geometry.n) (m : MarkedTo h r first at to old new) (more : at < to) where
  front : NextOf h r m.place at
  front = row_front h r valid lt m.place at to m.row more

  -- the object ends within the words
  pub marking_fits : at < length h.words
  marking_fits = let n = front in omega (arith, n.fits, valid.word_count)

  -- it begins in the region
  pub marking_within : (start h r ≤ at) × (at < start h r + h.geometry.w)
  marking_within =
      let n = front in
      let there : Contains (drop m.place (objects_in h r)) n.object = subst (λ l. Contains l n.object) (sym n.splits) (zero, omega arith, refl) in
      let home : region_of h n.object.at ≡ r = (sound h valid).in_region r n.object (Contains-drop m.place (objects_in h r) n.object there) in
      let some : 0 < h.geometry.w = omega (arith, valid.limits.w_least) in
      let e = div-add-mod' n.object.at h.geometry.w in
      let rows : n.object.at / h.geometry.w * h.geometry.w ≡ r * h.geometry.w = ap (λ x. x * h.geometry.w) home in
      let l = mod-lt n.object.at some in
      (omega (arith, e, rows, n.at_is), omega (arith, e, rows, l, n.at_is))

  -- it has a word at least
  pub marking_some : (size : ℕ) → size ≡ (object_at h at).size → (0 < size) × (at + size ≤ to)
  marking_some size e =
      let n = front in
      let same = ap (λ o. o.size) n.whole in
      let step = row_step h r m.place at to n m.row in
      (omega (arith, step.0, same, e), omega (arith, step.1, same, e))

  -- it is marked
  pub marking_step : (then : List Bool) (size : ℕ) → size ≡ (object_at h at).size → then ≡ set new (first + (at - start h r)) true → MarkedTo h r first (at + size) to old then
  marking_step then size e is =
      let n = front in
      let same : n.object.size ≡ size = ap (λ o. o.size) n.whole ∙ sym e in
      let f : Object → ℕ = λ o. first + (o.at - start h r) in
      let plus : suc m.place ≡ m.place + 1 = omega arith in
      let taken : take (m.place + 1) (objects_in h r) ≡ take m.place (objects_in h r) ++ n.object ∷ [] =
      ap (λ j. take j (objects_in h r)) (sym plus) ∙ take_next (objects_in h r) m.place n.object (drop (m.place + 1) (objects_in h r)) n.splits in
      let spot : first + (at - start h r) ≡ f n.object = ap (λ x. first + (x - start h r)) n.at_is in
      record {
        place = m.place + 1;
        row = subst (λ x. Tiles h.words (at + x) (drop (m.place + 1) (objects_in h r)) to) same (row_rest h r m.place at to n m.row);
        marked =
            is ∙ ap (λ l. set l (first + (at - start h r)) true) m.marked ∙ ap (λ p. set (and_marked old (map f (take m.place (objects_in h r)))) p true) spot
            ∙ sym (marked_more old (map f (take m.place (objects_in h r))) (f n.object)) ∙ ap (and_marked old) (sym (map-append f (take m.place (objects_in h r)) (n.object ∷ [])))
            ∙ ap (λ l. and_marked old (map f l)) (sym taken);
      }
