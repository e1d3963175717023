-- What stands at the addresses of a heap that a file tells.
use Rattle.std.proofs.Common.{◌≡◌, ◌≤◌, ◌<◌, inl, inr, ℕ, zero, suc, ◌+◌, ◌-◌, ◌*◌, List, [], ◌∷◌, ◌++◌, length, get_or, slice_index, slice_index_or, map, flat_map, min, take, drop, replicate, append_assoc, length-append, length-take, refl, sym, ◌∙◌, ap, subst, arith, Contains}
use Rattle.std.specs.Prelude.{All}
use Rattle.std.specs.List.{AllZip, range_with_len}
use Rattle.std.proofs.lemmas.List.{map-append, get_or_at, length_push, nil_from_length, take-append-drop, length-replicate, length-map}
use Rattle.std.proofs.lemmas.List.FromFn.{length-range_with_len}
use Rattle.std.proofs.lemmas.List.Elements.{Contains-append_cases, Contains-append_left, Contains-append_right}
use Rattle.g1_words.specs.Heap.{Heap, region, start, end, free_region}
use Rattle.g1_words.specs.Valid.{IsObject, Tiles, HoldsBy, HasObject}
use Rattle.g1_words.specs.declared.object.Object.{Object}
use Rattle.g1_words.specs.declared.region.Region.{Region}
use Rattle.g1_words.specs.declared.region.Kind.{Kind}
use Rattle.g1_words.specs.declared.region.Kind.TheVariants.{Free, Ordinary, HumongousFirst, Continuation}
use Rattle.g1_words.proofs.Tiling.{same_object, Tiles-one}
use Rattle.g1_image.specs.Image.{entry_of, all_words}
use Rattle.g1_text.specs.Laid.{used_addresses, EndToEnd, StartIn, StartInEach}
use Rattle.g1_words.proofs.Members.{none_contains}

-- WORDS at addresses

pub split_front : {A : Type 0} (a b c d : List A) → a ++ b ≡ c ++ d → length a ≡ length c → (a ≡ c) × (b ≡ d)
split_front [] b [] d e l = (refl, e)
split_front [] b (y ∷ c) d e l = absurd (omega (arith, l))
split_front (x ∷ a) b [] d e l = absurd (omega (arith, l))
split_front (x ∷ a) b (y ∷ c) d e l =
    let first : x ≡ y = ap (λ l. get_or l 0 x) e in
    let rest = split_front a b c d (ap (drop 1) e) (omega (arith, l)) in
    ((λ t. first t ∷ rest.0 t), rest.1)

-- the elements of a list at the places of its middle part
window : (pre mid post : List ℕ) → map (λ a. slice_index (pre ++ (mid ++ post)) a) (range_with_len (length pre) (length mid)) ≡ mid
window pre [] post = refl
window pre (x ∷ mid) post =
    let first : slice_index (pre ++ (x ∷ (mid ++ post))) (length pre) ≡ x = get_or_at pre x (mid ++ post) 0 (length pre) refl in
    let whole : (pre ++ x ∷ []) ++ (mid ++ post) ≡ pre ++ (x ∷ (mid ++ post)) = append_assoc pre (x ∷ []) (mid ++ post) in
    let next : length (pre ++ x ∷ []) ≡ length pre + 1 = length_push pre x in
    let rest : map (λ a. slice_index (pre ++ (x ∷ (mid ++ post))) a) (range_with_len (length pre + 1) (length mid)) ≡ mid =
    (λ t. map (λ a. slice_index (sym whole t) a) (range_with_len (sym next t) (length mid))) ∙ window (pre ++ x ∷ []) mid post in
    λ t. first t ∷ rest t

-- the words of the regions, where each region has its used ones first
pub laid_words : (w : ℕ) (pre : List ℕ) (qs : List Region) (ws : List ℕ) → All (λ q. q.top ≤ w) qs → length ws ≡ length (used_addresses w (length pre) qs)
    → map (λ a. slice_index (pre ++ all_words w (map entry_of qs) ws) a) (used_addresses w (length pre) qs) ≡ ws
laid_words w pre [] ws tops e = sym (nil_from_length ws e)
laid_words w pre (q ∷ qs) ws tops e =
    let top : q.top ≤ w = tops 0 q (omega arith) in
    let first : List ℕ = take (min q.top w) ws in
    let zeros : List ℕ = replicate (w - q.top) 0 in
    let others : List ℕ = all_words w (map entry_of qs) (drop q.top ws) in
    let least : min q.top w ≡ q.top = omega (arith, top) in
    let count = length-append (range_with_len (length pre) q.top) (used_addresses w (length pre + w) qs) in
    let own = length-range_with_len (length pre) q.top in
    let taken : length first ≡ q.top = omega (arith, length-take (min q.top w) ws, least, e, count, own) in
    let here : map (λ a. slice_index (pre ++ (first ++ (zeros ++ others))) a) (range_with_len (length pre) q.top) ≡ first =
    ap (λ n. map (λ a. slice_index (pre ++ (first ++ (zeros ++ others))) a) (range_with_len (length pre) n)) (sym taken) ∙ window pre first (zeros ++ others) in
    let front : List ℕ = pre ++ (first ++ zeros) in
    let past : length front ≡ length pre + w = omega (arith, length-append pre (first ++ zeros), length-append first zeros, length-replicate {A = ℕ} (w - q.top) 0, taken, top) in
    let whole : front ++ others ≡ pre ++ (first ++ (zeros ++ others)) = append_assoc pre (first ++ zeros) others ∙ ap (λ l. pre ++ l) (append_assoc first zeros others) in
    let left : length (drop q.top ws) ≡ length (used_addresses w (length front) qs) =
    (let far = ap (λ n. length (used_addresses w n qs)) past in let dropped = length_drop q.top ws in omega (arith, dropped, far, e, count, own)) in
    let there : map (λ a. slice_index (pre ++ (first ++ (zeros ++ others))) a) (used_addresses w (length pre + w) qs) ≡ drop q.top ws =
    (λ t. map (λ a. slice_index (sym whole t) a) (used_addresses w (sym past t) qs)) ∙ laid_words w front qs (drop q.top ws) (λ k d lt. tops (suc k) d (omega (arith, lt))) left in
    map-append (λ a. slice_index (pre ++ (first ++ (zeros ++ others))) a) (range_with_len (length pre) q.top) (used_addresses w (length pre + w) qs)
    ∙ (λ t. here t ++ there t) ∙ ap (λ n. take n ws ++ drop q.top ws) least ∙ take-append-drop q.top ws
  where
    length_drop : (n : ℕ) (xs : List ℕ) → length (drop n xs) ≡ length xs - n
    length_drop zero xs = omega arith
    length_drop (suc n) [] = omega arith
    length_drop (suc n) (x ∷ xs) = let rest = length_drop n xs in omega (arith, rest)

-- the words of each of several pieces
pub split_words : {A : Type 0} (f : ℕ → ℕ) (addresses : A → List ℕ) (xs : List A) (wordss : List (List ℕ)) → AllZip (λ x ws. length (addresses x) ≡ length ws) xs wordss
    → map f (flat_map addresses xs) ≡ flat_map (λ ws. ws) wordss → AllZip (λ x ws. map f (addresses x) ≡ ws) xs wordss
split_words f addresses [] [] sizes e = tt
split_words f addresses [] (ws ∷ wordss) sizes e = elim sizes [ ]
split_words f addresses (x ∷ xs) [] sizes e = elim sizes [ ]
split_words f addresses (x ∷ xs) (ws ∷ wordss) sizes e =
    let apart = sym (map-append f (addresses x) (flat_map addresses xs)) ∙ e in
    let parts = split_front (map f (addresses x)) (map f (flat_map addresses xs)) ws (flat_map (λ ws. ws) wordss) apart (length-map (addresses x) f ∙ sizes.0) in
    (parts.0, split_words f addresses xs wordss sizes.1 parts.1)

pub zip_weaker : {A B : Type 0} (R Q : A → B → Type 0) → ((x : A) (y : B) → R x y → Q x y) → (xs : List A) (ys : List B) → AllZip R xs ys → AllZip Q xs ys
zip_weaker R Q f [] [] all = tt
zip_weaker R Q f [] (y ∷ ys) all = elim all [ ]
zip_weaker R Q f (x ∷ xs) [] all = elim all [ ]
zip_weaker R Q f (x ∷ xs) (y ∷ ys) all = (f x y all.0, zip_weaker R Q f xs ys all.1)

-- what holds of an element in two zips
pub zip_both : {A B : Type 0} (R Q : A → B → Type 0) (xs : List A) (ys : List B) (x : A) → AllZip R xs ys → AllZip Q xs ys → Contains xs x → (y : B) × R x y × Q x y
zip_both R Q [] [] x r q i = absurd (omega (arith, i.1))
zip_both R Q [] (b ∷ ys) x r q i = absurd (omega (arith, i.1))
zip_both R Q (a ∷ xs) [] x r q i = elim r [ ]
zip_both R Q (a ∷ xs) (b ∷ ys) x r q (zero, lt, e) = (b, subst (λ z. R z b) e r.0, subst (λ z. Q z b) e q.0)
zip_both R Q (a ∷ xs) (b ∷ ys) x r q (suc k, lt, e) = zip_both R Q xs ys x r.1 q.1 (k, omega (arith, lt), e)

-- OBJECTS in regions

tiles_of : (words : List ℕ) (from : ℕ) (os : List Object) (to : ℕ) → EndToEnd from os to → ((o : Object) → Contains os o → IsObject words o) → Tiles words from os to
tiles_of words from [] to e each = e
tiles_of words from (o ∷ os) to e each = (e.0, each o (zero, omega arith, refl), tiles_of words (from + o.size) os to e.1 (λ q i. each q (suc i.0, omega (arith, i.1), i.2)))

holds_of : (k : Kind) (h : Heap) (r : ℕ) (os : List Object) → (region h r).kind ≡ k → StartIn k (start h r) (region h r).top os → ((o : Object) → Contains os o → IsObject h.words o) → HoldsBy k h r os
holds_of Free h r os e st each = st
holds_of Ordinary h r os e st each = tiles_of h.words (start h r) os (end h r) st each
holds_of HumongousFirst h r os e st each = (st.0, record { kind = e; at = st.2; object = each st.0 (subst (λ l. Contains l st.0) (sym st.1) (zero, omega arith, refl)) }, st.1)
holds_of Continuation h r os e st each = st

holds_one : (k : Kind) (h : Heap) (r : ℕ) (os qs : List Object) → HoldsBy k h r os → HoldsBy k h r qs → os ≡ qs
holds_one Free h r os qs a b = a ∙ sym b
holds_one Ordinary h r os qs a b = Tiles-one h.words (start h r) os qs (end h r) a b
holds_one HumongousFirst h r os qs a b = a.2 ∙ ap (λ o. o ∷ []) (same_object h.words a.0 b.0 a.1.object b.1.object (a.1.at ∙ sym b.1.at)) ∙ sym b.2
holds_one Continuation h r os qs a b = a ∙ sym b

-- the objects of one region
pub record StartThere (w from : ℕ) (qs : List Region) (os : List Object) (r : ℕ) : Type 0 where
  pub front : List Object
  pub there : StartIn (slice_index_or qs r free_region).kind (from + r * w) (slice_index_or qs r free_region).top front
  pub among : (o : Object) → Contains front o → Contains os o

start_there : (w from : ℕ) (qs : List Region) (os : List Object) (r : ℕ) → StartInEach w from qs os → r < length qs → StartThere w from qs os r
start_there w from [] os r each lt = absurd (omega (arith, lt))
start_there w from (q ∷ qs) os zero each lt =
    let here : from ≡ from + 0 * w = omega arith in
    record { front = each.0; there = subst (λ b. StartIn q.kind b q.top each.0) here each.3; among = λ o i. subst (λ l. Contains l o) (sym each.2) (Contains-append_left each.0 each.1 o i) }
start_there w from (q ∷ qs) os (suc r) each lt =
    let rest = start_there w (from + w) qs each.1 r each.4 (omega (arith, lt)) in
    let here : from + w + r * w ≡ from + suc r * w = omega arith in
    record {
      front = rest.front;
      there = subst (λ b. StartIn (slice_index_or qs r free_region).kind b (slice_index_or qs r free_region).top rest.front) here rest.there;
      among = λ o i. subst (λ l. Contains l o) (sym each.2) (Contains-append_right each.0 each.1 o (rest.among o i));
    }

-- the region of an object
find_start : (w from : ℕ) (qs : List Region) (os : List Object) (o : Object) → StartInEach w from qs os → Contains os o
    → (r : ℕ) × (r < length qs) × (front : List Object) × StartIn (slice_index_or qs r free_region).kind (from + r * w) (slice_index_or qs r free_region).top front × Contains front o
    × ((p : Object) → Contains front p → Contains os p)
find_start w from [] os o each i = absurd (none_contains o (subst (λ l. Contains l o) each i))
find_start w from (q ∷ qs) os o each i = elim (Contains-append_cases each.0 each.1 o (subst (λ l. Contains l o) each.2 i)) [
  | inl k ↦
      (let here : from ≡ from + 0 * w = omega arith in
      (0, omega arith, each.0, subst (λ b. StartIn q.kind b q.top each.0) here each.3, k, (λ p m. subst (λ l. Contains l p) (sym each.2) (Contains-append_left each.0 each.1 p m))))
  | inr k ↦
      (let s = find_start w (from + w) qs each.1 o each.4 k in
      let here : from + w + s.0 * w ≡ from + suc s.0 * w = omega arith in (
        suc s.0,
        omega (arith, s.1),
        s.2,
        subst (λ b. StartIn (slice_index_or qs s.0 free_region).kind b (slice_index_or qs s.0 free_region).top s.2) here s.3,
        s.4,
        (λ p m. subst (λ l. Contains l p) (sym each.2) (Contains-append_right each.0 each.1 p (s.5 p m))),
      ))
]

module _ (h : Heap) (os : List Object) (count : length h.regions ≡ h.geometry.n) (starts : StartInEach h.geometry.w 0 h.regions os) (each : (o : Object) → Contains os o → IsObject h.words o) where
  at_start : (r : ℕ) → 0 + r * h.geometry.w ≡ start h r
  at_start r = omega arith

  -- each of these objects is one of the heap's
  pub is_there : (o : Object) → Contains os o → HasObject h o
  is_there o i =
      let s = find_start h.geometry.w 0 h.regions os o starts i in
      let st : StartIn (region h s.0).kind (start h s.0) (region h s.0).top s.2 = subst (λ b. StartIn (region h s.0).kind b (region h s.0).top s.2) (at_start s.0) s.3 in
      record {
        place = s.0;
        others = s.2;
        in_heap = omega (arith, s.1, count);
        holds = holds_of (region h s.0).kind h s.0 s.2 refl st (λ p m. each p (s.5 p m));
        one_of = s.4;
      }

  -- the heap has no other one
  pub no_other : (o : Object) → HasObject h o → Contains os o
  no_other o has =
      let r : ℕ = has.place in
      let s = start_there h.geometry.w 0 h.regions os r starts (omega (arith, has.in_heap, count)) in
      let st : StartIn (region h r).kind (start h r) (region h r).top s.front = subst (λ b. StartIn (region h r).kind b (region h r).top s.front) (at_start r) s.there in
      let holds : HoldsBy (region h r).kind h r s.front = holds_of (region h r).kind h r s.front refl st (λ p m. each p (s.among p m)) in
      let same : has.others ≡ s.front = holds_one (region h r).kind h r has.others s.front has.holds holds in
      s.among o (subst (λ l. Contains l o) same has.one_of)
