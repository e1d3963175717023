-- Objects counted in parts.
use Rattle.std.proofs.Common.{◌≡◌, ◌<◌, ℕ, ◌+◌, ◌*◌, Bool, true, false, cond, ◌||◌, List, [], ◌∷◌, ◌++◌, ◌^◌, map, filter, length, take, drop, slice_index, arith, refl, sym, ap, subst, ◌∙◌, Contains, zero, suc}
use Rattle.std.specs.Prelude.{Result, Ok, Err, IfOk}
use Rattle.std.specs.Global.{Vec}
use Rattle.std.proofs.Math.Seq.{take-add}
use Rattle.std.proofs.lemmas.List.{take-append-drop}
use Rattle.std.proofs.lemmas.List.FromFn.{get_or-map-range_with_len, length-map-range_with_len}
use Rattle.std.proofs.lemmas.List.Elements.{Contains-append_left, Contains-append_right}
use Rattle.g1_words.specs.declared.object.Object.{Object}
use Rattle.g1_words.specs.Heap.{Heap, regions, objects_in}
use Rattle.g1_words.specs.Lists.{has}
use Rattle.g1_words.specs.Live.{bytes_where}
use Rattle.g1_words.specs.Survivors.{firsts}
use Rattle.g1_words.specs.Valid.{IsValid}
use Rattle.g1_words.proofs.Firsts.{Distinct, Distinct-firsts}
use Rattle.g1_words.proofs.Members.{Contains-from_has, none_contains}
use Rattle.g1_words.proofs.Lists.{has_both, firsts_distinct}
use Rattle.g1_mark.proofs.Counting.{AreBytesOf, bytes_few}
use Rattle.g1_mark.proofs.Sums.{sizes, size_kept}

-- ---- lists without repeats

left_apart : (xs ys : List ℕ) → Distinct (xs ++ ys) → Distinct xs
left_apart [] ys d = tt
left_apart (x ∷ xs) ys d = ((λ i. d.0 (Contains-append_left xs ys x i)), left_apart xs ys d.1)

right_apart : (xs ys : List ℕ) → Distinct (xs ++ ys) → Distinct ys
right_apart [] ys d = d
right_apart (x ∷ xs) ys d = right_apart xs ys d.1

both_apart : (xs ys : List ℕ) → Distinct (xs ++ ys) → (x : ℕ) → Contains xs x → Contains ys x → ⊥
both_apart [] ys d x i j = none_contains x i
both_apart (y ∷ xs) ys d x (zero, b, e) j = d.0 (Contains-append_right xs ys y (subst (Contains ys) (sym e) j))
both_apart (y ∷ xs) ys d x (suc k, b, e) j = both_apart xs ys d.1 x (k, omega (arith, b), e) j

module _ (xs : List ℕ) (once : xs ≡ firsts xs) where
  whole_apart : Distinct xs
  whole_apart = subst Distinct (sym once) (Distinct-firsts xs)

  front_apart : (n : ℕ) → Distinct (take n xs)
  front_apart n = left_apart (take n xs) (drop n xs) (subst Distinct (sym (take-append-drop n xs)) whole_apart)

  -- the first so many, and a chunk behind them
  chunk_next : (n size : ℕ) → take ((n + 1) * size) xs ≡ take (n * size) xs ++ take size (drop (n * size) xs)
  chunk_next n size = let e : (n + 1) * size ≡ n * size + size = omega arith in ap (λ k. take k xs) e ∙ take-add (n * size) size xs

  chunks_apart : (n size : ℕ) → Distinct (take (n * size) xs ++ take size (drop (n * size) xs))
  chunks_apart n size = subst Distinct (chunk_next n size) (front_apart ((n + 1) * size))

  -- a part has no repeats
  pub part_once : (start size : ℕ) → take size (drop start xs) ≡ firsts (take size (drop start xs))
  part_once start size =
      let behind : Distinct (drop start xs) = right_apart (take start xs) (drop start xs) (subst Distinct (sym (take-append-drop start xs)) whole_apart) in
      sym (firsts_distinct (take size (drop start xs)) (left_apart (take size (drop start xs)) (drop size (drop start xs)) (subst Distinct (sym (take-append-drop size (drop start xs))) behind)))

  -- nothing stands in a chunk and before it
  chunk_new : (n size x : ℕ) → Contains (take (n * size) xs) x → Contains (take size (drop (n * size) xs)) x → ⊥
  chunk_new n size = both_apart (take (n * size) xs) (take size (drop (n * size) xs)) (chunks_apart n size)

-- ---- sums over two lists

one_of_both : (v w : List ℕ) (n x : ℕ) (b c : Bool) → (Contains v x → Contains w x → ⊥) → has v x ≡ b → has w x ≡ c → cond (b || c) n 0 ≡ cond b n 0 + cond c n 0
one_of_both v w n x true true d e f = absurd (d (Contains-from_has v x e) (Contains-from_has w x f))
one_of_both v w n x true false d e f = omega arith
one_of_both v w n x false true d e f = omega arith
one_of_both v w n x false false d e f = omega arith

sizes_both : (v w : List ℕ) (os : List Object) → ((x : ℕ) → Contains v x → Contains w x → ⊥)
    → sizes (filter (λ o. has (v ++ w) o.at) os) ≡ sizes (filter (λ o. has v o.at) os) + sizes (filter (λ o. has w o.at) os)
sizes_both v w [] d = omega arith
sizes_both v w (o ∷ os) d =
    let rest = sizes_both v w os d in
    let both = size_kept o (filter (λ o. has (v ++ w) o.at) os) (has (v ++ w) o.at) in
    let left = size_kept o (filter (λ o. has v o.at) os) (has v o.at) in
    let right = size_kept o (filter (λ o. has w o.at) os) (has w o.at) in
    let here : cond (has (v ++ w) o.at) o.size 0 ≡ cond (has v o.at) o.size 0 + cond (has w o.at) o.size 0 =
    ap (λ b. cond b o.size 0) (has_both v w o.at) ∙ one_of_both v w o.size o.at (has v o.at) (has w o.at) (d o.at) refl refl in
    omega (arith, rest, both, left, right, here)

module _ (h : Heap) where
  bytes_both : (v w : List ℕ) (r : ℕ) → ((x : ℕ) → Contains v x → Contains w x → ⊥) → bytes_where h (has (v ++ w)) r ≡ bytes_where h (has v) r + bytes_where h (has w) r
  bytes_both v w r d = let k = sizes_both v w (objects_in h r) d in omega (arith, k)

  module _ (xs : List ℕ) (once : xs ≡ firsts xs) (n size : ℕ) (bytes more : List ℕ) (before : AreBytesOf h (take (n * size) xs) bytes)
      (part : more ≡ map (bytes_where h (has (take size (drop (n * size) xs)))) (regions h)) where
    more_long : length more ≡ h.geometry.n
    more_long = ap length part ∙ length-map-range_with_len (bytes_where h (has (take size (drop (n * size) xs)))) 0 h.geometry.n

    more_at : (r : ℕ) → r < h.geometry.n → slice_index more r ≡ bytes_where h (has (take size (drop (n * size) xs))) r
    more_at r lt = ap (λ l. slice_index l r) part ∙ get_or-map-range_with_len (bytes_where h (has (take size (drop (n * size) xs)))) 0 h.geometry.n r r 0 lt (omega arith)

    pub as_long : length more ≡ length bytes
    as_long = more_long ∙ sym before.one_each

    -- two sums of bytes are far below what a word holds
    pub sums_small : IsValid h → (r : ℕ) → r < length more → slice_index bytes r + slice_index more r < 2 ^ 64
    sums_small valid r lt =
        let low : r < h.geometry.n = omega (arith, lt, more_long) in
        let a = before.each r low in
        let b = more_at r low in
        let few = bytes_few h valid (has (take (n * size) xs)) r low in
        let few_more = bytes_few h valid (has (take size (drop (n * size) xs))) r low in
        omega (arith, a, b, few, few_more)

    -- one more chunk
    pub counted_parts : (sum : List ℕ) → length sum ≡ length bytes → ((r : ℕ) → r < length more → slice_index sum r ≡ slice_index bytes r + slice_index more r)
        → AreBytesOf h (take ((n + 1) * size) xs) sum
    counted_parts sum same sums =
        subst (λ l. AreBytesOf h l sum) (sym (chunk_next xs once n size)) (record {
          one_each = same ∙ before.one_each;
          each = λ r lt.
              let s = sums r (omega (arith, lt, more_long)) in
              let a = before.each r lt in
              let b = more_at r lt in
              let both = bytes_both (take (n * size) xs) (take size (drop (n * size) xs)) r (chunk_new xs once n size) in
              omega (arith, s, a, b, both);
        })

-- what a thread added up
pub added_part : {E : Type 0} (h : Heap) (r : Result (Vec ℕ) E) (v : Vec ℕ) (part next : List ℕ) → r ≡ Ok v
    → IfOk r (λ x. x.items ≡ map (bytes_where h (has part)) (regions h)) → part ≡ next → v.items ≡ map (bytes_where h (has next)) (regions h)
added_part h (Ok x) v part next is made e = let same : x ≡ v = cc in
    subst (λ (l : List ℕ). v.items ≡ map (bytes_where h (has l)) (regions h)) e (subst (λ (y : Vec ℕ). y.items ≡ map (bytes_where h (has part)) (regions h)) same made)
added_part h (Err x) v part next is made e = let clash : Err x ≡ Ok v = is in absurd cc
