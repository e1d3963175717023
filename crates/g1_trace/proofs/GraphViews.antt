-- Heaps with the same graph are views of the same objects.
use Rattle.std.proofs.Common.{◌≡◌, ℕ, zero, suc, ◌+◌, ◌-◌, ◌/◌, ◌%◌, ◌^◌, ◌<◌, List, [], ◌∷◌, ◌++◌, length, get_or, drop, map, flat_map, Contains, refl, sym, ◌∙◌, ap, subst, arith}
use Rattle.std.proofs.lemmas.List.{length-map}
use Rattle.std.proofs.lemmas.List.FromFn.{length-map-range_with_len}
use Rattle.g1_words.specs.Heap.{Heap, object_at, word, slots}
use Rattle.g1_words.specs.References.{named, targets}
use Rattle.g1_words.specs.Live.{seed, child, Live}
use Rattle.g1_words.specs.Copy.{renamed, words_at, renamed_words}
use Rattle.g1_words.specs.Graph.{SameGraph}
use Rattle.g1_trace.specs.Commands.{View}
use Rattle.g1_trace.specs.Mutator.{heap_view}
use Rattle.g1_trace.specs.Views.{Seen, SameView}
use Rattle.g1_trace.proofs.Views.{both_seen}

named_of_words : (h : Heap) (ps : List ℕ) → flat_map named (map (word h) ps) ≡ flat_map (λ p. named (word h p)) ps
named_of_words h [] = refl
named_of_words h (p ∷ ps) = ap (λ xs. named (word h p) ++ xs) (named_of_words h ps)

children_same : (h : Heap) (b : ℕ) → flat_map named ((heap_view h).slots b) ≡ targets h b
children_same h b = named_of_words h (slots (object_at h b))

pub seen_live : (h : Heap) (a : ℕ) → Seen (heap_view h) a → Live h a
seen_live h a (seed c) = seed c
seen_live h b (child {a = a} r c) = child (seen_live h a r) (subst (λ xs. Contains xs b) (children_same h a) c)

append_parts : (xs ys ps qs : List ℕ) → length xs ≡ length ys → xs ++ ps ≡ ys ++ qs → (xs ≡ ys) × (ps ≡ qs)
append_parts [] [] ps qs n e = (refl, e)
append_parts [] (y ∷ ys) ps qs n e = absurd (omega (arith, n))
append_parts (x ∷ xs) [] ps qs n e = absurd (omega (arith, n))
append_parts (x ∷ xs) (y ∷ ys) ps qs n e =
    let first : x ≡ y = ap (λ zs. get_or zs 0 0) e in
    let rest = append_parts xs ys ps qs (omega (arith, n)) (ap (drop 1) e) in
    (λ t. first t ∷ rest.0 t, rest.1)

words_split : (h : Heap) (a m n k : ℕ) → k ≡ m + n → words_at h a k ≡ words_at h a m ++ words_at h (a + m) n
words_split h a zero n k e =
    let q : k ≡ n = omega (arith, e) in
    let z : a ≡ a + 0 = omega arith in
    ap (words_at h a) q ∙ ap (λ x. words_at h x n) z
words_split h a (suc m) n zero e = absurd (omega (arith, e))
words_split h a (suc m) n (suc k) e =
    let q : k ≡ m + n = omega (arith, e) in
    let z : a + 1 + m ≡ a + suc m = omega arith in
    ap (λ xs. word h a ∷ xs) (words_split h (a + 1) m n k q ∙ ap (λ x. words_at h (a + 1) m ++ words_at h x n) z)

module _ (f : ℕ → ℕ) (h j : Heap) (a : ℕ) (fits : (object_at h a).refs < (object_at h a).size) (copy : words_at j (f a) (object_at h a).size ≡ renamed_words f h (object_at h a)) where
  first_and_rest : (n : ℕ) → (object_at h a).size ≡ suc n → (word j (f a) ≡ word h a)
      × (words_at j (f a + 1) n ≡ map (renamed f) (words_at h (a + 1) (object_at h a).refs) ++ words_at h (a + 1 + (object_at h a).refs) ((object_at h a).size - 1 - (object_at h a).refs))
  first_and_rest n e =
      let c : word j (f a) ∷ words_at j (f a + 1) n ≡ renamed_words f h (object_at h a) = ap (words_at j (f a)) (sym e) ∙ copy in
      (ap (λ zs. get_or zs 0 0) c, ap (drop 1) c)

  parts : (word j (f a) ≡ word h a) × (words_at j (f a + 1) (object_at h a).refs ≡ map (renamed f) (words_at h (a + 1) (object_at h a).refs))
      × (words_at j (f a + 1 + (object_at h a).refs) ((object_at h a).size - 1 - (object_at h a).refs) ≡ words_at h (a + 1 + (object_at h a).refs) ((object_at h a).size - 1 - (object_at h a).refs))
  parts =
      let size : ℕ = (object_at h a).size in
      let rs : ℕ = (object_at h a).refs in
      let lt : rs < size = fits in
      let e : size ≡ suc (size - 1) = omega (arith, lt) in
      let c = first_and_rest (size - 1) e in
      let n : size - 1 ≡ rs + (size - 1 - rs) = omega (arith, lt) in
      let len : length (words_at j (f a + 1) rs) ≡ length (map (renamed f) (words_at h (a + 1) rs)) =
      length-map-range_with_len (word j) (f a + 1) rs ∙ sym (length-map (words_at h (a + 1) rs) (renamed f) ∙ length-map-range_with_len (word h) (a + 1) rs) in
      let both = append_parts (words_at j (f a + 1) rs) (map (renamed f) (words_at h (a + 1) rs)) (words_at j (f a + 1 + rs) (size - 1 - rs))
      (words_at h (a + 1 + rs) (size - 1 - rs)) len (sym (words_split j (f a + 1) rs (size - 1 - rs) (size - 1) n) ∙ c.1) in
      (c.0, both.0, both.1)

pub graph_view : (h j : Heap) → ((a : ℕ) → Seen (heap_view h) a → (object_at h a).refs < (object_at h a).size) → SameGraph h j → SameView (heap_view h) (heap_view j)
graph_view h j fits g =
    let f : ℕ → ℕ = g.rename in
    record {
      rename = f;
      one_to_one = λ a b p q. g.one_to_one a b (seen_live h a p) (seen_live h b q);
      roots = g.roots;
      slots = λ a s. let c = parts f h j a (fits a s) (g.copies a (seen_live h a s)) in ap (λ x. words_at j (f a + 1) (x % 2 ^ 32)) c.0 ∙ c.1;
      values = λ a s. let c = parts f h j a (fits a s) (g.copies a (seen_live h a s)) in ap (λ x. words_at j (f a + 1 + x % 2 ^ 32) (x / 2 ^ 32 - 1 - x % 2 ^ 32)) c.0 ∙ c.2;
    }

renamed_twice : (f g : ℕ → ℕ) (xs : List ℕ) → map (renamed g) (map (renamed f) xs) ≡ map (renamed (λ x. g (f x))) xs
renamed_twice f g [] = refl
renamed_twice f g (zero ∷ xs) = ap (λ ys. 0 ∷ ys) (renamed_twice f g xs)
renamed_twice f g (suc x ∷ xs) = ap (λ ys. suc (g (f x)) ∷ ys) (renamed_twice f g xs)

pub same_view_trans : (v u w : View) → SameView v u → SameView u w → SameView v w
same_view_trans v u w a b =
    let there : (x : ℕ) → Seen v x → Seen u (a.rename x) = λ x s. (both_seen v u a x s).1 in
    record {
      rename = λ x. b.rename (a.rename x);
      one_to_one = λ x y p q e. a.one_to_one x y p q (b.one_to_one (a.rename x) (a.rename y) (there x p) (there y q) e);
      roots = b.roots ∙ ap (map (renamed b.rename)) a.roots ∙ renamed_twice a.rename b.rename v.roots;
      slots = λ x s. b.slots (a.rename x) (there x s) ∙ ap (map (renamed b.rename)) (a.slots x s) ∙ renamed_twice a.rename b.rename (v.slots x);
      values = λ x s. b.values (a.rename x) (there x s) ∙ a.values x s;
    }
