-- A walk that links everything has found the objects in breadth-first order, and tells the renaming.
use Rattle.std.proofs.Common.{◌≡◌, ℕ, zero, suc, ◌+◌, ◌<◌, ◌≤◌, ◌⊎◌, inl, inr, not, cond, List, [], ◌∷◌, ◌++◌, length, take, flat_map, refl, sym, ap, subst, ◌∙◌, arith, slice_index, Contains}
use Rattle.std.proofs.Common.{append_assoc, append-nil}
use Rattle.std.specs.List.{range_with_len}
use Rattle.std.proofs.lemmas.Bool.{cases_lt}
use Rattle.std.proofs.lemmas.List.{take_all, take_more}
use Rattle.std.proofs.lemmas.Grind.{flat_map-append}
use Rattle.std.proofs.lemmas.List.Elements.{Contains-get_or}
use Rattle.g1_words.specs.Heap.{Heap, word, object_at}
use Rattle.g1_words.specs.Valid.{IsValid}
use Rattle.g1_words.specs.Live.{Live}
use Rattle.g1_words.specs.References.{named, root_targets, targets}
use Rattle.g1_words.specs.Survivors.{firsts, IsBreadthFirst}
use Rattle.g1_words.proofs.Members.{has_from_contains}
use Rattle.g1_words.proofs.Firsts.{Contains-firsts, firsts_member, firsts-append}
use Rattle.g1_words.proofs.Indices.{Contains-take, take_cases, not_has}
use Rattle.g1_words.proofs.Lists.{range_more}
use Rattle.g1_same.specs.declared.walk.Walk.{Walk}
use Rattle.g1_same.specs.Same.{IsRenaming}
use Rattle.g1_same.specs.Walk.{IsWay, IsWalk, IsEarlier, IsLinked}
use Rattle.g1_same.proofs.Linked.{LinksRoots, LinksPairs}
use Rattle.g1_same.proofs.Adding.{earlier_next}
use Rattle.g1_same.proofs.Tables.{place_of}
use Rattle.g1_same.proofs.Renamed.{found, live_at, once, same, images}

-- ---- first occurrences of one number more

firsts_known : (xs : List ℕ) (x : ℕ) → Contains xs x → firsts (xs ++ x ∷ []) ≡ firsts xs
firsts_known xs x h = firsts-append xs (x ∷ []) ∙ ap (λ b. firsts xs ++ cond (not b) (x ∷ []) []) (has_from_contains xs x h) ∙ append-nil (firsts xs)

firsts_new : (xs : List ℕ) (x : ℕ) → (Contains xs x → ⊥) → firsts (xs ++ x ∷ []) ≡ firsts xs ++ x ∷ []
firsts_new xs x h = firsts-append xs (x ∷ []) ∙ ap (λ b. firsts xs ++ cond (not b) (x ∷ []) []) (not_has xs x h)

-- ---- ways

pub earlier_cases : (f m k n : ℕ) → IsEarlier f m k (n + 1) → IsEarlier f m k n ⊎ ((f ≡ k) × (m ≡ n))
earlier_cases f m k n (inl e) = inl (inl e)
earlier_cases f m k n (inr e) = elim (cases_lt m n) [ inl l ↦ inl (inr (e.0, l)) | inr l ↦ inr (e.0, omega (arith, e.1, l)) ]

pub earlier_up : (f m k n : ℕ) → IsEarlier f m k n → IsEarlier f m (suc k) 0
earlier_up f m k n (inl e) = inl (omega (arith, e))
earlier_up f m k n (inr e) = inl (omega (arith, e.0))

earlier_down : (f m k n : ℕ) → (f ≡ k → m < n) → IsEarlier f m (suc k) 0 → IsEarlier f m k n
earlier_down f m k n few (inl e) = elim (cases_lt f k) [ inl l ↦ inl l | inr l ↦ let s : f ≡ k = omega (arith, e, l) in inr (s, few s) ]
earlier_down f m k n few (inr e) = absurd (omega (arith, e.1))

-- the first pairs are those that ways before this one found, and they are the first occurrences of what these ways name
record IsFront (w : Walk) (l : List ℕ) (f n m : ℕ) : Type 0 where
  most : m ≤ length w.before.items
  names : firsts l ≡ take m w.before.items
  under : (i : ℕ) → i < m → IsEarlier (slice_index w.from.items i) (slice_index w.number.items i) f n
  over : (i : ℕ) → m ≤ i → i < length w.before.items → IsEarlier (slice_index w.from.items i) (slice_index w.number.items i) f n → ⊥

module _ (g h : Heap) (left : IsValid g) (right : IsValid h) (w : Walk) (walk : IsWalk g h w) where
  way_at : (i f n : ℕ) → i < length w.before.items → slice_index w.from.items i ≡ f → slice_index w.number.items i ≡ n
      → IsWay g h w.before.items w.after.items f n (suc (slice_index w.before.items i)) (suc (slice_index w.after.items i))
  way_at i f n p ef en =
      let x : ℕ = suc (slice_index w.before.items i) in
      let y : ℕ = suc (slice_index w.after.items i) in
      subst (λ z. IsWay g h w.before.items w.after.items z n x y) ef (subst (λ z. IsWay g h w.before.items w.after.items (slice_index w.from.items i) z x y) en (walk.ways i p))

  -- the words of one more way
  step : (l : List ℕ) (f n m x y : ℕ) → IsFront w l f n m → IsLinked w f n x y
      → ((i : ℕ) → i < length w.before.items → slice_index w.from.items i ≡ f → slice_index w.number.items i ≡ n → x ≡ suc (slice_index w.before.items i))
      → (k : ℕ) × IsFront w (l ++ named x) f (n + 1) k
  step l f n m x y front (inl e) here = (
    m,
    record {
      most = front.most;
      names = ap (λ z. firsts (l ++ named z)) e.0 ∙ ap firsts (append-nil l) ∙ front.names;
      under = λ i p. earlier_next (slice_index w.from.items i) (slice_index w.number.items i) f n (front.under i p);
      over = λ i p q r. elim (earlier_cases (slice_index w.from.items i) (slice_index w.number.items i) f n r) [
        | inl s ↦ front.over i p q s
        | inr s ↦ let k = here i q s.0 s.1 in absurd (omega (arith, e.0, k))
      ];
    },
  )
  step l f n m x y front (inr k) here =
      let a : ℕ = slice_index w.before.items k.0 in
      let again : firsts (l ++ named x) ≡ firsts (l ++ a ∷ []) = ap (λ z. firsts (l ++ named z)) k.2 in
      elim (cases_lt k.0 m) [
        | inl p ↦
            let there : Contains l a = firsts_member l a (subst (λ z. Contains z a) (sym front.names) (Contains-take m w.before.items k.0 0 p k.1)) in (
              m,
              record {
                most = front.most;
                names = again ∙ firsts_known l a there ∙ front.names;
                under = λ i q. earlier_next (slice_index w.from.items i) (slice_index w.number.items i) f n (front.under i q);
                over = λ i q r s. elim (earlier_cases (slice_index w.from.items i) (slice_index w.number.items i) f n s) [
                  | inl t ↦ front.over i q r t
                  | inr t ↦
                      let e : slice_index w.before.items k.0 ≡ slice_index w.before.items i = let u = here i r t.0 t.1 in omega (arith, u, k.2) in
                      let o : k.0 ≡ i = once g h left right w walk k.0 i k.1 r e in
                      absurd (omega (arith, o, p, q))
                ];
              },
            )
        | inr p ↦
            let exact : (slice_index w.from.items k.0 ≡ f) × (slice_index w.number.items k.0 ≡ n) = elim (earlier_cases (slice_index w.from.items k.0) (slice_index w.number.items k.0) f n k.4) [
              | inl t ↦ absurd (front.over k.0 p k.1 t)
              | inr t ↦ t
            ] in
            let last : k.0 ≡ m = elim (cases_lt m k.0) [
              | inl q ↦
                  let rise = walk.rising m k.0 q k.1 in
                  let low : IsEarlier (slice_index w.from.items m) (slice_index w.number.items m) f n =
                  subst (λ z. IsEarlier (slice_index w.from.items m) (slice_index w.number.items m) z n) exact.0
                  (subst (λ z. IsEarlier (slice_index w.from.items m) (slice_index w.number.items m) (slice_index w.from.items k.0) z) exact.1 rise) in
                  absurd (front.over m (omega arith) (omega (arith, q, k.1)) low)
              | inr q ↦ omega (arith, p, q)
            ] in
            let lt : m < length w.before.items = omega (arith, last, k.1) in
            let absent : Contains l a → ⊥ = λ t.
            let c = take_cases m w.before.items a 0 (subst (λ z. Contains z a) front.names (Contains-firsts l a t)) in
            let o : c.0 ≡ k.0 = once g h left right w walk c.0 k.0 c.2 k.1 c.3 in
            omega (arith, o, c.1, p) in (
              m + 1,
              record {
                most = omega (arith, lt);
                names = again ∙ firsts_new l a absent ∙ ap (λ z. z ++ a ∷ []) front.names
                    ∙ ap (λ z. take m w.before.items ++ slice_index w.before.items z ∷ []) last ∙ sym (take_more w.before.items m 0 lt);
                under = λ i q. elim (cases_lt i m) [
                  | inl r ↦ earlier_next (slice_index w.from.items i) (slice_index w.number.items i) f n (front.under i r)
                  | inr r ↦
                      let o : k.0 ≡ i = omega (arith, q, r, last) in
                      subst (λ z. IsEarlier (slice_index w.from.items z) (slice_index w.number.items z) f (n + 1)) o k.4
                ];
                over = λ i q r s. elim (earlier_cases (slice_index w.from.items i) (slice_index w.number.items i) f n s) [
                  | inl t ↦ front.over i (omega (arith, q)) r t
                  | inr t ↦
                      let e : slice_index w.before.items k.0 ≡ slice_index w.before.items i = let u = here i r t.0 t.1 in omega (arith, u, k.2) in
                      let o : k.0 ≡ i = once g h left right w walk k.0 i k.1 r e in
                      absurd (omega (arith, o, last, q))
                ];
              },
            )
      ]

  -- all ways of one kind are looked at
  up : (l : List ℕ) (f n m : ℕ) → IsFront w l f n m → ((i : ℕ) → i < length w.before.items → slice_index w.from.items i ≡ f → slice_index w.number.items i < n) → IsFront w l (suc f) 0 m
  up l f n m front few = record {
    most = front.most;
    names = front.names;
    under = λ i p. earlier_up (slice_index w.from.items i) (slice_index w.number.items i) f n (front.under i p);
    over = λ i p q r. front.over i p q (earlier_down (slice_index w.from.items i) (slice_index w.number.items i) f n (few i q) r);
  }

  module _ (count : length g.roots ≡ length h.roots) (roots : LinksRoots g h w (length g.roots)) (pairs : LinksPairs g h w (length w.before.items)) where
    over_roots : (k : ℕ) → k ≤ length g.roots → (m : ℕ) × IsFront w (flat_map named (take k g.roots)) 0 k m
    over_roots zero le = (
      0,
      record {
        most = omega arith;
        names = refl;
        under = λ i p. absurd (omega (arith, p));
        over = λ i p q e. elim e [ inl t ↦ absurd (omega (arith, t)) | inr t ↦ absurd (omega (arith, t.1)) ];
      },
    )
    over_roots (suc k) le =
        let r = over_roots k (omega (arith, le)) in
        let lt : k < length g.roots = omega (arith, le) in
        let s = step (flat_map named (take k g.roots)) 0 k r.0 (slice_index g.roots k) (slice_index h.roots k) r.1 (roots k lt) (λ i p ef en. (way_at i 0 k p ef en).2) in
        let e : flat_map named (take k g.roots) ++ named (slice_index g.roots k) ≡ flat_map named (take (k + 1) g.roots) =
        sym (ap (flat_map named) (take_more g.roots k 0 lt) ∙ flat_map-append named (take k g.roots) (slice_index g.roots k ∷ [])
        ∙ ap (λ z. flat_map named (take k g.roots) ++ z) (append-nil (named (slice_index g.roots k)))) in
        let one : k + 1 ≡ suc k = omega arith in
        (s.0, subst (λ z. IsFront w (flat_map named (take z g.roots)) 0 z s.0) one (subst (λ z. IsFront w z 0 (k + 1) s.0) e s.1))

    -- what the first slots of an object name
    abbrev slots_named : ℕ → ℕ → List ℕ
    slots_named a k = flat_map (λ p. named (word g p)) (range_with_len (a + 1) k)

    over_slots : (j : ℕ) → j < length w.before.items → (l : List ℕ) (m k : ℕ) → k ≤ (object_at g (slice_index w.before.items j)).refs → IsFront w l (suc j) 0 m
        → (o : ℕ) × IsFront w (l ++ slots_named (slice_index w.before.items j) k) (suc j) k o
    over_slots j p l m zero le front = (m, subst (λ z. IsFront w z (suc j) 0 m) (sym (append-nil l)) front)
    over_slots j p l m (suc k) le front =
        let a : ℕ = slice_index w.before.items j in
        let r = over_slots j p l m k (omega (arith, le)) front in
        let x : ℕ = word g (a + 1 + k) in
        let s = step (l ++ slots_named a k) (suc j) k r.0 x (word h (slice_index w.after.items j + 1 + k)) r.1 (pairs j p k (omega (arith, le))) (λ i q ef en. (way_at i (suc j) k q ef en).3) in
        let e : slots_named a k ++ named x ≡ slots_named a (k + 1) =
        sym (ap (flat_map (λ q. named (word g q))) (range_more (a + 1) k) ∙ flat_map-append (λ q. named (word g q)) (range_with_len (a + 1) k)
        ((a + 1 + k) ∷ []) ∙ ap (λ z. slots_named a k ++ z) (append-nil (named x))) in
        let whole : (l ++ slots_named a k) ++ named x ≡ l ++ slots_named a (k + 1) = append_assoc l (slots_named a k) (named x) ∙ ap (λ z. l ++ z) e in
        let one : k + 1 ≡ suc k = omega arith in
        (s.0, subst (λ z. IsFront w (l ++ slots_named a z) (suc j) z s.0) one (subst (λ z. IsFront w z (suc j) (k + 1) s.0) whole s.1))

    over_pairs : (j : ℕ) → j ≤ length w.before.items → (m : ℕ) × IsFront w (root_targets g ++ flat_map (targets g) (take j w.before.items)) (suc j) 0 m
    over_pairs zero le =
        let n : ℕ = length g.roots in
        let r = over_roots n (omega arith) in
        let all : flat_map named (take n g.roots) ≡ root_targets g ++ [] = ap (flat_map named) (take_all n g.roots (omega arith)) ∙ sym (append-nil (root_targets g)) in
        let front : IsFront w (root_targets g ++ []) 0 n r.0 = subst (λ z. IsFront w z 0 n r.0) all r.1 in
        (r.0, up (root_targets g ++ []) 0 n r.0 front (λ i p e. (way_at i 0 (slice_index w.number.items i) p e refl).0))
    over_pairs (suc j) le =
        let olds : List ℕ = w.before.items in
        let lt : j < length olds = omega (arith, le) in
        let a : ℕ = slice_index olds j in
        let n : ℕ = (object_at g a).refs in
        let r = over_pairs j (omega (arith, le)) in
        let l : List ℕ = root_targets g ++ flat_map (targets g) (take j olds) in
        let s = over_slots j lt l r.0 n (omega arith) r.1 in
        let e : flat_map (targets g) (take j olds) ++ targets g a ≡ flat_map (targets g) (take (j + 1) olds) =
        sym (ap (flat_map (targets g)) (take_more olds j 0 lt) ∙ flat_map-append (targets g) (take j olds) (a ∷ []) ∙ ap (λ z. flat_map (targets g) (take j olds) ++ z) (append-nil (targets g a))) in
        let whole : l ++ targets g a ≡ root_targets g ++ flat_map (targets g) (take (j + 1) olds) =
        append_assoc (root_targets g) (flat_map (targets g) (take j olds)) (targets g a) ∙ ap (λ z. root_targets g ++ z) e in
        let front : IsFront w (root_targets g ++ flat_map (targets g) (take (j + 1) olds)) (suc j) n s.0 = subst (λ z. IsFront w z (suc j) n s.0) whole s.1 in
        let one : j + 1 ≡ suc j = omega arith in
        let more : IsFront w (root_targets g ++ flat_map (targets g) (take (suc j) olds)) (suc j) n s.0 =
        subst (λ z. IsFront w (root_targets g ++ flat_map (targets g) (take z olds)) (suc j) n s.0) one front in
        (s.0, up (root_targets g ++ flat_map (targets g) (take (suc j) olds)) (suc j) n s.0 more (λ i p e. (way_at i (suc j) (slice_index w.number.items i) p e refl).1))

    pub in_order : w.before.items ≡ firsts (root_targets g ++ flat_map (targets g) w.before.items)
    in_order =
        let olds : List ℕ = w.before.items in
        let n : ℕ = length olds in
        let r = over_pairs n (omega arith) in
        let end : n ≤ r.0 = elim (cases_lt r.0 n) [
          | inl lt ↦ let back = walk.backward r.0 lt in absurd (r.1.over r.0 (omega arith) lt (inl (omega (arith, back, lt))))
          | inr le ↦ le
        ] in
        sym (take_all r.0 olds end) ∙ sym r.1.names ∙ ap (λ z. firsts (root_targets g ++ flat_map (targets g) z)) (take_all n olds (omega arith))

    pub breadth_first : IsBreadthFirst (root_targets g) (targets g) w.before.items
    breadth_first = record {
      reached = λ a. (
        λ c. let k = place_of w.before.items a c in subst (λ z. Live g z) k.2 (live_at g h left right w walk k.0 k.1),
        λ live. let k = found g h left right w walk count roots pairs a live in
            subst (λ z. Contains w.before.items z) k.2 (Contains-get_or w.before.items k.0 0 k.1),
      );
      in_order = in_order;
    }

    pub renaming : IsRenaming g h w.before.items w.after.items
    renaming = record {
      same = same g h left right w walk count roots pairs;
      found = breadth_first;
      renames = images g h left right w walk count roots pairs;
    }
