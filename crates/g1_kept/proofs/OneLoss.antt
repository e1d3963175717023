-- A search meets one loss first.
use Rattle.std.proofs.Common.{◌≡◌, ◌≢◌, ℕ, zero, suc, ◌+◌, ◌<◌, ◌≤◌, inl, inr, List, length, IsTrue, refl, sym, ap, subst, ◌∙◌, arith, slice_index, Bool}
use Rattle.std.proofs.lemmas.Bool.{cases_lt, false≢true}
use Rattle.g1_words.specs.Heap.{Heap, word, object_at}
use Rattle.g1_words.specs.Survivors.{in_set}
use Rattle.g1_same.specs.Walk.{IsEarlier, IsNew}
use Rattle.g1_same.proofs.Adding.{earlier_next}
use Rattle.g1_same.proofs.First.{way_cases}
use Rattle.g1_kept.specs.declared.lost.Lost.{Lost}
use Rattle.g1_kept.specs.declared.lost.Lost.TheVariants as lost
use Rattle.g1_kept.specs.Keeps.{MayHoldCopy}
use Rattle.g1_kept.proofs.Places.{sooner, neither, turn_one, words_one, AreSame, words_there, same_back}
use Rattle.g1_kept.specs.Order.{IsTurn, AreWords, DoAgree, IsSearch, Clash, changed, null, split, joined, IsLostAt, IsMetFirst}

module _ (fill : Bool) (set : List ℕ) (g h : Heap) where
  -- The place of the pair k of one search is not before that of the other one's.
  module _ (olds news : List ℕ) (f n : ℕ) (s : IsSearch fill set g h olds news f n) (others images : List ℕ) (k m : ℕ) (t : IsSearch fill set g h others images k m) where
    -- where the other search finds the words of a pair that it has not found before
    not_before : (i : ℕ) → i < length olds → AreSame set g h olds news others images i → IsEarlier (slice_index s.froms i) (slice_index s.numbers i) k m
        → (i < length others) × IsEarlier (slice_index t.froms i) (slice_index t.numbers i) (slice_index s.froms i) (slice_index s.numbers i + 1)
    not_before i lt same sooner_here =
        let p : ℕ = slice_index s.froms i in
        let q : ℕ = slice_index s.numbers i in
        let back = s.backward i lt in
        let there = words_there set g h olds news others images i p q (suc (slice_index olds i)) (suc (slice_index news i)) same (λ lt'. back) (s.places i lt) in
        elim (t.agree p q (suc (slice_index olds i)) (suc (slice_index news i)) sooner_here there) [
          | inl o ↦ absurd (false≢true (sym (o.0 (slice_index olds i) refl) ∙ s.of_set i lt))
          | inr j ↦
              let e : slice_index olds i ≡ slice_index others j.0 = omega (arith, j.2) in
              elim (cases_lt j.0 i) [
                | inl less ↦
                    let known : i ≡ j.0 = s.one_old i j.0 lt (omega (arith, less, lt)) (e ∙ sym (same.olds_same j.0 less)) in
                    absurd (omega (arith, known, less))
                | inr le ↦
                    let more : i < length others = omega (arith, le, j.1) in
                    elim (cases_lt i j.0) [
                      | inl less ↦ (
                        more,
                        earlier_next (slice_index t.froms i) (slice_index t.numbers i) p q (before_later i j.0 p q (t.rising i j.0 less j.1) j.4),
                      )
                      | inr ge ↦
                          let one : j.0 ≡ i = omega (arith, le, ge) in
                          (more, subst (λ z. IsEarlier (slice_index t.froms z) (slice_index t.numbers z) p (q + 1)) one j.4)
                    ]
              ]
        ]
      where
        before_later : (i j p q : ℕ) → IsEarlier (slice_index t.froms i) (slice_index t.numbers i) (slice_index t.froms j) (slice_index t.numbers j)
            → IsEarlier (slice_index t.froms j) (slice_index t.numbers j) p (q + 1) → IsEarlier (slice_index t.froms i) (slice_index t.numbers i) p q
        before_later i j p q (inl a) (inl b) = inl (omega (arith, a, b))
        before_later i j p q (inl a) (inr b) = inl (omega (arith, a, b.0))
        before_later i j p q (inr a) (inl b) = inl (omega (arith, a.0, b))
        before_later i j p q (inr a) (inr b) = inr (omega (arith, a.0, b.0), omega (arith, a.1, b.1))

  -- the search that goes on has all pairs of the one that ends first
  module _ (olds news : List ℕ) (f n : ℕ) (s : IsSearch fill set g h olds news f n) (others images : List ℕ) (k m : ℕ) (t : IsSearch fill set g h others images k m)
      (order : (a b : ℕ) → IsEarlier a b f n → IsEarlier a b k m) where
    all_same : (i : ℕ) → i ≤ length olds → AreSame set g h olds news others images i
    all_same zero le = record { more = omega arith; olds_same = λ i lt. absurd (omega (arith, lt)); news_same = λ i lt. absurd (omega (arith, lt)) }
    all_same (suc i) le =
        let lt : i < length olds = omega (arith, le) in
        let same = all_same i (omega (arith, le)) in
        let p : ℕ = slice_index s.froms i in
        let q : ℕ = slice_index s.numbers i in
        let forth = not_before olds news f n s others images k m t i lt same (order p q (s.below i lt)) in
        let u : ℕ = slice_index t.froms i in
        let v : ℕ = slice_index t.numbers i in
        let back = not_before others images k m t olds news f n s i forth.0 (same_back set g h olds news others images i (omega (arith, le)) same)
        (sooner u v p q f n forth.1 (s.below i lt)) in
        let place = neither u v p q forth.1 back.1 in
        let there : AreWords set g h others images p q (suc (slice_index olds i)) (suc (slice_index news i)) =
        words_there set g h olds news others images i p q (suc (slice_index olds i)) (suc (slice_index news i)) same (λ lt'. s.backward i lt) (s.places i lt) in
        let mine : AreWords set g h others images p q (suc (slice_index others i)) (suc (slice_index images i)) =
        subst (λ z. AreWords set g h others images z q (suc (slice_index others i)) (suc (slice_index images i))) place.0
        (subst (λ z. AreWords set g h others images u z (suc (slice_index others i)) (suc (slice_index images i))) place.1 (t.places i forth.0)) in
        let one = words_one set g h others images p q (suc (slice_index olds i)) (suc (slice_index news i)) (suc (slice_index others i)) (suc (slice_index images i)) there mine in
        record {
          more = omega (arith, forth.0);
          olds_same = λ j l. elim (cases_lt j i) [
            | inl less ↦ same.olds_same j less
            | inr ge ↦ let e : i ≡ j = omega (arith, l, ge) in subst (λ z. slice_index olds z ≡ slice_index others z) e (omega (arith, one.0))
          ];
          news_same = λ j l. elim (cases_lt j i) [
            | inl less ↦ same.news_same j less
            | inr ge ↦ let e : i ≡ j = omega (arith, l, ge) in subst (λ z. slice_index news z ≡ slice_index images z) e (omega (arith, one.1))
          ];
        }

    all : AreSame set g h olds news others images (length olds)
    all = all_same (length olds) (omega arith)

    turn_all : (t' a b : ℕ) → IsTurn set g h olds news t' a b → IsTurn set g h others images t' a b
    turn_all t' a b (inl o) = inl o
    turn_all t' a b (inr o) = inr (o.0, omega (arith, o.1, all.more), o.2, o.3 ∙ all.olds_same o.0 o.1, o.4 ∙ all.news_same o.0 o.1)

    words_all : (p q x y : ℕ) → AreWords set g h olds news p q x y → AreWords set g h others images p q x y
    words_all zero q x y o = o
    words_all (suc t') zero x y o = absurd o
    words_all (suc t') (suc q) x y o = (o.0, o.1, turn_all t' o.0 o.1 o.2, o.3, o.4, o.5, o.6)

    -- words that clash in the one do not agree in the other
    clash_never : (p q x y : ℕ) → Clash set g olds news x y
        → DoAgree set g others images t.froms t.numbers p q x y → ⊥
    clash_never p q x y (changed out ne) (inl o) = ne o.1
    clash_never p q x y (changed out ne) (inr j) = false≢true (sym (out (slice_index others j.0) j.2) ∙ t.of_set j.0 j.1)
    clash_never p q _ _ (null {a} of) (inl o) = false≢true (sym (o.0 a refl) ∙ of)
    clash_never p q _ _ (null {a} of) (inr j) = omega (arith, j.3)
    clash_never p q _ _ (split {a} {b} i of lt old new) (inl o) = false≢true (sym (o.0 a refl) ∙ of)
    clash_never p q _ _ (split {a} {b} i of lt old new) (inr j) =
        let mine : slice_index others i ≡ a = sym (all.olds_same i lt) ∙ old in
        let theirs : a ≡ slice_index others j.0 = omega (arith, j.2) in
        let one : i ≡ j.0 = t.one_old i j.0 (omega (arith, lt, all.more)) j.1 (mine ∙ theirs) in
        new (all.news_same i lt ∙ ap (slice_index images) one ∙ omega (arith, j.3))
    clash_never p q _ _ (joined {a} {b} i of lt new old) (inl o) = false≢true (sym (o.0 a refl) ∙ of)
    clash_never p q _ _ (joined {a} {b} i of lt new old) (inr j) =
        let mine : slice_index images i ≡ b = sym (all.news_same i lt) ∙ new in
        let theirs : b ≡ slice_index images j.0 = omega (arith, j.3) in
        let one : i ≡ j.0 = t.one_new i j.0 (omega (arith, lt, all.more)) j.1 (mine ∙ theirs) in
        old (all.olds_same i lt ∙ ap (slice_index others) one ∙ omega (arith, j.2))

    -- words that clash in the one are not both new in the other
    clash_known : (x y a b : ℕ) → Clash set g olds news x y → x ≡ suc a → y ≡ suc b → IsTrue (in_set g set a) → IsNew others a → IsNew images b → ⊥
    clash_known x y a b (changed out ne) ex ey of old new = false≢true (sym (out a ex) ∙ of)
    clash_known _ _ a b (null in_it) ex ey of old new = omega (arith, ey)
    clash_known _ _ a b (split i in_it lt is ne) ex ey of old new =
        old i (omega (arith, lt, all.more)) (sym (all.olds_same i lt) ∙ is ∙ omega (arith, ex))
    clash_known _ _ a b (joined i in_it lt is ne) ex ey of old new =
        new i (omega (arith, lt, all.more, t.pairs)) (sym (all.news_same i lt) ∙ is ∙ omega (arith, ey))

    -- nothing is lost where the other search goes on
    never : (l : Lost) → IsEarlier f n k m → IsLostAt fill set g h olds news f n l → ⊥
    never (lost.Root r) e o = clash_never f n o.2 o.3 o.5 (t.agree f n o.2 o.3 e (words_all f n o.2 o.3 o.4))
    never (lost.Slot a b r) e o = clash_never f n o.4 o.5 o.7 (t.agree f n o.4 o.5 e (words_all f n o.4 o.5 o.6))
    never (lost.Copy a b) e o = elim (t.agree f n (suc a) (suc b) e (words_all f n (suc a) (suc b) o.0)) [
      | inl out ↦ false≢true (sym (out.0 a refl) ∙ o.1)
      | inr j ↦ let is : slice_index images j.0 ≡ b = omega (arith, j.3) in o.4 (subst (MayHoldCopy fill g) is (t.room j.0 j.1))
    ]
    never (lost.Header a b) e o =
        let same = t.alike o.0 a b (subst (λ z. IsEarlier z 0 k m) o.1 (subst (λ z. IsEarlier f z k m) o.2 e)) (turn_all o.0 a b o.3) in
        o.4 (sym same.header)
    never (lost.Data a b r) e o =
        let same = t.alike o.0 a b (subst (λ z. IsEarlier z 0 k m) o.1 (subst (λ z. IsEarlier f z k m) o.2 e)) (turn_all o.0 a b o.3) in
        o.6 (sym (same.data_words r o.4))
    never lost.Sizes e o = o
    never lost.Roots e o = o
    never (lost.Set r) e o = o
    never (lost.Region r) e o = o
    never (lost.Unpinned r) e o = o
    never (lost.Pinned r) e o = o

  module _ (olds news : List ℕ) (f n : ℕ) (s : IsSearch fill set g h olds news f n) (others images : List ℕ) (t : IsSearch fill set g h others images f n) where
    forth_words : (x y u v : ℕ) → AreWords set g h olds news f n x y → AreWords set g h others images f n u v → (x ≡ u) × (y ≡ v)
    forth_words x y u v o p = words_one set g h others images f n x y u v (words_all olds news f n s others images f n t (λ a b e. e) f n x y o) p

    forth_turn : (t' a b c d : ℕ) → IsTurn set g h olds news t' a b → IsTurn set g h others images t' c d → (a ≡ c) × (b ≡ d)
    forth_turn t' a b c d o p = turn_one set g h others images t' a b c d (turn_all olds news f n s others images f n t (λ a b e. e) t' a b o) p

    clash_copy : (x y a b : ℕ) → AreWords set g h olds news f n x y → Clash set g olds news x y → IsLostAt fill set g h others images f n (lost.Copy a b) → ⊥
    clash_copy x y a b o c p =
        let e = forth_words x y (suc a) (suc b) o p.0 in
        clash_known olds news f n s others images f n t (λ a b e. e) x y a b c e.0 e.1 p.1 p.2 p.3

    -- losses of one kind
    data_first : (a b c d i j : ℕ) → a ≡ c → b ≡ d → i < j
        → word h (b + 1 + (object_at g a).refs + i) ≢ word g (a + 1 + (object_at g a).refs + i)
        → ((q : ℕ) → q < j → word h (d + 1 + (object_at g c).refs + q) ≡ word g (c + 1 + (object_at g c).refs + q)) → ⊥
    data_first a b c d i j ea eb lt ne eqs =
        ne (ap (λ z. word h (z + 1 + (object_at g a).refs + i)) eb ∙ ap (λ z. word h (d + 1 + (object_at g z).refs + i)) ea ∙ eqs i lt
        ∙ sym (ap (λ z. word g (z + 1 + (object_at g z).refs + i)) ea))

    -- headers and data words are at no place of words
    no_words : (u x y : ℕ) → f ≡ suc u → n ≡ 0 → AreWords set g h olds news f n x y → ⊥
    no_words u x y ef en o = subst (λ z. AreWords set g h olds news (suc u) z x y) en (subst (λ z. AreWords set g h olds news z n x y) ef o)

    -- the objects of one turn
    one_turn : (u v a b c d : ℕ) → f ≡ suc u → f ≡ suc v → IsTurn set g h olds news u a b → IsTurn set g h others images v c d → (a ≡ c) × (b ≡ d)
    one_turn u v a b c d eu ev o p =
        let e : u ≡ v = omega (arith, eu, ev) in
        forth_turn v a b c d (subst (λ z. IsTurn set g h olds news z a b) e o) p

  module _ (olds news : List ℕ) (f n : ℕ) (s : IsSearch fill set g h olds news f n) (others images : List ℕ) (t : IsSearch fill set g h others images f n) where
    same_here : (l m : Lost) → IsLostAt fill set g h olds news f n l → IsLostAt fill set g h others images f n m → l ≡ m
    same_here (lost.Root r) (lost.Root q) o p = ap lost.Root (omega (arith, o.1, p.1))
    same_here (lost.Root r) (lost.Slot c d q) o p = absurd (omega (arith, o.0, p.1))
    same_here (lost.Root r) (lost.Copy c d) o p = absurd (clash_copy olds news f n s others images t o.2 o.3 c d o.4 o.5 p)
    same_here (lost.Root r) (lost.Header c d) o p = absurd (omega (arith, o.0, p.1))
    same_here (lost.Root r) (lost.Data c d q) o p = absurd (omega (arith, o.0, p.1))
    same_here (lost.Slot a b r) (lost.Root q) o p = absurd (omega (arith, o.1, p.0))
    same_here (lost.Slot a b r) (lost.Slot c d q) o p =
        let e = one_turn olds news f n s others images t o.0 p.0 a b c d o.1 p.1 o.3 p.3 in
        let k : r ≡ q = omega (arith, o.2, p.2) in
        ap (λ z. lost.Slot z b r) e.0 ∙ ap (λ z. lost.Slot c z r) e.1 ∙ ap (lost.Slot c d) k
    same_here (lost.Slot a b r) (lost.Copy c d) o p = absurd (clash_copy olds news f n s others images t o.4 o.5 c d o.6 o.7 p)
    same_here (lost.Slot a b r) (lost.Header c d) o p = absurd (omega (arith, o.2, p.2))
    same_here (lost.Slot a b r) (lost.Data c d q) o p = absurd (omega (arith, o.2, p.2))
    same_here (lost.Copy a b) (lost.Root q) o p = absurd (clash_copy others images f n t olds news s p.2 p.3 a b p.4 p.5 o)
    same_here (lost.Copy a b) (lost.Slot c d q) o p = absurd (clash_copy others images f n t olds news s p.4 p.5 a b p.6 p.7 o)
    same_here (lost.Copy a b) (lost.Copy c d) o p =
        let e = forth_words olds news f n s others images t (suc a) (suc b) (suc c) (suc d) o.0 p.0 in
        let ea : a ≡ c = omega (arith, e.0) in
        let eb : b ≡ d = omega (arith, e.1) in
        ap (λ z. lost.Copy z b) ea ∙ ap (lost.Copy c) eb
    same_here (lost.Copy a b) (lost.Header c d) o p = absurd (no_words olds news f n s others images t p.0 (suc a) (suc b) p.1 p.2 o.0)
    same_here (lost.Copy a b) (lost.Data c d q) o p = absurd (no_words olds news f n s others images t p.0 (suc a) (suc b) p.1 p.2 o.0)
    same_here (lost.Header a b) (lost.Root q) o p = absurd (omega (arith, o.1, p.0))
    same_here (lost.Header a b) (lost.Slot c d q) o p = absurd (omega (arith, o.2, p.2))
    same_here (lost.Header a b) (lost.Copy c d) o p = absurd (no_words others images f n t olds news s o.0 (suc c) (suc d) o.1 o.2 p.0)
    same_here (lost.Header a b) (lost.Header c d) o p =
        let e = one_turn olds news f n s others images t o.0 p.0 a b c d o.1 p.1 o.3 p.3 in
        ap (λ z. lost.Header z b) e.0 ∙ ap (lost.Header c) e.1
    same_here (lost.Header a b) (lost.Data c d q) o p =
        let e = one_turn olds news f n s others images t o.0 p.0 a b c d o.1 p.1 o.3 p.3 in
        absurd (o.4 (ap (word h) e.1 ∙ p.5 ∙ sym (ap (word g) e.0)))
    same_here (lost.Data a b r) (lost.Root q) o p = absurd (omega (arith, o.1, p.0))
    same_here (lost.Data a b r) (lost.Slot c d q) o p = absurd (omega (arith, o.2, p.2))
    same_here (lost.Data a b r) (lost.Copy c d) o p = absurd (no_words others images f n t olds news s o.0 (suc c) (suc d) o.1 o.2 p.0)
    same_here (lost.Data a b r) (lost.Header c d) o p =
        let e = one_turn olds news f n s others images t o.0 p.0 a b c d o.1 p.1 o.3 p.3 in
        absurd (p.4 (sym (ap (word h) e.1) ∙ o.5 ∙ ap (word g) e.0))
    same_here (lost.Data a b r) (lost.Data c d q) o p =
        let e = one_turn olds news f n s others images t o.0 p.0 a b c d o.1 p.1 o.3 p.3 in
        elim (cases_lt r q) [
          | inl lt ↦ absurd (data_first olds news f n s others images t a b c d r q e.0 e.1 lt o.6 p.7)
          | inr ge ↦ elim (cases_lt q r) [
            | inl lt ↦ absurd (data_first others images f n t olds news s c d a b q r (sym e.0) (sym e.1) lt p.6 o.7)
            | inr le ↦
                let k : r ≡ q = omega (arith, ge, le) in
                ap (λ z. lost.Data z b r) e.0 ∙ ap (λ z. lost.Data c z r) e.1 ∙ ap (lost.Data c d) k
          ]
        ]
    same_here lost.Sizes m o p = absurd o
    same_here lost.Roots m o p = absurd o
    same_here (lost.Set r) m o p = absurd o
    same_here (lost.Region r) m o p = absurd o
    same_here (lost.Unpinned r) m o p = absurd o
    same_here (lost.Pinned r) m o p = absurd o
    same_here l lost.Sizes o p = absurd p
    same_here l lost.Roots o p = absurd p
    same_here l (lost.Set r) o p = absurd p
    same_here l (lost.Region r) o p = absurd p
    same_here l (lost.Unpinned r) o p = absurd p
    same_here l (lost.Pinned r) o p = absurd p

before_that : (a b f n k m : ℕ) → IsEarlier f n k m → IsEarlier a b f n → IsEarlier a b k m
before_that a b f n k m e d = sooner a b f n k m (earlier_next a b f n d) e

pub one_met : (fill : Bool) (set : List ℕ) (g h : Heap) (l m : Lost) → IsMetFirst fill set g h l → IsMetFirst fill set g h m → l ≡ m
one_met fill set g h l m a b = elim (way_cases a.from a.number b.from b.number) [
  | inl e ↦ absurd (never fill set g h a.olds a.news a.from a.number a.search b.olds b.news b.from b.number b.search
      (λ p q d. before_that p q a.from a.number b.from b.number e d) l e a.here)
  | inr r ↦ elim r [
    | inl e ↦
        let s : IsSearch fill set g h a.olds a.news b.from b.number =
        subst (λ z. IsSearch fill set g h a.olds a.news b.from z) e.1 (subst (λ z. IsSearch fill set g h a.olds a.news z a.number) e.0 a.search) in
        let o : IsLostAt fill set g h a.olds a.news b.from b.number l =
        subst (λ z. IsLostAt fill set g h a.olds a.news b.from z l) e.1 (subst (λ z. IsLostAt fill set g h a.olds a.news z a.number l) e.0 a.here) in
        same_here fill set g h a.olds a.news b.from b.number s b.olds b.news b.search l m o b.here
    | inr e ↦ absurd (never fill set g h b.olds b.news b.from b.number b.search a.olds a.news a.from a.number a.search
        (λ p q d. before_that p q b.from b.number a.from a.number e d) m e b.here)
  ]
]
