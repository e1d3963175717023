-- How a search goes on.
use Rattle.std.proofs.Common.{◌≡◌, ℕ, zero, suc, ◌+◌, ◌<◌, ◌≤◌, ◌++◌, ◌⊎◌, inl, inr, List, [], ◌∷◌, length, IsTrue, refl, sym, ap, subst, ◌∙◌, arith, slice_index, Bool}
use Rattle.std.proofs.lemmas.Bool.{cases_lt}
use Rattle.std.proofs.lemmas.List.{get_or_append_left, get_or_push, length_push}
use Rattle.g1_words.specs.Heap.{Heap, object_at}
use Rattle.g1_words.specs.Survivors.{in_set}
use Rattle.g1_same.specs.Walk.{AreAlike, IsEarlier, IsNew}
use Rattle.g1_same.proofs.Adding.{earlier_next}
use Rattle.g1_same.proofs.Order.{earlier_cases}
use Rattle.g1_kept.specs.Keeps.{MayHoldCopy, IsOutside}
use Rattle.g1_kept.specs.Lost.{LeadsOut}
use Rattle.g1_kept.specs.Order.{IsTurn, AreWords, DoAgree, IsSearch}
use Rattle.g1_kept.proofs.Places.{here, turn_one, words_one, AreSame, turn_there, words_there, same_back}

-- what is before the next row is before this one, or in it
row_cases : (f m k : ℕ) → IsEarlier f m (suc k) 0 → (f < k) ⊎ (f ≡ k)
row_cases f m k (inl e) = elim (cases_lt f k) [ inl l ↦ inl l | inr l ↦ inr (omega (arith, e, l)) ]
row_cases f m k (inr e) = absurd (omega (arith, e.1))

-- the search that has found nothing
pub search_none : (fill : Bool) (set : List ℕ) (g h : Heap) (olds news : List ℕ) → length olds ≡ 0 → length news ≡ length olds → IsSearch fill set g h olds news 0 0
search_none fill set g h olds news none pairs = record {
  froms = [];
  numbers = [];
  pairs = pairs;
  from_each = sym none;
  number_each = sym none;
  of_set = λ i lt. absurd (omega (arith, lt, none));
  room = λ i lt. absurd (omega (arith, lt, none));
  one_old = λ i j lt lt' e. absurd (omega (arith, lt, none));
  one_new = λ i j lt lt' e. absurd (omega (arith, lt, none));
  places = λ i lt. absurd (omega (arith, lt, none));
  backward = λ i lt. absurd (omega (arith, lt, none));
  rising = λ i j less lt. absurd (omega (arith, lt, none));
  below = λ i lt. absurd (omega (arith, lt, none));
  agree = λ k m x y e w. absurd (nothing k m e);
  alike = λ t a b e w. absurd (nothing (suc t) 0 e);
}
  where
    nothing : (k m : ℕ) → IsEarlier k m 0 0 → ⊥
    nothing k m (inl e) = omega (arith, e)
    nothing k m (inr e) = omega (arith, e.1)

module _ (fill : Bool) (set : List ℕ) (g h : Heap) (olds news : List ℕ) where
  -- the object of a turn that is a word's
  pub turn_outside : (t a b : ℕ) → t < length g.words → IsTurn set g h olds news t a b → IsOutside set g h t × (a ≡ t) × (b ≡ t)
  turn_outside t a b lt (inl o) = (o.1, o.2, o.3)
  turn_outside t a b lt (inr o) = absurd (omega (arith, lt, o.2))

  -- a row has objects, if it has words
  pub words_turn : (t m x y : ℕ) → AreWords set g h olds news (suc t) m x y → (a : ℕ) × (b : ℕ) × IsTurn set g h olds news t a b
  words_turn t zero x y w = absurd w
  words_turn t (suc m) x y w = (w.0, w.1, w.2)

  -- a place of words is not behind the pairs
  pub words_within : (f n x y : ℕ) → AreWords set g h olds news f n x y → f ≤ length g.words + length olds
  words_within zero n x y w = omega arith
  words_within (suc t) zero x y w = absurd w
  words_within (suc t) (suc n) x y w = elim w.2 [ inl o ↦ omega (arith, o.0) | inr o ↦ omega (arith, o.1, o.2) ]

  words_some : (t x y : ℕ) → AreWords set g h olds news (suc t) 0 x y → ⊥
  words_some t x y w = w

  module _ (f n : ℕ) (s : IsSearch fill set g h olds news f n) where
    -- with the pairs that were found
    move : (k m : ℕ) → ((a b : ℕ) → IsEarlier a b f n → IsEarlier a b k m)
        → ((a b x y : ℕ) → IsEarlier a b k m → AreWords set g h olds news a b x y → IsEarlier a b f n ⊎ DoAgree set g olds news s.froms s.numbers a b x y)
        → ((t a b : ℕ) → IsEarlier (suc t) 0 k m → IsTurn set g h olds news t a b → IsEarlier (suc t) 0 f n ⊎ AreAlike g h a b)
        → IsSearch fill set g h olds news k m
    move k m order words objects = record {
      froms = s.froms;
      numbers = s.numbers;
      pairs = s.pairs;
      from_each = s.from_each;
      number_each = s.number_each;
      of_set = s.of_set;
      room = s.room;
      one_old = s.one_old;
      one_new = s.one_new;
      places = s.places;
      backward = s.backward;
      rising = s.rising;
      below = λ i lt. order (slice_index s.froms i) (slice_index s.numbers i) (s.below i lt);
      agree = λ a b x y e w. elim (words a b x y e w) [ inl d ↦ s.agree a b x y d w | inr d ↦ d ];
      alike = λ t a b e w. elim (objects t a b e w) [ inl d ↦ s.alike t a b d w | inr d ↦ d ];
    }

    -- past two words that agree
    pub words_on : (x y : ℕ) → AreWords set g h olds news f n x y
        → (LeadsOut set g x × (y ≡ x)) ⊎ ((i : ℕ) × (i < length olds) × (x ≡ suc (slice_index olds i)) × (y ≡ suc (slice_index news i)))
        → IsSearch fill set g h olds news f (n + 1)
    words_on x y w agree = move f (n + 1)
        (λ a b e. earlier_next a b f n e)
        (λ a b u v e w'. elim (earlier_cases a b f n e) [
          | inl d ↦ inl d
          | inr d ↦
              let same : AreWords set g h olds news f n u v =
              subst (λ z. AreWords set g h olds news z n u v) d.0 (subst (λ z. AreWords set g h olds news a z u v) d.1 w') in
              let one = words_one set g h olds news f n x y u v w same in
              inr (subst (λ z. DoAgree set g olds news s.froms s.numbers z b u v) (sym d.0) (subst (λ z. DoAgree set g olds news s.froms s.numbers f z u v) (sym d.1)
              (subst (λ z. DoAgree set g olds news s.froms s.numbers f n z v) one.0 (subst (λ z. DoAgree set g olds news s.froms s.numbers f n x z) one.1 found))))
        ])
        (λ t a b e w'. elim (earlier_cases (suc t) 0 f n e) [
          | inl d ↦ inl d
          | inr d ↦ absurd (words_some t x y (subst (λ z. AreWords set g h olds news z 0 x y) (sym d.0) (subst (λ z. AreWords set g h olds news f z x y) (sym d.1) w)))
        ])
      where
        found : DoAgree set g olds news s.froms s.numbers f n x y
        found = elim agree [ inl o ↦ inl o | inr o ↦ inr (o.0, o.1, o.2, o.3, earlier_next (slice_index s.froms o.0) (slice_index s.numbers o.0) f n (s.below o.0 o.1)) ]

    -- to the next row
    pub row_on : ((t : ℕ) → f ≡ suc t → 0 < n) → ((m x y : ℕ) → n ≤ m → AreWords set g h olds news f m x y → ⊥) → IsSearch fill set g h olds news (suc f) 0
    row_on some none = move (suc f) 0
        (λ a b e. elim e [ inl l ↦ inl (omega (arith, l)) | inr r ↦ inl (omega (arith, r.0)) ])
        (λ a b x y e w. elim (row_cases a b f e) [
          | inl l ↦ inl (inl l)
          | inr d ↦ elim (cases_lt b n) [
            | inl l ↦ inl (inr (d, l))
            | inr l ↦ absurd (none b x y l (subst (λ z. AreWords set g h olds news z b x y) d w))
          ]
        ])
        (λ t a b e w. elim (row_cases (suc t) 0 f e) [
          | inl l ↦ inl (inl l)
          | inr d ↦ inl (inr (d, some t (sym d)))
        ])

  -- past the headers and the data words of two objects
  pub contents_on : (t a b : ℕ) → IsSearch fill set g h olds news (suc t) 0 → IsTurn set g h olds news t a b → AreAlike g h a b → IsSearch fill set g h olds news (suc t) 1
  contents_on t a b s turn alike = move (suc t) 0 s (suc t) 1
      (λ k m e. earlier_next k m (suc t) 0 e)
      (λ k m x y e w. elim (earlier_cases k m (suc t) 0 e) [
        | inl d ↦ inl d
        | inr d ↦ absurd (words_some t x y (subst (λ z. AreWords set g h olds news z 0 x y) d.0 (subst (λ z. AreWords set g h olds news k z x y) d.1 w)))
      ])
      (λ u c d e w. elim (earlier_cases (suc u) 0 (suc t) 0 e) [
        | inl k ↦ inl k
        | inr k ↦
            let one = turn_one set g h olds news t a b c d turn (subst (λ z. IsTurn set g h olds news z c d) (omega (arith, k.0)) w) in
            inr (subst (λ z. AreAlike g h z d) one.0 (subst (AreAlike g h a) one.1 alike))
      ])

  -- past all slots of two objects
  pub slots_on : (t a b n : ℕ) → IsSearch fill set g h olds news (suc t) (n + 1) → IsTurn set g h olds news t a b → (object_at g a).refs ≤ n → IsSearch fill set g h olds news (suc (suc t)) 0
  slots_on t a b n s turn few = row_on (suc t) (n + 1) s (λ u e. omega arith) none
    where
      none : (m x y : ℕ) → n + 1 ≤ m → AreWords set g h olds news (suc t) m x y → ⊥
      none zero x y le w = omega (arith, le)
      none (suc m) x y le w =
          let one = turn_one set g h olds news t a b w.0 w.1 turn w.2 in
          let refs : (object_at g a).refs ≡ (object_at g w.0).refs = ap (λ z. (object_at g z).refs) one.0 in
          omega (arith, le, w.3, refs, few)

  -- past the roots
  pub roots_on : (n : ℕ) → length g.roots ≤ n → IsSearch fill set g h olds news 0 n → IsSearch fill set g h olds news 1 0
  roots_on n all s = row_on 0 n s (λ t e. absurd (omega (arith, e))) (λ m x y le w. omega (arith, all, le, w.0))

  -- over turns without objects
  pub skip_to : (p q : ℕ) → p ≤ q → IsSearch fill set g h olds news (suc p) 0 → ((t a b : ℕ) → p ≤ t → t < q → IsTurn set g h olds news t a b → ⊥) → IsSearch fill set g h olds news (suc q) 0
  skip_to p q le s none = move (suc p) 0 s (suc q) 0
      (λ a b e. elim e [ inl l ↦ inl (omega (arith, l, le)) | inr r ↦ absurd (omega (arith, r.1)) ])
      words
      (λ t a b e w. elim (cases_lt t p) [ inl l ↦ inl (inl (omega (arith, l))) | inr l ↦ absurd (none t a b l (below t 0 e) w) ])
    where
      below : (t m : ℕ) → IsEarlier (suc t) m (suc q) 0 → t < q
      below t m (inl l) = omega (arith, l)
      below t m (inr r) = absurd (omega (arith, r.1))

      words : (a b x y : ℕ) → IsEarlier a b (suc q) 0 → AreWords set g h olds news a b x y → IsEarlier a b (suc p) 0 ⊎ DoAgree set g olds news s.froms s.numbers a b x y
      words zero b x y e w = inl (inl (omega arith))
      words (suc t) b x y e w = elim (cases_lt t p) [
        | inl l ↦ inl (inl (omega (arith, l)))
        | inr l ↦ let k = words_turn t b x y w in absurd (none t k.0 k.1 l (below t b e) k.2)
      ]

-- ---- one pair more

pushed_old : (xs : List ℕ) (x i : ℕ) → i < length xs → slice_index (xs ++ x ∷ []) i ≡ slice_index xs i
pushed_old xs x i lt = get_or_append_left xs (x ∷ []) 0 i lt

pushed_new : (xs : List ℕ) (x i : ℕ) → i ≡ length xs → slice_index (xs ++ x ∷ []) i ≡ x
pushed_new xs x i e = get_or_push xs x 0 i (sym e)

module _ (fill : Bool) (set : List ℕ) (g h : Heap) (olds news : List ℕ) (f n : ℕ) (s : IsSearch fill set g h olds news f n) (a b : ℕ)
    (here_are : AreWords set g h olds news f n (suc a) (suc b)) (of_set : IsTrue (in_set g set a)) (room : MayHoldCopy fill g b)
    (new_old : IsNew olds a) (new_new : IsNew news b) where
  abbrev more : List ℕ
  more = olds ++ a ∷ []

  abbrev images : List ℕ
  images = news ++ b ∷ []

  abbrev froms : List ℕ
  froms = s.froms ++ f ∷ []

  abbrev numbers : List ℕ
  numbers = s.numbers ++ n ∷ []

  count : length more ≡ length olds + 1
  count = length_push olds a

  cases : (i : ℕ) → i < length more → (i < length olds) ⊎ (i ≡ length olds)
  cases i lt = elim (cases_lt i (length olds)) [ inl l ↦ inl l | inr l ↦ inr (omega (arith, lt, l, count)) ]

  old_is : (i : ℕ) → i < length olds → slice_index more i ≡ slice_index olds i
  old_is i lt = pushed_old olds a i lt

  new_is : (i : ℕ) → i < length olds → slice_index images i ≡ slice_index news i
  new_is i lt = pushed_old news b i (omega (arith, lt, s.pairs))

  from_is : (i : ℕ) → i < length olds → slice_index froms i ≡ slice_index s.froms i
  from_is i lt = pushed_old s.froms f i (omega (arith, lt, s.from_each))

  number_is : (i : ℕ) → i < length olds → slice_index numbers i ≡ slice_index s.numbers i
  number_is i lt = pushed_old s.numbers n i (omega (arith, lt, s.number_each))

  old_last : (i : ℕ) → i ≡ length olds → slice_index more i ≡ a
  old_last i e = pushed_new olds a i e

  new_last : (i : ℕ) → i ≡ length olds → slice_index images i ≡ b
  new_last i e = pushed_new news b i (e ∙ sym s.pairs)

  from_last : (i : ℕ) → i ≡ length olds → slice_index froms i ≡ f
  from_last i e = pushed_new s.froms f i (e ∙ sym s.from_each)

  number_last : (i : ℕ) → i ≡ length olds → slice_index numbers i ≡ n
  number_last i e = pushed_new s.numbers n i (e ∙ sym s.number_each)

  same : AreSame set g h olds news more images (length olds)
  same = record { more = omega (arith, count); olds_same = λ i lt. sym (old_is i lt); news_same = λ i lt. sym (new_is i lt) }

  within : f ≤ length g.words + length olds
  within = words_within fill set g h olds news f n (suc a) (suc b) here_are

  words_more : (k m x y : ℕ) → AreWords set g h olds news k m x y → k ≤ length g.words + length olds → AreWords set g h more images k m x y
  words_more k m x y w le = words_there set g h olds news more images (length olds) k m x y same (λ lt. le) w

  words_less : (k m x y : ℕ) → AreWords set g h more images k m x y → k ≤ length g.words + length olds → AreWords set g h olds news k m x y
  words_less k m x y w le =
      words_there set g h more images olds news (length olds) k m x y (same_back set g h olds news more images (length olds) (omega arith) same) (λ lt. le) w

  -- the place of a pair: of an old one, or this one
  place_of : (P : ℕ → ℕ → Type 0) (i : ℕ) → i < length olds → P (slice_index s.froms i) (slice_index s.numbers i) → P (slice_index froms i) (slice_index numbers i)
  place_of P i lt p = subst (λ z. P z (slice_index numbers i)) (sym (from_is i lt)) (subst (P (slice_index s.froms i)) (sym (number_is i lt)) p)

  place_last : (P : ℕ → ℕ → Type 0) (i : ℕ) → i ≡ length olds → P f n → P (slice_index froms i) (slice_index numbers i)
  place_last P i e p = subst (λ z. P z (slice_index numbers i)) (sym (from_last i e)) (subst (P f) (sym (number_last i e)) p)

  agree_more : (k m x y : ℕ) → DoAgree set g olds news s.froms s.numbers k m x y → DoAgree set g more images froms numbers k m x y
  agree_more k m x y (inl o) = inl o
  agree_more k m x y (inr o) = inr (
    o.0,
    omega (arith, o.1, count),
    o.2 ∙ ap suc (sym (old_is o.0 o.1)),
    o.3 ∙ ap suc (sym (new_is o.0 o.1)),
    place_of (λ p q. IsEarlier p q k (m + 1)) o.0 o.1 o.4,
  )

  row_within : (k m : ℕ) → IsEarlier k m f (n + 1) → k ≤ length g.words + length olds
  row_within k m (inl e) = omega (arith, e, within)
  row_within k m (inr e) = omega (arith, e.0, within)

  pub added_search : IsSearch fill set g h more images f (n + 1)
  added_search = record {
    froms = froms;
    numbers = numbers;
    pairs = length_push news b ∙ ap (λ z. z + 1) s.pairs ∙ sym count;
    from_each = length_push s.froms f ∙ ap (λ z. z + 1) s.from_each ∙ sym count;
    number_each = length_push s.numbers n ∙ ap (λ z. z + 1) s.number_each ∙ sym count;
    of_set = λ i lt. elim (cases i lt) [
      | inl l ↦ subst (λ z. IsTrue (in_set g set z)) (sym (old_is i l)) (s.of_set i l)
      | inr e ↦ subst (λ z. IsTrue (in_set g set z)) (sym (old_last i e)) of_set
    ];
    room = λ i lt. elim (cases i lt) [
      | inl l ↦ subst (MayHoldCopy fill g) (sym (new_is i l)) (s.room i l)
      | inr e ↦ subst (MayHoldCopy fill g) (sym (new_last i e)) room
    ];
    one_old = λ i j lt lt' e. elim (cases i lt) [
      | inl l ↦ elim (cases j lt') [
        | inl l' ↦ s.one_old i j l l' (sym (old_is i l) ∙ e ∙ old_is j l')
        | inr r' ↦ absurd (new_old i l (sym (old_is i l) ∙ e ∙ old_last j r'))
      ]
      | inr r ↦ elim (cases j lt') [
        | inl l' ↦ absurd (new_old j l' (sym (old_is j l') ∙ sym e ∙ old_last i r))
        | inr r' ↦ r ∙ sym r'
      ]
    ];
    one_new = λ i j lt lt' e. elim (cases i lt) [
      | inl l ↦ elim (cases j lt') [
        | inl l' ↦ s.one_new i j l l' (sym (new_is i l) ∙ e ∙ new_is j l')
        | inr r' ↦ absurd (new_new i (omega (arith, l, s.pairs)) (sym (new_is i l) ∙ e ∙ new_last j r'))
      ]
      | inr r ↦ elim (cases j lt') [
        | inl l' ↦ absurd (new_new j (omega (arith, l', s.pairs)) (sym (new_is j l') ∙ sym e ∙ new_last i r))
        | inr r' ↦ r ∙ sym r'
      ]
    ];
    places = λ i lt. elim (cases i lt) [
      | inl l ↦
          let back = s.backward i l in
          let old : AreWords set g h more images (slice_index s.froms i) (slice_index s.numbers i) (suc (slice_index olds i)) (suc (slice_index news i)) =
          words_more (slice_index s.froms i) (slice_index s.numbers i) (suc (slice_index olds i)) (suc (slice_index news i)) (s.places i l) (omega (arith, back, l)) in
          place_of (λ p q. AreWords set g h more images p q (suc (slice_index more i)) (suc (slice_index images i))) i l
          (subst (λ z. AreWords set g h more images (slice_index s.froms i) (slice_index s.numbers i) (suc z) (suc (slice_index images i))) (sym (old_is i l))
          (subst (λ z. AreWords set g h more images (slice_index s.froms i) (slice_index s.numbers i) (suc (slice_index olds i)) (suc z)) (sym (new_is i l)) old))
      | inr e ↦
          place_last (λ p q. AreWords set g h more images p q (suc (slice_index more i)) (suc (slice_index images i))) i e
          (subst (λ z. AreWords set g h more images f n (suc z) (suc (slice_index images i))) (sym (old_last i e))
          (subst (λ z. AreWords set g h more images f n (suc a) (suc z)) (sym (new_last i e)) (words_more f n (suc a) (suc b) here_are within)))
    ];
    backward = λ i lt. elim (cases i lt) [
      | inl l ↦ let k = s.backward i l in omega (arith, k, from_is i l)
      | inr e ↦ omega (arith, within, from_last i e, e)
    ];
    rising = λ i j less lt. elim (cases j lt) [
      | inl l ↦
          let l' : i < length olds = omega (arith, less, l) in
          place_of (λ p q. IsEarlier (slice_index froms i) (slice_index numbers i) p q) j l
          (place_of (λ p q. IsEarlier p q (slice_index s.froms j) (slice_index s.numbers j)) i l' (s.rising i j less l))
      | inr e ↦
          let l' : i < length olds = omega (arith, less, e) in
          place_last (λ p q. IsEarlier (slice_index froms i) (slice_index numbers i) p q) j e (place_of (λ p q. IsEarlier p q f n) i l' (s.below i l'))
    ];
    below = λ i lt. elim (cases i lt) [
      | inl l ↦ place_of (λ p q. IsEarlier p q f (n + 1)) i l (earlier_next (slice_index s.froms i) (slice_index s.numbers i) f n (s.below i l))
      | inr e ↦ place_last (λ p q. IsEarlier p q f (n + 1)) i e (here f n)
    ];
    agree = λ k m x y e w. elim (earlier_cases k m f n e) [
      | inl d ↦ agree_more k m x y (s.agree k m x y d (words_less k m x y w (row_within k m e)))
      | inr d ↦
          let l : ℕ = length olds in
          let mine : AreWords set g h more images f n x y =
          subst (λ z. AreWords set g h more images z n x y) d.0 (subst (λ z. AreWords set g h more images k z x y) d.1 w) in
          let one = words_one set g h more images f n x y (suc a) (suc b) mine (words_more f n (suc a) (suc b) here_are within) in
          inr (
            l,
            omega (arith, count),
            one.0 ∙ ap suc (sym (old_last l refl)),
            one.1 ∙ ap suc (sym (new_last l refl)),
            place_last (λ p q. IsEarlier p q k (m + 1)) l refl
                (subst (λ z. IsEarlier f n z (m + 1)) (sym d.0) (subst (λ z. IsEarlier f n f (z + 1)) (sym d.1) (here f n))),
          )
    ];
    alike = λ t c d e w.
        let w' : IsTurn set g h olds news t c d =
        turn_there set g h more images olds news (length olds) t c d (same_back set g h olds news more images (length olds) (omega arith) same)
        (λ le. let k = row_within (suc t) 0 e in omega (arith, k)) w in
        elim (earlier_cases (suc t) 0 f n e) [
          | inl k ↦ s.alike t c d k w'
          | inr k ↦ absurd (words_some fill set g h olds news t (suc a) (suc b)
              (subst (λ z. AreWords set g h olds news z 0 (suc a) (suc b)) (sym k.0) (subst (λ z. AreWords set g h olds news f z (suc a) (suc b)) (sym k.1) here_are)))
        ];
  }
