-- A round's offers, whichever worker made them.
use Rattle.std.proofs.Common.{◌≡◌, ℕ, suc, ◌*◌, ◌<◌, ◌≤◌, Bool, true, false, cond, List, [], ◌∷◌, ◌++◌, map, filter, length, sum_by, sym, refl, ap, ◌∙◌, subst, arith, append_assoc, Contains, zero}
use Rattle.std.proofs.Common.{append-nil, IsPermutation, All}
use Rattle.std.specs.List.{flat_map, enumerate_from}
use Rattle.std.proofs.lemmas.List.{map-append}
use Rattle.std.proofs.lemmas.List.Concat.{flat_map-append}
use Rattle.std.proofs.lemmas.List.Sums.{sum_by-cons}
use Rattle.std.proofs.lemmas.List.Elements.{All-append, All-cons, All-nil, filter-append}
use Rattle.std.proofs.lemmas.List.Sorted.{IsPermutation-trans, IsPermutation-append_comm}
use Rattle.std.proofs.lemmas.List.Folds.{flat_map-map}
use Rattle.itertools.proofs.KMergeLemmas.{flat-permutation}
use Rattle.g1_work.specs.Each.{Ran, EachRan, IsEachRun, joined, RisesBelow, chunks_of}
use Rattle.g1_claim.specs.Claims.{TableView, SeatView, IsSeatOf}
use Rattle.g1_words.proofs.Ordered.{Ordered, pairs_from_ordered}
use Rattle.g1_words.proofs.Lists.{all_in}
use Rattle.g1_frontier.specs.declared.offering.Holder.{Holder}
use Rattle.g1_frontier.specs.Offering.{Try, pair_of, answered_true, offer_of, HasTried}
use Rattle.g1_work.specs.Regions.{slice_of}
use Rattle.g1_frontier.specs.Round.{IsFreshHolder, IsGivenOut, HasTaken, HasOffered, Rises}
use Rattle.g1_frontier.proofs.Offerings.{tried_none, tried_append}
use Rattle.g1_frontier.proofs.Pieces.{all_pieces, some_pieces}
use Rattle.g1_frontier.proofs.Scopes.{all_map}

abbrev pub RankLess : ℕ × ℕ → ℕ × ℕ → Type 0
RankLess q r = q.0 < r.0

in_kept_at : (m : Try) (ms ks : List Try) (q : ℕ × ℕ) → (Contains (map pair_of ks) q → Contains (map pair_of ms) q)
    → (b : Bool) → Contains (map pair_of (cond b (m ∷ ks) ks)) q → Contains (map pair_of (m ∷ ms)) q
in_kept_at m ms ks q f true (zero, b, e) = (zero, omega arith, e)
in_kept_at m ms ks q f true (suc j, b, e) = let c = f (j, omega (arith, b), e) in (suc c.0, omega (arith, c.1), c.2)
in_kept_at m ms ks q f false k = let c = f k in (suc c.0, omega (arith, c.1), c.2)

pub in_kept : (ms : List Try) (q : ℕ × ℕ) → Contains (map pair_of (filter answered_true ms)) q → Contains (map pair_of ms) q
in_kept [] q i = i
in_kept (m ∷ ms) q i = in_kept_at m ms (filter answered_true ms) q (in_kept ms q) m.1 i

-- what is kept of pairs in order is in order
pub kept_ordered : (ms : List Try) → Ordered RankLess (map pair_of ms) → Ordered RankLess (map pair_of (filter answered_true ms))
kept_ordered [] o = tt
kept_ordered (m ∷ ms) o =
    elim m.1 as (λ b. Ordered RankLess (map pair_of (cond b (m ∷ filter answered_true ms) (filter answered_true ms)))) [
      | true ↦ ((λ q i. o.0 q (in_kept ms q i)), kept_ordered ms o.1)
      | false ↦ kept_ordered ms o.1
    ]

module _ (place : ℕ → ℕ) (P : ℕ → List (ℕ × ℕ)) {O : Type 0} (runs : Holder → ℕ → Holder → O →
    Type 0) (says : (s : Holder) (k : ℕ) (t : Holder) (o : O) → runs s k t o → HasTried place (P k) s t) where
  abbrev pub given : List (ℕ × O) → List (ℕ × ℕ)
  given xs = flat_map (λ x. P x.0) xs

  pub ran_tried : (s : Holder) (xs : List (ℕ × O)) (t : Holder) → Ran runs s xs t → HasTried place (flat_map (λ x. P x.0) xs) s t
  ran_tried s [] t r = subst (λ u. HasTried place [] s u) r (tried_none place s)
  ran_tried s (x ∷ xs) t r = tried_append place (P x.0) (flat_map (λ x. P x.0) xs) s r.0 t (says s x.0 r.0 x.1 r.1) (ran_tried r.0 xs t r.2)

  -- what other workers did together
  pub record Together (ps : List (ℕ × ℕ)) (before after : List Holder) : Type 0 where
    pub made : List Try
    pub each : map pair_of made ≡ ps
    pub offers : flat_map (λ h. h.seat.hand.offers) after ≡ map (offer_of place) made
    pub kept : flat_map (λ h. h.kept.items) after ≡ map pair_of (filter answered_true made)
    pub shares : sum_by (λ h. h.seat.hand.shares) after ≡ length before

  module _ (n : ℕ) (t : TableView) where
    pub others_together : (ss : List Holder) (ps : List (List (ℕ × O))) (ts : List Holder) → EachRan runs n ss ps ts → All (IsFreshHolder t) ss → Together (flat_map (λ x. P x.0) (joined ps)) ss ts
    others_together [] [] [] r f = record { made = []; each = refl; offers = refl; kept = refl; shares = refl }
    others_together [] [] (u ∷ us) r f = absurd r
    others_together [] (p ∷ ps) us r f = absurd r
    others_together (s ∷ ss) [] us r f = absurd r
    others_together (s ∷ ss) (p ∷ ps) [] r f = absurd r
    others_together (s ∷ ss) (p ∷ ps) (u ∷ us) r f =
        let fresh : IsFreshHolder t s = f 0 s (omega arith) in
        let one = ran_tried s p u r.0 in
        let rest = others_together ss ps us r.2 (λ k d lt. f (suc k) d (omega (arith, lt))) in record {
          made = one.made ++ rest.made;
          each = map-append pair_of one.made rest.made ∙ (λ i. one.each i ++ rest.each i) ∙ sym (flat_map-append (λ (x : ℕ × O). P x.0) p (joined ps));
          offers = (λ i. (one.offers ∙ ap (λ os. os ++ map (offer_of place) one.made) fresh.no_offers) i ++ rest.offers i) ∙ sym (map-append (offer_of place) one.made rest.made);
          kept = (λ i. (one.kept ∙ ap (λ os. os ++ map pair_of (filter answered_true one.made)) fresh.none_kept) i ++ rest.kept i)
              ∙ sym (ap (map pair_of) (filter-append answered_true one.made rest.made) ∙ map-append pair_of (filter answered_true one.made) (filter answered_true rest.made));
          shares = let a = one.shares ∙ fresh.share in let b = rest.shares in let c = sum_by-cons (λ (h : Holder). h.seat.hand.shares) u us in omega (arith, a, b, c);
        }

    pub seats_back : (ss : List Holder) (ps : List (List (ℕ × O))) (ts : List Holder) → EachRan runs n ss ps ts → All (λ h. IsSeatOf t h.seat) ss → All (λ h. IsSeatOf t h.seat) ts
    seats_back [] [] [] r a = a
    seats_back [] [] (u ∷ us) r a = absurd r
    seats_back [] (p ∷ ps) us r a = absurd r
    seats_back (s ∷ ss) [] us r a = absurd r
    seats_back (s ∷ ss) (p ∷ ps) [] r a = absurd r
    seats_back (s ∷ ss) (p ∷ ps) (u ∷ us) r a =
        All-cons (λ (h : Holder). IsSeatOf t h.seat) u us ((ran_tried s p u r.0).table ∙ a 0 s (omega arith)) (seats_back ss ps us r.2 (λ k d lt. a (suc k) d (omega (arith, lt))))

    pub as_many : (ss : List Holder) (ps : List (List (ℕ × O))) (ts : List Holder) → EachRan runs n ss ps ts → length ts ≡ length ss
    as_many [] [] [] r = refl
    as_many [] [] (u ∷ us) r = absurd r
    as_many [] (p ∷ ps) us r = absurd r
    as_many (s ∷ ss) [] us r = absurd r
    as_many (s ∷ ss) (p ∷ ps) [] r = absurd r
    as_many (s ∷ ss) (p ∷ ps) (u ∷ us) r = ap suc (as_many ss ps us r.2)

    -- each worker's kept list is in order, where the chunks' pairs are
    module _ (ordered : (p : List (ℕ × O)) → RisesBelow n (chunks_of p) → Ordered RankLess (flat_map (λ x. P x.0) p)) where
      pub one_rises : (s : Holder) (p : List (ℕ × O)) (u : Holder) → Ran runs s p u → RisesBelow n (chunks_of p) → s.kept.items ≡ [] → Ordered RankLess u.kept.items
      one_rises s p u r rise none =
          let one = ran_tried s p u r in
          subst (Ordered RankLess) (sym (one.kept ∙ ap (λ l. l ++ map pair_of (filter answered_true one.made)) none)) (kept_ordered one.made (subst (Ordered RankLess) (sym one.each) (ordered p rise)))

      pub all_rise : (ss : List Holder) (ps : List (List (ℕ × O))) (ts : List Holder) → EachRan runs n ss ps ts → All (IsFreshHolder t) ss → All (λ (h : Holder). Ordered RankLess h.kept.items) ts
      all_rise [] [] [] r f = All-nil (λ (h : Holder). Ordered RankLess h.kept.items)
      all_rise [] [] (u ∷ us) r f = absurd r
      all_rise [] (p ∷ ps) us r f = absurd r
      all_rise (s ∷ ss) [] us r f = absurd r
      all_rise (s ∷ ss) (p ∷ ps) [] r f = absurd r
      all_rise (s ∷ ss) (p ∷ ps) (u ∷ us) r f =
          let fresh : IsFreshHolder t s = f 0 s (omega arith) in
          All-cons (λ (h : Holder). Ordered RankLess h.kept.items) u us (one_rises s p u r.0 r.1 fresh.none_kept) (all_rise ss ps us r.2 (λ k d lt. f (suc k) d (omega (arith, lt))))

  -- the last worker beside the others
  pub record LastApart (n : ℕ) (ss : List Holder) (s : Holder) (ps : List (List (ℕ × O))) (ts : List Holder) (t : Holder) : Type 0 where
    pub others : List (List (ℕ × O))
    pub last : List (ℕ × O)
    pub ran : EachRan runs n ss others ts
    pub ran_last : Ran runs s last t
    pub rises : RisesBelow n (chunks_of last)
    pub parts : joined ps ≡ joined others ++ last

  pub last_apart : (n : ℕ) (ss : List Holder) (s : Holder) (ps : List (List (ℕ × O))) (ts : List Holder) (t : Holder) → EachRan runs n (ss ++ s ∷ []) ps (ts ++ t ∷ []) → LastApart n ss s ps ts t
  last_apart n [] s [] ts t r = absurd r
  last_apart n [] s (p ∷ []) [] t r = record { others = []; last = p; ran = tt; ran_last = r.0; rises = r.1; parts = append-nil p }
  last_apart n [] s (p ∷ q ∷ qs) [] t r = absurd r.2
  last_apart n [] s (p ∷ []) (u ∷ []) t r = absurd r.2
  last_apart n [] s (p ∷ q ∷ qs) (u ∷ []) t r = absurd r.2
  last_apart n [] s (p ∷ []) (u ∷ v ∷ us) t r = absurd r.2
  last_apart n [] s (p ∷ q ∷ qs) (u ∷ v ∷ us) t r = absurd r.2
  last_apart n (x ∷ ss) s [] ts t r = absurd r
  last_apart n (x ∷ []) s (p ∷ []) [] t r = absurd r.2
  last_apart n (x ∷ []) s (p ∷ q ∷ qs) [] t r = absurd r.2
  last_apart n (x ∷ y ∷ ss) s (p ∷ []) [] t r = absurd r.2
  last_apart n (x ∷ y ∷ ss) s (p ∷ q ∷ qs) [] t r = absurd r.2
  last_apart n (x ∷ ss) s (p ∷ ps) (u ∷ us) t r =
      let l = last_apart n ss s ps us t r.2 in record {
        others = p ∷ l.others;
        last = l.last;
        ran = (r.0, r.1, l.ran);
        ran_last = l.ran_last;
        rises = l.rises;
        parts = ap (λ k. p ++ k) l.parts ∙ sym (append_assoc p (joined l.others) l.last);
      }

-- each worker has a seat of the table
pub given_seats : (t : TableView) (seat : SeatView) (count : ℕ) (before : List Holder) → IsGivenOut t seat count before → All (λ h. IsSeatOf t h.seat) before
given_seats t seat count before g =
    subst (All (λ (h : Holder). IsSeatOf t h.seat)) (sym g.are) (All-append (λ (h : Holder). IsSeatOf t h.seat) g.others (g.last ∷ [])
    (λ k d lt. (g.fresh k d lt).seat) (All-cons (λ (h : Holder). IsSeatOf t h.seat) g.last [] g.seat (All-nil (λ (h : Holder). IsSeatOf t h.seat))))

-- the seats of all workers together, and what they kept
module _ {A : Type 0} (t : TableView) (place : ℕ → ℕ) (f : A → List (ℕ × ℕ)) (size : ℕ) (items : List A) {O : Type 0} (runs : Holder → ℕ → Holder → O → Type 0)
    (says : (s : Holder) (k : ℕ) (u : Holder) (o : O) → runs s k u o → HasTried place (flat_map f (slice_of size k items)) s u) where
  abbrev P : ℕ → List (ℕ × ℕ)
  P k = flat_map f (slice_of size k items)

  pub all_back : (n : ℕ) (seat : SeatView) (count : ℕ) (before after : List Holder) (outs : List O) → IsGivenOut t seat count before →
      IsEachRun runs n before after outs → All (λ h. IsSeatOf t h.seat) after
  all_back n seat count before after outs g r = seats_back place P runs says n t before r.parts after r.workers (given_seats t seat count before g)

  pub count_back : (n : ℕ) (seat : SeatView) (count : ℕ) (before after : List Holder) (outs : List O) → IsGivenOut t seat count before → IsEachRun runs n before after outs → length after ≡ count
  count_back n seat count before after outs g r = as_many place P runs says n t before r.parts after r.workers ∙ g.count_is

  pub whole_round : (n : ℕ) (seat after_seat : SeatView) (count : ℕ) (before after : List Holder) (outs : List O) (lists : List (List (ℕ × ℕ))) →
      IsGivenOut t seat count before → IsEachRun runs n before after outs → HasTaken t after after_seat lists
      → length items ≤ n * size → Ordered RankLess (flat_map f items) → HasOffered t place (flat_map f items) seat after_seat lists
  whole_round n seat after_seat count before after outs lists g r k le o =
      let each : EachRan runs n (g.others ++ g.last ∷ []) r.parts (k.others ++ k.last ∷ []) =
      subst (λ (q : List Holder × List Holder). EachRan runs n q.0 r.parts q.1) (λ i. (g.are i, k.are i)) r.workers in
      let l = last_apart place P runs says n g.others g.last r.parts k.others k.last each in
      let rest = others_together place P runs says n t g.others l.others k.others l.ran g.fresh in
      let one = ran_tried place P runs says g.last l.last k.last l.ran_last in
      let X : List (ℕ × ℕ) = flat_map (λ (x : ℕ × O). P x.0) l.last in
      let Y : List (ℕ × ℕ) = flat_map (λ (x : ℕ × O). P x.0) (joined l.others) in
      let ordered : (p : List (ℕ × O)) → RisesBelow n (chunks_of p) → Ordered RankLess (flat_map (λ x. P x.0) p) = λ p rise. some_pieces RankLess f size items o n p rise in
      let swapped : Y ++ X ≡ flat_map (λ (x : ℕ × O). P x.0) (joined r.parts) = sym (ap (flat_map (λ (x : ℕ × O). P x.0)) l.parts ∙ flat_map-append (λ (x : ℕ × O). P x.0) (joined l.others) l.last) in
      let moved : IsPermutation (X ++ Y) (flat_map (λ (x : ℕ × O). P x.0) (joined r.parts)) = subst (IsPermutation (X ++ Y)) swapped (IsPermutation-append_comm X Y) in
      let all : IsPermutation (flat_map (λ (x : ℕ × O). P x.0) (joined r.parts)) (flat_map f items) =
      subst (IsPermutation (flat_map (λ (x : ℕ × O). P x.0) (joined r.parts)))
      (all_pieces f size items outs (subst (λ m. length items ≤ m * size) (sym r.count) le)) (flat-permutation (λ (x : ℕ × O). P x.0) (joined r.parts) (enumerate_from 0 outs) r.once) in
      let made : List Try = one.made ++ rest.made in
      let pairs_are : map pair_of made ≡ X ++ Y = map-append pair_of one.made rest.made ∙ (λ i. one.each i ++ rest.each i) in
      let shares : after_seat.hand.shares ≡ 64 = let a = k.shares in let b = one.shares in let c = rest.shares in let d = g.shares in omega (arith, a, b, c, d) in record {
        made = made;
        each = subst (λ ps. IsPermutation ps (flat_map f items)) (sym pairs_are) (IsPermutation-trans (X ++ Y) (flat_map (λ (x : ℕ × O). P x.0) (joined r.parts)) (flat_map f items) moved all);
        offers =
            k.offers ∙ (λ i. (one.offers ∙ ap (λ os. os ++ map (offer_of place) one.made) g.offers) i ++ rest.offers i)
            ∙ append_assoc seat.hand.offers (map (offer_of place) one.made) (map (offer_of place) rest.made)
            ∙ ap (λ os. seat.hand.offers ++ os) (sym (map-append (offer_of place) one.made rest.made));
        kept =
            ap (flat_map (λ (l : List (ℕ × ℕ)). l)) k.kept
            ∙ (λ i. (one.kept ∙ ap (λ ks. ks ++ map pair_of (filter answered_true one.made)) g.none_kept) i
            ++ (flat_map-map (λ (l : List (ℕ × ℕ)). l) (λ (h : Holder). h.kept.items) k.others ∙ rest.kept) i)
            ∙ sym (ap (map pair_of) (filter-append answered_true one.made rest.made) ∙ map-append pair_of (filter answered_true one.made) (filter answered_true rest.made));
        rise = subst (All Rises) (sym k.kept) (All-cons Rises k.last.kept.items (map (λ (h : Holder). h.kept.items) k.others)
            (pairs_from_ordered RankLess k.last.kept.items (one_rises place P runs says n t ordered g.last l.last k.last l.ran_last l.rises g.none_kept))
            (all_map Rises (λ (h : Holder). h.kept.items) k.others (λ h i. pairs_from_ordered RankLess h.kept.items
            (all_in (λ (h : Holder). Ordered RankLess h.kept.items) k.others h (all_rise place P runs says n t ordered g.others l.others k.others l.ran g.fresh) i))));
        seat = k.seat;
        whole = shares;
        settled = k.settled shares;
      }
