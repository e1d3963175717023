-- What the spans of a round's chunks have: what the workers kept, by rising rank.
use Rattle.std.proofs.Common.{◌≡◌, ℕ, ◌+◌, ◌-◌, ◌<◌, ◌≤◌, inl, inr, List, [], ◌∷◌, ◌++◌, map, filter, length, take, drop, sym, refl, ap, ◌∙◌, subst, arith, append_assoc, Contains, zero, suc}
use Rattle.std.proofs.Common.{append-nil, length-append, IsPermutation}
use Rattle.std.specs.Prelude.{slice_index_or}
use Rattle.std.specs.List.{flat_map, enumerate_from, range_with_len}
use Rattle.std.proofs.lemmas.List.Concat.{flat_map-append}
use Rattle.std.proofs.lemmas.List.Sorted.{IsPermutation-trans, IsPermutation-sym, IsPermutation-append_comm, Contains-permutation}
use Rattle.std.proofs.lemmas.List.Folds.{flat_map-map}
use Rattle.std.proofs.lemmas.List.Elements.{Contains-append_cases}
use Rattle.itertools.proofs.KMergeLemmas.{flat-permutation}
use Rattle.g1_work.specs.Each.{Ran, EachRan, IsEachRun, joined}
use Rattle.g1_work.specs.Regions.{slice_of}
use Rattle.g1_claim.specs.Claims.{TableView, SeatView}
use Rattle.g1_words.proofs.Ordered.{Ordered, pairs_from_ordered}
use Rattle.g1_words.proofs.Rising.{Ordered-flat_map}
use Rattle.g1_words.proofs.Lists.{all_in, all_from_in}
use Rattle.g1_words.proofs.Members.{Contains-later}
use Rattle.g1_frontier.specs.declared.offering.Holder.{Holder}
use Rattle.g1_frontier.specs.declared.offering.Span.{Span}
use Rattle.g1_frontier.specs.Offering.{Try, pair_of, answered_true, HasTried, IsSpan, IsWithin, in_span}
use Rattle.g1_frontier.specs.Round.{IsGivenOut, HasTaken, AreSpans}
use Rattle.g1_frontier.proofs.Assembly.{RankLess, kept_ordered, ran_tried, last_apart, as_many, in_kept}
use Rattle.g1_frontier.proofs.Pieces.{at_end, piece_ordered, pieces_apart}

-- ---- lists

cut_front : {A : Type 0} (ks rs : List A) → take (length ks) (ks ++ rs) ≡ ks
cut_front [] rs = refl
cut_front (k ∷ ks) rs = ap (λ l. k ∷ l) (cut_front ks rs)

cut_middle : {A : Type 0} (xs ks rs : List A) → take (length ks) (drop (length xs) ((xs ++ ks) ++ rs)) ≡ ks
cut_middle [] ks rs = cut_front ks rs
cut_middle (x ∷ xs) ks rs = cut_middle xs ks rs

head_of : List ℕ → ℕ
head_of [] = 0
head_of (x ∷ xs) = x

tail_of : List ℕ → List ℕ
tail_of [] = []
tail_of (x ∷ xs) = xs

module _ {O : Type 0} where
  enumerated_above : (k : ℕ) (os : List O) (x : ℕ × O) → Contains (enumerate_from k os) x → k ≤ x.0
  enumerated_above k [] x i = absurd (omega (arith, i.1))
  enumerated_above k (o ∷ os) x (zero, b, e) = let n : k ≡ x.0 = ap (λ (q : ℕ × O). q.0) e in omega (arith, n)
  enumerated_above k (o ∷ os) x (suc j, b, e) = let n = enumerated_above (k + 1) os x (j, omega (arith, b), e) in omega (arith, n)

  enumerated_rise : (k : ℕ) (os : List O) → Ordered (λ (x y : ℕ × O). x.0 < y.0) (enumerate_from k os)
  enumerated_rise k [] = tt
  enumerated_rise k (o ∷ os) = ((λ y i. let n = enumerated_above (k + 1) os y i in omega (arith, n)), enumerated_rise (k + 1) os)

  in_enumerated : (k : ℕ) (os : List O) (o : O) → Contains os o → (j : ℕ) × Contains (enumerate_from k os) (j, o)
  in_enumerated k [] o i = absurd (omega (arith, i.1))
  in_enumerated k (p ∷ os) o (zero, b, e) = (k, (zero, omega arith, ap (λ (q : O). (k, q)) e))
  in_enumerated k (p ∷ os) o (suc j, b, e) = let r = in_enumerated (k + 1) os o (j, omega (arith, b), e) in (r.0, Contains-later (k, p) (enumerate_from (k + 1) os) (r.0, o) r.1)

  flat_enumerated : {B : Type 0} (f : O → List B) (k : ℕ) (os : List O) → flat_map (λ (x : ℕ × O). f x.1) (enumerate_from k os) ≡ flat_map f os
  flat_enumerated f k [] = refl
  flat_enumerated f k (o ∷ os) = ap (λ l. f o ++ l) (flat_enumerated f (k + 1) os)

-- ---- the room of each worker is at its number

abbrev Roomed : List (List (ℕ × ℕ)) → Holder → Type 0
Roomed lists t = (t.number < length lists) × (slice_index_or lists t.number [] ≡ t.kept.items)

roomed_from : (pre : List (List (ℕ × ℕ))) (ts : List Holder) → map (λ (h : Holder). h.number) ts ≡ range_with_len (length pre) (length ts) → (t : Holder) → Contains ts t →
    Roomed (pre ++ map (λ (h : Holder). h.kept.items) ts) t
unfolding head_of tail_of
roomed_from pre [] e t i = absurd (omega (arith, i.1))
roomed_from pre (u ∷ ts) e t (zero, b, same) =
    let n : t.number ≡ length pre = sym (ap (λ (h : Holder). h.number) same) ∙ ap head_of e in
    let l = length-append pre (u.kept.items ∷ map (λ (h : Holder). h.kept.items) ts) in (
      omega (arith, n, l),
      ap (λ m. slice_index_or (pre ++ u.kept.items ∷ map (λ (h : Holder). h.kept.items) ts) m []) n ∙ at_end pre u.kept.items (map (λ (h : Holder). h.kept.items) ts) []
          ∙ ap (λ (h : Holder). h.kept.items) same,
    )
roomed_from pre (u ∷ ts) e t (suc k, b, eq) =
    let more : List (List (ℕ × ℕ)) = pre ++ u.kept.items ∷ [] in
    let n : length pre + 1 ≡ length more = let l = length-append pre (u.kept.items ∷ []) in omega (arith, l) in
    subst (λ l. Roomed l t) (append_assoc pre (u.kept.items ∷ []) (map (λ (h : Holder). h.kept.items) ts))
    (roomed_from more ts (ap tail_of e ∙ ap (λ m. range_with_len m (length ts)) n) t (k, omega (arith, b), eq))

module _ (place : ℕ → ℕ) (P : ℕ → List (ℕ × ℕ)) (runs : Holder → ℕ → Holder → Span → Type 0)
    (says : (s : Holder) (k : ℕ) (t : Holder) (o : Span) → runs s k t o → HasTried place (P k) s t × IsSpan s t o) where
  tried : (s : Holder) (k : ℕ) (t : Holder) (o : Span) → runs s k t o → HasTried place (P k) s t
  tried s k t o r = (says s k t o r).0

  -- a span has those of its chunk's pairs whose offer answered true
  abbrev Has : List (List (ℕ × ℕ)) → ℕ × Span → Type 0
  Has lists x = IsWithin lists x.1 × ((ms : List Try) × (map pair_of ms ≡ P x.0) × (in_span lists x.1 ≡ map pair_of (filter answered_true ms)))

  module _ (lists : List (List (ℕ × ℕ))) where
    abbrev spanned : List (ℕ × Span) → List (ℕ × ℕ)
    spanned xs = flat_map (λ x. in_span lists x.1) xs

    one_span : (s : Holder) (x : ℕ × Span) (m : Holder) (rs : List (ℕ × ℕ)) → (r : runs s x.0 m x.1) → s.number < length lists → slice_index_or lists s.number [] ≡ m.kept.items ++ rs →
        IsWithin lists x.1 × (in_span lists x.1 ≡ map pair_of (filter answered_true (says s x.0 m x.1 r).0.made))
    one_span s x m rs r lt e =
        let h = (says s x.0 m x.1 r).0 in
        let o = (says s x.0 m x.1 r).1 in
        let ks : List (ℕ × ℕ) = map pair_of (filter answered_true h.made) in
        let from : x.1.from ≡ length s.kept.items = o.from ∙ s.kept.ok.0 in
        let to : x.1.to ≡ length s.kept.items + length ks = o.to ∙ m.kept.ok.0 ∙ ap length h.kept ∙ length-append s.kept.items ks in
        let size : x.1.to - x.1.from ≡ length ks = omega (arith, from, to) in
        let room : slice_index_or lists x.1.worker [] ≡ (s.kept.items ++ ks) ++ rs = ap (λ w. slice_index_or lists w []) o.worker ∙ e ∙ ap (λ l. l ++ rs) h.kept in
        let long : length (slice_index_or lists x.1.worker []) ≡ length (s.kept.items ++ ks) + length rs = ap length room ∙ length-append (s.kept.items ++ ks) rs in
        let parts = length-append s.kept.items ks in (
          record { worker = omega (arith, o.worker, lt); order = omega (arith, from, to); room = omega (arith, to, long, parts) },
          (λ i. take (size i) (drop (from i) (room i))) ∙ cut_middle s.kept.items ks rs,
        )

    -- the spans of one worker's chunks
    ran_has : (s : Holder) (xs : List (ℕ × Span)) (t : Holder) → Ran runs s xs t → s.number < length lists → slice_index_or lists s.number [] ≡ t.kept.items
        → (x : ℕ × Span) → Contains xs x → Has lists x
    ran_has s [] t r lt e x i = absurd (omega (arith, i.1))
    ran_has s (y ∷ ys) t r lt e x (zero, b, same) =
        let rest = ran_tried place P runs tried r.0 ys t r.2 in
        let one = one_span s y r.0 (map pair_of (filter answered_true rest.made)) r.1 lt (e ∙ rest.kept) in
        let h = (says s y.0 r.0 y.1 r.1).0 in
        subst (Has lists) same (one.0, (h.made, h.each, one.1))
    ran_has s (y ∷ ys) t r lt e x (suc k, b, eq) =
        let n = (says s y.0 r.0 y.1 r.1).0.number in
        ran_has r.0 ys t r.2 (omega (arith, n, lt)) (ap (λ w. slice_index_or lists w []) n ∙ e) x (k, omega (arith, b), eq)

    ran_flat : (s : Holder) (xs : List (ℕ × Span)) (t : Holder) → Ran runs s xs t → s.number < length lists → slice_index_or lists s.number [] ≡ t.kept.items → s.kept.items ++ spanned xs ≡ t.kept.items
    ran_flat s [] t r lt e = append-nil s.kept.items ∙ ap (λ (h : Holder). h.kept.items) r
    ran_flat s (y ∷ ys) t r lt e =
        let rest = ran_tried place P runs tried r.0 ys t r.2 in
        let one = one_span s y r.0 (map pair_of (filter answered_true rest.made)) r.1 lt (e ∙ rest.kept) in
        let h = (says s y.0 r.0 y.1 r.1).0 in
        ap (λ l. s.kept.items ++ (l ++ spanned ys)) one.1
        ∙ sym (append_assoc s.kept.items (map pair_of (filter answered_true h.made)) (spanned ys))
        ∙ ap (λ l. l ++ spanned ys) (sym h.kept)
        ∙ ran_flat r.0 ys t r.2 (omega (arith, h.number, lt)) (ap (λ w. slice_index_or lists w []) h.number ∙ e)

    number_back : (s : Holder) (xs : List (ℕ × Span)) (t : Holder) → Ran runs s xs t → t.number ≡ s.number
    number_back s xs t r = (ran_tried place P runs tried s xs t r).number

    -- a worker that had kept nothing
    fresh_flat : (s : Holder) (xs : List (ℕ × Span)) (t : Holder) → Ran runs s xs t → s.kept.items ≡ [] → Roomed lists t → spanned xs ≡ t.kept.items
    fresh_flat s xs t r none at =
        let n = number_back s xs t r in
        sym (ap (λ l. l ++ spanned xs) none) ∙ ran_flat s xs t r (omega (arith, n, at.0)) (ap (λ w. slice_index_or lists w []) (sym n) ∙ at.1)

    fresh_has : (s : Holder) (xs : List (ℕ × Span)) (t : Holder) → Ran runs s xs t → Roomed lists t → (x : ℕ × Span) → Contains xs x → Has lists x
    fresh_has s xs t r at x i =
        let n = number_back s xs t r in
        ran_has s xs t r (omega (arith, n, at.0)) (ap (λ w. slice_index_or lists w []) (sym n) ∙ at.1) x i

    each_flat : (n : ℕ) (ss : List Holder) (ps : List (List (ℕ × Span))) (ts : List Holder) → EachRan runs n ss ps ts → ((s : Holder) → Contains ss s → s.kept.items ≡ []) →
        ((t : Holder) → Contains ts t → Roomed lists t) → spanned (joined ps) ≡ flat_map (λ (h : Holder). h.kept.items) ts
    each_flat n [] [] [] r f at = refl
    each_flat n [] [] (u ∷ us) r f at = absurd r
    each_flat n [] (p ∷ ps) us r f at = absurd r
    each_flat n (s ∷ ss) [] us r f at = absurd r
    each_flat n (s ∷ ss) (p ∷ ps) [] r f at = absurd r
    each_flat n (s ∷ ss) (p ∷ ps) (u ∷ us) r f at =
        flat_map-append (λ (x : ℕ × Span). in_span lists x.1) p (joined ps)
        ∙ (λ i. fresh_flat s p u r.0 (f s (zero, omega arith, refl)) (at u (zero, omega arith, refl)) i
        ++ each_flat n ss ps us r.2 (λ s i. f s (suc i.0, omega (arith, i.1), i.2)) (λ t i. at t (suc i.0, omega (arith, i.1), i.2)) i)

    each_has : (n : ℕ) (ss : List Holder) (ps : List (List (ℕ × Span))) (ts : List Holder) → EachRan runs n ss ps ts →
        ((t : Holder) → Contains ts t → Roomed lists t) → (x : ℕ × Span) → Contains (joined ps) x → Has lists x
    each_has n [] [] [] r at x i = absurd (omega (arith, i.1))
    each_has n [] [] (u ∷ us) r at x i = absurd r
    each_has n [] (p ∷ ps) us r at x i = absurd r
    each_has n (s ∷ ss) [] us r at x i = absurd r
    each_has n (s ∷ ss) (p ∷ ps) [] r at x i = absurd r
    each_has n (s ∷ ss) (p ∷ ps) (u ∷ us) r at x i = elim (Contains-append_cases p (joined ps) x i) [
      | inl j ↦ fresh_has s p u r.0 (at u (zero, omega arith, refl)) x j
      | inr j ↦ each_has n ss ps us r.2 (λ t i. at t (suc i.0, omega (arith, i.1), i.2)) x j
    ]

  numbers_back : (n : ℕ) (ss : List Holder) (ps : List (List (ℕ × Span))) (ts : List Holder) → EachRan runs n ss ps ts → map (λ (h : Holder). h.number) ts ≡ map (λ (h : Holder). h.number) ss
  numbers_back n [] [] [] r = refl
  numbers_back n [] [] (u ∷ us) r = absurd r
  numbers_back n [] (p ∷ ps) us r = absurd r
  numbers_back n (s ∷ ss) [] us r = absurd r
  numbers_back n (s ∷ ss) (p ∷ ps) [] r = absurd r
  numbers_back n (s ∷ ss) (p ∷ ps) (u ∷ us) r = λ i. number_back [] s p u r.0 i ∷ numbers_back n ss ps us r.2 i

module _ {A : Type 0} (t : TableView) (place : ℕ → ℕ) (f : A → List (ℕ × ℕ)) (size : ℕ) (items : List A) (runs : Holder → ℕ → Holder → Span → Type 0)
    (says : (s : Holder) (k : ℕ) (u : Holder) (o : Span) → runs s k u o → HasTried place (flat_map f (slice_of size k items)) s u × IsSpan s u o) where
  abbrev P : ℕ → List (ℕ × ℕ)
  P k = flat_map f (slice_of size k items)

  pub whole_spans : (n : ℕ) (seat after_seat : SeatView) (count : ℕ) (before after : List Holder) (outs : List Span) (lists : List (List (ℕ × ℕ))) →
      IsGivenOut t seat count before → IsEachRun runs n before after outs → HasTaken t after after_seat lists → Ordered RankLess (flat_map f items) → AreSpans lists outs
  whole_spans n seat after_seat count before after outs lists g r k o =
      let each : EachRan runs n (g.others ++ g.last ∷ []) r.parts (k.others ++ k.last ∷ []) =
      subst (λ (q : List Holder × List Holder). EachRan runs n q.0 r.parts q.1) (λ i. (g.are i, k.are i)) r.workers in
      let tries : (s : Holder) (j : ℕ) (u : Holder) (x : Span) → runs s j u x → HasTried place (flat_map f (slice_of size j items)) s u = λ s j u x z. (says s j u x z).0 in
      let l = last_apart place P runs tries n g.others g.last r.parts k.others k.last each in
      let rooms : List (List (ℕ × ℕ)) = k.last.kept.items ∷ map (λ (h : Holder). h.kept.items) k.others in
      let as_many_back : length k.others ≡ length g.others = as_many place P runs tries n t g.others l.others k.others l.ran in
      let numbers : map (λ (h : Holder). h.number) k.others ≡ range_with_len 1 (length k.others) =
      numbers_back place P runs says n g.others l.others k.others l.ran ∙ g.numbers ∙ ap (range_with_len 1) (sym as_many_back) in
      let at : (u : Holder) → Contains k.others u → Roomed rooms u = roomed_from (k.last.kept.items ∷ []) k.others numbers in
      let zero_last : k.last.number ≡ 0 = number_back place P runs says rooms g.last l.last k.last l.ran_last ∙ g.first in
      let at_last : Roomed rooms k.last = (omega (arith, zero_last), ap (λ m. slice_index_or rooms m []) zero_last) in
      let X : List (ℕ × ℕ) = k.last.kept.items in
      let Y : List (ℕ × ℕ) = flat_map (λ (h : Holder). h.kept.items) k.others in
      let flat_last : flat_map (λ (x : ℕ × Span). in_span rooms x.1) l.last ≡ X = fresh_flat place P runs says rooms g.last l.last k.last l.ran_last g.none_kept at_last in
      let flat_others : flat_map (λ (x : ℕ × Span). in_span rooms x.1) (joined l.others) ≡ Y =
      each_flat place P runs says rooms n g.others l.others k.others l.ran (λ s i. (all_in (λ s. Rattle.g1_frontier.specs.Round.IsFreshHolder t s) g.others s g.fresh i).none_kept) at in
      let parts_flat : flat_map (λ (x : ℕ × Span). in_span rooms x.1) (joined r.parts) ≡ Y ++ X =
      ap (flat_map (λ (x : ℕ × Span). in_span rooms x.1)) l.parts ∙ flat_map-append (λ (x : ℕ × Span). in_span rooms x.1) (joined l.others) l.last ∙ (λ i. flat_others i ++ flat_last i) in
      let has : (x : ℕ × Span) → Contains (joined r.parts) x → Has place P runs says rooms x = λ x i.
      elim (Contains-append_cases (joined l.others) l.last x (subst (λ q. Contains q x) l.parts i)) [
        | inl j ↦ each_has place P runs says rooms n g.others l.others k.others l.ran at x j
        | inr j ↦ fresh_has place P runs says rooms g.last l.last k.last l.ran_last at_last x j
      ] in
      let has_out : (x : ℕ × Span) → Contains (enumerate_from 0 outs) x → Has place P runs says rooms x = λ x i.
      has x (Contains-permutation (enumerate_from 0 outs) (joined r.parts) x (IsPermutation-sym (joined r.parts) (enumerate_from 0 outs) r.once) i) in
      let all_of : flat_map (λ (x : ℕ × Span). in_span rooms x.1) (enumerate_from 0 outs) ≡ flat_map (in_span rooms) outs = flat_enumerated (in_span rooms) 0 outs in
      let rooms_flat : flat_map (λ (l : List (ℕ × ℕ)). l) rooms ≡ X ++ Y = ap (λ l. X ++ l) (flat_map-map (λ (l : List (ℕ × ℕ)). l) (λ (h : Holder). h.kept.items) k.others) in
      let moved : IsPermutation (X ++ Y) (flat_map (λ (x : ℕ × Span). in_span rooms x.1) (joined r.parts)) = subst (IsPermutation (X ++ Y)) (sym parts_flat) (IsPermutation-append_comm X Y) in
      let in_turn : Ordered RankLess (flat_map (λ (x : ℕ × Span). in_span rooms x.1) (enumerate_from 0 outs)) =
      Ordered-flat_map (λ (c d : ℕ × Span). c.0 < d.0) RankLess (λ x. in_span rooms x.1) (enumerate_from 0 outs) (enumerated_rise 0 outs)
      (λ c i. let h = (has_out c i).1 in subst (Ordered RankLess) (sym h.2) (kept_ordered h.0 (subst (Ordered RankLess) (sym h.1) (piece_ordered RankLess f size items o c.0))))
      (λ c d a b i j lt p q.
      let x = (has_out c i).1 in
      let y = (has_out d j).1 in
      pieces_apart RankLess f size items o c.0 d.0 a b lt (subst (λ l. Contains l a) x.1 (in_kept x.0 a (subst (λ l. Contains l a) x.2 p)))
      (subst (λ l. Contains l b) y.1 (in_kept y.0 b (subst (λ l. Contains l b) y.2 q)))) in
      let ordered : Ordered RankLess (flat_map (in_span rooms) outs) = subst (Ordered RankLess) all_of in_turn in
      let strictly = pairs_from_ordered RankLess (flat_map (in_span rooms) outs) ordered in
      subst (λ l. AreSpans l outs) (sym k.kept) (record {
        within = all_from_in (IsWithin rooms) outs (λ x i. let e = in_enumerated 0 outs x i in (has_out (e.0, x) e.1).0);
        same = subst (λ l. IsPermutation l (flat_map (in_span rooms) outs)) (sym rooms_flat)
            (IsPermutation-trans (X ++ Y) (flat_map (λ (x : ℕ × Span). in_span rooms x.1) (joined r.parts)) (flat_map (in_span rooms) outs) moved
            (subst (IsPermutation (flat_map (λ (x : ℕ × Span). in_span rooms x.1) (joined r.parts))) all_of
            (flat-permutation (λ (x : ℕ × Span). in_span rooms x.1) (joined r.parts) (enumerate_from 0 outs) r.once)));
        in_order = λ i j d lt len. let m = strictly i j d lt len in omega (arith, m);
      })
