-- Differences that are counted as they are found.
use Rattle.std.proofs.Common.{◌≡◌, ◌≤◌, ◌<◌, ◌+◌, ◌-◌, ◌^◌, inl, inr, ℕ, Bool, true, false, cond, List, [], ◌∷◌, ◌++◌, map, min, set, slice_index, slice_index_or, refl, sym, ◌∙◌, ap, subst, arith, Contains, zero, suc}
use Rattle.std.specs.Prelude.{◌==◌, ◌⊎◌, count_by}
use Rattle.std.proofs.lemmas.Bool.{cases_lt}
use Rattle.std.proofs.lemmas.List.Sums.{sum_by_push}
use Rattle.std.proofs.lemmas.List.Elements.{Contains-get_or, Contains-append_cases}
use Rattle.g1_words.specs.Heap.{Heap}
use Rattle.g1_words.proofs.Ordered.{Ordered, pairs_from_ordered}
use Rattle.g1_words.proofs.Rising.{Ordered-append}
use Rattle.g1_same.specs.declared.walk.Walk.{Walk}
use Rattle.g1_same.specs.declared.walk.What.{What}
use Rattle.g1_same.specs.declared.walk.What.TheVariants as what
use Rattle.g1_same.specs.declared.walk.Found.{Found}
use Rattle.g1_same.specs.declared.difference.How.TheVariants.{NullBefore, NullAfter, Split, Joined, Size, Slots, Data}
use Rattle.g1_same.specs.Walk.{IsEarlier, IsTour}
use Rattle.g1_same.specs.Behind.{ShowsAt, IsThere}
use Rattle.g1_same.proofs.Routes.{route_of}
use Rattle.g1_report.specs.Wording.{Compared}
use Rattle.g1_report.specs.Listed.{kind_of, count_of, roots_count, all_counts, IsShown, ComesFirst, AreCounts}
use Rattle.g1_words.proofs.Members.{none_contains}

-- the differences that were found before a way, and their numbers
pub record IsCounted (s : Compared) (from number : ℕ) (counts : List ℕ) : Type 0 where
  pub found : List Found
  pub there : (f : Found) → Contains found f → IsShown s f
  pub apart : Ordered ComesFirst found
  pub earlier : (f : Found) → Contains found f → IsEarlier f.place.way.from f.place.way.number from number
  pub numbers : counts ≡ all_counts s found

-- a path leads to what a walk finds
pub shown : (g h : Heap) (w : Walk) (f : Found) → IsTour g h w → IsThere g h w f → (p : List ℕ) × ShowsAt g h p f
shown g h w f tour there = let r = route_of g h w tour f.place.way.from f.place.way.number there.0 in (r.0, there.1 r.0 r.1)

earlier_than : (a b k m r n : ℕ) → IsEarlier a b k m → (IsEarlier r n k m → ⊥) → IsEarlier a b r n
earlier_than a b k m r n e not = elim (cases_lt r k) [
  | inl lt ↦ absurd (not (inl lt))
  | inr ge ↦ of e ge
]
  where
    same : k ≡ r → m ≤ n → (a < k) ⊎ ((a ≡ k) × (b < m)) → IsEarlier a b r n
    same is le (inl lt) = inl (omega (arith, lt, is))
    same is le (inr e) = inr (omega (arith, e.0, is), omega (arith, e.1, le))

    of : IsEarlier a b k m → k ≤ r → IsEarlier a b r n
    of e ge = elim (cases_lt k r) [
      | inl lt ↦ elim e [ inl l ↦ inl (omega (arith, l, lt)) | inr q ↦ inl (omega (arith, q.0, lt)) ]
      | inr le ↦ (
          let is : k ≡ r = omega (arith, ge, le) in
          elim (cases_lt n m) [
            | inl lt ↦ absurd (not (inr (sym is, lt)))
            | inr few ↦ same is few e
          ])
    ]

-- THE NUMBERS

one_more : (b : Bool) (c : ℕ) → min (c + cond b 1 0) (2 ^ 64 - 1) ≡ cond b (min (min c (2 ^ 64 - 1) + 1) (2 ^ 64 - 1)) (min c (2 ^ 64 - 1))
one_more true c = omega arith
one_more false c = omega arith

count_more : (found : List Found) (f : Found) (k : ℕ) → count_of (found ++ f ∷ []) k ≡ cond (kind_of f.what == k) (min (count_of found k + 1) (2 ^ 64 - 1)) (count_of found k)
count_more found f k =
    ap (λ n. min n (2 ^ 64 - 1)) (sum_by_push (λ (e : Found). cond (kind_of e.what == k) 1 0) found f) ∙ one_more (kind_of f.what == k) (count_by (λ e. kind_of e.what == k) found)

-- one number is set
set_one : (r : ℕ) (found : List Found) (w : What) → set (r ∷ map (count_of found) (1 ∷ 2 ∷ 3 ∷ 4 ∷ 5 ∷ 6 ∷ 7 ∷ [])) (kind_of w) (min (slice_index (r ∷ map (count_of found) (1 ∷ 2 ∷ 3 ∷ 4 ∷ 5 ∷ 6 ∷ 7 ∷ [])) (kind_of w) + 1) (2 ^ 64 - 1))
    ≡ r ∷ map (λ k. cond (kind_of w == k) (min (count_of found k + 1) (2 ^ 64 - 1)) (count_of found k)) (1 ∷ 2 ∷ 3 ∷ 4 ∷ 5 ∷ 6 ∷ 7 ∷ [])
set_one r found (what.Stale z) = refl
set_one r found (what.How NullBefore) = refl
set_one r found (what.How NullAfter) = refl
set_one r found (what.How (Split a m n)) = refl
set_one r found (what.How (Joined m n b)) = refl
set_one r found (what.How (Size m n)) = refl
set_one r found (what.How (Slots m n)) = refl
set_one r found (what.How (Data k)) = refl

pub kind_small : (w : What) → kind_of w < 8
kind_small (what.Stale z) = omega arith
kind_small (what.How NullBefore) = omega arith
kind_small (what.How NullAfter) = omega arith
kind_small (what.How (Split a m n)) = omega arith
kind_small (what.How (Joined m n b)) = omega arith
kind_small (what.How (Size m n)) = omega arith
kind_small (what.How (Slots m n)) = omega arith
kind_small (what.How (Data k)) = omega arith

numbers_more : (s : Compared) (found : List Found) (f : Found) (old new : List ℕ) → old ≡ all_counts s found → new ≡ set old (kind_of f.what) (min (slice_index old (kind_of f.what) + 1) (2 ^ 64 - 1))
    → new ≡ all_counts s (found ++ f ∷ [])
numbers_more s found f old new is adds =
    let c = count_more found f in
    adds ∙ ap (λ ns. set ns (kind_of f.what) (min (slice_index ns (kind_of f.what) + 1) (2 ^ 64 - 1))) is ∙ set_one (roots_count s.before.roots s.after.roots) found f.what
    ∙ sym (λ i. roots_count s.before.roots s.after.roots ∷ c 1 i ∷ c 2 i ∷ c 3 i ∷ c 4 i ∷ c 5 i ∷ c 6 i ∷ c 7 i ∷ [])

pub counted_none : (s : Compared) (from number : ℕ) (counts : List ℕ) → counts ≡ all_counts s [] → IsCounted s from number counts
counted_none s from number counts is = record { found = []; there = λ f i. absurd (none_contains f i); apart = tt; earlier = λ f i. absurd (none_contains f i); numbers = is }

pub counted_more : (s : Compared) (a b k n : ℕ) (old new : List ℕ) (f : Found) → IsCounted s a b old → IsShown s f → (IsEarlier f.place.way.from f.place.way.number a b → ⊥)
    → new ≡ set old (kind_of f.what) (min (slice_index old (kind_of f.what) + 1) (2 ^ 64 - 1)) → k ≡ f.place.way.from → n ≡ f.place.way.number + 1 → IsCounted s k n new
counted_more s a b k n old new f c there not adds from number = record {
  found = c.found ++ f ∷ [];
  there = λ e i. elim (Contains-append_cases c.found (f ∷ []) e i) [ inl j ↦ c.there e j | inr j ↦ subst (IsShown s) (only e j) there ];
  apart = Ordered-append ComesFirst c.found (f ∷ []) c.apart ((λ e i. absurd (none_contains e i)), tt) (λ e d i j. subst (ComesFirst e) (only d j) (before e i));
  earlier = λ e i. subst (λ m. IsEarlier e.place.way.from e.place.way.number m n) (sym from) (subst (λ m. IsEarlier e.place.way.from e.place.way.number f.place.way.from m) (sym number) (behind e i));
  numbers = numbers_more s c.found f old new c.numbers adds;
}
  where
    only : (e : Found) → Contains (f ∷ []) e → f ≡ e
    only e (zero, b, is) = is
    only e (suc k, b, eq) = absurd (omega (arith, b))

    before : (e : Found) → Contains c.found e → ComesFirst e f
    before e i = earlier_than e.place.way.from e.place.way.number a b f.place.way.from f.place.way.number (c.earlier e i) not

    step : (e : Found) → ComesFirst e f → IsEarlier e.place.way.from e.place.way.number f.place.way.from (f.place.way.number + 1)
    step e (inl lt) = inl lt
    step e (inr q) = inr (q.0, omega (arith, q.1))

    behind : (e : Found) → Contains (c.found ++ f ∷ []) e → IsEarlier e.place.way.from e.place.way.number f.place.way.from (f.place.way.number + 1)
    behind e i = elim (Contains-append_cases c.found (f ∷ []) e i) [
      | inl j ↦ step e (before e j)
      | inr j ↦ subst (λ d. IsEarlier d.place.way.from d.place.way.number f.place.way.from (f.place.way.number + 1)) (only e j) (inr (refl, omega arith))
    ]

pub counted : (s : Compared) (from number : ℕ) (counts : List ℕ) → IsCounted s from number counts → AreCounts s counts
counted s from number counts c = record {
  found = c.found;
  there = λ k d lt. c.there (slice_index_or c.found k d) (Contains-get_or c.found k d lt);
  apart = pairs_from_ordered ComesFirst c.found c.apart;
  numbers = c.numbers;
}
