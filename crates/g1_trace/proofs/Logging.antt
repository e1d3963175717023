-- The log after a slot is written, and images whose used regions stay.
use Rattle.std.proofs.Common.{◌≡◌, ◌≢◌, ℕ, zero, suc, ◌*◌, ◌/◌, ◌^◌, ◌<◌, ◌≤◌, ◌⊎◌, inl, inr, Bool, true, false, cond, ◌||◌, List, [], ◌∷◌, ◌++◌, length, get_or, Contains, AllPairs, refl}
use Rattle.std.proofs.Common.{sym, ◌∙◌, ap, subst, arith, eqb, eqb-true, ◌==◌}
use Rattle.std.specs.Prelude.{All}
use Rattle.std.specs.List.{list_any}
use Rattle.std.proofs.lemmas.Bool.Decides.{Decides-eqb}
use Rattle.std.proofs.lemmas.Map.Made.{IsDistinct-from_AllPairs}
use Rattle.std.proofs.lemmas.Map.Steps.{length-le_from_distinct_below}
use Rattle.std.proofs.Math.Nat.{mul-le-mul_left}
use Rattle.std.proofs.lemmas.Bool.{or_cases}
use Rattle.std.proofs.lemmas.List.Elements.{Contains-append_left, All-push, Contains-push}
use Rattle.g1_words.specs.Geometry.{Geometry, IsWithinBounds}
use Rattle.g1_words.specs.declared.region.Kind.{Kind}
use Rattle.g1_words.specs.declared.region.Kind.TheVariants.{Free, Ordinary, HumongousFirst, Continuation}
use Rattle.g1_words.specs.Heap.{Heap, kind, region_of, card_of}
use Rattle.g1_words.specs.Lists.{has}
use Rattle.g1_words.proofs.Members.{has_from_contains, Contains-from_has, none_contains}
use Rattle.g1_words.proofs.Ordered.{Ordered-from_pairs, pairs_from_ordered}
use Rattle.g1_words.proofs.Rising.{Ordered-append}
use Rattle.g1_words.proofs.Shapes.{IsBuilt, valid_of}
use Rattle.g1_words.proofs.Lists.{all_in}
use Rattle.g1_image.specs.Image.{Image, IsUsedCard, MayHoldCards, IsRememberedSet, IsLog, IsImage, region_of_card, remembered_of}
use Rattle.g1_trace.specs.Mutator.{logged}

-- distinct cards of a heap are few
pub few_cards : (h : Heap) (cards : List ℕ) → IsWithinBounds h.geometry.w h.geometry.k h.geometry.n → All (IsUsedCard h) cards → AllPairs (λ c d. c ≢ d) cards → length cards < 2 ^ 32
few_cards h cards limits used distinct =
    let below : (c : ℕ) → list_any (eqb c) cards ≡ true → c < h.geometry.n * h.geometry.w = λ c e.
    let u : c * h.geometry.k < h.geometry.n * h.geometry.w = (all_in (IsUsedCard h) cards c used (Contains-from_has cards c e)).in_heap in
    let some : 1 ≤ h.geometry.k = omega (arith, limits.k_least) in
    let more : c * 1 ≤ c * h.geometry.k = mul-le-mul_left c some in
    omega (arith, u, more) in
    let few : length cards ≤ h.geometry.n * h.geometry.w = length-le_from_distinct_below cards (h.geometry.n * h.geometry.w) (IsDistinct-from_AllPairs {eq = eqb} Decides-eqb cards distinct) below in
    omega (arith, few, limits.words_most)

module _ (i : Image) (p : ℕ) where
  log_at : (c : ℕ) (t : Bool) → Contains i.log c → Contains (cond t i.log (i.log ++ card_of i.heap p ∷ [])) c
  log_at c true m = m
  log_at c false m = Contains-append_left i.log (card_of i.heap p ∷ []) c m

  -- a card that was logged still is
  pub logged_still : (x c : ℕ) → Contains i.log c → Contains (logged i p x) c
  logged_still zero c m = m
  logged_still (suc b) c m = log_at c ((region_of i.heap p == region_of i.heap b) || has i.log (card_of i.heap p)) m

  new_at : (b : ℕ) (t : Bool) → ((region_of i.heap p == region_of i.heap b) || has i.log (card_of i.heap p)) ≡ t
      → (region_of i.heap p ≡ region_of i.heap b) ⊎ Contains (cond t i.log (i.log ++ card_of i.heap p ∷ [])) (card_of i.heap p)
  new_at b false e = inr (Contains-push i.log (card_of i.heap p))
  new_at b true e = elim (or_cases (region_of i.heap p == region_of i.heap b) (has i.log (card_of i.heap p)) e) [
    | inl s ↦ inl (eqb-true (region_of i.heap p) (region_of i.heap b) s)
    | inr l ↦ inr (Contains-from_has i.log (card_of i.heap p) l)
  ]

  -- the card of what is written is logged, where it names an object of another region
  pub logged_now : (b : ℕ) → (region_of i.heap p ≡ region_of i.heap b) ⊎ Contains (logged i p (suc b)) (card_of i.heap p)
  logged_now b = new_at b ((region_of i.heap p == region_of i.heap b) || has i.log (card_of i.heap p)) refl

  module _ (valid : IsWithinBounds i.heap.geometry.w i.heap.geometry.k i.heap.geometry.n) (good : IsLog i.heap i.log) (used : IsUsedCard i.heap (card_of i.heap p)) where
    one_more : (Contains i.log (card_of i.heap p) → ⊥) → IsLog i.heap (i.log ++ card_of i.heap p ∷ [])
    one_more fresh =
        let c : ℕ = card_of i.heap p in
        let all : All (IsUsedCard i.heap) (i.log ++ c ∷ []) = All-push (IsUsedCard i.heap) i.log c good.used used in
        let apart : AllPairs (λ x y. x ≢ y) (i.log ++ c ∷ []) = pairs_from_ordered (λ x y. x ≢ y) (i.log ++ c ∷ [])
        (Ordered-append (λ x y. x ≢ y) i.log (c ∷ []) (Ordered-from_pairs (λ x y. x ≢ y) i.log good.distinct) ((λ y k. absurd (none_contains y k)), tt)
        (λ x y mx my e. fresh (subst (Contains i.log) (e ∙ last y my) mx))) in
        record { used = all; distinct = apart; count = few_cards i.heap (i.log ++ c ∷ []) valid all apart }
      where
        last : (y : ℕ) → Contains (card_of i.heap p ∷ []) y → y ≡ card_of i.heap p
        last y (zero, b, e) = sym e
        last y (suc k, b, e) = absurd (omega (arith, b))

    log_is_at : (b : ℕ) (t : Bool) → ((region_of i.heap p == region_of i.heap b) || has i.log (card_of i.heap p)) ≡ t → IsLog i.heap (cond t i.log (i.log ++ card_of i.heap p ∷ []))
    log_is_at b true e = good
    log_is_at b false e = one_more (λ m. clash (region_of i.heap p == region_of i.heap b) (has i.log (card_of i.heap p)) (has_from_contains i.log (card_of i.heap p) m) e)
      where
        clash : (x y : Bool) → y ≡ true → (x || y) ≡ false → ⊥
        clash true y f g = cc
        clash false y f g = cc

    -- the log after is one that the heap may have
    pub logged_is_log : (x : ℕ) → IsLog i.heap (logged i p x)
    logged_is_log zero = good
    logged_is_log (suc b) = log_is_at b ((region_of i.heap p == region_of i.heap b) || has i.log (card_of i.heap p)) refl

-- ---- an image whose used regions stay

holds_used : (k : Kind) → MayHoldCards k → k ≢ Free
holds_used Free h e = h
holds_used Ordinary h e = cc
holds_used HumongousFirst h e = cc
holds_used Continuation h e = h

module _ (i j : Image) (g : j.heap.geometry ≡ i.heap.geometry) (stay : (r : ℕ) → kind i.heap r ≢ Free → kind j.heap r ≡ kind i.heap r) where
  used_stays : (c : ℕ) → IsUsedCard i.heap c → IsUsedCard j.heap c
  used_stays c u =
      let at : region_of_card j.heap c ≡ region_of_card i.heap c = ap (λ (x : Geometry). c * x.k / x.w) g in
      record {
        in_heap = subst (λ (x : Geometry). c * x.k < x.n * x.w) (sym g) u.in_heap;
        used = λ e. u.used (sym (stay (region_of_card i.heap c) u.used) ∙ ap (kind j.heap) (sym at) ∙ e);
      }

  set_stays : (r : ℕ) (cards : List ℕ) → IsRememberedSet i.heap r cards → IsRememberedSet j.heap r cards
  set_stays r cards s = record {
    rising = s.rising;
    elsewhere = λ k d lt.
        let u = s.elsewhere k d lt in
        (used_stays (get_or cards k d) u.0, λ e. u.1 (ap (λ (x : Geometry). get_or cards k d * x.k / x.w) (sym g) ∙ e));
    count = s.count;
    owner = λ some. let m = s.owner some in subst MayHoldCards (sym (stay r (holds_used (kind i.heap r) m))) m;
  }

  pub log_stays : (cards : List ℕ) → IsLog i.heap cards → IsLog j.heap cards
  log_stays cards l = record { used = λ k d lt. used_stays (get_or cards k d) (l.used k d lt); distinct = l.distinct; count = l.count }

  -- such an image keeps the rules of its cards
  pub image_kept : IsImage i → IsBuilt j.heap → j.remembered ≡ i.remembered → IsLog i.heap j.log → IsImage j
  image_kept good b remembered log = record {
    heap = valid_of j.heap b;
    one_each = ap length remembered ∙ good.one_each ∙ ap (λ (x : Geometry). x.n) (sym g);
    remembered = λ r lt. subst (IsRememberedSet j.heap r) (ap (λ s. get_or s r []) (sym remembered)) (set_stays r (remembered_of i r) (good.remembered r (subst (λ (x : Geometry). r < x.n) g lt)));
    log = log_stays j.log log;
  }
