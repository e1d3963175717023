-- Offers, one after another.
use Rattle.std.proofs.Common.{◌≡◌, ℕ, suc, ◌+◌, ◌-◌, ◌^◌, ◌<◌, ◌≤◌, Bool, true, false, cond, List, [], ◌∷◌, ◌++◌, map, filter, flat_map, take, drop, get_or, length, sym, refl, ap, ◌∙◌, subst, arith}
use Rattle.std.proofs.Common.{append_assoc, append-nil}
use Rattle.std.proofs.lemmas.List.{map-append, take_more, flat_map_more}
use Rattle.std.proofs.lemmas.List.Concat.{flat_map-append}
use Rattle.std.proofs.Math.Seq.{take-add}
use Rattle.std.proofs.lemmas.List.Elements.{filter-append}
use Rattle.g1_claim.specs.declared.rule.Offer.{Offer}
use Rattle.g1_claim.specs.Claims.{offer, least_rank}
use Rattle.g1_words.specs.Heap.{Heap}
use Rattle.g1_words.specs.Survivors.{in_set}
use Rattle.g1_frontier.specs.declared.offering.Holder.{Holder}
use Rattle.g1_frontier.specs.Items.{aims, AreRanks}
use Rattle.g1_frontier.specs.Offering.{Try, pair_of, answered_true, offer_of, Lowers, HasTried}

module _ (place : ℕ → ℕ) where
  pub tried_none : (h : Holder) → HasTried place [] h h
  tried_none h = record {
    made = [];
    each = refl;
    offers = sym (append-nil h.seat.hand.offers);
    kept = sym (append-nil h.kept.items);
    number = refl;
    table = refl;
    shares = refl;
    lowers = λ all. tt;
  }

  lowers_append : (os : List Offer) (xs ys : List Try) → Lowers place os xs → Lowers place (os ++ map (offer_of place) xs) ys → Lowers place os (xs ++ ys)
  lowers_append os [] ys a b = subst (λ l. Lowers place l ys) (append-nil os) b
  lowers_append os (x ∷ xs) ys a b =
      (a.0, lowers_append (os ++ offer_of place x ∷ []) xs ys a.1 (subst (λ l. Lowers place l ys) (sym (append_assoc os (offer_of place x ∷ []) (map (offer_of place) xs))) b))

  pub tried_append : (ps qs : List (ℕ × ℕ)) (a b c : Holder) → HasTried place ps a b → HasTried place qs b c → HasTried place (ps ++ qs) a c
  tried_append ps qs a b c x y = record {
    made = x.made ++ y.made;
    each = map-append pair_of x.made y.made ∙ (λ i. x.each i ++ y.each i);
    offers =
        y.offers ∙ ap (λ os. os ++ map (offer_of place) y.made) x.offers ∙ append_assoc a.seat.hand.offers (map (offer_of place) x.made) (map (offer_of place) y.made)
        ∙ ap (λ os. a.seat.hand.offers ++ os) (sym (map-append (offer_of place) x.made y.made));
    kept =
        y.kept ∙ ap (λ is. is ++ map pair_of (filter answered_true y.made)) x.kept ∙ append_assoc a.kept.items (map pair_of (filter answered_true x.made)) (map pair_of (filter answered_true y.made))
        ∙ ap (λ is. a.kept.items ++ is) (sym (ap (map pair_of) (filter-append answered_true x.made y.made) ∙ map-append pair_of (filter answered_true x.made) (filter answered_true y.made)));
    number = y.number ∙ x.number;
    table = y.table ∙ x.table;
    shares = y.shares ∙ x.shares;
    lowers = λ all. lowers_append a.seat.hand.offers x.made y.made (x.lowers all) (subst (λ os. Lowers place os y.made) x.offers (y.lowers (x.shares ∙ all)));
  }

  -- one offer
  pub tried_one : (rank a : ℕ) (b : Bool) (h t : Holder) → t.seat.hand.offers ≡ h.seat.hand.offers ++ offer (place a) rank b ∷ [] → t.kept.items ≡ h.kept.items ++ cond b ((rank, a) ∷ []) []
      → t.number ≡ h.number → t.seat.table ≡ h.seat.table → t.seat.hand.shares ≡ h.seat.hand.shares
      → (h.seat.hand.shares ≡ 64 → b ≡ true → rank < least_rank (place a) h.seat.hand.offers) → HasTried place ((rank, a) ∷ []) h t
  tried_one rank a b h t os ks number table shares low = record {
    made = ((rank, a), b) ∷ [];
    each = refl;
    offers = os;
    kept = ks ∙ ap (λ l. h.kept.items ++ l) (at b);
    number = number;
    table = table;
    shares = shares;
    lowers = λ all. (low all, tt);
  }
    where
      at : (b : Bool) → cond b ((rank, a) ∷ []) [] ≡ map pair_of (filter answered_true (((rank, a), b) ∷ []))
      at true = refl
      at false = refl

  -- one more of a list
  pub tried_more : {A : Type 0} (f : A → List (ℕ × ℕ)) (xs : List A) (n : ℕ) (d : A) (a b c : Holder) → n < length xs →
      HasTried place (flat_map f (take n xs)) a b → HasTried place (f (get_or xs n d)) b c → HasTried place (flat_map f (take (n + 1) xs)) a c
  tried_more f xs n d a b c lt x y =
      subst (λ ps. HasTried place ps a c) (flat_map_more f [] (take n xs) (get_or xs n d) ∙ ap (flat_map f) (sym (take_more xs n d lt)))
      (tried_append (flat_map f (take n xs)) (f (get_or xs n d)) a b c x y)

  -- the next ones of a list, up to another index
  pub tried_next : {A : Type 0} (f : A → List (ℕ × ℕ)) (xs : List A) (from to : ℕ) → from ≤ to → (a b c : Holder) →
      HasTried place (flat_map f (take from xs)) a b → HasTried place (flat_map f (take (to - from) (drop from xs))) b c → HasTried place (flat_map f (take to xs)) a c
  tried_next f xs from to le a b c x y =
      let sum : from + (to - from) ≡ to = omega (arith, le) in
      subst (λ ps. HasTried place ps a c)
      (sym (flat_map-append f (take from xs) (take (to - from) (drop from xs))) ∙ ap (flat_map f) (sym (take-add from (to - from) xs) ∙ ap (λ n. take n xs) sum))
      (tried_append (flat_map f (take from xs)) (flat_map f (take (to - from) (drop from xs))) a b c x y)

-- ---- what a word offers

pub aims_inside : (h : Heap) (window : List ℕ) (rank x a : ℕ) → x ≡ a + 1 → in_set h window a ≡ true → aims h window rank x ≡ (rank, a) ∷ []
aims_inside h window rank x a e t =
    let s : x ≡ suc a = omega (arith, e) in
    ap (aims h window rank) s ∙ ap (λ b. map (λ a. (rank, a)) (cond b (a ∷ []) [])) t

-- what a word offers in the window has a rank that may be offered
pub aims_small : (h : Heap) (window : List ℕ) (rank x a : ℕ) → x ≡ a + 1 → in_set h window a ≡ true → AreRanks (aims h window rank x) → rank < 2 ^ 32
aims_small h window rank x a e t r = subst AreRanks (aims_inside h window rank x a e t) r 0 (rank, a) (omega arith)
