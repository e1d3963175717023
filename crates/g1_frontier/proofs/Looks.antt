-- Looks, one after another, and those of all workers.
use Rattle.std.proofs.Common.{◌≡◌, ℕ, ◌+◌, ◌*◌, ◌<◌, ◌≤◌, Bool, true, false, cond, eqb, inl, inr, ◌⊎◌, List, [], ◌∷◌, ◌++◌, map, filter, take, get_or, length, sym, refl, ap, ◌∙◌, subst, arith, Contains, zero, suc}
use Rattle.std.proofs.Common.{append_assoc, append-nil}
use Rattle.std.specs.List.{flat_map, enumerate_from}
use Rattle.std.proofs.lemmas.List.{map-append, take_more}
use Rattle.std.proofs.lemmas.List.Elements.{All-push, All-nil, filter-append, Contains-append_cases, Contains-append_left, Contains-append_right}
use Rattle.g1_claim.specs.declared.rule.Offer.{Offer}
use Rattle.g1_claim.specs.declared.rule.Sight.{Sight}
use Rattle.g1_claim.specs.Claims.{SeatView, AreWon, empty, least_rank, times_won, sight}
use Rattle.g1_claim.specs.History.{History, Begins, least_in, AreSeen}
use Rattle.g1_claim.proofs.History.{begins_all, later_is_less}
use Rattle.g1_claim.proofs.Seen.{word_is_least, begins_trans}
use Rattle.g1_work.specs.Each.{Ran, EachRan, joined}
use Rattle.g1_work.specs.Regions.{slice_of}
use Rattle.g1_words.proofs.Members.{Contains-map}
use Rattle.g1_words.proofs.Lists.{all_in}
use Rattle.g1_frontier.specs.declared.offering.Holder.{Holder}
use Rattle.g1_frontier.specs.Looking.{Look, looked_at, is_there, sight_of, HasLooked}
use Rattle.g1_frontier.specs.Round.{winners}
use Rattle.g1_frontier.proofs.Pieces.{all_pieces}

-- the value is empty, or an offer of it has won
abbrev pub IsWon : List Offer → Sight → Type 0
IsWon os y = (y.value ≡ empty) ⊎ (times_won y.place y.value os ≡ 1)

pub won_in : (ss : List Sight) (os : List Offer) → AreWon ss os → (y : Sight) → Contains ss y → IsWon os y
won_in [] os w y i = absurd (omega (arith, i.1))
won_in (s ∷ ss) os w y (zero, b, e) = subst (IsWon os) e w.0
won_in (s ∷ ss) os w y (suc k, b, e) = won_in ss os w.1 y (k, omega (arith, b), e)

module _ (place : ℕ → ℕ) where
  pub looked_none : (s : SeatView) → HasLooked place [] s s []
  looked_none s = record {
    looks = [];
    each = refl;
    listed = refl;
    low = All-nil (λ l. l.1 ≤ least_in (place l.0.1) s.seen);
    sights = sym (append-nil s.hand.sights);
    seen = begins_all s.seen;
    offers = refl;
    shares = refl;
    table = refl;
  }

  -- one more look
  pub looked_one : (ps : List (ℕ × ℕ)) (q : ℕ × ℕ) (w : ℕ) (a b c : SeatView) (list more : List (ℕ × ℕ)) → HasLooked place ps a b list
      → c.hand.sights ≡ b.hand.sights ++ sight (place q.1) w ∷ [] → c.hand.offers ≡ b.hand.offers → c.hand.shares ≡ b.hand.shares → c.table ≡ b.table
      → Begins c.seen b.seen → w ≡ least_in (place q.1) c.seen → more ≡ list ++ cond (eqb w q.0) (q ∷ []) [] → HasLooked place (ps ++ q ∷ []) a c more
  looked_one ps q w a b c list more h ss os n t seen is m =
      let whole = begins_trans a.seen b.seen c.seen seen h.seen in record {
        looks = h.looks ++ (q, w) ∷ [];
        each = map-append looked_at h.looks ((q, w) ∷ []) ∙ ap (λ l. l ++ q ∷ []) h.each;
        listed = m ∙ ap (λ l. l ++ cond (eqb w q.0) (q ∷ []) []) h.listed ∙ ap (λ l. map looked_at (filter is_there h.looks) ++ l) (at (eqb w q.0))
            ∙ sym (ap (map looked_at) (filter-append is_there h.looks ((q, w) ∷ [])) ∙ map-append looked_at (filter is_there h.looks) (filter is_there ((q, w) ∷ [])));
        low = All-push (λ l. l.1 ≤ least_in (place l.0.1) a.seen) h.looks (q, w) h.low (let less = later_is_less (place q.1) a.seen c.seen whole in omega (arith, less, is));
        sights = ss ∙ ap (λ l. l ++ sight (place q.1) w ∷ []) h.sights ∙ append_assoc a.hand.sights (map (sight_of place) h.looks) (sight (place q.1) w ∷ [])
            ∙ ap (λ l. a.hand.sights ++ l) (sym (map-append (sight_of place) h.looks ((q, w) ∷ [])));
        seen = whole;
        offers = os ∙ h.offers;
        shares = n ∙ h.shares;
        table = t ∙ h.table;
      }
    where
      at : (b : Bool) → cond b (q ∷ []) [] ≡ map looked_at (cond b ((q, w) ∷ []) [])
      at true = refl
      at false = refl

  pub looked_more : (ps : List (ℕ × ℕ)) (n : ℕ) (d : ℕ × ℕ) (w : ℕ) (a b c : SeatView) (list more : List (ℕ × ℕ)) → n < length ps → HasLooked place (take n ps) a b list
      → c.hand.sights ≡ b.hand.sights ++ sight (place (get_or ps n d).1) w ∷ [] → c.hand.offers ≡ b.hand.offers → c.hand.shares ≡ b.hand.shares → c.table ≡ b.table
      → Begins c.seen b.seen → w ≡ least_in (place (get_or ps n d).1) c.seen → more ≡ list ++ cond (eqb w (get_or ps n d).0) (get_or ps n d ∷ []) [] → HasLooked place (take (n + 1) ps) a c more
  looked_more ps n d w a b c list more lt h ss os m t seen is k =
      subst (λ l. HasLooked place l a c more) (sym (take_more ps n d lt)) (looked_one (take n ps) (get_or ps n d) w a b c list more h ss os m t seen is k)

  module _ (os : List Offer) (known : History) (are : AreSeen os known) where
    -- where each word is the least rank
    listed_are : (ls : List Look) → ((l : Look) → Contains ls l → l.1 ≡ least_rank (place l.0.1) os) → map looked_at (filter is_there ls) ≡ winners place os (map looked_at ls)
    listed_are [] h = refl
    listed_are (l ∷ ls) h =
        let rest = listed_are ls (λ x i. h x (suc i.0, omega (arith, i.1), i.2)) in
        (λ i. map looked_at (cond (eqb (h l (zero, omega arith, refl) i) l.0.0) (l ∷ filter is_there ls) (filter is_there ls)))
        ∙ at (eqb (least_rank (place l.0.1) os) l.0.0) rest
      where
        at : (b : Bool) → map looked_at (filter is_there ls) ≡ winners place os (map looked_at ls)
            → map looked_at (cond b (l ∷ filter is_there ls) (filter is_there ls)) ≡ cond b (l.0 ∷ winners place os (map looked_at ls)) (winners place os (map looked_at ls))
        at true e = ap (λ k. l.0 ∷ k) e
        at false e = e

    -- what a seat lists that knows of these offers is what won, where each value that it saw has won
    pub looks_won : (ps : List (ℕ × ℕ)) (s t : SeatView) (list : List (ℕ × ℕ)) → HasLooked place ps s t list → Begins s.seen known → ((y : Sight) → Contains t.hand.sights y → IsWon os y)
        → list ≡ winners place os ps
    looks_won ps s t list h begins won =
        h.listed ∙ listed_are h.looks
        (λ l i.
        let low = all_in (λ l. l.1 ≤ least_in (place l.0.1) s.seen) h.looks l h.low i in
        let less = later_is_less (place l.0.1) known s.seen begins in
        let there : Contains t.hand.sights (sight_of place l) =
        subst (λ ss. Contains ss (sight_of place l)) (sym h.sights) (Contains-append_right s.hand.sights (map (sight_of place) h.looks) (sight_of place l) (Contains-map (sight_of place) h.looks l i)) in
        word_is_least (place l.0.1) l.1 os known are (omega (arith, low, less)) (won (sight_of place l) there))
        ∙ ap (winners place os) h.each

    module _ (P : ℕ → List (ℕ × ℕ)) {O : Type 0} (list_of : O → List (ℕ × ℕ)) (runs : Holder → ℕ → Holder → O → Type 0)
        (says : (s : Holder) (k : ℕ) (t : Holder) (o : O) → runs s k t o → HasLooked place (P k) s.seat t.seat (list_of o)) where
      -- a worker's sights stay
      stays : (s : Holder) (xs : List (ℕ × O)) (t : Holder) → Ran runs s xs t → (y : Sight) → Contains s.seat.hand.sights y → Contains t.seat.hand.sights y
      stays s [] t r y i = subst (λ (u : Holder). Contains u.seat.hand.sights y) r i
      stays s (x ∷ xs) t r y i =
          let h = says s x.0 r.0 x.1 r.1 in
          stays r.0 xs t r.2 y (subst (λ ss. Contains ss y) (sym h.sights) (Contains-append_left s.seat.hand.sights (map (sight_of place) h.looks) y i))

      -- what each of its chunks lists has won
      ran_won : (s : Holder) (xs : List (ℕ × O)) (t : Holder) → Ran runs s xs t → Begins s.seat.seen known → ((y : Sight) → Contains t.seat.hand.sights y → IsWon os y)
          → (x : ℕ × O) → Contains xs x → list_of x.1 ≡ winners place os (P x.0)
      ran_won s [] t r b w x i = absurd (omega (arith, i.1))
      ran_won s (z ∷ xs) t r b w x (zero, lt, e) =
          let h = says s z.0 r.0 z.1 r.1 in
          subst (λ (x : ℕ × O). list_of x.1 ≡ winners place os (P x.0)) e (looks_won (P z.0) s.seat r.0.seat (list_of z.1) h b (λ y i. w y (stays r.0 xs t r.2 y i)))
      ran_won s (z ∷ xs) t r b w x (suc k, lt, e) =
          let h = says s z.0 r.0 z.1 r.1 in ran_won r.0 xs t r.2 (begins_trans known s.seat.seen r.0.seat.seen h.seen b) w x (k, omega (arith, lt), e)

      pub each_won : (n : ℕ) (ss : List Holder) (ps : List (List (ℕ × O))) (ts : List Holder) → EachRan runs n ss ps ts → ((s : Holder) → Contains ss s → Begins s.seat.seen known)
          → ((t : Holder) → Contains ts t → (y : Sight) → Contains t.seat.hand.sights y → IsWon os y) → (x : ℕ × O) → Contains (joined ps) x → list_of x.1 ≡ winners place os (P x.0)
      each_won n [] [] [] r b w x i = absurd (omega (arith, i.1))
      each_won n [] [] (u ∷ us) r b w x i = absurd r
      each_won n [] (p ∷ ps) us r b w x i = absurd r
      each_won n (s ∷ ss) [] us r b w x i = absurd r
      each_won n (s ∷ ss) (p ∷ ps) [] r b w x i = absurd r
      each_won n (s ∷ ss) (p ∷ ps) (u ∷ us) r b w x i = elim (Contains-append_cases p (joined ps) x i) [
        | inl j ↦ ran_won s p u r.0 (b s (zero, omega arith, refl)) (w u (zero, omega arith, refl)) x j
        | inr j ↦ each_won n ss ps us r.2 (λ s k. b s (suc k.0, omega (arith, k.1), k.2)) (λ t k. w t (suc k.0, omega (arith, k.1), k.2)) x j
      ]

-- a list is that of what passes, item by item
filter_flat : {A : Type 0} (f : A → Bool) (xs : List A) → flat_map (λ x. cond (f x) (x ∷ []) []) xs ≡ filter f xs
filter_flat f [] = refl
filter_flat f (x ∷ xs) = at (f x) (filter_flat f xs)
  where
    at : (b : Bool) → flat_map (λ x. cond (f x) (x ∷ []) []) xs ≡ filter f xs → cond b (x ∷ []) [] ++ flat_map (λ x. cond (f x) (x ∷ []) []) xs ≡ cond b (x ∷ filter f xs) (filter f xs)
    at true e = ap (λ l. x ∷ l) e
    at false e = e

of_numbered : {O B : Type 0} (g : O → List B) (f : ℕ → List B) (os : List O) (k : ℕ) → ((x : ℕ × O) → Contains (enumerate_from k os) x → g x.1 ≡ f x.0)
    → flat_map g os ≡ flat_map (λ x. f x.0) (enumerate_from k os)
of_numbered g f [] k h = refl
of_numbered g f (o ∷ os) k h = (λ i. h (k, o) (zero, omega arith, refl) i ++ of_numbered g f os (k + 1) (λ x j. h x (suc j.0, omega (arith, j.1), j.2)) i)

-- what all chunks list, one after another, is what passes of all items
pub chunks_pass : {A O : Type 0} (test : A → Bool) (g : O → List A) (size : ℕ) (xs : List A) (os : List O) → length xs ≤ length os * size
    → ((x : ℕ × O) → Contains (enumerate_from 0 os) x → g x.1 ≡ filter test (slice_of size x.0 xs)) → flat_map g os ≡ filter test xs
chunks_pass {A} {O} test g size xs os le h =
    let one : A → List A = λ x. cond (test x) (x ∷ []) [] in
    of_numbered g (λ k. flat_map one (slice_of size k xs)) os 0 (λ x i. h x i ∙ sym (filter_flat test (slice_of size x.0 xs)))
    ∙ all_pieces one size xs os le ∙ filter_flat test xs
