-- Finders that are met one after the other.
use Rattle.std.proofs.Common.{◌≡◌, ℕ, zero, suc, ◌+◌, ◌-◌, ◌<◌, ◌≤◌, Bool, true, false, List, [], ◌∷◌, ◌++◌, length, get_or, take, flat_map, refl, sym, ◌∙◌, ap, arith, append_assoc, append-nil}
use Rattle.std.specs.Prelude.{if◌then◌else◌}
use Rattle.std.specs.List.{range_with_len}
use Rattle.std.proofs.lemmas.List.{take_more}
use Rattle.std.proofs.lemmas.Grind.{flat_map-append}
use Rattle.g1_words.specs.Heap.{Heap, word, object_at}
use Rattle.g1_words.proofs.Computed.{range_below}
use Rattle.g1_words.proofs.Lists.{range_more}
use Rattle.g1_frontier.proofs.Seeds.{flat_same}
use Rattle.g1_explain.specs.declared.finder.Finder.{Finder}
use Rattle.g1_explain.specs.declared.finder.Finder.TheVariants.{Object as Slot}
use Rattle.g1_explain.specs.Finders.{Lead, lead, object_leads}
use Rattle.g1_explain.specs.Searched.{is_next, met, slots_leads}

pub met-append : (found : List ℕ) (fs : List Finder) (xs ys : List Lead) → met found fs (xs ++ ys) ≡ met found (met found fs xs) ys
met-append found fs [] ys = refl
met-append found fs (x ∷ xs) ys = met-append found (if is_next found (length fs) x.target then fs ++ x.finder ∷ [] else fs) xs ys

-- the references of one item more
pub met_more : {X : Type 0} (f : X → List Lead) (found : List ℕ) (old now after : List Finder) (xs : List X) (i : ℕ) (d : X) → i < length xs
    → now ≡ met found old (flat_map f (take i xs)) → after ≡ met found now (f (get_or xs i d)) → after ≡ met found old (flat_map f (take (i + 1) xs))
met_more {X} f found old now after xs i d lt e p =
    let x : X = get_or xs i d in
    let more : flat_map f (take (i + 1) xs) ≡ flat_map f (take i xs) ++ f x =
    ap (flat_map f) (take_more xs i d lt) ∙ flat_map-append f (take i xs) (x ∷ []) ∙ ap (λ l. flat_map f (take i xs) ++ l) (append-nil (f x)) in
    p ∙ ap (λ fs. met found fs (f x)) e ∙ sym (met-append found old (flat_map f (take i xs)) (f x)) ∙ ap (met found old) (sym more)

pub flat_more : (f : ℕ → List Lead) (n : ℕ) → flat_map f (range_with_len 0 (n + 1)) ≡ flat_map f (range_with_len 0 n) ++ f n
flat_more f n =
    let z : 0 + n ≡ n = omega arith in
    ap (flat_map f) (range_more 0 n ∙ ap (λ x. range_with_len 0 n ++ x ∷ []) z) ∙ flat_map-append f (range_with_len 0 n) (n ∷ [])
    ∙ ap (λ l. flat_map f (range_with_len 0 n) ++ l) (append-nil (f n))

-- the references of one number more
pub met_number_more : (f : ℕ → List Lead) (found : List ℕ) (old now after : List Finder) (n : ℕ) → now ≡ met found old (flat_map f (range_with_len 0 n))
    → after ≡ met found now (f n) → after ≡ met found old (flat_map f (range_with_len 0 (n + 1)))
met_number_more f found old now after n e p =
    p ∙ ap (λ fs. met found fs (f n)) e ∙ sym (met-append found old (flat_map f (range_with_len 0 n)) (f n)) ∙ ap (met found old) (sym (flat_more f n))

-- what was met stays
pub met_grows : (found : List ℕ) (fs : List Finder) (xs : List Lead) → (tail : List Finder) × (met found fs xs ≡ fs ++ tail)
met_grows found fs [] = ([], sym (append-nil fs))
met_grows found fs (x ∷ xs) =
    let next = if is_next found (length fs) x.target then fs ++ x.finder ∷ [] else fs in
    let r = met_grows found next xs in
    let s = one (is_next found (length fs) x.target) in
    (s.0 ++ r.0, r.1 ∙ ap (λ l. l ++ r.0) s.1 ∙ append_assoc fs s.0 r.0)
  where
    one : (b : Bool) → (t : List Finder) × ((if b then fs ++ x.finder ∷ [] else fs) ≡ fs ++ t)
    one true = (x.finder ∷ [], refl)
    one false = ([], sym (append-nil fs))

-- the first numbers of a range, and the others
pub range_split : (a m n : ℕ) → m ≤ n → range_with_len a n ≡ range_with_len a m ++ range_with_len (a + m) (n - m)
range_split a zero n le =
    let e : a ≡ a + 0 = omega arith in
    let f : n ≡ n - 0 = omega arith in
    (λ i. range_with_len (e i) (f i))
range_split a (suc m) zero le = absurd (omega (arith, le))
range_split a (suc m) (suc n) le =
    let e : a + 1 + m ≡ a + suc m = omega arith in
    let f : n - m ≡ suc n - suc m = omega arith in
    ap (λ ys. a ∷ ys) (range_split (a + 1) m n (omega (arith, le)) ∙ (λ i. range_with_len (a + 1) m ++ range_with_len (e i) (f i)))

-- the references of an object, by its slots
pub slots_leads_are : (h : Heap) (m a : ℕ) (slots : List ℕ) → length slots ≡ (object_at h a).refs → ((i : ℕ) → i < length slots → get_or slots i 0 ≡ word h (a + 1 + i)) → slots_leads m a slots ≡ object_leads h m a
slots_leads_are h m a slots count each =
    flat_same (λ s. lead (Slot m a s) (get_or slots s 0)) (λ s. lead (Slot m a s) (word h (a + 1 + s))) (range_with_len 0 (length slots))
    (λ s i. ap (lead (Slot m a s)) (each s (let b = range_below 0 (length slots) s i in omega (arith, b))))
    ∙ ap (λ n. flat_map (λ s. lead (Slot m a s) (word h (a + 1 + s))) (range_with_len 0 n)) count

-- references of three kinds, one after the other
pub three_met : (found : List ℕ) (none a b d : List Finder) (xs ys zs : List Lead) → none ≡ [] → a ≡ met found none xs → b ≡ met found a ys → d ≡ met found b zs → d ≡ met found [] (xs ++ (ys ++ zs))
three_met found none a b d xs ys zs e p q r =
    r ∙ ap (λ l. met found l zs) (q ∙ ap (λ l. met found l ys) (p ∙ ap (λ l. met found l xs) e)) ∙ sym (met-append found (met found [] xs) ys zs) ∙ sym (met-append found [] xs (ys ++ zs))
