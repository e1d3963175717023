-- Regions that have no line.
use Rattle.std.proofs.Common.{◌≡◌, ◌≤◌, ◌<◌, ◌+◌, ◌-◌, ◌⊎◌, inl, inr, ℕ, zero, suc, Bool, true, false, [], ◌∷◌, ◌++◌, length, length-append, replicate, append-nil, refl, sym, ◌∙◌, ap, subst, arith}
use Rattle.std.specs.Prelude.{◌↔◌, Option, Some, None, Result, Ok, IsTrue}
use Rattle.std.specs.Option.{is_some}
use Rattle.std.proofs.lemmas.Bool.{false≢true}
use Rattle.std.proofs.lemmas.List.{length-replicate}
use Rattle.g1_words.specs.Heap.{free_region}
use Rattle.g1_words.specs.declared.region.Kind.{Kind}
use Rattle.g1_words.specs.declared.region.Kind.TheVariants.{Free, Ordinary, HumongousFirst, Continuation}
use Rattle.g1_text.specs.Content.{Content, IsCount, MayFollow, words_beyond, with_region}
use Rattle.g1_text.specs.Short.{GoesOn, Skips, MaySkip}

-- IN EACH REGION the humongous object above goes on
pub goes_geometry : (c : Content) (n : ℕ) (d : Content) → GoesOn c n d → d.geometry ≡ c.geometry
goes_geometry c zero d e = ap (λ (x : Content). x.geometry) (sym e)
goes_geometry c (suc n) d g = goes_geometry (with_region c Continuation) n d g.1

pub goes_length : (c : Content) (n : ℕ) (d : Content) → GoesOn c n d → length d.regions ≡ length c.regions + n
goes_length c zero d e = let l = ap (λ (x : Content). length x.regions) (sym e) in omega (arith, l)
goes_length c (suc n) d g =
    let l = goes_length (with_region c Continuation) n d g.1 in
    let more = length-append c.regions (record { kind = Continuation; top = words_beyond c Continuation; pinned = false } ∷ []) in
    omega (arith, l, more)

-- one region more, and the end of the object
pub one_left : (c d : Content) (left : ℕ) → 0 < c.beyond → GoesOn c left d → d.beyond ≡ 0 → (rest : ℕ) × (left ≡ suc rest) × GoesOn (with_region c Continuation) rest d
one_left c d zero some e none = let z = ap (λ (x : Content). x.beyond) e in absurd (omega (arith, some, z, none))
one_left c d (suc rest) some g none = (rest, refl, g.1)

pub ended : {c d : Content} (left : ℕ) → c.beyond ≡ 0 → GoesOn c left d → c ≡ d
ended zero none e = e
ended (suc rest) none g = let some = g.0 in absurd (omega (arith, some, none))

pub none_left : {c d : Content} (left : ℕ) → left ≡ 0 → GoesOn c left d → c ≡ d
none_left zero z e = e
none_left (suc rest) z g = absurd (omega (arith, z))

pub more_left : (c d : Content) (left : ℕ) → 0 < left → GoesOn c left d → (rest : ℕ) × (left ≡ suc rest) × (0 < c.beyond) × GoesOn (with_region c Continuation) rest d
more_left c d zero some e = absurd (omega (arith, some))
more_left c d (suc rest) some g = (rest, refl, g.0, g.1)

pub goes_from : {c e : Content} (d : Content) (left : ℕ) → e ≡ c → GoesOn c left d → GoesOn e left d
goes_from d left same g = subst (λ x. GoesOn x left d) (sym same) g

-- the regions without lines
pub skips_length : (c : Content) (on free : ℕ) (d : Content) → Skips c on free d → length d.regions ≡ length c.regions + on + free
skips_length c on free d s =
    let l = ap (λ (x : Content). length x.regions) s.adds in
    let both = length-append s.middle.regions (replicate free free_region) in
    let many = length-replicate free free_region in
    let first = goes_length c on s.middle s.goes_on in
    omega (arith, l, both, many, first)

pub skips_geometry : (c : Content) (on free : ℕ) (d : Content) → Skips c on free d → d.geometry ≡ c.geometry
skips_geometry c on free d s = ap (λ (x : Content). x.geometry) s.adds ∙ goes_geometry c on s.middle s.goes_on

-- no free one
pub no_free : {c d : Content} {on free : ℕ} → free ≡ 0 → (s : Skips c on free d) → d ≡ s.middle
no_free {free = free} none s =
    let rs = s.middle.regions in
    s.adds ∙ (λ i. record s.middle { regions = (ap (λ k. rs ++ replicate k free_region) none ∙ append-nil rs) i })

-- none at all
pub skips_none : (c : Content) → Skips c 0 0 c
skips_none c = record { middle = c; goes_on = refl; whole = λ lt. absurd (omega (arith, lt)); adds = λ i. record c { regions = sym (append-nil c.regions) i } }

-- A CONTINUATION stands behind no free region
pub free_below : {c e : Content} {on free : ℕ} → 0 < e.beyond → Skips c on free e → free ≡ 0
free_below {free = zero} some s = refl
free_below {free = suc n} some s =
    let none = s.whole (omega arith) in
    let same = ap (λ (x : Content). x.beyond) s.adds in
    absurd (omega (arith, some, none, same))

-- THE NUMBER of the next line's region
pub region_there : {E : Type 0} (told : Option ℕ) (next number n : ℕ) (r : Result ℕ E)
    → ((k : ℕ) → told ≡ Some k → next ≤ k → k < n → r ≡ Ok k) → (told ≡ None → next < n → r ≡ Ok next)
    → IsCount told number → (told ≡ None → number ≡ next) → next ≤ number → number < n → r ≡ Ok number
region_there None next number n r full none count same le lt = let e = same refl in none refl (omega (arith, e, lt)) ∙ ap Ok (sym e)
region_there (Some k) next number n r full none count same le lt = full k refl (omega (arith, count, le)) (omega (arith, count, lt)) ∙ ap Ok count

-- WHAT A LINE WITHOUT A NUMBER SKIPS
some_none : {k : ℕ} → Some k ≡ None → ⊥
some_none e = false≢true (sym (ap is_some e))

pub none_between : (told : Option ℕ) (on free : ℕ) → MaySkip told Continuation on free → told ≡ None → on ≡ 0
none_between None on free may e = may.0
none_between (Some r) on free may e = absurd (some_none e)

pub none_freed : (told : Option ℕ) (k : Kind) (on free : ℕ) → (k ≡ Continuation → ⊥) → MaySkip told k on free → told ≡ None → free ≡ 0
none_freed (Some r) k on free other may e = absurd (some_none e)
none_freed None Continuation on free other may e = absurd (other refl)
none_freed None Free on free other may e = may
none_freed None Ordinary on free other may e = may
none_freed None HumongousFirst on free other may e = may

-- A REGION THAT IS NO CONTINUATION
pub none_beyond : (c : Content) (k : Kind) → (k ≡ Continuation → ⊥) → MayFollow c k → c.beyond ≡ 0
none_beyond c Continuation other may = absurd (other refl)
none_beyond c Free other may = may
none_beyond c Ordinary other may = may
none_beyond c HumongousFirst other may = may

plain : (c : Content) (k : Kind) → words_beyond c k ≡ 0 → record c { regions = c.regions ++ record { kind = k; top = 0; pinned = false } ∷ [] } ≡ with_region c k
plain c k none =
    let left : c.beyond ≡ c.beyond - words_beyond c k = omega (arith, none) in
    λ i. record c { regions = c.regions ++ record { kind = k; top = sym none i; pinned = false } ∷ []; beyond = left i }

pub plain_region : (c : Content) (k : Kind) → (k ≡ Continuation → ⊥) → record c { regions = c.regions ++ record { kind = k; top = 0; pinned = false } ∷ [] } ≡ with_region c k
plain_region c Continuation other = absurd (other refl)
plain_region c Free other = plain c Free refl
plain_region c Ordinary other = plain c Ordinary refl
plain_region c HumongousFirst other = plain c HumongousFirst refl

pub when_is : {P : Type 0} (b : Bool) → IsTrue b ↔ P → b ≡ true → P
when_is b iff e = iff.0 e

pub when_not : {P : Type 0} (b : Bool) → IsTrue b ↔ P → b ≡ false → P → ⊥
when_not b iff e p = false≢true (sym e ∙ iff.1 p)

pub either : (a b : ℕ) → (a ≤ b) ⊎ (b ≤ a)
either zero b = inl (omega arith)
either (suc a) zero = inr (omega arith)
either (suc a) (suc b) = by (either a b)
  where
    by : (a ≤ b) ⊎ (b ≤ a) → (suc a ≤ suc b) ⊎ (suc b ≤ suc a)
    by (inl le) = inl (omega (arith, le))
    by (inr le) = inr (omega (arith, le))
