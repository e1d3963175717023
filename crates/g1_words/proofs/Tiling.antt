-- Objects that stand end to end.
use Rattle.std.proofs.Common.{◌≡◌, ◌≤◌, ◌<◌, ℕ, zero, suc, ◌+◌, ◌*◌, ◌^◌, List, [], ◌∷◌, ◌++◌, length, slice_index, map, arith, refl, sym, ap, subst, ◌∙◌}
use Rattle.std.specs.Prelude.{Contains}
use Rattle.std.proofs.lemmas.List.Elements.{Contains-append_right}
use Rattle.std.proofs.lemmas.List.{map-append}
use Rattle.g1_words.specs.declared.object.Object.{Object}
use Rattle.g1_words.specs.Valid.{IsObject, Tiles}
use Rattle.g1_words.specs.Walk.{Reaches, StandsBetween}

-- two objects at one address are one
pub same_size : (words : List ℕ) (o q : Object) → IsObject words o → IsObject words q → o.at ≡ q.at → o.size ≡ q.size
same_size words o q io iq e =
    let h : o.size * 2 ^ 32 + o.refs ≡ q.size * 2 ^ 32 + q.refs = sym io.header ∙ ap (λ a. slice_index words a) e ∙ iq.header in
    omega (arith, h, io.refs_fit, io.size_fits, iq.refs_fit, iq.size_fits)

pub same_refs : (words : List ℕ) (o q : Object) → IsObject words o → IsObject words q → o.at ≡ q.at → o.refs ≡ q.refs
same_refs words o q io iq e =
    let h : o.size * 2 ^ 32 + o.refs ≡ q.size * 2 ^ 32 + q.refs = sym io.header ∙ ap (λ a. slice_index words a) e ∙ iq.header in
    omega (arith, h, io.refs_fit, io.size_fits, iq.refs_fit, iq.size_fits)

pub same_object : (words : List ℕ) (o q : Object) → IsObject words o → IsObject words q → o.at ≡ q.at → o ≡ q
same_object words o q io iq e =
    let object : ℕ → ℕ → ℕ → Object = λ at size refs. record { at = at; size = size; refs = refs } in
    let s : o.size ≡ q.size = same_size words o q io iq e in
    let r : o.refs ≡ q.refs = same_refs words o q io iq e in
    let whole : object o.at o.size o.refs ≡ object q.at q.size q.refs = cc in
    whole

pub Tiles-le : (words : List ℕ) (from : ℕ) (os : List Object) (to : ℕ) → Tiles words from os to → from ≤ to
Tiles-le words from [] to t = omega arith
Tiles-le words from (o ∷ os) to t = omega (arith, Tiles-le words (from + o.size) os to t.2)

-- two rows between the same addresses are one
pub Tiles-one : (words : List ℕ) (from : ℕ) (os qs : List Object) (to : ℕ) → Tiles words from os to → Tiles words from qs to → os ≡ qs
Tiles-one words from [] [] to t u = refl
Tiles-one words from [] (q ∷ qs) to t u = absurd (omega (arith, t, u.1.refs_fit, Tiles-le words (from + q.size) qs to u.2))
Tiles-one words from (o ∷ os) [] to t u = absurd (omega (arith, u, t.1.refs_fit, Tiles-le words (from + o.size) os to t.2))
Tiles-one words from (o ∷ os) (q ∷ qs) to t u =
    let e : o ≡ q = same_object words o q t.1 u.1 (t.0 ∙ sym u.0) in
    let rest : os ≡ qs = Tiles-one words (from + o.size) os qs to t.2 (subst (λ x. Tiles words (from + x.size) qs to) (sym e) u.2) in
    ap (λ x. x ∷ os) e ∙ ap (λ l. q ∷ l) rest

pub Tiles-append : (words : List ℕ) (from : ℕ) (os : List Object) (mid : ℕ) (qs : List Object) (to : ℕ) →
    Tiles words from os mid → Tiles words mid qs to → Tiles words from (os ++ qs) to
Tiles-append words from [] mid qs to t u = subst (λ x. Tiles words x qs to) (sym t) u
Tiles-append words from (o ∷ os) mid qs to t u = (t.0, t.1, Tiles-append words (from + o.size) os mid qs to t.2 u)

-- where two rows of objects start together, the longer goes on where the shorter ends
pub Reaches-rest : (words : List ℕ) (from : ℕ) (os qs : List Object) (mid to : ℕ) →
    Tiles words from os mid → Tiles words from qs to → mid ≤ to → Reaches words mid to
Reaches-rest words from [] qs mid to t u le = (qs, subst (λ x. Tiles words x qs to) t u)
Reaches-rest words from (o ∷ os) [] mid to t u le = absurd (omega (arith, Tiles-le words (from + o.size) os mid t.2, t.1.refs_fit))
Reaches-rest words from (o ∷ os) (q ∷ qs) mid to t u le =
    let e : q.size ≡ o.size = same_size words q o u.1 t.1 (u.0 ∙ sym t.0) in
    Reaches-rest words (from + o.size) os qs mid to t.2 (subst (λ x. Tiles words (from + x) qs to) e u.2) le

-- what stands at the front of a row that isn't empty
pub record Front (words : List ℕ) (from to : ℕ) : Type 0 where
  pub first : Object
  pub at : first.at ≡ from
  pub object : IsObject words first
  pub rest : Reaches words (from + first.size) to
  pub within : from + first.size ≤ to

pub Reaches-front : (words : List ℕ) (from to : ℕ) → Reaches words from to → from < to → Front words from to
Reaches-front words from to (os, t) lt = front os t lt where
  front : (os : List Object) → Tiles words from os to → from < to → Front words from to
  front [] t lt = absurd (omega arith)
  front (o ∷ os) t lt = record { first = o; at = t.0; object = t.1; rest = (os, t.2); within = Tiles-le words (from + o.size) os to t.2 }

pub Reaches-more : (words : List ℕ) (from : ℕ) (o : Object) → Reaches words from o.at → IsObject words o → Reaches words from (o.at + o.size)
Reaches-more words from o (os, t) i =
    (os ++ o ∷ [], Tiles-append words from os o.at (o ∷ []) (o.at + o.size) t (refl, i, refl))

pub Tiles-stands : (words : List ℕ) (from : ℕ) (os : List Object) (to : ℕ) (o : Object) → Tiles words from os to → Contains os o → StandsBetween words from to o
Tiles-stands words from [] to o t (k, lt, e) = absurd (omega arith)
Tiles-stands words from (q ∷ os) to o t (zero, lt, e) =
    let same : o ≡ q = sym e in
    rw same (record { before = ([], sym t.0); object = t.1; after = (os, subst (λ x. Tiles words (x + q.size) os to) (sym t.0) t.2) })
Tiles-stands words from (q ∷ os) to o t (suc k, lt, e) =
    let s = Tiles-stands words (from + q.size) os to o t.2 (k, omega arith, e) in
    record {
      before = (q ∷ s.before.0, (t.0, t.1, s.before.1));
      object = s.object;
      after = s.after;
    }

-- the row that has the object in it
pub stands_row : (words : List ℕ) (from to : ℕ) (o : Object) → StandsBetween words from to o → (os : List Object) × Tiles words from os to × Contains os o
stands_row words from to o s =
    let before = s.before.0 in
    let after = s.after.0 in
    (before ++ o ∷ after, Tiles-append words from before o.at (o ∷ after) to s.before.1 (refl, s.object, s.after.1), Contains-append_right before (o ∷ after) o (0, omega arith, refl))

-- a walk over the objects between two addresses, in search of the one at a, has come to `at`
pub record Walk (words : List ℕ) (from to a at : ℕ) : Type 0 where
  pub passed : Reaches words from at
  pub ahead : Reaches words at to
  pub not_past : Reaches words from a → at ≤ a

pub Walk-start : (words : List ℕ) (from to a : ℕ) → Reaches words from to → Walk words from to a from
Walk-start words from to a r =
    record { passed = ([], refl); ahead = r; not_past = λ (os, t). Tiles-le words from os a t }

pub Walk-step : (words : List ℕ) (from to a at size : ℕ) → Walk words from to a at → at < a → at < to →
    ((o : Object) → o.at ≡ at → IsObject words o → o.size ≡ size) → Walk words from to a (at + size)
Walk-step words from to a at size w before within sized =
    let f : Front words at to = Reaches-front words at to w.ahead within in
    let e : at + size ≡ f.first.at + f.first.size = omega (arith, f.at, sized f.first f.at f.object) in
    let g : at + size ≡ at + f.first.size = omega (arith, sized f.first f.at f.object) in
    let rest : Reaches words (at + size) to = subst (λ x. Reaches words x to) (sym g) f.rest in
    let came : Reaches words from f.first.at = subst (λ x. Reaches words from x) (sym f.at) w.passed in
    record {
      passed = subst (λ x. Reaches words from x) (sym e) (Reaches-more words from f.first came f.object);
      ahead = rest;
      not_past = λ r.
          let q : Front words at a = Reaches-front words at a (Reaches-rest words from w.passed.0 r.0 at a w.passed.1 r.1 (omega arith)) before in
          omega (arith, q.within, sized q.first q.at q.object);
    }

-- a step of a walk stays between its ends
pub Walk-fits : (words : List ℕ) (from to a at size : ℕ) → Walk words from to a at → at < to →
    ((o : Object) → o.at ≡ at → IsObject words o → o.size ≡ size) → (at + size ≤ to) × (0 < size)
Walk-fits words from to a at size w within sized =
    let f : Front words at to = Reaches-front words at to w.ahead within in
    (omega (arith, f.within, sized f.first f.at f.object), omega (arith, f.object.refs_fit, sized f.first f.at f.object))

-- the object read at the end of a walk is the one looked for
pub Walk-found : (words : List ℕ) (from to a at : ℕ) (q : Object) → Walk words from to a at → at ≡ a → at < to →
    q.at ≡ at → ((o : Object) → o.at ≡ at → IsObject words o → o ≡ q) → StandsBetween words from to q
Walk-found words from to a at q w here within placed only =
    let f : Front words at to = Reaches-front words at to w.ahead within in
    let same : f.first ≡ q = only f.first f.at f.object in
    let came : Reaches words from f.first.at = subst (λ x. Reaches words from x) (sym f.at) w.passed in
    let rest : Reaches words (f.first.at + f.first.size) to = subst (λ x. Reaches words (x + f.first.size) to) (sym f.at) f.rest in
    subst (λ o. StandsBetween words from to o) same (record { before = came; object = f.object; after = rest })

-- where a walk has ended elsewhere, no object stands at the address
pub Walk-none : (words : List ℕ) (from to a at : ℕ) (o : Object) → Walk words from to a at →
    (at < a → at < to → ⊥) → (at ≡ a → at < to → ⊥) → o.at ≡ a → StandsBetween words from to o → ⊥
Walk-none words from to a at o w ended missed e s =
    let le : at ≤ a = w.not_past (subst (λ x. Reaches words from x) e s.before) in
    let end : o.at + o.size ≤ to = Tiles-le words (o.at + o.size) s.after.0 to s.after.1 in
    let some : o.refs < o.size = s.object.refs_fit in
    let within : at < to = omega arith in
    let at_end : a ≤ at = grind (arith, ended) in
    missed (omega arith) within

-- a walk over the objects between two addresses has come to `at`, and has listed the addresses that it passed
pub record Listed (words : List ℕ) (from to at : ℕ) (starts : List ℕ) : Type 0 where
  pub passed : List Object
  pub tiles : Tiles words from passed at
  pub same : starts ≡ map (λ o. o.at) passed
  pub ahead : Reaches words at to

pub Listed-start : (words : List ℕ) (from to : ℕ) → Reaches words from to → Listed words from to from []
Listed-start words from to r = record { passed = []; tiles = refl; same = refl; ahead = r }

pub Listed-step : (words : List ℕ) (from to at : ℕ) (starts : List ℕ) (q : Object) → Listed words from to at starts → at < to →
    q.at ≡ at → ((o : Object) → o.at ≡ at → IsObject words o → o ≡ q) → Listed words from to (at + q.size) (starts ++ at ∷ [])
Listed-step words from to at starts q w within placed only =
    let f : Front words at to = Reaches-front words at to w.ahead within in
    let same : f.first ≡ q = only f.first f.at f.object in
    let object : IsObject words q = subst (λ o. IsObject words o) same f.object in
    let end : q.at + q.size ≡ at + q.size = ap (λ x. x + q.size) placed in
    let one : Tiles words at (q ∷ []) (at + q.size) = (placed, object, refl) in
    record {
      passed = w.passed ++ q ∷ [];
      tiles = Tiles-append words from w.passed at (q ∷ []) (at + q.size) w.tiles one;
      same = rw (map-append, placed) (ap (λ l. l ++ at ∷ []) w.same);
      ahead = subst (λ x. Reaches words (at + x) to) (ap (λ o. o.size) same) f.rest;
    }

pub Listed-fits : (words : List ℕ) (from to at : ℕ) (starts : List ℕ) (q : Object) → Listed words from to at starts → at < to →
    ((o : Object) → o.at ≡ at → IsObject words o → o ≡ q) → (at + q.size ≤ to) × (0 < q.size)
Listed-fits words from to at starts q w within only =
    let f : Front words at to = Reaches-front words at to w.ahead within in
    let same : f.first.size ≡ q.size = ap (λ o. o.size) (only f.first f.at f.object) in
    (omega (arith, f.within, same), omega (arith, f.object.refs_fit, same))

pub Listed-end : (words : List ℕ) (from to at : ℕ) (starts : List ℕ) → Listed words from to at starts → to ≤ at →
    (os : List Object) × Tiles words from os to × (starts ≡ map (λ o. o.at) os)
Listed-end words from to at starts w le =
    let e : at ≡ to = omega (arith, Tiles-le words at w.ahead.0 to w.ahead.1) in
    (w.passed, subst (λ x. Tiles words from w.passed x) e w.tiles, w.same)

-- objects that stand end to end have rising addresses
pub Tiles-rising : (words : List ℕ) (from : ℕ) (os : List Object) (to : ℕ) → Tiles words from os to →
    (k : ℕ) → suc k < length os → slice_index (map (λ o. o.at) os) k < slice_index (map (λ o. o.at) os) (suc k)
Tiles-rising words from [] to t k lt = absurd (omega arith)
Tiles-rising words from (o ∷ []) to t k lt = absurd (omega arith)
Tiles-rising words from (o ∷ q ∷ os) to t zero lt = omega (arith, t.0, t.1.refs_fit, t.2.0)
Tiles-rising words from (o ∷ q ∷ os) to t (suc k) lt = Tiles-rising words (from + o.size) (q ∷ os) to t.2 k (omega arith)
