-- The regions of the humongous objects that nothing names: which they are, and that no object lies in them in part.
use Rattle.std.proofs.Common.{◌≡◌, ◌≢◌, ℕ, ◌+◌, ◌-◌, ◌*◌, ◌/◌, ◌%◌, ◌<◌, ◌⊎◌, inl, inr, true, false, not, Contains, refl, sym, ◌∙◌, ap, subst, arith, leb, ltb, leb-true, ltb-true}
use Rattle.std.proofs.Common.{le-leb, lt-ltb, div-add-mod', mod-lt}
use Rattle.std.specs.List.{list_any}
use Rattle.std.proofs.lemmas.Bool.{cases_lt, and_from, not-true, and_parts}
use Rattle.std.proofs.lemmas.Nat.{div-mul-add}
use Rattle.std.proofs.Math.Nat.{add-mul}
use Rattle.g1_after.specs.Unnamed.{has_word, humongous, is_named, lies_in, unnamed, unnamed_regions}
use Rattle.g1_words.proofs.Computed.{Contains-range}
use Rattle.g1_words.proofs.Indices.{range_bounds}
use Rattle.g1_words.proofs.Members.{Contains-filter, any_member, filter_member, has_from_contains, Contains-from_has}
use Rattle.g1_words.proofs.Shapes.{IsBuilt}
use Rattle.g1_words.proofs.Standing.{InHumongous, Stands, home, home_region, ordinary_word, run_word, w_pos, word_in_ordinary, word_used, words_apart}
use Rattle.g1_words.specs.Heap.{Heap, is_first, kind, object_at, objects, objects_in, region_of, regions}
use Rattle.g1_words.specs.Lists.{has}
use Rattle.g1_words.specs.Survivors.{in_set}
use Rattle.g1_words.specs.declared.object.Object.{Object}
use Rattle.g1_words.specs.declared.region.Kind.TheVariants.{Continuation, Free, HumongousFirst, Ordinary}
use Rattle.g1_words.proofs.Lists.{any_from_in}
pub use Rattle.g1_words.proofs.Logic.{same_test}

module _ (h : Heap) (valid : IsBuilt h) where
  -- a humongous object stands at the start of its run
  pub humongous_home : (o : Object) → Contains (humongous h) o → (r : ℕ) × Contains (objects_in h r) o × Stands h r o × InHumongous h r o
  humongous_home o c =
      let f = filter_member (λ (o : Object). is_first (kind h (region_of h o.at))) (objects h) o c in
      let m = home h valid o f.0 in
      elim m.2.2 [
        | inr a ↦ (m.0, m.1, m.2, a)
        | inl a ↦
            let k : kind h (region_of h o.at) ≡ Ordinary = ap (kind h) (home_region h valid m.0 o m.2) ∙ a.kind in
            let clash : false ≡ true = sym (ap is_first k) ∙ f.1 in cc
      ]

  -- an object that lies in a region has a word there
  pub lies_word : (r : ℕ) (o : Object) → 0 < o.size → lies_in h r o ≡ true → (m : ℕ) × (m < o.size) × (region_of h (o.at + m) ≡ r)
  lies_word r o pos t =
      let both = and_parts (ltb o.at (r * h.geometry.w + h.geometry.w)) (ltb (r * h.geometry.w) (o.at + o.size)) t in
      let low : o.at < r * h.geometry.w + h.geometry.w = ltb-true o.at (r * h.geometry.w + h.geometry.w) both.0 in
      let high : r * h.geometry.w < o.at + o.size = ltb-true (r * h.geometry.w) (o.at + o.size) both.1 in
      let some = w_pos h valid in
      elim (cases_lt (r * h.geometry.w) o.at) [
        | inl lt ↦
            let e : o.at + 0 ≡ r * h.geometry.w + (o.at - r * h.geometry.w) = omega arith in
            (0, pos, ap (λ y. y / h.geometry.w) e ∙ div-mul-add r h.geometry.w (o.at - r * h.geometry.w) (omega arith))
        | inr ge ↦
            let e : o.at + (r * h.geometry.w - o.at) ≡ r * h.geometry.w + 0 = omega arith in
            (r * h.geometry.w - o.at, omega arith, ap (λ y. y / h.geometry.w) e ∙ div-mul-add r h.geometry.w 0 some)
      ]

  -- an object lies in the region of each of its words
  pub word_lies : (r : ℕ) (o : Object) (m : ℕ) → m < o.size → region_of h (o.at + m) ≡ r → lies_in h r o ≡ true
  word_lies r o m lt e =
      let d : (o.at + m) / h.geometry.w * h.geometry.w + (o.at + m) % h.geometry.w ≡ o.at + m = div-add-mod' (o.at + m) h.geometry.w in
      let q : (o.at + m) % h.geometry.w < h.geometry.w = mod-lt (o.at + m) (w_pos h valid) in
      let s : (o.at + m) / h.geometry.w * h.geometry.w ≡ r * h.geometry.w = ap (λ y. y * h.geometry.w) e in
      and_from (ltb o.at (r * h.geometry.w + h.geometry.w)) (ltb (r * h.geometry.w) (o.at + o.size))
      (lt-ltb o.at (r * h.geometry.w + h.geometry.w) (omega arith)) (lt-ltb (r * h.geometry.w) (o.at + o.size) (omega arith))

  -- a region in which a humongous object has a word has no word of another
  pub one_run : (o p : Object) (m x : ℕ) → Contains (objects h) o → Contains (humongous h) p → m < o.size → x < p.size → region_of h (o.at + m) ≡ region_of h (p.at + x) → o ≡ p
  one_run o p m x co hp lm lx e =
      let s = home h valid o co in
      let t = humongous_home p hp in
      let y = run_word h valid t.0 p x t.3 lx in
      elim s.2.2 [
        | inl a ↦
            let one : kind h (region_of h (p.at + x)) ≡ Ordinary = ap (kind h) (sym e) ∙ ap (kind h) (ordinary_word h valid s.0 o m a lm).0 ∙ a.kind in
            let b = word_in_ordinary h valid t.0 p x t.2 lx one in
            let clash : HumongousFirst ≡ Ordinary = sym t.3.kind ∙ b.0.kind in cc
        | inr a ↦
            let z = run_word h valid s.0 o m a lm in
            let same : s.0 + z.0 ≡ t.0 + y.0 = sym z.1 ∙ e ∙ y.1 in
            let starts : (s.0 + z.0) * h.geometry.w ≡ (t.0 + y.0) * h.geometry.w = ap (λ q. q * h.geometry.w) same in
            let left : (s.0 + z.0) * h.geometry.w ≡ s.0 * h.geometry.w + z.0 * h.geometry.w = add-mul s.0 z.0 h.geometry.w in
            let right : (t.0 + y.0) * h.geometry.w ≡ t.0 * h.geometry.w + y.0 * h.geometry.w = add-mul t.0 y.0 h.geometry.w in
            let ao = a.at in let ap' = t.3.at in
            let meet : o.at + z.0 * h.geometry.w ≡ p.at + y.0 * h.geometry.w = omega arith in
            let at : o.at ≡ p.at = words_apart h valid s.0 t.0 o p (z.0 * h.geometry.w) (y.0 * h.geometry.w) s.1 t.1 (let l = z.2 in omega arith) (let l = y.2 in omega arith) meet in
            s.2.1 ∙ ap (object_at h) at ∙ sym t.2.1
      ]

  -- a word of an object is one of a humongous object's exactly where that one lies in the word's region
  pub word_in_run : (o q : Object) (m : ℕ) → Contains (humongous h) o → Contains (objects h) q → m < q.size → lies_in h (region_of h (q.at + m)) o ≡ has_word o (q.at + m)
  word_in_run o q m ho cq lm =
      let t = humongous_home o ho in
      let fits = t.3.refs in
      same_test (lies_in h (region_of h (q.at + m)) o) (has_word o (q.at + m))
      (λ l.
      let x = lies_word (region_of h (q.at + m)) o (omega arith) l in
      let same : q ≡ o = one_run q o m x.0 cq ho lm x.1 (sym x.2) in
      let at = ap (λ (z : Object). z.at) same in
      let size = ap (λ (z : Object). z.size) same in
      and_from (leb o.at (q.at + m)) (ltb (q.at + m) (o.at + o.size)) (le-leb o.at (q.at + m) (omega arith)) (lt-ltb (q.at + m) (o.at + o.size) (omega arith)))
      (λ l.
      let both = and_parts (leb o.at (q.at + m)) (ltb (q.at + m) (o.at + o.size)) l in
      let low = leb-true o.at (q.at + m) both.0 in
      let high = ltb-true (q.at + m) (o.at + o.size) both.1 in
      let z : o.at + (q.at + m - o.at) ≡ q.at + m = omega arith in
      word_lies (region_of h (q.at + m)) o (q.at + m - o.at) (omega arith) (ap (region_of h) z))

  -- one that nothing names is humongous and not named
  pub unnamed_humongous : (o : Object) → Contains (unnamed h) o → Contains (humongous h) o × (is_named h o ≡ false)
  unnamed_humongous o c = let f = filter_member (λ o. not (is_named h o)) (humongous h) o c in (f.0, not-true (is_named h o) f.1)

  -- a humongous object is an object
  pub humongous_object : (o : Object) → Contains (humongous h) o → Contains (objects h) o
  humongous_object o c = (filter_member (λ (o : Object). is_first (kind h (region_of h o.at))) (objects h) o c).0

  -- a region of theirs has a word of one of them
  pub region_unnamed : (r : ℕ) → has (unnamed_regions h) r ≡ true → (r < h.geometry.n) × (o : Object) × Contains (unnamed h) o × (m : ℕ) × (m < o.size) × (region_of h (o.at + m) ≡ r)
  region_unnamed r t =
      let f = filter_member (λ r. list_any (lies_in h r) (unnamed h)) (regions h) r (Contains-from_has (unnamed_regions h) r t) in
      let b = range_bounds 0 h.geometry.n r f.0 in
      let a = any_member (lies_in h r) (unnamed h) f.1 in
      let fits = (humongous_home a.0 (unnamed_humongous a.0 a.1).0).3.refs in
      let w = lies_word r a.0 (omega arith) a.2 in
      (omega arith, a.0, a.1, w.0, w.1, w.2)

  -- each word of theirs lies in a region of theirs
  pub unnamed_region : (o : Object) (m : ℕ) → Contains (unnamed h) o → m < o.size → has (unnamed_regions h) (region_of h (o.at + m)) ≡ true
  unnamed_region o m c lt =
      let t = humongous_home o (unnamed_humongous o c).0 in
      let u = word_used h valid t.0 o m t.2 lt in
      let r : ℕ = region_of h (o.at + m) in
      has_from_contains (unnamed_regions h) r (Contains-filter (λ r. list_any (lies_in h r) (unnamed h)) (regions h) r (Contains-range 0 h.geometry.n r (omega arith) (let b = u.0 in omega arith))
      (any_from_in (lies_in h r) (unnamed h) o c (word_lies r o m lt refl)))

  -- an object with a word in a region of theirs is one of them
  pub unnamed_there : (o : Object) (m : ℕ) → Contains (objects h) o → m < o.size → has (unnamed_regions h) (region_of h (o.at + m)) ≡ true → Contains (unnamed h) o
  unnamed_there o m c lt t =
      let u = region_unnamed (region_of h (o.at + m)) t in
      let same : o ≡ u.1 = one_run o u.1 m u.3 c (unnamed_humongous u.1 u.2).0 lt u.4 (sym u.5) in
      subst (λ x. Contains (unnamed h) x) (sym same) u.2

  -- the words of an object lie all in their regions, or all elsewhere
  pub words_together : (o : Object) (m k : ℕ) → Contains (objects h) o → m < o.size → k < o.size → has (unnamed_regions h) (region_of h (o.at + m)) ≡ has (unnamed_regions h) (region_of h (o.at + k))
  words_together o m k c lm lk =
      same_test (has (unnamed_regions h) (region_of h (o.at + m))) (has (unnamed_regions h) (region_of h (o.at + k)))
      (λ t. unnamed_region o k (unnamed_there o m c lm t) lk) (λ t. unnamed_region o m (unnamed_there o k c lk t) lm)

  -- as its header does
  pub word_with_header : (o : Object) (m : ℕ) → Contains (objects h) o → m < o.size → in_set h (unnamed_regions h) (o.at + m) ≡ in_set h (unnamed_regions h) o.at
  word_with_header o m c lt =
      let z : o.at + 0 ≡ o.at = omega arith in
      words_together o m 0 c lt (omega arith) ∙ ap (in_set h (unnamed_regions h)) z

  -- a region of theirs is the first of a run or a continuation
  pub unnamed_kind : (r : ℕ) → has (unnamed_regions h) r ≡ true → (kind h r ≡ HumongousFirst) ⊎ (kind h r ≡ Continuation)
  unnamed_kind r t =
      let u = region_unnamed r t in
      let o = humongous_home u.1 (unnamed_humongous u.1 u.2).0 in
      let w = run_word h valid o.0 u.1 u.3 o.3 u.4 in
      let k = o.3.first.run w.0 w.3 in
      let at : o.0 + w.0 ≡ r = sym w.1 ∙ u.5 in
      elim (cases_lt 0 w.0) [
        | inl lt ↦ inr (ap (kind h) (sym at) ∙ k.2 lt)
        | inr ge ↦ let same : r ≡ o.0 = omega arith in inl (ap (kind h) same ∙ o.3.kind)
      ]

  -- so it is not free
  pub unnamed_not_free : (r : ℕ) → has (unnamed_regions h) r ≡ true → kind h r ≢ Free
  unnamed_not_free r t z = elim (unnamed_kind r t) [
    | inl a ↦ let clash : HumongousFirst ≡ Free = sym a ∙ z in cc
    | inr a ↦ let clash : Continuation ≡ Free = sym a ∙ z in cc
  ]

  -- nor is it ordinary
  pub unnamed_not_ordinary : (r : ℕ) → has (unnamed_regions h) r ≡ true → kind h r ≢ Ordinary
  unnamed_not_ordinary r t z = elim (unnamed_kind r t) [
    | inl a ↦ let clash : HumongousFirst ≡ Ordinary = sym a ∙ z in cc
    | inr a ↦ let clash : Continuation ≡ Ordinary = sym a ∙ z in cc
  ]
