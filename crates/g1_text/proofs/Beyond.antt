-- How many words of a humongous object no region below a place has yet.
use Rattle.std.proofs.Common.{◌≡◌, ℕ, ◌+◌, ◌-◌, ◌*◌, ◌<◌, ◌≤◌, inl, inr, sym, ◌∙◌, ap, subst, arith}
use Rattle.std.proofs.lemmas.Bool.{cases_lt}
use Rattle.g1_words.specs.Heap.{Heap, kind}
use Rattle.g1_words.specs.Valid.{IsFirst, IsWholeRun}
use Rattle.g1_words.specs.declared.object.Object.{Object}
use Rattle.g1_words.specs.declared.region.Kind.{Kind}
use Rattle.g1_words.specs.declared.region.Kind.TheVariants.{HumongousFirst, Continuation}
use Rattle.g1_words.proofs.Tiling.{same_object}

next_run : (m w : ℕ) → (m + 1) * w ≡ m * w + w
next_run m w = omega arith

-- from one region to the next
further : (r f w : ℕ) → f ≤ r → (r + 1 - f) * w ≡ (r - f) * w + w
further r f w le = (let e : r + 1 - f ≡ r - f + 1 = omega (arith, le) in ap (λ x. x * w) e) ∙ next_run (r - f) w

-- A humongous object that starts below region r and goes on there has exactly these words from there on,
-- and if there are any, such an object is there, and has all the regions of its run.
pub record GoesOn (h : Heap) (r b : ℕ) : Type 0 where
  pub exact : (f : ℕ) (o : Object) → f < r → IsFirst h f o → (r - f) * h.geometry.w < o.size → o.size ≡ (r - f) * h.geometry.w + b
  pub begins : 0 < b → (f : ℕ) × (o : Object) × (f < r) × IsFirst h f o × (o.size ≡ (r - f) * h.geometry.w + b) × IsWholeRun h f o.size

pub none_goes_on : (h : Heap) → GoesOn h 0 0
none_goes_on h = record { exact = λ f o lt first more. absurd (omega (arith, lt)); begins = λ some. absurd (omega (arith, some)) }

module _ (h : Heap) (r b : ℕ) (on : GoesOn h r b) where
  -- the next region is a continuation
  pub continues : 0 < b → (r < h.geometry.n) × (kind h r ≡ Continuation)
  continues some =
      let o = on.begins some in
      let next = o.5 (r - o.0) (omega (arith, o.2)) (omega (arith, o.4, some)) in
      let here : o.0 + (r - o.0) ≡ r = omega (arith, o.2) in
      subst (λ x. (x < h.geometry.n) × (kind h x ≡ Continuation)) here next

  -- no words are left behind the last region
  pub none_left : r ≡ h.geometry.n → b ≡ 0
  none_left last = elim (cases_lt 0 b) [
    | inl some ↦ (let c = continues some in absurd (omega (arith, c.0, last)))
    | inr none ↦ omega (arith, none)
  ]

  -- none where the next region is no continuation
  pub none_before : (k : Kind) → kind h r ≡ k → (k ≡ Continuation → ⊥) → b ≡ 0
  none_before k is other = elim (cases_lt 0 b) [
    | inl some ↦ absurd (other (sym is ∙ (continues some).1))
    | inr none ↦ omega (arith, none)
  ]

  -- a region in which no humongous object starts or goes on
  pub past_plain : (k : Kind) → kind h r ≡ k → (k ≡ HumongousFirst → ⊥) → b ≡ 0 → GoesOn h (r + 1) 0
  past_plain k is other none = record {
    exact = λ f o lt first more. elim (cases_lt f r) [
      | inl less ↦ (let e = further r f h.geometry.w (omega (arith, less)) in let x = on.exact f o less first (omega (arith, e, more)) in absurd (omega (arith, e, more, x, none)))
      | inr ge ↦ (let here : f ≡ r = omega (arith, lt, ge) in absurd (other (sym is ∙ ap (kind h) (sym here) ∙ first.kind)))
    ];
    begins = λ some. absurd (omega (arith, some));
  }

  -- the first region of a humongous object
  pub past_first : b ≡ 0 → (o : Object) → IsFirst h r o → IsWholeRun h r o.size → GoesOn h (r + 1) (o.size - h.geometry.w)
  past_first none o first run =
      let one : (r + 1 - r) * h.geometry.w ≡ h.geometry.w = (let e : r + 1 - r ≡ 1 = omega arith in ap (λ x. x * h.geometry.w) e ∙ omega arith) in
      record {
        exact = λ f q lt start more. elim (cases_lt f r) [
          | inl less ↦ (let e = further r f h.geometry.w (omega (arith, less)) in let x = on.exact f q less start (omega (arith, e, more)) in absurd (omega (arith, e, more, x, none)))
          | inr ge ↦
              let here : f ≡ r = omega (arith, lt, ge) in
              let at : q.at ≡ o.at = start.at ∙ ap (λ x. x * h.geometry.w) here ∙ sym first.at in
              let same : q ≡ o = same_object h.words q o start.object first.object at in
              let size : q.size ≡ o.size = ap (λ (x : Object). x.size) same in
              let width : (r + 1 - f) * h.geometry.w ≡ h.geometry.w = ap (λ x. (r + 1 - x) * h.geometry.w) here ∙ one in
              omega (arith, size, width, more)
        ];
        begins = λ some. (r, o, omega arith, first, omega (arith, one, some), run);
      }

  -- a region in which a humongous object goes on
  pub past_continuation : kind h r ≡ Continuation → GoesOn h (r + 1) (b - h.geometry.w)
  past_continuation is = record {
    exact = λ f o lt first more. elim (cases_lt f r) [
      | inl less ↦ (let e = further r f h.geometry.w (omega (arith, less)) in let x = on.exact f o less first (omega (arith, e, more)) in omega (arith, e, more, x))
      | inr ge ↦ (let here : f ≡ r = omega (arith, lt, ge) in absurd (let clash : Continuation ≡ HumongousFirst = sym is ∙ ap (kind h) (sym here) ∙ first.kind in cc))
    ];
    begins = λ some.
        let o = on.begins (omega (arith, some)) in
        let e = further r o.0 h.geometry.w (omega (arith, o.2)) in
        (o.0, o.1, omega (arith, o.2), o.3, omega (arith, e, o.4, some), o.5);
  }
