-- What is at an address where no object starts.
use Rattle.std.proofs.Common.{◌≡◌, ℕ, ◌+◌, ◌-◌, ◌*◌, ◌/◌, ◌%◌, ◌<◌, ◌≤◌, min, inl, inr, List, [], ◌∷◌, ◌++◌, map, length, get_or, take, Contains, refl, sym, ◌∙◌, ap, subst, arith, zero, suc}
use Rattle.std.specs.Prelude.{if◌then◌else◌, nat_le}
use Rattle.std.proofs.Math.Nat.{div-add-mod', add-mul}
use Rattle.std.proofs.lemmas.Bool.{cond-true, cond-false, cases_lt, le-leb, lt-leb}
use Rattle.std.proofs.lemmas.List.{take_more}
use Rattle.g1_words.specs.Heap.{Heap, kind, top, start, end, region_of, object_at, objects, objects_in}
use Rattle.g1_words.specs.Valid.{IsValid}
use Rattle.g1_words.specs.declared.object.Object.{Object}
use Rattle.g1_words.specs.declared.region.Kind.TheVariants.{Ordinary, HumongousFirst, Continuation}
use Rattle.g1_words.proofs.Computed.{has_contains, in_region_has}
use Rattle.g1_words.proofs.Shapes.{IsTiled, BeginsRun, IsBuiltBy, built}
use Rattle.g1_words.proofs.Standing.{tiled_member, run_object}
use Rattle.g1_report.specs.declared.location.Location.TheVariants.{Inside}
use Rattle.g1_report.specs.Location.{IsLocation, GoesOn}
use Rattle.g1_words.proofs.Members.{Contains-first}
use Rattle.g1_words.proofs.Members.{Contains-later}

abbrev pub starts : List Object → List ℕ
starts os = map (λ o. o.at) os

-- the last of some addresses that is not above a, or d if there is none
abbrev pub last_to : ℕ → ℕ → List ℕ → ℕ
last_to a d [] = d
last_to a d (s ∷ ss) = last_to a (if nat_le s a then s else d) ss

last_push : (a d : ℕ) (ss : List ℕ) (s : ℕ) → last_to a d (ss ++ s ∷ []) ≡ (if nat_le s a then s else last_to a d ss)
last_push a d [] s = refl
last_push a d (r ∷ ss) s = last_push a (if nat_le r a then r else d) ss s

-- one address more
module _ (a d : ℕ) (l : List ℕ) (i last : ℕ) (lt : i < length l) (is : last ≡ last_to a d (take i l)) where
  more : last_to a d (take (i + 1) l) ≡ (if nat_le (get_or l i 0) a then get_or l i 0 else last_to a d (take i l))
  more = ap (last_to a d) (take_more l i 0 lt) ∙ last_push a d (take i l) (get_or l i 0)

  pub last_found : get_or l i 0 ≤ a → get_or l i 0 ≡ last_to a d (take (i + 1) l)
  last_found le = sym (more ∙ cond-true (nat_le (get_or l i 0) a) (get_or l i 0) (last_to a d (take i l)) (le-leb (get_or l i 0) a le))

  pub last_kept : a < get_or l i 0 → last ≡ last_to a d (take (i + 1) l)
  last_kept less = is ∙ sym (more ∙ cond-false (nat_le (get_or l i 0) a) (get_or l i 0) (last_to a d (take i l)) (lt-leb (get_or l i 0) a less))

-- those of objects above it
last_above : (a d : ℕ) (os : List Object) → ((o : Object) → Contains os o → a < o.at) → last_to a d (starts os) ≡ d
last_above a d [] above = refl
last_above a d (o ∷ os) above =
    ap (λ s. last_to a s (starts os)) (cond-false (nat_le o.at a) o.at d (lt-leb o.at a (above o (zero, omega arith, refl)))) ∙ last_above a d os (λ p m. above p (suc m.0, omega (arith, m.1), m.2))

-- of objects that fill words without a gap, the last one that does not start above an address goes on to it
tiled_last : (h : Heap) (a from d : ℕ) (os : List Object) (end : ℕ) → IsTiled h from os end → from ≤ a → a < end
    → (o : Object) × Contains os o × (o.at ≡ last_to a d (starts os)) × (o.at ≤ a) × (a < o.at + o.size)
tiled_last h a from d [] end t low high = absurd (omega (arith, t, low, high))
tiled_last h a from d (o ∷ os) end t low high =
    let at : o.at ≡ from = ap (λ (x : Object). x.at) t.0 in
    let here : (if nat_le o.at a then o.at else d) ≡ o.at = cond-true (nat_le o.at a) o.at d (le-leb o.at a (omega (arith, at, low))) in
    elim (cases_lt a (from + o.size)) [
      | inl lt ↦
          let last : last_to a o.at (starts os) ≡ o.at = last_above a o.at os (λ p m. let up = (tiled_member h (from + o.size) os end t.2 p m).0 in omega (arith, up, lt)) in
          (o, Contains-first o os, sym (ap (λ s. last_to a s (starts os)) here ∙ last), omega (arith, at, low), omega (arith, at, lt))
      | inr ge ↦
          let m = tiled_last h a (from + o.size) (if nat_le o.at a then o.at else d) os end t.2 ge high in
          (m.0, Contains-later o os m.0 m.1, m.2, m.3, m.4)
    ]

module _ (h : Heap) (valid : IsValid h) where
  begins : (r : ℕ) → r < h.geometry.n → kind h r ≡ HumongousFirst → BeginsRun h r
  begins r lt first = subst (IsBuiltBy h r) first ((built h valid).shaped r lt)

  begun : (r : ℕ) → r < h.geometry.n → kind h r ≡ HumongousFirst → Contains (objects h) (object_at h (start h r))
  begun r lt first =
      let w : 0 < h.geometry.w = omega (arith, valid.limits.w_least) in
      let o = object_at h (start h r) in
      has_contains h o (in_region_has h r o valid.shaped lt (run_object h w r first (begins r lt first)))

  -- going back by a region from one in which an object goes on
  pub back : (r n : ℕ) → ((f : ℕ) → GoesOn h f r → f ≤ n) → kind h n ≡ Continuation → (f : ℕ) → GoesOn h f r → f ≤ n - 1
  back r n low on f goes = elim (cases_lt f n) [
    | inl lt ↦ omega (arith, lt)
    | inr ge ↦
        let same : f ≡ n = omega (arith, ge, low f goes) in
        let clash : HumongousFirst ≡ Continuation = sym goes.0 ∙ ap (kind h) same ∙ on in
        absurd cc
  ]

  -- as far as that leads
  pub back_end : (r n : ℕ) → r < h.geometry.n → kind h r ≡ Continuation → n ≤ r → ((f : ℕ) → GoesOn h f r → f ≤ n) → (0 < n → kind h n ≡ Continuation → ⊥) → GoesOn h n r
  back_end r n lt on le low stop =
      let s = subst (IsBuiltBy h r) on ((built h valid).shaped r lt) in
      let f : ℕ = s.0 in
      let goes : GoesOn h f r = (s.1, s.2, s.3) in
      elim (cases_lt f n) [
        | inl less ↦
            let q : ℕ = n - f in
            let sum : (q + (r - n)) * h.geometry.w ≡ q * h.geometry.w + (r - n) * h.geometry.w = add-mul q (r - n) h.geometry.w in
            let whole : q + (r - n) ≡ r - f = omega (arith, less, le, s.2) in
            let size : (q + (r - n)) * h.geometry.w < (object_at h (start h f)).size = subst (λ x. x * h.geometry.w < (object_at h (start h f)).size) (sym whole) s.3 in
            let run = (begins f (omega (arith, s.2, lt)) s.1).run q (omega (arith, sum, size)) in
            let here : f + q ≡ n = omega (arith, less) in
            absurd (stop (omega (arith, less)) (subst (λ x. kind h x ≡ Continuation) here (run.2 (omega (arith, less)))))
        | inr ge ↦
            let same : f ≡ n = omega (arith, ge, low f goes) in
            subst (λ x. GoesOn h x r) same goes
      ]

  module _ (a r : ℕ) (lt : r < h.geometry.n) (here : region_of h a ≡ r) (used : a < end h r) where
    low : start h r ≤ a
    low =
        let parts : a / h.geometry.w * h.geometry.w + a % h.geometry.w ≡ a = div-add-mod' a h.geometry.w in
        let same : a / h.geometry.w * h.geometry.w ≡ r * h.geometry.w = ap (λ x. x * h.geometry.w) here in
        omega (arith, parts, same)

    pub in_ordinary : kind h r ≡ Ordinary → (at : ℕ) → at ≡ last_to a (start h r) (starts (objects_in h r)) → IsLocation h a (Inside at)
    in_ordinary ordinary at is =
        let s = subst (IsBuiltBy h r) ordinary ((built h valid).shaped r lt) in
        let m = tiled_last h a (start h r) (start h r) (objects_in h r) (end h r) s.2 low used in
        let o : Object = m.0 in
        let whole : o ≡ object_at h o.at = (tiled_member h (start h r) (objects_in h r) (end h r) s.2 o m.1).2 in
        let there = has_contains h o (in_region_has h r o valid.shaped lt m.1) in
        let same : o.at ≡ at = m.2 ∙ sym is in
        subst (λ x. IsLocation h a (Inside x)) same
        (subst (Contains (objects h)) whole there, m.3, subst (λ (x : Object). a < o.at + x.size) whole m.4)

    pub in_first : kind h r ≡ HumongousFirst → IsLocation h a (Inside (start h r))
    in_first first =
        let s = begins r lt first in
        let t = (s.run 0 (omega (arith, s.refs))).1 in
        let here : r + 0 ≡ r = omega arith in
        let much : top h r ≡ min h.geometry.w ((object_at h (start h r)).size - 0 * h.geometry.w) = ap (top h) (sym here) ∙ t in
        (begun r lt first, low, omega (arith, used, much))

    pub in_run : (f : ℕ) → GoesOn h f r → IsLocation h a (Inside (start h f))
    in_run f goes =
        let before : f < h.geometry.n = omega (arith, goes.1, lt) in
        let q : ℕ = r - f in
        let sum : (f + q) * h.geometry.w ≡ f * h.geometry.w + q * h.geometry.w = add-mul f q h.geometry.w in
        let here : f + q ≡ r = omega (arith, goes.1) in
        let at : (f + q) * h.geometry.w ≡ r * h.geometry.w = ap (λ x. x * h.geometry.w) here in
        let t = ((begins f before goes.0).run q goes.2).1 in
        let much : top h r ≡ min h.geometry.w ((object_at h (start h f)).size - q * h.geometry.w) = ap (top h) (sym here) ∙ t in
        (begun f before goes.0, omega (arith, low, sum, at), omega (arith, used, much, sum, at, goes.2))
