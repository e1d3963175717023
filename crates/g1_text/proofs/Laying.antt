-- Regions that take objects one after the other.
use Rattle.std.proofs.Common.{◌≡◌, ◌≤◌, ◌<◌, inl, inr, ℕ, zero, suc, ◌+◌, ◌-◌, ◌*◌, false, List, [], ◌∷◌, ◌++◌, length, flat_map, min, replicate, append-nil, append_assoc, length-append, refl, sym, ◌∙◌, ap, subst, arith}
use Rattle.std.specs.Prelude.{All}
use Rattle.std.specs.List.{range_with_len}
use Rattle.std.proofs.Math.Nat.{mul-le-mul_left}
use Rattle.std.proofs.lemmas.Bool.{cases_lt}
use Rattle.std.proofs.lemmas.List.{get_or_append_left}
use Rattle.std.proofs.lemmas.List.Elements.{All-nil, All-push}
use Rattle.std.proofs.lemmas.List.Concat.{flat_map-append}
use Rattle.g1_words.specs.Geometry.{Geometry}
use Rattle.g1_words.specs.Heap.{free_region}
use Rattle.g1_words.specs.declared.object.Object.{Object}
use Rattle.g1_words.specs.declared.region.Region.{Region}
use Rattle.g1_words.specs.declared.region.Kind.{Kind}
use Rattle.g1_words.specs.declared.region.Kind.TheVariants.{Free, Ordinary, HumongousFirst, Continuation}
use Rattle.g1_words.proofs.Lists.{range_split}
use Rattle.g1_text.specs.Laid.{used_addresses, own_addresses, EndToEnd, StartIn, StartInEach, AreLaid}

-- as many as a region has words, and the others from the next region on
range_cut : (b w size c : ℕ) → c ≡ b + w → range_with_len b size ≡ range_with_len b (min w size) ++ range_with_len c (size - w)
range_cut b w size c e = elim (cases_lt size w) [
  | inl lt ↦
      (let some : min w size ≡ size = omega (arith, lt) in
      let none : size - w ≡ 0 = omega (arith, lt) in
      sym (append-nil (range_with_len b size)) ∙ (λ i. range_with_len b (sym some i) ++ range_with_len c (sym none i)))
  | inr ge ↦
      (let some : min w size ≡ w = omega (arith, ge) in
      let whole : size ≡ w + (size - w) = omega (arith, ge) in
      ap (range_with_len b) whole ∙ range_split b w (size - w) ∙ (λ i. range_with_len b (sym some i) ++ range_with_len (sym e i) (size - w)))
]

used_push : (w from : ℕ) (qs : List Region) (q : Region) → used_addresses w from (qs ++ q ∷ []) ≡ used_addresses w from qs ++ range_with_len (from + length qs * w) q.top
used_push w from [] q = let e : from ≡ from + 0 * w = omega arith in append-nil (range_with_len from q.top) ∙ ap (λ b. range_with_len b q.top) e
used_push w from (x ∷ qs) q =
    let e : from + w + length qs * w ≡ from + suc (length qs) * w = omega arith in
    ap (λ l. range_with_len from x.top ++ l) (used_push w (from + w) qs q ∙ ap (λ b. used_addresses w (from + w) qs ++ range_with_len b q.top) e)
    ∙ sym (append_assoc (range_with_len from x.top) (used_addresses w (from + w) qs) (range_with_len (from + suc (length qs) * w) q.top))

-- OBJECTS THAT START in regions
end_push : (from : ℕ) (os : List Object) (to : ℕ) (o : Object) → EndToEnd from os to → o.at ≡ to → EndToEnd from (os ++ o ∷ []) (to + o.size)
end_push from [] to o e at = (at ∙ sym e, ap (λ x. x + o.size) e)
end_push from (p ∷ os) to o e at = (e.0, end_push (from + p.size) os to o e.1 at)

starts_push : (w from : ℕ) (qs : List Region) (q : Region) (os front : List Object) → StartInEach w from qs os → StartIn q.kind (from + length qs * w) q.top front → StartInEach w from (qs ++ q ∷ []) (os ++ front)
starts_push w from [] q os front e st =
    let here : from + 0 * w ≡ from = omega arith in
    (front, [], ap (λ l. l ++ front) e ∙ sym (append-nil front), subst (λ b. StartIn q.kind b q.top front) here st, refl)
starts_push w from (x ∷ qs) q os front each st =
    let here : from + suc (length qs) * w ≡ from + w + length qs * w = omega arith in (
      each.0,
      each.1 ++ front,
      ap (λ l. l ++ front) each.2 ∙ append_assoc each.0 each.1 front,
      each.3,
      starts_push w (from + w) qs q each.1 front each.4 (subst (λ b. StartIn q.kind b q.top front) here st),
    )

-- those of the last region
pub record StartLast (w from : ℕ) (qs : List Region) (q : Region) (os : List Object) : Type 0 where
  pub before : List Object
  pub last : List Object
  pub parts : os ≡ before ++ last
  pub each : StartInEach w from qs before
  pub there : StartIn q.kind (from + length qs * w) q.top last

starts_last : (w from : ℕ) (qs : List Region) (q : Region) (os : List Object) → StartInEach w from (qs ++ q ∷ []) os → StartLast w from qs q os
starts_last w from [] q os each =
    let here : from ≡ from + 0 * w = omega arith in
    record {
      before = [];
      last = each.0;
      parts = each.2 ∙ ap (λ l. each.0 ++ l) each.4 ∙ append-nil each.0;
      each = refl;
      there = subst (λ b. StartIn q.kind b q.top each.0) here each.3;
    }
starts_last w from (x ∷ qs) q os each =
    let here : from + w + length qs * w ≡ from + suc (length qs) * w = omega arith in
    let r = starts_last w (from + w) qs q each.1 each.4 in
    record {
      before = each.0 ++ r.before;
      last = r.last;
      parts = each.2 ∙ ap (λ l. each.0 ++ l) r.parts ∙ sym (append_assoc each.0 r.before r.last);
      each = (each.0, r.before, refl, each.3, r.each);
      there = subst (λ b. StartIn q.kind b q.top r.last) here r.there;
    }

all_front : {A : Type 0} (P : A → Type 0) (xs ys : List A) → All P (xs ++ ys) → All P xs
all_front P xs ys all = λ k d lt. subst P (get_or_append_left xs ys d k lt) (all k d (omega (arith, lt, length-append xs ys)))

-- WHAT IS LAID
pub laid_none : (g : Geometry) → AreLaid g [] 0 []
laid_none g = record { count = omega arith; room = omega arith; tops = All-nil (λ (q : Region). q.top ≤ g.w); words = refl; starts = refl }

module _ (g : Geometry) (os : List Object) where
  -- a region with nothing in it
  pub laid_empty : (rs : List Region) (k : Kind) → AreLaid g rs 0 os → length rs < g.n → StartIn k (0 + length rs * g.w) 0 [] → AreLaid g (rs ++ record { kind = k; top = 0; pinned = false } ∷ []) 0 os
  laid_empty rs k h lt st =
      let q : Region = record { kind = k; top = 0; pinned = false } in
      let count : length (rs ++ q ∷ []) ≡ length rs + 1 = length-append rs (q ∷ []) in
      let wide : g.w * (length rs + 1) ≤ g.w * g.n = mul-le-mul_left g.w (omega (arith, lt)) in
      let same : length (rs ++ q ∷ []) * g.w ≡ (length rs + 1) * g.w = ap (λ n. n * g.w) count in
      record {
        count = omega (arith, count, lt);
        room = omega (arith, same, wide);
        tops = All-push (λ (x : Region). x.top ≤ g.w) rs q h.tops (omega arith);
        words = h.words ∙ sym (append-nil (used_addresses g.w 0 rs ++ [])) ∙ ap (λ l. l ++ []) (sym (used_push g.w 0 rs q));
        starts = subst (StartInEach g.w 0 (rs ++ q ∷ [])) (append-nil os) (starts_push g.w 0 rs q os [] h.starts st);
      }

  -- one more ordinary object in the last region
  pub laid_room : (below : List Region) (q : Region) (o : Object) → AreLaid g (below ++ q ∷ []) 0 os → q.kind ≡ Ordinary → o.at ≡ length below * g.w + q.top → q.top + o.size ≤ g.w
      → AreLaid g (below ++ record q { top = q.top + o.size } ∷ []) 0 (os ++ o ∷ [])
  laid_room below q o h kind at fits =
      let r : Region = record q { top = q.top + o.size } in
      let b : ℕ = 0 + length below * g.w in
      let old : length (below ++ q ∷ []) ≡ length below + 1 = length-append below (q ∷ []) in
      let new : length (below ++ r ∷ []) ≡ length below + 1 = length-append below (r ∷ []) in
      let same : length (below ++ r ∷ []) * g.w ≡ length (below ++ q ∷ []) * g.w = ap (λ n. n * g.w) (new ∙ sym old) in
      let here : o.at ≡ b + q.top = omega (arith, at) in
      let first : flat_map own_addresses os ≡ used_addresses g.w 0 below ++ range_with_len b q.top = h.words ∙ append-nil (used_addresses g.w 0 (below ++ q ∷ [])) ∙ used_push g.w 0 below q in
      let more : own_addresses o ++ [] ≡ range_with_len (b + q.top) o.size = append-nil (own_addresses o) ∙ ap (λ a. range_with_len a o.size) here in
      let last = starts_last g.w 0 below q os h.starts in
      let ends : EndToEnd b last.last (b + q.top) = subst (λ k. StartIn k b q.top last.last) kind last.there in
      let end : b + q.top + o.size ≡ b + (q.top + o.size) = omega arith in
      let further : StartIn Ordinary b (q.top + o.size) (last.last ++ o ∷ []) = subst (EndToEnd b (last.last ++ o ∷ [])) end (end_push b last.last (b + q.top) o ends here) in
      record {
        count = omega (arith, h.count, old, new);
        room = omega (arith, h.room, same);
        tops = All-push (λ (x : Region). x.top ≤ g.w) below r (all_front (λ (x : Region). x.top ≤ g.w) below (q ∷ []) h.tops) fits;
        words = flat_map-append own_addresses os (o ∷ []) ∙ (λ i. first i ++ more i) ∙ append_assoc (used_addresses g.w 0 below) (range_with_len b q.top) (range_with_len (b + q.top) o.size)
            ∙ ap (λ l. used_addresses g.w 0 below ++ l) (sym (range_split b q.top o.size)) ∙ sym (used_push g.w 0 below r) ∙ sym (append-nil (used_addresses g.w 0 (below ++ r ∷ [])));
        starts = subst (StartInEach g.w 0 (below ++ r ∷ [])) (sym (append_assoc last.before last.last (o ∷ [])) ∙ ap (λ l. l ++ o ∷ []) (sym last.parts))
            (starts_push g.w 0 below r last.before (last.last ++ o ∷ []) last.each (subst (λ k. StartIn k b (q.top + o.size) (last.last ++ o ∷ [])) (sym kind) further));
      }

  -- a humongous object in a new region, and the words of it that no region has yet
  pub laid_run : (rs : List Region) (o : Object) → AreLaid g rs 0 os → length rs < g.n → o.at ≡ length rs * g.w → length rs * g.w + o.size ≤ g.n * g.w
      → AreLaid g (rs ++ record { kind = HumongousFirst; top = min g.w o.size; pinned = false } ∷ []) (o.size - g.w) (os ++ o ∷ [])
  laid_run rs o h lt at fits =
      let q : Region = record { kind = HumongousFirst; top = min g.w o.size; pinned = false } in
      let b : ℕ = 0 + length rs * g.w in
      let count : length (rs ++ q ∷ []) ≡ length rs + 1 = length-append rs (q ∷ []) in
      let wide : g.w * (length rs + 1) ≤ g.w * g.n = mul-le-mul_left g.w (omega (arith, lt)) in
      let same : length (rs ++ q ∷ []) * g.w ≡ (length rs + 1) * g.w = ap (λ n. n * g.w) count in
      let next : length (rs ++ q ∷ []) * g.w ≡ b + g.w = omega (arith, same) in
      let here : o.at ≡ b = omega (arith, at) in
      let first : flat_map own_addresses os ≡ used_addresses g.w 0 rs = h.words ∙ append-nil (used_addresses g.w 0 rs) in
      let more : own_addresses o ++ [] ≡ range_with_len b (min g.w o.size) ++ range_with_len (length (rs ++ q ∷ []) * g.w) (o.size - g.w) =
      append-nil (own_addresses o) ∙ ap (λ a. range_with_len a o.size) here ∙ range_cut b g.w o.size (length (rs ++ q ∷ []) * g.w) next in
      record {
        count = omega (arith, count, lt);
        room = omega (arith, same, wide, fits);
        tops = All-push (λ (x : Region). x.top ≤ g.w) rs q h.tops (omega arith);
        words = flat_map-append own_addresses os (o ∷ []) ∙ (λ i. first i ++ more i)
            ∙ sym (append_assoc (used_addresses g.w 0 rs) (range_with_len b (min g.w o.size)) (range_with_len (length (rs ++ q ∷ []) * g.w) (o.size - g.w)))
            ∙ ap (λ l. l ++ range_with_len (length (rs ++ q ∷ []) * g.w) (o.size - g.w)) (sym (used_push g.w 0 rs q));
        starts = starts_push g.w 0 rs q os (o ∷ []) h.starts (o, refl, here);
      }

  -- a region in which a humongous object goes on
  pub laid_more : (rs : List Region) (beyond : ℕ) → AreLaid g rs beyond os → 0 < beyond
      → AreLaid g (rs ++ record { kind = Continuation; top = min g.w beyond; pinned = false } ∷ []) (beyond - min g.w beyond) os
  laid_more rs beyond h some =
      let q : Region = record { kind = Continuation; top = min g.w beyond; pinned = false } in
      let b : ℕ = 0 + length rs * g.w in
      let count : length (rs ++ q ∷ []) ≡ length rs + 1 = length-append rs (q ∷ []) in
      let lt : length rs < g.n = elim (cases_lt (length rs) g.n) [
        | inl l ↦ l
        | inr ge ↦ (let past : g.w * g.n ≤ g.w * length rs = mul-le-mul_left g.w ge in absurd (omega (arith, past, h.room, some)))
      ] in
      let wide : g.w * (length rs + 1) ≤ g.w * g.n = mul-le-mul_left g.w (omega (arith, lt)) in
      let same : length (rs ++ q ∷ []) * g.w ≡ (length rs + 1) * g.w = ap (λ n. n * g.w) count in
      let next : length (rs ++ q ∷ []) * g.w ≡ b + g.w = omega (arith, same) in
      let here : length rs * g.w ≡ b = omega arith in
      let rest : beyond - g.w ≡ beyond - min g.w beyond = omega arith in
      record {
        count = omega (arith, count, lt);
        room = omega (arith, same, wide, h.room);
        tops = All-push (λ (x : Region). x.top ≤ g.w) rs q h.tops (omega arith);
        words = h.words ∙ ap (λ a. used_addresses g.w 0 rs ++ range_with_len a beyond) here
            ∙ ap (λ l. used_addresses g.w 0 rs ++ l) (range_cut b g.w beyond (length (rs ++ q ∷ []) * g.w) next ∙ ap (λ n. range_with_len b (min g.w beyond) ++ range_with_len (length (rs ++ q ∷ []) * g.w) n) rest)
            ∙ sym (append_assoc (used_addresses g.w 0 rs) (range_with_len b (min g.w beyond)) (range_with_len (length (rs ++ q ∷ []) * g.w) (beyond - min g.w beyond)))
            ∙ ap (λ l. l ++ range_with_len (length (rs ++ q ∷ []) * g.w) (beyond - min g.w beyond)) (sym (used_push g.w 0 rs q));
        starts = subst (StartInEach g.w 0 (rs ++ q ∷ [])) (append-nil os) (starts_push g.w 0 rs q os [] h.starts refl);
      }

  -- free regions up to the end
  pub laid_free : (m : ℕ) (rs : List Region) → AreLaid g rs 0 os → length rs + m ≤ g.n → AreLaid g (rs ++ replicate m free_region) 0 os
  laid_free zero rs h le = subst (λ l. AreLaid g l 0 os) (sym (append-nil rs)) h
  laid_free (suc m) rs h le =
      let count : length (rs ++ free_region ∷ []) ≡ length rs + 1 = length-append rs (free_region ∷ []) in
      subst (λ l. AreLaid g l 0 os) (append_assoc rs (free_region ∷ []) (replicate m free_region))
      (laid_free m (rs ++ free_region ∷ []) (laid_empty rs Free h (omega (arith, le)) refl) (omega (arith, count, le)))
