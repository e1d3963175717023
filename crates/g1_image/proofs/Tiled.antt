-- Whether objects fill some words.
use Rattle.std.proofs.Common.{◌≡◌, ◌≤◌, ◌<◌, ℕ, suc, ◌+◌, ◌*◌, ◌^◌, List, [], ◌∷◌, ◌++◌, slice_index, arith, refl, sym, ap, subst, ◌∙◌}
use Rattle.std.specs.Prelude.{All}
use Rattle.std.proofs.lemmas.List.Elements.{All-push}
use Rattle.g1_words.specs.declared.object.Object.{Object}
use Rattle.g1_words.specs.Valid.{IsObject, Tiles}
use Rattle.g1_words.proofs.Tiling.{Tiles-le, Tiles-append}
use Rattle.g1_image.specs.Draft.{IsTiled}

pub record Checked (words : List ℕ) (from to w at : ℕ) : Type 0 where
  pub order : at ≤ to
  pub passed : IsTiled words from at w
  pub ahead : IsTiled words from to w → IsTiled words at to w

pub Checked-start : (words : List ℕ) (from to w : ℕ) → from ≤ to → Checked words from to w from
Checked-start words from to w le = record { order = le; passed = ([], refl, λ d i lt. absurd (omega arith)); ahead = λ t. t }

-- what stands at the front
pub front : (words : List ℕ) (from to w : ℕ) → IsTiled words from to w → from < to →
    (o : Object) × (o.at ≡ from) × IsObject words o × (4 * o.size ≤ 3 * w) × IsTiled words (from + o.size) to w
front words from to w (os, t, small) lt = of os t small where
  of : (os : List Object) → Tiles words from os to → All (λ o. 4 * o.size ≤ 3 * w) os →
      (o : Object) × (o.at ≡ from) × IsObject words o × (4 * o.size ≤ 3 * w) × IsTiled words (from + o.size) to w
  of [] t small = absurd (omega arith)
  of (o ∷ os) t small = (o, t.0, t.1, small 0 o (omega arith), (os, t.2, λ k d l. small (suc k) d (omega arith)))

-- the object that stands there is the one that was read
pub header_is : (words : List ℕ) (at : ℕ) (q : Object) → slice_index words at ≡ q.size * 2 ^ 32 + q.refs → q.refs < 2 ^ 32 → q.size < 2 ^ 32 →
    (o : Object) → o.at ≡ at → IsObject words o → (o.size ≡ q.size) × (o.refs ≡ q.refs)
header_is words at q word refs size o e i =
    let h : o.size * 2 ^ 32 + o.refs ≡ q.size * 2 ^ 32 + q.refs = sym i.header ∙ ap (λ a. slice_index words a) e ∙ word in
    (omega (arith, h, i.refs_fit, i.size_fits, refs, size), omega (arith, h, i.refs_fit, i.size_fits, refs, size))

pub read_object : (words : List ℕ) (at : ℕ) (q : Object) → q.at ≡ at → slice_index words at ≡ q.size * 2 ^ 32 + q.refs → q.size < 2 ^ 32 → q.refs < q.size → IsObject words q
read_object words at q q_at word size fits = record { header = ap (λ a. slice_index words a) q_at ∙ word; refs_fit = fits; size_fits = size }

module _ (words : List ℕ) (from to w at : ℕ) (q : Object) (lt : at < to) (q_at : q.at ≡ at) (word : slice_index words at ≡ q.size * 2 ^ 32 + q.refs)
    (refs : q.refs < 2 ^ 32) (size : q.size < 2 ^ 32) where
  is_read : (o : Object) → o.at ≡ at → IsObject words o → (o.size ≡ q.size) × (o.refs ≡ q.refs)
  is_read o e i = header_is words at q word refs size o e i

  pub read_fits : IsTiled words at to w → (q.refs < q.size) × (4 * q.size ≤ 3 * w) × (at + q.size ≤ to)
  read_fits t =
      let f = front words at to w t lt in
      let s = is_read f.0 f.1 f.2 in
      (omega (arith, s.0, s.1, f.2.refs_fit), omega (arith, s.0, f.3), omega (arith, s.0, Tiles-le words (at + f.0.size) f.4.0 to f.4.1))

  pub Checked-step : Checked words from to w at → q.refs < q.size → 4 * q.size ≤ 3 * w → at + q.size ≤ to → Checked words from to w (at + q.size)
  Checked-step c rf small le =
      let i : IsObject words q = read_object words at q q_at word size rf in
      record {
        order = le;
        passed = (
          c.passed.0 ++ q ∷ [],
          Tiles-append words from c.passed.0 at (q ∷ []) (at + q.size) c.passed.1 (q_at, i, refl),
          All-push (λ (o : Object). 4 * o.size ≤ 3 * w) c.passed.0 q c.passed.2 small,
        );
        ahead = λ t.
            let f = front words at to w (c.ahead t) lt in
            let s = is_read f.0 f.1 f.2 in
            subst (λ x. IsTiled words (at + x) to w) s.0 f.4;
      }

pub Checked-end : (words : List ℕ) (from to w at : ℕ) → Checked words from to w at → to ≤ at → IsTiled words from to w
Checked-end words from to w at c le = let e : at ≡ to = omega (arith, c.order) in subst (λ x. IsTiled words from x w) e c.passed

pub tiled_as : (words words2 : List ℕ) (from from2 to to2 w w2 : ℕ) → words ≡ words2 → from ≡ from2 → to ≡ to2 → w ≡ w2 → IsTiled words from to w → IsTiled words2 from2 to2 w2
tiled_as words words2 from from2 to to2 w w2 a b c d t =
    subst (λ x. IsTiled words2 from2 to2 x) d (subst (λ x. IsTiled words2 from2 x w) c (subst (λ x. IsTiled words2 x to w) b (subst (λ x. IsTiled x from to w) a t)))
