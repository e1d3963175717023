-- A pause leaves one image and no other.
use Rattle.std.proofs.Common.{◌≡◌, ℕ, ◌+◌, ◌-◌, ◌<◌, ◌≤◌, Bool, true, false, ◌&&◌, List, get_or, map, Contains, refl, sym, ◌∙◌, ap, subst, arith, leb, ltb, leb-true, ltb-true}
use Rattle.std.proofs.lemmas.List.{ext_get_or}
use Rattle.std.proofs.lemmas.List.FromFn.{get_or-map-range_with_len}
use Rattle.std.proofs.lemmas.Bool.{and_parts}
use Rattle.g1_words.specs.Heap.{Heap, word, regions}
use Rattle.g1_words.specs.Survivors.{seeds, children}
use Rattle.g1_words.specs.Layout.{forward, kept}
use Rattle.g1_image.specs.Image.{Image}
use Rattle.g1_words.specs.Copy.{is_taken, renamed_words, IsCopy}
use Rattle.g1_after.specs.Moved.{remembered_moved, IsMoved, Moved}
use Rattle.g1_words.proofs.Members.{any_member}
use Rattle.g1_words.proofs.Unique.{breadth_first_unique}
use Rattle.g1_words.specs.declared.object.Object.{Object}

-- a word of a moved object
pub word_from_copy : (f : ℕ → ℕ) (h j : Heap) (o : Object) (q : ℕ) → IsCopy f h j o → f o.at ≤ q → q < f o.at + o.size → word j q ≡ get_or (renamed_words f h o) (q - f o.at) 0
word_from_copy f h j o q copy low high =
    sym (get_or-map-range_with_len (word j) (f o.at) o.size (q - f o.at) q 0 (omega arith) (omega arith)) ∙ ap (λ xs. get_or xs (q - f o.at) 0) copy

module _ (i : Image) (set l : List ℕ) (j k : Image) (a : IsMoved i set l j) (b : IsMoved i set l k) where
  same_word_at : (q : ℕ) (t : Bool) → is_taken (forward i.heap l) (kept i.heap set l) q ≡ t → word j.heap q ≡ word k.heap q
  same_word_at q false e = a.cleared q e ∙ sym (b.cleared q e)
  same_word_at q true e =
      let f : ℕ → ℕ = forward i.heap l in
      let m = any_member (λ o. leb (f o.at) q && ltb q (f o.at + o.size)) (kept i.heap set l) e in
      let o : Object = m.0 in
      let both = and_parts (leb (f o.at) q) (ltb q (f o.at + o.size)) m.2 in
      let low : f o.at ≤ q = leb-true (f o.at) q both.0 in
      let high : q < f o.at + o.size = ltb-true q (f o.at + o.size) both.1 in
      let c : Contains (kept i.heap set l) o = m.1 in
      word_from_copy f i.heap j.heap o q (a.copies o c) low high ∙ sym (word_from_copy f i.heap k.heap o q (b.copies o c) low high)

  same_words : j.heap.words ≡ k.heap.words
  same_words = ext_get_or 0 j.heap.words k.heap.words (a.size ∙ sym b.size) (λ q lt. same_word_at q (is_taken (forward i.heap l) (kept i.heap set l) q) refl)

  same_heap : j.heap ≡ k.heap
  same_heap = λ t. record {
    geometry = (a.geometry ∙ sym b.geometry) t;
    words = same_words t;
    regions = (a.table ∙ sym b.table) t;
    roots = (a.roots ∙ sym b.roots) t;
    current = (a.current ∙ sym b.current) t;
  }

  same_remembered : j.remembered ≡ k.remembered
  same_remembered = a.remembered ∙ ap (λ h. map (remembered_moved i set l h) (regions i.heap)) same_heap ∙ sym b.remembered

  pub same_image : j ≡ k
  same_image = λ t. record {
    heap = same_heap t;
    remembered = same_remembered t;
    log = (a.log ∙ sym b.log) t;
  }

pub moved_unique : (i : Image) (set : List ℕ) (j k : Image) → Moved i set j → Moved i set k → j ≡ k
moved_unique i set j k a b =
    let e : b.0 ≡ a.0 = breadth_first_unique (seeds i.heap set) (children i.heap set) b.0 a.0 b.1 a.1 in
    same_image i set a.0 j k a.2 (subst (λ l. IsMoved i set l k) e b.2)
