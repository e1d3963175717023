-- The two numberings are such: by word, and by object.
use Rattle.std.proofs.Common.{◌≡◌, ◌<◌, ◌≤◌, ℕ, suc, ◌+◌, ◌-◌, ◌*◌, ◌/◌, ◌%◌, inl, inr, ◌⊎◌, Bool, false, List, [], ◌∷◌, ◌++◌, flat_map, length, get_or, replicate, Contains}
use Rattle.std.proofs.Common.{refl, sym, ap, ◌∙◌, subst, arith, true≢false}
use Rattle.std.proofs.lemmas.List.{length-replicate, flat_map_more}
use Rattle.std.specs.List.{range_with_len}
use Rattle.std.specs.Prelude.{slice_index_or, IfSome}
use Rattle.std.proofs.lemmas.List.Elements.{Contains-get_or}
use Rattle.g1_words.specs.declared.object.Object.{Object}
use Rattle.g1_words.specs.Heap.{Heap, objects, objects_in, object_at, start, regions}
use Rattle.g1_words.specs.Lists.{has}
use Rattle.g1_words.specs.Valid.{IsValid}
use Rattle.g1_words.proofs.Computed.{has_contains, in_region_has, Contains-range, range_below}
use Rattle.g1_words.proofs.Members.{Contains-map, map_cases, Contains-flat_map, flat_map_cases, Contains-from_has}
use Rattle.g1_words.proofs.Sound.{sound, has_is}
use Rattle.g1_words.specs.Numbers.{number_at}
use Rattle.g1_frontier.specs.Numbers.{BeginsIn, IsNumbering, AreStarts, and_marked, places_from}
use Rattle.g1_words.specs.Geometry.{most_words}
use Rattle.g1_words.proofs.Lists.{range_push, same_there, all_in}
use Rattle.g1_rem.specs.Starts.{IsStartsOf}
use Rattle.g1_frontier.specs.declared.scope.Numbering.{Numbering}
use Rattle.g1_frontier.specs.declared.scope.Numbering.TheVariants.{Words, Objects}
use Rattle.g1_frontier.specs.declared.scope.Scope.{Scope}
use Rattle.g1_frontier.specs.Scope.{IsScope, Covers, count_by_numbering, place_by}
use Rattle.g1_frontier.specs.Window.{AreRegions, AreWindowPositions, place, position}
use Rattle.g1_frontier.proofs.Begins.{length-marked, listed_mark, mark_listed, marked_append}
use Rattle.g1_words.proofs.Numbering.{number_rises, number_apart}
use Rattle.g1_frontier.proofs.Places.{stands, read_at, place_below, place_apart}
use Rattle.g1_frontier.proofs.Positions.{offset_is}

-- where the objects of the window begin among its words, for the first so many of its regions
abbrev pub places_to : Heap → List ℕ → ℕ → List ℕ
places_to h window n = flat_map (λ i. places_from h (i * h.geometry.w) (slice_index_or window i 0)) (range_with_len 0 n)

-- a region more of the window
pub marked_region : (h : Heap) (window : List ℕ) (n r : ℕ) (old mid new : List Bool) → mid ≡ and_marked old (places_to h window n) →
    r ≡ get_or window n 0 → new ≡ and_marked mid (places_from h (n * h.geometry.w) r) → new ≡ and_marked old (places_to h window (n + 1))
marked_region h window n r old mid new e is f =
    let g : ℕ → List ℕ = λ i. places_from h (i * h.geometry.w) (get_or window i 0) in
    let plus : suc n ≡ n + 1 = omega arith in
    let none : n ≡ 0 + n = omega arith in
    let more : places_to h window n ++ g n ≡ places_to h window (n + 1) =
    flat_map_more g [] (range_with_len 0 n) n ∙ ap (flat_map g) (ap (λ k. range_with_len 0 n ++ k ∷ []) none ∙ range_push 0 n ∙ ap (range_with_len 0) plus) in
    f ∙ ap (λ r. and_marked mid (places_from h (n * h.geometry.w) r)) is ∙ ap (λ l. and_marked l (g n)) e ∙ sym (marked_append old (places_to h window n) (g n)) ∙ ap (and_marked old) more

module _ (h : Heap) (window : List ℕ) (valid : IsValid h) (rising : AreRegions h window) where
  abbrev w : ℕ
  w = h.geometry.w

  some_words : 0 < h.geometry.w
  some_words = omega (arith, valid.limits.w_least)

  -- an object stands among those of its region
  in_region : (a : ℕ) → Contains (objects h) (object_at h a) → Contains (objects_in h (a / h.geometry.w)) (object_at h a)
  in_region a c =
      let m = flat_map_cases (objects_in h) (regions h) (object_at h a) c in
      let home : a / h.geometry.w ≡ m.0 = (sound h valid).in_region m.0 (object_at h a) m.2 in
      subst (λ r. Contains (objects_in h r) (object_at h a)) (sym home) m.2

  -- where it begins is listed
  begin_listed : (a : ℕ) → BeginsIn h window a → Contains (places_to h window (length window)) (place h window a)
  begin_listed a b =
      let r : ℕ = a / w in
      let i : ℕ = position window r in
      let s = stands window r (Contains-from_has window r b.0) in
      let g : ℕ → List ℕ = λ i. places_from h (i * h.geometry.w) (get_or window i 0) in
      let there : Contains (objects_in h (get_or window i 0)) (object_at h a) = subst (λ r. Contains (objects_in h r) (object_at h a)) (sym s.1) (in_region a b.1) in
      let f : Object → ℕ = λ o. i * h.geometry.w + (o.at - start h (get_or window i 0)) in
      let spot : f (object_at h a) ≡ place h window a = ap (λ x. i * w + (a - x * w)) s.1 ∙ ap (λ x. i * w + x) (offset_is w a).1 in
      Contains-flat_map g (range_with_len 0 (length window)) i (place h window a) (Contains-range 0 (length window) i (omega arith) (omega (arith, s.0)))
      (subst (Contains (g i)) spot (Contains-map f (objects_in h (get_or window i 0)) (object_at h a) there))

  -- and nothing else is
  listed_begin : (p : ℕ) → Contains (places_to h window (length window)) p → (a : ℕ) × BeginsIn h window a × (place h window a ≡ p)
  listed_begin p i =
      let g : ℕ → List ℕ = λ i. places_from h (i * h.geometry.w) (get_or window i 0) in
      let m = flat_map_cases g (range_with_len 0 (length window)) p i in
      let n : ℕ = m.0 in
      let r : ℕ = get_or window n 0 in
      let lt : n < length window = omega (arith, range_below 0 (length window) n m.1) in
      let f : Object → ℕ = λ o. n * h.geometry.w + (o.at - start h (get_or window n 0)) in
      let q = map_cases f (objects_in h r) p m.2 in
      let o : Object = q.0 in
      let home : o.at / w ≡ r = (sound h valid).in_region r o q.1 in
      let low : r < h.geometry.n = all_in (λ x. x < h.geometry.n) window r rising.below (Contains-get_or window n 0 lt) in
      let has_it = in_region_has h r o valid.shaped low q.1 in
      let at = read_at window r n rising.rise lt refl in
      let spot : place h window o.at ≡ f o =
      ap (λ x. position window x * w + o.at % w) home ∙ ap (λ x. x * w + o.at % w) (sym at.1) ∙ ap (λ x. n * w + x) (sym (offset_is w o.at).1) ∙ ap (λ x. n * w + (o.at - x * w)) home in
      (o.at, (ap (has window) home ∙ at.0, subst (Contains (objects h)) (has_is h o valid has_it) (has_contains h o has_it)), spot ∙ q.2)

  -- the marks of all its regions are those of the window
  pub starts_marked : (n : ℕ) (starts : List Bool) → length window * h.geometry.w ≤ n → starts ≡ and_marked (replicate n false) (places_to h window (length window)) → AreStarts h window starts
  starts_marked n starts room e =
      let long : length starts ≡ n = ap length e ∙ length-marked (replicate n false) (places_to h window (length window)) ∙ length-replicate n false in
      record {
        words = omega (arith, room, long);
        each = λ a b.
            let low = place_below h window some_words a b.0 in
            ap (λ l. get_or l (place h window a) false) e
            ∙ listed_mark (replicate n false) (places_to h window (length window)) (place h window a) (omega (arith, low, room, length-replicate n false)) (begin_listed a b);
        only = λ p t. elim (mark_listed (replicate n false) (places_to h window (length window)) p (sym (ap (λ l. get_or l p false) e) ∙ t)) [
          | inl k ↦ absurd (true≢false (sym k ∙ same_there false n p))
          | inr i ↦ listed_begin p i
        ];
      }

  -- ---- the numberings

  -- a place for each word of the window
  pub numbered_by_word : IsNumbering h window (length window * h.geometry.w) (place h window)
  numbered_by_word = record {
    below = λ a b. place_below h window some_words a b.0;
    apart = λ a b c d e. place_apart h window some_words a b c.0 d.0 e;
  }

  -- a place for each object of the window
  pub numbered_by_object : (starts : List Bool) → AreStarts h window starts → IsNumbering h window (number_at starts (length starts)) (λ a. number_at starts (place h window a))
  numbered_by_object starts s =
      let inside : (a : ℕ) → BeginsIn h window a → place h window a < length starts = λ a b. let low = place_below h window some_words a b.0 in omega (arith, low, s.words) in
      record {
        below = λ a b. number_rises starts (place h window a) (length starts) (inside a b) (inside a b) (s.each a b);
        apart = λ a b c d e. place_apart h window some_words a b c.0 d.0
            (number_apart starts (place h window b) (place h window a) (inside b d) (inside a c) (s.each b d) (s.each a c) e);
      }

-- ---- scopes

-- the parts of a scope, except its numbering
pub record HasParts (s : Scope) : Type 0 where
  pub valid : IsValid s.heap.now
  pub starts : IfSome s.starts (λ t. IsStartsOf s.heap.now t.now)
  pub regions : AreRegions s.heap.now s.window.now
  pub positions : AreWindowPositions s.window.now s.positions.now
  pub count : length s.positions.now ≡ s.heap.now.geometry.n

pub scope_by_word : (s : Scope) → s.numbering.now ≡ Words → HasParts s → IsScope s
scope_by_word s e p =
    let words : ℕ = length s.window.now * s.heap.now.geometry.w in
    record {
      valid = p.valid;
      starts = p.starts;
      regions = p.regions;
      positions = p.positions;
      count = p.count;
      covers = subst (λ (n : Numbering). Covers n words) (sym e) tt;
      numbers =
          subst (λ (n : Numbering). IsNumbering s.heap.now s.window.now (count_by_numbering n words) (λ a. place_by n (place s.heap.now s.window.now a))) (sym e)
          (numbered_by_word s.heap.now s.window.now p.valid p.regions);
    }

pub scope_by_object : (s : Scope) (starts : List Bool) → s.numbering.now ≡ Objects starts → AreStarts s.heap.now s.window.now starts → length starts ≤ most_words → HasParts s → IsScope s
scope_by_object s starts e are few p =
    let words : ℕ = length s.window.now * s.heap.now.geometry.w in
    record {
      valid = p.valid;
      starts = p.starts;
      regions = p.regions;
      positions = p.positions;
      count = p.count;
      covers = subst (λ (n : Numbering). Covers n words) (sym e) (are.words, few);
      numbers =
          subst (λ (n : Numbering). IsNumbering s.heap.now s.window.now (count_by_numbering n words) (λ a. place_by n (place s.heap.now s.window.now a))) (sym e)
          (numbered_by_object s.heap.now s.window.now p.valid p.regions starts are);
    }

-- one or the other
pub scope_by_either : (s : Scope) → HasParts s →
    (s.numbering.now ≡ Words) ⊎ ((starts : List Bool) × (s.numbering.now ≡ Objects starts) × AreStarts s.heap.now s.window.now starts × (length starts ≤ most_words)) → IsScope s
scope_by_either s p (inl e) = scope_by_word s e p
scope_by_either s p (inr q) = scope_by_object s q.0 q.1 q.2 q.3 p
