-- The words that a commit writes in place are those of the heap after.
use Rattle.std.proofs.Common.{◌≡◌, ℕ, zero, suc, ◌+◌, ◌-◌, ◌*◌, ◌/◌, ◌<◌, ◌≤◌, ◌⊎◌, inl, inr, Bool, true, false, cond, not, ◌&&◌, ◌||◌, List, [], ◌∷◌, ◌++◌, None, Some, length, get_or, map}
use Rattle.std.proofs.Common.{filter, replicate, position, flat_map, Contains, refl, sym, ◌∙◌, ap, subst, arith, leb, ltb, leb-true, ltb-true, eqb}
use Rattle.std.specs.List.{range_with_len}
use Rattle.std.proofs.lemmas.Bool.{cases_Bool, cases_lt, false≢true, not-true}
use Rattle.std.proofs.lemmas.Nat.{div-mul-add}
use Rattle.std.proofs.Math.Nat.{mul-div_left}
use Rattle.std.proofs.lemmas.List.{ext_get_or, get_or-take, get_or-replicate, length-replicate, length-take-le}
use Rattle.std.proofs.lemmas.List.FromFn.{get_or-map-range_with_len, length-map-range_with_len}
use Rattle.std.proofs.lemmas.List.Elements.{Contains-get_or}
use Rattle.g1_after.proofs.CopyWords.{copied_word}
use Rattle.g1_after.proofs.ObjectsOf.{kept_outside, region_cases}
use Rattle.g1_after.proofs.RulesMoved.{zero_moved}
use Rattle.g1_after.proofs.SameGraphs.{named_survives}
use Rattle.g1_after.proofs.ValidMoved.{other_shape, outside_word, set_shape, slot_names}
use Rattle.g1_words.specs.Copy.{is_taken, renamed, renamed_words}
use Rattle.g1_image.specs.Image.{Image}
use Rattle.g1_after.specs.Made.{image_moved, moved_word}
use Rattle.g1_words.proofs.Computed.{Contains-range}
use Rattle.g1_words.proofs.Indices.{is_free_region, range_bounds}
use Rattle.g1_words.proofs.Members.{Contains-filter, Contains-flat_map, Contains-map, and_true, any_member, filter_member, flat_map_cases, has_from_contains, Contains-from_has, map_cases}
use Rattle.g1_words.proofs.NextFit.{free_distinct}
use Rattle.g1_words.proofs.OneToOne.{outside_stays}
use Rattle.g1_words.proofs.Sound.{named_suc}
use Rattle.g1_words.proofs.Standing.{home, home_region, ordinary_word, stands}
use Rattle.g1_words.specs.Heap.{Heap, kind, object_at, objects, objects_in, region_of, regions, slots, start, top, word}
use Rattle.g1_words.specs.Layout.{forward, free_regions, kept, need, to_space}
use Rattle.g1_words.specs.Lists.{has}
use Rattle.g1_words.specs.References.{Ref, named, refs, refs_at}
use Rattle.g1_words.specs.Survivors.{in_set}
use Rattle.g1_words.specs.declared.object.Object.{Object}
use Rattle.g1_words.specs.declared.region.Kind.TheVariants.{Free, HumongousFirst, Ordinary}
use Rattle.g1_copy.specs.Gathered.{placed_words, to_space_words}
use Rattle.g1_copy.specs.Patches.{all_patches, patch}
use Rattle.g1_work.proofs.Slices.{get_or-slice_of, length-slice_of, next_slice, slices_from}
use Rattle.g1_work.specs.Regions.{slice_of}
use Rattle.g1_copy.specs.declared.fates.Fate.TheVariants.{Freed}
use Rattle.g1_copy.specs.Fates.{filled_or_kept}
use Rattle.g1_copy.specs.Slices.{by_fate, patched, slice_after, words_after}
use Rattle.g1_copy.proofs.Ground.{Ground}
use Rattle.g1_copy.proofs.InPlaceCovers.{covers}
use Rattle.g1_copy.proofs.InPlaceSlices.{Distinct-take, flat_slice, is_position, length-patched, no_position, patched_is}

not_in : (xs : List ℕ) (r : ℕ) → has xs r ≡ false → Contains xs r → ⊥
not_in xs r e m = false≢true (sym e ∙ has_from_contains xs r m)

-- objects that don't take a word have no say in it
module _ (f : ℕ → ℕ) (h : Heap) where
  past_at : (o : Object) (xs ys : List Object) (q : ℕ) (b c : Bool) → (b || c) ≡ false → (c ≡ false → moved_word f h (xs ++ ys) q ≡ moved_word f h ys q)
      → cond b (get_or (renamed_words f h o) (q - f o.at) 0) (moved_word f h (xs ++ ys) q) ≡ moved_word f h ys q
  past_at o xs ys q true c e g = absurd (false≢true (sym e))
  past_at o xs ys q false c e g = g e

  moved_word_past : (xs ys : List Object) (q : ℕ) → is_taken f xs q ≡ false → moved_word f h (xs ++ ys) q ≡ moved_word f h ys q
  moved_word_past [] ys q e = refl
  moved_word_past (o ∷ xs) ys q e = past_at o xs ys q (leb (f o.at) q && ltb q (f o.at + o.size)) (is_taken f xs q) e (moved_word_past xs ys q)

-- a patch names the new word of a slot outside the set whose target survives
pub record IsPatch (h : Heap) (set l : List ℕ) (p v : ℕ) : Type 0 where
  pub target : ℕ
  pub reference : Contains (refs h) (record { slot = p; target = target })
  pub survives : Contains l target
  pub outside : in_set h set p ≡ false
  pub value : v ≡ suc (forward h l target)

pub patch_is : (h : Heap) (set l : List ℕ) (p v : ℕ) → Contains (all_patches h set l) (p, v) → IsPatch h set l p v
patch_is h set l p v m =
    let c = map_cases (patch h l) (filter (λ e. not (in_set h set e.slot) && has l e.target) (refs h)) (p, v) m in
    let e : Ref = c.0 in
    let f = filter_member (λ e. not (in_set h set e.slot) && has l e.target) (refs h) e c.1 in
    let t = and_true (not (in_set h set e.slot)) (has l e.target) f.1 in
    let at : e.slot ≡ p = ap (λ (x : ℕ × ℕ). x.0) c.2 in
    let new : suc (forward h l e.target) ≡ v = ap (λ (x : ℕ × ℕ). x.1) c.2 in
    record {
      target = e.target;
      reference = subst (λ y. Contains (refs h) (record { slot = y; target = e.target })) at f.0;
      survives = Contains-from_has l e.target t.1;
      outside = ap (in_set h set) (sym at) ∙ not-true (in_set h set e.slot) t.0;
      value = sym new;
    }

is_patch : (h : Heap) (set l : List ℕ) (p v : ℕ) → IsPatch h set l p v → Contains (all_patches h set l) (p, v)
is_patch h set l p v k =
    let e : Ref = record { slot = p; target = k.target } in
    let test : (not (in_set h set p) && has l k.target) ≡ true = λ q. not (k.outside q) && has_from_contains l k.target k.survives q in
    let m : Contains (all_patches h set l) (p, suc (forward h l k.target)) =
    Contains-map (patch h l) (filter (λ e. not (in_set h set e.slot) && has l e.target) (refs h)) e (Contains-filter (λ e. not (in_set h set e.slot) && has l e.target) (refs h) e k.reference test) in
    subst (λ y. Contains (all_patches h set l) (p, y)) (sym k.value) m

module _ (i : Image) (set l : List ℕ) (g : Ground i set l) where
  abbrev j : Image
  j = image_moved i set l

  abbrev gathered : List ℕ
  gathered = to_space_words i.heap l

  abbrev patches : List (ℕ × ℕ)
  patches = all_patches i.heap set l

  abbrev after : ℕ → List ℕ → List ℕ
  after r xs = slice_after i.heap.geometry.w set (to_space i.heap l) gathered patches r xs

  -- a region of the set
  set_slice : (r : ℕ) → r < i.heap.geometry.n → has set r ≡ true → slice_of i.heap.geometry.w r j.heap.words ≡ after r (slice_of i.heap.geometry.w r i.heap.words)
  set_slice r lt t =
      let size : length (slice_of i.heap.geometry.w r j.heap.words) ≡ i.heap.geometry.w = length-slice_of i.heap.geometry.w r i.heap.geometry.n j.heap.words g.moved.size lt in
      let zt : top j.heap r ≡ 0 = (set_shape i set l j g.built g.room g.moved r lt t).1 in
      let zeros : slice_of i.heap.geometry.w r j.heap.words ≡ replicate i.heap.geometry.w 0 =
      ext_get_or 0 (slice_of i.heap.geometry.w r j.heap.words) (replicate i.heap.geometry.w 0) (size ∙ sym (length-replicate i.heap.geometry.w 0))
      (λ m lt'. let below : m < i.heap.geometry.w = omega arith in get_or-slice_of i.heap.geometry.w r m j.heap.words below
      ∙ zero_moved i set l j g.built g.room g.moved r m lt (omega arith) below ∙ sym (get_or-replicate i.heap.geometry.w m 0 0 below)) in
      zeros ∙ (λ q. by_fate i.heap.geometry.w gathered patches r (cond (sym t q) Freed (filled_or_kept (position (λ d. eqb d r) (to_space i.heap l)))) (slice_of i.heap.geometry.w r i.heap.words))

  -- a word of a region that was free is no word of an object outside the set
  none_outside : (r m : ℕ) → kind i.heap r ≡ Free → m < i.heap.geometry.w → (b : Bool)
      → is_taken (forward i.heap l) (filter (λ o. not (in_set i.heap set o.at)) (objects i.heap)) (r * i.heap.geometry.w + m) ≡ b
      → is_taken (forward i.heap l) (filter (λ o. not (in_set i.heap set o.at)) (objects i.heap)) (r * i.heap.geometry.w + m) ≡ false
  none_outside r m free below false e = e
  none_outside r m free below true e =
      let f : ℕ → ℕ = forward i.heap l in
      let q : ℕ = r * i.heap.geometry.w + m in
      let c = any_member (λ (o : Object). leb (f o.at) q && ltb q (f o.at + o.size)) (filter (λ o. not (in_set i.heap set o.at)) (objects i.heap)) e in
      let o : Object = c.0 in
      let k = filter_member (λ o. not (in_set i.heap set o.at)) (objects i.heap) o c.1 in
      let out : in_set i.heap set o.at ≡ false = not-true (in_set i.heap set o.at) k.1 in
      let d = and_true (leb (f o.at) q) (ltb q (f o.at + o.size)) c.2 in
      let low : f o.at ≤ q = leb-true (f o.at) q d.0 in
      let high : q < f o.at + o.size = ltb-true q (f o.at + o.size) d.1 in
      let stays : f o.at ≡ o.at = outside_stays i.heap set l g.sound g.room o.at out in
      let x : ℕ = q - o.at in
      let u = outside_word i set l j g.built g.room g.moved o x k.0 out (omega arith) in
      let whole : o.at + x ≡ q = omega arith in
      let at : region_of i.heap (o.at + x) ≡ r = ap (λ z. z / i.heap.geometry.w) whole ∙ div-mul-add r i.heap.geometry.w m below in
      absurd (u.1 (ap (kind i.heap) at ∙ free))

  -- a region of to-space
  module _ (t : ℕ) (here : t < need i.heap l) where
    abbrev goal : ℕ
    goal = get_or (free_regions i.heap) t 0

    goal_free : (kind i.heap goal ≡ Free) × (goal < i.heap.geometry.n)
    goal_free = is_free_region i.heap goal (Contains-get_or (free_regions i.heap) t 0 (omega (arith, here, g.room.room)))

    goal_word : (m : ℕ) → m < i.heap.geometry.w → word j.heap (goal * i.heap.geometry.w + m) ≡ get_or (placed_words i.heap l goal) m 0
    goal_word m lt =
        let f : ℕ → ℕ = forward i.heap l in
        let q : ℕ = goal * i.heap.geometry.w + m in
        let whole : 0 + q ≡ q = omega arith in
        let inside : q < i.heap.geometry.n * i.heap.geometry.w = omega (arith, next_slice i.heap.geometry.w goal i.heap.geometry.n goal_free.1) in
        get_or-map-range_with_len (moved_word f i.heap (kept i.heap set l)) 0 (i.heap.geometry.n * i.heap.geometry.w) q q 0 inside whole
        ∙ moved_word_past f i.heap (filter (λ o. not (in_set i.heap set o.at)) (objects i.heap)) (map (object_at i.heap) l) q
        (none_outside goal m goal_free.0 lt (is_taken f (filter (λ o. not (in_set i.heap set o.at)) (objects i.heap)) q) refl)
        ∙ sym (get_or-map-range_with_len (moved_word f i.heap (map (object_at i.heap) l)) (start i.heap goal) i.heap.geometry.w m q 0 lt refl)

    to_slice : slice_of i.heap.geometry.w goal j.heap.words ≡ after goal (slice_of i.heap.geometry.w goal i.heap.words)
    to_slice =
        let long : length (to_space i.heap l) ≡ need i.heap l = length-take-le (need i.heap l) (free_regions i.heap) g.room.room in
        let there : t < length (to_space i.heap l) = omega (arith, long, here) in
        let at : get_or (to_space i.heap l) t 0 ≡ goal = get_or-take (need i.heap l) (free_regions i.heap) t 0 here in
        let p : position (λ d. eqb d goal) (to_space i.heap l) ≡ Some t =
        subst (λ r. position (λ d. eqb d r) (to_space i.heap l) ≡ Some t) at (is_position (to_space i.heap l) t
        (Distinct-take (need i.heap l) (free_regions i.heap) (free_distinct i.heap g.sound.w_positive)) there) in
        let wide : (r : ℕ) → length (placed_words i.heap l r) ≡ i.heap.geometry.w =
        λ r. length-map-range_with_len (moved_word (forward i.heap l) i.heap (map (object_at i.heap) l)) (start i.heap r) i.heap.geometry.w in
        let size : length (slice_of i.heap.geometry.w goal j.heap.words) ≡ i.heap.geometry.w = length-slice_of i.heap.geometry.w goal i.heap.geometry.n j.heap.words g.moved.size goal_free.1 in
        let same : slice_of i.heap.geometry.w goal j.heap.words ≡ placed_words i.heap l goal =
        ext_get_or 0 (slice_of i.heap.geometry.w goal j.heap.words) (placed_words i.heap l goal) (size ∙ sym (wide goal))
        (λ m lt'. let lt : m < i.heap.geometry.w = omega arith in get_or-slice_of i.heap.geometry.w goal m j.heap.words lt ∙ goal_word m lt) in
        let from : slice_of i.heap.geometry.w t gathered ≡ placed_words i.heap l goal =
        flat_slice (placed_words i.heap l) i.heap.geometry.w wide (to_space i.heap l) t there ∙ ap (placed_words i.heap l) at in
        let off : has set goal ≡ false = elim (cases_Bool (has set goal)) [
          | inr f ↦ f
          | inl t ↦ let clash : Ordinary ≡ Free = sym (g.room.ordinary goal (Contains-from_has set goal t)) ∙ goal_free.0 in cc
        ] in
        same ∙ sym from ∙ (λ q. by_fate i.heap.geometry.w gathered patches goal (cond (sym off q) Freed (filled_or_kept (sym p q))) (slice_of i.heap.geometry.w goal i.heap.words))

  -- a patch is the word after
  patch_word : (p v : ℕ) → IsPatch i.heap set l p v → word j.heap p ≡ v
  patch_word p v k =
      let e : Ref = record { slot = p; target = k.target } in
      let o = flat_map_cases (λ o. flat_map (refs_at i.heap) (slots o)) (objects i.heap) e k.reference in
      let q = flat_map_cases (refs_at i.heap) (slots o.0) e o.2 in
      let b = map_cases (λ a. record { slot = q.0; target = a }) (named (word i.heap q.0)) e q.2 in
      let at : q.0 ≡ p = ap (λ (x : Ref). x.slot) b.2 in
      let goes : b.0 ≡ k.target = ap (λ (x : Ref). x.target) b.2 in
      let c : Contains (objects i.heap) o.0 = o.1 in
      let r = range_bounds (o.0.at + 1) o.0.refs q.0 q.1 in
      let m : ℕ = q.0 - o.0.at in
      let fits = g.sound.slots_fit o.0 c in
      let sum : o.0.at + m ≡ q.0 = omega arith in
      let out : in_set i.heap set o.0.at ≡ false = elim (cases_Bool (in_set i.heap set o.0.at)) [
        | inr f ↦ f
        | inl t ↦
            let one : kind i.heap (region_of i.heap o.0.at) ≡ Ordinary = g.room.ordinary (region_of i.heap o.0.at)
            (Contains-from_has set (region_of i.heap o.0.at) t) in
            let h = home i.heap g.built o.0 c in
            let hr = home_region i.heap g.built h.0 o.0 h.2 in
            elim h.2.2 [
              | inl a ↦
                  let same : region_of i.heap p ≡ region_of i.heap o.0.at = ap (region_of i.heap) (sym at ∙ sym sum) ∙ (ordinary_word i.heap g.built h.0 o.0 m a (omega arith)).0 ∙ sym hr in
                  absurd (false≢true (sym k.outside ∙ ap (has set) same ∙ t))
              | inr a ↦ let clash : Ordinary ≡ HumongousFirst = sym one ∙ ap (kind i.heap) hr ∙ a.kind in cc
            ]
      ] in
      let stays = outside_stays i.heap set l g.sound g.room o.0.at out in
      let w : word i.heap (o.0.at + m) ≡ suc k.target = ap (word i.heap) sum ∙ named_suc (word i.heap q.0) b.0 b.1 ∙ ap suc goes in
      elim (copied_word i set l j g.moved o.0 m (kept_outside i set l j g.sound g.room g.moved o.0 o.1 out) fits (omega arith)) [
        | inl (x, inl z) ↦ absurd (omega arith)
        | inl (x, inr z) ↦ absurd (omega arith)
        | inr x ↦
            let there : forward i.heap l o.0.at + m ≡ p = omega arith in
            ap (word j.heap) (sym there) ∙ x.2 ∙ ap (renamed (forward i.heap l)) w ∙ sym k.value
      ]

  -- a word of a region that stays is as it was, or it is patched
  other_word : (r m : ℕ) → r < i.heap.geometry.n → m < i.heap.geometry.w → has set r ≡ false → has (to_space i.heap l) r ≡ false
      → (word i.heap (r * i.heap.geometry.w + m) ≡ word j.heap (r * i.heap.geometry.w + m)) ⊎ IsPatch i.heap set l (r * i.heap.geometry.w + m) (word j.heap (r * i.heap.geometry.w + m))
  other_word r m lt below a b =
      let t = (other_shape i set l j g.built g.room g.moved r lt a b).1 in
      elim (cases_lt m (top i.heap r)) [
        | inr ge ↦ inl (g.built.zero_above r m lt ge below ∙ sym (zero_moved i set l j g.built g.room g.moved r m lt (omega arith) below))
        | inl less ↦
            let c = covers i.heap g.built r m lt less in
            let q : ℕ = c.0 in
            let o : Object = c.3 in
            let x : ℕ = c.5 in
            let at : region_of i.heap o.at ≡ q = home_region i.heap g.built q o (stands i.heap g.built q o c.4) in
            let clear : has set q ≡ false = elim c.2 [
              | inl e ↦ ap (has set) e ∙ a
              | inr two ↦ elim (cases_Bool (has set q)) [ inr f ↦ f | inl t ↦ let clash : Ordinary ≡ HumongousFirst = sym (g.room.ordinary q (Contains-from_has set q t)) ∙ two in cc ]
            ] in
            let out : in_set i.heap set o.at ≡ false = ap (has set) at ∙ clear in
            let here : Contains (objects i.heap) o = Contains-flat_map (objects_in i.heap) (regions i.heap) q o (Contains-range 0 i.heap.geometry.n q (omega arith) (let n = c.1 in omega arith)) c.4 in
            let k : Contains (kept i.heap set l) o = kept_outside i set l j g.sound g.room g.moved o here out in
            let stays = outside_stays i.heap set l g.sound g.room o.at out in
            let sum : o.at + x ≡ r * i.heap.geometry.w + m = c.7 in
            let to : forward i.heap l o.at + x ≡ r * i.heap.geometry.w + m = omega arith in
            elim (copied_word i set l j g.moved o x k (g.sound.slots_fit o here) c.6) [
              | inl y ↦ inl (ap (word i.heap) (sym sum) ∙ sym y.0 ∙ ap (word j.heap) to)
              | inr y ↦ slot_at r m o x k here y.0 y.1 sum (sym (ap (word j.heap) to) ∙ y.2) a below (word i.heap (o.at + x)) refl
            ]
      ]
    where
      slot_at : (r m : ℕ) (o : Object) (x : ℕ) → Contains (kept i.heap set l) o → Contains (objects i.heap) o → 0 < x → x ≤ o.refs → o.at + x ≡ r * i.heap.geometry.w + m
          → word j.heap (r * i.heap.geometry.w + m) ≡ renamed (forward i.heap l) (word i.heap (o.at + x)) → has set r ≡ false → m < i.heap.geometry.w → (y : ℕ) → word i.heap (o.at + x) ≡ y
          → (word i.heap (r * i.heap.geometry.w + m) ≡ word j.heap (r * i.heap.geometry.w + m)) ⊎ IsPatch i.heap set l (r * i.heap.geometry.w + m) (word j.heap (r * i.heap.geometry.w + m))
      slot_at r m o x k here p le sum w a below zero e = inl (ap (word i.heap) (sym sum) ∙ e ∙ sym (w ∙ ap (renamed (forward i.heap l)) e))
      slot_at r m o x k here p le sum w a below (suc b) e =
          let f : ℕ → ℕ = forward i.heap l in
          let names = slot_names i set l j g.built g.room g.moved o x b p le e in
          let w' : word j.heap (r * i.heap.geometry.w + m) ≡ suc (f b) = w ∙ ap (renamed f) e in
          elim (cases_Bool (in_set i.heap set b)) [
            | inr out ↦
                let stays : f b ≡ b = outside_stays i.heap set l g.sound g.room b out in
                inl (ap (word i.heap) (sym sum) ∙ e ∙ ap suc (sym stays) ∙ sym w')
            | inl t ↦
                let q : ℕ = r * i.heap.geometry.w + m in
                let v : word i.heap q ≡ suc b = ap (word i.heap) (sym sum) ∙ e in
                let there : Contains (refs_at i.heap q) (record { slot = q; target = b }) = Contains-map (λ a. record {
                  slot = q;
                  target = a;
                }) (named (word i.heap q)) b (subst (λ z. Contains (named z) b) (sym v) (zero, omega arith, refl)) in
                let ref : Contains (refs i.heap) (record { slot = q; target = b }) =
                Contains-flat_map (λ o. flat_map (refs_at i.heap) (slots o)) (objects i.heap) o (record { slot = q; target = b }) here
                (Contains-flat_map (refs_at i.heap) (slots o) q (record { slot = q; target = b }) (Contains-range (o.at + 1) o.refs q (omega arith) (omega arith)) there) in
                inr (record {
                  target = b;
                  reference = ref;
                  survives = named_survives i.heap set l g.sound g.room o b k names t;
                  outside = ap (has set) (div-mul-add r i.heap.geometry.w m below) ∙ a;
                  value = w';
                })
          ]

  other_slice : (r : ℕ) → r < i.heap.geometry.n → has set r ≡ false → has (to_space i.heap l) r ≡ false →
      slice_of i.heap.geometry.w r j.heap.words ≡ after r (slice_of i.heap.geometry.w r i.heap.words)
  other_slice r lt a b =
      let xs : List ℕ = slice_of i.heap.geometry.w r i.heap.words in
      let base : ℕ = r * i.heap.geometry.w in
      let p : position (λ d. eqb d r) (to_space i.heap l) ≡ None = no_position (to_space i.heap l) r (not_in (to_space i.heap l) r b) in
      let size : length (slice_of i.heap.geometry.w r j.heap.words) ≡ i.heap.geometry.w = length-slice_of i.heap.geometry.w r i.heap.geometry.n j.heap.words g.moved.size lt in
      let size' : length xs ≡ i.heap.geometry.w = length-slice_of i.heap.geometry.w r i.heap.geometry.n i.heap.words g.built.word_count lt in
      let same : slice_of i.heap.geometry.w r j.heap.words ≡ patched patches base xs =
      ext_get_or 0 (slice_of i.heap.geometry.w r j.heap.words) (patched patches base xs) (size ∙ sym size' ∙ sym (length-patched patches base xs))
      (λ m lt'.
      let below : m < i.heap.geometry.w = omega arith in
      get_or-slice_of i.heap.geometry.w r m j.heap.words below
      ∙ sym (patched_is patches base m (word j.heap (base + m)) xs (omega arith)
      (λ v k. sym (patch_word (base + m) v (patch_is i.heap set l (base + m) v k)))
      (elim (other_word r m lt below a b) [
        | inl e ↦ inl (get_or-slice_of i.heap.geometry.w r m i.heap.words below ∙ e)
        | inr k ↦ inr (is_patch i.heap set l (base + m) (word j.heap (base + m)) k)
      ]))) in
      same ∙ (λ q. by_fate i.heap.geometry.w gathered patches r (cond (sym a q) Freed (filled_or_kept (sym p q))) xs)

  -- each slice after is what the commit writes
  pub each_slice : (r : ℕ) → r < i.heap.geometry.n → slice_of i.heap.geometry.w r j.heap.words ≡ after r (slice_of i.heap.geometry.w r i.heap.words)
  each_slice r lt = elim (region_cases i.heap set l g.sound g.room r) [
    | inl t ↦ set_slice r lt t
    | inr (inl b) ↦ subst (λ y. slice_of i.heap.geometry.w y j.heap.words ≡ after y (slice_of i.heap.geometry.w y i.heap.words)) b.2 (to_slice b.0 b.1)
    | inr (inr b) ↦ other_slice r lt b.0 b.1
  ]

  pub words_in_place : words_after i.heap.geometry.w set (to_space i.heap l) gathered patches i.heap.words ≡ j.heap.words
  words_in_place =
      let n : length i.heap.words / i.heap.geometry.w ≡ i.heap.geometry.n = ap (λ y. y / i.heap.geometry.w) g.built.word_count ∙ mul-div_left i.heap.geometry.n g.sound.w_positive in
      ap (λ y. flat_map (λ r. after r (slice_of i.heap.geometry.w r i.heap.words)) (range_with_len 0 y)) n
      ∙ sym (slices_from (λ r. after r (slice_of i.heap.geometry.w r i.heap.words)) i.heap.geometry.w i.heap.geometry.n 0 j.heap.words g.moved.size
      (λ k lt. let z : 0 + k ≡ k = omega arith in each_slice k lt ∙ ap (λ r. after r (slice_of i.heap.geometry.w r i.heap.words)) (sym z)))
