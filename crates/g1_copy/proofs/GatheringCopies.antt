-- How a copy is written: the words of the object first, then each slot's new word.
use Rattle.std.proofs.Common.{◌≡◌, ℕ, suc, ◌+◌, ◌*◌, ◌/◌, ◌%◌, ◌^◌, ◌<◌, ◌≤◌, ◌⊎◌, inl, inr, true, false, List, length, get_or, set, take, drop, Contains, refl, sym, ◌∙◌, ap, subst}
use Rattle.std.proofs.Common.{arith, div-add-mod', mod-lt}
use Rattle.std.proofs.Math.Nat.{mul-le-mul_right}
use Rattle.std.proofs.lemmas.Bool.{cases_Bool, cases_lt}
use Rattle.std.proofs.lemmas.List.{ext_get_or, get_or-drop, get_or-take, get_or-set_same, get_or-set_other, length-set}
use Rattle.g1_words.specs.Geometry.{most_words}
use Rattle.g1_words.proofs.Bounds.{object_within}
use Rattle.g1_words.proofs.Computed.{contains_has, has_contains}
use Rattle.g1_words.proofs.Indices.{is_free_region, taken_in}
use Rattle.g1_words.proofs.Members.{Contains-from_has, has_from_contains}
use Rattle.g1_words.proofs.OneToOne.{moved_stays}
use Rattle.g1_words.proofs.Sound.{sound, w_positive}
use Rattle.g1_words.specs.Heap.{Heap, object_at, objects, region_of, word}
use Rattle.g1_words.specs.Layout.{forward, free_regions, moved_to, need, places}
use Rattle.g1_words.specs.Lists.{has}
use Rattle.g1_words.specs.Valid.{IsReference, IsValid}
use Rattle.g1_words.specs.declared.object.Object.{Object}
use Rattle.g1_after.proofs.CopyWords.{length-renamed_words, renamed_word}
use Rattle.g1_words.specs.Copy.{renamed, renamed_words}
use Rattle.g1_layout.proofs.Stretches.{within_region}
use Rattle.g1_layout.specs.Placed.{CanPlace}
use Rattle.g1_layout.specs.Plan.{Plan}
use Rattle.g1_copy.specs.Plans.{IsPlanOf}
use Rattle.g1_copy.proofs.Plans.{places_of_plan}

-- the first n slots are renamed, and the other words are as they were
pub record Renaming (f : ℕ → ℕ) (before : List ℕ) (n : ℕ) (words : List ℕ) : Type 0 where
  pub count : length words ≡ length before
  pub slots : (k : ℕ) → 0 < k → k ≤ n → get_or words k 0 ≡ renamed f (get_or before k 0)
  pub rest : (k : ℕ) → (k ≡ 0) ⊎ (n < k) → get_or words k 0 ≡ get_or before k 0

pub Renaming-start : (f : ℕ → ℕ) (before : List ℕ) → Renaming f before 0 before
Renaming-start f before = record { count = refl; slots = λ k some none. absurd (omega arith); rest = λ k off. refl }

pub Renaming-step : (f : ℕ → ℕ) (before : List ℕ) (n x : ℕ) (words : List ℕ) → n + 1 < length before → x ≡ renamed f (get_or words (n + 1) 0) → Renaming f before n words
    → Renaming f before (n + 1) (set words (n + 1) x)
Renaming-step f before n x words lt e w = record {
  count = length-set words (n + 1) x ∙ w.count;
  slots = λ k some le. elim (cases_lt k (n + 1)) [
    | inl less ↦ get_or-set_other words (n + 1) k x 0 (λ g. omega arith) ∙ w.slots k some (omega arith)
    | inr ge ↦
        let same : k ≡ n + 1 = omega arith in
        let there : n + 1 < length words = omega (arith, w.count) in
        ap (λ j. get_or (set words (n + 1) x) j 0) same ∙ get_or-set_same words (n + 1) x 0 there ∙ e ∙ ap (renamed f) (w.rest (n + 1) (inr (omega arith)) ∙ ap (λ j. get_or before j 0) (sym same))
  ];
  rest = λ k off. elim off [
    | inl first ↦ get_or-set_other words (n + 1) k x 0 (λ g. omega arith) ∙ w.rest k (inl first)
    | inr past ↦ get_or-set_other words (n + 1) k x 0 (λ g. omega arith) ∙ w.rest k (inr (omega arith))
  ];
}

-- an object's words, then its slots renamed, are its copy
pub renamed_is_copy : (f : ℕ → ℕ) (h : Heap) (o : Object) (n : ℕ) (xs ys : List ℕ) → o.refs < o.size → n ≡ o.size → xs ≡ take n (drop o.at h.words) → length ys ≡ o.size
    → ((k : ℕ) → 0 < k → k ≤ o.refs → get_or ys k 0 ≡ renamed f (get_or xs k 0)) → ((k : ℕ) → (k ≡ 0) ⊎ (o.refs < k) → get_or ys k 0 ≡ get_or xs k 0) → ys ≡ renamed_words f h o
renamed_is_copy f h o n xs ys fits whole from count slots rest =
    ext_get_or 0 ys (renamed_words f h o) (count ∙ sym (length-renamed_words f h o fits)) (λ k lt.
    let read : get_or xs k 0 ≡ word h (o.at + k) = ap (λ zs. get_or zs k 0) from ∙ get_or-take n (drop o.at h.words) k 0 (omega arith) ∙ get_or-drop o.at h.words k 0 in
    elim (renamed_word f h o k fits (omega arith)) [
      | inl stays ↦ rest k stays.1 ∙ read ∙ sym stays.0
      | inr moves ↦ slots k moves.0 moves.1 ∙ ap (renamed f) read ∙ sym moves.2
    ])

-- ---- what is known of survivors

-- an object's words are there, its slots among them, and f renames these to words
pub record IsThere (h : Heap) (f : ℕ → ℕ) (o : Object) : Type 0 where
  pub object : Contains (objects h) o
  pub within : o.at + o.size ≤ length h.words
  pub few : length h.words ≤ most_words
  pub refs_fit : o.refs < o.size
  pub small : o.size ≤ h.geometry.w
  pub slots : (k : ℕ) → 0 < k → k ≤ o.refs → renamed f (word h (o.at + k)) < 2 ^ 64

module _ (h : Heap) (set l : List ℕ) (valid : IsValid h) (can : CanPlace h set l) (room : need h l ≤ length (free_regions h)) where
  -- what lies in the heap goes to a place in the heap
  pub forward_below : (a : ℕ) → a < h.geometry.n * h.geometry.w → forward h l a < h.geometry.n * h.geometry.w
  forward_below a lt = elim (cases_Bool (has l a)) [
    | inl t ↦
        let k = within_region h set l valid can room a (Contains-from_has l a t) in
        let free = is_free_region h (region_of h (forward h l a)) (taken_in (need h l) (free_regions h) (region_of h (forward h l a)) k.0) in
        let parts : forward h l a / h.geometry.w * h.geometry.w + forward h l a % h.geometry.w ≡ forward h l a = div-add-mod' (forward h l a) h.geometry.w in
        let below : (forward h l a / h.geometry.w + 1) * h.geometry.w ≤ h.geometry.n * h.geometry.w = mul-le-mul_right h.geometry.w (omega (arith, free.1)) in
        let offset : forward h l a % h.geometry.w < h.geometry.w = mod-lt (forward h l a) (w_positive h valid) in
        omega (arith, parts, below, offset)
    | inr f ↦
        let stays : forward h l a ≡ a = moved_stays l (places h l) a (λ i. let clash : true ≡ false = sym (has_from_contains l a i) ∙ f in cc) in
        omega arith
  ]

  reference_fits : (x : ℕ) → IsReference h x → renamed (forward h l) x < 2 ^ 64
  reference_fits x (inl e) = subst (λ y. renamed (forward h l) y < 2 ^ 64) (sym e) (omega arith)
  reference_fits x (inr (o, there, e)) =
      let s : x ≡ suc o.at = omega (arith, e) in
      let inside = object_within h valid o there in
      let some = (sound h valid).slots_fit o (has_contains h o there) in
      let b : forward h l o.at < h.geometry.n * h.geometry.w = forward_below o.at (omega arith) in
      let most = valid.limits.words_most in
      subst (λ y. renamed (forward h l) y < 2 ^ 64) (sym s) (omega arith)

  pub survivor_there : (o : Object) → o ≡ object_at h o.at → Contains l o.at → IsThere h (forward h l) o
  survivor_there o e c =
      let one : Contains (objects h) o = subst (Contains (objects h)) (ap (object_at h) c.2 ∙ sym e) (can.objects c.0 o.at c.1) in
      let there = contains_has h o valid.shaped one in
      let inside = object_within h valid o there in
      let refs = (sound h valid).slots_fit o one in
      let plain = can.ordinary (region_of h o.at) (subst (λ a. Contains set (region_of h a)) c.2 (can.in_set c.0 o.at c.1)) in
      let fits = (sound h valid).fits o one plain in
      let count = valid.word_count in
      let most = valid.limits.words_most in
      record {
        object = one;
        within = omega arith;
        few = omega arith;
        refs_fit = refs;
        small = fits.1;
        slots = λ k some le. reference_fits (word h (o.at + k)) (valid.slots o (o.at + k) there (omega arith, omega arith));
      }

pub plan_there : (h : Heap) (p : Plan) (o : Object) → IsValid h → IsPlanOf h p → o ≡ object_at h o.at → Contains p.survivors o.at → IsThere h (moved_to p.survivors p.places) o
plan_there h p o valid made e c =
    subst (λ ps. IsThere h (moved_to p.survivors ps) o) (sym (places_of_plan h p made)) (survivor_there h p.set p.survivors valid made.placeable made.room o e c)
