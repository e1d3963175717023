-- The sets that follow from the references, slot by slot, and where the words of objects stand in the list of used words.
use Rattle.std.proofs.Common.{◌≡◌, ◌≢◌, ◌≤◌, ◌<◌, inl, inr, ℕ, zero, suc, ◌+◌, ◌-◌, ◌*◌, ◌/◌, ◌%◌, ◌^◌, Bool, true, false, List, [], ◌∷◌, ◌++◌, length, slice_index, slice_index_or}
use Rattle.std.proofs.Common.{Vec, Global, get_or, get_or-set_same, get_or-set_other, map, take, drop, flat_map, replicate, Contains, refl, sym, ap, subst, ◌∙◌, arith, eqb, eqb-true, eq-eqb, length-take, length-drop, div-add-mod', mod-lt}
use Rattle.std.specs.Prelude.{All, Some, None}
use Rattle.std.specs.List.{range_with_len}
use Rattle.std.proofs.lemmas.Bool.{cases_lt, false≢true}
use Rattle.std.proofs.lemmas.List.{get_or_append_left, get_or-append-add, get_or-take, get_or-drop, length-replicate, get_or-replicate, take-append-drop, length-map}
use Rattle.std.proofs.Math.ListN.{set, length-set}
use Rattle.std.proofs.lemmas.List.FromFn.{fill_by_all, get_or-map-range_with_len}
use Rattle.std.proofs.lemmas.Nat.{div-mul-add}
use Rattle.std.proofs.Math.Nat.{mul-le-mul_left, mul-le-mul_right, div-mul-le_self}
use Rattle.std.proofs.lemmas.List.Elements.{Contains-append_right}
use Rattle.g1_words.specs.declared.object.Object.{Object}
use Rattle.g1_words.specs.declared.region.Region.{Region}
use Rattle.g1_words.specs.declared.region.Kind.TheVariants.{Ordinary, HumongousFirst}
use Rattle.g1_words.specs.Heap.{Heap, word, region, region_of, card_of, start, free_region, top, object_at, objects, objects_by, objects_in, slots}
use Rattle.g1_words.specs.Lists.{has}
use Rattle.g1_words.specs.References.{Ref, named, refs, refs_at}
use Rattle.g1_words.specs.Valid.{IsValid, IsReference, Tiles}
use Rattle.g1_words.proofs.Bounds.{object_within}
use Rattle.g1_words.proofs.Computed.{contains_has, has_contains, in_region_has, range_above, range_below}
use Rattle.g1_words.proofs.Members.{Contains-flat_map, flat_map_cases, Contains-map, has_from_contains}
use Rattle.g1_words.proofs.Objects.{ordinary_top, tops_fit}
use Rattle.g1_words.proofs.Shapes.{built}
use Rattle.g1_words.proofs.Sound.{sound}
use Rattle.g1_words.proofs.Standing.{stands, word_used}
use Rattle.g1_image.specs.Image.{Image, IsImage, remembered_of, used_words}
use Rattle.g1_image.specs.Cards.{exact}
use Rattle.g1_image.proofs.Covers.{exact_tells}
use Rattle.g1_rem.specs.Ahead.{is_known, AreKnown, LeadAhead}
use Rattle.g1_rem.specs.Leads.{IsLedInto}
use Rattle.g1_rem.specs.Marks.{objects_from}
use Rattle.g1_rem.specs.Slots.{all_slots}
use Rattle.g1_rem.specs.Starts.{card_count}
use Rattle.g1_rem.proofs.Bare.{target_there}
use Rattle.g1_rem.proofs.Entering.{leads_none, leads_some}
use Rattle.g1_rem.proofs.Filled.{Tiles-none, ordinary_fills, humongous_fills, row_front, row_rest, row_step}
use Rattle.g1_rem.proofs.Leading.{lead_start, lead_end, all_exact, pass_other, pass_same, push, exact_below}
use Rattle.g1_rem.proofs.Marks.{left_start}
use Rattle.g1_rem.proofs.Next.{NextOf}
use Rattle.g1_text.proofs.Gathering.{map_at}
use Rattle.g1_text.specs.Covered.{AreExact, LeadEach, HasWords, IsAdded, IsLastNow}

-- ---- where the words of objects stand

-- how many words of these regions, of this width, are not used
abbrev pub unused_in : ℕ → List Region → ℕ
unused_in w [] = 0
unused_in w (q ∷ qs) = (w - q.top) + unused_in w qs

-- the words of the used regions, one by one
used_at : (w : ℕ) (qs : List Region) (xs : List ℕ) (r j : ℕ) → All (λ q. q.top ≤ w) qs → length qs * w ≤ length xs → r < length qs → j < (slice_index_or qs r free_region).top
    → (unused_in w (take r qs) ≤ r * w) × (slice_index (used_words w qs xs) (r * w + j - unused_in w (take r qs)) ≡ slice_index xs (r * w + j))
used_at w [] xs r j tops long lt less = absurd (omega (arith, lt))
used_at w (q ∷ qs) xs zero j tops long lt less =
    let fits : q.top ≤ w = tops 0 q (omega arith) in
    let taken = length-take q.top xs in
    let inside : j < length (take q.top xs) = omega (arith, taken, fits, less, long) in
    let place : 0 * w + j - 0 ≡ j = omega arith in
    let same : j ≡ 0 * w + j = omega arith in (
      omega arith,
      ap (slice_index (take q.top xs ++ used_words w qs (drop w xs))) place ∙ get_or_append_left (take q.top xs) (used_words w qs (drop w xs)) 0 j inside ∙ get_or-take q.top xs j 0 less
          ∙ ap (slice_index xs) same,
    )
used_at w (q ∷ qs) xs (suc r) j tops long lt less =
    let fits : q.top ≤ w = tops 0 q (omega arith) in
    let u : ℕ = unused_in w (take r qs) in
    let left : length (drop w xs) ≡ length xs - w = length-drop w xs in
    let rest = used_at w qs (drop w xs) r j (λ k d l. tops (suc k) d (omega (arith, l))) (omega (arith, left, long)) (omega (arith, lt)) less in
    let taken = length-take q.top xs in
    let whole : q.top ≡ length (take q.top xs) = omega (arith, taken, fits, long) in
    let place : suc r * w + j - (w - q.top + u) ≡ q.top + (r * w + j - u) = omega (arith, fits, rest.0) in
    let there : w + (r * w + j) ≡ suc r * w + j = omega arith in (
      omega (arith, rest.0, fits),
      ap (slice_index (take q.top xs ++ used_words w qs (drop w xs))) (place ∙ ap (λ n. n + (r * w + j - u)) whole)
          ∙ get_or-append-add (take q.top xs) (used_words w qs (drop w xs)) (r * w + j - u) 0 ∙ rest.1 ∙ get_or-drop w xs (r * w + j) 0 ∙ ap (slice_index xs) there,
    )

pub unused_more : (w : ℕ) (qs : List Region) (r : ℕ) → r < length qs → unused_in w (take (r + 1) qs) ≡ unused_in w (take r qs) + (w - (slice_index_or qs r free_region).top)
unused_more w [] r lt = absurd (omega (arith, lt))
unused_more w (q ∷ qs) zero lt = omega arith
unused_more w (q ∷ qs) (suc r) lt =
    let rest = unused_more w qs r (omega (arith, lt)) in
    let e : suc r + 1 ≡ suc (r + 1) = omega arith in
    let more : w - q.top + unused_in w (take (r + 1) qs) ≡ w - q.top + unused_in w (take r qs) + (w - (slice_index_or qs r free_region).top) = omega (arith, rest) in
    ap (λ n. unused_in w (take n (q ∷ qs))) e ∙ more

pub unused_few : (w : ℕ) (qs : List Region) → unused_in w qs ≤ length qs * w
unused_few w [] = omega arith
unused_few w (q ∷ qs) = let rest = unused_few w qs in omega (arith, rest)

-- few words of the regions of a heap are not used
pub unused_small : (h : Heap) (r : ℕ) → IsValid h → unused_in h.geometry.w (take r h.regions) < 2 ^ 64
unused_small h r valid =
    let few = unused_few h.geometry.w (take r h.regions) in
    let some : length (take r h.regions) ≤ h.geometry.n = (let taken = length-take r h.regions in omega (arith, taken, valid.region_count)) in
    let rows : length (take r h.regions) * h.geometry.w ≤ h.geometry.n * h.geometry.w = mul-le-mul_right h.geometry.w some in
    omega (arith, few, rows, valid.limits.words_most)

-- no words are unused in full regions
unused_run : (w : ℕ) (qs : List Region) (r c : ℕ) → r + c ≤ length qs → ((d : ℕ) → d < c → w ≤ (slice_index_or qs (r + d) free_region).top) → unused_in w (take (r + c) qs) ≡ unused_in w (take r qs)
unused_run w qs r zero le full = (let e : r + 0 ≡ r = omega arith in ap (λ n. unused_in w (take n qs)) e)
unused_run w qs r (suc c) le full =
    let e : r + suc c ≡ r + c + 1 = omega arith in
    let more = ap (λ n. unused_in w (take n qs)) e ∙ unused_more w qs (r + c) (omega (arith, le)) in
    let rest = unused_run w qs r c (omega (arith, le)) (λ d lt. full d (omega (arith, lt))) in
    let last = full c (omega arith) in
    omega (arith, more, rest, last)

module _ (h : Heap) (valid : IsValid h) (r : ℕ) (lt : r < h.geometry.n) where
  some_words : 0 < h.geometry.w
  some_words = (sound h valid).w_positive

  module _ (o : Object) (there : Contains (objects_in h r) o) where
    member : Contains (objects_in h r) o
    member = there

    -- each word of the object is a used one
    used : (p : ℕ) → o.at ≤ p → p < o.at + o.size → (region_of h p < h.geometry.n) × (p < region_of h p * h.geometry.w + top h (region_of h p))
    used p le less =
        let e : o.at + (p - o.at) ≡ p = omega (arith, le) in
        let u = word_used h (built h valid) r o (p - o.at) (stands h (built h valid) r o member) (omega (arith, le, less)) in
        (subst (λ x. region_of h x < h.geometry.n) e u.0, subst (λ x. x < region_of h x * h.geometry.w + top h (region_of h x)) e u.2)

    -- it starts in its region
    begins : (r * h.geometry.w ≤ o.at) × (o.at < r * h.geometry.w + h.geometry.w)
    begins =
        let home : o.at / h.geometry.w ≡ r = (sound h valid).in_region r o there in
        let parts : o.at / h.geometry.w * h.geometry.w + o.at % h.geometry.w ≡ o.at = div-add-mod' o.at h.geometry.w in
        let less : o.at % h.geometry.w < h.geometry.w = mod-lt o.at some_words in
        let same : o.at / h.geometry.w * h.geometry.w ≡ r * h.geometry.w = ap (λ x. x * h.geometry.w) home in
        (omega (arith, parts, same), omega (arith, parts, same, less))

    -- the regions that it fills up to a place in the region at c
    full : (c p : ℕ) → (r + c) * h.geometry.w ≤ p → p < o.at + o.size → (d : ℕ) → d < c → h.geometry.w ≤ top h (r + d)
    full c p le less d ltc =
        let w : ℕ = h.geometry.w in
        let x : ℕ = (r + d) * w + (w - 1) in
        let rows : (r + d + 1) * w ≤ (r + c) * w = mul-le-mul_right w (omega (arith, ltc)) in
        let row : (r + d + 1) * w ≡ (r + d) * w + w = omega arith in
        let below : r * w ≤ (r + d) * w = mul-le-mul_right w (omega arith) in
        let u = used x (omega (arith, begins.1, below, some_words)) (omega (arith, rows, row, le, less, some_words)) in
        let here : region_of h x ≡ r + d = div-mul-add (r + d) w (w - 1) (omega (arith, some_words)) in
        let up : x < (r + d) * w + top h (r + d) = subst (λ q. x < q * w + top h q) here u.1 in
        omega (arith, up, some_words)

  -- THE WORDS OF THE REGION'S OBJECTS stand so many places before their addresses as words below the region are not used
  pub has_words : (words : List ℕ) → words ≡ used_words h.geometry.w h.regions h.words → HasWords h r words (unused_in h.geometry.w (take r h.regions))
  has_words words is o p there le less =
      let w : ℕ = h.geometry.w in
      let q : ℕ = region_of h p in
      let parts : q * w + p % w ≡ p = div-add-mod' p w in
      let u = used o there p le less in
      let b = begins o there in
      let above : r ≤ q = elim (cases_lt q r) [
        | inl under ↦ (let rows : (q + 1) * w ≤ r * w = mul-le-mul_right w (omega (arith, under)) in let row : (q + 1) * w ≡ q * w + w = omega arith in let m = mod-lt p some_words in absurd (omega (arith, rows, row, m, parts, b.0, le)))
        | inr ge ↦ ge
      ] in
      let c : ℕ = q - r in
      let e : r + c ≡ q = omega (arith, above) in
      let row : (r + c) * w ≡ q * w = ap (λ x. x * w) e in
      let same : unused_in w (take (r + c) h.regions) ≡ unused_in w (take r h.regions) =
      unused_run w h.regions r c (omega (arith, e, u.0, valid.region_count)) (full o there c p (omega (arith, row, parts)) less) in
      let here : unused_in w (take q h.regions) ≡ unused_in w (take r h.regions) = ap (λ x. unused_in w (take x h.regions)) (sym e) ∙ same in
      let read = used_at w h.regions h.words q (p % w) (tops_fit h valid) (omega (arith, valid.word_count, ap (λ x. x * w) valid.region_count)) (omega (arith, u.0, valid.region_count)) (omega (arith, u.1, parts)) in
      ap (λ l. slice_index l (p - unused_in w (take r h.regions))) is
      ∙ (λ t. slice_index (used_words w h.regions h.words) (sym parts t - sym here t)) ∙ read.1 ∙ ap (slice_index h.words) parts

-- ---- where the objects of a region end

module _ (h : Heap) (valid : IsValid h) (r : ℕ) (lt : r < h.geometry.n) where
  -- an ordinary region is full of them up to its top
  pub ordinary_ends : (region h r).kind ≡ Ordinary → (at to : ℕ) → at ≡ r * h.geometry.w → to ≡ r * h.geometry.w + (region h r).top → Tiles h.words at (objects_in h r) to
  ordinary_ends kind at to e f =
      subst (λ x. Tiles h.words x (objects_in h r) to) (sym e) (subst (λ x. Tiles h.words (r * h.geometry.w) (objects_in h r) x) (sym f) (ordinary_fills h r valid lt kind))

  pub ordinary_small : (region h r).kind ≡ Ordinary → r * h.geometry.w + (region h r).top < 2 ^ 64
  ordinary_small kind =
      let top = ordinary_top h r valid lt kind in
      let rows : (r + 1) * h.geometry.w ≤ h.geometry.n * h.geometry.w = mul-le-mul_right h.geometry.w (omega (arith, lt)) in
      let row : (r + 1) * h.geometry.w ≡ r * h.geometry.w + h.geometry.w = omega arith in
      omega (arith, top, rows, row, valid.limits.words_most)

  module _ (kind : (region h r).kind ≡ HumongousFirst) (words : List ℕ) (unused at : ℕ) (e : at ≡ r * h.geometry.w) (stand : HasWords h r words unused) where
    abbrev first : Object
    first = object_at h (r * h.geometry.w)

    first_there : Contains (objects_in h r) (object_at h (r * h.geometry.w))
    first_there = subst (λ k. Contains (objects_by k h r) first) (sym kind) (zero, omega arith, refl)

    -- the size in its header is that of the object
    first_read : (0 < slice_index words (at - unused) / 2 ^ 32) × (slice_index words (at - unused) / 2 ^ 32 ≡ (object_at h (r * h.geometry.w)).size)
    first_read =
        let has = in_region_has h r first valid.shaped lt first_there in
        let fit = (sound h valid).slots_fit first (has_contains h first has) in
        let read : slice_index words (at - unused) ≡ word h at = stand first at first_there (omega (arith, e)) (omega (arith, e, fit)) in
        let same = ap (λ x. x / 2 ^ 32) read ∙ ap (λ x. word h x / 2 ^ 32) e in
        (omega (arith, same, fit), same)

    pub first_some : 0 < slice_index words (at - unused) / 2 ^ 32
    first_some = first_read.0

    pub first_small : at + slice_index words (at - unused) / 2 ^ 32 < 2 ^ 64
    first_small =
        let within = object_within h valid first (in_region_has h r first valid.shaped lt first_there) in
        omega (arith, within, first_read.1, e, valid.limits.words_most)

    -- a humongous object fills the words that its header says
    pub first_ends : (to : ℕ) → to ≡ at + slice_index words (at - unused) / 2 ^ 32 → Tiles h.words at (objects_in h r) to
    first_ends to f =
        let behind : start h r + (object_at h (start h r)).size ≡ to = omega (arith, f, first_read.1, e) in
        subst (λ x. Tiles h.words x (objects_in h r) to) (sym e) (subst (λ x. Tiles h.words (r * h.geometry.w) (objects_in h r) x) behind (humongous_fills h r valid lt kind))

-- ---- the cards, slot by slot

-- before the first slot
pub each_start : (i : Image) (sets : List (List ℕ)) → IsImage i → AreExact i → sets ≡ replicate i.heap.geometry.n [] → LeadEach i (flat_map slots (objects_from i.heap 0)) sets
each_start i sets good are e = record {
  image = good;
  exact = are;
  one_each = ap length e ∙ length-replicate i.heap.geometry.n [];
  each = λ r lt. lead_start i good r (slice_index_or sets r []) (ap (λ l. slice_index_or l r []) e ∙ get_or-replicate i.heap.geometry.n r [] [] lt);
}

-- past the last region
pub each_end : (i : Image) (q : ℕ) (sets : List (List ℕ)) → i.heap.geometry.n ≤ q → LeadEach i (flat_map slots (objects_from i.heap q)) sets → LeadEach i [] sets
each_end i q sets le l = record { image = l.image; exact = l.exact; one_each = l.one_each; each = λ r lt. lead_end i l.image r q (slice_index_or sets r []) le (l.each r lt) }

-- THE SETS FOLLOW FROM THE REFERENCES once no slot is ahead
pub each_exact : (i : Image) (sets : List (List ℕ)) → LeadEach i [] sets → sets ≡ i.remembered
each_exact i sets l =
    fill_by_all (exact i.heap) sets i.heap.geometry.n [] l.one_each (λ r lt. all_exact i l.image r (slice_index_or sets r []) (l.each r lt)) ∙ sym l.exact

module _ (i : Image) (p : ℕ) (rest : List ℕ) (sets : List (List ℕ)) (l : LeadEach i (p ∷ rest) sets) where
  -- the slot is one of the heap's
  there : Contains (all_slots i.heap) p
  there = (l.each 0 (omega (arith, l.image.heap.limits.n_least))).slots p (zero, omega arith, refl)

  reference : IsReference i.heap (word i.heap p)
  reference =
      let q = flat_map_cases slots (objects i.heap) p there in
      let o : Object = q.0 in
      let from = range_above (o.at + 1) o.refs p q.2 in
      let to = range_below (o.at + 1) o.refs p q.2 in
      l.image.heap.slots o p (contains_has i.heap o l.image.heap.shaped q.1) (omega (arith, from), omega (arith, to))

  -- a slot that leads into no other region is passed
  pass : IsLedInto i.heap p None → LeadEach i rest sets
  pass none = record {
    image = l.image;
    exact = l.exact;
    one_each = l.one_each;
    each = λ r lt. pass_other i l.image r p rest (slice_index_or sets r []) (l.each r lt) (sym (leads_none i.heap p r none));
  }

  pub pass_null : word i.heap p ≡ 0 → LeadEach i rest sets
  pass_null e = pass (λ a f. absurd (omega (arith, e, f)))

  pub pass_home : (t : ℕ) → word i.heap p ≡ t + 1 → region_of i.heap t ≡ region_of i.heap p → LeadEach i rest sets
  pass_home t e home = pass (λ a f. let same : t ≡ a = omega (arith, e, f) in sym home ∙ ap (region_of i.heap) same)

  module _ (t : ℕ) (e : word i.heap p ≡ t + 1) (away : region_of i.heap t ≢ region_of i.heap p) where
    names : word i.heap p ≡ suc t
    names = omega (arith, e)

    pub led : IsLedInto i.heap p (Some (region_of i.heap t))
    led = (t, names, refl, (λ s. away (sym s)), target_there i.heap (word i.heap p) t l.image.heap reference names)

    -- its card is in the exact set of the region
    card_exact : (r : ℕ) → region_of i.heap t ≡ r → Contains (exact i.heap r) (card_of i.heap p)
    card_exact r same =
        let ref : Ref = record { slot = p; target = t } in
        let q = flat_map_cases slots (objects i.heap) p there in
        let named_there : Contains (named (word i.heap p)) t = subst (λ x. Contains (named x) t) (sym names) (zero, omega arith, refl) in
        let one : Contains (refs_at i.heap p) ref = Contains-map (λ a. record { slot = p; target = a }) (named (word i.heap p)) t named_there in
        let all : Contains (refs i.heap) ref = Contains-flat_map (λ o. flat_map (refs_at i.heap) (slots o)) (objects i.heap) q.0 ref q.1 (Contains-flat_map (refs_at i.heap) (slots q.0) p ref q.2 one) in
        (exact_tells i.heap l.image.heap r (card_of i.heap p)).1 (ref, all, same, (λ z. away (same ∙ sym z)), refl)

    -- all that is remembered is known
    known : (r : ℕ) → r < i.heap.geometry.n → Contains (exact i.heap r) (card_of i.heap p) → is_known i r (card_of i.heap p) ≡ true
    known r lt k =
        let set_is : remembered_of i r ≡ exact i.heap r = ap (λ s. slice_index_or s r []) l.exact ∙ get_or-map-range_with_len (exact i.heap) 0 i.heap.geometry.n r r [] lt (omega arith) in
        let kept : has (remembered_of i r) (card_of i.heap p) ≡ true =
        ap (λ s. has s (card_of i.heap p)) set_is ∙ has_from_contains (exact i.heap r) (card_of i.heap p) k in
        rw kept refl

    pub in_sets : region_of i.heap t < length sets
    in_sets = (let inside = target_there i.heap (word i.heap p) t l.image.heap reference names in omega (arith, inside, l.one_each))

    pub card_small : card_of i.heap p < 2 ^ 32
    card_small =
        let limits = l.image.heap.limits in
        let below = exact_below i.heap (region_of i.heap t) (card_of i.heap p) (card_exact (region_of i.heap t) refl) in
        let whole : card_count i.heap * i.heap.geometry.k ≤ i.heap.geometry.n * i.heap.geometry.w = div-mul-le_self (i.heap.geometry.n * i.heap.geometry.w) i.heap.geometry.k in
        let more : card_count i.heap * 4 ≤ card_count i.heap * i.heap.geometry.k = mul-le-mul_left (card_count i.heap) limits.k_least in
        omega (arith, below, whole, more, limits.words_most)

    module _ (new : List (List ℕ)) (added : IsAdded sets (region_of i.heap t) (card_of i.heap p) new) where
      one : (r : ℕ) → r < i.heap.geometry.n → (b : Bool) → eqb (region_of i.heap t) r ≡ b → LeadAhead i r rest (slice_index_or new r [])
      one r lt false f =
          let other : r ≢ region_of i.heap t = λ s. false≢true (sym f ∙ eq-eqb (region_of i.heap t) r (sym s)) in
          let same : slice_index_or new r [] ≡ slice_index_or sets r [] = ap (λ s. slice_index_or s r []) added.2 ∙ get_or-set_other sets (region_of i.heap t) r added.0 [] other in
          subst (LeadAhead i r rest) (sym same) (pass_other i l.image r p rest (slice_index_or sets r []) (l.each r lt) (sym (leads_some i.heap p (region_of i.heap t) r led ∙ f)))
      one r lt true f =
          let here : region_of i.heap t ≡ r = eqb-true (region_of i.heap t) r f in
          let now : slice_index_or new r [] ≡ added.0 =
          ap (λ s. slice_index_or s r []) added.2 ∙ ap (λ x. slice_index_or (set sets (region_of i.heap t) added.0) x []) (sym here) ∙ get_or-set_same sets (region_of i.heap t) added.0 [] in_sets in
          let last : IsLastNow (slice_index_or sets r []) (card_of i.heap p) added.0 = subst (λ x. IsLastNow (slice_index_or sets x []) (card_of i.heap p) added.0) here added.1 in
          let marks : List Bool = map (is_known i r) (range_with_len 0 (card_count i.heap)) in
          let are : AreKnown i r marks = λ c below. get_or-map-range_with_len (is_known i r) 0 (card_count i.heap) c c false below (omega arith) in
          let its = card_exact r here in
          let marked : slice_index_or marks (card_of i.heap p) false ≡ true = are (card_of i.heap p) (exact_below i.heap r (card_of i.heap p) its) ∙ known r lt its in
          subst (LeadAhead i r rest) (sym now) (elim last [
            | inl s ↦ subst (LeadAhead i r rest) (sym s.2) (pass_same i l.image r p rest (slice_index_or sets r []) (l.each r lt) (card_of i.heap p) refl s.0 s.1)
            | inr s ↦ push i l.image r p rest (slice_index_or sets r []) (l.each r lt) (leads_some i.heap p (region_of i.heap t) r led ∙ f) (card_of i.heap p) marks added.0 refl s.0 are marked s.1
          ])

      -- A SLOT MORE, which leads into another region
      pub pass_away : LeadEach i rest new
      pass_away = record {
        image = l.image;
        exact = l.exact;
        one_each = ap length added.2 ∙ length-set sets (region_of i.heap t) added.0 ∙ l.one_each;
        each = λ r lt. one r lt (eqb (region_of i.heap t) r) refl;
      }

-- ---- the objects, one after the other

-- the slots of the objects in region q are taken up to an address
pub record TakingEach (i : Image) (q at to : ℕ) (sets : List (List ℕ)) : Type 0 where
  pub place : ℕ
  pub row : Tiles i.heap.words at (drop place (objects_in i.heap q)) to
  pub lead : LeadEach i (flat_map slots (drop place (objects_in i.heap q) ++ objects_from i.heap (q + 1))) sets

pub taking_start : (i : Image) (q at to : ℕ) (sets : List (List ℕ)) → q < i.heap.geometry.n → Tiles i.heap.words at (objects_in i.heap q) to
    → LeadEach i (flat_map slots (objects_from i.heap q)) sets → TakingEach i q at to sets
taking_start i q at to sets lt t lead = record { place = 0; row = t; lead = subst (λ os. LeadEach i (flat_map slots os) sets) (left_start i.heap lead.image.heap q lt) lead }

pub taking_end : (i : Image) (q at to : ℕ) (sets : List (List ℕ)) → TakingEach i q at to sets → to ≤ at → LeadEach i (flat_map slots (objects_from i.heap (q + 1))) sets
taking_end i q at to sets t le =
    subst (λ os. LeadEach i (flat_map slots (os ++ objects_from i.heap (q + 1))) sets) (Tiles-none i.heap.words at (drop t.place (objects_in i.heap q)) to t.row le) t.lead

module _ (i : Image) (q at to : ℕ) (sets : List (List ℕ)) (lt : q < i.heap.geometry.n) (t : TakingEach i q at to sets) (more : at < to) where
  -- the next object
  pub next : NextOf i.heap q t.place at
  next = row_front i.heap q t.lead.image.heap lt t.place at to t.row more

  its_place : Contains (objects_in i.heap q) next.object
  its_place =
      let os : List Object = objects_in i.heap q in
      let behind : Contains (take t.place os ++ drop t.place os) next.object =
      Contains-append_right (take t.place os) (drop t.place os) next.object (subst (λ l. Contains l next.object) (sym next.splits) (zero, omega arith, refl)) in
      subst (λ l. Contains l next.object) (take-append-drop t.place os) behind

  module _ (words : List ℕ) (unused : ℕ) (stand : HasWords i.heap q words unused) where
    header_read : slice_index words (at - unused) ≡ word i.heap at
    header_read = (let step = row_step i.heap q t.place at to next t.row in stand next.object at its_place (omega (arith, next.at_is)) (omega (arith, next.at_is, step.0)))

    pub size_read : slice_index words (at - unused) / 2 ^ 32 ≡ next.object.size
    size_read = ap (λ x. x / 2 ^ 32) header_read ∙ sym (ap (λ (o : Object). o.size) next.whole)

    pub refs_read : slice_index words (at - unused) % 2 ^ 32 ≡ next.object.refs
    refs_read = ap (λ x. x % 2 ^ 32) header_read ∙ sym next.refs_is

    pub some_read : 0 < slice_index words (at - unused) / 2 ^ 32
    some_read = (let step = row_step i.heap q t.place at to next t.row in omega (arith, step.0, size_read))

    -- its words end within 64 bits
    pub fits_read : (at + slice_index words (at - unused) / 2 ^ 32 < 2 ^ 64) × (at + 1 + slice_index words (at - unused) % 2 ^ 32 < 2 ^ 64)
    fits_read =
        let most = t.lead.image.heap.limits.words_most in
        (omega (arith, next.ends, size_read, most), omega (arith, next.fits, refs_read, most))

    pub slots_read : (p : ℕ) → at + 1 ≤ p → p < at + 1 + slice_index words (at - unused) % 2 ^ 32 → slice_index words (p - unused) ≡ word i.heap p
    slots_read p le less =
        let fit = (sound i.heap t.lead.image.heap).slots_fit next.object (has_contains i.heap next.object next.has) in
        stand next.object p its_place (omega (arith, next.at_is, le)) (omega (arith, next.at_is, less, refs_read, fit))

    -- the slots ahead of the objects behind it
    abbrev pub taking_rest : List ℕ
    taking_rest = flat_map slots (drop (t.place + 1) (objects_in i.heap q) ++ objects_from i.heap (q + 1))

    -- its slots are the next ones
    pub taking_slots : LeadEach i (range_with_len (at + 1) (slice_index words (at - unused) % 2 ^ 32) ++ taking_rest) sets
    taking_slots =
        let same : slots next.object ≡ range_with_len (at + 1) (slice_index words (at - unused) % 2 ^ 32) =
        ap (λ x. range_with_len (x + 1) next.object.refs) (sym next.at_is) ∙ ap (range_with_len (at + 1)) (sym refs_read) in
        subst (λ ps. LeadEach i (ps ++ taking_rest) sets) same
        (subst (λ os. LeadEach i (flat_map slots (os ++ objects_from i.heap (q + 1))) sets) next.splits t.lead)

    -- the walk goes on behind it
    pub taking_step : (behind : ℕ) (new : List (List ℕ)) → behind ≡ at + slice_index words (at - unused) / 2 ^ 32 → LeadEach i taking_rest new → TakingEach i q behind to new
    taking_step behind new e lead =
        let there : at + next.object.size ≡ behind = (let s = size_read in omega (arith, e, s)) in
        record { place = t.place + 1; row = subst (λ x. Tiles i.heap.words x (drop (t.place + 1) (objects_in i.heap q)) to) there (row_rest i.heap q t.place at to next t.row); lead = lead }

-- ---- what no line tells

-- lists of which none has a card
pub all_empty : (sets : List (Vec ℕ Global)) (n : ℕ) → map (λ (v : Vec ℕ Global). v.items) sets ≡ replicate n [] → All (λ (v : Vec ℕ Global). v.items ≡ []) sets
all_empty sets n e k d lt =
    let count = ap length e ∙ length-replicate n [] in
    let long = length-map sets (λ (v : Vec ℕ Global). v.items) in
    sym (map_at (λ (v : Vec ℕ Global). v.items) sets k d) ∙ ap (λ l. get_or l k d.items) e ∙ get_or-replicate n k [] d.items (omega (arith, lt, count, long))

pub none_told : (sets : List (Vec ℕ Global)) → All (λ (v : Vec ℕ Global). v.items ≡ []) sets → All (λ cards. cards ≡ []) (map (λ (v : Vec ℕ Global). v.items) sets)
none_told [] none k d lt = absurd (omega (arith, lt))
none_told (v ∷ vs) none zero d lt = none 0 v (omega arith)
none_told (v ∷ vs) none (suc k) d lt = none_told vs (λ j e l. none (suc j) e (omega (arith, l))) k d (omega (arith, lt))

-- as many empty sets
pub none_are : (sets : List (List ℕ)) → All (λ cards. cards ≡ []) sets → sets ≡ replicate (length sets) []
none_are [] none = refl
none_are (cards ∷ sets) none =
    let first = none 0 [] (omega arith) in
    let rest = none_are sets (λ k d lt. none (suc k) d (omega (arith, lt))) in
    λ t. first t ∷ rest t

pub each_empty : (sets : List (Vec ℕ Global)) → All (λ cards. cards ≡ []) (map (λ (v : Vec ℕ Global). v.items) sets) → All (λ (v : Vec ℕ Global). v.items ≡ []) sets
each_empty sets none k d lt =
    let long = length-map sets (λ (v : Vec ℕ Global). v.items) in
    sym (map_at (λ (v : Vec ℕ Global). v.items) sets k d) ∙ none k d.items (omega (arith, lt, long))
