-- The lines of an image add up to the image.
use Rattle.std.proofs.Common.{◌≡◌, ℕ, zero, suc, ◌+◌, ◌-◌, ◌*◌, ◌^◌, ◌<◌, ◌≤◌, inl, inr, Bool, List, [], ◌∷◌, ◌++◌, length, get_or, take, drop, map, flat_map, set, min, replicate, Contains}
use Rattle.std.proofs.Common.{refl, sym, ◌∙◌, ap, subst, arith, append_assoc, append-nil, length-append, length-take-le, drop-drop, take_all}
use Rattle.std.specs.Prelude.{Option, Some, None, IfSome, All, slice_index, slice_index_or}
use Rattle.std.specs.List.{range_with_len}
use Rattle.std.proofs.lemmas.Bool.{cases_lt}
use Rattle.std.proofs.lemmas.List.{map-append, set_at, get_or_at, take_more}
use Rattle.std.proofs.lemmas.List.FromFn.{map-range_with_len_more, get_or-map-range_with_len, length-map-range_with_len}
use Rattle.std.proofs.lemmas.List.Concat.{flat_map-append}
use Rattle.std.proofs.lemmas.Simd.{map-map}
use Rattle.std.proofs.Math.Seq.{take-add}
use Rattle.std.proofs.Math.Nat.{mul-le-mul_left}
use Rattle.g1_words.specs.Kind.{MayHoldCards}
use Rattle.g1_words.specs.Heap.{free_region, kind, top, pinned, region, regions, start, end, objects, objects_in, objects_by, object_at}
use Rattle.g1_words.specs.Valid.{IsFirst, IsHumongous, IsWholeRun, HoldsBy, IsShapedBy, Tiles}
use Rattle.g1_words.specs.declared.object.Object.{Object}
use Rattle.g1_words.specs.declared.region.Region.{Region}
use Rattle.g1_words.specs.declared.region.Kind.{Kind}
use Rattle.g1_words.specs.declared.region.Kind.TheVariants.{Free, Ordinary, HumongousFirst, Continuation}
use Rattle.g1_words.proofs.Computed.{object_is, holds_are, range_below}
use Rattle.g1_words.proofs.Lists.{range_split}
use Rattle.g1_image.specs.Image.{Image, IsImage, IsUsedCard, remembered_of, used_words}
use Rattle.g1_text.specs.Laws.{LinesAddUp, LinesSayImage}
use Rattle.g1_text.specs.Lines.{heading, root_lines, log_lines, region_line, region_lines, remembered_lines, object_line, image_lines}
use Rattle.g1_text.specs.Content.{Content, Line, Root, Dirty, Numbers, Remembered, Adds, MayFollow, words_of, words_beyond, begun, Begins, CountsAgree, Agrees, IsContentOf}
use Rattle.g1_text.proofs.Splitting.{small_at}
use Rattle.g1_text.proofs.Bounded.{objects_few, roots_small, top_small}
use Rattle.g1_text.proofs.OneImage.{IsPlain, plain}
use Rattle.g1_text.proofs.Adding.{adds_both, adds_to, map_members, said_object, object_words, address_of, read_so_far, counts_at, within_region, object_adds, objects_add}
use Rattle.g1_text.proofs.OneLine.{heading_one, adds_one}
use Rattle.g1_text.proofs.Beyond.{GoesOn, none_goes_on, none_left, none_before, past_plain, past_first, past_continuation}

-- the line of the log, if there is one
abbrev pub said_log : List ℕ → List Line
said_log [] = []
said_log (c ∷ cs) = Dirty (c ∷ cs) ∷ []

-- the line of a remembered set, if there is one
abbrev pub said_remembered : ℕ → List ℕ → List Line
said_remembered r [] = []
said_remembered r (c ∷ cs) = Remembered r (c ∷ cs) ∷ []

-- the lines of a region
abbrev pub said_region : Image → ℕ → List Line
said_region i r =
    Numbers r (kind i.heap r) (top i.heap r) (length (objects_in i.heap r)) (length (remembered_of i r)) (pinned i.heap r)
    ∷ (said_remembered r (remembered_of i r) ++ map (said_object i.heap.words) (objects_in i.heap r))

abbrev pub said_root : Image → ℕ → Line
said_root i m = Root m (slice_index i.heap.roots m)

-- the lines of an image below its heading
abbrev pub said_image : Image → List Line
said_image i = map (said_root i) (range_with_len 0 (length i.heap.roots)) ++ said_log i.log ++ flat_map (said_region i) (regions i.heap)

-- ---- the words of the lines

log_words : (cards : List ℕ) → map words_of (said_log cards) ≡ log_lines cards
log_words [] = refl
log_words (c ∷ cs) = refl

remembered_words : (r : ℕ) (cards : List ℕ) → map words_of (said_remembered r cards) ≡ remembered_lines r cards
remembered_words r [] = refl
remembered_words r (c ∷ cs) = refl

flat_words : (f : ℕ → List Line) (g : ℕ → List (List (List ℕ))) (xs : List ℕ) → ((x : ℕ) → Contains xs x → map words_of (f x) ≡ g x) → map words_of (flat_map f xs) ≡ flat_map g xs
flat_words f g [] each = refl
flat_words f g (x ∷ xs) each =
    let first = each x (zero, omega arith, refl) in
    let rest = flat_words f g xs (λ y m. each y (suc m.0, omega (arith, m.1), m.2)) in
    map-append words_of (f x) (flat_map f xs) ∙ (λ t. first t ++ rest t)

module _ (i : Image) (good : IsImage i) where
  region_words : (r : ℕ) → r < i.heap.geometry.n → map words_of (said_region i r) ≡ region_lines i r
  region_words r lt =
      let cards = remembered_words r (remembered_of i r) in
      let objects : map words_of (map (said_object i.heap.words) (objects_in i.heap r)) ≡ map (object_line i.heap.words) (objects_in i.heap r) =
      map-map words_of (said_object i.heap.words) (objects_in i.heap r)
      ∙ map_members (λ o. words_of (said_object i.heap.words o)) (object_line i.heap.words) (objects_in i.heap r) (λ o m. object_words i.heap.words o (plain i good r o lt m)) in
      ap (λ ls. region_line i r ∷ ls) (map-append words_of (said_remembered r (remembered_of i r)) (map (said_object i.heap.words) (objects_in i.heap r)) ∙ (λ t. cards t ++ objects t))

  -- THE WORDS of the lines are the image's
  pub image_words : image_lines i ≡ heading i ∷ map words_of (said_image i)
  image_words =
      let roots : List Line = map (said_root i) (range_with_len 0 (length i.heap.roots)) in
      let rows : List Line = flat_map (said_region i) (regions i.heap) in
      let first : map words_of roots ≡ root_lines i.heap.roots = map-map words_of (said_root i) (range_with_len 0 (length i.heap.roots)) in
      let second = log_words i.log in
      let third : map words_of rows ≡ flat_map (region_lines i) (regions i.heap) =
      flat_words (said_region i) (region_lines i) (regions i.heap) (λ r m. region_words r (let b = range_below 0 i.heap.geometry.n r m in omega (arith, b))) in
      let parts : map words_of (said_image i) ≡ (map words_of roots ++ map words_of (said_log i.log)) ++ map words_of rows =
      map-append words_of (roots ++ said_log i.log) rows ∙ ap (λ l. l ++ map words_of rows) (map-append words_of roots (said_log i.log)) in
      ap (λ ls. heading i ∷ ls) (sym (parts ∙ (λ t. (first t ++ second t) ++ third t)))

-- ---- the roots and the log

-- what is said with the first roots, and with the log if it was read
abbrev rooted : Image → List ℕ → List ℕ → Content
rooted i roots log = record (read_so_far i [] (replicate i.heap.geometry.n []) [] 0 [] []) { roots = roots; log = log }

module _ (i : Image) (good : IsImage i) where
  roots_add : (m count : ℕ) → m + count ≡ length i.heap.roots → Adds (rooted i (take m i.heap.roots) []) (map (said_root i) (range_with_len m count)) (rooted i i.heap.roots [])
  roots_add m zero e = λ t. rooted i (take_all m i.heap.roots (omega (arith, e)) t) []
  roots_add m (suc count) e = (
    rooted i (take (m + 1) i.heap.roots) [],
    (
      sym (length-take-le m i.heap.roots (omega (arith, e))),
      omega (arith, e, good.heap.root_count),
      small_at i.heap.roots m (roots_small i good),
      (λ t. rooted i (take_more i.heap.roots m 0 (omega (arith, e)) t) []),
    ),
    roots_add (m + 1) count (omega (arith, e)),
  )

  card_small : (c : ℕ) → IsUsedCard i.heap c → c < 2 ^ 32
  card_small c used =
      let more : c * 4 ≤ c * i.heap.geometry.k = mul-le-mul_left c good.heap.limits.k_least in
      omega (arith, more, used.in_heap, good.heap.limits.words_most)

  log_small : All (λ x. x < 2 ^ 32) i.log
  log_small k d lt = card_small (get_or i.log k d) (good.log.used k d lt)

  cards_small : (r : ℕ) → r < i.heap.geometry.n → All (λ x. x < 2 ^ 32) (remembered_of i r)
  cards_small r lt k d l = card_small (get_or (remembered_of i r) k d) ((good.remembered r lt).elsewhere k d l).0

  log_adds : (cards : List ℕ) → All (λ x. x < 2 ^ 32) cards → Adds (rooted i i.heap.roots []) (said_log cards) (rooted i i.heap.roots cards)
  log_adds [] small = refl
  log_adds (c ∷ cs) small = (rooted i i.heap.roots (c ∷ cs), (small, refl), refl)

-- ---- the words and the remembered sets

-- the used words of one more region
used_push : (w : ℕ) (qs : List Region) (q : Region) (words : List ℕ) → used_words w (qs ++ q ∷ []) words ≡ used_words w qs words ++ take q.top (drop (length qs * w) words)
used_push w [] q words = append-nil (take q.top words) ∙ (let z : 0 ≡ 0 * w = omega arith in ap (λ n. take q.top (drop n words)) z)
used_push w (p ∷ qs) q words =
    let behind : w + length qs * w ≡ length (p ∷ qs) * w = omega arith in
    ap (λ l. take p.top words ++ l) (used_push w qs q (drop w words))
    ∙ sym (append_assoc (take p.top words) (used_words w qs (drop w words)) (take q.top (drop (length qs * w) (drop w words))))
    ∙ ap (λ l. (take p.top words ++ used_words w qs (drop w words)) ++ take q.top l) (drop-drop (length qs * w) w words ∙ ap (λ n. drop n words) behind)

-- words that go on in the next region
cut : (w size : ℕ) (xs : List ℕ) → take size xs ≡ take (min w size) xs ++ take (size - w) (drop w xs)
cut w size xs = elim (cases_lt size w) [
  | inl less ↦
      let all : size ≡ min w size = omega (arith, less) in
      let none : 0 ≡ size - w = omega (arith, less) in
      sym (append-nil (take size xs)) ∙ (λ t. take (all t) xs ++ take (none t) (drop w xs))
  | inr ge ↦
      let whole : size ≡ w + (size - w) = omega (arith, ge) in
      let first : w ≡ min w size = omega (arith, ge) in
      ap (λ n. take n xs) whole ∙ take-add w (size - w) xs ∙ ap (λ n. take n xs ++ take (size - w) (drop w xs)) first
]

-- the used words of the regions below r, and further words of a humongous object
abbrev pub words_said : Image → ℕ → ℕ → List ℕ
words_said i r beyond = used_words i.heap.geometry.w (take r i.heap.regions) i.heap.words ++ take beyond (drop (r * i.heap.geometry.w) i.heap.words)

-- the remembered sets of the regions below r
abbrev pub sets_said : Image → ℕ → List (List ℕ)
sets_said i r = take r i.remembered ++ replicate (i.heap.geometry.n - r) []

-- the addresses of the objects that start below region r
abbrev pub addresses_said : Image → ℕ → List ℕ
addresses_said i r = map address_of (flat_map (objects_in i.heap) (range_with_len 0 r))

-- what is said when r regions were read
abbrev pub after_regions : Image → ℕ → ℕ → Content
after_regions i r beyond = read_so_far i (take r i.heap.regions) (sets_said i r) (words_said i r beyond) beyond (map (counts_at i) (range_with_len 0 r)) (addresses_said i r)

module _ (i : Image) (good : IsImage i) (r : ℕ) (below : r < i.heap.geometry.n) where
  regions_below : length (take r i.heap.regions) ≡ r
  regions_below = length-take-le r i.heap.regions (omega (arith, below, good.heap.region_count))

  one_more : take (r + 1) i.heap.regions ≡ take r i.heap.regions ++ region i.heap r ∷ []
  one_more = take_more i.heap.regions r free_region (omega (arith, below, good.heap.region_count))

  used_more : used_words i.heap.geometry.w (take (r + 1) i.heap.regions) i.heap.words
      ≡ used_words i.heap.geometry.w (take r i.heap.regions) i.heap.words ++ take (top i.heap r) (drop (r * i.heap.geometry.w) i.heap.words)
  used_more =
      ap (λ l. used_words i.heap.geometry.w l i.heap.words) one_more
      ∙ used_push i.heap.geometry.w (take r i.heap.regions) (region i.heap r) i.heap.words
      ∙ ap (λ n. used_words i.heap.geometry.w (take r i.heap.regions) i.heap.words ++ take (top i.heap r) (drop (n * i.heap.geometry.w) i.heap.words)) regions_below

  -- the words of a region in which no humongous object starts or goes on
  words_plain : (b t : ℕ) → b ≡ 0 → t ≡ top i.heap r → words_said i r b ++ take t (drop (r * i.heap.geometry.w) i.heap.words) ≡ words_said i (r + 1) 0
  words_plain b t none is =
      let used : List ℕ = used_words i.heap.geometry.w (take r i.heap.regions) i.heap.words in
      let here : List ℕ = drop (r * i.heap.geometry.w) i.heap.words in
      (λ s. (used ++ take (none s) here) ++ take (is s) here) ∙ ap (λ l. l ++ take (top i.heap r) here) (append-nil used) ∙ sym used_more
      ∙ sym (append-nil (used_words i.heap.geometry.w (take (r + 1) i.heap.regions) i.heap.words))

  -- the words of a humongous object from this region on
  words_humongous : (size : ℕ) → top i.heap r ≡ min i.heap.geometry.w size
      → used_words i.heap.geometry.w (take r i.heap.regions) i.heap.words ++ take size (drop (r * i.heap.geometry.w) i.heap.words) ≡ words_said i (r + 1) (size - i.heap.geometry.w)
  words_humongous size is =
      let w : ℕ = i.heap.geometry.w in
      let used : List ℕ = used_words w (take r i.heap.regions) i.heap.words in
      let here : List ℕ = drop (r * w) i.heap.words in
      let next : r * w + w ≡ (r + 1) * w = omega arith in
      ap (λ l. used ++ l) (cut w size here) ∙ sym (append_assoc used (take (min w size) here) (take (size - w) (drop w here)))
      ∙ ap (λ n. (used ++ take n here) ++ take (size - w) (drop w here)) (sym is) ∙ (λ t. sym used_more t ++ take (size - w) (drop w here))
      ∙ ap (λ l. used_words w (take (r + 1) i.heap.regions) i.heap.words ++ take (size - w) l) (drop-drop w (r * w) i.heap.words ∙ ap (λ n. drop n i.heap.words) next)

  -- ---- the remembered set

  sets_below : length (take r i.remembered) ≡ r
  sets_below = length-take-le r i.remembered (omega (arith, below, good.one_each))

  sets_before : sets_said i r ≡ take r i.remembered ++ [] ∷ replicate (i.heap.geometry.n - (r + 1)) []
  sets_before = (let e : i.heap.geometry.n - r ≡ suc (i.heap.geometry.n - (r + 1)) = omega (arith, below) in ap (λ n. take r i.remembered ++ replicate n []) e)

  sets_after : sets_said i (r + 1) ≡ take r i.remembered ++ remembered_of i r ∷ replicate (i.heap.geometry.n - (r + 1)) []
  sets_after =
      let rest : List (List ℕ) = replicate (i.heap.geometry.n - (r + 1)) [] in
      ap (λ l. l ++ rest) (take_more i.remembered r [] (omega (arith, below, good.one_each))) ∙ append_assoc (take r i.remembered) (remembered_of i r ∷ []) rest

  set_adds : (c : Content) (cards : List ℕ) → cards ≡ remembered_of i r → c.remembered ≡ sets_said i r → Adds c (said_remembered r cards) (record c { remembered = sets_said i (r + 1) })
  set_adds c [] is e =
      let same : c.remembered ≡ sets_said i (r + 1) = e ∙ sets_before ∙ ap (λ x. take r i.remembered ++ x ∷ replicate (i.heap.geometry.n - (r + 1)) []) is ∙ sym sets_after in
      λ t. record c { remembered = same t }
  set_adds c (x ∷ xs) is e =
      let rest : List (List ℕ) = replicate (i.heap.geometry.n - (r + 1)) [] in
      let old : c.remembered ≡ take r i.remembered ++ [] ∷ rest = e ∙ sets_before in
      let none : slice_index_or c.remembered r [] ≡ [] = ap (λ l. slice_index_or l r []) old ∙ get_or_at (take r i.remembered) [] rest [] r sets_below in
      let new : set c.remembered r (slice_index_or c.remembered r [] ++ x ∷ xs) ≡ sets_said i (r + 1) =
      (λ t. set (old t) r (none t ++ x ∷ xs)) ∙ set_at (take r i.remembered) [] rest (x ∷ xs) r sets_below ∙ ap (λ y. take r i.remembered ++ y ∷ rest) is ∙ sym sets_after in
      let place = ap length old ∙ length-append (take r i.remembered) ([] ∷ rest) in (
        record c { remembered = sets_said i (r + 1) },
        (
          omega (arith, place, sets_below),
          omega (arith, below, good.heap.limits.n_most),
          subst (All (λ y. y < 2 ^ 32)) (sym is) (cards_small i good r below),
          (λ t. record c { remembered = sym new t }),
        ),
        refl,
      )

  -- ---- the objects

  -- what is said with the region's line, and with all its objects
  abbrev Filled : Kind → ℕ → ℕ → List ℕ → Type 0
  Filled k b after ats =
      Adds (within_region i r (pinned i.heap r) (sets_said i (r + 1)) k (words_said i r b) (b - words_beyond (after_regions i r b) k) (words_beyond (after_regions i r b) k) 0 ats)
      (map (said_object i.heap.words) (objects_by k i.heap r))
      (within_region i r (pinned i.heap r) (sets_said i (r + 1)) k (words_said i (r + 1) after) after (top i.heap r) (length (objects_by k i.heap r)) (ats ++ map address_of (objects_by k i.heap r)))

  objects_small : length (objects_in i.heap r) < 2 ^ 64
  objects_small = let few = objects_few (kind i.heap r) i.heap r in let small = top_small i good r below in omega (arith, few, small)

  members : (k : Kind) → kind i.heap r ≡ k → (o : Object) → Contains (objects_by k i.heap r) o → IsPlain i.heap.words o
  members k is o m = plain i good r o below (subst (λ l. Contains l o) (ap (λ x. objects_by x i.heap r) (sym is)) m)

  filled : (ats : List ℕ) (k : Kind) → kind i.heap r ≡ k → IsShapedBy k i.heap r → (b : ℕ) → GoesOn i.heap r b
      → MayFollow (after_regions i r b) k × (after : ℕ) × GoesOn i.heap (r + 1) after × Filled k b after ats
  filled ats Free is shaped b on =
      let none : b ≡ 0 = none_before i.heap r b on Free is (λ e. cc) in
      let words = words_plain b 0 none (sym shaped) in
      let same : words_said i r b ≡ words_said i (r + 1) 0 = sym (append-nil (words_said i r b)) ∙ words in
      let left : b - 0 ≡ 0 = omega (arith, none) in (
        none,
        0,
        past_plain i.heap r b on Free is (λ e. cc) none,
        (λ t. within_region i r (pinned i.heap r) (sets_said i (r + 1)) Free (same t) (left t) (sym shaped t) 0 (sym (append-nil ats) t)),
      )
  filled ats Ordinary is shaped b on =
      let none : b ≡ 0 = none_before i.heap r b on Ordinary is (λ e. cc) in
      let w : ℕ = i.heap.geometry.w in
      let os : List Object = objects_by Ordinary i.heap r in
      let tiles : Tiles i.heap.words (r * w) shaped.2 (r * w + top i.heap r) = subst (λ k. HoldsBy k i.heap r shaped.2) is shaped.3 in
      let are : shaped.2 ≡ os = holds_are Ordinary i.heap r shaped.2 tiles in
      let from : r * w ≡ r * w + 0 = omega arith in
      let placed : Tiles i.heap.words (r * w + 0) os (r * w + top i.heap r) =
      subst (λ a. Tiles i.heap.words a os (r * w + top i.heap r)) from (subst (λ l. Tiles i.heap.words (r * w) l (r * w + top i.heap r)) are tiles) in
      let each : (o : Object) → Contains os o → IsPlain i.heap.words o × (4 * o.size ≤ 3 * w) =
      λ o m. (members Ordinary is o m, (let c = subst (λ l. Contains l o) (sym are) m in subst (λ (x : Object). 4 * x.size ≤ 3 * w) c.2 (shaped.4 c.0 o c.1))) in
      let few : 0 + length os < 2 ^ 64 = (let same : length os ≡ length (objects_in i.heap r) = ap (λ k. length (objects_by k i.heap r)) (sym is) in omega (arith, same, objects_small)) in
      let added = objects_add i good r below (pinned i.heap r) (sets_said i (r + 1)) os (words_said i r b) (b - 0) 0 (top i.heap r) 0 ats placed shaped.1 each few in
      let height : top i.heap r - 0 ≡ top i.heap r = omega arith in
      let words : words_said i r b ++ take (top i.heap r - 0) (drop (r * w + 0) i.heap.words) ≡ words_said i (r + 1) 0 =
      (λ t. words_said i r b ++ take (height t) (drop (sym from t) i.heap.words)) ∙ words_plain b (top i.heap r) none refl in
      let left : b - 0 ≡ 0 = omega (arith, none) in
      let count : 0 + length os ≡ length os = omega arith in (
        none,
        0,
        past_plain i.heap r b on Ordinary is (λ e. cc) none,
        adds_to (map (said_object i.heap.words) os) (within_region i r (pinned i.heap r) (sets_said i (r + 1)) Ordinary (words_said i r b) (b - 0) 0 0 ats)
            (within_region i r (pinned i.heap r) (sets_said i (r + 1)) Ordinary (words_said i r b ++ take (top i.heap r - 0) (drop (r * w + 0) i.heap.words)) (b - 0) (top i.heap r) (0 + length os) (ats ++ map address_of os))
            (within_region i r (pinned i.heap r) (sets_said i (r + 1)) Ordinary (words_said i (r + 1) 0) 0 (top i.heap r) (length os) (ats ++ map address_of os))
            (λ t. within_region i r (pinned i.heap r) (sets_said i (r + 1)) Ordinary (words t) (left t) (top i.heap r) (count t) (ats ++ map address_of os)) added,
      )
  filled ats HumongousFirst is shaped b on =
      let none : b ≡ 0 = none_before i.heap r b on HumongousFirst is (λ e. cc) in
      let w : ℕ = i.heap.geometry.w in
      let o : Object = object_at i.heap (r * w) in
      let same : shaped.0 ≡ o = object_is i.heap shaped.0 shaped.1.object ∙ ap (object_at i.heap) shaped.1.at in
      let shape : IsFirst i.heap r o × IsHumongous i.heap o × (top i.heap r ≡ min w o.size) × IsWholeRun i.heap r o.size =
      subst (λ x. IsFirst i.heap r x × IsHumongous i.heap x × (top i.heap r ≡ min w x.size) × IsWholeRun i.heap r x.size) same (shaped.1, shaped.2, shaped.3, shaped.4) in
      let is_plain : IsPlain i.heap.words o = members HumongousFirst is o (zero, omega arith, refl) in
      let used : List ℕ = used_words w (take r i.heap.regions) i.heap.words in
      let here : List ℕ = drop (r * w) i.heap.words in
      let words : words_said i r b ++ take o.size here ≡ words_said i (r + 1) (o.size - w) =
      (λ t. (used ++ take (none t) here) ++ take o.size here) ∙ ap (λ l. l ++ take o.size here) (append-nil used) ∙ words_humongous o.size shape.2 in (
        none,
        o.size - w,
        past_first i.heap r b on none o shape.0 shape.3,
        (
          within_region i r (pinned i.heap r) (sets_said i (r + 1)) HumongousFirst (words_said i r b ++ take o.size here) (o.size - w) (min w o.size) 1 (ats ++ o.at ∷ []),
          object_adds i good r below (pinned i.heap r) (sets_said i (r + 1)) HumongousFirst (words_said i r b) (b - 0) 0 0 ats o is_plain (omega arith)
              (refl, shape.1, omega (arith, is_plain.within, good.heap.word_count)) (omega arith),
          (λ t. within_region i r (pinned i.heap r) (sets_said i (r + 1)) HumongousFirst (words t) (o.size - w) (sym shape.2 t) 1 (ats ++ o.at ∷ [])),
        ),
      )
  filled ats Continuation is shaped b on =
      let w : ℕ = i.heap.geometry.w in
      let exact = on.exact shaped.0 shaped.1 shaped.3 shaped.2 shaped.4 in
      let rest : shaped.1.size - (r - shaped.0) * w ≡ b = omega (arith, exact) in
      let height : top i.heap r ≡ min w b = shaped.5 ∙ ap (min w) rest in
      let words = words_humongous b height in
      let left : b - min w b ≡ b - w = omega arith in (
        omega (arith, exact, shaped.4),
        b - w,
        past_continuation i.heap r b on is,
        (λ t. within_region i r (pinned i.heap r) (sets_said i (r + 1)) Continuation (words t) (left t) (sym height t) 0 (sym (append-nil ats) t)),
      )

  addresses_more : addresses_said i r ++ map address_of (objects_in i.heap r) ≡ addresses_said i (r + 1)
  addresses_more =
      let here : 0 + r ≡ r = omega arith in
      let more : flat_map (objects_in i.heap) (range_with_len 0 r) ++ objects_in i.heap r ≡ flat_map (objects_in i.heap) (range_with_len 0 (r + 1)) =
      ap (λ l. flat_map (objects_in i.heap) (range_with_len 0 r) ++ l) (sym (append-nil (objects_in i.heap r))) ∙ sym (flat_map-append (objects_in i.heap) (range_with_len 0 r) (r ∷ []))
      ∙ ap (flat_map (objects_in i.heap)) (sym (range_split 0 r 1 ∙ ap (λ n. range_with_len 0 r ++ n ∷ []) here)) in
      sym (map-append address_of (flat_map (objects_in i.heap) (range_with_len 0 r)) (objects_in i.heap r)) ∙ ap (map address_of) more

  -- ONE REGION adds its line, its remembered set and its objects
  region_adds : (b : ℕ) → GoesOn i.heap r b → (after : ℕ) × GoesOn i.heap (r + 1) after × Adds (after_regions i r b) (said_region i r) (after_regions i (r + 1) after)
  region_adds b on =
      let k : Kind = kind i.heap r in
      let p : Bool = pinned i.heap r in
      let t : ℕ = words_beyond (after_regions i r b) k in
      let ats : List ℕ = addresses_said i r in
      let opened : Content = within_region i r p (sets_said i r) k (words_said i r b) (b - t) t 0 ats in
      let remembered : Content = within_region i r p (sets_said i (r + 1)) k (words_said i r b) (b - t) t 0 ats in
      let all = filled ats k refl (good.heap.shaped r below).by_kind b on in
      let closed : Content = within_region i r p (sets_said i (r + 1)) k (words_said i (r + 1) all.1) all.1 (top i.heap r) (length (objects_in i.heap r)) (ats ++ map address_of (objects_in i.heap r)) in
      let counts : map (counts_at i) (range_with_len 0 r) ++ counts_at i r ∷ [] ≡ map (counts_at i) (range_with_len 0 (r + 1)) = sym (map-range_with_len_more (counts_at i) 0 r r (omega arith)) in
      let same : closed ≡ after_regions i (r + 1) all.1 = (λ s. read_so_far i (sym one_more s) (sets_said i (r + 1)) (words_said i (r + 1) all.1) all.1 (counts s) (addresses_more s)) in
      let small = top_small i good r below in (
        all.1,
        all.2,
        (
          opened,
          (
            sym regions_below,
            below,
            omega (arith, below, good.heap.limits.n_most),
            all.0,
            omega (arith, small),
            objects_small,
            omega (arith, (good.remembered r below).count),
            good.heap.pins r below,
            refl,
          ),
          adds_both (said_remembered r (remembered_of i r)) (map (said_object i.heap.words) (objects_in i.heap r)) opened remembered (after_regions i (r + 1) all.1)
              (set_adds opened (remembered_of i r) refl refl) (adds_to (map (said_object i.heap.words) (objects_in i.heap r)) remembered closed (after_regions i (r + 1) all.1) same all.3),
        ),
      )

-- ---- all regions, and the end

tiles_some : (words : List ℕ) (from : ℕ) (os : List Object) (to : ℕ) → Tiles words from os to → from < to → 0 < length os
tiles_some words from [] to t lt = absurd (omega (arith, t, lt))
tiles_some words from (o ∷ os) to t lt = omega arith

current_fits : (c : Option ℕ) (n : ℕ) → n ≤ 4096 → IfSome c (λ r. r < n) → IfSome c (λ r. r < 2 ^ 32)
current_fits None n most lt = tt
current_fits (Some r) n most lt = omega (arith, most, lt)

-- all that the lines of an image say
abbrev pub content_of : Image → Content
content_of i = read_so_far i i.heap.regions i.remembered (used_words i.heap.geometry.w i.heap.regions i.heap.words) 0 (map (counts_at i) (regions i.heap)) (map address_of (objects i.heap))

module _ (i : Image) (good : IsImage i) where
  regions_add : (r count : ℕ) → r + count ≡ i.heap.geometry.n → (b : ℕ) → GoesOn i.heap r b
      → (after : ℕ) × GoesOn i.heap i.heap.geometry.n after × Adds (after_regions i r b) (flat_map (said_region i) (range_with_len r count)) (after_regions i i.heap.geometry.n after)
  regions_add r zero e b on = let last : r ≡ i.heap.geometry.n = omega (arith, e) in (b, subst (λ x. GoesOn i.heap x b) last on, λ t. after_regions i (last t) b)
  regions_add r (suc count) e b on =
      let one = region_adds i good r (omega (arith, e)) b on in
      let rest = regions_add (r + 1) count (omega (arith, e)) one.0 one.1 in (
        rest.0,
        rest.1,
        adds_both (said_region i r) (flat_map (said_region i) (range_with_len (r + 1) count)) (after_regions i r b) (after_regions i (r + 1) one.0) (after_regions i i.heap.geometry.n rest.0)
            one.2 rest.2,
      )

  first_content : rooted i i.heap.roots i.log ≡ after_regions i 0 0
  first_content = let e : i.heap.geometry.n ≡ i.heap.geometry.n - 0 = omega arith in λ t. read_so_far i [] (replicate (e t) []) [] 0 [] []

  last_content : (b : ℕ) → b ≡ 0 → after_regions i i.heap.geometry.n b ≡ content_of i
  last_content b none =
      let n : ℕ = i.heap.geometry.n in
      let w : ℕ = i.heap.geometry.w in
      let all : take n i.heap.regions ≡ i.heap.regions = take_all n i.heap.regions (omega (arith, good.heap.region_count)) in
      let every : take n i.remembered ≡ i.remembered = take_all n i.remembered (omega (arith, good.one_each)) in
      let zero_left : n - n ≡ 0 = omega arith in
      let sets : sets_said i n ≡ i.remembered = (λ t. every t ++ replicate (zero_left t) []) ∙ append-nil i.remembered in
      let used : words_said i n b ≡ used_words w i.heap.regions i.heap.words =
      (λ t. used_words w (all t) i.heap.words ++ take (none t) (drop (n * w) i.heap.words)) ∙ append-nil (used_words w i.heap.regions i.heap.words) in
      λ t. read_so_far i (all t) (sets t) (used t) (none t) (map (counts_at i) (range_with_len 0 n)) (addresses_said i n)

  rows_add : Adds (rooted i i.heap.roots i.log) (flat_map (said_region i) (regions i.heap)) (content_of i)
  rows_add =
      let n : ℕ = i.heap.geometry.n in
      let all = regions_add 0 n (omega arith) 0 (none_goes_on i.heap) in
      subst (λ c. Adds c (flat_map (said_region i) (regions i.heap)) (content_of i)) (sym first_content)
      (adds_to (flat_map (said_region i) (regions i.heap)) (after_regions i 0 0) (after_regions i n all.0) (content_of i) (last_content all.0 (none_left i.heap n all.0 all.1 refl)) all.2)

  -- an object starts in a region that may hold cards
  some_object : (k : Kind) (r : ℕ) → kind i.heap r ≡ k → IsShapedBy k i.heap r → MayHoldCards k → 0 < length (objects_by k i.heap r)
  some_object Free r is shaped may = absurd may
  some_object Ordinary r is shaped may =
      let tiles : Tiles i.heap.words (start i.heap r) shaped.2 (end i.heap r) = subst (λ k. HoldsBy k i.heap r shaped.2) is shaped.3 in
      let are : shaped.2 ≡ objects_by Ordinary i.heap r = holds_are Ordinary i.heap r shaped.2 tiles in
      subst (λ (l : List Object). 0 < length l) are (tiles_some i.heap.words (start i.heap r) shaped.2 (end i.heap r) tiles (omega (arith, shaped.0)))
  some_object HumongousFirst r is shaped may = omega arith
  some_object Continuation r is shaped may = absurd may

  counts_agree : (r : ℕ) → r < i.heap.geometry.n → CountsAgree (content_of i) (counts_at i r)
  counts_agree r lt = record {
    region = omega (arith, lt, good.heap.region_count);
    holds = some_object (kind i.heap r) r refl (good.heap.shaped r lt).by_kind;
    top = refl;
    objects = refl;
    cards = refl;
  }

  current_is : (c : Option ℕ) → i.heap.current ≡ c → IfSome c (λ r. r < i.heap.geometry.n) → IfSome c (λ r. (r < length i.heap.regions) × (kind i.heap r ≡ Ordinary))
  current_is None e lt = tt
  current_is (Some r) e lt = (omega (arith, lt, good.heap.region_count), (good.heap.shaped r lt).current e)

  agrees : Agrees (content_of i)
  agrees = record {
    roots = refl;
    dirty = refl;
    current = current_is i.heap.current refl good.heap.current_in;
    regions = λ k d lt.
        let n : ℕ = i.heap.geometry.n in
        let there : k < n = omega (arith, lt, length-map-range_with_len (counts_at i) 0 n) in
        subst (CountsAgree (content_of i)) (sym (get_or-map-range_with_len (counts_at i) 0 n k k d there (omega arith))) (counts_agree k there);
  }

  pub heading_begins : Begins (heading i) (begun i.heap.geometry i.heap.current (Some (length i.heap.roots)) (Some (length i.log)))
  heading_begins = record {
    geometry = i.heap.geometry;
    current = i.heap.current;
    roots = length i.heap.roots;
    dirty = length i.log;
    limits = good.heap.limits;
    region = current_fits i.heap.current i.heap.geometry.n good.heap.limits.n_most good.heap.current_in;
    root_count = omega (arith, good.heap.root_count);
    dirty_count = omega (arith, good.log.count);
    line = refl;
    says = refl;
  }

  -- ITS LINES ADD UP to the content of the image
  pub image_adds : Adds (begun i.heap.geometry i.heap.current (Some (length i.heap.roots)) (Some (length i.log))) (said_image i) (content_of i)
  image_adds =
      let first : Content = begun i.heap.geometry i.heap.current (Some (length i.heap.roots)) (Some (length i.log)) in
      let roots : List Line = map (said_root i) (range_with_len 0 (length i.heap.roots)) in
      adds_both (roots ++ said_log i.log) (flat_map (said_region i) (regions i.heap)) first (rooted i i.heap.roots i.log) (content_of i)
      (adds_both roots (said_log i.log) first (rooted i i.heap.roots []) (rooted i i.heap.roots i.log)
      (roots_add i good 0 (length i.heap.roots) (omega arith)) (log_adds i good i.log (log_small i good)))
      rows_add

  pub is_content : IsContentOf (content_of i) i
  is_content = record { image = good; agrees = agrees; uncovered = refl; same = refl }

  -- each region was said, and no humongous object goes on
  pub all_closed : ((content_of i).beyond ≡ 0) × ((content_of i).geometry.n ≤ length (content_of i).regions)
  all_closed = (refl, omega (arith, good.heap.region_count))

-- THE LINES OF AN IMAGE ADD UP to the image
pub lines_add_up : LinesAddUp
lines_add_up i good = (
  begun i.heap.geometry i.heap.current (Some (length i.heap.roots)) (Some (length i.log)),
  content_of i,
  said_image i,
  heading_begins i good,
  image_words i good,
  image_adds i good,
  is_content i good,
)

-- LINES WITH THE WORDS of an image's lines say the image
pub lines_say_image : LinesSayImage
lines_say_image i b c lines good begins words adds =
    let first = heading_one (heading i) (begun i.heap.geometry i.heap.current (Some (length i.heap.roots)) (Some (length i.log))) b (heading_begins i good) begins in
    let below : map words_of (said_image i) ≡ map words_of lines = ap (drop 1) (sym (image_words i good) ∙ words) in
    let last = adds_one (said_image i) lines b (content_of i) c below (subst (λ x. Adds x (said_image i) (content_of i)) first (image_adds i good)) adds in
    subst (λ x. IsContentOf x i) last (is_content i good)
