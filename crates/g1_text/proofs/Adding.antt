-- What lines of an image say, as far as they were read, and that the lines of objects add the objects' words.
use Rattle.std.proofs.Common.{◌≡◌, ℕ, zero, suc, ◌+◌, ◌-◌, ◌*◌, ◌^◌, ◌<◌, ◌≤◌, Bool, false, List, [], ◌∷◌, ◌++◌, length, get_or, take, drop, map, refl, sym, ◌∙◌, ap, subst, arith, Contains}
use Rattle.std.proofs.Common.{append_assoc, append-nil, length-drop, length-take, length-take-le, drop-drop}
use Rattle.std.specs.Prelude.{Some, All, decimal, codes}
use Rattle.std.specs.List.{range_with_len}
use Rattle.std.proofs.lemmas.List.{drop_more}
use Rattle.std.proofs.Math.Seq.{take-add}
use Rattle.g1_words.specs.Heap.{top, objects_in}
use Rattle.g1_words.specs.Valid.{Tiles}
use Rattle.g1_words.specs.declared.object.Object.{Object}
use Rattle.g1_words.specs.declared.region.Region.{Region}
use Rattle.g1_words.specs.declared.region.Kind.{Kind}
use Rattle.g1_words.specs.declared.region.Kind.TheVariants.{Ordinary}
use Rattle.g1_words.proofs.Tiling.{Tiles-le}
use Rattle.g1_image.specs.Image.{Image, IsImage, remembered_of}
use Rattle.g1_text.specs.Lines.{reference_word, slot_values, data_values, object_line}
use Rattle.g1_text.specs.Content.{Content, Counts, Line, Holds, Takes, Adds, HasSpace, size_with, words_of, top_behind, beyond_behind}
use Rattle.g1_text.proofs.Splitting.{Small}
use Rattle.g1_text.proofs.OneImage.{IsPlain}

-- lines, and lines behind them
pub adds_both : (ls ms : List Line) (c d e : Content) → Adds c ls d → Adds d ms e → Adds c (ls ++ ms) e
adds_both [] ms c d e a b = subst (λ x. Adds x ms e) (sym a) b
adds_both (l ∷ ls) ms c d e a b = (a.0, a.1, adds_both ls ms a.0 d e a.2 b)

-- the same lines, up to content that is the same
pub adds_to : (ls : List Line) (c d e : Content) → d ≡ e → Adds c ls d → Adds c ls e
adds_to ls c d e same a = subst (Adds c ls) same a

pub map_members : {A B : Type 0} (f g : A → B) (xs : List A) → ((x : A) → Contains xs x → f x ≡ g x) → map f xs ≡ map g xs
map_members f g [] each = refl
map_members f g (x ∷ xs) each = let first = each x (zero, omega arith, refl) in let rest = map_members f g xs (λ y m. each y (suc m.0, omega (arith, m.1), m.2)) in λ t. first t ∷ rest t

pub each_small : (xs : List ℕ) → Small xs → All (λ x. x < 2 ^ 64) xs
each_small [] s k d lt = absurd (omega (arith, lt))
each_small (x ∷ xs) s zero d lt = s.0
each_small (x ∷ xs) s (suc k) d lt = each_small xs s.1 k d (omega (arith, lt))

-- the line of an object
abbrev pub said_object : List ℕ → Object → Line
said_object words o = Holds o.at (slot_values words o) (data_values words o)

module _ (words : List ℕ) (o : Object) (plain : IsPlain words o) where
  slot_count : length (slot_values words o) ≡ o.refs
  slot_count =
      omega (arith, length-take (o.at + 1 + o.refs - (o.at + 1)) (drop (o.at + 1) words), length-drop (o.at + 1) words, plain.object.refs_fit, plain.within)

  data_count : length (data_values words o) ≡ o.size - 1 - o.refs
  data_count =
      omega (arith, length-take (o.at + o.size - (o.at + 1 + o.refs)) (drop (o.at + 1 + o.refs) words), length-drop (o.at + 1 + o.refs) words, plain.object.refs_fit, plain.within)

  size_is : size_with (slot_values words o) (data_values words o) ≡ o.size
  size_is = omega (arith, slot_count, data_count, plain.object.refs_fit)

  -- its words are those of the line that the image has
  pub object_words : words_of (said_object words o) ≡ object_line words o
  object_words =
      λ t. codes "object" ∷ decimal o.at ∷ (decimal (size_is t) ++ 47 ∷ decimal (slot_count t)) ∷ (map reference_word (slot_values words o) ++ map decimal (data_values words o))

  -- header, slots and data are the object's words
  all_words : (size_with (slot_values words o) (data_values words o) * 2 ^ 32 + length (slot_values words o)) ∷ (slot_values words o ++ data_values words o) ≡ take o.size (drop o.at words)
  all_words =
      let header : size_with (slot_values words o) (data_values words o) * 2 ^ 32 + length (slot_values words o) ≡ get_or words o.at 0 =
      (λ t. size_is t * 2 ^ 32 + slot_count t) ∙ sym plain.object.header in
      let behind : List ℕ = drop (o.at + 1) words in
      let slots : slot_values words o ≡ take o.refs behind = (let e : o.at + 1 + o.refs - (o.at + 1) ≡ o.refs = omega arith in ap (λ n. take n behind) e) in
      let rest : o.at + o.size - (o.at + 1 + o.refs) ≡ o.size - 1 - o.refs = omega arith in
      let values : data_values words o ≡ take (o.size - 1 - o.refs) (drop o.refs behind) =
      ap (λ n. take n (drop (o.at + 1 + o.refs) words)) rest ∙ ap (take (o.size - 1 - o.refs)) (sym (drop-drop o.refs (o.at + 1) words)) in
      let whole : suc (o.refs + (o.size - 1 - o.refs)) ≡ o.size = omega (arith, plain.object.refs_fit) in
      let first : drop o.at words ≡ get_or words o.at 0 ∷ behind = drop_more words o.at 0 (omega (arith, plain.object.refs_fit, plain.within)) in
      (λ t. header t ∷ (slots t ++ values t)) ∙ ap (λ l. get_or words o.at 0 ∷ l) (sym (take-add o.refs (o.size - 1 - o.refs) behind))
      ∙ ap (take (suc (o.refs + (o.size - 1 - o.refs)))) (sym first) ∙ ap (λ n. take n (drop o.at words)) whole

abbrev pub address_of : Object → ℕ
address_of o = o.at

-- what is said of an image's parts beside its heading, its roots and its log, which were read
abbrev pub read_so_far : Image → List Region → List (List ℕ) → List ℕ → ℕ → List Counts → List ℕ → Content
read_so_far i regions remembered words beyond counts ats = record {
  geometry = i.heap.geometry;
  current = i.heap.current;
  root_count = Some (length i.heap.roots);
  dirty_count = Some (length i.log);
  roots = i.heap.roots;
  log = i.log;
  regions = regions;
  remembered = remembered;
  words = words;
  beyond = beyond;
  covered = false;
  counts = counts;
  addresses = ats;
}

-- the counts of a region's line, of whose objects some were found
abbrev pub counts_with : Image → ℕ → ℕ → Counts
counts_with i r found =
    record { region = r; top = Some (top i.heap r); objects = Some (length (objects_in i.heap r)); cards = Some (length (remembered_of i r)); found = found }

-- the counts of a region's line, whose objects were all found
abbrev pub counts_at : Image → ℕ → Counts
counts_at i r = counts_with i r (length (objects_in i.heap r))

-- what is said with a first part of region r: its used words so far, and how many objects were found
abbrev pub within_region : Image → ℕ → Bool → List (List ℕ) → Kind → List ℕ → ℕ → ℕ → ℕ → List ℕ → Content
within_region i r p remembered k words beyond t found ats =
    read_so_far i (take r i.heap.regions ++ record { kind = k; top = t; pinned = p } ∷ []) remembered words beyond (map (counts_at i) (range_with_len 0 r) ++ counts_with i r found ∷ []) ats

module _ (i : Image) (good : IsImage i) (r : ℕ) (below : r < i.heap.geometry.n) (p : Bool) (remembered : List (List ℕ)) where
  regions_below : length (take r i.heap.regions) ≡ r
  regions_below = length-take-le r i.heap.regions (omega (arith, below, good.heap.region_count))

  -- ONE OBJECT adds its words
  pub object_adds : (k : Kind) (words : List ℕ) (beyond t found : ℕ) (ats : List ℕ) (o : Object) → IsPlain i.heap.words o → o.at ≡ r * i.heap.geometry.w + t → HasSpace k i.heap.geometry r t o.size
      → found + 1 < 2 ^ 64
      → Takes (within_region i r p remembered k words beyond t found ats) (said_object i.heap.words o)
      (within_region i r p remembered k (words ++ take o.size (drop o.at i.heap.words)) (beyond_behind k i.heap.geometry beyond o.size) (top_behind k i.heap.geometry t o.size) (found + 1) (ats ++ o.at ∷ []))
  object_adds k words beyond t found ats o plain at room few =
      let size = size_is i.heap.words o plain in
      let added = all_words i.heap.words o plain in
      let here : r * i.heap.geometry.w ≡ length (take r i.heap.regions) * i.heap.geometry.w = ap (λ x. x * i.heap.geometry.w) (sym regions_below) in (
        take r i.heap.regions,
        record { kind = k; top = t; pinned = p },
        map (counts_at i) (range_with_len 0 r),
        counts_with i r found,
        refl,
        refl,
        omega (arith, regions_below, below),
        at ∙ ap (λ x. x + t) here,
        plain.at,
        subst (λ x. HasSpace k i.heap.geometry x t (size_with (slot_values i.heap.words o) (data_values i.heap.words o))) (sym regions_below) (subst (HasSpace k i.heap.geometry r t) (sym size) room),
        omega (arith, size, plain.object.size_fits),
        each_small (slot_values i.heap.words o) plain.slots,
        each_small (data_values i.heap.words o) plain.data_words,
        few,
        (λ s. within_region i r p remembered k (words ++ sym added s) (beyond_behind k i.heap.geometry beyond (sym size s)) (top_behind k i.heap.geometry t (sym size s)) (found + 1) (ats ++ o.at ∷ [])),
      )

  -- OBJECTS END TO END in an ordinary region add the words from the first one on
  pub objects_add : (os : List Object) (words : List ℕ) (beyond t last found : ℕ) (ats : List ℕ) → Tiles i.heap.words (r * i.heap.geometry.w + t) os (r * i.heap.geometry.w + last) → last ≤ i.heap.geometry.w
      → ((o : Object) → Contains os o → IsPlain i.heap.words o × (4 * o.size ≤ 3 * i.heap.geometry.w)) → found + length os < 2 ^ 64
      → Adds (within_region i r p remembered Ordinary words beyond t found ats) (map (said_object i.heap.words) os)
      (within_region i r p remembered Ordinary (words ++ take (last - t) (drop (r * i.heap.geometry.w + t) i.heap.words)) beyond last (found + length os) (ats ++ map address_of os))
  objects_add [] words beyond t last found ats tiles fits each few =
      let same : t ≡ last = omega (arith, tiles) in
      let none : 0 ≡ last - t = omega (arith, same) in
      let all : found ≡ found + 0 = omega arith in
      let here : List ℕ = drop (r * i.heap.geometry.w + t) i.heap.words in
      let more : words ≡ words ++ take (last - t) here = sym (append-nil words) ∙ ap (λ n. words ++ take n here) none in
      λ s. within_region i r p remembered Ordinary (more s) beyond (same s) (all s) (sym (append-nil ats) s)
  objects_add (o ∷ os) words beyond t last found ats tiles fits each few =
      let w : ℕ = i.heap.geometry.w in
      let plain = (each o (zero, omega arith, refl)).0 in
      let end : r * w + t + o.size ≤ r * w + last = Tiles-le i.heap.words (r * w + t + o.size) os (r * w + last) tiles.2 in
      let next : r * w + t + o.size ≡ r * w + (t + o.size) = omega arith in
      let here : List ℕ = drop (r * w + t) i.heap.words in
      let parts : take o.size (drop o.at i.heap.words) ++ take (last - (t + o.size)) (drop (r * w + (t + o.size)) i.heap.words) ≡ take (last - t) here =
      ap (λ a. take o.size (drop a i.heap.words) ++ take (last - (t + o.size)) (drop (r * w + (t + o.size)) i.heap.words)) tiles.0
      ∙ ap (λ l. take o.size here ++ take (last - (t + o.size)) l) (ap (λ a. drop a i.heap.words) (sym next) ∙ sym (drop-drop o.size (r * w + t) i.heap.words))
      ∙ sym (take-add o.size (last - (t + o.size)) here)
      ∙ (let count : o.size + (last - (t + o.size)) ≡ last - t = omega (arith, end) in ap (λ n. take n here) count) in
      let more : (words ++ take o.size (drop o.at i.heap.words)) ++ take (last - (t + o.size)) (drop (r * w + (t + o.size)) i.heap.words) ≡ words ++ take (last - t) here =
      append_assoc words (take o.size (drop o.at i.heap.words)) (take (last - (t + o.size)) (drop (r * w + (t + o.size)) i.heap.words)) ∙ ap (λ l. words ++ l) parts in
      let found_all : found + 1 + length os ≡ found + length (o ∷ os) = omega arith in
      let rest = objects_add os (words ++ take o.size (drop o.at i.heap.words)) beyond (t + o.size) last (found + 1) (ats ++ o.at ∷ [])
      (subst (λ a. Tiles i.heap.words a os (r * w + last)) next tiles.2) fits (λ q m. each q (suc m.0, omega (arith, m.1), m.2)) (omega (arith, few)) in (
        within_region i r p remembered Ordinary (words ++ take o.size (drop o.at i.heap.words)) beyond (t + o.size) (found + 1) (ats ++ o.at ∷ []),
        object_adds Ordinary words beyond t found ats o plain tiles.0 ((each o (zero, omega arith, refl)).1, omega (arith, end, fits)) (omega (arith, few)),
        adds_to (map (said_object i.heap.words) os) (within_region i r p remembered Ordinary (words ++ take o.size (drop o.at i.heap.words)) beyond (t + o.size) (found + 1) (ats ++ o.at ∷ []))
            (within_region i r p remembered Ordinary
            ((words ++ take o.size (drop o.at i.heap.words)) ++ take (last - (t + o.size)) (drop (r * w + (t + o.size)) i.heap.words)) beyond last (found + 1 + length os) ((ats ++ o.at ∷ []) ++ map address_of os))
            (within_region i r p remembered Ordinary (words ++ take (last - t) here) beyond last (found + length (o ∷ os)) (ats ++ map address_of (o ∷ os)))
            (λ s. within_region i r p remembered Ordinary (more s) beyond last (found_all s) (append_assoc ats (o.at ∷ []) (map address_of os) s)) rest,
      )
