-- The lines of an image have no spaces in their words, and those of objects have their data words behind their slots.
use Rattle.std.proofs.Common.{◌≡◌, ℕ, zero, suc, ◌+◌, ◌-◌, ◌/◌, ◌<◌, Bool, true, false, List, [], ◌∷◌, ◌++◌, length, get_or, drop, map, flat_map, refl, sym, ◌∙◌, ap, subst, arith, append-nil, length-drop, Contains}
use Rattle.std.specs.Prelude.{Option, Some, None, codes, decimal, slice_index, sum_by}
use Rattle.std.specs.List.{AllByRecursion, AllZip, range_with_len}
use Rattle.std.proofs.lemmas.List.{length-take}
use Rattle.g1_words.specs.Heap.{kind, objects_in, object_at, pinned, regions, top}
use Rattle.g1_words.specs.Kind.{kind_word}
use Rattle.g1_words.specs.Valid.{HasObject, IsObject, IsValid}
use Rattle.g1_words.specs.declared.object.Object.{Object}
use Rattle.g1_words.specs.declared.region.Kind.{Kind}
use Rattle.g1_words.specs.declared.region.Region.{Region}
use Rattle.g1_words.specs.declared.region.Kind.TheVariants.{Free, Ordinary, HumongousFirst, Continuation}
use Rattle.g1_words.proofs.Bounds.{object_within}
use Rattle.g1_words.proofs.Computed.{contains_has, in_region_has}
use Rattle.g1_words.proofs.Objects.{object_stands}
use Rattle.g1_words.proofs.Sound.{stands_object}
use Rattle.g1_image.specs.Image.{Image, IsImage, remembered_of}
use Rattle.g1_work.specs.Ranges.{used}
use Rattle.g1_tables.specs.Summary.{cards_line, count_of, count_pinned, regions_line, roots_line, sizes_line, summary_lines, words_line, words_where}
use Rattle.g1_text.specs.Lines.{line_text, text_of, reference_word, current_word, heading, root_line, root_lines, log_lines, pinned_words, region_line, remembered_lines, slot_values, data_values, object_line}
use Rattle.g1_text.proofs.Bounded.{data_small}
use Rattle.g1_text.proofs.Splitting.{IsWord, Small, by_letters}
use Rattle.g1heap_request.specs.declared.options.Part.{Part}
use Rattle.g1heap_request.specs.declared.options.Part.TheVariants as part
use Rattle.g1heap_cli.specs.Hexadecimal.{hexadecimal, object_line_in, region_lines_in, image_lines_in, IsBare, AreInHex, HasHex, object, other}
use Rattle.g1heap_cli.specs.Texts.{IsPartText}
use Rattle.g1heap_cli.proofs.Hexes.{decimal_bare}

-- ---- words without spaces

abbrev pub AreBare : List (List ℕ) → Type 0
AreBare words = AllByRecursion IsBare words

word_bare : (w : List ℕ) → IsWord w → IsBare w
word_bare [] h = tt
word_bare (b ∷ bs) h = ((h.0, h.1), word_bare bs h.2)

numbers_bare : (xs : List ℕ) → AreBare (map decimal xs)
numbers_bare [] = tt
numbers_bare (x ∷ xs) = (decimal_bare x, numbers_bare xs)

reference_bare : (x : ℕ) → IsBare (reference_word x)
reference_bare zero = word_bare (codes "-") (by_letters (codes "-") refl)
reference_bare (suc a) = decimal_bare a

current_bare : (c : Option ℕ) → IsBare (current_word c)
current_bare None = word_bare (codes "none") (by_letters (codes "none") refl)
current_bare (Some r) = decimal_bare r

kind_bare : (k : Kind) → IsBare (kind_word k)
kind_bare Free = word_bare (codes "free") (by_letters (codes "free") refl)
kind_bare Ordinary = word_bare (codes "ordinary") (by_letters (codes "ordinary") refl)
kind_bare HumongousFirst = word_bare (codes "humongous") (by_letters (codes "humongous") refl)
kind_bare Continuation = word_bare (codes "continuation") (by_letters (codes "continuation") refl)

pins_bare : (p : Bool) → AreBare (pinned_words p)
pins_bare true = (word_bare (codes "pinned") (by_letters (codes "pinned") refl), tt)
pins_bare false = tt

bare_append : (xs ys : List ℕ) → IsBare xs → IsBare ys → IsBare (xs ++ ys)
bare_append [] ys p q = q
bare_append (x ∷ xs) ys p q = (p.0, bare_append xs ys p.1 q)

-- ---- lines that stay

stays : (word : List ℕ) (words : List (List ℕ)) → (get_or word 0 0 ≡ 111 → ⊥) → IsBare word → AreBare words → HasHex (word ∷ words) (word ∷ words)
stays word words first bare rest = other (λ e. first (ap (λ l. get_or l 0 0) e)) (bare, rest)

alike_append : (xs ys vs ws : List (List (List ℕ))) → AllZip HasHex xs ys → AllZip HasHex vs ws → AllZip HasHex (xs ++ vs) (ys ++ ws)
alike_append [] [] vs ws p q = q
alike_append [] (y ∷ ys) vs ws p q = absurd p
alike_append (x ∷ xs) [] vs ws p q = absurd p
alike_append (x ∷ xs) (y ∷ ys) vs ws p q = (p.0, alike_append xs ys vs ws p.1 q)

numbered_alike : (f : ℕ → List (List ℕ)) (xs : List ℕ) → ((x : ℕ) → HasHex (f x) (f x)) → AllZip HasHex (map f xs) (map f xs)
numbered_alike f [] each = tt
numbered_alike f (x ∷ xs) each = (each x, numbered_alike f xs each)

ranges_alike : (f g : ℕ → List (List (List ℕ))) (a n : ℕ) → ((r : ℕ) → r < a + n → AllZip HasHex (f r) (g r)) → AllZip HasHex (flat_map f (range_with_len a n)) (flat_map g (range_with_len a n))
ranges_alike f g a zero each = tt
ranges_alike f g a (suc n) each =
    alike_append (f a) (g a) (flat_map f (range_with_len (a + 1) n)) (flat_map g (range_with_len (a + 1) n)) (each a (omega arith)) (ranges_alike f g (a + 1) n (λ r lt. each r (omega (arith, lt))))

members_alike : (f g : Object → List (List ℕ)) (os : List Object) → ((o : Object) → Contains os o → HasHex (f o) (g o)) → AllZip HasHex (map f os) (map g os)
members_alike f g [] each = tt
members_alike f g (o ∷ os) each = (each o (zero, omega arith, refl), members_alike f g os (λ p m. each p (suc m.0, omega (arith, m.1), m.2)))

log_alike : (cards : List ℕ) → AllZip HasHex (log_lines cards) (log_lines cards)
log_alike [] = tt
log_alike (c ∷ cs) = (
  stays (codes "dirty") (codes "cards" ∷ map decimal (c ∷ cs)) (λ e. omega (arith, e)) (word_bare (codes "dirty") (by_letters (codes "dirty") refl))
      (word_bare (codes "cards") (by_letters (codes "cards") refl), numbers_bare (c ∷ cs)),
  tt,
)

remembered_alike : (r : ℕ) (cards : List ℕ) → AllZip HasHex (remembered_lines r cards) (remembered_lines r cards)
remembered_alike r [] = tt
remembered_alike r (c ∷ cs) = (
  stays (codes "remembered") (decimal r ∷ codes "cards" ∷ map decimal (c ∷ cs)) (λ e. omega (arith, e)) (word_bare (codes "remembered") (by_letters (codes "remembered") refl))
      (decimal_bare r, (word_bare (codes "cards") (by_letters (codes "cards") refl), numbers_bare (c ∷ cs))),
  tt,
)

-- a number behind its name
named : (name : List ℕ) → IsWord name → (n : ℕ) (words : List (List ℕ)) → AreBare words → AreBare (name ∷ decimal n ∷ words)
named name is n words bare = (word_bare name is, (decimal_bare n, bare))

-- the lines of a summary
counted_alike : (name : List ℕ) → IsWord name → (get_or name 0 0 ≡ 111 → ⊥) → (n : ℕ) → HasHex (words_line name n) (words_line name n)
counted_alike name is first n = stays name (decimal n ∷ codes "words" ∷ []) first (word_bare name is) (decimal_bare n, (word_bare (codes "words") (by_letters (codes "words") refl), tt))

kinds_alike : (qs : List Region) → HasHex (regions_line qs) (regions_line qs)
kinds_alike qs =
    let free = count_of Free qs in
    let ordinary = count_of Ordinary qs in
    let humongous = count_of HumongousFirst qs in
    let continuation = count_of Continuation qs in
    let last : List (List ℕ) = codes "pinned" ∷ decimal (count_pinned qs) ∷ [] in
    let third : List (List ℕ) = codes "continuation" ∷ decimal continuation ∷ last in
    let second : List (List ℕ) = codes "humongous" ∷ decimal humongous ∷ third in
    let first : List (List ℕ) = codes "ordinary" ∷ decimal ordinary ∷ second in
    stays (codes "regions") (codes "free" ∷ decimal free ∷ first) (λ e. omega (arith, e)) (word_bare (codes "regions") (by_letters (codes "regions") refl))
    (named (codes "free") (by_letters (codes "free") refl) free first
    (named (codes "ordinary") (by_letters (codes "ordinary") refl) ordinary second
    (named (codes "humongous") (by_letters (codes "humongous") refl) humongous third
    (named (codes "continuation") (by_letters (codes "continuation") refl) continuation last
    (named (codes "pinned") (by_letters (codes "pinned") refl) (count_pinned qs) [] tt)))))

module _ (i : Image) where
  heading_alike : HasHex (heading i) (heading i)
  heading_alike =
      stays (codes "heap") (decimal i.heap.geometry.w ∷ decimal i.heap.geometry.k ∷ decimal i.heap.geometry.n
      ∷ codes "roots" ∷ decimal (length i.heap.roots) ∷ codes "dirty" ∷ decimal (length i.log) ∷ codes "current" ∷ current_word i.heap.current ∷ [])
      (λ e. omega (arith, e)) (word_bare (codes "heap") (by_letters (codes "heap") refl)) (
        decimal_bare i.heap.geometry.w,
        (
          decimal_bare i.heap.geometry.k,
          (
            decimal_bare i.heap.geometry.n,
            named (codes "roots") (by_letters (codes "roots") refl) (length i.heap.roots) (codes "dirty" ∷ decimal (length i.log) ∷ codes "current" ∷ current_word i.heap.current ∷ [])
                (named (codes "dirty") (by_letters (codes "dirty") refl) (length i.log) (codes "current" ∷ current_word i.heap.current ∷ [])
                (word_bare (codes "current") (by_letters (codes "current") refl), (current_bare i.heap.current, tt))),
          ),
        ),
      )

  roots_alike : AllZip HasHex (root_lines i.heap.roots) (root_lines i.heap.roots)
  roots_alike = numbered_alike (λ m. root_line m (slice_index i.heap.roots m)) (range_with_len 0 (length i.heap.roots))
      (λ m. stays (codes "root") (decimal m ∷ reference_word (slice_index i.heap.roots m) ∷ []) (λ e. omega (arith, e)) (word_bare (codes "root") (by_letters (codes "root") refl))
      (decimal_bare m, (reference_bare (slice_index i.heap.roots m), tt)))

  region_alike : (r : ℕ) → HasHex (region_line i r) (region_line i r)
  region_alike r =
      stays (codes "region") (decimal r ∷ kind_word (kind i.heap r) ∷ codes "top" ∷ decimal (top i.heap r)
      ∷ codes "objects" ∷ decimal (length (objects_in i.heap r)) ∷ codes "cards" ∷ decimal (length (remembered_of i r)) ∷ pinned_words (pinned i.heap r))
      (λ e. omega (arith, e)) (word_bare (codes "region") (by_letters (codes "region") refl)) (
        decimal_bare r,
        (
          kind_bare (kind i.heap r),
          named (codes "top") (by_letters (codes "top") refl) (top i.heap r) (codes "objects" ∷ decimal (length (objects_in i.heap r)) ∷ codes "cards" ∷ decimal (length (remembered_of i r)) ∷ pinned_words (pinned i.heap r))
              (named (codes "objects") (by_letters (codes "objects") refl) (length (objects_in i.heap r)) (codes "cards" ∷ decimal (length (remembered_of i r)) ∷ pinned_words (pinned i.heap r))
              (named (codes "cards") (by_letters (codes "cards") refl) (length (remembered_of i r)) (pinned_words (pinned i.heap r)) (pins_bare (pinned i.heap r)))),
        ),
      )

  summary_alike : (live : ℕ) → AllZip HasHex (summary_lines i live) (summary_lines i live)
  summary_alike live =
      let sizes : HasHex (sizes_line i.heap.geometry) (sizes_line i.heap.geometry) =
      stays (codes "heap") (decimal i.heap.geometry.w ∷ decimal i.heap.geometry.k ∷ decimal i.heap.geometry.n ∷ []) (λ e. omega (arith, e)) (word_bare (codes "heap") (by_letters (codes "heap") refl))
      (decimal_bare i.heap.geometry.w, (decimal_bare i.heap.geometry.k, (decimal_bare i.heap.geometry.n, tt))) in
      let cards : HasHex (cards_line i) (cards_line i) =
      stays (codes "cards") (codes "remembered" ∷ decimal (sum_by length i.remembered) ∷ codes "dirty" ∷ decimal (length i.log) ∷ []) (λ e. omega (arith, e))
      (word_bare (codes "cards") (by_letters (codes "cards") refl))
      (named (codes "remembered") (by_letters (codes "remembered") refl) (sum_by length i.remembered) (codes "dirty" ∷ decimal (length i.log) ∷ [])
      (named (codes "dirty") (by_letters (codes "dirty") refl) (length i.log) [] tt)) in
      let roots : HasHex (roots_line i.heap.roots) (roots_line i.heap.roots) =
      stays (codes "roots") (decimal (length i.heap.roots) ∷ []) (λ e. omega (arith, e)) (word_bare (codes "roots") (by_letters (codes "roots") refl)) (decimal_bare (length i.heap.roots), tt) in
      let used_words = counted_alike (codes "used") (by_letters (codes "used") refl) (λ e. omega (arith, e)) (used i.heap.regions) in
      let live_words = counted_alike (codes "live") (by_letters (codes "live") refl) (λ e. omega (arith, e)) live in
      let garbage = counted_alike (codes "garbage") (by_letters (codes "garbage") refl) (λ e. omega (arith, e)) (used i.heap.regions - live) in
      (sizes, (kinds_alike i.heap.regions, (used_words, (live_words, (garbage, (cards, (roots, tt)))))))

-- ---- the lines of objects

-- the slots as they are, and behind them the data words
slots_then_data : (n : ℕ) (slots values : List ℕ) → n ≡ length slots → Small values → AreInHex n (map reference_word slots ++ map decimal values) (map reference_word slots ++ map hexadecimal values)
slots_then_data zero [] [] e small = tt
slots_then_data zero [] (x ∷ xs) e small = ((x, small.0, refl, refl), slots_then_data zero [] xs refl small.1)
slots_then_data (suc n) [] values e small = absurd (omega (arith, e))
slots_then_data zero (s ∷ slots) values e small = absurd (omega (arith, e))
slots_then_data (suc n) (s ∷ slots) values e small = (reference_bare s, refl, slots_then_data n slots values (omega (arith, e)) small)

module _ (i : Image) (good : IsImage i) where
  object_alike : (o : Object) → HasObject i.heap o → HasHex (object_line i.heap.words o) (object_line_in true i.heap.words o)
  object_alike o has =
      let valid : IsValid i.heap = good.heap in
      let within = object_within i.heap valid o has in
      let stands = object_stands i.heap o (o.at / i.heap.geometry.w) valid has refl in
      let is : IsObject i.heap.words o = stands_object (kind i.heap (o.at / i.heap.geometry.w)) i.heap (o.at / i.heap.geometry.w) o stands.1 in
      let slots : List ℕ = slot_values i.heap.words o in
      let values : List ℕ = data_values i.heap.words o in
      let taken = length-take (o.at + 1 + o.refs - (o.at + 1)) (drop (o.at + 1) i.heap.words) in
      let left = length-drop (o.at + 1) i.heap.words in
      let long : o.refs ≡ length slots = omega (arith, taken, left, within, valid.word_count, is.refs_fit) in
      let words : List (List ℕ) = map reference_word slots ++ map decimal values in
      let others : List (List ℕ) = map reference_word slots ++ map hexadecimal values in
      let sizes : List ℕ = decimal o.size ++ 47 ∷ decimal o.refs in
      let sizes_bare : IsBare sizes = bare_append (decimal o.size) (47 ∷ decimal o.refs) (decimal_bare o.size) (((λ e. omega (arith, e)), (λ e. omega (arith, e))), decimal_bare o.refs) in
      let all : AreInHex (suc (suc (suc o.refs))) (codes "object" ∷ decimal o.at ∷ sizes ∷ words) (codes "object" ∷ decimal o.at ∷ sizes ∷ others) =
      (word_bare (codes "object") (by_letters (codes "object") refl), refl, (decimal_bare o.at, refl, (sizes_bare, refl, slots_then_data o.refs slots values long (data_small i good o)))) in
      let three : suc (suc (suc o.refs)) ≡ 3 + o.refs = omega arith in
      object (omega (arith, within, valid.limits.words_most)) (omega (arith, is.size_fits)) (omega (arith, is.size_fits, is.refs_fit))
      (subst (λ n. AreInHex n (codes "object" ∷ decimal o.at ∷ sizes ∷ words) (codes "object" ∷ decimal o.at ∷ sizes ∷ others)) three all)

  region_lines_alike : (r : ℕ) → r < i.heap.geometry.n → AllZip HasHex (region_lines_in false i r) (region_lines_in true i r)
  region_lines_alike r lt = (
    region_alike i r,
    alike_append (remembered_lines r (remembered_of i r)) (remembered_lines r (remembered_of i r)) (map (object_line i.heap.words) (objects_in i.heap r)) (map (object_line_in true i.heap.words) (objects_in i.heap r))
        (remembered_alike r (remembered_of i r))
        (members_alike (object_line i.heap.words) (object_line_in true i.heap.words) (objects_in i.heap r)
        (λ o m. object_alike o (in_region_has i.heap r o good.heap.shaped lt m))),
  )

  image_lines_alike : AllZip HasHex (image_lines_in false i) (image_lines_in true i)
  image_lines_alike = (
    heading_alike i,
    alike_append (root_lines i.heap.roots ++ log_lines i.log) (root_lines i.heap.roots ++ log_lines i.log) (flat_map (region_lines_in false i) (regions i.heap)) (flat_map (region_lines_in true i) (regions i.heap))
        (alike_append (root_lines i.heap.roots) (root_lines i.heap.roots) (log_lines i.log) (log_lines i.log) (roots_alike i) (log_alike i.log))
        (ranges_alike (region_lines_in false i) (region_lines_in true i) 0 i.heap.geometry.n (λ r lt. region_lines_alike r (omega (arith, lt)))),
  )

  -- the text of a part, with its data words in hexadecimal
  pub part_in_hex : (p : Part) (text hex : List ℕ) → IsPartText p false i text
      → ((said others : List (List (List ℕ))) → AllZip HasHex said others → text ≡ text_of said → hex ≡ text_of others) → IsPartText p true i hex
  part_in_hex part.Whole text hex is made = made (image_lines_in false i) (image_lines_in true i) image_lines_alike is
  part_in_hex (part.Region r) text hex is made = (is.0, made (region_lines_in false i r) (region_lines_in true i r) (region_lines_alike r is.0) is.1)
  part_in_hex (part.Object a) text hex is made =
      let o : Object = object_at i.heap a in
      let line : List (List ℕ) = object_line i.heap.words o in
      let other : List (List ℕ) = object_line_in true i.heap.words o in
      (is.0, made (line ∷ []) (other ∷ []) (object_alike o (contains_has i.heap o good.heap.shaped is.0), tt) (is.1 ∙ sym (append-nil (line_text line))) ∙ append-nil (line_text other))
  part_in_hex part.Summary text hex is made = record {
    test = is.test;
    passes = is.passes;
    printed = made (summary_lines i (words_where i.heap is.test)) (summary_lines i (words_where i.heap is.test)) (summary_alike i (words_where i.heap is.test)) is.printed;
  }
