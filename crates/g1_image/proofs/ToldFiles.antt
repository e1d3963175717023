-- Of bytes it can be told whether they are a whole file's text, and else which fault they have.
use Rattle.std.proofs.Common.{◌≡◌, ◌≢◌, ◌<◌, ◌≤◌, ◌+◌, ◌*◌, ◌^◌, ℕ, ◌⊎◌, inl, inr, List, ◌++◌, length, take, drop, slice_index, arith, refl, sym, ap, ◌∙◌, append_assoc, length-drop}
use Rattle.std.specs.Int.{IsPowerOfTwo}
use Rattle.std.specs.Int.Count.{ones}
use Rattle.std.proofs.lemmas.Bool.{cases_lt}
use Rattle.byteorder.specs.Endian.{little_number}
use Rattle.g1_words.specs.Geometry.{IsWithin, IsWithinBounds, IsWithinLimits, most_card_words, most_region_words, most_regions, most_roots, most_words, specified_region_words, specified_words}
use Rattle.g1_words.proofs.Powers.{power_of_ones, ones_of_power}
use Rattle.g1_words.specs.declared.fault.Fault.{Fault}
use Rattle.g1_words.specs.declared.fault.Fault.TheVariants as fault
use Rattle.g1_words.specs.declared.limits.Limits.{Limits}
use Rattle.g1_words.specs.declared.limits.Limits.TheVariants.{Specified, Wide}
use Rattle.g1_image.specs.declared.cursor.Heading.{Heading}
use Rattle.g1_image.specs.declared.cursor.Version.TheVariants.{One, Two}
use Rattle.g1_image.specs.Text.{Entry, Version, u32, u64, magic, heading_text, table_text, words_text, numbers_text, remembered_texts, entry_text, remembered_text, table_words}
use Rattle.g1_image.specs.Reading.{IsU64, IsBytes}
use Rattle.g1_image.specs.Faults.{HeadingFits, IsGoodHeading, EntryFits, RememberedFits, FaultWithin}
use Rattle.g1_image.specs.Plain.{PlainIs}
use Rattle.g1_image.proofs.Numbers.{u32_read, u64_once}
use Rattle.g1_image.proofs.Parts.{entry_free, set_free}
use Rattle.g1_image.proofs.Used.{agree}
use Rattle.g1_image.proofs.Files.{suffix, short_table, short_roots, short_log, short_remembered, short_words, trailing, plain_is}
use Rattle.g1_image.proofs.Decided.{Decided, decided_as, decided_both, decided_under, decided_lt, decided_le, decided_eq, first_breach}
use Rattle.g1_image.proofs.ToldTexts.{told_u64, told_many, told_numbers, told_entry, told_set}

-- a power of two
pub decided_power : (n : ℕ) → Decided (IsPowerOfTwo n)
decided_power n = decided_as (ones n ≡ 1) (IsPowerOfTwo n) (power_of_ones (n + 1) n (omega arith)) (λ p. ap ones p.1 ∙ ones_of_power p.0) (decided_eq (ones n) 1)

-- sizes within the bounds
decided_bounds : (w k n : ℕ) → Decided (IsWithinBounds w k n)
decided_bounds w k n =
    let W : Type 0 = IsPowerOfTwo w × ((16 ≤ w) × (w ≤ most_region_words)) in
    let K : Type 0 = IsPowerOfTwo k × ((4 ≤ k) × ((k ≤ most_card_words) × (k ≤ w))) in
    let N : Type 0 = (1 ≤ n) × ((n ≤ most_regions) × (n * w ≤ most_words)) in
    decided_as (W × (K × N)) (IsWithinBounds w k n)
    (λ p. record {
      w_power = p.0.0;
      w_least = p.0.1.0;
      w_most = p.0.1.1;
      k_power = p.1.0.0;
      k_least = p.1.0.1.0;
      k_most = p.1.0.1.1.0;
      k_in_w = p.1.0.1.1.1;
      n_least = p.1.1.0;
      n_most = p.1.1.1.0;
      words_most = p.1.1.1.1;
    })
    (λ l. ((l.w_power, (l.w_least, l.w_most)), ((l.k_power, (l.k_least, (l.k_most, l.k_in_w))), (l.n_least, (l.n_most, l.words_most)))))
    (decided_both W (K × N)
    (decided_both (IsPowerOfTwo w) ((16 ≤ w) × (w ≤ most_region_words)) (decided_power w) (decided_both (16 ≤ w) (w ≤ most_region_words) (decided_le 16 w) (decided_le w most_region_words)))
    (decided_both K N
    (decided_both (IsPowerOfTwo k) ((4 ≤ k) × ((k ≤ most_card_words) × (k ≤ w))) (decided_power k)
    (decided_both (4 ≤ k) ((k ≤ most_card_words) × (k ≤ w)) (decided_le 4 k) (decided_both (k ≤ most_card_words) (k ≤ w) (decided_le k most_card_words) (decided_le k w))))
    (decided_both (1 ≤ n) ((n ≤ most_regions) × (n * w ≤ most_words)) (decided_le 1 n)
    (decided_both (n ≤ most_regions) (n * w ≤ most_words) (decided_le n most_regions) (decided_le (n * w) most_words)))))

-- sizes within the limits of the specification
pub decided_limits : (w k n : ℕ) → Decided (IsWithinLimits w k n)
decided_limits w k n =
    let P : Type 0 = (w ≤ specified_region_words) × (n * w ≤ specified_words) in
    decided_as (IsWithinBounds w k n × P) (IsWithinLimits w k n)
    (λ p. record { bounds = p.0; w_specified = p.1.0; words_specified = p.1.1 })
    (λ l. (l.bounds, (l.w_specified, l.words_specified)))
    (decided_both (IsWithinBounds w k n) P (decided_bounds w k n)
    (decided_both (w ≤ specified_region_words) (n * w ≤ specified_words) (decided_le w specified_region_words) (decided_le (n * w) specified_words)))

-- sizes within these limits
decided_within : (limits : Limits) (w k n : ℕ) → Decided (IsWithin limits w k n)
decided_within Specified w k n = decided_limits w k n
decided_within Wide w k n = decided_bounds w k n

-- a heading within these limits
decided_heading : (limits : Limits) (h : Heading) → Decided (IsGoodHeading limits h)
decided_heading limits h =
    decided_as (IsWithin limits h.w h.k h.n × ((h.roots ≤ most_roots) × (h.current ≤ h.n))) (IsGoodHeading limits h)
    (λ p. record { sizes = p.0; roots = p.1.0; current = p.1.1 })
    (λ g. (g.sizes, (g.roots, g.current)))
    (decided_both (IsWithin limits h.w h.k h.n) ((h.roots ≤ most_roots) × (h.current ≤ h.n)) (decided_within limits h.w h.k h.n)
    (decided_both (h.roots ≤ most_roots) (h.current ≤ h.n) (decided_le h.roots most_roots) (decided_le h.current h.n)))

-- a number of 32 bits, and the bytes behind it
record Number (bytes : List ℕ) : Type 0 where
  x : ℕ
  rest : List ℕ
  fits : x < 2 ^ 32
  text : bytes ≡ u32 x ++ rest
  left : length bytes ≡ 4 + length rest
  are_bytes : IsBytes rest

-- the number at the front of enough bytes
number : (bytes : List ℕ) → IsBytes bytes → 4 ≤ length bytes → Number bytes
number bytes b le =
    let r = u32_read bytes (take 4 bytes) (drop 4 bytes) (little_number 4 (take 4 bytes)) le b refl refl refl in
    record {
      x = little_number 4 (take 4 bytes);
      rest = drop 4 bytes;
      fits = r.0;
      text = r.1;
      left = omega (arith, le, length-drop 4 bytes);
      are_bytes = suffix bytes (u32 (little_number 4 (take 4 bytes))) (drop 4 bytes) r.1 b;
    }

-- a heading's text, number by number
one_by_one : (h : Heading) (r : List ℕ) → heading_text h ++ r ≡ u32 h.w ++ (u32 h.k ++ (u32 h.n ++ (u32 h.roots ++ (u32 h.dirty ++ (u32 h.current ++ r)))))
one_by_one h r = simp append_assoc

-- six numbers, one behind another, are a heading
six_numbers : (h : Heading) (bytes r1 r2 r3 r4 r5 r6 : List ℕ) → bytes ≡ u32 h.w ++ r1 → r1 ≡ u32 h.k ++ r2 → r2 ≡ u32 h.n ++ r3 →
    r3 ≡ u32 h.roots ++ r4 → r4 ≡ u32 h.dirty ++ r5 → r5 ≡ u32 h.current ++ r6 →
    bytes ≡ heading_text h ++ r6
six_numbers h bytes r1 r2 r3 r4 r5 r6 a b c d e f =
    a ∙ ap (λ l. u32 h.w ++ l) (b ∙ ap (λ l. u32 h.k ++ l) (c ∙ ap (λ l. u32 h.n ++ l) (d ∙ ap (λ l. u32 h.roots ++ l) (e ∙ ap (λ l. u32 h.dirty ++ l) f)))) ∙ sym (one_by_one h r6)

-- the heading at the front of enough bytes
heading : (bytes : List ℕ) → IsBytes bytes → 24 ≤ length bytes → (h : Heading) × (rest : List ℕ) × HeadingFits h × (bytes ≡ heading_text h ++ rest)
heading bytes b le =
    let w : Number bytes = number bytes b (omega (arith, le)) in
    let k : Number w.rest = number w.rest w.are_bytes (omega (arith, le, w.left)) in
    let n : Number k.rest = number k.rest k.are_bytes (omega (arith, le, w.left, k.left)) in
    let r : Number n.rest = number n.rest n.are_bytes (omega (arith, le, w.left, k.left, n.left)) in
    let d : Number r.rest = number r.rest r.are_bytes (omega (arith, le, w.left, k.left, n.left, r.left)) in
    let c : Number d.rest = number d.rest d.are_bytes (omega (arith, le, w.left, k.left, n.left, r.left, d.left)) in
    let h : Heading = record { w = w.x; k = k.x; n = n.x; roots = r.x; dirty = d.x; current = c.x } in (
      h,
      c.rest,
      record { w = w.fits; k = k.fits; n = n.fits; roots = r.fits; dirty = d.fits; current = c.fits },
      six_numbers h bytes w.rest k.rest n.rest r.rest d.rest c.rest w.text k.text n.text r.text d.text c.text,
    )

-- the bytes have a fault
abbrev pub AnyFault : Limits → List ℕ → Type 0
AnyFault limits bytes = (e : Fault) × FaultWithin limits bytes e

-- the bytes begin with the magic and a heading within these limits
abbrev Opened : Limits → List ℕ → Type 0
Opened limits bytes = (v : Version) × (h : Heading) × (rest : List ℕ) × HeadingFits h × IsGoodHeading limits h × (bytes ≡ magic v ++ (heading_text h ++ rest))

-- the byte at a place, if it is there, is the magic's
abbrev AgreesAt : Version → List ℕ → ℕ → Type 0
AgreesAt v bytes i = i < length bytes → slice_index bytes i ≡ slice_index (magic v) i

-- the place of a byte that differs from the magic's
abbrev Differs : List ℕ → Version → Type 0
Differs bytes v = (i : ℕ) × (i < 8) × (i < length bytes) × (slice_index bytes i ≢ slice_index (magic v) i)

-- where a byte doesn't agree, it is there and differs
differs : (v : Version) (bytes : List ℕ) (i : ℕ) → i < 8 → (AgreesAt v bytes i → ⊥) → Differs bytes v
differs v bytes i lt n = elim (cases_lt i (length bytes)) [
  | inl in_bytes ↦ (i, lt, in_bytes, λ e. n (λ _. e))
  | inr ge ↦ absurd (n (λ l. absurd (omega (arith, l, ge))))
]

-- the bytes that are there agree with a version's magic, or one differs
told_magic : (v : Version) (bytes : List ℕ) → ((i : ℕ) → i < 8 → AgreesAt v bytes i) ⊎ Differs bytes v
told_magic v bytes =
    elim (first_breach (AgreesAt v bytes) (λ i. decided_under (i < length bytes) (slice_index bytes i ≡ slice_index (magic v) i)
    (decided_lt i (length bytes)) (decided_eq (slice_index bytes i) (slice_index (magic v) i))) 8) [
      | inl agrees ↦ inl agrees
      | inr x ↦ inr (differs v bytes x.0 x.1.within x.1.breach)
    ]

-- the heading behind the magic
told_heading : (limits : Limits) (v : Version) (bytes rest : List ℕ) → IsBytes bytes → bytes ≡ magic v ++ rest → Opened limits bytes ⊎ AnyFault limits bytes
told_heading limits v bytes rest b e = elim (cases_lt (length rest) 24) [
  | inl lt ↦ inr (fault.Short, inr (inl (v, rest, e, lt)))
  | inr ge ↦
      let h = heading rest (suffix bytes (magic v) rest e b) ge in
      let text : bytes ≡ magic v ++ (heading_text h.0 ++ h.1) = e ∙ ap (λ l. magic v ++ l) h.3 in
      elim (decided_heading limits h.0) [
        | inl good ↦ inl (v, h.0, h.1, h.2, good, text)
        | inr bad ↦ inr (fault.Geometry, (v, h.0, h.1, h.2, text, bad))
      ]
]

-- what stands behind bytes that agree with a version's magic
told_version : (limits : Limits) (v : Version) (bytes : List ℕ) → IsBytes bytes → ((i : ℕ) → i < 8 → AgreesAt v bytes i) → Opened limits bytes ⊎ AnyFault limits bytes
told_version limits v bytes b agrees = elim (cases_lt (length bytes) 8) [
  | inl lt ↦ inr (
    fault.Short,
    inl (v, drop (length bytes) (magic v), agree bytes (magic v) (omega (arith, lt)) (λ i l. agrees i (omega (arith, l, lt)) l), omega (arith, lt, length-drop (length bytes) (magic v))),
  )
  | inr ge ↦ told_heading limits v bytes (drop 8 bytes) b (agree (magic v) bytes ge (λ i l. sym (agrees i l (omega (arith, l, ge)))))
]

-- the magic and the heading
told_opening : (limits : Limits) (bytes : List ℕ) → IsBytes bytes → Opened limits bytes ⊎ AnyFault limits bytes
told_opening limits bytes b = elim (told_magic One bytes) [
  | inl agrees ↦ told_version limits One bytes b agrees
  | inr one ↦ elim (told_magic Two bytes) [
    | inl agrees ↦ told_version limits Two bytes b agrees
    | inr two ↦ inr (fault.Magic, by one two)
  ]
]
  where
    by : Differs bytes One → Differs bytes Two → (v : Version) → Differs bytes v
    by one two One = one
    by one two Two = two

-- the bytes are those of a whole file
abbrev pub IsPlain : Limits → List ℕ → Type 0
IsPlain limits bytes = (v : Version) × (h : Heading) × (table : List Entry) × (roots : List ℕ) × (log : List ℕ) × (remembered : List (List ℕ))
    × (words : List ℕ) × PlainIs limits bytes v h table roots log remembered words

-- what stands behind the heading
told_body : (limits : Limits) (bytes : List ℕ) → IsBytes bytes → Opened limits bytes → IsPlain limits bytes ⊎ AnyFault limits bytes
told_body limits bytes b o =
    let v : Version = o.0 in
    let h : Heading = o.1 in
    let rest : List ℕ = o.2 in
    let b0 : IsBytes rest = suffix (heading_text h ++ rest) (heading_text h) rest refl (suffix bytes (magic v) (heading_text h ++ rest) o.5 b) in
    elim (told_many (EntryFits v) (entry_text v) (entry_free v) (told_entry v) h.n rest b0) [
      | inr s ↦ inr (fault.Short, short_table _ bytes rest v h o.3 o.4 o.5 s)
      | inl t ↦
          let b1 : IsBytes t.1 = suffix rest (table_text v t.0) t.1 t.3 b0 in
          elim (told_many IsU64 u64 (λ x y s t fx fy e. u64_once x y s t fx fy e) told_u64 h.roots t.1 b1) [
            | inr s ↦ inr (fault.Short, short_roots _ bytes rest v h o.3 o.4 o.5 t.0 t.1 t.2 t.3 s)
            | inl r ↦
                let b2 : IsBytes r.1 = suffix t.1 (words_text r.0) r.1 r.3 b1 in
                elim (told_numbers h.dirty r.1 b2) [
                  | inr s ↦ inr (fault.Short, short_log _ bytes rest v h o.3 o.4 o.5 t.0 t.1 t.2 t.3 r.0 r.1 r.2 r.3 s)
                  | inl l ↦
                      let b3 : IsBytes l.1 = suffix r.1 (numbers_text l.0) l.1 l.3 b2 in
                      elim (told_many RememberedFits remembered_text set_free told_set h.n l.1 b3) [
                        | inr s ↦ inr (fault.Short, short_remembered _ bytes rest v h o.3 o.4 o.5 t.0 t.1 t.2 t.3 r.0 r.1 r.2 r.3 l.0 l.1 l.2 l.3 s)
                        | inl s ↦
                            let b4 : IsBytes s.1 = suffix l.1 (remembered_texts s.0) s.1 s.3 b3 in
                            elim (cases_lt (length s.1) (8 * table_words t.0)) [
                              | inl lt ↦ inr (fault.Short, short_words _ bytes rest v h o.3 o.4 o.5 t.0 t.1 t.2 t.3 r.0 r.1 r.2 r.3 l.0 l.1 l.2 l.3 s.0 s.1 s.2 s.3 lt)
                              | inr ge ↦ elim (cases_lt (8 * table_words t.0) (length s.1)) [
                                | inl more ↦ inr (fault.Trailing, trailing _ bytes rest v h o.3 o.4 o.5 t.0 t.1 t.2 t.3 r.0 r.1 r.2 r.3 l.0 l.1 l.2 l.3 s.0 s.1 s.2 s.3 b4 ge more)
                                | inr le ↦ inl (
                                  v,
                                  h,
                                  t.0,
                                  r.0,
                                  l.0,
                                  s.0,
                                  s.1,
                                  plain_is _ bytes rest v h o.3 o.4 o.5 t.0 t.1 t.2 t.3 r.0 r.1 r.2 r.3 l.0 l.1 l.2 l.3 s.0 s.1 s.2 s.3 b4 ge (omega (arith, ge, le)),
                                )
                              ]
                            ]
                      ]
                ]
          ]
    ]

-- bytes are a whole file's text or have a fault
pub told_file : (limits : Limits) (bytes : List ℕ) → IsBytes bytes → IsPlain limits bytes ⊎ AnyFault limits bytes
told_file limits bytes b = elim (told_opening limits bytes b) [ inr e ↦ inr e | inl o ↦ told_body limits bytes b o ]
