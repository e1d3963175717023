-- Of bytes it can be told whether they begin with a text of some kind.
use Rattle.std.proofs.Common.{◌≡◌, ◌<◌, ◌^◌, ℕ, zero, suc, ◌⊎◌, inl, inr, List, [], ◌∷◌, ◌++◌, length, take, drop, slice_index_or, arith, refl, sym, ap, ◌∙◌, append_assoc}
use Rattle.std.specs.Prelude.{flat_map}
use Rattle.std.proofs.lemmas.Bool.{cases_lt}
use Rattle.std.proofs.lemmas.List.{append-nil}
use Rattle.byteorder.specs.Endian.{little_number}
use Rattle.g1_image.specs.Text.{Entry, Version, u32, u64, flags_text, entry_text, remembered_text, numbers_text}
use Rattle.g1_image.specs.Reading.{Are, IsU32, IsU64, IsBytes, EndsWithin}
use Rattle.g1_image.specs.declared.cursor.Version.TheVariants.{One, Two}
use Rattle.g1_image.specs.Faults.{FlagsFit, EntryFits, RememberedFits}
use Rattle.g1_image.proofs.Numbers.{u32_read, u32_short, u32_once, u64_read, u64_short}
use Rattle.g1_image.proofs.PrefixFree.{IsPrefixFree, Are-none, Came-start, Came-short}
use Rattle.g1_image.proofs.Sequence.{Left, Left-start, Left-step, Left-short}
use Rattle.g1_image.proofs.Parts.{entry_flat}
use Rattle.g1_image.proofs.Files.{suffix}

-- the bytes begin with the text of a value that fits
abbrev pub BeginsWith : {Y : Type 0} → (Y → Type 0) → (Y → List ℕ) → List ℕ → Type 0
BeginsWith {Y} fits text bytes = (y : Y) × (rest : List ℕ) × fits y × (bytes ≡ text y ++ rest)

-- they do, or they begin with none
abbrev pub Told : {Y : Type 0} → (Y → Type 0) → (Y → List ℕ) → List ℕ → Type 0
Told {Y} fits text bytes = BeginsWith fits text bytes ⊎ EndsWithin fits text bytes

-- a number of 32 bits
pub told_u32 : (bytes : List ℕ) → IsBytes bytes → Told IsU32 u32 bytes
told_u32 bytes b = elim (cases_lt (length bytes) 4) [
  | inl lt ↦ inr (λ y rest fits e. u32_short bytes lt y rest e)
  | inr ge ↦
      let x : ℕ = little_number 4 (take 4 bytes) in
      let r = u32_read bytes (take 4 bytes) (drop 4 bytes) x ge b refl refl refl in
      inl (x, drop 4 bytes, r.0, r.1)
]

-- a number of 64 bits
pub told_u64 : (bytes : List ℕ) → IsBytes bytes → Told IsU64 u64 bytes
told_u64 bytes b = elim (cases_lt (length bytes) 8) [
  | inl lt ↦ inr (λ y rest fits e. u64_short bytes lt y rest e)
  | inr ge ↦
      let x : ℕ = little_number 8 (take 8 bytes) in
      let r = u64_read bytes (take 8 bytes) (drop 8 bytes) x ge b refl refl refl in
      inl (x, drop 8 bytes, r.0, r.1)
]

module _ {Y : Type 0} (fits : Y → Type 0) (text : Y → List ℕ) (free : IsPrefixFree fits text) (told : (bytes : List ℕ) → IsBytes bytes → Told fits text bytes) where
  -- each of them, and one more in front, fits
  each_more : (y : Y) (ys : List Y) → fits y → ((k : ℕ) (d : Y) → k < length ys → fits (slice_index_or ys k d)) → (k : ℕ) (d : Y) → k < length (y ∷ ys) → fits (slice_index_or (y ∷ ys) k d)
  each_more y ys f each zero d lt = f
  each_more y ys f each (suc k) d lt = each k d (omega (arith, lt))

  -- one more of so many
  are_more : (n : ℕ) (y : Y) (ys : List Y) → fits y → Are fits n ys → Are fits (suc n) (y ∷ ys)
  are_more n y ys f a = record { how_many = omega (arith, a.how_many); each = each_more y ys f a.each }

  -- where the others aren't there behind the first, not all are
  others_short : (n : ℕ) (y : Y) (after : List ℕ) → fits y → EndsWithin (Are fits n) (flat_map text) after →
      (zs : List Y) (tail : List ℕ) → Are fits (suc n) zs → text y ++ after ≡ flat_map text zs ++ tail → ⊥
  others_short n y after f short [] tail a e = omega (arith, a.how_many)
  others_short n y after f short (z ∷ zs) tail a e =
      let one = free y z after (flat_map text zs ++ tail) f (a.each 0 z (omega arith)) (e ∙ append_assoc (text z) (flat_map text zs) tail) in
      short zs tail (record { how_many = omega (arith, a.how_many); each = λ k d lt. a.each (suc k) d (omega (arith, lt)) }) one.1

  -- so many, one after another
  pub told_many : (n : ℕ) (bytes : List ℕ) → IsBytes bytes → Told (Are fits n) (flat_map text) bytes
  told_many zero bytes b = inl ([], bytes, Are-none fits text free, refl)
  told_many (suc n) bytes b = elim (told bytes b) [
    | inr short ↦ inr (Came-short fits text free bytes 0 (suc n) [] bytes (Came-start fits text free bytes) (omega arith) short)
    | inl one ↦ elim (told_many n one.1 (suffix bytes (text one.0) one.1 one.3 b)) [
      | inr short ↦ inr (λ zs tail a e. others_short n one.0 one.1 one.2 short zs tail a (sym one.3 ∙ e))
      | inl others ↦ inl (
        one.0 ∷ others.0,
        others.1,
        are_more n one.0 others.0 one.2 others.2,
        one.3 ∙ ap (λ l. text one.0 ++ l) others.3 ∙ sym (append_assoc (text one.0) (flat_map text others.0) others.1),
      )
    ]
  ]

-- numbers of 32 bits, one after another
pub told_numbers : (n : ℕ) (bytes : List ℕ) → IsBytes bytes → Told (Are IsU32 n) numbers_text bytes
told_numbers n bytes b = told_many IsU32 u32 (λ x y s t fx fy e. u32_once x y s t fx fy e) told_u32 n bytes b

-- the flags of a region
told_flags : (v : Version) (bytes : List ℕ) → IsBytes bytes → Told (FlagsFit v) (flags_text v) bytes
told_flags One bytes b = inl (0, bytes, refl, refl)
told_flags Two bytes b = told_u32 bytes b

-- an entry of the region table
pub told_entry : (v : Version) (bytes : List ℕ) → IsBytes bytes → Told (EntryFits v) (entry_text v) bytes
told_entry v bytes b = elim (told_u32 bytes b) [
  | inr short ↦ inr (λ y tail fy ey. short y.kind (u32 y.top ++ (flags_text v y.flags ++ tail)) fy.0 (ey ∙ entry_flat v y tail))
  | inl one ↦
      let kind_once : (y : Entry) (tail : List ℕ) → EntryFits v y → bytes ≡ entry_text v y ++ tail → one.1 ≡ u32 y.top ++ (flags_text v y.flags ++ tail) =
      λ y tail fy ey. (u32_once one.0 y.kind one.1 (u32 y.top ++ (flags_text v y.flags ++ tail)) one.2 fy.0 (sym one.3 ∙ ey ∙ entry_flat v y tail)).1 in
      let b1 : IsBytes one.1 = suffix bytes (u32 one.0) one.1 one.3 b in
      elim (told_u32 one.1 b1) [
        | inr short ↦ inr (λ y tail fy ey. short y.top (flags_text v y.flags ++ tail) fy.1 (kind_once y tail fy ey))
        | inl two ↦ elim (told_flags v two.1 (suffix one.1 (u32 two.0) two.1 two.3 b1)) [
          | inr short ↦ inr (λ y tail fy ey.
              short y.flags tail fy.2 (u32_once two.0 y.top two.1 (flags_text v y.flags ++ tail) two.2 fy.1 (sym two.3 ∙ kind_once y tail fy ey)).1)
          | inl three ↦
              let y : Entry = record { kind = one.0; top = two.0; flags = three.0 } in
              inl (y, three.1, (one.2, two.2, three.2), one.3 ∙ ap (λ l. u32 one.0 ++ l) (two.3 ∙ ap (λ l. u32 two.0 ++ l) three.3) ∙ sym (entry_flat v y three.1))
        ]
      ]
]

-- a remembered set
pub told_set : (bytes : List ℕ) → IsBytes bytes → Told RememberedFits remembered_text bytes
told_set bytes b = elim (told_u32 bytes b) [
  | inr short ↦ inr (λ y tail fy ey. short (length y) (numbers_text y ++ tail) fy.0 (ey ∙ append_assoc (u32 (length y)) (numbers_text y) tail))
  | inl one ↦
      let known : Left RememberedFits remembered_text bytes (λ y. Unit {0} × (length y ≡ one.0)) numbers_text one.1 =
      Left-step RememberedFits remembered_text bytes (λ _. Unit {0}) remembered_text bytes (λ y. length y) IsU32 u32 numbers_text
      (Left-start RememberedFits remembered_text bytes) (λ y f h. refl) (λ y f h. f.0) (λ x y s t fx fy e. u32_once x y s t fx fy e) one.0 one.1 one.2 one.3 in
      elim (told_numbers one.0 one.1 (suffix bytes (u32 one.0) one.1 one.3 b)) [
        | inr short ↦ inr (Left-short RememberedFits remembered_text bytes (λ y. Unit {0} × (length y ≡ one.0)) numbers_text one.1 (λ y. y) (Are IsU32 one.0) numbers_text (λ _. [])
            known (λ y f h. sym (append-nil (numbers_text y))) (λ y f h. record { how_many = h.1; each = f.1 }) short)
        | inl cards ↦
            let count : length cards.0 ≡ one.0 = cards.2.how_many in
            let few : length cards.0 < 2 ^ 32 = omega (arith, count, one.2) in
            inl (
              cards.0,
              cards.1,
              (few, cards.2.each),
              one.3 ∙ ap (λ l. u32 one.0 ++ l) cards.3 ∙ sym (append_assoc (u32 one.0) (numbers_text cards.0) cards.1) ∙ ap (λ n. (u32 n ++ numbers_text cards.0) ++ cards.1) (sym count),
            )
      ]
]
