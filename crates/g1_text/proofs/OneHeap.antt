-- An image whose text is that of a filled file has this file's heap.
use Rattle.std.proofs.Common.{◌≡◌, ◌<◌, inl, inr, ℕ, ◌+◌, ◌*◌, ◌%◌, ◌^◌, Bool, true, false, T, List, [], ◌∷◌, ◌++◌, length, drop, map, flat_map, slice_index, slice_index_or, bit_xor, append-nil, length-append, refl, sym, ◌∙◌, ap, subst, arith, Contains, zero, suc}
use Rattle.std.specs.Prelude.{Option, Some, None, IfSome, unwrap_or, if◌then◌else◌, nat_lt, ◌==◌, All, to_bits, codes}
use Rattle.std.specs.List.{AllZip, range_with_len}
use Rattle.std.specs.Option.{option_map, option_and_then}
use Rattle.std.specs.Float.Parse.{parse_float, read_float, read_unsigned, read_word, begins_with, sign_len}
use Rattle.std.specs.Float.Numeral.{minus, scan_numeral, has_digits}
use Rattle.std.proofs.lemmas.List.{get_or_past}
use Rattle.std.proofs.lemmas.List.FromFn.{length-range_with_len}
use Rattle.std.proofs.lemmas.List.Elements.{All-nil, All-cons, All-append, All-map}
use Rattle.std.proofs.lemmas.Bool.{cases_lt}
use lib.Ieee.{Float, binary64, fits}
use lib.Ieee.Fits.{round-fits, nan-fits, inf-fits}
use lib.Ieee.Bits.{to_bits-lt}
use Rattle.g1_words.specs.declared.limits.Limits.TheVariants.{Wide}
use Rattle.g1_words.specs.declared.region.Region.{Region}
use Rattle.g1_image.specs.Text.{File, heading_of, file_text, table_text, words_text, numbers_text, remembered_texts, entry_text, table_words}
use Rattle.g1_image.specs.declared.cursor.Version.TheVariants.{Two}
use Rattle.g1_image.specs.Reading.{Are, IsU64}
use Rattle.g1_image.specs.Faults.{EntryFits, FileFits}
use Rattle.g1_image.specs.Image.{Image, IsTextWithin, entry_of, region_of_entry, all_words, flags_of, file_of, heap_of}
use Rattle.g1_image.proofs.PrefixFree.{Are-free}
use Rattle.g1_image.proofs.Parts.{magic_free, heading_free, entry_free}
use Rattle.g1_image.proofs.Files.{numbers_free, words_free}
use Rattle.g1_image.proofs.Words.{length-words_text, table_words-cons}
use Rattle.g1_image.proofs.FileOf.{file_fits, heap_of_file, kind_fits}
use Rattle.g1_text.specs.Forms.{StandsFor, hash_behind}
use Rattle.g1_text.specs.Graphs.{NamedObject, NamedGraph, size_of}
use Rattle.g1_text.specs.ByName.{place_of}
use Rattle.g1_text.specs.Carried.{word_for, root_value}
use Rattle.g1_text.specs.Drafts.{HeapFits}
use Rattle.g1_text.specs.Filled.{AreWordsOf}
use Rattle.g1_text.specs.Laid.{used_addresses, IsAddress}
use Rattle.g1_text.proofs.HeapWords.{split_front}

-- ONE HEAP: two files with one text have one heap
pub same_heap : (f g : File) → HeapFits f → FileFits Wide g → file_text f ≡ file_text g → heap_of f ≡ heap_of g
same_heap f g ff fg e =
    let v = magic_free f.version g.version _ _ e in
    let h = heading_free (heading_of f) (heading_of g) _ _ ff.heading fg.heading v.1 in
    let entries : Are (EntryFits g.version) g.n f.table = subst (λ u. Are (EntryFits u) g.n f.table) v.0 (subst (λ n. Are (EntryFits f.version) n f.table) (λ i. (h.0 i).n) ff.table) in
    let rest : List ℕ = words_text f.roots ++ (numbers_text f.log ++ (remembered_texts f.remembered ++ words_text f.words)) in
    let a = Are-free (EntryFits g.version) (entry_text g.version) (entry_free g.version) g.n f.table g.table rest _ entries fg.table (ap (λ u. table_text u f.table ++ rest) (sym v.0) ∙ h.1) in
    let b = words_free (length g.roots) f.roots g.roots _ _ (record { how_many = λ i. (h.0 i).roots; each = ff.roots }) (record { how_many = refl; each = fg.roots }) a.1 in
    let c = numbers_free (length g.log) f.log g.log _ _ (record { how_many = λ i. (h.0 i).dirty; each = ff.log }) (record { how_many = refl; each = fg.log }) b.1 in
    let long = ap length c.1 in
    let announced = ap table_words a.0 in
    let count : length (remembered_texts f.remembered) ≡ length (remembered_texts g.remembered) =
    omega
    (arith, long, announced, length-append (remembered_texts f.remembered) (words_text f.words), length-append (remembered_texts g.remembered) (words_text g.words), length-words_text f.words, length-words_text g.words, ff.words.how_many, fg.words.how_many) in
    let d = split_front (remembered_texts f.remembered) (words_text f.words) (remembered_texts g.remembered) (words_text g.words) c.1 count in
    let k = words_free (table_words g.table) f.words g.words [] [] (subst (λ t. Are IsU64 (table_words t) f.words) a.0 ff.words) fg.words
    (append-nil (words_text f.words) ∙ d.1 ∙ sym (append-nil (words_text g.words))) in
    λ i. record {
      geometry = record { w = (h.0 i).w; k = (h.0 i).k; n = (h.0 i).n };
      words = all_words (h.0 i).w (a.0 i) (k.0 i);
      regions = map region_of_entry (a.0 i);
      roots = b.0 i;
      current = if nat_lt (h.0 i).current (h.0 i).n then Some (h.0 i).current else None;
    }

pub image_heap : (f : File) (bytes : List ℕ) (i : Image) → HeapFits f → bytes ≡ file_text f → IsTextWithin Wide bytes i → i.heap ≡ heap_of f
image_heap f bytes i fits text is =
    sym (heap_of_file is.0 i is.1.0) ∙ sym (same_heap f (file_of is.0 i) fits (file_fits Wide is.0 i is.1.0 is.1.1 is.2) (sym text ∙ is.1.2))

-- THE TABLE

flags_small : (b : Bool) → flags_of b < 2 ^ 32
flags_small false = omega arith
flags_small true = omega arith

pub entries_small : (qs : List Region) → All (λ q. q.top < 2 ^ 32) qs → All (EntryFits Two) (map entry_of qs)
entries_small qs tops = All-map (EntryFits Two) entry_of qs (λ k d lt. (kind_fits (slice_index_or qs k d).kind, tops k d lt, flags_small (slice_index_or qs k d).pinned))

-- as many words as the table announces
pub announced : (w from : ℕ) (qs : List Region) → length (used_addresses w from qs) ≡ table_words (map entry_of qs)
announced w from [] = refl
announced w from (q ∷ qs) =
    let rest = announced w (from + w) qs in
    omega (arith, rest, length-append (range_with_len from q.top) (used_addresses w (from + w) qs), length-range_with_len from q.top, table_words-cons (entry_of q) (map entry_of qs))

-- DATA WORDS

hash_small : (h : ℕ) (bytes : List ℕ) → h < 2 ^ 64 → hash_behind h bytes < 2 ^ 64
hash_small h [] lt = lt
hash_small h (byte ∷ bytes) lt = hash_small ((bit_xor h byte * 1099511628211) % 2 ^ 64) bytes (omega arith)

abbrev Held : Option (Float × ℕ) → Type 0
Held o = IfSome o (λ r. T (fits binary64 r.0))

held_if : (b : Bool) (x y : Option (Float × ℕ)) → Held x → Held y → Held (if b then x else y)
held_if true x y p q = p
held_if false x y p q = q

word_held : (negative : Bool) (bytes : List ℕ) → Held (read_word negative bytes)
word_held negative bytes =
    held_if (begins_with bytes (codes "infinity")) _ _ (inf-fits binary64 negative)
    (held_if (begins_with bytes (codes "inf")) _ _ (inf-fits binary64 negative) (held_if (begins_with bytes (codes "nan")) _ _ (nan-fits binary64) tt))

unsigned_held : (negative : Bool) (bytes : List ℕ) → Held (read_unsigned binary64 negative bytes)
unsigned_held negative bytes = held_if (has_digits (scan_numeral bytes)) _ _ (round-fits binary64 negative _ _) (word_held negative bytes)

float_held : (bytes : List ℕ) → Held (read_float binary64 bytes)
unfolding read_float
float_held bytes = at (read_unsigned binary64 (slice_index bytes 0 == minus) (drop (sign_len bytes) bytes)) (unsigned_held (slice_index bytes 0 == minus) (drop (sign_len bytes) bytes))
  where
    at : (o : Option (Float × ℕ)) → Held o → Held (option_map (λ r. (r.0, sign_len bytes + r.1)) o)
    at None h = tt
    at (Some r) h = h

float_fits : (bytes : List ℕ) (x : Float) → parse_float binary64 bytes ≡ Some x → T (fits binary64 x)
float_fits bytes x e = at (read_float binary64 bytes) (float_held bytes) e
  where
    cut : (r : Float × ℕ) (b : Bool) → T (fits binary64 r.0) → (if b then Some r.0 else None) ≡ Some x → T (fits binary64 x)
    cut r true h e = let same : r.0 ≡ x = cc in subst (λ y. T (fits binary64 y)) same h
    cut r false h e = absurd (let f : ⊥ = cc in f)

    at : (o : Option (Float × ℕ)) → Held o → option_and_then (λ r. if r.1 == length bytes then Some r.0 else None) o ≡ Some x → T (fits binary64 x)
    at None h e = absurd (let f : ⊥ = cc in f)
    at (Some r) h e = cut r (r.1 == length bytes) h e

stands_small : (n : ℕ) (word : List ℕ) → StandsFor n word → n < 2 ^ 64
stands_small n word (inl p) = p.2
stands_small n word (inr (inl p)) = omega (arith, p.4)
stands_small n word (inr (inr (inl p))) = p.4
stands_small n word (inr (inr (inr (inl p)))) = let small = hash_small 14695981039346656037 p.0 (omega arith) in omega (arith, small, p.2)
stands_small n word (inr (inr (inr (inr p)))) = let small : to_bits binary64 p.2 < 2 ^ 64 = to_bits-lt binary64 p.2 (float_fits word p.2 p.4) in omega (arith, small, p.6)

values_small : (values : List ℕ) (written : List (List ℕ)) → AllZip StandsFor values written → All IsU64 values
values_small [] [] all = All-nil IsU64
values_small [] (word ∷ written) all = elim all [ ]
values_small (n ∷ values) [] all = elim all [ ]
values_small (n ∷ values) (word ∷ written) all = All-cons IsU64 n values (stands_small n word all.0) (values_small values written all.1)

-- THE WORDS OF A GRAPH

module _ (g : NamedGraph) (ats : List ℕ) (small : All IsAddress ats) where
  address_small : (k : ℕ) → slice_index ats k < 2 ^ 60
  address_small k = elim (cases_lt k (length ats)) [
    | inl lt ↦ small k 0 lt
    | inr ge ↦ (let e : slice_index ats k ≡ 0 = get_or_past ats k 0 ge in omega (arith, e))
  ]

  word_small : (target : Option (List ℕ)) → word_for g ats target < 2 ^ 64
  word_small None = omega arith
  word_small (Some name) = at (place_of name g.objects)
    where
      at : (place : Option ℕ) → unwrap_or (option_map (λ place. slice_index ats place + 1) place) 0 < 2 ^ 64
      at None = omega arith
      at (Some k) = let lt = address_small k in omega (arith, lt)

  pub roots_fit : All IsU64 (map (root_value g ats) g.roots)
  roots_fit = All-map IsU64 (root_value g ats) g.roots (λ k d lt. word_small (slice_index_or g.roots k d).target)

  own_fit : (o : NamedObject) (words : List ℕ) → size_of o < 2 ^ 32 → AreWordsOf g ats o words → All IsU64 words
  own_fit o words fits are =
      let slots : All IsU64 (map (word_for g ats) o.slots) = All-map IsU64 (word_for g ats) o.slots (λ k d lt. word_small (slice_index_or o.slots k d)) in
      subst (All IsU64) (sym are.whole)
      (All-cons IsU64 (size_of o * 2 ^ 32 + length o.slots) (map (word_for g ats) o.slots ++ are.values) (omega (arith, fits))
      (All-append IsU64 (map (word_for g ats) o.slots) are.values slots (values_small are.values o.written are.stand)))

  pub words_fit : (os : List (NamedObject × ℕ)) (wordss : List (List ℕ)) → ((o : NamedObject × ℕ) → Contains os o → size_of o.0 < 2 ^ 32)
      → AllZip (λ o ws. AreWordsOf g ats o.0 ws) os wordss → All IsU64 (flat_map (λ ws. ws) wordss)
  words_fit [] [] fits all = All-nil IsU64
  words_fit [] (ws ∷ wordss) fits all = elim all [ ]
  words_fit (o ∷ os) [] fits all = elim all [ ]
  words_fit (o ∷ os) (ws ∷ wordss) fits all =
      All-append IsU64 ws (flat_map (λ ws. ws) wordss) (own_fit o.0 ws (fits o (zero, omega arith, refl)) all.0) (words_fit os wordss (λ p i. fits p (suc i.0, omega (arith, i.1), i.2)) all.1)
