-- A file that is read part by part.
use Rattle.std.proofs.Common.{◌≡◌, ◌≤◌, ◌<◌, ℕ, suc, ◌-◌, ◌*◌, inl, inr, List, [], ◌∷◌, ◌++◌, length, drop, arith, refl, sym, ap, subst, ◌∙◌, append_assoc, length-append, length-drop}
use Rattle.std.proofs.lemmas.List.{append-nil, drop_all}
use Rattle.std.proofs.Math.Seq.{drop-append_seam}
use Rattle.g1_words.specs.declared.fault.Fault.{Fault}
use Rattle.g1_words.specs.declared.fault.Fault.TheVariants as fault
use Rattle.g1_words.specs.declared.limits.Limits.{Limits}
use Rattle.g1_image.specs.declared.cursor.Heading.{Heading}
use Rattle.g1_image.specs.Text.{File, Entry, Version, magic, heading_text, heading_of, body_text, file_text, table_text, words_text, numbers_text, remembered_texts, entry_text}
use Rattle.g1_image.specs.Text.{remembered_text, u32, u64, words_of, table_words}
use Rattle.g1_image.specs.Reading.{Are, IsU32, IsU64, IsBytes, EndsWithin, FailsIf}
use Rattle.g1_image.specs.Faults.{HeadingFits, IsGoodHeading, EntryFits, RememberedFits, FileFits, FaultWithin, MayFailWithin}
use Rattle.g1_image.specs.Plain.{plain_file, PlainIs, FrontFits, front_text}
use Rattle.g1_image.proofs.Numbers.{u32_once, u64_once}
use Rattle.g1_image.proofs.PrefixFree.{IsPrefixFree, Are-free}
use Rattle.g1_image.proofs.Parts.{magic_free, entry_free, set_free, heading_free}
use Rattle.g1_image.proofs.Sequence.{Left, Left-step, Left-short}
use Rattle.g1_image.proofs.Words.{words_of-text, words_of-are, words_short}

pub numbers_free : (n : ℕ) → IsPrefixFree (Are IsU32 n) numbers_text
numbers_free n = Are-free IsU32 u32 (λ x y s t fx fy e. u32_once x y s t fx fy e) n

pub words_free : (n : ℕ) → IsPrefixFree (Are IsU64 n) words_text
words_free n = Are-free IsU64 u64 (λ x y s t fx fy e. u64_once x y s t fx fy e) n

-- the first reader that has not what it needs
pub fails : {limits : Limits} (bytes : List ℕ) (e : Fault) (P : Type 0) → FailsIf e P → (P → FaultWithin limits bytes fault.Short) → MayFailWithin limits bytes e
fails bytes fault.Memory P h f = inl refl
fails bytes fault.Short P h f = inr (f h)
fails bytes _ P h f = absurd h

abbrev pub Is : Version → Heading → File → Type 0
Is v h f = (f.version ≡ v) × (heading_of f ≡ h)

abbrev after_table : File → List ℕ
after_table f = words_text f.roots ++ (numbers_text f.log ++ (remembered_texts f.remembered ++ words_text f.words))

abbrev after_roots : File → List ℕ
after_roots f = numbers_text f.log ++ (remembered_texts f.remembered ++ words_text f.words)

abbrev after_log : File → List ℕ
after_log f = remembered_texts f.remembered ++ words_text f.words

abbrev after_remembered : File → List ℕ
after_remembered f = words_text f.words

pub are_table : {limits : Limits} (v : Version) (h : Heading) (f : File) → FileFits limits f → Is v h f → Are (EntryFits v) h.n f.table
are_table v h f fits is = subst (λ u. Are (EntryFits u) h.n f.table) is.0 (subst (λ (x : Heading). Are (EntryFits f.version) x.n f.table) is.1 fits.table)

pub are_roots : {limits : Limits} (h : Heading) (f : File) → FileFits limits f → heading_of f ≡ h → Are IsU64 h.roots f.roots
are_roots h f fits is = record { how_many = ap (λ (x : Heading). x.roots) is; each = fits.roots }

pub are_log : {limits : Limits} (h : Heading) (f : File) → FileFits limits f → heading_of f ≡ h → Are IsU32 h.dirty f.log
are_log h f fits is = record { how_many = ap (λ (x : Heading). x.dirty) is; each = fits.log }

pub are_remembered : {limits : Limits} (h : Heading) (f : File) → FileFits limits f → heading_of f ≡ h → Are RememberedFits h.n f.remembered
are_remembered h f fits is = subst (λ (x : Heading). Are RememberedFits x.n f.remembered) is fits.remembered

pub words_as : {limits : Limits} (table : List Entry) (f : File) → FileFits limits f → f.table ≡ table → Are IsU64 (table_words table) f.words
words_as table f fits is = subst (λ t. Are IsU64 (table_words t) f.words) is fits.words

-- what follows in bytes is bytes
pub suffix : (bytes xs ys : List ℕ) → bytes ≡ xs ++ ys → IsBytes bytes → IsBytes ys
suffix bytes xs ys e b = of xs ys (subst IsBytes e b) where
  of : (xs ys : List ℕ) → IsBytes (xs ++ ys) → IsBytes ys
  of [] ys b = b
  of (x ∷ xs) ys b = of xs ys (λ i. b (suc i))

-- the parts before the words were read: what the bytes are by how many are left for the words
pub record PartsRead (limits : Limits) (bytes : List ℕ) (v : Version) (h : Heading) (table : List Entry) (roots log : List ℕ) (remembered : List (List ℕ)) (left : List ℕ) : Type 0 where
  pub short : length left < 8 * table_words table → FaultWithin limits bytes fault.Short
  pub trailing : 8 * table_words table < length left → FaultWithin limits bytes fault.Trailing
  pub whole : length left ≡ 8 * table_words table → PlainIs limits bytes v h table roots log remembered left

module _ (limits : Limits) (bytes rest : List ℕ) (v : Version) (h : Heading) (hf : HeadingFits h) (good : IsGoodHeading limits h) (e : bytes ≡ magic v ++ (heading_text h ++ rest)) where
  known : Left (FileFits limits) file_text bytes (λ f. Unit {0} × Is v h f) body_text rest
  known f tail fits ef =
      let flat : file_text f ++ tail ≡ magic f.version ++ (heading_text (heading_of f) ++ (body_text f ++ tail)) =
      append_assoc (magic f.version) (heading_text (heading_of f) ++ body_text f) tail ∙ ap (λ l. magic f.version ++ l) (append_assoc (heading_text (heading_of f)) (body_text f) tail) in
      let same = magic_free v f.version (heading_text h ++ rest) (heading_text (heading_of f) ++ (body_text f ++ tail)) (sym e ∙ ef ∙ flat) in
      let one = heading_free h (heading_of f) rest (body_text f ++ tail) hf fits.heading same.1 in
      ((tt, (sym same.0, sym one.0)), one.1)

  short : EndsWithin (FileFits limits) file_text bytes → FaultWithin limits bytes fault.Short
  short w = inr (inr (v, h, rest, hf, good, e, w))

  pub short_table : EndsWithin (Are (EntryFits v) h.n) (table_text v) rest → FaultWithin limits bytes fault.Short
  short_table w = short (Left-short (FileFits limits) file_text bytes (λ f. Unit {0} × Is v h f) body_text rest (λ f. f.table) (Are (EntryFits v) h.n) (table_text v) after_table known
      (λ f fits k. ap (λ u. table_text u f.table ++ after_table f) k.1.0) (λ f fits k. are_table v h f fits k.1) w)

  module _ (table : List Entry) (r1 : List ℕ) (ft : Are (EntryFits v) h.n table) (et : rest ≡ table_text v table ++ r1) where
    known1 : Left (FileFits limits) file_text bytes (λ f. (Unit {0} × Is v h f) × (f.table ≡ table)) after_table r1
    known1 = Left-step (FileFits limits) file_text bytes (λ f. Unit {0} × Is v h f) body_text rest (λ f. f.table) (Are (EntryFits v) h.n) (table_text v) after_table known
        (λ f fits k. ap (λ u. table_text u f.table ++ after_table f) k.1.0) (λ f fits k. are_table v h f fits k.1) (Are-free (EntryFits v) (entry_text v) (entry_free v) h.n) table r1 ft et

    pub short_roots : EndsWithin (Are IsU64 h.roots) words_text r1 → FaultWithin limits bytes fault.Short
    short_roots w = short (Left-short (FileFits limits) file_text bytes (λ f. (Unit {0} × Is v h f) × (f.table ≡ table)) after_table r1 (λ f. f.roots) (Are IsU64 h.roots) words_text after_roots known1
        (λ f fits k. refl) (λ f fits k. are_roots h f fits k.0.1.1) w)

    module _ (roots : List ℕ) (r2 : List ℕ) (fr : Are IsU64 h.roots roots) (er : r1 ≡ words_text roots ++ r2) where
      known2 : Left (FileFits limits) file_text bytes (λ f. ((Unit {0} × Is v h f) × (f.table ≡ table)) × (f.roots ≡ roots)) after_roots r2
      known2 = Left-step (FileFits limits) file_text bytes (λ f. (Unit {0} × Is v h f) × (f.table ≡ table)) after_table r1 (λ f. f.roots) (Are IsU64 h.roots) words_text after_roots known1
          (λ f fits k. refl) (λ f fits k. are_roots h f fits k.0.1.1) (words_free h.roots) roots r2 fr er

      pub short_log : EndsWithin (Are IsU32 h.dirty) numbers_text r2 → FaultWithin limits bytes fault.Short
      short_log w = short (Left-short (FileFits limits) file_text bytes (λ f. ((Unit {0} × Is v h f) × (f.table ≡ table)) × (f.roots ≡ roots)) after_roots r2
          (λ f. f.log) (Are IsU32 h.dirty) numbers_text after_log known2
          (λ f fits k. refl) (λ f fits k. are_log h f fits k.0.0.1.1) w)

      module _ (log : List ℕ) (r3 : List ℕ) (fl : Are IsU32 h.dirty log) (el : r2 ≡ numbers_text log ++ r3) where
        known3 : Left (FileFits limits) file_text bytes (λ f. (((Unit {0} × Is v h f) × (f.table ≡ table)) × (f.roots ≡ roots)) × (f.log ≡ log)) after_log r3
        known3 = Left-step (FileFits limits) file_text bytes (λ f. ((Unit {0} × Is v h f) × (f.table ≡ table)) × (f.roots ≡ roots)) after_roots r2 (λ f. f.log) (Are IsU32 h.dirty) numbers_text after_log known2
            (λ f fits k. refl) (λ f fits k. are_log h f fits k.0.0.1.1) (numbers_free h.dirty) log r3 fl el

        pub short_remembered : EndsWithin (Are RememberedFits h.n) remembered_texts r3 → FaultWithin limits bytes fault.Short
        short_remembered w = short (Left-short (FileFits limits) file_text bytes (λ f. (((Unit {0} × Is v h f) × (f.table ≡ table)) × (f.roots ≡ roots))
            × (f.log ≡ log)) after_log r3 (λ f. f.remembered) (Are RememberedFits h.n) remembered_texts after_remembered known3
            (λ f fits k. refl) (λ f fits k. are_remembered h f fits k.0.0.0.1.1) w)

        module _ (remembered : List (List ℕ)) (r4 : List ℕ) (fs : Are RememberedFits h.n remembered) (es : r3 ≡ remembered_texts remembered ++ r4) where
          known4 : Left (FileFits limits) file_text bytes (λ f. ((((Unit {0} × Is v h f) × (f.table ≡ table)) × (f.roots ≡ roots)) × (f.log ≡ log)) × (f.remembered ≡ remembered)) after_remembered r4
          known4 = Left-step (FileFits limits) file_text bytes (λ f. (((Unit {0} × Is v h f) × (f.table ≡ table)) × (f.roots ≡ roots)) × (f.log ≡ log))
              after_log r3 (λ f. f.remembered) (Are RememberedFits h.n) remembered_texts after_remembered known3
              (λ f fits k. refl) (λ f fits k. are_remembered h f fits k.0.0.0.1.1) (Are-free RememberedFits remembered_text set_free h.n) remembered r4 fs es

          are_words : (f : File) → FileFits limits f → f.table ≡ table → Are IsU64 (table_words table) f.words
          are_words f fits is = subst (λ t. Are IsU64 (table_words t) f.words) is fits.words

          -- the words aren't all there
          pub short_words : length r4 < 8 * table_words table → FaultWithin limits bytes fault.Short
          short_words lt = short (Left-short (FileFits limits) file_text bytes (λ f. ((((Unit {0} × Is v h f) × (f.table ≡ table)) × (f.roots ≡ roots))
              × (f.log ≡ log)) × (f.remembered ≡ remembered)) after_remembered r4
              (λ f. f.words) (Are IsU64 (table_words table)) words_text (λ f. []) known4
              (λ f fits k. sym (append-nil (words_text f.words))) (λ f fits k. are_words f fits k.0.0.0.1) (words_short (table_words table) r4 lt))

          file : File
          file = plain_file v h table roots log remembered r4

          header : heading_of (plain_file v h table roots log remembered r4) ≡ h
          header = λ t. record { w = h.w; k = h.k; n = h.n; roots = fr.how_many t; dirty = fl.how_many t; current = h.current }

          fits : IsBytes r4 → FileFits limits (plain_file v h table roots log remembered r4)
          fits b = record {
            heading = subst HeadingFits (sym header) hf;
            good = subst (IsGoodHeading limits) (sym header) good;
            table = ft;
            roots = fr.each;
            log = fl.each;
            remembered = fs;
            words = words_of-are (table_words table) r4 b;
          }

          module _ (b : IsBytes r4) (le : 8 * table_words table ≤ length r4) where
            text : bytes ≡ file_text (plain_file v h table roots log remembered r4) ++ drop (8 * table_words table) r4
            text =
                let tail : List ℕ = drop (8 * table_words table) r4 in
                let ws : List ℕ = words_text (words_of (table_words table) r4) in
                let e4 : r4 ≡ ws ++ tail = words_of-text (table_words table) r4 le b in
                e ∙ (λ t. magic v ++ (heading_text (sym header t) ++ rest))
                ∙ ap (λ l. magic v ++ (heading_text (heading_of (plain_file v h table roots log remembered r4)) ++ l))
                (et ∙ ap (λ l. table_text v table ++ l) (er ∙ ap (λ l. words_text roots ++ l) (el ∙ ap (λ l. numbers_text log ++ l) (es ∙ ap (λ l. remembered_texts remembered ++ l) e4))))
                ∙ (simp append_assoc)

            pub trailing : 8 * table_words table < length r4 → FaultWithin limits bytes fault.Trailing
            trailing lt = (plain_file v h table roots log remembered r4, drop (8 * table_words table) r4, fits b, text, omega (arith, lt, length-drop (8 * table_words table) r4))

            pub plain_is : length r4 ≡ 8 * table_words table → PlainIs limits bytes v h table roots log remembered r4
            plain_is whole =
                let none : drop (8 * table_words table) r4 ≡ [] = drop_all (8 * table_words table) r4 (omega (arith, whole)) in
                record {
                  good = good;
                  root_count = fr.how_many;
                  fits = fits b;
                  text = text ∙ ap (λ l. file_text (plain_file v h table roots log remembered r4) ++ l) none ∙ append-nil (file_text (plain_file v h table roots log remembered r4));
                  whole = whole;
                  are_bytes = b;
                }

          pub parts_read : IsBytes r4 → PartsRead limits bytes v h table roots log remembered r4
          parts_read left =
              record {
                short = short_words;
                trailing = λ more. trailing left (omega (arith, more)) more;
                whole = λ all. plain_is left (omega (arith, all)) all;
              }

-- a front, and the bytes behind it
pub front_read : {limits : Limits} (v : Version) (h : Heading) (table : List Entry) (roots log : List ℕ) (remembered : List (List ℕ)) (left : List ℕ) → FrontFits limits v h table roots log remembered → IsBytes left →
    PartsRead limits (front_text v h table roots log remembered left) v h table roots log remembered left
front_read v h table roots log remembered left f b =
    parts_read _ (front_text v h table roots log remembered left) _ v h f.heading f.good refl table _ f.entries refl roots _ f.root_words refl log _ f.logged refl remembered left f.sets refl b

-- the front, and then the bytes behind it
pub front_text-flat : (v : Version) (h : Heading) (table : List Entry) (roots log : List ℕ) (remembered : List (List ℕ)) (left : List ℕ) →
    front_text v h table roots log remembered left ≡ front_text v h table roots log remembered [] ++ left
front_text-flat v h table roots log remembered left = simp (append_assoc, append-nil)

-- what follows a front, by how many bytes it has
pub front_dropped : (v : Version) (h : Heading) (table : List Entry) (roots log : List ℕ) (remembered : List (List ℕ)) (left bytes : List ℕ) →
    bytes ≡ front_text v h table roots log remembered left → left ≡ drop (length bytes - length left) bytes
front_dropped v h table roots log remembered left bytes e =
    let front : List ℕ = front_text v h table roots log remembered [] in
    let same : bytes ≡ front_text v h table roots log remembered [] ++ left = e ∙ front_text-flat v h table roots log remembered left in
    let size : length bytes - length left ≡ length (front_text v h table roots log remembered []) = omega (arith, ap length same, length-append front left) in
    sym (ap (λ k. drop k bytes) size ∙ ap (drop (length front)) same ∙ drop-append_seam front left)

-- a front with too few bytes behind it
pub front_short : {limits : Limits} (v : Version) (h : Heading) (table : List Entry) (roots log : List ℕ) (remembered : List (List ℕ)) (left : List ℕ) →
    FrontFits limits v h table roots log remembered → length left < 8 * table_words table →
    FaultWithin limits (front_text v h table roots log remembered left) fault.Short
front_short v h table roots log remembered left f lt =
    short_words _ (front_text v h table roots log remembered left) _ v h f.heading f.good refl table _ f.entries refl roots _ f.root_words refl log _ f.logged refl remembered left f.sets refl lt

-- a whole file with bytes behind it
pub plain_trailing : {limits : Limits} (bytes : List ℕ) (v : Version) (h : Heading) (table : List Entry) (roots log : List ℕ) (remembered : List (List ℕ))
    (left more : List ℕ) → PlainIs limits bytes v h table roots log remembered left → 0 < length more →
    FaultWithin limits (bytes ++ more) fault.Trailing
plain_trailing bytes v h table roots log remembered left more p lt = (plain_file v h table roots log remembered left, more, p.fits, ap (λ l. l ++ more) p.text, lt)
