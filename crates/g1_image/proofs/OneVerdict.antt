-- Bytes have one fault at most, and those of a whole file no fault but the file's.
use Rattle.std.proofs.Common.{◌≡◌, ◌<◌, ℕ, ◌⊎◌, inl, inr, List, [], ◌++◌, length, slice_index, arith, refl, sym, ap, subst, ◌∙◌, append_assoc, length-append}
use Rattle.std.proofs.lemmas.List.{append-nil, get_or_append_left}
use Rattle.g1_words.specs.declared.fault.Fault.{Fault}
use Rattle.g1_words.specs.declared.fault.Fault.TheVariants as fault
use Rattle.g1_words.specs.declared.limits.Limits.{Limits}
use Rattle.g1_image.specs.declared.cursor.Heading.{Heading}
use Rattle.g1_image.specs.Text.{File, Version, u32, magic, heading_text, heading_of, body_text, file_text}
use Rattle.g1_image.specs.Faults.{HeadingFits, IsGoodHeading, FileFits, FileFault, FaultWithin}
use Rattle.g1_image.proofs.Parts.{magic_free, heading_free}
use Rattle.g1_image.proofs.OneFile.{file_free, one_file}
use Rattle.g1_image.proofs.OneFault.{one_file_fault}
use Rattle.g1_image.proofs.NumberLists.{u32-length}

-- the bytes that are there agree with the magic of a version
abbrev Agrees : List ℕ → Type 0
Agrees bytes = (v : Version) × ((i : ℕ) → i < 8 → i < length bytes → slice_index bytes i ≡ slice_index (magic v) i)

-- the bytes begin with the text of a file
abbrev Begins : Limits → List ℕ → Type 0
Begins limits bytes = (f : File) × (rest : List ℕ) × FileFits limits f × (bytes ≡ file_text f ++ rest)

-- bytes that begin with the magic agree with it
agrees_long : (bytes : List ℕ) (v : Version) (rest : List ℕ) → bytes ≡ magic v ++ rest → Agrees bytes
agrees_long bytes v rest e = (v, λ i lt _. ap (λ l. slice_index l i) e ∙ get_or_append_left (magic v) rest 0 i lt)

-- and so do bytes that begin the magic
agrees_start : (bytes : List ℕ) (v : Version) (rest : List ℕ) → magic v ≡ bytes ++ rest → Agrees bytes
agrees_start bytes v rest e = (v, λ i _ lt. sym (ap (λ l. slice_index l i) e ∙ get_or_append_left bytes rest 0 i lt))

-- a file's text by its front
front_of : (f : File) (rest : List ℕ) → file_text f ++ rest ≡ magic f.version ++ (heading_text (heading_of f) ++ (body_text f ++ rest))
front_of f rest =
    append_assoc (magic f.version) (heading_text (heading_of f) ++ body_text f) rest
    ∙ ap (λ l. magic f.version ++ l) (append_assoc (heading_text (heading_of f)) (body_text f) rest)

-- a whole file begins its bytes
begins_whole : {limits : Limits} (bytes : List ℕ) (f : File) → FileFits limits f → bytes ≡ file_text f → Begins limits bytes
begins_whole bytes f fits e = (f, [], fits, e ∙ sym (append-nil (file_text f)))

-- a file with bytes behind it begins them
begins_trailing : {limits : Limits} (bytes : List ℕ) → FaultWithin limits bytes fault.Trailing → Begins limits bytes
begins_trailing bytes t = (t.0, t.1, t.2, t.3)

-- where a file begins the bytes, they agree with the magic
agrees_begins : {limits : Limits} (bytes : List ℕ) → Begins limits bytes → Agrees bytes
agrees_begins bytes b = agrees_long bytes b.0.version (heading_text (heading_of b.0) ++ (body_text b.0 ++ b.1)) (b.3 ∙ front_of b.0 b.1)

-- where the heading isn't good, they do
agrees_geometry : {limits : Limits} (bytes : List ℕ) → FaultWithin limits bytes fault.Geometry → Agrees bytes
agrees_geometry bytes g = agrees_long bytes g.0 (heading_text g.1 ++ g.2) g.4

-- where the bytes are too short, they do
agrees_short : {limits : Limits} (bytes : List ℕ) → FaultWithin limits bytes fault.Short → Agrees bytes
agrees_short bytes (inl s) = agrees_start bytes s.0 s.1 s.2
agrees_short bytes (inr (inl s)) = agrees_long bytes s.0 s.1 s.2
agrees_short bytes (inr (inr s)) = agrees_long bytes s.0 (heading_text s.1 ++ s.2) s.5

-- a heading has 24 bytes
length-heading_text : (h : Heading) → length (heading_text h) ≡ 24
length-heading_text h = omega (
  arith,
  length-append (u32 h.w) (u32 h.k ++ (u32 h.n ++ (u32 h.roots ++ (u32 h.dirty ++ u32 h.current)))),
  length-append (u32 h.k) (u32 h.n ++ (u32 h.roots ++ (u32 h.dirty ++ u32 h.current))),
  length-append (u32 h.n) (u32 h.roots ++ (u32 h.dirty ++ u32 h.current)),
  length-append (u32 h.roots) (u32 h.dirty ++ u32 h.current),
  length-append (u32 h.dirty) (u32 h.current),
  u32-length h.w,
  u32-length h.k,
  u32-length h.n,
  u32-length h.roots,
  u32-length h.dirty,
  u32-length h.current,
)

-- bytes that have a heading aren't a part of a magic
too_few : (bytes rest after : List ℕ) (v u : Version) (h : Heading) → magic v ≡ bytes ++ rest → 0 < length rest → bytes ≡ magic u ++ (heading_text h ++ after) → ⊥
too_few bytes rest after v u h e some d = omega (arith, ap length e, length-append bytes rest, some, ap length d, length-append (magic u) (heading_text h ++ after))

-- nor are the bytes behind the magic too few
too_few_left : (bytes rest after : List ℕ) (v u : Version) (h : Heading) → bytes ≡ magic v ++ rest → length rest < 24 → bytes ≡ magic u ++ (heading_text h ++ after) → ⊥
too_few_left bytes rest after v u h e lt d =
    let same : rest ≡ heading_text h ++ after = (magic_free v u rest (heading_text h ++ after) (sym e ∙ d)).1 in
    omega (arith, ap length same, length-append (heading_text h) after, length-heading_text h, lt)

-- bytes have one heading at most
one_heading : (bytes s t : List ℕ) (v u : Version) (h g : Heading) → HeadingFits h → HeadingFits g → bytes ≡ magic v ++ (heading_text h ++ s) → bytes ≡ magic u ++ (heading_text g ++ t) → h ≡ g
one_heading bytes s t v u h g fh fg e d = (heading_free h g s t fh fg (magic_free v u (heading_text h ++ s) (heading_text g ++ t) (sym e ∙ d)).1).0

-- a byte that differs from each magic's leaves no other fault
magic_clash : (limits : Limits) (bytes : List ℕ) → FaultWithin limits bytes fault.Magic → Agrees bytes → ⊥
magic_clash limits bytes m agrees = let d = m agrees.0 in d.3 (agrees.1 d.0 d.1 d.2)

-- bytes that are too short have no heading past the limits
short_geometry : {limits : Limits} (bytes : List ℕ) → FaultWithin limits bytes fault.Short → FaultWithin limits bytes fault.Geometry → ⊥
short_geometry {limits = limits} bytes (inl s) g = too_few bytes s.1 g.2 s.0 g.0 g.1 s.2 s.3 g.4
short_geometry {limits = limits} bytes (inr (inl s)) g = too_few_left bytes s.1 g.2 s.0 g.0 g.1 s.2 s.3 g.4
short_geometry {limits = limits} bytes (inr (inr s)) g = g.5 (subst (IsGoodHeading limits) (one_heading bytes s.2 g.2 s.0 g.0 s.1 g.1 s.3 g.3 s.5 g.4) s.4)

-- bytes that are too short don't begin with a file
short_begins : {limits : Limits} (bytes : List ℕ) → FaultWithin limits bytes fault.Short → Begins limits bytes → ⊥
short_begins bytes (inl s) b = too_few bytes s.1 (body_text b.0 ++ b.1) s.0 b.0.version (heading_of b.0) s.2 s.3 (b.3 ∙ front_of b.0 b.1)
short_begins bytes (inr (inl s)) b = too_few_left bytes s.1 (body_text b.0 ++ b.1) s.0 b.0.version (heading_of b.0) s.2 s.3 (b.3 ∙ front_of b.0 b.1)
short_begins bytes (inr (inr s)) b = s.6 b.0 b.1 b.2 b.3

-- nor do bytes with a heading past the limits
geometry_begins : {limits : Limits} (bytes : List ℕ) → FaultWithin limits bytes fault.Geometry → Begins limits bytes → ⊥
geometry_begins {limits = limits} bytes g b =
    g.5 (subst (IsGoodHeading limits) (one_heading bytes (body_text b.0 ++ b.1) g.2 b.0.version g.0 (heading_of b.0) g.1 b.2.heading g.3 (b.3 ∙ front_of b.0 b.1) g.4) b.2.good)

-- a whole file has no bytes behind it
trailing_whole : {limits : Limits} (bytes : List ℕ) (f : File) → FaultWithin limits bytes fault.Trailing → FileFits limits f → bytes ≡ file_text f → ⊥
trailing_whole bytes f t fits e =
    let one = file_free t.0 f t.1 [] t.2 fits (sym t.3 ∙ e ∙ sym (append-nil (file_text f))) in
    omega (arith, ap length one.1, t.4)

-- a file that is read whole has the fault
abbrev Whole : Limits → List ℕ → Fault → Type 0
Whole limits bytes e = (f : File) × FileFits limits f × (bytes ≡ file_text f) × FileFault f e

-- a fault is one of the four of a text that can't be read, or a whole file's
abbrev Cases : Limits → List ℕ → Fault → Type 0
Cases limits bytes e =
    ((e ≡ fault.Magic) × FaultWithin limits bytes fault.Magic)
    ⊎ (((e ≡ fault.Short) × FaultWithin limits bytes fault.Short)
    ⊎ (((e ≡ fault.Geometry) × FaultWithin limits bytes fault.Geometry)
    ⊎ (((e ≡ fault.Trailing) × FaultWithin limits bytes fault.Trailing)
    ⊎ Whole limits bytes e)))

-- which of them it is
cases_of : {limits : Limits} (bytes : List ℕ) (e : Fault) → FaultWithin limits bytes e → Cases limits bytes e
cases_of bytes fault.Magic x = inl (refl, x)
cases_of bytes fault.Short x = inr (inl (refl, x))
cases_of bytes fault.Geometry x = inr (inr (inl (refl, x)))
cases_of bytes fault.Trailing x = inr (inr (inr (inl (refl, x))))
cases_of bytes e x = inr (inr (inr (inr x)))

-- each two of the cases are one, or exclude each other
same_case : (limits : Limits) (bytes : List ℕ) (e d : Fault) → Cases limits bytes e → Cases limits bytes d → e ≡ d
same_case limits bytes e d (inl x) (inl y) = x.0 ∙ sym y.0
same_case limits bytes e d (inl x) (inr (inl y)) = absurd (magic_clash limits bytes x.1 (agrees_short bytes y.1))
same_case limits bytes e d (inl x) (inr (inr (inl y))) = absurd (magic_clash limits bytes x.1 (agrees_geometry bytes y.1))
same_case limits bytes e d (inl x) (inr (inr (inr (inl y)))) = absurd (magic_clash limits bytes x.1 (agrees_begins bytes (begins_trailing bytes y.1)))
same_case limits bytes e d (inl x) (inr (inr (inr (inr y)))) = absurd (magic_clash limits bytes x.1 (agrees_begins bytes (begins_whole bytes y.0 y.1 y.2)))
same_case limits bytes e d (inr (inl x)) (inl y) = absurd (magic_clash limits bytes y.1 (agrees_short bytes x.1))
same_case limits bytes e d (inr (inl x)) (inr (inl y)) = x.0 ∙ sym y.0
same_case limits bytes e d (inr (inl x)) (inr (inr (inl y))) = absurd (short_geometry bytes x.1 y.1)
same_case limits bytes e d (inr (inl x)) (inr (inr (inr (inl y)))) = absurd (short_begins bytes x.1 (begins_trailing bytes y.1))
same_case limits bytes e d (inr (inl x)) (inr (inr (inr (inr y)))) = absurd (short_begins bytes x.1 (begins_whole bytes y.0 y.1 y.2))
same_case limits bytes e d (inr (inr (inl x))) (inl y) = absurd (magic_clash limits bytes y.1 (agrees_geometry bytes x.1))
same_case limits bytes e d (inr (inr (inl x))) (inr (inl y)) = absurd (short_geometry bytes y.1 x.1)
same_case limits bytes e d (inr (inr (inl x))) (inr (inr (inl y))) = x.0 ∙ sym y.0
same_case limits bytes e d (inr (inr (inl x))) (inr (inr (inr (inl y)))) = absurd (geometry_begins bytes x.1 (begins_trailing bytes y.1))
same_case limits bytes e d (inr (inr (inl x))) (inr (inr (inr (inr y)))) = absurd (geometry_begins bytes x.1 (begins_whole bytes y.0 y.1 y.2))
same_case limits bytes e d (inr (inr (inr (inl x)))) (inl y) = absurd (magic_clash limits bytes y.1 (agrees_begins bytes (begins_trailing bytes x.1)))
same_case limits bytes e d (inr (inr (inr (inl x)))) (inr (inl y)) = absurd (short_begins bytes y.1 (begins_trailing bytes x.1))
same_case limits bytes e d (inr (inr (inr (inl x)))) (inr (inr (inl y))) = absurd (geometry_begins bytes y.1 (begins_trailing bytes x.1))
same_case limits bytes e d (inr (inr (inr (inl x)))) (inr (inr (inr (inl y)))) = x.0 ∙ sym y.0
same_case limits bytes e d (inr (inr (inr (inl x)))) (inr (inr (inr (inr y)))) = absurd (trailing_whole bytes y.0 x.1 y.1 y.2)
same_case limits bytes e d (inr (inr (inr (inr x)))) (inl y) = absurd (magic_clash limits bytes y.1 (agrees_begins bytes (begins_whole bytes x.0 x.1 x.2)))
same_case limits bytes e d (inr (inr (inr (inr x)))) (inr (inl y)) = absurd (short_begins bytes y.1 (begins_whole bytes x.0 x.1 x.2))
same_case limits bytes e d (inr (inr (inr (inr x)))) (inr (inr (inl y))) = absurd (geometry_begins bytes y.1 (begins_whole bytes x.0 x.1 x.2))
same_case limits bytes e d (inr (inr (inr (inr x)))) (inr (inr (inr (inl y)))) = absurd (trailing_whole bytes x.0 y.1 x.1 x.2)
same_case limits bytes e d (inr (inr (inr (inr x)))) (inr (inr (inr (inr y)))) =
    let same : y.0 ≡ x.0 = one_file bytes y.0 x.0 y.1 x.1 y.2 x.2 in
    one_file_fault x.0 e d x.3 (subst (λ f. FileFault f d) same y.3)

-- bytes have one fault at most
pub one_fault : (limits : Limits) (bytes : List ℕ) (e d : Fault) → FaultWithin limits bytes e → FaultWithin limits bytes d → e ≡ d
one_fault limits bytes e d x y = same_case limits bytes e d (cases_of bytes e x) (cases_of bytes d y)

-- a fault of a whole file's bytes is the file's own
pub fault_of_whole : {limits : Limits} (bytes : List ℕ) (f : File) (e : Fault) → FileFits limits f → bytes ≡ file_text f → FaultWithin limits bytes e → FileFault f e
fault_of_whole {limits = limits} bytes f e fits text x = elim (cases_of bytes e x) [
  | inl m ↦ absurd (magic_clash limits bytes m.1 (agrees_begins bytes (begins_whole bytes f fits text)))
  | inr (inl s) ↦ absurd (short_begins bytes s.1 (begins_whole bytes f fits text))
  | inr (inr (inl g)) ↦ absurd (geometry_begins bytes g.1 (begins_whole bytes f fits text))
  | inr (inr (inr (inl t))) ↦ absurd (trailing_whole bytes f t.1 fits text)
  | inr (inr (inr (inr w))) ↦ subst (λ f. FileFault f e) (one_file bytes w.0 f w.1 fits w.2 text) w.3
]
