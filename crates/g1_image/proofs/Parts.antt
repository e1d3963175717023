-- The parts of a file: none begins another.
use Rattle.std.proofs.Common.{◌≡◌, ℕ, List, ◌++◌, length, slice_index, arith, refl, sym, ap, ◌∙◌, append_assoc}
use Rattle.std.proofs.lemmas.List.{append_cancel_left}
use Rattle.g1_image.specs.Text.{Entry, Version, u32, digit, magic, flags_text, entry_text, remembered_text, numbers_text, heading_text}
use Rattle.g1_image.specs.Reading.{IsU32}
use Rattle.g1_image.specs.Faults.{FlagsFit, EntryFits, RememberedFits, HeadingFits}
use Rattle.g1_image.proofs.Numbers.{u32_once}
use Rattle.g1_image.proofs.PrefixFree.{IsPrefixFree, Are-free}
use Rattle.g1_image.specs.declared.cursor.Heading.{Heading}
use Rattle.g1_image.specs.declared.cursor.Version.TheVariants.{One, Two}

digit_once : (v u : Version) → digit v ≡ digit u → v ≡ u
digit_once One One e = refl
digit_once One Two e = absurd (omega (arith, e))
digit_once Two One e = absurd (omega (arith, e))
digit_once Two Two e = refl

-- the magics of two versions differ
pub magic_free : (v u : Version) (s t : List ℕ) → magic v ++ s ≡ magic u ++ t → (v ≡ u) × (s ≡ t)
magic_free v u s t e =
    let same : v ≡ u = digit_once v u (ap (λ l. slice_index l 7) e) in
    (same, append_cancel_left (magic v) s t (e ∙ ap (λ x. magic x ++ t) (sym same)))

pub flags_free : (v : Version) → IsPrefixFree (FlagsFit v) (flags_text v)
flags_free One x y s t fx fy e = (fx ∙ sym fy, e)
flags_free Two x y s t fx fy e = u32_once x y s t fx fy e

-- an entry's text, number by number
pub entry_flat : (v : Version) (z : Entry) (r : List ℕ) → entry_text v z ++ r ≡ u32 z.kind ++ (u32 z.top ++ (flags_text v z.flags ++ r))
entry_flat v z r = simp append_assoc

pub entry_free : (v : Version) → IsPrefixFree (EntryFits v) (entry_text v)
entry_free v x y s t fx fy e =
    let one = u32_once x.kind y.kind _ _ fx.0 fy.0 (sym (entry_flat v x s) ∙ e ∙ entry_flat v y t) in
    let two = u32_once x.top y.top _ _ fx.1 fy.1 one.1 in
    let three = flags_free v x.flags y.flags s t fx.2 fy.2 two.1 in
    ((λ i. record { kind = one.0 i; top = two.0 i; flags = three.0 i }), three.1)

pub set_free : IsPrefixFree RememberedFits remembered_text
set_free x y s t fx fy e =
    let one = u32_once (length x) (length y) (numbers_text x ++ s) (numbers_text y ++ t) fx.0 fy.0
    (sym (append_assoc (u32 (length x)) (numbers_text x) s) ∙ e ∙ append_assoc (u32 (length y)) (numbers_text y) t) in
    Are-free IsU32 u32 (λ a b p q fa fb d. u32_once a b p q fa fb d) (length y) x y s t (record { how_many = one.0; each = fx.1 }) (record { how_many = refl; each = fy.1 }) one.1

pub heading_free : IsPrefixFree HeadingFits heading_text
heading_free x y s t fx fy e =
    let flat : (z : Heading) (r : List ℕ) → heading_text z ++ r ≡ u32 z.w ++ (u32 z.k ++ (u32 z.n ++ (u32 z.roots ++ (u32 z.dirty ++ (u32 z.current ++ r))))) =
    λ z r. simp append_assoc in
    let a = u32_once x.w y.w _ _ fx.w fy.w (sym (flat x s) ∙ e ∙ flat y t) in
    let b = u32_once x.k y.k _ _ fx.k fy.k a.1 in
    let c = u32_once x.n y.n _ _ fx.n fy.n b.1 in
    let d = u32_once x.roots y.roots _ _ fx.roots fy.roots c.1 in
    let f = u32_once x.dirty y.dirty _ _ fx.dirty fy.dirty d.1 in
    let g = u32_once x.current y.current _ _ fx.current fy.current f.1 in
    ((λ i. record { w = a.0 i; k = b.0 i; n = c.0 i; roots = d.0 i; dirty = f.0 i; current = g.0 i }), g.1)
