-- A text is cut at its first LF.
use Rattle.std.proofs.Common.{◌≡◌, ℕ, ◌+◌, ◌<◌, ◌≤◌, false, List, [], ◌∷◌, ◌++◌, length, get_or, take, drop, All, eqb, sym, ◌∙◌, ap, arith}
use Rattle.std.proofs.lemmas.Bool.{false_from_ne_true}
use Rattle.std.proofs.lemmas.List.{get_or-take, get_or_default, length-take-le, length-drop, take-append-drop, drop_more}
use Rattle.std.proofs.lemmas.List.Splits.{slice_split_at, slice_split_none}
use Rattle.memchr.specs.Find.{Nowhere, NoneBefore, Passes, is_byte}
use Rattle.g1_text.specs.Reading.{parts_of}

-- the first bytes have no LF
no_end : (text : List ℕ) (n : ℕ) → n ≤ length text → Nowhere (Passes (is_byte 10) text) 0 n → All (λ b. eqb b 10 ≡ false) (take n text)
no_end text n le none k d lt =
    let size = length-take-le n text le in
    let same : get_or (take n text) k d ≡ get_or text k 0 = get_or-take n text k d (omega (arith, lt, size)) ∙ get_or_default text k d 0 (omega (arith, lt, size, le)) in
    false_from_ne_true (eqb (get_or (take n text) k d) 10) (λ e. none k (omega arith) (omega (arith, lt, size)) (ap (λ b. eqb b 10) (sym same) ∙ e))

-- there is one: the bytes up to it are the first part, and those behind it are cut on
pub cut_at : (text line behind left : List ℕ) (end : ℕ) → NoneBefore (Passes (is_byte 10) text) 0 (length text) end → Passes (is_byte 10) text end
    → line ≡ take end text → behind ≡ drop end text → left ≡ drop 1 behind → (length left < length text) × (parts_of text ≡ line ∷ parts_of left)
cut_at text line behind left end first found front back one =
    let lt = first.high in
    let more : drop end text ≡ get_or text end 0 ∷ drop (end + 1) text = drop_more text end 0 lt in
    let rest : left ≡ drop (end + 1) text = one ∙ ap (drop 1) (back ∙ more) in
    let size = ap length rest in
    let all = length-drop (end + 1) text in
    let whole : text ≡ take end text ++ get_or text end 0 ∷ left =
    sym (take-append-drop end text) ∙ ap (λ r. take end text ++ r) more ∙ ap (λ r. take end text ++ get_or text end 0 ∷ r) (sym rest) in
    let cut = slice_split_at (λ b. eqb b 10) (take end text) (get_or text end 0) left (no_end text end (omega (arith, lt)) first.before) found in
    (omega (arith, size, all, lt), ap parts_of whole ∙ cut ∙ ap (λ l. l ∷ parts_of left) (sym front))

-- there is none: the text is one part
pub uncut : (text : List ℕ) → Nowhere (Passes (is_byte 10) text) 0 (length text) → parts_of text ≡ text ∷ []
uncut text none =
    slice_split_none (λ b. eqb b 10) text
    (λ k d lt. false_from_ne_true (eqb (get_or text k d) 10) (λ e. none k (omega arith) lt (ap (λ b. eqb b 10) (get_or_default text k 0 d lt) ∙ e)))
