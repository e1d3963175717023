-- What is written part by part.
use Rattle.std.proofs.Common.{◌≡◌, ◌<◌, ℕ, ◌+◌, List, [], ◌∷◌, ◌++◌, length, map, take, get_or, sym, ap, ◌∙◌, append_assoc, append-nil}
use Rattle.std.proofs.lemmas.List.{map-append, take_more}
use Rattle.std.proofs.lemmas.List.Concat.{flat_map-append}
use Rattle.std.specs.Prelude.{Result, Ok, Err, OnOk}
use Rattle.g1_words.specs.declared.region.Region.{Region}
use Rattle.g1_image.specs.declared.cursor.Version.TheVariants.{Two}
use Rattle.g1_image.specs.Text.{File, magic, heading_text, heading_of, entry_text, table_text, words_text, numbers_text, remembered_texts, file_text}
use Rattle.g1_image.specs.Image.{entry_of}

-- the parts of a file before its words, one written after another behind what is there, and the words are its text
pub file_written : (f : File) (o a b c d e g : List ℕ) → a ≡ o ++ magic f.version → b ≡ a ++ heading_text (heading_of f) → c ≡ b ++ table_text f.version f.table → d ≡ c ++ words_text f.roots →
    e ≡ d ++ numbers_text f.log → g ≡ e ++ remembered_texts f.remembered → g ++ words_text f.words ≡ o ++ file_text f
file_written f o a b c d e g ea eb ec ed ee eg =
    ap (λ l. l ++ words_text f.words) (eg ∙ ap (λ l. l ++ remembered_texts f.remembered) (ee ∙ ap (λ l. l ++ numbers_text f.log) (ed ∙ ap (λ l. l ++ words_text f.roots)
    (ec ∙ ap (λ l. l ++ table_text f.version f.table) (eb ∙ ap (λ l. l ++ heading_text (heading_of f)) ea)))))
    ∙ (simp append_assoc)

-- a region's entry, written behind those of the regions before it
pub table_more : (rs : List Region) (i : ℕ) (d : Region) (o a b : List ℕ) → i < length rs → a ≡ o ++ table_text Two (map entry_of (take i rs)) →
    b ≡ a ++ entry_text Two (entry_of (get_or rs i d)) → b ≡ o ++ table_text Two (map entry_of (take (i + 1) rs))
table_more rs i d o a b lt ea eb =
    let e = entry_of (get_or rs i d) in
    let before = table_text Two (map entry_of (take i rs)) in
    let texts : table_text Two (map entry_of (take (i + 1) rs)) ≡ before ++ entry_text Two e =
    ap (λ l. table_text Two (map entry_of l)) (take_more rs i d lt) ∙ ap (λ l. table_text Two l) (map-append entry_of (take i rs) (get_or rs i d ∷ []))
    ∙ flat_map-append (entry_text Two) (map entry_of (take i rs)) (e ∷ []) ∙ ap (λ l. before ++ l) (append-nil (entry_text Two e)) in
    eb ∙ ap (λ l. l ++ entry_text Two e) ea ∙ append_assoc o before (entry_text Two e) ∙ ap (λ l. o ++ l) (sym texts)

pub on_ok : {X E : Type 0} (r : Result X E) (P Q : Type 0) → (P → Q) → OnOk r P → OnOk r Q
on_ok (Ok x) P Q f h = f h
on_ok (Err e) P Q f h = tt
