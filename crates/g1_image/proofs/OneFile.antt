-- No file's text begins another's.
use Rattle.std.proofs.Common.{◌≡◌, ℕ, List, [], ◌++◌, refl, sym, ap, ◌∙◌, append_assoc}
use Rattle.std.proofs.lemmas.List.{append-nil}
use Rattle.g1_words.specs.declared.limits.Limits.{Limits}
use Rattle.g1_image.specs.Text.{File, magic, heading_text, heading_of, file_text, table_text, words_text, numbers_text, remembered_texts, entry_text, remembered_text, table_words}
use Rattle.g1_image.specs.Faults.{EntryFits, RememberedFits, FileFits}
use Rattle.g1_image.proofs.PrefixFree.{IsPrefixFree, Are-free}
use Rattle.g1_image.proofs.Parts.{magic_free, entry_free, set_free, heading_free}
use Rattle.g1_image.proofs.Files.{numbers_free, words_free, are_table, are_roots, are_log, are_remembered, words_as}

pub file_free : {limits : Limits} → IsPrefixFree (FileFits limits) file_text
file_free x y s t fx fy e =
    let flat : (f : File) (r : List ℕ) → file_text f ++ r ≡ magic f.version
    ++ (heading_text (heading_of f) ++ (table_text f.version f.table ++ (words_text f.roots ++ (numbers_text f.log ++ (remembered_texts f.remembered ++ (words_text f.words ++ r)))))) =
    λ f r. simp append_assoc in
    let rest : List ℕ = words_text x.roots ++ (numbers_text x.log ++ (remembered_texts x.remembered ++ (words_text x.words ++ s))) in
    let v = magic_free x.version y.version _ _ (sym (flat x s) ∙ e ∙ flat y t) in
    let h = heading_free (heading_of x) (heading_of y) _ _ fx.heading fy.heading v.1 in
    let a = Are-free (EntryFits y.version) (entry_text y.version) (entry_free y.version) y.n x.table y.table rest _
    (are_table y.version (heading_of y) x fx (v.0, h.0)) (are_table y.version (heading_of y) y fy (refl, refl)) (ap (λ u. table_text u x.table ++ rest) (sym v.0) ∙ h.1) in
    let b = words_free (heading_of y).roots x.roots y.roots _ _ (are_roots (heading_of y) x fx h.0) (are_roots (heading_of y) y fy refl) a.1 in
    let c = numbers_free (heading_of y).dirty x.log y.log _ _ (are_log (heading_of y) x fx h.0) (are_log (heading_of y) y fy refl) b.1 in
    let d = Are-free RememberedFits remembered_text set_free y.n x.remembered y.remembered _ _ (are_remembered (heading_of y) x fx h.0) (are_remembered (heading_of y) y fy refl) c.1 in
    let k = words_free (table_words y.table) x.words y.words s t (words_as y.table x fx a.0) fy.words d.1 in (
      (λ i. record {
        version = v.0 i;
        w = (h.0 i).w;
        k = (h.0 i).k;
        n = (h.0 i).n;
        current = (h.0 i).current;
        table = a.0 i;
        roots = b.0 i;
        log = c.0 i;
        remembered = d.0 i;
        words = k.0 i;
      }),
      k.1,
    )

pub one_file : {limits : Limits} (bytes : List ℕ) (f g : File) → FileFits limits f → FileFits limits g → bytes ≡ file_text f → bytes ≡ file_text g → f ≡ g
one_file bytes f g ff fg e d = (file_free f g [] [] ff fg (append-nil (file_text f) ∙ sym e ∙ d ∙ sym (append-nil (file_text g)))).0
