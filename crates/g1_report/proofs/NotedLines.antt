-- The lines of a text with names behind them, one after another.
use Rattle.std.proofs.Common.{◌≡◌, ℕ, ◌+◌, ◌<◌, ◌^◌, ◌==◌, ◌&&◌, Bool, true, false, not, List, [], ◌∷◌, ◌++◌, length, get_or, take, refl, sym, ap, ◌∙◌, arith, append_assoc, append-nil, Result, Ok, Err, codes}
use Rattle.std.specs.Prelude.{Option, Some, None, OnOk, is_ok, if◌then◌else◌, nat_lt, flat_map}
use Rattle.std.specs.Borrow.{Bor}
use Rattle.std.specs.List.{filter_map, cons_option}
use Rattle.std.specs.Result.{result_ok}
use Rattle.std.specs.Str.{all_ascii_digits}
use Rattle.std.specs.Str.Parse.{AllDigits, IsNumeral, ParsesUnsigned, digits_value, without_leading_plus}
use Rattle.std.proofs.lemmas.Bool.{false≢true, lt-ltb, ltb-true, ne_eqb, and_parts}
use Rattle.std.proofs.lemmas.List.{map-append, take_more}
use Rattle.std.proofs.lemmas.List.Concat.{flat_map-append}
use Rattle.std.proofs.lemmas.List.Elements.{filter_map-append}
use Rattle.std.proofs.lemmas.Str.Parse.{IsNumeralModel, numerals_by_value, tells_all_ascii_digits}
use Rattle.g1_report.specs.Program.{texts}
use Rattle.g1_report.specs.Noted.{is_number, number_said}

digits_pass : (ds : List ℕ) → AllDigits 10 ds → all_ascii_digits ds ≡ true
digits_pass ds h = let own : IsNumeralModel (λ ds. all_ascii_digits ds ≡ true) (digits_value 10) = numerals_by_value (λ ds. all_ascii_digits ds ≡ true) tells_all_ascii_digits in own.from ds h

pass_digits : (ds : List ℕ) → all_ascii_digits ds ≡ true → AllDigits 10 ds
pass_digits ds h = let own : IsNumeralModel (λ ds. all_ascii_digits ds ≡ true) (digits_value 10) = numerals_by_value (λ ds. all_ascii_digits ds ≡ true) tells_all_ascii_digits in own.to ds h

not_empty : (ds : List ℕ) → not (length ds == 0) ≡ true → 0 < length ds
not_empty [] h = absurd (false≢true h)
not_empty (d ∷ ds) h = omega arith

is_one : (ds : List ℕ) → IsNumeral 10 ds → digits_value 10 ds < 2 ^ 64 → is_number ds ≡ true
is_one ds h small =
    let some : (length ds == 0) ≡ false = ne_eqb (length ds) 0 (λ e. let m = h.0 in omega (arith, e, m)) in
    let digits : all_ascii_digits ds ≡ true = digits_pass ds h.1 in
    let below : nat_lt (digits_value 10 ds) (2 ^ 64) ≡ true = lt-ltb (digits_value 10 ds) (2 ^ 64) small in
    λ i. not (some i) && (digits i && below i)

one_is : (ds : List ℕ) → is_number ds ≡ true → IsNumeral 10 ds × (digits_value 10 ds < 2 ^ 64)
one_is ds h =
    let a = and_parts (not (length ds == 0)) (all_ascii_digits ds && nat_lt (digits_value 10 ds) (2 ^ 64)) h in
    let b = and_parts (all_ascii_digits ds) (nat_lt (digits_value 10 ds) (2 ^ 64)) a.1 in
    ((not_empty ds a.0, pass_digits ds b.0), ltb-true (digits_value 10 ds) (2 ^ 64) b.1)

none_is : (ds : List ℕ) (b : Bool) → is_number ds ≡ b → (IsNumeral 10 ds × (digits_value 10 ds < 2 ^ 64) → ⊥) → is_number ds ≡ false
none_is ds true e h = absurd (h (one_is ds e))
none_is ds false e h = e

-- WHAT `parse` READS
pub number_read : {E : Type 0} (word : List ℕ) (r : Result ℕ E) → ParsesUnsigned 64 10 word r → result_ok r ≡ number_said word
number_read word (Ok n) h =
    let ds = without_leading_plus word in
    ap Some h.1 ∙ ap (λ b. if b then Some (digits_value 10 ds) else None) (sym (is_one ds h.0.0 h.0.1))
number_read word (Err x) h =
    let ds = without_leading_plus word in
    ap (λ b. if b then Some (digits_value 10 ds) else None) (sym (none_is ds (is_number ds) refl h))

-- the numbers among words up to one, and that one's
pub next_number : (words : List (Bor (List ℕ))) (k : ℕ) (d : Bor (List ℕ)) (before after : List ℕ) (o : Option ℕ) → k < length words → before ≡ filter_map number_said (texts (take k words))
    → o ≡ number_said (get_or words k d).now → after ≡ before ++ cons_option o [] → after ≡ filter_map number_said (texts (take (k + 1) words))
next_number words k d before after o lt a e b =
    let word = get_or words k d in
    let said : texts (take (k + 1) words) ≡ texts (take k words) ++ word.now ∷ [] = ap texts (take_more words k d lt) ∙ map-append (λ (t : Bor (List ℕ)). t.now) (take k words) (word ∷ []) in
    b ∙ ap (λ l. l ++ cons_option o []) a ∙ ap (λ n. filter_map number_said (texts (take k words)) ++ cons_option n []) e
    ∙ sym (filter_map-append number_said (texts (take k words)) (word.now ∷ [])) ∙ ap (filter_map number_said) (sym said)

-- a line, its note, and its end
pub line_pushed : {E : Type 0} (r : Result (Unit {0}) E) (line note end t0 t1 t2 t3 : List ℕ) → (length line == 0) ≡ false → t1 ≡ t0 ++ line → t2 ≡ t1 ++ note
    → t3 ≡ (if is_ok r then t2 ++ end else t2) → end ≡ codes "\n" → OnOk r (t3 ≡ t0 ++ (if length line == 0 then [] else line ++ (note ++ codes "\n")))
line_pushed (Ok u) line note end t0 t1 t2 t3 some a b c e =
    c ∙ ap (λ n. t2 ++ n) e ∙ ap (λ t. t ++ codes "\n") (b ∙ ap (λ t. t ++ note) a) ∙ append_assoc (t0 ++ line) note (codes "\n") ∙ append_assoc t0 line (note ++ codes "\n")
    ∙ ap (λ b. t0 ++ (if b then [] else line ++ (note ++ codes "\n"))) (sym some)
line_pushed (Err x) line note end t0 t1 t2 t3 some a b c e = tt

-- the lines up to one, and that one
pub next_line : (f : List ℕ → List ℕ) (parts : List (Bor (List ℕ))) (line : Bor (List ℕ)) (before after : List ℕ) → before ≡ flat_map f (texts parts) → after ≡ before ++ f line.now
    → after ≡ flat_map f (texts (parts ++ line ∷ []))
next_line f parts line before after a b =
    b ∙ ap (λ t. t ++ f line.now) a ∙ ap (λ t. flat_map f (texts parts) ++ t) (sym (append-nil (f line.now))) ∙ sym (flat_map-append f (texts parts) (line.now ∷ []))
    ∙ ap (flat_map f) (sym (map-append (λ (t : Bor (List ℕ)). t.now) parts (line ∷ [])))
