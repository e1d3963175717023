-- Lines of a program's names that say nothing.
use Rattle.std.proofs.Common.{take, take_all, take-append-drop, drop-cons, suc, ◌≡◌, ◌≢◌, ◌⊎◌, inl, inr, ℕ, ◌+◌, ◌*◌, ◌<◌, ◌^◌, true, List, [], ◌∷◌, ◌++◌, length, get_or, drop, refl, sym, ap, subst, ◌∙◌, arith, codes}
use Rattle.std.specs.Prelude.{Option, Some, None, IsSome, MatchOption, is_some, option_map}
use Rattle.std.proofs.lemmas.List.{take-append-le}
use Rattle.std.specs.List.{list_any}
use Rattle.g1_text.specs.Forms.{Spells, StandsFor, IsName}
use Rattle.g1_report.specs.Program.{KindOf, is_data}
use Rattle.g1_report.specs.NamesText.{Saying, OfRoot, OfType, OfLabel, OfText, OfAddress, OfName, Says, SaysNothing, IsKind}

pub some_labels : {X Y : Type 0} (f : X → Y) (o : Option X) → is_some o ≡ true → is_some (option_map f o) ≡ true
some_labels f None e = e
some_labels f (Some x) e = refl

-- a type stands alone, or with one word more
pub kind_count : (ws : List (List ℕ)) (word : List ℕ) (rest : List (List ℕ)) (kind : KindOf) → ws ≡ word ∷ rest → IsKind kind rest → (length ws ≡ 2) ⊎ (length ws ≡ 3)
kind_count ws word rest kind e (inl h) = inl (ap length (e ∙ ap (λ r. word ∷ r) h.0))
kind_count ws word rest kind e (inr h) = inr (ap length (e ∙ ap (λ r. word ∷ r) h))

pub front_is : (valid rest bytes : List ℕ) (n : ℕ) → bytes ≡ valid ++ rest → length valid ≡ n → valid ≡ take n bytes
front_is valid rest bytes n e l =
    sym (take_all (length valid) valid (omega arith)) ∙ sym (take-append-le (length valid) valid rest (omega arith)) ∙ ap (take (length valid)) (sym e) ∙ ap (λ m. take m bytes) l

pub around_line : (parts above : List (List ℕ)) (line : List ℕ) (n : ℕ) → above ≡ take n parts → line ≡ get_or parts n line → n < length parts → parts ≡ above ++ line ∷ drop (suc n) parts
around_line parts above line n a l lt =
    sym (take-append-drop n parts) ∙ ap (λ b. take n parts ++ b) (drop-cons parts n line lt) ∙ ap (λ x. take n parts ++ x ∷ drop (suc n) parts) (sym l) ∙ ap (λ t. t ++ line ∷ drop (suc n) parts) (sym a)

-- what follows either way
pub either_way : {X : Type 0} (r : Option X) (P Q R S : Type 0) → (P → Q) → (R → S) → MatchOption r P (λ _. R) → MatchOption r Q (λ _. S)
either_way None P Q R S f g h = f h
either_way (Some x) P Q R S f g h = g h

pub at_none : {X : Type 0} (r : Option X) (P R : Type 0) → r ≡ None → MatchOption r P (λ _. R) → P
at_none r P R e h = subst (λ o. MatchOption o P (λ _. R)) e h

pub at_some : {X : Type 0} (r : Option X) (x : X) (P R : Type 0) → r ≡ Some x → MatchOption r P (λ _. R) → R
at_some r x P R e h = subst (λ o. MatchOption o P (λ _. R)) e h

abbrev kind_word : Saying → List ℕ
kind_word (OfRoot n name) = codes "root"
kind_word (OfType name rest) = codes "type"
kind_word (OfLabel n name) = codes "label"
kind_word (OfText n text) = codes "text"
kind_word (OfAddress at kind) = codes "object"
kind_word (OfName name kind) = codes "object"

abbrev letters : List ℕ → ℕ
letters word = get_or word 0 0 * 256 + get_or word 1 0

module _ (labels : Option (List (ℕ × List ℕ))) where
  begins : (words : List (List ℕ)) (s : Saying) → Says labels words s → get_or words 0 [] ≡ kind_word s
  begins words (OfRoot n name) h = ap (λ l. get_or l 0 []) h.1
  begins words (OfType name rest) h = ap (λ l. get_or l 0 []) h.0
  begins words (OfLabel n name) h = ap (λ l. get_or l 0 []) h.1
  begins words (OfText n text) h = ap (λ l. get_or l 0 []) h.1
  begins words (OfAddress at kind) h = ap (λ l. get_or l 0 []) h.2
  begins words (OfName name kind) h = ap (λ l. get_or l 0 []) h.1

  other : (word : List ℕ) (ws : List (List ℕ)) (s : Saying) → (letters word ≡ letters (kind_word s) → ⊥) → Says labels (word ∷ ws) s → ⊥
  other word ws s ne h = ne (ap letters (begins (word ∷ ws) s h))

  -- a line with another first word
  pub no_kind : (first : List ℕ) (rest : List (List ℕ)) → first ≢ codes "root" → first ≢ codes "type" → first ≢ codes "label" → first ≢ codes "text" → first ≢ codes "object" → SaysNothing labels (first ∷ rest)
  no_kind first rest a b c d e (OfRoot n name) h = a (begins (first ∷ rest) (OfRoot n name) h)
  no_kind first rest a b c d e (OfType name words) h = b (begins (first ∷ rest) (OfType name words) h)
  no_kind first rest a b c d e (OfLabel n name) h = c (begins (first ∷ rest) (OfLabel n name) h)
  no_kind first rest a b c d e (OfText n text) h = d (begins (first ∷ rest) (OfText n text) h)
  no_kind first rest a b c d e (OfAddress at kind) h = e (begins (first ∷ rest) (OfAddress at kind) h)
  no_kind first rest a b c d e (OfName name kind) h = e (begins (first ∷ rest) (OfName name kind) h)

  module _ (ws : List (List ℕ)) where
    pub no_root : ((number name : List ℕ) (n : ℕ) → ws ≡ number ∷ name ∷ [] → Spells (2 ^ 64) n number → ⊥) → SaysNothing labels (codes "root" ∷ ws)
    no_root f (OfRoot n name) h = f h.0 name n (ap (drop 1) h.1) h.2
    no_root f (OfType name rest) h = other (codes "root") ws (OfType name rest) (λ q. omega (arith, q)) h
    no_root f (OfLabel n name) h = other (codes "root") ws (OfLabel n name) (λ q. omega (arith, q)) h
    no_root f (OfText n text) h = other (codes "root") ws (OfText n text) (λ q. omega (arith, q)) h
    no_root f (OfAddress at kind) h = other (codes "root") ws (OfAddress at kind) (λ q. omega (arith, q)) h
    no_root f (OfName name kind) h = other (codes "root") ws (OfName name kind) (λ q. omega (arith, q)) h

    pub no_type : ((name : List ℕ) (rest : List (List ℕ)) → ws ≡ name ∷ codes "slots" ∷ rest → list_any is_data rest ≡ true → ⊥) → SaysNothing labels (codes "type" ∷ ws)
    no_type f (OfRoot n name) h = other (codes "type") ws (OfRoot n name) (λ q. omega (arith, q)) h
    no_type f (OfType name rest) h = f name rest (ap (drop 1) h.0) h.1
    no_type f (OfLabel n name) h = other (codes "type") ws (OfLabel n name) (λ q. omega (arith, q)) h
    no_type f (OfText n text) h = other (codes "type") ws (OfText n text) (λ q. omega (arith, q)) h
    no_type f (OfAddress at kind) h = other (codes "type") ws (OfAddress at kind) (λ q. omega (arith, q)) h
    no_type f (OfName name kind) h = other (codes "type") ws (OfName name kind) (λ q. omega (arith, q)) h

    pub no_label : ((word name : List ℕ) (n : ℕ) → ws ≡ word ∷ name ∷ [] → StandsFor n word → ⊥) → SaysNothing labels (codes "label" ∷ ws)
    no_label f (OfRoot n name) h = other (codes "label") ws (OfRoot n name) (λ q. omega (arith, q)) h
    no_label f (OfType name rest) h = other (codes "label") ws (OfType name rest) (λ q. omega (arith, q)) h
    no_label f (OfLabel n name) h = f h.0 name n (ap (drop 1) h.1) h.2
    no_label f (OfText n text) h = other (codes "label") ws (OfText n text) (λ q. omega (arith, q)) h
    no_label f (OfAddress at kind) h = other (codes "label") ws (OfAddress at kind) (λ q. omega (arith, q)) h
    no_label f (OfName name kind) h = other (codes "label") ws (OfName name kind) (λ q. omega (arith, q)) h

    pub no_text : ((word : List ℕ) (text : List (List ℕ)) (n : ℕ) → ws ≡ word ∷ text → 0 < length text → StandsFor n word → ⊥) → SaysNothing labels (codes "text" ∷ ws)
    no_text f (OfRoot n name) h = other (codes "text") ws (OfRoot n name) (λ q. omega (arith, q)) h
    no_text f (OfType name rest) h = other (codes "text") ws (OfType name rest) (λ q. omega (arith, q)) h
    no_text f (OfLabel n name) h = other (codes "text") ws (OfLabel n name) (λ q. omega (arith, q)) h
    no_text f (OfText n text) h = f h.0 text n (ap (drop 1) h.1) h.2 h.3
    no_text f (OfAddress at kind) h = other (codes "text") ws (OfAddress at kind) (λ q. omega (arith, q)) h
    no_text f (OfName name kind) h = other (codes "text") ws (OfName name kind) (λ q. omega (arith, q)) h

    pub no_object : ((word : List ℕ) (rest : List (List ℕ)) (kind : KindOf) → ws ≡ word ∷ rest → IsKind kind rest → (((n : ℕ) × Spells (2 ^ 64) n word) × (labels ≡ None)) ⊎ (IsName word × IsSome labels) → ⊥) → SaysNothing labels (codes "object" ∷ ws)
    no_object f (OfRoot n name) h = other (codes "object") ws (OfRoot n name) (λ q. omega (arith, q)) h
    no_object f (OfType name rest) h = other (codes "object") ws (OfType name rest) (λ q. omega (arith, q)) h
    no_object f (OfLabel n name) h = other (codes "object") ws (OfLabel n name) (λ q. omega (arith, q)) h
    no_object f (OfText n text) h = other (codes "object") ws (OfText n text) (λ q. omega (arith, q)) h
    no_object f (OfAddress at kind) h = f h.0 h.1 kind (ap (drop 1) h.2) h.4 (inl ((at, h.3), h.5))
    no_object f (OfName name kind) h = f name h.0 kind (ap (drop 1) h.1) h.3 (inr (h.2, h.4))
