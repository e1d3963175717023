-- One line of a program's names stands behind those before it.
use Rattle.std.proofs.Common.{◌≡◌, ℕ, ◌-◌, ◌<◌, ◌≤◌, ◌^◌, ◌==◌, ◌||◌, Bool, true, false, subst, take, List, [], ◌∷◌, ◌++◌, length, get_or, drop, map, refl, sym, ap, ◌∙◌, arith, append-nil, codes}
use Rattle.std.specs.Prelude.{Option, Some, None, IsSome, is_some, option_map, bytes_eq}
use Rattle.std.specs.Borrow.{Bor}
use Rattle.std.specs.List.{list_any}
use Rattle.std.proofs.lemmas.Bool.{false≢true}
use Rattle.std.proofs.lemmas.Slice.Eq.{bytes_eq-Decides}
use Rattle.std.proofs.lemmas.List.{map-append, take_all}
use Rattle.g1_text.specs.Forms.{Spells, StandsFor, IsName}
use Rattle.g1_report.specs.Program.{ProgramNames, KindOf, is_data, texts}
use Rattle.g1_report.specs.NamesText.{OfRoot, OfType, OfLabel, OfText, OfAddress, OfName, IsKind, IsTaken}

-- a list with one more, as it is read
pub pushed : {X Y : Type 0} (f : X → Y) (new old : List X) (x : X) → new ≡ old ++ x ∷ [] → map f new ≡ map f old ++ f x ∷ []
pushed f new old x e = ap (map f) e ∙ map-append f old (x ∷ [])

-- the words that a pattern of a slice names
pub two_words : (ws : List (Bor (List ℕ))) (d e : Bor (List ℕ)) → 2 ≤ length ws → length ws < 3 → texts ws ≡ (get_or ws 0 d).now ∷ (get_or ws 1 e).now ∷ []
two_words [] d e low high = absurd (omega (arith, low))
two_words (a ∷ []) d e low high = absurd (omega (arith, low))
two_words (a ∷ b ∷ []) d e low high = refl
two_words (a ∷ b ∷ c ∷ ws) d e low high = absurd (omega (arith, high))

pub three_words : (ws : List (Bor (List ℕ))) (d e f : Bor (List ℕ)) → 3 ≤ length ws → length ws < 4 → texts ws ≡ (get_or ws 0 d).now ∷ (get_or ws 1 e).now ∷ (get_or ws 2 f).now ∷ []
three_words [] d e f low high = absurd (omega (arith, low))
three_words (a ∷ []) d e f low high = absurd (omega (arith, low))
three_words (a ∷ b ∷ []) d e f low high = absurd (omega (arith, low))
three_words (a ∷ b ∷ c ∷ []) d e f low high = refl
three_words (a ∷ b ∷ c ∷ g ∷ ws) d e f low high = absurd (omega (arith, high))

pub word_and_rest : (ws : List (Bor (List ℕ))) (d : Bor (List ℕ)) → 1 ≤ length ws → texts ws ≡ (get_or ws 0 d).now ∷ texts (take (length ws - 1) (drop 1 ws))
word_and_rest [] d low = absurd (omega (arith, low))
word_and_rest (a ∷ ws) d low = ap (λ r. a.now ∷ texts r) (sym (take_all (length (a ∷ ws) - 1) ws (omega arith)))

pub two_and_rest : (ws : List (Bor (List ℕ))) (d e : Bor (List ℕ)) → 2 ≤ length ws → texts ws ≡ (get_or ws 0 d).now ∷ (get_or ws 1 e).now ∷ texts (take (length ws - 2) (drop 2 ws))
two_and_rest [] d e low = absurd (omega (arith, low))
two_and_rest (a ∷ []) d e low = absurd (omega (arith, low))
two_and_rest (a ∷ b ∷ ws) d e low = ap (λ r. a.now ∷ b.now ∷ texts r) (sym (take_all (length (a ∷ b ∷ ws) - 2) ws (omega arith)))

pub same_bytes : (a b : List ℕ) → a ≡ b → bytes_eq a b ≡ true
same_bytes a b e = (bytes_eq-Decides a b).1 e

-- words that are left
pub some_left : (rest kept : List (Bor (List ℕ))) (b : Bool) → b ≡ (length rest == 0) → b ≡ false → kept ≡ rest → 0 < length (texts kept)
some_left [] kept b e f is = absurd (false≢true (sym f ∙ e))
some_left (a ∷ rest) kept b e f is = subst (λ l. 0 < length (texts l)) (sym is) (omega arith)

-- a line that has no words
pub no_words : (line : List (List ℕ)) (words kept : List (Bor (List ℕ))) → texts words ≡ line → kept ≡ words → length kept < 1 → line ≡ []
no_words line words [] e is low = sym e ∙ ap texts (sym is)
no_words line words (a ∷ kept) e is low = absurd (omega (arith, low))

-- one of the words is `data`
pub any_data : (words : List (Bor (List ℕ))) → list_any is_data (texts words) ≡ list_any (λ w. is_data w.now) words
any_data [] = refl
any_data (a ∷ words) = ap (λ b. is_data a.now || b) (any_data words)

pub no_labels : {X Y : Type 0} (f : X → Y) (o : Option X) → is_some o ≡ false → option_map f o ≡ None
no_labels f None e = refl
no_labels f (Some x) e = absurd (false≢true (sym e))

module _ (p : ProgramNames) (words : List (List ℕ)) where
  pub root_taken : (roots : List (ℕ × List ℕ)) (n : ℕ) (number name : List ℕ) → roots ≡ p.roots ++ (n, name) ∷ [] → words ≡ codes "root" ∷ number ∷ name ∷ [] → Spells (2 ^ 64) n number
      → IsTaken words p (record { roots = roots; types = p.types; labels = p.labels; texts = p.texts; objects = p.objects; named = p.named; labels_before = p.labels_before })
  root_taken roots n number name e is spells = record {
    said = OfRoot n name;
    says = (number, is, spells);
    names = λ i. record { roots = e i; types = sym (append-nil p.types) i; labels = sym (append-nil p.labels) i; texts = sym (append-nil p.texts) i; objects = sym (append-nil p.objects) i; named = sym (append-nil p.named) i; labels_before = p.labels_before };
  }

  pub type_taken : (types : List (List ℕ × List (List ℕ))) (name : List ℕ) (rest : List (List ℕ)) → types ≡ p.types ++ (name, rest) ∷ [] → words ≡ codes "type" ∷ name ∷ codes "slots" ∷ rest → list_any is_data rest ≡ true
      → IsTaken words p (record { roots = p.roots; types = types; labels = p.labels; texts = p.texts; objects = p.objects; named = p.named; labels_before = p.labels_before })
  type_taken types name rest e is some = record {
    said = OfType name rest;
    says = (is, some);
    names = λ i. record { roots = sym (append-nil p.roots) i; types = e i; labels = sym (append-nil p.labels) i; texts = sym (append-nil p.texts) i; objects = sym (append-nil p.objects) i; named = sym (append-nil p.named) i; labels_before = p.labels_before };
  }

  pub label_taken : (labels : List (ℕ × List ℕ)) (n : ℕ) (word name : List ℕ) → labels ≡ p.labels ++ (n, name) ∷ [] → words ≡ codes "label" ∷ word ∷ name ∷ [] → StandsFor n word
      → IsTaken words p (record { roots = p.roots; types = p.types; labels = labels; texts = p.texts; objects = p.objects; named = p.named; labels_before = p.labels_before })
  label_taken labels n word name e is stands = record {
    said = OfLabel n name;
    says = (word, is, stands);
    names = λ i. record { roots = sym (append-nil p.roots) i; types = sym (append-nil p.types) i; labels = e i; texts = sym (append-nil p.texts) i; objects = sym (append-nil p.objects) i; named = sym (append-nil p.named) i; labels_before = p.labels_before };
  }

  pub text_taken : (ts : List (ℕ × List (List ℕ))) (n : ℕ) (word : List ℕ) (text : List (List ℕ)) → ts ≡ p.texts ++ (n, text) ∷ [] → words ≡ codes "text" ∷ word ∷ text → 0 < length text → StandsFor n word
      → IsTaken words p (record { roots = p.roots; types = p.types; labels = p.labels; texts = ts; objects = p.objects; named = p.named; labels_before = p.labels_before })
  text_taken ts n word text e is some stands = record {
    said = OfText n text;
    says = (word, is, some, stands);
    names = λ i. record { roots = sym (append-nil p.roots) i; types = sym (append-nil p.types) i; labels = sym (append-nil p.labels) i; texts = e i; objects = sym (append-nil p.objects) i; named = sym (append-nil p.named) i; labels_before = p.labels_before };
  }

  pub address_taken : (objects : List (ℕ × KindOf)) (at : ℕ) (address : List ℕ) (kind : KindOf) (rest : List (List ℕ)) → objects ≡ p.objects ++ (at, kind) ∷ [] → words ≡ codes "object" ∷ address ∷ rest → Spells (2 ^ 64) at address
      → IsKind kind rest → p.labels_before ≡ None
      → IsTaken words p (record { roots = p.roots; types = p.types; labels = p.labels; texts = p.texts; objects = objects; named = p.named; labels_before = p.labels_before })
  address_taken objects at address kind rest e is spells of none = record {
    said = OfAddress at kind;
    says = (address, rest, is, spells, of, none);
    names = λ i. record { roots = sym (append-nil p.roots) i; types = sym (append-nil p.types) i; labels = sym (append-nil p.labels) i; texts = sym (append-nil p.texts) i; objects = e i; named = sym (append-nil p.named) i; labels_before = p.labels_before };
  }

  pub name_taken : (named : List (List ℕ × KindOf)) (name : List ℕ) (kind : KindOf) (rest : List (List ℕ)) → named ≡ p.named ++ (name, kind) ∷ [] → words ≡ codes "object" ∷ name ∷ rest → IsName name
      → IsKind kind rest → IsSome p.labels_before
      → IsTaken words p (record { roots = p.roots; types = p.types; labels = p.labels; texts = p.texts; objects = p.objects; named = named; labels_before = p.labels_before })
  name_taken named name kind rest e is may of some = record {
    said = OfName name kind;
    says = (rest, is, may, of, some);
    names = λ i. record { roots = sym (append-nil p.roots) i; types = sym (append-nil p.types) i; labels = sym (append-nil p.labels) i; texts = sym (append-nil p.texts) i; objects = sym (append-nil p.objects) i; named = e i; labels_before = p.labels_before };
  }
