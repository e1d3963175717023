-- What the lines of a program's names say, one after another.
use Rattle.std.proofs.Common.{◌≡◌, ℕ, List, [], ◌∷◌, ◌++◌, map, filter, sym, ap, subst, ◌∙◌, append_assoc, append-nil}
use Rattle.std.specs.Prelude.{Option, IfSome}
use Rattle.std.specs.Borrow.{Bor}
use Rattle.std.specs.List.{AllZip, filter_map}
use Rattle.std.proofs.lemmas.List.{map-append}
use Rattle.std.proofs.lemmas.List.Elements.{filter-append, filter_map-append}
use Rattle.std.proofs.lemmas.List.Sorted.{IsNonDecreasingBy-from_sort}
use Rattle.g1_text.specs.Reading.{words_in}
use Rattle.g1_report.specs.Program.{ProgramNames, RiseByNumber, AreInOrder, texts}
use Rattle.g1_report.specs.NamesText.{Saying, Says, root_said, type_said, label_said, text_said, object_said, named_said, with_said, has_word, IsSaid, IsTaken, ArePutInOrder}

says_append : (labels : Option (List (ℕ × List ℕ))) (xs us : List (List (List ℕ))) (ys vs : List Saying) → AllZip (Says labels) xs ys → AllZip (Says labels) us vs → AllZip (Says labels) (xs ++ us) (ys ++ vs)
says_append labels [] us [] vs a b = b
says_append labels [] us (y ∷ ys) vs a b = absurd a
says_append labels (x ∷ xs) us [] vs a b = absurd a
says_append labels (x ∷ xs) us (y ∷ ys) vs a b = (a.0, says_append labels xs us ys vs a.1 b)

both : {X : Type 0} (f : Saying → Option X) (l : List X) (xs ys : List Saying) → (l ++ filter_map f xs) ++ filter_map f ys ≡ l ++ filter_map f (xs ++ ys)
both f l xs ys = append_assoc l (filter_map f xs) (filter_map f ys) ∙ ap (λ m. l ++ m) (sym (filter_map-append f xs ys))

said_twice : (p : ProgramNames) (xs ys : List Saying) → with_said (with_said p xs) ys ≡ with_said p (xs ++ ys)
said_twice p xs ys = λ i. record {
  roots = both root_said p.roots xs ys i;
  types = both type_said p.types xs ys i;
  labels = both label_said p.labels xs ys i;
  texts = both text_said p.texts xs ys i;
  objects = both object_said p.objects xs ys i;
  named = both named_said p.named xs ys i;
  labels_before = p.labels_before;
}

nothing_said : (p : ProgramNames) → p ≡ with_said p []
nothing_said p = λ i. record {
  roots = sym (append-nil p.roots) i;
  types = sym (append-nil p.types) i;
  labels = sym (append-nil p.labels) i;
  texts = sym (append-nil p.texts) i;
  objects = sym (append-nil p.objects) i;
  named = sym (append-nil p.named) i;
  labels_before = p.labels_before;
}

-- no line, or one with no word
pub none_said : (labels : Option (List (ℕ × List ℕ))) (p : ProgramNames) → IsSaid labels [] p p
none_said labels p = record { said = []; says = tt; names = nothing_said p }

pub blank_said : (labels : Option (List (ℕ × List ℕ))) (words : List (List ℕ)) (p : ProgramNames) → words ≡ [] → IsSaid labels (words ∷ []) p p
blank_said labels words p e = subst (λ w. IsSaid labels (w ∷ []) p p) (sym e) (record { said = []; says = tt; names = nothing_said p })

-- one line
pub line_said : (words : List (List ℕ)) (first : List ℕ) (rest : List (List ℕ)) (p q : ProgramNames) → words ≡ first ∷ rest → IsTaken (first ∷ rest) p q → IsSaid p.labels_before (words ∷ []) p q
line_said words first rest p q e h =
    subst (λ w. IsSaid p.labels_before (w ∷ []) p q) (sym e) (record { said = h.said ∷ []; says = (h.says, tt); names = h.names })

-- lines, and others behind them
both_said : (labels : Option (List (ℕ × List ℕ))) (xs ys : List (List (List ℕ))) (p q r : ProgramNames) → IsSaid labels xs p q → IsSaid labels ys q r → IsSaid labels (xs ++ ys) p r
both_said labels xs ys p q r a b = record {
  said = a.said ++ b.said;
  says = subst (λ l. AllZip (Says labels) l (a.said ++ b.said)) (sym (filter-append has_word xs ys)) (says_append labels (filter has_word xs) (filter has_word ys) a.said b.said a.says b.says);
  names = b.names ∙ ap (λ n. with_said n b.said) a.names ∙ said_twice p a.said b.said;
}

pub same_labels : (labels : Option (List (ℕ × List ℕ))) (xs : List (List (List ℕ))) (p q : ProgramNames) → IsSaid labels xs p q → q.labels_before ≡ p.labels_before
same_labels labels xs p q h = ap (λ n. n.labels_before) h.names

-- the lines of a text up to one, and that one
pub next_said : (parts : List (Bor (List ℕ))) (line : Bor (List ℕ)) (p q r : ProgramNames) → IsSaid p.labels_before (map words_in (texts parts)) p q
    → IsSaid q.labels_before (words_in line.now ∷ []) q r → IsSaid p.labels_before (map words_in (texts (parts ++ line ∷ []))) p r
next_said parts line p q r a b =
    subst (λ l. IsSaid p.labels_before l p r)
    (sym (ap (map words_in) (map-append (λ (t : Bor (List ℕ)). t.now) parts (line ∷ [])) ∙ map-append words_in (texts parts) (texts (line ∷ []))))
    (both_said p.labels_before (map words_in (texts parts)) (words_in line.now ∷ []) p q r a (subst (λ l. IsSaid l (words_in line.now ∷ []) q r) (same_labels p.labels_before (map words_in (texts parts)) p q a) b))

-- NAMES THAT ARE PUT IN ORDER ARE IN ORDER, if the names of the heap's objects are
pub put_in_order : (p q : ProgramNames) → ArePutInOrder p q → IfSome q.labels_before RiseByNumber → AreInOrder q
put_in_order p q h labels = record {
  roots = IsNonDecreasingBy-from_sort (λ line. line.0) q.roots h.roots.rise;
  types = h.types.rise;
  labels = IsNonDecreasingBy-from_sort (λ line. line.0) q.labels h.labels.rise;
  texts = IsNonDecreasingBy-from_sort (λ line. line.0) q.texts h.texts.rise;
  objects = IsNonDecreasingBy-from_sort (λ line. line.0) q.objects h.objects.rise;
  named = h.named.rise;
  labels_before = labels;
}
