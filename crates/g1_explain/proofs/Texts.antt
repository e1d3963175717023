-- The text of lines that are pushed one after the other.
use Rattle.std.proofs.Common.{◌≡◌, ◌≤◌, ℕ, List, [], ◌∷◌, ◌++◌, length, take, map, flat_map, refl, sym, ◌∙◌, ap, append_assoc}
use Rattle.std.specs.Prelude.{decimal}
use Rattle.g1_words.specs.declared.object.Object.{Object}
use Rattle.g1_text.specs.Lines.{line_text, further, text_of}
use Rattle.g1_text.proofs.Printed.{text_append, text_map, take_all}
use Rattle.g1_explain.specs.declared.paths.Leg.{Leg}
use Rattle.g1_explain.specs.Lines.{step_words, object_words, path_line}

-- a line, and lines behind it
pub line_then : (old now after : List ℕ) (line : List (List ℕ)) (lines : List (List (List ℕ))) → now ≡ old ++ line_text line → after ≡ now ++ text_of lines → after ≡ old ++ text_of (line ∷ lines)
line_then old now after line lines e p = p ∙ ap (λ l. l ++ text_of lines) e ∙ append_assoc old (line_text line) (text_of lines)

-- lines, and lines behind them
pub lines_then : (old now after : List ℕ) (xs ys : List (List (List ℕ))) → now ≡ old ++ text_of xs → after ≡ now ++ text_of ys → after ≡ old ++ text_of (xs ++ ys)
lines_then old now after xs ys e p =
    p ∙ ap (λ l. l ++ text_of ys) e ∙ append_assoc old (text_of xs) (text_of ys) ∙ ap (λ l. old ++ l) (sym (text_append xs ys))

-- three lines, and lines behind them
pub kept_end : (old a b c d e : List ℕ) (l m n : List (List ℕ)) (xs ys : List (List (List ℕ))) → a ≡ old ++ line_text l → b ≡ a ++ line_text m → c ≡ b ++ line_text n
    → d ≡ c ++ text_of xs → e ≡ d ++ text_of ys → e ≡ old ++ text_of (l ∷ m ∷ n ∷ (xs ++ ys))
kept_end old a b c d e l m n xs ys p q r s t =
    line_then old a e l (m ∷ n ∷ (xs ++ ys)) p (line_then a b e m (n ∷ (xs ++ ys)) q (line_then b c e n (xs ++ ys) r (lines_then c d e xs ys s t)))

further_flat : (ws : List (List ℕ)) → further ws ≡ flat_map (λ w. 32 ∷ w) ws ++ 10 ∷ []
further_flat [] = refl
further_flat (w ∷ ws) = ap (λ l. 32 ∷ (w ++ l)) (further_flat ws) ∙ ap (λ l. 32 ∷ l) (sym (append_assoc w (flat_map (λ w. 32 ∷ w) ws) (10 ∷ [])))

flat_append : (xs ys : List (List ℕ)) → flat_map (λ w. 32 ∷ w) (xs ++ ys) ≡ flat_map (λ w. 32 ∷ w) xs ++ flat_map (λ w. 32 ∷ w) ys
flat_append [] ys = refl
flat_append (x ∷ xs) ys = ap (λ l. 32 ∷ (x ++ l)) (flat_append xs ys) ∙ ap (λ l. 32 ∷ l) (sym (append_assoc x (flat_map (λ w. 32 ∷ w) xs) (flat_map (λ w. 32 ∷ w) ys)))

steps_flat : (legs : List Leg) → flat_map (λ w. 32 ∷ w) (flat_map (λ l. step_words l.finder) legs) ≡ flat_map (λ l. flat_map (λ w. 32 ∷ w) (step_words l.finder)) legs
steps_flat [] = refl
steps_flat (l ∷ legs) = flat_append (step_words l.finder) (flat_map (λ l. step_words l.finder) legs) ∙ ap (λ z. flat_map (λ w. 32 ∷ w) (step_words l.finder) ++ z) (steps_flat legs)

-- the first line of a path
pub path_end : (old a b c word : List ℕ) (at : ℕ) (legs : List Leg) → a ≡ old ++ (word ++ 32 ∷ decimal at) → b ≡ a ++ flat_map (λ l. flat_map (λ w. 32 ∷ w) (step_words l.finder)) legs
    → c ≡ b ++ 10 ∷ [] → c ≡ old ++ line_text (path_line word at legs)
path_end old a b c word at legs p q r =
    let steps : List ℕ = flat_map (λ l. flat_map (λ w. 32 ∷ w) (step_words l.finder)) legs in
    let words : List (List ℕ) = flat_map (λ l. step_words l.finder) legs in
    let last : further words ≡ steps ++ 10 ∷ [] = further_flat words ∙ ap (λ l. l ++ 10 ∷ []) (steps_flat legs) in
    r ∙ ap (λ l. l ++ 10 ∷ []) q ∙ append_assoc a steps (10 ∷ []) ∙ ap (λ l. l ++ (steps ++ 10 ∷ [])) p ∙ append_assoc old (word ++ 32 ∷ decimal at) (steps ++ 10 ∷ [])
    ∙ ap (λ l. old ++ l) (append_assoc word (32 ∷ decimal at) (steps ++ 10 ∷ []) ∙ ap (λ l. word ++ 32 ∷ (decimal at ++ l)) (sym last))

-- the line of an object, and words behind its numbers
object_end : (word : List ℕ) (o : Object) (rest : List (List ℕ))
    → (word ++ 32 ∷ (decimal o.at ++ 32 ∷ (decimal o.size ++ 47 ∷ decimal o.refs))) ++ further rest ≡ line_text (object_words word o ++ rest)
object_end word o rest =
    append_assoc word (32 ∷ (decimal o.at ++ 32 ∷ (decimal o.size ++ 47 ∷ decimal o.refs))) (further rest)
    ∙ ap (λ l. word ++ 32 ∷ l) (append_assoc (decimal o.at) (32 ∷ (decimal o.size ++ 47 ∷ decimal o.refs)) (further rest))

pub object_then : (old now after word : List ℕ) (o : Object) (rest : List (List ℕ)) → now ≡ old ++ (word ++ 32 ∷ (decimal o.at ++ 32 ∷ (decimal o.size ++ 47 ∷ decimal o.refs)))
    → after ≡ now ++ further rest → after ≡ old ++ line_text (object_words word o ++ rest)
object_then old now after word o rest e p =
    p ∙ ap (λ l. l ++ further rest) e ∙ append_assoc old (word ++ 32 ∷ (decimal o.at ++ 32 ∷ (decimal o.size ++ 47 ∷ decimal o.refs))) (further rest) ∙ ap (λ l. old ++ l) (object_end word o rest)

-- all lines of a list
pub all_lines : {X : Type 0} (f : X → List (List ℕ)) (old now : List ℕ) (xs : List X) (i : ℕ) → length xs ≤ i
    → now ≡ old ++ flat_map (λ x. line_text (f x)) (take i xs) → now ≡ old ++ text_of (map f xs)
all_lines f old now xs i le e = e ∙ ap (λ l. old ++ flat_map (λ x. line_text (f x)) l) (take_all i xs le) ∙ ap (λ l. old ++ l) (sym (text_map f xs))
