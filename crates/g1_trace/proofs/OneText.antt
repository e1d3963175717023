-- A text has one trace, and no bad line; bytes have one first bad line.
use Rattle.std.proofs.Common.{◌≡◌, ℕ, zero, suc, ◌+◌, ◌<◌, ◌≤◌, inl, inr, List, [], ◌∷◌, ◌++◌, length, get_or, drop, map, refl, sym, ◌∙◌, ap, subst, arith, append_assoc, Contains, append-nil}
use Rattle.std.specs.Prelude.{All, decimal}
use Rattle.std.proofs.lemmas.List.Elements.{Contains-append_right}
use Rattle.g1_words.specs.Geometry.{Geometry}
use Rattle.g1_words.proofs.Members.{Contains-first, Contains-later, none_contains}
use Rattle.g1_trace.specs.declared.command.Command.{Command}
use Rattle.g1_trace.specs.declared.command.Command.TheVariants.{New, Get, Put, Set, Say, Same, Copy, Drop, Pause}
use Rattle.g1_trace.specs.TraceText.{spaced, name_of, numbers_of, AllFit, command_line, heap_line, ended, IsLineAt, AreLines, IsBadRest}
use Rattle.g1_trace.specs.Laws.{OneTrace, NoBadLine, OneBadLine}
use Rattle.g1_trace.proofs.Words.{one_split}
use Rattle.g1_trace.proofs.Numerals.{decimal_clean, fit_head, fit_rest, spaced_end, spaced_one, Clean, clean_append}
use Rattle.g1_trace.proofs.Names.{name_word, only_new, only_get, only_put, only_set, only_say, only_same, only_copy, only_drop, only_pause}
use Rattle.g1_trace.proofs.Texts.{lines_of, ended_lines, later_lines}

-- bytes have one first line
line_split : (a b xs ys : List ℕ) → Clean a → Clean b → a ++ 10 ∷ xs ≡ b ++ 10 ∷ ys → (a ≡ b) × (xs ≡ ys)
line_split [] [] xs ys n m e = (refl, ap (drop 1) e)
line_split [] (b ∷ bs) xs ys n m e = let f : 10 ≡ b = ap (λ zs. get_or zs 0 0) e in absurd (m.0 (sym f))
line_split (a ∷ at) [] xs ys n m e = let f : a ≡ 10 = ap (λ zs. get_or zs 0 0) e in absurd (n.0 f)
line_split (a ∷ at) (b ∷ bs) xs ys n m e =
    let first : a ≡ b = ap (λ zs. get_or zs 0 0) e in
    let rest = line_split at bs xs ys n.1 m.1 (ap (drop 1) e) in
    ((λ t. first t ∷ rest.0 t), rest.1)

-- ---- no line has an end in it

spaced_clean : (xs : List ℕ) → AllFit xs → Clean (spaced xs)
spaced_clean [] f = tt
spaced_clean (x ∷ xs) f = ((λ e. absurd (omega (arith, e))), clean_append (decimal x) (spaced xs) (decimal_clean x (fit_head x xs f)) (spaced_clean xs (fit_rest x xs f)))

name_clean : (c : Command) → Clean (name_of c)
name_clean (New r refs words) = ((λ e. absurd (omega (arith, e))), ((λ e. absurd (omega (arith, e))), ((λ e. absurd (omega (arith, e))), tt)))
name_clean (Get r q m) = ((λ e. absurd (omega (arith, e))), ((λ e. absurd (omega (arith, e))), ((λ e. absurd (omega (arith, e))), tt)))
name_clean (Put r m q) = ((λ e. absurd (omega (arith, e))), ((λ e. absurd (omega (arith, e))), ((λ e. absurd (omega (arith, e))), tt)))
name_clean (Set r m x) = ((λ e. absurd (omega (arith, e))), ((λ e. absurd (omega (arith, e))), ((λ e. absurd (omega (arith, e))), tt)))
name_clean (Say r m) = ((λ e. absurd (omega (arith, e))), ((λ e. absurd (omega (arith, e))), ((λ e. absurd (omega (arith, e))), tt)))
name_clean (Same r q) = ((λ e. absurd (omega (arith, e))), ((λ e. absurd (omega (arith, e))), ((λ e. absurd (omega (arith, e))), ((λ e. absurd (omega (arith, e))), tt))))
name_clean (Copy r q) = ((λ e. absurd (omega (arith, e))), ((λ e. absurd (omega (arith, e))), ((λ e. absurd (omega (arith, e))), ((λ e. absurd (omega (arith, e))), tt))))
name_clean (Drop r) = ((λ e. absurd (omega (arith, e))), ((λ e. absurd (omega (arith, e))), ((λ e. absurd (omega (arith, e))), ((λ e. absurd (omega (arith, e))), tt))))
name_clean (Pause b) = (
  (λ e. absurd (omega (arith, e))),
  (
    (λ e. absurd
        (omega (arith, e))),
    ((λ e. absurd (omega (arith, e))), ((λ e. absurd (omega (arith, e))), ((λ e. absurd (omega (arith, e))), tt))),
  ),
)

command_clean : (c : Command) → AllFit (numbers_of c) → Clean (command_line c)
command_clean c f = clean_append (name_of c) (spaced (numbers_of c)) (name_clean c) (spaced_clean (numbers_of c) f)

heap_clean : (w k n roots : ℕ) → AllFit (w ∷ k ∷ n ∷ roots ∷ []) → Clean (heap_line w k n roots)
heap_clean w k n roots f =
    clean_append (104 ∷ 101 ∷ 97 ∷ 112 ∷ []) (spaced (w ∷ k ∷ n ∷ roots ∷ []))
    ((λ e. absurd (omega (arith, e))), ((λ e. absurd (omega (arith, e))), ((λ e. absurd (omega (arith, e))), ((λ e. absurd (omega (arith, e))), tt)))) (spaced_clean (w ∷ k ∷ n ∷ roots ∷ []) f)

line_clean : (m : ℕ) (line : List ℕ) → IsLineAt m line → Clean line
line_clean zero line (w, k, n, roots, f, e) = subst Clean (sym e) (heap_clean w k n roots f)
line_clean (suc m) line (c, f, e) = subst Clean (sym e) (command_clean c f)

clean_from : (xs : List ℕ) → (Contains xs 10 → ⊥) → Clean xs
clean_from [] f = tt
clean_from (x ∷ xs) f = ((λ e. f (zero, omega arith, e)), clean_from xs (λ i. f (Contains-later x xs 10 i)))

in_middle : (xs ys : List ℕ) → Contains (xs ++ 10 ∷ ys) 10
in_middle xs ys = Contains-append_right xs (10 ∷ ys) 10 (Contains-first 10 ys)

-- ---- one trace a text

same_by : (c d : Command) → name_of c ≡ name_of d → numbers_of c ≡ numbers_of d → c ≡ d
same_by (New r f w) d n q = let o = only_new d (sym n) in ap (λ xs. New (get_or xs 0 0) (get_or xs 1 0) (get_or xs 2 0)) (q ∙ ap numbers_of o.3) ∙ sym o.3
same_by (Get r f w) d n q = let o = only_get d (sym n) in ap (λ xs. Get (get_or xs 0 0) (get_or xs 1 0) (get_or xs 2 0)) (q ∙ ap numbers_of o.3) ∙ sym o.3
same_by (Put r f w) d n q = let o = only_put d (sym n) in ap (λ xs. Put (get_or xs 0 0) (get_or xs 1 0) (get_or xs 2 0)) (q ∙ ap numbers_of o.3) ∙ sym o.3
same_by (Set r f w) d n q = let o = only_set d (sym n) in ap (λ xs. Set (get_or xs 0 0) (get_or xs 1 0) (get_or xs 2 0)) (q ∙ ap numbers_of o.3) ∙ sym o.3
same_by (Say r m) d n q = let o = only_say d (sym n) in ap (λ xs. Say (get_or xs 0 0) (get_or xs 1 0)) (q ∙ ap numbers_of o.2) ∙ sym o.2
same_by (Same r m) d n q = let o = only_same d (sym n) in ap (λ xs. Same (get_or xs 0 0) (get_or xs 1 0)) (q ∙ ap numbers_of o.2) ∙ sym o.2
same_by (Copy r m) d n q = let o = only_copy d (sym n) in ap (λ xs. Copy (get_or xs 0 0) (get_or xs 1 0)) (q ∙ ap numbers_of o.2) ∙ sym o.2
same_by (Drop r) d n q = let o = only_drop d (sym n) in ap (λ xs. Drop (get_or xs 0 0)) (q ∙ ap numbers_of o.1) ∙ sym o.1
same_by (Pause b) d n q = let o = only_pause d (sym n) in ap (λ xs. Pause (get_or xs 0 0)) (q ∙ ap numbers_of o.1) ∙ sym o.1

command_one : (c d : Command) → AllFit (numbers_of c) → AllFit (numbers_of d) → command_line c ≡ command_line d → c ≡ d
command_one c d f g e =
    let s = one_split (name_of c) (name_of d) (spaced (numbers_of c)) (spaced (numbers_of d)) (name_word c) (name_word d) (spaced_end (numbers_of c)) (spaced_end (numbers_of d)) e in
    same_by c d s.0 (spaced_one (numbers_of c) (numbers_of d) f g s.1)

rest_fit : (c : Command) (cs : List Command) → All (λ c. AllFit (numbers_of c)) (c ∷ cs) → All (λ c. AllFit (numbers_of c)) cs
rest_fit c cs f k d lt = f (suc k) d (omega (arith, lt))

-- an ended line isn't nothing
ended_some : (line more : List ℕ) → [] ≡ (line ++ 10 ∷ []) ++ more → ⊥
ended_some line more e = none_contains 10 (subst (λ xs. Contains xs 10) (sym (append_assoc line (10 ∷ []) more) ∙ sym e) (in_middle line more))

-- the first lines of the same bytes
first_lines : (a b xs ys : List ℕ) → Clean a → Clean b → (a ++ 10 ∷ []) ++ xs ≡ (b ++ 10 ∷ []) ++ ys → (a ≡ b) × (xs ≡ ys)
first_lines a b xs ys n m e = line_split a b xs ys n m (sym (append_assoc a (10 ∷ []) xs) ∙ e ∙ append_assoc b (10 ∷ []) ys)

commands_one : (cs ds : List Command) → All (λ c. AllFit (numbers_of c)) cs → All (λ c. AllFit (numbers_of c)) ds → lines_of cs ≡ lines_of ds → cs ≡ ds
commands_one [] [] f g e = refl
commands_one [] (d ∷ ds) f g e = absurd (ended_some (command_line d) (lines_of ds) e)
commands_one (c ∷ cs) [] f g e = absurd (ended_some (command_line c) (lines_of cs) (sym e))
commands_one (c ∷ cs) (d ∷ ds) f g e =
    let fc : AllFit (numbers_of c) = f 0 c (omega arith) in
    let fd : AllFit (numbers_of d) = g 0 d (omega arith) in
    let s = first_lines (command_line c) (command_line d) (lines_of cs) (lines_of ds) (command_clean c fc) (command_clean d fd) e in
    let one : c ≡ d = command_one c d fc fd s.0 in
    let rest = commands_one cs ds (rest_fit c cs f) (rest_fit d ds g) s.1 in
    (λ t. one t ∷ rest t)

-- bytes have one first line
pub one_first : (bytes : List ℕ) (g h : Geometry) (roots more : ℕ) (rest left : List ℕ) → AllFit (g.w ∷ g.k ∷ g.n ∷ roots ∷ []) → AllFit (h.w ∷ h.k ∷ h.n ∷ more ∷ [])
    → bytes ≡ (heap_line g.w g.k g.n roots ++ 10 ∷ []) ++ rest → bytes ≡ (heap_line h.w h.k h.n more ++ 10 ∷ []) ++ left → (g ≡ h) × (roots ≡ more) × (rest ≡ left)
one_first bytes g h roots more rest left f k p q =
    let s = first_lines (heap_line g.w g.k g.n roots) (heap_line h.w h.k h.n more) rest left (heap_clean g.w g.k g.n roots f) (heap_clean h.w h.k h.n more k) (sym p ∙ q) in
    let numbers = spaced_one (g.w ∷ g.k ∷ g.n ∷ roots ∷ []) (h.w ∷ h.k ∷ h.n ∷ more ∷ []) f k (ap (drop 4) s.0) in
    (ap (λ xs. record { w = get_or xs 0 0; k = get_or xs 1 0; n = get_or xs 2 0 }) numbers, ap (λ xs. get_or xs 3 0) numbers, s.1)

pub one_trace : OneTrace
one_trace bytes g h roots more cs ds p q =
    let s = one_first bytes g h roots more (lines_of cs) (lines_of ds) p.first q.first p.text q.text in
    (s.0, s.1, commands_one cs ds p.later q.later s.2)

-- ---- a text has no bad line, and bytes have one first

-- what begins with a line of its form isn't bad
starts_good : (m : ℕ) (rest line more : List ℕ) → IsLineAt m line → rest ≡ (line ++ 10 ∷ []) ++ more → IsBadRest m rest → ⊥
starts_good m rest line more is e (inl b) = b.0 (subst (λ xs. Contains xs 10) (sym (append_assoc line (10 ∷ []) more) ∙ sym e) (in_middle line more))
starts_good m rest line more is e (inr (bad, after, f, clean, b)) =
    let s = line_split bad line after more (clean_from bad clean) (line_clean m line is) (sym f ∙ e ∙ append_assoc line (10 ∷ []) more) in
    b (subst (IsLineAt m) (sym s.0) is)

-- nothing is no bad rest, after some lines
nothing_good : (m : ℕ) (rest : List ℕ) → 0 < m → rest ≡ [] → IsBadRest m rest → ⊥
nothing_good m rest some e (inl (clean, inl lt)) = let l : length rest ≡ 0 = ap length e in absurd (omega (arith, l, lt))
nothing_good m rest some e (inl (clean, inr z)) = absurd (omega (arith, z, some))
nothing_good m rest some e (inr (line, more, f, clean, b)) = none_contains 10 (subst (λ xs. Contains xs 10) (sym f ∙ e) (in_middle line more))

after_none : (m : ℕ) (rest : List ℕ) → IsBadRest (length {A = List ℕ} [] + m) rest → IsBadRest m rest
after_none m rest b = let z : length {A = List ℕ} [] + m ≡ m = omega arith in subst (λ k. IsBadRest k rest) z b

tails : (m : ℕ) (a b : List ℕ) (as_ bs : List (List ℕ)) (x y : List ℕ) → IsLineAt m a → IsLineAt m b → ended (a ∷ as_) ++ x ≡ ended (b ∷ bs) ++ y → ended as_ ++ x ≡ ended bs ++ y
tails m a b as_ bs x y p q e =
    (first_lines a b (ended as_ ++ x) (ended bs ++ y) (line_clean m a p) (line_clean m b q) (sym (append_assoc (a ++ 10 ∷ []) (ended as_) x) ∙ e ∙ append_assoc (b ++ 10 ∷ []) (ended bs) y)).1

-- no more lines of their form than before the bad one
lines_le : (m : ℕ) (good lines : List (List ℕ)) (rest more : List ℕ) → AreLines m good → AreLines m lines → ended good ++ rest ≡ ended lines ++ more →
    IsBadRest (length good + m) rest → length lines ≤ length good
lines_le m good [] rest more p q e b = omega arith
lines_le m [] (l ∷ ls) rest more p q e b = absurd (starts_good m rest l (ended ls ++ more) q.0 (e ∙ append_assoc (l ++ 10 ∷ []) (ended ls) more) (after_none m rest b))
lines_le m (g ∷ gs) (l ∷ ls) rest more p q e b =
    let z : length (g ∷ gs) + m ≡ length gs + suc m = omega arith in
    let r = lines_le (suc m) gs ls rest more p.1 q.1 (tails m g l gs ls rest more p.0 q.0 e) (subst (λ k. IsBadRest k rest) z b) in
    omega (arith, r)

text_no_bad : (m : ℕ) (good lines : List (List ℕ)) (rest : List ℕ) → AreLines m good → AreLines m lines → ended good ++ rest ≡ ended lines ++ [] →
    IsBadRest (length good + m) rest → 0 < length lines + m → ⊥
text_no_bad m [] [] rest p q e b some = nothing_good m rest (omega (arith, some)) e (after_none m rest b)
text_no_bad m [] (l ∷ ls) rest p q e b some = starts_good m rest l (ended ls ++ []) q.0 (e ∙ append_assoc (l ++ 10 ∷ []) (ended ls) []) (after_none m rest b)
text_no_bad m (g ∷ gs) [] rest p q e b some = ended_some g (ended gs ++ rest) (sym e ∙ append_assoc (g ++ 10 ∷ []) (ended gs) rest)
text_no_bad m (g ∷ gs) (l ∷ ls) rest p q e b some =
    let z : length (g ∷ gs) + m ≡ length gs + suc m = omega arith in
    let s : 0 < length ls + suc m = omega arith in
    text_no_bad (suc m) gs ls rest p.1 q.1 (tails m g l gs ls rest [] p.0 q.0 e) (subst (λ k. IsBadRest k rest) z b) s

from_zero : (m : ℕ) (rest : List ℕ) → IsBadRest m rest → IsBadRest (m + 0) rest
from_zero m rest b = let z : m ≡ m + 0 = omega arith in subst (λ k. IsBadRest k rest) z b

pub no_bad_line : NoBadLine
no_bad_line bytes g roots cs n p b =
    let lines : List (List ℕ) = heap_line g.w g.k g.n roots ∷ map command_line cs in
    let are : AreLines 0 lines = ((g.w, g.k, g.n, roots, p.first, refl), later_lines 0 cs p.later) in
    let text : bytes ≡ ended lines = p.text ∙ ap (λ xs. (heap_line g.w g.k g.n roots ++ 10 ∷ []) ++ xs) (sym (ended_lines cs)) in
    text_no_bad 0 b.good lines b.rest b.are_lines are (sym b.split ∙ text ∙ sym (append-nil (ended lines))) (from_zero (length b.good) b.rest b.bad) (omega arith)

pub one_bad_line : OneBadLine
one_bad_line bytes n m p q =
    let le = lines_le 0 p.good q.good p.rest q.rest p.are_lines q.are_lines (sym p.split ∙ q.split) (from_zero (length p.good) p.rest p.bad) in
    let ge = lines_le 0 q.good p.good q.rest p.rest q.are_lines p.are_lines (sym q.split ∙ p.split) (from_zero (length q.good) q.rest q.bad) in
    let u = p.number in
    let v = q.number in
    omega (arith, le, ge, u, v)
