-- What std reads up to a byte is a line.
use Rattle.std.proofs.Common.{◌≡◌, ◌≢◌, ◌⊎◌, inl, inr, ℕ, ◌+◌, ◌-◌, Bool, true, false, eqb, cond, List, [], ◌∷◌, ◌++◌, Option, Some, None, IfSome, length, get_or, take, drop, refl, sym, ap, subst, ◌∙◌, arith, take-append-drop, take_all, length-append}
use Rattle.std.specs.Prelude.{nat_lt}
use Rattle.std.proofs.lemmas.Bool.{eqb-true, eqb-false}
use Rattle.std.proofs.lemmas.List.{take_more}
use Rattle.std.proofs.lemmas.List.Elements.{All-head, All-tail, All-push}
use Rattle.std.specs.Io.{StartsWith, StopsAt}
use Rattle.std.specs.Io.KnownBytes.{Consumes}
use Rattle.std.specs.Io.BufRead.{take_through}
use Rattle.g1_command.specs.Lines.{HasNoEnd, IsEndedLine, ReadsLine}

through_at : (x : ℕ) (xs : List ℕ) (b : Bool) → eqb x 10 ≡ b → (HasNoEnd (take_through 10 xs) → xs ≡ take_through 10 xs)
    → HasNoEnd (cond b (x ∷ []) (x ∷ take_through 10 xs)) → x ∷ xs ≡ cond b (x ∷ []) (x ∷ take_through 10 xs)
through_at x xs true is rest free = absurd (All-head (λ y. y ≢ 10) x [] free (eqb-true x 10 is))
through_at x xs false is rest free = ap (λ l. x ∷ l) (rest (All-tail (λ y. y ≢ 10) x (take_through 10 xs) free))

-- bytes without an end are taken whole
through_all : (xs : List ℕ) → HasNoEnd (take_through 10 xs) → xs ≡ take_through 10 xs
through_all [] free = refl
through_all (x ∷ xs) free = through_at x xs (eqb x 10) refl (through_all xs) free

-- what stops at the byte has it at its end, or not at all
line_or_rest : (line : List ℕ) → StopsAt line 10 → IsEndedLine line ⊎ HasNoEnd line
line_or_rest [] stops = inr (λ k d lt. absurd (omega (arith, lt)))
line_or_rest (x ∷ xs) stops = by (eqb last 10) refl
  where
    line : List ℕ
    line = x ∷ xs

    front : List ℕ
    front = take (length line - 1) line

    last : ℕ
    last = get_or line (length line - 1) 0

    split : line ≡ front ++ last ∷ []
    split = sym (take_all (length line - 1 + 1) line (omega arith)) ∙ take_more line (length line - 1) 0 (omega arith)

    by : (b : Bool) → eqb last 10 ≡ b → IsEndedLine line ⊎ HasNoEnd line
    by true is = inl (front, stops, split ∙ ap (λ y. front ++ y ∷ []) (eqb-true last 10 is))
    by false is = inr (subst HasNoEnd (sym split) (All-push (λ y. y ≢ 10) front last stops (eqb-false last 10 is)))

same_behind : (a b c : List ℕ) → a ++ b ≡ a ++ c → b ≡ c
same_behind [] b c e = e
same_behind (x ∷ a) b c e = same_behind a b c (ap (drop 1) e)

-- the whole of what was left, where it is known
rest_taken : (before : Option (List ℕ)) (old line : List ℕ) → IfSome before (λ xs. old ++ line ≡ old ++ take_through 10 xs) → HasNoEnd line → IfSome before (λ xs. xs ≡ line)
rest_taken None old line reads free = tt
rest_taken (Some xs) old line reads free =
    let is : line ≡ take_through 10 xs = same_behind old line (take_through 10 xs) reads in
    through_all xs (subst HasNoEnd is free) ∙ sym is

-- so many bytes behind what was there, as std reads them, are a line
pub reads_line : (before after : Option (List ℕ)) (old new : List ℕ) (n : ℕ) → length new ≡ length old + n → StartsWith new old
    → StopsAt (drop (length old) new) 10 → Consumes before after (drop (length old) new) → IfSome before (λ xs. new ≡ old ++ take_through 10 xs)
    → ReadsLine before after old new (nat_lt 0 n)
reads_line before after old new n count starts stops taken reads =
    let line : List ℕ = drop (length old) new in
    let added : new ≡ old ++ line = sym (take-append-drop (length old) new) ∙ ap (λ l. l ++ line) starts in
    let long : length line ≡ n = omega (arith, count, ap length added, length-append old line) in
    record {
      line = line;
      added = added;
      taken = taken;
      whole = by (line_or_rest line stops) added;
      there = ap (nat_lt 0) (sym long);
    }
  where
    by : IsEndedLine (drop (length old) new) ⊎ HasNoEnd (drop (length old) new) → new ≡ old ++ drop (length old) new
        → IsEndedLine (drop (length old) new) ⊎ (HasNoEnd (drop (length old) new) × IfSome before (λ xs. xs ≡ drop (length old) new))
    by (inl ended) added = inl ended
    by (inr free) added = inr (free, rest_taken before old (drop (length old) new) (subst (λ l. IfSome before (λ xs. l ≡ old ++ take_through 10 xs)) added reads) free)
