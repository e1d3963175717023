-- The lines of a trace that are read so far, and the first bad one.
use Rattle.std.proofs.Common.{◌≡◌, ◌≢◌, ℕ, zero, suc, ◌+◌, ◌<◌, ◌≤◌, ◌⊎◌, inl, inr, List, [], ◌∷◌, ◌++◌, length, get_or, map, flat_map, Contains, refl, sym, ◌∙◌, ap, subst, arith, append_assoc, append-nil}
use Rattle.std.proofs.Common.{length-append}
use Rattle.std.specs.Prelude.{All}
use Rattle.std.proofs.lemmas.Bool.{cases_order}
use Rattle.std.proofs.lemmas.List.{get_or_default, length-map}
use Rattle.std.proofs.lemmas.Grind.{flat_map-append}
use Rattle.std.proofs.lemmas.List.Elements.{All-push}
use Rattle.g1_words.specs.Geometry.{Geometry}
use Rattle.g1_trace.specs.declared.command.Command.{Command}
use Rattle.g1_trace.specs.TraceText.{AllFit, numbers_of, command_line, heap_line, ended, IsHeapLine, IsCommandLine, AreLines, IsBadRest, IsFirstBadLine, IsText}

-- the lines of commands, each ended
abbrev pub lines_of : List Command → List ℕ
lines_of cs = flat_map (λ c. command_line c ++ 10 ∷ []) cs

-- the bytes are a first line, the lines of these commands, and the rest
pub record IsRead (bytes : List ℕ) (w k n roots : ℕ) (cs : List Command) (rest : List ℕ) : Type 0 where
  pub text : bytes ≡ (heap_line w k n roots ++ 10 ∷ []) ++ (lines_of cs ++ rest)
  pub first : AllFit (w ∷ k ∷ n ∷ roots ∷ [])
  pub later : All (λ c. AllFit (numbers_of c)) cs

pub no_end : (xs : List ℕ) → ((k : ℕ) → k < length xs → get_or xs k 0 ≢ 10) → Contains xs 10 → ⊥
no_end xs f (k, lt, e) = f k lt (get_or_default xs k 0 10 lt ∙ e)

pub read_start : (bytes line rest : List ℕ) (w k n roots : ℕ) (cs : List Command) → bytes ≡ line ++ 10 ∷ rest → line ≡ heap_line w k n roots →
    AllFit (w ∷ k ∷ n ∷ roots ∷ []) → cs ≡ [] → IsRead bytes w k n roots cs rest
read_start bytes line rest w k n roots cs e is fits none =
    subst (λ xs. IsRead bytes w k n roots xs rest) (sym none) (record {
      text = e ∙ ap (λ l. l ++ 10 ∷ rest) is ∙ sym (append_assoc (heap_line w k n roots) (10 ∷ []) rest);
      first = fits;
      later = λ k d lt. absurd (omega (arith, lt));
    })

pub read_more : (bytes : List ℕ) (w k n roots : ℕ) (cs more : List Command) (rest line left : List ℕ) (c : Command) →
    IsRead bytes w k n roots cs rest → rest ≡ line ++ 10 ∷ left → line ≡ command_line c → AllFit (numbers_of c) → more ≡ cs ++ c ∷ []
    → IsRead bytes w k n roots more left
read_more bytes w k n roots cs more rest line left c r e is fits longer =
    let one : rest ≡ (command_line c ++ 10 ∷ []) ++ left = e ∙ ap (λ l. l ++ 10 ∷ left) is ∙ sym (append_assoc (command_line c) (10 ∷ []) left) in
    let lines : lines_of (cs ++ c ∷ []) ≡ lines_of cs ++ (command_line c ++ 10 ∷ []) =
    flat_map-append (λ c. command_line c ++ 10 ∷ []) cs (c ∷ []) ∙ ap (λ xs. lines_of cs ++ xs) (append-nil (command_line c ++ 10 ∷ [])) in
    subst (λ xs. IsRead bytes w k n roots xs left) (sym longer) (record {
      text = r.text ∙ ap (λ xs. (heap_line w k n roots ++ 10 ∷ []) ++ (lines_of cs ++ xs)) one
          ∙ ap (λ xs. (heap_line w k n roots ++ 10 ∷ []) ++ xs) (sym (append_assoc (lines_of cs) (command_line c ++ 10 ∷ []) left) ∙ ap (λ xs. xs ++ left) (sym lines));
      first = r.first;
      later = All-push (λ c. AllFit (numbers_of c)) cs c r.later fits;
    })

pub read_end : (bytes : List ℕ) (g : Geometry) (roots : ℕ) (cs : List Command) (rest : List ℕ) → IsRead bytes g.w g.k g.n roots cs rest → length rest ≡ 0 → IsText bytes g roots cs
read_end bytes g roots cs [] r e = record { text = r.text ∙ ap (λ xs. (heap_line g.w g.k g.n roots ++ 10 ∷ []) ++ xs) (append-nil (lines_of cs)); first = r.first; later = r.later }
read_end bytes g roots cs (x ∷ rest) r e = absurd (omega (arith, e))

-- a line and its end are a byte at least
pub shorter : (rest line more : List ℕ) → rest ≡ line ++ 10 ∷ more → 1 + length more ≤ length rest
shorter rest line more e = let l = ap length e ∙ length-append line (10 ∷ more) in omega (arith, l)

-- ---- the first bad line

pub bad_start : (bytes : List ℕ) → ((k : ℕ) → k < length bytes → get_or bytes k 0 ≢ 10) → IsFirstBadLine bytes 1
bad_start bytes f = record { good = []; rest = bytes; split = refl; are_lines = tt; number = omega arith; bad = inl (no_end bytes f, inr refl) }

pub bad_first : (bytes line more : List ℕ) → bytes ≡ line ++ 10 ∷ more → ((k : ℕ) → k < length line → get_or line k 0 ≢ 10) → (IsHeapLine line → ⊥) → IsFirstBadLine bytes 1
bad_first bytes line more e f b = record { good = []; rest = bytes; split = refl; are_lines = tt; number = omega arith; bad = inr (line, more, e, no_end line f, b) }

pub ended_lines : (cs : List Command) → ended (map command_line cs) ≡ lines_of cs
ended_lines [] = refl
ended_lines (c ∷ cs) = ap (λ xs. (command_line c ++ 10 ∷ []) ++ xs) (ended_lines cs)

pub later_lines : (m : ℕ) (cs : List Command) → All (λ c. AllFit (numbers_of c)) cs → AreLines (suc m) (map command_line cs)
later_lines m [] f = tt
later_lines m (c ∷ cs) f = ((c, f 0 c (omega arith), refl), later_lines (suc m) cs (λ k d lt. f (suc k) d (omega (arith, lt))))

pub bad_later : (bytes : List ℕ) (w k n roots : ℕ) (cs : List Command) (rest : List ℕ) (number : ℕ) → IsRead bytes w k n roots cs rest →
    number ≡ length cs + 2 → IsBadRest (length cs + 1) rest → IsFirstBadLine bytes number
bad_later bytes w k n roots cs rest number r e b =
    let size : length (map command_line cs) ≡ length cs = length-map cs command_line in
    let count : length (heap_line w k n roots ∷ map command_line cs) ≡ length cs + 1 = omega (arith, size) in
    record {
      good = heap_line w k n roots ∷ map command_line cs;
      rest = rest;
      split = r.text ∙ sym (append_assoc (heap_line w k n roots ++ 10 ∷ []) (lines_of cs) rest) ∙ ap (λ xs. ((heap_line w k n roots ++ 10 ∷ []) ++ xs) ++ rest) (sym (ended_lines cs));
      are_lines = ((w, k, n, roots, r.first, refl), later_lines 0 cs r.later);
      number = omega (arith, e, count);
      bad = subst (λ m. IsBadRest m rest) (sym count) b;
    }

-- what is left has no end
pub bad_end : (m : ℕ) (rest : List ℕ) → 0 < length rest → ((k : ℕ) → k < length rest → get_or rest k 0 ≢ 10) → IsBadRest (m + 1) rest
bad_end m rest some f = inl (no_end rest f, inl some)

-- or begins with a line that is no command's
pub bad_line : (m : ℕ) (rest line more : List ℕ) → rest ≡ line ++ 10 ∷ more → ((k : ℕ) → k < length line → get_or line k 0 ≢ 10) → (IsCommandLine line → ⊥) → IsBadRest (m + 1) rest
bad_line m rest line more e f b =
    let z : m + 1 ≡ suc m = omega arith in
    subst (λ x. IsBadRest x rest) (sym z) (inr (line, more, e, no_end line f, b))

-- no byte of the list ends a line
abbrev NoEnd : List ℕ → Type 0
NoEnd xs = (k : ℕ) → k < length xs → get_or xs k 0 ≢ 10

no_end_more : (x : ℕ) (xs : List ℕ) → x ≢ 10 → NoEnd xs → NoEnd (x ∷ xs)
no_end_more x xs n f zero lt = n
no_end_more x xs n f (suc k) lt = f k (omega (arith, lt))

-- a line ends in the bytes, or none does
first_end : (xs : List ℕ) → NoEnd xs ⊎ ((line : List ℕ) × (more : List ℕ) × (xs ≡ line ++ 10 ∷ more) × NoEnd line)
first_end [] = inl (λ k lt. absurd (omega (arith, lt)))
first_end (x ∷ xs) = by (same x) (first_end xs)
  where
    same : (y : ℕ) → (y ≡ 10) ⊎ (y ≢ 10)
    same y = elim (cases_order y 10) [
      | inl e ↦ inl e
      | inr (inl lt) ↦ inr (λ e. absurd (omega (arith, lt, e)))
      | inr (inr lt) ↦ inr (λ e. absurd (omega (arith, lt, e)))
    ]

    by : (x ≡ 10) ⊎ (x ≢ 10) → NoEnd xs ⊎ ((line : List ℕ) × (more : List ℕ) × (xs ≡ line ++ 10 ∷ more) × NoEnd line)
        → NoEnd (x ∷ xs) ⊎ ((line : List ℕ) × (more : List ℕ) × (x ∷ xs ≡ line ++ 10 ∷ more) × NoEnd line)
    by (inl e) r = inr ([], xs, ap (λ y. y ∷ xs) e, λ k lt. absurd (omega (arith, lt)))
    by (inr n) (inl f) = inl (no_end_more x xs n f)
    by (inr n) (inr (line, more, e, f)) = inr (x ∷ line, more, ap (λ ys. x ∷ ys) e, no_end_more x line n f)

-- bytes that do not begin with a command's line and its end
pub bad_command : (m : ℕ) (rest : List ℕ) → 0 < length rest → ((c : Command) (more : List ℕ) → AllFit (numbers_of c) → rest ≡ command_line c ++ 10 ∷ more → ⊥) → IsBadRest (m + 1) rest
bad_command m rest some none = by (first_end rest)
  where
    by : NoEnd rest ⊎ ((line : List ℕ) × (more : List ℕ) × (rest ≡ line ++ 10 ∷ more) × NoEnd line) → IsBadRest (m + 1) rest
    by (inl f) = bad_end m rest some f
    by (inr (line, more, e, f)) = bad_line m rest line more e f (λ (c, fits, is). none c more fits (e ∙ ap (λ l. l ++ 10 ∷ more) is))
