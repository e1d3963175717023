-- Whether bytes are a line of its form can be told. So any bytes are a trace's text, or have a first bad line.
use Rattle.std.proofs.Common.{◌≡◌, ℕ, zero, suc, ◌+◌, ◌^◌, ◌<◌, ◌≤◌, ◌⊎◌, inl, inr, List, [], ◌∷◌, ◌++◌, length, get_or, drop, Contains, refl, sym, ◌∙◌, ap, subst, arith, length-append}
use Rattle.std.proofs.lemmas.Bool.{cases_lt, cases_order}
use Rattle.g1_words.specs.Geometry.{Geometry}
use Rattle.g1_words.proofs.Members.{none_contains}
use Rattle.g1_trace.specs.declared.command.Command.{Command}
use Rattle.g1_trace.specs.declared.command.Command.TheVariants.{New, Get, Put, Set, Say, Same, Copy, Drop, Pause}
use Rattle.g1_trace.specs.TraceText.{AllFit, numbers_of, command_line, heap_line, IsHeapLine, IsCommandLine, IsText, IsBadRest, IsFirstBadLine}
use Rattle.g1_trace.proofs.Numerals.{fit_head, fit_rest, fit_cons, fit_none}
use Rattle.g1_trace.proofs.Texts.{IsRead, read_start, read_more, read_end, bad_later}

-- it holds, or it doesn't
abbrev Told : Type 0 → Type 0
Told P = P ⊎ (P → ⊥)

same_number : (x y : ℕ) → Told (x ≡ y)
same_number x y = elim (cases_order x y) [
  | inl e ↦ inl e
  | inr (inl lt) ↦ inr (λ e. absurd (omega (arith, lt, e)))
  | inr (inr lt) ↦ inr (λ e. absurd (omega (arith, lt, e)))
]

same_list : (xs ys : List ℕ) → Told (xs ≡ ys)
same_list [] [] = inl refl
same_list [] (y ∷ ys) = inr (λ e. let l = ap length e in absurd (omega (arith, l)))
same_list (x ∷ xs) [] = inr (λ e. let l = ap length e in absurd (omega (arith, l)))
same_list (x ∷ xs) (y ∷ ys) = by (same_number x y) (same_list xs ys)
  where
    by : Told (x ≡ y) → Told (xs ≡ ys) → Told (x ∷ xs ≡ y ∷ ys)
    by (inl e) (inl f) = inl (λ t. e t ∷ f t)
    by (inl e) (inr n) = inr (λ g. n (ap (drop 1) g))
    by (inr n) f = inr (λ g. n (ap (λ zs. get_or zs 0 0) g))

-- of the numbers below a bound
below : (n : ℕ) (P : ℕ → Type 0) → ((x : ℕ) → Told (P x)) → Told ((x : ℕ) × (x < n) × P x)
below zero P f = inr (λ (x, lt, p). absurd (omega (arith, lt)))
below (suc n) P f = by (f n) (below n P f)
  where
    by : Told (P n) → Told ((x : ℕ) × (x < n) × P x) → Told ((x : ℕ) × (x < suc n) × P x)
    by (inl p) r = inl (n, omega arith, p)
    by (inr q) (inl (x, lt, p)) = inl (x, omega (arith, lt), p)
    by (inr q) (inr r) = inr (λ (x, lt, p). elim (cases_lt x n) [ inl less ↦ r (x, less, p) | inr ge ↦ (let e : x ≡ n = omega (arith, ge, lt) in q (subst P e p)) ])

-- for some number of 64 bits
abbrev Some64 : (ℕ → Type 0) → Type 0
Some64 P = (x : ℕ) × (x < 2 ^ 64) × P x

some_told : (P : ℕ → Type 0) → ((x : ℕ) → Told (P x)) → Told (Some64 P)
some_told P f = below (2 ^ 64) P f

-- the line writes a command of one, two, three numbers
abbrev Writes1 : (ℕ → Command) → List ℕ → Type 0
Writes1 make line = Some64 (λ a. line ≡ command_line (make a))

abbrev Writes2 : (ℕ → ℕ → Command) → List ℕ → Type 0
Writes2 make line = Some64 (λ a. Some64 (λ b. line ≡ command_line (make a b)))

abbrev Writes3 : (ℕ → ℕ → ℕ → Command) → List ℕ → Type 0
Writes3 make line = Some64 (λ a. Some64 (λ b. Some64 (λ d. line ≡ command_line (make a b d))))

told1 : (make : ℕ → Command) (line : List ℕ) → Told (Writes1 make line)
told1 make line = some_told (λ a. line ≡ command_line (make a)) (λ a. same_list line (command_line (make a)))

told2 : (make : ℕ → ℕ → Command) (line : List ℕ) → Told (Writes2 make line)
told2 make line = some_told (λ a. Some64 (λ b. line ≡ command_line (make a b))) (λ a. told1 (make a) line)

told3 : (make : ℕ → ℕ → ℕ → Command) (line : List ℕ) → Told (Writes3 make line)
told3 make line = some_told (λ a. Some64 (λ b. Some64 (λ d. line ≡ command_line (make a b d)))) (λ a. told2 (make a) line)

fits1 : (a : ℕ) → a < 2 ^ 64 → AllFit (a ∷ [])
fits1 a x = fit_cons a [] x fit_none

fits2 : (a b : ℕ) → a < 2 ^ 64 → b < 2 ^ 64 → AllFit (a ∷ b ∷ [])
fits2 a b x y = fit_cons a (b ∷ []) x (fits1 b y)

fits3 : (a b d : ℕ) → a < 2 ^ 64 → b < 2 ^ 64 → d < 2 ^ 64 → AllFit (a ∷ b ∷ d ∷ [])
fits3 a b d x y z = fit_cons a (b ∷ d ∷ []) x (fits2 b d y z)

fits4 : (a b d e : ℕ) → a < 2 ^ 64 → b < 2 ^ 64 → d < 2 ^ 64 → e < 2 ^ 64 → AllFit (a ∷ b ∷ d ∷ e ∷ [])
fits4 a b d e x y z u = fit_cons a (b ∷ d ∷ e ∷ []) x (fits3 b d e y z u)

second : (a b : ℕ) (xs : List ℕ) → AllFit (a ∷ b ∷ xs) → b < 2 ^ 64
second a b xs f = fit_head b xs (fit_rest a (b ∷ xs) f)

third : (a b d : ℕ) (xs : List ℕ) → AllFit (a ∷ b ∷ d ∷ xs) → d < 2 ^ 64
third a b d xs f = second b d xs (fit_rest a (b ∷ d ∷ xs) f)

fourth : (a b d e : ℕ) (xs : List ℕ) → AllFit (a ∷ b ∷ d ∷ e ∷ xs) → e < 2 ^ 64
fourth a b d e xs f = third b d e xs (fit_rest a (b ∷ d ∷ e ∷ xs) f)

-- a line that is none of nine is no command's
none_of : (line : List ℕ) → (Writes3 New line → ⊥) → (Writes3 Get line → ⊥) → (Writes3 Put line → ⊥) → (Writes3 Set line → ⊥) →
    (Writes2 Say line → ⊥) → (Writes2 Same line → ⊥) → (Writes2 Copy line → ⊥) → (Writes1 Drop line → ⊥) → (Writes1 Pause line → ⊥)
    → (c : Command) → AllFit (numbers_of c) → line ≡ command_line c → ⊥
none_of line new get put set_ say same_ copy drop_ pause (New r refs words) f e = new (r, fit_head r (refs ∷ words ∷ []) f, (refs, second r refs (words ∷ []) f, (words, third r refs words [] f, e)))
none_of line new get put set_ say same_ copy drop_ pause (Get r q m) f e = get (r, fit_head r (q ∷ m ∷ []) f, (q, second r q (m ∷ []) f, (m, third r q m [] f, e)))
none_of line new get put set_ say same_ copy drop_ pause (Put r m q) f e = put (r, fit_head r (m ∷ q ∷ []) f, (m, second r m (q ∷ []) f, (q, third r m q [] f, e)))
none_of line new get put set_ say same_ copy drop_ pause (Set r m x) f e = set_ (r, fit_head r (m ∷ x ∷ []) f, (m, second r m (x ∷ []) f, (x, third r m x [] f, e)))
none_of line new get put set_ say same_ copy drop_ pause (Say r m) f e = say (r, fit_head r (m ∷ []) f, (m, second r m [] f, e))
none_of line new get put set_ say same_ copy drop_ pause (Same r q) f e = same_ (r, fit_head r (q ∷ []) f, (q, second r q [] f, e))
none_of line new get put set_ say same_ copy drop_ pause (Copy r q) f e = copy (r, fit_head r (q ∷ []) f, (q, second r q [] f, e))
none_of line new get put set_ say same_ copy drop_ pause (Drop r) f e = drop_ (r, fit_head r [] f, e)
none_of line new get put set_ say same_ copy drop_ pause (Pause b) f e = pause (b, fit_head b [] f, e)

by_nine : (line : List ℕ) → Told (Writes3 New line) → Told (Writes3 Get line) → Told (Writes3 Put line) → Told (Writes3 Set line) →
    Told (Writes2 Say line) → Told (Writes2 Same line) → Told (Writes2 Copy line) → Told (Writes1 Drop line) → Told (Writes1 Pause line)
    → Told (IsCommandLine line)
by_nine line (inl (r, x, (m, y, (w, z, e)))) get put set_ say same_ copy drop_ pause = inl (New r m w, fits3 r m w x y z, e)
by_nine line (inr new) (inl (r, x, (q, y, (m, z, e)))) put set_ say same_ copy drop_ pause = inl (Get r q m, fits3 r q m x y z, e)
by_nine line (inr new) (inr get) (inl (r, x, (m, y, (q, z, e)))) set_ say same_ copy drop_ pause = inl (Put r m q, fits3 r m q x y z, e)
by_nine line (inr new) (inr get) (inr put) (inl (r, x, (m, y, (v, z, e)))) say same_ copy drop_ pause = inl (Set r m v, fits3 r m v x y z, e)
by_nine line (inr new) (inr get) (inr put) (inr set_) (inl (r, x, (m, y, e))) same_ copy drop_ pause = inl (Say r m, fits2 r m x y, e)
by_nine line (inr new) (inr get) (inr put) (inr set_) (inr say) (inl (r, x, (q, y, e))) copy drop_ pause = inl (Same r q, fits2 r q x y, e)
by_nine line (inr new) (inr get) (inr put) (inr set_) (inr say) (inr same_) (inl (r, x, (q, y, e))) drop_ pause = inl (Copy r q, fits2 r q x y, e)
by_nine line (inr new) (inr get) (inr put) (inr set_) (inr say) (inr same_) (inr copy) (inl (r, x, e)) pause = inl (Drop r, fits1 r x, e)
by_nine line (inr new) (inr get) (inr put) (inr set_) (inr say) (inr same_) (inr copy) (inr drop_) (inl (b, x, e)) = inl (Pause b, fits1 b x, e)
by_nine line (inr new) (inr get) (inr put) (inr set_) (inr say) (inr same_) (inr copy) (inr drop_) (inr pause) = inr (λ (c, f, e). none_of line new get put set_ say same_ copy drop_ pause c f e)

-- a line is a command's or not
pub command_told : (line : List ℕ) → Told (IsCommandLine line)
command_told line = by_nine line (told3 New line) (told3 Get line) (told3 Put line) (told3 Set line) (told2 Say line) (told2 Same line) (told2 Copy line) (told1 Drop line) (told1 Pause line)

-- a line is a first line's or not
abbrev WritesHeap : List ℕ → Type 0
WritesHeap line = Some64 (λ w. Some64 (λ k. Some64 (λ n. Some64 (λ roots. line ≡ heap_line w k n roots))))

heap_told : (line : List ℕ) → Told (IsHeapLine line)
heap_told line =
    by (some_told (λ w. Some64 (λ k. Some64 (λ n. Some64 (λ roots. line ≡ heap_line w k n roots)))) (λ w.
    some_told (λ k. Some64 (λ n. Some64 (λ roots. line ≡ heap_line w k n roots))) (λ k.
    some_told (λ n. Some64 (λ roots. line ≡ heap_line w k n roots)) (λ n.
    some_told (λ roots. line ≡ heap_line w k n roots) (λ roots. same_list line (heap_line w k n roots))))))
  where
    by : Told (WritesHeap line) → Told (IsHeapLine line)
    by (inl (w, x, (k, y, (n, z, (roots, u, e))))) = inl (w, k, n, roots, fits4 w k n roots x y z u, e)
    by (inr no_line) = inr (λ (w, k, n, roots, f, e). no_line (
      w,
      fit_head w (k ∷ n ∷ roots ∷ [])
          f,
      (k, second w k (n ∷ roots ∷ []) f, (n, third w k n (roots ∷ []) f, (roots, fourth w k n roots [] f, e))),
    ))

-- bytes have a first end of a line, or none
abbrev EndsAt : List ℕ → Type 0
EndsAt bytes = (line : List ℕ) × (more : List ℕ) × (bytes ≡ line ++ 10 ∷ more) × (Contains line 10 → ⊥)

end_told : (bytes : List ℕ) → EndsAt bytes ⊎ (Contains bytes 10 → ⊥)
end_told [] = inr (none_contains 10)
end_told (b ∷ bs) = by (same_number b 10) (end_told bs)
  where
    apart : (line : List ℕ) → (b ≡ 10 → ⊥) → (Contains line 10 → ⊥) → Contains (b ∷ line) 10 → ⊥
    apart line n m (zero, b, e) = n e
    apart line n m (suc k, b, e) = m (k, omega (arith, b), e)

    by : Told (b ≡ 10) → EndsAt bs ⊎ (Contains bs 10 → ⊥) → EndsAt (b ∷ bs) ⊎ (Contains (b ∷ bs) 10 → ⊥)
    by (inl e) r = inl ([], bs, (λ t. e t ∷ bs), none_contains 10)
    by (inr n) (inl (line, more, e, m)) = inl (b ∷ line, more, ap (λ xs. b ∷ xs) e, apart line n m)
    by (inr n) (inr m) = inr (apart bs n m)

-- a trace's text, or a first bad line
abbrev Outcome : List ℕ → Type 0
Outcome bytes = ((g : Geometry) × (roots : ℕ) × (commands : List Command) × IsText bytes g roots commands) ⊎ ((n : ℕ) × IsFirstBadLine bytes n)

shorter : (rest line more : List ℕ) (fuel : ℕ) → rest ≡ line ++ 10 ∷ more → length rest ≤ suc fuel → length more ≤ fuel
shorter rest line more fuel e le = let l : length rest ≡ length line + suc (length more) = ap length e ∙ length-append line (10 ∷ more) in omega (arith, l, le)

module _ (bytes : List ℕ) (g : Geometry) (roots : ℕ) where
  bad_told : (cs : List Command) (rest : List ℕ) → IsRead bytes g.w g.k g.n roots cs rest → IsBadRest (length cs + 1) rest → Outcome bytes
  bad_told cs rest r p = inr (length cs + 2, bad_later bytes g.w g.k g.n roots cs rest (length cs + 2) r refl p)

  -- what is left is told by the rest of the lines after one that is a command's
  line_told : (cs : List Command) (rest line more : List ℕ) → IsRead bytes g.w g.k g.n roots cs rest → rest ≡ line ++ 10 ∷ more → (Contains line 10 → ⊥) → Told (IsCommandLine line)
      → ((c : Command) → IsRead bytes g.w g.k g.n roots (cs ++ c ∷ []) more → Outcome bytes) → Outcome bytes
  line_told cs rest line more r e n (inl (c, f, is)) next = next c (read_more bytes g.w g.k g.n roots cs (cs ++ c ∷ []) rest line more c r e is f refl)
  line_told cs rest line more r e n (inr m) next = let z : length cs + 1 ≡ suc (length cs) = omega arith in
      bad_told cs rest r (subst (λ k. IsBadRest k rest) (sym z) (inr (line, more, e, n, m)))

  rest_told : (cs : List Command) (rest : List ℕ) (fuel : ℕ) → 0 < length rest → length rest ≤ suc fuel → IsRead bytes g.w g.k g.n roots cs rest → EndsAt rest ⊎ (Contains rest 10 → ⊥)
      → ((ds : List Command) (more : List ℕ) → length more ≤ fuel → IsRead bytes g.w g.k g.n roots ds more → Outcome bytes) → Outcome bytes
  rest_told cs rest fuel some le r (inl (line, more, e, n)) next = line_told cs rest line more r e n (command_told line) (λ c q. next (cs ++ c ∷ []) more (shorter rest line more fuel e le) q)
  rest_told cs rest fuel some le r (inr n) next = bad_told cs rest r (inl (n, inl some))

  later_told : (fuel : ℕ) (cs : List Command) (rest : List ℕ) → length rest ≤ fuel → IsRead bytes g.w g.k g.n roots cs rest → Outcome bytes
  later_told fuel cs [] le r = inl (g, roots, cs, read_end bytes g roots cs [] r refl)
  later_told zero cs (b ∷ rest) le r = absurd (omega (arith, le))
  later_told (suc fuel) cs (b ∷ rest) le r = rest_told cs (b ∷ rest) fuel (omega arith) le r (end_told (b ∷ rest)) (λ ds more s q. later_told fuel ds more s q)

-- ANY BYTES are a trace's text or have a first bad line
pub text_or_bad_line : (bytes : List ℕ) → Outcome bytes
text_or_bad_line bytes = by (end_told bytes)
  where
    on : (line more : List ℕ) → bytes ≡ line ++ 10 ∷ more → (Contains line 10 → ⊥) → Told (IsHeapLine line) → Outcome bytes
    on line more e n (inl (w, k, m, roots, f, is)) = later_told bytes (record { w = w; k = k; n = m }) roots (length more) [] more (omega arith) (read_start bytes line more w k m roots [] e is f refl)
    on line more e n (inr no_line) = inr (1, record { good = []; rest = bytes; split = refl; are_lines = tt; number = omega arith; bad = inr (line, more, e, n, no_line) })

    by : EndsAt bytes ⊎ (Contains bytes 10 → ⊥) → Outcome bytes
    by (inl (line, more, e, n)) = on line more e n (heap_told line)
    by (inr n) = inr (1, record { good = []; rest = bytes; split = refl; are_lines = tt; number = omega arith; bad = inl (n, inr refl) })
