-- One step, one group and one run more.
use Rattle.std.proofs.Common.{◌≡◌, ℕ, zero, suc, ◌+◌, ◌-◌, ◌*◌, ◌^◌, ◌<◌, ◌≤◌, Bool, true, false, min, List, [], ◌∷◌, ◌++◌, length, get_or, take, drop, set, map, flat_map, refl, sym, ◌∙◌, ap, subst, arith, append_assoc, add-zero}
use Rattle.std.specs.Prelude.{cond, if◌then◌else◌, replicate}
use Rattle.std.specs.Str.{bytes_eq}
use Rattle.std.proofs.lemmas.List.{flat_map_more, map_more, append-nil, length-drop, length-map, take-map, drop-map, drop-drop}
use Rattle.std.proofs.lemmas.List.Sums.{sum_by_push, sum_by-append, sum_by-cons, sum_by-take-le, sum_by-take-drop, get_or-le-sum_by}
use Rattle.std.proofs.lemmas.Bool.{lt-ltb}
use Rattle.std.proofs.lemmas.List.Folds.{sum_by-replicate}
use Rattle.std.proofs.lemmas.Slice.Eq.{bytes_eq-Decides}
use Rattle.g1_report.specs.Runs.{Repeated, grouped_with, grouped, is_run, runs_in, runs_of, steps_in, run_text, runs_text, dots_text, ends_text}

-- whether the last of these runs ends with a number, or else what is before them does
abbrev pub ends_apart : Bool → List Repeated → Bool
ends_apart apart [] = apart
ends_apart apart (r ∷ rs) = ends_apart (is_run r.1) rs

-- the runs and one more
pub runs_text_more : (apart : Bool) (rs : List Repeated) (r : Repeated) → runs_text apart (rs ++ r ∷ []) ≡ runs_text apart rs ++ run_text (ends_apart apart rs) r
runs_text_more apart [] r = append-nil (run_text apart r)
runs_text_more apart (q ∷ rs) r =
    ap (λ xs. run_text apart q ++ xs) (runs_text_more (is_run q.1) rs r)
    ∙ sym (append_assoc (run_text apart q) (runs_text (is_run q.1) rs) (run_text (ends_apart (is_run q.1) rs) r))

pub ends_apart_more : (apart : Bool) (rs : List Repeated) (r : Repeated) → ends_apart apart (rs ++ r ∷ []) ≡ is_run r.1
ends_apart_more apart [] r = refl
ends_apart_more apart (q ∷ rs) r = ends_apart_more (is_run q.1) rs r

module _ {X : Type 0} (f : X → Repeated) (xs : List X) (i : ℕ) (d : X) (lt : i < length xs) where
  pub run_more : (apart before : Bool) (old now after : List ℕ) → now ≡ old ++ runs_text apart (map f (take i xs)) → before ≡ ends_apart apart (map f (take i xs))
      → after ≡ now ++ run_text before (f (get_or xs i d)) → after ≡ old ++ runs_text apart (map f (take (i + 1) xs))
  run_more apart before old now after e b p =
      let rs = map f (take i xs) in
      let r = f (get_or xs i d) in
      p ∙ ap (λ q. now ++ run_text q r) b ∙ ap (λ ys. ys ++ run_text (ends_apart apart rs) r) e
      ∙ append_assoc old (runs_text apart rs) (run_text (ends_apart apart rs) r)
      ∙ ap (λ ys. old ++ ys) (sym (runs_text_more apart rs r) ∙ ap (runs_text apart) (sym (map_more f xs i d lt)))

  pub apart_more : (apart : Bool) → is_run (f (get_or xs i d)).1 ≡ ends_apart apart (map f (take (i + 1) xs))
  apart_more apart = sym (ap (ends_apart apart) (map_more f xs i d lt) ∙ ends_apart_more apart (map f (take i xs)) (f (get_or xs i d)))

  -- how many steps, as far as 64 bits count
  pub steps_more : (n m : ℕ) → n ≡ min (steps_in (map f (take i xs))) (2 ^ 64 - 1) → m ≡ min (n + (f (get_or xs i d)).1) (2 ^ 64 - 1) → m ≡ min (steps_in (map f (take (i + 1) xs))) (2 ^ 64 - 1)
  steps_more n m e p =
      let more : steps_in (map f (take (i + 1) xs)) ≡ steps_in (map f (take i xs)) + (f (get_or xs i d)).1 =
      ap steps_in (map_more f xs i d lt) ∙ sum_by_push (λ (r : Repeated). r.1) (map f (take i xs)) (f (get_or xs i d)) in
      omega (arith, e, p, more)

  pub group_more : (old now : List Repeated) → old ≡ flat_map runs_in (map f (take i xs)) → now ≡ old ++ runs_in (f (get_or xs i d)) → now ≡ flat_map runs_in (map f (take (i + 1) xs))
  group_more old now e p =
      p ∙ ap (λ ys. ys ++ runs_in (f (get_or xs i d))) e
      ∙ flat_map_more runs_in [] (map f (take i xs)) (f (get_or xs i d)) ∙ ap (flat_map runs_in) (sym (map_more f xs i d lt))

-- a step behind those that are grouped
abbrev pub grouped_behind : List Repeated → List ℕ → List Repeated
grouped_behind [] s = (s, 1) ∷ []
grouped_behind (g ∷ []) s = if bytes_eq g.0 s then (g.0, g.1 + 1) ∷ [] else g ∷ (s, 1) ∷ []
grouped_behind (g ∷ h ∷ gs) s = g ∷ grouped_behind (h ∷ gs) s

-- two steps that are one: they are behind the same
alike : (t g s : List ℕ) → bytes_eq t g ≡ true → bytes_eq t s ≡ bytes_eq g s
alike t g s e = ap (λ x. bytes_eq x s) ((bytes_eq-Decides t g).0 e)

-- in front and behind go together
front_behind_one : (t s : List ℕ) (g : Repeated) (a b : Bool) → bytes_eq t g.0 ≡ a → bytes_eq g.0 s ≡ b → grouped_with t (grouped_behind (g ∷ []) s) ≡ grouped_behind (grouped_with t (g ∷ [])) s
front_behind_one t s g true true p q = let r : bytes_eq t s ≡ true = alike t g.0 s p ∙ q in simp (p, q, r)
front_behind_one t s g true false p q = let r : bytes_eq t s ≡ false = alike t g.0 s p ∙ q in simp (p, q, r)
front_behind_one t s g false true p q = simp (p, q)
front_behind_one t s g false false p q = simp (p, q)

front_behind_more : (t s : List ℕ) (g h : Repeated) (gs : List Repeated) (a : Bool) → bytes_eq t g.0 ≡ a
    → grouped_with t (grouped_behind (g ∷ h ∷ gs) s) ≡ grouped_behind (grouped_with t (g ∷ h ∷ gs)) s
front_behind_more t s g h gs true p = simp p
front_behind_more t s g h gs false p = simp p

front_behind : (t : List ℕ) (gs : List Repeated) (s : List ℕ) → grouped_with t (grouped_behind gs s) ≡ grouped_behind (grouped_with t gs) s
front_behind t [] s = refl
front_behind t (g ∷ []) s = front_behind_one t s g (bytes_eq t g.0) (bytes_eq g.0 s) refl refl
front_behind t (g ∷ h ∷ gs) s = front_behind_more t s g h gs (bytes_eq t g.0) refl

-- what is grouped with one step more
grouped_more : (ss : List (List ℕ)) (s : List ℕ) → grouped (ss ++ s ∷ []) ≡ grouped_behind (grouped ss) s
grouped_more [] s = refl
grouped_more (t ∷ ss) s = ap (grouped_with t) (grouped_more ss s) ∙ front_behind t (grouped ss) s

-- it is that of the last ones
behind_last : (gs : List Repeated) (n : ℕ) (g : Repeated) (s : List ℕ) → n + 1 ≡ length gs → g ≡ get_or gs n g → bytes_eq g.0 s ≡ true → set gs n (g.0, g.1 + 1) ≡ grouped_behind gs s
behind_last [] n g s l e same = absurd (omega (arith, l))
behind_last (h ∷ []) zero g s l e same = subst (λ (x : Repeated). (g.0, g.1 + 1) ∷ [] ≡ grouped_behind (x ∷ []) s) e (simp same)
behind_last (h ∷ []) (suc n) g s l e same = absurd (omega (arith, l))
behind_last (h ∷ i ∷ gs) zero g s l e same = absurd (omega (arith, l))
behind_last (h ∷ i ∷ gs) (suc n) g s l e same = ap (λ xs. h ∷ xs) (behind_last (i ∷ gs) n g s (omega (arith, l)) e same)

-- or another one
behind_other : (gs : List Repeated) (n : ℕ) (g : Repeated) (s : List ℕ) → n + 1 ≡ length gs → g ≡ get_or gs n g → bytes_eq g.0 s ≡ false → gs ++ (s, 1) ∷ [] ≡ grouped_behind gs s
behind_other [] n g s l e other = absurd (omega (arith, l))
behind_other (h ∷ []) zero g s l e other = subst (λ (x : Repeated). x ∷ (s, 1) ∷ [] ≡ grouped_behind (x ∷ []) s) e (simp other)
behind_other (h ∷ []) (suc n) g s l e other = absurd (omega (arith, l))
behind_other (h ∷ i ∷ gs) zero g s l e other = absurd (omega (arith, l))
behind_other (h ∷ i ∷ gs) (suc n) g s l e other = ap (λ xs. h ∷ xs) (behind_other (i ∷ gs) n g s (omega (arith, l)) e other)

steps_with : (s : List ℕ) (g : Repeated) (gs : List Repeated) (b : Bool) → bytes_eq s g.0 ≡ b → steps_in (grouped_with s (g ∷ gs)) ≡ suc (steps_in (g ∷ gs))
steps_with s g gs true e =
    let more : steps_in ((s, g.1 + 1) ∷ gs) ≡ g.1 + 1 + steps_in gs = sum_by-cons (λ (r : Repeated). r.1) (s, g.1 + 1) gs in
    let same : steps_in (g ∷ gs) ≡ g.1 + steps_in gs = sum_by-cons (λ (r : Repeated). r.1) g gs in
    ap (λ b. steps_in (cond b ((s, g.1 + 1) ∷ gs) ((s, 1) ∷ g ∷ gs))) e ∙ omega (arith, more, same)
steps_with s g gs false e =
    let more : steps_in ((s, 1) ∷ g ∷ gs) ≡ 1 + steps_in (g ∷ gs) = sum_by-cons (λ (r : Repeated). r.1) (s, 1) (g ∷ gs) in
    ap (λ b. steps_in (cond b ((s, g.1 + 1) ∷ gs) ((s, 1) ∷ g ∷ gs))) e ∙ omega (arith, more)

steps_front : (s : List ℕ) (gs : List Repeated) → steps_in (grouped_with s gs) ≡ suc (steps_in gs)
steps_front s [] = refl
steps_front s (g ∷ gs) = steps_with s g gs (bytes_eq s g.0) refl

-- each step is in one group
steps_grouped : (ss : List (List ℕ)) → steps_in (grouped ss) ≡ length ss
steps_grouped [] = refl
steps_grouped (s ∷ ss) = steps_front s (grouped ss) ∙ ap suc (steps_grouped ss)

-- one step more of the last group, and one of another
pub added_last : (gs : List Repeated) (ss : List (List ℕ)) (n : ℕ) (g : Repeated) (s : List ℕ) (m : ℕ) → gs ≡ grouped ss → length ss < 2 ^ 64 - 1 → n + 1 ≡ length gs → g ≡ get_or gs n g
    → bytes_eq g.0 s ≡ true → m ≡ min (g.1 + 1) (2 ^ 64 - 1) → set gs n (g.0, m) ≡ grouped (ss ++ s ∷ [])
added_last gs ss n g s m e few l at same p =
    let within : g.1 ≤ steps_in gs = subst (λ (x : Repeated). x.1 ≤ steps_in gs) (sym at) (get_or-le-sum_by (λ (r : Repeated). r.1) gs n g (omega (arith, l))) in
    let all : steps_in gs ≡ length ss = ap steps_in e ∙ steps_grouped ss in
    let exact : m ≡ g.1 + 1 = omega (arith, within, all, few, p) in
    ap (λ k. set gs n (g.0, k)) exact ∙ behind_last gs n g s l at same ∙ ap (λ x. grouped_behind x s) e ∙ sym (grouped_more ss s)

pub added_other : (gs : List Repeated) (ss : List (List ℕ)) (n : ℕ) (g : Repeated) (s : List ℕ) → gs ≡ grouped ss → n + 1 ≡ length gs → g ≡ get_or gs n g → bytes_eq g.0 s ≡ false
    → gs ++ (s, 1) ∷ [] ≡ grouped (ss ++ s ∷ [])
added_other gs ss n g s e l at other = behind_other gs n g s l at other ∙ ap (λ x. grouped_behind x s) e ∙ sym (grouped_more ss s)

pub added_first : (gs : List Repeated) (ss : List (List ℕ)) (s : List ℕ) → gs ≡ grouped ss → gs ≡ [] → gs ++ (s, 1) ∷ [] ≡ grouped (ss ++ s ∷ [])
added_first gs ss s e none = ap (λ x. x ++ (s, 1) ∷ []) none ∙ ap (λ x. grouped_behind x s) (sym none ∙ e) ∙ sym (grouped_more ss s)

steps_run : (g : Repeated) (b : Bool) → is_run g.1 ≡ b → steps_in (runs_in g) ≡ g.1
steps_run g true e = ap (λ b. steps_in (cond b (g ∷ []) (replicate g.1 (g.0, 1)))) e ∙ sum_by-cons (λ (r : Repeated). r.1) g [] ∙ add-zero g.1
steps_run g false e =
    let all : steps_in (replicate g.1 (g.0, 1)) ≡ g.1 * 1 = sum_by-replicate (λ (r : Repeated). r.1) g.1 (g.0, 1) in
    ap (λ b. steps_in (cond b (g ∷ []) (replicate g.1 (g.0, 1)))) e ∙ omega (arith, all)

steps_runs : (gs : List Repeated) → steps_in (flat_map runs_in gs) ≡ steps_in gs
steps_runs [] = refl
steps_runs (g ∷ gs) =
    sum_by-append (λ (r : Repeated). r.1) (runs_in g) (flat_map runs_in gs) ∙ ap (λ n. n + steps_in (flat_map runs_in gs)) (steps_run g (is_run g.1) refl) ∙ ap (λ n. g.1 + n) (steps_runs gs)
    ∙ sym (sum_by-cons (λ (r : Repeated). r.1) g gs)

-- each step is in one run
pub steps_in_runs : (ss : List (List ℕ)) → steps_in (runs_of ss) ≡ length ss
steps_in_runs ss = steps_runs (grouped ss) ∙ steps_grouped ss

-- the first ones, what is left out, and the last ones
ends_more : (rs first middle last : List Repeated) (old now more after : List ℕ) (n : ℕ) → 40 < length rs → steps_in rs < 2 ^ 64 → first ≡ take 20 rs
    → middle ≡ take (length rs - 40) (drop 20 rs) → last ≡ drop (length rs - 20) rs → n ≡ min (steps_in middle) (2 ^ 64 - 1) → now ≡ old ++ runs_text false first → more ≡ now ++ dots_text n
    → after ≡ more ++ runs_text true last → after ≡ old ++ ends_text rs
ends_more rs first middle last old now more after n many few f m l count p q r =
    let part : steps_in (take (length rs - 40) (drop 20 rs)) ≤ steps_in (drop 20 rs) = sum_by-take-le (λ (x : Repeated). x.1) (drop 20 rs) (length rs - 40) in
    let whole : steps_in (take 20 rs) + steps_in (drop 20 rs) ≡ steps_in rs = sum_by-take-drop (λ (x : Repeated). x.1) rs 20 in
    let same : steps_in middle ≡ steps_in (take (length rs - 40) (drop 20 rs)) = ap steps_in m in
    let exact : n ≡ steps_in (take (length rs - 40) (drop 20 rs)) = omega (arith, part, whole, same, few, count) in
    let front : List ℕ = runs_text false (take 20 rs) in
    let dots : List ℕ = dots_text (steps_in (take (length rs - 40) (drop 20 rs))) in
    let back : List ℕ = runs_text true (drop (length rs - 20) rs) in
    r ∙ ap (λ x. more ++ runs_text true x) l ∙ ap (λ x. x ++ back) (q ∙ ap (λ k. now ++ dots_text k) exact ∙ ap (λ x. x ++ dots) (p ∙ ap (λ x. old ++ runs_text false x) f))
    ∙ append_assoc (old ++ front) dots back ∙ append_assoc old front (dots ++ back)
    ∙ ap (λ b. old ++ cond b (front ++ (dots ++ back)) (runs_text false rs)) (sym (lt-ltb 40 (length rs) many))

-- a list that is cut, part by part
module _ {X : Type 0} (f : X → Repeated) (xs front rest middle last : List X) (few : steps_in (map f xs) < 2 ^ 64) (many : 40 < length xs) (front_is : front ≡ take 20 xs) (rest_is : rest ≡ drop 20 xs)
    (middle_is : middle ≡ take (length rest - 20) rest) (last_is : last ≡ drop (length rest - 20) rest) where
  rest_length : length rest ≡ length xs - 20
  rest_length = ap length rest_is ∙ length-drop 20 xs

  front_part : map f front ≡ take 20 (map f xs)
  front_part = ap (map f) front_is ∙ sym (take-map f 20 xs)

  middle_part : map f middle ≡ take (length (map f xs) - 40) (drop 20 (map f xs))
  middle_part =
      let n : length rest - 20 ≡ length (map f xs) - 40 = omega (arith, rest_length, length-map xs f) in
      ap (map f) (middle_is ∙ ap (λ k. take k rest) n ∙ ap (take (length (map f xs) - 40)) rest_is) ∙ sym (take-map f (length (map f xs) - 40) (drop 20 xs))
      ∙ ap (take (length (map f xs) - 40)) (sym (drop-map f 20 xs))

  last_part : map f last ≡ drop (length (map f xs) - 20) (map f xs)
  last_part =
      let n : 20 + (length rest - 20) ≡ length (map f xs) - 20 = omega (arith, rest_length, length-map xs f, many) in
      ap (map f) (last_is ∙ ap (drop (length rest - 20)) rest_is ∙ drop-drop (length rest - 20) 20 xs ∙ ap (λ k. drop k xs) n) ∙ sym (drop-map f (length (map f xs) - 20) xs)

  pub cut_ends : (old now more after : List ℕ) (n : ℕ) → n ≡ min (steps_in (map f middle)) (2 ^ 64 - 1) → now ≡ old ++ runs_text false (map f front) → more ≡ now ++ dots_text n
      → after ≡ more ++ runs_text true (map f last) → after ≡ old ++ ends_text (map f xs)
  cut_ends old now more after n =
      let long : 40 < length (map f xs) = omega (arith, many, length-map xs f) in
      ends_more (map f xs) (map f front) (map f middle) (map f last) old now more after n long few front_part middle_part last_part
