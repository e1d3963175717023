-- The line of a command is read number by number, and its name and its numbers tell the command.
use Rattle.std.proofs.Common.{◌≡◌, ℕ, ◌<◌, ◌≤◌, ◌^◌, List, [], ◌∷◌, ◌++◌, length, get_or, drop, refl, sym, ◌∙◌, ap, subst, arith, append_assoc}
use Rattle.std.specs.Fmt.{decimal}
use Rattle.std.proofs.lemmas.List.{append-nil}
use Rattle.g1_trace.specs.declared.command.Command.{Command}
use Rattle.g1_trace.specs.declared.command.Command.TheVariants.{New, Get, Put, Set, Say, Same, Copy, Drop, Pause}
use Rattle.g1_trace.specs.TraceText.{spaced, name_of, numbers_of, AllFit, command_line}
use Rattle.g1_trace.specs.declared.parsing.Name.{Name}
use Rattle.g1_trace.specs.declared.parsing.Name.TheVariants as name
use Rattle.g1_trace.specs.Lines.{IsLineEnd, IsNumberEnd, spelled}
use Rattle.g1_trace.proofs.Numerals.{decimal_one, fit_head, fit_rest, spaced_more, spaced_one_more}
use Rattle.g1_trace.proofs.Words.{IsWordEnd, NoSpace, one_split}
use Rattle.g1_trace.proofs.Names.{name_word}

-- a command has a number, and no more than three
pub some_numbers : (c : Command) → 0 < length (numbers_of c)
some_numbers (New r refs words) = omega arith
some_numbers (Get r q m) = omega arith
some_numbers (Put r m q) = omega arith
some_numbers (Set r m x) = omega arith
some_numbers (Say r m) = omega arith
some_numbers (Same r q) = omega arith
some_numbers (Copy r q) = omega arith
some_numbers (Drop r) = omega arith
some_numbers (Pause b) = omega arith

pub few_numbers : (c : Command) → length (numbers_of c) ≤ 3
few_numbers (New r refs words) = omega arith
few_numbers (Get r q m) = omega arith
few_numbers (Put r m q) = omega arith
few_numbers (Set r m x) = omega arith
few_numbers (Say r m) = omega arith
few_numbers (Same r q) = omega arith
few_numbers (Copy r q) = omega arith
few_numbers (Drop r) = omega arith
few_numbers (Pause b) = omega arith

-- bytes begin with a number, and the rest follows it
pub record BeginsWithNumber (bytes : List ℕ) (a : ℕ) (rest : List ℕ) : Type 0 where
  pub text : bytes ≡ 32 ∷ (decimal a ++ rest)
  pub end : IsNumberEnd rest
  pub fits : a < 2 ^ 64

-- what numbers write begins with the first of them, and what the others write follows it
read_one : (xs bytes : List ℕ) (a : ℕ) (rest more : List ℕ) → AllFit xs → IsLineEnd more → bytes ≡ spaced xs ++ more → BeginsWithNumber bytes a rest
    → (ys : List ℕ) × (xs ≡ a ∷ ys) × (rest ≡ spaced ys ++ more) × AllFit ys
read_one [] bytes a rest [] f end e b = let l = ap length (sym e ∙ b.text) in absurd (omega (arith, l))
read_one [] bytes a rest (m ∷ more) f end e b = let s : m ≡ 32 = ap (λ zs. get_or zs 0 0) (sym e ∙ b.text) in absurd (omega (arith, s, end))
read_one (x ∷ xs) bytes a rest more f end e b =
    let d = decimal_one a x rest (spaced xs ++ more) b.fits (fit_head x xs f) b.end (spaced_more xs more end)
    (ap (drop 1) (sym b.text ∙ e) ∙ append_assoc (decimal x) (spaced xs) more) in
    (xs, (λ t. sym d.0 t ∷ xs), d.1, fit_rest x xs f)

-- bytes begin with no number
abbrev pub NoNumber : List ℕ → Type 0
NoNumber bytes = (x : ℕ) (more : List ℕ) → x < 2 ^ 64 → IsNumberEnd more → bytes ≡ 32 ∷ (decimal x ++ more) → ⊥

no_more : (xs bytes more : List ℕ) → 0 < length xs → AllFit xs → IsLineEnd more → bytes ≡ spaced xs ++ more → NoNumber bytes → ⊥
no_more [] bytes more some f end e none = absurd (omega (arith, some))
no_more (x ∷ xs) bytes more some f end e none = none x (spaced xs ++ more) (fit_head x xs f) (spaced_more xs more end) (e ∙ ap (λ ys. 32 ∷ ys) (append_assoc (decimal x) (spaced xs) more))

-- before the end of the line, numbers write the bytes
some_more : (xs bytes more : List ℕ) → IsLineEnd more → bytes ≡ spaced xs ++ more → (IsLineEnd bytes → ⊥) → 0 < length xs
some_more [] bytes more end e some = absurd (some (subst IsLineEnd (sym e) end))
some_more (x ∷ xs) bytes more end e some = omega arith

-- no numbers, as many as a command has, write the bytes up to the end of a line
abbrev pub NoNumbers : List ℕ → Type 0
NoNumbers bytes = (xs : List ℕ) (more : List ℕ) → 0 < length xs → length xs ≤ 3 → AllFit xs → IsLineEnd more → bytes ≡ spaced xs ++ more → ⊥

pub no_first : (bytes : List ℕ) → NoNumber bytes → NoNumbers bytes
no_first bytes none xs more some few f end e = no_more xs bytes more some f end e none

module _ (bytes : List ℕ) (a : ℕ) (rest : List ℕ) (first : BeginsWithNumber bytes a rest) (on : IsLineEnd rest → ⊥) where
  pub no_second : NoNumber rest → NoNumbers bytes
  no_second none xs more some few f end e =
      let r = read_one xs bytes a rest more f end e first in
      no_more r.0 rest more (some_more r.0 rest more end r.2 on) r.3 end r.2 none

  module _ (b : ℕ) (last : List ℕ) (second : BeginsWithNumber rest b last) (on_last : IsLineEnd last → ⊥) where
    pub no_third : NoNumber last → NoNumbers bytes
    no_third none xs more some few f end e =
        let r = read_one xs bytes a rest more f end e first in
        let q = read_one r.0 rest b last more r.3 end r.2 second in
        no_more q.0 last more (some_more q.0 last more end q.2 on_last) q.3 end q.2 none

    pub no_fourth : (d : ℕ) (over : List ℕ) → BeginsWithNumber last d over → (IsLineEnd over → ⊥) → NoNumbers bytes
    no_fourth d over third on_over xs more some few f end e =
        let r = read_one xs bytes a rest more f end e first in
        let q = read_one r.0 rest b last more r.3 end r.2 second in
        let p = read_one q.0 last d over more q.3 end q.2 third in
        let s = some_more p.0 over more end p.2 on_over in
        let l = ap length r.1 in
        let m = ap length q.1 in
        let n = ap length p.1 in
        absurd (omega (arith, few, l, m, n, s))

-- these follow the number
pub number_more : (bytes : List ℕ) (a : ℕ) (rest xs more : List ℕ) → BeginsWithNumber bytes a rest → rest ≡ spaced xs ++ more → bytes ≡ spaced (a ∷ xs) ++ more
number_more bytes a rest xs more b e = b.text ∙ ap (λ ys. 32 ∷ (decimal a ++ ys)) e ∙ ap (λ ys. 32 ∷ ys) (sym (append_assoc (decimal a) (spaced xs) more))

-- each name is a command's, and each command's name is one
named_so : (n : Name) → (c : Command) × (name_of c ≡ spelled n)
named_so name.New = (New 0 0 0, refl)
named_so name.Get = (Get 0 0 0, refl)
named_so name.Put = (Put 0 0 0, refl)
named_so name.Set = (Set 0 0 0, refl)
named_so name.Say = (Say 0 0, refl)
named_so name.Same = (Same 0 0, refl)
named_so name.Copy = (Copy 0 0, refl)
named_so name.Drop = (Drop 0, refl)
named_so name.Pause = (Pause 0, refl)

name_for : (c : Command) → (n : Name) × (name_of c ≡ spelled n)
name_for (New r refs words) = (name.New, refl)
name_for (Get r q m) = (name.Get, refl)
name_for (Put r m q) = (name.Put, refl)
name_for (Set r m x) = (name.Set, refl)
name_for (Say r m) = (name.Say, refl)
name_for (Same r q) = (name.Same, refl)
name_for (Copy r q) = (name.Copy, refl)
name_for (Drop r) = (name.Drop, refl)
name_for (Pause b) = (name.Pause, refl)

spelled_word : (n : Name) → NoSpace (spelled n)
spelled_word n = let k = named_so n in subst NoSpace k.1 (name_word k.0)

-- bytes begin with no name and a space: they have no space, or their first word is no name
pub no_spaced : (bytes : List ℕ) → NoSpace bytes → (n : Name) (more : List ℕ) → bytes ≡ spelled n ++ 32 ∷ more → ⊥
no_spaced bytes none n more e =
    let l = ap length (one_split bytes (spelled n) [] (32 ∷ more) none (spelled_word n) tt refl (append-nil bytes ∙ e)).1 in
    absurd (omega (arith, l))

pub no_spelled : (bytes word rest : List ℕ) → bytes ≡ word ++ 32 ∷ rest → NoSpace word → ((n : Name) → word ≡ spelled n → ⊥) → (n : Name) (more : List ℕ) → bytes ≡ spelled n ++ 32 ∷ more → ⊥
no_spelled bytes word rest split one none n more e = none n (one_split word (spelled n) (32 ∷ rest) (32 ∷ more) one (spelled_word n) refl refl (sym split ∙ e)).0

after_name : (xs more : List ℕ) → 0 < length xs → IsWordEnd (spaced xs ++ more)
after_name [] more some = absurd (omega (arith, some))
after_name (x ∷ xs) more some = refl

-- bytes do not begin with a command's line
abbrev pub NoCommand : List ℕ → Type 0
NoCommand bytes = (c : Command) (more : List ℕ) → AllFit (numbers_of c) → IsLineEnd more → bytes ≡ command_line c ++ more → ⊥

pub no_name : (bytes : List ℕ) → ((n : Name) (more : List ℕ) → bytes ≡ spelled n ++ 32 ∷ more → ⊥) → NoCommand bytes
no_name bytes none c more f end e = by (numbers_of c) (some_numbers c) (e ∙ append_assoc (name_of c) (spaced (numbers_of c)) more)
  where
    by : (xs : List ℕ) → 0 < length xs → bytes ≡ name_of c ++ (spaced xs ++ more) → ⊥
    by [] some q = absurd (omega (arith, some))
    by (x ∷ xs) some q = let k = name_for c in none k.0 ((decimal x ++ spaced xs) ++ more) (q ∙ ap (λ w. w ++ (spaced (x ∷ xs) ++ more)) k.1)

module _ (bytes : List ℕ) (n : Name) (after : List ℕ) (begins : bytes ≡ spelled n ++ 32 ∷ after) where
  -- a command's line has this name, and its numbers stand after it
  parts : (c : Command) (more : List ℕ) → bytes ≡ command_line c ++ more → (spelled n ≡ name_of c) × (32 ∷ after ≡ spaced (numbers_of c) ++ more)
  parts c more e = one_split (spelled n) (name_of c) (32 ∷ after) (spaced (numbers_of c) ++ more) (spelled_word n) (name_word c) refl (after_name (numbers_of c) more (some_numbers c))
      (sym begins ∙ e ∙ append_assoc (name_of c) (spaced (numbers_of c)) more)

  pub no_numbers : NoNumbers (32 ∷ after) → NoCommand bytes
  no_numbers none c more f end e = none (numbers_of c) more (some_numbers c) (few_numbers c) f end (parts c more e).1

  module _ (xs rest : List ℕ) (numbers : 32 ∷ after ≡ spaced xs ++ rest) where
    pub told : (c : Command) → spelled n ≡ name_of c → numbers_of c ≡ xs → bytes ≡ command_line c ++ rest
    told c is are =
        begins ∙ ap (λ ys. spelled n ++ ys) numbers ∙ ap (λ w. w ++ (spaced xs ++ rest)) is ∙ ap (λ ys. name_of c ++ (spaced ys ++ rest)) (sym are)
        ∙ sym (append_assoc (name_of c) (spaced (numbers_of c)) rest)

    pub no_such : AllFit xs → IsLineEnd rest → ((c : Command) → numbers_of c ≡ xs → spelled n ≡ name_of c → ⊥) → NoCommand bytes
    no_such fits over none c more f end e =
        let p = parts c more e in
        none c (sym (spaced_one_more xs (numbers_of c) rest more fits f over end (sym numbers ∙ p.1)).0) p.0

-- a command's line and what follows its end are told by the bytes
pub one_end : (c d : Command) (more left : List ℕ) → AllFit (numbers_of c) → AllFit (numbers_of d) → IsLineEnd more → IsLineEnd left → command_line c ++ more ≡ command_line d ++ left → more ≡ left
one_end c d more left f g p q e =
    let s = one_split (name_of c) (name_of d) (spaced (numbers_of c) ++ more) (spaced (numbers_of d) ++ left) (name_word c) (name_word d)
    (after_name (numbers_of c) more (some_numbers c)) (after_name (numbers_of d) left (some_numbers d))
    (sym (append_assoc (name_of c) (spaced (numbers_of c)) more) ∙ e ∙ append_assoc (name_of d) (spaced (numbers_of d)) left) in
    (spaced_one_more (numbers_of c) (numbers_of d) more left f g p q s.1).1
