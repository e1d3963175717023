-- Facts of which it can be told whether they hold.
use Rattle.std.proofs.Common.{◌≡◌, ◌≤◌, ◌<◌, ℕ, zero, suc, ◌⊎◌, inl, inr, List, [], ◌∷◌, length, slice_index, arith, sym, ap, subst, ◌∙◌, Contains}
use Rattle.std.specs.Prelude.{All, Option, Some, None}
use Rattle.std.proofs.lemmas.Bool.{cases_lt, cases_eq}
use Rattle.std.proofs.lemmas.Grind.{get_or_default_zero}
use Rattle.g1_words.specs.declared.region.Kind.{Kind}
use Rattle.g1_image.specs.Faults.{IsFirstBreach}
use Rattle.g1_words.specs.Kind.{kind_number, kind_of}
use Rattle.g1_image.proofs.FileOf.{kind_there}
use Rattle.g1_words.proofs.Members.{Contains-first}
use Rattle.g1_words.proofs.Members.{Contains-later}
use Rattle.g1_words.proofs.Members.{cons_cases}
use Rattle.g1_words.proofs.Members.{none_contains}

-- it holds, or it doesn't
abbrev pub Decided : Type 0 → Type 0
Decided P = P ⊎ (P → ⊥)

-- a fact that says the same as another
pub decided_as : (P Q : Type 0) → (P → Q) → (Q → P) → Decided P → Decided Q
decided_as P Q f g (inl p) = inl (f p)
decided_as P Q f g (inr n) = inr (λ q. n (g q))

-- two facts
pub decided_both : (P Q : Type 0) → Decided P → Decided Q → Decided (P × Q)
decided_both P Q (inl p) (inl q) = inl (p, q)
decided_both P Q (inl p) (inr n) = inr (λ x. n x.1)
decided_both P Q (inr n) d = inr (λ x. n x.0)

-- a fact under another
pub decided_either : (P Q : Type 0) → Decided P → Decided Q → Decided (P ⊎ Q)
decided_either P Q (inl p) q = inl (inl p)
decided_either P Q (inr n) (inl q) = inl (inr q)
decided_either P Q (inr n) (inr m) = inr (λ e. elim e [ inl p ↦ n p | inr q ↦ m q ])

pub decided_under : (P Q : Type 0) → Decided P → Decided Q → Decided (P → Q)
decided_under P Q d (inl q) = inl (λ p. q)
decided_under P Q (inl p) (inr n) = inr (λ f. n (f p))
decided_under P Q (inr m) (inr n) = inl (λ p. absurd (m p))

-- the contrary of a fact
pub decided_not : (P : Type 0) → Decided P → Decided (P → ⊥)
decided_not P (inl p) = inr (λ n. n p)
decided_not P (inr n) = inl n

-- one number below another
pub decided_lt : (a b : ℕ) → Decided (a < b)
decided_lt a b = elim (cases_lt a b) [ inl lt ↦ inl lt | inr ge ↦ inr (λ lt. omega (arith, lt, ge)) ]

-- one number at most another
pub decided_le : (a b : ℕ) → Decided (a ≤ b)
decided_le a b = elim (cases_lt b a) [ inl gt ↦ inr (λ le. omega (arith, gt, le)) | inr le ↦ inl le ]

-- two equal numbers
pub decided_eq : (a b : ℕ) → Decided (a ≡ b)
decided_eq a b = cases_eq a b

-- a number that may be there
pub decided_some : (c : Option ℕ) (r : ℕ) → Decided (c ≡ Some r)
decided_some None r = inr (λ e. cc)
decided_some (Some q) r = decided_as (q ≡ r) (Some q ≡ Some r) (λ e. cc) (λ e. cc) (cases_eq q r)

-- two equal kinds
pub decided_kind : (k l : Kind) → Decided (k ≡ l)
decided_kind k l =
    decided_as (kind_number k ≡ kind_number l) (k ≡ l) (λ e. sym (kind_there k) ∙ ap kind_of e ∙ kind_there l) (λ e. ap kind_number e) (decided_eq (kind_number k) (kind_number l))

-- all numbers below an end keep a rule, or there is a first one that doesn't
pub first_breach : (P : ℕ → Type 0) → ((r : ℕ) → Decided (P r)) → (end : ℕ) → ((r : ℕ) → r < end → P r) ⊎ ((r : ℕ) × IsFirstBreach P end r)
first_breach P d zero = inl (λ r lt. absurd (omega (arith, lt)))
first_breach P d (suc end) = elim (first_breach P d end) [
  | inr b ↦ inr (b.0, record { within = omega (arith, b.1.within); breach = b.1.breach; before = b.1.before })
  | inl all ↦ elim (d end) [
    | inr n ↦ inr (end, record { within = omega arith; breach = n; before = all })
    | inl p ↦ inl (λ r lt. elim (cases_lt r end) [
      | inl le ↦ all r le
      | inr ge ↦ let e : end ≡ r = omega (arith, ge, lt) in subst P e p
    ])
  ]
]

-- a rule of all numbers below an end
pub decided_all : (P : ℕ → Type 0) → ((r : ℕ) → Decided (P r)) → (end : ℕ) → Decided ((r : ℕ) → r < end → P r)
decided_all P d end = elim (first_breach P d end) [ inl all ↦ inl all | inr b ↦ inr (λ all. b.1.breach (all b.0 b.1.within)) ]

-- a rule of some number below an end
pub decided_any : (P : ℕ → Type 0) → ((r : ℕ) → Decided (P r)) → (end : ℕ) → Decided ((r : ℕ) × (r < end) × P r)
decided_any P d zero = inr (λ s. omega (arith, s.1))
decided_any P d (suc end) = elim (d end) [
  | inl p ↦ inl (end, omega arith, p)
  | inr n ↦ elim (decided_any P d end) [
    | inl s ↦ inl (s.0, omega (arith, s.1), s.2)
    | inr m ↦ inr (λ s. elim (cases_lt s.0 end) [
      | inl lt ↦ m (s.0, lt, s.2)
      | inr ge ↦ let e : s.0 ≡ end = omega (arith, ge, s.1) in n (subst P e s.2)
    ])
  ]
]

-- a rule of some member of a list
pub decided_member : {A : Type 0} (P : A → Type 0) → ((x : A) → Decided (P x)) → (xs : List A) → Decided ((x : A) × Contains xs x × P x)
decided_member P d [] = inr (λ s. none_contains s.0 s.1)
decided_member P d (x ∷ xs) = elim (d x) [
  | inl p ↦ inl (x, Contains-first x xs, p)
  | inr n ↦ elim (decided_member P d xs) [
    | inl s ↦ inl (s.0, Contains-later x xs s.0 s.1, s.2)
    | inr m ↦ inr (λ s. elim (cons_cases x xs s.0 s.1) [ inl e ↦ n (subst P (sym e) s.2) | inr k ↦ m (s.0, k, s.2) ])
  ]
]

-- a rule of every number of a list
pub decided_each : (P : ℕ → Type 0) → ((x : ℕ) → Decided (P x)) → (xs : List ℕ) → Decided (All P xs)
decided_each P d xs =
    decided_as ((k : ℕ) → k < length xs → P (slice_index xs k)) (All P xs)
    (λ f k x lt. subst P (sym (get_or_default_zero xs k x lt)) (f k lt))
    (λ f k lt. f k 0 lt)
    (decided_all (λ k. P (slice_index xs k)) (λ k. d (slice_index xs k)) (length xs))
