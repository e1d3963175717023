-- What a search in a list by name finds.
use Rattle.std.proofs.Common.{◌≡◌, ℕ, zero, suc, ◌<◌, ◌≤◌, Bool, true, false, List, [], ◌∷◌, length, get_or, inl, inr, refl, sym, ◌∙◌, ap, subst, arith}
use Rattle.std.specs.Prelude.{Some, None, bytes_eq}
use Rattle.std.specs.Borrow.{Bor}
use Rattle.std.specs.Map.{lookup}
use Rattle.std.specs.Ordering.{is_lt, is_eq, nat_cmp, ordering_index}
use Rattle.std.specs.Cmp.Lexicographic.{slice_cmp, nat_list_cmp_total, texts_ties}
use Rattle.std.specs.List.Sorted.{IsSortedByKey, IsNonDecreasingBy, IsPartitionedBy}
use Rattle.std.proofs.lemmas.Bool.{cond-true, cond-false, cases_lt, false_from_ne_true, false≢true, ltb-true, ltb-false}
use Rattle.std.proofs.lemmas.List.{get_or_default}
use Rattle.std.proofs.lemmas.List.Sorted.{searchable_from_sorted, IsPartitionedBy-ltb}
use Rattle.std.proofs.Common.{ltb, Ordering, Less, Equal, Greater}

module _ {K V : Type 0} (t : K → Bool) where
  pub none_passes : (l : List (K × V)) → ((i : ℕ) (d : K × V) → i < length l → t (get_or l i d).0 ≡ true → ⊥) → None ≡ lookup t l
  none_passes [] h = refl
  none_passes (e ∷ es) h =
      none_passes es (λ i d lt. h (suc i) d (omega (arith, lt)))
      ∙ sym (cond-false (t e.0) (Some e.1) (lookup t es) (false_from_ne_true (t e.0) (h 0 e (omega arith))))

  pub first_passes : (l : List (K × V)) (n : ℕ) (e : K × V) → ((i : ℕ) (d : K × V) → i < n → t (get_or l i d).0 ≡ false) → n < length l → e ≡ get_or l n e → t e.0 ≡ true
      → Some e.1 ≡ lookup t l
  first_passes [] n e below lt same at = absurd (omega (arith, lt))
  first_passes (f ∷ fs) zero e below lt same at =
      ap (λ (p : K × V). Some p.1) same ∙ sym (cond-true (t f.0) (Some f.1) (lookup t fs) (ap (λ (p : K × V). t p.0) (sym same) ∙ at))
  first_passes (f ∷ fs) (suc n) e below lt same at =
      first_passes fs n e (λ i d small. below (suc i) d (omega (arith, small))) (omega (arith, lt)) same at
      ∙ sym (cond-false (t f.0) (Some f.1) (lookup t fs) (below 0 f (omega arith)))

-- where a name stands to another one
abbrev pub stand : List ℕ → List ℕ → ℕ
stand name other = ordering_index (slice_cmp nat_cmp other name)

below_one : (o : Ordering) → is_lt o ≡ ltb (ordering_index o) 1
below_one Less = refl
below_one Equal = refl
below_one Greater = refl

level : (o : Ordering) → is_eq o ≡ true → ordering_index o ≡ 1
level Less e = absurd (false≢true e)
level Equal e = refl
level Greater e = absurd (false≢true e)

level_back : (o : Ordering) → ordering_index o ≡ 1 → is_eq o ≡ true
level_back Less e = absurd (omega (arith, e))
level_back Equal e = refl
level_back Greater e = absurd (omega (arith, e))

pub equal_stands : (name other : List ℕ) → bytes_eq other name ≡ true → stand name other ≡ 1
equal_stands name other e = level (slice_cmp nat_cmp other name) (sym (texts_ties other name) ∙ e)

pub stands_equal : (name other : List ℕ) → stand name other ≡ 1 → bytes_eq other name ≡ true
stands_equal name other e = texts_ties other name ∙ level_back (slice_cmp nat_cmp other name) e

pub less_stands : (name other : List ℕ) → is_lt (slice_cmp nat_cmp other name) ≡ ltb (stand name other) 1
less_stands name other = below_one (slice_cmp nat_cmp other name)

module _ {V : Type 0} (name : List ℕ) (l : List (Bor (List ℕ) × V)) (sorted : IsSortedByKey (λ (e : Bor (List ℕ) × V). e.0.now) (slice_cmp nat_cmp) l) where
  rises : IsNonDecreasingBy (λ (e : Bor (List ℕ) × V). stand name e.0.now) l
  rises = searchable_from_sorted nat_list_cmp_total (λ (e : Bor (List ℕ) × V). e.0.now) l name sorted

  pub named_parted : IsPartitionedBy (λ (e : Bor (List ℕ) × V). is_lt (slice_cmp nat_cmp e.0.now name)) l
  named_parted = subst (λ (p : Bor (List ℕ) × V → Bool). IsPartitionedBy p l) (λ i e. sym (less_stands name e.0.now) i) (IsPartitionedBy-ltb (λ (e : Bor (List ℕ) × V). stand name e.0.now) l 1 rises)

  module _ (n : ℕ) (below : (i : ℕ) (d : Bor (List ℕ) × V) → i < n → is_lt (slice_cmp nat_cmp (get_or l i d).0.now name) ≡ true)
      (behind : (i : ℕ) (d : Bor (List ℕ) × V) → n ≤ i → i < length l → is_lt (slice_cmp nat_cmp (get_or l i d).0.now name) ≡ false) where
    below_it : (i : ℕ) (d : Bor (List ℕ) × V) → i < n → stand name (get_or l i d).0.now < 1
    below_it i d lt = ltb-true (stand name (get_or l i d).0.now) 1 (sym (less_stands name (get_or l i d).0.now) ∙ below i d lt)

    pub named_found : (e : Bor (List ℕ) × V) → e ≡ get_or l n e → n < length l → bytes_eq e.0.now name ≡ true → Some e.1 ≡ lookup (λ k. bytes_eq k.now name) l
    named_found e same lt at = first_passes (λ (k : Bor (List ℕ)). bytes_eq k.now name) l n e
        (λ i d less. false_from_ne_true (bytes_eq (get_or l i d).0.now name) (λ q.
        let low = below_it i d less in
        let one = equal_stands name (get_or l i d).0.now q in
        omega (arith, low, one)))
        lt same at

    pub named_other : (e : Bor (List ℕ) × V) → e ≡ get_or l n e → n < length l → bytes_eq e.0.now name ≡ false → None ≡ lookup (λ k. bytes_eq k.now name) l
    named_other e same lt at = none_passes (λ (k : Bor (List ℕ)). bytes_eq k.now name) l (λ i d small q. elim (cases_lt i n) [
      | inl less ↦
          let low = below_it i d less in
          let one = equal_stands name (get_or l i d).0.now q in
          omega (arith, low, one)
      | inr ge ↦
          let one = equal_stands name (get_or l i d).0.now q in
          let up : stand name (get_or l n d).0.now ≤ stand name (get_or l i d).0.now = rises n i d ge small in
          let least : 1 ≤ stand name (get_or l n d).0.now = ltb-false _ 1 (sym (less_stands name (get_or l n d).0.now) ∙ behind n d (omega arith) lt) in
          let is : get_or l n d ≡ e = get_or_default l n d e lt ∙ sym same in
          let level : stand name (get_or l n d).0.now ≡ 1 = omega (arith, one, up, least) in
          absurd (false≢true (sym at ∙ stands_equal name e.0.now (subst (λ (p : Bor (List ℕ) × V). stand name p.0.now ≡ 1) is level)))
    ])

    pub named_past : length l ≤ n → None ≡ lookup (λ k. bytes_eq k.now name) l
    named_past le = none_passes (λ (k : Bor (List ℕ)). bytes_eq k.now name) l (λ i d small q.
        let low = below_it i d (omega (arith, small, le)) in
        let one = equal_stands name (get_or l i d).0.now q in
        omega (arith, low, one))
