-- What is known of the lists of names that were read in order.
use Rattle.std.proofs.Common.{◌≡◌, ℕ, List, ◌==◌, map, sym, subst}
use Rattle.std.specs.Prelude.{Option, Some, None, option_map, bytes_eq}
use Rattle.std.specs.Borrow.{Bor}
use Rattle.std.specs.Ordering.{nat_cmp}
use Rattle.std.specs.Cmp.Lexicographic.{slice_cmp}
use Rattle.std.specs.List.Sorted.{IsNonDecreasingBy, IsSortedByKey}
use Rattle.std.specs.Map.{lookup}
use Rattle.g1_report.specs.Program.{RiseByNumber, RiseByName, at_number, at_name}
use Rattle.g1_report.proofs.Told.{read_is, read_some, read_none, rise_unread, sorted_unread}

same_key : ℕ → ℕ
same_key n = n

-- by number: what a search finds in a list whose lines are read by f
module _ {X Y : Type 0} (f : X → Y) (n : ℕ) (l list : List (ℕ × X)) (same : list ≡ l) (rise : RiseByNumber (map (λ (e : ℕ × X). (e.0, f e.1)) l)) where
  risen : IsNonDecreasingBy (λ (e : ℕ × X). e.0) list
  risen = subst (IsNonDecreasingBy (λ (e : ℕ × X). e.0)) (sym same) (rise_unread (λ (k : ℕ). k) f (λ k. k) l rise)

  pub value_found : (r : Option X) → (IsNonDecreasingBy (λ (e : ℕ × X). e.0) list → r ≡ lookup (λ k. n == k) list)
      → option_map f r ≡ at_number (map (λ (e : ℕ × X). (e.0, f e.1)) l) n
  value_found r e = read_is (λ (k : ℕ). k) f (λ k. n == k) l list same r (e risen)

  pub entry_found : (r : Option (Bor X)) (x : Bor X) → r ≡ Some x → (IsNonDecreasingBy (λ (e : ℕ × X). e.0) list → option_map (λ v. v.now) r ≡ lookup (λ k. n == k) list)
      → Some (f x.now) ≡ at_number (map (λ (e : ℕ × X). (e.0, f e.1)) l) n
  entry_found r x is e = read_some (λ (k : ℕ). k) f (λ k. n == k) l list same r x is (e risen)

  pub entry_missing : (r : Option (Bor X)) → r ≡ None → (IsNonDecreasingBy (λ (e : ℕ × X). e.0) list → option_map (λ v. v.now) r ≡ lookup (λ k. n == k) list)
      → None ≡ at_number (map (λ (e : ℕ × X). (e.0, f e.1)) l) n
  entry_missing r is e = read_none (λ (k : ℕ). k) f (λ k. n == k) l list same r is (e risen)

-- by name
module _ {X Y : Type 0} (f : X → Y) (name : List ℕ) (l list : List (Bor (List ℕ) × X)) (same : list ≡ l)
    (rise : RiseByName (map (λ (e : Bor (List ℕ) × X). (e.0.now, f e.1)) l)) where
  sorted : IsSortedByKey (λ (e : Bor (List ℕ) × X). e.0.now) (slice_cmp nat_cmp) list
  sorted = subst (IsSortedByKey (λ (e : Bor (List ℕ) × X). e.0.now) (slice_cmp nat_cmp)) (sym same) (sorted_unread (λ (k : Bor (List ℕ)). k.now) f (slice_cmp nat_cmp) l rise)

  pub named_entry_is : (r : Option (Bor X)) → (IsSortedByKey (λ (e : Bor (List ℕ) × X). e.0.now) (slice_cmp nat_cmp) list → option_map (λ v. v.now) r ≡ lookup (λ k. bytes_eq k.now name) list)
      → option_map f (option_map (λ v. v.now) r) ≡ at_name (map (λ (e : Bor (List ℕ) × X). (e.0.now, f e.1)) l) name
  named_entry_is r e = read_is (λ (k : Bor (List ℕ)). k.now) f (λ k. bytes_eq k name) l list same (option_map (λ v. v.now) r) (e sorted)

  pub named_entry_found : (r : Option (Bor X)) (x : Bor X) → r ≡ Some x
      → (IsSortedByKey (λ (e : Bor (List ℕ) × X). e.0.now) (slice_cmp nat_cmp) list → option_map (λ v. v.now) r ≡ lookup (λ k. bytes_eq k.now name) list)
      → Some (f x.now) ≡ at_name (map (λ (e : Bor (List ℕ) × X). (e.0.now, f e.1)) l) name
  named_entry_found r x is e = read_some (λ (k : Bor (List ℕ)). k.now) f (λ k. bytes_eq k name) l list same r x is (e sorted)

  pub named_entry_missing : (r : Option (Bor X)) → r ≡ None
      → (IsSortedByKey (λ (e : Bor (List ℕ) × X). e.0.now) (slice_cmp nat_cmp) list → option_map (λ v. v.now) r ≡ lookup (λ k. bytes_eq k.now name) list)
      → None ≡ at_name (map (λ (e : Bor (List ℕ) × X). (e.0.now, f e.1)) l) name
  named_entry_missing r is e = read_none (λ (k : Bor (List ℕ)). k.now) f (λ k. bytes_eq k name) l list same r is (e sorted)
