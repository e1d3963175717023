-- What the effects do to a plain store.
use Rattle.std.proofs.Common.{◌≡◌, ◌≢◌, ℕ, ◌<◌, inl, inr, List, [], ◌∷◌, ◌++◌, length, get_or, set, replicate, refl, sym, ◌∙◌, ap, arith}
use Rattle.std.proofs.lemmas.List.{get_or-set_same, get_or-set_other, get_or_append_left}
use Rattle.g1_trace.specs.Commands.{SetRoot, SetSlot, SetValue, MakeNew}
use Rattle.g1_trace.specs.Store.{Store, Stored, no_object, object, store_view, store_after}
use Rattle.g1_trace.specs.Views.{Seen}
use Rattle.g1_trace.proofs.ChangedViews.{IsRootSet, IsSlotSet, IsValueSet, IsMade}
use Rattle.g1_trace.proofs.Views.{equal_or_not}

get_or-end : {A : Type 0} (xs : List A) (y d : A) → get_or (xs ++ y ∷ []) (length xs) d ≡ y
get_or-end [] y d = refl
get_or-end (x ∷ xs) y d = get_or-end xs y d

module _ (s : Store) (numbered : (m : ℕ) → Seen (store_view s) m → m < length s.objects) where
  pub store_root : (r x : ℕ) → IsRootSet (store_view s) r x (store_view (store_after s (SetRoot r x)))
  store_root r x = record { roots = refl; slots = λ b _. refl; values = λ b _. refl }

  other_object : (m b : ℕ) (e : Stored) → b ≢ m → get_or (set s.objects m e) b no_object ≡ object s b
  other_object m b e n = get_or-set_other s.objects m b e no_object n

  pub store_slot : (m k x : ℕ) → Seen (store_view s) m → IsSlotSet (store_view s) m k x (store_view (store_after s (SetSlot m k x)))
  store_slot m k x sm =
      let e : Stored = record { slots = set (object s m).slots k x; values = (object s m).values } in
      let here : get_or (set s.objects m e) m no_object ≡ e = get_or-set_same s.objects m e no_object (numbered m sm) in
      record {
        roots = refl;
        written = ap (λ (y : Stored). y.slots) here;
        slots = λ b _ n. ap (λ (y : Stored). y.slots) (other_object m b e n);
        values = λ b _. elim (equal_or_not b m) [
          | inl n ↦ ap (λ (y : Stored). y.values) (other_object m b e n)
          | inr q ↦ ap (λ z. (get_or (set s.objects m e) z no_object).values) q ∙ ap (λ (y : Stored). y.values) here ∙ ap (λ z. (object s z).values) (sym q)
        ];
      }

  pub store_value : (m k x : ℕ) → Seen (store_view s) m → IsValueSet (store_view s) m k x (store_view (store_after s (SetValue m k x)))
  store_value m k x sm =
      let e : Stored = record { slots = (object s m).slots; values = set (object s m).values k x } in
      let here : get_or (set s.objects m e) m no_object ≡ e = get_or-set_same s.objects m e no_object (numbered m sm) in
      record {
        roots = refl;
        written = ap (λ (y : Stored). y.values) here;
        values = λ b _ n. ap (λ (y : Stored). y.values) (other_object m b e n);
        slots = λ b _. elim (equal_or_not b m) [
          | inl n ↦ ap (λ (y : Stored). y.slots) (other_object m b e n)
          | inr q ↦ ap (λ z. (get_or (set s.objects m e) z no_object).slots) q ∙ ap (λ (y : Stored). y.slots) here ∙ ap (λ z. (object s z).slots) (sym q)
        ];
      }

  pub store_made : (r refs count : ℕ) → IsMade (store_view s) (length s.objects) r refs count (store_view (store_after s (MakeNew r refs count)))
  store_made r refs count =
      let e : Stored = record { slots = replicate refs 0; values = replicate count 0 } in
      let here : get_or (s.objects ++ e ∷ []) (length s.objects) no_object ≡ e = get_or-end s.objects e no_object in
      record {
        fresh = λ h. let lt : length s.objects < length s.objects = numbered (length s.objects) h in absurd (omega (arith, lt));
        roots = refl;
        new_slots = ap (λ (y : Stored). y.slots) here;
        new_values = ap (λ (y : Stored). y.values) here;
        slots = λ b h. ap (λ (y : Stored). y.slots) (get_or_append_left s.objects (e ∷ []) no_object b (numbered b h));
        values = λ b h. ap (λ (y : Stored). y.values) (get_or_append_left s.objects (e ∷ []) no_object b (numbered b h));
      }
