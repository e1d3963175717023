-- A path is followed slot by slot, and what stands at its end is what the difference says.
use Rattle.std.proofs.Common.{◌≡◌, ℕ, zero, suc, ◌+◌, ◌<◌, ◌≤◌, ◌/◌, ◌%◌, ◌^◌, List, [], ◌∷◌, length, drop, get_or, refl, sym, ap, subst, ◌∙◌, arith, drop-cons, slice_index}
use Rattle.std.proofs.Math.ListN.{drop_of_length-le}
use Rattle.g1_words.specs.Heap.{Heap, word}
use Rattle.g1_words.specs.Valid.{IsValid, IsReference}
use Rattle.g1_same.specs.Path.{Leads, LeadsTo}
use Rattle.g1_same.specs.declared.difference.How.{How}
use Rattle.g1_same.specs.declared.difference.How.TheVariants.{Data}
use Rattle.g1_same.specs.Same.{IsClash, ClashAt}
use Rattle.g1_same.specs.Ends.{HasDataWord}
use Rattle.g1_words.proofs.Sound.{object_in}
use Rattle.g1_same.proofs.Heaps.{object_named, root_names, slot_names}

next_is : (i : ℕ) → suc i ≡ i + 1
next_is i = omega arith

-- a path leads to one word
leads_one : (h : Heap) (ss : List ℕ) (z x y : ℕ) → Leads h ss z x → Leads h ss z y → x ≡ y
leads_one h [] z x y l m = sym l ∙ m
leads_one h (s ∷ ss) zero x y l m = absurd l
leads_one h (s ∷ ss) (suc a) x y l m = leads_one h ss (word h (a + 1 + s)) x y l.1 m.1

pub leads_to_one : (h : Heap) (p : List ℕ) (x y : ℕ) → LeadsTo h p x → LeadsTo h p y → x ≡ y
leads_to_one h [] x y l m = absurd l
leads_to_one h (k ∷ ss) x y l m = leads_one h ss (slice_index h.roots k) x y l.1 m.1

-- the walk along the slots stands at this word before the slot of this place
pub record IsOn (h : Heap) (root : ℕ) (slots : List ℕ) (i x : ℕ) : Type 0 where
  pub names : IsReference h x
  pub leads : (y : ℕ) → LeadsTo h (root ∷ slots) y → Leads h (drop i slots) x y

module _ (h : Heap) (valid : IsValid h) where
  step_at : (s : ℕ) (ss : List ℕ) (x y : ℕ) → IsReference h x → Leads h (s ∷ ss) x y
      → (x + s < length h.words) × IsReference h (word h (x + s)) × Leads h ss (word h (x + s)) y
  step_at s ss zero y n l = absurd l
  step_at s ss (suc a) y n l =
      let o = object_named h (suc a) a valid n refl in
      let fit = object_in h a valid o in
      let e : a + 1 + s ≡ suc a + s = omega arith in (
        omega (arith, fit.0, fit.1, l.0),
        subst (λ z. IsReference h (word h z)) e (slot_names h a s valid o l.0),
        subst (λ z. Leads h ss (word h z) y) e l.1,
      )

  leads_names : (ss : List ℕ) (x y : ℕ) → IsReference h x → Leads h ss x y → IsReference h y
  leads_names [] x y n l = subst (IsReference h) l n
  leads_names (s ∷ ss) x y n l = let t = step_at s ss x y n l in leads_names ss (word h (x + s)) y t.1 t.2

  -- what a path leads to is a reference
  pub end_names : (p : List ℕ) (y : ℕ) → LeadsTo h p y → IsReference h y
  end_names [] y l = absurd l
  end_names (k ∷ ss) y l = leads_names ss (slice_index h.roots k) y (root_names h k valid l.0) l.1

  pub on_start : (root : ℕ) (slots : List ℕ) (y : ℕ) → LeadsTo h (root ∷ slots) y → IsOn h root slots 0 (slice_index h.roots root)
  on_start root slots y l = record { names = root_names h root valid l.0; leads = λ z m. m.1 }

  module _ (root : ℕ) (slots : List ℕ) (y : ℕ) (there : LeadsTo h (root ∷ slots) y) (i x : ℕ) (on : IsOn h root slots i x) where
    next : (z : ℕ) → i < length slots → LeadsTo h (root ∷ slots) z
        → (x + get_or slots i 0 < length h.words) × IsReference h (word h (x + get_or slots i 0)) × Leads h (drop (i + 1) slots) (word h (x + get_or slots i 0)) z
    next z lt l = step_at (get_or slots i 0) (drop (i + 1) slots) x z on.names
        (subst (λ ss. Leads h ss x z) (drop-cons slots i 0 lt ∙ ap (λ n. get_or slots i 0 ∷ drop n slots) (next_is i)) (on.leads z l))

    pub on_within : i < length slots → x + get_or slots i 0 < length h.words
    on_within lt = (next y lt there).0

    pub on_step : i < length slots → IsOn h root slots (i + 1) (word h (x + get_or slots i 0))
    on_step lt = record { names = (next y lt there).1; leads = λ z l. (next z lt l).2 }

    pub on_end : length slots ≤ i → LeadsTo h (root ∷ slots) x
    on_end le = let e : drop i slots ≡ [] = drop_of_length-le slots le in subst (λ z. LeadsTo h (root ∷ slots) z) (sym (subst (λ ss. Leads h ss x y) e (on.leads y there))) there

-- what a path leads to in both heaps is what the difference speaks of
module _ (g h : Heap) (p : List ℕ) (x y : ℕ) (left : LeadsTo g p x) (right : LeadsTo h p y) where
  pub clash_here : (how : How) → ClashAt g h p how → IsClash g h p how x y
  clash_here how (u, v, together, clash) =
      subst (λ z. IsClash g h p how z y) (leads_to_one g p u x together.0 left) (subst (λ z. IsClash g h p how u z) (leads_to_one h p v y together.1 right) clash)

-- data words that differ are words of their objects
pub value_before : (g h : Heap) (p : List ℕ) (x y k : ℕ) → IsValid g → LeadsTo g p x → IsClash g h p (Data k) x y → HasDataWord g x k
value_before g h p x y k valid leads (a, b, is, other, header, within, values) =
    record { address = a; is = is; object = object_named g x a valid (end_names g valid p x leads) is; within = within }

pub value_after : (g h : Heap) (p : List ℕ) (x y k : ℕ) → IsValid h → LeadsTo h p y → IsClash g h p (Data k) x y → HasDataWord h y k
value_after g h p x y k valid leads (a, b, is, other, header, within, values) =
    record { address = b; is = other; object = object_named h y b valid (end_names h valid p y leads) other; within = subst (λ w. w % 2 ^ 32 + 1 + k < w / 2 ^ 32) header within }
