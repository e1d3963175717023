-- One graph shows no difference.
use Rattle.std.proofs.Common.{◌≡◌, ℕ, zero, suc, ◌+◌, ◌<◌, ◌%◌, ◌/◌, ◌^◌, List, [], ◌∷◌, length, refl, sym, ap, subst, ◌∙◌, arith, slice_index}
use Rattle.std.proofs.lemmas.List.{length-map, get_or-map}
use Rattle.g1_words.specs.Heap.{Heap, word, object_at}
use Rattle.g1_words.specs.Valid.{IsValid}
use Rattle.g1_words.specs.Live.{Live}
use Rattle.g1_words.specs.Copy.{renamed}
use Rattle.g1_words.specs.Graph.{SameGraph}
use Rattle.g1_same.specs.declared.difference.How.{How}
use Rattle.g1_same.specs.declared.difference.How.TheVariants.{NullBefore, NullAfter, Split, Joined, Size, Slots, Data}
use Rattle.g1_same.specs.declared.difference.Difference.{Difference}
use Rattle.g1_same.specs.declared.difference.Difference.TheVariants.{Roots, At}
use Rattle.g1_same.specs.Path.{Leads, LeadsTo, Together}
use Rattle.g1_same.specs.Same.{IsClash, IsDifference}
use Rattle.g1_same.proofs.Copies.{copied_data, copied_header, copied_slot}
use Rattle.g1_same.proofs.Following.{leads_to_one}
use Rattle.g1_same.proofs.Heaps.{live_object, slot_live, root_live}

-- the word is null or names a reached object
abbrev LivesAt : Heap → ℕ → Type 0
LivesAt h x = (a : ℕ) → x ≡ suc a → Live h a

-- heaps of one graph have as many roots
pub same_count : (g h : Heap) → SameGraph g h → length g.roots ≡ length h.roots
same_count g h s = sym (length-map g.roots (renamed s.rename)) ∙ ap length (sym s.roots)

module _ (g h : Heap) (valid : IsValid g) (s : SameGraph g h) where
  same_header : (a : ℕ) → Live g a → word h (s.rename a) ≡ word g a
  same_header a live = copied_header s.rename g h a valid (live_object g a valid live) (s.copies a live)

  pub same_slot : (a n : ℕ) → Live g a → n < (object_at g a).refs → word h (s.rename a + 1 + n) ≡ renamed s.rename (word g (a + 1 + n))
  same_slot a n live lt = copied_slot s.rename g h a valid (live_object g a valid live) (s.copies a live) n lt

  same_data : (a k : ℕ) → Live g a → (object_at g a).refs + 1 + k < (object_at g a).size
      → word h (s.rename a + 1 + (object_at g a).refs + k) ≡ word g (a + 1 + (object_at g a).refs + k)
  same_data a k live lt = copied_data s.rename g h a valid (live_object g a valid live) (s.copies a live) k lt

  carried : (ss : List ℕ) (x y : ℕ) → LivesAt g x → Leads g ss x y → Leads h ss (renamed s.rename x) (renamed s.rename y) × LivesAt g y
  carried [] x y lives e = (ap (renamed s.rename) e, subst (LivesAt g) e lives)
  carried (n ∷ ss) zero y lives l = absurd l
  carried (n ∷ ss) (suc a) y lives l =
      let live = lives a refl in
      let refs : (object_at h (s.rename a)).refs ≡ (object_at g a).refs = ap (λ w. w % 2 ^ 32) (same_header a live) in
      let rest = carried ss (word g (a + 1 + n)) y (λ b e. slot_live g a b n live l.0 e) l.1 in
      ((omega (arith, l.0, refs), subst (λ w. Leads h ss w (renamed s.rename y)) (sym (same_slot a n live l.0)) rest.0), rest.1)

  pub same_root : (n : ℕ) → n < length g.roots → slice_index h.roots n ≡ renamed s.rename (slice_index g.roots n)
  same_root n lt = ap (λ l. slice_index l n) s.roots ∙ get_or-map (renamed s.rename) g.roots n 0 0 lt

  carried_path : (p : List ℕ) (x : ℕ) → LeadsTo g p x → LeadsTo h p (renamed s.rename x) × LivesAt g x
  carried_path [] x l = absurd l
  carried_path (k ∷ ss) x l =
      let c = carried ss (slice_index g.roots k) x (λ b e. root_live g b k l.0 e) l.1 in
      let len : length h.roots ≡ length g.roots = sym (same_count g h s) in
      ((omega (arith, l.0, len), subst (λ w. Leads h ss w (renamed s.rename x)) (sym (same_root k l.0)) c.0), c.1)

  -- what a path leads to is renamed
  met : (p : List ℕ) (x y : ℕ) → Together g h p x y → y ≡ renamed s.rename x
  met p x y t = leads_to_one h p y (renamed s.rename x) t.1 (carried_path p x t.0).0

  lives : (p : List ℕ) (x y a : ℕ) → Together g h p x y → x ≡ suc a → Live g a
  lives p x y a t e = (carried_path p x t.0).1 a e

  named_to : (p : List ℕ) (x y a b : ℕ) → Together g h p x y → x ≡ suc a → y ≡ suc b → b ≡ s.rename a
  named_to p x y a b t e f = let m : suc b ≡ suc (s.rename a) = sym f ∙ met p x y t ∙ ap (renamed s.rename) e in omega (arith, m)

  no_clash : (p : List ℕ) (how : How) (x y : ℕ) → Together g h p x y → IsClash g h p how x y → ⊥
  no_clash p NullBefore x y t c = c.1 (met p x y t ∙ ap (renamed s.rename) c.0)
  no_clash p NullAfter zero y t c = c.0 refl
  no_clash p NullAfter (suc a) y t c = let m : suc (s.rename a) ≡ 0 = sym (met p (suc a) y t) ∙ c.1 in absurd (omega (arith, m))
  no_clash p (Split a m n) x y t c =
      let e : n ≡ s.rename a = named_to p x y a n t c.0 c.1 in
      let f : m ≡ s.rename a = named_to c.3 (suc a) (suc m) a m c.5 refl refl in
      c.2 (f ∙ sym e)
  no_clash p (Joined m n b) x y t c =
      let e : b ≡ s.rename n = named_to p x y n b t c.0 c.1 in
      let f : b ≡ s.rename m = named_to c.3 (suc m) (suc b) m b c.5 refl refl in
      c.2 (s.one_to_one m n (lives c.3 (suc m) (suc b) m c.5 refl) (lives p x y n t c.0) (sym f ∙ e))
  no_clash p (Size m n) x y t c =
      let live = lives p x y c.0 t c.2 in
      let e : c.1 ≡ s.rename c.0 = named_to p x y c.0 c.1 t c.2 c.3 in
      let head : word h c.1 ≡ word g c.0 = ap (word h) e ∙ same_header c.0 live in
      c.6 (sym c.4 ∙ ap (λ w. w / 2 ^ 32) (sym head) ∙ c.5)
  no_clash p (Slots m n) x y t c =
      let live = lives p x y c.0 t c.2 in
      let e : c.1 ≡ s.rename c.0 = named_to p x y c.0 c.1 t c.2 c.3 in
      let head : word h c.1 ≡ word g c.0 = ap (word h) e ∙ same_header c.0 live in
      c.6 (sym c.4 ∙ ap (λ w. w % 2 ^ 32) (sym head) ∙ c.5)
  no_clash p (Data k) x y t c =
      let live = lives p x y c.0 t c.2 in
      let e : c.1 ≡ s.rename c.0 = named_to p x y c.0 c.1 t c.2 c.3 in
      c.6 (sym (ap (λ q. word h (q + 1 + (object_at g c.0).refs + k)) e ∙ same_data c.0 k live c.5))

  pub no_difference : (d : Difference) → IsDifference g h d → ⊥
  no_difference (Roots m n) c = c.2 (sym c.0 ∙ same_count g h s ∙ c.1)
  no_difference (At k ss how) c = no_clash (k ∷ ss.items) how c.0 c.1 c.2 c.3
