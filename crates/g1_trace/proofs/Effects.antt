-- Each effect, done on two views of the same objects, leaves two views of the same objects.
use Rattle.std.proofs.Common.{◌≡◌, ℕ, zero, suc, ◌⊎◌, inl, inr, Bool, true, false, cond, List, [], ◌∷◌, set, replicate, map, refl, sym, ◌∙◌, ap, subst, arith, eqb, eqb-true, eq-eqb, Contains}
use Rattle.std.proofs.lemmas.List.{map-set}
use Rattle.g1_words.specs.Copy.{renamed}
use Rattle.g1_trace.specs.Commands.{View}
use Rattle.g1_trace.specs.Views.{Seen, SameView, SeenWord}
use Rattle.g1_trace.proofs.ChangedViews.{IsRootSet, IsSlotSet, IsValueSet, IsMade}
use Rattle.g1_trace.proofs.Views.{Contains-set, no_zeros, root_seen, slot_seen, seen_within, both_seen, equal_or_not}

word_named : (v : View) (x a : ℕ) → SeenWord v x → x ≡ suc a → Seen v a
word_named v x a s e = subst (SeenWord v) e s

map-renamed : (f g : ℕ → ℕ) (xs : List ℕ) → ((a : ℕ) → Contains xs (suc a) → f a ≡ g a) → map (renamed f) xs ≡ map (renamed g) xs
map-renamed f g [] e = refl
map-renamed f g (zero ∷ xs) e = ap (λ ys. 0 ∷ ys) (map-renamed f g xs (λ a h. e a (suc h.0, omega (arith, h.1), h.2)))
map-renamed f g (suc x ∷ xs) e = λ t. suc (e x (zero, omega arith, refl) t) ∷ map-renamed f g xs (λ a h. e a (suc h.0, omega (arith, h.1), h.2)) t

pub map-renamed_zeros : (f : ℕ → ℕ) (n : ℕ) → map (renamed f) (replicate n 0) ≡ replicate n 0
map-renamed_zeros f zero = refl
map-renamed_zeros f (suc n) = ap (λ ys. 0 ∷ ys) (map-renamed_zeros f n)

-- ---- a root is set

pub root_set_seen : (v t : View) (r x : ℕ) → SeenWord v x → IsRootSet v r x t → (a : ℕ) → Seen t a → Seen v a
root_set_seen v t r x s e =
    seen_within t (Seen v)
    (λ a h. elim (Contains-set v.roots r x (suc a) (subst (λ xs. Contains xs (suc a)) e.roots h)) [ inl q ↦ word_named v x a s q | inr g ↦ root_seen v a g ])
    (λ b a p h. slot_seen v b a p (subst (λ xs. Contains xs (suc a)) (e.slots b p) h))

pub root_set_same : (v u t w : View) (r x : ℕ) → (same : SameView v u) → SeenWord v x → IsRootSet v r x t → IsRootSet u r (renamed same.rename x) w → SameView t w
root_set_same v u t w r x same s e d =
    let old : (a : ℕ) → Seen t a → Seen v a = root_set_seen v t r x s e in
    record {
      rename = same.rename;
      one_to_one = λ a b p q. same.one_to_one a b (old a p) (old b q);
      roots = d.roots ∙ ap (λ xs. set xs r (renamed same.rename x)) same.roots ∙ sym (map-set (renamed same.rename) v.roots r x) ∙ ap (map (renamed same.rename)) (sym e.roots);
      slots = λ a p. d.slots (same.rename a) (both_seen v u same a (old a p)).1 ∙ same.slots a (old a p) ∙ ap (map (renamed same.rename)) (sym (e.slots a (old a p)));
      values = λ a p. d.values (same.rename a) (both_seen v u same a (old a p)).1 ∙ same.values a (old a p) ∙ sym (e.values a (old a p));
    }

-- ---- a slot is set

slot_list : (v t : View) (m k x : ℕ) → IsSlotSet v m k x t → (b : ℕ) → Seen v b → (a : ℕ) → Contains (t.slots b) (suc a) → (x ≡ suc a) ⊎ Contains (v.slots b) (suc a)
slot_list v t m k x e b s a h =
    elim (equal_or_not b m) [
      | inl n ↦ inr (subst (λ xs. Contains xs (suc a)) (e.slots b s n) h)
      | inr q ↦ elim (Contains-set (v.slots m) k x (suc a) (subst (λ xs. Contains xs (suc a)) e.written (subst (λ z. Contains (t.slots z) (suc a)) q h))) [
        | inl y ↦ inl y
        | inr g ↦ inr (subst (λ z. Contains (v.slots z) (suc a)) (sym q) g)
      ]
    ]

pub slot_set_seen : (v t : View) (m k x : ℕ) → SeenWord v x → IsSlotSet v m k x t → (a : ℕ) → Seen t a → Seen v a
slot_set_seen v t m k x s e =
    seen_within t (Seen v)
    (λ a h. root_seen v a (subst (λ xs. Contains xs (suc a)) e.roots h))
    (λ b a p h. elim (slot_list v t m k x e b p a h) [ inl q ↦ word_named v x a s q | inr g ↦ slot_seen v b a p g ])

pub slot_set_same : (v u t w : View) (m k x : ℕ) → (same : SameView v u) → Seen v m → SeenWord v x → IsSlotSet v m k x t → IsSlotSet u (same.rename m) k (renamed same.rename x) w → SameView t w
slot_set_same v u t w m k x same sm s e d =
    let old : (a : ℕ) → Seen t a → Seen v a = slot_set_seen v t m k x s e in
    let f : ℕ → ℕ = same.rename in
    record {
      rename = f;
      one_to_one = λ a b p q. same.one_to_one a b (old a p) (old b q);
      roots = d.roots ∙ same.roots ∙ ap (map (renamed f)) (sym e.roots);
      slots = λ a p. elim (equal_or_not a m) [
        | inl n ↦ d.slots (f a) (both_seen v u same a (old a p)).1 (λ q. n (same.one_to_one a m (old a p) sm q)) ∙ same.slots a (old a p) ∙ ap (map (renamed f)) (sym (e.slots a (old a p) n))
        | inr q ↦ ap (λ z. w.slots (f z)) q ∙ d.written ∙ ap (λ xs. set xs k (renamed f x)) (same.slots m sm)
            ∙ sym (map-set (renamed f) (v.slots m) k x) ∙ ap (map (renamed f)) (sym e.written) ∙ ap (λ z. map (renamed f) (t.slots z)) (sym q)
      ];
      values = λ a p. d.values (f a) (both_seen v u same a (old a p)).1 ∙ same.values a (old a p) ∙ sym (e.values a (old a p));
    }

-- ---- a data word is set

pub value_set_seen : (v t : View) (m k x : ℕ) → IsValueSet v m k x t → (a : ℕ) → Seen t a → Seen v a
value_set_seen v t m k x e =
    seen_within t (Seen v)
    (λ a h. root_seen v a (subst (λ xs. Contains xs (suc a)) e.roots h))
    (λ b a p h. slot_seen v b a p (subst (λ xs. Contains xs (suc a)) (e.slots b p) h))

pub value_set_same : (v u t w : View) (m k x : ℕ) → (same : SameView v u) → Seen v m → IsValueSet v m k x t → IsValueSet u (same.rename m) k x w → SameView t w
value_set_same v u t w m k x same sm e d =
    let old : (a : ℕ) → Seen t a → Seen v a = value_set_seen v t m k x e in
    let f : ℕ → ℕ = same.rename in
    record {
      rename = f;
      one_to_one = λ a b p q. same.one_to_one a b (old a p) (old b q);
      roots = d.roots ∙ same.roots ∙ ap (map (renamed f)) (sym e.roots);
      slots = λ a p. d.slots (f a) (both_seen v u same a (old a p)).1 ∙ same.slots a (old a p) ∙ ap (map (renamed f)) (sym (e.slots a (old a p)));
      values = λ a p. elim (equal_or_not a m) [
        | inl n ↦ d.values (f a) (both_seen v u same a (old a p)).1 (λ q. n (same.one_to_one a m (old a p) sm q)) ∙ same.values a (old a p) ∙ sym (e.values a (old a p) n)
        | inr q ↦ ap (λ z. w.values (f z)) q ∙ d.written ∙ ap (λ xs. set xs k x) (same.values m sm) ∙ sym e.written ∙ ap t.values (sym q)
      ];
    }

-- ---- an object is made

pub made_seen : (v t : View) (m r refs count : ℕ) → IsMade v m r refs count t → (a : ℕ) → Seen t a → (a ≡ m) ⊎ Seen v a
made_seen v t m r refs count e =
    seen_within t (λ a. (a ≡ m) ⊎ Seen v a)
    (λ a h. elim (Contains-set v.roots r (suc m) (suc a) (subst (λ xs. Contains xs (suc a)) e.roots h)) [ inl q ↦ inl (omega (arith, q)) | inr g ↦ inr (root_seen v a g) ])
    (λ b a p h. elim p [
      | inl q ↦ absurd (no_zeros refs a (subst (λ xs. Contains xs (suc a)) e.new_slots (subst (λ z. Contains (t.slots z) (suc a)) q h)))
      | inr s ↦ inr (slot_seen v b a s (subst (λ xs. Contains xs (suc a)) (e.slots b s) h))
    ])

module _ (v u t w : View) (m a r refs count : ℕ) (same : SameView v u) (e : IsMade v m r refs count t) (d : IsMade u a r refs count w) where
  with_new : ℕ → ℕ
  with_new b = cond (eqb b m) a (same.rename b)

  at_new : with_new m ≡ a
  unfolding with_new
  at_new = ap (λ b. cond b a (same.rename m)) (eq-eqb m m refl)

  at_other : (b : ℕ) → (b ≡ m → ⊥) → with_new b ≡ same.rename b
  unfolding with_new
  at_other b n = by (eqb b m) refl
    where
      by : (c : Bool) → eqb b m ≡ c → cond c a (same.rename b) ≡ same.rename b
      by true q = absurd (n (eqb-true b m q))
      by false q = refl

  not_new : (b : ℕ) → Seen v b → b ≡ m → ⊥
  not_new b s q = e.fresh (subst (Seen v) q s)

  at_old : (b : ℕ) → Seen v b → with_new b ≡ same.rename b
  at_old b s = at_other b (not_new b s)

  names_kept : (xs : List ℕ) → ((b : ℕ) → Contains xs (suc b) → Seen v b) → map (renamed with_new) xs ≡ map (renamed same.rename) xs
  names_kept xs s = map-renamed with_new same.rename xs (λ b h. at_old b (s b h))

  -- no old object has the new one's name
  apart : (b : ℕ) → Seen v b → with_new b ≡ a → ⊥
  apart b s q = d.fresh (subst (Seen u) (sym (at_old b s) ∙ q) (both_seen v u same b s).1)

  pub made_same : SameView t w
  made_same = record {
    rename = with_new;
    one_to_one = λ b c p q g. elim (made_seen v t m r refs count e b p) [
      | inl x ↦ elim (made_seen v t m r refs count e c q) [
        | inl y ↦ x ∙ sym y
        | inr y ↦ absurd (apart c y (sym g ∙ ap with_new x ∙ at_new))
      ]
      | inr x ↦ elim (made_seen v t m r refs count e c q) [
        | inl y ↦ absurd (apart b x (g ∙ ap with_new y ∙ at_new))
        | inr y ↦ same.one_to_one b c x y (sym (at_old b x) ∙ g ∙ at_old c y)
      ]
    ];
    roots =
        d.roots ∙ ap (λ xs. set xs r (suc a)) (same.roots ∙ sym (names_kept v.roots (root_seen v))) ∙ ap (λ z. set (map (renamed with_new) v.roots) r (suc z)) (sym at_new)
        ∙ sym (map-set (renamed with_new) v.roots r (suc m)) ∙ ap (map (renamed with_new)) (sym e.roots);
    slots = λ b p. elim (made_seen v t m r refs count e b p) [
      | inl x ↦ ap w.slots (ap with_new x ∙ at_new) ∙ d.new_slots ∙ sym (map-renamed_zeros with_new refs)
          ∙ ap (map (renamed with_new)) (sym e.new_slots) ∙ ap (λ z. map (renamed with_new) (t.slots z)) (sym x)
      | inr x ↦ ap w.slots (at_old b x) ∙ d.slots (same.rename b) (both_seen v u same b x).1 ∙ same.slots b x
          ∙ sym (names_kept (v.slots b) (λ c. slot_seen v b c x)) ∙ ap (map (renamed with_new)) (sym (e.slots b x))
    ];
    values = λ b p. elim (made_seen v t m r refs count e b p) [
      | inl x ↦ ap w.values (ap with_new x ∙ at_new) ∙ d.new_values ∙ sym e.new_values ∙ ap t.values (sym x)
      | inr x ↦ ap w.values (at_old b x) ∙ d.values (same.rename b) (both_seen v u same b x).1 ∙ same.values b x ∙ sym (e.values b x)
    ];
  }
