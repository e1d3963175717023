-- Two small graphs by name are the same, and a third is another.
use Rattle.std.proofs.Common.{◌≡◌, ◌<◌, inl, inr, ℕ, cond, List, [], ◌∷◌, get_or, refl, sym, ◌∙◌, ap, subst, arith, zero, suc}
use Rattle.std.specs.Prelude.{Some, None, codes, Contains}
use Rattle.std.specs.List.{AllZip}
use Rattle.std.specs.Str.{bytes_eq}
use Rattle.g1_text.specs.Forms.{StandsFor}
use Rattle.g1_text.specs.Graphs.{NamedObject}
use Rattle.g1_text.specs.RenamedExample.{pair, leaf, told, told_otherwise, exchanged}
use Rattle.g1_text.specs.Renamed.{LeadsTo, IsReached, by_root, by_slot, Match, StandForOne, IsRenamed, SameByName}
use Rattle.g1_text.proofs.OneValue.{one_value}
use Rattle.g1_text.proofs.Lookups.{some_some}
use Rattle.g1_text.proofs.NamedObjects.{reached_among}

five : StandsFor 5 (codes "5")
five = inl ((omega arith, (omega arith, tt)), refl, omega arith)

six : StandsFor 6 (codes "6")
six = inl ((omega arith, (omega arith, tt)), refl, omega arith)

seven : StandsFor 7 (codes "7")
seven = inl ((omega arith, (omega arith, tt)), refl, omega arith)

five_otherwise : StandsFor 5 (codes "0x5")
five_otherwise = inr (inr (inl (codes "5", refl, (omega arith, (omega arith, tt)), refl, omega arith)))

apart : (m n : ℕ) → m < n → m ∷ [] ≡ n ∷ [] → ⊥
apart m n lt e = let d : m ≡ n = ap (λ w. get_or w 0 0) e in absurd (omega (arith, d, lt))

of_three : (P : NamedObject → Type 0) (x y z : NamedObject) → P x → P y → P z → (o : NamedObject) → Contains (x ∷ y ∷ z ∷ []) o → P o
of_three P x y z p q r o (zero, b, e) = subst P e p
of_three P x y z p q r o (suc zero, b, e) = subst P e q
of_three P x y z p q r o (suc (suc zero), b, e) = subst P e r
of_three P x y z p q r o (suc (suc (suc j)), b, e) = absurd (omega (arith, b))

abbrev a : NamedObject
a = pair (codes "a") (codes "b") (codes "c") (codes "7")

abbrev b : NamedObject
b = leaf (codes "b") (codes "5")

abbrev c : NamedObject
c = leaf (codes "c") (codes "6")

-- OTHER NAMES
abbrev other_name : List ℕ → List ℕ
other_name name = cond (bytes_eq name (codes "a")) (codes "x") (cond (bytes_eq name (codes "b")) (codes "y") (codes "z"))

one_name : (o p : NamedObject) → Contains told.objects o → Contains told.objects p → other_name o.name ≡ other_name p.name → o.name ≡ p.name
one_name o p i j = of_three (λ o. other_name o.name ≡ other_name p.name → o.name ≡ p.name) a b c
    (of_three (λ p. codes "x" ≡ other_name p.name → codes "a" ≡ p.name) a b c (λ e. refl) (λ e. absurd (apart 120 121 (omega arith) e)) (λ e. absurd (apart 120 122 (omega arith) e)) p j)
    (of_three (λ p. codes "y" ≡ other_name p.name → codes "b" ≡ p.name) a b c (λ e. absurd (apart 120 121 (omega arith) (sym e))) (λ e. refl) (λ e. absurd (apart 121 122 (omega arith) e)) p j)
    (of_three (λ p. codes "z" ≡ other_name p.name → codes "c" ≡ p.name) a b c (λ e. absurd (apart 120 122 (omega arith) (sym e))) (λ e. absurd (apart 121 122 (omega arith) (sym e))) (λ e. refl) p j)
    o i

match : (o p : NamedObject) → Contains told.objects o → Contains told_otherwise.objects p → other_name o.name ≡ p.name → Match other_name told told_otherwise (Some o.name) (Some p.name)
match o p i j e = inr (o, p, (i, refl), (j, refl), e)

abbrev x : NamedObject
x = pair (codes "x") (codes "y") (codes "z") (codes "7")

abbrev y : NamedObject
y = leaf (codes "y") (codes "0x5")

abbrev z : NamedObject
z = leaf (codes "z") (codes "6")

abbrev HasOther : NamedObject → Type 0
HasOther o = (p : NamedObject) × Contains told_otherwise.objects p × IsRenamed other_name told told_otherwise o p

pub same : SameByName told told_otherwise
same = record {
  rename = other_name;
  one_to_one = λ o p r q e. one_name o p (reached_among told o r) (reached_among told p q) e;
  roots = (match a x (0, omega arith, refl) (3, omega arith, refl) refl, tt);
  objects = λ o r. of_three HasOther a b c (
    x,
    (3, omega arith, refl),
    record {
      name = refl;
      slots = (match b y (1, omega arith, refl) (2, omega arith, refl) refl, (match c z (2, omega arith, refl) (0, omega arith, refl) refl, tt));
      data_words = ((7, seven, seven), tt);
    },
  )
      (y, (2, omega arith, refl), record { name = refl; slots = tt; data_words = ((5, five, five_otherwise), tt) })
      (z, (0, omega arith, refl), record { name = refl; slots = tt; data_words = ((6, six, six), tt) })
      o (reached_among told o r);
}

-- SLOTS EXCHANGED
renamed_to : (f : List ℕ → List ℕ) (name other : List ℕ) (o : NamedObject) → LeadsTo told (Some name) o → Match f told exchanged (Some name) (Some other) → f name ≡ other
renamed_to f name other o l (inl m) = absurd (m.0 o l)
renamed_to f name other o l (inr (p, q, k, n, e)) = ap f (some_some k.1) ∙ e ∙ sym (some_some n.1)

abbrev swapped : NamedObject
swapped = pair (codes "a") (codes "c") (codes "b") (codes "7")

leads_to_a : LeadsTo told (Some (codes "a")) a
leads_to_a = ((0, omega arith, refl), refl)

leads_to_b : LeadsTo told (Some (codes "b")) b
leads_to_b = ((1, omega arith, refl), refl)

reached_a : IsReached told a
reached_a = by_root (record { target = Some (codes "a"); holder = None }) (0, omega arith, refl) leads_to_a

reached_b : IsReached told b
reached_b = by_slot (Some (codes "b")) reached_a (0, omega arith, refl) leads_to_b

pub another : SameByName told exchanged → ⊥
another s =
    let f : List ℕ → List ℕ = s.rename in
    let p = s.objects a reached_a in
    let q = s.objects b reached_b in
    let to_c : f (codes "b") ≡ codes "c" = of_three (λ p. AllZip (Match f told exchanged) a.slots p.slots → f (codes "b") ≡ codes "c") swapped b c
    (λ ms. renamed_to f (codes "b") (codes "c") b leads_to_b ms.0) (λ ms. elim ms [ ]) (λ ms. elim ms [ ]) p.0 p.1 p.2.slots in
    of_three (λ q. f (codes "b") ≡ q.name → AllZip StandForOne b.written q.written → ⊥) swapped b c
    (λ e ws. apart 97 99 (omega arith) (sym e ∙ to_c)) (λ e ws. apart 98 99 (omega arith) (sym e ∙ to_c))
    (λ e ws. let n : ℕ = ws.0.0 in let is_5 = one_value n 5 (codes "5") ws.0.1 five in let is_6 = one_value n 6 (codes "6") ws.0.2 six in absurd (omega (arith, is_5, is_6)))
    q.0 q.1 q.2.name q.2.data_words
