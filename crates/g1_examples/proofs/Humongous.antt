-- A small heap with a humongous object keeps all rules.
use Rattle.std.proofs.Common.{◌≡◌, ℕ, zero, suc, ◌+◌, ◌-◌, ◌*◌, ◌^◌, ◌<◌, ◌≤◌, inl, inr, true, ◌||◌, [], ◌∷◌, refl, sym, ap, subst, arith, lit<, lit≤, ltb, eqb, eqb-true, ltb-true, false, Contains}
use Rattle.std.proofs.lemmas.Bool.{or_cases}
use Rattle.std.proofs.lemmas.List.Elements.{All-from_recursion}
use Rattle.g1_words.specs.declared.object.Object.{Object}
use Rattle.g1_words.specs.declared.region.Kind.TheVariants.{Ordinary, HumongousFirst, Continuation}
use Rattle.g1_words.specs.Heap.{top, start, word, objects, object_at}
use Rattle.g1_words.specs.Valid.{MayBePinned, IsObject, IsFirst, HasObject, IsSlotOf, IsReference, IsWholeRun, IsShaped, IsShapedBy, IsValid}
use Rattle.g1_words.proofs.Computed.{has_contains}
use Rattle.g1_words.proofs.Lists.{all_from_in}
use Rattle.g1_examples.specs.Examples.{humongous_owner}
use Rattle.g1_examples.proofs.Sorted.{all_members}
use Rattle.g1_examples.proofs.Closed.{each_below}
use Rattle.g1_examples.proofs.Inhabited.{zero_by_test}

object0 : IsObject humongous_owner.words (object_at humongous_owner 0)
object0 = record { header = refl; refs_fit = lit< tt; size_fits = lit< tt }

object48 : IsObject humongous_owner.words (object_at humongous_owner 48)
object48 = record { header = refl; refs_fit = lit< tt; size_fits = lit< tt }

first0 : IsFirst humongous_owner 0 (object_at humongous_owner 0)
first0 = record { kind = refl; at = refl; object = object0 }

run0 : IsWholeRun humongous_owner 0 40
run0 zero some lt = absurd (omega arith)
run0 (suc zero) some lt = (lit< tt, refl)
run0 (suc (suc zero)) some lt = (lit< tt, refl)
run0 (suc (suc (suc i))) some lt = absurd (omega arith)

shape0 : IsShapedBy HumongousFirst humongous_owner 0
shape0 = (object_at humongous_owner 0, first0, lit< tt, refl, run0)

shape1 : IsShapedBy Continuation humongous_owner 1
shape1 = (0, object_at humongous_owner 0, first0, lit< tt, lit< tt, refl)

shape2 : IsShapedBy Continuation humongous_owner 2
shape2 = (0, object_at humongous_owner 0, first0, lit< tt, lit< tt, refl)

shape3 : IsShapedBy Ordinary humongous_owner 3
shape3 = (
  lit< tt,
  lit≤ tt,
  object_at humongous_owner 48 ∷ [],
  (refl, object48, refl),
  All-from_recursion (λ (o : Object). 4 * o.size ≤ 3 * 16) (object_at humongous_owner 48 ∷ []) (lit≤ tt, tt),
)

shaped9 : (r : ℕ) → r < 6 → IsShaped humongous_owner r
shaped9 zero lt = record { by_kind = shape0; current = λ e. cc }
shaped9 (suc zero) lt = record { by_kind = shape1; current = λ e. cc }
shaped9 (suc (suc zero)) lt = record { by_kind = shape2; current = λ e. cc }
shaped9 (suc (suc (suc zero))) lt = record { by_kind = shape3; current = λ e. refl }
shaped9 (suc (suc (suc (suc zero)))) lt = record { by_kind = refl; current = λ e. cc }
shaped9 (suc (suc (suc (suc (suc zero))))) lt = record { by_kind = refl; current = λ e. cc }
shaped9 (suc (suc (suc (suc (suc (suc r)))))) lt = absurd (omega arith)

zero9 : (r i : ℕ) → r < 6 → top humongous_owner r ≤ i → i < 16 → word humongous_owner (start humongous_owner r + i) ≡ 0
zero9 zero i lt le below = zero_by_test humongous_owner 0 i refl le below
zero9 (suc zero) i lt le below = zero_by_test humongous_owner 1 i refl le below
zero9 (suc (suc zero)) i lt le below = zero_by_test humongous_owner 2 i refl le below
zero9 (suc (suc (suc zero))) i lt le below = zero_by_test humongous_owner 3 i refl le below
zero9 (suc (suc (suc (suc zero)))) i lt le below = zero_by_test humongous_owner 4 i refl le below
zero9 (suc (suc (suc (suc (suc zero))))) i lt le below = zero_by_test humongous_owner 5 i refl le below
zero9 (suc (suc (suc (suc (suc (suc r)))))) i lt le below = absurd (omega arith)

has0 : HasObject humongous_owner (object_at humongous_owner 0)
has0 = record { place = 0; others = object_at humongous_owner 0 ∷ []; in_heap = lit< tt; holds = (object_at humongous_owner 0, first0, refl); one_of = (0, lit< tt, refl) }

has48 : HasObject humongous_owner (object_at humongous_owner 48)
has48 = record { place = 3; others = object_at humongous_owner 48 ∷ []; in_heap = lit< tt; holds = (refl, object48, refl); one_of = (0, lit< tt, refl) }

-- the slots of the humongous object: one of them isn't null, in the second region of the run
slot0 : (p : ℕ) → 0 < p → p ≤ 20 → IsReference humongous_owner (word humongous_owner p)
slot0 p low high = elim (or_cases (eqb (word humongous_owner p) 0) (eqb p 17) there) [
  | inl null ↦ inl (eqb-true (word humongous_owner p) 0 null)
  | inr one ↦ subst (λ p. IsReference humongous_owner (word humongous_owner p)) (sym (eqb-true p 17 one)) (inr (object_at humongous_owner 48, has48, refl))
]
  where
    there : (eqb (word humongous_owner p) 0 || eqb p 17) ≡ true
    there =
        let same : 1 + (p - 1) ≡ p = omega arith in
        subst (λ m. (eqb (word humongous_owner m) 0 || eqb m 17) ≡ true) same (each_below (λ p. eqb (word humongous_owner p) 0 || eqb p 17) 20 1 refl (p - 1) (omega arith))

slots9 : (o : Object) (p : ℕ) → HasObject humongous_owner o → IsSlotOf o p → IsReference humongous_owner (word humongous_owner p)
slots9 o p has s = of_member (has_contains humongous_owner o has)
  where
    of_member : Contains (objects humongous_owner) o → IsReference humongous_owner (word humongous_owner p)
    of_member (zero, b, e) =
        let at : 0 ≡ o.at = ap (λ (o : Object). o.at) e in
        let refs : 20 ≡ o.refs = ap (λ (o : Object). o.refs) e in
        slot0 p (omega (arith, s.0, at)) (omega (arith, s.1, at, refs))
    of_member (suc zero, b, e) =
        let at : 48 ≡ o.at = ap (λ (o : Object). o.at) e in
        let refs : 0 ≡ o.refs = ap (λ (o : Object). o.refs) e in
        absurd (omega (arith, s.0, s.1, at, refs))
    of_member (suc (suc k), b, e) = absurd (omega (arith, b))

pins9 : (r : ℕ) → MayBePinned humongous_owner r
pins9 zero t = absurd (let clash : false ≡ true = t in cc)
pins9 (suc zero) t = absurd (let clash : false ≡ true = t in cc)
pins9 (suc (suc zero)) t = absurd (let clash : false ≡ true = t in cc)
pins9 (suc (suc (suc zero))) t = refl
pins9 (suc (suc (suc (suc zero)))) t = absurd (let clash : false ≡ true = t in cc)
pins9 (suc (suc (suc (suc (suc zero))))) t = absurd (let clash : false ≡ true = t in cc)
pins9 (suc (suc (suc (suc (suc (suc r)))))) t = absurd (let clash : false ≡ true = t in cc)

pub humongous_owner_is_valid : IsValid humongous_owner
humongous_owner_is_valid = record {
  limits = record {
    w_power = (4, refl);
    w_least = lit≤ tt;
    w_most = lit≤ tt;
    k_power = (2, refl);
    k_least = lit≤ tt;
    k_most = lit≤ tt;
    k_in_w = lit≤ tt;
    n_least = lit≤ tt;
    n_most = lit≤ tt;
    words_most = lit≤ tt;
  };
  word_count = refl;
  word_fits = all_from_in (λ x. x < 2 ^ 64) humongous_owner.words (λ x i. ltb-true x (2 ^ 64) (all_members (λ x. ltb x (2 ^ 64)) humongous_owner.words refl x i));
  region_count = refl;
  root_count = lit≤ tt;
  shaped = shaped9;
  pins = λ r lt. pins9 r;
  zero_above = zero9;
  roots = All-from_recursion (IsReference humongous_owner) (1 ∷ []) (inr (object_at humongous_owner 0, has0, refl), tt);
  slots = slots9;
  current_in = tt;
}
