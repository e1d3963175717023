-- A small image keeps all rules, so that the laws' premises are met by something.
use Rattle.std.proofs.Common.{◌≡◌, ◌≢◌, ℕ, zero, suc, ◌+◌, ◌*◌, ◌^◌, ◌<◌, ◌≤◌, inr, Bool, true, false, ◌||◌, [], ◌∷◌, refl, sym, ap, subst, arith, lit<, lit≤, ltb, Contains}
use Rattle.std.proofs.Common.{eqb, eqb-true, ltb-true, le-ltb}
use Rattle.std.specs.List.{list_all, range_with_len}
use Rattle.std.proofs.lemmas.List.Elements.{All-from_recursion}
use Rattle.g1_words.specs.declared.object.Object.{Object}
use Rattle.g1_words.specs.declared.region.Kind.TheVariants.{Ordinary}
use Rattle.g1_words.specs.Heap.{Heap, top, start, word, objects, object_at}
use Rattle.g1_words.specs.Valid.{MayBePinned, IsObject, HasObject, IsSlotOf, IsReference, IsShaped, IsShapedBy, IsValid}
use Rattle.g1_words.proofs.Computed.{has_contains}
use Rattle.g1_words.proofs.Lists.{all_from_in}
use Rattle.g1_image.specs.Image.{IsUsedCard, IsRememberedSet, IsImage, remembered_of, region_of_card}
use Rattle.g1_examples.specs.Examples.{dead_owner, dead_owner_image}
use Rattle.g1_examples.proofs.Sorted.{all_members}
use Rattle.g1_examples.proofs.Closed.{each_below}

object0 : IsObject dead_owner.words (object_at dead_owner 0)
object0 = record { header = refl; refs_fit = lit< tt; size_fits = lit< tt }

object16 : IsObject dead_owner.words (object_at dead_owner 16)
object16 = record { header = refl; refs_fit = lit< tt; size_fits = lit< tt }

shape0 : IsShapedBy Ordinary dead_owner 0
shape0 = (
  lit< tt,
  lit≤ tt,
  object_at dead_owner 0 ∷ [],
  (refl, object0, refl),
  All-from_recursion (λ (o : Object). 4 * o.size ≤ 3 * 16) (object_at dead_owner 0 ∷ []) (lit≤ tt, tt),
)

shape1 : IsShapedBy Ordinary dead_owner 1
shape1 = (
  lit< tt,
  lit≤ tt,
  object_at dead_owner 16 ∷ [],
  (refl, object16, refl),
  All-from_recursion (λ (o : Object). 4 * o.size ≤ 3 * 16) (object_at dead_owner 16 ∷ []) (lit≤ tt, tt),
)

shaped5 : (r : ℕ) → r < 4 → IsShaped dead_owner r
shaped5 zero lt = record { by_kind = shape0; current = λ e. refl }
shaped5 (suc zero) lt = record { by_kind = shape1; current = λ e. refl }
shaped5 (suc (suc zero)) lt = record { by_kind = refl; current = λ e. cc }
shaped5 (suc (suc (suc zero))) lt = record { by_kind = refl; current = λ e. cc }
shaped5 (suc (suc (suc (suc r)))) lt = absurd (omega arith)

or_else : (a b : Bool) → a ≡ false → (a || b) ≡ true → b ≡ true
or_else true b e t = cc
or_else false b e t = t

-- by a test of each word of a region
pub zero_by_test : (h : Heap) (r i : ℕ) → list_all (λ i. ltb i (top h r) || eqb (word h (start h r + i)) 0) (range_with_len 0 16) ≡ true → top h r ≤ i → i < 16 → word h (start h r + i) ≡ 0
zero_by_test h r i t le lt =
    eqb-true (word h (start h r + i)) 0
    (or_else (ltb i (top h r)) (eqb (word h (start h r + i)) 0) (le-ltb i (top h r) le)
    (subst (λ m. (ltb m (top h r) || eqb (word h (start h r + m)) 0) ≡ true) (omega arith)
    (each_below (λ i. ltb i (top h r) || eqb (word h (start h r + i)) 0) 16 0 t i lt)))

zero5 : (r i : ℕ) → r < 4 → top dead_owner r ≤ i → i < 16 → word dead_owner (start dead_owner r + i) ≡ 0
zero5 zero i lt le below = zero_by_test dead_owner 0 i refl le below
zero5 (suc zero) i lt le below = zero_by_test dead_owner 1 i refl le below
zero5 (suc (suc zero)) i lt le below = zero_by_test dead_owner 2 i refl le below
zero5 (suc (suc (suc zero))) i lt le below = zero_by_test dead_owner 3 i refl le below
zero5 (suc (suc (suc (suc r)))) i lt le below = absurd (omega arith)

has16 : HasObject dead_owner (object_at dead_owner 16)
has16 = record { place = 1; others = object_at dead_owner 16 ∷ []; in_heap = lit< tt; holds = (refl, object16, refl); one_of = (0, lit< tt, refl) }

slots5 : (o : Object) (p : ℕ) → HasObject dead_owner o → IsSlotOf o p → IsReference dead_owner (word dead_owner p)
slots5 o p has s = of_member (has_contains dead_owner o has)
  where
    of_member : Contains (objects dead_owner) o → IsReference dead_owner (word dead_owner p)
    of_member (zero, b, e) =
        let at : 0 ≡ o.at = ap (λ (o : Object). o.at) e in
        let refs : 1 ≡ o.refs = ap (λ (o : Object). o.refs) e in
        let one : p ≡ 1 = omega (arith, s.0, s.1, at, refs) in
        subst (λ p. IsReference dead_owner (word dead_owner p)) (sym one) (inr (object_at dead_owner 16, has16, refl))
    of_member (suc zero, b, e) =
        let at : 16 ≡ o.at = ap (λ (o : Object). o.at) e in
        let refs : 0 ≡ o.refs = ap (λ (o : Object). o.refs) e in
        absurd (omega (arith, s.0, s.1, at, refs))
    of_member (suc (suc k), b, e) = absurd (omega (arith, b))

pins5 : (r : ℕ) → MayBePinned dead_owner r
pins5 zero t = refl
pins5 (suc zero) t = refl
pins5 (suc (suc zero)) t = absurd (let clash : false ≡ true = t in cc)
pins5 (suc (suc (suc zero))) t = absurd (let clash : false ≡ true = t in cc)
pins5 (suc (suc (suc (suc r)))) t = absurd (let clash : false ≡ true = t in cc)

pub dead_owner_is_valid : IsValid dead_owner
dead_owner_is_valid = record {
  limits = record {
    w_power = (4, refl);
    w_least = lit≤ tt;
    w_most = lit≤ tt;
    k_power = (2, refl);
    k_least = lit≤ tt;
    k_most = lit≤ tt;
    k_in_w = lit≤ tt;
    n_least = lit≤ tt;
    n_most = lit≤ tt;
    words_most = lit≤ tt;
  };
  word_count = refl;
  word_fits = all_from_in (λ x. x < 2 ^ 64) dead_owner.words (λ x i. ltb-true x (2 ^ 64) (all_members (λ x. ltb x (2 ^ 64)) dead_owner.words refl x i));
  region_count = refl;
  root_count = lit≤ tt;
  shaped = shaped5;
  pins = λ r lt. pins5 r;
  zero_above = zero5;
  roots = λ k d lt. absurd (omega arith);
  slots = slots5;
  current_in = tt;
}

sets5 : (r : ℕ) → r < 4 → IsRememberedSet dead_owner r (remembered_of dead_owner_image r)
sets5 zero lt = record { rising = λ k lt. absurd (omega arith); elsewhere = λ k d lt. absurd (omega arith); count = lit< tt; owner = λ lt. tt }
sets5 (suc zero) lt =
    record {
      rising = λ k lt. absurd (omega arith);
      elsewhere = All-from_recursion (λ c. IsUsedCard dead_owner c × (region_of_card dead_owner c ≢ 1)) (0 ∷ []) ((record { in_heap = lit< tt; used = λ e. cc }, λ e. cc), tt);
      count = lit< tt;
      owner = λ lt. tt;
    }
sets5 (suc (suc zero)) lt = record { rising = λ k lt. absurd (omega arith); elsewhere = λ k d lt. absurd (omega arith); count = lit< tt; owner = λ lt. absurd (omega arith) }
sets5 (suc (suc (suc zero))) lt = record { rising = λ k lt. absurd (omega arith); elsewhere = λ k d lt. absurd (omega arith); count = lit< tt; owner = λ lt. absurd (omega arith) }
sets5 (suc (suc (suc (suc r)))) lt = absurd (omega arith)

pub dead_owner_is_image : IsImage dead_owner_image
dead_owner_is_image = record {
  heap = dead_owner_is_valid;
  one_each = refl;
  remembered = sets5;
  log = record { used = λ k d lt. absurd (omega arith); distinct = λ i j d lt len. absurd (omega arith); count = lit< tt };
}
