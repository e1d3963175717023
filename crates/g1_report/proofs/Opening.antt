-- What the side of lines shows.
use Rattle.std.proofs.Common.{◌≡◌, ℕ, ◌+◌, List, [], ◌∷◌, ◌++◌, map, refl, sym, ◌∙◌, ap, subst, inl, inr, arith}
use Rattle.std.specs.Prelude.{Option, Some, None}
use Rattle.g1_words.specs.declared.limits.Limits.TheVariants.{Wide}
use Rattle.g1_words.specs.declared.fault.Fault.{Fault}
use Rattle.g1_image.specs.Image.{IsTextWithin}
use Rattle.g1_image.specs.Faults.{FaultWithin, MayFailWithin}
use Rattle.g1_text.specs.Graphs.{NamedGraph, NamedRoot, SaysGraph}
use Rattle.g1_text.specs.ByName.{read_holder, holder_of, holders_from}
use Rattle.g1_text.specs.Carried.{Carries, AreListed, HoldsGraph, named_at}
use Rattle.g1_text.specs.declared.named.Graph.{Graph}
use Rattle.g1_text.specs.declared.expected.Wrong.TheVariants.{Fault as OfFault}
use Rattle.g1_report.specs.declared.sides.Side.{Side}
use Rattle.g1_report.specs.Wording.{Called}
use Rattle.g1_report.specs.Answer.{labels_of, IsByNumber}
use Rattle.g1_report.specs.Opened.{AreNamesOf, IsNoText, ShowsText}
use Rattle.g1_report.proofs.InOrder.{RisesFrom, rises_lower, rising, of_numbers, of_pairs}

fused : {X Y Z : Type 0} (f : X → Y) (g : Y → Z) (xs : List X) → map g (map f xs) ≡ map (λ x. g (f x)) xs
fused f g [] = refl
fused f g (x ∷ xs) = ap (λ zs. g (f x) ∷ zs) (fused f g xs)

abbrev number : {X : Type 0} → ℕ × X → ℕ
number e = e.0

-- names that were read are in order if their list is
in_order : (names : Called) (l : List (ℕ × List ℕ)) → map read_holder names ≡ l → RisesFrom 0 l → IsByNumber names
in_order names l e r = rising 0 names (of_numbers 0 names l (sym (fused read_holder number names) ∙ ap (map number) e) r)

pub labels_in_order : (g : NamedGraph) (ats : List ℕ) (names : Called) (roots slots : List (ℕ × List ℕ)) → AreListed g ats (map read_holder names) roots slots → IsByNumber names
labels_in_order g ats names roots slots a =
    rising 0 names (of_numbers 0 names (map (λ o. (o.1, o.0)) a.by_address)
    (sym (fused read_holder number names) ∙ ap (map number) a.names ∙ fused named_at number a.by_address ∙ sym (fused (λ o. (o.1, o.0)) number a.by_address))
    (of_pairs 0 a.by_address a.rising (λ i d lt. omega arith)))

held : (n : ℕ) (h : Option (List ℕ)) (rest : List (ℕ × List ℕ)) → RisesFrom (n + 1) rest → RisesFrom n (holder_of n h ++ rest)
held n None rest r = rises_lower n (n + 1) rest (omega arith) r
held n (Some holder) rest r = (omega arith, rises_lower n (n + 1) rest (omega arith) r)

holders_rise : (n : ℕ) (roots : List NamedRoot) → RisesFrom n (holders_from n roots)
holders_rise n [] = tt
holders_rise n (r ∷ roots) = held n r.holder (holders_from (n + 1) roots) (holders_rise (n + 1) roots)

pub holders_in_order : (names : Called) (roots : List NamedRoot) → map read_holder names ≡ holders_from 0 roots → IsByNumber names
holders_in_order names roots e = in_order names (holders_from 0 roots) e (holders_rise 0 roots)

-- the fault of the bytes that hold a graph
pub faulty : (text bytes : List ℕ) (r : Graph) (g : NamedGraph) (f : Fault) → SaysGraph text g → HoldsGraph g r → bytes ≡ r.text.items → MayFailWithin Wide bytes f → IsNoText text (OfFault f)
faulty text bytes r g f says holds are (inl e) = inl e
faulty text bytes r g f says holds are (inr w) = inr (record { graph = g; says = says; holder = r; holds = holds; fault = subst (λ xs. FaultWithin Wide xs f) are w })

pub shown : (text bytes : List ℕ) (r : Graph) (s : Side) (g k : NamedGraph) → g ≡ k → SaysGraph text g → HoldsGraph g r → map read_holder r.root_names.items ≡ holders_from 0 k.roots
    → bytes ≡ r.text.items → IsTextWithin Wide bytes s.image → labels_of s ≡ Some r.names.items → s.holders.items ≡ r.root_names.items → (s.stale ≡ None → r.first_stale ≡ None) → ShowsText text s
shown text bytes r s g k one says h holders are image labels held none =
    let given : IsTextWithin Wide r.text.items s.image = subst (λ xs. IsTextWithin Wide xs s.image) are image in
    record {
      graph = g;
      says = says;
      ats = h.ats;
      bytes = r.text.items;
      image = given;
      carries = subst (Carries g h.ats) (sym (h.image s.image given)) h.carries;
      labels = subst (AreNamesOf g h.ats) (sym labels) (_, _, h.listed);
      holders = ap (map read_holder) held ∙ holders ∙ ap (λ (g : NamedGraph). holders_from 0 g.roots) (sym one);
      named = λ e. h.noted (none e);
    }
