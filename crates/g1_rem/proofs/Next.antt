-- The next object of a region, by the list of starts.
use Rattle.std.proofs.Common.{◌≡◌, ◌<◌, ◌≤◌, ℕ, suc, ◌+◌, ◌*◌, ◌%◌, ◌^◌, List, ◌∷◌, length, slice_index, get_or, map, drop, arith, sym, ap, ◌∙◌}
use Rattle.std.proofs.lemmas.List.{length-map, get_or-map, get_or_default}
use Rattle.std.proofs.Math.Seq.{drop-cons}
use Rattle.g1_words.specs.declared.object.Object.{Object}
use Rattle.g1_words.specs.Heap.{Heap, word, objects, objects_in, object_at}
use Rattle.g1_words.specs.Valid.{HasObject, IsValid}
use Rattle.g1_words.proofs.Computed.{in_region_has, has_contains}
use Rattle.g1_words.proofs.Sound.{has_is}
use Rattle.g1_rem.proofs.Order.{Chain-above, objects_chain, object_fits}

-- the next object of a region
pub record NextOf (h : Heap) (r j at : ℕ) : Type 0 where
  pub object : Object
  pub at_is : at ≡ object.at
  pub whole : object ≡ object_at h at
  pub ends : at + object.size ≤ h.geometry.n * h.geometry.w
  pub refs_is : object.refs ≡ word h at % 2 ^ 32
  pub splits : drop j (objects_in h r) ≡ object ∷ drop (j + 1) (objects_in h r)
  pub has : HasObject h object
  pub fits : at + 1 + object.refs ≤ h.geometry.n * h.geometry.w

-- the address of a listed object
at_of : (os : List Object) (j : ℕ) (d : Object) → j < length os → slice_index (map (λ o. o.at) os) j ≡ (get_or os j d).at
at_of os j d lt = get_or-map (λ (o : Object). o.at) os j d 0 lt

-- the object at a place of the list
pub next_of : (h : Heap) (r j at : ℕ) (starts : List ℕ) → IsValid h → r < h.geometry.n → starts ≡ map (λ o. o.at) (objects_in h r) → j < length starts → at ≡ slice_index starts j → NextOf h r j at
next_of h r j at starts valid lt e in_starts f =
    let d : Object = record { at = 0; size = 0; refs = 0 } in
    let os : List Object = objects_in h r in
    let len : length starts ≡ length os = ap length e ∙ length-map os (λ o. o.at) in
    let inside : j < length os = omega (arith, in_starts, len) in
    let o : Object = get_or os j d in
    let has : HasObject h o = in_region_has h r o valid.shaped lt (j, inside, get_or_default os j o d inside) in
    let mine = has_contains h o has in
    let at_is : at ≡ o.at = f ∙ ap (λ l. slice_index l j) e ∙ at_of os j d inside in
    let whole : o ≡ object_at h at = has_is h o valid has ∙ ap (object_at h) (sym at_is) in
    let c = Chain-above 0 (objects h) o (objects_chain h valid) mine in
    let plus : suc j ≡ j + 1 = omega arith in
    record {
      object = o;
      at_is = at_is;
      whole = whole;
      ends = omega (arith, object_fits h valid o mine, at_is);
      refs_is = ap (λ (q : Object). q.refs) whole;
      splits = drop-cons os j d inside ∙ ap (λ m. get_or os j d ∷ drop m os) plus;
      has = has;
      fits = omega (arith, object_fits h valid o mine, c.1, at_is);
    }
