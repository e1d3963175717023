-- After a pause the roots read the same graph, and nothing leads into the set.
use Rattle.std.proofs.Common.{◌≡◌, ℕ, zero, suc, ◌+◌, ◌-◌, ◌<◌, inl, inr, true, false, not, ◌&&◌, List, [], ◌∷◌, ◌++◌, length, get_or, map, filter, flat_map, Contains, refl}
use Rattle.std.proofs.Common.{sym, ◌∙◌, ap, subst, arith, add-zero}
use Rattle.std.specs.List.{range_with_len}
use Rattle.std.proofs.lemmas.Bool.{and_from, cases_Bool, false≢true}
use Rattle.std.proofs.lemmas.List.{map-append, length-map, get_or-map, get_or_append_left}
use Rattle.std.proofs.lemmas.List.FromFn.{get_or-map-range_with_len, length-map-range_with_len}
use Rattle.std.proofs.lemmas.List.Elements.{Contains-append_left, Contains-append_right}
use Rattle.g1_words.specs.declared.region.Kind.TheVariants.{Free, Ordinary}
use Rattle.g1_words.specs.Lists.{has}
use Rattle.g1_words.specs.Heap.{Heap, kind, region_of, objects, object_at, slots, word}
use Rattle.g1_words.specs.References.{Ref, refs, refs_at, named, root_targets, targets}
use Rattle.g1_words.specs.Live.{Reached, seed, child, Live}
use Rattle.g1_words.specs.Survivors.{in_set, seeds, children}
use Rattle.g1_words.specs.Layout.{forward, kept, HasRoom}
use Rattle.g1_words.specs.Moves.{moved_object}
use Rattle.g1_image.specs.Image.{Image}
use Rattle.g1_words.specs.Copy.{renamed, words_at, renamed_words, IsCopy}
use Rattle.g1_after.specs.Moved.{IsMoved}
use Rattle.g1_words.specs.Graph.{SameGraph}
use Rattle.g1_words.proofs.Sound.{IsSound}
use Rattle.g1_words.proofs.Members.{Contains-flat_map, flat_map_cases, Contains-map, map_cases, Contains-filter, Contains-from_has}
use Rattle.g1_words.proofs.OneToOne.{target_in_refs, kept_cases, kept_object, forward_one_to_one, survivor_to_free, outside_stays}
use Rattle.g1_after.proofs.Determined.{word_from_copy}
use Rattle.g1_after.proofs.ToSpace.{object_copied}
use Rattle.g1_after.proofs.ObjectsOf.{kept_is_moved}
use Rattle.g1_words.specs.declared.object.Object.{Object}

-- what the roots reach is an object
pub live_object : (h : Heap) → IsSound h → (a : ℕ) → Live h a → Contains (objects h) (object_at h a)
live_object h sound a (seed c) = sound.root_named a c
live_object h sound b (child {a = a} r c) =
    let e = target_in_refs h [] (object_at h a) b (live_object h sound a r) c in
    subst (λ x. Contains (objects h) (object_at h x)) e.2 (sound.slot_named e.0 e.1)

module _ (h : Heap) (set l : List ℕ) (sound : IsSound h) (room : HasRoom h set l) where
  -- what an object outside the set names in the set is a seed
  pub named_from_outside : (o : Object) (b : ℕ) → Contains (objects h) o → in_set h set o.at ≡ false → Contains (flat_map (λ p. named (word h p)) (slots o)) b → in_set h set b ≡ true → Contains (seeds h set) b
  named_from_outside o b co out hb inb =
      let p = flat_map_cases (λ p. named (word h p)) (slots o) b hb in
      let e : Ref = record { slot = p.0; target = b } in
      let here : Contains (refs_at h p.0) e = Contains-map (λ a. record { slot = p.0; target = a }) (named (word h p.0)) b p.2 in
      let er : Contains (refs h) e = Contains-flat_map (λ o. flat_map (refs_at h) (slots o)) (objects h) o e co (Contains-flat_map (refs_at h) (slots o) p.0 e p.1 here) in
      let away : in_set h set p.0 ≡ false = elim (cases_Bool (in_set h set p.0)) [
        | inr f ↦ f
        | inl t ↦
            let k : kind h (region_of h p.0) ≡ Ordinary = room.ordinary (region_of h p.0) (Contains-from_has set (region_of h p.0) t) in
            let home : region_of h p.0 ≡ region_of h o.at = sound.slots_at_home o p.0 co p.1 k in
            absurd (false≢true (sym out ∙ ap (has set) (sym home) ∙ t))
      ] in
      let passes : (in_set h set b && not (in_set h set p.0)) ≡ true = and_from (in_set h set b) (not (in_set h set p.0)) inb (ap not away) in
      Contains-append_right (filter (in_set h set) (root_targets h)) (map (λ e. e.target) (filter (λ e. in_set h set e.target && not (in_set h set e.slot)) (refs h))) b
      (Contains-map (λ (e : Ref). e.target) (filter (λ e. in_set h set e.target && not (in_set h set e.slot)) (refs h)) e
      (Contains-filter (λ (e : Ref). in_set h set e.target && not (in_set h set e.slot)) (refs h) e er passes))

  -- what the roots reach in the set is found
  pub live_found : (a : ℕ) → Live h a → in_set h set a ≡ true → Reached (seeds h set) (children h set) a
  live_found a (seed c) t =
      seed (Contains-append_left (filter (in_set h set) (root_targets h))
      (map (λ e. e.target) (filter (λ e. in_set h set e.target && not (in_set h set e.slot)) (refs h))) a
      (Contains-filter (in_set h set) (root_targets h) a c t))
  live_found b (child {a = a} r c) t =
      elim (cases_Bool (in_set h set a)) [
        | inl ina ↦ child (live_found a r ina) (Contains-filter (in_set h set) (targets h a) b c t)
        | inr out ↦ seed (named_from_outside (object_at h a) b (live_object h sound a r) out c t)
      ]

  pub live_kept : (a : ℕ) → Live h a → Contains (kept h set l) (object_at h a)
  live_kept a r =
      elim (cases_Bool (in_set h set a)) [
        | inl t ↦ Contains-append_right (filter (λ o. not (in_set h set o.at)) (objects h)) (map (object_at h) l) (object_at h a)
            (Contains-map (object_at h) l a ((room.survivors.reached a).1 (live_found a r t)))
        | inr f ↦ Contains-append_left (filter (λ o. not (in_set h set o.at)) (objects h)) (map (object_at h) l) (object_at h a)
            (Contains-filter (λ (o : Object). not (in_set h set o.at)) (objects h) (object_at h a) (live_object h sound a r) (ap not f))
      ]

  -- what a kept object names in the set is a survivor
  pub named_survives : (o : Object) (b : ℕ) → Contains (kept h set l) o → Contains (flat_map (λ p. named (word h p)) (slots o)) b → in_set h set b ≡ true → Contains l b
  named_survives o b k hb t =
      (room.survivors.reached b).1 (elim (kept_cases h set l sound room o k) [
        | inl x ↦ seed (named_from_outside o b x.1 x.0 hb t)
        | inr x ↦ child ((room.survivors.reached x.0).0 x.1)
            (Contains-filter (in_set h set) (targets h x.0) b (subst (λ (z : Object). Contains (flat_map (λ p. named (word h p)) (slots z)) b) (sym x.2) hb) t)
      ])

  -- a new address is none in the set
  pub away_from_set : (b : ℕ) → (in_set h set b ≡ true → Contains l b) → in_set h set (forward h l b) ≡ false
  away_from_set b f =
      elim (cases_Bool (in_set h set b)) [
        | inr out ↦ ap (in_set h set) (outside_stays h set l sound room b out) ∙ out
        | inl t ↦ elim (cases_Bool (in_set h set (forward h l b))) [
          | inr out ↦ out
          | inl u ↦
              let one : kind h (region_of h (forward h l b)) ≡ Ordinary = room.ordinary (region_of h (forward h l b))
              (Contains-from_has set (region_of h (forward h l b)) u) in
              let none : kind h (region_of h (forward h l b)) ≡ Free = survivor_to_free h set l sound room b (f t) in
              let clash : Ordinary ≡ Free = sym one ∙ none in cc
        ]
      ]

-- ---- what the slots of a moved object name

named_renamed : (f : ℕ → ℕ) (x : ℕ) → named (renamed f x) ≡ map f (named x)
named_renamed f zero = refl
named_renamed f (suc a) = refl

targets_from : (f : ℕ → ℕ) (h j : Heap) (n x y : ℕ) → ((k : ℕ) → k < n → word j (x + k) ≡ renamed f (word h (y + k)))
    → flat_map (λ p. named (word j p)) (range_with_len x n) ≡ map f (flat_map (λ p. named (word h p)) (range_with_len y n))
targets_from f h j zero x y e = refl
targets_from f h j (suc n) x y e =
    let first : word j x ≡ renamed f (word h y) = subst (λ z. word j z ≡ renamed f (word h y)) (add-zero x) (subst (λ z. word j (x + 0) ≡ renamed f (word h z)) (add-zero y) (e 0 (omega arith))) in
    let rest : flat_map (λ p. named (word j p)) (range_with_len (x + 1) n) ≡ map f (flat_map (λ p. named (word h p)) (range_with_len (y + 1) n)) =
    targets_from f h j n (x + 1) (y + 1) (λ k lt.
    let a : x + suc k ≡ x + 1 + k = omega arith in
    let b : y + suc k ≡ y + 1 + k = omega arith in
    subst (λ z. word j z ≡ renamed f (word h (y + 1 + k))) a (subst (λ z. word j (x + suc k) ≡ renamed f (word h z)) b (e (suc k) (omega arith)))) in
    let head : named (word j x) ≡ map f (named (word h y)) = ap named first ∙ named_renamed f (word h y) in
    (λ t. head t ++ rest t) ∙ sym (map-append f (named (word h y)) (flat_map (λ p. named (word h p)) (range_with_len (y + 1) n)))

slot_words : (f : ℕ → ℕ) (h j : Heap) (o : Object) → IsCopy f h j o → o.refs < o.size → (k : ℕ) → k < o.refs → word j (f o.at + 1 + k) ≡ renamed f (word h (o.at + 1 + k))
slot_words f h j o copy fits k lt =
    let w : word j (f o.at + 1 + k) ≡ get_or (renamed_words f h o) (f o.at + 1 + k - f o.at) 0 = word_from_copy f h j o (f o.at + 1 + k) copy (omega arith) (omega arith) in
    let n : f o.at + 1 + k - f o.at ≡ suc k = omega arith in
    let len : length (words_at h (o.at + 1) o.refs) ≡ o.refs = length-map-range_with_len (word h) (o.at + 1) o.refs in
    let len' : length (map (renamed f) (words_at h (o.at + 1) o.refs)) ≡ o.refs = length-map (words_at h (o.at + 1) o.refs) (renamed f) ∙ len in
    w ∙ ap (λ m. get_or (renamed_words f h o) m 0) n
    ∙ get_or_append_left (map (renamed f) (words_at h (o.at + 1) o.refs)) (words_at h (o.at + 1 + o.refs) (o.size - 1 - o.refs)) 0 k (omega arith)
    ∙ get_or-map (renamed f) (words_at h (o.at + 1) o.refs) k 0 0 (omega arith)
    ∙ ap (renamed f) (get_or-map-range_with_len (word h) (o.at + 1) o.refs k (o.at + 1 + k) 0 lt refl)

-- the slots of a copy name what the object's slots name, renamed
pub copy_targets : (f : ℕ → ℕ) (h j : Heap) (o : Object) → IsCopy f h j o → o.refs < o.size
    → flat_map (λ p. named (word j p)) (range_with_len (f o.at + 1) o.refs) ≡ map f (flat_map (λ p. named (word h p)) (slots o))
copy_targets f h j o copy fits = targets_from f h j o.refs (f o.at + 1) (o.at + 1) (slot_words f h j o copy fits)

pub roots_renamed : (f : ℕ → ℕ) (xs : List ℕ) → flat_map named (map (renamed f) xs) ≡ map f (flat_map named xs)
roots_renamed f [] = refl
roots_renamed f (x ∷ xs) = (λ t. named_renamed f x t ++ roots_renamed f xs t) ∙ sym (map-append f (named x) (flat_map named xs))

module _ (i : Image) (set l : List ℕ) (j : Image) (sound : IsSound i.heap) (room : HasRoom i.heap set l) (moved : IsMoved i set l j) where
  pub no_root_into_set : (b : ℕ) → Contains (root_targets j.heap) b → in_set i.heap set b ≡ false
  no_root_into_set b c =
      let f : ℕ → ℕ = forward i.heap l in
      let e : root_targets j.heap ≡ map f (root_targets i.heap) = ap (flat_map named) moved.roots ∙ roots_renamed f i.heap.roots in
      let m = map_cases f (root_targets i.heap) b (subst (λ xs. Contains xs b) e c) in
      let away : in_set i.heap set (f m.0) ≡ false = away_from_set i.heap set l sound room m.0
      (λ t. (room.survivors.reached m.0).1 (live_found i.heap set l sound room m.0 (seed m.1) t)) in
      subst (λ x. in_set i.heap set x ≡ false) m.2 away

  pub no_slot_into_set : (o : Object) (b : ℕ) → Contains (kept i.heap set l) o
      → Contains (flat_map (λ p. named (word j.heap p)) (range_with_len (forward i.heap l o.at + 1) o.refs)) b → in_set i.heap set b ≡ false
  no_slot_into_set o b co c =
      let fits : o.refs < o.size = sound.slots_fit o (kept_object i.heap set l sound room o co) in
      let f : ℕ → ℕ = forward i.heap l in
      let e = copy_targets f i.heap j.heap o (moved.copies o co) fits in
      let m = map_cases f (flat_map (λ p. named (word i.heap p)) (slots o)) b (subst (λ xs. Contains xs b) e c) in
      let away : in_set i.heap set (f m.0) ≡ false = away_from_set i.heap set l sound room m.0
      (λ t. named_survives i.heap set l sound room o m.0 co m.1 t) in
      subst (λ x. in_set i.heap set x ≡ false) m.2 away

  -- what the roots reach stands where it was moved
  live_stands : (a : ℕ) → Live i.heap a → Contains (objects j.heap) (object_at j.heap (forward i.heap l a))
  live_stands a r =
      let k : Contains (kept i.heap set l) (object_at i.heap a) = live_kept i.heap set l sound room a r in
      let e : object_at j.heap (forward i.heap l a) ≡ moved_object (forward i.heap l) (object_at i.heap a) =
      object_copied i set l j sound room moved (object_at i.heap a) k (kept_object i.heap set l sound room (object_at i.heap a) k) refl in
      let there : Contains (objects j.heap) (moved_object (forward i.heap l) (object_at i.heap a)) =
      kept_is_moved i set l j sound room moved (object_at i.heap a) k in
      subst (λ (o : Object). Contains (objects j.heap) o) (sym e) there

  -- the graph read from the roots is the same
  pub same_graph : SameGraph i.heap j.heap
  same_graph = record {
    rename = forward i.heap l;
    one_to_one = λ a b ra rb q. forward_one_to_one i.heap set l sound room (object_at i.heap a) (object_at i.heap b)
        (live_kept i.heap set l sound room a ra) (live_kept i.heap set l sound room b rb) q;
    roots = moved.roots;
    stands = live_stands;
    copies = λ a r. moved.copies (object_at i.heap a) (live_kept i.heap set l sound room a r);
  }
