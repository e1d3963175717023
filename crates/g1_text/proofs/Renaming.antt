-- Two heaps that carry graphs by name show one graph exactly if the graphs are the same by name.
use Rattle.std.proofs.Common.{◌≡◌, ℕ, suc, ◌+◌, ◌-◌, ◌*◌, ◌/◌, ◌%◌, ◌^◌, inl, inr, List, [], ◌∷◌, ◌++◌, length, get_or, map, drop, refl, sym, ◌∙◌, ap, subst, arith}
use Rattle.std.specs.Prelude.{Option, Contains}
use Rattle.std.specs.List.{AllZip, range_with_len}
use Rattle.std.proofs.lemmas.List.{map-append, length-map}
use Rattle.std.proofs.lemmas.List.FromFn.{length-range_with_len}
use Rattle.std.proofs.lemmas.Slice.Zip.{AllZip-long}
use Rattle.g1_words.specs.Heap.{Heap, word, object_at, objects}
use Rattle.g1_words.specs.Valid.{IsValid}
use Rattle.g1_words.specs.Live.{Live}
use Rattle.g1_words.specs.Copy.{renamed, words_at, IsCopy}
use Rattle.g1_words.specs.Graph.{SameGraph}
use Rattle.g1_words.specs.declared.object.Object.{Object}
use Rattle.g1_words.proofs.Computed.{has_contains, contains_has}
use Rattle.g1_words.proofs.Lists.{range_split}
use Rattle.g1_text.specs.Forms.{StandsFor}
use Rattle.g1_text.specs.Graphs.{NamedObject, NamedRoot, NamedGraph, size_of}
use Rattle.g1_text.specs.Carried.{word_for, root_value, Carries}
use Rattle.g1_text.specs.Renamed.{HasOwnNames, IsReached, Match, StandForOne, IsRenamed, SameByName}
use Rattle.g1_text.specs.Laws.{SameCarried, SameWhereverPlaced}
use Rattle.g1_text.proofs.Carrying.{heap_object}
use Rattle.g1_text.proofs.Fields.{fronts_one}
use Rattle.g1_text.proofs.HeapWords.{zip_weaker}
use Rattle.g1_text.proofs.OneValue.{one_value}
use Rattle.g1_text.proofs.NamedObjects as named

-- TWO LISTS, element by element
zip_from_maps : {A B : Type 0} (f : A → ℕ) (k : B → ℕ) (v : ℕ → ℕ) (xs : List A) (ys : List B) → map k ys ≡ map v (map f xs) → AllZip (λ x y. k y ≡ v (f x)) xs ys
zip_from_maps f k v [] [] e = tt
zip_from_maps f k v [] (y ∷ ys) e = let l = ap length e in absurd (omega (arith, l))
zip_from_maps f k v (x ∷ xs) [] e = let l = ap length e in absurd (omega (arith, l))
zip_from_maps f k v (x ∷ xs) (y ∷ ys) e = (ap (λ l. get_or l 0 0) e, zip_from_maps f k v xs ys (ap (drop 1) e))

maps_from_zip : {A B : Type 0} (f : A → ℕ) (k : B → ℕ) (v : ℕ → ℕ) (xs : List A) (ys : List B) → AllZip (λ x y. k y ≡ v (f x)) xs ys → map k ys ≡ map v (map f xs)
maps_from_zip f k v [] [] all = refl
maps_from_zip f k v [] (y ∷ ys) all = elim all [ ]
maps_from_zip f k v (x ∷ xs) [] all = elim all [ ]
maps_from_zip f k v (x ∷ xs) (y ∷ ys) all = let first = all.0 in let rest = maps_from_zip f k v xs ys all.1 in λ i. first i ∷ rest i

-- each element with itself
zip_self : {A : Type 0} (R : A → A → Type 0) (xs : List A) → ((x : A) → R x x) → AllZip R xs xs
zip_self R [] f = tt
zip_self R (x ∷ xs) f = (f x, zip_self R xs f)

-- the same numbers
stand_for_one : (vs : List ℕ) (ws us : List (List ℕ)) → AllZip StandsFor vs ws → AllZip StandsFor vs us → AllZip StandForOne ws us
stand_for_one [] [] [] p q = tt
stand_for_one [] [] (u ∷ us) p q = elim q [ ]
stand_for_one [] (w ∷ ws) us p q = elim p [ ]
stand_for_one (v ∷ vs) [] us p q = elim p [ ]
stand_for_one (v ∷ vs) (w ∷ ws) [] p q = elim q [ ]
stand_for_one (v ∷ vs) (w ∷ ws) (u ∷ us) p q = ((v, p.0, q.0), stand_for_one vs ws us p.1 q.1)

one_each : (vs us : List ℕ) (ws zs : List (List ℕ)) → AllZip StandsFor vs ws → AllZip StandsFor us zs → AllZip StandForOne ws zs → us ≡ vs
one_each [] [] ws zs p q r = refl
one_each [] (u ∷ us) [] [] p q r = elim q [ ]
one_each [] (u ∷ us) [] (z ∷ zs) p q r = elim r [ ]
one_each [] (u ∷ us) (w ∷ ws) zs p q r = elim p [ ]
one_each (v ∷ vs) us [] zs p q r = elim p [ ]
one_each (v ∷ vs) us (w ∷ ws) [] p q r = elim r [ ]
one_each (v ∷ vs) [] (w ∷ ws) (z ∷ zs) p q r = elim q [ ]
one_each (v ∷ vs) (u ∷ us) (w ∷ ws) (z ∷ zs) p q r =
    let first : u ≡ v = one_value u r.0.0 z q.0 r.0.2 ∙ one_value r.0.0 v w r.0.1 p.0 in
    let rest = one_each vs us ws zs p.1 q.1 r.1 in
    λ i. first i ∷ rest i

-- an object's words: its header, its slots and its data words
words_of : (h : Heap) (at n m : ℕ) → words_at h at (n + m + 1) ≡ word h at ∷ (words_at h (at + 1) n ++ words_at h (at + 1 + n) m)
words_of h at n m =
    let size : n + m + 1 ≡ suc (n + m) = omega arith in
    ap (words_at h at) size ∙ ap (λ ws. word h at ∷ ws) (ap (map (word h)) (range_split (at + 1) n m) ∙ map-append (word h) (range_with_len (at + 1) n) (range_with_len (at + 1 + n) m))

length_words : (h : Heap) (at n : ℕ) → length (words_at h at n) ≡ n
length_words h at n = length-map (range_with_len at n) (word h) ∙ length-range_with_len at n

module _ (g h : NamedGraph) (ats bts : List ℕ) (x y : Heap) (own : HasOwnNames g) (other_own : HasOwnNames h) (valid : IsValid x) (other_valid : IsValid y) (carries : Carries g ats x)
    (other_carries : Carries h bts y) where
  abbrev Stands : NamedObject → ℕ → Type 0
  Stands o a = named.Stands g ats x own valid carries o a

  abbrev OtherStands : NamedObject → ℕ → Type 0
  OtherStands p b = named.Stands h bts y other_own other_valid other_carries p b

  -- the words of a copy, piece by piece
  record IsCopied (f : ℕ → ℕ) (o p : NamedObject) (a : ℕ) : Type 0 where
    slot_count : length p.slots ≡ length o.slots
    word_count : length p.written ≡ length o.written
    slots : map (word_for h bts) p.slots ≡ map (renamed f) (map (word_for g ats) o.slots)
    data_words : words_at y (f a + 1 + length o.slots) (length o.written) ≡ words_at x (a + 1 + length o.slots) (length o.written)

  copied : (f : ℕ → ℕ) (o p : NamedObject) (a : ℕ) → Stands o a → OtherStands p (f a) → IsCopy f x y (heap_object (o, a)) → IsCopied f o p a
  copied f o p a i j copy =
      let here = named.is_at g ats x own valid carries o a i in
      let there = named.is_at h bts y other_own other_valid other_carries p (f a) j in
      let n : ℕ = length o.slots in
      let m : ℕ = length o.written in
      let left : size_of o - 1 - n ≡ m = omega arith in
      let whole = sym (words_of y (f a) n m) ∙ copy ∙ ap (λ k. word x a ∷ (map (renamed f) (words_at x (a + 1) n) ++ words_at x (a + 1 + n) k)) left in
      let header : word y (f a) ≡ word x a = ap (λ ws. get_or ws 0 0) whole in
      let size : size_of p ≡ size_of o = ap (λ (q : Object). q.size) there ∙ ap (λ w. w / 2 ^ 32) header ∙ sym (ap (λ (q : Object). q.size) here) in
      let slots : length p.slots ≡ n = ap (λ (q : Object). q.refs) there ∙ ap (λ w. w % 2 ^ 32) header ∙ sym (ap (λ (q : Object). q.refs) here) in
      let count : length (words_at y (f a + 1) n) ≡ length (map (renamed f) (words_at x (a + 1) n)) = length_words y (f a + 1) n ∙ sym (length-map (words_at x (a + 1) n) (renamed f) ∙ length_words x (a + 1) n) in
      let parts = fronts_one (words_at y (f a + 1) n) (map (renamed f) (words_at x (a + 1) n)) (words_at y (f a + 1 + n) m) (words_at x (a + 1 + n) m) count (ap (drop 1) whole) in
      record {
        slot_count = slots;
        word_count = omega (arith, size, slots);
        slots = sym (named.stands_at h bts y other_own other_valid other_carries p (f a) j).slots ∙ ap (words_at y (f a + 1)) slots ∙ parts.0 ∙ ap (map (renamed f)) (named.stands_at g ats x own valid carries o a i).slots;
        data_words = parts.1;
      }

  copy_from : (f : ℕ → ℕ) (o p : NamedObject) (a : ℕ) → Stands o a → OtherStands p (f a) → IsCopied f o p a → IsCopy f x y (heap_object (o, a))
  copy_from f o p a i j c =
      let here = named.header_at g ats x own valid carries o a i in
      let there = named.header_at h bts y other_own other_valid other_carries p (f a) j in
      let n : ℕ = length o.slots in
      let m : ℕ = length o.written in
      let slots = c.slot_count in
      let values = c.word_count in
      let left : m ≡ size_of o - 1 - n = omega arith in
      let size : size_of p ≡ size_of o = omega (arith, slots, values) in
      let header : word y (f a) ≡ word x a = there.header ∙ (λ t. size t * 2 ^ 32 + slots t) ∙ sym here.header in
      let references : words_at y (f a + 1) n ≡ map (renamed f) (words_at x (a + 1) n) =
      ap (words_at y (f a + 1)) (sym slots) ∙ (named.stands_at h bts y other_own other_valid other_carries p (f a) j).slots ∙ c.slots
      ∙ ap (map (renamed f)) (sym (named.stands_at g ats x own valid carries o a i).slots) in
      words_of y (f a) n m ∙ (λ t. header t ∷ (references t ++ c.data_words t)) ∙ ap (λ k. word x a ∷ (map (renamed f) (words_at x (a + 1) n) ++ words_at x (a + 1 + n) k)) left

  -- HEAPS THAT SHOW ONE GRAPH carry graphs that are the same by name
  module _ (s : SameGraph x y) where
    new_name : List ℕ → List ℕ
    new_name name = named.name_at h bts y other_own other_valid other_carries (s.rename (named.address_of g ats x own valid carries name))

    renames : (o p : NamedObject) (a : ℕ) → Stands o a → OtherStands p (s.rename a) → new_name o.name ≡ p.name
    unfolding new_name
    renames o p a i j = ap (λ b. named.name_at h bts y other_own other_valid other_carries (s.rename b)) (named.address_is g ats x own valid carries o a i) ∙ named.name_is h bts y other_own other_valid other_carries p (s.rename a) j

    copy_of : (a : ℕ) → Live x a → (p : NamedObject) × OtherStands p (s.rename a)
    copy_of a live = named.no_other h bts y other_own other_valid other_carries (object_at y (s.rename a)) (contains_has y (object_at y (s.rename a)) other_valid.shaped (s.stands a live))

    one_to_one : (o p : NamedObject) → IsReached g o → IsReached g p → new_name o.name ≡ new_name p.name → o.name ≡ p.name
    one_to_one o p r q e =
        let a = named.reached_live g ats x own valid carries o r in
        let b = named.reached_live g ats x own valid carries p q in
        let i = copy_of a.0 a.2 in
        let j = copy_of b.0 b.2 in
        let names : i.0.name ≡ j.0.name = sym (renames o i.0 a.0 a.1 i.1) ∙ e ∙ renames p j.0 b.0 b.1 j.1 in
        let addresses = named.one_by_name h bts y other_own other_valid other_carries i.0 j.0 (s.rename a.0) (s.rename b.0) i.1 j.1 names in
        named.one_by_address g ats x own valid carries o p a.0 b.0 a.1 b.1 (s.one_to_one a.0 b.0 a.2 b.2 addresses)

    matches : (t u : Option (List ℕ)) → word_for h bts u ≡ renamed s.rename (word_for g ats t) → Match new_name g h t u
    matches t u e = elim (named.target_cases g ats x own valid carries t) [
      | inl c ↦ (let zero_there : word_for h bts u ≡ 0 = e ∙ ap (renamed s.rename) c.1 in elim (named.target_cases h bts y other_own other_valid other_carries u) [
        | inl d ↦ inl (c.0, d.0)
        | inr d ↦ (let some = d.4 in absurd (omega (arith, zero_there, some)))
      ])
      | inr c ↦ (let there : word_for h bts u ≡ suc (s.rename c.1) = e ∙ ap (renamed s.rename) c.4 in elim (named.target_cases h bts y other_own other_valid other_carries u) [
        | inl d ↦ (let none = d.1 in absurd (omega (arith, there, none)))
        | inr d ↦ (let some = d.4 in let same : d.1 ≡ s.rename c.1 = omega (arith, there, some) in inr (c.0, d.0, c.3, d.3, renames c.0 d.0 c.1 c.2 (subst (OtherStands d.0) same d.2)))
      ])
    ]

    new_object : (o : NamedObject) → IsReached g o → (p : NamedObject) × Contains h.objects p × IsRenamed new_name g h o p
    new_object o r =
        let a = named.reached_live g ats x own valid carries o r in
        let c = copy_of a.0 a.2 in
        let p : NamedObject = c.0 in
        let copy : IsCopy s.rename x y (heap_object (o, a.0)) = subst (IsCopy s.rename x y) (sym (named.is_at g ats x own valid carries o a.0 a.1)) (s.copies a.0 a.2) in
        let k = copied s.rename o p a.0 a.1 c.1 copy in
        let values : AllZip StandsFor (words_at x (a.0 + 1 + length o.slots) (length o.written)) p.written =
        subst (λ ws. AllZip StandsFor ws p.written) ((λ t. words_at y (s.rename a.0 + 1 + k.slot_count t) (k.word_count t)) ∙ k.data_words) (named.stands_at h bts y other_own other_valid other_carries p (s.rename a.0) c.1).data_words in (
          p,
          named.is_among h bts y other_own other_valid other_carries p (s.rename a.0) c.1,
          record {
            name = renames o p a.0 a.1 c.1;
            slots = zip_weaker (λ t u. word_for h bts u ≡ renamed s.rename (word_for g ats t)) (Match new_name g h) matches o.slots p.slots
                (zip_from_maps (word_for g ats) (word_for h bts) (renamed s.rename) o.slots p.slots k.slots);
            data_words = stand_for_one (words_at x (a.0 + 1 + length o.slots) (length o.written)) o.written p.written (named.stands_at g ats x own valid carries o a.0 a.1).data_words values;
          },
        )

    pub by_name : SameByName g h
    by_name = record {
      rename = new_name;
      one_to_one = one_to_one;
      roots = zip_weaker (λ (r q : NamedRoot). root_value h bts q ≡ renamed s.rename (root_value g ats r)) (λ r q. Match new_name g h r.target q.target) (λ r q e. matches r.target q.target e) g.roots h.roots
          (zip_from_maps (root_value g ats) (root_value h bts) (renamed s.rename) g.roots h.roots (sym other_carries.roots ∙ s.roots ∙ ap (map (renamed s.rename)) carries.roots));
      objects = new_object;
    }

  -- GRAPHS THAT ARE THE SAME BY NAME are carried by heaps that show one graph
  module _ (s : SameByName g h) where
    new_address : ℕ → ℕ
    new_address a = named.address_of h bts y other_own other_valid other_carries (s.rename (named.name_at g ats x own valid carries a))

    moves : (o p : NamedObject) (a b : ℕ) → Stands o a → OtherStands p b → s.rename o.name ≡ p.name → new_address a ≡ b
    unfolding new_address
    moves o p a b i j e =
        ap (λ name. named.address_of h bts y other_own other_valid other_carries (s.rename name)) (named.name_is g ats x own valid carries o a i)
        ∙ ap (named.address_of h bts y other_own other_valid other_carries) e ∙ named.address_is h bts y other_own other_valid other_carries p b j

    -- the object with the new name
    record IsMoved (a : ℕ) : Type 0 where
      before : NamedObject
      after : NamedObject
      stands : Stands before a
      there : OtherStands after (new_address a)
      is_reached : IsReached g before
      is_renamed : IsRenamed s.rename g h before after

    moved : (a : ℕ) → Live x a → IsMoved a
    moved a live =
        let o = named.reached g ats x own valid carries a live in
        let p = s.objects o.0 o.2 in
        let b = named.its_address h bts y other_own other_valid other_carries p.0 p.1 in
        record {
          before = o.0;
          after = p.0;
          stands = o.1;
          there = subst (OtherStands p.0) (sym (moves o.0 p.0 a b.0 o.1 b.1 p.2.name)) b.1;
          is_reached = o.2;
          is_renamed = p.2;
        }

    apart : (a b : ℕ) → Live x a → Live x b → new_address a ≡ new_address b → a ≡ b
    apart a b la lb e =
        let p = moved a la in
        let q = moved b lb in
        let names : p.after.name ≡ q.after.name = named.one_by_address h bts y other_own other_valid other_carries p.after q.after (new_address a) (new_address b) p.there q.there e in
        named.one_by_name g ats x own valid carries p.before q.before a b p.stands q.stands
        (s.one_to_one p.before q.before p.is_reached q.is_reached (p.is_renamed.name ∙ names ∙ sym q.is_renamed.name))

    matched : (t u : Option (List ℕ)) → Match s.rename g h t u → word_for h bts u ≡ renamed new_address (word_for g ats t)
    matched t u (inl m) = named.no_word h bts y other_own other_valid other_carries u m.1 ∙ ap (renamed new_address) (sym (named.no_word g ats x own valid carries t m.0))
    matched t u (inr (o, p, l, m, e)) =
        let a = named.its_address g ats x own valid carries o l.0 in
        let b = named.its_address h bts y other_own other_valid other_carries p m.0 in
        named.word_of h bts y other_own other_valid other_carries u p b.0 m b.1 ∙ ap suc (sym (moves o p a.0 b.0 a.1 b.1 e)) ∙ ap (renamed new_address) (sym (named.word_of g ats x own valid carries t o a.0 l a.1))

    its_copy : (a : ℕ) → Live x a → IsCopy new_address x y (object_at x a)
    its_copy a live =
        let c = moved a live in
        let o : NamedObject = c.before in
        let p : NamedObject = c.after in
        let slots : length p.slots ≡ length o.slots = AllZip-long (Match s.rename g h) o.slots p.slots c.is_renamed.slots in
        let values : length p.written ≡ length o.written = AllZip-long StandForOne o.written p.written c.is_renamed.data_words in
        let written : AllZip StandsFor (words_at y (new_address a + 1 + length o.slots) (length o.written)) p.written =
        subst (λ ws. AllZip StandsFor ws p.written) (λ t. words_at y (new_address a + 1 + slots t) (values t)) (named.stands_at h bts y other_own other_valid other_carries p (new_address a) c.there).data_words in
        subst (IsCopy new_address x y) (named.is_at g ats x own valid carries o a c.stands) (copy_from new_address o p a c.stands c.there (record {
          slot_count = slots;
          word_count = values;
          slots = maps_from_zip (word_for g ats) (word_for h bts) (renamed new_address) o.slots p.slots
              (zip_weaker (Match s.rename g h) (λ t u. word_for h bts u ≡ renamed new_address (word_for g ats t)) matched o.slots p.slots c.is_renamed.slots);
          data_words = one_each (words_at x (a + 1 + length o.slots) (length o.written)) (words_at y (new_address a + 1 + length o.slots) (length o.written)) o.written p.written
              (named.stands_at g ats x own valid carries o a c.stands).data_words written c.is_renamed.data_words;
        }))

    there : (a : ℕ) → Live x a → Contains (objects y) (object_at y (new_address a))
    there a live =
        let c = moved a live in
        subst (Contains (objects y)) (named.is_at h bts y other_own other_valid other_carries c.after (new_address a) c.there)
        (has_contains y (heap_object (c.after, new_address a)) (named.stands_at h bts y other_own other_valid other_carries c.after (new_address a) c.there).object)

    pub same_graph : SameGraph x y
    same_graph = record {
      rename = new_address;
      one_to_one = apart;
      roots = other_carries.roots ∙ maps_from_zip (root_value g ats) (root_value h bts) (renamed new_address) g.roots h.roots
          (zip_weaker (λ (r q : NamedRoot). Match s.rename g h r.target q.target) (λ r q. root_value h bts q ≡ renamed new_address (root_value g ats r)) (λ r q m. matched r.target q.target m) g.roots h.roots s.roots)
          ∙ ap (map (renamed new_address)) (sym carries.roots);
      stands = there;
      copies = its_copy;
    }

-- THE LAWS
pub same_carried : SameCarried
same_carried g h ats bts x y own other_own valid other_valid carries other_carries =
    (by_name g h ats bts x y own other_own valid other_valid carries other_carries, same_graph g h ats bts x y own other_own valid other_valid carries other_carries)

-- a graph that a heap carries is itself by name
itself : (g : NamedGraph) (ats : List ℕ) (x : Heap) → HasOwnNames g → IsValid x → Carries g ats x → SameByName g g
itself g ats x own valid carries = record {
  rename = λ name. name;
  one_to_one = λ o p r q e. e;
  roots = zip_self (λ r q. Match (λ name. name) g g r.target q.target) g.roots (λ r. matches r.target);
  objects = λ o r.
      let a = named.reached_live g ats x own valid carries o r in
      let values = (named.stands_at g ats x own valid carries o a.0 a.1).data_words in (
        o,
        named.is_among g ats x own valid carries o a.0 a.1,
        record {
          name = refl;
          slots = zip_self (Match (λ name. name) g g) o.slots matches;
          data_words = stand_for_one (words_at x (a.0 + 1 + length o.slots) (length o.written)) o.written o.written values values;
        },
      );
}
  where
    matches : (t : Option (List ℕ)) → Match (λ name. name) g g t t
    matches t = elim (named.target_cases g ats x own valid carries t) [
      | inl c ↦ inl (c.0, c.0)
      | inr c ↦ inr (c.0, c.0, c.3, c.3, refl)
    ]

pub same_wherever_placed : SameWhereverPlaced
same_wherever_placed g ats bts x y own valid other_valid carries other_carries =
    (same_carried g g ats bts x y own own valid other_valid carries other_carries).1 (itself g ats x own valid carries)
