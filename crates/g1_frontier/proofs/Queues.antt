-- What one worker finds.
use Rattle.std.proofs.Common.{◌≡◌, ◌≤◌, ◌<◌, ℕ, ◌+◌, ◌*◌, ◌/◌, ◌^◌, inl, inr, Bool, true, false, cond, not, ◌||◌, eqb, eqb-true, eq-eqb, List, [], ◌∷◌, ◌++◌, filter, set, replicate}
use Rattle.std.proofs.Common.{flat_map, map, length, take, drop, get_or, Contains, refl, sym, ap, subst, ◌∙◌, arith, All, append_assoc, append-nil, length-append, length-set, get_or-set_same, get_or-set_other, true≢false}
use Rattle.std.proofs.lemmas.Bool.{cases_lt}
use Rattle.std.proofs.lemmas.Nat.{le-div}
use Rattle.std.proofs.lemmas.List.{map-append, take_more, flat_map_more, length-replicate, take-append-le}
use Rattle.std.proofs.lemmas.List.Folds.{flat_map-map}
use Rattle.std.proofs.lemmas.Grind.{flat_map-append}
use Rattle.std.proofs.lemmas.List.Elements.{All-append, All-cons, All-nil, Contains-append_cases}
use Rattle.g1_words.specs.Geometry.{most_words}
use Rattle.g1_words.specs.declared.object.Object.{Object}
use Rattle.g1_words.specs.Heap.{word, object_at, objects, slots}
use Rattle.g1_words.specs.Layout.{sizes_of}
use Rattle.g1_words.specs.Lists.{has}
use Rattle.g1_words.specs.Live.{Reached, seed, child}
use Rattle.g1_words.specs.References.{named}
use Rattle.g1_words.specs.Survivors.{Survivors, firsts, seeds, children}
use Rattle.g1_words.proofs.Firsts.{Distinct, Distinct-firsts, firsts_member, firsts-append}
use Rattle.g1_words.proofs.Members.{flat_map_cases}
use Rattle.g1_words.proofs.OneToOne.{reached_object}
use Rattle.g1_words.proofs.Sound.{sound}
use Rattle.g1_words.proofs.Lists.{has_more, same_there, all_from_in}
use Rattle.g1_words.proofs.Indices.{taken_in}
use Rattle.g1_rem.specs.Slots.{slots_on}
use Rattle.g1_frontier.specs.declared.queue.Queue.{Queue}
use Rattle.g1_frontier.specs.declared.scope.Scope.{Scope}
use Rattle.g1_frontier.specs.Window.{AreCards, AreOutside, LeadIn}
use Rattle.g1_frontier.specs.Numbers.{BeginsIn}
use Rattle.g1_frontier.specs.Scope.{IsScope, inside, names_in, place_in, place_count}
use Rattle.g1_frontier.specs.Found.{slots_into}
use Rattle.g1_frontier.specs.Queue.{card_leads, card_names, object_names, HasFound, HasNoted, IsUnderWay}
use Rattle.g1_frontier.proofs.Finding.{same_test}
use Rattle.g1_frontier.proofs.Marks.{firsts_again, firsts_more}
use Rattle.g1_frontier.proofs.Places.{past_regions}
use Rattle.g1_frontier.proofs.Names.{size_small}
use Rattle.g1_frontier.proofs.Scopes.{apart, below, some_words, all_of_map, Contains-drop}
use Rattle.g1_frontier.proofs.Searching.{distinct_few}
use Rattle.g1_frontier.proofs.Seeds.{filter_flat, flat_same, leads_named, seeds_named}
use Rattle.g1_frontier.proofs.Turns.{take_parts, ends}
use mathlib.Core.List.{map-map}

-- ---- first occurrences

-- one address more
firsts_one : (found : List ℕ) (a : ℕ) → found ≡ firsts found → firsts (found ++ a ∷ []) ≡ found ++ cond (not (has found a)) (a ∷ []) []
firsts_one found a once = firsts-append found (a ∷ []) ∙ ap (λ l. l ++ cond (not (has found a)) (a ∷ []) []) (sym once)

firsts_old : (found : List ℕ) (a : ℕ) → found ≡ firsts found → has found a ≡ true → found ≡ firsts (found ++ a ∷ [])
firsts_old found a once e = sym (firsts_one found a once ∙ ap (λ b. found ++ cond (not b) (a ∷ []) []) e ∙ append-nil found)

firsts_new : (found : List ℕ) (a : ℕ) → found ≡ firsts found → has found a ≡ false → found ++ a ∷ [] ≡ firsts (found ++ a ∷ [])
firsts_new found a once e = sym (firsts_one found a once ∙ ap (λ b. found ++ cond (not b) (a ∷ []) []) e)

-- ---- lists

-- what one member more lists
pub listed_more : {A B : Type 0} (f : A → List B) (xs : List A) (n : ℕ) (d : A) (old before after : List B) → n < length xs → before ≡ old ++ flat_map f (take n xs)
    → after ≡ before ++ f (get_or xs n d) → after ≡ old ++ flat_map f (take (n + 1) xs)
listed_more f xs n d old before after lt e g =
    g ∙ ap (λ l. l ++ f (get_or xs n d)) e ∙ flat_map_more f old (take n xs) (get_or xs n d) ∙ ap (λ l. old ++ flat_map f l) (sym (take_more xs n d lt))

-- ---- marks

-- one mark more
mark_more : (xs : List Bool) (p q : ℕ) → p < length xs → get_or (set xs p true) q false ≡ (get_or xs q false || eqb q p)
mark_more xs p q lt = at (eqb q p) refl
  where
    with_true : (b : Bool) → true ≡ (b || true)
    with_true true = refl
    with_true false = refl

    with_false : (b : Bool) → b ≡ (b || false)
    with_false true = refl
    with_false false = refl

    at : (c : Bool) → eqb q p ≡ c → get_or (set xs p true) q false ≡ (get_or xs q false || c)
    at true e = subst (λ j. get_or (set xs p true) j false ≡ true) (sym (eqb-true q p e)) (get_or-set_same xs p true false lt) ∙ with_true (get_or xs q false)
    at false e = get_or-set_other xs p q true false (λ is. true≢false (sym (eq-eqb q p is) ∙ e)) ∙ with_false (get_or xs q false)

-- ---- what was found

module _ (s : Scope) (ok : IsScope s) where
  inside_below : (a : ℕ) → inside s a ≡ true → a < s.heap.now.geometry.n * s.heap.now.geometry.w
  inside_below a i = elim (cases_lt a (s.heap.now.geometry.n * s.heap.now.geometry.w)) [
    | inl lt ↦ lt
    | inr ge ↦
        let w : ℕ = s.heap.now.geometry.w in
        let high : s.heap.now.geometry.n ≤ a / w = le-div s.heap.now.geometry.n a w (some_words s ok) (omega (arith, ge)) in
        absurd (true≢false (sym i ∙ past_regions s.heap.now.geometry.n s.window.now (a / w) ok.regions.below high))
  ]

  -- it is no more than the heap's words
  pub found_small : (q : Queue) → HasFound s q → length q.found.items ≤ most_words
  found_small q f =
      let found : List ℕ = q.found.items in
      let in_window : (a : ℕ) → Contains found a → inside s a ≡ true = λ a i. subst (λ b. inside s b ≡ true) i.2 (f.within i.0 a i.1) in
      let few = distinct_few found (s.heap.now.geometry.n * s.heap.now.geometry.w) (subst Distinct (sym f.once) (Distinct-firsts found)) (λ a i. inside_below a (in_window a i)) in
      omega (arith, few, ok.valid.limits.words_most)

  -- before any search
  pub empty_queue : (q : Queue) → q.found.items ≡ [] → q.marks ≡ replicate (place_count s) false → HasFound s q
  empty_queue q found marks = record {
    places = let long : length q.marks ≡ place_count s = ap length marks ∙ length-replicate (place_count s) false in omega (arith, long);
    marked = λ a i. ap (λ l. get_or l (place_in s a) false) marks ∙ same_there false (place_count s) (place_in s a) ∙ sym (ap (λ l. has l a) found);
    once = found ∙ sym (ap firsts found);
    within = subst (All (λ a. inside s a ≡ true)) (sym found) (All-nil (λ a. inside s a ≡ true));
  }

  -- an address whose mark is set was found
  pub noted_old : (q : Queue) (x : ℕ) → HasFound s q → BeginsIn s.heap.now s.window.now x → get_or q.marks (place_in s x) false ≡ true → HasNoted s (x ∷ []) q q
  noted_old q x f i is_set = record { queue = f; found = firsts_old q.found.items x f.once (sym (f.marked x i) ∙ is_set) }

  -- one whose mark is not set is found when the mark is set
  pub noted_new : (a b : Queue) (x : ℕ) → HasFound s a → BeginsIn s.heap.now s.window.now x → get_or a.marks (place_in s x) false ≡ false →
      b.marks ≡ set a.marks (place_in s x) true → b.found.items ≡ a.found.items ++ x ∷ [] → HasNoted s (x ∷ []) a b
  noted_new a b x f i unset marks found =
      let room = below s ok x i in
      let same : length b.marks ≡ length a.marks = ap length marks ∙ simp length-set in
      let all_of : b.found.items ≡ firsts (a.found.items ++ x ∷ []) = found ∙ firsts_new a.found.items x f.once (sym (f.marked x i) ∙ unset) in
      record {
        queue = record {
          places = omega (arith, same, f.places);
          marked = λ c j.
              ap (λ l. get_or l (place_in s c) false) marks
              ∙ mark_more a.marks (place_in s x) (place_in s c) (omega (arith, room, f.places))
              ∙ (λ k. f.marked c j k || same_test (place_in s) (BeginsIn s.heap.now s.window.now) (λ x y u v e. apart s ok x u y v e) c x j i k)
              ∙ sym (ap (λ l. has l c) found ∙ has_more a.found.items x c);
          once = all_of ∙ sym (ap firsts all_of ∙ firsts_again (a.found.items ++ x ∷ []));
          within =
              subst (All (λ a. inside s a ≡ true)) (sym found)
              (All-append (λ a. inside s a ≡ true) a.found.items (x ∷ []) f.within (All-cons (λ a. inside s a ≡ true) x [] i.0 (All-nil (λ a. inside s a ≡ true))));
        };
        found = all_of;
      }

  -- ---- what was noted

  pub noted_none : (q : Queue) → HasFound s q → HasNoted s [] q q
  noted_none q f = record { queue = f; found = f.once ∙ ap firsts (sym (append-nil q.found.items)) }

  pub noted_append : (xs ys : List ℕ) (a b c : Queue) → HasNoted s xs a b → HasNoted s ys b c → HasNoted s (xs ++ ys) a c
  noted_append xs ys a b c x y = record {
    queue = y.queue;
    found = y.found ∙ ap (λ l. firsts (l ++ ys)) x.found ∙ firsts_more (a.found.items ++ xs) ys ∙ ap firsts (append_assoc a.found.items xs ys);
  }

  -- one more of a list
  pub noted_more : {A : Type 0} (f : A → List ℕ) (xs : List A) (n : ℕ) (d : A) (a b c : Queue) → n < length xs →
      HasNoted s (flat_map f (take n xs)) a b → HasNoted s (f (get_or xs n d)) b c → HasNoted s (flat_map f (take (n + 1) xs)) a c
  noted_more f xs n d a b c lt x y =
      subst (λ l. HasNoted s l a c) (flat_map_more f [] (take n xs) (get_or xs n d) ∙ ap (flat_map f) (sym (take_more xs n d lt)))
      (noted_append (flat_map f (take n xs)) (f (get_or xs n d)) a b c x y)

  -- ---- what was listed

  -- the leads on the cards are all that lead into the window
  pub all_leads : (cards : List ℕ) → AreCards s.heap.now cards → AreOutside s.heap.now s.window.now cards → LeadIn s.heap.now s.window.now cards
      → flat_map (card_leads s) cards ≡ slots_into s.heap.now s.window.now
  all_leads cards rising outside lead_in = leads_named s.heap.now s.window.now cards ok.valid rising outside lead_in

  -- ---- the whole search

  abbrev first_seeds : List ℕ
  first_seeds = seeds s.heap.now s.window.now

  abbrev next_of : ℕ → List ℕ
  next_of = children s.heap.now s.window.now

  object_children : (a : ℕ) → object_names s (object_at s.heap.now a) ≡ children s.heap.now s.window.now a
  object_children a = sym (filter_flat (inside s) (λ p. named (word s.heap.now p)) (slots (object_at s.heap.now a)))

  in_found : (q : Queue) (xs : List ℕ) (a : ℕ) → q.found.items ≡ firsts xs → Contains q.found.items a → Contains xs a
  in_found q xs a e i = firsts_member xs a (subst (λ l. Contains l a) e i)

  -- the seeds are found
  pub begun : (cards : List ℕ) → AreCards s.heap.now cards → AreOutside s.heap.now s.window.now cards → LeadIn s.heap.now s.window.now cards →
      (a b c : Queue) → a.found.items ≡ [] → HasNoted s (flat_map (names_in s) s.heap.now.roots) a b → HasNoted s (flat_map (card_names s) cards) b c → IsUnderWay s 0 c
  begun cards rising outside lead_in a b c none x y =
      let h = s.heap.now in
      let whole = noted_append (flat_map (names_in s) h.roots) (flat_map (card_names s) cards) a b c x y in
      let by_roots : flat_map (names_in s) h.roots ≡ filter (inside s) (flat_map named h.roots) = sym (filter_flat (inside s) named h.roots) in
      let by_cards : flat_map (card_names s) cards ≡ flat_map (λ c. filter (inside s) (flat_map (λ p. named (word h p)) (slots_on h c))) cards =
      flat_same (card_names s) (λ c. filter (inside s) (flat_map (λ p. named (word h p)) (slots_on h c))) cards (λ c i. sym (filter_flat (inside s) (λ p. named (word h p)) (slots_on h c))) in
      let all_of : flat_map (names_in s) h.roots ++ flat_map (card_names s) cards ≡ seeds h s.window.now = (λ i. by_roots i ++ by_cards i) ∙ seeds_named h s.window.now cards ok.valid rising outside lead_in in
      let e : c.found.items ≡ firsts (seeds h s.window.now) = whole.found ∙ (λ i. firsts (none i ++ all_of i)) in record {
        queue = y.queue;
        from = omega arith;
        in_order = e ∙ ap firsts (sym (append-nil (seeds h s.window.now)));
        reached = λ x i. seed (in_found c (seeds h s.window.now) x e i);
      }

  -- n of what was found are searched, from one on
  module _ (from n : ℕ) (a : Queue) (u : IsUnderWay s from a) where
    abbrev batch : List ℕ
    batch = take n (drop from a.found.items)

    batch_reached : (c : ℕ) → Contains (take n (drop from a.found.items)) c → Reached (seeds s.heap.now s.window.now) (children s.heap.now s.window.now) c
    batch_reached c i = u.reached c (Contains-drop from a.found.items c (taken_in n (drop from a.found.items) c i))

    -- they are objects
    pub batch_objects : All (λ c. Contains (objects s.heap.now) (object_at s.heap.now c)) (take n (drop from a.found.items))
    batch_objects = all_from_in (λ c. Contains (objects s.heap.now) (object_at s.heap.now c)) batch
        (λ c i. reached_object s.heap.now s.window.now (sound s.heap.now ok.valid) c (batch_reached c i))

    batch_names : flat_map (object_names s) (map (object_at s.heap.now) batch) ≡ flat_map next_of batch
    batch_names =
        flat_map-map (object_names s) (object_at s.heap.now) batch
        ∙ flat_same (λ c. object_names s (object_at s.heap.now c)) next_of batch (λ c i. object_children c)

    abbrev behind : List ℕ
    behind = filter (λ y. not (has a.found.items y)) (firsts (flat_map next_of batch))

    -- what was found stays in front
    found_stays : (b : Queue) → HasNoted s (flat_map (object_names s) (map (object_at s.heap.now) (take n (drop from a.found.items)))) a b → b.found.items ≡ a.found.items ++ behind
    found_stays b x =
        x.found ∙ ap (λ l. firsts (a.found.items ++ l)) batch_names ∙ firsts-append a.found.items (flat_map next_of batch) ∙ ap (λ l. l ++ behind) (sym u.queue.once)

    -- so the batch stands behind what was searched
    pub batch_behind : (to : ℕ) → from + n ≡ to → (b : Queue) → to ≤ length a.found.items
        → HasNoted s (flat_map (object_names s) (map (object_at s.heap.now) (take n (drop from a.found.items)))) a b
        → take to b.found.items ≡ take from a.found.items ++ take n (drop from a.found.items)
    batch_behind to sum b le x =
        ap (take to) (found_stays b x) ∙ take-append-le to a.found.items behind le ∙ ap (λ k. take k a.found.items) (sym sum) ∙ take_parts from n a.found.items

    -- its sizes are listed behind those before
    pub batch_sized : (to : ℕ) → from + n ≡ to → (b : Queue) → to ≤ length a.found.items
        → HasNoted s (flat_map (object_names s) (map (object_at s.heap.now) (take n (drop from a.found.items)))) a b
        → (old new : List ℕ) (ahead : List Object) → old ≡ sizes_of s.heap.now (take from a.found.items) → ahead ≡ map (object_at s.heap.now) (take n (drop from a.found.items))
        → new ≡ old ++ map (λ o. o.size) ahead → new ≡ sizes_of s.heap.now (take to b.found.items)
    batch_sized to sum b le x old new ahead o h e =
        e ∙ (λ i. o i ++ map (λ o. o.size) (h i)) ∙ ap (λ l. sizes_of s.heap.now (take from a.found.items) ++ l) (map-map (λ o. o.size) (object_at s.heap.now) batch)
        ∙ sym (map-append (λ c. (object_at s.heap.now c).size) (take from a.found.items) batch) ∙ ap (sizes_of s.heap.now) (sym (batch_behind to sum b le x))

    -- they fit 32 bits
    pub batch_small : All (λ o. o.size < 2 ^ 32) (map (object_at s.heap.now) (take n (drop from a.found.items)))
    batch_small = all_of_map (λ o. o.size < 2 ^ 32) (object_at s.heap.now) batch
        (λ k d lt. size_small s.heap.now ok.valid (object_at s.heap.now (get_or batch k d)) (batch_objects k d lt))

    -- what they reference is noted
    pub moved_on : (to : ℕ) → from + n ≡ to → (b : Queue) → to ≤ length a.found.items
        → HasNoted s (flat_map (object_names s) (map (object_at s.heap.now) (take n (drop from a.found.items)))) a b → IsUnderWay s to b
    moved_on to sum b le x =
        let front : List ℕ = flat_map next_of (take from a.found.items) in
        let more : List ℕ = flat_map next_of batch in
        let e : b.found.items ≡ firsts (a.found.items ++ more) = x.found ∙ ap (λ l. firsts (a.found.items ++ l)) batch_names in
        let stays : b.found.items ≡ a.found.items ++ behind = found_stays b x in
        let same : take to b.found.items ≡ take from a.found.items ++ batch = batch_behind to sum b le x in
        let whole : front ++ more ≡ flat_map next_of (take to b.found.items) =
        sym (flat_map-append next_of (take from a.found.items) batch) ∙ ap (flat_map next_of) (sym same) in
        let long : length b.found.items ≡ length a.found.items + length behind = ap length stays ∙ length-append a.found.items behind in record {
          queue = x.queue;
          from = omega (arith, long, le);
          in_order =
              e ∙ ap (λ l. firsts (l ++ more)) u.in_order ∙ firsts_more (first_seeds ++ front) more
              ∙ ap firsts (append_assoc first_seeds front more ∙ ap (λ l. first_seeds ++ l) whole);
          reached = λ c i. elim (Contains-append_cases a.found.items more c (in_found b (a.found.items ++ more) c e i)) [
            | inl j ↦ u.reached c j
            | inr j ↦ let m = flat_map_cases next_of batch c j in child (batch_reached m.0 m.1) m.2
          ];
        }

  -- all are searched
  pub searched : (from : ℕ) (q : Queue) → IsUnderWay s from q → length q.found.items ≤ from → Survivors s.heap.now s.window.now q.found.items
  searched from q u le = ends first_seeds next_of q.found.items from le u.in_order u.reached
