-- The strong names are those that are marked at the end.
use Rattle.std.proofs.Common.{◌≡◌, ◌⊎◌, inl, inr, ◌↔◌, ℕ, Bool, true, false, cond, List, [], ◌∷◌, ◌++◌, zero, suc, ◌<◌, get_or, map, flat_map, All, Contains, append-nil, append_assoc, refl, sym, ◌∙◌, ap, subst, arith}
use Rattle.std.specs.Prelude.{Option, Some, None, slice_index_or}
use Rattle.std.specs.Borrow.{Bor}
use Rattle.std.specs.Option.{option_map, option_to_list}
use Rattle.std.specs.Str.{bytes_eq}
use Rattle.std.specs.List.{list_any}
use Rattle.std.specs.HashMap.{HashMap, get_by}
use Rattle.std.specs.HashMap as hash
use Rattle.std.specs.HashSet.{HashSet}
use Rattle.std.specs.HashSet as bag
use Rattle.std.specs.Set.{KeepsOthers}
use Rattle.std.specs.Map.{IsKeyTest, AreApart}
use Rattle.std.proofs.lemmas.Cmp.{nat_list_eq_equiv}
use Rattle.std.proofs.lemmas.Bool.{false≢true}
use Rattle.std.proofs.lemmas.Slice.Eq.{bytes_eq-Decides}
use Rattle.std.proofs.lemmas.List.Elements.{All-weaker, All-contains, All-contains_itself, Contains-append_left, Contains-append_right, Contains-append_cases}
use Rattle.std.proofs.lemmas.Map.Text.{hash_map_updates_str}
use Rattle.g1_text.specs.Weak.{Slot, AreSlotsOf, SaysSlots, HasSlots, plain_slot, slots_in, content_of, root_name, line_of, IsStrong, by_root, by_slot}
use Rattle.g1_text.specs.Marking.{line_words, kept_line, has_name, AreMarked, AreFound}
use Rattle.g1_text.proofs.ByName.{some_none}
use Rattle.g1_text.proofs.OneGraph.{size_one}
use Rattle.g1_text.proofs.Gathering.{map_push}

none_in : {A : Type 0} {x : A} → Contains [] x → ⊥
none_in c = let lt = c.1 in absurd (omega (arith, lt))

-- ONE NAME MORE
module _ (lines : List (List (List ℕ))) (marked more : List ℕ → Bool) (found left : List ℕ → Option (List (List ℕ))) (name : List ℕ)
    (adds : (query : List ℕ) → more query ≡ cond (bytes_eq name query) true (marked query))
    (takes : (query : List ℕ) → left query ≡ cond (bytes_eq name query) None (found query)) where
  stays_if : (query : List ℕ) (b : Bool) → bytes_eq name query ≡ b → marked query ≡ true → more query ≡ true
  stays_if query true e t = adds query ∙ ap (λ b. cond b true (marked query)) e
  stays_if query false e t = adds query ∙ ap (λ b. cond b true (marked query)) e ∙ t

  pub stays : (query : List ℕ) → marked query ≡ true → more query ≡ true
  stays query t = stays_if query (bytes_eq name query) refl t

  pub is_marked : more name ≡ true
  is_marked = adds name ∙ ap (λ b. cond b true (marked name)) ((bytes_eq-Decides name name).1 refl)

  module _ (is : IsStrong lines name) (unread : List (List (List ℕ))) (h : AreFound lines marked found unread) where
    strong_if : (query : List ℕ) (b : Bool) → bytes_eq name query ≡ b → more query ≡ true → IsStrong lines query
    strong_if query true e t = subst (IsStrong lines) ((bytes_eq-Decides name query).0 e) is
    strong_if query false e t = h.strong query (sym (adds query ∙ ap (λ b. cond b true (marked query)) e) ∙ t)

    kept_if : (query : List ℕ) (b : Bool) → bytes_eq name query ≡ b → left query ≡ cond (more query) None (line_of query lines)
    kept_if query true e =
        let marks : more query ≡ true = adds query ∙ ap (λ b. cond b true (marked query)) e in
        takes query ∙ ap (λ b. cond b None (found query)) e ∙ ap (λ b. cond b None (line_of query lines)) (sym marks)
    kept_if query false e =
        let same : more query ≡ marked query = adds query ∙ ap (λ b. cond b true (marked query)) e in
        takes query ∙ ap (λ b. cond b None (found query)) e ∙ h.kept query ∙ ap (λ b. cond b None (line_of query lines)) (sym same)

    -- the line of a name that is found is its first one, and the name was not marked
    first_line : (words : List (List ℕ)) (b : Bool) → marked name ≡ b → found name ≡ Some words → line_of name lines ≡ Some words
    first_line words true m e = absurd (some_none (sym e ∙ h.kept name ∙ ap (λ b. cond b None (line_of name lines)) m))
    first_line words false m e = sym (h.kept name ∙ ap (λ b. cond b None (line_of name lines)) m) ∙ e

    in_one : (o : Option (List (List ℕ))) (words : List (List ℕ)) → found name ≡ o → Contains (option_to_list o) words → found name ≡ Some words
    in_one None words e c = absurd (none_in c)
    in_one (Some w) words e (k, lt, is) = e ∙ one k lt is
      where
        one : (k : ℕ) → k < 1 → slice_index_or (w ∷ []) k words ≡ words → ◌≡◌ {A = Option (List (List ℕ))} (Some w) (Some words)
        one zero lt is = ap Some is
        one (suc k) lt is = absurd (omega (arith, lt))

    unread_if : (words : List (List ℕ)) → Contains unread words ⊎ Contains (option_to_list (found name)) words → (query : List ℕ) × (more query ≡ true) × (line_of query lines ≡ Some words)
    unread_if words (inl c) = let old = h.unread words c in (old.0, stays old.0 old.1, old.2)
    unread_if words (inr c) = (name, is_marked, first_line words (marked name) refl (in_one (found name) words refl c))

    closed_if : (query : List ℕ) (words : List (List ℕ)) (b d : Bool) → marked query ≡ b → bytes_eq name query ≡ d → more query ≡ true → line_of query lines ≡ Some words
        → Contains (unread ++ option_to_list (found name)) words ⊎ AreMarked more words
    closed_if query words true d m e t line =
        elim (h.closed query words m line) [
          | inl c ↦ inl (Contains-append_left unread (option_to_list (found name)) words c)
          | inr a ↦ inr (λ slots target are c. stays target (a slots target are c))
        ]
    closed_if query words false true m e t line =
        let same = (bytes_eq-Decides name query).0 e in
        let is_line : found name ≡ Some words = ap found same ∙ h.kept query ∙ ap (λ b. cond b None (line_of query lines)) m ∙ line in
        inl (Contains-append_right unread (option_to_list (found name)) words (subst (λ o. Contains (option_to_list o) words) (sym is_line) (0, omega arith, refl)))
    closed_if query words false false m e t line = absurd (false≢true (sym m ∙ sym (adds query ∙ ap (λ b. cond b true (marked query)) e) ∙ t))

    pub one_more : AreFound lines more left (unread ++ option_to_list (found name))
    one_more = record {
      strong = λ query t. strong_if query (bytes_eq name query) refl t;
      kept = λ query. kept_if query (bytes_eq name query) refl;
      unread = λ words c. unread_if words (Contains-append_cases unread (option_to_list (found name)) words c);
      closed = λ query words t line. closed_if query words (marked query) (bytes_eq name query) refl refl t line;
    }

-- THE LINES THAT ARE UNREAD, in any order
pub reordered : (lines : List (List (List ℕ))) (marked : List ℕ → Bool) (found : List ℕ → Option (List (List ℕ))) (one other : List (List (List ℕ)))
    → ((words : List (List ℕ)) → Contains one words → Contains other words) → ((words : List (List ℕ)) → Contains other words → Contains one words)
    → AreFound lines marked found one → AreFound lines marked found other
reordered lines marked found one other there back h = record {
  strong = h.strong;
  kept = h.kept;
  unread = λ words c. h.unread words (back words c);
  closed = λ name words t line. elim (h.closed name words t line) [ inl c ↦ inl (there words c) | inr a ↦ inr a ];
}

-- a line in hand was read
pub line_read : (lines : List (List (List ℕ))) (marked : List ℕ → Bool) (found : List ℕ → Option (List (List ℕ))) (line : List (List ℕ)) (unread : List (List (List ℕ)))
    → AreMarked marked line → AreFound lines marked found (line ∷ unread) → AreFound lines marked found unread
line_read lines marked found line unread are h = record {
  strong = h.strong;
  kept = h.kept;
  unread = λ words c. h.unread words (Contains-append_right (line ∷ []) unread words c);
  closed = λ name words t is. elim (h.closed name words t is) [ inl c ↦ cases words (Contains-append_cases (line ∷ []) unread words c) | inr a ↦ inr a ];
}
  where
    one : (words : List (List ℕ)) → Contains (line ∷ []) words → line ≡ words
    one words (zero, lt, e) = e
    one words (suc k, lt, e) = absurd (omega (arith, lt))

    cases : (words : List (List ℕ)) → Contains (line ∷ []) words ⊎ Contains unread words → Contains unread words ⊎ AreMarked marked words
    cases words (inl c) = inr (subst (AreMarked marked) (one words c) are)
    cases words (inr c) = inl c

-- A LINE HAS ONE LIST OF SLOTS
says_one : (words : List (List ℕ)) (m n : ℕ) → SaysSlots words m → SaysSlots words n → m ≡ n
says_one words m n p q =
    let same = sym p.4 ∙ q.4 in
    (size_one p.3 m q.3 n p.1 q.1 p.5 q.5 (ap (λ ws. get_or ws 2 []) same)).1

pub count_one : (words : List (List ℕ)) (m n : ℕ) → HasSlots words m → HasSlots words n → m ≡ n
count_one words m n (inl p) (inl q) = says_one words m n p q
count_one words m n (inl p) (inr q) = absurd (q.1 m p)
count_one words m n (inr p) (inl q) = absurd (p.1 n q)
count_one words m n (inr p) (inr q) = p.0 ∙ sym q.0

pub slots_one : (words : List (List ℕ)) (one other : List Slot) → AreSlotsOf words one → AreSlotsOf words other → one ≡ other
slots_one words one other p q = p.2 ∙ ap (λ n. slots_in n (content_of words)) (count_one words p.0 q.0 p.1 q.1) ∙ sym q.2

-- the names of its slots are marked, if those of these are
pub are_marked : (marked : List ℕ → Bool) (words : List (List ℕ)) (slots : List Slot) → AreSlotsOf words slots
    → ((name : List ℕ) → Contains slots (plain_slot name) → marked name ≡ true) → AreMarked marked words
are_marked marked words slots are all other name others c = all name (subst (λ s. Contains s (plain_slot name)) (slots_one words other slots others are) c)

-- the names of the slots of an unread line are strong
pub slots_strong : (lines : List (List (List ℕ))) (marked : List ℕ → Bool) (found : List ℕ → Option (List (List ℕ))) (unread : List (List (List ℕ))) (words : List (List ℕ)) (slots : List Slot)
    → AreFound lines marked found unread → Contains unread words → AreSlotsOf words slots → (name : List ℕ) → Contains slots (plain_slot name) → IsStrong lines name
slots_strong lines marked found unread words slots h c are name in_slots =
    let holder = h.unread words c in by_slot words slots (h.strong holder.0 holder.1) holder.2 are in_slots

-- AT THE BEGINNING nothing is marked, and each line is kept
pub none_marked : (lines : List (List (List ℕ))) (marked : List ℕ → Bool) (found : List ℕ → Option (List (List ℕ))) → ((name : List ℕ) → marked name ≡ false)
    → ((name : List ℕ) → found name ≡ line_of name lines) → AreFound lines marked found []
none_marked lines marked found none all = record {
  strong = λ name t. absurd (false≢true (sym (none name) ∙ t));
  kept = λ name. all name ∙ ap (λ b. cond b None (line_of name lines)) (sym (none name));
  unread = λ words c. absurd (none_in c);
  closed = λ name words t line. absurd (false≢true (sym (none name) ∙ t));
}

-- what roots name is strong
pub roots_strong : (lines : List (List (List ℕ))) (names : List (List ℕ)) → names ≡ flat_map root_name lines → All (IsStrong lines) names
roots_strong lines names e =
    subst (All (IsStrong lines)) (sym e)
    (All-weaker (Contains (flat_map root_name lines)) (IsStrong lines) (λ name c. by_root c) (flat_map root_name lines) (All-contains_itself (flat_map root_name lines)))

-- AT THE END all strong names are marked
module _ (lines : List (List (List ℕ))) (marked : List ℕ → Bool) (found : List ℕ → Option (List (List ℕ))) (h : AreFound lines marked found [])
    (roots : All (λ name. marked name ≡ true) (flat_map root_name lines)) where
  reached : (name : List ℕ) → IsStrong lines name → marked name ≡ true
  reached name (by_root c) = All-contains (λ n. marked n ≡ true) (flat_map root_name lines) name roots c
  reached name (by_slot {holder} words slots strong line are c) =
      elim (h.closed holder words (reached holder strong) line) [
        | inl d ↦ absurd (none_in d)
        | inr a ↦ a slots name are c
      ]

  pub all_marked : (name : List ℕ) → (marked name ≡ true) ↔ IsStrong lines name
  all_marked name = (h.strong name, reached name)

-- NAMES IN A MAP AND IN A SET
pub kept_update : {S : Type 0} (name : List ℕ) (old new : HashMap (Bor (List ℕ)) (Bor (List ℕ)) S) (line : Option (Bor (List ℕ)))
    → hash.UpdatesBy (λ x y. bytes_eq x.now y.now) (λ k. bytes_eq name k.now) old new line → (query : List ℕ)
    → kept_line new query ≡ cond (bytes_eq name query) (option_map line_words line) (kept_line old query)
kept_update name old new line u query = ap (option_map line_words) (hash_map_updates_str name old new line u query) ∙ through (bytes_eq name query)
  where
    through : (b : Bool) → option_map line_words (cond b line (get_by (λ k. bytes_eq query k.now) old)) ≡ cond b (option_map line_words line) (kept_line old query)
    through true = refl
    through false = refl

other_keys : {K : Type 0} (eq : K → K → Bool) (test : K → Bool) (old new : List K) → KeepsOthers eq test old new
    → (other : K → Bool) → IsKeyTest eq other → AreApart test other → list_any other new ≡ list_any other old
unfolding KeepsOthers
other_keys eq test old new h = h

apart : (one other key : List ℕ) → bytes_eq one other ≡ false → bytes_eq one key ≡ true → bytes_eq other key ≡ false
apart one other key n y = nat_list_eq_equiv.symm other key ∙ sym (nat_list_eq_equiv.congr one key other y) ∙ n

pub name_update : {S : Type 0} (name : List ℕ) (old new : HashSet (Bor (List ℕ)) S) → bag.UpdatesBy (λ x y. bytes_eq x.now y.now) (λ k. bytes_eq name k.now) old new true → (query : List ℕ)
    → has_name new query ≡ cond (bytes_eq name query) true (has_name old query)
name_update name old new u query = at (bytes_eq name query) refl
  where
    at : (b : Bool) → bytes_eq name query ≡ b → has_name new query ≡ cond b true (has_name old query)
    at true e = subst (λ q. has_name new q ≡ true) ((bytes_eq-Decides name query).0 e) u.1
    at false e = other_keys _ _ _ _ u.3 _ (λ x y. nat_list_eq_equiv.congr query x.now y.now) (λ k. apart name query k.now e)

-- ONE NAME IS MARKED, and the line of its object is unread, if it was kept
module _ {S T : Type 0} (name : List ℕ) (old new : HashSet (Bor (List ℕ)) S) (before after : HashMap (Bor (List ℕ)) (Bor (List ℕ)) T)
    (adds : bag.UpdatesBy (λ x y. bytes_eq x.now y.now) (λ k. bytes_eq name k.now) old new true)
    (takes : hash.UpdatesBy (λ x y. bytes_eq x.now y.now) (λ k. bytes_eq name k.now) before after None) where
  pub name_stays : (query : List ℕ) → has_name old query ≡ true → has_name new query ≡ true
  name_stays = stays [] (has_name old) (has_name new) (kept_line before) (kept_line after) name (name_update name old new adds) (kept_update name before after None takes)

  as_words : (hand : List (List (List ℕ))) (unread : List (Bor (List ℕ))) (o : Option (Bor (List ℕ)))
      → (hand ++ map line_words unread) ++ option_to_list (option_map line_words o) ≡ hand ++ map line_words (unread ++ option_to_list o)
  as_words hand unread None =
      append-nil (hand ++ map line_words unread) ∙ ap (λ l. hand ++ map line_words l) (sym (append-nil unread))
  as_words hand unread (Some line) = append_assoc hand (map line_words unread) (line_words line ∷ []) ∙ ap (λ l. hand ++ l) (sym (map_push line_words unread line))

  pub name_found : (lines hand : List (List (List ℕ))) (unread left : List (Bor (List ℕ))) (o : Option (Bor (List ℕ))) → o ≡ get_by (λ k. bytes_eq name k.now) before
      → left ≡ unread ++ option_to_list o → IsStrong lines name → AreFound lines (has_name old) (kept_line before) (hand ++ map line_words unread)
      → AreFound lines (has_name new) (kept_line after) (hand ++ map line_words left)
  name_found lines hand unread left o taken more is h =
      subst (AreFound lines (has_name new) (kept_line after))
      (ap (λ p. (hand ++ map line_words unread) ++ option_to_list (option_map line_words p)) (sym taken) ∙ as_words hand unread o ∙ ap (λ l. hand ++ map line_words l) (sym more))
      (one_more lines (has_name old) (has_name new) (kept_line before) (kept_line after) name (name_update name old new adds) (kept_update name before after None takes) is (hand ++ map line_words unread) h)
