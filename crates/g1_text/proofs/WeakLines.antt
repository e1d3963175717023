-- Lines of objects by name with weak references, as they are read: their names, their slots, and their words.
use Rattle.std.proofs.Common.{◌≡◌, inl, inr, ℕ, zero, suc, ◌+◌, ◌<◌, Bool, true, false, cond, ◌&&◌, ◌||◌, List, [], ◌∷◌, ◌++◌, length, get_or, map, take, flat_map, All, Contains, append-nil, append_assoc, refl, sym, ◌∙◌, ap, subst, arith}
use Rattle.std.specs.Prelude.{Option, Some, None, codes}
use Rattle.std.specs.List.{AllZip, list_any, join_with_byte}
use Rattle.std.proofs.lemmas.List.{take_more, map-append, get_or-map, length-map}
use Rattle.std.proofs.lemmas.List.Concat.{flat_map-append}
use Rattle.std.proofs.lemmas.List.Elements.{All-push, Contains-get_or, Contains-append_left, Contains-append_right, Contains-append_cases, Contains-push_cases}
use Rattle.std.specs.Option.{is_some, option_map}
use Rattle.std.specs.Str.{bytes_eq}
use Rattle.std.specs.Borrow.{Bor}
use Rattle.std.specs.HashMap.{HashMap, get_by}
use Rattle.std.specs.HashMap as hash
use Rattle.std.proofs.lemmas.Bool.{false≢true}
use Rattle.std.proofs.lemmas.Slice.Eq.{bytes_eq-Decides}
use Rattle.g1_text.specs.Weak.{Slot, plain_slot, root_name, is_line_of, line_of, is_weak, AreSlotsOf, IsStrong, IsWordFor}
use Rattle.g1_text.specs.declared.weak.Known.{Known}
use Rattle.g1_text.specs.declared.weak.Target.{Target}
use Rattle.g1_text.specs.Marking.{line_words, kept_line, spaced, texts, slot_of, slots_of, IsKnown, AreFound}
use Rattle.g1_text.proofs.ByName.{zip_push}
use Rattle.g1_text.proofs.Marks.{kept_update, reordered, line_read, are_marked, slots_strong}

-- ONE LINE MORE

-- what it says of roots
pub roots_behind : (lines : List (List (List ℕ))) (words : List (List ℕ)) → flat_map root_name (lines ++ words ∷ []) ≡ flat_map root_name lines ++ root_name words
roots_behind [] words = append-nil (root_name words)
roots_behind (line ∷ lines) words = ap (λ l. root_name line ++ l) (roots_behind lines words) ∙ sym (append_assoc (root_name line) (flat_map root_name lines) (root_name words))

-- the line of a name stays, if there is one
abbrev pub or_last : Option (List (List ℕ)) → Option (List (List ℕ)) → Option (List (List ℕ))
or_last None o = o
or_last (Some words) o = Some words

first_or : (b : Bool) (line : List (List ℕ)) (one other last : Option (List (List ℕ))) → one ≡ or_last other last → cond b (Some line) one ≡ or_last (cond b (Some line) other) last
first_or true line one other last e = refl
first_or false line one other last e = e

line_behind : (name : List ℕ) (lines : List (List (List ℕ))) (words : List (List ℕ)) → line_of name (lines ++ words ∷ []) ≡ or_last (line_of name lines) (cond (is_line_of name words) (Some words) None)
line_behind name [] words = refl
line_behind name (line ∷ lines) words = first_or (is_line_of name line) line _ _ _ (line_behind name lines words)

or_none : (o : Option (List (List ℕ))) → or_last o None ≡ o
or_none None = refl
or_none (Some words) = refl

-- another line changes nothing
pub no_line : (name : List ℕ) (lines : List (List (List ℕ))) (words : List (List ℕ)) → is_line_of name words ≡ false → line_of name (lines ++ words ∷ []) ≡ line_of name lines
no_line name lines words e = line_behind name lines words ∙ ap (λ b. or_last (line_of name lines) (cond b (Some words) None)) e ∙ or_none (line_of name lines)

-- nor does a second line
pub second_line : (name : List ℕ) (lines : List (List (List ℕ))) (words first : List (List ℕ)) → line_of name lines ≡ Some first → line_of name (lines ++ words ∷ []) ≡ Some first
second_line name lines words first e = line_behind name lines words ∙ ap (λ o. or_last o (cond (is_line_of name words) (Some words) None)) e

-- a first line is the line of its name
pub new_line : (name : List ℕ) (lines : List (List (List ℕ))) (words : List (List ℕ)) → line_of name lines ≡ None → is_line_of name words ≡ true → line_of name (lines ++ words ∷ []) ≡ Some words
new_line name lines words none is =
    line_behind name lines words ∙ ap (λ o. or_last o (cond (is_line_of name words) (Some words) None)) none ∙ ap (λ b. cond b (Some words) None) is

-- whether a line `object NAME ..` is that of a name
object_is : (query name : List ℕ) (behind words : List (List ℕ)) → words ≡ codes "object" ∷ name ∷ behind → is_line_of query words ≡ bytes_eq query name
object_is query name behind words e = ap (is_line_of query) e

-- A LINE IS KEPT, the first one of its name
pub kept_more : {S : Type 0} (lines : List (List (List ℕ))) (name : List ℕ) (behind : List (List ℕ)) (line : Bor (List ℕ)) (old new : HashMap (Bor (List ℕ)) (Bor (List ℕ)) S)
    → line_words line ≡ codes "object" ∷ name ∷ behind → ((query : List ℕ) → kept_line old query ≡ line_of query lines) → is_some (get_by (λ k. bytes_eq name k.now) old) ≡ false
    → hash.UpdatesBy (λ x y. bytes_eq x.now y.now) (λ k. bytes_eq name k.now) old new (Some line) → (query : List ℕ) → kept_line new query ≡ line_of query (lines ++ line_words line ∷ [])
kept_more lines name behind line old new is kept fresh updates query = at (bytes_eq name query) refl
  where
    none : (o : Option (Bor (List ℕ))) → is_some o ≡ false → o ≡ None
    none None e = refl
    none (Some x) e = absurd (false≢true (sym e))

    no_first : line_of name lines ≡ None
    no_first = sym (kept name) ∙ ap (option_map line_words) (none (get_by (λ k. bytes_eq name k.now) old) fresh)

    at : (b : Bool) → bytes_eq name query ≡ b → kept_line new query ≡ line_of query (lines ++ line_words line ∷ [])
    at true e = kept_update name old new (Some line) updates query ∙ ap (λ b. cond b (Some (line_words line)) (kept_line old query)) e
        ∙ subst (λ q. Some (line_words line) ≡ line_of q (lines ++ line_words line ∷ [])) ((bytes_eq-Decides name query).0 e)
        (sym (new_line name lines (line_words line) no_first (object_is name name behind (line_words line) is ∙ (bytes_eq-Decides name name).1 refl)))
    at false e = kept_update name old new (Some line) updates query ∙ ap (λ b. cond b (Some (line_words line)) (kept_line old query)) e ∙ kept query
        ∙ sym (no_line query lines (line_words line) (object_is query name behind (line_words line) is ∙ differs (bytes_eq query name) refl))
      where
        differs : (b : Bool) → bytes_eq query name ≡ b → b ≡ false
        differs false d = refl
        differs true d = absurd (false≢true (sym e ∙ (bytes_eq-Decides name query).1 (sym ((bytes_eq-Decides query name).0 d))))

-- a second line of a name is not kept
pub kept_same : {S : Type 0} (lines : List (List (List ℕ))) (name : List ℕ) (behind words : List (List ℕ)) (old : HashMap (Bor (List ℕ)) (Bor (List ℕ)) S)
    → words ≡ codes "object" ∷ name ∷ behind → ((query : List ℕ) → kept_line old query ≡ line_of query lines) → is_some (get_by (λ k. bytes_eq name k.now) old) ≡ true
    → (query : List ℕ) → kept_line old query ≡ line_of query (lines ++ words ∷ [])
kept_same lines name behind words old is kept found query = kept query ∙ sym (at (bytes_eq query name) refl)
  where
    has : (o : Option (Bor (List ℕ))) → is_some o ≡ true → is_some (option_map line_words o) ≡ true
    has None e = absurd (false≢true e)
    has (Some x) e = refl

    some : is_some (line_of name lines) ≡ true
    some = ap is_some (sym (kept name)) ∙ has (get_by (λ k. bytes_eq name k.now) old) found

    second : (o : Option (List (List ℕ))) → line_of name lines ≡ o → is_some o ≡ true → line_of name (lines ++ words ∷ []) ≡ line_of name lines
    second None e t = absurd (false≢true t)
    second (Some first) e t = second_line name lines words first e ∙ sym e

    at : (b : Bool) → bytes_eq query name ≡ b → line_of query (lines ++ words ∷ []) ≡ line_of query lines
    at true e = subst (λ q. line_of q (lines ++ words ∷ []) ≡ line_of q lines) (sym ((bytes_eq-Decides query name).0 e)) (second (line_of name lines) refl some)
    at false e = no_line query lines words (object_is query name behind words is ∙ e)

-- WHAT IS KNOWN OF ONE LINE MORE
pub other_line : (lines : List (List (List ℕ))) (words : List (List ℕ)) (k : Known) → root_name words ≡ [] → ((name : List ℕ) → is_line_of name words ≡ false) → IsKnown lines k
    → IsKnown (lines ++ words ∷ []) k
other_line lines words k roots objects h = record {
  roots = h.roots ∙ sym (append-nil (flat_map root_name lines)) ∙ ap (λ l. flat_map root_name lines ++ l) (sym roots) ∙ sym (roots_behind lines words);
  objects = λ name. h.objects name ∙ sym (no_line name lines words (objects name));
}

pub short_line : (lines : List (List (List ℕ))) (words : List (List ℕ)) (k : Known) → length words < 2 → IsKnown lines k → IsKnown (lines ++ words ∷ []) k
short_line lines [] k few h = other_line lines [] k refl (λ name. refl) h
short_line lines (word ∷ []) k few h = other_line lines (word ∷ []) k refl (λ name. refl) h
short_line lines (word ∷ next ∷ words) k few h = absurd (omega (arith, few))

-- a line that is none of a root or of an object
pub plain_line : (lines : List (List (List ℕ))) (kind name : List ℕ) (behind words : List (List ℕ)) (k : Known) → words ≡ kind ∷ name ∷ behind → bytes_eq kind (codes "root") ≡ false
    → bytes_eq kind (codes "object") ≡ false → IsKnown lines k → IsKnown (lines ++ words ∷ []) k
plain_line lines kind name behind words k is root object h =
    other_line lines words k (ap root_name is ∙ ap (λ b. cond b (name ∷ []) []) root) (λ query. ap (is_line_of query) is ∙ ap (λ b. b && bytes_eq query name) object) h

pub root_line : (lines : List (List (List ℕ))) (kind : List ℕ) (name : Bor (List ℕ)) (behind words : List (List ℕ)) (k l : Known) → words ≡ kind ∷ name.now ∷ behind
    → bytes_eq kind (codes "root") ≡ true → l.roots.items ≡ k.roots.items ++ name ∷ [] → l.objects ≡ k.objects → IsKnown lines k → IsKnown (lines ++ words ∷ []) l
root_line lines kind name behind words k l is root more same h = record {
  roots = ap texts more ∙ map-append (λ t. t.now) k.roots.items (name ∷ []) ∙ ap (λ ns. ns ++ name.now ∷ []) h.roots
      ∙ ap (λ ns. flat_map root_name lines ++ ns) (sym (ap root_name is ∙ ap (λ b. cond b (name.now ∷ []) []) root)) ∙ sym (roots_behind lines words);
  objects = λ query. ap (λ o. kept_line o query) same ∙ h.objects query
      ∙ sym (no_line query lines words (ap (is_line_of query) is ∙ ap (λ b. b && bytes_eq query name.now) (other kind ((bytes_eq-Decides kind (codes "root")).0 root))));
}
  where
    other : (word : List ℕ) → word ≡ codes "root" → bytes_eq word (codes "object") ≡ false
    other word e = ap (λ w. bytes_eq w (codes "object")) e

pub object_line : (lines : List (List (List ℕ))) (kind name : List ℕ) (behind words : List (List ℕ)) (k l : Known) → words ≡ kind ∷ name ∷ behind
    → bytes_eq kind (codes "object") ≡ true → l.roots.items ≡ k.roots.items → ((query : List ℕ) → kept_line l.objects query ≡ line_of query (lines ++ words ∷ [])) → IsKnown lines k
    → IsKnown (lines ++ words ∷ []) l
object_line lines kind name behind words k l is object same objects h = record {
  roots = ap texts same ∙ h.roots ∙ sym (append-nil (flat_map root_name lines))
      ∙ ap (λ ns. flat_map root_name lines ++ ns) (sym (ap root_name is ∙ ap (λ b. cond b (name ∷ []) []) (other kind ((bytes_eq-Decides kind (codes "object")).0 object))))
      ∙ sym (roots_behind lines words);
  objects = objects;
}
  where
    other : (word : List ℕ) → word ≡ codes "object" → bytes_eq word (codes "root") ≡ false
    other word e = ap (λ w. bytes_eq w (codes "root")) e

-- WORDS AND SLOTS AT A PLACE
pub text_at : (P : List ℕ → Type 0) (xs : List (Bor (List ℕ))) (i : ℕ) (d : Bor (List ℕ)) → i < length xs → All P (texts xs) → P (get_or xs i d).now
text_at P xs i d lt all = subst P (get_or-map (λ t. t.now) xs i d [] lt) (all i [] (subst (λ n. i < n) (sym (length-map xs (λ t. t.now))) lt))

pub texts_more : (P : List ℕ → Type 0) (xs : List (Bor (List ℕ))) (i : ℕ) (d : Bor (List ℕ)) → i < length xs → All P (texts (take i xs)) → P (get_or xs i d).now → All P (texts (take (i + 1) xs))
texts_more P xs i d lt all p =
    subst (All P) (sym (ap texts (take_more xs i d lt) ∙ map-append (λ t. t.now) (take i xs) (get_or xs i d ∷ []))) (All-push P (texts (take i xs)) (get_or xs i d).now all p)

pub slots_more : (xs : List Target) (i : ℕ) (d : Target) → i < length xs → slots_of (take (i + 1) xs) ≡ slots_of (take i xs) ++ slot_of (get_or xs i d) ∷ []
slots_more xs i d lt = ap slots_of (take_more xs i d lt) ∙ map-append slot_of (take i xs) (get_or xs i d ∷ [])

pub slot_at : (xs : List Target) (i : ℕ) (d : Target) → i < length xs → (get_or xs i d).weak ≡ false → Contains (slots_of xs) (plain_slot (get_or xs i d).word.now)
slot_at xs i d lt plain =
    subst (Contains (slots_of xs)) (get_or-map slot_of xs i d (slot_of d) lt ∙ ap (λ b. record { weak = b; target = (get_or xs i d).word.now }) plain)
    (Contains-get_or (slots_of xs) i (slot_of d) (subst (λ n. i < n) (sym (length-map xs slot_of)) lt))

-- names of plain slots are marked, those of one slot more too
pub marked_more : (old new : List ℕ → Bool) (xs : List Target) (i : ℕ) (d : Target) → i < length xs → ((name : List ℕ) → old name ≡ true → new name ≡ true)
    → ((name : List ℕ) → Contains (slots_of (take i xs)) (plain_slot name) → old name ≡ true) → ((get_or xs i d).weak ≡ false → new (get_or xs i d).word.now ≡ true)
    → (name : List ℕ) → Contains (slots_of (take (i + 1) xs)) (plain_slot name) → new name ≡ true
marked_more old new xs i d lt stay all this name c =
    elim (Contains-push_cases (slots_of (take i xs)) (slot_of (get_or xs i d)) (plain_slot name) (subst (λ s. Contains s (plain_slot name)) (slots_more xs i d lt) c)) [
      | inl before ↦ stay name (all name before)
      | inr e ↦ subst (λ n. new n ≡ true) (ap (λ (s : Slot). s.target) e) (this (ap (λ (s : Slot). s.weak) e))
    ]

-- a weak slot among others
weak_behind : (b : Bool) (slots : List Slot) → list_any is_weak slots ≡ true → (b || list_any is_weak slots) ≡ true
weak_behind true slots e = refl
weak_behind false slots e = e

pub weak_at : (xs : List Target) (i : ℕ) (d : Target) → i < length xs → (get_or xs i d).weak ≡ true → list_any is_weak (slots_of xs) ≡ true
weak_at [] i d lt e = absurd (omega (arith, lt))
weak_at (x ∷ xs) zero d lt e = ap (λ b. b || list_any is_weak (slots_of xs)) e
weak_at (x ∷ xs) (suc i) d lt e = weak_behind x.weak (slots_of xs) (weak_at xs i d (omega (arith, lt)) e)

-- WORDS FOR SLOTS
pub spaced_more : (words : List (List ℕ)) (word : List ℕ) → spaced (words ++ word ∷ []) ≡ spaced words ++ 32 ∷ word
spaced_more words word = flat_map-append (λ w. 32 ∷ w) words (word ∷ []) ∙ ap (λ l. spaced words ++ l) (append-nil (32 ∷ word))

pub targets_more : (Strong : List ℕ → Type 0) (xs : List Target) (i : ℕ) (d : Target) (start before after : List ℕ) (word : List ℕ) → i < length xs
    → (words : List (List ℕ)) × AllZip (IsWordFor Strong) (slots_of (take i xs)) words × (before ≡ start ++ spaced words) → IsWordFor Strong (slot_of (get_or xs i d)) word
    → after ≡ before ++ 32 ∷ word → (words : List (List ℕ)) × AllZip (IsWordFor Strong) (slots_of (take (i + 1) xs)) words × (after ≡ start ++ spaced words)
targets_more Strong xs i d start before after word lt h is more = (
  h.0 ++ word ∷ [],
  subst (λ s. AllZip (IsWordFor Strong) s (h.0 ++ word ∷ [])) (sym (slots_more xs i d lt)) (zip_push (IsWordFor Strong) (slots_of (take i xs)) h.0 (slot_of (get_or xs i d)) word h.1 is),
  more ∙ ap (λ l. l ++ 32 ∷ word) h.2 ∙ append_assoc start (spaced h.0) (32 ∷ word) ∙ ap (λ l. start ++ l) (sym (spaced_more h.0 word)),
)

-- words behind spaces are words joined by a space
pub joined : (word : List ℕ) (words : List (List ℕ)) → join_with_byte 32 (word ∷ words) ≡ word ++ spaced words
joined word [] = sym (append-nil word)
joined word (next ∷ words) = ap (λ l. word ++ 32 ∷ l) (joined next words)

-- ONE UNREAD LINE IS READ
pub line_followed : (lines : List (List (List ℕ))) (m n : List ℕ → Bool) (found left : List ℕ → Option (List (List ℕ))) (before between after : List (Bor (List ℕ))) (line : Bor (List ℕ)) (slots : List Slot)
    → before ≡ between ++ line ∷ [] → AreSlotsOf (line_words line) slots
    → ((hand : List (List (List ℕ))) → ((name : List ℕ) → Contains slots (plain_slot name) → IsStrong lines name) → AreFound lines m found (hand ++ map line_words between)
    → AreFound lines n left (hand ++ map line_words after))
    → ((name : List ℕ) → Contains slots (plain_slot name) → n name ≡ true) → AreFound lines m found (map line_words before) → AreFound lines n left (map line_words after)
line_followed lines m n found left before between after line slots popped are step all h =
    line_read lines n left words (map line_words after) (are_marked n words slots are all) (step (words ∷ []) (slots_strong lines m found (map line_words before) words slots h in_before are) in_hand)
  where
    words : List (List ℕ)
    words = line_words line

    same : map line_words before ≡ map line_words between ++ words ∷ []
    same = ap (map line_words) popped ∙ map-append line_words between (line ∷ [])

    in_before : Contains (map line_words before) words
    in_before = subst (λ l. Contains l words) (sym same) (Contains-append_right (map line_words between) (words ∷ []) words (0, omega arith, refl))

    there : (w : List (List ℕ)) → Contains (map line_words before) w → Contains (words ∷ map line_words between) w
    there w c =
        elim (Contains-append_cases (map line_words between) (words ∷ []) w (subst (λ l. Contains l w) same c)) [
          | inl d ↦ Contains-append_right (words ∷ []) (map line_words between) w d
          | inr d ↦ Contains-append_left (words ∷ []) (map line_words between) w d
        ]

    back : (w : List (List ℕ)) → Contains (words ∷ map line_words between) w → Contains (map line_words before) w
    back w c =
        subst (λ l. Contains l w) (sym same)
        (elim (Contains-append_cases (words ∷ []) (map line_words between) w c) [
          | inl d ↦ Contains-append_right (map line_words between) (words ∷ []) w d
          | inr d ↦ Contains-append_left (map line_words between) (words ∷ []) w d
        ])

    in_hand : AreFound lines m found (words ∷ map line_words between)
    in_hand = reordered lines m found (map line_words before) (words ∷ map line_words between) there back h
