-- Texts with weak references, as they are read: line by line.
use Rattle.std.proofs.Common.{◌≡◌, inl, inr, ℕ, zero, suc, ◌+◌, Bool, true, false, cond, ◌&&◌, List, [], ◌∷◌, ◌++◌, length, get_or, map, take, drop, flat_map, All, IsUtf8, append-nil, append_assoc, length-append, eqb, refl, sym, ◌∙◌, ap, subst, arith, Contains}
use Rattle.std.specs.Prelude.{Option, Some, None, MatchOption, IfSome, codes, not}
use Rattle.std.specs.List.{AllZip, list_any, join_with_byte, slice_split, onto_first}
use Rattle.std.specs.Option.{is_some}
use Rattle.std.specs.Str.{bytes_eq}
use Rattle.std.specs.Borrow.{Bor}
use Rattle.std.specs.Char.{is_ascii_whitespace}
use Rattle.std.proofs.lemmas.Bool.{false≢true}
use Rattle.std.proofs.lemmas.Slice.Eq.{bytes_eq-Decides}
use Rattle.std.proofs.lemmas.List.{map-append, get_or-append-add, get_or_append_left}
use Rattle.std.proofs.lemmas.List.Concat.{flat_map-append}
use Rattle.std.proofs.lemmas.List.Splits.{join_with_byte-slice_split}
use Rattle.memchr.specs.Find.{OccursAt, Nowhere, FindsNeedle}
use Rattle.g1_words.proofs.Members.{filter_member}
use Rattle.g1_text.specs.Reading.{has_byte, words_in, parts_of}
use Rattle.g1_text.specs.Weak.{Slot, weak_slot, plain_slot, begins_weak, is_weak, slots_in, behind_slots, content_of, HasSlots, AreSlotsOf, IsWordFor, IsStrong, IsReadAs, IsWithoutWeak}
use Rattle.g1_text.specs.Marking.{AreCut, spaced}
use Rattle.g1_text.proofs.Marks.{slots_one}
use Rattle.g1_text.proofs.ByName.{zip_push}
use Rattle.g1_text.proofs.WeakLines.{joined}

-- ONE PART MORE
pub next_part : (parts done left rest : List (List ℕ)) (line : List ℕ) → parts ≡ done ++ left → left ≡ line ∷ rest → parts ≡ (done ++ line ∷ []) ++ rest
next_part parts done left rest line e is = e ∙ ap (λ l. done ++ l) is ∙ sym (append_assoc done (line ∷ []) rest)

pub words_more : (done : List (List ℕ)) (line text : List ℕ) → text ≡ line → map words_in done ++ words_in text ∷ [] ≡ map words_in (done ++ line ∷ [])
words_more done line text e = ap (λ t. map words_in done ++ words_in t ∷ []) e ∙ sym (map-append words_in done (line ∷ []))

-- a part that is not UTF-8
pub broken_part : (parts done left rest : List (List ℕ)) (line : List ℕ) → parts ≡ done ++ left → left ≡ line ∷ rest → (IsUtf8 line → ⊥) → All IsUtf8 parts → ⊥
broken_part parts done left rest line e is broken all = broken (at done (subst (All IsUtf8) (e ∙ ap (λ l. done ++ l) is) all))
  where
    at : (xs : List (List ℕ)) → All IsUtf8 (xs ++ line ∷ rest) → IsUtf8 line
    at [] all = all 0 [] (omega arith)
    at (x ∷ xs) all = at xs (λ k d lt. all (suc k) d (omega (arith, lt)))

-- WHAT IS WRITTEN
abbrev pub ended : List (List ℕ) → List ℕ
ended lines = flat_map (λ line. line ++ 10 ∷ []) lines

-- these lines are written: an end of line is behind the last one if another one is left
abbrev pub IsWritten : Option (Bor (List ℕ)) → List ℕ → List (List ℕ) → Type 0
IsWritten None out lines = out ≡ join_with_byte 10 lines
IsWritten (Some left) out lines = out ≡ ended lines

join_last : (lines : List (List ℕ)) (line : List ℕ) → join_with_byte 10 (lines ++ line ∷ []) ≡ ended lines ++ line
join_last [] line = refl
join_last (x ∷ []) line = sym (append_assoc x (10 ∷ []) line) ∙ ap (λ l. l ++ line) (sym (append-nil (x ++ 10 ∷ [])))
join_last (x ∷ y ∷ xs) line =
    ap (λ l. x ++ 10 ∷ l) (join_last (y ∷ xs) line) ∙ sym (append_assoc x (10 ∷ []) (ended (y ∷ xs) ++ line)) ∙ sym (append_assoc (x ++ 10 ∷ []) (ended (y ∷ xs)) line)

pub written_more : (behind : Option (Bor (List ℕ))) (before between after : List ℕ) (lines : List (List ℕ)) (line : List ℕ) (more : Bool) → before ≡ ended lines → between ≡ before ++ line
    → MatchOption behind (more ≡ false) (λ _. more ≡ true) → after ≡ between ++ cond more (10 ∷ []) [] → IsWritten behind after (lines ++ line ∷ [])
written_more None before between after lines line more e step last end =
    end ∙ ap (λ b. between ++ cond b (10 ∷ []) []) last ∙ append-nil between ∙ step ∙ ap (λ l. l ++ line) e ∙ sym (join_last lines line)
written_more (Some left) before between after lines line more e step last end =
    end ∙ ap (λ b. between ++ cond b (10 ∷ []) []) last ∙ ap (λ l. l ++ 10 ∷ []) (step ∙ ap (λ l. l ++ line) e) ∙ append_assoc (ended lines) line (10 ∷ [])
    ∙ ap (λ l. ended lines ++ l) (sym (append-nil (line ++ 10 ∷ []))) ∙ sym (flat_map-append (λ l. l ++ 10 ∷ []) lines (line ∷ []))

-- whether another line follows
pub is_more : (behind : Option (Bor (List ℕ))) (more : Bool) → more ≡ is_some behind → MatchOption behind (more ≡ false) (λ _. more ≡ true)
is_more None more e = e
is_more (Some left) more e = e

pub lines_more : (Strong : List ℕ → Type 0) (done : List (List ℕ)) (rest behind : Option (Bor (List ℕ))) (left : Bor (List ℕ)) (before between after line text : List ℕ) (more : Bool) → rest ≡ Some left → text ≡ line
    → (others : List (List ℕ)) × AllZip (IsReadAs Strong) done others × IsWritten rest before others
    → (other : List ℕ) × IsReadAs Strong text other × (between ≡ before ++ other)
    → MatchOption behind (more ≡ false) (λ _. more ≡ true) → after ≡ between ++ cond more (10 ∷ []) []
    → (others : List (List ℕ)) × AllZip (IsReadAs Strong) (done ++ line ∷ []) others × IsWritten behind after others
lines_more Strong done rest behind left before between after line text more is same h step last end =
    let written : before ≡ ended h.0 = subst (λ r. IsWritten r before h.0) is h.2 in (
      h.0 ++ step.0 ∷ [],
      zip_push (IsReadAs Strong) done h.0 line step.0 h.1 (subst (λ t. IsReadAs Strong t step.0) same step.1),
      written_more behind before between after h.0 step.0 more written step.2 last end,
    )

-- ONE LINE
pub line_same : (Strong : List ℕ → Type 0) (line : List ℕ) (words : List (List ℕ)) (slots : List Slot) (behind : List (List ℕ)) → words ≡ words_in line → AreCut words slots behind
    → list_any is_weak slots ≡ false → IsReadAs Strong line line
line_same Strong line words slots behind e cut none =
    inl ((λ others are. ap (list_any is_weak) (slots_one (words_in line) others slots are (subst (λ ws. AreSlotsOf ws slots) e (cut.0, cut.1, cut.2))) ∙ none), refl)

spaced_two : (one other : List (List ℕ)) → spaced (one ++ other) ≡ spaced one ++ spaced other
spaced_two one other = flat_map-append (λ w. 32 ∷ w) one other

pub line_plain : (Strong : List ℕ → Type 0) (line : List ℕ) (words : List (List ℕ)) (slots : List Slot) (behind head rest : List (List ℕ)) (first start a b c end : List ℕ) → words ≡ words_in line
    → AreCut words slots behind → list_any is_weak slots ≡ true → head ≡ take 3 words → head ≡ first ∷ rest → a ≡ start ++ first → b ≡ a ++ spaced rest
    → (targets : List (List ℕ)) × AllZip (IsWordFor Strong) slots targets × (c ≡ b ++ spaced targets) → end ≡ c ++ spaced behind
    → (other : List ℕ) × IsReadAs Strong line other × (end ≡ start ++ other)
line_plain Strong line words slots behind head rest first start a b c end e cut some is cons one two three four = (
  other,
  inr (
    cut.0,
    three.0,
    subst (λ ws. HasSlots ws cut.0) e cut.1,
    ap (list_any is_weak) (sym slots_are) ∙ some,
    subst (λ s. AllZip (IsWordFor Strong) s three.0) slots_are three.1,
    sym (joined first (rest ++ (three.0 ++ behind))) ∙ ap (join_with_byte 32) together,
  ),
  four ∙ ap (λ l. l ++ spaced behind) (three.2 ∙ ap (λ l. l ++ spaced three.0) (two ∙ ap (λ l. l ++ spaced rest) one)) ∙ spread,
)
  where
    other : List ℕ
    other = first ++ spaced (rest ++ (three.0 ++ behind))

    slots_are : slots ≡ slots_in cut.0 (content_of (words_in line))
    slots_are = cut.2 ∙ ap (λ ws. slots_in cut.0 (content_of ws)) e

    together : first ∷ (rest ++ (three.0 ++ behind)) ≡ take 3 (words_in line) ++ (three.0 ++ behind_slots cut.0 (content_of (words_in line)))
    together = ap (λ l. l ++ (three.0 ++ behind)) (sym cons ∙ is ∙ ap (take 3) e) ∙ ap (λ l. take 3 (words_in line) ++ (three.0 ++ l)) (cut.3 ∙ ap (λ ws. behind_slots cut.0 (content_of ws)) e)

    inner : spaced (rest ++ (three.0 ++ behind)) ≡ spaced rest ++ (spaced three.0 ++ spaced behind)
    inner = spaced_two rest (three.0 ++ behind) ∙ ap (λ l. spaced rest ++ l) (spaced_two three.0 behind)

    spread : (((start ++ first) ++ spaced rest) ++ spaced three.0) ++ spaced behind ≡ start ++ (first ++ spaced (rest ++ (three.0 ++ behind)))
    spread = append_assoc ((start ++ first) ++ spaced rest) (spaced three.0) (spaced behind) ∙ append_assoc (start ++ first) (spaced rest) (spaced three.0 ++ spaced behind)
        ∙ append_assoc start first (spaced rest ++ (spaced three.0 ++ spaced behind)) ∙ ap (λ l. start ++ (first ++ l)) (sym inner)

-- A TEXT IS READ AS ANOTHER ONE, if it is UTF-8
pub without_text : {V : Type 0} (items : V → List ℕ) (text : List ℕ) (r : Option V) → MatchOption r (All IsUtf8 (parts_of text) → ⊥) (λ _. All IsUtf8 (parts_of text))
    → IfSome r (λ v. (parts : List (List ℕ)) × AllZip (IsReadAs (IsStrong (map words_in (parts_of text)))) (parts_of text) parts × (items v ≡ join_with_byte 10 parts))
    → MatchOption r (IsWithoutWeak text text) (λ v. IsWithoutWeak text (items v))
without_text items text None broken h = record { lines = λ all. absurd (broken all); bytes = λ none. refl }
without_text items text (Some v) all h = record { lines = λ utf8. h; bytes = λ none. absurd (none all) }

-- A TEXT WITHOUT `weak` stays as it is

-- part of a list
IsPart : List ℕ → List ℕ → Type 0
IsPart xs part = (front back : List ℕ) × (xs ≡ front ++ (part ++ back))

abbrev pub IsFront : List ℕ → List ℕ → Type 0
IsFront xs part = (back : List ℕ) × (xs ≡ part ++ back)

both : (a b : Bool) → (a && b) ≡ true → a ≡ true
both true b e = refl
both false b e = absurd (false≢true e)

word_weak : (word : List ℕ) (words : List (List ℕ)) → begins_weak word words ≡ true → word ≡ codes "weak"
word_weak word [] e = absurd (false≢true e)
word_weak word (next ∷ words) e = (bytes_eq-Decides word (codes "weak")).0 (both (bytes_eq word (codes "weak")) (not (bytes_eq next (codes ".."))) e)

weak_word : (n : ℕ) (words : List (List ℕ)) → list_any is_weak (slots_in n words) ≡ true → Contains words (codes "weak")
weak_word zero words e = absurd (false≢true e)
weak_word (suc n) [] e = absurd (false≢true e)
weak_word (suc n) (word ∷ words) e = at (begins_weak word words) refl (weak_word n words) e
  where
    at : (b : Bool) → begins_weak word words ≡ b → (list_any is_weak (slots_in n words) ≡ true → Contains words (codes "weak"))
        → list_any is_weak (cond b (weak_slot (get_or words 0 []) ∷ slots_in n (drop 1 words)) (plain_slot word ∷ slots_in n words)) ≡ true → Contains (word ∷ words) (codes "weak")
    at true b rest e = (zero, omega arith, word_weak word words b)
    at false b rest e = let m = rest e in (suc m.0, omega (arith, m.1), m.2)

in_drop : (n : ℕ) (words : List (List ℕ)) (word : List ℕ) → Contains (drop n words) word → Contains words word
in_drop zero xs x h = h
in_drop (suc n) [] x h = h
in_drop (suc n) (y ∷ xs) x h = let m = in_drop n xs x h in (suc m.0, omega (arith, m.1), m.2)

module _ (test : ℕ → Bool) where
  first_onto : (x : ℕ) (xs : List ℕ) (parts : List (List ℕ)) (part : List ℕ) (more : List (List ℕ)) → ((p : List ℕ) (ps : List (List ℕ)) → parts ≡ p ∷ ps → IsFront xs p)
      → onto_first x parts ≡ part ∷ more → IsFront (x ∷ xs) part
  first_onto x xs [] part more rest e = (xs, ap (λ l. l ++ xs) (ap (λ ps. get_or ps 0 []) e))
  first_onto x xs (p ∷ ps) part more rest e = let r = rest p ps refl in (r.0, ap (λ l. x ∷ l) r.1 ∙ ap (λ l. l ++ r.0) (ap (λ qs. get_or qs 0 []) e))

  first_is_front : (xs part : List ℕ) (more : List (List ℕ)) → slice_split test xs ≡ part ∷ more → IsFront xs part
  first_is_front [] part more e = ([], ap (λ l. l ++ []) (ap (λ ps. get_or ps 0 []) e))
  first_is_front (x ∷ xs) part more e = at (test x) (first_is_front xs) e
    where
      at : (b : Bool) → ((p : List ℕ) (ps : List (List ℕ)) → slice_split test xs ≡ p ∷ ps → IsFront xs p) → cond b ([] ∷ slice_split test xs) (onto_first x (slice_split test xs)) ≡ part ∷ more → IsFront (x ∷ xs) part
      at true rest e = (x ∷ xs, ap (λ l. l ++ x ∷ xs) (ap (λ ps. get_or ps 0 []) e))
      at false rest e = first_onto x xs (slice_split test xs) part more rest e

  in_onto : (x : ℕ) (xs part : List ℕ) (parts : List (List ℕ)) → ((p : List ℕ) (ps : List (List ℕ)) → parts ≡ p ∷ ps → IsFront xs p) → (Contains parts part → IsPart xs part)
      → Contains (onto_first x parts) part → IsPart (x ∷ xs) part
  unfolding IsPart
  in_onto x xs part [] front rest (zero, b, e) = ([], xs, ap (λ l. l ++ xs) e)
  in_onto x xs part [] front rest (suc k, b, e) = absurd (omega (arith, b))
  in_onto x xs part (p ∷ ps) front rest (zero, b, e) = let f = front p ps refl in ([], f.0, ap (λ l. x ∷ l) f.1 ∙ ap (λ l. l ++ f.0) e)
  in_onto x xs part (p ∷ ps) front rest (suc k, b, e) = let r = rest (suc k, omega (arith, b), e) in (x ∷ r.0, r.1, ap (λ l. x ∷ l) r.2)

  part_of_split : (xs part : List ℕ) → Contains (slice_split test xs) part → IsPart xs part
  unfolding IsPart
  part_of_split [] part (zero, b, e) = ([], [], ap (λ l. l ++ []) e)
  part_of_split [] part (suc k, b, e) = absurd (omega (arith, b))
  part_of_split (x ∷ xs) part h = at (test x) (part_of_split xs part) h
    where
      at : (b : Bool) → (Contains (slice_split test xs) part → IsPart xs part) → Contains (cond b ([] ∷ slice_split test xs) (onto_first x (slice_split test xs))) part → IsPart (x ∷ xs) part
      at true rest (zero, b, e) = ([], x ∷ xs, ap (λ l. l ++ x ∷ xs) e)
      at true rest (suc k, b, e) = let r = rest (k, omega (arith, b), e) in (x ∷ r.0, r.1, ap (λ l. x ∷ l) r.2)
      at false rest h = in_onto x xs part (slice_split test xs) (first_is_front xs) rest h

occurs : (text part word : List ℕ) → IsPart text part → IsPart part word → (k : ℕ) × OccursAt text word k
unfolding IsPart
occurs text part word p q =
    let front = p.0 ++ q.0 in
    let back = q.1 ++ p.1 in
    let same : text ≡ front ++ (word ++ back) = p.2 ∙ ap (λ l. p.0 ++ (l ++ p.1)) q.2 ∙ ap (λ l. p.0 ++ l) (append_assoc q.0 (word ++ q.1) p.1 ∙ ap (λ l. q.0 ++ l) (append_assoc word q.1 p.1)) ∙ sym (append_assoc p.0 q.0 (word ++ back)) in
    let total : length text ≡ length front + (length word + length back) = ap length same ∙ length-append front (word ++ back) ∙ ap (λ n. length front + n) (length-append word back) in (
      length front,
      record {
        fits = omega (arith, total);
        reads = λ j lt. ap (λ l. get_or l (length front + j) 0) same ∙ get_or-append-add front (word ++ back) j 0 ∙ get_or_append_left word back 0 j lt;
      },
    )

-- what a search found that found nothing
pub none_found : (text : List ℕ) (r : Option ℕ) (none : Bool) → FindsNeedle text (codes "weak") 0 r → is_some r ≡ not none → none ≡ true → Nowhere (OccursAt text (codes "weak")) 0 (length text + 1)
none_found text None none finds e t = finds
none_found text (Some k) none finds e t = absurd (false≢true (sym (ap not t) ∙ sym e))

module _ (text : List ℕ) (nowhere : Nowhere (OccursAt text (codes "weak")) 0 (length text + 1)) where
  no_word : (part : List ℕ) → Contains (parts_of text) part → Contains (words_in part) (codes "weak") → ⊥
  no_word part p w =
      let at = occurs text part (codes "weak") (part_of_split (λ b. eqb b 10) text part p)
      (part_of_split is_ascii_whitespace part (codes "weak") (filter_member has_byte (slice_split is_ascii_whitespace part) (codes "weak") w).0) in
      let fits = at.1.fits in
      nowhere at.0 (omega arith) (omega (arith, fits)) at.1

  not_weak : (part : List ℕ) → Contains (parts_of text) part → (b : Bool) (slots : List Slot) → AreSlotsOf (words_in part) slots → list_any is_weak slots ≡ b → b ≡ false
  not_weak part p false slots are e = refl
  not_weak part p true slots are e =
      absurd (no_word part p (in_drop 3 (words_in part) (codes "weak") (weak_word are.0 (content_of (words_in part)) (ap (list_any is_weak) (sym are.2) ∙ e))))

  same_lines : (Strong : List ℕ → Type 0) (parts : List (List ℕ)) → ((part : List ℕ) → Contains parts part → Contains (parts_of text) part) → AllZip (IsReadAs Strong) parts parts
  same_lines Strong [] all = tt
  same_lines Strong (part ∷ parts) all =
      (inl ((λ slots are. let e = not_weak part (all part (zero, omega arith, refl)) (list_any is_weak slots) slots are refl in e), refl), same_lines Strong parts (λ p h. all p (suc h.0, omega (arith, h.1), h.2)))

  pub same_text : IsWithoutWeak text text
  same_text = record {
    lines = λ all. (parts_of text, same_lines (IsStrong (map words_in (parts_of text))) (parts_of text) (λ p h. h), sym (join_with_byte-slice_split 10 text));
    bytes = λ none. refl;
  }
