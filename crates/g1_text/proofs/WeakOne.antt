-- A text with weak references is read as one text.
use Rattle.std.proofs.Common.{◌≡◌, inl, inr, ℕ, suc, Bool, true, false, List, [], ◌∷◌, ◌++◌, map, take, All, IsUtf8, refl, sym, ◌∙◌, ap, subst, arith}
use Rattle.std.specs.List.{AllZip, list_any, join_with_byte}
use Rattle.std.specs.Str.{bytes_eq}
use Rattle.std.proofs.lemmas.Bool.{false≢true}
use Rattle.std.proofs.lemmas.Slice.Eq.{bytes_eq-Decides}
use Rattle.std.proofs.lemmas.List.Splits.{join_with_byte-slice_split}
use Rattle.g1_text.specs.Reading.{words_in, parts_of}
use Rattle.g1_text.specs.Weak.{Slot, is_weak, slots_in, behind_slots, content_of, AreSlotsOf, IsWordFor, IsStrong, IsReadAs}
use Rattle.g1_text.specs.Laws.{TextsReadOne, PlainTextsStay}
use Rattle.g1_text.proofs.Marks.{count_one}

-- texts of which it is absurd that they differ are the same
stable : (a b : List ℕ) → ((a ≡ b → ⊥) → ⊥) → a ≡ b
stable a b not_not = at (bytes_eq a b) refl
  where
    at : (t : Bool) → bytes_eq a b ≡ t → a ≡ b
    at true e = (bytes_eq-Decides a b).0 e
    at false e = absurd (not_not (λ same. false≢true (sym e ∙ (bytes_eq-Decides a b).1 same)))

zip_one : {A : Type 0} (R : A → List ℕ → Type 0) → ((x : A) (a b : List ℕ) → R x a → R x b → a ≡ b) → (xs : List A) (vs ws : List (List ℕ)) → AllZip R xs vs → AllZip R xs ws → vs ≡ ws
zip_one R one [] [] [] p q = refl
zip_one R one [] [] (b ∷ ws) p q = absurd q
zip_one R one [] (a ∷ vs) ws p q = absurd p
zip_one R one (x ∷ xs) [] ws p q = absurd p
zip_one R one (x ∷ xs) (a ∷ vs) [] p q = absurd q
zip_one R one (x ∷ xs) (a ∷ vs) (b ∷ ws) p q =
    let first = one x a b p.0 q.0 in
    let rest = zip_one R one xs vs ws p.1 q.1 in
    λ i. first i ∷ rest i

module _ (Strong : List ℕ → Type 0) where
  word_if : (b : Bool) (t v w : List ℕ) → IsWordFor Strong (record { weak = b; target = t }) v → IsWordFor Strong (record { weak = b; target = t }) w → v ≡ w
  word_if false t v w p q = p ∙ sym q
  word_if true t v w (inl p) (inl q) = p.1 ∙ sym q.1
  word_if true t v w (inl p) (inr q) = absurd (q.0 p.0)
  word_if true t v w (inr p) (inl q) = absurd (p.0 q.0)
  word_if true t v w (inr p) (inr q) = p.1 ∙ sym q.1

  word_one : (slot : Slot) (v w : List ℕ) → IsWordFor Strong slot v → IsWordFor Strong slot w → v ≡ w
  word_one slot v w p q = word_if slot.weak slot.target v w p q

  line_one : (line a b : List ℕ) → IsReadAs Strong line a → IsReadAs Strong line b → a ≡ b
  line_one line a b (inl p) (inl q) = p.1 ∙ sym q.1
  line_one line a b (inl p) (inr q) = absurd (false≢true (sym (p.0 (slots_in q.0 (content_of (words_in line))) (q.0, q.2, refl)) ∙ q.3))
  line_one line a b (inr p) (inl q) = absurd (false≢true (sym (q.0 (slots_in p.0 (content_of (words_in line))) (p.0, p.2, refl)) ∙ p.3))
  line_one line a b (inr p) (inr q) =
      let count = count_one (words_in line) p.0 q.0 p.2 q.2 in
      let words : p.1 ≡ q.1 = zip_one (IsWordFor Strong) word_one (slots_in q.0 (content_of (words_in line))) p.1 q.1
      (subst (λ n. AllZip (IsWordFor Strong) (slots_in n (content_of (words_in line))) p.1) count p.4) q.4 in
      p.5 ∙ ap (λ ws. join_with_byte 32 (take 3 (words_in line) ++ (ws ++ behind_slots p.0 (content_of (words_in line))))) words
      ∙ ap (λ n. join_with_byte 32 (take 3 (words_in line) ++ (q.1 ++ behind_slots n (content_of (words_in line))))) count ∙ sym q.5

  -- lines without weak slots stay
  plain_lines : (lines others : List (List ℕ)) → All (λ line. (slots : List Slot) → AreSlotsOf (words_in line) slots → list_any is_weak slots ≡ false) lines
      → AllZip (IsReadAs Strong) lines others → others ≡ lines
  plain_lines [] [] plain all = refl
  plain_lines [] (b ∷ others) plain all = absurd all
  plain_lines (line ∷ lines) [] plain all = absurd all
  plain_lines (line ∷ lines) (other ∷ others) plain all =
      let first : other ≡ line = line_one line other line all.0 (inl (plain 0 [] (omega arith), refl)) in
      let rest = plain_lines lines others (λ k d lt. plain (suc k) d (omega (arith, lt))) all.1 in
      λ i. first i ∷ rest i

-- A TEXT IS READ AS ONE TEXT
pub texts_read_one : TextsReadOne
texts_read_one text a b p q = stable a b (λ differ. differ (broken (λ all. differ (whole all))))
  where
    whole : All IsUtf8 (parts_of text) → a ≡ b
    whole all =
        let x = p.lines all in
        let y = q.lines all in
        x.2 ∙ ap (join_with_byte 10) (zip_one (IsReadAs (IsStrong (map words_in (parts_of text)))) (line_one (IsStrong (map words_in (parts_of text)))) (parts_of text) x.0 y.0 x.1 y.1) ∙ sym y.2

    broken : (All IsUtf8 (parts_of text) → ⊥) → a ≡ b
    broken none = p.bytes none ∙ sym (q.bytes none)

-- A TEXT WITHOUT WEAK SLOTS STAYS
pub plain_texts_stay : PlainTextsStay
plain_texts_stay text other plain p = stable other text (λ differ. differ (p.bytes (λ all. differ (whole all))))
  where
    whole : All IsUtf8 (parts_of text) → other ≡ text
    whole all =
        let x = p.lines all in
        x.2 ∙ ap (join_with_byte 10) (plain_lines (IsStrong (map words_in (parts_of text))) (parts_of text) x.0 plain x.1) ∙ join_with_byte-slice_split 10 text
