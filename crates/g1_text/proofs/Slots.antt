-- The words in the places of slots, one after the other.
use Rattle.std.proofs.Common.{◌≡◌, ℕ, zero, suc, ◌+◌, ◌-◌, ◌<◌, ◌≤◌, ◌^◌, Bool, true, false, ◌&&◌, List, [], ◌∷◌, ◌++◌, length, get_or, take, drop, if◌then◌else◌, All, refl, sym, ◌∙◌, ap, subst, eqb, arith}
use Rattle.std.specs.Prelude.{nat_lt}
use Rattle.std.specs.List.{slice_split, join_with_byte}
use Rattle.std.specs.Str.{all_ascii_digits}
use Rattle.std.specs.Str.Parse.{IsNumeral, digits_value}
use Rattle.std.proofs.lemmas.Bool.{false≢true, ne_eqb, lt-ltb, ltb-true, and_parts}
use Rattle.std.proofs.lemmas.List.{get_or_default}
use Rattle.std.proofs.lemmas.List.Splits.{slice_split_at, slice_split_none, join_with_byte-slice_split}
use Rattle.std.proofs.lemmas.Str.Parse.{not_in_digits}
use Rattle.g1_text.specs.Reading.{has_byte}
use Rattle.g1_text.specs.Forms.{Spells, HasSize}
use Rattle.g1_text.specs.Boxes.{is_numeral, is_number, slots_of_parts, slots_in, behind_weak, targets, slot_words}
use Rattle.g1_text.specs.Marked.{with_marked}
use Rattle.g1_text.proofs.Boxing.{marked_append}
use Rattle.g1_text.proofs.Numbers.{own}

-- TARGETS

none_left : (n : ℕ) → targets n [] ≡ []
none_left zero = refl
none_left (suc n) = none_left n

no_more : (n : ℕ) (words : List (List ℕ)) → behind_weak words ≡ [] → targets n words ≡ []
no_more zero words e = refl
no_more (suc n) words e = ap (λ ws. take 1 ws ++ targets n (drop 1 ws)) e ∙ none_left n

one_less : (n : ℕ) (words rest : List (List ℕ)) (word : List ℕ) → behind_weak words ≡ word ∷ rest → targets (suc n) words ≡ word ∷ targets n rest
one_less n words rest word e = ap (λ ws. take 1 ws ++ targets n (drop 1 ws)) e

-- one target is added, and so are the others
pub target_taken : (old new all : List (List ℕ)) (slots counter : ℕ) (before rest : List (List ℕ)) (word : List ℕ) → counter < slots
    → behind_weak before ≡ word ∷ rest
    → new ≡ with_marked old (word ∷ []) → with_marked old (targets (slots - counter) before) ≡ all
    → with_marked new (targets (slots - (counter + 1)) rest) ≡ all
target_taken old new all slots counter before rest word lt e put so_far =
    let n : slots - counter ≡ suc (slots - (counter + 1)) = omega (arith, lt) in
    let others = targets (slots - (counter + 1)) rest in
    ap (λ ws. with_marked ws others) put
    ∙ sym (marked_append old (word ∷ []) others)
    ∙ ap (with_marked old) (sym (ap (λ m. targets m before) n ∙ one_less (slots - (counter + 1)) before rest word e))
    ∙ so_far

-- no target is left
pub no_target : (old all : List (List ℕ)) (n : ℕ) (before : List (List ℕ)) → behind_weak before ≡ [] → with_marked old (targets n before) ≡ all → old ≡ all
no_target old all n before e so_far = ap (with_marked old) (sym (no_more n before e)) ∙ so_far

-- no slot is left
pub no_slot : (old all : List (List ℕ)) (slots counter : ℕ) (before : List (List ℕ)) → slots ≤ counter
    → with_marked old (targets (slots - counter) before) ≡ all → old ≡ all
no_slot old all slots counter before le so_far =
    let none : 0 ≡ slots - counter = omega (arith, le) in
    ap (λ m. with_marked old (targets m before)) none ∙ so_far

-- SIZE/SLOTS

no_slash : (bs : List ℕ) → IsNumeral 10 bs → All (λ b. eqb b 47 ≡ false) bs
no_slash bs h k d lt =
    ne_eqb (get_or bs k d) 47 (λ e. not_in_digits own bs 47 (own.from bs h.1) (λ q. let low = q.0 in absurd (omega (arith, low))) k lt
    (get_or_default bs k 0 d lt ∙ e))

some_byte : (bs : List ℕ) → 0 < length bs → has_byte bs ≡ true
some_byte [] lt = absurd (omega (arith, lt))
some_byte (b ∷ bs) lt = refl

byte_there : (bs : List ℕ) → has_byte bs ≡ true → 0 < length bs
byte_there [] e = absurd (false≢true e)
byte_there (b ∷ bs) e = omega arith

number_is : (n : ℕ) (bs : List ℕ) → Spells (2 ^ 64) n bs → is_number bs ≡ true
number_is n bs h =
    let some = some_byte bs h.0.0 in
    let digits = own.from bs h.0.1 in
    let small : digits_value 10 bs < 2 ^ 64 = subst (λ m. m < 2 ^ 64) (sym h.1) h.2 in
    let less = lt-ltb (digits_value 10 bs) (2 ^ 64) small in
    λ i. (some i && digits i) && less i

number_spells : (bs : List ℕ) → is_number bs ≡ true → Spells (2 ^ 64) (digits_value 10 bs) bs
number_spells bs e =
    let s = and_parts (is_numeral bs) (nat_lt (digits_value 10 bs) (2 ^ 64)) e in
    let d = and_parts (has_byte bs) (all_ascii_digits bs) s.0 in
    ((byte_there bs d.0, own.to bs d.1), refl, ltb-true (digits_value 10 bs) (2 ^ 64) s.1)

slots_said : (word : List ℕ) (size slots : ℕ) → HasSize size slots word → slots_in word ≡ slots
slots_said word size slots h =
    let front = number_is size h.0 h.3 in
    let back = number_is slots h.1 h.4 in
    let parts = ap (slice_split (λ b. eqb b 47)) h.2 ∙ slice_split_at (λ b. eqb b 47) h.0 47 h.1 (no_slash h.0 h.3.0) refl
    ∙ ap (λ ps. h.0 ∷ ps) (slice_split_none (λ b. eqb b 47) h.1 (no_slash h.1 h.4.0)) in
    ap slots_of_parts parts ∙ (λ i. if front i && back i then digits_value 10 h.1 else 0) ∙ h.4.1

no_slots_said : (word : List ℕ) → ((size slots : ℕ) → HasSize size slots word → ⊥) → slots_in word ≡ 0
no_slots_said word none = by (slice_split (λ b. eqb b 47) word) refl
  where
    test : (size slots : List ℕ) → join_with_byte 47 (size ∷ slots ∷ []) ≡ word → (b : Bool) → (is_number size && is_number slots) ≡ b
        → (if b then digits_value 10 slots else 0) ≡ 0
    test size slots e true t =
        let n = and_parts (is_number size) (is_number slots) t in
        absurd (none (digits_value 10 size) (digits_value 10 slots) (size, slots, sym e, number_spells size n.0, number_spells slots n.1))
    test size slots e false t = refl

    by : (parts : List (List ℕ)) → slice_split (λ b. eqb b 47) word ≡ parts → slots_of_parts parts ≡ 0
    by [] e = refl
    by (size ∷ []) e = refl
    by (size ∷ slots ∷ []) e = test size slots (ap (join_with_byte 47) (sym e) ∙ join_with_byte-slice_split 47 word) (is_number size && is_number slots) refl
    by (size ∷ slots ∷ part ∷ parts) e = refl

-- the slots' words of an object's line, by what its size says
pub slots_taken : (size : List ℕ) (content words : List (List ℕ)) (n slots : ℕ) → HasSize n slots size → words ≡ size ∷ content
    → slot_words words ≡ targets slots content
slots_taken size content words n slots h e = ap slot_words e ∙ ap (λ m. targets m content) (slots_said size n slots h)

pub no_slots_taken : (size : List ℕ) (content words : List (List ℕ)) → ((n slots : ℕ) → HasSize n slots size → ⊥) → words ≡ size ∷ content
    → slot_words words ≡ []
no_slots_taken size content words none e = ap slot_words e ∙ ap (λ m. targets m content) (no_slots_said size none)
