-- What is read of the values that clap found.
use Rattle.std.proofs.Common.{◌≡◌, ◌≢◌, ◌∙◌, ◌<◌, ◌+◌, ◌++◌, ℕ, zero, suc, List, [], ◌∷◌, length, get_or, take, map, Bool, true, false, Option, Some, None, is_some, ◌^◌, refl, sym, ap, subst, eqb, ne_eqb, arith}
use Rattle.std.specs.Prelude.{String, codes, option_map, unwrap_or}
use Rattle.std.specs.Borrow.{Bor}
use Rattle.std.specs.List.{All, IsDistinct, join_with_byte, slice_split}
use Rattle.std.proofs.lemmas.List.{map-append, take_more}
use Rattle.std.proofs.lemmas.List.Splits.{join_with_byte-slice_split, slice_split_at, slice_split_none}
use Rattle.std.proofs.lemmas.Str.Parse.{not_in_digits}
use Rattle.std.proofs.lemmas.Str.Pattern.{IsSplitOnceResult, split_parts}
use Rattle.clap.specs.Words.{Row, Text, first_of, first_value, matched_of, one_text, raw_values, rows_of}
use Rattle.g1_command.specs.Values.{IfGiven, IsBelow, IsNumber, texts_of}
use Rattle.g1heap_request.specs.declared.dump.HeapSizes.{HeapSizes}
use Rattle.g1heap_request.specs.declared.options.ImageAfter.{ImageAfter}
use Rattle.g1heap_request.specs.Asks.{AreSizesIn, IsBesideNone, IsImageAfter}
use Rattle.g1_command.specs.Lists.{AreRegionsIn}
use Rattle.g1heap_request.specs.Wrong.{AreNoSizes}
use Rattle.clap.specs.declared.parser.matches.Found.{Found}
use Rattle.clap.proofs.WalkLemmas.{first_value-rows, one_text-rows, raw_values-rows}
use Rattle.g1heap_request.specs.Values.{GoesTo, IsCount, IsFlag, IsNameOf, standard}
use Rattle.g1_words.proofs.Numerals.{by_value}

-- a flag, as it was got
pub flag_got : (f : Found) (id : Text) (b : Bool) → (one_text f id ≡ None → b ≡ false) → (one_text f id ≡ Some (codes "true") → b ≡ true)
    → (one_text f id ≡ Some (codes "false") → b ≡ false) → IsFlag (rows_of f) id b
flag_got f id b absent on off = (λ e. absent (one_text-rows f id ∙ e), λ e. on (one_text-rows f id ∙ e), λ e. off (one_text-rows f id ∙ e))

-- the first value of an option, as it was got
module _ (f : Found) (id : Text) (got : Option (Bor Text)) (is : option_map (λ s. s.now) got ≡ first_value f id) where
  pub first_got : option_map (λ s. s.now) got ≡ first_of id (rows_of f)
  first_got = is ∙ first_value-rows f id

  pub given_got : is_some got ≡ is_some (first_of id (rows_of f))
  given_got = by got ∙ ap is_some first_got
    where
      by : (o : Option (Bor Text)) → is_some o ≡ is_some (option_map (λ s. s.now) o)
      by None = refl
      by (Some s) = refl

  pub name_got : (d u : Bor Text) → u ≡ unwrap_or got d → d.now ≡ standard → IsNameOf (rows_of f) id u.now
  name_got d u e dash = ap (λ (s : Bor Text). s.now) e ∙ by got ∙ ap (λ o. unwrap_or o d.now) first_got ∙ ap (unwrap_or (first_of id (rows_of f))) dash
    where
      by : (o : Option (Bor Text)) → (unwrap_or o d).now ≡ unwrap_or (option_map (λ s. s.now) o) d.now
      by None = refl
      by (Some s) = refl

-- all its values, as they were got
module _ (f : Found) (id : Text) (got : Option (Bor (List (Bor Text)))) (is : option_map (λ s. map (λ v. v.now) s.now) got ≡ option_map raw_values (matched_of f id)) where
  texts_are : (o : Option (Bor (List (Bor Text)))) → got ≡ o → unwrap_or (option_map (λ s. map (λ v. v.now) s.now) o) [] ≡ texts_of (rows_of f) id
  texts_are o e = ap (λ x. unwrap_or (option_map (λ (s : Bor (List (Bor Text))). map (λ v. v.now) s.now) x) []) (sym e) ∙ ap (λ x. unwrap_or x []) (is ∙ raw_values-rows f id)

  pub no_texts : got ≡ None → [] ≡ texts_of (rows_of f) id
  no_texts e = texts_are None e

  pub some_texts : (s : Bor (List (Bor Text))) → got ≡ Some s → map (λ v. v.now) s.now ≡ texts_of (rows_of f) id
  some_texts s e = texts_are (Some s) e

-- no lists name no regions
pub no_lists : AreRegionsIn [] []
unfolding IsDistinct
no_lists = record { of_parts = []; named = tt; in_order = refl; once = tt }

-- an option that says nothing isn't there
pub not_given : (Says : ℕ → Text → Type 0) (o : Option Text) (n : Option ℕ) → n ≡ None → IfGiven Says o n → o ≡ None
not_given Says None n e h = refl
not_given Says (Some t) None e h = absurd h
not_given Says (Some t) (Some n) e h = absurd (none≢some e)
  where
    none≢some : {n : ℕ} → Some n ≡ None → ⊥
    none≢some {n} e = subst (λ (o : Option ℕ). elim o as (λ _. Type 0) [ None ↦ ⊥ | Some _ ↦ Unit {0} ]) e tt

-- a number that isn't 0 counts
pub counts : (o : Option Text) (n : Option ℕ) → IfGiven IsNumber o n → (n ≢ Some 0) → IfGiven IsCount o n
counts None None h k = tt
counts None (Some n) h k = absurd h
counts (Some t) None h k = absurd h
counts (Some t) (Some n) h k = (h, λ e. k (ap Some e))

-- texts that are read in turn
pub texts_more : {Z : Type 0} (texts more : List (String Z)) (s : String Z) (xs : List (Bor Text)) (i : ℕ) (d : Bor Text) → i < length xs → more ≡ texts ++ s ∷ []
    → map (λ t. t.bytes.items) texts ≡ map (λ v. v.now) (take i xs) → s.bytes.items ≡ (get_or xs i d).now → map (λ t. t.bytes.items) more ≡ map (λ v. v.now) (take (i + 1) xs)
texts_more texts more s xs i d lt pushed so_far is =
    ap (map (λ t. t.bytes.items)) pushed ∙ map-append (λ t. t.bytes.items) texts (s ∷ []) ∙ ap (λ l. l ++ s.bytes.items ∷ []) so_far ∙ ap (λ t. map (λ (v : Bor Text). v.now) (take i xs) ++ t ∷ []) is
    ∙ sym (map-append (λ (v : Bor Text). v.now) (take i xs) (get_or xs i d ∷ [])) ∙ ap (map (λ (v : Bor Text). v.now)) (sym (take_more xs i d lt))

-- a text without a comma is its own only part
no_comma : (bs : Text) → ((i : ℕ) → i < length bs → get_or bs i 0 ≢ 44) → All (λ b. eqb b 44 ≡ false) bs
no_comma bs lacks k d lt = ne_eqb _ 44 (λ e. lacks k lt (same bs k d lt ∙ e))
  where
    same : (xs : List ℕ) (k d : ℕ) → k < length xs → get_or xs k 0 ≡ get_or xs k d
    same [] k d lt = absurd (omega (arith, lt))
    same (x ∷ xs) zero d lt = refl
    same (x ∷ xs) (suc k) d lt = same xs k d (omega (arith, lt))

-- the number that a text is, is one number
pub same_number : (m n : ℕ) (text : Text) → IsNumber m text → IsNumber n text → m ≡ n
same_number m n text a b = sym a.1 ∙ b.1

cut : (text : Text) (x : Bor Text × Bor Text) → IsSplitOnceResult 44 text (Some x) → slice_split (λ b. eqb b 44) text ≡ x.0.now ∷ slice_split (λ b. eqb b 44) x.1.now
cut text x h =
    let k = split_parts 44 text (Some x) h (omega arith) in
    ap (slice_split (λ b. eqb b 44)) k.0 ∙ slice_split_at (λ b. eqb b 44) x.0.now 44 x.1.now (no_comma x.0.now k.1) refl

-- a text that was cut at two commas, with a number in each part
pub three_numbers : (text : Text) (x y : Bor Text × Bor Text) → IsSplitOnceResult 44 text (Some x) → IsSplitOnceResult 44 x.1.now (Some y)
    → (sizes : HeapSizes) → IsNumber sizes.region_words x.0.now → IsNumber sizes.card_words y.0.now → IsNumber sizes.regions y.1.now → AreSizesIn (slice_split (λ b. eqb b 44) text) sizes
three_numbers text x y h k sizes words card count =
    let alone = slice_split_none (λ b. eqb b 44) y.1.now (no_comma y.1.now (not_in_digits by_value y.1.now 44 count.0.1 (λ q. let low = q.0 in omega (arith, low)))) in
    subst (λ parts. AreSizesIn parts sizes) (sym (cut text x h ∙ ap (λ l. x.0.now ∷ l) (cut x.1.now y k ∙ ap (λ l. y.0.now ∷ l) alone))) (words, card, count)

-- a text that was not cut at two commas, or has no number in one of its parts, is no sizes
uncut : (text : Text) → IsSplitOnceResult 44 text None → slice_split (λ b. eqb b 44) text ≡ text ∷ []
uncut text h = slice_split_none (λ b. eqb b 44) text (no_comma text (split_parts 44 text None h (omega arith)))

pub one_part : (text : Text) → IsSplitOnceResult 44 text None → AreNoSizes text
one_part text h = λ sizes s. subst (λ parts. AreSizesIn parts sizes) (uncut text h) s

-- the parts of three numbers
are_three : (a b : Text) (rest : List Text) (sizes : HeapSizes) → AreSizesIn (a ∷ b ∷ rest) sizes
    → (c : Text) × (rest ≡ c ∷ []) × IsNumber sizes.region_words a × IsNumber sizes.card_words b × IsNumber sizes.regions c
are_three a b [] sizes s = absurd s
are_three a b (c ∷ []) sizes s = (c, refl, s.0, s.1, s.2)
are_three a b (c ∷ d ∷ more) sizes s = absurd s

module _ (text : Text) (x : Bor Text × Bor Text) (first : IsSplitOnceResult 44 text (Some x)) where
  pub two_parts : IsSplitOnceResult 44 x.1.now None → AreNoSizes text
  two_parts k = λ sizes s. subst (λ parts. AreSizesIn parts sizes) (cut text x first ∙ ap (λ l. x.0.now ∷ l) (uncut x.1.now k)) s

  module _ (y : Bor Text × Bor Text) (second : IsSplitOnceResult 44 x.1.now (Some y)) where
    three_parts : (sizes : HeapSizes) → AreSizesIn (slice_split (λ b. eqb b 44) text) sizes
        → (c : Text) × (slice_split (λ b. eqb b 44) y.1.now ≡ c ∷ []) × IsNumber sizes.region_words x.0.now × IsNumber sizes.card_words y.0.now × IsNumber sizes.regions c
    three_parts sizes s =
        are_three x.0.now y.0.now (slice_split (λ b. eqb b 44) y.1.now) sizes
        (subst (λ parts. AreSizesIn parts sizes) (cut text x first ∙ ap (λ l. x.0.now ∷ l) (cut x.1.now y second)) s)

    pub no_words : (IsBelow (2 ^ 64) x.0.now → ⊥) → AreNoSizes text
    no_words bad = λ sizes s. bad (sizes.region_words, (three_parts sizes s).2)

    pub no_card : (IsBelow (2 ^ 64) y.0.now → ⊥) → AreNoSizes text
    no_card bad = λ sizes s. bad (sizes.card_words, (three_parts sizes s).3)

    pub no_regions : (IsBelow (2 ^ 64) y.1.now → ⊥) → AreNoSizes text
    no_regions bad = λ sizes s.
        let parts = three_parts sizes s in
        let alone : parts.0 ≡ y.1.now = ap (join_with_byte 44) (sym parts.1) ∙ join_with_byte-slice_split 44 y.1.now in
        bad (sizes.regions, subst (IsNumber sizes.regions) alone parts.4)

-- the number and the file of an image after a command
pub image_got : (texts : List Text) (xs : List (Bor Text)) (d e : Bor Text) → map (λ v. v.now) xs ≡ texts → length xs ≡ 2
    → (after : ImageAfter) → IsCount after.command (get_or xs 0 d).now → GoesTo (Some (get_or xs 1 e).now) after.output → IsImageAfter texts (Some after)
image_got texts [] d e is two after count goes = absurd (omega (arith, two))
image_got texts (x ∷ []) d e is two after count goes = absurd (omega (arith, two))
image_got texts (x ∷ y ∷ []) d e is two after count goes = subst (λ ts. IsImageAfter ts (Some after)) is (count, goes)
image_got texts (x ∷ y ∷ z ∷ xs) d e is two after count goes = absurd (omega (arith, two))

pub no_image_got : (texts : List Text) (xs : List (Bor Text)) → map (λ v. v.now) xs ≡ texts → length xs ≢ 2 → IsImageAfter texts None
no_image_got texts [] is other = subst (λ ts. IsImageAfter ts None) is tt
no_image_got texts (x ∷ []) is other = subst (λ ts. IsImageAfter ts None) is tt
no_image_got texts (x ∷ y ∷ []) is other = absurd (other refl)
no_image_got texts (x ∷ y ∷ z ∷ xs) is other = subst (λ ts. IsImageAfter ts None) is tt

-- words that are two are those at the first two places
pub two_texts : (texts : List Text) (xs : List (Bor Text)) (d e : Bor Text) → map (λ v. v.now) xs ≡ texts → length xs ≡ 2
    → texts ≡ (get_or xs 0 d).now ∷ (get_or xs 1 e).now ∷ []
two_texts texts [] d e is two = absurd (omega (arith, two))
two_texts texts (x ∷ []) d e is two = absurd (omega (arith, two))
two_texts texts (x ∷ y ∷ []) d e is two = sym is
two_texts texts (x ∷ y ∷ z ∷ xs) d e is two = absurd (omega (arith, two))

-- other texts than two have no file among replies
pub not_two : (rows : List Row) (texts : List Text) (xs : List (Bor Text)) → map (λ v. v.now) xs ≡ texts → length xs ≢ 2 → IsBesideNone rows texts
not_two rows texts [] is other = subst (IsBesideNone rows) is tt
not_two rows texts (x ∷ []) is other = subst (IsBesideNone rows) is tt
not_two rows texts (x ∷ y ∷ []) is other = absurd (other refl)
not_two rows texts (x ∷ y ∷ z ∷ xs) is other = subst (IsBesideNone rows) is tt
