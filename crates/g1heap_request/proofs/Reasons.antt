-- Why the values of a command are no request, from what is wrong with one of them.
use Rattle.std.proofs.Common.{◌≡◌, ◌∙◌, ◌⊎◌, inl, inr, ◌<◌, ◌^◌, ℕ, List, [], ◌∷◌, Option, Some, None, refl, subst, arith, codes}
use Rattle.std.specs.List.{Any}
use Rattle.clap.specs.Words.{Row, Text, first_of}
use Rattle.g1_command.specs.Values.{IfGiven, IsBelow, IsNoNumberOf, IsNumber, cost_options, texts_of}
use Rattle.g1_answers.specs.Asked.{HasNoNumberOf, number_options, sharing_options}
use Rattle.g1_answers.proofs.Gathered.{any_before, wrong_cost, wrong_sharing}
use Rattle.std.proofs.lemmas.Bool.{true≢false}
use Rattle.g1_answers.specs.Asked.{AsksQuestion}
use Rattle.g1_answers.specs.declared.question.NewImage.{NewImage}
use Rattle.g1_answers.specs.declared.question.NewImage.TheVariants.{Repacked, Paused}
use Rattle.g1_answers.specs.declared.question.Question.{Question}
use Rattle.g1_answers.specs.declared.question.Question.TheVariants.{Regions, Cover, Live, Candidates}
use Rattle.g1heap_request.specs.Asks.{MakesImage}
use Rattle.g1heap_request.specs.Wrong.{HasRanges, IsRefused}
use Rattle.g1heap_request.specs.Wrong.IsRefused.{by_range, by_value}
use Rattle.g1heap_request.specs.InRange.{IsBetween, IsOutOfRange, IsOutside, IsWithin, MayCost}
use Rattle.g1heap_request.specs.InRange.IsOutOfRange.{byte, card, chunk, dirty, fixed, workers}
use Rattle.g1heap_request.specs.Wrong.{HasWrongValue}
use Rattle.g1heap_request.specs.Wrong.HasWrongValue.{no_number, no_count, no_command}
use Rattle.g1_work.specs.Team.{AreWorkers, IsChunk}
use Rattle.g1heap_request.proofs.Got.{same_number}

module _ (rows : List Row) where
  pub no_option : HasNoNumberOf number_options rows → HasWrongValue rows
  no_option bad = no_number (any_before (IsNoNumberOf rows) number_options (codes "object" ∷ codes "address" ∷ []) bad)

  pub no_sharing : HasNoNumberOf sharing_options rows → HasWrongValue rows
  no_sharing bad = no_option (wrong_sharing rows bad)

  pub no_cost : Any (IsNoNumberOf rows) cost_options → HasWrongValue rows
  no_cost bad = no_option (wrong_cost rows bad)

  pub no_budget : IsNoNumberOf rows (codes "budget") → HasWrongValue rows
  no_budget bad = no_number (6, codes "budget", omega arith, refl, bad)

  pub no_object : IsNoNumberOf rows (codes "object") → HasWrongValue rows
  no_object bad = no_number (7, codes "object", omega arith, refl, bad)

  pub no_address : IsNoNumberOf rows (codes "address") → HasWrongValue rows
  no_address bad = no_number (8, codes "address", omega arith, refl, bad)

  -- what is no number doesn't count, and 0 doesn't
  pub not_counted : IsNoNumberOf rows (codes "all") → HasWrongValue rows
  not_counted bad = no_count bad.0 bad.1 (λ n k. bad.2 (n, k.0))

  pub none_counted : (o : Option ℕ) → o ≡ Some 0 → IfGiven IsNumber (first_of (codes "all") rows) o → HasWrongValue rows
  none_counted o e h = go (first_of (codes "all") rows) refl (subst (IfGiven IsNumber (first_of (codes "all") rows)) e h)
    where
      go : (t : Option Text) → first_of (codes "all") rows ≡ t → IfGiven IsNumber t (Some 0) → HasWrongValue rows
      go None is h = absurd h
      go (Some text) is h = no_count text is (λ n k. k.1 (same_number n 0 text k.0 h))

  module _ (number file : Text) (are : texts_of rows (codes "image") ≡ number ∷ file ∷ []) where
    pub no_number_after : (IsBelow (2 ^ 64) number → ⊥) → HasWrongValue rows
    no_number_after bad = no_command number file are (λ n k. bad (n, k.0))

    pub zero_after : (m : ℕ) → m ≡ 0 → IsNumber m number → HasWrongValue rows
    zero_after m e h = no_command number file are (λ n k. k.1 (same_number n m number k.0 h ∙ e))

  -- a number that is none, or is out of its range
  module _ (option : Text) (least most : ℕ) (In : ℕ → Type 0) where
    out_so : ((n : ℕ) → In n → IsBetween least most n) → (IsNoNumberOf rows option → HasWrongValue rows) → (IsOutside In rows option → IsOutOfRange rows)
        → IsNoNumberOf rows option ⊎ IsOutside (IsBetween least most) rows option → HasWrongValue rows ⊎ IsOutOfRange rows
    out_so f none out (inl bad) = inl (none bad)
    out_so f none out (inr bad) = inr (out (bad.0, bad.1, λ o. bad.2 (f bad.0 o)))

    pub within_so : ((n : ℕ) → IsBetween least most n → In n) → IsWithin (IsBetween least most) rows option → IsWithin In rows option
    within_so f h = λ n g. f n (h n g)

  pub bad_workers : IsNoNumberOf rows (codes "workers") ⊎ IsOutside (IsBetween 1 64) rows (codes "workers") → HasWrongValue rows ⊎ IsOutOfRange rows
  bad_workers bad = out_so (codes "workers") 1 64 AreWorkers (λ n i. (omega (arith, i.0), i.1)) (λ b. no_number (0, codes "workers", omega arith, refl, b)) workers bad

  pub bad_chunk : IsNoNumberOf rows (codes "chunk") ⊎ IsOutside (IsBetween 1 65536) rows (codes "chunk") → HasWrongValue rows ⊎ IsOutOfRange rows
  bad_chunk bad = out_so (codes "chunk") 1 65536 IsChunk (λ n i. (omega (arith, i.0), i.1)) (λ b. no_number (1, codes "chunk", omega arith, refl, b)) chunk bad

  bad_cost : (option : Text) → (IsNoNumberOf rows option → HasWrongValue rows) → (IsOutside MayCost rows option → IsOutOfRange rows)
      → IsNoNumberOf rows option ⊎ IsOutside (IsBetween 0 4294967295) rows option → HasWrongValue rows ⊎ IsOutOfRange rows
  bad_cost option none out bad = out_so option 0 4294967295 MayCost may_cost none out bad
    where
      may_cost : (n : ℕ) → n < 4294967296 → IsBetween 0 4294967295 n
      may_cost n lt = (omega arith, omega (arith, lt))

  pub bad_fixed : IsNoNumberOf rows (codes "fixed") ⊎ IsOutside (IsBetween 0 4294967295) rows (codes "fixed") → HasWrongValue rows ⊎ IsOutOfRange rows
  bad_fixed bad = bad_cost (codes "fixed") (λ b. no_number (2, codes "fixed", omega arith, refl, b)) fixed bad

  pub bad_dirty : IsNoNumberOf rows (codes "dirty") ⊎ IsOutside (IsBetween 0 4294967295) rows (codes "dirty") → HasWrongValue rows ⊎ IsOutOfRange rows
  bad_dirty bad = bad_cost (codes "dirty") (λ b. no_number (3, codes "dirty", omega arith, refl, b)) dirty bad

  pub bad_card : IsNoNumberOf rows (codes "card") ⊎ IsOutside (IsBetween 0 4294967295) rows (codes "card") → HasWrongValue rows ⊎ IsOutOfRange rows
  bad_card bad = bad_cost (codes "card") (λ b. no_number (4, codes "card", omega arith, refl, b)) card bad

  pub bad_byte : IsNoNumberOf rows (codes "byte") ⊎ IsOutside (IsBetween 0 4294967295) rows (codes "byte") → HasWrongValue rows ⊎ IsOutOfRange rows
  bad_byte bad = bad_cost (codes "byte") (λ b. no_number (5, codes "byte", omega arith, refl, b)) byte bad

  pub are_workers : IsWithin (IsBetween 1 64) rows (codes "workers") → IsWithin AreWorkers rows (codes "workers")
  are_workers h = within_so (codes "workers") 1 64 AreWorkers (λ n i. (omega (arith, i.0), i.1)) h

  pub is_chunk : IsWithin (IsBetween 1 65536) rows (codes "chunk") → IsWithin IsChunk rows (codes "chunk")
  is_chunk h = within_so (codes "chunk") 1 65536 IsChunk (λ n i. (omega (arith, i.0), i.1)) h

  pub may_cost : (option : Text) → IsWithin (IsBetween 0 4294967295) rows option → IsWithin MayCost rows option
  may_cost option h = within_so option 0 4294967295 MayCost is_less h
    where
      is_less : (n : ℕ) → IsBetween 0 4294967295 n → n < 4294967296
      is_less n i = let most = i.1 in omega (arith, most)

-- the numbers of a command that asks a question, or makes an image, have ranges
pub asked_in_ranges : (name : Text) (rows : List Row) (question : Question) → AsksQuestion name rows question → HasRanges name rows
asked_in_ranges name rows (Regions sharing) h = λ none. absurd (none.1.0 h.0)
asked_in_ranges name rows Cover h = λ none. absurd (none.1.1 h)
asked_in_ranges name rows (Live sharing) h = λ none. absurd (none.1.2 h.0)
asked_in_ranges name rows (Candidates sharing cost budget) h = λ none. absurd (none.1.3 h.0)

pub made_in_ranges : (name : Text) (rows : List Row) (wanted : NewImage) → MakesImage name rows wanted → HasRanges name rows
made_in_ranges name rows (Repacked sharing) h = λ _. (λ none. true≢false (h.1.0 none), λ off. true≢false (h.1.2 off))
made_in_ranges name rows (Paused pause) h = λ none. absurd (none.0 h.0)

pub in_ranges : (name : Text) (rows : List Row) → HasRanges name rows → HasWrongValue rows ⊎ IsOutOfRange rows → IsRefused name rows
in_ranges name rows has (inl bad) = by_value bad
in_ranges name rows has (inr bad) = by_range has bad
