-- The claims of a round that survive are its new objects.
use Rattle.std.proofs.Common.{◌≡◌, ℕ, ◌<◌, ◌≤◌, ◌^◌, inl, inr, not, List, [], ◌∷◌, ◌++◌, filter, sym, refl, ap, ◌∙◌, arith, All, Contains, zero}
use Rattle.std.proofs.lemmas.List.Elements.{All-nil}
use Rattle.g1_claim.specs.declared.rule.Offer.{Offer}
use Rattle.g1_words.specs.Heap.{Heap}
use Rattle.g1_words.specs.Lists.{has}
use Rattle.g1_words.specs.Survivors.{firsts}
use Rattle.g1_words.specs.Valid.{IsValid}
use Rattle.g1_words.proofs.Ordered.{Ordered, Ordered-from_pairs}
use Rattle.g1_words.proofs.Lists.{all_in, all_from_in}
use Rattle.g1_words.proofs.Members.{cons_cases, none_contains}
use Rattle.g1_frontier.specs.declared.item.Item.{Item}
use Rattle.g1_frontier.specs.Items.{all_pairs}
use Rattle.g1_frontier.specs.Laws.{IsNextRound, Rounds, none, round, referenced, survivors_of, RoundFindsNew, WordsNumber, ObjectsNumber}
use Rattle.g1_frontier.specs.Numbers.{BeginsIn, IsNumbering}
use Rattle.g1_frontier.specs.Round.{AreAbove}
use Rattle.g1_frontier.specs.Search.{places_of}
use Rattle.g1_frontier.proofs.Assembly.{RankLess}
use Rattle.g1_frontier.proofs.Claimed.{all_begin}
use Rattle.g1_frontier.proofs.Finding.{new_found, found_on, claimed_on, ranks_on}
use Rattle.g1_frontier.proofs.Marks.{firsts_again}
use Rattle.g1_frontier.proofs.Numberings.{numbered_by_word, numbered_by_object}

-- a rank that is above all offered before, and no greater than those of a round
record Parts (before : List Offer) (ps : List (ℕ × ℕ)) : Type 0 where
  pub next : ℕ
  pub most : next ≤ 2 ^ 32
  pub below : All (λ o. o.rank < next) before
  pub above : (q : ℕ × ℕ) → Contains ps q → next ≤ q.0

parts : (before : List Offer) (ps : List (ℕ × ℕ)) → All (λ o. o.rank < 2 ^ 32) before → AreAbove before ps → ((q : ℕ × ℕ) → Contains ps q → q.0 < 2 ^ 32) → Ordered RankLess ps → Parts before ps
parts before [] low higher small rise = record { next = 2 ^ 32; most = (omega arith); below = low; above = (λ q i. absurd (none_contains q i)) }
parts before (p ∷ ps) low higher small rise = record {
  next = p.0;
  most = (let lt = small p (zero, omega arith, refl) in omega (arith, lt));
  below = (all_from_in (λ o. o.rank < p.0) before
      (λ o i. all_in (λ (q : ℕ × ℕ). o.rank < q.0) (p ∷ ps) p (all_in (λ o. All (λ (q : ℕ × ℕ). o.rank < q.0) (p ∷ ps)) before o higher i) (zero, omega arith, refl)));
  above = (λ q i. elim (cons_cases p ps q i) [ inl e ↦ (let r = ap (λ (x : ℕ × ℕ). x.0) e in omega (arith, r)) | inr k ↦ (let lt = rise.0 q k in omega (arith, lt)) ]);
}

module _ (h : Heap) (window : List ℕ) (count : ℕ) (number : ℕ → ℕ) (valid : IsValid h) (numbers : IsNumbering h window count number) where
  -- what is known between rounds: the places that were offered are those of what was found, each found once
  record Known (found : List ℕ) (offers : List Offer) : Type 0 where
    pub once : found ≡ firsts found
    pub claimed : (a : ℕ) → BeginsIn h window a → has (places_of offers) (number a) ≡ has found a
    pub low : All (λ o. o.rank < 2 ^ 32) offers

  apart : (a b : ℕ) → BeginsIn h window a → BeginsIn h window b → number b ≡ number a → b ≡ a
  apart a b t u e = numbers.apart a b t u e

  module _ (items : List Item) (found : List ℕ) (before after : List Offer) (known : Known found before) (next : IsNextRound h window number items before after) where
    abbrev ps : List (ℕ × ℕ)
    ps = all_pairs h window items

    climbs : Ordered RankLess ps
    climbs = Ordered-from_pairs RankLess ps next.rise

    within : (q : ℕ × ℕ) → Contains ps q → BeginsIn h window q.1
    within q i = all_begin h window items q valid next.are i

    small : (q : ℕ × ℕ) → Contains ps q → q.0 < 2 ^ 32
    small q i = all_in (λ (q : ℕ × ℕ). q.0 < 2 ^ 32) ps q next.ranks i

    low : (q : ℕ × ℕ) → Contains ps q → q.0 < 18446744073709551615
    low q i = let k = small q i in omega (arith, k)

    cut : Parts before ps
    cut = parts before ps known.low next.above small climbs

    finds : survivors_of h window number items after ≡ filter (λ a. not (has found a)) (firsts (referenced h window items))
    finds = new_found number (BeginsIn h window) apart ps found before after cut.next next.adds climbs low within cut.below cut.above known.claimed

    goes_on : Known (found ++ survivors_of h window number items after) after
    goes_on =
        let on = found_on number (BeginsIn h window) apart ps found before after cut.next next.adds climbs low within cut.below cut.above known.claimed known.once in record {
          once = on ∙ sym (firsts_again (found ++ referenced h window items)) ∙ ap firsts (sym on);
          claimed = claimed_on number (BeginsIn h window) apart ps found before after cut.next next.adds climbs low within cut.below cut.above known.claimed (found ++ survivors_of h window number items after) on;
          low = ranks_on number (BeginsIn h window) apart ps found before after cut.next next.adds climbs low within cut.below cut.above known.claimed (2 ^ 32) cut.most small;
        }

  known_after : (found : List ℕ) (offers : List Offer) → Rounds h window number found offers → Known found offers
  known_after _ _ none = record { once = refl; claimed = (λ a t. refl); low = All-nil (λ (o : Offer). o.rank < 2 ^ 32) }
  known_after _ _ (round found before after items rounds next) = goes_on items found before after (known_after found before rounds) next

pub round_finds_new : RoundFindsNew
round_finds_new h window count number items found before after valid regions numbers rounds next =
    finds h window count number valid numbers items found before after (known_after h window count number valid numbers found before rounds) next

pub words_number : WordsNumber
words_number h window valid regions = numbered_by_word h window valid regions

pub objects_number : ObjectsNumber
objects_number h window starts valid regions are = numbered_by_object h window valid regions starts are
