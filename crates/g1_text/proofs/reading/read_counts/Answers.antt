use Rattle.std.proofs.Common.{◌≡◌, ◌≢◌, ℕ, Bool, List, ◌∷◌, get_or, ap, arith}
use Rattle.std.specs.Prelude.{Option, Ok, codes}
use Rattle.g1_text.specs.Lines.{pinned_words}
use Rattle.g1_text.specs.Short.{TellsLabelled, TellsCounts}
use Rattle.g1_text.proofs.Shortening.{pinned_apart}
use Rattle.g1_text.proofs.Spelled.{two_fronts, moved, named_told, labelled_apart}
use Rattle.g1_text.proofs.Results.{ok_one, not_both}
use Rattle.g1_text.specs.Forms.{Labelled, ◌▸◌, HasFront}
use Rattle.g1_text.proofs.Fronts.{read_then}
use Rattle.g1_text.proofs.reading.read_counts.Goals as goal

-- the parts of a region's counts
record Counted (top objects cards : Option ℕ) (p : Bool) (words : List (List ℕ)) : Type 0 where
  middle : List (List ℕ)
  last : List (List ℕ)
  first_part : HasFront (TellsLabelled (codes "top") top) words middle
  second_part : HasFront (TellsLabelled (codes "objects") objects) middle last
  third_part : HasFront (TellsLabelled (codes "cards") cards) last (pinned_words p)
  no_top : (ws : List (List ℕ)) → middle ≢ codes "top" ∷ ws
  no_objects : (ws : List (List ℕ)) → last ≢ codes "objects" ∷ ws
  no_cards : (ws : List (List ℕ)) → pinned_words p ≢ codes "cards" ∷ ws

counts : (top objects cards : Option ℕ) (p : Bool) {words : List (List ℕ)} → HasFront (TellsCounts top objects cards) words (pinned_words p) → Counted top objects cards p words
counts top objects cards p told =
    let one = two_fronts (TellsLabelled (codes "top") top) (TellsLabelled (codes "objects") objects ▸ TellsLabelled (codes "cards") cards) told in
    let two = two_fronts (TellsLabelled (codes "objects") objects) (TellsLabelled (codes "cards") cards) one.2 in
    record {
      middle = one.0;
      last = two.0;
      first_part = one.1;
      second_part = two.1;
      third_part = two.2;
      no_top =
          labelled_apart (codes "top") (codes "objects") objects (λ e. let d : 111 ≡ 116 = ap (λ w. get_or w 0 0) e in absurd (omega (arith, d)))
          (labelled_apart (codes "top") (codes "cards") cards (λ e. let d : 99 ≡ 116 = ap (λ w. get_or w 0 0) e in absurd (omega (arith, d)))
          (pinned_apart (codes "top") p (λ e. let d : 112 ≡ 116 = ap (λ w. get_or w 0 0) e in absurd (omega (arith, d)))) two.2) two.1;
      no_objects =
          labelled_apart (codes "objects") (codes "cards") cards (λ e. let d : 99 ≡ 111 = ap (λ w. get_or w 0 0) e in absurd (omega (arith, d)))
          (pinned_apart (codes "objects") p (λ e. let d : 112 ≡ 111 = ap (λ w. get_or w 0 0) e in absurd (omega (arith, d)))) two.2;
      no_cards = pinned_apart (codes "cards") p (λ e. let d : 112 ≡ 99 = ap (λ w. get_or w 0 0) e in absurd (omega (arith, d)));
    }

pub returns-in_err-top-clause-short : goal.returns-in_err-top-clause-short
returns-in_err-top-clause-short c = λ top objects cards p told.
    let b = counts top objects cards p told in
    let first = named_told (codes "top") top c.args.words.now c.take_named.new.self b.middle c.take_named.result c.take_named.ensures.full c.take_named.ensures.absent b.no_top b.first_part in
    absurd (not_both c.in_err-top.was first.0)

pub returns-in_err-objects-clause-short : goal.returns-in_err-objects-clause-short
returns-in_err-objects-clause-short c = λ top objects cards p told.
    let b = counts top objects cards p told in
    let first = named_told (codes "top") top c.args.words.now c.take_named.new.self b.middle c.take_named.result c.take_named.ensures.full c.take_named.ensures.absent b.no_top b.first_part in
    let second = named_told (codes "objects") objects c.take_named.new.self c.take_named-2.new.self b.last c.take_named-2.result c.take_named-2.ensures.full c.take_named-2.ensures.absent b.no_objects (moved first.1 b.second_part) in
    absurd (not_both c.in_err-objects.was second.0)

pub returns-in_err-cards-clause-short : goal.returns-in_err-cards-clause-short
returns-in_err-cards-clause-short c = λ top objects cards p told.
    let b = counts top objects cards p told in
    let first = named_told (codes "top") top c.args.words.now c.take_named.new.self b.middle c.take_named.result c.take_named.ensures.full c.take_named.ensures.absent b.no_top b.first_part in
    let second = named_told (codes "objects") objects c.take_named.new.self c.take_named-2.new.self b.last c.take_named-2.result c.take_named-2.ensures.full c.take_named-2.ensures.absent b.no_objects (moved first.1 b.second_part) in
    let third = named_told (codes "cards") cards c.take_named-2.new.self c.take_named-3.new.self (pinned_words p) c.take_named-3.result c.take_named-3.ensures.full c.take_named-3.ensures.absent b.no_cards (moved second.1 b.third_part) in
    absurd (not_both c.in_err-cards.was third.0)

pub returns-clause-short : goal.returns-clause-short
returns-clause-short c = λ top objects cards p told.
    let b = counts top objects cards p told in
    let first = named_told (codes "top") top c.args.words.now c.take_named.new.self b.middle c.take_named.result c.take_named.ensures.full c.take_named.ensures.absent b.no_top b.first_part in
    let second = named_told (codes "objects") objects c.take_named.new.self c.take_named-2.new.self b.last c.take_named-2.result c.take_named-2.ensures.full c.take_named-2.ensures.absent b.no_objects (moved first.1 b.second_part) in
    let third = named_told (codes "cards") cards c.take_named-2.new.self c.take_named-3.new.self (pinned_words p) c.take_named-3.result c.take_named-3.ensures.full c.take_named-3.ensures.absent b.no_cards (moved second.1 b.third_part) in
    let t = ok_one c.in_ok-top.was first.0 in
    let o = ok_one c.in_ok-objects.was second.0 in
    let m = ok_one c.in_ok-cards.was third.0 in
    ((λ i. Ok (record { line = c.args.line; region = c.args.region; top = t i; objects = o i; cards = m i; found = 0 })), third.1)

pub returns-clause-form : goal.returns-clause-form
returns-clause-form c =
    read_then (Labelled (codes "top")) (Labelled (codes "objects") ▸ Labelled (codes "cards")) c.in_ok-top.ensures.form
    (read_then (Labelled (codes "objects")) (Labelled (codes "cards")) c.in_ok-objects.ensures.form c.in_ok-cards.ensures.form)
