use Rattle.g1heap_request.proofs.Got.{no_card, no_regions, no_words, one_part, three_numbers, two_parts}
use Rattle.g1heap_request.proofs.dump.sizes_in.Goals as goal

pub returns : goal.returns
returns c =
    let one = c.in_ok-region_words in
    let two = c.in_ok-card_words in
    three_numbers c.args.text.now (one.region_words, one.rest) (two.card_words, two.regions) one.ensures.cases two.ensures.cases
    (record { region_words = c.in_ok-whole.field-0; card_words = c.in_ok-whole-2.field-0; regions = c.in_ok-whole-3.field-0 }) c.in_ok-whole.ensures c.in_ok-whole-2.ensures c.in_ok-whole-3.ensures

pub returns-in_err-region_words : goal.returns-in_err-region_words
returns-in_err-region_words c = rw (c.from_residual.ensures) (one_part c.args.text.now c.in_err-region_words.ensures.cases)

pub returns-in_err-card_words : goal.returns-in_err-card_words
returns-in_err-card_words c =
    let one = c.in_ok-region_words in
    rw (c.from_residual-in_err-card_words.ensures) (two_parts c.args.text.now (one.region_words, one.rest) one.ensures.cases c.in_err-card_words.ensures.cases)

pub returns-in_err-whole : goal.returns-in_err-whole
returns-in_err-whole c =
    let one = c.in_ok-region_words in
    let two = c.in_ok-card_words in
    rw (c.from_residual-in_err-whole.ensures) (no_words c.args.text.now (one.region_words, one.rest) one.ensures.cases (two.card_words, two.regions) two.ensures.cases c.in_err-whole.ensures)

pub returns-in_err-whole-2 : goal.returns-in_err-whole-2
returns-in_err-whole-2 c =
    let one = c.in_ok-region_words in
    let two = c.in_ok-card_words in
    rw (c.from_residual-in_err-whole-2.ensures) (no_card c.args.text.now (one.region_words, one.rest) one.ensures.cases (two.card_words, two.regions) two.ensures.cases c.in_err-whole-2.ensures)

pub returns-in_err-whole-3 : goal.returns-in_err-whole-3
returns-in_err-whole-3 c =
    let one = c.in_ok-region_words in
    let two = c.in_ok-card_words in
    rw (c.from_residual-in_err-whole-3.ensures) (no_regions c.args.text.now (one.region_words, one.rest) one.ensures.cases (two.card_words, two.regions) two.ensures.cases c.in_err-whole-3.ensures)
