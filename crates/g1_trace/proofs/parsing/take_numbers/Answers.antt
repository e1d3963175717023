use Rattle.std.proofs.Common.{[], ◌∷◌, drop, refl, sym, ◌∙◌, ap, true≢false}
use Rattle.g1_trace.specs.Lines.{IsLineEnd}
use Rattle.g1_trace.proofs.CommandLines.{BeginsWithNumber, number_more, no_first, no_second, no_third, no_fourth}
use Rattle.g1_trace.proofs.parsing.take_numbers.Goals as goal

pub returns-in-None-take_number-clause-none : goal.returns-in-None-take_number-clause-none
returns-in-None-take_number-clause-none c =
    let first : BeginsWithNumber (32 ∷ c.args.bytes.now) c.in-Some.read.0 c.in-Some.read.1.now = record {
      text = ap (λ ys. 32 ∷ ys) c.in-Some.ensures.some.0;
      end = c.in-Some.ensures.some.1;
      fits = c.in-Some.ensures.fits;
    } in
    let on : IsLineEnd c.in-Some.read.1.now → ⊥ = λ l. true≢false (sym (c.ends_line.ensures.1 l) ∙ c.if-ends_line.false) in
    no_second (32 ∷ c.args.bytes.now) c.in-Some.read.0 c.in-Some.read.1.now first on c.in-None-take_number.ensures.none

pub returns-in-None-take_number-2-clause-none : goal.returns-in-None-take_number-2-clause-none
returns-in-None-take_number-2-clause-none c =
    let first : BeginsWithNumber (32 ∷ c.args.bytes.now) c.in-Some.read.0 c.in-Some.read.1.now = record {
      text = ap (λ ys. 32 ∷ ys) c.in-Some.ensures.some.0;
      end = c.in-Some.ensures.some.1;
      fits = c.in-Some.ensures.fits;
    } in
    let on : IsLineEnd c.in-Some.read.1.now → ⊥ = λ l. true≢false (sym (c.ends_line.ensures.1 l) ∙ c.if-ends_line.false) in
    let p = c.in-Some-take_number in
    let second : BeginsWithNumber c.in-Some.read.1.now p.taken.0 p.taken.1.now = record { text = p.ensures.some.0; end = p.ensures.some.1; fits = p.ensures.fits } in
    let on_last : IsLineEnd p.taken.1.now → ⊥ = λ l. true≢false (sym (c.ends_line-2.ensures.1 l) ∙ c.if-ends_line-2.false) in
    no_third (32 ∷ c.args.bytes.now) c.in-Some.read.0 c.in-Some.read.1.now first on p.taken.0 p.taken.1.now second on_last c.in-None-take_number-2.ensures.none

pub returns-else-ends_line-3-clause-none : goal.returns-else-ends_line-3-clause-none
returns-else-ends_line-3-clause-none c =
    let first : BeginsWithNumber (32 ∷ c.args.bytes.now) c.in-Some.read.0 c.in-Some.read.1.now = record {
      text = ap (λ ys. 32 ∷ ys) c.in-Some.ensures.some.0;
      end = c.in-Some.ensures.some.1;
      fits = c.in-Some.ensures.fits;
    } in
    let on : IsLineEnd c.in-Some.read.1.now → ⊥ = λ l. true≢false (sym (c.ends_line.ensures.1 l) ∙ c.if-ends_line.false) in
    let p = c.in-Some-take_number in
    let second : BeginsWithNumber c.in-Some.read.1.now p.taken.0 p.taken.1.now = record { text = p.ensures.some.0; end = p.ensures.some.1; fits = p.ensures.fits } in
    let on_last : IsLineEnd p.taken.1.now → ⊥ = λ l. true≢false (sym (c.ends_line-2.ensures.1 l) ∙ c.if-ends_line-2.false) in
    let q = c.in-Some-take_number-2 in
    let third : BeginsWithNumber p.taken.1.now q.third q.rest.now = record { text = q.ensures.some.0; end = q.ensures.some.1; fits = q.ensures.fits } in
    no_fourth (32 ∷ c.args.bytes.now) c.in-Some.read.0 c.in-Some.read.1.now first on p.taken.0 p.taken.1.now second on_last q.third q.rest.now third
    (λ l. true≢false (sym (c.ends_line-in-Some-take_number-2.ensures.1 l) ∙ c.if-ends_line-3.false))

pub returns-in-None-clause-none : goal.returns-in-None-clause-none
returns-in-None-clause-none c = no_first (32 ∷ c.args.bytes.now) (λ x more fits end e. c.in-None.ensures.none x more fits end (ap (drop 1) e))

pub returns-then-ends_line-clause-some : goal.returns-then-ends_line-clause-some
returns-then-ends_line-clause-some c =
    let first : BeginsWithNumber (32 ∷ c.args.bytes.now) c.in-Some.read.0 c.in-Some.read.1.now = record {
      text = ap (λ ys. 32 ∷ ys) c.in-Some.ensures.some.0;
      end = c.in-Some.ensures.some.1;
      fits = c.in-Some.ensures.fits;
    } in (
      number_more (32 ∷ c.args.bytes.now) c.in-Some.read.0 c.in-Some.read.1.now [] c.in-Some.read.1.now first refl,
      c.ends_line.ensures.0 c.if-ends_line.true,
    )

pub returns-then-ends_line-2-clause-some : goal.returns-then-ends_line-2-clause-some
returns-then-ends_line-2-clause-some c =
    let first : BeginsWithNumber (32 ∷ c.args.bytes.now) c.in-Some.read.0 c.in-Some.read.1.now = record {
      text = ap (λ ys. 32 ∷ ys) c.in-Some.ensures.some.0;
      end = c.in-Some.ensures.some.1;
      fits = c.in-Some.ensures.fits;
    } in
    let p = c.in-Some-take_number in
    let second : BeginsWithNumber c.in-Some.read.1.now p.taken.0 p.taken.1.now = record { text = p.ensures.some.0; end = p.ensures.some.1; fits = p.ensures.fits } in
    let more = number_more c.in-Some.read.1.now p.taken.0 p.taken.1.now [] p.taken.1.now second refl in (
      number_more (32 ∷ c.args.bytes.now) c.in-Some.read.0 c.in-Some.read.1.now (p.taken.0 ∷ []) p.taken.1.now first more,
      c.ends_line-2.ensures.0 c.if-ends_line-2.true,
    )

pub returns-then-ends_line-3-clause-some : goal.returns-then-ends_line-3-clause-some
returns-then-ends_line-3-clause-some c =
    let first : BeginsWithNumber (32 ∷ c.args.bytes.now) c.in-Some.read.0 c.in-Some.read.1.now = record {
      text = ap (λ ys. 32 ∷ ys) c.in-Some.ensures.some.0;
      end = c.in-Some.ensures.some.1;
      fits = c.in-Some.ensures.fits;
    } in
    let p = c.in-Some-take_number in
    let second : BeginsWithNumber c.in-Some.read.1.now p.taken.0 p.taken.1.now = record { text = p.ensures.some.0; end = p.ensures.some.1; fits = p.ensures.fits } in
    let q = c.in-Some-take_number-2 in
    let third : BeginsWithNumber p.taken.1.now q.third q.rest.now = record { text = q.ensures.some.0; end = q.ensures.some.1; fits = q.ensures.fits } in
    let last = number_more p.taken.1.now q.third q.rest.now [] q.rest.now third refl in
    let more = number_more c.in-Some.read.1.now p.taken.0 p.taken.1.now (q.third ∷ []) q.rest.now second last in (
      number_more (32 ∷ c.args.bytes.now) c.in-Some.read.0 c.in-Some.read.1.now (p.taken.0 ∷ q.third ∷ []) q.rest.now first more,
      c.ends_line-in-Some-take_number-2.ensures.0 c.if-ends_line-3.true,
    )
