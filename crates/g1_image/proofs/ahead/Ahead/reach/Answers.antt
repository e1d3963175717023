use Rattle.std.proofs.Common.{arith, refl, sym, subst}
use Rattle.std.specs.Prelude.{IfOk}
use Rattle.std.specs.Io.KnownBytes.{Keeps}
use Rattle.std.proofs.KnownBytes.{Keeps-refl}
use borrow.Author.Tests.{leb-true, leb-false}
use Rattle.g1_image.specs.Ahead.{to_take, KnowsEnd}
use Rattle.g1_image.specs.Buffer.{buffered, to_read, IsReadAhead}
use Rattle.g1_image.proofs.ahead.Ahead.reach.Goals as goal

pub returns-in-Whole-clause-known : goal.returns-in-Whole-clause-known
returns-in-Whole-clause-known g c = subst (λ a. KnowsEnd a (g.S.Source.left c.args.source.now)) c.in-Whole.is c.requires.known

pub returns-in-Whole-clause-ok : goal.returns-in-Whole-clause-ok
returns-in-Whole-clause-ok g c =
    let left = g.S.Source.left c.args.source.now in
    record {
      mark = refl;
      kept = subst (λ a. Keeps (to_take c.args.self.now left) (to_take a left)) c.in-Whole.is (Keeps-refl _);
      there = λ t. omega (arith, leb-true c.args.wanted c.len.result t, c.len.ensures);
      ended = λ f. (
        subst (λ a. KnowsEnd a left) c.in-Whole.is c.requires.known,
        omega (arith, leb-false c.args.wanted c.len.result f, c.len.ensures),
      );
    }

pub reach-requires : goal.reach-requires
reach-requires g c = record { known = subst (λ a. KnowsEnd a (g.S.Source.left c.args.source.now)) c.in-Read.is c.requires.known }

pub returns-in-Read-clause-known : goal.returns-in-Read-clause-known
returns-in-Read-clause-known g c = c.reach.ensures.known

pub returns-in-Read-clause-ok : goal.returns-in-Read-clause-ok
returns-in-Read-clause-ok g c =
    let old = g.S.Source.left c.args.source.now in
    let left = g.S.Source.left c.reach.new.source in
    let new = c.reach.new.self in
    subst (λ a. IfOk c.reach.result (IsReadAhead (g.S.Source.failed c.args.source.now) (g.S.Source.failed c.reach.new.source) (to_take a old) (to_read new left) left (buffered new) c.args.wanted))
    (sym c.in-Read.is) c.reach.ensures.ok

pub returns-in-Read-clause-err : goal.returns-in-Read-clause-err
returns-in-Read-clause-err g c = c.reach.ensures.err
