use Rattle.std.proofs.Common.{rules, false, true, refl, ◌≡◌, ◌≤◌, ◌+◌, ◌-◌, ◌++◌, length, take, slice_range, sym, ap, subst, ◌∙◌, ◌<◌, arith, length-append, length-take-le}
use Rattle.g1_image.specs.declared.buffer.Buffer.{Buffer}
use Rattle.std.proofs.KnownBytes.{Keeps-refl}
use Rattle.std.specs.Vec.{with_items}
use Rattle.std.proofs.lemmas.List.{with_items_is, places}
use Rattle.std.proofs.lemmas.Result.{err_from_is_err_and}
use Rattle.std.specs.Io.KnownBytes.{IsAtEnd}
use Rattle.g1_image.specs.Source.{ReadFails}
use borrow.Author.Tests.{ltb-true, ltb-false, eqb-true}
use borrow.Rule.Slice.PartMut.{post_of}
use Rattle.g1_image.specs.Buffer.{buffered}
use Rattle.g1_image.proofs.Taken.{read_behind, keeps_read}
use Rattle.g1_image.proofs.buffer.Buffer.read_on.Goals as goal
use Rattle.g1_image.proofs.buffer.Buffer.read_on.Given.{Over}
use Rattle.g1_image.proofs.buffer.Buffer.read_on.Goals.{In_ok-count, After-grow, then-self-gt0, else-self-gt0}

-- what waits after the read: what waited before it, and what was read
waits : (g : Over) (c : In_ok-count g) →
    slice_range (with_items c.grow.new.self.room (take c.grow.new.self.end c.deref_mut.result.now
    ++ (c.read.new.buf ++ post_of c.grow.new.self.end (length c.deref_mut.result.now - c.grow.new.self.end) c.deref_mut.result.now))).items
    c.grow.new.self.start (c.grow.new.self.end + c.in_ok-count.count)
    ≡ buffered c.args.self.now ++ take c.in_ok-count.count c.read.new.buf
waits g c =
    let r = c.grow.new.self in
    let d = c.deref_mut.result.now in
    let buf = c.read.new.buf in
    let n = c.in_ok-count.count in
    let post = post_of r.end (length d - r.end) d in
    let before : buffered r ≡ buffered c.args.self.now = c.in_ok-grow.ensures.same ∙ elim c.if-self-gt0.branch [
      | then-self-gt0 w ↦ ap buffered w.self-is ∙ w.move_to_front.ensures.same
      | else-self-gt0 w ↦ ap buffered w.self-is
    ] in
    let within : r.end ≤ length d = search (rules, places) in
    let is : (with_items r.room (take r.end d ++ (buf ++ post))).items ≡ take r.end d ++ (buf ++ post) = with_items_is r.room (take r.end d ++ (buf ++ post)) (search (rules, places)) in
    ap (λ l. slice_range l r.start (r.end + n)) is ∙ read_behind r.start r.end n d buf post r.ordered within c.in_ok-count.ensures.bound
    ∙ ap (λ l. l ++ take n buf) (ap (λ l. slice_range l r.start r.end) c.deref_mut.ensures.value ∙ before)

-- how many wait then
more_wait : (g : Over) (c : In_ok-count g) →
    length (slice_range (with_items c.grow.new.self.room (take c.grow.new.self.end c.deref_mut.result.now
    ++ (c.read.new.buf ++ post_of c.grow.new.self.end (length c.deref_mut.result.now - c.grow.new.self.end) c.deref_mut.result.now))).items
    c.grow.new.self.start (c.grow.new.self.end + c.in_ok-count.count))
    ≡ length (buffered c.args.self.now) + c.in_ok-count.count
more_wait g c =
    let n = c.in_ok-count.count in
    let buf = c.read.new.buf in
    omega (arith, ap length (waits g c), length-append (buffered c.args.self.now) (take n buf), length-take-le n buf c.in_ok-count.ensures.bound)

-- where nothing was read, none is left
at_end : (g : Over) (c : In_ok-count g) → c.in_ok-count.count ≡ 0 → IsAtEnd (g.S.Source.left c.read.new.self)
at_end g c none =
    let some : 0 < length c.read.new.buf = search (rules, places) in
    c.in_ok-count.ensures.bytes.1 none some

pub returns-clause-kept : goal.returns-clause-kept
returns-clause-kept g c =
    keeps_read _ _ (buffered c.args.self.now) _ (take c.in_ok-count.count c.read.new.buf) (waits g (goal.at.returns-clause-kept g c).In_ok-count) c.in_ok-count.ensures.bytes.0

pub returns-clause-more : goal.returns-clause-more
returns-clause-more g c = λ t. omega (arith, more_wait g (goal.at.returns-clause-more g c).In_ok-count, ltb-true 0 c.in_ok-count.count t)

pub returns-clause-end : goal.returns-clause-end
returns-clause-end g c = λ f.
    let at = (goal.at.returns-clause-end g c).In_ok-count in
    let none : c.in_ok-count.count ≡ 0 = omega (arith, ltb-false 0 c.in_ok-count.count f) in
    (at_end g at none, omega (arith, more_wait g at, none))

pub returns-clause-known : goal.returns-clause-known
returns-clause-known g c = λ t. at_end g (goal.at.returns-clause-known g c).In_ok-count (eqb-true c.in_ok-count.count 0 t)

pub returns-in_err-count-clause-err : goal.returns-in_err-count-clause-err
returns-in_err-count-clause-err g c =
    let left = err_from_is_err_and c.from_residual-in_err-count.result c.from_residual-in_err-count.ensures.1 in
    rw (left.1, left.2) (subst (λ e. ReadFails (g.S.Source.failed c.args.source.now) (g.S.Source.failed c.read.new.self) e) (sym c.in_err-count.ensures.fault) c.in_err-count.ensures.mark)

pub returns-clause-mark : goal.returns-clause-mark
returns-clause-mark g c = c.in_ok-count.ensures.mark

-- a source that was not seen to end before is not seen to by what comes before the read
not_ended : (g : Over) (c : After-grow g) → c.grow.new.self.ended ≡ false
not_ended g c = c.grow.ensures.end ∙ elim c.if-self-gt0.branch [
  | then-self-gt0 w ↦ ap (λ (b : Buffer). b.ended) w.self-is ∙ w.move_to_front.ensures.end
  | else-self-gt0 w ↦ ap (λ (b : Buffer). b.ended) w.self-is
] ∙ c.if-self.false

pub returns-in_err-count-clause-known : goal.returns-in_err-count-clause-known
returns-in_err-count-clause-known g c = λ t. let clash : false ≡ true = sym (not_ended g (goal.at.returns-in_err-count-clause-known g c).After-grow) ∙ t in cc

pub returns-in_err-grow-clause-known : goal.returns-in_err-grow-clause-known
returns-in_err-grow-clause-known g c = λ t. let clash : false ≡ true = sym (not_ended g (goal.at.returns-in_err-grow-clause-known g c).After-grow) ∙ t in cc

pub returns-in_err-grow-clause-err : goal.returns-in_err-grow-clause-err
returns-in_err-grow-clause-err g c =
    let left = err_from_is_err_and c.from_residual.result c.from_residual.ensures.1 in
    rw (left.1, left.2) refl

pub returns-then-self-clause-known : goal.returns-then-self-clause-known
returns-then-self-clause-known g c = c.requires.known

pub returns-then-self-clause-kept : goal.returns-then-self-clause-kept
returns-then-self-clause-kept g c = Keeps-refl _

pub returns-then-self-clause-more : goal.returns-then-self-clause-more
returns-then-self-clause-more g c = λ t. let clash : false ≡ true = t in cc

pub returns-then-self-clause-end : goal.returns-then-self-clause-end
returns-then-self-clause-end g c = λ _. (c.requires.known c.if-self.true, refl)

pub returns-then-self-clause-mark : goal.returns-then-self-clause-mark
returns-then-self-clause-mark g c = refl
