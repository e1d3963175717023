use Rattle.std.proofs.Common.{ℕ, ◌≡◌, ◌∙◌, arith, ap, sym, subst, get_or, set, true, false}
use Rattle.g1_frontier.specs.declared.queue.Queue.{Queue}
use Rattle.g1_frontier.specs.Scope.{place_in}
use Rattle.g1_frontier.specs.Queue.{HasNoted}
use Rattle.g1_frontier.proofs.Queues.{noted_none, noted_old, noted_new}
use Rattle.g1_frontier.proofs.Scopes.{begins, below, names_inside}
use Rattle.g1_frontier.proofs.queue.Queue.note.Goals as goal

pub returns-in-None : goal.returns-in-None
returns-in-None c =
    let s = c.args.scope.now in
    subst (λ l. HasNoted s l c.args.self.now c.args.self.now) (sym c.in-None.ensures.none) (noted_none s c.requires.scope c.args.self.now c.requires.queue)

pub is_set-requires : goal.is_set-requires
is_set-requires c =
    let s = c.args.scope.now in
    let f = c.in-Some.ensures.found in
    let low = below s c.requires.scope c.in-Some.target.address (begins s c.requires.scope c.args.word c.in-Some.target.address c.requires.reference f.0 f.1) in
    omega (arith, low, f.2, c.requires.queue.places)

pub returns-then-is_set : goal.returns-then-is_set
returns-then-is_set c =
    let s = c.args.scope.now in
    let q = c.args.self.now in
    let f = c.in-Some.ensures.found in
    let a : ℕ = c.in-Some.target.address in
    let there = begins s c.requires.scope c.args.word a c.requires.reference f.0 f.1 in
    let marked : get_or q.marks (place_in s a) false ≡ true = ap (λ p. get_or q.marks p false) (sym f.2) ∙ sym c.is_set.ensures ∙ c.if-is_set.true in
    subst (λ l. HasNoted s l q q) (sym (names_inside s c.args.word a f.0 f.1)) (noted_old s c.requires.scope q a c.requires.queue there marked)

pub set-requires : goal.set-requires
set-requires c =
    let s = c.args.scope.now in
    let f = c.in-Some.ensures.found in
    let low = below s c.requires.scope c.in-Some.target.address (begins s c.requires.scope c.args.word c.in-Some.target.address c.requires.reference f.0 f.1) in
    omega (arith, low, f.2, c.requires.queue.places)

pub returns-in_ok-push-in-Some : goal.returns-in_ok-push-in-Some
returns-in_ok-push-in-Some c =
    let s = c.args.scope.now in
    let q = c.args.self.now in
    let r : Queue = record { found = c.push.new.self; marks = c.set.new.self } in
    let f = c.in-Some.ensures.found in
    let a : ℕ = c.in-Some.target.address in
    let there = begins s c.requires.scope c.args.word a c.requires.reference f.0 f.1 in
    let unmarked : get_or q.marks (place_in s a) false ≡ false = ap (λ p. get_or q.marks p false) (sym f.2) ∙ sym c.is_set.ensures ∙ c.if-is_set.false in
    subst (λ l. HasNoted s l q r) (sym (names_inside s c.args.word a f.0 f.1))
    (noted_new s c.requires.scope q r a c.requires.queue there unmarked (c.set.ensures ∙ ap (λ p. set q.marks p true) f.2) c.in_ok-push-in-Some.ensures.items)
