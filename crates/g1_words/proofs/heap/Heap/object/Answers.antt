use Rattle.std.proofs.Common.{List, ℕ, ap, subst, sym, ◌∙◌, ◌<◌, ◌≤◌, ◌+◌, length}
use Rattle.g1_words.specs.declared.object.Object.{Object}
use Rattle.g1_words.specs.Header.{header}
use Rattle.g1_words.specs.Heap.{Heap}
use Rattle.g1_words.specs.Valid.{IsValid}
use Rattle.g1_words.proofs.Sound.{object_in}
use Rattle.g1_words.proofs.heap.Heap.object.Goals as goal

pub returns-clause-refs : goal.returns-clause-refs
returns-clause-refs c =
    let o = object_in c.args.self.now c.args.a (subst IsValid c.self.view_is c.self.invariant.0) c.requires in
    let same = ap (λ (h : Heap). h.words) c.self.view_is in
    subst (λ (p : Object). p.refs < p.size) (sym (c.header.ensures.value ∙ ap (λ (ws : List ℕ). header ws c.args.a) same)) o.0

pub returns-clause-within : goal.returns-clause-within
returns-clause-within c =
    let o = object_in c.args.self.now c.args.a (subst IsValid c.self.view_is c.self.invariant.0) c.requires in
    let same = ap (λ (h : Heap). h.words) c.self.view_is in
    subst (λ (p : Object). c.args.a + p.size ≤ length c.args.self.now.words) (sym (c.header.ensures.value ∙ ap (λ (ws : List ℕ). header ws c.args.a) same)) o.1
