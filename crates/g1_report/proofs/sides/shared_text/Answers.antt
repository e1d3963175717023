use Rattle.std.proofs.Common.{[], ◌∷◌, map, sym, ◌∙◌, subst}
use Rattle.std.specs.Map.Iter.{deref_pair}
use Rattle.std.proofs.lemmas.List.{map-append}
use Rattle.std.proofs.lemmas.Map.Iter.{iter_end}
use Rattle.g1_report.specs.Shared.{IsLeastOf}
use Rattle.g1_report.proofs.Shared.{least_shared, none_shared}
use Rattle.g1_report.proofs.sides.shared_text.Goals as goal

pub loop-word-preserved : goal.loop-word-preserved
loop-word-preserved c =
    let passed = c.loop-word.yielded in
    subst (λ here. IsLeastOf c.args.before.now.texts.entries here c.least_with-least.result) (sym (map-append deref_pair passed ((c.in-Some.word, c.in-Some.other) ∷ [])))
    (c.least_with-least.ensures (map deref_pair passed) c.loop-word.invariant)

pub returns-in-Some-least-clause-some : goal.returns-in-Some-least-clause-some
returns-in-Some-least-clause-some c =
    let before = c.args.before.now in
    let after = c.args.after.now in
    let here = map deref_pair c.loop-word.yielded in
    let shared = c.in-Some-least.field-0 in
    let all = iter_end deref_pair after.texts.entries c.loop-word.yielded c.into_iter-word-iterator.result c.loop-word.word-iterator c.next.new.self c.next.result
    (c.into_iter-word-iterator.ensures.into_iter_gives ∙ c.iter-word-items.ensures.rest) c.loop-word.yielded_by c.in-None.is c.next.ensures.steps in (
      shared.word,
      least_shared before after here shared all.0 c.iter-word-items.ensures.unique (subst (λ l. IsLeastOf before.texts.entries here l) c.in-Some-least.is c.loop-word.invariant),
    )

pub returns-in-None-least-clause-none : goal.returns-in-None-least-clause-none
returns-in-None-least-clause-none c =
    let before = c.args.before.now in
    let after = c.args.after.now in
    let here = map deref_pair c.loop-word.yielded in
    let all = iter_end deref_pair after.texts.entries c.loop-word.yielded c.into_iter-word-iterator.result c.loop-word.word-iterator c.next.new.self c.next.result
    (c.into_iter-word-iterator.ensures.into_iter_gives ∙ c.iter-word-items.ensures.rest) c.loop-word.yielded_by c.in-None.is c.next.ensures.steps in
    none_shared before after here all.0 (subst (λ l. IsLeastOf before.texts.entries here l) c.in-None-least.is c.loop-word.invariant)
