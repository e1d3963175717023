use Rattle.std.proofs.Common.{◌∙◌, sym, ap, arith}
use Rattle.std.proofs.lemmas.Bool.{false≢true}
use Rattle.g1_explain.specs.Keepers.{kept_by, leads_on}
use Rattle.g1_explain.proofs.Keepers.{kept_at, kept_at_none, beyond, none_first}
use Rattle.g1_explain.proofs.humongous.keep_by_slots_on.Goals.{else-number-keepers-via-then-number-keepers+else-is_nothing, else-number-keepers-via-else-number-keepers}
use Rattle.g1_explain.proofs.humongous.keep_by_slots_on.Goals as goal

pub returns-in-Some : goal.returns-in-Some
returns-in-Some c =
    kept_at c.args.keepers.now c.args.region (leads_on c.args.walkable.now.heap c.args.set.now c.args.region c.args.cards.now) c.in-Some.finder c.if-number-keepers.true
    (c.is_nothing.ensures.fact.0 c.if-is_nothing.true) (sym c.card_keeper.ensures ∙ ap kept_by c.in-Some.is)

pub returns-in_default : goal.returns-in_default
returns-in_default c =
    let ls = leads_on c.args.walkable.now.heap c.args.set.now c.args.region c.args.cards.now in
    kept_at_none c.args.keepers.now c.args.region ls (λ e. none_first ls (sym (ap kept_by c.in_default.is) ∙ c.card_keeper.ensures))

pub returns-else-number-keepers : goal.returns-else-number-keepers
returns-else-number-keepers c =
    kept_at_none c.args.keepers.now c.args.region (leads_on c.args.walkable.now.heap c.args.set.now c.args.region c.args.cards.now)
    (λ k. elim c.else-number-keepers.branch [
      | else-number-keepers-via-then-number-keepers+else-is_nothing w ↦ absurd (false≢true (sym w.if-is_nothing.false ∙ w.is_nothing.ensures.fact.1 k))
      | else-number-keepers-via-else-number-keepers w ↦ absurd (beyond c.args.keepers.now c.args.region (omega (arith, w.if-number-keepers.false)) k)
    ])
