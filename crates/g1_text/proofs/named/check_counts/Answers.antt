use Rattle.std.proofs.Common.{Vec, Global, ◌<◌, ◌^◌, ℕ, length, subst, arith}
use Rattle.std.specs.Prelude.{All}
use Rattle.std.proofs.lemmas.List.{take_all}
use Rattle.std.proofs.lemmas.List.Elements.{All-more}
use Rattle.g1_text.proofs.named.check_counts.Goals as goal

pub loop-cards-preserved : goal.loop-cards-preserved
loop-cards-preserved c =
    let xs = c.args.remembered.now in
    let i = c.loop-cards.cards-index in
    let few : length c.cards-item.result.items < 2 ^ 32 = omega (arith, c.len.ensures, c.from.ensures, c.cards-item.result.ok.0) in
    All-more (λ (v : Vec ℕ Global). length v.items < 2 ^ 32) xs i c.cards-item.result (omega (arith, c.loop-cards-test.true)) c.loop-cards.invariant (subst (λ (v : Vec ℕ Global). length v.items < 2 ^ 32) c.cards-item.is few)

pub returns : goal.returns
returns c = subst (All (λ (v : Vec ℕ Global). length v.items < 2 ^ 32)) (take_all c.loop-cards.cards-index c.args.remembered.now (omega (arith, c.loop-cards-test.false))) c.loop-cards.invariant
