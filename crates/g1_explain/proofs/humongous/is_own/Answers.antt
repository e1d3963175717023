use Rattle.std.proofs.Common.{◌∙◌, ◌&&◌, ℕ, ap, sym, arith, ltb, leb, leb-true, le-leb}
use Rattle.std.proofs.lemmas.Bool.{false_from_ne_true}
use Rattle.g1_explain.specs.Humongous.{run_end}
use Rattle.g1_explain.proofs.Keepers.{own_is}
use Rattle.g1_explain.proofs.humongous.is_own.Goals as goal

pub returns-then-from-home : goal.returns-then-from-home
returns-then-from-home c =
    let r : ℕ = c.args.region in
    let e : ℕ = run_end c.args.heap.now r in
    ap (ltb c.args.home) c.run_end.ensures ∙ ap (λ b. b && ltb c.args.home e) (sym (le-leb r c.args.home (omega (arith, c.if-from-home.true, c.from.ensures)))) ∙ own_is r e c.args.home

pub returns-else-from-home : goal.returns-else-from-home
returns-else-from-home c =
    let r : ℕ = c.args.region in
    let e : ℕ = run_end c.args.heap.now r in
    false_from_ne_true (leb c.from.result c.args.home) (λ t. omega (arith, leb-true c.from.result c.args.home t, c.if-from-home.false))
    ∙ ap (λ b. b && ltb c.args.home e) (sym (false_from_ne_true (leb r c.args.home) (λ t. omega (arith, leb-true r c.args.home t, c.if-from-home.false, c.from.ensures)))) ∙ own_is r e c.args.home
