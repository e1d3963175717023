use Rattle.std.proofs.Common.{arith, ◌≡◌, ◌*◌, ◌∙◌, ap, length}
use Rattle.g1_frontier.proofs.Scopes.{words_fit}
use Rattle.g1_frontier.proofs.scope.Scope.places.Goals as goal

pub overflow_mul-result : goal.overflow_mul-result
overflow_mul-result c =
    let width : c.region_words.result ≡ c.args.self.now.heap.now.geometry.w = c.region_words.ensures.value ∙ ap (λ g. g.w) c.geometry.ensures.same in
    let fit = words_fit c.args.self.now c.requires.scope in
    omega (arith, fit, ap (λ x. length c.args.self.now.window.now * x) width)
