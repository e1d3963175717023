use Rattle.std.proofs.Common.{◌≡◌, ◌≤◌, ◌+◌, ◌*◌, arith}
use Rattle.std.proofs.lemmas.Result.{IfOk-weaker}
use Rattle.g1_text.proofs.Rooms.{sum_made}
use Rattle.g1_text.proofs.draft.grow.Goals as goal

pub returns-in-Ok-clause-space : goal.returns-in-Ok-clause-space
returns-in-Ok-clause-space c = λ le.
    IfOk-weaker c.ok_or.result (λ t. t ≡ c.args.top + c.in-Ok.words) (λ t. (4 * c.args.size ≤ 3 * c.args.geometry.w) × (c.args.top + c.args.size ≤ c.args.geometry.w) × (t ≡ c.args.top + c.args.size))
    (λ t e. (
      omega (arith, c.if-size-most.true, c.min-most.ensures, c.most_ordinary.ensures),
      omega (arith, le, c.if-size-most.true, c.min-most.ensures, c.saturating_sub-left.ensures, c.region_words.ensures.value, c.from.ensures),
      omega (arith, e, c.in-Ok.ensures),
    ))
    (sum_made _ (c.args.top + c.in-Ok.words) c.checked_add.result _ c.ok_or.result c.checked_add.ensures c.ok_or.ensures.value)
