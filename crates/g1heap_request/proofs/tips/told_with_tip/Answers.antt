use Rattle.std.proofs.Common.{◌≡◌, IsSomeAnd, subst}
use Rattle.g1heap_request.specs.Tips.{IsTipped, usage_mark}
use Rattle.g1heap_request.proofs.Tipped.{no_cut, tipped}
use Rattle.g1heap_request.proofs.tips.told_with_tip.Goals as goal

pub returns-in_default-split_once-clause-due : goal.returns-in_default-split_once-clause-due
returns-in_default-split_once-clause-due c = λ tip due has. no_cut usage_mark c.args.text.now c.in_default-split_once.ensures.cases has

pub returns-clause-tipped : goal.returns-clause-tipped
returns-clause-tipped c =
    let cut = c.in-Some-split_once in
    (c.in-Some.tip.bytes.items, tipped c.args.text.now c.without_tip-said.result.now c.in-Some.tip.bytes.items c.in_ok-text.text.bytes.items (cut.message, cut.usage) cut.ensures.cases c.without_tip-said.ensures c.in_ok-text.ensures.ok)

pub returns-clause-due : goal.returns-clause-due
returns-clause-due c = λ tip due has.
    let cut = c.in-Some-split_once in
    let said : c.in-Some.tip.bytes.items ≡ tip = subst (λ o. IsSomeAnd o (λ s. s.bytes.items ≡ tip)) c.in-Some.is (c.in_ok-tip.ensures tip due) in
    subst (λ t. IsTipped t c.args.text.now c.in_ok-text.text.bytes.items) said
    (tipped c.args.text.now c.without_tip-said.result.now c.in-Some.tip.bytes.items c.in_ok-text.text.bytes.items (cut.message, cut.usage) cut.ensures.cases c.without_tip-said.ensures c.in_ok-text.ensures.ok)
