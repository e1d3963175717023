use Rattle.std.proofs.Common.{◌≡◌, ◌∙◌, ap, sym, subst, arith, take, drop, length}
use Rattle.g1_frontier.specs.Items.{items_of, ArePaired, items_at}
use Rattle.g1_frontier.specs.declared.sought.Sought.{Sought}
use Rattle.g1_frontier.proofs.Soughts.{items_length, items_part, paired_part}
use Rattle.g1_frontier.proofs.sought.Sought.part.Goals as goal

pub cut-requires-in-Objects : goal.cut-requires-in-Objects
cut-requires-in-Objects c =
    let paired : length c.in-Objects.bases.now ≡ length c.in-Objects.addresses.now = subst (λ (x : Sought). ArePaired x) c.in-Objects.is c.requires.paired in
    let long = ap (λ (x : Sought). length (items_of x)) c.in-Objects.is ∙ items_length c.in-Objects.addresses.now c.in-Objects.bases.now paired in
    omega (arith, c.requires.within, long)

pub cut-requires-in-Objects-2 : goal.cut-requires-in-Objects-2
cut-requires-in-Objects-2 c =
    let paired : length c.in-Objects.bases.now ≡ length c.in-Objects.addresses.now = subst (λ (x : Sought). ArePaired x) c.in-Objects.is c.requires.paired in
    let long = ap (λ (x : Sought). length (items_of x)) c.in-Objects.is ∙ items_length c.in-Objects.addresses.now c.in-Objects.bases.now paired in
    omega (arith, c.requires.within, long, paired)

pub returns-in-Objects-clause-items : goal.returns-in-Objects-clause-items
returns-in-Objects-clause-items c =
    (λ i. items_at (c.cut-in-Objects.ensures i) (c.cut-in-Objects-2.ensures i)) ∙ items_part c.args.most c.args.from c.in-Objects.addresses.now c.in-Objects.bases.now
    ∙ ap (λ (x : Sought). take c.args.most (drop c.args.from (items_of x))) (sym c.in-Objects.is)

pub returns-in-Objects-clause-paired : goal.returns-in-Objects-clause-paired
returns-in-Objects-clause-paired c =
    let paired : length c.in-Objects.bases.now ≡ length c.in-Objects.addresses.now = subst (λ (x : Sought). ArePaired x) c.in-Objects.is c.requires.paired in
    ap length c.cut-in-Objects-2.ensures ∙ paired_part c.args.most c.args.from c.in-Objects.addresses.now c.in-Objects.bases.now paired ∙ sym (ap length c.cut-in-Objects.ensures)
