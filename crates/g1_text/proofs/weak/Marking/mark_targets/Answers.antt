use Rattle.std.proofs.Common.{Contains, sym, ◌∙◌, subst, arith}
use Rattle.std.proofs.lemmas.List.{take_all}
use Rattle.g1_text.specs.Weak.{plain_slot}
use Rattle.g1_text.specs.Marking.{slots_of, has_name}
use Rattle.g1_text.proofs.WeakLines.{slot_at, marked_more}
use Rattle.g1_text.proofs.weak.Marking.mark_targets.Goals as goal

pub targets-preserved : goal.targets-preserved
targets-preserved c =
    let xs = c.args.targets.now in
    let i = c.targets.target-index in
    let step = c.in_ok-mark_target.ensures in
    record {
      found = λ lines hand strong h. step.found lines hand (λ plain. strong _ (slot_at xs i _ (omega (arith, c.targets-test.true)) plain)) (c.targets.invariant.found lines hand strong h);
      marked = marked_more (has_name c.targets.self.strong) (has_name c.mark_target.new.self.strong) xs i _ (omega (arith, c.targets-test.true)) step.stay c.targets.invariant.marked step.marked;
      stay = λ name t. step.stay name (c.targets.invariant.stay name t);
      fewer = step.fewer ∙ c.targets.invariant.fewer;
    }

pub returns-clause-marked : goal.returns-clause-marked
returns-clause-marked c = λ name in_all.
    c.targets.invariant.marked name
    (subst (λ xs. Contains (slots_of xs) (plain_slot name)) (sym (take_all c.targets.target-index c.args.targets.now (omega (arith, c.targets-test.false)))) in_all)
