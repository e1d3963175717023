use Rattle.std.proofs.Common.{length, take, sym, subst, arith}
use Rattle.std.proofs.Math.Dec.{lit<}
use Rattle.std.proofs.lemmas.Iterator.Consumers.{YieldsList-at, YieldsList-turn, YieldsList-end}
use Rattle.std.proofs.lemmas.Iterator.Splits.{YieldsList-from_str_split}
use Rattle.std.proofs.lemmas.List.{length_push, take_all}
use Rattle.std.proofs.lemmas.Result.{err_from_is_err_and}
use Rattle.g1_command.specs.Lists.{AddsParts, parts_of}
use Rattle.g1_command.proofs.Got.{because_so}
use Rattle.g1_command.proofs.Listed.{adds_next, adds_stop}
use Rattle.g1_command.proofs.lists.push_list.Goals as goal

pub loop-part-preserved : goal.loop-part-preserved
loop-part-preserved c =
    let parts = YieldsList-at c.into_iter-part-iterator.ensures.into_iter_gives (YieldsList-from_str_split 44 c.args.list.now (lit< tt) c.split-part-items.ensures.text c.split-part-items.ensures.has_more c.split-part-items.ensures.pattern) in
    let t = YieldsList-turn parts c.loop-part.yielded _ c.loop-part.yielded_by _ _ c.in-Some.part c.in-Some.is c.next.ensures.steps in (
      subst (λ n. AddsParts (take n (parts_of c.args.list.now)) c.args.named.now.regions.items c.push_part.new.named.regions.items) (sym (length_push c.loop-part.yielded c.in-Some.part))
          (adds_next (parts_of c.args.list.now) (length c.loop-part.yielded) c.in-Some.part.now c.args.named.now.regions.items c.loop-part.named.regions.items c.push_part.new.named.regions.items t c.loop-part.invariant.0 c.in_ok-push_part.ensures.added),
      c.in_ok-push_part.ensures.marked,
    )

pub returns-in_err-push_part-clause-refused : goal.returns-in_err-push_part-clause-refused
returns-in_err-push_part-clause-refused c =
    let parts = YieldsList-at c.into_iter-part-iterator.ensures.into_iter_gives (YieldsList-from_str_split 44 c.args.list.now (lit< tt) c.split-part-items.ensures.text c.split-part-items.ensures.has_more c.split-part-items.ensures.pattern) in
    let t = YieldsList-turn parts c.loop-part.yielded _ c.loop-part.yielded_by _ _ c.in-Some.part c.in-Some.is c.next.ensures.steps in
    let p = err_from_is_err_and c.from_residual.result c.from_residual.ensures.1 in
    rw (p.1, p.2) (because_so
    (adds_stop (parts_of c.args.list.now) (length c.loop-part.yielded) c.in-Some.part.now c.args.named.now.regions.items c.loop-part.named.regions.items t c.loop-part.invariant.0)
    c.in_err-push_part.field-0.0 c.in_err-push_part.ensures.refused)

pub returns-clause-added : goal.returns-clause-added
returns-clause-added c =
    let parts = YieldsList-at c.into_iter-part-iterator.ensures.into_iter_gives (YieldsList-from_str_split 44 c.args.list.now (lit< tt) c.split-part-items.ensures.text c.split-part-items.ensures.has_more c.split-part-items.ensures.pattern) in
    let t = YieldsList-end parts c.loop-part.yielded _ c.loop-part.yielded_by _ _ c.in-None.is c.next.ensures.steps in
    subst (λ ps. AddsParts ps c.args.named.now.regions.items c.loop-part.named.regions.items) (take_all (length c.loop-part.yielded) (parts_of c.args.list.now) (omega (arith, t.1))) c.loop-part.invariant.0
