use Rattle.std.proofs.Common.{◌≡◌, suc, sym, ap, ◌∙◌, arith}
use Rattle.g1_same.proofs.Heaps.{object_named}
use Rattle.g1_report.specs.Program.{object_of}
use Rattle.g1_report.proofs.objects.object_of.Goals as goal

pub returns-in-Some : goal.returns-in-Some
returns-in-Some c = λ names.
    let h = c.args.heap.now in
    let is : c.args.word ≡ suc c.in-Some.at = omega (arith, c.in-Some.ensures) in
    c.words_at.ensures (object_named h c.args.word c.in-Some.at c.valid.ensures names is) ∙ ap (object_of h) (sym is)

pub returns-in-None : goal.returns-in-None
returns-in-None c = λ names.
    let is : c.args.word ≡ 0 = omega (arith, c.in-None.ensures) in
    ap (object_of c.args.heap.now) (sym is)
