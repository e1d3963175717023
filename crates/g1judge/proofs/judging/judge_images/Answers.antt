use Rattle.std.proofs.Common.{arith, ap, subst, ◌≡◌, ◌∙◌, length, IfOk}
use Rattle.g1_same.specs.Same.{IsRenaming}
use Rattle.g1judge.specs.Judged.{words_of}
use Rattle.g1judge.proofs.judging.judge_images.Goals as goal

pub returns-in-Ok-Ok : goal.returns-in-Ok-Ok
returns-in-Ok-Ok c =
    let g = c.heap-old.result.now in
    let h = c.heap-new.result.now in
    let v = c.in-Ok-Ok.renaming in
    let olds = v.before.items in
    let news = v.after.items in
    let same : IsRenaming g h olds news = subst (λ r. IfOk r (λ v. IsRenaming g h v.before.items v.after.items)) c.in-Ok-Ok.field-0-is c.in-Ok-Ok.ensures.same in
    let found = subst (λ h. IsRenaming c.args.before.now.heap h olds news) c.heap-new.ensures.same (subst (λ g. IsRenaming g h olds news) c.heap-old.ensures.same same) in
    let count : c.len.result ≡ length olds = omega (arith, c.len.ensures, v.before.ok) in
    let words = c.words.ensures ∙ ap (λ l. words_of g l) c.as_slice.ensures.value ∙ ap (λ g. words_of g olds) c.heap-old.ensures.same in
    (olds, news, found, count, words)
