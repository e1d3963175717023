use Rattle.std.proofs.Common.{◌++◌, ◌∙◌, ap, arith, string_bytes}
use Rattle.g1_text.specs.Lines.{line_text, object_line}
use Rattle.g1_words.proofs.LaidObjects.{object_laid}
use Rattle.g1_text.proofs.printing.object_line.Goals as goal
use Rattle.g1_text.proofs.printing.object_line.Goals.{then-refs-size+then-size-laid+then-at-laid+in_ok-push_object, else-refs-size}
use Rattle.g1_text.proofs.printing.object_line.Goals.{else-refs-size-via-then-refs-size+then-size-laid+else-at-laid, else-refs-size-via-then-refs-size+else-size-laid}
use Rattle.g1_text.proofs.printing.object_line.Goals.{else-refs-size-via-else-refs-size}

pub returns-clause-text : goal.returns-clause-text
returns-clause-text c = λ there.
    let fits = object_laid c.args.heap.now c.words-words.result.now.laid c.args.object.now c.words-words.ensures.valid c.words-words.ensures.laid there in
    let same = c.laid.ensures.many in
    elim c.if-refs-size.branch [
      | then-refs-size+then-size-laid+then-at-laid+in_ok-push_object w ↦
          ap string_bytes w.text-is ∙ w.in_ok-push_object.ensures ∙ ap (λ xs. xs ++ line_text (object_line c.words-words.result.now.items c.args.object.now)) c.new-text.ensures.bytes
          ∙ ap (λ xs. line_text (object_line xs c.args.object.now)) c.words-words.ensures.same
      | else-refs-size w ↦ elim w.else-refs-size.branch [
        | else-refs-size-via-then-refs-size+then-size-laid+else-at-laid v ↦ absurd (omega (arith, fits.1, same, v.if-at-laid.false))
        | else-refs-size-via-then-refs-size+else-size-laid v ↦ absurd (omega (arith, fits.1, same, v.if-size-laid.false))
        | else-refs-size-via-else-refs-size v ↦ absurd (omega (arith, fits.0, v.if-refs-size.false))
      ]
    ]
