use Rattle.std.proofs.Common.{◌∙◌, inr, refl, sym, subst, true≢false}
use Rattle.g1_text.specs.Reading.{AreGraphLines, HasLines, lines_in, parts_of}
use Rattle.g1heap_cli.specs.Reasons.{IsWrongOfImage}
use Rattle.g1heap_cli.specs.Texts.{IsMade}
use Rattle.g1heap_cli.proofs.commands.make_image.Goals as goal

pub returns-in-Ok-clause-bytes : goal.returns-in-Ok-clause-bytes
returns-in-Ok-clause-bytes c =
    let e = c.in-Ok.ensures in
    let text = c.as_slice-2.result.now in
    let lines = lines_in text in
    let has : HasLines text lines = record { utf8 = e.known.utf8; same = refl } in
    let once = c.as_slice-2.ensures.value ∙ sym c.as_slice.ensures.value in
    subst (λ xs. IsMade xs c.in-Ok.bytes.items) c.as_slice-2.ensures.value (record {
      image = e.image;
      made = inr (
        λ graph. true≢false (sym (c.is_graph.ensures.1 (subst (λ xs. AreGraphLines (parts_of xs)) once graph)) ∙ c.if-is_graph.false),
        record {
          known = e.known;
          tells = e.tells;
          counted = λ x (told, tell, closes). e.counted lines told x has tell closes;
          alone = λ x (told, tell, closes). e.alone lines told x has tell closes;
        },
      );
    })

pub returns-clause-refused : goal.returns-clause-refused
returns-clause-refused c =
    let e = c.in-Err.ensures in (
      c.in-Err.wrong,
      e.fault,
      λ other. subst (λ xs. IsWrongOfImage xs c.in-Err.wrong) c.as_slice-2.ensures.value (record { reports = e.reports; tells = e.tells }),
      c.refuse_lines.ensures,
    )
