use Rattle.std.proofs.Common.{false, sym, subst, rules}
use Rattle.g1_words.specs.declared.limits.Limits.TheVariants.{Wide}
use Rattle.g1_image.specs.Image.{IsImageTextWithin}
use Rattle.g1_text.specs.Reading.{lines_in}
use Rattle.g1_text.specs.Overfull.{ReportsOverfull}
use Rattle.g1_text.specs.Forms.{GraphHeading, GraphLine}
use Rattle.g1_text.specs.Drafts.{AreTaken}
use Rattle.g1_text.specs.Carried.{Carries}
use Rattle.g1_text.proofs.Formed.{meant_text}
use Rattle.g1_text.proofs.NamedLines.{graph_said, graph_fits, begun_is}
use Rattle.g1_text.proofs.named.make_graph.Goals as goal

pub returns-in-Ok-clause-image : goal.returns-in-Ok-clause-image
returns-in-Ok-clause-image c = subst (IsImageTextWithin Wide) c.as_slice.ensures.value c.in-Ok.ensures.ok

pub returns-in-Ok-clause-known : goal.returns-in-Ok-clause-known
returns-in-Ok-clause-known c =
    let read = c.in_ok-lines.ensures.known in
    meant_text GraphHeading GraphLine c.args.text.now (read.0, subst (AreTaken GraphHeading GraphLine false (lines_in c.args.text.now)) c.in_ok-bytes.ensures.begun read.1)

pub returns-in-Ok-clause-says : goal.returns-in-Ok-clause-says
returns-in-Ok-clause-says c =
    let read = c.in_ok-lines.ensures in
    let lines = c.in_ok-lines.lines in
    let said = graph_said c.args.text.now lines read.known.0 (begun_is lines.heading c.in_ok-bytes.ensures.begun) read.says in
    (said.0, said.1)

pub returns-in-Ok-clause-carries : goal.returns-in-Ok-clause-carries
returns-in-Ok-clause-carries c =
    let read = c.in_ok-lines.ensures in
    let lines = c.in_ok-lines.lines in
    let said = graph_said c.args.text.now lines read.known.0 (begun_is lines.heading c.in_ok-bytes.ensures.begun) read.says in
    let h = c.in_ok-bytes.ensures.carried said.0 said.2 in
    let image = subst (IsImageTextWithin Wide) c.as_slice.ensures.value c.in-Ok.ensures.ok in (
      said.0,
      said.1,
      record {
        ats = h.ats;
        image = image.0;
        text = image.1;
        carries = subst (Carries said.0 h.ats) (sym (h.image image.0 image.1)) h.carries;
        named = h.noted c.in_ok-check_named.ensures.named;
      },
    )

pub returns-in-Ok-clause-fits : goal.returns-in-Ok-clause-fits
returns-in-Ok-clause-fits c =
    let read = c.in_ok-lines.ensures in
    let lines = c.in_ok-lines.lines in
    let said = graph_said c.args.text.now lines read.known.0 (begun_is lines.heading c.in_ok-bytes.ensures.begun) read.says in
    graph_fits c.args.text.now said.0 said.1 read.fits

pub returns-in_err-bytes-clause-overfull : goal.returns-in_err-bytes-clause-overfull
returns-in_err-bytes-clause-overfull c = λ number words most over. absurd (c.in_ok-lines.ensures.overfull number words most over)

pub returns-in_err-check_named-clause-overfull : goal.returns-in_err-check_named-clause-overfull
returns-in_err-check_named-clause-overfull c = λ number words most over. absurd (c.in_ok-lines.ensures.overfull number words most over)

pub returns-in-Ok-clause-overfull : goal.returns-in-Ok-clause-overfull
returns-in-Ok-clause-overfull c = λ number words most over. c.in_ok-lines.ensures.overfull number words most over

pub returns-in_err-lines-clause-overfull : goal.returns-in_err-lines-clause-overfull
returns-in_err-lines-clause-overfull c = λ number words most over.
    let out : ReportsOverfull number words most c.in_err-lines.field-0.0 = c.in_err-lines.ensures.overfull number words most over in
    search rules

pub returns-clause-overfull : goal.returns-clause-overfull
returns-clause-overfull c = λ number words most over. absurd (c.in_ok-lines.ensures.overfull number words most over)
