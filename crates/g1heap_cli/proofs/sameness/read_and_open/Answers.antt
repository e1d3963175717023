use Rattle.std.proofs.Common.{inr, subst}
use Rattle.g1heap_cli.specs.declared.files.SideContent.{SideContent}
use Rattle.g1heap_cli.specs.declared.files.SideContent.TheVariants as content
use Rattle.g1_report.specs.Opened.{IsNoText}
use Rattle.g1heap_cli.specs.Compared.{IsContent}
use Rattle.g1heap_cli.specs.Streams.{HoldsOfNamed}
use Rattle.g1heap_cli.proofs.sameness.read_and_open.Goals as goal

-- the side of an image
pub returns-in-Ok-Image-clause-side : goal.returns-in-Ok-Image-clause-side
returns-in-Ok-Image-clause-side g c =
    let found = content.Image c.in-Ok-Image.image in
    let is = c.open_image.ensures in
    let said : HoldsOfNamed c.args.name.now (g.R.Read.remaining c.args.reader.now) (λ bytes. IsContent c.args.job.now.same.now.limits bytes found) =
    subst (λ (x : SideContent). HoldsOfNamed c.args.name.now (g.R.Read.remaining c.args.reader.now) (λ bytes. IsContent c.args.job.now.same.now.limits bytes x)) c.in-Ok-Image.field-0-is
    c.in-Ok-Image.ensures.content in
    record {
      opened = (said.0, (found, said.1, (record { is = is.image; labels = is.labels; texts = is.texts }, is.stale)), said.2);
      in_order = is.in_order;
    }

-- that of an image with stale words
pub returns-in-Ok-Stale-clause-side : goal.returns-in-Ok-Stale-clause-side
returns-in-Ok-Stale-clause-side g c =
    let found = content.Stale c.in-Ok-Stale.image c.in-Ok-Stale.stale c.in-Ok-Stale.fault in
    let is = c.open_stale.ensures in
    let said : HoldsOfNamed c.args.name.now (g.R.Read.remaining c.args.reader.now) (λ bytes. IsContent c.args.job.now.same.now.limits bytes found) =
    subst (λ (x : SideContent). HoldsOfNamed c.args.name.now (g.R.Read.remaining c.args.reader.now) (λ bytes. IsContent c.args.job.now.same.now.limits bytes x)) c.in-Ok-Stale.field-0-is
    c.in-Ok-Stale.ensures.content in
    record {
      opened = (said.0, (found, said.1, (record { is = is.image; labels = is.labels; texts = is.texts }, is.stale)), said.2);
      in_order = is.in_order;
    }

-- lines have none
pub returns-in-Err-open_lines-clause-refused : goal.returns-in-Err-open_lines-clause-refused
returns-in-Err-open_lines-clause-refused g c =
    let lines = c.in-Ok-Lines.bytes in
    let found = content.Lines lines in
    let why = c.in-Err-open_lines.wrong in
    let said : HoldsOfNamed c.args.name.now (g.R.Read.remaining c.args.reader.now) (λ bytes. IsContent c.args.job.now.same.now.limits bytes found) =
    subst (λ (x : SideContent). HoldsOfNamed c.args.name.now (g.R.Read.remaining c.args.reader.now) (λ bytes. IsContent c.args.job.now.same.now.limits bytes x)) c.in-Ok-Lines.field-0-is
    c.in-Ok-Lines.ensures.content in
    let none : IsNoText lines.items why = subst (λ l. IsNoText l why) c.as_slice.ensures.value c.in-Err-open_lines.ensures.no_text in
    inr (said.0, (said.1.0, (lines.items, said.1.1, why, none, c.refuse_lines.ensures)), said.2)
