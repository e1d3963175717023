use Rattle.std.proofs.Common.{rules, ◌≡◌, ◌⊎◌, ℕ, Vec, Global, subst}
use Rattle.g1_words.specs.declared.fault.Fault.TheVariants as fault
use Rattle.g1_words.specs.declared.fault.Device.TheVariants as device
use Rattle.g1_answers.specs.Images.{IsNewImage}
use Rattle.g1heap_cli.specs.Refusals.{RefusesFile}
use Rattle.g1heap_cli.specs.Reasons.{IsRefusedIn}
use Rattle.g1heap_cli.specs.Streams.{AreNamed}
use Rattle.g1heap_cli.proofs.Made.{withheld}
use Rattle.g1heap_cli.proofs.Unanswered.{no_image}
use Rattle.g1heap_cli.proofs.answering.make_new.Goals as goal

-- no image is made
pub returns : goal.returns
returns g c =
    let image = c.args.rewrite.now.image in
    let wanted = c.args.rewrite.now.wanted in
    let file = image.name.bytes.items in
    let left = g.R.Read.remaining c.args.reader.now in
    let old = g.W.Write.contents c.args.writer.now.inner in
    let new = g.W.Write.contents c.write_image.new.writer.inner in
    let f = c.in-Err.fault in
    let r = c.refuse_new.result in
    let read = c.in-Err.ensures in
    let source = c.in_ok-source in
    let named : AreNamed file left read.0 = search rules in
    record {
      makes = withheld image.limits wanted file left read.0 named old new f r c.refuse_new.ensures.output read.1;
      refused =
          no_image {V = Vec ℕ Global} (λ v. v.items) file left source.source.kept source.ensures.kept image.limits (IsNewImage image.limits wanted) read.0 named r old new f read.1 c.refuse_new.ensures.output
          (subst (λ i. (f ≡ fault.Device device.Output) ⊎ (RefusesFile i.name.bytes.items f r ⊎ IsRefusedIn {V = Vec ℕ Global} (λ v. v.items) source.source.kept i r)) source.ensures.image c.refuse_new.ensures.refused);
    }
