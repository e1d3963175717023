use Rattle.std.proofs.Common.{codes, drop, sym, subst}
use Rattle.std.specs.Io.{StartsWith}
use Rattle.std.proofs.KnownBytes.{starts_with_rest}
use Rattle.std.proofs.Math.Seq.{take-append_seam}
use Rattle.std.proofs.lemmas.Bool.Decides.{Decides-eqb}
use Rattle.std.proofs.lemmas.Slice.Eq.{starts_is}
use Rattle.g1heap_cli.proofs.refusal.is_image.Goals as goal

pub returns : goal.returns
returns c =
    let text = c.args.bytes.now in
    let begins = starts_is Decides-eqb text (codes "G1IMAGE") c.starts_with.result c.starts_with.ensures.value in (
      (λ yes. subst (λ l. StartsWith l (codes "G1IMAGE")) (sym (begins.0 yes)) (take-append_seam (codes "G1IMAGE") (drop 7 text))),
      (λ h. begins.1 (drop 7 text) (starts_with_rest text (codes "G1IMAGE") h)),
    )
