use Rattle.std.proofs.Common.{map, refl}
use Rattle.clap.specs.Words.{kind_of}
use Rattle.g1heap_request.proofs.Tipped.{retold_or}
use Rattle.g1heap_request.proofs.tips.with_tip.Goals as goal

pub returns-in-Ok : goal.returns-in-Ok
returns-in-Ok c =
    let words = map (λ w. w.bytes.items) c.args.words.now in
    rw (c.in-Told.is, c.unwrap_or.ensures) (refl, retold_or (kind_of c.args.error.now) words c.in-Told.text c.as_str.result.now c.as_str.ensures.value c.in-Ok.told c.in-Ok.ensures.tipped c.in-Ok.ensures.due)
