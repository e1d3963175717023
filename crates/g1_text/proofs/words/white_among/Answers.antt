use Rattle.std.proofs.Common.{arith}
use Rattle.std.proofs.lemmas.Simd.{zip2_splat}
use Rattle.std.specs.Char.{is_ascii_whitespace}
use Rattle.g1_text.proofs.Lanes.{hit, either, masked}
use Rattle.g1_text.proofs.words.white_among.Goals as goal

pub returns : goal.returns
returns c =
    let v = c.args.bytes in
    let long = c.fits-bytes.0 in
    let three = either _ _ v (either _ _ v (zip2_splat hit v 16 32 long) (zip2_splat hit v 16 9 long)) (zip2_splat hit v 16 10 long) in
    masked _ is_ascii_whitespace v _ (omega arith) c.fits-bytes.1 (either _ _ v (either _ _ v three (zip2_splat hit v 16 12 long)) (zip2_splat hit v 16 13 long)) tt
