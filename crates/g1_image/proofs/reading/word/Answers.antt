use Rattle.std.proofs.Common.{arith}
use Rattle.g1_image.proofs.Numbers.{u64_read, u64_short}
use Rattle.g1_image.proofs.reading.word.Goals as goal

pub returns-then-bytes-lt8 : goal.returns-then-bytes-lt8
returns-then-bytes-lt8 c y rest fits e = u64_short c.args.bytes.now c.if-bytes-lt8.true y rest e

pub returns : goal.returns
returns c =
    u64_read c.args.bytes.now c.split_at.result.0.now c.split_at.result.1.now c.read_u64.result (omega arith) (λ i. omega (arith, c.type_inv.bytes i))
    c.split_at.ensures.front c.split_at.ensures.back c.read_u64.ensures
