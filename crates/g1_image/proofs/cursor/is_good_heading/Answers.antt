use Rattle.g1_image.proofs.Tests.{never}
use Rattle.g1_image.proofs.cursor.is_good_heading.Goals as goal

pub returns-in-Err : goal.returns-in-Err
returns-in-Err c = never (λ good. c.in-Err.ensures.err.1 (rw (c.from.ensures, c.from-2.ensures, c.from-3.ensures) good.sizes))
