use Rattle.std.proofs.Common.{◌≡◌, ◌++◌, length, drop, arith, subst, inl, length-drop}
use Rattle.g1_image.specs.Text.{magic}
use Rattle.g1_image.specs.declared.cursor.Version.TheVariants.{One}
use Rattle.g1_image.proofs.Used.{agree}
use Rattle.g1_image.proofs.cursor.Cursor.check_magic.Goals as goal

pub returns-then-i-self-clause-err : goal.returns-then-i-self-clause-err
returns-then-i-self-clause-err c =
    let bytes = c.self.inside.rest.now in
    let same : magic One ≡ bytes ++ drop (length bytes) (magic One) = agree bytes (magic One) (omega arith) (λ k lt. c.loop-i.invariant.1 k (omega arith)) in
    λ limits. inl (One, drop (length bytes) (magic One), subst (λ l. magic One ≡ l ++ drop (length bytes) (magic One)) c.self.view_is same, omega (arith, length-drop (length bytes) (magic One)))

pub loop-i-smaller : goal.loop-i-smaller
loop-i-smaller c = omega (arith, c.loop-i-test.true)
