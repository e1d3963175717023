use Rattle.std.proofs.Common.{◌≡◌, rules}
use Rattle.std.specs.Prelude.{IfSome}
use Rattle.g1heap_cli.proofs.SideRead.{content_left, none_left, other_of}
use Rattle.g1heap_cli.proofs.files.without_stale.Goals as goal

pub returns-in-Ok-clause-content : goal.returns-in-Ok-clause-content
returns-in-Ok-clause-content g c =
    let left = g.R.Read.remaining c.args.reader.now in
    let read = c.in-Ok.ensures.ok in
    let same : IfSome left (λ xs. xs ≡ read.0) = search rules in
    content_left c.args.limits left read.0 c.with_stale.result same (c.with_stale.ensures.content c.args.limits read.0 read.1)

pub returns-in-Ok-clause-other : goal.returns-in-Ok-clause-other
returns-in-Ok-clause-other g c =
    let left = g.R.Read.remaining c.args.reader.now in
    let read = c.in-Ok.ensures.ok in
    let same : IfSome left (λ xs. xs ≡ read.0) = search rules in
    none_left c.args.limits left read.0 c.with_stale.result same (c.with_stale.ensures.none c.args.limits read.0 read.1)

-- a fault of the bytes beside their stale words
pub returns-in-None-clause-other : goal.returns-in-None-clause-other
returns-in-None-clause-other g c =
    let left = g.R.Read.remaining c.args.reader.now in
    let other = other_of c.args.limits _ c.in-Err.fault c.in-None.ensures.own c.in-Err.ensures.err in
    let same : IfSome left (λ xs. xs ≡ other.0) = search rules in
    (other.0, (λ p x. other.1), same)
