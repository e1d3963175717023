use Rattle.std.proofs.Common.{arith}
use Rattle.g1_image.specs.Reading.{Are}
use Rattle.g1_image.specs.Faults.{EntryFits}
use Rattle.g1_image.specs.Text.{entry_text, table_text}
use Rattle.g1_image.proofs.Parts.{entry_free}
use Rattle.g1_image.proofs.PrefixFree.{Came-none, Came-next, Came-all, Came-fails, Reads-refused}
use Rattle.g1_image.proofs.reading.table.Goals as goal

pub loop-i-init : goal.loop-i-init
loop-i-init c = Came-none (EntryFits c.args.version) (entry_text c.args.version) (entry_free c.args.version) c.args.bytes.now c.new-table.result.items c.new-table.ensures.items

pub loop-i-preserved : goal.loop-i-preserved
loop-i-preserved c =
    Came-next (EntryFits c.args.version) (entry_text c.args.version) (entry_free c.args.version) c.args.bytes.now c.loop-i._i c.loop-i.table.items
    c.loop-i.rest.now c.in_ok-x.x c.in_ok-x.after.now c.push.new.self.items
    c.loop-i.invariant c.in_ok-x.ensures c.in_ok-push.ensures.items

pub returns-in_err-push : goal.returns-in_err-push
returns-in_err-push c = Reads-refused (Are (EntryFits c.args.version) c.args.count) (table_text c.args.version) (λ x. (x.0.items, x.1.now))
    c.args.bytes.now c.from_residual-in_err-push.result c.from_residual-in_err-push.ensures.1

pub returns : goal.returns
returns c = Came-all (EntryFits c.args.version) (entry_text c.args.version) (entry_free c.args.version) c.args.bytes.now c.loop-i._i c.args.count
    c.loop-i.table.items c.loop-i.rest.now c.loop-i.invariant c.loop-i.auto._i-end c.loop-i-test.false

pub returns-in_err-x : goal.returns-in_err-x
returns-in_err-x c =
    Came-fails (EntryFits c.args.version) (entry_text c.args.version) (entry_free c.args.version) (λ x. (x.0.items, x.1.now)) c.args.bytes.now
    c.from_residual.result c.in_err-x.field-0.0 c.loop-i._i c.args.count c.loop-i.table.items c.loop-i.rest.now
    c.from_residual.ensures.1 c.in_err-x.ensures c.loop-i.invariant c.loop-i-test.true

pub loop-i-smaller : goal.loop-i-smaller
loop-i-smaller c = omega (arith, c.loop-i-test.true)
