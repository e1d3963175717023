use Rattle.std.proofs.Common.{arith}
use Rattle.g1_image.specs.Reading.{IsU64, Are}
use Rattle.g1_image.specs.Text.{u64, words_text}
use Rattle.g1_image.proofs.Numbers.{u64_once}
use Rattle.g1_image.proofs.PrefixFree.{Came-none, Came-next, Came-all, Came-fails, Reads-refused}
use Rattle.g1_image.proofs.reading.words.Goals as goal

pub loop-i-init : goal.loop-i-init
loop-i-init c = Came-none IsU64 u64 (λ x y s t fx fy e. u64_once x y s t fx fy e) c.args.bytes.now c.new-words.result.items c.new-words.ensures.items

pub loop-i-preserved : goal.loop-i-preserved
loop-i-preserved c =
    Came-next IsU64 u64 (λ x y s t fx fy e. u64_once x y s t fx fy e) c.args.bytes.now c.loop-i._i c.loop-i.words.items c.loop-i.rest.now c.in_ok-x.x c.in_ok-x.after.now c.push.new.self.items
    c.loop-i.invariant c.in_ok-x.ensures c.in_ok-push.ensures.items

pub returns-in_err-push : goal.returns-in_err-push
returns-in_err-push c = Reads-refused (Are IsU64 c.args.count) words_text (λ x. (x.0.items, x.1.now)) c.args.bytes.now c.from_residual-in_err-push.result c.from_residual-in_err-push.ensures.1

pub returns : goal.returns
returns c = Came-all IsU64 u64 (λ x y s t fx fy e. u64_once x y s t fx fy e) c.args.bytes.now c.loop-i._i c.args.count c.loop-i.words.items
    c.loop-i.rest.now c.loop-i.invariant c.loop-i.auto._i-end c.loop-i-test.false

pub returns-in_err-x : goal.returns-in_err-x
returns-in_err-x c =
    Came-fails IsU64 u64 (λ x y s t fx fy e. u64_once x y s t fx fy e) (λ x. (x.0.items, x.1.now)) c.args.bytes.now c.from_residual.result
    c.in_err-x.field-0.0 c.loop-i._i c.args.count c.loop-i.words.items c.loop-i.rest.now
    c.from_residual.ensures.1 c.in_err-x.ensures c.loop-i.invariant c.loop-i-test.true

pub loop-i-smaller : goal.loop-i-smaller
loop-i-smaller c = omega (arith, c.loop-i-test.true)
