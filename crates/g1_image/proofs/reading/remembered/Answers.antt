use Rattle.std.proofs.Common.{map, ap, ◌∙◌, [], ◌∷◌, arith}
use Rattle.std.proofs.lemmas.List.{map-append}
use Rattle.g1_image.specs.Reading.{Are}
use Rattle.g1_image.specs.Faults.{RememberedFits}
use Rattle.g1_image.specs.Text.{remembered_text, remembered_texts}
use Rattle.g1_image.proofs.Parts.{set_free}
use Rattle.g1_image.proofs.PrefixFree.{Came-none, Came-next, Came-all, Came-fails, Reads-refused}
use Rattle.g1_image.proofs.reading.remembered.Goals as goal

pub loop-i-init : goal.loop-i-init
loop-i-init c = Came-none RememberedFits remembered_text set_free c.args.bytes.now (map (λ s. s.items) c.new-remembered.result.items) (ap (λ l. map (λ s. s.items) l) c.new-remembered.ensures.items)

pub loop-i-preserved : goal.loop-i-preserved
loop-i-preserved c =
    Came-next RememberedFits remembered_text set_free c.args.bytes.now c.loop-i._i (map (λ s. s.items) c.loop-i.remembered.items) c.loop-i.rest.now
    c.in_ok-x.x.items c.in_ok-x.after.now (map (λ s. s.items) c.push.new.self.items)
    c.loop-i.invariant c.in_ok-x.ensures (ap (λ l. map (λ s. s.items) l) c.in_ok-push.ensures.items ∙ map-append (λ s. s.items) c.loop-i.remembered.items (c.in_ok-x.x ∷ []))

pub returns-in_err-push : goal.returns-in_err-push
returns-in_err-push c = Reads-refused (Are RememberedFits c.args.count) remembered_texts (λ x. (map (λ s. s.items) x.0.items, x.1.now))
    c.args.bytes.now c.from_residual-in_err-push.result c.from_residual-in_err-push.ensures.1

pub returns : goal.returns
returns c = Came-all RememberedFits remembered_text set_free c.args.bytes.now c.loop-i._i c.args.count (map (λ s. s.items) c.loop-i.remembered.items)
    c.loop-i.rest.now c.loop-i.invariant c.loop-i.auto._i-end c.loop-i-test.false

pub returns-in_err-x : goal.returns-in_err-x
returns-in_err-x c =
    Came-fails RememberedFits remembered_text set_free (λ x. (map (λ s. s.items) x.0.items, x.1.now)) c.args.bytes.now c.from_residual.result
    c.in_err-x.field-0.0 c.loop-i._i c.args.count (map (λ s. s.items) c.loop-i.remembered.items) c.loop-i.rest.now
    c.from_residual.ensures.1 c.in_err-x.ensures c.loop-i.invariant c.loop-i-test.true

pub loop-i-smaller : goal.loop-i-smaller
loop-i-smaller c = omega (arith, c.loop-i-test.true)
