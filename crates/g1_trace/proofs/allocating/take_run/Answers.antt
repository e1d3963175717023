use Rattle.std.proofs.Common.{◌≡◌, ◌-◌, ◌+◌, ◌/◌, ◌<◌, length, refl, ◌∙◌, ap, arith}
use Rattle.std.proofs.lemmas.List.{length-set}
use Rattle.g1_trace.specs.Placing.{run_taken}
use Rattle.g1_trace.proofs.Tables.{none_taken, one_taken, rounded_up}
use Rattle.g1_trace.proofs.allocating.take_run.Goals as goal

pub loop-i-init : goal.loop-i-init
loop-i-init c = record { taken = none_taken c.args.geometry.now.w c.args.regions.now.items c.args.first c.args.size; size = refl }

pub loop-i-preserved : goal.loop-i-preserved
loop-i-preserved c =
    let w = c.args.geometry.now.w in
    let count : c.regions_for-i-end.result ≡ (c.args.size + (c.args.geometry.now.w - 1)) / c.args.geometry.now.w =
    c.regions_for-i-end.ensures ∙ rounded_up w c.args.size (omega (arith, c.requires.width)) in
    let there : c.args.first + c.loop-i.i < length c.args.regions.now.items = omega (arith, c.loop-i-test.true, count, c.requires.there) in
    record {
      taken = one_taken w c.args.regions.now.items c.args.first c.args.size c.loop-i.i c.loop-i.regions.items c.run_region.result there c.loop-i.invariant.taken
          c.run_region.ensures;
      size = length-set c.loop-i.regions.items (c.args.first + c.loop-i.i) c.run_region.result ∙ c.loop-i.invariant.size;
    }

pub returns : goal.returns
returns c =
    let w = c.args.geometry.now.w in
    let count : c.regions_for-i-end.result ≡ (c.args.size + (c.args.geometry.now.w - 1)) / c.args.geometry.now.w =
    c.regions_for-i-end.ensures ∙ rounded_up w c.args.size (omega (arith, c.requires.width)) in
    let all : c.loop-i.i ≡ (c.args.size + (c.args.geometry.now.w - 1)) / c.args.geometry.now.w = omega (arith, count, c.loop-i-test.false, c.loop-i.auto.i-end) in
    c.loop-i.invariant.taken ∙ ap (run_taken w c.args.regions.now.items c.args.first c.args.size) all

pub loop-i-smaller : goal.loop-i-smaller
loop-i-smaller c = omega (arith, c.loop-i-test.true)
