use Rattle.std.proofs.Common.{◌++◌, false, get_or, map, append-nil, sym, ap, arith, ◌∙◌}
use Rattle.std.proofs.lemmas.List.{take_all}
use Rattle.g1_words.specs.declared.region.Kind.TheVariants.{Free}
use Rattle.g1_words.specs.declared.region.Region.{Region}
use Rattle.g1_image.specs.declared.cursor.Version.TheVariants.{Two}
use Rattle.g1_image.specs.Text.{u32, table_text}
use Rattle.g1_image.specs.Image.{entry_of}
use Rattle.g1_image.proofs.Written.{table_more}
use Rattle.g1_image.proofs.file_parts.push_table.Goals as goal

pub loop-region-init : goal.loop-region-init
loop-region-init c = sym (append-nil c.args.out.now.items)

pub loop-region-smaller : goal.loop-region-smaller
loop-region-smaller c = omega (arith, c.loop-region-test.true)

pub loop-region-preserved : goal.loop-region-preserved
loop-region-preserved c =
    let none : Region = record { kind = Free; top = 0; pinned = false } in
    let before = c.loop-region.out.items in
    let top = (get_or c.args.regions.now c.loop-region.region-index none).top in
    table_more c.args.regions.now c.loop-region.region-index none c.args.out.now.items before c.push_numbers.new.out.items c.loop-region-test.true c.loop-region.invariant
    (c.in_ok-push_numbers.ensures ∙ (λ t. before ++ (u32 (c.number.ensures t) ++ (u32 top ++ append-nil (u32 (c.flags_of.ensures t)) t))))

pub returns : goal.returns
returns c = c.loop-region.invariant ∙ ap (λ l. c.args.out.now.items ++ table_text Two (map entry_of l)) (take_all c.loop-region.region-index c.args.regions.now c.loop-region-test.false)
