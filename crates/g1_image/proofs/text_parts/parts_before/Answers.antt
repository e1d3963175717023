use Rattle.g1_image.proofs.text_parts.parts_before.Goals as goal

pub returns-in-Err : goal.returns-in-Err
returns-in-Err c = c.heading_before.ensures c.args.limits c.requires
