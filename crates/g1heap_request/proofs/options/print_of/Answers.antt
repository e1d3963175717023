use Rattle.std.proofs.Common.{refl}
use Rattle.std.specs.Prelude.{codes}
use Rattle.clap.specs.Words.{found_of}
use Rattle.g1heap_request.proofs.Got.{flag_got}
use Rattle.g1heap_request.proofs.options.print_of.Goals as goal

pub returns-clause-asks : goal.returns-clause-asks
returns-clause-asks c =
    let hex = flag_got (found_of c.args.values.now) (codes "hex") c.get_flag.result c.get_flag.ensures.none c.get_flag.ensures.value c.get_flag.ensures.other in
    (refl, c.in_ok-image_of.ensures.image, c.in_ok-part_of.ensures.part, c.in_ok-part_of.ensures.printed, hex, c.in_ok-output_of.ensures)
