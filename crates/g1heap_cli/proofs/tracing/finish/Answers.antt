use Rattle.std.proofs.Common.{arith}
use Rattle.g1heap_cli.proofs.TraceRefused.{sent_asked}
use Rattle.g1heap_cli.proofs.tracing.finish.Goals as goal

pub send_image-requires : goal.send_image-requires
send_image-requires g c =
    let asked = sent_asked c.args.job.now.trace.now.image in
    c.requires.kept (omega (arith, c.sent_command.ensures)) (omega (arith, asked, c.in-Ok.ensures.enough))
