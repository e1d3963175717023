use Rattle.std.proofs.Common.{inl, refl}
use Rattle.g1heap_cli.specs.Refuses.{RefusesRewrite}
use Rattle.g1heap_cli.proofs.Refused.{of_list}
use Rattle.g1heap_cli.proofs.answering.write_new.Goals as goal

-- the image that was made
pub returns-in-Ok-write_file : goal.returns-in-Ok-write_file
returns-in-Ok-write_file g c = record { made = (c.in-Ok.ensures.makes.0, c.in-Ok.ensures.makes.1); refused = tt }

-- no image was made
pub returns-clause-refused : goal.returns-clause-refused
returns-clause-refused g c =
    inl (of_list (RefusesRewrite c.args.rewrite.now (g.R.Read.remaining c.args.reader.now)) c.in-Err.refusal c.of_list.result c.of_list.ensures (inl (inl (inl refl)))
    c.in-Err.ensures.refused)
