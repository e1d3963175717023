use Rattle.std.proofs.Common.{false, map, ◌∙◌, ap, subst, rules}
use Rattle.g1_text.proofs.NamedLines.{graph_said, graph_fits, begun_is}
use Rattle.g1_text.specs.Reading.{lines_in}
use Rattle.g1_text.specs.Overfull.{ReportsOverfull}
use Rattle.g1_text.specs.Forms.{GraphHeading, GraphLine}
use Rattle.g1_text.specs.Drafts.{AreTaken}
use Rattle.g1_text.specs.ByName.{read_holder}
use Rattle.g1_text.proofs.Formed.{meant_text}
use Rattle.g1_text.proofs.named.read_graph.Goals as goal

pub returns-clause-known : goal.returns-clause-known
returns-clause-known c =
    let read = c.in_ok-lines.ensures.known in
    meant_text GraphHeading GraphLine c.args.text.now (read.0, subst (AreTaken GraphHeading GraphLine false (lines_in c.args.text.now)) c.in_ok-graph.ensures.begun read.1)

pub returns-clause-says : goal.returns-clause-says
returns-clause-says c =
    let read = c.in_ok-lines.ensures in
    let lines = c.in_ok-lines.lines in
    let said = graph_said c.args.text.now lines read.known.0 (begun_is lines.heading c.in_ok-graph.ensures.begun) read.says in
    (said.0, said.1, ap (λ hs. map read_holder hs.items) c.in_ok-graph.ensures.holders ∙ said.2.holders)

pub returns-clause-holds : goal.returns-clause-holds
returns-clause-holds c =
    let read = c.in_ok-lines.ensures in
    let lines = c.in_ok-lines.lines in
    let said = graph_said c.args.text.now lines read.known.0 (begun_is lines.heading c.in_ok-graph.ensures.begun) read.says in
    (said.0, said.1, c.in_ok-graph.ensures.carried said.0 said.2)

pub returns-clause-fits : goal.returns-clause-fits
returns-clause-fits c =
    let read = c.in_ok-lines.ensures in
    let lines = c.in_ok-lines.lines in
    let said = graph_said c.args.text.now lines read.known.0 (begun_is lines.heading c.in_ok-graph.ensures.begun) read.says in
    graph_fits c.args.text.now said.0 said.1 read.fits

pub returns-in_err-graph-clause-overfull : goal.returns-in_err-graph-clause-overfull
returns-in_err-graph-clause-overfull c = λ number words most over. absurd (c.in_ok-lines.ensures.overfull number words most over)

pub returns-clause-overfull : goal.returns-clause-overfull
returns-clause-overfull c = λ number words most over. c.in_ok-lines.ensures.overfull number words most over

pub returns-in_err-lines-clause-overfull : goal.returns-in_err-lines-clause-overfull
returns-in_err-lines-clause-overfull c = λ number words most over.
    let out : ReportsOverfull number words most c.in_err-lines.field-0.0 = c.in_err-lines.ensures.overfull number words most over in
    search rules
