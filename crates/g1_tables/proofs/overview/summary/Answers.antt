use Rattle.std.proofs.Common.{◌/◌, ap, string_bytes}
use Rattle.g1_tables.proofs.Summing.{summary_told}
use Rattle.g1_tables.proofs.overview.summary.Goals as goal

pub returns-clause-text : goal.returns-clause-text
returns-clause-text g c =
    summary_told c.args.image.now c.heap-heap.result.now c.in_ok-live.live.items c.as_slice.result.now (string_bytes c.new-text.result) (string_bytes c.push_lines.new.text) _ c.heap-heap.ensures.valid
    c.heap-heap.ensures.same c.in_ok-live.ensures.ok c.as_slice.ensures.value (ap (λ n. n / 8) c.total.ensures) c.new-text.ensures.bytes c.in_ok-push_lines.ensures
