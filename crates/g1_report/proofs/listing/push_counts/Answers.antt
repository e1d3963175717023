use Rattle.std.proofs.Common.{◌++◌, ◌∙◌, ap, string_bytes}
use Rattle.std.specs.Prelude.{codes, decimal, slice_index}
use Rattle.g1_report.specs.Listed.{count_text, counts_line}
use Rattle.g1_report.proofs.Joined.{joined}
use Rattle.g1_words.proofs.Lists.{in_front}
use Rattle.g1_words.proofs.Logic.{last_push}
use Rattle.g1_report.proofs.listing.push_counts.Goals as goal

pub returns : goal.returns
returns c =
    let ns = c.args.counts.now in
    let old = string_bytes c.args.text.now in
    let t0 = string_bytes c.push_sum.new.text in
    let t1 = string_bytes c.push_count.new.text in
    let t2 = string_bytes c.push_count-2.new.text in
    let t3 = string_bytes c.push_count-3.new.text in
    let t4 = string_bytes c.push_count-4.new.text in
    let t5 = string_bytes c.push_count-5.new.text in
    let t6 = string_bytes c.push_count-6.new.text in
    let t7 = string_bytes c.push_count-7.new.text in
    let t8 = string_bytes c.push_count-8.new.text in
    let last = string_bytes c.push_str.new.self in
    let all = c.sum_of.result in
    let r8 = codes "\n" in
    let k7 = count_text (codes "data") (slice_index ns 7) in
    let r7 = k7 ++ r8 in
    let k6 = count_text (codes "slots") (slice_index ns 6) in
    let r6 = k6 ++ r7 in
    let k5 = count_text (codes "size") (slice_index ns 5) in
    let r5 = k5 ++ r6 in
    let k4 = count_text (codes "joined") (slice_index ns 4) in
    let r4 = k4 ++ r5 in
    let k3 = count_text (codes "split") (slice_index ns 3) in
    let r3 = k3 ++ r4 in
    let k2 = count_text (codes "null") (slice_index ns 2) in
    let r2 = k2 ++ r3 in
    let k1 = count_text (codes "stale") (slice_index ns 1) in
    let r1 = k1 ++ r2 in
    let k0 = count_text (codes "roots") (slice_index ns 0) in
    let r0 = k0 ++ r1 in
    last_push c.push_str.result last (t8 ++ r8) t8 (old ++ counts_line ns)
    (λ e. joined old t0 last (codes "differences " ++ (decimal all ++ codes ":")) r0 c.in_ok-push_sum.ensures
    (joined t0 t1 last k0 r1 c.in_ok-push_count.ensures (joined t1 t2 last k1 r2 c.in_ok-push_count-2.ensures (joined t2 t3 last k2 r3 c.in_ok-push_count-3.ensures (joined t3 t4 last k3 r4 c.in_ok-push_count-4.ensures (joined t4 t5 last k4 r5 c.in_ok-push_count-5.ensures (joined t5 t6 last k5 r6 c.in_ok-push_count-6.ensures (joined t6 t7 last k6 r7 c.in_ok-push_count-7.ensures (joined t7 t8 last k7 r8 c.in_ok-push_count-8.ensures e))))))))
    ∙ ap (λ xs. old ++ xs) (in_front (codes "differences ") (decimal all) (codes ":") r0)
    ∙ ap (λ n. old ++ (codes "differences " ++ (decimal n ++ (codes ":" ++ r0)))) c.sum_of.ensures)
    c.push_str.ensures.bytes
