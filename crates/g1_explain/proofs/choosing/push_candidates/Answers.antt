use Rattle.std.proofs.Common.{rules, ◌≡◌, ◌<◌, ◌+◌, ◌++◌, ◌∙◌, ℕ, List, length, get_or, ap, sym, arith, string_bytes, take}
use Rattle.std.specs.Prelude.{nat_lt}
use Rattle.g1_choose.specs.declared.candidate.Candidate.{Candidate}
use Rattle.g1_text.specs.Lines.{line_text, text_of}
use Rattle.g1_explain.specs.Choosing.{within_128, candidate_line, candidate_lines}
use Rattle.g1_text.proofs.Printed.{take_all}
use Rattle.g1_explain.proofs.Candidates.{candidate_text, total_after, total_more}
use Rattle.g1_explain.proofs.choosing.push_candidates.Goals as goal

pub loop-index-preserved : goal.loop-index-preserved
loop-index-preserved c =
    let xs : List Candidate = c.args.order.now in
    let i : ℕ = c.loop-index.index in
    let o : Candidate = c.index-order-index.result in
    let now = string_bytes c.loop-index.text in
    let lt : i < length xs = omega (arith, c.loop-index-test.true) in
    let sum : c.saturating_add-total.result ≡ within_128 (c.loop-index.total + o.cost) = search rules in
    let total : c.saturating_add-total.result ≡ within_128 (total_after c.args.base (take i xs) + (get_or xs i o).cost) =
    sum ∙ (λ t. within_128 (c.loop-index.invariant.total t + (c.index-order-index.is t).cost)) in
    record {
      text = candidate_text (string_bytes c.args.text.now) now (string_bytes c.push_candidate.new.text) c.args.base c.args.taken c.saturating_add-total.result xs i o lt c.loop-index.invariant.text total
          (c.in_ok-push_candidate.ensures ∙ ap (λ (x : Candidate). now ++ line_text (candidate_line x c.saturating_add-total.result (nat_lt i c.args.taken))) c.index-order-index.is);
      total = total ∙ sym (total_more c.args.base xs i o lt);
    }

pub returns : goal.returns
returns c =
    c.loop-index.invariant.text ∙ ap (λ (l : List Candidate). string_bytes c.args.text.now ++ text_of (candidate_lines c.args.base c.args.taken l)) (take_all c.loop-index.index c.args.order.now (omega (arith, c.loop-index-test.false)))
