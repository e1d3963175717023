use Rattle.std.proofs.Common.{◌≡◌, ◌-◌, ◌∷◌, ◌++◌, ℕ, [], inl, inr, refl, sym, ap, ◌∙◌, arith, append-nil, map, flat_map, string_bytes}
use Rattle.std.specs.Prelude.{decimal}
use Rattle.std.specs.List.{range_with_len}
use Rattle.g1_text.specs.Lines.{further}
use Rattle.g1_explain.proofs.HumongousLines.{range_step, range_end}
use Rattle.g1_words.proofs.Logic.{last_push}
use Rattle.g1_explain.proofs.humongous.push_range.Goals as goal

pub loop-number-init : goal.loop-number-init
loop-number-init c =
    let z : 0 ≡ c.args.first - c.args.first = omega arith in
    record {
      text = sym (append-nil (string_bytes c.args.text.now)) ∙ ap (λ k. string_bytes c.args.text.now ++ flat_map (λ x. 32 ∷ decimal x) (range_with_len c.args.first k)) z;
      above = omega arith;
      within = inr refl;
    }

pub loop-number-preserved : goal.loop-number-preserved
loop-number-preserved c = record {
  text = range_step (string_bytes c.args.text.now) (string_bytes c.loop-number.text) (string_bytes c.write.new.self) c.args.first c.loop-number.number-counter c.loop-number.invariant.above c.loop-number.invariant.text c.in_ok-write.ensures.bytes;
  above = omega (arith, c.loop-number.invariant.above);
  within = inl (omega (arith, c.loop-number-test.true));
}

pub returns : goal.returns
returns c =
    let old = string_bytes c.args.text.now in
    let now = string_bytes c.loop-number.text in
    let new = string_bytes c.push_str.new.self in
    let n : ℕ = c.loop-number.number-counter in
    let same : n - c.args.first ≡ c.args.last - c.args.first = elim c.loop-number.invariant.within [
      | inl le ↦ omega (arith, le, c.loop-number-test.false)
      | inr e ↦ omega (arith, e, c.loop-number-test.false)
    ] in
    last_push c.push_str.result new (now ++ 10 ∷ []) now (old ++ further (map decimal (range_with_len c.args.first (c.args.last - c.args.first))))
    (range_end old now new c.args.first n c.args.last same c.loop-number.invariant.text) c.push_str.ensures.bytes
