use Rattle.std.proofs.Common.{◌≤◌, ◌*◌, length, sym, ◌∙◌, ap, arith}
use Rattle.std.proofs.Math.Nat.{mul-le-mul_left}
use Rattle.g1_words.specs.declared.region.Region.{Region}
use Rattle.g1_text.proofs.Ends.{one_end}
use Rattle.g1_text.proofs.draft.Draft.next_address.Goals as goal

pub returns-in-Some : goal.returns-in-Some
returns-in-Some c = λ below q e lt fits.
    let g = c.args.self.now.geometry in
    let parts = one_end c.in-Some.below.now below c.in-Some.last.now q (sym c.in-Some.ensures.cases.0 ∙ c.deref.ensures.value ∙ e) in
    let count = ap length parts.0 in
    let top = ap (λ (r : Region). r.top) parts.1 in
    let limits = c.start_of.ensures.limits in
    let start = c.start_of.ensures.value (omega (arith, count, lt, limits.n_most)) in
    let within : g.w * length below ≤ g.w * g.n = mul-le-mul_left g.w (omega (arith, lt)) in
    let same = ap (λ n. n * g.w) count in
    omega (arith, c.saturating_add.ensures, start, c.from.ensures, top, within, same, limits.words_most, limits.w_most, fits)
