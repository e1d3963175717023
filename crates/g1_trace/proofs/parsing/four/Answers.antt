use Rattle.std.proofs.Common.{◌≡◌, ℕ, ◌<◌, ◌^◌, List, [], ◌∷◌, ◌++◌, length, ap}
use Rattle.std.specs.Prelude.{Option, Some, None, IfNone, decimal}
use Rattle.g1_trace.specs.Lines.{IsNumberEnd}
use Rattle.g1_trace.specs.TraceText.{spaced, AllFit}
use Rattle.g1_trace.proofs.Numerals.{one_number, fit_head, fit_rest, spaced_number}
use Rattle.g1_trace.proofs.parsing.four.Goals as goal

if_none : {A : Type 0} (o : Option A) (P : Type 0) → P → IfNone o P
if_none (Some a) P p = tt
if_none None P p = p

-- what is left behind the first of some numbers is what writes the others
rest_is : (bytes rest : List ℕ) (x y : ℕ) (ys : List ℕ) → x < 2 ^ 64 → (bytes ≡ 32 ∷ (decimal x ++ rest)) × IsNumberEnd rest → AllFit (y ∷ ys) → bytes ≡ spaced (y ∷ ys) → rest ≡ spaced ys
rest_is bytes rest x y ys fits some all e = one_number bytes rest (spaced ys) x y fits (fit_head y ys all) some.1 (spaced_number ys) some.0 e

pub returns-in_err-b-clause-none : goal.returns-in_err-b-clause-none
returns-in_err-b-clause-none c = if_none c.from_residual-in_err-b.result _ (λ a b d e fits q.
    let second = rest_is c.args.bytes.now c.in_ok-a.second.now c.in_ok-a.a a (b ∷ d ∷ e ∷ []) c.in_ok-a.ensures.fits c.in_ok-a.ensures.some fits q in
    c.in_err-b.ensures.none b (spaced (d ∷ e ∷ [])) (fit_head b (d ∷ e ∷ []) (fit_rest a (b ∷ d ∷ e ∷ []) fits)) (spaced_number (d ∷ e ∷ [])) second)

pub returns-in_err-d-clause-none : goal.returns-in_err-d-clause-none
returns-in_err-d-clause-none c = if_none c.from_residual-in_err-d.result _ (λ a b d e fits q.
    let later = fit_rest a (b ∷ d ∷ e ∷ []) fits in
    let second = rest_is c.args.bytes.now c.in_ok-a.second.now c.in_ok-a.a a (b ∷ d ∷ e ∷ []) c.in_ok-a.ensures.fits c.in_ok-a.ensures.some fits q in
    let third = rest_is c.in_ok-a.second.now c.in_ok-b.third.now c.in_ok-b.b b (d ∷ e ∷ []) c.in_ok-b.ensures.fits c.in_ok-b.ensures.some later second in
    c.in_err-d.ensures.none d (spaced (e ∷ [])) (fit_head d (e ∷ []) (fit_rest b (d ∷ e ∷ []) later)) (spaced_number (e ∷ [])) third)

pub returns-in_err-e-clause-none : goal.returns-in_err-e-clause-none
returns-in_err-e-clause-none c = if_none c.from_residual-in_err-e.result _ (λ a b d e fits q.
    let later = fit_rest a (b ∷ d ∷ e ∷ []) fits in
    let last = fit_rest b (d ∷ e ∷ []) later in
    let second = rest_is c.args.bytes.now c.in_ok-a.second.now c.in_ok-a.a a (b ∷ d ∷ e ∷ []) c.in_ok-a.ensures.fits c.in_ok-a.ensures.some fits q in
    let third = rest_is c.in_ok-a.second.now c.in_ok-b.third.now c.in_ok-b.b b (d ∷ e ∷ []) c.in_ok-b.ensures.fits c.in_ok-b.ensures.some later second in
    let fourth = rest_is c.in_ok-b.third.now c.in_ok-d.fourth.now c.in_ok-d.d d (e ∷ []) c.in_ok-d.ensures.fits c.in_ok-d.ensures.some last third in
    c.in_err-e.ensures.none e [] (fit_head e [] (fit_rest d (e ∷ []) last)) tt fourth)

pub returns-else-end-eq0-clause-none : goal.returns-else-end-eq0-clause-none
returns-else-end-eq0-clause-none c = λ a b d e fits q.
    let later = fit_rest a (b ∷ d ∷ e ∷ []) fits in
    let last = fit_rest b (d ∷ e ∷ []) later in
    let second = rest_is c.args.bytes.now c.in_ok-a.second.now c.in_ok-a.a a (b ∷ d ∷ e ∷ []) c.in_ok-a.ensures.fits c.in_ok-a.ensures.some fits q in
    let third = rest_is c.in_ok-a.second.now c.in_ok-b.third.now c.in_ok-b.b b (d ∷ e ∷ []) c.in_ok-b.ensures.fits c.in_ok-b.ensures.some later second in
    let fourth = rest_is c.in_ok-b.third.now c.in_ok-d.fourth.now c.in_ok-d.d d (e ∷ []) c.in_ok-d.ensures.fits c.in_ok-d.ensures.some last third in
    let end = rest_is c.in_ok-d.fourth.now c.in_ok-e.end.now c.in_ok-e.e e [] c.in_ok-e.ensures.fits c.in_ok-e.ensures.some (fit_rest d (e ∷ []) last) fourth in
    c.if-end-eq0.false (ap length end)
