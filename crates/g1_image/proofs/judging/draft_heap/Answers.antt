use Rattle.std.proofs.Common.{inl, inr, arith, ℕ, ◌≡◌, ◌<◌, ◌*◌, length, sym, ap, subst, ◌∙◌}
use Rattle.std.proofs.lemmas.List.{length-map}
use Rattle.std.proofs.lemmas.Result.{err_from_is_err_and}
use Rattle.std.specs.Prelude.{IfSome}
use Rattle.g1_words.specs.Geometry.{IsWithinBounds}
use Rattle.g1_words.specs.Words.{AreLaid}
use Rattle.g1_words.proofs.Accepted.{in_bounds}
use Rattle.g1_image.specs.Image.{region_of_entry}
use Rattle.g1_image.specs.Faults.{IsFirstBreach, IsKnownKind, HasKnownFlags}
use Rattle.g1_image.proofs.judging.draft_heap.Goals as goal
use Rattle.g1_image.proofs.judging.draft_heap.Goals.{then-h, else-h}

pub invariant_of-result : goal.invariant_of-result
invariant_of-result c =
    let h = c.args.h.now in
    let g = c.in_ok-geometry.geometry in
    let gw : g.w ≡ h.w = c.in_ok-geometry.ensures.ok.0 ∙ c.from.ensures in
    let gk : g.k ≡ h.k = c.in_ok-geometry.ensures.ok.1 ∙ c.from-2.ensures in
    let gn : g.n ≡ h.n = c.in_ok-geometry.ensures.ok.2 ∙ c.from-3.ensures in
    let bounds : IsWithinBounds h.w h.k h.n = in_bounds c.args.limits h.w h.k h.n c.requires.good.sizes in
    let limits : IsWithinBounds g.w g.k g.n = subst (λ x. IsWithinBounds x g.k g.n) (sym gw)
    (subst (λ x. IsWithinBounds h.w x g.n) (sym gk) (subst (λ x. IsWithinBounds h.w h.k x) (sym gn) bounds)) in (
      record {
        limits = limits;
        word_count = c.requires.words ∙ (λ t. sym gn t * sym gw t);
        word_fits = c.requires.fit;
        region_count = ap length c.in_ok-regions.ensures.ok.0 ∙ length-map c.args.table.now region_of_entry ∙ c.requires.table ∙ sym gn;
        root_count = omega (arith, c.requires.roots, c.requires.good.roots);
        current_in = elim c.if-h.branch [
          | then-h w ↦ subst (λ x. IfSome x (λ r. r < g.n)) (sym w.current-is) (omega (arith, w.if-h.true, gn))
          | else-h w ↦ subst (λ x. IfSome x (λ r. r < g.n)) (sym w.current-is) tt
        ];
      },
      subst (λ w. AreLaid w c.in_ok-regions.regions.items c.args.words.laid) (sym gw) (subst (λ rs. AreLaid h.w rs c.args.words.laid) (sym c.in_ok-regions.ensures.ok.0) c.requires.laid),
    )

pub returns-in_err-regions-clause-err : goal.returns-in_err-regions-clause-err
returns-in_err-regions-clause-err c =
    let p = err_from_is_err_and c.from_residual.result c.from_residual.ensures.1 in
    rw (p.1, p.2) (elim c.in_err-regions.ensures.err [
      | inl m ↦ inl m
      | inr h ↦ inr (rw h.1 (subst (λ n. IsFirstBreach (IsKnownKind c.args.table.now) n h.0) c.requires.table h.2))
    ])

pub returns-in_err-check_flags-clause-err : goal.returns-in_err-check_flags-clause-err
returns-in_err-check_flags-clause-err c =
    let table = c.args.table.now in
    let p = err_from_is_err_and c.from_residual-in_err-check_flags.result c.from_residual-in_err-check_flags.ensures.1 in
    let h = c.in_err-check_flags.ensures.err in
    rw (p.1, p.2) (inr (rw h.1 (
      subst (λ n. (q : ℕ) → q < n → IsKnownKind table q) c.requires.table c.in_ok-regions.ensures.ok.1,
      subst (λ n. IsFirstBreach (HasKnownFlags table) n h.0) c.requires.table h.2,
    )))

pub returns-clause-known : goal.returns-clause-known
returns-clause-known c =
    let table = c.args.table.now in
    record {
      kinds = subst (λ n. (q : ℕ) → q < n → IsKnownKind table q) c.requires.table c.in_ok-regions.ensures.ok.1;
      flags = subst (λ n. (q : ℕ) → q < n → HasKnownFlags table q) c.requires.table c.in_ok-check_flags.ensures.ok;
    }

pub returns-in_err-geometry-clause-err : goal.returns-in_err-geometry-clause-err
returns-in_err-geometry-clause-err c =
    absurd (c.in_err-geometry.ensures.err.1 (rw (c.from.ensures, c.from-2.ensures, c.from-3.ensures) c.requires.good.sizes))
