use Rattle.std.proofs.Common.{◌≡◌, ◌<◌, ◌≤◌, ◌+◌, ◌-◌, ◌*◌, ◌++◌, [], ◌∷◌, false, min, ◌∙◌, ap, arith}
use Rattle.g1_words.specs.declared.region.Kind.TheVariants.{Continuation}
use Rattle.g1_text.specs.Content.{Content}
use Rattle.g1_text.specs.Drafts.{content}
use Rattle.g1_text.proofs.Laying.{laid_more}
use Rattle.g1_text.proofs.Skipping.{one_left, ended, goes_from}
use Rattle.g1_text.proofs.draft.Draft.close_run.Goals as goal

pub loop-preserved : goal.loop-preserved
loop-preserved c = record {
  lines = c.in_ok-continue_run.ensures.lines ∙ c.loop.invariant.lines;
  same = λ z. let e = ap (λ (x : Content). x.beyond) (c.loop.invariant.same z) in absurd (omega (arith, c.if-self-eq0.false, e, z));
  goes = λ on d g none.
      let k = c.loop.invariant.goes on d g none in
      let some : 0 < c.loop.self.beyond = omega (arith, c.if-self-eq0.false) in
      let m = one_left (content c.loop.self) d k.0 some k.1 none in
      (m.0, goes_from d m.0 c.in_ok-continue_run.ensures.says m.2, omega (arith, k.2, m.1));
  laid = λ g os regions beyond bounds laid is.
      let l = c.loop.invariant.laid g os regions beyond bounds laid is in
      let here : c.loop.self.beyond ≡ l.1 = ap (λ (x : Content). x.beyond) l.3 in
      let some : 0 < l.1 = omega (arith, c.if-self-eq0.false, here) in
      let end : c.regions-end.result ≡ g.n = c.regions-end.ensures.value ∙ ap (λ (x : Content). x.geometry.n) is in
      let one : g.n - c.loop.counter ≡ g.n - (c.loop.counter + 1) + 1 = omega (arith, end, c.loop-test.true) in
      let wide : (g.n - c.loop.counter) * g.w ≡ (g.n - (c.loop.counter + 1) + 1) * g.w = ap (λ m. m * g.w) one in
      let bound : l.1 - min g.w l.1 ≤ (g.n - (c.loop.counter + 1)) * g.w = omega (arith, wide, l.4) in (
        l.0 ++ record { kind = Continuation; top = min g.w l.1; pinned = false } ∷ [],
        l.1 - min g.w l.1,
        laid_more g os l.0 l.1 l.2 some,
        c.in_ok-continue_run.ensures.says
            ∙ (λ i. record (l.3 i) {
              regions = (l.3 i).regions ++ record { kind = Continuation; top = min (l.3 i).geometry.w (l.3 i).beyond; pinned = false } ∷ [];
              beyond = (l.3 i).beyond - min (l.3 i).geometry.w (l.3 i).beyond;
            }),
        bound,
      );
}

pub returns-then-self-eq0-clause-goes : goal.returns-then-self-eq0-clause-goes
returns-then-self-eq0-clause-goes c = λ on d few goes none.
    let k = c.loop.invariant.goes on d goes none in
    ended k.0 (omega (arith, c.if-self-eq0.true)) k.1
