use Rattle.std.proofs.Common.{◌≡◌, true, ℕ, List, [], All, subst, arith}
use Rattle.std.proofs.lemmas.List.{take_all}
use Rattle.std.proofs.lemmas.List.Elements.{All-weaker}
use Rattle.g1_text.specs.Weak.{IsStrong}
use Rattle.g1_text.specs.Marking.{texts, has_name}
use Rattle.g1_text.proofs.WeakLines.{text_at, texts_more}
use Rattle.g1_text.proofs.weak.Marking.mark_roots.Goals as goal

pub roots-preserved : goal.roots-preserved
roots-preserved c =
    let xs = c.args.roots.now in
    let i = c.roots.root-index in
    let new = c.mark.new.self.strong in
    record {
      found = λ lines all h. c.in_ok-mark.ensures.found lines [] (text_at (IsStrong lines) xs i _ (omega (arith, c.roots-test.true)) all) (c.roots.invariant.found lines all h);
      marked = texts_more (λ (name : List ℕ). has_name new name ≡ true) xs i _ (omega (arith, c.roots-test.true))
          (All-weaker (λ (name : List ℕ). has_name c.roots.self.strong name ≡ true) (λ (name : List ℕ). has_name new name ≡ true) c.in_ok-mark.ensures.stay _ c.roots.invariant.marked) c.in_ok-mark.ensures.marked;
    }

pub returns-clause-marked : goal.returns-clause-marked
returns-clause-marked c =
    subst (λ xs. All (λ (name : List ℕ). has_name c.roots.self.strong name ≡ true) (texts xs)) (take_all c.roots.root-index c.args.roots.now (omega (arith, c.roots-test.false))) c.roots.invariant.marked
