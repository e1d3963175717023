use Rattle.std.proofs.Common.{◌≡◌, ◌≤◌, ◌*◌, ◌+◌, ◌-◌, ℕ, List}
use Rattle.g1_words.specs.Geometry.{Geometry, IsWithinBounds}
use Rattle.g1_words.specs.declared.object.Object.{Object}
use Rattle.g1_words.specs.declared.region.Region.{Region}
use Rattle.g1_text.specs.Content.{Content}
use Rattle.g1_text.specs.Short.{GoesOn}
use Rattle.g1_text.specs.Drafts.{content, numbers}
use Rattle.g1_text.specs.Laid.{AreLaid, laid_content}
use Rattle.g1_text.proofs.draft.Draft.close_run.Given as goal

abbrev pub invariant-loop : goal.invariant-loop
invariant-loop l = record {
  lines : numbers l.self ≡ numbers l.fn.self;
  same : l.fn.self.beyond ≡ 0 → content l.self ≡ content l.fn.self;
  goes : (on : ℕ) (d : Content) → GoesOn (content l.fn.self) on d → d.beyond ≡ 0 → (left : ℕ) × GoesOn (content l.self) left d × (l.counter + left ≡ on);
  laid : (g : Geometry) (os : List Object) (regions : List Region) (beyond : ℕ) → IsWithinBounds g.w g.k g.n → AreLaid g regions beyond os → content l.fn.self ≡ laid_content g regions beyond
      → (rs : List Region) × (rest : ℕ) × AreLaid g rs rest os × (content l.self ≡ laid_content g rs rest) × (rest ≤ (g.n - l.counter) * g.w);
}
