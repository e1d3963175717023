use Rattle.std.proofs.Common.{◌≡◌, ◌+◌, ℕ, length}
use Rattle.g1_text.specs.Content.{Content}
use Rattle.g1_text.specs.Short.{GoesOn}
use Rattle.g1_text.specs.Drafts.{content, numbers}
use Rattle.g1_text.proofs.draft.Draft.continue_run_to.Given as goal

abbrev pub invariant-loop : goal.invariant-loop
invariant-loop l = record {
  lines : numbers l.self ≡ numbers l.fn.self;
  goes : (on : ℕ) (d : Content) → length (content l.fn.self).regions + on ≡ l.fn.region → GoesOn (content l.fn.self) on d → (left : ℕ) × GoesOn (content l.self) left d × (l.counter + left ≡ l.fn.region);
}
