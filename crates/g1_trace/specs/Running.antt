-- The limits of a trace's first line.
use Rattle.std.specs.Prelude.{ℕ, ◌≤◌}
use Rattle.g1_words.specs.Geometry.{Geometry, IsWithinLimits, most_roots}
use Rattle.g1_trace.specs.declared.trace.Trace.{Trace}
use Rattle.g1_trace.specs.TraceText.{sizes}

-- a heap of these sizes, with so many roots, is within the limits
pub record IsHeapSize (g : Geometry) (count : ℕ) : Type 0 where
  pub sizes : IsWithinLimits g.w g.k g.n
  pub roots : count ≤ most_roots

-- the numbers of a trace's first line are within the limits
abbrev pub AreLimits : Trace → Type 0
AreLimits t = IsHeapSize (sizes t) t.roots
