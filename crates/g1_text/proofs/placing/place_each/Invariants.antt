use Rattle.std.proofs.Common.{◌≡◌, length, map, not}
use Rattle.std.specs.Prelude.{All}
use Rattle.g1_words.specs.Geometry.{Geometry, IsWithinBounds}
use Rattle.g1_text.specs.Drafts.{content}
use Rattle.g1_text.specs.Laid.{ArePassed, IsAddress, IsLaid, is_large, placed}
use Rattle.g1_text.proofs.placing.place_each.Given as goal

abbrev pub invariant-loop-place : goal.invariant-loop-place
invariant-loop-place l = record {
  count : length l.places.addresses.items ≡ length l.entries;
  passed : (g : Geometry) → IsWithinBounds g.w g.k g.n → All (λ k. is_large g l.entries k ≡ not l.fn.humongous) l.fn.places.order.items → All IsAddress l.fn.places.addresses.items
      → IsLaid g (map (placed l.entries l.fn.places.addresses.items) l.fn.places.order.items) (content l.fn.draft)
      → ArePassed g l.entries l.humongous l.place l.fn.places.order.items l.places.order.items × All IsAddress l.places.addresses.items
      × IsLaid g (map (placed l.entries l.places.addresses.items) l.places.order.items) (content l.draft);
}
