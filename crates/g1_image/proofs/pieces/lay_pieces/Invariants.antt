use Rattle.std.proofs.Common.{◌≡◌, ◌≤◌, ◌<◌, ◌+◌, ◌*◌, ℕ, length, slice_index_or, take}
use Rattle.g1_image.specs.Text.{table_words}
use Rattle.g1_image.specs.Ahead.{to_take, KnowsEnd}
use Rattle.g1_image.specs.Growing.{laid_words}
use Rattle.g1_image.proofs.Laid.{Laid}
use Rattle.g1_image.proofs.pieces.lay_pieces.Given as goal

abbrev pub invariant-loop-e : goal.invariant-loop-e
invariant-loop-e g l = record {
  known : KnowsEnd l.ahead (g.S.Source.left l.source);
  zeros : l.laid.zeros ≤ l.e-index * l.w;
  taken : l.taken ≡ table_words (take l.e-index l.table);
  within : l.taken ≤ table_words l.table;
  reached : (r i : ℕ) → r < l.e-index → i < l.w → i < (slice_index_or l.table r (record { kind = 0; top = 0; flags = 0 })).top → r * l.w + i < length l.laid.words.items;
  part : Laid (g.S.Source.failed l.fn.source) (g.S.Source.failed l.source) (to_take l.fn.ahead (g.S.Source.left l.fn.source))
      (to_take l.ahead (g.S.Source.left l.source)) l.w l.table l.e-index (laid_words l.laid);
}
