-- What the table of new addresses tells.
use Rattle.std.specs.Prelude.{◌≡◌, ℕ, List}
use Rattle.g1_words.specs.Layout.{moved_to}
use Rattle.g1_layout.specs.Words.{IsTable, goes_to}
use Rattle.g1_layout.specs.declared.new_addresses.Table.{Table}

-- the table tells each survivor's place, and of any other address the address itself
pub record Forwards (t : Table) (survivors places : List ℕ) : Type 0 where
  pub table : IsTable t.geometry.w t.positions.items t.numbers t.places.items
  pub goes : (a : ℕ) → goes_to t.geometry.w t.positions.items t.numbers t.places.items a ≡ moved_to survivors places a
