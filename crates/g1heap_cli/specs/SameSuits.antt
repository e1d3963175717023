-- What `same` can ask of two sides: an image has regions and cards, lines have names, and each word stands for one text.
use Rattle.std.specs.Prelude.{◌≡◌, ◌≢◌, ◌⊎◌, ◌↔◌, true, [], None}
use Rattle.g1_report.specs.declared.sides.Side.{Side}
use Rattle.g1_report.specs.Opened.{HasNames}
use Rattle.g1_report.specs.Shared.{SharesTexts}
use Rattle.g1heap_request.specs.declared.options.Same.{Same}

-- regions are given, and the side has lines
abbrev pub AsksSetOfLines : Same → Side → Type 0
AsksSetOfLines same s = HasNames s × (same.set.items ≢ [])

-- cover is asked or regions are given, and the side has lines
abbrev pub AsksCardsOfLines : Same → Side → Type 0
AsksCardsOfLines same s = HasNames s × ((same.covered ≡ true) ⊎ (same.set.items ≢ []))

-- what moved is asked of an image and of lines, and no file says which object after is which
abbrev pub AsksMovesOfOne : Same → Side → Side → Type 0
AsksMovesOfOne same b a = (same.moved ≡ true) × (same.names_after ≡ None) × ((HasNames b ↔ HasNames a) → ⊥)

-- WHAT IS ASKED SUITS THE TWO SIDES: it is none of these, and no word stands for two texts
pub record Suits (same : Same) (before after : Side) : Type 0 where
  pub set : AsksSetOfLines same before → ⊥
  pub cards : AsksCardsOfLines same after → ⊥
  pub moves : AsksMovesOfOne same before after → ⊥
  pub texts : SharesTexts before after → ⊥
