-- What stands in a file before its words, as it was read.
use Rattle.std.specs.Prelude.{ℕ, List, map}
use Rattle.g1_words.specs.declared.limits.Limits.{Limits}
use Rattle.g1_words.specs.Words.{AreLaid}
use Rattle.g1_image.specs.Image.{region_of_entry}
use Rattle.g1_image.specs.declared.front.Front.{Front}
use Rattle.g1_image.specs.Plain.{FrontFits, front_text, ArePartsOf}

-- its heading is within these limits, its numbers fit, and there are as many as are announced
abbrev pub IsGoodFront : Limits → Front → Type 0
IsGoodFront limits f = FrontFits limits f.version f.heading f.table.items f.roots.items f.log.items (map (λ s. s.items) f.remembered.items)

-- its text, and what follows it
abbrev pub text_of : Front → List ℕ → List ℕ
text_of f rest = front_text f.version f.heading f.table.items f.roots.items f.log.items (map (λ s. s.items) f.remembered.items) rest

-- the bytes are the text of a whole file within these limits, with this front and these laid words
abbrev pub IsLaidOut : Limits → List ℕ → Front → List ℕ → Type 0
IsLaidOut limits bytes f laid = ArePartsOf limits bytes f.version f.heading f.table.items f.roots.items f.log.items (map (λ s. s.items) f.remembered.items) laid

-- so many laid words reach over the used words of the regions in its table
abbrev pub IsReachedBy : Front → ℕ → Type 0
IsReachedBy f laid = AreLaid f.heading.w (map region_of_entry f.table.items) laid
