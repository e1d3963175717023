-- What a draft of an image holds.
use Rattle.std.specs.Prelude.{◌≡◌, ◌<◌, ◌^◌, ℕ, Bool, true, false, List, [], ◌∷◌, ◌++◌, length, map, replicate, codes, Option, Some, None, not, ◌==◌, All, Result, MatchResult}
use Rattle.g1_words.specs.Heap.{objects}
use Rattle.g1_words.specs.Valid.{AllShaped}
use Rattle.g1_image.specs.Text.{File, heading_of, table_words}
use Rattle.g1_image.specs.Reading.{Are, IsU32, IsU64}
use Rattle.g1_image.specs.Faults.{HeadingFits, EntryFits}
use Rattle.g1_image.specs.Image.{heap_of}
use Rattle.g1_text.specs.declared.expected.Refusal.{Refusal}
use Rattle.g1_text.specs.declared.expected.Refusal.TheVariants.{Memory}
use Rattle.g1_text.specs.declared.draft.Draft.{Draft}
use Rattle.g1_text.specs.declared.named.Lines.{Lines}
use Rattle.g1_text.specs.declared.draft.Told.{Told}
use Rattle.g1_text.specs.declared.draft.Placed.{Placed}
use Rattle.g1_text.specs.Forms.{Form}
use Rattle.g1_text.specs.Content.{Content, Counts, file_with}
use Rattle.g1_text.specs.FaultLines.{LineNumbers}
use Rattle.g1_text.specs.Late.{begins_with, number_if, cards_if, region_if}

-- what a region's line said
abbrev pub counts_of : Told → Counts
counts_of t = record { region = t.region; top = t.top; objects = t.objects; cards = t.cards; found = t.found }

-- the address of an object
abbrev pub address_of_object : Placed → ℕ
address_of_object o = o.at

-- what the lines said that a draft was read from
abbrev pub content : Draft → Content
content d = record {
  geometry = d.geometry;
  current = d.current;
  root_count = d.lines.heading.roots;
  dirty_count = d.lines.heading.dirty;
  roots = d.roots.items;
  log = d.log.items;
  regions = d.regions.items;
  remembered = map (λ s. s.items) d.remembered.items;
  words = d.words.items;
  beyond = d.beyond;
  covered = d.covered;
  counts = map counts_of d.lines.regions.items;
  addresses = map address_of_object d.objects.items;
}

-- a draft has this content after a call, or memory is out
abbrev pub Becomes : {T : Type 0} → Result T Refusal → Content → Content → Type 0
Becomes r after c = MatchResult r (λ _. after ≡ c) (λ e. e ≡ Memory)

-- what the lines said that were read so far, if any was
abbrev pub said : Option Draft → Option Content
said None = None
said (Some d) = Some (content d)

-- the line of a region, and of an object
abbrev pub line_of_region : Told → ℕ
line_of_region t = t.line

abbrev pub line_of_object : Placed → ℕ
line_of_object o = o.line

-- the numbers of the lines that a draft was read from
abbrev pub numbers : Draft → LineNumbers
numbers d = record {
  headings = d.lines.heading.line ∷ [];
  roots = d.lines.roots.items;
  log = d.lines.log.items;
  regions = map line_of_region d.lines.regions.items;
  remembered = d.lines.remembered.items;
  objects = map line_of_object d.objects.items;
}

-- as many lines say a root as there are roots, and each card of the log has a line
abbrev pub AreAsMany : LineNumbers → Content → Type 0
AreAsMany l c = (length l.roots ≡ length c.roots) × (length l.log ≡ length c.log)

-- the numbers of a file fit, except those of its remembered sets, which no heap has
pub record HeapFits (f : File) : Type 0 where
  pub heading : HeadingFits (heading_of f)
  pub table : Are (EntryFits f.version) f.n f.table
  pub roots : All IsU64 f.roots
  pub log : All IsU32 f.log
  pub words : Are IsU64 (table_words f.table) f.words

-- WHAT WAS READ STANDS IN A HEAP: its numbers fit into a file, and if its regions keep their rules, the heap's objects have
-- the addresses that were read, in this order
pub record StandsInHeap (c : Content) : Type 0 where
  pub fits : length c.roots < 2 ^ 32 → length c.log < 2 ^ 32 → HeapFits (file_with c)
  pub objects : AllShaped (heap_of (file_with c)) → c.addresses ≡ map (λ o. o.at) (objects (heap_of (file_with c)))

-- the numbers of the lines that were read so far
abbrev pub numbers_read : Option Draft → LineNumbers
numbers_read None = record { headings = []; roots = []; log = []; regions = []; remembered = []; objects = [] }
numbers_read (Some d) = numbers d

-- with the number of a line more
abbrev pub with_line : LineNumbers → ℕ → List (List ℕ) → LineNumbers
with_line l n words = record {
  headings = l.headings ++ number_if (begins_with (codes "heap") words) n;
  roots = l.roots ++ number_if (begins_with (codes "root") words) n;
  log = l.log ++ replicate (cards_if (begins_with (codes "dirty") words) words) n;
  regions = l.regions ++ number_if (begins_with (codes "region") words) n;
  remembered = l.remembered ++ region_if (begins_with (codes "remembered") words) words n;
  objects = l.objects ++ number_if (begins_with (codes "object") words) n;
}

-- whether lines of objects by name have begun: the number of the heading's line is known
abbrev pub is_begun : Lines → Bool
is_begun l = not (l.heading == 0)

-- what a line may be, by whether the heading was read
abbrev pub form_after : Form → Form → Bool → Form
form_after heading below false = heading
form_after heading below true = below

-- the line has the form of one that may come next, and the heading is read now
abbrev pub IsTaken : Form → Form → Bool → List (List ℕ) → Bool → Type 0
IsTaken heading below before line after = form_after heading below before line × (after ≡ true)

-- so are lines, one after the other
abbrev pub AreTaken : Form → Form → Bool → List (List (List ℕ)) → Bool → Type 0
AreTaken heading below before [] after = before ≡ after
AreTaken heading below before (line ∷ lines) after = form_after heading below before line × AreTaken heading below true lines after
