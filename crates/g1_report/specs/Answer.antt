-- What is handed on of a verdict on two heaps.
use Rattle.std.specs.Prelude.{◌≡◌, ◌⊎◌, ℕ, Bool, true, false, List, [], ◌∷◌, ◌++◌, Option, Some, None, IfSome, codes, ◌+◌, ⊤}
use Rattle.std.specs.List.Sorted.{IsNonDecreasingBy}
use Rattle.g1_same.specs.declared.difference.Difference.{Difference}
use Rattle.g1_same.specs.declared.difference.Difference.TheVariants.{Roots, At}
use Rattle.g1_same.specs.declared.renaming.Renaming.{Renaming}
use Rattle.g1_same.specs.Path.{Together}
use Rattle.g1_kept.specs.declared.lost.Lost.{Lost}
use Rattle.g1_report.specs.declared.sides.Side.{Side}
use Rattle.g1_report.specs.declared.sides.Strays.{Strays}
use Rattle.g1_report.specs.declared.reporting.Asked.{Asked}
use Rattle.g1_report.specs.declared.verdict.Finding.{Finding}
use Rattle.g1_report.specs.declared.verdict.Finding.TheVariants.{Same, Differ, Stale}
use Rattle.g1_report.specs.Program.{names_told, AreInOrder}
use Rattle.g1_report.specs.Wording.{Called, Compared, place_line, roots_line, stale_line, lost_line, same_line, have_moved, moved_line}
use Rattle.g1_report.specs.Listed.{lists, HandedOn}
use Rattle.g1_report.specs.Agreement.{KeepsSet}
use Rattle.g1_report.specs.Finding.{IsFinding, Loses}

-- the names of the objects of a side, if it has names
abbrev pub labels_of : Side → Option Called
labels_of s = elim s.labels [ None ↦ None | Some l ↦ Some l.items ]

-- the names that stale words stand for; a file's own words stand for none
abbrev pub names_or_none : Called → Option Called
names_or_none [] = None
names_or_none (e ∷ es) = Some (e ∷ es)

abbrev pub stale_names : Option Strays → Option Called
stale_names None = None
stale_names (Some s) = names_or_none s.names.items

-- two sides, and what a program and they call things
abbrev pub compared_of : Asked → Compared
compared_of a = record {
  before = a.before.now.image.heap;
  after = a.after.now.image.heap;
  names = names_told a.names;
  names_after = names_told a.names_after;
  objects_before = labels_of a.before.now;
  objects_after = labels_of a.after.now;
  roots = a.before.now.holders.items;
  texts_before = a.before.now.texts.entries;
  texts_after = a.after.now.texts.entries;
  stale = stale_names a.after.now.stale;
}

-- the numbers of a list of names count up from this one
abbrev pub CountsFrom : ℕ → Called → Type 0
CountsFrom n [] = ⊤
CountsFrom n (e ∷ es) = (e.0 ≡ n) × CountsFrom (n + 1) es

-- the numbers of a list of names don't fall
abbrev pub IsByNumber : Called → Type 0
IsByNumber names = IsNonDecreasingBy (λ e. e.0) names

-- the names of lines are in the order of their numbers; an image has none
pub record AreByNumber (s : Compared) : Type 0 where
  pub objects_before : IfSome s.objects_before IsByNumber
  pub objects_after : IfSome s.objects_after IsByNumber
  pub roots : IsByNumber s.roots
  pub stale : IfSome s.stale IsByNumber

-- the names of a program are in order, if they are given; and so are the names of lines
pub record AreNamesInOrder (s : Compared) : Type 0 where
  pub names : IfSome s.names AreInOrder
  pub names_after : IfSome s.names_after AreInOrder
  pub in_order : AreByNumber s

-- THE NAMES OF A SIDE ARE IN ORDER: those of its objects by address, those of its roots by number, and those that stale words
-- stand for by word
pub record IsInOrder (s : Side) : Type 0 where
  pub objects : IfSome (labels_of s) IsByNumber
  pub roots : IsByNumber s.holders.items
  pub stale : IfSome (stale_names s.stale) IsByNumber

-- ALL NAMES ARE IN ORDER: those of a program, as they are once they were read, and those of the sides, as each side is that was opened
pub record IsInOrderAll (a : Asked) : Type 0 where
  pub names : IfSome (compared_of a).names AreInOrder
  pub names_after : IfSome (compared_of a).names_after AreInOrder
  pub before : IsInOrder a.before.now
  pub after : IsInOrder a.after.now

-- the line of a difference
abbrev pub IsDifferenceLine : Compared → Difference → List ℕ → Type 0
IsDifferenceLine s (Roots m n) line = line ≡ roots_line m n
IsDifferenceLine s (At root slots how) line =
    (x : ℕ) × (y : ℕ) × Together s.before s.after (root ∷ slots.items) x y × (line ≡ place_line s root slots.items how x y)

-- the line of what moved, if that is asked, and that of the set, if one is given
abbrev pub moved_text : Bool → Compared → List ℕ → List ℕ → List ℕ
moved_text false s olds news = []
moved_text true s olds news = moved_line s (have_moved s olds news)

abbrev pub kept_text : List ℕ → List ℕ
kept_text [] = []
kept_text (r ∷ set) = codes "kept\n"

-- THE TEXT OF AN AGREEMENT
abbrev pub same_text : Compared → Asked → Renaming → List ℕ
same_text s a r = same_line s.before r.before.items ++ (moved_text a.moved s r.before.items r.after.items ++ kept_text a.set.now)

-- one graph: what is asked of the set is kept, or something is lost first
abbrev pub IsSameAnswer : Compared → Asked → Renaming → ℕ → List ℕ → Type 0
IsSameAnswer s a r status text =
    ((status ≡ 0) × KeepsSet s.before s.after a.set.now a.fill × (text ≡ same_text s a r))
    ⊎ ((status ≡ 1) × (l : Lost) × Loses s.before s.after a.set.now a.fill l × (text ≡ lost_line l))

-- THE STATUS AND THE TEXT by what was found
abbrev pub IsAnswer : Compared → Asked → Finding → ℕ → List ℕ → Type 0
IsAnswer s a (Same r) status text = IsSameAnswer s a r status text
IsAnswer s a (Differ d) status text = (status ≡ 1) × IsDifferenceLine s d text
IsAnswer s a (Stale e) status text = (status ≡ 1) × (text ≡ stale_line s e.root e.slots.items e.before e.word)

-- WHAT IS HANDED ON: the text of what is found first of the two heaps; if all differences are asked for, further lines behind it
pub record HandsOn (a : Asked) (status : ℕ) (old new : Option (List ℕ)) : Type 0 where
  pub finding : Finding
  pub found : IsFinding a.before.now.image.heap a.after.now.image.heap a.after.now.stale finding
  pub text : List ℕ
  pub answer : IsAnswer (compared_of a) a finding status text
  pub taken : HandedOn (compared_of a) (lists finding a.all) old new text
