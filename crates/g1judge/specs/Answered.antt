-- By which numbers a call says what it found.
use Rattle.std.specs.Prelude.{ℕ, List, [], ◌++◌, length, take, drop}
use Rattle.g1_words.specs.Fault.{number_of}
use Rattle.g1_words.specs.declared.fault.Fault.{Fault}
use Rattle.g1_words.specs.declared.fault.Fault.TheVariants as fault
use Rattle.g1_words.specs.declared.fault.Place.TheVariants as place
use Rattle.g1_words.specs.declared.fault.Stand.TheVariants as stand
use Rattle.g1_same.specs.declared.difference.How.{How}
use Rattle.g1_same.specs.declared.difference.How.TheVariants.{NullBefore, NullAfter, Split, Joined, Size, Slots, Data}
use Rattle.g1_same.specs.declared.difference.Difference.{Difference}
use Rattle.g1_same.specs.declared.difference.Difference.TheVariants.{Roots, At}
use Rattle.g1_kept.specs.declared.lost.Lost.{Lost}
use Rattle.g1_kept.specs.declared.lost.Lost.TheVariants as lost
use Rattle.g1judge.specs.declared.answer.Answer.{Answer}
use Rattle.g1_same.specs.declared.ending.Ends.{Ends}
use Rattle.g1_same.specs.declared.comparing_stale.StaleEnd.{StaleEnd}
use Rattle.g1judge.specs.declared.verdict.Verdict.{Verdict}
use Rattle.g1judge.specs.declared.verdict.Verdict.TheVariants.{Good, Same, Differ, Stale, NoImage, Uncovered, Loss, NoSet, Memory}

-- THE STATUS that a call returns
abbrev pub status_of : Verdict → ℕ
status_of Good = 0
status_of (Same objects words) = 0
status_of (Differ d ends) = 1
status_of (Stale end) = 1
status_of (NoImage image e) = 3
status_of (Uncovered slot) = 4
status_of (Loss l) = 1
status_of (NoSet region) = 5
status_of Memory = 6

-- what a fault names: 1 a region, 2 a root, 3 a slot, 4 a place of the log, 0 nothing
abbrev pub place_of : Fault → ℕ
place_of (fault.Kind region) = 1
place_of (fault.Shape region) = 1
place_of (fault.Flags region) = 1
place_of (fault.Reference (place.Root index)) = 2
place_of (fault.Reference (place.Slot address)) = 3
place_of (fault.Card (stand.Dirty index)) = 4
place_of (fault.Card (stand.Region region)) = 1
place_of (fault.Uncovered address) = 3
place_of (fault.Set region) = 1
place_of e = 0

-- its number
abbrev pub at_of : Fault → ℕ
at_of (fault.Kind region) = region
at_of (fault.Shape region) = region
at_of (fault.Flags region) = region
at_of (fault.Reference (place.Root index)) = index
at_of (fault.Reference (place.Slot address)) = address
at_of (fault.Card (stand.Dirty index)) = index
at_of (fault.Card (stand.Region region)) = region
at_of (fault.Uncovered address) = address
at_of (fault.Set region) = region
at_of e = 0

-- the answer that says nothing
abbrev pub nothing : Answer
nothing = record { image = 0; fault = 0; place = 0; kind = 0; at = 0; root = 0; slots = 0; before = 0; after = 0; first = 0; second = 0; third = 0; objects = 0; words = 0 }

-- the fault of an image, or of none
abbrev pub answer_fault : ℕ → Fault → Answer
answer_fault which e = record nothing { image = which; fault = number_of e; place = place_of e; at = at_of e }

-- a kind of difference, and its numbers
abbrev pub numbers : ℕ → ℕ → ℕ → ℕ → Answer
numbers k a b c = record nothing { kind = k; first = a; second = b; third = c }

-- how the words that a path leads to disagree
abbrev pub answer_how : How → Ends → Answer
answer_how NullBefore e = numbers 2 0 0 0
answer_how NullAfter e = numbers 3 0 0 0
answer_how (Split a m n) e = numbers 4 a m n
answer_how (Joined m n b) e = numbers 5 m n b
answer_how (Size m n) e = numbers 6 m n 0
answer_how (Slots m n) e = numbers 7 m n 0
answer_how (Data k) e = numbers 8 k e.word_before e.word_after

-- the first difference of two heaps
abbrev pub answer_difference : Difference → Ends → Answer
answer_difference (Roots m n) e = numbers 1 m n 0
answer_difference (At k ss how) e = record (answer_how how e) { root = k; slots = length ss.items; before = e.before; after = e.after }

-- a stale word, where its path ends
abbrev pub answer_stale : StaleEnd → Answer
answer_stale e = record nothing { kind = 20; root = e.root; slots = length e.slots.items; before = e.before; after = e.word }

-- what is lost, and where
abbrev pub answer_loss : Lost → Answer
answer_loss lost.Sizes = numbers 9 0 0 0
answer_loss lost.Roots = numbers 10 0 0 0
answer_loss (lost.Set r) = numbers 11 r 0 0
answer_loss (lost.Region r) = numbers 12 r 0 0
answer_loss (lost.Unpinned r) = numbers 13 r 0 0
answer_loss (lost.Pinned r) = numbers 14 r 0 0
answer_loss (lost.Root n) = numbers 15 n 0 0
answer_loss (lost.Copy a b) = numbers 16 a b 0
answer_loss (lost.Header a b) = numbers 17 a b 0
answer_loss (lost.Data a b k) = numbers 18 a b k
answer_loss (lost.Slot a b n) = numbers 19 a b n

-- THE ANSWER that a call writes
abbrev pub answer_of : Verdict → Answer
answer_of Good = nothing
answer_of (Same objects words) = record nothing { objects = objects; words = words }
answer_of (Differ d e) = answer_difference d e
answer_of (Stale end) = answer_stale end
answer_of (NoImage image e) = answer_fault image e
answer_of (Uncovered slot) = answer_fault 1 (fault.Uncovered slot)
answer_of (Loss l) = answer_loss l
answer_of (NoSet region) = answer_fault 1 (fault.Set region)
answer_of Memory = answer_fault 0 fault.Memory

-- the slots of the path to a difference or to a stale word
abbrev pub path_of : Verdict → List ℕ
path_of (Differ (At k ss how) e) = ss.items
path_of (Stale end) = end.slots.items
path_of _ = []

-- the slots stand in a buffer from its start on as far as there is room, and what is behind them stays
abbrev pub written : List ℕ → List ℕ → List ℕ
written slots buffer = take (length buffer) slots ++ drop (length slots) buffer
