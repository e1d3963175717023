-- What stands behind what stood there, whatever it is.
use Rattle.std.proofs.Common.{ℕ, List, [], ◌++◌, Option, Some, None, subst, sym}
use Rattle.std.specs.Io.KnownBytes.{Appends, Keeps}
use Rattle.std.proofs.KnownBytes.{Appends-nil, Appends-trans}
use Rattle.g1_report.specs.Taken.{TakesPart, TakesFirst}
use Rattle.g1heap_cli.specs.Leaving.{Grows}

-- nothing is written
pub grows_none : (old : Option (List ℕ)) → Grows old old
grows_none old = ([], Appends-nil old)

-- what stood there still stands there
pub grows_kept : (a b : Option (List ℕ)) → Keeps a b → Grows a b
grows_kept None b h = ([], tt)
grows_kept (Some x) None h = absurd h
grows_kept (Some x) (Some y) h = ([], subst (λ l. Appends (Some x) (Some l) []) (sym h) (Appends-nil (Some x)))

-- more behind it
pub grows_on : (old now new : Option (List ℕ)) → Grows old now → Grows now new → Grows old new
grows_on old now new f g = (f.0 ++ g.0, Appends-trans old now new f.0 g.0 f.1 g.1)

-- a beginning of lines
pub grows_part : (old new : Option (List ℕ)) (text : List ℕ) → TakesPart old new text → Grows old new
grows_part None new text f = ([], tt)
grows_part (Some xs) None text f = absurd f
grows_part (Some xs) (Some ys) text f = (f.0, f.3)

-- what a report takes
pub grows_first : (old new : Option (List ℕ)) → TakesFirst old new [] → Grows old new
grows_first None new f = ([], tt)
grows_first (Some xs) None f = absurd f
grows_first (Some xs) (Some ys) f = (f.0, f.1)
