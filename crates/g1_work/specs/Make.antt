-- What is made of each number below a count.
use Rattle.std.specs.Prelude.{◌≡◌, ℕ, Result, Ok, Err, List}
use Rattle.std.specs.List.{range_with_len, AllZip}
use Rattle.g1_words.specs.declared.fault.Fault.{Fault}
use Rattle.g1_words.specs.declared.fault.Fault.TheVariants.{Memory}

module _ {X : Type 0} (makes : ℕ → X → Type 0) where
  -- the answer is what is made of the number, or out of memory
  abbrev pub IsMade : ℕ → Result X Fault → Type 0
  IsMade number (Ok x) = makes number x
  IsMade number (Err fault) = fault ≡ Memory

  -- the items are what is made of 0, 1 and so on below the count
  abbrev pub AreMade : ℕ → List X → Type 0
  AreMade count xs = AllZip makes (range_with_len 0 count) xs
