-- What each command answers and does, told once for all stores: by the roots, and by the slots and data words of the objects that they name.
use Rattle.std.specs.Prelude.{ℕ, zero, suc, List, length, slice_index, nat_lt, ◌==◌, if◌then◌else◌, Result}
use Rattle.std.specs.Prelude.{Ok as Passed, Err as Refused}
use Rattle.g1_trace.specs.declared.command.Command.{Command}
use Rattle.g1_trace.specs.declared.command.Command.TheVariants.{New, Get, Put, Set, Say, Same, Copy, Drop, Pause}
use Rattle.g1_trace.specs.declared.command.Reply.{Reply}
use Rattle.g1_trace.specs.declared.command.Reply.TheVariants.{Ok, Range, Null, Number}
pub use Rattle.g1_trace.specs.declared.effect.Effect.{Effect}
pub use Rattle.g1_trace.specs.declared.effect.Effect.TheVariants.{Nothing, SetRoot, SetSlot, SetValue, MakeNew, MakePause}
pub use Rattle.g1_trace.specs.declared.effect.Answer.{Answer}

-- what a command sees of a store; a reference is 0 (null) or an object and 1
pub record View : Type 0 where
  pub roots : List ℕ
  pub slots : ℕ → List ℕ
  pub values : ℕ → List ℕ

-- a reply with what is done
abbrev pub answer : Reply → Effect → Answer
answer r e = record { reply = r; effect = e }

-- the answer of a command that passed its checks, or the reply of the check that refused it, and then nothing is done
abbrev pub answer_from : Result Answer Reply → Answer
answer_from (Passed a) = a
answer_from (Refused reply) = answer reply Nothing

module _ (v : View) where
  -- the value of a root
  abbrev pub root : ℕ → ℕ
  root r = slice_index v.roots r

  -- `range` where there is no such root
  abbrev pub in_range : ℕ → Answer → Answer
  in_range r rest = if nat_lt r (length v.roots) then rest else answer Range Nothing

  -- `null` where the value names nothing, else what follows for the object
  abbrev pub not_null : ℕ → (ℕ → Answer) → Answer
  not_null zero rest = answer Null Nothing
  not_null (suc a) rest = rest a

  -- `range` where the list has no such place
  abbrev pub within : ℕ → List ℕ → Answer → Answer
  within m xs rest = if nat_lt m (length xs) then rest else answer Range Nothing

  -- THE TABLE of commands, the checks in their order
  abbrev pub answer_of : Command → Answer
  answer_of (New r refs words) = in_range r (answer Ok (MakeNew r refs words))
  answer_of (Get r q m) = in_range r (in_range q (not_null (root q) (λ a. within m (v.slots a) (answer Ok (SetRoot r (slice_index (v.slots a) m))))))
  answer_of (Put r m q) = in_range r (in_range q (not_null (root r) (λ a. within m (v.slots a) (answer Ok (SetSlot a m (root q))))))
  answer_of (Set r m x) = in_range r (not_null (root r) (λ a. within m (v.values a) (answer Ok (SetValue a m x))))
  answer_of (Say r m) = in_range r (not_null (root r) (λ a. within m (v.values a) (answer (Number (slice_index (v.values a) m)) Nothing)))
  answer_of (Same r q) = in_range r (in_range q (answer (Number (if root r == root q then 1 else 0)) Nothing))
  answer_of (Copy r q) = in_range r (in_range q (answer Ok (SetRoot r (root q))))
  answer_of (Drop r) = in_range r (answer Ok (SetRoot r 0))
  answer_of (Pause b) = answer Ok (MakePause b)
