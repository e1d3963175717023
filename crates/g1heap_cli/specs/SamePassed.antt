-- What functions inside hand on of two files that `same` compares.
use Rattle.std.specs.Prelude.{◌≡◌, ℕ, List, ◌++◌, Option}
use Rattle.std.specs.Io.KnownBytes.{Appends}
use Rattle.g1_image.specs.Image.{Image}
use Rattle.g1_report.specs.declared.sides.Side.{Side}
use Rattle.g1_report.specs.declared.reporting.Asked.{Asked}
use Rattle.g1heap_request.specs.declared.options.Same.{Same}
use Rattle.g1heap_cli.specs.Streams.{LeavesBehind}
use Rattle.g1heap_cli.specs.SameReplies.{IsSideOf, IsSaid, AddsCover}

-- a text was taken that is said of these sides, with what is left for the files of names
pub record TakesSaid (same : Same) (left : Option (List ℕ)) (before after : Side) (status : ℕ) (old new : Option (List ℕ)) : Type 0 where
  pub asked : Asked
  pub text : List ℕ
  pub is_before : asked.before.now ≡ before
  pub is_after : asked.after.now ≡ after
  pub said : IsSaid same left asked status text
  pub taken : Appends old new text

-- the line of cover was taken, or nothing
pub record TakesCover (same : Same) (i : Image) (asked status : ℕ) (old new : Option (List ℕ)) : Type 0 where
  pub is : status ≡ asked
  pub behind : List ℕ
  pub cover : AddsCover same.covered asked same.young.items i behind
  pub taken : Appends old new behind

-- a text was taken that is said of this side and of the file after, with its cover
pub record TakesReply (same : Same) (left : Option (List ℕ)) (before : Side) (status : ℕ) (old new : Option (List ℕ)) : Type 0 where
  pub asked : Asked
  pub front : List ℕ
  pub behind : List ℕ
  pub is_before : asked.before.now ≡ before
  pub after : IsSideOf same.limits same.after.bytes.items left asked.after.now
  pub left_names : Option (List ℕ)
  pub unread : LeavesBehind same.after.bytes.items left left_names
  pub said : IsSaid same left_names asked status front
  pub cover : AddsCover same.covered status same.young.items asked.after.now.image behind
  pub taken : Appends old new (front ++ behind)
