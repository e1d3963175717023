-- Why `same` is refused, from why its parts are.
use Rattle.std.proofs.Common.{◌≡◌, inl, inr, ℕ, Bool, true, List, Option, Some, None, Result, Ok, Err, refl, ap, subst}
use Rattle.std.proofs.ResultArms.{subst_both}
use Rattle.std.specs.Prelude.{IfOk, IfErr}
use Rattle.g1_words.specs.declared.fault.Fault.{Fault}
use Rattle.g1_words.specs.declared.fault.Fault.TheVariants as fault
use Rattle.g1_command.specs.declared.refusal.Refusal.{Refusal}
use Rattle.g1_command.specs.declared.refusal.Refusal.TheVariants as refusal
use Rattle.g1_report.specs.declared.sides.Side.{Side}
use Rattle.g1_report.specs.declared.sides.Strays.{Strays}
use Rattle.g1_report.specs.Finding.{IsIdle, IsVerdict}
use Rattle.g1_report.specs.Program.{ProgramNames}
use Rattle.g1_report.specs.Shared.{SharesTexts}
use Rattle.g1_report.specs.Taken.{StopsLines}
use Rattle.g1_text.specs.declared.expected.Wrong.{Wrong}
use Rattle.g1heap_request.specs.declared.options.Same.{Same}
use Rattle.g1heap_cli.specs.Streams.{LeavesBehind}
use Rattle.g1heap_cli.specs.SameSuits.{AsksSetOfLines, AsksCardsOfLines, AsksMovesOfOne, Suits}
use Rattle.g1heap_cli.specs.SameReplies.{AreProgramNames, IsSideOf}
use Rattle.g1heap_cli.specs.SamePassed.{TakesSaid}
use Rattle.g1heap_cli.specs.SameReasons.{RefusesWrong, RefusesStrays, RefusesTexts, RefusesAsked, HasProgramNames, RefusesReport, LacksCoverBeside, RefusesSides, RefusesAfter, RefusesSame, OrOutput}

-- ---- parts
-- one reason for another, or the output
pub or_so : (P Q : Refusal → Type 0) (r : Refusal) → (P r → Q r) → OrOutput P r → OrOutput Q r
or_so P Q r f (inl h) = inl (f h)
or_so P Q r f (inr out) = inr out

pub err_or_so : (P Q : Refusal → Type 0) → ((r : Refusal) → P r → Q r) → (q : Result ℕ Refusal) → IfErr q (OrOutput P) → IfErr q (OrOutput Q)
err_or_so P Q f (Ok s) h = tt
err_or_so P Q f (Err r) h = or_so P Q r (f r) h

-- what stopped a report, or lines that are taken
pub stopped : (f : Fault) → StopsLines f → OrOutput (λ r. r ≡ refusal.Fault fault.Memory) (refusal.Fault f)
stopped f (inl is) = inl (ap refusal.Fault is)
stopped f (inr is) = inr (ap refusal.Fault is)

-- a report that was stopped
pub unreported : (same : Same) (b a : Side) (f : Fault) → StopsLines f → OrOutput (RefusesReport same b a) (refusal.Fault f)
unreported same b a f (inl is) = inl (inr (inr (ap refusal.Fault is)))
unreported same b a f (inr is) = inr (ap refusal.Fault is)

-- stale words that no path leads to
pub strayed : (same : Same) (b a : Side) (w : Wrong) (r : Refusal) → IsIdle b.image.heap a.image.heap a.stale w → RefusesWrong same.after.bytes.items w r → RefusesReport same b a r
strayed same b a w r idle told = inr (inl (w, idle, at a.stale refl idle))
  where
    at : (o : Option Strays) → a.stale ≡ o → IsIdle b.image.heap a.image.heap o w → RefusesStrays same.after.bytes.items a r
    at None is idle = absurd idle
    at (Some s) is idle = (s, is, subst (λ v. RefusesWrong same.after.bytes.items v r) idle.0 told)

-- texts that can't be told apart: nothing else is wrong with what is asked
pub suited : (same : Same) (b a : Side) (q : Result (Unit {0}) Refusal) → (AsksSetOfLines same b → ⊥) → (AsksCardsOfLines same a → ⊥) → (AsksMovesOfOne same b a → ⊥)
    → IfOk q (λ u. SharesTexts b a → ⊥) → IfOk q (λ u. Suits same b a)
suited same b a (Ok u) set cards moves texts = record { set = set; cards = cards; moves = moves; texts = texts }
suited same b a (Err r) set cards moves texts = tt

pub unsuited : (same : Same) (b a : Side) (q : Result (Unit {0}) Refusal) → (AsksSetOfLines same b → ⊥) → (AsksCardsOfLines same a → ⊥) → (AsksMovesOfOne same b a → ⊥)
    → IfErr q (RefusesTexts same.after.bytes.items b a) → IfErr q (RefusesAsked same b a)
unsuited same b a (Ok u) set cards moves texts = tt
unsuited same b a (Err r) set cards moves texts = inr (set, inr (cards, inr (moves, texts)))

-- ---- two sides
module _ (same : Same) (b a : Side) (left rest : Option (List ℕ)) where
  -- there is no verdict
  pub no_verdict : (names names_after : Option ProgramNames) → Suits same b a → AreProgramNames same left b a names names_after → (q : Result ℕ Refusal) → IfErr q (OrOutput (RefusesReport same b a))
      → IfErr q (OrOutput (RefusesSides same b a left))
  no_verdict names names_after suits are q h =
      err_or_so (RefusesReport same b a) (RefusesSides same b a left) (λ r report. inr (suits, inr ((names, names_after, are), inl report))) q h

  module _ (side : IsSideOf same.limits same.after.bytes.items left a) (unread : LeavesBehind same.after.bytes.items left rest) where
    -- the two sides are refused
    pub behind_after : (r : Refusal) → OrOutput (RefusesSides same b a rest) r → OrOutput (RefusesAfter same b left) r
    behind_after r h = or_so (RefusesSides same b a rest) (RefusesAfter same b left) r (λ sides. inr (a, side, rest, unread, sides)) h

    -- cover is
    pub no_cover : (old new : Option (List ℕ)) (status : ℕ) → TakesSaid same rest b a status old new → (q : Result ℕ Refusal)
        → IfErr q (OrOutput (λ r. (status ≡ 0) × (same.covered ≡ true) × LacksCoverBeside same.after.bytes.items same.young.items a.image r)) → IfErr q (OrOutput (RefusesAfter same b left))
    no_cover old new status said (Ok s) h = tt
    no_cover old new status said (Err r) (inr out) = inr out
    no_cover old new status said (Err r) (inl (none, asked, lacks)) =
        let is = said.said in
        let x = said.asked in
        let suits : Suits same b a = subst_both (Suits same) said.is_before said.is_after is.suits in
        let are : HasProgramNames same rest b a = subst_both (HasProgramNames same rest) said.is_before said.is_after (_, _, is.asks.names) in
        let asked_of : IsVerdict x.before.now.image.heap x.after.now.image.heap x.after.now.stale same.set.items same.fill 0 =
        subst (λ n. IsVerdict x.before.now.image.heap x.after.now.image.heap x.after.now.stale same.set.items same.fill n) none
        (subst_both (λ (set : List ℕ) (fill : Bool). IsVerdict x.before.now.image.heap x.after.now.image.heap x.after.now.stale set fill status) is.asks.set is.asks.fill is.verdict) in
        let verdict : IsVerdict b.image.heap a.image.heap a.stale same.set.items same.fill 0 =
        subst_both (λ (s t : Side). IsVerdict s.image.heap t.image.heap t.stale same.set.items same.fill 0) said.is_before said.is_after asked_of in
        inl (inr (a, side, rest, unread, inr (suits, inr (are, inr (asked, verdict, lacks)))))

-- ---- both files
module _ (same : Same) (b : Side) (left rest : Option (List ℕ)) (side : IsSideOf same.limits same.before.bytes.items left b) (unread : LeavesBehind same.before.bytes.items left rest) where
  -- the file before has stale words
  pub stale_before : (s : Strays) (r : Refusal) → b.stale ≡ Some s → RefusesWrong same.before.bytes.items s.wrong r → OrOutput (RefusesSame same left) r
  stale_before s r is told = inl (inr (b, side, rest, unread, inl (s, is, told)))

  -- what is behind it is refused
  pub behind_before : b.stale ≡ None → (q : Result ℕ Refusal) → IfErr q (OrOutput (RefusesAfter same b rest)) → IfErr q (OrOutput (RefusesSame same left))
  behind_before none q h = err_or_so (RefusesAfter same b rest) (RefusesSame same left) (λ r after. inr (b, side, rest, unread, inr (none, after))) q h
