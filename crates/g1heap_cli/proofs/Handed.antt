-- What is said of two sides, from what was handed on of them.
use Rattle.std.proofs.Common.{inl, ℕ, List, [], ◌++◌, Option, Some, None, refl, sym, append-nil}
use Rattle.std.proofs.lemmas.List.Elements.{All-nil}
use Rattle.std.specs.Io.KnownBytes.{Appends}
use Rattle.g1_report.specs.declared.reporting.Asked.{Asked}
use Rattle.g1_report.specs.Wording.{Compared}
use Rattle.g1_report.specs.Listed.{lists, IsFoundLine, HandedOn}
use Rattle.g1_report.specs.Answer.{compared_of, HandsOn}

-- what was taken, without what was there before
taken_on : (s : Compared) (most : Option ℕ) (old new : Option (List ℕ)) (text : List ℕ) → HandedOn s most old new text
    → (all : List ℕ) × HandedOn s most (Some []) (Some all) text × Appends old new all
taken_on s None None new text h = (text, refl, tt)
taken_on s None (Some xs) None text h = absurd h
taken_on s None (Some xs) (Some ys) text h = (text, refl, h)
taken_on s (Some most) None new text h = (text, ([], ([], All-nil (IsFoundLine s), refl), [], inl refl, sym (append-nil text)), tt)
taken_on s (Some most) (Some xs) None text h = absurd h
taken_on s (Some most) (Some xs) (Some ys) text h = (text ++ (h.0 ++ h.2), (h.0, h.1, h.2, h.3, refl), h.4)

pub handed : (a : Asked) (status : ℕ) (old new : Option (List ℕ)) → HandsOn a status old new → (text : List ℕ) × HandsOn a status (Some []) (Some text) × Appends old new text
handed a status old new h =
    let all = taken_on (compared_of a) (lists h.finding a.all) old new h.text h.taken in
    (all.0, record { finding = h.finding; found = h.found; text = h.text; answer = h.answer; taken = all.1 }, all.2)
