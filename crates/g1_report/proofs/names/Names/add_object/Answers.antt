use Rattle.std.proofs.Common.{◌<◌, ◌≤◌, rules, inl, inr, ℕ, List, [], ◌∷◌, length, get_or, codes, refl, sym, subst, arith}
use Rattle.std.specs.Borrow.{Bor}
use Rattle.std.specs.Prelude.{IfOk, MatchOption}
use Rattle.std.proofs.lemmas.List.{length-map}
use Rattle.g1_report.specs.Program.{program_of, texts}
use Rattle.g1_report.specs.NamesText.{IsTaken, SaysNothing}
use Rattle.g1_report.proofs.Sayings.{two_words, three_words}
use Rattle.g1_report.proofs.SaysNothing.{no_object, kind_count}
use Rattle.g1_report.proofs.names.Names.add_object.Goals as goal
use Rattle.g1_report.proofs.names.Names.add_object.Goals.{in_default-via-then-words-lt2, in_default-via-else-words-lt2+else-words-lt3+else-words-lt4}

pub returns-in-len2 : goal.returns-in-len2
returns-in-len2 c =
    let none : Bor (List ℕ) = record { ref_ptr = (0, 0); now = [] } in
    let words = c.args.words.now in
    let p = program_of c.args.self.now in
    subst (λ ws. IfOk c.add_kind.result (λ r. MatchOption r (IsTaken (codes "object" ∷ ws) p (program_of c.add_kind.new.self)) (λ _. SaysNothing p.labels_before (codes "object" ∷ ws))))
    (sym (two_words words none none c.in-len2.len_at_least c.in-len2.len_below)) (c.add_kind.ensures ((get_or words 1 none).now ∷ []) (inl (refl, refl)))

pub returns-in-len3 : goal.returns-in-len3
returns-in-len3 c =
    let none : Bor (List ℕ) = record { ref_ptr = (0, 0); now = [] } in
    let words = c.args.words.now in
    let p = program_of c.args.self.now in
    subst (λ ws. IfOk c.add_kind-in-len3.result (λ r. MatchOption r (IsTaken (codes "object" ∷ ws) p (program_of c.add_kind-in-len3.new.self)) (λ _. SaysNothing p.labels_before (codes "object" ∷ ws))))
    (sym (three_words words none none none c.in-len3.len_at_least c.in-len3.len_below)) (c.add_kind-in-len3.ensures ((get_or words 1 none).now ∷ (get_or words 2 none).now ∷ []) (inr refl))

pub returns-in_default : goal.returns-in_default
returns-in_default c =
    let now : Bor (List ℕ) → List ℕ = λ b. b.now in
    let words = c.args.words.now in
    let many = length-map words now in
    elim c.in_default.branch [
      | in_default-via-then-words-lt2 w ↦
          let short : length words < 2 = search rules in
          no_object _ (texts words) (λ word rest kind e k which. elim (kind_count (texts words) word rest kind e k) [
            | inl two ↦ omega (arith, two, many, short)
            | inr three ↦ omega (arith, three, many, short)
          ])
      | in_default-via-else-words-lt2+else-words-lt3+else-words-lt4 w ↦
          let long : 4 ≤ length words = search rules in
          no_object _ (texts words) (λ word rest kind e k which. elim (kind_count (texts words) word rest kind e k) [
            | inl two ↦ omega (arith, two, many, long)
            | inr three ↦ omega (arith, three, many, long)
          ])
    ]
