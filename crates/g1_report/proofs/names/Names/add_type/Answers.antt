use Rattle.std.proofs.Common.{◌≤◌, ◌≢◌, ◌<◌, rules, ℕ, ◌-◌, List, [], ◌∷◌, length, get_or, take, drop, map, codes, sym, ap, ◌∙◌}
use Rattle.std.specs.Borrow.{Bor}
use Rattle.g1_report.specs.Program.{program_of, texts}
use Rattle.std.specs.List.{list_any}
use Rattle.g1_report.specs.Program.{is_data}
use Rattle.g1_report.proofs.Sayings.{type_taken, pushed, two_and_rest, any_data}
use Rattle.g1_report.proofs.SaysNothing.{no_type}
use Rattle.std.proofs.Common.{sym, length, arith}
use Rattle.std.proofs.lemmas.Bool.{false≢true}
use Rattle.std.proofs.lemmas.List.{length-map}
use Rattle.g1_report.proofs.names.Names.add_type.Goals as goal
use Rattle.g1_report.proofs.names.Names.add_type.Goals.{in_default-via-then-words-lt2, in_default-via-in-slots+else-contains, in_default-via-else-words-lt2+in_default}

pub returns-in_default : goal.returns-in_default
returns-in_default c =
    let none : Bor (List ℕ) = record { ref_ptr = (0, 0); now = [] } in
    let now : Bor (List ℕ) → List ℕ = λ b. b.now in
    let words = c.args.words.now in
    let many = length-map words now in
    elim c.in_default.branch [
      | in_default-via-then-words-lt2 w ↦
          let short : length words < 2 = search rules in
          no_type _ (texts words) (λ name rest e some. let n = ap length e in omega (arith, n, many, short))
      | in_default-via-in-slots+else-contains w ↦ no_type _ (texts words) (λ name rest e some.
          let same = ap (drop 2) (sym e ∙ two_and_rest words none none w.in-slots.len_at_least) in
          false≢true (sym w.if-contains.false ∙ w.contains.ensures.value ∙ sym (any_data (take (length words - 2) (drop 2 words))) ∙ ap (list_any is_data) (sym same) ∙ some))
      | in_default-via-else-words-lt2+in_default w ↦
          let long : 2 ≤ length words = search rules in
          let other : (get_or words 1 none).now ≢ codes "slots" = search rules in
          no_type _ (texts words) (λ name rest e some. other (ap (λ l. get_or l 1 []) (sym (two_and_rest words none none long) ∙ e)))
    ]

pub returns-in_ok-push-in-slots : goal.returns-in_ok-push-in-slots
returns-in_ok-push-in-slots c =
    let none : Bor (List ℕ) = record { ref_ptr = (0, 0); now = [] } in
    let words = c.args.words.now in
    let name = get_or words 0 none in
    let rest = take (length words - 2) (drop 2 words) in
    let kept = c.in_ok-from_slice-in-slots.field-0 in
    type_taken (program_of c.args.self.now) (codes "type" ∷ texts words) (map (λ line. (line.0.now, texts line.1.items)) c.push.new.self.items) name.now (texts kept.items)
    (pushed (λ line. (line.0.now, texts line.1.items)) c.push.new.self.items c.args.self.now.types.items (name, kept) c.in_ok-push-in-slots.ensures.items)
    (ap (λ l. codes "type" ∷ l) (two_and_rest words none none c.in-slots.len_at_least) ∙ ap (λ w. codes "type" ∷ name.now ∷ w ∷ texts rest) c.in-slots.is-slots
    ∙ ap (λ r. codes "type" ∷ name.now ∷ codes "slots" ∷ texts r) (sym c.in_ok-from_slice-in-slots.ensures.items))
    (ap (λ r. list_any is_data (texts r)) c.in_ok-from_slice-in-slots.ensures.items ∙ any_data rest ∙ sym c.contains.ensures.value ∙ c.if-contains.true)
