use Rattle.std.proofs.Common.{rules, ◌≡◌, ◌++◌, ◌∙◌, sym, ap, subst, string_bytes}
use Rattle.std.specs.Prelude.{OnOk, Some, codes}
use Rattle.std.proofs.lemmas.Bool.{false≢true}
use Rattle.g1heap_cli.specs.Hexadecimal.{spaced}
use Rattle.g1heap_cli.proofs.Hexes.{object_pushed, line_stays}
use Rattle.g1heap_cli.proofs.hexadecimal.push_line.Goals as goal
use Rattle.g1heap_cli.proofs.hexadecimal.push_line.Goals.{in_default-via-in-Some+else-eq, in_default-via-in_default}

some_one : {X : Type 0} (x y : X) → Some x ≡ Some y → x ≡ y
some_one x y e = cc

pub returns-in-Some : goal.returns-in-Some
returns-in-Some c =
    object_pushed (λ others. OnOk c.push_words.result (string_bytes c.push_words.new.text ≡ string_bytes c.args.text.now ++ spaced others)) c.args.line.now (c.in-Some.word, c.in-Some.field-0-1)
    c.slots_in.result c.saturating_add.result c.in-Some.ensures.cases (search rules) c.saturating_add.ensures c.slots_in.ensures c.push_words.ensures

pub returns-in_default : goal.returns-in_default
returns-in_default c = λ said others h e.
    let stays = line_stays c.args.line.now c.split_once.result said others c.split_once.ensures.cases
    (elim c.in_default.branch [
      | in_default-via-in-Some+else-eq w ↦ λ x is first.
          let here : w.in-Some.word.now ≡ codes "object" = ap (λ p. p.0.now) (some_one (w.in-Some.word, w.in-Some.field-0-1) x (sym w.in-Some.is ∙ is)) ∙ first in
          false≢true (sym w.if-eq.false ∙ (rw here at w.eq.ensures))
      | in_default-via-in_default w ↦ λ x is first. w.in_default.not-Some x is
    ]) h e in
    subst (λ l. OnOk c.push_str.result (string_bytes c.push_str.new.self ≡ string_bytes c.args.text.now ++ l)) stays (search rules)
