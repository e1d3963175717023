use Rattle.std.proofs.Common.{◌≡◌, ◌++◌, ℕ, subst, string_bytes}
use Rattle.std.specs.Prelude.{OnOk, Result, Ok}
use Rattle.std.proofs.lemmas.Fmt.{parse-decimal}
use Rattle.g1heap_cli.specs.Hexadecimal.{hexadecimal}
use Rattle.g1heap_cli.proofs.hexadecimal.push_word.Goals as goal
use Rattle.g1heap_cli.proofs.hexadecimal.push_word.Goals.{in_default-via-in-Ok+else-is_data, in_default-via-in_default}

ok_same : {E : Type 0} (a b : ℕ) (r : Result ℕ E) → r ≡ Ok a → r ≡ Ok b → a ≡ b
ok_same a b r p q = cc

pub returns-in-Ok-clause-hexadecimal : goal.returns-in-Ok-clause-hexadecimal
returns-in-Ok-clause-hexadecimal c = λ x small e t.
    let same : c.in-Ok.number ≡ x = ok_same c.in-Ok.number x c.parse.result c.in-Ok.is (parse-decimal 64 x c.args.word.now c.parse.result small small e c.parse.ensures.value.0) in
    subst (λ n. OnOk c.write.result (string_bytes c.write.new.self ≡ string_bytes c.args.text.now ++ hexadecimal n)) same (rw c.in_radix.ensures at c.write.ensures.bytes)

pub returns-in_default-clause-hexadecimal : goal.returns-in_default-clause-hexadecimal
returns-in_default-clause-hexadecimal c = λ x small e t.
    let read = parse-decimal 64 x c.args.word.now c.parse.result small small e c.parse.ensures.value.0 in
    elim c.in_default.branch [
      | in_default-via-in-Ok+else-is_data w ↦ let f = w.if-is_data.false in cc
      | in_default-via-in_default w ↦ absurd (w.in_default.not-Ok x read)
    ]
