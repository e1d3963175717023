use Rattle.std.proofs.Common.{◌≡◌, List, ℕ, Bor, ◌++◌, map, append-nil, sym, ◌∙◌, ap, subst}
use Rattle.std.specs.Prelude.{OnOk, string_bytes}
use Rattle.g1_text.proofs.Boxing.{keys_any, box_of_name, box_of_value, box_of_place, box_of_other}
use Rattle.g1_text.proofs.boxes.push_box.Goals as goal

pub returns-then-contains : goal.returns-then-contains
returns-then-contains c =
    let names = map (λ (t : Bor (List ℕ)). t.now) c.args.names.now.keys in
    let among = sym (keys_any c.args.word.now c.args.names.now.keys) ∙ sym c.if-contains.ensures in
    sym (append-nil (string_bytes c.args.lines.now)) ∙ ap (λ l. string_bytes c.args.lines.now ++ l) (sym (box_of_name names c.args.word.now among))

pub returns-then-is_value : goal.returns-then-is_value
returns-then-is_value c =
    let names = map (λ (t : Bor (List ℕ)). t.now) c.args.names.now.keys in
    let among = sym (keys_any c.args.word.now c.args.names.now.keys) ∙ sym c.if-contains.ensures in
    subst (λ l. OnOk c.push_value.result (string_bytes c.push_value.new.lines ≡ string_bytes c.args.lines.now ++ l))
    (sym (box_of_value names c.args.word.now among (sym c.if-is_value.ensures))) c.push_value.ensures

pub returns-in-Some : goal.returns-in-Some
returns-in-Some c =
    let names = map (λ (t : Bor (List ℕ)). t.now) c.args.names.now.keys in
    let among = sym (keys_any c.args.word.now c.args.names.now.keys) ∙ sym c.if-contains.ensures in
    let there = sym (keys_any c.in-Some.name.now c.args.names.now.keys) ∙ sym c.if-contains-2.ensures in
    subst (λ l. OnOk c.push_place.result (string_bytes c.push_place.new.lines ≡ string_bytes c.args.lines.now ++ l))
    (sym (box_of_place names c.args.word.now c.in-Some.name.now c.in-Some.distance.now among
    (sym c.if-is_value.ensures) c.in-Some.ensures there)) c.push_place.ensures

pub returns-in_default : goal.returns-in_default
returns-in_default c =
    let names = map (λ (t : Bor (List ℕ)). t.now) c.args.names.now.keys in
    let among = sym (keys_any c.args.word.now c.args.names.now.keys) ∙ sym c.if-contains.ensures in
    let there = sym (keys_any c.in-Some.name.now c.args.names.now.keys) ∙ sym c.if-contains-2.ensures in
    sym (append-nil (string_bytes c.args.lines.now))
    ∙ ap (λ l. string_bytes c.args.lines.now ++ l)
    (sym (box_of_other names c.args.word.now c.in-Some.name.now c.in-Some.distance.now among (sym c.if-is_value.ensures) c.in-Some.ensures there))
