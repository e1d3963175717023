use Rattle.std.proofs.Common.{◌≡◌, ◌∷◌, refl, sym, ◌∙◌, ap, length, arith}
use Rattle.std.specs.Prelude.{codes}
use Rattle.std.proofs.lemmas.List.{length-map}
use Rattle.std.proofs.lemmas.Slice.Eq.{bytes_eq-Decides}
use Rattle.g1_text.specs.Marking.{texts}
use Rattle.g1_text.specs.Reading.{words_in}
use Rattle.g1_text.proofs.WeakLines.{short_line, plain_line, root_line, object_line}
use Rattle.g1_text.proofs.weak.Known.add.Goals as goal

pub returns-in_default : goal.returns-in_default
returns-in_default c = λ lines h.
    let none : words_in c.args.line.now ≡ texts c.as_slice.result.now = sym c.in_ok-cut_words.ensures ∙ ap texts (sym c.as_slice.ensures.value) in
    let few : length (words_in c.args.line.now) ≡ length c.as_slice.result.now = ap length none ∙ length-map c.as_slice.result.now (λ t. t.now) in
    short_line lines (words_in c.args.line.now) c.args.self.now (omega (arith, few, c.in_default.ensures.cases)) h

pub returns-in_default-split_first : goal.returns-in_default-split_first
returns-in_default-split_first c = λ lines h.
    let is : words_in c.args.line.now ≡ c.in-Some.kind.now.now ∷ texts c.in-Some.behind.now = sym c.in_ok-cut_words.ensures ∙ ap texts (sym c.as_slice.ensures.value ∙ c.in-Some.ensures.cases.0) in
    let few = ap length is in
    let none : length (texts c.in-Some.behind.now) ≡ length c.in-Some.behind.now = length-map c.in-Some.behind.now (λ t. t.now) in
    short_line lines (words_in c.args.line.now) c.args.self.now (omega (arith, few, none, c.in_default-split_first.ensures.cases)) h

pub returns-then-eq : goal.returns-then-eq
returns-then-eq c = λ lines h.
    let kind = c.in-Some.kind.now.now in
    let behind = texts c.in-Some-split_first.field-0-1.now in
    let is : words_in c.args.line.now ≡ kind ∷ c.in-Some-split_first.name.now.now ∷ behind = sym c.in_ok-cut_words.ensures ∙ ap texts (sym c.as_slice.ensures.value ∙ c.in-Some.ensures.cases.0)
    ∙ ap (λ ws. kind ∷ texts ws) c.in-Some-split_first.ensures.cases.0 in
    root_line lines kind c.in-Some-split_first.name.now behind (words_in c.args.line.now) c.args.self.now _ is (sym c.eq.ensures ∙ c.if-eq.true) c.in_ok-push.ensures.items refl h

pub returns-then-eq-2 : goal.returns-then-eq-2
returns-then-eq-2 c = λ lines h.
    let kind = c.in-Some.kind.now.now in
    let name = c.in-Some-split_first.name.now.now in
    let behind = texts c.in-Some-split_first.field-0-1.now in
    let is : words_in c.args.line.now ≡ kind ∷ name ∷ behind = sym c.in_ok-cut_words.ensures ∙ ap texts (sym c.as_slice.ensures.value ∙ c.in-Some.ensures.cases.0)
    ∙ ap (λ ws. kind ∷ texts ws) c.in-Some-split_first.ensures.cases.0 in
    let object = sym c.eq-2.ensures ∙ c.if-eq-2.true in
    object_line lines kind name behind (words_in c.args.line.now) c.args.self.now _ is object (ap (λ v. v.items) c.in_ok-keep.ensures.roots)
    (c.in_ok-keep.ensures.objects lines behind (is ∙ ap (λ k. k ∷ name ∷ behind) ((bytes_eq-Decides kind (codes "object")).0 object)) h.objects) h

pub returns : goal.returns
returns c = λ lines h.
    let kind = c.in-Some.kind.now.now in
    let name = c.in-Some-split_first.name.now.now in
    let behind = texts c.in-Some-split_first.field-0-1.now in
    let is : words_in c.args.line.now ≡ kind ∷ name ∷ behind = sym c.in_ok-cut_words.ensures ∙ ap texts (sym c.as_slice.ensures.value ∙ c.in-Some.ensures.cases.0)
    ∙ ap (λ ws. kind ∷ texts ws) c.in-Some-split_first.ensures.cases.0 in
    plain_line lines kind name behind (words_in c.args.line.now) c.args.self.now is (sym c.eq.ensures ∙ c.if-eq.false) (sym c.eq-2.ensures ∙ c.if-eq-2.false) h
