use Rattle.std.proofs.Common.{rules, ◌∙◌, ◌++◌, ◌==◌, refl, sym, ap, subst, arith, string_bytes}
use Rattle.g1heap_cli.specs.Hexadecimal.{spaced}
use Rattle.g1heap_cli.proofs.Hexes.{AreLeft, words_start, words_step, words_end}
use Rattle.g1heap_cli.proofs.hexadecimal.push_words.Goals as goal

pub words-init : goal.words-init
words-init c = (search rules, λ first said others h e. words_start c.args.before_data first said others c.args.line.now (string_bytes c.args.text.now) h e)

pub words-preserved : goal.words-preserved
words-preserved c = (
  search rules,
  λ first said others h e.
      let l = c.words.left in
      let is = c.in_ok-push_word.ensures in
      subst (λ n. AreLeft n c.in-Some.behind.now (string_bytes c.push.new.self) (string_bytes c.args.text.now ++ spaced others)) (sym c.saturating_sub-left.ensures)
      (words_step l c.words.rest.now (string_bytes c.words.text) (string_bytes c.push_word.new.text) (string_bytes c.push.new.self) (string_bytes c.args.text.now ++ spaced others) (l == 0)
      (c.in-Some.word, c.in-Some.behind) (c.words.invariant.1 first said others h e) c.in-Some.ensures.cases refl is.word is.hexadecimal (c.in_ok-push.ensures.bytes ∙ ap (λ l. string_bytes c.push_word.new.text ++ l) (c.in_ok-push.ensures.ascii (omega arith)))),
)

pub returns : goal.returns
returns c = λ first said others h e.
    let l = c.words.left in
    words_end l c.words.rest.now (string_bytes c.words.text) (string_bytes c.push_word-2.new.text) (string_bytes c.args.text.now ++ spaced others) (l == 0)
    c.push_word-2.result (c.words.invariant.1 first said others h e) c.in_default.ensures.cases refl c.push_word-2.ensures.word c.push_word-2.ensures.hexadecimal
