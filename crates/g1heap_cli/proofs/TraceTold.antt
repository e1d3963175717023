-- What explains the commands of a trace, one command after the other.
use Rattle.std.proofs.Common.{◌≡◌, inl, inr, ℕ, ◌+◌, ◌^◌, ◌<◌, Bool, true, List, [], ◌∷◌, ◌++◌, Some, length, get_or, drop, refl, sym, ◌∙◌, ap, subst, arith, append_assoc, append-nil}
use Rattle.std.specs.Prelude.{decimal}
use Rattle.std.proofs.lemmas.Fmt.{decimal_injective}
use Rattle.g1_image.specs.Image.{Image}
use Rattle.g1_choose.specs.declared.parameters.Cost.{Cost}
use Rattle.g1_pause.specs.declared.settings.Choice.TheVariants.{Budget}
use Rattle.g1_explain.specs.declared.form.Form.TheVariants as form
use Rattle.g1_explain.specs.Explained.{IsExplained}
use Rattle.g1_trace.specs.declared.command.Command.{Command}
use Rattle.g1_trace.specs.declared.command.Command.TheVariants.{New, Get, Put, Set, Say, Same, Copy, Drop, Pause}
use Rattle.g1_trace.specs.declared.command.Reply.{Reply as ReplyOf}
use Rattle.g1_trace.specs.declared.session.Session.TheVariants.{Open}
use Rattle.g1_trace.specs.Mutator.{IsStep}
use Rattle.g1_trace.specs.Session.{AsksPause}
use Rattle.g1_trace.specs.Telling.{reply_line}
use Rattle.g1_trace.specs.TraceText.{AllFit, numbers_of, command_line}
use Rattle.g1heap_cli.specs.Traced.{IsExplanationOf, LeadsTold, number_text}
use Rattle.g1heap_cli.specs.Tracing.{ExplainsLine}

-- the line of a pause is that of no other command
pause_only : (c : Command) (b : ℕ) → AllFit (numbers_of c) → b < 2 ^ 64 → command_line c ≡ command_line (Pause b) → c ≡ Pause b
pause_only (New r refs words) b fit small e = let f : 110 ≡ 112 = ap (λ l. get_or l 0 0) e in absurd (omega (arith, f))
pause_only (Get r q m) b fit small e = let f : 103 ≡ 112 = ap (λ l. get_or l 0 0) e in absurd (omega (arith, f))
pause_only (Put r m q) b fit small e = let f : 117 ≡ 97 = ap (λ l. get_or l 1 0) e in absurd (omega (arith, f))
pause_only (Set r m x) b fit small e = let f : 115 ≡ 112 = ap (λ l. get_or l 0 0) e in absurd (omega (arith, f))
pause_only (Say r m) b fit small e = let f : 115 ≡ 112 = ap (λ l. get_or l 0 0) e in absurd (omega (arith, f))
pause_only (Same r q) b fit small e = let f : 115 ≡ 112 = ap (λ l. get_or l 0 0) e in absurd (omega (arith, f))
pause_only (Copy r q) b fit small e = let f : 99 ≡ 112 = ap (λ l. get_or l 0 0) e in absurd (omega (arith, f))
pause_only (Drop r) b fit small e = let f : 100 ≡ 112 = ap (λ l. get_or l 0 0) e in absurd (omega (arith, f))
pause_only (Pause d) b fit small e =
    ap Pause (decimal_injective d b (fit 0 0 (omega arith)) small (sym (append-nil (decimal d)) ∙ ap (drop 6) e ∙ append-nil (decimal b)))

module _ (cost : Cost) where
  no_pause : (i : Image) (n : ℕ) (c : Command) (line lines : List ℕ) → AllFit (numbers_of c) → line ≡ command_line c → ((b : ℕ) → AsksPause (Open i n) line b → ⊥) → lines ≡ [] → IsExplanationOf cost i c lines
  no_pause i n (New r refs words) line lines fit is never none = none
  no_pause i n (Get r q m) line lines fit is never none = none
  no_pause i n (Put r m q) line lines fit is never none = none
  no_pause i n (Set r m x) line lines fit is never none = none
  no_pause i n (Say r m) line lines fit is never none = none
  no_pause i n (Same r q) line lines fit is never none = none
  no_pause i n (Copy r q) line lines fit is never none = none
  no_pause i n (Drop r) line lines fit is never none = none
  no_pause i n (Pause d) line lines fit is never none = absurd (never d (fit 0 0 (omega arith), is))

  -- what explains the line of a command explains the command
  pub explains_command : (i : Image) (n : ℕ) (c : Command) (line lines : List ℕ) → AllFit (numbers_of c) → line ≡ command_line c → ExplainsLine true cost (Open i n) line lines → IsExplanationOf cost i c lines
  explains_command i n c line lines fit is (inl (never, none)) = no_pause i n c line lines fit is never none
  explains_command i n c line lines fit is (inr (b, k, refused, asks, there, explained)) =
      let same : c ≡ Pause b = pause_only c b fit asks.0 (sym is ∙ asks.1) in
      let here : k ≡ i = some_one k i (sym there) in
      subst (λ d. IsExplanationOf cost i d lines) (sym same) (refused, subst (λ x. IsExplained cost (Budget b) form.Steps x lines refused) here explained)
    where
      some_one : (x y : Image) → Some x ≡ Some y → x ≡ y
      some_one x y e = cc

  -- one command more, with what explains it
  pub explained_more : (numbered : Bool) (n : ℕ) (i k j : Image) (cs : List Command) (rs : List ReplyOf) (c : Command) (r : ReplyOf) (text front : List ℕ) → LeadsTold cost numbered n i cs rs k text
      → IsStep cost k c r j → IsExplanationOf cost k c front
      → LeadsTold cost numbered n i (cs ++ c ∷ []) (rs ++ r ∷ []) j (text ++ (front ++ (number_text numbered (n + length rs) ++ reply_line r)))
  explained_more numbered n i k j [] [] c r text front h st explains =
      let first : n + length {A = ReplyOf} [] ≡ n = omega arith in (
        j,
        front,
        [],
        subst (λ x. IsStep cost x c r j) (sym h.0) st,
        subst (λ x. IsExplanationOf cost x c front) (sym h.0) explains,
        (refl, refl),
        ap (λ l. l ++ (front ++ (number_text numbered (n + length {A = ReplyOf} []) ++ reply_line r))) h.1 ∙ ap (λ m. front ++ (number_text numbered m ++ reply_line r)) first
            ∙ sym (append-nil (front ++ (number_text numbered n ++ reply_line r))),
      )
  explained_more numbered n i k j [] (q ∷ rs) c r text front h st explains = absurd h
  explained_more numbered n i k j (d ∷ cs) [] c r text front h st explains = absurd h
  explained_more numbered n i k j (d ∷ cs) (q ∷ rs) c r text front (m, lines, rest, first, why, led, told) st explains =
      let last : List ℕ = front ++ (number_text numbered (n + length (q ∷ rs)) ++ reply_line r) in
      let here : List ℕ = lines ++ (number_text numbered n ++ reply_line q) in
      let next : n + length (q ∷ rs) ≡ n + 1 + length rs = omega arith in (
        m,
        lines,
        rest ++ (front ++ (number_text numbered (n + 1 + length rs) ++ reply_line r)),
        first,
        why,
        explained_more numbered (n + 1) m k j cs rs c r rest front led st explains,
        ap (λ l. l ++ last) told ∙ append_assoc here rest last ∙ ap (λ p. here ++ (rest ++ (front ++ (number_text numbered p ++ reply_line r)))) next,
      )
