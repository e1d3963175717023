-- As many numbers of lines as the lines say things of a kind, such as roots.
use Rattle.std.proofs.Common.{◌≡◌, ℕ, zero, suc, ◌+◌, ◌-◌, Bool, true, false, cond, List, [], ◌∷◌, ◌++◌, length, length-append, refl, sym, ◌∙◌, ap, arith}
use Rattle.std.specs.Prelude.{Option, Some, None}
use Rattle.g1_words.specs.declared.region.Region.{Region}
use Rattle.g1_words.specs.declared.region.Kind.TheVariants.{Continuation}
use Rattle.g1_text.specs.Reading.{words_in, says_something, parts_of, lines_in}
use Rattle.g1_text.specs.Content.{Content, with_region}
use Rattle.g1_text.specs.Short.{Short, IsShortLine, Gives, BeginsShort, Tells, TellsAll, Closes, GoesOn, Skips}
use Rattle.g1_text.proofs.Turns.{lines_of}

-- regions without lines say nothing of the kind
module _ (size : Content → ℕ) (kept : (c : Content) (rs : List Region) (beyond : ℕ) → size (record c { regions = rs; beyond = beyond }) ≡ size c) where
  goes_on_kept : (c : Content) (n : ℕ) (d : Content) → GoesOn c n d → size d ≡ size c
  goes_on_kept c zero d e = ap size (sym e)
  goes_on_kept c (suc n) d g = goes_on_kept (with_region c Continuation) n d g.1 ∙ kept c (with_region c Continuation).regions (with_region c Continuation).beyond

  pub skips_kept : (c : Content) (on free : ℕ) (d : Content) → Skips c on free d → size d ≡ size c
  skips_kept c on free d s = ap size s.adds ∙ kept s.middle _ s.middle.beyond ∙ goes_on_kept c on s.middle s.goes_on

  abbrev pub size_in : Option Content → ℕ
  size_in None = 0
  size_in (Some c) = size c

  module _ (adds : List (List ℕ) → ℕ → List ℕ) (all : ℕ → List (List ℕ) → List ℕ) (none : (n : ℕ) → all n [] ≡ [])
      (one : (n : ℕ) (line : List ℕ) (lines : List (List ℕ)) → all n (line ∷ lines) ≡ adds (words_in line) n ++ all (n + 1) lines)
      (heading : (words : List (List ℕ)) (n : ℕ) (d : Content) → BeginsShort words d → 0 + length (adds words n) ≡ size d)
      (below : (l : Short) (c d : Content) (words : List (List ℕ)) (n : ℕ) → IsShortLine l words → Gives c l d → size c + length (adds words n) ≡ size d)
      (blank : (words : List (List ℕ)) (n : ℕ) → says_something words ≡ false → length (adds words n) ≡ 0) where
    one_line : (before : Option Content) (words : List (List ℕ)) (d : Content) (n : ℕ) → Tells before words d → size_in before + length (adds words n) ≡ size d
    one_line None words d n b = heading words n d b
    one_line (Some c) words d n t = below t.0 c d words n t.1 t.2

    -- one line and those below it
    module _ (line : List ℕ) (parts : List (List ℕ)) (n : ℕ) (before : Option Content) (after : Content)
        (rest : (now : Option Content) → TellsAll now (lines_of parts) (Some after) → size_in now + length (all (n + 1) parts) ≡ size after) where
      whole : length (all n (line ∷ parts)) ≡ length (adds (words_in line) n) + length (all (n + 1) parts)
      whole = ap length (one n line parts) ∙ length-append (adds (words_in line) n) (all (n + 1) parts)

      line_first : (b : Bool) → says_something (words_in line) ≡ b → TellsAll before (cond b (words_in line ∷ lines_of parts) (lines_of parts)) (Some after)
          → size_in before + length (all n (line ∷ parts)) ≡ size after
      line_first true e (d, tells, more) =
          let here = one_line before (words_in line) d n tells in
          let behind = rest (Some d) more in
          omega (arith, whole, here, behind)
      line_first false e more =
          let empty = blank (words_in line) n e in
          let behind = rest before more in
          omega (arith, whole, empty, behind)

    some_lines : (parts : List (List ℕ)) (n : ℕ) (before : Option Content) (after : Content) → TellsAll before (lines_of parts) (Some after) → size_in before + length (all n parts) ≡ size after
    some_lines [] n before after e =
        let same = ap size_in e in
        let empty = ap length (none n) in
        omega (arith, same, empty)
    some_lines (line ∷ parts) n before after t = line_first line parts n before after (λ now u. some_lines parts (n + 1) now after u) (says_something (words_in line)) refl t

    -- AS MANY NUMBERS as things of the kind
    pub as_many_lines : (bytes : List ℕ) (told c : Content) → TellsAll None (lines_in bytes) (Some told) → Closes told c → length (all 1 (parts_of bytes)) ≡ size c
    as_many_lines bytes told c tells closes =
        let said = some_lines (parts_of bytes) 1 None told tells in
        let closed = skips_kept told closes.0 (told.geometry.n - (length told.regions + closes.0)) c closes.2 in
        omega (arith, said, closed)
