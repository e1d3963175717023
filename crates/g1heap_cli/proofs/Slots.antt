-- The slots that the line of an object announces.
use Rattle.std.proofs.Common.{◌≡◌, ℕ, ◌<◌, ◌^◌, List, [], ◌∷◌, ◌++◌, sym, ◌∙◌, ap, arith, append_assoc}
use Rattle.std.specs.Prelude.{Some, None, codes, decimal}
use Rattle.std.specs.Borrow.{Bor}
use Rattle.std.proofs.lemmas.Str.Pattern.{IsSplitOnceResult, split_after}
use Rattle.g1heap_cli.specs.Hexadecimal.{spaced}
use Rattle.g1heap_cli.proofs.Hexes.{Lacks, lacks_append, lacks_at, decimal_bare, decimal_lacks, one_word}

module _ (a size slots : ℕ) (words : List (List ℕ)) (sa : a < 2 ^ 64) (ss : size < 2 ^ 32) (sl : slots < 2 ^ 32) where
  -- what stands in front of the stroke
  abbrev front : List ℕ
  front = codes "object " ++ (decimal a ++ 32 ∷ decimal size)

  front_lacks : Lacks 47 front
  front_lacks = lacks_append 47 (codes "object ") (decimal a ++ 32 ∷ decimal size) ((λ e. omega (arith, e)), ((λ e. omega (arith, e)), ((λ e. omega (arith, e)), ((λ e. omega (arith, e)), ((λ e. omega (arith, e)), ((λ e. omega (arith, e)), ((λ e. omega (arith, e)), tt)))))))
      (lacks_append 47 (decimal a) (32 ∷ decimal size) (decimal_lacks 47 a sa (omega arith)) ((λ e. omega (arith, e)), decimal_lacks 47 size (omega (arith, ss)) (omega arith)))

  -- and what stands behind it
  abbrev pub behind : List (List ℕ) → List ℕ
  behind [] = decimal slots
  behind (w ∷ ws) = decimal slots ++ 32 ∷ spaced (w ∷ ws)

  at_stroke : (ws : List (List ℕ)) → spaced (codes "object" ∷ decimal a ∷ (decimal size ++ 47 ∷ decimal slots) ∷ ws) ≡ front ++ 47 ∷ behind ws
  at_stroke [] = ap (λ l. codes "object " ++ l) (sym (append_assoc (decimal a) (32 ∷ decimal size) (47 ∷ decimal slots)))
  at_stroke (w ∷ ws) =
      ap (λ l. codes "object " ++ (decimal a ++ 32 ∷ l)) (append_assoc (decimal size) (47 ∷ decimal slots) (32 ∷ spaced (w ∷ ws)))
      ∙ ap (λ l. codes "object " ++ l) (sym (append_assoc (decimal a) (32 ∷ decimal size) (47 ∷ behind (w ∷ ws))))

  -- the line is cut there
  pub no_stroke : (line : List ℕ) → line ≡ spaced (codes "object" ∷ decimal a ∷ (decimal size ++ 47 ∷ decimal slots) ∷ words) → IsSplitOnceResult 47 line None → ⊥
  no_stroke line e cut = split_after 47 line front (behind words) None cut (omega arith) (e ∙ at_stroke words) (lacks_at 47 front front_lacks)

  pub stroke : (line : List ℕ) (x : Bor (List ℕ) × Bor (List ℕ)) → line ≡ spaced (codes "object" ∷ decimal a ∷ (decimal size ++ 47 ∷ decimal slots) ∷ words) → IsSplitOnceResult 47 line (Some x)
      → x.1.now ≡ behind words
  stroke line x e cut = (split_after 47 line front (behind words) (Some x) cut (omega arith) (e ∙ at_stroke words) (lacks_at 47 front front_lacks)).1

  -- and what is behind it at the next space, if there is one
  pub no_space : (ws : List (List ℕ)) (bs : List ℕ) → bs ≡ behind ws → IsSplitOnceResult 32 bs None → bs ≡ decimal slots
  no_space [] bs e cut = e
  no_space (w ∷ ws) bs e cut =
      absurd (split_after 32 bs (decimal slots) (spaced (w ∷ ws)) None cut (omega arith) e (lacks_at 32 (decimal slots) (decimal_lacks 32 slots (omega (arith, sl)) (omega arith))))

  pub space : (ws : List (List ℕ)) (bs : List ℕ) (x : Bor (List ℕ) × Bor (List ℕ)) → bs ≡ behind ws → IsSplitOnceResult 32 bs (Some x) → x.0.now ≡ decimal slots
  space [] bs x e cut = absurd (one_word (decimal slots) bs x (decimal_bare slots) e cut)
  space (w ∷ ws) bs x e cut =
      (split_after 32 bs (decimal slots) (spaced (w ∷ ws)) (Some x) cut (omega arith) e (lacks_at 32 (decimal slots) (decimal_lacks 32 slots (omega (arith, sl)) (omega arith)))).0
