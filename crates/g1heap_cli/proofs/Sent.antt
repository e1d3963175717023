-- What stands on standard output, from the lines that were taken.
use Rattle.std.proofs.Common.{◌≡◌, inl, inr, ℕ, List, [], ◌∷◌, ◌∙◌, length, take, Option, Some, None, Result, Ok, Err, sym, ap, subst}
use Rattle.std.specs.Prelude.{IfOk}
use Rattle.std.specs.Io.KnownBytes.{append_known, Keeps, Appends}
use Rattle.std.proofs.KnownBytes.{Appends-kept}
use Rattle.g1_command.specs.declared.refusal.Refusal.{Refusal}
use Rattle.g1heap_cli.specs.Written.{HasBegun, with_number, EndsLines}
use Rattle.g1heap_cli.specs.Leaving.{Reply, Grows, SendsText, SendsLines, WritesReply}
use Rattle.g1heap_cli.proofs.Begun.{written-part, written-all}

-- what was taken stays taken
kept-number : (stood a b : Option (List ℕ)) → Keeps a b → Keeps (with_number stood a) (with_number stood b)
kept-number None a b kept = tt
kept-number (Some x) None b kept = tt
kept-number (Some x) (Some y) None kept = absurd kept
kept-number (Some x) (Some y) (Some z) kept = ap (λ l. length x ∷ l) kept

pub takes-kept : {S : Type 0} (known : S → Option (List ℕ)) (first a b : Option (List ℕ)) (s t : S) (text : List ℕ) → t ≡ s → Keeps a b → Appends first (with_number (known s) a) text
    → Appends first (with_number (known t) b) text
takes-kept known first a b s t text same kept p =
    subst (λ u. Appends first (with_number (known u) b) text) (sym same) (Appends-kept first (with_number (known s) a) (with_number (known s) b) text p (kept-number (known s) a b kept))

pub grows-kept : {S : Type 0} (known : S → Option (List ℕ)) (first a b : Option (List ℕ)) (s t : S) → t ≡ s → Keeps a b → Grows first (with_number (known s) a) → Grows first (with_number (known t) b)
grows-kept known first a b s t same kept g = (g.0, takes-kept known first a b s t g.0 same kept g.1)

module _ (Is : Reply) (old stood now all : Option (List ℕ)) (begun : HasBegun stood now all) where
  whole : (s : ℕ) → WritesReply Is (with_number old (append_known old [])) (with_number stood all) all now s → SendsText Is old now (Ok s)
  whole s h = at h.ends
    where
      at : EndsLines h.status all now s → SendsText Is old now (Ok s)
      at (inl e) = inl (h.text, subst (λ n. Is n h.text) (sym e.0) h.is, written-all old stood now all h.text e.1 begun h.takes)
      at (inr e) = let part = written-part old stood now all h.text begun h.takes in inr (e, (h.status, h.text, part.0, h.is, part.1))

  -- of what was taken a beginning is written
  partly : Grows (with_number old (append_known old [])) (with_number stood all) → Grows old now
  partly g = let part = written-part old stood now all g.0 begun g.1 in (take part.0 g.0, part.1)

  -- the lines are sent, as far as they are written
  pub sent : (r : Result ℕ Refusal) (home first : Option (List ℕ)) → home ≡ old → first ≡ append_known old []
      → IfOk r (λ s. WritesReply Is (with_number home first) (with_number stood all) all now s) → Grows (with_number home first) (with_number stood all) → SendsLines Is old now r
  sent r home first at_home is w g = at r (subst (λ o. IfOk r (λ s. WritesReply Is o (with_number stood all) all now s)) same w) (subst (λ o. Grows o (with_number stood all)) same g)
    where
      same : with_number home first ≡ with_number old (append_known old [])
      same = ap (λ o. with_number o first) at_home ∙ ap (with_number old) is

      at : (q : Result ℕ Refusal) → IfOk q (λ s. WritesReply Is (with_number old (append_known old [])) (with_number stood all) all now s) → Grows (with_number old (append_known old [])) (with_number stood all) → SendsLines Is old now q
      at (Ok s) w g = whole s w
      at (Err why) w g = partly g
