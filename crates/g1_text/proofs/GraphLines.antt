-- Whether a text is one of lines of objects by name, line by line.
use Rattle.std.proofs.Common.{◌≡◌, ◌<◌, ◌↔◌, ℕ, zero, suc, Bool, true, false, List, [], ◌∷◌, length, Contains, Decides, IsUtf8, refl, sym, subst, arith}
use Rattle.std.specs.Prelude.{codes, slice_index_or, IsTrue, MatchBool}
use Rattle.g1_text.specs.Reading.{words_in, says_something, graph_heading, IsOfKind, AreGraphLines}

only_graph : (first : List ℕ) (k : ℕ) → k < 1 → slice_index_or graph_heading k first ≡ first → first ≡ codes "graph"
only_graph first zero lt e = sym e
only_graph first (suc k) lt e = absurd (omega (arith, lt))

pub says_nothing : (words : List (List ℕ)) → length words ≡ 0 → says_something words ≡ false
says_nothing [] e = refl
says_nothing (word ∷ words) e = absurd (omega (arith, e))

module _ (text left rest : List (List ℕ)) (line : List ℕ) (is : left ≡ line ∷ rest) (so_far : AreGraphLines left ↔ AreGraphLines text) (utf8 : IsUtf8 line) where
  from_here : (b : Bool) → says_something (words_in line) ≡ b → MatchBool b (IsOfKind graph_heading (words_in line)) (AreGraphLines rest) → AreGraphLines text
  from_here b e m = so_far.0 (subst AreGraphLines (sym is) (utf8, subst (λ x. MatchBool x (IsOfKind graph_heading (words_in line)) (AreGraphLines rest)) (sym e) m))

  to_here : (b : Bool) → says_something (words_in line) ≡ b → AreGraphLines text → MatchBool b (IsOfKind graph_heading (words_in line)) (AreGraphLines rest)
  to_here b e all = subst (λ x. MatchBool x (IsOfKind graph_heading (words_in line)) (AreGraphLines rest)) e (subst AreGraphLines is (so_far.1 all)).1

  -- a line that says nothing is passed over
  pub passed_over : says_something (words_in line) ≡ false → AreGraphLines rest ↔ AreGraphLines text
  passed_over e = ((λ all. from_here false e all), (λ all. to_here false e all))

  -- the first one that says something decides
  pub decided : (r : Bool) (first : List ℕ) (words : List (List ℕ)) → words_in line ≡ first ∷ words → says_something (words_in line) ≡ true → Decides r (first ≡ codes "graph")
      → IsTrue r ↔ AreGraphLines text
  decided r first words begins e tests = (
    (λ yes. from_here true e (subst (IsOfKind graph_heading) (sym begins) (0, omega arith, sym (tests.0 yes)))),
    (λ all. let kind : Contains graph_heading first = subst (IsOfKind graph_heading) begins (to_here true e all) in tests.1 (only_graph first kind.0 kind.1 kind.2)),
  )
