-- A run that goes on: its beginning, one step more, its end.
use Rattle.std.proofs.Common.{◌≡◌, ℕ, zero, suc, ◌+◌, ◌<◌, List, [], ◌∷◌, ◌++◌, length, get_or, drop, refl, sym, ◌∙◌, ap, subst, arith, append-nil}
use Rattle.g1_trace.specs.declared.command.Command.{Command}
use Rattle.g1_trace.specs.declared.command.Reply.{Reply}
use Rattle.g1_trace.specs.Run.{Replies}

-- whatever replies the rest of the commands has from here on, with those so far before them they are replies to all
abbrev pub GoesOn : {S : Type 0} → (S → Command → Reply → S → Type 0) → S → List Command → List Reply → S → List Command → Type 0
GoesOn step start all replies here rest = (rs : List Reply) → Replies step here rest rs → Replies step start all (replies ++ rs)

pub append-one : {A : Type 0} (xs ys : List A) (x : A) → (xs ++ x ∷ []) ++ ys ≡ xs ++ (x ∷ ys)
append-one [] ys x = refl
append-one (z ∷ xs) ys x = ap (λ zs. z ∷ zs) (append-one xs ys x)

drop-here : {A : Type 0} (xs : List A) (k : ℕ) (d : A) → k < length xs → drop k xs ≡ get_or xs k d ∷ drop (k + 1) xs
drop-here [] k d lt = absurd (omega (arith, lt))
drop-here (x ∷ xs) zero d lt = refl
drop-here (x ∷ xs) (suc k) d lt = let n : suc k + 1 ≡ suc (k + 1) = omega arith in drop-here xs k d (omega (arith, lt)) ∙ ap (λ m. get_or xs k d ∷ drop m (x ∷ xs)) (sym n)

drop-past : {A : Type 0} (xs : List A) (k : ℕ) → (k < length xs → ⊥) → drop k xs ≡ []
drop-past [] zero n = refl
drop-past [] (suc k) n = refl
drop-past (x ∷ xs) zero n = absurd (n (omega arith))
drop-past (x ∷ xs) (suc k) n = drop-past xs k (λ lt. n (omega (arith, lt)))

module _ {S : Type 0} (step : S → Command → Reply → S → Type 0) (start : S) (all : List Command) where
  pub leads_start : (replies : List Reply) → replies ≡ [] → GoesOn step start all replies start all
  leads_start replies e = λ rs k. subst (λ xs. Replies step start all (xs ++ rs)) (sym e) k

  pub leads_on : (replies : List Reply) (here t : S) (k : ℕ) (d : Command) (r : Reply) (longer : List Reply) → k < length all →
      GoesOn step start all replies here (drop k all) → step here (get_or all k d) r t → longer ≡ replies ++ r ∷ []
      → GoesOn step start all longer t (drop (k + 1) all)
  leads_on replies here t k d r longer lt f st e = λ rs m.
      subst (λ xs. Replies step start all (xs ++ rs)) (sym e) (subst (Replies step start all) (sym (append-one replies rs r))
      (f (r ∷ rs) (subst (λ cs. Replies step here cs (r ∷ rs)) (sym (drop-here all k d lt)) (t, st, m))))

  pub leads_end : (replies : List Reply) (here : S) (k : ℕ) → (k < length all → ⊥) → GoesOn step start all replies here (drop k all) → Replies step start all replies
  leads_end replies here k n f = subst (Replies step start all) (append-nil replies) (f [] (subst (λ cs. Replies step here cs []) (sym (drop-past all k n)) tt))
