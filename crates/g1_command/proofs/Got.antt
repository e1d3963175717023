-- What is read of the values that clap found.
use Rattle.std.proofs.Common.{◌≡◌, ◌∙◌, ◌^◌, ◌<◌, ◌+◌, ◌++◌, ℕ, zero, suc, List, [], ◌∷◌, length, get_or, take, map, Option, Some, None, Result, Ok, Err, refl, sym, ap, subst, arith}
use Rattle.std.specs.Prelude.{IfOk, IfErr, option_map, unwrap_or}
use Rattle.std.specs.List.{AllZip, Any}
use Rattle.std.specs.Borrow.{Bor}
use Rattle.clap.specs.Words.{Text, all_of, first_of, first_value, matched_of, raw_values, rows_of}
use Rattle.clap.specs.declared.parser.matches.Found.{Found}
use Rattle.std.proofs.lemmas.List.{take_more}
use Rattle.std.proofs.lemmas.Slice.Zip.{all_zipped_more}
use Rattle.clap.proofs.WalkLemmas.{first_value-rows, raw_values-rows}
use Rattle.g1_command.specs.declared.values.Misuse.{Misuse}
use Rattle.g1_command.specs.declared.values.Misuse.TheVariants as misuse
use Rattle.g1_command.specs.Values.{IsBelow, IsNumber, IsRegion, IfGiven, OrZero, IsNumberOf, IsNoNumberOf, IsNoRegionOf, texts_of, Because}

-- values are no request for a weaker reason, too
pub because_so : {P Q : Type 0} → (P → Q) → (m : Misuse) → Because P m → Because Q m
because_so f misuse.Memory h = tt
because_so f (misuse.Value message) h = f h

-- the first value of an option, as it was got
module _ (f : Found) (id : Text) (got : Option (Bor Text)) (is : option_map (λ s. s.now) got ≡ first_value f id) where
  pub none_got : got ≡ None → first_of id (rows_of f) ≡ None
  none_got e = sym (first_value-rows f id) ∙ sym is ∙ ap (option_map (λ s. s.now)) e

  pub one_got : (t : Bor Text) → got ≡ Some t → first_of id (rows_of f) ≡ Some t.now
  one_got t e = sym (first_value-rows f id) ∙ sym is ∙ ap (option_map (λ s. s.now)) e

  pub zero_got : got ≡ None → IsNumberOf (rows_of f) id 0
  zero_got e = subst (λ x. OrZero x 0) (sym (none_got e)) refl

  pub nothing_got : (Says : ℕ → Text → Type 0) → got ≡ None → IfGiven Says (first_of id (rows_of f)) None
  nothing_got Says e = subst (λ x. IfGiven Says x None) (sym (none_got e)) tt

  module _ (t : Bor Text) (e : got ≡ Some t) where
    pub number_got : (r : Result ℕ Misuse) → IfOk r (λ n. IsNumber n t.now) → IfOk r (IsNumberOf (rows_of f) id)
    number_got (Ok n) h = subst (λ x. OrZero x n) (sym (one_got t e)) h
    number_got (Err m) h = tt

    pub no_number_got : (r : Result ℕ Misuse) → IfErr r (Because (IsBelow (2 ^ 64) t.now → ⊥)) → IfErr r (Because (IsNoNumberOf (rows_of f) id))
    no_number_got (Ok n) h = tt
    no_number_got (Err m) h = because_so (λ bad. (t.now, one_got t e, bad)) m h

    pub some_got : (Says : ℕ → Text → Type 0) (n : ℕ) → Says n t.now → IfGiven Says (first_of id (rows_of f)) (Some n)
    some_got Says n h = subst (λ x. IfGiven Says x (Some n)) (sym (one_got t e)) h

    pub wrong_number : (m : Misuse) → Because (IsBelow (2 ^ 64) t.now → ⊥) m → Because (IsNoNumberOf (rows_of f) id) m
    wrong_number m h = because_so (λ bad. (t.now, one_got t e, bad)) m h

    pub wrong_region : (m : Misuse) → Because (IsBelow (2 ^ 32) t.now → ⊥) m → Because (IsNoRegionOf (rows_of f) id) m
    wrong_region m h = because_so (λ bad. (t.now, one_got t e, bad)) m h

-- all its values, as they were got
pub texts_got : (f : Found) (id : Text) (got : Option (Bor (List (Bor Text)))) (r d : Bor (List (Bor Text))) → option_map (λ s. map (λ v. v.now) s.now) got ≡ option_map raw_values (matched_of f id)
    → r ≡ unwrap_or got d → d.now ≡ [] → map (λ v. v.now) r.now ≡ texts_of (rows_of f) id
texts_got f id got r d is e none = ap (λ (s : Bor (List (Bor Text))). map (λ v. v.now) s.now) e ∙ go got (is ∙ raw_values-rows f id)
  where
    go : (o : Option (Bor (List (Bor Text)))) → option_map (λ s. map (λ v. v.now) s.now) o ≡ all_of id (rows_of f) → map (λ v. v.now) (unwrap_or o d).now ≡ texts_of (rows_of f) id
    go None k = ap (map (λ v. v.now)) none ∙ ap (λ x. unwrap_or x []) k
    go (Some s) k = ap (λ x. unwrap_or x []) k

pub zipped_texts : (rs : List ℕ) (xs : List (Bor Text)) → AllZip (λ r t. IsRegion r t.now) rs xs → AllZip IsRegion rs (map (λ v. v.now) xs)
zipped_texts [] [] h = tt
zipped_texts [] (x ∷ xs) h = absurd h
zipped_texts (r ∷ rs) [] h = absurd h
zipped_texts (r ∷ rs) (x ∷ xs) h = (h.0, zipped_texts rs xs h.1)

pub zip_step : (rs more : List ℕ) (r : ℕ) (xs : List (Bor Text)) (i : ℕ) (d : Bor Text) → i < length xs → more ≡ rs ++ r ∷ []
    → AllZip (λ r t. IsRegion r t.now) rs (take i xs) → IsRegion r (get_or xs i d).now → AllZip (λ r t. IsRegion r t.now) more (take (i + 1) xs)
zip_step rs more r xs i d lt pushed so_far says =
    let zipped = all_zipped_more (λ r (t : Bor Text). IsRegion r t.now) rs (take i xs) r (get_or xs i d) so_far says in
    subst (AllZip (λ r (t : Bor Text). IsRegion r t.now) more) (sym (take_more xs i d lt))
    (subst (λ l. AllZip (λ r (t : Bor Text). IsRegion r t.now) l (take i xs ++ get_or xs i d ∷ [])) (sym pushed) zipped)

pub wrong_text : (P : Text → Type 0) (xs : List (Bor Text)) (i : ℕ) (d : Bor Text) → i < length xs → P (get_or xs i d).now → Any P (map (λ v. v.now) xs)
wrong_text P [] i d lt p = absurd (omega (arith, lt))
wrong_text P (x ∷ xs) zero d lt p = (0, x.now, omega arith, refl, p)
wrong_text P (x ∷ xs) (suc i) d lt p = let r = wrong_text P xs i d (omega (arith, lt)) p in (suc r.0, r.1, omega (arith, r.2), r.3, r.4)
