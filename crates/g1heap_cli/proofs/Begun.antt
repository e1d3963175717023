-- What is written of lines that a writer takes.
use Rattle.std.proofs.Common.{◌≡◌, ◌+◌, ◌-◌, ◌≤◌, arith, ◌⊎◌, inl, inr, ℕ, false, true≢false, is_some, List, [], ◌∷◌, ◌++◌, None, Some, Option, refl, sym, ap, ◌∙◌, subst, append_assoc, append-nil, length, take, drop, take-append-drop}
use Rattle.std.proofs.Math.Nat.{suc-ne-zero}
use Rattle.std.proofs.Math.Seq.{take-append-add}
use Rattle.std.proofs.Transfers.{starts_with_length}
use lib.Seq.{take-append_seam}
use Rattle.std.specs.Io.{StartsWith}
use Rattle.std.specs.Io.KnownBytes.{Keeps, Appends, append_known}
use Rattle.std.proofs.KnownBytes.{starts_with_rest}
use Rattle.g1heap_cli.specs.Written.{HasBegun, before_of, with_number}
use Rattle.g1_report.specs.Taken.{TakesPart}

-- what a list begins with
starts-append : (xs ys : List ℕ) → StartsWith (xs ++ ys) xs
starts-append xs ys = take-append_seam xs ys

-- more behind it
pub starts-more : (xs ys bs : List ℕ) → StartsWith xs ys → StartsWith (xs ++ bs) ys
starts-more xs ys bs h =
    subst (λ l. StartsWith (l ++ bs) ys) (sym (starts_with_rest xs ys h))
    (subst (λ l. StartsWith l ys) (sym (append_assoc ys (drop (length ys) xs) bs)) (starts-append ys (drop (length ys) xs ++ bs)))

-- a beginning of the lines that wait is written
pub part-begun : (s a b : Option (List ℕ)) (text : List ℕ) (k : ℕ) → HasBegun s a (append_known a text) → Appends a b (take k text) → HasBegun s b (append_known a text)
part-begun None a b text k h p = tt
part-begun (Some x) None b text k h p = absurd h
part-begun (Some x) (Some y) None text k h p = absurd p
part-begun (Some x) (Some y) (Some z) text k h p =
    let all : y ++ text ≡ z ++ drop k text = ap (λ l. y ++ l) (sym (take-append-drop k text)) ∙ sym (append_assoc y (take k text) (drop k text)) ∙ ap (λ l. l ++ drop k text) (sym p) in
    (subst (λ l. StartsWith l x) (sym p) (starts-more y x (take k text) h.0), subst (λ l. StartsWith l z) (sym all) (starts-append z (drop k text)))

-- no writer is kept
pub before_of-none : {S W : Type 0} (value : S → W) (kept : Option S) (w : W) → is_some kept ≡ false → before_of value kept w ≡ w
before_of-none value None w h = refl
before_of-none value (Some s) w h = absurd (true≢false h)

-- the same of the writer that is kept
pub kept-begun : {S W : Type 0} (known : W → Option (List ℕ)) (value : S → W) (kept : Option S) (stood : Option (List ℕ)) (w sent : W) (new : Option (List ℕ)) (text told : List ℕ) (k : ℕ)
    → is_some kept ≡ false → told ≡ text → sent ≡ w → HasBegun stood (known w) (append_known (known (before_of value kept w)) text) → Appends (known w) new (take k told)
    → HasBegun stood new (append_known (known sent) text)
kept-begun known value kept stood w sent new text told k none same is h p =
    let begun = subst (λ x. HasBegun stood (known w) (append_known (known x) text)) (before_of-none value kept w none) h in
    subst (λ x. HasBegun stood new (append_known (known x) text)) (sym is) (part-begun stood (known w) new text k begun (subst (λ l. Appends (known w) new (take k l)) same p))

-- a text that was delivered with the status of a broken pipe is not delivered with another one
pub is_part : {n : ℕ} {A : Type 0} (P : ℕ → Type 0) → n ≡ 141 → ((n ≡ 0) × A) ⊎ ((n ≡ 141) × ((k : ℕ) × P k)) → (k : ℕ) × P k
is_part P is (inl x) = absurd (suc-ne-zero 140 (sym is ∙ x.0))
is_part P is (inr x) = x.1

-- all is taken
pub takes-all : (stood a new : Option (List ℕ)) (text more lines : List ℕ) → more ≡ text ++ lines → Keeps (append_known a more) new
    → TakesPart (with_number stood (append_known a text)) (with_number stood new) lines
takes-all None a new text more lines is kept = tt
takes-all (Some x) None new text more lines is kept = tt
takes-all (Some x) (Some y) None text more lines is kept = absurd kept
takes-all (Some x) (Some y) (Some z) text more lines is kept =
    (lines, [], sym (append-nil lines), ap (λ l. length x ∷ l) (kept ∙ ap (λ l. y ++ l) is ∙ sym (append_assoc y text lines)))

-- of a list that begins with x, which is as long as y, and goes on as x and a text do, the rest is a beginning of the text
begins : (x y z w text : List ℕ) → length y ≡ length x → z ≡ x ++ text → StartsWith w y → StartsWith z w → (k : ℕ) × (w ≡ x ++ take k text)
begins x y z w text long is front all =
    let more : length x ≤ length w = subst (λ n. n ≤ length w) long (starts_with_length w y front) in
    let long : length x + (length w - length x) ≡ length w = omega (arith, more) in
    (length w - length x, sym all ∙ ap (take (length w)) is ∙ ap (λ n. take n (x ++ text)) (sym long) ∙ take-append-add x text (length w - length x))

module _ (old stood now all : Option (List ℕ)) (text : List ℕ) where
  -- a beginning of what was taken since then is written
  pub written-part : HasBegun stood now all → Appends (with_number old (append_known old [])) (with_number stood all) text → (k : ℕ) × Appends old now (take k text)
  written-part h p = at old stood now all h p
    where
      at : (old stood now all : Option (List ℕ)) → HasBegun stood now all → Appends (with_number old (append_known old [])) (with_number stood all) text
          → (k : ℕ) × Appends old now (take k text)
      at None stood now all h p = (0, tt)
      at (Some x) None now all h p = absurd p
      at (Some x) (Some y) None all h p = absurd h
      at (Some x) (Some y) (Some w) None h p = absurd p
      at (Some x) (Some y) (Some w) (Some z) h p =
          begins x y z w text (ap (λ l. elim l [ [] ↦ 0 | n ∷ ns ↦ n ]) p) (ap (drop 1) p ∙ ap (λ l. l ++ text) (append-nil x)) h.0 h.1

  -- all of it is
  pub written-all : Keeps all now → HasBegun stood now all → Appends (with_number old (append_known old [])) (with_number stood all) text → Appends old now text
  written-all kept h p = at old stood now all kept h p
    where
      at : (old stood now all : Option (List ℕ)) → Keeps all now → HasBegun stood now all → Appends (with_number old (append_known old [])) (with_number stood all) text
          → Appends old now text
      at None stood now all kept h p = tt
      at (Some x) None now all kept h p = absurd p
      at (Some x) (Some y) None all kept h p = absurd h
      at (Some x) (Some y) (Some w) None kept h p = absurd p
      at (Some x) (Some y) (Some w) (Some z) kept h p = kept ∙ (ap (drop 1) p ∙ ap (λ l. l ++ text) (append-nil x))
