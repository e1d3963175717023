-- A list cut into chunks of one size: what each chunk gives, chunk after chunk, is what the list gives.
use Rattle.std.proofs.Common.{◌≡◌, ℕ, ◌+◌, ◌*◌, ◌/◌, ◌%◌, ◌<◌, ◌≤◌, min, List, ◌++◌, length, take, drop, flat_map, inl, inr, sym, ap, ◌∙◌, arith, div-add-mod'}
use Rattle.std.proofs.lemmas.Bool.{cases_lt}
use Rattle.std.proofs.lemmas.Nat.{mod_below}
use Rattle.std.proofs.lemmas.Grind.{flat_map-append}
use Rattle.std.proofs.lemmas.List.{drop-take, take-append-drop, take-take, take_all}

-- so many chunks reach over a list of this length
reaching : (count len size : ℕ) → 0 < size → count ≡ len / size + min 1 (len % size) → len ≤ count * size
reaching count len size pos is =
    let whole : len / size * size + len % size ≡ len = div-add-mod' len size in
    let rest : len % size < size = mod_below len size pos in
    elim (cases_lt 0 (len % size)) [
      | inl some ↦ let e : count ≡ len / size + 1 = omega arith in let wide = ap (λ n. n * size) e in let more : (len / size + 1) * size ≡ len / size * size + size = omega arith in omega arith
      | inr none ↦ let e : count ≡ len / size = omega arith in let wide = ap (λ n. n * size) e in omega arith
    ]

module _ {A : Type 0} (xs : List A) (size : ℕ) where
  -- the first n chunks, and the next one
  chunk_more : (n : ℕ) → take (n * size) xs ++ take size (drop (n * size) xs) ≡ take ((n + 1) * size) xs
  chunk_more n =
      let ys = take (n * size + size) xs in
      let next : n * size + size ≡ (n + 1) * size = omega arith in
      (λ i. sym (take-take (n * size) (n * size + size) xs (omega arith)) i ++ sym (drop-take (n * size) size xs) i)
      ∙ take-append-drop (n * size) ys
      ∙ ap (λ k. take k xs) next

  -- what the first n chunks give, and the next one
  pub given_more : {B : Type 0} (f : A → List B) (n : ℕ) → flat_map f (take (n * size) xs) ++ flat_map f (take size (drop (n * size) xs)) ≡ flat_map f (take ((n + 1) * size) xs)
  given_more f n = sym (flat_map-append f (take (n * size) xs) (take size (drop (n * size) xs))) ∙ ap (flat_map f) (chunk_more n)

  -- all chunks have the whole list
  pub all_chunks : (n : ℕ) → 0 < size → n ≡ length xs / size + min 1 (length xs % size) → take (n * size) xs ≡ xs
  all_chunks n pos e = take_all (n * size) xs (reaching n (length xs) size pos e)
