-- A valid heap is ready for every command.
use Rattle.std.proofs.Common.{◌≡◌, ℕ, ◌+◌, ◌-◌, ◌*◌, ◌/◌, ◌%◌, ◌<◌, ◌≤◌, Bool, true, false, cond, List, [], ◌∷◌, length, Option, Some, None, Contains, refl, sym, ◌∙◌, ap, subst, zero, suc}
use Rattle.std.proofs.Common.{arith, leb, ltb-false, leb-true, mod-lt, div-add-mod'}
use Rattle.std.specs.List.{range_with_len, list_all, find}
use Rattle.std.proofs.lemmas.Nat.{div-mul-add, le-div}
use Rattle.std.proofs.Math.Nat.{mul-le-mul_right, add-mul}
use Rattle.std.proofs.lemmas.Bool.{and_parts}
use Rattle.g1_words.specs.declared.object.Object.{Object}
use Rattle.g1_words.specs.declared.region.Kind.TheVariants.{Free}
use Rattle.g1_words.specs.Heap.{Heap, kind, top, word, region_of, regions, objects, object_at, is_free}
use Rattle.g1_words.proofs.Indices.{range_bounds}
use Rattle.g1_words.proofs.Computed.{Contains-range}
use Rattle.g1_words.proofs.NextFit.{free_by_test}
use Rattle.g1_words.proofs.Shapes.{IsBuiltBy, IsBuilt}
use Rattle.g1_words.proofs.Sound.{IsSound}
use Rattle.g1_words.proofs.Standing.{home, word_used, words_apart, built_is_sound, w_pos}
use Rattle.g1_words.proofs.Members.{Contains-later}
use Rattle.g1_after.proofs.GraphsCompose.{live_object}
use Rattle.g1_trace.specs.Mutator.{heap_view, is_humongous, run_length, is_free_region, is_free_run, fits_current}
use Rattle.g1_trace.specs.Views.{Seen}
use Rattle.g1_trace.proofs.Laid.{CoversWord, IsLaid, IsUnused, IsReady}
use Rattle.g1_trace.proofs.GraphViews.{seen_live}

pub seen_object : (h : Heap) → IsSound h → (a : ℕ) → Seen (heap_view h) a → Contains (objects h) (object_at h a)
seen_object h sound a s = live_object h sound a (seen_live h a s)

found_at : {X : Type 0} (p : X → Bool) (x : X) (xs : List X) (r : X) (b : Bool) → p x ≡ b → cond b (Some x) (find p xs) ≡ Some r →
    (find p xs ≡ Some r → Contains xs r × (p r ≡ true)) → Contains (x ∷ xs) r × (p r ≡ true)
found_at {X} p x xs r true e q f = ((zero, omega arith, some_of q), ap p (sym (some_of q)) ∙ e)
  where
    some_of : Some x ≡ Some r → x ≡ r
    some_of g = cc
found_at p x xs r false e q f = let m = f q in (Contains-later x xs r m.0, m.1)

-- what a search finds is a member that passes
pub found : {X : Type 0} (p : X → Bool) (xs : List X) (r : X) → find p xs ≡ Some r → Contains xs r × (p r ≡ true)
found p [] r e = cc
found p (x ∷ xs) r e = found_at p x xs r (p x) refl e (found p xs r)

each_passes : {X : Type 0} (p : X → Bool) (xs : List X) → list_all p xs ≡ true → (x : X) → Contains xs x → p x ≡ true
each_passes p [] e x k = absurd (omega (arith, k.1))
each_passes p (y ∷ xs) e x (zero, b, q) = ap p (sym q) ∙ (and_parts (p y) (list_all p xs) e).0
each_passes p (y ∷ xs) e x (suc j, b, eq) = each_passes p xs (and_parts (p y) (list_all p xs) e).1 x (j, omega (arith, b), eq)

module _ (h : Heap) (valid : IsBuilt h) where
  abbrev sound : IsSound h
  sound = built_is_sound h valid

  -- an object that is seen has its words below the end of the heap
  pub below_end : (q r : ℕ) → region_of h q ≡ r → r < h.geometry.n → q < h.geometry.n * h.geometry.w
  below_end q r e lt =
      let p = w_pos h valid in
      let d : q / h.geometry.w * h.geometry.w + q % h.geometry.w ≡ q = div-add-mod' q h.geometry.w in
      let m : q % h.geometry.w < h.geometry.w = mod-lt q p in
      let s : (q / h.geometry.w + 1) * h.geometry.w ≤ h.geometry.n * h.geometry.w = mul-le-mul_right h.geometry.w (omega (arith, lt, e)) in
      let t : (q / h.geometry.w + 1) * h.geometry.w ≡ q / h.geometry.w * h.geometry.w + 1 * h.geometry.w = add-mul (q / h.geometry.w) 1 h.geometry.w in
      omega (arith, d, m, s, t)

  pub built_laid : IsLaid h
  built_laid = record {
    slots_fit = λ a s. sound.slots_fit (object_at h a) (seen_object h sound a s);
    inside = λ a s.
        let o : Object = object_at h a in
        let m = home h valid o (seen_object h sound a s) in
        let pos : o.refs < o.size = sound.slots_fit o (seen_object h sound a s) in
        let u = word_used h valid m.0 o (o.size - 1) m.2 (omega (arith, pos)) in
        let e : a + (o.size - 1) < h.geometry.n * h.geometry.w = below_end (a + (o.size - 1)) (region_of h (a + (o.size - 1))) refl u.0 in
        let n : length h.words ≡ h.geometry.n * h.geometry.w = valid.word_count in
        omega (arith, e, n, pos);
    apart = λ a b q s t c d.
        let m = home h valid (object_at h a) (seen_object h sound a s) in
        let k = home h valid (object_at h b) (seen_object h sound b t) in
        let x : a + (q - a) ≡ b + (q - b) = omega (arith, c.0, d.0) in
        words_apart h valid m.0 k.0 (object_at h a) (object_at h b) (q - a) (q - b) m.1 k.1 (omega (arith, c)) (omega (arith, d)) x;
  }

  -- a word above its region's top is 0, and no object's
  above_top : (r x q : ℕ) → r < h.geometry.n → top h r ≤ x → x < h.geometry.w → q ≡ r * h.geometry.w + x →
      (word h q ≡ 0) × ((b : ℕ) → Seen (heap_view h) b → CoversWord h b q → ⊥) × ((o : Object) → Contains (objects h) o → o.at ≤ q → q < o.at + o.size → ⊥)
  above_top r x q lt le small e = (
    ap (word h) e ∙ valid.zero_above r x lt le small,
    λ b s c.
        let o : Object = object_at h b in
        let m = home h valid o (seen_object h sound b s) in
        let at : b + (q - b) ≡ q = omega (arith, c.0) in
        let u = word_used h valid m.0 o (q - b) m.2 (omega (arith, c)) in
        let here : region_of h (b + (q - b)) ≡ r = ap (region_of h) (at ∙ e) ∙ div-mul-add r h.geometry.w x small in
        let high : b + (q - b) < r * h.geometry.w + top h r = subst (λ y. b + (q - b) < y * h.geometry.w + top h y) here u.2 in
        absurd (omega (arith, high, at, e, le)),
    λ o c low up.
        let m = home h valid o c in
        let at : o.at + (q - o.at) ≡ q = omega (arith, low) in
        let u = word_used h valid m.0 o (q - o.at) m.2 (omega (arith, low, up)) in
        let here : region_of h (o.at + (q - o.at)) ≡ r = ap (region_of h) (at ∙ e) ∙ div-mul-add r h.geometry.w x small in
        let high : o.at + (q - o.at) < r * h.geometry.w + top h r = subst (λ y. o.at + (q - o.at) < y * h.geometry.w + top h y) here u.2 in
        absurd (omega (arith, high, at, e, le)),
  )

  -- the part of one region above its top
  unused_in : (r size : ℕ) → r < h.geometry.n → top h r + size ≤ h.geometry.w → IsUnused h (r * h.geometry.w + top h r) size
  unused_in r size lt fits =
      let s : (r + 1) * h.geometry.w ≤ h.geometry.n * h.geometry.w = mul-le-mul_right h.geometry.w (omega (arith, lt)) in
      let t : (r + 1) * h.geometry.w ≡ r * h.geometry.w + 1 * h.geometry.w = add-mul r 1 h.geometry.w in
      let n : length h.words ≡ h.geometry.n * h.geometry.w = valid.word_count in
      record {
        in_words = omega (arith, s, t, n, fits);
        zeros = λ q low high. (above_top r (q - r * h.geometry.w) q lt (omega (arith, low)) (omega (arith, low, high, fits)) (omega (arith, low))).0;
        clear = λ b q s c low high. (above_top r (q - r * h.geometry.w) q lt (omega (arith, low)) (omega (arith, low, high, fits)) (omega (arith, low))).1 b s c;
        apart = λ o q c lo up low high. (above_top r (q - r * h.geometry.w) q lt (omega (arith, low)) (omega (arith, low, high, fits)) (omega (arith, low))).2 o c lo up;
      }

  pub free_top : (r : ℕ) → r < h.geometry.n → kind h r ≡ Free → top h r ≡ 0
  free_top r lt e = subst (IsBuiltBy h r) e (valid.shaped r lt)

  pub free_run : (m r : ℕ) → is_free_run h m r ≡ true → (r + m ≤ h.geometry.n) × ((c : ℕ) → c < m → kind h (r + c) ≡ Free)
  free_run m r e =
      let both = and_parts (leb (r + m) h.geometry.n) (list_all (λ q. is_free (kind h q)) (range_with_len r m)) e in (
        leb-true (r + m) h.geometry.n both.0,
        λ c lt. free_by_test (kind h (r + c))
            (each_passes (λ q. is_free (kind h q)) (range_with_len r m) both.1 (r + c) (Contains-range r m (r + c) (omega arith) (omega (arith, lt)))),
      )

  -- a run of free regions
  unused_run : (r size : ℕ) → is_free_run h (run_length h size) r ≡ true → 0 < size → IsUnused h (r * h.geometry.w + top h r) size
  unused_run r size e pos =
      let p = w_pos h valid in
      let run = free_run (run_length h size) r e in
      let some : 0 < run_length h size = le-div 1 (size + (h.geometry.w - 1)) h.geometry.w p (omega (arith, p, pos)) in
      let none : top h r ≡ 0 = free_top r (let f = run.0 in omega (arith, f, some)) (let k = run.1 0 some in let z : r + 0 ≡ r = omega arith in ap (kind h) (sym z) ∙ k) in
      let d : run_length h size * h.geometry.w + (size + (h.geometry.w - 1)) % h.geometry.w ≡ size + (h.geometry.w - 1) = div-add-mod' (size + (h.geometry.w - 1)) h.geometry.w in
      let l : (size + (h.geometry.w - 1)) % h.geometry.w < h.geometry.w = mod-lt (size + (h.geometry.w - 1)) p in
      let s : (r + run_length h size) * h.geometry.w ≤ h.geometry.n * h.geometry.w = mul-le-mul_right h.geometry.w run.0 in
      let t : (r + run_length h size) * h.geometry.w ≡ r * h.geometry.w + run_length h size * h.geometry.w = add-mul r (run_length h size) h.geometry.w in
      let n : length h.words ≡ h.geometry.n * h.geometry.w = valid.word_count in
      let above : (q : ℕ) → r * h.geometry.w + top h r ≤ q → q < r * h.geometry.w + top h r + size →
      (word h q ≡ 0) × ((b : ℕ) → Seen (heap_view h) b → CoversWord h b q → ⊥) × ((o : Object) → Contains (objects h) o → o.at ≤ q → q < o.at + o.size → ⊥) = λ q low high.
      let y : ℕ = q - r * h.geometry.w in
      let c : ℕ = y / h.geometry.w in
      let dy : c * h.geometry.w + y % h.geometry.w ≡ y = div-add-mod' y h.geometry.w in
      let ly : y % h.geometry.w < h.geometry.w = mod-lt y p in
      let m1 : (c + 1) * h.geometry.w ≡ c * h.geometry.w + 1 * h.geometry.w = add-mul c 1 h.geometry.w in
      let next : c + 1 ≤ run_length h size = le-div (c + 1) (size + (h.geometry.w - 1)) h.geometry.w p (omega (arith, dy, m1, low, high, none, p)) in
      let in_run : c < run_length h size = omega (arith, next) in
      let small : r + c < h.geometry.n = let f = run.0 in omega (arith, f, in_run) in
      let free : top h (r + c) ≡ 0 = free_top (r + c) small (run.1 c in_run) in
      let sum : (r + c) * h.geometry.w ≡ r * h.geometry.w + c * h.geometry.w = add-mul r c h.geometry.w in
      above_top (r + c) (y % h.geometry.w) q small (omega (arith, free)) ly (omega (arith, sum, dy, low, none)) in
      record {
        in_words = omega (arith, d, l, s, t, n, none, p);
        zeros = λ q low high. (above q low high).0;
        clear = λ b q s c low high. (above q low high).1 b s c;
        apart = λ o q c lo up low high. (above q low high).2 o c lo up;
      }

  -- the place that the rule of allocation finds
  current_unused : (size r : ℕ) (c : Option ℕ) → h.current ≡ c → fits_current h size c ≡ true → c ≡ Some r → IsUnused h (r * h.geometry.w + top h r) size
  current_unused size r None e f q = cc
  current_unused size r (Some x) e f q =
      let same : x ≡ r = cc in
      subst (λ x. IsUnused h (x * h.geometry.w + top h x) size) same (unused_in x size (valid.current x e).0 (leb-true (top h x + size) h.geometry.w f))

  pub free_found : (r : ℕ) → find (is_free_region h) (regions h) ≡ Some r → (r < h.geometry.n) × (kind h r ≡ Free)
  free_found r q =
      let m = found (is_free_region h) (regions h) r q in
      let b = range_bounds 0 h.geometry.n r m.0 in
      (omega (arith, b), free_by_test (kind h r) m.1)

  place_unused : (size r : ℕ) (big cur : Bool) → is_humongous h size ≡ big → fits_current h size h.current ≡ cur → 0 < size
      → cond big (find (is_free_run h (run_length h size)) (regions h)) (cond cur h.current (find (is_free_region h) (regions h))) ≡ Some r → IsUnused h (r * h.geometry.w + top h r) size
  place_unused size r true cur e f pos q = unused_run r size (found (is_free_run h (run_length h size)) (regions h) r q).1 pos
  place_unused size r false true e f pos q = current_unused size r h.current refl f q
  place_unused size r false false e f pos q =
      let k = free_found r q in
      let none : top h r ≡ 0 = free_top r k.0 k.1 in
      let le : 4 * size ≤ 3 * h.geometry.w = ltb-false (3 * h.geometry.w) (4 * size) e in
      unused_in r size k.0 (omega (arith, none, le))

  pub built_ready : IsReady h
  built_ready = record {
    laid = built_laid;
    small = valid.limits.words_most;
    places = λ size r pos fits q. place_unused size r (is_humongous h size) (fits_current h size h.current) refl refl pos q;
  }
