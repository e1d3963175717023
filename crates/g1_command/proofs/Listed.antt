-- The regions that lists name.
use Rattle.std.proofs.Common.{◌≡◌, ◌≢◌, ◌∙◌, ◌<◌, ◌≤◌, ◌+◌, ◌-◌, ◌++◌, ℕ, zero, suc, List, [], ◌∷◌, length, get_or, take, drop, map, Option, Some, None, true, false, refl, sym, ap, subst, eqb, eqb-true, eq-eqb, ne_eqb, arith}
use Rattle.std.specs.Prelude.{unwrap_or, flat_map}
use Rattle.std.specs.Borrow.{Bor}
use Rattle.std.specs.List.{All, AllZip, IsDistinct, concat, join_with_byte, range_with_len}
use Rattle.std.specs.Str.Parse.{AllDigits}
use Rattle.std.proofs.Math.ListN.{get_or-append}
use Rattle.std.proofs.Math.Seq.{get_or-append_seam}
use Rattle.std.proofs.lemmas.Bool.{false≢true}
use Rattle.std.proofs.lemmas.List.{append-nil, append_assoc, length-append, take_more}
use Rattle.std.proofs.lemmas.List.Folds.{Any-from_list_any}
use Rattle.std.proofs.lemmas.List.Splits.{slice_split_none, slice_split_at, length-slice_split, join_with_byte-slice_split}
use Rattle.std.proofs.lemmas.Map.Keys.{apart_from_distinct, IsDistinct-from_apart}
use Rattle.std.proofs.lemmas.Str.Parse.{not_in_digits}
use Rattle.std.proofs.lemmas.Str.Pattern.{IsSplitOnceResult, split_parts}
use Rattle.g1_words.specs.Lists.{has}
use Rattle.clap.specs.Words.{Text}
use Rattle.g1_command.specs.Values.{IsBelow}
use Rattle.g1_command.specs.Lists.{HasTwice, IsRegionOfImage, AreBetween, AreRegionsOfPart, AreRegionsIn, AddsParts, AddNone, ends_of, parts_of, rising}
use Rattle.g1_words.proofs.Numerals.{by_value}

-- a text without a dash is its own only end
no_dash : (bs : Text) → ((i : ℕ) → i < length bs → get_or bs i 0 ≢ 45) → All (λ b. eqb b 45 ≡ false) bs
no_dash bs lacks k d lt = ne_eqb _ 45 (λ e. lacks k lt (same bs k d lt ∙ e))
  where
    same : (xs : List ℕ) (k d : ℕ) → k < length xs → get_or xs k 0 ≡ get_or xs k d
    same [] k d lt = absurd (omega (arith, lt))
    same (x ∷ xs) zero d lt = refl
    same (x ∷ xs) (suc k) d lt = same xs k d (omega (arith, lt))

digits_alone : (ds : Text) → AllDigits 10 ds → ends_of ds ≡ ds ∷ []
digits_alone ds h = slice_split_none (λ b. eqb b 45) ds (no_dash ds (not_in_digits by_value ds 45 h (λ q. let low = q.0 in omega (arith, low))))

-- a range from one end to another
abbrev pub IsRangeOf : Text → Text → List ℕ → Type 0
IsRangeOf a b run = (first : ℕ) × (last : ℕ) × IsRegionOfImage first a × IsRegionOfImage last b × (first ≤ last) × (run ≡ rising first last)

rising_alone : (r : ℕ) → rising r r ≡ r ∷ []
rising_alone r = let one : r + 1 - r ≡ 1 = omega arith in ap (range_with_len r) one

-- THE ENDS OF A PART as they were got: the regions of the part are those of the range between them
pub record AreEnds (part a b : Text) : Type 0 where
  pub to : (run : List ℕ) → IsRangeOf a b run → AreRegionsOfPart run part
  pub from : (run : List ℕ) → AreRegionsOfPart run part → IsRangeOf a b run

pub ends_alone : (part : Text) → ends_of part ≡ part ∷ [] → AreEnds part part part
ends_alone part alone = record {
  to = λ run h.
      let same : h.0 ≡ h.1 = sym h.2.1 ∙ h.3.1 in
      subst (λ es. AreBetween es run) (sym alone) (h.0, h.2, h.5 ∙ ap (rising h.0) (sym same) ∙ rising_alone h.0);
  from = λ run h.
      let k : AreBetween (part ∷ []) run = subst (λ es. AreBetween es run) alone h in
      (k.0, k.0, k.1, k.1, omega arith, k.2 ∙ sym (rising_alone k.0));
}

pub ends_around : (part a b : Text) → ends_of part ≡ a ∷ ends_of b → AreEnds part a b
ends_around part a b around = record {
  to = λ run h. subst (λ es. AreBetween es run) (sym (around ∙ ap (λ es. a ∷ es) (digits_alone b h.3.0.1))) h;
  from = λ run h. by run (ends_of b) refl (subst (λ es. AreBetween es run) around h);
} where
  by : (run : List ℕ) (es : List Text) → ends_of b ≡ es → AreBetween (a ∷ es) run → IsRangeOf a b run
  by run [] e h = absurd (omega (arith, ap length e, length-slice_split (λ b. eqb b 45) b))
  by run (x ∷ []) e h =
      let is : x ≡ b = ap (join_with_byte 45) (sym e) ∙ join_with_byte-slice_split 45 b in
      subst (λ t. IsRangeOf a t run) is h
  by run (x ∷ y ∷ es) e h = absurd h

pub ends_got : (part : Text) (r : Option (Bor Text × Bor Text)) (d u : Bor Text × Bor Text) → IsSplitOnceResult 45 part r → d.0.now ≡ part → d.1.now ≡ part → u ≡ unwrap_or r d
    → AreEnds part u.0.now u.1.now
ends_got part r d u h a b got = subst (λ v. AreEnds part v.0.now v.1.now) (sym got) (by r h)
  where
    by : (r : Option (Bor Text × Bor Text)) → IsSplitOnceResult 45 part r → AreEnds part (unwrap_or r d).0.now (unwrap_or r d).1.now
    by None h =
        subst (λ x. AreEnds part x d.1.now) (sym a) (subst (λ y. AreEnds part part y) (sym b)
        (ends_alone part (slice_split_none (λ b. eqb b 45) part (no_dash part (split_parts 45 part None h (omega arith))))))
    by (Some x) h =
        let cut = split_parts 45 part (Some x) h (omega arith) in
        ends_around part x.0.now x.1.now (ap ends_of cut.0 ∙ slice_split_at (λ b. eqb b 45) x.0.now 45 x.1.now (no_dash x.0.now cut.1) refl)

-- what a part adds, by its ends
module _ (part a b : Text) (ends : AreEnds part a b) (old : List ℕ) where
  pub first_wrong : (IsBelow 4096 a → ⊥) → AddNone (part ∷ []) old
  first_wrong bad new h distinct = let k = ends.from h.0 h.1 in bad (k.0, k.2)

  pub last_wrong : (IsBelow 4096 b → ⊥) → AddNone (part ∷ []) old
  last_wrong bad new h distinct = let k = ends.from h.0 h.1 in bad (k.1, k.3)

  module _ (first last : ℕ) (is_first : IsRegionOfImage first a) (is_last : IsRegionOfImage last b) where
    pub falls : last < first → AddNone (part ∷ []) old
    falls lt new h distinct = let k = ends.from h.0 h.1 in omega (arith, lt, k.4, is_first.1, is_last.1, k.2.1, k.3.1)

    own_range : (own : List ℕ) → AreRegionsOfPart own part → own ≡ rising first last
    own_range own h =
        let k = ends.from own h in
        k.5 ∙ ap (λ l. rising k.0 l) (sym k.3.1 ∙ is_last.1) ∙ ap (λ f. rising f last) (sym k.2.1 ∙ is_first.1)

    pub repeats : HasTwice (old ++ rising first last) → AddNone (part ∷ []) old
    repeats twice new h distinct = twice (subst (IsDistinct eqb) (sym h.2 ∙ ap (λ run. old ++ run) (own_range h.0 h.1)) distinct)

    pub adds_range : (new : List ℕ) → first ≤ last → new ≡ old ++ rising first last → AddsParts (part ∷ []) old new
    adds_range new le added = (rising first last, ends.to (rising first last) (first, last, is_first, is_last, le, refl), sym added)

-- a part names its regions in one way
between_same : (es : List Text) (run other : List ℕ) → AreBetween es run → AreBetween es other → run ≡ other
between_same [] run other h k = absurd h
between_same (a ∷ []) run other h k = h.2 ∙ ap (λ r. r ∷ []) (sym h.1.1 ∙ k.1.1) ∙ sym k.2
between_same (a ∷ b ∷ []) run other h k =
    h.5 ∙ ap (λ l. rising h.0 l) (sym h.3.1 ∙ k.3.1) ∙ ap (λ f. rising f k.1) (sym h.2.1 ∙ k.2.1) ∙ sym k.5
between_same (a ∷ b ∷ c ∷ es) run other h k = absurd h

-- regions beside each other
pub distinct_front : (xs ys : List ℕ) → IsDistinct eqb (xs ++ ys) → IsDistinct eqb xs
distinct_front xs ys h =
    IsDistinct-from_apart eqb xs (λ i j d lt in_xs.
    subst (λ v. eqb v (get_or xs j d) ≡ false) (get_or-append xs ys d i (omega (arith, lt, in_xs)))
    (subst (λ v. eqb (get_or (xs ++ ys) i d) v ≡ false) (get_or-append xs ys d j in_xs)
    (apart_from_distinct eqb (xs ++ ys) i j d h lt (omega (arith, in_xs, length-append xs ys)))))

pub clash : (xs : List ℕ) (x : ℕ) (ys : List ℕ) → has xs x ≡ true → IsDistinct eqb (xs ++ x ∷ ys) → ⊥
clash xs x ys h distinct =
    let found = Any-from_list_any (λ y. eqb x y) xs h in
    let k = found.0 in
    let y = found.1 in
    let apart = apart_from_distinct eqb (xs ++ x ∷ ys) k (length xs) y distinct found.2 (omega (arith, length-append xs (x ∷ ys))) in
    let at_k : get_or (xs ++ x ∷ ys) k y ≡ y = get_or-append xs (x ∷ ys) y k found.2 ∙ found.3 in
    let at_end : get_or (xs ++ x ∷ ys) (length xs) y ≡ x = get_or-append_seam xs x ys y in
    let no : eqb y x ≡ false = subst (λ v. eqb v x ≡ false) at_k (subst (λ v. eqb (get_or (xs ++ x ∷ ys) k y) v ≡ false) at_end apart) in
    false≢true (sym no ∙ eq-eqb y x (sym (eqb-true x y found.4)))

-- numbers that rise by one
pub range_more : (a n r : ℕ) → a + n ≡ r → range_with_len a (n + 1) ≡ range_with_len a n ++ r ∷ []
range_more a zero r e = let is : a ≡ r = omega (arith, e) in ap (λ x. x ∷ []) is
range_more a (suc n) r e =
    let len : suc n + 1 ≡ suc (n + 1) = omega arith in
    ap (range_with_len a) len ∙ ap (λ xs. a ∷ xs) (range_more (a + 1) n r (omega (arith, e)))

pub range_cut : (a n m r : ℕ) → a + n ≡ r → range_with_len a (n + (m + 1)) ≡ range_with_len a n ++ (r ∷ range_with_len (r + 1) m)
range_cut a zero m r e =
    let is : a ≡ r = omega (arith, e) in
    let len : 0 + (m + 1) ≡ suc m = omega arith in
    ap (range_with_len a) len ∙ ap (λ x. x ∷ range_with_len (x + 1) m) is
range_cut a (suc n) m r e =
    let len : suc n + (m + 1) ≡ suc (n + (m + 1)) = omega arith in
    ap (range_with_len a) len ∙ ap (λ xs. a ∷ xs) (range_cut (a + 1) n m r (omega (arith, e)))

-- parts that add regions, one list of parts behind another
pub adds_join : (ps qs : List Text) (old mid new : List ℕ) → AddsParts ps old mid → AddsParts qs mid new → AddsParts (ps ++ qs) old new
adds_join [] qs old mid new a b = subst (λ o. AddsParts qs o new) (sym a) b
adds_join (p ∷ ps) qs old mid new a b = (a.0, a.1, adds_join ps qs (old ++ a.0) mid new a.2 b)

pub adds_cut : (ps qs : List Text) (old new : List ℕ) → AddsParts (ps ++ qs) old new → (mid : List ℕ) × AddsParts ps old mid × AddsParts qs mid new
adds_cut [] qs old new h = (old, refl, h)
adds_cut (p ∷ ps) qs old new h = let k = adds_cut ps qs (old ++ h.0) new h.2 in (k.0, (h.0, h.1, k.1), k.2)

pub adds_front : (ps : List Text) (old new : List ℕ) → AddsParts ps old new → (more : List ℕ) × (new ≡ old ++ more)
adds_front [] old new h = ([], sym h ∙ sym (append-nil old))
adds_front (p ∷ ps) old new h = let k = adds_front ps (old ++ h.0) new h.2 in (h.0 ++ k.0, k.1 ∙ append_assoc old h.0 k.0)

pub adds_same : (ps : List Text) (old new other : List ℕ) → AddsParts ps old new → AddsParts ps old other → new ≡ other
adds_same [] old new other h k = sym h ∙ k
adds_same (p ∷ ps) old new other h k =
    let own = between_same (ends_of p) h.0 k.0 h.1 k.1 in
    adds_same ps (old ++ k.0) new other (subst (λ run. AddsParts ps (old ++ run) new) own h.2) k.2

-- parts that add none make all those add none among which they stand
pub adds_none : (ps qs rs : List Text) (old mid : List ℕ) → AddsParts ps old mid → AddNone qs mid → AddNone (ps ++ (qs ++ rs)) old
adds_none ps qs rs old mid before none new h distinct =
    let k = adds_cut ps (qs ++ rs) old new h in
    let l = adds_cut qs rs k.0 new k.2 in
    let front = adds_front rs l.0 new l.2 in
    none l.0 (subst (λ m. AddsParts qs m l.0) (adds_same ps old k.0 mid k.1 before) l.1) (distinct_front l.0 front.0 (subst (IsDistinct eqb) front.1 distinct))

-- the same as lists of the parts' regions
pub runs_added : (ps : List Text) (old new : List ℕ) → AddsParts ps old new → (runs : List (List ℕ)) × AllZip AreRegionsOfPart runs ps × (old ++ concat runs ≡ new)
runs_added [] old new h = ([], tt, append-nil old ∙ h)
runs_added (p ∷ ps) old new h = let k = runs_added ps (old ++ h.0) new h.2 in (h.0 ∷ k.0, (h.1, k.1), sym (append_assoc old h.0 (concat k.0)) ∙ k.2)

pub added_runs : (ps : List Text) (runs : List (List ℕ)) (old : List ℕ) → AllZip AreRegionsOfPart runs ps → AddsParts ps old (old ++ concat runs)
added_runs [] [] old h = sym (append-nil old)
added_runs [] (run ∷ runs) old h = absurd h
added_runs (p ∷ ps) [] old h = absurd h
added_runs (p ∷ ps) (run ∷ runs) old h = (run, h.0, subst (AddsParts ps (old ++ run)) (append_assoc old run (concat runs)) (added_runs ps runs (old ++ run) h.1))

pub regions_read : (lists : List Text) (regions : List ℕ) → AddsParts (flat_map parts_of lists) [] regions → IsDistinct eqb regions → AreRegionsIn lists regions
regions_read lists regions h distinct =
    let k = runs_added (flat_map parts_of lists) [] regions h in
    record { of_parts = k.0; named = k.1; in_order = sym k.2; once = distinct }

pub no_regions : (lists : List Text) → AddNone (flat_map parts_of lists) [] → (regions : List ℕ) → AreRegionsIn lists regions → ⊥
no_regions lists none regions h =
    none regions (subst (AddsParts (flat_map parts_of lists) []) (sym h.in_order) (added_runs (flat_map parts_of lists) h.of_parts [] h.named)) h.once

-- one part more, of parts that are read in turn
pub adds_next : (ps : List Text) (n : ℕ) (p : Text) (old mid new : List ℕ) → (n < length ps) × (p ≡ get_or ps n p) → AddsParts (take n ps) old mid → AddsParts (p ∷ []) mid new
    → AddsParts (take (n + 1) ps) old new
adds_next ps n p old mid new turn before own =
    subst (λ l. AddsParts l old new) (sym (take_more ps n p turn.0 ∙ ap (λ x. take n ps ++ x ∷ []) (sym turn.1))) (adds_join (take n ps) (p ∷ []) old mid new before own)

parts_around : (ps : List Text) (n : ℕ) (p : Text) → (n < length ps) × (p ≡ get_or ps n p) → ps ≡ take n ps ++ (p ∷ drop (n + 1) ps)
parts_around [] n p turn = absurd (omega (arith, turn.0))
parts_around (q ∷ ps) zero p turn = ap (λ x. x ∷ ps) (sym turn.1)
parts_around (q ∷ ps) (suc n) p turn =
    let k : suc n + 1 ≡ suc (n + 1) = omega arith in
    ap (λ l. q ∷ l) (parts_around ps n p (omega (arith, turn.0), turn.1)) ∙ ap (λ m. q ∷ (take n ps ++ (p ∷ drop m (q ∷ ps)))) (sym k)

pub adds_stop : (ps : List Text) (n : ℕ) (p : Text) (old mid : List ℕ) → (n < length ps) × (p ≡ get_or ps n p) → AddsParts (take n ps) old mid → AddNone (p ∷ []) mid → AddNone ps old
adds_stop ps n p old mid turn before none = subst (λ l. AddNone l old) (sym (parts_around ps n p turn)) (adds_none (take n ps) (p ∷ []) (drop (n + 1) ps) old mid before none)

-- the parts of lists that are read in turn
abbrev pub parts_in : List (Bor Text) → List Text
parts_in lists = flat_map parts_of (map (λ s. s.now) lists)

pub parts_more : (lists : List (Bor Text)) (n : ℕ) (d : Bor Text) → n < length lists → parts_in (take (n + 1) lists) ≡ parts_in (take n lists) ++ parts_of (get_or lists n d).now
parts_more [] n d lt = absurd (omega (arith, lt))
parts_more (x ∷ lists) zero d lt = append-nil (parts_of x.now)
parts_more (x ∷ lists) (suc n) d lt =
    let k : suc n + 1 ≡ suc (n + 1) = omega arith in
    ap (λ m. parts_in (take m (x ∷ lists))) k ∙ ap (λ l. parts_of x.now ++ l) (parts_more lists n d (omega (arith, lt)))
    ∙ sym (append_assoc (parts_of x.now) (parts_in (take n lists)) (parts_of (get_or lists n d).now))

lists_around : (lists : List (Bor Text)) (n : ℕ) (d : Bor Text) → n < length lists → parts_in lists ≡ parts_in (take n lists) ++ (parts_of (get_or lists n d).now ++ parts_in (drop (n + 1) lists))
lists_around [] n d lt = absurd (omega (arith, lt))
lists_around (x ∷ lists) zero d lt = refl
lists_around (x ∷ lists) (suc n) d lt =
    let k : suc n + 1 ≡ suc (n + 1) = omega arith in
    ap (λ l. parts_of x.now ++ l) (lists_around lists n d (omega (arith, lt)))
    ∙ sym (append_assoc (parts_of x.now) (parts_in (take n lists)) (parts_of (get_or lists n d).now ++ parts_in (drop (n + 1) lists)))
    ∙ ap (λ m. parts_in (take (suc n) (x ∷ lists)) ++ (parts_of (get_or lists n d).now ++ parts_in (drop m (x ∷ lists)))) (sym k)

pub lists_stop : (lists : List (Bor Text)) (n : ℕ) (d : Bor Text) (mid : List ℕ) → n < length lists → AddsParts (parts_in (take n lists)) [] mid → AddNone (parts_of (get_or lists n d).now) mid → AddNone (parts_in lists) []
lists_stop lists n d mid lt before none =
    subst (λ l. AddNone l []) (sym (lists_around lists n d lt)) (adds_none (parts_in (take n lists)) (parts_of (get_or lists n d).now) (parts_in (drop (n + 1) lists)) [] mid before none)
