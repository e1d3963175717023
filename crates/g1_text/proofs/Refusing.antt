-- Lines that are read one after the other, with their numbers, and the first wrong one.
use Rattle.std.proofs.Common.{◌≡◌, ◌⊎◌, inl, inr, ℕ, ◌+◌, ◌-◌, ◌<◌, Bool, true, false, cond, List, [], ◌∷◌, ◌++◌, length, length-append, take, drop, map, filter, append-nil, append_assoc, eqb, slice_index, All, IsUtf8, refl, sym, ◌∙◌, ap, subst, arith}
use Rattle.std.specs.Prelude.{Option, Some, None, Result, Ok, Err, IfErr, MatchResult}
use Rattle.std.specs.Option.{is_some}
use Rattle.std.specs.List.{ends_with}
use Rattle.std.proofs.lemmas.Bool.{false≢true}
use Rattle.std.proofs.lemmas.List.{map-append, take-append-drop}
use Rattle.std.proofs.lemmas.List.Elements.{All-nil, All-cons, All-append, filter-append}
use Rattle.std.proofs.lemmas.List.Splits.{length-slice_split}
use Rattle.std.proofs.lemmas.Slice.Eq.{bytes_eq-Decides}
use Rattle.g1_words.specs.declared.fault.Fault.{Fault as AnyFault}
use Rattle.g1_words.specs.declared.fault.Fault.TheVariants.{Memory as OutOfMemory, Reference, Card}
use Rattle.g1_words.specs.declared.fault.Place.TheVariants.{Root, Slot}
use Rattle.g1_words.specs.declared.fault.Stand.TheVariants.{Dirty, Region}
use Rattle.g1_words.specs.declared.limits.Limits.TheVariants.{Wide}
use Rattle.g1_image.specs.Text.{file_text}
use Rattle.g1_image.specs.Image.{heap_of}
use Rattle.g1_image.specs.Parts.{CountsFit}
use Rattle.g1_image.specs.Faults.{FaultWithin, MayFailWithin}
use Rattle.g1_text.specs.declared.expected.Expected.{Expected as Wanted}
use Rattle.g1_text.specs.declared.expected.Refusal.{Refusal}
use Rattle.g1_text.specs.declared.expected.Refusal.TheVariants.{Expected, Memory}
use Rattle.g1_text.specs.declared.expected.Wrong.{Wrong}
use Rattle.g1_text.specs.declared.expected.Wrong.TheVariants.{Line, Fault}
use Rattle.g1_text.specs.Reading.{words_in, says_something, parts_of, lines_in, HasLines}
use Rattle.g1_text.specs.Forms.{ImageHeading, ImageLine, HaveForms, HasMeaning}
use Rattle.g1_text.specs.Content.{Content, Agrees, file_with}
use Rattle.g1_text.specs.Covered.{AreCoverOf}
use Rattle.g1_text.specs.Short.{Tells, TellsAll, Closes}
use Rattle.g1_text.specs.Drafts.{form_after, IsTaken, AreTaken, AreAsMany, StandsInHeap}
use Rattle.g1_text.specs.Refused.{IsAtLine, IsLineOrMemory}
use Rattle.g1_text.specs.FaultLines.{LineNumbers, IsLineBelow, IsSlotLine, IsSetLine}
use Rattle.g1_text.specs.Late.{numbers_in, IsLateLine, IsLate, IsLateCoveredLine, IsLateCovered, NoneRemembered}
use Rattle.g1_text.specs.Reported.{IsFirstWrongLine, IsLastLine, IsFirstWrong, IsReported, IsReportedLate, Reports}
use Rattle.g1_text.proofs.RootLines.{root_there, roots_counted, card_there}
use Rattle.g1_text.proofs.LogLines.{log_counted}
use Rattle.g1_text.proofs.SlotLines.{slot_told}
use Rattle.g1_text.proofs.Standing.{told_stands, other_sets}
use Rattle.g1_text.proofs.Turns.{lines_of, at_err}

-- so many lines were read, and these are left: what the lines above say is said now
pub record IsReadUpTo (text left : List (List ℕ)) (number : ℕ) (now : Option Content) : Type 0 where
  pub above : List (List ℕ)
  pub parts : text ≡ above ++ left
  pub counted : number ≡ length above
  pub utf8 : All IsUtf8 above
  pub taken : AreTaken ImageHeading ImageLine false (lines_of above) (is_some now)
  pub says : (said : Option Content) → TellsAll None (lines_of above) said → now ≡ said

pub none_read : (text : List (List ℕ)) → IsReadUpTo text text 0 None
none_read text = record { above = []; parts = refl; counted = refl; utf8 = All-nil IsUtf8; taken = refl; says = λ said e. e }

-- the last of lines that are taken, and of lines that say something
taken_more : (before now new : Bool) (lines : List (List (List ℕ))) (line : List (List ℕ)) → AreTaken ImageHeading ImageLine before lines now → IsTaken ImageHeading ImageLine now line new
    → AreTaken ImageHeading ImageLine before (lines ++ line ∷ []) new
taken_more before now new [] line e t = (subst (λ b. form_after ImageHeading ImageLine b line) (sym e) t.0, sym t.1)
taken_more before now new (l ∷ lines) line a t = (a.0, taken_more true now new lines line a.1 t)

said_last : (before after : Option Content) (lines : List (List (List ℕ))) (line : List (List ℕ)) → TellsAll before (lines ++ line ∷ []) after
    → (middle : Option Content) × TellsAll before lines middle × (d : Content) × Tells middle line d × (Some d ≡ after)
said_last before after [] line s = (before, refl, s.0, s.1, s.2)
said_last before after (l ∷ lines) line s = let r = said_last (Some s.0) after lines line s.2 in (r.0, (s.0, s.1, r.1), r.2, r.3, r.4)

taken_all : (lines : List (List (List ℕ))) (now : Bool) → AreTaken ImageHeading ImageLine true lines now → All ImageLine lines
taken_all [] now t = All-nil ImageLine
taken_all (line ∷ lines) now t = All-cons ImageLine line lines t.0 (taken_all lines now t.1)

formed : (lines : List (List (List ℕ))) (now : Bool) → AreTaken ImageHeading ImageLine false lines now → (lines ≡ []) ⊎ HaveForms ImageHeading ImageLine lines
formed [] now t = inl refl
formed (line ∷ lines) now t = inr (t.0, taken_all lines now t.1)

abbrev is_memory : Refusal → Bool
is_memory Memory = true
is_memory (Expected e) = false

-- ONE LINE MORE
module _ (text left rest : List (List ℕ)) (line : List ℕ) (is : left ≡ line ∷ rest) (number : ℕ) (old new : Option Content) (so_far : IsReadUpTo text left number old) where
  one_line : (b : Bool) → says_something (words_in line) ≡ b → lines_of (so_far.above ++ line ∷ []) ≡ lines_of so_far.above ++ cond b (words_in line ∷ []) []
  one_line b e =
      ap (filter says_something) (map-append words_in so_far.above (line ∷ [])) ∙ filter-append says_something (map words_in so_far.above) (map words_in (line ∷ []))
      ∙ ap (λ x. lines_of so_far.above ++ cond x (words_in line ∷ []) []) e

  no_line : says_something (words_in line) ≡ false → lines_of (so_far.above ++ line ∷ []) ≡ lines_of so_far.above
  no_line e = one_line false e ∙ append-nil (lines_of so_far.above)

  module _ (utf8 : IsUtf8 line) (known : says_something (words_in line) ≡ true → IsTaken ImageHeading ImageLine (is_some old) (words_in line) (is_some new))
      (says : (d : Content) → says_something (words_in line) ≡ true → Tells old (words_in line) d → new ≡ Some d) (nothing : says_something (words_in line) ≡ false → new ≡ old) where
    taken_now : (b : Bool) → says_something (words_in line) ≡ b → AreTaken ImageHeading ImageLine false (lines_of (so_far.above ++ line ∷ [])) (is_some new)
    taken_now true e =
        subst (λ ls. AreTaken ImageHeading ImageLine false ls (is_some new)) (sym (one_line true e))
        (taken_more false (is_some old) (is_some new) (lines_of so_far.above) (words_in line) so_far.taken (known e))
    taken_now false e =
        subst (λ ls. AreTaken ImageHeading ImageLine false ls (is_some new)) (sym (no_line e))
        (subst (λ o. AreTaken ImageHeading ImageLine false (lines_of so_far.above) (is_some o)) (sym (nothing e)) so_far.taken)

    said_now : (b : Bool) → says_something (words_in line) ≡ b → (said : Option Content) → TellsAll None (lines_of (so_far.above ++ line ∷ [])) said → new ≡ said
    said_now true e said s =
        let r = said_last None said (lines_of so_far.above) (words_in line) (subst (λ ls. TellsAll None ls said) (one_line true e) s) in
        says r.2 e (subst (λ o. Tells o (words_in line) r.2) (sym (so_far.says r.0 r.1)) r.3) ∙ r.4
    said_now false e said s = nothing e ∙ so_far.says said (subst (λ ls. TellsAll None ls said) (no_line e) s)

    pub one_read : (n : ℕ) → n ≡ number + 1 → IsReadUpTo text rest n new
    one_read n count = record {
      above = so_far.above ++ line ∷ [];
      parts = so_far.parts ∙ ap (λ ps. so_far.above ++ ps) is ∙ sym (append_assoc so_far.above (line ∷ []) rest);
      counted = let l = length-append so_far.above (line ∷ []) in omega (arith, l, so_far.counted, count);
      utf8 = All-append IsUtf8 so_far.above (line ∷ []) so_far.utf8 (All-cons IsUtf8 line [] utf8 (All-nil IsUtf8));
      taken = taken_now (says_something (words_in line)) refl;
      says = said_now (says_something (words_in line)) refl;
    }

  module _ (r : Result (Unit {0}) Refusal) (x : Refusal) (was : r ≡ Err x)
      (says : (d : Content) → IsUtf8 line → says_something (words_in line) ≡ true → Tells old (words_in line) d → MatchResult r (λ _. new ≡ Some d) (λ e. e ≡ Memory))
      (nothing : IsUtf8 line → says_something (words_in line) ≡ false → MatchResult r (λ _. new ≡ old) (λ e. e ≡ Memory)) where
    may_not : (x ≡ Memory → ⊥) → (said : Option Content) → old ≡ said → IsUtf8 line → (b : Bool) → says_something (words_in line) ≡ b
        → (says_something (words_in line) ≡ true) × ((d : Content) → Tells said (words_in line) d → ⊥)
    may_not other said same utf8 true e =
        (e, λ d s. other (at_err (λ _. new ≡ Some d) (λ y. y ≡ Memory) was (says d utf8 e (subst (λ o. Tells o (words_in line) d) (sym same) s))))
    may_not other said same utf8 false e = absurd (other (at_err (λ _. new ≡ old) (λ y. y ≡ Memory) was (nothing utf8 e)))

    pub first_wrong_line : (x ≡ Memory → ⊥) → (n : ℕ) → n ≡ number + 1 → (bytes : List ℕ) → parts_of bytes ≡ text → IsFirstWrongLine bytes n
    first_wrong_line other n count bytes all = record {
      above = so_far.above;
      line = line;
      below = rest;
      parts = all ∙ so_far.parts ∙ ap (λ ps. so_far.above ++ ps) is;
      counted = omega (arith, count, so_far.counted);
      utf8 = so_far.utf8;
      forms = formed (lines_of so_far.above) (is_some old) so_far.taken;
      wrong = λ said s utf8. may_not other said (so_far.says said s) utf8 (says_something (words_in line)) refl;
    }

-- WHAT A REFUSAL MAKES KNOWN
pub first_wrong : (bytes : List ℕ) (x : Refusal) (w : Wrong) (n : ℕ) → (x ≡ Memory → w ≡ Fault OutOfMemory) → ((e : Wanted) → x ≡ Expected e → w ≡ Line n e)
    → ((x ≡ Memory → ⊥) → IsFirstWrongLine bytes n) → IsFirstWrong bytes w
first_wrong bytes Memory w n memory line wrong = subst (IsFirstWrong bytes) (sym (memory refl)) refl
first_wrong bytes (Expected e) w n memory line wrong = subst (IsFirstWrong bytes) (sym (line e refl)) (wrong (λ s. false≢true (ap is_memory s)))

pub reported : (bytes : List ℕ) (w : Wrong) → IsFirstWrong bytes w → IsReported bytes w
reported bytes (Line n e) f = inl f
reported bytes (Fault f) m = m

pub reports_early : (bytes : List ℕ) (w : Wrong) → IsReported bytes w → Reports bytes w
reports_early bytes (Line n e) (inl f) = inl f
reports_early bytes (Line n e) (inr l) = inr (inl l)
reports_early bytes (Fault f) m = m

-- what is reported for a fault of the bytes is late for what agrees
pub faulty_late : (lines : LineNumbers) (d : Content) (w : Wrong) (f : AnyFault) → AreAsMany lines d → StandsInHeap d → length lines.objects ≡ length d.addresses → Agrees d → IsLineOrMemory w → (f ≡ OutOfMemory → w ≡ Fault OutOfMemory)
    → (CountsFit (file_with d) → MayFailWithin Wide (file_text (file_with d)) f)
    → ((n : ℕ) → f ≡ Reference (Root n) → n < length lines.roots → IsAtLine w (slice_index lines.roots n))
    → ((n : ℕ) → f ≡ Card (Dirty n) → n < length lines.log → IsAtLine w (slice_index lines.log n))
    → ((r : ℕ) → f ≡ Card (Region r) → (n : ℕ) × IsSetLine lines r n × IsAtLine w n)
    → ((p : ℕ) → f ≡ Reference (Slot p) → (n : ℕ) × IsLineBelow lines d.addresses p n × IsAtLine w n) → IsLate lines d w
faulty_late lines d (Fault g) f same stands objects agrees m memory fails root dirty region slot = m
faulty_late lines d (Line n e) f same stands objects agrees line memory fails root dirty region slot = inr (inr (
  agrees,
  λ fit. elim (fails fit) [
    | inl m ↦ (let clash : Line n e ≡ Fault OutOfMemory = memory m in cc)
    | inr is ↦ record {
      fault = f;
      is = is;
      root = λ m named.
          let there = root_there d m fit (subst (FaultWithin Wide (file_text (file_with d))) named is) in
          let lt : m < length lines.roots = omega (arith, there, same.0) in
          (lt, root m named lt);
      dirty = λ m named.
          let there = card_there d m fit (subst (FaultWithin Wide (file_text (file_with d))) named is) in
          let lt : m < length lines.log = omega (arith, there, same.1) in
          (lt, dirty m named lt);
      slot = λ p named.
          let told = slot p named in
          let there = slot_told lines d p told.0 stands fit objects (subst (FaultWithin Wide (file_text (file_with d))) named is) told.1 in
          subst (IsSlotLine lines (heap_of (file_with d)) p) (sym told.2) there;
      region = λ r named. let told = region r named in subst (IsSetLine lines r) (sym told.2) told.1;
    }
  ],
))

-- with a line `covered` what is late for the same content with sets is late
module _ (lines now : LineNumbers) (c d : Content) (sets : List (List ℕ)) (same : now ≡ lines) (is : d ≡ record c { covered = false; remembered = sets }) (none : NoneRemembered c) (are : AreCoverOf c sets) where
  still_as_many : AreAsMany lines c → AreAsMany now d
  still_as_many many = (
    ap (λ (l : LineNumbers). length l.roots) same ∙ many.0 ∙ sym (ap (λ (x : Content). length x.roots) is),
    ap (λ (l : LineNumbers). length l.log) same ∙ many.1 ∙ sym (ap (λ (x : Content). length x.log) is),
  )

  one_beside : (w : Wrong) → IsLate lines (record c { covered = false; remembered = sets }) w → IsLateCovered lines c w
  one_beside (Line n e) late = inr (none, sets, are, late)
  one_beside (Fault f) m = m

  pub late_beside : {T : Type 0} (r : Result T Wrong) → AreAsMany lines c → StandsInHeap c → (AreAsMany now d → StandsInHeap d → IfErr r (IsLate now d)) → IfErr r (IsLateCovered lines c)
  late_beside (Ok x) many stands late = tt
  late_beside (Err w) many stands late =
      one_beside w (subst (λ l. IsLate l (record c { covered = false; remembered = sets }) w) same (subst (λ x. IsLate now x w) is (late (still_as_many many) (subst StandsInHeap (sym is) (other_sets c sets stands)))))

module _ (bytes : List ℕ) (lines : LineNumbers) (d : Content) (all : HasMeaning ImageHeading ImageLine bytes) (numbered : lines ≡ numbers_in (parts_of bytes))
    (read : (told c : Content) → HasLines bytes (lines_in bytes) → TellsAll None (lines_in bytes) (Some told) → Closes told c → d ≡ c) where
  module _ (told c : Content) (tells : TellsAll None (lines_in bytes) (Some told)) (closes : Closes told c) where
    is_told : d ≡ c
    is_told = read told c (record { utf8 = all.utf8; same = refl }) tells closes

    as_many : AreAsMany lines d
    as_many = (
      ap (λ (l : LineNumbers). length l.roots) numbered ∙ roots_counted bytes told c tells closes ∙ sym (ap (λ (x : Content). length x.roots) is_told),
      ap (λ (l : LineNumbers). length l.log) numbered ∙ log_counted bytes told c tells closes ∙ sym (ap (λ (x : Content). length x.log) is_told),
    )

    stands : StandsInHeap d
    stands = subst StandsInHeap (sym is_told) (told_stands (lines_in bytes) told c tells closes)

  reported_late : (n : ℕ) → (d.covered ≡ false → AreAsMany lines d → StandsInHeap d → IsLateLine lines d n)
      → (d.covered ≡ true → AreAsMany lines d → StandsInHeap d → IsLateCoveredLine lines d n) → IsReportedLate bytes n
  reported_late n late beside = record {
    forms = all;
    late = λ told c tells closes plain.
        let same = is_told told c tells closes in
        subst (λ x. IsLateLine x c n) numbered (subst (λ x. IsLateLine lines x n) same (late (ap (λ (x : Content). x.covered) same ∙ plain) (as_many told c tells closes) (stands told c tells closes)));
    covered = λ told c tells closes is.
        let same = is_told told c tells closes in
        subst (λ x. IsLateCoveredLine x c n) numbered (subst (λ x. IsLateCoveredLine lines x n) same (beside (ap (λ (x : Content). x.covered) same ∙ is) (as_many told c tells closes) (stands told c tells closes)));
  }

  reports_late : (w : Wrong) → IsLineOrMemory w → (d.covered ≡ false → AreAsMany lines d → StandsInHeap d → IsLate lines d w)
      → (d.covered ≡ true → AreAsMany lines d → StandsInHeap d → IsLateCovered lines d w) → Reports bytes w
  reports_late (Line n e) line late beside = inr (inr (reported_late n late beside))
  reports_late (Fault f) m late beside = m

  pub all_late : {T : Type 0} (r : Result T Wrong) → IfErr r IsLineOrMemory → (d.covered ≡ false → AreAsMany lines d → StandsInHeap d → IfErr r (IsLate lines d))
      → (d.covered ≡ true → AreAsMany lines d → StandsInHeap d → IfErr r (IsLateCovered lines d)) → IfErr r (Reports bytes)
  all_late (Ok x) line late beside = tt
  all_late (Err w) line late beside = reports_late w line late beside

-- NO LINE SAYS ANYTHING
still_taken : (lines : List (List (List ℕ))) → AreTaken ImageHeading ImageLine true lines false → ⊥
still_taken [] e = false≢true (sym e)
still_taken (line ∷ lines) t = still_taken lines t.1

none_taken : (lines : List (List (List ℕ))) → AreTaken ImageHeading ImageLine false lines false → lines ≡ []
none_taken [] t = refl
none_taken (line ∷ lines) t = absurd (still_taken lines t.1)

pub last_line_is : (bytes : List ℕ) (parts n : ℕ) → parts ≡ length (parts_of bytes) → All IsUtf8 (parts_of bytes) → AreTaken ImageHeading ImageLine false (lines_in bytes) false
    → (0 < parts → (n ≡ parts) ⊎ ((front : List ℕ) × (bytes ≡ front ++ 10 ∷ []) × (n + 1 ≡ parts))) → IsLastLine bytes n
last_line_is bytes parts n count utf8 taken last =
    let some = length-slice_split (λ b. eqb b 10) bytes in
    record { utf8 = utf8; none = none_taken (lines_in bytes) taken; last = by (last (omega (arith, count, some))) }
  where
    by : (n ≡ parts) ⊎ ((front : List ℕ) × (bytes ≡ front ++ 10 ∷ []) × (n + 1 ≡ parts)) → (n ≡ length (parts_of bytes)) ⊎ ((front : List ℕ) × (bytes ≡ front ++ 10 ∷ []) × (n + 1 ≡ length (parts_of bytes)))
    by (inl e) = inl (e ∙ count)
    by (inr e) = inr (e.0, e.1, e.2 ∙ count)

-- a text that ends with an LF
pub ended : (bytes : List ℕ) → ends_with eqb bytes (10 ∷ []) ≡ true → (front : List ℕ) × (bytes ≡ front ++ 10 ∷ [])
ended bytes e =
    let n = length bytes - 1 in
    let last : 10 ∷ [] ≡ drop n bytes = (bytes_eq-Decides (10 ∷ []) (drop n bytes)).0 e in
    (take n bytes, sym (take-append-drop n bytes) ∙ ap (λ t. take n bytes ++ t) (sym last))
