use Rattle.std.proofs.Common.{◌≡◌, ◌^◌, inl, inr, ℕ, Bool, true, List, [], ◌∷◌, length, drop, get_or, sym, ◌∙◌, ap, subst, arith}
use Rattle.std.specs.Prelude.{Option, Result, Ok, codes}
use Rattle.g1_text.specs.declared.expected.Refusal.{Refusal}
use Rattle.g1_words.specs.declared.region.Kind.{Kind}
use Rattle.g1_text.specs.Content.{Content, Dirty, Remembered, Takes, size_with}
use Rattle.g1_text.specs.Short.{Short, RootAs, DirtyAs, Covered, RegionAs, RememberedAs, ObjectAs, IsShortLine, TellsNumber, TellsCounts, TellsPinned, TellsCards, TellsContent, Gives}
use Rattle.g1_text.specs.Drafts.{content, Becomes}
use Rattle.std.proofs.lemmas.Result.{on_ok_weaker}
use Rattle.g1_text.specs.Forms.{Spells, Denotes, HasSize, Word, Single, ◌▸◌, RootLine, DirtyLine, CoveredLine, RegionLine, RememberedLine, ObjectLine}
use Rattle.g1_text.specs.Drafts.{numbers, with_line}
use Rattle.g1_words.specs.Kind.{kind_word}
use Rattle.g1_text.proofs.Spelled.{first_word}
use Rattle.g1_text.proofs.Numbered.{root_line, region_line, object_line, no_line, dirty_line, remembered_line}
use Rattle.g1_text.proofs.draft.Draft.add.Goals as goal

-- the word that a short line begins with
abbrev line_word : Short → List ℕ
line_word (RootAs m x) = codes "root"
line_word (DirtyAs cards) = codes "dirty"
line_word Covered = codes "covered"
line_word (RegionAs r k t o m p) = codes "region"
line_word (RememberedAs r cards) = codes "remembered"
line_word (ObjectAs at slots values given) = codes "object"

line_begins : (l : Short) (words : List (List ℕ)) → IsShortLine l words → get_or words 0 [] ≡ line_word l
line_begins (RootAs m x) words h = first_word (codes "root") (TellsNumber m ▸ Single (Denotes x)) h
line_begins (DirtyAs cards) words h = first_word (codes "dirty") (TellsCards cards) h
line_begins Covered words h = ap (λ ws. get_or ws 0 []) h
line_begins (RegionAs r k t o m p) words h = first_word (codes "region") (TellsNumber r ▸ Word (kind_word k) ▸ TellsCounts t o m ▸ TellsPinned p) h
line_begins (RememberedAs r cards) words h = first_word (codes "remembered") (Single (Spells (2 ^ 64) r) ▸ TellsCards cards) h
line_begins (ObjectAs at slots values given) words h = first_word (codes "object") (TellsNumber at ▸ Single (HasSize (size_with slots values) (length slots)) ▸ TellsContent slots values given) h

-- the third byte of a line's first word, which tells the words apart
third : (l : Short) (first : List ℕ) (words : List (List ℕ)) → IsShortLine l (first ∷ words) → get_or first 2 0 ≡ get_or (line_word l) 2 0
third l first words h = ap (λ w. get_or w 2 0) (line_begins l (first ∷ words) h)

module _ (s : Content) (words : List (List ℕ)) (X : Content → Type 0) where
  in_root : ((m : Option ℕ) (x : ℕ) (c : Content) → IsShortLine (RootAs m x) (codes "root" ∷ words) → Gives s (RootAs m x) c → X c)
      → (l : Short) (c : Content) → IsShortLine l (codes "root" ∷ words) → Gives s l c → X c
  in_root f (RootAs m x) c h gives = f m x c h gives
  in_root f (DirtyAs cards) c h gives = let d : 111 ≡ 114 = third (DirtyAs cards) (codes "root") words h in absurd (omega (arith, d))
  in_root f Covered c h gives = let d : 111 ≡ 118 = third Covered (codes "root") words h in absurd (omega (arith, d))
  in_root f (RegionAs r k t o m p) c h gives = let d : 111 ≡ 103 = third (RegionAs r k t o m p) (codes "root") words h in absurd (omega (arith, d))
  in_root f (RememberedAs r cards) c h gives = let d : 111 ≡ 109 = third (RememberedAs r cards) (codes "root") words h in absurd (omega (arith, d))
  in_root f (ObjectAs at slots values given) c h gives = let d : 111 ≡ 106 = third (ObjectAs at slots values given) (codes "root") words h in absurd (omega (arith, d))

  in_dirty : ((cards : List ℕ) (c : Content) → IsShortLine (DirtyAs cards) (codes "dirty" ∷ words) → Takes s (Dirty cards) c → X c)
      → (l : Short) (c : Content) → IsShortLine l (codes "dirty" ∷ words) → Gives s l c → X c
  in_dirty f (RootAs m x) c h gives = let d : 114 ≡ 111 = third (RootAs m x) (codes "dirty") words h in absurd (omega (arith, d))
  in_dirty f (DirtyAs cards) c h gives = f cards c h gives
  in_dirty f Covered c h gives = let d : 114 ≡ 118 = third Covered (codes "dirty") words h in absurd (omega (arith, d))
  in_dirty f (RegionAs r k t o m p) c h gives = let d : 114 ≡ 103 = third (RegionAs r k t o m p) (codes "dirty") words h in absurd (omega (arith, d))
  in_dirty f (RememberedAs r cards) c h gives = let d : 114 ≡ 109 = third (RememberedAs r cards) (codes "dirty") words h in absurd (omega (arith, d))
  in_dirty f (ObjectAs at slots values given) c h gives = let d : 114 ≡ 106 = third (ObjectAs at slots values given) (codes "dirty") words h in absurd (omega (arith, d))

  in_covered : (words ≡ [] → X (record s { covered = true }))
      → (l : Short) (c : Content) → IsShortLine l (codes "covered" ∷ words) → Gives s l c → X c
  in_covered f (RootAs m x) c h gives = let d : 118 ≡ 111 = third (RootAs m x) (codes "covered") words h in absurd (omega (arith, d))
  in_covered f (DirtyAs cards) c h gives = let d : 118 ≡ 114 = third (DirtyAs cards) (codes "covered") words h in absurd (omega (arith, d))
  in_covered f Covered c h is = subst X (sym is) (f (ap (drop 1) h))
  in_covered f (RegionAs r k t o m p) c h gives = let d : 118 ≡ 103 = third (RegionAs r k t o m p) (codes "covered") words h in absurd (omega (arith, d))
  in_covered f (RememberedAs r cards) c h gives = let d : 118 ≡ 109 = third (RememberedAs r cards) (codes "covered") words h in absurd (omega (arith, d))
  in_covered f (ObjectAs at slots values given) c h gives = let d : 118 ≡ 106 = third (ObjectAs at slots values given) (codes "covered") words h in absurd (omega (arith, d))

  in_region : ((r : Option ℕ) (k : Kind) (t o m : Option ℕ) (p : Bool) (c : Content) → IsShortLine (RegionAs r k t o m p) (codes "region" ∷ words) → Gives s (RegionAs r k t o m p) c → X c)
      → (l : Short) (c : Content) → IsShortLine l (codes "region" ∷ words) → Gives s l c → X c
  in_region f (RootAs m x) c h gives = let d : 103 ≡ 111 = third (RootAs m x) (codes "region") words h in absurd (omega (arith, d))
  in_region f (DirtyAs cards) c h gives = let d : 103 ≡ 114 = third (DirtyAs cards) (codes "region") words h in absurd (omega (arith, d))
  in_region f Covered c h gives = let d : 103 ≡ 118 = third Covered (codes "region") words h in absurd (omega (arith, d))
  in_region f (RegionAs r k t o m p) c h gives = f r k t o m p c h gives
  in_region f (RememberedAs r cards) c h gives = let d : 103 ≡ 109 = third (RememberedAs r cards) (codes "region") words h in absurd (omega (arith, d))
  in_region f (ObjectAs at slots values given) c h gives = let d : 103 ≡ 106 = third (ObjectAs at slots values given) (codes "region") words h in absurd (omega (arith, d))

  in_remembered : ((r : ℕ) (cards : List ℕ) (c : Content) → IsShortLine (RememberedAs r cards) (codes "remembered" ∷ words) → Takes s (Remembered r cards) c → X c)
      → (l : Short) (c : Content) → IsShortLine l (codes "remembered" ∷ words) → Gives s l c → X c
  in_remembered f (RootAs m x) c h gives = let d : 109 ≡ 111 = third (RootAs m x) (codes "remembered") words h in absurd (omega (arith, d))
  in_remembered f (DirtyAs cards) c h gives = let d : 109 ≡ 114 = third (DirtyAs cards) (codes "remembered") words h in absurd (omega (arith, d))
  in_remembered f Covered c h gives = let d : 109 ≡ 118 = third Covered (codes "remembered") words h in absurd (omega (arith, d))
  in_remembered f (RegionAs r k t o m p) c h gives = let d : 109 ≡ 103 = third (RegionAs r k t o m p) (codes "remembered") words h in absurd (omega (arith, d))
  in_remembered f (RememberedAs r cards) c h gives = f r cards c h gives
  in_remembered f (ObjectAs at slots values given) c h gives = let d : 109 ≡ 106 = third (ObjectAs at slots values given) (codes "remembered") words h in absurd (omega (arith, d))

  in_object : ((at : Option ℕ) (slots values : List ℕ) (given : Option ℕ) (c : Content) → IsShortLine (ObjectAs at slots values given) (codes "object" ∷ words) → Gives s (ObjectAs at slots values given) c → X c)
      → (l : Short) (c : Content) → IsShortLine l (codes "object" ∷ words) → Gives s l c → X c
  in_object f (RootAs m x) c h gives = let d : 106 ≡ 111 = third (RootAs m x) (codes "object") words h in absurd (omega (arith, d))
  in_object f (DirtyAs cards) c h gives = let d : 106 ≡ 114 = third (DirtyAs cards) (codes "object") words h in absurd (omega (arith, d))
  in_object f Covered c h gives = let d : 106 ≡ 118 = third Covered (codes "object") words h in absurd (omega (arith, d))
  in_object f (RegionAs r k t o m p) c h gives = let d : 106 ≡ 103 = third (RegionAs r k t o m p) (codes "object") words h in absurd (omega (arith, d))
  in_object f (RememberedAs r cards) c h gives = let d : 106 ≡ 109 = third (RememberedAs r cards) (codes "object") words h in absurd (omega (arith, d))
  in_object f (ObjectAs at slots values given) c h gives = f at slots values given c h gives

none_of : (first : List ℕ) (words : List (List ℕ)) → (first ≡ codes "root" → ⊥) → (first ≡ codes "dirty" → ⊥) → (first ≡ codes "covered" → ⊥) → (first ≡ codes "region" → ⊥)
    → (first ≡ codes "remembered" → ⊥) → (first ≡ codes "object" → ⊥) → (l : Short) → IsShortLine l (first ∷ words) → ⊥
none_of first words root dirty covered region remembered object (RootAs m x) h = root (line_begins (RootAs m x) (first ∷ words) h)
none_of first words root dirty covered region remembered object (DirtyAs cards) h = dirty (line_begins (DirtyAs cards) (first ∷ words) h)
none_of first words root dirty covered region remembered object Covered h = covered (line_begins Covered (first ∷ words) h)
none_of first words root dirty covered region remembered object (RegionAs r k t o m p) h = region (line_begins (RegionAs r k t o m p) (first ∷ words) h)
none_of first words root dirty covered region remembered object (RememberedAs r cards) h = remembered (line_begins (RememberedAs r cards) (first ∷ words) h)
none_of first words root dirty covered region remembered object (ObjectAs at slots values given) h = object (line_begins (ObjectAs at slots values given) (first ∷ words) h)

-- an Ok with this content
becomes : {after c : Content} (r : Result (Unit {0}) Refusal) → r ≡ Ok tt → after ≡ c → Becomes r after c
becomes {after} {c} r is e = subst (λ x. Becomes x after c) (sym is) e

pub returns-in-root-clause-says : goal.returns-in-root-clause-says
returns-in-root-clause-says c = λ l after e gives.
    in_root (content c.args.self.now) c.args.words (λ d. Becomes c.add_root.result (content c.add_root.new.self) d) c.add_root.ensures.short l after (subst (λ word. IsShortLine l (word ∷ c.args.words)) c.in-root.is e) gives

pub returns-in-dirty-clause-says : goal.returns-in-dirty-clause-says
returns-in-dirty-clause-says c = λ l after e gives.
    in_dirty (content c.args.self.now) c.args.words (λ d. Becomes c.add_dirty.result (content c.add_dirty.new.self) d) c.add_dirty.ensures.short l after (subst (λ word. IsShortLine l (word ∷ c.args.words)) c.in-dirty.is e) gives

pub returns-in-covered-clause-says : goal.returns-in-covered-clause-says
returns-in-covered-clause-says c = λ l after e gives.
    in_covered (content c.args.self.now) c.args.words (λ d. Becomes c.cover.result (content c.cover.new.self) d) (λ none. let read = c.cover.ensures.said none in becomes c.cover.result read.0 read.1) l after (subst (λ word. IsShortLine l (word ∷ c.args.words)) c.in-covered.is e) gives

pub returns-in-region-clause-says : goal.returns-in-region-clause-says
returns-in-region-clause-says c = λ l after e gives.
    in_region (content c.args.self.now) c.args.words (λ d. Becomes c.add_region.result (content c.add_region.new.self) d) c.add_region.ensures.short l after (subst (λ word. IsShortLine l (word ∷ c.args.words)) c.in-region.is e) gives

pub returns-in-remembered-clause-says : goal.returns-in-remembered-clause-says
returns-in-remembered-clause-says c = λ l after e gives.
    in_remembered (content c.args.self.now) c.args.words (λ d. Becomes c.add_remembered.result (content c.add_remembered.new.self) d) c.add_remembered.ensures.short l after (subst (λ word. IsShortLine l (word ∷ c.args.words)) c.in-remembered.is e) gives

pub returns-in-object-clause-says : goal.returns-in-object-clause-says
returns-in-object-clause-says c = λ l after e gives.
    in_object (content c.args.self.now) c.args.words (λ d. Becomes c.add_object.result (content c.add_object.new.self) d) c.add_object.ensures.short l after (subst (λ word. IsShortLine l (word ∷ c.args.words)) c.in-object.is e) gives

pub returns-in_default-clause-says : goal.returns-in_default-clause-says
returns-in_default-clause-says c = λ l after e gives.
    let other = c.in_default in
    absurd (none_of c.args.first.now c.args.words other.not-root other.not-dirty other.not-covered other.not-region other.not-remembered other.not-object l e)

pub returns-in-root-clause-form : goal.returns-in-root-clause-form
returns-in-root-clause-form c = on_ok_weaker c.add_root.result (λ f. inl (subst (λ word. RootLine (word ∷ c.args.words)) (sym c.in-root.is) f)) c.add_root.ensures.form

pub returns-in-dirty-clause-form : goal.returns-in-dirty-clause-form
returns-in-dirty-clause-form c = on_ok_weaker c.add_dirty.result (λ f. inr (inl (subst (λ word. DirtyLine (word ∷ c.args.words)) (sym c.in-dirty.is) f))) c.add_dirty.ensures.form

pub returns-in-covered-clause-form : goal.returns-in-covered-clause-form
returns-in-covered-clause-form c = on_ok_weaker c.cover.result (λ f. inr (inr (inl (subst (λ word. CoveredLine (word ∷ c.args.words)) (sym c.in-covered.is) f)))) c.cover.ensures.form

pub returns-in-region-clause-form : goal.returns-in-region-clause-form
returns-in-region-clause-form c = on_ok_weaker c.add_region.result (λ f. inr (inr (inr (inl (subst (λ word. RegionLine (word ∷ c.args.words)) (sym c.in-region.is) f))))) c.add_region.ensures.form

pub returns-in-remembered-clause-form : goal.returns-in-remembered-clause-form
returns-in-remembered-clause-form c = on_ok_weaker c.add_remembered.result (λ f. inr (inr (inr (inr (inl (subst (λ word. RememberedLine (word ∷ c.args.words)) (sym c.in-remembered.is) f)))))) c.add_remembered.ensures.form

pub returns-in-object-clause-form : goal.returns-in-object-clause-form
returns-in-object-clause-form c = on_ok_weaker c.add_object.result (λ f. inr (inr (inr (inr (inr (subst (λ word. ObjectLine (word ∷ c.args.words)) (sym c.in-object.is) f)))))) c.add_object.ensures.form

pub returns-in-root-clause-lines : goal.returns-in-root-clause-lines
returns-in-root-clause-lines c = on_ok_weaker c.add_root.result (λ e. e ∙ sym (root_line (numbers c.args.self.now) c.args.line c.args.words) ∙ (λ i. with_line (numbers c.args.self.now) c.args.line (sym c.in-root.is i ∷ c.args.words))) c.add_root.ensures.lines

pub returns-in-dirty-clause-lines : goal.returns-in-dirty-clause-lines
returns-in-dirty-clause-lines c = on_ok_weaker c.add_dirty.result (λ e. e ∙ sym (dirty_line (numbers c.args.self.now) c.args.line c.args.words) ∙ (λ i. with_line (numbers c.args.self.now) c.args.line (sym c.in-dirty.is i ∷ c.args.words))) c.add_dirty.ensures.lines

pub returns-in-covered-clause-lines : goal.returns-in-covered-clause-lines
returns-in-covered-clause-lines c = on_ok_weaker c.cover.result (λ e. e ∙ sym (no_line (numbers c.args.self.now) c.args.line c.args.words) ∙ (λ i. with_line (numbers c.args.self.now) c.args.line (sym c.in-covered.is i ∷ c.args.words))) c.cover.ensures.lines

pub returns-in-region-clause-lines : goal.returns-in-region-clause-lines
returns-in-region-clause-lines c = on_ok_weaker c.add_region.result (λ e. e ∙ sym (region_line (numbers c.args.self.now) c.args.line c.args.words) ∙ (λ i. with_line (numbers c.args.self.now) c.args.line (sym c.in-region.is i ∷ c.args.words))) c.add_region.ensures.lines

pub returns-in-remembered-clause-lines : goal.returns-in-remembered-clause-lines
returns-in-remembered-clause-lines c = on_ok_weaker c.add_remembered.result (λ e. e ∙ sym (remembered_line (numbers c.args.self.now) c.args.line c.args.words) ∙ (λ i. with_line (numbers c.args.self.now) c.args.line (sym c.in-remembered.is i ∷ c.args.words))) c.add_remembered.ensures.lines

pub returns-in-object-clause-lines : goal.returns-in-object-clause-lines
returns-in-object-clause-lines c = on_ok_weaker c.add_object.result (λ e. e ∙ sym (object_line (numbers c.args.self.now) c.args.line c.args.words) ∙ (λ i. with_line (numbers c.args.self.now) c.args.line (sym c.in-object.is i ∷ c.args.words))) c.add_object.ensures.lines
