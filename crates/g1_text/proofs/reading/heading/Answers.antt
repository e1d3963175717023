use Rattle.std.proofs.Common.{◌≡◌, ◌≢◌, ℕ, List, inl, inr, [], ◌∷◌, get_or, sym, ◌∙◌, ap, arith}
use Rattle.std.specs.Prelude.{Option, None, Result, Ok, codes}
use Rattle.g1_text.specs.Short.{NamesRegion, TellsLabelled, TellsCurrent, TellsBehind}
use Rattle.g1_text.proofs.Results.{ok_one, not_both}
use Rattle.g1_text.proofs.Spelled.{front_and_rest, first_word, word_front, moved, named_told, labelled_apart}
use Rattle.g1_text.specs.Forms.{Word, Single, Labelled, Current, ◌▸◌, HasFront}
use Rattle.g1_text.proofs.Fronts.{read_then, read_all}
use Rattle.g1_text.proofs.reading.heading.Goals as goal

-- a heading's parts do not begin like those in front of them
current_apart : (word : List ℕ) (c : Option ℕ) {words : List (List ℕ)} → codes "current" ≢ word → TellsCurrent c words → (ws : List (List ℕ)) → words ≢ word ∷ ws
current_apart word c apart (inl p) ws e = apart (sym (first_word (codes "current") (Single (NamesRegion c)) p) ∙ ap (λ vs. get_or vs 0 []) e)
current_apart word c apart (inr p) ws e = let d : [] ≡ word ∷ ws = sym p.1 ∙ e in cc

-- the parts of a heading behind its sizes
record Behind (roots dirty current : Option ℕ) (words : List (List ℕ)) : Type 0 where
  middle : List (List ℕ)
  last : List (List ℕ)
  first_part : HasFront (TellsLabelled (codes "roots") roots) words middle
  second_part : HasFront (TellsLabelled (codes "dirty") dirty) middle last
  third_part : TellsCurrent current last
  no_roots : (ws : List (List ℕ)) → middle ≢ codes "roots" ∷ ws
  no_dirty : (ws : List (List ℕ)) → last ≢ codes "dirty" ∷ ws

behind : (roots dirty current : Option ℕ) {words : List (List ℕ)} → TellsBehind roots dirty current words → Behind roots dirty current words
behind roots dirty current told =
    let one = front_and_rest (TellsLabelled (codes "roots") roots) (TellsLabelled (codes "dirty") dirty ▸ TellsCurrent current) told in
    let two = front_and_rest (TellsLabelled (codes "dirty") dirty) (TellsCurrent current) one.2 in
    record {
      middle = one.0;
      last = two.0;
      first_part = one.1;
      second_part = two.1;
      third_part = two.2;
      no_roots =
          labelled_apart (codes "roots") (codes "dirty") dirty (λ e. let d : 100 ≡ 114 = ap (λ w. get_or w 0 0) e in absurd (omega (arith, d)))
          (current_apart (codes "roots") current (λ e. let d : 99 ≡ 114 = ap (λ w. get_or w 0 0) e in absurd (omega (arith, d))) two.2) two.1;
      no_dirty = current_apart (codes "dirty") current (λ e. let d : 99 ≡ 100 = ap (λ w. get_or w 0 0) e in absurd (omega (arith, d))) two.2;
    }

current_told : {E : Type 0} (current : Option ℕ) (words last new : List (List ℕ)) (r : Result (Option ℕ) E)
    → ((c : Option ℕ) (word : List ℕ) → NamesRegion c word → words ≡ codes "current" ∷ word ∷ [] → (r ≡ Ok c) × (new ≡ []))
    → (words ≡ [] → (r ≡ Ok None) × (new ≡ [])) → words ≡ last → TellsCurrent current last → (r ≡ Ok current) × (new ≡ [])
current_told current words last new r full absent e (inl p) =
    let parts = front_and_rest (Word (codes "current")) (Single (NamesRegion current)) p in
    full current parts.2.0 parts.2.2 (e ∙ word_front (codes "current") parts.1 ∙ ap (λ ws. codes "current" ∷ ws) parts.2.1)
current_told current words last new r full absent e (inr p) = let read = absent (e ∙ p.1) in (read.0 ∙ ap Ok (sym p.0), read.1)

pub returns-in_err-roots-clause-short : goal.returns-in_err-roots-clause-short
returns-in_err-roots-clause-short c = λ roots dirty current told.
    let b = behind roots dirty current told in
    let first = named_told (codes "roots") roots c.args.words c.take_named.new.self b.middle c.take_named.result c.take_named.ensures.full c.take_named.ensures.absent b.no_roots b.first_part in
    absurd (not_both c.in_err-roots.was first.0)

pub returns-in_err-dirty-clause-short : goal.returns-in_err-dirty-clause-short
returns-in_err-dirty-clause-short c = λ roots dirty current told.
    let b = behind roots dirty current told in
    let first = named_told (codes "roots") roots c.args.words c.take_named.new.self b.middle c.take_named.result c.take_named.ensures.full c.take_named.ensures.absent b.no_roots b.first_part in
    let second = named_told (codes "dirty") dirty c.take_named.new.self c.take_named-2.new.self b.last c.take_named-2.result c.take_named-2.ensures.full c.take_named-2.ensures.absent b.no_dirty (moved first.1 b.second_part) in
    absurd (not_both c.in_err-dirty.was second.0)

pub returns-in_err-current-clause-short : goal.returns-in_err-current-clause-short
returns-in_err-current-clause-short c = λ roots dirty current told.
    let b = behind roots dirty current told in
    let first = named_told (codes "roots") roots c.args.words c.take_named.new.self b.middle c.take_named.result c.take_named.ensures.full c.take_named.ensures.absent b.no_roots b.first_part in
    let second = named_told (codes "dirty") dirty c.take_named.new.self c.take_named-2.new.self b.last c.take_named-2.result c.take_named-2.ensures.full c.take_named-2.ensures.absent b.no_dirty (moved first.1 b.second_part) in
    let third = current_told current c.take_named-2.new.self b.last c.current.new.words c.current.result c.current.ensures.full c.current.ensures.absent second.1 b.third_part in
    absurd (not_both c.in_err-current.was third.0)

pub returns-in_err-end-clause-short : goal.returns-in_err-end-clause-short
returns-in_err-end-clause-short c = λ roots dirty current told.
    let b = behind roots dirty current told in
    let first = named_told (codes "roots") roots c.args.words c.take_named.new.self b.middle c.take_named.result c.take_named.ensures.full c.take_named.ensures.absent b.no_roots b.first_part in
    let second = named_told (codes "dirty") dirty c.take_named.new.self c.take_named-2.new.self b.last c.take_named-2.result c.take_named-2.ensures.full c.take_named-2.ensures.absent b.no_dirty (moved first.1 b.second_part) in
    let third = current_told current c.take_named-2.new.self b.last c.current.new.words c.current.result c.current.ensures.full c.current.ensures.absent second.1 b.third_part in
    absurd (c.in_err-end.ensures.none third.1)

pub returns-clause-short : goal.returns-clause-short
returns-clause-short c = λ roots dirty current told.
    let b = behind roots dirty current told in
    let first = named_told (codes "roots") roots c.args.words c.take_named.new.self b.middle c.take_named.result c.take_named.ensures.full c.take_named.ensures.absent b.no_roots b.first_part in
    let second = named_told (codes "dirty") dirty c.take_named.new.self c.take_named-2.new.self b.last c.take_named-2.result c.take_named-2.ensures.full c.take_named-2.ensures.absent b.no_dirty (moved first.1 b.second_part) in
    let third = current_told current c.take_named-2.new.self b.last c.current.new.words c.current.result c.current.ensures.full c.current.ensures.absent second.1 b.third_part in
    let a = ok_one c.in_ok-roots.was first.0 in
    let d = ok_one c.in_ok-dirty.was second.0 in
    let e = ok_one c.in_ok-current.was third.0 in
    λ t. Ok (record { line = c.args.line; roots = a t; dirty = d t }, e t)

pub returns-clause-form : goal.returns-clause-form
returns-clause-form c =
    read_all (Labelled (codes "roots") ▸ Labelled (codes "dirty") ▸ Current)
    (read_then (Labelled (codes "roots")) (Labelled (codes "dirty") ▸ Current) c.in_ok-roots.ensures.form
    (read_then (Labelled (codes "dirty")) Current c.in_ok-dirty.ensures.form c.in_ok-current.ensures.form))
    c.in_ok-end.ensures.none
