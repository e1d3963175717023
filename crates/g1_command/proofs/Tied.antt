-- How the values of `--set` are tied to it.
use Rattle.std.proofs.Common.{◌≡◌, ◌≢◌, ◌∙◌, ◌<◌, ◌≤◌, ◌+◌, ◌++◌, ◌&&◌, ℕ, List, [], ◌∷◌, length, get_or, drop, map, Bool, true, false, refl, sym, ap, subst, codes}
use Rattle.std.specs.Prelude.{IfOk, OnOk, Result, Ok, Err}
use Rattle.std.specs.List.{All}
use Rattle.std.proofs.lemmas.List.{append-nil, append_assoc, drop_all, drop_more}
use Rattle.std.proofs.lemmas.List.Elements.{All-nil, All-cons}
use Rattle.clap.specs.Words.{Text}
use Rattle.g1_command.specs.declared.lists.Follows.{Follows}
use Rattle.g1_command.specs.declared.lists.Follows.TheVariants.{Word, Region, File}
use Rattle.g1_command.specs.Tied.{AddsTied, AreTied, GoOn, TiesWord, first_word, is_list, set, tied_to_set}
use Rattle.g1_command.specs.Tied.AreTied.{none, values, other, files}

-- no words are left
pub at_end : (follows : Follows) → GoOn follows [] []
at_end Word = none
at_end File = refl
at_end Region = ([], [], [], refl, refl, All-nil _, refl, none)

-- words that go on behind a value of `--set` as others do
plain : (words tied : List Text) → is_list (first_word words) ≡ false → AreTied words tied → GoOn Region words tied
plain words tied isnt t = ([], words, tied, refl, refl, All-nil _, isnt, t)

-- a word that is no value of `--set`, behind such a value
pub behind_values : (word next : Text) (then : Follows) (added : List Text) → is_list word ≡ false → TiesWord Word word next then added → TiesWord Region word next then added
behind_values word next then added isnt h words tied is goes = plain (word ∷ words) (added ++ tied) isnt (h words tied is goes)

pub other_word : (word next : Text) → word ≢ codes "--" → (word ≡ set → is_list next ≡ false) → TiesWord Word word next Word (word ∷ [])
other_word word next isnt alone words tied is goes = other isnt (λ e. ap is_list is ∙ alone e) goes

-- `--`, and the words behind it
pub dashes : (word next : Text) → word ≡ codes "--" → TiesWord Word word next File (word ∷ [])
dashes word next e words tied is goes = subst (λ w. AreTied (w ∷ words) (w ∷ tied)) (sym e) (subst (λ t. AreTied (codes "--" ∷ words) (codes "--" ∷ t)) (sym goes) files)

pub file : (word next : Text) → TiesWord File word next File (word ∷ [])
file word next words tied is goes = ap (λ t. word ∷ t) goes

-- a value
pub value : (word next : Text) → is_list word ≡ true → TiesWord Region word next Region (tied_to_set word ∷ [])
value word next is_value words tied is goes =
    let (lists, others, rest, split, joined, all, isnt, t) = goes in
    (word ∷ lists, others, rest, ap (λ ws. word ∷ ws) split, ap (λ ts. tied_to_set word ∷ ts) joined, All-cons (λ w. is_list w ≡ true) word lists is_value all, isnt, t)

-- the option, with a value behind it
option_here : (words tied : List Text) → is_list (first_word words) ≡ true → GoOn Region words tied → AreTied (set ∷ words) tied
option_here words tied is (lists, others, rest, split, joined, all, isnt, t) = go lists split joined all
  where
    go : (lists : List Text) → words ≡ lists ++ others → tied ≡ map tied_to_set lists ++ rest → All (λ word. is_list word ≡ true) lists → AreTied (set ∷ words) tied
    go [] split joined all = absurd (true≢false (sym is ∙ ap (λ ws. is_list (first_word ws)) split ∙ isnt))
      where
        true≢false : true ≡ false → ⊥
        true≢false e = cc
    go (first ∷ lists) split joined all =
        subst (λ ws. AreTied (set ∷ ws) tied) (sym split) (subst (AreTied (set ∷ first ∷ lists ++ others)) (sym joined) (values first lists others rest all isnt t))

pub option : (word next : Text) → word ≡ set → is_list next ≡ true → TiesWord Word word next Region []
option word next e list words tied is goes = subst (λ w. AreTied (w ∷ words) tied) (sym e) (option_here words tied (ap is_list is ∙ list) goes)

-- a word that was kept, or one behind values
pub kept : {E : Type 0} (follows then : Follows) (word next : Text) (old new : List Text) (r : Result Follows E) → IfOk r (λ f. f ≡ then) → OnOk r (new ≡ old ++ word ∷ [])
    → TiesWord follows word next then (word ∷ []) → IfOk r (λ f. AddsTied follows word next f old new)
kept follows then word next old new (Ok f) is added ties = (word ∷ [], added, subst (λ f. TiesWord follows word next f (word ∷ [])) (sym is) ties)
kept follows then word next old new (Err e) is added ties = tt

pub adds_behind : {E : Type 0} (word next : Text) (old new : List Text) (r : Result Follows E) → is_list word ≡ false → IfOk r (λ f. AddsTied Word word next f old new)
    → IfOk r (λ f. AddsTied Region word next f old new)
adds_behind word next old new (Ok f) isnt (added, is, ties) = (added, is, behind_values word next f added isnt ties)
adds_behind word next old new (Err e) isnt h = tt

pub not_both : (b d : Bool) → (b && d) ≡ false → b ≡ true → d ≡ false
not_both true d h e = h
not_both false d h e = absurd (false≢true e)
  where
    false≢true : false ≡ true → ⊥
    false≢true e = cc

-- what was tied so far, and what the words that are left become
abbrev pub SoFar : List Text → List Text → Follows → List Text → Type 0
SoFar words tied follows left = (rest : List Text) → GoOn follows left rest → AreTied words (tied ++ rest)

pub one_more : (words tied new : List Text) (follows then : Follows) (i : ℕ) (word next : Text) → i < length words → word ≡ get_or words i [] → next ≡ first_word (drop (i + 1) words)
    → AddsTied follows word next then tied new → SoFar words tied follows (drop i words) → SoFar words new then (drop (i + 1) words)
one_more words tied new follows then i word next lt is comes (added, pushed, ties) so_far rest goes =
    let here : drop i words ≡ word ∷ drop (i + 1) words = drop_more words i [] lt ∙ ap (λ w. w ∷ drop (i + 1) words) (sym is) in
    subst (AreTied words) (sym (ap (λ ts. ts ++ rest) pushed ∙ append_assoc tied added rest)) (so_far (added ++ rest) (subst (λ left. GoOn follows left (added ++ rest)) (sym here) (ties (drop (i + 1) words) rest (sym comes) goes)))

pub all_tied : (words tied : List Text) (follows : Follows) (i : ℕ) → length words ≤ i → SoFar words tied follows (drop i words) → AreTied words tied
all_tied words tied follows i le so_far = subst (AreTied words) (append-nil tied) (so_far [] (subst (λ left. GoOn follows left []) (sym (drop_all i words le)) (at_end follows)))
