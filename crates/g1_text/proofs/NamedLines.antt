-- Lines of objects by name that are read one after the other.
use Rattle.std.proofs.Common.{◌≡◌, ◌≢◌, inl, inr, Bool, true, false, cond, ℕ, ◌+◌, ◌<◌, List, [], ◌∷◌, ◌++◌, length, length-append, map, filter, append-nil, append_assoc, All, IsUtf8, refl, sym, ◌∙◌, ap, subst, arith}
use Rattle.std.specs.Prelude.{Option, Some, None, Result, Ok, Err, OnOk, not, ◌==◌}
use Rattle.std.proofs.lemmas.Bool.{false≢true}
use Rattle.std.proofs.lemmas.List.{map-append}
use Rattle.std.proofs.lemmas.List.Elements.{filter-append}
use Rattle.g1_words.specs.Geometry.{Geometry}
use Rattle.g1_text.specs.declared.named.Lines.{Lines}
use Rattle.g1_text.specs.Reading.{words_in, says_something, parts_of, lines_in}
use Rattle.g1_text.specs.Graphs.{NamedGraph, SaysSizes, SaysNamed, SayNamed, SaysGraph, AddsRoot, AddsObject, FitsHeap, empty_graph}
use Rattle.g1_text.specs.ByName.{HasRead, IsRead}
use Rattle.g1_text.specs.Overfull.{FitsSoFar}
use Rattle.g1_text.proofs.Turns.{lines_of}
use Rattle.g1_text.proofs.OneGraph.{lines_one}

-- what a line says, as it is kept
abbrev pub Kept : Option NamedGraph → List (List ℕ) → Lines → Type 0
Kept g words new = (h : NamedGraph) × SaysNamed g words h × IsRead new (Some h)

module _ {E : Type 0} (old new : Lines) (words : List (List ℕ)) where
  -- the heading
  pub heading_said : (r : Result (Unit {0}) E) (number : ℕ) (g : Option NamedGraph) → old.heading ≡ 0 → 0 < number → OnOk r (new.heading ≡ number)
      → (HasRead old (empty_graph None) → OnOk r ((sizes : Option Geometry) × SaysSizes sizes words × HasRead new (empty_graph sizes))) → IsRead old g → OnOk r (Kept g words new)
  heading_said (Ok x) number None first some now says read =
      let s = says read.1 in
      (empty_graph s.0, (s.0, s.1, refl), ((λ e. absurd (omega (arith, e, now, some))), s.2))
  heading_said (Ok x) number (Some g) first some now says read = absurd (read.0 first)
  heading_said (Err e) number g first some now says read = tt

  -- a root
  pub root_said : (r : Result (Unit {0}) E) (g : Option NamedGraph) → old.heading ≢ 0 → OnOk r (new.heading ≡ old.heading)
      → ((g : NamedGraph) → HasRead old g → OnOk r ((h : NamedGraph) × AddsRoot g words h × HasRead new h)) → IsRead old g → OnOk r (Kept g words new)
  root_said (Ok x) None begun same says read = absurd (begun read.0)
  root_said (Ok x) (Some g) begun same says read = let s = says g read.1 in (s.0, inl s.1, ((λ e. begun (sym same ∙ e)), s.2))
  root_said (Err e) g begun same says read = tt

  -- an object
  pub object_said : (r : Result (Unit {0}) E) (g : Option NamedGraph) → old.heading ≢ 0 → OnOk r (new.heading ≡ old.heading)
      → ((g : NamedGraph) → HasRead old g → OnOk r ((h : NamedGraph) × AddsObject g words h × HasRead new h)) → IsRead old g → OnOk r (Kept g words new)
  object_said (Ok x) None begun same says read = absurd (begun read.0)
  object_said (Ok x) (Some g) begun same says read = let s = says g read.1 in (s.0, inr s.1, ((λ e. begun (sym same ∙ e)), s.2))
  object_said (Err e) g begun same says read = tt

-- the lines of parts and of one more
one_line : (above : List (List ℕ)) (line : List ℕ) (b : Bool) → says_something (words_in line) ≡ b → lines_of (above ++ line ∷ []) ≡ lines_of above ++ cond b (words_in line ∷ []) []
one_line above line b e =
    ap (filter says_something) (map-append words_in above (line ∷ [])) ∙ filter-append says_something (map words_in above) (map words_in (line ∷ []))
    ∙ ap (λ x. lines_of above ++ cond x (words_in line ∷ []) []) e

-- what lines say, and one more
said_more : (before now : Option NamedGraph) (h : NamedGraph) (lines : List (List (List ℕ))) (line : List (List ℕ)) → SayNamed before lines now → SaysNamed now line h → SayNamed before (lines ++ line ∷ []) (Some h)
said_more before now h [] line e s = (h, subst (λ b. SaysNamed b line h) (sym e) s, refl)
said_more before now h (l ∷ lines) line t s = (t.0, t.1, said_more (Some t.0) now h lines line t.2 s)

pub one_said : (above : List (List ℕ)) (line : List ℕ) (now : Option NamedGraph) (h : NamedGraph) → says_something (words_in line) ≡ true → SayNamed None (lines_of above) now → SaysNamed now (words_in line) h
    → SayNamed None (lines_of (above ++ line ∷ [])) (Some h)
one_said above line now h e says next = subst (λ ls. SayNamed None ls (Some h)) (sym (one_line above line true e)) (said_more None now h (lines_of above) (words_in line) says next)

pub none_said : (above : List (List ℕ)) (line : List ℕ) (now : Option NamedGraph) → says_something (words_in line) ≡ false → SayNamed None (lines_of above) now → SayNamed None (lines_of (above ++ line ∷ [])) now
none_said above line now e says = subst (λ ls. SayNamed None ls now) (sym (one_line above line false e ∙ append-nil (lines_of above))) says

-- so many parts were read, and these are left: what the parts above say fits, and it is kept
pub record IsNamedUpTo (parts left : List (List ℕ)) (number : ℕ) (l : Lines) : Type 0 where
  pub above : List (List ℕ)
  pub whole : parts ≡ above ++ left
  pub counted : number ≡ length above
  pub now : Option NamedGraph
  pub says : SayNamed None (lines_of above) now
  pub read : IsRead l now
  pub fits : FitsSoFar now

pub none_read : (parts : List (List ℕ)) (l : Lines) → IsRead l None → IsNamedUpTo parts parts 0 l
none_read parts l read = record { above = []; whole = refl; counted = refl; now = None; says = refl; read = read; fits = tt }

-- ONE LINE MORE
module _ (parts left rest : List (List ℕ)) (line : List ℕ) (is : left ≡ line ∷ rest) (number : ℕ) (old new : Lines) (so_far : IsNamedUpTo parts left number old)
    (says : (g : Option NamedGraph) → says_something (words_in line) ≡ true → IsRead old g → Kept g (words_in line) new)
    (kept : (g : Option NamedGraph) → says_something (words_in line) ≡ false → IsRead old g → IsRead new g) where
  with_line : (b : Bool) → says_something (words_in line) ≡ b → (now : Option NamedGraph) × SayNamed None (lines_of (so_far.above ++ line ∷ [])) now × IsRead new now
  with_line true e = let s = says so_far.now e so_far.read in (Some s.0, one_said so_far.above line so_far.now s.0 e so_far.says s.1, s.2)
  with_line false e = (so_far.now, none_said so_far.above line so_far.now e so_far.says, kept so_far.now e so_far.read)

  -- what is said with this line
  pub line_read : (now : Option NamedGraph) × SayNamed None (lines_of (so_far.above ++ line ∷ [])) now × IsRead new now
  line_read = with_line (says_something (words_in line)) refl

  pub one_more : (n : ℕ) → n ≡ number + 1 → ((g : NamedGraph) → HasRead new g → FitsHeap g) → IsNamedUpTo parts rest n new
  one_more n count checked = record {
    above = so_far.above ++ line ∷ [];
    whole = so_far.whole ∙ ap (λ ps. so_far.above ++ ps) is ∙ sym (append_assoc so_far.above (line ∷ []) rest);
    counted = let l = length-append so_far.above (line ∷ []) in omega (arith, l, so_far.counted, count);
    now = line_read.0;
    says = line_read.1;
    read = line_read.2;
    fits = fit line_read.0 line_read.2;
  }
    where
      fit : (now : Option NamedGraph) → IsRead new now → FitsSoFar now
      fit None read = tt
      fit (Some g) read = checked g read.1

-- all parts were read
pub all_read : (text : List ℕ) (n : ℕ) (l : Lines) → IsNamedUpTo (parts_of text) [] n l → (g : Option NamedGraph) × SayNamed None (lines_in text) g × IsRead l g × FitsSoFar g
all_read text n l left = (left.now, subst (λ ps. SayNamed None (lines_of ps) left.now) (sym (left.whole ∙ append-nil left.above)) left.says, left.read, left.fits)

pub all_said : (text : List ℕ) (n : ℕ) (l : Lines) → IsNamedUpTo (parts_of text) [] n l → (g : Option NamedGraph) × SayNamed None (lines_in text) g × IsRead l g
all_said text n l left = let r = all_read text n l left in (r.0, r.1, r.2)

pub all_fit : (text : List ℕ) (n : ℕ) (l : Lines) → IsNamedUpTo (parts_of text) [] n l → (g : Option NamedGraph) × SayNamed None (lines_in text) g × FitsSoFar g
all_fit text n l left = let r = all_read text n l left in (r.0, r.1, r.3)

-- the heading was read
pub begun_is : (n : ℕ) → not (n == 0) ≡ true → n ≢ 0
begun_is n h e = false≢true (sym (ap (λ m. not (m == 0)) e) ∙ h)

-- A TEXT WHOSE HEADING WAS READ SAYS A GRAPH
pub graph_said : (text : List ℕ) (l : Lines) → All IsUtf8 (parts_of text) → l.heading ≢ 0 → (g : Option NamedGraph) × SayNamed None (lines_in text) g × IsRead l g
    → (g : NamedGraph) × SaysGraph text g × HasRead l g
graph_said text l utf8 begun s = at s.0 s.1 s.2
  where
    at : (g : Option NamedGraph) → SayNamed None (lines_in text) g → IsRead l g → (g : NamedGraph) × SaysGraph text g × HasRead l g
    at None said read = absurd (begun read.0)
    at (Some g) said read = (g, record { lines = lines_in text; has = record { utf8 = utf8; same = refl }; says = said }, read.1)

-- and that graph fits, if what was read does
pub graph_fits : (text : List ℕ) (g : NamedGraph) → SaysGraph text g → (h : Option NamedGraph) × SayNamed None (lines_in text) h × FitsSoFar h → (g : NamedGraph) × SaysGraph text g × FitsHeap g
graph_fits text g says s =
    let same : s.0 ≡ Some g = lines_one None s.0 (Some g) (lines_in text) s.1 (subst (λ ls. SayNamed None ls (Some g)) (sym says.has.same) says.says) in
    (g, says, subst FitsSoFar same s.2)
