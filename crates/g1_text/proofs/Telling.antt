-- Full lines tell what they say.
use Rattle.std.proofs.Common.{◌≡◌, ◌≤◌, ◌<◌, ◌^◌, ◌+◌, ◌-◌, ℕ, List, [], ◌∷◌, ◌++◌, length, map, replicate, append-nil, inl, refl, sym, ◌∙◌, ap, subst, arith}
use Rattle.std.specs.Prelude.{Option, Some, None, IfSome, All, codes, decimal}
use Rattle.g1_words.specs.Geometry.{Geometry, IsWithinBounds}
use Rattle.g1_words.specs.Heap.{free_region}
use Rattle.g1_words.specs.Kind.{kind_word}
use Rattle.g1_image.specs.Image.{Image}
use Rattle.g1_text.specs.Lines.{current_word, reference_word, cards_words, pinned_words}
use Rattle.g1_text.specs.Forms.{Spells, Denotes, StandsFor, Word, ◌▸◌}
use Rattle.g1_text.specs.Content.{Content, Line, Root, Dirty, Numbers, Remembered, Holds, words_of, heading_words, size_with, words_beyond, Takes, Begins, Says, SaysAll, SaysImage, IsClosed}
use Rattle.g1_text.specs.Short.{Short, RootAs, DirtyAs, RegionAs, RememberedAs, ObjectAs, IsShortLine, TellsCards, TellsCurrent, TellsSizes, TellsBehind, Gives, BeginsShort, Tells, TellsAll, TellsImage, Closes}
use Rattle.g1_text.proofs.Skipping.{skips_none}
use Rattle.g1_text.proofs.Spelled.{decimal_spells, printed_denotes, printed_all, one_word, word_then, one_then, number_then, labelled_then, label}

-- the short line that leaves nothing out
abbrev short_of : Line → Short
short_of (Root m x) = RootAs (Some m) x
short_of (Dirty cards) = DirtyAs cards
short_of (Numbers r k t o m p) = RegionAs (Some r) k (Some t) (Some o) (Some m) p
short_of (Remembered r cards) = RememberedAs r cards
short_of (Holds at slots values) = ObjectAs (Some at) slots values None

cards_tell : (cards : List ℕ) → All (λ x. x < 2 ^ 32) cards → TellsCards cards (cards_words cards)
cards_tell cards small = word_then (codes "cards") (printed_all (Spells (2 ^ 32)) decimal (2 ^ 32) (λ x lt. decimal_spells (2 ^ 32) x lt (omega (arith, lt))) cards small)

-- the words of a full line are those of the short one
same_words : (c : Content) (l : Line) (d : Content) → Takes c l d → IsShortLine (short_of l) (words_of l)
same_words c (Root m x) d takes = word_then (codes "root") (number_then m (let lt = takes.1 in omega (arith, lt)) (one_word (printed_denotes x takes.2)))
same_words c (Dirty cards) d takes = word_then (codes "dirty") (cards_tell cards takes.0)
same_words c (Numbers r k t o m p) d takes =
    word_then (codes "region") (number_then r takes.2 (word_then (kind_word k) (
      codes "top" ∷ decimal t ∷ codes "objects" ∷ decimal o ∷ codes "cards" ∷ decimal m ∷ [],
      pinned_words p,
      refl,
      labelled_then (codes "top") t takes.4 (labelled_then (codes "objects") o takes.5 (label (codes "cards") m takes.6)),
      refl,
    )))
same_words c (Remembered r cards) d takes = word_then (codes "remembered") (one_then (decimal r) (decimal_spells (2 ^ 64) r takes.1 takes.1) (cards_tell cards takes.2))
same_words c (Holds at slots values) d takes =
    let small = takes.10 in
    word_then (codes "object") (number_then at takes.8 (one_then (decimal (size_with slots values) ++ 47 ∷ decimal (length slots)) (
      decimal (size_with slots values),
      decimal (length slots),
      refl,
      decimal_spells (2 ^ 64) (size_with slots values) (omega (arith, small)) (omega (arith, small)),
      decimal_spells (2 ^ 64) (length slots) (omega (arith, small)) (omega (arith, small)),
    ) (
      map reference_word slots,
      map decimal values,
      printed_all Denotes reference_word (2 ^ 64) printed_denotes slots takes.11,
      printed_all StandsFor decimal (2 ^ 64) (λ x lt. inl (decimal_spells (2 ^ 64) x lt lt)) values takes.12,
      refl,
    )))

gives : (c : Content) (l : Line) (d : Content) → Takes c l d → Gives c (short_of l) d
gives c (Root m x) d takes = (m, refl, takes)
gives c (Dirty cards) d takes = takes
gives c (Numbers r k t o m p) d takes = (
  0,
  0,
  c,
  tt,
  skips_none c,
  takes.0,
  subst (λ n. n < c.geometry.n) takes.0 takes.1,
  takes.3,
  takes.7,
  takes.8
      ∙ ap
      (λ n. record c {
        regions = c.regions ++ record { kind = k; top = words_beyond c k; pinned = p } ∷ [];
        beyond = c.beyond - words_beyond c k;
        counts = c.counts ++ record { region = n; top = Some t; objects = Some o; cards = Some m; found = 0 } ∷ [];
      }) takes.0,
)
gives c (Remembered r cards) d takes = takes
gives c (Holds at slots values) d takes = (at, refl, takes, tt)

current_tells : (current : Option ℕ) → IfSome current (λ r. r < 2 ^ 32) → TellsCurrent current (codes "current" ∷ current_word current ∷ [])
current_tells None small = inl (word_then (codes "current") (one_word refl))
current_tells (Some r) small = inl (word_then (codes "current") (one_word (decimal_spells (2 ^ 32) r small (omega (arith, small)))))

heading_tells : (g : Geometry) (roots dirty : ℕ) (current : Option ℕ) → IsWithinBounds g.w g.k g.n → roots < 2 ^ 64 → dirty < 2 ^ 64 → IfSome current (λ r. r < 2 ^ 32)
    → (Word (codes "heap") ▸ TellsSizes g.w g.k g.n ▸ TellsBehind (Some roots) (Some dirty) current) (heading_words g roots dirty current)
heading_tells g roots dirty current limits fr fd fc =
    word_then (codes "heap") (
      decimal g.w ∷ decimal g.k ∷ decimal g.n ∷ [],
      codes "roots" ∷ decimal roots ∷ codes "dirty" ∷ decimal dirty ∷ codes "current" ∷ current_word current ∷ [],
      refl,
      one_then (decimal g.w) (spelled g.w (omega (arith, limits.w_most)))
          (one_then (decimal g.k) (spelled g.k (omega (arith, limits.k_most))) (one_word (spelled g.n (omega (arith, limits.n_most))))),
      labelled_then (codes "roots") roots fr (labelled_then (codes "dirty") dirty fd (current_tells current fc)),
    )
  where
    spelled : (n : ℕ) → n < 2 ^ 64 → Spells (2 ^ 64) n (decimal n)
    spelled n lt = decimal_spells (2 ^ 64) n lt lt

begins_short : (words : List (List ℕ)) (c : Content) → Begins words c → BeginsShort words c
begins_short words c b = record {
  geometry = b.geometry;
  current = b.current;
  roots = Some b.roots;
  dirty = Some b.dirty;
  limits = b.limits;
  line = subst (Word (codes "heap") ▸ TellsSizes b.geometry.w b.geometry.k b.geometry.n ▸ TellsBehind (Some b.roots) (Some b.dirty) b.current) (sym b.line)
      (heading_tells b.geometry b.roots b.dirty b.current b.limits b.root_count b.dirty_count b.region);
  says = b.says;
}

tells : (before : Option Content) (words : List (List ℕ)) (c : Content) → Says before words c → Tells before words c
tells None words c b = begins_short words c b
tells (Some s) words c (l, e, takes) = (short_of l, subst (IsShortLine (short_of l)) (sym e) (same_words s l c takes), gives s l c takes)

-- LINES THAT SAY SOMETHING tell the same
pub tell_all : (before after : Option Content) (lines : List (List (List ℕ))) → SaysAll before lines after → TellsAll before lines after
tell_all before after [] e = e
tell_all before after (line ∷ lines) (c, says, all) = (c, tells before line c says, tell_all (Some c) after lines all)

-- no region is left out
none_left : (c : Content) → c.geometry.n ≤ length c.regions → c ≡ record c { regions = c.regions ++ replicate (c.geometry.n - (length c.regions + 0)) free_region }
none_left c all =
    let none : 0 ≡ c.geometry.n - (length c.regions + 0) = omega (arith, all) in
    let same = sym (append-nil c.regions) ∙ ap (λ k. c.regions ++ replicate k free_region) none in
    λ i. record c { regions = same i }

pub closes : (c : Content) → IsClosed c → Closes c c
closes c closed = (0, omega arith, record { middle = c; goes_on = refl; whole = λ some. closed.0; adds = none_left c closed.1 }, closed.0)

pub tells_image : (text : List ℕ) (i : Image) → SaysImage text i → TellsImage text i
tells_image text i s = record {
  lines = s.lines;
  told = s.content;
  content = s.content;
  has = s.has;
  tells = tell_all None (Some s.content) s.lines s.says;
  closed = closes s.content s.closed;
  is = inl s.is;
}
