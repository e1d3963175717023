-- What lines of objects by name say, and what is kept of it.
use Rattle.std.proofs.Common.{◌≡◌, ◌≢◌, Bool, true, false, cond, ℕ, suc, ◌+◌, ◌-◌, ◌<◌, ◌^◌, List, [], ◌∷◌, ◌++◌, length, map, min, append-nil, append_assoc, refl, sym, ◌∙◌, ap, subst, arith}
use Rattle.std.specs.Prelude.{Option, Some, None, MatchOption, IfSome, if◌then◌else◌, ◌||◌, codes, position, All}
use Rattle.std.specs.Borrow.{Bor}
use Rattle.std.specs.List.{AllZip, position_from, list_any}
use Rattle.std.specs.Option.{option_copied}
use Rattle.std.specs.Str.{bytes_eq}
use Rattle.indexmap.specs.IndexSet.{insert_key}
use Rattle.std.proofs.lemmas.Bool.{false≢true}
use Rattle.std.proofs.lemmas.Iterator.Adapters.{position_from-zero}
use Rattle.std.proofs.lemmas.Slice.Eq.{bytes_eq-Decides}
use Rattle.std.proofs.lemmas.List.Elements.{All-nil, All-cons}
use Rattle.std.proofs.lemmas.List.Sums.{sum_by_push}
use Rattle.std.proofs.lemmas.List.{length-map}
use Rattle.g1_words.specs.Geometry.{Geometry, IsWithinBounds}
use Rattle.g1_text.specs.declared.placing.Entry.{Entry}
use Rattle.g1_text.specs.Forms.{Single, Spells, HasSize, IsTarget, IsName, ◌▸◌, HasFront}
use Rattle.g1_text.specs.Graphs.{NamedObject, NamedRoot, NamedGraph, SaysSizes, SaysRoot, SaysObject, IsTargetName, AreWithinBounds, Shortens, size_of, words_of, target_word}
use Rattle.g1_text.specs.ByName.{IsEntryOf, Fills, read_root, root_word, holder_of, holders_from, place_of}
use Rattle.g1_text.proofs.Gathering.{map_push}

pub some_none : {A : Type 0} {x : A} → ◌≡◌ {A = Option A} (Some x) None → ⊥
some_none e = cc

-- TARGETS

-- null for a dash, and a name for each other word
abbrev pub target_of : List ℕ → Option (List ℕ)
target_of word = cond (bytes_eq word (codes "-")) None (Some word)

pub word_of_target : (word : List ℕ) → target_word (target_of word) ≡ word
word_of_target word = at (bytes_eq word (codes "-")) refl
  where
    at : (b : Bool) → bytes_eq word (codes "-") ≡ b → target_word (cond b None (Some word)) ≡ word
    at true e = sym ((bytes_eq-Decides word (codes "-")).0 e)
    at false e = refl

pub target_is : (word : List ℕ) → IsTarget word → IsTargetName (target_of word)
target_is word is = at (bytes_eq word (codes "-")) refl
  where
    at : (b : Bool) → bytes_eq word (codes "-") ≡ b → IsTargetName (cond b None (Some word))
    at true e = tt
    at false e = ((λ same. false≢true (sym e ∙ (bytes_eq-Decides word (codes "-")).1 same)), is)

words_of_targets : (words : List (List ℕ)) → map target_word (map target_of words) ≡ words
words_of_targets [] = refl
words_of_targets (word ∷ words) = let first = word_of_target word in let rest = words_of_targets words in λ i. first i ∷ rest i

targets_are : (words : List (List ℕ)) → All IsTarget words → All IsTargetName (map target_of words)
targets_are [] all = All-nil IsTargetName
targets_are (word ∷ words) all =
    All-cons IsTargetName (target_of word) (map target_of words) (target_is word (all 0 [] (omega arith))) (targets_are words (λ k d lt. all (suc k) d (omega (arith, lt))))

-- THE HEADING
pub sizes_said : (w k n x y z : ℕ) {before left : List (List ℕ)} → (w ≡ x) × (k ≡ y) × (n ≡ z) → IsWithinBounds w k n
    → HasFront (Single (Spells (2 ^ 64) x) ▸ Single (Spells (2 ^ 64) y) ▸ Single (Spells (2 ^ 64) z)) before left → left ≡ []
    → SaysSizes (Some (record { w = x; k = y; n = z })) (codes "graph" ∷ before)
sizes_said w k n x y z e limits r end =
    let within = subst (λ a. IsWithinBounds a y z) e.0 (subst (λ a. IsWithinBounds w a z) e.1 (subst (λ a. IsWithinBounds w k a) e.2 limits)) in
    let first = r.2.3 in
    let second = r.2.4.3 in
    let third = r.2.4.4 in
    let words = r.1 ∙ ap (λ ws. r.0 ++ ws) end ∙ append-nil r.0 ∙ r.2.2 ∙ (λ i. first.1 i ++ r.2.4.2 i) ∙ (λ i. first.0 ∷ (second.1 i ++ third.1 i)) in
    (first.0, second.0, third.0, ap (λ ws. codes "graph" ∷ ws) words, within, first.2, second.2, third.2)

pub no_sizes_said : (words : List (List ℕ)) → length words ≡ 0 → SaysSizes None (codes "graph" ∷ words)
no_sizes_said [] e = refl
no_sizes_said (word ∷ words) e = absurd (omega (arith, e))

-- sizes that were told are within bounds
pub sizes_within : (sizes : Option Geometry) (words : List (List ℕ)) → SaysSizes sizes words → AreWithinBounds sizes
sizes_within None words says = tt
sizes_within (Some s) words says = says.4

-- A ROOT
pub root_said : (name : Bor (List ℕ)) (holder : Option (Bor (List ℕ))) (words : List (List ℕ))
    → MatchOption holder (words ≡ name.now ∷ []) (λ h. words ≡ name.now ∷ codes "as" ∷ h.now ∷ []) → IsTarget name.now → IfSome holder (λ h. IsName h.now)
    → SaysRoot (record { target = target_of name.now; holder = option_copied holder }) (codes "root" ∷ words)
root_said name None words m target named = record {
  target = target_is name.now target;
  holder = tt;
  line = ap (λ ws. codes "root" ∷ ws) m ∙ ap (λ w. codes "root" ∷ w ∷ []) (sym (word_of_target name.now));
}
root_said name (Some holder) words m target named = record {
  target = target_is name.now target;
  holder = named;
  line = ap (λ ws. codes "root" ∷ ws) m ∙ ap (λ w. codes "root" ∷ w ∷ codes "as" ∷ holder.now ∷ []) (sym (word_of_target name.now));
}

-- the holders with one more root
holders_push : (n : ℕ) (roots : List NamedRoot) (r : NamedRoot) → holders_from n (roots ++ r ∷ []) ≡ holders_from n roots ++ holder_of (n + length roots) r.holder
holders_push n [] r = let z : n + 0 ≡ n = omega arith in append-nil (holder_of n r.holder) ∙ ap (λ m. holder_of m r.holder) (sym z)
holders_push n (x ∷ roots) r =
    let same : n + 1 + length roots ≡ n + length (x ∷ roots) = omega arith in
    ap (λ hs. holder_of n x.holder ++ hs) (holders_push (n + 1) roots r ∙ ap (λ m. holders_from (n + 1) roots ++ holder_of m r.holder) same)
    ∙ sym (append_assoc (holder_of n x.holder) (holders_from (n + 1) roots) (holder_of (n + length (x ∷ roots)) r.holder))

-- AN OBJECT
pub object_said : (name size : List ℕ) (n slots : ℕ) (content words : List (List ℕ)) → IsName name → slots < n → n < 2 ^ 32 → HasSize n slots size → Fills slots (n - slots - 1) content
    → words ≡ codes "object" ∷ name ∷ size ∷ content → (o : NamedObject) × (name ≡ o.name) × (n ≡ size_of o) × (slots ≡ length o.slots) × SaysObject o words
object_said name size n slots content words named less fits sized filled line =
    let o : NamedObject = record { name = name; slots = map target_of filled.0; written = filled.1 } in
    let many = length-map filled.0 target_of in
    let some = filled.2.0 in
    let rest = filled.3.0 in
    let same_size : n ≡ size_of o = omega (arith, many, some, rest, less) in
    let same_slots : slots ≡ length o.slots = omega (arith, many, some) in (
      o,
      refl,
      same_size,
      same_slots,
      record {
        name = named;
        targets = targets_are filled.0 filled.2.1;
        size = size;
        has_size = subst (λ s. HasSize s (length o.slots) size) same_size (subst (λ s. HasSize n s size) same_slots sized);
        fits = subst (λ s. s < 2 ^ 32) same_size fits;
        are_data = filled.3.1;
        content = content;
        shortens = subst (λ ws. Shortens ws filled.1 content) (sym (words_of_targets filled.0)) filled.4;
        line = line;
      },
    )

-- the place of an element is that of its name among the names
place_by_name : {A : Type 0} (f : A → List ℕ) (name : List ℕ) (n : ℕ) (xs : List A) → position_from (λ x. bytes_eq name (f x)) n xs ≡ position_from (bytes_eq name) n (map f xs)
place_by_name f name n [] = refl
place_by_name f name n (x ∷ xs) = ap (cond (bytes_eq name (f x)) (Some n)) (place_by_name f name (n + 1) xs)

-- A NAME LEADS TO ITS OBJECT, where the names are those of the objects
pub place_among : (name : List ℕ) (keys : List (Bor (List ℕ))) (objects : List NamedObject) → map (λ k. k.now) keys ≡ map (λ o. o.name) objects
    → position (λ k. bytes_eq name k.now) keys ≡ place_of name objects
place_among name keys objects same =
    position_from-zero (λ (k : Bor (List ℕ)). bytes_eq name k.now) keys ∙ place_by_name (λ (k : Bor (List ℕ)). k.now) name 0 keys ∙ ap (position_from (bytes_eq name) 0) same ∙ sym (place_by_name (λ (o : NamedObject). o.name) name 0 objects)

-- no object has a name that is not among the names
pub is_new_name : (name : List ℕ) (objects : List NamedObject) → list_any (bytes_eq name) (map (λ o. o.name) objects) ≡ false → All (λ o. o.name ≢ name) objects
is_new_name name [] none = All-nil (λ o. o.name ≢ name)
is_new_name name (x ∷ objects) none = at (bytes_eq name x.name) refl none (λ f. is_new_name name objects f)
  where
    at : (b : Bool) → bytes_eq name x.name ≡ b → (b || list_any (bytes_eq name) (map (λ (o : NamedObject). o.name) objects)) ≡ false
        → (list_any (bytes_eq name) (map (λ (o : NamedObject). o.name) objects) ≡ false → All (λ o. o.name ≢ name) objects) → All (λ o. o.name ≢ name) (x ∷ objects)
    at true e f rest = absurd (false≢true (sym f))
    at false e f rest = All-cons (λ o. o.name ≢ name) x objects (λ same. false≢true (sym e ∙ (bytes_eq-Decides name x.name).1 (sym same))) (rest f)

-- the names with one more, which is new
pub names_more : (old new : List (Bor (List ℕ))) (name : Bor (List ℕ)) (objects : List NamedObject) (o : NamedObject) → map (λ k. k.now) old ≡ map (λ o. o.name) objects → name.now ≡ o.name
    → list_any (λ k. bytes_eq name.now k.now) old ≡ false → new ≡ insert_key (λ x y. bytes_eq x.now y.now) old name
    → map (λ k. k.now) new ≡ map (λ o. o.name) (objects ++ o ∷ [])
names_more old new name objects o same is none put =
    ap (map (λ k. k.now)) (put ∙ ap (λ b. if b then old else old ++ name ∷ []) none)
    ∙ map_push (λ (k : Bor (List ℕ)). k.now) old name ∙ (λ i. same i ++ is i ∷ []) ∙ sym (map_push (λ (o : NamedObject). o.name) objects o)

pub zip_push : {A B : Type 0} (R : A → B → Type 0) (xs : List A) (ys : List B) (x : A) (y : B) → AllZip R xs ys → R x y → AllZip R (xs ++ x ∷ []) (ys ++ y ∷ [])
zip_push R [] [] x y all r = (r, tt)
zip_push R [] (b ∷ ys) x y all r = elim all [ ]
zip_push R (a ∷ xs) [] x y all r = elim all [ ]
zip_push R (a ∷ xs) (b ∷ ys) x y all r = (all.0, zip_push R xs ys x y all.1 r)

-- WHAT IS KEPT OF A LINE
pub root_count : (old : List (ℕ × Bor (List ℕ))) (roots : List NamedRoot) → map read_root old ≡ map root_word roots → length old ≡ length roots
root_count old roots e = sym (length-map old read_root) ∙ ap length e ∙ length-map roots root_word

pub roots_more : (old new : List (ℕ × Bor (List ℕ))) (roots : List NamedRoot) (r : NamedRoot) (number : ℕ) (name : Bor (List ℕ)) → map read_root old ≡ map root_word roots
    → new ≡ old ++ (number, name) ∷ [] → target_word r.target ≡ name.now → map read_root new ≡ map root_word (roots ++ r ∷ [])
roots_more old new roots r number name e push word =
    ap (map read_root) push ∙ map_push read_root old (number, name) ∙ (λ i. e i ++ sym word i ∷ []) ∙ sym (map_push root_word roots r)

pub holders_more : (old new : List (ℕ × List ℕ)) (roots : List NamedRoot) (r : NamedRoot) (n : ℕ) → old ≡ holders_from 0 roots → new ≡ old ++ holder_of n r.holder → n ≡ length roots
    → new ≡ holders_from 0 (roots ++ r ∷ [])
holders_more old new roots r n e push count =
    let place : n ≡ 0 + length roots = omega (arith, count) in
    push ∙ (λ i. e i ++ holder_of (place i) r.holder) ∙ sym (holders_push 0 roots r)

pub entries_more : (old new : List Entry) (objects : List NamedObject) (e : Entry) (o : NamedObject) → AllZip IsEntryOf old objects → new ≡ old ++ e ∷ [] → IsEntryOf e o → AllZip IsEntryOf new (objects ++ o ∷ [])
entries_more old new objects e o all push is = subst (λ es. AllZip IsEntryOf es (objects ++ o ∷ [])) (sym push) (zip_push IsEntryOf old objects e o all is)

-- the words of the objects, with those of one more
pub words_more : (old new size : ℕ) (g : NamedGraph) (o : NamedObject) → old ≡ min (words_of g) (2 ^ 64 - 1) → new ≡ min (old + size) (2 ^ 64 - 1) → size ≡ size_of o
    → new ≡ min (words_of (record g { objects = g.objects ++ o ∷ [] })) (2 ^ 64 - 1)
words_more old new size g o e sum same = let more = sum_by_push size_of g.objects o in omega (arith, e, sum, same, more)
