-- What two views of the same objects answer, and what an effect may rely on.
use Rattle.std.proofs.Common.{◌≡◌, ℕ, zero, suc, ◌<◌, ◌⊎◌, inl, inr, Bool, true, false, cond, List, [], ◌∷◌, length, get_or, set, replicate, map, flat_map, Contains, refl, sym, ◌∙◌, ap}
use Rattle.std.proofs.Common.{subst, arith, eqb, eqb-true, eq-eqb, ltb, ltb-true}
use Rattle.std.proofs.lemmas.List.{length-map}
use Rattle.g1_words.specs.References.{named}
use Rattle.g1_words.specs.Live.{Reached, seed, child}
use Rattle.g1_words.specs.Copy.{renamed}
use Rattle.g1_words.proofs.Members.{Contains-first, Contains-flat_map, Contains-later, Contains-map, flat_map_cases}
use Rattle.g1_words.proofs.Sound.{named_suc}
use Rattle.g1_trace.specs.declared.command.Command.{Command}
use Rattle.g1_trace.specs.declared.command.Command.TheVariants.{New, Get, Put, Set, Say, Same, Copy, Drop, Pause}
use Rattle.g1_trace.specs.declared.command.Reply.{Reply}
use Rattle.g1_trace.specs.declared.command.Reply.TheVariants.{Ok, Range, Number}
use Rattle.g1_trace.specs.Commands.{View, Effect, Nothing, SetRoot, SetSlot, SetValue, MakeNew, MakePause, Answer, answer, answer_of, in_range, not_null, within}
use Rattle.g1_trace.specs.Views.{Seen, SameView, SeenWord, EffectFits, ForPause}

-- the same effect under other names
abbrev pub renamed_effect : (ℕ → ℕ) → Effect → Effect
renamed_effect f Nothing = Nothing
renamed_effect f (SetRoot r x) = SetRoot r (renamed f x)
renamed_effect f (SetSlot a p x) = SetSlot (f a) p (renamed f x)
renamed_effect f (SetValue a p x) = SetValue (f a) p x
renamed_effect f (MakeNew r refs words) = MakeNew r refs words
renamed_effect f (MakePause b) = MakePause b

-- the same answer under other names
abbrev pub renamed_answer : (ℕ → ℕ) → Answer → Answer
renamed_answer f a = record { reply = a.reply; effect = renamed_effect f a.effect }

-- ---- reaching

pub Reached-within : (seeds : List ℕ) (kids : ℕ → List ℕ) (P : ℕ → Type 0) → ((a : ℕ) → Contains seeds a → P a) → ((a b : ℕ) → P a → Contains (kids a) b → P b) → (a : ℕ) → Reached seeds kids a → P a
Reached-within seeds kids P s k a (seed c) = s a c
Reached-within seeds kids P s k b (child {a = a} r c) = k a b (Reached-within seeds kids P s k a r) c

pub named-in : (xs : List ℕ) (a : ℕ) → Contains (flat_map named xs) a → Contains xs (suc a)
named-in xs a h = let m = flat_map_cases named xs a h in subst (Contains xs) (named_suc m.0 a m.2) m.1

pub in-named : (xs : List ℕ) (a : ℕ) → Contains xs (suc a) → Contains (flat_map named xs) a
in-named xs a h = Contains-flat_map named xs (suc a) a h (Contains-first a [])

Contains-suc_at : (xs : List ℕ) (k a : ℕ) → get_or xs k 0 ≡ suc a → Contains xs (suc a)
Contains-suc_at [] k a e = absurd (omega (arith, e))
Contains-suc_at (x ∷ xs) zero a e = (zero, omega arith, e)
Contains-suc_at (x ∷ xs) (suc k) a e = let m = Contains-suc_at xs k a e in (suc m.0, omega (arith, m.1), m.2)

pub Contains-set : (xs : List ℕ) (k x y : ℕ) → Contains (set xs k x) y → (x ≡ y) ⊎ Contains xs y
Contains-set [] k x y h = absurd (omega (arith, h.1))
Contains-set (z ∷ xs) zero x y (zero, b, e) = inl e
Contains-set (z ∷ xs) zero x y (suc k, b, e) = inr (suc k, omega (arith, b), e)
Contains-set (z ∷ xs) (suc k) x y (zero, b, e) = inr (zero, omega arith, e)
Contains-set (z ∷ xs) (suc k) x y (suc j, b, eq) = elim (Contains-set xs k x y (j, omega (arith, b), eq)) [ inl e ↦ inl e | inr g ↦ inr (Contains-later z xs y g) ]

pub no_zeros : (n a : ℕ) → Contains (replicate n 0) (suc a) → ⊥
no_zeros zero a h = absurd (omega (arith, h.1))
no_zeros (suc n) a (zero, b, e) = absurd (omega (arith, e))
no_zeros (suc n) a (suc k, b, e) = no_zeros n a (k, omega (arith, b), e)

module _ (v : View) where
  pub root_seen : (a : ℕ) → Contains v.roots (suc a) → Seen v a
  root_seen a h = seed (in-named v.roots a h)

  pub slot_seen : (b a : ℕ) → Seen v b → Contains (v.slots b) (suc a) → Seen v a
  slot_seen b a s h = child s (in-named (v.slots b) a h)

  -- what is seen stays within P
  pub seen_within : (P : ℕ → Type 0) → ((a : ℕ) → Contains v.roots (suc a) → P a) → ((b a : ℕ) → P b → Contains (v.slots b) (suc a) → P a) → (a : ℕ) → Seen v a → P a
  seen_within P s k =
      Reached-within (flat_map named v.roots) (λ b. flat_map named (v.slots b)) P (λ a c. s a (named-in v.roots a c))
      (λ b a p c. k b a p (named-in (v.slots b) a c))

  word_seen_at : (xs : List ℕ) (k x : ℕ) → get_or xs k 0 ≡ x → ((a : ℕ) → Contains xs (suc a) → Seen v a) → SeenWord v x
  word_seen_at xs k zero e f = tt
  word_seen_at xs k (suc a) e f = f a (Contains-suc_at xs k a e)

  pub root_word : (r : ℕ) → SeenWord v (get_or v.roots r 0)
  root_word r = word_seen_at v.roots r (get_or v.roots r 0) refl root_seen

  pub slot_word : (b k : ℕ) → Seen v b → SeenWord v (get_or (v.slots b) k 0)
  slot_word b k s = word_seen_at (v.slots b) k (get_or (v.slots b) k 0) refl (λ a. slot_seen b a s)

pub get_or-renamed : (f : ℕ → ℕ) (xs : List ℕ) (k : ℕ) → get_or (map (renamed f) xs) k 0 ≡ renamed f (get_or xs k 0)
get_or-renamed f [] k = refl
get_or-renamed f (x ∷ xs) zero = refl
get_or-renamed f (x ∷ xs) (suc k) = get_or-renamed f xs k

-- ---- the checks make sure that the effect fits

module _ (v : View) where
  fits_in_range : (r : ℕ) (a : Answer) (b : Bool) → ltb r (length v.roots) ≡ b → (r < length v.roots → EffectFits v a.effect) → EffectFits v (cond b a (answer Range Nothing)).effect
  fits_in_range r a true e f = f (ltb-true r (length v.roots) e)
  fits_in_range r a false e f = tt

  fits_not_null : (x : ℕ) (rest : ℕ → Answer) → SeenWord v x → ((a : ℕ) → Seen v a → EffectFits v (rest a).effect) → EffectFits v (not_null v x rest).effect
  fits_not_null zero rest s f = tt
  fits_not_null (suc a) rest s f = f a s

  fits_within : (k : ℕ) (xs : List ℕ) (a : Answer) (b : Bool) → ltb k (length xs) ≡ b → (k < length xs → EffectFits v a.effect) → EffectFits v (cond b a (answer Range Nothing)).effect
  fits_within k xs a true e f = f (ltb-true k (length xs) e)
  fits_within k xs a false e f = tt

  range : (r : ℕ) (a : Answer) → (r < length v.roots → EffectFits v a.effect) → EffectFits v (in_range v r a).effect
  range r a f = fits_in_range r a (ltb r (length v.roots)) refl f

  inside : (k : ℕ) (xs : List ℕ) (a : Answer) → (k < length xs → EffectFits v a.effect) → EffectFits v (within v k xs a).effect
  inside k xs a f = fits_within k xs a (ltb k (length xs)) refl f

  pub answer_fits : (c : Command) → EffectFits v (answer_of v c).effect
  answer_fits (New r refs values) = range r (answer Ok (MakeNew r refs values)) (λ h. h)
  answer_fits (Get r q i) = range r _ (λ h. range q _ (λ _. fits_not_null (get_or v.roots q 0) _ (root_word v q)
      (λ a s. inside i (v.slots a) (answer Ok (SetRoot r (get_or (v.slots a) i 0))) (λ _. (h, slot_word v a i s)))))
  answer_fits (Put r i q) = range r _ (λ h. range q _ (λ _. fits_not_null (get_or v.roots r 0) _ (root_word v r)
      (λ a s. inside i (v.slots a) (answer Ok (SetSlot a i (get_or v.roots q 0))) (λ k. (s, k, root_word v q)))))
  answer_fits (Set r i x) = range r _ (λ h. fits_not_null (get_or v.roots r 0) _ (root_word v r) (λ a s. inside i (v.values a) (answer Ok (SetValue a i x)) (λ k. (s, k))))
  answer_fits (Say r i) = range r _ (λ h. fits_not_null (get_or v.roots r 0) _ (root_word v r) (λ a s. inside i (v.values a) (answer (Number (get_or (v.values a) i 0)) Nothing) (λ k. tt)))
  answer_fits (Same r q) = range r _ (λ h. range q _ (λ _. tt))
  answer_fits (Copy r q) = range r _ (λ h. range q _ (λ _. (h, root_word v q)))
  answer_fits (Drop r) = range r (answer Ok (SetRoot r 0)) (λ h. (h, tt))
  answer_fits (Pause b) = tt

-- ---- a command whose effect is a pause is a pause, which is answered by ok

abbrev Pauses : (Reply → Type 0) → Answer → Type 0
Pauses P a = ForPause a.effect (P a.reply)

pauses_either : (P : Reply → Type 0) (b : Bool) (x y : Answer) → Pauses P x → Pauses P y → Pauses P (cond b x y)
pauses_either P true x y p q = p
pauses_either P false x y p q = q

module _ (v : View) (P : Reply → Type 0) where
  pauses_range : (r : ℕ) (a : Answer) → Pauses P a → Pauses P (in_range v r a)
  pauses_range r a p = pauses_either P (ltb r (length v.roots)) a (answer Range Nothing) p tt

  pauses_within : (k : ℕ) (xs : List ℕ) (a : Answer) → Pauses P a → Pauses P (within v k xs a)
  pauses_within k xs a p = pauses_either P (ltb k (length xs)) a (answer Range Nothing) p tt

  pauses_not_null : (x : ℕ) (rest : ℕ → Answer) → ((a : ℕ) → Pauses P (rest a)) → Pauses P (not_null v x rest)
  pauses_not_null zero rest p = tt
  pauses_not_null (suc a) rest p = p a

  pub for_pauses : (c : Command) → ((b : ℕ) → c ≡ Pause b → P Ok) → Pauses P (answer_of v c)
  for_pauses (New r refs values) h = pauses_range r (answer Ok (MakeNew r refs values)) tt
  for_pauses (Get r q i) h = pauses_range r _ (pauses_range q _ (pauses_not_null (get_or v.roots q 0) _ (λ a. pauses_within i (v.slots a) (answer Ok (SetRoot r (get_or (v.slots a) i 0))) tt)))
  for_pauses (Put r i q) h = pauses_range r _ (pauses_range q _ (pauses_not_null (get_or v.roots r 0) _ (λ a. pauses_within i (v.slots a) (answer Ok (SetSlot a i (get_or v.roots q 0))) tt)))
  for_pauses (Set r i x) h = pauses_range r _ (pauses_not_null (get_or v.roots r 0) _ (λ a. pauses_within i (v.values a) (answer Ok (SetValue a i x)) tt))
  for_pauses (Say r i) h = pauses_range r _ (pauses_not_null (get_or v.roots r 0) _ (λ a. pauses_within i (v.values a) (answer (Number (get_or (v.values a) i 0)) Nothing) tt))
  for_pauses (Same r q) h = pauses_range r _ (pauses_range q _ tt)
  for_pauses (Copy r q) h = pauses_range r _ (pauses_range q (answer Ok (SetRoot r (get_or v.roots q 0))) tt)
  for_pauses (Drop r) h = pauses_range r (answer Ok (SetRoot r 0)) tt
  for_pauses (Pause b) h = h b refl

-- a pause is answered by ok
pub answer_pauses : (v : View) (c : Command) → ForPause (answer_of v c).effect ((answer_of v c).reply ≡ Ok)
answer_pauses v c = for_pauses v (λ r. r ≡ Ok) c (λ b e. refl)

-- a command that is no pause has no pause for its effect
pub answer_goes_on : (v : View) (c : Command) → ((b : ℕ) → c ≡ Pause b → ⊥) → ForPause (answer_of v c).effect ⊥
answer_goes_on v c none = for_pauses v (λ r. ⊥) c none

-- ---- two views of the same objects answer alike

-- two words that are seen are equal where their new names are
eqb-renamed : (f : ℕ → ℕ) (x y : ℕ) → (x ≡ y → ⊥) ⊎ (x ≡ y) → (renamed f x ≡ renamed f y → x ≡ y) → eqb (renamed f x) (renamed f y) ≡ eqb x y
eqb-renamed f x y (inr e) back = eq-eqb (renamed f x) (renamed f y) (ap (renamed f) e) ∙ sym (eq-eqb x y e)
eqb-renamed f x y (inl n) back = not_equal (renamed f x) (renamed f y) (λ e. n (back e)) ∙ sym (not_equal x y n)
  where
    at : (x y : ℕ) (b : Bool) → eqb x y ≡ b → (x ≡ y → ⊥) → eqb x y ≡ false
    at x y true e n = absurd (n (eqb-true x y e))
    at x y false e n = e

    not_equal : (x y : ℕ) → (x ≡ y → ⊥) → eqb x y ≡ false
    not_equal x y n = at x y (eqb x y) refl n

pub equal_or_not : (x y : ℕ) → (x ≡ y → ⊥) ⊎ (x ≡ y)
equal_or_not x y = at (eqb x y) refl
  where
    at : (b : Bool) → eqb x y ≡ b → (x ≡ y → ⊥) ⊎ (x ≡ y)
    at true e = inr (eqb-true x y e)
    at false e = inl (λ q. absurd (clash (sym (eq-eqb x y q) ∙ e)))
      where
        clash : true ≡ false → ⊥
        clash h = cc

module _ (v u : View) (same : SameView v u) where
  -- what is seen in one is seen under its other name
  pub both_seen : (a : ℕ) → Seen v a → Seen v a × Seen u (same.rename a)
  both_seen = seen_within v (λ a. Seen v a × Seen u (same.rename a))
      (λ a h. (root_seen v a h, root_seen u (same.rename a) (subst (λ xs. Contains xs (suc (same.rename a))) (sym same.roots) (Contains-map (renamed same.rename) v.roots (suc a) h))))
      (λ b a p h. (
        slot_seen v b a p.0 h,
        slot_seen u (same.rename b) (same.rename a) p.1
            (subst (λ xs. Contains xs (suc (same.rename a))) (sym (same.slots b p.0)) (Contains-map (renamed same.rename) (v.slots b) (suc a) h)),
      ))

  root_same : (r : ℕ) → get_or u.roots r 0 ≡ renamed same.rename (get_or v.roots r 0)
  root_same r = ap (λ xs. get_or xs r 0) same.roots ∙ get_or-renamed same.rename v.roots r

  in_range_same : (r : ℕ) (a b : Answer) → a ≡ renamed_answer same.rename b → in_range u r a ≡ renamed_answer same.rename (in_range v r b)
  in_range_same r a b e =
      (λ t. cond (ltb r ((ap length same.roots ∙ length-map v.roots (renamed same.rename)) t)) (e t) (answer Range Nothing)) ∙ through (ltb r (length v.roots))
    where
      through : (c : Bool) → cond c (renamed_answer same.rename b) (answer Range Nothing) ≡ renamed_answer same.rename (cond c b (answer Range Nothing))
      through true = refl
      through false = refl

  within_same : (k : ℕ) (xs ys : List ℕ) (a b : Answer) → length ys ≡ length xs → a ≡ renamed_answer same.rename b → within u k ys a ≡ renamed_answer same.rename (within v k xs b)
  within_same k xs ys a b n e =
      (λ t. cond (ltb k (n t)) (e t) (answer Range Nothing)) ∙ through (ltb k (length xs))
    where
      through : (c : Bool) → cond c (renamed_answer same.rename b) (answer Range Nothing) ≡ renamed_answer same.rename (cond c b (answer Range Nothing))
      through true = refl
      through false = refl

  not_null_at : (x : ℕ) (f g : ℕ → Answer) → SeenWord v x → ((a : ℕ) → Seen v a → f (same.rename a) ≡ renamed_answer same.rename (g a)) →
      not_null u (renamed same.rename x) f ≡ renamed_answer same.rename (not_null v x g)
  not_null_at zero f g s e = refl
  not_null_at (suc a) f g s e = e a s

  object_same : (r : ℕ) (f g : ℕ → Answer) → ((a : ℕ) → Seen v a → f (same.rename a) ≡ renamed_answer same.rename (g a)) →
      not_null u (get_or u.roots r 0) f ≡ renamed_answer same.rename (not_null v (get_or v.roots r 0) g)
  object_same r f g e = ap (λ x. not_null u x f) (root_same r) ∙ not_null_at (get_or v.roots r 0) f g (root_word v r) e

  slot_count : (a : ℕ) → Seen v a → length (u.slots (same.rename a)) ≡ length (v.slots a)
  slot_count a s = ap length (same.slots a s) ∙ length-map (v.slots a) (renamed same.rename)

  slot_same : (a : ℕ) → Seen v a → (k : ℕ) → get_or (u.slots (same.rename a)) k 0 ≡ renamed same.rename (get_or (v.slots a) k 0)
  slot_same a s k = ap (λ xs. get_or xs k 0) (same.slots a s) ∙ get_or-renamed same.rename (v.slots a) k

  back_at : (x y : ℕ) → SeenWord v x → SeenWord v y → renamed same.rename x ≡ renamed same.rename y → x ≡ y
  back_at zero zero s t e = refl
  back_at zero (suc y) s t e = absurd (omega (arith, e))
  back_at (suc x) zero s t e = absurd (omega (arith, e))
  back_at (suc x) (suc y) s t e = let q : same.rename x ≡ same.rename y = omega (arith, e) in ap suc (same.one_to_one x y s t q)

  same_test : (r q : ℕ) → eqb (get_or u.roots r 0) (get_or u.roots q 0) ≡ eqb (get_or v.roots r 0) (get_or v.roots q 0)
  same_test r q =
      (λ t. eqb (root_same r t) (root_same q t))
      ∙ eqb-renamed same.rename (get_or v.roots r 0) (get_or v.roots q 0) (equal_or_not (get_or v.roots r 0) (get_or v.roots q 0))
      (back_at (get_or v.roots r 0) (get_or v.roots q 0) (root_word v r) (root_word v q))

  pub answers_agree : (c : Command) → answer_of u c ≡ renamed_answer same.rename (answer_of v c)
  answers_agree (New r refs values) = in_range_same r (answer Ok (MakeNew r refs values)) (answer Ok (MakeNew r refs values)) refl
  answers_agree (Get r q i) =
      in_range_same r _ _ (in_range_same q _ _ (object_same q _ _ (λ a s. within_same i (v.slots a) (u.slots (same.rename a)) _ _ (slot_count a s)
      (ap (λ x. answer Ok (SetRoot r x)) (slot_same a s i)))))
  answers_agree (Put r i q) =
      in_range_same r _ _ (in_range_same q _ _ (object_same r _ _ (λ a s. within_same i (v.slots a) (u.slots (same.rename a)) _ _ (slot_count a s)
      (ap (λ x. answer Ok (SetSlot (same.rename a) i x)) (root_same q)))))
  answers_agree (Set r i x) =
      in_range_same r _ _ (object_same r _ _ (λ a s. within_same i (v.values a) (u.values (same.rename a)) _ _ (ap length (same.values a s)) refl))
  answers_agree (Say r i) =
      in_range_same r _ _ (object_same r _ _ (λ a s. within_same i (v.values a) (u.values (same.rename a)) _ _ (ap length (same.values a s))
      (ap (λ xs. answer (Number (get_or xs i 0)) Nothing) (same.values a s))))
  answers_agree (Same r q) = in_range_same r _ _ (in_range_same q _ _ (ap (λ b. answer (Number (cond b 1 0)) Nothing) (same_test r q)))
  answers_agree (Copy r q) = in_range_same r _ _ (in_range_same q _ _ (ap (λ x. answer Ok (SetRoot r x)) (root_same q)))
  answers_agree (Drop r) = in_range_same r (answer Ok (SetRoot r 0)) (answer Ok (SetRoot r 0)) refl
  answers_agree (Pause b) = refl
