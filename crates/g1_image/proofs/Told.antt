-- A text that is read from a source: what its front and its words make of all of it.
use Rattle.std.proofs.Common.{◌≡◌, ◌≢◌, ◌<◌, ◌⊎◌, inl, inr, ℕ, ◌*◌, Bool, true, false, List, [], ◌∷◌, ◌++◌, Option, Some, None, length, drop}
use Rattle.std.proofs.Common.{arith, refl, sym, ap, subst, ◌∙◌, append_assoc, append-nil, length-append}
use Rattle.std.specs.Prelude.{IfSome, IfOk, IfErr, Result, Ok, Err}
use Rattle.std.proofs.lemmas.List.{get_or_append_left}
use Rattle.std.specs.Io.KnownBytes.{Keeps, Consumes, IsAtEnd, prepend_known}
use Rattle.std.proofs.KnownBytes.{prepend_known-nil, prepend_known-read}
use Rattle.g1_words.specs.declared.fault.Fault.{Fault}
use Rattle.g1_words.specs.declared.fault.Fault.TheVariants as fault
use Rattle.g1_words.specs.declared.fault.Device.TheVariants as device
use Rattle.g1_words.specs.declared.limits.Limits.{Limits}
use Rattle.g1_image.specs.declared.cursor.Heading.{Heading}
use Rattle.g1_image.specs.declared.cursor.Version.TheVariants.{One}
use Rattle.g1_image.specs.Text.{Entry, Version, magic, heading_text, table_words}
use Rattle.g1_image.specs.Reading.{IsBytes}
use Rattle.g1_image.specs.Faults.{FaultWithin, TableFault, MayFailWithin}
use Rattle.g1_image.specs.Reading.{FailsIf}
use Rattle.g1_image.specs.Stale.{IsTextFault, FaultWithout}
use Rattle.g1_image.specs.Plain.{PlainIs, FrontFits, front_text}
use Rattle.g1_image.specs.Source.{HoldsOfLeft, ReadFails, IsReadOut, input_mark}
use Rattle.g1_image.specs.Ahead.{TakeFails, TextFails}
use Rattle.g1_image.proofs.Files.{front_read, front_text-flat, front_short, plain_trailing}

-- a text isn't read where a read for it fails
pub read_fails : (limits : Limits) (l m n : Bool) (a : Option (List ℕ)) (e : Fault) → m ≡ l → ReadFails m n e → TextFails limits l n a e
read_fails limits l m n a fault.Memory same h = h ∙ same
read_fails limits l m n a (fault.Device device.Input) same h = h
read_fails limits l m n a (fault.Device device.Output) same h = absurd h
read_fails limits l m n a _ same h = absurd h

-- it was read out all the same, or wanted memory
pub read_out_failed : (X : Type 0) (m n : Bool) (left : Option (List ℕ)) (e : Fault) → ReadFails m n e → IsReadOut {X = X} left (Err e)
read_out_failed X m n left fault.Memory h = tt
read_out_failed X m n left (fault.Device device.Input) h = tt
read_out_failed X m n left (fault.Device device.Output) h = absurd h
read_out_failed X m n left _ h = absurd h

-- what isn't a fault of the bytes may leave some of them
pub not_read_out : (X : Type 0) (left : Option (List ℕ)) (e : Fault) → (e ≡ fault.Memory) ⊎ (e ≡ fault.Device device.Input) → IsReadOut {X = X} left (Err e)
not_read_out X left e (inl p) = subst (λ x. IsReadOut {X = X} left (Err x)) (sym p) tt
not_read_out X left e (inr p) = subst (λ x. IsReadOut {X = X} left (Err x)) (sym p) tt

-- the mark tells whether a read failed
pub text_mark : (limits : Limits) (X : Type 0) (m n : Bool) (a : Option (List ℕ)) (e : Fault) → TextFails limits m n a e → n ≡ input_mark {X = X} m (Err e)
text_mark limits X m n a fault.Memory h = h
text_mark limits X m n a (fault.Device device.Input) h = h
text_mark limits X m n a (fault.Device device.Output) h = absurd h
text_mark limits X m n a e h = h.0

-- a fault of the bytes leaves it as it was
pub text_unmarked : (limits : Limits) (m n : Bool) (a : Option (List ℕ)) (e : Fault) → TextFails limits m n a e → e ≢ fault.Device device.Input → n ≡ m
text_unmarked limits m n a fault.Memory h ne = h
text_unmarked limits m n a (fault.Device device.Input) h ne = absurd (ne refl)
text_unmarked limits m n a (fault.Device device.Output) h ne = absurd h
text_unmarked limits m n a e h ne = h.0

memory_may : {limits : Limits} (a : Option (List ℕ)) → HoldsOfLeft a (λ xs. MayFailWithin limits xs fault.Memory)
memory_may None = ([], inl refl, tt)
memory_may (Some x) = (x, inl refl, refl)

-- a text isn't read because a read failed, or for its own fault, or for want of memory
pub text_may : (limits : Limits) (m n : Bool) (a : Option (List ℕ)) (e : Fault) → TextFails limits m n a e → (e ≡ fault.Device device.Input) ⊎ HoldsOfLeft a (λ xs. MayFailWithin limits xs e)
text_may limits m n a fault.Memory h = inr (memory_may a)
text_may limits m n a (fault.Device device.Input) h = inl refl
text_may limits m n a (fault.Device device.Output) h = absurd h
text_may limits m n a e h = inr (h.1.0, inr h.1.1, h.1.2)

-- a wrong magic is wrong whatever follows
pub magic_stays : (limits : Limits) (bytes more : List ℕ) → FaultWithin limits bytes fault.Magic → FaultWithin limits (bytes ++ more) fault.Magic
magic_stays limits bytes more h = λ v.
    let x = h v in
    (x.0, x.1, omega (arith, x.2, length-append bytes more), λ e. x.3 (sym (get_or_append_left bytes more 0 x.0 x.2) ∙ e))

-- a wrong heading too
pub geometry_stays : {limits : Limits} (bytes more : List ℕ) → FaultWithin limits bytes fault.Geometry → FaultWithin limits (bytes ++ more) fault.Geometry
geometry_stays bytes more x =
    (x.0, x.1, x.2 ++ more, x.3, ap (λ l. l ++ more) x.4 ∙ append_assoc (magic x.0) (heading_text x.1 ++ x.2) more ∙ ap (λ l. magic x.0 ++ l) (append_assoc (heading_text x.1) x.2 more), x.5)

-- what holds of the bytes that wait, whatever is left behind them, holds of all
of_waiting : (a l : Option (List ℕ)) (w : List ℕ) (P : List ℕ → Type 0) → Keeps a (prepend_known w l) → P w → IfSome l (λ ys. P (w ++ ys)) → HoldsOfLeft a P
of_waiting None l w P kept now h = (w, now, tt)
of_waiting (Some x) None w P kept now h = absurd kept
of_waiting (Some x) (Some y) w P kept now h = (w ++ y, h, sym kept)

-- at the end the bytes that wait are all
pub at_end : (l : Option (List ℕ)) (w : List ℕ) (P : List ℕ → Type 0) → IsAtEnd l → P w → IfSome l (λ ys. P (w ++ ys))
at_end None w P end h = tt
at_end (Some y) w P end h = subst P (sym (append-nil w) ∙ ap (λ l. w ++ l) (sym end)) h

pub whatever_follows : (l : Option (List ℕ)) (w : List ℕ) (P : List ℕ → Type 0) → ((ys : List ℕ) → P (w ++ ys)) → IfSome l (λ ys. P (w ++ ys))
whatever_follows None w P h = tt
whatever_follows (Some y) w P h = h y

-- the fault of the bytes that wait is that of all
pub text_fault : (limits : Limits) (m n : Bool) (a l : Option (List ℕ)) (w : List ℕ) (e : Fault) → n ≡ m → Keeps a (prepend_known w l) → FaultWithin limits w e → IfSome l (λ ys. FaultWithin limits (w ++ ys) e) → TextFails limits m n a e
text_fault limits m n a l w fault.Memory same kept f h = same
text_fault limits m n a l w (fault.Device device.Input) same kept f h = absurd f.3
text_fault limits m n a l w (fault.Device device.Output) same kept f h = absurd f.3
text_fault limits m n a l w e same kept f h = (same, of_waiting a l w (λ xs. FaultWithin limits xs e) kept f h)

pub front_fails : (limits : Limits) (m n : Bool) (a l : Option (List ℕ)) (w : List ℕ) (e : Fault) → n ≡ m → Keeps a (prepend_known w l) → MayFailWithin limits w e →
    (FaultWithin limits w e → IfSome l (λ ys. FaultWithin limits (w ++ ys) e)) → TextFails limits m n a e
front_fails limits m n a l w e same kept (inl p) h = subst (TextFails limits m n a) (sym p) same
front_fails limits m n a l w e same kept (inr f) h = text_fault limits m n a l w e same kept f (h f)

-- the front is taken from the bytes that wait
pub front_taken : (v : Version) (h : Heading) (table : List Entry) (roots log : List ℕ) (remembered : List (List ℕ)) (a l : Option (List ℕ))
    (w bytes new : List ℕ) (count : ℕ) → Keeps a (prepend_known w l) → bytes ≡ w →
    bytes ≡ front_text v h table roots log remembered (drop count bytes) → new ≡ drop count w → Consumes a (prepend_known new l) (front_text v h table roots log remembered [])
front_taken v h table roots log remembered a l w bytes new count kept same text e =
    let rest : drop count bytes ≡ new = ap (drop count) same ∙ sym e in
    (prepend_known-read a l w new (front_text v h table roots log remembered []) ⊥ kept
    (sym same ∙ text ∙ ap (λ k. front_text v h table roots log remembered k) rest ∙ front_text-flat v h table roots log remembered new) (λ x. absurd x)).0

-- no bytes at all are too few
none_are_short : {limits : Limits} → FaultWithin limits [] fault.Short
none_are_short = inl (One, magic One, refl, omega arith)

module _ (limits : Limits) (v : Version) (h : Heading) (table : List Entry) (roots log : List ℕ) (remembered : List (List ℕ)) (fits : FrontFits limits v h table roots log remembered) where
  -- the front was taken, and then the words aren't all there
  pub words_fail : (m n o : Bool) (a b : Option (List ℕ)) (e : Fault) → n ≡ m → Consumes a b (front_text v h table roots log remembered []) →
      TakeFails n o b (8 * table_words table) e → TextFails limits m o a e
  words_fail m n o a b fault.Memory same p f = f ∙ same
  words_fail m n o a b (fault.Device device.Input) same p f = f
  words_fail m n o a b fault.Short same p f = (f.0 ∙ same, of a b p f.1) where
    of : (a b : Option (List ℕ)) → Consumes a b (front_text v h table roots log remembered []) → IfSome b (λ xs. length xs < 8 * table_words table) → HoldsOfLeft a (λ xs. FaultWithin limits xs fault.Short)
    of None b p f = ([], none_are_short, tt)
    of (Some x) None p f = absurd p
    of (Some x) (Some y) p f = (x, subst (λ l. FaultWithin limits l fault.Short) (front_text-flat v h table roots log remembered y ∙ sym p) (front_short v h table roots log remembered y fits f), refl)
  words_fail m n o a b _ same p f = absurd f

  -- the front and the words were taken
  module _ (bs : List ℕ) (are : IsBytes bs) (size : length bs ≡ 8 * table_words table) where
    pub whole_text : PlainIs limits (front_text v h table roots log remembered bs) v h table roots log remembered bs
    whole_text = (front_read v h table roots log remembered bs fits are).whole size

    -- and bytes wait behind them
    pub bytes_behind : (a b c l : Option (List ℕ)) (w : List ℕ) → Consumes a b (front_text v h table roots log remembered []) → Consumes b c bs → Keeps c (prepend_known w l) → 0 < length w →
        HoldsOfLeft a (λ xs. FaultWithin limits xs fault.Trailing)
    bytes_behind None b c l w p q kept lt =
        (front_text v h table roots log remembered bs ++ w, plain_trailing (front_text v h table roots log remembered bs) v h table roots log remembered bs w whole_text lt, tt)
    bytes_behind (Some x) None c l w p q kept lt = absurd p
    bytes_behind (Some x) (Some y) None l w p q kept lt = absurd q
    bytes_behind (Some x) (Some y) (Some z) None w p q kept lt = absurd kept
    bytes_behind (Some x) (Some y) (Some z) (Some u) w p q kept lt =
        let all : x ≡ front_text v h table roots log remembered bs ++ (w ++ u) =
        p ∙ ap (λ k. front_text v h table roots log remembered [] ++ k) (q ∙ ap (λ k. bs ++ k) (sym kept))
        ∙ sym (append_assoc (front_text v h table roots log remembered []) bs (w ++ u)) ∙ ap (λ k. k ++ (w ++ u)) (sym (front_text-flat v h table roots log remembered bs)) in
        let trails = plain_trailing (front_text v h table roots log remembered bs) v h table roots log remembered bs (w ++ u) whole_text (omega (arith, lt, length-append w u)) in
        (x, subst (λ k. FaultWithin limits k fault.Trailing) (sym all) trails, refl)

    -- and none do
    pub all_taken : (a b c l : Option (List ℕ)) (w : List ℕ) → Consumes a b (front_text v h table roots log remembered []) → Consumes b c bs → Keeps c (prepend_known w l) → IsAtEnd l → length w < 1 →
        IfSome a (λ xs. xs ≡ front_text v h table roots log remembered bs)
    all_taken None b c l w p q kept end lt = tt
    all_taken (Some x) None c l w p q kept end lt = absurd p
    all_taken (Some x) (Some y) None l w p q kept end lt = absurd q
    all_taken (Some x) (Some y) (Some z) None w p q kept end lt = absurd kept
    all_taken (Some x) (Some y) (Some z) (Some u) (i ∷ w) p q kept end lt = absurd (omega (arith, lt))
    all_taken (Some x) (Some y) (Some z) (Some u) [] p q kept end lt =
        p ∙ ap (λ k. front_text v h table roots log remembered [] ++ k) (q ∙ ap (λ k. bs ++ k) (sym kept ∙ end) ∙ append-nil bs) ∙ sym (front_text-flat v h table roots log remembered bs)

-- where none waits, what is left is still to be taken
pub none_waits : (w : List ℕ) (a : Option (List ℕ)) → w ≡ [] → prepend_known w a ≡ a
none_waits w a e = ap (λ x. prepend_known x a) e ∙ prepend_known-nil a

-- bytes have no fault of the input
pub no_input : {limits : Limits} (bytes : List ℕ) → MayFailWithin limits bytes (fault.Device device.Input) → ⊥
no_input bytes (inl p) = absurd (let clash : fault.Device device.Input ≡ fault.Memory = p in cc)
no_input bytes (inr f) = f.3

-- nor of the output
no_output : (limits : Limits) (bytes : List ℕ) (e : Fault) → MayFailWithin limits bytes e → e ≢ fault.Device device.Output
no_output limits bytes e (inl p) q = absurd (let clash : fault.Device device.Output ≡ fault.Memory = sym q ∙ p in cc)
no_output limits bytes e (inr f) q = (subst (FaultWithin limits bytes) q f).3

-- so a read has none of the output, whatever its source
pub unread_no_output : (limits : Limits) (left : Option (List ℕ)) (e : Fault) → (e ≡ fault.Device device.Input) ⊎ HoldsOfLeft left (λ xs. MayFailWithin limits xs e) → e ≢ fault.Device device.Output
unread_no_output limits left e (inl p) q = absurd (let clash : fault.Device device.Output ≡ fault.Device device.Input = sym q ∙ p in cc)
unread_no_output limits left e (inr h) q = no_output limits h.0 e h.1 q

-- an answer that the bytes decide leaves the mark
pub mark_stays : (limits : Limits) {X : Type 0} (m n : Bool) (bytes : List ℕ) (r : Result X Fault) → IfErr r (λ e. MayFailWithin limits bytes e) → n ≡ m → n ≡ input_mark m r
mark_stays limits m n bytes (Ok x) h same = same
mark_stays limits m n bytes (Err (fault.Device device.Input)) h same = absurd (no_input bytes h)
mark_stays limits m n bytes (Err e) h same = same

pub if_err : {X : Type 0} (r : Result X Fault) (P Q : Fault → Type 0) → ((e : Fault) → P e → Q e) → IfErr r P → IfErr r Q
if_err (Ok x) P Q f h = tt
if_err (Err e) P Q f h = f e h

-- a text in memory isn't read for its own fault, or for want of memory
pub memory_fault : (limits : Limits) (bytes : List ℕ) (e : Fault) → TextFails limits false false (Some (bytes ++ [])) e → MayFailWithin limits bytes e
memory_fault limits bytes fault.Memory h = inl refl
memory_fault limits bytes (fault.Device device.Input) h = absurd (let clash : false ≡ true = h in cc)
memory_fault limits bytes (fault.Device device.Output) h = absurd h
memory_fault limits bytes e h = inr (subst (λ l. FaultWithin limits l e) (sym h.1.2 ∙ append-nil bytes) h.1.1)

-- a fault that isn't that memory is wanted is that of the bytes
pub not_memory : (limits : Limits) (bytes : List ℕ) (e : Fault) → MayFailWithin limits bytes e → e ≢ fault.Memory → FaultWithin limits bytes e
not_memory limits bytes e (inl p) ne = absurd (ne p)
not_memory limits bytes e (inr h) ne = h

-- a source at its end was read out, whatever the answer
pub read_out_at_end : {X : Type 0} (left : Option (List ℕ)) (r : Result X Fault) → IsAtEnd left → IsReadOut left r
read_out_at_end left (Ok x) h = h
read_out_at_end left (Err fault.Memory) h = tt
read_out_at_end left (Err (fault.Device device.Input)) h = tt
read_out_at_end left (Err e) h = h

pub if_ok : {X : Type 0} (r : Result X Fault) (P Q : X → Type 0) → ((x : X) → P x → Q x) → IfOk r P → IfOk r Q
if_ok (Ok x) P Q f h = f x h
if_ok (Err e) P Q f h = tt

-- ---- which faults the steps of reading return

pub short_text : (e : Fault) (P : Type 0) → FailsIf e P → IsTextFault e
short_text fault.Memory P h = tt
short_text fault.Short P h = tt
short_text _ P h = absurd h

pub read_text : (m n : Bool) (e : Fault) → ReadFails m n e → IsTextFault e
read_text m n fault.Memory h = tt
read_text m n (fault.Device d) h = tt
read_text m n _ h = absurd h

pub take_text : (m n : Bool) (a : Option (List ℕ)) (w : ℕ) (e : Fault) → TakeFails m n a w e → IsTextFault e
take_text m n a w fault.Memory h = tt
take_text m n a w (fault.Device d) h = tt
take_text m n a w fault.Short h = tt
take_text m n a w _ h = absurd h

text_without : (limits : Limits) (bytes : List ℕ) (e : Fault) → IsTextFault e → FaultWithin limits bytes e → FaultWithout limits bytes e
text_without limits bytes (fault.Reference p) t f = absurd t
text_without limits bytes (fault.Card s) t f = absurd t
text_without limits bytes e t f = f

-- a fault that is found first is one whatever the words reference
pub may_without : (limits : Limits) (bytes : List ℕ) (e : Fault) → IsTextFault e → MayFailWithin limits bytes e → (e ≡ fault.Memory) ⊎ FaultWithout limits bytes e
may_without limits bytes e t (inl m) = inl m
may_without limits bytes e t (inr f) = inr (text_without limits bytes e t f)

table_fault : (limits : Limits) (bytes : List ℕ) (table : List Entry) (n : ℕ) (e : Fault) → TableFault table n e → FaultWithin limits bytes e → FaultWithout limits bytes e
table_fault limits bytes table n (fault.Reference p) t f = absurd t
table_fault limits bytes table n (fault.Card s) t f = absurd t
table_fault limits bytes table n e t f = f

-- and so is one of the table
pub table_without : (limits : Limits) (bytes : List ℕ) (table : List Entry) (n : ℕ) (e : Fault) → (e ≡ fault.Memory) ⊎ TableFault table n e → MayFailWithin limits bytes e → (e ≡ fault.Memory) ⊎ FaultWithout limits bytes e
table_without limits bytes table n e (inl m) f = inl m
table_without limits bytes table n e (inr t) (inl m) = inl m
table_without limits bytes table n e (inr t) (inr f) = inr (table_fault limits bytes table n e t f)

pub mark_without : (limits : Limits) {X : Type 0} (m n : Bool) (bytes : List ℕ) (r : Result X Fault) → IfErr r (λ e. (e ≡ fault.Memory) ⊎ FaultWithout limits bytes e) → n ≡ m → n ≡ input_mark m r
mark_without limits m n bytes (Ok x) h same = same
mark_without limits m n bytes (Err (fault.Device device.Input)) h same = absurd (no_input bytes h)
mark_without limits m n bytes (Err e) h same = same
