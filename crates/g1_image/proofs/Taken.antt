-- Bytes that wait, and bytes that are taken from a source one part after the other.
use Rattle.std.proofs.Common.{◌≡◌, ◌≤◌, ◌<◌, ℕ, zero, suc, ◌+◌, ◌-◌, Bool, List, [], ◌∷◌, ◌++◌, Option, Some, None, length, take, drop, slice_range, arith, refl, sym, ap, ◌∙◌, append_assoc}
use Rattle.std.proofs.Common.{length-append, length-take, drop-drop, take-append-drop, length-take-le}
use Rattle.std.specs.Prelude.{IfSome, IsFalse}
use Rattle.std.proofs.lemmas.List.{take-append-le, drop-take}
use Rattle.std.proofs.Math.Seq.{take-append-add}
use lib.Seq.{drop-append-le}
use Rattle.std.specs.Io.KnownBytes.{Keeps, Consumes, IsAtEnd, prepend_known}
use Rattle.std.proofs.KnownBytes.{Consumes-nil, Consumes-trans, prepend_known-read}
use Rattle.g1_words.specs.declared.fault.Fault.{Fault}
use Rattle.g1_words.specs.declared.fault.Fault.TheVariants as fault
use Rattle.g1_words.specs.declared.fault.Device.TheVariants as device
use Rattle.g1_image.specs.Reading.{IsBytes}
use Rattle.g1_image.specs.Source.{ReadFails}
use Rattle.g1_image.specs.Buffer.{IsReadAhead}
use Rattle.g1_image.specs.Ahead.{Takes, TakeFails}

-- bytes read over what stands behind the bytes that wait
pub read_behind : (s e n : ℕ) (d buf post : List ℕ) → s ≤ e → e ≤ length d → n ≤ length buf → slice_range (take e d ++ (buf ++ post)) s (e + n) ≡ slice_range d s e ++ take n buf
read_behind s e n d buf post le within some =
    let front : List ℕ = take e d in
    let len : length (take e d) ≡ e = length-take-le e d within in
    let far : s + (e + n - s) ≡ e + n = omega (arith, le) in
    let near : s + (e - s) ≡ e = omega (arith, le) in
    let cut : take (e + n) (take e d ++ (buf ++ post)) ≡ take e d ++ take n buf =
    ap (λ (k : ℕ). take (k + n) (take e d ++ (buf ++ post))) (sym len) ∙ take-append-add (take e d) (buf ++ post) n ∙ ap (λ (l : List ℕ). take e d ++ l) (take-append-le n buf post some) in
    sym (drop-take s (e + n - s) (take e d ++ (buf ++ post)))
    ∙ ap (λ (k : ℕ). drop s (take k (take e d ++ (buf ++ post)))) far ∙ ap (drop s) cut ∙ drop-append-le s (take e d) (take n buf) (omega (arith, len, le))
    ∙ ap (λ (l : List ℕ). l ++ take n buf) (ap (λ (k : ℕ). drop s (take k d)) (sym near) ∙ drop-take s (e - s) d)

-- what was read waits behind what waited
pub keeps_read : (a b : Option (List ℕ)) (old new bs : List ℕ) → new ≡ old ++ bs → Consumes a b bs → Keeps (prepend_known old a) (prepend_known new b)
keeps_read None b old new bs e p = tt
keeps_read (Some x) None old new bs e p = absurd p
keeps_read (Some x) (Some y) old new bs e p = ap (λ l. l ++ y) e ∙ append_assoc old bs y ∙ ap (λ l. old ++ l) (sym p)

-- the first of the bytes that wait are let go
pub range_passed : (xs : List ℕ) (s e n : ℕ) → n ≤ length (slice_range xs s e) → slice_range xs (s + n) e ≡ drop n (slice_range xs s e)
range_passed xs s e n le =
    let whole : n + (e - (s + n)) ≡ e - s = omega (arith, le, length-take (e - s) (drop s xs)) in
    ap (take (e - (s + n))) (sym (drop-drop n s xs)) ∙ sym (drop-take n (e - (s + n)) (drop s xs)) ∙ ap (λ k. drop n (take k (drop s xs))) whole

bytes_append : (xs ys : List ℕ) → IsBytes xs → IsBytes ys → IsBytes (xs ++ ys)
bytes_append [] ys bx b i = b i
bytes_append (x ∷ xs) ys bx b zero = bx 0
bytes_append (x ∷ xs) ys bx b (suc i) = bytes_append xs ys (λ k. bx (suc k)) b i

bytes_take : (n : ℕ) (xs : List ℕ) → IsBytes xs → IsBytes (take n xs)
bytes_take zero xs b i = omega arith
bytes_take (suc n) [] b i = omega arith
bytes_take (suc n) (x ∷ xs) b zero = b 0
bytes_take (suc n) (x ∷ xs) b (suc i) = bytes_take n xs (λ k. b (suc k)) i

pub takes_none : (m : Bool) (a : Option (List ℕ)) → Takes m m a a []
takes_none m a = record { mark = refl; bytes = Consumes-nil a; are_bytes = λ i. omega arith }

-- one part, and then another
pub takes_more : (l m n : Bool) (a b c : Option (List ℕ)) (bs cs : List ℕ) → Takes l m a b bs → Takes m n b c cs → Takes l n a c (bs ++ cs)
takes_more l m n a b c bs cs p q = record {
  mark = q.mark ∙ p.mark;
  bytes = Consumes-trans a b c bs cs p.bytes q.bytes;
  are_bytes = bytes_append bs cs p.are_bytes q.are_bytes;
}

-- the first of the bytes that wait
pub takes_front : (m n : Bool) (a l : Option (List ℕ)) (old new : List ℕ) (k : ℕ) → n ≡ m → Keeps a (prepend_known old l) → IsBytes old →
    new ≡ drop k old → Takes m n a (prepend_known new l) (take k old)
takes_front m n a l old new k same kept b e = record {
  mark = same;
  bytes = (prepend_known-read a l old new (take k old) ⊥ kept (sym (take-append-drop k old) ∙ ap (λ x. take k old ++ x) (sym e)) (λ x. absurd x)).0;
  are_bytes = bytes_take k old b;
}

few_left : (a b : Option (List ℕ)) (bs : List ℕ) (n k : ℕ) → Consumes a b bs → IfSome b (λ xs. length xs < n) → length bs + n ≤ k → IfSome a (λ xs. length xs < k)
few_left None b bs n k p h le = tt
few_left (Some x) None bs n k p h le = absurd p
few_left (Some x) (Some y) bs n k p h le = omega (arith, h, le, ap length p, length-append bs y)

-- a part was taken, and the next isn't there
pub fails_after : (l m n : Bool) (a b : Option (List ℕ)) (bs : List ℕ) (i k : ℕ) (e : Fault) → Takes l m a b bs → TakeFails m n b i e → length bs + i ≤ k → TakeFails l n a k e
fails_after l m n a b bs i k fault.Memory p h le = h ∙ p.mark
fails_after l m n a b bs i k (fault.Device device.Input) p h le = h
fails_after l m n a b bs i k fault.Short p h le = (h.0 ∙ p.mark, few_left a b bs i k p.bytes h.1 le)
fails_after l m n a b bs i k _ p h le = absurd h

-- nothing is taken where a read fails
pub read_takes_none : (m n : Bool) (a : Option (List ℕ)) (k : ℕ) (e : Fault) → ReadFails m n e → TakeFails m n a k e
read_takes_none m n a k fault.Memory h = h
read_takes_none m n a k (fault.Device device.Input) h = h
read_takes_none m n a k _ h = absurd h

few_wait : (a l : Option (List ℕ)) (w : List ℕ) (k : ℕ) → Keeps a (prepend_known w l) → IsAtEnd l → length w < k → IfSome a (λ xs. length xs < k)
few_wait None l w k kept end lt = tt
few_wait (Some x) None w k kept end lt = absurd kept
few_wait (Some x) (Some y) w k kept end lt = omega (arith, ap length kept, length-append w y, ap length end, lt)

-- the bytes end before so many of them wait
pub ends_short : (m n : Bool) (a l : Option (List ℕ)) (w : List ℕ) (k : ℕ) (found : Bool) → IsReadAhead m n a (prepend_known w l) l w k found → IsFalse found → TakeFails m n a k fault.Short
ends_short m n a l w k found r none = (r.mark, few_wait a l w k r.kept (r.ended none).0 (r.ended none).1)

-- bytes wait, and none is taken
pub takes_nothing : (m n : Bool) (a b : Option (List ℕ)) → n ≡ m → Keeps a b → Takes m n a b []
takes_nothing m n a b same kept = record { mark = same; bytes = none a b kept; are_bytes = λ i. omega arith } where
  none : (a b : Option (List ℕ)) → Keeps a b → Consumes a b []
  none None b kept = tt
  none (Some x) None kept = absurd kept
  none (Some x) (Some y) kept = sym kept
