-- Bytes that wait and bytes that come, sent one part after the other.
use Rattle.std.proofs.Common.{◌≡◌, ℕ, ◌+◌, ◌≤◌, ◌<◌, List, [], ◌++◌, Bool, Option, Some, Result, Ok, Err, length, take, drop, refl, sym, ap, ◌∙◌, arith, append_assoc, append-nil}
use Rattle.std.proofs.Common.{length-append, length-drop, take-append-drop, length-take-le, subst}
use Rattle.std.specs.Prelude.{OnOk, IfErr}
use Rattle.std.proofs.Math.Seq.{take-append-add}
use lib.Seq.{take-append_seam}
use Rattle.std.specs.Io.KnownBytes.{Appends}
use Rattle.std.proofs.KnownBytes.{Appends-nil, Appends-trans}
use Rattle.g1_words.specs.declared.fault.Fault.{Fault}
use Rattle.g1_words.specs.declared.fault.Fault.TheVariants.{Device}
use Rattle.g1_words.specs.declared.fault.Device.TheVariants.{Output}
use Rattle.g1_image.specs.Source.{marked}
use Rattle.g1_image.specs.Sink.{Sent, SendFails, Writes, output_mark}

-- bytes put over what stands behind the bytes that wait
pub put_behind : (e n : ℕ) (d dst post : List ℕ) → e ≤ length d → length dst ≡ n → take (e + n) (take e d ++ (dst ++ post)) ≡ take e d ++ dst
put_behind e n d dst post within many =
    let len : length (take e d) ≡ e = length-take-le e d within in
    ap (λ (k : ℕ). take (k + n) (take e d ++ (dst ++ post))) (sym len) ∙ take-append-add (take e d) (dst ++ post) n
    ∙ ap (λ (l : List ℕ). take e d ++ l) (ap (λ (k : ℕ). take k (dst ++ post)) (sym many) ∙ take-append_seam dst post)

-- nothing comes, and nothing is written
pub sent_none : (a : Option (List ℕ)) (xs : List ℕ) → Sent a a xs [] xs
sent_none a xs = record { front = []; bytes = Appends-nil a; same = append-nil xs }

-- what comes waits, too
pub sent_waits : (a : Option (List ℕ)) (xs come ys : List ℕ) → ys ≡ xs ++ come → Sent a a xs come ys
sent_waits a xs come ys e = record { front = []; bytes = Appends-nil a; same = sym e }

-- one part, and then another
pub sent_more : (a b c : Option (List ℕ)) (xs ys zs come more : List ℕ) → Sent a b xs come ys → Sent b c ys more zs → Sent a c xs (come ++ more) zs
sent_more a b c xs ys zs come more p q = record {
  front = p.front ++ q.front;
  bytes = Appends-trans a b c p.front q.front p.bytes q.bytes;
  same = sym (append_assoc xs come more) ∙ ap (λ l. l ++ more) p.same ∙ append_assoc p.front ys more ∙ ap (λ l. p.front ++ l) q.same ∙ sym (append_assoc p.front q.front zs);
}

-- a part isn't all sent, and another would come behind it
pub fails_before : (a b : Option (List ℕ)) (xs come more : List ℕ) (e : Fault) → SendFails a b xs come e → SendFails a b xs (come ++ more) e
fails_before a b xs come more e p =
    let left : List ℕ = p.1.0 in
    let sent = p.1.2 in
    let longer : 0 < length (left ++ more) = omega (arith, p.1.1, length-append left more) in (
      p.0,
      (
        left ++ more,
        longer,
        record {
          front = sent.front;
          bytes = sent.bytes;
          same = sym (append_assoc xs come more) ∙ ap (λ l. l ++ more) sent.same ∙ append_assoc sent.front left more;
        },
      ),
    )

-- a part was sent, and the next isn't all sent
pub fails_behind : (a b c : Option (List ℕ)) (xs ys come more : List ℕ) (e : Fault) → Sent a b xs come ys → SendFails b c ys more e → SendFails a c xs (come ++ more) e
fails_behind a b c xs ys come more e p q = (q.0, (q.1.0, q.1.1, sent_more a b c xs ys q.1.0 come more p q.1.2))

-- a write of all that waits failed
pub fails_all : (a b : Option (List ℕ)) (xs : List ℕ) (e : Fault) → (e ≡ Device Output) × ((k : ℕ) × (k < length xs) × Appends a b (take k xs)) → SendFails a b xs [] e
fails_all a b xs e p =
    let k : ℕ = p.1.0 in
    let some : 0 < length (drop k xs) = omega (arith, p.1.1, length-drop k xs) in
    (p.0, (drop k xs, some, record { front = take k xs; bytes = p.1.2; same = append-nil xs ∙ sym (take-append-drop k xs) }))

-- a part of what is to be sent in all was sent, and the rest of it comes
pub record Sending (old new : Option (List ℕ)) (waited whole left rest : List ℕ) : Type 0 where
  pub part : List ℕ
  pub sent : Sent old new waited part left
  pub behind : part ++ rest ≡ whole

pub sending_none : (a : Option (List ℕ)) (xs whole : List ℕ) → Sending a a xs whole xs whole
sending_none a xs whole = record { part = []; sent = sent_none a xs; behind = refl }

pub sending_all : (a b : Option (List ℕ)) (xs ys whole rest : List ℕ) → Sending a b xs whole ys rest → rest ≡ [] → Sent a b xs whole ys
sending_all a b xs ys whole rest s e = subst (λ l. Sent a b xs l ys) (sym (append-nil s.part) ∙ ap (λ l. s.part ++ l) (sym e) ∙ s.behind) s.sent

pub sending_more : (a b c : Option (List ℕ)) (xs ys zs whole rest come more : List ℕ) → Sending a b xs whole ys rest → rest ≡ come ++ more → Sent b c ys come zs → Sending a c xs whole zs more
sending_more a b c xs ys zs whole rest come more p e q = record {
  part = p.part ++ come;
  sent = sent_more a b c xs ys zs p.part come p.sent q;
  behind = append_assoc p.part come more ∙ ap (λ l. p.part ++ l) (sym e) ∙ p.behind;
}

pub sending_fails : (a b c : Option (List ℕ)) (xs ys whole rest come more : List ℕ) (e : Fault) → Sending a b xs whole ys rest → rest ≡ come ++ more →
    SendFails b c ys come e → SendFails a c xs whole e
sending_fails a b c xs ys whole rest come more e p is q =
    let all : p.part ++ (come ++ more) ≡ whole = ap (λ l. p.part ++ l) (sym is) ∙ p.behind in
    subst (λ l. SendFails a c xs l e) all (fails_behind a b c xs ys p.part (come ++ more) e p.sent (fails_before b c ys come more e q))

-- all was sent, and nothing waits: it is written
pub all_written : (a b c : Option (List ℕ)) (front words ys : List ℕ) → Sent a b front words ys → Sent b c ys [] [] → Appends a c (front ++ words)
all_written a b c front words ys p q =
    let all : Sent a c front (words ++ []) [] = sent_more a b c front ys [] words [] p q in
    subst (Appends a c) (sym (append-nil all.front) ∙ sym all.same ∙ ap (λ l. front ++ l) (append-nil words)) all.bytes

-- not all was sent: a beginning is written
pub part_written : (a b : Option (List ℕ)) (front words : List ℕ) (e : Fault) → SendFails a b front words e → Writes (front ++ words) a b (Err e)
part_written a b front words e p =
    let left : List ℕ = p.1.0 in
    let sent = p.1.2 in
    let short : length sent.front < length (front ++ words) = omega (arith, p.1.1, ap length sent.same, length-append sent.front left) in
    let is : take (length sent.front) (front ++ words) ≡ sent.front = ap (take (length sent.front)) sent.same ∙ take-append_seam sent.front left in
    subst (λ f. Writes (front ++ words) a b (Err f)) (sym p.0) (length sent.front, short, subst (Appends a b) (sym is) sent.bytes)

-- the last of what waits is written, or not all of it
pub rest_written : (a b c : Option (List ℕ)) (front words ys zs : List ℕ) (r : Result (Unit {0}) Fault) → Sent a b front words ys
    → OnOk r (Sent b c ys [] zs) → OnOk r (zs ≡ []) → IfErr r (SendFails b c ys []) → Writes (front ++ words) a c r
rest_written a b c front words ys zs (Ok u) p q none f = all_written a b c front words ys p (subst (Sent b c ys []) none q)
rest_written a b c front words ys zs (Err e) p q none f = subst (λ l. Writes (front ++ l) a c (Err e)) (append-nil words)
    (part_written a c front (words ++ []) e (fails_behind a b c front ys words [] e p f))

-- a run that fails by the output alone has told of it
pub output_told : (old new : Bool) (a b : Option (List ℕ)) (xs come : List ℕ) (r : Result (Unit {0}) Fault) → new ≡ marked old r → IfErr r (SendFails a b xs come) → new ≡ output_mark old r
output_told old new a b xs come (Ok u) m f = m
output_told old new a b xs come (Err e) m f = subst (λ x. new ≡ output_mark {X = Unit {0}} old (Err x)) (sym f.0) m

-- a text that is written into an empty list is the list's
pub list_written : (a b : Option (List ℕ)) (xs ys text : List ℕ) → a ≡ Some xs → xs ≡ [] → Appends a b text → Some ys ≡ b → ys ≡ text
list_written a b xs ys text ea none w eb =
    let s : Appends (Some xs) (Some ys) text = subst (λ l. Appends (Some xs) l text) (sym eb) (subst (λ l. Appends l b text) ea w) in
    s ∙ ap (λ l. l ++ text) none
