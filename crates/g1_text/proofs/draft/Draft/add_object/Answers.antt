use Rattle.std.proofs.Common.{◌≡◌, ◌≤◌, ◌<◌, ℕ, ◌*◌, ◌^◌, ◌+◌, ◌-◌, List, [], ◌∷◌, ◌++◌, length, map, append_assoc, sym, ◌∙◌, ap, subst, arith}
use Rattle.std.specs.Prelude.{Option, IfSome}
use Rattle.std.proofs.lemmas.Result.{MatchResult-weaker}
use Rattle.g1_words.specs.Geometry.{Geometry}
use Rattle.g1_words.specs.declared.region.Kind.{Kind}
use Rattle.g1_words.specs.declared.region.Kind.TheVariants.{Ordinary, HumongousFirst, Free, Continuation}
use Rattle.g1_text.specs.Content.{Content, HasSpace, top_behind, beyond_behind, size_with}
use Rattle.g1_text.specs.Drafts.{content, address_of_object}
use Rattle.g1_text.specs.Short.{ObjectAs, IsShortLine, TellsNumber, TellsContent}
use Rattle.g1_text.proofs.Results.{ok_one, not_both}
use Rattle.g1_text.proofs.Gathering.{map_push}
use Rattle.g1_text.proofs.Shortening.{size_no_number, count_is}
use Rattle.g1_text.proofs.Spelled.{front_and_rest, behind_word, one_front, number_told}
use Rattle.std.specs.Prelude.{codes}
use Rattle.std.proofs.lemmas.Result.{on_ok_weaker}
use Rattle.g1_text.specs.Forms.{Number, Maybe, Single, Spells, HasSize, Holding, IsReferenceWord, SizeAndWords, ◌▸◌, HasFront, HasFirst}
use Rattle.g1_text.proofs.Fronts.{begins_with, then_all, maybe_number, read_one}
use Rattle.g1_text.proofs.draft.Draft.add_object.Goals as goal

-- an object's address is within its region
top_within : (k : Kind) (g : Geometry) (r t size : ℕ) → HasSpace k g r t size → t ≤ g.w
top_within Ordinary g r t size room = omega (arith, room.1)
top_within HumongousFirst g r t size room = omega (arith, room.0)
top_within Free g r t size room = absurd room
top_within Continuation g r t size room = absurd room

-- the address, the size, and what stands behind it
told : (at : Option ℕ) (slots values : List ℕ) (given : Option ℕ) {words : List (List ℕ)} → IsShortLine (ObjectAs at slots values given) (codes "object" ∷ words)
    → (middle last : List (List ℕ)) × HasFirst (HasSize (size_with slots values) (length slots)) middle last × HasFront (TellsNumber at) words middle × TellsContent slots values given last
told at slots values given h =
    let size = HasSize (size_with slots values) (length slots) in
    let behind = Single size ▸ TellsContent slots values given in
    let one = front_and_rest (TellsNumber at) behind (behind_word (codes "object") (codes "object") (TellsNumber at ▸ behind) h) in
    let two = front_and_rest (Single size) (TellsContent slots values given) one.2 in
    (one.0, two.0, one_front size two.1, one.1, two.2)

-- a size is no number
no_number : {size slots : ℕ} {word : List ℕ} → HasSize size slots word → (n : ℕ) → Spells (2 ^ 64) n word → ⊥
no_number h n says = size_no_number h.0 h.1 n (subst (Spells (2 ^ 64) n) h.2 says)

pub returns-in_err-size-clause-short : goal.returns-in_err-size-clause-short
returns-in_err-size-clause-short c = λ at slots values given after e gives.
    let takes = gives.2 in
    let parts = told at slots values given e in
    let number = number_told at parts.2.0 c.args.words c.take_number-told.new.self parts.0 parts.1 _ c.take_number-told.result
    c.take_number-told.ensures.full c.take_number-told.ensures.digits (no_number parts.2.2) parts.3 parts.2.1 in
    let read = c.size.ensures.full (size_with slots values) (length slots) parts.2.0 parts.1 (omega arith) parts.2.2 number.1 in
    absurd (not_both c.in_err-size.was read.0)

pub returns-in_err-follows-clause-short : goal.returns-in_err-follows-clause-short
returns-in_err-follows-clause-short c = λ at slots values given after e gives.
    let takes = gives.2 in
    let q = takes.1 in
    let parts = told at slots values given e in
    let number = number_told at parts.2.0 c.args.words c.take_number-told.new.self parts.0 parts.1 _ c.take_number-told.result
    c.take_number-told.ensures.full c.take_number-told.ensures.digits (no_number parts.2.2) parts.3 parts.2.1 in
    let next = c.next_address-at.ensures takes.0 q takes.4 takes.6 (top_within q.kind c.args.self.now.geometry (length takes.0) q.top (size_with slots values) takes.9) in
    absurd (c.in_err-follows.ensures (subst (λ told. IfSome told (λ t. t ≡ c.next_address-at.result)) (sym number.0) (count_is at gives.0 c.next_address-at.result gives.1 (takes.7 ∙ sym next))))

pub returns-in_err-take_room-clause-short : goal.returns-in_err-take_room-clause-short
returns-in_err-take_room-clause-short c = λ at slots values given after e gives.
    let takes = gives.2 in
    let g = c.args.self.now.geometry in
    let q = takes.1 in
    let parts = told at slots values given e in
    let number = number_told at parts.2.0 c.args.words c.take_number-told.new.self parts.0 parts.1 _ c.take_number-told.result
    c.take_number-told.ensures.full c.take_number-told.ensures.digits (no_number parts.2.2) parts.3 parts.2.1 in
    let read = c.size.ensures.full (size_with slots values) (length slots) parts.2.0 parts.1 (omega arith) parts.2.2 number.1 in
    let pair = ok_one c.in_ok-size.was read.0 in
    let size = ap (λ x. x.0) pair in
    let room = c.take_room.ensures.room takes.0 q takes.4 takes.6 (subst (λ n. n < 2 ^ 32) (sym size) takes.10) (subst (λ n. HasSpace q.kind g (length takes.0) q.top n) (sym size) takes.9) in
    absurd (not_both c.in_err-take_room.was room.0)

pub returns-clause-short : goal.returns-clause-short
returns-clause-short c = λ at slots values given after e gives.
    let takes = gives.2 in
    let s = content c.args.self.now in
    let g = c.args.self.now.geometry in
    let below = takes.0 in
    let q = takes.1 in
    let parts = told at slots values given e in
    let number = number_told at parts.2.0 c.args.words c.take_number-told.new.self parts.0 parts.1 _ c.take_number-told.result
    c.take_number-told.ensures.full c.take_number-told.ensures.digits (no_number parts.2.2) parts.3 parts.2.1 in
    let read = c.size.ensures.full (size_with slots values) (length slots) parts.2.0 parts.1 (omega arith) parts.2.2 number.1 in
    let pair = ok_one c.in_ok-size.was read.0 in
    let size : c.in_ok-size.size ≡ length slots + length values + 1 = ap (λ x. x.0) pair in
    let refs : c.in_ok-size.slots ≡ length slots = ap (λ x. x.1) pair in
    let others : c.saturating_sub-data.result ≡ length values = omega (arith, c.saturating_sub-data.ensures, c.saturating_sub.ensures, size, refs) in
    let taken = c.take_room.ensures.room below q takes.4 takes.6 (subst (λ n. n < 2 ^ 32) (sym size) takes.10) (subst (λ n. HasSpace q.kind g (length below) q.top n) (sym size) takes.9) in
    let room = taken.1
    ∙ ap (λ n. record s { regions = below ++ record q { top = top_behind q.kind g q.top n } ∷ []; beyond = beyond_behind q.kind g s.beyond n }) size in
    let next = c.next_address-at.ensures below q takes.4 takes.6 (top_within q.kind g (length below) q.top (size_with slots values) takes.9) in
    let had_ats = ap (λ (x : Content). x.addresses) room in
    let placed = ap (map address_of_object) c.in_ok-push.ensures.items ∙ map_push address_of_object c.take_room.new.self.objects.items _ in
    let ats = placed ∙ (λ i. had_ats i ++ (next ∙ sym takes.7) i ∷ []) in
    let had = ap (λ (x : Content). x.words) room in
    let headed = c.in_ok-push-2.ensures.items ∙ (λ i. had i ++ (c.header_word.ensures ∙ (λ j. size j * 2 ^ 32 + refs j)) i ∷ []) in
    let more = ap (λ xs. xs ++ (slots ++ values)) headed ∙ append_assoc s.words ((size_with slots values * 2 ^ 32 + length slots) ∷ []) (slots ++ values) in
    let counts = c.count_object.ensures.counts takes.2 takes.3 (ap (λ (x : Content). x.counts) room ∙ takes.5) takes.13 in
    let added = c.add_content.ensures.short slots values given refs others (omega (arith, refs, others, takes.10)) gives.3 (subst (TellsContent slots values given) (sym read.1) parts.4) in
    MatchResult-weaker c.add_content.result added (λ _ e. (λ i. record (room i) { words = (e ∙ more) i; counts = counts i; addresses = ats i }) ∙ sym takes.14) (λ _ m. m)

pub returns-clause-form : goal.returns-clause-form
returns-clause-form c =
    let size = c.in_ok-size.size in
    let slots = c.in_ok-size.slots in
    let others : c.saturating_sub-data.result ≡ size - slots - 1 = omega (arith, c.saturating_sub-data.ensures, c.saturating_sub.ensures) in
    on_ok_weaker c.add_content.result
    (λ held. begins_with (codes "object") (Maybe Number ▸ SizeAndWords IsReferenceWord) c.args.words
    (then_all (Maybe Number) (SizeAndWords IsReferenceWord) (maybe_number c.take_number-told.result _ c.take_number-told.ensures.digits) (
      size,
      slots,
      c.in_ok-size.ensures.within,
      c.in_ok-take_room.ensures.small,
      then_all (Single (HasSize size slots)) (Holding IsReferenceWord slots (size - slots - 1)) (read_one (HasSize size slots) c.in_ok-size.ensures.form)
          (subst (λ n. Holding IsReferenceWord slots n c.size.new.words) others held),
    )))
    (c.add_content.ensures.form (omega (arith, c.in_ok-size.ensures.within, others, c.in_ok-take_room.ensures.small)))
