-- The reply of `same`, from what functions inside hand on.
use Rattle.std.proofs.Common.{◌≡◌, ℕ, zero, suc, Bool, true, false, true≢false, List, [], ◌++◌, codes, Option, None, Result, Ok, Err, refl, sym, subst}
use Rattle.std.specs.Prelude.{IfOk}
use Rattle.g1_command.specs.declared.refusal.Refusal.{Refusal}
use Rattle.std.specs.Io.KnownBytes.{Appends}
use Rattle.std.proofs.KnownBytes.{Appends-nil, Appends-trans}
use Rattle.g1_image.specs.Image.{Image}
use Rattle.g1_report.specs.declared.sides.Side.{Side}
use Rattle.g1heap_request.specs.declared.options.Same.{Same}
use Rattle.g1heap_cli.specs.Streams.{LeavesBehind}
use Rattle.g1heap_cli.specs.SameReplies.{IsSideOf, IsCoveredBeside, AddsCover, IsSameText}
use Rattle.g1heap_cli.specs.SamePassed.{TakesSaid, TakesCover, TakesReply}

module _ (same : Same) (old now new : Option (List ℕ)) where
  -- cover is not asked
  pub no_cover : (i : Image) (status : ℕ) → (status ≡ 0 → same.covered ≡ true → ⊥) → TakesCover same i status status old old
  no_cover i status not =
      record { is = refl; behind = []; cover = at same.covered status not; taken = Appends-nil old }
    where
      at : (covered : Bool) (status : ℕ) → (status ≡ 0 → covered ≡ true → ⊥) → AddsCover covered status same.young.items i []
      at true zero not = absurd (not refl refl)
      at true (suc n) not = refl
      at false status not = refl

  -- it is asked
  pub with_cover : (i : Image) (status s : ℕ) → status ≡ 0 → same.covered ≡ true → IsCoveredBeside same.young.items i → s ≡ 0 → Appends old new (codes "covered\n")
      → TakesCover same i status s old new
  with_cover i status s none asked is end p =
      subst (λ n. TakesCover same i n s old new) (sym none) (record { is = end; behind = codes "covered\n"; cover = at same.covered asked; taken = p })
    where
      at : (covered : Bool) → covered ≡ true → AddsCover covered 0 same.young.items i (codes "covered\n")
      at true asked = (refl, is)
      at false asked = absurd (true≢false (sym asked))

  -- what is said of the sides, and cover behind it
  pub reply_of : (left left_names : Option (List ℕ)) (before after : Side) (status s : ℕ) → IsSideOf same.limits same.after.bytes.items left after
      → LeavesBehind same.after.bytes.items left left_names → TakesSaid same left_names before after status old now → TakesCover same after.image status s now new
      → TakesReply same left before s old new
  reply_of left left_names before after status s side unread said cover =
      subst (λ n. TakesReply same left before n old new) (sym cover.is) (record {
        asked = said.asked;
        front = said.text;
        behind = cover.behind;
        is_before = said.is_before;
        after = subst (IsSideOf same.limits same.after.bytes.items left) (sym said.is_after) side;
        left_names = left_names;
        unread = unread;
        said = said.said;
        cover = subst (λ (x : Side). AddsCover same.covered status same.young.items x.image cover.behind) (sym said.is_after) cover.cover;
        taken = Appends-trans old now new said.text cover.behind said.taken cover.taken;
      })

  -- the reply, by both files
  pub whole : (left left_after : Option (List ℕ)) (before : Side) (s : ℕ) → IsSideOf same.limits same.before.bytes.items left before → before.stale ≡ None
      → LeavesBehind same.before.bytes.items left left_after → TakesReply same left_after before s old new → (text : List ℕ) × IsSameText same left s text × Appends old new text
  whole left left_after before s side none unread r = (
    r.front ++ r.behind,
    (
      r.asked,
      r.front,
      r.behind,
      record {
        before = subst (IsSideOf same.limits same.before.bytes.items left) (sym r.is_before) side;
        whole = subst (λ (x : Side). x.stale ≡ None) (sym r.is_before) none;
        left_after = left_after;
        unread = unread;
        after = r.after;
        left_names = r.left_names;
        unread_after = r.unread;
        said = r.said;
      },
      r.cover,
      refl,
    ),
    r.taken,
  )

-- the same of a result
pub covered : (same : Same) (old new : Option (List ℕ)) (i : Image) (status : ℕ) (r : Result ℕ Refusal) → status ≡ 0 → same.covered ≡ true → IfOk r (λ s. IsCoveredBeside same.young.items i)
    → IfOk r (λ s. (s ≡ 0) × Appends old new (codes "covered\n")) → IfOk r (λ s. TakesCover same i status s old new)
covered same old new i status (Ok s) none asked is line = with_cover same old old new i status s none asked is line.0 line.1
covered same old new i status (Err why) none asked is line = tt

pub replied : (same : Same) (old now new left left_names : Option (List ℕ)) (before after : Side) (status : ℕ) (r : Result ℕ Refusal) → IsSideOf same.limits same.after.bytes.items left after
    → LeavesBehind same.after.bytes.items left left_names → TakesSaid same left_names before after status old now → IfOk r (λ s. TakesCover same after.image status s now new)
    → IfOk r (λ s. TakesReply same left before s old new)
replied same old now new left left_names before after status (Ok s) side unread said cover = reply_of same old now new left left_names before after status s side unread said cover
replied same old now new left left_names before after status (Err why) side unread said cover = tt

pub compared : (same : Same) (old new left left_after : Option (List ℕ)) (before : Side) (r : Result ℕ Refusal) → IsSideOf same.limits same.before.bytes.items left before → before.stale ≡ None
    → LeavesBehind same.before.bytes.items left left_after → IfOk r (λ s. TakesReply same left_after before s old new)
    → IfOk r (λ s. (text : List ℕ) × IsSameText same left s text × Appends old new text)
compared same old new left left_after before (Ok s) side none unread reply = whole same old old new left left_after before s side none unread reply
compared same old new left left_after before (Err why) side none unread reply = tt
