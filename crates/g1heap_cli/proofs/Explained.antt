-- The reply of `explain`, from the explanation that was made.
use Rattle.std.proofs.Common.{◌≡◌, ℕ, List, Result, Ok, Err, sym, subst, Vec, Global}
use Rattle.std.specs.Prelude.{Option, Some, None, String, string_bytes, IfOk, IfSome}
use Rattle.std.specs.Option.{option_map}
use Rattle.g1_image.specs.Image.{Image, IsTextWithin}
use Rattle.g1_choose.specs.declared.parameters.Cost.{Cost}
use Rattle.g1_pause.specs.declared.settings.Choice.{Choice}
use Rattle.g1_explain.specs.declared.explaining.Explanation.{Explanation}
use Rattle.g1_explain.specs.declared.form.Form.{Form}
use Rattle.g1_explain.specs.Explained.{IsExplained}
use Rattle.g1_pause.specs.Settings.{Settings}
use Rattle.g1heap_request.specs.declared.image_file.ImageFile.{ImageFile}
use Rattle.g1heap_request.specs.declared.options.Explain.{Explain}
use Rattle.g1heap_cli.specs.Replies.{IsExplainReply}
use Rattle.g1heap_cli.specs.Streams.{KeepsNamed, HoldsOfKept, LeavesBehind}
use Rattle.g1heap_cli.specs.Texts.{IsPauseText, IsExplanation, EndsWith, AsksFor, form_of}

-- the text of the explanation, with the status that it ends with
pub answered : {X E : Type 0} (cost : Cost) (choice : Choice) (form : Form) (i : Image) (x : Explanation) (r : Result X E) (status : X → ℕ) (text : X → String Global)
    → IsExplained cost choice form i (string_bytes x.text) x.refused → IfOk r (λ y. text y ≡ x.text) → IfOk r (λ y. EndsWith x.refused form (status y))
    → IfOk r (λ y. IsPauseText cost choice form i (status y) (text y).bytes.items)
answered cost choice form i x (Err e) status text h same ends = tt
answered cost choice form i x (Ok y) status text h same ends = (x.refused, subst (λ (t : String Global). IsExplained cost choice form i t.bytes.items x.refused) (sym same) h, ends)

-- what is known of standard input is what was read
pub left_read : (left known : Option (List ℕ)) (bytes : List ℕ) → IfSome left (λ xs. known ≡ Some xs) → IfSome known (λ xs. xs ≡ bytes) → IfSome left (λ xs. xs ≡ bytes)
left_read None known bytes p q = tt
left_read (Some xs) None bytes p q = cc
left_read (Some xs) (Some ys) bytes p q = cc

-- the explanation of the image in the bytes that were read is the reply
pub replied : {X E : Type 0} (e : Explain) (left rest : Option (List ℕ)) (s : Settings) (file : ImageFile) (kept : Option (Vec ℕ Global)) (i : Image) (r : Result X E) (status : X → ℕ)
    (text : X → List ℕ) → LeavesBehind e.image.name.bytes.items left rest → file ≡ e.image → KeepsNamed (λ (v : Vec ℕ Global). v.items) e.image.name.bytes.items left kept
    → HoldsOfKept (λ (v : Vec ℕ Global). v.items) kept (λ xs. IsTextWithin file.limits xs i) → s.cost ≡ e.cost → AsksFor e.budget e.set.items s.choice
    → IfOk r (λ x. IsExplanation s.cost s.choice (form_of e.map) e.names rest i (status x) (text x)) → IfOk r (λ x. IsExplainReply e left (status x) (text x))
replied e left rest s file kept i (Err why) status text leaves same keeps read cost asks h = tt
replied e left rest s file kept i (Ok x) status text leaves same keeps read cost asks h = (
  rest,
  leaves,
  (
    read.0,
    (
      s.choice,
      asks,
      (
        i,
        subst (λ (f : ImageFile). IsTextWithin f.limits read.0 i) same read.1,
        subst (λ (c : Cost). IsExplanation c s.choice (form_of e.map) e.names rest i (status x) (text x)) cost h,
      ),
    ),
    λ dash. left_read left (option_map (λ (v : Vec ℕ Global). v.items) kept) read.0 (keeps dash) read.2,
  ),
)
