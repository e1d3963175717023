use Rattle.std.proofs.Common.{◌≡◌, ◌∙◌, inr, Bool, false, sym, subst}
use Rattle.std.specs.Prelude.{Option, Some, None, IfNone, is_some, Contains}
use Rattle.std.proofs.lemmas.Bool.{false≢true}
use Rattle.g1_words.specs.Heap.{Heap, objects, object_at}
use Rattle.g1heap_cli.proofs.explaining.check_object.Goals as goal

absent : {X : Type 0} (P : Type 0) (o : Option X) (b : Bool) → b ≡ is_some o → b ≡ false → IfNone o P → P
absent P None b e f p = p
absent P (Some x) b e f p = absurd (false≢true (sym f ∙ e))

pub returns-in-Ok : goal.returns-in-Ok
returns-in-Ok c = inr (
  subst (λ (h : Heap). Contains (objects h) (object_at h c.args.address) → ⊥) c.heap-heap.ensures.same (absent _ c.object_at.result c.is_some.result c.is_some.ensures c.if-is_some.false c.object_at.ensures.none),
  c.no_object.ensures,
)
