use Rattle.std.proofs.Common.{◌≡◌, inl, inr, refl, sym, ◌∙◌}
use Rattle.g1_words.specs.declared.fault.Fault.TheVariants.{Memory, Geometry as Outside}
use Rattle.g1_trace.proofs.Texts.{bad_first}
use Rattle.g1_trace.proofs.Tellings.{begins}
use Rattle.g1_trace.proofs.running.begin.Goals as goal

pub returns-in_default-first_line-clause-refused : goal.returns-in_default-first_line-clause-refused
returns-in_default-first_line-clause-refused c = inr (inl (
  1,
  refl,
  bad_first c.args.bytes.now c.in-Some.first.now c.in-Some.rest.now c.in-Some.ensures.some.0 c.in-Some.ensures.some.1 c.in_default-first_line.ensures.none,
))

pub outside-requires : goal.outside-requires
outside-requires c =
    let n = c.in-Some-first_line in
    record {
      sizes = record { w = n.w; k = n.k; n = n.n };
      roots = n.roots;
      rest = c.in-Some.rest.now;
      begins = begins c.args.bytes.now c.in-Some.first.now c.in-Some.rest.now n.w n.k n.n n.roots c.in-Some.ensures.some.0 n.ensures.some n.ensures.fits;
      outside = λ h. elim c.in-Err-Geometry.ensures.refused [
        | inl memory ↦ (let clash : Outside ≡ Memory = sym c.in-Err-Geometry.field-0-is ∙ memory in cc)
        | inr out ↦ out.1 h
      ];
    }

pub returns-in-Ok-clause-ok : goal.returns-in-Ok-clause-ok
returns-in-Ok-clause-ok c =
    let n = c.in-Some-first_line in
    record {
      sizes = record { w = n.w; k = n.k; n = n.n };
      roots = n.roots;
      begins = begins c.args.bytes.now c.in-Some.first.now c.in-Some.rest.now n.w n.k n.n n.roots c.in-Some.ensures.some.0 n.ensures.some n.ensures.fits;
      limits = c.in-Ok.ensures.limits;
      start = c.in-Ok.ensures.ok;
    }
