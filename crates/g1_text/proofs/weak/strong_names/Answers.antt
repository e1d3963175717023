use Rattle.std.proofs.Common.{◌≡◌, true, ℕ, List, Bor, map, flat_map, All, sym, ◌∙◌, ap, subst}
use Rattle.std.specs.List.{list_any}
use Rattle.std.specs.Str.{bytes_eq}
use Rattle.std.proofs.lemmas.List.Elements.{All-weaker}
use Rattle.g1_text.specs.Weak.{root_name}
use Rattle.g1_text.specs.Marking.{texts, has_name, kept_line, line_words, AreFound}
use Rattle.g1_text.proofs.Marks.{none_marked, roots_strong, all_marked}
use Rattle.g1_text.proofs.weak.strong_names.Goals as goal

pub returns : goal.returns
returns c = λ lines known.
    let marked = has_name c.follow.new.self.strong in
    let kept = kept_line c.follow.new.self.objects in
    let roots : texts c.as_slice.result.now ≡ flat_map root_name lines = ap texts c.as_slice.ensures.value ∙ known.roots in
    let start = none_marked lines (has_name c.new.result) (kept_line c.args.known.objects) (λ name. ap (λ ks. list_any (λ (k : Bor (List ℕ)). bytes_eq name k.now) ks) c.new.ensures.empty) known.objects in
    let begun = subst (λ u. AreFound lines (has_name c.new.result) (kept_line c.args.known.objects) (map line_words u)) (sym c.new-2.ensures.items) start in
    let found = c.in_ok-follow.ensures.found lines (c.in_ok-mark_roots.ensures.found lines (roots_strong lines (texts c.as_slice.result.now) roots) begun) in
    let all = All-weaker (λ (name : List ℕ). has_name c.mark_roots.new.self.strong name ≡ true) (λ (name : List ℕ). marked name ≡ true) c.in_ok-follow.ensures.stay (texts c.as_slice.result.now)
    c.in_ok-mark_roots.ensures.marked in
    all_marked lines marked kept (subst (λ u. AreFound lines marked kept (map line_words u)) c.in_ok-follow.ensures.done found) (subst (All (λ (name : List ℕ). marked name ≡ true)) roots all)
