use Rattle.std.proofs.Common.{◌≡◌, ◌<◌, ◌+◌, ◌++◌, ℕ, List, [], ◌∷◌, Bor, length, get_or, map, sym, ◌∙◌, ap, arith}
use Rattle.std.specs.Prelude.{None}
use Rattle.std.proofs.lemmas.List.{take-map, get_or-map, length-map}
use Rattle.g1_text.specs.Graphs.{NamedRoot}
use Rattle.g1_text.specs.ByName.{read_root, read_holder}
use Rattle.g1_text.specs.Carried.{root_value, root_targets, stale_from, stale_at}
use Rattle.g1_text.proofs.Pushing.{push_mapped, push_stale, root_read}
use Rattle.g1_text.proofs.ByName.{root_count}
use Rattle.g1_text.proofs.filling.fill_roots.Goals as goal

abbrev no_line : ℕ × Bor (List ℕ)
no_line = (0, record { ref_ptr = (0, 0); now = [] })

abbrev no_root : NamedRoot
no_root = record { target = None; holder = None }

pub loop-number-preserved : goal.loop-number-preserved
loop-number-preserved c =
    let rs = c.args.lines.now.roots.items in
    let read = c.deref-line-items.result.now in
    let ats = c.args.addresses.now in
    let i = c.loop-number.number in
    let lt : i < length rs = omega (arith, c.loop-number-test.true, ap length c.deref-line-items.ensures.value) in
    let there : i < length read = omega (arith, c.loop-number-test.true, ap length c.deref-line-items.ensures.value) in
    record {
      words = λ g located.
          let count = root_count rs g.roots located.read.roots in
          let under : i < length g.roots = omega (arith, lt, count) in
          let named = root_read read g.roots i no_line no_root (ap (map read_root) c.deref-line-items.ensures.value ∙ located.read.roots) there in
          let is = c.in_ok-word.ensures.word g (get_or g.roots i no_root).target located (located.read.targets i no_root under) named in
          push_mapped (root_value g ats) g.roots no_root i under c.args.roots.now.items c.loop-number.roots.items c.push.new.self.items (c.loop-number.invariant.words g located)
          (c.in_ok-push.ensures.items ∙ ap (λ x. c.loop-number.roots.items ++ x ∷ []) is);
      stale = λ g located.
          let count = root_count rs g.roots located.read.roots in
          let under : i < length g.roots = omega (arith, lt, count) in
          let named = root_read read g.roots i no_line no_root (ap (map read_root) c.deref-line-items.ensures.value ∙ located.read.roots) there in
          let is = c.in_ok-word.ensures.stale g (get_or g.roots i no_root).target located (located.read.targets i no_root under) named in
          let old = map read_holder c.args.stale.now.names.items in
          let target : get_or (root_targets g) i None ≡ (get_or g.roots i no_root).target = get_or-map (λ (r : NamedRoot). r.target) g.roots i no_root None under in
          push_stale g 0 i i (root_targets g) old (map read_holder c.loop-number.stale.names.items) (map read_holder c.word.new.stale.names.items)
          (omega (arith, under, length-map g.roots (λ (r : NamedRoot). r.target))) (omega arith)
          (c.loop-number.invariant.stale g located ∙ ap (λ l. old ++ stale_from g 0 l) (sym (take-map (λ (r : NamedRoot). r.target) i g.roots)))
          (is ∙ ap (λ t. map read_holder c.loop-number.stale.names.items ++ stale_at g i t) (sym target))
          ∙ ap (λ l. old ++ stale_from g 0 l) (take-map (λ (r : NamedRoot). r.target) (i + 1) g.roots);
      noted = λ n. c.in_ok-word.ensures.noted (c.loop-number.invariant.noted n);
    }
