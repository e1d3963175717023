use Rattle.std.proofs.Common.{◌≡◌, ◌∙◌, ℕ, zero, suc, [], false, map, length, get_or, replicate, slice_index_or, take, refl, sym, ap, subst, arith}
use Rattle.std.specs.Borrow.{Bor}
use Rattle.std.proofs.lemmas.List.{length-replicate, take_all}
use Rattle.std.proofs.lemmas.Result.{err_from_is_err_and}
use Rattle.std.specs.List.{IsDistinct}
use Rattle.g1_words.specs.Lists.{has}
use Rattle.clap.specs.Words.{Text}
use Rattle.g1_command.specs.declared.lists.Named.{Named}
use Rattle.g1_command.specs.Lists.{AddsParts, IsNamed, parts_of}
use Rattle.g1_command.proofs.Got.{because_so}
use Rattle.g1_command.proofs.Listed.{adds_join, lists_stop, no_regions, parts_in, parts_more, regions_read}
use Rattle.g1_command.proofs.lists.regions_in.Goals as goal

-- nothing is named yet
none_named : (n : ℕ) (named : Named) → n ≡ 4096 → named.regions.items ≡ [] → named.seen ≡ replicate n false → IsNamed named
unfolding IsDistinct
none_named n named e none marks = record {
  once = rw none tt;
  room = ap length marks ∙ length-replicate n false ∙ e;
  marked = λ r lt. ap (λ m. slice_index_or m r false) marks ∙ unset n r ∙ ap (λ xs. has xs r) (sym none);
} where
  unset : (n r : ℕ) → slice_index_or (replicate n false) r false ≡ false
  unset zero r = refl
  unset (suc n) zero = refl
  unset (suc n) (suc r) = unset n r

-- what a place past the last list would hold
abbrev past : Bor Text
past = record { ref_ptr = (0, 0); now = [] }

pub loop-list-init : goal.loop-list-init
loop-list-init c = (sym c.new.ensures.items, none_named 4096 _ refl c.new.ensures.items c.in_ok-none.ensures)

pub loop-list-preserved : goal.loop-list-preserved
loop-list-preserved c = (
  subst (λ ps. AddsParts ps [] c.push_list.new.named.regions.items) (sym (parts_more c.args.lists.now c.loop-list.list-index past c.loop-list-test.true))
      (adds_join (parts_in (take c.loop-list.list-index c.args.lists.now)) (parts_of (get_or c.args.lists.now c.loop-list.list-index past).now) [] c.loop-list.named.regions.items c.push_list.new.named.regions.items c.loop-list.invariant.0 c.in_ok-push_list.ensures.added),
  c.in_ok-push_list.ensures.marked,
)

pub returns-in_err-push_list-clause-refused : goal.returns-in_err-push_list-clause-refused
returns-in_err-push_list-clause-refused c =
    let p = err_from_is_err_and c.from_residual-in_err-push_list.result c.from_residual-in_err-push_list.ensures.1 in
    rw (p.1, p.2) (because_so
    (λ none. no_regions (map (λ s. s.now) c.args.lists.now) (lists_stop c.args.lists.now c.loop-list.list-index past c.loop-list.named.regions.items c.loop-list-test.true c.loop-list.invariant.0 none))
    c.in_err-push_list.field-0.0 c.in_err-push_list.ensures.refused)

pub returns-clause-regions : goal.returns-clause-regions
returns-clause-regions c =
    regions_read (map (λ s. s.now) c.args.lists.now) c.loop-list.named.regions.items
    (subst (λ xs. AddsParts (parts_in xs) [] c.loop-list.named.regions.items) (take_all c.loop-list.list-index c.args.lists.now (omega (arith, c.loop-list-test.false))) c.loop-list.invariant.0)
    c.loop-list.invariant.1.once
