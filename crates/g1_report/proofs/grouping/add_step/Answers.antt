use Rattle.std.proofs.Common.{◌≡◌, ◌<◌, ◌+◌, ◌-◌, ◌∷◌, ◌++◌, ◌∙◌, ℕ, List, [], length, map, set, get_or, sym, ap, refl, arith, true, false, string_bytes}
use Rattle.std.specs.Str.{bytes_eq}
use Rattle.std.specs.Vec.{vec_len}
use Rattle.std.proofs.lemmas.List.{set-get_or, map-set, get_or-map, length-map, map-append}
use Rattle.g1_report.specs.declared.grouping.Group.{Group}
use Rattle.g1_report.specs.Gathered.{group_of}
use Rattle.g1_report.proofs.Runs.{added_last, added_other, added_first}
use Rattle.g1_report.proofs.grouping.add_step.Goals.{in-Some+else-eq, in_default}
use Rattle.g1_report.proofs.grouping.add_step.Goals as goal

-- the last group, as a pair
last_group : (items : List Group) (n : ℕ) (g : Group) → n < length items → g ≡ get_or items n g → group_of g ≡ get_or (map group_of items) n (group_of g)
last_group items n g lt e = ap group_of e ∙ sym (get_or-map group_of items n g (group_of g) lt)

pub returns-then-eq : goal.returns-then-eq
returns-then-eq c = λ steps e few.
    let items = c.args.groups.now.items in
    let n = vec_len c.args.groups.now - 1 in
    let g : Group = c.in-Some.group.now in
    let some : 0 < vec_len c.args.groups.now = c.in-Some.ensures.variant.0 refl in
    let all : vec_len c.args.groups.now ≡ length items = c.args.groups.now.ok.0 in
    let last : n + 1 ≡ length (map group_of items) = omega (arith, some, all, length-map items group_of) in
    let same : bytes_eq (string_bytes g.step) c.args.step.now ≡ true = ap (λ x. bytes_eq x c.args.step.now) (sym c.as_str.ensures.value) ∙ sym c.eq.ensures ∙ c.if-eq.true in
    map-set group_of items n (record { step = g.step; count = c.saturating_add-group.result })
    ∙ added_last (map group_of items) steps n (group_of g) c.args.step.now c.saturating_add-group.result e few last
    (last_group items n g (omega (arith, some, all)) c.in-Some.ensures.value) same c.saturating_add-group.ensures

-- a group of one step behind the others
one_behind : (old now new : List Group) (g : Group) (s : List ℕ) → now ≡ old → new ≡ now ++ g ∷ [] → group_of g ≡ (s, 1) → map group_of new ≡ map group_of old ++ (s, 1) ∷ []
one_behind old now new g s e p q = ap (map group_of) (p ∙ ap (λ x. x ++ g ∷ []) e) ∙ map-append group_of old (g ∷ []) ∙ ap (λ x. map group_of old ++ x ∷ []) q

no_true : false ≡ true → ⊥
no_true e = cc

no_items : (items : List Group) → (0 < length items → ⊥) → items ≡ []
no_items [] h = refl
no_items (x ∷ xs) h = absurd (h (omega arith))

pub returns : goal.returns
returns c = λ steps e few.
    let items = c.args.groups.now.items in
    let s = c.args.step.now in
    let g : Group = record { step = c.in_ok-step.step; count = 1 } in
    let is : group_of g ≡ (s, 1) = ap (λ (x : List ℕ). (x, 1)) c.in_ok-step.ensures.ok in
    elim c.match-last_mut.branch [
      | in-Some+else-eq w ↦
          let last : Group = w.in-Some.group.now in
          let n = vec_len c.args.groups.now - 1 in
          let some : 0 < vec_len c.args.groups.now = w.in-Some.ensures.variant.0 refl in
          let all : vec_len c.args.groups.now ≡ length items = c.args.groups.now.ok.0 in
          let other : bytes_eq (string_bytes last.step) s ≡ false = ap (λ x. bytes_eq x s) (sym w.as_str.ensures.value) ∙ sym w.eq.ensures ∙ w.if-eq.false in
          let end : n + 1 ≡ length (map group_of items) = omega (arith, some, all, length-map items group_of) in
          one_behind items c.match-last_mut.groups.items c.push.new.self.items g s (ap (λ v. v.items) w.groups-is ∙ ap (set items n) w.in-Some.ensures.value ∙ set-get_or items n last) c.in_ok-push.ensures.items is
          ∙ added_other (map group_of items) steps n (group_of last) s e end (last_group items n last (omega (arith, some, all)) w.in-Some.ensures.value) other
      | in_default w ↦
          let none : 0 < vec_len c.args.groups.now → ⊥ = λ lt. no_true (w.in_default.ensures.variant.1 lt) in
          let all : vec_len c.args.groups.now ≡ length items = c.args.groups.now.ok.0 in
          one_behind items c.match-last_mut.groups.items c.push.new.self.items g s (ap (λ v. v.items) w.groups-is) c.in_ok-push.ensures.items is
          ∙ added_first (map group_of items) steps s e (ap (map group_of) (no_items items (λ lt. none (omega (arith, all, lt)))))
    ]
