-- What clap reads of a table, from the steps that build its command.
use Rattle.std.proofs.Common.{◌≡◌, ◌<◌, ◌≤◌, ◌∙◌, ◌++◌, ◌+◌, ◌&&◌, ℕ, suc, Bool, true, false, List, [], length, max, get_or, drop, Option, Some, None, refl, sym, ap, arith, drop-cons, drop_of_length-le}
use Rattle.std.specs.Prelude.{IsSomeAnd, option_map, if◌then◌else◌}
use Rattle.std.specs.List.{fold}
use Rattle.std.specs.Option.{option_map_or}
use Rattle.std.specs.Borrow.{Bor}
use Rattle.std.proofs.lemmas.Bool.{false≢true}
use Rattle.clap.specs.Walk.{is_empty, is_free_arg, texts}
use Rattle.clap.specs.Simple.{app_of_fields}
use Rattle.clap.specs.Words.{App, Rule, Text, app_of, new_app, new_rule, rule_of}
use Rattle.clap.specs.declared.builder.command.Command.{Command}
use Rattle.clap.specs.declared.builder.command.Command.TheViews.{out-Command}
use Rattle.clap.specs.declared.builder.command.Command.TheOpen.{Command-F}
use Rattle.clap.specs.declared.builder.arg.Arg.{Arg}
use Rattle.clap.specs.declared.builder.action.ArgAction.{ArgAction}
use Rattle.clap.specs.declared.builder.range.ValueRange.{ValueRange}
use Rattle.clap.specs.declared.builder.texts.Texts.{Texts}
use Rattle.clap.specs.declared.builder.texts.Texts.TheVariants.{Many}
use Rattle.g1_command.specs.declared.table.Argument.{Argument}
use Rattle.g1_command.specs.Table.{is_place, least_values, most_values, action_by, is_needed, rule_by, no_command}

-- an argument that had no rule on another one has one if it conflicts with some
freed : (x y w z : Bool) → (x && (y && z)) ≡ true → (x && (w && z)) ≡ w
freed true true true true e = refl
freed true true false true e = refl
freed true true w false e = absurd (false≢true e)
freed true false w z e = absurd (false≢true e)
freed false y w z e = absurd (false≢true e)

-- the argument behind the steps from a new one
pub steps_made : (a0 a1 a2 a3 a4 a5 a6 : Arg) (help : Option (Bor Text)) (names defaults : Texts) (action : ArgAction) (needed : Bool)
    → a1 ≡ record a0 { help = help } → a2 ≡ record a1 { val_names = names } → a3 ≡ record a2 { num_vals = a3.num_vals } → a4 ≡ record a3 { action = Some action }
    → a5 ≡ record a4 { required = needed } → a6 ≡ record a5 { default_vals = defaults }
    → a6 ≡ record a0 { help = help; val_names = names; num_vals = a3.num_vals; action = Some action; required = needed; default_vals = defaults }
steps_made a0 a1 a2 a3 a4 a5 a6 help names defaults action needed e1 e2 e3 e4 e5 e6 =
    e6
    ∙ ap (λ (a : Arg). record a { default_vals = defaults }) (e5
    ∙ ap (λ (a : Arg). record a { required = needed }) (e4
    ∙ ap (λ (a : Arg). record a { action = Some action }) (e3
    ∙ ap (λ (a : Arg). record a { num_vals = a3.num_vals }) (e2
    ∙ ap (λ (a : Arg). record a { val_names = names }) e1))))

pub range_is : (o : Option ValueRange) (x : ValueRange) → IsSomeAnd o (λ r. r ≡ x) → o ≡ Some x
range_is None x h = absurd h
range_is (Some r) x h = ap Some h

or_none : (o : Option ℕ) → option_map_or (λ x. Some x) o None ≡ o
or_none None = refl
or_none (Some x) = refl

-- the rule of an argument with the names that the table has for it
named_rule : (t : Argument) (a7 a8 : Arg) (b : Bool) → (b ≡ true → a8 ≡ a7)
    → (b ≡ false → a8 ≡ record a7 { long = Some t.id; short = option_map_or (λ x. Some x) t.letter a7.short })
    → option_map (λ (s : Bor Text). s.now) a7.long ≡ None → a7.short ≡ None
    → (rule_of a8 ≡ record (rule_of a7) { long = if b then None else Some t.id.now; short = if b then None else t.letter }) × (a8.global ≡ a7.global)
named_rule t a7 a8 true place named long short =
    (ap rule_of (place refl) ∙ (λ k. record (rule_of a7) { long = long k; short = short k }), ap (λ (a : Arg). a.global) (place refl))
named_rule t a7 a8 false place named long short =
    let letter = ap (λ (o : Option ℕ). option_map_or (λ x. Some x) t.letter o) short ∙ or_none t.letter in
    (ap rule_of (named refl) ∙ (λ k. record (rule_of a7) { long = Some t.id.now; short = letter k }), ap (λ (a : Arg). a.global) (named refl))

module _ (t : Argument) (a0 a6 a7 : Arg) (help : Option (Bor Text)) (o : Option ValueRange) (start end : ℕ) (action : ArgAction) (needed : Bool)
    (new : rule_of a0 ≡ new_rule t.id.now) (plain : a0.conflicts.items ≡ []) (local : a0.global ≡ false)
    (made : a6 ≡ record a0 { help = help; val_names = Many t.values; num_vals = o; action = Some action; required = needed; default_vals = Many t.default })
    (some : IsSomeAnd o (λ r. r ≡ record { start_inclusive = start; end_inclusive = max end start }))
    (adds : a7 ≡ record a6 { conflicts = a7.conflicts }) (conflicts : a7.conflicts.items ≡ a6.conflicts.items ++ t.conflicts.now) where
  abbrev range : ValueRange
  range = record { start_inclusive = start; end_inclusive = max end start }

  -- its rule, before it has names
  abbrev nameless : Rule
  nameless = record (new_rule t.id.now) {
    action = Some action;
    range = Some range;
    value_names = length t.values.now;
    defaults = texts t.default.now;
    required = needed;
    is_free = is_empty t.conflicts.now;
  }

  whole : a7 ≡ record a0 { help = help; val_names = Many t.values; num_vals = Some range; action = Some action; required = needed; default_vals = Many t.default; conflicts = a7.conflicts }
  whole = adds ∙ (λ k. record (made k) { conflicts = a7.conflicts })
      ∙ (λ k. record a0 { help = help; val_names = Many t.values; num_vals = range_is o range some k; action = Some action; required = needed; default_vals = Many t.default; conflicts = a7.conflicts })

  its_conflicts : a7.conflicts.items ≡ t.conflicts.now
  its_conflicts = conflicts ∙ ap (λ (cs : List (Bor Text)). cs ++ t.conflicts.now) (ap (λ (a : Arg). a.conflicts.items) made ∙ plain)

  free : is_free_arg (record a0 { conflicts = a7.conflicts }) ≡ is_empty t.conflicts.now
  free = freed _ _ _ _ (ap (λ (r : Rule). r.is_free) new) ∙ ap (λ (cs : List (Bor Text)). is_empty cs) its_conflicts

  nameless_is : rule_of a7 ≡ nameless
  nameless_is = ap rule_of whole ∙ (λ k. record (new k) {
    action = Some action;
    range = Some range;
    value_names = length t.values.now;
    defaults = texts t.default.now;
    required = needed;
    is_free = free k;
  })

  module _ (a8 : Arg) (place : is_place t.form ≡ true → a8 ≡ a7)
      (named : is_place t.form ≡ false → a8 ≡ record a7 { long = Some t.id; short = option_map_or (λ x. Some x) t.letter a7.short })
      (least : start ≡ least_values t.form (length t.values.now)) (most : end ≡ most_values t.form (length t.values.now))
      (does : action ≡ action_by t.form) (needs : needed ≡ is_needed t.form (is_empty t.default.now)) where
    named_so : (rule_of a8 ≡ record (rule_of a7) { long = if is_place t.form then None else Some t.id.now; short = if is_place t.form then None else t.letter }) × (a8.global ≡ a7.global)
    named_so = named_rule t a7 a8 (is_place t.form) place named (ap (λ (r : Rule). r.long) nameless_is) (ap (λ (r : Rule). r.short) nameless_is)

    -- THE ARGUMENT has the rule that the table says
    pub ruled : (rule_of a8 ≡ rule_by t) × (a8.global ≡ false)
    ruled = (
      named_so.0
          ∙ (λ k. record (nameless_is k) { long = if is_place t.form then None else Some t.id.now; short = if is_place t.form then None else t.letter })
          ∙ (λ k. record nameless {
            long = if is_place t.form then None else Some t.id.now;
            short = if is_place t.form then None else t.letter;
            action = Some (does k);
            range = Some (record { start_inclusive = least k; end_inclusive = max (most k) (least k) });
            required = needs k;
          }),
      named_so.1 ∙ ap (λ (a : Arg). a.global) whole ∙ local,
    )

-- a list that is folded, a step on and at its end
pub fold_step : {A B : Type 0} (f : B → A → B) (xs : List A) (i : ℕ) (d : A) (b b' : B) → i < length xs → b' ≡ f b (get_or xs i d) → fold f b' (drop (i + 1) xs) ≡ fold f b (drop i xs)
fold_step f xs i d b b' lt is =
    let on : i + 1 ≡ suc i = omega arith in
    ap (λ n. fold f b' (drop n xs)) on ∙ ap (λ c. fold f c (drop (suc i) xs)) is ∙ sym (ap (fold f b) (drop-cons xs i d lt))

pub fold_end : {A B : Type 0} (f : B → A → B) (xs : List A) (i : ℕ) (b : B) → length xs ≤ i → b ≡ fold f b (drop i xs)
fold_end f xs i b past = sym (ap (fold f b) (drop_of_length-le xs past))

-- the command of a program, before it has commands of its own
pub begun : (name : Text) (c0 c1 c2 c3 c4 c5 c6 : Command) (version about after : Bor Text)
    → app_of c0 ≡ new_app name → out-Command c1 ≡ record (out-Command c0) { no_binary_name = true } → out-Command c2 ≡ record (out-Command c1) { version = Some version }
    → out-Command c3 ≡ record (out-Command c2) { about = Some about } → out-Command c4 ≡ record (out-Command c3) { after_help = Some after }
    → out-Command c5 ≡ record (out-Command c4) { subcommand_required = true } → out-Command c6 ≡ record (out-Command c5) { bin_name = (out-Command c6).bin_name }
    → app_of c6 ≡ no_command name
begun name c0 c1 c2 c3 c4 c5 c6 version about after new e1 e2 e3 e4 e5 e6 =
    ap app_of_fields e6
    ∙ ap app_of_fields e5
    ∙ ap (λ (f : Command-F Command). app_of_fields (record f { subcommand_required = true })) (e4
    ∙ ap (λ (f : Command-F Command). record f { after_help = Some after }) (e3
    ∙ ap (λ (f : Command-F Command). record f { about = Some about }) (e2
    ∙ ap (λ (f : Command-F Command). record f { version = Some version }) e1)))
    ∙ ap (λ (a : App). record a { top = record a.top { no_binary_name = true; has_version = true; subcommand_required = true } }) new
