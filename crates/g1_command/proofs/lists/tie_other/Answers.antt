use Rattle.std.proofs.Common.{[], ◌≡◌, ◌≢◌, map, sym, rules, append-nil, true, false}
use Rattle.std.specs.Prelude.{codes}
use Rattle.g1_command.specs.declared.lists.Follows.TheVariants.{Word, File}
use Rattle.g1_command.specs.Tied.{is_list, set}
use Rattle.g1_command.proofs.Tied.{dashes, kept, option, other_word}
use Rattle.g1_command.proofs.lists.tie_other.Goals as goal

pub returns-then-eq : goal.returns-then-eq
returns-then-eq c =
    let is : c.args.word.now ≡ codes "--" = search rules in
    kept Word File c.args.word.now c.args.next.now (map (λ w. w.bytes.items) c.args.tied.now.items) (map (λ w. w.bytes.items) c.keep_word.new.tied.items) c.keep_word.result c.keep_word.ensures.then
    c.keep_word.ensures.added (dashes c.args.word.now c.args.next.now is)

pub returns-then-eq-is_list : goal.returns-then-eq-is_list
returns-then-eq-is_list c =
    let is : c.args.word.now ≡ codes "--set" = search rules in
    let list : is_list c.args.next.now ≡ true = search rules in
    ([], sym (append-nil (map (λ w. w.bytes.items) c.args.tied.now.items)), option c.args.word.now c.args.next.now is list)

pub returns : goal.returns
returns c =
    let isnt : c.args.word.now ≢ codes "--" = search rules in
    let alone : c.args.word.now ≡ set → is_list c.args.next.now ≡ false = search rules in
    kept Word Word c.args.word.now c.args.next.now (map (λ w. w.bytes.items) c.args.tied.now.items) (map (λ w. w.bytes.items) c.keep_word-2.new.tied.items) c.keep_word-2.result c.keep_word-2.ensures.then
    c.keep_word-2.ensures.added (other_word c.args.word.now c.args.next.now isnt alone)
