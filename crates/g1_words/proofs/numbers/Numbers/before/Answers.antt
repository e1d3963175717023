use Rattle.std.proofs.Common.{arith, ap, sym, ◌≡◌, ◌<◌, ◌+◌, ◌-◌, ◌*◌, ◌/◌, ◌%◌, ◌^◌, ◌∙◌, ℕ, length}
use Rattle.std.proofs.lemmas.Nat.{and_mask, one_shl}
use Rattle.std.specs.Int.Bits.{bit_and}
use Rattle.std.specs.Int.Count.{ones}
use Rattle.std.proofs.lemmas.List.{get_or_default}
use Rattle.g1_words.specs.declared.numbers.Block.{Block}
use Rattle.g1_words.specs.Numbers.{number_at, marks_in}
use Rattle.g1_words.proofs.Numbering.{no_block, block_at, number_by_block, number_few, marks_long}
use Rattle.g1_words.proofs.numbers.Numbers.before.Goals as goal
use Rattle.g1_words.proofs.numbers.Numbers.before.Goals.{After-self, After-from}

-- the word has a block
within : (c : After-self) → c.args.word < 64 * length c.self.inside.blocks.items
within c = omega (arith, c.requires, ap length c.self.view_is, marks_long c.self.inside.blocks.items c.self.invariant.0)

pub index-block-requires : goal.index-block-requires
index-block-requires c = omega (arith, c.requires, ap length c.self.view_is, marks_long c.self.inside.blocks.items c.self.invariant.0, c.self.inside.blocks.ok)

-- what is returned is how many stand before, by the block
told : (c : After-from) → c.index-block.result.now.before + c.from.result ≡ number_at (marks_in c.self.inside.blocks.items) c.args.word
told c =
    let blocks = c.self.inside.blocks.items in
    let k : ℕ = c.args.word % 64 in
    let b : Block = c.index-block.result.now in
    let lt : c.args.word < 64 * length blocks = omega (arith, c.requires, ap length c.self.view_is, marks_long blocks c.self.invariant.0) in
    let at : b ≡ block_at blocks (c.args.word / 64) = c.index-block.ensures ∙ get_or_default blocks (c.args.word / 64) b no_block (omega (arith, lt)) in
    let mask : 1 * 2 ^ k % 2 ^ 64 - 1 ≡ 2 ^ k - 1 = ap (λ x. x - 1) (one_shl k 64 (omega arith)) in
    let below : c.from.result ≡ ones (b.marks % 2 ^ k) = c.from.ensures ∙ ap (λ m. ones (bit_and b.marks m)) mask ∙ ap ones (and_mask b.marks k) in
    ap (λ x. b.before + x) below ∙ (λ i. (at i).before + ones ((at i).marks % 2 ^ k)) ∙ sym (number_by_block blocks c.self.invariant.0 c.args.word lt)

pub overflow_add-result : goal.overflow_add-result
overflow_add-result c =
    let few = number_few c.self.inside.blocks.items c.self.invariant.0 c.args.word (within (goal.at.overflow_add-result c).After-self) in
    omega (arith, told (goal.at.overflow_add-result c).After-from, few, c.self.invariant.1)

pub returns : goal.returns
returns c = told (goal.at.returns c).After-from ∙ ap (λ l. number_at l c.args.word) c.self.view_is
