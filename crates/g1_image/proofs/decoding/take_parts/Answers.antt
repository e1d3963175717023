use Rattle.std.proofs.Common.{◌≡◌, ◌*◌, map, length, ap, subst, ◌∙◌, arith}
use Rattle.std.proofs.lemmas.Result.{err_from_is_err_and}
use Rattle.g1_image.specs.Text.{table_words, words_of}
use Rattle.g1_words.specs.Words.{AreLaid}
use Rattle.g1_words.proofs.Accepted.{in_bounds}
use Rattle.g1_image.specs.Image.{all_words, region_of_entry}
use Rattle.g1_image.specs.Plain.{front_text}
use Rattle.g1_image.specs.Ahead.{waiting, to_take, TakeFails}
use Rattle.g1_image.proofs.Told.{read_text, take_text, read_fails, words_fail, whole_text, bytes_behind, all_taken}
use Rattle.g1_image.proofs.decoding.take_parts.Goals as goal

pub returns-in_err-front-clause-err : goal.returns-in_err-front-clause-err
returns-in_err-front-clause-err g c =
    let left = err_from_is_err_and c.from_residual.result c.from_residual.ensures.1 in
    rw (left.1, left.2) c.in_err-front.ensures.err

pub lay_pieces-requires-clause-sizes : goal.lay_pieces-requires-clause-sizes
lay_pieces-requires-clause-sizes g c =
    let w = c.in_ok-front.front.heading.w in
    let rows = ap length c.deref.ensures.value ∙ c.in_ok-front.ensures.ok.entries.how_many in
    let h = c.in_ok-front.front.heading in
    let bounds = in_bounds c.args.limits h.w h.k h.n c.in_ok-front.ensures.ok.good.sizes in
    omega (arith, ap (λ n. n * w) rows, bounds.words_most)

pub returns-in_err-reach-clause-err : goal.returns-in_err-reach-clause-err
returns-in_err-reach-clause-err g c =
    let left = err_from_is_err_and c.from_residual-in_err-reach.result c.from_residual-in_err-reach.ensures.1 in
    rw (left.1, left.2) (read_fails c.args.limits _ _ _ _ c.in_err-reach.field-0.0 (c.in_ok-words.ensures.ok.1.mark ∙ c.in_ok-front.ensures.mark) c.in_err-reach.ensures.err)

pub returns-clause-end : goal.returns-clause-end
returns-clause-end g c = (c.in_ok-reach.ensures.ok.ended c.if-branch.false).0

pub returns-in_err-words-clause-err : goal.returns-in_err-words-clause-err
returns-in_err-words-clause-err g c =
    let f = c.in_ok-front.front in
    let sets = map (λ s. s.items) f.remembered.items in
    let left = err_from_is_err_and c.from_residual-in_err-words.result c.from_residual-in_err-words.ensures.1 in
    rw (left.1, left.2) (words_fail c.args.limits f.version f.heading f.table.items f.roots.items f.log.items sets c.in_ok-front.ensures.ok _ _ _ _ _
    c.in_err-words.field-0.0 c.in_ok-front.ensures.mark c.in_ok-front.ensures.taken
    (subst (λ t. TakeFails (g.S.Source.failed c.take_front.new.source) (g.S.Source.failed c.lay_pieces.new.source)
    (to_take c.take_front.new.ahead (g.S.Source.left c.take_front.new.source)) (8 * table_words t) c.in_err-words.field-0.0) c.deref.ensures.value c.in_err-words.ensures.err))

pub returns-then-branch-clause-err : goal.returns-then-branch-clause-err
returns-then-branch-clause-err g c =
    let f = c.in_ok-front.front in
    let sets = map (λ s. s.items) f.remembered.items in
    let words = c.in_ok-words.ensures.ok in
    let size : length words.0 ≡ 8 * table_words f.table.items = words.2 ∙ ap (λ t. 8 * table_words t) c.deref.ensures.value in
    let reached = c.in_ok-reach.ensures.ok in (
      reached.mark ∙ words.1.mark ∙ c.in_ok-front.ensures.mark,
      bytes_behind c.args.limits f.version f.heading f.table.items f.roots.items f.log.items sets c.in_ok-front.ensures.ok words.0 words.1.are_bytes size _ _ _
          (g.S.Source.left c.reach.new.source) (waiting c.reach.new.self)
          c.in_ok-front.ensures.taken words.1.bytes reached.kept (reached.there c.if-branch.true),
    )

pub returns-clause-ok : goal.returns-clause-ok
returns-clause-ok g c =
    let f = c.in_ok-front.front in
    let sets = map (λ s. s.items) f.remembered.items in
    let words = c.in_ok-words.ensures.ok in
    let size : length words.0 ≡ 8 * table_words f.table.items = words.2 ∙ ap (λ t. 8 * table_words t) c.deref.ensures.value in
    let reached = c.in_ok-reach.ensures.ok in
    let ended = reached.ended c.if-branch.false in (
      front_text f.version f.heading f.table.items f.roots.items f.log.items sets words.0,
      (
        words.0,
        whole_text c.args.limits f.version f.heading f.table.items f.roots.items f.log.items sets c.in_ok-front.ensures.ok words.0 words.1.are_bytes size,
        words.3 ∙ ap (λ t. all_words f.heading.w t (words_of (table_words t) words.0)) c.deref.ensures.value,
      ),
      all_taken c.args.limits f.version f.heading f.table.items f.roots.items f.log.items sets c.in_ok-front.ensures.ok words.0 words.1.are_bytes size _ _ _
          (g.S.Source.left c.reach.new.source) (waiting c.reach.new.self)
          c.in_ok-front.ensures.taken words.1.bytes reached.kept ended.0 ended.1,
    )

pub returns-in_err-front-clause-known : goal.returns-in_err-front-clause-known
returns-in_err-front-clause-known g c = c.take_front.ensures.known

pub lay_pieces-requires-clause-count : goal.lay_pieces-requires-clause-count
lay_pieces-requires-clause-count g c =
    let h = c.in_ok-front.front.heading in
    let bounds = in_bounds c.args.limits h.w h.k h.n c.in_ok-front.ensures.ok.good.sizes in
    omega (arith, ap length c.deref.ensures.value, c.in_ok-front.ensures.ok.entries.how_many, bounds.n_most)

pub lay_pieces-requires-clause-known : goal.lay_pieces-requires-clause-known
lay_pieces-requires-clause-known g c = c.take_front.ensures.known

pub returns-in_err-words-clause-known : goal.returns-in_err-words-clause-known
returns-in_err-words-clause-known g c = c.lay_pieces.ensures.known

pub returns-in_err-reach-clause-known : goal.returns-in_err-reach-clause-known
returns-in_err-reach-clause-known g c = c.reach.ensures.known

pub returns-then-branch-clause-known : goal.returns-then-branch-clause-known
returns-then-branch-clause-known g c = c.reach.ensures.known

pub returns-clause-known : goal.returns-clause-known
returns-clause-known g c = c.reach.ensures.known

pub returns-clause-mark : goal.returns-clause-mark
returns-clause-mark g c = c.in_ok-reach.ensures.ok.mark ∙ c.in_ok-words.ensures.ok.1.mark ∙ c.in_ok-front.ensures.mark

pub returns-in_err-front-clause-stage : goal.returns-in_err-front-clause-stage
returns-in_err-front-clause-stage g c =
    let left = err_from_is_err_and c.from_residual.result c.from_residual.ensures.1 in
    rw (left.1, left.2) (c.in_err-front.ensures.stage)

pub returns-in_err-words-clause-stage : goal.returns-in_err-words-clause-stage
returns-in_err-words-clause-stage g c =
    let left = err_from_is_err_and c.from_residual-in_err-words.result c.from_residual-in_err-words.ensures.1 in
    rw (left.1, left.2) (take_text _ _ _ _ c.in_err-words.field-0.0 c.in_err-words.ensures.err)

pub returns-in_err-reach-clause-stage : goal.returns-in_err-reach-clause-stage
returns-in_err-reach-clause-stage g c =
    let left = err_from_is_err_and c.from_residual-in_err-reach.result c.from_residual-in_err-reach.ensures.1 in
    rw (left.1, left.2) (read_text _ _ c.in_err-reach.field-0.0 c.in_err-reach.ensures.err)

pub returns-clause-laid : goal.returns-clause-laid
returns-clause-laid g c = subst (λ t. AreLaid c.in_ok-front.front.heading.w (map region_of_entry t) c.in_ok-words.words.laid) c.deref.ensures.value c.in_ok-words.ensures.laid
