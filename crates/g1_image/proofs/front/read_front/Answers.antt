use Rattle.std.proofs.Common.{◌≡◌, ◌++◌, sym, ap, subst, ◌∙◌, inr}
use Rattle.std.proofs.lemmas.Result.{err_from_is_err_and}
use Rattle.g1_image.specs.Text.{magic, heading_text, table_text, words_text, numbers_text, remembered_texts}
use Rattle.g1_image.specs.Reading.{Are, IsU32, IsU64, EndsWithin}
use Rattle.g1_image.specs.Faults.{EntryFits, RememberedFits, FaultWithin}
use Rattle.g1_image.proofs.Files.{fails, short_table, short_roots, short_log, short_remembered}
use Rattle.g1_image.proofs.front.read_front.Goals as goal
use Rattle.g1_image.proofs.Told.{short_text}
use Rattle.g1_image.proofs.front.read_front.Goals.{After-rest}

-- the bytes are the magic, the heading and the rest
opened : (c : After-rest) → c.args.bytes.now ≡ magic c.in_ok-heading.version ++ (heading_text c.in_ok-heading.heading ++ c.rest.result.now)
opened c = sym c.new-cursor.ensures ∙ c.in_ok-heading.ensures.ok.2 ∙ ap (λ l. magic c.in_ok-heading.version ++ (heading_text c.in_ok-heading.heading ++ l)) (sym c.rest.ensures.same)

pub returns-in_err-heading-clause-err : goal.returns-in_err-heading-clause-err
returns-in_err-heading-clause-err c =
    let left = err_from_is_err_and c.from_residual.result c.from_residual.ensures.1 in
    rw (left.1, left.2) (inr (subst (λ b. FaultWithin c.args.limits b c.in_err-heading.field-0.0) c.new-cursor.ensures c.in_err-heading.ensures.err))

pub returns-in_err-table-clause-err : goal.returns-in_err-table-clause-err
returns-in_err-table-clause-err c =
    let h = c.in_ok-heading.heading in
    let left = err_from_is_err_and c.from_residual-in_err-table.result c.from_residual-in_err-table.ensures.1 in
    rw (left.1, left.2) (fails c.args.bytes.now c.in_err-table.field-0.0 (EndsWithin (Are (EntryFits c.in_ok-heading.version) h.n)
    (table_text c.in_ok-heading.version) c.rest.result.now) c.in_err-table.ensures
    (short_table _ c.args.bytes.now c.rest.result.now c.in_ok-heading.version h c.in_ok-heading.ensures.ok.0 c.in_ok-heading.ensures.ok.1
    (opened (goal.at.returns-in_err-table-clause-err c).After-rest)))

pub returns-in_err-roots-clause-err : goal.returns-in_err-roots-clause-err
returns-in_err-roots-clause-err c =
    let h = c.in_ok-heading.heading in
    let left = err_from_is_err_and c.from_residual-in_err-roots.result c.from_residual-in_err-roots.ensures.1 in
    rw (left.1, left.2) (fails c.args.bytes.now c.in_err-roots.field-0.0 (EndsWithin (Are IsU64 h.roots) words_text c.in_ok-table.after_table.now) c.in_err-roots.ensures
    (short_roots _ c.args.bytes.now c.rest.result.now c.in_ok-heading.version h c.in_ok-heading.ensures.ok.0 c.in_ok-heading.ensures.ok.1 (opened (goal.at.returns-in_err-roots-clause-err c).After-rest)
    c.in_ok-table.table.items c.in_ok-table.after_table.now c.in_ok-table.ensures.0 c.in_ok-table.ensures.1))

pub returns-in_err-log-clause-err : goal.returns-in_err-log-clause-err
returns-in_err-log-clause-err c =
    let h = c.in_ok-heading.heading in
    let left = err_from_is_err_and c.from_residual-in_err-log.result c.from_residual-in_err-log.ensures.1 in
    rw (left.1, left.2) (fails c.args.bytes.now c.in_err-log.field-0.0 (EndsWithin (Are IsU32 h.dirty) numbers_text c.in_ok-roots.after_roots.now) c.in_err-log.ensures
    (short_log _ c.args.bytes.now c.rest.result.now c.in_ok-heading.version h c.in_ok-heading.ensures.ok.0 c.in_ok-heading.ensures.ok.1 (opened (goal.at.returns-in_err-log-clause-err c).After-rest)
    c.in_ok-table.table.items c.in_ok-table.after_table.now c.in_ok-table.ensures.0 c.in_ok-table.ensures.1
    c.in_ok-roots.roots.items c.in_ok-roots.after_roots.now c.in_ok-roots.ensures.0 c.in_ok-roots.ensures.1))

pub returns-in_err-remembered-clause-err : goal.returns-in_err-remembered-clause-err
returns-in_err-remembered-clause-err c =
    let h = c.in_ok-heading.heading in
    let left = err_from_is_err_and c.from_residual-in_err-remembered.result c.from_residual-in_err-remembered.ensures.1 in
    rw (left.1, left.2) (fails c.args.bytes.now c.in_err-remembered.field-0.0 (EndsWithin (Are RememberedFits h.n) remembered_texts c.in_ok-log.after_log.now) c.in_err-remembered.ensures
    (short_remembered _ c.args.bytes.now c.rest.result.now c.in_ok-heading.version h c.in_ok-heading.ensures.ok.0 c.in_ok-heading.ensures.ok.1
    (opened (goal.at.returns-in_err-remembered-clause-err c).After-rest)
    c.in_ok-table.table.items c.in_ok-table.after_table.now c.in_ok-table.ensures.0 c.in_ok-table.ensures.1
    c.in_ok-roots.roots.items c.in_ok-roots.after_roots.now c.in_ok-roots.ensures.0 c.in_ok-roots.ensures.1
    c.in_ok-log.log.items c.in_ok-log.after_log.now c.in_ok-log.ensures.0 c.in_ok-log.ensures.1))

pub returns-clause-ok : goal.returns-clause-ok
returns-clause-ok c =
    let v = c.in_ok-heading.version in
    let h = c.in_ok-heading.heading in
    let table = c.in_ok-table.table.items in
    let roots = c.in_ok-roots.roots.items in
    let log = c.in_ok-log.log.items in
    let ready = opened (goal.at.returns-clause-ok c).After-rest in (
      record {
        heading = c.in_ok-heading.ensures.ok.0;
        good = c.in_ok-heading.ensures.ok.1;
        entries = c.in_ok-table.ensures.0;
        root_words = c.in_ok-roots.ensures.0;
        logged = c.in_ok-log.ensures.0;
        sets = c.in_ok-remembered.ensures.0;
      },
      ready ∙ ap (λ l. magic v ++ (heading_text h ++ l)) (c.in_ok-table.ensures.1
          ∙ ap (λ l. table_text v table ++ l) (c.in_ok-roots.ensures.1 ∙ ap (λ l. words_text roots ++ l) (c.in_ok-log.ensures.1 ∙ ap (λ l. numbers_text log ++ l) c.in_ok-remembered.ensures.1))),
    )

pub returns-in_err-heading-clause-stage : goal.returns-in_err-heading-clause-stage
returns-in_err-heading-clause-stage c =
    let left = err_from_is_err_and c.from_residual.result c.from_residual.ensures.1 in
    rw (left.1, left.2) (c.in_err-heading.ensures.stage)

pub returns-in_err-table-clause-stage : goal.returns-in_err-table-clause-stage
returns-in_err-table-clause-stage c =
    let left = err_from_is_err_and c.from_residual-in_err-table.result c.from_residual-in_err-table.ensures.1 in
    rw (left.1, left.2) (short_text c.in_err-table.field-0.0 _ c.in_err-table.ensures)

pub returns-in_err-roots-clause-stage : goal.returns-in_err-roots-clause-stage
returns-in_err-roots-clause-stage c =
    let left = err_from_is_err_and c.from_residual-in_err-roots.result c.from_residual-in_err-roots.ensures.1 in
    rw (left.1, left.2) (short_text c.in_err-roots.field-0.0 _ c.in_err-roots.ensures)

pub returns-in_err-log-clause-stage : goal.returns-in_err-log-clause-stage
returns-in_err-log-clause-stage c =
    let left = err_from_is_err_and c.from_residual-in_err-log.result c.from_residual-in_err-log.ensures.1 in
    rw (left.1, left.2) (short_text c.in_err-log.field-0.0 _ c.in_err-log.ensures)

pub returns-in_err-remembered-clause-stage : goal.returns-in_err-remembered-clause-stage
returns-in_err-remembered-clause-stage c =
    let left = err_from_is_err_and c.from_residual-in_err-remembered.result c.from_residual-in_err-remembered.ensures.1 in
    rw (left.1, left.2) (short_text c.in_err-remembered.field-0.0 _ c.in_err-remembered.ensures)
