use Rattle.std.proofs.Common.{◌≡◌, ◌++◌, ◌∙◌, ℕ, Err, take, arith, refl, sym, ap, subst}
use Rattle.std.proofs.lemmas.List.{take_all}
use Rattle.g1_words.specs.Heap.{Heap, free_region}
use Rattle.g1_words.specs.Valid.{IsValid}
use Rattle.g1_words.specs.Words.{AreLaid}
use Rattle.g1_image.proofs.Reached.{used_laid, range_start}
use Rattle.std.proofs.KnownBytes.{Keeps-refl}
use Rattle.std.proofs.lemmas.Result.{err_from_is_err_and}
use Rattle.g1_words.proofs.Objects.{tops_fit}
use Rattle.g1_image.specs.declared.cursor.Version.TheVariants.{Two}
use Rattle.g1_image.specs.Text.{words_text, file_text}
use Rattle.g1_image.specs.Image.{file_of, used_words}
use Rattle.g1_image.specs.Source.{marked}
use Rattle.g1_image.specs.Sink.{unsent, Sent, SendFails, Writes}
use Rattle.g1_image.proofs.Sent.{part_written, rest_written, output_told}
use Rattle.g1_image.proofs.encoding.write.Goals as goal
use Rattle.g1_image.proofs.encoding.write.Goals.{After-laid}
use Rattle.g1_image.proofs.encoding.write.Given.{Over}

-- the words that are sent are those of the image's heap
words_are : (g : Over) (c : After-laid g) → words_text (used_words c.region_words.result c.regions.result.now c.laid.result.now)
    ≡ words_text (used_words c.args.image.now.heap.geometry.w c.args.image.now.heap.regions c.args.image.now.heap.words)
words_are g c =
    let same = c.heap-heap.ensures.same in
    let width : c.region_words.result ≡ c.args.image.now.heap.geometry.w = c.region_words.ensures.value ∙ ap (λ q. q.w) c.geometry.ensures.same ∙ ap (λ h. h.geometry.w) same in
    let regions = c.regions.ensures ∙ ap (λ h. h.regions) same in
    let h = c.args.image.now.heap in
    let laid : ℕ = c.words.result.now.laid in
    let words : c.laid.result.now ≡ take laid h.words =
    sym (take_all laid c.laid.result.now (omega (arith, c.laid.ensures.many))) ∙ sym (range_start laid c.laid.result.now) ∙ c.laid.ensures.range 0 laid (omega arith) ∙ range_start laid c.words.result.now.items ∙ ap (take laid) (c.words.ensures.same ∙ ap (λ h. h.words) same) in
    let are : AreLaid h.geometry.w h.regions laid = subst (λ (h : Heap). AreLaid h.geometry.w h.regions laid) same c.words.ensures.laid in
    let valid : IsValid h = subst IsValid same c.geometry.ensures.valid in
    (λ t. words_text (used_words (width t) (regions t) (words t))) ∙ ap words_text (used_laid h.geometry.w h.regions laid h.words are (λ r lt. tops_fit h valid r free_region lt))

pub returns-in_err-front-clause-text : goal.returns-in_err-front-clause-text
returns-in_err-front-clause-text g c =
    let same = err_from_is_err_and c.from_residual.result c.from_residual.ensures.1 in
    (file_text (file_of Two c.args.image.now), (c.heap-heap.ensures.valid, tt, refl), rw (same.1, same.2) (Keeps-refl _))

pub returns-in_err-front-clause-mark : goal.returns-in_err-front-clause-mark
returns-in_err-front-clause-mark g c =
    let same = err_from_is_err_and c.from_residual.result c.from_residual.ensures.1 in
    rw (same.1, same.2) refl

pub returns-in_err-behind-clause-text : goal.returns-in_err-behind-clause-text
returns-in_err-behind-clause-text g c =
    let same = err_from_is_err_and c.from_residual-in_err-behind.result c.from_residual-in_err-behind.ensures.1 in
    (file_text (file_of Two c.args.image.now), (c.heap-heap.ensures.valid, tt, refl), rw (same.1, same.2) (Keeps-refl _))

pub returns-in_err-behind-clause-mark : goal.returns-in_err-behind-clause-mark
returns-in_err-behind-clause-mark g c =
    let same = err_from_is_err_and c.from_residual-in_err-behind.result c.from_residual-in_err-behind.ensures.1 in
    rw (same.1, same.2) refl

pub send_used-requires-clause-tops : goal.send_used-requires-clause-tops
send_used-requires-clause-tops g c =
    let h = c.heap-heap.result.now in
    let width : c.region_words.result ≡ h.geometry.w = c.region_words.ensures.value ∙ ap (λ g. g.w) c.geometry.ensures.same in
    rw (width, c.regions.ensures) (tops_fit h c.geometry.ensures.valid)

pub returns-in_err-send_used-clause-text : goal.returns-in_err-send_used-clause-text
returns-in_err-send_used-clause-text g c =
    let i = c.args.image.now in
    let old = g.S.Sink.written c.args.sink.now in
    let new = g.S.Sink.written c.send_used.new.sink in
    let e = c.in_err-send_used.field-0.0 in
    let front = c.in_ok-front.front.items in
    let words = words_text (used_words c.region_words.result c.regions.result.now c.laid.result.now) in
    let is : words ≡ words_text (used_words i.heap.geometry.w i.heap.regions i.heap.words) = words_are g (goal.at.returns-in_err-send_used-clause-text g c).After-laid in
    let fails : SendFails old new front words e = subst (λ l. SendFails old new l words e) c.in_ok-behind.ensures c.in_err-send_used.ensures.err in
    let same = err_from_is_err_and c.from_residual-in_err-send_used.result c.from_residual-in_err-send_used.ensures.1 in
    (front ++ words_text (file_of Two i).words, c.in_ok-front.ensures, rw (same.1, same.2) (subst (λ l. Writes (front ++ l) old new (Err e)) is (part_written old new front words e fails)))

pub returns-clause-text : goal.returns-clause-text
returns-clause-text g c =
    let i = c.args.image.now in
    let old = g.S.Sink.written c.args.sink.now in
    let between = g.S.Sink.written c.send_used.new.sink in
    let new = g.S.Sink.written c.flush.new.sink in
    let front = c.in_ok-front.front.items in
    let words = words_text (used_words c.region_words.result c.regions.result.now c.laid.result.now) in
    let is : words ≡ words_text (used_words i.heap.geometry.w i.heap.regions i.heap.words) = words_are g (goal.at.returns-clause-text g c).After-laid in
    let sent : Sent old between front words (unsent c.send_used.new.behind) =
    subst (λ l. Sent old between l words (unsent c.send_used.new.behind)) c.in_ok-behind.ensures c.in_ok-send_used.ensures.ok in (
      front ++ words_text (file_of Two i).words,
      c.in_ok-front.ensures,
      subst (λ l. Writes (front ++ l) old new c.flush.result) is (rest_written old between new front words (unsent c.send_used.new.behind)
          (unsent c.flush.new.self) c.flush.result sent c.flush.ensures.ok c.flush.ensures.none c.flush.ensures.err),
    )

pub returns-in_err-send_used-clause-mark : goal.returns-in_err-send_used-clause-mark
returns-in_err-send_used-clause-mark g c =
    let same = err_from_is_err_and c.from_residual-in_err-send_used.result c.from_residual-in_err-send_used.ensures.1 in
    rw (same.1, same.2) (output_told _ _ _ _ _ _ (Err c.in_err-send_used.field-0.0) c.in_err-send_used.ensures.mark c.in_err-send_used.ensures.err)

pub returns-clause-mark : goal.returns-clause-mark
returns-clause-mark g c =
    output_told _ _ _ _ _ _ c.flush.result
    (subst (λ m. g.S.Sink.failed c.flush.new.sink ≡ marked m c.flush.result) c.in_ok-send_used.ensures.mark c.flush.ensures.mark) c.flush.ensures.err

pub send_used-requires-clause-laid : goal.send_used-requires-clause-laid
send_used-requires-clause-laid g c =
    let h = c.heap-heap.result.now in
    let width : c.region_words.result ≡ h.geometry.w = c.region_words.ensures.value ∙ ap (λ g. g.w) c.geometry.ensures.same in
    rw (width, c.regions.ensures, c.laid.ensures.many) c.words.ensures.laid
