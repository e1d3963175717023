use Rattle.g1judge.proofs.Texts.{first_unread, second_unread}
use Rattle.g1judge.proofs.judging.read_images.Goals as goal

pub returns-in-Err-clause-unread : goal.returns-in-Err-clause-unread
returns-in-Err-clause-unread c = first_unread c.args.before.now c.args.after.now c.in-Err.fault c.unread.result c.in-Err.ensures.err c.unread.ensures

pub returns-in-Err-decode_within-clause-unread : goal.returns-in-Err-decode_within-clause-unread
returns-in-Err-decode_within-clause-unread c =
    second_unread c.args.before.now c.args.after.now c.in-Err-decode_within.fault c.unread-in-Err-decode_within.result
    (c.in-Ok.old, c.in-Ok.ensures.ok) c.in-Err-decode_within.ensures.err c.unread-in-Err-decode_within.ensures
