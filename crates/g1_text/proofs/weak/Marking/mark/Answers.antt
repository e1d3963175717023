use Rattle.std.proofs.Common.{◌∙◌, sym, append-nil}
use Rattle.g1_text.proofs.Marks.{name_found, name_stays}
use Rattle.g1_text.proofs.weak.Marking.mark.Goals as goal

pub returns-in_ok-push-clause-found : goal.returns-in_ok-push-clause-found
returns-in_ok-push-clause-found c = λ lines hand is h.
    name_found c.args.name.now c.args.self.now.strong c.insert.new.self c.args.self.now.objects c.remove.new.self c.in_ok-insert.ensures.updates c.remove.ensures.updates lines hand _ _ _ (sym c.in-Some.is ∙ c.remove.ensures.value) c.in_ok-push.ensures.items is h

pub returns-in_ok-push-clause-stay : goal.returns-in_ok-push-clause-stay
returns-in_ok-push-clause-stay c = name_stays c.args.name.now c.args.self.now.strong c.insert.new.self c.args.self.now.objects c.remove.new.self c.in_ok-insert.ensures.updates c.remove.ensures.updates

pub returns-in_default-clause-found : goal.returns-in_default-clause-found
returns-in_default-clause-found c = λ lines hand is h.
    name_found c.args.name.now c.args.self.now.strong c.insert.new.self c.args.self.now.objects c.remove.new.self c.in_ok-insert.ensures.updates c.remove.ensures.updates lines hand c.args.self.now.unread.items _ _ (sym c.in_default.is ∙ c.remove.ensures.value)
    (sym (append-nil c.args.self.now.unread.items)) is h

pub returns-in_default-clause-stay : goal.returns-in_default-clause-stay
returns-in_default-clause-stay c = name_stays c.args.name.now c.args.self.now.strong c.insert.new.self c.args.self.now.objects c.remove.new.self c.in_ok-insert.ensures.updates c.remove.ensures.updates
