use Rattle.g1_words.specs.Survivors.{seeds, children}
use Rattle.g1_words.proofs.Unique.{breadth_first_unique}
use Rattle.g1_words.proofs.LiveBytes.{live_bytes_unique}
use Rattle.g1_words.proofs.Sound.{sound}
use Rattle.g1_words.proofs.SurvivorsExist.{survivors_exist}
use Rattle.g1_words.proofs.laws.one_list.Goals as goal

pub returns-clause-some : goal.returns-clause-some
returns-clause-some c = λ h set valid. survivors_exist h set (sound h valid)

pub returns-clause-survivors : goal.returns-clause-survivors
returns-clause-survivors c = λ h set l m a b. breadth_first_unique (seeds h set) (children h set) l m a b

pub returns-clause-live_bytes : goal.returns-clause-live_bytes
returns-clause-live_bytes c = live_bytes_unique
