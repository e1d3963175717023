use Rattle.g1_pause.proofs.Always as always
use Rattle.g1_pause.proofs.laws.live_bytes_exist.Goals as goal

pub returns : goal.returns
returns c = always.live_bytes_exist
