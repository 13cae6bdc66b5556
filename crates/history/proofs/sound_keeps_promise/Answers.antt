use Rattle.history.proofs.Sounds.{sound_promise}
use Rattle.history.proofs.sound_keeps_promise.Goals as goal

pub returns : goal.returns
returns c = λ contents ns stored sound. sound_promise ns contents stored sound
