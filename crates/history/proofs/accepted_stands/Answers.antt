use Rattle.history.proofs.Sounds.{undoing_collapse, collapse_stays_sound, collapse_keeps_first}
use Rattle.history.proofs.accepted_stands.Goals as goal

pub returns : goal.returns
returns c = λ u v contents ns stored sound ok.
    record {
      undoes = undoing_collapse contents u v ns stored sound ok;
      sound = collapse_stays_sound contents u v ns stored sound ok;
      same_first = collapse_keeps_first contents u v ns stored sound ok;
    }
