-- The records' bytes are formed.
use Rattle.trail.proofs.Decoded.{formed_of, holds_of}
use Rattle.trail.proofs.trail.Trail.heads.Goals as goal

pub invariant_of-result : goal.invariant_of-result
invariant_of-result c = record { formed = formed_of _ c.args.self.now.notes c.bytes.ensures }

pub returns : goal.returns
returns c = holds_of _ c.args.self.now.notes c.bytes.ensures
