-- The bytes of u, v and s are what the record has of them.
use Rattle.std.proofs.Common.{arith}
use Rattle.trail.proofs.Pending.{two_bytes_are, record_enclosed}
use Rattle.trail.proofs.layout.enclose.Goals as goal

pub returns : goal.returns
returns c =
    let hu = two_bytes_are c.args.head.u c.to_be_bytes.result (omega arith) c.to_be_bytes.ensures in
    let hv = two_bytes_are c.args.head.v c.to_be_bytes-2.result (omega arith) c.to_be_bytes-2.ensures in
    let hs = two_bytes_are c.args.head.s c.to_be_bytes-3.result (omega arith) c.to_be_bytes-3.ensures in
    record_enclosed c.args.bytes.now _ _ _ _ _ c.args.at c.args.head.u c.args.head.v c.args.head.s c.requires.room hu hv hs c.overwrite.ensures c.overwrite-2.ensures
