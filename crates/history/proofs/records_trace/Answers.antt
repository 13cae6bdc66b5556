use Rattle.history.proofs.Traced.{traced_along, first_vertex}
use Rattle.history.proofs.records_trace.Goals as goal

pub returns : goal.returns
returns c = record { alike = traced_along; first_vertex = first_vertex }
