-- The worked examples compute.
use Rattle.std.proofs.Common.{refl}
use Rattle.collapse.specs.Cases.{Worked}

pub worked_cases : Worked
worked_cases = record {
  tetrahedron_held = refl;
  tetrahedron_euler = refl;
  tetrahedron_collapsed = refl;
  tetrahedron_record = refl;
  tetrahedron_trace = refl;
  tetrahedron_split = refl;
  three_wires_euler = refl;
  four_triangles_euler = refl;
  five_tetrahedra_held = refl;
  five_tetrahedra_euler = refl;
  marked_at_one_collapsed = refl;
  marked_at_one_point = refl;
  marked_at_one_record = refl;
  marked_at_one_split = refl;
  marked_at_both_point = refl;
  two_wires_collapsed = refl;
  two_wires_edge_gone = refl;
  two_wires_split_once = refl;
  two_wires_split_twice = refl;
}
