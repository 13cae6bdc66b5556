use Rattle.grid_store.proofs.Order.{place_in_grid, places_keep_order, places_tell_apart}
use Rattle.grid_store.proofs.Chosen.{simplex_in_grid, place_of_simplex, simplex_of_place}
use Rattle.grid_store.proofs.places.places_number_simplexes.Goals as goal

pub returns : goal.returns
returns c =
    record {
      inside = place_in_grid;
      ordered = places_keep_order;
      apart = places_tell_apart;
      in_range = simplex_in_grid;
      there = place_of_simplex;
      back = simplex_of_place;
    }
