-- What a grid store holds, and that it is what every store holds.
use Rattle.std.specs.Prelude.{ℕ, suc, ◌≤◌, List, [], ◌∷◌, length, Some, None, Option, nat_lt}
use Rattle.std.proofs.Common.{arith}
use Rattle.std.proofs.lemmas.List.{length-take}
use Rattle.std.proofs.lemmas.Bool.{cond_both}
use Rattle.order.specs.Assoc.{bind}
use Rattle.complex.specs.Model.{present}
use Rattle.store.specs.Contents.{Contents, Stored}
use Rattle.grid_store.specs.declared.grid.GridStore.{GridStore}
use Rattle.grid_store.specs.Places.{places, simplex_at}
use Rattle.grid_store.specs.Masks.{masks_from, grid_of, limit_over, contents_over}

abbrev pub contents : GridStore → Contents
contents g = contents_over g.bytes.now

abbrev pub limit_of : GridStore → ℕ
limit_of g = limit_over (length g.bytes.now)

-- at most one simplex for each byte
masks_few : (p : ℕ) (bs : List ℕ) → length (masks_from p bs) ≤ length bs
masks_few p [] = omega arith
masks_few p (b ∷ bs) = go (present b) (masks_few (suc p) bs)
  where
    go : (o : Option ℕ) → length (masks_from (suc p) bs) ≤ length bs → length (bind (simplex_at p) o (masks_from (suc p) bs)) ≤ suc (length bs)
    go None h = omega arith
    go (Some m) h = omega arith

pub limit_at_most : (n : ℕ) → limit_over n ≤ places
limit_at_most n = cond_both (nat_lt n places) 0 places (λ l. l ≤ places) (λ _. omega arith) (λ _. omega arith)

pub contents_stored : (g : GridStore) → Stored (contents g)
contents_stored g =
    record {
      sorted = g.sorted;
      fit = g.fit;
      room = omega (arith, masks_few 0 (grid_of g.bytes.now), length-take (limit_of g) g.bytes.now);
      few = omega (arith, limit_at_most (length g.bytes.now));
      narrow = omega arith;
    }
