-- The two walks over a model that meet the bases of a collapse in order.
use Rattle.std.proofs.Common.{◌≡◌, ℕ, zero, suc, Bool, true, false, cond, not, ◌&&◌, leb, List, [], ◌∷◌, length, Some, None, Option, Ordering, Less, Equal, Greater, sym, refl, ap, ◌∙◌, arith}
use Rattle.std.specs.Option.{option_map}
use Rattle.std.specs.Option.{option_eq, option_cmp}
use Rattle.std.specs.Ordering.{is_eq, is_lt, ordering_reverse, ord_min}
use Rattle.std.proofs.lemmas.Bool.{leb-false}
use Rattle.order.specs.Assoc.{by, later}
use Rattle.order.proofs.Laters.{later_step}
use Rattle.complex.specs.Model.{Model, mask, Sorted}
use Rattle.complex.specs.Simplex.{colex, has, less}
use Rattle.complex.proofs.Order.{colex_lawful}
use Rattle.collapse.specs.Laws.{Shaped}
use Rattle.collapse.specs.Split.{bases}
use Rattle.simplex.specs.Alike.{alike}
use Rattle.simplex.specs.Shapes.{corners}
use Rattle.simplex.specs.Simplexes.{vertices, by_vertices, vertices_or_none, found, fitted}
use Rattle.simplex.specs.declared.shape.Shape.{Shape}
use Rattle.simplex.specs.declared.shape.Shape.TheVariants.{Point, Edge, Triangle, Tetrahedron}
use Rattle.simplex.specs.declared.simplex.Simplex.{Simplex}
use Rattle.simplex.specs.contracts.simplex.SimplexPartialEq.TheImpl.{ghosts}
use Rattle.model.specs.Notes.{lacking, bases_without, ahead, head, past_base}
use Rattle.model.specs.Sides.{first_sided}

-- the order of bases, of which none is the empty simplex
pub bases_compared : (a b : Option Simplex) → option_cmp by_vertices a b ≡ colex (vertices_or_none a) (vertices_or_none b)
bases_compared None None = refl
bases_compared None (Some t) = before t.shape
  where
    before : (s : Shape) → Less ≡ colex [] (corners s)
    before (Point a) = refl
    before (Edge a b) = refl
    before (Triangle a b c) = refl
    before (Tetrahedron a b c d) = refl
bases_compared (Some s) None = after s.shape
  where
    after : (s : Shape) → Greater ≡ colex (corners s) []
    after (Point a) = refl
    after (Edge a b) = refl
    after (Triangle a b c) = refl
    after (Tetrahedron a b c d) = refl
bases_compared (Some s) (Some t) = refl

-- bases are equal where the order calls them the same
bases_alike : (a b : Option Simplex) → option_eq ghosts.eq a b ≡ is_eq (colex (vertices_or_none a) (vertices_or_none b))
bases_alike None None = refl
bases_alike None (Some t) = ap is_eq (bases_compared None (Some t))
bases_alike (Some s) None = ap is_eq (bases_compared (Some s) None)
bases_alike (Some s) (Some t) = alike s.shape t.shape

-- the lesser of two bases
pub lesser_is : (a b : Option Simplex) →
    vertices_or_none (ord_min (option_cmp by_vertices) a b) ≡ by (colex (vertices_or_none a) (vertices_or_none b)) (vertices_or_none a) (vertices_or_none a) (vertices_or_none b)
lesser_is a b = go (colex (vertices_or_none a) (vertices_or_none b)) (ap is_lt (bases_compared b a ∙ colex_lawful.antisymm (vertices_or_none b) (vertices_or_none a)))
  where
    go : (o : Ordering) → is_lt (option_cmp by_vertices b a) ≡ is_lt (ordering_reverse o) →
        vertices_or_none (cond (is_lt (option_cmp by_vertices b a)) b a) ≡ by o (vertices_or_none a) (vertices_or_none a) (vertices_or_none b)
    go Less e = ap (λ x. vertices_or_none (cond x b a)) e
    go Equal e = ap (λ x. vertices_or_none (cond x b a)) e
    go Greater e = ap (λ x. vertices_or_none (cond x b a)) e

-- is this base that of the simplex?
abbrev pub is_base : ℕ → List ℕ → Option Simplex → Bool
is_base u q None = false
is_base u q (Some s) = is_eq (colex (less u (vertices s)) q)

pub is_first : (u : ℕ) (f : Option (Option Simplex)) (base next : Option Simplex) → option_map vertices_or_none f ≡ option_map (less u) (found next) →
    option_eq (option_eq ghosts.eq) f (Some base) ≡ is_base u (vertices_or_none base) next
is_first u None base None h = refl
is_first u None base (Some s) h = cc
is_first u (Some a) base None h = cc
is_first u (Some a) base (Some s) h = let e : vertices_or_none a ≡ less u (vertices s) = cc in bases_alike a base ∙ ap (λ t. is_eq (colex t (vertices_or_none base))) e

module _ (u v : ℕ) (M : Model) (sorted : Sorted M) where
  -- the bases from what is found on are those of all that is later
  pub ahead_of_first : (q : List ℕ) → ahead u v M (first_sided u v (later colex q M)) ≡ bases_without u v (later colex q M)
  ahead_of_first q = go q (later colex q M) refl
    where
      go : (q : List ℕ) (L : Model) → later colex q M ≡ L → ahead u v M (first_sided u v L) ≡ bases_without u v L
      go q [] e = refl
      go q (r ∷ rs) e = one (go r.key rs rest) (has v r.key) (has u r.key) refl
        where
          rest : later colex r.key M ≡ rs
          rest = later_step colex colex_lawful M q r rs sorted e

          one : ahead u v M (first_sided u v rs) ≡ bases_without u v rs → (b a : Bool) → has u r.key ≡ a →
              ahead u v M (cond (a && not b) (Some r.key) (first_sided u v rs)) ≡ bases u (cond b (lacking v rs) (r ∷ lacking v rs))
          one more true true h = more
          one more true false h = more
          one more false true h = ap (λ L. less u r.key ∷ bases_without u v L) rest ∙ sym (ap (λ a. cond a (less u r.key ∷ bases_without u v rs) (bases_without u v rs)) h)
          one more false false h = more ∙ sym (ap (λ a. cond a (less u r.key ∷ bases_without u v rs) (bases_without u v rs)) h)

  -- leaving a base behind that is not the first changes nothing
  pub pass_other : (q : List ℕ) (o : Option Simplex) → is_base u q o ≡ false → ahead u v M (found o) ≡ past_base q (ahead u v M (found o))
  pass_other q None h = refl
  pass_other q (Some s) h =
      sym (ap (λ b. cond b (bases_without u v (later colex (vertices s) M)) (less u (vertices s) ∷ bases_without u v (later colex (vertices s) M))) h)

  -- leaving the first behind, the walk goes on
  pub pass_first : (q : List ℕ) (o : Option Simplex) → is_base u q o ≡ true → ahead u v M (first_sided u v (later colex (vertices_or_none o) M)) ≡ past_base q (ahead u v M (found o))
  pass_first q None h = cc
  pass_first q (Some s) h =
      ahead_of_first (vertices s)
      ∙ sym (ap (λ b. cond b (bases_without u v (later colex (vertices s) M)) (less u (vertices s) ∷ bases_without u v (later colex (vertices s) M))) h)

pub head_ahead : (u v : ℕ) (M : Model) (o : Option (List ℕ)) → head (ahead u v M o) ≡ option_map (less u) o
head_ahead u v M None = refl
head_ahead u v M (Some s) = refl

-- what has five vertices is not held
pub five_absent : (M : Model) (q : List ℕ) → Shaped M → None ≡ fitted q → 0 ≡ mask M q
five_absent M q shaped e = go (mask M q) refl (leb (length q) 4) refl e
  where
    go : (m : ℕ) → mask M q ≡ m → (b : Bool) → leb (length q) 4 ≡ b → None ≡ cond b (Some q) None → 0 ≡ m
    go zero h b f e = refl
    go (suc m) h true f e = cc
    go (suc m) h false f e = absurd (omega (arith, leb-false (length q) 4 f, (shaped q (rw h (omega arith))).2))
