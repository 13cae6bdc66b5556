-- Going through the nodes, from one to the next.
use Rattle.std.proofs.Common.{◌≡◌, ℕ, List, [], ◌∷◌, Some, None, Option, Ordering, Less, Equal, Greater, sym, refl, ap, ◌∙◌, inl, inr, arith}
use Rattle.std.specs.Cmp.{IsTotalOrder}
use Rattle.order.specs.Assoc.{by, later, first}
use Rattle.order.specs.declared.record.Record.{Record}
use Rattle.order.proofs.Laters.{later_step}
use Rattle.order.proofs.Ranks.{self_same}
use Rattle.search.specs.Nodes.{Member, own, Ordered, left}

-- a node as its own label
abbrev pub itself : {N : Type 0} → N → Record N N
itself x = record { key = x; value = x }

pub some≢none : {N : Type 0} (x : N) → Some x ≡ None → ⊥
some≢none x e = let z : ◌≡◌ {A = ℕ} 0 1 = cc in omega arith

pub nothing_left : {N : Type 0} (rows : List (Record N N)) → first rows ≡ None → rows ≡ []
nothing_left [] e = refl
nothing_left (r ∷ rs) e = absurd (some≢none r.key e)

-- records that are some of the nodes, each as its own label
pub record Rest {N : Type 0} (nodes : List N) (rows : List (Record N N)) : Type 0 where
  pub some : List N
  pub are : rows ≡ own some
  pub among : (x : N) → Member x some → Member x nodes

all_rest : {N : Type 0} (nodes : List N) → Rest nodes (own nodes)
all_rest nodes = record { some = nodes; are = refl; among = λ x m. m }

module _ {N : Type 0} (c : N → N → Ordering) (ok : IsTotalOrder c) where
  later_rest : (a : N) (nodes : List N) → Rest nodes (later c a (own nodes))
  later_rest a [] = all_rest []
  later_rest a (x ∷ xs) = go (later_rest a xs) (c x a)
    where
      go : Rest xs (later c a (own xs)) → (o : Ordering) → Rest (x ∷ xs) (by o (later c a (own xs)) (own xs) (own (x ∷ xs)))
      go more Less = record { some = more.some; are = more.are; among = λ y m. inr (more.among y m) }
      go more Equal = record { some = xs; are = refl; among = λ y m. inr m }
      go more Greater = all_rest (x ∷ xs)

  left_rest : (at : Option N) (nodes : List N) → Rest nodes (left c at (own nodes))
  left_rest None nodes = all_rest nodes
  left_rest (Some a) nodes = later_rest a nodes

  left_step : (at : Option N) (nodes : List N) (r : Record N N) (rs : List (Record N N)) → Ordered c nodes → left c at (own nodes) ≡ r ∷ rs → later c r.key (own nodes) ≡ rs
  left_step None nodes r rs sorted e = ap (later c r.key) e ∙ ap (λ o. by o (later c r.key rs) rs (r ∷ rs)) (self_same c ok r.key)
  left_step (Some a) nodes r rs sorted e = later_step c ok (own nodes) a r rs sorted e

  pub record Step (nodes : List N) (at : Option N) (x : N) : Type 0 where
    pub first : left c at (own nodes) ≡ itself x ∷ left c (Some x) (own nodes)
    pub node : Member x nodes

  -- the node that is found is the first of those left, and the others are left after it
  pub node_step : (nodes : List N) (at : Option N) (x : N) → Ordered c nodes → Some x ≡ first (left c at (own nodes)) → Step nodes at x
  node_step nodes at x sorted found = go rest.some rest.are rest.among
    where
      rest : Rest nodes (left c at (own nodes))
      rest = left_rest at nodes

      go : (ns : List N) → left c at (own nodes) ≡ own ns → ((y : N) → Member y ns → Member y nodes) → Step nodes at x
      go [] e among = absurd (some≢none x (found ∙ ap first e))
      go (y ∷ ys) e among =
          let is : Some x ≡ Some y = found ∙ ap first e in
          let same : y ≡ x = cc in
          record {
            first = e ∙ ap (λ rs. itself y ∷ rs) (sym (left_step at nodes (itself y) (own ys) sorted e)) ∙ ap (λ z. itself z ∷ later c z (own nodes)) same;
            node = among x (inl (sym same));
          }
