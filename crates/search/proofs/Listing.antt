-- The nodes are listed in a table one after another.
use Rattle.std.proofs.Common.{◌≡◌, true, List, [], ◌∷◌, ◌++◌, Some, Ordering, Less, refl, ap, ◌∙◌}
use Rattle.std.proofs.lemmas.Bool.{and_parts}
use Rattle.order.specs.Assoc.{by, before, rising, put, bind}
use Rattle.order.specs.declared.record.Record.{Record}
use Rattle.order.proofs.Ranks.{is_less}
use Rattle.search.proofs.Walks.{itself}

module _ {N : Type 0} (c : N → N → Ordering) where
  -- what comes before all of them is less than the one that follows some of them
  pub less_than_next : (k : N) (rows rs : List (Record N N)) (r : Record N N) → before c k (rows ++ r ∷ rs) ≡ true → c k r.key ≡ Less
  less_than_next k [] rs r b = is_less _ (and_parts _ _ b).0
  less_than_next k (s ∷ ss) rs r b = less_than_next k ss rs r (and_parts _ _ b).1

  -- a key greater than all is put behind them
  pub put_last : (rows rs : List (Record N N)) (x : N) → rising c (rows ++ itself x ∷ rs) ≡ true → put c x (Some x) rows ≡ rows ++ itself x ∷ []
  put_last [] rs x u = refl
  put_last (s ∷ ss) rs x u =
      ap (λ o. by o (s ∷ put c x (Some x) ss) (bind x (Some x) ss) (bind x (Some x) (s ∷ ss))) (less_than_next s.key ss rs (itself x) (and_parts _ _ u).0)
      ∙ ap (λ rows. s ∷ rows) (put_last ss rs x (and_parts _ _ u).1)
