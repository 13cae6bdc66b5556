-- The nodes are gathered one after another.
use Rattle.std.proofs.Common.{◌≡◌, ℕ, ◌+◌, ◌<◌, Bool, true, false, cond, leb, List, [], ◌∷◌, ◌++◌, length, get_or, take, drop, Some, None, fold, filter, Option, Result, Ok, Err, is_err, Ordering, sym, refl, ap, ◌∙◌, arith}
use Rattle.std.proofs.lemmas.List.{length-map, get_or-map, take_more, drop_more}
use Rattle.order.specs.Assoc.{lookup}
use Rattle.order.specs.declared.record.Record.{Record}
use Rattle.std.specs.Result.{result_ok}
use Rattle.search.specs.Classes.{merged, united, joined_on, gathered_from, gathered, counted}
use Rattle.search.specs.Nodes.{own, keys}
use Rattle.search.proofs.Uniting.{keys_lessened}
use Rattle.search.proofs.Walks.{some≢none}

-- one of a list that has some
pub one_of : {X : Type 0} (rows : List X) (n : ℕ) → n < length rows → X
one_of [] n h = absurd (omega arith)
one_of (r ∷ rs) n h = r

-- a count that is answered is that of the nodes, which find room
-- an error says nothing of what there is
pub none_told : {X E : Type 0} (r : Result X E) → is_err r ≡ true → result_ok r ≡ None
none_told (Ok x) h = cc
none_told (Err e) h = refl

pub counted_some : (n room m : ℕ) → Some n ≡ counted room m → (leb m room ≡ true) × (n ≡ m)
counted_some n room m e = go (leb m room) refl e
  where
    go : (b : Bool) → leb m room ≡ b → Some n ≡ cond b (Some m) None → (leb m room ≡ true) × (n ≡ m)
    go true h e = (h, cc)
    go false h e = absurd (some≢none n e)

pub counted_none : (room m : ℕ) → None ≡ counted room m → leb m room ≡ false
counted_none room m e = go (leb m room) refl e
  where
    go : (b : Bool) → leb m room ≡ b → None ≡ cond b (Some m) None → leb m room ≡ false
    go true h e = absurd (some≢none m (sym e))
    go false h e = h

pub keys_own : {N : Type 0} (nodes : List N) → keys (own nodes) ≡ nodes
keys_own [] = refl
keys_own (x ∷ xs) = ap (λ ks. x ∷ ks) (keys_own xs)

module _ {N : Type 0} (c : N → N → Ordering) where
  keys_merged : (o p : Option N) (rows : List (Record N N)) → keys (merged c o p rows) ≡ keys rows
  keys_merged None p rows = refl
  keys_merged (Some a) None rows = refl
  keys_merged (Some a) (Some b) rows = keys_lessened c a b rows

  keys_united : (x y : N) (rows : List (Record N N)) → keys (united c x rows y) ≡ keys rows
  keys_united x y rows = keys_merged (lookup c x rows) (lookup c y rows) rows

  keys_folded : (x : N) (ys : List N) (rows : List (Record N N)) → keys (fold (united c x) rows ys) ≡ keys rows
  keys_folded x [] rows = refl
  keys_folded x (y ∷ ys) rows = keys_folded x ys (united c x rows y) ∙ keys_united x y rows

  pub keys_joined : (J : N → N → Bool) (earlier : List N) (rows : List (Record N N)) (x : N) → keys (joined_on c J earlier rows x) ≡ keys rows
  keys_joined J earlier rows x = keys_folded x (filter (J x) earlier) rows

  -- the node at a place is joined, and those after it are left
  pub gathered_on : (J : N → N → Bool) (nodes : List N) (labels : List (Record N N)) (at : ℕ) (d : Record N N) → keys labels ≡ nodes → at < length labels →
      gathered_from c J (take (at + 1) nodes) (joined_on c J (take at nodes) labels (get_or labels at d).key) (drop (at + 1) nodes) ≡ gathered_from c J (take at nodes) labels (drop at nodes)
  gathered_on J nodes labels at d same h =
      let e = d.key in
      let within : at < length nodes = omega (arith, ap length same, length-map labels (λ r. r.key), h) in
      let node : (get_or labels at d).key ≡ get_or nodes at e = sym (get_or-map (λ r. r.key) labels at d e h) ∙ ap (λ ks. get_or ks at e) same in
      ap (λ x. gathered_from c J (take (at + 1) nodes) (joined_on c J (take at nodes) labels x) (drop (at + 1) nodes)) node
      ∙ ap (λ front. gathered_from c J front (joined_on c J (take at nodes) labels (get_or nodes at e)) (drop (at + 1) nodes)) (take_more nodes at e within)
      ∙ sym (ap (gathered_from c J (take at nodes) labels) (drop_more nodes at e within))

  keys_from : (J : N → N → Bool) (earlier : List N) (rows : List (Record N N)) (xs : List N) → keys (gathered_from c J earlier rows xs) ≡ keys rows
  keys_from J earlier rows [] = refl
  keys_from J earlier rows (x ∷ xs) = keys_from J (earlier ++ (x ∷ [])) (joined_on c J earlier rows x) xs ∙ keys_joined J earlier rows x

  -- the gathered records hold the nodes
  pub keys_gathered : (J : N → N → Bool) (nodes : List N) → keys (gathered c J nodes) ≡ nodes
  keys_gathered J nodes = keys_from J [] (own nodes) nodes ∙ keys_own nodes
