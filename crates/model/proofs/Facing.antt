-- Laying and marking the faces of a simplex one after another.
use Rattle.std.proofs.Common.{◌≡◌, ℕ, ◌+◌, ◌^◌, ◌<◌, ◌≤◌, eqb, true, cond, List, ◌∷◌, length, fold, refl, sym, ap, ◌∙◌, arith}
use lib.Bits.{bit_or, or_add_and, and_le_r}
use Rattle.std.proofs.lemmas.Bool.{cond-true, cond-false, eq-eqb, ne_eqb, or_left, or_right}
use Rattle.std.proofs.lemmas.List.Sums.{sum_by-cons}
use Rattle.complex.specs.Model.{Model, mask, write, Sorted, lay_one, lay, absent, mark_one, mark}
use Rattle.complex.specs.Simplex.{among, below, rises, Face, faces}
use Rattle.complex.proofs.Faces.{rises_rising, listed_is_face, face_below, same_as_itself}
use Rattle.complex.proofs.Lays.{lay_one_room}
use Rattle.complex.proofs.Marks.{mark_one_holds}
use Rattle.store.specs.Contents.{Contents, holding}
use Rattle.store.specs.Puts.{put_next}
use Rattle.model.proofs.Changes.{put_accepted}

-- each of these is a face of s
abbrev AllFaces : List ℕ → List (List ℕ) → Type 0
AllFaces s fs = (q : List ℕ) → among q fs ≡ true → Face q s

all_faces : (s : List ℕ) → rises s ≡ true → AllFaces s (faces s)
all_faces s r q h = listed_is_face s q (rises_rising s r) h

face_here : (s f : List ℕ) (fs : List (List ℕ)) → AllFaces s (f ∷ fs) → Face f s
face_here s f fs all = all f (or_left _ _ (same_as_itself f))

faces_after : (s f : List ℕ) (fs : List (List ℕ)) → AllFaces s (f ∷ fs) → AllFaces s fs
faces_after s f fs all q h = all q (or_right _ _ h)

-- from c on, laying these faces leads to what laying s makes of b, and there is room for it
pub record Laying (s : List ℕ) (b c : Contents) (left : List (List ℕ)) : Type 0 where
  pub same : c ≡ holding b c.model
  pub leads : fold lay_one c.model left ≡ lay b.model s
  pub room : length c.model + absent c.model left ≤ c.limit
  pub listed : AllFaces s left

pub laying_first : (s : List ℕ) (b : Contents) → rises s ≡ true → length b.model + absent b.model (faces s) ≤ b.limit → Laying s b b (faces s)
laying_first s b r room = record { same = refl; leads = refl; room = room; listed = all_faces s r }

-- a first face that is absent is counted as one
some_absent : (M : Model) (f : List ℕ) (fs : List (List ℕ)) → mask M f ≡ 0 → 1 ≤ absent M (f ∷ fs)
some_absent M f fs z =
    let one : ◌≡◌ {A = ℕ} (cond (eqb (mask M f) 0) 1 0) 1 = cond-true _ 1 0 (eq-eqb (mask M f) 0 z) in
    omega (arith, one, sum_by-cons (λ g. cond (eqb (mask M g) 0) 1 0) f fs)

-- a face that is absent is put, for which there is room; one that is held stays
module _ (s : List ℕ) (b c d : Contents) (f : List ℕ) (fs : List (List ℕ)) (on : Laying s b c (f ∷ fs)) (sorted : Sorted c.model) where
  goes_on : d ≡ holding c (lay_one c.model f) → Laying s b d fs
  goes_on e = rw e (record {
    same = ap (λ x. holding x (lay_one c.model f)) on.same;
    leads = on.leads;
    room = omega (arith, on.room, lay_one_room c.model f fs sorted);
    listed = faces_after s f fs on.listed;
  })

  pub face_laid : below b.range s ≡ true → mask c.model f ≡ 0 → d ≡ put_next c f 1 → Laying s b d fs
  face_laid ranged z e =
      goes_on (e ∙ put_accepted c f 1 (omega arith) low (λ _. room) ∙ ap (holding c) (sym (cond-true _ (write c.model f 1) c.model (eq-eqb (mask c.model f) 0 z))))
    where
      low : below c.range f ≡ true
      low = face_below c.range s f (ap (λ x. below x.range s) on.same ∙ ranged) (face_here s f fs on.listed)

      room : length c.model < c.limit
      room = omega (arith, on.room, some_absent c.model f fs z)

  pub face_there : 0 < mask c.model f → d ≡ c → Laying s b d fs
  face_there h e = goes_on (e ∙ ap (holding c) (sym (cond-false _ (write c.model f 1) c.model (ne_eqb (mask c.model f) 0 (omega arith)))))

-- from c on, marking these faces leads to what marking s makes of b, and all faces are held
pub record Marking (p : ℕ) (s : List ℕ) (b c : Contents) (left : List (List ℕ)) : Type 0 where
  pub same : c ≡ holding b c.model
  pub leads : fold (mark_one p) c.model left ≡ mark p b.model s
  pub held : (q : List ℕ) → Face q s → 0 < mask c.model q
  pub listed : AllFaces s left

pub marking_first : (p : ℕ) (s : List ℕ) (b : Contents) → rises s ≡ true → ((q : List ℕ) → Face q s → 0 < mask b.model q) → Marking p s b b (faces s)
marking_first p s b r held = record { same = refl; leads = refl; held = held; listed = all_faces s r }

pub face_marked : (p : ℕ) (s : List ℕ) (b c d : Contents) (f : List ℕ) (fs : List (List ℕ)) (m : ℕ) → Marking p s b c (f ∷ fs) → Sorted c.model → below b.range s ≡ true →
    m ≡ bit_or (mask c.model f) (2 ^ p) → d ≡ put_next c f m → Marking p s b d fs
face_marked p s b c d f fs m on sorted ranged joined e =
    rw made (record {
      same = ap (λ x. holding x (mark_one p c.model f)) on.same;
      leads = on.leads;
      held = λ q face. mark_one_holds p c.model f q sorted (on.held q face);
      listed = faces_after s f fs on.listed;
    })
  where
    here : Face f s
    here = face_here s f fs on.listed

    some : 0 < mask c.model f
    some = on.held f here

    low : below c.range f ≡ true
    low = face_below c.range s f (ap (λ x. below x.range s) on.same ∙ ranged) here

    made : d ≡ holding c (mark_one p c.model f)
    made =
        e ∙ put_accepted c f m (omega (arith, some, joined, or_add_and (mask c.model f) (2 ^ p), and_le_r (mask c.model f) (2 ^ p))) low (λ z. absurd (omega (arith, some)))
        ∙ ap (λ n. holding c (write c.model f n)) joined
