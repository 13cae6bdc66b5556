use Rattle.std.proofs.Common.{◌≡◌, ℕ, List, sym, ap, ◌∙◌, subst}
use lib.Bits.{bit_and}
use Rattle.complex.specs.Model.{write}
use Rattle.complex.specs.Simplex.{plus, less}
use Rattle.complex.proofs.Faces.{rises_rising}
use Rattle.simplex.specs.Simplexes.{vertices}
use Rattle.store.specs.Contents.{holding}
use Rattle.model.specs.Splits.{Takes}
use Rattle.model.proofs.Splitting.{second_taken, third_taken, with_both, two_written}
use Rattle.model.proofs.merges.Merge.undo_one.Goals as goal

pub put_with-requires-2 : goal.put_with-requires-2
put_with-requires-2 g c =
    let before = g.S.Store.contents c.args.store.now in
    let then = g.S.Store.contents c.put_with.new.store in
    let u = c.args.self.u in
    let s = less u (vertices c.args.t.now) in
    let base = c.without-base.ensures in
    let first : then ≡ holding before (write before.model (plus u s) c.args.pair.0) = c.put_with.ensures ∙ ap (λ x. holding before (write before.model (plus u x) c.args.pair.0)) base in
    subst (λ (x : List ℕ). Takes then (plus c.args.self.v x) c.args.pair.1) (sym base)
    (second_taken u c.args.self.v before s c.args.pair.0 c.args.pair.1 c.requires.splits (g.S.Store.stored c.args.store.now) then (g.S.Store.stored c.put_with.new.store) first)

pub put_with-requires-3 : goal.put_with-requires-3
put_with-requires-3 g c =
    let before = g.S.Store.contents c.args.store.now in
    let then = g.S.Store.contents c.put_with-2.new.store in
    let u = c.args.self.u in
    let v = c.args.self.v in
    let t = vertices c.args.t.now in
    let s = less u t in
    let two = two_written before (g.S.Store.contents c.put_with.new.store) then _ _ c.args.pair.0 c.args.pair.1 c.put_with.ensures c.put_with-2.ensures in
    let first : then ≡ holding before (write (write before.model (plus u s) c.args.pair.0) (plus v s) c.args.pair.1) = two ∙ ap (λ x. holding before (write (write before.model (plus u x) c.args.pair.0) (plus v x) c.args.pair.1)) c.without-base.ensures in
    subst (λ (x : List ℕ). Takes then x (bit_and c.args.pair.0 c.args.pair.1)) (sym (with_both u v t (rises_rising t c.args.t.now.rising) c.requires.meets))
    (third_taken u v before s c.args.pair.0 c.args.pair.1 c.requires.splits (g.S.Store.stored c.args.store.now) then (g.S.Store.stored c.put_with-2.new.store) first)

pub returns : goal.returns
returns g c =
    let before = g.S.Store.contents c.args.store.now in
    let then = g.S.Store.contents c.put_with-2.new.store in
    let u = c.args.self.u in
    let v = c.args.self.v in
    let t = vertices c.args.t.now in
    let s = less u t in
    let a = c.args.pair.0 in
    let b = c.args.pair.1 in
    let two = two_written before (g.S.Store.contents c.put_with.new.store) then _ _ a b c.put_with.ensures c.put_with-2.ensures in
    let first : then ≡ holding before (write (write before.model (plus u s) a) (plus v s) b) = two ∙ ap (λ x. holding before (write (write before.model (plus u x) a) (plus v x) b)) c.without-base.ensures in
    c.put_with-3.ensures
    ∙ ap (λ x. holding x (write x.model (plus v t) (bit_and a b))) first
    ∙ ap (λ k. holding before (write (write (write before.model (plus u s) a) (plus v s) b) k (bit_and a b))) (with_both u v t (rises_rising t c.args.t.now.rising) c.requires.meets)
