use Rattle.std.proofs.Common.{◌<◌, get_or, Bool, length, refl, sym, ◌∙◌, arith}
use Rattle.std.proofs.lemmas.Fn.{says_at}
use Rattle.std.proofs.lemmas.List.{get_or_default}
use Rattle.std.proofs.lemmas.List.Filters.{FiltersInPlace-more_no, FiltersInPlace-more_here, FiltersInPlace-more_set}
use Rattle.store.specs.Queues.{Computes}
use Rattle.store.proofs.queue.Queue.retain.Goals.{then-keep, else-keep, then-kept-place, else-kept-place}
use Rattle.store.proofs.queue.Queue.retain.Goals as goal

pub loop-place-preserved : goal.loop-place-preserved
loop-place-preserved g c =
    let now = c.loop-place in
    let within : now.place < length now.self.places = omega (arith, now.self.sized, c.args.self.now.fits) in
    let item = get_or now.self.places now.place c.index-self-place.result in
    let read = get_or_default now.self.places now.place c.index-self-place.result item within in
    let told = λ (passes : g.row.T.Denot → Bool) (says : Computes g.F.Fn c.args.keep passes). sym (says _ _ (says_at g.F.Fn c.keep.ensures refl)) in
    elim c.if-keep.branch [
      | then-keep w ↦
          elim w.if-kept-place.branch [
            | then-kept-place w' ↦
                let again = get_or_default now.self.places now.place c.index-self-place.result w'.index-self-place-then-kept-place.result within in
                rw (w.self-is, w.kept-is, w'.self-is, ← again) (
                  omega arith,
                  now.invariant.1,
                  λ passes says. FiltersInPlace-more_set (now.invariant.2 passes says) within (told passes says ∙ w.if-keep.true) read,
                )
            | else-kept-place w' ↦
                rw (w.self-is, w.kept-is, w'.self-is) (
                  omega arith,
                  now.invariant.1,
                  λ passes says.
                      FiltersInPlace-more_here (now.invariant.2 passes says) within (told passes says ∙ w.if-keep.true) read w'.if-kept-place.false,
                )
          ]
      | else-keep w ↦
          rw (w.self-is, w.kept-is) (
            omega arith,
            now.invariant.1,
            λ passes says. FiltersInPlace-more_no (now.invariant.2 passes says) within (told passes says ∙ w.if-keep.false) read,
          )
    ]
