-- `seeds::try_seed` meets its contract: what the build says of the seed. Assumes nothing.
use Rattle.seeds.proofs.Seeding.{tried}
use Rattle.seeds.proofs.try_seed.Goals as goal

pub returns : goal.returns
returns c =
    let a = c.args in
    let l = c.full_build.new in
    tried a.keys.now (λ i h. (c.shared_slice_known-1.given i).fits) c.requires a.b a.seed a.cells.now
    a.handles.now a.left.now a.right.now a.work.now a.lengths.now c.full_build-arg-1.given.0.1
    c.full_build-arg-2-1.given.0.1 c.full_build-arg-3-1.given.0.1 c.full_build-arg-4-1.given.0.1
    c.full_build-arg-5-1.given.0.1 c.full_build-arg-6-1.given.0.1 c.full_build.result
    l.cells l.handles l.left l.right l.work l.lengths c.full_build.ensures
