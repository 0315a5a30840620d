-- `seeds::first_seed` meets its contract: a seed with a jam leads to the next one. Assumes nothing.
use Rattle.seeds.specs.Inner.{SeedTried}
use Rattle.seeds.proofs.Seeding.{next_jam}
use Rattle.seeds.proofs.first_seed.Goals as goal

pub loop-seed-preserved : goal.loop-seed-preserved
unfolding SeedTried
loop-seed-preserved c = next_jam _ _ _ _ _ c.loop-seed.invariant
    (rw c.in-Err-Jammed.field-0-is at c.in-Err-Jammed.ensures)
