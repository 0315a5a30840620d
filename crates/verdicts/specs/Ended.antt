-- How a build ends, whichever maps it has (document 01, "Refusal numbers and their order", and requests Five and
-- Seven): what it says, and what it leaves in the six stores.
use Rattle.std.specs.Prelude.{◌≡◌, ℕ}
use Rattle.refusals.specs.Numbers.{BuildSaid, taken, refused, jammed}
use Rattle.stores.specs.Stores.{Stores, cleared_stores}
use Rattle.stores.specs.declared.Sizes.{Sizes}

-- `judged` is what is said of refusals 1 to 4, and w the named lengths; `Jams` tells the first map that has a jam and
-- the size of its largest jam, `Jamless` that none has one, and `Filled` what an accepted build leaves. A refusal of 1
-- to 4 changes nothing; refusal 5 names the first jammed map, with the size of its largest jam, and leaves all stores 0
-- over their named lengths; otherwise the build accepts
pub data Ended (judged : BuildSaid) (w : Sizes) (Jams : (map size : ℕ) → Type 0) (Jamless : Type 0)
    (Filled : Stores → Type 0) (S : Stores) (said : BuildSaid) (S' : Stores) : Type 0 where
  refusal : (number names : ℕ) → judged ≡ refused number names → said ≡ refused number names → S' ≡ S
      → Ended judged w Jams Jamless Filled S said S'
  jam : (map size : ℕ) → judged ≡ taken → Jams map size → said ≡ jammed map size → S' ≡ cleared_stores w S
      → Ended judged w Jams Jamless Filled S said S'
  accepted : judged ≡ taken → Jamless → said ≡ taken → Filled S' → Ended judged w Jams Jamless Filled S said S'
