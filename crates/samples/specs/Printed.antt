-- What the programs print of a table, of a build and of an ask (docs/VECTORS.md).
use Rattle.std.specs.Prelude.{ℕ, List, ◌++◌, codes, Result, Ok, Err}
use Rattle.std.specs.Fmt.{decimal}
use Rattle.refusals.specs.declared.Refusal.{Refusal}
use Rattle.refusals.specs.Numbers.{number, names, BuildSaid, taken, refused, jammed}
use Rattle.outcomes.specs.declared.Outcome.{Outcome}
use Rattle.outcomes.specs.declared.Outcome.TheVariants.{Planned, Withdrawn, Absent}
use Rattle.samples.specs.declared.table.Sample.{Sample}
use Rattle.samples.specs.declared.table.Sample.TheVariants.{Sequential, Spread, Clustered, Bits}

abbrev pub sample_text : Sample → List ℕ
sample_text Sequential = codes "sequential"
sample_text Spread = codes "spread"
sample_text Clustered = codes "clustered"
sample_text Bits = codes "bits"

abbrev pub refused_text : (number names : ℕ) → List ℕ
refused_text number names = codes "refused=" ++ decimal number ++ codes "." ++ decimal names

abbrev pub built_text : BuildSaid → List ℕ
built_text taken = codes "taken.0"
built_text (refused number names) = refused_text number names ++ codes ".0"
built_text (jammed map size) = codes "refused=5." ++ decimal map ++ codes "." ++ decimal size

abbrev pub told_text : Result Outcome Refusal → List ℕ
told_text (Ok (Planned row)) = codes "planned." ++ decimal row
told_text (Ok (Withdrawn row)) = codes "withdrawn." ++ decimal row
told_text (Ok Absent) = codes "absent"
told_text (Err r) = refused_text (number r) (names r)
