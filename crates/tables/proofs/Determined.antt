-- The bucket view is determined. Assumes nothing.
use mathlib.Core.Path.{sym, ◌∙◌}
use Rattle.tables.specs.Determined.{ViewDetermined}

pub view_determined : ViewDetermined
view_determined keys b i r r' v v' = (v.rows ∙ sym v'.rows, v.own ∙ sym v'.own)
