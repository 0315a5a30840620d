-- `lines::text::expect` meets its contract: what `starts_with` says of what follows i. Assumes nothing.
use native.Mathlib.Omega.{arith}
use mathlib.Core.Path.{refl, sym, ◌∙◌}
use Rattle.std.proofs.lemmas.Slice.Eq.{starts_is}
use Rattle.std.proofs.lemmas.List.{take_rest, drop-drop}
use Rattle.std.proofs.lemmas.Bool.Decides.{Decides-eqb}
use Rattle.lines.specs.Lines.{Expects}
use Rattle.lines.proofs.text.expect.Goals as goal

pub returns-then-s-i : goal.returns-then-s-i
unfolding Expects
returns-then-s-i c = λ rest f. omega arith

pub returns-then-starts_with : goal.returns-then-starts_with
unfolding Expects
returns-then-starts_with c =
    let s = starts_is Decides-eqb _ c.args.t.now _ c.starts_with.ensures.value in
    record { from = (omega arith, sym (take_rest c.args.s.now c.args.i) ∙ s.0 c.if-starts_with.true ∙ rw (take_rest, drop-drop)); to = refl }

pub returns-else-starts_with : goal.returns-else-starts_with
unfolding Expects
returns-else-starts_with c =
    λ rest f.
    let s = starts_is Decides-eqb _ c.args.t.now _ c.starts_with.ensures.value in
    let e = s.1 rest (take_rest c.args.s.now c.args.i ∙ f.1) in cc
