-- `splits::split::parent_len` meets its contract: a split's first row stands before the split, so it is one of the
-- table's, and the row after its last is not row 0. Assumes nothing.
use native.Mathlib.Omega.{arith}
use borrow.Author.Tests.{lt-ltb, le-ltb}
use Rattle.std.proofs.Common.{◌≡◌, ◌∙◌, cond, ltb, length}
use Rattle.tables.specs.Inner.{listing}
use Rattle.splits.specs.Splits.{len}
use Rattle.splits.proofs.Parents.{ends_apart, parent_by}
use Rattle.splits.proofs.split.parent_len.Goals.{then-first-eq0, else-first-eq0, then-end-rows, else-end-rows}
use Rattle.splits.proofs.split.parent_len.Goals as goal

pub len_at-of_first-requires : goal.len_at-of_first-requires
len_at-of_first-requires c =
    let s = c.requires.rising in
    let apart = ends_apart (listing c.args.rows.now) s.table c.args.m s.split.pos s.split.small in
    record { pos = omega arith; small = omega arith }

pub len_at-of_end-requires : goal.len_at-of_end-requires
len_at-of_end-requires c =
    let s = c.requires.rising in
    let apart = ends_apart (listing c.args.rows.now) s.table c.args.m s.split.pos s.split.small in
    record { pos = omega arith; small = omega arith }

pub returns : goal.returns
returns c =
    let T = listing c.args.rows.now in
    let first = c.from-first.result in
    let end = c.from-end.result in
    let of_first : c.if-first-eq0.of_first ≡ cond (ltb 0 first) (len T first) 0 =
    elim c.if-first-eq0.branch [
      | then-first-eq0 w ↦ rw (le-ltb 0 first (omega arith)) w.of_first-is
      | else-first-eq0 w ↦ rw (lt-ltb 0 first (omega arith)) (w.of_first-is ∙ w.len_at-of_first.ensures)
    ] in
    let of_end : c.if-end-rows.of_end ≡ cond (ltb end (length T)) (len T end) 0 =
    elim c.if-end-rows.branch [
      | then-end-rows w ↦ rw (lt-ltb end (length T) (omega arith)) (w.of_end-is ∙ w.len_at-of_end.ensures)
      | else-end-rows w ↦ rw (le-ltb end (length T) (omega arith)) w.of_end-is
    ] in
    cc (parent_by T c.args.m c.requires.rising.split.pos)
