-- `full::build_maps` meets its contract: what was judged has room for all maps. Assumes nothing.
use mathlib.Core.Path.{◌≡◌, refl, ◌∙◌}
use native.Mathlib.Omega.{arith}
use Rattle.std.proofs.Common.{ℕ, true, Result, Ok, Err, is_ok}
use Rattle.call.specs.Inner.{KeysBuilt, PrefixesBuilt}
use Rattle.full.proofs.Building.{buildable, storable_table, third_jams}
use Rattle.full.proofs.build_maps.Goals as goal

pub build_keys-requires : goal.build_keys-requires
build_keys-requires c = buildable c.requires refl refl

pub build_prefixes-requires : goal.build_prefixes-requires
build_prefixes-requires c = buildable c.requires c.build_keys.auto.cells c.build_keys.auto.work

pub build_stores-requires : goal.build_stores-requires
build_stores-requires c =
    rw (c.new-table.ensures.table, c.new-table.ensures.size)
    (storable_table c.requires (c.build_prefixes.auto.work ∙ c.build_keys.auto.work))

ok_told : (r : Result (Unit {0}) ℕ) → is_ok r ≡ true → r ≡ Ok tt
ok_told (Ok done) e = refl
ok_told (Err size) e = cc

pub returns-in_err-map_err-3 : goal.returns-in_err-map_err-3
returns-in_err-map_err-3 c =
    let a = c.args in
    let one : c.build_keys.result ≡ Ok tt = grind (arith, ok_told) in
    let two : c.build_prefixes.result ≡ Ok tt = grind (arith, ok_told) in
    let k = c.build_keys.new in
    let p = c.build_prefixes.new in
    let B₁ : KeysBuilt a.rows.now.keys.now a.rows.now.b a.seed1 a.cells.now a.work.now (Ok tt) k.cells k.work =
    rw one at c.build_keys.ensures in
    let B₂ : PrefixesBuilt a.rows.now.keys.now a.rows.now.b a.seed2 k.cells k.work (Ok tt) p.cells p.work =
    rw two at c.build_prefixes.ensures in
    grind (arith, third_jams)
