-- `items::source::Source::count` meets its contract, map by map. Assumes nothing.
use mathlib.Core.Path.{sym, ◌∙◌}
use native.Mathlib.Omega.{arith}
use Rattle.tables.specs.Delimiters.{delimiters}
use Rattle.items.specs.Items.{items_of}
use Rattle.items.proofs.Values.{length_prefixes}
use Rattle.items.proofs.Handling.{length_handles, delimiters_few}
use Rattle.items.proofs.Sources.{known_in, keys_counted, known_prefixes, known_handles}
use Rattle.items.proofs.source.Source.count.Goals as goal

pub bucket_count-requires : goal.bucket_count-requires
bucket_count-requires c =
    let k = known_prefixes c.in-Prefixes.is (known_in c.args.self.now) in
    (omega arith, k.most, k.few)

pub returns-in-Keys : goal.returns-in-Keys
returns-in-Keys c = keys_counted c.in-Keys.is (known_in c.args.self.now)

pub returns-in-Prefixes : goal.returns-in-Prefixes
unfolding items_of
returns-in-Prefixes c =
    let s = c.args.self.now in
    let is = c.in-Prefixes.is in
    let k = known_prefixes is (known_in s) in
    rw is (c.bucket_count.ensures.0 ∙ sym (length_prefixes s.rows.b s.rows.keys.now), omega arith)

pub returns-in-Handles : goal.returns-in-Handles
unfolding items_of
returns-in-Handles c =
    let s = c.args.self.now in
    let is = c.in-Handles.is in
    let k = known_handles is (known_in s) in
    let D = delimiters s.rows.b s.rows.keys.now in
    let few = delimiters_few s.rows.b s.rows.keys.now s.left.now s.right.now k in
    rw is (omega (arith, length_handles D), omega (arith, length_handles D))
