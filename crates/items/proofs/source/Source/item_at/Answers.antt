-- `items::source::Source::item_at` meets its contract, map by map. Assumes nothing.
use native.Mathlib.Omega.{arith}
use Rattle.tables.specs.Delimiters.{delimiters}
use Rattle.items.specs.Items.{items_of}
use Rattle.items.proofs.Values.{prefix_is}
use Rattle.items.proofs.Handling.{handle_is}
use Rattle.items.proofs.Sources.{known_in, keys_read, asked_keys, asked_prefixes, asked_handles}
use Rattle.items.proofs.source.Source.item_at.Goals as goal

pub offset_bounds-self-i : goal.offset_bounds-self-i
offset_bounds-self-i c =
    let k = asked_keys c.in-Keys.is (known_in c.args.self.now, c.requires) in omega arith

pub bounds-self-i : goal.bounds-self-i
bounds-self-i c =
    (asked_keys c.in-Keys.is (known_in c.args.self.now, c.requires)).1

pub prefix_at-requires : goal.prefix_at-requires
prefix_at-requires c = asked_prefixes c.in-Prefixes.is (known_in c.args.self.now, c.requires)

pub handle_at-requires : goal.handle_at-requires
handle_at-requires c = asked_handles c.in-Handles.is (known_in c.args.self.now, c.requires)

pub returns-in-Keys : goal.returns-in-Keys
returns-in-Keys c =
    let s = c.args.self.now in
    keys_read s.rows.b s.rows.keys.now c.args.i c.in-Keys.is

pub returns-in-Prefixes : goal.returns-in-Prefixes
unfolding items_of
returns-in-Prefixes c =
    let s = c.args.self.now in
    let is = c.in-Prefixes.is in
    rw (is, prefix_is s.rows.b s.rows.keys.now c.args.i (asked_prefixes is (known_in c.args.self.now, c.requires)).1)
    c.prefix_at.ensures

pub returns-in-Handles : goal.returns-in-Handles
unfolding items_of
returns-in-Handles c =
    let s = c.args.self.now in
    let is = c.in-Handles.is in
    rw (is, handle_is (delimiters s.rows.b s.rows.keys.now) c.args.i (asked_handles is (known_in c.args.self.now, c.requires)).1)
    c.handle_at.ensures
